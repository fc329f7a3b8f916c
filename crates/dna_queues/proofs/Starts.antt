-- Messages of phases before RUN, which a link sends although its phase is past: they change nothing, and it could send them before it went on.
use Rattle.dna_queues.proofs.Prelude.{◌≡◌, ℕ, Bool, true, false, not, ◌&&◌, ◌||◌, Option, is_none, List, [], ◌∷◌, refl, sym, ap, ap₂, ◌∙◌, subst}
use Rattle.dna_queues.proofs.Prelude.{and_parts, NspValue, ConnectAck, NoOperation, ConnectInitiate, ConnectConfirm, DisconnectInitiate}
use Rattle.dna_queues.proofs.Prelude.{DisconnectConfirm, Phase, Disconnecting, With, is_in, is_live, is_at, has_both, Carried, in_use, is_silent}
use Rattle.dna_queues.proofs.Goes.{Link, phase_of, Goes, use_own, use_far, use_opened}
use Rattle.dna_queues.proofs.{Turns.asks, Turns.is_past, Early.CanGo, Early.AreEarly, Moved.may_be}

-- this link goes on to that one
pub record Starts (l k : Link) : Type 0 where
  pub live : is_live (phase_of l) ≡ true
  pub own : l.port.own ≡ k.port.own
  pub opened : l.port.opened ≡ k.port.opened
  pub far : k.port.opened ≡ false → l.port.far ≡ k.port.far
  pub accepted : l.queue.accepted ≡ k.queue.accepted
  pub said : l.queue.said ≡ k.queue.said
  pub only : k.port.opened ≡ true → k.queue.accepted ≡ false

module _ (l k : Link) (starts : Starts l k) where
  own_before : (n : ℕ) → is_at (in_use With k).own n ≡ true → is_at (in_use With l).own n ≡ true
  own_before n e = ap (λ (o : Option ℕ). is_at o n) (use_own l ∙ starts.own ∙ sym (use_own k)) ∙ e

  far_before : k.port.opened ≡ false → (n : ℕ) → is_at (in_use With k).far n ≡ true → is_at (in_use With l).far n ≡ true
  far_before called n e = ap (λ (o : Option ℕ). is_at o n) (use_far l ∙ starts.far called ∙ sym (use_far k)) ∙ e

  opened_before : (in_use With l).opened ≡ (in_use With k).opened
  opened_before = use_opened l ∙ starts.opened ∙ sym (use_opened k)

  called : (b : Bool) → k.port.opened ≡ b → k.queue.accepted ≡ true → k.port.opened ≡ false
  called false e accepted = e
  called true e accepted = let x : true ≡ false = sym accepted ∙ starts.only e in absurd cc

  pub start_goes : (m : NspValue) (y : Link) (now : Phase) → is_in Disconnecting now ≡ false → (is_none (asks m) || is_past (asks m) now) ≡ true →
      Goes k m y → Goes l m l × (y ≡ k)
  start_goes (ConnectInitiate retransmitted src services info segsize user_data) y now before may g =
      let a = and_parts (is_live (phase_of k)) ((in_use With k).opened && is_at (in_use With k).own src) g.passed in
      let b = and_parts (in_use With k).opened (is_at (in_use With k).own src) a.1 in (
        record {
          passed = ap₂ (λ (x z : Bool). x && z) starts.live
              (ap₂ (λ (x z : Bool). x && z) (opened_before ∙ b.0) (own_before src b.1));
          moves = (ap is_silent starts.said ∙ g.moves.0, refl);
        },
        g.moves.1,
      )
  start_goes (ConnectAck dst) y now before may g =
      let a = and_parts (is_live (phase_of k)) (not (in_use With k).opened && is_at (in_use With k).far dst) g.passed in
      let b = and_parts (not (in_use With k).opened) (is_at (in_use With k).far dst) a.1 in (
        record {
          passed = ap₂ (λ (x z : Bool). x && z) starts.live
              (ap₂ (λ (x z : Bool). x && z) (ap not opened_before ∙ b.0) (far_before (sym (use_opened k) ∙ is_not _ b.0) dst b.1));
          moves = refl;
        },
        g.moves,
      )
    where
      is_not : (b : Bool) → not b ≡ true → b ≡ false
      is_not false e = refl
      is_not true e = absurd cc
  start_goes (ConnectConfirm dst src services info segsize user_data) y now before may g =
      let a = and_parts (is_live (phase_of k)) (has_both (in_use With k) src dst) g.passed in
      let b = and_parts (is_at (in_use With k).own src) (is_at (in_use With k).far dst) a.1 in
      let c = and_parts k.queue.accepted (is_silent k.queue.said) g.moves.0 in (
        record {
          passed = ap₂ (λ (x z : Bool). x && z) starts.live
              (ap₂ (λ (x z : Bool). x && z) (own_before src b.0) (far_before (called _ refl c.0) dst b.1));
          moves = (ap₂ (λ (x z : Bool). x && z) (starts.accepted ∙ c.0) (ap is_silent starts.said ∙ c.1), refl);
        },
        g.moves.1,
      )
  start_goes (DisconnectInitiate dst src reason user_data) y now before may g = absurd cc
  start_goes (DisconnectConfirm dst src reason) y now before may g = absurd cc
  start_goes (NoOperation rest) y now before may g = absurd cc
  start_goes m y now before may g = let x : true ≡ false = sym may ∙ before in absurd cc

  pub started_before : (node peer : ℕ) (packets : List Carried) (now : Phase) (P : Link → Type 0) → is_in Disconnecting now ≡ false →
      AreEarly now packets → CanGo node peer packets k P → CanGo node peer packets l (λ x. (x ≡ l) × P k)
  started_before node peer [] now P before early can = (refl, can)
  started_before node peer (packet ∷ packets) now P before early can =
      let e = may_be now packet packets early in
      let g = start_goes packet.message can.1 now before e.0 can.2 in (
        can.0,
        l,
        g.0,
        started_before node peer packets now P before e.1 (subst (λ (x : Link). CanGo node peer packets x P) g.1 can.3),
      )
