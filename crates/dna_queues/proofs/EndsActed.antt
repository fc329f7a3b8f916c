-- A packet that ends its link, or finds no live one, is acted on.
use Rattle.dna_queues.proofs.Prelude.{◌≡◌, ℕ, Bool, true, false, ◌||◌, cond, Some, Ok, refl, sym, ap, ◌∙◌, subst, slice_get, and_parts}
use Rattle.dna_queues.proofs.Prelude.{false_from_ne_true, same_Some, NspValue, DataSegment, LinkService, DataAck, OtherDataAck, ConnectConfirm}
use Rattle.dna_queues.proofs.Prelude.{DisconnectInitiate, DisconnectConfirm, CrossedLink, Phase, Calling, Port, LinkTest, TheLink, CallingAt}
use Rattle.dna_queues.proofs.Prelude.{ActedOn, Without, passes, is_in, is_live, is_at, is_connected, has_both, LinkTruth, check, with_link, changed}
use Rattle.dna_queues.proofs.Prelude.{of_partner, is_for, is_of_pair, message_arrived, Numbers, takes_segment, takes_acks, late_segments, Links}
use Rattle.dna_queues.proofs.Prelude.{dstaddr}
use Rattle.dna_queues.proofs.Facts.{calling_live, connected_live, dead_phase, not_both}
use Rattle.dna_queues.proofs.Acting.{ended_late, confirmed_late, run_late}
use Rattle.dna_queues.proofs.Arrivals.{calling_owns, acted_owns, row_made, either, either_made}
use Rattle.dna_queues.proofs.LinkLists.{IsUnique, IsChanged, changed_so}
use Rattle.dna_queues.proofs.{Hide.LateLink, Timed.is_end}

-- it ends the link with this address, if that is live
abbrev pub EndsAt : Links → ℕ → NspValue → Type 0
EndsAt s address m = (i : ℕ) (h : LateLink) → slice_get s.links i ≡ Some h → is_at h.port.own address ≡ true → is_live h.port.phase ≡ true →
    is_end m h.port ≡ true

pub dead_late : (h : LateLink) → is_live h.port.phase ≡ false → h ≡ ended_late h
dead_late h e = ap (λ (p : Phase). record h { port = record h.port { phase = p } }) (dead_phase h.port.phase e)

module _ (s : Links) (unique : IsUnique s) (address : ℕ) (truth : LinkTruth Numbers) where
  pub record ActsSo (m : NspValue) : Type 0 where
    pub links : Links
    pub does : message_arrived Without late_segments of_partner s m truth ≡ Ok links
    pub changed : IsChanged s links address ended_late

  -- one that ends no link, and so finds no live one
  module _ (m : NspValue) (ends : EndsAt s address m) (never : (p : Port) → is_end m p ≡ false) where
    dead : (i : ℕ) (h : LateLink) → slice_get s.links i ≡ Some h → is_at h.port.own address ≡ true → is_live h.port.phase ≡ false
    dead i h at own = false_from_ne_true _ (λ e. not_both _ (ends i h at own e) (never h.port))

    acts_not : (test : LinkTest) → ((p : Port) → passes test p ≡ true → is_at p.own address ≡ true) →
        ((p : Port) → passes test p ≡ true → is_live p.phase ≡ true) → (may : ℕ → LateLink → Bool) (f : LateLink → LateLink) →
        message_arrived Without late_segments of_partner s m truth
        ≡ with_link test s (Ok s) (λ n l. check (may n l) CrossedLink (Ok (changed n (f l) s))) → ActsSo m
    acts_not test owns live may f row_is =
        let r = row_made s unique address test owns CrossedLink may f
        (λ n l found. absurd (not_both _ (live l.port found.passed) (dead n l found.there (owns l.port found.passed)))) in
        record {
          links = r.left;
          does = row_is ∙ r.is;
          changed = changed_so s r.left address _ ended_late r.changed
              (λ i h at own. ap (λ (b : Bool). cond b (f h) h) (fails i h at own) ∙ dead_late h (dead i h at own));
        }
      where
        fails : (i : ℕ) (h : LateLink) → slice_get s.links i ≡ Some h → is_at h.port.own address ≡ true → passes test h.port ≡ false
        fails i h at own = false_from_ne_true _ (λ e. not_both _ (live h.port e) (dead i h at own))

    acts_run : (own far : ℕ) → own ≡ address → (f : LateLink → LateLink) →
        message_arrived Without late_segments of_partner s m truth ≡ with_link (ActedOn own far) s (Ok s)
        (λ n l. check (is_of_pair n l.partner truth.tag) CrossedLink (Ok (changed n (f l) s))) → ActsSo m
    acts_run own far same f row_is =
        acts_not (ActedOn own far) (λ p e. subst (λ (n : ℕ). is_at p.own n ≡ true) same (acted_owns own far p e))
        (λ p e. connected_live p.phase (and_parts (is_connected p.phase) (has_both p own far) e).0) (λ n l. is_of_pair n l.partner truth.tag) f row_is

  -- one that ends it
  acts_end : (m : NspValue) (dst src : ℕ) (same : dst ≡ address) → EndsAt s address m →
      ((p : Port) → is_end m p ≡ (passes (TheLink dst src) p || passes (CallingAt dst) p)) →
      message_arrived Without late_segments of_partner s m truth ≡ either s unique address dst src same ended_late → ActsSo m
  acts_end m dst src same ends is row_is =
      let r = either_made s unique address dst src same ended_late in
      record {
        links = r.left;
        does = row_is ∙ r.is;
        changed = changed_so s r.left address _ ended_late r.changed
            (λ i h at own. ended h (passes (TheLink dst src) h.port || passes (CallingAt dst) h.port)
            (λ live. sym (is h.port) ∙ ends i h at own live));
      }
    where
      ended : (h : LateLink) (b : Bool) → (is_live h.port.phase ≡ true → b ≡ true) → cond b (ended_late h) h ≡ ended_late h
      ended h true passed = refl
      ended h false passed = dead_late h (false_from_ne_true _ (λ e. not_both false (passed e) refl))

  pub acts_one : (m : NspValue) → dstaddr m ≡ Some address → EndsAt s address m → ActsSo m
  acts_one (ConnectConfirm dst src services info segsize user_data) is ends =
      let same = same_Some dst address is in
      acts_not _ ends (λ p. refl) (CallingAt dst) (λ p e. subst (λ (n : ℕ). is_at p.own n ≡ true) same (calling_owns dst p e))
      (λ p e. calling_live p.phase (and_parts (is_in Calling p.phase) (is_at p.own dst) e).0) (λ n l. is_for n truth.tag)
      (confirmed_late src segsize truth.tag.link) refl
  acts_one (DisconnectInitiate dst src reason user_data) is ends =
      acts_end _ dst src (same_Some dst address is) ends (λ p. refl) refl
  acts_one (DisconnectConfirm dst src reason) is ends = acts_end _ dst src (same_Some dst address is) ends (λ p. refl) refl
  acts_one (DataSegment g) is ends =
      acts_run _ ends (λ p. refl) g.dstaddr g.srcaddr (same_Some g.dstaddr address is)
      (λ l. run_late (takes_segment g truth.known l.segments.segments) l) refl
  acts_one (DataAck dst src acks) is ends =
      acts_run _ ends (λ p. refl) dst src (same_Some dst address is) (λ l. run_late (takes_acks acks truth.known l.segments.segments) l) refl
  acts_one (LinkService interrupt dst src rest) is ends =
      acts_run _ ends (λ p. refl) dst src (same_Some dst address is) (λ l. run_late l.segments.segments l) refl
  acts_one (OtherDataAck dst src rest) is ends =
      acts_run _ ends (λ p. refl) dst src (same_Some dst address is) (λ l. run_late l.segments.segments l) refl
  acts_one m is ends = absurd cc
