-- Messages that a link sends one after another, those of them that have to be composed before its phase, and those that it can compose in it.
use Rattle.dna_queues.proofs.Prelude.{◌≡◌, ℕ, Bool, true, false, ◌&&◌, ◌||◌, ◌==◌, Option, Some, None, is_none, List, [], ◌∷◌, ◌++◌, refl, sym, ap}
use Rattle.dna_queues.proofs.Prelude.{◌∙◌, subst, inl, inr, NspValue, IsInRange, Phase, Calling, Called, Confirming, Running, Disconnecting}
use Rattle.dna_queues.proofs.Prelude.{Carried, or_right, or_cases}
use Rattle.dna_queues.proofs.Goes.{Link, phase_of, Goes}
use Rattle.dna_queues.proofs.{Shapes.Shape, Shapes.goes_shape, Facts.by_test, Facts.not_both}
use Rattle.dna_queues.proofs.Turns.{asks, is_past, is_now, is_in_same, Sane, sane_on, turn, HasSaid, said_on, said_now, nothing_past}
use Rattle.dna_queues.proofs.Turns.{has_past, IsMute, mute_never, mute_on}

-- what has to be composed before this phase, with what stands before it: the last of it is of a phase that is past
abbrev pub is_early : Phase → Carried → Bool
is_early now packet = is_past (asks packet.message) now

abbrev pub may_be_early : Phase → Carried → Bool
may_be_early now packet = is_none (asks packet.message) || is_early now packet

abbrev pub AreEarly : Phase → List Carried → Type 0
AreEarly now [] = Unit {0}
AreEarly now (packet ∷ []) = is_early now packet ≡ true
AreEarly now (packet ∷ next ∷ packets) = (may_be_early now packet ≡ true) × AreEarly now (next ∷ packets)

-- each can be composed in this phase
abbrev pub AreNow : Phase → List Carried → Type 0
AreNow now [] = Unit {0}
AreNow now (packet ∷ packets) = (is_now (asks packet.message) now ≡ true) × AreNow now packets

module _ (node peer : ℕ) where
  pub record MayGo (packet : Carried) : Type 0 where
    pub goes : (packet.src == node && packet.dst == peer) ≡ true
    pub small : IsInRange packet.message

  -- these can go one after another, and what then is left is so
  abbrev pub CanGo : List Carried → Link → (Link → Type 0) → Type 0
  CanGo [] l P = P l
  CanGo (packet ∷ packets) l P = MayGo packet × (x : Link) × Goes l packet.message x × CanGo packets x P

  pub can_so : (packets : List Carried) (l : Link) (P Q : Link → Type 0) → ((x : Link) → P x → Q x) → CanGo packets l P → CanGo packets l Q
  can_so [] l P Q so can = so l can
  can_so (packet ∷ packets) l P Q so can = (can.0, can.1, can.2, can_so packets can.1 P Q so can.3)

  pub record Ends (packets : List Carried) (l : Link) (P : Link → Type 0) : Type 0 where
    pub left : Link
    pub can : CanGo packets l (λ x. x ≡ left)
    pub is : P left

  pub ends : (packets : List Carried) (l : Link) (P : Link → Type 0) → CanGo packets l P → Ends packets l P
  ends [] l P can = record { left = l; can = refl; is = can }
  ends (packet ∷ packets) l P can =
      let r = ends packets can.1 P can.3 in record { left = r.left; can = (can.0, can.1, can.2, r.can); is = r.is }

  same_phase : (l x : Link) → Shape l x → phase_of x ≡ phase_of l
  same_phase l x s = ap phase_of s.is

  -- where nothing past can go, whatever goes, nothing is early
  module _ (Q : Link → Type 0) (never : (l x : Link) (m : NspValue) → Q l → Goes l m x → is_past (asks m) (phase_of l) ≡ true → ⊥)
      (on : (l x : Link) → Q l → Shape l x → Q x) where
    pub no_early : (packets : List Carried) (l : Link) (P : Link → Type 0) → Q l → AreEarly (phase_of l) packets → CanGo packets l P → packets ≡ []
    no_early [] l P so early can = refl
    no_early (packet ∷ []) l P so early can = absurd (never l can.1 packet.message so can.2 early)
    no_early (packet ∷ next ∷ packets) l P so early can =
        let s = goes_shape l can.1 packet.message can.2 in
        let none = no_early (next ∷ packets) can.1 P (on l can.1 so s)
        (subst (λ (p : Phase). AreEarly p (next ∷ packets)) (sym (same_phase l can.1 s)) early.1) can.3 in absurd cc

  -- so it is where all of its phase is said
  pub none_early : (packets : List Carried) (l : Link) (P : Link → Type 0) → HasSaid l → AreEarly (phase_of l) packets → CanGo packets l P →
      packets ≡ []
  none_early packets l P said early can = no_early HasSaid nothing_past said_on packets l P said early can

  -- before RUN
  pub none_before : (packets : List Carried) (l : Link) (P : Link → Type 0) → has_past (phase_of l) ≡ false → AreEarly (phase_of l) packets →
      CanGo packets l P → packets ≡ []
  none_before packets l P before early can = no_early (λ x. has_past (phase_of x) ≡ false)
      (λ x y m b g past. not_past (asks m) (phase_of x) b past)
      (λ x y b s. ap has_past (same_phase x y s) ∙ b) packets l P before early can
    where
      not_past : (a : Option Phase) (p : Phase) → has_past p ≡ false → is_past a p ≡ true → ⊥
      not_past a Called b past = absurd cc
      not_past (Some Calling) p b past = not_both _ past b
      not_past (Some Confirming) p b past = not_both _ past b
      not_past (Some Running) Disconnecting b past = absurd cc
      not_past a p b past = absurd cc

  -- and of a call that was refused
  pub none_refused : (packets : List Carried) (l : Link) (P : Link → Type 0) → IsMute l → AreEarly (phase_of l) packets → CanGo packets l P →
      packets ≡ []
  none_refused packets l P mute early can = no_early IsMute mute_never mute_on packets l P mute early can

  -- what can go is what has to be composed before this phase, and then what can be composed in it
  pub record Parts (packets : List Carried) (l : Link) (P : Link → Type 0) : Type 0 where
    pub before : List Carried
    pub now : List Carried
    pub is : packets ≡ before ++ now
    pub early : AreEarly (phase_of l) before
    pub timely : AreNow (phase_of l) now
    pub can : CanGo before l (λ x. CanGo now x P)

  module _ (packet : Carried) (packets : List Carried) (l x : Link) (P : Link → Type 0) (sane : Sane l) (may : MayGo packet)
      (goes : Goes l packet.message x) (r : Parts packets x P) where
    same : phase_of x ≡ phase_of l
    same = same_phase l x (goes_shape l x packet.message goes)

    first_early : is_early (phase_of l) packet ≡ true → (before : List Carried) → r.before ≡ before → Parts (packet ∷ packets) l P
    first_early past before e = record {
      before = packet ∷ r.before;
      now = r.now;
      is = ap (λ (us : List Carried). packet ∷ us) r.is;
      early = go before e;
      timely = subst (λ (p : Phase). AreNow p r.now) same r.timely;
      can = (may, x, goes, r.can);
    }
      where
        go : (before : List Carried) → r.before ≡ before → AreEarly (phase_of l) (packet ∷ r.before)
        go [] e = subst (λ (us : List Carried). AreEarly (phase_of l) (packet ∷ us)) (sym e) past
        go (next ∷ others) e =
            subst (λ (us : List Carried). AreEarly (phase_of l) (packet ∷ us)) (sym e) (
              or_right (is_none (asks packet.message)) (is_early (phase_of l) packet) past,
              subst (λ (us : List Carried). AreEarly (phase_of l) us) e (subst (λ (p : Phase). AreEarly p r.before) same r.early),
            )

    first_now : is_now (asks packet.message) (phase_of l) ≡ true → (before : List Carried) → r.before ≡ before → Parts (packet ∷ packets) l P
    first_now stands [] e = record {
      before = [];
      now = packet ∷ r.now;
      is = ap (λ (us : List Carried). packet ∷ us) (r.is ∙ ap (λ (us : List Carried). us ++ r.now) e);
      early = tt;
      timely = (stands, subst (λ (p : Phase). AreNow p r.now) same r.timely);
      can = (may, x, goes, subst (λ (us : List Carried). CanGo us x (λ y. CanGo r.now y P)) e r.can);
    }
    first_now stands (next ∷ others) e = by_phase (asks packet.message) refl
      where
        early : AreEarly (phase_of l) (next ∷ others)
        early = subst (λ (us : List Carried). AreEarly (phase_of l) us) e (subst (λ (p : Phase). AreEarly p r.before) same r.early)

        by_phase : (a : Option Phase) → asks packet.message ≡ a → Parts (packet ∷ packets) l P
        by_phase None none = record {
          before = packet ∷ r.before;
          now = r.now;
          is = ap (λ (us : List Carried). packet ∷ us) r.is;
          early = subst (λ (us : List Carried). AreEarly (phase_of l) (packet ∷ us)) (sym e) (
            ap (λ (a : Option Phase). is_none a || is_past a (phase_of l)) none,
            early,
          );
          timely = subst (λ (p : Phase). AreNow p r.now) same r.timely;
          can = (may, x, goes, r.can);
        }
        by_phase (Some phase) some =
            let said = said_now l x packet.message phase some
            (is_in_same phase (phase_of l) (sym (ap (λ (a : Option Phase). is_now a (phase_of l)) some) ∙ stands)) goes in
            let none = none_early r.before x (λ y. CanGo r.now y P) said r.early r.can in
            let never : next ∷ others ≡ [] = sym e ∙ none in absurd cc

    pub parts_on : Parts (packet ∷ packets) l P
    parts_on = by_test (is_early (phase_of l) packet) (λ past. first_early past _ refl)
        (λ not_past. first_now (elim (or_cases (is_now (asks packet.message) (phase_of l)) _ (turn l sane packet.message x goes)) [
          | inl now ↦ now
          | inr past ↦ absurd (not_both _ past not_past)
        ]) _ refl)

  pub parts : (packets : List Carried) (l : Link) (P : Link → Type 0) → Sane l → CanGo packets l P → Parts packets l P
  parts [] l P sane can = record { before = []; now = []; is = refl; early = tt; timely = tt; can = can }
  parts (packet ∷ packets) l P sane can =
      parts_on packet packets l can.1 P sane can.0 can.2
      (parts packets can.1 P (sane_on l sane can.1 (goes_shape l can.1 packet.message can.2)) can.3)
