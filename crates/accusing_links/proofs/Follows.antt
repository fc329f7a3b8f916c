-- What becomes of a link of which it is known that its last acknowledgement sent is at least a number: it gets the far address that is asked of by no
-- effect of a row, and what is known stays so as long as it may yet send what has numbers.
use Rattle.accusing_links.proofs.Prelude.{◌≡◌, ℕ, Bool, true, false, ◌&&◌, ◌||◌, not, Option, Some, None, List, [], ◌∷◌, fold, refl, sym, subst, ap}
use Rattle.accusing_links.proofs.Prelude.{◌∙◌, Phase, Called, Disconnecting, Port, Queues, Without, With, Said, Nothing, OfRun, Disconnect, is_live}
use Rattle.accusing_links.proofs.Prelude.{is_in, LinkOf, LinkTruth, keeps_numbers, has_waiting, is_over, further, goes_on, goes_to, ends_by_message}
use Rattle.accusing_links.proofs.Prelude.{drops, requeued, lets_go, booted_link, forgotten, drops_segments, Effect, OpenHere, GiveAddress, Connect}
use Rattle.accusing_links.proofs.Prelude.{GoTo, End, Drop, EndAll, Say, Settle, Keep, HandIn, TakeSegment, TakeAcks, WireSegments, wire_segments}
use Rattle.accusing_links.proofs.Prelude.{does}
use Rattle.dna_links.specs.Queues.{call_of}
use Rattle.accusing_links.proofs.{Received.Received, Received.acks_received, Each.Each}
use Rattle.accusing_links.proofs.Ports.{dropped_port, forgotten_port, booted_port}

-- a link may yet send what has numbers
abbrev pub keeps : Queues → LinkOf WireSegments → Bool
keeps Without l = is_live l.port.phase
keeps With l = keeps_numbers l

pub or_first : (a b : Bool) → a ≡ true → (a || b) ≡ true
or_first true b e = refl
or_first false b e = absurd cc

pub or_second : (a b : Bool) → b ≡ true → (a || b) ≡ true
or_second true b e = refl
or_second false b e = e

or_none : (a : Bool) → (a || false) ≡ true → a ≡ true
or_none true e = refl
or_none false e = absurd cc

or_more : (a b c : Bool) → (b ≡ true → c ≡ true) → (a || b) ≡ true → (a || c) ≡ true
or_more true b c more e = refl
or_more false b c more e = more e

pub live_keeps : (q : Queues) (l : LinkOf WireSegments) → is_live l.port.phase ≡ true → keeps q l ≡ true
live_keeps Without l e = e
live_keeps With l e = or_first (is_live l.port.phase) (has_waiting l.queue.waits l.queue.said) e

-- the links with this far address; one of them is known that has this own address
module _ (queues : Queues) (own far least : ℕ) (Q : ℕ → Type 0) where
  pub record IsPast (l : LinkOf WireSegments) : Type 0 where
    pub begun : is_in Called l.port.phase ≡ false
    pub received : l.port.own ≡ Some own → Received least Q l.segments

  abbrev pub IsKnown : LinkOf WireSegments → Type 0
  IsKnown l = l.port.far ≡ Some far → keeps queues l ≡ true → IsPast l

  pub record Follows (before after : LinkOf WireSegments) : Type 0 where
    pub to : after.port.far ≡ Some far → before.port.far ≡ Some far
    pub known : IsKnown before → IsKnown after

  pub follows_itself : (l : LinkOf WireSegments) → Follows l l
  follows_itself l = record { to = λ e. e; known = λ k. k }

  pub follows_on : (l m n : LinkOf WireSegments) → Follows l m → Follows m n → Follows l n
  follows_on l m n one two = record { to = λ e. one.to (two.to e); known = λ k. two.known (one.known k) }

  -- its segments change
  let_go : (before now : Bool) (f : WireSegments) → now ≡ true → Received least Q f → Received least Q (lets_go wire_segments before now f)
  let_go true false f e is = absurd cc
  let_go true true f e is = is
  let_go false now f e is = is

  -- ---- phases

  pub goes_follows : (q : Queues) → q ≡ queues → (phase : Phase) (l : LinkOf WireSegments) → is_in Called phase ≡ false →
      is_live l.port.phase ≡ true → Follows l (goes_to wire_segments q phase l)
  goes_follows Without at phase l late live = record {
    to = λ e. e;
    known = λ k e g.
        let was = k e (subst (λ (x : Queues). keeps x l ≡ true) at (live_keeps Without l live)) in
        record { begun = late; received = was.received };
  }
  goes_follows With at phase l late live = go (is_live l.port.phase) live
    where
      go : (b : Bool) → b ≡ true → Follows l (goes_on wire_segments b phase l)
      go true e = record {
        to = λ e. e;
        known = λ k e g.
            let was = k e (subst (λ (x : Queues). keeps x l ≡ true) at (live_keeps With l live)) in
            record { begun = late; received = was.received };
      }
      go false e = absurd cc

  -- a live link ends
  pub ends_follows : (q : Queues) → q ≡ queues → (l : LinkOf WireSegments) → is_live l.port.phase ≡ true →
      Follows l (ends_by_message wire_segments q l)
  ends_follows Without at l live = record {
    to = λ e. e;
    known = λ k e g.
        let no : keeps Without (ends_by_message wire_segments Without l) ≡ true =
        subst (λ (x : Queues). keeps x (ends_by_message wire_segments Without l) ≡ true) (sym at) g in
        absurd cc;
  }
  ends_follows With at l live = record {
    to = λ e. e;
    known = λ k e g.
        let was = k e (subst (λ (x : Queues). keeps x l ≡ true) at (live_keeps With l live)) in
        let may : keeps With (ends_by_message wire_segments With l) ≡ true =
        subst (λ (x : Queues). keeps x (ends_by_message wire_segments With l) ≡ true) (sym at) g in
        record { begun = refl; received = λ o. let_go (keeps_numbers l) _ l.segments may (was.received o) };
  }

  never : {X : Type 0} → true ≡ false → X
  never e = absurd cc

  -- it keeps its segments where it was opened here
  dropped_past : (q : Queues) (l : LinkOf WireSegments) → keeps q (drops wire_segments q l) ≡ true → IsPast l → IsPast (drops wire_segments q l)
  dropped_past Without l g was = never (sym g)
  dropped_past With l g was = record { begun = refl; received = λ o. go l.port.opened g (was.received o) }
    where
      go : (opened : Bool) → has_waiting (call_of opened) l.queue.said ≡ true → Received least Q l.segments →
          Received least Q (drops_segments wire_segments opened l.segments)
      go true g is = is
      go false g is = absurd cc

  pub drops_follows : (q : Queues) → q ≡ queues → (l : LinkOf WireSegments) → keeps q l ≡ true → Follows l (drops wire_segments q l)
  drops_follows q at l kept = record {
    to = λ e. sym (ap (λ (p : Port). p.far) (dropped_port q l)) ∙ e;
    known = λ k e g.
        let may : keeps q (drops wire_segments q l) ≡ true = subst (λ (x : Queues). keeps x (drops wire_segments q l) ≡ true) (sym at) g in
        dropped_past q l may (k (sym (ap (λ (p : Port). p.far) (dropped_port q l)) ∙ e) (subst (λ (x : Queues). keeps x l ≡ true) at kept));
  }

  -- ---- what it has said, and what waits

  requeued_keeps : (q : Queues) (waits : Option Phase) (said : Said) (l : LinkOf WireSegments) →
      (has_waiting waits said ≡ true → has_waiting l.queue.waits l.queue.said ≡ true) →
      keeps q (requeued wire_segments waits said l) ≡ true →
      (keeps q l ≡ true) × ((is_live l.port.phase || has_waiting waits said) ≡ true)
  requeued_keeps Without waits said l more e = (e, or_first (is_live l.port.phase) (has_waiting waits said) e)
  requeued_keeps With waits said l more e =
      (or_more (is_live l.port.phase) (has_waiting waits said) (has_waiting l.queue.waits l.queue.said) more e, e)

  pub requeued_follows : (waits : Option Phase) (said : Said) (l : LinkOf WireSegments) →
      (has_waiting waits said ≡ true → has_waiting l.queue.waits l.queue.said ≡ true) → Follows l (requeued wire_segments waits said l)
  requeued_follows waits said l more = record {
    to = λ e. e;
    known = λ k e g.
        let both = requeued_keeps queues waits said l more g in
        let was = k e both.0 in
        record { begun = was.begun; received = λ o. let_go (keeps_numbers l) _ l.segments both.1 (was.received o) };
  }

  none_waiting : (said : Said) (b : Bool) → has_waiting None said ≡ true → b ≡ true
  none_waiting said b e = absurd cc

  pub settles_follows : (l : LinkOf WireSegments) → Follows l (requeued wire_segments None l.queue.said l)
  settles_follows l = requeued_follows None l.queue.said l (none_waiting l.queue.said _)

  -- a DI that was sent stays so
  still_over : (said before : Said) (phase : Phase) → not (is_over (further said before) && is_in Disconnecting phase) ≡ true →
      not (is_over before && is_in Disconnecting phase) ≡ true
  still_over said Nothing phase e = refl
  still_over said OfRun phase e = refl
  still_over Nothing Disconnect phase e = e
  still_over OfRun Disconnect phase e = e
  still_over Disconnect Disconnect phase e = e

  still_waiting : (waits : Option Phase) (said before : Said) → has_waiting waits (further said before) ≡ true → has_waiting waits before ≡ true
  still_waiting None said before e = absurd cc
  still_waiting (Some phase) said before e = still_over said before phase e

  pub says_follows : (said : Said) (l : LinkOf WireSegments) →
      Follows l (requeued wire_segments l.queue.waits (further said l.queue.said) l)
  says_follows said l = requeued_follows l.queue.waits (further said l.queue.said) l (still_waiting l.queue.waits said l.queue.said)

  -- ---- an address that is given again, or is nobody's

  forgotten_keeps : (q : Queues) (l : LinkOf WireSegments) → keeps q (forgotten wire_segments q l) ≡ true → keeps q l ≡ true
  forgotten_keeps Without l e = e
  forgotten_keeps With l e =
      or_first (is_live l.port.phase) (has_waiting l.queue.waits l.queue.said) (or_none (is_live l.port.phase) e)

  not_given : {X : Type 0} → ◌≡◌ {A = Option ℕ} None (Some own) → X
  not_given e = absurd cc

  pub forgotten_follows : (q : Queues) → q ≡ queues → (l : LinkOf WireSegments) → Follows l (forgotten wire_segments q l)
  forgotten_follows q at l = record {
    to = λ e. sym (ap (λ (p : Port). p.far) (forgotten_port q l)) ∙ e;
    known = λ k e g.
        let far_was = sym (ap (λ (p : Port). p.far) (forgotten_port q l)) ∙ e in
        let may : keeps q (forgotten wire_segments q l) ≡ true =
        subst (λ (x : Queues). keeps x (forgotten wire_segments q l) ≡ true) (sym at) g in
        let was = k far_was (subst (λ (x : Queues). keeps x l ≡ true) at (forgotten_keeps q l may)) in
        record {
          begun = ap (λ (p : Port). is_in Called p.phase) (forgotten_port q l) ∙ was.begun;
          received = λ o. not_given (sym (ap (λ (p : Port). p.own) (forgotten_port q l)) ∙ o);
        };
  }

  booted_keeps : (q : Queues) (l : LinkOf WireSegments) → keeps q (booted_link wire_segments q l) ≡ false
  booted_keeps Without l = refl
  booted_keeps With l = refl

  pub booted_follows : (l : LinkOf WireSegments) → Follows l (booted_link wire_segments queues l)
  booted_follows l = record {
    to = λ e. sym (ap (λ (p : Port). p.far) (booted_port queues l)) ∙ e;
    known = λ k e g. never (sym g ∙ booted_keeps queues l);
  }

  -- ---- effects

  -- after which it follows, whatever it was
  abbrev pub IsCalm : Effect → Type 0
  IsCalm OpenHere = ⊥
  IsCalm (GiveAddress given) = ⊥
  IsCalm (Connect other segsize) = ⊥
  IsCalm (GoTo phase) = ⊥
  IsCalm End = ⊥
  IsCalm Drop = ⊥
  IsCalm (TakeSegment segment) = ⊥
  IsCalm effect = Unit {0}

  abbrev pub AreCalm : List Effect → Type 0
  AreCalm effects = Each IsCalm effects

  pub does_follows : (truth : LinkTruth (Unit {0})) (l : LinkOf WireSegments) (effect : Effect) → IsCalm effect →
      Follows l (does queues wire_segments truth l effect)
  does_follows truth l EndAll calm = follows_itself l
  does_follows truth l (Say said) calm = says_follows said l
  does_follows truth l (Settle given) calm = follows_itself l
  does_follows truth l Keep calm = follows_itself l
  does_follows truth l (HandIn message) calm = record {
    to = λ e. e;
    known = λ k e g. let was = k e (same_keeps queues g) in record { begun = was.begun; received = was.received };
  }
    where
      same_keeps : (q : Queues) → keeps q (does queues wire_segments truth l (HandIn message)) ≡ true → keeps q l ≡ true
      same_keeps Without e = e
      same_keeps With e = e
  does_follows truth l (TakeAcks acks) calm = record {
    to = λ e. e;
    known = λ k e g.
        let was = k e (same_keeps queues g) in
        record { begun = was.begun; received = λ o. acks_received least Q acks l.segments (was.received o) };
  }
    where
      same_keeps : (q : Queues) → keeps q (does queues wire_segments truth l (TakeAcks acks)) ≡ true → keeps q l ≡ true
      same_keeps Without e = e
      same_keeps With e = e
  does_follows truth l OpenHere calm = absurd calm
  does_follows truth l (GiveAddress given) calm = absurd calm
  does_follows truth l (Connect other segsize) calm = absurd calm
  does_follows truth l (GoTo phase) calm = absurd calm
  does_follows truth l End calm = absurd calm
  does_follows truth l Drop calm = absurd calm
  does_follows truth l (TakeSegment segment) calm = absurd calm

  pub all_follow : (truth : LinkTruth (Unit {0})) (l : LinkOf WireSegments) (effects : List Effect) → AreCalm effects →
      Follows l (fold (does queues wire_segments truth) l effects)
  all_follow truth l [] calm = follows_itself l
  all_follow truth l (effect ∷ effects) calm =
      follows_on l (does queues wire_segments truth l effect) (fold (does queues wire_segments truth) l (effect ∷ effects))
      (does_follows truth l effect calm.0) (all_follow truth (does queues wire_segments truth l effect) effects calm.1)
