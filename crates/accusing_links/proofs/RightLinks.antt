-- What every link of a node has received passed for it; and what becomes of that by each effect of a row.
use Rattle.accusing_links.proofs.Prelude.{◌≡◌, ℕ, Bool, true, false, Option, Some, List, fold, Phase, Calling, Called, Queues, Without, With, Said}
use Rattle.accusing_links.proofs.Prelude.{is_live, LinkOf, LinkTruth, keeps_numbers, further, goes_on, goes_to, ends_by_message, drops, requeued}
use Rattle.accusing_links.proofs.Prelude.{lets_go, forgotten, drops_segments, Effect, OpenHere, GiveAddress, Connect, GoTo, End, Drop, EndAll, Say}
use Rattle.accusing_links.proofs.Prelude.{Settle, Keep, HandIn, TakeSegment, TakeAcks, WireSegments, wire_segments, blank, does}
use Rattle.accusing_links.proofs.Received.{Received, weaker, empty_received, ends_received, acks_received}
use Rattle.accusing_links.proofs.{Each.Each, Each.each_more, Rows.all_done}

-- a link that nothing may have come on yet
abbrev pub is_early : Phase → Bool
is_early Calling = true
is_early Called = true
is_early phase = false

abbrev pub Never : ℕ → Type 0
Never number = ⊥

-- the numbers of the segments that passed, for each own address of a link and each far one
abbrev pub Numbers : Type 1
Numbers = (own far number : ℕ) → Type 0

pub record IsLinkRight (Q : Numbers) (l : LinkOf WireSegments) : Type 0 where
  pub early : is_early l.port.phase ≡ true → Received 0 Never l.segments
  pub both : (own far : ℕ) → l.port.own ≡ Some own → l.port.far ≡ Some far → Received 0 (Q own far) l.segments

-- what received nothing may be for any link
pub from_never : (Q : ℕ → Type 0) (f : WireSegments) → Received 0 Never f → Received 0 Q f
from_never Q f is = weaker 0 Never Q _ _ _ (λ n none. absurd none) is

-- ---- effects on segments

module _ (Q : ℕ → Type 0) where
  let_go : (before now : Bool) (f : WireSegments) → Received 0 Q f → Received 0 Q (lets_go wire_segments before now f)
  let_go true false f is = ends_received Q f
  let_go true true f is = is
  let_go false now f is = is

  pub requeued_received : (waits : Option Phase) (said : Said) (l : LinkOf WireSegments) → Received 0 Q l.segments →
      Received 0 Q (requeued wire_segments waits said l).segments
  requeued_received waits said l is = let_go (keeps_numbers l) _ l.segments is

  pub goes_to_received : (queues : Queues) (phase : Phase) (l : LinkOf WireSegments) → Received 0 Q l.segments →
      Received 0 Q (goes_to wire_segments queues phase l).segments
  goes_to_received Without phase l is = is
  goes_to_received With phase l is = go (is_live l.port.phase)
    where
      go : (b : Bool) → Received 0 Q (goes_on wire_segments b phase l).segments
      go true = is
      go false = requeued_received (Some phase) l.queue.said l is

  pub ends_by_received : (queues : Queues) (l : LinkOf WireSegments) → Received 0 Q l.segments →
      Received 0 Q (ends_by_message wire_segments queues l).segments
  ends_by_received Without l is = ends_received Q l.segments
  ends_by_received With l is = let_go (keeps_numbers l) _ l.segments is

  pub drops_received : (queues : Queues) (l : LinkOf WireSegments) → Received 0 Q l.segments → Received 0 Q (drops wire_segments queues l).segments
  drops_received Without l is = ends_received Q l.segments
  drops_received With l is = go l.port.opened
    where
      go : (opened : Bool) → Received 0 Q (drops_segments wire_segments opened l.segments)
      go true = is
      go false = ends_received Q l.segments

-- ---- links

module _ (Q : Numbers) (queues : Queues) where
  abbrev Is : LinkOf WireSegments → Type 0
  Is l = IsLinkRight Q l

  -- a link that received nothing is right whatever addresses it gets
  pub none_received : (l : LinkOf WireSegments) → Received 0 Never l.segments → Is l
  none_received l none = record { early = λ e. none; both = λ own far e f. from_never (Q own far) l.segments none }

  pub blank_right : Is (blank queues wire_segments)
  blank_right = none_received (blank queues wire_segments) (empty_received Never)

  pub goes_right : (q : Queues) (phase : Phase) (l : LinkOf WireSegments) → is_early phase ≡ false → Is l → Is (goes_to wire_segments q phase l)
  goes_right Without phase l late is = record { early = λ e. absurd cc; both = is.both }
  goes_right With phase l late is = go (is_live l.port.phase)
    where
      go : (b : Bool) → Is (goes_on wire_segments b phase l)
      go true = record { early = λ e. absurd cc; both = is.both }
      go false = record {
        early = λ e. requeued_received Never (Some phase) l.queue.said l (is.early e);
        both = λ own far e f. requeued_received (Q own far) (Some phase) l.queue.said l (is.both own far e f);
      }

  ended_right : (q : Queues) (l : LinkOf WireSegments) → Is l → Is (ends_by_message wire_segments q l)
  ended_right Without l is = record { early = λ e. absurd cc; both = λ own far e f. ends_by_received (Q own far) Without l (is.both own far e f) }
  ended_right With l is = record { early = λ e. absurd cc; both = λ own far e f. ends_by_received (Q own far) With l (is.both own far e f) }

  dropped_right : (q : Queues) (l : LinkOf WireSegments) → Is l → Is (drops wire_segments q l)
  dropped_right Without l is = record { early = λ e. absurd cc; both = λ own far e f. drops_received (Q own far) Without l (is.both own far e f) }
  dropped_right With l is = record { early = λ e. absurd cc; both = λ own far e f. drops_received (Q own far) With l (is.both own far e f) }

  pub requeued_right : (waits : Option Phase) (said : Said) (l : LinkOf WireSegments) → Is l → Is (requeued wire_segments waits said l)
  requeued_right waits said l is = record {
    early = λ e. requeued_received Never waits said l (is.early e);
    both = λ own far e f. requeued_received (Q own far) waits said l (is.both own far e f);
  }

  -- by which effects it stays so, whatever it is
  abbrev pub IsCalm : Effect → Type 0
  IsCalm (GoTo phase) = is_early phase ≡ false
  IsCalm OpenHere = ⊥
  IsCalm (GiveAddress own) = ⊥
  IsCalm (Connect far segsize) = ⊥
  IsCalm (TakeSegment segment) = ⊥
  IsCalm effect = Unit {0}

  abbrev pub AreCalm : List Effect → Type 0
  AreCalm effects = Each IsCalm effects

  pub does_right : (truth : LinkTruth (Unit {0})) (l : LinkOf WireSegments) (effect : Effect) → IsCalm effect → Is l →
      Is (does queues wire_segments truth l effect)
  does_right truth l (GoTo phase) calm is = goes_right queues phase l calm is
  does_right truth l End calm is = ended_right queues l is
  does_right truth l Drop calm is = dropped_right queues l is
  does_right truth l EndAll calm is = is
  does_right truth l (Say said) calm is = requeued_right l.queue.waits (further said l.queue.said) l is
  does_right truth l (Settle own) calm is = is
  does_right truth l Keep calm is = is
  does_right truth l (HandIn message) calm is = record { early = is.early; both = is.both }
  does_right truth l (TakeAcks acks) calm is = record {
    early = λ e. acks_received 0 Never acks l.segments (is.early e);
    both = λ own far e f. acks_received 0 (Q own far) acks l.segments (is.both own far e f);
  }
  does_right truth l OpenHere calm is = absurd calm
  does_right truth l (GiveAddress own) calm is = absurd calm
  does_right truth l (Connect far segsize) calm is = absurd calm
  does_right truth l (TakeSegment segment) calm is = absurd calm

  pub all_right : (truth : LinkTruth (Unit {0})) (l : LinkOf WireSegments) (effects : List Effect) → AreCalm effects → Is l →
      Is (fold (does queues wire_segments truth) l effects)
  all_right truth l effects calm is = all_done queues truth IsCalm Is (does_right truth) l effects calm is

  -- ---- all links of a node

  abbrev pub AreRight : List (LinkOf WireSegments) → Type 0
  AreRight links = Each Is links

  -- an address that is given again
  pub forgotten_right : (q : Queues) (l : LinkOf WireSegments) → Is (forgotten wire_segments q l)
  forgotten_right Without l = none_received (forgotten wire_segments Without l) (empty_received Never)
  forgotten_right With l = none_received (forgotten wire_segments With l) (empty_received Never)

-- where more passed
module _ (Q R : Numbers) (queues : Queues) (more : (own far number : ℕ) → Q own far number → R own far number) where
  pub right_more : (links : List (LinkOf WireSegments)) → AreRight Q queues links → AreRight R queues links
  right_more = each_more (IsLinkRight Q) (IsLinkRight R) (λ l is.
      record { early = is.early; both = λ own far e f. weaker 0 (Q own far) (R own far) _ _ _ (more own far) (is.both own far e f) })
