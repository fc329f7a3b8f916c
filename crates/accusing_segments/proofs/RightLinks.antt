-- What every link of a node has given in segments was sent, and had room at the other side; and what becomes of that by each effect of a row.
use Rattle.accusing_segments.proofs.Prelude.{◌≡◌, ℕ, Bool, true, false, Option, Some, None, List, fold, refl}
use Rattle.accusing_segments.proofs.Prelude.{◌≤◌, ◌⊎◌, inl, inr, Phase, Calling, Called, Confirming, Running, Disconnecting}
use Rattle.accusing_segments.proofs.Prelude.{Ended, Port, Queues, Without, With, Said, is_live, is_in, LinkOf, LinkTruth, keeps_numbers, further}
use Rattle.accusing_segments.proofs.Prelude.{goes_on, goes_to, ends_by_message, drops, requeued, lets_go, forgotten, drops_segments}
use Rattle.accusing_segments.proofs.Prelude.{Effect, OpenHere, GiveAddress, Connect, GoTo, End, Drop, EndAll, Say, Settle, Keep, HandIn}
use Rattle.accusing_segments.proofs.Prelude.{TakeSegment, TakeAcks, WireSegments, wire_segments, blank, does, is_early, Each, each_more, all_done}
use Rattle.accusing_segments.proofs.Gave.{Passings, never, More, Gave, gave_more, never_less, empty_gave, ends_gave}

-- what passed of each link: by its own address and the far one
abbrev pub Links : Type 1
Links = (own far : ℕ) → Passings

-- a link that has not been in RUN, and sent nothing
pub record IsFresh (l : LinkOf WireSegments) : Type 0 where
  pub gave : Gave never l.segments
  pub ran : l.queue.ran ≡ false

-- there is room for so many bytes at this own address, or at any for a link that a CI just began
abbrev pub HasRoom : Links → Port → ℕ → Type 0
HasRoom Q port segsize =
    (own far : ℕ) → (is_in Called port.phase ≡ true) ⊎ (port.own ≡ Some own) → port.far ≡ Some far → (n : ℕ) → n ≤ segsize → (Q own far).room n

-- in another phase
pub room_later : (Q : Links) (port : Port) (phase : Phase) (segsize : ℕ) → is_early phase ≡ false → HasRoom Q port segsize →
    HasRoom Q (record port { phase = phase }) segsize
room_later Q port phase segsize late room own far (inr at) to n l = room own far (inr at) to n l
room_later Q port phase segsize late room own far (inl called) to n l = absurd (no phase late called)
  where
    no : (phase : Phase) → is_early phase ≡ false → is_in Called phase ≡ true → ⊥
    no Called a b = cc
    no Calling a b = cc
    no Confirming a b = cc
    no Running a b = cc
    no Disconnecting a b = cc
    no Ended a b = cc

-- without its own address
pub room_forgotten : (Q : Links) (port : Port) (segsize : ℕ) → HasRoom Q port segsize → HasRoom Q (record port { own = None }) segsize
room_forgotten Q port segsize room own far (inl called) to n l = room own far (inl called) to n l
room_forgotten Q port segsize room own far (inr at) to n l = absurd cc

pub record IsLinkRight (Q : Links) (l : LinkOf WireSegments) : Type 0 where
  pub early : is_early l.port.phase ≡ true → IsFresh l
  pub both : (own far : ℕ) → l.port.own ≡ Some own → l.port.far ≡ Some far → Gave (Q own far) l.segments
  pub room : HasRoom Q l.port l.segsize

pub from_never : (Q : Passings) (f : WireSegments) → Gave never f → Gave Q f
from_never Q f is = gave_more never Q f (never_less Q) is

-- ---- segments

module _ (Q : Passings) where
  let_go : (before now : Bool) (f : WireSegments) → Gave Q f → Gave Q (lets_go wire_segments before now f)
  let_go true false f is = ends_gave Q f
  let_go true true f is = is
  let_go false now f is = is

  pub requeued_gave : (waits : Option Phase) (said : Said) (l : LinkOf WireSegments) → Gave Q l.segments →
      Gave Q (requeued wire_segments waits said l).segments
  requeued_gave waits said l is = let_go (keeps_numbers l) _ l.segments is

  pub goes_to_gave : (queues : Queues) (phase : Phase) (l : LinkOf WireSegments) → Gave Q l.segments →
      Gave Q (goes_to wire_segments queues phase l).segments
  goes_to_gave Without phase l is = is
  goes_to_gave With phase l is = go (is_live l.port.phase)
    where
      go : (b : Bool) → Gave Q (goes_on wire_segments b phase l).segments
      go true = is
      go false = requeued_gave (Some phase) l.queue.said l is

  ends_by_gave : (queues : Queues) (l : LinkOf WireSegments) → Gave Q l.segments → Gave Q (ends_by_message wire_segments queues l).segments
  ends_by_gave Without l is = ends_gave Q l.segments
  ends_by_gave With l is = let_go (keeps_numbers l) _ l.segments is

  drops_gave : (queues : Queues) (l : LinkOf WireSegments) → Gave Q l.segments → Gave Q (drops wire_segments queues l).segments
  drops_gave Without l is = ends_gave Q l.segments
  drops_gave With l is = go l.port.opened
    where
      go : (opened : Bool) → Gave Q (drops_segments wire_segments opened l.segments)
      go true = is
      go false = ends_gave Q l.segments

-- ---- links

module _ (Q : Links) (queues : Queues) where
  abbrev Is : LinkOf WireSegments → Type 0
  Is l = IsLinkRight Q l

  -- a link that sent nothing is right whatever addresses it gets
  pub none_gave : (l : LinkOf WireSegments) → Gave never l.segments → (is_early l.port.phase ≡ true → l.queue.ran ≡ false) →
      HasRoom Q l.port l.segsize → Is l
  none_gave l none ran room = record {
    early = λ e. record { gave = none; ran = ran e };
    both = λ own far e f. from_never (Q own far) l.segments none;
    room = room;
  }

  pub blank_right : Is (blank queues wire_segments)
  blank_right = none_gave (blank queues wire_segments) (empty_gave never) (λ e. refl) (λ own far how e. absurd cc)

  pub goes_right : (q : Queues) (phase : Phase) (l : LinkOf WireSegments) → is_early phase ≡ false → Is l → Is (goes_to wire_segments q phase l)
  goes_right Without phase l late is =
      record { early = λ e. absurd cc; both = is.both; room = room_later Q l.port phase l.segsize late is.room }
  goes_right With phase l late is = go (is_live l.port.phase)
    where
      go : (b : Bool) → Is (goes_on wire_segments b phase l)
      go true = record { early = λ e. absurd cc; both = is.both; room = room_later Q l.port phase l.segsize late is.room }
      go false = record {
        early = λ e. record { gave = requeued_gave never (Some phase) l.queue.said l (is.early e).gave; ran = (is.early e).ran };
        both = λ own far e f. requeued_gave (Q own far) (Some phase) l.queue.said l (is.both own far e f);
        room = is.room;
      }

  ended_right : (q : Queues) (l : LinkOf WireSegments) → Is l → Is (ends_by_message wire_segments q l)
  ended_right Without l is = record {
    early = λ e. absurd cc;
    both = λ own far e f. ends_by_gave (Q own far) Without l (is.both own far e f);
    room = room_later Q l.port Ended l.segsize refl is.room;
  }
  ended_right With l is = record {
    early = λ e. absurd cc;
    both = λ own far e f. ends_by_gave (Q own far) With l (is.both own far e f);
    room = room_later Q l.port Ended l.segsize refl is.room;
  }

  pub dropped_right : (q : Queues) (l : LinkOf WireSegments) → Is l → Is (drops wire_segments q l)
  dropped_right Without l is = record {
    early = λ e. absurd cc;
    both = λ own far e f. drops_gave (Q own far) Without l (is.both own far e f);
    room = room_later Q l.port Ended l.segsize refl is.room;
  }
  dropped_right With l is = record {
    early = λ e. absurd cc;
    both = λ own far e f. drops_gave (Q own far) With l (is.both own far e f);
    room = room_later Q l.port Ended l.segsize refl is.room;
  }

  pub requeued_right : (waits : Option Phase) (said : Said) (l : LinkOf WireSegments) → Is l → Is (requeued wire_segments waits said l)
  requeued_right waits said l is = record {
    early = λ e. record { gave = requeued_gave never waits said l (is.early e).gave; ran = (is.early e).ran };
    both = λ own far e f. requeued_gave (Q own far) waits said l (is.both own far e f);
    room = is.room;
  }

  -- by which effects it stays so, whatever it is
  abbrev pub IsCalm : Effect → Type 0
  IsCalm (GoTo phase) = is_early phase ≡ false
  IsCalm OpenHere = ⊥
  IsCalm (GiveAddress own) = ⊥
  IsCalm (Connect far segsize) = ⊥
  IsCalm (TakeSegment segment) = ⊥
  IsCalm (TakeAcks acks) = ⊥
  IsCalm effect = Unit {0}

  abbrev pub AreCalm : List Effect → Type 0
  AreCalm effects = Each IsCalm effects

  pub does_right : (truth : LinkTruth (Unit {0})) (l : LinkOf WireSegments) (effect : Effect) → IsCalm effect → Is l →
      Is (does queues wire_segments truth l effect)
  does_right truth l (GoTo phase) calm is = goes_right queues phase l calm is
  does_right truth l End calm is = ended_right queues l is
  does_right truth l Drop calm is = dropped_right queues l is
  does_right truth l EndAll calm is = is
  does_right truth l (Say said) calm is = requeued_right l.queue.waits (further said l.queue.said) l is
  does_right truth l (Settle own) calm is = is
  does_right truth l Keep calm is = is
  does_right truth l (HandIn message) calm is =
      record { early = λ e. record { gave = (is.early e).gave; ran = (is.early e).ran }; both = is.both; room = is.room }
  does_right truth l OpenHere calm is = absurd calm
  does_right truth l (GiveAddress own) calm is = absurd calm
  does_right truth l (Connect far segsize) calm is = absurd calm
  does_right truth l (TakeSegment segment) calm is = absurd calm
  does_right truth l (TakeAcks acks) calm is = absurd calm

  pub all_right : (truth : LinkTruth (Unit {0})) (l : LinkOf WireSegments) (effects : List Effect) → AreCalm effects → Is l →
      Is (fold (does queues wire_segments truth) l effects)
  all_right truth l effects calm is = all_done queues truth IsCalm Is (does_right truth) l effects calm is

  -- ---- all links of a node

  abbrev pub AreRight : List (LinkOf WireSegments) → Type 0
  AreRight links = Each Is links

  -- an address that is given again
  pub forgotten_right : (q : Queues) (l : LinkOf WireSegments) → Is l → Is (forgotten wire_segments q l)
  forgotten_right Without l is =
      none_gave (forgotten wire_segments Without l) (empty_gave never) (λ e. (is.early e).ran) (room_forgotten Q l.port l.segsize is.room)
  forgotten_right With l is =
      none_gave (forgotten wire_segments With l) (empty_gave never) (λ e. (is.early e).ran) (room_forgotten Q l.port l.segsize is.room)

-- where more passed
module _ (Q R : Links) (queues : Queues) (more : (own far : ℕ) → More (Q own far) (R own far)) where
  pub right_more : (links : List (LinkOf WireSegments)) → AreRight Q queues links → AreRight R queues links
  right_more = each_more (IsLinkRight Q) (IsLinkRight R) (λ l is. record {
    early = is.early;
    both = λ own far e f. gave_more (Q own far) (R own far) l.segments (more own far) (is.both own far e f);
    room = λ own far how e n fits. (more own far).room n (is.room own far how e n fits);
  })
