-- What is to be shown of a row, so that something holds of each answer to it that is no refusal: of every link that its asks may find, by what they
-- tell of it, what holds of it once the effects are done.
use Rattle.accusing_links.proofs.Prelude.{◌≡◌, ℕ, Bool, true, false, ◌&&◌, ◌⊎◌, inl, inr, eqb, Option, Some, None, Result, Ok, Err, List, [], ◌∷◌}
use Rattle.accusing_links.proofs.Prelude.{fold, refl, sym, ap, subst, ok_or, is_some, AckWord, SegmentValue, NspValue, ConnectInitiate, LinkRefusal}
use Rattle.accusing_links.proofs.Prelude.{WrongNode, LinkTest, Queues, Without, With, Sending, Late, LinkOf, LinkTruth, Carried, with_seen}
use Rattle.accusing_links.proofs.Prelude.{with_segments, in_use, with_in_use, may_send, with_queue, Ask, Finds, FindsEither, FindsNone, FindsInUse}
use Rattle.accusing_links.proofs.Prelude.{KnowsInUse, InPhase, InTurn, OrElse, ForThisLink, OfThisPair, Delivers, SendsSegment, SendsAcks, Effect}
use Rattle.accusing_links.proofs.Prelude.{Say, Settle, Row, Asks, user_row, sending_row, arrival_row, LinkEventValue, Boot, WireSegments}
use Rattle.accusing_links.proofs.Prelude.{wire_segments, delivers, WireLinks, wire_links_sent, on_ok, are_same, blank, does, kept, otherwise, waits}
use Rattle.accusing_links.proofs.Prelude.{sends_segment, sends_acks, asked, by_row, of_none, Sent, sent_as}
use Rattle.dna_links.specs.WireSegments as wire
use Rattle.accusing_links.proofs.Answered.{Good, good_ok, good_err, good_check, good_on, link_good, seen_good}
use Rattle.accusing_links.proofs.Finds.{Found, IsInUse, found_used, waits_used}

-- what is known of a row's link, or at None of one that begins
abbrev pub OfRow : Type 1
OfRow = Option ℕ → LinkOf WireSegments → Type 0

-- ---- what is to be shown

-- it sends a segment, and this is left
pub data SentBy (segment : SegmentValue) (l : LinkOf WireSegments) : WireSegments → Type 0 where
  AtOnce : (made : Sending WireSegments (Unit {0})) → wire.sends_segment l.segsize segment l.segments ≡ Ok made → SentBy segment l made.segments
  Waited : (made : Late WireSegments (Unit {0})) → wire.sends_late l.queue.gap l.segsize segment l.segments ≡ Ok made →
      SentBy segment l made.sent.segments

-- `Now` of the effects, of the row's link and of what they left of it
module _ (queues : Queues) (truth : LinkTruth (Unit {0})) (s : WireLinks) (Now : List Effect → OfRow) (effects : List Effect) where
  abbrev pub Otherwise : Option LinkRefusal → Type 0
  Otherwise None = Now [] None (blank queues wire_segments)
  Otherwise (Some refusal) = Unit {0}

  abbrev pub Shows : List Ask → OfRow
  Shows [] n l = Now effects n (fold (does queues wire_segments truth) l effects)
  Shows (Finds test refusal ∷ asks) n l =
      Otherwise refusal × ((m : ℕ) (x : LinkOf WireSegments) → Found s test m x → Shows asks (Some m) x)
  Shows (FindsEither first second refusal ∷ asks) n l =
      Otherwise refusal × ((m : ℕ) (x : LinkOf WireSegments) → Found s first m x ⊎ Found s second m x → Shows asks (Some m) x)
  Shows (FindsNone test refusal ∷ asks) n l = Otherwise refusal × Shows asks n l
  Shows (FindsInUse test refusal ∷ asks) n l = (m : ℕ) (x : LinkOf WireSegments) → IsInUse queues s test m x → Shows asks (Some m) x
  Shows (KnowsInUse test refusal ∷ asks) n l =
      (m : ℕ) (x : LinkOf WireSegments) → IsInUse queues s test m x → Shows asks (Some m) x × Shows asks n l
  Shows (InPhase phases refusal ∷ asks) n l = phases (in_use queues l).phase ≡ true → Shows asks n l
  Shows (InTurn phase refusal ∷ asks) n l = may_send queues phase l ≡ true → Shows asks n l
  Shows (OrElse so others ∷ asks) n l = Now (kept queues others) None (blank queues wire_segments) × Shows asks n l
  Shows (ForThisLink refusal ∷ asks) n l = Shows asks n l
  Shows (OfThisPair refusal ∷ asks) n l = Shows asks n l
  Shows (Delivers message refusal ∷ asks) n l =
      (d : WireSegments) → delivers message l.segments ≡ Some d → Shows asks n (with_segments d l)
  Shows (SendsSegment segment ∷ asks) n l =
      (f : WireSegments) (gap : ℕ) → SentBy segment l f → Shows asks n (with_queue (record l.queue { gap = gap }) (with_segments f l))
  Shows (SendsAcks acks ∷ asks) n l =
      (made : Sending WireSegments (Unit {0})) (gap : ℕ) → wire.sends_acks acks l.segments ≡ Ok made →
      Shows asks n (with_queue (record l.queue { gap = gap }) (with_segments made.segments l))

  module _ {R : Type 0} (rule : Bool → Bool) (answer : List Effect → Option ℕ → LinkOf WireSegments → Unit {0} → R) (G : R → Type 0)
      (each : (es : List Effect) (n : Option ℕ) (l : LinkOf WireSegments) (k : Unit {0}) → Now es n l → G (answer es n l k)) where
    otherwise_good : (refusal : Option LinkRefusal) → Otherwise refusal →
        Good G (otherwise queues wire_segments rule truth s answer effects refusal)
    otherwise_good None now = good_ok G _ (each [] None (blank queues wire_segments) truth.known now)
    otherwise_good (Some refusal) now = good_err G refusal

    used_good : (q : Queues) (test : LinkTest) (otherwise : Result R LinkRefusal) (next : ℕ → LinkOf WireSegments → Result R LinkRefusal) →
        Good G otherwise → ((n : ℕ) (l : LinkOf WireSegments) → IsInUse q s test n l → Good G (next n l)) →
        Good G (with_in_use q test s otherwise next)
    used_good Without test otherwise next none found =
        link_good G test s otherwise next none (λ n l is. found n l (found_used Without s test n l is))
    used_good With test otherwise next none found =
        link_good G test s (with_seen (in_use With) test s otherwise next) next
        (seen_good G (in_use With) test s otherwise next none (λ n l is. found n l (waits_used s test n l is)))
        (λ n l is. found n l (found_used With s test n l is))

    waits_good : (q : Queues) (test : LinkTest) (refusal : LinkRefusal) (next : Result R LinkRefusal) →
        ((m : ℕ) (x : LinkOf WireSegments) → IsInUse q s test m x → Good G next) →
        Good G (waits queues wire_segments rule truth s answer effects q test refusal next)
    waits_good Without test refusal next good = good_err G refusal
    waits_good With test refusal next good =
        seen_good G (in_use With) test s (Err refusal) (λ n l. next) (good_err G refusal) (λ n l is. good n l (waits_used s test n l is))

    sends_good : (q : Queues) (segment : SegmentValue) (l : LinkOf WireSegments)
        (next : LinkOf WireSegments → Unit {0} → Result R LinkRefusal) →
        ((f : WireSegments) (gap : ℕ) (k : Unit {0}) → SentBy segment l f →
        Good G (next (with_queue (record l.queue { gap = gap }) (with_segments f l)) k)) →
        Good G (sends_segment queues wire_segments rule truth s answer effects q segment l next)
    sends_good Without segment l next then =
        good_on G (wire.sends_segment l.segsize segment l.segments) _ (λ sent made.
        then sent.segments l.queue.gap sent.known (AtOnce sent made))
    sends_good With segment l next then =
        good_on G (wire.sends_late l.queue.gap l.segsize segment l.segments) _ (λ late made.
        then late.sent.segments late.gap late.sent.known (Waited late made))

    acks_good : (q : Queues) (acks : List AckWord) (l : LinkOf WireSegments) (next : LinkOf WireSegments → Unit {0} → Result R LinkRefusal) →
        ((made : Sending WireSegments (Unit {0})) (gap : ℕ) (k : Unit {0}) → wire.sends_acks acks l.segments ≡ Ok made →
        Good G (next (with_queue (record l.queue { gap = gap }) (with_segments made.segments l)) k)) →
        Good G (sends_acks queues wire_segments rule truth s answer effects q acks l next)
    acks_good Without acks l next then =
        good_on G (wire.sends_acks acks l.segments) _ (λ sent made. then sent l.queue.gap sent.known made)
    acks_good With acks l next then = good_on G (wire.sends_acks acks l.segments) _ (λ sent made. then sent _ sent.known made)

    asks_good : (asks : List Ask) (n : Option ℕ) (l : LinkOf WireSegments) (k : Unit {0}) → Shows asks n l →
        Good G (asked queues wire_segments rule truth s answer effects asks n l k)
    asks_good [] n l k shows = good_ok G _ (each effects n (fold (does queues wire_segments truth) l effects) k shows)
    asks_good (Finds test refusal ∷ asks) n l k shows =
        link_good G test s _ _ (otherwise_good refusal shows.0) (λ m x found. asks_good asks (Some m) x tt (shows.1 m x found))
    asks_good (FindsEither first second refusal ∷ asks) n l k shows =
        link_good G first s _ _
        (link_good G second s _ _ (otherwise_good refusal shows.0) (λ m x found. asks_good asks (Some m) x tt (shows.1 m x (inr found))))
        (λ m x found. asks_good asks (Some m) x tt (shows.1 m x (inl found)))
    asks_good (FindsNone test refusal ∷ asks) n l k shows =
        link_good G test s _ _ (asks_good asks n l k shows.1) (λ m x found. otherwise_good refusal shows.0)
    asks_good (FindsInUse test refusal ∷ asks) n l k shows =
        used_good queues test (Err refusal) _ (good_err G refusal) (λ m x used. asks_good asks (Some m) x tt (shows m x used))
    asks_good (KnowsInUse test refusal ∷ asks) n l k shows =
        link_good G test s _ _ (waits_good queues test refusal _ (λ m x used. asks_good asks n l k (shows m x used).1))
        (λ m x found. asks_good asks (Some m) x tt (shows m x (found_used queues s test m x found)).0)
    asks_good (InPhase phases refusal ∷ asks) n l k shows =
        good_check G (phases (in_use queues l).phase) _ _ (λ e. asks_good asks n l k (shows e))
    asks_good (InTurn phase refusal ∷ asks) n l k shows = good_check G (may_send queues phase l) refusal _ (λ e. asks_good asks n l k (shows e))
    asks_good (OrElse true others ∷ asks) n l k shows = asks_good asks n l k shows.1
    asks_good (OrElse false others ∷ asks) n l k shows =
        good_ok G _ (each (kept queues others) None (blank queues wire_segments) truth.known shows.0)
    asks_good (ForThisLink refusal ∷ asks) n l k shows =
        good_check G (rule (is_some truth.tag.link && are_same n truth.tag.partner)) refusal _ (λ e. asks_good asks n l k shows)
    asks_good (OfThisPair refusal ∷ asks) n l k shows =
        good_check G (rule (are_same l.partner truth.tag.link && are_same n truth.tag.partner)) refusal _ (λ e. asks_good asks n l k shows)
    asks_good (Delivers message refusal ∷ asks) n l k shows = go (delivers message l.segments) refl (λ d x. asks_good asks n x k)
      where
        go : (o : Option WireSegments) → delivers message l.segments ≡ o →
            ((d : WireSegments) (x : LinkOf WireSegments) → Shows asks n x →
            Good G (asked queues wire_segments rule truth s answer effects asks n x k)) →
            Good G (on_ok (ok_or o refusal) (λ d. asked queues wire_segments rule truth s answer effects asks n (with_segments d l) k))
        go None e later = good_err G refusal
        go (Some d) e later = later d (with_segments d l) (shows d e)
    asks_good (SendsSegment segment ∷ asks) n l k shows =
        sends_good queues segment l (asked queues wire_segments rule truth s answer effects asks n)
        (λ f gap x sent. asks_good asks n _ x (shows f gap sent))
    asks_good (SendsAcks acks ∷ asks) n l k shows =
        acks_good queues acks l (asked queues wire_segments rule truth s answer effects asks n)
        (λ made gap x sent. asks_good asks n _ x (shows made gap sent))

    pub shown_good : (asks : List Ask) → Shows asks None (blank queues wire_segments) →
        Good G (asked queues wire_segments rule truth s answer effects asks None (blank queues wire_segments) truth.known)
    shown_good asks shows = asks_good asks None (blank queues wire_segments) truth.known shows

-- ---- a row

-- it has no effect that a node without queues does not remember
abbrev pub lasts : List Effect → Bool
lasts [] = true
lasts (Say said ∷ effects) = false
lasts (Settle own ∷ effects) = false
lasts (effect ∷ effects) = lasts effects

kept_lasts : (q : Queues) (effects : List Effect) → lasts effects ≡ true → kept q effects ≡ effects
kept_lasts Without [] e = refl
kept_lasts Without (Say said ∷ effects) e = absurd cc
kept_lasts Without (Settle own ∷ effects) e = absurd cc
kept_lasts Without (effect ∷ effects) e = ap (λ (x : List Effect). effect ∷ x) (kept_lasts Without effects e)
kept_lasts With effects e = refl

abbrev row_lasts : Row → Bool
row_lasts (Asks asks effects) = lasts effects

user_lasts : (event : LinkEventValue) → row_lasts (user_row event) ≡ true
user_lasts Boot = refl
user_lasts event = refl

arrival_lasts : (m : NspValue) → row_lasts (arrival_row m) ≡ true
arrival_lasts (ConnectInitiate retransmitted src services info segsize user_data) = refl
arrival_lasts m = refl

module _ (queues : Queues) (truth : LinkTruth (Unit {0})) (s : WireLinks) (Now : List Effect → OfRow) where
  -- of a row whose effects all last, and of any
  abbrev pub RowShows : Row → Type 0
  RowShows (Asks asks effects) = Shows queues truth s Now effects asks None (blank queues wire_segments)

  abbrev pub SendShows : Row → Type 0
  SendShows (Asks asks effects) = Shows queues truth s Now (kept queues effects) asks None (blank queues wire_segments)

  pub lasting_sends : (row : Row) → row_lasts row ≡ true → RowShows row → SendShows row
  lasting_sends (Asks asks effects) e shows =
      subst (λ (es : List Effect). Shows queues truth s Now es asks None (blank queues wire_segments)) (sym (kept_lasts queues effects e)) shows

  module _ {R : Type 0} (rule : Bool → Bool) (answer : List Effect → Option ℕ → LinkOf WireSegments → Unit {0} → R) (G : R → Type 0)
      (each : (es : List Effect) (n : Option ℕ) (l : LinkOf WireSegments) (k : Unit {0}) → Now es n l → G (answer es n l k)) where
    pub sends_by_row : (row : Row) → SendShows row → Good G (by_row queues wire_segments rule truth s answer row)
    sends_by_row (Asks asks effects) shows = shown_good queues truth s Now (kept queues effects) rule answer G each asks shows

    pub user_by_row : (event : LinkEventValue) → RowShows (user_row event) →
        Good G (by_row queues wire_segments rule truth s answer (user_row event))
    user_by_row event shows = sends_by_row (user_row event) (lasting_sends (user_row event) (user_lasts event) shows)

    pub comes_by_row : (m : NspValue) → RowShows (arrival_row m) → Good G (by_row queues wire_segments rule truth s answer (arrival_row m))
    comes_by_row m shows = sends_by_row (arrival_row m) (lasting_sends (arrival_row m) (arrival_lasts m) shows)

-- a packet that is sent
module _ (queues : Queues) (s : WireLinks) (packet : Carried) where
  abbrev pub Sends : (List Effect → OfRow) → Type 0
  Sends Now = SendShows queues (of_none queues wire_segments) s Now (sending_row packet.message)

  pub sent_good : (Now : List Effect → OfRow) (G : Sent WireSegments (Unit {0}) → Type 0) →
      ((es : List Effect) (n : Option ℕ) (l : LinkOf WireSegments) (k : Unit {0}) → Now es n l → G (sent_as queues wire_segments s es n l k)) →
      Sends Now → Good G (wire_links_sent queues s packet)
  sent_good Now G each shows =
      good_check G (eqb packet.src s.node && eqb packet.dst s.peer) WrongNode _ (λ e.
      sends_by_row queues (of_none queues wire_segments) s Now (λ test. test) (sent_as queues wire_segments s) G each (sending_row packet.message)
      shows)

  -- it tells this
  pub sent_tells : (X : Type 0) → Sends (λ es n l. X) → Good (λ (made : Sent WireSegments (Unit {0})). X) (wire_links_sent queues s packet)
  sent_tells X shows = sent_good (λ es n l. X) (λ made. X) (λ es n l k x. x) shows
