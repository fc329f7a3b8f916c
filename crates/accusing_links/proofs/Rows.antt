-- What holds of the link that a row is of holds of what the row makes of it, and so of all links: by any row of the tables. To be shown are the
-- asks that change numbers and the effects, once each.
use Rattle.accusing_links.proofs.Prelude.{◌≡◌, ℕ, ◌&&◌, eqb, Option, Some, None, Ok, List, [], ◌∷◌, fold, refl, slice_get, AckWord, SegmentValue}
use Rattle.accusing_links.proofs.Prelude.{LinkRefusal, WrongNode, Phase, Running, Disconnecting, LinkTest, HasAddress, Queues, Without, With, Said}
use Rattle.accusing_links.proofs.Prelude.{OfRun, Disconnect, LinkTag, Sending, LinkOf, LinkTruth, Carried, at_number, on_link, number_of, with_link}
use Rattle.accusing_links.proofs.Prelude.{with_segments, begun, changed, with_queue, further, requeued, shows_by, settled, forgotten, booted}
use Rattle.accusing_links.proofs.Prelude.{booted_link, Ask, Finds, FindsEither, FindsNone, FindsInUse, KnowsInUse, InPhase, InTurn, OrElse}
use Rattle.accusing_links.proofs.Prelude.{ForThisLink, OfThisPair, Delivers, SendsSegment, SendsAcks, Effect, GiveAddress, EndAll, Say, Settle, Row}
use Rattle.accusing_links.proofs.Prelude.{Asks, user_row, arrival_row, LinkEventValue, WireSegments, wire_segments, delivers, WireLinks}
use Rattle.accusing_links.proofs.Prelude.{wire_links_user, wire_links_sent, wire_links_arrived, blank, does, kept, others, after, of_none, Sent}
use Rattle.accusing_links.proofs.Prelude.{PartnerRule}
use Rattle.dna_links.specs.WireSegments as wire
use Rattle.accusing_links.proofs.Each.{Each, each_at, each_pushed, each_changed, each_mapped}
use Rattle.accusing_links.proofs.{Answered.Good, Answered.good_check, Finds.either_there}
use Rattle.accusing_links.proofs.Along.{OfRow, SentBy, Otherwise, Shows, RowShows, SendShows, Sends, user_by_row, comes_by_row, sent_good}

-- what a node does not remember without queues is left out
pub kept_each : (Calm : Effect → Type 0) (q : Queues) (effects : List Effect) → Each Calm effects → Each Calm (kept q effects)
kept_each Calm Without [] calm = tt
kept_each Calm Without (Say said ∷ effects) calm = kept_each Calm Without effects calm.1
kept_each Calm Without (Settle own ∷ effects) calm = kept_each Calm Without effects calm.1
kept_each Calm Without (effect ∷ effects) calm = (calm.0, kept_each Calm Without effects calm.1)
kept_each Calm With effects calm = calm

-- ---- one link

module _ (queues : Queues) (truth : LinkTruth (Unit {0})) (Calm : Effect → Type 0) (Is : LinkOf WireSegments → Type 0)
    (one : (l : LinkOf WireSegments) (effect : Effect) → Calm effect → Is l → Is (does queues wire_segments truth l effect)) where
  pub all_done : (l : LinkOf WireSegments) (effects : List Effect) → Each Calm effects → Is l → Is (fold (does queues wire_segments truth) l effects)
  all_done l [] calm is = is
  all_done l (effect ∷ effects) calm is = all_done (does queues wire_segments truth l effect) effects calm.1 (one l effect calm.0 is)

-- what came for it was acted on
pub settled_by : (Is : LinkOf WireSegments → Type 0) (waits : Option Phase) (l : LinkOf WireSegments) →
    Is (requeued wire_segments None l.queue.said l) →
    ((said : Said) → Is (requeued wire_segments l.queue.waits (further said l.queue.said) l)) → Is l → Is (settled wire_segments waits l)
settled_by Is (Some phase) l settles says is = settles
settled_by Is None l settles says is = go l.port.phase
  where
    go : (phase : Phase) → Is (shows_by wire_segments phase l)
    go Running = says OfRun
    go Disconnecting = says Disconnect
    go phase = is

-- ---- the link that a row is of

-- a row of such asks and effects alone
abbrev pub IsCalmRow : (Ask → Type 0) → (Effect → Type 0) → Row → Type 0
IsCalmRow Asked Calm (Asks asks effects) = Each Calm effects × Each Asked asks

module _ (queues : Queues) (s : WireLinks) (Now : OfRow) where
  pub record IsKept (Asked : Ask → Type 0) (Calm : Effect → Type 0) (truth : LinkTruth (Unit {0})) : Type 0 where
    pub none : Now None (blank queues wire_segments)
    pub there : (n : ℕ) (l : LinkOf WireSegments) → slice_get s.links n ≡ Some l → Now (Some n) l
    pub delivered : (message : List ℕ) (n : Option ℕ) (l : LinkOf WireSegments) (d : WireSegments) → delivers message l.segments ≡ Some d →
        Now n l → Now n (with_segments d l)
    pub sent : (segment : SegmentValue) (n : Option ℕ) (l : LinkOf WireSegments) (f : WireSegments) (gap : ℕ) →
        Asked (SendsSegment segment) → SentBy segment l f → Now n l → Now n (with_queue (record l.queue { gap = gap }) (with_segments f l))
    pub acks : (acks : List AckWord) (n : Option ℕ) (l : LinkOf WireSegments) (made : Sending WireSegments (Unit {0})) (gap : ℕ) →
        Asked (SendsAcks acks) → wire.sends_acks acks l.segments ≡ Ok made → Now n l →
        Now n (with_queue (record l.queue { gap = gap }) (with_segments made.segments l))
    pub does : (n : Option ℕ) (l : LinkOf WireSegments) (effect : Effect) → Calm effect → Now n l → Now n (does queues wire_segments truth l effect)

  module _ (Asked : Ask → Type 0) (Calm : Effect → Type 0) (truth : LinkTruth (Unit {0})) (is : IsKept Asked Calm truth) where
    module _ (effects : List Effect) (calm : Each Calm effects) where
      otherwise_kept : (refusal : Option LinkRefusal) → Otherwise queues truth s (λ es. Now) effects refusal
      otherwise_kept None = is.none
      otherwise_kept (Some refusal) = tt

      asks_kept : (asks : List Ask) (n : Option ℕ) (l : LinkOf WireSegments) → Each Asked asks → Now n l →
          Shows queues truth s (λ es. Now) effects asks n l
      asks_kept [] n l may now = all_done queues truth Calm (Now n) (is.does n) l effects calm now
      asks_kept (Finds test refusal ∷ asks) n l may now =
          (otherwise_kept refusal, λ m x found. asks_kept asks (Some m) x may.1 (is.there m x found.there))
      asks_kept (FindsEither first second refusal ∷ asks) n l may now =
          (otherwise_kept refusal, λ m x found. asks_kept asks (Some m) x may.1 (is.there m x (either_there s first second m x found)))
      asks_kept (FindsNone test refusal ∷ asks) n l may now = (otherwise_kept refusal, asks_kept asks n l may.1 now)
      asks_kept (FindsInUse test refusal ∷ asks) n l may now = λ m x used. asks_kept asks (Some m) x may.1 (is.there m x used.there)
      asks_kept (KnowsInUse test refusal ∷ asks) n l may now =
          λ m x used. (asks_kept asks (Some m) x may.1 (is.there m x used.there), asks_kept asks n l may.1 now)
      asks_kept (InPhase phases refusal ∷ asks) n l may now = λ e. asks_kept asks n l may.1 now
      asks_kept (InTurn phase refusal ∷ asks) n l may now = λ e. asks_kept asks n l may.1 now
      asks_kept (OrElse so others ∷ asks) n l may now = (is.none, asks_kept asks n l may.1 now)
      asks_kept (ForThisLink refusal ∷ asks) n l may now = asks_kept asks n l may.1 now
      asks_kept (OfThisPair refusal ∷ asks) n l may now = asks_kept asks n l may.1 now
      asks_kept (Delivers message refusal ∷ asks) n l may now =
          λ d made. asks_kept asks n (with_segments d l) may.1 (is.delivered message n l d made now)
      asks_kept (SendsSegment segment ∷ asks) n l may now =
          λ f gap made. asks_kept asks n _ may.1 (is.sent segment n l f gap may.0 made now)
      asks_kept (SendsAcks acks ∷ asks) n l may now =
          λ sent gap made. asks_kept asks n _ may.1 (is.acks acks n l sent gap may.0 made now)

    pub calm_shows : (row : Row) → IsCalmRow Asked Calm row → RowShows queues truth s (λ es. Now) row
    calm_shows (Asks asks effects) calm = asks_kept effects calm.0 asks None (blank queues wire_segments) calm.1 is.none

    pub calm_sends : (row : Row) → IsCalmRow Asked Calm row → SendShows queues truth s (λ es. Now) row
    calm_sends (Asks asks effects) calm =
        asks_kept (kept queues effects) (kept_each Calm queues effects calm.0) asks None (blank queues wire_segments) calm.1 is.none

  -- ---- all links

  pub record AreKept (Are : WireLinks → Type 0) : Type 0 where
    pub same : Are s
    pub there : (n : ℕ) (l : LinkOf WireSegments) → slice_get s.links n ≡ Some l → Now (Some n) l
    pub forgets : (n : ℕ) (l : LinkOf WireSegments) → Now (Some n) l → Now (Some n) (forgotten wire_segments queues l)
    pub settles : (n : ℕ) (l : LinkOf WireSegments) → Now (Some n) l → Now (Some n) (settled wire_segments l.queue.waits l)
    pub pushes : (x : WireLinks) (l : LinkOf WireSegments) → Are x → Now None l → Are (begun l x)
    pub changes : (x : WireLinks) (n : ℕ) (l : LinkOf WireSegments) → Are x → Now (Some n) l → Are (changed n l x)
    pub boots : Are (booted wire_segments queues s)

  module _ (Are : WireLinks → Type 0) (are : AreKept Are) where
    found_kept : (test : LinkTest) (next : LinkOf WireSegments → LinkOf WireSegments) →
        ((n : ℕ) (l : LinkOf WireSegments) → Now (Some n) l → Now (Some n) (next l)) → Are (with_link test s s (λ n l. changed n (next l) s))
    found_kept test next keeps = go (number_of test s)
      where
        one : (n : ℕ) (o : Option (LinkOf WireSegments)) → slice_get s.links n ≡ o → Are (on_link n o s (λ n l. changed n (next l) s))
        one n None at = are.same
        one n (Some l) at = are.changes s n (next l) are.same (keeps n l (are.there n l at))

        go : (o : Option ℕ) → Are (at_number s.links o s (λ n l. changed n (next l) s))
        go None = are.same
        go (Some n) = one n (slice_get s.links n) refl

    others_kept : (effects : List Effect) → Are (others queues wire_segments effects s)
    others_kept [] = are.same
    others_kept (GiveAddress own ∷ effects) = found_kept (HasAddress own) (forgotten wire_segments queues) are.forgets
    others_kept (effect ∷ effects) = are.same

    pub after_kept : (effects : List Effect) (n : Option ℕ) (l : LinkOf WireSegments) (k : Unit {0}) → Now n l →
        Are (after queues wire_segments s effects n l k)
    after_kept [] n l k now = are.same
    after_kept (Settle own ∷ effects) n l k now =
        found_kept (HasAddress own) (λ x. settled wire_segments x.queue.waits x) are.settles
    after_kept (EndAll ∷ effects) n l k now = are.boots
    after_kept (effect ∷ effects) None l k now = are.pushes _ l (others_kept (effect ∷ effects)) now
    after_kept (effect ∷ effects) (Some m) l k now = are.changes _ m l (others_kept (effect ∷ effects)) now

    -- ---- what the user does, what comes, and what is sent

    abbrev left : List Effect → Option ℕ → LinkOf WireSegments → Unit {0} → WireLinks
    left effects n l k = after queues wire_segments s effects n l k

    pub user_kept : (event : LinkEventValue) → RowShows queues (of_none queues wire_segments) s (λ es. Now) (user_row event) →
        Good Are (wire_links_user queues s event)
    user_kept event shows =
        user_by_row queues (of_none queues wire_segments) s (λ es. Now) (λ test. test) left Are after_kept event shows

    pub arrived_kept : (rule : PartnerRule) (packet : Carried) (tag : LinkTag) →
        RowShows queues (record { tag = tag; known = tt }) s (λ es. Now) (arrival_row packet.message) →
        Good Are (wire_links_arrived queues rule s packet tag)
    arrived_kept rule packet tag shows =
        good_check Are (eqb packet.src s.peer && eqb packet.dst s.node) WrongNode _ (λ e.
        comes_by_row queues (record { tag = tag; known = tt }) s (λ es. Now) rule left Are after_kept packet.message shows)

    pub sent_kept : (packet : Carried) → Sends queues s packet (λ es. Now) →
        Good (λ (made : Sent WireSegments (Unit {0})). Are made.links) (wire_links_sent queues s packet)
    sent_kept packet shows = sent_good queues s packet (λ es. Now) (λ made. Are made.links) after_kept shows

-- ---- a law of each link by itself

module _ (queues : Queues) (s : WireLinks) (Is : LinkOf WireSegments → Type 0) (are : Each Is s.links) where
  pub each_keeps : ((l : LinkOf WireSegments) → Is l → Is (forgotten wire_segments queues l)) →
      ((l : LinkOf WireSegments) → Is l → Is (settled wire_segments l.queue.waits l)) →
      ((l : LinkOf WireSegments) → Is l → Is (booted_link wire_segments queues l)) → AreKept queues s (λ n. Is) (λ x. Each Is x.links)
  each_keeps forgets settles boots = record {
    same = are;
    there = λ n l at. each_at Is s.links n l are at;
    forgets = λ n l. forgets l;
    settles = λ n l. settles l;
    pushes = λ x l all is. each_pushed Is x.links l all is;
    changes = λ x n l all is. each_changed Is x.links n l all is;
    boots = each_mapped Is (booted_link wire_segments queues) boots s.links are;
  }

-- ---- what holds whatever the row is

abbrev pub Any : {X : Type 0} → X → Type 0
Any x = Unit {0}

pub any : {X : Type 0} (xs : List X) → Each Any xs
any [] = tt
any (x ∷ xs) = (tt, any xs)

module _ (queues : Queues) (s : WireLinks) (X : Type 0) (x : X) where
  always_kept : (truth : LinkTruth (Unit {0})) → IsKept queues s (λ n l. X) Any Any truth
  always_kept truth = record {
    none = x;
    there = λ n l at. x;
    delivered = λ message n l d made now. x;
    sent = λ segment n l f gap may made now. x;
    acks = λ acks n l made gap may e now. x;
    does = λ n l effect calm now. x;
  }

  pub always_shows : (truth : LinkTruth (Unit {0})) (row : Row) → RowShows queues truth s (λ es n l. X) row
  always_shows truth (Asks asks effects) =
      calm_shows queues s (λ n l. X) Any Any truth (always_kept truth) (Asks asks effects) (any effects, any asks)

  pub always_sends : (truth : LinkTruth (Unit {0})) (row : Row) → SendShows queues truth s (λ es n l. X) row
  always_sends truth (Asks asks effects) =
      calm_sends queues s (λ n l. X) Any Any truth (always_kept truth) (Asks asks effects) (any effects, any asks)
