-- What the steps of links come to in every run, with queues or without: the few things on which bounds and deliveries rest.
use Rattle.std.proofs.Common.{◌≡◌, ℕ, ◌+◌, ◌<◌, ◌≤◌, Bool, true, false, Option, Some, None, List, [], ◌∷◌, ◌++◌, length, Ok}
use Rattle.std.specs.Prelude.{slice_get}
use Rattle.std.proofs.lemmas.Bool.{and_parts}
use Rattle.dna_packet.specs.declared.ack_word.AckWord.{AckWord}
use Rattle.dna_packet.specs.Nsp.{SegmentValue, NspValue, DataSegment, DataAck, DisconnectConfirm}
use Rattle.dna_links.specs.Queues.{ended, freed, booted}
use Rattle.dna_links.specs.declared.queue.Queues.TheVariants.{Without}
use Rattle.dna_links.specs.declared.port.Phase.TheVariants.{Confirming, Disconnecting}
use Rattle.dna_links.specs.declared.port.LinkTest.TheVariants.{HasAddress, LiveAt, CalledBy}
use Rattle.dna_links.specs.LookUps.{is_live, is_at}
use Rattle.dna_links.specs.SegmentBook.{Sending}
use Rattle.dna_links.specs.Links.{LinkOf, Carried, number_of, begun, changed, in_phase, with_segments}
use Rattle.dna_links.specs.User.{LinkEventValue, Open, Accept, Reject, In, Up, Close, Abort, Boot}
use Rattle.dna_links.specs.inner.Forms.{opened, answered, of_no_link, truth_of, unchanged, ending}
use Rattle.dna_links.specs.Sending.{Sent}
use Rattle.dna_links.specs.Arriving.{of_partner}
use Rattle.dna_links.specs.TrueSegments.{TrueSegments, Numbers, hands_in, delivers, true_segments}
use Rattle.dna_links.specs.TrueLinks.{Links}
use Rattle.dna_links.specs.Runs.{SentMessage, LinkSide, LinkWorld, sends, keeps, LinkStep, Reached, Start, ByA, ByB}
use Rattle.dna_links.specs.Runs as runs
use Rattle.dna_links.proofs.Tables.Outcomes.{IsFound, user_did}
use Rattle.dna_links.proofs.Tables.MessageOutcomes.{has_numbers, ArrivedDid, sent_did, arrived_did}
use Rattle.dna_links.proofs.Tables.Outcomes as outcomes
use Rattle.dna_links.proofs.Tables.MessageOutcomes as messages
use Rattle.dna_links.proofs.Runs.Sends.{AreSoundSegments, SendsWords, SendsSegment, acks_sent, segment_sent}

-- ---- the user

pub data UserDid (s : Links) : LinkEventValue → Links → Type 0 where
  Opens : (own : ℕ) → number_of (LiveAt own) s ≡ None → UserDid s (Open own) (begun (opened true_segments own) (freed true_segments Without own s))
  Accepts : (far own number : ℕ) (link : LinkOf TrueSegments) → IsFound (CalledBy far) s number link → number_of (LiveAt own) s ≡ None →
      UserDid s (Accept far own) (changed number (answered true_segments Confirming own link) (freed true_segments Without own s))
  Rejects : (far own number : ℕ) (link : LinkOf TrueSegments) → IsFound (CalledBy far) s number link → number_of (LiveAt own) s ≡ None →
      UserDid s (Reject far own) (changed number (answered true_segments Disconnecting own link) (freed true_segments Without own s))
  HandsIn : (own : ℕ) (message : List ℕ) (number : ℕ) (link : LinkOf TrueSegments) → slice_get s.links number ≡ Some link →
      is_at link.port.own own ≡ true → UserDid s (In own message) (changed number (with_segments (hands_in message link.segments) link) s)
  Delivers : (own : ℕ) (message : List ℕ) (number : ℕ) (link : LinkOf TrueSegments) (segments : TrueSegments) →
      IsFound (HasAddress own) s number link → delivers message link.segments ≡ Some segments →
      UserDid s (Up own message) (changed number (with_segments segments link) s)
  Closes : (own number : ℕ) (link : LinkOf TrueSegments) → slice_get s.links number ≡ Some link → is_live link.port.phase ≡ true →
      UserDid s (Close own) (changed number (in_phase Disconnecting link) s)
  -- of a link that has ended, with queues
  ClosesLate : (own : ℕ) → UserDid s (Close own) s
  Aborts : (own number : ℕ) (link : LinkOf TrueSegments) → slice_get s.links number ≡ Some link →
      UserDid s (Abort own) (changed number (ended true_segments link) s)
  Boots : UserDid s Boot (booted true_segments Without s)

-- ---- a message that is sent

pub data SentDid (s : Links) (m : NspValue) : Sent TrueSegments Numbers → Type 0 where
  OfNone : has_numbers m ≡ false → SentDid s m (of_no_link true_segments s)
  Stays : (number : ℕ) (link : LinkOf TrueSegments) → has_numbers m ≡ false → slice_get s.links number ≡ Some link →
      SentDid s m (unchanged true_segments s number link)
  EndsCalled : (far reason number : ℕ) (link : LinkOf TrueSegments) → has_numbers m ≡ false → m ≡ DisconnectConfirm far 0 reason →
      IsFound (CalledBy far) s number link → SentDid s m (ending true_segments s number link)
  Segment : (segment : SegmentValue) (number : ℕ) (link : LinkOf TrueSegments) (sent : Sending TrueSegments Numbers) → m ≡ DataSegment segment →
      slice_get s.links number ≡ Some link → ((o : AreSoundSegments link.segments) → SendsSegment link.segments o segment sent) →
      SentDid s m (record { links = changed number (with_segments sent.segments link) s; truth = truth_of true_segments number link sent.known })
  Acks : (dst src : ℕ) (acks : List AckWord) (number : ℕ) (link : LinkOf TrueSegments) (sent : Sending TrueSegments Numbers) →
      m ≡ DataAck dst src acks →
      slice_get s.links number ≡ Some link → ((o : AreSoundSegments link.segments) → SendsWords link.segments o acks sent) →
      SentDid s m (record { links = changed number (with_segments sent.segments link) s; truth = truth_of true_segments number link sent.known })

-- ---- steps of one side

pub data LooseStep (own other : LinkSide) : List LinkEventValue → LinkSide → Type 0 where
  ByUser : (event : LinkEventValue) (links : Links) → UserDid own.links event links →
      LooseStep own other (event ∷ []) (record { links = links; sent = own.sent; front = own.front })
  Sends : (packet : Carried) (made : Sent TrueSegments Numbers) → SentDid own.links packet.message made →
      LooseStep own other [] (sends own made.links (Some (record { packet = packet; truth = made.truth })))
  SendsNone : LooseStep own other [] (sends own own.links None)
  Composes : (packet : Carried) (made : Sent TrueSegments Numbers) → SentDid own.links packet.message made →
      LooseStep own other [] (record { links = made.links; sent = own.sent; front = own.front })
  Keeps : (place : ℕ) (unit : SentMessage) (links : Links) → own.front ≤ place → slice_get other.sent place ≡ Some (Some unit) →
      ArrivedDid true_segments of_partner own.links unit.packet.message unit.truth links → LooseStep own other [] (keeps own links place)
  Passes : (place : ℕ) → own.front ≤ place → place < length other.sent → LooseStep own other [] (keeps own own.links place)

pub data LooselyReached (start : LinkWorld) : LinkWorld → (of_a of_b : List LinkEventValue) → Type 0 where
  Begins : LooselyReached start start [] []
  OfA : {w : LinkWorld} {of_a of_b events : List LinkEventValue} {left : LinkSide} → LooselyReached start w of_a of_b →
      LooseStep w.a w.b events left →
      LooselyReached start (record { a = left; b = w.b }) (of_a ++ events) of_b
  OfB : {w : LinkWorld} {of_a of_b events : List LinkEventValue} {left : LinkSide} → LooselyReached start w of_a of_b →
      LooseStep w.b w.a events left →
      LooselyReached start (record { a = w.a; b = left }) of_a (of_b ++ events)

-- ---- without queues

user_loose : (s left : Links) (event : LinkEventValue) → outcomes.UserDid true_segments s event left → UserDid s event left
user_loose s left event (outcomes.Opens own free) = Opens own free
user_loose s left event (outcomes.Accepts far own number link found free) = Accepts far own number link found free
user_loose s left event (outcomes.Rejects far own number link found free) = Rejects far own number link found free
user_loose s left event (outcomes.HandsIn own message number link found may) =
    HandsIn own message number link found.there (and_parts (is_live link.port.phase) (is_at link.port.own own) found.passed).1
user_loose s left event (outcomes.Delivers own message number link segments found does) = Delivers own message number link segments found does
user_loose s left event (outcomes.Closes own number link found connected) =
    Closes own number link found.there (and_parts (is_live link.port.phase) (is_at link.port.own own) found.passed).0
user_loose s left event (outcomes.Aborts own number link found calling) = Aborts own number link found.there
user_loose s left event outcomes.Boots = Boots

sent_loose : (s : Links) (m : NspValue) (made : Sent TrueSegments Numbers) → messages.SentDid true_segments s m made → SentDid s m made
sent_loose s m made (messages.OfNone none) = OfNone none
sent_loose s m made (messages.Stays number link none there) = Stays number link none there
sent_loose s m made (messages.EndsCalled far reason number link none is found) = EndsCalled far reason number link none is found
sent_loose s m made (messages.Segment segment number link sent is found run does) =
    Segment segment number link sent is found.there (λ o. segment_sent link.segments o link.segsize segment sent does)
sent_loose s m made (messages.Acks dst src acks number link sent is found run does) =
    Acks dst src acks number link sent is found.there (λ o. acks_sent link.segments o acks sent does)

step_loose : (own other left : LinkSide) (events : List LinkEventValue) → LinkStep Without own other events left → LooseStep own other events left
step_loose own other left events (runs.ByUser event links does) =
    ByUser event links (user_loose own.links links event (user_did true_segments own.links links event does))
step_loose own other left events (runs.Sends packet made does) =
    Sends packet made (sent_loose own.links packet.message made (sent_did true_segments own.links made packet does))
step_loose own other left events runs.SendsNone = SendsNone
step_loose own other left events (runs.Composes packet made does) =
    Composes packet made (sent_loose own.links packet.message made (sent_did true_segments own.links made packet does))
step_loose own other left events (runs.Keeps place unit links ahead there does) =
    Keeps place unit links ahead there (arrived_did true_segments of_partner own.links links unit.truth unit.packet does)
step_loose own other left events (runs.Passes place ahead less) = Passes place ahead less

pub without_loose : {start w : LinkWorld} {of_a of_b : List LinkEventValue} → Reached Without start w of_a of_b → LooselyReached start w of_a of_b
without_loose Start = Begins
without_loose (ByA {w = v} {events = made} {left = left} r step) = OfA (without_loose r) (step_loose v.a v.b left made step)
without_loose (ByB {w = v} {events = made} {left = left} r step) = OfB (without_loose r) (step_loose v.b v.a left made step)
