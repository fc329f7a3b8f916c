-- What is left of any record that is made.
use Rattle.leaving_runs.proofs.Prelude.{◌≡◌, ℕ, true, ◌≤◌, ◌⊎◌, inl, inr, Some, None, List, [], ◌∷◌, ◌++◌, length, refl, subst, slice_get, Half}
use Rattle.leaving_runs.proofs.Prelude.{advance, Made, at_pushed, IsBytes, reading, IsRecord, Record, Sent, Received, Noise, User, Start, Halt}
use Rattle.leaving_runs.proofs.Prelude.{Sound, arrival_refusal, step, Queues, judged_by, LayersNode, LayersUnit, layers_machine, side_of, OnTop}
use Rattle.leaving_runs.proofs.Prelude.{ByStation, ByLinks, ByBoth, Composed, Carries, Again, First, Receipt, Counted, Unheard, HasItsMessage}
use Rattle.leaving_runs.proofs.Prelude.{Judged, other_out, other_judged, SideRight, with_body, bytes_left, Leaves, PacketsFit, RecordFits}
use Rattle.leaving_runs.proofs.Prelude.{of_record}
use Rattle.ddcmp_msg.specs.Reading as read_as
use Rattle.leaving_runs.proofs.Along.{Along}
use Rattle.leaving_runs.proofs.Users.{event_along}
use Rattle.leaving_runs.proofs.Sendings.{sent_along}
use Rattle.leaving_runs.proofs.Receipts.{received_along}
use Rattle.leaving_runs.proofs.Noises.{noise_along}

-- all that was sent is bytes
abbrev pub AreBytes : Half LayersNode LayersUnit → Type 0
AreBytes own = (i : ℕ) (unit : LayersUnit) → slice_get own.sent i ≡ Some unit → IsBytes unit.bytes

bytes_more : (units : List LayersUnit) (one : LayersUnit) → IsBytes one.bytes →
    ((i : ℕ) (unit : LayersUnit) → slice_get units i ≡ Some unit → IsBytes unit.bytes) →
    (i : ℕ) (unit : LayersUnit) → slice_get (units ++ one ∷ []) i ≡ Some unit → IsBytes unit.bytes
bytes_more units one fits all i unit there = go (at_pushed units one unit i there)
  where
    go : (slice_get units i ≡ Some unit) ⊎ ((i ≡ length units) × (one ≡ unit)) → IsBytes unit.bytes
    go (inl at) = all i unit at
    go (inr new) = subst (λ (x : LayersUnit). IsBytes x.bytes) new.1 fits

pub bytes_left_on : (queues : Queues) (own other : Half LayersNode LayersUnit) → AreBytes own → (r : Record) (h : Half LayersNode LayersUnit) →
    IsRecord r → OnTop (judged_by queues) own other r h → AreBytes h
bytes_left_on queues own other all r h is (Counted bytes reason) = all
bytes_left_on queues own other all r h is (Unheard bytes) = all
bytes_left_on queues own other all r h is (ByStation Start) = all
bytes_left_on queues own other all r h is (ByStation Halt) = all
bytes_left_on queues own other all r h is (ByLinks event of_links links e done) = all
bytes_left_on queues own other all r h is (ByBoth links done) = all
bytes_left_on queues own other all r h is (Composed body packet made done) = all
bytes_left_on queues own other all r h is (Carries event none) = all
bytes_left_on queues own other all r h is (Again bytes m old) = bytes_more own.sent _ is.spelling.bytes all
bytes_left_on queues own other all r h is (First bytes m new links carried made) = bytes_more own.sent _ is.spelling.bytes all
bytes_left_on queues own other all r h is (Receipt hint fate bytes unit arrival there links met) = all

-- what is known of the units of the other side
pub record AreKnown (queues : Queues) (packet : List ℕ → List ℕ) (own other : Half LayersNode LayersUnit) (front : ℕ) : Type 0 where
  pub reads : (hint : ℕ) (unit : LayersUnit) → slice_get other.sent hint ≡ Some unit → reading unit.bytes ≡ read_as.Sound unit.message
  pub still : (hint : ℕ) (unit : LayersUnit) → slice_get other.sent hint ≡ Some unit →
      reading (bytes_left packet unit.bytes) ≡ read_as.Sound (with_body packet unit.message)
  pub kept : (hint : ℕ) (unit : LayersUnit) → slice_get other.sent hint ≡ Some unit → own.state.front ≤ hint →
      arrival_refusal (judged_by queues).periods own.state.station.station (Sound unit.message unit.known.station) true ≡ None →
      HasItsMessage other front unit

module _ (queues : Queues) (leaves : Leaves) (judged : Judged) (own other : Half LayersNode LayersUnit)
    (mine : SideRight leaves.out judged (side_of own 0) (side_of other 0))
    (theirs : SideRight (other_out leaves.out) (other_judged judged) (side_of other 0) (side_of own 0)) where
  pub record_along : (fits : PacketsFit leaves.out own.state.station.links.node own.state.station.links.peer leaves.packets.own) (front : ℕ) →
      AreKnown queues leaves.packets.far own other front → (r : Record) (h : Half LayersNode LayersUnit) → RecordFits leaves.out r →
      advance (step (layers_machine (judged_by queues))) own other r ≡ Made h →
      Along queues leaves judged own other mine theirs r (of_record own other r) h
  record_along fits front known (Sent bytes) h is made =
      sent_along queues leaves judged own other mine theirs fits bytes is.0.spelling.bytes h made
  record_along fits front known (Received hint fate bytes) h is made =
      received_along queues leaves judged own other mine theirs hint bytes h fate front (λ unit there. known.reads hint unit there)
      (λ unit there. known.still hint unit there) (λ unit there ahead allowed. known.kept hint unit there ahead allowed)
      (slice_get other.sent hint) refl made
  record_along fits front known (Noise bytes) h is made =
      noise_along queues leaves judged own other mine theirs bytes h (reading bytes) refl made
  record_along fits front known (User event) h is made =
      event_along queues leaves judged own other mine theirs fits h event is.0 is.1 made
