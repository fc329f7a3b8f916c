-- Whether a record or an event has a line, by the length of its bytes.
use Rattle.std.proofs.Common.{◌≡◌, ℕ, ◌<◌, ◌≤◌, leb, List, length, ap, sym, ◌⊎◌, inl, inr, ◌∙◌, arith}
use Rattle.std.specs.Prelude.{IsTrue, ◌↔◌}
use Rattle.std.proofs.lemmas.Bool.{leb-true, le-leb}
use Rattle.hex.specs.Hex.{IsBytes}
use Rattle.capture_record.specs.declared.limit.TheConstants.{MAX_HINT, MAX_UNIT, MAX_MESSAGE, MAX_PACKET, MAX_INTERRUPT}
use Rattle.capture_record.specs.declared.event.Event.{Event}
use Rattle.capture_record.specs.declared.event.Event.TheVariants.{In, Up, Composed, Interrupt, Interrupted}
use Rattle.capture_record.specs.declared.fate.Fate.{Fate}
use Rattle.capture_record.specs.declared.record.Record.{Record}
use Rattle.capture_record.specs.declared.record.Record.TheVariants.{Sent, Received, Noise}
use Rattle.capture_record.specs.Range.{IsEvent, IsRecord, EventNumbersFit, event_bytes, most_of_event}

length_tested : (slice bytes : List ℕ) (most : ℕ) → slice ≡ bytes → IsTrue (leb (length slice) most) → length bytes ≤ most
length_tested slice bytes most e t = leb-true (length bytes) most (ap (λ (b : List ℕ). leb (length b) most) (sym e) ∙ t)

length_test : (slice bytes : List ℕ) (most : ℕ) → slice ≡ bytes → length bytes ≤ most → IsTrue (leb (length slice) most)
length_test slice bytes most e le = ap (λ (b : List ℕ). leb (length b) most) e ∙ le-leb (length bytes) most le

-- an event that has bytes
event_tested : (event : Event) (slice : List ℕ) → slice ≡ event_bytes event → IsBytes (event_bytes event) → EventNumbersFit event →
    IsTrue (leb (length slice) (most_of_event event)) ↔ IsEvent event
event_tested event slice e fits numbers = (
  λ t. record { numbers = numbers; bytes = fits; short = length_tested slice (event_bytes event) (most_of_event event) e t },
  λ h. length_test slice (event_bytes event) (most_of_event event) e h.short,
)

-- a message that is handed in or delivered
pub message_tested : (event : Event) (slice bytes : List ℕ) (link : ℕ) → (event ≡ In link bytes) ⊎ (event ≡ Up link bytes) → slice ≡ bytes →
    IsBytes bytes → 0 < link → link < 65536
    → IsTrue (leb (length slice) MAX_MESSAGE) ↔ IsEvent event
message_tested event slice bytes link (inl is) e fits some small =
    rw is (event_tested (In link bytes) slice e fits (record { least = omega arith; most = omega arith }))
message_tested event slice bytes link (inr is) e fits some small =
    rw is (event_tested (Up link bytes) slice e fits (record { least = omega arith; most = omega arith }))

-- an interrupt
pub interrupt_tested : (event : Event) (slice bytes : List ℕ) (link : ℕ) → (event ≡ Interrupt link bytes) ⊎ (event ≡ Interrupted link bytes) →
    slice ≡ bytes → IsBytes bytes → 0 < link → link < 65536
    → IsTrue (leb (length slice) MAX_INTERRUPT) ↔ IsEvent event
interrupt_tested event slice bytes link (inl is) e fits some small =
    rw is (event_tested (Interrupt link bytes) slice e fits (record { least = omega arith; most = omega arith }))
interrupt_tested event slice bytes link (inr is) e fits some small =
    rw is (event_tested (Interrupted link bytes) slice e fits (record { least = omega arith; most = omega arith }))

-- a packet that will never be sent
pub composed_tested : (event : Event) (slice bytes : List ℕ) → event ≡ Composed bytes → slice ≡ bytes → IsBytes bytes →
    IsTrue (leb (length slice) MAX_PACKET) ↔ IsEvent event
composed_tested event slice bytes is e fits = rw is (event_tested (Composed bytes) slice e fits tt)

pub sent_tested : (r : Record) (slice bytes : List ℕ) → r ≡ Sent bytes → slice ≡ bytes → IsBytes bytes →
    IsTrue (leb (length slice) MAX_UNIT) ↔ IsRecord r
sent_tested r slice bytes is e fits =
    rw is (
      λ t. record { spelling = record { numbers = tt; bytes = fits }; short = length_tested slice bytes MAX_UNIT e t },
      λ h. length_test slice
          bytes MAX_UNIT e h.short,
    )

pub noise_tested : (r : Record) (slice bytes : List ℕ) → r ≡ Noise bytes → slice ≡ bytes → IsBytes bytes →
    IsTrue (leb (length slice) MAX_UNIT) ↔ IsRecord r
noise_tested r slice bytes is e fits =
    rw is (
      λ t. record { spelling = record { numbers = tt; bytes = fits }; short = length_tested slice bytes MAX_UNIT e t },
      λ h. length_test slice
          bytes MAX_UNIT e h.short,
    )

pub received_tested : (r : Record) (slice bytes : List ℕ) (hint : ℕ) (fate : Fate) → r ≡ Received hint fate bytes → slice ≡ bytes → IsBytes bytes →
    hint ≤ MAX_HINT → IsTrue (leb (length slice) MAX_UNIT) ↔ IsRecord r
received_tested r slice bytes hint fate is e fits small =
    rw is (
      λ t. record { spelling = record { numbers = small; bytes = fits }; short = length_tested slice bytes MAX_UNIT e t },
      λ h. length_test slice
          bytes MAX_UNIT e h.short,
    )
