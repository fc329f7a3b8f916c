-- The test whether a record has a line tells just that.
use Rattle.dna_play.proofs.Prelude.{◌≡◌, ℕ, Bool, true, ◌&&◌, length, refl, le-leb, leb-true, ◌↔◌, nat_le, both_true, and_parts, Decides-and}
use Rattle.dna_play.proofs.Prelude.{MAX_HINT, MAX_LINK, Event, Up, Composed, Interrupt, Interrupted, Record, Received, User, IsLink}
use Rattle.dna_play.proofs.Prelude.{EventNumbersFit, NumbersFit, IsRecord, record_bytes, most_bytes, is_link, event_numbers_fit, numbers_fit}
use Rattle.dna_play.proofs.Prelude.{are_bytes, has_line}
use Rattle.capture_record.specs.declared.event.Event.TheVariants.{Start, Halt, Open, Accept, Reject, In, Close}
use Rattle.capture_record.specs.declared.event.Event.TheVariants.{Boot, Abort}
use Rattle.dna_play.proofs.Bytes.{bytes_told, bytes_tested}

-- two tests
both : {P Q : Type 0} {p q : Bool} → (p ≡ true) ↔ P → (q ≡ true) ↔ Q → ((p && q) ≡ true) ↔ (P × Q)
both {p = p} {q = q} f g = (λ e. let t = and_parts p q e in (f.0 t.0, g.0 t.1), λ h. both_true (f.1 h.0) (g.1 h.1))

none : {P : Type 0} → P → (true ≡ true) ↔ P
none p = (λ e. p, λ h. refl)

link_decides : (link : ℕ) → (is_link link ≡ true) ↔ IsLink link
link_decides link = (
  λ e. let p = and_parts (nat_le 1 link) (nat_le link MAX_LINK) e in record { least = leb-true 1 link p.0; most = leb-true link MAX_LINK p.1 },
  λ h. both_true (le-leb 1 link h.least) (le-leb link MAX_LINK h.most),
)

event_decides : (event : Event) → (event_numbers_fit event ≡ true) ↔ EventNumbersFit event
event_decides Start = none tt
event_decides Halt = none tt
event_decides (Open link) = link_decides link
event_decides (Accept partner link) = Decides-and (is_link partner) (is_link link) (link_decides partner) (link_decides link)
event_decides (Reject partner link) = Decides-and (is_link partner) (is_link link) (link_decides partner) (link_decides link)
event_decides (In link bytes) = link_decides link
event_decides (Up link bytes) = link_decides link
event_decides (Close link) = link_decides link
event_decides Boot = none tt
event_decides (Abort link) = link_decides link
event_decides (Composed bytes) = none tt
event_decides (Interrupt link bytes) = link_decides link
event_decides (Interrupted link bytes) = link_decides link

numbers_decide : (r : Record) → (numbers_fit r ≡ true) ↔ NumbersFit r
numbers_decide (Received hint fate bytes) = (leb-true hint MAX_HINT, le-leb hint MAX_HINT)
numbers_decide (User event) = event_decides event
numbers_decide r = none tt

-- a record that passes the test has a line
pub line_told : (r : Record) → has_line r ≡ true → IsRecord r
line_told r e =
    let p = and_parts (numbers_fit r) _ e in let q = and_parts (are_bytes (record_bytes r)) _ p.1 in record {
      spelling = record { numbers = (numbers_decide r).0 p.0; bytes = bytes_told (record_bytes r) q.0 };
      short = leb-true (length (record_bytes r)) (most_bytes r) q.1;
    }

-- a record that has a line passes it
pub line_tested : (r : Record) → IsRecord r → has_line r ≡ true
line_tested r h =
    both_true ((numbers_decide r).1 h.spelling.numbers)
    (both_true (bytes_tested (record_bytes r) h.spelling.bytes) (le-leb (length (record_bytes r)) (most_bytes r) h.short))

-- so does an event without bytes
pub bare_line : (event : Event) → EventNumbersFit event →
    (are_bytes (record_bytes (User event)) && nat_le (length (record_bytes (User event))) (most_bytes (User event))) ≡ true →
    has_line (User event) ≡ true
bare_line event fits bare = both_true ((event_decides event).1 fits) bare
