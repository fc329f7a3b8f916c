-- No LF stands in the words of a line, and they are no longer than a line may be.
use Rattle.std.proofs.Common.{◌≡◌, ℕ, ◌+◌, ◌*◌, ◌/◌, ◌%◌, ◌≤◌, true, eqb, not, List, [], ◌∷◌, length, refl, arith, lit<}
use Rattle.std.specs.Prelude.{codes}
use Rattle.std.specs.Fmt.{decimal}
use Rattle.std.specs.List.{list_all}
use Rattle.std.proofs.lemmas.Bool.{and_parts, eqb-false, not-true}
use Rattle.std.proofs.lemmas.List.{length-append}
use Rattle.std.proofs.lemmas.Fmt.{length-decimal-le}
use Rattle.hex.specs.Hex.{IsBytes, lower_digits}
use Rattle.hex.proofs.HexLemmas.{length-encode_with}
use Rattle.capture_record.specs.declared.limit.TheConstants.{MAX_UNIT, MAX_MESSAGE, MAX_PACKET, MAX_INTERRUPT}
use Rattle.capture.specs.declared.limit.TheConstants.{MAX_LINE}
use Rattle.capture_record.specs.declared.event.Event.{Event}
use Rattle.capture_record.specs.declared.event.Event.TheVariants.{Start, Halt, Open, Accept, Reject, In, Up, Close}
use Rattle.capture_record.specs.declared.event.Event.TheVariants.{Boot, Abort, Composed, Interrupt, Interrupted}
use Rattle.capture_record.specs.declared.fate.Fate.{Fate}
use Rattle.capture_record.specs.declared.fate.Fate.TheVariants.{NotKept, Kept, Dropped}
use Rattle.capture_record.specs.declared.record.Record.{Record}
use Rattle.capture_record.specs.declared.record.Record.TheVariants.{Sent, Received, Noise, User}
use Rattle.capture.specs.declared.hint.HintForm.{HintForm}
use Rattle.capture.specs.declared.format.Format.{Format}
use Rattle.capture.specs.declared.format.Format.TheVariants.{One, Two, Three}
use Rattle.capture.specs.Text.{spaced, bytes_text, hint_text, address_text, fate_front, event_front, event_text, record_text, format_text, head_text}
use Rattle.capture_record.specs.Range.{IsLink, EventNumbersFit, event_bytes, most_of_event, HasSpelling, IsRecord}
use Rattle.capture.specs.Range.{FormFits, IsNode}
use Rattle.capture.proofs.PartLaws.{HasNo, HasNo-append}
use Rattle.capture.proofs.NumberLaws.{decimal_lacks}
use Rattle.capture.proofs.AddressLaws.{address_lacks}
use Rattle.capture.proofs.BytesLaws.{bytes_lack}
use Rattle.capture.proofs.HintLaws.{hint_lacks, hint_short}

-- by a test that computes
pub lacks : (mark : ℕ) (text : List ℕ) → list_all (λ b. not (eqb b mark)) text ≡ true → HasNo mark text
lacks mark [] h = tt
lacks mark (b ∷ text) h =
    let parts = and_parts (not (eqb b mark)) (list_all (λ c. not (eqb c mark)) text) h in
    (eqb-false b mark (not-true _ parts.0), lacks mark text parts.1)

pub spaced_lacks : (a b : List ℕ) → HasNo 10 a → HasNo 10 b → HasNo 10 (spaced a b)
spaced_lacks a b p q = HasNo-append 10 a (32 ∷ b) p (λ e. absurd (omega arith), q)

pub link_lacks : (link : ℕ) → IsLink link → HasNo 10 (decimal link)
link_lacks link h = let most = h.most in decimal_lacks 10 link (omega arith) (omega arith)

event_lacks : (e : Event) → EventNumbersFit e → IsBytes (event_bytes e) → HasNo 10 (event_text e)
event_lacks Start h fits = lacks 10 (codes "start") refl
event_lacks Halt h fits = lacks 10 (codes "halt") refl
event_lacks (Open link) h fits = HasNo-append 10 (codes "open ") (decimal link) (lacks 10 (codes "open ") refl) (link_lacks link h)
event_lacks (Accept partner link) h fits =
    HasNo-append 10 (codes "accept ") (spaced (decimal partner) (decimal link)) (lacks 10 (codes "accept ") refl)
    (spaced_lacks (decimal partner) (decimal link) (link_lacks partner h.0) (link_lacks link h.1))
event_lacks (Reject partner link) h fits =
    HasNo-append 10 (codes "reject ") (spaced (decimal partner) (decimal link)) (lacks 10 (codes "reject ") refl)
    (spaced_lacks (decimal partner) (decimal link) (link_lacks partner h.0) (link_lacks link h.1))
event_lacks (In link bytes) h fits = HasNo-append 10 (codes "in ") (spaced (decimal link) (bytes_text bytes)) (lacks 10 (codes "in ") refl)
    (spaced_lacks (decimal link) (bytes_text bytes) (link_lacks link h) (bytes_lack 10 bytes (lit< tt) fits))
event_lacks (Up link bytes) h fits = HasNo-append 10 (codes "up ") (spaced (decimal link) (bytes_text bytes)) (lacks 10 (codes "up ") refl)
    (spaced_lacks (decimal link) (bytes_text bytes) (link_lacks link h) (bytes_lack 10 bytes (lit< tt) fits))
event_lacks (Close link) h fits = HasNo-append 10 (codes "close ") (decimal link) (lacks 10 (codes "close ") refl) (link_lacks link h)
event_lacks Boot h fits = lacks 10 (codes "boot") refl
event_lacks (Abort link) h fits = HasNo-append 10 (codes "abort ") (decimal link) (lacks 10 (codes "abort ") refl) (link_lacks link h)
event_lacks (Composed bytes) h fits = bytes_lack 10 bytes (lit< tt) fits
event_lacks (Interrupt link bytes) h fits =
    HasNo-append 10 (codes "interrupt ") (spaced (decimal link) (bytes_text bytes)) (lacks 10 (codes "interrupt ") refl)
    (spaced_lacks (decimal link) (bytes_text bytes) (link_lacks link h) (bytes_lack 10 bytes (lit< tt) fits))
event_lacks (Interrupted link bytes) h fits =
    HasNo-append 10 (codes "interrupted ") (spaced (decimal link) (bytes_text bytes)) (lacks 10 (codes "interrupted ") refl)
    (spaced_lacks (decimal link) (bytes_text bytes) (link_lacks link h) (bytes_lack 10 bytes (lit< tt) fits))

front_lacks : (e : Event) → HasNo 10 (event_front e)
front_lacks Start = lacks 10 (codes "u ") refl
front_lacks Halt = lacks 10 (codes "u ") refl
front_lacks (Open link) = lacks 10 (codes "u ") refl
front_lacks (Accept partner link) = lacks 10 (codes "u ") refl
front_lacks (Reject partner link) = lacks 10 (codes "u ") refl
front_lacks (In link bytes) = lacks 10 (codes "u ") refl
front_lacks (Up link bytes) = lacks 10 (codes "u ") refl
front_lacks (Close link) = lacks 10 (codes "u ") refl
front_lacks Boot = lacks 10 (codes "u ") refl
front_lacks (Abort link) = lacks 10 (codes "u ") refl
front_lacks (Composed bytes) = lacks 10 (codes "x ") refl
front_lacks (Interrupt link bytes) = lacks 10 (codes "u ") refl
front_lacks (Interrupted link bytes) = lacks 10 (codes "u ") refl

fate_lacks : (fate : Fate) → HasNo 10 (fate_front fate)
fate_lacks NotKept = lacks 10 (codes "r ") refl
fate_lacks Kept = lacks 10 (codes "k ") refl
fate_lacks Dropped = lacks 10 (codes "d ") refl

pub record_lacks : (form : HintForm) (r : Record) → FormFits form → HasSpelling r → HasNo 10 (record_text form r)
record_lacks form (Sent bytes) fits h =
    HasNo-append 10 (codes "s ") (bytes_text bytes) (lacks 10 (codes "s ") refl) (bytes_lack 10 bytes (lit< tt) h.bytes)
record_lacks form (Received hint fate bytes) fits h =
    HasNo-append 10 (fate_front fate) (spaced (hint_text form hint) (bytes_text bytes)) (fate_lacks fate)
    (spaced_lacks (hint_text form hint) (bytes_text bytes) (hint_lacks form 10 hint (lit< tt) fits h.numbers) (bytes_lack 10 bytes (lit< tt) h.bytes))
record_lacks form (Noise bytes) fits h =
    HasNo-append 10 (codes "n ") (bytes_text bytes) (lacks 10 (codes "n ") refl) (bytes_lack 10 bytes (lit< tt) h.bytes)
record_lacks form (User event) fits h =
    HasNo-append 10 (event_front event) (event_text event) (front_lacks event) (event_lacks event h.numbers h.bytes)

format_lacks : (format : Format) → HasNo 10 (format_text format)
format_lacks One = lacks 10 (codes "ddcap 1 ") refl
format_lacks Two = lacks 10 (codes "ddcap 2 ") refl
format_lacks Three = lacks 10 (codes "ddcap 3 ") refl

pub head_lacks : (format : Format) (own peer : ℕ) → IsNode own → IsNode peer → HasNo 10 (head_text format own peer)
head_lacks format own peer p q = HasNo-append 10 (format_text format) (spaced (address_text own) (address_text peer)) (format_lacks format)
    (spaced_lacks (address_text own) (address_text peer) (address_lacks 10 own (lit< tt) p) (address_lacks 10 peer (lit< tt) q))

-- ---- lengths

pub link_short : (link : ℕ) → IsLink link → length (decimal link) ≤ 5
link_short link h = let most = h.most in length-decimal-le 5 link (lit< tt) (omega arith) (omega arith)

pub bytes_short : (most : ℕ) (bytes : List ℕ) → 1 ≤ most → length bytes ≤ most → length (bytes_text bytes) ≤ 2 * most
bytes_short most [] some h = omega arith
bytes_short most (b ∷ bytes) some h = let len = length-encode_with lower_digits (b ∷ bytes) in omega arith

pub spaced_short : (a b : List ℕ) (m n : ℕ) → length a ≤ m → length b ≤ n → length (spaced a b) ≤ m + n + 1
spaced_short a b m n p q = omega (arith, length-append a (32 ∷ b))

event_short : (e : Event) → EventNumbersFit e → length (event_bytes e) ≤ most_of_event e → length (event_text e) ≤ 131079
event_short Start h short = omega arith
event_short Halt h short = omega arith
event_short (Open link) h short = let n = link_short link h in omega arith
event_short (Accept partner link) h short =
    let n = spaced_short (decimal partner) (decimal link) 5 5 (link_short partner h.0) (link_short link h.1) in omega arith
event_short (Reject partner link) h short =
    let n = spaced_short (decimal partner) (decimal link) 5 5 (link_short partner h.0) (link_short link h.1) in omega arith
event_short (In link bytes) h short =
    let n = spaced_short (decimal link) (bytes_text bytes) 5 131070 (link_short link h) (bytes_short MAX_MESSAGE bytes (omega arith) short) in
    omega arith
event_short (Up link bytes) h short =
    let n = spaced_short (decimal link) (bytes_text bytes) 5 131070 (link_short link h) (bytes_short MAX_MESSAGE bytes (omega arith) short) in
    omega arith
event_short (Close link) h short = let n = link_short link h in omega arith
event_short Boot h short = omega arith
event_short (Abort link) h short = let n = link_short link h in omega arith
event_short (Composed bytes) h short = let n = bytes_short MAX_PACKET bytes (omega arith) short in omega arith
event_short (Interrupt link bytes) h short =
    let n = spaced_short (decimal link) (bytes_text bytes) 5 32 (link_short link h) (bytes_short MAX_INTERRUPT bytes (omega arith) short) in
    omega arith
event_short (Interrupted link bytes) h short =
    let n = spaced_short (decimal link) (bytes_text bytes) 5 32 (link_short link h) (bytes_short MAX_INTERRUPT bytes (omega arith) short) in
    omega arith

front_short : (e : Event) → length (event_front e) ≡ 2
front_short Start = refl
front_short Halt = refl
front_short (Open link) = refl
front_short (Accept partner link) = refl
front_short (Reject partner link) = refl
front_short (In link bytes) = refl
front_short (Up link bytes) = refl
front_short (Close link) = refl
front_short Boot = refl
front_short (Abort link) = refl
front_short (Composed bytes) = refl
front_short (Interrupt link bytes) = refl
front_short (Interrupted link bytes) = refl

fate_short : (fate : Fate) → length (fate_front fate) ≡ 2
fate_short NotKept = refl
fate_short Kept = refl
fate_short Dropped = refl

pub record_short : (form : HintForm) (r : Record) → FormFits form → IsRecord r → length (record_text form r) ≤ MAX_LINE
record_short form (Sent bytes) fits h = let n = bytes_short MAX_UNIT bytes (omega arith) h.short in omega arith
record_short form (Received hint fate bytes) fits h =
    let n = spaced_short (hint_text form hint) (bytes_text bytes) 20 32786 (hint_short form hint fits h.spelling.numbers)
    (bytes_short MAX_UNIT bytes (omega arith) h.short) in
    omega (arith, fate_short fate, length-append (fate_front fate) (spaced (hint_text form hint) (bytes_text bytes)))
record_short form (Noise bytes) fits h = let n = bytes_short MAX_UNIT bytes (omega arith) h.short in omega arith
record_short form (User event) fits h =
    let n = event_short event h.spelling.numbers h.short in
    omega (arith, front_short event, length-append (event_front event) (event_text event))

pub address_short : (address : ℕ) → IsNode address → length (address_text address) ≤ 7
address_short address h =
    let area = length-decimal-le 2 (address / 1024) (lit< tt) (omega (arith, h.most_area)) (omega (arith, h.most_area)) in
    let node = length-decimal-le 4 (address % 1024) (lit< tt) (omega arith) (omega arith) in
    omega (arith, length-append (decimal (address / 1024)) (46 ∷ decimal (address % 1024)))

format_short : (format : Format) → length (format_text format) ≡ 8
format_short One = refl
format_short Two = refl
format_short Three = refl

pub head_short : (format : Format) (own peer : ℕ) → IsNode own → IsNode peer → length (head_text format own peer) ≤ MAX_LINE
head_short format own peer p q =
    let n = spaced_short (address_text own) (address_text peer) 7 7 (address_short own p) (address_short peer q) in
    omega (arith, format_short format, length-append (format_text format) (spaced (address_text own) (address_text peer)))
