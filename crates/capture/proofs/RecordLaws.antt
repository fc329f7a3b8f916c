-- Records: what is read is the record's one spelling, and its spelling is read.
use Rattle.std.proofs.Common.{◌≡◌, ℕ, ◌<◌, ◌≤◌, ◌⊎◌, inl, inr, Bool, true, false, cond, List, ◌∷◌, ◌++◌, length, Some, Ok, Err, refl}
use Rattle.std.proofs.Common.{sym, ap, ◌∙◌, arith, lit<}
use Rattle.std.specs.Prelude.{codes}
use Rattle.std.proofs.lemmas.Bool.{le-leb, lt-leb}
use Rattle.hex.specs.Hex.{IsBytes}
use Rattle.capture_record.specs.declared.limit.TheConstants.{MAX_HINT, MAX_UNIT, MAX_PACKET}
use Rattle.capture_record.specs.declared.event.Event.{Event}
use Rattle.capture_record.specs.declared.event.Event.TheVariants.{Start, Halt, Open, Accept, Reject, In, Up, Close}
use Rattle.capture_record.specs.declared.event.Event.TheVariants.{Boot, Abort, Composed, Interrupt, Interrupted}
use Rattle.capture_record.specs.declared.fate.Fate.{Fate}
use Rattle.capture_record.specs.declared.fate.Fate.TheVariants.{NotKept, Kept, Dropped}
use Rattle.capture_record.specs.declared.record.Record.{Record}
use Rattle.capture_record.specs.declared.record.Record.TheVariants.{Sent, Received, Noise, User}
use Rattle.capture.specs.declared.hint.HintForm.{HintForm}
use Rattle.capture.specs.declared.hint.HintForm.TheVariants.{Number, Distance, Wide, Part}
use Rattle.capture.specs.declared.fault.Departure.TheVariants.{Syntax, TooLong}
use Rattle.capture.specs.Text.{spaced, bytes_text, hint_text, fate_front, event_front, event_text, record_text}
use Rattle.capture_record.specs.Range.{NumbersFit, record_bytes, most_bytes, event_bytes, most_of_event, HasSpelling, IsShort, IsRecord}
use Rattle.capture.specs.Range.{FormFits, IsInForm}
use Rattle.capture.specs.Reading.{after, cut_at, hint_at, bytes_at, receipt_at, event_at, is_wide, wide_at, line_at, record_at}
use Rattle.capture.proofs.PartLaws.{after_takes, cut_takes, cut_again}
use Rattle.capture.proofs.HintLaws.{hint_takes, hint_again, hint_lacks}
use Rattle.capture.proofs.BytesLaws.{IsBytesOf, IsLongOf, bytes_shows, bytes_again, limited, limited_then}
use Rattle.capture.proofs.EventLaws.{IsAllowed, IsEventOf, IsLongEventOf, allowed, not_allowed, event_shows, event_again}
use Rattle.capture.proofs.Shown.{Shows, shows_map, shows_weaker, shows_must, shows_or_else}

-- ---- records

pub allowed_in : (form : HintForm) (r : Record) → IsAllowed (is_wide form) r → IsInForm form r
allowed_in Number r h = h
allowed_in (Distance mark) r h = h
allowed_in Wide r h = h
allowed_in Part r h = h

pub in_allowed : (form : HintForm) (r : Record) → IsInForm form r → IsAllowed (is_wide form) r
in_allowed Number r h = h
in_allowed (Distance mark) r h = h
in_allowed Wide r h = h
in_allowed Part r h = h

-- a record that was read, and one that was read except for the length of its BYTES
abbrev pub IsRecordOf : (wide : Bool) → HintForm → List ℕ → Record → Type 0
IsRecordOf wide form text r = (text ≡ record_text form r) × NumbersFit r × IsBytes (record_bytes r) × (length (record_bytes r) ≤ most_bytes r)
    × IsAllowed wide r

abbrev pub IsLongRecordOf : (wide : Bool) → HintForm → List ℕ → Record → Type 0
IsLongRecordOf wide form text r = (text ≡ record_text form r) × NumbersFit r × IsBytes (record_bytes r) × (most_bytes r < length (record_bytes r))
    × IsAllowed wide r

-- the text after the letter of a receipt
abbrev IsReceiptOf : HintForm → Fate → List ℕ → Record → Type 0
IsReceiptOf form fate text r = (hint : ℕ) × (bytes : List ℕ) × (r ≡ Received hint fate bytes) ×
    (text ≡ spaced (hint_text form hint) (bytes_text bytes)) × (hint ≤ MAX_HINT) × IsBytes bytes × (length bytes ≤ MAX_UNIT)

abbrev IsLongReceiptOf : HintForm → Fate → List ℕ → Record → Type 0
IsLongReceiptOf form fate text r = (hint : ℕ) × (bytes : List ℕ) × (r ≡ Received hint fate bytes) ×
    (text ≡ spaced (hint_text form hint) (bytes_text bytes)) × (hint ≤ MAX_HINT) × IsBytes bytes × (MAX_UNIT < length bytes)

receipt_shows : (form : HintForm) (fate : Fate) (text : List ℕ) → FormFits form → Shows (IsReceiptOf form fate text) (IsLongReceiptOf form fate text)
    (receipt_at form fate text)
unfolding receipt_at
receipt_shows form fate text fits =
    shows_must (IsReceiptOf form fate text) (IsLongReceiptOf form fate text) (cut_at 32 text) _ (λ parts cut.
    shows_must (IsReceiptOf form fate text) (IsLongReceiptOf form fate text) (hint_at form parts.0) _ (λ hint first.
    let p = hint_takes form parts.0 hint fits first in
    let front = cut_takes 32 text parts cut ∙ ap (λ (t : List ℕ). t ++ 32 ∷ parts.1) p.0 in
    shows_map (IsBytesOf MAX_UNIT parts.1) (IsLongOf MAX_UNIT parts.1) (IsReceiptOf form fate text) (IsLongReceiptOf form fate text)
    (λ bytes. Received hint fate bytes) (bytes_at MAX_UNIT parts.1) (bytes_shows MAX_UNIT parts.1)
    (λ bytes h. (hint, bytes, refl, front ∙ ap (λ (t : List ℕ). hint_text form hint ++ 32 ∷ t) h.0, p.1, h.1, h.2))
    (λ bytes h. (hint, bytes, refl, front ∙ ap (λ (t : List ℕ). hint_text form hint ++ 32 ∷ t) h.0, p.1, h.1, h.2))))

receipt_again : (form : HintForm) (fate : Fate) (hint : ℕ) (bytes : List ℕ) → FormFits form → hint ≤ MAX_HINT → IsBytes bytes
    → receipt_at form fate (spaced (hint_text form hint) (bytes_text bytes)) ≡ limited MAX_UNIT bytes (Received hint fate bytes)
unfolding receipt_at
receipt_again form fate hint bytes marked small fits =
    rw (
      cut_again 32 (hint_text form hint) (bytes_text bytes) (hint_lacks form 32 hint (lit< tt) marked small),
      hint_again form hint marked small,
      bytes_again MAX_UNIT bytes fits,
    )
    (limited_then MAX_UNIT bytes bytes (λ b. Received hint fate b))

-- the letter and what comes after it
module _ (wide : Bool) (form : HintForm) (fate : Fate) (text rest : List ℕ) (e : text ≡ fate_front fate ++ rest)
    (has : (hint : ℕ) (bytes : List ℕ) → IsAllowed wide (Received hint fate bytes)) where
  received : (r : Record) → IsReceiptOf form fate rest r → IsRecordOf wide form text r
  received r h = rw h.2 (e ∙ ap (λ (t : List ℕ). fate_front fate ++ t) h.3, h.4, h.5, h.6, has h.0 h.1)

  long_received : (r : Record) → IsLongReceiptOf form fate rest r → IsLongRecordOf wide form text r
  long_received r h = rw h.2 (e ∙ ap (λ (t : List ℕ). fate_front fate ++ t) h.3, h.4, h.5, h.6, has h.0 h.1)

receipts_show : (wide : Bool) (form : HintForm) (fate : Fate) (text rest : List ℕ) → FormFits form → text ≡ fate_front fate ++ rest →
    ((hint : ℕ) (bytes : List ℕ) → IsAllowed wide (Received hint fate bytes))
    → Shows (IsRecordOf wide form text) (IsLongRecordOf wide form text) (receipt_at form fate rest)
receipts_show wide form fate text rest fits e has =
    shows_weaker (IsReceiptOf form fate rest) (IsLongReceiptOf form fate rest) (IsRecordOf wide form text) (IsLongRecordOf wide form text)
    (receipt_at form fate rest) (receipt_shows form fate rest fits) (received wide form fate text rest e has)
    (long_received wide form fate text rest e has)

-- a line of format 3 alone whose letter is no `u`
wide_shows : (form : HintForm) (text : List ℕ) → FormFits form →
    Shows (IsRecordOf true form text) (IsLongRecordOf true form text) (wide_at form text)
unfolding wide_at
wide_shows form text fits =
    shows_or_else (IsRecordOf true form text) (IsLongRecordOf true form text) (after (codes "d ") text) _ _
    (λ rest e. receipts_show true form Dropped text rest fits (after_takes (codes "d ") text rest e) (λ hint bytes. tt))
    (shows_or_else (IsRecordOf true form text) (IsLongRecordOf true form text) (after (codes "x ") text) _ _
    (λ rest e. shows_map (IsBytesOf MAX_PACKET rest) (IsLongOf MAX_PACKET rest) (IsRecordOf true form text) (IsLongRecordOf true form text)
    (λ bytes. User (Composed bytes)) (bytes_at MAX_PACKET rest) (bytes_shows MAX_PACKET rest)
    (λ bytes h. (after_takes (codes "x ") text rest e ∙ ap (λ (t : List ℕ). codes "x " ++ t) h.0, tt, h.1, h.2, tt))
    (λ bytes h. (after_takes (codes "x ") text rest e ∙ ap (λ (t : List ℕ). codes "x " ++ t) h.0, tt, h.1, h.2, tt)))
    tt)

if_wide_shows : (wide : Bool) (form : HintForm) (text : List ℕ) → FormFits form →
    Shows (IsRecordOf wide form text) (IsLongRecordOf wide form text) (cond wide (wide_at form text) (Err Syntax))
if_wide_shows true form text fits = wide_shows form text fits
if_wide_shows false form text fits = tt

-- the letter of an event's line and what comes after it
event_line : (form : HintForm) (text rest : List ℕ) (event : Event) → text ≡ codes "u " ++ rest → rest ≡ event_text event →
    event_front event ≡ codes "u " → text ≡ record_text form (User event)
event_line form text rest event e is front =
    e ∙ ap (λ (t : List ℕ). codes "u " ++ t) is ∙ ap (λ (t : List ℕ). t ++ event_text event) (sym front)

pub record_shows : (wide : Bool) (form : HintForm) (text : List ℕ) → FormFits form →
    Shows (IsRecordOf wide form text) (IsLongRecordOf wide form text) (line_at wide form text)
unfolding line_at
record_shows wide form text fits =
    shows_or_else (IsRecordOf wide form text) (IsLongRecordOf wide form text) (after (codes "s ") text) _ _
    (λ rest e. shows_map (IsBytesOf MAX_UNIT rest) (IsLongOf MAX_UNIT rest) (IsRecordOf wide form text) (IsLongRecordOf wide form text)
    (λ bytes. Sent bytes) (bytes_at MAX_UNIT rest) (bytes_shows MAX_UNIT rest)
    (λ bytes h. (sent_takes rest e bytes h.0, tt, h.1, h.2, allowed wide (Sent bytes) refl))
    (λ bytes h. (sent_takes rest e bytes h.0, tt, h.1, h.2, allowed wide (Sent bytes) refl)))
    (shows_or_else (IsRecordOf wide form text) (IsLongRecordOf wide form text) (after (codes "r ") text) _ _
    (λ rest e. receipts_show wide form NotKept text rest fits (after_takes (codes "r ") text rest e)
    (λ hint bytes. allowed wide (Received hint NotKept bytes) refl))
    (shows_or_else (IsRecordOf wide form text) (IsLongRecordOf wide form text) (after (codes "k ") text) _ _
    (λ rest e. receipts_show wide form Kept text rest fits (after_takes (codes "k ") text rest e)
    (λ hint bytes. allowed wide (Received hint Kept bytes) refl))
    (shows_or_else (IsRecordOf wide form text) (IsLongRecordOf wide form text) (after (codes "n ") text) _ _
    (λ rest e. shows_map (IsBytesOf MAX_UNIT rest) (IsLongOf MAX_UNIT rest) (IsRecordOf wide form text) (IsLongRecordOf wide form text)
    (λ bytes. Noise bytes) (bytes_at MAX_UNIT rest) (bytes_shows MAX_UNIT rest)
    (λ bytes h. (noise_takes rest e bytes h.0, tt, h.1, h.2, allowed wide (Noise bytes) refl))
    (λ bytes h. (noise_takes rest e bytes h.0, tt, h.1, h.2, allowed wide (Noise bytes) refl)))
    (shows_or_else (IsRecordOf wide form text) (IsLongRecordOf wide form text) (after (codes "u ") text) _ _
    (λ rest e. shows_map (IsEventOf wide rest) (IsLongEventOf wide rest) (IsRecordOf wide form text) (IsLongRecordOf wide form text)
    (λ event. User event) (event_at wide rest) (event_shows wide rest)
    (λ event h. (event_line form text rest event (after_takes (codes "u ") text rest e) h.0 h.4, h.1, h.2, h.3, h.5))
    (λ event h. (event_line form text rest event (after_takes (codes "u ") text rest e) h.0 h.4, h.1, h.2, h.3, h.5)))
    (if_wide_shows wide form text fits)))))
  where
    sent_takes : (rest : List ℕ) → after (codes "s ") text ≡ Some rest → (bytes : List ℕ) → rest ≡ bytes_text bytes →
        text ≡ record_text form (Sent bytes)
    sent_takes rest e bytes is = after_takes (codes "s ") text rest e ∙ ap (λ (t : List ℕ). codes "s " ++ t) is

    noise_takes : (rest : List ℕ) → after (codes "n ") text ≡ Some rest → (bytes : List ℕ) → rest ≡ bytes_text bytes →
        text ≡ record_text form (Noise bytes)
    noise_takes rest e bytes is = after_takes (codes "n ") text rest e ∙ ap (λ (t : List ℕ). codes "n " ++ t) is

-- ---- its spelling is read

-- an event has one of two letters
fronts : (event : Event) → (event_front event ≡ codes "u ") ⊎ ((bytes : List ℕ) × (event ≡ Composed bytes))
fronts Start = inl refl
fronts Halt = inl refl
fronts (Open link) = inl refl
fronts (Accept partner link) = inl refl
fronts (Reject partner link) = inl refl
fronts (In link bytes) = inl refl
fronts (Up link bytes) = inl refl
fronts (Close link) = inl refl
fronts Boot = inl refl
fronts (Abort link) = inl refl
fronts (Composed bytes) = inr (bytes, refl)
fronts (Interrupt link bytes) = inl refl
fronts (Interrupted link bytes) = inl refl

composed_again : (wide : Bool) (form : HintForm) (bytes : List ℕ) → IsBytes bytes → IsAllowed wide (User (Composed bytes)) →
    line_at wide form (record_text form (User (Composed bytes))) ≡ limited MAX_PACKET bytes (User (Composed bytes))
unfolding line_at wide_at
composed_again true form bytes fits has =
    rw (bytes_again MAX_PACKET bytes fits) (limited_then MAX_PACKET bytes bytes (λ b. User (Composed b)))
composed_again false form bytes fits has = absurd (not_allowed has)

after_u : (wide : Bool) (form : HintForm) (event : Event) → HasSpelling (User event) → IsAllowed wide (User event) → event_front event ≡ codes "u " →
    line_at wide form (codes "u " ++ event_text event) ≡ limited (most_of_event event) (event_bytes event) (User event)
unfolding line_at
after_u wide form event h has front =
    rw (event_again wide event h.numbers h.bytes has front) (limited_then (most_of_event event) (event_bytes event) event (λ e. User e))

user_again : (wide : Bool) (form : HintForm) (event : Event) → HasSpelling (User event) → IsAllowed wide (User event) →
    (event_front event ≡ codes "u ") ⊎ ((bytes : List ℕ) × (event ≡ Composed bytes))
    → line_at wide form (record_text form (User event)) ≡ limited (most_of_event event) (event_bytes event) (User event)
user_again wide form event h has (inl front) =
    ap (λ (t : List ℕ). line_at wide form (t ++ event_text event)) front ∙ after_u wide form event h has front
user_again wide form event h has (inr composed) = by_bytes composed.0 composed.1
  where
    by_bytes : (bytes : List ℕ) → event ≡ Composed bytes →
        line_at wide form (record_text form (User event)) ≡ limited (most_of_event event) (event_bytes event) (User event)
    by_bytes bytes is = rw is (composed_again wide form bytes (rw is at h.bytes) (rw is at has))

-- where the lines of format 3 are there too, that of any record is read
pub line_again : (wide : Bool) (form : HintForm) (r : Record) → FormFits form → HasSpelling r → IsAllowed wide r →
    line_at wide form (record_text form r) ≡ limited (most_bytes r) (record_bytes r) r
unfolding line_at wide_at
line_again wide form (Sent bytes) fits h has = rw (bytes_again MAX_UNIT bytes h.bytes) (limited_then MAX_UNIT bytes bytes (λ b. Sent b))
line_again wide form (Received hint NotKept bytes) fits h has = receipt_again form NotKept hint bytes fits h.numbers h.bytes
line_again wide form (Received hint Kept bytes) fits h has = receipt_again form Kept hint bytes fits h.numbers h.bytes
line_again true form (Received hint Dropped bytes) fits h has = receipt_again form Dropped hint bytes fits h.numbers h.bytes
line_again false form (Received hint Dropped bytes) fits h has = absurd (not_allowed has)
line_again wide form (Noise bytes) fits h has = rw (bytes_again MAX_UNIT bytes h.bytes) (limited_then MAX_UNIT bytes bytes (λ b. Noise b))
line_again wide form (User event) fits h has = user_again wide form event h has (fronts event)

-- a record that a format has is read from its line
pub record_again : (form : HintForm) (r : Record) → FormFits form → HasSpelling r → IsInForm form r →
    record_at form (record_text form r) ≡ limited (most_bytes r) (record_bytes r) r
record_again form r fits h has = line_again (is_wide form) form r fits h (in_allowed form r has)

pub record_read : (form : HintForm) (r : Record) → FormFits form → IsRecord r → IsInForm form r → record_at form (record_text form r) ≡ Ok r
record_read form r fits h has = record_again form r fits h.spelling has ∙ rw (le-leb _ _ h.short) refl

-- and any record where the lines of format 3 are there too
pub any_read : (form : HintForm) (r : Record) → FormFits form → IsRecord r → line_at true form (record_text form r) ≡ Ok r
any_read form r fits h = line_again true form r fits h.spelling tt ∙ rw (le-leb _ _ h.short) refl

-- one that would be read except for the length of its BYTES
pub record_too_long : (form : HintForm) (r : Record) → FormFits form → HasSpelling r → ¬ (IsShort r) → IsInForm form r →
    record_at form (record_text form r) ≡ Err TooLong
record_too_long form r fits h long has =
    record_again form r fits h has ∙ rw (lt-leb (length (record_bytes r)) (most_bytes r) (omega (arith, long))) refl
