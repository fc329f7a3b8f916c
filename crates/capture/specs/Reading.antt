-- Reading the words of a line from left to right, with the first departure that is met.
use Rattle.std.specs.Prelude.{◌≡◌, ℕ, ◌+◌, ◌-◌, ◌*◌, ◌==◌, ◌&&◌, ◌||◌, nat_le, nat_lt, not, Bool, true, false, if◌then◌else◌, List, [], ◌∷◌, length}
use Rattle.std.specs.Prelude.{codes, Option, Some, None, option_and_then, option_map, Result, Ok, Err, slice_index}
use Rattle.std.specs.Str.{all_ascii_digits, bytes_eq}
use Rattle.std.specs.Str.Parse.{digits_value}
use Rattle.std.specs.List.{list_all}
use Rattle.hex.specs.Hex.{decode_of, is_hex_digit}
use Rattle.capture_record.specs.declared.limit.TheConstants.{MAX_HINT, MAX_LINK, MAX_UNIT, MAX_MESSAGE, MAX_PACKET, MAX_INTERRUPT}
use Rattle.capture_record.specs.declared.event.Event.{Event}
use Rattle.capture_record.specs.declared.event.Event.TheVariants.{Start, Halt, Open, Accept, Reject, In, Up, Close}
use Rattle.capture_record.specs.declared.event.Event.TheVariants.{Boot, Abort, Composed, Interrupt, Interrupted}
use Rattle.capture_record.specs.declared.fate.Fate.{Fate}
use Rattle.capture_record.specs.declared.fate.Fate.TheVariants.{NotKept, Kept, Dropped}
use Rattle.capture_record.specs.declared.record.Record.{Record}
use Rattle.capture_record.specs.declared.record.Record.TheVariants.{Sent, Received, Noise, User}
use Rattle.capture.specs.declared.hint.HintForm.{HintForm}
use Rattle.capture.specs.declared.hint.HintForm.TheVariants.{Number, Distance, Wide, Part}
use Rattle.capture.specs.declared.format.Format.{Format}
use Rattle.capture.specs.declared.format.Format.TheVariants.{One, Two, Three}
use Rattle.capture.specs.Text.{format_text}
use Rattle.capture.specs.declared.fault.Departure.{Departure}
use Rattle.capture.specs.declared.fault.Departure.TheVariants.{Syntax, TooLong}
use Rattle.capture.specs.declared.fault.PartFault.{PartFault}
use Rattle.capture.specs.declared.fault.PartFault.TheVariants.{Departs, OutOfMemory}

infixl 10 ◌>>=◌
abbrev pub ◌>>=◌ : {A B : Type 0} → Result A Departure → (A → Result B Departure) → Result B Departure
(Ok x) >>= f = f x
(Err e) >>= f = Err e

-- What a function returned is what reading gives, unless memory ran out.
abbrev pub Fails : {A : Type 0} → PartFault → Result A Departure → Type 0
Fails OutOfMemory read = Unit {0}
Fails (Departs kind) read = read ≡ Err kind

abbrev pub Gives : {A : Type 0} → Result A PartFault → Result A Departure → Type 0
Gives (Ok x) read = read ≡ Ok x
Gives (Err e) read = Fails e read

-- what is not there departs
abbrev pub must : {A : Type 0} → Option A → Result A Departure
must (Some x) = Ok x
must None = Err Syntax

-- what follows this front
abbrev pub after : List ℕ → List ℕ → Option (List ℕ)
after [] text = Some text
after (p ∷ front) [] = None
after (p ∷ front) (b ∷ text) = if b == p then after front text else None

-- the parts before and after the first such byte
abbrev pub with_first : ℕ → List ℕ × List ℕ → List ℕ × List ℕ
with_first b parts = (b ∷ parts.0, parts.1)

abbrev pub cut_at : ℕ → List ℕ → Option (List ℕ × List ℕ)
cut_at mark [] = None
cut_at mark (b ∷ text) = if b == mark then Some ([], text) else option_map (with_first b) (cut_at mark text)

-- decimal digits without a leading zero, at most 19
abbrev pub is_number : List ℕ → Bool
is_number text = all_ascii_digits text && nat_lt 0 (length text) && nat_le (length text) 19 && (not (slice_index text 0 == 48) || length text == 1)

-- a number of at most `most`
unfoldable pub number_at : ℕ → List ℕ → Option ℕ
number_at most text = if is_number text && nat_le (digits_value 10 text) most then Some (digits_value 10 text) else None

-- a number from 1 on
unfoldable pub positive_at : ℕ → List ℕ → Option ℕ
positive_at most text = option_and_then (λ n. if nat_lt 0 n then Some n else None) (number_at most text)

-- a node address
unfoldable pub address_at : List ℕ → Option ℕ
address_at text = option_and_then (λ parts.
    option_and_then (λ area.
    option_and_then (λ node. Some (area * 1024 + node))
    (positive_at 1023 parts.1)) (positive_at 63 parts.0)) (cut_at 46 text)

-- no letter is a capital
abbrev pub is_lower : ℕ → Bool
is_lower b = nat_lt b 65 || nat_lt 70 b

-- a digit 0 to 9 or a to f
abbrev pub is_digit : ℕ → Bool
is_digit b = is_lower b && is_hex_digit b

abbrev pub decoded : {E : Type 0} → Result (List ℕ) E → Option (List ℕ)
decoded (Ok bytes) = Some bytes
decoded (Err e) = None

-- pairs of digits, at least one
unfoldable pub pairs_at : List ℕ → Option (List ℕ)
pairs_at [] = None
pairs_at (b ∷ text) = if list_all is_lower (b ∷ text) then decoded (decode_of (b ∷ text)) else None

-- BYTES, of any length
unfoldable pub any_bytes_at : List ℕ → Option (List ℕ)
any_bytes_at text = if bytes_eq text (codes "-") then Some [] else pairs_at text

-- BYTES of at most `most` bytes
unfoldable pub bytes_at : ℕ → List ℕ → Result (List ℕ) Departure
bytes_at most text = do
  bytes ← must (any_bytes_at text)
  if nat_le (length bytes) most then Ok bytes else Err TooLong

-- what is read where there is something, or else the rest of the cases
abbrev pub or_else : {A B : Type 0} → Option A → (A → B) → B → B
or_else (Some x) read others = read x
or_else None read others = others

-- a hint at the mark or above it, by its distance
unfoldable pub hint_above : ℕ → List ℕ → Option ℕ
hint_above mark text = option_and_then (λ distance. if nat_le (mark + distance) MAX_HINT then Some (mark + distance) else None)
    (number_at MAX_HINT text)

-- a hint below the mark, by its distance
unfoldable pub hint_below : ℕ → List ℕ → Option ℕ
hint_below mark text = option_map (λ distance. mark - distance) (positive_at mark text)

-- a hint
unfoldable pub hint_at : HintForm → List ℕ → Option ℕ
hint_at Number text = number_at MAX_HINT text
hint_at Wide text = number_at MAX_HINT text
hint_at (Distance mark) text = or_else (after (codes "-") text) (hint_below mark) (hint_above mark text)
hint_at Part text = if bytes_eq text (codes "-") then Some 0 else option_map (λ number. number + 1) (number_at (MAX_HINT - 1) text)

-- two link addresses
unfoldable pub links_at : List ℕ → Result (ℕ × ℕ) Departure
links_at text = do
  parts ← must (cut_at 32 text)
  partner ← must (positive_at MAX_LINK parts.0)
  link ← must (positive_at MAX_LINK parts.1)
  Ok (partner, link)

-- a link address and BYTES of at most `most` bytes
unfoldable pub message_within : ℕ → List ℕ → Result (ℕ × List ℕ) Departure
message_within most text = do
  parts ← must (cut_at 32 text)
  link ← must (positive_at MAX_LINK parts.0)
  bytes ← bytes_at most parts.1
  Ok (link, bytes)

-- a link address and a message
unfoldable pub message_at : List ℕ → Result (ℕ × List ℕ) Departure
message_at text = message_within MAX_MESSAGE text

-- a hint and a unit
unfoldable pub receipt_at : HintForm → Fate → List ℕ → Result Record Departure
receipt_at form fate text = do
  parts ← must (cut_at 32 text)
  hint ← must (hint_at form parts.0)
  bytes ← bytes_at MAX_UNIT parts.1
  Ok (Received hint fate bytes)

-- ---- whether the lines that format 3 alone has are there too

abbrev pub is_wide : HintForm → Bool
is_wide Number = false
is_wide (Distance mark) = false
is_wide Wide = true
is_wide Part = true

-- an event that format 3 alone has
unfoldable pub wide_event_at : List ℕ → Result Event Departure
wide_event_at text =
    if bytes_eq text (codes "boot") then Ok Boot
    else or_else (after (codes "abort ") text) (λ rest. must (positive_at MAX_LINK rest) >>= λ link. Ok (Abort link))
    (or_else (after (codes "interrupt ") text) (λ rest. message_within MAX_INTERRUPT rest >>= λ m. Ok (Interrupt m.0 m.1))
    (or_else (after (codes "interrupted ") text) (λ rest. message_within MAX_INTERRUPT rest >>= λ m. Ok (Interrupted m.0 m.1))
    (Err Syntax)))

-- an event of a link that carries no message, or one of format 3
unfoldable pub link_event_at : (wide : Bool) → List ℕ → Result Event Departure
link_event_at wide text =
    or_else (after (codes "open ") text) (λ rest. must (positive_at MAX_LINK rest) >>= λ link. Ok (Open link))
    (or_else (after (codes "close ") text) (λ rest. must (positive_at MAX_LINK rest) >>= λ link. Ok (Close link))
    (or_else (after (codes "accept ") text) (λ rest. links_at rest >>= λ m. Ok (Accept m.0 m.1))
    (or_else (after (codes "reject ") text) (λ rest. links_at rest >>= λ m. Ok (Reject m.0 m.1))
    (if wide then wide_event_at text else Err Syntax))))

-- the line after `u `
unfoldable pub event_at : (wide : Bool) → List ℕ → Result Event Departure
event_at wide text =
    if bytes_eq text (codes "start") then Ok Start
    else if bytes_eq text (codes "halt") then Ok Halt
    else or_else (after (codes "in ") text) (λ rest. message_at rest >>= λ m. Ok (In m.0 m.1))
    (or_else (after (codes "up ") text) (λ rest. message_at rest >>= λ m. Ok (Up m.0 m.1))
    (link_event_at wide text))

-- a line that format 3 alone has, where its letter is no `u`
unfoldable pub wide_at : HintForm → List ℕ → Result Record Departure
wide_at form text =
    or_else (after (codes "d ") text) (λ rest. receipt_at form Dropped rest)
    (or_else (after (codes "x ") text) (λ rest. bytes_at MAX_PACKET rest >>= λ bytes. Ok (User (Composed bytes)))
    (Err Syntax))

-- a record's line, where hints have this form
unfoldable pub line_at : (wide : Bool) → HintForm → List ℕ → Result Record Departure
line_at wide form text =
    or_else (after (codes "s ") text) (λ rest. bytes_at MAX_UNIT rest >>= λ bytes. Ok (Sent bytes))
    (or_else (after (codes "r ") text) (λ rest. receipt_at form NotKept rest)
    (or_else (after (codes "k ") text) (λ rest. receipt_at form Kept rest)
    (or_else (after (codes "n ") text) (λ rest. bytes_at MAX_UNIT rest >>= λ bytes. Ok (Noise bytes))
    (or_else (after (codes "u ") text) (λ rest. event_at wide rest >>= λ event. Ok (User event))
    (if wide then wide_at form text else Err Syntax)))))

-- a record's line
abbrev pub record_at : HintForm → List ℕ → Result Record Departure
record_at form text = line_at (is_wide form) form text

-- the two addresses of a head
unfoldable pub nodes_at : List ℕ → Option (ℕ × ℕ)
nodes_at text =
    option_and_then (λ parts.
    option_and_then (λ own.
    option_and_then (λ peer. Some (own, peer))
    (address_at parts.1)) (address_at parts.0)) (cut_at 32 text)

-- a head of this format
abbrev pub headed : Format → List ℕ → Option (Format × ℕ × ℕ)
headed format text = option_map (λ nodes. (format, nodes.0, nodes.1)) (nodes_at text)

-- the head
unfoldable pub head_at : List ℕ → Option (Format × ℕ × ℕ)
head_at text =
    or_else (after (format_text One) text) (headed One)
    (or_else (after (format_text Two) text) (headed Two)
    (or_else (after (format_text Three) text) (headed Three)
    None))

-- the two addresses of this text, where it ends in `part`
unfoldable pub part_nodes_at : List ℕ → Option (ℕ × ℕ)
part_nodes_at text =
    option_and_then (λ first.
    option_and_then (λ second.
    option_and_then (λ own.
    option_and_then (λ peer. if bytes_eq second.1 (codes "part") then Some (own, peer) else None)
    (address_at second.0)) (address_at first.0)) (cut_at 32 first.1)) (cut_at 32 text)

-- the head of a part of a run
unfoldable pub part_head_at : List ℕ → Option (ℕ × ℕ)
part_head_at text = option_and_then part_nodes_at (after (codes "ddcap 4 ") text)
