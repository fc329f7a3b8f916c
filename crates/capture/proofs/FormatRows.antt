-- The definitions of each format, computed on known lines: distances from the mark, and heads.
use Rattle.std.proofs.Common.{◌≡◌, ℕ, List, [], ◌∷◌, ◌++◌, length, Some, None, Ok, Err, refl, sym, ap, ap₂}
use Rattle.std.proofs.Common.{◌∙◌, arith, lit<}
use Rattle.std.specs.Prelude.{codes}
use Rattle.std.specs.Fmt.{decimal}
use Rattle.hex.specs.Hex.{IsBytes, encode_with}
use Rattle.capture_record.specs.declared.event.Event.TheVariants.{Start, Boot, Abort, Composed, Interrupt, Interrupted}
use Rattle.capture_record.specs.declared.fate.Fate.TheVariants.{NotKept, Kept, Dropped}
use Rattle.capture_record.specs.declared.record.Record.{Record}
use Rattle.capture_record.specs.declared.record.Record.TheVariants.{Sent, Received, Noise, User}
use Rattle.capture.specs.declared.fault.Departure.TheVariants.{Syntax, TooLong}
use Rattle.capture.specs.declared.hint.HintForm.{HintForm}
use Rattle.capture.specs.declared.hint.HintForm.TheVariants.{Number, Distance, Wide}
use Rattle.capture.specs.declared.format.Format.TheVariants.{One, Two, Three}
use Rattle.capture.specs.Text.{address_text, capture_text, ended, form_behind, record_text, spaced}
use Rattle.capture.specs.Reading.{address_at, any_bytes_at, bytes_at, event_at, head_at, hint_above, hint_at, hint_below}
use Rattle.capture.specs.Reading.{line_at, link_event_at, message_within, nodes_at, number_at}
use Rattle.capture.specs.Reading.{pairs_at, positive_at, receipt_at, record_at, wide_at, wide_event_at}
use Rattle.capture.proofs.AddressLaws.{address_takes}
use Rattle.capture.proofs.NumberLaws.{number_takes}
use Rattle.capture.proofs.RecordLaws.{record_read, record_too_long}

-- a number as it is spelled
numeral : (text : List ℕ) (n : ℕ) → number_at 999 text ≡ Some n → decimal n ≡ text
numeral text n e = sym (number_takes 999 text n (lit< tt) e).0

node : (text : List ℕ) (address : ℕ) → address_at text ≡ Some address → address_text address ≡ text
node text address e = sym (address_takes text address e).0

-- ---- a node that got its peer's second STRT, as the first was lost, sent a STACK and got an ACK

strt : List ℕ
strt = 0x05 ∷ 0x06 ∷ 0xc0 ∷ 0x00 ∷ 0x00 ∷ 0x01 ∷ 0x75 ∷ 0x95 ∷ []

stack : List ℕ
stack = 0x05 ∷ 0x07 ∷ 0xc0 ∷ 0x00 ∷ 0x00 ∷ 0x01 ∷ 0x48 ∷ 0x55 ∷ []

ack : List ℕ
ack = 0x05 ∷ 0x01 ∷ 0x00 ∷ 0x00 ∷ 0x00 ∷ 0x01 ∷ 0xfc ∷ 0x55 ∷ []

first_start_lost : List Record
first_start_lost = User Start ∷ Received 1 NotKept strt ∷ Sent stack ∷ Received 2 NotKept ack ∷ []

-- its text, except for the numbers
text_with : (head own peer first second : List ℕ) → List ℕ
text_with head own peer first second =
    ended (head ++ spaced own peer) ++ (ended (codes "u start") ++ (ended (codes "r " ++ spaced first (codes "0506c00000017595"))
    ++ (ended (codes "s 0507c00000014855") ++ (ended (codes "r " ++ spaced second (codes "050100000001fc55")) ++ []))))

-- the two receipts have the numbers 1 and 2 in format 1
in_numbers : capture_text One 0x0402 0x0401 first_start_lost ≡ text_with (codes "ddcap 1 ") (codes "1.2") (codes "1.1") (codes "1") (codes "2")
unfolding encode_with address_at positive_at number_at text_with first_start_lost strt stack ack
in_numbers =
    ap₂ (λ (x y : List ℕ). text_with (codes "ddcap 1 ") x y (decimal 1) (decimal 2)) (node (codes "1.2") 0x0402 refl) (node (codes "1.1") 0x0401 refl)
    ∙ ap₂ (λ (x y : List ℕ). text_with (codes "ddcap 1 ") (codes "1.2") (codes "1.1") x y) (numeral (codes "1") 1 refl) (numeral (codes "2") 2 refl)

-- and the distances 1 and 0 in format 2
in_distances : capture_text Two 0x0402 0x0401 first_start_lost ≡ text_with (codes "ddcap 2 ") (codes "1.2") (codes "1.1") (codes "1") (codes "0")
unfolding encode_with address_at positive_at number_at text_with first_start_lost strt stack ack
in_distances =
    ap₂ (λ (x y : List ℕ). text_with (codes "ddcap 2 ") x y (decimal 1) (decimal 0)) (node (codes "1.2") 0x0402 refl) (node (codes "1.1") 0x0401 refl)
    ∙ ap₂ (λ (x y : List ℕ). text_with (codes "ddcap 2 ") (codes "1.2") (codes "1.1") x y) (numeral (codes "1") 1 refl) (numeral (codes "0") 0 refl)

-- ---- negative distances

-- the last receipt's hint is that of the one before it, or the one before that: the list breaks the order of hints, and has its text
hint_again_1 : record_text (Distance 2) (Received 1 NotKept strt) ≡ codes "r -1 0506c00000017595"
unfolding encode_with number_at strt
hint_again_1 = ap (λ (x : List ℕ). codes "r -" ++ spaced x (codes "0506c00000017595")) (numeral (codes "1") 1 refl)

hint_goes_back_to_0 : record_text (Distance 2) (Received 0 NotKept strt) ≡ codes "r -2 0506c00000017595"
unfolding encode_with number_at strt
hint_goes_back_to_0 = ap (λ (x : List ℕ). codes "r -" ++ spaced x (codes "0506c00000017595")) (numeral (codes "2") 2 refl)

-- the mark is moved by each receipt, wherever its hint lies, and by no other line
mark_goes_back : form_behind (Distance 0) (Received 5 Kept [] ∷ User Start ∷ Received 0 NotKept [] ∷ Sent [] ∷ []) ≡ Distance 1
mark_goes_back = refl

numbers_stay : form_behind Number (Received 5 Kept [] ∷ []) ≡ Number
numbers_stay = refl

-- ---- noise: the same line in both formats, and it leaves the mark

noise_has_one_line : (form : HintForm) → record_text form (Noise []) ≡ codes "n -"
noise_has_one_line form = refl

noise_is_read : (form : HintForm) → record_at form (codes "n -") ≡ Ok (Noise [])
unfolding line_at bytes_at any_bytes_at
noise_is_read form = refl

noise_leaves_the_mark : form_behind (Distance 0) (Received 5 Kept [] ∷ Noise [] ∷ []) ≡ Distance 6
noise_leaves_the_mark = refl

noise_with_a_hint : record_at Number (codes "n 0 -") ≡ Err Syntax
unfolding line_at bytes_at any_bytes_at pairs_at
noise_with_a_hint = refl

-- ---- faulty distances

below_0 : record_at (Distance 0) (codes "r -1 -") ≡ Err Syntax
unfolding line_at receipt_at hint_at hint_below positive_at number_at
below_0 = refl

minus_zero : record_at (Distance 5) (codes "r -0 -") ≡ Err Syntax
unfolding line_at receipt_at hint_at hint_below positive_at number_at
minus_zero = refl

minus_in_format_1 : record_at Number (codes "r -1 -") ≡ Err Syntax
unfolding line_at receipt_at hint_at number_at
minus_in_format_1 = refl

leading_zero : record_at (Distance 5) (codes "r -01 -") ≡ Err Syntax
unfolding line_at receipt_at hint_at hint_below positive_at number_at
leading_zero = refl

beyond_the_greatest : record_at (Distance 1000000000000000000) (codes "r 0 -") ≡ Err Syntax
unfolding line_at receipt_at hint_at hint_above number_at
beyond_the_greatest = refl

back_from_the_greatest : record_at (Distance 1000000000000000000) (codes "k -1000000000000000000 -") ≡ Ok (Received 0 Kept [])
unfolding line_at receipt_at hint_at hint_below positive_at number_at bytes_at any_bytes_at
back_from_the_greatest = refl

-- ---- heads

head_of_format_2 : head_at (codes "ddcap 2 1.2 1.1") ≡ Some (Two, 0x0402, 0x0401)
unfolding head_at nodes_at address_at positive_at number_at
head_of_format_2 = refl

head_of_format_3 : head_at (codes "ddcap 3 1.2 1.1") ≡ Some (Three, 0x0402, 0x0401)
unfolding head_at nodes_at address_at positive_at number_at
head_of_format_3 = refl

no_format_4 : head_at (codes "ddcap 4 1.2 1.1") ≡ None
unfolding head_at nodes_at
no_format_4 = refl

-- ---- the lines that format 3 alone has

boot : record_at Wide (codes "u boot") ≡ Ok (User Boot)
unfolding line_at event_at link_event_at wide_event_at
boot = refl

no_boot_in_format_1 : record_at Number (codes "u boot") ≡ Err Syntax
unfolding line_at event_at link_event_at
no_boot_in_format_1 = refl

no_boot_in_format_2 : record_at (Distance 0) (codes "u boot") ≡ Err Syntax
unfolding line_at event_at link_event_at
no_boot_in_format_2 = refl

boot_with_a_space : record_at Wide (codes "u boot ") ≡ Err Syntax
unfolding line_at event_at link_event_at wide_event_at
boot_with_a_space = refl

abort : record_at Wide (codes "u abort 7") ≡ Ok (User (Abort 7))
unfolding line_at event_at link_event_at wide_event_at positive_at number_at
abort = refl

no_abort_of_0 : record_at Wide (codes "u abort 0") ≡ Err Syntax
unfolding line_at event_at link_event_at wide_event_at positive_at number_at
no_abort_of_0 = refl

no_abort_in_format_1 : record_at Number (codes "u abort 7") ≡ Err Syntax
unfolding line_at event_at link_event_at
no_abort_in_format_1 = refl

dropped : record_at Wide (codes "d 3 -") ≡ Ok (Received 3 Dropped [])
unfolding line_at wide_at receipt_at hint_at number_at bytes_at any_bytes_at
dropped = refl

dropped_with_a_leading_zero : record_at Wide (codes "d 01 -") ≡ Err Syntax
unfolding line_at wide_at receipt_at hint_at number_at
dropped_with_a_leading_zero = refl

none_dropped_in_format_2 : record_at (Distance 0) (codes "d 0 -") ≡ Err Syntax
unfolding line_at
none_dropped_in_format_2 = refl

composed : record_at Wide (codes "x -") ≡ Ok (User (Composed []))
unfolding line_at wide_at bytes_at any_bytes_at
composed = refl

none_composed_in_format_1 : record_at Number (codes "x -") ≡ Err Syntax
unfolding line_at
none_composed_in_format_1 = refl

interrupt : record_at Wide (codes "u interrupt 7 -") ≡ Ok (User (Interrupt 7 []))
unfolding line_at event_at link_event_at wide_event_at message_within positive_at number_at bytes_at any_bytes_at
interrupt = refl

interrupted : record_at Wide (codes "u interrupted 7 -") ≡ Ok (User (Interrupted 7 []))
unfolding line_at event_at link_event_at wide_event_at message_within positive_at number_at bytes_at any_bytes_at
interrupted = refl

interrupt_of_17_bytes : (bytes : List ℕ) → IsBytes bytes → length bytes ≡ 17 →
    record_at Wide (record_text Wide (User (Interrupt 7 bytes))) ≡ Err TooLong
interrupt_of_17_bytes bytes fits long =
    record_too_long Wide (User (Interrupt 7 bytes)) tt
    (record { numbers = record { least = omega arith; most = omega arith }; bytes = fits }) (λ short. absurd (omega (arith, short))) tt

interrupt_of_16_bytes : (bytes : List ℕ) → IsBytes bytes → length bytes ≡ 16 →
    record_at Wide (record_text Wide (User (Interrupt 7 bytes))) ≡ Ok (User (Interrupt 7 bytes))
interrupt_of_16_bytes bytes fits most =
    record_read Wide (User (Interrupt 7 bytes)) tt (record {
      spelling = record { numbers = record { least = omega arith; most = omega arith }; bytes = fits };
      short = omega arith;
    }) tt

no_interrupt_in_format_1 : record_at Number (codes "u interrupt 7 0000000000000000000000000000000000") ≡ Err Syntax
unfolding line_at event_at link_event_at
no_interrupt_in_format_1 = refl

cancelled : record_at Wide (codes "u cancel 7") ≡ Err Syntax
unfolding line_at event_at link_event_at wide_event_at
cancelled = refl
