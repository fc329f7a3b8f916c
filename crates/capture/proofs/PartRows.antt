-- The definitions of a part of a run, computed on known lines: heads, and hints.
use Rattle.std.proofs.Common.{◌≡◌, ℕ, List, [], ◌++◌, Some, None, Ok, Err, refl, sym, ap, ap₂, lit<}
use Rattle.std.specs.Prelude.{codes}
use Rattle.std.specs.Fmt.{decimal}
use Rattle.capture_record.specs.declared.event.Event.TheVariants.{Boot}
use Rattle.capture_record.specs.declared.fate.Fate.TheVariants.{NotKept, Kept, Dropped}
use Rattle.capture_record.specs.declared.record.Record.TheVariants.{Received, User}
use Rattle.capture.specs.declared.fault.Departure.TheVariants.{Syntax}
use Rattle.capture.specs.declared.hint.HintForm.TheVariants.{Part, Wide}
use Rattle.capture.specs.Text.{address_text, part_head_text, record_text, spaced}
use Rattle.capture.specs.Reading.{address_at, any_bytes_at, bytes_at, event_at, head_at, hint_at, line_at, link_event_at, number_at}
use Rattle.capture.specs.Reading.{part_head_at, part_nodes_at, positive_at, receipt_at, record_at, wide_at, wide_event_at}
use Rattle.capture.proofs.AddressLaws.{address_takes}
use Rattle.capture.proofs.NumberLaws.{number_takes}

-- ---- heads

head_of_a_part : part_head_at (codes "ddcap 4 1.2 1.1 part") ≡ Some (0x0402, 0x0401)
unfolding part_head_at part_nodes_at address_at positive_at number_at
head_of_a_part = refl

no_whole_capture : head_at (codes "ddcap 4 1.2 1.1 part") ≡ None
unfolding head_at
no_whole_capture = refl

whole_in_format_4 : part_head_at (codes "ddcap 4 1.2 1.1") ≡ None
unfolding part_head_at part_nodes_at
whole_in_format_4 = refl

part_in_format_3 : part_head_at (codes "ddcap 3 1.2 1.1 part") ≡ None
unfolding part_head_at
part_in_format_3 = refl

space_at_the_end : part_head_at (codes "ddcap 4 1.2 1.1 part ") ≡ None
unfolding part_head_at part_nodes_at address_at positive_at number_at
space_at_the_end = refl

-- ---- hints

sent_before : record_at Part (codes "r - -") ≡ Ok (Received 0 NotKept [])
unfolding line_at receipt_at hint_at bytes_at any_bytes_at
sent_before = refl

sent_first : record_at Part (codes "k 0 -") ≡ Ok (Received 1 Kept [])
unfolding line_at receipt_at hint_at number_at bytes_at any_bytes_at
sent_first = refl

dropped_of_before : record_at Part (codes "d - -") ≡ Ok (Received 0 Dropped [])
unfolding line_at wide_at receipt_at hint_at bytes_at any_bytes_at
dropped_of_before = refl

sent_last : record_at Part (codes "k 999999999999999998 -") ≡ Ok (Received 999999999999999999 Kept [])
unfolding line_at receipt_at hint_at number_at bytes_at any_bytes_at
sent_last = refl

beyond_the_last : record_at Part (codes "k 999999999999999999 -") ≡ Err Syntax
unfolding line_at receipt_at hint_at number_at
beyond_the_last = refl

no_distance : record_at Part (codes "r -1 -") ≡ Err Syntax
unfolding line_at receipt_at hint_at number_at
no_distance = refl

before_in_format_3 : record_at Wide (codes "r - -") ≡ Err Syntax
unfolding line_at receipt_at hint_at number_at
before_in_format_3 = refl

boot_in_a_part : record_at Part (codes "u boot") ≡ Ok (User Boot)
unfolding line_at event_at link_event_at wide_event_at
boot_in_a_part = refl

-- ---- and as they are spelled

numeral : (text : List ℕ) (n : ℕ) → number_at 999 text ≡ Some n → decimal n ≡ text
numeral text n e = sym (number_takes 999 text n (lit< tt) e).0

receipt_of_before : record_text Part (Received 0 Kept []) ≡ codes "k - -"
receipt_of_before = refl

receipt_of_the_eighth : record_text Part (Received 8 Kept []) ≡ codes "k 7 -"
unfolding number_at
receipt_of_the_eighth = ap (λ (x : List ℕ). codes "k " ++ spaced x (codes "-")) (numeral (codes "7") 7 refl)

head_spelled : part_head_text 0x0402 0x0401 ≡ codes "ddcap 4 1.2 1.1 part"
unfolding address_at positive_at number_at
head_spelled =
    ap₂ (λ (x y : List ℕ). codes "ddcap 4 " ++ spaced x (spaced y (codes "part"))) (node (codes "1.2") 0x0402 refl)
    (node (codes "1.1") 0x0401 refl)
  where
    node : (text : List ℕ) (address : ℕ) → address_at text ≡ Some address → address_text address ≡ text
    node text address e = sym (address_takes text address e).0
