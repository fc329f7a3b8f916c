-- The records whose line has a number before a space.
use Rattle.std.proofs.Common.{◌≡◌, ℕ, Bool, true, false, cond, ltb, List, Option, Some, None, Ok, refl}
use Rattle.std.specs.Prelude.{option_and_then}
use Rattle.std.specs.Option.{option_map}
use Rattle.capture_record.specs.declared.limit.TheConstants.{MAX_HINT, MAX_LINK, MAX_UNIT}
use Rattle.capture_record.specs.declared.entry.Entry.TheVariants as entries
use Rattle.capture_record.specs.declared.fate.Fate.{Fate}
use Rattle.capture.specs.declared.hint.HintForm.TheVariants.{Number, Wide}
use Rattle.capture_record.specs.declared.record.Record.TheVariants.{Received}
use Rattle.capture.specs.Entries.{told}
use Rattle.capture.specs.Reading.{◌>>=◌, bytes_at, cut_at, hint_at, message_within, must, number_at, positive_at, receipt_at}
use Rattle.capture.specs.Worded.{linked, messaged_within, numbered}

-- a receipt, where hints are numbers
pub receipt_numbered : (fate : Fate) (text : List ℕ) (read : Option (ℕ × List ℕ)) → read ≡ numbered MAX_HINT (cut_at 32 text)
    → receipt_at Number fate text ≡ told (option_map (λ (parts : ℕ × List ℕ). (entries.Received fate parts.0, parts.1)) read)
unfolding receipt_at hint_at
receipt_numbered fate text read e = rw e (by_cut (cut_at 32 text))
  where
    by_number : (rest : List ℕ) (n : Option ℕ) → (must n >>= λ hint. bytes_at MAX_UNIT rest >>= λ bytes. Ok (Received hint fate bytes))
        ≡ told (option_map (λ (parts : ℕ × List ℕ). (entries.Received fate parts.0, parts.1)) (option_map (λ number. (number, rest)) n))
    by_number rest None = refl
    by_number rest (Some n) = refl

    by_cut : (o : Option (List ℕ × List ℕ)) →
        (must o >>= λ parts. must (number_at MAX_HINT parts.0) >>= λ hint. bytes_at MAX_UNIT parts.1 >>= λ bytes. Ok (Received hint fate bytes))
        ≡ told (option_map (λ (parts : ℕ × List ℕ). (entries.Received fate parts.0, parts.1)) (numbered MAX_HINT o))
    by_cut None = refl
    by_cut (Some parts) = by_number parts.1 (number_at MAX_HINT parts.0)

-- in format 3 likewise
pub receipt_wide : (fate : Fate) (text : List ℕ) → receipt_at Wide fate text ≡ receipt_at Number fate text
unfolding receipt_at hint_at
receipt_wide fate text = refl

-- a message
pub message_numbered : (most : ℕ) (text : List ℕ) → message_within most text ≡ messaged_within most (linked (numbered MAX_LINK (cut_at 32 text)))
unfolding message_within positive_at
message_numbered most text = by_cut (cut_at 32 text)
  where
    by_test : (n : ℕ) (rest : List ℕ) (some : Bool) →
        (must (cond some (Some n) None) >>= λ link. bytes_at most rest >>= λ bytes. Ok (link, bytes))
        ≡ messaged_within most (cond some (Some (n, rest)) None)
    by_test n rest true = refl
    by_test n rest false = refl

    by_number : (rest : List ℕ) (o : Option ℕ) →
        (must (option_and_then (λ n. cond (ltb 0 n) (Some n) None) o) >>= λ link. bytes_at most rest >>= λ bytes. Ok (link, bytes))
        ≡ messaged_within most (linked (option_map (λ number. (number, rest)) o))
    by_number rest None = refl
    by_number rest (Some n) = by_test n rest (ltb 0 n)

    by_cut : (o : Option (List ℕ × List ℕ)) →
        (must o >>= λ parts. must (positive_at MAX_LINK parts.0) >>= λ link. bytes_at most parts.1 >>= λ bytes. Ok (link, bytes))
        ≡ messaged_within most (linked (numbered MAX_LINK o))
    by_cut None = refl
    by_cut (Some parts) = by_number parts.1 (number_at MAX_LINK parts.0)
