-- The text that is made is read as it was put together.
use Rattle.std.proofs.Common.{◌≡◌, ℕ, zero, suc, ◌+◌, ◌<◌, ◌≤◌, inl, inr, List, [], ◌∷◌, ◌++◌, length, replicate, Option, Some, None, refl, sym}
use Rattle.std.proofs.Common.{ap, subst, ◌∙◌, arith, append-nil}
use Rattle.std.specs.Prelude.{codes}
use Rattle.std.specs.List.{AllByRecursion}
use Rattle.std.specs.Option.{IfSome}
use Rattle.std.specs.Io.KnownBytes.{Consumes}
use Rattle.std.proofs.lemmas.List.{length-replicate}
use Rattle.wire_base.specs.declared.side.Side.{Side}
use Rattle.capture_record.specs.declared.event.Event.TheVariants as events
use Rattle.capture_record.specs.declared.fate.Fate.TheVariants.{NotKept, Kept, Dropped}
use Rattle.capture.specs.declared.fault.Departure.{Departure}
use Rattle.capture.specs.declared.fault.Departure.TheVariants.{Syntax, TooLong, TooMany, Part}
use Rattle.capture.specs.declared.format.Format.TheVariants.{Three}
use Rattle.capture.specs.declared.hint.HintForm.{HintForm}
use Rattle.capture.specs.declared.hint.HintForm.TheVariants.{Wide}
use Rattle.capture.specs.declared.limit.TheConstants.{MAX_LINE, MAX_RECORDS}
use Rattle.capture_record.specs.declared.record.Record.{Record}
use Rattle.capture_record.specs.declared.record.Record.TheVariants.{Sent, Received, Noise, User}
use Rattle.capture.specs.Departing.{RecordDeparts, first_line}
use Rattle.capture.specs.Range.{IsInFormat}
use Rattle.capture.specs.SoFar.{Behind, IsReadSoFar, ReadSoFar, TheEnd, ToCome, coming, so_far}
use Rattle.capture.specs.Text.{record_text}
use Rattle.leaving_out.specs.declared.leaving.Leaving.{Leaving}
use Rattle.leaving_out.specs.Records.{records_left}
use Rattle.leaving_out.specs.Texts.{IsReadAlike, MadeOf, departing, text_left, too_long_line}
use Rattle.leaving_out.proofs.Fits.{as_many, each_fits}
use Rattle.leaving_out.proofs.Made.{wide}

-- ---- the line that departs

long_line : (n : ℕ) → first_line (replicate n 63 ++ 10 ∷ []) ≡ replicate n 63
long_line zero = refl
long_line (suc n) = ap (λ (x : List ℕ). 63 ∷ x) (long_line n)

long_length : (n : ℕ) → length (first_line (replicate n 63 ++ 10 ∷ [])) ≡ n
long_length n = ap length (long_line n) ∙ length-replicate n 63

is_too_long : MAX_LINE < length (first_line too_long_line)
unfolding too_long_line
is_too_long = omega (arith, long_length (MAX_LINE + 1))

no_words : (r : Record) → codes "?" ≡ record_text Wide r → ⊥
no_words (Sent bytes) e = absurd cc
no_words (Received hint NotKept bytes) e = absurd cc
no_words (Received hint Kept bytes) e = absurd cc
no_words (Received hint Dropped bytes) e = absurd cc
no_words (Noise bytes) e = absurd cc
no_words (User events.Start) e = absurd cc
no_words (User events.Halt) e = absurd cc
no_words (User (events.Open link)) e = absurd cc
no_words (User (events.Accept partner link)) e = absurd cc
no_words (User (events.Reject partner link)) e = absurd cc
no_words (User (events.In link bytes)) e = absurd cc
no_words (User (events.Up link bytes)) e = absurd cc
no_words (User (events.Close link)) e = absurd cc
no_words (User events.Boot) e = absurd cc
no_words (User (events.Abort link)) e = absurd cc
no_words (User (events.Composed packet)) e = absurd cc
no_words (User (events.Interrupt link bytes)) e = absurd cc
no_words (User (events.Interrupted link bytes)) e = absurd cc

departs_as : (form : HintForm) (n : ℕ) (kind : Departure) (bytes : List ℕ) → RecordDeparts form n kind bytes →
    RecordDeparts Wide n kind (departing kind)
departs_as form n TooMany bytes (inl line) = inl (line.0, λ e. absurd cc)
departs_as form n TooMany bytes (inr words) = absurd words.2
departs_as form n Part bytes (inl line) = absurd line
departs_as form n Part bytes (inr words) = absurd words.2
departs_as form n TooLong bytes (inl line) = inl (line.0, is_too_long)
departs_as form n TooLong bytes (inr words) = inl (words.0, is_too_long)
departs_as form n Syntax bytes (inl line) = inr (line.0, record { short = omega arith; ended = refl }, λ r spelling is fits. no_words r is)
departs_as form n Syntax bytes (inr words) = inr (words.0, record { short = omega arith; ended = refl }, λ r spelling is fits. no_words r is)

-- ---- the text

in_three : (rs : List Record) → AllByRecursion (IsInFormat Three) rs
in_three [] = tt
in_three (r ∷ rs) = (tt, in_three rs)

module _ (leaving : Leaving) (side : Side) (bytes made : List ℕ) (read : ReadSoFar) (h : IsReadSoFar (Some bytes) read) where
  abbrev again : Behind → ReadSoFar
  again behind = so_far Wide read.own read.peer (records_left leaving side read.records) behind

  reads : (behind : Behind) → Consumes (Some made) (coming behind) (text_left leaving side read) → IsReadSoFar (Some made) (again behind)
  reads behind begins = record {
    fits = record {
      own_fits = h.fits.own_fits;
      peer_fits = h.fits.peer_fits;
      each = each_fits leaving side read.records h.fits.each;
      few = subst (λ (n : ℕ). n ≤ MAX_RECORDS) (sym (as_many leaving side read.records)) h.fits.few;
    };
    lines = in_three (records_left leaving side read.records);
    begins = begins;
    form_is = sym (wide (records_left leaving side read.records));
  }

  -- the text behind what was read is known
  known : (come : Option (List ℕ)) (front : List ℕ) (form : HintForm) (n : ℕ) (kind : Departure) → Consumes (Some bytes) come front →
      IfSome come (RecordDeparts form n kind) → RecordDeparts Wide n kind (departing kind)
  known None front form n kind begins departs = absurd begins
  known (Some rest) front form n kind begins departs = departs_as form n kind rest departs

  whole : MadeOf leaving side read made → (again : ReadSoFar) × IsReadSoFar (Some made) again × IsReadAlike leaving side read again
  whole (inl ended) = (
    again TheEnd,
    reads TheEnd (ended.1 ∙ sym (append-nil (text_left leaving side read))),
    record { own_is = refl; peer_is = refl; records_are = refl; same_end = inl (ended.0, refl) },
  )
  whole (inr (kind, departs, is)) = (
    again (ToCome (Some (departing kind))),
    reads (ToCome (Some (departing kind))) is,
    record {
      own_is = refl;
      peer_is = refl;
      records_are = refl;
      same_end = inr (
        kind,
        departs,
        record {
          departs = subst (λ (n : ℕ). RecordDeparts Wide n kind (departing kind)) (sym (as_many leaving side read.records))
              (known (coming read.behind) _ read.form (length read.records) kind h.begins departs.departs);
          line_is = refl;
        },
      );
    },
  )

pub read_alike : (leaving : Leaving) (side : Side) (bytes made : List ℕ) (read : ReadSoFar) → IsReadSoFar (Some bytes) read →
    MadeOf leaving side read made → (again : ReadSoFar) × IsReadSoFar (Some made) again × IsReadAlike leaving side read again
read_alike leaving side bytes made read h is = whole leaving side bytes made read h is
