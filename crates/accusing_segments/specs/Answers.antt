-- What is known of a side by the units that passed, and what it means that a unit is wrong.
use Rattle.std.specs.Prelude.{◌≡◌, ℕ, false, List, [], ◌∷◌}
use Rattle.capture_record.specs.declared.record.Record.{Record}
use Rattle.capture_record.specs.declared.record.Record.TheVariants.{User}
use Rattle.capture_record.specs.declared.event.Event.TheVariants.{Composed}
use Rattle.dna_station.specs.declared.head.Head.{Head}
use Rattle.dna_links.specs.SegmentBook.{REACH}
use Rattle.dna_links.specs.declared.queue.Queues.{Queues}
use Rattle.accusing.specs.Placing.{Passed}
use Rattle.accusing_links.specs.Placing.{IsNodePlacing}
use Rattle.accusing_segments.specs.History.{Known, has, history}
use Rattle.accusing_segments.specs.Fits.{fits}
use Rattle.accusing_segments.specs.Wrong.{is_covered}
use Rattle.accusing_segments.specs.Repeats.{repeats}
use Rattle.accusing_segments.specs.Noted.{Noted, first_noted}

-- no packet was composed and then never sent: none of these records says so (`x`)
abbrev pub SendsAll : List Record → Type 0
SendsAll [] = Unit {0}
SendsAll (User (Composed packet) ∷ records) = ⊥
SendsAll (one ∷ records) = SendsAll records

-- No right node that sends all it composed, with queues or without, can have sent its units among these, whatever it heard of the others, whatever
-- was lost or damaged, whatever noise there was and whatever its user did
abbrev pub IsWrong : List Passed → Type 0
IsWrong passed = (queues : Queues) (head : Head) (records : List Record) → IsNodePlacing queues head passed records → SendsAll records → ⊥

-- what passed, as lists; of a link and one of the other side the largest SEGSIZE of that; and what is noted of pieces and calls
pub record Sight : Type 0 where
  pub ends : List (ℕ × ℕ × ℕ × ℕ)
  pub words : List (ℕ × ℕ × ℕ × ℕ)
  pub rooms : List ((ℕ × ℕ) × ℕ)
  pub noted : Noted

abbrev pub IsAs : List (ℕ × ℕ × ℕ × ℕ) → Known → Type 0
IsAs ids known = (own far number what : ℕ) → has ids own far number what ≡ known own far number what

-- these are known after these units; of the pieces that went first those that can't be acknowledged
pub record IsAfter (sight : Sight) (passed : List Passed) : Type 0 where
  pub ends : IsAs sight.ends (history passed).ends
  pub words : IsAs sight.words (history passed).words
  pub rooms : (own far bytes what : ℕ) → fits sight.rooms own far bytes what ≡ (history passed).rooms own far bytes what
  pub firsts : (own far number : ℕ) → is_covered (λ n. (history passed).words own far n 0) number REACH ≡ false →
      first_noted sight.noted.firsts own far number ≡ (repeats passed).firsts own far number
  pub called : IsAs sight.noted.called (repeats passed).called
  pub again : IsAs sight.noted.again (repeats passed).again
