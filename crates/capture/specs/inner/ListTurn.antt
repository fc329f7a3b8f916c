-- The fields of a reader of a text that lists items, and one item's turn.
use Rattle.std.specs.Prelude.{◌≡◌, ℕ, ◌-◌, ◌+◌, ◌≤◌, List, length, take, Option, Some, None, Result, Ok, Err}
use Rattle.std.specs.Io.KnownBytes.{Consumes, IsAtEnd}
use Rattle.capture.specs.declared.fault.CaptureFault.{CaptureFault}
use Rattle.capture.specs.Faulty.{is_read_fault}
use Rattle.capture.specs.Lines.{IsCut, LineState}
use Rattle.capture.specs.Reader.{FaultShows, WhereReadFails}
use Rattle.capture.specs.Listed.{ListForm, item_line, ItemDeparts}

-- the head's line is one of those taken, and the bytes are within the room
pub record IsCounted (most size taken len : ℕ) (bytes : List ℕ) : Type 0 where
  pub head : 1 ≤ taken
  pub few : taken ≤ most + 1
  pub room : length bytes ≡ size
  pub within : len ≤ size

-- an answer's item, of what is said of it and of as many bytes at the front of the room
abbrev pub in_room : {Entry Item : Type 0} → (Entry → List ℕ → Item) → List ℕ → Result (Option (Entry × ℕ)) CaptureFault →
    Result (Option Item) CaptureFault
in_room item room (Ok (Some (entry, len))) = Ok (Some (item entry (take len room)))
in_room item room (Ok None) = Ok None
in_room item room (Err fault) = Err fault

module _ {Item : Type 0} (form : ListForm Item) where
  -- The lines taken and the bytes to come, before and after one item's turn.
  abbrev pub TakesItem : LineState → LineState → Option (List ℕ) → Option (List ℕ) → Result (Option Item) CaptureFault → Type 0
  TakesItem old new before after (Ok (Some item)) =
      form.HasLine item × (old.taken ≤ form.most) × (new.taken ≡ old.taken + 1) × Consumes before after (item_line form item)
  TakesItem old new before after (Ok None) = IsAtEnd before × (new.taken ≡ old.taken)
  TakesItem old new before after (Err fault) =
      FaultShows (ItemDeparts form (old.taken - 1)) (old.taken + 1) before fault × (new.taken ≡ old.taken)
      × WhereReadFails (is_read_fault fault) (IsCut new.unread before after)
