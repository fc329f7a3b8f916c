-- What a contract sees of a reader of a text that lists items, and what one call of it gives.
use Rattle.std.specs.Prelude.{◌≡◌, ℕ, ◌+◌, ◌<◌, List, Option, Some, None, Result, Ok, Err}
use Rattle.std.specs.Io.KnownBytes.{Consumes, IsAtEnd}
use Rattle.capture.specs.declared.fault.CaptureFault.{CaptureFault}
use Rattle.capture.specs.declared.phase.Phase.{Phase}
use Rattle.capture.specs.declared.phase.Phase.TheVariants as phases
use Rattle.capture.specs.Text.{ended}
use Rattle.capture.specs.Range.{IsNode}
use Rattle.capture.specs.Lines.{IsCut, to_come}
use Rattle.capture.specs.Faulty.{is_read_fault}
use Rattle.capture.specs.Reader.{FaultShows, WhereReadFails}
use Rattle.capture.specs.Listed.{ListForm, item_line, list_head, ItemDeparts, ListHeadDeparts}

-- the head, the count of items so far, whether more may come, the bytes read ahead, and those of the item that was read last
pub record ListState : Type 0 where
  pub node_a : ℕ
  pub node_b : ℕ
  pub items : ℕ
  pub phase : Phase
  pub unread : List ℕ
  pub bytes : List ℕ

-- What `open` gives, where these bytes were to come, and these are.
abbrev pub Opens : (first_words : List ℕ) → Option (List ℕ) → Option (List ℕ) → Result ListState CaptureFault → Type 0
Opens first_words before after (Ok state) =
    IsNode state.node_a × IsNode state.node_b × (state.items ≡ 0) × (state.phase ≡ phases.Reading)
    × Consumes before (to_come state.unread after) (ended (list_head first_words state.node_a state.node_b))
Opens first_words before after (Err fault) = FaultShows (ListHeadDeparts first_words) 1 before fault

-- an answer's item, of what is said of it beside its bytes and of these
abbrev pub with_bytes : {Entry Item : Type 0} → (Entry → List ℕ → Item) → List ℕ → Result (Option Entry) CaptureFault →
    Result (Option Item) CaptureFault
with_bytes item bytes (Ok (Some entry)) = Ok (Some (item entry bytes))
with_bytes item bytes (Ok None) = Ok None
with_bytes item bytes (Err fault) = Err fault

module _ {Item : Type 0} (form : ListForm Item) where
  -- the line is this item's
  pub record IsLineOf (line : List ℕ) (item : Item) : Type 0 where
    pub fits : form.HasLine item
    pub spelled : line ≡ form.line item

  -- What `advance` gives while more may come: an item, whose line was the first of what was to come; the end, where nothing was to come; or a fault
  -- of the line at hand.
  abbrev pub Advances : ListState → ListState → Option (List ℕ) → Option (List ℕ) → Result (Option Item) CaptureFault → Type 0
  Advances old new before after (Ok (Some item)) =
      form.HasLine item × (old.items < form.most) × (new.items ≡ old.items + 1) × (new.phase ≡ phases.Reading)
      × Consumes before after (item_line form item)
  Advances old new before after (Ok None) = IsAtEnd before × (new.items ≡ old.items) × (new.phase ≡ phases.Ended)
  Advances old new before after (Err fault) =
      FaultShows (ItemDeparts form old.items) (old.items + 2) before fault × (new.items ≡ old.items) × (new.phase ≡ phases.Failed)
      × WhereReadFails (is_read_fault fault) (IsCut new.unread before after)
