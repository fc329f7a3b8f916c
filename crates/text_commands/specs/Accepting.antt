-- What `check` is given of what `play` wrote into two empty captures.
use Rattle.std.specs.Prelude.{◌≡◌, ℕ, ◌<◌, ◌⊎◌, [], Some, Result, Ok, Err}
use Rattle.pair_judge.specs.declared.fault.JudgeFault.TheVariants as judge
use Rattle.pair_judge.specs.declared.fault.TextFault.TheVariants as of_text
use Rattle.pair_judge.specs.Judged.{Answer}
use Rattle.pair_player.specs.declared.fault.PlayFault.{PlayFault}
use Rattle.pair_player.specs.declared.fault.PlayFault.TheVariants.{Departs, BadStep, Full, Read, Write, OutOfMemory}
use Rattle.pair_player.specs.declared.played.Played.{Played}
use Rattle.pair_player.specs.Playing.{Held, held}
use Rattle.dna_node.specs.Kind.{both_layers}
use Rattle.text_commands.specs.Playing.{IsPlaying}
use Rattle.printing.specs.Printed.{Checks, Moved, verdict_text}

-- two writers that took nothing yet
abbrev pub empty_captures : Held
empty_captures = held (Some []) (Some [])

-- the answer tells that both captures are written as far as the script goes: all was played, or a line after the head is at fault
abbrev pub HasCaptures : Result Played PlayFault → Type 0
HasCaptures (Ok played) = Unit {0}
HasCaptures (Err (Departs kind line)) = 1 < line
HasCaptures (Err (BadStep line)) = Unit {0}
HasCaptures (Err (Full line)) = Unit {0}
HasCaptures (Err Read) = ⊥
HasCaptures (Err (Write side)) = ⊥
HasCaptures (Err OutOfMemory) = ⊥

-- no line of either text departs from the format
abbrev pub NamesNoText : Answer → Type 0
NamesNoText (Ok verdict) = Unit {0}
NamesNoText (Err (judge.Capture side (of_text.Departs kind line))) = ⊥
NamesNoText (Err (judge.Capture side of_text.Read)) = Unit {0}
NamesNoText (Err judge.OutOfMemory) = Unit {0}

-- one call of `play` into two empty captures, that ends with status 0, and then one of `check`, of what they hold
pub record PlaysThenChecks (script : Moved) (captures : Moved × Moved) (played_to checked_to : Moved × Moved) (status : ℕ) : Type 0 where
  pub plays : IsPlaying script captures played_to.0 played_to.1 0
  pub empty_a : captures.0.old.bytes ≡ Some []
  pub empty_b : captures.1.old.bytes ≡ Some []
  pub a : Moved
  pub b : Moved
  pub reads_a : a.old.bytes ≡ captures.0.new.bytes
  pub reads_b : b.old.bytes ≡ captures.1.new.bytes
  pub checks : Checks both_layers verdict_text a b checked_to.0 checked_to.1 status

-- `check` accepts, or a device or the memory failed
abbrev pub IsAcceptedStatus : ℕ → Type 0
IsAcceptedStatus status = (status ≡ 0) ⊎ (status ≡ 3)
