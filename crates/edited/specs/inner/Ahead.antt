-- The block of the bytes that were read ahead.
use Rattle.std.specs.Prelude.{◌≡◌, ℕ, ◌≤◌, List, length}
use Rattle.std.specs.List.{between}
use Rattle.edited.specs.declared.ahead.Ahead.TheInside.{Inside}
use Rattle.edited.specs.declared.ahead.TheConstants.{BLOCK}

abbrev pub ahead_bytes : Inside → List ℕ
ahead_bytes a = between a.start a.end a.block.items

pub record IsBlock (a : Inside) : Type 0 where
  pub order : a.start ≤ a.end
  pub within : a.end ≤ BLOCK
  pub whole : length a.block.items ≡ BLOCK
