-- The block of a reader of lines.
use Rattle.std.specs.Prelude.{◌≡◌, ◌≤◌, length}
use Rattle.std.specs.List.{between}
use Rattle.capture.specs.declared.line_reader.LineReader.TheInside.{Inside}
use Rattle.capture.specs.declared.line_reader.TheConstants.{BLOCK}
use Rattle.capture.specs.Lines.{LineState}

-- the bytes read ahead are those from start to end, and the line that was taken last those from last to last_end
abbrev pub line_state : Inside → LineState
line_state r = record { taken = r.taken; unread = between r.start r.end r.block.items; last = between r.last r.last_end r.block.items }

pub record IsBlock (r : Inside) : Type 0 where
  pub order : r.start ≤ r.end
  pub within : r.end ≤ BLOCK
  pub whole : length r.block.items ≡ BLOCK
  pub last_order : r.last ≤ r.last_end
  pub last_within : r.last_end ≤ BLOCK
