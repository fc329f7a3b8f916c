use Rattle.std.proofs.Common.{◌≡◌, ◌++◌, map, take}
use Rattle.printing.specs.NotOpened.{told_byte}
use Rattle.printing.proofs.path_text.put_path.Given as goal

abbrev pub invariant-loop-byte : goal.invariant-loop-byte
invariant-loop-byte l = l.text.items ≡ l.initial.text.items ++ map told_byte (take l.byte-index l.bytes)
