use Rattle.std.proofs.Common.{◌≡◌, ◌++◌, string_bytes, take}
use Rattle.std.specs.List.{flat_map}
use Rattle.coverage.specs.Missing.{setup_line}
use Rattle.coverage.proofs.missing.put_setups.Given as goal

abbrev pub invariant-loop-setup : goal.invariant-loop-setup
invariant-loop-setup l = string_bytes l.text ≡ string_bytes l.initial.text ++ flat_map setup_line (take l.setup-index l.setups)
