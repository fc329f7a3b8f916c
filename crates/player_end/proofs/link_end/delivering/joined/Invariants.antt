use Rattle.std.proofs.Common.{◌≡◌, take}
use Rattle.player_end.specs.inner.Delivering.{bodies}
use Rattle.player_end.proofs.link_end.delivering.joined.Given as goal

abbrev pub invariant-loop-place : goal.invariant-loop-place
invariant-loop-place l = l.message.items ≡ bodies (take l.place l.pieces)
