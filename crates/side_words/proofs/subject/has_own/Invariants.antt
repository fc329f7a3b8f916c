use Rattle.std.proofs.Common.{◌≡◌, Bool, false, take}
use Rattle.std.specs.List.{list_any}
use Rattle.side_words.specs.Subject as spec
use Rattle.side_words.proofs.subject.has_own.Given as goal

abbrev pub invariant-loop-link : goal.invariant-loop-link
invariant-loop-link l = list_any (spec.is_own l.named) (take l.link-index l.live) ≡ false
