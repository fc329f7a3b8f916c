use Rattle.std.proofs.Common.{◌≡◌, take}
use Rattle.std.specs.List.{filter}
use Rattle.side_words.specs.Subject as spec
use Rattle.side_words.proofs.subject.others.Given as goal

abbrev pub invariant-loop-link : goal.invariant-loop-link
invariant-loop-link l = l.found.items ≡ filter (spec.is_other l.named l.by_own) (take l.link-index l.live)
