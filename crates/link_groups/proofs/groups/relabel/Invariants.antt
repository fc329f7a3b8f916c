use Rattle.std.proofs.Common.{not, nat_eq}
use Rattle.std.specs.List.{count_by}
use Rattle.link_groups.proofs.Walking.{IsOnTheWay}
use Rattle.link_groups.proofs.groups.relabel.Given as goal

abbrev pub invariant-loop-labels : goal.invariant-loop-labels
invariant-loop-labels l = IsOnTheWay l.fn.labels.items l.labels.items l.next.items l.start l.place l.kept

-- how many have another label
abbrev pub decreases-loop-labels : goal.decreases-loop-labels
decreases-loop-labels l = count_by (λ label. not (nat_eq label l.kept)) l.labels.items
