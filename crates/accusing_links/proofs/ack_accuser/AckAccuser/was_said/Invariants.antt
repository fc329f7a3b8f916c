use Rattle.accusing_links.proofs.Prelude.{◌≡◌, false, has, was_said}
use Rattle.accusing_links.proofs.ack_accuser.AckAccuser.was_said.Given as goal

abbrev pub invariant-loop-above : goal.invariant-loop-above
invariant-loop-above l = was_said (has l.self.said l.own l.far) l.number l.above ≡ false
