use Rattle.accusing_links.proofs.Final.{never_placed}
use Rattle.accusing_links.proofs.laws.wrong_packets_have_no_placing.Goals as goal

pub returns : goal.returns
returns c = never_placed
