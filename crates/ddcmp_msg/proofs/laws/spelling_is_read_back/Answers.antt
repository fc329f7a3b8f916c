use Rattle.ddcmp_msg.proofs.ReadBack.{reading-spelling}
use Rattle.ddcmp_msg.proofs.laws.spelling_is_read_back.Goals as goal

pub returns : goal.returns
returns c = reading-spelling
