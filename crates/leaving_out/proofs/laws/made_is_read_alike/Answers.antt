use Rattle.leaving_out.proofs.Alike.{read_alike}
use Rattle.leaving_out.proofs.laws.made_is_read_alike.Goals as goal

pub returns : goal.returns
returns c = read_alike
