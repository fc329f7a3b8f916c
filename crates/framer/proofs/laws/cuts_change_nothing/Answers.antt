use Rattle.framer.proofs.Framings.{framing-append}
use Rattle.framer.proofs.laws.cuts_change_nothing.Goals as goal

pub returns : goal.returns
returns c = framing-append
