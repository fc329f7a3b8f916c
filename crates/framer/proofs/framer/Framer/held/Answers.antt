use Rattle.std.proofs.Common.{◌≡◌, subst}
use Rattle.framer.specs.Framing.{framing, only_left}
use Rattle.framer.specs.Given.{FramerState}
use Rattle.framer.proofs.Framings.{framing-cut}
use Rattle.framer.proofs.framer.Framer.held.Goals as goal

pub returns-clause-left : goal.returns-clause-left
returns-clause-left c =
    subst (λ (s : FramerState). framing s.held ≡ only_left s.held) c.self.view_is (framing-cut c.self.inside.room.held c.self.invariant.cut)
