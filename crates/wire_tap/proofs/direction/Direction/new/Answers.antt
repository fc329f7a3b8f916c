use Rattle.std.proofs.Common.{length, refl, sym, ap, ◌∙◌, arith}
use Rattle.framer.specs.Framing.{Framing}
use Rattle.framer.proofs.Framings.{framing-nil}
use Rattle.wire_tap.proofs.direction.Direction.new.Goals as goal

pub returns : goal.returns
returns c = record {
  side_is = refl;
  left = ap (λ (f : Framing). f.left) framing-nil ∙ sym c.in_ok-new.ensures;
  keeps = λ i few near. let none = c.in_ok-new.ensures in let long = ap length none in absurd (omega arith);
}
