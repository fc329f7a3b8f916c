use Rattle.std.proofs.Common.{refl}
use Rattle.why_answer.proofs.telling.refusal_of.Goals as goal

pub returns : goal.returns
returns c = record {
  side = refl;
  place = refl;
  reason = refl;
  accused = c.accusation_of.ensures;
  ahead = c.in-Some.ensures.some;
  failing = _;
  failed = c.in-Some-failed.ensures;
}
