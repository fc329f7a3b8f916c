use Rattle.wire_tap.proofs.PassedLaws.{by-passed}
use Rattle.wire_tap.proofs.laws.what_passed_of_a_side_are_its_units.Goals as goal

pub returns : goal.returns
returns c = by-passed
