use Rattle.wire_base.specs.declared.side.Side.TheVariants.{A, B}
use Rattle.wire_tap.specs.Accusing.{head_of}
use Rattle.wire_tap.proofs.told.Told.pass.Goals as goal

pub returns-in_ok-passed-in-A : goal.returns-in_ok-passed-in-A
returns-in_ok-passed-in-A c line_alone a b passed told =
    rw c.in-A.is (
      c.in_ok-passed-in-A.ensures.own line_alone (head_of a b) A passed told.0,
      c.in_ok-passed-in-A.ensures.other line_alone (head_of b a) A passed told.1,
    )

pub returns-in_ok-passed-in-B : goal.returns-in_ok-passed-in-B
returns-in_ok-passed-in-B c line_alone a b passed told =
    rw c.in-B.is (
      c.in_ok-passed-in-B.ensures.other line_alone (head_of a b) B passed told.0,
      c.in_ok-passed-in-B.ensures.own line_alone (head_of b a) B passed told.1,
    )
