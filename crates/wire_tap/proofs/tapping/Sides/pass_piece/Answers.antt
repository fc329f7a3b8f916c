use Rattle.std.proofs.Common.{refl}
use Rattle.wire_tap.specs.inner.Side.{side_state}
use Rattle.wire_tap.proofs.LineLaws.{piece_of_a, piece_of_b}
use Rattle.wire_tap.proofs.tapping.Sides.pass_piece.Goals as goal

pub returns-in-A : goal.returns-in-A
returns-in-A c =
    rw c.in-A.is (piece_of_a c.args.at.last c.args.piece.now (side_state c.args.self.now.a) _ (side_state c.args.self.now.b) _ c.pass_bytes.result
    c.pass_bytes.ensures.other refl refl (rw c.in-A.is at c.pass_bytes.ensures.own))

pub returns-in-B : goal.returns-in-B
returns-in-B c =
    rw c.in-B.is (piece_of_b c.args.at.last c.args.piece.now (side_state c.args.self.now.b) _ (side_state c.args.self.now.a) _
    c.pass_bytes-in-B.result c.pass_bytes-in-B.ensures.other refl refl (rw c.in-B.is at c.pass_bytes-in-B.ensures.own))
