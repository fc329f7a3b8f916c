use Rattle.wire_base.specs.declared.side.Side.TheVariants.{A, B}
use Rattle.wire_text.specs.WireText.{piece}
use Rattle.wire_tap.specs.Units.{passed_in}
use Rattle.wire_tap.proofs.AccuserLaws.{on_ok}
use Rattle.wire_tap.proofs.PieceLaws.{behind_on, keeps_on, lies_on, none_of_a, none_of_b, stays_behind, told_on}
use Rattle.wire_tap.proofs.accused.Line.pass.Goals as goal

pub returns-in-A : goal.returns-in-A
returns-in-A c line_alone a b pieces line_is behind =
    let bytes = c.args.bytes.now in
    let d = c.args.self.now.a in
    let finds = (rw behind.a.side_is at c.pass_bytes.ensures) line_alone a b (passed_in pieces) _ _ behind.told
    (keeps_on A pieces bytes d behind.a) (lies_on A pieces bytes d behind.a c.args.line line_is) in
    rw c.in-A.is (on_ok c.pass_bytes.result _ _ (λ f. record {
      a = behind_on A pieces bytes d behind.a line_alone a b _ _ f;
      b = stays_behind B pieces (piece A bytes) c.args.self.now.b (none_of_b pieces bytes) behind.b;
      told = told_on A pieces bytes d behind.a line_alone a b _ _ f;
    }) finds)

pub returns-in-B : goal.returns-in-B
returns-in-B c line_alone a b pieces line_is behind =
    let bytes = c.args.bytes.now in
    let d = c.args.self.now.b in
    let finds = (rw behind.b.side_is at c.pass_bytes-in-B.ensures) line_alone a b (passed_in pieces) _ _ behind.told
    (keeps_on B pieces bytes d behind.b) (lies_on B pieces bytes d behind.b c.args.line line_is) in
    rw c.in-B.is (on_ok c.pass_bytes-in-B.result _ _ (λ f. record {
      a = stays_behind A pieces (piece B bytes) c.args.self.now.a (none_of_a pieces bytes) behind.a;
      b = behind_on B pieces bytes d behind.b line_alone a b _ _ f;
      told = told_on B pieces bytes d behind.b line_alone a b _ _ f;
    }) finds)
