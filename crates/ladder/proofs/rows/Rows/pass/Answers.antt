use Rattle.std.proofs.Common.{◌<◌, length, sym, ◌∙◌, ap, arith, set}
use Rattle.ladder.specs.Row.{passed}
use Rattle.ladder.proofs.Lists.{mapped_more}
use Rattle.ladder.proofs.rows.Rows.pass.Goals as goal

pub loop-index-preserved : goal.loop-index-preserved
loop-index-preserved c =
    let start = c.self.inside.rows.items in
    let now = c.loop-index.self-inside.rows.items in
    let i = c.loop-index.index in
    let below : i < length start = omega (arith, c.loop-index-test.true, c.len-index-end.ensures.len) in
    record {
      rows = ap (set now i) c.pass.ensures
          ∙ mapped_more (passed c.args.receiver c.args.hint) start now i c.in-Some.row.now below
          c.loop-index.invariant.rows (sym c.in-Some.ensures.value);
      keep = c.loop-index.invariant.keep;
      phase = c.loop-index.invariant.phase;
      drawn = c.loop-index.invariant.drawn;
      room = c.loop-index.invariant.room;
    }
