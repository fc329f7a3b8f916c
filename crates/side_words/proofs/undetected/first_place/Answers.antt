use Rattle.std.proofs.Common.{arith, drop, eqb, length-drop}
use Rattle.std.proofs.lemmas.List.Sums.{common_prefix_len-le}
use Rattle.side_words.proofs.undetected.first_place.Goals as goal

-- one of the two ends at the shorter's end, so nothing more is common
pub returns : goal.returns
returns c =
    let bytes = c.args.bytes.now in
    let first = c.args.unit.now in
    let place = c.loop-place.place in
    let within = common_prefix_len-le (λ x y. eqb x y) (drop place bytes) (drop place first) in
    omega (
      arith,
      within.0,
      within.1,
      length-drop place bytes,
      length-drop place first,
      c.loop-place.invariant,
      c.min-shorter.ensures,
      c.loop-place-test.false,
      c.loop-place.auto.place-end,
    )
