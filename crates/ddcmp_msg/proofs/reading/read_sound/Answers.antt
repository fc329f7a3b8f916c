use Rattle.std.proofs.Common.{◌≡◌, ◌+◌, ◌-◌, ◌∙◌, refl, arith}
use Rattle.ddcmp_msg.specs.Reading.{count_of}
use Rattle.ddcmp_msg.proofs.SoundUnits.{long_unit, data_unit, ack_unit}
use Rattle.ddcmp_msg.proofs.reading.read_sound.Goals as goal

pub bounds-bytes-0 : goal.bounds-bytes-0
bounds-bytes-0 c = omega (arith, long_unit c.args.bytes.now c.requires)

pub bounds-bytes-2 : goal.bounds-bytes-2
bounds-bytes-2 c = omega (arith, long_unit c.args.bytes.now c.requires)

pub bounds-bytes-3 : goal.bounds-bytes-3
bounds-bytes-3 c = omega (arith, long_unit c.args.bytes.now c.requires)

pub bounds-bytes-4 : goal.bounds-bytes-4
bounds-bytes-4 c = omega (arith, long_unit c.args.bytes.now c.requires)

pub overflow_sub-result : goal.overflow_sub-result
overflow_sub-result c = omega (arith, long_unit c.args.bytes.now c.requires)

pub slice_bounds-result-count : goal.slice_bounds-result-count
slice_bounds-result-count c = omega (arith, (data_unit c.args.bytes.now c.requires c.if-bytes.true).whole)

pub slice_bounds-result-start : goal.slice_bounds-result-start
slice_bounds-result-start c = omega (arith, (data_unit c.args.bytes.now c.requires c.if-bytes.true).whole)

pub returns-then-bytes-clause-value : goal.returns-then-bytes-clause-value
returns-then-bytes-clause-value c =
    let known = data_unit c.args.bytes.now c.requires c.if-bytes.true in
    let n = count_of c.args.bytes.now in
    let room : n + 10 - 2 - 8 ≡ 8 + n - 8 = omega arith in
    known.message ∙ rw (known.whole, room, c.from_byte.ensures) refl

pub bounds-bytes-1 : goal.bounds-bytes-1
bounds-bytes-1 c = omega (arith, long_unit c.args.bytes.now c.requires)

pub bounds-bytes-2-then-bytes-eq-ACK : goal.bounds-bytes-2-then-bytes-eq-ACK
bounds-bytes-2-then-bytes-eq-ACK c = omega (arith, long_unit c.args.bytes.now c.requires)

pub bounds-bytes-3-then-bytes-eq-ACK : goal.bounds-bytes-3-then-bytes-eq-ACK
bounds-bytes-3-then-bytes-eq-ACK c = omega (arith, long_unit c.args.bytes.now c.requires)

pub returns-then-bytes-eq-ACK-clause-value : goal.returns-then-bytes-eq-ACK-clause-value
returns-then-bytes-eq-ACK-clause-value c =
    ack_unit c.args.bytes.now c.requires c.if-bytes.false c.if-bytes-eq-ACK.true ∙ rw c.from_byte-then-bytes-eq-ACK.ensures refl
