use Rattle.std.proofs.Common.{◌≤◌, ap, arith, length, subst}
use Rattle.ddcmp_msg.specs.Message.{IsBytes}
use Rattle.capture_record.specs.declared.entry.Entry.{Entry}
use Rattle.capture_record.specs.Entries.{record_with}
use Rattle.capture_record.specs.Range.{IsShort}
use Rattle.leaving_out.proofs.FittedKept.{fitted_kept, unit_fitted_kept}
use Rattle.leaving_out.proofs.fitting.put_fitted.Goals as goal

pub put_changed-requires : goal.put_changed-requires
put_changed-requires c =
    let bytes = c.args.bytes.now in
    let fits : IsBytes bytes = λ i. omega (arith, c.type_inv.bytes i) in
    let short : length bytes ≤ 16393 = subst (λ (e : Entry). IsShort (record_with e bytes)) c.in-Sent.is c.requires.short in
    let kept = unit_fitted_kept c.args.leaving.now c.args.kept c.args.side bytes fits short in
    omega (arith, kept.short, ap length c.in_ok-made-in-Sent.ensures)

pub put_changed-requires-in-Received : goal.put_changed-requires-in-Received
put_changed-requires-in-Received c =
    let bytes = c.args.bytes.now in
    let fits : IsBytes bytes = λ i. omega (arith, c.type_inv.bytes i) in
    let short : length bytes ≤ 16393 = subst (λ (e : Entry). IsShort (record_with e bytes)) c.in-Received.is c.requires.short in
    let kept = unit_fitted_kept c.args.leaving.now c.args.kept c.other.result bytes fits short in
    omega (arith, kept.short, ap length c.in_ok-made-in-Received.ensures)

pub put_changed-requires-in-Composed : goal.put_changed-requires-in-Composed
put_changed-requires-in-Composed c =
    let bytes = c.args.bytes.now in
    let fits : IsBytes bytes = λ i. omega (arith, c.type_inv.bytes i) in
    let short : length bytes ≤ 16383 = subst (λ (e : Entry). IsShort (record_with e bytes)) c.in-Composed.is c.requires.short in
    let kept = fitted_kept c.args.leaving.now c.args.kept c.args.side bytes fits in
    omega (arith, kept.short, ap length c.in_ok-made-in-Composed.ensures)

pub put_line-requires : goal.put_line-requires
put_line-requires c =
    let bytes = c.args.bytes.now in
    let short : length bytes ≤ 16393 = subst (λ (e : Entry). IsShort (record_with e bytes)) c.in-Noise.is c.requires.short in
    omega arith
