use Rattle.std.proofs.Common.{[], ◌∷◌, ◌++◌, refl, sym, subst, ◌∙◌, arith}
use Rattle.capture_record.specs.Entries.{record_with}
use Rattle.capture_record.specs.declared.entry.Entry.{Entry}
use Rattle.capture_record.specs.declared.record.Record.TheVariants.{Received}
use Rattle.assuming.specs.inner.Spots.{AreOf}
use Rattle.assuming.proofs.SpotLaws.{none_kept, others, stays}
use Rattle.assuming.proofs.spots.Spots.pass.Goals as goal

pub returns-else-is_kept-clause-of : goal.returns-else-is_kept-clause-of
returns-else-is_kept-clause-of c = λ rs h.
    let k = c.args.self.now in
    let r = c.in-Received in
    subst (λ (entry : Entry). AreOf (rs ++ record_with entry c.args.bytes.now ∷ []) k) (sym r.is)
    (stays rs (Received r.hint r.fate c.args.bytes.now) k h refl
    (none_kept k.kept r.hint r.fate c.args.bytes.now (sym c.is_kept.ensures ∙ c.if-is_kept.false)))

pub returns-in_default : goal.returns-in_default
returns-in_default c = record {
  of = λ rs h. others rs c.args.self.now c.args.bytes.now c.args.entry c.in_default.not-Sent (λ fate hint. c.in_default.not-Received fate hint) h;
  few = (omega arith, omega arith);
}
