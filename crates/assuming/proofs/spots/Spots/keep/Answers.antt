use Rattle.std.proofs.Common.{ap, ◌+◌, ◌∙◌, ℕ}
use Rattle.capture_record.specs.declared.record.Record.TheVariants.{Received}
use Rattle.assuming.specs.inner.Spots.{Kept}
use Rattle.assuming.proofs.SpotLaws.{goes_on, one_kept, spots_are}
use Rattle.assuming.proofs.spots.Spots.keep.Goals as goal

pub returns-clause-of : goal.returns-clause-of
returns-clause-of c = λ rs h.
    let made = c.in_ok-put_call.ensures in
    let view = c.self.view_is in
    let x = Received c.args.came c.args.fate c.args.bytes.now in
    goes_on rs x c.args.self.now _ h (spots_are rs x _ _ (ap (λ (k : Kept). k.spots) view) (made.each rs h))
    (ap (λ (k : Kept). k.units) view ∙ made.same.0)
    (ap (λ (k : Kept). k.kept + 1) view ∙ ap (λ (n : ℕ). n + 1) made.same.1
    ∙ one_kept c.args.self.now.kept c.args.came c.args.fate c.args.bytes.now c.requires.kept)
