use Rattle.std.proofs.Common.{refl, ap, ◌+◌, ◌∙◌, ℕ}
use Rattle.capture_record.specs.declared.record.Record.TheVariants.{Sent}
use Rattle.assuming.specs.inner.Spots.{Kept}
use Rattle.assuming.proofs.SpotLaws.{goes_on, spots_are}
use Rattle.assuming.proofs.spots.Spots.send.Goals as goal

pub returns-clause-of : goal.returns-clause-of
returns-clause-of c = λ rs h.
    let made = c.in_ok-put_message.ensures in
    let view = c.self.view_is in
    goes_on rs (Sent c.args.bytes.now) c.args.self.now _ h
    (spots_are rs (Sent c.args.bytes.now) _ _ (ap (λ (k : Kept). k.spots) view) (made.each rs h))
    (ap (λ (k : Kept). k.units + 1) view ∙ ap (λ (n : ℕ). n + 1) made.same.0) refl
