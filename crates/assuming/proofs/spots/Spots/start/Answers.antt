use Rattle.std.proofs.Common.{[], ◌∷◌, ◌++◌, refl, sym, subst, ap}
use Rattle.capture_record.specs.declared.event.Event.TheVariants.{Start}
use Rattle.capture_record.specs.declared.record.Record.TheVariants.{User}
use Rattle.assuming.specs.declared.spots.Basis.TheVariants.{Starts}
use Rattle.assuming.specs.inner.Spots.{AreOf, Kept, with_spot}
use Rattle.assuming.proofs.SpotLaws.{goes_on, put_on, start_here}
use Rattle.assuming.proofs.spots.Spots.start.Goals as goal

pub returns-clause-of : goal.returns-clause-of
returns-clause-of c = λ rs h.
    let k = c.args.self.now in
    let kept = c.put.inside.kept in
    let there = start_here rs k h kept (sym (ap (λ (k : Kept). k.kept) c.put.view_is)) in
    subst (AreOf (rs ++ User Start ∷ [])) (sym c.in_ok-put.ensures)
    (goes_on rs (User Start) k (with_spot k (Starts kept)) h (put_on rs (User Start) k h (Starts kept) there) refl refl)
