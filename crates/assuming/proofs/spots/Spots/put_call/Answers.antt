use Rattle.std.proofs.Common.{[], ◌∷◌, ◌++◌, sym, subst, arith}
use Rattle.std.specs.List.{AllByRecursion}
use Rattle.capture_record.specs.declared.record.Record.TheVariants.{Received}
use Rattle.dna_packet.specs.Nsp.{view}
use Rattle.assuming.specs.declared.spots.Basis.TheVariants.{Called}
use Rattle.assuming.specs.inner.Spots.{IsSpot, Kept}
use Rattle.assuming.proofs.SpotLaws.{called_here, put_on, spots_on}
use Rattle.assuming.proofs.spots.Spots.put_call.Goals as goal

pub returns-in_default-clause-each : goal.returns-in_default-clause-each
returns-in_default-clause-each c = λ rs h. spots_on rs (Received c.args.came c.args.fate c.args.bytes.now) c.args.self.now.spots h.each

pub returns-then-partner-eq0-clause-each : goal.returns-then-partner-eq0-clause-each
returns-then-partner-eq0-clause-each c = λ rs h. spots_on rs (Received c.args.came c.args.fate c.args.bytes.now) c.args.self.now.spots h.each

pub returns-clause-each : goal.returns-clause-each
returns-clause-each c = λ rs h.
    let k = c.args.self.now in
    let x = Received c.args.came c.args.fate c.args.bytes.now in
    let partner = c.caller_of-partner.result in
    let there = called_here rs c.args.came c.args.fate c.args.bytes.now k h c.requires.kept (view c.in-Some.message) (sym c.in-Some.ensures)
    partner (sym c.caller_of-partner.ensures) (omega (arith, c.if-partner-eq0.false)) in
    subst (λ (new : Kept). AllByRecursion (IsSpot (rs ++ x ∷ [])) new.spots) (sym c.in_ok-put.ensures)
    (put_on rs x k h (Called c.args.came partner) there)
