use Rattle.std.proofs.Common.{sym, subst}
use Rattle.std.specs.List.{AllByRecursion}
use Rattle.capture_record.specs.declared.record.Record.TheVariants.{Sent}
use Rattle.std.proofs.Common.{[], ◌∷◌, ◌++◌}
use Rattle.dna_packet.specs.Nsp.{view}
use Rattle.assuming.specs.declared.spots.Basis.TheVariants.{Sends}
use Rattle.assuming.specs.inner.Spots.{IsSpot, Kept}
use Rattle.assuming.proofs.SpotLaws.{put_on, sent_here, spots_on}
use Rattle.assuming.proofs.spots.Spots.put_message.Goals as goal

pub returns-in_default-clause-each : goal.returns-in_default-clause-each
returns-in_default-clause-each c = λ rs h. spots_on rs (Sent c.args.bytes.now) c.args.self.now.spots h.each

pub returns-clause-each : goal.returns-clause-each
returns-clause-each c = λ rs h.
    let k = c.args.self.now in
    let bytes = c.args.bytes.now in
    let there = sent_here rs bytes k h (view c.in-Some.message) (sym c.in-Some.ensures) c.kind_of-kind.result (sym c.kind_of-kind.ensures) in
    subst (λ (new : Kept). AllByRecursion (IsSpot (rs ++ Sent bytes ∷ [])) new.spots) (sym c.in_ok-put.ensures)
    (put_on rs (Sent bytes) k h (Sends c.kind_of-kind.result) there)
