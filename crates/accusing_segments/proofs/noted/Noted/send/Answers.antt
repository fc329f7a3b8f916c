use Rattle.accusing_segments.proofs.Prelude.{Some, None, cond, eqb, ◌&&◌, sym, ap₂, ◌∙◌, Piece, first_of, Noted, first_noted}
use Rattle.accusing_segments.proofs.Notes.{noted_now}
use Rattle.accusing_segments.proofs.noted.Noted.send.Goals as goal

pub returns-clause-firsts : goal.returns-clause-firsts
returns-clause-firsts c = λ o f n.
    noted_now c.args.segment.now.srcaddr c.args.segment.now.dstaddr c.args.segment.now.number c.self.inside.firsts c.insert.new.self
    c.in_ok-piece.piece c.in_ok-insert.ensures.updates (sym c.contains_key.ensures ∙ c.if-contains_key.false) o f n
    ∙ ap₂ (λ (s : Noted) (p : Piece). first_of (first_noted s.firsts o f n)
    (cond (eqb c.args.segment.now.srcaddr o && (eqb c.args.segment.now.dstaddr f && eqb c.args.segment.now.number n)) (Some p) None))
    c.self.view_is c.in_ok-piece.ensures
