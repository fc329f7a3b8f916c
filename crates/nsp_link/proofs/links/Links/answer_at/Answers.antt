use Rattle.std.proofs.Common.{Some, sym, ap, ◌∙◌, rules}
use Rattle.dna_links.specs.declared.port.LinkTest.TheVariants.{LiveAt}
use Rattle.std.specs.Prelude.{slice_get}
use Rattle.dna_links.specs.WireLinks.{WireLinks}
use Rattle.dna_links.specs.Links.{LinkOf, changed, number_of}
use Rattle.dna_links.specs.Queues.{freed}
use Rattle.dna_links.specs.WireSegments.{WireSegments, wire_segments}
use Rattle.nsp_link.specs.Kinds.{queues_of}
use Rattle.nsp_link.proofs.LookUps.{address_found, called_lives}
use Rattle.nsp_link.proofs.Found.{dead_holder}
use Rattle.nsp_link.proofs.Giving.{answered_made}
use Rattle.nsp_link.proofs.Change.{map_ok}
use Rattle.nsp_link.proofs.Settled.{moves}
use Rattle.nsp_link.proofs.Dead.{dead_answered}
use Rattle.nsp_link.proofs.links.Links.answer_at.Goals as goal

pub answered_at-requires : goal.answered_at-requires
answered_at-requires g c =
    let i = c.self.inside in
    record {
      index = c.self.invariant.indexed;
      dead = λ n l held there.
          dead_holder c.args.own i.links.items _ _ _ _ c.self.invariant.indexed.found
          (ap (number_of (LiveAt c.args.own)) c.self.view_is ∙ c.requires.free) n l held there;
      within = search rules;
      called = λ link there.
          c.requires.called link (sym (ap (λ (s : WireLinks). slice_get s.links c.args.number) c.self.view_is) ∙ there);
      live = c.requires.live;
      answers = c.requires.answers;
      known = c.requires.known;
    }

pub returns-clause-ok : goal.returns-clause-ok
returns-clause-ok g c = λ link there.
    let l = c.self.inside in
    let found = ap (λ (s : WireLinks). slice_get s.links c.args.number) c.self.view_is ∙ there in
    let lives = called_lives link.port.phase (c.requires.called link there) in
    map_ok c.answered_at.result
    (λ e. answered_made _ l.node l.peer l.links.items c.args.self.now c.self.view_is c.args.own _
    (address_found l.links.items _ _ _ _ c.self.invariant.indexed.found c.args.own) c.answered_at.new.links.items c.args.phase c.args.number link e
    ∙ ap (λ (k : LinkOf WireSegments). changed c.args.number k (freed wire_segments (queues_of g.row.QUEUES) c.args.own c.args.self.now))
    (sym (moves (queues_of g.row.QUEUES) c.args.phase (record link { port = record link.port { own = Some c.args.own } }) lives)))
    (c.answered_at.ensures.ok link found)

pub invariant_of-self : goal.invariant_of-self
invariant_of-self g c = record {
  indexed = c.answered_at.ensures.index;
  dead = dead_answered (queues_of g.row.QUEUES) _ c.args.number _ c.answered_at.result (search rules)
      (λ link there. c.requires.called link (sym (ap (λ (s : WireLinks). slice_get s.links c.args.number) c.self.view_is) ∙ there))
      c.answered_at.ensures.ok c.answered_at.ensures.err c.self.invariant.dead;
}
