use Rattle.std.proofs.Common.{Some, length, ap, arith, ◌∙◌, subst}
use Rattle.dna_play.specs.StoredEnd.{StoredLinks}
use Rattle.player_end.specs.declared.choice.LinkChoice.{LinkChoice}
use Rattle.player_end.specs.inner.Index.{live_of}
use Rattle.player_end.specs.inner.Owing.{link_choice_view, duty_view}
use Rattle.player_end.proofs.Change.{sent_made, sent_within}
use Rattle.player_end.proofs.Choosing.{chosen_duty}
use Rattle.player_end.proofs.Duties.{AllSilent}
use Rattle.player_end.proofs.link_ends.LinkEnds.sent.Goals as goal

pub sent_at-requires-clause-next : goal.sent_at-requires-clause-next
sent_at-requires-clause-next g c =
    chosen_duty _ _ (c.requires ∙ ap (λ (x : LinkChoice). Some (link_choice_view x)) c.in-OfLink.is)

pub sent_at-requires-clause-lives : goal.sent_at-requires-clause-lives
sent_at-requires-clause-lives g c = λ link at.
    subst AllSilent c.self-in-OfLink.view_is c.self-in-OfLink.invariant.lives c.in-OfLink.number link (duty_view c.in-OfLink.duty) at
    (chosen_duty _ _ (c.requires ∙ ap (λ (x : LinkChoice). Some (link_choice_view x)) c.in-OfLink.is) link at)

pub returns-then-number-len : goal.returns-then-number-len
returns-then-number-len g c =
    let s = c.args.self.now in
    let within = sent_within s c.in-OfLink.number (duty_view c.in-OfLink.duty)
    (c.requires ∙ ap (λ (x : LinkChoice). Some (link_choice_view x)) c.in-OfLink.is) in
    let same = ap (λ (t : StoredLinks). length t.links) c.self-in-OfLink.view_is in
    absurd (omega (arith, within, same, c.len.ensures, c.if-number-len.true))

pub returns-else-number-len : goal.returns-else-number-len
returns-else-number-len g c = rw c.in-OfLink.is
    (sent_made c.args.self.now _ _ (c.requires ∙ ap (λ (x : LinkChoice). Some (link_choice_view x)) c.in-OfLink.is)
    (subst AllSilent c.self-in-OfLink.view_is c.self-in-OfLink.invariant.lives) c.sent_at.result (live_of c.sent_at.new.self) c.sent_at.ensures)
