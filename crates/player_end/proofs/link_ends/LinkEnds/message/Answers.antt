use Rattle.std.proofs.Common.{subst, ap, ◌∙◌}
use Rattle.dna_play.specs.Compose.{link_message}
use Rattle.player_end.specs.declared.choice.LinkChoice.{LinkChoice}
use Rattle.player_end.specs.inner.Owing.{link_choice_view}
use Rattle.player_end.proofs.Duties.{AllSilent, message_among}
use Rattle.player_end.proofs.link_ends.LinkEnds.message.Goals as goal

pub returns-in-OfLink-clause-message : goal.returns-in-OfLink-clause-message
returns-in-OfLink-clause-message g c =
    let s = c.args.self.now in
    rw (message_among s.confirms s.links (subst AllSilent c.self.view_is c.self.invariant.lives) (link_choice_view c.args.choice) c.requires
    ∙ ap (λ (x : LinkChoice). link_message (link_choice_view x) s.links) c.in-OfLink.is) c.message_of.ensures.message
