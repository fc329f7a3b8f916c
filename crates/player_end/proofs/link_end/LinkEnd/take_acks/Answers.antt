use Rattle.std.proofs.Common.{ap, ◌∙◌}
use Rattle.dna_links.specs.declared.port.Phase.TheVariants.{Running}
use Rattle.dna_play.specs.StoredLinks.{in_phase}
use Rattle.player_end.proofs.Acting.{acks_run}
use Rattle.player_end.proofs.link_end.LinkEnd.take_acks.Goals as goal

pub returns : goal.returns
returns g c = c.go_to.ensures ∙ ap (in_phase Running) c.acknowledge.ensures ∙ acks_run c.args.words.now c.args.self.now
