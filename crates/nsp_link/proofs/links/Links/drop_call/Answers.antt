use Rattle.dna_links.specs.Queues.{drops}
use Rattle.dna_links.specs.WireSegments.{wire_segments}
use Rattle.nsp_link.specs.Kinds.{queues_of}
use Rattle.nsp_link.proofs.Permitted.{made_at}
use Rattle.nsp_link.proofs.links.Links.drop_call.Goals as goal

pub returns : goal.returns
returns g c =
    made_at c.args.self.now c.args.number c.requires.within (drops wire_segments (queues_of g.row.QUEUES)) c.drop_at.new.self c.tag_at-tag.result
    c.drop_at.ensures c.tag_at-tag.ensures.tag
