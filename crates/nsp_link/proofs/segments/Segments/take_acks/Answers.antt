use Rattle.nsp_link.proofs.Acknowledged.{taken}
use Rattle.nsp_link.proofs.segments.Segments.take_acks.Goals as goal

pub returns : goal.returns
returns g c = let f = c.self.inside in
    rw (← c.self.view_is)
    (taken f.unsent f.outstanding c.acknowledge_all.new.self f.received f.pieces f.gave_many f.last c.args.words.now c.acknowledge_all.ensures)
