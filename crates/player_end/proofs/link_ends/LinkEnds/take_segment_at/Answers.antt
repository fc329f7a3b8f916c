use Rattle.dna_packet.specs.Nsp.{segment_view}
use Rattle.player_end.proofs.Change.{index_made, received_made, received_stops}
use Rattle.player_end.proofs.Keeping.{Keeps}
use Rattle.player_end.proofs.link_ends.LinkEnds.take_segment_at.Goals as goal

pub invariant_of-self : goal.invariant_of-self
invariant_of-self g c =
    let made = c.receive-made.ensures in
    let keeps : Keeps c.index_mut.result.now c.receive-made.new.self = record { live = made.lives; own = made.own; far = made.far } in
    index_made c.self.view_is c.requires.within c.index_mut.ensures.value c.requires.lives c.self.invariant c.mark.ensures keeps

pub returns-clause-ok : goal.returns-clause-ok
returns-clause-ok g c = λ link there.
    let made = c.receive-made.ensures in
    let keeps : Keeps c.index_mut.result.now c.receive-made.new.self = record { live = made.lives; own = made.own; far = made.far } in
    received_made c.self.view_is c.requires.within c.index_mut.ensures.value c.requires.lives
    (segment_view c.args.segment.now) _ c.args.text.now.items c.receive-made.result link there _ keeps made.ok made.left

pub returns-clause-stop : goal.returns-clause-stop
returns-clause-stop g c = λ link there.
    received_stops c.self.view_is c.requires.within c.index_mut.ensures.value c.requires.lives
    (segment_view c.args.segment.now) _ c.args.text.now.items c.receive-made.result link there c.receive-made.ensures.stop
