use Rattle.accusing_links.proofs.Prelude.{ap, sym, ◌∙◌, view, Message, reading, reading_view, Sound}
use Rattle.accusing_links.proofs.Telling.{unit_told}
use Rattle.accusing_links.proofs.ack_accuser.AckAccuser.sends.Goals as goal

pub returns-in-Data-clause-alone : goal.returns-in-Data-clause-alone
returns-in-Data-clause-alone c = λ u o n.
    unit_told c.sends_packet.result c.in-Data.flags c.in-Data.resp c.in-Data.num c.from.result u o n c.in-Data.body.now (reading c.args.unit.now)
    c.args.self.now.alone c.sends_packet.new.self.alone
    (sym c.read_unit.ensures.value ∙ (ap reading_view c.in-Sound.is ∙ ap (λ (m : Message). Sound (view m)) c.in-Data.is)) c.from.ensures
    (c.sends_packet.ensures.alone u o n)
