use Rattle.accusing_links.proofs.Prelude.{ap, ◌∙◌, nsp_at, content, message_in, content_found}
use Rattle.accusing_links.proofs.Telling.{packet_told}
use Rattle.accusing_links.proofs.ack_accuser.AckAccuser.sends_packet.Goals as goal

pub returns-in-Message-clause-alone : goal.returns-in-Message-clause-alone
returns-in-Message-clause-alone c = λ u o n.
    packet_told c.sends_message.result c.args.num u o n (content c.args.packet.now)
    (message_in c.in-Message.dst c.in-Message.src (nsp_at c.in-Message.nsp.now)) c.args.self.now.alone c.sends_message.new.self.alone
    (c.find.ensures ∙ ap content_found c.in-Message.is) (c.sends_message.ensures.alone u o n)
