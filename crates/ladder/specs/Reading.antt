-- What the words of a row are read from: the message of a unit, and of a data message its packet and the message in that.
use Rattle.std.specs.Prelude.{ℕ, ◌/◌, ◌%◌, ◌==◌, if◌then◌else◌, List, [], ◌∷◌, Result, Ok, Err}
use Rattle.ddcmp_msg.specs.Message.{MessageValue}
use Rattle.ddcmp_msg.specs.Message as message
use Rattle.ddcmp_msg.specs.Reading.{ReadingValue}
use Rattle.ddcmp_msg.specs.Reading as reading
use Rattle.dna_packet.specs.declared.ack_word.AckWord.{AckWord}
use Rattle.dna_packet.specs.declared.fault.NspFault.{NspFault}
use Rattle.dna_packet.specs.declared.fault.PacketFault.{PacketFault}
use Rattle.dna_packet.specs.Packet.{PacketValue}
use Rattle.dna_packet.specs.Packet as packet
use Rattle.dna_packet.specs.ReadingPacket.{packet_at}
use Rattle.dna_packet.specs.Nsp.{NspValue}
use Rattle.dna_packet.specs.Nsp as nsp
use Rattle.dna_packet.specs.ReadingNsp.{nsp_at}
use Rattle.ladder.specs.declared.said.Link.{Link}
use Rattle.ladder.specs.declared.said.Content.{Content}
use Rattle.ladder.specs.declared.said.Content.TheVariants as content
use Rattle.ladder.specs.declared.said.Said.{Said}
use Rattle.ladder.specs.declared.said.Said.TheVariants as said

abbrev pub link : ℕ → ℕ → Link
link source destination = record { source = source; destination = destination }

-- a data acknowledgement is told by its first word
abbrev pub ack_content : List AckWord → Link → Content
ack_content [] link = content.Untold
ack_content (ack ∷ acks) link = content.DataAck ack.number link

abbrev pub message_content : NspValue → Content
message_content (nsp.DataSegment s) = content.Segment s.number (link s.srcaddr s.dstaddr)
message_content (nsp.LinkService interrupt dst src rest) = content.LinkService (link src dst)
message_content (nsp.DataAck dst src acks) = ack_content acks (link src dst)
message_content (nsp.OtherDataAck dst src rest) = content.OtherDataAck (link src dst)
message_content (nsp.ConnectAck dst) = content.ConnectAck dst
message_content (nsp.NoOperation rest) = content.NoOperation
message_content (nsp.ConnectInitiate retransmitted src services info segsize user_data) = content.ConnectInitiate src
message_content (nsp.ConnectConfirm dst src services info segsize user_data) = content.ConnectConfirm (link src dst)
message_content (nsp.DisconnectInitiate dst src reason user_data) = content.DisconnectInitiate (link src dst)
message_content (nsp.DisconnectConfirm dst src reason) = content.DisconnectConfirm (link src dst)

-- of bytes that are no message of NSP nothing is told
abbrev pub nsp_content : Result NspValue NspFault → Content
nsp_content (Ok message) = message_content message
nsp_content (Err fault) = content.Untold

-- nor of a packet on its way back (bit 4 of RTFLG), of a control packet, or of bytes that are no packet
abbrev pub packet_content : Result PacketValue PacketFault → Content
packet_content (Ok (packet.Data rtflg dst src forward bytes)) = if (rtflg / 16 % 2) == 1 then content.Untold else nsp_content (nsp_at bytes)
packet_content (Ok (packet.Control bytes)) = content.Untold
packet_content (Err fault) = content.Untold

abbrev pub said_message : MessageValue → Said
said_message (message.Data flags resp num body) = said.Data num resp (packet_content (packet_at body))
said_message (message.Ack flags resp) = said.Ack resp
said_message (message.Nak flags reason resp) = said.Nak reason resp
said_message (message.Rep flags num) = said.Rep num
said_message (message.Strt flags) = said.Strt
said_message (message.Stack flags) = said.Stack

abbrev pub said_of : ReadingValue → Said
said_of (reading.Sound message) = said_message message
said_of reading.HeaderBad = said.HeaderBad
said_of reading.DataBad = said.DataBad
said_of (reading.Malformed departure) = said.NoMessage
