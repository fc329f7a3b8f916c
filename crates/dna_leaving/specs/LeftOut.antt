-- Which own addresses of both ends are left out, and which records of one end are: those about such an address.
use Rattle.std.specs.Prelude.{ℕ, Bool, false, ◌==◌, ◌&&◌, not, if◌then◌else◌}
use Rattle.dna_packet.specs.Nsp.{NspValue, DataSegment, LinkService, DataAck, OtherDataAck, ConnectAck, NoOperation, ConnectInitiate, ConnectConfirm}
use Rattle.dna_packet.specs.Nsp.{DisconnectInitiate, DisconnectConfirm}
use Rattle.dna_links.specs.User.{LinkEventValue, Open, Accept, Reject, In, Up, Close, Abort, Boot}
use Rattle.dna_leaving.specs.Records.{LinkRecord, OfUser, Sends, Keeps, OfNoLink}

-- of this end, and of the other one
pub record LeftOut : Type 0 where
  pub own : ℕ → Bool
  pub far : ℕ → Bool

abbrev pub nothing_out : LeftOut
nothing_out = record { own = λ n. false; far = λ n. false }

-- SRCADDR, 0 where a message has none
abbrev pub source_of : NspValue → ℕ
source_of (DataSegment s) = s.srcaddr
source_of (LinkService interrupt dst src rest) = src
source_of (DataAck dst src acks) = src
source_of (OtherDataAck dst src rest) = src
source_of (ConnectAck dst) = 0
source_of (NoOperation rest) = 0
source_of (ConnectInitiate retransmitted src services info segsize user_data) = src
source_of (ConnectConfirm dst src services info segsize user_data) = src
source_of (DisconnectInitiate dst src reason user_data) = src
source_of (DisconnectConfirm dst src reason) = src

-- DSTADDR, likewise
abbrev pub destination_of : NspValue → ℕ
destination_of (DataSegment s) = s.dstaddr
destination_of (LinkService interrupt dst src rest) = dst
destination_of (DataAck dst src acks) = dst
destination_of (OtherDataAck dst src rest) = dst
destination_of (ConnectAck dst) = dst
destination_of (NoOperation rest) = 0
destination_of (ConnectInitiate retransmitted src services info segsize user_data) = 0
destination_of (ConnectConfirm dst src services info segsize user_data) = dst
destination_of (DisconnectInitiate dst src reason user_data) = dst
destination_of (DisconnectConfirm dst src reason) = dst

-- an event is about its own address; a boot is about no link
abbrev pub event_out : LeftOut → LinkEventValue → Bool
event_out out (Open own) = out.own own
event_out out (Accept far own) = out.own own
event_out out (Reject far own) = out.own own
event_out out (In own message) = out.own own
event_out out (Up own message) = out.own own
event_out out (Close own) = out.own own
event_out out (Abort own) = out.own own
event_out out Boot = false

-- A message that this end sends is about its SRCADDR, or where that is 0 about its DSTADDR, at the other end; where both are 0 about address 0 of
-- its sender, which stands for none
abbrev pub sent_out : LeftOut → (src dst : ℕ) → Bool
sent_out out src dst = if src == 0 then (if dst == 0 then out.own 0 else out.far dst) else out.own src

-- and one that it keeps about its DSTADDR, or where that is 0 about its SRCADDR, at the other end
abbrev pub kept_out : LeftOut → (src dst : ℕ) → Bool
kept_out out src dst = if dst == 0 then out.far src else out.own dst

-- A DC that names both links, and that the other end judges, ends a call there, whatever link it is of: it stays, of no link
abbrev pub is_judged_there : LeftOut → NspValue → Bool
is_judged_there out (DisconnectConfirm dst src reason) = not (src == 0) && (not (dst == 0) && not (out.far dst))
is_judged_there out m = false

abbrev pub message_out : LeftOut → NspValue → Bool
message_out out m = sent_out out (source_of m) (destination_of m) && not (is_judged_there out m)

abbrev pub is_out : {K : Type 0} → LeftOut → LinkRecord K → Bool
is_out out (OfUser event) = event_out out event
is_out out (Sends packet) = message_out out packet.message
is_out out (Keeps packet truth) = kept_out out (source_of packet.message) (destination_of packet.message)
is_out out OfNoLink = false
