-- Of which messages no link can be, by what passed of the links of the other side (NSP 4.0, session control interface, port states): no link has the
-- address 0; a link gets its far address by a CI or a CC, and by nothing else; and one that a CI began is in RUN once a message of RUN came to it.
use Rattle.std.specs.Prelude.{ℕ, Bool, true, false, ◌&&◌, ◌||◌, not, ◌==◌}
use Rattle.dna_packet.specs.Nsp.{NspValue, DataSegment, LinkService, DataAck, OtherDataAck, ConnectAck, ConnectInitiate, ConnectConfirm}
use Rattle.dna_packet.specs.Nsp.{DisconnectInitiate}
use Rattle.accusing_links.specs.Segments.{Shown, is_this}

-- the MSGFLG of a CI, which is 0x68 where it is sent again, and of a CC
abbrev pub CI : ℕ
CI = 0x18

abbrev pub CC : ℕ
CC = 0x28

-- any message of RUN: a data segment, a link service message, or an acknowledgement of either subchannel
abbrev pub RUN : ℕ
RUN = 0x04

-- a CI, a CC or a message of RUN: its MSGFLG, DSTADDR, of a CI 0, and SRCADDR
abbrev pub connect_of : NspValue → Shown
connect_of (ConnectInitiate retransmitted src services info segsize user_data) msgflg own far = is_this (CI, 0, src) msgflg own far
connect_of (ConnectConfirm dst src services info segsize user_data) msgflg own far = is_this (CC, dst, src) msgflg own far
connect_of (DataSegment s) msgflg own far = is_this (RUN, s.dstaddr, s.srcaddr) msgflg own far
connect_of (DataAck dst src acks) msgflg own far = is_this (RUN, dst, src) msgflg own far
connect_of (LinkService interrupt dst src rest) msgflg own far = is_this (RUN, dst, src) msgflg own far
connect_of (OtherDataAck dst src rest) msgflg own far = is_this (RUN, dst, src) msgflg own far
connect_of other msgflg own far = false

-- a link can have this address of its own
abbrev pub is_address : (own : ℕ) → Bool
is_address own = not (own == 0)

-- a CI passed from this link; that, or a CC from it to that one
abbrev pub was_called : Shown → (far : ℕ) → Bool
was_called connects far = connects CI 0 far

abbrev pub was_joined : Shown → (own far : ℕ) → Bool
was_joined connects own far = was_called connects far || connects CC own far

-- a link can be in RUN: a CI passed from that one and a message of RUN from it to this one, or a CC
abbrev pub can_run : Shown → (own far : ℕ) → Bool
can_run connects own far = (was_called connects far && connects RUN own far) || connects CC own far

-- A link can be of which this message may be sent, whose address is not 0: any for a CI, one that a CI began for a CC or a connect acknowledgement,
-- one with both addresses for a DI, and one in RUN for the others. A connect acknowledgement shows no address, and a DC may have 0
abbrev pub has_link : Shown → NspValue → Bool
has_link connects (ConnectAck dst) = was_called connects dst
has_link connects (ConnectInitiate retransmitted src services info segsize user_data) = is_address src
has_link connects (ConnectConfirm dst src services info segsize user_data) = is_address src && was_called connects dst
has_link connects (DisconnectInitiate dst src reason user_data) = is_address src && was_joined connects src dst
has_link connects (DataSegment s) = is_address s.srcaddr && can_run connects s.srcaddr s.dstaddr
has_link connects (DataAck dst src acks) = is_address src && can_run connects src dst
has_link connects (LinkService interrupt dst src rest) = is_address src && can_run connects src dst
has_link connects (OtherDataAck dst src rest) = is_address src && can_run connects src dst
has_link connects m = true
