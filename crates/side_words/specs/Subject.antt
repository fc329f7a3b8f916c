-- The link that a record is about, at either end.
use Rattle.std.specs.Prelude.{ℕ, Bool, true, false, not, ◌==◌, if◌then◌else◌, Option, Some, None, Result, Ok, Err, List}
use Rattle.std.specs.List.{filter, list_any}
use Rattle.capture_record.specs.declared.entry.Entry.{Entry}
use Rattle.capture_record.specs.declared.entry.Entry.TheVariants.{Sent, Received, Noise, Start, Halt, Open, Accept, Reject, In, Up, Close, Boot}
use Rattle.capture_record.specs.declared.entry.Entry.TheVariants.{Composed, Abort, Interrupt, Interrupted}
use Rattle.dna_packet.specs.declared.fault.NspFault.{NspFault}
use Rattle.dna_packet.specs.Nsp.{NspValue}
use Rattle.dna_packet.specs.Nsp as nsp
use Rattle.dna_packet.specs.ReadingNsp.{nsp_at}
use Rattle.dna_packet.specs.ReadingPacket.{packet_at}
use Rattle.nsp_link.specs.declared.view.LinkView.{LinkView}
use Rattle.record_words.specs.Layers.{message_in_unit, message_of}
use Rattle.side_words.specs.declared.subject.Addresses.{Addresses}

-- ---- the addresses that a record names, as its own end has them

abbrev pub no_address : Addresses
no_address = record { own = None; far = None }

abbrev pub both : (own far : ℕ) → Addresses
both own far = record { own = Some own; far = Some far }

abbrev pub own_address : ℕ → Addresses
own_address own = record { own = Some own; far = None }

abbrev pub far_address : ℕ → Addresses
far_address far = record { own = None; far = Some far }

-- those of the same link at the other end
abbrev pub turned : Addresses → Addresses
turned a = record { own = a.far; far = a.own }

-- of a message, as its sender has them
abbrev pub named_by : NspValue → Addresses
named_by (nsp.DataSegment s) = both s.srcaddr s.dstaddr
named_by (nsp.LinkService interrupt dst src rest) = both src dst
named_by (nsp.DataAck dst src acks) = both src dst
named_by (nsp.OtherDataAck dst src rest) = both src dst
named_by (nsp.ConnectAck dst) = far_address dst
named_by (nsp.NoOperation rest) = no_address
named_by (nsp.ConnectInitiate retransmitted src services info segsize user_data) = own_address src
named_by (nsp.ConnectConfirm dst src services info segsize user_data) = both src dst
named_by (nsp.DisconnectInitiate dst src reason user_data) = both src dst
named_by (nsp.DisconnectConfirm dst src reason) = both src dst

abbrev pub addresses_by : Result NspValue NspFault → Addresses
addresses_by (Ok message) = named_by message
addresses_by (Err fault) = no_address

abbrev pub addresses_with : Option (List ℕ) → Addresses
addresses_with None = no_address
addresses_with (Some message) = addresses_by (nsp_at message)

abbrev pub addresses_in : (unit : List ℕ) → Addresses
addresses_in unit = addresses_with (message_in_unit unit)

abbrev pub addresses_in_packet : (packet : List ℕ) → Addresses
addresses_in_packet packet = addresses_with (message_of (packet_at packet))

-- what came names them as the other end has them
abbrev pub addresses_of : Entry → (bytes : List ℕ) → Addresses
addresses_of Sent bytes = addresses_in bytes
addresses_of (Received fate hint) bytes = turned (addresses_in bytes)
addresses_of Composed bytes = addresses_in_packet bytes
addresses_of (Open link) bytes = own_address link
addresses_of (Accept partner link) bytes = both link partner
addresses_of (Reject partner link) bytes = both link partner
addresses_of (In link) bytes = own_address link
addresses_of (Up link) bytes = own_address link
addresses_of (Close link) bytes = own_address link
addresses_of (Abort link) bytes = own_address link
addresses_of (Interrupt link) bytes = own_address link
addresses_of (Interrupted link) bytes = own_address link
addresses_of Start bytes = no_address
addresses_of Halt bytes = no_address
addresses_of Boot bytes = no_address
addresses_of Noise bytes = no_address

-- ---- its link

abbrev pub is_at : (named known : Option ℕ) → Bool
is_at (Some named) (Some known) = named == known
is_at (Some named) None = false
is_at None known = false

abbrev pub is_own : Addresses → LinkView → Bool
is_own named v = is_at named.own v.port.own

abbrev pub has_own : Addresses → (live : List LinkView) → Bool
has_own named live = list_any (is_own named) live

-- by its own address, where a link has that, or else by its far one
abbrev pub is_subject : Addresses → (by_own : Bool) → LinkView → Bool
is_subject named by_own v = if by_own then is_own named v else is_at named.far v.port.far

abbrev pub is_other : Addresses → (by_own : Bool) → LinkView → Bool
is_other named by_own v = not (is_subject named by_own v)

abbrev pub subjects : Addresses → (live : List LinkView) → List LinkView
subjects named live = filter (is_subject named (has_own named live)) live

abbrev pub others : Addresses → (live : List LinkView) → List LinkView
others named live = filter (is_other named (has_own named live)) live
