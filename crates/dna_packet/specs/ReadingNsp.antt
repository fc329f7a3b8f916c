-- How an NSP message is read: from left to right, with the first field that is missing or wrong.
use Rattle.std.specs.Prelude.{ℕ, zero, suc, ◌%◌, Bool, true, false, List, [], ◌∷◌, Result, Ok, Err, ok_or, nat_le, nat_lt, ◌==◌, if◌then◌else◌}
use Rattle.dna_packet.specs.declared.ack_word.AckWord.{AckWord}
use Rattle.dna_packet.specs.declared.fault.NspFault.{NspFault}
use Rattle.dna_packet.specs.declared.fault.NspFault.TheVariants.{UnknownFlag, MissingField, BadAckWord, BadSegnum, TrailingBytes, NonzeroDstaddr}
use Rattle.dna_packet.specs.Fields.{◌>>=◌, byte_at, word_at}
use Rattle.dna_packet.specs.AckWord.{ack_of}
use Rattle.dna_packet.specs.Nsp.{NspValue, DataSegment, LinkService, DataAck, OtherDataAck, ConnectAck, NoOperation, ConnectInitiate, ConnectConfirm}
use Rattle.dna_packet.specs.Nsp.{DisconnectInitiate, DisconnectConfirm}

-- no byte follows the end
abbrev pub no_more_at : List ℕ → Result (Unit {0}) NspFault
no_more_at [] = Ok tt
no_more_at (byte ∷ rest) = Err TrailingBytes

-- DSTADDR and SRCADDR, and the bytes after them
abbrev pub addresses_at : List ℕ → Result (ℕ × ℕ × List ℕ) NspFault
addresses_at bytes = do
  dst ← word_at MissingField bytes
  src ← word_at MissingField dst.1
  Ok (dst.0, src.0, src.1)

-- a word that must be an acknowledgement word
abbrev pub ack_at : List ℕ → Result (AckWord × List ℕ) NspFault
ack_at bytes = do
  n ← word_at MissingField bytes
  ack ← ok_or (ack_of n.0) BadAckWord
  Ok (ack, n.1)

-- whether a whole word with bit 15 set comes next
abbrev pub is_ack_next : List ℕ → Bool
is_ack_next [] = false
is_ack_next (low ∷ []) = false
is_ack_next (low ∷ high ∷ rest) = nat_le 128 high

-- as many acknowledgement words as come next, but no more than there is room for
abbrev pub acks_at : ℕ → List ℕ → Result (List AckWord × List ℕ) NspFault
acks_at zero bytes = Ok ([], bytes)
acks_at (suc room) bytes =
    if is_ack_next bytes then (do
      first ← ack_at bytes
      others ← acks_at room first.1
      Ok (first.0 ∷ others.0, others.1))
    else Ok ([], bytes)

-- SEGNUM: its number, and whether bit 12 is set
abbrev pub segnum_at : List ℕ → Result (ℕ × Bool × List ℕ) NspFault
segnum_at bytes = do
  n ← word_at MissingField bytes
  if nat_lt n.0 0x2000 then Ok (n.0 % 0x1000, nat_le 0x1000 n.0, n.1) else Err BadSegnum

abbrev pub segment_at : Bool → Bool → List ℕ → Result NspValue NspFault
segment_at begins ends bytes = do
  links ← addresses_at bytes
  acks ← acks_at 2 links.2
  n ← segnum_at acks.1
  Ok (DataSegment (record
      { begins = begins; ends = ends; dstaddr = links.0; srcaddr = links.1; acks = acks.0; number = n.0; bit_12 = n.1; body = n.2 }))

abbrev pub link_service_at : Bool → List ℕ → Result NspValue NspFault
link_service_at interrupt bytes = do
  links ← addresses_at bytes
  Ok (LinkService interrupt links.0 links.1 links.2)

-- the words of a data acknowledgement: after the first a second one, if any byte follows
abbrev pub second_ack_at : AckWord → List ℕ → Result (List AckWord × List ℕ) NspFault
second_ack_at first [] = Ok (first ∷ [], [])
second_ack_at first (byte ∷ rest) = do
  second ← ack_at (byte ∷ rest)
  Ok (first ∷ second.0 ∷ [], second.1)

abbrev pub data_acks_at : List ℕ → Result (List AckWord × List ℕ) NspFault
data_acks_at bytes = do
  first ← ack_at bytes
  second_ack_at first.0 first.1

abbrev pub data_ack_at : List ℕ → Result NspValue NspFault
data_ack_at bytes = do
  links ← addresses_at bytes
  acks ← data_acks_at links.2
  end ← no_more_at acks.1
  Ok (DataAck links.0 links.1 acks.0)

abbrev pub other_data_ack_at : List ℕ → Result NspValue NspFault
other_data_ack_at bytes = do
  links ← addresses_at bytes
  Ok (OtherDataAck links.0 links.1 links.2)

abbrev pub connect_ack_at : List ℕ → Result NspValue NspFault
connect_ack_at bytes = do
  dst ← word_at MissingField bytes
  end ← no_more_at dst.1
  Ok (ConnectAck dst.0)

-- SERVICES, INFO and SEGSIZE, and the bytes after them
abbrev pub connect_fields_at : List ℕ → Result (ℕ × ℕ × ℕ × List ℕ) NspFault
connect_fields_at bytes = do
  services ← byte_at MissingField bytes
  info ← byte_at MissingField services.1
  segsize ← word_at MissingField info.1
  Ok (services.0, info.0, segsize.0, segsize.1)

-- DSTADDR of a CI is 0
abbrev pub zero_address_at : List ℕ → Result (List ℕ) NspFault
zero_address_at bytes = do
  dst ← word_at MissingField bytes
  if dst.0 == 0 then Ok dst.1 else Err NonzeroDstaddr

abbrev pub connect_initiate_at : Bool → List ℕ → Result NspValue NspFault
connect_initiate_at retransmitted bytes = do
  rest ← zero_address_at bytes
  src ← word_at MissingField rest
  fields ← connect_fields_at src.1
  Ok (ConnectInitiate retransmitted src.0 fields.0 fields.1 fields.2 fields.3)

abbrev pub connect_confirm_at : List ℕ → Result NspValue NspFault
connect_confirm_at bytes = do
  links ← addresses_at bytes
  fields ← connect_fields_at links.2
  Ok (ConnectConfirm links.0 links.1 fields.0 fields.1 fields.2 fields.3)

abbrev pub disconnect_initiate_at : List ℕ → Result NspValue NspFault
disconnect_initiate_at bytes = do
  links ← addresses_at bytes
  reason ← word_at MissingField links.2
  Ok (DisconnectInitiate links.0 links.1 reason.0 reason.1)

abbrev pub disconnect_confirm_at : List ℕ → Result NspValue NspFault
disconnect_confirm_at bytes = do
  links ← addresses_at bytes
  reason ← word_at MissingField links.2
  end ← no_more_at reason.1
  Ok (DisconnectConfirm links.0 links.1 reason.0)

-- the message after a flag byte
abbrev pub message_at : ℕ → List ℕ → Result NspValue NspFault
message_at flag rest =
    if flag == 0x00 then segment_at false false rest else
    if flag == 0x20 then segment_at true false rest else
    if flag == 0x40 then segment_at false true rest else
    if flag == 0x60 then segment_at true true rest else
    if flag == 0x10 then link_service_at false rest else
    if flag == 0x30 then link_service_at true rest else
    if flag == 0x04 then data_ack_at rest else
    if flag == 0x14 then other_data_ack_at rest else
    if flag == 0x24 then connect_ack_at rest else
    if flag == 0x08 then Ok (NoOperation rest) else
    if flag == 0x18 then connect_initiate_at false rest else
    if flag == 0x68 then connect_initiate_at true rest else
    if flag == 0x28 then connect_confirm_at rest else
    if flag == 0x38 then disconnect_initiate_at rest else
    if flag == 0x48 then disconnect_confirm_at rest else
    Err UnknownFlag

abbrev pub nsp_at : List ℕ → Result NspValue NspFault
nsp_at [] = Err MissingField
nsp_at (flag ∷ rest) = message_at flag rest
