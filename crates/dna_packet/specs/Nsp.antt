-- The messages of NSP 4.0, and the bytes of each.
use Rattle.std.specs.Prelude.{◌≡◌, ℕ, ◌+◌, ◌^◌, ◌<◌, ◌≤◌, Bool, List, ◌∷◌, ◌++◌, length, if◌then◌else◌}
use Rattle.std.specs.List.{AllByRecursion}
use Rattle.std.specs.Borrow.{Bor}
use Rattle.std.specs.Global.{Vec}
use Rattle.dna_packet.specs.declared.ack_word.AckWord.{AckWord}
use Rattle.dna_packet.specs.declared.nsp.Segment.{Segment}
use Rattle.dna_packet.specs.declared.nsp.Nsp.{Nsp}
use Rattle.dna_packet.specs.declared.nsp.Nsp.TheVariants as rust
use Rattle.dna_packet.specs.Fields.{word, IsEndOf}
use Rattle.dna_packet.specs.AckWord.{IsAckWord, ack_bytes}

-- a data segment without where its data lie in memory
pub record SegmentValue : Type 0 where
  pub begins : Bool
  pub ends : Bool
  pub dstaddr : ℕ
  pub srcaddr : ℕ
  pub acks : List AckWord
  pub number : ℕ
  pub bit_12 : Bool
  pub body : List ℕ

-- a message without where its parts lie in memory
pub data NspValue : Type 0 where
  DataSegment : (segment : SegmentValue) → NspValue
  LinkService : (interrupt : Bool) (dstaddr srcaddr : ℕ) (rest : List ℕ) → NspValue
  DataAck : (dstaddr srcaddr : ℕ) (acks : List AckWord) → NspValue
  OtherDataAck : (dstaddr srcaddr : ℕ) (rest : List ℕ) → NspValue
  ConnectAck : (dstaddr : ℕ) → NspValue
  NoOperation : (rest : List ℕ) → NspValue
  ConnectInitiate : (retransmitted : Bool) (srcaddr services info segsize : ℕ) (user_data : List ℕ) → NspValue
  ConnectConfirm : (dstaddr srcaddr services info segsize : ℕ) (user_data : List ℕ) → NspValue
  DisconnectInitiate : (dstaddr srcaddr reason : ℕ) (user_data : List ℕ) → NspValue
  DisconnectConfirm : (dstaddr srcaddr reason : ℕ) → NspValue

abbrev pub segment_view : Segment → SegmentValue
segment_view s = record {
  begins = s.begins;
  ends = s.ends;
  dstaddr = s.dstaddr;
  srcaddr = s.srcaddr;
  acks = s.acks.items;
  number = s.number;
  bit_12 =
      s.bit_12;
  body = s.body.now;
}

abbrev pub view : Nsp → NspValue
view (rust.DataSegment s) = DataSegment (segment_view s)
view (rust.LinkService m) = LinkService m.interrupt m.dstaddr m.srcaddr m.rest.now
view (rust.DataAck m) = DataAck m.dstaddr m.srcaddr m.acks.items
view (rust.OtherDataAck m) = OtherDataAck m.dstaddr m.srcaddr m.rest.now
view (rust.ConnectAck m) = ConnectAck m.dstaddr
view (rust.NoOperation m) = NoOperation m.rest.now
view (rust.ConnectInitiate m) = ConnectInitiate m.retransmitted m.srcaddr m.services m.info m.segsize m.user_data.now
view (rust.ConnectConfirm m) = ConnectConfirm m.dstaddr m.srcaddr m.services m.info m.segsize m.user_data.now
view (rust.DisconnectInitiate m) = DisconnectInitiate m.dstaddr m.srcaddr m.reason m.user_data.now
view (rust.DisconnectConfirm m) = DisconnectConfirm m.dstaddr m.srcaddr m.reason

-- DSTADDR and SRCADDR
abbrev pub addresses : ℕ → ℕ → List ℕ
addresses dst src = word dst ++ word src

-- SERVICES, INFO and SEGSIZE
abbrev pub connect_fields : ℕ → ℕ → ℕ → List ℕ
connect_fields services info segsize = services ∷ info ∷ word segsize

-- bit 5 of the flag byte: the segment begins a message; bit 6: it ends one
abbrev pub segment_flag : Bool → Bool → ℕ
segment_flag begins ends = (if begins then 0x20 else 0) + (if ends then 0x40 else 0)

-- SEGNUM: the number in bits 0 to 11, and bit 12, which is carried
abbrev pub segnum : ℕ → Bool → ℕ
segnum number bit_12 = number + (if bit_12 then 0x1000 else 0)

abbrev pub segment_bytes : SegmentValue → List ℕ
segment_bytes s = segment_flag s.begins s.ends ∷ (addresses s.dstaddr s.srcaddr ++ (ack_bytes s.acks ++ (word (segnum s.number s.bit_12) ++ s.body)))

-- the bytes of a message: its flag byte, then its fields
abbrev pub nsp_bytes : NspValue → List ℕ
nsp_bytes (DataSegment s) = segment_bytes s
nsp_bytes (LinkService interrupt dst src rest) = (if interrupt then 0x30 else 0x10) ∷ (addresses dst src ++ rest)
nsp_bytes (DataAck dst src acks) = 0x04 ∷ (addresses dst src ++ ack_bytes acks)
nsp_bytes (OtherDataAck dst src rest) = 0x14 ∷ (addresses dst src ++ rest)
nsp_bytes (ConnectAck dst) = 0x24 ∷ word dst
nsp_bytes (NoOperation rest) = 0x08 ∷ rest
nsp_bytes (ConnectInitiate retransmitted src services info segsize user_data) =
    (if retransmitted then 0x68 else 0x18) ∷ (addresses 0 src ++ (connect_fields services info segsize ++ user_data))
nsp_bytes (ConnectConfirm dst src services info segsize user_data) = 0x28 ∷ (addresses dst src ++ (connect_fields services info segsize ++ user_data))
nsp_bytes (DisconnectInitiate dst src reason user_data) = 0x38 ∷ (addresses dst src ++ (word reason ++ user_data))
nsp_bytes (DisconnectConfirm dst src reason) = 0x48 ∷ (addresses dst src ++ word reason)

-- two link addresses, each of which may be 0
abbrev pub AreAddresses : ℕ → ℕ → Type 0
AreAddresses dst src = (dst < 2 ^ 16) × (src < 2 ^ 16)

-- SERVICES, INFO and SEGSIZE, which may each have any value
abbrev pub AreConnectFields : ℕ → ℕ → ℕ → Type 0
AreConnectFields services info segsize = (services < 2 ^ 8) × (info < 2 ^ 8) × (segsize < 2 ^ 16)

-- The limits beyond those of the fields' types: numbers have 12 bits, and a data acknowledgement has a word.
abbrev pub IsInRange : NspValue → Type 0
IsInRange (DataSegment s) = AllByRecursion IsAckWord s.acks × (s.number < 0x1000)
IsInRange (DataAck dst src acks) = AllByRecursion IsAckWord acks × (1 ≤ length acks)
IsInRange (LinkService interrupt dst src rest) = Unit {0}
IsInRange (OtherDataAck dst src rest) = Unit {0}
IsInRange (ConnectAck dst) = Unit {0}
IsInRange (NoOperation rest) = Unit {0}
IsInRange (ConnectInitiate retransmitted src services info segsize user_data) = Unit {0}
IsInRange (ConnectConfirm dst src services info segsize user_data) = Unit {0}
IsInRange (DisconnectInitiate dst src reason user_data) = Unit {0}
IsInRange (DisconnectConfirm dst src reason) = Unit {0}

-- The limits of the fields' types, which every `Nsp` of the code is within: words, bytes, and at most two
-- acknowledgement words. Parts that are carried unread may hold any bytes.
abbrev pub FieldsFit : NspValue → Type 0
FieldsFit (DataSegment s) = AreAddresses s.dstaddr s.srcaddr × (length s.acks ≤ 2)
FieldsFit (LinkService interrupt dst src rest) = AreAddresses dst src
FieldsFit (DataAck dst src acks) = AreAddresses dst src × (length acks ≤ 2)
FieldsFit (OtherDataAck dst src rest) = AreAddresses dst src
FieldsFit (ConnectAck dst) = dst < 2 ^ 16
FieldsFit (NoOperation rest) = Unit {0}
FieldsFit (ConnectInitiate retransmitted src services info segsize user_data) = (src < 2 ^ 16) × AreConnectFields services info segsize
FieldsFit (ConnectConfirm dst src services info segsize user_data) = AreAddresses dst src × AreConnectFields services info segsize
FieldsFit (DisconnectInitiate dst src reason user_data) = AreAddresses dst src × (reason < 2 ^ 16)
FieldsFit (DisconnectConfirm dst src reason) = AreAddresses dst src × (reason < 2 ^ 16)

-- what has bytes
abbrev pub IsNsp : NspValue → Type 0
IsNsp m = IsInRange m × FieldsFit m

-- the message's one part, if it has one, lies in the memory of the whole, and ends where the whole ends
abbrev pub PartsLieIn : Bor (List ℕ) → Nsp → Type 0
PartsLieIn whole (rust.DataSegment s) = IsEndOf whole s.body
PartsLieIn whole (rust.LinkService m) = IsEndOf whole m.rest
PartsLieIn whole (rust.DataAck m) = Unit {0}
PartsLieIn whole (rust.OtherDataAck m) = IsEndOf whole m.rest
PartsLieIn whole (rust.ConnectAck m) = Unit {0}
PartsLieIn whole (rust.NoOperation m) = IsEndOf whole m.rest
PartsLieIn whole (rust.ConnectInitiate m) = IsEndOf whole m.user_data
PartsLieIn whole (rust.ConnectConfirm m) = IsEndOf whole m.user_data
PartsLieIn whole (rust.DisconnectInitiate m) = IsEndOf whole m.user_data
PartsLieIn whole (rust.DisconnectConfirm m) = Unit {0}

-- what was written of a message: its bytes; and its fields are within the limits of their types
abbrev pub Spells : NspValue → Vec ℕ → Type 0
Spells m written = (written.items ≡ nsp_bytes m) × FieldsFit m
