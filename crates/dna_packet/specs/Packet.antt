-- The packets of a DDCMP circuit (Routing Layer 2.0), and the bytes of each.
use Rattle.std.specs.Prelude.{◌≡◌, ℕ, ◌%◌, ◌^◌, ◌<◌, List, [], ◌∷◌, ◌++◌, IsBitSet}
use Rattle.std.specs.Borrow.{Bor}
use Rattle.dna_packet.specs.declared.packet.Packet.{Packet}
use Rattle.dna_packet.specs.declared.packet.Packet.TheVariants as rust
use Rattle.dna_packet.specs.Fields.{word, IsEndOf}

-- a packet without where it lies in memory
pub data PacketValue : Type 0 where
  Data : (rtflg dst src forward : ℕ) (nsp : List ℕ) → PacketValue
  Control : (bytes : List ℕ) → PacketValue

abbrev pub view : Packet → PacketValue
view (rust.Data rtflg dst src forward nsp) = Data rtflg dst src forward nsp.now
view (rust.Control bytes) = Control bytes.now

-- the bytes of a packet, field by field
abbrev pub packet_bytes : PacketValue → List ℕ
packet_bytes (Data rtflg dst src forward nsp) = rtflg ∷ (word dst ++ word src ++ forward ∷ nsp)
packet_bytes (Control bytes) = bytes

-- a control packet has a first byte with bit 7 clear and bit 0 set; the rest is not looked at
abbrev pub IsControl : List ℕ → Type 0
IsControl [] = ⊥
IsControl (first ∷ rest) = (first < 128) × (first % 2 ≡ 1)

-- The limits beyond those of the fields' types: of RTFLG, bit 7 is clear and the low three bits are 010. Bits 3, 5 and 6 and FORWARD are carried
-- and not judged: this project's own.
abbrev pub IsInRange : PacketValue → Type 0
IsInRange (Data rtflg dst src forward nsp) = (rtflg < 128) × (rtflg % 8 ≡ 2)
IsInRange (Control bytes) = IsControl bytes

-- the limits of the fields' types, which every `Packet` of the code is within
abbrev pub FieldsFit : PacketValue → Type 0
FieldsFit (Data rtflg dst src forward nsp) = (dst < 2 ^ 16) × (src < 2 ^ 16) × (forward < 2 ^ 8)
FieldsFit (Control bytes) = Unit {0}

-- what has bytes
abbrev pub IsPacket : PacketValue → Type 0
IsPacket p = IsInRange p × FieldsFit p

-- bit 4 of RTFLG: the packet is on its way back to its source
abbrev pub IsReturned : PacketValue → Type 0
IsReturned (Data rtflg dst src forward nsp) = IsBitSet rtflg 4
IsReturned (Control bytes) = ⊥

-- the packet's one part lies in the memory of the whole, and ends where the whole ends
abbrev pub PartsLieIn : Bor (List ℕ) → Packet → Type 0
PartsLieIn whole (rust.Data rtflg dst src forward nsp) = IsEndOf whole nsp
PartsLieIn whole (rust.Control bytes) = IsEndOf whole bytes
