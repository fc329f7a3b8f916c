-- The bytes in the rows: units, packets and messages as the standards spell them, field by field. The block checks alone are computed, by their
-- definition. Numbers and addresses are below 256.
use Rattle.dna_rows.proofs.Prelude.{ℕ, ◌+◌, ◌-◌, ◌*◌, ◌/◌, ◌%◌, List, [], ◌∷◌, ◌++◌, length, nat_lt, if◌then◌else◌, is_good, check_of, word_bytes}
use Rattle.dna_rows.proofs.Prelude.{after_byte, shift, reading}

-- what a row's computation opens: how a unit is read, and the block check
unfoldable pub computing : Unit {0}
unfolding reading is_good check_of after_byte shift
computing = tt

-- bytes in hexadecimal, as a capture has them
abbrev digit : ℕ → ℕ
digit code = if nat_lt code 0x61 then code - 0x30 else code - 0x57

abbrev pub hex : List ℕ → List ℕ
hex [] = []
hex (high ∷ []) = []
hex (high ∷ low ∷ rest) = (16 * digit high + digit low) ∷ hex rest

-- ---- units

-- bytes with their block check behind them
abbrev checked : List ℕ → List ℕ
checked bytes = bytes ++ word_bytes (check_of bytes)

-- a control message: TYPE; SUBTYPE with the flags, quick sync 0x40 and select 0x80; RESP; NUM
abbrev pub control : (type subtype resp num : ℕ) → List ℕ
control type subtype resp num = checked (5 ∷ type ∷ subtype ∷ resp ∷ num ∷ 1 ∷ [])

-- STRT and STACK with both flags, as most stations send them
abbrev pub STRT : List ℕ
STRT = control 6 0xc0 0 0

abbrev pub STACK : List ℕ
STACK = control 7 0xc0 0 0

-- the others without flags
abbrev pub ACK : (resp : ℕ) → List ℕ
ACK resp = control 1 0 resp 0

abbrev pub NAK : (reason resp : ℕ) → List ℕ
NAK reason resp = control 2 reason resp 0

abbrev pub REP : (num : ℕ) → List ℕ
REP num = control 3 0 0 num

-- a data message with these flags, and its packet
abbrev pub data_with : (flags num resp : ℕ) → List ℕ → List ℕ
data_with flags num resp packet = checked (0x81 ∷ (length packet % 256) ∷ (flags + length packet / 256) ∷ resp ∷ num ∷ 1 ∷ []) ++ checked packet

abbrev pub data_of : (num resp : ℕ) → List ℕ → List ℕ
data_of num resp packet = data_with 0 num resp packet

-- the packet is the byte 5
abbrev pub DATA : (num resp : ℕ) → List ℕ
DATA num resp = data_of num resp (5 ∷ [])

-- ---- packets: RTFLG, destination, source, FORWARD. Those of one odd byte in the rows are Routing's own, and nothing to the links

-- what stands behind RTFLG in a packet of node 1.1 for node 1.2, up to the message
abbrev pub behind_a : List ℕ → List ℕ
behind_a message = 2 ∷ 4 ∷ 1 ∷ 4 ∷ 0 ∷ message

abbrev pub from_a : List ℕ → List ℕ
from_a message = 2 ∷ behind_a message

-- of node 1.2 for node 1.1
abbrev pub from_b : List ℕ → List ℕ
from_b message = 2 ∷ 1 ∷ 4 ∷ 2 ∷ 4 ∷ 0 ∷ message

-- a data message with such a packet of a, and of b
abbrev pub data_a : (num resp : ℕ) → List ℕ → List ℕ
data_a num resp message = data_of num resp (from_a message)

abbrev pub data_b : (num resp : ℕ) → List ℕ → List ℕ
data_b num resp message = data_of num resp (from_b message)

-- ---- NSP messages

-- a word, the low byte first
abbrev word : ℕ → List ℕ
word n = (n % 256) ∷ (n / 256) ∷ []

-- a flag byte, DSTADDR and SRCADDR
abbrev pub between : (flag dst src : ℕ) → List ℕ
between flag dst src = flag ∷ dst ∷ 0 ∷ src ∷ 0 ∷ []

-- SERVICES, INFO and SEGSIZE
abbrev pub connects : (services info segsize : ℕ) → List ℕ
connects services info segsize = services ∷ info ∷ word segsize

-- CI with SEGSIZE 512, and the same sent again; CC
abbrev pub CI : (src : ℕ) → List ℕ
CI src = between 0x18 0 src ++ connects 1 2 512

abbrev pub CI_AGAIN : (src : ℕ) → List ℕ
CI_AGAIN src = between 0x68 0 src ++ connects 1 2 512

abbrev pub CC : (dst src segsize : ℕ) → List ℕ
CC dst src segsize = between 0x28 dst src ++ connects 1 2 segsize

-- with SEGSIZE 2: a CI that is sent again, and a CC with one byte of user data
abbrev pub CI_AGAIN_2 : (src : ℕ) → List ℕ
CI_AGAIN_2 src = between 0x68 0 src ++ connects 1 2 2

abbrev pub CC_2 : (dst src : ℕ) → List ℕ
CC_2 dst src = CC dst src 2 ++ 0 ∷ []

abbrev pub CONNECT_ACK : (dst : ℕ) → List ℕ
CONNECT_ACK dst = 0x24 ∷ dst ∷ 0 ∷ []

-- DI with REASON 0 and one byte of user data; DC
abbrev pub DI : (dst src : ℕ) → List ℕ
DI dst src = between 0x38 dst src ++ 0 ∷ 0 ∷ 0 ∷ []

abbrev pub DC : (dst src reason : ℕ) → List ℕ
DC dst src reason = between 0x48 dst src ++ word reason

abbrev pub DC_42 : (dst src : ℕ) → List ℕ
DC_42 dst src = DC dst src 42

abbrev pub LINK_SERVICE : (dst src : ℕ) → List ℕ
LINK_SERVICE dst src = between 0x10 dst src

abbrev pub INTERRUPT : (dst src : ℕ) → List ℕ
INTERRUPT dst src = between 0x30 dst src

abbrev pub OTHER_ACK : (dst src : ℕ) → List ℕ
OTHER_ACK dst src = between 0x14 dst src

abbrev pub NO_OPERATION : List ℕ
NO_OPERATION = 0x08 ∷ []

-- acknowledgement words: ACK, NAK, and those of the other subchannel
abbrev pub ack : (number : ℕ) → List ℕ
ack number = number ∷ 0x80 ∷ []

abbrev pub nak : (number : ℕ) → List ℕ
nak number = number ∷ 0x90 ∷ []

abbrev pub other_ack : (number : ℕ) → List ℕ
other_ack number = number ∷ 0xa0 ∷ []

abbrev pub other_nak : (number : ℕ) → List ℕ
other_nak number = number ∷ 0xb0 ∷ []

-- a data ack with these words; a segment: its flag byte (0x20 begins a message, 0x40 ends one), words, number and data
abbrev pub DATA_ACK : (dst src : ℕ) → List ℕ → List ℕ
DATA_ACK dst src words = between 0x04 dst src ++ words

abbrev pub SEGMENT : (flag dst src : ℕ) → List ℕ → List ℕ
SEGMENT flag dst src rest = between flag dst src ++ rest

abbrev pub carries : (number : ℕ) → List ℕ → List ℕ
carries number body = number ∷ 0 ∷ body
