-- The units of the worked rows over both layers, and how such a row is stated, on true numbers and as nodes keep them.
use Rattle.dna_rows.proofs.Prelude.{ℕ, List, [], ◌∷◌, Refused, Side, Record, StepRefusal, layers_pair, layers_start, wire_layers_pair}
use Rattle.dna_rows.proofs.Prelude.{wire_layers_start}
use Rattle.dna_rows.proofs.Courses.{head_1, head_2, Runs, EndsAt}

-- All records of a and of b are made
abbrev pub IsRunOfBoth : (of_a of_b : List Record) → Type 0
IsRunOfBoth of_a of_b =
    Runs layers_pair (layers_start head_1 head_2) of_a of_b × Runs wire_layers_pair (wire_layers_start head_1 head_2) of_a of_b

-- they are made, and one more record of this side is refused
abbrev pub RefusedByBoth : Side → (of_a of_b : List Record) → (next : Record) → StepRefusal → Type 0
RefusedByBoth side of_a of_b next refusal =
    EndsAt layers_pair (layers_start head_1 head_2) side of_a of_b next (Refused refusal)
    × EndsAt wire_layers_pair (wire_layers_start head_1 head_2) side of_a of_b next (Refused refusal)

-- CI of link 1 from a: NUM 1, RESP 0
abbrev pub CI_1 : List ℕ
CI_1 = 0x81 ∷ 0x0f ∷ 0 ∷ 0 ∷ 1 ∷ 1 ∷ 0x8a ∷ 0x40 ∷ 2 ∷ 2 ∷ 4 ∷ 1 ∷ 4 ∷ 0 ∷ 0x18 ∷ 0 ∷ 0 ∷ 1 ∷ 0 ∷ 1 ∷ 2 ∷ 0 ∷ 2 ∷ 0xed ∷ 0x98 ∷ []

-- b's connect ack: NUM 1, RESP 1
abbrev pub CONNECT_ACK_1 : List ℕ
CONNECT_ACK_1 = 0x81 ∷ 9 ∷ 0 ∷ 1 ∷ 1 ∷ 1 ∷ 0x53 ∷ 0x80 ∷ 2 ∷ 1 ∷ 4 ∷ 2 ∷ 4 ∷ 0 ∷ 0x24 ∷ 1 ∷ 0 ∷ 0x2c ∷ 0xd5 ∷ []

-- CC of b's link 2 with SEGSIZE 2: NUM 1, RESP 1
abbrev pub CC_1_2 : List ℕ
CC_1_2 = 0x81 ∷ 0x10 ∷ 0 ∷ 1 ∷ 1 ∷ 1 ∷ 0x4e ∷ 0x42 ∷ 2 ∷ 1 ∷ 4 ∷ 2 ∷ 4 ∷ 0 ∷ 0x28 ∷ 1 ∷ 0 ∷ 2 ∷ 0 ∷ 1 ∷ 2 ∷ 2 ∷ 0 ∷ 0 ∷ 0x80 ∷ 0x40 ∷ []

-- b's DC of no link to link 1, and then the CC: NUM 1 and 2, RESP 1
abbrev pub DC_1_7 : List ℕ
DC_1_7 = 0x81 ∷ 0x0d ∷ 0 ∷ 1 ∷ 1 ∷ 1 ∷ 0xa2 ∷ 0x40 ∷ 2 ∷ 1 ∷ 4 ∷ 2 ∷ 4 ∷ 0 ∷ 0x48 ∷ 1 ∷ 0 ∷ 7 ∷ 0 ∷ 0x2a ∷ 0 ∷ 0xab ∷ 0x7a ∷ []

abbrev pub CC_1_2_BEHIND : List ℕ
CC_1_2_BEHIND = 0x81 ∷ 0x10 ∷ 0 ∷ 1 ∷ 2 ∷ 1 ∷ 0x4e ∷ 0xb2 ∷ 2 ∷ 1 ∷ 4 ∷ 2 ∷ 4 ∷ 0 ∷ 0x28 ∷ 1 ∷ 0 ∷ 2 ∷ 0 ∷ 1 ∷ 2 ∷ 2 ∷ 0 ∷ 0 ∷ 0x80 ∷ 0x40 ∷ []

-- the same DC with RESP 0, and CI_1 sent again with RESP 1
abbrev pub DC_1_7_OF_0 : List ℕ
DC_1_7_OF_0 = 0x81 ∷ 0x0d ∷ 0 ∷ 0 ∷ 1 ∷ 1 ∷ 0xf3 ∷ 0x80 ∷ 2 ∷ 1 ∷ 4 ∷ 2 ∷ 4 ∷ 0 ∷ 0x48 ∷ 1 ∷ 0 ∷ 7 ∷ 0 ∷ 0x2a ∷ 0 ∷ 0xab ∷ 0x7a ∷ []

abbrev pub CI_1_OF_1 : List ℕ
CI_1_OF_1 = 0x81 ∷ 0x0f ∷ 0 ∷ 1 ∷ 1 ∷ 1 ∷ 0xdb ∷ 0x80 ∷ 2 ∷ 2 ∷ 4 ∷ 1 ∷ 4 ∷ 0 ∷ 0x18 ∷ 0 ∷ 0 ∷ 1 ∷ 0 ∷ 1 ∷ 2 ∷ 0 ∷ 2 ∷ 0xed ∷ 0x98 ∷ []

-- a no operation, and CI of link 1 behind it: NUM 1 and 2, RESP 0
abbrev pub NO_OPERATION_1 : List ℕ
NO_OPERATION_1 = 0x81 ∷ 7 ∷ 0 ∷ 0 ∷ 1 ∷ 1 ∷ 0x6b ∷ 0x81 ∷ 2 ∷ 2 ∷ 4 ∷ 1 ∷ 4 ∷ 0 ∷ 8 ∷ 0x92 ∷ 0x19 ∷ []

abbrev pub CI_1_BEHIND : List ℕ
CI_1_BEHIND = 0x81 ∷ 0x0f ∷ 0 ∷ 0 ∷ 2 ∷ 1 ∷ 0x8a ∷ 0xb0 ∷ 2 ∷ 2 ∷ 4 ∷ 1 ∷ 4 ∷ 0 ∷ 0x18 ∷ 0 ∷ 0 ∷ 1 ∷ 0 ∷ 1 ∷ 2 ∷ 0 ∷ 2 ∷ 0xed ∷ 0x98 ∷ []

-- a's data ack of nothing: NUM 2, RESP 1
abbrev pub ACK_2_1 : List ℕ
ACK_2_1 = 0x81 ∷ 0x0d ∷ 0 ∷ 1 ∷ 2 ∷ 1 ∷ 0xa2 ∷ 0xb0 ∷ 2 ∷ 2 ∷ 4 ∷ 1 ∷ 4 ∷ 0 ∷ 4 ∷ 2 ∷ 0 ∷ 1 ∷ 0 ∷ 0 ∷ 0x80 ∷ 0xcc ∷ 0xce ∷ []

-- the first segment, "ab": NUM 3, RESP 1
abbrev pub SEGMENT_1 : List ℕ
SEGMENT_1 = 0x81 ∷ 0x0f ∷ 0 ∷ 1 ∷ 3 ∷ 1 ∷ 0xda ∷ 0xe0 ∷ 2 ∷ 2 ∷ 4 ∷ 1 ∷ 4 ∷ 0 ∷ 0x20 ∷ 2 ∷ 0 ∷ 1 ∷ 0 ∷ 1 ∷ 0 ∷ 0x61 ∷ 0x62 ∷ 0xd7 ∷ 0xf8 ∷ []

-- in the next period "cd", "e" and the empty message: NUM 1 to 3, RESP 0
abbrev pub SEGMENT_2 : List ℕ
SEGMENT_2 = 0x81 ∷ 0x0f ∷ 0 ∷ 0 ∷ 1 ∷ 1 ∷ 0x8a ∷ 0x40 ∷ 2 ∷ 2 ∷ 4 ∷ 1 ∷ 4 ∷ 0 ∷ 0 ∷ 2 ∷ 0 ∷ 1 ∷ 0 ∷ 2 ∷ 0 ∷ 0x63 ∷ 0x64 ∷ 0xcf ∷ 0x1f ∷ []

abbrev pub SEGMENT_3 : List ℕ
SEGMENT_3 = 0x81 ∷ 0x0e ∷ 0 ∷ 0 ∷ 2 ∷ 1 ∷ 0xb7 ∷ 0x70 ∷ 2 ∷ 2 ∷ 4 ∷ 1 ∷ 4 ∷ 0 ∷ 0x40 ∷ 2 ∷ 0 ∷ 1 ∷ 0 ∷ 3 ∷ 0 ∷ 0x65 ∷ 0x9a ∷ 0x7d ∷ []

abbrev pub SEGMENT_4 : List ℕ
SEGMENT_4 = 0x81 ∷ 0x0d ∷ 0 ∷ 0 ∷ 3 ∷ 1 ∷ 0xf2 ∷ 0xe0 ∷ 2 ∷ 2 ∷ 4 ∷ 1 ∷ 4 ∷ 0 ∷ 0x60 ∷ 2 ∷ 0 ∷ 1 ∷ 0 ∷ 4 ∷ 0 ∷ 0xea ∷ 0x68 ∷ []

-- the first segment once more: NUM 4, RESP 0
abbrev pub SEGMENT_1_AGAIN : List ℕ
SEGMENT_1_AGAIN = 0x81 ∷ 0x0f ∷ 0 ∷ 0 ∷ 4 ∷ 1 ∷ 0x89 ∷ 0x10 ∷ 2 ∷ 2 ∷ 4 ∷ 1 ∷ 4 ∷ 0 ∷ 0x20 ∷ 2 ∷ 0 ∷ 1 ∷ 0 ∷ 1 ∷ 0 ∷ 0x61 ∷ 0x62 ∷ 0xd7 ∷ 0xf8 ∷ []

-- b's data acks of nothing, of segment 1: NUM 1, RESP 3
abbrev pub ACK_1_2 : List ℕ
ACK_1_2 = 0x81 ∷ 0x0d ∷ 0 ∷ 3 ∷ 1 ∷ 1 ∷ 3 ∷ 0x80 ∷ 2 ∷ 1 ∷ 4 ∷ 2 ∷ 4 ∷ 0 ∷ 4 ∷ 1 ∷ 0 ∷ 2 ∷ 0 ∷ 0 ∷ 0x80 ∷ 0x38 ∷ 0xb2 ∷ []

abbrev pub ACK_1_2_OF_1 : List ℕ
ACK_1_2_OF_1 = 0x81 ∷ 0x0d ∷ 0 ∷ 3 ∷ 1 ∷ 1 ∷ 3 ∷ 0x80 ∷ 2 ∷ 1 ∷ 4 ∷ 2 ∷ 4 ∷ 0 ∷ 4 ∷ 1 ∷ 0 ∷ 2 ∷ 0 ∷ 1 ∷ 0x80 ∷ 0x39 ∷ 0x22 ∷ []

-- and of segment 4: NUM 2, RESP 4
abbrev pub ACK_1_2_OF_4 : List ℕ
ACK_1_2_OF_4 = 0x81 ∷ 0x0d ∷ 0 ∷ 4 ∷ 2 ∷ 1 ∷ 0xb2 ∷ 0xb1 ∷ 2 ∷ 1 ∷ 4 ∷ 2 ∷ 4 ∷ 0 ∷ 4 ∷ 1 ∷ 0 ∷ 2 ∷ 0 ∷ 4 ∷ 0x80 ∷ 0x3a ∷ 0x72 ∷ []

-- a packet that can't be read: NUM 1 and NUM 2, RESP 0
abbrev pub PADDED : List ℕ
PADDED = 0x81 ∷ 1 ∷ 0 ∷ 0 ∷ 1 ∷ 1 ∷ 0xe3 ∷ 0x81 ∷ 0x80 ∷ 1 ∷ 0xa0 ∷ []

abbrev pub PADDED_2 : List ℕ
PADDED_2 = 0x81 ∷ 1 ∷ 0 ∷ 0 ∷ 2 ∷ 1 ∷ 0xe3 ∷ 0x71 ∷ 0x80 ∷ 1 ∷ 0xa0 ∷ []

-- a packet with a message that can't be read: NUM 1, RESP 0
abbrev pub NO_NSP : List ℕ
NO_NSP = 0x81 ∷ 7 ∷ 0 ∷ 0 ∷ 1 ∷ 1 ∷ 0x6b ∷ 0x81 ∷ 2 ∷ 2 ∷ 4 ∷ 1 ∷ 4 ∷ 0 ∷ 0xff ∷ 0xd3 ∷ 0x9f ∷ []

-- the same for node 1.3
abbrev pub NO_NSP_OF_OTHER_NODE : List ℕ
NO_NSP_OF_OTHER_NODE = 0x81 ∷ 7 ∷ 0 ∷ 0 ∷ 1 ∷ 1 ∷ 0x6b ∷ 0x81 ∷ 2 ∷ 3 ∷ 4 ∷ 1 ∷ 4 ∷ 0 ∷ 0xff ∷ 0xd2 ∷ 0x4e ∷ []

-- NO_NSP, marked returned
abbrev pub RETURNED : List ℕ
RETURNED = 0x81 ∷ 7 ∷ 0 ∷ 0 ∷ 1 ∷ 1 ∷ 0x6b ∷ 0x81 ∷ 0x12 ∷ 2 ∷ 4 ∷ 1 ∷ 4 ∷ 0 ∷ 0xff ∷ 0xc2 ∷ 0x5e ∷ []

-- a message for node 1.3: NUM 1, RESP 0
abbrev pub OF_OTHER_NODE : List ℕ
OF_OTHER_NODE = 0x81 ∷ 7 ∷ 0 ∷ 0 ∷ 1 ∷ 1 ∷ 0x6b ∷ 0x81 ∷ 2 ∷ 3 ∷ 4 ∷ 1 ∷ 4 ∷ 0 ∷ 8 ∷ 0x93 ∷ 0xc8 ∷ []

-- CI_1 with its first byte damaged: a bad header
abbrev pub damaged_CI_1 : List ℕ
damaged_CI_1 = 5 ∷ 0x0f ∷ 0 ∷ 0 ∷ 1 ∷ 1 ∷ 0x8a ∷ 0x40 ∷ 2 ∷ 2 ∷ 4 ∷ 1 ∷ 4 ∷ 0 ∷ 0x18 ∷ 0 ∷ 0 ∷ 1 ∷ 0 ∷ 1 ∷ 2 ∷ 0 ∷ 2 ∷ 0xed ∷ 0x98 ∷ []
