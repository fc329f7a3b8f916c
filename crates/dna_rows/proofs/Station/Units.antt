-- How a row of two stations alone is stated, and the units of these rows as their bytes stand on the line.
use Rattle.dna_rows.proofs.Prelude.{◌≡◌, ℕ, false, List, [], ◌∷◌, codes, Outcome, Refused, Side, Flags, Record, StationRefusal, StepRefusal}
use Rattle.dna_rows.proofs.Prelude.{SentUnit, Node, pair, start}
use Rattle.dna_station.specs.declared.refusal.StepRefusal.TheVariants.{Station as OfStation}
use Rattle.dna_rows.proofs.Courses.{head_1, head_2}
use Rattle.dna_rows.proofs.Courses as any
use Rattle.dna_rows.proofs.Units.{computing, hex, STRT, STACK, ACK, NAK, REP, DATA, data_of}

-- All records of a and of b are made
abbrev pub Runs : (of_a of_b : List Record) → Type 0
Runs of_a of_b = any.Runs pair (start head_1 head_2) of_a of_b

-- they are made, and this becomes of one more record of this side
abbrev pub EndsAt : Side → (of_a of_b : List Record) → (next : Record) → Outcome Node SentUnit StepRefusal → Type 0
EndsAt side of_a of_b next outcome = any.EndsAt pair (start head_1 head_2) side of_a of_b next outcome

-- it is refused by the tables
abbrev pub refused : StationRefusal → Outcome Node SentUnit StepRefusal
refused reason = Refused (OfStation reason)

-- ---- units

-- no flag is set
abbrev pub plain : Flags
plain = record { quick_sync = false; select = false }

-- STRT with its last byte damaged: a bad header; and number 1 with its last byte damaged: bad data
abbrev pub damaged_STRT : List ℕ
damaged_STRT = hex (codes "0506c00000017594")

abbrev pub damaged_DATA : List ℕ
damaged_DATA = hex (codes "810100000101e38105c083")

-- a maintenance message with a right check: malformed
abbrev pub maintenance : List ℕ
maintenance = hex (codes "900000000001dc90")

-- the units without damage
record Rows : Type 0 where
  strt : STRT ≡ hex (codes "0506c00000017595")
  stack : STACK ≡ hex (codes "0507c00000014855")
  ack_of_0 : ACK 0 ≡ hex (codes "050100000001fc55")
  ack_of_1 : ACK 1 ≡ hex (codes "050100010001ad95")
  data_1 : DATA 1 0 ≡ hex (codes "810100000101e38105c003")
  data_2 : DATA 2 0 ≡ hex (codes "810100000201e37105c003")
  other_data_1 : data_of 1 0 (6 ∷ []) ≡ hex (codes "810100000101e381068002")
  nak_2 : NAK 2 0 ≡ hex (codes "050202000001b9ed")
  nak_2_of_1 : NAK 2 1 ≡ hex (codes "050202010001e82d")
  rep_of_0 : REP 0 ≡ hex (codes "0503000000018595")
  rep_of_1 : REP 1 ≡ hex (codes "0503000001018405")
  data_1_of_1 : DATA 1 1 ≡ hex (codes "810100010101b24105c003")
  other_data_1_of_1 : data_of 1 1 (6 ∷ []) ≡ hex (codes "810100010101b241068002")
  nak_3 : NAK 3 0 ≡ hex (codes "050203000001b811")
  nak_3_of_1 : NAK 3 1 ≡ hex (codes "050203010001e9d1")
  nak_8 : NAK 8 0 ≡ hex (codes "050208000001ba35")
  nak_9_of_1 : NAK 9 1 ≡ hex (codes "050209010001ea09")
  nak_1 : NAK 1 0 ≡ hex (codes "050201000001b9a9")
  nak_1_of_1 : NAK 1 1 ≡ hex (codes "050201010001e869")
  nak_9 : NAK 9 0 ≡ hex (codes "050209000001bbc9")
  nak_16 : NAK 16 0 ≡ hex (codes "050210000001bc95")
  nak_17 : NAK 17 0 ≡ hex (codes "050211000001bd69")
  data_2_of_1 : DATA 2 1 ≡ hex (codes "810100010201b2b105c003")

computed : Rows
unfolding computing
computed = search
