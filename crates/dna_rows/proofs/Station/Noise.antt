-- Worked rows of noise, and pairs of captures that tell its rules from their turns, computed from the definitions.
use Rattle.dna_rows.proofs.Prelude.{List, [], ◌∷◌, ◌++◌, ℕ, Refused, A, B, NotKept, Kept, Record, Sent, Received, User, Start, NoCause, NotNoise}
use Rattle.capture_record.specs.declared.record.Record.TheVariants.{Noise}
use Rattle.dna_rows.proofs.Units.{computing, STRT, STACK, ACK, NAK, DATA}
use Rattle.dna_rows.proofs.Captures.{started, answered}
use Rattle.dna_rows.proofs.Courses.{runs, ends}
use Rattle.dna_rows.proofs.Station.Units.{maintenance, Runs, EndsAt, refused}

-- the header of a data message with COUNT 1, and no data: bad data
abbrev header_alone : List ℕ
header_alone = 0x81 ∷ 1 ∷ 0 ∷ 0 ∷ 1 ∷ 1 ∷ 0xe3 ∷ 0x81 ∷ []

-- malformed, since the check of zeros is zero
abbrev zeros : List ℕ
zeros = 0 ∷ 0 ∷ 0 ∷ 0 ∷ 0 ∷ 0 ∷ 0 ∷ 0 ∷ []

abbrev lost_a : List Record
lost_a = User Start ∷ Sent STRT ∷ Sent STRT ∷ Received 0 NotKept STACK ∷ Sent (ACK 0) ∷ []

abbrev lost_b : List Record
lost_b = User Start ∷ Received 1 NotKept STRT ∷ Sent STACK ∷ Received 2 NotKept (ACK 0) ∷ []

record Rows : Type 0 where
  -- ---- b is in RUNNING: a's first STRT was lost
  -- no bytes come, and are answered as a bad header; the next unit is taken, for noise leaves the front
  noise_answered_as_header : Runs (lost_a ++ Received 1 NotKept (NAK 1 0) ∷ Sent (DATA 1 0) ∷ [])
      (lost_b ++ Noise [] ∷ Sent (NAK 1 0) ∷ Received 3 Kept (DATA 1 0) ∷ [])
  noise_answered_as_data : Runs lost_a (lost_b ++ Noise header_alone ∷ Sent (NAK 2 0) ∷ [])
  noise_without_its_cause : EndsAt B lost_a (lost_b ++ Noise header_alone ∷ []) (Sent (NAK 1 0)) (refused NoCause)
  sound_noise : EndsAt B lost_a lost_b (Noise STRT) (Refused NotNoise)
  noise_of_zeros : EndsAt B lost_a lost_b (Noise zeros) (Refused NotNoise)
  -- ---- the line
  noise_leaves_the_front : Runs (User Start ∷ Sent STRT ∷ []) (Noise [] ∷ Received 0 NotKept STRT ∷ [])
  noise_that_reads_as_sound : EndsAt A [] [] (Noise STRT) (Refused NotNoise)
  noise_that_reads_as_malformed : EndsAt A [] [] (Noise maintenance) (Refused NotNoise)
  -- ---- what it opens, by the state
  noise_in_halted : Runs (Noise [] ∷ []) []
  noise_in_a_start : EndsAt A (User Start ∷ Noise [] ∷ Sent STRT ∷ Received 0 NotKept STACK ∷ []) answered (Sent (NAK 1 0)) (refused NoCause)
  noise_with_a_bad_header : Runs (started ++ Noise [] ∷ Sent (NAK 1 0) ∷ []) answered
  noise_with_bad_data : EndsAt A (started ++ Noise header_alone ∷ []) answered (Sent (NAK 1 0)) (refused NoCause)

computed : Rows
unfolding computing
computed = search (runs, ends)
