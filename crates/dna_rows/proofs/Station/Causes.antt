-- The causes of NAKs: they are counted, each for its own reason, and nothing but a NAK of that reason uses one up.
use Rattle.dna_rows.proofs.Prelude.{ℕ, List, [], ◌∷◌, ◌++◌, B, NotKept, Kept, Sent, Received, NoCause, Accepted}
use Rattle.capture_record.specs.declared.record.Record.TheVariants.{Noise}
use Rattle.dna_station.specs.declared.refusal.StepRefusal.TheVariants.{Station as OfStation}
use Rattle.dna_rows.proofs.Verdicts.{Verdict, verdict}
use Rattle.dna_rows.proofs.Units.{computing, DATA, ACK, NAK, REP, data_of}
use Rattle.dna_rows.proofs.Captures.{started, answered, acked_a, acked_b, refused}

-- data message 2, with a bit of its header's check turned, and with a bit of the check of its data
abbrev bad_header : List ℕ
bad_header = 0x81 ∷ 1 ∷ 0 ∷ 0 ∷ 2 ∷ 1 ∷ 0xe3 ∷ 0xf1 ∷ 7 ∷ 0x41 ∷ 0xc2 ∷ []

abbrev bad_data : List ℕ
bad_data = 0x81 ∷ 1 ∷ 0 ∷ 0 ∷ 2 ∷ 1 ∷ 0xe3 ∷ 0x71 ∷ 7 ∷ 0x41 ∷ 0x42 ∷ []

-- data message 1 without its last byte: noise that shows bad data
abbrev cut_data : List ℕ
cut_data = 0x81 ∷ 1 ∷ 0 ∷ 0 ∷ 1 ∷ 1 ∷ 0xe3 ∷ 0x81 ∷ 5 ∷ 0xc0 ∷ []

record Rows : Type 0 where
  -- Two bad headers, of a unit and of noise, allow two NAKs of reason 1
  causes_of_one_reason_are_counted : Verdict (started ++ Sent (DATA 1 0) ∷ Sent (data_of 2 0 (7 ∷ [])) ∷ [])
      (answered ++ Received 1 Kept (DATA 1 0) ∷ Received 2 NotKept bad_header ∷ Noise [] ∷ Sent (NAK 1 1) ∷ Sent (NAK 1 1) ∷ []) Accepted
  -- and no third
  two_causes_1_three_naks : Verdict (started ++ Sent (DATA 1 0) ∷ Sent (data_of 2 0 (7 ∷ [])) ∷ Sent (ACK 0) ∷ [])
      (answered ++ Received 1 Kept (DATA 1 0) ∷ Received 2 NotKept bad_header ∷ Noise [] ∷ Sent (NAK 1 1) ∷ Sent (NAK 1 1) ∷ Sent (NAK 1 1) ∷ [])
      (refused B 8 (OfStation NoCause))
  -- two that showed bad data, a unit and noise, allow two NAKs of reason 2, also with an ACK between them
  two_causes_2 : Verdict (started ++ Sent (DATA 1 0) ∷ Sent (data_of 2 0 (7 ∷ [])) ∷ Sent (ACK 0) ∷ [])
      (answered ++ Received 1 Kept (DATA 1 0) ∷ Received 2 NotKept bad_data ∷ Noise cut_data ∷ Sent (NAK 2 1) ∷ Sent (ACK 1) ∷ Sent (NAK 2 1) ∷ [])
      Accepted
  -- two REPs of what did not come allow two NAKs of reason 3, also with an ACK between them
  two_causes_3 : Verdict (acked_a ++ Sent (DATA 1 0) ∷ Sent (REP 1) ∷ Sent (REP 1) ∷ [])
      (acked_b ++ Received 3 NotKept (REP 1) ∷ Received 4 NotKept (REP 1) ∷ Sent (NAK 3 0) ∷ Sent (ACK 0) ∷ Sent (NAK 3 0) ∷ []) Accepted
  -- Two packets without a buffer allow two NAKs of reason 8, also with a NAK between them that needs no cause
  one_nak_answers_one_cause : Verdict (started ++ Sent (DATA 1 0) ∷ Received 1 NotKept (NAK 9 0) ∷ Sent (DATA 1 0) ∷ [])
      (answered ++ Received 1 NotKept (DATA 1 0) ∷ Sent (NAK 9 0) ∷ Received 2 NotKept (DATA 1 0) ∷ Sent (NAK 8 0) ∷ Sent (NAK 8 0) ∷ []) Accepted
  -- an ACK uses no cause up, though it says what the NAK would
  an_ack_answers_no_cause : Verdict (started ++ Sent (DATA 1 0) ∷ Sent (data_of 2 0 (7 ∷ [])) ∷ [])
      (answered ++ Received 1 Kept (DATA 1 0) ∷ Received 2 NotKept bad_header ∷ Sent (ACK 1) ∷ Sent (NAK 1 1) ∷ []) Accepted
  -- each reason has its own causes: a NAK of reason 2 leaves that of reason 8 open
  two_kinds_of_causes : Verdict (started ++ Sent (DATA 1 0) ∷ Sent (data_of 2 0 (7 ∷ [])) ∷ [])
      (answered ++ Received 1 NotKept (DATA 1 0) ∷ Received 2 NotKept bad_data ∷ Sent (NAK 2 0) ∷ Sent (NAK 8 0) ∷ []) Accepted
  -- NAKs of reasons 16, 17 and 9 need no cause
  naks_without_a_cause : Verdict (started ++ Sent (NAK 16 0) ∷ Sent (NAK 17 0) ∷ Sent (NAK 9 0) ∷ []) answered Accepted

computed : Rows
unfolding computing
computed = search (verdict)
