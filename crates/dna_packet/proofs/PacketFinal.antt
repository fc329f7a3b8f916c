-- A fault other than a short packet is decided by the first byte: no bytes that follow change it.
use Rattle.std.proofs.Common.{◌≡◌, ℕ, ◌+◌, ◌*◌, ◌%◌, Bool, true, false, cond, eqb, leb, List, [], ◌∷◌, ◌++◌, Result}
use Rattle.std.specs.Prelude.{◌≢◌}
use Rattle.dna_packet.specs.declared.fault.PacketFault.{PacketFault}
use Rattle.dna_packet.specs.declared.fault.PacketFault.TheVariants.{Padded, LongFormat, Short, UnknownFlags}
use Rattle.dna_packet.specs.Packet.{PacketValue, Data, Control}
use Rattle.dna_packet.specs.ReadingPacket.{data_at, packet_at}
use Rattle.dna_packet.proofs.Final.{fails, answers, missed, answered}

abbrev Read : Type 0
Read = Result PacketValue PacketFault

module _ (more : List ℕ) (fault : PacketFault) (is_found : fault ≢ Short) where
  -- a short format data packet is short, or nothing is wrong
  data_answers : (rtflg : ℕ) (bytes : List ℕ) → data_at rtflg bytes ≡ fails fault → ⊥
  data_answers rtflg [] e = missed is_found e
  data_answers rtflg (a ∷ []) e = missed is_found e
  data_answers rtflg (a ∷ b ∷ []) e = missed is_found e
  data_answers rtflg (a ∷ b ∷ c ∷ []) e = missed is_found e
  data_answers rtflg (a ∷ b ∷ c ∷ d ∷ []) e = missed is_found e
  data_answers rtflg (a ∷ b ∷ c ∷ d ∷ forward ∷ nsp) e = answered (Data rtflg (a + 256 * b) (c + 256 * d) forward nsp) e

  abbrev tested : (padded control long short : Bool) → ℕ → List ℕ → Read
  tested padded control long short rtflg rest =
      cond padded (fails Padded) (cond control (answers (Control (rtflg ∷ rest)))
      (cond long (fails LongFormat) (cond short (data_at rtflg rest) (fails UnknownFlags))))

  tests_final : (padded control long short : Bool) (rtflg : ℕ) (rest : List ℕ) → tested padded control long short rtflg rest ≡ fails fault →
      tested padded control long short rtflg (rest ++ more) ≡ fails fault
  tests_final true control long short rtflg rest e = e
  tests_final false true long short rtflg rest e = absurd (answered (Control (rtflg ∷ rest)) e)
  tests_final false false true short rtflg rest e = e
  tests_final false false false true rtflg rest e = absurd (data_answers rtflg rest e)
  tests_final false false false false rtflg rest e = e

pub packet_final : (bytes more : List ℕ) (fault : PacketFault) → fault ≢ Short → packet_at bytes ≡ fails fault →
    packet_at (bytes ++ more) ≡ fails fault
packet_final [] more fault is_found e = absurd (missed is_found e)
packet_final (rtflg ∷ rest) more fault is_found e =
    tests_final more fault is_found (leb 128 rtflg) (eqb (rtflg % 2) 1) (eqb (rtflg % 8) 6) (eqb (rtflg % 8) 2) rtflg rest e
