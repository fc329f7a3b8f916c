-- In RUNNING a RESP of a right end is among A to N, whatever labels stand beside the packets.
use Rattle.std.proofs.Common.{◌≡◌, ℕ, ◌-◌, None, List, length, drop, refl, ap, ◌∙◌, subst, arith, le-leb}
use Rattle.ddcmp_msg.specs.Message.{MessageValue, Data, Ack, Nak}
use Rattle.dna_station.specs.declared.state.State.{State}
use Rattle.dna_station.specs.declared.state.State.TheVariants.{Running}
use Rattle.dna_station.specs.Table.{row}
use Rattle.dna_station.specs.Station.{Station, wire}
use Rattle.dna_station.specs.Truth.{Truth}
use Rattle.dna_station.specs.Book.{resp_of}
use Rattle.dna_station.specs.WireStation.{HeldPacket}
use Rattle.dna_station.specs.WireBook.{acknowledges}
use Rattle.dna_station.specs.Bounds.{IsOrdered, ResponseIsNear, AreNear, IsWithin}
use Rattle.dna_station.specs.Cut.{AreLabelled, cut}
use Rattle.dna_node.specs.Accusing.{wrong_response_in, wrong_response_of}
use Rattle.dna_station.proofs.Bounds.Modulo.{distance_near}
use Rattle.dna_station.proofs.Cut.Sending.{outstanding}
use Rattle.dna_node.proofs.Alone.Forgotten.{wrong_if}

module _ {L : Type 0} (all : List (HeldPacket L)) (s : Station) (fits : AreLabelled all s) (ordered : IsOrdered s) where
  among : (resp response : ℕ) → ResponseIsNear s response → resp ≡ wire response → wrong_response_in Running (cut all s).variables resp ≡ None
  among resp response near spelled =
      let o = outstanding all s fits ordered in let few = ordered.few in let least = near.least in let most = near.most in
      let d = distance_near s.acknowledged response least (omega arith) in
      let far : acknowledges (cut all s).variables resp ≡ response - s.acknowledged = ap (acknowledges (cut all s).variables) spelled ∙ d in
      ap wrong_if (le-leb (acknowledges (cut all s).variables resp) (length (drop s.acknowledged all)) (omega arith))

  -- asked in RUNNING, where the message has it
  response_right : (m : MessageValue) (u : Truth) → IsWithin s m u → (AreNear s u (row Running m).effects → ResponseIsNear s u.response) →
      (state : State) → s.state ≡ state → wrong_response_in state (cut all s).variables (resp_of m) ≡ None
  response_right m u within near Running e =
      among (resp_of m) u.response (near (subst (λ (state : State). AreNear s u (row state m).effects) e within.near)) within.wire_numbers.response
  response_right m u within near other e = refl

  pub message_right : (m : MessageValue) (u : Truth) → IsWithin s m u → wrong_response_of (cut all s).variables m ≡ None
  message_right (Data flags resp num body) u within = response_right (Data flags resp num body) u within (λ near. near.0) s.state refl
  message_right (Ack flags resp) u within = response_right (Ack flags resp) u within (λ near. near.0) s.state refl
  message_right (Nak flags reason resp) u within = response_right (Nak flags reason resp) u within (λ near. near.0) s.state refl
  message_right other u within = refl
