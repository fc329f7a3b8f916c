-- What holds of a station that lets its node send a message, by the kind of the message.
use Rattle.std.proofs.Common.{◌≡◌, ℕ, ◌<◌, Bool, true, false, cond, None, List, length, ltb, refl}
use borrow.Author.Tests.{ltb-true}
use Rattle.ddcmp_msg.specs.declared.flags.Flags.{Flags}
use Rattle.ddcmp_msg.specs.declared.nak_reason.NakReason.{NakReason}
use Rattle.ddcmp_msg.specs.Message.{Data, Nak}
use Rattle.dna_station.specs.NakCauses.{has_cause}
use Rattle.dna_station.specs.Table.{WINDOW}
use Rattle.dna_station.specs.WireStation.{WireStation}
use Rattle.dna_station.specs.WireBook.{wire_is_new, wire_passes, wire_sending_refusal}
use Rattle.dna_station.proofs.Steps.Checks.{checks_passed}

if_new : (new room : Bool) → cond new room true ≡ true → new ≡ true → room ≡ true
if_new true room e new = e
if_new false room e new = absurd (cc)

module _ {L : Type 0} (w : WireStation L) where
  -- a NAK has an open cause, where it needs one
  pub nak_has_cause : (flags : Flags) (reason : NakReason) (resp : ℕ) → wire_sending_refusal w (Nak flags reason resp) ≡ None →
      has_cause reason w.causes ≡ true
  nak_has_cause flags reason resp e = (checks_passed (wire_passes w (Nak flags reason resp)) w.variables.state (Nak flags reason resp) refl e).1.0

  -- a new packet has room
  pub data_has_room : (flags : Flags) (resp num : ℕ) (body : List ℕ) → wire_sending_refusal w (Data flags resp num body) ≡ None →
      wire_is_new w.variables ≡ true → length w.variables.held < WINDOW
  data_has_room flags resp num body e new =
      let p = checks_passed (wire_passes w (Data flags resp num body)) w.variables.state (Data flags resp num body) refl e in
      ltb-true (length w.variables.held) WINDOW (if_new (wire_is_new w.variables) (ltb (length w.variables.held) WINDOW) p.1.1.0 new)

-- what a message that may be sent tells of the station
pub ruleset sendable = (nak_has_cause, data_has_room)
