-- The check that a message does not pass: it is the one for which the table refuses, and with what is allowed it is passed.
use Rattle.std.proofs.Common.{◌≡◌, ℕ, ◌+◌, ◌<◌, ◌≤◌, Bool, true, false, cond, not, eqb, eq-eqb, ne_eqb, ltb, Option, Some, None, List, []}
use Rattle.std.proofs.Common.{◌∷◌, length}
use Rattle.std.proofs.Common.{refl, ap, ◌∙◌, arith, option_map}
use Rattle.std.specs.Prelude.{slice_get}
use Rattle.std.specs.Str.{bytes_eq}
use Rattle.std.proofs.lemmas.Bool.{lt-ltb}
use Rattle.std.proofs.lemmas.Slice.Eq.{bytes_eq-Decides}
use Rattle.ddcmp_msg.specs.Message.{MessageValue, Data, Ack, Nak, Rep, Strt, Stack}
use Rattle.ddcmp_msg.specs.declared.nak_reason.NakReason.{NakReason}
use Rattle.dna_station.specs.declared.refusal.StationRefusal.{StationRefusal}
use Rattle.dna_station.specs.NakCauses.{has_cause}
use Rattle.dna_station.specs.Table.{WINDOW, Check, checks, refusal_of}
use Rattle.dna_station.specs.Table as table
use Rattle.dna_station.specs.Book.{first_failed, failed}
use Rattle.dna_station.specs.Station.{wire}
use Rattle.dna_station.specs.WireStation.{HeldPacket, WireStation}
use Rattle.dna_station.specs.WireBook.{is_held_packet, wire_is_new, wire_passes, wire_sending_refusal}
use Rattle.ddcmp_station.specs.Failed.{failing, failed_of, failed_sending, first_failing, has_num, has_resp, is_data, refusal_of_failed}
use Rattle.ddcmp_station.specs.Failed.{with_body, with_num, with_reason, with_resp}
use Rattle.ddcmp_station.specs.Told.{refusal_of_sending, told}
use Rattle.ddcmp_station.specs.declared.check.SendingCheck.{SendingCheck}
use Rattle.ddcmp_station.specs.declared.check.SendingCheck.TheVariants as checked
use Rattle.ddcmp_station.specs.declared.failed.FailedSending.{FailedSending}

module _ {L : Type 0} (w : WireStation L) (m : MessageValue) where
  refusal_same : (check : Check) → refusal_of_failed (failing w m check) ≡ refusal_of check
  refusal_same table.RespIsLast = refl
  refusal_same table.CauseIsOpen = refl
  refusal_same table.SomeOutstanding = refl
  refusal_same table.NumIsHighest = refl
  refusal_same table.NumIsNext = refl
  refusal_same table.RoomIfNew = refl
  refusal_same table.AsFirstGiven = refl

  pub told_same : (check : SendingCheck) → refusal_of_failed (told w m check) ≡ refusal_of_sending check
  told_same checked.State = refl
  told_same checked.RespIsLast = refl
  told_same checked.NumIsNext = refl
  told_same checked.NumIsHighest = refl
  told_same checked.SomeOutstanding = refl
  told_same checked.RoomIfNew = refl
  told_same checked.AsFirstGiven = refl
  told_same checked.CauseIsOpen = refl

  first_same : (b : Bool) (check : Check) (o : Option FailedSending) (p : Option StationRefusal) → option_map refusal_of_failed o ≡ p →
      option_map refusal_of_failed (cond b o (Some (failing w m check))) ≡ cond b p (Some (refusal_of check))
  first_same true check o p same = same
  first_same false check o p same = ap Some (refusal_same check)

  list_same : (list : List Check) →
      option_map refusal_of_failed (first_failing (wire_passes w m) (failing w m) list) ≡ first_failed (wire_passes w m) list
  list_same [] = refl
  list_same (check ∷ next) = first_same (wire_passes w m check) check _ _ (list_same next)

  pub by_list : (list : Option (List Check)) → option_map refusal_of_failed (failed_of w m list) ≡ failed (wire_passes w m) list
  by_list None = refl
  by_list (Some list) = list_same list

  pub refuses_same : option_map refusal_of_failed (failed_sending w m) ≡ wire_sending_refusal w m
  refuses_same = by_list (checks w.variables.state m)

-- ---- with what is allowed

same_number : (n : ℕ) → eqb n n ≡ true
same_number n = eq-eqb n n refl

same_bytes : (bytes : List ℕ) → bytes_eq bytes bytes ≡ true
same_bytes bytes = (bytes_eq-Decides bytes bytes).1 refl

module _ {L : Type 0} (w : WireStation L) where
  pub response_passes : (m : MessageValue) → has_resp m ≡ true → wire_passes w (with_resp m w.variables.received) table.RespIsLast ≡ true
  response_passes (Data flags resp num body) has = same_number w.variables.received
  response_passes (Ack flags resp) has = same_number w.variables.received
  response_passes (Nak flags reason resp) has = same_number w.variables.received
  response_passes (Rep flags num) has = absurd (cc)
  response_passes (Strt flags) has = absurd (cc)
  response_passes (Stack flags) has = absurd (cc)

  pub next_passes : (m : MessageValue) → has_num m ≡ true →
      wire_passes w (with_num m (wire (w.variables.acknowledged + 1 + w.variables.ahead))) table.NumIsNext ≡ true
  next_passes (Data flags resp num body) has = same_number (wire (w.variables.acknowledged + 1 + w.variables.ahead))
  next_passes (Rep flags num) has = same_number (wire (w.variables.acknowledged + 1 + w.variables.ahead))
  next_passes (Ack flags resp) has = absurd (cc)
  next_passes (Nak flags reason resp) has = absurd (cc)
  next_passes (Strt flags) has = absurd (cc)
  next_passes (Stack flags) has = absurd (cc)

  pub highest_passes : (m : MessageValue) → has_num m ≡ true →
      wire_passes w (with_num m (wire (w.variables.acknowledged + length w.variables.held))) table.NumIsHighest ≡ true
  highest_passes (Data flags resp num body) has = same_number (wire (w.variables.acknowledged + length w.variables.held))
  highest_passes (Rep flags num) has = same_number (wire (w.variables.acknowledged + length w.variables.held))
  highest_passes (Ack flags resp) has = absurd (cc)
  highest_passes (Nak flags reason resp) has = absurd (cc)
  highest_passes (Strt flags) has = absurd (cc)
  highest_passes (Stack flags) has = absurd (cc)

  pub cause_passes : (m : MessageValue) (reason : NakReason) → has_cause reason w.causes ≡ true →
      wire_passes w (with_reason m reason) table.CauseIsOpen ≡ true
  cause_passes (Nak flags of resp) reason has = has
  cause_passes (Data flags resp num body) reason has = refl
  cause_passes (Ack flags resp) reason has = refl
  cause_passes (Rep flags num) reason has = refl
  cause_passes (Strt flags) reason has = refl
  cause_passes (Stack flags) reason has = refl

  new_or : (new : Bool) (o : Option (HeldPacket L)) (packet : HeldPacket L) → o ≡ Some packet →
      cond new true (is_held_packet o packet.body) ≡ true
  new_or true o packet is = refl
  new_or false o packet is = ap (λ (x : Option (HeldPacket L)). is_held_packet x packet.body) is ∙ same_bytes packet.body

  pub first_given_passes : (m : MessageValue) (packet : HeldPacket L) → is_data m ≡ true →
      slice_get w.variables.held w.variables.ahead ≡ Some packet → wire_passes w (with_body m packet.body) table.AsFirstGiven ≡ true
  first_given_passes (Data flags resp num body) packet has is =
      new_or (wire_is_new w.variables) (slice_get w.variables.held w.variables.ahead) packet is
  first_given_passes (Ack flags resp) packet has is = absurd (cc)
  first_given_passes (Nak flags reason resp) packet has is = absurd (cc)
  first_given_passes (Rep flags num) packet has is = absurd (cc)
  first_given_passes (Strt flags) packet has is = absurd (cc)
  first_given_passes (Stack flags) packet has is = absurd (cc)

  pub outstanding_passes : (m : MessageValue) → 0 < length w.variables.held → wire_passes w m table.SomeOutstanding ≡ true
  outstanding_passes m some = ap not (ne_eqb (length w.variables.held) 0 (λ none. absurd (omega (arith, some, none))))

  room_or : (new room : Bool) → room ≡ true → cond new room true ≡ true
  room_or true room has = has
  room_or false room has = refl

  pub room_passes : (m : MessageValue) → length w.variables.held ≤ 254 → wire_passes w m table.RoomIfNew ≡ true
  room_passes m few =
      room_or (wire_is_new w.variables) (ltb (length w.variables.held) WINDOW) (lt-ltb (length w.variables.held) WINDOW (omega (arith, few)))
