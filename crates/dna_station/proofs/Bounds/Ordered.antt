-- What holds of a station after any records: its own numbers are in order.
use Rattle.std.proofs.Common.{◌≡◌, ℕ, ◌+◌, ◌-◌, ◌≤◌, Bool, true, false, eqb, ltb, leb, cond, None, List, length, refl, ap, arith, eqb-true, ltb-true}
use Rattle.std.proofs.Common.{leb-true}
use Rattle.std.proofs.lemmas.Bool.{and_parts}
use Rattle.std.proofs.lemmas.List.{length_push}
use Rattle.ddcmp_msg.specs.Message.{MessageValue, Data, Nak}
use Rattle.dna_station.specs.declared.state.StationEvent.{StationEvent}
use Rattle.dna_station.specs.declared.state.StationEvent.TheVariants.{Start, Halt}
use Rattle.dna_station.specs.Table.{WINDOW, Effect, GoTo, TakePartner, Respond, SetBack, TakePacket, AnswerRep}
use Rattle.dna_station.specs.Book.{ArrivalValue, body_of}
use Rattle.dna_station.specs.Station.{Station, new_station, given, after_event}
use Rattle.dna_station.specs.Truth.{Truth}
use Rattle.dna_station.specs.StationBook.{is_new, has_room, with_packet, with_data, asked, does, station_book, sending_refusal, after_sending}
use Rattle.dna_station.specs.StationBook.{after_arrival}
use Rattle.dna_station.specs.Bounds.{IsOrdered}
use Rattle.dna_station.proofs.Steps.Checks.{sending_passed}
use Rattle.dna_station.proofs.Steps.Effects.{kept_by_arrival, by_response, by_packet, by_rep}

-- ---- numbers in order

pub new_ordered : IsOrdered new_station
new_ordered = record { above = omega arith; below = omega arith; few = omega arith }

pub event_ordered : (s : Station) (event : StationEvent) → IsOrdered s → IsOrdered (after_event s event)
event_ordered s Start o = record { above = omega arith; below = omega arith; few = omega arith }
event_ordered s Halt o = record { above = o.above; below = o.below; few = o.few }

module _ (s : Station) (o : IsOrdered s) where
  data_ordered : (new : Bool) (body : List ℕ) → is_new s ≡ new → cond new (has_room s) true ≡ true →
      IsOrdered (record s { packets = with_packet new s.packets body; next_to_send = s.next_to_send + 1 })
  data_ordered true body e room =
      let n = length_push s.packets body in
      let l = ltb-true (given s - s.acknowledged) WINDOW room in
      let same = eqb-true s.next_to_send (given s + 1) e in
      let a = o.above in let f = o.few in
      record { above = omega arith; below = omega arith; few = omega arith }
  data_ordered false body e room =
      let a = o.above in let b = o.below in let f = o.few in
      record { above = omega arith; below = not_new e; few = f }
    where
      not_new : eqb s.next_to_send (given s + 1) ≡ false → s.next_to_send + 1 ≤ given s + 1
      not_new e = grind (arith, o.below)

  pub same_ordered : (t : Station) → t.acknowledged ≡ s.acknowledged → t.next_to_send ≡ s.next_to_send → t.packets ≡ s.packets → IsOrdered t
  same_ordered t a n p =
      let q : length t.packets ≡ length s.packets = ap length p in
      let above = o.above in let below = o.below in let few = o.few in
      record { above = omega arith; below = omega arith; few = omega arith }

  pub sending_ordered : (m : MessageValue) → sending_refusal s m ≡ None → IsOrdered (after_sending s m)
  sending_ordered (Data flags resp num body) e = data_ordered (is_new s) body refl (sending_passed s (Data flags resp num body) refl e).1.1.0
  sending_ordered (Nak flags reason resp) e = same_ordered (after_sending s (Nak flags reason resp)) refl refl refl
  sending_ordered m e = o

module _ (m : MessageValue) (u : Truth) (kept : Bool) where
  pub does_ordered : (s : Station) (effect : Effect) → IsOrdered s → IsOrdered (does m u kept s effect)
  does_ordered s (GoTo state) o = same_ordered s o (record s { state = state }) refl refl refl
  does_ordered s TakePartner o = same_ordered s o (does m u kept s TakePartner) refl refl refl
  does_ordered s Respond o = by_response m u kept s IsOrdered o (λ e.
      let t = and_parts (ltb s.acknowledged u.response) (leb u.response (given s)) e in
      let l = ltb-true s.acknowledged u.response t.0 in
      let n = leb-true u.response (given s) t.1 in
      let above = o.above in let below = o.below in let few = o.few in
      record { above = omega arith; below = omega arith; few = omega arith })
  does_ordered s SetBack o = let a = o.above in let b = o.below in let f = o.few in record { above = omega arith; below = omega arith; few = f }
  does_ordered s TakePacket o =
      by_packet m u kept s IsOrdered o (λ e. same_ordered s o (with_data true true s (body_of m)) refl refl refl)
      (same_ordered s o (with_data true false s (body_of m)) refl refl refl)
  does_ordered s AnswerRep o = by_rep m u kept s IsOrdered o (same_ordered s o (asked false s) refl refl refl)

pub arrival_ordered : (s : Station) (arrival : ArrivalValue Truth) (kept : Bool) → IsOrdered s → IsOrdered (after_arrival s arrival kept)
arrival_ordered = kept_by_arrival IsOrdered does_ordered (λ reason s o. same_ordered s o (station_book.counts reason s) refl refl refl)
