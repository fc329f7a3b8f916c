-- A record adds at most one to the counts of a wire station: the effects of an arrival add one cause at most.
use Rattle.std.proofs.Common.{ℕ, ◌+◌, ◌≤◌, Bool, true, false, ◌&&◌, not, eqb, cond, List, [], ◌∷◌, fold, arith}
use Rattle.ddcmp_msg.specs.Message.{MessageValue, Data, Ack, Nak, Strt}
use Rattle.ddcmp_msg.specs.declared.nak_reason.NakReason.{NakReason}
use Rattle.ddcmp_msg.specs.declared.nak_reason.NakReason.TheVariants.{HeaderCheck, DataCheck, RepResponse, NoBuffer}
use Rattle.dna_station.specs.declared.state.State.{State}
use Rattle.dna_station.specs.declared.state.State.TheVariants.{Halted, Istrt, Astrt, Running}
use Rattle.dna_station.specs.declared.state.StationEvent.{StationEvent}
use Rattle.dna_station.specs.declared.state.StationEvent.TheVariants.{Start, Halt}
use Rattle.dna_station.specs.declared.tag.Tag.{Tag}
use Rattle.dna_station.specs.NakCauses.{Causes, with_cause, without_cause}
use Rattle.dna_station.specs.Table.{Row, ignored, Effect, TakePacket, AnswerRep, row, counts_damage}
use Rattle.dna_station.specs.Book.{ArrivalValue, Sound, HeaderBad, DataBad, num_of}
use Rattle.dna_station.specs.WireStation.{WireStation, wire_after_event, load}
use Rattle.dna_station.specs.WireBook.{wire_is_next, wire_does, wire_book, wire_after_sending, wire_after_arrival}

-- how many causes an effect may add
abbrev adds : Effect → ℕ
adds TakePacket = 1
adds AnswerRep = 1
adds effect = 0

abbrev all_add : List Effect → ℕ
all_add [] = 0
all_add (effect ∷ next) = adds effect + all_add next

-- no row adds more than one
either_add : (b : Bool) (r : Row) → all_add r.effects ≤ 1 → all_add (cond b r ignored).effects ≤ 1
either_add true r adds_one = adds_one
either_add false r adds_one = omega arith

rows_add : (state : State) (m : MessageValue) → all_add (row state m).effects ≤ 1
rows_add Halted m = omega arith
rows_add Istrt (Strt flags) = omega arith
rows_add Istrt m = omega arith
rows_add Astrt (Data flags resp num body) = either_add (eqb resp 0) _ (omega arith)
rows_add Astrt (Ack flags resp) = either_add (eqb resp 0) _ (omega arith)
rows_add Astrt m = omega arith
rows_add Running (Strt flags) = omega arith
rows_add Running m = omega arith

module _ {L : Type 0} where
  with_cause_load : (w : WireStation L) (reason : NakReason) → load (record w { causes = with_cause reason w.causes }) ≤ load w + 1
  with_cause_load w HeaderCheck = omega arith
  with_cause_load w reason = omega arith

  without_cause_load : (w : WireStation L) (reason : NakReason) → load (record w { causes = without_cause reason w.causes }) ≤ load w
  without_cause_load w HeaderCheck = omega arith
  without_cause_load w reason = omega arith

  pub event_load : (w : WireStation L) (event : StationEvent) → load (wire_after_event w event) ≤ load w + 1
  event_load w Start = omega arith
  event_load w Halt = omega arith

  pub sending_load : (w : WireStation L) (m : MessageValue) → load (wire_after_sending w m) ≤ load w
  sending_load w (Nak flags reason resp) = without_cause_load w reason
  sending_load w m = omega arith

  either_load : (w : WireStation L) (b : Bool) (one other : Causes) → load (record w { causes = one }) ≤ load w + 1 →
      load (record w { causes = other }) ≤ load w + 1 → load (record w { causes = cond b one other }) ≤ load w + 1
  either_load w true one other p q = p
  either_load w false one other p q = q

  module _ (m : MessageValue) (tag : Tag) (kept : Bool) where
    does_load : (w : WireStation L) (effect : Effect) → load (wire_does m tag kept w effect) ≤ load w + adds effect
    does_load w TakePacket =
        either_load w (wire_is_next w.variables (num_of m) && not kept) (with_cause NoBuffer w.causes) w.causes (omega arith) (omega arith)
    does_load w AnswerRep = either_load w (eqb (num_of m) w.variables.received) w.causes (with_cause RepResponse w.causes) (omega arith) (omega arith)
    does_load w effect = omega arith

    effects_load : (effects : List Effect) (w : WireStation L) → load (fold (wire_does m tag kept) w effects) ≤ load w + all_add effects
    effects_load [] w = omega arith
    effects_load (effect ∷ next) w = let p = does_load w effect in let q = effects_load next (wire_does m tag kept w effect) in omega arith

  damaged_load : (w : WireStation L) (b : Bool) (reason : NakReason) → load (cond b (wire_book.counts reason w) w) ≤ load w + 1
  damaged_load w true reason = with_cause_load w reason
  damaged_load w false reason = omega arith

  pub arrival_load : (w : WireStation L) (arrival : ArrivalValue Tag) (kept : Bool) → load (wire_after_arrival w arrival kept) ≤ load w + 1
  arrival_load w (Sound m tag) kept = let p = effects_load m tag kept (row w.variables.state m).effects w in let q = rows_add w.variables.state m in
      omega arith
  arrival_load w HeaderBad kept = damaged_load w (counts_damage w.variables.state) HeaderCheck
  arrival_load w DataBad kept = damaged_load w (counts_damage w.variables.state) DataCheck
