-- The station variables that an end keeps stay in their ranges: the number received last is a byte, and a held packet fits into a unit.
use Rattle.std.proofs.Common.{ℕ, ◌<◌, Bool, true, false, ◌&&◌, nat_lt, nat_le, List, [], ◌∷◌, arith}
use Rattle.std.specs.Prelude.{fold, length}
use Rattle.std.specs.List.{AllByRecursion}
use Rattle.ddcmp_msg.specs.Message.{MessageValue, Data}
use Rattle.ddcmp_msg.specs.Reading.{ReadingValue, Sound}
use Rattle.dna_station.specs.declared.state.StationEvent.{StationEvent}
use Rattle.dna_station.specs.declared.state.StationEvent.TheVariants.{Start, Halt}
use Rattle.dna_station.specs.Table.{change_of, Effect, Respond, TakePacket, row}
use Rattle.dna_station.specs.Book.{body_of, num_of, resp_of}
use Rattle.dna_station.specs.WireStation.{HeldPacket, StationVariables, with_new}
use Rattle.dna_station.specs.WireBook.{acknowledges, variables_after, wire_acknowledged_by, wire_is_new, wire_is_next, with_next}
use Rattle.dna_play.specs.StoredStation.{came, variables_by, variables_sent}
use Rattle.dna_play.proofs.EachElement.{left_all, more_all}
use Rattle.dna_play.proofs.Ends.UnitLines.{IsOfBytes, PacketFits}
use Rattle.dna_play.proofs.Ends.SendMakes.{IsHeld}

abbrev pub Variables : Type 0
Variables = StationVariables (Unit {0})

pub record StationFit (received : ℕ) (held : List (HeldPacket (Unit {0}))) : Type 0 where
  pub received_fits : received < 256
  pub held_fits : AllByRecursion IsHeld held

abbrev pub StationFits : Variables → Type 0
StationFits k = StationFit k.received k.held

-- ---- the user

pub after_user : (event : StationEvent) (k : Variables) → StationFits k → StationFits (variables_by event k)
after_user Start k h = record { received_fits = omega arith; held_fits = tt }
after_user Halt k h = h

-- ---- sending

with_held : (b : Bool) (held : List (HeldPacket (Unit {0}))) (body : List ℕ) → AllByRecursion IsHeld held → PacketFits body →
    AllByRecursion IsHeld (with_new b held body)
with_held true held body h fits = more_all IsHeld held (record { body = body; label = _ } ∷ []) h (fits, tt)
with_held false held body h fits = h

pub after_sent : (m : MessageValue) (k : Variables) → IsOfBytes m → StationFits k → StationFits (variables_sent (change_of m) (body_of m) k)
after_sent (Data flags resp num body) k m h = record {
  received_fits = h.received_fits;
  held_fits = with_held (wire_is_new k) k.held body h.held_fits (record { bytes = m.body; some = m.in_range.0; most = m.in_range.1 });
}
after_sent m k n h = h

-- ---- an arrival

acked : (b : Bool) (k : Variables) (resp : ℕ) → StationFits k → StationFits (wire_acknowledged_by b k resp)
acked true k resp h = record { received_fits = h.received_fits; held_fits = left_all IsHeld (acknowledges k resp) k.held h.held_fits }
acked false k resp h = h

next : (b : Bool) (k : Variables) → StationFits k → StationFits (with_next b k)
next true k h = record { received_fits = omega arith; held_fits = h.held_fits }
next false k h = h

after_effect : (m : MessageValue) (kept : Bool) (k : Variables) (effect : Effect) → StationFits k → StationFits (variables_after m kept k effect)
after_effect m kept k Respond h =
    acked (nat_lt 0 (acknowledges k (resp_of m)) && nat_le (acknowledges k (resp_of m)) (length k.held)) k (resp_of m) h
after_effect m kept k TakePacket h = next (wire_is_next k (num_of m) && kept) k h
after_effect m kept k effect h = h

after_effects : (m : MessageValue) (kept : Bool) (effects : List Effect) (k : Variables) → StationFits k →
    StationFits (fold (variables_after m kept) k effects)
after_effects m kept [] k h = h
after_effects m kept (effect ∷ effects) k h = after_effects m kept effects (variables_after m kept k effect) (after_effect m kept k effect h)

pub after_reading : (read : ReadingValue) (kept : Bool) (k : Variables) → StationFits k → StationFits (came read kept k)
after_reading (Sound m) kept k h = after_effects m kept (row k.state m).effects k h
after_reading read kept k h = h
