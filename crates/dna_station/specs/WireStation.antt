-- One station as a node keeps it: numbers modulo 256, and the packets that are not acknowledged. What the words of the tables mean on that
-- is in `WireBook`; `Cut` says how it goes together with the station on true numbers.
use Rattle.std.specs.Prelude.{ℕ, ◌+◌, ◌-◌, Bool, true, false, Option, Some, None, List, [], ◌∷◌, ◌++◌, length, slice_get, slice_set}
use Rattle.dna_station.specs.declared.state.State.{State}
use Rattle.dna_station.specs.declared.state.State.TheVariants.{Halted}
use Rattle.dna_station.specs.declared.state.StationEvent.{StationEvent}
use Rattle.dna_station.specs.declared.state.StationEvent.TheVariants.{Start, Halt}
use Rattle.dna_station.specs.NakCauses.{Causes, no_causes}
use Rattle.dna_station.specs.Table.{state_after}

-- a packet that is not acknowledged, and the label that the node put beside it, if it did
pub record HeldPacket (L : Type 0) : Type 0 where
  pub body : List ℕ
  pub label : Option L

-- the station variables (DDCMP 4.1), which any node keeps
pub record StationVariables (L : Type 0) : Type 0 where
  pub state : State
  -- R, the last number received in order, modulo 256
  pub received : ℕ
  -- A, the highest number acknowledged, modulo 256
  pub acknowledged : ℕ
  -- how many of the held packets come before the next to send: T - (A + 1)
  pub ahead : ℕ
  -- the packets given and not acknowledged, the one after the acknowledged number first
  pub held : List (HeldPacket L)

-- and what the judge keeps of it besides
pub record WireStation (L : Type 0) : Type 0 where
  pub variables : StationVariables L
  pub period : ℕ
  pub partner : Option ℕ
  pub causes : Causes

module _ {L : Type 0} where
  -- in this state, with no number received, given or acknowledged
  abbrev pub no_numbers : State → StationVariables L
  no_numbers state = record { state = state; received = 0; acknowledged = 0; ahead = 0; held = [] }

  -- before any record
  abbrev pub new_wire_station : WireStation L
  new_wire_station = record { variables = no_numbers Halted; period = 0; partner = None; causes = no_causes }

  -- ---- what the user does: refused as on true numbers

  abbrev pub wire_after_event : WireStation L → StationEvent → WireStation L
  wire_after_event w Start = record { variables = no_numbers (state_after Start); period = w.period + 1; partner = None; causes = no_causes }
  wire_after_event w Halt = record w { variables = record w.variables { state = state_after Halt } }

  -- ---- packets

  -- a new packet has no label yet
  abbrev pub with_new : Bool → List (HeldPacket L) → List ℕ → List (HeldPacket L)
  with_new true held body = held ++ record { body = body; label = None } ∷ []
  with_new false held body = held

  -- This label is put beside the newest number: beside this packet, if there is one
  abbrev pub labelled : List (HeldPacket L) → Option (HeldPacket L) → L → List (HeldPacket L)
  labelled held None label = held
  labelled held (Some newest) label = slice_set held (length held - 1) (record newest { label = Some label })

  abbrev pub with_label : List (HeldPacket L) → L → List (HeldPacket L)
  with_label held label = labelled held (slice_get held (length held - 1)) label

  abbrev pub wire_after_label : WireStation L → L → WireStation L
  wire_after_label w label = record w { variables = record w.variables { held = with_label w.variables.held label } }

  -- ---- counts

  -- All counts that no rule bounds, together: where this is below a bound, so is each. A record adds at most one to it
  abbrev pub load : WireStation L → ℕ
  load w = w.period + w.causes.header_check + w.causes.data_check + w.causes.rep_response + w.causes.no_buffer
