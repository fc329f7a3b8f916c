-- One DDCMP station, on numbers without a bound (DDCMP 4.1, station variables), and what its user does. What it may send
-- and what an arrival does to it is in `Table`, with its words in `StationBook`.
use Rattle.std.specs.Prelude.{ℕ, ◌+◌, Option, None, List, [], ◌∷◌, ◌++◌, length, flat_map}
use Rattle.wire_base.specs.Seq.{wire_value}
use Rattle.dna_station.specs.declared.state.State.{State}
use Rattle.dna_station.specs.declared.state.State.TheVariants.{Halted}
use Rattle.dna_station.specs.declared.state.StationEvent.{StationEvent}
use Rattle.dna_station.specs.declared.state.StationEvent.TheVariants.{Start, Halt}
use Rattle.dna_station.specs.NakCauses.{Causes, no_causes}
use Rattle.dna_station.specs.Table.{state_after}

-- What a period that is over came to: its partner, all packets given in it, and all packets taken. No check and no step of the station goes by
-- it; the links find a packet by its place among all packets, which is counted from those given
pub record PastPeriod : Type 0 where
  pub partner : Option ℕ
  pub given : List (List ℕ)
  pub taken : List (List ℕ)

-- A packet is the list of its bytes, carried unread
pub record Station : Type 0 where
  pub state : State
  -- how many starts there were: the number of the present period
  pub period : ℕ
  -- the other side's period that the present one goes with, once it is known
  pub partner : Option ℕ
  -- R: the last number received in order
  pub received : ℕ
  -- A: the highest number acknowledged by the other side
  pub acknowledged : ℕ
  -- T: the number of the next data message to send
  pub next_to_send : ℕ
  -- all packets given in the period, the first of which has number 1
  pub packets : List (List ℕ)
  -- what a NAK may still answer
  pub causes : Causes
  -- all packets taken in the period, and the periods before it, period 0 first. No check and no step of the station goes by them
  pub taken : List (List ℕ)
  pub earlier : List PastPeriod

-- N: the highest number given
abbrev pub given : Station → ℕ
given s = length s.packets

-- a number as the line has it
abbrev pub wire : ℕ → ℕ
wire number = wire_value 256 number

-- before any record, in period 0
abbrev pub new_station : Station
new_station = record {
  state = Halted;
  period = 0;
  partner = None;
  received = 0;
  acknowledged = 0;
  next_to_send = 1;
  packets = [];
  causes = no_causes;
  taken = [];
  earlier = [];
}

-- ---- what the user does

abbrev pub past : Station → PastPeriod
past s = record { partner = s.partner; given = s.packets; taken = s.taken }

-- A start begins a period, with all else as before any record: no number is received, given or acknowledged and the next to send is 1, all packets
-- and causes are dropped, and there is no partner period
abbrev pub after_event : Station → StationEvent → Station
after_event s Start = record new_station { state = state_after Start; period = s.period + 1; earlier = s.earlier ++ past s ∷ [] }
after_event s Halt = record s { state = state_after Halt }

-- ---- what was given over all periods

-- all packets first sent in these periods, in order
abbrev pub packets_of : List PastPeriod → List (List ℕ)
packets_of periods = flat_map (λ (p : PastPeriod). p.given) periods

-- all packets ever first sent, in order
abbrev pub all_given : Station → List (List ℕ)
all_given s = packets_of s.earlier ++ s.packets
