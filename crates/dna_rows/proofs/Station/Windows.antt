-- Worked rows of one station, computed from the definitions: the full window, and numbers beyond one byte.
use Rattle.dna_rows.proofs.Prelude.{◌≡◌, ℕ, zero, suc, ◌+◌, false, Option, Some, None, List, [], ◌∷◌, replicate, fold, MessageValue, Data, Nak, Rep}
use Rattle.dna_rows.proofs.Prelude.{RepResponse, StationRefusal, WindowFull, NoCause, Station, new_station, after_event, sending_refusal}
use Rattle.dna_rows.proofs.Prelude.{after_sending, truth_of, after_arrival, Sound}
use Rattle.dna_station.specs.declared.state.State.TheVariants.{Running}
use Rattle.dna_station.specs.declared.state.StationEvent.TheVariants.{Start, Halt}
use Rattle.dna_station.specs.Station.{wire}
use Rattle.dna_rows.proofs.Station.Units.{plain}

-- in RUNNING, with nothing sent or received
abbrev running : Station
running = record (after_event new_station Start) { state = Running; partner = Some 1 }

abbrev sent_if : Option StationRefusal → Station → MessageValue → Option Station
sent_if None s m = Some (after_sending s m)
sent_if (Some refusal) s m = None

abbrev sent_next : Option Station → MessageValue → Option Station
sent_next None m = None
sent_next (Some s) m = sent_if (sending_refusal s m) s m

abbrev packet : List ℕ
packet = 5 ∷ []

-- so many packets from this number on
abbrev packets_from : ℕ → ℕ → List MessageValue
packets_from number zero = []
packets_from number (suc count) = Data plain 0 (wire number) packet ∷ packets_from (number + 1) count

abbrev after_packets : ℕ → Option Station
after_packets count = fold sent_next (Some running) (packets_from 1 count)

-- a has given 255 and seen RESP 10, b has received 255
abbrev a255 : Station
a255 = record running { packets = replicate 255 packet; next_to_send = 256; acknowledged = 10 }

abbrev b255 : Station
b255 = record running { received = 255 }

-- a gives 256, which is lost
abbrev a256 : Station
a256 = after_sending a255 (Data plain 0 0 packet)

-- a REP of number 256 gives b a cause
abbrev asked_b : Station
asked_b = after_arrival b255 (Sound (Rep plain 0) (truth_of a256 (Rep plain 0))) false

-- the first packet behind a restart stands behind the 255 of the period before
abbrev restarted : Station
restarted = record (after_event (after_event a255 Halt) Start) { state = Running; partner = Some 2 }

record Rows : Type 0 where
  -- ---- messages sent one after another, as long as none is refused
  -- 255 packets are sent of which none is acknowledged, and one more is refused
  window_filled : after_packets 255 ≡ Some (record running { packets = replicate 255 packet; next_to_send = 256 })
  window_full : sending_refusal (record running { packets = replicate 255 packet; next_to_send = 256 }) (Data plain 0 0 packet) ≡ Some WindowFull
  -- ---- numbers beyond one byte
  -- a REP of number 255 gives no cause
  rep_of_255 : (sending_refusal a255 (Rep plain 0xff) ≡ None) ×
      (after_arrival b255 (Sound (Rep plain 0xff) (truth_of a255 (Rep plain 0xff))) false ≡ b255)
  packet_256 : sending_refusal a255 (Data plain 0 0 packet) ≡ None
  rep_of_256 : (sending_refusal a256 (Rep plain 0) ≡ None) × (sending_refusal asked_b (Nak plain RepResponse 0xff) ≡ None)
  -- but none once it has received 256
  rep_of_256_received : after_arrival (record running { received = 256 }) (Sound (Rep plain 0) (truth_of a256 (Rep plain 0))) false ≡ record running
      { received = 256 }
  -- one NAK uses the cause up
  second_nak : sending_refusal (after_sending asked_b (Nak plain RepResponse 0xff)) (Nak plain RepResponse 0xff) ≡ Some NoCause
  -- ---- over periods
  place_behind_a_restart : ((truth_of a255 (Data plain 0 0 packet)).place ≡ 255) × ((truth_of restarted (Data plain 0 1 packet)).place ≡ 255) ×
      ((truth_of restarted (Data plain 0 1 packet)).number ≡ 1)

computed : Rows
computed = search
