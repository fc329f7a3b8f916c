-- A station on true numbers, cut to what a node keeps.
use Rattle.std.specs.Prelude.{◌≡◌, ℕ, ◌+◌, ◌-◌, Option, Some, None, List, [], ◌∷◌, ◌++◌, map, drop, slice_get, option_and_then}
use Rattle.ddcmp_msg.specs.Message.{MessageValue}
use Rattle.dna_station.specs.declared.state.StationEvent.{StationEvent}
use Rattle.dna_station.specs.declared.state.StationEvent.TheVariants.{Start, Halt}
use Rattle.dna_station.specs.Station.{Station, wire}
use Rattle.dna_station.specs.Table.{Change, SendPacket, change_of}
use Rattle.dna_station.specs.Book.{body_of}
use Rattle.dna_station.specs.StationBook.{is_new}
use Rattle.dna_station.specs.WireStation.{HeldPacket, WireStation, with_new}

module _ {L : Type 0} where
  -- these are all packets given in the period, each with its label
  abbrev pub AreLabelled : List (HeldPacket L) → Station → Type 0
  AreLabelled all s = map (λ (packet : HeldPacket L). packet.body) all ≡ s.packets

  abbrev pub cut : List (HeldPacket L) → Station → WireStation L
  cut all s = record {
    variables = record {
      state = s.state;
      received = wire s.received;
      acknowledged = wire s.acknowledged;
      ahead = s.next_to_send - (s.acknowledged + 1);
      held = drop s.acknowledged all;
    };
    period = s.period;
    partner = s.partner;
    causes = s.causes;
  }

  -- all packets with their labels after this message is sent
  abbrev pub all_with : Change → List (HeldPacket L) → Station → List ℕ → List (HeldPacket L)
  all_with SendPacket all s body = with_new (is_new s) all body
  all_with change all s body = all

  abbrev pub all_after : List (HeldPacket L) → Station → MessageValue → List (HeldPacket L)
  all_after all s m = all_with (change_of m) all s (body_of m)

  -- all packets with their labels after the user does this: a start drops them
  abbrev pub all_after_event : List (HeldPacket L) → StationEvent → List (HeldPacket L)
  all_after_event all Start = []
  all_after_event all Halt = all

  -- the label beside the packet that this message would send, which has the next number
  abbrev pub label_at : Change → List (HeldPacket L) → ℕ → Option L
  label_at SendPacket all place = option_and_then (λ (packet : HeldPacket L). packet.label) (slice_get all place)
  label_at change all place = None

  abbrev pub label_of_next : List (HeldPacket L) → Station → MessageValue → Option L
  label_of_next all s m = label_at (change_of m) all (s.next_to_send - 1)

-- these packets, and the one that was taken, if one was
abbrev pub with_taken : List (List ℕ) → Option (List ℕ) → List (List ℕ)
with_taken packets None = packets
with_taken packets (Some packet) = packets ++ packet ∷ []
