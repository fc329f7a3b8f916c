-- What a record alone tells of its step, over any machine and in any state of its node: the unit that it names, and whether it sends one. The terms
-- say that it is so.
use Rattle.std.specs.Prelude.{ℕ, true, false, None, Result, Ok, Err, List, refl}
use Rattle.two_nodes.specs.Past.{AgreesWith, Tells, BothTell}
use Rattle.ddcmp_msg.specs.Message.{MessageValue}
use Rattle.ddcmp_msg.specs.Reading.{ReadingValue, reading, Sound}
use Rattle.capture_record.specs.declared.record.Record.TheVariants.{Sent, Received, Noise, User}
use Rattle.dna_station.specs.declared.refusal.StepRefusal.{StepRefusal}
use Rattle.dna_station.specs.PeriodRule.{of_period}
use Rattle.dna_station.specs.Line.{damage}
use Rattle.dna_station.specs.Machine.{Machine, NodeOf, does, sends, sent_step, noise_comes, step, named_unit, is_sent, pair_of}
use Rattle.dna_station.specs.Node.{station_machine}
use Rattle.dna_station.specs.Pair.{pair}
use Rattle.dna_station.specs.WireNode.{wire_machine, wire_pair}

did_tells : {S : Type 0} (K : Type 0) (n : NodeOf S) (o : Result S StepRefusal) → AgreesWith (does {K = K} n o) None false
did_tells K n (Ok s) = (refl, refl)
did_tells K n (Err refusal) = refl

module _ {S K : Type 0} where
  sends_tells : (n : NodeOf S) (bytes : List ℕ) (m : MessageValue) (o : Result (S × K) StepRefusal) → AgreesWith (sends n bytes m o) None true
  sends_tells n bytes m (Ok after) = (refl, refl)
  sends_tells n bytes m (Err refusal) = refl

  module _ (machine : Machine S K) where
    sent_tells : (n : NodeOf S) (bytes : List ℕ) (read : ReadingValue) → AgreesWith (sent_step machine n bytes read) None true
    sent_tells n bytes (Sound m) = sends_tells n bytes m (machine.sends n.station m)
    sent_tells n bytes read = refl

    step_tells : Tells (step machine) named_unit is_sent
    step_tells n (Sent bytes) = sent_tells n bytes (reading bytes)
    step_tells n (Received hint fate bytes) = (refl, refl)
    step_tells n (Noise bytes) = did_tells K n (noise_comes machine n.station (damage (reading bytes)))
    step_tells n (User event) = did_tells K n (machine.user n.station event)

    pub machine_tells : BothTell (pair_of machine)
    machine_tells = record { of_a = step_tells; of_b = step_tells }

pub pair_tells : BothTell pair
pair_tells = machine_tells (station_machine of_period)

pub wire_pair_tells : (L : Type 0) → BothTell (wire_pair {L = L})
wire_pair_tells L = machine_tells (wire_machine of_period)
