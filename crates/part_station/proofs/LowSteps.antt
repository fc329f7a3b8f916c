-- Numbers and counts of the cases rise by at most one with a record of a capture.
use Rattle.std.proofs.Common.{◌≡◌, ℕ, ◌+◌, ◌≤◌, Bool, false, Option, Some, None, Result, Ok, Err, List, refl, ap, subst, arith}
use Rattle.ddcmp_msg.specs.Reading.{ReadingValue, reading, Malformed}
use Rattle.ddcmp_msg.specs.Reading as read
use Rattle.capture_record.specs.Fates.{is_kept}
use Rattle.capture_record.specs.declared.record.Record.{Record}
use Rattle.capture_record.specs.declared.record.Record.TheVariants.{Sent, Received, Noise, User}
use Rattle.capture_record.specs.declared.event.Event.{Event}
use Rattle.capture_record.specs.declared.event.Event.TheVariants as events
use Rattle.dna_station.specs.declared.refusal.StationRefusal.{StationRefusal}
use Rattle.dna_station.specs.declared.refusal.StepRefusal.{StepRefusal}
use Rattle.dna_station.specs.declared.state.StationEvent.TheVariants.{Start, Halt}
use Rattle.dna_station.specs.Book.{Sound, HeaderBad, DataBad}
use Rattle.dna_station.specs.Line.{damage}
use Rattle.dna_node.specs.Alone.{unknown_period}
use Rattle.part_station.specs.Open.{Open}
use Rattle.part_station.specs.Cases.{Known, Cases, of_station, sent_by_cases, received_by_cases, noise_by_cases, event_by_cases, cases_step}
use Rattle.part_station.specs.Piece.{HasBytes}
use Rattle.part_station.specs.Low.{OpenIsLow, KnownIsLow, AreAllLow}
use Rattle.part_station.proofs.Bytes.{byte_of, num_byte_of}
use Rattle.part_station.proofs.Growth.{more_numbers, sending_low, meeting_low, user_low}

made_by : (made : Result Cases StationRefusal) (after : Cases) → of_station made ≡ Ok after → made ≡ Ok after
made_by (Ok c) after e = let same : c ≡ after = cc in ap Ok same
made_by (Err refusal) after e = absurd cc

module _ (bound : ℕ) (large : 1024 ≤ bound) where
  more_known : (slot : Option Known) → KnownIsLow bound slot → KnownIsLow (bound + 1) slot
  more_known None low = tt
  more_known (Some w) low = omega (arith, low)

  more_open : (slot : Option Open) → OpenIsLow bound slot → OpenIsLow (bound + 1) slot
  more_open None low = tt
  more_open (Some o) low = more_numbers bound large o.numbers low

module _ (bound : ℕ) (c after : Cases) (large : 1024 ≤ bound) (low : AreAllLow bound c) where
  abbrev idles : Result Cases StepRefusal
  idles = Ok c

  idle_low : idles ≡ Ok after → AreAllLow (bound + 1) after
  idle_low e =
      let same : c ≡ after = cc in
      subst (AreAllLow (bound + 1)) same (record {
        istrt = more_known bound large c.istrt low.istrt;
        astrt = more_known bound large c.astrt low.astrt;
        running = more_open bound large c.running low.running;
        ahead = more_open bound large c.ahead low.ahead;
      })

  sent_low : (bytes : List ℕ) (r : ReadingValue) → HasBytes (Sent bytes) → reading bytes ≡ r → sent_by_cases c r ≡ Ok after →
      AreAllLow (bound + 1) after
  sent_low bytes (read.Sound m) are is e = sending_low bound c after large low m (num_byte_of bytes are m is) (made_by _ after e)
  sent_low bytes read.HeaderBad are is e = absurd cc
  sent_low bytes read.DataBad are is e = absurd cc
  sent_low bytes (Malformed departure) are is e = absurd cc

  received_low : (kept : Bool) (bytes : List ℕ) (r : ReadingValue) → HasBytes (Sent bytes) → reading bytes ≡ r →
      received_by_cases c kept r ≡ Ok after →
      AreAllLow (bound + 1) after
  received_low kept bytes (read.Sound m) are is e =
      meeting_low bound c after large low (Sound m unknown_period) kept (byte_of bytes are m is) (made_by _ after e)
  received_low kept bytes read.HeaderBad are is e = meeting_low bound c after large low HeaderBad kept tt (made_by _ after e)
  received_low kept bytes read.DataBad are is e = meeting_low bound c after large low DataBad kept tt (made_by _ after e)
  received_low kept bytes (Malformed departure) are is e = absurd cc

  noise_low : (r : ReadingValue) → noise_by_cases c (damage r) ≡ Ok after → AreAllLow (bound + 1) after
  noise_low read.HeaderBad e = meeting_low bound c after large low HeaderBad false tt (made_by _ after e)
  noise_low read.DataBad e = meeting_low bound c after large low DataBad false tt (made_by _ after e)
  noise_low (read.Sound m) e = absurd cc
  noise_low (Malformed departure) e = absurd cc

  event_low : (event : Event) → event_by_cases c event ≡ Ok after → AreAllLow (bound + 1) after
  event_low events.Start e = user_low bound c after large low Start (made_by _ after e)
  event_low events.Halt e = user_low bound c after large low Halt (made_by _ after e)
  event_low events.Boot e = user_low bound c after large low Halt (made_by _ after e)
  event_low (events.Open link) e = idle_low e
  event_low (events.Accept partner link) e = idle_low e
  event_low (events.Reject partner link) e = idle_low e
  event_low (events.In link bytes) e = idle_low e
  event_low (events.Up link bytes) e = idle_low e
  event_low (events.Close link) e = idle_low e
  event_low (events.Abort link) e = idle_low e
  event_low (events.Composed bytes) e = idle_low e
  event_low (events.Interrupt link bytes) e = idle_low e
  event_low (events.Interrupted link bytes) e = idle_low e

  pub low_step : (r : Record) → HasBytes r → cases_step c r ≡ Ok after → AreAllLow (bound + 1) after
  low_step (Sent bytes) are e = sent_low bytes (reading bytes) are refl e
  low_step (Received hint fate bytes) are e = received_low (is_kept fate) bytes (reading bytes) are refl e
  low_step (Noise bytes) are e = noise_low (reading bytes) e
  low_step (User event) are e = event_low event e
