-- What a record makes of what is kept of its side.
use Rattle.std.specs.Prelude.{ℕ, ◌+◌, min, Option, Some, None, List, slice_index, slice_set}
use Rattle.ddcmp_msg.specs.Reading.{ReadingValue, reading, Sound, HeaderBad, DataBad, Malformed}
use Rattle.capture_record.specs.Fates.{is_kept}
use Rattle.capture_record.specs.declared.fate.Fate.{Fate}
use Rattle.capture_record.specs.declared.record.Record.{Record}
use Rattle.capture_record.specs.declared.record.Record.TheVariants.{Sent, Received, Noise, User}
use Rattle.capture_record.specs.declared.event.Event.{Event}
use Rattle.capture_record.specs.declared.event.Event.TheVariants as events
use Rattle.dna_station.specs.declared.state.StationEvent.TheVariants as user
use Rattle.coverage.specs.declared.counts.Counts.{Counts}
use Rattle.coverage.specs.declared.half.Half.{Half}
use Rattle.coverage.specs.declared.row.LinkAct.{LinkAct}
use Rattle.coverage.specs.declared.row.Row.{Row}
use Rattle.coverage.specs.declared.row.Loss.TheVariants.{Unsent}
use Rattle.coverage.specs.declared.row.Row.TheVariants.{LinkUser, Lost}
use Rattle.coverage.specs.declared.tracker.Tracker.{Tracker}
use Rattle.coverage.specs.Counts.{MOST}
use Rattle.coverage.specs.Row.{place}
use Rattle.coverage.specs.Rows.{user_row, link_row, sent_row, arrival_row, damage_row, link_sends, link_gets}
use Rattle.coverage.specs.inner.Tracked.{after_arrival, after_event, after_sending, is_new}

-- ---- counts

abbrev pub one_more : List ℕ → Row → List ℕ
one_more counts row = slice_set counts (place row) (min (slice_index counts (place row) + 1) MOST)

abbrev pub counted : List ℕ → Option Row → List ℕ
counted counts None = counts
counted counts (Some row) = one_more counts row

abbrev pub counted_in : Counts → Option Row → Counts
counted_in counts row = record { met = counted counts.met row }

-- ---- a record

abbrev pub met_sent : Half → ReadingValue → Half
met_sent half (Sound m) = record {
  tracker = after_sending half.tracker m;
  counts = counted_in (counted_in half.counts (sent_row half.tracker.state (is_new half.tracker) m)) (link_sends (is_new half.tracker) m);
}
met_sent half HeaderBad = half
met_sent half DataBad = half
met_sent half (Malformed departure) = half

abbrev pub met_damage : Half → ReadingValue → Half
met_damage half read = record half { counts = counted_in half.counts (damage_row half.tracker.state read) }

abbrev pub met_receipt : Half → Fate → ReadingValue → Half
met_receipt half fate (Sound m) = record {
  tracker = after_arrival half.tracker m (is_kept fate);
  counts = counted_in (counted_in half.counts (Some (arrival_row half.tracker.state half.tracker.received (is_kept fate) m))) (link_gets fate m);
}
met_receipt half fate HeaderBad = met_damage half HeaderBad
met_receipt half fate DataBad = met_damage half DataBad
met_receipt half fate (Malformed departure) = half

abbrev pub tracked_event : Tracker → Event → Tracker
tracked_event t events.Start = after_event t user.Start
tracked_event t events.Halt = after_event t user.Halt
tracked_event t events.Boot = after_event t user.Halt
tracked_event t event = t

abbrev pub met_event : Half → Event → Half
met_event half event = record {
  tracker = tracked_event half.tracker event;
  counts = counted_in (counted_in half.counts (user_row half.tracker.state event)) (link_row event);
}

abbrev pub met_link : Half → LinkAct → Half
met_link half act = record half { counts = counted_in half.counts (Some (LinkUser act)) }

abbrev pub met_unsent : Half → Half
met_unsent half = record half { counts = counted_in half.counts (Some (Lost Unsent)) }

abbrev pub met : Half → Record → Half
met half (Sent bytes) = met_sent half (reading bytes)
met half (Received hint fate bytes) = met_receipt half fate (reading bytes)
met half (Noise bytes) = met_damage half (reading bytes)
met half (User event) = met_event half event
