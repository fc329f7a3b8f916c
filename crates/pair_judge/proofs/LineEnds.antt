-- One end alone with nothing on top is its station alone, beside links as they are before any record.
use Rattle.std.proofs.Common.{◌≡◌, ℕ, ◌+◌, Bool, true, false, cond, Option, Some, None, Result, Ok, Err, List, [], ◌∷◌, refl, sym, ap, ap₂, ◌∙◌}
use Rattle.std.proofs.Common.{subst}
use Rattle.std.specs.Prelude.{nat_lt}
use Rattle.ddcmp_msg.specs.Reading.{ReadingValue, reading}
use Rattle.ddcmp_msg.specs.Reading as read
use Rattle.capture_record.specs.declared.fate.Fate.{Fate}
use Rattle.capture_record.specs.declared.fate.Fate.TheVariants.{NotKept}
use Rattle.capture_record.specs.Fates.{is_met}
use Rattle.capture_record.specs.declared.record.Record.{Record}
use Rattle.capture_record.specs.declared.record.Record.TheVariants.{Sent, Received, Noise, User}
use Rattle.dna_station.specs.declared.head.Head.{Head}
use Rattle.dna_station.specs.declared.refusal.StepRefusal.{StepRefusal}
use Rattle.dna_station.specs.declared.refusal.StepRefusal.TheVariants.{HintOrder}
use Rattle.dna_station.specs.declared.tag.Tag.{Tag}
use Rattle.dna_links.specs.declared.tag.LinkTag.{LinkTag}
use Rattle.dna_station.specs.Book.{Sound, HeaderBad, DataBad}
use Rattle.dna_station.specs.Line.{damage}
use Rattle.dna_station.specs.Machine.{noise_comes}
use Rattle.dna_station.specs.WireNode.{WireNode, new_wire_node}
use Rattle.dna_station.specs.WireStation.{WireStation}
use Rattle.dna_node.specs.WireLayers.{WireLayers, WireLayersNode, with_wire_station}
use Rattle.dna_node.specs.Alone.{Accused, StepAlone, Makes, Refuses, ThisEnd, does, sends, meets, unless_wrong, then_unless_wrong, if_met}
use Rattle.dna_node.specs.Alone.{comes_alone, ends_from, goes_on, sent_alone, step_alone, station_end}
use Rattle.pair_judge.specs.EndKind.{station_alone}
use Rattle.pair_judge.specs.inner.Tops as tops
use Rattle.pair_judge.specs.inner.Tops.{line_end, nothing_top}
use Rattle.pair_judge.specs.inner.Wire.{EndsAlike, EndsSo, RunsFor}

abbrev StationNode : Type 0
StationNode = WireNode LinkTag

-- what is run for a station
abbrev line_node : StationNode → WireLayersNode
line_node m = record { head = m.head; station = station_alone.layers m; front = m.front }

abbrev line_step : StepAlone (WireStation LinkTag) → StepAlone WireLayers
line_step (Makes m) = Makes (line_node m)
line_step (Refuses accused reason) = Refuses accused reason

-- ---- one record

module _ (m : StationNode) where
  does_so : (o : Result (WireStation LinkTag) StepRefusal) → does (line_node m) (with_wire_station (station_alone.layers m) o) ≡ line_step (does m o)
  does_so (Ok after) = refl
  does_so (Err refusal) = refl

  sends_so : (o : Result (WireStation LinkTag × Tag) StepRefusal) →
      sends (line_node m) (tops.sent_alone (station_alone.layers m) o) ≡ line_step (sends m o)
  sends_so (Ok after) = refl
  sends_so (Err refusal) = refl

  meets_so : (front : ℕ) (o : Result (WireStation LinkTag) StepRefusal) →
      meets (line_node m) front (with_wire_station (station_alone.layers m) o) ≡ line_step (meets m front o)
  meets_so front (Ok after) = refl
  meets_so front (Err refusal) = refl

unless_so : (wrong : Option StepRefusal) (s : StepAlone (WireStation LinkTag)) → unless_wrong wrong (line_step s) ≡ line_step (unless_wrong wrong s)
unless_so None s = refl
unless_so (Some refusal) s = refl

then_unless_so : (wrong : Option StepRefusal) (s : StepAlone (WireStation LinkTag)) →
    then_unless_wrong wrong (line_step s) ≡ line_step (then_unless_wrong wrong s)
then_unless_so wrong (Makes m) = unless_so wrong (Makes m)
then_unless_so wrong (Refuses accused reason) = refl

module _ (m : StationNode) where
  sent_so : (r : ReadingValue) → sent_alone line_end (line_node m) r ≡ line_step (sent_alone station_end m r)
  sent_so (read.Sound message) = sends_so m (station_end.machine.sends m.station message)
  sent_so bad = refl

  comes_so : (front : ℕ) (fate : Fate) (r : ReadingValue) →
      comes_alone line_end (line_node m) front fate r ≡ line_step (comes_alone station_end m front fate r)
  comes_so front fate (read.Sound message) =
      let wrong = station_end.wrong_unit m.station message in
      let taken = if_met (is_met fate) (station_end.wrong_taken m.station message) in
      let met = station_end.machine.arrives m.station (Sound message station_end.unknown) fate in
      ap (λ (s : StepAlone WireLayers). unless_wrong wrong (then_unless_wrong taken s)) (meets_so m front met)
      ∙ ap (unless_wrong wrong) (then_unless_so taken (meets m front met))
      ∙ unless_so wrong (then_unless_wrong taken (meets m front met))
  comes_so front fate read.HeaderBad = meets_so m front (station_end.machine.arrives m.station HeaderBad fate)
  comes_so front fate read.DataBad = meets_so m front (station_end.machine.arrives m.station DataBad fate)
  comes_so front fate (read.Malformed departure) = refl

  by_front : (b : Bool) (front : ℕ) (fate : Fate) (r : ReadingValue) →
      cond b (Refuses ThisEnd HintOrder) (comes_alone line_end (line_node m) front fate r)
      ≡ line_step (cond b (Refuses ThisEnd HintOrder) (comes_alone station_end m front fate r))
  by_front true front fate r = refl
  by_front false front fate r = comes_so front fate r

  noise_so : (r : ReadingValue) → does (line_node m) (noise_comes line_end.machine (station_alone.layers m) (damage r))
      ≡ line_step (does m (noise_comes station_end.machine m.station (damage r)))
  noise_so read.HeaderBad = does_so m (station_end.machine.arrives m.station HeaderBad NotKept)
  noise_so read.DataBad = does_so m (station_end.machine.arrives m.station DataBad NotKept)
  noise_so other = refl

  step_so : (r : Record) → step_alone line_end (line_node m) r ≡ line_step (step_alone station_end m r)
  step_so (Sent bytes) = sent_so (reading bytes)
  step_so (Received hint fate bytes) = by_front (nat_lt hint m.front) (hint + 1) fate (reading bytes)
  step_so (Noise bytes) = noise_so (reading bytes)
  step_so (User event) = does_so m (station_end.machine.user m.station event)

refused_so : (s : StepAlone (WireStation LinkTag)) (accused : Accused) (refusal : StepRefusal) →
    ◌≡◌ {A = StepAlone WireLayers} (line_step s) (Refuses accused refusal) → s ≡ Refuses accused refusal
refused_so (Makes m) accused refusal e = absurd (cc)
refused_so (Refuses of reason) accused refusal e = ap₂ (λ (a : Accused) (x : StepRefusal). Refuses a x) (cc) (cc)

-- ---- all records

module _ (of_period : Bool) where
  runs_for : (m : StationNode) → RunsFor (nothing_top of_period) (line_node m) m
  runs_for m = record {
    layers = refl;
    front = refl;
    links = refl;
    refuses = λ r accused refusal is. refused_so (step_alone station_end m r) accused refusal (sym (step_so m r) ∙ is);
  }

  module _ (place : ℕ) (rest : List Record) where
    abbrev EndSo : StepAlone WireLayers → StepAlone (WireStation LinkTag) → Type 0
    EndSo s t = EndsSo (nothing_top of_period) (goes_on s place (λ (next : WireLayersNode). ends_from line_end next (place + 1) rest))
        (goes_on t place (λ (next : StationNode). ends_from station_end next (place + 1) rest))

    by_step : ((next : StationNode) → EndsSo (nothing_top of_period) (ends_from line_end (line_node next) (place + 1) rest)
        (ends_from station_end next (place + 1) rest)) → (t : StepAlone (WireStation LinkTag)) → EndSo (line_step t) t
    by_step later (Makes m) = later m
    by_step later (Refuses accused reason) = refl

  ends_so : (records : List Record) (m : StationNode) (place : ℕ) →
      EndsSo (nothing_top of_period) (ends_from line_end (line_node m) place records) (ends_from station_end m place records)
  ends_so [] m place = (m, refl, runs_for m)
  ends_so (r ∷ records) m place =
      subst (λ (s : StepAlone WireLayers). EndSo place records s (step_alone station_end m r)) (sym (step_so m r))
      (by_step place records (λ next. ends_so records next (place + 1)) (step_alone station_end m r))

  pub line_ends_alike : (head : Head) (records : List Record) → EndsAlike (nothing_top of_period) head records
  line_ends_alike head records = ends_so records (new_wire_node head) 0
