-- Two machines that do the same, one on what is cut of the other: their nodes make the same of each record.
use Rattle.std.proofs.Common.{◌≡◌, ℕ, ◌+◌, ◌≤◌, Bool, true, false, cond, nat_lt, ltb-false, Option, Some, None, Result, Ok, Err, List, [], ◌∷◌, refl}
use Rattle.std.proofs.Common.{sym, ap, ◌∙◌, option_map}
use Rattle.std.specs.Prelude.{slice_get, bytes_eq}
use Rattle.std.proofs.lemmas.List.{map-append}
use Rattle.std.proofs.lemmas.Option.{slice_get-map}
use Rattle.two_nodes.specs.Nodes.{Half, answered, concluded, read, advance}
use Rattle.two_nodes.specs.Nodes.Outcome.{Made}
use Rattle.two_nodes.specs.Cutting.{Cut, cut_half, cut_outcome}
use Rattle.ddcmp_msg.specs.Message.{MessageValue}
use Rattle.ddcmp_msg.specs.Reading.{ReadingValue, reading}
use Rattle.ddcmp_msg.specs.Reading as read_as
use Rattle.capture_record.specs.declared.record.Record.{Record}
use Rattle.capture_record.specs.declared.record.Record.TheVariants.{Sent, Received, Noise, User}
use Rattle.capture_record.specs.declared.event.Event.{Event}
use Rattle.capture_record.specs.declared.fate.Fate.{Fate}
use Rattle.capture_record.specs.declared.fate.Fate.TheVariants.{NotKept}
use Rattle.dna_station.specs.declared.refusal.StepRefusal.{StepRefusal}
use Rattle.dna_station.specs.declared.refusal.StepRefusal.TheVariants.{HintOrder}
use Rattle.dna_station.specs.Book.{Sound, HeaderBad, DataBad}
use Rattle.dna_station.specs.Line.{UnitOf, damage, coming_by, coming}
use Rattle.dna_station.specs.Machine.{Machine, NodeOf, does, sends, met, sent_step, comes, receives, noise_step, step}

module _ {S K T J : Type 0} (of_station : S → T) (of_known : MessageValue → K → J) (one : Machine S K) (two : Machine T J) where
  abbrev pub cut_result : Result S StepRefusal → Result T StepRefusal
  cut_result (Ok s) = Ok (of_station s)
  cut_result (Err refusal) = Err refusal

  -- of a message that is sent, by that message
  abbrev pub cut_sent : MessageValue → Result (S × K) StepRefusal → Result (T × J) StepRefusal
  cut_sent m (Ok after) = Ok (of_station after.0, of_known m after.1)
  cut_sent m (Err refusal) = Err refusal

  abbrev pub unit_cut : UnitOf K → UnitOf J
  unit_cut unit = record { bytes = unit.bytes; message = unit.message; known = of_known unit.message unit.known }

  abbrev pub machine_cut : Cut (NodeOf S) (UnitOf K) (NodeOf T) (UnitOf J)
  machine_cut = record { of_state = λ (n : NodeOf S). record { head = n.head; station = of_station n.station; front = n.front }; of_unit = unit_cut }

  -- beside this other half, they do the same of what may come
  pub record DoTheSame (own other : Half (NodeOf S) (UnitOf K)) : Type 0 where
    pub user : (event : Event) → two.user (of_station own.state.station) event ≡ cut_result (one.user own.state.station event)
    pub sending : (m : MessageValue) → two.sends (of_station own.state.station) m ≡ cut_sent m (one.sends own.state.station m)
    pub sound : (k : ℕ) (unit : UnitOf K) (fate : Fate) → slice_get other.sent k ≡ Some unit → own.state.front ≤ k →
        two.arrives (of_station own.state.station) (Sound unit.message (of_known unit.message unit.known)) fate ≡ cut_result
        (one.arrives own.state.station (Sound unit.message unit.known) fate)
    pub header_bad : (fate : Fate) → two.arrives (of_station own.state.station) HeaderBad fate ≡ cut_result
        (one.arrives own.state.station HeaderBad fate)
    pub data_bad : (fate : Fate) → two.arrives (of_station own.state.station) DataBad fate ≡ cut_result (one.arrives own.state.station DataBad fate)

  module _ (own other : Half (NodeOf S) (UnitOf K)) (same : DoTheSame own other) where
    did_same : (o : Result S StepRefusal) →
        answered (cut_half machine_cut own) (cut_half machine_cut other) (does (cut_half machine_cut own).state (cut_result o)) ≡ cut_outcome
        machine_cut (answered own other (does own.state o))
    did_same (Ok s) = refl
    did_same (Err refusal) = refl

    sends_same : (bytes : List ℕ) (m : MessageValue) (o : Result (S × K) StepRefusal) →
        answered (cut_half machine_cut own) (cut_half machine_cut other) (sends (cut_half machine_cut own).state bytes m (cut_sent m o)) ≡ cut_outcome
        machine_cut (answered own other (sends own.state bytes m o))
    sends_same bytes m (Ok after) =
        ap (λ (units : List (UnitOf J)). Made
        (record { state = record { head = own.state.head; station = of_station after.0; front = own.state.front }; sent = units }))
        (sym (map-append unit_cut own.sent (record { bytes = bytes; message = m; known = after.1 } ∷ [])))
    sends_same bytes m (Err refusal) = refl

    sent_same : (bytes : List ℕ) (r : ReadingValue) →
        answered (cut_half machine_cut own) (cut_half machine_cut other) (sent_step two (cut_half machine_cut own).state bytes r) ≡ cut_outcome
        machine_cut (answered own other (sent_step one own.state bytes r))
    sent_same bytes (read_as.Sound m) =
        ap (λ (o : Result (T × J) StepRefusal). answered (cut_half machine_cut own) (cut_half machine_cut other)
        (sends (cut_half machine_cut own).state bytes m o)) (same.sending m)
        ∙ sends_same bytes m (one.sends own.state.station m)
    sent_same bytes read = refl

    noise_same : (r : ReadingValue) →
        answered (cut_half machine_cut own) (cut_half machine_cut other) (noise_step two (cut_half machine_cut own).state r) ≡ cut_outcome machine_cut
        (answered own other (noise_step one own.state r))
    noise_same read_as.HeaderBad =
        ap (λ (o : Result T StepRefusal). answered (cut_half machine_cut own) (cut_half machine_cut other) (does (cut_half machine_cut own).state o))
        (same.header_bad NotKept)
        ∙ did_same (one.arrives own.state.station HeaderBad NotKept)
    noise_same read_as.DataBad =
        ap (λ (o : Result T StepRefusal). answered (cut_half machine_cut own) (cut_half machine_cut other) (does (cut_half machine_cut own).state o))
        (same.data_bad NotKept)
        ∙ did_same (one.arrives own.state.station DataBad NotKept)
    noise_same read = refl

    met_same : (front : ℕ) (p : Result T StepRefusal) (o : Result S StepRefusal) → p ≡ cut_result o →
        concluded (cut_half machine_cut own) (met (cut_half machine_cut own).state front p) ≡ cut_outcome machine_cut
        (concluded own (met own.state front o))
    met_same front p o e = ap (λ (x : Result T StepRefusal). concluded (cut_half machine_cut own) (met (cut_half machine_cut own).state front x)) e ∙
        go o
      where
        go : (o : Result S StepRefusal) →
            concluded (cut_half machine_cut own) (met (cut_half machine_cut own).state front (cut_result o)) ≡ cut_outcome machine_cut
            (concluded own (met own.state front o))
        go (Ok s) = refl
        go (Err refusal) = refl

    module _ (hint : ℕ) (fate : Fate) (unit : UnitOf K) (there : slice_get other.sent hint ≡ Some unit) (ahead : own.state.front ≤ hint) where
      damage_same : (r : ReadingValue) →
          concluded (cut_half machine_cut own) (comes two (cut_half machine_cut own).state (hint + 1) fate (damage r)) ≡ cut_outcome machine_cut
          (concluded own (comes one own.state (hint + 1) fate (damage r)))
      damage_same read_as.HeaderBad = met_same (hint + 1) _ _ (same.header_bad fate)
      damage_same read_as.DataBad = met_same (hint + 1) _ _ (same.data_bad fate)
      damage_same read = refl

      comes_same : (is : Bool) (r : ReadingValue) →
          concluded (cut_half machine_cut own)
          (comes two (cut_half machine_cut own).state (hint + 1) fate (coming_by is (unit_cut unit) r)) ≡ cut_outcome machine_cut
          (concluded own (comes one own.state (hint + 1) fate (coming_by is unit r)))
      comes_same true r = met_same (hint + 1) _ _ (same.sound hint unit fate there ahead)
      comes_same false r = damage_same r

    read_same : (hint : ℕ) (fate : Fate) (bytes : List ℕ) (o : Option (UnitOf K)) → slice_get other.sent hint ≡ o →
        read (cut_half machine_cut own) (receives two (cut_half machine_cut own).state hint fate bytes) (option_map unit_cut o) ≡ cut_outcome
        machine_cut (read own (receives one own.state hint fate bytes) o)
    read_same hint fate bytes None there = refl
    read_same hint fate bytes (Some unit) there = go (nat_lt hint own.state.front) refl
      where
        go : (b : Bool) → nat_lt hint own.state.front ≡ b →
            concluded (cut_half machine_cut own)
            (cond b (Err HintOrder) (comes two (cut_half machine_cut own).state (hint + 1) fate (coming (unit_cut unit) bytes))) ≡ cut_outcome
            machine_cut (concluded own (cond b (Err HintOrder) (comes one own.state (hint + 1) fate (coming unit bytes))))
        go true e = refl
        go false e = comes_same hint fate unit there (ltb-false hint own.state.front e) (bytes_eq bytes unit.bytes) (reading bytes)

    pub record_same : (r : Record) → advance (step two) (cut_half machine_cut own) (cut_half machine_cut other) r ≡ cut_outcome machine_cut
        (advance (step one) own other r)
    record_same (Sent bytes) = sent_same bytes (reading bytes)
    record_same (Received hint fate bytes) =
        ap (read (cut_half machine_cut own) (receives two (cut_half machine_cut own).state hint fate bytes)) (slice_get-map unit_cut other.sent hint)
        ∙ read_same hint fate bytes (slice_get other.sent hint) refl
    record_same (Noise bytes) = noise_same (reading bytes)
    record_same (User event) =
        ap (λ (o : Result T StepRefusal). answered (cut_half machine_cut own) (cut_half machine_cut other) (does (cut_half machine_cut own).state o))
        (same.user event) ∙ did_same (one.user own.state.station event)
