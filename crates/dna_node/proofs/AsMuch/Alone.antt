-- One end alone makes with queues each record that it makes without.
use Rattle.std.proofs.Common.{◌≡◌, ℕ, ◌+◌, Bool, true, false, cond, nat_lt, Option, Some, None, List, [], ◌∷◌, Result, Ok, Err, refl, sym, ap}
use Rattle.std.proofs.Common.{◌∙◌, subst}
use Rattle.ddcmp_msg.specs.Message.{MessageValue}
use Rattle.ddcmp_msg.specs.Reading.{ReadingValue, reading, Malformed}
use Rattle.ddcmp_msg.specs.Reading as read_as
use Rattle.capture_record.specs.declared.fate.Fate.{Fate}
use Rattle.capture_record.specs.declared.fate.Fate.TheVariants.{NotKept}
use Rattle.capture_record.specs.Fates.{is_met}
use Rattle.capture_record.specs.declared.record.Record.{Record}
use Rattle.capture_record.specs.declared.record.Record.TheVariants.{Sent, Received, Noise, User}
use Rattle.dna_station.specs.declared.head.Head.{Head}
use Rattle.dna_station.specs.declared.refusal.StepRefusal.{StepRefusal}
use Rattle.dna_station.specs.declared.refusal.StepRefusal.TheVariants.{HintOrder}
use Rattle.dna_station.specs.Book.{ArrivalValue, Sound, HeaderBad, DataBad}
use Rattle.dna_station.specs.Line.{damage}
use Rattle.dna_station.specs.Machine.{Machine, NodeOf, noise_comes}
use Rattle.dna_links.specs.declared.queue.Queues.TheVariants.{With}
use Rattle.dna_node.specs.TagRules.{by_bytes_with}
use Rattle.dna_node.specs.WireLayers.{new_wire_layers_node, wire_layers_machine}
use Rattle.dna_node.specs.Alone.{EndOf, StepAlone, Makes, Refuses, ThisEnd, does, sends, meets, unless_wrong, then_unless_wrong, if_met, sent_alone}
use Rattle.dna_node.specs.Alone.{sound_comes, comes_alone, step_alone, EndingAlone, Passed, Refused, goes_on, ends_from, layers_end, Passes, PassesBy}
use Rattle.dna_node.proofs.AsMuch.Nodes.{IsDone, IsSent, DoesAsMuch, node_with}
use Rattle.dna_node.proofs.AsMuch.WireLayers.{Stands, unit_same, taken_same, wire_layers_do_as_much}

module _ {S K : Type 0} (one : EndOf S K) (machine : Machine S K) (Beside : S → S → Type 0) (as_much : DoesAsMuch one.machine machine Beside)
    (unit_same : (s t : S) → Beside s t → (m : MessageValue) → one.wrong_unit t m ≡ one.wrong_unit s m)
    (taken_same : (s t : S) → Beside s t → (m : MessageValue) → one.wrong_taken t m ≡ one.wrong_taken s m) where
  -- the same end over the other machine
  abbrev more : EndOf S K
  more = record one { machine = machine }

  -- this node is left, but for its station
  record LeftWith (n : NodeOf S) (x : StepAlone S) : Type 0 where
    left : S
    is : x ≡ Makes (node_with n left)
    beside : Beside n.station left

  abbrev IsMade : StepAlone S → StepAlone S → Type 0
  IsMade (Makes n) x = LeftWith n x
  IsMade (Refuses accused reason) x = Unit {0}

  unless_made : (wrong : Option StepRefusal) (x y : StepAlone S) → IsMade x y → IsMade (unless_wrong wrong x) (unless_wrong wrong y)
  unless_made None x y made = made
  unless_made (Some reason) x y made = tt

  then_made : (wrong : Option StepRefusal) (x y : StepAlone S) → IsMade x y → IsMade (then_unless_wrong wrong x) (then_unless_wrong wrong y)
  then_made None (Makes n) y made = record { left = made.left; is = ap (then_unless_wrong None) made.is; beside = made.beside }
  then_made (Some reason) (Makes n) y made = tt
  then_made wrong (Refuses accused reason) y made = tt

  module _ (n : NodeOf S) (t : S) (beside : Beside n.station t) where
    abbrev n' : NodeOf S
    n' = node_with n t

    does_made : (o o' : Result S StepRefusal) → IsDone Beside o o' → IsMade (does n o) (does n' o')
    does_made (Ok s) o' done = record { left = done.left; is = ap (does n') done.is; beside = done.beside }
    does_made (Err refusal) o' done = tt

    sends_made : (o o' : Result (S × K) StepRefusal) → IsSent Beside o o' → IsMade (sends n o) (sends n' o')
    sends_made (Ok after) o' done =
        record { left = done.left; is = ap (λ (x : Result (S × K) StepRefusal). sends n' x) done.is; beside = done.beside }
    sends_made (Err refusal) o' done = tt

    meets_made : (front : ℕ) (o o' : Result S StepRefusal) → IsDone Beside o o' → IsMade (meets n front o) (meets n' front o')
    meets_made front (Ok s) o' done = record { left = done.left; is = ap (meets n' front) done.is; beside = done.beside }
    meets_made front (Err refusal) o' done = tt

    sent_made : (r : ReadingValue) → IsMade (sent_alone one n r) (sent_alone more n' r)
    sent_made (read_as.Sound m) = sends_made (one.machine.sends n.station m) (machine.sends t m) (as_much.sends n.station t beside m)
    sent_made bad = tt

    noise_made : (arrival : Option (ArrivalValue K)) →
        IsMade (does n (noise_comes one.machine n.station arrival)) (does n' (noise_comes machine t arrival))
    noise_made None = tt
    noise_made (Some arrival) =
        does_made (one.machine.arrives n.station arrival NotKept) (machine.arrives t arrival NotKept)
        (as_much.arrives n.station t beside arrival NotKept)

    -- ---- a receipt

    module _ (front : ℕ) (fate : Fate) where
      arrives_made : (arrival : ArrivalValue K) →
          IsMade (meets n front (one.machine.arrives n.station arrival fate)) (meets n' front (machine.arrives t arrival fate))
      arrives_made arrival =
          meets_made front (one.machine.arrives n.station arrival fate) (machine.arrives t arrival fate)
          (as_much.arrives n.station t beside arrival fate)

      abbrev asked : (unit taken : Option StepRefusal) → StepAlone S → StepAlone S
      asked unit taken x = unless_wrong unit (then_unless_wrong (if_met (is_met fate) taken) x)

      sound_made : (m : MessageValue) → IsMade (sound_comes one n front fate m) (sound_comes more n' front fate m)
      sound_made m =
          subst (λ (x : Option StepRefusal). IsMade (sound_comes one n front fate m)
          (asked x (one.wrong_taken t m) (meets n' front (machine.arrives t (Sound m one.unknown) fate)))) (sym (unit_same n.station t beside m))
          (subst (λ (x : Option StepRefusal). IsMade (sound_comes one n front fate m)
          (asked (one.wrong_unit n.station m) x (meets n' front (machine.arrives t (Sound m one.unknown) fate))))
          (sym (taken_same n.station t beside m))
          (unless_made (one.wrong_unit n.station m) _ _
          (then_made (if_met (is_met fate) (one.wrong_taken n.station m)) _ _ (arrives_made (Sound m one.unknown)))))

      comes_made : (r : ReadingValue) → IsMade (comes_alone one n front fate r) (comes_alone more n' front fate r)
      comes_made (read_as.Sound m) = sound_made m
      comes_made read_as.HeaderBad = arrives_made HeaderBad
      comes_made read_as.DataBad = arrives_made DataBad
      comes_made (Malformed departure) = tt

    received_made : (hint : ℕ) (fate : Fate) (r : ReadingValue) (early : Bool) →
        IsMade (cond early (Refuses ThisEnd HintOrder) (comes_alone one n (hint + 1) fate r))
        (cond early (Refuses ThisEnd HintOrder) (comes_alone more n' (hint + 1) fate r))
    received_made hint fate r true = tt
    received_made hint fate r false = comes_made (hint + 1) fate r

    step_made : (r : Record) → IsMade (step_alone one n r) (step_alone more n' r)
    step_made (Sent bytes) = sent_made (reading bytes)
    step_made (Received hint fate bytes) = received_made hint fate (reading bytes) (nat_lt hint n.front)
    step_made (Noise bytes) = noise_made (damage (reading bytes))
    step_made (User event) =
        does_made (one.machine.user n.station event) (machine.user t event) (as_much.user n.station t beside event)

  -- ---- all records

  pub record EndsWith (end : NodeOf S) (e : EndingAlone S) : Type 0 where
    pub left : S
    pub is : e ≡ Passed (node_with end left)

  goes_made : (x y : StepAlone S) (place : ℕ) (end : NodeOf S) (later later' : NodeOf S → EndingAlone S) → IsMade x y →
      ((n : NodeOf S) (t : S) → Beside n.station t → later n ≡ Passed end → EndsWith end (later' (node_with n t))) →
      goes_on x place later ≡ Passed end → EndsWith end (goes_on y place later')
  goes_made (Makes n) y place end later later' made rest e =
      let r = rest n made.left made.beside e in
      record { left = r.left; is = ap (λ (x : StepAlone S). goes_on x place later') made.is ∙ r.is }
  goes_made (Refuses accused reason) y place end later later' made rest e = absurd cc

  same_end : (n end : NodeOf S) → (let x : EndingAlone S = Passed n in x ≡ Passed end) → n ≡ end
  same_end n end e = ap (λ (x : EndingAlone S). node_or x) e
    where
      node_or : EndingAlone S → NodeOf S
      node_or (Passed m) = m
      node_or (Refused place accused reason) = n

  pub ends_with : (records : List Record) (n : NodeOf S) (t : S) (place : ℕ) (end : NodeOf S) → Beside n.station t →
      ends_from one n place records ≡ Passed end → EndsWith end (ends_from more (node_with n t) place records)
  ends_with [] n t place end beside e =
      record { left = t; is = ap (λ (x : NodeOf S). Passed (node_with x t)) (same_end n end e) }
  ends_with (r ∷ records) n t place end beside e =
      goes_made (step_alone one n r) (step_alone more (node_with n t) r) place end (λ next. ends_from one next (place + 1) records)
      (λ next. ends_from more next (place + 1) records) (step_made n t beside r)
      (λ next u beside e. ends_with records next u (place + 1) end beside e) e

-- ---- the end over both layers

pub passes_with_queues : (head : Head) (records : List Record) → Passes head records → PassesBy With head records
passes_with_queues head records passes =
    let first = new_wire_layers_node head in
    let r = ends_with layers_end (wire_layers_machine (by_bytes_with With)) Stands wire_layers_do_as_much unit_same taken_same records first
    first.station 0 passes.0 (record { same = refl; fits = λ i l at. absurd cc }) passes.1 in
    (node_with passes.0 r.left, r.is)
