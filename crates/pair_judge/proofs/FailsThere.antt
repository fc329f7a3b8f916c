-- Where a record is refused, or waits, a check of the printed reason fails there.
use Rattle.std.proofs.Common.{◌≡◌, ◌≤◌, ◌<◌, ℕ, ◌+◌, ◌-◌, Bool, true, false, cond, nat_lt, Option, Some, None, List, [], ◌∷◌, Result, Ok, Err}
use Rattle.std.proofs.Common.{refl, sym, ap, ◌∙◌, subst, inl, inr, arith, option_map}
use Rattle.std.specs.List.{slice_get}
use Rattle.std.proofs.lemmas.Bool.{cases_lt, lt-ltb, le-ltb}
use Rattle.two_nodes.specs.Nodes.{Outcome, advance, answered, concluded}
use Rattle.two_nodes.specs.Nodes.Outcome.{Made, Waits, Refused}
use Rattle.two_nodes.specs.Nodes as any
use Rattle.capture_record.specs.declared.fate.Fate.{Fate}
use Rattle.capture_record.specs.declared.fate.Fate.TheVariants.{NotKept}
use Rattle.capture_record.specs.declared.record.Record.{Record}
use Rattle.capture_record.specs.declared.record.Record.TheVariants.{Sent, Received, Noise, User}
use Rattle.ddcmp_msg.specs.Message.{MessageValue}
use Rattle.ddcmp_msg.specs.Reading.{ReadingValue, reading, Sound}
use Rattle.dna_station.specs.Book.{ArrivalValue}
use Rattle.dna_station.specs.Line.{coming, damage}
use Rattle.dna_station.specs.Machine.{comes, does, met, noise_comes, receives, sends, sent_step}
use Rattle.dna_station.specs.declared.refusal.StepRefusal.{StepRefusal}
use Rattle.dna_station.specs.declared.refusal.StepRefusal.TheVariants.{HintOrder}
use Rattle.dna_links.specs.declared.queue.Queues.{Queues}
use Rattle.dna_node.specs.declared.finding.Cause.{Cause}
use Rattle.dna_node.specs.declared.finding.Cause.TheVariants.{Step, NoSuchUnit, NoOrder}
use Rattle.dna_node.specs.WireLayers.{LayersTag, WireLayers, WireLayersNode, WireLayersUnit}
use Rattle.pair_judge.specs.declared.end.End.{End}
use Rattle.pair_judge.specs.declared.failed_check.Awaited.{Awaited}
use Rattle.pair_judge.specs.declared.failed_check.FailedCheck.{FailedCheck}
use Rattle.pair_judge.specs.declared.failed_check.FailedCheck.TheVariants as failed
use Rattle.pair_judge.specs.declared.line.Line.{Line}
use Rattle.pair_judge.specs.declared.reason.Reason.{Reason}
use Rattle.pair_judge.specs.Ends.{ShownEnd}
use Rattle.pair_judge.specs.FailedCheck.{cause_in, cause_of, failed_coming, failed_noise, failed_receipt, failed_record, failed_sent}
use Rattle.pair_judge.specs.FailedIn.{IsFirstOf, IsOf, awaited, both_await, checks_by, failed_ahead, hint_of}
use Rattle.pair_judge.specs.Reason.{reason_of}
use Rattle.pair_judge.specs.inner.Lines.{Shows, held}
use Rattle.pair_judge.specs.inner.Making.{StandsFor}
use Rattle.pair_judge.specs.inner.Tops.{layers_run_by, links_on_top_by}
use Rattle.pair_judge.specs.inner.Wire.{JudgeHalf, judge_step}
use Rattle.pair_judge.proofs.FailedAsRefused.{arrival_same, message_same, user_same}
use Rattle.dna_links.proofs.Runs.Owners.{there_is}
use Rattle.pair_judge.proofs.Sent.{held_at}

abbrev caused : Option FailedCheck → Option Cause
caused check = option_map cause_of check

-- for what a record is refused
abbrev pub cause_there : Outcome WireLayersNode WireLayersUnit StepRefusal → Option Cause
cause_there (Made half) = None
cause_there Waits = None
cause_there (Refused refusal) = Some (Step refusal)

-- ---- a step of both layers

module _ (queues : Queues) (own other : JudgeHalf) where
  does_same : (o : Result WireLayers StepRefusal) → cause_there (answered own other (does {K = LayersTag} own.state o)) ≡ cause_in o
  does_same (Ok s) = refl
  does_same (Err refusal) = refl

  sends_same : (bytes : List ℕ) (m : MessageValue) (o : Result (WireLayers × LayersTag) StepRefusal) →
      cause_there (answered own other (sends own.state bytes m o)) ≡ cause_in o
  sends_same bytes m (Ok after) = refl
  sends_same bytes m (Err refusal) = refl

  met_same : (front : ℕ) (o : Result WireLayers StepRefusal) →
      cause_there (concluded {U = WireLayersUnit} own (met own.state front o)) ≡ cause_in o
  met_same front (Ok s) = refl
  met_same front (Err refusal) = refl

  sent_same : (bytes : List ℕ) (read : ReadingValue) →
      caused (failed_sent queues own.state.station read) ≡ cause_there (answered own other (sent_step (layers_run_by queues) own.state bytes read))
  sent_same bytes (Sound m) = message_same queues own.state.station m ∙ sym (sends_same bytes m ((layers_run_by queues).sends own.state.station m))
  sent_same bytes bad = refl

  noise_same : (o : Option (ArrivalValue LayersTag)) → caused (failed_noise own.state.station o) ≡
      cause_there (answered own other (does {K = LayersTag} own.state (noise_comes (layers_run_by queues) own.state.station o)))
  noise_same None = refl
  noise_same (Some arrival) =
      arrival_same queues own.state.station arrival NotKept ∙ sym (does_same ((layers_run_by queues).arrives own.state.station arrival NotKept))

  comes_same : (hint : ℕ) (fate : Fate) (came : Option (ArrivalValue LayersTag)) → caused (failed_coming own.state.station hint fate came) ≡
      cause_there (concluded {U = WireLayersUnit} own (comes (layers_run_by queues) own.state (hint + 1) fate came))
  comes_same hint fate None = refl
  comes_same hint fate (Some arrival) =
      arrival_same queues own.state.station arrival fate ∙ sym (met_same (hint + 1) ((layers_run_by queues).arrives own.state.station arrival fate))

  -- ---- a receipt

  receives_by : (hint : ℕ) (fate : Fate) (bytes : List ℕ) (unit : WireLayersUnit) (back : Bool) →
      caused (cond back (Some (failed.HintOrder hint own.state.front)) (failed_receipt own.state.station hint fate bytes (Some unit))) ≡
      cause_there (concluded {U = WireLayersUnit} own
      (cond back (Err HintOrder) (comes (layers_run_by queues) own.state (hint + 1) fate (coming unit bytes))))
  receives_by hint fate bytes unit true = refl
  receives_by hint fate bytes unit false = comes_same hint fate (coming unit bytes)

  module _ (units : List WireLayersUnit) (hint : ℕ) (fate : Fate) (bytes : List ℕ) where
    abbrev at_front : Bool → Option WireLayersUnit → Option FailedCheck
    at_front back found = cond back (Some (failed.HintOrder hint own.state.front)) (failed_receipt own.state.station hint fate bytes found)

    receipt_by : (o : Option WireLayersUnit) → (own.state.front ≤ hint → slice_get units (hint - own.state.front) ≡ o) →
        (hint < own.state.front → o ≡ None → ⊥) →
        caused (failed_record queues own.state.station own.state.front units (Received hint fate bytes)) ≡
        cause_there (any.read own (receives (layers_run_by queues) own.state hint fate bytes) o)
    receipt_by None there sent = elim (cases_lt hint own.state.front) [
      | inl below ↦ absurd (sent below refl)
      | inr at_least ↦
          ap (λ (back : Bool). caused (at_front back (slice_get units (hint - own.state.front)))) (le-ltb hint own.state.front at_least)
          ∙ ap (λ (found : Option WireLayersUnit). caused (failed_receipt own.state.station hint fate bytes found)) (there at_least)
    ]
    receipt_by (Some unit) there sent = elim (cases_lt hint own.state.front) [
      | inl below ↦
          ap (λ (back : Bool). caused (at_front back (slice_get units (hint - own.state.front)))) (lt-ltb hint own.state.front below)
          ∙ sym (ap (λ (back : Bool). cause_there (concluded {U = WireLayersUnit} own (cond back (Err HintOrder)
          (comes (layers_run_by queues) own.state (hint + 1) fate (coming unit bytes))))) (lt-ltb hint own.state.front below))
      | inr at_least ↦
          ap (λ (found : Option WireLayersUnit). caused (at_front (nat_lt hint own.state.front) found)) (there at_least)
          ∙ receives_by hint fate bytes unit (nat_lt hint own.state.front)
    ]

-- ---- a record at an end

module _ (queues : Queues) (own : End) (incoming : Line) (mine theirs : JudgeHalf) (stands : StandsFor own incoming mine)
    (shows : Shows incoming theirs.sent) where
  at_state : (r : Record) → caused (failed_record queues mine.state.station mine.state.front (held incoming) r) ≡
      cause_there (advance (judge_step (links_on_top_by queues)) mine theirs r)
  at_state (Sent bytes) = sent_same queues mine theirs bytes (reading bytes)
  at_state (Noise bytes) = noise_same queues mine theirs (damage (reading bytes))
  at_state (User event) =
      user_same queues mine.state.station event ∙ sym (does_same queues mine theirs ((layers_run_by queues).user mine.state.station event))
  at_state (Received hint fate bytes) =
      receipt_by queues mine theirs (held incoming) hint fate bytes (slice_get theirs.sent hint)
      (λ at_least.
      ap (λ (front : ℕ). slice_get (held incoming) (hint - front)) stands.front
      ∙ held_at incoming theirs.sent hint shows (subst (λ (front : ℕ). front ≤ hint) stands.front at_least))
      (λ below none.
      let within = shows.within in
      let front = stands.front in
      let item = there_is theirs.sent hint (omega arith) in
      absurd (cc))

  pub fails_same : (r : Record) → caused (failed_record queues own.layers incoming.gone (held incoming) r) ≡
      cause_there (advance (judge_step (links_on_top_by queues)) mine theirs r)
  fails_same r =
      ap (λ (layers : WireLayers). caused (failed_record queues layers incoming.gone (held incoming) r)) (sym stands.layers)
      ∙ ap (λ (front : ℕ). caused (failed_record queues mine.state.station front (held incoming) r)) (sym stands.front)
      ∙ at_state r

-- ---- a record that waits is a receipt

does_not_wait : (own other : JudgeHalf) (o : Result WireLayers StepRefusal) → answered own other (does {K = LayersTag} own.state o) ≡ Waits → ⊥
does_not_wait own other (Ok s) waits = absurd (cc)
does_not_wait own other (Err refusal) waits = absurd (cc)

sends_no_wait : (own other : JudgeHalf) (bytes : List ℕ) (m : MessageValue) (o : Result (WireLayers × LayersTag) StepRefusal) →
    answered own other (sends own.state bytes m o) ≡ Waits → ⊥
sends_no_wait own other bytes m (Ok after) waits = absurd (cc)
sends_no_wait own other bytes m (Err refusal) waits = absurd (cc)

sent_not_waits : (queues : Queues) (own other : JudgeHalf) (bytes : List ℕ) (read : ReadingValue) →
    answered own other (sent_step (layers_run_by queues) own.state bytes read) ≡ Waits → ⊥
sent_not_waits queues own other bytes (Sound m) waits = sends_no_wait own other bytes m ((layers_run_by queues).sends own.state.station m) waits
sent_not_waits queues own other bytes bad waits = absurd (cc)

pub waits_by_hint : (queues : Queues) (own other : JudgeHalf) (r : Record) → advance (judge_step (links_on_top_by queues)) own other r ≡ Waits →
    (hint : ℕ) × (hint_of (Some r) ≡ Some hint)
waits_by_hint queues own other (Received hint fate bytes) waits = (hint, refl)
waits_by_hint queues own other (Sent bytes) waits = absurd (sent_not_waits queues own other bytes (reading bytes) waits)
waits_by_hint queues own other (Noise bytes) waits =
    absurd (does_not_wait own other (noise_comes (layers_run_by queues) own.state.station (damage (reading bytes))) waits)
waits_by_hint queues own other (User event) waits = absurd (does_not_wait own other ((layers_run_by queues).user own.state.station event) waits)

-- ---- so one is named

module _ (reason : Reason) where
  named_at : (check : Option FailedCheck) (checks : List (Option FailedCheck)) → IsOf reason check → ¬ IsFirstOf reason (check ∷ checks) None
  named_at (Some check) checks is (inl first) = absurd (cc)
  named_at (Some check) checks is (inr later) = later.0 is
  named_at None checks is none = is

  none_of : (check : Option FailedCheck) → None ≡ check → IsOf reason check → ⊥
  none_of None same is = is
  none_of (Some check) same is = absurd (cc)

  named_behind : (check : Option FailedCheck) (checks : List (Option FailedCheck)) → ¬ IsFirstOf reason checks None →
      ¬ IsFirstOf reason (check ∷ checks) None
  named_behind check checks named (inl first) = none_of check first.1 first.0
  named_behind check checks named (inr later) = named later.1

of_cause : (check : Option FailedCheck) (cause : Cause) → caused check ≡ Some cause → IsOf (reason_of cause) check
of_cause (Some check) cause same = let e : cause_of check ≡ cause = cc in ap reason_of e
of_cause None cause same = absurd (cc)

awaits : (own other : ShownEnd) (hint : ℕ) → hint_of own.ahead ≡ Some hint → awaited own other ≡ Some (record { hint = hint; sent = other.sent })
awaits own other hint is = ap (λ (found : Option ℕ). option_map (λ (h : ℕ). record { hint = h; sent = other.sent }) found) is

module _ (queues : Queues) (own other : ShownEnd) (units : List WireLayersUnit) where
  abbrev first : Option FailedCheck
  first = failed_ahead queues own units own.ahead

  abbrev unit : Option FailedCheck
  unit = option_map failed.NoSuchUnit (awaited own other)

  abbrev order : Option FailedCheck
  order = both_await (awaited own other) (awaited other own)

  pub step_named : (r : Record) (refusal : StepRefusal) → own.ahead ≡ Some r →
      caused (failed_record queues own.layers own.front units r) ≡ Some (Step refusal)
      → ¬ IsFirstOf (reason_of (Step refusal)) (checks_by queues own other units) None
  step_named r refusal ahead same =
      named_at (reason_of (Step refusal)) first (unit ∷ order ∷ [])
      (of_cause first (Step refusal) (ap (λ (o : Option Record). caused (failed_ahead queues own units o)) ahead ∙ same))

  pub unit_named : (hint : ℕ) → hint_of own.ahead ≡ Some hint → ¬ IsFirstOf (reason_of NoSuchUnit) (checks_by queues own other units) None
  unit_named hint is =
      named_behind (reason_of NoSuchUnit) first (unit ∷ order ∷ [])
      (named_at (reason_of NoSuchUnit) unit (order ∷ []) (of_cause unit NoSuchUnit
      (ap (λ (found : Option Awaited). caused (option_map failed.NoSuchUnit found)) (awaits own other hint is))))

  pub order_named : (hint far : ℕ) → hint_of own.ahead ≡ Some hint → hint_of other.ahead ≡ Some far →
      ¬ IsFirstOf (reason_of NoOrder) (checks_by queues own other units) None
  order_named hint far is is_far =
      named_behind (reason_of NoOrder) first (unit ∷ order ∷ [])
      (named_behind (reason_of NoOrder) unit (order ∷ [])
      (named_at (reason_of NoOrder) order [] (of_cause order NoOrder
      (ap (λ (found : Option Awaited). caused (both_await found (awaited other own))) (awaits own other hint is)
      ∙ ap (λ (found : Option Awaited). caused (both_await (Some (record { hint = hint; sent = other.sent })) found))
      (awaits other own far is_far)))))
