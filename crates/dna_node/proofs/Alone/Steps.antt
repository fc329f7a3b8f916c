-- Where the other end's units are right, the end alone makes of a record what its node makes in the pair, but for what only the rules on periods and
-- partners, and the unit that was sent, refuse.
use Rattle.std.proofs.Common.{◌≡◌, ℕ, ◌+◌, ◌≤◌, Bool, true, false, cond, nat_lt, Option, Some, None, Result, Ok, Err, List, refl, sym, ap}
use Rattle.std.proofs.Common.{◌∙◌, subst}
use Rattle.std.specs.Prelude.{slice_get, bytes_eq}
use Rattle.std.proofs.lemmas.Bool.{ltb-false}
use Rattle.std.proofs.lemmas.Slice.Eq.{bytes_eq-Decides}
use Rattle.two_nodes.specs.Nodes.{Half, Outcome, answered, concluded, read, advance}
use Rattle.two_nodes.specs.Nodes.Outcome.{Made, Waits, Refused}
use Rattle.ddcmp_msg.specs.Message.{MessageValue}
use Rattle.ddcmp_msg.specs.Reading.{ReadingValue, reading, Malformed}
use Rattle.ddcmp_msg.specs.Reading as read_as
use Rattle.capture_record.specs.declared.fate.Fate.{Fate}
use Rattle.capture_record.specs.declared.fate.Fate.TheVariants.{NotKept, Kept, Dropped}
use Rattle.capture_record.specs.Fates.{is_met}
use Rattle.capture_record.specs.declared.record.Record.{Record}
use Rattle.capture_record.specs.declared.record.Record.TheVariants.{Sent, Received, Noise, User}
use Rattle.capture_record.specs.declared.event.Event.{Event}
use Rattle.dna_station.specs.declared.refusal.StepRefusal.{StepRefusal}
use Rattle.dna_station.specs.declared.refusal.StepRefusal.TheVariants.{HintOrder}
use Rattle.dna_station.specs.Book.{Sound, HeaderBad, DataBad}
use Rattle.dna_station.specs.Line.{UnitOf, damage, coming_by}
use Rattle.dna_station.specs.Machine.{Machine, NodeOf, does, sends, met, comes, receives, sent_step, noise_step, noise_comes, step}
use Rattle.dna_node.specs.Alone.{EndOf, StepAlone, Makes, Refuses, accused_of, unless_wrong, then_unless_wrong, if_met, sent_alone, comes_alone}
use Rattle.dna_node.specs.Alone.{receives_alone, step_alone, is_seen_alone}
use Rattle.dna_node.specs.Alone as end
use Rattle.dna_node.proofs.Alone.Along.{forget_result, forget_node, Along, left_sent, GoesAlong}

module _ {S K : Type 0} {judge : Machine S K} {one : EndOf S K} {forget : S → S} (along : GoesAlong judge one forget) where
  -- a unit of a right end, beside this node
  pub record IsRight (n : NodeOf S) (unit : UnitOf K) : Type 0 where
    pub spelled : reading unit.bytes ≡ read_as.Sound unit.message
    pub sent : along.meets n.station unit.message unit.known ≡ true → one.wrong_unit n.station unit.message ≡ None
    pub taken : (t : S) → judge.arrives n.station (Sound unit.message unit.known) Kept ≡ Ok t → one.wrong_taken n.station unit.message ≡ None

  -- ---- a record

  -- what becomes of it at the node of the pair, and at the end alone
  abbrev pub Agrees : Record → Outcome (NodeOf S) (UnitOf K) StepRefusal → StepAlone S → Type 0
  Agrees r (Made half) left = left ≡ Makes (forget_node forget half.state)
  Agrees r (Refused reason) left = is_seen_alone reason ≡ true → left ≡ Refuses (accused_of r reason) reason
  Agrees r Waits left = Unit {0}

  sends_left : (n : NodeOf S) (o : Result (S × K) StepRefusal) → end.does n (left_sent o) ≡ end.sends n o
  sends_left n (Ok after) = refl
  sends_left n (Err refusal) = refl

  module _ (own other : Half (NodeOf S) (UnitOf K)) where
    abbrev n : NodeOf S
    n = own.state

    abbrev v : NodeOf S
    v = forget_node forget own.state

    -- ---- what names no unit

    user_agrees : (event : Event) (o : Result S StepRefusal) →
        Agrees (User event) (answered own other (does n o)) (end.does v (forget_result forget o))
    user_agrees event (Ok s) = refl
    user_agrees event (Err refusal) = λ seen. refl

    sends_agree : (bytes : List ℕ) (m : MessageValue) (o : Result (S × K) StepRefusal) →
        Agrees (Sent bytes) (answered own other (sends n bytes m o)) (end.does v (forget_result forget (left_sent o)))
    sends_agree bytes m (Ok after) = refl
    sends_agree bytes m (Err refusal) = λ seen. refl

    sent_agrees : (bytes : List ℕ) (r : ReadingValue) →
        Agrees (Sent bytes) (answered own other (sent_step judge n bytes r)) (sent_alone one v r)
    sent_agrees bytes (read_as.Sound m) =
        subst (Agrees (Sent bytes) (answered own other (sends n bytes m (judge.sends n.station m))))
        (ap (end.does v) (sym (along.sends n.station m)) ∙ sends_left v (one.machine.sends v.station m))
        (sends_agree bytes m (judge.sends n.station m))
    sent_agrees bytes other = λ seen. refl

    noise_by : (bytes : List ℕ) (o : Result S StepRefusal) →
        Agrees (Noise bytes) (answered own other (does n o)) (end.does v (forget_result forget o))
    noise_by bytes (Ok s) = refl
    noise_by bytes (Err refusal) = λ seen. refl

    noise_agrees : (bytes : List ℕ) (r : ReadingValue) →
        Agrees (Noise bytes) (answered own other (noise_step judge n r)) (end.does v (noise_comes one.machine v.station (damage r)))
    noise_agrees bytes read_as.HeaderBad =
        subst (λ (o : Result S StepRefusal). Agrees (Noise bytes) (answered own other (does n (judge.arrives n.station HeaderBad NotKept)))
        (end.does v o))
        (sym (along.header_bad n.station NotKept)) (noise_by bytes (judge.arrives n.station HeaderBad NotKept))
    noise_agrees bytes read_as.DataBad =
        subst (λ (o : Result S StepRefusal). Agrees (Noise bytes) (answered own other (does n (judge.arrives n.station DataBad NotKept)))
        (end.does v o))
        (sym (along.data_bad n.station NotKept)) (noise_by bytes (judge.arrives n.station DataBad NotKept))
    noise_agrees bytes (read_as.Sound m) = λ seen. refl
    noise_agrees bytes (Malformed departure) = λ seen. refl

    -- ---- a receipt

    met_is_kept : (fate : Fate) → is_met fate ≡ true → fate ≡ Kept
    met_is_kept Kept e = refl
    met_is_kept Dropped e = absurd cc
    met_is_kept NotKept e = absurd cc

    module _ (hint : ℕ) (fate : Fate) (bytes : List ℕ) where
      abbrev AgreesHere : Result S StepRefusal → StepAlone S → Type 0
      AgreesHere o left = Agrees (Received hint fate bytes) (concluded own (met n (hint + 1) o)) left

      damage_agrees : (o : Result S StepRefusal) → AgreesHere o (end.meets v (hint + 1) (forget_result forget o))
      damage_agrees (Ok s) = refl
      damage_agrees (Err refusal) = λ seen. refl

      -- what is taken is not wrong
      not_wrong : (k : Bool) (wrong : Option StepRefusal) → (k ≡ true → wrong ≡ None) → if_met k wrong ≡ None
      not_wrong true wrong none = none refl
      not_wrong false wrong none = refl

      by_outcome : (o o' : Result S StepRefusal) (wrong : Option StepRefusal) →
          ((t : S) → o ≡ Ok t → is_met fate ≡ true → wrong ≡ None) → Along forget o o' →
          AgreesHere o (then_unless_wrong (if_met (is_met fate) wrong) (end.meets v (hint + 1) o'))
      by_outcome (Ok t) o' wrong none same =
          ap (λ (x : Result S StepRefusal). then_unless_wrong (if_met (is_met fate) wrong) (end.meets v (hint + 1) x)) same
          ∙ ap (λ (x : Option StepRefusal). unless_wrong x (Makes (forget_node forget (record n { station = t; front = hint + 1 }))))
          (not_wrong (is_met fate) wrong (none t refl))
      by_outcome (Err refusal) o' wrong none same =
          λ seen. ap (λ (x : Result S StepRefusal). then_unless_wrong (if_met (is_met fate) wrong) (end.meets v (hint + 1) x)) (same seen)

      module _ (unit : UnitOf K) (right : IsRight n unit) where
        abbrev arrived : Fate → Result S StepRefusal
        arrived k = judge.arrives n.station (Sound unit.message unit.known) k

        -- by whether the rule on periods lets it pass
        met_agrees : (b : Bool) → along.meets n.station unit.message unit.known ≡ b →
            AgreesHere (arrived fate) (comes_alone one v (hint + 1) fate (read_as.Sound unit.message))
        met_agrees true e =
            subst (λ (x : Option StepRefusal). AgreesHere (arrived fate) (unless_wrong x
            (then_unless_wrong (if_met (is_met fate) (one.wrong_taken v.station unit.message))
            (end.meets v (hint + 1) (one.machine.arrives v.station (Sound unit.message one.unknown) fate)))))
            (sym (along.wrong_unit n.station unit.message ∙ right.sent e))
            (by_outcome (arrived fate) (one.machine.arrives v.station (Sound unit.message one.unknown) fate)
            (one.wrong_taken v.station unit.message)
            (λ t made k. along.wrong_taken n.station unit.message ∙ right.taken t (ap arrived (sym (met_is_kept fate k)) ∙ made))
            (along.sound n.station unit.message unit.known fate))
        met_agrees false e =
            subst (λ (o : Result S StepRefusal). AgreesHere o (comes_alone one v (hint + 1) fate (read_as.Sound unit.message)))
            (sym (along.crossed n.station unit.message unit.known fate e)) (λ seen. absurd cc)

        unit_agrees : (b : Bool) → bytes_eq bytes unit.bytes ≡ b → (r : ReadingValue) → reading bytes ≡ r →
            Agrees (Received hint fate bytes) (concluded own (comes judge n (hint + 1) fate (coming_by b unit r)))
            (comes_alone one v (hint + 1) fate r)
        unit_agrees true e r reads =
            subst (λ (x : ReadingValue). AgreesHere (arrived fate) (comes_alone one v (hint + 1) fate x))
            (sym right.spelled ∙ ap reading (sym ((bytes_eq-Decides bytes unit.bytes).0 e)) ∙ reads)
            (met_agrees (along.meets n.station unit.message unit.known) refl)
        unit_agrees false e read_as.HeaderBad reads =
            subst (λ (o : Result S StepRefusal). AgreesHere (judge.arrives n.station HeaderBad fate) (end.meets v (hint + 1) o))
            (sym (along.header_bad n.station fate)) (damage_agrees (judge.arrives n.station HeaderBad fate))
        unit_agrees false e read_as.DataBad reads =
            subst (λ (o : Result S StepRefusal). AgreesHere (judge.arrives n.station DataBad fate) (end.meets v (hint + 1) o))
            (sym (along.data_bad n.station fate)) (damage_agrees (judge.arrives n.station DataBad fate))
        unit_agrees false e (read_as.Sound m) reads = λ seen. absurd cc
        unit_agrees false e (Malformed departure) reads = λ seen. absurd cc

      module _ (right : (unit : UnitOf K) → slice_get other.sent hint ≡ Some unit → n.front ≤ hint → IsRight n unit) where
        hint_agrees : (unit : UnitOf K) → slice_get other.sent hint ≡ Some unit → (b : Bool) → nat_lt hint n.front ≡ b →
            Agrees (Received hint fate bytes)
            (concluded own (cond b (Err HintOrder) (comes judge n (hint + 1) fate (coming_by (bytes_eq bytes unit.bytes) unit (reading bytes)))))
            (cond b (Refuses end.ThisEnd HintOrder) (comes_alone one v (hint + 1) fate (reading bytes)))
        hint_agrees unit there true e = λ seen. refl
        hint_agrees unit there false e =
            unit_agrees unit (right unit there (ltb-false hint n.front e)) (bytes_eq bytes unit.bytes) refl (reading bytes) refl

        received_agrees : (o : Option (UnitOf K)) → slice_get other.sent hint ≡ o →
            Agrees (Received hint fate bytes) (read own (receives judge n hint fate bytes) o)
            (receives_alone one v hint fate (reading bytes))
        received_agrees None there = tt
        received_agrees (Some unit) there = hint_agrees unit there (nat_lt hint n.front) refl

    pub agrees : ((hint : ℕ) (unit : UnitOf K) → slice_get other.sent hint ≡ Some unit → n.front ≤ hint → IsRight n unit) → (r : Record) →
        Agrees r (advance (step judge) own other r) (step_alone one v r)
    agrees right (Sent bytes) = sent_agrees bytes (reading bytes)
    agrees right (Received hint fate bytes) = received_agrees hint fate bytes (right hint) (slice_get other.sent hint) refl
    agrees right (Noise bytes) = noise_agrees bytes (reading bytes)
    agrees right (User event) =
        subst (λ (o : Result S StepRefusal). Agrees (User event) (answered own other (does n (judge.user n.station event))) (end.does v o))
        (sym (along.user n.station event)) (user_agrees event (judge.user n.station event))
