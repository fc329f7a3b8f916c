-- Two captures have one finding.
use Rattle.std.proofs.Common.{◌≡◌, ◌<◌, ◌≤◌, ℕ, List, length, take, refl, sym, ap, ap₂, subst, ◌∙◌, inl, inr, arith, take_all, le_refl}
use Rattle.std.proofs.lemmas.Bool.{cases_lt}
use Rattle.std.specs.Prelude.{slice_get}
use Rattle.std.proofs.lemmas.Option.{slice_get_within}
use Rattle.two_nodes.specs.Nodes.{Outcome, World, Run, IsRun, advance}
use Rattle.two_nodes.specs.Nodes.Outcome.{Refused}
use Rattle.two_nodes.specs.Past.{sent_by, Offends}
use Rattle.two_nodes.specs.Endings.{NamesBeyond, LacksUnit, IsStuck}
use Rattle.two_nodes.proofs.Closed.{exchange_run}
use Rattle.two_nodes.proofs.Order.{one_end}
use Rattle.wire_base.specs.declared.side.Side.{Side}
use Rattle.wire_base.specs.declared.side.Side.TheVariants.{A, B}
use Rattle.capture_record.specs.declared.record.Record.{Record}
use Rattle.dna_station.specs.declared.head.Head.{Head}
use Rattle.dna_node.specs.declared.finding.Cause.{Cause}
use Rattle.dna_node.specs.declared.finding.Cause.TheVariants.{Step, NoSuchUnit, NoOrder}
use Rattle.dna_node.specs.declared.finding.Finding.{Finding}
use Rattle.dna_node.specs.declared.finding.Finding.TheVariants as findings
use Rattle.dna_station.specs.declared.refusal.StepRefusal.{StepRefusal}
use Rattle.dna_node.specs.Kind.{NodeKind, KindNode, KindUnit, first_node, kind_pair, kind_start, IsRunOf}
use Rattle.dna_station.specs.inner.Tells.{machine_tells}
use Rattle.dna_node.specs.Verdict.{IsWrong, IsWrongOfB}
use Rattle.pair_judge.specs.Finding.{IsFinding, IsFirst}
use Rattle.pair_judge.proofs.Halting.{Reaches, more_sent, all_sent, not_past_missing, not_past_offender, not_past_stuck, named_is_sent}

module _ (kind : NodeKind) where
  -- ---- one side's own record, and the other side

  -- `own` first; exchanged, the same of the other side
  module _ (head_own head_other : Head) (own other : List Record) where
    abbrev pub Gets : ℕ → ℕ → Type 0
    Gets i j = Reaches (kind_pair kind) (machine_tells kind.machine) (first_node kind head_own) (first_node kind head_other) own other i j

    abbrev Offending : ℕ → StepRefusal → Type 0
    Offending n refusal = Offends (kind_pair kind) (kind_start kind head_own head_other) own other n refusal

    abbrev Lacking : ℕ → Type 0
    Lacking n = LacksUnit (kind_pair kind) (kind_start kind head_own head_other) own other n

    abbrev Stuck : ℕ → ℕ → Type 0
    Stuck n j = IsStuck (kind_pair kind) (kind_start kind head_own head_other) own other n j

    abbrev Wrong : ℕ → Cause → Type 0
    Wrong n cause = IsWrong kind (kind_start kind head_own head_other) own other n cause

    -- all records of the other side
    pub gets_all : (n : ℕ) → IsRun (kind_pair kind) (kind_start kind head_own head_other) (take n own) other → Gets n (length other)
    gets_all n run = subst (λ (l : List Record). IsRun (kind_pair kind) (kind_start kind head_own head_other) (take n own) l)
        (sym (take_all (length other) other (le_refl (length other)))) run

    pub offending_past : (n : ℕ) (refusal : StepRefusal) → Offending n refusal → (i j : ℕ) → i ≤ length own → j ≤ length other → Gets i j → i ≤ n
    offending_past = not_past_offender (kind_pair kind) (machine_tells kind.machine) (first_node kind head_own) (first_node kind head_other) own other

    pub lacking_past : (n : ℕ) → Lacking n → (i j : ℕ) → Gets i j → i ≤ n
    lacking_past = not_past_missing (kind_pair kind) (machine_tells kind.machine) (first_node kind head_own) (first_node kind head_other) own other

    stuck_past : (n j : ℕ) → Stuck n j → (i' j' : ℕ) → Gets i' j' → i' ≤ n
    stuck_past = not_past_stuck (kind_pair kind) (machine_tells kind.machine) (first_node kind head_own) (first_node kind head_other) own other

    -- the named record is there, and what stands before it is a run with some records of the other side
    record Halts (n : ℕ) : Type 0 where
      of_other : ℕ
      here : n < length own
      there : of_other ≤ length other
      gets : Gets n of_other
      no_further : (i j : ℕ) → i ≤ length own → j ≤ length other → Gets i j → i ≤ n

    halts : (n : ℕ) (cause : Cause) → Wrong n cause → Halts n
    halts n (Step refusal) w = record {
      of_other = w.of_other;
      here = slice_get_within own n w.offender w.place;
      there = w.past.holds.within_b;
      gets = (w.world, w.run);
      no_further = offending_past n refusal w;
    }
    halts n NoSuchUnit w = record {
      of_other = length other;
      here = slice_get_within own n w.missing.waiting w.missing.is_here;
      there = le_refl (length other);
      gets = gets_all n w.run;
      no_further = λ i j within_i within_j run. lacking_past n w i j run;
    }
    halts n NoOrder w = record {
      of_other = w.0;
      here = slice_get_within own n w.1.missing_a.waiting w.1.missing_a.is_here;
      there = (let l = slice_get_within other w.0 w.1.missing_b.waiting w.1.missing_b.is_here in omega arith);
      gets = w.1.run;
      no_further = λ i j within_i within_j run. stuck_past n w.0 w.1 i j run;
    }

    same_place : (n m : ℕ) (cause other_cause : Cause) → Wrong n cause → Wrong m other_cause → n ≡ m
    same_place n m cause other_cause w v =
        let h = halts n cause w in
        let k = halts m other_cause v in
        let h_here = h.here in
        let k_here = k.here in
        let up = h.no_further m k.of_other (omega arith) k.there k.gets in
        let down = k.no_further n h.of_other (omega arith) h.there h.gets in
        omega arith

    -- a record that offends names no unit that is missing
    offends_unmissed : (n count : ℕ) (refusal : StepRefusal) → (o : Offending n refusal) → NamesBeyond (kind_pair kind) (slice_get own n) count →
        sent_by (kind_pair kind) (take o.of_other other) ≤ count → ⊥
    offends_unmissed n count refusal o m few =
        let sent = o.past.holds.named_unit m.waiting m.unit m.is_here m.names in
        let beyond = m.beyond in
        omega arith

    same_refusal : (n : ℕ) (refusal other_refusal : StepRefusal) → Offending n refusal → Offending n other_refusal → refusal ≡ other_refusal
    same_refusal n refusal other_refusal o p =
        let up = (o.past.least n p.of_other p.past.holds).1 in
        let down = (p.past.least n o.of_other o.past.holds).1 in
        let same : p.of_other ≡ o.of_other = omega arith in
        let world : o.world ≡ p.world =
        one_end (kind_pair kind) o.run (subst (λ (k : ℕ). Run (kind_pair kind) (kind_start kind head_own head_other) (take n own) (take k other)
        p.world)
        same p.run) in
        let offender : o.offender ≡ p.offender = cc (o.place, p.place) in
        by_outcome refusal other_refusal
        (sym o.refused ∙ ap₂ (λ (w : World (KindNode kind) (KindUnit kind)) (r : Record). advance (kind_pair kind).node_a w.a w.b r) world offender
        ∙ p.refused)
      where
        by_outcome : (z z' : StepRefusal) → ◌≡◌ {A = Outcome (KindNode kind) (KindUnit kind) StepRefusal} (Refused z) (Refused z') → z ≡ z'
        by_outcome z z' e = cc

  -- the other side's view
  module _ (head_own head_other : Head) (own other : List Record) where
    pub other_gets : (i j : ℕ) → Gets head_own head_other own other i j → Gets head_other head_own other own j i
    other_gets i j run = exchange_run (kind_pair kind) (kind_start kind head_own head_other) (take i own) (take j other) run

    other_stuck : (n j : ℕ) → Stuck head_own head_other own other n j → Stuck head_other head_own other own j n
    other_stuck n j s = record { run = other_gets n j s.run; missing_a = s.missing_b; missing_b = s.missing_a }

    -- nor does the other side get further where both are stuck
    stuck_other_past : (n j : ℕ) → Stuck head_own head_other own other n j → (i' j' : ℕ) → Gets head_own head_other own other i' j' → j' ≤ j
    stuck_other_past n j s i' j' run = stuck_past head_other head_own other own j n (other_stuck n j s) j' i' (other_gets i' j' run)

    offends_or_lacks : (n : ℕ) (refusal : StepRefusal) → Offending head_own head_other own other n refusal →
        Lacking head_own head_other own other n → ⊥
    offends_or_lacks n refusal o l =
        offends_unmissed head_own head_other own other n (sent_by (kind_pair kind) other) refusal o l.missing (all_sent (kind_pair kind) other
        o.of_other)

    offends_or_sticks : (n j : ℕ) (refusal : StepRefusal) → Offending head_own head_other own other n refusal →
        Stuck head_own head_other own other n j → ⊥
    offends_or_sticks n j refusal o s =
        offends_unmissed head_own head_other own other n (sent_by (kind_pair kind) (take j other)) refusal o s.missing_a
        (more_sent (kind_pair kind) other o.of_other j (stuck_other_past n j s n o.of_other (o.world, o.run)))

    lacks_or_sticks : (n j m : ℕ) → Lacking head_own head_other own other m → Stuck head_own head_other own other n j → ⊥
    lacks_or_sticks n j m l s =
        let here = slice_get_within other j s.missing_b.waiting s.missing_b.is_here in
        let all = stuck_other_past n j s m (length other) (gets_all head_own head_other own other m l.run) in
        omega arith

    same_cause : (n : ℕ) (cause other_cause : Cause) → Wrong head_own head_other own other n cause →
        Wrong head_own head_other own other n other_cause →
        cause ≡ other_cause
    same_cause n (Step refusal) (Step other_refusal) w v = ap Step (same_refusal head_own head_other own other n refusal other_refusal w v)
    same_cause n (Step refusal) NoSuchUnit w v = absurd (offends_or_lacks n refusal w v)
    same_cause n (Step refusal) NoOrder w v = absurd (offends_or_sticks n v.0 refusal w v.1)
    same_cause n NoSuchUnit (Step refusal) w v = absurd (offends_or_lacks n refusal v w)
    same_cause n NoSuchUnit NoSuchUnit w v = refl
    same_cause n NoSuchUnit NoOrder w v = absurd (lacks_or_sticks n v.0 n w v.1)
    same_cause n NoOrder (Step refusal) w v = absurd (offends_or_sticks n w.0 refusal v w.1)
    same_cause n NoOrder NoSuchUnit w v = absurd (lacks_or_sticks n w.0 n v w.1)
    same_cause n NoOrder NoOrder w v = refl

  -- ---- both sides

  module _ (head_a head_b : Head) (of_a of_b : List Record) where
    pub of_b_wrong : (m : ℕ) (cause : Cause) → IsWrongOfB kind (kind_start kind head_b head_a) of_b of_a m cause →
        Wrong head_b head_a of_b of_a m cause
    of_b_wrong m (Step refusal) w = w
    of_b_wrong m NoSuchUnit w = w
    of_b_wrong m NoOrder w = absurd w

    -- all of b are made, and one of b can't be
    lacks_of_a : (n m : ℕ) (cause : Cause) → Lacking head_a head_b of_a of_b n → Wrong head_b head_a of_b of_a m cause → ⊥
    lacks_of_a n m cause l w =
        let h = halts head_b head_a of_b of_a m cause w in
        let here = h.here in
        let within = slice_get_within of_a n l.missing.waiting l.missing.is_here in
        let all = h.no_further (length of_b) n (le_refl (length of_b)) (omega arith)
        (other_gets head_a head_b of_a of_b n (length of_b) (gets_all head_a head_b of_a of_b n l.run)) in
        omega arith

    -- nobody can go on, and one of b is to blame
    sticks_of_a : (n j m : ℕ) (cause : Cause) → Stuck head_a head_b of_a of_b n j → IsWrongOfB kind (kind_start kind head_b head_a) of_b of_a m
        cause → ⊥
    sticks_of_a n j m (Step refusal) s w =
        let same = same_place head_b head_a of_b of_a m j (Step refusal) NoOrder w (n, other_stuck head_a head_b of_a of_b n j s) in
        offends_or_sticks head_b head_a of_b of_a j n refusal (subst (λ (k : ℕ). Offending head_b head_a of_b of_a k refusal) same w)
        (other_stuck head_a head_b of_a of_b n j s)
    sticks_of_a n j m NoSuchUnit s w = lacks_or_sticks head_b head_a of_b of_a j n m w (other_stuck head_a head_b of_a of_b n j s)
    sticks_of_a n j m NoOrder s w = absurd w

    -- a record of each side is wrong only where both offend
    not_both : (n m place : ℕ) (cause other_cause : Cause) → Wrong head_a head_b of_a of_b n cause →
        IsWrongOfB kind (kind_start kind head_b head_a) of_b of_a m
        other_cause → IsFirst kind head_a head_b of_a of_b (findings.Refused B place other_cause) → ⊥
    not_both n m place (Step refusal) other_cause w v first = first n refusal w
    not_both n m place NoSuchUnit other_cause w v first = lacks_of_a n m other_cause w (of_b_wrong m other_cause v)
    not_both n m place NoOrder other_cause w v first = sticks_of_a n w.0 m other_cause w.1 v

    refused_same : (side : Side) (n m : ℕ) (cause other_cause : Cause) → n ≡ m → cause ≡ other_cause →
        findings.Refused side n cause ≡ findings.Refused
        side m other_cause
    refused_same side n m cause other_cause place is = ap₂ (λ (k : ℕ) (c : Cause). findings.Refused side k c) place is

    -- by the causes at one place
    of_one_side : (side : Side) (head_own head_other : Head) (own other : List Record) (n m : ℕ) (cause other_cause : Cause) →
        Wrong head_own head_other own other n cause → Wrong head_own head_other own other m other_cause →
        findings.Refused side n cause ≡ findings.Refused side m other_cause
    of_one_side side head_own head_other own other n m cause other_cause w v =
        let same = same_place head_own head_other own other n m cause other_cause w v in
        refused_same side n m cause other_cause same
        (same_cause head_own head_other own other n cause other_cause w
        (subst (λ (k : ℕ). Wrong head_own head_other own other k other_cause) (sym same) v))

    pub one_finding : (f g : Finding) → IsFinding kind head_a head_b of_a of_b f → IsFinding kind head_a head_b of_a of_b g → f ≡ g
    one_finding findings.Accepted findings.Accepted x y = refl
    one_finding findings.Accepted (findings.Refused A m cause) x y = absurd (y.verdict.0 x.verdict)
    one_finding findings.Accepted (findings.Refused B m cause) x y = absurd (y.verdict.0 x.verdict)
    one_finding (findings.Refused A n cause) findings.Accepted x y = absurd (x.verdict.0 y.verdict)
    one_finding (findings.Refused B n cause) findings.Accepted x y = absurd (x.verdict.0 y.verdict)
    one_finding (findings.Refused A n cause) (findings.Refused A m other_cause) x y =
        of_one_side A head_a head_b of_a of_b n m cause other_cause x.verdict.1 y.verdict.1
    one_finding (findings.Refused B n cause) (findings.Refused B m other_cause) x y =
        of_one_side B head_b head_a of_b of_a n m cause other_cause (of_b_wrong n cause x.verdict.1) (of_b_wrong m other_cause y.verdict.1)
    one_finding (findings.Refused A n cause) (findings.Refused B m other_cause) x y =
        absurd (not_both n m m cause other_cause x.verdict.1 y.verdict.1 y.first)
    one_finding (findings.Refused B n cause) (findings.Refused A m other_cause) x y =
        absurd (not_both m n n other_cause cause y.verdict.1 x.verdict.1 x.first)

    -- ---- no record of a offends

    -- where all of a are made with these of b
    pub first_of_ended : (done_b : List Record) (j : ℕ) → take j of_b ≡ done_b → j ≤ length of_b → IsRunOf kind head_a head_b of_a done_b →
        (n : ℕ) (refusal : StepRefusal) → ¬ Offending head_a head_b of_a of_b n refusal
    first_of_ended done_b j is within run n refusal o =
        let here = slice_get_within of_a n o.offender o.place in
        let gets : Gets head_a head_b of_a of_b (length of_a) j = rw (take_all (length of_a) of_a (le_refl (length of_a)), is) run in
        let past = offending_past head_a head_b of_a of_b n refusal o (length of_a) j (le_refl (length of_a)) within gets in
        omega arith

    -- where the next of a waits for a unit that these of b don't send, and the next of b offends
    pub first_of_waiting : (done_b : List Record) (p j : ℕ) (of_b_refusal : StepRefusal) → take j of_b ≡ done_b →
        LacksUnit (kind_pair kind) (kind_start kind head_a head_b) of_a done_b p → Offending head_b head_a of_b of_a j of_b_refusal
        → (n : ℕ) (refusal : StepRefusal) → ¬ Offending head_a head_b of_a of_b n refusal
    first_of_waiting done_b p j of_b_refusal is lacks b n refusal o =
        let m = lacks.missing in
        let here = slice_get_within of_a n o.offender o.place in
        let waits_here = slice_get_within of_a p m.waiting m.is_here in
        let there = slice_get_within of_b j b.offender b.place in
        let gets : Gets head_a head_b of_a of_b p j = rw is lacks.run in
        let few : o.of_other ≤ j = offending_past head_b head_a of_b of_a j of_b_refusal b o.of_other n o.past.holds.within_b o.past.holds.within_a
        (other_gets head_a head_b of_a of_b n o.of_other (o.world, o.run)) in
        let behind : p ≤ n = offending_past head_a head_b of_a of_b n refusal o p j (omega arith) (omega arith) gets in
        let sent = more_sent (kind_pair kind) of_b o.of_other j few in
        let missing : NamesBeyond (kind_pair kind) (slice_get of_a p) (sent_by (kind_pair kind) (take j of_b)) = rw is m in
        elim (cases_lt p n) [
          | inl further ↦
              let named = named_is_sent (kind_pair kind) (machine_tells kind.machine) (first_node kind head_a) (first_node kind head_b) of_a of_b p
              n o.of_other missing.unit
              missing.waiting further missing.is_here missing.names (o.world, o.run) in
              let beyond = missing.beyond in
              omega arith
          | inr not_further ↦
              let same : p ≡ n = omega arith in
              offends_unmissed head_a head_b of_a of_b n (sent_by (kind_pair kind) (take j of_b)) refusal o
              (subst (λ (k : ℕ). NamesBeyond (kind_pair kind) (slice_get of_a k) (sent_by (kind_pair kind) (take j of_b))) same missing) sent
        ]
