-- In every run the end alone makes each record of its side; and where a record offends, it makes those before it and refuses this one.
use Rattle.std.proofs.Common.{◌≡◌, ℕ, zero, suc, ◌+◌, ◌≤◌, true, arith, Option, Some, None, List, [], ◌∷◌, ◌++◌, map, take, refl, sym, ap, ◌∙◌}
use Rattle.std.proofs.Common.{subst, option_map}
use Rattle.std.specs.Prelude.{slice_get}
use Rattle.std.proofs.lemmas.Option.{same_Some, slice_get-map}
use Rattle.two_nodes.specs.Nodes.{Half, World, Outcome, Run, advance}
use Rattle.two_nodes.specs.Nodes.Outcome.{Made, Refused}
use Rattle.two_nodes.specs.Nodes.Run.{Done, OfA, OfB}
use Rattle.two_nodes.specs.Cutting.{Cut, cut_half, cut_outcome}
use Rattle.two_nodes.specs.Kept.{IsKept}
use Rattle.two_nodes.specs.Past.{Offends}
use Rattle.two_nodes.proofs.Closed.{exchange_run}
use Rattle.two_nodes.proofs.Lasting.{lasts}
use Rattle.capture_record.specs.declared.record.Record.{Record}
use Rattle.dna_station.specs.declared.head.Head.{Head}
use Rattle.dna_station.specs.declared.refusal.StepRefusal.{StepRefusal}
use Rattle.dna_station.specs.Line.{UnitOf}
use Rattle.dna_station.specs.Machine.{Machine, NodeOf, step}
use Rattle.dna_node.specs.Kind.{NodeKind, KindNode, KindUnit, kind_pair, first_node, kind_start, IsRunOf}
use Rattle.dna_node.specs.Alone.{EndOf, StepAlone, Makes, Refuses, Accused, accused_of, EndingAlone, Passed, Refused as RefusedAt, step_alone}
use Rattle.dna_node.specs.Alone.{goes_on, ends_from, is_seen_alone}
use Rattle.dna_node.proofs.Alone.Along.{forget_node, GoesAlong}
use Rattle.dna_node.proofs.Alone.Steps.{IsRight, Agrees, agrees}

-- ---- what was refused stays refused

module _ {S K : Type 0} (one : EndOf S K) where
  goes_on_further : (x : StepAlone S) (place at : ℕ) (accused : Accused) (reason : StepRefusal) (later further : NodeOf S → EndingAlone S) →
      ((n : NodeOf S) → later n ≡ RefusedAt at accused reason → further n ≡ RefusedAt at accused reason) →
      goes_on x place later ≡ RefusedAt at accused reason → goes_on x place further ≡ RefusedAt at accused reason
  goes_on_further (Makes n) place at accused reason later further same e = same n e
  goes_on_further (Refuses a z) place at accused reason later further same e = e

  refused_further : (records more : List Record) (n : NodeOf S) (place at : ℕ) (accused : Accused) (reason : StepRefusal) →
      ends_from one n place records ≡ RefusedAt at accused reason → ends_from one n place (records ++ more) ≡ RefusedAt at accused reason
  refused_further [] more n place at accused reason e = absurd cc
  refused_further (r ∷ records) more n place at accused reason e =
      goes_on_further (step_alone one n r) place at accused reason (λ next. ends_from one next (place + 1) records)
      (λ next. ends_from one next (place + 1) (records ++ more))
      (λ next. refused_further records more next (place + 1) at accused reason) e

  final : (n : NodeOf S) (records more : List Record) (at : ℕ) (accused : Accused) (reason : StepRefusal) →
      ends_from one n 0 records ≡ RefusedAt at accused reason → ¬ ((end : NodeOf S) × (ends_from one n 0 (records ++ more) ≡ Passed end))
  final n records more at accused reason e passes =
      let further = refused_further records more n 0 at accused reason e in
      let both = sym passes.1 ∙ further in
      absurd cc

  -- ---- behind what is made

  goes_behind : (x : StepAlone S) (place : ℕ) (end : NodeOf S) (later further : NodeOf S → EndingAlone S) (e : EndingAlone S) →
      ((n : NodeOf S) → later n ≡ Passed end → further n ≡ e) → goes_on x place later ≡ Passed end → goes_on x place further ≡ e
  goes_behind (Makes n) place end later further e same made = same n made
  goes_behind (Refuses a z) place end later further e same made = absurd cc

  -- the records before the one at a place are made, and it is refused
  pub refused_behind : (records : List Record) (at place : ℕ) (r : Record) (n end : NodeOf S) (accused : Accused) (reason : StepRefusal) →
      slice_get records at ≡ Some r → ends_from one n place (take at records) ≡ Passed end →
      step_alone one end r ≡ Refuses accused reason → ends_from one n place records ≡ RefusedAt (place + at) accused reason
  refused_behind [] at place r n end accused reason there made refused = absurd cc
  refused_behind (x ∷ records) zero place r n end accused reason there made refused =
      let same : x ≡ r = same_Some x r there in
      let here : n ≡ end = passed_is n end made in
      let sum : place ≡ place + 0 = omega arith in
      ap (λ (y : Record). goes_on (step_alone one n y) place (λ next. ends_from one next (place + 1) records)) same
      ∙ ap (λ (m : NodeOf S). goes_on (step_alone one m r) place (λ next. ends_from one next (place + 1) records)) here
      ∙ ap (λ (y : StepAlone S). goes_on y place (λ next. ends_from one next (place + 1) records)) refused
      ∙ ap (λ (p : ℕ). RefusedAt p accused reason) sum
    where
      passed_is : (n end : NodeOf S) → (let x : EndingAlone S = Passed n in x ≡ Passed end) → n ≡ end
      passed_is n end e = ap (λ (x : EndingAlone S). node_or n x) e
        where
          node_or : NodeOf S → EndingAlone S → NodeOf S
          node_or n (Passed m) = m
          node_or n (RefusedAt at a z) = n
  refused_behind (x ∷ records) (suc at) place r n end accused reason there made refused =
      let sum : place + 1 + at ≡ place + suc at = omega arith in
      goes_behind (step_alone one n x) place end (λ next. ends_from one next (place + 1) (take at records))
      (λ next. ends_from one next (place + 1) records) (RefusedAt (place + suc at) accused reason)
      (λ next passed. refused_behind records at (place + 1) r next end accused reason there passed refused
      ∙ ap (λ (p : ℕ). RefusedAt p accused reason) sum) made

-- ---- beside nodes of a kind

-- What the judge's machine sees of two nodes of this kind: in every run the same becomes of each record, and the units that the other side sent, and
-- that may still come, are of a right end
pub record SeesRight {S K : Type 0} {judge : Machine S K} {one : EndOf S K} {forget : S → S} (along : GoesAlong judge one forget) (kind : NodeKind) :
    Type 1 where
  pub seen : Cut (KindNode kind) (KindUnit kind) (NodeOf S) (UnitOf K)
  pub holds : World (KindNode kind) (KindUnit kind) → List Record → List Record → Type 0
  pub begins : (head_a head_b : Head) → holds (kind_start kind head_a head_b) [] []
  pub kept : IsKept (kind_pair kind) holds
  pub same : (w : World (KindNode kind) (KindUnit kind)) (of_a of_b : List Record) → holds w of_a of_b → (r : Record) →
      advance (step judge) (cut_half seen w.a) (cut_half seen w.b) r ≡ cut_outcome seen (advance (step kind.machine) w.a w.b r)
  pub right : (w : World (KindNode kind) (KindUnit kind)) (of_a of_b : List Record) → holds w of_a of_b → (hint : ℕ) (unit : KindUnit kind) →
      slice_get w.b.sent hint ≡ Some unit → (seen.of_state w.a.state).front ≤ hint → IsRight along (seen.of_state w.a.state) (seen.of_unit unit)

module _ {S K : Type 0} {judge : Machine S K} {one : EndOf S K} {forget : S → S} {along : GoesAlong judge one forget} {kind : NodeKind}
    (sees : SeesRight along kind) where
  -- the end alone, where side a of the pair is
  abbrev pub alone_of : KindNode kind → NodeOf S
  alone_of n = forget_node forget (sees.seen.of_state n)

  abbrev alone_at : World (KindNode kind) (KindUnit kind) → NodeOf S
  alone_at w = alone_of w.a.state

  -- ---- one record of side a

  module _ (w : World (KindNode kind) (KindUnit kind)) (made_a made_b : List Record) (c : sees.holds w made_a made_b) (r : Record) where
    right_unit : (hint : ℕ) (unit : UnitOf K) → slice_get (map sees.seen.of_unit w.b.sent) hint ≡ Some unit →
        (sees.seen.of_state w.a.state).front ≤ hint → IsRight along (sees.seen.of_state w.a.state) unit
    right_unit hint unit there ahead =
        by_unit (slice_get w.b.sent hint) refl (sym (slice_get-map sees.seen.of_unit w.b.sent hint) ∙ there)
      where
        by_unit : (o : Option (KindUnit kind)) → slice_get w.b.sent hint ≡ o → option_map sees.seen.of_unit o ≡ Some unit →
            IsRight along (sees.seen.of_state w.a.state) unit
        by_unit None at is = absurd cc
        by_unit (Some x) at is =
            subst (IsRight along (sees.seen.of_state w.a.state)) (same_Some (sees.seen.of_unit x) unit is)
            (sees.right w made_a made_b c hint x at ahead)

    agrees_a : Agrees along r (cut_outcome sees.seen (advance (step kind.machine) w.a w.b r)) (step_alone one (alone_at w) r)
    agrees_a =
        subst (λ (o : Outcome (NodeOf S) (UnitOf K) StepRefusal). Agrees along r o (step_alone one (alone_at w) r))
        (sees.same w made_a made_b c r)
        (agrees along (cut_half sees.seen w.a) (cut_half sees.seen w.b) right_unit r)

    made_alone : (h : Half (KindNode kind) (KindUnit kind)) → advance (step kind.machine) w.a w.b r ≡ Made h →
        step_alone one (alone_at w) r ≡ Makes (alone_of h.state)
    made_alone h made =
        subst (λ (o : Outcome (KindNode kind) (KindUnit kind) StepRefusal). Agrees along r (cut_outcome sees.seen o) (step_alone one (alone_at w) r))
        made agrees_a

    refused_alone : (reason : StepRefusal) → advance (step kind.machine) w.a w.b r ≡ Refused reason → is_seen_alone reason ≡ true →
        step_alone one (alone_at w) r ≡ Refuses (accused_of r reason) reason
    refused_alone reason refused =
        subst (λ (o : Outcome (KindNode kind) (KindUnit kind) StepRefusal). Agrees along r (cut_outcome sees.seen o) (step_alone one (alone_at w) r))
        refused agrees_a

  -- ---- all records of side a in a run

  run_alone : {w end : World (KindNode kind) (KindUnit kind)} {xs ys : List Record} (made_a made_b : List Record) → sees.holds w made_a made_b →
      Run (kind_pair kind) w xs ys end → (place : ℕ) → ends_from one (alone_at w) place xs ≡ Passed (alone_at end)
  run_alone made_a made_b c Done place = refl
  run_alone {w} {end} made_a made_b c (OfA {h = h} {r = r} {xs = xs} made rest) place =
      ap (λ (x : StepAlone S). goes_on x place (λ next. ends_from one next (place + 1) xs)) (made_alone w made_a made_b c r h made)
      ∙ run_alone (made_a ++ r ∷ []) made_b (sees.kept.by_a w made_a made_b r h c made) rest (place + 1)
  run_alone {w} made_a made_b c (OfB {h = h} {r = r} made rest) place =
      run_alone made_a (made_b ++ r ∷ []) (sees.kept.by_b w made_a made_b r h c made) rest place

  abbrev pub PassesFrom : Head → List Record → Type 0
  PassesFrom head records = (node : NodeOf S) × (ends_from one (alone_of (first_node kind head)) 0 records ≡ Passed node)

  pub passes_a : (head_a head_b : Head) (of_a of_b : List Record) → IsRunOf kind head_a head_b of_a of_b → PassesFrom head_a of_a
  passes_a head_a head_b of_a of_b run = (alone_at run.0, run_alone [] [] (sees.begins head_a head_b) run.1 0)

  exchanged : (head_a head_b : Head) (of_a of_b : List Record) → IsRunOf kind head_a head_b of_a of_b → IsRunOf kind head_b head_a of_b of_a
  exchanged head_a head_b of_a of_b run = exchange_run (kind_pair kind) (kind_start kind head_a head_b) of_a of_b run

  pub passes_b : (head_a head_b : Head) (of_a of_b : List Record) → IsRunOf kind head_a head_b of_a of_b → PassesFrom head_b of_b
  passes_b head_a head_b of_a of_b run = passes_a head_b head_a of_b of_a (exchanged head_a head_b of_a of_b run)

  -- a capture of which it refuses a record is a side of no run, however it goes on
  pub final_of_a : (head_a head_b : Head) (of_a further of_b : List Record) (place : ℕ) (accused : Accused) (reason : StepRefusal) →
      ends_from one (alone_of (first_node kind head_a)) 0 of_a ≡ RefusedAt place accused reason → ¬ IsRunOf kind head_a head_b (of_a ++ further) of_b
  final_of_a head_a head_b of_a further of_b place accused reason refused run =
      final one (alone_of (first_node kind head_a)) of_a further place accused reason refused (passes_a head_a head_b (of_a ++ further) of_b run)

  pub final_of_b : (head_a head_b : Head) (of_a of_b further : List Record) (place : ℕ) (accused : Accused) (reason : StepRefusal) →
      ends_from one (alone_of (first_node kind head_b)) 0 of_b ≡ RefusedAt place accused reason → ¬ IsRunOf kind head_a head_b of_a (of_b ++ further)
  final_of_b head_a head_b of_a of_b further place accused reason refused run =
      final_of_a head_b head_a of_b further of_a place accused reason refused (exchanged head_a head_b of_a (of_b ++ further) run)

  -- ---- a record that offends

  pub misses_nothing : (head_own head_other : Head) (own other : List Record) (place : ℕ) (reason : StepRefusal)
      (o : Offends (kind_pair kind) (kind_start kind head_own head_other) own other place reason) → is_seen_alone reason ≡ true →
      ends_from one (alone_of (first_node kind head_own)) 0 own ≡ RefusedAt place (accused_of o.offender reason) reason
  misses_nothing head_own head_other own other place reason o seen =
      let there = lasts (kind_pair kind) sees.holds sees.kept [] [] (sees.begins head_own head_other) o.run in
      let from_0 : 0 + place ≡ place = omega arith in
      refused_behind one own place 0 o.offender (alone_of (first_node kind head_own)) (alone_at o.world) (accused_of o.offender reason) reason
      o.place (run_alone [] [] (sees.begins head_own head_other) o.run 0)
      (refused_alone o.world (take place own) (take o.of_other other) there o.offender reason o.refused seen)
      ∙ ap (λ (p : ℕ). RefusedAt p (accused_of o.offender reason) reason) from_0
