-- How the judge ends: its finding is that of all captures that go on behind what was read.
use Rattle.std.proofs.Common.{◌≡◌, ℕ, Bool, true, false, List, [], ◌∷◌, ◌++◌, length, Option, refl, sym, ap, subst, ◌∙◌, append-nil, append_assoc}
use Rattle.capture_record.specs.declared.record.Record.{Record}
use Rattle.capture_record.specs.Entries.{record_with}
use Rattle.capture.specs.SoFar.{TheEnd, GoesOn, GoesOnBy}
use Rattle.wire_base.specs.declared.side.Side.TheVariants.{A, B}
use Rattle.wire_base.specs.declared.side.Side.{Side}
use Rattle.dna_station.specs.declared.head.Head.{Head}
use Rattle.dna_station.specs.declared.refusal.StepRefusal.{StepRefusal}
use Rattle.dna_node.specs.declared.finding.Cause.{Cause}
use Rattle.dna_node.specs.declared.finding.Cause.TheVariants.{Step, NoSuchUnit, NoOrder}
use Rattle.dna_node.specs.declared.finding.Finding.{Finding}
use Rattle.dna_node.specs.declared.finding.Finding.TheVariants.{Accepted, Refused}
use Rattle.pair_judge.specs.Finding.{EndsWhere, IsFinding, of_side}
use Rattle.pair_judge.specs.Order.{MadeRecord}
use Rattle.pair_judge.specs.declared.course.Ahead.{Ahead}
use Rattle.pair_judge.specs.declared.course.Ahead.TheVariants.{Unread, Waits, Ended}
use Rattle.pair_judge.specs.inner.Course.{IsRead, Track, WaitsAt, behind, having_made, read_of, waiting, IsWaiting}
use Rattle.pair_judge.specs.declared.course.Course.{Course}
use Rattle.pair_judge.specs.declared.line.Line.{Line}
use Rattle.dna_node.specs.Kind.{NodeKind, KindNode}
use Rattle.dna_node.specs.WireLayers.{WireLayers}
use Rattle.pair_judge.specs.declared.end.End.{End}
use Rattle.pair_judge.specs.declared.summary.SideSummary.{SideSummary}
use Rattle.pair_judge.specs.inner.Reached.{BecomesThere, HasReached, IsFound, IsShown, IsStopped, OtherBecomes, StopsAt, StopsFor}
use Rattle.pair_judge.specs.Summary.{counts_of, summary_at, summary_of, summary_with}
use Rattle.pair_judge.specs.inner.Wire.{JudgeTop}

-- ---- what goes on behind what was read

goes_behind : (ahead : Ahead) (come : Option (List ℕ)) (read all : List Record) → GoesOnBy (behind ahead come) read all → (rest : List Record) ×
    (all ≡ read ++ rest)
goes_behind Unread come read all goes = goes
goes_behind (Waits entry) come read all goes = goes
goes_behind Ended come read all goes = ([], goes ∙ sym (append-nil read))

module _ (t : Track) (made : List Record) (all : List Record) where
  pub goes_any : GoesOn (read_of (having_made t made)) all → (rest : List Record) × (all ≡ made ++ rest)
  goes_any goes =
      let b = goes_behind t.course.ahead t.come (made ++ waiting t.course.capture.bytes t.course.ahead) all goes in
      (waiting t.course.capture.bytes t.course.ahead ++ b.0, b.1 ∙ append_assoc made (waiting t.course.capture.bytes t.course.ahead) b.0)

  pub goes_waits : (r : Record) → IsWaiting t.course.capture.bytes t.course.ahead r → GoesOn (read_of (having_made t made)) all →
      (rest : List Record) × (all ≡ made ++ r ∷ rest)
  goes_waits r w goes =
      let bytes = t.course.capture.bytes in
      let by_entry : GoesOnBy (behind (Waits w.entry) t.come) (made ++ record_with w.entry bytes ∷ []) all =
      subst (λ (x : Ahead). GoesOnBy (behind x t.come) (made ++ waiting bytes x) all) w.ahead_is goes in
      let at_waits : GoesOnBy (behind (Waits w.entry) t.come) (made ++ r ∷ []) all =
      subst (λ (x : Record). GoesOnBy (behind (Waits w.entry) t.come) (made ++ x ∷ []) all) w.is by_entry in
      (at_waits.0, at_waits.1 ∙ append_assoc made (r ∷ []) at_waits.0)

  pub goes_ended : t.course.ahead ≡ Ended → GoesOn (read_of (having_made t made)) all → all ≡ made
  goes_ended is goes =
      let at_end : all ≡ made ++ [] = subst (λ (x : Ahead). GoesOnBy (behind x t.come) (made ++ waiting t.course.capture.bytes x) all) is goes in
      at_end ∙ append-nil made

at_the_end : (ahead : Ahead) (come : Option (List ℕ)) → ahead ≡ Ended → behind ahead come ≡ TheEnd
at_the_end ahead come is = ap (λ (x : Ahead). behind x come) is

module _ (kind : NodeKind) where
  -- the same of the same heads
  pub at_heads : (head_a head_b head_a' head_b' : Head) (xs ys : List Record) (finding : Finding) → head_a' ≡ head_a → head_b' ≡ head_b →
      IsFinding kind head_a head_b xs ys finding → IsFinding kind head_a' head_b' xs ys finding
  at_heads head_a head_b head_a' head_b' xs ys finding same_a same_b v =
      rw (same_a, same_b) v

module _ (top : JudgeTop) where
  -- ---- where the judge stops: a record was read and not made

  pub stops_at : {order : List MadeRecord} (side : Side) (a b : Track) (cause : Cause) (r : Record)
      (reached : HasReached top order a.course.end b.course.end a.made b.made) →
      IsWaiting (of_side side a b).course.capture.bytes (of_side side a b).course.ahead r →
      BecomesThere top cause (of_side side reached.world.a reached.world.b) (of_side side reached.world.b reached.world.a) r →
      OtherBecomes top cause (of_side side b a).course (of_side side reached.world.b reached.world.a) (of_side side reached.world.a reached.world.b) →
      StopsAt top a b side (length (of_side side a b).made) cause
  stops_at {order} side a b cause r reached ahead becomes other = record {
    order = order;
    reached = reached;
    next = r;
    ahead = ahead;
    becomes = becomes;
    other = other;
    place_is = refl;
  }

  -- ---- the endings

  -- the two sides, and the heads and records of the run so far
  module _ (a b : Track) (head_a head_b : Head) (same_a : a.course.end.head ≡ head_a) (same_b : b.course.end.head ≡ head_b) (place : ℕ) where
    finding_at : (all_a all_b xs ys : List Record) (finding : Finding) → all_a ≡ xs → all_b ≡ ys → IsFinding top.kind head_a head_b xs ys finding →
        IsFinding top.kind a.course.end.head b.course.end.head all_a all_b finding
    finding_at all_a all_b xs ys finding ea eb v =
        at_heads top.kind head_a head_b a.course.end.head b.course.end.head all_a all_b finding same_a same_b (rw (ea, eb) v)

    -- a refusal, where the captures that go on behind what was read are these
    refused_so : (side : Side) (cause : Cause) → IsRead a → IsRead b →
        EndsWhere (Refused side place cause) (read_of a).behind (read_of b).behind →
        StopsFor top a b (Refused side place cause) →
        ((all_a all_b : List Record) → GoesOn (read_of a) all_a → GoesOn (read_of b) all_b →
        (xs : List Record) × (ys : List Record) × (all_a ≡ xs) × (all_b ≡ ys) × IsFinding top.kind head_a head_b xs ys (Refused side place cause)) →
        IsFound top a b (Refused side place cause)
    refused_so side cause read_a read_b ends stops law = record {
      made_a = a.made;
      made_b = b.made;
      read_a = read_a;
      read_b = read_b;
      is_finding = λ all_a all_b goes_a goes_b.
          let f = law all_a all_b goes_a goes_b in
          finding_at all_a all_b f.0 f.1 (Refused side place cause) f.2 f.3 f.4;
      ends = ends;
      same_a = refl;
      same_b = refl;
      stops = stops;
      counts = λ e. cc;
    }

    -- a's next record is refused
    pub a_fails : (refusal : StepRefusal) (r : Record) → IsRead a → IsWaiting a.course.capture.bytes a.course.ahead r → IsRead b →
        StopsFor top a b (Refused A place (Step refusal)) →
        ((rest_a rest_b : List Record) → IsFinding top.kind head_a head_b (a.made ++ r ∷ rest_a) (b.made ++ rest_b) (Refused A place (Step
        refusal))) →
        IsFound top a b (Refused A place (Step refusal))
    a_fails refusal r read_a ahead_a read_b stops law = refused_so A (Step refusal) read_a read_b tt stops (λ all_a all_b goes_a goes_b.
        let x = goes_waits a a.made all_a r ahead_a goes_a in
        let y = goes_any b b.made all_b goes_b in
        (a.made ++ r ∷ x.0, b.made ++ y.0, x.1, y.1, law x.0 y.0))

    -- b's next record is refused, and a waits or has ended, where a's course was this one before its line was released
    pub b_fails : (refusal : StepRefusal) (r : Record) (waits : Bool) (own : Course) (incoming : Line) → own.capture ≡ a.course.capture →
        own.ahead ≡ a.course.ahead → IsStopped top waits own incoming
        → IsRead a → IsRead b → IsWaiting b.course.capture.bytes b.course.ahead r →
        StopsFor top a b (Refused B place (Step refusal))
        → ((p : Record) (rest_a rest_b : List Record) → WaitsAt top own.end incoming p → IsFinding top.kind head_a head_b (a.made ++ p ∷ rest_a)
        (b.made ++ r ∷ rest_b) (Refused B place (Step refusal)))
        → ((rest_b : List Record) → IsFinding top.kind head_a head_b a.made (b.made ++ r ∷ rest_b) (Refused B place (Step refusal)))
        → IsFound top a b (Refused B place (Step refusal))
    b_fails refusal r true own incoming capture ahead held read_a read_b ahead_b stops behind last =
        refused_so B (Step refusal) read_a read_b tt stops (λ all_a all_b goes_a goes_b.
        let x = goes_waits a a.made all_a held.next (rw (sym capture, sym ahead) held.ahead) goes_a in
        let y = goes_waits b b.made all_b r ahead_b goes_b in
        (a.made ++ held.next ∷ x.0, b.made ++ r ∷ y.0, x.1, y.1, behind held.next x.0 y.0 held.waits))
    b_fails refusal r false own incoming capture ahead ended read_a read_b ahead_b stops behind last =
        refused_so B (Step refusal) read_a read_b tt stops (λ all_a all_b goes_a goes_b.
        let y = goes_waits b b.made all_b r ahead_b goes_b in
        (a.made, b.made ++ r ∷ y.0, goes_ended a a.made all_a (sym ahead ∙ ended) goes_a, y.1, last y.0))

    -- both wait
    pub both_wait : (r s : Record) → IsRead a → IsRead b → IsWaiting a.course.capture.bytes a.course.ahead r →
        IsWaiting b.course.capture.bytes b.course.ahead s →
        StopsFor top a b (Refused A place NoOrder) →
        ((rest_a rest_b : List Record) → IsFinding top.kind head_a head_b (a.made ++ r ∷ rest_a) (b.made ++ s ∷ rest_b) (Refused A place NoOrder)) →
        IsFound top a b (Refused A place NoOrder)
    both_wait r s read_a read_b ahead_a ahead_b stops law = refused_so A NoOrder read_a read_b tt stops (λ all_a all_b goes_a goes_b.
        let x = goes_waits a a.made all_a r ahead_a goes_a in
        let y = goes_waits b b.made all_b s ahead_b goes_b in
        (a.made ++ r ∷ x.0, b.made ++ s ∷ y.0, x.1, y.1, law x.0 y.0))

    -- a waits and b has ended
    pub a_waits : (r : Record) → IsRead a → IsRead b → IsWaiting a.course.capture.bytes a.course.ahead r → b.course.ahead ≡ Ended →
        StopsFor top a b (Refused A place NoSuchUnit) →
        ((rest_a : List Record) → IsFinding top.kind head_a head_b (a.made ++ r ∷ rest_a) b.made (Refused A place NoSuchUnit)) →
        IsFound top a b (Refused A place NoSuchUnit)
    a_waits r read_a read_b ahead_a ahead_b stops law = refused_so A NoSuchUnit read_a read_b (at_the_end b.course.ahead b.come ahead_b) stops
        (λ all_a all_b goes_a goes_b.
        let x = goes_waits a a.made all_a r ahead_a goes_a in
        (a.made ++ r ∷ x.0, b.made, x.1, goes_ended b b.made all_b ahead_b goes_b, law x.0))

    -- b waits and a has ended
    pub b_waits : (r : Record) → IsRead a → IsRead b → a.course.ahead ≡ Ended → IsWaiting b.course.capture.bytes b.course.ahead r →
        StopsFor top a b (Refused B place NoSuchUnit) →
        ((rest_b : List Record) → IsFinding top.kind head_a head_b a.made (b.made ++ r ∷ rest_b) (Refused B place NoSuchUnit)) →
        IsFound top a b (Refused B place NoSuchUnit)
    b_waits r read_a read_b ahead_a ahead_b stops law = refused_so B NoSuchUnit read_a read_b (at_the_end a.course.ahead a.come ahead_a) stops
        (λ all_a all_b goes_a goes_b.
        let y = goes_waits b b.made all_b r ahead_b goes_b in
        (a.made, b.made ++ r ∷ y.0, goes_ended a a.made all_a ahead_a goes_a, y.1, law y.0))

  -- both have ended
  module _ (a b : Track) {order : List MadeRecord} (reached : HasReached top order a.course.end b.course.end a.made b.made)
      (law : IsShown top a.course.end.head b.course.end.head reached.world a.made b.made) where
    counted_at : (end : End) (n : KindNode top.kind) (links : ℕ) (made : List Record) → end.counts ≡ counts_of made → top.links end.layers ≡ links →
        links ≡ top.kind.links n.station → summary_at top.links end ≡ summary_of top.kind n made
    counted_at end n links made counts there here =
        ap (λ (s : SideSummary). record s { links = top.links end.layers }) counts ∙ ap (λ (k : ℕ). summary_with k made) (there ∙ here)

    links_of : (l k : WireLayers) → l ≡ k → top.links k ≡ top.links l
    links_of l k is = ap (λ (x : WireLayers). top.links x) (sym is)

    pub both_ended : IsRead a → IsRead b → a.course.ahead ≡ Ended → b.course.ahead ≡ Ended → IsFound top a b Accepted
    both_ended read_a read_b ahead_a ahead_b = record {
      made_a = a.made;
      made_b = b.made;
      read_a = read_a;
      read_b = read_b;
      is_finding = λ all_a all_b goes_a goes_b.
          subst (λ (of_a : List Record). IsFinding top.kind a.course.end.head b.course.end.head of_a all_b Accepted)
          (sym (goes_ended a a.made all_a ahead_a goes_a))
          (subst (λ (of_b : List Record). IsFinding top.kind a.course.end.head b.course.end.head a.made of_b Accepted)
          (sym (goes_ended b b.made all_b ahead_b goes_b)) (record { verdict = (law.world, law.run); first = tt }));
      ends = (at_the_end a.course.ahead a.come ahead_a, at_the_end b.course.ahead b.come ahead_b);
      same_a = refl;
      same_b = refl;
      stops = tt;
      counts = λ e. record {
        run = (law.world, law.run);
        counts_a = counted_at a.course.end law.world.a.state (top.links reached.world.a.state.station) a.made reached.counts_a
            (links_of _ _ reached.stands_a.layers) law.links_a;
        counts_b = counted_at b.course.end law.world.b.state (top.links reached.world.b.state.station) b.made reached.counts_b
            (links_of _ _ reached.stands_b.layers) law.links_b;
      };
    }

  -- the place that is named is this one
  pub at_place : (a b : Track) (side : Side) (cause : Cause) (named place : ℕ) → named ≡ place → IsFound top a b (Refused side place cause) →
      IsFound top a b (Refused side named cause)
  at_place a b side cause named place is found = subst (λ (n : ℕ). IsFound top a b (Refused side n cause)) (sym is) found
