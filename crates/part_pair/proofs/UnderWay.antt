-- Both sides under way: what one turn makes of them, and what is found where none of their next records can be made.
use Rattle.std.proofs.Common.{◌≡◌, Bool, true, ℕ, ◌+◌, ◌<◌, List, [], ◌∷◌, ◌++◌, length, Option, refl, sym, ap, subst, ◌∙◌}
use Rattle.std.proofs.Common.{arith, length-append, append-nil, append_assoc}
use Rattle.wire_base.specs.declared.side.Side as which
use Rattle.wire_base.specs.declared.side.Side.TheVariants.{A, B}
use Rattle.capture_record.specs.declared.record.Record.{Record}
use Rattle.capture_record.specs.Entries.{record_with}
use Rattle.capture.specs.SoFar.{GoesOn, GoesOnBy}
use Rattle.dna_node.specs.declared.finding.Cause.{Cause}
use Rattle.dna_node.specs.declared.finding.Cause.TheVariants.{Step, NoSuchUnit, NoOrder}
use Rattle.dna_station.specs.declared.refusal.StepRefusal.{StepRefusal}
use Rattle.pair_judge.specs.declared.summary.SideSummary.{SideSummary}
use Rattle.pair_judge.specs.Finding.{of_side}
use Rattle.part_pair.specs.declared.course.Ahead.{Ahead}
use Rattle.part_pair.specs.declared.course.Ahead.TheVariants.{Unread, Waits as IsAhead, Ended}
use Rattle.part_pair.specs.declared.course.Course.{Course}
use Rattle.part_pair.specs.declared.facing.Facing.{Facing}
use Rattle.part_pair.specs.declared.side_end.SideEnd.{SideEnd}
use Rattle.part_pair.specs.Courses.{EndsWith, MakesA, MakesB, StopsA, StopsB, WaitBoth, WaitsA, WaitsB, Refused, JudgedInPair}
use Rattle.part_pair.specs.Courses.{StandsStill, facing}
use Rattle.part_pair.specs.Judged.{AreRefusedFor}
use Rattle.part_pair.specs.Sides.{Side, Goes, Waits, Stops, first_side, step_in_pair}
use Rattle.part_pair.specs.inner.Ends.{side_of}
use Rattle.part_pair.specs.inner.Tracks.{Both, HasMadeOne, IsBlocked, IsLeft, IsLookedAt, IsMade, IsRead, IsReady, IsStopped, IsUnderWay, IsWaiting}
use Rattle.part_pair.specs.inner.Tracks.{MayRead, Stands, StaysWhereRead, Track, along, behind, read_of, waiting}
use Rattle.part_pair.proofs.Facings.{facing_fits, goes_on, ready_facing, stops}
use Rattle.part_pair.proofs.Walk.{facing_before, left_is, may_be_left, none_left, other_left, other_may_read, other_part, other_read, own_may_read}
use Rattle.part_pair.proofs.Walk.{own_part, own_read, stands_still}

-- so many records were made
pub record HasTaken (both : Both) (number : ℕ) : Type 0 where
  pub made_a : List Record
  pub made_b : List Record
  pub count : length made_a + length made_b ≡ number
  pub under_way : IsUnderWay both made_a made_b

-- ---- at first, and where a record was read

pub started : (text_a come_a text_b come_b : Option (List ℕ)) (a b : Course) → IsRead (along text_a a come_a []) → IsRead (along text_b b come_b []) →
    MayRead a → MayRead b → side_of a.side ≡ first_side a.side.is_part → side_of b.side ≡ first_side b.side.is_part →
    IsUnderWay (record { text_a = text_a; a = a; come_a = come_a; text_b = text_b; b = b; come_b = come_b }) [] []
started text_a come_a text_b come_b a b read_a read_b may_a may_b is_a is_b = record {
  read_a = read_a;
  read_b = read_b;
  may_read_a = may_a;
  may_read_b = may_b;
  leads = λ of_a of_b ending left_a left_b ends.
      subst (λ (s : Side). EndsWith s (first_side b.side.is_part) of_a of_b ending) is_a
      (subst (λ (s : Side). EndsWith (side_of a.side) s of_a of_b ending) is_b ends);
}

left_before : (ahead : Ahead) (old new : Course) → old.ahead ≡ ahead → StaysWhereRead ahead old new → (left : List Record) → IsLeft new left →
    IsLeft old left
left_before Unread old new e same left may = rw e tt
left_before (IsAhead entry) old new e same left may = subst (λ (c : Course). IsLeft c left) same may
left_before Ended old new e same left may = subst (λ (c : Course). IsLeft c left) same may

ready_may : (ahead : Ahead) (course : Course) → course.ahead ≡ ahead → IsReady course → MayRead course
ready_may Unread course e ready = absurd (rw e at ready)
ready_may (IsAhead entry) course e ready = rw e (rw e at ready)
ready_may Ended course e ready = rw e tt

module _ (text_a come_a text_b come_b : Option (List ℕ)) (a b new : Course) (come : Option (List ℕ)) (made_a made_b : List Record)
    (h : IsUnderWay (record { text_a = text_a; a = a; come_a = come_a; text_b = text_b; b = b; come_b = come_b }) made_a made_b) where
  pub looked_a : IsRead (along text_a new come made_a) → IsLookedAt a new → IsReady new → new.side ≡ a.side →
      IsUnderWay (record { text_a = text_a; a = new; come_a = come; text_b = text_b; b = b; come_b = come_b }) made_a made_b
  looked_a read looked ready same = record {
    read_a = read;
    read_b = h.read_b;
    may_read_a = ready_may new.ahead new refl ready;
    may_read_b = h.may_read_b;
    leads = λ of_a of_b ending left_a left_b ends.
        subst (λ (s : SideEnd). JudgedInPair s.is_part b.side.is_part (made_a ++ of_a) (made_b ++ of_b) ending) (sym same)
        (h.leads of_a of_b ending (left_before a.ahead a new refl looked of_a left_a) left_b
        (subst (λ (s : SideEnd). EndsWith (side_of s) (side_of b.side) of_a of_b ending) same ends));
  }

  pub looked_b : IsRead (along text_b new come made_b) → IsLookedAt b new → IsReady new → new.side ≡ b.side →
      IsUnderWay (record { text_a = text_a; a = a; come_a = come_a; text_b = text_b; b = new; come_b = come }) made_a made_b
  looked_b read looked ready same = record {
    read_a = h.read_a;
    read_b = read;
    may_read_a = h.may_read_a;
    may_read_b = ready_may new.ahead new refl ready;
    leads = λ of_a of_b ending left_a left_b ends.
        subst (λ (s : SideEnd). JudgedInPair a.side.is_part s.is_part (made_a ++ of_a) (made_b ++ of_b) ending) (sym same)
        (h.leads of_a of_b ending left_a (left_before b.ahead b new refl looked of_b left_b)
        (subst (λ (s : SideEnd). EndsWith (side_of a.side) (side_of s) of_a of_b ending) same ends));
  }

-- ---- one record more

module _ (text_a come_a text_b come_b : Option (List ℕ)) (a b a' b' : Course) (made_a made_b : List Record)
    (h : IsUnderWay (record { text_a = text_a; a = a; come_a = come_a; text_b = text_b; b = b; come_b = come_b }) made_a made_b) where
  pub made_by_a : IsReady a → IsMade a a' b b' →
      HasMadeOne (record { text_a = text_a; a = a'; come_a = come_a; text_b = text_b; b = b'; come_b = come_b }) (length made_a + length made_b)
  made_by_a ready m = record {
    made_a = made_a ++ m.next ∷ [];
    made_b = made_b;
    count = omega (arith, length-append made_a (m.next ∷ []));
    under_way = record {
      read_a = own_read text_a come_a a a' b b' made_a h.read_a ready m;
      read_b = other_read text_b come_b a a' b b' made_b h.read_b m;
      may_read_a = own_may_read text_a come_a a a' b b' made_a h.read_a ready m;
      may_read_b = other_may_read text_b come_b a a' b b' made_b h.read_b m h.may_read_b;
      leads = λ of_a of_b ending left_a left_b ends.
          let left = other_left text_b come_b a a' b b' made_b h.read_b m of_b left_b in
          let step = facing_fits (side_of a.side) b of_b left m.next (Goes (side_of a'.side)) m.step_is (goes_on (side_of a'.side)) in
          let on = subst (λ (s : Side). EndsWith (side_of a'.side) s of_a of_b ending) m.told ends in
          let all = h.leads (m.next ∷ of_a) of_b ending (may_be_left a m.next m.waits of_a) left
          (MakesA (side_of a.side) (side_of b.side) (side_of a'.side) m.next of_a of_b ending step on) in
          subst (λ (p : Bool). JudgedInPair p b'.side.is_part ((made_a ++ m.next ∷ []) ++ of_a) (made_b ++ of_b) ending)
          (sym (own_part text_a come_a a a' b b' made_a h.read_a ready m))
          (subst (λ (p : Bool). JudgedInPair a.side.is_part p ((made_a ++ m.next ∷ []) ++ of_a) (made_b ++ of_b) ending)
          (sym (other_part text_b come_b a a' b b' made_b h.read_b m))
          (subst (λ (xs : List Record). JudgedInPair a.side.is_part b.side.is_part xs (made_b ++ of_b) ending)
          (sym (append_assoc made_a (m.next ∷ []) of_a)) all));
    };
  }

  pub made_by_b : (a_waits : Bool) (before : Course) → Stands a_waits a before → IsLookedAt before b → b.side ≡ before.side → IsReady a → IsReady b →
      IsMade b b' a a' →
      HasMadeOne (record { text_a = text_a; a = a'; come_a = come_a; text_b = text_b; b = b'; come_b = come_b }) (length made_a + length made_b)
  made_by_b a_waits before stands looked same ready_a ready m = record {
    made_a = made_a;
    made_b = made_b ++ m.next ∷ [];
    count = omega (arith, length-append made_b (m.next ∷ []));
    under_way = record {
      read_a = other_read text_a come_a b b' a a' made_a h.read_a m;
      read_b = own_read text_b come_b b b' a a' made_b h.read_b ready m;
      may_read_a = other_may_read text_a come_a b b' a a' made_a h.read_a m h.may_read_a;
      may_read_b = own_may_read text_b come_b b b' a a' made_b h.read_b ready m;
      leads = λ of_a of_b ending left_a left_b ends.
          let left = other_left text_a come_a b b' a a' made_a h.read_a m of_a left_a in
          let step = subst (λ (f : Facing). step_in_pair (side_of b.side) f m.next ≡ Goes (side_of b'.side)) (sym (ready_facing a of_a ready_a left))
          m.step_is in
          let still = stands_still a before b (facing_before before b m.next looked same m.waits) a_waits stands of_a left m.next of_b in
          let on = subst (λ (s : Side). EndsWith s (side_of b'.side) of_a of_b ending) m.told ends in
          let all = h.leads of_a (m.next ∷ of_b) ending left (may_be_left b m.next m.waits of_b)
          (MakesB (side_of a.side) (side_of b.side) (side_of b'.side) m.next of_a of_b ending still step on) in
          subst (λ (p : Bool). JudgedInPair a'.side.is_part p (made_a ++ of_a) ((made_b ++ m.next ∷ []) ++ of_b) ending)
          (sym (own_part text_b come_b b b' a a' made_b h.read_b ready m))
          (subst (λ (p : Bool). JudgedInPair p b.side.is_part (made_a ++ of_a) ((made_b ++ m.next ∷ []) ++ of_b) ending)
          (sym (other_part text_a come_a b b' a a' made_a h.read_a m))
          (subst (λ (xs : List Record). JudgedInPair a.side.is_part b.side.is_part (made_a ++ of_a) xs ending)
          (sym (append_assoc made_b (m.next ∷ []) of_b)) all));
    };
  }

-- ---- none can be made

-- what goes on after what was read
record LeftOf (t : Track) (all : List Record) : Type 0 where
  left : List Record
  is : all ≡ t.made ++ left
  may : IsLeft t.course left

module _ (text come : Option (List ℕ)) (made : List Record) where
  goes_by : (course : Course) (ahead : Ahead) → course.ahead ≡ ahead → (all : List Record) →
      GoesOnBy (behind ahead come) (made ++ waiting course.capture.bytes ahead) all → LeftOf (along text course come made) all
  goes_by course Unread e all goes =
      record { left = goes.0; is = goes.1 ∙ ap (λ (xs : List Record). xs ++ goes.0) (append-nil made); may = rw e tt }
  goes_by course (IsAhead entry) e all goes = record {
    left = record_with entry course.capture.bytes ∷ goes.0;
    is = goes.1 ∙ append_assoc made (record_with entry course.capture.bytes ∷ []) goes.0;
    may = rw e (goes.0, refl);
  }
  goes_by course Ended e all goes = record { left = []; is = goes; may = rw e refl }

  goes_left : (course : Course) (all : List Record) → GoesOn (read_of (along text course come made)) all →
      LeftOf (along text course come made) all
  goes_left course all goes = goes_by course course.ahead refl all goes

module _ (text_a come_a text_b come_b : Option (List ℕ)) (a b : Course) (made_a made_b : List Record)
    (h : IsUnderWay (record { text_a = text_a; a = a; come_a = come_a; text_b = text_b; b = b; come_b = come_b }) made_a made_b) where
  place_a : a.side.end.counts.records ≡ length made_a
  place_a = ap (λ (c : SideSummary). c.records) h.read_a.counts

  place_b : b.side.end.counts.records ≡ length made_b
  place_b = ap (λ (c : SideSummary). c.records) h.read_b.counts

  named : (text come : Option (List ℕ)) (course : Course) (made : List Record) (r : Record) → IsWaiting course r → (place : ℕ) →
      place ≡ length made → place < length (made ++ waiting course.capture.bytes course.ahead)
  named text come course made r w place is =
      rw w.ahead_is (omega (arith, is, length-append made (record_with w.entry course.capture.bytes ∷ [])))

  refused : (side : which.Side) (place : ℕ) (cause : Cause) →
      place < length (of_side side (read_of (along text_a a come_a made_a)) (read_of (along text_b b come_b made_b))).records →
      ((of_a of_b : List Record) → IsLeft a of_a → IsLeft b of_b → EndsWith (side_of a.side) (side_of b.side) of_a of_b (Refused side place cause)) →
      AreRefusedFor text_a text_b side place cause
  refused side place cause within ends = record {
    read = record {
      a_is_part = a.side.is_part;
      b_is_part = b.side.is_part;
      read_a = read_of (along text_a a come_a made_a);
      read_b = read_of (along text_b b come_b made_b);
      from_a = h.read_a.so_far;
      from_b = h.read_b.so_far;
    };
    named = within;
    refused = λ all_a all_b goes_a goes_b.
        let x = goes_left text_a come_a made_a a all_a goes_a in
        let y = goes_left text_b come_b made_b b all_b goes_b in
        subst (λ (xs : List Record). JudgedInPair a.side.is_part b.side.is_part xs all_b (Refused side place cause)) (sym x.is)
        (subst (λ (ys : List Record). JudgedInPair a.side.is_part b.side.is_part (made_a ++ x.left) ys (Refused side place cause)) (sym y.is)
        (h.leads x.left y.left (Refused side place cause) x.may y.may (ends x.left y.left x.may y.may)));
  }

  pub stops_a : (a' b' : Course) (refusal : StepRefusal) → IsStopped a a' b b' refusal →
      AreRefusedFor text_a text_b A a.side.end.counts.records (Step refusal)
  stops_a a' b' refusal m =
      refused A a.side.end.counts.records (Step refusal) (named text_a come_a a made_a m.next m.waits a.side.end.counts.records place_a)
      (λ of_a of_b may_a may_b.
      let left = left_is a m.next m.waits of_a may_a in
      subst (λ (xs : List Record). EndsWith (side_of a.side) (side_of b.side) xs of_b (Refused A a.side.end.counts.records (Step refusal)))
      (sym left.1) (StopsA (side_of a.side) (side_of b.side) m.next left.0 of_b refusal
      (facing_fits (side_of a.side) b of_b may_b m.next (Stops refusal) m.step_is (stops refusal))))

  module _ (a_waits : Bool) (before : Course) (stands : Stands a_waits a before) (looked : IsLookedAt before b) (same : b.side ≡ before.side)
      (ready_a : IsReady a) where
    pub stops_b : (a' b' : Course) (refusal : StepRefusal) → IsStopped b b' a a' refusal →
        AreRefusedFor text_a text_b B b.side.end.counts.records (Step refusal)
    stops_b a' b' refusal m =
        refused B b.side.end.counts.records (Step refusal) (named text_b come_b b made_b m.next m.waits b.side.end.counts.records place_b)
        (λ of_a of_b may_a may_b.
        let left = left_is b m.next m.waits of_b may_b in
        subst (λ (ys : List Record). EndsWith (side_of a.side) (side_of b.side) of_a ys (Refused B b.side.end.counts.records (Step refusal)))
        (sym left.1) (StopsB (side_of a.side) (side_of b.side) m.next of_a left.0 refusal
        (stands_still a before b (facing_before before b m.next looked same m.waits) a_waits stands of_a may_a m.next left.0)
        (subst (λ (f : Facing). step_in_pair (side_of b.side) f m.next ≡ Stops refusal) (sym (ready_facing a of_a ready_a may_a)) m.step_is)))

  -- both wait
  pub no_order : (before b' a' : Course) → Stands true a before → IsLookedAt before b → b.side ≡ before.side → IsReady a → IsBlocked b b' a a' →
      AreRefusedFor text_a text_b A a.side.end.counts.records NoOrder
  no_order before b' a' stands looked same ready_a m =
      refused A a.side.end.counts.records NoOrder (named text_a come_a a made_a stands.0 stands.1 a.side.end.counts.records place_a)
      (λ of_a of_b may_a may_b.
      let left_a = left_is a stands.0 stands.1 of_a may_a in
      let left_b = left_is b m.next m.waits of_b may_b in
      let still = stands_still a before b (facing_before before b m.next looked same m.waits) true stands of_a may_a m.next left_b.0 in
      let step = subst (λ (f : Facing). step_in_pair (side_of b.side) f m.next ≡ Waits) (sym (ready_facing a of_a ready_a may_a)) m.step_is in
      let still_r = subst (λ (xs : List Record). StandsStill (side_of a.side) (side_of b.side) xs (m.next ∷ left_b.0)) left_a.1 still in
      let step_s = subst (λ (xs : List Record). step_in_pair (side_of b.side) (facing (side_of a.side) xs) m.next ≡ Waits) left_a.1 step in
      subst (λ (xs : List Record). EndsWith (side_of a.side) (side_of b.side) xs of_b (Refused A a.side.end.counts.records NoOrder)) (sym left_a.1)
      (subst (λ (ys : List Record). EndsWith (side_of a.side) (side_of b.side) (stands.0 ∷ left_a.0) ys
      (Refused A a.side.end.counts.records NoOrder)) (sym left_b.1)
      (WaitBoth (side_of a.side) (side_of b.side) stands.0 m.next left_a.0 left_b.0 still_r step_s)))

  -- b waits, and a has ended
  pub none_of_a : (a' b' : Course) → a.ahead ≡ Ended → IsReady a → IsBlocked b b' a a' →
      AreRefusedFor text_a text_b B b.side.end.counts.records NoSuchUnit
  none_of_a a' b' is ready_a m =
      refused B b.side.end.counts.records NoSuchUnit (named text_b come_b b made_b m.next m.waits b.side.end.counts.records place_b)
      (λ of_a of_b may_a may_b.
      let left = left_is b m.next m.waits of_b may_b in
      let step = subst (λ (f : Facing). step_in_pair (side_of b.side) f m.next ≡ Waits) (sym (ready_facing a of_a ready_a may_a)) m.step_is in
      subst (λ (ys : List Record). EndsWith (side_of a.side) (side_of b.side) of_a ys (Refused B b.side.end.counts.records NoSuchUnit)) (sym left.1)
      (subst (λ (xs : List Record). EndsWith (side_of a.side) (side_of b.side) xs (m.next ∷ left.0)
      (Refused B b.side.end.counts.records NoSuchUnit)) (sym (none_left a is of_a may_a))
      (WaitsB (side_of a.side) (side_of b.side) m.next left.0
      (subst (λ (xs : List Record). step_in_pair (side_of b.side) (facing (side_of a.side) xs) m.next ≡ Waits) (none_left a is of_a may_a) step))))

  -- a waits, and b has ended
  pub none_of_b : (a' b' : Course) → b.ahead ≡ Ended → IsBlocked a a' b b' → AreRefusedFor text_a text_b A a.side.end.counts.records NoSuchUnit
  none_of_b a' b' is m =
      refused A a.side.end.counts.records NoSuchUnit (named text_a come_a a made_a m.next m.waits a.side.end.counts.records place_a)
      (λ of_a of_b may_a may_b.
      let left = left_is a m.next m.waits of_a may_a in
      let step : step_in_pair (side_of a.side) (record { is_part = b.side.is_part; has_ended = true }) m.next ≡ Waits = rw is at m.step_is in
      subst (λ (xs : List Record). EndsWith (side_of a.side) (side_of b.side) xs of_b (Refused A a.side.end.counts.records NoSuchUnit)) (sym left.1)
      (subst (λ (ys : List Record). EndsWith (side_of a.side) (side_of b.side) (m.next ∷ left.0) ys
      (Refused A a.side.end.counts.records NoSuchUnit)) (sym (none_left b is of_b may_b))
      (WaitsA (side_of a.side) (side_of b.side) m.next left.0 step)))
