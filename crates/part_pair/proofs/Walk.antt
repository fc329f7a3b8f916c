-- Both sides along their captures: what was read and made of each, and what a turn then finds.
use Rattle.std.proofs.Common.{◌≡◌, Bool, true, false, ℕ, ◌+◌, ◌≤◌, List, [], ◌∷◌, ◌++◌, length, Option, refl, sym, ap, subst, ◌∙◌}
use Rattle.std.proofs.Common.{arith, length-append, append-nil}
use Rattle.capture_record.specs.declared.entry.Entry.{Entry}
use Rattle.capture_record.specs.declared.record.Record.{Record}
use Rattle.capture_record.specs.declared.record.Record.TheVariants.{Sent, Received, Noise, User}
use Rattle.capture_record.specs.Range.{IsRecord}
use Rattle.capture.specs.declared.limit.TheConstants.{MAX_RECORDS}
use Rattle.capture.specs.SoFar.{ToCome, so_far}
use Rattle.pair_judge.specs.declared.summary.SideSummary.{SideSummary}
use Rattle.pair_judge.specs.Summary.{counted}
use Rattle.pair_judge.proofs.Turns.{counts_of-push}
use Rattle.part_station.specs.Cases.{Cases, cases_step}
use Rattle.part_station.specs.Low.{AreAllLow}
use Rattle.part_station.specs.Piece.{HasBytes}
use Rattle.part_station.proofs.LowSteps.{low_step}
use Rattle.part_judge.specs.declared.part_end.PartEnd.{PartEnd}
use Rattle.part_judge.specs.Ends.{node_of_end}
use Rattle.part_judge.specs.Steps.{PartNode, StepInPart, Makes, Refuses, step_in_part}
use Rattle.part_judge.proofs.PartWalk.{cases_are, has_bytes, low_higher}
use Rattle.part_pair.specs.declared.course.Ahead.{Ahead}
use Rattle.part_pair.specs.declared.course.Ahead.TheVariants.{Unread, Waits as IsAhead, Ended}
use Rattle.part_pair.specs.declared.course.Course.{Course}
use Rattle.part_pair.specs.declared.facing.Facing.{Facing}
use Rattle.part_pair.specs.Courses.{StandsStill}
use Rattle.part_pair.specs.Judged.{IsSoFar}
use Rattle.part_pair.specs.Sides.{Side, StepInPair, Goes, Waits, FoundUnit, Comes, ComesFromBehind, IsToCome, CannotCome, after_step}
use Rattle.part_pair.specs.Sides.{found, number_of, or_first, receipt_step, step_in_pair, with_record}
use Rattle.part_pair.specs.inner.Ends.{side_of}
use Rattle.part_pair.specs.inner.Tracks.{IsLeft, IsLookedAt, IsMade, IsRead, IsReady}
use Rattle.part_pair.specs.inner.Tracks.{IsWaiting, MayRead, MayReadAhead, Stands, StaysWhereRead, along}
use Rattle.part_pair.specs.inner.Tracks.{ended, facing_of}

-- ---- a record that was made

abbrev part_in : Side → StepInPair → Bool
part_in other (Goes s) = s.is_part
part_in other step = other.is_part

abbrev node_in : Side → StepInPair → PartNode
node_in other (Goes s) = s.node
node_in other step = other.node

-- it was made by its end, with its hint counted from 1 on
pub record Went (s next : Side) (r : Record) : Type 0 where
  pub is_part : next.is_part ≡ s.is_part
  pub by : Record
  pub bytes : HasBytes r → HasBytes by
  pub alike : (c : Cases) → cases_step c r ≡ cases_step c by
  pub step : step_in_part s.node by ≡ Makes next.node

module _ (s next : Side) where
  by_end : (coming : List (List ℕ)) (alone_from : Option ℕ) (r by : Record) (bytes : HasBytes r → HasBytes by)
      (alike : (c : Cases) → cases_step c r ≡ cases_step c by) (step : StepInPart) → step_in_part s.node by ≡ step →
      after_step s coming alone_from step ≡ Goes next → Went s next r
  by_end coming alone_from r by bytes alike (Makes node) e is = record {
    is_part = sym (ap (part_in s) is);
    by = by;
    bytes = bytes;
    alike = alike;
    step = e ∙ ap (λ (x : StepInPair). Makes (node_in s x)) is;
  }
  by_end coming alone_from r by bytes alike (Refuses accused reason) e is = absurd (cc)

  by_found : (r by : Record) (bytes : HasBytes r → HasBytes by) (alike : (c : Cases) → cases_step c r ≡ cases_step c by) (unit : FoundUnit) →
      receipt_step s by unit ≡ Goes next → Went s next r
  by_found r by bytes alike (Comes rest) is = by_end rest s.alone_from r by bytes alike (step_in_part s.node by) refl is
  by_found r by bytes alike ComesFromBehind is = by_end [] (or_first s.alone_from s.made) r by bytes alike (step_in_part s.node by) refl is
  by_found r by bytes alike IsToCome is = absurd (cc)
  by_found r by bytes alike (CannotCome reason) is = absurd (cc)

  pub went : (f : Facing) (r : Record) → step_in_pair s f r ≡ Goes next → Went s next r
  went f (Sent bytes) is = by_end s.coming s.alone_from (Sent bytes) (Sent bytes) (λ b. b) (λ c. refl) (step_in_part s.node (Sent bytes)) refl is
  went f (Noise bytes) is = by_end s.coming s.alone_from (Noise bytes) (Noise bytes) (λ b. b) (λ c. refl) (step_in_part s.node (Noise bytes)) refl is
  went f (User event) is = by_end s.coming s.alone_from (User event) (User event) (λ b. b) (λ c. refl) (step_in_part s.node (User event)) refl is
  went f (Received hint fate bytes) is =
      by_found (Received hint fate bytes) (Received (number_of s hint) fate bytes) (λ b. b) (λ c. refl) (found s f (number_of s hint) bytes) is

same_part : (s : Side) (r : Record) → (with_record s r).is_part ≡ s.is_part
same_part s (Sent bytes) = refl
same_part s (Received hint fate bytes) = refl
same_part s (Noise bytes) = refl
same_part s (User event) = refl

-- the next record was read
ready_record : (course : Course) (r : Record) → IsReady course → IsWaiting course r → IsRecord r
ready_record course r ready w =
    let is = rw w.ahead_is at ready in
    subst IsRecord w.is is.1

ready_phase : (course : Course) (r : Record) → IsReady course → IsWaiting course r → MayReadAhead Unread course.capture
ready_phase course r ready w =
    let is = rw w.ahead_is at ready in
    is.0

-- the side whose record was made
module _ (text come : Option (List ℕ)) (old new other_old other_new : Course) (made : List Record) (h : IsRead (along text old come made))
    (ready : IsReady old) (m : IsMade old new other_old other_new) where
  own_went : Went (side_of old.side) (side_of new.side) m.next
  own_went = went (side_of old.side) (side_of new.side) (facing_of other_old) m.next m.step_is

  own_so : IsSoFar old.side.is_part text (so_far old.capture.form old.capture.own old.capture.peer (made ++ m.next ∷ []) (ToCome come))
  own_so = rw (m.waits.ahead_is, m.waits.is) at h.so_far

  own_count : old.capture.records ≡ length (made ++ m.next ∷ [])
  own_count = rw (m.waits.ahead_is, m.waits.is) at h.count

  own_few : length (made ++ m.next ∷ []) ≤ MAX_RECORDS
  own_few = rw (m.waits.ahead_is, m.waits.is) at h.few

  pub own_part : new.side.is_part ≡ old.side.is_part
  own_part = own_went.is_part

  pub own_read : IsRead (along text new come (made ++ m.next ∷ []))
  own_read = record {
    so_far = rw (m.unread, m.capture, own_part, append-nil (made ++ m.next ∷ [])) own_so;
    form = rw (m.capture, own_part) h.form;
    count = rw (m.unread, m.capture, append-nil (made ++ m.next ∷ [])) own_count;
    few = rw (m.unread, append-nil (made ++ m.next ∷ [])) own_few;
    counts = m.counts ∙ ap (λ (c : SideSummary). counted c m.next) h.counts ∙ sym (counts_of-push made m.next);
    low = low_higher (1024 + length made + 1) (1024 + length (made ++ m.next ∷ [])) (omega (arith, length-append made (m.next ∷ [])))
        new.side.end.station (low_step (1024 + length made) old.side.end.station new.side.end.station (omega arith) h.low own_went.by
        (own_went.bytes (has_bytes m.next (ready_record old m.next ready m.waits)))
        (cases_are (node_of_end old.side.end) (node_of_end new.side.end) own_went.by own_went.step));
  }

  pub own_may_read : MayRead new
  own_may_read = rw (m.unread, m.capture) (ready_phase old m.next ready m.waits)

-- and the other one
module _ (text come : Option (List ℕ)) (old new other_old other_new : Course) (made : List Record) (h : IsRead (along text other_old come made))
    (m : IsMade old new other_old other_new) where
  pub other_part : other_new.side.is_part ≡ other_old.side.is_part
  other_part = ap (λ (s : Side). s.is_part) m.told ∙ same_part (side_of other_old.side) m.next

  pub other_read : IsRead (along text other_new come made)
  other_read = record {
    so_far = rw (m.other.capture, m.other.ahead, other_part) h.so_far;
    form = rw (m.other.capture, other_part) h.form;
    count = rw (m.other.capture, m.other.ahead) h.count;
    few = rw (m.other.capture, m.other.ahead) h.few;
    counts = ap (λ (e : PartEnd). e.counts) m.other_end ∙ h.counts;
    low = subst (AreAllLow (1024 + length made)) (sym (ap (λ (e : PartEnd). e.station) m.other_end)) h.low;
  }

  pub other_may_read : MayRead other_old → MayRead other_new
  other_may_read may = rw (m.other.capture, m.other.ahead) may

  pub other_left : (left : List Record) → IsLeft other_new left → IsLeft other_old left
  other_left left may = rw (m.other.capture, m.other.ahead) at may

-- ---- what is left

pub left_is : (course : Course) (r : Record) → IsWaiting course r → (left : List Record) → IsLeft course left →
    (rest : List Record) × (left ≡ r ∷ rest)
left_is course r w left may =
    let is = rw w.ahead_is at may in
    (is.0, is.1 ∙ ap (λ (x : Record). x ∷ is.0) w.is)

pub may_be_left : (course : Course) (r : Record) → IsWaiting course r → (rest : List Record) → IsLeft course (r ∷ rest)
may_be_left course r w rest = rw w.ahead_is (rest, ap (λ (x : Record). x ∷ rest) (sym w.is))

pub none_left : (course : Course) → course.ahead ≡ Ended → (left : List Record) → IsLeft course left → left ≡ []
none_left course is left may = rw is at may

-- ---- side a stands still

ended_not_read : (entry : Entry) → Ended ≡ IsAhead entry → ⊥
ended_not_read entry is = absurd (cc)

not_ended : (ahead : Ahead) (old new : Course) (r : Record) → old.ahead ≡ ahead → StaysWhereRead ahead old new → IsWaiting new r →
    ended ahead ≡ false
not_ended Unread old new r e same w = refl
not_ended (IsAhead entry) old new r e same w = refl
not_ended Ended old new r e same w = absurd (ended_not_read w.entry (sym e ∙ sym (ap (λ (c : Course). c.ahead) same) ∙ w.ahead_is))

-- where b was looked at, and its next record was read
pub facing_before : (old new : Course) (r : Record) → IsLookedAt old new → new.side ≡ old.side → IsWaiting new r →
    facing_of old ≡ record { is_part = new.side.is_part; has_ended = false }
facing_before old new r looked same w =
    rw (same, not_ended old.ahead old new r refl looked w) refl

module _ (a before b : Course) (still : facing_of before ≡ record { is_part = b.side.is_part; has_ended = false }) where
  pub stands_still : (a_waits : Bool) → Stands a_waits a before → (of_a : List Record) → IsLeft a of_a → (s : Record) (of_b : List Record) →
      StandsStill (side_of a.side) (side_of b.side) of_a (s ∷ of_b)
  stands_still true stands of_a may s of_b =
      let left = left_is a stands.0 stands.1 of_a may in
      subst (λ (xs : List Record). StandsStill (side_of a.side) (side_of b.side) xs (s ∷ of_b)) (sym left.1)
      (subst (λ (f : Facing). step_in_pair (side_of a.side) f stands.0 ≡ Waits) still stands.2)
  stands_still false stands of_a may s of_b =
      subst (λ (xs : List Record). StandsStill (side_of a.side) (side_of b.side) xs (s ∷ of_b)) (sym (none_left a stands of_a may)) tt
