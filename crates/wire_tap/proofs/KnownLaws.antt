-- What is known of a side and what is said of it, when one unit more passed.
use Rattle.std.proofs.Common.{◌≡◌, ◌⊎◌, inl, inr, ℕ, Bool, true, Option, Some, None, List, [], ◌∷◌, ◌++◌, length, refl, sym, ap, subst}
use Rattle.std.proofs.Common.{◌∙◌, arith, append_assoc, append-nil, length-append}
use Rattle.std.proofs.lemmas.List.{map-append}
use Rattle.std.specs.Prelude.{IfSome}
use Rattle.wire_base.specs.Side.{other_side}
use Rattle.wire_base.specs.declared.side.Side.{Side}
use Rattle.wire_base.specs.declared.side.Side.TheVariants.{A, B}
use Rattle.dna_station.specs.declared.head.Head.{Head}
use Rattle.accusing.specs.Placing.{Passed as Seen, Own, Other}
use Rattle.wire_tap.specs.Accusing.{HasException, IsCharged, IsDoubted, Names, NamesOne, charge_of, is_doubted, seen, seen_by}
use Rattle.wire_tap.specs.Units.{UnitPassed, unit_if, unit_passed, units_by}
use Rattle.wire_tap.specs.declared.accusation.Exception.{Exception}
use Rattle.wire_tap.specs.declared.accusers.Accusers.{Accusers}
use Rattle.wire_tap.specs.declared.exception.Charge.{Charge}
use Rattle.wire_tap.specs.declared.suspects.SideAccused.{SideAccused}
use Rattle.wire_tap.specs.declared.suspects.Suspect.{Suspect}
use Rattle.wire_tap.specs.declared.tapped.Passed.{Passed}
use Rattle.wire_tap.specs.inner.Accused.{FirstIs, IsKnown, IsSuspected, Know, SegmentIs}
use Rattle.wire_tap.specs.inner.Side.{counted}
use Rattle.wire_tap.proofs.ChargeLaws.{charge_means, doubt_means}

-- ---- the units of a side

pub seen-more : (side : Side) (passed : List UnitPassed) (u : UnitPassed) →
    seen side (passed ++ u ∷ []) ≡ seen side passed ++ seen_by side u.side u.bytes ∷ []
seen-more side passed u = map-append (λ (v : UnitPassed). seen_by side v.side v.bytes) passed (u ∷ [])

pub by-more : (side : Side) (passed : List UnitPassed) (u : UnitPassed) →
    units_by side (passed ++ u ∷ []) ≡ units_by side passed ++ unit_if side u.side u.bytes
by-more side [] u = append-nil (unit_if side u.side u.bytes)
by-more side (v ∷ passed) u =
    ap (λ (units : List (List ℕ)). unit_if side v.side v.bytes ++ units) (by-more side passed u)
    ∙ sym (append_assoc (unit_if side v.side v.bytes) (units_by side passed) (unit_if side u.side u.bytes))

sees_own : (side : Side) (unit : List ℕ) → seen_by side side unit ≡ Own unit
sees_own A unit = refl
sees_own B unit = refl

sees_other : (side : Side) (unit : List ℕ) → seen_by (other_side side) side unit ≡ Other unit
sees_other A unit = refl
sees_other B unit = refl

one_own : (side : Side) (unit : List ℕ) → unit_if side side unit ≡ unit ∷ []
one_own A unit = refl
one_own B unit = refl

none_other : (side : Side) (unit : List ℕ) → unit_if (other_side side) side unit ≡ []
none_other A unit = refl
none_other B unit = refl

-- ---- what was said stays

module _ (line_alone : Bool) (head : Head) (side : Side) (passed more : List UnitPassed) where
  one_later : (named : Passed) → NamesOne line_alone head side passed named → NamesOne line_alone head side (passed ++ more) named
  one_later named one = record {
    before = one.before;
    unit = one.unit;
    later = one.later ++ more;
    are = ap (λ (us : List UnitPassed). us ++ more) one.are ∙ append_assoc one.before (one.unit ∷ one.later) more;
    names = one.names;
  }

  pub charged_later : (named : Passed) (unless : Option Exception) → IsCharged line_alone head side passed named unless →
      IsCharged line_alone head side (passed ++ more) named unless
  unfolding one_later
  charged_later named unless is =
      record { one = one_later named is.one; charge = is.charge; says = is.says; means = is.means; unless_is = is.unless_is }

  pub doubted_later : (named : Passed) → IsDoubted line_alone head side passed named → IsDoubted line_alone head side (passed ++ more) named
  unfolding one_later
  doubted_later named is = record { one = one_later named is.one; says_none = is.says_none; says = is.says; means = is.means }

  pub segment_later : (segment : Option Suspect) → SegmentIs line_alone head side passed segment →
      SegmentIs line_alone head side (passed ++ more) segment
  segment_later None is = tt
  segment_later (Some suspect) is = doubted_later suspect.passed is

-- ---- a unit of the other side

module _ (line_alone : Bool) (head : Head) (side : Side) (passed : List UnitPassed) (unit : List ℕ) (line : ℕ) where
  abbrev on : List UnitPassed
  on = passed ++ unit_passed side unit line ∷ []

  heard : (first : Option Suspect) (accusers new : Accusers) →
      (Know line_alone head (seen (other_side side) passed) accusers →
      Know line_alone head (seen (other_side side) passed ++ Other unit ∷ []) new) →
      FirstIs line_alone head (other_side side) passed first accusers → FirstIs line_alone head (other_side side) on first new
  heard None accusers new hears is =
      let same : seen (other_side side) on ≡ seen (other_side side) passed ++ Other unit ∷ [] =
      seen-more (other_side side) passed (unit_passed side unit line)
      ∙ ap (λ (one : Seen). seen (other_side side) passed ++ one ∷ []) (sees_other side unit) in
      subst (λ (all : List Seen). Know line_alone head all new) (sym same) (hears is)
  heard (Some suspect) accusers new hears is =
      charged_later line_alone head (other_side side) passed (unit_passed side unit line ∷ []) suspect.passed suspect.unless is

  pub known_heard : (s : SideAccused) (new : Accusers) → IsKnown line_alone head (other_side side) passed s →
      (Know line_alone head (seen (other_side side) passed) s.accusers →
      Know line_alone head (seen (other_side side) passed ++ Other unit ∷ []) new) →
      IsKnown line_alone head (other_side side) on (record s { accusers = new })
  known_heard s new is hears = record {
    side_is = is.side_is;
    count = is.count ∙ ap (λ (units : List (List ℕ)). counted 0 (length units)) (sym (
        by-more (other_side side) passed (unit_passed side unit line)
        ∙ ap (λ (one : List (List ℕ)). units_by (other_side side) passed ++ one) (none_other side unit)
        ∙ append-nil (units_by (other_side side) passed)));
    first = heard s.first s.accusers new hears is.first;
    segment = segment_later line_alone head (other_side side) passed (unit_passed side unit line ∷ []) s.segment is.segment;
  }

-- ---- a unit of the side

module _ (line_alone : Bool) (head : Head) (side : Side) (passed : List UnitPassed) (unit : List ℕ) (named : Passed) (s : SideAccused)
    (is : IsKnown line_alone head side passed s) (side_is : named.side ≡ side) (unit_is : named.unit ≡ s.count) where
  abbrev this : UnitPassed
  this = unit_passed side unit named.line

  abbrev with_this : List UnitPassed
  with_this = passed ++ this ∷ []

  names_this : Names side passed this named
  names_this = record {
    of = refl;
    side_is = side_is;
    number = λ few. let count = is.count in omega arith;
    line = refl;
  }

  one_this : (other : Passed) → other ≡ named → NamesOne line_alone head side with_this other
  one_this other same = record {
    before = passed;
    unit = this;
    later = [];
    are = refl;
    names = subst (Names side passed this) (sym same) names_this;
  }

  pub charged_this : (suspect : Suspect) (charge : Charge) → suspect.passed ≡ named → HasException charge suspect.unless →
      charge_of line_alone head (seen side passed) unit ≡ Some charge → IsSuspected line_alone head side with_this suspect
  unfolding one_this
  charged_this suspect by same unless says = record {
    one = one_this suspect.passed same;
    charge = by;
    says = says;
    means = charge_means head (seen side passed) unit line_alone by says;
    unless_is = unless;
  }

  pub doubted_this : (suspect : Suspect) → suspect.passed ≡ named → charge_of line_alone head (seen side passed) unit ≡ None →
      is_doubted line_alone (seen side passed) unit ≡ true → IsDoubted line_alone head side with_this suspect.passed
  unfolding one_this
  doubted_this suspect same none says = record {
    one = one_this suspect.passed same;
    says_none = none;
    says = says;
    means = doubt_means head (seen side passed) unit line_alone says;
  }

  -- what was said before, or of this unit
  pub segment_this : (segment new : Option Suspect) → SegmentIs line_alone head side passed segment →
      IfSome new (λ suspect. (segment ≡ Some suspect) ⊎ (suspect.passed ≡ named)) → charge_of line_alone head (seen side passed) unit ≡ None →
      is_doubted line_alone (seen side passed) unit ≡ true → SegmentIs line_alone head side with_this new
  segment_this segment None old from none says = tt
  segment_this segment (Some suspect) old (inl was) none says =
      segment_later line_alone head side passed (this ∷ []) (Some suspect) (subst (SegmentIs line_alone head side passed) was old)
  segment_this segment (Some suspect) old (inr same) none says = doubted_this suspect same none says

  pub segment_stays : (segment : Option Suspect) → SegmentIs line_alone head side passed segment → SegmentIs line_alone head side with_this segment
  segment_stays segment old = segment_later line_alone head side passed (this ∷ []) segment old

  pub first_stays : (suspect : Suspect) (accusers new : Accusers) → FirstIs line_alone head side passed (Some suspect) accusers →
      FirstIs line_alone head side with_this (Some suspect) new
  first_stays suspect accusers new old = charged_later line_alone head side passed (this ∷ []) suspect.passed suspect.unless old

  pub first_same : (first : Option Suspect) (suspect : Suspect) (accusers new : Accusers) → first ≡ Some suspect →
      FirstIs line_alone head side passed first accusers → FirstIs line_alone head side with_this first new
  first_same None suspect accusers new e old = absurd cc
  first_same (Some one) suspect accusers new e old = first_stays one accusers new old

  pub seen_this : (accusers : Accusers) → Know line_alone head (seen side passed ++ Own unit ∷ []) accusers →
      Know line_alone head (seen side with_this) accusers
  seen_this accusers known =
      let same : seen side with_this ≡ seen side passed ++ Own unit ∷ [] =
      seen-more side passed this ∙ ap (λ (one : Seen). seen side passed ++ one ∷ []) (sees_own side unit) in
      subst (λ (all : List Seen). Know line_alone head all accusers) (sym same) known

  pub known_this : (new : SideAccused) → new.side ≡ s.side → new.count ≡ counted s.count 1 →
      FirstIs line_alone head side with_this new.first new.accusers →
      SegmentIs line_alone head side with_this new.segment → IsKnown line_alone head side with_this new
  known_this new same count first segment = record {
    side_is = same ∙ is.side_is;
    count =
        let old = is.count in
        let more = ap length (by-more side passed this ∙ ap (λ (one : List (List ℕ)). units_by side passed ++ one) (one_own side unit)) in
        omega (arith, length-append (units_by side passed) (unit ∷ []));
    first = first;
    segment = segment;
  }
