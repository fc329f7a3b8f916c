-- The check that an arrival does not pass: it is the one for which the table refuses, and with what is allowed it is passed.
use Rattle.std.proofs.Common.{◌≡◌, ℕ, Bool, true, false, ◌&&◌, cond, eq-eqb, Option, Some, None, refl, ap, ap₂, ◌∙◌, option_map}
use Rattle.dna_station.specs.declared.refusal.StationRefusal.{StationRefusal}
use Rattle.dna_station.specs.declared.refusal.StationRefusal.TheVariants.{CrossedPeriod}
use Rattle.dna_station.specs.declared.tag.Tag.{Tag}
use Rattle.dna_station.specs.Table as table
use Rattle.dna_station.specs.PeriodRule.{PeriodRule, is_period, meets}
use Rattle.dna_station.specs.Book.{ArrivalValue, Sound, HeaderBad, DataBad, keep_refusal, takes_by}
use Rattle.dna_station.specs.WireStation.{WireStation}
use Rattle.dna_station.specs.WireBook.{wire_arrival_refusal, wire_book, wire_tag}
use Rattle.ddcmp_station.specs.Failed.{failed_arrival, failed_keep, needs_of, refusal_of_arrival}
use Rattle.ddcmp_station.specs.declared.failed.FailedArrival.{FailedArrival}
use Rattle.ddcmp_station.specs.declared.failed.FailedArrival.TheVariants.{Period}
use Rattle.dna_station.specs.declared.arrival_row.PeriodNeed.{PeriodNeed}

keep_same : (takes kept : Bool) → option_map refusal_of_arrival (failed_keep takes kept) ≡ keep_refusal takes kept
keep_same true true = refl
keep_same true false = refl
keep_same false true = refl
keep_same false false = refl

crossed_same : (b : Bool) (o : Option FailedArrival) (p : Option StationRefusal) (needs : PeriodNeed) (seen own : Tag) →
    option_map refusal_of_arrival o ≡ p →
    option_map refusal_of_arrival (cond b o (Some (Period needs seen own))) ≡ cond b p (Some CrossedPeriod)
crossed_same true o p needs seen own same = same
crossed_same false o p needs seen own same = refl

module _ {L : Type 0} (rule : PeriodRule) (w : WireStation L) where
  pub arrival_same : (arrival : ArrivalValue Tag) (kept : Bool) →
      option_map refusal_of_arrival (failed_arrival rule w arrival kept) ≡ wire_arrival_refusal rule w arrival kept
  arrival_same (Sound m tag) kept =
      crossed_same (rule (meets (needs_of w m) (wire_tag w) tag)) _ _ _ tag (wire_tag w) (keep_same (takes_by wire_book w m tag) kept)
  arrival_same HeaderBad kept = keep_same false kept
  arrival_same DataBad kept = keep_same false kept

-- ---- with what is allowed

known_period : (o : Option ℕ) (n : ℕ) → o ≡ Some n → is_period o n ≡ true
known_period o n is = ap (λ x. is_period x n) is ∙ eq-eqb n n refl

pub fresh_passes : (own tag : Tag) → tag.partner ≡ Some own.period → meets table.Fresh own tag ≡ true
fresh_passes own tag is = known_period tag.partner own.period is

pub of_pair_passes : (own tag : Tag) → own.partner ≡ Some tag.period → tag.partner ≡ Some own.period → meets table.OfPair own tag ≡ true
of_pair_passes own tag partner is = ap₂ (λ a b. a && b) (known_period own.partner tag.period partner) (known_period tag.partner own.period is)

pub not_kept_passes : (takes : Bool) → keep_refusal takes false ≡ None
not_kept_passes true = refl
not_kept_passes false = refl
