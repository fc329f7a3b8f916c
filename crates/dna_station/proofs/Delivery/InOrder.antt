-- The periods that took packets went with periods of the other side that rise.
use Rattle.std.proofs.Common.{◌≡◌, ℕ, ◌+◌, ◌<◌, ◌≤◌, ◌⊎◌, inl, inr, true, Option, Some, List, [], ◌∷◌, ◌++◌, length, refl, sym, ap, ◌∙◌, subst, arith}
use Rattle.std.specs.Prelude.{slice_get}
use Rattle.std.proofs.lemmas.Bool.{cases_lt}
use Rattle.std.proofs.lemmas.Option.{slice_get_within, same_Some}
use Rattle.two_nodes.proofs.Order.{slice_get-append}
use Rattle.two_nodes.proofs.Listed.{next_at}
use Rattle.dna_station.specs.declared.state.StationEvent.TheVariants.{Start}
use Rattle.dna_station.specs.Station.{Station, PastPeriod, past, after_event}
use Rattle.dna_station.specs.Delivery.{periods}
use Rattle.dna_station.specs.Line.{SentUnit}
use Rattle.two_nodes.proofs.NumberedSteps.{each_pushed, pairs_pushed}
use Rattle.dna_station.proofs.Steps.Effects.{Stays}
use Rattle.dna_station.proofs.Delivery.Steps.{TookPacket}
use Rattle.dna_station.proofs.Bounds.Numbers.{is_data}
use Rattle.dna_station.proofs.Delivery.Partnered.{Partnered}

-- a packet was taken in this period, from a data message among the first ones of the other side
pub record TakenFrom (other : List SentUnit) (front q : ℕ) (partner : Option ℕ) : Type 0 where
  pub place : ℕ
  pub unit : SentUnit
  pub earlier : place < front
  pub there : slice_get other place ≡ Some unit
  pub carries : is_data unit.message ≡ true
  pub from : partner ≡ Some unit.known.tag.period
  pub to : unit.known.tag.partner ≡ Some q

-- of a period with what it took
abbrev pub IsFrom : List SentUnit → ℕ → ℕ → PastPeriod → Type 0
IsFrom other front q period = (period.taken ≡ []) ⊎ TakenFrom other front q period.partner

-- of two periods, if both took packets
pub record Rises (one other : Option ℕ) : Type 0 where
  pub low : ℕ
  pub high : ℕ
  pub below : low < high
  pub one_is : one ≡ Some low
  pub other_is : other ≡ Some high

abbrev pub AreInOrder : PastPeriod → PastPeriod → Type 0
AreInOrder one next = (one.taken ≡ []) ⊎ ((next.taken ≡ []) ⊎ Rises one.partner next.partner)

pub record TakesInOrder (ps : List PastPeriod) (other : List SentUnit) (front : ℕ) : Type 0 where
  pub from : (q : ℕ) (x : PastPeriod) → slice_get ps q ≡ Some x → IsFrom other front q x
  pub rising : (q r : ℕ) (x y : PastPeriod) → q < r → slice_get ps q ≡ Some x → slice_get ps r ≡ Some y → AreInOrder x y

-- ---- what grows beside it

from_grown : (other further : List SentUnit) (front front' q : ℕ) (x : PastPeriod) → front ≤ front' →
    ((k : ℕ) (u : SentUnit) → slice_get other k ≡ Some u → slice_get further k ≡ Some u) → IsFrom other front q x → IsFrom further front' q x
from_grown other further front front' q x more grown (inl e) = inl e
from_grown other further front front' q x more grown (inr t) = inr (record {
  place = t.place;
  unit = t.unit;
  earlier = let e = t.earlier in omega arith;
  there = grown t.place t.unit t.there;
  carries = t.carries;
  from = t.from;
  to = t.to;
})

pub takes_beside : (ps : List PastPeriod) (other further : List SentUnit) (front front' : ℕ) → front ≤ front' →
    ((k : ℕ) (u : SentUnit) → slice_get other k ≡ Some u → slice_get further k ≡ Some u) → TakesInOrder ps other front →
    TakesInOrder ps further front'
takes_beside ps other further front front' more grown t = record {
  from = λ q x at. from_grown other further front front' q x more grown (t.from q x at);
  rising = t.rising;
}

-- one period more
pub takes_more : (ps : List PastPeriod) (z : PastPeriod) (other : List SentUnit) (front : ℕ) → TakesInOrder ps other front →
    IsFrom other front (length ps) z → ((q : ℕ) (x : PastPeriod) → slice_get ps q ≡ Some x → AreInOrder x z) →
    TakesInOrder (ps ++ z ∷ []) other front
takes_more ps z other front h from rises =
    record { from = each_pushed ps z (IsFrom other front) h.from from; rising = pairs_pushed ps z AreInOrder h.rising rises }

-- ---- the station of the last period changes

module _ (s t : Station) (other : List SentUnit) (front : ℕ) (h : TakesInOrder (periods s) other front) where
  earlier_takes : TakesInOrder s.earlier other front
  earlier_takes = record {
    from = λ q x at. h.from q x (slice_get-append s.earlier (past s ∷ []) q x at);
    rising = λ q r x y less at_q at_r. h.rising q r x y less (slice_get-append s.earlier (past s ∷ []) q x at_q)
        (slice_get-append s.earlier (past s ∷ []) r y at_r);
  }

  with_last : t.earlier ≡ s.earlier → IsFrom other front (length s.earlier) (past t) →
      ((q : ℕ) (x : PastPeriod) → slice_get s.earlier q ≡ Some x → AreInOrder x (past t)) → TakesInOrder (periods t) other front
  with_last earlier last_from last_rises =
      subst (λ (l : List PastPeriod). TakesInOrder (l ++ past t ∷ []) other front) (sym earlier)
      (takes_more s.earlier (past t) other front earlier_takes last_from last_rises)

  last_place : slice_get (periods s) (length s.earlier) ≡ Some (past s)
  last_place = next_at s.earlier [] (past s)

  -- what it took and with whom is the same
  pub takes_last : t.earlier ≡ s.earlier → t.partner ≡ s.partner → t.taken ≡ s.taken → TakesInOrder (periods t) other front
  takes_last earlier partner taken =
      with_last earlier (from_last (h.from (length s.earlier) (past s) last_place))
      (λ q x at. rises_last x (h.rising q (length s.earlier) x (past s) (slice_get_within s.earlier q x at)
      (slice_get-append s.earlier (past s ∷ []) q x at) last_place))
    where
      from_last : IsFrom other front (length s.earlier) (past s) → IsFrom other front (length s.earlier) (past t)
      from_last (inl e) = inl (taken ∙ e)
      from_last (inr f) = inr (subst (λ (x : Option ℕ). TakenFrom other front (length s.earlier) x) (sym partner) f)

      rises_last : (x : PastPeriod) → AreInOrder x (past s) → AreInOrder x (past t)
      rises_last x (inl e) = inl e
      rises_last x (inr (inl e)) = inr (inl (taken ∙ e))
      rises_last x (inr (inr r)) =
          inr (inr (record { low = r.low; high = r.high; below = r.below; one_is = r.one_is; other_is = partner ∙ r.other_is }))

  -- nothing was taken in the last period
  pub takes_none : t.earlier ≡ s.earlier → t.taken ≡ [] → TakesInOrder (periods t) other front
  takes_none earlier none = with_last earlier (inl none) (λ q x at. inr (inl none))

pub takes_start : (s : Station) (other : List SentUnit) (front : ℕ) → TakesInOrder (periods s) other front →
    TakesInOrder (periods (after_event s Start)) other front
takes_start s other front h = takes_more (periods s) (past (after_event s Start)) other front h (inl refl) (λ q x at. inr (inl refl))

-- a packet is taken from the message at this place, which lies behind all that were met before
module _ (s t : Station) (other own : List SentUnit) (front hint : ℕ) (unit : SentUnit) (there : slice_get other hint ≡ Some unit)
    (ahead : front ≤ hint) (count : length s.earlier ≡ s.period) (theirs : Station) (partnered : Partnered theirs other)
    (h : TakesInOrder (periods s) other front) (stays : Stays s t) (p : TookPacket s t unit.message unit.known) where
  carries : is_data unit.message ≡ true
  carries = ap is_data p.message

  partner_is : t.partner ≡ Some unit.known.tag.period
  partner_is = p.partner ∙ p.from

  before_rises : (q : ℕ) (x : PastPeriod) → slice_get s.earlier q ≡ Some x → AreInOrder x (past t)
  before_rises q x at = go (h.from q x (slice_get-append s.earlier (past s ∷ []) q x at))
    where
      w : q < length s.earlier
      w = slice_get_within s.earlier q x at

      rises : (f : TakenFrom other front q x.partner) → (f.unit.known.tag.period < unit.known.tag.period) ⊎
          (unit.known.tag.period ≤ f.unit.known.tag.period) → AreInOrder x (past t)
      rises f (inl l) = inr
          (inr (record { low = f.unit.known.tag.period; high = unit.known.tag.period; below = l; one_is = f.from; other_is = partner_is }))
      rises f (inr l) =
          let e = f.earlier in
          let less : f.place < hint = omega arith in
          let r = partnered.rise f.place hint f.unit unit less f.there there in
          let one = partnered.one_partner f.place hint f.unit unit less f.there there f.carries carries (omega arith) in
          let same : q ≡ s.period = same_Some q s.period (sym f.to ∙ one ∙ p.to) in
          let within = w in let c = count in absurd (omega arith)

      go : IsFrom other front q x → AreInOrder x (past t)
      go (inl e) = inl e
      go (inr f) = rises f (cases_lt f.unit.known.tag.period unit.known.tag.period)

  grown : TakesInOrder (periods s) other (hint + 1)
  grown = takes_beside (periods s) other other front (hint + 1) (omega arith) (λ k u at. at) h

  pub takes_packet : TakesInOrder (periods t) other (hint + 1)
  takes_packet = with_last s t other (hint + 1) grown stays.earlier (inr (record {
    place = hint;
    unit = unit;
    earlier = omega arith;
    there = there;
    carries = carries;
    from = partner_is;
    to = subst (λ (n : ℕ). unit.known.tag.partner ≡ Some n) (sym count) p.to;
  })) before_rises
