-- When the units of receipts had passed, record by record.
use Rattle.std.proofs.Common.{◌≡◌, ℕ, ◌+◌, ◌-◌, ◌≤◌, ◌<◌, Option, Some, None, List, [], ◌∷◌, ◌++◌, drop, length, refl, sym, ap, subst, ◌∙◌, arith}
use Rattle.std.proofs.Common.{length-append}
use Rattle.capture_record.specs.declared.record.Record.{Record}
use Rattle.capture_record.specs.declared.record.Record.TheVariants.{Sent, Received, Noise, User}
use Rattle.placing.specs.Placed.{AllCome, AllFollow, HintsRise, IsInTime, NextIsPast, NextIsSent, Puts, Units, Waiting}
use Rattle.placing.specs.Placed.{other_count, records_of, units_sent, with_other, with_own}
use Rattle.placing.specs.inner.Coming.{HoldsBefore, HoldsOn, Lasts}

-- ---- hints rise

pub rise_lower : (front low limit : ℕ) (rs : List Record) → low ≤ front → HintsRise front limit rs → HintsRise low limit rs
rise_lower front low limit [] less rise = omega (arith, less, rise)
rise_lower front low limit (Sent bytes ∷ rs) less rise = rise_lower front low limit rs less rise
rise_lower front low limit (Received hint fate bytes ∷ rs) less rise = (let first = rise.0 in omega (arith, less, first), rise.1)
rise_lower front low limit (Noise bytes ∷ rs) less rise = rise_lower front low limit rs less rise
rise_lower front low limit (User event ∷ rs) less rise = rise_lower front low limit rs less rise

pub rise_higher : (front limit more : ℕ) (rs : List Record) → limit ≤ more → HintsRise front limit rs → HintsRise front more rs
rise_higher front limit more [] less rise = omega (arith, less, rise)
rise_higher front limit more (Sent bytes ∷ rs) less rise = rise_higher front limit more rs less rise
rise_higher front limit more (Received hint fate bytes ∷ rs) less rise = (rise.0, rise_higher (hint + 1) limit more rs less rise.1)
rise_higher front limit more (Noise bytes ∷ rs) less rise = rise_higher front limit more rs less rise
rise_higher front limit more (User event ∷ rs) less rise = rise_higher front limit more rs less rise

pub rise-append : (front middle limit : ℕ) (rs more : List Record) → HintsRise front middle rs → HintsRise middle limit more →
    HintsRise front limit (rs ++ more)
rise-append front middle limit [] more first second = rise_lower middle front limit more first second
rise-append front middle limit (Sent bytes ∷ rs) more first second = rise-append front middle limit rs more first second
rise-append front middle limit (Received hint fate bytes ∷ rs) more first second =
    (first.0, rise-append (hint + 1) middle limit rs more first.1 second)
rise-append front middle limit (Noise bytes ∷ rs) more first second = rise-append front middle limit rs more first second
rise-append front middle limit (User event ∷ rs) more first second = rise-append front middle limit rs more first second

rise_follow : (old new : Units) (acts : List (Option Record)) → AllFollow old acts new → HintsRise old.gone new.gone (records_of acts)
rise_follow old new [] e = let same = ap (λ (u : Units). u.gone) e in omega (arith, same)
rise_follow old new (None ∷ acts) (between, (bytes, n), rest) =
    let gone = n.gone in
    rise_lower between.gone old.gone new.gone (records_of acts) (omega (arith, gone)) (rise_follow between new acts rest)
rise_follow old new (Some (Sent bytes) ∷ acts) (between, n, rest) =
    subst (λ (front : ℕ). HintsRise front new.gone (records_of acts)) n.gone (rise_follow between new acts rest)
rise_follow old new (Some (Received hint fate bytes) ∷ acts) (between, (e, time, n), rest) =
    let gone = n.gone in (
      omega (arith, e),
      subst (λ (front : ℕ). HintsRise front new.gone (records_of acts)) (gone ∙ ap (λ (k : ℕ). k + 1) (sym e)) (rise_follow between new acts rest),
    )
rise_follow old new (Some (Noise bytes) ∷ acts) (between, e, rest) =
    subst (λ (u : Units). HintsRise u.gone new.gone (records_of acts)) e (rise_follow between new acts rest)
rise_follow old new (Some (User event) ∷ acts) (between, e, rest) =
    subst (λ (u : Units). HintsRise u.gone new.gone (records_of acts)) e (rise_follow between new acts rest)

pub puts_rise : (old new : Waiting) (p : Puts old new) → HintsRise old.units.gone new.units.gone (records_of p.acts)
puts_rise old new p = rise_follow old.units new.units p.acts p.follow

-- ---- how many of the other side passed

count_past : (old new : Units) (bytes : List ℕ) → NextIsPast bytes old new → other_count new ≡ other_count old
count_past old new bytes n = let gone = n.gone in let len = ap length n.other in omega (arith, gone, len)

count_follow : (old new : Units) (acts : List (Option Record)) → AllFollow old acts new → other_count new ≡ other_count old
count_follow old new [] e = ap other_count e
count_follow old new (None ∷ acts) (between, (bytes, n), rest) = count_follow between new acts rest ∙ count_past old between bytes n
count_follow old new (Some (Sent bytes) ∷ acts) (between, n, rest) =
    let gone = n.gone in let len = ap length n.other in let on = count_follow between new acts rest in omega (arith, gone, len, on)
count_follow old new (Some (Received hint fate bytes) ∷ acts) (between, (e, time, n), rest) =
    count_follow between new acts rest ∙ count_past old between bytes n
count_follow old new (Some (Noise bytes) ∷ acts) (between, e, rest) = count_follow between new acts rest ∙ ap other_count e
count_follow old new (Some (User event) ∷ acts) (between, e, rest) = count_follow between new acts rest ∙ ap other_count e

pub puts_count : (old new : Waiting) → Puts old new → other_count new.units ≡ other_count old.units
puts_count old new p = count_follow old.units new.units p.acts p.follow

-- ---- what holds of each receipt

module _ (Comes : ℕ → ℕ → Type 0) where
  pub come-append : (sent : ℕ) (rs more : List Record) → AllCome Comes sent rs → AllCome Comes (sent + length (units_sent rs)) more →
      AllCome Comes sent (rs ++ more)
  come-append sent [] more first second =
      let e : sent + length (units_sent []) ≡ sent = omega arith in subst (λ (n : ℕ). AllCome Comes n more) e second
  come-append sent (Sent bytes ∷ rs) more first second =
      come-append (sent + 1) rs more first
      (subst (λ (n : ℕ). AllCome Comes n more)
      (let e : sent + length (units_sent (Sent bytes ∷ rs)) ≡ sent + 1 + length (units_sent rs) = omega arith in e) second)
  come-append sent (Received hint fate bytes ∷ rs) more first second = (first.0, come-append sent rs more first.1 second)
  come-append sent (Noise bytes ∷ rs) more first second = come-append sent rs more first second
  come-append sent (User event ∷ rs) more first second = come-append sent rs more first second

  -- ---- from one record to the next

  before_one : (sent : ℕ) (seen : List ℕ) → HoldsBefore Comes sent seen → HoldsBefore Comes (sent + 1) (drop 1 seen)
  before_one sent [] h = tt
  before_one sent (count ∷ seen) h = h.1

  dropped : (seen : List ℕ) → length (drop 1 seen) ≡ length seen - 1
  dropped [] = refl
  dropped (count ∷ seen) = omega arith

  one_sent : (sent : ℕ) (old new : Units) (bytes : List ℕ) → HoldsOn Comes sent old → NextIsSent bytes old new → HoldsOn Comes (sent + 1) new
  one_sent sent old new bytes h n = record {
    same = let fewer = ap length n.seen in let one = dropped old.seen in let own = ap length n.own in let same = h.same in omega arith;
    before = subst (λ (seen : List ℕ). HoldsBefore Comes (sent + 1) seen) (sym n.seen) (before_one sent old.seen h.before);
    after = λ number less.
        let own = ap length n.own in
        let other = ap length n.other in
        let gone = n.gone in
        let e : sent + length old.own ≡ sent + 1 + length new.own = omega arith in
        subst (λ (k : ℕ). Comes k number) e (h.after number (omega arith));
  }

  one_past : (sent : ℕ) (old new : Units) (bytes : List ℕ) → HoldsOn Comes sent old → NextIsPast bytes old new → HoldsOn Comes sent new
  one_past sent old new bytes h n = record {
    same = ap length n.seen ∙ h.same ∙ sym (ap length n.own);
    before = subst (λ (seen : List ℕ). HoldsBefore Comes sent seen) (sym n.seen) h.before;
    after = λ number less.
        let count = count_past old new bytes n in
        subst (λ (own : List (List ℕ)). Comes (sent + length own) number) (sym n.own) (h.after number (omega arith));
  }

  -- it holds of the next unit of the other side
  now : (sent number total : ℕ) (own : List (List ℕ)) (seen : List ℕ) → length seen ≡ length own → HoldsBefore Comes sent seen →
      ((k : ℕ) → k < total → Comes (sent + length own) k) → number < total → IsInTime number seen → Comes sent number
  now sent number total own [] same before after less time =
      let e : sent + length own ≡ sent = omega arith in subst (λ (k : ℕ). Comes k number) e (after number less)
  now sent number total own (count ∷ seen) same before after less time = before.0 number time

  past_now : (sent : ℕ) (old new : Units) (bytes : List ℕ) → HoldsOn Comes sent old → NextIsPast bytes old new → IsInTime old.gone old.seen →
      Comes sent old.gone
  past_now sent old new bytes h n time =
      let len = ap length n.other in
      now sent old.gone (other_count old) old.own old.seen h.same h.before h.after (omega arith) time

  come_follow : (sent : ℕ) (old new : Units) (acts : List (Option Record)) → HoldsOn Comes sent old → AllFollow old acts new →
      AllCome Comes sent (records_of acts) × HoldsOn Comes (sent + length (units_sent (records_of acts))) new
  come_follow sent old new [] h e =
      let none : sent ≡ sent + 0 = omega arith in
      (tt, subst (λ (k : ℕ). HoldsOn Comes k new) none (subst (λ (u : Units). HoldsOn Comes sent u) (sym e) h))
  come_follow sent old new (None ∷ acts) h (between, (bytes, n), rest) =
      come_follow sent between new acts (one_past sent old between bytes h n) rest
  come_follow sent old new (Some (Sent bytes) ∷ acts) h (between, n, rest) =
      let on = come_follow (sent + 1) between new acts (one_sent sent old between bytes h n) rest in
      let e : sent + 1 + length (units_sent (records_of acts)) ≡ sent + length (units_sent (records_of (Some (Sent bytes) ∷ acts))) = omega arith in
      (on.0, subst (λ (k : ℕ). HoldsOn Comes k new) e on.1)
  come_follow sent old new (Some (Received hint fate bytes) ∷ acts) h (between, (e, time, n), rest) =
      let on = come_follow sent between new acts (one_past sent old between bytes h n) rest in
      let came = past_now sent old between bytes h n (subst (λ (k : ℕ). IsInTime k old.seen) e time) in
      ((subst (Comes sent) (sym e) came, on.0), on.1)
  come_follow sent old new (Some (Noise bytes) ∷ acts) h (between, e, rest) =
      come_follow sent between new acts (subst (λ (u : Units). HoldsOn Comes sent u) (sym e) h) rest
  come_follow sent old new (Some (User event) ∷ acts) h (between, e, rest) =
      come_follow sent between new acts (subst (λ (u : Units). HoldsOn Comes sent u) (sym e) h) rest

  pub puts_come : (sent : ℕ) (old new : Waiting) (p : Puts old new) → HoldsOn Comes sent old.units →
      AllCome Comes sent (records_of p.acts) × HoldsOn Comes (sent + length (units_sent (records_of p.acts))) new.units
  puts_come sent old new p h = come_follow sent old.units new.units p.acts h p.follow

  -- ---- units that pass

  before_more : (sent count : ℕ) (seen : List ℕ) → HoldsBefore Comes sent seen →
      ((number : ℕ) → number < count → Comes (sent + length seen) number) → HoldsBefore Comes sent (seen ++ count ∷ [])
  before_more sent count [] h last =
      let e : sent + length {A = ℕ} [] ≡ sent = omega arith in (λ number less. subst (λ (k : ℕ). Comes k number) e (last number less), tt)
  before_more sent count (first ∷ seen) h last =
      let e : sent + length (first ∷ seen) ≡ sent + 1 + length seen = omega arith in
      (h.0, before_more (sent + 1) count seen h.1 (λ number less. subst (λ (k : ℕ). Comes k number) e (last number less)))

  pub own_holds : Lasts Comes → (sent : ℕ) (unit : List ℕ) (w : Waiting) → HoldsOn Comes sent w.units → HoldsOn Comes sent (with_own unit w).units
  own_holds lasts sent unit w h = record {
    same = length-append w.units.seen (other_count w.units ∷ []) ∙ ap (λ (n : ℕ). n + 1) h.same ∙ sym (length-append w.units.own (unit ∷ []));
    before = before_more sent (other_count w.units) w.units.seen h.before
        (λ number less. subst (λ (n : ℕ). Comes (sent + n) number) (sym h.same) (h.after number less));
    after = λ number less.
        let more = length-append w.units.own (unit ∷ []) in
        lasts (sent + length w.units.own) (sent + length (w.units.own ++ unit ∷ [])) number (omega arith) (h.after number less);
  }

  pub other_holds : (sent : ℕ) (unit : List ℕ) (w : Waiting) → HoldsOn Comes sent w.units →
      ((number : ℕ) → number < other_count w.units + 1 → Comes (sent + length w.units.own) number) → HoldsOn Comes sent (with_other unit w).units
  other_holds sent unit w h after = record {
    same = h.same;
    before = h.before;
    after = λ number less. let more = length-append w.units.other (unit ∷ []) in after number (omega arith);
  }

-- where it holds, something else does
module _ (Comes Other : ℕ → ℕ → Type 0) (on : (sent number : ℕ) → Comes sent number → Other sent number) where
  pub come_on : (sent : ℕ) (rs : List Record) → AllCome Comes sent rs → AllCome Other sent rs
  come_on sent [] h = tt
  come_on sent (Sent bytes ∷ rs) h = come_on (sent + 1) rs h
  come_on sent (Received hint fate bytes ∷ rs) h = (on sent hint h.0, come_on sent rs h.1)
  come_on sent (Noise bytes ∷ rs) h = come_on sent rs h
  come_on sent (User event ∷ rs) h = come_on sent rs h

  before_on : (sent : ℕ) (seen : List ℕ) → HoldsBefore Comes sent seen → HoldsBefore Other sent seen
  before_on sent [] h = tt
  before_on sent (count ∷ seen) h = (λ number less. on sent number (h.0 number less), before_on (sent + 1) seen h.1)

  pub holds_on : (sent : ℕ) (units : Units) → HoldsOn Comes sent units → HoldsOn Other sent units
  holds_on sent units h = record {
    same = h.same;
    before = before_on sent units.seen h.before;
    after = λ number less. on (sent + length units.own) number (h.after number less);
  }
