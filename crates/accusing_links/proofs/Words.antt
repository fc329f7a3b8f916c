-- Which numbers the acknowledgement words of a link that keeps its numbers modulo 4,096 stand for: numbers up to the highest that it received.
use Rattle.accusing_links.proofs.Prelude.{◌≡◌, ℕ, ◌+◌, ◌-◌, ◌<◌, ◌≤◌, Bool, true, false, ◌&&◌, ◌||◌, cond, leb, Option, Some, None, List, [], ◌∷◌}
use Rattle.accusing_links.proofs.Prelude.{refl, subst, arith, AllByRecursion, and_parts, leb-true, leb-false, AckWord, IsAckWord, REACH, wire}
use Rattle.accusing_links.proofs.Prelude.{distance, is_of_data, LastSent, is_ahead, is_behind, moved_to, last_named, after_first, all_named}
use Rattle.accusing_links.proofs.Prelude.{LateSent, last_named_late, gap_at, after_first_late, all_named_late}

-- ---- numbers modulo 4,096

pub distance_on : (n number : ℕ) → number < 4096 → number ≡ wire (n + distance (wire n) number)
distance_on n number l = omega (arith, l)

distance_most : (n h : ℕ) → n ≤ h → distance (wire n) (wire h) ≤ h - n
distance_most n h l = omega (arith, l)

distance_back : (n number : ℕ) → number < 4096 → distance number (wire n) ≤ n → number ≡ wire (n - distance number (wire n))
distance_back n number l m = omega (arith, l, m)

-- ---- the last acknowledgement sent

-- it stands for a number from this least one up to the highest received
pub record IsLast (least highest : ℕ) (sent : LastSent) : Type 0 where
  pub number : ℕ
  pub from : least ≤ number
  pub within : number ≤ highest
  pub same : sent.last ≡ wire number
  pub high : sent.is_high ≡ true → REACH ≤ number
  pub low : sent.is_high ≡ false → sent.last ≡ number

-- from a lower one all the more
pub lower : (low least highest : ℕ) (sent : LastSent) → low ≤ least → IsLast least highest sent → IsLast low highest sent
lower low least highest sent l is =
    record { number = is.number; from = let f = is.from in omega (arith, l, f); within = is.within; same = is.same; high = is.high; low = is.low }

-- A number modulo 4,096 stands for one up to the highest received and up to the last acknowledgement sent then; in what is not sent again, from the
-- least on that the last one sent may have been
pub record Stands (least highest number : ℕ) (again : Bool) (next : LastSent) : Type 0 where
  pub for : ℕ
  pub from : again ≡ false → least ≤ for
  pub within : for ≤ highest
  pub same : number ≡ wire for
  pub last : IsLast for highest next

module _ (highest received : ℕ) (here : received ≡ wire highest) where
  module _ (least number : ℕ) (sent : LastSent) (small : number < 4096) (is : IsLast least highest sent) where
    abbrev on : ℕ
    on = distance (wire is.number) number

    goes_on : number ≡ wire (is.number + on)
    goes_on = distance_on is.number number small

    ahead_within : is_ahead received number sent ≡ true → is.number + on ≤ highest
    ahead_within e =
        let l : leb (distance (wire is.number) number) (distance (wire is.number) (wire highest)) ≡ true =
        subst (λ (x : ℕ). leb (distance (wire is.number) number) (distance (wire is.number) x) ≡ true) here
        (subst (λ (x : ℕ). leb (distance x number) (distance x received) ≡ true) is.same e) in
        let m = leb-true on (distance (wire is.number) (wire highest)) l in
        let most = distance_most is.number highest is.within in
        omega (arith, m, most, is.within)

    high_on : (a : Bool) → sent.is_high ≡ a → (a || leb REACH (sent.last + distance sent.last number)) ≡ true → REACH ≤ is.number + on
    high_on true e f = let h = is.high e in omega (arith, h)
    high_on false e f =
        let low = is.low e in
        let m = leb-true REACH (sent.last + distance sent.last number) f in
        subst (λ (x : ℕ). REACH ≤ is.number + distance x number) is.same
        (subst (λ (x : ℕ). REACH ≤ x + distance sent.last number) low m)

    low_on : (a : Bool) → sent.is_high ≡ a → (a || leb REACH (sent.last + distance sent.last number)) ≡ false → wire number ≡ is.number + on
    low_on true e f = absurd cc
    low_on false e f =
        let low = is.low e in
        let m = leb-false REACH (sent.last + distance sent.last number) f in
        let less = subst (λ (x : ℕ). is.number + distance x number < REACH) is.same
        (subst (λ (x : ℕ). x + distance sent.last number < REACH) low m) in
        omega (arith, less, goes_on, small)

    ahead_last : is_ahead received number sent ≡ true → IsLast (is.number + on) highest (moved_to number sent)
    ahead_last e = record {
      number = is.number + on;
      from = omega arith;
      within = ahead_within e;
      same = omega (arith, goes_on, small);
      high = high_on sent.is_high refl;
      low = low_on sent.is_high refl;
    }

    behind_within : (a : Bool) → sent.is_high ≡ a → leb (distance number sent.last) REACH ≡ true →
        (a || leb (distance number sent.last) sent.last) ≡ true → distance number (wire is.number) ≤ is.number
    behind_within true e f g =
        let h = is.high e in
        let m = leb-true (distance number sent.last) REACH f in
        let n = subst (λ (x : ℕ). distance number x ≤ REACH) is.same m in
        omega (arith, h, n)
    behind_within false e f g =
        let m = leb-true (distance number sent.last) sent.last g in
        let low = is.low e in
        subst (λ (x : ℕ). distance number x ≤ is.number) is.same (subst (λ (x : ℕ). distance number sent.last ≤ x) low m)

    behind_stands : is_behind number sent ≡ true → Stands least highest number true sent
    behind_stands e =
        let parts = and_parts (leb (distance number sent.last) REACH) (sent.is_high || leb (distance number sent.last) sent.last) e in
        let within = behind_within sent.is_high refl parts.0 parts.1 in
        record {
          for = is.number - distance number (wire is.number);
          from = λ n. absurd cc;
          within = let w = is.within in omega (arith, w);
          same = distance_back is.number number small within;
          last = record {
            number = is.number;
            from = omega arith;
            within = is.within;
            same = is.same;
            high = is.high;
            low = is.low;
          };
        }

    ahead_stands : (again : Bool) → is_ahead received number sent ≡ true → Stands least highest number again (moved_to number sent)
    ahead_stands again e = record {
      for = is.number + on;
      from = λ n. let f = is.from in omega (arith, f);
      within = ahead_within e;
      same = goes_on;
      last = ahead_last e;
    }

    -- a word that may be sent
    pub named_is : (again : Bool) (next : LastSent) → last_named again received number sent ≡ Some next →
        Stands least highest number again next × IsLast least highest next
    named_is again next e = go (is_ahead received number sent) refl e
      where
        back : (a : Bool) → again ≡ a → (b : Bool) → (a && is_behind number sent) ≡ b → cond b (Some sent) None ≡ Some next →
            Stands least highest number a next × IsLast least highest next
        back true at true f g =
            let same : sent ≡ next = cc in
            (subst (Stands least highest number true) same (behind_stands f), subst (IsLast least highest) same is)
        back false at true f g = absurd cc
        back a at false f g = absurd cc

        go : (b : Bool) → is_ahead received number sent ≡ b →
            cond b (Some (moved_to number sent)) (cond (again && is_behind number sent) (Some sent) None) ≡ Some next →
            Stands least highest number again next × IsLast least highest next
        go true f g =
            let same : moved_to number sent ≡ next = cc in
            let up : least ≤ is.number + on = let l = is.from in omega (arith, l) in (
              subst (Stands least highest number again) same (ahead_stands again f),
              subst (IsLast least highest) same (lower least (is.number + on) highest (moved_to number sent) up (ahead_last f)),
            )
        go false f g = back again refl (again && is_behind number sent) refl g

  -- ---- all words

  module _ (least : ℕ) (again : Bool) (next : LastSent) where
    abbrev pub AllStand : List AckWord → Type 0
    AllStand [] = Unit {0}
    AllStand (word ∷ words) = (is_of_data word.qualifier ≡ true → Stands least highest word.number again next) × AllStand words

  -- by what was sent later
  later_stands : (least number : ℕ) (again : Bool) (sent next : LastSent) (is : Stands least highest number again sent) →
      IsLast is.for highest next → Stands least highest number again next
  later_stands least number again sent next is last =
      record { for = is.for; from = is.from; within = is.within; same = is.same; last = last }

  pub all_named_is : (least : ℕ) (again : Bool) (words : List AckWord) (sent next : LastSent) → AllByRecursion IsAckWord words →
      IsLast least highest sent → all_named again received words sent ≡ Some next → AllStand least again next words × IsLast least highest next
  all_named_is least again [] sent next small is e = let same : sent ≡ next = cc in (tt, subst (IsLast least highest) same is)
  all_named_is least again (word ∷ words) sent next small is e =
      go (is_of_data word.qualifier) refl e (λ low n last made. all_named_is low again words n next small.1 last made)
    where
      one : (o : Option LastSent) → last_named again received word.number sent ≡ o →
          after_first o (λ n. all_named again received words n) ≡ Some next →
          (n : LastSent) × Stands least highest word.number again n × IsLast least highest n × (all_named again received words n ≡ Some next)
      one None f g = absurd cc
      one (Some n) f g = let this = named_is least word.number sent small.0 is again n f in (n, this.0, this.1, g)

      go : (b : Bool) → is_of_data word.qualifier ≡ b →
          cond b (after_first (last_named again received word.number sent) (λ n. all_named again received words n))
          (all_named again received words sent) ≡ Some next →
          ((low : ℕ) (n : LastSent) → IsLast low highest n → all_named again received words n ≡ Some next →
          AllStand low again next words × IsLast low highest next) →
          AllStand least again next (word ∷ words) × IsLast least highest next
      go true f g later =
          let this = one (last_named again received word.number sent) refl g in
          let rest = later least this.0 this.2 this.3 in
          let on = later this.1.for this.0 this.1.last this.3 in
          ((λ h. later_stands least word.number again this.0 next this.1 on.1, rest.0), rest.1)
      go false f g later = let rest = later least sent is g in ((λ h. absurd cc, rest.0), rest.1)

  -- with queues
  pub all_late_is : (least : ℕ) (words : List AckWord) (late next : LateSent) → AllByRecursion IsAckWord words → IsLast least highest late.sent →
      all_named_late received words late ≡ Some next → AllStand least true next.sent words × IsLast least highest next.sent
  all_late_is least [] late next small is e =
      let same : late ≡ next = cc in (tt, subst (λ (x : LateSent). IsLast least highest x.sent) same is)
  all_late_is least (word ∷ words) late next small is e =
      go (is_of_data word.qualifier) refl e (λ low n last made. all_late_is low words n next small.1 last made)
    where
      any : (again : Bool) (n : LastSent) → Stands least highest word.number again n → Stands least highest word.number true n
      any again n is = record { for = is.for; from = λ e. absurd cc; within = is.within; same = is.same; last = is.last }

      one : (o : Option LastSent) → last_named_late received word.number late ≡ o →
          after_first_late o (λ n. all_named_late received words (record { sent = n; gap = gap_at received word.number late.sent })) ≡ Some next →
          (n : LastSent) × Stands least highest word.number true n × IsLast least highest n ×
          (all_named_late received words (record { sent = n; gap = gap_at received word.number late.sent }) ≡ Some next)
      one None f g = absurd cc
      one (Some n) f g =
          let again = leb (distance word.number late.sent.last) late.gap in
          let this = named_is least word.number late.sent small.0 is again n f in (n, any again n this.0, this.1, g)

      go : (b : Bool) → is_of_data word.qualifier ≡ b →
          cond b (after_first_late (last_named_late received word.number late)
          (λ n. all_named_late received words (record { sent = n; gap = gap_at received word.number late.sent })))
          (all_named_late received words late) ≡ Some next →
          ((low : ℕ) (n : LateSent) → IsLast low highest n.sent → all_named_late received words n ≡ Some next →
          AllStand low true next.sent words × IsLast low highest next.sent) →
          AllStand least true next.sent (word ∷ words) × IsLast least highest next.sent
      go true f g later =
          let this = one (last_named_late received word.number late) refl g in
          let n : LateSent = record { sent = this.0; gap = gap_at received word.number late.sent } in
          let rest = later least n this.2 this.3 in
          let on = later this.1.for n this.1.last this.3 in
          ((λ h. later_stands least word.number true this.0 next.sent this.1 on.1, rest.0), rest.1)
      go false f g later = let rest = later least late is g in ((λ h. absurd cc, rest.0), rest.1)
