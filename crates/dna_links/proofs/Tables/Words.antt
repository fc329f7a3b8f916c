-- The acknowledgement words of a message that may be sent, and what acknowledgements that come do.
use Rattle.std.proofs.Common.{◌≡◌, ℕ, ◌+◌, ◌-◌, ◌<◌, ◌≤◌, Bool, true, false, ◌&&◌, nat_lt, nat_le, cond, max, ◌⊎◌, inl, inr, Option, Some, None, List}
use Rattle.std.proofs.Common.{[], ◌∷◌, fold, refl, ap, ◌∙◌, subst, arith, leb-true, ltb-true}
use Rattle.std.proofs.lemmas.Bool.{and_parts}
use Rattle.dna_packet.specs.declared.ack_word.AckWord.{AckWord}
use Rattle.dna_links.specs.SegmentBook.{REACH, wire, distance, is_of_data}
use Rattle.dna_links.specs.TrueSegments.{TrueSegments, highest_given, named, Named, with_number, with_first, all_named, acknowledged_through}
use Rattle.two_nodes.proofs.Numbered.{Limits, AcksFrom}

-- at most 2,047 are outstanding; no repeat, and no acknowledgement in one, reaches further back
abbrev pub limits : Limits
limits = record { within = 2047; reach = 2046; back = 2047 }

-- none of these lies above
abbrev pub AreAtMost : ℕ → List ℕ → Type 0
AreAtMost most [] = Unit {0}
AreAtMost most (number ∷ numbers) = (number ≤ most) × AreAtMost most numbers

-- the words that are judged, with what they stand for: a word is at most 4,095
abbrev pub AreWords : List AckWord → List ℕ → Type 0
AreWords [] numbers = numbers ≡ []
AreWords (word ∷ words) numbers =
    (((is_of_data word.qualifier ≡ false) × AreWords words numbers) ⊎
    ((is_of_data word.qualifier ≡ true) × (first : ℕ) × (later : List ℕ) × (numbers ≡ first ∷ later) ×
    (word.number < 4096 → wire first ≡ word.number) × AreWords words later))

pub named_one : (again : Bool) (last highest word number : ℕ) → last ≤ highest → named again last highest word ≡ Some number →
    (last ≤ number + 2047) ×
    (number ≤ highest) × (word < 4096 → wire number ≡ word)
named_one again last highest word number l e = go (nat_le (last + distance (wire last) word) highest) refl e
  where
    back : (b : Bool) → (again && (nat_le (distance word (wire last)) REACH && nat_le (distance word (wire last)) last)) ≡ b →
        cond b (Some (last - distance word (wire last))) None ≡ Some number → (last ≤ number + 2047) × (number ≤ highest) ×
        (word < 4096 → wire number ≡ word)
    back true t e =
        let p = and_parts again (nat_le (distance word (wire last)) REACH && nat_le (distance word (wire last)) last) t in
        let q = and_parts (nat_le (distance word (wire last)) REACH) (nat_le (distance word (wire last)) last) p.1 in
        let near : distance word (wire last) ≤ 2047 = leb-true _ _ q.0 in let low : distance word (wire last) ≤ last = leb-true _ _ q.1 in
        let same : last - distance word (wire last) ≡ number = cc in
        (omega arith, omega arith, λ small. omega arith)
    back false t e = absurd cc

    go : (b : Bool) → nat_le (last + distance (wire last) word) highest ≡ b →
        cond b (Some (last + distance (wire last) word))
        (cond (again && (nat_le (distance word (wire last)) REACH && nat_le (distance word (wire last)) last))
        (Some (last - distance word (wire last))) None) ≡ Some number →
        (last ≤ number + 2047) × (number ≤ highest) × (word < 4096 → wire number ≡ word)
    go true t e = let near : last + distance (wire last) word ≤ highest = leb-true _ _ t in
        let same : last + distance (wire last) word ≡ number = cc in (omega arith, omega arith, λ small. omega arith)
    go false t e = back _ refl e

pub record AreNamed (sent : List AckWord) (last highest : ℕ) (names : Named) : Type 0 where
  pub acks : AcksFrom limits last highest names.numbers
  pub more : last ≤ names.last
  pub most : names.last ≤ highest
  pub numbers : AreAtMost names.last names.numbers
  pub words : AreWords sent names.numbers

module _ (again : Bool) (highest : ℕ) where
  first_named : (word : AckWord) (words : List AckWord) (last : ℕ) (names : Named) → last ≤ highest → is_of_data word.qualifier ≡ true →
      ((next : ℕ) (later : Named) → next ≤ highest → all_named again highest words next ≡ Some later → AreNamed words next highest later) →
      (o : Option ℕ) → named again last highest word.number ≡ o →
      with_first o (λ (number : ℕ). all_named again highest words (max last number)) ≡ Some names → AreNamed (word ∷ words) last highest names
  first_named word words last names l judged rest None e all = absurd cc
  first_named word words last names l judged rest (Some number) e all = go _ refl all
    where
      n : (last ≤ number + 2047) × (number ≤ highest) × (word.number < 4096 → wire number ≡ word.number)
      n = named_one again last highest word.number number l e

      go : (o : Option Named) → all_named again highest words (max last number) ≡ o → with_number number o ≡ Some names →
          AreNamed (word ∷ words) last highest names
      go None found same = absurd cc
      go (Some later) found same =
          let a = n.0 in let b = n.1 in
          let r = rest (max last number) later (omega arith) found in
          let more = r.more in
          let is : record { numbers = number ∷ later.numbers; last = later.last } ≡ names = cc in
          subst (λ (x : Named). AreNamed (word ∷ words) last highest x) is (record {
            acks = (omega arith, omega arith, r.acks);
            more = omega arith;
            most = r.most;
            numbers = (omega arith, r.numbers);
            words = inr (judged, number, later.numbers, refl, n.2, r.words);
          })

  pub names_are : (words : List AckWord) (last : ℕ) (names : Named) → last ≤ highest → all_named again highest words last ≡ Some names →
      AreNamed words last highest names
  names_are [] last names l all =
      let is : record { numbers = []; last = last } ≡ names = cc in
      subst (λ (x : Named). AreNamed [] last highest x) is (record { acks = tt; more = omega arith; most = l; numbers = tt; words = refl })
  names_are (word ∷ words) last names l all = go (λ next later m e. names_are words next later m e) (is_of_data word.qualifier) refl all
    where
      go : ((next : ℕ) (later : Named) → next ≤ highest → all_named again highest words next ≡ Some later → AreNamed words next highest later) →
          (b : Bool) → is_of_data word.qualifier ≡ b →
          cond b (with_first (named again last highest word.number) (λ (number : ℕ). all_named again highest words (max last number)))
          (all_named again highest words last) ≡ Some names → AreNamed (word ∷ words) last highest names
      go rest true judged all = first_named word words last names l judged rest _ refl all
      go rest false judged all = let r = rest last names l all in
          record { acks = r.acks; more = r.more; most = r.most; numbers = r.numbers; words = inl (judged, r.words) }

-- ---- acknowledgements that come

-- the highest acknowledged then, if none of them lies above these two
pub record Acknowledges (f : TrueSegments) (last received : ℕ) (after : TrueSegments) : Type 0 where
  pub acknowledged : ℕ
  pub is : after ≡ record f { acknowledged = acknowledged }
  pub more : f.acknowledged ≤ acknowledged
  pub most : (acknowledged ≡ f.acknowledged) ⊎ ((acknowledged ≤ last) × (acknowledged ≤ received))
  pub given : f.acknowledged ≤ highest_given f → acknowledged ≤ highest_given f

module _ (last received : ℕ) where
  one_through : (f : TrueSegments) (number : ℕ) → number ≤ last → number ≤ received → Acknowledges f last received (acknowledged_through f number)
  one_through f number l r = go _ refl
    where
      go : (b : Bool) → (nat_lt f.acknowledged number && nat_le number (highest_given f)) ≡ b →
          Acknowledges f last received (cond b (record f { acknowledged = number }) f)
      go true e = let p = and_parts (nat_lt f.acknowledged number) (nat_le number (highest_given f)) e in
          let low : f.acknowledged < number = ltb-true _ _ p.0 in let high : number ≤ highest_given f = leb-true _ _ p.1 in
          record { acknowledged = number; is = refl; more = omega arith; most = inr (l, r); given = λ g. high }
      go false e = record { acknowledged = f.acknowledged; is = refl; more = omega arith; most = inl refl; given = λ g. g }

  two_through : (f g h : TrueSegments) → Acknowledges f last received g → Acknowledges g last received h → Acknowledges f last received h
  two_through f g h p q =
      let e = ap (λ (x : TrueSegments). x.acknowledged) p.is in let n = ap highest_given p.is in
      let m = p.more in let k = q.more in
      record {
        acknowledged = q.acknowledged;
        is = q.is ∙ ap (λ (x : TrueSegments). record x { acknowledged = q.acknowledged }) p.is;
        more = omega arith;
        most = go p.most q.most;
        given = λ few. let b = p.given few in let c = q.given (omega arith) in omega arith;
      }
    where
      go : (p.acknowledged ≡ f.acknowledged) ⊎ ((p.acknowledged ≤ last) × (p.acknowledged ≤ received)) → (q.acknowledged ≡ g.acknowledged) ⊎
          ((q.acknowledged ≤ last) × (q.acknowledged ≤ received)) →
          (q.acknowledged ≡ f.acknowledged) ⊎ ((q.acknowledged ≤ last) × (q.acknowledged ≤ received))
      go (inl a) (inl b) = inl (b ∙ ap (λ (x : TrueSegments). x.acknowledged) p.is ∙ a)
      go (inr a) (inl b) = let e = ap (λ (x : TrueSegments). x.acknowledged) p.is in let x = a.0 in let y = a.1 in inr (omega arith, omega arith)
      go c (inr b) = inr b

  pub through : (acks : List ℕ) (f : TrueSegments) → AreAtMost last acks → AreAtMost received acks →
      Acknowledges f last received (fold acknowledged_through f acks)
  through [] f l r = record { acknowledged = f.acknowledged; is = refl; more = omega arith; most = inl refl; given = λ g. g }
  through (ack ∷ acks) f l r =
      two_through f (acknowledged_through f ack) _ (one_through f ack l.0 r.0) (through acks (acknowledged_through f ack) l.1 r.1)
