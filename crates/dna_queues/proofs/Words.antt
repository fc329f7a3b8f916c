-- What words of a link name they also name where more was received.
use Rattle.dna_queues.proofs.Prelude.{◌≡◌, ℕ, ◌+◌, ◌-◌, ◌≤◌, Bool, true, false, ◌&&◌, nat_le, max, cond, Option, Some, None, List, [], ◌∷◌, ◌<◌}
use Rattle.dna_queues.proofs.Prelude.{refl, ap, ◌∙◌, subst, arith, leb-true, AllByRecursion, and_parts, AckWord, IsAckWord, Unsent, with_message}
use Rattle.dna_queues.proofs.Prelude.{REACH, wire, distance, is_of_data, TrueSegments, Named, NamedLate, highest_received, named, named_late}
use Rattle.dna_queues.proofs.Prelude.{all_named, all_named_late, with_number, with_first, with_number_late, with_first_late}

-- ---- what is compared

abbrev pub added : Option (List ℕ) → Unsent → Unsent
added None u = u
added (Some message) u = with_message message u

pub record Grown (more : Option (List ℕ)) (f g : TrueSegments) : Type 0 where
  pub given : g.given ≡ f.given
  pub last : g.last ≡ f.last
  pub received : highest_received f ≤ highest_received g
  pub acknowledged : f.acknowledged ≤ g.acknowledged
  pub unsent : g.unsent ≡ added more f.unsent
  pub answered : highest_received g ≤ g.last + REACH

-- what a sending leaves as it is
pub record Carries (f left : TrueSegments) : Type 0 where
  pub received : left.received ≡ f.received
  pub acknowledged : left.acknowledged ≡ f.acknowledged
  pub passed : left.passed ≡ f.passed
  pub last : f.last ≤ left.last

-- ---- words

pub named_grows : (again : Bool) (last low high word number : ℕ) → word < 4096 → low ≤ high → high ≤ last + REACH →
    named again last low word ≡ Some number →
    named again last high word ≡ Some number
named_grows again last low high word number small more near e =
    go (nat_le (last + distance (wire last) word) low) refl (nat_le (last + distance (wire last) word) high) refl e
  where
    back : (c : Bool) → (again && (nat_le (distance word (wire last)) REACH && nat_le (distance word (wire last)) last)) ≡ c →
        last + distance (wire last) word ≤ high → cond c (Some (last - distance word (wire last))) None ≡ Some number →
        Some (last + distance (wire last) word) ≡ Some number
    back false t within e = absurd cc
    back true t within e =
        let p = and_parts again (nat_le (distance word (wire last)) REACH && nat_le (distance word (wire last)) last) t in
        let q = and_parts (nat_le (distance word (wire last)) REACH) (nat_le (distance word (wire last)) last) p.1 in
        let close : distance word (wire last) ≤ 2047 = leb-true _ _ q.0 in let least : distance word (wire last) ≤ last = leb-true _ _ q.1 in
        let same : last + distance (wire last) word ≡ last - distance word (wire last) = omega arith in
        ap Some same ∙ e

    go : (b : Bool) → nat_le (last + distance (wire last) word) low ≡ b → (c : Bool) → nat_le (last + distance (wire last) word) high ≡ c →
        cond b (Some (last + distance (wire last) word))
        (cond (again && (nat_le (distance word (wire last)) REACH && nat_le (distance word (wire last)) last))
        (Some (last - distance word (wire last))) None) ≡ Some number →
        cond c (Some (last + distance (wire last) word))
        (cond (again && (nat_le (distance word (wire last)) REACH && nat_le (distance word (wire last)) last))
        (Some (last - distance word (wire last))) None) ≡ Some number
    go true s true t e = e
    go true s false t e = let w : last + distance (wire last) word ≤ low = leb-true _ _ s in absurd (not_within w t)
      where
        not_within : last + distance (wire last) word ≤ low → nat_le (last + distance (wire last) word) high ≡ false → ⊥
        not_within w t = grind arith
    go false s true t e = back _ refl (leb-true _ _ t) e
    go false s false t e = e

module _ (low high : ℕ) (more : low ≤ high) where
  pub record Names (again : Bool) (words : List AckWord) (last : ℕ) (names : Named) : Type 0 where
    pub is : all_named again high words last ≡ Some names
    pub further : last ≤ names.last

  pub names_grow : (again : Bool) (words : List AckWord) (last : ℕ) (names : Named) → AllByRecursion IsAckWord words → high ≤ last + REACH →
      all_named again low words last ≡ Some names →
      Names again words last names
  names_grow again [] last names words_are near e = record { is = e; further = let same : last ≡ names.last = cc in omega arith }
  names_grow again (word ∷ words) last names words_are near e =
      go (λ next later n f. names_grow again words next later words_are.1 n f) (is_of_data word.qualifier) refl e
    where
      Follows : Type 0
      Follows = (next : ℕ) (later : Named) → high ≤ next + REACH → all_named again low words next ≡ Some later → Names again words next later

      of_number : Follows → (number : ℕ) → named again last high word.number ≡ Some number → (o : Option Named) →
          all_named again low words (max last number) ≡ o → with_number number o ≡ Some names →
          (with_first (named again last high word.number) (λ (n : ℕ). all_named again high words (max last n)) ≡ Some names) × (last ≤ names.last)
      of_number rest number first None all e = absurd cc
      of_number rest number first (Some later) all e =
          let r = rest (max last number) later (omega (arith, near)) all in
          let further = r.further in
          let same : later.last ≡ names.last = cc in (
            ap (λ (o : Option ℕ). with_first o (λ (n : ℕ). all_named again high words (max last n))) first ∙ ap (with_number number) r.is ∙ e,
            omega (arith, same, further),
          )

      of_word : Follows → (o : Option ℕ) → named again last low word.number ≡ o →
          with_first o (λ (n : ℕ). all_named again low words (max last n)) ≡ Some names →
          (with_first (named again last high word.number) (λ (n : ℕ). all_named again high words (max last n)) ≡ Some names) × (last ≤ names.last)
      of_word rest None first e = absurd cc
      of_word rest (Some number) first e = of_number rest number (named_grows again last low high word.number number (words_are.0) more near
          first) _ refl e

      go : Follows → (b : Bool) → is_of_data word.qualifier ≡ b →
          cond b (with_first (named again last low word.number) (λ (n : ℕ). all_named again low words (max last n))) (all_named again low words last)
          ≡ Some names → Names again (word ∷ words) last names
      go rest true judged e =
          let r = of_word rest _ refl e in
          record {
            is = ap (λ (b : Bool). cond b (with_first (named again last high word.number) (λ (n : ℕ). all_named again high words (max last n)))
                (all_named again high words last)) judged ∙ r.0;
            further = r.1;
          }
      go rest false judged e =
          let r = rest last names near e in
          record {
            is = ap (λ (b : Bool). cond b (with_first (named again last high word.number) (λ (n : ℕ). all_named again high words (max last n)))
                (all_named again high words last)) judged ∙ r.is;
            further = r.further;
          }

  pub record NamesLate (words : List AckWord) (gap last : ℕ) (late : NamedLate) : Type 0 where
    pub is : all_named_late high words gap last ≡ Some late
    pub further : last ≤ late.names.last

  pub late_grow : (words : List AckWord) (gap last : ℕ) (late : NamedLate) → AllByRecursion IsAckWord words → high ≤ last + REACH →
      all_named_late low words gap last ≡ Some late →
      NamesLate words gap last late
  late_grow [] gap last late words_are near e =
      let is : record { names = record { numbers = []; last = last }; gap = gap } ≡ late = cc in
      subst (λ (x : NamedLate). NamesLate [] gap last x) is (record { is = refl; further = omega arith })
  late_grow (word ∷ words) gap last late words_are near e =
      go (λ g next later n f. late_grow words g next later words_are.1 n f) (is_of_data word.qualifier) refl e
    where
      Follows : Type 0
      Follows = (g next : ℕ) (later : NamedLate) → high ≤ next + REACH → all_named_late low words g next ≡ Some later → NamesLate words g next later

      of_number : Follows → (number : ℕ) → named_late gap last high word.number ≡ Some number → (o : Option NamedLate) →
          all_named_late low words (last - number) (max last number) ≡ o → with_number_late number o ≡ Some late →
          (with_first_late (named_late gap last high word.number) (λ (n : ℕ). all_named_late high words (last - n) (max last n)) ≡ Some late)
          × (last ≤ late.names.last)
      of_number rest number first None all e = absurd cc
      of_number rest number first (Some later) all e =
          let r = rest (last - number) (max last number) later (omega (arith, near)) all in
          let further = r.further in
          let same : later.names.last ≡ late.names.last = last_of later e in (
            ap (λ (o : Option ℕ). with_first_late o (λ (n : ℕ). all_named_late high words (last - n) (max last n))) first
                ∙ ap (with_number_late number) r.is ∙ e,
            omega (arith, same, further),
          )
        where
          last_of : (later : NamedLate) → with_number_late number (Some later) ≡ Some late → later.names.last ≡ late.names.last
          last_of later e =
              let is : record later { names = record later.names { numbers = number ∷ later.names.numbers } } ≡ late = cc in
              ap (λ (x : NamedLate). x.names.last) is

      of_word : Follows → (o : Option ℕ) → named_late gap last low word.number ≡ o →
          with_first_late o (λ (n : ℕ). all_named_late low words (last - n) (max last n)) ≡ Some late →
          (with_first_late (named_late gap last high word.number) (λ (n : ℕ). all_named_late high words (last - n) (max last n)) ≡ Some late)
          × (last ≤ late.names.last)
      of_word rest None first e = absurd cc
      of_word rest (Some number) first e =
          of_number rest number (named_grows (nat_le (distance word.number (wire last)) gap) last low high word.number number (words_are.0) more
          near first) _ refl e

      go : Follows → (b : Bool) → is_of_data word.qualifier ≡ b →
          cond b (with_first_late (named_late gap last low word.number) (λ (n : ℕ). all_named_late low words (last - n) (max last n)))
          (all_named_late low words gap last) ≡ Some late → NamesLate (word ∷ words) gap last late
      go rest true judged e =
          let r = of_word rest _ refl e in
          record {
            is = ap (λ (b : Bool). cond b (with_first_late (named_late gap last high word.number)
                (λ (n : ℕ). all_named_late high words (last - n) (max last n))) (all_named_late high words gap last)) judged ∙ r.0;
            further = r.1;
          }
      go rest false judged e =
          let r = rest gap last late near e in
          record {
            is = ap (λ (b : Bool). cond b (with_first_late (named_late gap last high word.number)
                (λ (n : ℕ). all_named_late high words (last - n) (max last n))) (all_named_late high words gap last)) judged ∙ r.is;
            further = r.further;
          }
