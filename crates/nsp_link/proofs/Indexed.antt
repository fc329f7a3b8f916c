-- An index stays one where a link changes, is confirmed or ends.
use Rattle.std.proofs.Common.{◌≡◌, ℕ, zero, suc, ◌+◌, ◌<◌, ◌≤◌, Bool, true, false, ◌&&◌, ◌||◌, not, cond, Option, Some, None, List, [], ◌∷◌}
use Rattle.std.proofs.Common.{length, set, refl, sym, ap, ◌∙◌, arith, eqb}
use Rattle.std.specs.Prelude.{slice_get}
use Rattle.dna_links.specs.declared.port.Phase.{Phase}
use Rattle.dna_links.specs.declared.port.Port.{Port}
use Rattle.dna_links.specs.LookUps.{is_live, is_at, is_called, is_calling}
use Rattle.dna_links.specs.Links.{LinkOf}
use Rattle.dna_links.specs.Queues.{port_of_waiting}
use Rattle.nsp_link.specs.inner.Index.{IsIndexed, IsFoundAs, Stays, counted, look_at, own_of, begun_from, lives_to, uses, waits}
use Rattle.nsp_link.proofs.Counting.{bit, bit_true, bit_false, bit_less, counted_set, counted_some, counted_all}

-- ---- what is seen at each number

module _ {X : Type 0} (look : X → Option ℕ) where
  pub look_set : (xs : List X) (n k : ℕ) (l m : X) → slice_get xs n ≡ Some l → look m ≡ look l → look_at look (set xs n m) k ≡ look_at look xs k
  look_set [] n k l m e same = absurd (cc)
  look_set (x ∷ xs) zero zero l m e same = let here : x ≡ l = cc in same ∙ ap look (sym here)
  look_set (x ∷ xs) zero (suc k) l m e same = refl
  look_set (x ∷ xs) (suc n) zero l m e same = refl
  look_set (x ∷ xs) (suc n) (suc k) l m e same = look_set xs n k l m e same

  -- where no more is seen than before
  pub look_less : (q : ℕ) (xs : List X) (n k : ℕ) (l m : X) → slice_get xs n ≡ Some l → (look m ≡ Some q → look l ≡ Some q) →
      look_at look (set xs n m) k ≡ Some q → look_at look xs k ≡ Some q
  look_less q [] n k l m e less there = absurd (cc)
  look_less q (x ∷ xs) zero zero l m e less there = let here : x ≡ l = cc in ap look here ∙ less there
  look_less q (x ∷ xs) zero (suc k) l m e less there = there
  look_less q (x ∷ xs) (suc n) zero l m e less there = there
  look_less q (x ∷ xs) (suc n) (suc k) l m e less there = look_less q xs n k l m e less there

pub length_set : {X : Type 0} (xs : List X) (n : ℕ) (m : X) → length (set xs n m) ≡ length xs
length_set [] n m = refl
length_set (x ∷ xs) zero m = refl
length_set (x ∷ xs) (suc n) m = ap suc (length_set xs n m)

with_bit : (b : Bool) (k q : ℕ) → cond b (suc k) k ≡ q → q ≡ k + bit b
with_bit true k q e = omega arith
with_bit false k q e = omega arith

-- ---- the link that a CI began

never : {A : Type 0} (b : Bool) → b ≡ false → b ≡ true → A
never b fails holds = absurd (cc)

pub begun_less : (cm cl x y : Bool) (fm fl : Option ℕ) (q : ℕ) → (cm ≡ true → cl ≡ true) → x ≡ y → fm ≡ fl → cond (cm || x) fm None ≡ Some q →
    cond (cl || y) fl None ≡ Some q
begun_less true true x y fm fl q called same far e = sym far ∙ e
begun_less true false x y fm fl q called same far e = let never = called refl in absurd (cc)
begun_less false cl true true fm fl q called same far e = all cl where
  all : (b : Bool) → cond (b || true) fl None ≡ Some q
  all true = sym far ∙ e
  all false = sym far ∙ e
begun_less false cl true false fm fl q called same far e = absurd (cc)
begun_less false cl false y fm fl q called same far e = absurd (cc)

begun_no_more : (c x : Bool) (f : Option ℕ) (q : ℕ) → c ≡ false → x ≡ false → cond (c || x) f None ≡ Some q → ⊥
begun_no_more true x f q dead none e = absurd (cc)
begun_no_more false true f q dead none e = absurd (cc)
begun_no_more false false f q dead none e = absurd (cc)

pub no_more : {D : Type 0} (m : LinkOf D) (q : ℕ) → is_called m.port.phase ≡ false → (is_live m.port.phase && not m.port.opened) ≡ false →
    begun_from m ≡ Some q → ⊥
no_more m q called others e = begun_no_more (is_called m.port.phase) (is_live m.port.phase && not m.port.opened) m.port.far q called others e

used_as : (w : Option Phase) (p r : Port) → is_live r.phase ≡ is_live p.phase →
    is_live (port_of_waiting w r).phase ≡ is_live (port_of_waiting w p).phase
used_as None p r e = e
used_as (Some phase) p r e = refl

module _ {D : Type 0} where
  pub stays_begun : (l m : LinkOf D) (q : ℕ) → IsFoundAs l m → begun_from m ≡ Some q → begun_from l ≡ Some q
  stays_begun l m q s e =
      begun_less (is_called m.port.phase) (is_called l.port.phase) (is_live m.port.phase && not m.port.opened)
      (is_live l.port.phase && not l.port.opened) m.port.far l.port.far q s.called
      (ap (λ (b : Bool). b && not m.port.opened) s.lives ∙ ap (λ (b : Bool). is_live l.port.phase && not b) s.opened) s.far e

  pub stays_lives : (l m : LinkOf D) (q : ℕ) → IsFoundAs l m → lives_to q m ≡ lives_to q l
  stays_lives l m q s =
      ap (λ (b : Bool). b && is_at m.port.far q) s.lives ∙ ap (λ (f : Option ℕ). is_live l.port.phase && is_at f q) s.far

  -- ---- one that has the same port, or another phase

  pub found_same : (l m : LinkOf D) → m.port ≡ l.port → IsFoundAs l m
  found_same l m e = record {
    own = ap (λ (p : Port). p.own) e;
    opened = ap (λ (p : Port). p.opened) e;
    far = ap (λ (p : Port). p.far) e;
    lives = ap (λ (p : Port). is_live p.phase) e;
    called = λ is. sym (ap (λ (p : Port). is_called p.phase) e) ∙ is;
    calling = λ is. sym (ap (λ (p : Port). is_calling p.phase) e) ∙ is;
  }

  pub found_moved : (phase : Phase) (l m : LinkOf D) → m.port ≡ record l.port { phase = phase } → is_live phase ≡ true → is_called phase ≡ false →
      is_calling phase ≡ false → is_live l.port.phase ≡ true → IsFoundAs l m
  found_moved phase l m e live called calling lived = record {
    own = ap (λ (p : Port). p.own) e;
    opened = ap (λ (p : Port). p.opened) e;
    far = ap (λ (p : Port). p.far) e;
    lives = ap (λ (p : Port). is_live p.phase) e ∙ live ∙ sym lived;
    called = λ is. never (is_called m.port.phase) (ap (λ (p : Port). is_called p.phase) e ∙ called) is;
    calling = λ is. never (is_calling m.port.phase) (ap (λ (p : Port). is_calling p.phase) e ∙ calling) is;
  }

  -- ---- and may send as before

  used_so : (l m : LinkOf D) → m.queue.waits ≡ l.queue.waits → is_live m.port.phase ≡ is_live l.port.phase → uses m ≡ uses l
  used_so l m waits e = ap (λ (w : Option Phase). is_live (port_of_waiting w m.port).phase) waits ∙ used_as l.queue.waits l.port m.port e

  pub stays_same : (l m : LinkOf D) → m.port ≡ l.port → m.queue.waits ≡ l.queue.waits → Stays l m
  stays_same l m e waits = record { found = found_same l m e; used = used_so l m waits (ap (λ (p : Port). is_live p.phase) e) }

  -- one that has ended goes on in what waits
  pub stays_waiting : (l m : LinkOf D) → m.port ≡ l.port → uses m ≡ uses l → Stays l m
  stays_waiting l m e used = record { found = found_same l m e; used = used }

  pub stays_moved : (phase : Phase) (l m : LinkOf D) → m.port ≡ record l.port { phase = phase } → m.queue.waits ≡ l.queue.waits →
      is_live phase ≡ true → is_called phase ≡ false → is_calling phase ≡ false → is_live l.port.phase ≡ true → Stays l m
  stays_moved phase l m e waits live called calling lived = record {
    found = found_moved phase l m e live called calling lived;
    used = used_so l m waits (ap (λ (p : Port). is_live p.phase) e ∙ live ∙ sym lived);
  }

  -- ---- the index

  module _ (links : List (LinkOf D)) (holder caller : ℕ → Option ℕ) (reached : ℕ → ℕ) (waiting : ℕ)
      (index : IsIndexed links holder caller reached waiting) where
    pub indexed_same : (others : List (LinkOf D)) (holder' caller' : ℕ → Option ℕ) (reached' : ℕ → ℕ) (waiting' : ℕ) → others ≡ links →
        ((q : ℕ) → holder' q ≡ holder q) → ((q : ℕ) → caller' q ≡ caller q) → ((q : ℕ) → reached' q ≡ reached q) → waiting' ≡ waiting →
        IsIndexed others holder' caller' reached' waiting'
    indexed_same others holder' caller' reached' waiting' same holders callers counts wait = record {
      has = λ number own e. holders own ∙ index.has number own (sym (ap (λ (xs : List (LinkOf D)). look_at own_of xs number) same) ∙ e);
      holds = λ own number e. ap (λ (xs : List (LinkOf D)). look_at own_of xs number) same ∙ index.holds own number (sym (holders own) ∙ e);
      calls = λ number far e. callers far ∙ index.calls number far (sym (ap (λ (xs : List (LinkOf D)). look_at begun_from xs number) same) ∙ e);
      reaches = λ far. counts far ∙ index.reaches far ∙ ap (counted (lives_to far)) (sym same);
      waits = few_wait;
      few = few_all;
    } where
      few_wait : counted waits others ≤ waiting'
      few_wait = let same_count = ap (counted (waits {D = D})) same in let before = index.waits in omega arith

      few_all : waiting' ≤ length others
      few_all = let same_length = ap (λ (xs : List (LinkOf D)). length xs) same in let before = index.few in omega arith

    pub few_reached : (far : ℕ) → reached far ≤ length links
    few_reached far =
        let all = counted_all (lives_to far) links in
        let before = index.reaches far in
        omega arith

    module _ (n : ℕ) (l m : LinkOf D) (there : slice_get links n ≡ Some l) where
      pub indexed_change : IsFoundAs l m → IsIndexed (set links n m) holder caller reached waiting
      indexed_change s = record {
        has = λ number own e. index.has number own (sym (look_set own_of links n number l m there s.own) ∙ e);
        holds = λ own number e. look_set own_of links n number l m there s.own ∙ index.holds own number e;
        calls = λ number far e. index.calls number far (look_less begun_from far links n number l m there (stays_begun l m far s) e);
        reaches = reaches;
        waits = few_wait;
        few = few_all;
      } where
        reaches : (far : ℕ) → reached far ≡ counted (lives_to far) (set links n m)
        reaches far =
            let counts = counted_set (lives_to far) links n l m there in
            let same = ap bit (stays_lives l m far s) in
            let before = index.reaches far in
            omega arith

        few_wait : counted waits (set links n m) ≤ waiting
        few_wait =
            let counts = counted_set waits links n l m there in
            let less = bit_less (waits m) (waits l) s.calling in
            let before = index.waits in
            omega arith

        few_all : waiting ≤ length (set links n m)
        few_all = let same = length_set links n m in let before = index.few in omega arith

      -- ---- one that is confirmed

      pub some_wait : is_calling l.port.phase ≡ true → 0 < waiting
      some_wait calling =
          let one = counted_some waits links n l there calling in
          let before = index.waits in
          omega arith

      pub some_reached : (far : ℕ) → is_live l.port.phase ≡ true → is_at l.port.far far ≡ true → 0 < reached far
      some_reached far lives known =
          let one = counted_some (lives_to far) links n l there (ap (λ (b : Bool). b && is_at l.port.far far) lives ∙ known) in
          let before = index.reaches far in
          omega arith

      module _ (holder' caller' : ℕ → Option ℕ) (reached' : ℕ → ℕ) (waiting' : ℕ) (holders : (q : ℕ) → holder' q ≡ holder q)
          (callers : (q : ℕ) → caller' q ≡ caller q) (own : m.port.own ≡ l.port.own)
          (begun : (q : ℕ) → begun_from m ≡ Some q → ⊥) where
        changed_index : ((far : ℕ) → reached' far ≡ counted (lives_to far) (set links n m)) → counted waits (set links n m) ≤ waiting' →
            waiting' ≤ waiting → IsIndexed (set links n m) holder' caller' reached' waiting'
        changed_index counts wait less = record {
          has = λ number q e. holders q ∙ index.has number q (sym (look_set own_of links n number l m there own) ∙ e);
          holds = λ q number e. look_set own_of links n number l m there own ∙ index.holds q number (sym (holders q) ∙ e);
          calls = λ number far e.
              callers far ∙ index.calls number far (look_less begun_from far links n number l m there (λ is. absurd (begun far is)) e);
          reaches = counts;
          waits = wait;
          few = few_all;
        } where
          few_all : waiting' ≤ length (set links n m)
          few_all = let same = length_set links n m in let before = index.few in omega arith

        pub indexed_confirm : (far : ℕ) → is_calling l.port.phase ≡ true → ((q : ℕ) → lives_to q l ≡ false) → is_calling m.port.phase ≡ false →
            ((q : ℕ) → lives_to q m ≡ eqb far q) → suc waiting' ≡ waiting →
            ((q : ℕ) → reached' q ≡ cond (eqb far q) (suc (reached q)) (reached q)) →
            IsIndexed (set links n m) holder' caller' reached' waiting'
        indexed_confirm far calling unknown confirmed known wait counts = changed_index reaches few_wait (omega arith) where
          reaches : (q : ℕ) → reached' q ≡ counted (lives_to q) (set links n m)
          reaches q =
              let counting = counted_set (lives_to q) links n l m there in
              let none = bit_false (lives_to q l) (unknown q) in
              let some = ap bit (known q) in
              let before = index.reaches q in
              let after = with_bit (eqb far q) (reached q) (reached' q) (sym (counts q)) in
              omega arith

          few_wait : counted waits (set links n m) ≤ waiting'
          few_wait =
              let counting = counted_set waits links n l m there in
              let one = bit_true (waits l) calling in
              let none = bit_false (waits m) confirmed in
              let before = index.waits in
              omega arith

        -- ---- one that ends

        pub indexed_end : is_live l.port.phase ≡ true → is_live m.port.phase ≡ false → is_calling m.port.phase ≡ false →
            cond (is_calling l.port.phase) (suc waiting') waiting' ≡ waiting →
            ((q : ℕ) → cond (is_at l.port.far q) (suc (reached' q)) (reached' q) ≡ reached q) →
            IsIndexed (set links n m) holder' caller' reached' waiting'
        indexed_end lived dead calling wait counts = changed_index reaches few_wait less where
          reaches : (q : ℕ) → reached' q ≡ counted (lives_to q) (set links n m)
          reaches q =
              let counting = counted_set (lives_to q) links n l m there in
              let none = bit_false (lives_to q m) (ap (λ (b : Bool). b && is_at m.port.far q) dead) in
              let some = ap (λ (b : Bool). bit (b && is_at l.port.far q)) lived in
              let before = index.reaches q in
              let after = with_bit (is_at l.port.far q) (reached' q) (reached q) (counts q) in
              omega arith

          few_wait : counted waits (set links n m) ≤ waiting'
          few_wait =
              let counting = counted_set waits links n l m there in
              let none = bit_false (waits m) calling in
              let before = index.waits in
              let after = with_bit (is_calling l.port.phase) waiting' waiting wait in
              omega arith

          less : waiting' ≤ waiting
          less = let after = with_bit (is_calling l.port.phase) waiting' waiting wait in omega arith
