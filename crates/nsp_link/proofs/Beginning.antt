-- A link that a CI begins: it is the last one from its far address.
use Rattle.std.proofs.Common.{◌≡◌, ℕ, suc, ◌+◌, ◌≤◌, Bool, true, false, ◌&&◌, ◌||◌, not, cond, Option, Some, None, List, [], ◌∷◌, ◌++◌, length, refl}
use Rattle.std.proofs.Common.{sym, subst, ap, ◌∙◌, arith, eqb}
use Rattle.std.specs.Prelude.{slice_get}
use Rattle.std.proofs.lemmas.Bool.{eqb-true, eqb-false, eq-eqb}
use Rattle.dna_links.specs.LookUps.{is_live, is_at, is_called, is_calling}
use Rattle.dna_links.specs.Links.{LinkOf}
use Rattle.dna_links.specs.Arriving.{of_partner}
use Rattle.dna_links.specs.inner.Forms.{called}
use Rattle.dna_links.specs.declared.tag.LinkTag.{LinkTag}
use Rattle.dna_links.specs.WireSegments.{WireSegments, wire_segments}
use Rattle.nsp_link.specs.inner.Index.{IsIndexed, look_in, look_at, own_of, begun_from, lives_to, waits, counted}
use Rattle.nsp_link.proofs.Counting.{bit, bit_false, counted_some, counted_push}
use Rattle.nsp_link.proofs.LookUps.{called_lives, both_true, eq-is_at}
use Rattle.nsp_link.proofs.Forgotten.{push_here, push_other, past, length_push}

begun_by : (c v o : Bool) (f : Option ℕ) (q : ℕ) → (c ≡ true → v ≡ true) → cond (c || (v && o)) f None ≡ Some q → (v && is_at f q) ≡ true
begun_by true v o f q lives e = both_true v (is_at f q) (lives refl) (eq-is_at f q e)
begun_by false true true f q lives e = eq-is_at f q e
begun_by false true false f q lives e = absurd (cc)
begun_by false false o f q lives e = absurd (cc)

begun_lives : (l : LinkOf WireSegments) (q : ℕ) → begun_from l ≡ Some q → lives_to q l ≡ true
begun_lives l q e = begun_by (is_called l.port.phase) (is_live l.port.phase) (not l.port.opened) l.port.far q (called_lives l.port.phase) e

module _ (links : List (LinkOf WireSegments)) (h c : ℕ → Option ℕ) (r : ℕ → ℕ) (w : ℕ) (index : IsIndexed links h c r w) (far : ℕ)
    (m : LinkOf WireSegments)
    (unowned : m.port.own ≡ None) (begun : begun_from m ≡ Some far) (known : (q : ℕ) → lives_to q m ≡ eqb far q)
    (calling : is_calling m.port.phase ≡ false) (free : counted (lives_to far) links ≡ 0) where
  knows : (n : ℕ) (o : Option (LinkOf WireSegments)) → slice_get links n ≡ o → look_in begun_from o ≡ Some far → ⊥
  knows n None is e = absurd (cc)
  knows n (Some l) is e = let some = counted_some (lives_to far) links n l is (begun_lives l far e) in absurd (omega arith)

  own_push : (k : ℕ) → look_at own_of (links ++ m ∷ []) k ≡ look_at own_of links k
  own_push k = by_number (eqb k (length links)) refl where
    by_number : (b : Bool) → eqb k (length links) ≡ b → look_at own_of (links ++ m ∷ []) k ≡ look_at own_of links k
    by_number true e =
        let at = eqb-true k (length links) e in
        ap (look_at own_of (links ++ m ∷ [])) at ∙ push_here own_of links m ∙ unowned ∙ sym (past own_of links) ∙ ap (look_at own_of links) (sym at)
    by_number false e = push_other own_of links m k (eqb-false k (length links) e)

  module _ (h' c' : ℕ → Option ℕ) (r' : ℕ → ℕ) (w' : ℕ) (holders : (q : ℕ) → h' q ≡ h q)
      (given : (q : ℕ) → c' q ≡ cond (eqb far q) (Some (length links)) (c q))
      (counts : (q : ℕ) → r' q ≡ cond (eqb far q) (suc (r q)) (r q)) (wait : w' ≡ w) where
    calls : (k q : ℕ) → look_at begun_from (links ++ m ∷ []) k ≡ Some q → c' q ≡ Some k
    calls k q e = by_number (eqb k (length links)) refl where
      others : (b : Bool) → eqb far q ≡ b → look_at begun_from links k ≡ Some q → c' q ≡ Some k
      others true same there = absurd (knows k (slice_get links k) refl (there ∙ ap Some (sym (eqb-true far q same))))
      others false apart there = given q ∙ ap (λ (b : Bool). cond b (Some (length links)) (c q)) apart ∙ index.calls k q there

      by_number : (b : Bool) → eqb k (length links) ≡ b → c' q ≡ Some k
      by_number true is =
          let at = eqb-true k (length links) is in
          let here : Some far ≡ Some q = sym (ap (look_at begun_from (links ++ m ∷ [])) at ∙ push_here begun_from links m ∙ begun) ∙ e in
          let same : far ≡ q = cc in
          given q ∙ ap (λ (b : Bool). cond b (Some (length links)) (c q)) (eq-eqb far q same) ∙ ap Some (sym at)
      by_number false is = others (eqb far q) refl (sym (push_other begun_from links m k (eqb-false k (length links) is)) ∙ e)

    pub indexed_call : IsIndexed (links ++ m ∷ []) h' c' r' w'
    indexed_call = record {
      has = λ number q e. holders q ∙ index.has number q (sym (own_push number) ∙ e);
      holds = λ q number e. own_push number ∙ index.holds q number (sym (holders q) ∙ e);
      calls = calls;
      reaches = reaches;
      waits = few_wait;
      few = few_all;
    } where
      by : (b : Bool) (k q : ℕ) → cond b (suc k) k ≡ q → q ≡ k + bit b
      by true k q e = omega arith
      by false k q e = omega arith

      reaches : (q : ℕ) → r' q ≡ counted (lives_to q) (links ++ m ∷ [])
      reaches q =
          let pushed = counted_push (lives_to q) links m in
          let bits = ap bit (known q) in
          let before = index.reaches q in
          let after = by (eqb far q) (r q) (r' q) (sym (counts q)) in
          omega arith

      few_wait : counted waits (links ++ m ∷ []) ≤ w'
      few_wait =
          let pushed = counted_push waits links m in
          let none = bit_false (waits m) calling in
          let before = index.waits in
          omega arith

      few_all : w' ≤ length (links ++ m ∷ [])
      few_all = let longer = length_push links m in let before = index.few in omega arith

pub called_index : (far segsize : ℕ) (tag : LinkTag) (m : LinkOf WireSegments) (items ys : List (LinkOf WireSegments)) (h c h' c' : ℕ → Option ℕ)
    (r r' : ℕ → ℕ) (w w' : ℕ) → IsIndexed items h c r w → counted (lives_to far) items ≡ 0 → m ≡ called wire_segments of_partner far segsize tag →
    ys ≡ items ++ m ∷ [] → ((q : ℕ) → h' q ≡ h q) → ((q : ℕ) → c' q ≡ cond (eqb far q) (Some (length items)) (c q)) →
    ((q : ℕ) → r' q ≡ cond (eqb far q) (suc (r q)) (r q)) → w' ≡ w → IsIndexed ys h' c' r' w'
called_index far segsize tag m items ys h c h' c' r r' w w' index free is same holders given counts wait =
    subst (λ (xs : List (LinkOf WireSegments)). IsIndexed xs h' c' r' w') (sym same)
    (indexed_call items h c r w index far m (ap (λ (k : LinkOf WireSegments). k.port.own) is) (ap begun_from is) (λ q. ap (lives_to q) is)
    (ap (λ (k : LinkOf WireSegments). is_calling k.port.phase) is) free h' c' r' w' holders given counts wait)
