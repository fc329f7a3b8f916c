-- An own address that is given: who holds which, as functions.
use Rattle.std.proofs.Common.{◌≡◌, ℕ, Bool, true, false, cond, Option, Some, None, refl}
use Rattle.std.proofs.Common.{sym, ap, ◌∙◌, eqb}
use Rattle.std.proofs.lemmas.Bool.{eqb-true, eqb-false, eq-eqb, ne_eqb}

abbrev pub lost : Option ℕ → ℕ → Option ℕ → Option ℕ
lost None k own = own
lost (Some m) k own = cond (eqb m k) None own

module _ (f h f' h' : ℕ → Option ℕ) (own n : ℕ)
    (has : (k q : ℕ) → f k ≡ Some q → h q ≡ Some k) (holds : (q k : ℕ) → h q ≡ Some k → f k ≡ Some q)
    (fresh : f n ≡ None) (here : f' n ≡ Some own) (others : (k : ℕ) → (k ≡ n → ⊥) → f' k ≡ lost (h own) k (f k))
    (given : (q : ℕ) → h' q ≡ cond (eqb own q) (Some n) (h q)) where
  other_address : (q k : ℕ) → eqb own q ≡ false → h q ≡ Some k → h' q ≡ Some k
  other_address q k apart e = given q ∙ ap (λ (b : Bool). cond b (Some n) (h q)) apart ∙ e

  has_other : (k q : ℕ) (o : Option ℕ) (b : Bool) → (k ≡ n → ⊥) → h own ≡ o → eqb own q ≡ b → f' k ≡ Some q → h' q ≡ Some k
  has_other k q None true apart is same e =
      let there : f k ≡ Some q = sym (others k apart ∙ ap (λ (r : Option ℕ). lost r k (f k)) is) ∙ e in
      let both : h q ≡ Some k = has k q there in
      let address : own ≡ q = eqb-true own q same in
      let none : h q ≡ None = ap h (sym address) ∙ is in
      absurd (cc)
  has_other k q None false apart is same e =
      other_address q k same (has k q (sym (others k apart ∙ ap (λ (r : Option ℕ). lost r k (f k)) is) ∙ e))
  has_other k q (Some m) b apart is same e = by_holder (eqb m k) b refl same (sym (others k apart ∙ ap (λ (r : Option ℕ). lost r k (f k)) is) ∙ e)
    where
      by_holder : (c b : Bool) → eqb m k ≡ c → eqb own q ≡ b → cond (eqb m k) None (f k) ≡ Some q → h' q ≡ Some k
      by_holder true b holder same there =
          let none : None ≡ Some q = sym (ap (λ (x : Bool). cond x None (f k)) holder) ∙ there in
          absurd (cc)
      by_holder false true holder same there =
          let left : f k ≡ Some q = sym (ap (λ (x : Bool). cond x None (f k)) holder) ∙ there in
          let address : own ≡ q = eqb-true own q same in
          let both : Some m ≡ Some k = sym is ∙ ap h address ∙ has k q left in
          let equal : m ≡ k = cc in
          absurd (eqb-false m k holder equal)
      by_holder false false holder same there = other_address q k same (has k q (sym (ap (λ (x : Bool). cond x None (f k)) holder) ∙ there))

  pub gives_has : (k q : ℕ) → f' k ≡ Some q → h' q ≡ Some k
  gives_has k q e = by_number (eqb k n) refl where
    by_number : (b : Bool) → eqb k n ≡ b → h' q ≡ Some k
    by_number true same =
        let at : k ≡ n = eqb-true k n same in
        let address : Some own ≡ Some q = sym here ∙ ap f' (sym at) ∙ e in
        let equal : own ≡ q = cc in
        given q ∙ ap (λ (b : Bool). cond b (Some n) (h q)) (eq-eqb own q equal) ∙ ap Some (sym at)
    by_number false apart = has_other k q (h own) (eqb own q) (eqb-false k n apart) refl refl e

  holds_other : (q k : ℕ) (o : Option ℕ) → eqb own q ≡ false → h own ≡ o → h q ≡ Some k → f' k ≡ Some q
  holds_other q k None apart is e = others k not_here ∙ ap (λ (r : Option ℕ). lost r k (f k)) is ∙ holds q k e where
    not_here : k ≡ n → ⊥
    not_here at = let there : None ≡ Some q = sym fresh ∙ ap f (sym at) ∙ holds q k e in absurd (cc)
  holds_other q k (Some m) apart is e = others k not_here ∙ ap (λ (r : Option ℕ). lost r k (f k)) is ∙ ap (λ (b : Bool). cond b None (f k))
      (ne_eqb m k not_holder) ∙ holds q k e where
        not_here : k ≡ n → ⊥
        not_here at = let there : None ≡ Some q = sym fresh ∙ ap f (sym at) ∙ holds q k e in absurd (cc)

        not_holder : m ≡ k → ⊥
        not_holder at =
            let both : Some own ≡ Some q = sym (holds own m is) ∙ ap f at ∙ holds q k e in
            let equal : own ≡ q = cc in
            eqb-false own q apart equal

  pub gives_holds : (q k : ℕ) → h' q ≡ Some k → f' k ≡ Some q
  gives_holds q k e = by_address (eqb own q) refl where
    by_address : (b : Bool) → eqb own q ≡ b → f' k ≡ Some q
    by_address true same =
        let number : Some n ≡ Some k = sym (given q ∙ ap (λ (b : Bool). cond b (Some n) (h q)) same) ∙ e in
        let equal : n ≡ k = cc in
        ap f' (sym equal) ∙ here ∙ ap Some (eqb-true own q same)
    by_address false apart = holds_other q k (h own) apart refl (sym (given q ∙ ap (λ (b : Bool). cond b (Some n) (h q)) apart) ∙ e)
