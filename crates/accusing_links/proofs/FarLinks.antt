-- How many links have a far address.
use Rattle.accusing_links.proofs.Prelude.{◌≡◌, ℕ, zero, suc, Some, List, [], ◌∷◌, ◌++◌, slice_set, LinkOf, WireSegments}
use Rattle.accusing_links.proofs.Each.{Each}

module _ (far : ℕ) where
  -- it has another, or none
  abbrev pub IsOther : LinkOf WireSegments → Type 0
  IsOther l = l.port.far ≡ Some far → ⊥

  -- none has the far address
  abbrev pub NoneTo : List (LinkOf WireSegments) → Type 0
  NoneTo links = Each IsOther links

  -- at most one has it
  abbrev pub OneTo : List (LinkOf WireSegments) → Type 0
  OneTo [] = Unit {0}
  OneTo (l ∷ links) = (l.port.far ≡ Some far → NoneTo links) × OneTo links

  pub one_of_none : (links : List (LinkOf WireSegments)) → NoneTo links → OneTo links
  one_of_none [] none = tt
  one_of_none (l ∷ links) none = (λ e. none.1, one_of_none links none.1)

  -- the first to which the far address is given
  pub one_pushed : (links : List (LinkOf WireSegments)) (l : LinkOf WireSegments) → NoneTo links → OneTo (links ++ l ∷ [])
  one_pushed [] l none = (λ e. tt, tt)
  one_pushed (first ∷ links) l none = (λ e. absurd (none.0 e), one_pushed links l none.1)

  pub one_changed : (links : List (LinkOf WireSegments)) (n : ℕ) (l : LinkOf WireSegments) → NoneTo links → OneTo (slice_set links n l)
  one_changed [] n l none = tt
  one_changed (first ∷ links) zero l none = (λ e. none.1, one_of_none links none.1)
  one_changed (first ∷ links) (suc n) l none = (λ e. absurd (none.0 e), one_changed links n l none.1)
