-- What waits at a link, when some of it is taken away or more comes.
use Rattle.dna_queues.proofs.Prelude.{◌≡◌, ℕ, Bool, true, false, ◌==◌, cond, Option, Some, None, List, [], ◌∷◌, ◌++◌, refl, sym, ap, ◌∙◌, eqb-true}
use Rattle.dna_queues.proofs.Prelude.{are_same, SentMessage, waiting, Takes, First, Behind}

module _ (link_of : SentMessage → Option ℕ) where
  pub waiting_same : (unit : SentMessage) (units : List SentMessage) (link : Option ℕ) → are_same (link_of unit) link ≡ true →
      waiting link_of link (unit ∷ units) ≡ unit ∷ waiting link_of link units
  waiting_same unit units link e = ap (λ (b : Bool). cond b (unit ∷ waiting link_of link units) (waiting link_of link units)) e

  pub waiting_other : (unit : SentMessage) (units : List SentMessage) (link : Option ℕ) → are_same (link_of unit) link ≡ false →
      waiting link_of link (unit ∷ units) ≡ waiting link_of link units
  waiting_other unit units link e = ap (λ (b : Bool). cond b (unit ∷ waiting link_of link units) (waiting link_of link units)) e

  pub takes_first : (units left : List SentMessage) (unit : SentMessage) (link : Option ℕ) → Takes link_of units unit left →
      are_same (link_of unit) link ≡ true → waiting link_of link units ≡ unit ∷ waiting link_of link left
  takes_first units left unit link (First _ _) e = waiting_same unit left link e
  takes_first units left unit link (Behind other _ rest rest_left differs takes) e =
      waiting_other other rest link (differs_too (link_of other) (link_of unit) link differs e) ∙ takes_first rest rest_left unit link takes e
      ∙ ap (λ (us : List SentMessage). unit ∷ us) (sym (waiting_other other rest_left link (differs_too (link_of other) (link_of unit) link
      differs e)))
    where
      differs_too : (a b c : Option ℕ) → are_same a b ≡ false → are_same b c ≡ true → are_same a c ≡ false
      differs_too None b c e f = refl
      differs_too (Some x) None c e f = absurd cc
      differs_too (Some x) (Some y) None e f = refl
      differs_too (Some x) (Some y) (Some z) e f = ap (λ (n : ℕ). n == x) (eqb-true z y f) ∙ e

  pub takes_other : (units left : List SentMessage) (unit : SentMessage) (link : Option ℕ) → Takes link_of units unit left →
      are_same (link_of unit) link ≡ false → waiting link_of link units ≡ waiting link_of link left
  takes_other units left unit link (First _ _) e = waiting_other unit left link e
  takes_other units left unit link (Behind other _ rest rest_left differs takes) e =
      ap (λ (us : List SentMessage). cond (are_same (link_of other) link) (other ∷ us) us) (takes_other rest rest_left unit link takes e)

  pub waiting_push : (units : List SentMessage) (unit : SentMessage) (link : Option ℕ) →
      waiting link_of link (units ++ unit ∷ []) ≡ waiting link_of link units ++ cond (are_same (link_of unit) link) (unit ∷ []) []
  waiting_push [] unit link = refl
  waiting_push (first ∷ units) unit link = go (are_same (link_of first) link) (waiting_push units unit link)
    where
      go : (b : Bool) → waiting link_of link (units ++ unit ∷ [])
          ≡ waiting link_of link units ++ cond (are_same (link_of unit) link) (unit ∷ []) [] →
          cond b (first ∷ waiting link_of link (units ++ unit ∷ [])) (waiting link_of link (units ++ unit ∷ []))
          ≡ cond b (first ∷ waiting link_of link units) (waiting link_of link units) ++ cond (are_same (link_of unit) link) (unit ∷ []) []
      go true e = ap (λ (us : List SentMessage). first ∷ us) e
      go false e = e

  pub waiting_none : (units : List SentMessage) → waiting link_of None units ≡ []
  waiting_none [] = refl
  waiting_none (unit ∷ units) = waiting_other unit units None (none (link_of unit)) ∙ waiting_none units
    where
      none : (o : Option ℕ) → are_same o None ≡ false
      none None = refl
      none (Some n) = refl
