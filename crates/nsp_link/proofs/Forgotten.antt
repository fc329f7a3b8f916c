-- What is seen of links where one stands behind them, and where one forgets its own address.
use Rattle.std.proofs.Common.{◌≡◌, ℕ, zero, suc, ◌<◌, Bool, true, false, cond, Option, Some, None, List, [], ◌∷◌, ◌++◌, length, set, refl}
use Rattle.std.proofs.Common.{sym, ap, ◌∙◌, arith, eqb}
use Rattle.std.specs.Prelude.{slice_get}
use Rattle.std.proofs.lemmas.Option.{slice_get_within}
use Rattle.std.proofs.lemmas.Bool.{eqb-true, eqb-false}
use Rattle.dna_links.specs.Queues.{forgotten, freed}
use Rattle.dna_links.specs.declared.queue.Queues.{Queues}
use Rattle.dna_links.specs.declared.queue.Queues.TheVariants.{Without, With}
use Rattle.dna_links.specs.declared.port.LinkTest.TheVariants.{HasAddress}
use Rattle.dna_links.specs.Links.{LinkOf, number_of, at_number, on_link, changed}
use Rattle.dna_links.specs.WireSegments.{WireSegments, wire_segments}
use Rattle.dna_links.specs.WireLinks.{WireLinks}
use Rattle.nsp_link.specs.inner.Index.{forgotten_found, forgotten_at, look_in, look_at, own_of, begun_from, counted}
use Rattle.nsp_link.specs.inner.Queue.{forgotten_link}
use Rattle.nsp_link.proofs.Counting.{bit, counted_set}
use Rattle.nsp_link.proofs.Indexed.{look_set, length_set}
use Rattle.nsp_link.proofs.Holders.{lost}

module _ (look : LinkOf WireSegments → Option ℕ) where
  pub set_same : (links : List (LinkOf WireSegments)) (n : ℕ) (m : LinkOf WireSegments) → n < length links → look_at look (set links n m) n ≡ look m
  set_same [] n m h = absurd (omega arith)
  set_same (x ∷ links) zero m h = refl
  set_same (x ∷ links) (suc n) m h = set_same links n m (omega arith)

  pub set_other : (links : List (LinkOf WireSegments)) (n k : ℕ) (m : LinkOf WireSegments) → (k ≡ n → ⊥) → look_at look (set links n m) k
      ≡ look_at look links k
  set_other [] n k m apart = refl
  set_other (x ∷ links) zero zero m apart = absurd (apart refl)
  set_other (x ∷ links) zero (suc k) m apart = refl
  set_other (x ∷ links) (suc n) zero m apart = refl
  set_other (x ∷ links) (suc n) (suc k) m apart = set_other links n k m (λ e. apart (ap suc e))

  pub push_here : (links : List (LinkOf WireSegments)) (m : LinkOf WireSegments) → look_at look (links ++ m ∷ []) (length links) ≡ look m
  push_here [] m = refl
  push_here (x ∷ links) m = push_here links m

  pub push_other : (links : List (LinkOf WireSegments)) (m : LinkOf WireSegments) (k : ℕ) → (k ≡ length links → ⊥) →
      look_at look (links ++ m ∷ []) k ≡
      look_at look links k
  push_other [] m zero apart = absurd (apart refl)
  push_other [] m (suc k) apart = refl
  push_other (x ∷ links) m zero apart = refl
  push_other (x ∷ links) m (suc k) apart = push_other links m k (λ e. apart (ap suc e))

  pub past : (links : List (LinkOf WireSegments)) → look_at look links (length links) ≡ None
  past [] = refl
  past (x ∷ links) = past links

pub length_push : (links : List (LinkOf WireSegments)) (m : LinkOf WireSegments) → length (links ++ m ∷ []) ≡ suc (length links)
length_push [] m = refl
length_push (x ∷ links) m = ap suc (length_push links m)

module _ (queues : Queues) where
  own_forgotten_by : (links : List (LinkOf WireSegments)) (m k : ℕ) (o : Option (LinkOf WireSegments)) (b : Bool) → slice_get links m ≡ o →
      eqb m k ≡ b →
      look_at own_of (forgotten_found queues m o links) k ≡ cond b None (look_at own_of links k)
  own_forgotten_by links m k None true is same = sym (ap (λ (n : ℕ). look_at own_of links n) (eqb-true m k same)) ∙ ap (look_in own_of) is
  own_forgotten_by links m k None false is apart = refl
  own_forgotten_by links m k (Some l) true is same =
      sym (ap (λ (n : ℕ). look_at own_of (set links m (forgotten_link queues l)) n) (eqb-true m k same))
      ∙ set_same own_of links m (forgotten_link queues l) (slice_get_within links m l is)
  own_forgotten_by links m k (Some l) false is apart = set_other own_of links m k (forgotten_link queues l) (λ e. eqb-false m k apart (sym e))

  pub own_forgotten : (links : List (LinkOf WireSegments)) (holder : Option ℕ) (k : ℕ) → look_at own_of (forgotten_at queues holder links) k
      ≡ lost holder k (look_at own_of links k)
  own_forgotten links None k = refl
  own_forgotten links (Some m) k = own_forgotten_by links m k (slice_get links m) (eqb m k) refl refl

  begun_forgotten_by : (links : List (LinkOf WireSegments)) (m k : ℕ) (o : Option (LinkOf WireSegments)) → slice_get links m ≡ o →
      look_at begun_from (forgotten_found queues m o links) k ≡ look_at begun_from links k
  begun_forgotten_by links m k None is = refl
  begun_forgotten_by links m k (Some l) is = look_set begun_from links m k l (forgotten_link queues l) is refl

  pub begun_forgotten : (links : List (LinkOf WireSegments)) (holder : Option ℕ) (k : ℕ) → look_at begun_from (forgotten_at queues holder links) k ≡
      look_at begun_from links k
  begun_forgotten links None k = refl
  begun_forgotten links (Some m) k = begun_forgotten_by links m k (slice_get links m) refl

  module _ (p : LinkOf WireSegments → Bool) (same : (l : LinkOf WireSegments) → p (forgotten_link queues l) ≡ p l) where
    counted_forgotten_by : (links : List (LinkOf WireSegments)) (m : ℕ) (o : Option (LinkOf WireSegments)) → slice_get links m ≡ o →
        counted p (forgotten_found queues m o links) ≡ counted p links
    counted_forgotten_by links m None is = refl
    counted_forgotten_by links m (Some l) is =
        let counts = counted_set p links m l (forgotten_link queues l) is in
        let bits = ap bit (same l) in
        omega arith

    pub counted_forgotten : (links : List (LinkOf WireSegments)) (holder : Option ℕ) → counted p (forgotten_at queues holder links) ≡ counted p links
    counted_forgotten links None = refl
    counted_forgotten links (Some m) = counted_forgotten_by links m (slice_get links m) refl

  length_forgotten_by : (links : List (LinkOf WireSegments)) (m : ℕ) (o : Option (LinkOf WireSegments)) →
      length (forgotten_found queues m o links) ≡ length links
  length_forgotten_by links m None = refl
  length_forgotten_by links m (Some l) = length_set links m (forgotten_link queues l)

  pub length_forgotten : (links : List (LinkOf WireSegments)) (holder : Option ℕ) → length (forgotten_at queues holder links) ≡ length links
  length_forgotten links None = refl
  length_forgotten links (Some m) = length_forgotten_by links m (slice_get links m)

forgotten_same : (queues : Queues) (l : LinkOf WireSegments) → forgotten wire_segments queues l ≡ forgotten_link queues l
forgotten_same Without l = refl
forgotten_same With l = refl

freed_by : (queues : Queues) (s : WireLinks) (o : Option (LinkOf WireSegments)) (m : ℕ) →
    on_link m o s (λ n l. changed n (forgotten wire_segments queues l) s) ≡ record s { links = forgotten_found queues m o s.links }
freed_by queues s None m = refl
freed_by queues s (Some l) m = ap (λ (k : LinkOf WireSegments). changed m k s) (forgotten_same queues l)

freed_with : (queues : Queues) (s : WireLinks) (r : Option ℕ) →
    at_number s.links r s (λ n l. changed n (forgotten wire_segments queues l) s) ≡ record s { links = forgotten_at queues r s.links }
freed_with queues s None = refl
freed_with queues s (Some m) = freed_by queues s (slice_get s.links m) m

-- what the definitions make of an address that is given again
pub freed_is : (queues : Queues) (own : ℕ) (s : WireLinks) (r : Option ℕ) → number_of (HasAddress own) s ≡ r →
    freed wire_segments queues own s ≡ record s { links = forgotten_at queues r s.links }
freed_is queues own s r e =
    ap (λ (o : Option ℕ). at_number s.links o s (λ n l. changed n (forgotten wire_segments queues l) s)) e ∙ freed_with queues s r
