-- An index of links stays one where a link changes, ends or begins.
use Rattle.std.proofs.Common.{◌≡◌, ℕ, ◌<◌, Bool, true, Some, List, [], ◌∷◌, ◌++◌, length, get_or, refl, sym, ap, ◌∙◌, subst, arith, ◌⊎◌, inl, inr}
use Rattle.std.proofs.Common.{length-append, length-set}
use Rattle.std.specs.Prelude.{slice_get, slice_set}
use Rattle.std.proofs.lemmas.Option.{slice_get-get_or}
use Rattle.dna_links.specs.LookUps.{is_live}
use Rattle.dna_links.proofs.Runs.Sides.{at_set, set_other, set_same}
use Rattle.dna_play.specs.LinkOwed.{Duty}
use Rattle.dna_play.specs.NextSent.{LinkEnd, duty_of}
use Rattle.two_nodes.proofs.NumberedSteps.{each_pushed}
use Rattle.two_nodes.proofs.Order.{slice_get-append}
use Rattle.player_end.specs.inner.Index.{IsIndexed}

abbrev pub Knows : Type 0
Knows = (address number : ℕ) → Bool

-- what an index knows of the link with this number
pub record IsKnown (h c : Knows) (marks : List ℕ) (n : ℕ) (l : LinkEnd) : Type 0 where
  pub own : (q : ℕ) → l.port.own ≡ Some q → h q n ≡ true
  pub far : (q : ℕ) → l.port.far ≡ Some q → c q n ≡ true
  pub marked : (duty : Duty) → duty_of l ≡ Some duty → slice_get marks n ≡ Some 1
  pub lives : (duty : Duty) → duty_of l ≡ Some duty → is_live l.port.phase ≡ true

-- one that knows each link
of_each : (links : List LinkEnd) (h c : Knows) (marks : List ℕ) → length marks ≡ length links →
    ((n : ℕ) (l : LinkEnd) → slice_get links n ≡ Some l → IsKnown h c marks n l) → IsIndexed links h c marks
of_each links h c marks long each = record {
  own = λ n q l at is. (each n l at).own q is;
  far = λ n q l at is. (each n l at).far q is;
  marked = λ n l duty at is. (each n l at).marked duty is;
  lives = λ n l duty at is. (each n l at).lives duty is;
  long = long;
}

module _ (links : List LinkEnd) (h c : Knows) (marks : List ℕ) (index : IsIndexed links h c marks) where
  -- what it knows of a link is known by another that knows no less of this number
  known : (h' c' : Knows) (marks' : List ℕ) (n : ℕ) → ((q : ℕ) → h q n ≡ true → h' q n ≡ true) → ((q : ℕ) → c q n ≡ true → c' q n ≡ true) →
      (slice_get marks n ≡ Some 1 → slice_get marks' n ≡ Some 1) → (l : LinkEnd) → slice_get links n ≡ Some l → IsKnown h' c' marks' n l
  known h' c' marks' n owns fars still l at = record {
    own = λ q is. owns q (index.own n q l at is);
    far = λ q is. fars q (index.far n q l at is);
    marked = λ duty is. still (index.marked n l duty at is);
    lives = λ duty is. index.lives n l duty at is;
  }

  -- the link with this number changes
  pub set_indexed : (n : ℕ) (m : LinkEnd) (h' c' : Knows) (marks' : List ℕ) → IsKnown h' c' marks' n m → length marks' ≡ length marks →
      ((q k : ℕ) → (k ≡ n → ⊥) → h q k ≡ true → h' q k ≡ true) → ((q k : ℕ) → (k ≡ n → ⊥) → c q k ≡ true → c' q k ≡ true) →
      ((k : ℕ) → (k ≡ n → ⊥) → slice_get marks k ≡ Some 1 → slice_get marks' k ≡ Some 1) → IsIndexed (slice_set links n m) h' c' marks'
  set_indexed n m h' c' marks' it long owns fars still =
      of_each (slice_set links n m) h' c' marks' (long ∙ index.long ∙ sym (length-set links n m)) (λ k y at. go k y (at_set links n k m y at))
    where
      go : (k : ℕ) (y : LinkEnd) → ((k ≡ n) × (m ≡ y)) ⊎ ((k ≡ n → ⊥) × (slice_get links k ≡ Some y)) → IsKnown h' c' marks' k y
      go k y (inl p) = subst (λ (i : ℕ). IsKnown h' c' marks' i y) (sym p.0) (subst (IsKnown h' c' marks' n) p.1 it)
      go k y (inr p) = known h' c' marks' k (λ q. owns q k p.0) (λ q. fars q k p.0) (still k p.0) y p.1

  -- it is marked
  pub changed_indexed : (n : ℕ) (m : LinkEnd) → n < length links → is_live m.port.phase ≡ true → (h' c' : Knows) →
      ((q : ℕ) → m.port.own ≡ Some q → h' q n ≡ true) → ((q : ℕ) → m.port.far ≡ Some q → c' q n ≡ true) →
      ((q k : ℕ) → h q k ≡ true → h' q k ≡ true) → ((q k : ℕ) → c q k ≡ true → c' q k ≡ true) →
      IsIndexed (slice_set links n m) h' c' (slice_set marks n 1)
  changed_indexed n m within live h' c' own far owns fars =
      set_indexed n m h' c' (slice_set marks n 1) it (length-set marks n 1) (λ q k other. owns q k) (λ q k other. fars q k)
      (λ k other is. set_other marks n k 1 other ∙ is)
    where
      here : slice_get marks n ≡ Some (get_or marks n 0)
      here = slice_get-get_or marks n 0 (omega (arith, within, index.long))

      it : IsKnown h' c' (slice_set marks n 1) n m
      it = record { own = own; far = far; marked = λ duty is. set_same marks n (get_or marks n 0) 1 here; lives = λ duty is. live }

  -- one begins
  pub begun_indexed : (m : LinkEnd) (h' c' : Knows) → is_live m.port.phase ≡ true → ((q : ℕ) → m.port.own ≡ Some q → h' q (length links) ≡ true) →
      ((q : ℕ) → m.port.far ≡ Some q → c' q (length links) ≡ true) → ((q k : ℕ) → h q k ≡ true → h' q k ≡ true) →
      ((q k : ℕ) → c q k ≡ true → c' q k ≡ true) → IsIndexed (links ++ m ∷ []) h' c' (marks ++ 1 ∷ [])
  begun_indexed m h' c' live own far owns fars =
      of_each (links ++ m ∷ []) h' c' (marks ++ 1 ∷ []) longer (each_pushed links m (IsKnown h' c' (marks ++ 1 ∷ []))
      (λ n. known h' c' (marks ++ 1 ∷ []) n (λ q. owns q n) (λ q. fars q n) (slice_get-append marks (1 ∷ []) n 1))
      (record { own = own; far = far; marked = λ duty is. marked_last; lives = λ duty is. live }))
    where
      longer : length (marks ++ 1 ∷ []) ≡ length (links ++ m ∷ [])
      longer = let a = length-append marks (1 ∷ []) in let b = length-append links (m ∷ []) in omega (arith, a, b, index.long)

      last : (xs : List ℕ) → slice_get (xs ++ 1 ∷ []) (length xs) ≡ Some 1
      last [] = refl
      last (x ∷ xs) = last xs

      marked_last : slice_get (marks ++ 1 ∷ []) (length links) ≡ Some 1
      marked_last = ap (slice_get (marks ++ 1 ∷ [])) (sym index.long) ∙ last marks

-- more is known
pub more_indexed : {links links' : List LinkEnd} {h c h' c' : Knows} {marks marks' : List ℕ} → links' ≡ links → marks' ≡ marks →
    ((q k : ℕ) → h q k ≡ true → h' q k ≡ true) → ((q k : ℕ) → c q k ≡ true → c' q k ≡ true) → IsIndexed links h c marks →
    IsIndexed links' h' c' marks'
more_indexed {links} {links'} {h} {c} {h'} {c'} {marks} same_links same_marks owns fars index = rw (same_links, same_marks)
    (of_each links h' c' marks index.long (λ n. known links h c marks index h' c' marks n (λ q. owns q n) (λ q. fars q n) (λ e. e)))
