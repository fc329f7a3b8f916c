-- The links that live, at their places among all: what stands at a place, what a change of one link makes of them, and what a search among
-- them finds.
use Rattle.std.proofs.Common.{◌≡◌, ℕ, zero, suc, Bool, true, false, cond, Option, Some, None, List, [], ◌∷◌, position, refl, sym, ap, ◌∙◌, option_map}
use Rattle.std.specs.Prelude.{slice_get, slice_set}
use Rattle.std.specs.List.{remove}
use Rattle.std.proofs.lemmas.Option.{same_Some}
use Rattle.dna_links.specs.LookUps.{is_live}
use Rattle.dna_play.specs.NextSent.{LinkEnd}
use Rattle.dna_play.proofs.Links.Lists.{position_here, position_later}
use Rattle.player_end.specs.inner.Index.{live_ends, place_among}

abbrev pub lives : LinkEnd → Bool
lives l = is_live l.port.phase

pub live_get : (links : List LinkEnd) (n : ℕ) (l : LinkEnd) → slice_get links n ≡ Some l → lives l ≡ true →
    slice_get (live_ends links) (place_among n links) ≡ Some l
live_get [] n l at live = absurd cc
live_get (k ∷ links) zero l at live =
    ap (λ (b : Bool). slice_get (cond b (k ∷ live_ends links) (live_ends links)) 0) (ap lives (same_Some k l at) ∙ live) ∙ at
live_get (k ∷ links) (suc n) l at live = go (lives k) (live_get links n l at live)
  where
    go : (b : Bool) → slice_get (live_ends links) (place_among n links) ≡ Some l →
        slice_get (cond b (k ∷ live_ends links) (live_ends links)) (cond b (suc (place_among n links)) (place_among n links)) ≡ Some l
    go true rest = rest
    go false rest = rest

-- one that lives changes, and lives on or ends
module _ (m : LinkEnd) where
  abbrev pub left : Bool → List LinkEnd → ℕ → List LinkEnd
  left b links place = cond b (slice_set links place m) (remove links place)

  pub live_change : (links : List LinkEnd) (n : ℕ) (l : LinkEnd) → slice_get links n ≡ Some l → lives l ≡ true → (b : Bool) → lives m ≡ b →
      live_ends (slice_set links n m) ≡ left b (live_ends links) (place_among n links)
  live_change [] n l at live b is = absurd cc
  live_change (k ∷ links) zero l at live b is =
      ap (λ (a : Bool). cond a (m ∷ live_ends links) (live_ends links)) is ∙ go b
      ∙ sym (ap (λ (a : Bool). left b (cond a (k ∷ live_ends links) (live_ends links)) 0) (ap lives (same_Some k l at) ∙ live))
    where
      go : (a : Bool) → cond a (m ∷ live_ends links) (live_ends links) ≡ left a (k ∷ live_ends links) 0
      go true = refl
      go false = refl
  live_change (k ∷ links) (suc n) l at live b is = go (lives k) b (live_change links n l at live b is)
    where
      go : (a c : Bool) → live_ends (slice_set links n m) ≡ left c (live_ends links) (place_among n links) →
          cond a (k ∷ live_ends (slice_set links n m)) (live_ends (slice_set links n m))
          ≡ left c (cond a (k ∷ live_ends links) (live_ends links)) (cond a (suc (place_among n links)) (place_among n links))
      go true true rest = ap (λ (ls : List LinkEnd). k ∷ ls) rest
      go true false rest = ap (λ (ls : List LinkEnd). k ∷ ls) rest
      go false c rest = rest

-- what is found among all is found among those that live, where no other is looked for
module _ (test : LinkEnd → Bool) where
  abbrev placed : List LinkEnd → Option ℕ → Option ℕ
  placed links o = option_map (λ (n : ℕ). place_among n links) o

  module _ (l : LinkEnd) (links : List LinkEnd) where
    behind : lives l ≡ true → (o : Option ℕ) → option_map suc (placed links o) ≡ placed (l ∷ links) (option_map suc o)
    behind f None = refl
    behind f (Some n) = ap (λ (b : Bool). Some (cond b (suc (place_among n links)) (place_among n links))) (sym f)

    beside : lives l ≡ false → (o : Option ℕ) → placed links o ≡ placed (l ∷ links) (option_map suc o)
    beside f None = refl
    beside f (Some n) = ap (λ (b : Bool). Some (cond b (suc (place_among n links)) (place_among n links))) (sym f)

    abbrev front : Bool → Option ℕ
    front b = position test (cond b (l ∷ live_ends links) (live_ends links))

    one_more : (found : Bool) → test l ≡ found → (test l ≡ true → lives l ≡ true) → (b : Bool) → lives l ≡ b →
        position test (live_ends links) ≡ placed links (position test links) → front (lives l) ≡ placed (l ∷ links) (position test (l ∷ links))
    one_more true e only b f rest =
        ap front (only e) ∙ position_here test l (live_ends links) e ∙ sym (ap (placed (l ∷ links)) (position_here test l links e))
    one_more false e only true f rest =
        ap front f ∙ position_later test l (live_ends links) e ∙ ap (option_map suc) rest ∙ behind f (position test links)
        ∙ sym (ap (placed (l ∷ links)) (position_later test l links e))
    one_more false e only false f rest =
        ap front f ∙ rest ∙ beside f (position test links) ∙ sym (ap (placed (l ∷ links)) (position_later test l links e))

  pub live_position : (links : List LinkEnd) → ((n : ℕ) (l : LinkEnd) → slice_get links n ≡ Some l → test l ≡ true → lives l ≡ true) →
      position test (live_ends links) ≡ placed links (position test links)
  live_position [] only = refl
  live_position (l ∷ links) only = one_more l links (test l) refl (only 0 l refl) (lives l) refl (live_position links (λ n. only (suc n)))
