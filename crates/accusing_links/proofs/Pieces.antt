-- Places in a list of pieces.
use Rattle.accusing_links.proofs.Prelude.{◌≡◌, ℕ, zero, suc, ◌+◌, ◌<◌, ◌≤◌, Bool, true, false, cond, Option, Some, None, List, [], ◌∷◌, take, drop}
use Rattle.accusing_links.proofs.Prelude.{refl, sym, subst, ap, arith, ◌⊎◌, inl, inr, ◌∙◌, slice_get, Piece, in_order, hold, Whole, with_piece}
use Rattle.accusing_links.proofs.Prelude.{next_message, one_more, in_whole_messages}

-- what comes before the first that is missing is there
pub there_in_order : (xs : List (Option Piece)) (i : ℕ) → i < in_order xs → (p : Piece) × (slice_get xs i ≡ Some (Some p))
there_in_order [] i l = absurd (omega arith)
there_in_order (None ∷ xs) i l = absurd (omega arith)
there_in_order (Some p ∷ xs) zero l = (p, refl)
there_in_order (Some p ∷ xs) (suc i) l = there_in_order xs i (omega (arith, l))

-- what is there after one more is held was there, or is that one
pub held_or_there : (place : ℕ) (p : Piece) (xs : List (Option Piece)) (i : ℕ) (q : Piece) → slice_get (hold place p xs) i ≡ Some (Some q) →
    (i ≡ place) ⊎ (slice_get xs i ≡ Some (Some q))
held_or_there zero p [] zero q e = inl refl
held_or_there zero p [] (suc i) q e = absurd cc
held_or_there zero p (None ∷ later) zero q e = inl refl
held_or_there zero p (None ∷ later) (suc i) q e = inr e
held_or_there zero p (Some held ∷ later) i q e = inr e
held_or_there (suc place) p [] zero q e = absurd cc
held_or_there (suc place) p [] (suc i) q e = next (held_or_there place p [] i q e)
  where
    next : (i ≡ place) ⊎ (slice_get [] i ≡ Some (Some q)) → (suc i ≡ suc place) ⊎ (slice_get [] (suc i) ≡ Some (Some q))
    next (inl same) = inl (ap suc same)
    next (inr there) = absurd cc
held_or_there (suc place) p (first ∷ later) zero q e = inr e
held_or_there (suc place) p (first ∷ later) (suc i) q e = next (held_or_there place p later i q e)
  where
    next : (i ≡ place) ⊎ (slice_get later i ≡ Some (Some q)) → (suc i ≡ suc place) ⊎ (slice_get later i ≡ Some (Some q))
    next (inl same) = inl (ap suc same)
    next (inr there) = inr there

pub dropped_get : {X : Type 0} (n : ℕ) (xs : List X) (i : ℕ) → slice_get (drop n xs) i ≡ slice_get xs (n + i)
dropped_get {X} zero xs i = ap (slice_get xs) (omega arith)
dropped_get {X} (suc n) [] i = refl
dropped_get {X} (suc n) (x ∷ xs) i = dropped_get n xs i ∙ go
  where
    go : slice_get xs (n + i) ≡ slice_get (x ∷ xs) (suc n + i)
    go = let e : suc n + i ≡ suc (n + i) = omega arith in ap (slice_get (x ∷ xs)) (sym e)

abbrev pieces_of : Option Whole → ℕ
pieces_of None = 0
pieces_of (Some x) = x.pieces

-- a whole message has no gap
pub whole_in_order : (xs : List (Option Piece)) (w : Whole) → next_message xs ≡ Some w → w.pieces ≤ in_order xs
whole_in_order [] w e = absurd cc
whole_in_order (None ∷ later) w e = absurd cc
whole_in_order (Some p ∷ later) w e = go p.ends e (whole_in_order later)
  where
    more : (o : Option Whole) → next_message later ≡ o → with_piece p o ≡ Some w →
        ((v : Whole) → next_message later ≡ Some v → v.pieces ≤ in_order later) → w.pieces ≤ 1 + in_order later
    more None f g each = absurd cc
    more (Some v) f g each =
        let same : v.pieces + 1 ≡ w.pieces = ap pieces_of g in
        let l = each v f in
        omega (arith, same, l)

    go : (b : Bool) → cond b (Some (record { pieces = 1; message = p.body })) (with_piece p (next_message later)) ≡ Some w →
        ((v : Whole) → next_message later ≡ Some v → v.pieces ≤ in_order later) → w.pieces ≤ 1 + in_order later
    go true f each =
        let same : record { pieces = 1; message = p.body } ≡ w = cc in subst (λ (x : Whole). x.pieces ≤ 1 + in_order later) same (omega arith)
    go false f each = more (next_message later) refl f each

one_more_most : (n m : ℕ) → n ≤ m → one_more n ≤ 1 + m
one_more_most zero m l = omega arith
one_more_most (suc n) m l = omega (arith, l)

pub wholes_in_order : (xs : List (Option Piece)) → in_whole_messages xs ≤ in_order xs
wholes_in_order [] = omega arith
wholes_in_order (None ∷ later) = omega arith
wholes_in_order (Some p ∷ later) = go p.ends (wholes_in_order later)
  where
    go : (b : Bool) → in_whole_messages later ≤ in_order later →
        cond b (in_whole_messages later + 1) (one_more (in_whole_messages later)) ≤ 1 + in_order later
    go true l = omega (arith, l)
    go false l = one_more_most (in_whole_messages later) (in_order later) l

-- of so many nothing is behind the first gap
pub none_behind : (n : ℕ) (xs : List (Option Piece)) → n ≤ in_order xs → (k : ℕ) (q : Piece) →
    slice_get (take n xs) (in_order (take n xs) + k) ≡ Some (Some q) → ⊥
none_behind zero xs l k q e = absurd cc
none_behind (suc n) [] l k q e = absurd cc
none_behind (suc n) (None ∷ xs) l k q e = absurd (omega (arith, l))
none_behind (suc n) (Some p ∷ xs) l k q e =
    let same : (1 + in_order (take n xs)) + k ≡ suc (in_order (take n xs) + k) = omega arith in
    let f : slice_get (Some p ∷ take n xs) (suc (in_order (take n xs) + k)) ≡ Some (Some q) =
    subst (λ (i : ℕ). slice_get (Some p ∷ take n xs) i ≡ Some (Some q)) same e in
    none_behind n xs (omega (arith, l)) k q f
