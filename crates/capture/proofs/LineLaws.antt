-- The first line of some bytes, and what is known of it once its beginning was read.
use Rattle.std.proofs.Common.{◌≡◌, ◌≢◌, ℕ, zero, suc, ◌+◌, ◌<◌, true, false, eqb, List, [], ◌∷◌, ◌++◌, length, get_or, take, drop, Option, Some, None}
use Rattle.std.proofs.Common.{refl, sym, ap, subst, ◌∙◌, inl, inr, arith}
use Rattle.std.specs.Prelude.{IfSome}
use Rattle.std.specs.Io.KnownBytes.{prepend_known, Consumes, Keeps, IsAtEnd}
use Rattle.std.proofs.lemmas.Bool.{cases_Bool, eqb-true, eq-eqb, ne_eqb}
use Rattle.std.proofs.lemmas.List.{append-nil, append_assoc}
use Rattle.capture.specs.Departing.{first_line, has_lf}
use Rattle.capture.proofs.PartLaws.{HasNo}

-- ---- by places

-- an LF stands first at n
pub line-found : (bytes : List ℕ) (n : ℕ) → n < length bytes → get_or bytes n 0 ≡ 10 → ((j : ℕ) → j < n → get_or bytes j 0 ≢ 10) →
    (length (first_line bytes) ≡ n) × (has_lf bytes ≡ true)
line-found [] n lt at none = absurd (omega arith)
line-found (b ∷ bytes) zero lt at none = rw (eq-eqb b 10 at) (refl, refl)
line-found (b ∷ bytes) (suc n) lt at none =
    let ih = line-found bytes n (omega arith) at (λ j l. none (suc j) (omega arith)) in
    rw (ne_eqb b 10 (none 0 (omega arith))) (ap suc ih.0, ih.1)

-- no LF stands there
pub line-open : (bytes : List ℕ) → ((j : ℕ) → j < length bytes → get_or bytes j 0 ≢ 10) → (first_line bytes ≡ bytes) × (has_lf bytes ≡ false)
line-open [] none = (refl, refl)
line-open (b ∷ bytes) none =
    let ih = line-open bytes (λ j l. none (suc j) (omega arith)) in
    rw (ne_eqb b 10 (none 0 (omega arith))) (ap (λ (t : List ℕ). b ∷ t) ih.0, ih.1)

-- ---- by what follows

pub line-append : (a b : List ℕ) → has_lf a ≡ true → (first_line (a ++ b) ≡ first_line a) × (has_lf (a ++ b) ≡ true)
line-append [] b h = absurd cc
line-append (x ∷ a) b h =
    elim (cases_Bool (eqb x 10)) [
      | inl lf ↦ rw lf (refl, refl)
      | inr other ↦
          let later : has_lf a ≡ true = rw other at h in
          let ih = line-append a b later in
          rw other (ap (λ (t : List ℕ). x ∷ t) ih.0, ih.1)
    ]

pub line-append_open : (a b : List ℕ) → has_lf a ≡ false → (first_line (a ++ b) ≡ a ++ first_line b) × (has_lf (a ++ b) ≡ has_lf b)
line-append_open [] b h = (refl, refl)
line-append_open (x ∷ a) b h =
    elim (cases_Bool (eqb x 10)) [
      | inl lf ↦ absurd (let t : true ≡ false = rw lf at h in cc)
      | inr other ↦
          let later : has_lf a ≡ false = rw other at h in
          let ih = line-append_open a b later in
          rw other (ap (λ (t : List ℕ). x ∷ t) ih.0, ih.1)
    ]

-- the line, its LF and the rest
pub line-split : (bytes : List ℕ) → has_lf bytes ≡ true → (bytes ≡ first_line bytes ++ 10 ∷ drop (length (first_line bytes) + 1) bytes) ×
    (first_line bytes ≡ take (length (first_line bytes)) bytes) × (length (first_line bytes) < length bytes)
line-split [] h = absurd cc
line-split (x ∷ bytes) h =
    elim (cases_Bool (eqb x 10)) [
      | inl lf ↦ let is : x ≡ 10 = eqb-true x 10 lf in rw lf (ap (λ (k : ℕ). k ∷ bytes) is, refl, omega arith)
      | inr other ↦
          let later : has_lf bytes ≡ true = rw other at h in
          let ih = line-split bytes later in
          let next : suc (length (first_line bytes)) + 1 ≡ suc (length (first_line bytes) + 1) = omega arith in
          rw (other, next) (ap (λ (t : List ℕ). x ∷ t) ih.0, ap (λ (t : List ℕ). x ∷ t) ih.1, omega (arith, ih.2))
    ]

-- a text without LF, ended
pub line-ended : (text rest : List ℕ) → HasNo 10 text → (first_line (text ++ 10 ∷ rest) ≡ text) × (has_lf (text ++ 10 ∷ rest) ≡ true)
line-ended [] rest h = (refl, refl)
line-ended (x ∷ text) rest h =
    let ih = line-ended text rest h.1 in
    rw (ne_eqb x 10 h.0) (ap (λ (t : List ℕ). x ∷ t) ih.0, ih.1)

-- ---- what is to come, where its beginning was read ahead

pub if_known : (before after : Option (List ℕ)) (unread : List ℕ) (P : List ℕ → Type 0) → Keeps before (prepend_known unread after) →
    ((rest : List ℕ) → P (unread ++ rest)) → IfSome before P
if_known None after unread P kept h = tt
if_known (Some xs) None unread P kept h = absurd kept
if_known (Some xs) (Some rest) unread P kept h = subst P kept (h rest)

-- nothing follows
pub if_all_known : (before after : Option (List ℕ)) (unread : List ℕ) (P : List ℕ → Type 0) → Keeps before (prepend_known unread after) →
    IsAtEnd after → P unread → IfSome before P
if_all_known None after unread P kept end h = tt
if_all_known (Some xs) None unread P kept end h = absurd kept
if_all_known (Some xs) (Some rest) unread P kept end h =
    let none : unread ++ rest ≡ unread = ap (λ (t : List ℕ). unread ++ t) end ∙ append-nil unread in
    subst P (sym none ∙ kept) h

pub kept_on : (before mid after : Option (List ℕ)) (old new piece : List ℕ) → Keeps before (prepend_known old mid) → new ≡ old ++ piece →
    Consumes mid after piece → Keeps before (prepend_known new after)
kept_on None mid after old new piece kept e took = tt
kept_on (Some xs) None after old new piece kept e took = absurd kept
kept_on (Some xs) (Some ys) None old new piece kept e took = absurd took
kept_on (Some xs) (Some ys) (Some zs) old new piece kept e took =
    ap (λ (t : List ℕ). t ++ zs) e ∙ append_assoc old piece zs ∙ ap (λ (t : List ℕ). old ++ t) (sym took) ∙ kept
