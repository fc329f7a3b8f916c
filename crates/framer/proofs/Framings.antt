-- The framing of bytes, along what stands at their front.
use Rattle.std.proofs.Common.{◌≡◌, ℕ, zero, suc, ◌+◌, ◌-◌, ◌≤◌, List, [], ◌∷◌, ◌++◌, take, drop, refl, sym, ap, subst, ◌∙◌, arith}
use Rattle.std.proofs.lemmas.List.{take-append-le, drop-append-le}
use Rattle.framer.specs.declared.front.Front.{Front}
use Rattle.framer.specs.declared.front.Front.TheVariants.{Between, Stray, Whole, Cut}
use Rattle.framer.specs.Framing.{Framing, front, framing, framing_behind, from_front, only_left, behind_strays, behind_unit, joined}
use Rattle.framer.proofs.Fronts.{front_more, whole_len}

-- ---- one step

framing_at : (byte : ℕ) (bytes : List ℕ) (f : Front) → front (byte ∷ bytes) ≡ f →
    framing (byte ∷ bytes) ≡ from_front f (byte ∷ bytes) (framing_behind bytes)
unfolding framing
framing_at byte bytes f e = rw e refl

behind_is : (bytes : List ℕ) (len : ℕ) → framing_behind bytes len ≡ framing (drop len bytes)
unfolding framing
behind_is [] zero = refl
behind_is [] (suc len) = refl
behind_is (byte ∷ bytes) zero = refl
behind_is (byte ∷ bytes) (suc len) = behind_is bytes len

pub framing-nil : framing [] ≡ only_left []
unfolding framing
framing-nil = refl

pub framing-between : (byte : ℕ) (bytes : List ℕ) → front (byte ∷ bytes) ≡ Between → framing (byte ∷ bytes) ≡ framing bytes
framing-between byte bytes e = framing_at byte bytes Between e ∙ behind_is bytes 0

pub framing-stray : (byte : ℕ) (bytes : List ℕ) → front (byte ∷ bytes) ≡ Stray → framing (byte ∷ bytes) ≡ behind_strays 1 (framing bytes)
framing-stray byte bytes e = framing_at byte bytes Stray e ∙ ap (behind_strays 1) (behind_is bytes 0)

pub framing-cut : (bytes : List ℕ) → front bytes ≡ Cut → framing bytes ≡ only_left bytes
framing-cut [] e = framing-nil
framing-cut (byte ∷ bytes) e = framing_at byte bytes Cut e

-- so many bytes without the first are those from one place on
from_next : (len byte : ℕ) (bytes : List ℕ) → 1 ≤ len → drop (len - 1) bytes ≡ drop len (byte ∷ bytes)
from_next zero byte bytes h = absurd (omega arith)
from_next (suc len) byte bytes h = let e : suc len - 1 ≡ len = omega arith in rw e refl

pub framing-whole : (bytes : List ℕ) (len : ℕ) → front bytes ≡ Whole len → framing bytes ≡ behind_unit (take len bytes) (framing (drop len bytes))
framing-whole [] len e = let w = whole_len [] len e in absurd (omega arith)
framing-whole (byte ∷ bytes) len e =
    let w = whole_len (byte ∷ bytes) len e in
    framing_at byte bytes (Whole len) e ∙
    ap (behind_unit (take len (byte ∷ bytes))) (behind_is bytes (len - 1) ∙ ap framing (from_next len byte bytes (omega arith)))

-- ---- what holds along all steps holds of all bytes

module _ (P : List ℕ → Type 0) where
  -- at each step, from what holds behind it
  pub record IsKept : Type 0 where
    pub between : (byte : ℕ) (bytes : List ℕ) → front (byte ∷ bytes) ≡ Between → P bytes → P (byte ∷ bytes)
    pub stray : (byte : ℕ) (bytes : List ℕ) → front (byte ∷ bytes) ≡ Stray → P bytes → P (byte ∷ bytes)
    pub whole : (bytes : List ℕ) (len : ℕ) → front bytes ≡ Whole len → P (drop len bytes) → P bytes
    pub cut : (bytes : List ℕ) → front bytes ≡ Cut → P bytes

  step : IsKept → (byte : ℕ) (bytes : List ℕ) → ((len : ℕ) → P (drop len bytes)) → (f : Front) → front (byte ∷ bytes) ≡ f → P (byte ∷ bytes)
  step kept byte bytes behind Between e = kept.between byte bytes e (behind 0)
  step kept byte bytes behind Stray e = kept.stray byte bytes e (behind 0)
  step kept byte bytes behind (Whole len) e =
      let w = whole_len (byte ∷ bytes) len e in
      kept.whole (byte ∷ bytes) len e (subst P (from_next len byte bytes (omega arith)) (behind (len - 1)))
  step kept byte bytes behind Cut e = kept.cut (byte ∷ bytes) e

  from_nil : P [] → (len : ℕ) → P (drop len [])
  from_nil p zero = p
  from_nil p (suc len) = p

  from_cons : (byte : ℕ) (bytes : List ℕ) → P (byte ∷ bytes) → ((len : ℕ) → P (drop len bytes)) → (len : ℕ) → P (drop len (byte ∷ bytes))
  from_cons byte bytes p behind zero = p
  from_cons byte bytes p behind (suc len) = behind len

everywhere : (P : List ℕ → Type 0) → IsKept P → P [] → (bytes : List ℕ) (len : ℕ) → P (drop len bytes)
everywhere P kept nil [] = from_nil P nil
everywhere P kept nil (byte ∷ bytes) =
    let behind = everywhere P kept nil bytes in
    from_cons P byte bytes (step P kept byte bytes behind (front (byte ∷ bytes)) refl) behind

pub along : (P : List ℕ → Type 0) → IsKept P → P [] → (bytes : List ℕ) → P bytes
along P kept nil bytes = everywhere P kept nil bytes 0

-- ---- pieces

pub strays_joined : (n : ℕ) (f g : Framing) → behind_strays n (joined f g) ≡ joined (behind_strays n f) g
strays_joined n f g = let e : n + (f.strays + g.strays) ≡ n + f.strays + g.strays = omega arith in rw e refl

pub joined-nil : (bytes : List ℕ) (f : Framing) → joined (only_left bytes) f ≡ f
joined-nil bytes f = let e : 0 + f.strays ≡ f.strays = omega arith in rw e refl

pub strays_none : (f : Framing) → behind_strays 0 f ≡ f
strays_none f = let e : 0 + f.strays ≡ f.strays = omega arith in rw e refl

pub strays_both : (m n : ℕ) (f : Framing) → behind_strays m (behind_strays n f) ≡ behind_strays (m + n) f
strays_both m n f = let e : m + (n + f.strays) ≡ m + n + f.strays = omega arith in rw e refl

-- the framing of all bytes is that of the first ones, and behind it that of what they left with the others
abbrev Joins : List ℕ → List ℕ → Type 0
Joins more bytes = framing (bytes ++ more) ≡ joined (framing bytes) (framing ((framing bytes).left ++ more))

not_cut : (f : Front) (bytes : List ℕ) → front bytes ≡ f → (f ≡ Cut → ⊥) → front bytes ≡ Cut → ⊥
not_cut f bytes e other c = other (sym e ∙ c)

joins_kept : (more : List ℕ) → IsKept (Joins more)
joins_kept more = record {
  between = λ byte bytes e p.
      let f = front_more (byte ∷ bytes) more (not_cut Between (byte ∷ bytes) e (λ c. absurd cc)) in
      framing-between byte (bytes ++ more) (f ∙ e) ∙ p
      ∙ sym (ap (λ (g : Framing). joined g (framing (g.left ++ more))) (framing-between byte bytes e));
  stray = λ byte bytes e p.
      let f = front_more (byte ∷ bytes) more (not_cut Stray (byte ∷ bytes) e (λ c. absurd cc)) in
      framing-stray byte (bytes ++ more) (f ∙ e) ∙ ap (behind_strays 1) p
      ∙ strays_joined 1 (framing bytes) (framing ((framing bytes).left ++ more))
      ∙ sym (ap (λ (g : Framing). joined g (framing (g.left ++ more))) (framing-stray byte bytes e));
  whole = λ bytes len e p.
      let f = front_more bytes more (not_cut (Whole len) bytes e (λ c. absurd cc)) in
      let w = whole_len bytes len e in
      framing-whole (bytes ++ more) len (f ∙ e)
      ∙ ap (λ (u : List ℕ). behind_unit u (framing (drop len (bytes ++ more)))) (take-append-le len bytes more w.1)
      ∙ ap (λ (r : List ℕ). behind_unit (take len bytes) (framing r)) (drop-append-le len bytes more w.1)
      ∙ ap (behind_unit (take len bytes)) p
      ∙ sym (ap (λ (g : Framing). joined g (framing (g.left ++ more))) (framing-whole bytes len e));
  cut = λ bytes e.
      sym (joined-nil bytes (framing (bytes ++ more)))
      ∙ sym (ap (λ (g : Framing). joined g (framing (g.left ++ more))) (framing-cut bytes e));
}

pub framing-append : (bytes more : List ℕ) → Joins more bytes
framing-append bytes more =
    along (Joins more) (joins_kept more)
    (sym (joined-nil [] (framing more)) ∙ sym (ap (λ (g : Framing). joined g (framing (g.left ++ more))) framing-nil)) bytes
