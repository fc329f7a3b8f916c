-- A field that is read is the field that was written, and what was written is read again.
use Rattle.std.proofs.Common.{◌≡◌, ℕ, suc, ◌+◌, ◌*◌, ◌/◌, ◌%◌, ◌^◌, ◌<◌, ◌⊎◌, Bool, true, false, cond, List, [], ◌∷◌, ◌++◌, get_or, Result, Ok, Err}
use Rattle.std.proofs.Common.{refl, sym, ap, subst, ◌∙◌, append_assoc, arith, inl, inr}
use Rattle.dna_packet.specs.Fields.{word, ◌>>=◌, byte_at, word_at}

abbrev pub IsBytes : List ℕ → Type 0
IsBytes bytes = (i : ℕ) → get_or bytes i 0 < 256

pub IsBytes-rest : (b : ℕ) (bytes : List ℕ) → IsBytes (b ∷ bytes) → IsBytes bytes
IsBytes-rest b bytes fits i = fits (suc i)

-- which way a test went
pub chosen : {A : Type 0} (b : Bool) (x y z : A) → cond b x y ≡ z → ((b ≡ true) × (x ≡ z)) ⊎ ((b ≡ false) × (y ≡ z))
chosen true x y z e = inl (refl, e)
chosen false x y z e = inr (refl, e)

module _ {Z : Type 0} where
  -- the value of a step that did not fail
  pub bind_ok : {A B : Type 0} (r : Result A Z) (f : A → Result B Z) (y : B) → (r >>= f) ≡ Ok y → (x : A) × (r ≡ Ok x) × (f x ≡ Ok y)
  bind_ok (Ok x) f y e = (x, refl, e)
  bind_ok (Err d) f y e = absurd cc

  -- a test that did not fail
  pub guard_ok : {A : Type 0} (b : Bool) (d : Z) (r : Result A Z) (y : A) → cond b (Err d) r ≡ Ok y → (b ≡ false) × (r ≡ Ok y)
  guard_ok true d r y e = absurd cc
  guard_ok false d r y e = (refl, e)

  abbrev done : {A : Type 0} → A → Result A Z
  done x = Ok x

  pub ok_is : {A : Type 0} (x y : A) → done x ≡ done y → x ≡ y
  ok_is x y e = cc

-- what a reader took from the front
pub record Takes (bytes text rest : List ℕ) : Type 0 where
  pub parts : bytes ≡ text ++ rest
  pub rest_fits : IsBytes rest

-- the two bytes of a word
pub word_of : (low high : ℕ) → low < 256 → high < 256 → low ∷ high ∷ [] ≡ word (low + 256 * high)
word_of low high p q =
    let a : (low + 256 * high) % 256 ≡ low = omega arith in
    let b : (low + 256 * high) / 256 % 256 ≡ high = omega arith in
    rw (a, b) refl

pub word_fits : (n : ℕ) → n < 2 ^ 16 → n % 256 + 256 * (n / 256 % 256) ≡ n
word_fits n p = omega arith

module _ {Z : Type 0} (missing : Z) where
  pub byte_takes : (bytes : List ℕ) (x : ℕ × List ℕ) → IsBytes bytes → byte_at missing bytes ≡ Ok x → Takes bytes (x.0 ∷ []) x.1 × (x.0 < 256)
  byte_takes [] x fits e = absurd cc
  byte_takes (b ∷ bytes) x fits e =
      subst (λ (y : ℕ × List ℕ). Takes (b ∷ bytes) (y.0 ∷ []) y.1 × (y.0 < 256)) (ok_is {Z = Z} (b, bytes) x e)
      (record { parts = refl; rest_fits = IsBytes-rest b bytes fits }, fits 0)

  pub word_takes : (bytes : List ℕ) (x : ℕ × List ℕ) → IsBytes bytes → word_at missing bytes ≡ Ok x → Takes bytes (word x.0) x.1 × (x.0 < 2 ^ 16)
  word_takes [] x fits e = absurd cc
  word_takes (low ∷ []) x fits e = absurd cc
  word_takes (low ∷ high ∷ bytes) x fits e =
      subst (λ (y : ℕ × List ℕ). Takes (low ∷ high ∷ bytes) (word y.0) y.1 × (y.0 < 2 ^ 16)) (ok_is {Z = Z} (low + 256 * high, bytes) x e) (
        record {
          parts = ap (λ (t : List ℕ). t ++ bytes) (word_of low high (fits 0) (fits 1));
          rest_fits =
              IsBytes-rest high bytes (IsBytes-rest low (high ∷ bytes) fits);
        },
        omega (arith, fits 0, fits 1),
      )

  pub word_again : (n : ℕ) (rest : List ℕ) → n < 2 ^ 16 → word_at missing (word n ++ rest) ≡ Ok (n, rest)
  word_again n rest p = ap (λ (k : ℕ). Ok (k, rest)) (word_fits n p)

pub Takes-then : (a x b y c : List ℕ) → Takes a x b → Takes b y c → Takes a (x ++ y) c
Takes-then a x b y c p q = record { parts = p.parts ∙ ap (λ (t : List ℕ). x ++ t) q.parts ∙ sym (append_assoc x y c); rest_fits = q.rest_fits }
