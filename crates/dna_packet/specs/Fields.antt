-- Fields as they appear in a message, one after the other, and as they are read, from left to right.
use Rattle.std.specs.Prelude.{◌≡◌, ℕ, ◌+◌, ◌*◌, ◌/◌, ◌%◌, List, [], ◌∷◌, length, Result, Ok, Err}
use Rattle.std.specs.Borrow.{Bor}

-- a word: two bytes, the low one first
abbrev pub word : ℕ → List ℕ
word n = (n % 256) ∷ (n / 256 % 256) ∷ []

-- A reader answers the first fault from the left, or goes on.
infixl 10 ◌>>=◌
abbrev pub ◌>>=◌ : {A B Z : Type 0} → Result A Z → (A → Result B Z) → Result B Z
(Ok x) >>= f = f x
(Err e) >>= f = Err e

-- a byte, and the bytes after it
abbrev pub byte_at : {Z : Type 0} → Z → List ℕ → Result (ℕ × List ℕ) Z
byte_at missing [] = Err missing
byte_at missing (byte ∷ rest) = Ok (byte, rest)

-- a word, and the bytes after it; a single byte is a word that is cut
abbrev pub word_at : {Z : Type 0} → Z → List ℕ → Result (ℕ × List ℕ) Z
word_at missing [] = Err missing
word_at missing (low ∷ []) = Err missing
word_at missing (low ∷ high ∷ rest) = Ok (low + 256 * high, rest)

-- what a call answered, seen by view, is what reading gives
abbrev pub Gives : {X Y Z : Type 0} → (X → Y) → Result X Z → Result Y Z → Type 0
Gives view (Ok x) read = read ≡ Ok (view x)
Gives view (Err fault) read = read ≡ Err fault

-- The part lies in the memory of the whole, and ends where the whole ends.
abbrev pub IsEndOf : Bor (List ℕ) → Bor (List ℕ) → Type 0
IsEndOf whole part =
    (part.ref_ptr.0 ≡ whole.ref_ptr.0) × (part.ref_ptr.1 + length part.now ≡ whole.ref_ptr.1 + length whole.now)
