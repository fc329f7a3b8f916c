-- Each text is the characters of a string, once it is escaped.
use Rattle.std.proofs.Common.{arith, ◌≡◌, ◌<◌, ◌/◌, ◌%◌, ◌*◌, ◌⊎◌, inl, inr, ℕ, true, false, Bool, ◌||◌, ◌==◌, nat_lt, List, [], ◌∷◌, codes}
use Rattle.std.proofs.Common.{if◌then◌else◌, refl}
use Rattle.std.specs.List.{flat_map}
use Rattle.std.proofs.lemmas.Bool.{eqb-false, eqb-true, ltb-false, ltb-true, or_cases}
use Rattle.std.proofs.lemmas.Nat.{div_below, mod_below}
use Rattle.json_text.specs.Spelled.{escaped, numbered}
use Rattle.json_text.specs.Json.{AreCharacters, IsCharacter}
use Rattle.json_text.specs.Json.AreCharacters.{NoCharacter, OneMore}
use Rattle.json_text.specs.Json.IsCharacter.{Backslash, Itself, Numbered, Quote}

-- ---- a control character has two digits

is_control : (byte : ℕ) → (nat_lt byte 32 ≡ true) ⊎ ((byte == 127) ≡ true) → byte < 16 * 16
is_control byte (inl is_low) = omega (arith, ltb-true byte 32 is_low)
is_control byte (inr is_last) = omega (arith, eqb-true byte 127 is_last)

-- ---- each of the four cases

is_one : (byte : ℕ) (is_quote is_backslash is_told : Bool) → (byte == 34) ≡ is_quote → (byte == 92) ≡ is_backslash →
    (nat_lt byte 32 || byte == 127) ≡ is_told →
    IsCharacter (if is_quote then codes "\\\"" else (if is_backslash then codes "\\\\" else (if is_told then
    numbered (byte / 16) (byte % 16) else byte ∷ [])))
is_one byte true backslash told q b t = Quote
is_one byte false true told q b t = Backslash
is_one byte false false true q b t =
    Numbered (byte / 16) (byte % 16)
    (div_below byte 16 16 (omega arith) (is_control byte (or_cases (nat_lt byte 32) (byte == 127) t)))
    (mod_below byte 16 (omega arith))
is_one byte false false false q b t =
    Itself byte (ltb-false byte 32 (or_false_left (nat_lt byte 32) (byte == 127) t)) (eqb-false byte 34 q) (eqb-false byte 92 b)
  where
    or_false_left : (x y : Bool) → (x || y) ≡ false → x ≡ false
    or_false_left false y is = refl
    or_false_left true y is = is

is_character : (byte : ℕ) → IsCharacter (escaped byte)
is_character byte = is_one byte (byte == 34) (byte == 92) (nat_lt byte 32 || byte == 127) refl refl refl

-- ---- a text

pub are_characters : (text : List ℕ) → AreCharacters (flat_map escaped text)
are_characters [] = NoCharacter
are_characters (byte ∷ text) = OneMore (is_character byte) (are_characters text)
