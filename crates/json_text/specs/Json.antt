-- Well-formed JSON (RFC 8259), as far as it is written here: its numbers are natural, and a space comes after each colon and each comma.
use Rattle.std.specs.Prelude.{◌≡◌, ◌≢◌, ◌≤◌, ◌<◌, ℕ, Bool, List, [], ◌∷◌, ◌++◌, codes}
use Rattle.std.specs.Fmt.{decimal}
use Rattle.json_text.specs.Spelled.{array_text, flag_text, joined, member_text, numbered, object_text, quoted}

-- ---- a string (7): bytes of UTF-8 between quotes

-- a byte that stands for itself, or an escape
pub data IsCharacter : List ℕ → Type 0 where
  Itself : (byte : ℕ) → 32 ≤ byte → byte ≢ 34 → byte ≢ 92 → IsCharacter (byte ∷ [])
  Quote : IsCharacter (codes "\\\"")
  Backslash : IsCharacter (codes "\\\\")
  Numbered : (high low : ℕ) → high < 16 → low < 16 → IsCharacter (numbered high low)

pub data AreCharacters : List ℕ → Type 0 where
  NoCharacter : AreCharacters []
  OneMore : {character after : List ℕ} → IsCharacter character → AreCharacters after → AreCharacters (character ++ after)

-- ---- values (3), members of an object (4), elements of an array (5)

pub data Part : Type 0 where
  AnyValue : Part
  InBraces : Part
  InBrackets : Part

pub data Is : Part → List ℕ → Type 0 where
  Null : Is AnyValue (codes "null")
  Flag : (flag : Bool) → Is AnyValue (flag_text flag)
  Number : (number : ℕ) → Is AnyValue (decimal number)
  String : {characters : List ℕ} → AreCharacters characters → Is AnyValue (quoted characters)
  Object : {members : List ℕ} → Is InBraces members → Is AnyValue (object_text members)
  Array : {elements : List ℕ} → Is InBrackets elements → Is AnyValue (array_text elements)
  NoMember : Is InBraces []
  Member : {before characters value : List ℕ} → Is InBraces before → AreCharacters characters → Is AnyValue value →
      Is InBraces (joined before (member_text (quoted characters) value))
  NoElement : Is InBrackets []
  Element : {before value : List ℕ} → Is InBrackets before → Is AnyValue value → Is InBrackets (joined before value)

-- an object in a line of its own
pub record IsLine (text : List ℕ) : Type 0 where
  pub object : List ℕ
  pub is_object : Is AnyValue object
  pub is : text ≡ object ++ codes "\n"
