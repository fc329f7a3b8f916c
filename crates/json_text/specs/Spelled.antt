-- How the parts of a JSON text are spelled: with a space after each colon and each comma.
use Rattle.std.specs.Prelude.{ℕ, ◌/◌, ◌%◌, Bool, true, false, ◌||◌, ◌==◌, nat_lt, List, [], ◌∷◌, ◌++◌, codes, if◌then◌else◌}
use Rattle.std.specs.List.{flat_map}
use Rattle.std.specs.Fmt.{digit_glyph}

-- `\u00` and two digits
abbrev pub numbered : (high low : ℕ) → List ℕ
numbered high low = codes "\\u00" ++ digit_glyph false high ∷ digit_glyph false low ∷ []

-- a quote and a backslash have a backslash before them, and a control character is told by its number
abbrev pub escaped : ℕ → List ℕ
escaped byte =
    if byte == 34 then codes "\\\"" else (if byte == 92 then codes "\\\\" else (if nat_lt byte 32 || byte == 127 then
    numbered (byte / 16) (byte % 16) else byte ∷ []))

abbrev pub quoted : (characters : List ℕ) → List ℕ
quoted characters = codes "\"" ++ (characters ++ codes "\"")

-- the bytes of a text as a string
abbrev pub string_text : List ℕ → List ℕ
string_text text = quoted (flat_map escaped text)

abbrev pub flag_text : Bool → List ℕ
flag_text true = codes "true"
flag_text false = codes "false"

-- a name, which is spelled as a string is, and its value
abbrev pub member_text : (name value : List ℕ) → List ℕ
member_text name value = name ++ (codes ": " ++ value)

-- a comma after what there is already
abbrev pub comma : (before : List ℕ) → List ℕ
comma [] = []
comma (byte ∷ before) = codes ", "

-- what there is already, and a piece after it
abbrev pub joined : (before piece : List ℕ) → List ℕ
joined before piece = before ++ (comma before ++ piece)

abbrev pub object_text : (members : List ℕ) → List ℕ
object_text members = codes "{" ++ (members ++ codes "}")

abbrev pub array_text : (elements : List ℕ) → List ℕ
array_text elements = codes "[" ++ (elements ++ codes "]")

abbrev pub line_text : (members : List ℕ) → List ℕ
line_text members = object_text members ++ codes "\n"
