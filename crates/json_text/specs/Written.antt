-- What is written so far: `None` where memory for it was refused.
use Rattle.std.specs.Prelude.{◌≡◌, ℕ, List, Option, Some, None, IfSome}
use Rattle.json_text.specs.Json.{Is, Part}
use Rattle.json_text.specs.Spelled.{joined, member_text, string_text}

-- where memory was not refused, it is what was meant
abbrev pub Says : (written meant : Option (List ℕ)) → Type 0
Says written meant = IfSome written (λ text. meant ≡ Some text)

-- one member more, with this key
abbrev pub with_member : (key : List ℕ) → (value before : Option (List ℕ)) → Option (List ℕ)
with_member key None before = None
with_member key (Some value) None = None
with_member key (Some value) (Some before) = Some (joined before (member_text (string_text key) value))

-- one element more
abbrev pub with_element : (value before : Option (List ℕ)) → Option (List ℕ)
with_element None before = None
with_element (Some value) None = None
with_element (Some value) (Some before) = Some (joined before value)

-- what is written is a part of that kind
abbrev pub IsWhole : Part → Option (List ℕ) → Type 0
IsWhole part written = IfSome written (Is part)
