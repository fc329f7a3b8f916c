-- What a text that is being written holds, and how a value is spelled.
use Rattle.std.specs.Prelude.{ℕ, List, ◌++◌, codes, Option, Some, None, if◌then◌else◌}
use Rattle.std.specs.Option.{option_map}
use Rattle.std.specs.Fmt.{decimal}
use Rattle.json_text.specs.declared.text.Text.{Text}
use Rattle.json_text.specs.declared.value.Value.{Value}
use Rattle.json_text.specs.declared.value.Value.TheVariants as value
use Rattle.json_text.specs.Spelled.{array_text, flag_text, object_text, string_text}

abbrev pub written : Text → Option (List ℕ)
written text = if text.is_short then None else Some text.bytes.items

-- `None` where memory was refused for what it holds
abbrev pub value_text : Value → Option (List ℕ)
value_text value.Null = Some (codes "null")
value_text (value.Flag flag) = Some (flag_text flag)
value_text (value.Number number) = Some (decimal number)
value_text (value.String words) = Some (string_text words.now)
value_text (value.Object members) = option_map object_text (written members.now)
value_text (value.Array elements) = option_map array_text (written elements.now)

abbrev pub with_value : (value : Option (List ℕ)) → (before : List ℕ) → Option (List ℕ)
with_value None before = None
with_value (Some value) before = Some (before ++ value)
