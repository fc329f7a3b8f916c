-- What is told of words that are no task.
use Rattle.std.specs.Prelude.{ℕ, Bool, List, Option, None, Some, find, true, false}
use Rattle.std.specs.Str.{bytes_eq}
use Rattle.command_words.specs.declared.advice.TheConstants.{TRY_HELP}
use Rattle.command_words.specs.declared.slip.Slip.{Slip}
use Rattle.command_words.specs.declared.slip.Slip.TheVariants as slip
use Rattle.command_words.specs.declared.word.Word.{Word}

abbrev pub line_of_found : Option Word → List ℕ
line_of_found None = TRY_HELP.now
line_of_found (Some word) = word.usage.now

-- after a word of the table how it is used, and else where to read of all words
abbrev pub advice_of : List Word → Option (List ℕ) → List ℕ
advice_of words None = TRY_HELP.now
advice_of words (Some name) = line_of_found (find (λ word. bytes_eq word.name.now name) words)

abbrev pub is_none_found : Option Word → Bool
is_none_found None = true
is_none_found (Some word) = false

-- whether nothing was given, or no word of the table
abbrev pub is_no_word : List Word → Option (List ℕ) → Bool
is_no_word words None = true
is_no_word words (Some name) = is_none_found (find (λ word. bytes_eq word.name.now name) words)

-- whether it is said that a word is missing, or that there is none such
abbrev pub is_of_word : Option Slip → Bool
is_of_word (Some slip.NoWord) = true
is_of_word (Some (slip.Unknown name)) = true
is_of_word other = false
