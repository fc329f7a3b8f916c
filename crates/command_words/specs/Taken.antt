-- What the parser takes, by the rows of a table.
use Rattle.std.specs.Prelude.{ℕ, List, Some, true, map, length, ◌==◌}
use Rattle.clap.specs.Walk.{Rule}
use Rattle.clap.specs.Lexer.{usize_max}
use Rattle.clap.specs.Simple.{App, Shape, new_rule, new_shape}
use Rattle.clap.specs.declared.builder.action.ArgAction.TheVariants.{SetTrue}
use Rattle.command_words.specs.declared.part.Part.{Part}
use Rattle.command_words.specs.declared.part.Part.TheVariants as part
use Rattle.command_words.specs.declared.word.Word.{Word}

-- what is read of a part: whether it has to be there, how it is spelled, how many values it takes
abbrev pub rule_of_part : Part → Rule
rule_of_part (part.Needed name) = record (new_rule name.now) { required = true }
rule_of_part (part.Optional name) = new_rule name.now
rule_of_part (part.Several name) = record (new_rule name.now) { range = Some (record { start_inclusive = 1; end_inclusive = usize_max }) }
rule_of_part (part.Flag name) = record (new_rule name.now) { long = Some name.now; action = Some SetTrue }
rule_of_part (part.Valued name) = record (new_rule name.now) { long = Some name.now }

-- a word with all its parts, in their order, and no more
abbrev pub shape_of_parts : List ℕ → List Part → Shape
shape_of_parts name parts = record (new_shape name) { rules = map rule_of_part parts }

abbrev pub shape_of_word : Word → Shape
shape_of_word word = shape_of_parts word.name.now word.parts.now

-- a program with all words of a table, one of which has to be given
abbrev pub app_of_words : List ℕ → List Word → App
app_of_words program words = record {
  top = record (new_shape program) {
    is_leaf = length words == 0;
    disable_help_subcommand = true;
    subcommand_required = true;
  };
  subs = map shape_of_word words;
}
