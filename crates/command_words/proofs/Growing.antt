-- A table that is read one row further.
use Rattle.std.proofs.Common.{◌≡◌, ◌∙◌, ◌<◌, ◌+◌, ◌++◌, ◌∷◌, ◌&&◌, ◌==◌, not, ap, ap₂}
use Rattle.std.proofs.Common.{sym, refl, arith, ℕ, Bool, true, false, List, [], length, take, get_or}
use Rattle.std.proofs.lemmas.Bool.{ne_eqb}
use Rattle.std.proofs.lemmas.List.{length-append, map_more, take_more}
use Rattle.clap.specs.Words.{App, Rule, with_rule, with_subcommand}
use Rattle.clap.specs.Simple.{Shape, new_shape}
use Rattle.command_words.specs.declared.part.Part.{Part}
use Rattle.command_words.specs.declared.word.Word.{Word}
use Rattle.command_words.specs.Taken.{app_of_words, rule_of_part, shape_of_parts, shape_of_word}

with_rules : List ℕ → List Rule → App
with_rules name rules = record { top = record (new_shape name) { rules = rules }; subs = [] }

pub with_part : (name : List ℕ) (parts : List Part) (i : ℕ) (d : Part) (old new : App) (rule : Rule) → i < length parts
    → old ≡ record { top = shape_of_parts name (take i parts); subs = [] }
    → rule ≡ rule_of_part (get_or parts i d)
    → new ≡ with_rule old rule
    → new ≡ record { top = shape_of_parts name (take (i + 1) parts); subs = [] }
unfolding with_rules
with_part name parts i d old new rule below old_is rule_is new_is =
    new_is ∙ (ap₂ with_rule old_is rule_is ∙ ap (with_rules name) (sym (map_more rule_of_part parts i d below)))

not_empty : (words : List Word) (last : Word) → (length (words ++ last ∷ []) == 0) ≡ false
not_empty words last = ne_eqb (length (words ++ last ∷ [])) 0 (λ same. absurd (omega (arith, length-append words (last ∷ []), same)))

with_shapes : List ℕ → Bool → List Shape → App
with_shapes program leaf shapes = record {
  top = record (new_shape program) { is_leaf = leaf; disable_help_subcommand = true; subcommand_required = true };
  subs = shapes;
}

pub with_word : (program : List ℕ) (words : List Word) (i : ℕ) (d : Word) (old sub new : App) → i < length words
    → old ≡ app_of_words program (take i words)
    → sub ≡ record { top = shape_of_word (get_or words i d); subs = [] }
    → new ≡ with_subcommand old sub.top
    → new ≡ app_of_words program (take (i + 1) words)
unfolding with_shapes
with_word program words i d old sub new below old_is sub_is new_is =
    new_is ∙ (ap₂ (λ (app other : App). with_subcommand app other.top) old_is sub_is
    ∙ (ap₂ (with_shapes program) (sym (ap (λ (xs : List Word). length xs == 0) (take_more words i d below)
    ∙ not_empty (take i words) (get_or words i d)))
    (sym (map_more shape_of_word words i d below))))

-- of what is asked of a plain command, one thing
pub third_of : (a b c rest : Bool) → (a && (not b && (not c && rest))) ≡ true → c ≡ false
third_of true false false rest holds = refl
third_of true false true rest holds = absurd cc
third_of true true c rest holds = absurd cc
third_of false b c rest holds = absurd cc
