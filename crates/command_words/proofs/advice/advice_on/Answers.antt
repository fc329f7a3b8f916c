use Rattle.std.proofs.Common.{rules, ◌≡◌, ◌∙◌, ap, refl, sym, Some, List, ℕ, Option, option_map, slice_get}
use Rattle.std.specs.Prelude.{find}
use Rattle.std.proofs.lemmas.Option.{slice_get_read}
use Rattle.std.specs.Str.{bytes_eq}
use Rattle.command_words.specs.declared.word.Word.{Word}
use Rattle.command_words.specs.Advised as spec
use Rattle.command_words.proofs.advice.advice_on.Goals as goal

pub returns : goal.returns
returns c =
    let given : slice_get c.args.given.now 1 ≡ Some c.in-Some.name.now
    = slice_get_read c.args.given.now _ 1 c.in-Some.name.now refl (search rules) (search rules) in
    let found : find (λ word. bytes_eq word.name.now c.in-Some.name.now.bytes.items) c.args.words.now ≡ Some c.in-Some-word_named.word.now
    = ap (λ (name : List ℕ). find (λ word. bytes_eq word.name.now name) c.args.words.now) (sym c.as_str.ensures.value)
    ∙ sym c.in-Some-word_named.ensures in
    sym (ap (λ name. spec.advice_of c.args.words.now (option_map (λ text. text.bytes.items) name)) given
    ∙ ap (λ (word : Option Word). spec.line_of_found word) found)
