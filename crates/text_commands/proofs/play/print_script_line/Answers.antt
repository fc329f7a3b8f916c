use Rattle.std.proofs.Common.{◌≡◌, ℕ, List, [], ◌∷◌, ◌++◌, ap, subst, ◌∙◌, append_assoc}
use Rattle.std.specs.Prelude.{codes}
use Rattle.std.specs.Fmt.{decimal}
use Rattle.printing.specs.Printed.{Writes, stream_of}
use Rattle.text_commands.proofs.play.print_script_line.Goals as goal

-- pieces that are put one behind another
put_behind : (a b c d e : List ℕ) → (((a ++ b) ++ c) ++ d) ++ e ≡ a ++ (b ++ (c ++ (d ++ e)))
put_behind a b c d e = append_assoc ((a ++ b) ++ c) d e ∙ append_assoc (a ++ b) c (d ++ e) ∙ append_assoc a b (c ++ (d ++ e))

pub returns : goal.returns
returns g c =
    let line : List ℕ = decimal c.args.line in
    let words : List ℕ = c.args.words.now in
    subst (λ (text : List ℕ). Writes (stream_of g.W.Write.contents c.args.err.now) (stream_of g.W.Write.contents c.print.new.stream) text 2
    c.print.result)
    (c.as_slice.ensures ∙ c.put-4.ensures.bytes ∙ ap (λ (text : List ℕ). text ++ 10 ∷ [])
    (c.put-3.ensures.bytes ∙ ap (λ (text : List ℕ). text ++ words)
    (c.put-2.ensures.bytes ∙ ap (λ (text : List ℕ). text ++ 58 ∷ 32 ∷ [])
    (c.put_number.ensures.bytes ∙ ap (λ (text : List ℕ). text ++ line)
    (c.put.ensures.bytes ∙ ap (λ (text : List ℕ). text ++ codes "script: line ") c.clear.ensures))))
    ∙ put_behind (codes "script: line ") line (58 ∷ 32 ∷ []) words (10 ∷ []))
    c.print.ensures
