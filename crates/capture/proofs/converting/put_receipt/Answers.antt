use Rattle.std.proofs.Common.{ℕ, List, [], ◌∷◌, ◌++◌, ap, ◌∙◌, arith}
use Rattle.capture.specs.Text.{hint_text}
use Rattle.capture.proofs.ConvertLaws.{cut_long, receipt_line, second_space}
use Rattle.capture.proofs.converting.put_receipt.Goals as goal

pub returns-in_default-cut_at : goal.returns-in_default-cut_at
returns-in_default-cut_at c =
    λ from fate bytes fits small is. absurd
    (second_space from c.args.hint fate bytes c.args.line.now c.in-Some.letter.now c.in-Some.rest.now c.in-Some.ensures c.in_default-cut_at.ensures
    fits small is)

pub put-requires : goal.put-requires
put-requires c =
    let whole = cut_long 32 c.args.line.now c.in-Some.letter.now c.in-Some.rest.now c.in-Some.ensures in
    omega (arith, c.requires.short, c.requires.room)

pub put-requires-2 : goal.put-requires-2
put-requires-2 c =
    let whole = cut_long 32 c.args.line.now c.in-Some.letter.now c.in-Some.rest.now c.in-Some.ensures in
    omega (arith, c.requires.short, c.requires.room, c.put.ensures.len)

pub put_hint-requires : goal.put_hint-requires
put_hint-requires c =
    let whole = cut_long 32 c.args.line.now c.in-Some.letter.now c.in-Some.rest.now c.in-Some.ensures in
    omega (arith, c.requires.short, c.requires.room, c.put.ensures.len, c.put-2.ensures.len)

pub put-requires-3 : goal.put-requires-3
put-requires-3 c =
    let whole = cut_long 32 c.args.line.now c.in-Some.letter.now c.in-Some.rest.now c.in-Some.ensures in
    omega (arith, c.requires.short, c.requires.room, c.put.ensures.len, c.put-2.ensures.len, c.put_hint.ensures.len)

pub put-requires-4 : goal.put-requires-4
put-requires-4 c =
    let whole = cut_long 32 c.args.line.now c.in-Some.letter.now c.in-Some.rest.now c.in-Some.ensures in
    let behind = cut_long 32 c.in-Some.rest.now c.in-Some-cut_at.field-0-0.now c.in-Some-cut_at.bytes.now c.in-Some-cut_at.ensures in
    omega (arith, c.requires.short, c.requires.room, c.put.ensures.len, c.put-2.ensures.len, c.put_hint.ensures.len, c.put-3.ensures.len)

pub put-requires-5 : goal.put-requires-5
put-requires-5 c =
    let whole = cut_long 32 c.args.line.now c.in-Some.letter.now c.in-Some.rest.now c.in-Some.ensures in
    let behind = cut_long 32 c.in-Some.rest.now c.in-Some-cut_at.field-0-0.now c.in-Some-cut_at.bytes.now c.in-Some-cut_at.ensures in
    omega (
      arith,
      c.requires.short,
      c.requires.room,
      c.put.ensures.len,
      c.put-2.ensures.len,
      c.put_hint.ensures.len,
      c.put-3.ensures.len,
      c.put-4.ensures.len,
    )

pub returns : goal.returns
returns c = λ from fate bytes fits small is.
    c.put-5.ensures.bytes
    ∙ ap (λ (x : List ℕ). x ++ 10 ∷ []) (c.put-4.ensures.bytes
    ∙ ap (λ (x : List ℕ). x ++ c.in-Some-cut_at.bytes.now) (c.put-3.ensures.bytes
    ∙ ap (λ (x : List ℕ). x ++ 32 ∷ []) (c.put_hint.ensures.bytes
    ∙ ap (λ (x : List ℕ). x ++ hint_text c.args.to c.args.hint) (c.put-2.ensures.bytes ∙ ap (λ (x : List ℕ). x ++ 32 ∷ []) c.put.ensures.bytes))))
    ∙ receipt_line c.args.to from c.args.hint fate bytes c.args.line.now c.in-Some.letter.now c.in-Some.rest.now c.in-Some-cut_at.field-0-0.now
    c.in-Some-cut_at.bytes.now c.args.page.now c.in-Some.ensures c.in-Some-cut_at.ensures fits small is
