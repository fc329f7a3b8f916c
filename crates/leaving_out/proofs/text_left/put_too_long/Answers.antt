use Rattle.std.proofs.Common.{ℕ, List, [], ◌∷◌, ◌++◌, replicate, append_assoc, ap, ◌∙◌}
use Rattle.leaving_out.specs.Texts.{too_long_line}
use Rattle.leaving_out.proofs.text_left.put_too_long.Goals as goal

pub returns : goal.returns
unfolding too_long_line
returns c =
    let text = c.args.text.now.items in
    c.in_ok-push.ensures.items ∙ ap (λ (x : List ℕ). x ++ 10 ∷ []) (c.in_ok-extend_from_slice.ensures.items
    ∙ ap (λ (x : List ℕ). text ++ x) (c.deref.ensures.value ∙ c.in_ok-long.ensures.items_if_clones_equal (λ y e. e)))
    ∙ append_assoc text (replicate 131082 63) (10 ∷ [])
