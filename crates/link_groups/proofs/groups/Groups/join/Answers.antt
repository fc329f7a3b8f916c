use Rattle.std.proofs.Common.{◌≡◌, ℕ, List, length, sym, ap, ◌∙◌, subst, length-set, arith}
use Rattle.std.specs.List.{slice_index}
use Rattle.std.proofs.lemmas.Grind.{get_or_default_zero}
use Rattle.link_groups.specs.inner.Labels.{AreRelabelled}
use Rattle.link_groups.proofs.Rings.{AreExchanged, rings_joined}
use Rattle.link_groups.proofs.groups.Groups.join.Goals as goal

pub invariant_of-self : goal.invariant_of-self
invariant_of-self c =
    let labels = c.self.inside.labels.items in
    let next = c.self.inside.next.items in
    let after = c.swap.new.self.items in
    let kept = c.args.kept in
    let gone = c.args.gone in
    let of_kept : c.index-of_kept.result.now ≡ slice_index labels kept =
    c.index-of_kept.ensures ∙ get_or_default_zero labels kept _ (omega (arith, c.self.invariant.0.labelled, c.requires.kept_in)) in
    let exchanged : AreExchanged next after kept gone = record {
      at_a = c.swap.ensures.by_index.0 0;
      at_b = c.swap.ensures.by_index.1 0;
      others = λ p x y. c.swap.ensures.by_index.2 p 0 x y;
    } in (
      rings_joined labels c.relabel.new.labels.items next after kept gone c.self.invariant.0 exchanged c.requires.kept_in c.requires.gone_in
          (subst (λ (ls : List ℕ). slice_index ls kept ≡ slice_index ls gone → ⊥) (sym c.self.view_is) c.requires.apart)
          (subst (λ (n : ℕ). AreRelabelled (slice_index labels gone) n labels c.relabel.new.labels.items) of_kept c.relabel.ensures)
          (ap length (c.swap.ensures.by_index.3 0) ∙ length-set _ _ _ ∙ length-set _ _ _),
      length-set c.self.inside.sizes.items _ _ ∙ c.self.invariant.1,
    )
