use Rattle.std.proofs.Common.{◌≡◌, length, refl, ℕ, true, subst, ap, ◌∙◌, arith}
use Rattle.dna_links.specs.declared.port.Port.{Port}
use Rattle.player_end.specs.inner.Addresses.{has}
use Rattle.player_end.proofs.Indexed.{begun_indexed, more_indexed}
use Rattle.player_end.proofs.link_ends.LinkEnds.begin.Goals as goal

pub invariant_of-self-in_err-know : goal.invariant_of-self-in_err-know
invariant_of-self-in_err-know g c = more_indexed refl c.reserve.ensures.same c.know.ensures.owns c.know.ensures.fars c.self.invariant

pub invariant_of-self-in_default : goal.invariant_of-self-in_default
invariant_of-self-in_default g c =
    more_indexed c.in_default.ensures.items c.reserve.ensures.same c.know.ensures.owns c.know.ensures.fars c.self.invariant

pub invariant_of-self-2 : goal.invariant_of-self-2
invariant_of-self-2 g c =
    let l = c.self.inside in
    let number : c.len-number.result ≡ length l.links.items = let ok = l.links.ok in omega (arith, c.len-number.ensures, ok) in
    let before = more_indexed refl c.reserve.ensures.same (λ q k e. e) (λ q k e. e) c.self.invariant in
    more_indexed c.in-Ok.ensures.items c.begin.ensures (λ q k e. e) (λ q k e. e)
    (begun_indexed l.links.items (has l.owns.pairs) (has l.fars.pairs) c.reserve.new.self.marks.items before c.args.link
    (has c.know.new.owns.pairs) (has c.know.new.fars.pairs) c.requires
    (λ q is. subst (λ (n : ℕ). has c.know.new.owns.pairs q n ≡ true) number
    (c.in_ok-know.ensures.own q (ap (λ (p : Port). p.own) c.port.ensures ∙ is)))
    (λ q is. subst (λ (n : ℕ). has c.know.new.fars.pairs q n ≡ true) number
    (c.in_ok-know.ensures.far q (ap (λ (p : Port). p.far) c.port.ensures ∙ is)))
    c.know.ensures.owns c.know.ensures.fars)
