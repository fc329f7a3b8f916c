use Rattle.std.proofs.Common.{◌≡◌, ℕ, ◌<◌, List, length, get_or, set, sym, ◌∙◌, subst, arith}
use Rattle.std.proofs.lemmas.Grind.{get_or_default_zero}
use Rattle.link_groups.proofs.Walking.{IsOnTheWay, way_begins, way_goes_on, fewer_left, way_ends}
use Rattle.link_groups.proofs.groups.relabel.Goals as goal

-- what an index reads
read : (xs : List ℕ) (place value : ℕ) → place < length xs → value ≡ get_or xs place value → get_or xs place 0 ≡ value
read xs place value low is = sym (is ∙ get_or_default_zero xs place value low)

pub loop-labels-init : goal.loop-labels-init
loop-labels-init c = way_begins c.args.labels.now.items c.args.next.now.items c.args.start c.args.kept c.requires.within c.requires.other

pub loop-labels-preserved : goal.loop-labels-preserved
loop-labels-preserved c =
    let old = c.args.labels.now.items in
    let next = c.args.next.now.items in
    let now = c.loop-labels.labels.items in
    let place = c.loop-labels.place in
    let way = c.loop-labels.invariant in
    subst (λ (n : ℕ). IsOnTheWay old (set now place c.args.kept) next c.args.start n c.args.kept)
    (read next place _ (omega (arith, c.requires.rings.linked, way.at)) c.index-in-loop-labels.ensures)
    (way_goes_on old now next c.args.start place c.args.kept c.requires.rings way)

pub loop-labels-smaller : goal.loop-labels-smaller
loop-labels-smaller c =
    let old = c.args.labels.now.items in
    let next = c.args.next.now.items in
    let now = c.loop-labels.labels.items in
    let place = c.loop-labels.place in
    let way = c.loop-labels.invariant in
    fewer_left old now next c.args.start place c.args.kept c.requires.rings way
    (λ e. c.loop-labels-test.true (sym (read now place _ (omega (arith, c.requires.rings.labelled, way.count, way.at)) c.index.ensures) ∙ e))

pub returns : goal.returns
returns c =
    let old = c.args.labels.now.items in
    let next = c.args.next.now.items in
    let now = c.loop-labels.labels.items in
    let place = c.loop-labels.place in
    let way = c.loop-labels.invariant in
    way_ends old now next c.args.start place c.args.kept c.requires.rings c.requires.within way
    (read now place _ (omega (arith, c.requires.rings.labelled, way.count, way.at)) c.index.ensures ∙ c.loop-labels-test.false)
