use Rattle.std.proofs.Common.{◌≡◌, ◌+◌, [], ◌∷◌, ◌++◌, length, ap, ap₂, ◌∙◌, arith, rules}
use Rattle.pair_judge.specs.inner.Runs.{tag_of, units_from}
use Rattle.pair_judge.specs.inner.Held.{held_value, sent_as}
use Rattle.pair_judge.proofs.Runs.{units_from-append, units_from-same}
use Rattle.pair_judge.proofs.line.Line.push.Goals as goal

pub returns-in_err-push-clause-err : goal.returns-in_err-push-clause-err
returns-in_err-push-clause-err c =
    let old = c.args.self.now in
    let tag = tag_of c.push.new.self in
    let same : units_from tag old.gone c.reserve.new.self.items ≡ units_from (tag_of old.tags) old.gone old.units.items =
    ap (units_from tag old.gone) c.reserve.ensures.items ∙ units_from-same tag (tag_of old.tags) old.gone old.units.items
    (λ k _ _. c.in_err-push.ensures.err k) in
    search rules

pub returns-clause-ok : goal.returns-clause-ok
returns-clause-ok c =
    let old = c.args.self.now in
    let tag = tag_of c.push.new.self in
    let items : c.push_back_reserved.new.self.items ≡ old.units.items ++ held_value c.args.bytes.now c.args.tag.now.link ∷ [] =
    c.push_back_reserved.ensures.items ∙ ap₂ (λ xs x. xs ++ x ∷ []) c.reserve.ensures.items
    (c.new.ensures ∙ ap (λ own. held_value own c.args.tag.now.link) c.in_ok-own.ensures) in
    let count : c.len.result ≡ length old.units.items = c.len.ensures ∙ c.reserve.ensures.len ∙ old.units.ok.0 in
    ap (units_from tag old.gone) items
    ∙ units_from-append tag old.gone old.units.items (held_value c.args.bytes.now c.args.tag.now.link)
    ∙ ap₂ (λ units t. units ++ sent_as (held_value c.args.bytes.now c.args.tag.now.link) t ∷ [])
    (units_from-same tag (tag_of old.tags) old.gone old.units.items (λ k _ below. c.in_ok-push.ensures.before k (omega (arith, count))))
    (c.in_ok-push.ensures.ok (old.gone + length old.units.items) (omega (arith, count)))
