use Rattle.std.proofs.Common.{◌≡◌, [], ◌∷◌, ◌++◌, sym, ap, ◌∙◌, subst}
use Rattle.wire_base.specs.declared.side.Side.{Side}
use Rattle.wire_base.specs.declared.side.Side.TheVariants.{A, B}
use Rattle.capture_record.specs.Entries.{record_with}
use Rattle.pair_judge.specs.Order.{MadeEntry, made_by}
use Rattle.coverage.specs.declared.half.Half.{Half}
use Rattle.coverage.specs.inner.Told.{Told}
use Rattle.coverage.proofs.Meets.{told_a, told_b}
use Rattle.coverage.proofs.cover.CoverObserver.made.Goals as goal

pub returns-in-A : goal.returns-in-A
returns-in-A c order told =
    let old = c.args.self.now in
    let r = record_with c.args.next.now.entry c.args.next.now.bytes in
    let its : c.args.next.now.side ≡ A = ap (λ (next : MadeEntry). next.side) (sym c.next.view_is) ∙ c.in-A.is in
    subst (λ (side : Side). Told (record { a = c.meet.new.self; b = old.b }) (order ++ made_by side r ∷ [])) (sym its)
    (subst (λ (half : Half). Told (record { a = half; b = old.b }) (order ++ made_by A r ∷ [])) (sym c.meet.ensures) (told_a old r order told))

pub returns-in-B : goal.returns-in-B
returns-in-B c order told =
    let old = c.args.self.now in
    let r = record_with c.args.next.now.entry c.args.next.now.bytes in
    let its : c.args.next.now.side ≡ B = ap (λ (next : MadeEntry). next.side) (sym c.next.view_is) ∙ c.in-B.is in
    subst (λ (side : Side). Told (record { a = old.a; b = c.meet-in-B.new.self }) (order ++ made_by side r ∷ [])) (sym its)
    (subst (λ (half : Half). Told (record { a = old.a; b = half }) (order ++ made_by B r ∷ [])) (sym c.meet-in-B.ensures) (told_b old r order told))
