use Rattle.std.proofs.Common.{◌≡◌, ◌+◌, ◌*◌, ◌/◌, ◌%◌, [], ◌∷◌, refl, ap, ap₂, ◌∙◌, arith}
use Rattle.wire_base.specs.BlockCheck.{row_of, check_of}
use Rattle.wire_base.proofs.BlockCheckTests.{good_from_check, check_from_good, AreBytes_pair}
use Rattle.wire_base.proofs.check_laws.good_with_its_check_alone.Goals as goal

pub returns : goal.returns
returns c =
    let low = c.args.low in
    let high = c.args.high in
    let check = check_of c.args.field.now in
    let whole : low + 256 * (high + 256 * 0) ≡ low + 256 * high = omega arith in (
      λ good.
          let e = check_from_good c.args.field.now (low ∷ high ∷ []) (λ i. omega (arith, c.type_inv.field i))
          (AreBytes_pair low high (omega arith) (omega arith)) refl good in
          let first : low ≡ check % 256 = omega arith in
          let second : high ≡ check / 256 = omega arith in
          ap₂ (λ x y. x ∷ y ∷ []) first second,
      λ same. good_from_check c.args.field.now (low ∷ high ∷ []) (λ i. omega (arith, c.type_inv.field i)) refl (ap row_of same ∙ omega arith),
    )
