use Rattle.std.proofs.Common.{◌≡◌, ℕ, ◌+◌, ◌*◌, ◌-◌, ◌/◌, List, length, length-drop, take, drop, get_or, add-zero, ap, sym, ◌∙◌, arith}
use Rattle.std.proofs.lemmas.List.{take_all, take_rest, get_or-drop}
use Rattle.wire_base.specs.BlockCheck.{after_byte, check_of}
use Rattle.wire_base.proofs.BlockCheck.{check_of_more}
use Rattle.wire_base.proofs.BlockCheckTests.{good_from_word, word_from_good}
use Rattle.wire_base.proofs.check.block_check.Goals as goal

pub loop-byte-init : goal.loop-byte-init
loop-byte-init c = c.check_of_eights-register.ensures ∙ ap (λ n. check_of (take n c.args.field.now))
    (sym (add-zero (length c.args.field.now / 8 * 8)))

byte_at : (field : List ℕ) (n i : ℕ) → get_or (take (length field - n) (drop n field)) i 0 ≡ get_or field (n + i) 0
byte_at field n i = ap (λ rest. get_or rest i 0) (take_rest field n) ∙ get_or-drop n field i 0

pub loop-byte-preserved : goal.loop-byte-preserved
loop-byte-preserved c =
    let field = c.args.field.now in
    let n = length field / 8 * 8 in
    let i = c.loop-byte.byte-index in
    let next : n + i + 1 ≡ n + (i + 1) = omega arith in
    let more = check_of_more field (n + i) (omega (arith, length-drop n field, take_rest field n)) in
    let byte = byte_at field n i in
    c.after_byte-register.ensures ∙ ap (λ b. after_byte c.loop-byte.register b) byte ∙ ap (λ z. after_byte z (get_or field (n + i) 0))
    c.loop-byte.invariant ∙ sym more
    ∙ ap (λ m. check_of (take m field)) next

pub returns-clause-value : goal.returns-clause-value
returns-clause-value c =
    let field = c.args.field.now in
    let n = length field / 8 * 8 in
    c.loop-byte.invariant ∙
    ap check_of (take_all (n + c.loop-byte.byte-index) field (omega (arith, length-drop n field, ap length (take_rest field n))))

pub returns-clause-good : goal.returns-clause-good
returns-clause-good c = good_from_word c.args.field.now c.loop-byte.register (λ i. omega (arith, c.type_inv.field i)) (returns-clause-value c)

pub returns-clause-alone : goal.returns-clause-alone
returns-clause-alone c =
    λ word small good. word_from_good c.args.field.now word (λ i. omega (arith, c.type_inv.field i)) small good ∙ sym (returns-clause-value c)
