use Rattle.std.proofs.Common.{ℕ, ◌⊎◌, eqb, false, get_or, ◌≡◌, ◌<◌, length, take, inl, inr, sym, arith}
use Rattle.std.proofs.lemmas.Bool.{eqb-false}
use Rattle.std.proofs.lemmas.List.{take_all}
use Rattle.capture.proofs.NumberLaws.{number_none, number_some, number_above, bad_digit, read_more, read_fits, number_read}
use Rattle.capture.proofs.number.number_of.Goals as goal

nonempty : (n : ℕ) → false ≡ eqb n 0 → 0 < n
nonempty n h = let differs = eqb-false n 0 (sym h) in omega arith

pub returns-then-is_empty-clause-value : goal.returns-then-is_empty-clause-value
returns-then-is_empty-clause-value c =
    number_none c.args.most c.args.text.now
    (λ h. let some = h.some in let short = h.short in elim c.then-is_empty.either [ inl none ↦ grind arith | inr long ↦ absurd (omega arith) ])

pub returns-then-text-ne1-clause-value : goal.returns-then-text-ne1-clause-value
returns-then-text-ne1-clause-value c = number_none c.args.most c.args.text.now (λ h. c.if-text-ne1.true (h.lead c.if-text-eq48.true))

pub returns-then-not-is_ascii_digit-clause-value : goal.returns-then-not-is_ascii_digit-clause-value
returns-then-not-is_ascii_digit-clause-value c =
    number_none c.args.most c.args.text.now
    (λ h. bad_digit c.args.text.now c.loop-digit.digit-index c.loop-digit-test.true (sym c.if-not-is_ascii_digit.ensures.value) h)

pub overflow_mul-value : goal.overflow_mul-value
overflow_mul-value c =
    let below = read_fits c.loop-digit.value c.loop-digit.digit-index c.args.text.now c.loop-digit.invariant c.loop-digit-test.true
    c.if-text-gt19.false in
    omega arith

pub overflow_add-value : goal.overflow_add-value
overflow_add-value c =
    let below = read_fits c.loop-digit.value c.loop-digit.digit-index c.args.text.now c.loop-digit.invariant c.loop-digit-test.true
    c.if-text-gt19.false in
    let byte = c.type_inv.text c.loop-digit.digit-index in
    let value = c.from.ensures in
    omega arith

pub loop-digit-preserved : goal.loop-digit-preserved
loop-digit-preserved c =
    rw c.from.ensures (read_more c.loop-digit.value c.loop-digit.digit-index c.args.text.now c.loop-digit.invariant c.loop-digit-test.true
    (sym c.if-not-is_ascii_digit.ensures.value))

lead_from : (first long : ℕ) → ((first ≡ 48) × (long ≡ 1)) ⊎ (first ≡ 48 → ⊥) → first ≡ 48 → long ≡ 1
lead_from first long (inl both) e = both.1
lead_from first long (inr other) e = absurd (other e)

pub returns-then-value-most-clause-value : goal.returns-then-value-most-clause-value
returns-then-value-most-clause-value c =
    let e : take c.loop-digit.digit-index c.args.text.now ≡ c.args.text.now = take_all _ _ (omega arith) in
    let read = rw e at c.loop-digit.invariant in
    let some : 0 < length c.args.text.now = nonempty (length c.args.text.now) (c.if-is_empty.ensures) in
    number_above c.args.most c.loop-digit.value c.args.text.now
    (number_read c.loop-digit.value c.args.text.now read some c.if-text-gt19.false
    (lead_from (get_or c.args.text.now 0 0) (length c.args.text.now) c.else-text-eq48.either)) read.worth (omega arith)

pub returns-clause-value : goal.returns-clause-value
returns-clause-value c =
    let e : take c.loop-digit.digit-index c.args.text.now ≡ c.args.text.now = take_all _ _ (omega arith) in
    let read = rw e at c.loop-digit.invariant in
    let some : 0 < length c.args.text.now = nonempty (length c.args.text.now) (c.if-is_empty.ensures) in
    number_some c.args.most c.loop-digit.value c.args.text.now
    (number_read c.loop-digit.value c.args.text.now read some c.if-text-gt19.false
    (lead_from (get_or c.args.text.now 0 0) (length c.args.text.now) c.else-text-eq48.either)) read.worth (omega arith)
