use Rattle.std.proofs.Common.{ℕ, List, [], ◌∷◌, ◌++◌, length-append, subst, arith}
use Rattle.capture_record.specs.Entries.{record_with}
use Rattle.assuming.specs.inner.Spots.{AreOf}
use Rattle.assuming.proofs.loading.load.Goals as goal

pub returns-in-Ok-None : goal.returns-in-Ok-None
returns-in-Ok-None g c =
    let h = c.loop-number.invariant in
    let gives = rw c.in-Ok-None.field-0-is at c.in-Ok-None.ensures.gives h.0 in
    let reader = c.loop-number.reader in
    let whole = c.text_read_on.ensures.ended _ _ _ _ _ _ h.4.3 gives.0 in
    (h.4.0, record { form = reader.form; own = reader.own; peer = reader.peer; whole = whole }, h.4.2)

pub loop-number-preserved : goal.loop-number-preserved
loop-number-preserved g c =
    let h = c.loop-number.invariant in
    let gives = rw c.in-Ok-Some.field-0-is at c.in-Ok-Some.ensures.gives h.0 in
    let few = c.in-Ok-pass.ensures.few in
    let rs = h.4.0 in
    let entry = c.in-Ok-Some.entry in
    let r = record_with entry c.advance.new.self.bytes in
    let on = c.text_read_on.ensures.one_more _ _ _ _ _ _ _ _ h.4.3 (omega (arith, h.4.1, h.1, gives.1)) gives.0 gives.4 gives.6 in (
      gives.3,
      omega (arith, h.1, gives.2),
      omega (arith, h.2, few.0),
      omega (arith, h.3, few.1),
      (
        rs ++ r ∷ [],
        omega (arith, h.4.1, length-append rs (r ∷ [])),
        subst (λ (bytes : List ℕ). AreOf (rs ++ record_with entry bytes ∷ []) c.pass.new.self) c.bytes.ensures (c.in-Ok-pass.ensures.of rs h.4.2),
        rw (gives.5, c.in-Ok-Some.ensures.head.0, c.in-Ok-Some.ensures.head.1) on,
      ),
    )
