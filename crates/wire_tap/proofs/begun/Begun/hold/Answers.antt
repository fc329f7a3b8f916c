use Rattle.std.proofs.Common.{◌≡◌, ◌⊎◌, inl, inr, ℕ, ◌+◌, ◌-◌, ◌<◌, ◌≤◌, ◌^◌, slice_index_or, slice_set, ap, ◌∙◌, arith, subst}
use Rattle.std.proofs.lemmas.Bool.{cases_lt}
use Rattle.std.proofs.lemmas.List.{get_or-set_same, get_or-set_other, length-set}
use Rattle.wire_tap.specs.inner.Accused.{IsOnLine, KeepsLines}
use Rattle.wire_tap.proofs.begun.Begun.hold.Goals as goal

pub loop-place-preserved : goal.loop-place-preserved
loop-place-preserved c = record {
  eight = length-set c.loop-place.self.lines c.loop-place.place c.line_at.result ∙ c.loop-place.invariant.eight;
  kept = kept;
}
  where
    kept : (lines : ℕ → ℕ) (at : ℕ) → KeepsLines lines at c.args.held c.args.self.now → IsOnLine lines at c.args.held c.args.piece c.args.line →
        c.args.held + c.args.piece < 2 ^ 64 → c.args.now ≤ c.args.held + c.args.piece → (c.args.held < 8) ⊎
        (c.args.now ≡ c.args.held + c.args.piece) →
        (i : ℕ) → i < c.loop-place.place + 1 → i < c.args.now →
        slice_index_or (slice_set c.loop-place.self.lines c.loop-place.place c.line_at.result) i 0
        ≡ lines (at + (c.args.held + c.args.piece - c.args.now) + i)
    kept lines at keeps on few fits all i less near = by_place (cases_lt i c.loop-place.place)
      where
        known : i ≡ c.loop-place.place → (c.args.held < 8) ⊎ (c.args.now ≡ c.args.held + c.args.piece) →
            (c.saturating_add-in-loop-place.result < 8) ⊎ (c.args.held ≤ c.saturating_add-in-loop-place.result)
        known same (inl short) = near_or_far (cases_lt c.saturating_add-in-loop-place.result 8)
          where
            near_or_far : (c.saturating_add-in-loop-place.result < 8) ⊎ (8 ≤ c.saturating_add-in-loop-place.result) →
                (c.saturating_add-in-loop-place.result < 8) ⊎ (c.args.held ≤ c.saturating_add-in-loop-place.result)
            near_or_far (inl one) = inl one
            near_or_far (inr one) = inr (omega arith)
        known same (inr whole) =
            let sum = c.saturating_add.ensures in
            let dropped = c.saturating_sub-dropped.ensures in
            let next = c.saturating_add-in-loop-place.ensures in
            let place = c.loop-place-test.true in
            inl (omega arith)

        place_is : i ≡ c.loop-place.place → c.saturating_add-in-loop-place.result ≡ c.args.held + c.args.piece - c.args.now + i
        place_is same =
            let sum = c.saturating_add.ensures in
            let dropped = c.saturating_sub-dropped.ensures in
            let next = c.saturating_add-in-loop-place.ensures in
            omega arith

        there : (n m : ℕ) → n ≡ m + i → at + n ≡ at + m + i
        there n m e = omega arith

        this : i ≡ c.loop-place.place → c.line_at.result ≡ lines (at + (c.args.held + c.args.piece - c.args.now) + i)
        this same =
            let is = place_is same in
            c.line_at.ensures lines at c.args.piece keeps on (omega arith) (known same all)
            ∙ ap lines (there c.saturating_add-in-loop-place.result (c.args.held + c.args.piece - c.args.now) is)

        by_place : (i < c.loop-place.place) ⊎ (c.loop-place.place ≤ i) →
            slice_index_or (slice_set c.loop-place.self.lines c.loop-place.place c.line_at.result) i 0
            ≡ lines (at + (c.args.held + c.args.piece - c.args.now) + i)
        by_place (inl older) =
            get_or-set_other c.loop-place.self.lines c.loop-place.place i c.line_at.result 0 (omega arith)
            ∙ c.loop-place.invariant.kept lines at keeps on few fits all i older near
        by_place (inr newer) =
            let same : i ≡ c.loop-place.place = omega arith in
            let eight = c.loop-place.invariant.eight in
            let place = c.loop-place-test.true in
            subst (λ (k : ℕ). slice_index_or (slice_set c.loop-place.self.lines k c.line_at.result) i 0
            ≡ lines (at + (c.args.held + c.args.piece - c.args.now) + i)) same
            (get_or-set_same c.loop-place.self.lines i c.line_at.result 0 (omega arith) ∙ this same)

pub returns : goal.returns
returns c lines at keeps on few fits all i near eight =
    c.loop-place.invariant.kept lines at keeps on few fits all i (let end = c.loop-place-test.false in omega arith) near
