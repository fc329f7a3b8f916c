use Rattle.std.proofs.Common.{◌≡◌, ℕ, List, length, length-set, sym, ap, ◌∙◌, arith}
use Rattle.std.specs.Prelude.{slice_get, slice_set}
use Rattle.player_end.specs.inner.Owing.{duty_view}
use Rattle.player_end.proofs.Duties.{duty_first, no_duty, still_marked, unmarked_through}
use Rattle.player_end.proofs.link_ends.composing.first_duty.Goals as goal

pub returns-in_default-clause-duty : goal.returns-in_default-clause-duty
returns-in_default-clause-duty g c =
    let marks = c.loop-from.marks.marks.items in
    sym (no_duty c.args.links.now.items marks c.loop-from.invariant.0 (length marks) (omega (arith, c.loop-from.invariant.1))
    c.in_default.ensures.none)

pub returns-in-Some-duty_at-clause-duty : goal.returns-in-Some-duty_at-clause-duty
returns-in-Some-duty_at-clause-duty g c =
    sym (duty_first c.args.links.now.items c.loop-from.marks.marks.items c.loop-from.invariant.0 c.in-Some.number (duty_view c.in-Some-duty_at.duty)
    c.in-Some.ensures.first (sym c.in-Some-duty_at.ensures))

pub returns-in-Some-duty_at-clause-marked : goal.returns-in-Some-duty_at-clause-marked
returns-in-Some-duty_at-clause-marked g c = λ number link duty at is.
    ap (λ (ms : List ℕ). slice_get ms number) c.in-Some.ensures.same ∙ c.loop-from.invariant.0 number link duty at is

pub loop-from-preserved : goal.loop-from-preserved
loop-from-preserved g c =
    let marks = c.loop-from.marks.marks.items in
    let number = c.in-Some.number in
    let now : c.unmark.new.self.marks.items ≡ slice_set marks number 0 =
    c.unmark.ensures ∙ ap (λ (ms : List ℕ). slice_set ms number 0) c.in-Some.ensures.same in
    rw now (
      still_marked c.args.links.now.items marks c.loop-from.invariant.0 number (sym c.in_default-duty_at.ensures),
      length-set marks number 0 ∙ c.loop-from.invariant.1,
      unmarked_through marks number c.in-Some.ensures.first,
    )

pub returns-clause-duty : goal.returns-clause-duty
returns-clause-duty g c =
    sym (no_duty c.args.links.now.items c.loop-from.marks.marks.items c.loop-from.invariant.0 c.loop-from.from (omega arith) c.loop-from.invariant.2)
