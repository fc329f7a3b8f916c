use Rattle.std.proofs.Common.{◌≡◌, [], ◌∷◌, ◌++◌, List, ℕ, refl, sym, ap, subst, ◌∙◌, append-nil, inl, inr}
use Rattle.link_groups.specs.Groups.{AreGroupsOf, Binding}
use Rattle.capture_record.specs.declared.record.Record.{Record}
use Rattle.capture_record.specs.Entries.{record_with}
use Rattle.capture.specs.SoFar.{TheEnd, so_far}
use Rattle.leaving_out.specs.About.{binding_of, bindings_of}
use Rattle.leaving_out.proofs.Made.{none_bound, one_bound}
use Rattle.leaving_out.proofs.Walk.{at_end, at_next, at_start}
use Rattle.leaving_out.proofs.binding.bind_all.Goals.{in-Some, in_default}
use Rattle.leaving_out.proofs.binding.bind_all.Goals as goal

pub loop-init : goal.loop-init
loop-init g c = (
  [],
  at_start _ _ c.in-Ok.capture c.in-Ok.ensures.opens,
  λ before are. subst (λ (x : List Binding). AreGroupsOf x c.args.groups.now) (sym (append-nil before)) are,
  c.in-Ok.ensures.reads,
)

pub returns-in-Ok-None-clause-bindings : goal.returns-in-Ok-None-clause-bindings
returns-in-Ok-None-clause-bindings g c = λ before are.
    let rs = c.loop.invariant.0 in
    let h = c.loop.invariant.1 in
    let gives = rw c.in-Ok-None.field-0-is at c.in-Ok-None.ensures.gives h.reading in (
      bindings_of c.args.side c.args.alone rs,
      inl (
        so_far c.loop.capture.form c.loop.capture.own c.loop.capture.peer rs TheEnd,
        at_end _ _ _ _ rs h gives.0,
        inl refl,
        refl,
      ),
      c.loop.invariant.2 before are,
    )

pub returns-in-Err-Departs-clause-bindings : goal.returns-in-Err-Departs-clause-bindings
returns-in-Err-Departs-clause-bindings g c = λ before are.
    let shows = rw c.in-Err-Departs.field-0-is at c.in-Err-Departs.ensures.opens in (
      [],
      inr (c.in-Err-Departs.field-0-0, record { departs = shows.1; line_is = refl }, refl),
      subst (λ (x : List Binding). AreGroupsOf x c.args.groups.now) (sym (append-nil before)) are,
    )

pub loop-preserved : goal.loop-preserved
loop-preserved g c =
    let rs = c.loop.invariant.0 in
    let h = c.loop.invariant.1 in
    let gives = rw c.in-Ok-Some.field-0-is at c.in-Ok-Some.ensures.gives h.reading in
    let r : Record = record_with c.in-Ok-Some.entry c.advance.new.self.bytes in
    let side = c.args.side in
    let alone = c.args.alone in
    let is : c.binding_of.result ≡ binding_of side alone r =
    c.binding_of.ensures ∙ ap (λ (b : List ℕ). binding_of side alone (record_with c.in-Ok-Some.entry b)) c.bytes.ensures in
    let more : (before : List Binding) → AreGroupsOf before c.args.groups.now →
    AreGroupsOf (before ++ bindings_of side alone (rs ++ r ∷ [])) c.match-binding_of.groups = λ before are.
    elim c.match-binding_of.branch [
      | in-Some w ↦ rw w.groups-is (one_bound side alone before c.loop.groups w.bind.new.self rs r (w.in-Some.one, w.in-Some.other)
          (c.loop.invariant.2 before are) (w.bind.ensures (before ++ bindings_of side alone rs)) (sym w.in-Some.is ∙ is))
      | in_default w ↦ rw w.groups-is (none_bound side alone before c.loop.groups rs r (c.loop.invariant.2 before are) (sym w.in_default.is ∙ is))
    ] in (
      rs ++ r ∷ [],
      at_next _ _ _ _ rs h c.advance.new.self _ r c.advance.ensures.head.0 c.advance.ensures.head.1 gives,
      more,
      c.in-Ok-Some.ensures.reads ∙ c.loop.invariant.3,
    )
