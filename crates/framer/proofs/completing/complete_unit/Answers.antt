use Rattle.std.proofs.Common.{◌≡◌, ℕ, List, Some, length, get_or, sym, ap, subst, ◌∙◌, arith}
use Rattle.std.proofs.lemmas.List.{length-take}
use Rattle.framer.specs.declared.front.Front.TheVariants.{Whole}
use Rattle.framer.specs.Framing.{front, kind_of, unit_len}
use Rattle.framer.specs.inner.Held.{IsHeld}
use Rattle.framer.proofs.CutUnits.{begun_open, begun_starts, open_cut, open_whole}
use Rattle.framer.proofs.completing.complete_unit.Goals as goal

pub overflow_sub-missing : goal.overflow_sub-missing
overflow_sub-missing c =
    let start : kind_of (get_or c.args.room.now.held 0 0) ≡ Some c.in-Some.kind =
    ap (λ (b : List ℕ). kind_of (get_or b 0 0)) (sym c.held-held.ensures) ∙ sym c.of.ensures ∙ c.in-Some.is in
    let o = begun_open c.in-Some.kind c.args.room.now.held c.requires.begun c.requires.header start in
    let len = c.unit_len-len.ensures.value ∙ ap (unit_len c.in-Some.kind) c.held-held.ensures in
    let within = o.within in
    let same = ap length c.held-held.ensures in
    omega arith

pub returns-then-piece-missing-clause-whole : goal.returns-then-piece-missing-clause-whole
returns-then-piece-missing-clause-whole c =
    let start : kind_of (get_or c.args.room.now.held 0 0) ≡ Some c.in-Some.kind =
    ap (λ (b : List ℕ). kind_of (get_or b 0 0)) (sym c.held-held.ensures) ∙ sym c.of.ensures ∙ c.in-Some.is in
    let o = begun_open c.in-Some.kind c.args.room.now.held c.requires.begun c.requires.header start in
    let len = c.unit_len-len.ensures.value ∙ ap (unit_len c.in-Some.kind) c.held-held.ensures in
    let most = c.unit_len-len.ensures.most in
    let within = o.within in
    let same = ap length c.held-held.ensures in
    subst IsHeld (sym c.hold.ensures) (open_cut c.in-Some.kind c.args.room.now.held c.args.piece.now o (omega arith) (omega arith))

pub hold-requires-in-Some : goal.hold-requires-in-Some
hold-requires-in-Some c =
    let start : kind_of (get_or c.args.room.now.held 0 0) ≡ Some c.in-Some.kind =
    ap (λ (b : List ℕ). kind_of (get_or b 0 0)) (sym c.held-held.ensures) ∙ sym c.of.ensures ∙ c.in-Some.is in
    let o = begun_open c.in-Some.kind c.args.room.now.held c.requires.begun c.requires.header start in
    let len = c.unit_len-len.ensures.value ∙ ap (unit_len c.in-Some.kind) c.held-held.ensures in
    let most = c.unit_len-len.ensures.most in
    let within = o.within in
    let same = ap length c.held-held.ensures in
    omega (arith, length-take {A = ℕ})

pub unreachable-requires : goal.unreachable-requires
unreachable-requires c =
    begun_starts c.args.room.now.held c.requires.begun c.requires.header
    (ap (λ (b : List ℕ). kind_of (get_or b 0 0)) (sym c.held-held.ensures) ∙ sym c.of.ensures ∙ c.in-None.is)

pub returns-clause-whole : goal.returns-clause-whole
returns-clause-whole c =
    let start : kind_of (get_or c.args.room.now.held 0 0) ≡ Some c.in-Some.kind =
    ap (λ (b : List ℕ). kind_of (get_or b 0 0)) (sym c.held-held.ensures) ∙ sym c.of.ensures ∙ c.in-Some.is in
    let o = begun_open c.in-Some.kind c.args.room.now.held c.requires.begun c.requires.header start in
    let len = c.unit_len-len.ensures.value ∙ ap (unit_len c.in-Some.kind) c.held-held.ensures in
    let within = o.within in
    let same = ap length c.held-held.ensures in
    subst (λ (b : List ℕ). (front b ≡ Whole (length b)) × (kind_of (get_or b 0 0) ≡ Some c.in-Some.kind)) (sym c.hold-in-Some.ensures)
    (open_whole c.in-Some.kind c.args.room.now.held _ o (omega (arith, length-take {A = ℕ})))
