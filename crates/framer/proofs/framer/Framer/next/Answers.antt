use Rattle.std.proofs.Common.{◌≡◌, ℕ, List, [], ◌++◌, length, take, drop, sym, ap, subst, ◌∙◌, arith}
use Rattle.std.proofs.lemmas.List.{length-drop, take_rest, drop_all, nil_from_length}
use Rattle.framer.specs.Given.{FramerState, Passes}
use Rattle.framer.specs.inner.Held.{IsHeld}
use Rattle.framer.proofs.CutUnits.{held_none, begun_short, used_up}
use Rattle.framer.proofs.Passing.{only_held, completed_found, completed_none}
use Rattle.framer.proofs.framer.Framer.next.Goals as goal

pub invariant_of-self : goal.invariant_of-self
invariant_of-self c =
    let e : c.complete_header-taken.new.room.held ≡ [] = nil_from_length _ (omega arith) in
    subst IsHeld (sym e) held_none

pub invariant_of-self-then-len-lt-HEADER_LEN : goal.invariant_of-self-then-len-lt-HEADER_LEN
invariant_of-self-then-len-lt-HEADER_LEN c =
    begun_short c.complete_header-taken.new.room.held c.complete_header-taken.ensures.begun (omega arith)

pub returns-then-len-lt-HEADER_LEN-clause-found : goal.returns-then-len-lt-HEADER_LEN-clause-found
returns-then-len-lt-HEADER_LEN-clause-found c =
    let piece = c.args.piece.now in
    let held = c.complete_header-taken.new.room.held in
    let count = c.complete_header-taken.result.count in
    let begun = begun_short held c.complete_header-taken.ensures.begun (omega arith) in
    let passes =
    subst (λ (s : FramerState). Passes (s.held ++ piece) c.complete_header-taken.result.strays (c.complete_header-taken.new.room.held ++ drop
    c.complete_header-taken.result.count piece)) c.self.view_is c.complete_header-taken.ensures.passes in
    let all : count ≡ length piece = used_up held count (length piece) c.complete_header-taken.ensures.used (omega arith) (omega arith) in
    only_held (c.args.self.now.held ++ piece) held (drop count piece) c.complete_header-taken.result.strays passes
    (drop_all count piece (omega arith)) begun

pub invariant_of-self-in-Some : goal.invariant_of-self-in-Some
invariant_of-self-in-Some c = subst IsHeld (sym c.complete.ensures.held) held_none

pub returns-in-Some-clause-found : goal.returns-in-Some-clause-found
returns-in-Some-clause-found c =
    let piece = c.args.piece.now in
    let start = c.complete_header-taken.result in
    let held = c.complete_header-taken.new.room.held in
    let unit = c.complete_unit-kind.new.room.held in
    let count = c.complete_unit-kind.result.1 in
    let rest = take_rest piece start.count in
    let passes =
    subst (λ (s : FramerState). Passes (s.held ++ piece) c.complete_header-taken.result.strays (c.complete_header-taken.new.room.held ++ drop
    c.complete_header-taken.result.count piece)) c.self.view_is c.complete_header-taken.ensures.passes in
    let is = c.complete_unit-kind.ensures.bytes ∙ ap (λ (b : List ℕ). held ++ take count b) rest in
    let whole = rw c.in-Some.is at c.complete_unit-kind.ensures.whole in
    let u = completed_found (c.args.self.now.held ++ piece) held (drop start.count piece) unit start.strays count c.in-Some.kind passes is whole.0
    whole.1 (omega arith) in
    (rw (c.complete.ensures.completed, rest, take_rest (drop start.count piece) count) u, c.complete.ensures.held)

pub returns-in-None-clause-found : goal.returns-in-None-clause-found
returns-in-None-clause-found c =
    let piece = c.args.piece.now in
    let start = c.complete_header-taken.result in
    let held = c.complete_header-taken.new.room.held in
    let new = c.complete_unit-kind.new.room.held in
    let count = c.complete_unit-kind.result.1 in
    let rest = take_rest piece start.count in
    let passes =
    subst (λ (s : FramerState). Passes (s.held ++ piece) c.complete_header-taken.result.strays (c.complete_header-taken.new.room.held ++ drop
    c.complete_header-taken.result.count piece)) c.self.view_is c.complete_header-taken.ensures.passes in
    let is = c.complete_unit-kind.ensures.bytes ∙ ap (λ (b : List ℕ). held ++ take count b) rest in
    let left = rw c.in-None.is at c.complete_unit-kind.ensures.whole in
    let all = c.complete_unit-kind.ensures.used c.in-None.is ∙ ap length rest in
    completed_none (c.args.self.now.held ++ piece) held (drop start.count piece) new start.strays count passes is all left

pub returns-in-Some-clause-rest : goal.returns-in-Some-clause-rest
returns-in-Some-clause-rest c =
    let start = c.complete_header-taken.result in
    let count = c.complete_unit-kind.result.1 in
    let rest = ap length (take_rest c.args.piece.now start.count) in
    let behind = ap length (take_rest (drop start.count c.args.piece.now) count) in
    omega (arith, length-drop {A = ℕ})
