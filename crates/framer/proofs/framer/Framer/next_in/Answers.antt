use Rattle.std.proofs.Common.{◌≡◌, ℕ, ◌-◌, List, [], ◌++◌, length, get_or, take, drop, sym, ap, ◌∙◌, arith}
use Rattle.std.proofs.lemmas.List.{length-drop, take_rest}
use Rattle.framer.specs.Framing.{front, kind_of}
use Rattle.framer.specs.Given.{FramerState}
use Rattle.framer.proofs.Fronts.{whole_len}
use Rattle.framer.proofs.Passing.{unit_found, none_found}
use Rattle.framer.proofs.framer.Framer.next_in.Goals as goal

pub part-kind-requires : goal.part-kind-requires
part-kind-requires c =
    let found = take_rest c.args.piece.now c.pass-passed.result.at in
    let whole = rw c.in-Some.is at c.pass-passed.ensures.found in
    let w = whole_len (drop c.pass-passed.result.at c.args.piece.now) c.in-Some.len whole in
    let same = ap length found in
    record { some = omega arith; within = omega arith; whole = ap front found ∙ whole }

pub returns-in-Some-clause-found : goal.returns-in-Some-clause-found
returns-in-Some-clause-found c bytes passes =
    let piece = c.args.piece.now in
    let at = c.pass-passed.result.at in
    let found = take_rest piece at in
    let whole = rw c.in-Some.is at c.pass-passed.ensures.found in
    let start = ap (λ (b : List ℕ). kind_of (get_or b 0 0)) (sym found) ∙ c.part-kind.ensures.kind in
    let u = unit_found bytes piece at c.args.strays c.pass-passed.result.strays c.in-Some.len c.part-kind.result.0 passes
    c.pass-passed.ensures.passes whole start in
    (rw (c.part-kind.ensures.unit, c.part-kind.ensures.rest, found) u, c.requires.empty)

pub returns-in-None-clause-found : goal.returns-in-None-clause-found
returns-in-None-clause-found c bytes passes =
    let piece = c.args.piece.now in
    let at = c.pass-passed.result.at in
    let empty : c.self.inside.room.held ≡ [] = ap (λ (s : FramerState). s.held) c.self.view_is ∙ c.requires.empty in
    let is = c.hold.ensures ∙ ap (λ (b : List ℕ). b ++ take (length piece - at) (drop at piece)) empty ∙ take_rest piece at in
    let cut = rw c.in-None.is at c.pass-passed.ensures.found in
    rw is (none_found bytes piece at c.args.strays c.pass-passed.result.strays passes c.pass-passed.ensures.passes cut)

pub returns-in-Some-clause-rest : goal.returns-in-Some-clause-rest
returns-in-Some-clause-rest c len within =
    let found = ap length (take_rest c.args.piece.now c.pass-passed.result.at) in
    let same = ap length c.part-kind.ensures.rest in
    omega (arith, length-drop {A = ℕ})
