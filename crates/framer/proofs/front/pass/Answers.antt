use Rattle.std.proofs.Common.{◌≡◌, ◌<◌, length, drop, sym, ap, ◌∙◌, arith}
use Rattle.std.proofs.lemmas.List.{take_rest, drop_all}
use Rattle.framer.specs.declared.front.Front.TheVariants.{Between, Stray}
use Rattle.framer.specs.Framing.{front}
use Rattle.framer.proofs.Fronts.{front_nil}
use Rattle.framer.proofs.Passing.{pass_between, pass_stray, passes_none}
use Rattle.framer.proofs.front.pass.Goals as goal
use Rattle.framer.proofs.front.pass.Goals.{in-Between, in-Stray}

pub loop-at-init : goal.loop-at-init
loop-at-init c = (passes_none c.args.bytes.now, omega arith)

pub loop-at-preserved : goal.loop-at-preserved
loop-at-preserved c =
    let bytes = c.args.bytes.now in
    let at = c.loop-at.at in
    let h : at < length bytes = omega arith in
    let read = ap front (sym (take_rest bytes at)) ∙ sym c.front_of.ensures.value in
    let few = c.loop-at.invariant.1 in
    elim c.match-front_of.branch [
      | in-Between w ↦
          let e : front (drop at bytes) ≡ Between = read ∙ w.in-Between.is in
          rw w.strays-is (pass_between bytes at c.loop-at.strays h c.loop-at.invariant.0 e, omega arith)
      | in-Stray w ↦
          let e : front (drop at bytes) ≡ Stray = read ∙ w.in-Stray.is in
          rw w.strays-is (pass_stray bytes at c.loop-at.strays h c.loop-at.invariant.0 e, omega arith)
    ]

pub returns-clause-found : goal.returns-clause-found
returns-clause-found c = ap front (drop_all (length c.args.bytes.now) c.args.bytes.now (omega arith)) ∙ front_nil
