use Rattle.std.proofs.Common.{◌≡◌, ◌==◌, ◌&&◌, nat_lt, ℕ, ◌+◌, ◌-◌, ◌≤◌, List, ◌++◌, length, length-drop, take, drop, Option, sym, ap, ◌∙◌, subst}
use Rattle.std.proofs.Common.{arith}
use Rattle.std.specs.Io.KnownBytes.{Appends}
use Rattle.std.proofs.KnownBytes.{Appends-trans}
use Rattle.std.proofs.lemmas.List.{take_all}
use Rattle.std.proofs.Math.Seq.{take-add}
use Rattle.std.proofs.lemmas.Bool.{ne_eqb}
use Rattle.wire_base.specs.Tally.{faults_after}
use Rattle.wire_base.proofs.tally.write_whole.Goals as goal

-- what was taken before and what this call took are one beginning of the piece
Appends_more : (a b c : Option (List ℕ)) (t n : ℕ) (piece : List ℕ) → t ≤ length piece → Appends a b (take t piece)
    → Appends b c (take n (take (length piece - t) (drop t piece))) → Appends a c (take (t + n) piece)
Appends_more a b c t n piece h p q =
    let rest : take (length piece - t) (drop t piece) ≡ drop t piece =
    take_all (length piece - t) (drop t piece) (omega (arith, length-drop t piece)) in
    subst (Appends a c) (ap (λ xs. take t piece ++ take n xs) rest ∙ sym (take-add t n piece)) (Appends-trans a b c _ _ p q)

-- a call that took some bytes did not fail
none_failed : (count faults new : ℕ) (rest : List ℕ) → (count ≡ 0 → ⊥) → new ≡ faults_after faults (count == 0 && nat_lt 0 (length rest)) →
    new ≡ faults
none_failed count faults new rest some e = e ∙ ap (λ b. faults_after faults (b && nat_lt 0 (length rest))) (ne_eqb count 0 some)

pub loop-taken-preserved : goal.loop-taken-preserved
loop-taken-preserved g c =
    let before = c.loop-taken.invariant in
    let took = c.in-Ok.ensures in
    record {
      within = omega (arith, took.bound, length-drop c.loop-taken.taken c.args.piece.now);
      bytes = Appends_more _ (g.W.Write.contents c.loop-taken.writer.lent) _ c.loop-taken.taken c.in-Ok.count c.args.piece.now before.within
          before.bytes took.bytes;
      no_fault = none_failed c.in-Ok.count c.loop-taken.writer.faults c.write.new.self.faults _ c.in-Ok.count-test.1 took.faults ∙ before.no_fault;
    }
