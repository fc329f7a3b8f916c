use Rattle.std.proofs.Common.{[], ◌∷◌, arith}
use Rattle.std.specs.Prelude.{zero, suc}
use Rattle.two_nodes.specs.inner.Example.{counters}
use Rattle.two_nodes.specs.inner.Example.Event.{Count, Tell, Hear}
use Rattle.two_nodes.specs.Past.{NamesBelow}
use Rattle.two_nodes.proofs.tests.what_names_nothing_is_a_run_alone.Goals as goal

names_nothing : NamesBelow counters 0 (Count ∷ Tell ∷ [])
names_nothing zero d l k e = absurd (cc)
names_nothing (suc zero) d l k e = absurd (cc)
names_nothing (suc (suc n)) d l k e = absurd (omega arith)

pub returns : goal.returns
returns c = λ run. c.closed_beginnings.ensures.run 0 0 (Count ∷ Tell ∷ Hear 0 1 ∷ []) (Hear 0 1 ∷ Tell ∷ []) 2 0 run
    (record { of_a = names_nothing; of_b = λ k d l. absurd (omega arith) })
