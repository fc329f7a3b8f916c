use Rattle.dna_leaving.proofs.Prelude.{◌≡◌, subst, not, refl, Bool, true, false, Links, links_left, AreFit, is_out}
use Rattle.dna_leaving.proofs.Answered.{IfMade}
use Rattle.dna_leaving.proofs.Steps.{next_left, packet_left, next_out, next_fit}
use Rattle.dna_leaving.proofs.laws.one_record_goes_along.Goals as goal

pub returns-clause-judged : goal.returns-clause-judged
returns-clause-judged c = λ rules out judged s one fit right is next. next_left rules out judged s fit one is right next

pub returns-clause-sent : goal.returns-clause-sent
returns-clause-sent c = λ rules out judged s packet fit is next. packet_left rules out judged s fit next packet is

pub returns-clause-left_out : goal.returns-clause-left_out
returns-clause-left_out c = λ rules out judged s left one fit right is next made_is.
    subst (IfMade (λ (x : Links). links_left judged x ≡ links_left judged s)) made_is (next_out rules out judged s fit one is right next)

pub returns-clause-fits : goal.returns-clause-fits
returns-clause-fits c = λ rules out judged s left one fit right next made_is.
    subst (IfMade (AreFit out judged)) made_is (next_fit rules out judged s fit (not (is_out out one)) one (twice (is_out out one)) right next)
  where
    twice : (b : Bool) → b ≡ not (not b)
    twice true = refl
    twice false = refl
