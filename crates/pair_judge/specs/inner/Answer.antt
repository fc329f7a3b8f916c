-- What is answered of a finding.
use Rattle.dna_node.specs.declared.finding.Finding.{Finding}
use Rattle.dna_node.specs.declared.finding.Finding.TheVariants as findings
use Rattle.pair_judge.specs.declared.summary.Summary.{Summary}
use Rattle.pair_judge.specs.declared.judging.Found.{Found}
use Rattle.pair_judge.specs.declared.verdict.Verdict.{Verdict}
use Rattle.pair_judge.specs.declared.verdict.Verdict.TheVariants.{Accepted, Refused}
use Rattle.pair_judge.specs.Reason.{reason_of}

abbrev pub answer_of : Finding → Summary → Verdict
answer_of findings.Accepted summary = Accepted summary
answer_of (findings.Refused side place cause) summary = Refused side place (reason_of cause)

abbrev pub verdict_of : Found → Verdict
verdict_of found = answer_of found.finding found.summary
