-- What is answered of a finding.
use Rattle.std.specs.Prelude.{Option, None}
use Rattle.wire_base.specs.declared.side.Side.TheVariants.{A, B}
use Rattle.dna_node.specs.declared.finding.Finding.{Finding}
use Rattle.dna_node.specs.declared.finding.Finding.TheVariants.{Accepted, Refused}
use Rattle.pair_judge.specs.declared.verdict.Verdict.TheVariants as verdicts
use Rattle.pair_judge.specs.Reason.{reason_of}
use Rattle.part_pair.specs.declared.course.Course.{Course}
use Rattle.part_pair.specs.declared.verdict.JudgedAlone.{JudgedAlone}
use Rattle.part_pair.specs.declared.verdict.PartsVerdict.{PartsVerdict}
use Rattle.part_pair.specs.Judged.{alone_in, or_alone}

abbrev pub alone_of : Course → Course → Option JudgedAlone
alone_of a b = or_alone (alone_in A a.side.alone_from) (alone_in B b.side.alone_from)

abbrev pub answer_of : Finding → Course → Course → PartsVerdict
answer_of Accepted a b = record {
  verdict = verdicts.Accepted (record { a = a.side.end.counts; b = b.side.end.counts });
  alone = alone_of a b;
}
answer_of (Refused side place cause) a b = record { verdict = verdicts.Refused side place (reason_of cause); alone = None }
