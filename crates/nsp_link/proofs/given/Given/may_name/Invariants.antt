use Rattle.std.proofs.Common.{◌≡◌, ◌<◌, drop}
use Rattle.std.specs.List.{AllByRecursion}
use Rattle.dna_packet.specs.AckWord.{IsAckWord}
use Rattle.nsp_link.specs.Given.{all_may_come}
use Rattle.nsp_link.proofs.given.Given.may_name.Given as goal

abbrev pub invariant-loop-word : goal.invariant-loop-word
invariant-loop-word l = record {
  in_range : AllByRecursion IsAckWord (drop l.word-index l.words);
  below : l.given.acknowledged < 4096;
  named : all_may_come l.words l.fn.self ≡ all_may_come (drop l.word-index l.words) l.given;
}
