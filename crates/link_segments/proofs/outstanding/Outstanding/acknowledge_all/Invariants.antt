use Rattle.std.proofs.Common.{◌≡◌, drop}
use Rattle.std.specs.List.{AllByRecursion}
use Rattle.dna_packet.specs.AckWord.{IsAckWord}
use Rattle.link_segments.specs.Outstanding.{acknowledged_words}
use Rattle.link_segments.proofs.outstanding.Outstanding.acknowledge_all.Given as goal

abbrev pub invariant-loop-word : goal.invariant-loop-word
invariant-loop-word g l = record {
  in_range : AllByRecursion IsAckWord (drop l.word-index l.words);
  done : acknowledged_words l.words l.fn.self ≡ acknowledged_words (drop l.word-index l.words) l.self;
}
