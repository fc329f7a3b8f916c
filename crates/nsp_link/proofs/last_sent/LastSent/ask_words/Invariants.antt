use Rattle.std.proofs.Common.{◌≡◌, drop}
use Rattle.std.specs.List.{AllByRecursion}
use Rattle.dna_packet.specs.AckWord.{IsAckWord}
use Rattle.nsp_link.specs.FailedSending.{asked_words}
use Rattle.nsp_link.proofs.last_sent.LastSent.ask_words.Given as goal

abbrev pub invariant-loop-word : goal.invariant-loop-word
invariant-loop-word l = record {
  in_range : AllByRecursion IsAckWord (drop l.word-index l.words);
  named : asked_words l.again l.received l.words l.fn.self ≡ asked_words l.again l.received (drop l.word-index l.words) l.sent;
}
