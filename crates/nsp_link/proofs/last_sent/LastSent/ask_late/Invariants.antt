use Rattle.std.proofs.Common.{◌≡◌, drop}
use Rattle.std.specs.List.{AllByRecursion}
use Rattle.dna_packet.specs.AckWord.{IsAckWord}
use Rattle.nsp_link.specs.FailedSending.{asked_late}
use Rattle.nsp_link.proofs.last_sent.LastSent.ask_late.Given as goal

abbrev pub invariant-loop-word : goal.invariant-loop-word
invariant-loop-word l = record {
  in_range : AllByRecursion IsAckWord (drop l.word-index l.words);
  named : asked_late l.received l.words (record { sent = l.fn.self; gap = l.gap }) ≡ asked_late l.received (drop l.word-index l.words)
      (record { sent = l.late.sent; gap = l.late.gap });
}
