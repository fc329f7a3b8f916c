use Rattle.std.proofs.Common.{◌++◌, ℕ, List, take, sym, ap, append_assoc, ◌∙◌, arith}
use Rattle.dna_packet.specs.declared.ack_word.AckQualifier.TheVariants.{Ack}
use Rattle.dna_packet.specs.AckWord.{ack_bytes}
use Rattle.dna_packet.specs.Fields.{word}
use Rattle.dna_packet.proofs.AckWordLemmas.{ack_bytes_more}
use Rattle.dna_packet.proofs.header.put_acks.Goals as goal

pub loop-ack-preserved : goal.loop-ack-preserved
loop-ack-preserved c =
    let before = c.args.header.now.items in
    let front = ack_bytes (take c.loop-ack.ack-index c.args.acks.now) in
    let more = ack_bytes_more c.args.acks.now c.loop-ack.ack-index (record { qualifier = Ack; number = 0 }) c.loop-ack-test.true in
    record {
      written = c.put_word.ensures.items
          ∙ ap (λ (t : List ℕ). t ++ word c.to_word.result) c.loop-ack.invariant.written
          ∙ append_assoc before front (word c.to_word.result)
          ∙ ap (λ (k : ℕ). before ++ (front ++ word k)) c.to_word.ensures
          ∙ ap (λ (t : List ℕ). before ++ t) (sym more);
      len = omega arith;
    }
