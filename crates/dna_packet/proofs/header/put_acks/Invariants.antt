use Rattle.std.proofs.Common.{◌≡◌, ◌+◌, ◌*◌, ◌++◌, take}
use Rattle.arrayvec.specs.ArrayVec.{array_vec_len}
use Rattle.dna_packet.specs.AckWord.{ack_bytes}
use Rattle.dna_packet.proofs.header.put_acks.Given as goal

abbrev pub invariant-loop-ack : goal.invariant-loop-ack
invariant-loop-ack l = record {
  written : l.header.items ≡ l.initial.header.items ++ ack_bytes (take l.ack-index l.acks);
  len : array_vec_len l.header ≡ array_vec_len l.initial.header + 2 * l.ack-index;
}
