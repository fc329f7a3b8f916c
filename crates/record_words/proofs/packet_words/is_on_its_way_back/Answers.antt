use Rattle.record_words.proofs.Bits.{bit_4_test}
use Rattle.record_words.proofs.packet_words.is_on_its_way_back.Goals as goal

pub returns : goal.returns
returns c = bit_4_test c.args.rtflg
