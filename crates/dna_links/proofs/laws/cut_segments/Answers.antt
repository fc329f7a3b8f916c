use Rattle.std.proofs.Common.{refl}
use Rattle.dna_links.proofs.Cut.SegmentsArriving.{delivers_same, takes_acks_same, takes_segment_same}
use Rattle.dna_links.proofs.Cut.SegmentsSending.{sends_acks_same, sends_segment_same}
use Rattle.dna_links.proofs.laws.cut_segments.Goals as goal

pub returns : goal.returns
returns c = record {
  empty = refl;
  hands_in = λ f message. refl;
  delivers = λ f message. delivers_same f message;
  sends_acks = λ f words ordered answered. sends_acks_same f ordered answered words;
  sends_segment = λ f segsize s ordered answered. sends_segment_same f ordered answered segsize s;
  takes_acks = λ f words known ordered spells near. takes_acks_same words known f ordered spells near;
  takes_segment = λ f s known ordered spells number acks near. takes_segment_same s known f ordered spells number acks near;
}
