use Rattle.nsp_link.proofs.FailedAllowed.{link_passes, word_passes, segment_passes, next_passes, first_passes, room_passes, call_passes, pair_passes}
use Rattle.nsp_link.proofs.FailedAllowed.{late_passes, whole_passes}
use Rattle.nsp_link.proofs.laws.allowed_at_links.Goals as goal

pub returns : goal.returns
returns c = record {
  link = link_passes;
  word = word_passes;
  late = late_passes;
  number = segment_passes;
  next = next_passes;
  first_given = first_passes;
  room = room_passes;
  call = call_passes;
  pair = pair_passes;
  whole = whole_passes;
}
