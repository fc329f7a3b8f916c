use Rattle.std.proofs.Common.{◌∙◌}
use Rattle.wire_tap.proofs.AccuserLaws.{on_ok}
use Rattle.wire_tap.proofs.accusers.PacketAccusers.other_passed.Goals as goal

pub returns : goal.returns
returns c head passed is =
    on_ok c.other_passed-3.result _ _ (λ segments. record {
      head_is = c.other_passed.ensures.head ∙ is.head_is;
      links = c.in_ok-other_passed.ensures.after passed is.links;
      acks = c.in_ok-other_passed-2.ensures passed is.acks;
      segments = segments;
    }) (c.other_passed-3.ensures passed is.segments)
