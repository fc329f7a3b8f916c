use Rattle.accusing_links.proofs.Passing.{own_noted}
use Rattle.wire_tap.proofs.AccuserLaws.{on_ok}
use Rattle.wire_tap.proofs.accusers.PacketAccusers.own_passed.Goals as goal

pub returns : goal.returns
returns c head passed is =
    on_ok c.own_passed-2.result _ _ (λ segments. record {
      head_is = is.head_is;
      links = own_noted passed c.args.unit.now c.args.self.now.links is.links;
      acks = c.in_ok-own_passed.ensures passed is.acks;
      segments = segments;
    }) (c.own_passed-2.ensures passed is.segments)
