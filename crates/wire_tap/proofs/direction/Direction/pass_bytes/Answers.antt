use Rattle.std.proofs.Common.{◌++◌, length, ap, ◌∙◌, arith, length-append}
use Rattle.wire_tap.proofs.DirectionLaws.{begins, finds_all, goes_on}
use Rattle.wire_tap.proofs.direction.Direction.pass_bytes.Goals as goal

pub loop-init : goal.loop-init
loop-init c = record {
  way = λ line_alone a b passed lines place tells keeps on_line.
      begins line_alone a b c.args.self.now.side passed lines place c.args.line c.args.self.now.framer.held c.args.piece.now c.args.self.now.begun
      c.args.told.now tells keeps on_line;
  few = omega arith;
  side_is = search;
}

pub returns-in-UsedUp : goal.returns-in-UsedUp
returns-in-UsedUp c line_alone a b passed lines place tells keeps on_line =
    let way = c.loop.invariant.way line_alone a b passed lines place tells keeps on_line in
    let side = c.loop.invariant.side_is in
    let next = rw (side, c.in-UsedUp.is) at c.in_ok-behind.ensures.finds line_alone a b (passed ++ way.found) lines _ way.tells way.keeps
    way.on_line in
    finds_all line_alone a b c.args.self.now.side passed lines place c.args.line _ c.loop.self.framer.held c.loop.rest.now c.loop.self.begun
    c.loop.told way
    c.pass_next.new.self c.pass_next.new.told next (c.pass_next.ensures.side ∙ side)

pub loop-preserved : goal.loop-preserved
loop-preserved c =
    let less = rw c.in-Rest.is at c.in_ok-behind.ensures.less in
    let none = ap length less.2 in
    let few = c.loop.invariant.few in
    record {
      way = λ line_alone a b passed lines place tells keeps on_line.
          let way = c.loop.invariant.way line_alone a b passed lines place tells keeps on_line in
          let side = c.loop.invariant.side_is in
          let next = rw (side, c.in-Rest.is) at c.in_ok-behind.ensures.finds line_alone a b (passed ++ way.found) lines _ way.tells way.keeps
          way.on_line in
          goes_on line_alone a b c.args.self.now.side passed lines place c.args.line _ c.loop.self.framer.held c.loop.rest.now c.loop.self.begun
          c.loop.told way c.in-Rest.behind.now c.pass_next.new.self.framer.held c.pass_next.new.self.begun c.pass_next.new.told next less.0 less.1
          less.2;
      few = omega (arith, length-append c.pass_next.new.self.framer.held c.in-Rest.behind.now);
      side_is = c.pass_next.ensures.side ∙ c.loop.invariant.side_is;
    }
