use Rattle.std.proofs.Common.{refl}
use Rattle.std.proofs.lemmas.Result.{on_ok_weaker}
use Rattle.pair_judge.specs.Order.{record_told}
use Rattle.drawing.proofs.Onwards.{ends_rest}
use Rattle.drawing.proofs.telling.BothEndsObserver.made.Goals as goal

pub returns : goal.returns
returns c =
    on_ok_weaker c.made.result (ends_rest c.args.self.now (record { first = c.args.self.now.first; recent = c.made.new.self })
    (record_told c.args.next.now) c.if-self.false refl) c.made.ensures
