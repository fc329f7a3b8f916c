use Rattle.std.proofs.Common.{refl}
use Rattle.std.proofs.lemmas.Result.{IfOk-weaker}
use Rattle.part_pair.proofs.Receipts.{moved}
use Rattle.part_pair.proofs.side_end.SideEnd.receive_as.Goals as goal

pub returns-in-Comes : goal.returns-in-Comes
returns-in-Comes c =
    IfOk-weaker c.make_at_end.result _ _ (λ made is. rw c.in-Comes.is (moved c.args.self.now _ _ _ _ _ c.drop_front.ensures refl refl refl made is))
    c.make_at_end.ensures

pub returns-in-ComesFromBehind : goal.returns-in-ComesFromBehind
returns-in-ComesFromBehind c =
    IfOk-weaker c.make_at_end-in-ComesFromBehind.result _ _
    (λ made is. rw c.in-ComesFromBehind.is (moved c.args.self.now _ _ _ _ _ c.clear.ensures.items c.or_first-self.ensures refl refl made is))
    c.make_at_end-in-ComesFromBehind.ensures
