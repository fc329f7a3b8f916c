use Rattle.json_text.proofs.Texts.{object_of}
use Rattle.json_text.proofs.members.Members.into_object.Goals as goal

pub returns-clause-well_formed : goal.returns-clause-well_formed
returns-clause-well_formed c =
    object_of _ _ _ _ c.self.invariant c.in_ok-put_between.ensures.whole c.new-object.ensures.items c.in_ok-put_between.ensures.added
