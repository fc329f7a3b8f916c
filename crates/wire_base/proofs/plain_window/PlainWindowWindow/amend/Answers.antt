-- The item is lent, and one call changes it.
use Rattle.std.proofs.Common.{refl}
use Rattle.std.proofs.lemmas.Option.{slice_get_read}
use Rattle.wire_base.proofs.plain_window.PlainWindowWindow.amend.Goals as goal

pub returns : goal.returns
returns g c =
    let item = slice_get_read c.args.self.now.items.items _ c.args.index _ refl c.requires.within c.index_mut.ensures.value in
    (_, _, item, record { shown = _; shows = refl; left = _; met = c.change.ensures; leaves = refl }, refl)
