use Rattle.std.proofs.Common.{List, refl, true, ◌∙◌, ap}
use Rattle.ladder.specs.Ladder.{LadderView}
use Rattle.ladder.specs.declared.rows.Keep.TheVariants.{Last}
use Rattle.pair_judge.specs.Order.{MadeEntry}
use Rattle.drawing.specs.Telling.{ladder_told, with_no_rows}
use Rattle.drawing.proofs.Recents.{recent_begun}
use Rattle.drawing.proofs.recent.Recent.begun.Goals as goal

pub returns : goal.returns
returns c =
    let empty : LadderView = with_no_rows Last c.args.rows c.args.self.before in
    let half = c.in_ok-tell_all.ensures ∙ ap (λ (l : LadderView). ladder_told l c.as_slice.result.now) c.in_ok-begin.ensures.ok
    ∙ ap (λ (records : List MadeEntry). ladder_told empty records) c.as_slice.ensures in
    let whole = c.in_ok-tell_all-2.ensures ∙ ap (λ (records : List MadeEntry). ladder_told c.tell_all.new.ladder records) c.as_slice-2.ensures in
    recent_begun c.args.self (record { ladder = c.tell_all-2.new.ladder; is_all = true }) c.args.rows c.tell_all.new.ladder refl half whole
