use Rattle.std.proofs.Common.{List, ◌++◌, sym, ap, ◌∙◌}
use Rattle.std.specs.List.{filter}
use Rattle.nsp_link.specs.View.{view_of}
use Rattle.nsp_link.specs.declared.view.LinkView.{LinkView}
use Rattle.why.specs.inner.Ends.{if_live, is_live_view}
use Rattle.why.proofs.Kept.{seen_all, seen_more}
use Rattle.why.proofs.ends.live_links.Goals as goal

pub loop-number-preserved : goal.loop-number-preserved
loop-number-preserved c =
    c.in_ok-push_live.ensures
    ∙ ap (λ (t : List LinkView). t ++ if_live c.in-Some.link) c.loop-number.invariant
    ∙ sym (seen_more view_of is_live_view c.args.end.now.links.links c.loop-number.number c.in-Some.link c.in-Some.ensures)

pub returns-in_default : goal.returns-in_default
returns-in_default c =
    c.loop-number.invariant
    ∙ ap (filter is_live_view)
    (seen_all view_of c.args.end.now.links.links c.loop-number.number c.in_default.ensures)
