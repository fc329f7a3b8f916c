use Rattle.std.proofs.Common.{ℕ, ◌∙◌, List, Option, drop, sym, ap, ap₂, arith, length, length-drop}
use Rattle.dna_links.specs.Segmentation.{Piece, in_whole_messages}
use Rattle.player_end.specs.inner.Delivering.{lines_of}
use Rattle.link_segments.proofs.Arrived.{in_order-le}
use Rattle.player_end.proofs.Delivered.{empty_counts, least_count, left_behind, lines_behind, no_more_lines, none_left, stops_at}
use Rattle.player_end.proofs.link_end.delivering.deliver_all.Goals as goal

pub loop-preserved : goal.loop-preserved
loop-preserved c =
    let pieces = c.loop.pieces in
    let text = c.loop.text.items in
    let next = sym c.in-Some.ensures.count in
    let least = least_count c.args.own text pieces c.in-Some.count next in record {
      lines = c.loop.invariant.lines
          ∙ lines_behind c.args.own text pieces c.in-Some.count next c.in-Ok.ensures.short
          ∙ ap₂ (λ (t : List ℕ) (ps : List (Option Piece)). lines_of c.args.own t ps) (sym c.in-Ok.ensures.ok) (sym c.deliver.ensures);
      left = c.loop.invariant.left
          ∙ left_behind c.args.own text pieces c.in-Some.count next
          ∙ ap (λ (ps : List (Option Piece)). drop (in_whole_messages ps) ps) (sym c.deliver.ensures);
      few = omega (
        arith,
        c.loop.invariant.few,
        c.in-Some.ensures.within,
        least,
        in_order-le pieces,
        ap length c.deliver.ensures,
        length-drop c.in-Some.count pieces,
      );
    }

pub returns-in-Err-clause-stop : goal.returns-in-Err-clause-stop
returns-in-Err-clause-stop c =
    stops_at c.args.own c.loop.text.items c.loop.pieces c.in-Some.count (sym c.in-Some.ensures.count) _ c.loop.invariant.lines c.in-Err.fault
    c.in-Err.ensures.long

pub returns-in_default-clause-ok : goal.returns-in_default-clause-ok
returns-in_default-clause-ok c = c.loop.invariant.lines ∙ no_more_lines c.args.own c.loop.text.items c.loop.pieces (sym c.in_default.ensures.count)

pub returns-in_default-clause-left : goal.returns-in_default-clause-left
returns-in_default-clause-left c = sym (c.loop.invariant.left ∙ none_left c.args.own c.loop.text.items c.loop.pieces (sym c.in_default.ensures.count))

pub returns-clause-ok : goal.returns-clause-ok
returns-clause-ok c =
    let pieces = c.loop.pieces in
    let none = empty_counts pieces (omega (arith, c.loop.invariant.few)) in
    c.loop.invariant.lines ∙ no_more_lines c.args.own c.loop.text.items pieces none

pub returns-clause-left : goal.returns-clause-left
returns-clause-left c =
    let pieces = c.loop.pieces in
    let none = empty_counts pieces (omega (arith, c.loop.invariant.few)) in
    sym (c.loop.invariant.left ∙ none_left c.args.own c.loop.text.items pieces none)
