-- The ladder behind one record more.
use Rattle.std.proofs.Common.{◌≡◌, List, [], ◌∷◌, ◌++◌, ap, sym, ◌∙◌}
use Rattle.std.proofs.lemmas.List.{map-append}
use Rattle.std.proofs.lemmas.List.Sums.{fold-append}
use Rattle.ladder.specs.Ladder.{LadderView, made}
use Rattle.pair_judge.specs.Order.{MadeEntry, MadeRecord, TellsNext, record_told}
use Rattle.drawing.specs.Telling.{takes}
use Rattle.why_answer.specs.LastRows.{WereTold}

pub tells_next : (before after : LadderView) (next : MadeEntry) → after ≡ made before next.side next.entry next.bytes →
    TellsNext WereTold before after (record_told next)
tells_next before after next is_made order told = record {
  start = told.start;
  begins = told.begins;
  calls = told.calls ++ next ∷ [];
  of_order = map-append record_told told.calls (next ∷ []) ∙ ap (λ (made : List MadeRecord). made ++ record_told next ∷ []) told.of_order;
  reached = is_made ∙ (ap (λ (ladder : LadderView). takes ladder next) told.reached ∙ sym (fold-append takes told.start told.calls (next ∷ [])));
}
