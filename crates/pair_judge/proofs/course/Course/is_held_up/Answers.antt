use Rattle.std.proofs.Common.{◌-◌, ◌≤◌, length, sym, ◌∙◌, refl, arith, ltb-false}
use Rattle.capture_record.specs.Entries.{record_with}
use Rattle.pair_judge.specs.inner.Lines.{held}
use Rattle.pair_judge.specs.inner.Runs.{tag_of}
use Rattle.pair_judge.proofs.Runs.{length-units_from}
use Rattle.std.proofs.lemmas.Option.{slice_get_past}
use Rattle.pair_judge.proofs.Sent.{held_at}
use Rattle.pair_judge.proofs.Advances.{receipt_waits}
use Rattle.pair_judge.proofs.course.Course.is_held_up.Goals as goal

pub returns : goal.returns
returns g c = λ _.
    let bytes = c.args.self.now.capture.bytes in
    let hint = c.in-Received.hint in
    let line = c.args.incoming.now in
    let past : length line.units.items ≤ hint - line.gone = ltb-false _ _ (sym c.was_sent.ensures ∙ c.if-was_sent.false) in
    let none = slice_get_past (held line) (hint - line.gone) (omega (arith, past, length-units_from (tag_of line.tags) line.gone line.units.items)) in
    record {
      next = record_with c.in-Waits.entry bytes;
      ahead = record { entry = c.in-Waits.entry; ahead_is = c.in-Waits.is; is = refl };
      waits = λ mine theirs stands shows. rw c.in-Received.is (receipt_waits g.T.Top.top hint _ bytes mine theirs
          (sym (held_at line theirs.sent hint shows c.if-hint-incoming.false) ∙ none));
    }
