use Rattle.std.specs.Prelude.{string_bytes}
use Rattle.why_answer.proofs.Tellings.{tells_as_objects, tells_in_rows}
use Rattle.why_answer.proofs.telling.text_of_refused.Goals as goal

pub returns-in-Json : goal.returns-in-Json
returns-in-Json c = tells_as_objects c.args.printout.layers string_bytes c.args.ends.now c.args.refused _ c.in-Some.ensures c.args.printout.form
    c.in-Json.is
    c.objects_text.result c.objects_text.ensures

pub returns-in-Rows : goal.returns-in-Rows
returns-in-Rows c = tells_in_rows c.args.printout.layers string_bytes c.args.ends.now c.args.refused _ c.in-Some.ensures c.args.printout.form
    c.in-Rows.is c.rows_text.result
    c.rows_text.ensures
