use Rattle.std.specs.Prelude.{string_bytes}
use Rattle.why_answer.proofs.AnsweringWhyEnd.{end_tells_as_objects, end_tells_in_rows}
use Rattle.why_answer.proofs.end_telling.text_of_refused_end.Goals as goal

pub returns-in-Json : goal.returns-in-Json
returns-in-Json c = end_tells_as_objects string_bytes c.args.printout.layers _ _ c.in-Some.ensures c.args.printout.form c.in-Json.is
    c.why_end_json.result c.why_end_json.ensures

pub returns-in-Rows : goal.returns-in-Rows
returns-in-Rows c = end_tells_in_rows string_bytes c.args.printout.layers _ _ c.in-Some.ensures c.args.printout.form c.in-Rows.is c.rows_text.result
    c.rows_text.ensures
