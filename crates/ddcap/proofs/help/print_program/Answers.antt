use Rattle.std.proofs.Common.{inr, refl, ◌++◌, codes}
use Rattle.ddcap.proofs.InTwo.{behind, beginning_of_first}
use Rattle.printing.specs.Printed.{stream_of}
use Rattle.ddcap.specs.declared.help.TheConstants.{VERSION}
use Rattle.command_words.specs.declared.help_pages.TheConstants.{PROGRAM}
use Rattle.ddcap.proofs.help.print_program.Goals as goal

pub returns-in-Ok : goal.returns-in-Ok
returns-in-Ok g c =
    let stream = stream_of g.W.Write.contents in
    let rest = rw (c.as_bytes.ensures.value, c.as_bytes-in-Ok.ensures.value) at c.print_both.ensures in
    behind (stream c.args.stream.now) (stream c.write_whole.new.writer) (stream c.print_both.new.stream) (codes "ddcap ") (VERSION.now ++ PROGRAM.now)
    0 c.print_both.result (c.in-Ok.ensures.ok, c.in-Ok.ensures.faults) rest

pub returns-in-Err : goal.returns-in-Err
returns-in-Err g c = inr (beginning_of_first _ _ (codes "ddcap ") (VERSION.now ++ PROGRAM.now) c.in-Err.ensures.err, c.in-Err.ensures.counted, refl)
