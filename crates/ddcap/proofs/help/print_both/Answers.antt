use Rattle.ddcap.proofs.InTwo.{behind}
use Rattle.printing.specs.Printed.{stream_of}
use Rattle.ddcap.proofs.help.print_both.Goals as goal

pub returns-in-Ok : goal.returns-in-Ok
returns-in-Ok g c =
    let stream = stream_of g.W.Write.contents in
    behind (stream c.args.stream.now) (stream c.write_whole.new.writer) (stream c.print.new.stream) c.args.first.now c.args.second.now
    c.args.status c.print.result (c.in-Ok.ensures.ok, c.in-Ok.ensures.faults) c.print.ensures
