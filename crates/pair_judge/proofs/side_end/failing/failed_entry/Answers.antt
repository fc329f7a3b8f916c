use Rattle.std.proofs.Common.{[], Some, sym, subst}
use Rattle.capture_record.specs.Entries.{record_with}
use Rattle.capture_record.specs.declared.entry.Entry.{Entry}
use Rattle.nsp_link.specs.Kinds.{queues_of}
use Rattle.pair_judge.specs.FailedIn.{IsFirstOf, checks_alone}
use Rattle.pair_judge.proofs.Entries.{no_receipt}
use Rattle.pair_judge.proofs.FirstFailed.{alone_first}
use Rattle.pair_judge.proofs.side_end.failing.failed_entry.Goals as goal

pub returns-in-Received : goal.returns-in-Received
returns-in-Received g c =
    subst (λ (entry : Entry). IsFirstOf c.args.reason
    (checks_alone (queues_of g.row.QUEUES) c.args.layers.now c.args.front (Some (record_with entry c.args.bytes.now)))
    c.failed_receipt.result) (sym c.in-Received.is) c.failed_receipt.ensures

pub returns-in_default : goal.returns-in_default
returns-in_default g c =
    alone_first (queues_of g.row.QUEUES) c.args.reason c.args.layers.now c.args.front c.args.entry c.args.bytes.now c.failed_own.result
    c.of_reason.result
    (no_receipt c.args.entry c.in_default.not-Received) (c.failed_own.ensures c.args.front []) c.of_reason.ensures
