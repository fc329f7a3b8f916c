-- What is left of a pair of captures that is a run is one.
use Rattle.leaving_runs.proofs.Prelude.{List, map, refl, sym, subst, AllByRecursion, A, B, IsRecord, Record, Head, Queues, layers_kind, IsRunOf}
use Rattle.leaving_runs.proofs.Prelude.{Leaving, records_left, other_out, Leaves, other_leaves, world_left, record_left, PacketsFit, RecordFits}
use Rattle.leaving_runs.proofs.Prelude.{leaves_at, KnowsHead, AreAlike}
use Rattle.leaving_runs.proofs.Packets.{packets_fit}
use Rattle.leaving_runs.proofs.Tied.{records_same, all_fit}
use Rattle.leaving_runs.proofs.Runs.{run_goes}

pub pair_left : (queues : Queues) (leaves : Leaves) (head_a head_b : Head) → PacketsFit leaves.out head_a.own head_a.peer leaves.packets.own →
    PacketsFit (other_out leaves.out) head_b.own head_b.peer leaves.packets.far → (of_a of_b : List Record) →
    AllByRecursion (RecordFits leaves.out) of_a → AllByRecursion (RecordFits (other_out leaves.out)) of_b →
    IsRunOf (layers_kind queues) head_a head_b of_a of_b →
    IsRunOf (layers_kind queues) head_a head_b (map (record_left leaves) of_a) (map (record_left (other_leaves leaves)) of_b)
pair_left queues leaves head_a head_b fits_a fits_b of_a of_b records_a records_b run =
    let goes = run_goes queues leaves head_a head_b fits_a fits_b run.0 of_a of_b run.1 records_a records_b in (
      world_left leaves goes.marks run.0,
      (goes.left goes.marks (record { here = λ n less. refl; there = λ n less. refl })).run,
    )

pub program_left : (queues : Queues) (leaving : Leaving) (head_a head_b : Head) (of_a of_b : List Record) → KnowsHead leaving A head_a →
    KnowsHead leaving B head_b → AllByRecursion IsRecord of_a → AllByRecursion IsRecord of_b → AreAlike leaving A of_a → AreAlike leaving B of_b →
    IsRunOf (layers_kind queues) head_a head_b of_a of_b →
    IsRunOf (layers_kind queues) head_a head_b (records_left leaving A of_a) (records_left leaving B of_b)
program_left queues leaving head_a head_b of_a of_b knows_a knows_b records_a records_b alike_a alike_b run =
    subst (λ (xs : List Record). IsRunOf (layers_kind queues) head_a head_b xs (records_left leaving B of_b))
    (sym (records_same leaving A B refl refl of_a))
    (subst (IsRunOf (layers_kind queues) head_a head_b (map (record_left (leaves_at leaving A B)) of_a))
    (sym (records_same leaving B A refl refl of_b))
    (pair_left queues (leaves_at leaving A B) head_a head_b (packets_fit leaving A B refl head_a knows_a)
    (packets_fit leaving B A refl head_b knows_b)
    of_a of_b
    (all_fit leaving A B refl refl of_a records_a alike_a) (all_fit leaving B A refl refl of_b records_b alike_b) run))
