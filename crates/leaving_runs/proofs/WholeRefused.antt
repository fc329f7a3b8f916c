-- A judged record that the links refuse next to a run is refused for the same reason next to what is left of the run.
use Rattle.leaving_runs.proofs.Prelude.{◌≡◌, ℕ, List, [], ◌∷◌, map, refl, sym, ap, ◌∙◌, subst, AllByRecursion, A, B, World, Run, advance, Refused}
use Rattle.leaving_runs.proofs.Prelude.{IsRecord, Record, Head, LinkRefusal, Queues, Links, LayersNode, LayersUnit, layers_pair_by, layers_start}
use Rattle.leaving_runs.proofs.Prelude.{Leaving, other_out, other_judged, Leaves, other_leaves, world_left, record_left, PacketsFit, RecordFits}
use Rattle.leaving_runs.proofs.Prelude.{of_record, IsJudged, leaves_at, KnowsHead, AreAlike}
use Rattle.dna_station.specs.declared.refusal.StepRefusal.TheVariants.{Links as OfLinks}
use Rattle.leaving_out.specs.Records as program
use Rattle.leaving_runs.proofs.Packets.{packets_fit}
use Rattle.leaving_runs.proofs.Tied.{one_same, records_same, all_fit}
use Rattle.leaving_runs.proofs.Runs.{IsAt, RunLeft, Goes, run_goes, run_reads, known_a, known_b}
use Rattle.leaving_runs.proofs.RefusedRecords.{record_refused}

fits_at : (leaves : Leaves) (s : Links) (head : Head) → IsAt s head → PacketsFit leaves.out head.own head.peer leaves.packets.own →
    PacketsFit leaves.out s.node s.peer leaves.packets.own
fits_at leaves s head at fits =
    subst (λ (node : ℕ). PacketsFit leaves.out node s.peer leaves.packets.own) (sym at.node)
    (subst (λ (peer : ℕ). PacketsFit leaves.out head.own peer leaves.packets.own) (sym at.peer) fits)

module _ (queues : Queues) (leaves : Leaves) (head_a head_b : Head) (fits_a : PacketsFit leaves.out head_a.own head_a.peer leaves.packets.own)
    (fits_b : PacketsFit (other_out leaves.out) head_b.own head_b.peer leaves.packets.far) (w : World LayersNode LayersUnit)
    (of_a of_b : List Record)
    (records_a : AllByRecursion (RecordFits leaves.out) of_a) (records_b : AllByRecursion (RecordFits (other_out leaves.out)) of_b)
    (run : Run (layers_pair_by queues) (layers_start head_a head_b) of_a of_b w) (r : Record) (refusal : LinkRefusal) where
  -- a run of what is left
  abbrev pub AfterLeft : World LayersNode LayersUnit → Type 0
  AfterLeft left =
      Run (layers_pair_by queues) (layers_start head_a head_b) (map (record_left leaves) of_a) (map (record_left (other_leaves leaves)) of_b) left

  goes : Goes queues leaves head_a head_b fits_a fits_b w of_a of_b
  goes = run_goes queues leaves head_a head_b fits_a fits_b w of_a of_b run records_a records_b

  now : RunLeft queues leaves head_a head_b fits_a fits_b goes.marks w of_a of_b
  now = goes.left goes.marks (record { here = λ n less. refl; there = λ n less. refl })

  pub refused_a : RecordFits leaves.out r → IsJudged leaves.out (of_record w.a w.b r) →
      advance (layers_pair_by queues).node_a w.a w.b r ≡ Refused (OfLinks refusal) →
      (left : World LayersNode LayersUnit) × AfterLeft left
      × (advance (layers_pair_by queues).node_a left.a left.b (record_left leaves r) ≡ Refused (OfLinks refusal))
  refused_a fit here made =
      let c = run_reads queues leaves head_a head_b fits_a fits_b w of_a of_b run in (
        world_left leaves goes.marks w,
        now.run,
        record_refused queues leaves goes.marks w.a w.b now.of_a_side now.of_b_side
            (fits_at leaves w.a.state.station.links head_a goes.a_at fits_a) refusal c.joined.joined.front_a
            (known_a queues leaves head_a head_b fits_a fits_b w of_a of_b c goes) r fit here made,
      )

  pub refused_b : RecordFits (other_out leaves.out) r → IsJudged (other_out leaves.out) (of_record w.b w.a r) →
      advance (layers_pair_by queues).node_b w.b w.a r ≡ Refused (OfLinks refusal) →
      (left : World LayersNode LayersUnit) × AfterLeft left
      × (advance (layers_pair_by queues).node_b left.b left.a (record_left (other_leaves leaves) r) ≡ Refused (OfLinks refusal))
  refused_b fit here made =
      let c = run_reads queues leaves head_a head_b fits_a fits_b w of_a of_b run in (
        world_left leaves goes.marks w,
        now.run,
        record_refused queues (other_leaves leaves) (other_judged goes.marks) w.b w.a now.of_b_side now.of_a_side
            (fits_at (other_leaves leaves) w.b.state.station.links head_b goes.b_at fits_b) refusal c.joined.joined.front_b
            (known_b queues leaves head_a head_b fits_a fits_b w of_a of_b c goes) r fit here made,
      )

-- ---- what the program makes

module _ (queues : Queues) (leaving : Leaving) (head_a head_b : Head) (of_a of_b : List Record) (w : World LayersNode LayersUnit)
    (knows_a : KnowsHead leaving A head_a) (knows_b : KnowsHead leaving B head_b) (records_a : AllByRecursion IsRecord of_a)
    (records_b : AllByRecursion IsRecord of_b) (alike_a : AreAlike leaving A of_a) (alike_b : AreAlike leaving B of_b)
    (run : Run (layers_pair_by queues) (layers_start head_a head_b) of_a of_b w) (r : Record) (is : IsRecord r) (refusal : LinkRefusal) where
  abbrev leaves : Leaves
  leaves = leaves_at leaving A B

  abbrev AfterMade : World LayersNode LayersUnit → Type 0
  AfterMade left =
      Run (layers_pair_by queues) (layers_start head_a head_b) (program.records_left leaving A of_a) (program.records_left leaving B of_b) left

  made_run : (left : World LayersNode LayersUnit) →
      Run (layers_pair_by queues) (layers_start head_a head_b) (map (record_left leaves) of_a) (map (record_left (other_leaves leaves)) of_b) left →
      AfterMade left
  made_run left run =
      subst (λ (xs : List Record). Run (layers_pair_by queues) (layers_start head_a head_b) xs (program.records_left leaving B of_b) left)
      (sym (records_same leaving A B refl refl of_a))
      (subst (λ (ys : List Record). Run (layers_pair_by queues) (layers_start head_a head_b) (map (record_left leaves) of_a) ys left)
      (sym (records_same leaving B A refl refl of_b)) run)

  pub program_refused_a : AreAlike leaving A (r ∷ []) → IsJudged leaves.out (of_record w.a w.b r) →
      advance (layers_pair_by queues).node_a w.a w.b r ≡ Refused (OfLinks refusal) →
      (left : World LayersNode LayersUnit) × AfterMade left
      × (advance (layers_pair_by queues).node_a left.a left.b (program.record_left leaving A r) ≡ Refused (OfLinks refusal))
  program_refused_a alike here made =
      let after = refused_a queues leaves head_a head_b (packets_fit leaving A B refl head_a knows_a)
      (packets_fit leaving B A refl head_b knows_b) w of_a
      of_b (all_fit leaving A B refl refl of_a records_a alike_a) (all_fit leaving B A refl refl of_b records_b alike_b) run r refusal
      (all_fit leaving A B refl refl (r ∷ []) (is, tt) alike).0 here made in (
        after.0,
        made_run after.0 after.1,
        ap (λ (one : Record). advance (layers_pair_by queues).node_a (after.0).a (after.0).b one) (one_same leaving A B refl refl r) ∙ after.2,
      )

  pub program_refused_b : AreAlike leaving B (r ∷ []) → IsJudged (other_out leaves.out) (of_record w.b w.a r) →
      advance (layers_pair_by queues).node_b w.b w.a r ≡ Refused (OfLinks refusal) →
      (left : World LayersNode LayersUnit) × AfterMade left
      × (advance (layers_pair_by queues).node_b left.b left.a (program.record_left leaving B r) ≡ Refused (OfLinks refusal))
  program_refused_b alike here made =
      let after = refused_b queues leaves head_a head_b (packets_fit leaving A B refl head_a knows_a)
      (packets_fit leaving B A refl head_b knows_b) w of_a
      of_b (all_fit leaving A B refl refl of_a records_a alike_a) (all_fit leaving B A refl refl of_b records_b alike_b) run r refusal
      (all_fit leaving B A refl refl (r ∷ []) (is, tt) alike).0 here made in (
        after.0,
        made_run after.0 after.1,
        ap (λ (one : Record). advance (layers_pair_by queues).node_b (after.0).b (after.0).a one) (one_same leaving B A refl refl r) ∙ after.2,
      )
