-- A reader's fault, beside what was read before it, is a departure of the text; and what was made by then is a run.
use Rattle.std.proofs.Common.{◌≡◌, ℕ, List, ◌++◌, inr, refl, sym, ap, subst, ◌∙◌, append-nil}
use Rattle.wire_base.specs.declared.side.Side.TheVariants.{A, B}
use Rattle.wire_base.specs.declared.side.Side.{Side}
use Rattle.capture.specs.declared.fault.CaptureFault.{CaptureFault}
use Rattle.capture.specs.declared.fault.CaptureFault.TheVariants.{Departs}
use Rattle.capture_record.specs.declared.record.Record.{Record}
use Rattle.capture.specs.declared.fault.Departure.{Departure}
use Rattle.capture.specs.SoFar.{DepartsBehind}
use Rattle.dna_station.specs.declared.head.Head.{Head}
use Rattle.dna_node.specs.Kind.{NodeKind, IsRunOf}
use Rattle.pair_judge.specs.declared.course.Ahead.{Ahead}
use Rattle.pair_judge.specs.declared.course.Ahead.TheVariants.{Unread}
use Rattle.pair_judge.specs.Heads.{head_of}
use Rattle.pair_judge.specs.Finding.{of_side}
use Rattle.pair_judge.specs.inner.Course.{IsFaultOf, IsRead, Track, read_of, waiting}
use Rattle.pair_judge.specs.Faulty.{IsFaultyText, IsJudgeFault, side_fault_of}

-- ---- records

all_made : (bytes : List ℕ) (ahead : Ahead) (made : List Record) → ahead ≡ Unread → made ≡ made ++ waiting bytes ahead
all_made bytes ahead made is = sym (ap (λ (x : Ahead). made ++ waiting bytes x) is ∙ append-nil made)

module _ (nodes : NodeKind) where
  -- the run so far, with the heads that were read
  run_of_heads : (a b : Track) → IsRead a → IsRead b → IsRunOf nodes a.course.end.head b.course.end.head a.made b.made →
      IsRunOf nodes (head_of (read_of a)) (head_of (read_of b)) a.made b.made
  run_of_heads a b read_a read_b run =
      subst (λ (h : Head). IsRunOf nodes (head_of (read_of a)) h a.made b.made) read_b.head
      (subst (λ (h : Head). IsRunOf nodes h b.course.end.head a.made b.made) read_a.head run)

  module _ (a b : Track) (read_a : IsRead a) (read_b : IsRead b) (run : IsRunOf nodes a.course.end.head b.course.end.head a.made b.made) where
    -- the line behind all records of this side departs
    departed : (side : Side) (kind : Departure) (line : ℕ) → DepartsBehind (of_side side (read_of a) (read_of b)) kind line →
        of_side side a.made b.made ≡ (of_side side (read_of a) (read_of b)).records → IsFaultyText nodes a.text b.text side kind line
    departed side kind line departs all_before = inr (record {
      read_a = read_of a;
      read_b = read_of b;
      from_a = read_a.so_far;
      from_b = read_b.so_far;
      departs = departs;
      made_a = a.made;
      made_b = b.made;
      begins_a = (waiting a.course.capture.bytes a.course.ahead, refl);
      begins_b = (waiting b.course.capture.bytes b.course.ahead, refl);
      all_before = all_before;
      run = run_of_heads a b read_a read_b run;
    })

    pub faulty : (side : Side) (fault : CaptureFault) → IsFaultOf (of_side side a b) fault → IsJudgeFault nodes a.text b.text (side_fault_of side
        fault)
    faulty A (Departs kind line) is = departed A kind line is.1 (all_made a.course.capture.bytes a.course.ahead a.made is.0)
    faulty B (Departs kind line) is = departed B kind line is.1 (all_made b.course.capture.bytes b.course.ahead b.made is.0)
    faulty side fault is = tt
