-- What is answered where neither side has a record that can be made.
use Rattle.std.proofs.Common.{◌≡◌, ℕ, ◌+◌, ◌≤◌, ◌^◌, List, [], length, Option, refl, sym, subst}
use Rattle.std.proofs.Common.{arith, length-append, append-nil}
use Rattle.capture.specs.declared.limit.TheConstants.{MAX_RECORDS}
use Rattle.capture_record.specs.declared.record.Record.{Record}
use Rattle.dna_node.specs.declared.finding.Finding.{Finding}
use Rattle.dna_node.specs.declared.finding.Finding.TheVariants.{Accepted, Refused}
use Rattle.pair_judge.specs.Summary.{HasRoomFor, counts_of}
use Rattle.part_judge.specs.Ends.{HasRoomInPart}
use Rattle.part_judge.proofs.PartWalk.{low_higher, room_for}
use Rattle.part_pair.specs.declared.course.Ahead.TheVariants.{Ended}
use Rattle.part_pair.specs.declared.course.Course.{Course}
use Rattle.part_pair.specs.declared.turn.AfterTurn.TheVariants.{Ends}
use Rattle.part_pair.specs.Courses.{NoneLeft}
use Rattle.part_pair.specs.Judged.{AreAccepted, VerdictSays}
use Rattle.part_pair.specs.inner.Answer.{alone_of, answer_of}
use Rattle.part_pair.specs.inner.Ends.{side_of}
use Rattle.part_pair.specs.inner.Tracks.{Both, HaveEnded, IsRead, TurnIs, along, read_of, records_read, waiting}

pub few : (text come : Option (List ℕ)) (course : Course) (made : List Record) → IsRead (along text course come made) → length made ≤ MAX_RECORDS
few text come course made h = omega (arith, h.few, length-append made (waiting course.capture.bytes course.ahead))

-- no count overflows
pub room : (text come : Option (List ℕ)) (course : Course) (made : List Record) → IsRead (along text course come made) → HasRoomInPart course.side.end
room text come course made h =
    let most = few text come course made h in
    record {
      counts = subst HasRoomFor (sym h.counts) (room_for made (omega (arith, most)));
      station = low_higher (1024 + length made) (2 ^ 63) (omega (arith, most)) course.side.end.station h.low;
    }

-- all that was read of an ended one was made
ended_counts : (text come : Option (List ℕ)) (course : Course) (made : List Record) → IsRead (along text course come made) → course.ahead ≡ Ended →
    course.side.end.counts ≡ counts_of (records_read (along text course come made))
ended_counts text come course made h is = rw (is, append-nil made) h.counts

accepted : (both : Both) → HaveEnded both →
    AreAccepted both.text_a both.text_b (record { a = both.a.side.end.counts; b = both.b.side.end.counts }) (alone_of both.a both.b)
accepted both e = record {
  read = record {
    a_is_part = both.a.side.is_part;
    b_is_part = both.b.side.is_part;
    read_a = read_of (along both.text_a both.a both.come_a e.made_a);
    read_b = read_of (along both.text_b both.b both.come_b e.made_b);
    from_a = e.under_way.read_a.so_far;
    from_b = e.under_way.read_b.so_far;
  };
  whole_a = rw e.a_ends refl;
  whole_b = rw e.b_ends refl;
  a = side_of both.a.side;
  b = side_of both.b.side;
  made = rw (e.a_ends, e.b_ends) (e.under_way.leads [] [] _ (rw e.a_ends refl) (rw e.b_ends refl)
      (NoneLeft (side_of both.a.side) (side_of both.b.side)));
  counts_a = ended_counts both.text_a both.come_a both.a e.made_a e.under_way.read_a e.a_ends;
  counts_b = ended_counts both.text_b both.come_b both.b e.made_b e.under_way.read_b e.b_ends;
  alone_is = refl;
}

pub answered : (finding : Finding) (both : Both) (made : ℕ) → TurnIs (Ends finding) both made →
    VerdictSays both.text_a both.text_b (answer_of finding both.a both.b).alone (answer_of finding both.a both.b).verdict
answered Accepted both made found = accepted both found
answered (Refused side place cause) both made found = (record { cause = cause; is_reason = refl; refused = found }, refl)
