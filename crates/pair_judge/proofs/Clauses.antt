-- From what was found of two texts to the clauses of an answer.
use Rattle.std.proofs.Common.{◌≡◌, ◌≢◌, ℕ, ◌<◌, List, [], length, Option, Some, None, Ok, Err, inl, inr, refl, sym, ap₂, subst, append-nil}
use Rattle.std.proofs.lemmas.Option.{slice_get_within}
use Rattle.wire_base.specs.Side.{other_side}
use Rattle.wire_base.specs.declared.side.Side.{Side}
use Rattle.wire_base.specs.declared.side.Side.TheVariants.{A, B}
use Rattle.capture.specs.declared.fault.Departure.{Departure}
use Rattle.capture_record.specs.declared.record.Record.{Record}
use Rattle.capture.specs.declared.hint.HintForm.{HintForm}
use Rattle.capture.specs.Range.{IsText}
use Rattle.capture.specs.SoFar.{Behind, ToCome, TheEnd, ReadSoFar, so_far, IsReadSoFar, GoesOn, GoesOnBy, DepartsBehind, HeadDepartsAt}
use Rattle.two_nodes.specs.Nodes.{World}
use Rattle.dna_node.specs.declared.finding.Cause.{Cause}
use Rattle.dna_node.specs.declared.finding.Cause.TheVariants.{Step, NoSuchUnit, NoOrder}
use Rattle.dna_node.specs.declared.finding.Finding.{Finding}
use Rattle.dna_node.specs.declared.finding.Finding.TheVariants as findings
use Rattle.dna_station.specs.declared.head.Head.{Head}
use Rattle.dna_node.specs.Kind.{NodeKind, KindNode, KindUnit, kind_start, IsRunOf}
use Rattle.dna_node.specs.Verdict.{IsVerdict, IsWrong}
use Rattle.pair_judge.specs.declared.judging.Found.{Found}
use Rattle.pair_judge.specs.declared.summary.Summary.{Summary}
use Rattle.pair_judge.specs.declared.fault.JudgeFault.{JudgeFault}
use Rattle.pair_judge.specs.declared.fault.JudgeFault.TheVariants.{Capture}
use Rattle.pair_judge.specs.declared.fault.TextFault.TheVariants.{Departs}
use Rattle.pair_judge.specs.declared.reason.Reason.{Reason}
use Rattle.pair_judge.specs.declared.reason.Reason.TheVariants as reasons
use Rattle.pair_judge.specs.inner.Answer.{answer_of, verdict_of}
use Rattle.pair_judge.specs.inner.Delivering.{DeliversInOrder}
use Rattle.pair_judge.specs.Heads.{head_of}
use Rattle.pair_judge.specs.Finding.{EndsFor, EndsWhere, IsCounted, IsFinding, IsFoundIn, IsFindingBehind, of_side}
use Rattle.pair_judge.specs.Faulty.{IsFaultyText, IsJudgeFault}
use Rattle.pair_judge.specs.Reason.{reason_of}
use Rattle.pair_judge.specs.Refusal.{AreRefused, IsRefusal, OffendsFor, WholeCapture}
use Rattle.pair_judge.specs.Judged.{AcceptsOrFails, AreARun, IfTold, IsAcceptance, IsAnswer, IsExact, IsFaultyWhere, IsRefusalWhere}
use Rattle.pair_judge.proofs.OneFinding.{of_b_wrong}
use Rattle.pair_judge.proofs.Found.{at_heads}

-- the laws of whole texts
pub record WholeLaws : Type 0 where
  pub ended : (bytes : List ℕ) (form : HintForm) (own peer : ℕ) (rs : List Record) → IsReadSoFar (Some bytes) (so_far form own peer rs TheEnd) →
      IsText own peer rs bytes
  pub goes_on : (bytes : List ℕ) (own peer : ℕ) (rs : List Record) (read : ReadSoFar) → IsText own peer rs bytes → IsReadSoFar (Some bytes) read →
      (own ≡ read.own) × (peer ≡ read.peer) × GoesOn read rs
  pub departs_nowhere : (bytes : List ℕ) (own peer : ℕ) (rs : List Record) (read : ReadSoFar) (kind : Departure) (line : ℕ) →
      IsText own peer rs bytes → IsReadSoFar (Some bytes) read → DepartsBehind read kind line → ⊥
  pub head_stands : (bytes : List ℕ) (own peer : ℕ) (rs : List Record) (kind : Departure) (line : ℕ) → IsText own peer rs bytes →
      HeadDepartsAt (Some bytes) kind line → ⊥

-- to its end it is a whole text
pub read_whole : (laws : WholeLaws) (bytes : List ℕ) (read : ReadSoFar) → IsReadSoFar (Some bytes) read → read.behind ≡ TheEnd →
    IsText read.own read.peer read.records bytes
read_whole laws bytes read from is =
    laws.ended bytes read.form read.own read.peer read.records
    (subst (λ (b : Behind). IsReadSoFar (Some bytes) (so_far read.form read.own read.peer read.records b)) is from)

module _ (nodes : NodeKind) where
  -- ---- of two known texts of captures

  same_head : (head : Head) (read : ReadSoFar) → head.own ≡ read.own → head.peer ≡ read.peer → head ≡ head_of read
  same_head head read own peer = ap₂ (λ (o p : ℕ). record { own = o; peer = p }) own peer

  -- what is the finding behind what was read is that of these captures
  pub finding_on : (laws : WholeLaws) (bytes_a bytes_b : List ℕ) (head_a head_b : Head) (of_a of_b : List Record) (read_a read_b : ReadSoFar)
      (finding : Finding)
      → IsText head_a.own head_a.peer of_a bytes_a → IsText head_b.own head_b.peer of_b bytes_b → IsReadSoFar (Some bytes_a) read_a →
      IsReadSoFar (Some bytes_b) read_b
      → IsFindingBehind nodes read_a read_b finding → IsFinding nodes head_a head_b of_a of_b finding
  finding_on laws bytes_a bytes_b head_a head_b of_a of_b read_a read_b finding is_a is_b from_a from_b behind =
      let x = laws.goes_on bytes_a head_a.own head_a.peer of_a read_a is_a from_a in
      let y = laws.goes_on bytes_b head_b.own head_b.peer of_b read_b is_b from_b in
      at_heads nodes (head_of read_a) (head_of read_b) head_a head_b of_a of_b finding (same_head head_a read_a x.0 x.1) (same_head head_b read_b
      y.0 y.1)
      (behind of_a of_b x.2 y.2)

  no_run : (head_a head_b : Head) (of_a of_b : List Record) (side : Side) (place : ℕ) (cause : Cause) →
      IsVerdict nodes head_a head_b of_a of_b (findings.Refused side place cause) → ¬ IsRunOf nodes head_a head_b of_a of_b
  no_run head_a head_b of_a of_b A place cause v = v.0
  no_run head_a head_b of_a of_b B place cause v = v.0

  -- ---- exact

  pub exact_of_found : (laws : WholeLaws) (text_a text_b : Option (List ℕ)) (found : Found) → IsFoundIn nodes text_a text_b found →
      IfTold text_a text_b (λ bytes_a bytes_b. IsExact nodes bytes_a bytes_b (Ok (verdict_of found)))
  exact_of_found laws None text_b found f = tt
  exact_of_found laws (Some bytes_a) None found f = tt
  exact_of_found laws (Some bytes_a) (Some bytes_b) found f = λ head_a head_b of_a of_b is_a is_b run.
      by_finding found.finding found.summary head_a head_b of_a of_b run
      (finding_on laws bytes_a bytes_b head_a head_b of_a of_b f.read_a f.read_b found.finding is_a is_b f.from_a f.from_b f.finding).verdict
    where
      by_finding : (finding : Finding) (summary : Summary) (head_a head_b : Head) (of_a of_b : List Record) → IsRunOf nodes head_a head_b of_a of_b →
          IsVerdict nodes head_a head_b of_a of_b finding → AcceptsOrFails (Ok (answer_of finding summary))
      by_finding findings.Accepted summary head_a head_b of_a of_b run v = tt
      by_finding (findings.Refused side place cause) summary head_a head_b of_a of_b run v = no_run head_a head_b of_a of_b side place cause v run

  -- no line of such a text departs
  pub faults_nowhere : (laws : WholeLaws) (bytes_a bytes_b : List ℕ) (head_a head_b : Head) (of_a of_b : List Record) (side : Side) (kind : Departure)
      (line : ℕ)
      → IsText head_a.own head_a.peer of_a bytes_a → IsText head_b.own head_b.peer of_b bytes_b → IsFaultyText nodes (Some bytes_a) (Some bytes_b)
      side kind
      line → ⊥
  faults_nowhere laws bytes_a bytes_b head_a head_b of_a of_b A kind line is_a is_b (inl head) =
      laws.head_stands bytes_a head_a.own head_a.peer of_a kind line is_a head
  faults_nowhere laws bytes_a bytes_b head_a head_b of_a of_b B kind line is_a is_b (inl head) =
      laws.head_stands bytes_b head_b.own head_b.peer of_b kind line is_b head
  faults_nowhere laws bytes_a bytes_b head_a head_b of_a of_b A kind line is_a is_b (inr f) =
      laws.departs_nowhere bytes_a head_a.own head_a.peer of_a f.read_a kind line is_a f.from_a f.departs
  faults_nowhere laws bytes_a bytes_b head_a head_b of_a of_b B kind line is_a is_b (inr f) =
      laws.departs_nowhere bytes_b head_b.own head_b.peer of_b f.read_b kind line is_b f.from_b f.departs

  pub exact_of_fault : (laws : WholeLaws) (text_a text_b : Option (List ℕ)) (fault : JudgeFault) → IsJudgeFault nodes text_a text_b fault →
      IfTold text_a text_b (λ bytes_a bytes_b. IsExact nodes bytes_a bytes_b (Err fault))
  exact_of_fault laws None text_b fault f = tt
  exact_of_fault laws (Some bytes_a) None fault f = tt
  exact_of_fault laws (Some bytes_a) (Some bytes_b) (Capture side (Departs kind line)) f =
      λ head_a head_b of_a of_b is_a is_b run. faults_nowhere laws bytes_a bytes_b head_a head_b of_a of_b side kind line is_a is_b f
  exact_of_fault laws (Some bytes_a) (Some bytes_b) fault f = λ head_a head_b of_a of_b is_a is_b run. tt

  -- ---- accepted

  -- what was read goes on by nothing
  goes_nowhere : (read : ReadSoFar) → GoesOn read read.records
  goes_nowhere read = by_rest read.behind
    where
      by_rest : (behind : Behind) → GoesOnBy behind read.records read.records
      by_rest (ToCome bytes) = ([], sym (append-nil read.records))
      by_rest TheEnd = refl

  module _ (laws : WholeLaws) (runs : DeliversInOrder nodes) (bytes_a bytes_b : List ℕ) (read_a read_b : ReadSoFar)
      (from_a : IsReadSoFar (Some bytes_a) read_a)
      (from_b : IsReadSoFar (Some bytes_b) read_b) where
    are_a_run : (summary : Summary) → read_a.behind ≡ TheEnd → read_b.behind ≡ TheEnd → IsCounted nodes (head_of read_a) (head_of read_b)
        read_a.records
        read_b.records summary → AreARun nodes bytes_a bytes_b summary
    are_a_run summary end_a end_b counted = record {
      own_a = read_a.own;
      peer_a = read_a.peer;
      of_a = read_a.records;
      own_b = read_b.own;
      peer_b = read_b.peer;
      of_b = read_b.records;
      is_text_a = read_whole laws bytes_a read_a from_a end_a;
      is_text_b = read_whole laws bytes_b read_b from_b end_b;
      run = counted.run;
      delivers_a = runs.of_a (head_of read_a) (head_of read_b) counted.run.0 read_a.records read_b.records counted.run.1;
      delivers_b = runs.of_b (head_of read_a) (head_of read_b) counted.run.0 read_a.records read_b.records counted.run.1;
      counts_a = counted.counts_a;
      counts_b = counted.counts_b;
    }

    accepted_by : (finding : Finding) (summary : Summary) → EndsWhere finding read_a.behind read_b.behind →
        (finding ≡ findings.Accepted → IsCounted nodes (head_of read_a) (head_of read_b) read_a.records read_b.records summary) →
        IsAcceptance nodes bytes_a bytes_b (Ok (answer_of finding summary))
    accepted_by findings.Accepted summary ends counts = are_a_run summary ends.0 ends.1 (counts refl)
    accepted_by (findings.Refused side place cause) summary ends counts = tt

  pub accepted_of_found : (laws : WholeLaws) (runs : DeliversInOrder nodes) (text_a text_b : Option (List ℕ)) (found : Found) →
      IsFoundIn nodes text_a text_b found →
      IfTold text_a text_b (λ bytes_a bytes_b. IsAcceptance nodes bytes_a bytes_b (Ok (verdict_of found)))
  accepted_of_found laws runs None text_b found f = tt
  accepted_of_found laws runs (Some bytes_a) None found f = tt
  accepted_of_found laws runs (Some bytes_a) (Some bytes_b) found f =
      accepted_by laws runs bytes_a bytes_b f.read_a f.read_b f.from_a f.from_b found.finding found.summary f.ends f.counts

  -- ---- refused

  -- the named record is there
  is_wrong_within : (start : World (KindNode nodes) (KindUnit nodes)) (own other : List Record) (place : ℕ) (cause : Cause) →
      IsWrong nodes start own other place cause →
      place < length own
  is_wrong_within start own other place (Step refusal) w = slice_get_within own place w.offender w.place
  is_wrong_within start own other place NoSuchUnit w = slice_get_within own place w.missing.waiting w.missing.is_here
  is_wrong_within start own other place NoOrder w = slice_get_within own place w.1.missing_a.waiting w.1.missing_a.is_here

  named_within : (head_a head_b : Head) (of_a of_b : List Record) (side : Side) (place : ℕ) (cause : Cause) →
      IsVerdict nodes head_a head_b of_a of_b (findings.Refused side place cause) → place < length (of_side side of_a of_b)
  named_within head_a head_b of_a of_b A place cause v = is_wrong_within (kind_start nodes head_a head_b) of_a of_b place cause v.1
  named_within head_a head_b of_a of_b B place cause v =
      is_wrong_within (kind_start nodes head_b head_a) of_b of_a place cause (of_b_wrong nodes head_a head_b of_a of_b place cause v.1)

  ends_for : (side : Side) (place : ℕ) (cause : Cause) (behind_a behind_b : Behind) → EndsWhere (findings.Refused side place cause) behind_a
      behind_b →
      EndsFor cause (of_side (other_side side) behind_a behind_b)
  ends_for A place cause behind_a behind_b ends = ends
  ends_for B place cause behind_a behind_b ends = ends

  refused_by : (text_a text_b : Option (List ℕ)) (read_a read_b : ReadSoFar) → IsReadSoFar text_a read_a → IsReadSoFar text_b read_b →
      (finding : Finding) (summary : Summary) → IsFindingBehind nodes read_a read_b finding → EndsWhere finding read_a.behind read_b.behind →
      IsRefusalWhere nodes text_a text_b (Ok (answer_of finding summary))
  refused_by text_a text_b read_a read_b from_a from_b findings.Accepted summary behind ends = tt
  refused_by text_a text_b read_a read_b from_a from_b (findings.Refused side place cause) summary behind ends = record {
    read_a = read_a;
    read_b = read_b;
    from_a = from_a;
    from_b = from_b;
    named = named_within (head_of read_a) (head_of read_b) read_a.records read_b.records side place cause
        (behind read_a.records read_b.records (goes_nowhere read_a) (goes_nowhere read_b)).verdict;
    cause = cause;
    is_reason = refl;
    ends = ends_for side place cause read_a.behind read_b.behind ends;
    finding = behind;
  }

  pub refused_of_found : (text_a text_b : Option (List ℕ)) (found : Found) → IsFoundIn nodes text_a text_b found →
      IsRefusalWhere nodes text_a text_b (Ok (verdict_of found))
  refused_of_found text_a text_b found f = refused_by text_a text_b f.read_a f.read_b f.from_a f.from_b found.finding found.summary f.finding f.ends

  -- ---- an answer

  pub answer_of_found : (laws : WholeLaws) (runs : DeliversInOrder nodes) (text_a text_b : Option (List ℕ)) (found : Found) →
      IsFoundIn nodes text_a text_b found → IsAnswer nodes text_a text_b (Ok (verdict_of found))
  answer_of_found laws runs text_a text_b found f = record {
    exact = exact_of_found laws text_a text_b found f;
    accepted = accepted_of_found laws runs text_a text_b found f;
    refused = refused_of_found text_a text_b found f;
    faulty = tt;
  }

  pub answer_of_fault : (laws : WholeLaws) (text_a text_b : Option (List ℕ)) (fault : JudgeFault) → IsJudgeFault nodes text_a text_b fault →
      IsAnswer nodes text_a text_b (Err fault)
  answer_of_fault laws text_a text_b fault f = record {
    exact = exact_of_fault laws text_a text_b fault f;
    accepted = not_accepted text_a text_b;
    refused = tt;
    faulty = faulty_by fault f;
  }
    where
      not_accepted : (text_a text_b : Option (List ℕ)) → IfTold text_a text_b (λ bytes_a bytes_b. IsAcceptance nodes bytes_a bytes_b (Err fault))
      not_accepted None text_b = tt
      not_accepted (Some bytes_a) None = tt
      not_accepted (Some bytes_a) (Some bytes_b) = tt

      faulty_by : (fault : JudgeFault) → IsJudgeFault nodes text_a text_b fault → IsFaultyWhere nodes text_a text_b (Err fault)
      faulty_by (Capture side (Departs kind line)) f = f
      faulty_by fault f = tt

  -- ---- of two whole captures

  offends_for : (a b : WholeCapture) (side : Side) (place : ℕ) (reason : Reason) (cause : Cause) → reason ≡ reason_of cause →
      IsVerdict nodes a.head b.head a.records b.records (findings.Refused side place cause) → reason ≢ reasons.NoSuchUnit → reason ≢ reasons.NoOrder →
      OffendsFor nodes a b side place reason
  offends_for a b A place reason (Step refusal) is v unit order = record { refusal = refusal; is_reason = is; offends = v.1 }
  offends_for a b B place reason (Step refusal) is v unit order = record { refusal = refusal; is_reason = is; offends = v.1 }
  offends_for a b side place reason NoSuchUnit is v unit order = absurd (unit is)
  offends_for a b side place reason NoOrder is v unit order = absurd (order is)

  pub refused_captures : (laws : WholeLaws) (a b : WholeCapture) (bytes_a bytes_b : List ℕ) (side : Side) (place : ℕ) (reason : Reason)
      → IsText a.head.own a.head.peer a.records bytes_a → IsText b.head.own b.head.peer b.records bytes_b →
      IsRefusal nodes (Some bytes_a) (Some bytes_b) side
      place reason → AreRefused nodes a b side place reason
  refused_captures laws a b bytes_a bytes_b side place reason is_a is_b r =
      let f = finding_on laws bytes_a bytes_b a.head b.head a.records b.records r.read_a r.read_b (findings.Refused side place r.cause) is_a is_b
      r.from_a r.from_b r.finding in
      record {
        no_run = no_run a.head b.head a.records b.records side place r.cause f.verdict;
        cause = r.cause;
        is_reason = r.is_reason;
        verdict = f.verdict;
        first = f.first;
        offends = offends_for a b side place reason r.cause r.is_reason f.verdict;
      }
