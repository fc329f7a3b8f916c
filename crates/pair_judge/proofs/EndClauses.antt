-- From what is said of whatever a reader tells to what is said of its bytes.
use Rattle.std.proofs.Common.{◌≡◌, ◌≢◌, ℕ, List, Option, Some, None, Ok, Err, inl, inr, sym, ap, ap₂, ◌∙◌}
use Rattle.std.specs.Option.{IfSome}
use Rattle.std.specs.Prelude.{IfErr}
use Rattle.capture.specs.declared.fault.CaptureFault.TheVariants.{Departs, Failed}
use Rattle.capture_record.specs.declared.record.Record.{Record}
use Rattle.capture.specs.Range.{IsText}
use Rattle.dna_station.specs.declared.head.Head.{Head}
use Rattle.dna_station.specs.Machine.{NodeOf}
use Rattle.dna_node.specs.Alone as alone
use Rattle.pair_judge.specs.declared.end_verdict.Accused.{Accused}
use Rattle.pair_judge.specs.declared.end_verdict.EndVerdict.TheVariants.{Passed, Refused}
use Rattle.pair_judge.specs.declared.reason.Reason.{Reason}
use Rattle.pair_judge.specs.EndJudged.{EndAnswer, IsEndAnswer, IsExactAlone, IsJudgedAlone, IsRefusedAlone, PassesWhole}
use Rattle.pair_judge.specs.EndKind.{EndKind}
use Rattle.pair_judge.specs.Heads.{head_of}
use Rattle.pair_judge.proofs.Clauses.{WholeLaws, read_whole}

module _ (end : EndKind) (laws : WholeLaws) where
  whole : (text : Option (List ℕ)) (answer : EndAnswer) → IsEndAnswer end text answer → IfSome text (λ bytes. PassesWhole end bytes answer)
  whole None answer h = tt
  whole (Some bytes) (Ok (Passed summary)) h = record {
    head = head_of h.read;
    records = h.read.records;
    is_text = read_whole laws bytes h.read h.from h.whole;
    node = h.node;
    passes = h.passes;
    counts = h.counts;
  }
  whole (Some bytes) (Ok (Refused place accused reason)) h = tt
  whole (Some bytes) (Err fault) h = tt

  -- a capture of which a record is refused is none whose records are all made
  not_made : (bytes : List ℕ) (place : ℕ) (accused : Accused) (reason : Reason) → IsRefusedAlone end (Some bytes) place accused reason →
      (head : Head) (records : List Record) (node : NodeOf end.Keeps) → IsText head.own head.peer records bytes →
      end.judged head records ≡ alone.Passed node → ⊥
  not_made bytes place accused reason h head records node is_text passes =
      let goes = laws.goes_on bytes head.own head.peer records h.read is_text h.from in
      let same : head ≡ head_of h.read = ap₂ (λ (o p : ℕ). record { own = o; peer = p }) goes.0 goes.1 in
      let both = sym passes ∙ ap (λ (x : Head). end.judged x records) same ∙ h.refused records goes.2 in
      absurd (cc)

  exact : (text : Option (List ℕ)) (answer : EndAnswer) → IsEndAnswer end text answer → IfSome text (λ bytes. IsExactAlone end bytes answer)
  exact None answer h = tt
  exact (Some bytes) (Ok (Passed summary)) h = λ head records node is_text passes. tt
  exact (Some bytes) (Ok (Refused place accused reason)) h = not_made bytes place accused reason h
  exact (Some bytes) (Err (Departs kind line)) (inl departs) =
      λ head records node is_text passes. laws.head_stands bytes head.own head.peer records kind line is_text departs
  exact (Some bytes) (Err (Departs kind line)) (inr f) =
      λ head records node is_text passes. laws.departs_nowhere bytes head.own head.peer records f.read kind line is_text f.from f.departs
  exact (Some bytes) (Err Failed) h = absurd h
  exact (Some bytes) (Err fault) h = λ head records node is_text passes. tt

  pub judged_alone : (text : Option (List ℕ)) (answer : EndAnswer) → IsEndAnswer end text answer → IsJudgedAlone end text answer
  judged_alone text answer says = record { says = says; passed = whole text answer says; exact = exact text answer says }

-- no answer is that of a reader that failed before
pub not_failed : (end : EndKind) (text : Option (List ℕ)) (answer : EndAnswer) → IsEndAnswer end text answer → IfErr answer (λ fault. fault ≢ Failed)
not_failed end text (Ok verdict) says = tt
not_failed end text (Err Failed) says = absurd says
not_failed end text (Err fault) says = λ e. absurd (cc)
