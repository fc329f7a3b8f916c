-- Of the texts of two captures, in whichever format, one thing is answered.
use Rattle.std.proofs.Common.{◌≡◌, ℕ, List, Some, Ok, Err, sym, ap, ap₂, ◌∙◌}
use Rattle.two_nodes.specs.Nodes.{World}
use Rattle.two_nodes.proofs.Order.{one_end}
use Rattle.wire_base.specs.declared.side.Side.{Side}
use Rattle.capture_record.specs.declared.record.Record.{Record}
use Rattle.capture.specs.Range.{IsText}
use Rattle.dna_node.specs.declared.finding.Finding.TheVariants as findings
use Rattle.dna_station.specs.declared.head.Head.{Head}
use Rattle.dna_node.specs.Kind.{NodeKind, KindNode, KindUnit, kind_pair, IsRunOf}
use Rattle.pair_judge.specs.declared.reason.Reason.{Reason}
use Rattle.pair_judge.specs.declared.summary.SideSummary.{SideSummary}
use Rattle.pair_judge.specs.declared.summary.Summary.{Summary}
use Rattle.pair_judge.specs.declared.verdict.Verdict.{Verdict}
use Rattle.pair_judge.specs.declared.verdict.Verdict.TheVariants.{Accepted, Refused}
use Rattle.pair_judge.specs.declared.fault.JudgeFault.TheVariants.{Capture}
use Rattle.pair_judge.specs.declared.fault.TextFault.TheVariants.{Departs}
use Rattle.pair_judge.specs.Finding.{IsCounted}
use Rattle.pair_judge.specs.Judged.{Answer, AreARun, IsAcceptance, IsAnswer, JudgesOrFails}
use Rattle.pair_judge.specs.Refusal.{AreTexts, IsRefusal, WholeCapture}
use Rattle.pair_judge.specs.Summary.{summary_of}
use Rattle.pair_judge.proofs.Clauses.{WholeLaws, faults_nowhere, refused_captures}
use Rattle.pair_judge.proofs.OneFinding.{one_finding}

-- a text has one head and one list
abbrev pub OneList : Type 0
OneList = (own peer own' peer' : ℕ) (rs ss : List Record) (bytes : List ℕ) → IsText own peer rs bytes → IsText own' peer' ss bytes → (own ≡ own') ×
    (peer ≡ peer') × (rs ≡ ss)

-- what holds of the captures that were read holds of these
at_captures : (P : (head_a head_b : Head) → (of_a of_b : List Record) → Type 0) (own_a peer_a own_b peer_b : ℕ) (of_a of_b : List Record)
    (a b : WholeCapture) → (own_a ≡ a.head.own) × (peer_a ≡ a.head.peer) × (of_a ≡ a.records) →
    (own_b ≡ b.head.own) × (peer_b ≡ b.head.peer) × (of_b ≡ b.records) →
    P (record { own = own_a; peer = peer_a }) (record { own = own_b; peer = peer_b }) of_a of_b → P a.head b.head a.records b.records
at_captures P own_a peer_a own_b peer_b of_a of_b a b same_a same_b holds =
    rw (sym same_a.0, sym same_a.1, sym same_a.2, sym same_b.0, sym same_b.1, sym same_b.2) holds

module _ (nodes : NodeKind) where
  never_accepted : WholeLaws → OneList → (a b : WholeCapture) (bytes_a bytes_b other_a other_b : List ℕ) (side : Side) (place : ℕ) (reason : Reason)
      (summary : Summary) → AreTexts a b bytes_a bytes_b
      → AreTexts a b other_a other_b → IsRefusal nodes (Some bytes_a) (Some bytes_b) side place reason →
      IsAcceptance nodes other_a other_b (Ok (Accepted summary)) → ⊥
  never_accepted laws one a b bytes_a bytes_b other_a other_b side place reason summary here there refusal run =
      (refused_captures nodes laws a b bytes_a bytes_b side place reason here.of_a here.of_b refusal).no_run
      (at_captures (λ head_a head_b of_a of_b. IsRunOf nodes head_a head_b of_a of_b) run.own_a run.peer_a run.own_b run.peer_b run.of_a run.of_b a b
      (one run.own_a run.peer_a a.head.own a.head.peer run.of_a a.records other_a run.is_text_a there.of_a)
      (one run.own_b run.peer_b b.head.own b.head.peer run.of_b b.records other_b run.is_text_b there.of_b)
      run.run)

  -- ---- two acceptances

  pub counted_of : OneList → (a b : WholeCapture) (bytes_a bytes_b : List ℕ) (summary : Summary) → AreTexts a b bytes_a bytes_b →
      AreARun nodes bytes_a bytes_b summary → IsCounted nodes a.head b.head a.records b.records summary
  counted_of one a b bytes_a bytes_b summary here run =
      at_captures (λ head_a head_b of_a of_b. IsCounted nodes head_a head_b of_a of_b summary) run.own_a run.peer_a run.own_b run.peer_b run.of_a
      run.of_b a b
      (one run.own_a run.peer_a a.head.own a.head.peer run.of_a a.records bytes_a run.is_text_a here.of_a)
      (one run.own_b run.peer_b b.head.own b.head.peer run.of_b b.records bytes_b run.is_text_b here.of_b)
      (record { run = run.run; counts_a = run.counts_a; counts_b = run.counts_b })

  -- a run has one end, and one end one summary
  pub same_summary : (head_a head_b : Head) (of_a of_b : List Record) (summary other : Summary) → IsCounted nodes head_a head_b of_a of_b summary →
      IsCounted nodes head_a head_b of_a of_b other → summary ≡ other
  same_summary head_a head_b of_a of_b summary other c d =
      let world : c.run.0 ≡ d.run.0 = one_end (kind_pair nodes) c.run.1 d.run.1 in
      ap₂ (λ (x y : SideSummary). record { a = x; b = y })
      (c.counts_a ∙ ap (λ (w : World (KindNode nodes) (KindUnit nodes)). summary_of nodes w.a.state of_a) world ∙ sym d.counts_a)
      (c.counts_b ∙ ap (λ (w : World (KindNode nodes) (KindUnit nodes)). summary_of nodes w.b.state of_b) world ∙ sym d.counts_b)

  -- ---- two verdicts

  module _ (laws : WholeLaws) (one : OneList) (a b : WholeCapture) (bytes_a bytes_b other_a other_b : List ℕ) where
    same_refusal : (side of : Side) (place at : ℕ) (reason why : Reason) → AreTexts a b bytes_a bytes_b → AreTexts a b other_a other_b →
        IsRefusal nodes (Some bytes_a) (Some bytes_b) side place reason → IsRefusal nodes (Some other_a) (Some other_b) of at why →
        ◌≡◌ {A = Verdict} (Refused side place reason) (Refused of at why)
    same_refusal side of place at reason why here there refusal other =
        let r = refused_captures nodes laws a b bytes_a bytes_b side place reason here.of_a here.of_b refusal in
        let s = refused_captures nodes laws a b other_a other_b of at why there.of_a there.of_b other in
        let same = one_finding nodes a.head b.head a.records b.records (findings.Refused side place r.cause) (findings.Refused of at s.cause)
        (record { verdict = r.verdict; first = r.first }) (record { verdict = s.verdict; first = s.first }) in
        cc (same, r.is_reason, s.is_reason)

    pub same_verdict : (verdict other : Verdict) → AreTexts a b bytes_a bytes_b → AreTexts a b other_a other_b →
        IsAnswer nodes (Some bytes_a) (Some bytes_b) (Ok verdict) → IsAnswer nodes (Some other_a) (Some other_b) (Ok other) → verdict ≡ other
    same_verdict (Accepted summary) (Accepted other) here there x y =
        ap Accepted (same_summary a.head b.head a.records b.records summary other (counted_of one a b bytes_a bytes_b summary here x.accepted)
        (counted_of one a b other_a other_b other there y.accepted))
    same_verdict (Accepted summary) (Refused side place reason) here there x y =
        absurd (never_accepted laws one a b other_a other_b bytes_a bytes_b side place reason summary there here y.refused x.accepted)
    same_verdict (Refused side place reason) (Accepted summary) here there x y =
        absurd (never_accepted laws one a b bytes_a bytes_b other_a other_b side place reason summary here there x.refused y.accepted)
    same_verdict (Refused side place reason) (Refused of at why) here there x y =
        same_refusal side of place at reason why here there x.refused y.refused

  pub judges : WholeLaws → (a b : WholeCapture) (bytes_a bytes_b : List ℕ) (answer : Answer) → AreTexts a b bytes_a bytes_b →
      IsAnswer nodes (Some bytes_a) (Some bytes_b) answer → JudgesOrFails answer
  judges laws a b bytes_a bytes_b (Err (Capture side (Departs kind line))) here is =
      faults_nowhere nodes laws bytes_a bytes_b a.head b.head a.records b.records side kind line here.of_a here.of_b is.faulty
  judges laws a b bytes_a bytes_b answer here is = tt
