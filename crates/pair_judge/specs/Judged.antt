-- What an answer of the judge says of the bytes that its two readers had left.
use Rattle.std.specs.Prelude.{◌≡◌, ℕ, List, Option, Result, Ok, Err, IfSome}
use Rattle.capture_record.specs.declared.record.Record.{Record}
use Rattle.capture.specs.Range.{IsText}
use Rattle.dna_station.specs.declared.head.Head.{Head}
use Rattle.dna_node.specs.Kind.{NodeKind, IsRunOf}
use Rattle.pair_judge.specs.declared.summary.Summary.{Summary}
use Rattle.pair_judge.specs.declared.verdict.Verdict.{Verdict}
use Rattle.pair_judge.specs.declared.verdict.Verdict.TheVariants.{Accepted, Refused}
use Rattle.pair_judge.specs.declared.fault.JudgeFault.{JudgeFault}
use Rattle.pair_judge.specs.declared.fault.JudgeFault.TheVariants.{Capture, OutOfMemory}
use Rattle.pair_judge.specs.declared.fault.TextFault.TheVariants.{Departs, Read}
use Rattle.pair_judge.specs.Faulty.{IsFaultyText}
use Rattle.pair_judge.specs.Refusal.{IsRefusal}
use Rattle.pair_judge.specs.Summary.{summary_of}

module _ (nodes : NodeKind) where
  -- The bytes are the texts of two captures, all of whose records are one run of two nodes of this kind; what was delivered to each is,
  -- in order, of what the other side was offered and handed; and the summary counts the records and the links.
  pub record AreARun (text_a text_b : List ℕ) (summary : Summary) : Type 0 where
    pub own_a : ℕ
    pub peer_a : ℕ
    pub of_a : List Record
    pub own_b : ℕ
    pub peer_b : ℕ
    pub of_b : List Record
    pub is_text_a : IsText own_a peer_a of_a text_a
    pub is_text_b : IsText own_b peer_b of_b text_b
    pub run : IsRunOf nodes (record { own = own_a; peer = peer_a }) (record { own = own_b; peer = peer_b }) of_a of_b
    pub delivers_a : nodes.Delivered run.0.a.state.station run.0.b.state.station of_a of_b
    pub delivers_b : nodes.Delivered run.0.b.state.station run.0.a.state.station of_b of_a
    pub counts_a : summary.a ≡ summary_of nodes run.0.a.state of_a
    pub counts_b : summary.b ≡ summary_of nodes run.0.b.state of_b

-- ---- the clauses of an answer

abbrev pub Answer : Type 0
Answer = Result Verdict JudgeFault

-- an acceptance, or a fault of memory or of a device
abbrev pub AcceptsOrFails : Answer → Type 0
AcceptsOrFails (Ok (Accepted summary)) = Unit {0}
AcceptsOrFails (Ok (Refused side place reason)) = ⊥
AcceptsOrFails (Err (Capture side (Departs kind line))) = ⊥
AcceptsOrFails (Err (Capture side Read)) = Unit {0}
AcceptsOrFails (Err OutOfMemory) = Unit {0}

-- an acceptance with these counts, or such a fault
abbrev pub AcceptsAsOrFails : Summary → Answer → Type 0
AcceptsAsOrFails summary (Ok (Accepted other)) = other ≡ summary
AcceptsAsOrFails summary (Ok (Refused side place reason)) = ⊥
AcceptsAsOrFails summary (Err (Capture side (Departs kind line))) = ⊥
AcceptsAsOrFails summary (Err (Capture side Read)) = Unit {0}
AcceptsAsOrFails summary (Err OutOfMemory) = Unit {0}

-- a verdict, or such a fault
abbrev pub JudgesOrFails : Answer → Type 0
JudgesOrFails (Ok verdict) = Unit {0}
JudgesOrFails (Err (Capture side (Departs kind line))) = ⊥
JudgesOrFails (Err (Capture side Read)) = Unit {0}
JudgesOrFails (Err OutOfMemory) = Unit {0}

-- where both readers tell their bytes
abbrev pub IfTold : Option (List ℕ) → Option (List ℕ) → (List ℕ → List ℕ → Type 0) → Type 0
IfTold text_a text_b says = IfSome text_a (λ bytes_a. IfSome text_b (λ bytes_b. says bytes_a bytes_b))

-- a refusal, or such a fault
abbrev pub RefusesOrFails : Answer → Type 0
RefusesOrFails (Ok (Accepted summary)) = ⊥
RefusesOrFails (Ok (Refused side place reason)) = Unit {0}
RefusesOrFails (Err (Capture side (Departs kind line))) = ⊥
RefusesOrFails (Err (Capture side Read)) = Unit {0}
RefusesOrFails (Err OutOfMemory) = Unit {0}

module _ (nodes : NodeKind) where
  -- Exact: where these bytes are the texts of two captures that are a run, nothing else is answered.
  abbrev pub IsExact : List ℕ → List ℕ → Answer → Type 0
  IsExact bytes_a bytes_b answer =
      (head_a head_b : Head) (of_a of_b : List Record) → IsText head_a.own head_a.peer of_a bytes_a → IsText head_b.own head_b.peer of_b bytes_b
      → IsRunOf nodes head_a head_b of_a of_b → AcceptsOrFails answer

  -- Accepted: the bytes are such texts.
  abbrev pub IsAcceptance : List ℕ → List ℕ → Answer → Type 0
  IsAcceptance bytes_a bytes_b (Ok (Accepted summary)) = AreARun nodes bytes_a bytes_b summary
  IsAcceptance bytes_a bytes_b (Ok (Refused side place reason)) = Unit {0}
  IsAcceptance bytes_a bytes_b (Err fault) = Unit {0}

  -- Refused: of whatever the readers tell.
  abbrev pub IsRefusalWhere : Option (List ℕ) → Option (List ℕ) → Answer → Type 0
  IsRefusalWhere text_a text_b (Ok (Accepted summary)) = Unit {0}
  IsRefusalWhere text_a text_b (Ok (Refused side place reason)) = IsRefusal nodes text_a text_b side place reason
  IsRefusalWhere text_a text_b (Err fault) = Unit {0}

  -- Faulty text: likewise.
  abbrev pub IsFaultyWhere : Option (List ℕ) → Option (List ℕ) → Answer → Type 0
  IsFaultyWhere text_a text_b (Ok verdict) = Unit {0}
  IsFaultyWhere text_a text_b (Err (Capture side (Departs kind line))) = IsFaultyText nodes text_a text_b side kind line
  IsFaultyWhere text_a text_b (Err (Capture side Read)) = Unit {0}
  IsFaultyWhere text_a text_b (Err OutOfMemory) = Unit {0}

  -- All that is said of an answer except the readers' counts
  pub record IsAnswer (text_a text_b : Option (List ℕ)) (answer : Answer) : Type 0 where
    pub exact : IfTold text_a text_b (λ bytes_a bytes_b. IsExact bytes_a bytes_b answer)
    pub accepted : IfTold text_a text_b (λ bytes_a bytes_b. IsAcceptance bytes_a bytes_b answer)
    pub refused : IsRefusalWhere text_a text_b answer
    pub faulty : IsFaultyWhere text_a text_b answer
