-- The records with which most rows begin, of side a and of side b.
use Rattle.dna_rows.proofs.Prelude.{ℕ, List, [], ◌∷◌, ◌++◌, Side, NotKept, Kept, Record, Sent, Received, User, Start, StepRefusal, Step, Finding}
use Rattle.capture_record.specs.declared.event.Event.TheVariants.{Open, Accept}
use Rattle.dna_node.specs.declared.finding.Finding.TheVariants.{Refused}
use Rattle.dna_rows.proofs.Units.{STRT, STACK, ACK, CI, CC, LINK_SERVICE, data_a, data_b}

-- a starts and is in RUNNING; b answers and is in ASTRT
abbrev pub started : List Record
started = User Start ∷ Sent STRT ∷ Received 0 NotKept STACK ∷ []

abbrev pub answered : List Record
answered = User Start ∷ Received 0 NotKept STRT ∷ Sent STACK ∷ []

-- an ACK brings b into RUNNING too
abbrev pub acked_a : List Record
acked_a = started ++ Sent (ACK 0) ∷ []

abbrev pub acked_b : List Record
acked_b = answered ++ Received 1 NotKept (ACK 0) ∷ []

-- a calls from its link 1
abbrev pub called_a : List Record
called_a = started ++ User (Open 1) ∷ Sent (data_a 1 0 (CI 1)) ∷ []

abbrev pub called_b : List Record
called_b = answered ++ Received 1 Kept (data_a 1 0 (CI 1)) ∷ []

-- b accepts at its link 2, and its CC comes
abbrev pub confirmed_a : List Record
confirmed_a = called_a ++ Received 1 Kept (data_b 1 1 (CC 1 2 512)) ∷ []

abbrev pub confirmed_b : List Record
confirmed_b = called_b ++ User (Accept 1 2) ∷ Sent (data_b 1 1 (CC 1 2 512)) ∷ []

-- a link service message brings the link into RUN on b's side too
abbrev pub running_a : List Record
running_a = confirmed_a ++ Sent (data_a 2 1 (LINK_SERVICE 2 1)) ∷ []

abbrev pub running_b : List Record
running_b = confirmed_b ++ Received 2 Kept (data_a 2 1 (LINK_SERVICE 2 1)) ∷ []

-- this record, counted from 0, is refused
abbrev pub refused : Side → (place : ℕ) → StepRefusal → Finding
refused side place refusal = Refused side place (Step refusal)
