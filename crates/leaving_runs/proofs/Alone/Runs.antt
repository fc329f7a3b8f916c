-- What is left of the records of one end that pass alone passes alone.
use Rattle.leaving_runs.proofs.Prelude.{◌≡◌, ℕ, ◌+◌, false, Option, Some, List, [], ◌∷◌, map, refl, sym, ap, ◌∙◌, subst, IfSome, AllByRecursion}
use Rattle.leaving_runs.proofs.Prelude.{IsBytes, ReadingValue, reading, Record, Sent, Received, Noise, User, Head, Queues, WireLayers}
use Rattle.leaving_runs.proofs.Prelude.{WireLayersNode, new_wire_layers_node, StepAlone, Makes, Refuses, step_alone, sent_alone, EndingAlone}
use Rattle.leaving_runs.proofs.Prelude.{Passed, goes_on, ends_from, layers_end_by, Accused, PassesBy, judged_alone_by, LinkRefusal, NspValue}
use Rattle.leaving_runs.proofs.Prelude.{message_in_unit, message_within, packet_of, all_judged, LeftOut, source_of, destination_of, sent_out}
use Rattle.leaving_runs.proofs.Prelude.{MessageBinds, bytes_left, Leaves, record_left, PacketsFit, RecordFits, IsJudged, of_event}
use Rattle.ddcmp_msg.specs.Reading as read_as
use Rattle.dna_node.specs.Alone.{Refused}
use Rattle.dna_station.specs.declared.refusal.StepRefusal.TheVariants.{Links as OfLinks}
use Rattle.leaving_runs.proofs.Bytes.{still_read, within_data}
use Rattle.leaving_runs.proofs.Alone.Layers.{LayersLeft}
use Rattle.leaving_runs.proofs.Alone.Users.{user_left}
use Rattle.leaving_runs.proofs.Alone.Sendings.{sent_left}
use Rattle.leaving_runs.proofs.Alone.Units.{IsJudgedComing, ComesFit, StepLeft, does_left, sends_left, noise_left}
use Rattle.leaving_runs.proofs.Alone.Receipts.{received_left}

-- a CC that came binds too, and a call from address 0
abbrev pub ComesBinding : LeftOut → Record → Type 0
ComesBinding out (Received hint fate unit) = IfSome (message_in_unit unit) (MessageBinds out)
ComesBinding out r = Unit {0}

abbrev pub RecordFitsAlone : LeftOut → Record → Type 0
RecordFitsAlone out r = RecordFits out r × ComesBinding out r

-- what links meet of the record is judged: of a packet that is sent here, and of one that comes at its sender too
abbrev pub IsJudgedHere : LeftOut → Record → Type 0
IsJudgedHere out (Sent unit) = IfSome (message_in_unit unit) (λ m. sent_out out (source_of m) (destination_of m) ≡ false)
IsJudgedHere out (Received hint fate unit) = IfSome (message_in_unit unit) (IsJudgedComing out)
IsJudgedHere out (Noise bytes) = Unit {0}
IsJudgedHere out (User event) = IsJudged out (of_event event)

module _ (queues : Queues) (leaves : Leaves) (node peer : ℕ) (fits : PacketsFit leaves.out node peer leaves.packets.own)
    (far : ComesFit leaves node peer) where
  abbrev Step : (is_judged : Type 0) → StepAlone WireLayers → StepAlone WireLayers → Type 0
  Step is_judged x y = StepLeft queues leaves node peer is_judged x y

  abbrev Layered : WireLayers → WireLayers → Type 0
  Layered s t = LayersLeft queues leaves node peer s t

  -- ---- a record

  module _ (n m : WireLayersNode) (l : Layered n.station m.station) (same : m.front ≡ n.front) where
    sent_by : (bytes : List ℕ) → IsBytes bytes → (r : ReadingValue) → reading bytes ≡ r →
        Step (IsJudgedHere leaves.out (Sent bytes)) (sent_alone (layers_end_by queues) n r)
        (sent_alone (layers_end_by queues) m (reading (bytes_left leaves.packets.own bytes)))
    sent_by bytes is_bytes (read_as.Sound message) read =
        subst (λ (r : ReadingValue). Step (IsJudgedHere leaves.out (Sent bytes)) (sent_alone (layers_end_by queues) n (read_as.Sound message))
        (sent_alone (layers_end_by queues) m r))
        (sym (still_read leaves.packets.own bytes message read (fits.in_range bytes message is_bytes read)))
        (sends_left queues leaves node peer (IsJudgedHere leaves.out (Sent bytes)) n m same _ _
        (sent_left queues leaves node peer n.station m.station l fits bytes is_bytes message read (IsJudgedHere leaves.out (Sent bytes))
        (λ j packet sends held. subst
        (λ (o : Option NspValue). IfSome o (λ x. sent_out leaves.out (source_of x) (destination_of x) ≡ false))
        (ap (λ (r : ReadingValue). message_within (packet_of r)) read ∙ within_data message (Some packet) sends held) j)))
    sent_by bytes is_bytes read_as.HeaderBad read = λ j of. absurd of
    sent_by bytes is_bytes read_as.DataBad read = λ j of. absurd of
    sent_by bytes is_bytes (read_as.Malformed departure) read = λ j of. absurd of

    step_left : (r : Record) → RecordFitsAlone leaves.out r →
        Step (IsJudgedHere leaves.out r) (step_alone (layers_end_by queues) n r) (step_alone (layers_end_by queues) m (record_left leaves r))
    step_left (Sent bytes) is = sent_by bytes is.0.0.spelling.bytes (reading bytes) refl
    step_left (Received hint fate bytes) is =
        received_left queues leaves node peer (IsJudgedHere leaves.out (Received hint fate bytes)) n m l far bytes is.0.0.spelling.bytes (λ j. j) same
        hint fate is.1
    step_left (Noise bytes) is =
        does_left queues leaves node peer (Unit {0}) n m same _ _ (noise_left queues leaves node peer (Unit {0}) n m l (reading bytes))
    step_left (User event) is =
        does_left queues leaves node peer (IsJudged leaves.out (of_event event)) n m same _ _
        (user_left queues leaves node peer n.station m.station l fits event is.0.0 is.0.1)

  -- ---- all records

  -- this is left of the node
  abbrev NodeLeft : WireLayersNode → WireLayersNode → Type 0
  NodeLeft n m = Layered n.station m.station × (m.front ≡ n.front)

  abbrev EndLeft : EndingAlone WireLayers → EndingAlone WireLayers → Type 0
  EndLeft (Passed n) (Passed m) = NodeLeft n m
  EndLeft (Passed n) (Refused place accused reason) = ⊥
  EndLeft (Refused place accused reason) o = Unit {0}

  all_left : (records : List Record) (place : ℕ) (n m : WireLayersNode) → NodeLeft n m → AllByRecursion (RecordFitsAlone leaves.out) records →
      EndLeft (ends_from (layers_end_by queues) n place records) (ends_from (layers_end_by queues) m place (map (record_left leaves) records))
  all_left [] place n m l is = l
  all_left (r ∷ records) place n m l is =
      at (step_alone (layers_end_by queues) n r) (step_alone (layers_end_by queues) m (record_left leaves r)) (step_left n m l.0 l.1 r is.0)
      (λ x y along. all_left records (place + 1) x y along is.1)
    where
      at : (x y : StepAlone WireLayers) → Step (IsJudgedHere leaves.out r) x y →
          ((x y : WireLayersNode) → NodeLeft x y → EndLeft (ends_from (layers_end_by queues) x (place + 1) records)
          (ends_from (layers_end_by queues) y (place + 1) (map (record_left leaves) records))) →
          EndLeft (goes_on x place (λ next. ends_from (layers_end_by queues) next (place + 1) records))
          (goes_on y place (λ next. ends_from (layers_end_by queues) next (place + 1) (map (record_left leaves) records)))
      at (Makes x) (Makes y) along later = later x y along
      at (Makes x) (Refuses accused reason) along later = absurd along
      at (Refuses accused reason) y along later = tt

  passed : (o p : EndingAlone WireLayers) → EndLeft o p → (n : WireLayersNode) → o ≡ Passed n →
      (m : WireLayersNode) × (p ≡ Passed m) × NodeLeft n m
  passed (Passed x) (Passed y) along n e = (y, refl, subst (λ (z : WireLayersNode). NodeLeft z y) (ap node_or e) along)
    where
      node_or : EndingAlone WireLayers → WireLayersNode
      node_or (Passed z) = z
      node_or (Refused place accused reason) = x
  passed (Passed x) (Refused place accused reason) along n e = absurd along
  passed (Refused place accused reason) p along n e = absurd cc

module _ (queues : Queues) (leaves : Leaves) (head : Head) (fits : PacketsFit leaves.out head.own head.peer leaves.packets.own)
    (far : ComesFit leaves head.own head.peer) (records : List Record) (is : AllByRecursion (RecordFitsAlone leaves.out) records)
    (passes : PassesBy queues head records) where
  left_of_end : (m : WireLayersNode) × (judged_alone_by queues head (map (record_left leaves) records) ≡ Passed m)
      × NodeLeft queues leaves head.own head.peer fits far passes.0 m
  left_of_end =
      passed queues leaves head.own head.peer fits far _ _
      (all_left queues leaves head.own head.peer fits far records 0 (new_wire_layers_node head) (new_wire_layers_node head) (
        record {
          station = record { held = []; is = refl; becomes = refl };
          links = record { judged = all_judged; is = refl; fit = λ n l there. absurd cc; node_is = refl; peer_is = refl };
        },
        refl,
      ) is)
      passes.0 passes.1

  pub end_left : PassesBy queues head (map (record_left leaves) records)
  end_left = (left_of_end.0, left_of_end.1)

  -- a judged record that the links refuse behind them
  pub refused_behind : (r : Record) → RecordFitsAlone leaves.out r → IsJudgedHere leaves.out r → (accused : Accused) (refusal : LinkRefusal) →
      step_alone (layers_end_by queues) passes.0 r ≡ Refuses accused (OfLinks refusal) →
      (m : WireLayersNode) × (judged_alone_by queues head (map (record_left leaves) records) ≡ Passed m)
      × (step_alone (layers_end_by queues) m (record_left leaves r) ≡ Refuses accused (OfLinks refusal))
  refused_behind r fit here accused refusal refused =
      let left = left_of_end in (
        left.0,
        left.1,
        subst (λ (x : StepAlone WireLayers). StepLeft queues leaves head.own head.peer (IsJudgedHere leaves.out r) x
            (step_alone (layers_end_by queues) left.0 (record_left leaves r))) refused
            (step_left queues leaves head.own head.peer fits far passes.0 left.0 left.2.0 left.2.1 r fit) here tt,
      )
