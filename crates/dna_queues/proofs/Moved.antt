-- What a link of the machine can send once its phase is past it could send before, and what is left then differs by the same.
use Rattle.dna_queues.proofs.Prelude.{◌≡◌, ℕ, true, ◌||◌, Option, is_none, List, [], ◌∷◌, refl, sym, ap, ◌∙◌, subst, NspValue, DataSegment}
use Rattle.dna_queues.proofs.Prelude.{LinkService, DataAck, OtherDataAck, ConnectAck, NoOperation, DisconnectInitiate, DisconnectConfirm, Phase}
use Rattle.dna_queues.proofs.Prelude.{Port, With, OfRun, passes, Carried, in_use, port_of_waiting, TrueSegments, or_right}
use Rattle.dna_links.specs.LookUps as look
use Rattle.dna_queues.proofs.Goes.{Link, test_of, Goes, Moves, said_as, late_link, wide_link}
use Rattle.dna_queues.proofs.Delivered.{Leaves, given_user, sending_of, late_of, late_still, acks_still}
use Rattle.dna_queues.proofs.{Shapes.goes_shape, Turns.asks, Turns.is_past, Early.CanGo, Early.AreEarly}

pub may_be : (now : Phase) (packet : Carried) (packets : List Carried) → AreEarly now (packet ∷ packets) →
    ((is_none (asks packet.message) || is_past (asks packet.message) now) ≡ true) × AreEarly now packets
may_be now packet [] early = (or_right (is_none (asks packet.message)) _ early, tt)
may_be now packet (next ∷ packets) early = early

-- the link with this port, which waits so, and to whose user this was delivered
abbrev pub moved : Port → Option Phase → List (List ℕ) → ℕ → Link → Link
moved port waits messages pieces l = record l {
  port = port;
  segments = given_user messages pieces l.segments;
  queue = record l.queue { waits = waits };
}

module _ (port : Port) (waits : Option Phase) (messages : List (List ℕ)) (pieces : ℕ) where
  abbrev move : Link → Link
  move l = moved port waits messages pieces l

  -- a test that a message asks for passes by the port before too
  abbrev pub PassesBefore : Link → Type 0
  PassesBefore l = (m : NspValue) → passes (test_of m) (port_of_waiting waits port) ≡ true → passes (test_of m) (in_use With l) ≡ true

  pub record WentBefore (l : Link) (m : NspValue) (y : Link) : Type 0 where
    pub left : Link
    pub goes : Goes l m left
    pub is : y ≡ move left

  before : (l : Link) (m : NspValue) (y x : Link) → PassesBefore l → Goes (move l) m y → Moves m l x → y ≡ move x → WentBefore l m y
  before l m y x passes g moves is = record { left = x; goes = record { passed = passes m g.passed; moves = moves }; is = is }

  given_back : (l : Link) (f : TrueSegments) → Leaves (move l).segments f → f ≡ given_user messages pieces (given_user l.segments.delivered
      l.segments.passed f)
  given_back l f leaves = ap (λ (ms : List (List ℕ)). record f { delivered = ms }) leaves.delivered
      ∙ ap (λ (n : ℕ). record f { delivered = messages; passed = n }) leaves.passed

  pub went_before : (l : Link) (m : NspValue) (y : Link) (now : Phase) → PassesBefore l → (is_none (asks m) || is_past (asks m) now) ≡ true →
      Goes (move l) m y → WentBefore l m y
  went_before l (ConnectAck dst) y now passes may g = before l (ConnectAck dst) y l passes g refl g.moves
  went_before l (DisconnectInitiate dst src reason user_data) y now passes may g = absurd cc
  went_before l (DisconnectConfirm dst src reason) y now passes may g = absurd g.moves
  went_before l (DataSegment segment) y now passes may g =
      let m = g.moves in
      let s = late_still l.queue.gap l.segsize segment (move l).segments m.late m.does in
      let late = late_of l.segments.delivered l.segments.passed m.late in
      before l (DataSegment segment) y (said_as OfRun (late_link l late)) passes g
      (record { run = m.run; late = late; does = s.still l.segments.delivered l.segments.passed; is = refl })
      (m.is ∙ ap (λ (f : TrueSegments). record (said_as OfRun (late_link (move l) m.late)) { segments = f })
      (given_back l m.late.sent.segments s.leaves))
  went_before l (DataAck dst src acks) y now passes may g =
      let m = g.moves in
      let s = acks_still acks (move l).segments m.sent m.does in
      let sent = sending_of l.segments.delivered l.segments.passed m.sent in
      before l (DataAck dst src acks) y (said_as OfRun (wide_link l sent)) passes g
      (record { run = m.run; sent = sent; does = s.still l.segments.delivered l.segments.passed; is = refl })
      (m.is ∙ ap (λ (f : TrueSegments). record (said_as OfRun (wide_link (move l) m.sent)) { segments = f })
      (given_back l m.sent.segments s.leaves))
  went_before l (LinkService interrupt dst src rest) y now passes may g =
      before l _ y (said_as OfRun l) passes g (g.moves.0, refl) g.moves.1
  went_before l (OtherDataAck dst src rest) y now passes may g = before l _ y (said_as OfRun l) passes g (g.moves.0, refl) g.moves.1
  went_before l (NoOperation rest) y now passes may g = absurd g.moves
  went_before l m y now passes may g =
      before l _ y l passes g (g.moves.0, refl) g.moves.1

  module _ (node peer : ℕ) where
    pub gone_before : (packets : List Carried) (l : Link) (now : Phase) (P : Link → Type 0) → PassesBefore l → AreEarly now packets →
        CanGo node peer packets (move l) P → CanGo node peer packets l (λ x. P (move x))
    gone_before [] l now P passes early can = can
    gone_before (packet ∷ packets) l now P passes early can =
        let e = may_be now packet packets early in
        let w = went_before l packet.message can.1 now passes e.0 can.2 in (
          can.0,
          w.left,
          w.goes,
          gone_before packets w.left now P
              (λ m passed. subst (λ (x : Link). passes_use m x) (sym (goes_shape l w.left packet.message w.goes).is) (passes m passed)) e.1
              (subst (λ (x : Link). CanGo node peer packets x P) w.is can.3),
        )
      where
        passes_use : NspValue → Link → Type 0
        passes_use m x = look.passes (test_of m) (in_use With x) ≡ true
