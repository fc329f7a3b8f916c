-- What a sending leaves as it is, and all that waits to be sent of a link.
use Rattle.dna_queues.proofs.Prelude.{◌≡◌, ℕ, Option, None, List, [], ◌∷◌, ◌++◌, refl, sym, ap, subst, arith, NspValue, DataSegment, DataAck}
use Rattle.dna_queues.proofs.Prelude.{ConnectAck, NoOperation, ConnectInitiate, ConnectConfirm, DisconnectInitiate, DisconnectConfirm, IsInRange}
use Rattle.dna_queues.proofs.Prelude.{Said, OfRun, Disconnect, wider, in_order, IsAnswered, TrueSegments, highest_received, went_on, SentMessage}
use Rattle.dna_queues.proofs.{Words.Grown, Words.Carries, Segments.late_grows, Segments.acks_grow}
use Rattle.dna_queues.proofs.Goes.{Link, said_as, late_link, wide_link, Goes, Grows, Same, same_itself, same_on, goes_too}

-- ---- what a sending leaves as it is

kept_same : (l x x' : Link) → x ≡ x' → Same l x' → Same l x
kept_same l x x' is s = subst (Same l) (sym is) s

said_same : (l k : Link) (said : Said) → Same l k → Same l (said_as said k)
said_same l k said s = assumption s

carried_same : (l : Link) (f : TrueSegments) (gap : ℕ) → Carries l.segments f →
    Same l (record l { segments = f; queue = record l.queue { gap = gap } })
carried_same l f gap c =
    record { port = refl; partner = refl; segsize = refl; waits = refl; ran = refl; accepted = refl; segments = c }

-- these segments are no less than themselves
pub grown_itself : (f : TrueSegments) → IsAnswered f → Grown None f f
grown_itself f answered =
    record { given = refl; last = refl; received = omega arith; acknowledged = omega arith; unsent = refl; answered = answered }

-- nor is a link
pub grows_itself : (l : Link) → IsAnswered l.segments → Grows None l l
grows_itself l answered = let segments = grown_itself l.segments answered in assumption segments

pub goes_same : (l x : Link) (m : NspValue) → IsAnswered l.segments → IsInRange m → Goes l m x → Same l x
goes_same l x (ConnectInitiate retransmitted src services info segsize user_data) answered small g = kept_same l x l g.moves.1 (same_itself l)
goes_same l x (ConnectAck dst) answered small g = kept_same l x l g.moves (same_itself l)
goes_same l x (ConnectConfirm dst src services info segsize user_data) answered small g = kept_same l x l g.moves.1 (same_itself l)
goes_same l x (DisconnectInitiate dst src reason user_data) answered small g =
    kept_same l x (said_as Disconnect l) g.moves.1 (said_same l l Disconnect (same_itself l))
goes_same l x (DisconnectConfirm dst src reason) answered small g = absurd g.moves
goes_same l x (DataSegment segment) answered small g =
    let m = g.moves in
    let r = late_grows None l.segments l.segments (grown_itself l.segments answered) l.queue.gap l.segsize segment m.late small.0 m.does in
    kept_same l x (said_as OfRun (late_link l m.late)) m.is
    (said_same l (late_link l m.late) OfRun (carried_same l m.late.sent.segments m.late.gap r.carries))
goes_same l x (DataAck dst src acks) answered small g =
    let m = g.moves in
    let r = acks_grow None l.segments l.segments (grown_itself l.segments answered) acks m.sent small.0 m.does in
    kept_same l x (said_as OfRun (wide_link l m.sent)) m.is
    (said_same l (wide_link l m.sent) OfRun
    (carried_same l m.sent.segments (wider l.queue.gap (went_on l.segments m.sent.segments)) r.carries))
goes_same l x (NoOperation rest) answered small g = absurd g.moves
goes_same l x m answered small g = kept_same l x (said_as OfRun l) g.moves.1 (said_same l l OfRun (same_itself l))

pub same_answered : (l x : Link) → Same l x → IsAnswered l.segments → IsAnswered x.segments
same_answered l x s answered =
    let got : highest_received x.segments ≡ highest_received l.segments = ap in_order s.segments.received in
    let last = s.segments.last in omega (arith, got, last, answered)

-- ---- all that waits

-- these can go one after another, and what then is left is so
abbrev pub CanSend : List SentMessage → Link → (Link → Type 0) → Type 0
CanSend [] l P = P l
CanSend (unit ∷ units) l P = IsInRange unit.packet.message × (x : Link) × Goes l unit.packet.message x × CanSend units x P

pub can_more : (units : List SentMessage) (l : Link) (P Q : Link → Type 0) → IsAnswered l.segments → CanSend units l P →
    ((e : Link) → Same l e → P e → Q e) → CanSend units l Q
can_more [] l P Q answered can f = f l (same_itself l) can
can_more (unit ∷ units) l P Q answered can f =
    let s = goes_same l can.1 unit.packet.message answered can.0 can.2 in (
      can.0,
      can.1,
      can.2,
      can_more units can.1 P Q (same_answered l can.1 s answered) can.3 (λ e same p. f e (same_on l can.1 e s same) p),
    )

pub can_push : (units : List SentMessage) (unit : SentMessage) (l : Link) (P Q : Link → Type 0) → CanSend units l P →
    ((e : Link) → P e → CanSend (unit ∷ []) e Q) → CanSend (units ++ unit ∷ []) l Q
can_push [] unit l P Q can f = f l can
can_push (first ∷ units) unit l P Q can f = (can.0, can.1, can.2, can_push units unit can.1 P Q can.3 f)

pub can_grow : (more : Option (List ℕ)) (units : List SentMessage) (l k : Link) (P Q : Link → Type 0) → Grows more l k → CanSend units l P →
    ((e f : Link) → Grows more e f → P e → Q f) → CanSend units k Q
can_grow more [] l k P Q grows can f = f l k grows can
can_grow more (unit ∷ units) l k P Q grows can f =
    let g = goes_too more l k grows unit.packet.message can.1 can.0 can.2 in
    (can.0, g.left, g.goes, can_grow more units can.1 g.left P Q g.further can.3 f)
