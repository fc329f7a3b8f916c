-- What a link of the machine may send it may also send once it has come further, and it is then further again.
use Rattle.dna_queues.proofs.Prelude.{◌≡◌, ℕ, ◌-◌, Bool, true, false, not, ◌&&◌, Option, Some, None, List, Ok, refl, sym, ap, ap₂, ◌∙◌, subst}
use Rattle.dna_queues.proofs.Prelude.{arith, and_parts, AckWord, SegmentValue, NspValue, DataSegment, LinkService, DataAck, OtherDataAck}
use Rattle.dna_queues.proofs.Prelude.{ConnectAck, NoOperation, ConnectInitiate, ConnectConfirm, DisconnectInitiate, DisconnectConfirm, IsInRange}
use Rattle.dna_queues.proofs.Prelude.{Phase, Calling, Called, Confirming, Running, Disconnecting, LinkTest, HasAddress, TheLink, OpenedAt, BegunBy}
use Rattle.dna_queues.proofs.Prelude.{With, Said, Nothing, OfRun, Disconnect, passes, is_in, is_live, is_called, is_at, has_both, Sending, Late}
use Rattle.dna_queues.proofs.Prelude.{wider, LinkOf, is_silent, is_over, further, in_use, may_send, port_of_waiting, TrueSegments, Numbers}
use Rattle.dna_queues.proofs.Prelude.{sends_late, sends_acks, went_on, Port}
use Rattle.dna_queues.proofs.{Words.Grown, Words.Carries, Segments.late_grows, Segments.acks_grow}

abbrev pub Link : Type 0
Link = LinkOf TrueSegments

-- the phase in use
abbrev pub phase_of : Link → Phase
phase_of l = (in_use With l).phase

abbrev pub said_as : Said → Link → Link
said_as said l = record l { queue = record l.queue { said = further said l.queue.said } }

abbrev pub late_link : Link → Late TrueSegments Numbers → Link
late_link l late = record l { segments = late.sent.segments; queue = record l.queue { gap = late.gap } }

abbrev pub wide_link : Link → Sending TrueSegments Numbers → Link
wide_link l sent =
    record l { segments = sent.segments; queue = record l.queue { gap = wider l.queue.gap (went_on l.segments sent.segments) } }

-- ---- a message that a link may send

abbrev pub test_of : NspValue → LinkTest
test_of (ConnectInitiate retransmitted src services info segsize user_data) = OpenedAt src
test_of (ConnectAck dst) = BegunBy dst
test_of (ConnectConfirm dst src services info segsize user_data) = TheLink src dst
test_of (DisconnectInitiate dst src reason user_data) = TheLink src dst
test_of (DisconnectConfirm dst src reason) = TheLink src dst
test_of (DataSegment segment) = TheLink segment.srcaddr segment.dstaddr
test_of (DataAck dst src acks) = TheLink src dst
test_of (LinkService interrupt dst src rest) = TheLink src dst
test_of (OtherDataAck dst src rest) = TheLink src dst
test_of (NoOperation rest) = HasAddress 0

pub record MovesSegment (segment : SegmentValue) (l x : Link) : Type 0 where
  pub run : may_send With Running l ≡ true
  pub late : Late TrueSegments Numbers
  pub does : sends_late l.queue.gap l.segsize segment l.segments ≡ Ok late
  pub is : x ≡ said_as OfRun (late_link l late)

pub record MovesAcks (acks : List AckWord) (l x : Link) : Type 0 where
  pub run : may_send With Running l ≡ true
  pub sent : Sending TrueSegments Numbers
  pub does : sends_acks acks l.segments ≡ Ok sent
  pub is : x ≡ said_as OfRun (wide_link l sent)

abbrev pub Moves : NspValue → Link → Link → Type 0
Moves (ConnectInitiate retransmitted src services info segsize user_data) l x = (may_send With Calling l ≡ true) × (x ≡ l)
Moves (ConnectAck dst) l x = x ≡ l
Moves (ConnectConfirm dst src services info segsize user_data) l x = (may_send With Confirming l ≡ true) × (x ≡ l)
Moves (DisconnectInitiate dst src reason user_data) l x = (may_send With Disconnecting l ≡ true) × (x ≡ said_as Disconnect l)
Moves (DisconnectConfirm dst src reason) l x = ⊥
Moves (DataSegment segment) l x = MovesSegment segment l x
Moves (DataAck dst src acks) l x = MovesAcks acks l x
Moves (LinkService interrupt dst src rest) l x = (may_send With Running l ≡ true) × (x ≡ said_as OfRun l)
Moves (OtherDataAck dst src rest) l x = (may_send With Running l ≡ true) × (x ≡ said_as OfRun l)
Moves (NoOperation rest) l x = ⊥

pub record Goes (l : Link) (m : NspValue) (x : Link) : Type 0 where
  pub passed : passes (test_of m) (in_use With l) ≡ true
  pub moves : Moves m l x

-- ---- a link that has come further

pub record Grows (more : Option (List ℕ)) (l k : Link) : Type 0 where
  pub own : (n : ℕ) → is_at l.port.own n ≡ true → is_at k.port.own n ≡ true
  pub far : (n : ℕ) → is_at l.port.far n ≡ true → is_at k.port.far n ≡ true
  pub opened : k.port.opened ≡ l.port.opened
  pub usable : is_live (phase_of l) ≡ true → is_live (phase_of k) ≡ true
  pub closing : is_in Disconnecting (phase_of l) ≡ true → is_in Disconnecting (phase_of k) ≡ true
  pub ran : l.queue.ran ≡ true → k.queue.ran ≡ true
  pub accepted : l.queue.accepted ≡ true → k.queue.accepted ≡ true
  pub silent : is_silent l.queue.said ≡ true → is_silent k.queue.said ≡ true
  pub over : is_over l.queue.said ≡ false → is_over k.queue.said ≡ false
  pub gap : k.queue.gap ≡ l.queue.gap
  pub segsize : l.queue.ran ≡ true → k.segsize ≡ l.segsize
  pub segments : Grown more l.segments k.segments

-- what a sending leaves as it is
pub record Same (l x : Link) : Type 0 where
  pub port : x.port ≡ l.port
  pub partner : x.partner ≡ l.partner
  pub segsize : x.segsize ≡ l.segsize
  pub waits : x.queue.waits ≡ l.queue.waits
  pub ran : x.queue.ran ≡ l.queue.ran
  pub accepted : x.queue.accepted ≡ l.queue.accepted
  pub segments : Carries l.segments x.segments

pub same_itself : (l : Link) → Same l l
same_itself l = record {
  port = refl;
  partner = refl;
  segsize = refl;
  waits = refl;
  ran = refl;
  accepted = refl;
  segments = record { received = refl; acknowledged = refl; passed = refl; last = omega arith };
}

pub same_on : (l x y : Link) → Same l x → Same x y → Same l y
same_on l x y a b = record {
  port = b.port ∙ a.port;
  partner = b.partner ∙ a.partner;
  segsize = b.segsize ∙ a.segsize;
  waits = b.waits ∙ a.waits;
  ran = b.ran ∙ a.ran;
  accepted = b.accepted ∙ a.accepted;
  segments = record {
    received = b.segments.received ∙ a.segments.received;
    acknowledged = b.segments.acknowledged ∙ a.segments.acknowledged;
    passed = b.segments.passed ∙ a.segments.passed;
    last = let p = a.segments.last in let q = b.segments.last in omega (arith, p, q);
  };
}

-- ---- ports in use

-- but for the phase it is the link's port
pub use_port : (waits : Option Phase) (p : Port) (phase : Phase) → record (port_of_waiting waits p) { phase = phase } ≡ record p { phase = phase }
use_port None p phase = refl
use_port (Some now) p phase = refl

pub use_own : (l : Link) → (in_use With l).own ≡ l.port.own
use_own l = ap (λ (p : Port). p.own) (use_port l.queue.waits l.port l.port.phase)

pub use_far : (l : Link) → (in_use With l).far ≡ l.port.far
use_far l = ap (λ (p : Port). p.far) (use_port l.queue.waits l.port l.port.phase)

pub use_opened : (l : Link) → (in_use With l).opened ≡ l.port.opened
use_opened l = ap (λ (p : Port). p.opened) (use_port l.queue.waits l.port l.port.phase)

-- ---- ports at the node

-- of a call that was given up nothing waits there: it is over
abbrev pub at_node : Option Phase → Option Phase
at_node (Some Called) = None
at_node waits = waits

abbrev pub node_port : Link → Port
node_port l = port_of_waiting (at_node l.queue.waits) l.port

pub node_own : (l : Link) → (node_port l).own ≡ l.port.own
node_own l = ap (λ (p : Port). p.own) (use_port (at_node l.queue.waits) l.port l.port.phase)

pub at_node_some : (w : Option Phase) (p : Phase) → at_node w ≡ Some p → w ≡ Some p
at_node_some None p e = e
at_node_some (Some Called) p e = absurd cc
at_node_some (Some phase) p e = e

pub at_node_same : (p : Phase) → is_called p ≡ false → at_node (Some p) ≡ Some p
at_node_same Called e = absurd cc
at_node_same p e = refl

-- any other link is there by its port in use
pub node_use : (l : Link) → (l.queue.waits ≡ Some Called → ⊥) → node_port l ≡ in_use With l
node_use l not_called = go l.queue.waits not_called
  where
    go : (w : Option Phase) → (w ≡ Some Called → ⊥) → port_of_waiting (at_node w) l.port ≡ port_of_waiting w l.port
    go None e = refl
    go (Some Called) e = absurd (e refl)
    go (Some p) e = refl

pub uncalled_use : (l : Link) → is_called (phase_of l) ≡ false → node_port l ≡ in_use With l
uncalled_use l uncalled = node_use l (λ e. let x : true ≡ false =
    sym (ap (λ (w : Option Phase). is_called (port_of_waiting w l.port).phase) e) ∙ uncalled in absurd cc)

-- ---- what is said

said_less : (a s t : Said) → (is_silent s ≡ true → is_silent t ≡ true) → (is_over s ≡ false → is_over t ≡ false) →
    (is_silent (further a s) ≡ true → is_silent (further a t) ≡ true) × (is_over (further a s) ≡ false → is_over (further a t) ≡ false)
said_less Nothing s t silent over = (silent, over)
said_less Disconnect s t silent over = (λ e. absurd cc, λ e. absurd cc)
said_less OfRun s t silent over = (of_silent s, of_over s t over)
  where
    of_silent : (s : Said) → is_silent (further OfRun s) ≡ true → is_silent (further OfRun t) ≡ true
    of_silent Nothing e = absurd cc
    of_silent OfRun e = absurd cc
    of_silent Disconnect e = absurd cc

    of_over : (s t : Said) → (is_over s ≡ false → is_over t ≡ false) → is_over (further OfRun s) ≡ false → is_over (further OfRun t) ≡ false
    of_over s Nothing over e = refl
    of_over s OfRun over e = refl
    of_over Nothing Disconnect over e = let x = over refl in absurd cc
    of_over OfRun Disconnect over e = let x = over refl in absurd cc
    of_over Disconnect Disconnect over e = absurd cc

-- ---- the step

module _ (more : Option (List ℕ)) (l k : Link) (grows : Grows more l k) where
  link_grows : (own far : ℕ) → passes (TheLink own far) (in_use With l) ≡ true → passes (TheLink own far) (in_use With k) ≡ true
  link_grows own far e =
      let a = and_parts (is_live (phase_of l)) (has_both (in_use With l) own far) e in
      let b = and_parts (is_at (in_use With l).own own) (is_at (in_use With l).far far) a.1 in
      ap₂ (λ (x y : Bool). x && y) (grows.usable a.0)
      (ap₂ (λ (x y : Bool). x && y)
      (ap (λ (o : Option ℕ). is_at o own) (use_own k) ∙ grows.own own (ap (λ (o : Option ℕ). is_at o own) (sym (use_own l)) ∙ b.0))
      (ap (λ (o : Option ℕ). is_at o far) (use_far k) ∙ grows.far far (ap (λ (o : Option ℕ). is_at o far) (sym (use_far l)) ∙ b.1)))

  opened_grows : (own : ℕ) → passes (OpenedAt own) (in_use With l) ≡ true → passes (OpenedAt own) (in_use With k) ≡ true
  opened_grows own e =
      let a = and_parts (is_live (phase_of l)) ((in_use With l).opened && is_at (in_use With l).own own) e in
      let b = and_parts (in_use With l).opened (is_at (in_use With l).own own) a.1 in
      ap₂ (λ (x y : Bool). x && y) (grows.usable a.0)
      (ap₂ (λ (x y : Bool). x && y) (use_opened k ∙ grows.opened ∙ sym (use_opened l) ∙ b.0)
      (ap (λ (o : Option ℕ). is_at o own) (use_own k) ∙ grows.own own (ap (λ (o : Option ℕ). is_at o own) (sym (use_own l)) ∙ b.1)))

  begun_grows : (far : ℕ) → passes (BegunBy far) (in_use With l) ≡ true → passes (BegunBy far) (in_use With k) ≡ true
  begun_grows far e =
      let a = and_parts (is_live (phase_of l)) (not (in_use With l).opened && is_at (in_use With l).far far) e in
      let b = and_parts (not (in_use With l).opened) (is_at (in_use With l).far far) a.1 in
      ap₂ (λ (x y : Bool). x && y) (grows.usable a.0)
      (ap₂ (λ (x y : Bool). x && y) (ap not (use_opened k ∙ grows.opened ∙ sym (use_opened l)) ∙ b.0)
      (ap (λ (o : Option ℕ). is_at o far) (use_far k) ∙ grows.far far (ap (λ (o : Option ℕ). is_at o far) (sym (use_far l)) ∙ b.1)))

  run_grows : may_send With Running l ≡ true → may_send With Running k ≡ true
  run_grows e =
      let a = and_parts l.queue.ran (not (is_over l.queue.said)) e in
      ap₂ (λ (x y : Bool). x && y) (grows.ran a.0) (ap not (grows.over (is_not l.queue.said a.1)))
    where
      is_not : (s : Said) → not (is_over s) ≡ true → is_over s ≡ false
      is_not Nothing e = refl
      is_not OfRun e = refl
      is_not Disconnect e = absurd cc

  confirm_grows : may_send With Confirming l ≡ true → may_send With Confirming k ≡ true
  confirm_grows e =
      let a = and_parts l.queue.accepted (is_silent l.queue.said) e in ap₂ (λ (x y : Bool). x && y) (grows.accepted a.0) (grows.silent a.1)

  said_grows : (said : Said) → Grows more (said_as said l) (said_as said k)
  said_grows said =
      let s = said_less said l.queue.said k.queue.said grows.silent grows.over in assumption (s, grows)

  pub record GoesToo (m : NspValue) (x : Link) : Type 0 where
    pub left : Link
    pub goes : Goes k m left
    pub further : Grows more x left

  too : (m : NspValue) (x x' left : Link) → x ≡ x' → passes (test_of m) (in_use With k) ≡ true → Moves m k left → Grows more x' left → GoesToo m x
  too m x x' left is passed moves g =
      record { left = left; goes = record { passed = passed; moves = moves }; further = subst (λ (y : Link). Grows more y left) (sym is) g }

  pub goes_too : (m : NspValue) (x : Link) → IsInRange m → Goes l m x → GoesToo m x
  goes_too (ConnectInitiate retransmitted src services info segsize user_data) x small g =
      too _ x l k g.moves.1 (opened_grows src g.passed) (grows.silent g.moves.0, refl) grows
  goes_too (ConnectAck dst) x small g = too _ x l k g.moves (begun_grows dst g.passed) refl grows
  goes_too (ConnectConfirm dst src services info segsize user_data) x small g =
      too _ x l k g.moves.1 (link_grows src dst g.passed) (confirm_grows g.moves.0, refl) grows
  goes_too (DisconnectInitiate dst src reason user_data) x small g =
      too _ x (said_as Disconnect l) (said_as Disconnect k) g.moves.1 (link_grows src dst g.passed) (
        grows.closing g.moves.0,
        refl,
      ) (said_grows Disconnect)
  goes_too (DataSegment segment) x small g =
      let m = g.moves in
      let ran = (and_parts l.queue.ran (not (is_over l.queue.said)) m.run).0 in
      let r = late_grows more l.segments k.segments grows.segments l.queue.gap l.segsize segment m.late small.0 m.does in
      let s = said_grows OfRun in
      too (DataSegment segment) x (said_as OfRun (late_link l m.late)) (said_as OfRun (late_link k r.made)) m.is
      (link_grows segment.srcaddr segment.dstaddr g.passed)
      (record {
        run = run_grows m.run;
        late = r.made;
        does = ap₂ (λ (gap size : ℕ). sends_late gap size segment k.segments) grows.gap (grows.segsize ran) ∙ r.is;
        is = refl;
      })
      (assumption (r, s))
  goes_too (DataAck dst src acks) x small g =
      let m = g.moves in
      let r = acks_grow more l.segments k.segments grows.segments acks m.sent small.0 m.does in
      let s = said_grows OfRun in
      let gap = ap₂ wider grows.gap (ap₂ (λ (a b : ℕ). a - b) r.grows.last grows.segments.last) in
      too (DataAck dst src acks) x (said_as OfRun (wide_link l m.sent)) (said_as OfRun (wide_link k r.made)) m.is (link_grows src dst g.passed)
      (record { run = run_grows m.run; sent = r.made; does = r.is; is = refl })
      (assumption (r, gap, s))
  goes_too (LinkService interrupt dst src rest) x small g =
      too _ x (said_as OfRun l) (said_as OfRun k) g.moves.1 (link_grows src dst g.passed) (run_grows g.moves.0, refl) (said_grows OfRun)
  goes_too (OtherDataAck dst src rest) x small g =
      too _ x (said_as OfRun l) (said_as OfRun k) g.moves.1 (link_grows src dst g.passed) (run_grows g.moves.0, refl) (said_grows OfRun)
  goes_too m x small g = absurd g.moves
