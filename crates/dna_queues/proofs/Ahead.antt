-- What a link comes to once what waits for it is acted on, beside the link of the machine.
use Rattle.dna_queues.proofs.Prelude.{◌≡◌, ℕ, ◌-◌, ◌≤◌, Bool, true, false, ◌||◌, Option, Some, None, List, [], ◌∷◌, refl, sym, ap, ◌∙◌, arith, cond}
use Rattle.dna_queues.proofs.Prelude.{and_parts, SegmentValue, NspValue, DataSegment, LinkService, DataAck, OtherDataAck, ConnectAck, NoOperation}
use Rattle.dna_queues.proofs.Prelude.{ConnectInitiate, ConnectConfirm, DisconnectInitiate, DisconnectConfirm, Phase, Calling, Called, Confirming}
use Rattle.dna_queues.proofs.Prelude.{Running, Disconnecting, Ended, Port, TheLink, CallingAt, ActedOn, passes, is_in, is_live, is_at, is_calling}
use Rattle.dna_queues.proofs.Prelude.{is_connected, has_both, Piece, piece_of, hold, LinkTruth, Numbers, SentMessage, AreAtMost}
use Rattle.dna_queues.proofs.{Facts.not_both, Goes.Link, Goes.phase_of}
use Rattle.dna_queues.proofs.Pieces.{Below, below_on, below_hold}

-- what is seen of a link in what comes for it; `used` is the phase in which it ended, else its own
pub record Seen : Type 0 where
  pub port : Port
  pub partner : Option ℕ
  pub segsize : ℕ
  pub received : List (Option Piece)
  pub used : Phase

-- ---- one packet

abbrev pub confirmed_if : Bool → (far size : ℕ) → Option ℕ → Seen → Seen
confirmed_if b far size partner a =
    cond b (record a { port = record a.port { phase = Running; far = Some far }; partner = partner; segsize = size; used = Running }) a

abbrev pub ended_if : Bool → Seen → Seen
ended_if b a = cond b (record a { port = record a.port { phase = Ended } }) a

abbrev pub ran_if : Bool → Seen → Seen
ran_if b a = cond b (record a { port = record a.port { phase = Running }; used = Running }) a

abbrev pub taken_if : Bool → SegmentValue → Numbers → Seen → Seen
taken_if b s known a =
    cond b (record a { port = record a.port { phase = Running }; used = Running; received = hold (known.segment - 1) (piece_of s) a.received }) a

abbrev pub acted_as : NspValue → LinkTruth Numbers → Seen → Seen
acted_as (ConnectConfirm dst src services info segsize user_data) truth a =
    confirmed_if (passes (CallingAt dst) a.port) src segsize truth.tag.link a
acted_as (DisconnectInitiate dst src reason user_data) truth a = ended_if (passes (TheLink dst src) a.port || passes (CallingAt dst) a.port) a
acted_as (DisconnectConfirm dst src reason) truth a = ended_if (passes (TheLink dst src) a.port || passes (CallingAt dst) a.port) a
acted_as (DataSegment s) truth a = taken_if (passes (ActedOn s.dstaddr s.srcaddr) a.port) s truth.known a
acted_as (DataAck dst src acks) truth a = ran_if (passes (ActedOn dst src) a.port) a
acted_as (LinkService interrupt dst src rest) truth a = ran_if (passes (ActedOn dst src) a.port) a
acted_as (OtherDataAck dst src rest) truth a = ran_if (passes (ActedOn dst src) a.port) a
acted_as m truth a = a

abbrev pub acted : SentMessage → Seen → Seen
acted unit a = acted_as unit.packet.message unit.truth a

-- whether its acknowledgements are taken
abbrev pub takes_numbers : NspValue → Port → Bool
takes_numbers (DataSegment s) port = passes (ActedOn s.dstaddr s.srcaddr) port
takes_numbers (DataAck dst src acks) port = passes (ActedOn dst src) port
takes_numbers m port = false

abbrev pub AreTaken : SentMessage → Port → Link → Type 0
AreTaken unit port l =
    takes_numbers unit.packet.message port ≡ true → AreAtMost l.segments.acknowledged unit.truth.known.acknowledgements

-- ---- all that waits

-- a link that may yet take something
abbrev pub is_open : Phase → Bool
is_open Disconnecting = false
is_open Ended = false
is_open phase = true

pub record Meets (a : Seen) (l : Link) : Type 0 where
  pub port : a.port ≡ l.port
  pub partner : a.partner ≡ l.partner
  pub segsize : a.segsize ≡ l.segsize
  pub received : Below a.received l.segments.received
  pub exact : is_open l.port.phase ≡ true → a.received ≡ l.segments.received
  pub used : is_live (phase_of l) ≡ true → a.used ≡ phase_of l

abbrev pub Ahead : List SentMessage → Seen → Link → Type 0
Ahead [] a l = Meets a l
Ahead (unit ∷ units) a l = AreTaken unit a.port l × Ahead units (acted unit a) l

pub at_most_more : (low high : ℕ) (numbers : List ℕ) → low ≤ high → AreAtMost low numbers → AreAtMost high numbers
at_most_more low high [] more a = tt
at_most_more low high (number ∷ numbers) more a = let b = a.0 in (omega (arith, b, more), at_most_more low high numbers more a.1)

-- the machine's link changes, and is met as before
pub ahead_still : (units : List SentMessage) (a : Seen) (l k : Link) → l.segments.acknowledged ≤ k.segments.acknowledged →
    ((b : Seen) → Meets b l → Meets b k) → Ahead units a l → Ahead units a k
ahead_still [] a l k more still ahead = still a ahead
ahead_still (unit ∷ units) a l k more still ahead = (
  λ taken. at_most_more l.segments.acknowledged k.segments.acknowledged _ more (ahead.0 taken),
  ahead_still units (acted unit a) l k more still ahead.1,
)

-- ---- which way a link goes

-- a link in the first of these phases may come to the second by what comes
abbrev pub later : Phase → Phase → Bool
later Calling Calling = true
later Calling Running = true
later Called Called = true
later Confirming Confirming = true
later Confirming Running = true
later Running Running = true
later Disconnecting Disconnecting = true
later Ended phase = true
later phase other = false

later_itself : (p : Phase) → later p p ≡ true
later_itself Calling = refl
later_itself p = refl

later_run : (p q : Phase) → later p Running ≡ true → later Running q ≡ true → later p q ≡ true
later_run p Running a b = a
later_run p q a b = absurd cc

pub record IsFresh (a : Seen) : Type 0 where
  pub calling : is_calling a.port.phase ≡ true → a.port.far ≡ None
  pub used : is_live a.port.phase ≡ true → a.used ≡ a.port.phase

pub record Behind (a : Seen) (l : Link) : Type 0 where
  pub own : a.port.own ≡ l.port.own
  pub opened : a.port.opened ≡ l.port.opened
  pub far : (n : ℕ) → is_at a.port.far n ≡ true → is_at l.port.far n ≡ true
  pub used : is_live (phase_of l) ≡ true → later a.used (phase_of l) ≡ true
  pub segsize : is_calling a.port.phase ≡ false → a.segsize ≡ l.segsize
  pub received : Below a.received l.segments.received

calling_is : (p : Phase) → is_in Calling p ≡ true → p ≡ Calling
calling_is Calling e = refl
calling_is p e = absurd cc

pub none_at : (o : Option ℕ) (n : ℕ) → o ≡ None → is_at o n ≡ true → ⊥
none_at None n e at = absurd cc
none_at (Some k) n e at = absurd cc

connected_run : (p : Phase) → is_connected p ≡ true → (later p Running ≡ true) × (is_live p ≡ true) × (is_calling p ≡ false)
connected_run Confirming e = (refl, refl, refl)
connected_run Running e = (refl, refl, refl)
connected_run p e = absurd cc

module _ (a : Seen) (l : Link) (fresh : IsFresh a) where
  confirmed_behind : (b : Bool) (dst far size : ℕ) (partner : Option ℕ) → passes (CallingAt dst) a.port ≡ b →
      Behind (confirmed_if b far size partner a) l → Behind a l
  confirmed_behind false dst far size partner e behind = behind
  confirmed_behind true dst far size partner e behind =
      let p = and_parts (is_in Calling a.port.phase) (is_at a.port.own dst) e in
      let calling = calling_is a.port.phase p.0 in
      let used : a.used ≡ Calling = fresh.used (ap is_live calling) ∙ calling in
      record {
        own = behind.own;
        opened = behind.opened;
        far = λ n at. absurd (none_at a.port.far n (fresh.calling p.0) at);
        used = λ live. later_run a.used (phase_of l) (ap (λ (q : Phase). later q Running) used) (behind.used live);
        segsize = λ none. absurd (not_both (is_calling a.port.phase) p.0 none);
        received = behind.received;
      }

  ended_behind : (b : Bool) → Behind (ended_if b a) l → Behind a l
  ended_behind false behind = behind
  ended_behind true behind =
      let segsize : is_calling a.port.phase ≡ false → a.segsize ≡ l.segsize = λ none. behind.segsize refl in assumption (segsize, behind)

  ran_behind : (own far : ℕ) (b : Bool) → passes (ActedOn own far) a.port ≡ b → Behind (ran_if b a) l → Behind a l
  ran_behind own far false e behind = behind
  ran_behind own far true e behind =
      let c = connected_run a.port.phase (and_parts (is_connected a.port.phase) (has_both a.port own far) e).0 in
      record {
        own = behind.own;
        opened = behind.opened;
        far = behind.far;
        used = λ live. later_run a.used (phase_of l) (ap (λ (q : Phase). later q Running) (fresh.used c.1) ∙ c.0) (behind.used live);
        segsize = λ none. behind.segsize refl;
        received = behind.received;
      }

  taken_behind : (s : SegmentValue) (known : Numbers) (own far : ℕ) (b : Bool) → passes (ActedOn own far) a.port ≡ b →
      Behind (taken_if b s known a) l →
      Behind a l
  taken_behind s known own far false e behind = behind
  taken_behind s known own far true e behind =
      let c = connected_run a.port.phase (and_parts (is_connected a.port.phase) (has_both a.port own far) e).0 in
      record {
        own = behind.own;
        opened = behind.opened;
        far = behind.far;
        used = λ live. later_run a.used (phase_of l) (ap (λ (q : Phase). later q Running) (fresh.used c.1) ∙ c.0) (behind.used live);
        segsize = λ none. behind.segsize refl;
        received = below_on a.received (hold (known.segment - 1) (piece_of s) a.received) l.segments.received
            (below_hold (known.segment - 1) (piece_of s) a.received) behind.received;
      }

  pub acted_behind : (m : NspValue) (truth : LinkTruth Numbers) → Behind (acted_as m truth a) l → Behind a l
  acted_behind (ConnectConfirm dst src services info segsize user_data) truth behind =
      confirmed_behind _ dst src segsize truth.tag.link refl behind
  acted_behind (DisconnectInitiate dst src reason user_data) truth behind =
      ended_behind (passes (TheLink dst src) a.port || passes (CallingAt dst) a.port) behind
  acted_behind (DisconnectConfirm dst src reason) truth behind =
      ended_behind (passes (TheLink dst src) a.port || passes (CallingAt dst) a.port) behind
  acted_behind (DataSegment s) truth behind = taken_behind s truth.known s.dstaddr s.srcaddr _ refl behind
  acted_behind (DataAck dst src acks) truth behind = ran_behind dst src _ refl behind
  acted_behind (LinkService interrupt dst src rest) truth behind = ran_behind dst src _ refl behind
  acted_behind (OtherDataAck dst src rest) truth behind = ran_behind dst src _ refl behind
  acted_behind m truth behind = behind

-- ---- a link is as fresh as before once something was acted on

module _ (a : Seen) (fresh : IsFresh a) where
  confirmed_fresh : (b : Bool) (far size : ℕ) (partner : Option ℕ) → IsFresh (confirmed_if b far size partner a)
  confirmed_fresh true far size partner = record { calling = λ e. absurd cc; used = λ e. refl }
  confirmed_fresh false far size partner = fresh

  ended_fresh : (b : Bool) → IsFresh (ended_if b a)
  ended_fresh true = record { calling = λ e. absurd cc; used = λ e. absurd cc }
  ended_fresh false = fresh

  ran_fresh : (b : Bool) → IsFresh (ran_if b a)
  ran_fresh true = record { calling = λ e. absurd cc; used = λ e. refl }
  ran_fresh false = fresh

  taken_fresh : (b : Bool) (s : SegmentValue) (known : Numbers) → IsFresh (taken_if b s known a)
  taken_fresh true s known = record { calling = λ e. absurd cc; used = λ e. refl }
  taken_fresh false s known = fresh

  pub acted_fresh : (m : NspValue) (truth : LinkTruth Numbers) → IsFresh (acted_as m truth a)
  acted_fresh (ConnectConfirm dst src services info segsize user_data) truth = confirmed_fresh _ src segsize truth.tag.link
  acted_fresh (DisconnectInitiate dst src reason user_data) truth = ended_fresh _
  acted_fresh (DisconnectConfirm dst src reason) truth = ended_fresh _
  acted_fresh (DataSegment s) truth = taken_fresh _ s truth.known
  acted_fresh (ConnectInitiate retransmitted src services info segsize user_data) truth = fresh
  acted_fresh (ConnectAck dst) truth = fresh
  acted_fresh (NoOperation rest) truth = fresh
  acted_fresh m truth = ran_fresh _

pub behind : (units : List SentMessage) (a : Seen) (l : Link) → IsFresh a → Ahead units a l → Behind a l
behind [] a l fresh meets = record {
  own = ap (λ (p : Port). p.own) meets.port;
  opened = ap (λ (p : Port). p.opened) meets.port;
  far = λ n at. ap (λ (p : Port). is_at p.far n) (sym meets.port) ∙ at;
  used = λ live. ap (λ (p : Phase). later a.used p) (sym (meets.used live)) ∙ later_itself a.used;
  segsize = λ none. meets.segsize;
  received = meets.received;
}
behind (unit ∷ units) a l fresh ahead =
    acted_behind a l fresh unit.packet.message unit.truth
    (behind units (acted unit a) l (acted_fresh a fresh unit.packet.message unit.truth) ahead.1)
