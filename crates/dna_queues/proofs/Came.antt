-- A link of the machine, and what comes for it, on which it acts at once.
use Rattle.dna_queues.proofs.Prelude.{◌≡◌, ℕ, ◌≤◌, Bool, true, false, ◌&&◌, ◌||◌, nat_lt, nat_le, cond, Option, Some, None, List, [], ◌∷◌, fold}
use Rattle.dna_queues.proofs.Prelude.{refl, sym, ap, ◌∙◌, subst, arith, NspValue, DataSegment, LinkService, DataAck, OtherDataAck, ConnectConfirm}
use Rattle.dna_queues.proofs.Prelude.{DisconnectInitiate, DisconnectConfirm, Phase, Running, Ended, TheLink, CallingAt, ActedOn, passes, is_in}
use Rattle.dna_queues.proofs.Prelude.{is_live, is_calling, LinkTruth, port_of_waiting, IsAnswered, AcksAreNear, TrueSegments, Numbers}
use Rattle.dna_queues.proofs.Prelude.{takes_segment, takes_acks, acknowledged_through, highest_given, SentMessage, AreAtMost}
use Rattle.dna_queues.proofs.{Facts.not_both, WaitsToGo.grows_itself}
use Rattle.dna_queues.proofs.Goes.{Link, phase_of, Grows}
use Rattle.dna_queues.proofs.Ahead.{Seen, acted, takes_numbers, AreTaken, Meets}

-- ---- acknowledgements

pub record AcksTaken (f : TrueSegments) (numbers : List ℕ) : Type 0 where
  pub most : ℕ
  pub is : fold acknowledged_through f numbers ≡ record f { acknowledged = most }
  pub more : f.acknowledged ≤ most
  pub within : (high : ℕ) → f.acknowledged ≤ high → AreAtMost high numbers → most ≤ high
  pub all : AcksAreNear f numbers → AreAtMost most numbers

pub acks_taken : (f : TrueSegments) (numbers : List ℕ) → AcksTaken f numbers
acks_taken f [] = record { most = f.acknowledged; is = refl; more = omega arith; within = λ high low all. low; all = λ near. tt }
acks_taken f (number ∷ numbers) = go (nat_lt f.acknowledged number && nat_le number (highest_given f)) refl (λ g. acks_taken g numbers)
  where
    go : (b : Bool) → (nat_lt f.acknowledged number && nat_le number (highest_given f)) ≡ b → ((g : TrueSegments) → AcksTaken g numbers) →
        AcksTaken f (number ∷ numbers)
    go true e rest =
        let r = rest (record f { acknowledged = number }) in
        let same : acknowledged_through f number ≡ record f { acknowledged = number } =
        ap (λ (b : Bool). cond b (record f { acknowledged = number }) f) e in
        let low : f.acknowledged ≤ number = grind (arith, e) in
        record {
          most = r.most;
          is = ap (λ (g : TrueSegments). fold acknowledged_through g numbers) same ∙ r.is;
          more = let m = r.more in omega (arith, m, low);
          within = λ high least all. r.within high all.0 all.1;
          all = λ near. (r.more, r.all (subst (λ (g : TrueSegments). AcksAreNear g numbers) same near.1));
        }
    go false e rest =
        let r = rest f in
        let same : acknowledged_through f number ≡ f = ap (λ (b : Bool). cond b (record f { acknowledged = number }) f) e in
        record {
          most = r.most;
          is = ap (λ (g : TrueSegments). fold acknowledged_through g numbers) same ∙ r.is;
          more = r.more;
          within = λ high least all. r.within high least all.1;
          all = λ near. (
            (let m = r.more in let n = near.0.most in at_most f.acknowledged number (highest_given f) r.most e n m),
            r.all (subst (λ (g : TrueSegments). AcksAreNear g numbers) same near.1),
          );
        }
      where
        at_most : (a n g m : ℕ) → (nat_lt a n && nat_le n g) ≡ false → n ≤ g → a ≤ m → n ≤ m
        at_most a n g m e near more = grind arith

-- ---- a link of the machine

pub record Fits (l : Link) : Type 0 where
  pub waits : is_live l.port.phase ≡ true → l.queue.waits ≡ None
  pub ran : is_in Running (phase_of l) ≡ true → l.queue.ran ≡ true
  pub calling : is_calling l.port.phase ≡ true → (l.port.far ≡ None) × (l.queue.ran ≡ false)

pub live_phase : (l : Link) → Fits l → is_live l.port.phase ≡ true → phase_of l ≡ l.port.phase
live_phase l fits live = ap (λ (w : Option Phase). (port_of_waiting w l.port).phase) (fits.waits live)

abbrev pub confirmed_link : (far size : ℕ) → Option ℕ → Link → Link
confirmed_link far size partner l = record l {
  port = record l.port { phase = Running; far = Some far };
  partner = partner;
  segsize = size;
  queue = record l.queue { ran = true };
}

abbrev pub ended_link : Link → Link
ended_link l = record l { port = record l.port { phase = Ended }; queue = record l.queue { waits = Some l.port.phase } }

abbrev pub run_link : TrueSegments → Link → Link
run_link f l = record l { port = record l.port { phase = Running }; queue = record l.queue { ran = true }; segments = f }

abbrev pub came_as : NspValue → LinkTruth Numbers → Link → Link
came_as (ConnectConfirm dst src services info segsize user_data) truth l =
    cond (passes (CallingAt dst) l.port) (confirmed_link src segsize truth.tag.link l) l
came_as (DisconnectInitiate dst src reason user_data) truth l =
    cond (passes (TheLink dst src) l.port || passes (CallingAt dst) l.port) (ended_link l) l
came_as (DisconnectConfirm dst src reason) truth l = cond (passes (TheLink dst src) l.port || passes (CallingAt dst) l.port) (ended_link l) l
came_as (DataSegment s) truth l =
    cond (passes (ActedOn s.dstaddr s.srcaddr) l.port) (run_link (takes_segment s truth.known l.segments) l) l
came_as (DataAck dst src acks) truth l = cond (passes (ActedOn dst src) l.port) (run_link (takes_acks acks truth.known l.segments) l) l
came_as (LinkService interrupt dst src rest) truth l = cond (passes (ActedOn dst src) l.port) (run_link l.segments l) l
came_as (OtherDataAck dst src rest) truth l = cond (passes (ActedOn dst src) l.port) (run_link l.segments l) l
came_as m truth l = l

abbrev pub came : SentMessage → Link → Link
came unit l = came_as unit.packet.message unit.truth l

-- the numbers of what comes are near, where the link acts on them
abbrev pub AreNearHere : SentMessage → Link → Type 0
AreNearHere unit l = takes_numbers unit.packet.message l.port ≡ true → AcksAreNear l.segments unit.truth.known.acknowledgements

-- ---- one packet, of which a link comes further

-- what is wanted of the link that it becomes
pub record ComesOn (unit : SentMessage) (l k : Link) : Type 0 where
  pub fits : Fits k
  pub grows : IsAnswered k.segments → Grows None l k
  pub acknowledged : l.segments.acknowledged ≤ k.segments.acknowledged
  pub passed : k.segments.passed ≡ l.segments.passed
  pub accepted : k.queue.accepted ≡ l.queue.accepted
  pub own : k.port.own ≡ l.port.own
  pub live : is_live (phase_of l) ≡ true → is_live (phase_of k) ≡ true
  pub meets : (a : Seen) → Meets a l → AreTaken unit a.port k × Meets (acted unit a) k

-- one that changes nothing
pub comes_still : (unit : SentMessage) (l : Link) → Fits l → (takes_numbers unit.packet.message l.port ≡ false) →
    ((a : Seen) → a.port ≡ l.port → acted unit a ≡ a) → ComesOn unit l l
comes_still unit l fits none still = record {
  fits = fits;
  grows = λ answered. grows_itself l answered;
  acknowledged = omega arith;
  passed = refl;
  accepted = refl;
  own = refl;
  live = λ e. e;
  meets = λ a meets. (
    λ taken. absurd (not_both _ (ap (takes_numbers unit.packet.message) (sym meets.port) ∙ taken) none),
    subst (λ (b : Seen). Meets b l) (sym (still a meets.port)) meets,
  );
}
