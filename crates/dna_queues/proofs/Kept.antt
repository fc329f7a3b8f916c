-- What is kept waits: the machine acts on it, and follows the node as before.
use Rattle.dna_queues.proofs.Prelude.{◌≡◌, ℕ, Bool, true, false, ◌&&◌, ◌==◌, cond, Option, Some, None, List, [], ◌∷◌, ◌++◌, Result, Ok, refl, sym}
use Rattle.dna_queues.proofs.Prelude.{ap, ap₂, ◌∙◌, subst, arith, append-nil, slice_get, and_parts, same_Some, NspValue, DataSegment, DataAck}
use Rattle.dna_queues.proofs.Prelude.{LinkRefusal, WrongNode, CrossedLink, Port, ActedOn, Without, With, passes, is_at, is_connected, has_both}
use Rattle.dna_queues.proofs.Prelude.{check, with_link, LinkTruth, are_same, of_partner, is_of_pair, arrived_step, message_arrived, IsAnswered}
use Rattle.dna_queues.proofs.Prelude.{AcksAreNear, ArrivesNear, Numbers, true_segments, SentMessage, looked, checked, AreAnswered}
use Rattle.dna_queues.proofs.Prelude.{late_segments, Links, Node, dstaddr, link_it_is_for, link_it_is_of, waiting, ComesTo, AllActed}
use Rattle.dna_queues.proofs.Prelude.{Next}
use Rattle.dna_links.specs.TrueLinks as machine
use Rattle.dna_queues.proofs.{Facts.passed_check, Goes.Link, Goes.Grows, WaitsToGo.can_grow, Ahead.Ahead, Ahead.takes_numbers, CameOn.came_on}
use Rattle.dna_queues.proofs.{CameOn.ahead_push, Follows.Follows, Follows.is_behind, Lists.waiting_push, Waiting.for_push, SentOn.grows_on}
use Rattle.dna_queues.proofs.{SentOn.Follow}
use Rattle.dna_queues.specs.Records as records
use Rattle.dna_queues.proofs.Came.{ComesOn, came_as, came}
use Rattle.dna_queues.proofs.Acting.{LateLink, lift, seen_as}
use Rattle.dna_queues.proofs.LinkLists.{IsUnique, none_passes, changed_each}
use Rattle.dna_queues.proofs.MachineArrivals.{Alike, MachineActs, machine_acts}
use Rattle.dna_queues.proofs.Beside.{Beside, unique_too, follows_as, acts_beside}

-- ---- what all would come to

pub record CameTo (n : Node) (all : Links) (t : machine.Links) : Type 0 where
  pub last : Node
  pub beside : Beside last t
  pub none : last.kept ≡ []
  pub is : last.links ≡ all

pub comes_beside : {n : Node} {all : Links} (t : machine.Links) → Beside n t → AreAnswered t → ComesTo n all → CameTo n all t
comes_beside t b answered (AllActed n none) = record { last = n; beside = b; none = none; is = refl }
comes_beside t b answered (Next n unit left links further takes acts later) =
    let r = comes_beside t (acts_beside n t b answered unit left links takes acts) answered later in
    record { last = r.last; beside = r.beside; none = r.none; is = r.is }

pub came_alike : (n : Node) (t : machine.Links) → Beside n t → n.kept ≡ [] → Alike n.links t
came_alike n t b none = record {
  node = b.node;
  peer = b.peer;
  size = b.size;
  all = λ i h l at_h at_l. let f = b.all i h l at_h at_l in
      let m = subst (λ (us : List SentMessage). Ahead us (seen_as f.used h) l) (ap (waiting link_it_is_for h.port.own) none) f.ahead in (
        m.port,
        m.partner,
      );
}

-- ---- a packet that is kept waits

pub kept_on : (h : LateLink) (l k : Link) (kept composed : List SentMessage) (unit : SentMessage) → ComesOn unit l k → IsAnswered k.segments →
    Follows h l kept composed → Follows h k (kept ++ unit ∷ []) composed
kept_on h l k kept composed unit on answered f =
    let low = f.acknowledged in let more = on.acknowledged in
    record {
      used = f.used;
      of_use = f.of_use;
      fresh = f.fresh;
      called = f.called;
      ahead = ahead_push kept unit (seen_as f.used h) l k on f.ahead;
      acknowledged = omega (arith, low, more);
      passed = on.passed ∙ f.passed;
      accepted = λ e. on.accepted ∙ f.accepted e;
      usable = λ e. on.live (f.usable e);
      fits = on.fits;
      can = can_grow None composed l k (Grows None (lift h)) (Grows None (lift h)) (on.grows answered) f.can
          (λ x y grows p. grows_on None (lift h) x y p grows);
    }

-- where a link acts on numbers, they are of its pair, and so near
module _ (t left : machine.Links) (unique : IsUnique t) (truth : LinkTruth Numbers) (i : ℕ) (l : Link) (there : slice_get t.links i ≡ Some l) where
  of_pair : (own far : ℕ) (next : ℕ → Link → Result machine.Links LinkRefusal) → passes (ActedOn own far) l.port ≡ true →
      with_link (ActedOn own far) t (Ok t) (λ n k. check (is_of_pair n k.partner truth.tag) CrossedLink (next n k)) ≡ Ok left →
      is_of_pair i l.partner truth.tag ≡ true
  of_pair own far next passed e =
      looked (ActedOn own far) t (Ok t) _ (Ok left) e
      (λ none e. let never = none_passes (ActedOn own far) t none i l there in let x : true ≡ false = sym passed ∙ never in absurd cc)
      (λ n k found e. let same : n ≡ i = unique n i k l found.there there own (owns k.port found.passed) (owns l.port passed) in
      let link : k ≡ l = same_Some k l (sym found.there ∙ ap (slice_get t.links) same ∙ there) in
      ap₂ (λ (j : ℕ) (x : Link). is_of_pair j x.partner truth.tag) (sym same) (sym link)
      ∙ (checked (is_of_pair n k.partner truth.tag) CrossedLink _ left e).0)
    where
      owns : (p : Port) → passes (ActedOn own far) p ≡ true → is_at p.own own ≡ true
      owns p e = (and_parts (is_at p.own own) (is_at p.far far) (and_parts (is_connected p.phase) (has_both p own far) e).1).0

  pub near_here : (m : NspValue) → message_arrived With true_segments of_partner t m truth ≡ Ok left → ArrivesNear of_partner t m truth →
      takes_numbers m l.port ≡ true → AcksAreNear l.segments truth.known.acknowledgements
  near_here (DataSegment s) e near taken = (near i l there taken (of_pair s.dstaddr s.srcaddr _ taken e)).2
  near_here (DataAck dst src acks) e near taken = (near i l there taken (of_pair dst src _ taken e)).1
  near_here m e near taken = absurd cc

module _ (n : Node) (t : machine.Links) (b : Beside n t) (answered : AreAnswered t) where
  pub keeps_beside : (unit : SentMessage) (address : ℕ) (all left : Links) → dstaddr unit.packet.message ≡ Some address → ComesTo n all →
      arrived_step Without late_segments of_partner all unit.packet unit.truth ≡ Ok left → records.IsNear t (records.Keeps unit) →
      Follow (record n { kept = n.kept ++ unit ∷ [] }) t (records.Keeps unit)
  keeps_beside unit address all left is comes e near =
      let to = comes_beside t b answered comes in
      let alike = subst (λ (s : Links). Alike s t) to.is (came_alike to.last t to.beside to.none) in
      let c = checked (unit.packet.src == all.peer && unit.packet.dst == all.node) WrongNode _ left e in
      go alike (machine_acts all left t alike (unique_too n t b) unit.truth unit.packet.message address is c.1)
      (ap₂ (λ (x y : ℕ). unit.packet.src == x && unit.packet.dst == y) (sym alike.peer) (sym alike.node) ∙ c.0)
    where
      go : (alike : Alike all t) → MachineActs all left t alike (unique_too n t b) unit.truth unit.packet.message address →
          (unit.packet.src == t.peer && unit.packet.dst == t.node) ≡ true → Follow (record n { kept = n.kept ++ unit ∷ [] }) t (records.Keeps unit)
      go alike acts may =
          let c = acts.changed in
          record {
            left = acts.left;
            is = passed_check (unit.packet.src == t.peer && unit.packet.dst == t.node) WrongNode
                (message_arrived With true_segments of_partner t unit.packet.message unit.truth) may ∙ acts.is;
            beside = λ near_left. record {
              node = b.node ∙ sym c.node;
              peer = b.peer ∙ sym c.peer;
              size = b.size ∙ sym c.size;
              unique = b.unique;
              for_links = for_push n.kept unit b.for_links (address, is);
              of_links = b.of_links;
              all = λ i h k at_h at_k. changed_each t acts.left address (came_as unit.packet.message unit.truth) c
                  (λ x. IsAnswered x.segments →
                  Follows h x (waiting link_it_is_for h.port.own (n.kept ++ unit ∷ [])) (waiting link_it_is_of (Some i) n.composed)) i
                  (λ l at_l own near_l. let f = b.all i h l at_h at_l in
                  let on = came_on l f.fits unit (near_here t acts.left (unique_too n t b) unit.truth i l at_l unit.packet.message acts.is near) in
                  follows_as h (came unit l) _ _ _ _ (pushed i h l at_h at_l true own) refl
                  (kept_on h l (came unit l) (waiting link_it_is_for h.port.own n.kept) (waiting link_it_is_of (Some i) n.composed) unit on near_l f))
                  (λ l at_l own near_l. follows_as h l _ _ _ _ (sym (append-nil (waiting link_it_is_for h.port.own n.kept))
                  ∙ pushed i h l at_h at_l false own) refl (b.all i h l at_h at_l)) k at_k (near_left i k at_k);
            };
          }
        where
          pushed : (i : ℕ) (h : LateLink) (l : Link) → slice_get n.links.links i ≡ Some h → slice_get t.links i ≡ Some l → (c : Bool) →
              is_at l.port.own address ≡ c →
              waiting link_it_is_for h.port.own n.kept ++ cond c (unit ∷ []) [] ≡ waiting link_it_is_for h.port.own (n.kept ++ unit ∷ [])
          pushed i h l at_h at_l c e =
              sym (waiting_push link_it_is_for n.kept unit h.port.own
              ∙ ap (λ (c : Bool). waiting link_it_is_for h.port.own n.kept ++ cond c (unit ∷ []) [])
              (ap (λ (o : Option ℕ). are_same o h.port.own) is
              ∙ ap (λ (o : Option ℕ). is_at o address) (is_behind h l _ _ (b.all i h l at_h at_l)).own ∙ e))
