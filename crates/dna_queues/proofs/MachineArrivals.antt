-- A packet that is kept, acted on by the machine: it changes the link with that address, as what all would come to has it.
use Rattle.dna_queues.proofs.Prelude.{◌≡◌, ℕ, Bool, true, false, ◌||◌, cond, Option, Some, length, Result, Ok, refl, sym, ap, ◌∙◌, subst, slice_get}
use Rattle.dna_queues.proofs.Prelude.{and_parts, same_Some, NspValue, DataSegment, LinkService, DataAck, OtherDataAck, ConnectConfirm}
use Rattle.dna_queues.proofs.Prelude.{DisconnectInitiate, DisconnectConfirm, LinkRefusal, CrossedLink, Calling, Running, Port, LinkTest, TheLink}
use Rattle.dna_queues.proofs.Prelude.{CallingAt, ActedOn, Without, With, passes, is_in, is_live, is_at, is_connected, has_both, LinkTruth, check}
use Rattle.dna_queues.proofs.Prelude.{number_of, with_link, changed, with_segments, goes_on, ends_by_message, keeps_numbers, of_partner, is_for}
use Rattle.dna_queues.proofs.Prelude.{is_of_pair, message_arrived, TrueSegments, Numbers, takes_segment, takes_acks, true_segments, IsFound}
use Rattle.dna_queues.proofs.Prelude.{checked, late_segments, Links, dstaddr}
use Rattle.dna_links.specs.TrueLinks as machine
use Rattle.dna_queues.proofs.Facts.{calling_live, connected_live, lets_still}
use Rattle.dna_queues.proofs.Goes.{Link}
use Rattle.dna_queues.proofs.Came.{confirmed_link, ended_link, run_link, came_as}
use Rattle.dna_queues.proofs.Acting.{LateLink, confirmed_late, run_late}
use Rattle.dna_queues.proofs.LinkLists.{IsUnique, IsChanged, changed_as, at_found, there_too, number_same}
use Rattle.dna_queues.proofs.Arrivals.{calling_owns, acted_owns, row_made, either, either_made}

-- ---- the machine, where the node's links are as its own

pub record Alike (s : Links) (t : machine.Links) : Type 0 where
  pub node : s.node ≡ t.node
  pub peer : s.peer ≡ t.peer
  pub size : length s.links ≡ length t.links
  pub all : (i : ℕ) (h : LateLink) (l : Link) → slice_get s.links i ≡ Some h → slice_get t.links i ≡ Some l →
      (h.port ≡ l.port) × (h.partner ≡ l.partner)

module _ (s : Links) (t : machine.Links) (alike : Alike s t) where
  pub number_alike : (test : LinkTest) → number_of test s ≡ number_of test t
  number_alike test = number_same s t alike.size test (λ i h l at_h at_l. ap (passes test) (alike.all i h l at_h at_l).0)

  pub record FoundToo (test : LinkTest) (n : ℕ) (l : Link) : Type 0 where
    pub link : LateLink
    pub found : IsFound test s n link
    pub partner : link.partner ≡ l.partner

  pub found_too : (test : LinkTest) (n : ℕ) (l : Link) → IsFound test t n l → FoundToo test n l
  found_too test n l found =
      let h = there_too s.links t.links n l alike.size found.there in
      let same = alike.all n h.0 l h.1 found.there in
      record {
        link = h.0;
        found = record { found = number_alike test ∙ found.found; there = h.1; passed = ap (passes test) same.0 ∙ found.passed };
        partner = same.1;
      }

-- ---- what the machine's rows make of a link

pub ended_is : (l : Link) → ends_by_message true_segments With l ≡ ended_link l
ended_is l = ap (λ (f : TrueSegments). record (ended_link l) { segments = f })
    (lets_still (keeps_numbers l) (keeps_numbers (ended_link l)) l.segments)

pub if_same : (b : Bool) (l x y : Link) → (b ≡ true → x ≡ y) → cond b x l ≡ cond b y l
if_same true l x y same = same refl
if_same false l x y same = refl

pub run_is : (own far : ℕ) (takes : TrueSegments → TrueSegments) (l : Link) → passes (ActedOn own far) l.port ≡ true →
    with_segments (takes (goes_on true_segments (is_live l.port.phase) Running l).segments) (goes_on true_segments (is_live l.port.phase) Running l)
    ≡ run_link (takes l.segments) l
run_is own far takes l e =
    ap (λ (b : Bool). with_segments (takes (goes_on true_segments b Running l).segments) (goes_on true_segments b Running l))
    (connected_live l.port.phase (and_parts (is_connected l.port.phase) (has_both l.port own far) e).0)

pub confirmed_is : (own far size : ℕ) (partner : Option ℕ) (l : Link) → passes (CallingAt own) l.port ≡ true →
    goes_on true_segments (is_live l.port.phase) Running (record l { port = record l.port { far = Some far }; partner = partner; segsize = size })
    ≡ confirmed_link far size partner l
confirmed_is own far size partner l e =
    ap (λ (b : Bool). goes_on true_segments b Running (record l { port = record l.port { far = Some far }; partner = partner; segsize = size }))
    (calling_live l.port.phase (and_parts (is_in Calling l.port.phase) (is_at l.port.own own) e).0)

module _ (s further : Links) (t : machine.Links) (alike : Alike s t) (unique : IsUnique t) (truth : LinkTruth Numbers) where
  pub record MachineActs (m : NspValue) (address : ℕ) : Type 0 where
    pub left : machine.Links
    pub is : message_arrived With true_segments of_partner t m truth ≡ Ok left
    pub changed : IsChanged t left address (came_as m truth)

  acts_row : (m : NspValue) (test : LinkTest) (own address : ℕ) → own ≡ address → ((p : Port) → passes test p ≡ true → is_at p.own own ≡ true) →
      (may : ℕ → Option ℕ → Bool) (f : LateLink → LateLink) (g : Link → Link) →
      with_link {R = Result Links LinkRefusal} test s (Ok s) (λ n l. check (may n l.partner) CrossedLink (Ok (changed n (f l) s))) ≡ Ok further →
      message_arrived With true_segments of_partner t m truth
      ≡ with_link test t (Ok t) (λ n l. check (may n l.partner) CrossedLink (Ok (changed n (g l) t))) →
      ((l : Link) → cond (passes test l.port) (g l) l ≡ came_as m truth l) → MachineActs m address
  acts_row m test own address is owns may f g e does same =
      let made = row_made t unique address test (λ p e. subst (λ (n : ℕ). is_at p.own n ≡ true) is (owns p e)) CrossedLink (λ n l. may n l.partner) g
      (λ n l found. let h = found_too s t alike test n l found in
      ap (may n) (sym h.partner)
      ∙ (checked (may n h.link.partner) CrossedLink _ further (sym (at_found test s n h.link _ _ h.found) ∙ e)).0) in
      record {
        left = made.left;
        is = does ∙ made.is;
        changed = changed_as t made.left address (λ l. cond (passes test l.port) (g l) l) (came_as m truth) made.changed same;
      }

  ends_row : (m : NspValue) (dst src address : ℕ) (is : dst ≡ address) →
      message_arrived With true_segments of_partner t m truth ≡ either t unique address dst src is (λ l. ends_by_message true_segments With l) →
      ((l : Link) → cond (passes (TheLink dst src) l.port || passes (CallingAt dst) l.port) (ended_link l) l ≡ came_as m truth l) →
      MachineActs m address
  ends_row m dst src address is does same =
      let made = either_made t unique address dst src is (ends_by_message true_segments With) in
      record {
        left = made.left;
        is = does ∙ made.is;
        changed = changed_as t made.left address
            (λ l. cond (passes (TheLink dst src) l.port || passes (CallingAt dst) l.port) (ends_by_message true_segments With l) l)
            (came_as m truth) made.changed
            (λ l. ap (λ (x : Link). cond (passes (TheLink dst src) l.port || passes (CallingAt dst) l.port) x l) (ended_is l) ∙ same l);
      }

  pub machine_acts : (m : NspValue) (address : ℕ) → dstaddr m ≡ Some address →
      message_arrived Without late_segments of_partner s m truth ≡ Ok further → MachineActs m address
  machine_acts (ConnectConfirm dst src services info segsize user_data) address is e =
      acts_row _ (CallingAt dst) dst address (same_Some dst address is) (calling_owns dst) (λ n partner. is_for n truth.tag)
      (confirmed_late src segsize truth.tag.link)
      (λ l. goes_on true_segments (is_live l.port.phase) Running
      (record l { port = record l.port { far = Some src }; partner = truth.tag.link; segsize = segsize })) e refl
      (λ l. if_same (passes (CallingAt dst) l.port) l _ _ (confirmed_is dst src segsize truth.tag.link l))
  machine_acts (DisconnectInitiate dst src reason user_data) address is e = ends_row _ dst src address (same_Some dst address is) refl (λ l. refl)
  machine_acts (DisconnectConfirm dst src reason) address is e = ends_row _ dst src address (same_Some dst address is) refl (λ l. refl)
  machine_acts (DataSegment g) address is e =
      acts_row _ (ActedOn g.dstaddr g.srcaddr) g.dstaddr address (same_Some g.dstaddr address is) (acted_owns g.dstaddr g.srcaddr)
      (λ n partner. is_of_pair n partner truth.tag) (λ l. run_late (takes_segment g truth.known l.segments.segments) l)
      (λ l. with_segments (takes_segment g truth.known (goes_on true_segments (is_live l.port.phase) Running l).segments)
      (goes_on true_segments (is_live l.port.phase) Running l)) e refl
      (λ l. if_same (passes (ActedOn g.dstaddr g.srcaddr) l.port) l _ _ (run_is g.dstaddr g.srcaddr (takes_segment g truth.known) l))
  machine_acts (DataAck dst src acks) address is e =
      acts_row _ (ActedOn dst src) dst address (same_Some dst address is) (acted_owns dst src) (λ n partner. is_of_pair n partner truth.tag)
      (λ l. run_late (takes_acks acks truth.known l.segments.segments) l)
      (λ l. with_segments (takes_acks acks truth.known (goes_on true_segments (is_live l.port.phase) Running l).segments)
      (goes_on true_segments (is_live l.port.phase) Running l)) e refl
      (λ l. if_same (passes (ActedOn dst src) l.port) l _ _ (run_is dst src (takes_acks acks truth.known) l))
  machine_acts (LinkService interrupt dst src rest) address is e =
      acts_row _ (ActedOn dst src) dst address (same_Some dst address is) (acted_owns dst src) (λ n partner. is_of_pair n partner truth.tag)
      (λ l. run_late l.segments.segments l) (λ l. goes_on true_segments (is_live l.port.phase) Running l) e refl
      (λ l. if_same (passes (ActedOn dst src) l.port) l _ _ (run_is dst src (λ f. f) l))
  machine_acts (OtherDataAck dst src rest) address is e =
      acts_row _ (ActedOn dst src) dst address (same_Some dst address is) (acted_owns dst src) (λ n partner. is_of_pair n partner truth.tag)
      (λ l. run_late l.segments.segments l) (λ l. goes_on true_segments (is_live l.port.phase) Running l) e refl
      (λ l. if_same (passes (ActedOn dst src) l.port) l _ _ (run_is dst src (λ f. f) l))
  machine_acts m address is e = absurd cc
