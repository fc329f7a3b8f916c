-- Addresses of both sides' links at any time, where each is given once; and that the rule on link partners asks nothing then.
use Rattle.std.proofs.Common.{◌≡◌, ℕ, ◌⊎◌, inl, inr, Bool, true, ◌&&◌, Option, Some, None, List, [], ◌∷◌, ◌++◌, length, Ok, refl, sym, ap, ap₂}
use Rattle.std.proofs.Common.{◌∙◌, subst, eq-eqb, eqb, eqb-true}
use Rattle.std.specs.Prelude.{slice_get, is_some}
use Rattle.std.proofs.lemmas.Bool.{and_parts}
use Rattle.std.proofs.lemmas.Option.{same_Some}
use Rattle.dna_packet.specs.Nsp.{NspValue, DataSegment, LinkService, DataAck, OtherDataAck, ConnectConfirm}
use Rattle.dna_station.specs.declared.link_refusal.LinkRefusal.TheVariants.{WrongNode, CrossedLink}
use Rattle.dna_links.specs.declared.queue.Queues.TheVariants.{Without}
use Rattle.dna_links.specs.declared.tag.LinkTag.{LinkTag}
use Rattle.dna_links.specs.declared.port.LinkTest.{LinkTest}
use Rattle.dna_links.specs.declared.port.LinkTest.TheVariants.{CallingAt, ActedOn}
use Rattle.dna_links.specs.LookUps.{is_at, is_calling, is_connected, has_both}
use Rattle.dna_links.specs.Links.{LinkOf, on_link, at_number, check, with_link, changed}
use Rattle.dna_links.specs.User.{LinkEventValue}
use Rattle.dna_links.specs.Arriving.{of_partner, of_anyone, is_for, is_of_pair, message_arrived}
use Rattle.dna_links.specs.LinkBook.{are_same}
use Rattle.dna_links.specs.inner.Forms.{confirmed, running, acted_on}
use Rattle.dna_links.specs.TrueSegments.{TrueSegments, true_segments}
use Rattle.dna_links.specs.TrueLinks.{Links, links_arrived}
use Rattle.dna_links.specs.Captures.{given_address}
use Rattle.dna_links.specs.Runs.{SentMessage, LinkSide, LinkWorld, LinkStep, ByUser, Sends, SendsNone, Composes, Keeps, Passes, Reached, Start, ByA}
use Rattle.dna_links.specs.Runs.{ByB}
use Rattle.dna_links.specs.Runs.{sends, new_world}
use Rattle.dna_node.proofs.Once.Orderly.{higher, highest, AddressesRise, highest-join}
use Rattle.two_nodes.proofs.NumberedSteps.{at_pushed}
use Rattle.dna_links.proofs.Runs.Reads.{at_is}
use Rattle.dna_links.proofs.Tables.Outcomes.{IsFound, looked, checked, user_did}
use Rattle.dna_links.proofs.Tables.MessageOutcomes.{sent_did, arrived_did}
use Rattle.dna_node.proofs.Once.Addresses.{AreAddressed, none_addressed, addressed_beside, user_addressed, AtNodes, LeavesAddressed}
use Rattle.dna_node.proofs.Once.Messages.{source, target, IsAddressed, message_kept, sent_from, sent_stays, came_stays, same_links}

-- of one side beside the other, where this is the highest address that it gave
pub record IsAddressedSide (own other : LinkSide) (most : ℕ) : Type 0 where
  pub links : AreAddressed own.links.links other.links.links most
  pub told : (k : ℕ) (u : SentMessage) → slice_get own.sent k ≡ Some (Some u) →
      IsAddressed own.links.links other.links.links u.packet.message u.truth.tag
  -- each message goes from its sender's node to the other one
  pub from : (k : ℕ) (u : SentMessage) → slice_get own.sent k ≡ Some (Some u) → (u.packet.src ≡ own.links.node) × (u.packet.dst ≡ own.links.peer)

record StaysAddressed (own left other : LinkSide) (most others : ℕ) : Type 0 where
  pub of_left : IsAddressedSide left other most
  pub of_other : IsAddressedSide other left others
  pub nodes : AtNodes left.links own.links.node own.links.peer

-- ---- one step

module _ (own other : LinkSide) (most others : ℕ) (h : IsAddressedSide own other most) (theirs : IsAddressedSide other own others) where
  -- a message that goes from this node to the other one, of a link that has its addresses
  abbrev IsTold : Links → SentMessage → Type 0
  IsTold links u = IsAddressed links.links other.links.links u.packet.message u.truth.tag ×
      ((u.packet.src ≡ own.links.node) × (u.packet.dst ≡ own.links.peer))

  -- the links of this side change, and keep their addresses; what was sent then was sent before, or is told
  side_left : (left : LinkSide) (top : ℕ) → LeavesAddressed own.links other.links.links left.links top →
      ((k : ℕ) (u : SentMessage) → slice_get left.sent k ≡ Some (Some u) → (slice_get own.sent k ≡ Some (Some u)) ⊎ IsTold left.links u) →
      StaysAddressed own left other top others
  side_left left top l new = record {
    of_left = record {
      links = l.addressed;
      told = λ k u at. (told k u (new k u at)).0;
      from = λ k u at. let f = (told k u (new k u at)).1 in (f.0 ∙ sym l.nodes.node_is, f.1 ∙ sym l.nodes.peer_is);
    };
    of_other = record {
      links = addressed_beside other.links.links own.links.links left.links.links others l.keeps theirs.links;
      told = λ k u at. message_kept other.links.links own.links.links other.links.links left.links.links u.packet.message u.truth.tag (λ i n o. o)
          l.keeps (theirs.told k u at);
      from = theirs.from;
    };
    nodes = l.nodes;
  }
    where
      told : (k : ℕ) (u : SentMessage) → (slice_get own.sent k ≡ Some (Some u)) ⊎ IsTold left.links u → IsTold left.links u
      told k u (inl at) = (
        message_kept own.links.links other.links.links left.links.links other.links.links u.packet.message u.truth.tag l.keeps (λ i n o. o)
            (h.told k u at),
        h.from k u at,
      )
      told k u (inr this) = this

  -- a packet is first sent
  sends_left : (links : Links) (message : Option SentMessage) → LeavesAddressed own.links other.links.links links most →
      ((u : SentMessage) → message ≡ Some u → IsTold links u) → StaysAddressed own (sends own links message) other most others
  sends_left links message l this = side_left (sends own links message) most l (λ k u at. go k u (at_pushed own.sent message (Some u) k at))
    where
      go : (k : ℕ) (u : SentMessage) → (slice_get own.sent k ≡ Some (Some u)) ⊎ ((k ≡ length own.sent) × (message ≡ Some u)) →
          (slice_get own.sent k ≡ Some (Some u)) ⊎ IsTold links u
      go k u (inl at) = inl at
      go k u (inr e) = inr (this u e.1)

  step_left : (left : LinkSide) (events : List LinkEventValue) → AddressesRise most events → LinkStep Without own other events left →
      StaysAddressed own left other (highest most events) others
  step_left left events rise (ByUser event links does) = side_left left (higher most (given_address event))
      (user_addressed own.links other.links.links most h.links event links rise.0 (user_did true_segments own.links links event does))
      (λ k u at. inl at)
  step_left left events rise (Sends packet made does) =
      let l = sent_stays own.links other.links.links most h.links packet.message made (sent_did true_segments own.links made packet does) in
      let c = checked _ _ _ made does in
      let m = sent_from own.links other.links.links most h.links packet.message made c.1 in
      let p = and_parts (eqb packet.src own.links.node) (eqb packet.dst own.links.peer) c.0 in
      sends_left made.links (Some (record { packet = packet; truth = made.truth })) l
      (λ u e. subst (IsTold made.links) (same_Some (record { packet = packet; truth = made.truth }) u e) (
        message_kept own.links.links other.links.links made.links.links other.links.links packet.message made.truth.tag l.keeps (λ i n o. o) m,
        (eqb-true packet.src own.links.node p.0, eqb-true packet.dst own.links.peer p.1),
      ))
  step_left left events rise SendsNone =
      sends_left own.links None (same_links own.links other.links.links most h.links) (λ u e. absurd cc)
  step_left left events rise (Keeps place unit links ahead there does) = side_left left most
      (came_stays own.links other.links.links most h.links unit.truth unit.packet.message links (theirs.told place unit there).from
      (arrived_did true_segments of_partner own.links links unit.truth unit.packet does)) (λ k u at. inl at)
  step_left left events rise (Composes packet made does) = side_left left most
      (sent_stays own.links other.links.links most h.links packet.message made (sent_did true_segments own.links made packet does)) (λ k u at. inl at)
  step_left left events rise (Passes place ahead less) =
      side_left left most (same_links own.links other.links.links most h.links) (λ k u at. inl at)

-- ---- all steps

pub rise_parts : (most : ℕ) (first later : List LinkEventValue) → AddressesRise most (first ++ later) → AddressesRise most first ×
    AddressesRise (highest most first) later
rise_parts most [] later r = (tt, r)
rise_parts most (event ∷ first) later r = let p = rise_parts (higher most (given_address event)) first later r.1 in ((r.0, p.0), p.1)

pub record BothAddressed (node_a peer_a node_b peer_b : ℕ) (w : LinkWorld) (events_a events_b : List LinkEventValue) : Type 0 where
  pub of_a : IsAddressedSide w.a w.b (highest 0 events_a)
  pub of_b : IsAddressedSide w.b w.a (highest 0 events_b)
  pub at_a : AtNodes w.a.links node_a peer_a
  pub at_b : AtNodes w.b.links node_b peer_b

still_at : (s left : Links) (node peer : ℕ) → AtNodes s node peer → AtNodes left s.node s.peer → AtNodes left node peer
still_at s left node peer h l = record { node_is = l.node_is ∙ h.node_is; peer_is = l.peer_is ∙ h.peer_is }

pub reached_addressed : (node_a peer_a node_b peer_b : ℕ) {w : LinkWorld} {of_a of_b : List LinkEventValue} →
    Reached Without (new_world node_a peer_a node_b peer_b) w of_a of_b → AddressesRise 0 of_a → AddressesRise 0 of_b →
    BothAddressed node_a peer_a node_b peer_b w of_a of_b
reached_addressed node_a peer_a node_b peer_b Start rise_a rise_b = record {
  of_a = record { links = none_addressed [] 0; told = λ k u at. absurd cc; from = λ k u at. absurd cc };
  of_b = record { links = none_addressed [] 0; told = λ k u at. absurd cc; from = λ k u at. absurd cc };
  at_a = record { node_is = refl; peer_is = refl };
  at_b = record { node_is = refl; peer_is = refl };
}
reached_addressed node_a peer_a node_b peer_b (ByA {w} {of_a} {of_b} {events} {left} r step) rise_a rise_b =
    let p = rise_parts 0 of_a events rise_a in
    let now = reached_addressed node_a peer_a node_b peer_b r p.0 rise_b in
    let s = step_left w.a w.b (highest 0 of_a) (highest 0 of_b) now.of_a now.of_b left events p.1 step in
    record {
      of_a = subst (IsAddressedSide left w.b) (sym (highest-join 0 of_a events)) s.of_left;
      of_b = s.of_other;
      at_a = still_at w.a.links left.links node_a peer_a now.at_a s.nodes;
      at_b = now.at_b;
    }
reached_addressed node_a peer_a node_b peer_b (ByB {w} {of_a} {of_b} {events} {left} r step) rise_a rise_b =
    let p = rise_parts 0 of_b events rise_b in
    let now = reached_addressed node_a peer_a node_b peer_b r rise_a p.0 in
    let s = step_left w.b w.a (highest 0 of_b) (highest 0 of_a) now.of_b now.of_a left events p.1 step in
    record {
      of_a = s.of_other;
      of_b = subst (IsAddressedSide left w.a) (sym (highest-join 0 of_b events)) s.of_left;
      at_a = now.at_a;
      at_b = still_at w.b.links left.links node_b peer_b now.at_b s.nodes;
    }

-- ---- the rule on partners asks nothing

-- a look-up goes on in the same way
with_same : {R : Type 0} (test : LinkTest) (s : Links) (otherwise : R) (next later : ℕ → LinkOf TrueSegments → R) →
    ((number : ℕ) (link : LinkOf TrueSegments) → IsFound test s number link → next number link ≡ later number link) →
    with_link test s otherwise next ≡ with_link test s otherwise later
with_same {R} test s otherwise next later same = looked test s otherwise next (with_link test s otherwise next) refl
    (λ none e. sym e ∙ sym (ap (λ (o : Option ℕ). at_number s.links o otherwise later) none))
    (λ number link found e. sym e ∙ same number link found ∙
    sym (ap (λ (o : Option ℕ). at_number s.links o otherwise later) found.found ∙
    ap (λ (o : Option (LinkOf TrueSegments)). on_link number o otherwise later) found.there))

module _ (own other : LinkSide) (most others : ℕ) (h : IsAddressedSide own other most) (theirs : IsAddressedSide other own others) (u : SentMessage)
    (told : IsAddressed other.links.links own.links.links u.packet.message u.truth.tag) where
  abbrev tag : LinkTag
  tag = u.truth.tag

  at_same : (known : Option ℕ) (number : ℕ) → known ≡ Some number → is_at known number ≡ true
  at_same known number e = ap (λ (o : Option ℕ). is_at o number) e ∙ eq-eqb number number refl

  -- the message is for the link with its target address
  partner_is : (dst number : ℕ) (link : LinkOf TrueSegments) → target u.packet.message ≡ Some dst → slice_get own.links.links number ≡ Some link →
      link.port.own ≡ Some dst → is_at tag.partner number ≡ true
  partner_is dst number link is there owns =
      let o = told.to dst is in
      at_same tag.partner number (o.is ∙ ap Some (h.links.distinct o.number number dst o.owns (record { link = link; there = there; owns = owns })))

  for_it : (src dst number : ℕ) (link : LinkOf TrueSegments) → source u.packet.message ≡ Some src → target u.packet.message ≡ Some dst →
      IsFound (CallingAt dst) own.links number link → is_for number tag ≡ true
  for_it src dst number link from is found =
      let o = told.from src from in
      let at = at_is link.port.own dst (and_parts (is_calling link.port.phase) (is_at link.port.own dst) found.passed).1 in
      ap₂ (λ (x y : Bool). x && y) (ap is_some o.is) (partner_is dst number link is found.there at)

  of_it : (src dst number : ℕ) (link : LinkOf TrueSegments) → source u.packet.message ≡ Some src → target u.packet.message ≡ Some dst →
      IsFound (ActedOn dst src) own.links number link → is_of_pair number link.partner tag ≡ true
  of_it src dst number link from is found =
      let both = and_parts (is_at link.port.own dst) (is_at link.port.far src)
      (and_parts (is_connected link.port.phase) (has_both link.port dst src) found.passed).1 in
      let sender = told.from src from in
      let partner = h.links.far number link found.there src (at_is link.port.far src both.1) in
      let same = theirs.links.distinct partner.number sender.number src partner.owns sender.owns in
      ap₂ (λ (x y : Bool). x && y) (ap₂ are_same partner.is sender.is ∙ at_same (Some sender.number) partner.number (ap Some (sym same)))
      (partner_is dst number link is found.there (at_is link.port.own dst both.0))

  acted_same : (src dst : ℕ) (takes : LinkOf TrueSegments → TrueSegments) → source u.packet.message ≡ Some src → target u.packet.message ≡ Some dst →
      acted_on true_segments of_anyone dst src tag takes own.links ≡ acted_on true_segments of_partner dst src tag takes own.links
  acted_same src dst takes from is = with_same (ActedOn dst src) own.links (Ok own.links) _ _
      (λ number link found. ap (λ (b : Bool). check b CrossedLink (Ok (changed number (running true_segments of_anyone takes link) own.links)))
      (sym (of_it src dst number link from is found)))

  message_same : (m : NspValue) → u.packet.message ≡ m →
      message_arrived Without true_segments of_anyone own.links m u.truth ≡
      message_arrived Without true_segments of_partner own.links m u.truth
  message_same (ConnectConfirm dst src services info segsize user_data) is = with_same (CallingAt dst) own.links (Ok own.links) _ _
      (λ number link found. ap
      (λ (b : Bool). check b CrossedLink (Ok (changed number (confirmed true_segments of_anyone src segsize tag link) own.links)))
      (sym (for_it src dst number link (ap source is) (ap target is) found)))
  message_same (DataSegment segment) is = acted_same segment.srcaddr segment.dstaddr _ (ap source is) (ap target is)
  message_same (DataAck dst src acks) is = acted_same src dst _ (ap source is) (ap target is)
  message_same (LinkService interrupt dst src rest) is = acted_same src dst _ (ap source is) (ap target is)
  message_same (OtherDataAck dst src rest) is = acted_same src dst _ (ap source is) (ap target is)
  message_same m is = refl

  pub anyone_same : links_arrived Without of_anyone own.links u.packet u.truth ≡ links_arrived Without of_partner own.links u.packet u.truth
  anyone_same = ap (check _ WrongNode) (message_same u.packet.message refl)
