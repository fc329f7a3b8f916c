-- The node with queues beside the machine: what it has composed of each link for later, and what waits for a link that has ended in the machine.
use Rattle.dna_queues.proofs.Prelude.{◌≡◌, ℕ, Bool, true, false, ◌&&◌, ◌||◌, ◌==◌, cond, ◌⊎◌, inl, inr, Option, Some, None, List, [], ◌∷◌, ◌++◌}
use Rattle.dna_queues.proofs.Prelude.{length, refl, sym, ap, ap₂, ◌∙◌, subst, append-nil, slice_get, not, cases_eq, and_parts, same_Some, NspValue}
use Rattle.dna_queues.proofs.Prelude.{ConnectAck, NoOperation, DisconnectInitiate, DisconnectConfirm, WrongNode, Phase, Called, Port, TheLink}
use Rattle.dna_queues.proofs.Prelude.{CallingAt, BegunBy, Without, With, passes, is_live, is_at, Carried, in_use, are_same, message_sent}
use Rattle.dna_queues.proofs.Prelude.{SentMessage, late_segments, Links, Node, HiddenStep, Composes, Acknowledges, is_composed, waiting}
use Rattle.dna_queues.proofs.Prelude.{link_it_is_for, link_it_is_of}
use Rattle.dna_links.specs.TrueLinks as machine
use Rattle.dna_queues.proofs.{Facts.passed_check, Lists.waiting_push, Beside.eqb-same, Beside.eqb-other, Turns.asks, Turns.is_now, Early.MayGo}
use Rattle.dna_queues.proofs.Goes.{Link, phase_of, Goes, use_opened, at_node, node_port, node_own, node_use}
use Rattle.dna_queues.proofs.LinkLists.{still_set, IsUnique, IsSet, there_too}
use Rattle.dna_queues.proofs.Hide.{LateLink, hide, composes_now}
use Rattle.dna_queues.proofs.Dues.{AreSane, Due, Went, put, put_here, put_other, went_on, went_use}

-- ---- what waits for a link

-- a DI or a DC that ends a link with this port
abbrev pub is_end : NspValue → Port → Bool
is_end (DisconnectInitiate dst src reason user_data) port = passes (TheLink dst src) port || passes (CallingAt dst) port
is_end (DisconnectConfirm dst src reason) port = passes (TheLink dst src) port || passes (CallingAt dst) port
is_end m port = false

abbrev pub EndsFirst : Link → List SentMessage → Type 0
EndsFirst l [] = ⊥
EndsFirst l (unit ∷ units) = is_end unit.packet.message (node_port l) ≡ true

pub record Awaits (l : Link) (kept : List SentMessage) : Type 0 where
  -- at a live link nothing waits
  pub live : is_live l.port.phase ≡ true → kept ≡ []
  -- and first what ended it in the machine, where something of it may still be sent
  pub over : (p : Phase) → at_node l.queue.waits ≡ Some p → EndsFirst l kept

-- a packet that waits is for a link, and came from the other node
pub record IsKept (node peer : ℕ) (unit : SentMessage) : Type 0 where
  pub address : ℕ
  pub for_it : link_it_is_for unit ≡ Some address
  pub goes : (unit.packet.src == peer && unit.packet.dst == node) ≡ true

abbrev pub AreKept : (node peer : ℕ) → List SentMessage → Type 0
AreKept node peer [] = Unit {0}
AreKept node peer (unit ∷ units) = IsKept node peer unit × AreKept node peer units

pub kept_as : (node peer other_node other_peer : ℕ) (units : List SentMessage) → node ≡ other_node → peer ≡ other_peer → AreKept node peer units →
    AreKept other_node other_peer units
kept_as node peer other_node other_peer units same_node same_peer kept =
    subst (λ (m : ℕ). AreKept m other_peer units) same_node (subst (λ (m : ℕ). AreKept node m units) same_peer kept)

abbrev pub packets_of : List SentMessage → List Carried
packets_of [] = []
packets_of (unit ∷ units) = unit.packet ∷ packets_of units

packets_push : (units : List SentMessage) (unit : SentMessage) → packets_of (units ++ unit ∷ []) ≡ packets_of units ++ unit.packet ∷ []
packets_push [] unit = refl
packets_push (first ∷ units) unit = ap (λ (us : List Carried). first.packet ∷ us) (packets_push units unit)

-- ---- both

pub record Timed (s : machine.Links) (dues : ℕ → Due) (n : Node) : Type 0 where
  pub node : n.links.node ≡ s.node
  pub peer : n.links.peer ≡ s.peer
  pub size : length n.links.links ≡ length s.links
  pub all : (i : ℕ) (l : Link) → slice_get s.links i ≡ Some l → slice_get n.links.links i ≡ Some (hide (dues i).link)
  pub went : (i : ℕ) (l : Link) → slice_get s.links i ≡ Some l → Went l (dues i).link
  pub kept : AreKept s.node s.peer n.kept
  pub awaits : (i : ℕ) (l : Link) → slice_get s.links i ≡ Some l → Awaits l (waiting link_it_is_for l.port.own n.kept)
  pub composed : (i : ℕ) → packets_of (waiting link_it_is_of (Some i) n.composed) ≡ (dues i).packets

pub timed_as : (s : machine.Links) (dues others : ℕ → Due) (n : Node) → ((i : ℕ) → dues i ≡ others i) → Timed s dues n → Timed s others n
timed_as s dues others n same t = record {
  node = t.node;
  peer = t.peer;
  size = t.size;
  all = λ i l at. t.all i l at ∙ ap (λ (d : Due). Some (hide d.link)) (same i);
  went = λ i l at. subst (λ (d : Due). Went l d.link) (same i) (t.went i l at);
  kept = t.kept;
  awaits = t.awaits;
  composed = λ i. t.composed i ∙ ap (λ (d : Due). d.packets) (same i);
}

module _ (s : machine.Links) (sane : AreSane s) where
  -- at most one link of the node has an address
  pub unique_hidden : (dues : ℕ → Due) (n : Node) → Timed s dues n → IsUnique n.links
  unique_hidden dues n t i j h g at_h at_g own own_h own_g =
      let l = there_too s.links n.links.links i h (sym t.size) at_h in
      let k = there_too s.links n.links.links j g (sym t.size) at_g in
      sane.unique i j l.0 k.0 l.1 k.1 own (of_machine i h l.0 at_h l.1 own_h) (of_machine j g k.0 at_g k.1 own_g)
    where
      of_machine : (i : ℕ) (h : LateLink) (l : Link) → slice_get n.links.links i ≡ Some h → slice_get s.links i ≡ Some l →
          is_at h.port.own own ≡ true → is_at l.port.own own ≡ true
      of_machine i h l at_h at_l own_h =
          let same : h ≡ hide (dues i).link = same_Some h (hide (dues i).link) (sym at_h ∙ t.all i l at_l) in
          ap (λ (o : Option ℕ). is_at o own)
          (sym (ap (λ (p : Port). p.own) (t.went i l at_l).port) ∙ sym (node_own (dues i).link) ∙ sym (ap (λ (x : LateLink). x.port.own) same))
          ∙ own_h

  module _ (i : ℕ) (l : Link) (at : slice_get s.links i ≡ Some l) where
    -- one more is composed
    pushed : (dues : ℕ → Due) (n : Node) (t : Timed s dues n) (unit : SentMessage) (x : Link) (links : Links) → IsSet n.links links i (hide x) →
        link_it_is_of unit ≡ Some i → Goes (dues i).link unit.packet.message x →
        Timed s (put i (record { packets = (dues i).packets ++ unit.packet ∷ []; link = x }) dues)
        (record { links = links; kept = n.kept; composed = n.composed ++ unit ∷ [] })
    pushed dues n t unit x links set is_of goes = record {
      node = set.node ∙ t.node;
      peer = set.peer ∙ t.peer;
      size = set.size ∙ t.size;
      all = λ j k at_k. by_place j (cases_eq j i) (λ d. slice_get links.links j ≡ Some (hide d.link))
          (λ e. ap (slice_get links.links) e ∙ set.here) (λ differs. set.others j differs ∙ t.all j k at_k);
      went = λ j k at_k. by_place j (cases_eq j i) (λ d. Went k d.link)
          (λ e. went_on k (dues i).link x unit.packet.message (subst (λ (m : ℕ). Went k (dues m).link) e (t.went j k at_k)) goes)
          (λ differs. t.went j k at_k);
      kept = t.kept;
      awaits = t.awaits;
      composed = λ j. by_place j (cases_eq j i)
          (λ d. packets_of (waiting link_it_is_of (Some j) (n.composed ++ unit ∷ [])) ≡ d.packets)
          (λ e. here j (eqb-same j i e) ∙ packets_push (waiting link_it_is_of (Some j) n.composed) unit
          ∙ ap (λ (us : List Carried). us ++ unit.packet ∷ []) (t.composed j ∙ ap (λ (m : ℕ). (dues m).packets) e))
          (λ differs. here j (eqb-other j i differs)
          ∙ ap packets_of (append-nil (waiting link_it_is_of (Some j) n.composed)) ∙ t.composed j);
    }
      where
        by_place : (j : ℕ) → (j ≡ i) ⊎ (j ≡ i → ⊥) → (P : Due → Type 0) →
            (j ≡ i → P (record { packets = (dues i).packets ++ unit.packet ∷ []; link = x })) → ((j ≡ i → ⊥) → P (dues j)) →
            P (put i (record { packets = (dues i).packets ++ unit.packet ∷ []; link = x }) dues j)
        by_place j (inl e) P here other = subst P (sym (put_here i j _ dues e)) (here e)
        by_place j (inr differs) P here other = subst P (sym (put_other i j _ dues differs)) (other differs)

        here : (j : ℕ) {b : Bool} → (j == i) ≡ b → packets_of (waiting link_it_is_of (Some j) (n.composed ++ unit ∷ []))
            ≡ packets_of (waiting link_it_is_of (Some j) n.composed ++ cond b (unit ∷ []) [])
        here j e = ap packets_of (waiting_push link_it_is_of n.composed unit (Some j)
            ∙ ap (λ (c : Bool). waiting link_it_is_of (Some j) n.composed ++ cond c (unit ∷ []) [])
            (ap (λ (o : Option ℕ). are_same o (Some j)) is_of ∙ e))

    pub record ComposesOn (dues : ℕ → Due) (n : Node) (packet : Carried) (x : Link) : Type 0 where
      pub next : Node
      pub step : HiddenStep n next
      pub timed : Timed s (put i (record { packets = (dues i).packets ++ packet ∷ []; link = x }) dues) next

    composed_may : (m : NspValue) (phase : Phase) (e x : Link) → asks m ≡ Some phase → Goes e m x → is_composed m ≡ true
    composed_may (ConnectAck dst) phase e x is g = absurd cc
    composed_may (DisconnectConfirm dst src reason) phase e x is g = absurd g.moves
    composed_may (NoOperation rest) phase e x is g = absurd g.moves
    composed_may m phase e x is g = refl

    acknowledges_only : (m : NspValue) → asks m ≡ None → (dst : ℕ) × (m ≡ ConnectAck dst)
    acknowledges_only (ConnectAck dst) e = (dst, refl)
    acknowledges_only m e = absurd cc

    pub composes_on : (dues : ℕ → Due) (n : Node) → Timed s dues n → (packet : Carried) (x : Link) → MayGo s.node s.peer packet →
        is_now (asks packet.message) (phase_of l) ≡ true → Goes (dues i).link packet.message x → ComposesOn dues n packet x
    composes_on dues n t packet x may stands goes = by_phase (asks packet.message) refl
      where
        there : slice_get n.links.links i ≡ Some (hide (dues i).link)
        there = t.all i l at

        may_go : (packet.src == n.links.node && packet.dst == n.links.peer) ≡ true
        may_go = ap₂ (λ (a b : ℕ). packet.src == a && packet.dst == b) t.node t.peer ∙ may.goes

        -- a call that was given up was opened here
        begun_passes : (dst : ℕ) → passes (BegunBy dst) (in_use With (dues i).link) ≡ true → passes (BegunBy dst) (node_port (dues i).link) ≡ true
        begun_passes dst passed = ap (passes (BegunBy dst)) (node_use (dues i).link given_up) ∙ passed
          where
            went : Went l (dues i).link
            went = t.went i l at

            not_true : (b : Bool) → not b ≡ true → b ≡ true → ⊥
            not_true true e f = absurd cc
            not_true false e f = absurd cc

            given_up : (dues i).link.queue.waits ≡ Some Called → ⊥
            given_up e =
                let a = and_parts (is_live (in_use With (dues i).link).phase)
                (not (in_use With (dues i).link).opened && is_at (in_use With (dues i).link).far dst) passed in
                let b = and_parts (not (in_use With (dues i).link).opened) (is_at (in_use With (dues i).link).far dst) a.1 in
                not_true _ b.0 (use_opened (dues i).link ∙ ap (λ (p : Port). p.opened) went.port
                ∙ ((sane.each i l at).waits Called (sym went.waits ∙ e)).1)

        acknowledges : (dst : ℕ) → packet.message ≡ ConnectAck dst → ComposesOn dues n packet x
        acknowledges dst is =
            let unit : SentMessage = record {
              packet = packet;
              truth = record { tag = record { link = Some i; partner = None }; known = late_segments.sends_other late_segments.empty };
            } in
            let g : Goes (dues i).link (ConnectAck dst) x = subst (λ (m : NspValue). Goes (dues i).link m x) is goes in
            record {
              next = record { links = n.links; kept = n.kept; composed = n.composed ++ unit ∷ [] };
              step = Acknowledges unit dst i (hide (dues i).link) is
                  (passed_check (packet.src == n.links.node && packet.dst == n.links.peer) WrongNode _ may_go) there (begun_passes dst g.passed) refl;
              timed = pushed dues n t unit x n.links (still_set _ _ _ (there ∙ ap (λ (y : Link). Some (hide y)) (sym g.moves))) refl goes;
            }

        by_phase : (a : Option Phase) → asks packet.message ≡ a → ComposesOn dues n packet x
        by_phase None is = let a = acknowledges_only packet.message is in acknowledges a.0 a.1
        by_phase (Some phase) is =
            let c = composes_now n.links (unique_hidden dues n t) i (dues i).link there packet.message x phase is goes
            (ap (λ (p : Port). is_now (asks packet.message) p.phase) (went_use l (dues i).link (t.went i l at)) ∙ stands) in
            let unit : SentMessage = record { packet = packet; truth = c.made.truth } in
            record {
              next = record { links = c.made.links; kept = n.kept; composed = n.composed ++ unit ∷ [] };
              step = Composes unit c.made (composed_may packet.message phase (dues i).link x is goes) may.small
                  (passed_check (packet.src == n.links.node && packet.dst == n.links.peer) WrongNode
                  (message_sent Without late_segments n.links packet.message) may_go ∙ c.does) refl;
              timed = pushed dues n t unit x c.made.links c.set c.tag goes;
            }
