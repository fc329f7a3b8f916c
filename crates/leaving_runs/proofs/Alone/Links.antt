-- What the links of one end make of a record, what is left of them makes of what is left of it.
use Rattle.leaving_runs.proofs.Prelude.{◌≡◌, ℕ, Bool, true, false, not, ◌==◌, cond, ◌⊎◌, inl, inr, Option, Some, None, Result, Ok, Err, List, []}
use Rattle.leaving_runs.proofs.Prelude.{◌∷◌, refl, sym, ap, ◌∙◌, subst, eqb-true, arith, eqb-false, AckWord, NspValue, DataSegment, LinkService}
use Rattle.leaving_runs.proofs.Prelude.{DataAck, OtherDataAck, ConnectAck, NoOperation, ConnectInitiate, ConnectConfirm, DisconnectInitiate}
use Rattle.leaving_runs.proofs.Prelude.{DisconnectConfirm, LinkRefusal, StepRefusal, Queues, ActedOn, LinkOf, Carried, check, with_link, after}
use Rattle.leaving_runs.proofs.Prelude.{by_row, TakeSegment, TakeAcks, acted_row, LinkEventValue, of_anyone, WireSegments, wire_segments, WireLinks}
use Rattle.leaving_runs.proofs.Prelude.{wire_links_sent, wire_links_arrived, wrong_words, wrong_acks, wrong_message, of_no_link, LinkRules}
use Rattle.leaving_runs.proofs.Prelude.{LinkRecord, OfUser, Sends, Keeps, OfNoLink, next_links, links_then, LeftOut, source_of, destination_of}
use Rattle.leaving_runs.proofs.Prelude.{sent_out, kept_out, message_out, is_out, Judged, links_left, renumbered, judged_then, AreFit, EventBinds}
use Rattle.leaving_runs.proofs.Prelude.{MessageBinds, IsRight, other_out, IfMade, SameNodes, made_alike, refused_alike, stays_fit, NamesOwn}
use Rattle.leaving_runs.proofs.Prelude.{NamesFar, Tests, its_port, port_is, look_holds, found_is, seen_left, next_nodes, MessageTold, sent_told}
use Rattle.leaving_runs.proofs.Prelude.{told_stays}
use Rattle.dna_links.specs.Table.{Effect}
use Rattle.dna_links.specs.User as user
use Rattle.dna_links.specs.Sending.{Sent}
use Rattle.leaving_runs.proofs.Users.{goes_between}
use Rattle.leaving_runs.proofs.Alone.Packets.{stands_for, carries, both_named}

-- what one end knows of a packet that comes
abbrev pub comes : Carried → LinkRecord (Unit {0})
comes packet = Keeps packet (record { tag = of_no_link; known = tt })

-- it is right whichever links are judged, and names none by its number
pub record IsPlain (out : LeftOut) (one : LinkRecord (Unit {0})) : Type 0 where
  pub right : (judged : Judged) → IsRight out judged one
  pub same : (judged : Judged) → renumbered judged one ≡ one

pub event_plain : (out : LeftOut) (event : LinkEventValue) → user.IsInRange event → EventBinds out event → IsPlain out (OfUser event)
event_plain out event range binds = record { right = λ judged. (range, binds); same = λ judged. refl }

pub sent_plain : (out : LeftOut) (packet : Carried) → IsPlain out (Sends packet)
sent_plain out packet = record { right = λ judged. tt; same = λ judged. refl }

pub comes_plain : (out : LeftOut) (packet : Carried) → MessageBinds out packet.message → IsPlain out (comes packet)
comes_plain out packet binds = record {
  right = λ judged. (binds, λ is. record { link = tt; partner = tt });
  same = λ judged. refl;
}

never : {P : Type 0} (b : Bool) → b ≡ true → b ≡ false → P
never true e f = absurd cc
never false e f = absurd cc

ok_same : (x y : WireLinks) → ◌≡◌ {A = Result WireLinks LinkRefusal} (Ok x) (Ok y) → x ≡ y
ok_same x y e = cc

-- a message names what is judged where it comes
names_judged : (out : LeftOut) (src dst : ℕ) → kept_out out src dst ≡ false → NamesOwn out true dst ⊎ NamesFar out true src
names_judged out src dst kept = go (dst == 0) refl kept
  where
    go : (z : Bool) → (dst == 0) ≡ z → cond z (out.far src) (out.own dst) ≡ false → NamesOwn out true dst ⊎ NamesFar out true src
    go true e kept = inl (inl (eqb-true dst 0 e))
    go false e kept = inl (inr kept)

module _ (queues : Queues) (out : LeftOut) (node peer : ℕ) where
  abbrev pub rules : LinkRules WireSegments (Unit {0})
  rules = record { queues = queues; partners = of_anyone; book = wire_segments }

  -- this is left of the links of the node with this address
  pub record LinksLeft (s t : WireLinks) : Type 0 where
    pub judged : Judged
    pub is : t ≡ links_left judged s
    pub fit : AreFit out judged s
    pub node_is : s.node ≡ node
    pub peer_is : s.peer ≡ peer

  -- ---- a record that is made

  module _ (s t : WireLinks) (l : LinksLeft s t) (one : LinkRecord (Unit {0})) (plain : IsPlain out one) where
    abbrev then : Judged
    then = judged_then out l.judged s one

    to_left : (b : Bool) → next_links rules t (cond b OfNoLink one)
        ≡ next_links rules (links_left l.judged s) (cond b OfNoLink (renumbered then one))
    to_left b =
        ap (λ (y : WireLinks). next_links rules y (cond b OfNoLink one)) l.is
        ∙ ap (λ (z : LinkRecord (Unit {0})). next_links rules (links_left l.judged s) (cond b OfNoLink z)) (sym (plain.same then))

    pub refused_left : is_out out one ≡ false → (refusal : LinkRefusal) → next_links rules s one ≡ Err refusal →
        next_links rules t one ≡ Err refusal
    refused_left is refusal refused =
        ap (λ (b : Bool). next_links rules t (cond b OfNoLink one)) (sym is) ∙ to_left (is_out out one)
        ∙ refused_alike rules out l.judged s l.fit one (plain.right then) is refusal refused

    module _ (x : WireLinks) (made_is : next_links rules s one ≡ Ok x) where
      nodes : SameNodes queues wire_segments s x
      nodes = go (is_out out one) refl
        where
          at : (b : Bool) → is_out out one ≡ not b → SameNodes queues wire_segments s x
          at b is = subst (IfMade (SameNodes queues wire_segments s)) made_is (next_nodes rules out l.judged s l.fit b one is (plain.right l.judged))

          go : (o : Bool) → is_out out one ≡ o → SameNodes queues wire_segments s x
          go true is = at false is
          go false is = at true is

      next : LinksLeft x (links_left then x)
      next = record {
        judged = then;
        is = refl;
        fit = stays_fit rules out l.judged s l.fit one (plain.right then) x made_is;
        node_is = nodes.node ∙ l.node_is;
        peer_is = nodes.peer ∙ l.peer_is;
      }

      made_left : next_links rules t (cond (is_out out one) OfNoLink one) ≡ Ok (links_left then x)
      made_left = to_left (is_out out one) ∙ made_alike rules out l.judged s l.fit one (plain.right then) x made_is

      -- one that is left out changes nothing of what is left
      pub unseen : is_out out one ≡ true → LinksLeft x t
      unseen is =
          subst (LinksLeft x)
          (sym (ok_same t (links_left then x) (ap (λ (b : Bool). next_links rules t (cond b OfNoLink one)) (sym is) ∙ made_left))) next

      -- one that is judged goes along
      pub seen : is_out out one ≡ false → (y : WireLinks) × (next_links rules t one ≡ Ok y) × LinksLeft x y
      seen is = (links_left then x, ap (λ (b : Bool). next_links rules t (cond b OfNoLink one)) (sym is) ∙ made_left, next)

  -- ---- a packet that is sent

  module _ (s t : WireLinks) (l : LinksLeft s t) (packet : Carried) (made : Sent WireSegments (Unit {0}))
      (done : wire_links_sent queues s packet ≡ Ok made) where
    pub sent_nodes : (packet.src ≡ node) × (packet.dst ≡ peer)
    sent_nodes = let nodes = goes_between packet s.node s.peer _ made done in (nodes.0 ∙ l.node_is, nodes.1 ∙ l.peer_is)

    -- what is judged at its receiver stays
    pub sent_stays : kept_out (other_out out) (source_of packet.message) (destination_of packet.message) ≡ false →
        message_out out packet.message ≡ false
    sent_stays kept =
        told_stays out packet.message
        (subst (IfMade (λ (x : Sent WireSegments (Unit {0})). MessageTold out packet.message)) done
        (sent_told out queues wire_segments l.judged s l.fit packet)) kept

    pub sent_unseen : message_out out packet.message ≡ true → LinksLeft made.links t
    sent_unseen is = unseen s t l (Sends packet) (sent_plain out packet) made.links (ap links_then done) is

    pub sent_seen : message_out out packet.message ≡ false →
        (left : Sent WireSegments (Unit {0})) × (wire_links_sent queues t packet ≡ Ok left) × LinksLeft made.links left.links
    sent_seen is = let along = seen s t l (Sends packet) (sent_plain out packet) made.links (ap links_then done) is in
        at along.0 along.2 (wire_links_sent queues t packet) refl along.1
      where
        at : (y : WireLinks) → LinksLeft made.links y → (r : Result (Sent WireSegments (Unit {0})) LinkRefusal) →
            wire_links_sent queues t packet ≡ r → links_then r ≡ Ok y →
            (left : Sent WireSegments (Unit {0})) × (wire_links_sent queues t packet ≡ Ok left) × LinksLeft made.links left.links
        at y left (Ok sent) e is = (sent, e, subst (LinksLeft made.links) (sym (ok_same sent.links y is)) left)
        at y left (Err refusal) e is = absurd cc

  -- one that is refused
  pub sent_refused : (s t : WireLinks) → LinksLeft s t → (packet : Carried) → message_out out packet.message ≡ false → (refusal : LinkRefusal) →
      wire_links_sent queues s packet ≡ Err refusal → wire_links_sent queues t packet ≡ Err refusal
  sent_refused s t l packet is refusal done =
      at (wire_links_sent queues t packet) (refused_left s t l (Sends packet) (sent_plain out packet) is refusal (ap links_then done))
    where
      at : (r : Result (Sent WireSegments (Unit {0})) LinkRefusal) → links_then r ≡ Err refusal → r ≡ Err refusal
      at (Ok made) e = absurd cc
      at (Err other) e = ap refused e
        where
          refused : Result WireLinks LinkRefusal → Result (Sent WireSegments (Unit {0})) LinkRefusal
          refused (Err r) = Err r
          refused (Ok links) = Err other

  -- ---- a packet that comes

  module _ (s t : WireLinks) (l : LinksLeft s t) where
    -- what accuses the other end
    acks_same : (own far : ℕ) → Tests out true (ActedOn own far) → (acks : List AckWord) → wrong_acks own far acks t ≡ wrong_acks own far acks s
    acks_same own far names acks =
        ap (wrong_acks own far acks) l.is
        ∙ sym (seen_left out l.judged s l.fit its_port port_is (ActedOn own far) refl (λ (o : Option StepRefusal). o) None None
        (λ n link. wrong_words acks link.segments) (λ n link. wrong_words acks link.segments) names refl (λ n link there is. refl))

    pub wrong_same : (m : NspValue) → kept_out out (source_of m) (destination_of m) ≡ false → wrong_message t m ≡ wrong_message s m
    wrong_same (DataSegment segment) kept =
        acks_same segment.dstaddr segment.srcaddr (names_judged out segment.srcaddr segment.dstaddr kept) segment.acks
    wrong_same (DataAck dst src acks) kept = acks_same dst src (names_judged out src dst kept) acks
    wrong_same m kept = refl

    -- no link goes with a judged address here and one there that is left out
    no_link : (own far : ℕ) → out.own own ≡ false → out.far far ≡ true → {R : Type 0} (otherwise : R) (next : ℕ → LinkOf WireSegments → R) →
        with_link (ActedOn own far) s otherwise next ≡ otherwise
    no_link own far judged_here out_there {R} otherwise next =
        look_holds (λ (r : R). r ≡ otherwise) its_port (ActedOn own far) s otherwise next refl
        (λ n link there passed. never (l.judged.here n)
        (found_is out l.judged s l.fit its_port port_is (ActedOn own far) true (inl (inr judged_here)) n link there passed)
        (found_is out l.judged s l.fit its_port port_is (ActedOn own far) false (inr (inl out_there)) n link there passed))

    -- what of it the links that are left meet
    abbrev pub MetLeft : WireLinks → Option Carried → Type 0
    MetLeft x None = LinksLeft x t
    MetLeft x (Some packet) =
        (wrong_message t packet.message ≡ None) × ((y : WireLinks) × (wire_links_arrived queues of_anyone t packet of_no_link ≡ Ok y) × LinksLeft x y)

    -- where it is left out at its sender, and judged here
    module _ (to from : ℕ) (x : WireLinks) where
      abbrev packet_of : NspValue → Carried
      packet_of m = record { dst = to; src = from; message = m }

      met_value : (b : Bool) (refusal : LinkRefusal) (next : Result WireLinks LinkRefusal) → check b refusal next ≡ Ok x → next ≡ Ok x
      met_value true refusal next e = e
      met_value false refusal next e = absurd cc

      -- no link acts on it
      acts_not : (dst src : ℕ) (effects : List Effect) → kept_out out src dst ≡ false → sent_out (other_out out) src dst ≡ true →
          by_row queues wire_segments of_anyone (record { tag = of_no_link; known = tt }) s (after queues wire_segments s) (acted_row dst src effects)
          ≡ Ok s
      acts_not dst src effects kept sent =
          let named = both_named (other_out out) src dst sent kept in
          no_link dst src (ap (λ (z : Bool). cond z (out.far src) (out.own dst)) (sym named.1) ∙ kept)
          (ap (λ (y : Bool). cond y (cond (dst == 0) (out.far 0) (out.own dst)) (out.far src)) (sym named.0) ∙ sent) _ _

      same_links : (dst src : ℕ) (effects : List Effect) (b : Bool) (refusal : LinkRefusal) → kept_out out src dst ≡ false →
          sent_out (other_out out) src dst ≡ true →
          check b refusal
          (by_row queues wire_segments of_anyone (record { tag = of_no_link; known = tt }) s (after queues wire_segments s)
          (acted_row dst src effects))
          ≡ Ok x → LinksLeft x t
      same_links dst src effects b refusal kept sent made_is =
          subst (λ (y : WireLinks). LinksLeft y t)
          (ok_same s x (sym (acts_not dst src effects kept sent) ∙ met_value b refusal _ made_is)) l

      as_it_is : (m : NspValue) → MessageBinds out m → kept_out out (source_of m) (destination_of m) ≡ false →
          next_links rules s (comes (packet_of m)) ≡ Ok x →
          (y : WireLinks) × (next_links rules t (comes (packet_of m)) ≡ Ok y) × LinksLeft x y
      as_it_is m binds kept made_is = seen s t l (comes (packet_of m)) (comes_plain out (packet_of m) binds) x made_is kept

      pub stands_left : (m : NspValue) → MessageBinds out m → kept_out out (source_of m) (destination_of m) ≡ false →
          sent_out (other_out out) (source_of m) (destination_of m) ≡ true →
          wire_links_arrived queues of_anyone s (packet_of m) of_no_link ≡ Ok x → MetLeft x (carries to from (stands_for m))
      stands_left (DisconnectInitiate dst src reason user_data) binds kept sent made_is =
          (refl, as_it_is (DisconnectInitiate dst src reason user_data) binds kept made_is)
      stands_left (DisconnectConfirm dst src reason) binds kept sent made_is =
          (refl, as_it_is (DisconnectConfirm dst src reason) binds kept made_is)
      stands_left (DataSegment segment) binds kept sent made_is =
          same_links segment.dstaddr segment.srcaddr (TakeSegment segment ∷ []) _ _ kept sent made_is
      stands_left (LinkService interrupt dst src rest) binds kept sent made_is = same_links dst src [] _ _ kept sent made_is
      stands_left (DataAck dst src acks) binds kept sent made_is = same_links dst src (TakeAcks acks ∷ []) _ _ kept sent made_is
      stands_left (OtherDataAck dst src rest) binds kept sent made_is = same_links dst src [] _ _ kept sent made_is
      stands_left (ConnectConfirm dst src services info segsize user_data) binds kept sent made_is =
          let named = both_named (other_out out) src dst sent kept in
          let some = eqb-false dst 0 named.1 in
          let bound : out.own dst ≡ out.far src = binds.1 (omega (arith, some)) in
          never (out.own dst) (bound ∙ ap (λ (y : Bool). cond y (cond (dst == 0) (out.far 0) (out.own dst)) (out.far src)) (sym named.0) ∙ sent)
          (ap (λ (z : Bool). cond z (out.far src) (out.own dst)) (sym named.1) ∙ kept)
      stands_left (ConnectInitiate retransmitted src services info segsize user_data) binds kept sent made_is =
          let named = (both_named (other_out out) src 0 sent kept).1 in absurd cc
      stands_left (ConnectAck dst) binds kept sent made_is = let named = (both_named (other_out out) 0 dst sent kept).0 in absurd cc
      stands_left (NoOperation rest) binds kept sent made_is = let named = (both_named (other_out out) 0 0 sent kept).0 in absurd cc
