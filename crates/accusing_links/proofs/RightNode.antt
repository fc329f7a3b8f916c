-- A node of which all is right, by what passed: its own steps keep it so, what comes does, and what it sends is right.
use Rattle.accusing_links.proofs.Prelude.{◌≡◌, ℕ, Bool, true, ◌&&◌, cond, eqb, Option, Some, None, Result, Ok, Err, List, refl, sym, subst, ap, ap₂}
use Rattle.accusing_links.proofs.Prelude.{◌⊎◌, inl, inr, eq-eqb, and_from, MessageValue, Data, Ack, Nak, Rep, Strt, Stack, ReadingValue, reading}
use Rattle.accusing_links.proofs.Prelude.{Sound, Malformed, Fate, NspValue, DataSegment, DataAck, LinkService, OtherDataAck, ConnectAck}
use Rattle.accusing_links.proofs.Prelude.{NoOperation, ConnectInitiate, ConnectConfirm, DisconnectInitiate, DisconnectConfirm, IsInRange, Head}
use Rattle.accusing_links.proofs.Prelude.{StepRefusal, body_of, Queues, LinkTag, Carried, LinkEventValue, Sent, WireSegments, WireLinks}
use Rattle.accusing_links.proofs.Prelude.{wire_links_user, wire_links_sent, wire_links_arrived, of_anyone, content, WireLayers, LayersTag, Passed}
use Rattle.accusing_links.proofs.Prelude.{IsDamage, comes, Wrong, NoLink, WrongAck, node_machine, packet_in, is_this, shown_in, shown_by, passed_of}
use Rattle.accusing_links.proofs.Prelude.{segment_of, CI, CC, RUN, connect_of, heard, wrong_content, wrong_in}
use Rattle.ddcmp_msg.specs.Reading.{HeaderBad, DataBad}
use Rattle.dna_station.specs.Book as arrival
use Rattle.accusing_links.specs.declared.wrong.Wrong.TheVariants.{WrongNode}
use Rattle.accusing_links.proofs.{Answered.Good, Held.Carries, Named.NamesOwn, LinkSends.sent_right, LinkSends.sent_fine, Tied.AreTied}
use Rattle.accusing_links.proofs.Addresses.{HaveAddresses, GoesOut, user_keeps, arrived_keeps, sent_keeps}
use Rattle.accusing_links.proofs.Nodes.{HasFine, IsFine, MayCome, AreKept, IsRight, arrives_right}
use Rattle.accusing_links.proofs.RightLinks.{Numbers, AreRight}
use Rattle.accusing_links.proofs.LinkSteps.{HasPassed, AcksFine, user_right, arrived_right}
use Rattle.accusing_links.proofs.TiedSteps.{ConnectPassed, user_tied, arrived_tied}
use Rattle.accusing_links.proofs.TiedSends.{LinkFine, sent_tied, sent_linked}
use Rattle.accusing_links.proofs.Passing.{AsNumbers, message_right, link_right}

module _ (queues : Queues) (head : Head) where
  module _ (before : List Passed) where
    abbrev pub N : Numbers
    N = AsNumbers (passed_of segment_of before)

    abbrev pub P : Numbers
    P = AsNumbers (passed_of connect_of before)

    pub record Is (s : WireLinks) : Type 0 where
      pub addresses : HaveAddresses head.own head.peer s
      pub right : AreRight N queues s.links
      pub tied : AreTied P queues s.links

    pub record Fine (packet : Carried) : Type 0 where
      pub out : GoesOut head.own head.peer packet
      pub acks : AcksFine N packet.message
      pub link : LinkFine P packet.message

    pub record Comes (packet : Carried) : Type 0 where
      pub segment : HasPassed N packet.message
      pub connect : ConnectPassed P packet.message

    user_kept : (s : WireLinks) (event : LinkEventValue) → NamesOwn event → Is s → Good Is (wire_links_user queues s event)
    user_kept s event names is made e = record {
      addresses = user_keeps queues head.own head.peer s is.addresses event made e;
      right = user_right N queues s is.right event made e;
      tied = user_tied P queues s is.tied event names made e;
    }

    sent_kept : (s : WireLinks) (packet : Carried) → Is s → IsInRange packet.message →
        Good (λ (made : Sent WireSegments (Unit {0})). Is made.links × Fine packet) (wire_links_sent queues s packet)
    sent_kept s packet is small made e =
        let out = sent_keeps queues head.own head.peer s is.addresses packet made e in (
          record {
            addresses = out.0;
            right = sent_right N queues s is.right packet small made e;
            tied = sent_tied P queues s is.tied packet made e;
          },
          record {
            out = out.1;
            acks = sent_fine N queues s is.right packet small made e;
            link = sent_linked P queues s is.tied packet made e;
          },
        )

    arrived_kept : (s : WireLinks) (packet : Carried) (tag : LinkTag) → Is s → IsInRange packet.message → Comes packet →
        Good Is (wire_links_arrived queues of_anyone s packet tag)
    arrived_kept s packet tag is small came made e = record {
      addresses = arrived_keeps queues head.own head.peer s is.addresses of_anyone packet tag made e;
      right = arrived_right N queues s is.right of_anyone packet tag small came.segment made e;
      tied = arrived_tied P queues s is.tied of_anyone packet tag came.connect made e;
    }

    pub kept : AreKept queues Is Fine Comes
    kept = record { user = user_kept; sent = sent_kept; arrived = arrived_kept }

    abbrev pub Right : WireLayers → Type 0
    Right s = IsRight queues Is Fine Comes kept s

    -- ---- what comes

    -- what is in a packet passed
    pub record Came (packet : Option (List ℕ)) : Type 0 where
      pub segments : (a b c : ℕ) → shown_by segment_of packet a b c ≡ true → N a b c
      pub connects : (a b c : ℕ) → shown_by connect_of packet a b c ≡ true → P a b c

    this_is : (a b c : ℕ) → is_this (a, b, c) a b c ≡ true
    this_is a b c =
        and_from (eqb a a) (eqb b b && eqb c c) (eq-eqb a a refl) (and_from (eqb b b) (eqb c c) (eq-eqb b b refl) (eq-eqb c c refl))

    segment_passed : (m : NspValue) → ((a b c : ℕ) → segment_of m a b c ≡ true → N a b c) → HasPassed N m
    segment_passed (DataSegment s) came = came s.dstaddr s.srcaddr s.number (this_is s.dstaddr s.srcaddr s.number)
    segment_passed (LinkService interrupt dst src rest) came = tt
    segment_passed (DataAck dst src acks) came = tt
    segment_passed (OtherDataAck dst src rest) came = tt
    segment_passed (ConnectAck dst) came = tt
    segment_passed (NoOperation rest) came = tt
    segment_passed (ConnectInitiate retransmitted src services info segsize user_data) came = tt
    segment_passed (ConnectConfirm dst src services info segsize user_data) came = tt
    segment_passed (DisconnectInitiate dst src reason user_data) came = tt
    segment_passed (DisconnectConfirm dst src reason) came = tt

    connect_passed : (m : NspValue) → ((a b c : ℕ) → connect_of m a b c ≡ true → P a b c) → ConnectPassed P m
    connect_passed (ConnectInitiate retransmitted src services info segsize user_data) came = came CI 0 src (this_is CI 0 src)
    connect_passed (ConnectConfirm dst src services info segsize user_data) came = came CC dst src (this_is CC dst src)
    connect_passed (DataSegment s) came = came RUN s.dstaddr s.srcaddr (this_is RUN s.dstaddr s.srcaddr)
    connect_passed (LinkService interrupt dst src rest) came = came RUN dst src (this_is RUN dst src)
    connect_passed (DataAck dst src acks) came = came RUN dst src (this_is RUN dst src)
    connect_passed (OtherDataAck dst src rest) came = came RUN dst src (this_is RUN dst src)
    connect_passed (ConnectAck dst) came = tt
    connect_passed (NoOperation rest) came = tt
    connect_passed (DisconnectInitiate dst src reason user_data) came = tt
    connect_passed (DisconnectConfirm dst src reason) came = tt

    may_come : (c : Result (Option Carried) StepRefusal) → ((a b c' : ℕ) → shown_in segment_of c a b c' ≡ true → N a b c') →
        ((a b c' : ℕ) → shown_in connect_of c a b c' ≡ true → P a b c') → MayCome Comes c
    may_come (Ok None) segments connects = tt
    may_come (Ok (Some packet)) segments connects =
        record { segment = segment_passed packet.message segments; connect = connect_passed packet.message connects }
    may_come (Err refusal) segments connects = tt

    pub message_may : (m : MessageValue) → Came (packet_in (Sound m)) → MayCome Comes (content (body_of m))
    message_may (Data flags resp num body) came = may_come (content body) came.segments came.connects
    message_may (Ack flags resp) came = tt
    message_may (Nak flags reason resp) came = tt
    message_may (Rep flags num) came = tt
    message_may (Strt flags) came = tt
    message_may (Stack flags) came = tt

    pub damage_right : (s after : WireLayers) (tag : LayersTag) (fate : Fate) (r : ReadingValue) → IsDamage r →
        comes (node_machine queues) s tag fate r ≡ Ok after → Right s → Right after
    damage_right s after tag fate HeaderBad damage e is = arrives_right queues Is Fine Comes kept s after arrival.HeaderBad fate e tt is
    damage_right s after tag fate DataBad damage e is = arrives_right queues Is Fine Comes kept s after arrival.DataBad fate e tt is
    damage_right s after tag fate (Sound m) damage e is = absurd damage
    damage_right s after tag fate (Malformed departure) damage e is = absurd damage

    unit_right : (s after : WireLayers) (tag : LayersTag) (fate : Fate) (unit : List ℕ) (r : ReadingValue) → reading unit ≡ r →
        Came (packet_in (reading unit)) →
        comes (node_machine queues) s tag fate r ≡ Ok after → Right s → Right after
    unit_right s after tag fate unit (Sound m) read came e is =
        arrives_right queues Is Fine Comes kept s after (arrival.Sound m tag) fate e
        (message_may m (subst (λ (x : ReadingValue). Came (packet_in x)) read came)) is
    unit_right s after tag fate unit HeaderBad read came e is = damage_right s after tag fate HeaderBad tt e is
    unit_right s after tag fate unit DataBad read came e is = damage_right s after tag fate DataBad tt e is
    unit_right s after tag fate unit (Malformed departure) read came e is = let same : s ≡ after = cc in subst Right same is

    pub comes_right : (s after : WireLayers) (tag : LayersTag) (fate : Fate) (unit bytes : List ℕ) → (bytes ≡ unit) ⊎ IsDamage (reading bytes) →
        Came (packet_in (reading unit)) → comes (node_machine queues) s tag fate (reading bytes) ≡ Ok after → Right s → Right after
    comes_right s after tag fate unit bytes (inl same) came e is = unit_right s after tag fate unit (reading bytes) (ap reading (sym same)) came e is
    comes_right s after tag fate unit bytes (inr damage) came e is = damage_right s after tag fate (reading bytes) damage e is

    -- ---- what is sent

    fine_content : (c : Result (Option Carried) StepRefusal) → HasFine Fine c → wrong_content head (heard before) c ≡ None
    fine_content (Ok None) fine = refl
    fine_content (Ok (Some packet)) fine =
        ap₂ (λ (b : Bool) (o : Option Wrong). cond b o (Some WrongNode)) fine.out
        (ap₂ (λ (a b : Bool). cond a (cond b None (Some WrongAck)) (Some NoLink))
        (link_right (passed_of connect_of before) packet.message fine.link) (message_right (passed_of segment_of before) packet.message fine.acks))
    fine_content (Err refusal) fine = absurd fine

    pub fine_message : (m : MessageValue) → Carries (IsFine Fine) m → wrong_in head (heard before) (packet_in (Sound m)) ≡ None
    fine_message (Data flags resp num body) fine = fine_content (content body) fine
    fine_message (Ack flags resp) fine = refl
    fine_message (Nak flags reason resp) fine = refl
    fine_message (Rep flags num) fine = refl
    fine_message (Strt flags) fine = refl
    fine_message (Stack flags) fine = refl
