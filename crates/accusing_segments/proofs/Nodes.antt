-- A node keeps it that what its links have given in segments was sent, and what its station holds; and a segment that it sends may be sent.
use Rattle.accusing_segments.proofs.Prelude.{◌≡◌, ℕ, Bool, true, false, cond, Option, Some, None, Result, Ok, Err, List, [], ◌∷◌, refl, ap, subst}
use Rattle.accusing_segments.proofs.Prelude.{MessageValue, Fate, is_met, Event, NspValue, DataSegment, LinkService, DataAck, OtherDataAck}
use Rattle.accusing_segments.proofs.Prelude.{ConnectAck, NoOperation, ConnectInitiate, ConnectConfirm, DisconnectInitiate, DisconnectConfirm, Tag}
use Rattle.accusing_segments.proofs.Prelude.{StepRefusal, LinkRefusal, ArrivalValue, body_of, WireStation, HeldPacket, gives_new, Queues, LinkTag}
use Rattle.accusing_segments.proofs.Prelude.{Carried, LinkEventValue, Sent, WireSegments, WireLinks, wire_links_user, wire_links_sent}
use Rattle.accusing_segments.proofs.Prelude.{wire_links_arrived, of_anyone, Rules, by_bytes_with, content, link_event, WireLayers, LayersTag}
use Rattle.accusing_segments.proofs.Prelude.{with_wire_links, with_tag, with_wire_composed, to_wire_station, tag_or_none, wire_sends_first}
use Rattle.accusing_segments.proofs.Prelude.{wire_sends_again, wire_sends_on, wire_keeps_packet, wire_keeps, wire_meets_on, wire_user_on}
use Rattle.accusing_segments.proofs.Prelude.{wire_composes, content_in_range, machine, node_machine, Good, AreHeld, Carries, label_held}
use Rattle.accusing_segments.proofs.Prelude.{arrives_held, user_held, sends_held}
use Rattle.capture_record.specs.declared.event.Event.TheVariants as events
use Rattle.dna_station.specs.Book.{Sound, HeaderBad, DataBad}
use Rattle.accusing_segments.proofs.{Gave.More, Gave.same_more, SegmentSends.fine_more}
use Rattle.accusing_segments.proofs.RightLinks.{Links, AreRight, right_more}
use Rattle.accusing_segments.proofs.LinkSteps.{HasCome, user_right, arrived_right}
use Rattle.accusing_segments.proofs.LinkSends.{HasGone, SendsFine, sent_good}

pub ok_first : {X Y Z : Type 0} (made : X × Y) (x : X) (y : Y) → ◌≡◌ {A = Result (X × Y) Z} (Ok made) (Ok (x, y)) → made.0 ≡ x
ok_first {X} {Y} made x y e = let same : made ≡ (x, y) = cc in ap (λ (p : X × Y). p.0) same

pub ok_is : {X Z : Type 0} (made x : X) → ◌≡◌ {A = Result X Z} (Ok made) (Ok x) → made ≡ x
ok_is made x e = cc

-- what is in a packet is nothing of the links, or this holds of its message
abbrev pub Of : (NspValue → Type 0) → Result (Option Carried) StepRefusal → Type 0
Of Fine (Ok None) = Unit {0}
Of Fine (Ok (Some packet)) = Fine packet.message
Of Fine (Err refusal) = ⊥

abbrev pub In : (NspValue → Type 0) → List ℕ → Type 0
In Fine packet = Of Fine (content packet)

-- so where it comes; what can't be read may
abbrev pub MayCome : Links → Result (Option Carried) StepRefusal → Type 0
MayCome Q (Ok (Some packet)) = HasCome Q packet.message
MayCome Q other = Unit {0}

pub of_more : (Fine Later : NspValue → Type 0) → ((m : NspValue) → Fine m → Later m) → (c : Result (Option Carried) StepRefusal) → Of Fine c →
    Of Later c
of_more Fine Later more (Ok None) is = tt
of_more Fine Later more (Ok (Some packet)) is = more packet.message is
of_more Fine Later more (Err refusal) is = absurd is

pub held_more : {L : Type 0} (P P' : List ℕ → Type 0) → ((body : List ℕ) → P body → P' body) → (held : List (HeldPacket L)) → AreHeld P held →
    AreHeld P' held
held_more P P' more [] are = tt
held_more P P' more (packet ∷ held) are = (more packet.body are.0, held_more P P' more held are.1)

-- what may be sent may go again
fine_still : (Q R : Links) → ((own far : ℕ) → More (Q own far) (R own far)) → (m : NspValue) → SendsFine Q m → SendsFine R m
fine_still Q R more (DataSegment s) fine = fine_more (Q s.srcaddr s.dstaddr) (R s.srcaddr s.dstaddr) s (more s.srcaddr s.dstaddr) fine
fine_still Q R more (LinkService interrupt dst src rest) fine = tt
fine_still Q R more (DataAck dst src acks) fine = tt
fine_still Q R more (OtherDataAck dst src rest) fine = tt
fine_still Q R more (ConnectAck dst) fine = tt
fine_still Q R more (NoOperation rest) fine = tt
fine_still Q R more (ConnectInitiate retransmitted src services info segsize user_data) fine = tt
fine_still Q R more (ConnectConfirm dst src services info segsize user_data) fine = tt
fine_still Q R more (DisconnectInitiate dst src reason user_data) fine = tt
fine_still Q R more (DisconnectConfirm dst src reason) fine = tt

-- a segment in what is composed, and never sent, counts as sent
abbrev pub MayAct : Links → Event → Type 0
MayAct Q (events.Composed packet) = (carried : Carried) → content packet ≡ Ok (Some carried) → HasGone Q carried.message
MayAct Q event = Unit {0}

module _ (queues : Queues) where
  abbrev rules : Rules
  rules = by_bytes_with queues

  pub record IsRight (Q : Links) (s : WireLayers) : Type 0 where
    pub links : AreRight Q queues s.links.links
    pub held : AreHeld (In (SendsFine Q)) s.station.variables.held

  -- ---- what is sent

  module _ (Q R : Links) (more : (own far : ℕ) → More (Q own far) (R own far)) where
    still : (held : List (HeldPacket LinkTag)) → AreHeld (In (SendsFine Q)) held → AreHeld (In (SendsFine R)) held
    still held are =
        held_more (In (SendsFine Q)) (In (SendsFine R)) (λ body was. of_more (SendsFine Q) (SendsFine R) (fine_still Q R more) (content body) was)
        held are

    -- a packet that is sent first
    with_tag_right : (st : WireStation LinkTag × Tag) (m : NspValue) (after : WireLayers) (known : LayersTag)
        (r : Result (Sent WireSegments (Unit {0})) LinkRefusal) →
        Good (λ (made : Sent WireSegments (Unit {0})). AreRight R queues made.links.links × SendsFine Q m) r →
        with_tag st r ≡ Ok (after, known) → (SendsFine Q m → AreHeld (In (SendsFine Q)) st.0.variables.held) → IsRight R after × SendsFine Q m
    with_tag_right st m after known (Ok made) good e held =
        let is = good made refl in
        let right : IsRight R _ = record {
          links = is.0;
          held = label_held (In (SendsFine R)) st.0.variables.held made.truth.tag (still st.0.variables.held (held is.1));
        } in
        (subst (IsRight R) (ok_first _ after known e) right, is.1)
    with_tag_right st m after known (Err refusal) good e held = absurd cc

    first_right : (s : WireLayers) (body : List ℕ) (st : WireStation LinkTag × Tag) (after : WireLayers) (known : LayersTag)
        (c : Result (Option Carried) StepRefusal) → content body ≡ c → wire_sends_first rules s st c ≡ Ok (after, known) →
        AreRight Q queues s.links.links → ((packet : Carried) → content body ≡ Ok (Some packet) → HasGone R packet.message) →
        (Of (SendsFine Q) c → AreHeld (In (SendsFine Q)) st.0.variables.held) → IsRight R after × Of (SendsFine Q) c
    first_right s body st after known (Ok None) is e links gone held = (
      subst (IsRight R) (ok_first _ after known e) (record {
        links = right_more Q R queues more s.links.links links;
        held = label_held (In (SendsFine R)) st.0.variables.held _ (still st.0.variables.held (held tt));
      }),
      tt,
    )
    first_right s body st after known (Ok (Some packet)) is e links gone held =
        with_tag_right st packet.message after known (wire_links_sent queues s.links packet)
        (sent_good Q R queues more s.links links packet (content_in_range body packet is) (gone packet is)) e held
    first_right s body st after known (Err refusal) is e links gone held = absurd cc

    sends_on_right : (s : WireLayers) (m : MessageValue) (after : WireLayers) (known : LayersTag)
        (r : Result (WireStation LinkTag × Tag) StepRefusal) →
        machine.sends s.station m ≡ r → wire_sends_on rules s m r ≡ Ok (after, known) → IsRight Q s →
        ((packet : Carried) → content (body_of m) ≡ Ok (Some packet) → HasGone R packet.message) → IsRight R after × Carries (In (SendsFine Q)) m
    sends_on_right s m after known (Err refusal) made e is gone = absurd cc
    sends_on_right s m after known (Ok st) made e is gone = go (gives_new s.station m) refl e
      where
        held : (gives_new s.station m ≡ true → In (SendsFine Q) (body_of m)) →
            AreHeld (In (SendsFine Q)) st.0.variables.held × Carries (In (SendsFine Q)) m
        held given = sends_held (In (SendsFine Q)) s.station st.0 m st.1 made given is.held

        go : (b : Bool) → gives_new s.station m ≡ b →
            cond b (wire_sends_first rules s st (content (body_of m))) (Ok (wire_sends_again s m st)) ≡ Ok (after, known) →
            IsRight R after × Carries (In (SendsFine Q)) m
        go true new f =
            let all = first_right s (body_of m) st after known (content (body_of m)) refl f is.links gone (λ fine. (held (λ n. fine)).0) in
            (all.0, (held (λ n. all.1)).1)
        go false old f =
            let no : gives_new s.station m ≡ true → In (SendsFine Q) (body_of m) = λ n. absurd cc in (
              subst (IsRight R) (ok_first _ after known f) (record {
                links = right_more Q R queues more s.links.links is.links;
                held = still st.0.variables.held (held no).0;
              }),
              (held no).1,
            )

    pub sends_right : (s after : WireLayers) (m : MessageValue) (known : LayersTag) → (node_machine queues).sends s m ≡ Ok (after, known) →
        IsRight Q s → ((packet : Carried) → content (body_of m) ≡ Ok (Some packet) → HasGone R packet.message) →
        IsRight R after × Carries (In (SendsFine Q)) m
    sends_right s after m known e is gone = sends_on_right s m after known (machine.sends s.station m) refl e is gone

    -- one unit more passed
    pub right_later : (s : WireLayers) → IsRight Q s → IsRight R s
    right_later s is =
        record { links = right_more Q R queues more s.links.links is.links; held = still s.station.variables.held is.held }

  -- ---- what comes

  module _ (Q : Links) where
    abbrev Right : WireLayers → Type 0
    Right s = IsRight Q s

    with_links_right : (s after : WireLayers) (r : Result WireLinks LinkRefusal) → Good (λ (made : WireLinks). AreRight Q queues made.links) r →
        with_wire_links s r ≡ Ok after → AreHeld (In (SendsFine Q)) s.station.variables.held → Right after
    with_links_right s after (Ok links) good e held = subst Right (ok_is _ after e) (record { links = good links refl; held = held })
    with_links_right s after (Err refusal) good e held = absurd cc

    packet_right : (s after : WireLayers) (tag : LinkTag) (body : List ℕ) (c : Result (Option Carried) StepRefusal) → content body ≡ c →
        MayCome Q c → wire_keeps_packet rules s tag c ≡ Ok after → Right s → Right after
    packet_right s after tag body (Ok None) read may e is = subst Right (ok_is _ after e) is
    packet_right s after tag body (Ok (Some packet)) read may e is =
        with_links_right s after (wire_links_arrived queues of_anyone s.links packet tag)
        (arrived_right Q queues s.links is.links of_anyone packet tag (content_in_range body packet read) may) e is.held
    packet_right s after tag body (Err refusal) read may e is = absurd cc

    -- the packet in what arrives may come
    abbrev pub MayArrive : ArrivalValue LayersTag → Type 0
    MayArrive (Sound m tag) = MayCome Q (content (body_of m))
    MayArrive HeaderBad = Unit {0}
    MayArrive DataBad = Unit {0}

    keeps_right : (s after : WireLayers) (arrival : ArrivalValue LayersTag) → MayArrive arrival → wire_keeps rules s arrival ≡ Ok after →
        Right s → Right after
    keeps_right s after (Sound m tag) may e is = packet_right s after (tag_or_none tag.link) (body_of m) (content (body_of m)) refl may e is
    keeps_right s after HeaderBad may e is = subst Right (ok_is _ after e) is
    keeps_right s after DataBad may e is = subst Right (ok_is _ after e) is

    meets_right : (s after : WireLayers) (arrival : ArrivalValue LayersTag) (fate : Fate) (r : Result (WireStation LinkTag) StepRefusal) →
        machine.arrives s.station (to_wire_station arrival) fate ≡ r → wire_meets_on rules s arrival fate r ≡ Ok after → MayArrive arrival →
        Right s → Right after
    meets_right s after arrival fate (Err refusal) made e may is = absurd cc
    meets_right s after arrival fate (Ok station) made e may is = go (is_met fate) e
      where
        next : Right (record s { station = station })
        next = record {
          links = is.links;
          held = arrives_held (In (SendsFine Q)) s.station station (to_wire_station arrival) fate made is.held;
        }

        go : (b : Bool) → cond b (wire_keeps rules (record s { station = station }) arrival) (Ok (record s { station = station })) ≡ Ok after →
            Right after
        go true f = keeps_right (record s { station = station }) after arrival may f next
        go false f = subst Right (ok_is _ after f) next

    pub arrives_right : (s after : WireLayers) (arrival : ArrivalValue LayersTag) (fate : Fate) →
        (node_machine queues).arrives s arrival fate ≡ Ok after → MayArrive arrival → Right s → Right after
    arrives_right s after arrival fate e may is =
        meets_right s after arrival fate (machine.arrives s.station (to_wire_station arrival) fate) refl e may is

    -- ---- what the user does

    user_on_right : (s after : WireLayers) (event : Event) (of_links : Option LinkEventValue) (r : Result (WireStation LinkTag) StepRefusal) →
        machine.user s.station event ≡ r → wire_user_on rules s of_links r ≡ Ok after → Right s → Right after
    user_on_right s after event None (Ok station) made e is =
        subst Right (ok_is _ after e)
        (record { links = is.links; held = user_held (In (SendsFine Q)) s.station station event made is.held })
    user_on_right s after event None (Err refusal) made e is = absurd cc
    user_on_right s after event (Some of_links) (Ok station) made e is =
        with_links_right (record s { station = station }) after (wire_links_user queues s.links of_links)
        (user_right Q queues s.links is.links of_links) e (user_held (In (SendsFine Q)) s.station station event made is.held)
    user_on_right s after event (Some of_links) (Err refusal) made e is = absurd cc

    composed_right : (s after : WireLayers) (body : List ℕ) (c : Result (Option Carried) StepRefusal) → content body ≡ c →
        ((packet : Carried) → content body ≡ Ok (Some packet) → HasGone Q packet.message) → wire_composes rules s c ≡ Ok after → Right s → Right after
    composed_right s after body (Ok None) read gone e is = subst Right (ok_is _ after e) is
    composed_right s after body (Ok (Some packet)) read gone e is =
        go (wire_links_sent queues s.links packet)
        (sent_good Q Q queues (λ own far. same_more (Q own far)) s.links is.links packet (content_in_range body packet read) (gone packet read)) e
      where
        go : (r : Result (Sent WireSegments (Unit {0})) LinkRefusal) →
            Good (λ (made : Sent WireSegments (Unit {0})). AreRight Q queues made.links.links × SendsFine Q packet.message) r →
            with_wire_composed s r ≡ Ok after → Right after
        go (Ok made) good f = subst Right (ok_is _ after f) (record { links = (good made refl).0; held = is.held })
        go (Err refusal) good f = absurd cc
    composed_right s after body (Err refusal) read gone e is = absurd cc

    pub acts_right : (s after : WireLayers) (event : Event) → MayAct Q event → (node_machine queues).user s event ≡ Ok after → Right s → Right after
    acts_right s after (events.Composed packet) sent e is = composed_right s after packet (content packet) refl sent e is
    acts_right s after event sent e is = user_on_right s after event (link_event event) (machine.user s.station event) refl e is
