-- A node keeps it that one link alone has these addresses, and its station that what it holds was sent.
use Rattle.accusing_segments.proofs.Prelude.{◌≡◌, ℕ, Bool, true, false, cond, Option, Some, None, Result, Ok, Err, List, refl, sym, subst, ◌⊎◌, inl}
use Rattle.accusing_segments.proofs.Prelude.{inr, MessageValue, Data, Ack, Nak, Rep, Strt, Stack, Fate, is_met, Event, NspValue, SegmentValue}
use Rattle.accusing_segments.proofs.Prelude.{DataSegment, LinkService, DataAck, OtherDataAck, ConnectAck, NoOperation, ConnectInitiate}
use Rattle.accusing_segments.proofs.Prelude.{ConnectConfirm, DisconnectInitiate, DisconnectConfirm, Tag, StepRefusal, LinkRefusal, ArrivalValue}
use Rattle.accusing_segments.proofs.Prelude.{body_of, WireStation, HeldPacket, gives_new, Queues, LinkTag, Carried, Piece, piece_of, LinkEventValue}
use Rattle.accusing_segments.proofs.Prelude.{Sent, WireSegments, WireLinks, wire_links_user, wire_links_sent, wire_links_arrived, of_anyone, Rules}
use Rattle.accusing_segments.proofs.Prelude.{by_bytes_with, content, link_event, WireLayers, LayersTag, with_wire_links, with_tag}
use Rattle.accusing_segments.proofs.Prelude.{with_wire_composed, to_wire_station, tag_or_none, wire_sends_first, wire_sends_again, wire_sends_on}
use Rattle.accusing_segments.proofs.Prelude.{wire_keeps_packet, wire_keeps, wire_meets_on, wire_user_on, wire_composes, content_in_range, machine}
use Rattle.accusing_segments.proofs.Prelude.{node_machine, Good, AreHeld, Carries, label_held, arrives_held, user_held, sends_held}
use Rattle.capture_record.specs.declared.event.Event.TheVariants as events
use Rattle.dna_station.specs.Book.{Sound, HeaderBad, DataBad}
use Rattle.accusing_segments.proofs.{SegmentSends.Gone, SentPieces.Shown, SentPieces.Covered, RightLinks.Links, RightLinks.AreRight, EachLink.All}
use Rattle.accusing_segments.proofs.{OneCall.IsMine, OneCallSteps.AllMine, OneCallSteps.user_mine}
use Rattle.accusing_segments.proofs.Nodes.{Of, In, of_more, held_more, ok_first, ok_is}
use Rattle.accusing_segments.proofs.OneCallSends.{IsOf, IsAgreed, mine_less, mine_sent}

module _ (queues : Queues) (own far : ℕ) where
  abbrev rules : Rules
  rules = by_bytes_with queues

  -- a message that the station holds, where it is such a segment, was sent
  abbrev pub WasSent : Shown → NspValue → Type 0
  WasSent S (DataSegment m) = m.srcaddr ≡ own → m.dstaddr ≡ far → S m.number (piece_of m)
  WasSent S m = Unit {0}

  -- such a segment in a packet, and in a unit
  abbrev pub InContent : Result (Option Carried) StepRefusal → Shown
  InContent (Ok (Some packet)) n p = IsOf own far packet.message n p
  InContent (Ok None) n p = ⊥
  InContent (Err refusal) n p = ⊥

  abbrev pub InMessage : MessageValue → Shown
  InMessage (Data flags resp num body) n p = InContent (content body) n p
  InMessage m n p = ⊥

  pub was_more : (S T : Shown) → ((n : ℕ) (p : Piece) → S n p → T n p) → (m : NspValue) → WasSent S m → WasSent T m
  was_more S T more (DataSegment m) was = λ o f. more m.number (piece_of m) (was o f)
  was_more S T more (LinkService interrupt dst src rest) was = tt
  was_more S T more (DataAck dst src acks) was = tt
  was_more S T more (OtherDataAck dst src rest) was = tt
  was_more S T more (ConnectAck dst) was = tt
  was_more S T more (NoOperation rest) was = tt
  was_more S T more (ConnectInitiate retransmitted src services info segsize user_data) was = tt
  was_more S T more (ConnectConfirm dst src services info segsize user_data) was = tt
  was_more S T more (DisconnectInitiate dst src reason user_data) was = tt
  was_more S T more (DisconnectConfirm dst src reason) was = tt

  was_sent : (S : Shown) (m : NspValue) (n : ℕ) (p : Piece) → WasSent S m → IsOf own far m n p → S n p
  was_sent S (DataSegment m) n p was this =
      subst (λ (x : ℕ). S x p) (sym this.1.0) (subst (S m.number) (sym this.1.1) (was this.0.0 this.0.1))
  was_sent S (LinkService interrupt dst src rest) n p was this = absurd this
  was_sent S (DataAck dst src acks) n p was this = absurd this
  was_sent S (OtherDataAck dst src rest) n p was this = absurd this
  was_sent S (ConnectAck dst) n p was this = absurd this
  was_sent S (NoOperation rest) n p was this = absurd this
  was_sent S (ConnectInitiate retransmitted src services info segsize user_data) n p was this = absurd this
  was_sent S (ConnectConfirm dst src services info segsize user_data) n p was this = absurd this
  was_sent S (DisconnectInitiate dst src reason user_data) n p was this = absurd this
  was_sent S (DisconnectConfirm dst src reason) n p was this = absurd this

  was_in : (S : Shown) (c : Result (Option Carried) StepRefusal) (n : ℕ) (p : Piece) → Of (WasSent S) c → InContent c n p → S n p
  was_in S (Ok None) n p was this = absurd this
  was_in S (Ok (Some packet)) n p was this = was_sent S packet.message n p was this
  was_in S (Err refusal) n p was this = absurd this

  was_carried : (S : Shown) (m : MessageValue) (n : ℕ) (p : Piece) → Carries (In (WasSent S)) m → InMessage m n p → S n p
  was_carried S (Data flags resp num body) n p was this = was_in S (content body) n p was this
  was_carried S (Ack flags resp) n p was this = absurd this
  was_carried S (Nak flags reason resp) n p was this = absurd this
  was_carried S (Rep flags num) n p was this = absurd this
  was_carried S (Strt flags) n p was this = absurd this
  was_carried S (Stack flags) n p was this = absurd this

  in_content : (c d : Result (Option Carried) StepRefusal) (n : ℕ) (p : Piece) → c ≡ d → InContent c n p → InContent d n p
  in_content c d n p same this = subst (λ (x : Result (Option Carried) StepRefusal). InContent x n p) same this

  in_message : (m : MessageValue) (c : Result (Option Carried) StepRefusal) (n : ℕ) (p : Piece) → content (body_of m) ≡ c → InMessage m n p →
      InContent c n p
  in_message (Data flags resp num body) c n p is this = in_content (content body) c n p is this
  in_message (Ack flags resp) c n p is this = absurd this
  in_message (Nak flags reason resp) c n p is this = absurd this
  in_message (Rep flags num) c n p is this = absurd this
  in_message (Strt flags) c n p is this = absurd this
  in_message (Stack flags) c n p is this = absurd this

  pub record IsHeld (S : Shown) (Qs : Links) (one : Option ℕ) (s : WireLayers) : Type 0 where
    pub links : All queues (IsMine queues own far S (Qs own far) one) s.links.links
    pub held : AreHeld (In (WasSent S)) s.station.variables.held

  -- ---- what is sent

  -- what is said of a piece that is sent
  abbrev pub Agreed : Shown → Links → Option ℕ → Shown
  Agreed S Qs one n p = ((i : ℕ) × (Some i ≡ one)) × ((q : Piece) → S n q → (q ≡ p) ⊎ Covered (Qs own far).word n)

  module _ (S T : Shown) (Qs : Links) (one : Option ℕ) (any : (m : SegmentValue) → Gone (Qs own far) m)
      (more : (n : ℕ) (p : Piece) → S n p → T n p) where
    agreed_at : (s : WireLinks) (old : AreRight Qs queues s.links) (m : NspValue) (n : ℕ) (p : Piece) →
        IsAgreed queues own far S T Qs one any s old m → IsOf own far m n p → Agreed S Qs one n p
    agreed_at s old (DataSegment m) n p agreed this =
        subst (λ (x : ℕ). Agreed S Qs one x p) (sym this.1.0) (subst (Agreed S Qs one m.number) (sym this.1.1) (agreed this.0.0 this.0.1))
    agreed_at s old (LinkService interrupt dst src rest) n p agreed this = absurd this
    agreed_at s old (DataAck dst src acks) n p agreed this = absurd this
    agreed_at s old (OtherDataAck dst src rest) n p agreed this = absurd this
    agreed_at s old (ConnectAck dst) n p agreed this = absurd this
    agreed_at s old (NoOperation rest) n p agreed this = absurd this
    agreed_at s old (ConnectInitiate retransmitted src services info segsize user_data) n p agreed this = absurd this
    agreed_at s old (ConnectConfirm dst src services info segsize user_data) n p agreed this = absurd this
    agreed_at s old (DisconnectInitiate dst src reason user_data) n p agreed this = absurd this
    agreed_at s old (DisconnectConfirm dst src reason) n p agreed this = absurd this

    still : (held : List (HeldPacket LinkTag)) → AreHeld (In (WasSent S)) held → AreHeld (In (WasSent T)) held
    still held are =
        held_more (In (WasSent S)) (In (WasSent T)) (λ body was. of_more (WasSent S) (WasSent T) (was_more S T more) (content body) was) held are

    module _ (m : MessageValue) (grows : (n : ℕ) (p : Piece) → T n p → S n p ⊎ InMessage m n p)
        (gone : (packet : Carried) → content (body_of m) ≡ Ok (Some packet) → WasSent T packet.message) where
      abbrev Says : Type 0
      Says = (n : ℕ) (p : Piece) → InMessage m n p → S n p ⊎ Agreed S Qs one n p

      links_less : ((n : ℕ) (p : Piece) → InMessage m n p → S n p) → (s : WireLinks) (old : AreRight Qs queues s.links) →
          All queues (IsMine queues own far S (Qs own far) one) s.links → All queues (IsMine queues own far T (Qs own far) one) s.links
      links_less was s old are n l at = mine_less queues own far S T Qs one any s old less n l (are n l at)
        where
          less : (n : ℕ) (p : Piece) → T n p → S n p
          less n p sent = go (grows n p sent)
            where
              go : S n p ⊎ InMessage m n p → S n p
              go (inl there) = there
              go (inr this) = was n p this

      -- a packet that is sent first
      tagged : (s : WireLinks) (old : AreRight Qs queues s.links) (st : WireStation LinkTag × Tag) (packet : Carried) (after : WireLayers)
          (known : LayersTag) (r : Result (Sent WireSegments (Unit {0})) LinkRefusal) →
          Good (λ (made : Sent WireSegments (Unit {0})). All queues (IsMine queues own far T (Qs own far) one) made.links.links
          × IsAgreed queues own far S T Qs one any s old packet.message) r →
          with_tag st r ≡ Ok (after, known) → AreHeld (In (WasSent T)) st.0.variables.held →
          IsHeld T Qs one after × IsAgreed queues own far S T Qs one any s old packet.message
      tagged s old st packet after known (Ok made) good e held =
          let is = good made refl in (
            subst (IsHeld T Qs one) (ok_first _ after known e)
                (record { links = is.0; held = label_held (In (WasSent T)) st.0.variables.held made.truth.tag held }),
            is.1,
          )
      tagged s old st packet after known (Err refusal) good e held = absurd cc

      first_mine : (s : WireLayers) (st : WireStation LinkTag × Tag) (after : WireLayers) (known : LayersTag)
          (c : Result (Option Carried) StepRefusal) → content (body_of m) ≡ c → wire_sends_first rules s st c ≡ Ok (after, known) →
          AreRight Qs queues s.links.links → All queues (IsMine queues own far S (Qs own far) one) s.links.links →
          (Of (WasSent T) c → AreHeld (In (WasSent T)) st.0.variables.held) → IsHeld T Qs one after × Says
      first_mine s st after known (Ok None) is e old are held = (
        subst (IsHeld T Qs one) (ok_first _ after known e) (record {
          links = links_less (λ n p this. absurd (in_message m (Ok None) n p is this)) s.links old are;
          held = label_held (In (WasSent T)) st.0.variables.held _ (held tt);
        }),
        λ n p this. absurd (in_message m (Ok None) n p is this),
      )
      first_mine s st after known (Ok (Some packet)) is e old are held =
          let all = tagged s.links old st packet after known (wire_links_sent queues s.links packet)
          (mine_sent queues own far S T Qs one any s.links old are packet (content_in_range (body_of m) packet is) of_it) e (held (gone packet is)) in
          (all.0, λ n p this. inr (agreed_at s.links old packet.message n p all.1 (in_message m (Ok (Some packet)) n p is this)))
        where
          of_it : (n : ℕ) (p : Piece) → T n p → S n p ⊎ IsOf own far packet.message n p
          of_it n p sent = go (grows n p sent)
            where
              go : S n p ⊎ InMessage m n p → S n p ⊎ IsOf own far packet.message n p
              go (inl there) = inl there
              go (inr this) = inr (in_message m (Ok (Some packet)) n p is this)
      first_mine s st after known (Err refusal) is e old are held = absurd cc

      sends_on : (s : WireLayers) (after : WireLayers) (known : LayersTag) (r : Result (WireStation LinkTag × Tag) StepRefusal) →
          machine.sends s.station m ≡ r → wire_sends_on rules s m r ≡ Ok (after, known) → AreRight Qs queues s.links.links → IsHeld S Qs one s →
          IsHeld T Qs one after × Says
      sends_on s after known (Err refusal) made e old is = absurd cc
      sends_on s after known (Ok st) made e old is = go (gives_new s.station m) refl e
        where
          go : (b : Bool) → gives_new s.station m ≡ b →
              cond b (wire_sends_first rules s st (content (body_of m))) (Ok (wire_sends_again s m st)) ≡ Ok (after, known) →
              IsHeld T Qs one after × Says
          go true new f =
              first_mine s st after known (content (body_of m)) refl f old is.links
              (λ fine. (sends_held (In (WasSent T)) s.station st.0 m st.1 made (λ n. fine) (still s.station.variables.held is.held)).0)
          go false not_new f =
              let again : gives_new s.station m ≡ true → In (WasSent S) (body_of m) = λ n. absurd cc in
              let all = sends_held (In (WasSent S)) s.station st.0 m st.1 made again is.held in (
                subst (IsHeld T Qs one) (ok_first _ after known f) (record {
                  links = links_less (λ n p this. was_carried S m n p all.1 this) s.links old is.links;
                  held = still st.0.variables.held all.0;
                }),
                λ n p this. inl (was_carried S m n p all.1 this),
              )

      pub sends_mine : (s after : WireLayers) (known : LayersTag) → (node_machine queues).sends s m ≡ Ok (after, known) →
          AreRight Qs queues s.links.links → IsHeld S Qs one s → IsHeld T Qs one after × Says
      sends_mine s after known e old is = sends_on s after known (machine.sends s.station m) refl e old is

  -- ---- what comes

  module _ (S : Shown) (Qs : Links) where
    -- where this holds whatever the station keeps, and after what comes for the links
    module _ (H : WireLinks → Type 0) (s : WireLayers) (stays : H s.links) where
      abbrev Left : WireLayers → Type 0
      Left x = H x.links × AreHeld (In (WasSent S)) x.station.variables.held

      abbrev pub MayMeet : ArrivalValue LayersTag → Type 0
      MayMeet (Sound m tag) = (packet : Carried) → content (body_of m) ≡ Ok (Some packet) → (of : LinkTag) →
          Good H (wire_links_arrived queues of_anyone s.links packet of)
      MayMeet HeaderBad = Unit {0}
      MayMeet DataBad = Unit {0}

      met_packet : (x after : WireLayers) → x.links ≡ s.links → (tag : LinkTag) (body : List ℕ) (c : Result (Option Carried) StepRefusal) →
          content body ≡ c →
          ((packet : Carried) → content body ≡ Ok (Some packet) → (of : LinkTag) → Good H (wire_links_arrived queues of_anyone s.links packet of)) →
          wire_keeps_packet rules x tag c ≡ Ok after → AreHeld (In (WasSent S)) x.station.variables.held → Left after
      met_packet x after same tag body (Ok None) read may e held =
          subst Left (ok_is _ after e) (subst H (sym same) stays, held)
      met_packet x after same tag body (Ok (Some packet)) read may e held =
          go (wire_links_arrived queues of_anyone x.links packet tag)
          (subst (λ (y : WireLinks). Good H (wire_links_arrived queues of_anyone y packet tag)) (sym same) (may packet read tag)) e
        where
          go : (r : Result WireLinks LinkRefusal) → Good H r → with_wire_links x r ≡ Ok after → Left after
          go (Ok links) good f = subst Left (ok_is _ after f) (good links refl, held)
          go (Err refusal) good f = absurd cc
      met_packet x after same tag body (Err refusal) read may e held = absurd cc

      met : (x after : WireLayers) → x.links ≡ s.links → (arrival : ArrivalValue LayersTag) → MayMeet arrival →
          wire_keeps rules x arrival ≡ Ok after → AreHeld (In (WasSent S)) x.station.variables.held → Left after
      met x after same (Sound m tag) may e held =
          met_packet x after same (tag_or_none tag.link) (body_of m) (content (body_of m)) refl may e held
      met x after same HeaderBad may e held = subst Left (ok_is _ after e) (subst H (sym same) stays, held)
      met x after same DataBad may e held = subst Left (ok_is _ after e) (subst H (sym same) stays, held)

      meets_on : (after : WireLayers) (arrival : ArrivalValue LayersTag) (fate : Fate) (r : Result (WireStation LinkTag) StepRefusal) →
          machine.arrives s.station (to_wire_station arrival) fate ≡ r → wire_meets_on rules s arrival fate r ≡ Ok after → MayMeet arrival →
          AreHeld (In (WasSent S)) s.station.variables.held → Left after
      meets_on after arrival fate (Err refusal) made e may held = absurd cc
      meets_on after arrival fate (Ok station) made e may held = go (is_met fate) e
        where
          now : AreHeld (In (WasSent S)) station.variables.held
          now = arrives_held (In (WasSent S)) s.station station (to_wire_station arrival) fate made held

          go : (b : Bool) → cond b (wire_keeps rules (record s { station = station }) arrival) (Ok (record s { station = station })) ≡ Ok after →
              Left after
          go true f = met (record s { station = station }) after refl arrival may f now
          go false f = subst Left (ok_is _ after f) (stays, now)

      pub arrives_mine : (after : WireLayers) (arrival : ArrivalValue LayersTag) (fate : Fate) →
          (node_machine queues).arrives s arrival fate ≡ Ok after → MayMeet arrival → AreHeld (In (WasSent S)) s.station.variables.held → Left after
      arrives_mine after arrival fate e may held =
          meets_on after arrival fate (machine.arrives s.station (to_wire_station arrival) fate) refl e may held

    -- ---- what the user does

    module _ (one : Option ℕ) (any : (m : SegmentValue) → Gone (Qs own far) m) (s : WireLayers) (old : AreRight Qs queues s.links.links)
        (is : IsHeld S Qs one s) where
      user_on : (after : WireLayers) (event : Event) (of_links : Option LinkEventValue) (r : Result (WireStation LinkTag) StepRefusal) →
          machine.user s.station event ≡ r → wire_user_on rules s of_links r ≡ Ok after → IsHeld S Qs one after
      user_on after event None (Ok station) made e =
          subst (IsHeld S Qs one) (ok_is _ after e)
          (record { links = is.links; held = user_held (In (WasSent S)) s.station station event made is.held })
      user_on after event None (Err refusal) made e = absurd cc
      user_on after event (Some of_links) (Ok station) made e =
          go (wire_links_user queues s.links of_links) (user_mine queues own far S Qs s.links old one is.links of_links) e
        where
          go : (r : Result WireLinks LinkRefusal) → Good (λ (x : WireLinks). AllMine queues own far S Qs one x.links) r →
              with_wire_links (record s { station = station }) r ≡ Ok after → IsHeld S Qs one after
          go (Ok links) good f =
              subst (IsHeld S Qs one) (ok_is _ after f)
              (record { links = good links refl; held = user_held (In (WasSent S)) s.station station event made is.held })
          go (Err refusal) good f = absurd cc
      user_on after event (Some of_links) (Err refusal) made e = absurd cc

      composed : (after : WireLayers) (body : List ℕ) (c : Result (Option Carried) StepRefusal) → content body ≡ c →
          wire_composes rules s c ≡ Ok after → IsHeld S Qs one after
      composed after body (Ok None) read e = subst (IsHeld S Qs one) (ok_is _ after e) is
      composed after body (Ok (Some packet)) read e =
          go (wire_links_sent queues s.links packet)
          (mine_sent queues own far S S Qs one any s.links old is.links packet (content_in_range body packet read) (λ n p sent. inl sent)) e
        where
          go : (r : Result (Sent WireSegments (Unit {0})) LinkRefusal) →
              Good (λ (made : Sent WireSegments (Unit {0})). All queues (IsMine queues own far S (Qs own far) one) made.links.links
              × IsAgreed queues own far S S Qs one any s.links old packet.message) r →
              with_wire_composed s r ≡ Ok after → IsHeld S Qs one after
          go (Ok made) good f = subst (IsHeld S Qs one) (ok_is _ after f) (record { links = (good made refl).0; held = is.held })
          go (Err refusal) good f = absurd cc
      composed after body (Err refusal) read e = absurd cc

      pub acts_mine : (after : WireLayers) (event : Event) → (node_machine queues).user s event ≡ Ok after → IsHeld S Qs one after
      acts_mine after (events.Composed packet) e = composed after packet (content packet) refl e
      acts_mine after event e = user_on after event (link_event event) (machine.user s.station event) refl e
