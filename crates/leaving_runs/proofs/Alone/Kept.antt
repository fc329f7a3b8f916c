-- A sound unit that comes: what is made of it, and of its packet where that is kept, goes along.
use Rattle.leaving_runs.proofs.Prelude.{◌≡◌, ℕ, Bool, true, false, cond, Option, Some, None, Result, Ok, Err, List, [], ◌⊎◌, inl, inr, refl, sym}
use Rattle.leaving_runs.proofs.Prelude.{ap, ap₂, ◌∙◌, subst, IfSome, MessageValue, IsBytes, ReadingValue, reading, Fate, is_kept, is_met, NspValue}
use Rattle.leaving_runs.proofs.Prelude.{StationRefusal, StepRefusal, LinkRefusal, SendPacket, change_of, of_any_period, Sound, body_of}
use Rattle.leaving_runs.proofs.Prelude.{unless_refused, WireStation, wire_arrival_refusal, wire_after_arrival, Queues, LinkTag, Carried, of_anyone}
use Rattle.leaving_runs.proofs.Prelude.{WireLinks, wire_links_arrived, by_bytes_with, content, WireLayers, WireLayersNode, of_no_link}
use Rattle.leaving_runs.proofs.Prelude.{with_wire_links, wire_keeps_packet, wire_meets_on, wrong_unit, wrong_message, wrong_carried, wrong_taken}
use Rattle.leaving_runs.proofs.Prelude.{StepAlone, Makes, sends, meets, unless_wrong, then_unless_wrong, if_met, sound_comes, unknown_period}
use Rattle.leaving_runs.proofs.Prelude.{unknown_tag, layers_end_by, message_in_unit, message_within, packet_of, source_of, destination_of, sent_out}
use Rattle.leaving_runs.proofs.Prelude.{kept_out, MessageBinds, other_out, with_body, Leaves, fate_left, met_if}
use Rattle.ddcmp_msg.specs.Reading as read_as
use Rattle.capture_record.specs.declared.fate.Fate.TheVariants as fates
use Rattle.leaving_runs.proofs.Bytes.{body_bytes, message_of_packet, within_data}
use Rattle.leaving_runs.proofs.Users.{goes_between}
use Rattle.leaving_runs.proofs.Alone.Units.{body_left, packet_or_none, IsJudgedComing, ComesFit, Layered, StepLeft, unit_left, unit_unread}
use Rattle.leaving_runs.proofs.Alone.Packets.{stands_for, carries}
use Rattle.leaving_runs.proofs.Alone.Stations.{arrival_left, refusal_left}
use Rattle.leaving_runs.proofs.Alone.Links.{comes, comes_plain, refused_left, unseen, seen, wrong_same, MetLeft, stands_left}
use Rattle.leaving_runs.proofs.Alone.Layers.{IsLeft, Station, unread}

module _ (queues : Queues) (leaves : Leaves) (node peer : ℕ) where
  module _ (J : Type 0) (n m : WireLayersNode) (l : Layered queues leaves node peer n.station m.station) (far : ComesFit leaves node peer)
      (bytes : List ℕ) (is_bytes : IsBytes bytes) (judged : J → IfSome (message_in_unit bytes) (IsJudgedComing leaves.out)) (front : ℕ)
      (message : MessageValue) (read : reading bytes ≡ read_as.Sound message) where
    abbrev s : WireLayers
    s = n.station

    abbrev t : WireLayers
    t = m.station

    abbrev Along : StepAlone WireLayers → StepAlone WireLayers → Type 0
    Along x y = StepLeft queues leaves node peer J x y

    abbrev left : MessageValue
    left = with_body leaves.packets.far message

    abbrev after : Bool → WireStation LinkTag
    after kept = wire_after_arrival s.station (Sound message unknown_period) kept

    abbrev left_after : Bool → WireStation LinkTag
    left_after kept = wire_after_arrival t.station (Sound left unknown_period) kept

    met : (kept : Bool) → Station queues leaves node peer (after kept) (left_after kept)
    met kept = arrival_left leaves.packets.far leaves.packets.own message unknown_period kept s.station t.station l.station

    refused_same : (kept : Bool) → wire_arrival_refusal of_any_period t.station (Sound left unknown_period) kept
        ≡ wire_arrival_refusal of_any_period s.station (Sound message unknown_period) kept
    refused_same kept = refusal_left leaves.packets.far leaves.packets.own message unknown_period kept s.station t.station l.station

    -- by what the station refuses
    abbrev arrives_by : Fate → Option StationRefusal → Result WireLayers StepRefusal
    arrives_by fate o = wire_meets_on (by_bytes_with queues) s (Sound message unknown_tag) fate (unless_refused o (after (is_kept fate)))

    abbrev left_by : Fate → Option StationRefusal → Result WireLayers StepRefusal
    left_by fate o = wire_meets_on (by_bytes_with queues) t (Sound left unknown_tag) fate (unless_refused o (left_after (is_kept fate)))

    -- by what accuses the other end in its packet
    abbrev then_by : Fate → Option StationRefusal → Option StepRefusal → StepAlone WireLayers
    then_by fate o wrong = then_unless_wrong (if_met (is_met fate) wrong) (meets n front (arrives_by fate o))

    abbrev then_left_by : Fate → Option StationRefusal → Option StepRefusal → StepAlone WireLayers
    then_left_by fate o wrong = then_unless_wrong (if_met (is_met fate) wrong) (meets m front (left_by fate o))

    not_met : (fate : Fate) → is_met fate ≡ false → (o : Option StationRefusal) (wrong other : Option StepRefusal) →
        Along (then_by fate o wrong) (then_left_by fate o other)
    not_met fates.NotKept is None wrong other = (record { station = met false; links = l.links }, refl)
    not_met fates.Dropped is None wrong other = (record { station = met true; links = l.links }, refl)
    not_met fates.Kept is o wrong other = absurd cc
    not_met fates.NotKept is (Some refusal) wrong other = λ j of. absurd of
    not_met fates.Dropped is (Some refusal) wrong other = λ j of. absurd of

    -- ---- a packet that is kept

    abbrev left_side : Fate → StepAlone WireLayers
    left_side fate =
        then_left_by fate (wire_arrival_refusal of_any_period t.station (Sound left unknown_period) (is_kept fate)) (wrong_taken t left)

    -- no other message has one
    other_kept : body_of message ≡ [] → (y : StepAlone WireLayers) (o : Option StationRefusal) →
        Along (then_by fates.Kept o (wrong_taken s message)) y
    other_kept none y (Some refusal) = λ j of. absurd of
    other_kept none y None =
        subst (λ (body : List ℕ). Along (then_unless_wrong (wrong_taken s message) (meets n front (wire_keeps_packet (by_bytes_with queues)
        (record s { station = after true }) of_no_link (content body)))) y) (sym none) (λ j of. absurd of)

    module _ (sends : change_of message ≡ SendPacket) (binds : IfSome (message_in_unit bytes) (MessageBinds leaves.out))
        (allowed : wire_arrival_refusal of_any_period s.station (Sound message unknown_period) true ≡ None) where
      body_fits : IsBytes (body_of message)
      body_fits = body_bytes bytes message is_bytes read

      is_found : (o : Option Carried) → content (body_of message) ≡ Ok o → message_in_unit bytes ≡ message_of_packet o
      is_found o held = ap (λ (r : ReadingValue). message_within (packet_of r)) read ∙ within_data message o sends held

      fate_is : (o : Option Carried) → content (body_of message) ≡ Ok o →
          fate_left leaves.out fates.Kept bytes ≡ met_if leaves.out (message_of_packet o)
      fate_is o held = ap (met_if leaves.out) (is_found o held)

      refused_none : wire_arrival_refusal of_any_period t.station (Sound left unknown_period) true ≡ None
      refused_none = refused_same true ∙ allowed

      abbrev made : WireLinks → StepAlone WireLayers
      made x = Makes (record { head = n.head; station = record { station = after true; links = x }; front = front })

      at_dropped : (x : WireLinks) → IsLeft queues leaves node peer x t.links → Along (made x) (left_side fates.Dropped)
      at_dropped x along =
          subst (λ (o : Option StationRefusal). Along (made x) (then_left_by fates.Dropped o (wrong_taken t left))) (sym refused_none)
          (record { station = met true; links = along }, refl)

      abbrev keeps_left : Result (Option Carried) StepRefusal → StepAlone WireLayers
      keeps_left c =
          then_unless_wrong (wrong_carried t.links c)
          (meets m front (wire_keeps_packet (by_bytes_with queues) (record t { station = left_after true }) of_no_link c))

      met_left : (x : WireLinks) (o : Option Carried) → MetLeft queues leaves.out node peer s.links t.links l.links x o →
          Along (made x) (keeps_left (Ok o))
      met_left x None along = (record { station = met true; links = along }, refl)
      met_left x (Some packet) (right, (y, done, along)) =
          subst (λ (wrong : Option StepRefusal). Along (made x) (then_unless_wrong wrong (meets m front
          (with_wire_links (record t { station = left_after true }) (wire_links_arrived queues of_anyone t.links packet of_no_link)))))
          (sym right)
          (subst (λ (r : Result WireLinks LinkRefusal). Along (made x) (then_unless_wrong None (meets m front
          (with_wire_links (record t { station = left_after true }) r)))) (sym done)
          (record { station = met true; links = along }, refl))

      at_kept : (x : WireLinks) (o : Option Carried) → content (leaves.packets.far (body_of message)) ≡ Ok o →
          MetLeft queues leaves.out node peer s.links t.links l.links x o → Along (made x) (left_side fates.Kept)
      at_kept x o held along =
          subst (λ (refusal : Option StationRefusal). Along (made x) (then_left_by fates.Kept refusal (wrong_taken t left)))
          (sym refused_none)
          (subst (λ (c : Result (Option Carried) StepRefusal). Along (made x) (keeps_left c))
          (sym (ap content (body_left leaves.packets.far message sends) ∙ held)) (met_left x o along))

      binds_of : (packet : Carried) → content (body_of message) ≡ Ok (Some packet) → MessageBinds leaves.out packet.message
      binds_of packet held = subst (λ (o : Option NspValue). IfSome o (MessageBinds leaves.out)) (is_found (Some packet) held) binds

      -- of a message that is judged at both ends
      judged_at : (packet : Carried) → content (body_of message) ≡ Ok (Some packet) → J →
          IsJudgedComing leaves.out packet.message
      judged_at packet held j = subst (λ (o : Option NspValue). IfSome o (IsJudgedComing leaves.out)) (is_found (Some packet) held) (judged j)

      abbrev then_as : Option StepRefusal → Result WireLinks LinkRefusal → StepAlone WireLayers
      then_as wrong r = then_unless_wrong wrong (meets m front (with_wire_links (record t { station = left_after true }) r))

      kept_same : (packet : Carried) (held : content (body_of message) ≡ Ok (Some packet)) → IsJudgedComing leaves.out packet.message →
          left_side (fate_left leaves.out fates.Kept bytes)
          ≡ then_as (wrong_message t.links packet.message) (wire_links_arrived queues of_anyone t.links packet of_no_link)
      kept_same packet held is =
          ap left_side (fate_is (Some packet) held ∙ ap (λ (b : Bool). cond b fates.Dropped fates.Kept) is.0)
          ∙ ap (λ (o : Option StationRefusal). then_left_by fates.Kept o (wrong_taken t left)) refused_none
          ∙ ap keeps_left (ap content (body_left leaves.packets.far message sends)
          ∙ far.fits.same (body_of message) packet body_fits held is.1)

      abbrev at_fate : StepAlone WireLayers → Fate → Type 0
      at_fate x fate = Along x (left_side fate)

      module _ (packet : Carried) (held : content (body_of message) ≡ Ok (Some packet)) (x : WireLinks)
          (done : wire_links_arrived queues of_anyone s.links packet of_no_link ≡ Ok x)
          (right : wrong_message s.links packet.message ≡ None) where
        packet_binds : MessageBinds leaves.out packet.message
        packet_binds = binds_of packet held

        nodes : (packet.src ≡ peer) × (packet.dst ≡ node)
        nodes =
            let between = goes_between packet s.links.peer s.links.node _ x done in
            (between.0 ∙ l.links.peer_is, between.1 ∙ l.links.node_is)

        by_sender : kept_out leaves.out (source_of packet.message) (destination_of packet.message) ≡ false → (b : Bool) →
            sent_out (other_out leaves.out) (source_of packet.message) (destination_of packet.message) ≡ b →
            Along (made x) (left_side fates.Kept)
        by_sender here false sent =
            at_kept x (Some packet) (far.fits.same (body_of message) packet body_fits held sent) (
              wrong_same queues leaves.out node peer s.links t.links l.links packet.message here ∙ right,
              seen queues leaves.out node peer s.links t.links l.links (comes packet) (comes_plain leaves.out packet packet_binds) x done here,
            )
        by_sender here true sent =
            at_kept x (carries packet.dst packet.src (stands_for packet.message))
            (far.stands (body_of message) packet body_fits held nodes.0 nodes.1 sent here)
            (stands_left queues leaves.out node peer s.links t.links l.links packet.dst packet.src x packet.message packet_binds here sent done)

        by_receiver : (b : Bool) → kept_out leaves.out (source_of packet.message) (destination_of packet.message) ≡ b →
            at_fate (made x) (fate_left leaves.out fates.Kept bytes)
        by_receiver true gone =
            subst (at_fate (made x)) (sym (fate_is (Some packet) held ∙ ap (λ (b : Bool). cond b fates.Dropped fates.Kept) gone))
            (at_dropped x
            (unseen queues leaves.out node peer s.links t.links l.links (comes packet) (comes_plain leaves.out packet packet_binds) x done gone))
        by_receiver false here =
            subst (at_fate (made x)) (sym (fate_is (Some packet) held ∙ ap (λ (b : Bool). cond b fates.Dropped fates.Kept) here))
            (by_sender here (sent_out (other_out leaves.out) (source_of packet.message) (destination_of packet.message)) refl)

      by_wrong : (packet : Carried) → content (body_of message) ≡ Ok (Some packet) → (x : WireLinks) →
          wire_links_arrived queues of_anyone s.links packet of_no_link ≡ Ok x → (wrong : Option StepRefusal) →
          wrong_message s.links packet.message ≡ wrong →
          at_fate (unless_wrong wrong (made x)) (fate_left leaves.out fates.Kept bytes)
      by_wrong packet held x done None right =
          by_receiver packet held x done right (kept_out leaves.out (source_of packet.message) (destination_of packet.message)) refl
      by_wrong packet held x done (Some refusal) right =
          λ j of. let is = judged_at packet held j in
          let along = seen queues leaves.out node peer s.links t.links l.links (comes packet)
          (comes_plain leaves.out packet (binds_of packet held)) x done is.0 in
          kept_same packet held is ∙ ap₂ then_as (wrong_same queues leaves.out node peer s.links t.links l.links packet.message is.0 ∙ right) along.1

      by_links : (packet : Carried) → content (body_of message) ≡ Ok (Some packet) → (r : Result WireLinks LinkRefusal) →
          wire_links_arrived queues of_anyone s.links packet of_no_link ≡ r →
          at_fate (then_unless_wrong (wrong_message s.links packet.message) (meets n front
          (with_wire_links (record s { station = after true }) r))) (fate_left leaves.out fates.Kept bytes)
      by_links packet held (Ok x) done = by_wrong packet held x done (wrong_message s.links packet.message) refl
      by_links packet held (Err refusal) done =
          λ j of. let is = judged_at packet held j in
          kept_same packet held is ∙ ap (then_as (wrong_message t.links packet.message))
          (refused_left queues leaves.out node peer s.links t.links l.links (comes packet)
          (comes_plain leaves.out packet (binds_of packet held)) is.0 refusal done)

      by_content : (c : Result (Option Carried) StepRefusal) → content (body_of message) ≡ c →
          at_fate (then_unless_wrong (wrong_carried s.links c) (meets n front
          (wire_keeps_packet (by_bytes_with queues) (record s { station = after true }) of_no_link c))) (fate_left leaves.out fates.Kept bytes)
      by_content (Ok (Some packet)) held =
          by_links packet held (wire_links_arrived queues of_anyone s.links packet of_no_link) refl
      by_content (Ok None) held =
          subst (at_fate (made s.links)) (sym (fate_is None held))
          (at_kept s.links None (far.fits.none (body_of message) body_fits held) l.links)
      by_content (Err refusal) held = λ j of. absurd (unread (body_of message) refusal held of)

    data_kept : change_of message ≡ SendPacket → IfSome (message_in_unit bytes) (MessageBinds leaves.out) → (o : Option StationRefusal) →
        wire_arrival_refusal of_any_period s.station (Sound message unknown_period) true ≡ o →
        Along (then_by fates.Kept o (wrong_taken s message)) (left_side (fate_left leaves.out fates.Kept bytes))
    data_kept sends binds None allowed = by_content sends binds allowed (content (body_of message)) refl
    data_kept sends binds (Some refusal) allowed = λ j of. absurd of

    -- ---- any fate

    lost : (fate : Fate) → is_met fate ≡ false →
        Along (then_by fate (wire_arrival_refusal of_any_period s.station (Sound message unknown_period) (is_kept fate)) (wrong_taken s message))
        (left_side fate)
    lost fate unmet =
        subst (λ (o : Option StationRefusal).
        Along (then_by fate (wire_arrival_refusal of_any_period s.station (Sound message unknown_period) (is_kept fate)) (wrong_taken s message))
        (then_left_by fate o (wrong_taken t left))) (sym (refused_same (is_kept fate)))
        (not_met fate unmet (wire_arrival_refusal of_any_period s.station (Sound message unknown_period) (is_kept fate)) (wrong_taken s message)
        (wrong_taken t left))

    by_fate : (fate : Fate) → IfSome (message_in_unit bytes) (MessageBinds leaves.out) →
        Along (then_by fate (wire_arrival_refusal of_any_period s.station (Sound message unknown_period) (is_kept fate)) (wrong_taken s message))
        (left_side (fate_left leaves.out fate bytes))
    by_fate fates.NotKept binds = lost fates.NotKept refl
    by_fate fates.Dropped binds = lost fates.Dropped refl
    by_fate fates.Kept binds = go (packet_or_none message)
      where
        go : (change_of message ≡ SendPacket) ⊎ (body_of message ≡ []) →
            Along (then_by fates.Kept (wire_arrival_refusal of_any_period s.station (Sound message unknown_period) true)
            (wrong_taken s message)) (left_side (fate_left leaves.out fates.Kept bytes))
        go (inl sends) = data_kept sends binds _ refl
        go (inr none) = other_kept none (left_side (fate_left leaves.out fates.Kept bytes)) _

    pub sound_left : (fate : Fate) → IfSome (message_in_unit bytes) (MessageBinds leaves.out) →
        Along (sound_comes (layers_end_by queues) n front fate message)
        (sound_comes (layers_end_by queues) m front (fate_left leaves.out fate bytes) left)
    sound_left fate binds = at (wrong_unit s message) refl
      where
        at : (o : Option StepRefusal) → wrong_unit s message ≡ o →
            Along (unless_wrong o
            (then_by fate (wire_arrival_refusal of_any_period s.station (Sound message unknown_period) (is_kept fate)) (wrong_taken s message)))
            (unless_wrong (wrong_unit t left) (left_side (fate_left leaves.out fate bytes)))
        at None right =
            subst (λ (o : Option StepRefusal). Along
            (then_by fate (wire_arrival_refusal of_any_period s.station (Sound message unknown_period) (is_kept fate)) (wrong_taken s message))
            (unless_wrong o (left_side (fate_left leaves.out fate bytes))))
            (sym (unit_left queues leaves node peer J n m l far bytes is_bytes judged message read right)) (by_fate fate binds)
        at (Some refusal) right = λ j of. absurd (unit_unread queues leaves node peer J n m l far bytes is_bytes judged message refusal right of)
