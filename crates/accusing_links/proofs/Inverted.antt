-- What a step of a node is, of its station and of its links.
use Rattle.accusing_links.proofs.Prelude.{◌≡◌, Bool, true, false, cond, Option, Some, None, Result, Ok, Err, List, refl, ap, subst, ℕ, MessageValue}
use Rattle.accusing_links.proofs.Prelude.{Fate, is_met, Event, Tag, StepRefusal, LinkRefusal, ArrivalValue, HeaderBad, DataBad, body_of}
use Rattle.accusing_links.proofs.Prelude.{WireStation, wire_after_label, gives_new, Queues, LinkTag, Carried, LinkEventValue, Sent, WireSegments}
use Rattle.accusing_links.proofs.Prelude.{WireLinks, wire_links_user, wire_links_sent, wire_links_arrived, of_anyone, Rules, by_bytes_with, content}
use Rattle.accusing_links.proofs.Prelude.{link_event, WireLayers, LayersTag, with_wire_links, with_tag, with_wire_composed, to_wire_station}
use Rattle.accusing_links.proofs.Prelude.{tag_or_none, wire_sends_first, wire_sends_again, wire_sends_on, wire_keeps_packet, wire_keeps}
use Rattle.accusing_links.proofs.Prelude.{wire_meets_on, wire_user_on, wire_composes, of_no_link, machine, node_machine}
use Rattle.capture_record.specs.declared.event.Event.TheVariants as events
use Rattle.dna_station.specs.Book.{Sound}

first_of : {X Y Z : Type 0} (made : X × Y) (x : X) (y : Y) → ◌≡◌ {A = Result (X × Y) Z} (Ok made) (Ok (x, y)) → made.0 ≡ x
first_of {X} {Y} made x y e = let same : made ≡ (x, y) = cc in ap (λ (p : X × Y). p.0) same

one_of : {X Z : Type 0} (made x : X) → ◌≡◌ {A = Result X Z} (Ok made) (Ok x) → made ≡ x
one_of made x e = cc

-- what happens above the station
pub data LinksMade (queues : Queues) (links : WireLinks) : WireLinks → Type 0 where
  Nothing : LinksMade queues links links
  Did : {made : WireLinks} (event : LinkEventValue) → wire_links_user queues links event ≡ Ok made → LinksMade queues links made
  Composed : (packet : Carried) (body : List ℕ) (sent : Sent WireSegments (Unit {0})) → content body ≡ Ok (Some packet) →
      wire_links_sent queues links packet ≡ Ok sent → LinksMade queues links sent.links

module _ (queues : Queues) where
  abbrev rules : Rules
  rules = by_bytes_with queues

  -- ---- a message is sent

  pub data IsSent (s : WireLayers) (m : MessageValue) : WireLayers → Type 0 where
    Again : (st : WireStation LinkTag × Tag) → machine.sends s.station m ≡ Ok st → gives_new s.station m ≡ false →
        IsSent s m (record { station = st.0; links = s.links })
    NoMessage : (st : WireStation LinkTag × Tag) → machine.sends s.station m ≡ Ok st → gives_new s.station m ≡ true →
        content (body_of m) ≡ Ok None → IsSent s m (record { station = wire_after_label st.0 of_no_link; links = s.links })
    First : (st : WireStation LinkTag × Tag) (packet : Carried) (made : Sent WireSegments (Unit {0})) → machine.sends s.station m ≡ Ok st →
        gives_new s.station m ≡ true → content (body_of m) ≡ Ok (Some packet) → wire_links_sent queues s.links packet ≡ Ok made →
        IsSent s m (record { station = wire_after_label st.0 made.truth.tag; links = made.links })

  module _ (s : WireLayers) (m : MessageValue) (after : WireLayers) (known : LayersTag) where
    tagged : (st : WireStation LinkTag × Tag) (packet : Carried) (r : Result (Sent WireSegments (Unit {0})) LinkRefusal) →
        machine.sends s.station m ≡ Ok st → gives_new s.station m ≡ true → content (body_of m) ≡ Ok (Some packet) →
        wire_links_sent queues s.links packet ≡ r → with_tag st r ≡ Ok (after, known) → IsSent s m after
    tagged st packet (Ok made) sent new is made_by e =
        subst (IsSent s m) (first_of _ after known e) (First st packet made sent new is made_by)
    tagged st packet (Err refusal) sent new is made_by e = absurd cc

    first : (st : WireStation LinkTag × Tag) (c : Result (Option Carried) StepRefusal) → machine.sends s.station m ≡ Ok st →
        gives_new s.station m ≡ true → content (body_of m) ≡ c → wire_sends_first rules s st c ≡ Ok (after, known) → IsSent s m after
    first st (Ok None) sent new is e = subst (IsSent s m) (first_of _ after known e) (NoMessage st sent new is)
    first st (Ok (Some packet)) sent new is e = tagged st packet (wire_links_sent queues s.links packet) sent new is refl e
    first st (Err refusal) sent new is e = absurd cc

    sends_on : (r : Result (WireStation LinkTag × Tag) StepRefusal) → machine.sends s.station m ≡ r →
        wire_sends_on rules s m r ≡ Ok (after, known) → IsSent s m after
    sends_on (Err refusal) sent e = absurd cc
    sends_on (Ok st) sent e = go (gives_new s.station m) refl e
      where
        go : (b : Bool) → gives_new s.station m ≡ b →
            cond b (wire_sends_first rules s st (content (body_of m))) (Ok (wire_sends_again s m st)) ≡ Ok (after, known) → IsSent s m after
        go true new f = first st (content (body_of m)) sent new refl f
        go false new f = subst (IsSent s m) (first_of _ after known f) (Again st sent new)

    pub is_sent : (node_machine queues).sends s m ≡ Ok (after, known) → IsSent s m after
    is_sent e = sends_on (machine.sends s.station m) refl e

  -- ---- an arrival

  pub data IsMet (s : WireLayers) (arrival : ArrivalValue LayersTag) (fate : Fate) : WireLayers → Type 0 where
    Passed : (station : WireStation LinkTag) → machine.arrives s.station (to_wire_station arrival) fate ≡ Ok station →
        IsMet s arrival fate (record { station = station; links = s.links })
    Kept : (station : WireStation LinkTag) (m : MessageValue) (known : LayersTag) (packet : Carried) (tag : LinkTag) (links : WireLinks) →
        arrival ≡ Sound m known → machine.arrives s.station (to_wire_station arrival) fate ≡ Ok station → content (body_of m) ≡ Ok (Some packet) →
        wire_links_arrived queues of_anyone s.links packet tag ≡ Ok links → IsMet s arrival fate (record { station = station; links = links })

  module _ (s after : WireLayers) (arrival : ArrivalValue LayersTag) (fate : Fate) (station : WireStation LinkTag)
      (came : machine.arrives s.station (to_wire_station arrival) fate ≡ Ok station) where
    kept : (m : MessageValue) (known : LayersTag) (packet : Carried) (tag : LinkTag) (r : Result WireLinks LinkRefusal) → arrival ≡ Sound m known →
        content (body_of m) ≡ Ok (Some packet) → wire_links_arrived queues of_anyone s.links packet tag ≡ r →
        with_wire_links (record s { station = station }) r ≡ Ok after → IsMet s arrival fate after
    kept m known packet tag (Ok links) at is made e =
        subst (IsMet s arrival fate) (one_of _ after e) (Kept station m known packet tag links at came is made)
    kept m known packet tag (Err refusal) at is made e = absurd cc

    keeps_packet : (m : MessageValue) (known : LayersTag) (tag : LinkTag) (c : Result (Option Carried) StepRefusal) → arrival ≡ Sound m known →
        content (body_of m) ≡ c → wire_keeps_packet rules (record s { station = station }) tag c ≡ Ok after → IsMet s arrival fate after
    keeps_packet m known tag (Ok None) at is e = subst (IsMet s arrival fate) (one_of _ after e) (Passed station came)
    keeps_packet m known tag (Ok (Some packet)) at is e =
        kept m known packet tag (wire_links_arrived queues of_anyone s.links packet tag) at is refl e
    keeps_packet m known tag (Err refusal) at is e = absurd cc

    keeps : (a : ArrivalValue LayersTag) → arrival ≡ a → wire_keeps rules (record s { station = station }) a ≡ Ok after → IsMet s arrival fate after
    keeps (Sound m known) at e = keeps_packet m known (tag_or_none known.link) (content (body_of m)) at refl e
    keeps HeaderBad at e = subst (IsMet s arrival fate) (one_of _ after e) (Passed station came)
    keeps DataBad at e = subst (IsMet s arrival fate) (one_of _ after e) (Passed station came)

    meets : (b : Bool) → cond b (wire_keeps rules (record s { station = station }) arrival) (Ok (record s { station = station })) ≡ Ok after →
        IsMet s arrival fate after
    meets true e = keeps arrival refl e
    meets false e = subst (IsMet s arrival fate) (one_of _ after e) (Passed station came)

  met_on : (s after : WireLayers) (arrival : ArrivalValue LayersTag) (fate : Fate) (r : Result (WireStation LinkTag) StepRefusal) →
      machine.arrives s.station (to_wire_station arrival) fate ≡ r → wire_meets_on rules s arrival fate r ≡ Ok after → IsMet s arrival fate after
  met_on s after arrival fate (Ok station) came e = meets s after arrival fate station came (is_met fate) e
  met_on s after arrival fate (Err refusal) came e = absurd cc

  pub is_met_as : (s after : WireLayers) (arrival : ArrivalValue LayersTag) (fate : Fate) →
      (node_machine queues).arrives s arrival fate ≡ Ok after → IsMet s arrival fate after
  is_met_as s after arrival fate e = met_on s after arrival fate (machine.arrives s.station (to_wire_station arrival) fate) refl e

  -- ---- what the user does

  pub data HasActed (s : WireLayers) (event : Event) : WireLayers → Type 0 where
    Alone : {links : WireLinks} → LinksMade queues s.links links → HasActed s event (record { station = s.station; links = links })
    Both : {links : WireLinks} (station : WireStation LinkTag) → machine.user s.station event ≡ Ok station → LinksMade queues s.links links →
        HasActed s event (record { station = station; links = links })

  composed : (s after : WireLayers) (event : Event) (body : List ℕ) (c : Result (Option Carried) StepRefusal) → content body ≡ c →
      wire_composes rules s c ≡ Ok after → HasActed s event after
  composed s after event body (Ok None) is e = subst (HasActed s event) (one_of _ after e) (Alone Nothing)
  composed s after event body (Ok (Some packet)) is e = go (wire_links_sent queues s.links packet) refl e
    where
      go : (r : Result (Sent WireSegments (Unit {0})) LinkRefusal) → wire_links_sent queues s.links packet ≡ r →
          with_wire_composed s r ≡ Ok after → HasActed s event after
      go (Ok made) sent f = subst (HasActed s event) (one_of _ after f) (Alone (Composed packet body made is sent))
      go (Err refusal) sent f = absurd cc
  composed s after event body (Err refusal) is e = absurd cc

  user_on : (s after : WireLayers) (event : Event) (of_links : Option LinkEventValue) (r : Result (WireStation LinkTag) StepRefusal) →
      machine.user s.station event ≡ r → wire_user_on rules s of_links r ≡ Ok after → HasActed s event after
  user_on s after event None (Ok station) made e = subst (HasActed s event) (one_of _ after e) (Both station made Nothing)
  user_on s after event None (Err refusal) made e = absurd cc
  user_on s after event (Some of_links) (Ok station) made e = go (wire_links_user queues s.links of_links) refl e
    where
      go : (r : Result WireLinks LinkRefusal) → wire_links_user queues s.links of_links ≡ r →
          with_wire_links (record s { station = station }) r ≡ Ok after → HasActed s event after
      go (Ok links) did f = subst (HasActed s event) (one_of _ after f) (Both station made (Did of_links did))
      go (Err refusal) did f = absurd cc
  user_on s after event (Some of_links) (Err refusal) made e = absurd cc

  pub has_acted : (s after : WireLayers) (event : Event) → (node_machine queues).user s event ≡ Ok after → HasActed s event after
  has_acted s after (events.Composed packet) e = composed s after (events.Composed packet) packet (content packet) refl e
  has_acted s after event e = user_on s after event (link_event event) (machine.user s.station event) refl e
