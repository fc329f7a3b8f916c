-- A node keeps what its links keep, and what holds of each packet that they let it send first holds of all that it sends.
use Rattle.accusing_links.proofs.Prelude.{◌≡◌, ℕ, Bool, true, false, cond, Option, Some, None, Result, Ok, Err, List, refl, sym, ap, subst}
use Rattle.accusing_links.proofs.Prelude.{MessageValue, Fate, is_met, EventNumbersFit, Event, Tag, StepRefusal, LinkRefusal, ArrivalValue}
use Rattle.accusing_links.proofs.Prelude.{HeaderBad, DataBad, body_of, WireStation, gives_new, Queues, LinkTag, Carried, LinkEventValue, Sent}
use Rattle.accusing_links.proofs.Prelude.{WireSegments, WireLinks, wire_links_user, wire_links_sent, wire_links_arrived, of_anyone, Rules}
use Rattle.accusing_links.proofs.Prelude.{by_bytes_with, content, link_event, WireLayers, LayersTag, with_wire_links, with_tag, with_wire_composed}
use Rattle.accusing_links.proofs.Prelude.{to_wire_station, tag_or_none, wire_sends_first, wire_sends_again, wire_sends_on, wire_keeps_packet}
use Rattle.accusing_links.proofs.Prelude.{wire_keeps, wire_meets_on, wire_user_on, wire_composes, IsInRange, content_in_range, machine}
use Rattle.accusing_links.proofs.Prelude.{node_machine}
use Rattle.capture_record.specs.declared.event.Event.TheVariants as events
use Rattle.dna_station.specs.Book.{Sound}
use Rattle.accusing_links.proofs.Answered.{Good}
use Rattle.accusing_links.proofs.Named.{NamesOwn, NamesIn, names_in}
use Rattle.accusing_links.proofs.Held.{AreHeld, Carries, label_held, arrives_held, user_held, sends_held}

ok_first : {X Y Z : Type 0} (made : X × Y) (x : X) (y : Y) → ◌≡◌ {A = Result (X × Y) Z} (Ok made) (Ok (x, y)) → made.0 ≡ x
ok_first {X} {Y} made x y e = let same : made ≡ (x, y) = cc in ap (λ (p : X × Y). p.0) same

ok_is : {X Z : Type 0} (made x : X) → ◌≡◌ {A = Result X Z} (Ok made) (Ok x) → made ≡ x
ok_is made x e = cc

-- what is in a packet is nothing of the links, or this holds of it
abbrev pub HasFine : (Carried → Type 0) → Result (Option Carried) StepRefusal → Type 0
HasFine Fine (Ok None) = Unit {0}
HasFine Fine (Ok (Some packet)) = Fine packet
HasFine Fine (Err refusal) = ⊥

abbrev pub IsFine : (Carried → Type 0) → List ℕ → Type 0
IsFine Fine packet = HasFine Fine (content packet)

-- what may come
abbrev pub MayCome : (Carried → Type 0) → Result (Option Carried) StepRefusal → Type 0
MayCome Comes (Ok None) = Unit {0}
MayCome Comes (Ok (Some packet)) = Comes packet
MayCome Comes (Err refusal) = Unit {0}

-- Links keep this whatever they do, where of what comes this holds; and of what they send this holds
pub record AreKept (queues : Queues) (Is : WireLinks → Type 0) (Fine Comes : Carried → Type 0) : Type 0 where
  pub user : (s : WireLinks) (event : LinkEventValue) → NamesOwn event → Is s → Good Is (wire_links_user queues s event)
  pub sent : (s : WireLinks) (packet : Carried) → Is s → IsInRange packet.message →
      Good (λ (made : Sent WireSegments (Unit {0})). Is made.links × Fine packet) (wire_links_sent queues s packet)
  pub arrived : (s : WireLinks) (packet : Carried) (tag : LinkTag) → Is s → IsInRange packet.message → Comes packet →
      Good Is (wire_links_arrived queues of_anyone s packet tag)

module _ (queues : Queues) (Is : WireLinks → Type 0) (Fine Comes : Carried → Type 0) (kept : AreKept queues Is Fine Comes) where
  abbrev rules : Rules
  rules = by_bytes_with queues

  pub record IsRight (s : WireLayers) : Type 0 where
    pub links : Is s.links
    pub held : AreHeld (IsFine Fine) s.station.variables.held

  -- ---- what is sent

  with_tag_right : (st : WireStation LinkTag × Tag) (s : WireLayers) (packet : Carried) (after : WireLayers) (known : LayersTag)
      (r : Result (Sent WireSegments (Unit {0})) LinkRefusal) → Good (λ (made : Sent WireSegments (Unit {0})). Is made.links × Fine packet) r →
      with_tag st r ≡ Ok (after, known) → (Fine packet → AreHeld (IsFine Fine) st.0.variables.held) → IsRight after × Fine packet
  with_tag_right st s packet after known (Ok made) good e held =
      let is = good made refl in
      let right : IsRight _ = record { links = is.0; held = label_held (IsFine Fine) st.0.variables.held made.truth.tag (held is.1) } in
      (subst IsRight (ok_first _ after known e) right, is.1)
  with_tag_right st s packet after known (Err refusal) good e held = absurd cc

  first_right : (s : WireLayers) (m : MessageValue) (st : WireStation LinkTag × Tag) (after : WireLayers) (known : LayersTag)
      (c : Result (Option Carried) StepRefusal) → content (body_of m) ≡ c → wire_sends_first rules s st c ≡ Ok (after, known) → Is s.links →
      (IsFine Fine (body_of m) → AreHeld (IsFine Fine) st.0.variables.held) → IsRight after × IsFine Fine (body_of m)
  first_right s m st after known (Ok None) is e links held =
      let fine : IsFine Fine (body_of m) = subst (HasFine Fine) (sym is) tt in
      (subst IsRight (ok_first _ after known e) (record { links = links; held = label_held (IsFine Fine) st.0.variables.held _ (held fine) }), fine)
  first_right s m st after known (Ok (Some packet)) is e links held =
      let all = with_tag_right st s packet after known (wire_links_sent queues s.links packet)
      (kept.sent s.links packet links (content_in_range (body_of m) packet is)) e
      (λ fine. held (subst (HasFine Fine) (sym is) fine)) in
      (all.0, subst (HasFine Fine) (sym is) all.1)
  first_right s m st after known (Err refusal) is e links held = absurd cc

  sends_on_right : (s : WireLayers) (m : MessageValue) (after : WireLayers) (known : LayersTag) (r : Result (WireStation LinkTag × Tag) StepRefusal) →
      machine.sends s.station m ≡ r → wire_sends_on rules s m r ≡ Ok (after, known) → IsRight s → IsRight after × Carries (IsFine Fine) m
  sends_on_right s m after known (Err refusal) made e is = absurd cc
  sends_on_right s m after known (Ok st) made e is = go (gives_new s.station m) refl e
    where
      held : (gives_new s.station m ≡ true → IsFine Fine (body_of m)) → AreHeld (IsFine Fine) st.0.variables.held × Carries (IsFine Fine) m
      held given = sends_held (IsFine Fine) s.station st.0 m st.1 made given is.held

      go : (b : Bool) → gives_new s.station m ≡ b →
          cond b (wire_sends_first rules s st (content (body_of m))) (Ok (wire_sends_again s m st)) ≡ Ok (after, known) →
          IsRight after × Carries (IsFine Fine) m
      go true new f =
          let all = first_right s m st after known (content (body_of m)) refl f is.links (λ fine. (held (λ n. fine)).0) in
          (all.0, (held (λ n. all.1)).1)
      go false old f =
          let no : gives_new s.station m ≡ true → IsFine Fine (body_of m) = λ n. absurd cc in
          (subst IsRight (ok_first _ after known f) (record { links = is.links; held = (held no).0 }), (held no).1)

  pub sends_right : (s after : WireLayers) (m : MessageValue) (known : LayersTag) → (node_machine queues).sends s m ≡ Ok (after, known) → IsRight s →
      IsRight after × Carries (IsFine Fine) m
  sends_right s after m known e is = sends_on_right s m after known (machine.sends s.station m) refl e is

  -- ---- what comes

  with_links_right : (s after : WireLayers) (r : Result WireLinks LinkRefusal) → Good Is r → with_wire_links s r ≡ Ok after →
      AreHeld (IsFine Fine) s.station.variables.held → IsRight after
  with_links_right s after (Ok links) good e held = subst IsRight (ok_is _ after e) (record { links = good links refl; held = held })
  with_links_right s after (Err refusal) good e held = absurd cc

  packet_right : (s after : WireLayers) (tag : LinkTag) (body : List ℕ) (c : Result (Option Carried) StepRefusal) → content body ≡ c →
      MayCome Comes c → wire_keeps_packet rules s tag c ≡ Ok after → IsRight s → IsRight after
  packet_right s after tag body (Ok None) read may e is = subst IsRight (ok_is _ after e) is
  packet_right s after tag body (Ok (Some packet)) read may e is =
      with_links_right s after (wire_links_arrived queues of_anyone s.links packet tag)
      (kept.arrived s.links packet tag is.links (content_in_range body packet read) may) e is.held
  packet_right s after tag body (Err refusal) read may e is = absurd cc

  -- the packet in what arrives may come
  abbrev pub MayArrive : ArrivalValue LayersTag → Type 0
  MayArrive (Sound m tag) = MayCome Comes (content (body_of m))
  MayArrive HeaderBad = Unit {0}
  MayArrive DataBad = Unit {0}

  keeps_right : (s after : WireLayers) (arrival : ArrivalValue LayersTag) → MayArrive arrival → wire_keeps rules s arrival ≡ Ok after →
      IsRight s → IsRight after
  keeps_right s after (Sound m tag) may e is = packet_right s after (tag_or_none tag.link) (body_of m) (content (body_of m)) refl may e is
  keeps_right s after HeaderBad may e is = subst IsRight (ok_is _ after e) is
  keeps_right s after DataBad may e is = subst IsRight (ok_is _ after e) is

  meets_right : (s after : WireLayers) (arrival : ArrivalValue LayersTag) (fate : Fate) (r : Result (WireStation LinkTag) StepRefusal) →
      machine.arrives s.station (to_wire_station arrival) fate ≡ r → wire_meets_on rules s arrival fate r ≡ Ok after → MayArrive arrival →
      IsRight s → IsRight after
  meets_right s after arrival fate (Err refusal) made e may is = absurd cc
  meets_right s after arrival fate (Ok station) made e may is = go (is_met fate) e
    where
      next : IsRight (record s { station = station })
      next = record {
        links = is.links;
        held = arrives_held (IsFine Fine) s.station station (to_wire_station arrival) fate made is.held;
      }

      go : (b : Bool) → cond b (wire_keeps rules (record s { station = station }) arrival) (Ok (record s { station = station })) ≡ Ok after →
          IsRight after
      go true f = keeps_right (record s { station = station }) after arrival may f next
      go false f = subst IsRight (ok_is _ after f) next

  pub arrives_right : (s after : WireLayers) (arrival : ArrivalValue LayersTag) (fate : Fate) →
      (node_machine queues).arrives s arrival fate ≡ Ok after → MayArrive arrival → IsRight s → IsRight after
  arrives_right s after arrival fate e may is =
      meets_right s after arrival fate (machine.arrives s.station (to_wire_station arrival) fate) refl e may is

  -- ---- what the user does

  composed_right : (s after : WireLayers) (body : List ℕ) (c : Result (Option Carried) StepRefusal) → content body ≡ c →
      wire_composes rules s c ≡ Ok after → IsRight s → IsRight after
  composed_right s after body (Ok None) read e is = subst IsRight (ok_is _ after e) is
  composed_right s after body (Ok (Some packet)) read e is =
      go (wire_links_sent queues s.links packet) (kept.sent s.links packet is.links (content_in_range body packet read)) e
    where
      go : (r : Result (Sent WireSegments (Unit {0})) LinkRefusal) → Good (λ (made : Sent WireSegments (Unit {0})). Is made.links × Fine packet) r →
          with_wire_composed s r ≡ Ok after → IsRight after
      go (Ok made) good f = subst IsRight (ok_is _ after f) (record { links = (good made refl).0; held = is.held })
      go (Err refusal) good f = absurd cc
  composed_right s after body (Err refusal) read e is = absurd cc

  user_on_right : (s after : WireLayers) (event : Event) (of_links : Option LinkEventValue) (r : Result (WireStation LinkTag) StepRefusal) →
      machine.user s.station event ≡ r → wire_user_on rules s of_links r ≡ Ok after → NamesIn of_links → IsRight s → IsRight after
  user_on_right s after event None (Ok station) made e names is =
      subst IsRight (ok_is _ after e) (record { links = is.links; held = user_held (IsFine Fine) s.station station event made is.held })
  user_on_right s after event None (Err refusal) made e names is = absurd cc
  user_on_right s after event (Some of_links) (Ok station) made e names is =
      with_links_right (record s { station = station }) after (wire_links_user queues s.links of_links) (kept.user s.links of_links names is.links) e
      (user_held (IsFine Fine) s.station station event made is.held)
  user_on_right s after event (Some of_links) (Err refusal) made e names is = absurd cc

  pub acts_right : (s after : WireLayers) (event : Event) → EventNumbersFit event → (node_machine queues).user s event ≡ Ok after → IsRight s →
      IsRight after
  acts_right s after (events.Composed packet) fits e is = composed_right s after packet (content packet) refl e is
  acts_right s after event fits e is =
      user_on_right s after event (link_event event) (machine.user s.station event) refl e (names_in event fits) is
