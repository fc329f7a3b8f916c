-- What is left of what the user does, and of a packet that is composed.
use Rattle.leaving_runs.proofs.Prelude.{◌≡◌, ℕ, Bool, true, false, ◌&&◌, ◌==◌, cond, Option, Some, None, Result, Ok, Err, List, [], refl, ap, ◌∙◌}
use Rattle.leaving_runs.proofs.Prelude.{and_parts, eqb-true, Half, Outcome, answered, advance, Made, IsRecord, Event, Record, User, Start, Halt}
use Rattle.leaving_runs.proofs.Prelude.{StationRefusal, StepRefusal, LinkRefusal, WrongNode, user_refusal, Station, after_event, does, user_step}
use Rattle.leaving_runs.proofs.Prelude.{step, unless_refused, Queues, goes, Carried, check, LinkEventValue, Open, Accept, Reject, In, Up, Close}
use Rattle.leaving_runs.proofs.Prelude.{Boot, Abort, TrueSegments, Numbers, Links, links_user, links_sent, judged_by, content, link_event, Layers}
use Rattle.leaving_runs.proofs.Prelude.{LayersNode, LayersUnit, with_station, with_links, with_composed, composes, layers_machine, side_of}
use Rattle.leaving_runs.proofs.Prelude.{LinkRecord, OfUser, Sends, OfNoLink, links_then, event_out, message_out, kept_out, source_of}
use Rattle.leaving_runs.proofs.Prelude.{destination_of, Judged, EventBinds, other_out, other_judged, SideRight, RecordRight, event_right}
use Rattle.leaving_runs.proofs.Prelude.{packet_right, left_is, unseen, user_step_left, composes_left, made_of_left, sent_right, station_left}
use Rattle.leaving_runs.proofs.Prelude.{Leaves, other_leaves, half_left, layers_left, record_left, PacketsFit, EventFits, of_event, of_content}
use Rattle.capture_record.specs.declared.event.Event.TheVariants as events
use Rattle.dna_links.specs.User as user
use Rattle.dna_links.specs.Sending.{Sent}
use Rattle.leaving_runs.proofs.Stations.{event_left as station_event_left}
use Rattle.leaving_runs.proofs.Along.{AreMarked, both_right, Along, along_at, along_station, links_half}
use Rattle.leaving_runs.proofs.Along.{made_left}

-- what is not refused passes each check
pub passed : {R : Type 0} (b : Bool) (refusal : LinkRefusal) (next : Result R LinkRefusal) (x : R) → check b refusal next ≡ Ok x → b ≡ true
passed true refusal next x e = refl
passed false refusal next x e = absurd cc

-- a packet that is not refused goes between these nodes
pub goes_between : {R : Type 0} (packet : Carried) (src dst : ℕ) (next : Result R LinkRefusal) (x : R) → goes packet src dst next ≡ Ok x →
    (packet.src ≡ src) × (packet.dst ≡ dst)
goes_between packet src dst next x e =
    let p = and_parts (packet.src == src) (packet.dst == dst) (passed (packet.src == src && packet.dst == dst) WrongNode next x e) in
    (eqb-true packet.src src p.0, eqb-true packet.dst dst p.1)

-- a packet that was sent goes from its node to the other one
pub sent_from : (queues : Queues) (s : Links) (packet : Carried) (made : Sent TrueSegments Numbers) → links_sent queues s packet ≡ Ok made →
    (packet.src ≡ s.node) × (packet.dst ≡ s.peer)
sent_from queues s packet made e = goes_between packet s.node s.peer _ made e

module _ (queues : Queues) (leaves : Leaves) (judged : Judged) (own other : Half LayersNode LayersUnit)
    (mine : SideRight leaves.out judged (side_of own 0) (side_of other 0))
    (theirs : SideRight (other_out leaves.out) (other_judged judged) (side_of other 0) (side_of own 0)) where
  abbrev s : Layers
  s = own.state.station

  abbrev t : Layers
  t = layers_left leaves judged s

  abbrev own_left : Half LayersNode LayersUnit
  own_left = half_left leaves judged own

  abbrev other_left : Half LayersNode LayersUnit
  other_left = half_left (other_leaves leaves) (other_judged judged) other

  -- what this becomes at what is left
  abbrev comes_to : Result Layers StepRefusal → Outcome LayersNode LayersUnit StepRefusal
  comes_to o = answered own_left other_left (does own_left.state o)

  abbrev Goes : Record → LinkRecord Numbers → Half LayersNode LayersUnit → Type 0
  Goes r one h = Along queues leaves judged own other mine theirs r one h

  -- ---- an event of a link

  module _ (r : Record) (e : LinkEventValue) (right : user.IsInRange e × EventBinds leaves.out e) (station : Station)
      (if_out : event_out leaves.out e ≡ true → advance (step (layers_machine (judged_by queues))) own_left other_left (record_left leaves r)
      ≡ comes_to (Ok (record t { station = station_left leaves.packets station })))
      (if_judged : event_out leaves.out e ≡ false → advance (step (layers_machine (judged_by queues))) own_left other_left (record_left leaves r)
      ≡ comes_to (with_links (record t { station = station_left leaves.packets station }) (links_user queues t.links e))) where
    abbrev g : Links → Half LayersNode LayersUnit
    g links = links_half queues leaves judged own other mine theirs station links own.state.front

    r_right : RecordRight queues leaves.out judged (side_of own 0) (side_of other 0) mine theirs (OfUser e)
    r_right = event_right queues leaves.out judged (side_of own 0) (side_of other 0) mine theirs e right.0 right.1

    along_links : (links : Links) → links_user queues s.links e ≡ Ok links → Goes r (OfUser e) (g links)
    along_links links done = record {
      made_is = done;
      right = r_right;
      sides = λ marks. let next = user_step_left queues leaves.out judged (side_of own 0) (side_of other 0) mine theirs e links done (right, tt)
          marks in
          both_right queues leaves judged own other mine theirs (g links) 0 next.here next.there;
      left = λ marks. at marks (event_out leaves.out e) refl;
    }
      where
        at : AreMarked queues leaves judged own other mine theirs (OfUser e) (g links) → (b : Bool) → event_out leaves.out e ≡ b →
            made_left queues leaves judged own other mine theirs r (g links)
        at marks true is =
            if_out is ∙ ap (λ (left : Links). comes_to (Ok (record t { station = station_left leaves.packets station; links = left })))
            (unseen queues leaves.out judged (side_of own 0) (side_of other 0) mine theirs (OfUser e) r_right links done marks is)
        at marks false is =
            if_judged is ∙ ap (λ (o : Result Links LinkRefusal). comes_to
            (with_links (record t { station = station_left leaves.packets station }) o))
            (left_is queues leaves.out judged (side_of own 0) (side_of other 0) mine theirs (OfUser e) r_right links done marks is)

    by_links : (h : Half LayersNode LayersUnit) (o : Result Links LinkRefusal) → links_user queues s.links e ≡ o →
        answered own other (does own.state (with_links (record s { station = station }) o)) ≡ Made h → Goes r (OfUser e) h
    by_links h (Ok links) done made = along_at queues leaves judged own other mine theirs r (OfUser e) (g links) h made (along_links links done)
    by_links h (Err refusal) done made = absurd cc

  -- ---- the station's user

  by_start : (h : Half LayersNode LayersUnit) (o : Option StationRefusal) → user_refusal s.station.state Start ≡ o →
      answered own other (does own.state (with_station s (unless_refused o (after_event s.station Start)))) ≡ Made h →
      Goes (User events.Start) OfNoLink h
  by_start h None allowed made =
      along_at queues leaves judged own other mine theirs (User events.Start) OfNoLink _ h made
      (along_station queues leaves judged own other mine theirs (User events.Start) (after_event s.station Start) own.state.front
      (ap (λ (o : Option StationRefusal). comes_to (with_station t (unless_refused o (after_event t.station Start)))) allowed
      ∙ ap (λ (station : Station). comes_to (Ok (record t { station = station }))) (station_event_left leaves.packets s.station Start)))
  by_start h (Some refusal) allowed made = absurd cc

  -- ---- what was composed

  module _ (fits : PacketsFit leaves.out s.links.node s.links.peer leaves.packets.own) (body : List ℕ) (h : Half LayersNode LayersUnit)
      (record_fits : IsRecord (User (events.Composed body))) where
    abbrev composed : Record
    composed = User (events.Composed body)

    -- by what is read of what is left of it
    pub goes_by : (o : Result (Option Carried) StepRefusal) → content (leaves.packets.own body) ≡ o →
        advance (step (layers_machine (judged_by queues))) own_left other_left (record_left leaves composed)
        ≡ comes_to (composes (judged_by queues) t o)
    goes_by o e = ap (λ (x : Result (Option Carried) StepRefusal). comes_to (composes (judged_by queues) t x)) e

    by_composed : (packet : Carried) → content body ≡ Ok (Some packet) → (o : Result (Sent TrueSegments Numbers) LinkRefusal) →
        links_sent queues s.links packet ≡ o → answered own other (does own.state (with_composed s o)) ≡ Made h → Goes composed (Sends packet) h
    by_composed packet read (Ok made) done is = along_at queues leaves judged own other mine theirs composed (Sends packet) g h is (record {
      made_is = ap links_then done;
      right = packet_right queues leaves.out judged (side_of own 0) (side_of other 0) mine theirs packet;
      sides = λ marks. let next = composes_left queues leaves.out judged (side_of own 0) (side_of other 0) mine theirs packet made done marks in
          both_right queues leaves judged own other mine theirs g 0 next.here next.there;
      left = λ marks. at marks (message_out leaves.out packet.message) refl
          (kept_out (other_out leaves.out) (source_of packet.message) (destination_of packet.message)) refl;
    })
      where
        g : Half LayersNode LayersUnit
        g = links_half queues leaves judged own other mine theirs s.station made.links own.state.front

        at : AreMarked queues leaves judged own other mine theirs (Sends packet) g → (b : Bool) → message_out leaves.out packet.message ≡ b →
            (c : Bool) → kept_out (other_out leaves.out) (source_of packet.message) (destination_of packet.message) ≡ c →
            made_left queues leaves judged own other mine theirs composed g
        at marks true is true there =
            goes_by (Ok None) (fits.goes body packet record_fits.spelling.bytes read is there)
            ∙ ap (λ (left : Links). comes_to (Ok (record t { links = left })))
            (unseen queues leaves.out judged (side_of own 0) (side_of other 0) mine theirs (Sends packet)
            (packet_right queues leaves.out judged (side_of own 0) (side_of other 0) mine theirs packet) made.links (ap links_then done) marks is)
        at marks true is false there =
            let stays = (sent_right queues leaves.out judged (side_of own 0) (side_of other 0) mine theirs packet made done marks).stays there in
            absurd cc
        at marks false is c there =
            let nodes = sent_from queues s.links packet made done in
            goes_by (Ok (Some packet)) (fits.stays body packet record_fits.spelling.bytes read nodes.0 nodes.1 is)
            ∙ ap (λ (o : Result (Sent TrueSegments Numbers) LinkRefusal). comes_to (with_composed t o))
            (made_of_left queues leaves.out judged (side_of own 0) (side_of other 0) mine theirs packet made done marks is)
    by_composed packet read (Err refusal) done is = absurd cc

    by_content : (o : Result (Option Carried) StepRefusal) → content body ≡ o → answered own other (does own.state (composes (judged_by queues) s o))
        ≡ Made h →
        Goes composed (of_content o) h
    by_content (Ok (Some packet)) read made = by_composed packet read _ refl made
    by_content (Ok None) read made =
        along_at queues leaves judged own other mine theirs composed OfNoLink _ h made
        (along_station queues leaves judged own other mine theirs composed s.station own.state.front
        (goes_by (Ok None) (fits.none body record_fits.spelling.bytes read)))
    by_content (Err refusal) read made = absurd cc

  -- ---- any event

  module _ (fits : PacketsFit leaves.out s.links.node s.links.peer leaves.packets.own) (h : Half LayersNode LayersUnit) where
    abbrev acts : Event → Outcome LayersNode LayersUnit StepRefusal
    acts event = answered own_left other_left (user_step (layers_machine (judged_by queues)) own_left.state event)

    -- where it is judged, and where not
    abbrev if_left : (link : ℕ) → Event → Bool → Outcome LayersNode LayersUnit StepRefusal
    if_left link event b = acts (cond b (events.Interrupt link []) event)

    -- one that is carried
    carried : (link : ℕ) (event : Event) → acts event ≡ Made own_left → (b : Bool) → if_left link event b ≡ Made own_left
    carried link event done true = refl
    carried link event done false = done

    pub event_along : (event : Event) → IsRecord (User event) → EventFits leaves.out (link_event event) →
        answered own other (user_step (layers_machine (judged_by queues)) own.state event) ≡ Made h → Goes (User event) (of_event event) h
    event_along events.Start is binds made = by_start h _ refl made
    event_along events.Halt is binds made =
        along_at queues leaves judged own other mine theirs (User events.Halt) OfNoLink _ h made
        (along_station queues leaves judged own other mine theirs (User events.Halt) (after_event s.station Halt) own.state.front refl)
    event_along events.Boot is binds made =
        by_links (User events.Boot) Boot (tt, tt) (after_event s.station Halt) (λ out. absurd cc) (λ out. refl) h _ refl made
    event_along (events.Open link) is binds made =
        by_links (User (events.Open link)) (Open link) (is.spelling.numbers.least, binds) s.station
        (λ out. ap (if_left link (events.Open link)) out) (λ out. ap (if_left link (events.Open link)) out) h _ refl made
    event_along (events.Accept partner link) is binds made =
        by_links (User (events.Accept partner link)) (Accept partner link) ((is.spelling.numbers.0.least, is.spelling.numbers.1.least), binds)
        s.station
        (λ out. ap (if_left link (events.Accept partner link)) out) (λ out. ap (if_left link (events.Accept partner link)) out) h _ refl made
    event_along (events.Reject partner link) is binds made =
        by_links (User (events.Reject partner link)) (Reject partner link) ((is.spelling.numbers.0.least, is.spelling.numbers.1.least), binds)
        s.station
        (λ out. ap (if_left link (events.Reject partner link)) out) (λ out. ap (if_left link (events.Reject partner link)) out) h _ refl made
    event_along (events.In link message) is binds made =
        by_links (User (events.In link message)) (In link message) ((is.spelling.numbers.least, is.short), binds) s.station
        (λ out. ap (if_left link (events.In link message)) out) (λ out. ap (if_left link (events.In link message)) out) h _ refl made
    event_along (events.Up link message) is binds made =
        by_links (User (events.Up link message)) (Up link message) ((is.spelling.numbers.least, is.short), binds) s.station
        (λ out. ap (if_left link (events.Up link message)) out) (λ out. ap (if_left link (events.Up link message)) out) h _ refl made
    event_along (events.Close link) is binds made =
        by_links (User (events.Close link)) (Close link) (is.spelling.numbers.least, binds) s.station
        (λ out. ap (if_left link (events.Close link)) out) (λ out. ap (if_left link (events.Close link)) out) h _ refl made
    event_along (events.Abort link) is binds made =
        by_links (User (events.Abort link)) (Abort link) (is.spelling.numbers.least, binds) s.station
        (λ out. ap (if_left link (events.Abort link)) out) (λ out. ap (if_left link (events.Abort link)) out) h _ refl made
    event_along (events.Composed body) is binds made = by_content fits body h is (content body) refl made
    event_along (events.Interrupt link bytes) is binds made =
        along_at queues leaves judged own other mine theirs (User (events.Interrupt link bytes)) OfNoLink _ h made
        (along_station queues leaves judged own other mine theirs (User (events.Interrupt link bytes)) s.station own.state.front
        (carried link (events.Interrupt link bytes) refl (leaves.out.own link)))
    event_along (events.Interrupted link bytes) is binds made =
        along_at queues leaves judged own other mine theirs (User (events.Interrupted link bytes)) OfNoLink _ h made
        (along_station queues leaves judged own other mine theirs (User (events.Interrupted link bytes)) s.station own.state.front
        (carried link (events.Interrupted link bytes) refl (leaves.out.own link)))
