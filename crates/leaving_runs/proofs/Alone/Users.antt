-- What one end makes of what its user does, what is left of it makes of what is left of that.
use Rattle.leaving_runs.proofs.Prelude.{◌≡◌, ℕ, Bool, true, false, cond, Option, Result, Ok, [], refl, sym, ap, ◌∙◌, subst, IsRecord, Event, User}
use Rattle.leaving_runs.proofs.Prelude.{Start, Halt, StepRefusal, user_refusal, unless_refused, WireStation, wire_after_event, Queues, LinkTag}
use Rattle.leaving_runs.proofs.Prelude.{Carried, LinkEventValue, Open, Accept, Reject, In, Up, Close, Boot, Abort, wire_links_user, by_bytes_with}
use Rattle.leaving_runs.proofs.Prelude.{content, link_event, WireLayers, with_wire_station, with_wire_links, wire_layers_user, OfNoLink, event_out}
use Rattle.leaving_runs.proofs.Prelude.{EventBinds, Leaves, event_left, PacketsFit, EventFits, IsJudged, of_content, of_event}
use Rattle.capture_record.specs.declared.event.Event.TheVariants as events
use Rattle.dna_links.specs.User as user
use Rattle.leaving_runs.proofs.Alone.Stations.{by_held}
use Rattle.leaving_runs.proofs.Alone.Stations.{event_left as station_event_left}
use Rattle.leaving_runs.proofs.Alone.Layers.{Station, LayersLeft, ResultLeft, station_left, events_left, composes_left}

module _ (queues : Queues) (leaves : Leaves) (node peer : ℕ) where
  module _ (s t : WireLayers) (l : LayersLeft queues leaves node peer s t) (fits : PacketsFit leaves.out node peer leaves.packets.own) where
    abbrev acts : Event → Result WireLayers StepRefusal
    acts event = wire_layers_user (by_bytes_with queues) t event

    abbrev nobody : Type 0
    nobody = IsJudged leaves.out OfNoLink

    -- where it is judged, and where not
    abbrev if_left : (link : ℕ) → Event → Bool → Result WireLayers StepRefusal
    if_left link event b = acts (cond b (events.Interrupt link []) event)

    halted : Station queues leaves node peer (wire_after_event s.station Halt) (wire_after_event t.station Halt)
    halted =
        by_held leaves.packets.own s.station t.station
        (λ (v : WireStation LinkTag). Station queues leaves node peer (wire_after_event s.station Halt) (wire_after_event v Halt)) l.station
        (λ held e. station_event_left leaves.packets.own s.station held e Halt)

    of_link : (link : ℕ) (event : Event) (e : LinkEventValue) → user.IsInRange e → EventBinds leaves.out e →
        event_out leaves.out e ≡ leaves.out.own link → acts event ≡ with_wire_links t (wire_links_user queues t.links e) →
        ResultLeft queues leaves node peer (event_out leaves.out e ≡ false) (with_wire_links s (wire_links_user queues s.links e))
        (if_left link event (leaves.out.own link))
    of_link link event e range binds about same =
        events_left queues leaves node peer s t l e range binds (if_left link event (leaves.out.own link))
        (λ out. ap (if_left link event) (sym about ∙ out)) (λ out. ap (if_left link event) (sym about ∙ out) ∙ same)

    -- one that is carried
    carried : (J : Type 0) (link : ℕ) (event : Event) → acts event ≡ Ok t → (b : Bool) →
        ResultLeft queues leaves node peer J (Ok s) (if_left link event b)
    carried J link event same true = l
    carried J link event same false = subst (ResultLeft queues leaves node peer J (Ok s)) (sym same) l

    pub user_left : (event : Event) → IsRecord (User event) → EventFits leaves.out (link_event event) →
        ResultLeft queues leaves node peer (IsJudged leaves.out (of_event event)) (wire_layers_user (by_bytes_with queues) s event)
        (acts (event_left leaves event))
    user_left events.Start is binds =
        by_held leaves.packets.own s.station t.station
        (λ (v : WireStation LinkTag). ResultLeft queues leaves node peer nobody
        (with_wire_station s (unless_refused (user_refusal s.station.variables.state Start) (wire_after_event s.station Start)))
        (with_wire_station t (unless_refused (user_refusal v.variables.state Start) (wire_after_event v Start)))) l.station
        (λ held e. station_left queues leaves node peer s t l nobody (user_refusal s.station.variables.state Start)
        (wire_after_event s.station Start) _
        (station_event_left leaves.packets.own s.station held e Start))
    user_left events.Halt is binds = record { station = halted; links = l.links }
    user_left events.Boot is binds =
        events_left queues leaves node peer (record s { station = wire_after_event s.station Halt })
        (record t { station = wire_after_event t.station Halt }) (record { station = halted; links = l.links }) Boot tt tt
        (with_wire_links (record t { station = wire_after_event t.station Halt }) (wire_links_user queues t.links Boot)) (λ out. absurd cc)
        (λ out. refl)
    user_left (events.Open link) is binds = of_link link (events.Open link) (Open link) is.spelling.numbers.least binds refl refl
    user_left (events.Accept partner link) is binds =
        of_link link (events.Accept partner link) (Accept partner link) (is.spelling.numbers.0.least, is.spelling.numbers.1.least) binds refl refl
    user_left (events.Reject partner link) is binds =
        of_link link (events.Reject partner link) (Reject partner link) (is.spelling.numbers.0.least, is.spelling.numbers.1.least) binds refl refl
    user_left (events.In link message) is binds =
        of_link link (events.In link message) (In link message) (is.spelling.numbers.least, is.short) binds refl refl
    user_left (events.Up link message) is binds =
        of_link link (events.Up link message) (Up link message) (is.spelling.numbers.least, is.short) binds refl refl
    user_left (events.Close link) is binds = of_link link (events.Close link) (Close link) is.spelling.numbers.least binds refl refl
    user_left (events.Abort link) is binds = of_link link (events.Abort link) (Abort link) is.spelling.numbers.least binds refl refl
    user_left (events.Composed body) is binds =
        composes_left queues leaves node peer s t l fits body is.spelling.bytes (IsJudged leaves.out (of_content (content body)))
        (λ j packet held. subst (λ (c : Result (Option Carried) StepRefusal). IsJudged leaves.out (of_content c)) held j) (content body) refl
    user_left (events.Interrupt link bytes) is binds = carried nobody link (events.Interrupt link bytes) refl (leaves.out.own link)
    user_left (events.Interrupted link bytes) is binds = carried nobody link (events.Interrupted link bytes) refl (leaves.out.own link)
