-- Nodes over both layers with queues make whatever nodes without make, and are left the same but for what the queues leave open.
use Rattle.std.proofs.Common.{◌≡◌, Bool, true, false, cond, Option, Some, None, Result, Ok, Err, List, [], ◌∷◌, ◌++◌, length, refl, sym, ap, ap₂, ◌∙◌}
use Rattle.std.proofs.Common.{subst}
use Rattle.std.proofs.lemmas.List.{length-map}
use Rattle.two_nodes.specs.Nodes.{World, Run}
use Rattle.ddcmp_msg.specs.Message.{MessageValue}
use Rattle.capture_record.specs.declared.fate.Fate.{Fate}
use Rattle.capture_record.specs.declared.fate.Fate.TheVariants.{Kept, Dropped, NotKept}
use Rattle.capture_record.specs.declared.record.Record.{Record}
use Rattle.capture_record.specs.declared.event.Event.{Event}
use Rattle.capture_record.specs.declared.event.Event.TheVariants as events
use Rattle.dna_station.specs.declared.head.Head.{Head}
use Rattle.dna_station.specs.declared.refusal.StepRefusal.{StepRefusal}
use Rattle.dna_station.specs.declared.link_refusal.LinkRefusal.{LinkRefusal}
use Rattle.dna_station.specs.Table.{Change, SendPacket, change_of}
use Rattle.dna_station.specs.PeriodRule.{of_period}
use Rattle.dna_station.specs.declared.state.StationEvent.TheVariants.{Halt}
use Rattle.dna_station.specs.Station.{Station, after_event}
use Rattle.dna_station.specs.StationBook.{gives_number}
use Rattle.dna_station.specs.Truth.{Truth}
use Rattle.dna_station.specs.Book.{ArrivalValue, body_of}
use Rattle.dna_station.specs.Node.{station_machine}
use Rattle.dna_links.specs.declared.queue.Queues.TheVariants.{Without, With}
use Rattle.dna_links.specs.Links.{Carried, LinkTruth}
use Rattle.dna_links.specs.User.{LinkEventValue, Open, Accept, Reject, In, Up, Close, Boot, Abort}
use Rattle.dna_links.specs.Sending.{Sent}
use Rattle.dna_links.specs.Arriving.{of_partner}
use Rattle.dna_links.specs.TrueSegments.{TrueSegments, Numbers, true_segments}
use Rattle.dna_links.specs.TrueLinks.{Links, links_user}
use Rattle.dna_links.specs.Captures.{deliveries}
use Rattle.dna_links.specs.Runs.{SentMessage}
use Rattle.dna_links.specs.Alike.{bare}
use Rattle.dna_links.proofs.Runs.Bared.{deliveries_bare}
use Rattle.dna_links.proofs.AsMuch.Plain.{plain_links}
use Rattle.dna_links.proofs.AsMuch.Fit.{AllFit, AreDone, AreSent}
use Rattle.dna_links.proofs.AsMuch.User.{user_done}
use Rattle.dna_links.proofs.AsMuch.Sending.{sent_done}
use Rattle.dna_links.proofs.AsMuch.Arriving.{arrived_done}
use Rattle.dna_links.proofs.AsMuch.TrueBook.{true_lets_go, plain_are}
use Rattle.dna_node.specs.TagRules.{judged, judged_by}
use Rattle.dna_node.specs.Content.{content}
use Rattle.dna_node.specs.Layers.{Layers, LayersTruth, LayersNode, LayersUnit, with_station, with_links, first_sent, with_message, carried_again}
use Rattle.dna_node.specs.Layers.{sends_again, to_station, carried_by, sends_first, sends_on, keeps, meets_on, with_composed, composes}
use Rattle.dna_node.specs.Layers.{layers_machine, new_layers_node}
use Rattle.dna_node.specs.LayersPair.{layers_pair, layers_start}
use Rattle.dna_node.specs.AsMuch.{bare_layers, CountsAlike, IsRunWithQueues}
use Rattle.dna_node.proofs.AsMuch.Nodes.{IsDone, IsSent, DoesAsMuch, runs_with}

abbrev plain_layers : Layers → Layers
plain_layers t = record t { links = plain_links true_segments t.links }

-- a node with queues beside one without
pub record Stands (s t : Layers) : Type 0 where
  pub same : plain_layers t ≡ s
  pub fits : AllFit t.links

-- ---- what becomes of the links

with_links_done : (t : Layers) (o o' : Result Links LinkRefusal) → AreDone true_segments o o' →
    IsDone Stands (with_links (plain_layers t) o) (with_links t o')
with_links_done t (Ok links) o' done = record {
  left = record t { links = done.links };
  is = ap (with_links t) done.does;
  beside = record { same = ap (λ (x : Links). record (plain_layers t) { links = x }) done.same; fits = done.fit };
}
with_links_done t (Err refusal) o' done = tt

-- a packet is kept
keeps_done : (t : Layers) → AllFit t.links → (carried : Option SentMessage) →
    IsDone Stands (keeps judged (plain_layers t) carried) (keeps (judged_by With) t carried)
keeps_done t fits (Some message) =
    with_links_done t _ _ (arrived_done true_segments true_lets_go of_partner t.links fits message.truth message.packet)
keeps_done t fits None = record { left = t; is = refl; beside = record { same = refl; fits = fits } }

-- ---- the node

module _ (t : Layers) (fits : AllFit t.links) where
  -- ---- the user

  by_station : (o : Result Station StepRefusal) → IsDone Stands (with_station (plain_layers t) o) (with_station t o)
  by_station (Ok station) =
      record { left = record t { station = station }; is = refl; beside = record { same = refl; fits = fits } }
  by_station (Err refusal) = tt

  left_same : IsDone Stands (Ok (plain_layers t)) (Ok t)
  left_same = record { left = t; is = refl; beside = record { same = refl; fits = fits } }

  link_done : (event : LinkEventValue) → IsDone Stands (with_links (plain_layers t) (links_user Without (plain_links true_segments t.links) event))
      (with_links t (links_user With t.links event))
  link_done event = with_links_done t _ _ (user_done true_segments true_lets_go t.links fits event)

  abbrev halted : Layers
  halted = record t { station = after_event t.station Halt }

  boot_done : IsDone Stands (with_links (plain_layers halted) (links_user Without (plain_links true_segments t.links) Boot))
      (with_links halted (links_user With t.links Boot))
  boot_done =
      with_links_done halted (links_user Without (plain_links true_segments t.links) Boot) (links_user With t.links Boot)
      (user_done true_segments true_lets_go t.links fits Boot)

  composed_done : (o o' : Result (Sent TrueSegments Numbers) LinkRefusal) → AreSent true_segments o o' →
      IsDone Stands (with_composed (plain_layers t) o) (with_composed t o')
  composed_done (Ok made) o' f = record {
    left = record t { links = f.sent.links };
    is = ap (with_composed t) f.does;
    beside = record { same = ap (λ (x : Sent TrueSegments Numbers). record t { links = x.links }) f.same; fits = f.fit };
  }
  composed_done (Err refusal) o' f = tt

  packet_composed : (r : Result (Option Carried) StepRefusal) → IsDone Stands (composes judged (plain_layers t) r) (composes (judged_by With) t r)
  packet_composed (Ok (Some packet)) = composed_done _ _ (sent_done true_segments true_lets_go t.links fits packet)
  packet_composed (Ok None) = left_same
  packet_composed (Err refusal) = tt

  event_done : (event : Event) → IsDone Stands ((layers_machine judged).user (plain_layers t) event) ((layers_machine (judged_by With)).user t event)
  event_done events.Start = by_station ((station_machine of_period).user t.station events.Start)
  event_done events.Halt = by_station ((station_machine of_period).user t.station events.Halt)
  event_done (events.Open link) = link_done (Open link)
  event_done (events.Accept partner link) = link_done (Accept partner link)
  event_done (events.Reject partner link) = link_done (Reject partner link)
  event_done (events.In link message) = link_done (In link message)
  event_done (events.Up link message) = link_done (Up link message)
  event_done (events.Close link) = link_done (Close link)
  event_done events.Boot = boot_done
  event_done (events.Abort link) = link_done (Abort link)
  event_done (events.Composed packet) = packet_composed (content packet)
  event_done (events.Interrupt link message) = left_same
  event_done (events.Interrupted link message) = left_same

  -- ---- a message is sent

  module _ (after : Station × Truth) where
    abbrev left_with : Option SentMessage → Links → Layers
    left_with carried links = record { station = after.0; links = links; messages = t.messages ++ carried ∷ [] }

    abbrev message_with : Carried → LinkTruth Numbers → Option SentMessage
    message_with packet truth = Some (record { packet = packet; truth = truth })

    abbrev made_with : Links → Option SentMessage → Result (Layers × LayersTruth) StepRefusal
    made_with links carried = Ok (first_sent t after links carried)

    message_done : (packet : Carried) (o o' : Result (Sent TrueSegments Numbers) LinkRefusal) → AreSent true_segments o o' →
        IsSent Stands (with_message (plain_layers t) after packet o) (with_message t after packet o')
    message_done packet (Ok made) o' f = record {
      left = left_with (message_with packet made.truth) f.sent.links;
      is = ap (with_message t after packet) f.does
          ∙ ap (λ (x : Sent TrueSegments Numbers). made_with f.sent.links (message_with packet x.truth)) f.same;
      beside = record {
        same = ap (λ (x : Sent TrueSegments Numbers). left_with (message_with packet made.truth) x.links) f.same;
        fits = f.fit;
      };
    }
    message_done packet (Err refusal) o' f = tt

    first_done : (r : Result (Option Carried) StepRefusal) →
        IsSent Stands (sends_first judged (plain_layers t) after r) (sends_first (judged_by With) t after r)
    first_done (Ok (Some packet)) = message_done packet _ _ (sent_done true_segments true_lets_go t.links fits packet)
    first_done (Ok None) = record { left = left_with None t.links; is = refl; beside = record { same = refl; fits = fits } }
    first_done (Err refusal) = tt

    again_same : (change : Change) → carried_again t after.1 change ≡ carried_again (plain_layers t) after.1 change
    again_same SendPacket = refl
    again_same change = refl

    abbrev again_with : Option SentMessage → Result (Layers × LayersTruth) StepRefusal
    again_with carried = Ok (record t { station = after.0 }, record { station = after.1; carried = carried })

    by_number : (m : MessageValue) (b : Bool) →
        IsSent Stands (cond b (sends_first judged (plain_layers t) after (content (body_of m))) (Ok (sends_again (plain_layers t) m after)))
        (cond b (sends_first (judged_by With) t after (content (body_of m))) (Ok (sends_again t m after)))
    by_number m true = first_done (content (body_of m))
    by_number m false = record {
      left = record t { station = after.0 };
      is = ap again_with (again_same (change_of m));
      beside = record { same = refl; fits = fits };
    }

  by_sending : (m : MessageValue) (o : Result (Station × Truth) StepRefusal) →
      IsSent Stands (sends_on judged (plain_layers t) m o) (sends_on (judged_by With) t m o)
  by_sending m (Ok after) = by_number after m (gives_number t.station m)
  by_sending m (Err refusal) = tt

  -- ---- an arrival

  by_arrival : (arrival : ArrivalValue LayersTruth) (fate : Fate) (o : Result Station StepRefusal) →
      IsDone Stands (meets_on judged (plain_layers t) arrival fate o) (meets_on (judged_by With) t arrival fate o)
  by_arrival arrival Kept (Ok station) = keeps_done (record t { station = station }) fits (carried_by arrival)
  by_arrival arrival Dropped (Ok station) =
      record { left = record t { station = station }; is = refl; beside = record { same = refl; fits = fits } }
  by_arrival arrival NotKept (Ok station) =
      record { left = record t { station = station }; is = refl; beside = record { same = refl; fits = fits } }
  by_arrival arrival fate (Err refusal) = tt

-- what a node with queues does beside one without
module _ (s t : Layers) (stands : Stands s t) where
  user_beside : (event : Event) → IsDone Stands ((layers_machine judged).user s event) ((layers_machine (judged_by With)).user t event)
  user_beside event =
      subst (λ (x : Layers). IsDone Stands ((layers_machine judged).user x event) ((layers_machine (judged_by With)).user t event)) stands.same
      (event_done t stands.fits event)

  sends_beside : (m : MessageValue) → IsSent Stands ((layers_machine judged).sends s m) ((layers_machine (judged_by With)).sends t m)
  sends_beside m =
      subst (λ (x : Layers). IsSent Stands ((layers_machine judged).sends x m) ((layers_machine (judged_by With)).sends t m)) stands.same
      (by_sending t stands.fits m ((station_machine of_period).sends t.station m))

  arrives_beside : (arrival : ArrivalValue LayersTruth) (fate : Fate) →
      IsDone Stands ((layers_machine judged).arrives s arrival fate) ((layers_machine (judged_by With)).arrives t arrival fate)
  arrives_beside arrival fate =
      subst (λ (x : Layers). IsDone Stands ((layers_machine judged).arrives x arrival fate)
      ((layers_machine (judged_by With)).arrives t arrival fate))
      stands.same (by_arrival t stands.fits arrival fate ((station_machine of_period).arrives t.station (to_station arrival) fate))

layers_do_as_much : DoesAsMuch (layers_machine judged) (layers_machine (judged_by With)) Stands
layers_do_as_much = record { user = user_beside; sends = sends_beside; arrives = arrives_beside }

-- ---- runs

new_stands : (head : Head) → let s = (new_layers_node head).station in Stands s s
new_stands head = record { same = refl; fits = λ i l at. absurd cc }

-- but for what the queues leave open, it is the same
bare_same : (s t : Layers) → Stands s t → bare_layers t ≡ s
bare_same s t stands = ap (λ (x : Links). record t { links = x }) (sym (plain_are t.links)) ∙ stands.same

counts_alike : (s t : Layers) → Stands s t → CountsAlike t s
counts_alike s t stands = record {
  links = sym (length-map t.links.links bare) ∙ ap (λ (x : Layers). length x.links.links) (bare_same s t stands);
  delivered = sym (deliveries_bare t.links.links) ∙ ap (λ (x : Layers). deliveries x.links.links) (bare_same s t stands);
}

abbrev left_world : World LayersNode LayersUnit → (a b : Layers) → World LayersNode LayersUnit
left_world end a b = record {
  a = record { state = record end.a.state { station = a }; sent = end.a.sent };
  b = record { state = record end.b.state { station = b }; sent = end.b.sent };
}

pub runs_with_queues : (head_a head_b : Head) (end : World LayersNode LayersUnit) (of_a of_b : List Record) →
    Run layers_pair (layers_start head_a head_b) of_a of_b end → IsRunWithQueues head_a head_b end of_a of_b
runs_with_queues head_a head_b end of_a of_b run =
    let r = runs_with layers_do_as_much (new_layers_node head_a).station (new_layers_node head_b).station (new_stands head_a) (new_stands head_b)
    run in
    record {
      left = left_world end r.a r.b;
      run = r.run;
      same = ap₂ (λ (x y : Layers). left_world end x y) (bare_same end.a.state.station r.a r.beside_a) (bare_same end.b.state.station r.b r.beside_b);
      counted_a = counts_alike end.a.state.station r.a r.beside_a;
      counted_b = counts_alike end.b.state.station r.b r.beside_b;
    }
