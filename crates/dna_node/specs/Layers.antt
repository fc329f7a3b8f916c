-- The node over both layers, on true numbers: what its station makes of a record, with the links on top. So each reason of the station comes
-- before 15 and 17, which are of a packet that is first sent, and before the reasons of the links.
use Rattle.std.specs.Prelude.{Bool, if◌then◌else◌, Option, Some, None, List, [], ◌∷◌, ◌++◌, slice_get, Result, Ok, Err}
use Rattle.two_nodes.specs.Cutting.{Cut}
use Rattle.ddcmp_msg.specs.Message.{MessageValue}
use Rattle.capture_record.specs.declared.event.Event.{Event}
use Rattle.capture_record.specs.declared.event.Event.TheVariants.{Composed}
use Rattle.capture_record.specs.declared.fate.Fate.{Fate}
use Rattle.capture_record.specs.Fates.{is_met}
use Rattle.dna_station.specs.declared.head.Head.{Head}
use Rattle.dna_station.specs.declared.refusal.StepRefusal.{StepRefusal}
use Rattle.dna_station.specs.declared.refusal.StepRefusal.TheVariants.{Links as OfLinks}
use Rattle.dna_station.specs.declared.link_refusal.LinkRefusal.{LinkRefusal}
use Rattle.dna_station.specs.Table.{Change, SendPacket, change_of}
use Rattle.dna_node.specs.TagRules.{Rules}
use Rattle.dna_station.specs.Book.{ArrivalValue, Sound, HeaderBad, DataBad, body_of}
use Rattle.dna_station.specs.Station.{Station, new_station}
use Rattle.dna_station.specs.StationBook.{gives_number}
use Rattle.dna_station.specs.Truth.{Truth}
use Rattle.dna_station.specs.Line.{UnitOf, SentUnit}
use Rattle.dna_station.specs.Machine.{Machine, NodeOf}
use Rattle.dna_station.specs.Node.{Node, station_machine}
use Rattle.dna_links.specs.Links.{Carried}
use Rattle.dna_links.specs.User.{LinkEventValue}
use Rattle.dna_links.specs.Sending.{Sent}
use Rattle.dna_links.specs.TrueSegments.{TrueSegments, Numbers}
use Rattle.dna_links.specs.TrueLinks.{Links, new_links, links_user, links_sent, links_arrived}
use Rattle.dna_links.specs.Runs.{SentMessage}
use Rattle.dna_node.specs.Content.{content, link_event}

-- Links live on over the starts of the station
pub record Layers : Type 0 where
  pub station : Station
  pub links : Links
  -- of each packet ever first sent, by its place: the message of the links in it with what was true of that, or None
  pub messages : List (Option SentMessage)

-- What is known of a unit: its station's truth; and of a data message what was true of its packet when that was first sent
pub record LayersTruth : Type 0 where
  pub station : Truth
  pub carried : Option SentMessage

abbrev pub with_station : Layers → Result Station StepRefusal → Result Layers StepRefusal
with_station s (Ok station) = Ok (record s { station = station })
with_station s (Err refusal) = Err refusal

abbrev pub with_links : Layers → Result Links LinkRefusal → Result Layers StepRefusal
with_links s (Ok links) = Ok (record s { links = links })
with_links s (Err refusal) = Err (OfLinks refusal)

-- ---- a message is sent

-- a packet that was first sent, with what it carries
abbrev pub first_sent : Layers → Station × Truth → Links → Option SentMessage → Layers × LayersTruth
first_sent s after links carried =
    (record { station = after.0; links = links; messages = s.messages ++ carried ∷ [] }, record { station = after.1; carried = carried })

abbrev pub with_message : Layers → Station × Truth → Carried → Result (Sent TrueSegments Numbers) LinkRefusal →
    Result (Layers × LayersTruth) StepRefusal
with_message s after packet (Ok made) = Ok (first_sent s after made.links (Some (record { packet = packet; truth = made.truth })))
with_message s after packet (Err refusal) = Err (OfLinks refusal)

-- a message that was composed and is never sent: its packet gets no place
abbrev pub with_composed : Layers → Result (Sent TrueSegments Numbers) LinkRefusal → Result Layers StepRefusal
with_composed s (Ok made) = Ok (record s { links = made.links })
with_composed s (Err refusal) = Err (OfLinks refusal)

-- the message of the packet that is sent again, found by its place
abbrev pub of_place : Option (Option SentMessage) → Option SentMessage
of_place None = None
of_place (Some carried) = carried

abbrev pub carried_again : Layers → Truth → Change → Option SentMessage
carried_again s u SendPacket = of_place (slice_get s.messages u.place)
carried_again s u change = None

abbrev pub sends_again : Layers → MessageValue → Station × Truth → Layers × LayersTruth
sends_again s m after = (record s { station = after.0 }, record { station = after.1; carried = carried_again s after.1 (change_of m) })

-- ---- an arrival

-- what it is to the station
abbrev pub to_station : ArrivalValue LayersTruth → ArrivalValue Truth
to_station (Sound m known) = Sound m known.station
to_station HeaderBad = HeaderBad
to_station DataBad = DataBad

abbrev pub carried_by : ArrivalValue LayersTruth → Option SentMessage
carried_by (Sound m known) = known.carried
carried_by HeaderBad = None
carried_by DataBad = None

module _ (rules : Rules) where
  -- ---- a message is sent

  -- packet and message can be read, else 15 and 17; then by the links
  abbrev pub sends_first : Layers → Station × Truth → Result (Option Carried) StepRefusal → Result (Layers × LayersTruth) StepRefusal
  sends_first s after (Ok (Some packet)) = with_message s after packet (links_sent rules.queues s.links packet)
  sends_first s after (Ok None) = Ok (first_sent s after s.links None)
  sends_first s after (Err refusal) = Err refusal

  -- what the station made of it, with the links on top: they meet a packet when it is given a number
  abbrev pub sends_on : Layers → MessageValue → Result (Station × Truth) StepRefusal → Result (Layers × LayersTruth) StepRefusal
  sends_on s m (Ok after) = if gives_number s.station m then sends_first s after (content (body_of m)) else Ok (sends_again s m after)
  sends_on s m (Err refusal) = Err refusal

  -- ---- an arrival

  -- a packet is kept
  abbrev pub keeps : Layers → Option SentMessage → Result Layers StepRefusal
  keeps s (Some message) = with_links s (links_arrived rules.queues rules.partners s.links message.packet message.truth)
  keeps s None = Ok s

  -- what the station made of it, with the links on top: they meet a packet where it was kept, and not lost above
  abbrev pub meets_on : Layers → ArrivalValue LayersTruth → Fate → Result Station StepRefusal → Result Layers StepRefusal
  meets_on s arrival fate (Ok station) =
      if is_met fate then keeps (record s { station = station }) (carried_by arrival) else Ok (record s { station = station })
  meets_on s arrival fate (Err refusal) = Err refusal

  -- ---- an event

  -- what the station made of it, with the links on top
  abbrev pub user_on : Layers → Option LinkEventValue → Result Station StepRefusal → Result Layers StepRefusal
  user_on s None made = with_station s made
  user_on s (Some of_links) (Ok station) = with_links (record s { station = station }) (links_user rules.queues s.links of_links)
  user_on s (Some of_links) (Err refusal) = Err refusal

  -- what was composed and is never sent is to the links as if it were first sent, and nothing to the station
  abbrev pub composes : Layers → Result (Option Carried) StepRefusal → Result Layers StepRefusal
  composes s (Ok (Some packet)) = with_composed s (links_sent rules.queues s.links packet)
  composes s (Ok None) = Ok s
  composes s (Err refusal) = Err refusal

  abbrev pub layers_user : Layers → Event → Result Layers StepRefusal
  layers_user s (Composed packet) = composes s (content packet)
  layers_user s event = user_on s (link_event event) ((station_machine rules.periods).user s.station event)

  -- ---- the node

  abbrev pub layers_machine : Machine Layers LayersTruth
  layers_machine = record {
    user = λ (s : Layers) (event : Event). layers_user s event;
    sends = λ (s : Layers) (m : MessageValue). sends_on s m ((station_machine rules.periods).sends s.station m);
    arrives = λ (s : Layers) (arrival : ArrivalValue LayersTruth) (fate : Fate). meets_on s arrival fate
        ((station_machine rules.periods).arrives s.station (to_station arrival) fate);
  }

abbrev pub LayersNode : Type 0
LayersNode = NodeOf Layers

abbrev pub LayersUnit : Type 0
LayersUnit = UnitOf LayersTruth

-- before any record, with the addresses of its head
abbrev pub new_layers_node : Head → LayersNode
new_layers_node head =
    record { head = head; station = record { station = new_station; links = new_links head.own head.peer; messages = [] }; front = 0 }

-- what its station's node sees of it
abbrev pub station_of : LayersNode → Node
station_of n = record { head = n.head; station = n.station.station; front = n.front }

abbrev pub unit_of_station : LayersUnit → SentUnit
unit_of_station unit = record { bytes = unit.bytes; message = unit.message; known = unit.known.station }

abbrev pub stations : Cut LayersNode LayersUnit Node SentUnit
stations = record { of_state = station_of; of_unit = unit_of_station }
