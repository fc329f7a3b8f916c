-- The wire node over both layers: the wire station with the links as a node keeps them on top. The label beside a packet is the tag of its message,
-- which the links gave when the packet was first sent; a packet with no message of the links has a tag without a link.
use Rattle.std.specs.Prelude.{Bool, if◌then◌else◌, Option, Some, None, Result, Ok, Err}
use Rattle.two_nodes.specs.Nodes.{Nodes, World, start_world}
use Rattle.ddcmp_msg.specs.Message.{MessageValue}
use Rattle.capture_record.specs.declared.record.Record.{Record}
use Rattle.capture_record.specs.declared.event.Event.{Event}
use Rattle.capture_record.specs.declared.event.Event.TheVariants.{Composed}
use Rattle.capture_record.specs.declared.fate.Fate.{Fate}
use Rattle.capture_record.specs.Fates.{is_met}
use Rattle.dna_station.specs.declared.head.Head.{Head}
use Rattle.dna_station.specs.declared.tag.Tag.{Tag}
use Rattle.dna_links.specs.declared.queue.Queues.{Queues}
use Rattle.dna_links.specs.declared.queue.Queues.TheVariants.{Without}
use Rattle.dna_links.specs.declared.tag.LinkTag.{LinkTag}
use Rattle.dna_station.specs.declared.refusal.StepRefusal.{StepRefusal}
use Rattle.dna_station.specs.declared.refusal.StepRefusal.TheVariants.{Links as OfLinks}
use Rattle.dna_station.specs.declared.link_refusal.LinkRefusal.{LinkRefusal}
use Rattle.dna_node.specs.TagRules.{Rules, judged_by}
use Rattle.dna_station.specs.Book.{ArrivalValue, Sound, HeaderBad, DataBad, body_of}
use Rattle.dna_station.specs.WireStation.{WireStation, new_wire_station, wire_after_label}
use Rattle.dna_station.specs.WireBook.{gives_new, label_again}
use Rattle.dna_station.specs.Line.{UnitOf}
use Rattle.dna_station.specs.Machine.{Machine, NodeOf, pair_of}
use Rattle.dna_station.specs.WireNode.{wire_machine}
use Rattle.dna_links.specs.Links.{Carried}
use Rattle.dna_links.specs.User.{LinkEventValue}
use Rattle.dna_links.specs.Sending.{Sent}
use Rattle.dna_links.specs.WireSegments.{WireSegments}
use Rattle.dna_links.specs.WireLinks.{WireLinks, new_wire_links, wire_links_user, wire_links_sent, wire_links_arrived}
use Rattle.dna_node.specs.Content.{content, link_event}

pub record WireLayers : Type 0 where
  pub station : WireStation LinkTag
  pub links : WireLinks

-- What is known of a unit: its station's tag; and of a data message the tag of its packet
pub record LayersTag : Type 0 where
  pub station : Tag
  pub link : Option LinkTag

-- the tag of a packet with no message of the links
abbrev pub of_no_link : LinkTag
of_no_link = record { link = None; partner = None }

abbrev pub with_wire_station : WireLayers → Result (WireStation LinkTag) StepRefusal → Result WireLayers StepRefusal
with_wire_station s (Ok station) = Ok (record s { station = station })
with_wire_station s (Err refusal) = Err refusal

abbrev pub with_wire_links : WireLayers → Result WireLinks LinkRefusal → Result WireLayers StepRefusal
with_wire_links s (Ok links) = Ok (record s { links = links })
with_wire_links s (Err refusal) = Err (OfLinks refusal)

-- ---- a message is sent

-- a packet that was first sent gets its label
abbrev pub first_tagged : WireStation LinkTag × Tag → WireLinks → LinkTag → WireLayers × LayersTag
first_tagged after links tag = (record { station = wire_after_label after.0 tag; links = links }, record { station = after.1; link = Some tag })

abbrev pub with_tag : WireStation LinkTag × Tag → Result (Sent WireSegments (Unit {0})) LinkRefusal → Result (WireLayers × LayersTag) StepRefusal
with_tag after (Ok made) = Ok (first_tagged after made.links made.truth.tag)
with_tag after (Err refusal) = Err (OfLinks refusal)

abbrev pub with_wire_composed : WireLayers → Result (Sent WireSegments (Unit {0})) LinkRefusal → Result WireLayers StepRefusal
with_wire_composed s (Ok made) = Ok (record s { links = made.links })
with_wire_composed s (Err refusal) = Err (OfLinks refusal)

abbrev pub wire_sends_again : WireLayers → MessageValue → WireStation LinkTag × Tag → WireLayers × LayersTag
wire_sends_again s m after = (record s { station = after.0 }, record { station = after.1; link = label_again s.station m })

-- ---- an arrival

abbrev pub to_wire_station : ArrivalValue LayersTag → ArrivalValue Tag
to_wire_station (Sound m known) = Sound m known.station
to_wire_station HeaderBad = HeaderBad
to_wire_station DataBad = DataBad

abbrev pub tag_or_none : Option LinkTag → LinkTag
tag_or_none None = of_no_link
tag_or_none (Some tag) = tag

module _ (rules : Rules) where
  -- ---- a message is sent

  abbrev pub wire_sends_first : WireLayers → WireStation LinkTag × Tag → Result (Option Carried) StepRefusal →
      Result (WireLayers × LayersTag) StepRefusal
  wire_sends_first s after (Ok (Some packet)) = with_tag after (wire_links_sent rules.queues s.links packet)
  wire_sends_first s after (Ok None) = Ok (first_tagged after s.links of_no_link)
  wire_sends_first s after (Err refusal) = Err refusal

  abbrev pub wire_sends_on : WireLayers → MessageValue → Result (WireStation LinkTag × Tag) StepRefusal → Result (WireLayers × LayersTag) StepRefusal
  wire_sends_on s m (Ok after) = if gives_new s.station m then wire_sends_first s after (content (body_of m)) else Ok (wire_sends_again s m after)
  wire_sends_on s m (Err refusal) = Err refusal

  -- ---- an arrival

  -- the packet that was kept is read again
  abbrev pub wire_keeps_packet : WireLayers → LinkTag → Result (Option Carried) StepRefusal → Result WireLayers StepRefusal
  wire_keeps_packet s tag (Ok (Some packet)) = with_wire_links s (wire_links_arrived rules.queues rules.partners s.links packet tag)
  wire_keeps_packet s tag (Ok None) = Ok s
  wire_keeps_packet s tag (Err refusal) = Err refusal

  abbrev pub wire_keeps : WireLayers → ArrivalValue LayersTag → Result WireLayers StepRefusal
  wire_keeps s (Sound m known) = wire_keeps_packet s (tag_or_none known.link) (content (body_of m))
  wire_keeps s HeaderBad = Ok s
  wire_keeps s DataBad = Ok s

  abbrev pub wire_meets_on : WireLayers → ArrivalValue LayersTag → Fate → Result (WireStation LinkTag) StepRefusal → Result WireLayers StepRefusal
  wire_meets_on s arrival fate (Ok station) =
      if is_met fate then wire_keeps (record s { station = station }) arrival else Ok (record s { station = station })
  wire_meets_on s arrival fate (Err refusal) = Err refusal

  -- ---- an event

  abbrev pub wire_user_on : WireLayers → Option LinkEventValue → Result (WireStation LinkTag) StepRefusal → Result WireLayers StepRefusal
  wire_user_on s None made = with_wire_station s made
  wire_user_on s (Some of_links) (Ok station) = with_wire_links (record s { station = station }) (wire_links_user rules.queues s.links of_links)
  wire_user_on s (Some of_links) (Err refusal) = Err refusal

  abbrev pub wire_composes : WireLayers → Result (Option Carried) StepRefusal → Result WireLayers StepRefusal
  wire_composes s (Ok (Some packet)) = with_wire_composed s (wire_links_sent rules.queues s.links packet)
  wire_composes s (Ok None) = Ok s
  wire_composes s (Err refusal) = Err refusal

  abbrev pub wire_layers_user : WireLayers → Event → Result WireLayers StepRefusal
  wire_layers_user s (Composed packet) = wire_composes s (content packet)
  wire_layers_user s event = wire_user_on s (link_event event) ((wire_machine rules.periods).user s.station event)

  -- ---- the node

  abbrev pub wire_layers_machine : Machine WireLayers LayersTag
  wire_layers_machine = record {
    user = λ (s : WireLayers) (event : Event). wire_layers_user s event;
    sends = λ (s : WireLayers) (m : MessageValue). wire_sends_on s m ((wire_machine rules.periods).sends s.station m);
    arrives = λ (s : WireLayers) (arrival : ArrivalValue LayersTag) (fate : Fate). wire_meets_on s arrival fate
        ((wire_machine rules.periods).arrives s.station (to_wire_station arrival) fate);
  }

abbrev pub WireLayersNode : Type 0
WireLayersNode = NodeOf WireLayers

abbrev pub WireLayersUnit : Type 0
WireLayersUnit = UnitOf LayersTag

abbrev pub new_wire_layers_node : Head → WireLayersNode
new_wire_layers_node head =
    record { head = head; station = record { station = new_wire_station; links = new_wire_links head.own head.peer }; front = 0 }

-- both nodes go by the rules that a judge asks
abbrev pub wire_layers_pair_by : Queues → Nodes WireLayersNode Record WireLayersUnit StepRefusal
wire_layers_pair_by queues = pair_of (wire_layers_machine (judged_by queues))

abbrev pub wire_layers_pair : Nodes WireLayersNode Record WireLayersUnit StepRefusal
wire_layers_pair = wire_layers_pair_by Without

abbrev pub wire_layers_start : (head_a head_b : Head) → World WireLayersNode WireLayersUnit
wire_layers_start head_a head_b = start_world (new_wire_layers_node head_a) (new_wire_layers_node head_b)
