-- The same of nodes over both layers, and of a verdict.
use Rattle.std.proofs.Common.{◌≡◌, ℕ, Bool, true, false, cond, Option, Some, None, Result, Ok, Err, List, [], refl, sym, ap, ◌∙◌}
use Rattle.std.proofs.Common.{append-nil}
use Rattle.std.specs.Prelude.{◌≢◌, IfErr, IfOk}
use Rattle.wire_base.specs.declared.side.Side.{Side}
use Rattle.wire_base.specs.declared.side.Side.TheVariants.{A, B}
use Rattle.ddcmp_msg.specs.Message.{MessageValue}
use Rattle.capture_record.specs.declared.event.Event.{Event}
use Rattle.capture_record.specs.declared.event.Event.TheVariants as events
use Rattle.capture_record.specs.declared.fate.Fate.{Fate}
use Rattle.capture_record.specs.Fates.{is_met}
use Rattle.capture_record.specs.declared.record.Record.{Record}
use Rattle.capture.specs.SoFar.{Behind, GoesOnBy, TheEnd, ToCome}
use Rattle.dna_station.specs.declared.head.Head.{Head}
use Rattle.dna_station.specs.declared.refusal.StationRefusal.{StationRefusal}
use Rattle.dna_station.specs.declared.refusal.StationRefusal.TheVariants.{CrossedPeriod}
use Rattle.dna_station.specs.declared.refusal.StepRefusal.{StepRefusal}
use Rattle.dna_station.specs.declared.refusal.StepRefusal.TheVariants as steps
use Rattle.dna_station.specs.declared.link_refusal.LinkRefusal.{LinkRefusal}
use Rattle.dna_station.specs.declared.link_refusal.LinkRefusal.TheVariants as links
use Rattle.dna_station.specs.declared.tag.Tag.{Tag}
use Rattle.dna_station.specs.Book.{ArrivalValue, Sound, HeaderBad, DataBad, body_of}
use Rattle.dna_station.specs.WireBook.{gives_new}
use Rattle.dna_station.specs.WireStation.{WireStation}
use Rattle.dna_links.specs.declared.queue.Queues.{Queues}
use Rattle.dna_links.specs.declared.tag.LinkTag.{LinkTag}
use Rattle.dna_links.specs.Links.{Carried}
use Rattle.dna_links.specs.Sending.{Sent as SentByLinks}
use Rattle.dna_links.specs.User.{LinkEventValue}
use Rattle.dna_links.specs.WireLinks.{WireLinks, wire_links_arrived, wire_links_sent, wire_links_user}
use Rattle.dna_links.specs.WireSegments.{WireSegments}
use Rattle.dna_packet.specs.declared.fault.PacketFault.{PacketFault}
use Rattle.dna_packet.specs.declared.fault.NspFault.{NspFault}
use Rattle.dna_packet.specs.Packet.{PacketValue, Data, Control}
use Rattle.dna_packet.specs.Nsp.{NspValue}
use Rattle.dna_packet.specs.ReadingPacket.{packet_at}
use Rattle.dna_packet.specs.ReadingNsp.{nsp_at}
use Rattle.dna_node.specs.Content.{content, content_of, is_returned, link_event, message_in}
use Rattle.dna_node.specs.declared.finding.Cause.{Cause}
use Rattle.dna_node.specs.declared.finding.Cause.TheVariants as causes
use Rattle.dna_node.specs.declared.finding.Finding.TheVariants as findings
use Rattle.dna_node.specs.Kind.{NodeKind}
use Rattle.dna_node.specs.Verdict.{IsVerdict}
use Rattle.dna_node.specs.TagRules.{Rules}
use Rattle.dna_node.specs.WireLayers as layers
use Rattle.dna_node.specs.WireLayers.{WireLayers, LayersTag}
use Rattle.pair_judge.specs.declared.fault.JudgeFault.{JudgeFault}
use Rattle.pair_judge.specs.declared.reason.Reason.TheVariants as reasons
use Rattle.pair_judge.specs.declared.verdict.Verdict.TheVariants as verdicts
use Rattle.pair_judge.specs.declared.verdict.Verdict.TheVariants.{Accepted}
use Rattle.pair_judge.specs.AnyPeriod.{AsksNoPeriod, any_period_by}
use Rattle.pair_judge.specs.Ends.{ShownEnds, verdict_in}
use Rattle.pair_judge.specs.Heads.{head_of}
use Rattle.pair_judge.specs.Judged.{Answer, IsRefusalWhere}
use Rattle.pair_judge.specs.Reason.{reason_of, reason_of_links, reason_of_station, reason_of_step}
use Rattle.pair_judge.specs.Watched.{only}
use Rattle.pair_judge.proofs.Unasked.{IsOther, RefusesOther, line, line_arrives, line_sends, line_user, refused_so}

-- ---- both layers

with_links_so : (s : WireLayers) (o : Result WireLinks LinkRefusal) → IfErr (layers.with_wire_links s o) IsOther
with_links_so s (Ok made) = tt
with_links_so s (Err refusal) = λ e. absurd (cc)

with_station_so : (s : WireLayers) (o : Result (WireStation LinkTag) StepRefusal) → IfErr o IsOther → IfErr (layers.with_wire_station s o) IsOther
with_station_so s (Ok station) h = tt
with_station_so s (Err refusal) h = h

tag_so : (after : WireStation LinkTag × Tag) (o : Result (SentByLinks WireSegments (Unit {0})) LinkRefusal) → IfErr (layers.with_tag after o) IsOther
tag_so after (Ok made) = tt
tag_so after (Err refusal) = λ e. absurd (cc)

composed_so : (s : WireLayers) (o : Result (SentByLinks WireSegments (Unit {0})) LinkRefusal) → IfErr (layers.with_wire_composed s o) IsOther
composed_so s (Ok made) = tt
composed_so s (Err refusal) = λ e. absurd (cc)

message_so : (dst src : ℕ) (r : Result NspValue NspFault) → IfErr (message_in dst src r) IsOther
message_so dst src (Ok m) = tt
message_so dst src (Err fault) = λ e. absurd (cc)

returned_so : (b : Bool) (dst src : ℕ) (nsp : List ℕ) → IfErr (cond b (Ok None) (message_in dst src (nsp_at nsp))) IsOther
returned_so true dst src nsp = tt
returned_so false dst src nsp = message_so dst src (nsp_at nsp)

content_so : (r : Result PacketValue PacketFault) → IfErr (content_of r) IsOther
content_so (Ok (Data rtflg dst src forward nsp)) = returned_so (is_returned rtflg) dst src nsp
content_so (Ok (Control bytes)) = tt
content_so (Err fault) = λ e. absurd (cc)

module _ (rules : Rules) (s : WireLayers) where
  user_by : (o : Option LinkEventValue) (made : Result (WireStation LinkTag) StepRefusal) → IfErr made IsOther →
      IfErr (layers.wire_user_on rules s o made) IsOther
  user_by None made h = with_station_so s made h
  user_by (Some event) (Ok station) h = with_links_so (record s { station = station }) (wire_links_user rules.queues s.links event)
  user_by (Some event) (Err refusal) h = h

  composes_so : (r : Result (Option Carried) StepRefusal) → IfErr r IsOther → IfErr (layers.wire_composes rules s r) IsOther
  composes_so (Ok (Some packet)) h = composed_so s (wire_links_sent rules.queues s.links packet)
  composes_so (Ok None) h = tt
  composes_so (Err refusal) h = h

  first_sent_so : (after : WireStation LinkTag × Tag) (r : Result (Option Carried) StepRefusal) → IfErr r IsOther →
      IfErr (layers.wire_sends_first rules s after r) IsOther
  first_sent_so after (Ok (Some packet)) h = tag_so after (wire_links_sent rules.queues s.links packet)
  first_sent_so after (Ok None) h = tt
  first_sent_so after (Err refusal) h = h

  by_new : (b : Bool) (m : MessageValue) (after : WireStation LinkTag × Tag) →
      IfErr (cond b (layers.wire_sends_first rules s after (content (body_of m))) (Ok (layers.wire_sends_again s m after))) IsOther
  by_new true m after = first_sent_so after (content (body_of m)) (content_so (packet_at (body_of m)))
  by_new false m after = tt

  sends_on_so : (m : MessageValue) (o : Result (WireStation LinkTag × Tag) StepRefusal) → IfErr o IsOther →
      IfErr (layers.wire_sends_on rules s m o) IsOther
  sends_on_so m (Ok after) h = by_new (gives_new s.station m) m after
  sends_on_so m (Err refusal) h = h

  keeps_packet_so : (tag : LinkTag) (r : Result (Option Carried) StepRefusal) → IfErr r IsOther →
      IfErr (layers.wire_keeps_packet rules s tag r) IsOther
  keeps_packet_so tag (Ok (Some packet)) h = with_links_so s (wire_links_arrived rules.queues rules.partners s.links packet tag)
  keeps_packet_so tag (Ok None) h = tt
  keeps_packet_so tag (Err refusal) h = h

  keeps_so : (arrival : ArrivalValue LayersTag) → IfErr (layers.wire_keeps rules s arrival) IsOther
  keeps_so (Sound m known) = keeps_packet_so (layers.tag_or_none known.link) (content (body_of m)) (content_so (packet_at (body_of m)))
  keeps_so HeaderBad = tt
  keeps_so DataBad = tt

module _ (rules : Rules) where
  met_by : (b : Bool) (s : WireLayers) (arrival : ArrivalValue LayersTag) → IfErr (cond b (layers.wire_keeps rules s arrival) (Ok s)) IsOther
  met_by true s arrival = keeps_so rules s arrival
  met_by false s arrival = tt

  meets_on_so : (s : WireLayers) (arrival : ArrivalValue LayersTag) (fate : Fate) (o : Result (WireStation LinkTag) StepRefusal) → IfErr o IsOther →
      IfErr (layers.wire_meets_on rules s arrival fate o) IsOther
  meets_on_so s arrival fate (Ok station) h = met_by (is_met fate) (record s { station = station }) arrival
  meets_on_so s arrival fate (Err refusal) h = h

layers_user : (queues : Queues) (s : WireLayers) (event : Event) → IfErr ((layers.wire_layers_machine (any_period_by queues)).user s event) IsOther
layers_user queues s (events.Composed packet) = composes_so (any_period_by queues) s (content packet) (content_so (packet_at packet))
layers_user queues s event = user_by (any_period_by queues) s (link_event event) (line.user s.station event) (line_user s.station event)

pub layers_refuse_other : (queues : Queues) → RefusesOther (layers.wire_layers_machine (any_period_by queues))
layers_refuse_other queues = record {
  user = layers_user queues;
  sends = λ s m. sends_on_so (any_period_by queues) s m (line.sends s.station m) (line_sends s.station m);
  arrives = λ s arrival fate. meets_on_so (any_period_by queues) s arrival fate (line.arrives s.station (layers.to_wire_station arrival) fate)
      (line_arrives s.station (layers.to_wire_station arrival) fate);
}

-- ---- a verdict

links_reason : (refusal : LinkRefusal) → reason_of_links refusal ≢ reasons.CrossedPeriod
links_reason links.WrongNode = λ e. absurd (cc)
links_reason refusal = λ e. absurd (cc)

station_reason : (refusal : StationRefusal) → reason_of_station refusal ≡ reasons.CrossedPeriod → refusal ≡ CrossedPeriod
station_reason CrossedPeriod e = refl
station_reason refusal e = absurd (cc)

step_reason : (refusal : StepRefusal) → reason_of_step refusal ≡ reasons.CrossedPeriod → refusal ≡ steps.Station CrossedPeriod
step_reason (steps.Station refusal) e = ap steps.Station (station_reason refusal e)
step_reason (steps.Links refusal) e = absurd (links_reason refusal e)
step_reason refusal e = absurd (cc)

-- what was read goes on as itself
itself : (behind : Behind) (records : List Record) → GoesOnBy behind records records
itself (ToCome bytes) records = ([], sym (append-nil records))
itself TheEnd records = refl

module _ (kind : NodeKind) (refuses : RefusesOther kind.machine) where
  cause_so : (head_a head_b : Head) (of_a of_b : List Record) (side : Side) (place : ℕ) (cause : Cause) →
      IsVerdict kind head_a head_b of_a of_b (findings.Refused side place cause) → reason_of cause ≢ reasons.CrossedPeriod
  cause_so head_a head_b of_a of_b A place (causes.Step refusal) v =
      λ e. refused_so refuses v.1.world.a v.1.world.b v.1.offender refusal v.1.refused (step_reason refusal e)
  cause_so head_a head_b of_a of_b B place (causes.Step refusal) v =
      λ e. refused_so refuses v.1.world.a v.1.world.b v.1.offender refusal v.1.refused (step_reason refusal e)
  cause_so head_a head_b of_a of_b side place causes.NoSuchUnit v = λ e. absurd (cc)
  cause_so head_a head_b of_a of_b side place causes.NoOrder v = λ e. absurd (cc)

  pub unasked : (text_a text_b : Option (List ℕ)) (answer : Answer) → IsRefusalWhere kind text_a text_b answer → IfOk answer AsksNoPeriod
  unasked text_a text_b (Err fault) i = tt
  unasked text_a text_b (Ok (Accepted summary)) i = tt
  unasked text_a text_b (Ok (verdicts.Refused side place reason)) i =
      λ e. cause_so (head_of i.read_a) (head_of i.read_b) i.read_a.records i.read_b.records side place i.cause
      (i.finding i.read_a.records i.read_b.records (itself i.read_a.behind i.read_a.records) (itself i.read_b.behind i.read_b.records)).verdict
      (sym i.is_reason ∙ e)

  -- the same of a verdict with both ends
  pub unasked_ends : {W : Type 0} (text_a text_b : Option (List ℕ)) (ends : W → ShownEnds) (watched : Result W JudgeFault) →
      IsRefusalWhere kind text_a text_b (verdict_in (only watched ends)) → IfOk watched (λ w. AsksNoPeriod (ends w).verdict)
  unasked_ends text_a text_b ends (Err fault) i = tt
  unasked_ends text_a text_b ends (Ok w) i = unasked text_a text_b (Ok (ends w).verdict) i
