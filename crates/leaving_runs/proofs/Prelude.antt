-- The words that the proofs of this crate share: of the standard library, of the crates below, and of its own definitions.
pub use Rattle.std.proofs.Common.{◌≡◌, ℕ, suc, ◌<◌, ◌^◌, Bool, true, false, ◌==◌, cond, Option, Some, None, Result, Ok, Err, List, [], ◌∷◌, refl}
pub use Rattle.std.proofs.Common.{subst, arith, ◌⊎◌, inl, inr, sym, ap, ap₂, ◌∙◌, not, ◌&&◌, eqb-true, eqb, ◌+◌, nat_lt, map, zero, ◌-◌, ltb, leb}
pub use Rattle.std.proofs.Common.{◌++◌, fold, length, drop, option_map, ◌≤◌, ◌%◌, ltb-false, nat_le, length-append}
pub use Rattle.std.specs.List.{AllByRecursion, Contains}
pub use Rattle.std.specs.Prelude.{IfSome, slice_get, slice_set, bytes_eq}
pub use Rattle.std.proofs.lemmas.Bool.{eqb-false, eq-eqb, ne_eqb, lt-leb, and_parts}
pub use Rattle.std.proofs.lemmas.List.{length-map, map-append, map-set, drop-map}
pub use Rattle.std.proofs.lemmas.Option.{slice_get-map, same_Some}
pub use Rattle.std.proofs.lemmas.Slice.Eq.{bytes_eq-Decides}
pub use Rattle.std.proofs.lemmas.List.Elements.{Contains-append_left, Contains-append_right}
pub use Rattle.two_nodes.specs.Nodes.{answered, Half, Outcome, stepped, advance, concluded, read, World, Run, Done}
pub use Rattle.two_nodes.specs.Nodes.Outcome.{Refused, Made}
pub use Rattle.two_nodes.proofs.Order.{one_half, one_more_of_a, one_more_of_b}
pub use Rattle.two_nodes.specs.Kept.{IsKept}
pub use Rattle.two_nodes.proofs.Lasting.{lasts}
pub use Rattle.two_nodes.proofs.NumberedSteps.{at_pushed}
pub use Rattle.wire_base.specs.declared.side.Side.{Side}
pub use Rattle.wire_base.specs.Side.{other_side}
pub use Rattle.wire_base.specs.declared.side.Side.TheVariants.{A, B}
pub use Rattle.wire_base.specs.BlockCheck.{check_bytes}
pub use Rattle.ddcmp_msg.specs.Message.{IsBytes, Data, MessageValue, Ack, Nak, Rep, Strt, Stack, IsInRange}
pub use Rattle.ddcmp_msg.specs.Reading.{ReadingValue, reading, Malformed}
pub use Rattle.ddcmp_msg.specs.declared.nak_reason.NakReason.{NakReason}
pub use Rattle.ddcmp_msg.specs.declared.nak_reason.NakReason.TheVariants.{RepResponse, NoBuffer, HeaderCheck, DataCheck}
pub use Rattle.ddcmp_msg.specs.Spelling.{numbered, with_check}
unfoldable pub use Rattle.ddcmp_msg.specs.Spelling.{spelling}
pub use Rattle.ddcmp_msg.proofs.Agreement.{by_rule}
pub use Rattle.ddcmp_msg.proofs.ReadBack.{reading-spelling}
pub use Rattle.ddcmp_msg.proofs.Units.{IsBytes-head, IsBytes-rest, spelled_once}
pub use Rattle.link_groups.specs.Groups.{Binding, AreTogether}
pub use Rattle.link_groups.specs.LeftOut.{AreWhole}
pub use Rattle.link_groups.specs.declared.own_address.OwnAddress.{OwnAddress}
pub use Rattle.link_groups.specs.Groups.AreTogether.{Bound, Back}
pub use Rattle.link_groups.specs.Place.{place_of}
pub use Rattle.dna_packet.specs.declared.fault.NspFault.{NspFault}
pub use Rattle.dna_packet.specs.declared.fault.PacketFault.{PacketFault}
pub use Rattle.dna_packet.specs.Packet.{PacketValue, Control, packet_bytes, IsPacket}
pub use Rattle.dna_packet.specs.ReadingPacket.{packet_at}
pub use Rattle.dna_packet.specs.Nsp.{FieldsFit, NspValue, ConnectAck, ConnectInitiate, ConnectConfirm, DataSegment, LinkService, DataAck}
pub use Rattle.dna_packet.specs.Nsp.{OtherDataAck, NoOperation, DisconnectInitiate, DisconnectConfirm, IsNsp, nsp_bytes}
pub use Rattle.dna_packet.specs.ReadingNsp.{nsp_at}
pub use Rattle.dna_packet.proofs.NspTakes.{nsp_takes}
pub use Rattle.dna_packet.proofs.PacketLemmas.{packet_takes, packet_again}
pub use Rattle.dna_packet.specs.declared.ack_word.AckWord.{AckWord}
pub use Rattle.dna_packet.proofs.NspAgain.{nsp_again}
pub use Rattle.capture_record.specs.Range.{IsRecord}
pub use Rattle.capture_record.specs.declared.record.Record.{Record}
pub use Rattle.capture_record.specs.declared.record.Record.TheVariants.{Sent, Received, Noise, User}
pub use Rattle.capture_record.specs.declared.fate.Fate.{Fate}
pub use Rattle.capture_record.specs.Fates.{is_kept, is_met}
pub use Rattle.capture_record.specs.declared.event.Event.{Event}
pub use Rattle.capture_record.specs.declared.fate.Fate.TheVariants.{NotKept, Kept, Dropped}
pub use Rattle.leaving_out.specs.declared.leaving.Leaving.{Leaving}
pub use Rattle.leaving_out.specs.About.{binding_of, bindings_of, confirmed, bound, bound_if_named, if_bound, about_at_receiver, about_at_sender}
pub use Rattle.leaving_out.specs.Messages.{if_read, message_in_unit, message_of, message_within, packet_of, message_in_packet}
pub use Rattle.leaving_out.specs.declared.packet_left.Route.{Route}
pub use Rattle.leaving_out.specs.Addresses.{at_receiver, head_of, is_left, own, is_marked, at_sender}
pub use Rattle.leaving_out.specs.Packets.{link_left, names_both, packet_left, packet_with, route_of, unmet, packet_left_by, unit_left_by}
pub use Rattle.leaving_out.specs.Records.{records_left, dropped_if_left}
pub use Rattle.leaving_out.proofs.Kept.{packet_kept}
pub use Rattle.dna_station.specs.declared.refusal.StationRefusal.{StationRefusal}
pub use Rattle.dna_station.specs.declared.refusal.StepRefusal.{StepRefusal}
pub use Rattle.dna_station.specs.declared.link_refusal.LinkRefusal.{LinkRefusal}
pub use Rattle.dna_station.specs.Table.{SendPacket, change_of, Effect, WINDOW, Check, RespIsLast, CauseIsOpen, SomeOutstanding, NumIsHighest}
pub use Rattle.dna_station.specs.Table.{NumIsNext, RoomIfNew, AsFirstGiven, checks, GoTo, TakePartner, Respond, SetBack, TakePacket, AnswerRep, Row}
pub use Rattle.dna_station.specs.Table.{row, counts_damage, user_refusal, refusal_of, state_after, OfPair, ignored}
pub use Rattle.dna_station.specs.PeriodRule.{of_any_period, PeriodRule}
pub use Rattle.dna_station.specs.Book.{Sound, body_of, num_of, resp_of, failed, has_packet, keep_refusal, HeaderBad, DataBad, ArrivalValue}
pub use Rattle.dna_station.specs.Book.{first_failed}
pub use Rattle.dna_station.specs.Machine.{unless_refused, noise_comes, does, step, noise_step, met, comes, receives, user_step, sent_step}
pub use Rattle.dna_station.specs.WireStation.{WireStation, wire_after_label, HeldPacket, StationVariables, wire_after_event, with_new, labelled}
pub use Rattle.dna_station.specs.WireStation.{with_label}
pub use Rattle.dna_station.specs.WireBook.{wire_arrival_refusal, wire_after_arrival, wire_tag, wire_sending_refusal, wire_after_sending, gives_new}
pub use Rattle.dna_station.specs.WireBook.{wire_is_new, is_held_packet, wire_passes, acknowledges, wire_acknowledged_by, wire_is_next, with_next}
pub use Rattle.dna_station.specs.WireBook.{wire_does, wire_book}
pub use Rattle.dna_station.specs.declared.refusal.StepRefusal.TheVariants.{BadPacket, BadNsp, HintOrder}
pub use Rattle.dna_station.specs.declared.head.Head.{Head}
pub use Rattle.dna_station.specs.declared.tag.Tag.{Tag}
pub use Rattle.dna_station.specs.NakCauses.{Causes, with_cause}
pub use Rattle.dna_station.specs.declared.state.State.{State}
pub use Rattle.dna_station.specs.declared.state.State.TheVariants.{Istrt, Astrt, Running, Halted}
pub use Rattle.dna_station.specs.declared.state.StationEvent.{StationEvent}
pub use Rattle.dna_station.specs.declared.state.StationEvent.TheVariants.{Start, Halt}
pub use Rattle.dna_station.specs.declared.refusal.StationRefusal.TheVariants.{WrongState, WrongNumber, WrongResponse, CrossedPeriod}
pub use Rattle.dna_station.specs.Station.{wire, Station, after_event, PastPeriod, given, new_station, past, packets_of}
pub use Rattle.dna_station.specs.Line.{damage, coming, coming_by}
pub use Rattle.dna_station.specs.StationBook.{after_arrival, arrival_refusal, sending_refusal, after_sending, truth_of, gives_number, station_book}
pub use Rattle.dna_station.specs.StationBook.{is_new, has_room, is_packet, as_first_given, passes, with_packet, acknowledged_by, is_next, with_data}
pub use Rattle.dna_station.specs.StationBook.{asked}
pub use Rattle.dna_station.specs.Truth.{Truth, tag_of, response_of}
pub use Rattle.dna_station.specs.declared.link_refusal.LinkRefusal.TheVariants.{WrongNode}
pub use Rattle.dna_links.specs.declared.queue.Queues.{Queues}
pub use Rattle.dna_links.specs.declared.tag.LinkTag.{LinkTag}
pub use Rattle.dna_links.specs.Links.{Carried, LinkOf, check, with_link}
pub use Rattle.dna_links.specs.Arriving.{of_anyone, of_partner}
pub use Rattle.dna_links.specs.WireLinks.{WireLinks, wire_links_arrived, wire_links_user, wire_links_sent}
pub use Rattle.dna_links.specs.User.{LinkEventValue, Open, Accept, Reject, In, Up, Close, Boot, Abort}
pub use Rattle.dna_links.specs.WireSegments.{WireSegments, wire_segments}
pub use Rattle.dna_links.specs.declared.port.LinkTest.TheVariants.{ActedOn}
pub use Rattle.dna_links.specs.LinkBook.{after, by_row}
pub use Rattle.dna_links.specs.Table.{TakeSegment, TakeAcks, acted_row}
pub use Rattle.dna_links.specs.TrueSegments.{Numbers, TrueSegments}
pub use Rattle.dna_links.specs.TrueLinks.{Links, links_arrived, links_user, links_sent}
pub use Rattle.dna_links.specs.Runs.{SentMessage}
pub use Rattle.dna_links.specs.PacketAddresses.{goes}
pub use Rattle.dna_leaving.specs.LeftOut.{source_of, destination_of, sent_out, kept_out, LeftOut, is_judged_there, event_out, message_out, is_out}
pub use Rattle.dna_leaving.specs.Right.{MessageBinds, EventBinds, AreFit, IsRight}
pub use Rattle.dna_leaving.specs.Worlds.{other_out, message_left, other_judged}
pub use Rattle.dna_leaving.specs.Records.{OfUser, LinkRules, LinkRecord, Sends, Keeps, OfNoLink, next_links, links_then, true_rules}
pub use Rattle.dna_leaving.specs.Left.{Judged, links_left, renumbered, judged_then, all_judged}
pub use Rattle.dna_leaving.proofs.Answered.{IfMade}
pub use Rattle.dna_leaving.proofs.After.{SameNodes}
pub use Rattle.dna_leaving.proofs.Lists.{made_alike, refused_alike, stays_fit, marked_before, marked_then}
pub use Rattle.dna_leaving.proofs.LookUps.{NamesOwn, NamesFar, Tests, its_port, port_is, look_holds, found_is, seen_left}
pub use Rattle.dna_leaving.proofs.Steps.{next_nodes}
pub use Rattle.dna_leaving.proofs.Units.{MessageTold, sent_told, told_stays}
pub use Rattle.dna_leaving.proofs.Sides.{SideRight, RecordRight, unit_right, unseen, grows, same_nodes, packet_right, event_right, left_is}
pub use Rattle.dna_leaving.proofs.WorldSteps.{keeps_left, arrived_left}
pub use Rattle.dna_leaving.proofs.Runs.{refused_next}
pub use Rattle.dna_leaving.specs.Marks.{Marks, and_then}
pub use Rattle.dna_leaving.proofs.StepsLeft.{sends_none, user_step_left}
pub use Rattle.dna_leaving.proofs.SendsLeft.{sends_left, made_of_left, sent_right, composes_left}
pub use Rattle.dna_node.specs.TagRules.{by_bytes_with, judged_by}
pub use Rattle.dna_node.specs.Content.{is_returned, content, content_of, message_in, link_event}
pub use Rattle.dna_node.specs.WireLayers.{WireLayers, WireLayersNode, of_no_link, with_wire_links, wire_keeps_packet, wire_meets_on, LayersTag}
pub use Rattle.dna_node.specs.WireLayers.{with_wire_station, with_wire_composed, wire_composes, new_wire_layers_node, first_tagged, with_tag}
pub use Rattle.dna_node.specs.WireLayers.{wire_sends_again, wire_sends_first, wire_sends_on, wire_layers_user}
pub use Rattle.dna_node.specs.Accusing.{wrong_unit, wrong_message, wrong_carried, wrong_taken, wrong_words, wrong_acks, wrong_response_in}
pub use Rattle.dna_node.specs.Accusing.{wrong_response, wrong_content, or_else}
pub use Rattle.dna_node.specs.Alone.{StepAlone, Makes, sends, meets, unless_wrong, then_unless_wrong, if_met, sound_comes, unknown_period}
pub use Rattle.dna_node.specs.Alone.{unknown_tag, layers_end_by, Refuses, comes_alone, receives_alone, ThisEnd, step_alone, sent_alone, EndingAlone}
pub use Rattle.dna_node.specs.Alone.{Passed, goes_on, ends_from, Accused, PassesBy, judged_alone_by}
pub use Rattle.dna_node.specs.Layers.{Layers, LayersNode, LayersUnit, layers_machine, with_links, keeps, meets_on, with_station, with_composed}
pub use Rattle.dna_node.specs.Layers.{composes, with_message, sends_first, sends_again, sends_on, unit_of_station, LayersTruth, first_sent}
pub use Rattle.dna_node.specs.Layers.{of_place, carried_again}
pub use Rattle.dna_node.specs.LayersPair.{side_of, layers_pair_by, layers_start}
pub use Rattle.dna_node.proofs.LayersBounded.{HasItsMessage}
pub use Rattle.dna_node.proofs.LayersRead.{packet_in, LayersRead, read_kept, start_read}
pub use Rattle.dna_node.proofs.OnTop.{sent_by, sent_with, OnTop, ByStation, ByLinks, ByBoth, Composed, Carries, Again, First, Receipt, Counted}
pub use Rattle.dna_node.proofs.OnTop.{Unheard}
pub use Rattle.dna_node.proofs.Follows.{follows}
pub use Rattle.dna_node.proofs.LayersBounds.{a_bounded, b_bounded}
pub use Rattle.dna_node.specs.Kind.{layers_kind, IsRunOf}
pub use Rattle.leaving_runs.specs.Tied.{IsAlike, leaves_at, KnowsHead, RecordAlike, AreAlike, AreAmong}
pub use Rattle.leaving_runs.specs.OneEnd.{AreAlikeAlone, AreAmongAlone, seen_from_there, RecordAlikeAlone, NamesSender, ComesFromLink}
pub use Rattle.leaving_runs.specs.OneEnd.{IsJudgedAlone}
pub use Rattle.leaving_runs.specs.Stations.{with_body, bytes_left, bytes_left_by, station_left, Packets, past_left}
pub use Rattle.leaving_runs.specs.Nodes.{Leaves, other_leaves, half_left, layers_left, unit_left, world_left, node_left}
pub use Rattle.leaving_runs.specs.Records.{fate_left, met_if, record_left, event_left}
pub use Rattle.leaving_runs.specs.Fitting.{PacketsFit, RecordFits, EventFits, RecordBinds}
pub use Rattle.leaving_runs.specs.Meets.{IsJudged, of_event, of_content, of_carried, of_unit, of_first, of_sent, of_record}
