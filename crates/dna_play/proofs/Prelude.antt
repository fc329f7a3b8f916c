-- The words that the proofs of this crate share: of the standard library, of the crates below, and of its own definitions.
pub use Rattle.std.proofs.Common.{◌≡◌, ℕ, zero, suc, ◌/◌, ◌%◌, ◌<◌, ◌≤◌, Bool, true, ◌&&◌, List, [], ◌∷◌, ◌++◌, refl, ap₂, arith, lt-ltb, ltb-true}
pub use Rattle.std.proofs.Common.{drop, length, take, Some, subst, ◌≢◌, ◌^◌, false, sym, ap, ◌∙◌, leb-true, inl, inr, nat_lt, nat_le, le-leb, ◌+◌}
pub use Rattle.std.proofs.Common.{cond, Option, None, option_map, Result, Ok, le-ltb, eq-eqb, not, eqb, fold, map, length-append, append_assoc, Err}
pub use Rattle.std.proofs.Common.{◌||◌, ◌⊎◌, eqb-true, position, ltb, length-drop, ◌-◌, max, min, add-zero, ◌*◌, ◌==◌, append-nil, ◌↔◌, length-set}
pub use Rattle.std.proofs.Common.{ltb-false}
pub use Rattle.std.specs.Prelude.{bit_xor, slice_index, slice_set, slice_get, bytes_eq, is_some, ok_or, option_and_then, if◌then◌else◌}
pub use Rattle.std.proofs.lemmas.Bool.{and_parts, false_from_ne_true, not-true, cases_lt, ne_eqb, lt-leb, eqb-false}
pub use Rattle.std.proofs.lemmas.Nat.{xor_of_8}
pub use Rattle.std.specs.List.{AllByRecursion, remove, prefix_len}
pub use Rattle.std.specs.Int.Bits.{xor_self, xor_zero_l, xor_assoc}
pub use Rattle.std.proofs.lemmas.List.{append_cancel_left, set-get_or, set_split, drop-drop, length-take, drop-append-le, take_min, length-map}
pub use Rattle.std.proofs.lemmas.List.{set-set, take-append-drop, map-append, drop_at}
pub use Rattle.std.proofs.lemmas.Slice.Eq.{bytes_eq-Decides}
pub use Rattle.std.proofs.lemmas.Option.{slice_get-map, same_Some, slice_get_within, get_or_from_slice_get}
pub use Rattle.std.specs.Option.{IfSome}
pub use Rattle.std.proofs.Math.Numerals.{suc-eq-add-one}
pub use Rattle.std.proofs.Math.Bool.{and-true, or-true}
pub use Rattle.std.specs.Cmp.Derive.{both_true}
pub use Rattle.std.proofs.Math.Nat.{sub-zero}
pub use Rattle.std.proofs.Math.Seq.{drop-nil, take-append_seam}
pub use Rattle.std.proofs.lemmas.Grind.{flat_map-append}
pub use Rattle.std.proofs.lemmas.Bool.Decides.{Decides-and}
pub use Rattle.std.specs.Result.{result_map_both}
pub use Rattle.two_nodes.specs.Nodes.{Made, stepped, advance, Half, Run, World, Done, OfA, OfB, exchanged_world, Outcome}
pub use Rattle.two_nodes.specs.Cutting.{cut_half}
pub use Rattle.two_nodes.proofs.Reached.{slice_get_none}
pub use Rattle.two_nodes.proofs.NumberedSteps.{slice_get-drop}
pub use Rattle.two_nodes.proofs.Lasting.{lasts}
pub use Rattle.two_nodes.specs.Beginning.{BeginsWith}
pub use Rattle.two_nodes.proofs.Listed.{next_at}
pub use Rattle.two_nodes.proofs.Order.{one_more_of_a, exchange}
pub use Rattle.wire_base.proofs.BlockCheckTests.{AreBytes-append, AreBytes-drop, AreBytes-take}
pub use Rattle.wire_base.specs.BlockCheck.{check_of, check_bytes}
pub use Rattle.wire_base.proofs.BlockCheck.{check_of_lt}
pub use Rattle.wire_base.specs.declared.side.Side.{Side}
pub use Rattle.wire_base.specs.declared.side.Side.TheVariants.{A, B}
pub use Rattle.ddcmp_msg.proofs.Units.{IsBytes-head, IsBytes-rest}
pub use Rattle.ddcmp_msg.specs.Message.{MessageValue, Data, Nak, Rep, Strt, Ack, Stack, IsInRange, bit, flags_byte, reason_number}
pub use Rattle.ddcmp_msg.specs.Spelling.{IsUnit, SOH, ENQ, ADDRESS, control, header, with_check, rest_of}
unfoldable pub use Rattle.ddcmp_msg.specs.Spelling.{spelling}
pub use Rattle.ddcmp_msg.specs.Reading.{ReadingValue, HeaderBad, DataBad, reading}
pub use Rattle.ddcmp_msg.proofs.Damage.{damage_shows}
pub use Rattle.ddcmp_msg.proofs.Rule.{reading_follows}
pub use Rattle.ddcmp_msg.specs.ReadingRule.{IsReading}
pub use Rattle.ddcmp_msg.specs.declared.nak_reason.NakReason.{NakReason}
pub use Rattle.ddcmp_msg.specs.declared.nak_reason.NakReason.TheVariants.{HeaderCheck, DataCheck, RepResponse, NoBuffer}
pub use Rattle.ddcmp_msg.proofs.ReadBack.{reading-spelling}
pub use Rattle.ddcmp_msg.specs.declared.flags.Flags.{Flags}
pub use Rattle.dna_packet.specs.Fields.{word}
pub use Rattle.dna_packet.specs.Nsp.{NspValue, DataSegment, LinkService, DataAck, OtherDataAck, ConnectInitiate, ConnectConfirm, DisconnectInitiate}
pub use Rattle.dna_packet.specs.Nsp.{DisconnectConfirm, IsNsp, nsp_bytes, connect_fields, segment_flag, segnum, ConnectAck, NoOperation}
pub use Rattle.dna_packet.specs.Nsp.{SegmentValue}
pub use Rattle.dna_packet.specs.AckWord.{ack_word}
pub use Rattle.dna_packet.proofs.NspAgain.{nsp_again}
pub use Rattle.dna_packet.specs.declared.ack_word.AckWord.{AckWord}
pub use Rattle.capture_record.specs.declared.fate.Fate.{Fate}
pub use Rattle.capture_record.specs.declared.fate.Fate.TheVariants.{NotKept, Dropped, Kept}
pub use Rattle.capture_record.specs.Fates.{is_kept, is_met}
pub use Rattle.capture_record.specs.declared.record.Record.TheVariants.{Received, Sent, User, Noise}
pub use Rattle.capture_record.specs.declared.limit.TheConstants.{MAX_LINK, MAX_UNIT, MAX_MESSAGE, MAX_HINT}
pub use Rattle.capture_record.specs.declared.event.Event.{Event}
pub use Rattle.capture_record.specs.declared.record.Record.{Record}
pub use Rattle.capture_record.specs.Range.{IsLink, IsRecord, EventNumbersFit, NumbersFit, record_bytes, most_bytes}
pub use Rattle.capture_record.specs.declared.event.Event.TheVariants.{Up, Composed, Interrupt, Interrupted}
pub use Rattle.capture.specs.Range.{IsNode}
pub use Rattle.capture.specs.declared.limit.TheConstants.{MAX_RECORDS}
pub use Rattle.capture.proofs.SoFarLaws.{All-behind, All-push}
pub use Rattle.dna_station.specs.Book.{Sound, ArrivalValue, has_packet, num_of, body_of, resp_of, failed}
pub use Rattle.dna_station.specs.declared.state.State.{State}
pub use Rattle.dna_station.specs.declared.state.State.TheVariants.{Halted, Istrt, Astrt}
pub use Rattle.dna_station.specs.NakCauses.{Causes, with_cause, has_cause, without_cause}
pub use Rattle.dna_station.specs.WireStation.{StationVariables, HeldPacket, WireStation, wire_after_event}
pub use Rattle.dna_station.specs.declared.link_refusal.LinkRefusal.{LinkRefusal}
pub use Rattle.dna_station.specs.declared.refusal.StepRefusal.{StepRefusal}
pub use Rattle.dna_station.specs.Table.{row, Effect, Respond, TakePacket, AnswerRep, counts_damage, WINDOW, checks, change_of, user_refusal, Change}
pub use Rattle.dna_station.specs.Table.{Nothing}
pub use Rattle.dna_station.specs.StationBook.{arrival_refusal, after_arrival, sending_refusal, gives_number, with_packet, is_new, after_sending}
pub use Rattle.dna_station.specs.Bounds.{IsWithin}
pub use Rattle.dna_station.specs.WireNode.{unlabelled}
pub use Rattle.dna_station.specs.WireBook.{wire_is_next, wire_arrival_refusal, acknowledges, wire_acknowledged_by, wire_responded, wire_does}
pub use Rattle.dna_station.specs.WireBook.{wire_book, wire_after_sending, wire_after_arrival, wire_is_new, wire_passes, wire_sending_refusal}
pub use Rattle.dna_station.specs.WireBook.{wire_sends, variables_after}
pub use Rattle.dna_station.specs.Line.{coming_by}
pub use Rattle.dna_station.specs.Machine.{comes, does}
pub use Rattle.dna_station.specs.PeriodRule.{PeriodRule}
pub use Rattle.dna_station.specs.Cut.{cut, AreLabelled}
pub use Rattle.dna_station.proofs.Cut.Arriving.{arrival_refusal_same, arrival_same, header_same, data_bad_same}
pub use Rattle.dna_station.proofs.Bounds.Numbers.{is_data}
pub use Rattle.dna_station.specs.declared.head.Head.{Head}
pub use Rattle.dna_station.specs.Station.{Station, after_event, wire}
pub use Rattle.dna_station.specs.declared.link_refusal.LinkRefusal.TheVariants.{WrongNode, CrossedLink, NoLink, LinkState}
pub use Rattle.dna_station.specs.declared.state.StationEvent.{StationEvent}
pub use Rattle.dna_station.specs.declared.tag.Tag.{Tag}
pub use Rattle.dna_station.proofs.Steps.Effects.{kept_by_all}
pub use Rattle.dna_station.specs.Truth.{Truth}
pub use Rattle.dna_station.proofs.Cut.Sending.{sending_same, all_length, sending_refusal_same, first_same}
pub use Rattle.dna_station.proofs.Cut.Node.{arrival_packets, unlabelled_bodies, sending_unlabelled}
pub use Rattle.dna_station.proofs.Bounds.Runs.{sound_bounded}
pub use Rattle.dna_station.specs.declared.refusal.StationRefusal.{StationRefusal}
pub use Rattle.dna_links.specs.declared.queue.Queues.TheVariants.{Without}
pub use Rattle.dna_links.specs.declared.port.LinkTest.{LinkTest}
pub use Rattle.dna_links.specs.declared.port.LinkTest.TheVariants.{LiveTo, TheLink, CallingAt, ActedOn, OpenedAt, BegunBy, LiveAt, CalledBy}
pub use Rattle.dna_links.specs.declared.port.LinkTest.TheVariants.{HasAddress}
pub use Rattle.dna_links.specs.Links.{LinkOf, LinkTruth, with_link, Carried, check, begun, changed, in_phase, with_segments, number_of, at_number}
pub use Rattle.dna_links.specs.Arriving.{of_anyone, message_arrived, of_partner, is_for, is_of_pair, PartnerRule}
pub use Rattle.dna_links.specs.TrueSegments.{TrueSegments, Numbers, true_segments, delivers, takes_acks, sends_segment, highest_given}
pub use Rattle.dna_links.specs.TrueSegments.{acknowledged_through, Named, highest_received, named, sending, sends_acks, is_repeat, takes_segment}
pub use Rattle.dna_links.specs.TrueLinks.{Links, links_arrived, links_sent, links_user}
pub use Rattle.dna_links.specs.Runs.{SentMessage, LinkWorld, LinkSide}
pub use Rattle.dna_links.proofs.Tables.Outcomes.{looked, checked, IsFound, position_none, position_passes}
pub use Rattle.dna_links.specs.declared.tag.LinkTag.{LinkTag}
pub use Rattle.dna_links.specs.Sending.{message_sent}
pub use Rattle.dna_links.proofs.Runs.Sides.{all_pushed, at_set, all_set, IsSoundSide, set_same}
pub use Rattle.dna_links.specs.declared.port.Phase.{Phase}
pub use Rattle.dna_links.specs.declared.port.Phase.TheVariants.{Running, Calling, Confirming, Disconnecting, Called, Ended}
pub use Rattle.dna_links.specs.CutSegments.{IsOrdered, IsAnswered}
pub use Rattle.dna_links.specs.Segmentation.{Piece, SEGSIZE, Whole, with_piece, next_message, in_whole_messages, has_more, next_piece, piece_of}
pub use Rattle.dna_links.specs.Segmentation.{Unsent, left_of, piece_with, next_piece_of, without_piece, alike, same_piece, is_piece_of}
pub use Rattle.dna_links.specs.Segmentation.{is_next_piece, hold, one_more}
pub use Rattle.dna_links.proofs.Cut.Ended.{Splits, splits}
pub use Rattle.dna_links.specs.Queues.{ended, booted, booted_link}
pub use Rattle.dna_links.specs.LookUps.{is_running, is_calling, is_at, is_connected, has_both, is_live, passes, is_confirming, is_disconnecting}
pub use Rattle.dna_links.specs.LookUps.{is_called, takes_messages}
pub use Rattle.dna_links.specs.inner.Forms.{confirmed, ends_link, ends_by, running, acted_on, unchanged, carries, in_run, segment_of, answered}
pub use Rattle.dna_links.specs.inner.Forms.{opened, answers, of_no_link}
pub use Rattle.dna_links.specs.WireSegments.{LinkVariables, WireSegments, acknowledged_by_all, acknowledged_by, acknowledged_to, held}
pub use Rattle.dna_links.specs.WireSegments.{segment_taken, with_pieces}
pub use Rattle.dna_links.specs.CutLinks.{ArrivesNear}
pub use Rattle.dna_links.proofs.Cut.SegmentsArriving.{takes_acks_same, takes_segment_same}
pub use Rattle.dna_links.proofs.Tables.Forms.{ends_ok}
pub use Rattle.dna_links.specs.declared.port.Port.{Port}
pub use Rattle.dna_links.proofs.Runs.Reads.{at_is, given_again, HoldsAt}
pub use Rattle.dna_links.specs.SegmentBook.{Sending, REACH, distance}
pub use Rattle.dna_links.specs.User.{LinkEventValue, Open, In}
pub use Rattle.dna_links.proofs.Tables.Numbers.{distance_ahead}
pub use Rattle.dna_links.specs.Bounds.{AreLinksBounded}
pub use Rattle.dna_links.proofs.Runs.Loose.{without_loose}
pub use Rattle.dna_links.proofs.Runs.Bounds.{BothOwned, sound, owned, bounded}
pub use Rattle.dna_links.proofs.Runs.Steps.{BothLinksSound}
pub use Rattle.dna_links.specs.Captures.{given_address, handed_in, behind, IsRead}
pub use Rattle.dna_links.specs.Delivery.{IsCut, HeldFrom}
pub use Rattle.dna_links.proofs.Runs.Pieces.{IsPassed, delivered_is, passed_delivered, passed_begins}
pub use Rattle.dna_links.proofs.Runs.Owners.{AreOwned, there_is}
pub use Rattle.dna_node.specs.TagRules.{by_bytes, judged, Rules}
pub use Rattle.dna_node.specs.Layers.{Layers, LayersNode, LayersUnit, keeps, layers_machine, unit_of_station, LayersTruth, first_sent, sends_again}
pub use Rattle.dna_node.specs.Layers.{stations, new_layers_node, layers_user, with_links}
pub use Rattle.dna_node.proofs.Once.Checked.{row_is_data, meets_it, IsReady, is_checked_run, ready_a}
pub use Rattle.dna_node.proofs.Once.Messages.{IsAddressed, source, target}
pub use Rattle.dna_node.specs.Content.{content, message_in, content_of, link_event}
pub use Rattle.dna_node.proofs.OnTop.{sent_by, sent_with, OnTop, Counted, Again, First}
pub use Rattle.dna_node.proofs.Once.Addresses.{LinkList, AreAddressed, OwnsIn, freed_same}
pub use Rattle.dna_node.specs.LayersPair.{layers_pair, layers_start, side_of, link_events, link_event_in, bytes_pair}
pub use Rattle.dna_node.proofs.Once.Orderly.{IsOrderly, higher, highest, highest-join, AddressesRise, starts, starts-join}
pub use Rattle.dna_node.proofs.LayersRead.{LayersRead, packet_in, read_kept, start_read}
pub use Rattle.dna_node.proofs.ReadInRange.{content_in_range}
pub use Rattle.dna_node.proofs.LayersBounded.{IsLayersBounded}
pub use Rattle.dna_node.proofs.LayersBounds.{a_bounded}
pub use Rattle.dna_node.proofs.Once.AddressRuns.{BothAddressed, reached_addressed, anyone_same}
pub use Rattle.dna_node.proofs.Once.Units.{unit_reads, unit_content}
pub use Rattle.dna_node.proofs.Follows.{follows}
pub use Rattle.dna_play.specs.HasLine.{are_bytes, has_line, is_link, event_numbers_fit, numbers_fit}
pub use Rattle.dna_play.specs.Receipt.{damaged, is_damage, complete, carried}
pub use Rattle.dna_play.specs.StepRule.{IsNoise, IsHurt, IsOneOf, gives_address, StepsByRule, StopsByRule, and_then, HasLink, IsCalled, IsNext}
pub use Rattle.dna_play.specs.StepRule.{HasNext, Asks, IsFull, IsHalted}
pub use Rattle.dna_play.specs.Owed.{Owed, Debt, OwesStrt, OwesStack, OwesAck, OwesRep, OwesNak, with_nak, with_debt, same_state, all_acknowledged}
pub use Rattle.dna_play.specs.Owed.{timer_debt, still_owed, can_take, data_debt, rep_debt, damage_debt, message_debt, arrival_debt}
pub use Rattle.dna_play.specs.Played.{makes, Played, play, makes_all, not_begun, made_by, made_half, head_a, head_b, by_node, ends_of}
unfoldable pub use Rattle.dna_play.specs.Played.{end_step, plays_step}
pub use Rattle.dna_play.specs.NextSent.{LinkEnd, Choice, SendNew, LinkChoice, after_choice, SendNak, SendStrt, SendStack, SendRep, SendAgain}
pub use Rattle.dna_play.specs.NextSent.{SendAck, when, or_else, lowest_nak, new_packet, data_choice, choice_in, choice, Confirms, OfLink, duty_of}
pub use Rattle.dna_play.specs.NextSent.{duty_or_next, first_duty, link_choice, has_new, has_repeat, without_duty, has_segment}
pub use Rattle.dna_play.specs.Compose.{data_with, message_of, link_message, packet_with, no_flags, packet_again, new_data, start_flags, SERVICES}
pub use Rattle.dna_play.specs.Compose.{INFO, USER_DATA, address, piece_to_send, segment_with, ack_of, duty_message, message_at}
pub use Rattle.dna_play.specs.StoredEnd.{StoredLinks, StoredEnd, no_stored_links, StoredStation}
pub use Rattle.dna_play.specs.StoredLinks.{after_sent, called, gave, gave_by, at_place, with_end, acts, called_again, confirm_came, confirmed_again}
pub use Rattle.dna_play.specs.StoredLinks.{confirming, message_came, no_more, on_end, place_of, took_acks, sent_at, Delivering, delivering_none}
pub use Rattle.dna_play.specs.StoredLinks.{duty_sent, took_segment, without_whole, delivering_at}
pub use Rattle.dna_play.specs.LinkOwed.{nothing, unless_left, LinkOwed, InitiateDuty, ConfirmDuty, DisconnectDuty, retried, Duty, ConnectAckDuty}
pub use Rattle.dna_play.specs.LinkOwed.{DataAckDuty, SegmentDuty, EndConfirm, with_duty, same_phase, lowered}
pub use Rattle.dna_play.specs.StoredPlay.{arrived, ups, StoredStepped, unless_refused, if_so, timed, retrying, sends_message, sends_choice}
pub use Rattle.dna_play.specs.StoredPlay.{all_short, up_address, kept_or_not, receives, hears_as, with_next, times_out, loses}
unfoldable pub use Rattle.dna_play.specs.StoredPlay.{stored_plays}
pub use Rattle.dna_play.specs.Script.{Close, Abort, Boot, ScriptStep, Script, StepValue, Accept, Reject, Start, Halt, Retry, Deliver, Refuse, Drop}
pub use Rattle.dna_play.specs.Script.{Damage, Send, Timer, Lose}
pub use Rattle.dna_play.specs.Stop.{Stop, Stopped, if_made, plays_all, BadStep, Full}
pub use Rattle.dna_play.specs.PlayRun.{StartsOnce, starts_now, starts_of, ArePlayed, of_end, of_link, live_links, IsOfNode, AreOfNodes}
pub use Rattle.dna_play.specs.ScriptText.{IsScript, IsStep, MAX_STEPS, step_bytes}
pub use Rattle.dna_play.specs.StoredPlayed.{StoredPlayed, own_side, played_after, is_of_line, stored_plays_on, stored_play, left_by}
unfoldable pub use Rattle.dna_play.specs.StoredPlayed.{stored_plays_step}
pub use Rattle.dna_play.specs.StoredStation.{can_keep}
