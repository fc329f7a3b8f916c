-- The words that the proofs of this crate share: of the standard library, of the crates below, and of its own definitions.
pub use Rattle.std.proofs.Common.{◌≡◌, ℕ, Bool, Option, Some, None, Ok, List, [], ◌∷◌, ◌++◌, refl, sym, subst, map, zero, suc, fold, length, ap}
pub use Rattle.std.proofs.Common.{◌⊎◌, inl, inr, true, false, not, Result, Err, ◌∙◌, append_assoc, append-nil, ◌+◌, ◌<◌, ◌≤◌, ◌&&◌, cond, leb, drop}
pub use Rattle.std.proofs.Common.{arith, ◌||◌, eqb, ap₂, Ordering, Less, Equal, Greater, nat_cmp, OnOk, option_map, take, get_or, ◌-◌, ◌%◌, is_some}
pub use Rattle.std.proofs.Common.{eqb-true, ltb, length-append, ltb-true}
pub use Rattle.std.specs.Prelude.{slice_get, slice_set}
pub use Rattle.std.proofs.lemmas.Bool.{or_left, leb-true, and_parts, leb-false, and_from, or_right, eq-eqb, eqb-false, le-leb}
pub use Rattle.std.specs.List.{AllByRecursion, list_any}
pub use Rattle.std.proofs.lemmas.List.{length-drop, take_more}
pub use Rattle.std.proofs.lemmas.Map.Lookups.{exact_unsigned}
pub use Rattle.std.specs.Ordering.{ordering_then, is_eq}
pub use Rattle.std.specs.BTreeMap.{BTreeMap, get, is_at, Updates}
pub use Rattle.std.proofs.lemmas.Slice.Eq.{bytes_eq-Decides}
pub use Rattle.std.specs.Str.{bytes_eq}
pub use Rattle.std.specs.Map.{lookup}
pub use Rattle.ddcmp_msg.specs.Message.{MessageValue, Data, Ack, Nak, Rep, Strt, Stack}
pub use Rattle.ddcmp_msg.specs.Reading.{ReadingValue, reading, Sound, HeaderBad, DataBad, Malformed}
pub use Rattle.dna_packet.specs.declared.ack_word.AckWord.{AckWord}
pub use Rattle.dna_packet.specs.Nsp.{NspValue, DataSegment, LinkService, DataAck, OtherDataAck, ConnectAck, NoOperation, ConnectInitiate}
pub use Rattle.dna_packet.specs.Nsp.{ConnectConfirm, DisconnectInitiate, DisconnectConfirm, SegmentValue, view, segment_view, IsInRange}
pub use Rattle.dna_packet.specs.AckWord.{IsAckWord}
pub use Rattle.dna_packet.specs.declared.nsp.Nsp.{Nsp}
pub use Rattle.dna_packet.specs.declared.nsp.Segment.{Segment}
pub use Rattle.dna_packet.specs.declared.fault.NspFault.{NspFault}
pub use Rattle.dna_packet.specs.declared.packet.Packet.{Packet}
pub use Rattle.dna_packet.specs.Packet.{IsReturned}
pub use Rattle.capture_record.specs.declared.fate.Fate.{Fate}
pub use Rattle.capture_record.specs.declared.fate.Fate.TheVariants.{NotKept}
pub use Rattle.capture_record.specs.declared.record.Record.{Record}
pub use Rattle.capture_record.specs.declared.record.Record.TheVariants.{User}
pub use Rattle.capture_record.specs.declared.event.Event.{Event}
pub use Rattle.capture_record.specs.Fates.{is_met}
pub use Rattle.dna_station.specs.declared.head.Head.{Head}
pub use Rattle.dna_station.specs.declared.refusal.StepRefusal.{StepRefusal}
pub use Rattle.dna_station.specs.Book.{body_of, ArrivalValue}
pub use Rattle.dna_station.specs.declared.tag.Tag.{Tag}
pub use Rattle.dna_station.specs.declared.link_refusal.LinkRefusal.{LinkRefusal}
pub use Rattle.dna_station.specs.WireStation.{WireStation, HeldPacket}
pub use Rattle.dna_station.specs.WireBook.{gives_new}
pub use Rattle.dna_station.specs.declared.link_refusal.LinkRefusal.TheVariants.{WrongNode, WrongSegment, WrongAck, SegmentTooLong, LinkWindowFull}
pub use Rattle.dna_links.specs.declared.queue.Queues.{Queues}
pub use Rattle.dna_links.specs.SegmentBook.{Sending, REACH, wire, distance, is_of_data, Late, with_gap, wider}
pub use Rattle.dna_links.specs.Links.{LinkOf, LinkTruth, with_segments, Carried}
pub use Rattle.dna_links.specs.Queues.{with_queue, settled, forgotten, booted_link, further, drops, may_send, is_over, goes_to, has_waiting}
pub use Rattle.dna_links.specs.Queues.{keeps_numbers, goes_on, ends_by_message, requeued, lets_go, shows_by, port_of_waiting, call_of}
pub use Rattle.dna_links.specs.Queues.{drops_segments, in_use}
pub use Rattle.dna_links.specs.Table.{Effect, Drop, EndAll, Say, Settle, Keep, HandIn, Ask, SendsSegment, sending_row, Row, user_row, arrival_row}
pub use Rattle.dna_links.specs.Table.{OpenHere, GiveAddress, Connect, GoTo, End, TakeSegment, TakeAcks}
pub use Rattle.dna_links.specs.WireSegments.{WireSegments, wire_segments, delivers, LinkVariables, empty, acknowledged_to, acknowledged_by}
pub use Rattle.dna_links.specs.WireSegments.{acknowledged_by_all, takes_acks, takes_segment, with_segment, held, with_pieces, ends, delivers_whole}
pub use Rattle.dna_links.specs.WireSegments.{delivered_as, LastSent, LateSent, last_of, all_named, with_last, sending, with_new, sends_new}
pub use Rattle.dna_links.specs.WireSegments.{is_given, is_repeat, sends_again, is_new, segment_named, sends_segment, all_named_late, went_on}
pub use Rattle.dna_links.specs.WireSegments.{new_late, sends_late, highest_given, acks_named, sends_acks}
pub use Rattle.dna_links.specs.WireLinks.{WireLinks, wire_links_sent, wire_links_user, wire_links_arrived}
pub use Rattle.dna_links.specs.LinkBook.{blank, does, after, kept, of_none}
pub use Rattle.dna_links.specs.Segmentation.{Piece, piece_of, Whole, next_message, alike, same_piece, Unsent, is_next_of, is_next_piece, left_of}
pub use Rattle.dna_links.specs.Segmentation.{without_piece}
pub use Rattle.dna_links.specs.declared.port.Phase.{Phase}
pub use Rattle.dna_links.specs.declared.port.Phase.TheVariants.{Running, Calling, Called, Confirming, Disconnecting, Ended}
pub use Rattle.dna_links.specs.declared.port.LinkTest.TheVariants.{TheLink, CallingAt, CalledBy, ActedOn, LiveAt}
pub use Rattle.dna_links.specs.declared.queue.Queues.TheVariants.{Without, With}
pub use Rattle.dna_links.specs.declared.queue.Said.TheVariants.{OfRun, Nothing, Disconnect}
pub use Rattle.dna_links.specs.LookUps.{is_in, is_live, has_both, is_connected}
pub use Rattle.dna_links.specs.Sending.{Sent}
pub use Rattle.dna_links.specs.declared.port.Port.{Port}
pub use Rattle.dna_links.specs.declared.tag.LinkTag.{LinkTag}
pub use Rattle.dna_links.specs.User.{LinkEventValue, Open, Accept, Reject, Close, Abort}
pub use Rattle.dna_links.specs.Arriving.{PartnerRule, of_anyone}
pub use Rattle.dna_links.specs.declared.queue.Said.{Said}
pub use Rattle.dna_links.specs.declared.port.LinkTest.{LinkTest}
pub use Rattle.dna_node.specs.Content.{content, link_event, content_of}
pub use Rattle.dna_node.specs.WireLayers.{WireLayers, LayersTag, new_wire_layers_node, with_wire_links, with_tag, with_wire_composed}
pub use Rattle.dna_node.specs.WireLayers.{to_wire_station, tag_or_none, wire_sends_first, wire_sends_again, wire_sends_on, wire_keeps_packet}
pub use Rattle.dna_node.specs.WireLayers.{wire_keeps, wire_meets_on, wire_user_on, wire_composes}
pub use Rattle.dna_node.specs.TagRules.{Rules, by_bytes_with}
pub use Rattle.dna_node.proofs.ReadInRange.{content_in_range}
pub use Rattle.accusing.specs.Placing.{Passed, Own, Other, IsDamage, comes, IsPlacedFrom, Ends, Passes, Sends, Hears, HearsNoise, Acts, machine}
pub use Rattle.accusing_links.proofs.Each.{Each, each_at, each_more}
pub use Rattle.accusing_links.proofs.Rows.{IsKept, AreKept, settled_by, each_keeps, kept_each, IsCalmRow, calm_sends, sent_kept, always_sends}
pub use Rattle.accusing_links.proofs.Rows.{calm_shows, user_kept, arrived_kept, all_done}
pub use Rattle.accusing_links.specs.Placing.{node_machine, IsNodePlacing}
pub use Rattle.accusing_links.specs.Segments.{packet_in}
pub use Rattle.accusing_links.proofs.Held.{Carries, AreHeld, label_held, arrives_held, user_held, sends_held}
pub use Rattle.accusing_links.proofs.Words.{distance_on}
pub use Rattle.accusing_links.proofs.Pieces.{dropped_get}
pub use Rattle.accusing_links.proofs.Along.{OfRow, SentBy, SendShows, sent_tells, RowShows, comes_by_row, lasting_sends, sent_good, AtOnce, Waited}
pub use Rattle.accusing_links.proofs.Answered.{Good, good_check, good_ok, good_err}
pub use Rattle.accusing_links.proofs.Finds.{IsInUse, HasBoth, the_link, Found, acted_on, called_by, calling_at, in_live, either_there}
pub use Rattle.accusing_links.proofs.Finds.{connected_live, ends_live}
pub use Rattle.accusing_links.proofs.RightLinks.{is_early}
pub use Rattle.accusing_links.proofs.LinkSteps.{calling_early, called_early, in_run}
pub use Rattle.accusing_links.proofs.Ports.{dropped_port, forgotten_port, ended_port, booted_port, goes_own, goes_far, goes_called, goes_live}
pub use Rattle.accusing_links.proofs.Inserted.{inserted}
pub use Rattle.accusing_links.proofs.Packets.{carries_message, carries_nothing, never}
pub use Rattle.accusing_segments.specs.History.{acknowledges, has_room, message_of, message_within, message_in, history, has, bit, end_sent}
pub use Rattle.accusing_segments.specs.History.{is_named, words_name, in_unit, said, by_other, History, Known, is_this, is_room, by_own}
pub use Rattle.accusing_segments.specs.Wrong.{is_wrong_message, is_wrong_in, is_wrong_unit, is_long_message, is_long_in, is_long_unit, before}
pub use Rattle.accusing_segments.specs.Wrong.{is_acknowledged, is_first, is_next, is_right, is_in_room, is_short}
unfoldable pub use Rattle.accusing_segments.specs.Wrong.{is_covered}
pub use Rattle.accusing_segments.specs.Answers.{SendsAll, IsWrong, Sight, IsAfter}
pub use Rattle.accusing_segments.specs.Fits.{fits, two_compared, within}
pub use Rattle.accusing_segments.specs.Repeats.{first_of, piece_in, calls, first_sent, piece_with, called_twice, Repeats, repeats, differs}
pub use Rattle.accusing_segments.specs.Repeats.{is_one_link, is_changed, is_changed_in, is_changed_unit}
pub use Rattle.accusing_segments.specs.Noted.{first_noted, shown, three_compared, Noted}
pub use Rattle.accusing_segments.specs.inner.Seen.{seen}
