-- The words that the proofs of this crate share: of the standard library, of the crates below, and of its own definitions.
pub use Rattle.std.proofs.Common.{◌≡◌, ℕ, true, Option, List, ◌&&◌, eqb, subst, Some, [], ◌∷◌, ◌++◌, map, zero, suc, sym, Bool, false, ◌⊎◌, inl}
pub use Rattle.std.proofs.Common.{inr, None, Result, Ok, Err, fold, refl, ap, leb, ◌∙◌, ◌≤◌, not, ◌||◌, cond, IfSome, ap₂, append_assoc, append-nil}
pub use Rattle.std.proofs.Common.{◌<◌, ltb, length, ◌-◌, drop, arith, ltb-true, Ordering, Less, Equal, Greater, nat_cmp, ◌+◌, ◌/◌, ◌%◌, OnOk, OnErr}
pub use Rattle.std.proofs.Common.{take}
pub use Rattle.std.specs.Prelude.{slice_get, slice_set, ok_or, is_some, position, bit_and}
pub use Rattle.std.proofs.lemmas.List.Quantifiers.{position-Some}
pub use Rattle.std.proofs.lemmas.Option.{get_or_from_slice_get}
pub use Rattle.std.specs.List.{list_any, AllByRecursion, list_all}
pub use Rattle.std.proofs.lemmas.Bool.{and_parts, leb-true, and_from, eq-eqb, eqb-true, leb-false, eqb-false}
pub use Rattle.std.proofs.lemmas.Slice.Eq.{bytes_eq-Decides}
pub use Rattle.std.proofs.lemmas.Map.Lookups.{exact_unsigned}
pub use Rattle.std.specs.Ordering.{match_ordering, ordering_then, is_eq}
pub use Rattle.std.specs.BTreeSet.{insert_key}
pub use Rattle.std.specs.Set.{remove_key}
pub use Rattle.std.specs.Int.{IsBitSet}
pub use Rattle.std.proofs.lemmas.Nat.{and_mask, bit_set_by_shift}
pub use Rattle.ddcmp_msg.specs.Message.{Data, MessageValue, Ack, Nak, Rep, Strt, Stack, IsBytes, view}
pub use Rattle.ddcmp_msg.specs.declared.flags.Flags.{Flags}
pub use Rattle.ddcmp_msg.specs.Reading.{ReadingValue, reading, Sound, Malformed, reading_view}
pub use Rattle.ddcmp_msg.specs.declared.nak_reason.NakReason.{NakReason}
pub use Rattle.ddcmp_msg.specs.declared.nak_reason.NakReason.TheVariants.{HeaderCheck, DataCheck}
pub use Rattle.ddcmp_msg.specs.declared.message.Message.{Message}
pub use Rattle.dna_packet.specs.declared.ack_word.AckWord.{AckWord}
pub use Rattle.dna_packet.specs.Nsp.{SegmentValue, NspValue, ConnectInitiate, DataAck, IsInRange, DataSegment, LinkService, OtherDataAck}
pub use Rattle.dna_packet.specs.Nsp.{ConnectAck, NoOperation, ConnectConfirm, DisconnectInitiate, DisconnectConfirm}
pub use Rattle.dna_packet.specs.AckWord.{IsAckWord}
pub use Rattle.dna_packet.specs.Packet.{PacketValue, Control, IsReturned}
pub use Rattle.dna_packet.specs.ReadingNsp.{nsp_at}
pub use Rattle.dna_packet.specs.declared.packet.Packet.{Packet}
pub use Rattle.capture_record.specs.declared.record.Record.{Record}
pub use Rattle.capture_record.specs.declared.fate.Fate.{Fate}
pub use Rattle.capture_record.specs.declared.fate.Fate.TheVariants.{NotKept}
pub use Rattle.capture_record.specs.Fates.{is_kept, is_met}
pub use Rattle.capture_record.specs.declared.event.Event.{Event}
pub use Rattle.capture_record.specs.Range.{EventNumbersFit}
pub use Rattle.dna_station.specs.declared.link_refusal.LinkRefusal.TheVariants.{WrongNode, WrongSegment, SegmentTooLong, LinkWindowFull}
pub use Rattle.dna_station.specs.declared.link_refusal.LinkRefusal.{LinkRefusal}
pub use Rattle.dna_station.specs.declared.head.Head.{Head}
pub use Rattle.dna_station.specs.declared.refusal.StepRefusal.{StepRefusal}
pub use Rattle.dna_station.specs.Book.{body_of, HeaderBad, DataBad, ArrivalValue, resp_of, num_of, damaged_by}
pub use Rattle.dna_station.specs.WireStation.{HeldPacket, StationVariables, WireStation, wire_after_event, with_new, labelled, with_label}
pub use Rattle.dna_station.specs.WireStation.{wire_after_label}
pub use Rattle.dna_station.specs.declared.refusal.StationRefusal.{StationRefusal}
pub use Rattle.dna_station.specs.declared.state.StationEvent.TheVariants.{Halt}
pub use Rattle.dna_station.specs.declared.tag.Tag.{Tag}
pub use Rattle.dna_station.specs.Table.{TakePartner, Respond, SetBack, TakePacket, AnswerRep, row, counts_damage}
pub use Rattle.dna_station.specs.Machine.{unless_refused}
pub use Rattle.dna_station.specs.WireBook.{wire_book, wire_passes, wire_is_new, is_held_packet, wire_after_sending, acknowledges}
pub use Rattle.dna_station.specs.WireBook.{wire_acknowledged_by, wire_is_next, with_next, wire_does, gives_new, wire_sending_refusal}
pub use Rattle.dna_station.proofs.Steps.Checks.{checks_passed}
pub use Rattle.dna_links.specs.declared.queue.Queues.{Queues}
pub use Rattle.dna_links.specs.declared.tag.LinkTag.{LinkTag}
pub use Rattle.dna_links.specs.Links.{LinkOf, LinksOf, Carried, LinkTruth, with_seen, with_segments, check, on_link, at_number, with_link, changed}
pub use Rattle.dna_links.specs.Links.{number_of, begun}
pub use Rattle.dna_links.specs.Table.{Effect, user_row, sending_row, arrival_row, Ask, Finds, FindsEither, FindsNone, FindsInUse, KnowsInUse}
pub use Rattle.dna_links.specs.Table.{InPhase, InTurn, OrElse, ForThisLink, OfThisPair, Delivers, SendsSegment, SendsAcks, Say, Settle, Row, Asks}
pub use Rattle.dna_links.specs.Table.{Keep, GoTo, TakeSegment, TakeAcks, OpenHere, GiveAddress, Connect, End, Drop, EndAll, HandIn}
pub use Rattle.dna_links.specs.LinkBook.{after, of_none, on_ok, are_same, blank, does, kept, otherwise, waits, sends_segment, sends_acks, asked}
pub use Rattle.dna_links.specs.LinkBook.{by_row, others}
pub use Rattle.dna_links.specs.Sending.{Sent, sent_as}
pub use Rattle.dna_links.specs.WireSegments.{WireSegments, wire_segments, delivers, takes_segment, LinkVariables, empty, delivered_as}
pub use Rattle.dna_links.specs.WireSegments.{delivers_whole, LastSent, last_of, acknowledged_to, acknowledged_by, acknowledged_by_all, held}
pub use Rattle.dna_links.specs.WireSegments.{with_pieces, with_segment, takes_acks, ends, LateSent, all_named, with_last, sending, acks_named}
pub use Rattle.dna_links.specs.WireSegments.{sends_new, is_repeat, sends_again, is_new, segment_named, all_named_late, went_on, new_late}
pub use Rattle.dna_links.specs.WireSegments.{sends_late, highest_given, is_ahead, is_behind, moved_to, last_named, after_first, last_named_late}
pub use Rattle.dna_links.specs.WireSegments.{gap_at, after_first_late}
pub use Rattle.dna_links.specs.WireLinks.{WireLinks, wire_links_user, wire_links_sent, wire_links_arrived}
pub use Rattle.dna_links.specs.Arriving.{PartnerRule, of_anyone}
pub use Rattle.dna_links.specs.User.{LinkEventValue, Boot, Open, Accept, Reject, Close, Abort}
pub use Rattle.dna_links.specs.Queues.{booted_link, in_use, with_in_use, may_send, with_queue, port_of_waiting, settled, forgotten, is_over}
pub use Rattle.dna_links.specs.Queues.{has_waiting, drops, goes_on, goes_to, ends_by_message, keeps_numbers, further, requeued, lets_go}
pub use Rattle.dna_links.specs.Queues.{drops_segments, shows_by, booted, reached, is_silent}
pub use Rattle.dna_links.specs.declared.port.LinkTest.{LinkTest}
pub use Rattle.dna_links.specs.declared.queue.Queues.TheVariants.{Without, With}
pub use Rattle.dna_links.specs.SegmentBook.{Sending, Late, is_of_data, wire, REACH, distance, with_gap, wider}
pub use Rattle.dna_links.specs.declared.port.Port.{Port}
pub use Rattle.dna_links.specs.LookUps.{passes, is_live, is_in, is_at, is_connected, has_both, is_calling}
pub use Rattle.dna_links.specs.declared.port.Phase.{Phase}
pub use Rattle.dna_links.specs.declared.port.Phase.TheVariants.{Calling, Called, Confirming, Running, Disconnecting, Ended}
pub use Rattle.dna_links.specs.declared.port.LinkTest.TheVariants.{TheLink, CallingAt, CalledBy, ActedOn, HasAddress, OpenedAt, BegunBy}
pub use Rattle.dna_links.specs.declared.queue.LinkQueue.{LinkQueue}
pub use Rattle.dna_links.specs.declared.queue.Said.TheVariants.{OfRun, Nothing, Disconnect}
pub use Rattle.dna_links.specs.declared.queue.Said.{Said}
pub use Rattle.dna_links.specs.Segmentation.{Piece, in_order, hold, Whole, with_piece, next_message, one_more, in_whole_messages, piece_of}
pub use Rattle.dna_links.specs.Segmentation.{is_next_piece}
pub use Rattle.dna_links.proofs.Cut.Pieces.{in_order-hold, in_order-drop}
pub use Rattle.dna_node.specs.Content.{content, link_event, content_of, is_returned, message_in}
pub use Rattle.dna_node.proofs.ReadInRange.{content_in_range}
pub use Rattle.dna_node.specs.WireLayers.{WireLayers, LayersTag, new_wire_layers_node, with_wire_links, with_tag, with_wire_composed}
pub use Rattle.dna_node.specs.WireLayers.{to_wire_station, tag_or_none, wire_sends_first, wire_sends_again, wire_sends_on, wire_keeps_packet}
pub use Rattle.dna_node.specs.WireLayers.{wire_keeps, wire_meets_on, wire_user_on, wire_composes, of_no_link}
pub use Rattle.dna_node.specs.TagRules.{Rules, by_bytes_with}
pub use Rattle.accusing.specs.Placing.{Passed, Own, Other, IsDamage, comes, IsPlacedFrom, Ends, Passes, Sends, Hears, HearsNoise, Acts, machine}
pub use Rattle.accusing.proofs.Bytes.{byte_of}
pub use Rattle.accusing_links.specs.Placing.{IsNodePlacing, node_machine, NameLinks}
pub use Rattle.accusing_links.specs.Segments.{shown_in, Shown, packet_in, is_this, shown_by, passed_of, segment_of, has}
pub use Rattle.accusing_links.specs.Back.{calls_of, told, is_back, is_back_message, is_back_in, is_back_unit, is_word, alone_in, sent_of, call_of}
pub use Rattle.accusing_links.specs.Back.{said_in, sent_in, bit, Told, words_shown}
unfoldable pub use Rattle.accusing_links.specs.Back.{was_said}
pub use Rattle.accusing_links.specs.Answers.{IsWrong, Sight, IsAfter, heard_by}
pub use Rattle.accusing_links.specs.declared.wrong.Wrong.{Wrong}
pub use Rattle.accusing_links.specs.declared.wrong.Wrong.TheVariants.{NoLink, WrongAck}
pub use Rattle.accusing_links.specs.Connects.{CI, CC, RUN, connect_of, is_address, was_joined, can_run, has_link}
pub use Rattle.accusing_links.specs.Heard.{heard, Heard}
pub use Rattle.accusing_links.specs.Wrong.{wrong_content, wrong_in, wrong_unit, goes_out, is_right_word, are_right_words, wrong_of_link}
pub use Rattle.accusing_links.specs.AckAnswers.{AckSight, told_by, AreKnownAfter}
pub use Rattle.accusing_links.specs.inner.Found.{content_found}
