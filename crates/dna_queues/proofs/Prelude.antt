-- The words that the proofs of this crate share: of the standard library, of the crates below, and of its own definitions.
pub use Rattle.std.proofs.Common.{◌≡◌, ℕ, Bool, true, false, Option, Some, None, List, ◌∷◌, Ok, Err, refl, sym, ap, ap₂, ◌∙◌, subst, ◌-◌, ◌≤◌, ◌||◌}
pub use Rattle.std.proofs.Common.{cond, [], ◌&&◌, arith, ◌==◌, eqb-true, Result, inl, inr, ◌⊎◌, ◌++◌, length, append-nil, length-append, zero, suc}
pub use Rattle.std.proofs.Common.{map, option_map, nat_lt, nat_le, fold, not, ◌+◌, drop, is_none, position, length-set, max, append_assoc, ltb-true}
pub use Rattle.std.proofs.Common.{◌<◌, leb-true}
pub use Rattle.std.specs.Prelude.{slice_get, slice_set}
pub use Rattle.std.proofs.lemmas.Bool.{and_parts, cond_both, false_from_ne_true, or_right, or_cases, cases_eq}
pub use Rattle.std.proofs.lemmas.Option.{same_Some, slice_get_within, slice_get-map}
pub use Rattle.std.proofs.lemmas.List.{length-map, map-append, map-set}
pub use Rattle.std.specs.Str.{bytes_eq}
pub use Rattle.std.specs.List.{AllByRecursion}
pub use Rattle.two_nodes.proofs.NumberedSteps.{at_pushed}
pub use Rattle.dna_packet.specs.Nsp.{NspValue, DataSegment, LinkService, DataAck, OtherDataAck, ConnectConfirm, DisconnectInitiate}
pub use Rattle.dna_packet.specs.Nsp.{DisconnectConfirm, SegmentValue, ConnectAck, NoOperation, ConnectInitiate, IsInRange}
pub use Rattle.dna_packet.specs.declared.ack_word.AckWord.{AckWord}
pub use Rattle.dna_packet.specs.AckWord.{IsAckWord}
pub use Rattle.dna_station.specs.declared.link_refusal.LinkRefusal.TheVariants.{NoLink, LinkState, AddressInUse, CrossedLink, WrongNode}
pub use Rattle.dna_station.specs.declared.link_refusal.LinkRefusal.TheVariants.{WrongSegment, SegmentTooLong, LinkWindowFull, WrongAck}
pub use Rattle.dna_station.specs.declared.link_refusal.LinkRefusal.{LinkRefusal}
pub use Rattle.dna_links.specs.declared.port.Phase.{Phase}
pub use Rattle.dna_links.specs.declared.port.Phase.TheVariants.{Calling, Called, Ended, Confirming, Running, Disconnecting}
pub use Rattle.dna_links.specs.declared.port.Port.{Port}
pub use Rattle.dna_links.specs.declared.port.LinkTest.TheVariants.{LiveAt, TheLink, CallingAt, ActedOn, HasAddress, CalledBy, LiveTo, BegunBy}
pub use Rattle.dna_links.specs.declared.port.LinkTest.TheVariants.{OpenedAt}
pub use Rattle.dna_links.specs.declared.queue.Queues.TheVariants.{With, Without}
pub use Rattle.dna_links.specs.LookUps.{passes, is_live, is_called, is_calling, is_in, is_at, is_connected, has_both, takes_messages}
pub use Rattle.dna_links.specs.Links.{changed, LinkOf, LinkTruth, Carried, number_of, with_link, begun, LinksOf, check, with_segments, in_phase}
pub use Rattle.dna_links.specs.Links.{on_link, at_number, with_seen, no_links}
pub use Rattle.dna_links.specs.Queues.{in_use, ended, drops, drops_segments, call_of, is_silent, is_over, port_of_waiting, freed, goes_on}
pub use Rattle.dna_links.specs.Queues.{ends_by_message, booted_link, booted, reached, keeps_numbers, settled, lets_go, forgotten, further, may_send}
pub use Rattle.dna_links.specs.Queues.{fresh, with_in_use, shows, shows_by}
pub use Rattle.dna_links.specs.LinkBook.{user_step, are_same, blank, on_ok, otherwise, asked, by_row, after, of_none}
pub use Rattle.dna_links.specs.User.{Abort, LinkEventValue, Open, Accept, Reject, Boot, Close, Up, In}
pub use Rattle.dna_links.specs.TrueSegments.{TrueSegments, true_segments, Numbers, takes_segment, takes_acks, acknowledged_through, highest_given}
pub use Rattle.dna_links.specs.TrueSegments.{sends_late, sends_acks, sends_other, Named, NamedLate, highest_received, all_named, all_named_late}
pub use Rattle.dna_links.specs.TrueSegments.{is_new, is_repeat, sends_new, sends_again, segment_named, sends_segment, new_late, went_on, acks_named}
pub use Rattle.dna_links.specs.TrueSegments.{delivers, delivers_whole, delivered_as, hands_in, named, named_late, with_number, with_first}
pub use Rattle.dna_links.specs.TrueSegments.{with_number_late, with_first_late, is_given, sending}
pub use Rattle.dna_links.proofs.Tables.Outcomes.{checked, IsFound, looked, user_did, position_passes, position_within, position_none}
pub use Rattle.dna_links.specs.declared.queue.Said.{Said}
pub use Rattle.dna_links.specs.declared.queue.Said.TheVariants.{Nothing, OfRun, Disconnect}
pub use Rattle.dna_links.specs.Segmentation.{piece_of, hold, Piece, in_order, is_next_piece, Whole, next_message, with_piece, Unsent, with_message}
pub use Rattle.dna_links.specs.Segmentation.{without_piece, left_of}
pub use Rattle.dna_links.proofs.Tables.Words.{AreAtMost}
pub use Rattle.dna_links.specs.declared.port.LinkTest.{LinkTest}
pub use Rattle.dna_links.specs.Runs.{SentMessage}
pub use Rattle.dna_links.specs.declared.queue.LinkQueue.{LinkQueue}
pub use Rattle.dna_links.specs.inner.Forms.{opened, answered, called, truth_of, unchanged, of_no_link, ending, delivered, confirmed, running}
pub use Rattle.dna_links.specs.Arriving.{of_partner, is_for, is_of_pair, message_arrived, arrived_step}
pub use Rattle.dna_links.specs.declared.tag.LinkTag.{LinkTag}
pub use Rattle.dna_links.specs.PacketAddresses.{goes}
pub use Rattle.dna_links.specs.Sending.{Sent, sent_step, message_sent, sent_as}
pub use Rattle.dna_links.specs.CutSegments.{IsAnswered, AcksAreNear}
pub use Rattle.dna_links.proofs.Runs.Sides.{all_map, at_set, set_same, set_other}
pub use Rattle.dna_links.specs.SegmentBook.{Sending, Late, with_gap, wider, REACH, wire, distance, SegmentBook, is_of_data}
pub use Rattle.dna_links.proofs.Cut.LookUps.{position-map}
pub use Rattle.dna_links.specs.declared.queue.Queues.{Queues}
pub use Rattle.dna_links.specs.Table.{Ask, Finds, FindsEither, FindsNone, FindsInUse, KnowsInUse, InPhase, InTurn, OrElse, ForThisLink, OfThisPair}
pub use Rattle.dna_links.specs.Table.{Delivers, SendsSegment, SendsAcks, Effect, GiveAddress, EndAll, Settle, Row, Asks, user_row, sending_row}
pub use Rattle.dna_links.specs.Table.{arrival_row}
pub use Rattle.dna_links.specs.CutLinks.{ComesNear, IsActedOn, ArrivesNear}
pub use Rattle.dna_links.proofs.Runs.Owners.{there_is}
pub use Rattle.dna_queues.specs.Records.{LinkRecord, OfUser, AreAnswered, next_links, AreNear, MadeByMachine, IsNear, IsNoAbort, NoneGivesUp, Sends}
pub use Rattle.dna_queues.specs.Records.{links_left, Keeps, OfNoLink, made_without, AreInRange, EventsAreInRange}
pub use Rattle.dna_queues.specs.Hidden.{late_segments, Node, LateSegments, over, Links, waiting, link_it_is_for, link_it_is_of, dstaddr, ComesTo}
pub use Rattle.dna_queues.specs.Hidden.{Takes, is_composed, HiddenStep, Acts, Composes, Acknowledges, late_sent, acks_sent, delivered_over}
pub use Rattle.dna_queues.specs.Hidden.{AllActed, Next, First, Behind}
pub use Rattle.dna_queues.specs.Made.{UserDoes, IsFree, MayBe, MadeByHidden, Makes, Boots, new_node, MakesStep, SendsComposed, SendsConfirm}
pub use Rattle.dna_queues.specs.Made.{SendsNothing, KeepsForLink, KeepsAtOnce, PassesBy, NoMore, Hides, EndsCall}
pub use Rattle.dna_queues.specs.Worked.{call, confirmation, acknowledgement, closing, worked, waited, given_up}
