-- The words that the proofs of this crate share: of the standard library, of the crates below, and of its own definitions.
pub use Rattle.std.proofs.Common.{◌≡◌, ℕ, Bool, true, false, Option, Some, None, List, [], ◌∷◌, map, length, refl, sym, ap, ◌∙◌, subst, option_map}
pub use Rattle.std.proofs.Common.{inr, length-set, length-append, ◌≤◌, arith, ◌&&◌, is_some, ok_or, fold, Result, Ok, Err, ap₂, eqb-true, ◌==◌}
pub use Rattle.std.proofs.Common.{zero, suc, ◌+◌, ◌<◌, not, ltb, cond, ◌++◌, lt-ltb, le-ltb, ◌⊎◌, inl, append-nil, ltb-true, eqb}
pub use Rattle.std.specs.Prelude.{slice_get, IfSome, slice_set, position}
pub use Rattle.std.proofs.lemmas.List.{map-append, map-set, length-map}
pub use Rattle.std.proofs.lemmas.Option.{slice_get-map, same_Some, slice_get_within}
pub use Rattle.std.proofs.lemmas.Bool.{eqb-false, cases_lt, and_parts}
pub use Rattle.std.specs.List.{prefix_len}
pub use Rattle.two_nodes.proofs.NumberedSteps.{at_pushed}
pub use Rattle.dna_packet.specs.declared.ack_word.AckWord.{AckWord}
pub use Rattle.dna_packet.specs.Nsp.{SegmentValue, NspValue, DataSegment, LinkService, DataAck, OtherDataAck, ConnectAck, NoOperation}
pub use Rattle.dna_packet.specs.Nsp.{ConnectInitiate, ConnectConfirm, DisconnectInitiate, DisconnectConfirm}
pub use Rattle.dna_station.specs.declared.link_refusal.LinkRefusal.{LinkRefusal}
pub use Rattle.dna_station.specs.declared.link_refusal.LinkRefusal.TheVariants.{WrongNode, NoLink}
pub use Rattle.dna_links.specs.declared.queue.Queues.{Queues}
pub use Rattle.dna_links.specs.declared.port.LinkTest.TheVariants.{HasAddress, LiveAt, TheLink, LiveTo, OpenedAt, CallingAt, CalledBy, BegunBy}
pub use Rattle.dna_links.specs.declared.port.LinkTest.TheVariants.{ActedOn}
pub use Rattle.dna_links.specs.SegmentBook.{SegmentBook}
pub use Rattle.dna_links.specs.Links.{LinkOf, LinksOf, with_link, begun, changed, LinkTruth, check, with_seen, with_segments, on_link, at_number}
pub use Rattle.dna_links.specs.Links.{Carried}
pub use Rattle.dna_links.specs.Queues.{forgotten, freed, booted, booted_link, settled, in_use, with_in_use, may_send, port_of_waiting, goes_on}
pub use Rattle.dna_links.specs.Queues.{goes_to, ends_by_message, drops, shows_by}
pub use Rattle.dna_links.specs.Table.{Effect, GiveAddress, EndAll, Settle, Ask, Finds, FindsEither, FindsNone, FindsInUse, KnowsInUse, InPhase}
pub use Rattle.dna_links.specs.Table.{InTurn, OrElse, ForThisLink, OfThisPair, Delivers, SendsSegment, SendsAcks, Row, Asks, OpenHere, Connect}
pub use Rattle.dna_links.specs.Table.{GoTo, End, Drop, Say, Keep, HandIn, TakeSegment, TakeAcks, user_row, sending_row, arrival_row}
pub use Rattle.dna_links.specs.LinkBook.{after, are_same, on_ok, blank, does, kept, otherwise, waits, sends_segment, sends_acks, asked, of_none}
pub use Rattle.dna_links.specs.LinkBook.{by_row, user_step}
pub use Rattle.dna_links.proofs.Runs.Sides.{all_set, all_pushed}
pub use Rattle.dna_links.specs.declared.port.LinkTest.{LinkTest}
pub use Rattle.dna_links.specs.declared.queue.Queues.TheVariants.{Without, With}
pub use Rattle.dna_links.specs.declared.port.Phase.{Phase}
pub use Rattle.dna_links.specs.declared.port.Port.{Port}
pub use Rattle.dna_links.specs.LookUps.{refused_in, is_live, passes, is_at, is_connected}
pub use Rattle.dna_links.specs.declared.port.Phase.TheVariants.{Running, Disconnecting}
pub use Rattle.dna_links.proofs.Cut.LookUps.{IsFound, found, position-map}
pub use Rattle.dna_links.specs.User.{LinkEventValue, Open, Accept, Reject, In, Up, Close, Abort, Boot}
pub use Rattle.dna_links.specs.TrueSegments.{Numbers, TrueSegments, true_segments}
pub use Rattle.dna_links.specs.Runs.{LinkSide, LinkWorld, Reached, Start, ByA, ByB, new_world, SentMessage, LinkStep, sends, keeps, ByUser}
pub use Rattle.dna_links.specs.Runs.{SendsNone, Composes, Passes}
pub use Rattle.dna_links.specs.Sending.{Sent, sent_as, message_sent, sent_step, truth_as}
pub use Rattle.dna_links.specs.TrueLinks.{Links, links_sent, links_user, links_arrived, new_links}
pub use Rattle.dna_links.specs.Arriving.{message_arrived, arrived_step, of_partner}
pub use Rattle.dna_links.specs.WireLinks.{new_wire_links}
pub use Rattle.dna_leaving.specs.Marks.{judged_of, rank, Marks, behind, and_then}
pub use Rattle.dna_leaving.specs.LeftOut.{LeftOut, is_out, source_of, destination_of, event_out, sent_out, kept_out, is_judged_there, message_out}
pub use Rattle.dna_leaving.specs.LeftOut.{nothing_out}
pub use Rattle.dna_leaving.specs.Left.{Judged, link_left, links_left, truth_left, left_of_result, renumbered, record_left, judged_then, if_made}
pub use Rattle.dna_leaving.specs.Left.{records_left, judged_after, sent_left, all_judged}
pub use Rattle.dna_leaving.specs.Right.{LinkFits, AreFit, IsOfJudged, NamesJudged, OwnFits, FarFits, IsRight, AreRight, EventBinds, MessageBinds}
pub use Rattle.dna_leaving.specs.Right.{IsOneAtZero}
pub use Rattle.dna_leaving.specs.Records.{LinkRules, LinkRecord, OfNoLink, next_links, made, true_rules, OfUser, Sends, Keeps, links_then}
pub use Rattle.dna_leaving.specs.Worlds.{other_out, other_judged, side_left, world_left, events_left, AreBound, record_of, marks_of_a, marks_of_b}
pub use Rattle.dna_leaving.specs.Worlds.{judged_of_run, MayBeNext, message_left}
