-- The words that the proofs of this crate share: of the standard library, of the crates below, and of its own definitions.
pub use Rattle.std.proofs.Common.{◌≡◌, ℕ, Bool, true, false, List, [], ◌∷◌, ◌++◌, zero, suc, ◌+◌, Option, Some, None, length, refl, sym, subst, ◌∙◌}
pub use Rattle.std.proofs.Common.{◌≢◌, inl, inr, arith, ◌≤◌, nat_lt, nat_le, map, Result, Ok, Err, leb-true, ltb-true, ◌-◌, replicate, ◌%◌, fold}
pub use Rattle.std.proofs.Common.{◌*◌, ◌/◌}
pub use Rattle.std.proofs.lemmas.Option.{same_Some, slice_get_within}
pub use Rattle.std.proofs.lemmas.List.{append-nil, append_assoc}
pub use Rattle.std.specs.List.{AllByRecursion}
pub use Rattle.std.specs.Prelude.{slice_get, codes, if◌then◌else◌}
pub use Rattle.std.specs.Fmt.{decimal}
pub use Rattle.two_nodes.specs.Nodes.{Refused, Nodes, World, Outcome, Made, Waits, Run, Done, OfA, OfB, IsRun, advance, exchanged_world}
pub use Rattle.two_nodes.proofs.Order.{run-append, exchange}
pub use Rattle.two_nodes.proofs.Closed.{exchange_run}
pub use Rattle.two_nodes.proofs.Blame.{no_run_of_refused}
pub use Rattle.two_nodes.proofs.Listed.{next_offends}
pub use Rattle.wire_base.specs.declared.side.Side.{Side}
pub use Rattle.wire_base.specs.declared.side.Side.TheVariants.{A, B}
pub use Rattle.wire_base.specs.Side.{other_side}
pub use Rattle.wire_base.specs.BlockCheck.{word_bytes}
unfoldable pub use Rattle.wire_base.specs.BlockCheck.{is_good, check_of, after_byte, shift}
pub use Rattle.ddcmp_msg.specs.Message.{Data, Rep, MessageValue, Nak}
pub use Rattle.ddcmp_msg.specs.Reading.{HeaderBad, DataBad}
unfoldable pub use Rattle.ddcmp_msg.specs.Reading.{reading}
unfoldable pub use Rattle.ddcmp_msg.specs.Spelling.{spelling}
pub use Rattle.ddcmp_msg.specs.declared.flags.Flags.{Flags}
pub use Rattle.ddcmp_msg.specs.declared.nak_reason.NakReason.TheVariants.{RepResponse}
pub use Rattle.dna_packet.specs.declared.fault.NspFault.{NspFault}
pub use Rattle.dna_packet.specs.Nsp.{NspValue, SegmentValue, nsp_bytes}
pub use Rattle.dna_packet.specs.ReadingNsp.{nsp_at}
pub use Rattle.dna_packet.specs.declared.ack_word.AckQualifier.TheVariants.{Ack}
pub use Rattle.dna_packet.specs.declared.ack_word.AckWord.{AckWord}
pub use Rattle.capture_record.specs.declared.fate.Fate.TheVariants.{NotKept, Kept, Dropped}
pub use Rattle.capture_record.specs.declared.record.Record.{Record}
pub use Rattle.capture_record.specs.declared.record.Record.TheVariants.{Sent, Received, User}
pub use Rattle.capture_record.specs.declared.event.Event.TheVariants.{Start, Halt, In, Up}
pub use Rattle.capture_record.specs.Range.{IsLink, NumbersFit, IsShort, IsRecord}
pub use Rattle.capture.specs.declared.fault.Departure.TheVariants.{TooLong, TooMany}
pub use Rattle.capture.specs.declared.hint.HintForm.{HintForm}
pub use Rattle.capture.specs.declared.hint.HintForm.TheVariants.{Distance}
pub use Rattle.capture.specs.Range.{IsNode, FormFits, IsCapture}
pub use Rattle.capture.specs.Departing.{first_line, has_lf, IsWhole, LineDeparts, RecordDeparts}
pub use Rattle.capture.specs.Text.{bytes_text, address_text}
unfoldable pub use Rattle.capture.specs.Reading.{number_at, positive_at, address_at}
pub use Rattle.capture.proofs.NumberLaws.{number_takes}
pub use Rattle.capture.proofs.AddressLaws.{address_takes}
pub use Rattle.capture.specs.Listed.{list_head}
pub use Rattle.dna_station.specs.declared.refusal.StationRefusal.TheVariants.{WrongState, WrongResponse, WrongKeep, WrongNumber, NoCause}
pub use Rattle.dna_station.specs.declared.refusal.StationRefusal.TheVariants.{CrossedPeriod, WrongUserEvent, Changed, WindowFull}
pub use Rattle.dna_station.specs.declared.refusal.StepRefusal.{StepRefusal}
pub use Rattle.dna_station.specs.declared.refusal.StepRefusal.TheVariants.{NotAMessage, HintOrder, BadPacket, BadNsp, NotNoise, Undetected}
pub use Rattle.dna_station.specs.declared.link_refusal.LinkRefusal.TheVariants.{WrongNode, WrongAck, NoLink, WrongDelivery, CrossedLink}
pub use Rattle.dna_station.specs.declared.link_refusal.LinkRefusal.TheVariants.{AddressInUse, SegmentTooLong, LinkState, WrongSegment}
pub use Rattle.dna_station.specs.declared.link_refusal.LinkRefusal.TheVariants.{LinkWindowFull}
pub use Rattle.dna_station.specs.declared.head.Head.{Head}
pub use Rattle.dna_station.specs.declared.link_refusal.LinkRefusal.{LinkRefusal}
pub use Rattle.dna_station.specs.WireStation.{HeldPacket, StationVariables}
pub use Rattle.dna_station.specs.Offered.{offered}
pub use Rattle.dna_station.specs.declared.refusal.StationRefusal.{StationRefusal}
pub use Rattle.dna_station.specs.Line.{SentUnit}
pub use Rattle.dna_station.specs.Node.{Node}
pub use Rattle.dna_station.specs.Pair.{pair, start}
pub use Rattle.dna_station.specs.Station.{Station, new_station, after_event}
pub use Rattle.dna_station.specs.StationBook.{sending_refusal, after_sending, truth_of, after_arrival}
pub use Rattle.dna_station.specs.Book.{Sound}
pub use Rattle.dna_links.specs.declared.tag.LinkTag.{LinkTag}
pub use Rattle.dna_links.specs.User.{Boot, LinkEventValue}
pub use Rattle.dna_links.specs.Arriving.{of_anyone, of_partner, arrived_step}
pub use Rattle.dna_links.specs.declared.queue.Queues.TheVariants.{Without}
pub use Rattle.dna_links.specs.Links.{LinkOf, Carried, LinksOf, LinkTruth, no_links}
pub use Rattle.dna_links.specs.Sending.{sent_step}
pub use Rattle.dna_links.specs.TrueSegments.{TrueSegments, Numbers, true_segments}
pub use Rattle.dna_links.specs.TrueLinks.{Links, links_user, links_sent, links_arrived}
pub use Rattle.dna_links.specs.Runs.{SentMessage, LinkSide, LinkWorld, LinkStep, ByUser, Sends, SendsNone, Composes, Keeps, Passes, Reached, ByA}
pub use Rattle.dna_links.specs.Runs.{ByB, new_world}
pub use Rattle.dna_links.specs.Captures.{handed_in, delivered_up, behind}
pub use Rattle.dna_links.specs.SegmentBook.{SegmentBook, Sending, wire}
pub use Rattle.dna_links.specs.LinkBook.{user_step}
pub use Rattle.dna_links.specs.WireSegments.{wire_segments, LinkVariables, WireSegments}
pub use Rattle.dna_links.specs.Segmentation.{Piece, Unsent, next_piece}
pub use Rattle.dna_links.specs.declared.port.Phase.TheVariants.{Running}
pub use Rattle.dna_node.specs.Alone.{Accused, ThisEnd, OtherEnd, EndingAlone, Passed, judged_alone, judged_station_alone}
pub use Rattle.dna_node.specs.declared.finding.Cause.TheVariants.{Step}
pub use Rattle.dna_node.specs.declared.finding.Finding.{Finding}
pub use Rattle.dna_node.specs.declared.finding.Finding.TheVariants.{Accepted}
pub use Rattle.dna_node.specs.LayersPair.{layers_pair, layers_start}
pub use Rattle.dna_node.specs.WireLayers.{wire_layers_pair, wire_layers_start}
pub use Rattle.dna_node.specs.Layers.{new_layers_node}
pub use Rattle.dna_node.specs.inner.Tells.{layers_tell}
pub use Rattle.dna_node.specs.Kind.{both_layers}
pub use Rattle.dna_node.specs.Verdict.{IsVerdict}
pub use Rattle.dna_play.specs.Script.{Open, Accept, Close, Noise, Script, Reject, Abort, ScriptStep, Timer, Send, Deliver, Drop, Lose, Retry}
pub use Rattle.dna_play.specs.Script.{Refuse, Damage, StepValue}
pub use Rattle.dna_play.specs.ScriptText.{IsStep, IsScript, StepDeparts, most_bytes, line_text, script_form}
pub use Rattle.dna_play.specs.Owed.{Owed, arrival_debt}
pub use Rattle.dna_play.specs.LinkOwed.{DataAckDuty, SegmentDuty}
pub use Rattle.dna_play.specs.NextSent.{LinkEnd, duty_of, OfLink, choice, SendAgain, SendNew, SendAck, SendRep}
pub use Rattle.dna_play.specs.Compose.{duty_message, message_of, no_flags}
pub use Rattle.dna_play.specs.StoredEnd.{StoredEnd, new_stored_end}
pub use Rattle.dna_play.specs.StoredPlay.{StoredStepped}
unfoldable pub use Rattle.dna_play.specs.StoredPlay.{stored_plays}
pub use Rattle.dna_play.specs.StoredPlayed.{StoredPlayed, stored_play, stored_plays_on}
unfoldable pub use Rattle.dna_play.specs.StoredPlayed.{stored_plays_step}
pub use Rattle.dna_play.specs.Stop.{Stopped, Stop, BadStep, Full, plays_all}
pub use Rattle.dna_play.specs.Played.{Played, play, ends_of}
unfoldable pub use Rattle.dna_play.specs.Played.{end_step, plays_step}
