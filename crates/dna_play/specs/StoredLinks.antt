-- What happens to the links that an end of the player keeps: what the tables of the links make of those that live, together with what each owes
-- then. The segments of a link are what any node keeps of them.
use Rattle.std.specs.Prelude.{ℕ, Bool, true, false, Option, Some, None, List, [], ◌∷◌, ◌++◌, drop, position, slice_get, slice_set}
use Rattle.std.specs.List.{remove}
use Rattle.dna_packet.specs.declared.ack_word.AckWord.{AckWord}
use Rattle.dna_packet.specs.Nsp.{SegmentValue, NspValue, DataSegment, LinkService, DataAck, OtherDataAck, ConnectAck, NoOperation, ConnectInitiate}
use Rattle.dna_packet.specs.Nsp.{ConnectConfirm, DisconnectInitiate, DisconnectConfirm}
use Rattle.dna_links.specs.declared.port.Phase.{Phase}
use Rattle.dna_links.specs.declared.port.Phase.TheVariants.{Calling, Called, Confirming, Running, Disconnecting}
use Rattle.dna_links.specs.declared.port.LinkTest.{LinkTest}
use Rattle.dna_links.specs.declared.port.LinkTest.TheVariants.{TheLink, LiveTo, CallingAt, ActedOn}
use Rattle.dna_links.specs.LookUps.{passes, is_running}
use Rattle.dna_links.specs.SegmentBook.{distance}
use Rattle.dna_links.specs.Segmentation.{Piece, none_unsent, with_message, without_piece, in_whole_messages}
use Rattle.dna_links.specs.WireSegments.{LinkVariables, acknowledged_by_all, segment_taken}
use Rattle.dna_play.specs.LinkOwed.{LinkOwed, EndConfirm, Duty, ConnectAckDuty, InitiateDuty, ConfirmDuty, DisconnectDuty, DataAckDuty, SegmentDuty}
use Rattle.dna_play.specs.LinkOwed.{with_duty, same_phase, unless_left, lowered}
use Rattle.dna_play.specs.LinkOwed as owing
use Rattle.dna_play.specs.NextSent.{LinkEnd, LinkChoice, Confirms, OfLink, without_duty}
use Rattle.dna_links.specs.Segmentation.{next_piece}
use Rattle.dna_play.specs.Receipt.{complete}
use Rattle.dna_play.specs.StoredEnd.{StoredLinks}

-- ---- look-ups

abbrev pub place_of : LinkTest → List LinkEnd → Option ℕ
place_of test links = position (λ (l : LinkEnd). passes test l.port) links

abbrev pub on_end : {R : Type 0} → ℕ → Option LinkEnd → R → (ℕ → LinkEnd → R) → R
on_end place None otherwise next = otherwise
on_end place (Some link) otherwise next = next place link

abbrev pub at_place : {R : Type 0} → List LinkEnd → Option ℕ → R → (ℕ → LinkEnd → R) → R
at_place links None otherwise next = otherwise
at_place links (Some place) otherwise next = on_end place (slice_get links place) otherwise next

-- goes on with the first link that passes, and its place; otherwise ..
abbrev pub with_end : {R : Type 0} → LinkTest → StoredLinks → R → (ℕ → LinkEnd → R) → R
with_end test s otherwise next = at_place s.links (place_of test s.links) otherwise next

-- ---- changes

abbrev pub begun : LinkEnd → StoredLinks → StoredLinks
begun link s = record s { links = s.links ++ link ∷ [] }

abbrev pub changed : ℕ → LinkEnd → StoredLinks → StoredLinks
changed place link s = record s { links = slice_set s.links place link }

abbrev pub ended : ℕ → StoredLinks → StoredLinks
ended place s = record s { links = remove s.links place }

abbrev pub confirming : (dst src reason : ℕ) → StoredLinks → StoredLinks
confirming dst src reason s = record s { confirms = s.confirms ++ record { dst = dst; src = src; reason = reason } ∷ [] }

-- ---- one link

-- nothing was handed in, given or received
abbrev pub no_segments : LinkVariables
no_segments = record { unsent = none_unsent; acknowledged = 0; outstanding = []; received = 0; pieces = [] }

abbrev pub owes : Duty → LinkEnd → LinkEnd
owes duty link = record link { owed = with_duty duty true link.owed }

-- opened here, with this own address: it owes CI
abbrev pub opened : (own : ℕ) → LinkEnd
opened own = owes InitiateDuty
    (record { port = record { phase = Calling; opened = true; own = Some own; far = None }; variables = no_segments; owed = owing.nothing })

-- begun by a CI, with this far address: it owes a connect ack
abbrev pub called : (far : ℕ) → LinkEnd
called far = owes ConnectAckDuty
    (record { port = record { phase = Called; opened = false; own = None; far = Some far }; variables = no_segments; owed = owing.nothing })

-- a phase that was left drops what was owed
abbrev pub in_phase : Phase → LinkEnd → LinkEnd
in_phase phase link = record link { port = record link.port { phase = phase }; owed = unless_left (same_phase link.port.phase phase) link.owed }

-- the user answers its call: it gets this own address, and owes CC or DI
abbrev pub answered : Phase → Duty → (own : ℕ) → LinkEnd → LinkEnd
answered phase duty own link = let left = in_phase phase link in owes duty (record left { port = record left.port { own = Some own } })

abbrev pub closed : LinkEnd → LinkEnd
closed link = owes DisconnectDuty (in_phase Disconnecting link)

abbrev pub handed : List ℕ → LinkEnd → LinkEnd
handed message link = record link { variables = record link.variables { unsent = with_message message link.variables.unsent } }

-- a CI comes again: in Called a connect ack, in Confirming CC
abbrev pub called_again : Phase → LinkEnd → LinkEnd
called_again Called link = owes ConnectAckDuty link
called_again Confirming link = owes ConfirmDuty link
called_again phase link = link

-- CC is acted on: to RUN with this far address; data ack
abbrev pub confirmed : (far : ℕ) → LinkEnd → LinkEnd
confirmed far link = let left = in_phase Running link in owes DataAckDuty (record left { port = record left.port { far = Some far } })

-- CC for a link in RUN: data ack
abbrev pub confirmed_again : (running : Bool) → LinkEnd → LinkEnd
confirmed_again true link = owes DataAckDuty link
confirmed_again false link = link

-- Something is acted on, in Confirming or RUN: what was acknowledged is no longer among the segments sent in this go
abbrev pub acted_on : LinkVariables → LinkEnd → LinkEnd
acted_on after link = let left = in_phase Running link in
    record left { variables = after; owed = lowered (distance link.variables.acknowledged after.acknowledged) left.owed }

abbrev pub took_acks : List AckWord → LinkEnd → LinkEnd
took_acks words link = acted_on (acknowledged_by_all words link.variables) link

-- and data ack
abbrev pub took_segment : SegmentValue → LinkEnd → LinkEnd
took_segment s link = owes DataAckDuty (acted_on (segment_taken s (acknowledged_by_all s.acks link.variables)) link)

-- ---- a message comes

-- the link, or the one in Calling with the own address, is ended
abbrev pub ends_link : (own far : ℕ) → (otherwise : StoredLinks) → (StoredLinks → StoredLinks) → StoredLinks → StoredLinks
ends_link own far otherwise then_owes s =
    with_end (TheLink own far) s (with_end (CallingAt own) s otherwise (λ place link. then_owes (ended place s)))
    (λ place link. then_owes (ended place s))

abbrev pub no_more : StoredLinks → StoredLinks
no_more s = s

abbrev pub acts : (own far : ℕ) → (LinkEnd → LinkEnd) → StoredLinks → StoredLinks
acts own far change s = with_end (ActedOn own far) s s (λ place link. changed place (change link) s)

abbrev pub confirm_came : (own far : ℕ) → StoredLinks → StoredLinks
confirm_came own far s =
    with_end (CallingAt own) s
    (with_end (TheLink own far) s s (λ place link. changed place (confirmed_again (is_running link.port.phase) link) s))
    (λ place link. changed place (confirmed far link) s)

abbrev pub message_came : NspValue → StoredLinks → StoredLinks
-- CI: a new link, or by phase
message_came (ConnectInitiate retransmitted src services info segsize user_data) s =
    with_end (LiveTo src) s (begun (called src) s) (λ place link. changed place (called_again link.port.phase link) s)
-- connect ack, no operation: nothing
message_came (ConnectAck dst) s = s
message_came (NoOperation rest) s = s
-- CC: the link in Calling; or the link, in RUN
message_came (ConnectConfirm dst src services info segsize user_data) s = confirm_came dst src s
-- DI: the link ends; DC with its two addresses exchanged, with reason 42 where it was acted on, 41 where it was not
message_came (DisconnectInitiate dst src reason user_data) s = ends_link dst src (confirming src dst 41 s) (confirming src dst 42) s
-- DC: the link ends
message_came (DisconnectConfirm dst src reason) s = ends_link dst src s no_more s
-- data ack, and what has no number that is read: the link in Confirming or RUN
message_came (DataAck dst src acks) s = acts dst src (took_acks acks) s
message_came (LinkService interrupt dst src rest) s = acts dst src (λ link. acted_on link.variables link) s
message_came (OtherDataAck dst src rest) s = acts dst src (λ link. acted_on link.variables link) s
-- a segment: by what it makes whole, below
message_came (DataSegment segment) s = s

-- ---- what is whole goes to the user at once

-- the links, and the messages that the user gets
pub record Delivering : Type 0 where
  pub links : StoredLinks
  pub messages : List (List ℕ)

abbrev pub delivering_none : StoredLinks → Delivering
delivering_none s = record { links = s; messages = [] }

abbrev pub without_whole : LinkEnd → LinkEnd
without_whole link =
    record link { variables = record link.variables { pieces = drop (in_whole_messages link.variables.pieces) link.variables.pieces } }

abbrev pub delivering_at : ℕ → LinkEnd → StoredLinks → Delivering
delivering_at place link s = record { links = changed place (without_whole link) s; messages = complete [] link.variables.pieces }

-- a segment, in Confirming or RUN; and all others
abbrev pub arrives : NspValue → StoredLinks → Delivering
arrives (DataSegment segment) s =
    with_end (ActedOn segment.dstaddr segment.srcaddr) s (delivering_none s) (λ place link. delivering_at place (took_segment segment link) s)
arrives m s = delivering_none (message_came m s)

-- ---- sending

-- a segment that is not sent again is the next piece, which is given its number
abbrev pub gave : Option Piece → LinkEnd → LinkEnd
gave (Some again) link = link
gave None link = record link {
  variables = record link.variables {
    unsent = without_piece (next_piece link.variables.unsent) link.variables.unsent;
    outstanding = link.variables.outstanding ++ next_piece link.variables.unsent ∷ [];
  };
}

abbrev pub gave_by : Duty → LinkEnd → LinkEnd
gave_by SegmentDuty link = gave (slice_get link.variables.outstanding link.owed.ahead) link
gave_by duty link = link

abbrev pub duty_sent : Duty → LinkEnd → LinkEnd
duty_sent duty link = let after = gave_by duty link in record after { owed = without_duty duty after.owed }

abbrev pub sent_at : ℕ → Option LinkEnd → Duty → StoredLinks → StoredLinks
sent_at place None duty s = s
sent_at place (Some link) duty s = changed place (duty_sent duty link) s

abbrev pub after_sent : LinkChoice → StoredLinks → StoredLinks
after_sent (Confirms confirm) s = record s { confirms = drop 1 s.confirms }
after_sent (OfLink place duty) s = sent_at place (slice_get s.links place) duty s
