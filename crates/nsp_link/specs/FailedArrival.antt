-- What a node's links answer when they are asked for a message that comes: a permit, or else the first check that it does not pass, by its name,
-- with what is seen there and what is allowed. The checks are those of `Table` of `dna_links`, in their order.
use Rattle.std.specs.Prelude.{ℕ, Option, ◌==◌, ◌&&◌, Result, Ok}
use Rattle.dna_packet.specs.Nsp.{NspValue, DataSegment, LinkService, DataAck, OtherDataAck, ConnectAck, NoOperation, ConnectInitiate, ConnectConfirm}
use Rattle.dna_packet.specs.Nsp.{DisconnectInitiate, DisconnectConfirm}
use Rattle.dna_station.specs.declared.link_refusal.LinkRefusal.{LinkRefusal}
use Rattle.dna_station.specs.declared.link_refusal.LinkRefusal.TheVariants.{WrongNode, CrossedLink}
use Rattle.dna_links.specs.declared.port.LinkTest.TheVariants.{TheLink, LiveTo, CallingAt, ActedOn}
use Rattle.dna_links.specs.declared.tag.LinkTag.{LinkTag}
use Rattle.dna_links.specs.Arriving.{PartnerRule, is_for, is_of_pair, of_partner}
use Rattle.dna_links.specs.Links.{Carried, with_link}
use Rattle.dna_links.specs.WireLinks.{WireLinks}
use Rattle.nsp_link.specs.FailedSending.{nodes_of, unless}
use Rattle.nsp_link.specs.Missing.{refusal_in}
use Rattle.nsp_link.specs.declared.failed.FailedLinkArrival.{FailedLinkArrival}
use Rattle.nsp_link.specs.declared.failed.FailedLinkArrival.TheVariants as failed
use Rattle.nsp_link.specs.declared.permit.LinkArrivalPermit.{LinkArrivalPermit}
use Rattle.nsp_link.specs.declared.permit.LinkArrivalPermit.TheVariants.{Ignored, Begins, OfLink}

-- a CI: where a live link has the sender's address it is a repeat
abbrev pub asked_call : (far : ℕ) → WireLinks → Result LinkArrivalPermit FailedLinkArrival
asked_call far s = with_link (LiveTo far) s (Ok Begins) (λ number link. Ok Ignored)

-- a DI or a DC: the link, or the one in Calling with the own address
abbrev pub asked_ending : (own far : ℕ) → WireLinks → Result LinkArrivalPermit FailedLinkArrival
asked_ending own far s =
    with_link (TheLink own far) s (with_link (CallingAt own) s (Ok Ignored) (λ number link. Ok (OfLink number))) (λ number link. Ok (OfLink number))

module _ (rule : PartnerRule) where
  -- a CC: for the link in Calling
  abbrev pub asked_confirm : (own : ℕ) → LinkTag → WireLinks → Result LinkArrivalPermit FailedLinkArrival
  asked_confirm own tag s = with_link (CallingAt own) s (Ok Ignored) (λ number link.
      unless (rule (is_for number tag)) (failed.OtherCall number tag) (Ok (OfLink number)))

  -- what is acted on: of this pair of links
  abbrev pub asked_pair : (own far : ℕ) → LinkTag → WireLinks → Result LinkArrivalPermit FailedLinkArrival
  asked_pair own far tag s = with_link (ActedOn own far) s (Ok Ignored) (λ number link.
      unless (rule (is_of_pair number link.partner tag)) (failed.OtherPair number link.partner tag) (Ok (OfLink number)))

  -- a row for each message
  abbrev pub asked_taken : WireLinks → NspValue → LinkTag → Result LinkArrivalPermit FailedLinkArrival
  asked_taken s (ConnectConfirm dst src services info segsize user_data) tag = asked_confirm dst tag s
  asked_taken s (DataSegment segment) tag = asked_pair segment.dstaddr segment.srcaddr tag s
  asked_taken s (DataAck dst src acks) tag = asked_pair dst src tag s
  asked_taken s (LinkService interrupt dst src rest) tag = asked_pair dst src tag s
  asked_taken s (OtherDataAck dst src rest) tag = asked_pair dst src tag s
  asked_taken s (ConnectInitiate retransmitted src services info segsize user_data) tag = asked_call src s
  asked_taken s (ConnectAck dst) tag = Ok Ignored
  asked_taken s (NoOperation rest) tag = Ok Ignored
  asked_taken s (DisconnectInitiate dst src reason user_data) tag = asked_ending dst src s
  asked_taken s (DisconnectConfirm dst src reason) tag = asked_ending dst src s

  abbrev pub asked_arrival : WireLinks → Carried → LinkTag → Result LinkArrivalPermit FailedLinkArrival
  asked_arrival s packet tag =
      unless (packet.src == s.peer && packet.dst == s.node) (failed.Nodes (nodes_of packet) (record { source = s.peer; destination = s.node }))
      (asked_taken s packet.message tag)

-- the check alone, if there is one, as a judge of two captures asks
abbrev pub failed_arrival : WireLinks → Carried → LinkTag → Option FailedLinkArrival
failed_arrival s packet tag = refusal_in (asked_arrival of_partner s packet tag)

-- the refusal of each
abbrev pub refusal_of_arrival : FailedLinkArrival → LinkRefusal
refusal_of_arrival (failed.Nodes seen allowed) = WrongNode
refusal_of_arrival (failed.OtherCall link seen) = CrossedLink
refusal_of_arrival (failed.OtherPair link partner seen) = CrossedLink
