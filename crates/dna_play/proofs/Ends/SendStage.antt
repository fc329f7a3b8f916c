-- That an end of the player sends what it has chosen keeps what holds of it.
use Rattle.dna_play.proofs.Prelude.{◌≡◌, ℕ, ◌∙◌, Option, Some, Ok, ap, refl, subst, same_Some, MessageValue, NspValue, Without, Carried}
use Rattle.dna_play.proofs.Prelude.{TrueSegments, Numbers, links_sent, SentMessage, LinkChoice, Choice, SendNew, after_choice, message_of}
use Rattle.dna_play.proofs.Prelude.{StoredLinks, after_sent, all_pushed, checked, WrongNode}
use Rattle.dna_links.specs.Sending as links_sending
use Rattle.dna_play.proofs.{Played.Steps.PlayHalf, Links.Fits.IsPlain, Links.Fits.duty_plain, Links.Keeps.is_kept, Links.Sent.sent_holds}
use Rattle.dna_play.proofs.{Ends.UnitLines.IsOfBytes, Ends.StationStage.sent_stage, Ends.StationStage.sent_packets}
use Rattle.dna_play.proofs.Links.Choices.{IsAsked, OfDuty, OfConfirm}
use Rattle.dna_play.proofs.Ends.TrueEnd.{End, variables_of, station_of, links_of, after_record}
use Rattle.dna_play.proofs.Ends.SendMakes.{sent_left, again_after, first_after}
use Rattle.dna_play.proofs.Ends.Stage.{Stage, Known, station_stage}

-- the end after what it sends by this choice, with these links
abbrev pub after_sending : Choice → End → PlayHalf → StoredLinks → End
after_sending c e half links = let after = after_record e half links in record after { owed = after_choice c after.owed }

module _ (own other : End) (h : Stage own) (known : Known own other) where
  -- a unit without a new packet
  pub stage_again : (c : Choice) (m : MessageValue) → message_of c own.half.state.head (variables_of own.half) own.links.links ≡ Some m →
      IsOfBytes m →
      Stage (after_sending c own (sent_left own.half m (again_after own.half m)) own.links)
  stage_again c m put b = station_stage own h _ _ _ _ _
      (sent_stage (station_of own.half) own.owed h.pays known.bounded.ordered c own.half.state.head own.links.links m put)
      (sent_packets (station_of own.half) m b h.packets) h.ahead

  -- a message that is asked is of the player
  message_plain : (c : LinkChoice) (message : NspValue) → IsAsked (links_of own.half).links own.links c message → IsPlain message
  message_plain c message (OfDuty number place duty l o at due) = duty_plain l o duty (is_kept at).fits.segments
  message_plain c message (OfConfirm confirm first) = tt

  abbrev AreAllPlain : ℕ → Option SentMessage → Type 0
  AreAllPlain k o = (u : SentMessage) → o ≡ Some u → IsPlain u.packet.message

  -- a new packet
  pub stage_first : (one : LinkChoice) (packet : Carried) → IsAsked (links_of own.half).links own.links one packet.message →
      (made : links_sending.Sent TrueSegments Numbers) → links_sent Without (links_of own.half) packet ≡ Ok made →
      (m : MessageValue) → message_of (SendNew one) own.half.state.head (variables_of own.half) own.links.links ≡ Some m → IsOfBytes m →
      Stage (after_sending (SendNew one) own (sent_left own.half m (first_after own.half m packet made)) (after_sent one own.links))
  stage_first one packet asked made does_it m put b = record {
    pays = sent_stage (station_of own.half) own.owed h.pays known.bounded.ordered (SendNew one) own.half.state.head own.links.links m put;
    packets = sent_packets (station_of own.half) m b h.packets;
    links = sent_holds (links_of own.half) own.addresses own.links h.links (links_of other.half).links known.addressed known.numbers one
        packet.message
        made asked (checked _ WrongNode _ made does_it).1;
    plain = λ k u at. all_pushed AreAllPlain own.half.state.station.messages (Some (record { packet = packet; truth = made.truth }))
        (λ u e. subst (λ (x : SentMessage). IsPlain x.packet.message) (same_Some (record { packet = packet; truth = made.truth }) u e)
        (message_plain one packet.message asked)) (λ j o at u e. h.plain j u (at ∙ ap Some e)) k (Some u) at u refl;
    few = h.few;
    ahead = h.ahead;
  }
