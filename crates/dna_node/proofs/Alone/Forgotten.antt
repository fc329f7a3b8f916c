-- What is asked of the other end looks at nothing that the end alone forgets.
use Rattle.std.proofs.Common.{◌≡◌, ℕ, Bool, cond, leb, Option, Some, None, Result, Ok, Err, List, refl, ap}
use Rattle.ddcmp_msg.specs.Message.{MessageValue, Data, Ack, Nak}
use Rattle.dna_packet.specs.declared.ack_word.AckWord.{AckWord}
use Rattle.dna_packet.specs.Nsp.{NspValue, DataSegment, DataAck}
use Rattle.dna_station.specs.declared.state.State.{State}
use Rattle.dna_station.specs.declared.state.State.TheVariants.{Halted, Istrt, Astrt, Running}
use Rattle.dna_station.specs.declared.refusal.StationRefusal.TheVariants.{WrongResponse}
use Rattle.dna_station.specs.declared.refusal.StepRefusal.{StepRefusal}
use Rattle.dna_station.specs.declared.refusal.StepRefusal.TheVariants.{Station as OfStation}
use Rattle.dna_station.specs.Book.{body_of}
use Rattle.dna_station.specs.WireStation.{StationVariables}
use Rattle.dna_station.specs.WireBook.{acknowledges}
use Rattle.dna_links.specs.declared.port.LinkTest.TheVariants.{ActedOn}
use Rattle.dna_links.specs.Links.{Carried}
use Rattle.dna_links.specs.WireLinks.{WireLinks}
use Rattle.dna_node.specs.Content.{content}
use Rattle.dna_node.specs.WireLayers.{WireLayers}
use Rattle.dna_node.specs.Accusing.{wrong_response_in, wrong_response, wrong_response_of, wrong_content, or_else, wrong_unit, wrong_words}
use Rattle.dna_node.specs.Accusing.{wrong_acks, wrong_message, wrong_carried, wrong_taken}
use Rattle.dna_node.proofs.Alone.LinkEffects.{forget_tag, forget_links, with_both}
use Rattle.dna_node.proofs.Alone.Station.{forget_variables, forget_station, as_many}

abbrev pub forget_layers : WireLayers → WireLayers
forget_layers s = record { station = forget_station forget_tag s.station; links = forget_links s.links }

-- ---- of the station

abbrev pub wrong_if : Bool → Option StepRefusal
wrong_if b = cond b None (Some (OfStation WrongResponse))

module _ {L : Type 0} (forget_label : L → L) (k : StationVariables L) where
  by_state : (state : State) (resp : ℕ) → wrong_response_in state (forget_variables forget_label k) resp ≡ wrong_response_in state k resp
  by_state Halted resp = refl
  by_state Istrt resp = refl
  by_state Astrt resp = refl
  by_state Running resp = ap (λ (n : ℕ). wrong_if (leb (acknowledges k resp) n)) (as_many forget_label k)

  wrong_response_along : (resp : ℕ) → wrong_response (forget_variables forget_label k) resp ≡ wrong_response k resp
  wrong_response_along resp = by_state k.state resp

  pub wrong_response_of_along : (m : MessageValue) → wrong_response_of (forget_variables forget_label k) m ≡ wrong_response_of k m
  wrong_response_of_along (Data flags resp num body) = wrong_response_along resp
  wrong_response_of_along (Ack flags resp) = wrong_response_along resp
  wrong_response_of_along (Nak flags reason resp) = wrong_response_along resp
  wrong_response_of_along other = refl

-- ---- over both layers

pub wrong_unit_along : (s : WireLayers) (m : MessageValue) → wrong_unit (forget_layers s) m ≡ wrong_unit s m
wrong_unit_along s (Data flags resp num body) =
    ap (λ (o : Option StepRefusal). or_else o (wrong_content (content body))) (wrong_response_along forget_tag s.station.variables resp)
wrong_unit_along s (Ack flags resp) = wrong_response_along forget_tag s.station.variables resp
wrong_unit_along s (Nak flags reason resp) = wrong_response_along forget_tag s.station.variables resp
wrong_unit_along s other = refl

wrong_acks_along : (own far : ℕ) (acks : List AckWord) (s : WireLinks) → wrong_acks own far acks (forget_links s) ≡ wrong_acks own far acks s
wrong_acks_along own far acks s =
    with_both (λ (x y : Option StepRefusal). y ≡ x) s None None (λ n l. wrong_words acks l.segments) (λ n l. wrong_words acks l.segments)
    refl (λ n l. refl) (ActedOn own far)

wrong_message_along : (s : WireLinks) (m : NspValue) → wrong_message (forget_links s) m ≡ wrong_message s m
wrong_message_along s (DataSegment segment) = wrong_acks_along segment.dstaddr segment.srcaddr segment.acks s
wrong_message_along s (DataAck dst src acks) = wrong_acks_along dst src acks s
wrong_message_along s m = refl

wrong_carried_along : (s : WireLinks) (r : Result (Option Carried) StepRefusal) → wrong_carried (forget_links s) r ≡ wrong_carried s r
wrong_carried_along s (Ok (Some packet)) = wrong_message_along s packet.message
wrong_carried_along s (Ok None) = refl
wrong_carried_along s (Err refusal) = refl

pub wrong_taken_along : (s : WireLayers) (m : MessageValue) → wrong_taken (forget_layers s) m ≡ wrong_taken s m
wrong_taken_along s m = wrong_carried_along s.links (content (body_of m))
