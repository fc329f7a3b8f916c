-- What an end of the player chooses to send its node makes: a unit that is put together is sent.
use Rattle.dna_play.proofs.Prelude.{subst, Option, ◌≡◌, ℕ, ◌<◌, true, false, Some, None, List, [], ◌∷◌, Ok, refl, arith, AllByRecursion}
use Rattle.dna_play.proofs.Prelude.{MessageValue, spelling, reading-spelling, Sent, Head, body_of, Station, sending_refusal, gives_number, cut}
use Rattle.dna_play.proofs.Prelude.{HeldPacket, StationVariables, unlabelled, Without, Carried, TrueSegments, Numbers, links_sent}
use Rattle.dna_play.proofs.Prelude.{by_bytes, content, Layers, LayersTruth, first_sent, sends_again, layers_machine, LinkEnd, Choice, SendNew}
use Rattle.dna_play.proofs.Prelude.{data_with, message_of, end_step, makes, sent_by, sent_with, IfSome, NspValue, LinkChoice, link_message}
use Rattle.dna_play.proofs.Prelude.{packet_with}
use Rattle.dna_links.specs.Sending as links_sending
use Rattle.dna_play.proofs.{EachElement.left_all, EachElement.there, Played.Steps.PlayHalf}
use Rattle.dna_play.proofs.Ends.UnitLines.{IsOfBytes, PacketFits, NspFits, packet_fits, unit_line}
use Rattle.dna_play.proofs.Ends.StationPays.{IsPut, PutAgain, PutNew, put_is}

module _ (own : PlayHalf) where
  abbrev s : Layers
  s = own.state.station

  -- the end's half after a unit
  abbrev pub sent_left : MessageValue → Layers × LayersTruth → PlayHalf
  sent_left m after = sent_with own (spelling m) m after

  pub is_made : (other : PlayHalf) (m : MessageValue) → IsOfBytes m → (after : Layers × LayersTruth) →
      (layers_machine by_bytes).sends s m ≡ Ok after → makes own other (Sent (spelling m)) ≡ Some (sent_left m after)
  unfolding end_step
  is_made other m h after does_it = rw (unit_line m h, reading-spelling m h.in_range, does_it) refl

  -- a unit without a new packet
  abbrev pub again_after : MessageValue → Layers × LayersTruth
  again_after m = sends_again s m (sent_by own m)

  pub sends_old : (m : MessageValue) → sending_refusal s.station m ≡ None → gives_number s.station m ≡ false →
      (layers_machine by_bytes).sends s m ≡ Ok (again_after m)
  sends_old m allowed old = rw (allowed, old) refl

  -- a new packet with a message of the links that they may send
  abbrev pub first_after : MessageValue → Carried → links_sending.Sent TrueSegments Numbers → Layers × LayersTruth
  first_after m packet made = first_sent s (sent_by own m) made.links (Some (record { packet = packet; truth = made.truth }))

  pub sends_new : (m : MessageValue) (packet : Carried) (made : links_sending.Sent TrueSegments Numbers) → sending_refusal s.station m ≡ None →
      gives_number s.station m ≡ true → content (body_of m) ≡ Ok (Some packet) → links_sent Without s.links packet ≡ Ok made →
      (layers_machine by_bytes).sends s m ≡ Ok (first_after m packet made)
  sends_new m packet made allowed new read sent = rw (allowed, new, read, sent) refl

-- ---- the station's messages are of bytes

-- each packet of the period is of bytes, and no longer than a unit may carry
abbrev pub PacketsFit : Station → Type 0
PacketsFit s = AllByRecursion PacketFits s.packets

abbrev pub IsHeld : HeldPacket (Unit {0}) → Type 0
IsHeld packet = PacketFits packet.body

pub packets_held : (s : Station) → PacketsFit s → AllByRecursion IsHeld (cut (unlabelled s.packets) s).variables.held
packets_held s all = left_all IsHeld s.acknowledged (unlabelled s.packets) (go s.packets all)
  where
    go : (packets : List (List ℕ)) → AllByRecursion PacketFits packets → AllByRecursion IsHeld (unlabelled packets)
    go [] h = tt
    go (body ∷ packets) h = (h.0, go packets h.1)

-- what a node keeps of a station
module _ (k : StationVariables (Unit {0})) (received : k.received < 256) where
  pub data_of_bytes : (body : List ℕ) → PacketFits body → IsOfBytes (data_with k body)
  data_of_bytes body f = record { in_range = (f.some, f.most); resp = received; num = omega arith; body = f.bytes }

  -- each message that is put together
  pub put_of_bytes : AllByRecursion IsHeld k.held → (c : Choice) (head : Head) (links : List LinkEnd) (m : MessageValue) →
      ((one : LinkChoice) → c ≡ SendNew one → IfSome (link_message one links) NspFits) → message_of c head k links ≡ Some m → IsOfBytes m
  put_of_bytes all c head links m new e = go c m new (put_is k head links m c e)
    where
      go : (c : Choice) (m : MessageValue) → ((one : LinkChoice) → c ≡ SendNew one → IfSome (link_message one links) NspFits) →
          IsPut k head links c m → IsOfBytes m
      go c m new (PutAgain packet at) = data_of_bytes packet.body (there IsHeld k.held k.ahead packet all at)
      go c m new (PutNew one message put) =
          data_of_bytes (packet_with head message) (packet_fits head message (subst (λ (o : Option NspValue). IfSome o NspFits) put (new one refl)))
      go c m new put = record { in_range = tt; resp = omega arith; num = omega arith; body = refl }
