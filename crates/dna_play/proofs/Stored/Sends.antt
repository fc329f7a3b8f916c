-- A unit that an end of the player sends: what it chooses its node makes.
use Rattle.dna_play.proofs.Prelude.{◌≡◌, Option, Some, None, List, [], ◌∷◌, ◌++◌, length, drop, refl, sym, ap, ◌∙◌, ℕ, ◌+◌, ◌<◌, ◌^◌, Bool, true}
use Rattle.dna_play.proofs.Prelude.{false, Ok, arith, length-drop, eq-eqb, MessageValue, Ack, Nak, Rep, Strt, Stack, spelling, Sent}
use Rattle.dna_play.proofs.Prelude.{StationVariables, HeldPacket, Without, Links, links_sent, SentMessage, LayersUnit, LayersTruth, Send}
use Rattle.dna_play.proofs.Prelude.{LinkChoice, link_choice, Choice, SendNew, choice, LinkEnd, SendStrt, SendStack, SendNak, SendRep, SendAgain}
use Rattle.dna_play.proofs.Prelude.{SendAck, message_of, no_flags, start_flags, address, packet_again, new_data, packet_with, data_with, makes}
use Rattle.dna_play.proofs.Prelude.{StoredLinks, after_sent, slice_get, eqb-false, NspValue, IsNsp, Head, State, Station, wire, sending_refusal}
use Rattle.dna_play.proofs.Prelude.{gives_number, AreLabelled, cut, wire_is_new, unlabelled, LinkOf, Carried, TrueSegments, SegmentDuty, all_length}
use Rattle.dna_play.proofs.Prelude.{sending_refusal_same, first_same, unlabelled_bodies, there_is}
use Rattle.dna_station.specs.StationBook as station_book
use Rattle.dna_play.specs.StoredPlay as keeping
use Rattle.dna_play.proofs.Played.Steps.{PlayHalf, Nothing, First}
use Rattle.dna_play.proofs.Ends.SendStage.{after_sending, stage_again, stage_first}
use Rattle.dna_play.proofs.{Stored.Right.IsRight, Stored.Right.never_full, Stored.Stations.station_sent, Links.Keeps.is_kept}
use Rattle.dna_play.proofs.{Links.Keeps.link_there, Links.Fits.duty_plain, Links.Pays.end_of, Links.Sent.asked_goes, Ends.Stage.Stage}
use Rattle.dna_play.proofs.{Ends.Stage.Known, Stored.Now.StoredNow, Stored.Now.facts_of}
use Rattle.dna_play.proofs.Ends.StationPays.{IsChosen, ByStrt, ByStack, ByNak, ByRep, ByAgain, ByNew, ByAck, chosen, chosen_may}
use Rattle.dna_play.proofs.Links.Choices.{IsAsked, OfDuty, OfConfirm, asked_of}
use Rattle.dna_play.proofs.Ends.UnitLines.{NspFits, confirm_fits, duty_fits, duty_is_nsp, packet_fits, composed_content}
use Rattle.dna_play.proofs.Ends.SendMakes.{sent_left, is_made, again_after, sends_old, first_after, sends_new, put_of_bytes, data_of_bytes}
use Rattle.dna_play.proofs.Ends.SendMakes.{packets_held}
use Rattle.dna_play.proofs.Ends.TrueEnd.{End, variables_of, station_of, links_of, stored, bytes_of}

-- ---- the bytes of the unit

one_behind : (units : List LayersUnit) (unit : LayersUnit) → drop (length units) (bytes_of (units ++ unit ∷ [])) ≡ unit.bytes ∷ []
one_behind [] unit = refl
one_behind (first ∷ units) unit = one_behind units unit

-- ---- the step

module _ (own other : End) (now : StoredNow own other) where
  known : Known own other
  known = (facts_of now).known

  abbrev station : Station
  station = station_of own.half

  abbrev s : Links
  s = links_of own.half

  abbrev k : StationVariables (Unit {0})
  k = variables_of own.half

  abbrev ends : List LinkEnd
  ends = own.links.links

  abbrev head : Head
  head = own.half.state.head

  abbrev asked : Option LinkChoice
  asked = link_choice own.links.confirms own.links.links

  labelled : AreLabelled (unlabelled {L = Unit {0}} station.packets) station
  labelled = unlabelled_bodies (Unit {0}) station.packets

  -- ---- a message of the links

  -- the addresses that a link knows are words
  address_small : (o : Option ℕ) → ((a : ℕ) → o ≡ Some a → a < 2 ^ 16) → address o < 2 ^ 16
  address_small None small = omega arith
  address_small (Some a) small = small a refl

  own_small : (i : ℕ) (l : LinkOf TrueSegments) → slice_get s.links i ≡ Some l → address l.port.own < 2 ^ 16
  own_small i l at = address_small l.port.own (λ a e.
      let less = known.addressed.highest i a (record { link = l; there = at; owns = e }) in let few = now.stage.few in omega arith)

  far_small : (i : ℕ) (l : LinkOf TrueSegments) → slice_get s.links i ≡ Some l → address l.port.far < 2 ^ 16
  far_small i l at = address_small l.port.far (λ a e.
      let o = known.addressed.far i l at a e in let less = known.others.highest o.number a o.owns in let few = now.theirs.few in omega arith)

  message_fits : (c : LinkChoice) (message : NspValue) → IsAsked s.links own.links c message → NspFits message × IsNsp message
  message_fits c message (OfDuty number place duty l o at due) =
      let there = link_there at in (
        duty_fits (end_of l o) (duty_plain l o SegmentDuty (is_kept at).fits.segments) duty,
        duty_is_nsp (end_of l o) (own_small number l there) (far_small number l there) (omega arith) duty,
      )
  message_fits c message (OfConfirm confirm first) =
      let small = (now.stage.links.confirms 0 confirm first).small in
      (confirm_fits confirm.dst confirm.src confirm.reason, (tt, ((small.dst, small.src), small.reason)))

  -- ---- what is chosen is there

  again_there : wire_is_new k ≡ false → (packet : HeldPacket (Unit {0})) × (slice_get k.held k.ahead ≡ Some packet)
  again_there old =
      let differs = eqb-false k.ahead (length k.held) old in
      let counted = length-drop station.acknowledged (unlabelled {L = Unit {0}} station.packets) in
      let all = all_length (unlabelled {L = Unit {0}} station.packets) station labelled in
      let below = known.bounded.ordered.below in let above = known.bounded.ordered.above in
      there_is k.held k.ahead (omega arith)

  -- this message is put together by a choice, and its unit is made; these links are left
  module _ (c : Choice) (m : MessageValue) (is : choice k own.owed asked ≡ Some c) (put : message_of c head k ends ≡ Some m) (links : Links)
      (messages : List (Option SentMessage)) (truth : LayersTruth) where
    abbrev half : PlayHalf
    half = sent_left own.half m
        (record own.half.state.station { station = station_book.after_sending station m; links = links; messages = messages }, truth)

    sent_right : makes own.half other.half (Sent (spelling m)) ≡ Some half → (kept : StoredLinks) → keeping.links_sent c own.links ≡ kept →
        Stage (after_sending c own half kept) → IsRight own other Send (keeping.sends (stored own))
    sent_right makes_it kept same stage = rw (is, put) (record {
      after = after_sending c own half kept;
      makes = First makes_it Nothing;
      same = rw (same, station_sent station own.owed known.bounded.ordered c m) refl;
      sent = one_behind own.half.sent (record { bytes = spelling m; message = m; known = truth });
      stage = stage;
      asks = (c, is);
      room = never_full own other Send refl;
    })

  allowed : (c : Choice) (m : MessageValue) → choice k own.owed asked ≡ Some c → message_of c head k ends ≡ Some m → sending_refusal station m ≡ None
  allowed c m is put =
      sending_refusal_same (unlabelled station.packets) station labelled known.bounded.ordered m
      ∙ chosen_may (cut (unlabelled station.packets) station) own.owed asked now.stage.pays head ends c m is put

  -- without a message of the links
  old_same : (c : Choice) → ((one : LinkChoice) → c ≡ SendNew one → ⊥) → keeping.links_sent c own.links ≡ own.links
  old_same (SendNew one) old = absurd (old one refl)
  old_same c old = refl

  old_right : (c : Choice) (m : MessageValue) → ((one : LinkChoice) → c ≡ SendNew one → ⊥) → choice k own.owed asked ≡ Some c →
      message_of c head k ends ≡ Some m → gives_number station m ≡ false → IsRight own other Send (keeping.sends (stored own))
  old_right c m old is put given =
      let b = put_of_bytes k (omega arith) (packets_held station now.stage.packets) c head ends m (λ one e. absurd (old one e)) put in
      let after = again_after own.half m in
      sent_right c m is put after.0.links after.0.messages after.1
      (is_made own.half other.half m b after (sends_old own.half m (allowed c m is put) given)) own.links (old_same c old)
      (stage_again own other now.stage known c m put b)

  -- of a number that was given, and of one that was not
  gives_as : (body : List ℕ) (b : Bool) → wire_is_new k ≡ b → gives_number station (data_with k body) ≡ b
  gives_as body b is = sym (first_same (unlabelled {L = Unit {0}} station.packets) station labelled known.bounded.ordered (data_with k body)) ∙ is

  -- what is chosen is put together, and the node makes its unit: without a new packet, or with one in which a message of the links goes
  chosen_right : (state : State) (c : Choice) → choice k own.owed asked ≡ Some c → IsChosen k own.owed asked state c →
      IsRight own other Send (keeping.sends (stored own))
  chosen_right state c is (ByStrt owed) = old_right SendStrt (Strt start_flags) (λ one e. cc) is refl refl
  chosen_right state c is (ByStack owed) = old_right SendStack (Stack start_flags) (λ one e. cc) is refl refl
  chosen_right state c is (ByNak reason owed) = old_right (SendNak reason) (Nak no_flags reason k.received) (λ one e. cc) is refl refl
  chosen_right state c is (ByRep owed) = old_right SendRep (Rep no_flags (wire (k.acknowledged + length k.held))) (λ one e. cc) is refl refl
  chosen_right state c is (ByAck owed) = old_right SendAck (Ack no_flags k.received) (λ one e. cc) is refl refl
  chosen_right state c is (ByAgain old) =
      let there = again_there old in
      old_right SendAgain (data_with k (there.0).body) (λ one e. cc) is (ap (packet_again k) there.1) (gives_as (there.0).body false old)
  chosen_right state c is (ByNew one new room one_is) =
      let x = asked_of s own.addresses own.links now.stage.links one one_is in
      let may = (asked_goes s own.addresses own.links now.stage.links (links_of other.half).links known.addressed known.numbers one x.message
      x.is).0 in
      let f = message_fits one x.message x.is in
      let m = data_with k (packet_with head x.message) in
      let put : message_of (SendNew one) head k ends ≡ Some m = ap (new_data k head) x.put in
      let b = data_of_bytes k (omega arith) (packet_with head x.message) (packet_fits head x.message f.0) in
      let packet : Carried = record { dst = head.peer; src = head.own; message = x.message } in
      let goes : links_sent Without s packet ≡ Ok may.0 = rw (eq-eqb _ _ (sym known.node), eq-eqb _ _ (sym known.peer)) may.1 in
      let after = first_after own.half m packet may.0 in
      sent_right (SendNew one) m is put after.0.links after.0.messages after.1 (is_made own.half other.half m b after
      (sends_new own.half m packet may.0 (allowed (SendNew one) m is put) (gives_as (packet_with head x.message) true new)
      (composed_content head x.message known.head_own known.head_peer f.1) goes)) (after_sent one own.links) refl
      (stage_first own other now.stage known one packet x.is may.0 goes m put b)

  -- what is chosen is sent; else there is nothing to send
  pub send_right : IsRight own other Send (keeping.sends (stored own))
  send_right = go (choice k own.owed asked) refl
    where
      go : (o : Option Choice) → choice k own.owed asked ≡ o → IsRight own other Send (keeping.sends (stored own))
      go None none = rw none (λ asks. let e = sym none ∙ asks.1 in cc)
      go (Some c) is = chosen_right k.state c is (chosen k own.owed asked c k.state is)
