-- The packets of a period with the tags of their messages: what a sending makes of them is what it makes of labels.
use Rattle.std.proofs.Common.{◌≡◌, ℕ, zero, suc, ◌+◌, ◌-◌, ◌<◌, Bool, true, false, Option, Some, None, List, [], ◌∷◌, ◌++◌, map, length, drop, refl}
use Rattle.std.proofs.Common.{sym, ap, ◌∙◌, arith, length-append, length-drop, eqb-true}
use Rattle.std.specs.Prelude.{slice_get, slice_set, option_and_then}
use Rattle.std.proofs.lemmas.Bool.{eqb-false}
use Rattle.std.proofs.lemmas.List.{length_push, drop-append-le}
use Rattle.two_nodes.proofs.Listed.{next_at}
use Rattle.ddcmp_msg.specs.Message.{MessageValue, Data}
use Rattle.dna_links.specs.declared.tag.LinkTag.{LinkTag}
use Rattle.dna_station.specs.Table.{SendPacket, change_of}
use Rattle.dna_station.specs.Station.{Station, packets_of, all_given}
use Rattle.dna_station.specs.StationBook.{is_new, with_packet, after_sending, gives_number, truth_of}
use Rattle.dna_station.specs.Bounds.{IsOrdered}
use Rattle.dna_station.specs.WireStation.{HeldPacket, with_new, with_label, labelled}
use Rattle.dna_station.specs.Cut.{AreLabelled, all_after, label_of_next}
use Rattle.dna_links.specs.Runs.{SentMessage}
use Rattle.dna_links.specs.TrueLinks.{Links}
use Rattle.dna_node.specs.Layers.{Layers, carried_again}
use Rattle.dna_node.specs.CutLayers.{tag_of_packet, with_tags, tagged_packets, tag_by}
use Rattle.dna_station.proofs.Cut.Sending.{body_at}
use Rattle.two_nodes.proofs.NumberedSteps.{slice_get-drop}
use Rattle.dna_node.proofs.Joined.{again_told}

abbrev pub tagged : List ℕ → Option SentMessage → HeldPacket LinkTag
tagged body carried = record { body = body; label = Some (tag_of_packet carried) }

-- ---- lists

tags_bodies : (packets : List (List ℕ)) (messages : List (Option SentMessage)) → map (body_at {L = LinkTag}) (with_tags packets messages) ≡ packets
tags_bodies [] messages = refl
tags_bodies (body ∷ packets) [] = ap (λ (l : List (List ℕ)). body ∷ l) (tags_bodies packets [])
tags_bodies (body ∷ packets) (carried ∷ messages) = ap (λ (l : List (List ℕ)). body ∷ l) (tags_bodies packets messages)

tags_push : (packets : List (List ℕ)) (messages : List (Option SentMessage)) (body : List ℕ) (carried : Option SentMessage) →
    length messages ≡ length packets →
    with_tags (packets ++ body ∷ []) (messages ++ carried ∷ []) ≡ with_tags packets messages ++ tagged body carried ∷ []
tags_push [] [] body carried same = refl
tags_push [] (m ∷ messages) body carried same = absurd (omega arith)
tags_push (p ∷ packets) [] body carried same = absurd (omega arith)
tags_push (p ∷ packets) (m ∷ messages) body carried same =
    ap (λ (l : List (HeldPacket LinkTag)). tagged p m ∷ l) (tags_push packets messages body carried (omega arith))

tag_at : (packets : List (List ℕ)) (messages : List (Option SentMessage)) (i : ℕ) (carried : Option SentMessage) →
    i < length packets → slice_get messages i ≡ Some carried →
    option_and_then (λ (packet : HeldPacket LinkTag). packet.label) (slice_get (with_tags packets messages) i) ≡ Some (tag_of_packet carried)
tag_at [] messages i carried within at = absurd (omega arith)
tag_at (p ∷ packets) [] i carried within at = absurd cc
tag_at (p ∷ packets) (m ∷ messages) zero carried within at = ap (λ (o : Option (Option SentMessage)). tag_or o) at
  where
    tag_or : Option (Option SentMessage) → Option LinkTag
    tag_or None = None
    tag_or (Some carried) = Some (tag_of_packet carried)
tag_at (p ∷ packets) (m ∷ messages) (suc i) carried within at = tag_at packets messages i carried (omega arith) at

last_set : {X : Type 0} (xs : List X) (x y : X) → slice_set (xs ++ x ∷ []) (length xs) y ≡ xs ++ y ∷ []
last_set [] x y = refl
last_set (z ∷ xs) x y = ap (λ l. z ∷ l) (last_set xs x y)

-- the newest packet gets its label
newest_labelled : (all : List (HeldPacket LinkTag)) (body : List ℕ) (tag : LinkTag) →
    with_label (all ++ record { body = body; label = None } ∷ []) tag ≡ all ++ record { body = body; label = Some tag } ∷ []
newest_labelled all body tag =
    let x : HeldPacket LinkTag = record { body = body; label = None } in
    let last : length (all ++ x ∷ []) - 1 ≡ length all = let l = length_push all x in omega arith in
    ap (λ (n : ℕ). labelled (all ++ x ∷ []) (slice_get (all ++ x ∷ []) n) tag) last
    ∙ ap (λ (o : Option (HeldPacket LinkTag)). labelled (all ++ x ∷ []) o tag) (next_at all [] x)
    ∙ ap (λ (n : ℕ). slice_set (all ++ x ∷ []) n (record { body = body; label = Some tag })) last
    ∙ last_set all x (record { body = body; label = Some tag })

-- ---- a node

module _ (s : Layers) where
  abbrev before : ℕ
  before = length (packets_of s.station.earlier)

  abbrev behind : List (Option SentMessage)
  behind = drop before s.messages

  pub layers_labelled : AreLabelled (tagged_packets s) s.station
  layers_labelled = tags_bodies s.station.packets behind

  module _ (counted : length s.messages ≡ length (all_given s.station)) where
    as_many : length behind ≡ length s.station.packets
    as_many = let d = length-drop before s.messages in let l = length-append (packets_of s.station.earlier) s.station.packets in omega arith

    -- a packet is first sent
    pub first_tagged_same : (m : MessageValue) (links : Links) (carried : Option SentMessage) → gives_number s.station m ≡ true →
        tagged_packets (record { station = after_sending s.station m; links = links; messages = s.messages ++ carried ∷ [] })
        ≡ with_label (all_after (tagged_packets s) s.station m) (tag_of_packet carried)
    first_tagged_same (Data flags resp num body) links carried new =
        let l = length-append (packets_of s.station.earlier) s.station.packets in
        ap (λ (b : Bool). with_tags (with_packet b s.station.packets body) (drop before (s.messages ++ carried ∷ []))) new
        ∙ ap (with_tags (s.station.packets ++ body ∷ [])) (drop-append-le before s.messages (carried ∷ []) (omega arith))
        ∙ tags_push s.station.packets behind body carried as_many
        ∙ sym (newest_labelled (tagged_packets s) body (tag_of_packet carried))
        ∙ sym (ap (λ (b : Bool). with_label (with_new b (tagged_packets s) body) (tag_of_packet carried)) new)
    first_tagged_same m links carried new = absurd cc

    -- any other message changes no packet
    pub again_tagged_same : (m : MessageValue) → gives_number s.station m ≡ false →
        tagged_packets (record s { station = after_sending s.station m }) ≡ all_after (tagged_packets s) s.station m
    again_tagged_same (Data flags resp num body) old =
        ap (λ (b : Bool). with_tags (with_packet b s.station.packets body) behind) old ∙
        sym (ap (λ (b : Bool). with_new b (tagged_packets s) body) old)
    again_tagged_same m old = refl

    -- a packet that is sent again has the tag of its place
    pub again_tag_same : (m : MessageValue) → IsOrdered s.station → gives_number s.station m ≡ false →
        label_of_next (tagged_packets s) s.station m ≡ tag_by (change_of m) (carried_again s (truth_of s.station m) (change_of m))
    again_tag_same (Data flags resp num body) o old =
        let differs = eqb-false s.station.next_to_send (length s.station.packets + 1) old in
        let a = o.above in let b = o.below in
        tag_at s.station.packets behind (s.station.next_to_send - 1) (carried_again s (truth_of s.station (Data flags resp num body)) SendPacket)
        (omega arith)
        (slice_get-drop before (s.station.next_to_send - 1) s.messages ∙ again_told s (Data flags resp num body) o counted old refl)
    again_tag_same m o old = refl

  -- so the newest number is outstanding
  pub newest_outstanding : (m : MessageValue) → IsOrdered s.station → gives_number s.station m ≡ true →
      (after_sending s.station m).acknowledged < length (after_sending s.station m).packets
  newest_outstanding (Data flags resp num body) o new =
      let a = o.above in let e = eqb-true s.station.next_to_send (length s.station.packets + 1) new in
      let more : length (with_packet (is_new s.station) s.station.packets body) ≡ length s.station.packets + 1 =
      ap (λ (b : Bool). length (with_packet b s.station.packets body)) new ∙ length_push s.station.packets body in
      omega arith
  newest_outstanding m o new = absurd cc

-- what gives a number carries a packet
pub gives_packet : (s : Station) (m : MessageValue) → gives_number s m ≡ true → change_of m ≡ SendPacket
gives_packet s (Data flags resp num body) new = refl
gives_packet s m new = absurd cc
