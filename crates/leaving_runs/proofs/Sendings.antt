-- What is left of a unit that is sent.
use Rattle.leaving_runs.proofs.Prelude.{◌≡◌, ℕ, Bool, true, false, cond, Option, Some, None, Result, Ok, Err, List, [], ◌∷◌, refl, sym, ap, ap₂}
use Rattle.leaving_runs.proofs.Prelude.{◌∙◌, option_map, slice_get, map-append, slice_get-map, Half, Outcome, answered, advance, Made, IsBytes}
use Rattle.leaving_runs.proofs.Prelude.{MessageValue, Data, ReadingValue, reading, Sent, StationRefusal, StepRefusal, LinkRefusal, change_of}
use Rattle.leaving_runs.proofs.Prelude.{Station, Truth, body_of, sending_refusal, after_sending, gives_number, truth_of, sent_step, step}
use Rattle.leaving_runs.proofs.Prelude.{unless_refused, Queues, Carried, TrueSegments, Numbers, Links, links_sent, SentMessage, judged_by, content}
use Rattle.leaving_runs.proofs.Prelude.{Layers, LayersTruth, LayersNode, LayersUnit, first_sent, with_message, sends_first, sends_again, sends_on}
use Rattle.leaving_runs.proofs.Prelude.{of_place, carried_again, layers_machine, side_of, sent_by, sent_with, LinkRecord, OfNoLink, Sends}
use Rattle.leaving_runs.proofs.Prelude.{links_then, message_out, kept_out, source_of, destination_of, Judged, links_left, other_out, other_judged}
use Rattle.leaving_runs.proofs.Prelude.{message_left, SideRight, packet_right, unseen, sends_none, sends_left, made_of_left, sent_right, with_body}
use Rattle.leaving_runs.proofs.Prelude.{bytes_left, station_left, Leaves, other_leaves, half_left, layers_left, node_left, unit_left, PacketsFit}
use Rattle.leaving_runs.proofs.Prelude.{of_content, of_first, of_sent}
use Rattle.ddcmp_msg.specs.Reading as read_as
use Rattle.dna_station.specs.Machine.{sends}
use Rattle.dna_links.specs.Sending as links_sending
use Rattle.dna_leaving.specs.Left.{truth_left as link_truth_left}
use Rattle.leaving_runs.proofs.Stations.{sending_left, after_left, truth_left, gives_left}
use Rattle.leaving_runs.proofs.Bytes.{body_bytes, still_read}
use Rattle.leaving_runs.proofs.Users.{sent_from}
use Rattle.leaving_runs.proofs.Along.{AreMarked, both_right, Along, along_at, nothing_right, made_left}

-- only a data message gives a number
body_is : (packet : List ℕ → List ℕ) (s : Station) (m : MessageValue) → gives_number s m ≡ true → body_of (with_body packet m) ≡ packet (body_of m)
body_is packet s (Data flags resp num body) new = refl
body_is packet s m new = absurd cc

module _ (queues : Queues) (leaves : Leaves) (judged : Judged) (own other : Half LayersNode LayersUnit)
    (mine : SideRight leaves.out judged (side_of own 0) (side_of other 0))
    (theirs : SideRight (other_out leaves.out) (other_judged judged) (side_of other 0) (side_of own 0)) where
  abbrev s : Layers
  s = own.state.station

  abbrev t : Layers
  t = layers_left leaves judged s

  abbrev own_left : Half LayersNode LayersUnit
  own_left = half_left leaves judged own

  abbrev other_left : Half LayersNode LayersUnit
  other_left = half_left (other_leaves leaves) (other_judged judged) other

  abbrev mapped : Option SentMessage → Option SentMessage
  mapped carried = message_left leaves.out judged carried

  abbrev packet_left : List ℕ → List ℕ
  packet_left body = leaves.packets.own body

  again_same : (m : MessageValue) (u : Truth) → carried_again t u (change_of (with_body leaves.packets.own m)) ≡ mapped
      (carried_again s u (change_of m))
  again_same (Data flags resp num body) u = ap of_place (slice_get-map mapped s.messages u.place) ∙ at (slice_get s.messages u.place)
    where
      at : (o : Option (Option SentMessage)) → of_place (option_map mapped o) ≡ mapped (of_place o)
      at None = refl
      at (Some carried) = refl
  again_same m u = refl

  module _ (fits : PacketsFit leaves.out s.links.node s.links.peer leaves.packets.own) (bytes : List ℕ) (is_bytes : IsBytes bytes)
      (h : Half LayersNode LayersUnit) where
    abbrev Goes : LinkRecord Numbers → Half LayersNode LayersUnit → Type 0
    Goes one g = Along queues leaves judged own other mine theirs (Sent bytes) one g

    module _ (m : MessageValue) (read : reading bytes ≡ read_as.Sound m) (allowed : sending_refusal s.station m ≡ None) where
      abbrev n : MessageValue
      n = with_body leaves.packets.own m

      abbrev left_after : Station × Truth
      left_after = (station_left leaves.packets (after_sending s.station m), truth_of s.station m)

      abbrev comes_to : Result (Layers × LayersTruth) StepRefusal → Outcome LayersNode LayersUnit StepRefusal
      comes_to o = answered own_left other_left (sends own_left.state (bytes_left leaves.packets.own bytes) n o)

      abbrev by_number_left : Bool → Result (Layers × LayersTruth) StepRefusal
      by_number_left b = cond b (sends_first (judged_by queues) t left_after (content (body_of n))) (Ok (sends_again t n left_after))

      sent_as : advance (step (layers_machine (judged_by queues))) own_left other_left (Sent (bytes_left leaves.packets.own bytes))
          ≡ comes_to (by_number_left (gives_number s.station m))
      sent_as =
          ap (λ (r : ReadingValue). answered own_left other_left
          (sent_step (layers_machine (judged_by queues)) own_left.state (bytes_left leaves.packets.own bytes) r))
          (still_read leaves.packets.own bytes m read (fits.in_range bytes m is_bytes read))
          ∙ ap (λ (o : Option StationRefusal). comes_to (sends_on (judged_by queues) t n
          (unless_refused o (after_sending t.station n, truth_of t.station n)))) (sending_left leaves.packets s.station m allowed)
          ∙ ap₂ (λ (station : Station) (u : Truth). comes_to (sends_on (judged_by queues) t n (Ok (station, u))))
          (after_left leaves.packets s.station m) (truth_left leaves.packets s.station m)
          ∙ ap (λ (b : Bool). comes_to (by_number_left b)) (gives_left leaves.packets s.station m)

      abbrev known_left : LayersTruth → LayersTruth
      known_left known = record { station = known.station; carried = mapped known.carried }

      pushed_left : (after : Layers × LayersTruth) →
          comes_to (Ok (layers_left leaves judged after.0, known_left after.1)) ≡ Made (half_left leaves judged (sent_with own bytes m after))
      pushed_left after =
          ap (λ (units : List LayersUnit). Made (record { state = node_left leaves judged (record own.state { station = after.0 }); sent = units }))
          (sym (map-append (unit_left leaves judged) own.sent (record { bytes = bytes; message = m; known = after.1 } ∷ [])))

      first_left : (links : Links) (carried : Option SentMessage) →
          comes_to (Ok (first_sent t left_after (links_left judged links) (mapped carried)))
          ≡ Made (half_left leaves judged (sent_with own bytes m (first_sent s (sent_by own m) links carried)))
      first_left links carried =
          ap first (sym (map-append mapped s.messages (carried ∷ []))) ∙ pushed_left (first_sent s (sent_by own m) links carried)
        where
          first : List (Option SentMessage) → Outcome LayersNode LayersUnit StepRefusal
          first messages = comes_to (Ok (
            record { station = left_after.0; links = links_left judged links; messages = messages },
            record { station = left_after.1; carried = mapped carried },
          ))

      -- ---- a packet is sent again

      by_again : gives_number s.station m ≡ false →
          ◌≡◌ {A = Outcome LayersNode LayersUnit StepRefusal} (Made (sent_with own bytes m (sends_again s m (sent_by own m)))) (Made h) →
          Goes OfNoLink h
      by_again old is = along_at queues leaves judged own other mine theirs (Sent bytes) OfNoLink g h is (record {
        made_is = refl;
        right = nothing_right queues leaves judged own other mine theirs;
        sides = λ marks. record {
          here = record { fit = mine.fit; known = mine.known; sent = mine.sent };
          there = record { fit = theirs.fit; known = theirs.known; sent = theirs.sent };
        };
        left = λ marks. sent_as ∙ ap (λ (b : Bool). comes_to (by_number_left b)) old
            ∙ ap (λ (carried : Option SentMessage). comes_to (Ok
            (record t { station = left_after.0 }, record { station = left_after.1; carried = carried })))
            (again_same m (truth_of s.station m)) ∙ pushed_left (sends_again s m (sent_by own m));
      })
        where
          g : Half LayersNode LayersUnit
          g = sent_with own bytes m (sends_again s m (sent_by own m))

      -- ---- a packet is first sent

      module _ (new : gives_number s.station m ≡ true) where
        -- by what is read of what is left of it
        pub first_by : (o : Result (Option Carried) StepRefusal) → content (packet_left (body_of m)) ≡ o →
            advance (step (layers_machine (judged_by queues))) own_left other_left (Sent (bytes_left leaves.packets.own bytes))
            ≡ comes_to (sends_first (judged_by queues) t left_after o)
        first_by o e =
            sent_as ∙ ap (λ (b : Bool). comes_to (by_number_left b)) new
            ∙ ap (λ (x : Result (Option Carried) StepRefusal). comes_to (sends_first (judged_by queues) t left_after x))
            (ap content (body_is leaves.packets.own s.station m new) ∙ e)

        fits_bytes : IsBytes (body_of m)
        fits_bytes = body_bytes bytes m is_bytes read

        by_none : content (body_of m) ≡ Ok None →
            ◌≡◌ {A = Outcome LayersNode LayersUnit StepRefusal} (Made (sent_with own bytes m (first_sent s (sent_by own m) s.links None))) (Made h) →
            Goes OfNoLink h
        by_none none is = along_at queues leaves judged own other mine theirs (Sent bytes) OfNoLink g h is (record {
          made_is = refl;
          right = nothing_right queues leaves judged own other mine theirs;
          sides = λ marks. let next = sends_none queues leaves.out judged (side_of own 0) (side_of other 0) mine theirs in
              both_right queues leaves judged own other mine theirs g 0 next.here next.there;
          left = λ marks. first_by (Ok None) (fits.none (body_of m) fits_bytes none) ∙ first_left s.links None;
        })
          where
            g : Half LayersNode LayersUnit
            g = sent_with own bytes m (first_sent s (sent_by own m) s.links None)

        by_message : (packet : Carried) → content (body_of m) ≡ Ok (Some packet) →
            (o : Result (links_sending.Sent TrueSegments Numbers) LinkRefusal) → links_sent queues s.links packet ≡ o →
            answered own other (sends own.state bytes m (with_message s (sent_by own m) packet o)) ≡ Made h → Goes (Sends packet) h
        by_message packet held (Ok made) done is = along_at queues leaves judged own other mine theirs (Sent bytes) (Sends packet) g h is (record {
          made_is = ap links_then done;
          right = packet_right queues leaves.out judged (side_of own 0) (side_of other 0) mine theirs packet;
          sides = λ marks. let next = sends_left queues leaves.out judged (side_of own 0) (side_of other 0) mine theirs packet made done marks in
              both_right queues leaves judged own other mine theirs g 0 next.here next.there;
          left = λ marks. at marks (message_out leaves.out packet.message) refl
              (kept_out (other_out leaves.out) (source_of packet.message) (destination_of packet.message)) refl;
        })
          where
            unit : SentMessage
            unit = record { packet = packet; truth = made.truth }

            g : Half LayersNode LayersUnit
            g = sent_with own bytes m (first_sent s (sent_by own m) made.links (Some unit))

            at : AreMarked queues leaves judged own other mine theirs (Sends packet) g → (b : Bool) → message_out leaves.out packet.message ≡ b →
                (c : Bool) → kept_out (other_out leaves.out) (source_of packet.message) (destination_of packet.message) ≡ c →
                made_left queues leaves judged own other mine theirs (Sent bytes) g
            at marks true is true there =
                first_by (Ok None) (fits.goes (body_of m) packet fits_bytes held is there)
                ∙ ap₂ (λ (links : Links) (carried : Option SentMessage). comes_to (Ok (first_sent t left_after links carried)))
                (unseen queues leaves.out judged (side_of own 0) (side_of other 0) mine theirs (Sends packet)
                (packet_right queues leaves.out judged (side_of own 0) (side_of other 0) mine theirs packet) made.links (ap links_then done)
                marks is)
                (ap (λ (b : Bool). cond b None (Some (record unit { truth = link_truth_left judged.here judged.there unit.truth }))) (sym is))
                ∙ first_left made.links (Some unit)
            at marks true is false there =
                let stays = (sent_right queues leaves.out judged (side_of own 0) (side_of other 0) mine theirs packet made done marks).stays there in
                absurd cc
            at marks false is c there =
                let nodes = sent_from queues s.links packet made done in
                first_by (Ok (Some packet)) (fits.stays (body_of m) packet fits_bytes held nodes.0 nodes.1 is)
                ∙ ap (λ (o : Result (links_sending.Sent TrueSegments Numbers) LinkRefusal). comes_to (with_message t left_after packet o))
                (made_of_left queues leaves.out judged (side_of own 0) (side_of other 0) mine theirs packet made done marks is)
                ∙ ap (λ (carried : Option SentMessage). comes_to (Ok (first_sent t left_after (links_left judged made.links) carried)))
                (ap (λ (b : Bool). cond b None (Some (record unit { truth = link_truth_left judged.here judged.there unit.truth }))) (sym is))
                ∙ first_left made.links (Some unit)
        by_message packet held (Err refusal) done is = absurd cc

        by_content : (o : Result (Option Carried) StepRefusal) → content (body_of m) ≡ o →
            answered own other (sends own.state bytes m (sends_first (judged_by queues) s (sent_by own m) o)) ≡ Made h → Goes (of_content o) h
        by_content (Ok (Some packet)) held is = by_message packet held _ refl is
        by_content (Ok None) held is = by_none held is
        by_content (Err refusal) held is = absurd cc

      by_number : (b : Bool) → gives_number s.station m ≡ b →
          answered own other (sends own.state bytes m
          (cond b (sends_first (judged_by queues) s (sent_by own m) (content (body_of m))) (Ok (sends_again s m (sent_by own m))))) ≡ Made h →
          Goes (of_first b m) h
      by_number true new is = by_content new (content (body_of m)) refl is
      by_number false old is = by_again old is

    by_refusal : (m : MessageValue) → reading bytes ≡ read_as.Sound m → (o : Option StationRefusal) → sending_refusal s.station m ≡ o →
        answered own other (sends own.state bytes m (sends_on (judged_by queues) s m (unless_refused o (sent_by own m)))) ≡ Made h →
        Goes (of_first (gives_number s.station m) m) h
    by_refusal m read None allowed is = by_number m read allowed (gives_number s.station m) refl is
    by_refusal m read (Some refusal) allowed is = absurd cc

    by_reading : (r : ReadingValue) → reading bytes ≡ r →
        answered own other (sent_step (layers_machine (judged_by queues)) own.state bytes r) ≡ Made h → Goes (of_sent s.station r) h
    by_reading (read_as.Sound m) read made = by_refusal m read _ refl made
    by_reading r read made = absurd cc

    pub sent_along : advance (step (layers_machine (judged_by queues))) own other (Sent bytes) ≡ Made h → Goes (of_sent s.station (reading bytes)) h
    sent_along made = by_reading (reading bytes) refl made
