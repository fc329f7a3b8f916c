-- A judged record that the links refuse is refused for the same reason after what is left.
use Rattle.leaving_runs.proofs.Prelude.{◌≡◌, ℕ, Bool, true, false, not, ◌&&◌, cond, Option, Some, None, Result, Ok, Err, List, [], refl, ap, ◌∙◌}
use Rattle.leaving_runs.proofs.Prelude.{Half, Outcome, answered, advance, Refused, IsBytes, MessageValue, ReadingValue, reading, IsRecord, Event}
use Rattle.leaving_runs.proofs.Prelude.{Record, Sent, User, PacketFault, NspFault, PacketValue, NspValue, packet_at, nsp_at, Start, Halt}
use Rattle.leaving_runs.proofs.Prelude.{StationRefusal, StepRefusal, LinkRefusal, user_refusal, Station, after_event, body_of, sending_refusal}
use Rattle.leaving_runs.proofs.Prelude.{after_sending, truth_of, gives_number, does, user_step, sent_step, step, unless_refused, Queues, Carried}
use Rattle.leaving_runs.proofs.Prelude.{LinkEventValue, Open, Accept, Reject, In, Up, Close, Boot, Abort, TrueSegments, Numbers, Links, links_user}
use Rattle.leaving_runs.proofs.Prelude.{links_sent, judged_by, content, content_of, message_in, is_returned, link_event, Layers, LayersNode}
use Rattle.leaving_runs.proofs.Prelude.{LayersUnit, with_station, with_links, with_composed, composes, with_message, sends_first, sends_again}
use Rattle.leaving_runs.proofs.Prelude.{sends_on, layers_machine, side_of, sent_by, OfUser, Sends, links_then, event_out, sent_out, source_of}
use Rattle.leaving_runs.proofs.Prelude.{destination_of, is_judged_there, message_out, Judged, EventBinds, other_out, other_judged, SideRight}
use Rattle.leaving_runs.proofs.Prelude.{refused_next, with_body, station_left, bytes_left, Leaves, other_leaves, half_left, layers_left}
use Rattle.leaving_runs.proofs.Prelude.{record_left, PacketsFit, EventFits, of_content, of_event, of_first, of_sent, IsJudged}
use Rattle.ddcmp_msg.specs.Reading as read_as
use Rattle.capture_record.specs.declared.event.Event.TheVariants as events
use Rattle.dna_packet.specs.Packet as packets
use Rattle.dna_station.specs.declared.refusal.StepRefusal.TheVariants.{Links as OfLinks}
use Rattle.dna_station.specs.Machine.{sends}
use Rattle.dna_links.specs.Sending as links_sending
use Rattle.dna_links.specs.User as user
use Rattle.leaving_runs.proofs.Bytes.{body_bytes}
use Rattle.leaving_runs.proofs.Users.{goes_by}
use Rattle.leaving_runs.proofs.Sendings.{first_by}

-- what cannot be read is refused by no link
read_apart : (body : List ℕ) (refusal : StepRefusal) (z : LinkRefusal) → content body ≡ Err refusal → refusal ≡ OfLinks z → {X : Type 0} → X
read_apart body refusal z e is {X} = by_packet (packet_at body) e
  where
    by_message : (dst src : ℕ) (r : Result NspValue NspFault) → message_in dst src r ≡ Err refusal → X
    by_message dst src (Ok m) e = absurd cc
    by_message dst src (Err fault) e = absurd cc

    by_returned : (b : Bool) (dst src : ℕ) (nsp : List ℕ) → cond b (Ok None) (message_in dst src (nsp_at nsp)) ≡ Err refusal → X
    by_returned true dst src nsp e = absurd cc
    by_returned false dst src nsp e = by_message dst src (nsp_at nsp) e

    by_packet : (r : Result PacketValue PacketFault) → content_of r ≡ Err refusal → X
    by_packet (Ok (packets.Data rtflg dst src forward nsp)) e = by_returned (is_returned rtflg) dst src nsp e
    by_packet (Ok (packets.Control bytes)) e = absurd cc
    by_packet (Err fault) e = absurd cc

same_refusal : (x y : StepRefusal) → ◌≡◌ {A = Outcome LayersNode LayersUnit StepRefusal} (Refused x) (Refused y) → x ≡ y
same_refusal x y e = cc

-- what links refuse of a message that is sent
refused_sending : (o : Result (links_sending.Sent TrueSegments Numbers) LinkRefusal) (x : LinkRefusal) → links_then o ≡ Err x → o ≡ Err x
refused_sending (Ok made) x e = absurd cc
refused_sending (Err y) x e = cc

plainly : (a b : Bool) → a ≡ false → (a && b) ≡ false
plainly false b e = refl
plainly true b e = absurd cc

module _ (queues : Queues) (leaves : Leaves) (judged : Judged) (own other : Half LayersNode LayersUnit)
    (mine : SideRight leaves.out judged (side_of own 0) (side_of other 0))
    (theirs : SideRight (other_out leaves.out) (other_judged judged) (side_of other 0) (side_of own 0))
    (fits : PacketsFit leaves.out own.state.station.links.node own.state.station.links.peer leaves.packets.own) (z : LinkRefusal) where
  abbrev s : Layers
  s = own.state.station

  abbrev t : Layers
  t = layers_left leaves judged s

  abbrev own_left : Half LayersNode LayersUnit
  own_left = half_left leaves judged own

  abbrev other_left : Half LayersNode LayersUnit
  other_left = half_left (other_leaves leaves) (other_judged judged) other

  abbrev refused : Outcome LayersNode LayersUnit StepRefusal
  refused = Refused (OfLinks z)

  abbrev advances : Record → Outcome LayersNode LayersUnit StepRefusal
  advances r = advance (step (layers_machine (judged_by queues))) own_left other_left (record_left leaves r)

  abbrev comes_to : Result Layers StepRefusal → Outcome LayersNode LayersUnit StepRefusal
  comes_to o = answered own_left other_left (does own_left.state o)

  -- ---- what the user does

  by_links : (r : Record) (e : LinkEventValue) → user.IsInRange e × EventBinds leaves.out e → event_out leaves.out e ≡ false → (station : Station) →
      (event_out leaves.out e ≡ false → advances r
      ≡ comes_to (with_links (record t { station = station_left leaves.packets station }) (links_user queues t.links e))) →
      (o : Result Links LinkRefusal) → links_user queues s.links e ≡ o →
      answered own other (does own.state (with_links (record s { station = station }) o)) ≡ refused → advances r ≡ refused
  by_links r e right is station if_judged (Ok links) done made = absurd cc
  by_links r e right is station if_judged (Err x) done made =
      if_judged is
      ∙ ap (λ (o : Result Links LinkRefusal). comes_to (with_links (record t { station = station_left leaves.packets station }) o))
      (refused_next queues leaves.out judged (side_of own 0) (side_of other 0) mine theirs (OfUser e) right is x done)
      ∙ made

  by_start : (o : Option StationRefusal) → answered own other (does own.state (with_station s (unless_refused o (after_event s.station Start))))
      ≡ refused → {X : Type 0} → X
  by_start None made = absurd cc
  by_start (Some refusal) made = absurd cc

  -- a message that is judged by its own address
  stays_there : (packet : Carried) → sent_out leaves.out (source_of packet.message) (destination_of packet.message) ≡ false →
      message_out leaves.out packet.message ≡ false
  stays_there packet is =
      plainly (sent_out leaves.out (source_of packet.message) (destination_of packet.message)) (not (is_judged_there leaves.out packet.message)) is

  -- its links refuse it alike
  sending_refused : (packet : Carried) (x : LinkRefusal) → sent_out leaves.out (source_of packet.message) (destination_of packet.message) ≡ false →
      links_sent queues s.links packet ≡ Err x → links_sent queues t.links packet ≡ Err x
  sending_refused packet x is done =
      refused_sending (links_sent queues t.links packet) x
      (refused_next queues leaves.out judged (side_of own 0) (side_of other 0) mine theirs (Sends packet) tt (stays_there packet is) x
      (ap links_then done))

  module _ (body : List ℕ) (record_fits : IsRecord (User (events.Composed body))) where
    by_composed : (packet : Carried) → content body ≡ Ok (Some packet) → IsJudged leaves.out (Sends packet) →
        (o : Result (links_sending.Sent TrueSegments Numbers) LinkRefusal) → links_sent queues s.links packet ≡ o →
        answered own other (does own.state (with_composed s o)) ≡ refused → advances (User (events.Composed body)) ≡ refused
    by_composed packet held is (Ok sent) done made = absurd cc
    by_composed packet held is (Err x) done made =
        goes_by queues leaves judged own other mine theirs fits body own record_fits (Ok (Some packet))
        (fits.same body packet record_fits.spelling.bytes held is)
        ∙ ap (λ (o : Result (links_sending.Sent TrueSegments Numbers) LinkRefusal). comes_to (with_composed t o)) (sending_refused packet x is done)
        ∙ made

    by_content : (o : Result (Option Carried) StepRefusal) → content body ≡ o → IsJudged leaves.out (of_content o) →
        answered own other (does own.state (composes (judged_by queues) s o)) ≡ refused → advances (User (events.Composed body)) ≡ refused
    by_content (Ok (Some packet)) held is made = by_composed packet held is _ refl made
    by_content (Ok None) held is made = absurd cc
    by_content (Err refusal) held is made = read_apart body refusal z held (same_refusal refusal (OfLinks z) made)

  abbrev if_left : (link : ℕ) → Event → Bool → Outcome LayersNode LayersUnit StepRefusal
  if_left link event b = answered own_left other_left
      (user_step (layers_machine (judged_by queues)) own_left.state (cond b (events.Interrupt link []) event))

  pub event_refused : (event : Event) → IsRecord (User event) → EventFits leaves.out (link_event event) → IsJudged leaves.out (of_event event) →
      answered own other (user_step (layers_machine (judged_by queues)) own.state event) ≡ refused → advances (User event) ≡ refused
  event_refused events.Start is binds here made = by_start (user_refusal s.station.state Start) made
  event_refused events.Halt is binds here made = absurd cc
  event_refused events.Boot is binds here made =
      by_links (User events.Boot) Boot (tt, tt) refl (after_event s.station Halt) (λ out. refl) _ refl made
  event_refused (events.Open link) is binds here made =
      by_links (User (events.Open link)) (Open link) (is.spelling.numbers.least, binds) here s.station (ap (if_left link (events.Open link))) _
      refl made
  event_refused (events.Accept partner link) is binds here made =
      by_links (User (events.Accept partner link)) (Accept partner link) ((is.spelling.numbers.0.least, is.spelling.numbers.1.least), binds) here
      s.station (ap (if_left link (events.Accept partner link))) _ refl made
  event_refused (events.Reject partner link) is binds here made =
      by_links (User (events.Reject partner link)) (Reject partner link) ((is.spelling.numbers.0.least, is.spelling.numbers.1.least), binds) here
      s.station (ap (if_left link (events.Reject partner link))) _ refl made
  event_refused (events.In link message) is binds here made =
      by_links (User (events.In link message)) (In link message) ((is.spelling.numbers.least, is.short), binds) here s.station
      (ap (if_left link (events.In link message))) _ refl made
  event_refused (events.Up link message) is binds here made =
      by_links (User (events.Up link message)) (Up link message) ((is.spelling.numbers.least, is.short), binds) here s.station
      (ap (if_left link (events.Up link message))) _ refl made
  event_refused (events.Close link) is binds here made =
      by_links (User (events.Close link)) (Close link) (is.spelling.numbers.least, binds) here s.station (ap (if_left link (events.Close link)))
      _ refl
      made
  event_refused (events.Abort link) is binds here made =
      by_links (User (events.Abort link)) (Abort link) (is.spelling.numbers.least, binds) here s.station (ap (if_left link (events.Abort link)))
      _ refl
      made
  event_refused (events.Composed body) is binds here made = by_content body is (content body) refl here made
  event_refused (events.Interrupt link bytes) is binds here made = absurd cc
  event_refused (events.Interrupted link bytes) is binds here made = absurd cc

  -- ---- a unit that is sent

  module _ (bytes : List ℕ) (is_bytes : IsBytes bytes) where
    module _ (m : MessageValue) (read_is : reading bytes ≡ read_as.Sound m) (allowed : sending_refusal s.station m ≡ None)
        (new : gives_number s.station m ≡ true) where
      first_message : (packet : Carried) → content (body_of m) ≡ Ok (Some packet) → IsJudged leaves.out (Sends packet) →
          (o : Result (links_sending.Sent TrueSegments Numbers) LinkRefusal) → links_sent queues s.links packet ≡ o →
          answered own other (sends own.state bytes m (with_message s (sent_by own m) packet o)) ≡ refused → advances (Sent bytes) ≡ refused
      first_message packet held is (Ok sent) done made = absurd cc
      first_message packet held is (Err x) done made =
          first_by queues leaves judged own other mine theirs fits bytes is_bytes own m read_is allowed new (Ok (Some packet))
          (fits.same (body_of m) packet (body_bytes bytes m is_bytes read_is) held is)
          ∙ ap refuses (sending_refused packet x is done)
          ∙ made
        where
          refuses : Result (links_sending.Sent TrueSegments Numbers) LinkRefusal → Outcome LayersNode LayersUnit StepRefusal
          refuses o = answered own_left other_left (sends own_left.state (bytes_left leaves.packets.own bytes) (with_body leaves.packets.own m)
              (with_message t (station_left leaves.packets (after_sending s.station m), truth_of s.station m) packet o))

      first_content : (o : Result (Option Carried) StepRefusal) → content (body_of m) ≡ o → IsJudged leaves.out (of_content o) →
          answered own other (sends own.state bytes m (sends_first (judged_by queues) s (sent_by own m) o)) ≡ refused → advances (Sent bytes) ≡
          refused
      first_content (Ok (Some packet)) held is made = first_message packet held is _ refl made
      first_content (Ok None) held is made = absurd cc
      first_content (Err refusal) held is made = read_apart (body_of m) refusal z held (same_refusal refusal (OfLinks z) made)

    sent_number : (m : MessageValue) → reading bytes ≡ read_as.Sound m → sending_refusal s.station m ≡ None → (b : Bool) →
        gives_number s.station m ≡ b → IsJudged leaves.out (of_first b m) →
        answered own other (sends own.state bytes m
        (cond b (sends_first (judged_by queues) s (sent_by own m) (content (body_of m))) (Ok (sends_again s m (sent_by own m))))) ≡ refused →
        advances (Sent bytes) ≡ refused
    sent_number m read_is allowed true new is made = first_content m read_is allowed new (content (body_of m)) refl is made
    sent_number m read_is allowed false old is made = absurd cc

    sent_by_station : (m : MessageValue) → reading bytes ≡ read_as.Sound m → (o : Option StationRefusal) → sending_refusal s.station m ≡ o →
        IsJudged leaves.out (of_first (gives_number s.station m) m) →
        answered own other (sends own.state bytes m (sends_on (judged_by queues) s m (unless_refused o (sent_by own m)))) ≡ refused →
        advances (Sent bytes) ≡ refused
    sent_by_station m read_is None allowed is made = sent_number m read_is allowed (gives_number s.station m) refl is made
    sent_by_station m read_is (Some refusal) allowed is made = absurd cc

    pub sent_refused : (r : ReadingValue) → reading bytes ≡ r → IsJudged leaves.out (of_sent s.station r) →
        answered own other (sent_step (layers_machine (judged_by queues)) own.state bytes r) ≡ refused → advances (Sent bytes) ≡ refused
    sent_refused (read_as.Sound m) e is made = sent_by_station m e _ refl is made
    sent_refused r e is made = absurd cc
