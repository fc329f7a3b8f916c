-- Cutting the links of a node to what it keeps of them commutes with what may be sent and with what sending changes, where what has to
-- hold of the links does.
use Rattle.std.proofs.Common.{◌≡◌, ℕ, Bool, true, false, ◌&&◌, eqb, cond, Option, Some, None, List, [], drop, take, Result, Ok, Err, refl, sym, ap}
use Rattle.std.proofs.Common.{◌∙◌}
use Rattle.std.specs.Prelude.{slice_get}
use Rattle.std.proofs.lemmas.Bool.{and_parts}
use Rattle.dna_packet.specs.declared.ack_word.AckWord.{AckWord}
use Rattle.dna_packet.specs.Nsp.{SegmentValue, NspValue, DataSegment, LinkService, DataAck, OtherDataAck, ConnectAck, NoOperation, ConnectInitiate}
use Rattle.dna_packet.specs.Nsp.{ConnectConfirm, DisconnectInitiate, DisconnectConfirm}
use Rattle.dna_station.specs.declared.link_refusal.LinkRefusal.{LinkRefusal}
use Rattle.dna_station.specs.declared.link_refusal.LinkRefusal.TheVariants.{WrongNode, NoLink, LinkState}
use Rattle.dna_links.specs.Queues.{ended}
use Rattle.dna_links.specs.declared.queue.Queues.TheVariants.{Without}
use Rattle.dna_links.specs.declared.port.Phase.{Phase}
use Rattle.dna_links.specs.declared.port.Phase.TheVariants.{Ended}
use Rattle.dna_links.specs.declared.port.LinkTest.{LinkTest}
use Rattle.dna_links.specs.declared.port.LinkTest.TheVariants.{TheLink, OpenedAt, CalledBy, BegunBy}
use Rattle.dna_links.specs.LookUps.{is_live, is_calling, is_called, is_confirming, is_running, is_disconnecting, is_at, has_both}
use Rattle.dna_links.specs.Segmentation.{Piece, in_whole_messages}
use Rattle.dna_links.specs.SegmentBook.{Sending}
use Rattle.dna_links.specs.Links.{LinkOf, LinksOf, Carried, check, with_link, changed, in_phase, with_segments}
use Rattle.dna_links.specs.Sending.{Sent, message_sent}
use Rattle.dna_links.specs.inner.Forms.{of_no_link, unchanged, ending, in_its_phase, confirms_end, carries, in_run, segment_of}
use Rattle.dna_links.specs.TrueSegments.{TrueSegments, Numbers, sends_acks, true_segments}
use Rattle.dna_links.specs.WireSegments.{WireSegments, with_pieces_alone, ends, wire_segments}
use Rattle.dna_links.specs.WireSegments as wire
use Rattle.dna_links.specs.TrueLinks.{Links, links_sent}
use Rattle.dna_links.specs.WireLinks.{wire_links_sent}
use Rattle.dna_links.specs.CutSegments.{cut, cut_sending}
use Rattle.dna_links.specs.CutLinks.{cut_as, cut_link, cut_links, cut_sent, IsLinkOrdered, AreOrdered}
use Rattle.dna_links.proofs.Cut.SegmentsSending.{sends_acks_same, sends_segment_same}
use Rattle.dna_links.proofs.Cut.Pieces.{drop_none}
use Rattle.dna_links.proofs.Cut.LookUps.{with_link_same, changed_same}
use Rattle.dna_links.proofs.Cut.User.{live_if, live_segments, segments_changed}

abbrev cut_one : Sent TrueSegments Numbers → Sent WireSegments (Unit {0})
cut_one sent = record { links = cut_links Without sent.links; truth = record { tag = sent.truth.tag; known = tt } }

-- ---- one link

-- a live link ends: of its segments is left what may still be delivered, and if it has no own address, nothing had come
module _ (l : LinkOf TrueSegments) (live : is_live l.port.phase ≡ true) (ordered : IsLinkOrdered l) where
  left_same : (own : Option ℕ) → (own ≡ None → l.segments.received ≡ []) → cut_as false own l.segments ≡ ends (cut l.segments)
  left_same (Some own) fresh = refl
  left_same None fresh =
      ap (λ (ps : List (Option Piece)). with_pieces_alone (take (in_whole_messages ps) ps))
      (sym (ap (drop l.segments.passed) (fresh refl) ∙ drop_none l.segments.passed))

  pub ended_same : cut_link Without (ended true_segments l) ≡ ended wire_segments (cut_link Without l)
  ended_same = ap (λ (w : WireSegments). with_segments w (in_phase Ended (cut_link Without l)))
      (left_same l.port.own (ordered.fresh live) ∙ ap ends (sym (live_segments l live)))

-- ---- the table

sent_check : (b : Bool) (reason : LinkRefusal) (r : Result (Sent TrueSegments Numbers) LinkRefusal)
    (r' : Result (Sent WireSegments (Unit {0})) LinkRefusal)
    → (b ≡ true → cut_sent Without r ≡ r') → cut_sent Without (check b reason r) ≡ check b reason r'
sent_check true reason r r' same = same refl
sent_check false reason r r' same = refl

module _ (s : Links) (ordered : AreOrdered s) where
  in_its_phase_same : (test : LinkTest) (is_right : Phase → Bool) →
      cut_sent Without (in_its_phase true_segments test is_right s) ≡ in_its_phase wire_segments test
      is_right (cut_links Without s)
  in_its_phase_same test is_right =
      with_link_same Without (cut_sent Without) test s (Err NoLink) (Err NoLink)
      (λ n l. check (is_right l.port.phase) LinkState (Ok (unchanged true_segments s n l)))
      (λ n l. check (is_right l.port.phase) LinkState (Ok (unchanged wire_segments (cut_links Without s) n l)))
      (λ none. refl) (λ n l there here. sent_check (is_right l.port.phase) LinkState (Ok (unchanged true_segments s n l))
      (Ok (unchanged wire_segments (cut_links Without s) n (cut_link Without l))) (λ e. refl))

  ending_same : (n : ℕ) (l : LinkOf TrueSegments) → slice_get s.links n ≡ Some l → is_live l.port.phase ≡ true
      → cut_one (ending true_segments s n l) ≡ ending wire_segments (cut_links Without s) n (cut_link Without l)
  ending_same n l there live =
      ap (λ (all : LinksOf WireSegments). record (ending wire_segments (cut_links Without s) n (cut_link Without l)) { links = all })
      (changed_same Without n (ended true_segments l) s
      ∙ ap (λ (w : LinkOf WireSegments). changed n w (cut_links Without s)) (ended_same l live (ordered n l there)))

  confirms_same : (src dst : ℕ) → cut_sent Without (confirms_end true_segments s src dst) ≡ confirms_end wire_segments (cut_links Without s) src dst
  confirms_same src dst = by_address (eqb src 0)
    where
      by_address : (b : Bool) →
          cut_sent Without (cond b (with_link (CalledBy dst) s (Ok (of_no_link true_segments s)) (λ n l. Ok (ending true_segments s n l)))
          (Ok (of_no_link true_segments s)))
          ≡ cond b (with_link (CalledBy dst) (cut_links Without s) (Ok (of_no_link wire_segments (cut_links Without s)))
          (λ n l. Ok (ending wire_segments (cut_links Without s) n l))) (Ok (of_no_link wire_segments (cut_links Without s)))
      by_address true =
          with_link_same Without (cut_sent Without) (CalledBy dst) s (Ok (of_no_link true_segments s))
          (Ok (of_no_link wire_segments (cut_links Without s)))
          (λ n l. Ok (ending true_segments s n l))
          (λ n l. Ok (ending wire_segments (cut_links Without s) n l))
          (λ none. refl) (λ n l there here. ap Ok (ending_same n l there
          (live_if is_called refl l.port.phase (and_parts (is_called l.port.phase) (is_at l.port.far dst) here).0)))
      by_address false = refl

  carries_same : (n : ℕ) (l : LinkOf TrueSegments) → is_live l.port.phase ≡ true → (r : Result (Sending TrueSegments Numbers) LinkRefusal)
      → cut_sent Without (carries true_segments s n l r) ≡ carries wire_segments (cut_links Without s) n (cut_link Without l) (cut_sending r)
  carries_same n l live (Err reason) = refl
  carries_same n l live (Ok sent) =
      ap (λ (all : LinksOf WireSegments).
      let result : Result (Sent WireSegments (Unit {0})) LinkRefusal =
      Ok (record (unchanged wire_segments (cut_links Without s) n (cut_link Without l)) { links = all }) in result)
      (changed_same Without n (with_segments sent.segments l) s ∙ ap (λ (w : LinkOf WireSegments). changed n w (cut_links Without s))
      (segments_changed l live sent.segments (cut sent.segments) refl))

  in_run_same : (src dst : ℕ) (sends : LinkOf TrueSegments → Result (Sending TrueSegments Numbers) LinkRefusal)
      (sends' : LinkOf WireSegments → Result (Sending WireSegments (Unit {0})) LinkRefusal)
      → ((n : ℕ) (l : LinkOf TrueSegments) → slice_get s.links n ≡ Some l → is_live l.port.phase ≡ true → is_running l.port.phase ≡ true →
      cut_sending (sends l) ≡ sends' (cut_link Without l))
      → cut_sent Without (in_run true_segments src dst sends s) ≡ in_run wire_segments src dst sends' (cut_links Without s)
  in_run_same src dst sends sends' same =
      with_link_same Without (cut_sent Without) (TheLink src dst) s (Err NoLink) (Err NoLink)
      (λ n l. check (is_running l.port.phase) LinkState (carries true_segments s n l (sends l)))
      (λ n l. check (is_running l.port.phase) LinkState (carries wire_segments (cut_links Without s) n l (sends' l)))
      (λ none. refl) (λ n l there here.
      let live = (and_parts (is_live l.port.phase) (has_both l.port src dst) here).0 in
      sent_check (is_running l.port.phase) LinkState (carries true_segments s n l (sends l))
      (carries wire_segments (cut_links Without s) n (cut_link Without l) (sends' (cut_link Without l)))
      (λ run. carries_same n l live (sends l) ∙ ap (carries wire_segments (cut_links Without s) n (cut_link Without l)) (same n l there live run)))

  segment_same : (segment : SegmentValue) (n : ℕ) (l : LinkOf TrueSegments) → slice_get s.links n ≡ Some l → is_live l.port.phase ≡ true →
      is_running l.port.phase ≡ true
      → cut_sending (segment_of true_segments segment l) ≡ segment_of wire_segments segment (cut_link Without l)
  segment_same segment n l there live run =
      sends_segment_same l.segments (ordered n l there).segments ((ordered n l there).answered run) l.segsize segment ∙
      ap (wire.sends_segment l.segsize segment) (sym (live_segments l live))

  words_same : (acks : List AckWord) (n : ℕ) (l : LinkOf TrueSegments) → slice_get s.links n ≡ Some l → is_live l.port.phase ≡ true →
      is_running l.port.phase ≡ true
      → cut_sending (sends_acks acks l.segments) ≡ wire.sends_acks acks (cut_link Without l).segments
  words_same acks n l there live run =
      sends_acks_same l.segments (ordered n l there).segments ((ordered n l there).answered run) acks
      ∙ ap (wire.sends_acks acks) (sym (live_segments l live))

  message_same : (m : NspValue) →
      cut_sent Without (message_sent Without true_segments s m) ≡ message_sent Without wire_segments (cut_links Without s) m
  message_same (ConnectInitiate retransmitted src services info segsize user_data) = in_its_phase_same (OpenedAt src) is_calling
  message_same (ConnectAck dst) =
      with_link_same Without (cut_sent Without) (BegunBy dst) s (Err NoLink) (Err NoLink) (λ n l. Ok (unchanged true_segments s n l))
      (λ n l. Ok (unchanged wire_segments (cut_links Without s) n l)) (λ none. refl) (λ n l there here. refl)
  message_same (ConnectConfirm dst src services info segsize user_data) = in_its_phase_same (TheLink src dst) is_confirming
  message_same (DisconnectInitiate dst src reason user_data) = in_its_phase_same (TheLink src dst) is_disconnecting
  message_same (DisconnectConfirm dst src reason) =
      with_link_same Without (cut_sent Without) (TheLink src dst) s (confirms_end true_segments s src dst)
      (confirms_end wire_segments (cut_links Without s) src dst)
      (λ n l. Err LinkState) (λ n l. Err LinkState)
      (λ none. confirms_same src dst) (λ n l there here. refl)
  message_same (DataSegment segment) =
      in_run_same segment.srcaddr segment.dstaddr (segment_of true_segments segment) (segment_of wire_segments segment) (segment_same segment)
  message_same (DataAck dst src acks) = in_run_same src dst (λ l. sends_acks acks l.segments) (λ l. wire.sends_acks acks l.segments) (words_same acks)
  message_same (LinkService interrupt dst src rest) = in_its_phase_same (TheLink src dst) is_running
  message_same (OtherDataAck dst src rest) = in_its_phase_same (TheLink src dst) is_running
  message_same (NoOperation rest) = refl

  pub sent_same : (packet : Carried) → cut_sent Without (links_sent Without s packet) ≡ wire_links_sent Without (cut_links Without s) packet
  sent_same packet =
      sent_check (eqb packet.src s.node && eqb packet.dst s.peer) WrongNode (message_sent Without true_segments s packet.message)
      (message_sent Without wire_segments (cut_links Without s) packet.message) (λ e. message_same packet.message)
