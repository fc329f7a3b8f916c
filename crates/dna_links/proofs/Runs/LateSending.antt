-- What links with queues send: the same, once what the queues leave open is put aside.
use Rattle.std.proofs.Common.{◌≡◌, ℕ, Bool, true, false, ◌==◌, cond, Some, List, Result, Ok, Err, refl}
use Rattle.std.proofs.Common.{sym, ap, ◌∙◌, subst, eqb-true}
use Rattle.std.specs.Prelude.{slice_get}
use Rattle.dna_packet.specs.declared.ack_word.AckWord.{AckWord}
use Rattle.dna_packet.specs.Nsp.{SegmentValue, NspValue, DataSegment, LinkService, DataAck, OtherDataAck, ConnectAck, NoOperation, ConnectInitiate}
use Rattle.dna_packet.specs.Nsp.{ConnectConfirm, DisconnectInitiate, DisconnectConfirm}
use Rattle.dna_station.specs.declared.link_refusal.LinkRefusal.{LinkRefusal}
use Rattle.dna_station.specs.declared.link_refusal.LinkRefusal.TheVariants.{NoLink, LinkState}
use Rattle.dna_links.specs.declared.port.Phase.{Phase}
use Rattle.dna_links.specs.declared.port.Phase.TheVariants.{Calling, Confirming, Running, Disconnecting}
use Rattle.dna_links.specs.declared.port.LinkTest.{LinkTest}
use Rattle.dna_links.specs.declared.port.LinkTest.TheVariants.{TheLink, OpenedAt, CalledBy, BegunBy}
use Rattle.dna_links.specs.declared.queue.Queues.TheVariants.{With}
use Rattle.dna_links.specs.declared.queue.Said.{Said}
use Rattle.dna_links.specs.declared.queue.Said.TheVariants.{OfRun, Disconnect}
use Rattle.dna_links.specs.SegmentBook.{Sending, Late, wider}
use Rattle.dna_links.specs.Links.{LinkOf, Carried, with_link, changed}
use Rattle.dna_links.specs.Links.{with_segments, check}
use Rattle.dna_links.specs.Queues.{in_use, with_in_use, may_send, drops}
use Rattle.dna_links.specs.Queues.{ended, shows}
use Rattle.dna_links.specs.LinkBook.{on_ok}
use Rattle.dna_links.specs.inner.Forms.{of_no_link, truth_of, unchanged}
use Rattle.dna_links.specs.Sending.{Sent, message_sent}
use Rattle.dna_links.specs.TrueSegments.{TrueSegments, Numbers, sends_acks, sends_late, true_segments}
use Rattle.dna_links.specs.TrueSegments as segments
use Rattle.dna_links.specs.TrueLinks.{Links, links_sent}
use Rattle.dna_links.specs.Alike.{bare, bare_links}
use Rattle.dna_links.proofs.Tables.Outcomes.{looked, checked}
use Rattle.dna_links.proofs.Tables.MessageOutcomes.{has_numbers}
use Rattle.dna_links.proofs.Runs.Sends.{acks_sent}
use Rattle.dna_links.proofs.Runs.LateWords.{late_sent}
use Rattle.dna_links.proofs.Runs.Loose.{SentDid, OfNone, Stays, EndsCalled, Segment, Acks}
use Rattle.dna_links.proofs.Runs.Bare.{bare_sent, bare_at, changed_bare, same_bare, found_bare, shows_bare, changed_dropped}
use Rattle.dna_links.proofs.Runs.Bare.{settled_of, settled_bare, seen, used, same_Ok}

module _ (s : Links) (made : Sent TrueSegments Numbers) where
  sent_is : (m : NspValue) (next next' : Sent TrueSegments Numbers) → SentDid (bare_links s) m next' → bare_sent next ≡ next' →
      ◌≡◌ {A = Result (Sent TrueSegments Numbers) LinkRefusal} (Ok next) (Ok made) → SentDid (bare_links s) m (bare_sent made)
  sent_is m next next' d same e =
      subst (λ (x : Sent TrueSegments Numbers). SentDid (bare_links s) m (bare_sent x)) (same_Ok next made e)
      (subst (λ (x : Sent TrueSegments Numbers). SentDid (bare_links s) m x) (sym same) d)

  -- these links with the truth of a message of this one
  abbrev of_link : Links → ℕ → LinkOf TrueSegments → Numbers → Sent TrueSegments Numbers
  of_link links number link known = record { links = links; truth = truth_of true_segments number link known }

  with_links : (links links' : Links) (number : ℕ) (link : LinkOf TrueSegments) (known : Numbers) → bare_links links ≡ links' →
      bare_sent (of_link links number link known) ≡ of_link links' number link known
  with_links links links' number link known same = ap (λ (x : Links). of_link x number link known) same

  -- a message without numbers changes nothing but the queue
  stays : (m : NspValue) (number : ℕ) (link left : LinkOf TrueSegments) → has_numbers m ≡ false → slice_get s.links number ≡ Some link →
      bare left ≡ bare link →
      ◌≡◌ {A = Result (Sent TrueSegments Numbers) LinkRefusal}
      (Ok (of_link (changed number left s) number left (segments.sends_other link.segments))) (Ok made) →
      SentDid (bare_links s) m (bare_sent made)
  stays m number link left none there same e =
      sent_is m _ _ (Stays number (bare link) none (bare_at s number link there))
      (with_links (changed number left s) (bare_links s) number left (segments.sends_other link.segments) (same_bare number link left s there same)
      ∙ ap (λ (x : LinkOf TrueSegments). of_link (bare_links s) number x (segments.sends_other link.segments)) same) e

  unchanged_late : (m : NspValue) (test : LinkTest) (phase : Phase) → has_numbers m ≡ false →
      with_in_use With test s (Err NoLink) (λ number link. check (may_send With phase link) LinkState (Ok (unchanged true_segments s number link)))
      ≡ Ok made → SentDid (bare_links s) m (bare_sent made)
  unchanged_late m test phase none e =
      used test s (Err NoLink) _ (Ok made) e (λ e. absurd cc)
      (λ number link there passed e. let c = checked (may_send With phase link) LinkState _ made e in
      sent_is m _ _ (Stays number (bare link) none (bare_at s number link there)) refl c.1)

  -- a message of which the queue remembers that it was sent
  said_late : (m : NspValue) (src dst : ℕ) (phase : Phase) (said : Said) → has_numbers m ≡ false →
      with_in_use With (TheLink src dst) s (Err NoLink)
      (λ number link. check (may_send With phase link) LinkState
      (Ok (of_link (changed number (shows true_segments said link) s) number (shows true_segments said link) (segments.sends_other link.segments))))
      ≡ Ok made → SentDid (bare_links s) m (bare_sent made)
  said_late m src dst phase said none e =
      used (TheLink src dst) s (Err NoLink) _ (Ok made) e (λ e. absurd cc)
      (λ number link there passed e. let c = checked (may_send With phase link) LinkState _ made e in
      stays m number link (shows true_segments said link) none there (shows_bare said link) c.1)

  abbrev dropped : ℕ → LinkOf TrueSegments → Result (Sent TrueSegments Numbers) LinkRefusal
  dropped n l = Ok (of_link (changed n (drops true_segments With l) s) n (drops true_segments With l) (segments.sends_other l.segments))

  end_late : (dst src reason : ℕ) → message_sent With true_segments s (DisconnectConfirm dst src reason) ≡ Ok made →
      SentDid (bare_links s) (DisconnectConfirm dst src reason) (bare_sent made)
  end_late dst src reason e =
      looked (TheLink src dst) s _ (λ n l. Err LinkState) (Ok made) e (λ none e. go (src == 0) refl e) (λ n l found e. absurd cc)
    where
      of_zero : src ≡ 0 →
          with_link {R = Result (Sent TrueSegments Numbers) LinkRefusal} (CalledBy dst) s (Ok (of_no_link true_segments s)) dropped ≡ Ok made →
          SentDid (bare_links s) (DisconnectConfirm dst src reason) (bare_sent made)
      of_zero none_given e =
          looked (CalledBy dst) s (Ok (of_no_link true_segments s)) dropped (Ok made) e
          (λ none e. sent_is _ _ _ (OfNone refl) refl e)
          (λ number link found e. sent_is _ _ _
          (EndsCalled dst reason number (bare link) refl (ap (λ (n : ℕ). DisconnectConfirm dst n reason) none_given)
          (found_bare (CalledBy dst) s number link found))
          (with_links (changed number (drops true_segments With link) s) (changed number (ended true_segments (bare link)) (bare_links s)) number link
          (segments.sends_other link.segments) (changed_dropped number link s)) e)

      of_address : ◌≡◌ {A = Result (Sent TrueSegments Numbers) LinkRefusal}
          (Ok (record (of_no_link true_segments s) { links = settled_of src s })) (Ok made) →
          SentDid (bare_links s) (DisconnectConfirm dst src reason) (bare_sent made)
      of_address e = sent_is _ _ _ (OfNone refl) (ap (λ (x : Links). record (of_no_link true_segments s) { links = x }) (settled_bare src s)) e

      go : (b : Bool) → (src == 0) ≡ b →
          cond b (with_link {R = Result (Sent TrueSegments Numbers) LinkRefusal} (CalledBy dst) s (Ok (of_no_link true_segments s)) dropped)
          (Ok (record (of_no_link true_segments s) { links = settled_of src s })) ≡ Ok made →
          SentDid (bare_links s) (DisconnectConfirm dst src reason) (bare_sent made)
      go true none_given e = of_zero (eqb-true src 0 none_given) e
      go false some e = of_address e

  -- a link that carries a segment, or acknowledgements
  pub carried_bare : (number : ℕ) (link left : LinkOf TrueSegments) (f : TrueSegments) (known : Numbers) → bare left ≡ with_segments f (bare link) →
      bare_sent (of_link (changed number left s) number left known) ≡ of_link (changed number (with_segments f (bare link)) (bare_links s)) number
      (bare link) known
  carried_bare number link left f known same =
      with_links (changed number left s) (changed number (with_segments f (bare link)) (bare_links s)) number left known
      (changed_bare number left s ∙ ap (λ (x : LinkOf TrueSegments). changed number x (bare_links s)) same)
      ∙ ap (λ (x : LinkOf TrueSegments). of_link (changed number (with_segments f (bare link)) (bare_links s)) number x known) same

  abbrev left_late : LinkOf TrueSegments → Late TrueSegments Numbers → LinkOf TrueSegments
  left_late link sent = shows true_segments OfRun (record link { segments = sent.sent.segments; queue = record link.queue { gap = sent.gap } })

  abbrev made_late : ℕ → LinkOf TrueSegments → Result (Late TrueSegments Numbers) LinkRefusal → Result (Sent TrueSegments Numbers) LinkRefusal
  made_late number link r = on_ok r (λ sent. Ok (of_link (changed number (left_late link sent) s) number (left_late link sent) sent.sent.known))

  segment_late : (segment : SegmentValue) → message_sent With true_segments s (DataSegment segment) ≡ Ok made →
      SentDid (bare_links s) (DataSegment segment) (bare_sent made)
  segment_late segment e =
      used (TheLink segment.srcaddr segment.dstaddr) s (Err NoLink) _ (Ok made) e (λ e. absurd cc)
      (λ number link there passed e. let c = checked (may_send With Running link) LinkState _ made e in
      go number link there (sends_late link.queue.gap link.segsize segment link.segments) refl c.1)
    where
      go : (number : ℕ) (link : LinkOf TrueSegments) → slice_get s.links number ≡ Some link → (r : Result (Late TrueSegments Numbers) LinkRefusal) →
          sends_late link.queue.gap link.segsize segment link.segments ≡ r → made_late number link r ≡ Ok made →
          SentDid (bare_links s) (DataSegment segment) (bare_sent made)
      go number link there (Err refusal) does e = absurd cc
      go number link there (Ok sent) does e =
          sent_is _ _ _ (Segment segment number (bare link) sent.sent refl (bare_at s number link there)
          (λ o. late_sent link.segments o link.queue.gap link.segsize segment sent does))
          (carried_bare number link (left_late link sent) sent.sent.segments sent.sent.known
          (shows_bare OfRun (record link { segments = sent.sent.segments; queue = record link.queue { gap = sent.gap } }))) e

  abbrev left_acks : LinkOf TrueSegments → Sending TrueSegments Numbers → LinkOf TrueSegments
  left_acks link sent = shows true_segments OfRun (record link {
    segments = sent.segments;
    queue = record link.queue { gap = wider link.queue.gap (segments.went_on link.segments sent.segments) };
  })

  abbrev made_acks : ℕ → LinkOf TrueSegments → Result (Sending TrueSegments Numbers) LinkRefusal → Result (Sent TrueSegments Numbers) LinkRefusal
  made_acks number link r = on_ok r (λ sent. Ok (of_link (changed number (left_acks link sent) s) number (left_acks link sent) sent.known))

  acks_late : (dst src : ℕ) (acks : List AckWord) → message_sent With true_segments s (DataAck dst src acks) ≡ Ok made →
      SentDid (bare_links s) (DataAck dst src acks) (bare_sent made)
  acks_late dst src acks e =
      used (TheLink src dst) s (Err NoLink) _ (Ok made) e (λ e. absurd cc)
      (λ number link there passed e. let c = checked (may_send With Running link) LinkState _ made e in
      go number link there (sends_acks acks link.segments) refl c.1)
    where
      go : (number : ℕ) (link : LinkOf TrueSegments) → slice_get s.links number ≡ Some link →
          (r : Result (Sending TrueSegments Numbers) LinkRefusal) →
          sends_acks acks link.segments ≡ r → made_acks number link r ≡ Ok made → SentDid (bare_links s) (DataAck dst src acks) (bare_sent made)
      go number link there (Err refusal) does e = absurd cc
      go number link there (Ok sent) does e =
          sent_is _ _ _ (Acks dst src acks number (bare link) sent refl (bare_at s number link there) (λ o. acks_sent link.segments o acks sent does))
          (carried_bare number link (left_acks link sent) sent.segments sent.known
          (shows_bare OfRun (record link {
            segments = sent.segments;
            queue = record link.queue { gap = wider link.queue.gap (segments.went_on link.segments sent.segments) };
          }))) e

  message_late : (m : NspValue) → message_sent With true_segments s m ≡ Ok made → SentDid (bare_links s) m (bare_sent made)
  message_late (ConnectInitiate retransmitted src services info segsize user_data) e = unchanged_late _ (OpenedAt src) Calling refl e
  message_late (ConnectAck dst) e =
      looked (BegunBy dst) s _ (λ number link. Ok (unchanged true_segments s number link)) (Ok made) e
      (λ missing e. seen (in_use With) (BegunBy dst) s (Err NoLink) (λ number link. Ok (of_no_link true_segments s)) (Ok made) e (λ e. absurd cc)
      (λ number link there passed e. sent_is _ _ _ (OfNone refl) refl e))
      (λ number link found e. sent_is _ _ _ (Stays number (bare link) refl (bare_at s number link found.there)) refl e)
  message_late (ConnectConfirm dst src services info segsize user_data) e = unchanged_late _ (TheLink src dst) Confirming refl e
  message_late (DisconnectInitiate dst src reason user_data) e = said_late _ src dst Disconnecting Disconnect refl e
  message_late (DisconnectConfirm dst src reason) e = end_late dst src reason e
  message_late (DataSegment segment) e = segment_late segment e
  message_late (DataAck dst src acks) e = acks_late dst src acks e
  message_late (LinkService interrupt dst src rest) e = said_late _ src dst Running OfRun refl e
  message_late (OtherDataAck dst src rest) e = said_late _ src dst Running OfRun refl e
  message_late (NoOperation rest) e = sent_is _ _ _ (OfNone refl) refl e

  pub sent_late : (packet : Carried) → links_sent With s packet ≡ Ok made → SentDid (bare_links s) packet.message (bare_sent made)
  sent_late packet e = message_late packet.message (checked _ _ _ made e).1
