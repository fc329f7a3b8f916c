-- Cutting the links of a node with queues to what it keeps of them commutes with what they may send.
use Rattle.std.proofs.Common.{◌≡◌, ℕ, Bool, true, false, not, ◌&&◌, ◌||◌, eqb, cond, Option, Some, None, List, Result, Ok, Err, refl, sym, ap, ap₂}
use Rattle.std.proofs.Common.{◌∙◌}
use Rattle.std.specs.Prelude.{slice_get}
use Rattle.std.proofs.lemmas.Bool.{and_parts}
use Rattle.dna_packet.specs.declared.ack_word.AckWord.{AckWord}
use Rattle.dna_packet.specs.Nsp.{SegmentValue, NspValue, DataSegment, LinkService, DataAck, OtherDataAck, ConnectAck, NoOperation, ConnectInitiate}
use Rattle.dna_packet.specs.Nsp.{ConnectConfirm, DisconnectInitiate, DisconnectConfirm}
use Rattle.dna_station.specs.declared.link_refusal.LinkRefusal.{LinkRefusal}
use Rattle.dna_station.specs.declared.link_refusal.LinkRefusal.TheVariants.{WrongNode, NoLink, LinkState}
use Rattle.dna_links.specs.declared.port.Phase.{Phase}
use Rattle.dna_links.specs.declared.port.Phase.TheVariants.{Calling, Confirming, Running, Disconnecting}
use Rattle.dna_links.specs.declared.port.LinkTest.{LinkTest}
use Rattle.dna_links.specs.declared.port.LinkTest.TheVariants.{HasAddress, TheLink, OpenedAt, CalledBy, BegunBy}
use Rattle.dna_links.specs.declared.queue.Queues.TheVariants.{With}
use Rattle.dna_links.specs.declared.queue.Said.{Said}
use Rattle.dna_links.specs.declared.queue.LinkQueue.{LinkQueue}
use Rattle.dna_links.specs.declared.queue.Said.TheVariants.{Nothing, OfRun, Disconnect}
use Rattle.dna_links.specs.LookUps.{is_live, is_called, is_at}
use Rattle.dna_links.specs.SegmentBook.{Sending, Late, wider}
use Rattle.dna_links.specs.Links.{LinkOf, Carried, check, with_link, changed}
use Rattle.dna_links.specs.Queues.{is_over, has_waiting, with_in_use, may_send, keeps_numbers, drops}
use Rattle.dna_links.specs.Queues.{shows, settled, is_in_turn}
use Rattle.dna_links.specs.inner.Forms.{of_no_link, truth_of, unchanged}
use Rattle.dna_links.specs.LinkBook.{on_ok}
use Rattle.dna_links.specs.Sending.{Sent, message_sent}
use Rattle.dna_links.specs.TrueSegments.{TrueSegments, Numbers, sends_acks, sends_late, true_segments}
use Rattle.dna_links.specs.TrueSegments as segments
use Rattle.dna_links.specs.WireSegments.{WireSegments, wire_segments}
use Rattle.dna_links.specs.WireSegments as wire
use Rattle.dna_links.specs.TrueLinks.{Links, links_sent}
use Rattle.dna_links.specs.WireLinks.{WireLinks, wire_links_sent}
use Rattle.dna_links.specs.CutSegments.{cut, cut_sending, IsAnswered}
use Rattle.dna_links.specs.CutLinks.{cut_as, cut_link, cut_links, cut_sent, AreOrdered}
use Rattle.dna_links.proofs.Cut.SegmentsSending.{sends_acks_same}
use Rattle.dna_links.proofs.Cut.LateWords.{cut_late, sends_late_same, acks_went}
use Rattle.dna_links.proofs.Cut.LookUps.{with_link_same}
use Rattle.dna_links.proofs.Cut.User.{live_if}
use Rattle.dna_links.proofs.Cut.LateLinks.{with_seen_same, with_in_use_same, has_own, kept_segments}
use Rattle.dna_links.proofs.Cut.LateLinks.{or_left, drops_same, shows_same, settled_same}
use Rattle.dna_links.proofs.Cut.LateUser.{the_link, keeps_silent, one_changed}

sent_check : (b : Bool) (reason : LinkRefusal) (r : Result (Sent TrueSegments Numbers) LinkRefusal)
    (r' : Result (Sent WireSegments (Unit {0})) LinkRefusal) → (b ≡ true → cut_sent With r ≡ r') →
    cut_sent With (check b reason r) ≡ check b reason r'
sent_check true reason r r' same = same refl
sent_check false reason r r' same = refl

module _ (s : Links) (ordered : AreOrdered s)
    (answered : (n : ℕ) (l : LinkOf TrueSegments) → slice_get s.links n ≡ Some l → IsAnswered l.segments) where
  -- a message of this link, which becomes that
  abbrev with_left : ℕ → LinkOf TrueSegments → LinkOf TrueSegments → Numbers → Result (Sent TrueSegments Numbers) LinkRefusal
  with_left n l left known = Ok (record { links = changed n left s; truth = truth_of true_segments n left known })

  abbrev with_left' : ℕ → LinkOf WireSegments → Result (Sent WireSegments (Unit {0})) LinkRefusal
  with_left' n left = Ok (record { links = changed n left (cut_links With s); truth = truth_of wire_segments n left tt })

  left_same : (n : ℕ) (l left : LinkOf TrueSegments) (left' : LinkOf WireSegments) (known : Numbers) → cut_link With left ≡ left' →
      cut_sent With (with_left n l left known) ≡ with_left' n left'
  left_same n l left left' known same =
      ap (λ (all : WireLinks). let r : Result (Sent WireSegments (Unit {0})) LinkRefusal =
      Ok (record { links = all; truth = truth_of wire_segments n (cut_link With left) tt }) in r) (one_changed s n left left' same)
      ∙ ap (λ (w : LinkOf WireSegments). let r : Result (Sent WireSegments (Unit {0})) LinkRefusal =
      Ok (record { links = changed n left' (cut_links With s); truth = truth_of wire_segments n w tt }) in r) same

  unchanged_same : (test : LinkTest) (phase : Phase) →
      cut_sent With (with_in_use With test s (Err NoLink) (λ n l. check (may_send With phase l) LinkState (Ok (unchanged true_segments s n l))))
      ≡ with_in_use With test (cut_links With s) (Err NoLink)
      (λ n l. check (may_send With phase l) LinkState (Ok (unchanged wire_segments (cut_links With s) n l)))
  unchanged_same test phase =
      with_in_use_same (cut_sent With) test s (Err NoLink) (Err NoLink) _ _ refl
      (λ n l there here. sent_check (may_send With phase l) LinkState (Ok (unchanged true_segments s n l))
      (Ok (unchanged wire_segments (cut_links With s) n (cut_link With l))) (λ e. refl))

  -- a message of which the queue remembers that it was sent
  said_same : (src dst : ℕ) (phase : Phase) (said : Said) →
      cut_sent With (with_in_use With (TheLink src dst) s (Err NoLink)
      (λ n l. check (may_send With phase l) LinkState (with_left n l (shows true_segments said l) (segments.sends_other l.segments))))
      ≡ with_in_use With (TheLink src dst) (cut_links With s) (Err NoLink)
      (λ n l. check (may_send With phase l) LinkState (with_left' n (shows wire_segments said l)))
  said_same src dst phase said =
      with_in_use_same (cut_sent With) (TheLink src dst) s (Err NoLink) (Err NoLink) _ _ refl
      (λ n l there here.
      let p = the_link src dst l here in
      sent_check (may_send With phase l) LinkState _ (with_left' n (shows wire_segments said (cut_link With l)))
      (λ e. left_same n l (shows true_segments said l) _ (segments.sends_other l.segments) (shows_same l (λ none. absurd (p.1 none)) said)))

  -- a DC
  end_same : (src dst reason : ℕ) → cut_sent With (message_sent With true_segments s (DisconnectConfirm dst src reason)) ≡
      message_sent With wire_segments (cut_links With s) (DisconnectConfirm dst src reason)
  end_same src dst reason =
      with_link_same With (cut_sent With) (TheLink src dst) s _ _ (λ n l. Err LinkState) (λ n l. Err LinkState)
      (λ none. by_address (eqb src 0)) (λ n l there here. refl)
    where
      by_address : (b : Bool) →
          cut_sent With (cond b (with_link (CalledBy dst) s (Ok (of_no_link true_segments s))
          (λ n l. with_left n l (drops true_segments With l) (segments.sends_other l.segments)))
          (Ok (record (of_no_link true_segments s)
          { links = with_link (HasAddress src) s s (λ n l. changed n (settled true_segments l.queue.waits l) s) })))
          ≡ cond b (with_link (CalledBy dst) (cut_links With s) (Ok (of_no_link wire_segments (cut_links With s)))
          (λ n l. with_left' n (drops wire_segments With l)))
          (Ok (record (of_no_link wire_segments (cut_links With s)) {
            links = with_link (HasAddress src) (cut_links With s) (cut_links With s)
                (λ n l. changed n (settled wire_segments l.queue.waits l) (cut_links With s));
          }))
      by_address true =
          with_link_same With (cut_sent With) (CalledBy dst) s (Ok (of_no_link true_segments s))
          (Ok (of_no_link wire_segments (cut_links With s))) _ _
          (λ none. refl) (λ n l there here.
          let live = live_if is_called refl l.port.phase (and_parts (is_called l.port.phase) (is_at l.port.far dst) here).0 in
          left_same n l (drops true_segments With l) _ (segments.sends_other l.segments)
          (drops_same l ((ordered n l there).fresh live) (or_left (is_live l.port.phase) (has_waiting l.queue.waits l.queue.said) live)))
      by_address false =
          ap (λ (all : WireLinks). let r : Result (Sent WireSegments (Unit {0})) LinkRefusal =
          Ok (record (of_no_link wire_segments (cut_links With s)) { links = all }) in r)
          (with_link_same With (cut_links With) (HasAddress src) s s (cut_links With s) _ _ (λ none. refl)
          (λ n l there here. one_changed s n _ _ (settled_same l (λ none. absurd (has_own l.port.own src here none)))))

  -- a link in its turn of RUN has not sent a DI
  not_over : (l : LinkOf TrueSegments) → is_in_turn Running l.queue l.port ≡ true → is_over l.queue.said ≡ false
  not_over l e = go l.queue.said (and_parts l.queue.ran (not (is_over l.queue.said)) e).1
    where
      go : (said : Said) → not (is_over said) ≡ true → is_over said ≡ false
      go Nothing e = refl
      go OfRun e = refl
      go Disconnect e = absurd cc

  -- what a link sends in its turn of RUN
  kept_shows : (l : LinkOf TrueSegments) → (l.port.own ≡ None → ⊥) → keeps_numbers l ≡ true → (f : TrueSegments) (queue : LinkQueue) →
      queue.waits ≡ l.queue.waits → queue.said ≡ l.queue.said →
      cut_link With (shows true_segments OfRun (record l { segments = f; queue = queue })) ≡
      shows wire_segments OfRun (record (cut_link With l) { segments = cut f; queue = queue })
  kept_shows l own kept f queue waits said =
      shows_same (record l { segments = f; queue = queue }) (λ none. absurd (own none)) OfRun
      ∙ ap (λ (w : WireSegments). shows wire_segments OfRun (record (cut_link With l) { segments = w; queue = queue }))
      (ap (λ (b : Bool). cut_as b l.port.own f)
      (ap₂ (λ (o : Option Phase) (x : Said). is_live l.port.phase || has_waiting o x) waits said ∙ kept))

  segment_same : (segment : SegmentValue) → cut_sent With (message_sent With true_segments s (DataSegment segment)) ≡
      message_sent With wire_segments (cut_links With s) (DataSegment segment)
  segment_same segment =
      with_in_use_same (cut_sent With) (TheLink segment.srcaddr segment.dstaddr) s (Err NoLink) (Err NoLink) _ _ refl
      (λ n l there here.
      let p = the_link segment.srcaddr segment.dstaddr l here in
      sent_check (is_in_turn Running l.queue l.port) LinkState _ _ (λ turn.
      let kept = keeps_silent l p.0 (not_over l turn) in
      carries n l p.1 kept (sends_late l.queue.gap l.segsize segment l.segments)
      ∙ ap (made' n (cut_link With l))
      (sends_late_same l.segments (ordered n l there).segments (answered n l there) l.queue.gap l.segsize segment
      ∙ ap (wire.sends_late l.queue.gap l.segsize segment) (sym (kept_segments l kept)))))
    where
      made' : ℕ → LinkOf WireSegments → Result (Late WireSegments (Unit {0})) LinkRefusal → Result (Sent WireSegments (Unit {0})) LinkRefusal
      made' n l r = on_ok r (λ sent. with_left' n (shows wire_segments OfRun
          (record l { segments = sent.sent.segments; queue = record l.queue { gap = sent.gap } })))

      carries : (n : ℕ) (l : LinkOf TrueSegments) → (l.port.own ≡ None → ⊥) → keeps_numbers l ≡ true →
          (r : Result (Late TrueSegments Numbers) LinkRefusal) →
          cut_sent With (on_ok r (λ sent. with_left n l (shows true_segments OfRun
          (record l { segments = sent.sent.segments; queue = record l.queue { gap = sent.gap } })) sent.sent.known))
          ≡ made' n (cut_link With l) (cut_late r)
      carries n l own kept (Err refusal) = refl
      carries n l own kept (Ok sent) =
          left_same n l (shows true_segments OfRun (record l { segments = sent.sent.segments; queue = record l.queue { gap = sent.gap } })) _
          sent.sent.known
          (kept_shows l own kept sent.sent.segments (record l.queue { gap = sent.gap }) refl refl)

  words_same : (dst src : ℕ) (acks : List AckWord) → cut_sent With (message_sent With true_segments s (DataAck dst src acks)) ≡
      message_sent With wire_segments (cut_links With s) (DataAck dst src acks)
  words_same dst src acks =
      with_in_use_same (cut_sent With) (TheLink src dst) s (Err NoLink) (Err NoLink) _ _ refl
      (λ n l there here.
      let p = the_link src dst l here in
      sent_check (is_in_turn Running l.queue l.port) LinkState _ _ (λ turn.
      let kept = keeps_silent l p.0 (not_over l turn) in
      carries n l there p.1 kept (sends_acks acks l.segments) refl
      ∙ ap₂ (λ (r : Result (Sending WireSegments (Unit {0})) LinkRefusal) (w : WireSegments). made' n (record (cut_link With l) { segments = w }) r)
      (sends_acks_same l.segments (ordered n l there).segments (answered n l there) acks ∙ ap (wire.sends_acks acks) (sym (kept_segments l kept)))
      (sym (kept_segments l kept))))
    where
      made' : ℕ → LinkOf WireSegments → Result (Sending WireSegments (Unit {0})) LinkRefusal → Result (Sent WireSegments (Unit {0})) LinkRefusal
      made' n l r = on_ok r (λ sent. with_left' n (shows wire_segments OfRun (record l {
        segments = sent.segments;
        queue = record l.queue { gap = wider l.queue.gap (wire.went_on l.segments sent.segments) };
      })))

      carries : (n : ℕ) (l : LinkOf TrueSegments) → slice_get s.links n ≡ Some l → (l.port.own ≡ None → ⊥) → keeps_numbers l ≡ true →
          (r : Result (Sending TrueSegments Numbers) LinkRefusal) → sends_acks acks l.segments ≡ r →
          cut_sent With (on_ok r (λ sent. with_left n l (shows true_segments OfRun (record l {
            segments = sent.segments;
            queue = record l.queue { gap = wider l.queue.gap (segments.went_on l.segments sent.segments) };
          })) sent.known))
          ≡ made' n (record (cut_link With l) { segments = cut l.segments }) (cut_sending r)
      carries n l there own kept (Err refusal) e = refl
      carries n l there own kept (Ok sent) e =
          left_same n l (shows true_segments OfRun (record l {
            segments = sent.segments;
            queue = record l.queue { gap = wider l.queue.gap (segments.went_on l.segments sent.segments) };
          })) _ sent.known
          (kept_shows l own kept sent.segments (record l.queue { gap = wider l.queue.gap (segments.went_on l.segments sent.segments) }) refl refl
          ∙ ap (λ (further : ℕ). shows wire_segments OfRun (record (cut_link With l) {
            segments = cut sent.segments;
            queue = record l.queue { gap = wider l.queue.gap further };
          })) (acks_went l.segments (ordered n l there).segments (answered n l there) acks sent e))

  message_late : (m : NspValue) → cut_sent With (message_sent With true_segments s m) ≡ message_sent With wire_segments (cut_links With s) m
  message_late (ConnectInitiate retransmitted src services info segsize user_data) = unchanged_same (OpenedAt src) Calling
  message_late (ConnectAck dst) =
      with_link_same With (cut_sent With) (BegunBy dst) s _ _ (λ n l. Ok (unchanged true_segments s n l))
      (λ n l. Ok (unchanged wire_segments (cut_links With s) n l))
      (λ none. with_seen_same (cut_sent With) (BegunBy dst) s (Err NoLink) (Err NoLink) (λ n l. Ok (of_no_link true_segments s))
      (λ n l. Ok (of_no_link wire_segments (cut_links With s))) refl (λ n l there here. refl)) (λ n l there here. refl)
  message_late (ConnectConfirm dst src services info segsize user_data) = unchanged_same (TheLink src dst) Confirming
  message_late (DisconnectInitiate dst src reason user_data) = said_same src dst Disconnecting Disconnect
  message_late (DisconnectConfirm dst src reason) = end_same src dst reason
  message_late (DataSegment segment) = segment_same segment
  message_late (DataAck dst src acks) = words_same dst src acks
  message_late (LinkService interrupt dst src rest) = said_same src dst Running OfRun
  message_late (OtherDataAck dst src rest) = said_same src dst Running OfRun
  message_late (NoOperation rest) = refl

  pub sent_late : (packet : Carried) → cut_sent With (links_sent With s packet) ≡ wire_links_sent With (cut_links With s) packet
  sent_late packet =
      sent_check (eqb packet.src s.node && eqb packet.dst s.peer) WrongNode (message_sent With true_segments s packet.message)
      (message_sent With wire_segments (cut_links With s) packet.message) (λ e. message_late packet.message)
