-- What links may send without queues, they may send with them, and the same becomes of the links. Over any book.
use Rattle.std.proofs.Common.{◌≡◌, ℕ, Bool, true, false, not, ◌&&◌, ◌==◌, cond, None, List, Result, Ok, Err, refl, sym, ap, ap₂, ◌∙◌, subst}
use Rattle.std.proofs.lemmas.Bool.{and_parts}
use Rattle.dna_packet.specs.declared.ack_word.AckWord.{AckWord}
use Rattle.dna_packet.specs.Nsp.{SegmentValue, NspValue, DataSegment, LinkService, DataAck, OtherDataAck, ConnectAck, NoOperation, ConnectInitiate}
use Rattle.dna_packet.specs.Nsp.{ConnectConfirm, DisconnectInitiate, DisconnectConfirm}
use Rattle.dna_station.specs.declared.link_refusal.LinkRefusal.{LinkRefusal}
use Rattle.dna_station.specs.declared.link_refusal.LinkRefusal.TheVariants.{WrongNode, NoLink, LinkState}
use Rattle.dna_links.specs.declared.port.Phase.{Phase}
use Rattle.dna_links.specs.declared.port.Phase.TheVariants.{Calling, Confirming, Running, Disconnecting, Ended}
use Rattle.dna_links.specs.declared.port.LinkTest.{LinkTest}
use Rattle.dna_links.specs.declared.port.LinkTest.TheVariants.{HasAddress, TheLink, OpenedAt, CalledBy, BegunBy}
use Rattle.dna_links.specs.declared.queue.Queues.TheVariants.{Without, With}
use Rattle.dna_links.specs.declared.queue.Said.TheVariants.{OfRun, Disconnect}
use Rattle.dna_links.specs.declared.queue.LinkQueue.{LinkQueue}
use Rattle.dna_links.specs.LookUps.{is_in, is_live, is_called, is_at}
use Rattle.dna_links.specs.SegmentBook.{SegmentBook, Sending, Late, wider}
use Rattle.dna_links.specs.Links.{LinkOf, LinksOf, Carried, check, number_of, with_link, changed, with_segments}
use Rattle.dna_links.specs.Queues.{with_in_use, may_send, shows, settled, drops, ended}
use Rattle.dna_links.specs.inner.Forms.{of_no_link, truth_of, unchanged, ending}
use Rattle.dna_links.specs.LinkBook.{on_ok}
use Rattle.dna_links.specs.Sending.{Sent, message_sent, sent_step}
use Rattle.dna_links.proofs.Tables.Outcomes.{IsFound, looked, checked}
use Rattle.dna_links.proofs.Cut.User.{live_if}
use Rattle.dna_links.proofs.AsMuch.Plain.{IsLate, at_found, at_none, plain, plain_links, plain_sent, LetsGo, changed_plain, same_plain}
use Rattle.dna_links.proofs.AsMuch.Plain.{live_segments, live_with, shows_plain, settled_all, drops_plain}
use Rattle.dna_links.proofs.AsMuch.Fit.{Fits, SentFollows, AreSent, AllFit, there, missing, passes_check, set_fits}
use Rattle.dna_links.proofs.AsMuch.Fit.{of_phase, run_may, run_fits, closing_may, closing_fits, settled_fits}

module _ {D K : Type 0} (book : SegmentBook D K) (good : LetsGo book) (s : LinksOf D) (fits : AllFit s) where
  same_made : (x y : Sent D K) → ◌≡◌ {A = Result (Sent D K) LinkRefusal} (Ok x) (Ok y) → x ≡ y
  same_made x y e = cc

  abbrev of_link : LinksOf D → ℕ → LinkOf D → K → Sent D K
  of_link links number link known = record { links = links; truth = truth_of book number link known }

  unchanged_same : (number : ℕ) (m : LinkOf D) → is_live m.port.phase ≡ true →
      plain_sent book (unchanged book s number m) ≡ unchanged book (plain_links book s) number (plain book m)
  unchanged_same number m live =
      ap (λ (f : D). of_link (plain_links book s) number m (book.sends_other f)) (sym (live_segments book m live))

  -- one that changes nothing, or its queue alone
  nothing_more : {o : Result (Sent D K) LinkRefusal} (test : LinkTest) (wanted : Phase) (made : Sent D K) (left : LinkOf D → LinkOf D) →
      is_in wanted Ended ≡ false →
      ((l : LinkOf D) → Fits wanted l.queue → is_in wanted l.port.phase ≡ true → may_send With wanted l ≡ true) →
      ((l : LinkOf D) → plain book (left l) ≡ plain book l) →
      ((l : LinkOf D) → Fits wanted l.queue → is_in wanted l.port.phase ≡ true → Fits (left l).port.phase (left l).queue) →
      o ≡ with_in_use With test s (Err NoLink) (λ n l. check (may_send With wanted l) LinkState
      (Ok (of_link (changed n (left l) s) n (left l) (book.sends_other l.segments)))) →
      with_link test (plain_links book s) (Err NoLink)
      (λ n l. check (is_in wanted l.port.phase) LinkState (Ok (unchanged book (plain_links book s) n l)))
      ≡ Ok made → SentFollows book o made
  nothing_more test wanted made left over may same fit row e =
      looked test (plain_links book s) (Err NoLink) _ (Ok made) e (λ none e. absurd cc)
      (λ number link found e. let c = checked (is_in wanted link.port.phase) LinkState _ made e in
      let t = there book s test number link found in
      let phase : is_in wanted t.m.port.phase ≡ true = ap (λ (x : LinkOf D). is_in wanted x.port.phase) t.is ∙ c.0 in
      let f = of_phase wanted t.m.port.phase phase t.m.queue (fits number t.m t.at) in
      record {
        sent = of_link (changed number (left t.m) s) number (left t.m) (book.sends_other t.m.segments);
        does = row ∙ at_found s test number t.m _ _ t.found t.at ∙ passes_check (may_send With wanted t.m) LinkState _ (may t.m f phase);
        same = ap (λ (x : LinksOf D). of_link x number (left t.m) (book.sends_other t.m.segments))
            (same_plain book number t.m (left t.m) s t.at (same t.m))
            ∙ ap (λ (x : LinkOf D). of_link (plain_links book s) number x (book.sends_other t.m.segments)) (same t.m ∙ t.is)
            ∙ ap (λ (f : D). of_link (plain_links book s) number link (book.sends_other f))
            (sym (live_segments book t.m (live_if (is_in wanted) over t.m.port.phase phase)))
            ∙ ap (λ (x : LinkOf D). of_link (plain_links book s) number link (book.sends_other x.segments)) t.is
            ∙ same_made _ made c.1;
        fit = set_fits s fits number (left t.m) (fit t.m f phase);
      })

  unchanged_more : {o : Result (Sent D K) LinkRefusal} (test : LinkTest) (wanted : Phase) (made : Sent D K) → is_in wanted Ended ≡ false →
      ((l : LinkOf D) → Fits wanted l.queue → may_send With wanted l ≡ true) →
      o ≡ with_in_use With test s (Err NoLink) (λ n l. check (may_send With wanted l) LinkState
      (Ok (unchanged book s n l))) →
      with_link test (plain_links book s) (Err NoLink)
      (λ n l. check (is_in wanted l.port.phase) LinkState (Ok (unchanged book (plain_links book s) n l)))
      ≡ Ok made → SentFollows book o made
  unchanged_more test wanted made over may row e =
      looked test (plain_links book s) (Err NoLink) _ (Ok made) e (λ none e. absurd cc)
      (λ number link found e. let c = checked (is_in wanted link.port.phase) LinkState _ made e in
      let t = there book s test number link found in
      let phase : is_in wanted t.m.port.phase ≡ true = ap (λ (x : LinkOf D). is_in wanted x.port.phase) t.is ∙ c.0 in
      record {
        sent = unchanged book s number t.m;
        does = row ∙ at_found s test number t.m _ _ t.found t.at
            ∙ passes_check (may_send With wanted t.m) LinkState _ (may t.m (of_phase wanted t.m.port.phase phase t.m.queue (fits number t.m t.at)));
        same = unchanged_same number t.m (live_if (is_in wanted) over t.m.port.phase phase)
            ∙ ap (λ (x : LinkOf D). unchanged book (plain_links book s) number x) t.is ∙ same_made _ made c.1;
        fit = fits;
      })

  end_more : (dst src reason : ℕ) (made : Sent D K) →
      message_sent Without book (plain_links book s) (DisconnectConfirm dst src reason) ≡ Ok made →
      SentFollows book (message_sent With book s (DisconnectConfirm dst src reason)) made
  end_more dst src reason made e =
      looked (TheLink src dst) (plain_links book s) _ (λ n l. Err LinkState) (Ok made) e
      (λ none e. go (missing book s (TheLink src dst) none) (src == 0) refl e) (λ n l found e. absurd cc)
    where
      abbrev_of : Bool → Result (Sent D K) LinkRefusal
      abbrev_of b = cond b (with_link {R = Result (Sent D K) LinkRefusal} (CalledBy dst) s (Ok (of_no_link book s))
          (λ n l. Ok (of_link (changed n (drops book With l) s) n (drops book With l) (book.sends_other l.segments))))
          (Ok (record (of_no_link book s)
          { links = with_link (HasAddress src) s s (λ n l. changed n (settled book l.queue.waits l) s) }))

      row : number_of (TheLink src dst) s ≡ None → (b : Bool) → (src == 0) ≡ b →
          message_sent With book s (DisconnectConfirm dst src reason) ≡ abbrev_of b
      row none b is = at_none s (TheLink src dst) _ _ none ∙ ap abbrev_of is

      of_zero : number_of (TheLink src dst) s ≡ None → (src == 0) ≡ true →
          with_link {R = Result (Sent D K) LinkRefusal} (CalledBy dst) (plain_links book s) (Ok (of_no_link book (plain_links book s)))
          (λ n l. Ok (ending book (plain_links book s) n l)) ≡ Ok made →
          SentFollows book (message_sent With book s (DisconnectConfirm dst src reason)) made
      of_zero none is e =
          looked (CalledBy dst) (plain_links book s) (Ok (of_no_link book (plain_links book s))) _ (Ok made) e
          (λ free e. record {
            sent = of_no_link book s;
            does = row none true is ∙ at_none s (CalledBy dst) _ _ (missing book s (CalledBy dst) free);
            same = same_made _ made e;
            fit = fits;
          })
          (λ number link found e. let t = there book s (CalledBy dst) number link found in record {
            sent = of_link (changed number (drops book With t.m) s) number (drops book With t.m) (book.sends_other t.m.segments);
            does = row none true is ∙ at_found s (CalledBy dst) number t.m _ _ t.found t.at;
            same = ap (λ (x : LinksOf D). of_link x number t.m (book.sends_other t.m.segments))
                (changed_plain book number (drops book With t.m) s
                ∙ ap (λ (x : LinkOf D). changed number x (plain_links book s)) (drops_plain book good t.m))
                ∙ ap (λ (f : D). of_link (changed number (ended book (plain book t.m)) (plain_links book s)) number t.m (book.sends_other f))
                (sym (live_segments book t.m (live_if is_called refl t.m.port.phase
                (and_parts (is_called t.m.port.phase) (is_at t.m.port.far dst) t.passed).0)))
                ∙ ap (λ (x : LinkOf D). ending book (plain_links book s) number x) t.is ∙ same_made _ made e;
            fit = set_fits s fits number (drops book With t.m) tt;
          })

      settled_fit : AllFit (with_link (HasAddress src) s s (λ n l. changed n (settled book l.queue.waits l) s))
      settled_fit =
          looked (HasAddress src) s s (λ n l. changed n (settled book l.queue.waits l) s)
          (with_link (HasAddress src) s s (λ n l. changed n (settled book l.queue.waits l) s)) refl
          (λ none e. subst AllFit e fits)
          (λ number link found e. subst AllFit e (set_fits s fits number (settled book link.queue.waits link)
          (settled_fits book link (fits number link found.there))))

      go : number_of (TheLink src dst) s ≡ None → (b : Bool) → (src == 0) ≡ b →
          cond b (with_link {R = Result (Sent D K) LinkRefusal} (CalledBy dst) (plain_links book s) (Ok (of_no_link book (plain_links book s)))
          (λ n l. Ok (ending book (plain_links book s) n l))) (Ok (of_no_link book (plain_links book s))) ≡ Ok made →
          SentFollows book (message_sent With book s (DisconnectConfirm dst src reason)) made
      go none true is e = of_zero none is e
      go none false is e = record {
        sent = record (of_no_link book s)
            { links = with_link (HasAddress src) s s (λ n l. changed n (settled book l.queue.waits l) s) };
        does = row none false is;
        same = ap (λ (x : LinksOf D). record (of_no_link book s) { links = x }) (settled_all book good src s)
            ∙ same_made _ made e;
        fit = settled_fit;
      }

  -- a segment, or acknowledgements, of a link in RUN
  carried_more : (number : ℕ) (m : LinkOf D) (link : LinkOf D) (f : D) (queue : LinkQueue) (known : K) → is_live m.port.phase ≡ true →
      plain book m ≡ link →
      plain_sent book (of_link (changed number (shows book OfRun (record m { segments = f; queue = queue })) s) number
      (shows book OfRun (record m { segments = f; queue = queue })) known)
      ≡ of_link (changed number (with_segments f link) (plain_links book s)) number link known
  carried_more number m link f queue known live is =
      ap (λ (x : LinksOf D). of_link x number m known)
      (changed_plain book number (shows book OfRun (record m { segments = f; queue = queue })) s
      ∙ ap (λ (x : LinkOf D). changed number x (plain_links book s))
      (shows_plain book good OfRun (record m { segments = f; queue = queue }) ∙ live_with book m f live))
      ∙ ap (λ (x : LinkOf D). of_link (changed number (with_segments f x) (plain_links book s)) number x known) is

  carried_fits : (l : LinkOf D) (f : D) (gap : ℕ) → Fits Running l.queue → is_in Running l.port.phase ≡ true →
      Fits (shows book OfRun (record l { segments = f; queue = record l.queue { gap = gap } })).port.phase
      (shows book OfRun (record l { segments = f; queue = record l.queue { gap = gap } })).queue
  carried_fits l f gap fit e = run_fits book (record l { segments = f; queue = record l.queue { gap = gap } }) (fit.0, fit.1, fit.2) e

  segment_more : (segment : SegmentValue) (made : Sent D K) →
      message_sent Without book (plain_links book s) (DataSegment segment) ≡ Ok made →
      SentFollows book (message_sent With book s (DataSegment segment)) made
  segment_more segment made e =
      looked (TheLink segment.srcaddr segment.dstaddr) (plain_links book s) (Err NoLink) _ (Ok made) e (λ none e. absurd cc)
      (λ number link found e. let c = checked (is_in Running link.port.phase) LinkState _ made e in
      go number link found c.0 (book.sends_segment link.segsize segment link.segments) refl c.1)
    where
      go : (number : ℕ) (link : LinkOf D) → IsFound (TheLink segment.srcaddr segment.dstaddr) (plain_links book s) number link →
          is_in Running link.port.phase ≡ true → (r : Result (Sending D K) LinkRefusal) →
          book.sends_segment link.segsize segment link.segments ≡ r →
          on_ok r (λ sent. Ok (of_link (changed number (with_segments sent.segments link) (plain_links book s)) number
          (with_segments sent.segments link) sent.known)) ≡ Ok made → SentFollows book (message_sent With book s (DataSegment segment)) made
      go number link found run (Err refusal) does e = absurd cc
      go number link found run (Ok sent) does e =
          let t = there book s (TheLink segment.srcaddr segment.dstaddr) number link found in
          let phase : is_in Running t.m.port.phase ≡ true = ap (λ (x : LinkOf D). is_in Running x.port.phase) t.is ∙ run in
          let f = of_phase Running t.m.port.phase phase t.m.queue (fits number t.m t.at) in
          let live = live_if (is_in Running) refl t.m.port.phase phase in
          let late = subst (λ (r : Result (Sending D K) LinkRefusal). IsLate r (book.sends_late t.m.queue.gap t.m.segsize segment t.m.segments))
          (ap (λ (f : D). book.sends_segment t.m.segsize segment f) (sym (live_segments book t.m live))
          ∙ ap (λ (x : LinkOf D). book.sends_segment x.segsize segment x.segments) t.is ∙ does)
          (good.late t.m.queue.gap t.m.segsize segment t.m.segments) in
          record {
            sent = of_link (changed number (shows book OfRun
                (record t.m { segments = sent.segments; queue = record t.m.queue { gap = late.0 } })) s) number
                (shows book OfRun (record t.m { segments = sent.segments; queue = record t.m.queue { gap = late.0 } })) sent.known;
            does = at_found s (TheLink segment.srcaddr segment.dstaddr) number t.m _ _ t.found t.at
                ∙ passes_check (may_send With Running t.m) LinkState _ (run_may t.m f phase)
                ∙ ap (λ (r : Result (Late D K) LinkRefusal). on_ok r (λ x. let a : Result (Sent D K) LinkRefusal =
                Ok (of_link (changed number (shows book OfRun
                (record t.m { segments = x.sent.segments; queue = record t.m.queue { gap = x.gap } })) s) number
                (shows book OfRun (record t.m { segments = x.sent.segments; queue = record t.m.queue { gap = x.gap } })) x.sent.known) in a))
                late.1;
            same = carried_more number t.m link sent.segments (record t.m.queue { gap = late.0 }) sent.known live t.is ∙ same_made _ made e;
            fit = set_fits s fits number _ (carried_fits t.m sent.segments late.0 f phase);
          }

  acks_more : (dst src : ℕ) (acks : List AckWord) (made : Sent D K) →
      message_sent Without book (plain_links book s) (DataAck dst src acks) ≡ Ok made →
      SentFollows book (message_sent With book s (DataAck dst src acks)) made
  acks_more dst src acks made e =
      looked (TheLink src dst) (plain_links book s) (Err NoLink) _ (Ok made) e (λ none e. absurd cc)
      (λ number link found e. let c = checked (is_in Running link.port.phase) LinkState _ made e in
      go number link found c.0 (book.sends_acks acks link.segments) refl c.1)
    where
      go : (number : ℕ) (link : LinkOf D) → IsFound (TheLink src dst) (plain_links book s) number link →
          is_in Running link.port.phase ≡ true → (r : Result (Sending D K) LinkRefusal) →
          book.sends_acks acks link.segments ≡ r →
          on_ok r (λ sent. Ok (of_link (changed number (with_segments sent.segments link) (plain_links book s)) number
          (with_segments sent.segments link) sent.known)) ≡ Ok made → SentFollows book (message_sent With book s (DataAck dst src acks)) made
      go number link found run (Err refusal) does e = absurd cc
      go number link found run (Ok sent) does e =
          let t = there book s (TheLink src dst) number link found in
          let phase : is_in Running t.m.port.phase ≡ true = ap (λ (x : LinkOf D). is_in Running x.port.phase) t.is ∙ run in
          let f = of_phase Running t.m.port.phase phase t.m.queue (fits number t.m t.at) in
          let live = live_if (is_in Running) refl t.m.port.phase phase in
          let gap = wider t.m.queue.gap (book.went_on t.m.segments sent.segments) in
          record {
            sent = of_link (changed number (shows book OfRun
                (record t.m { segments = sent.segments; queue = record t.m.queue { gap = gap } })) s) number
                (shows book OfRun (record t.m { segments = sent.segments; queue = record t.m.queue { gap = gap } })) sent.known;
            does = at_found s (TheLink src dst) number t.m _ _ t.found t.at
                ∙ passes_check (may_send With Running t.m) LinkState _ (run_may t.m f phase)
                ∙ ap (λ (r : Result (Sending D K) LinkRefusal). on_ok r (λ x. let a : Result (Sent D K) LinkRefusal =
                Ok (of_link (changed number (shows book OfRun (record t.m {
                  segments = x.segments;
                  queue = record t.m.queue { gap = wider t.m.queue.gap (book.went_on t.m.segments x.segments) };
                })) s) number
                (shows book OfRun (record t.m {
                  segments = x.segments;
                  queue = record t.m.queue { gap = wider t.m.queue.gap (book.went_on t.m.segments x.segments) };
                })) x.known) in a))
                (ap (λ (f : D). book.sends_acks acks f) (sym (live_segments book t.m live))
                ∙ ap (λ (x : LinkOf D). book.sends_acks acks x.segments) t.is ∙ does);
            same = carried_more number t.m link sent.segments (record t.m.queue { gap = gap }) sent.known live t.is ∙ same_made _ made e;
            fit = set_fits s fits number _ (carried_fits t.m sent.segments gap f phase);
          }

  message_more : (m : NspValue) (made : Sent D K) → message_sent Without book (plain_links book s) m ≡ Ok made →
      SentFollows book (message_sent With book s m) made
  message_more (ConnectInitiate retransmitted src services info segsize user_data) made e =
      unchanged_more (OpenedAt src) Calling made refl (λ l f. f.1) refl e
  message_more (ConnectAck dst) made e =
      looked (BegunBy dst) (plain_links book s) (Err NoLink) (λ n l. Ok (unchanged book (plain_links book s) n l)) (Ok made) e (λ none e. absurd cc)
      (λ number link found e. let t = there book s (BegunBy dst) number link found in record {
        sent = unchanged book s number t.m;
        does = at_found s (BegunBy dst) number t.m _ _ t.found t.at;
        same = unchanged_same number t.m (and_parts (is_live t.m.port.phase) (not t.m.port.opened && is_at t.m.port.far dst) t.passed).0
            ∙ ap (λ (x : LinkOf D). unchanged book (plain_links book s) number x) t.is ∙ same_made _ made e;
        fit = fits;
      })
  message_more (ConnectConfirm dst src services info segsize user_data) made e =
      unchanged_more (TheLink src dst) Confirming made refl (λ l f. ap₂ (λ (b c : Bool). b && c) f.1 f.2) refl e
  message_more (DisconnectInitiate dst src reason user_data) made e =
      nothing_more (TheLink src dst) Disconnecting made (shows book Disconnect) refl closing_may (shows_plain book good Disconnect)
      (closing_fits book) refl e
  message_more (DisconnectConfirm dst src reason) made e = end_more dst src reason made e
  message_more (DataSegment segment) made e = segment_more segment made e
  message_more (DataAck dst src acks) made e = acks_more dst src acks made e
  message_more (LinkService interrupt dst src rest) made e =
      nothing_more (TheLink src dst) Running made (shows book OfRun) refl run_may (shows_plain book good OfRun) (run_fits book) refl e
  message_more (OtherDataAck dst src rest) made e =
      nothing_more (TheLink src dst) Running made (shows book OfRun) refl run_may (shows_plain book good OfRun) (run_fits book) refl e
  message_more (NoOperation rest) made e = record { sent = of_no_link book s; does = refl; same = same_made _ made e; fit = fits }

  sent_follows : (packet : Carried) (made : Sent D K) → sent_step Without book (plain_links book s) packet ≡ Ok made →
      SentFollows book (sent_step With book s packet) made
  sent_follows packet made e =
      let c = checked ((packet.src == s.node) && (packet.dst == s.peer)) WrongNode _ made e in
      let f = message_more packet.message made c.1 in
      record {
        sent = f.sent;
        does = passes_check ((packet.src == s.node) && (packet.dst == s.peer)) WrongNode _ c.0 ∙ f.does;
        same = f.same;
        fit = f.fit;
      }

  pub sent_done : (packet : Carried) → AreSent book (sent_step Without book (plain_links book s) packet) (sent_step With book s packet)
  sent_done packet = go (sent_step Without book (plain_links book s) packet) refl
    where
      go : (o : Result (Sent D K) LinkRefusal) → sent_step Without book (plain_links book s) packet ≡ o →
          AreSent book o (sent_step With book s packet)
      go (Ok made) e = sent_follows packet made e
      go (Err refusal) e = tt
