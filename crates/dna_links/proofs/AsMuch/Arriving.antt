-- What comes does the same to links with queues as to those without. Over any book.
use Rattle.std.proofs.Common.{◌≡◌, ℕ, Bool, true, false, ◌&&◌, ◌==◌, Some, Result, Ok, Err, refl, sym, ap, ◌∙◌}
use Rattle.std.proofs.lemmas.Bool.{and_parts}
use Rattle.dna_packet.specs.Nsp.{NspValue, DataSegment, LinkService, DataAck, OtherDataAck, ConnectAck, NoOperation, ConnectInitiate}
use Rattle.dna_packet.specs.Nsp.{ConnectConfirm, DisconnectInitiate, DisconnectConfirm}
use Rattle.dna_station.specs.declared.link_refusal.LinkRefusal.{LinkRefusal}
use Rattle.dna_station.specs.declared.link_refusal.LinkRefusal.TheVariants.{WrongNode, CrossedLink}
use Rattle.dna_links.specs.declared.port.Phase.{Phase}
use Rattle.dna_links.specs.declared.port.Phase.TheVariants.{Calling, Confirming, Running}
use Rattle.dna_links.specs.declared.port.LinkTest.TheVariants.{TheLink, LiveTo, CallingAt, ActedOn}
use Rattle.dna_links.specs.declared.queue.Queues.TheVariants.{Without, With}
use Rattle.dna_links.specs.declared.queue.LinkQueue.{LinkQueue}
use Rattle.dna_links.specs.LookUps.{is_in, is_live, is_calling, is_connected, is_at, has_both}
use Rattle.dna_links.specs.SegmentBook.{SegmentBook}
use Rattle.dna_links.specs.Links.{LinkOf, LinksOf, Carried, LinkTruth, check, with_link, begun, changed, in_phase, with_segments}
use Rattle.dna_links.specs.Queues.{reached, goes_on, ended, ends_by_message}
use Rattle.dna_links.specs.inner.Forms.{called, confirmed, running}
use Rattle.dna_links.specs.Arriving.{PartnerRule, is_for, is_of_pair, message_arrived, arrived_step}
use Rattle.dna_links.proofs.Tables.Outcomes.{looked, checked}
use Rattle.dna_links.proofs.Cut.User.{live_if}
use Rattle.dna_links.proofs.AsMuch.Plain.{at_found, at_none, plain, plain_links, LetsGo, changed_plain, begun_plain, live_segments, ends_plain}
use Rattle.dna_links.proofs.AsMuch.Fit.{Fits, Follows, AreDone, silent_before, AllFit, there, missing, passes_check, set_fits, begun_fits, of_phase}

module _ {D K : Type 0} (book : SegmentBook D K) (good : LetsGo book) (rule : PartnerRule) (s : LinksOf D) (fits : AllFit s)
    (truth : LinkTruth K) where
  same_left : (x y : LinksOf D) → ◌≡◌ {A = Result (LinksOf D) LinkRefusal} (Ok x) (Ok y) → x ≡ y
  same_left x y e = cc

  stays_so : {o : Result (LinksOf D) LinkRefusal} (left : LinksOf D) → o ≡ Ok s →
      ◌≡◌ {A = Result (LinksOf D) LinkRefusal} (Ok (plain_links book s)) (Ok left) → Follows book o left
  stays_so left does e = record { links = s; does = does; same = same_left (plain_links book s) left e; fit = fits }

  -- this link becomes that
  becomes : {o : Result (LinksOf D) LinkRefusal} (number : ℕ) (now now' : LinkOf D) (left : LinksOf D) → o ≡ Ok (changed number now s) →
      plain book now ≡ now' → Fits now.port.phase now.queue →
      ◌≡◌ {A = Result (LinksOf D) LinkRefusal} (Ok (changed number now' (plain_links book s))) (Ok left) → Follows book o left
  becomes number now now' left does is fit e = record {
    links = changed number now s;
    does = does;
    same = changed_plain book number now s ∙ ap (λ (x : LinkOf D). changed number x (plain_links book s)) is ∙ same_left _ left e;
    fit = set_fits s fits number now fit;
  }

  ends_more : {o : Result (LinksOf D) LinkRefusal} (own far : ℕ) (left : LinksOf D) → o ≡ with_link (TheLink own far) s
      (with_link {R = Result (LinksOf D) LinkRefusal} (CallingAt own) s (Ok s) (λ n l. Ok (changed n (ends_by_message book With l) s)))
      (λ n l. Ok (changed n (ends_by_message book With l) s)) →
      with_link (TheLink own far) (plain_links book s)
      (with_link {R = Result (LinksOf D) LinkRefusal} (CallingAt own) (plain_links book s) (Ok (plain_links book s))
      (λ n l. Ok (changed n (ended book l) (plain_links book s))))
      (λ n l. Ok (changed n (ended book l) (plain_links book s))) ≡ Ok left → Follows book o left
  ends_more own far left row e =
      looked (TheLink own far) (plain_links book s) _ _ (Ok left) e
      (λ none e. looked (CallingAt own) (plain_links book s) (Ok (plain_links book s)) _ (Ok left) e
      (λ free e. stays_so left (row ∙ at_none s (TheLink own far) _ _ (missing book s (TheLink own far) none)
      ∙ at_none s (CallingAt own) _ _ (missing book s (CallingAt own) free)) e)
      (λ number link found e. let t = there book s (CallingAt own) number link found in
      becomes number (ends_by_message book With t.m) (ended book link) left
      (row ∙ at_none s (TheLink own far) _ _ (missing book s (TheLink own far) none) ∙ at_found s (CallingAt own) number t.m _ _ t.found t.at)
      (ends_plain book good t.m ∙ ap (ended book) t.is) tt e))
      (λ number link found e. let t = there book s (TheLink own far) number link found in
      becomes number (ends_by_message book With t.m) (ended book link) left
      (row ∙ at_found s (TheLink own far) number t.m _ _ t.found t.at) (ends_plain book good t.m ∙ ap (ended book) t.is) tt e)

  -- a live link, before RUN or in it, goes on to RUN
  to_run : (phase : Phase) (q : LinkQueue) → Fits phase q → is_connected phase ≡ true → Fits Running (reached Running q)
  to_run Confirming q f e = (f.0, refl, silent_before q.said f.2)
  to_run Running q f e = (f.0, refl, f.2)
  to_run phase q f e = absurd cc

  acts_more : {o : Result (LinksOf D) LinkRefusal} (own far : ℕ) (takes : D → D) (left : LinksOf D) → o ≡ with_link (ActedOn own far) s (Ok s)
      (λ n l. check (rule (is_of_pair n l.partner truth.tag)) CrossedLink
      (Ok (changed n (with_segments (takes (goes_on book (is_live l.port.phase) Running l).segments)
      (goes_on book (is_live l.port.phase) Running l)) s))) →
      with_link (ActedOn own far) (plain_links book s) (Ok (plain_links book s)) (λ n l. check (rule (is_of_pair n l.partner truth.tag)) CrossedLink
      (Ok (changed n (running book rule (λ x. takes x.segments) l) (plain_links book s)))) ≡ Ok left → Follows book o left
  acts_more own far takes left row e =
      looked (ActedOn own far) (plain_links book s) (Ok (plain_links book s)) _ (Ok left) e
      (λ none e. stays_so left (row ∙ at_none s (ActedOn own far) _ _ (missing book s (ActedOn own far) none)) e)
      (λ number link found e. let c = checked (rule (is_of_pair number link.partner truth.tag)) CrossedLink _ left e in
      let t = there book s (ActedOn own far) number link found in
      let connected = (and_parts (is_connected t.m.port.phase) (has_both t.m.port own far) t.passed).0 in
      let live = live_if is_connected refl t.m.port.phase connected in
      let now = with_segments (takes (goes_on book (is_live t.m.port.phase) Running t.m).segments)
      (goes_on book (is_live t.m.port.phase) Running t.m) in
      becomes number now (running book rule (λ x. takes x.segments) link) left
      (row ∙ at_found s (ActedOn own far) number t.m _ _ t.found t.at
      ∙ passes_check (rule (is_of_pair number t.m.partner truth.tag)) CrossedLink _
      (ap (λ (x : LinkOf D). rule (is_of_pair number x.partner truth.tag)) t.is ∙ c.0))
      (go t.m live (is_live t.m.port.phase) live ∙ ap (running book rule (λ x. takes x.segments)) t.is)
      (fit t.m (is_live t.m.port.phase) live (to_run t.m.port.phase t.m.queue (fits number t.m t.at) connected)) c.1)
    where
      go : (l : LinkOf D) → is_live l.port.phase ≡ true → (b : Bool) → b ≡ true →
          plain book (with_segments (takes (goes_on book b Running l).segments) (goes_on book b Running l)) ≡
          running book rule (λ x. takes x.segments) (plain book l)
      go l live true e = ap (λ (f : D). with_segments (takes f) (in_phase Running (plain book l))) (sym (live_segments book l live))
      go l live false e = absurd cc

      fit : (l : LinkOf D) (b : Bool) → b ≡ true → Fits Running (reached Running l.queue) →
          Fits (goes_on book b Running l).port.phase (goes_on book b Running l).queue
      fit l true e f = f
      fit l false e f = absurd cc

  came_more : (m : NspValue) (left : LinksOf D) → message_arrived Without book rule (plain_links book s) m truth ≡ Ok left →
      Follows book (message_arrived With book rule s m truth) left
  came_more (ConnectInitiate retransmitted src services info segsize user_data) left e =
      looked (LiveTo src) (plain_links book s) (Ok (begun (called book rule src segsize truth.tag) (plain_links book s)))
      (λ n l. Ok (plain_links book s)) (Ok left) e
      (λ none e. record {
        links = begun (called book rule src segsize truth.tag) s;
        does = at_none s (LiveTo src) _ _ (missing book s (LiveTo src) none);
        same = begun_plain book (called book rule src segsize truth.tag) s ∙ same_left _ left e;
        fit = begun_fits s fits (called book rule src segsize truth.tag) (refl, refl);
      })
      (λ number link found e. let t = there book s (LiveTo src) number link found in
      stays_so left (at_found s (LiveTo src) number t.m _ _ t.found t.at) e)
  came_more (ConnectAck dst) left e = stays_so left refl e
  came_more (NoOperation rest) left e = stays_so left refl e
  came_more (ConnectConfirm dst src services info segsize user_data) left e =
      looked (CallingAt dst) (plain_links book s) (Ok (plain_links book s)) _ (Ok left) e
      (λ none e. stays_so left (at_none s (CallingAt dst) _ _ (missing book s (CallingAt dst) none)) e)
      (λ number link found e. let c = checked (rule (is_for number truth.tag)) CrossedLink _ left e in
      let t = there book s (CallingAt dst) number link found in
      let calling = (and_parts (is_calling t.m.port.phase) (is_at t.m.port.own dst) t.passed).0 in
      let live = live_if is_calling refl t.m.port.phase calling in
      becomes number
      (goes_on book (is_live t.m.port.phase) Running
      (record t.m { port = record t.m.port { far = Some src }; partner = truth.tag.link; segsize = segsize }))
      (confirmed book rule src segsize truth.tag link) left
      (at_found s (CallingAt dst) number t.m _ _ t.found t.at ∙ passes_check (rule (is_for number truth.tag)) CrossedLink _ c.0)
      (go t.m live (is_live t.m.port.phase) live ∙ ap (confirmed book rule src segsize truth.tag) t.is)
      (fit t.m (is_live t.m.port.phase) live
      (of_phase Calling t.m.port.phase (same_phase t.m.port.phase calling) t.m.queue (fits number t.m t.at))) c.1)
    where
      same_phase : (phase : Phase) → is_calling phase ≡ true → is_in Calling phase ≡ true
      same_phase phase e = e

      go : (l : LinkOf D) → is_live l.port.phase ≡ true → (b : Bool) → b ≡ true →
          plain book (goes_on book b Running (record l { port = record l.port { far = Some src }; partner = truth.tag.link; segsize = segsize }))
          ≡ confirmed book rule src segsize truth.tag (plain book l)
      go l live true e =
          ap (λ (f : D). with_segments f (confirmed book rule src segsize truth.tag (plain book l))) (sym (live_segments book l live))
      go l live false e = absurd cc

      fit : (l : LinkOf D) (b : Bool) → b ≡ true → Fits Calling l.queue →
          Fits (goes_on book b Running
          (record l { port = record l.port { far = Some src }; partner = truth.tag.link; segsize = segsize })).port.phase
          (goes_on book b Running
          (record l { port = record l.port { far = Some src }; partner = truth.tag.link; segsize = segsize })).queue
      fit l true e f = (f.0, refl, silent_before l.queue.said f.1)
      fit l false e f = absurd cc
  came_more (DisconnectInitiate dst src reason user_data) left e = ends_more dst src left refl e
  came_more (DisconnectConfirm dst src reason) left e = ends_more dst src left refl e
  came_more (DataSegment segment) left e =
      acts_more segment.dstaddr segment.srcaddr (book.takes_segment segment truth.known) left refl e
  came_more (DataAck dst src acks) left e = acts_more dst src (book.takes_acks acks truth.known) left refl e
  came_more (LinkService interrupt dst src rest) left e = acts_more dst src (λ f. f) left refl e
  came_more (OtherDataAck dst src rest) left e = acts_more dst src (λ f. f) left refl e

  arrived_follows : (packet : Carried) (left : LinksOf D) → arrived_step Without book rule (plain_links book s) packet truth ≡ Ok left →
      Follows book (arrived_step With book rule s packet truth) left
  arrived_follows packet left e =
      let c = checked ((packet.src == s.peer) && (packet.dst == s.node)) WrongNode _ left e in
      let f = came_more packet.message left c.1 in
      record {
        links = f.links;
        does = passes_check ((packet.src == s.peer) && (packet.dst == s.node)) WrongNode _ c.0 ∙ f.does;
        same = f.same;
        fit = f.fit;
      }

  pub arrived_done : (packet : Carried) →
      AreDone book (arrived_step Without book rule (plain_links book s) packet truth) (arrived_step With book rule s packet truth)
  arrived_done packet = go (arrived_step Without book rule (plain_links book s) packet truth) refl
    where
      go : (o : Result (LinksOf D) LinkRefusal) → arrived_step Without book rule (plain_links book s) packet truth ≡ o →
          AreDone book o (arrived_step With book rule s packet truth)
      go (Ok left) e = arrived_follows packet left e
      go (Err refusal) e = tt
