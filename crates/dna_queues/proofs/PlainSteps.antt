-- What links without queues send and take the links of a node with queues for which nothing waits send and take as well.
use Rattle.dna_queues.proofs.Prelude.{◌≡◌, ℕ, Bool, true, false, ◌==◌, cond, Option, None, List, Result, Ok, Err, refl, ap, ◌∙◌, AckWord}
use Rattle.dna_queues.proofs.Prelude.{SegmentValue, NspValue, DataSegment, LinkService, DataAck, OtherDataAck, ConnectAck, NoOperation}
use Rattle.dna_queues.proofs.Prelude.{ConnectInitiate, ConnectConfirm, DisconnectInitiate, DisconnectConfirm, LinkRefusal, NoLink, LinkState}
use Rattle.dna_queues.proofs.Prelude.{CrossedLink, Phase, Calling, Confirming, Running, Disconnecting, LinkTest, TheLink, LiveTo, OpenedAt}
use Rattle.dna_queues.proofs.Prelude.{CallingAt, CalledBy, BegunBy, ActedOn, Without, is_in, Sending, Late, LinkTruth, check, number_of, with_link}
use Rattle.dna_queues.proofs.Prelude.{begun, changed, with_segments, on_ok, ended, of_no_link, truth_of, unchanged, ending, called, confirmed}
use Rattle.dna_queues.proofs.Prelude.{running, Sent, message_sent, of_partner, is_for, is_of_pair, message_arrived, TrueSegments, Numbers}
use Rattle.dna_queues.proofs.Prelude.{sends_segment, sends_acks, takes_segment, takes_acks, true_segments, looked, checked, LateSegments}
use Rattle.dna_queues.proofs.Prelude.{late_segments, late_sent, acks_sent, over, Links}
use Rattle.dna_links.specs.TrueLinks as plain
use Rattle.dna_queues.proofs.Facts.{passed_check, same_Ok, same_links, was_ok}
use Rattle.dna_queues.proofs.{Goes.Link, Acting.LateLink, LinkLists.at_found, LinkLists.at_none, PlainWords.sends_too}
use Rattle.dna_queues.proofs.Forgotten.{forget, forget_links, changed_forget, begun_forget, there, missing}

module _ (s : Links) where
  -- ---- what is sent

  pub record MessageToo (m : NspValue) (left : plain.Links) : Type 0 where
    pub made : Sent LateSegments Numbers
    pub does : message_sent Without late_segments s m ≡ Ok made
    pub same : forget_links made.links ≡ left

  in_phase_too : (m : NspValue) (test : LinkTest) (phase : Phase) (made : Sent TrueSegments Numbers) →
      message_sent Without late_segments s m ≡ with_link test s (Err NoLink)
      (λ n h. check (is_in phase h.port.phase) LinkState (Ok (unchanged late_segments s n h))) →
      with_link test (forget_links s) (Err NoLink)
      (λ n l. check (is_in phase l.port.phase) LinkState (Ok (unchanged true_segments (forget_links s) n l))) ≡ Ok made → MessageToo m made.links
  in_phase_too m test phase made row e =
      looked test (forget_links s) (Err NoLink) _ (Ok made) e (λ none e. absurd cc)
      (λ n l found e. let c = checked (is_in phase l.port.phase) LinkState _ made e in
      let t = there s test n l found in
      record {
        made = unchanged late_segments s n t.h;
        does = row ∙ at_found test s n t.h _ _ t.found
            ∙ passed_check (is_in phase t.h.port.phase) LinkState _ (ap (λ (x : Link). is_in phase x.port.phase) t.is ∙ c.0);
        same = same_links _ made c.1;
      })

  segment_too : (segment : SegmentValue) (made : Sent TrueSegments Numbers) →
      message_sent Without true_segments (forget_links s) (DataSegment segment) ≡ Ok made → MessageToo (DataSegment segment) made.links
  segment_too segment made e =
      looked (TheLink segment.srcaddr segment.dstaddr) (forget_links s) (Err NoLink) _ (Ok made) e (λ none e. absurd cc)
      (λ n l found e. let c = checked (is_in Running l.port.phase) LinkState _ made e in
      let o = was_ok (sends_segment l.segsize segment l.segments) _ made c.1 in
      let sent = o.0 in
      let t = there s (TheLink segment.srcaddr segment.dstaddr) n l found in
      let g = sends_too t.h.segments.gap t.h.segsize segment t.h.segments.segments sent
      (ap (λ (x : Link). sends_segment x.segsize segment x.segments) t.is ∙ o.1) in
      let d = late_sent (record { sent = sent; gap = g.left }) in
      record {
        made = record { links = changed n (with_segments d.segments t.h) s; truth = truth_of late_segments n t.h d.known };
        does = at_found (TheLink segment.srcaddr segment.dstaddr) s n t.h _ _ t.found
            ∙ passed_check (is_in Running t.h.port.phase) LinkState _ (ap (λ (x : Link). is_in Running x.port.phase) t.is ∙ c.0)
            ∙ ap (λ (r : Result (Late TrueSegments Numbers) LinkRefusal). on_ok
            (on_ok r (λ late. let a : Result (Sending LateSegments Numbers) LinkRefusal = Ok (late_sent late) in a))
            (λ x. let a : Result (Sent LateSegments Numbers) LinkRefusal = Ok (record {
              links = changed n (with_segments x.segments t.h) s;
              truth = truth_of late_segments n t.h x.known;
            }) in a)) g.is;
        same = changed_forget n (with_segments d.segments t.h) s
            ∙ ap (λ (x : Link). changed n (with_segments sent.segments x) (forget_links s)) t.is ∙ same_links _ made o.2;
      })

  acks_too : (dst src : ℕ) (acks : List AckWord) (made : Sent TrueSegments Numbers) →
      message_sent Without true_segments (forget_links s) (DataAck dst src acks) ≡ Ok made → MessageToo (DataAck dst src acks) made.links
  acks_too dst src acks made e =
      looked (TheLink src dst) (forget_links s) (Err NoLink) _ (Ok made) e (λ none e. absurd cc)
      (λ n l found e. let c = checked (is_in Running l.port.phase) LinkState _ made e in
      let o = was_ok (sends_acks acks l.segments) _ made c.1 in
      let sent = o.0 in
      let t = there s (TheLink src dst) n l found in
      let d = acks_sent t.h.segments sent in
      record {
        made = record { links = changed n (with_segments d.segments t.h) s; truth = truth_of late_segments n t.h d.known };
        does = at_found (TheLink src dst) s n t.h _ _ t.found
            ∙ passed_check (is_in Running t.h.port.phase) LinkState _ (ap (λ (x : Link). is_in Running x.port.phase) t.is ∙ c.0)
            ∙ ap (λ (r : Result (Sending TrueSegments Numbers) LinkRefusal). on_ok
            (on_ok r (λ x. let a : Result (Sending LateSegments Numbers) LinkRefusal = Ok (acks_sent t.h.segments x) in a))
            (λ x. let a : Result (Sent LateSegments Numbers) LinkRefusal = Ok (record {
              links = changed n (with_segments x.segments t.h) s;
              truth = truth_of late_segments n t.h x.known;
            }) in a)) (ap (λ (x : Link). sends_acks acks x.segments) t.is ∙ o.1);
        same = changed_forget n (with_segments d.segments t.h) s
            ∙ ap (λ (x : Link). changed n (with_segments sent.segments x) (forget_links s)) t.is ∙ same_links _ made o.2;
      })

  end_too : (dst src reason : ℕ) (made : Sent TrueSegments Numbers) →
      message_sent Without true_segments (forget_links s) (DisconnectConfirm dst src reason) ≡ Ok made →
      MessageToo (DisconnectConfirm dst src reason) made.links
  end_too dst src reason made e =
      looked (TheLink src dst) (forget_links s) _ (λ n l. Err LinkState) (Ok made) e (λ none e. go (missing s (TheLink src dst) none) (src == 0)
      refl e)
      (λ n l found e. absurd cc)
    where
      by_zero : Bool → Result (Sent LateSegments Numbers) LinkRefusal
      by_zero z = cond z (with_link {R = Result (Sent LateSegments Numbers) LinkRefusal} (CalledBy dst) s (Ok (of_no_link late_segments s))
          (λ n h. Ok (ending late_segments s n h))) (Ok (of_no_link late_segments s))

      row : number_of (TheLink src dst) s ≡ None → (z : Bool) → (src == 0) ≡ z →
          message_sent Without late_segments s (DisconnectConfirm dst src reason) ≡ by_zero z
      row none z is = at_none (TheLink src dst) s _ _ none ∙ ap by_zero is

      go : number_of (TheLink src dst) s ≡ None → (z : Bool) → (src == 0) ≡ z →
          cond z (with_link {R = Result (Sent TrueSegments Numbers) LinkRefusal} (CalledBy dst) (forget_links s)
          (Ok (of_no_link true_segments (forget_links s))) (λ n l. Ok (ending true_segments (forget_links s) n l)))
          (Ok (of_no_link true_segments (forget_links s))) ≡ Ok made → MessageToo (DisconnectConfirm dst src reason) made.links
      go none false is e = record { made = of_no_link late_segments s; does = row none false is; same = same_links _ made e }
      go none true is e =
          looked (CalledBy dst) (forget_links s) (Ok (of_no_link true_segments (forget_links s))) (λ n l. Ok (ending true_segments (forget_links
          s) n l))
          (Ok made) e
          (λ free e. record {
            made = of_no_link late_segments s;
            does = row none true is ∙ at_none (CalledBy dst) s _ _ (missing s (CalledBy dst) free);
            same = same_links _ made e;
          })
          (λ n l found e. let t = there s (CalledBy dst) n l found in record {
            made = ending late_segments s n t.h;
            does = row none true is ∙ at_found (CalledBy dst) s n t.h _ _ t.found;
            same = changed_forget n (ended late_segments t.h) s
                ∙ ap (λ (x : Link). changed n (ended true_segments x) (forget_links s)) t.is ∙ same_links _ made e;
          })

  pub message_too : (m : NspValue) (made : Sent TrueSegments Numbers) → message_sent Without true_segments (forget_links s) m ≡ Ok made →
      MessageToo m made.links
  message_too (ConnectInitiate retransmitted src services info segsize user_data) made e = in_phase_too _ (OpenedAt src) Calling made refl e
  message_too (ConnectAck dst) made e =
      looked (BegunBy dst) (forget_links s) (Err NoLink) (λ n l. Ok (unchanged true_segments (forget_links s) n l)) (Ok made) e (λ none e. absurd cc)
      (λ n l found e. let t = there s (BegunBy dst) n l found in record {
        made = unchanged late_segments s n t.h;
        does = at_found (BegunBy dst) s n t.h _ _ t.found;
        same = same_links _ made e;
      })
  message_too (ConnectConfirm dst src services info segsize user_data) made e = in_phase_too _ (TheLink src dst) Confirming made refl e
  message_too (DisconnectInitiate dst src reason user_data) made e = in_phase_too _ (TheLink src dst) Disconnecting made refl e
  message_too (DisconnectConfirm dst src reason) made e = end_too dst src reason made e
  message_too (DataSegment segment) made e = segment_too segment made e
  message_too (DataAck dst src acks) made e = acks_too dst src acks made e
  message_too (LinkService interrupt dst src rest) made e = in_phase_too _ (TheLink src dst) Running made refl e
  message_too (OtherDataAck dst src rest) made e = in_phase_too _ (TheLink src dst) Running made refl e
  message_too (NoOperation rest) made e = record { made = of_no_link late_segments s; does = refl; same = same_links _ made e }

  -- ---- what comes

  module _ (truth : LinkTruth Numbers) where
    pub record CameToo (m : NspValue) (left : plain.Links) : Type 0 where
      pub links : Links
      pub does : message_arrived Without late_segments of_partner s m truth ≡ Ok links
      pub same : forget_links links ≡ left

    stays_too : (m : NspValue) (left : plain.Links) → message_arrived Without late_segments of_partner s m truth ≡ Ok s →
        ◌≡◌ {A = Result plain.Links LinkRefusal} (Ok (forget_links s)) (Ok left) → CameToo m left
    stays_too m left does e = record { links = s; does = does; same = same_Ok (forget_links s) left e }

    row_too : (m : NspValue) (test : LinkTest) (may : ℕ → Option ℕ → Bool) (f : LateLink → LateLink) (g : Link → Link) (left : plain.Links) →
        ((h : LateLink) → forget (f h) ≡ g (forget h)) →
        message_arrived Without late_segments of_partner s m truth
        ≡ with_link test s (Ok s) (λ n h. check (may n h.partner) CrossedLink (Ok (changed n (f h) s))) →
        with_link {R = Result plain.Links LinkRefusal} test (forget_links s) (Ok (forget_links s))
        (λ n l. check (may n l.partner) CrossedLink (Ok (changed n (g l) (forget_links s)))) ≡ Ok left → CameToo m left
    row_too m test may f g left same row e =
        looked test (forget_links s) (Ok (forget_links s)) _ (Ok left) e
        (λ none e. stays_too m left (row ∙ at_none test s _ _ (missing s test none)) e)
        (λ n l found e. let c = checked (may n l.partner) CrossedLink _ left e in
        let t = there s test n l found in
        record {
          links = changed n (f t.h) s;
          does = row ∙ at_found test s n t.h _ _ t.found
              ∙ passed_check (may n t.h.partner) CrossedLink _ (ap (λ (x : Link). may n x.partner) t.is ∙ c.0);
          same = changed_forget n (f t.h) s ∙ ap (λ (x : Link). changed n x (forget_links s)) (same t.h ∙ ap g t.is) ∙ same_Ok _ left c.1;
        })

    ends_too : (m : NspValue) (own far : ℕ) (left : plain.Links) →
        message_arrived Without late_segments of_partner s m truth ≡ with_link (TheLink own far) s
        (with_link {R = Result Links LinkRefusal} (CallingAt own) s (Ok s) (λ n h. Ok (changed n (ended late_segments h) s)))
        (λ n h. Ok (changed n (ended late_segments h) s)) →
        with_link (TheLink own far) (forget_links s)
        (with_link {R = Result plain.Links LinkRefusal} (CallingAt own) (forget_links s) (Ok (forget_links s))
        (λ n l. Ok (changed n (ended true_segments l) (forget_links s))))
        (λ n l. Ok (changed n (ended true_segments l) (forget_links s))) ≡ Ok left → CameToo m left
    ends_too m own far left row e =
        looked (TheLink own far) (forget_links s) _ _ (Ok left) e
        (λ none e. looked (CallingAt own) (forget_links s) (Ok (forget_links s)) _ (Ok left) e
        (λ free e. stays_too m left (row ∙ at_none (TheLink own far) s _ _ (missing s (TheLink own far) none)
        ∙ at_none (CallingAt own) s _ _ (missing s (CallingAt own) free)) e)
        (λ n l found e. let t = there s (CallingAt own) n l found in record {
          links = changed n (ended late_segments t.h) s;
          does = row ∙ at_none (TheLink own far) s _ _ (missing s (TheLink own far) none) ∙ at_found (CallingAt own) s n t.h _ _ t.found;
          same = changed_forget n (ended late_segments t.h) s
              ∙ ap (λ (x : Link). changed n (ended true_segments x) (forget_links s)) t.is ∙ same_Ok _ left e;
        }))
        (λ n l found e. let t = there s (TheLink own far) n l found in record {
          links = changed n (ended late_segments t.h) s;
          does = row ∙ at_found (TheLink own far) s n t.h _ _ t.found;
          same = changed_forget n (ended late_segments t.h) s
              ∙ ap (λ (x : Link). changed n (ended true_segments x) (forget_links s)) t.is ∙ same_Ok _ left e;
        })

    pub came_too : (m : NspValue) (left : plain.Links) → message_arrived Without true_segments of_partner (forget_links s) m truth ≡ Ok left →
        CameToo m left
    came_too (ConnectInitiate retransmitted src services info segsize user_data) left e =
        looked (LiveTo src) (forget_links s) (Ok (begun (called true_segments of_partner src segsize truth.tag) (forget_links s)))
        (λ n l. Ok (forget_links s)) (Ok left) e
        (λ none e. record {
          links = begun (called late_segments of_partner src segsize truth.tag) s;
          does = at_none (LiveTo src) s _ _ (missing s (LiveTo src) none);
          same = begun_forget (called late_segments of_partner src segsize truth.tag) s ∙ same_Ok _ left e;
        })
        (λ n l found e. let t = there s (LiveTo src) n l found in stays_too _ left (at_found (LiveTo src) s n t.h _ _ t.found) e)
    came_too (ConnectConfirm dst src services info segsize user_data) left e =
        row_too _ (CallingAt dst) (λ n partner. is_for n truth.tag) (confirmed late_segments of_partner src segsize truth.tag)
        (confirmed true_segments of_partner src segsize truth.tag) left (λ h. refl) refl e
    came_too (DisconnectInitiate dst src reason user_data) left e = ends_too _ dst src left refl e
    came_too (DisconnectConfirm dst src reason) left e = ends_too _ dst src left refl e
    came_too (DataSegment g) left e =
        row_too _ (ActedOn g.dstaddr g.srcaddr) (λ n partner. is_of_pair n partner truth.tag)
        (running late_segments of_partner (λ l. over l.segments (takes_segment g truth.known l.segments.segments)))
        (running true_segments of_partner (λ l. takes_segment g truth.known l.segments)) left (λ h. refl) refl e
    came_too (DataAck dst src acks) left e =
        row_too _ (ActedOn dst src) (λ n partner. is_of_pair n partner truth.tag)
        (running late_segments of_partner (λ l. over l.segments (takes_acks acks truth.known l.segments.segments)))
        (running true_segments of_partner (λ l. takes_acks acks truth.known l.segments)) left (λ h. refl) refl e
    came_too (LinkService interrupt dst src rest) left e =
        row_too _ (ActedOn dst src) (λ n partner. is_of_pair n partner truth.tag) (running late_segments of_partner (λ l. l.segments))
        (running true_segments of_partner (λ l. l.segments)) left (λ h. refl) refl e
    came_too (OtherDataAck dst src rest) left e =
        row_too _ (ActedOn dst src) (λ n partner. is_of_pair n partner truth.tag) (running late_segments of_partner (λ l. l.segments))
        (running true_segments of_partner (λ l. l.segments)) left (λ h. refl) refl e
    came_too m left e = stays_too _ left refl e
