-- A DC with SRCADDR 0 refuses a call, which then is over; and any DC, by what it settles.
use Rattle.dna_queues.proofs.Prelude.{◌≡◌, ℕ, Bool, true, false, ◌&&◌, ◌==◌, cond, Some, None, List, [], ◌∷◌, Result, Ok, Err, refl, sym, ap, ap₂}
use Rattle.dna_queues.proofs.Prelude.{◌∙◌, subst, eqb-true, same_Some, NoOperation, DisconnectConfirm, LinkRefusal, WrongNode, LinkState, Ended}
use Rattle.dna_queues.proofs.Prelude.{Port, HasAddress, TheLink, CalledBy, Without, With, is_live, is_called, is_at, Carried, number_of, with_link}
use Rattle.dna_queues.proofs.Prelude.{changed, settled, drops, ended, of_no_link, truth_of, ending, Sent, message_sent, TrueSegments, Numbers}
use Rattle.dna_queues.proofs.Prelude.{sends_other, true_segments, SentMessage, IsFound, looked, LinkRecord, Sends, late_segments, Node, waiting}
use Rattle.dna_queues.proofs.Prelude.{link_it_is_for, link_it_is_of, IsFree, EndsCall, SendsConfirm, SendsNothing, MadeByHidden, Makes}
use Rattle.dna_links.specs.TrueLinks as machine
use Rattle.dna_queues.proofs.Facts.{not_both, passed_check, same_links, by_option, refused_link, refused_is}
use Rattle.dna_queues.proofs.{Goes.Link, Goes.node_port, Early.none_before, Hide.LateLink, Hide.hide, SentTimed.Sound, SettledTimed.sends_so}
use Rattle.dna_queues.proofs.{SettledTimed.settle_sound}
use Rattle.dna_queues.proofs.LinkLists.{IsSet, set_changed, at_none, at_found}
use Rattle.dna_queues.proofs.Turns.{Sane, live_node, called_phase}
use Rattle.dna_queues.proofs.Dues.{put_packets, none_link, Due, put, put_here, AreSane}
use Rattle.dna_queues.proofs.Timed.{Awaits, packets_of, Timed}
use Rattle.dna_queues.proofs.Prepared.{due_none, set_timed, set_sane}
use Rattle.dna_queues.proofs.Addressed.{no_packets, called_use, flushed, flushed_number, flushed_none, says_no_more}

module _ (s : machine.Links) (sane : AreSane s) (later : List LinkRecord) (packet : Carried) (dst src reason : ℕ)
    (is : packet.message ≡ DisconnectConfirm dst src reason) (may : (packet.src == s.node && packet.dst == s.peer) ≡ true)
    (missing : number_of (TheLink src dst) s ≡ None) where
  -- with SRCADDR 0
  none_zero : (src == 0) ≡ true → number_of (HasAddress src) s ≡ None
  none_zero zero = by_option (number_of (HasAddress src) s) (λ e. e)
      (λ i e. looked {R = ℕ} (HasAddress src) s 0 (λ j l. 0) _ refl (λ none f. none)
      (λ j l found f. absurd (not_both _ found.passed (ap (is_at l.port.own) (eqb-true src 0 zero) ∙ sane.not_zero j l found.there))))

  pub call_sound : (made : Sent TrueSegments Numbers) → (src == 0) ≡ true →
      with_link {R = Result (Sent TrueSegments Numbers) LinkRefusal} (CalledBy dst) s (Ok (of_no_link true_segments s)) (λ i l. Ok (record {
        links = changed i (drops true_segments With l) s;
        truth = truth_of true_segments i (drops true_segments With l) (sends_other l.segments);
      })) ≡ Ok made → (AreSane made.links → Sound made.links later) → Sound s (Sends packet ∷ later)
  call_sound made zero e rest =
      looked (CalledBy dst) s (Ok (of_no_link true_segments s)) _ (Ok made) e
      (λ none f. nothing none (same_links _ made f))
      (λ i l found f. ends i l found (same_links _ made f))
    where
      called_same : (dues : ℕ → Due) (n : Node) (t : Timed s dues n) →
          number_of (CalledBy dst) (flushed s sane dues n t src).next.links ≡ number_of (CalledBy dst) s
      called_same dues n t = flushed_number s sane dues n t src (CalledBy dst) (λ j l at own. called_use dst l (sane.each j l at))

      free_too : (dues : ℕ → Due) (n : Node) (t : Timed s dues n) → IsFree src (flushed s sane dues n t src).next
      free_too dues n t = says_no_more s sane src dues n t
          (λ i l found. let never : None ≡ Some i = sym (none_zero zero) ∙ found.found in absurd cc)

      nothing : number_of (CalledBy dst) s ≡ None → s ≡ made.links → Sound s (Sends packet ∷ later)
      nothing none same = go (subst (λ (x : machine.Links). AreSane x → Sound x later) (sym same) rest sane)
        where
          go : Sound s later → Sound s (Sends packet ∷ later)
          go r = record {
            dues = r.dues;
            due = r.due;
            made = λ n t. let f = flushed s sane r.dues n t src in
                f.on (Sends packet ∷ later)
                (Makes f.next f.next (Sends packet) later
                (SendsConfirm packet dst src reason (of_no_link late_segments f.next.links) is
                (sends_so s sane later packet dst src reason is may missing r.dues n t true zero
                ∙ at_none (CalledBy dst) f.next.links _ _ (called_same r.dues n t ∙ none)) (free_too r.dues n t)
                (subst (λ (z : Bool). EndsCall z (of_no_link late_segments f.next.links) f.next) (sym zero) (λ number e. absurd cc)))
                (r.made f.next (flushed_none s sane r.dues n t src (none_zero zero))));
          }

      ends : (i : ℕ) (l : Link) → IsFound (CalledBy dst) s i l → changed i (drops true_segments With l) s ≡ made.links →
          Sound s (Sends packet ∷ later)
      ends i l found was = go (rest left_sane)
        where
          sane_called : Sane l
          sane_called = sane.each i l found.there

          same : changed i (refused_link l) s ≡ made.links
          same = ap (λ (x : Link). changed i x s) (sym (refused_is l (sane_called.called (ap is_called (called_phase dst l.port found.passed))).1))
              ∙ was

          set : IsSet s made.links i (refused_link l)
          set = subst (λ (x : machine.Links). IsSet s x i (refused_link l)) same
              (set_changed s i l (refused_link l) found.there)

          left_sane : AreSane made.links
          left_sane = set_sane s sane i l found.there made.links (refused_link l) set refl (record {
            began = tt;
            opened = (sane.each i l found.there).opened;
            called = λ e. absurd cc;
            waits = λ p e. absurd cc;
          })

          live : node_port l ≡ l.port
          live = live_node l sane_called (ap is_live (called_phase dst l.port found.passed))

          go : Sound made.links later → Sound s (Sends packet ∷ later)
          go r = record {
            dues = put i mine r.dues;
            due = due_none s sane i l found.there made.links (refused_link l) set r.dues r.due;
            made = λ n t. by_node n t;
          }
            where
              mine : Due
              mine = record { packets = []; link = l }

              nothing_due : (r.dues i).packets ≡ []
              nothing_due = let d = r.due.each i (refused_link l) set.here in
                  none_before made.links.node made.links.peer (r.dues i).packets (refused_link l) (λ x. x ≡ (r.dues i).link) refl
                  d.early d.can

              link_is : refused_link l ≡ (r.dues i).link
              link_is = none_link made.links.node made.links.peer (refused_link l) (r.dues i)
                  (r.due.each i (refused_link l) set.here) nothing_due

              by_node : (n : Node) → Timed s (put i mine r.dues) n → MadeByHidden n (Sends packet ∷ later)
              by_node n t =
                  let f = flushed s sane (put i mine r.dues) n t src in
                  let u = flushed_none s sane (put i mine r.dues) n t src (none_zero zero) in
                  let here = put_here i i mine r.dues refl in
                  let there = u.all i l found.there ∙ ap (λ (d : Due). Some (hide d.link)) here in
                  let links = changed i (ended late_segments (hide l)) f.next.links in
                  f.on (Sends packet ∷ later)
                  (Makes f.next (record f.next { links = links }) (Sends packet) later
                  (SendsConfirm packet dst src reason (ending late_segments f.next.links i (hide l)) is
                  (sends_so s sane later packet dst src reason is may missing (put i mine r.dues) n t true zero
                  ∙ at_found (CalledBy dst) f.next.links i (hide l) _ _ (record {
                    found = called_same (put i mine r.dues) n t ∙ found.found;
                    there = there;
                    passed = called_use dst l (sane.each i l found.there) ∙ found.passed;
                  })) (free_too (put i mine r.dues) n t)
                  (subst (λ (z : Bool). EndsCall z (ending late_segments f.next.links i (hide l)) f.next) (sym zero)
                  (λ number e. says i number (same_Some i number e) f.next (u.composed i ∙ ap (λ (d : Due). d.packets) here))))
                  (r.made (record f.next { links = links })
                  (set_timed s sane i l found.there made.links (refused_link l) set r.dues r.due mine f.next
                  (record f.next { links = links }) u
                  (subst (λ (x : LateLink). IsSet f.next.links links i x)
                  (ap (λ (p : Port). record (hide l) { port = record p { phase = Ended } }) live ∙ ap hide link_is)
                  (set_changed f.next.links i (hide l) (ended late_segments (hide l)) there))
                  u.kept (awaits_on l (waiting link_it_is_for l.port.own f.next.kept) (u.awaits i l found.there))
                  (λ j x differs at. u.awaits j x at)
                  (λ j. u.composed j ∙ put_packets i j mine r.dues (sym nothing_due)))))
                where
                  says : (i number : ℕ) → i ≡ number → (n : Node) → packets_of (waiting link_it_is_of (Some i) n.composed) ≡ [] →
                      waiting link_it_is_of (Some number) n.composed ≡ []
                  says i number same n none =
                      subst (λ (m : ℕ). waiting link_it_is_of (Some m) n.composed ≡ []) same (no_packets _ none)

                  awaits_on : (l : Link) (kept : List SentMessage) → Awaits l kept → Awaits (refused_link l) kept
                  awaits_on l kept a = record { live = λ e. absurd cc; over = λ p e. absurd cc }

-- ---- by message

module _ (s : machine.Links) (sane : AreSane s) (later : List LinkRecord) (packet : Carried)
    (may : (packet.src == s.node && packet.dst == s.peer) ≡ true) (made : Sent TrueSegments Numbers)
    (rest : AreSane made.links → Sound made.links later) where
  pub confirm_sound : (dst src reason : ℕ) → packet.message ≡ DisconnectConfirm dst src reason →
      message_sent With true_segments s (DisconnectConfirm dst src reason) ≡ Ok made → Sound s (Sends packet ∷ later)
  confirm_sound dst src reason is e =
      looked (TheLink src dst) s _ (λ i l. Err LinkState) (Ok made) e
      (λ none e. by_zero none (src == 0) refl e)
      (λ i l found e. absurd cc)
    where
      by_zero : number_of (TheLink src dst) s ≡ None → (z : Bool) → (src == 0) ≡ z →
          cond z (with_link {R = Result (Sent TrueSegments Numbers) LinkRefusal} (CalledBy dst) s (Ok (of_no_link true_segments s))
          (λ i l. Ok (record {
            links = changed i (drops true_segments With l) s;
            truth = truth_of true_segments i (drops true_segments With l) (sends_other l.segments);
          })))
          (Ok (record (of_no_link true_segments s) {
            links = with_link (HasAddress src) s s (λ i l. changed i (settled true_segments l.queue.waits l) s);
          })) ≡ Ok made → Sound s (Sends packet ∷ later)
      by_zero none false zero e = settle_sound s sane later packet dst src reason is may none made.links zero (same_links _ made e) rest
      by_zero none true zero e = call_sound s sane later packet dst src reason is may none made zero e rest

  pub nothing_sound : (octets : List ℕ) → packet.message ≡ NoOperation octets →
      message_sent With true_segments s (NoOperation octets) ≡ Ok made → Sound s (Sends packet ∷ later)
  nothing_sound octets is e = go (subst (λ (x : machine.Links). AreSane x → Sound x later) (sym (same_links _ made e)) rest sane)
    where
      go : Sound s later → Sound s (Sends packet ∷ later)
      go r = record {
        dues = r.dues;
        due = r.due;
        made = λ n t. Makes n n (Sends packet) later
            (SendsNothing packet octets (of_no_link late_segments n.links) is
            (passed_check (packet.src == n.links.node && packet.dst == n.links.peer) WrongNode
            (message_sent Without late_segments n.links packet.message)
            (ap₂ (λ (a b : ℕ). packet.src == a && packet.dst == b) t.node t.peer ∙ may)
            ∙ ap (message_sent Without late_segments n.links) is)) (r.made n t);
      }
