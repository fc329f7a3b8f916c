-- A DC is sent: what came for its address is acted on before, and settles the link with it.
use Rattle.dna_queues.proofs.Prelude.{◌≡◌, ℕ, Bool, true, false, ◌&&◌, ◌==◌, cond, Option, Some, None, List, [], ◌∷◌, Result, Ok, refl, sym, ap}
use Rattle.dna_queues.proofs.Prelude.{ap₂, ◌∙◌, subst, eqb-true, false_from_ne_true, DisconnectConfirm, LinkRefusal, WrongNode, Port, HasAddress}
use Rattle.dna_queues.proofs.Prelude.{TheLink, CalledBy, Without, passes, is_at, Carried, number_of, with_link, changed, settled}
use Rattle.dna_queues.proofs.Prelude.{of_no_link, ending, Sent, sent_step, message_sent, Numbers, true_segments, SentMessage, IsFound, looked}
use Rattle.dna_queues.proofs.Prelude.{LinkRecord, Sends, LateSegments, late_segments, Links, Node, waiting, link_it_is_for, EndsCall, SendsConfirm}
use Rattle.dna_queues.proofs.Prelude.{Makes}
use Rattle.dna_links.specs.TrueLinks as machine
use Rattle.dna_queues.proofs.{Facts.not_both, Facts.passed_check, Sending.link_owns, Turns.HasSaid, Early.none_early, Hide.hide, Dues.Due}
use Rattle.dna_queues.proofs.{Dues.AreSane, Timed.Awaits, Timed.Timed, Prepared.set_sane, SentTimed.Sound}
use Rattle.dna_queues.proofs.Goes.{Link, node_port, node_own}
use Rattle.dna_queues.proofs.LinkLists.{still_set, IsSet, set_changed, at_none}
use Rattle.dna_queues.proofs.Addressed.{awaits_nothing, flushed, flushed_number, addressed}
use Rattle.dna_queues.proofs.Settling.{Settles, settles, settled_sane}

module _ (s : machine.Links) (sane : AreSane s) (later : List LinkRecord) (packet : Carried) (dst src reason : ℕ)
    (is : packet.message ≡ DisconnectConfirm dst src reason) (may : (packet.src == s.node && packet.dst == s.peer) ≡ true)
    (missing : number_of (TheLink src dst) s ≡ None) where
  -- without queues, once nothing waits for its address
  abbrev pub by_zero : Links → Bool → Result (Sent LateSegments Numbers) LinkRefusal
  by_zero links z = cond z (with_link {R = Result (Sent LateSegments Numbers) LinkRefusal} (CalledBy dst) links (Ok (of_no_link late_segments links))
      (λ n h. Ok (ending late_segments links n h))) (Ok (of_no_link late_segments links))

  pub sends_so : (dues : ℕ → Due) (n : Node) (t : Timed s dues n) (z : Bool) → (src == 0) ≡ z →
      sent_step Without late_segments (flushed s sane dues n t src).next.links packet ≡ by_zero (flushed s sane dues n t src).next.links z
  sends_so dues n t z zero =
      let f = flushed s sane dues n t src in
      passed_check (packet.src == f.next.links.node && packet.dst == f.next.links.peer) WrongNode
      (message_sent Without late_segments f.next.links packet.message)
      (ap₂ (λ (a b : ℕ). packet.src == a && packet.dst == b) (f.node ∙ t.node) (f.peer ∙ t.peer) ∙ may)
      ∙ ap (message_sent Without late_segments f.next.links) is
      ∙ at_none (TheLink src dst) f.next.links _ _
      (flushed_number s sane dues n t src (TheLink src dst) (λ j l at own. not_of l own) ∙ missing)
      ∙ ap (by_zero f.next.links) zero
    where
      fails : (p : Port) → is_at p.own src ≡ false → (b : Bool) → passes (TheLink src dst) p ≡ b → passes (TheLink src dst) p ≡ false
      fails p own false e = e
      fails p own true e = absurd (not_both _ (link_owns src dst p e) own)

      not_of : (l : Link) → is_at l.port.own src ≡ false → passes (TheLink src dst) (node_port l) ≡ passes (TheLink src dst) l.port
      not_of l own =
          fails (node_port l) (ap (λ (o : Option ℕ). is_at o src) (node_own l) ∙ own) _ refl ∙ sym (fails l.port own _ refl)

  pub settle_sound : (left : machine.Links) → (src == 0) ≡ false →
      with_link (HasAddress src) s s (λ i l. changed i (settled true_segments l.queue.waits l) s) ≡ left → (AreSane left → Sound left later) →
      Sound s (Sends packet ∷ later)
  settle_sound left zero same rest = go (rest sane_left)
    where
      own_is : (i : ℕ) (l : Link) → IsFound (HasAddress src) s i l → (settled true_segments l.queue.waits l).port.own ≡ l.port.own
      own_is i l found = ap (λ (x : Link). x.port.own) (settles l (sane.each i l found.there)).is

      sane_left : AreSane left
      sane_left =
          looked (HasAddress src) s s (λ i l. changed i (settled true_segments l.queue.waits l) s) left same
          (λ none e. subst AreSane e sane)
          (λ i l found e. set_sane s sane i l found.there left (settled true_segments l.queue.waits l)
          (subst (λ (x : machine.Links). IsSet s x i (settled true_segments l.queue.waits l)) e
          (set_changed s i l (settled true_segments l.queue.waits l) found.there)) (own_is i l found)
          (settled_sane l _ (sane.each i l found.there) (settles l (sane.each i l found.there))))

      -- a link with an address is in Called no more
      has_said : (i : ℕ) (l x : Link) → IsFound (HasAddress src) s i l → Settles l x → HasSaid x
      has_said i l x found t = subst HasSaid (sym t.is) (record {
        loud = t.loud;
        over = t.over;
        uncalled = false_from_ne_true _ (λ e. let none = ((sane.each i l found.there).called e).0 in
            let y : true ≡ false = sym found.passed ∙ ap (λ (o : Option ℕ). is_at o src) none in absurd cc);
      })

      awaits : (i : ℕ) (l : Link) → IsFound (HasAddress src) s i l → (kept : List SentMessage) → waiting link_it_is_for (Some src) kept ≡ [] →
          Awaits (settled true_segments l.queue.waits l) (waiting link_it_is_for (settled true_segments l.queue.waits l).port.own kept)
      awaits i l found kept none =
          awaits_nothing (settled true_segments l.queue.waits l) _
          (ap (λ (x : Link). x.queue.waits) (settles l (sane.each i l found.there)).is)
          (ap (λ (o : Option ℕ). waiting link_it_is_for o kept) (own_is i l found) ∙ own_none l.port.own found.passed)
        where
          own_none : (o : Option ℕ) → is_at o src ≡ true → waiting link_it_is_for o kept ≡ []
          own_none None e = absurd cc
          own_none (Some x) e = ap (λ (m : ℕ). waiting link_it_is_for (Some m) kept) (eqb-true x src e) ∙ none

      go : Sound left later → Sound s (Sends packet ∷ later)
      go r =
          let a = addressed s sane src (λ l. settled true_segments l.queue.waits l) left r.dues r.due same
          (λ i l found packets P early can. none_early left.node left.peer packets (settled true_segments l.queue.waits l) P
          (has_said i l _ found (settles l (sane.each i l found.there))) early can) awaits in
          record {
            dues = a.before;
            due = a.due_before;
            made = λ n t. let f = flushed s sane a.before n t src in
                f.on (Sends packet ∷ later)
                (Makes f.next f.next (Sends packet) later
                (SendsConfirm packet dst src reason (of_no_link late_segments f.next.links) is (sends_so a.before n t false zero) (a.free n t)
                (subst (λ (z : Bool). EndsCall z (of_no_link late_segments f.next.links) f.next) (sym zero) tt))
                (r.made f.next (a.timed n t f.next.links (λ none. refl) (λ i l found. still_set _ _ _ (a.here n t i l found
                ∙ ap (λ (x : Link). Some (hide x)) (sym (settles l (sane.each i l found.there)).is))))));
          }
