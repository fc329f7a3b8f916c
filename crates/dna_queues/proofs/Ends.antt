-- A DC is sent where nothing waits: the machine settles the link with its SRCADDR, or ends the call that it refuses.
use Rattle.dna_queues.proofs.Prelude.{◌≡◌, ℕ, Bool, true, false, ◌&&◌, ◌==◌, cond, Option, Some, None, List, [], Result, Ok, Err, refl, sym, ap}
use Rattle.dna_queues.proofs.Prelude.{ap₂, ◌∙◌, subst, slice_get, and_parts, NoOperation, DisconnectConfirm, LinkRefusal, WrongNode, LinkState}
use Rattle.dna_queues.proofs.Prelude.{Port, HasAddress, TheLink, CalledBy, Without, With, passes, is_at, is_called, Carried, number_of, with_link}
use Rattle.dna_queues.proofs.Prelude.{changed, drops, ended, settled, of_no_link, truth_of, ending, Sent, sent_step, message_sent, TrueSegments}
use Rattle.dna_queues.proofs.Prelude.{Numbers, sends_other, true_segments, IsFound, looked, checked, AreAnswered, links_left}
use Rattle.dna_queues.proofs.Prelude.{LateSegments, late_segments, Links, Node, link_it_is_for, link_it_is_of, waiting, IsFree, EndsCall}
use Rattle.dna_links.specs.TrueLinks as machine
use Rattle.dna_queues.proofs.Facts.{passed_check, same_Ok, refused_is}
use Rattle.dna_queues.specs.Records as records
use Rattle.dna_queues.proofs.{Goes.Link, Acting.LateLink, Follows.Follows, Follows.is_behind, SentOn.Follow, Settled.dead_follows}
use Rattle.dna_queues.proofs.{Settled.settled_follows, Sending.link_owns}
use Rattle.dna_queues.proofs.LinkLists.{set_changed, unique_set, IsChanged, changed_none, changed_one, at_none, at_found, none_passes}
use Rattle.dna_queues.proofs.LinkLists.{there_too, changed_each, changed_so}
use Rattle.dna_queues.proofs.Beside.{Beside, follows_as, unique_too}
use Rattle.dna_queues.proofs.Given.{own_owns, meets_now, nothing_for, nothing_of, owner_same}
use Rattle.dna_queues.proofs.Calls.{set_beside, called_same, called_meets}

-- ---- the record

module _ (n : Node) (t : machine.Links) (b : Beside n t) (near : AreAnswered t) where
  abbrev settled_of : ℕ → machine.Links
  settled_of src = with_link (HasAddress src) t t (λ i l. changed i (settled true_segments l.queue.waits l) t)

  settles : (src : ℕ) → IsChanged t (settled_of src) src (λ l. settled true_segments l.queue.waits l)
  settles src =
      looked (HasAddress src) t t (λ i l. changed i (settled true_segments l.queue.waits l) t) (settled_of src) refl
      (λ none e. subst (λ x. IsChanged t x src (λ l. settled true_segments l.queue.waits l)) e
      (at_own t (changed_none t (unique_too n t b) src (passes (HasAddress src)) (λ l. settled true_segments l.queue.waits l) (own_owns src)
      (none_passes (HasAddress src) t none))))
      (λ i l found e. subst (λ x. IsChanged t x src (λ l. settled true_segments l.queue.waits l)) e
      (at_own _ (changed_one t (unique_too n t b) src (passes (HasAddress src)) (λ l. settled true_segments l.queue.waits l) (own_owns src) i l
      found.there found.passed)))
    where
      at_own : (left : machine.Links) → IsChanged t left src (λ l. cond (is_at l.port.own src) (settled true_segments l.queue.waits l) l) →
          IsChanged t left src (λ l. settled true_segments l.queue.waits l)
      at_own left c = changed_so t left src _ (λ l. settled true_segments l.queue.waits l) c
          (λ i l at has. ap (λ (b : Bool). cond b (settled true_segments l.queue.waits l) l) has)

  settled_beside : (src : ℕ) → IsFree src n → Beside n (settled_of src)
  settled_beside src free =
      let c = settles src in
      record {
        node = b.node ∙ sym c.node;
        peer = b.peer ∙ sym c.peer;
        size = b.size ∙ sym c.size;
        unique = b.unique;
        for_links = b.for_links;
        of_links = b.of_links;
        all = λ i h k at_h at_k. changed_each t (settled_of src) src _ c
            (λ x. Follows h x (waiting link_it_is_for h.port.own n.kept) (waiting link_it_is_of (Some i) n.composed)) i
            (λ l at_l has. let f = b.all i h l at_h at_l in
            let own : is_at h.port.own src ≡ true = ap (λ (o : Option ℕ). is_at o src) (is_behind h l _ _ f).own ∙ has in
            let none_for = nothing_for n t b src free h own in
            let none_of = nothing_of n t b src free i h at_h own in
            follows_as h _ _ _ _ _ (sym none_for) (sym none_of) (settled_follows h l (follows_as h l _ _ _ _ none_for none_of f)))
            (λ l at_l has. b.all i h l at_h at_l) k at_k;
      }

  pub record ConfirmsToo (dst src reason : ℕ) (links : Links) : Type 0 where
    pub made : Sent TrueSegments Numbers
    pub does : message_sent With true_segments t (DisconnectConfirm dst src reason) ≡ Ok made
    pub beside : Beside (record n { links = links }) made.links

  confirms_too : (dst src reason : ℕ) (made : Sent LateSegments Numbers) →
      message_sent Without late_segments n.links (DisconnectConfirm dst src reason) ≡ Ok made →
      IsFree src n → EndsCall (src == 0) made n → ConfirmsToo dst src reason made.links
  confirms_too dst src reason made e free quiet =
      looked (TheLink src dst) n.links _ (λ i h. Err LinkState) (Ok made) e
      (λ none e. go (sym (owner_same n t b src free (TheLink src dst) (link_owns src dst)) ∙ none) (src == 0) refl e quiet)
      (λ i h found e. absurd cc)
    where
      by_zero : Bool → Result (Sent TrueSegments Numbers) LinkRefusal
      by_zero z = cond z (with_link {R = Result (Sent TrueSegments Numbers) LinkRefusal} (CalledBy dst) t (Ok (of_no_link true_segments t))
          (λ i l. Ok (record {
            links = changed i (drops true_segments With l) t;
            truth = truth_of true_segments i (drops true_segments With l) (sends_other l.segments);
          })))
          (Ok (record (of_no_link true_segments t) { links = settled_of src }))

      row : number_of (TheLink src dst) t ≡ None → (z : Bool) → (src == 0) ≡ z →
          message_sent With true_segments t (DisconnectConfirm dst src reason) ≡ by_zero z
      row none z is = at_none (TheLink src dst) t _ _ none ∙ ap by_zero is

      ends : (number : ℕ) (h : LateLink) → IsFound (CalledBy dst) n.links number h → number_of (TheLink src dst) t ≡ None → (src == 0) ≡ true →
          ending late_segments n.links number h ≡ made → waiting link_it_is_of (Some number) n.composed ≡ [] → ConfirmsToo dst src reason made.links
      ends number h found none is same quiet = at (there_too t.links n.links.links number h (sym b.size) found.there)
        where
          at : (l : Link) × (slice_get t.links number ≡ Some l) → ConfirmsToo dst src reason made.links
          at l =
              let f = b.all number h l.0 found.there l.1 in
              let called = (and_parts (is_called h.port.phase) (is_at h.port.far dst) found.passed).0 in
              let nothing = called_meets n t b number h l.0 found.there l.1 called in
              let m = meets_now h l.0 _ _ f nothing in
              let set = set_changed n.links number h (ended late_segments h) found.there in
              record {
                made = record {
                  links = changed number (drops true_segments With l.0) t;
                  truth = truth_of true_segments number (drops true_segments With l.0) (sends_other l.0.segments);
                };
                does = row none true is ∙ at_found (CalledBy dst) t number l.0 _ _ (record {
                  found = sym (called_same n t b dst) ∙ found.found;
                  there = l.1;
                  passed = ap (passes (CalledBy dst)) (sym m.port) ∙ found.passed;
                });
                beside = subst (λ (x : Sent LateSegments Numbers). Beside (record n { links = x.links }) (changed number (drops true_segments
                    With l.0) t)) same
                    (set_beside n t b (changed number (ended late_segments h) n.links) (changed number (drops true_segments With l.0) t) number
                    (ended late_segments h) (drops true_segments With l.0) set (set_changed t number l.0 (drops true_segments With l.0) l.1)
                    (unique_set n.links (changed number (ended late_segments h) n.links) number h (ended late_segments h) set found.there refl
                    b.unique)
                    (follows_as _ _ _ _ _ _ (sym nothing) (sym quiet)
                    (dead_follows h (ended late_segments h) l.0 (drops true_segments With l.0) refl
                    (refused_is l.0 (ap (λ (p : Port). p.opened) (sym m.port) ∙ (f.called called).1))
                    (follows_as h l.0 _ _ _ _ nothing quiet f))));
              }

      go : number_of (TheLink src dst) t ≡ None → (z : Bool) → (src == 0) ≡ z →
          cond z (with_link {R = Result (Sent LateSegments Numbers) LinkRefusal} (CalledBy dst) n.links (Ok (of_no_link late_segments n.links))
          (λ i h. Ok (ending late_segments n.links i h))) (Ok (of_no_link late_segments n.links)) ≡ Ok made → EndsCall z made n →
          ConfirmsToo dst src reason made.links
      go none false is e quiet = record {
        made = record (of_no_link true_segments t) { links = settled_of src };
        does = row none false is;
        beside = subst (λ (x : Sent LateSegments Numbers). Beside (record n { links = x.links }) (settled_of src)) (same_Ok _ made e)
            (settled_beside src free);
      }
      go none true is e quiet =
          looked (CalledBy dst) n.links (Ok (of_no_link late_segments n.links)) (λ i h. Ok (ending late_segments n.links i h)) (Ok made) e
          (λ missing e. record {
            made = of_no_link true_segments t;
            does = row none true is ∙ at_none (CalledBy dst) t _ _ (sym (called_same n t b dst) ∙ missing);
            beside = subst (λ (x : Sent LateSegments Numbers). Beside (record n { links = x.links }) t) (same_Ok _ made e) b;
          })
          (λ number h found e. ends number h found none is (same_Ok _ made e)
          (quiet number (ap (λ (x : Sent LateSegments Numbers). x.truth.tag.link) (sym (same_Ok _ made e)))))

  goes_too : (packet : Carried) (made : Sent LateSegments Numbers) → sent_step Without late_segments n.links packet ≡ Ok made →
      ((packet.src == t.node && packet.dst == t.peer) ≡ true) × (message_sent Without late_segments n.links packet.message ≡ Ok made)
  goes_too packet made e =
      let c = checked (packet.src == n.links.node && packet.dst == n.links.peer) WrongNode _ made e in
      (ap₂ (λ (x y : ℕ). packet.src == x && packet.dst == y) (sym b.node) (sym b.peer) ∙ c.0, c.1)

  pub confirms_beside : (packet : Carried) (dst src reason : ℕ) (made : Sent LateSegments Numbers) →
      packet.message ≡ DisconnectConfirm dst src reason →
      sent_step Without late_segments n.links packet ≡ Ok made → IsFree src n → EndsCall (src == 0) made n →
      Follow (record n { links = made.links }) t (records.Sends packet)
  confirms_beside packet dst src reason made is e free quiet =
      let g = goes_too packet made e in
      let c = confirms_too dst src reason made (ap (message_sent Without late_segments n.links) (sym is) ∙ g.1) free quiet in
      record {
        left = c.made.links;
        is = ap links_left (passed_check (packet.src == t.node && packet.dst == t.peer) WrongNode (message_sent With true_segments t
            packet.message) g.0
            ∙ ap (message_sent With true_segments t) is ∙ c.does);
        beside = λ near. c.beside;
      }

  pub nothing_beside : (packet : Carried) (rest : List ℕ) (made : Sent LateSegments Numbers) → packet.message ≡ NoOperation rest →
      sent_step Without late_segments n.links packet ≡ Ok made → Follow n t (records.Sends packet)
  nothing_beside packet rest made is e =
      let g = goes_too packet made e in
      record {
        left = t;
        is = ap links_left (passed_check (packet.src == t.node && packet.dst == t.peer) WrongNode (message_sent With true_segments t
            packet.message) g.0
            ∙ ap (message_sent With true_segments t) is);
        beside = λ near. b;
      }
