-- An address is given where nothing waits for it or of it: the link that had it is dead in the machine too.
use Rattle.dna_queues.proofs.Prelude.{◌≡◌, ℕ, Bool, true, false, ◌&&◌, cond, Option, Some, None, List, [], length, refl, sym, ap, ap₂, ◌∙◌, subst}
use Rattle.dna_queues.proofs.Prelude.{eqb-true, slice_get, and_parts, false_from_ne_true, Running, Disconnecting, Ended, Port, LinkTest, HasAddress}
use Rattle.dna_queues.proofs.Prelude.{LiveAt, Queues, Without, With, passes, is_in, is_live, is_called, is_at, SegmentBook, LinksOf, number_of}
use Rattle.dna_queues.proofs.Prelude.{begun, changed, forgotten, freed, opened, Open, true_segments, SentMessage, looked}
use Rattle.dna_queues.proofs.Prelude.{late_segments, Node, link_it_is_for, link_it_is_of, waiting, IsFree}
use Rattle.dna_links.specs.TrueLinks as machine
use Rattle.dna_queues.proofs.Facts.{dead_phase, not_both, by_test}
use Rattle.dna_queues.specs.Records as records
use Rattle.dna_queues.proofs.{Goes.Link, Goes.phase_of, Ahead.Meets, Ahead.Ahead, Acting.LateLink, Acting.seen_as, Follows.Follows}
use Rattle.dna_queues.proofs.{Follows.is_behind, Lists.waiting_none, Begun.begun_beside, Begun.opened_follows, Waiting.of_same, SentOn.Follow}
use Rattle.dna_queues.proofs.LinkLists.{IsUnique, IsChanged, changed_none, changed_one, at_none, none_passes, found_one, number_same, changed_each}
use Rattle.dna_queues.proofs.LinkLists.{changed_so}
use Rattle.dna_queues.proofs.Beside.{Beside, follows_as, unique_too}

-- ---- the link that had the address

pub own_owns : (own : ℕ) (p : Port) → passes (HasAddress own) p ≡ true → is_at p.own own ≡ true
own_owns own p e = e

pub freed_changed : {D K : Type 0} (book : SegmentBook D K) (queues : Queues) (own : ℕ) (s : LinksOf D) → IsUnique s →
    IsChanged s (freed book queues own s) own (forgotten book queues)
freed_changed {D} book queues own s unique =
    looked (HasAddress own) s s (λ n l. changed n (forgotten book queues l) s) (freed book queues own s) refl
    (λ none e. subst (λ x. IsChanged s x own (forgotten book queues)) e
    (at_own s (changed_none s unique own (passes (HasAddress own)) (forgotten book queues) (own_owns own) (none_passes (HasAddress own) s none))))
    (λ n l found e. subst (λ x. IsChanged s x own (forgotten book queues)) e
    (at_own _ (changed_one s unique own (passes (HasAddress own)) (forgotten book queues) (own_owns own) n l found.there found.passed)))
  where
    at_own : (left : LinksOf D) → IsChanged s left own (λ l. cond (passes (HasAddress own) l.port) (forgotten book queues l) l) →
        IsChanged s left own (forgotten book queues)
    at_own left c = changed_so s left own _ (forgotten book queues) c (λ i l at has. ap (λ (b : Bool). cond b (forgotten book queues l) l) has)

pub meets_now : (h : LateLink) (l : Link) (kept composed : List SentMessage) (f : Follows h l kept composed) → kept ≡ [] → Meets (seen_as f.used h) l
meets_now h l kept composed f none = subst (λ (us : List SentMessage). Ahead us (seen_as f.used h) l) none f.ahead

-- a link that has ended, and of which nothing waits, is forgotten
forgotten_follows : (h : LateLink) (l : Link) → h.port.phase ≡ Ended → Follows h l [] [] →
    Follows (forgotten late_segments Without h) (forgotten true_segments With l) [] []
forgotten_follows h l over f =
    let meets = meets_now h l [] [] f refl in
    let g = f.can in
    let over_l : l.port.phase ≡ Ended = ap (λ (p : Port). p.phase) (sym meets.port) ∙ over in
    record {
      used = f.used;
      of_use = f.of_use;
      fresh = f.fresh;
      called = λ e. let never : true ≡ false = sym e ∙ ap is_called over in absurd cc;
      ahead = record {
        port = ap (λ (p : Port). record p { own = None }) meets.port;
        partner = meets.partner;
        segsize = meets.segsize;
        received = meets.received;
        exact = meets.exact;
        used = λ e. absurd (not_both _ e (ap is_live over_l));
      };
      acknowledged = f.acknowledged;
      passed = f.passed;
      accepted = f.accepted;
      usable = λ e. absurd (not_both _ e (ap is_live over));
      fits = record {
        waits = λ e. refl;
        ran = λ e. absurd (not_both _ e (ap (is_in Running) over_l));
        calling = f.fits.calling;
      };
      can = let k = forgotten late_segments Without h in let y = forgotten true_segments With l in
          let usable : is_live k.port.phase ≡ true → is_live (phase_of y) ≡ true = λ e. absurd (not_both _ e (ap is_live over)) in
          let closing : is_in Disconnecting k.port.phase ≡ true → is_in Disconnecting (phase_of y) ≡ true =
          λ e. absurd (not_both _ e (ap (is_in Disconnecting) over)) in assumption (usable, closing, g);
    }

module _ (n : Node) (t : machine.Links) (b : Beside n t) (own : ℕ) (free : IsFree own n) where
  -- what waits for the link with this address, and of it
  pub nothing_for : (h : LateLink) → is_at h.port.own own ≡ true → waiting link_it_is_for h.port.own n.kept ≡ []
  nothing_for h at = go h.port.own at
    where
      go : (o : Option ℕ) → is_at o own ≡ true → waiting link_it_is_for o n.kept ≡ []
      go None at = absurd cc
      go (Some k) at = ap (λ (x : ℕ). waiting link_it_is_for (Some x) n.kept) (eqb-true k own at) ∙ free.nothing_for

  pub nothing_of : (i : ℕ) (h : LateLink) → slice_get n.links.links i ≡ Some h → is_at h.port.own own ≡ true →
      waiting link_it_is_of (Some i) n.composed ≡ []
  nothing_of i h there at = free.nothing_of i (found_one n.links b.unique (HasAddress own) own i h (own_owns own) there at)

  -- the link with this address is as seen in both
  pub same_port : (i : ℕ) (h : LateLink) (l : Link) → slice_get n.links.links i ≡ Some h → slice_get t.links i ≡ Some l →
      is_at h.port.own own ≡ true →
      h.port ≡ l.port
  same_port i h l at_h at_l e = (meets_now h l _ _ (b.all i h l at_h at_l) (nothing_for h e)).port

  -- what is found by it in one is found in the other
  pub owner_same : (test : LinkTest) → ((p : Port) → passes test p ≡ true → is_at p.own own ≡ true) → number_of test n.links ≡ number_of test t
  owner_same test owns = number_same n.links t b.size test (λ i h l at_h at_l. by_test (is_at h.port.own own)
      (λ e. ap (passes test) (same_port i h l at_h at_l e))
      (λ e. fails h.port e ∙ sym (fails l.port (ap (λ (o : Option ℕ). is_at o own) (sym (is_behind h l _ _ (b.all i h l at_h at_l)).own) ∙ e))))
    where
      fails : (p : Port) → is_at p.own own ≡ false → passes test p ≡ false
      fails p none = false_from_ne_true (passes test p) (λ e. not_both _ (owns p e) none)

  pub live_same : number_of (LiveAt own) n.links ≡ number_of (LiveAt own) t
  live_same = owner_same (LiveAt own) (λ p e. (and_parts (is_live p.phase) (is_at p.own own) e).1)

  module _ (none_live : number_of (LiveAt own) n.links ≡ None) where
    abbrev pub free_node : Node
    free_node = record n { links = freed late_segments Without own n.links }

    pub left_h : IsChanged n.links (freed late_segments Without own n.links) own (forgotten late_segments Without)
    left_h = freed_changed late_segments Without own n.links b.unique

    pub left_l : IsChanged t (freed true_segments With own t) own (forgotten true_segments With)
    left_l = freed_changed true_segments With own t (unique_too n t b)

    -- none has the address any more
    pub no_owner : (i : ℕ) (g : LateLink) → slice_get (freed late_segments Without own n.links).links i ≡ Some g → is_at g.port.own own ≡ true → ⊥
    no_owner i = changed_each n.links _ own _ left_h (λ g. is_at g.port.own own ≡ true → ⊥) i (λ h there e own_g. absurd cc)
        (λ h there e own_g. not_both _ own_g e)

    -- an address of a link that is left was its address before
    owner_was : (i : ℕ) (g : LateLink) → slice_get (freed late_segments Without own n.links).links i ≡ Some g → (m : ℕ) → is_at g.port.own m ≡ true →
        (h : LateLink) × (slice_get n.links.links i ≡ Some h) × (is_at h.port.own m ≡ true)
    owner_was i g at m = changed_each n.links _ own _ left_h
        (λ g. is_at g.port.own m ≡ true → (h : LateLink) × (slice_get n.links.links i ≡ Some h) × (is_at h.port.own m ≡ true)) i
        (λ h there e own_g. absurd cc) (λ h there e own_g. (h, there, own_g)) g at

    pub free_beside : Beside free_node (freed true_segments With own t)
    free_beside = record {
      node = left_h.node ∙ b.node ∙ sym left_l.node;
      peer = left_h.peer ∙ b.peer ∙ sym left_l.peer;
      size = left_h.size ∙ b.size ∙ sym left_l.size;
      unique = λ i j x y at_i at_j m own_x own_y.
          let p = owner_was i x at_i m own_x in let q = owner_was j y at_j m own_y in b.unique i j p.0 q.0 p.1 q.1 m p.2 q.2;
      for_links = b.for_links;
      of_links = of_same _ _ _ free_node.links.node free_node.links.peer (length free_node.links.links) n.composed left_h.node left_h.peer
          left_h.size
          b.of_links;
      all = λ i x y at_x at_y. changed_each n.links _ own _ left_h
          (λ x. Follows x y (waiting link_it_is_for x.port.own n.kept) (waiting link_it_is_of (Some i) n.composed)) i
          (λ h at_h has. changed_each t _ own _ left_l
          (λ y. Follows (forgotten late_segments Without h) y (waiting link_it_is_for None n.kept) (waiting link_it_is_of (Some i) n.composed)) i
          (λ l at_l e. here i h l at_h at_l has) (λ l at_l e. absurd (not_both _ has (own_same i h l at_h at_l ∙ e))) y at_y)
          (λ h at_h has. changed_each t _ own _ left_l
          (λ y. Follows h y (waiting link_it_is_for h.port.own n.kept) (waiting link_it_is_of (Some i) n.composed)) i
          (λ l at_l e. absurd (not_both _ e (sym (own_same i h l at_h at_l) ∙ has))) (λ l at_l e. b.all i h l at_h at_l) y at_y) x at_x;
    }
      where
        own_same : (i : ℕ) (h : LateLink) (l : Link) → slice_get n.links.links i ≡ Some h → slice_get t.links i ≡ Some l →
            is_at h.port.own own ≡ is_at l.port.own own
        own_same i h l at_h at_l = ap (λ (o : Option ℕ). is_at o own) (is_behind h l _ _ (b.all i h l at_h at_l)).own

        here : (i : ℕ) (h : LateLink) (l : Link) → slice_get n.links.links i ≡ Some h → slice_get t.links i ≡ Some l → is_at h.port.own own ≡ true →
            Follows (forgotten late_segments Without h) (forgotten true_segments With l) (waiting link_it_is_for None n.kept)
            (waiting link_it_is_of (Some i) n.composed)
        here i h l at_h at_l has =
            let none = nothing_of i h at_h has in
            follows_as _ _ _ _ _ _ (sym (waiting_none link_it_is_for n.kept)) (sym none)
            (forgotten_follows h l (dead_phase h.port.phase (false_from_ne_true _ (λ e. not_both (passes (LiveAt own) h.port)
            (ap₂ (λ (c d : Bool). c && d) e has) (none_passes (LiveAt own) n.links none_live i h at_h))))
            (follows_as h l _ _ _ _ (nothing_for h has) none (b.all i h l at_h at_l)))

    -- ---- a link is opened

    pub opens_beside : Follow (record n { links = begun (opened late_segments own) (freed late_segments Without own n.links) }) t
        (records.OfUser (Open own))
    opens_beside = record {
      left = begun (opened true_segments own) (freed true_segments With own t);
      is = at_none (LiveAt own) t _ _ (sym live_same ∙ none_live);
      beside = λ near. begun_beside free_node (freed true_segments With own t) free_beside (opened late_segments own) (opened true_segments own)
          (free.nothing_for)
          (λ i g at m own_g own_h. no_owner i g at (ap (is_at g.port.own) (eqb-true own m own_h) ∙ own_g))
          (opened_follows own);
    }
