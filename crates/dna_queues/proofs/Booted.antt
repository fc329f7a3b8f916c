-- A boot: the node's links are over, and what waits is dropped. The machine goes on as one that has just these links.
use Rattle.dna_queues.proofs.Prelude.{◌≡◌, ℕ, true, inl, inr, Option, Some, None, List, [], ◌∷◌, map, option_map, Ok, refl, sym, ◌∙◌, subst, arith}
use Rattle.dna_queues.proofs.Prelude.{slice_get, length-map, same_Some, slice_get-map, Ended, Without, With, is_at, booted_link, booted, Boot}
use Rattle.dna_queues.proofs.Prelude.{IsAnswered, true_segments, all_map, LinkRecord, OfUser, AreAnswered, AreNear, next_links, MadeByMachine}
use Rattle.dna_queues.proofs.Prelude.{late_segments, Node}
use Rattle.dna_links.specs.TrueLinks as machine
use Rattle.dna_queues.proofs.{Facts.drops_still, Pieces.below_itself, Goes.Link, Goes.Grows, WaitsToGo.grows_itself, Acting.LateLink, Acting.lift}
use Rattle.dna_queues.proofs.{Follows.Follows, Beside.Beside, Beside.can_end, GoneOn.made_alike, GoneOn.near_alike, LinkLists.there_too}
use Rattle.dna_queues.proofs.Gone.{IsGone, AreSameOrGone, Alike}

abbrev pub booted_node : Node → Node
booted_node n = record { links = booted late_segments Without n.links; kept = []; composed = [] }

abbrev over : LateLink → LateLink
over h = booted_link late_segments Without h

-- a link that is over follows itself
over_follows : (h : LateLink) → IsAnswered h.segments.segments → Follows (over h) (lift (over h)) [] []
over_follows h answered = record {
  used = Ended;
  of_use = λ e. absurd cc;
  fresh = λ e. absurd cc;
  called = λ e. absurd cc;
  ahead = let received = below_itself h.segments.segments.received in assumption received;
  acknowledged = omega arith;
  passed = refl;
  accepted = λ e. absurd cc;
  usable = λ e. absurd cc;
  fits = record { waits = λ e. absurd cc; ran = λ e. absurd cc; calling = λ e. absurd cc };
  can = grows_itself (lift (over h)) answered;
}

module _ (n : Node) (t : machine.Links) (b : Beside n t) (answered : AreAnswered t) where
  -- the machine with the node's links
  abbrev as_node : machine.Links
  as_node = record { node = t.node; peer = t.peer; links = map (λ (h : LateLink). lift (over h)) n.links.links }

  node_answered : (i : ℕ) (h : LateLink) → slice_get n.links.links i ≡ Some h → IsAnswered h.segments.segments
  node_answered i h at =
      let l = there_too t.links n.links.links i h (sym b.size) at in
      let e = can_end _ l.0 (Grows None (lift h)) (b.all i h l.0 at l.1).can in
      let got = e.1.segments.received in let last = e.1.segments.last in let near = e.1.segments.answered in omega (arith, got, last, near)

  no_own : (i : ℕ) (h : LateLink) → slice_get (map over n.links.links) i ≡ Some h → (own : ℕ) → is_at h.port.own own ≡ true → ⊥
  no_own = all_map (λ (i : ℕ) (h : LateLink). (own : ℕ) → is_at h.port.own own ≡ true → ⊥) over n.links.links (λ i h at own e. absurd cc)

  booted_beside : Beside (booted_node n) as_node
  booted_beside = record {
    node = b.node;
    peer = b.peer;
    size = length-map n.links.links over ∙ sym (length-map n.links.links (λ (h : LateLink). lift (over h)));
    unique = λ i j h g at_h at_g own own_h own_g. absurd (no_own i h at_h own own_h);
    for_links = tt;
    of_links = tt;
    all = λ i k l at_k at_l. go i k l (slice_get n.links.links i) refl (sym (slice_get-map over n.links.links i) ∙ at_k)
        (sym (slice_get-map (λ (h : LateLink). lift (over h)) n.links.links i) ∙ at_l);
  }
    where
      go : (i : ℕ) (k : LateLink) (l : Link) (o : Option LateLink) → slice_get n.links.links i ≡ o → option_map over o ≡ Some k →
          option_map (λ (h : LateLink). lift (over h)) o ≡ Some l → Follows k l [] []
      go i k l None at e f = absurd cc
      go i k l (Some h) at e f =
          subst (λ (x : LateLink). Follows x l [] []) (same_Some (over h) k e)
          (subst (λ (x : Link). Follows (over h) x [] []) (same_Some (lift (over h)) l f) (over_follows h (node_answered i h at)))

  booted_alike : Alike (booted true_segments With t) as_node
  booted_alike = record {
    node = refl;
    peer = refl;
    size = length-map t.links (booted_link true_segments With) ∙ sym b.size ∙ sym (length-map n.links.links (λ (h : LateLink). lift (over h)));
    all = λ i x y at_x at_y. inr (x_gone i x at_x, y_gone i y at_y);
  }
    where
      x_gone : (i : ℕ) (x : Link) → slice_get (map (booted_link true_segments With) t.links) i ≡ Some x → IsGone x
      x_gone = all_map (λ (i : ℕ) (x : Link). IsGone x) (booted_link true_segments With) t.links
          (λ i l at. record {
            phase = refl;
            own = refl;
            waits = refl;
            answered = subst IsAnswered (sym (drops_still l.port.opened l.segments)) (answered i l at);
          })

      y_gone : (i : ℕ) (y : Link) → slice_get (map (λ (h : LateLink). lift (over h)) n.links.links) i ≡ Some y → IsGone y
      y_gone = all_map (λ (i : ℕ) (y : Link). IsGone y) (λ (h : LateLink). lift (over h)) n.links.links
          (λ i h at. record { phase = refl; own = refl; waits = refl; answered = node_answered i h at })

  -- what is made after it the machine makes too
  pub boots_on : (later : List LinkRecord) → ((left : machine.Links) → next_links t (OfUser Boot) ≡ Ok left → AreNear left later) →
      ((u : machine.Links) → Beside (booted_node n) u → AreNear u later → MadeByMachine u later) → MadeByMachine t (OfUser Boot ∷ later)
  boots_on later near rest = (
    booted true_segments With t,
    refl,
    made_alike later as_node (booted true_segments With t) (turned booted_alike)
        (rest as_node booted_beside (near_alike later (booted true_segments With t) as_node booted_alike (near (booted true_segments With t) refl))),
  )
    where
      turned : Alike (booted true_segments With t) as_node → Alike as_node (booted true_segments With t)
      turned a = record {
        node = sym a.node;
        peer = sym a.peer;
        size = sym a.size;
        all = λ i x y at_x at_y. back x y (a.all i y x at_y at_x);
      }
        where
          back : (x y : Link) → AreSameOrGone y x → AreSameOrGone x y
          back x y (inl e) = inl (sym e)
          back x y (inr g) = inr (g.1, g.0)
