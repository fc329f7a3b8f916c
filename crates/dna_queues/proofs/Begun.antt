-- A link begins in both, and what is kept for no link is acted on at once.
use Rattle.dna_queues.proofs.Prelude.{◌≡◌, ℕ, true, ◌&&◌, ◌==◌, ◌⊎◌, inl, inr, Option, Some, None, List, [], ◌∷◌, ◌++◌, length, Result, Ok, refl}
use Rattle.dna_queues.proofs.Prelude.{sym, ap, ap₂, ◌∙◌, subst, arith, append-nil, length-append, slice_get, slice_get_within, at_pushed, NspValue}
use Rattle.dna_queues.proofs.Prelude.{ConnectAck, NoOperation, ConnectInitiate, LinkRefusal, WrongNode, LinkTag, Calling, Called, LiveTo, Without}
use Rattle.dna_queues.proofs.Prelude.{With, is_at, begun, LinkTruth, are_same, opened, called, of_partner, arrived_step, message_arrived, Numbers}
use Rattle.dna_queues.proofs.Prelude.{true_segments, SentMessage, IsFound, looked, checked, AreAnswered, late_segments, Links, Node}
use Rattle.dna_queues.proofs.Prelude.{dstaddr, link_it_is_for, link_it_is_of, waiting, ComesTo}
use Rattle.dna_links.specs.TrueLinks as machine
use Rattle.dna_queues.proofs.{Facts.passed_check, Facts.same_Ok, Goes.Link, Acting.LateLink, Follows.Follows, Lists.waiting_other}
use Rattle.dna_queues.proofs.{Lists.waiting_none, LinkLists.at_none, MachineArrivals.Alike, MachineArrivals.number_alike, Waiting.AreOf}
use Rattle.dna_queues.proofs.{Waiting.of_more, SentOn.Follow, Kept.comes_beside, Kept.came_alike, WaitsToGo.grows_itself}
use Rattle.dna_queues.specs.Records as records
use Rattle.dna_queues.proofs.Beside.{Beside, follows_as, eqb-other}

of_new : (node peer size : ℕ) (units : List SentMessage) → AreOf node peer size units → waiting link_it_is_of (Some size) units ≡ []
of_new node peer size [] are = refl
of_new node peer size (unit ∷ units) are =
    let a = are.0 in let w = a.within in
    waiting_other link_it_is_of unit units (Some size)
    (ap (λ (o : Option ℕ). are_same o (Some size)) a.is ∙ eqb-other size a.number (λ e. omega (arith, e, w)))
    ∙ of_new node peer size units are.1

module _ (n : Node) (t : machine.Links) (b : Beside n t) where
  pub begun_beside : (h : LateLink) (l : Link) → waiting link_it_is_for h.port.own n.kept ≡ [] →
      ((i : ℕ) (g : LateLink) → slice_get n.links.links i ≡ Some g → (own : ℕ) → is_at g.port.own own ≡ true → is_at h.port.own own ≡ true → ⊥) →
      Follows h l [] [] → Beside (record n { links = begun h n.links }) (begun l t)
  begun_beside h l nothing new f = record {
    node = b.node;
    peer = b.peer;
    size = let p = length-append n.links.links (h ∷ []) in let q = length-append t.links (l ∷ []) in let s = b.size in omega (arith, p, q, s);
    unique = λ i j x y at_i at_j own own_x own_y.
        unique i j x y own own_x own_y (at_pushed n.links.links h x i at_i) (at_pushed n.links.links h y j at_j);
    for_links = b.for_links;
    of_links = of_more n.links.node n.links.peer (length n.links.links) (length (n.links.links ++ h ∷ [])) n.composed
        (let p = length-append n.links.links (h ∷ []) in omega (arith, p)) b.of_links;
    all = λ i x y at_x at_y. one i x y (at_pushed n.links.links h x i at_x) (at_pushed t.links l y i at_y);
  }
    where
      unique : (i j : ℕ) (x y : LateLink) (own : ℕ) → is_at x.port.own own ≡ true → is_at y.port.own own ≡ true →
          (slice_get n.links.links i ≡ Some x) ⊎ ((i ≡ length n.links.links) × (h ≡ x)) →
          (slice_get n.links.links j ≡ Some y) ⊎ ((j ≡ length n.links.links) × (h ≡ y)) → i ≡ j
      unique i j x y own own_x own_y (inl p) (inl q) = b.unique i j x y p q own own_x own_y
      unique i j x y own own_x own_y (inl p) (inr q) =
          absurd (new i x p own own_x (ap (λ (z : LateLink). is_at z.port.own own) q.1 ∙ own_y))
      unique i j x y own own_x own_y (inr p) (inl q) =
          absurd (new j y q own own_y (ap (λ (z : LateLink). is_at z.port.own own) p.1 ∙ own_x))
      unique i j x y own own_x own_y (inr p) (inr q) = p.0 ∙ sym q.0

      one : (i : ℕ) (x : LateLink) (y : Link) → (slice_get n.links.links i ≡ Some x) ⊎ ((i ≡ length n.links.links) × (h ≡ x)) →
          (slice_get t.links i ≡ Some y) ⊎ ((i ≡ length t.links) × (l ≡ y)) →
          Follows x y (waiting link_it_is_for x.port.own n.kept) (waiting link_it_is_of (Some i) n.composed)
      one i x y (inl p) (inl q) = b.all i x y p q
      one i x y (inl p) (inr q) =
          let w = slice_get_within n.links.links i x p in let e = q.0 in let s = b.size in absurd (omega (arith, w, e, s))
      one i x y (inr p) (inl q) =
          let w = slice_get_within t.links i y q in let e = p.0 in let s = b.size in absurd (omega (arith, w, e, s))
      one i x y (inr p) (inr q) =
          subst (λ (z : LateLink). Follows z y (waiting link_it_is_for z.port.own n.kept) (waiting link_it_is_of (Some i) n.composed)) p.1
          (subst (λ (z : Link). Follows h z (waiting link_it_is_for h.port.own n.kept) (waiting link_it_is_of (Some i) n.composed)) q.1
          (follows_as h l _ _ _ _ (sym nothing)
          (sym (ap (λ (j : ℕ). waiting link_it_is_of (Some j) n.composed) p.0
          ∙ of_new n.links.node n.links.peer (length n.links.links) n.composed b.of_links)) f))

-- ---- links that begin

pub called_follows : (far size : ℕ) (tag : LinkTag) →
    Follows (called late_segments of_partner far size tag) (called true_segments of_partner far size tag) [] []
called_follows far size tag = record {
  used = Called;
  of_use = λ e. refl;
  fresh = λ e. absurd cc;
  called = λ e. (refl, refl);
  ahead = record { port = refl; partner = refl; segsize = refl; received = tt; exact = λ e. refl; used = λ e. refl };
  acknowledged = omega arith;
  passed = refl;
  accepted = λ e. absurd cc;
  usable = λ e. refl;
  fits = record { waits = λ e. refl; ran = λ e. absurd cc; calling = λ e. absurd cc };
  can = grows_itself (called true_segments of_partner far size tag) (omega arith);
}

pub opened_follows : (own : ℕ) → Follows (opened late_segments own) (opened true_segments own) [] []
opened_follows own = record {
  used = Calling;
  of_use = λ e. refl;
  fresh = λ e. refl;
  called = λ e. absurd cc;
  ahead = record { port = refl; partner = refl; segsize = refl; received = tt; exact = λ e. refl; used = λ e. refl };
  acknowledged = omega arith;
  passed = refl;
  accepted = λ e. absurd cc;
  usable = λ e. refl;
  fits = record { waits = λ e. refl; ran = λ e. absurd cc; calling = λ e. (refl, refl) };
  can = grows_itself (opened true_segments own) (omega arith);
}

-- ---- what is kept for no link

append_same : {X : Type 0} (xs ys zs : List X) → xs ++ ys ≡ xs ++ zs → ys ≡ zs
append_same [] ys zs e = e
append_same {X} (x ∷ xs) ys zs e = append_same xs ys zs (tails (xs ++ ys) (xs ++ zs) e)
  where
    tails : (us vs : List X) → (x ∷ us) ≡ (x ∷ vs) → us ≡ vs
    tails us vs e = cc

module _ (n : Node) (t : machine.Links) (b : Beside n t) (all left : Links) (alike : Alike all t) (truth : LinkTruth Numbers) (new : List LateLink)
    (grown : left.links ≡ all.links ++ new) where
  abbrev with_new : Node
  with_new = record n { links = record n.links { links = n.links.links ++ new } }

  pub record MadeAtOnce (m : NspValue) : Type 0 where
    pub made : machine.Links
    pub is : message_arrived With true_segments of_partner t m truth ≡ Ok made
    pub beside : Beside with_new made

  nothing_new : (m : NspValue) → message_arrived With true_segments of_partner t m truth ≡ Ok t →
      ◌≡◌ {A = Result Links LinkRefusal} (Ok all) (Ok left) → MadeAtOnce m
  nothing_new m does e = record {
    made = t;
    is = does;
    beside = subst (λ (xs : List LateLink). Beside (record n { links = record n.links { links = xs } }) t)
        (sym (ap (λ (ys : List LateLink). n.links.links ++ ys) (sym none) ∙ append-nil n.links.links)) b;
  }
    where
      none : [] ≡ new
      none = append_same all.links [] new (append-nil all.links ∙ ap (λ (s : Links). s.links) (same_Ok all left e) ∙ grown)

  pub made_at_once : (m : NspValue) → dstaddr m ≡ None → message_arrived Without late_segments of_partner all m truth ≡ Ok left → MadeAtOnce m
  made_at_once (ConnectInitiate retransmitted src services info segsize user_data) is e =
      looked (LiveTo src) all (Ok (begun (called late_segments of_partner src segsize truth.tag) all)) (λ n h. Ok all) (Ok left) e
      (λ none e. record {
        made = begun (called true_segments of_partner src segsize truth.tag) t;
        is = at_none (LiveTo src) t _ _ (sym (number_alike all t alike (LiveTo src)) ∙ none);
        beside = subst (λ (xs : List LateLink). Beside (record n { links = record n.links { links = n.links.links ++ xs } })
            (begun (called true_segments of_partner src segsize truth.tag) t))
            (append_same all.links (called late_segments of_partner src segsize truth.tag ∷ []) new
            (ap (λ (s : Links). s.links) (same_Ok _ left e) ∙ grown))
            (begun_beside n t b (called late_segments of_partner src segsize truth.tag) (called true_segments of_partner src segsize truth.tag)
            (waiting_none link_it_is_for n.kept) (λ i g at own own_g own_h. absurd cc) (called_follows src segsize truth.tag));
      })
      (λ i h found e. nothing_new (ConnectInitiate retransmitted src services info segsize user_data) (go i h found) e)
    where
      go : (i : ℕ) (h : LateLink) → IsFound (LiveTo src) all i h →
          message_arrived With true_segments of_partner t (ConnectInitiate retransmitted src services info segsize user_data) truth ≡ Ok t
      go i h found =
          looked (LiveTo src) t (Ok (begun (called true_segments of_partner src segsize truth.tag) t)) (λ n l. Ok t)
          (message_arrived With true_segments of_partner t (ConnectInitiate retransmitted src services info segsize user_data) truth) refl
          (λ none e. let never : Some i ≡ None = sym found.found ∙ number_alike all t alike (LiveTo src) ∙ none in absurd cc)
          (λ j l found e. sym e)
  made_at_once (ConnectAck dst) is e = nothing_new (ConnectAck dst) refl e
  made_at_once (NoOperation rest) is e = nothing_new (NoOperation rest) refl e
  made_at_once m is e = absurd cc

pub at_once_beside : (n : Node) (t : machine.Links) → Beside n t → AreAnswered t → (unit : SentMessage) (all left : Links) (new : List LateLink) →
    dstaddr unit.packet.message ≡ None → ComesTo n all → arrived_step Without late_segments of_partner all unit.packet unit.truth ≡ Ok left →
    left.links ≡ all.links ++ new → Follow (record n { links = record n.links { links = n.links.links ++ new } }) t (records.Keeps unit)
at_once_beside n t b answered unit all left new is comes e grown =
    let to = comes_beside t b answered comes in
    let alike = subst (λ (s : Links). Alike s t) to.is (came_alike to.last t to.beside to.none) in
    let c = checked (unit.packet.src == all.peer && unit.packet.dst == all.node) WrongNode _ left e in
    let r = made_at_once n t b all left alike unit.truth new grown unit.packet.message is c.1 in
    record {
      left = r.made;
      is = passed_check (unit.packet.src == t.peer && unit.packet.dst == t.node) WrongNode
          (message_arrived With true_segments of_partner t unit.packet.message unit.truth)
          (ap₂ (λ (x y : ℕ). unit.packet.src == x && unit.packet.dst == y) (sym alike.peer) (sym alike.node) ∙ c.0) ∙ r.is;
      beside = λ near. r.beside;
    }
