-- What becomes of all links of a node where something is known of the last acknowledgement sent of those with one far address.
use Rattle.accusing_links.proofs.Prelude.{◌≡◌, ℕ, Some, List, [], ◌∷◌, ◌++◌, map, zero, suc, sym, subst, slice_get, slice_set, Queues, LinkOf}
use Rattle.accusing_links.proofs.Prelude.{booted_link, WireSegments, wire_segments}
use Rattle.accusing_links.proofs.Each.{Each, each_at, each_pushed, each_more}
use Rattle.accusing_links.proofs.FarLinks.{IsOther, NoneTo, OneTo, one_of_none}
use Rattle.accusing_links.proofs.Received.{weaker}
use Rattle.accusing_links.proofs.Follows.{IsKnown, Follows, follows_itself, booted_follows}

module _ (queues : Queues) (own far least : ℕ) (Q : ℕ → Type 0) where
  abbrev Is : LinkOf WireSegments → Type 0
  Is l = IsKnown queues own far least Q l

  abbrev Goes : LinkOf WireSegments → LinkOf WireSegments → Type 0
  Goes l m = Follows queues own far least Q l m

  abbrev pub AreKnown : List (LinkOf WireSegments) → Type 0
  AreKnown links = Each Is links

  -- each follows, and new ones have not the far address
  abbrev pub AreFollowed : List (LinkOf WireSegments) → List (LinkOf WireSegments) → Type 0
  AreFollowed [] later = NoneTo far later
  AreFollowed (l ∷ links) [] = ⊥
  AreFollowed (l ∷ links) (m ∷ later) = Goes l m × AreFollowed links later

  pub none_followed : (links later : List (LinkOf WireSegments)) → AreFollowed links later → NoneTo far links → NoneTo far later
  none_followed [] later are none = are
  none_followed (l ∷ links) [] are none = absurd are
  none_followed (l ∷ links) (m ∷ later) are none = (λ e. none.0 (are.0.to e), none_followed links later are.1 none.1)

  pub one_followed : (links later : List (LinkOf WireSegments)) → AreFollowed links later → OneTo far links → OneTo far later
  one_followed [] later are one = one_of_none far later are
  one_followed (l ∷ links) [] are one = absurd are
  one_followed (l ∷ links) (m ∷ later) are one =
      (λ e. none_followed links later are.1 (one.0 (are.0.to e)), one_followed links later are.1 one.1)

  known_of_none : (links : List (LinkOf WireSegments)) → NoneTo far links → AreKnown links
  known_of_none = each_more (IsOther far) Is (λ l other e. absurd (other e))

  pub known_followed : (links later : List (LinkOf WireSegments)) → AreFollowed links later → AreKnown links → AreKnown later
  known_followed [] later are known = known_of_none later are
  known_followed (l ∷ links) [] are known = absurd are
  known_followed (l ∷ links) (m ∷ later) are known = (are.0.known known.0, known_followed links later are.1 known.1)

  pub all_same : (links : List (LinkOf WireSegments)) → AreFollowed links links
  all_same [] = tt
  all_same (l ∷ links) = (follows_itself queues own far least Q l, all_same links)

  pub followed_changed : (links later : List (LinkOf WireSegments)) (n : ℕ) (l m : LinkOf WireSegments) → AreFollowed links later →
      slice_get links n ≡ Some l → Goes l m → AreFollowed links (slice_set later n m)
  followed_changed [] later n l m are at is = absurd cc
  followed_changed (first ∷ links) [] n l m are at is = absurd are
  followed_changed (first ∷ links) (next ∷ later) zero l m are at is =
      let same : first ≡ l = cc in (subst (λ (x : LinkOf WireSegments). Goes x m) (sym same) is, are.1)
  followed_changed (first ∷ links) (next ∷ later) (suc n) l m are at is = (are.0, followed_changed links later n l m are.1 at is)

  pub followed_pushed : (links later : List (LinkOf WireSegments)) (m : LinkOf WireSegments) → AreFollowed links later →
      (m.port.far ≡ Some far → ⊥) → AreFollowed links (later ++ m ∷ [])
  followed_pushed [] later m are this = each_pushed (IsOther far) later m are this
  followed_pushed (first ∷ links) [] m are this = absurd are
  followed_pushed (first ∷ links) (next ∷ later) m are this = (are.0, followed_pushed links later m are.1 this)

  pub all_booted : (links : List (LinkOf WireSegments)) → AreFollowed links (map (booted_link wire_segments queues) links)
  all_booted [] = tt
  all_booted (l ∷ links) = (booted_follows queues own far least Q l, all_booted links)

  -- of the one that has it this is known
  pub all_by_one : (links : List (LinkOf WireSegments)) (n : ℕ) (l m : LinkOf WireSegments) → OneTo far links → slice_get links n ≡ Some l →
      l.port.far ≡ Some far → Is m → AreKnown (slice_set links n m)
  all_by_one [] n l m one at to is = absurd cc
  all_by_one (first ∷ links) zero l m one at to is =
      let same : first ≡ l = cc in
      (is, known_of_none links (one.0 (subst (λ (x : LinkOf WireSegments). x.port.far ≡ Some far) (sym same) to)))
  all_by_one (first ∷ links) (suc n) l m one at to is =
      (λ e. absurd (each_at (IsOther far) links n l (one.0 e) at to), all_by_one links n l m one.1 at to is)

-- where more passed
module _ (queues : Queues) (own far least : ℕ) (Q R : ℕ → Type 0) (more : (number : ℕ) → Q number → R number) where
  pub known_more : (links : List (LinkOf WireSegments)) → AreKnown queues own far least Q links → AreKnown queues own far least R links
  known_more = each_more (IsKnown queues own far least Q) (IsKnown queues own far least R) (λ l is e g.
      let was = is e g in record { begun = was.begun; received = λ o. weaker least Q R _ _ _ more (was.received o) })
