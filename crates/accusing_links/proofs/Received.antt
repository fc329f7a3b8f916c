-- What the segments of a link have received passed: whatever passed, by a predicate on numbers modulo 4,096.
use Rattle.accusing_links.proofs.Prelude.{◌≡◌, ℕ, ◌+◌, ◌-◌, ◌<◌, ◌≤◌, Bool, true, false, ◌&&◌, cond, leb, Option, Some, None, List, [], ◌∷◌, length}
use Rattle.accusing_links.proofs.Prelude.{drop, refl, sym, subst, arith, ◌⊎◌, inl, inr, slice_get, and_parts, leb-true, leb-false, AckWord}
use Rattle.accusing_links.proofs.Prelude.{SegmentValue, Piece, piece_of, in_order, Whole, next_message, in_whole_messages, REACH, wire, distance}
use Rattle.accusing_links.proofs.Prelude.{is_of_data, LinkVariables, WireSegments, empty, delivered_as, delivers_whole, delivers, LastSent, last_of}
use Rattle.accusing_links.proofs.Prelude.{acknowledged_to, acknowledged_by, acknowledged_by_all, held, with_pieces, with_segment, takes_acks}
use Rattle.accusing_links.proofs.Prelude.{takes_segment, ends, in_order-hold, in_order-drop}
use Rattle.accusing_links.proofs.Words.{distance_on, IsLast}
use Rattle.accusing_links.proofs.Pieces.{there_in_order, held_or_there, dropped_get, whole_in_order, wholes_in_order, none_behind}

-- all numbers through the highest received without a gap, and all that are held above it; the last acknowledgement sent is at least this one
pub record Holds (least : ℕ) (Q : ℕ → Type 0) (received : ℕ) (pieces : List (Option Piece)) (sent : LastSent) : Type 0 where
  pub highest : ℕ
  pub here : received ≡ wire highest
  pub last : IsLast least highest sent
  pub all : (n : ℕ) → 1 ≤ n → n ≤ highest → Q (wire n)
  pub beyond : (k : ℕ) (p : Piece) → slice_get pieces (in_order pieces + k) ≡ Some (Some p) → Q (wire (highest + 1 + k))

abbrev pub Received : ℕ → (ℕ → Type 0) → WireSegments → Type 0
Received least Q f = Holds least Q f.variables.received f.variables.pieces (last_of f)

-- a word acknowledges nothing yet, or what passed
abbrev pub AreFine : (ℕ → Type 0) → List AckWord → Type 0
AreFine Q [] = Unit {0}
AreFine Q (word ∷ words) = (is_of_data word.qualifier ≡ true → (word.number ≡ 0) ⊎ Q word.number) × AreFine Q words

abbrev pub none_sent : LastSent
none_sent = record { last = 0; is_high = false }

none_last : IsLast 0 0 none_sent
none_last = record { number = 0; from = omega arith; within = omega arith; same = refl; high = λ e. absurd cc; low = λ e. refl }

-- more passed
pub weaker : (least : ℕ) (Q R : ℕ → Type 0) (received : ℕ) (pieces : List (Option Piece)) (sent : LastSent) → ((n : ℕ) → Q n → R n) →
    Holds least Q received pieces sent → Holds least R received pieces sent
weaker least Q R received pieces sent more is = record {
  highest = is.highest;
  here = is.here;
  last = is.last;
  all = λ n l m. more (wire n) (is.all n l m);
  beyond = λ k p e. more (wire (is.highest + 1 + k)) (is.beyond k p e);
}

module _ (Q : ℕ → Type 0) where
  pub empty_received : Received 0 Q empty
  empty_received = record {
    highest = 0;
    here = refl;
    last = none_last;
    all = λ n l m. absurd (omega (arith, l, m));
    beyond = λ k p e. absurd cc;
  }

  pub ends_received : (f : WireSegments) → Received 0 Q (ends f)
  ends_received f = record {
    highest = 0;
    here = refl;
    last = none_last;
    all = λ n l m. absurd (omega (arith, l, m));
    beyond = λ k p e. absurd (none_behind (in_whole_messages f.variables.pieces) f.variables.pieces (wholes_in_order f.variables.pieces) k p e);
  }

module _ (least : ℕ) (Q : ℕ → Type 0) where
  -- ---- what is delivered

  fewer : (received n : ℕ) (pieces : List (Option Piece)) (sent : LastSent) → n ≤ in_order pieces → Holds least Q received pieces sent →
      Holds least Q received (drop n pieces) sent
  fewer received n pieces sent l is = record {
    highest = is.highest;
    here = is.here;
    last = is.last;
    all = is.all;
    beyond = λ k p e. is.beyond k p (
        let less = in_order-drop n pieces l in
        let same : n + (in_order (drop n pieces) + k) ≡ in_order pieces + k = omega (arith, less, l) in
        subst (λ (i : ℕ). slice_get pieces i ≡ Some (Some p)) same
        (subst (λ (x : Option (Option Piece)). x ≡ Some (Some p)) (dropped_get n pieces (in_order (drop n pieces) + k)) e));
  }

  pub delivers_received : (message : List ℕ) (f d : WireSegments) → delivers message f ≡ Some d → Received least Q f → Received least Q d
  delivers_received message f d e is = go (next_message f.variables.pieces) refl e
    where
      by_test : (b : Bool) (w : Whole) → next_message f.variables.pieces ≡ Some w → delivered_as b w f ≡ Some d → Received least Q d
      by_test true w at g =
          let less = fewer f.variables.received w.pieces f.variables.pieces (last_of f) (whole_in_order f.variables.pieces w at) is in
          delivered g less
        where
          delivered : delivered_as true w f ≡ Some d →
              Received least Q (record f { variables = record f.variables { pieces = drop w.pieces f.variables.pieces } })
              → Received least Q d
          delivered h made =
              let same : record f { variables = record f.variables { pieces = drop w.pieces f.variables.pieces } } ≡ d = cc in
              subst (Received least Q) same made
      by_test false w at g = absurd cc

      go : (o : Option Whole) → next_message f.variables.pieces ≡ o → delivers_whole o message f ≡ Some d → Received least Q d
      go None at g = absurd cc
      go (Some w) at g = by_test _ w at g

  -- ---- what comes

  one_acknowledged : (b : Bool) (k : LinkVariables) (number : ℕ) (sent : LastSent) → Holds least Q k.received k.pieces sent →
      Holds least Q (acknowledged_to b k number).received (acknowledged_to b k number).pieces sent
  one_acknowledged true k number sent is = is
  one_acknowledged false k number sent is = is

  all_acknowledged : (words : List AckWord) (k : LinkVariables) (sent : LastSent) → Holds least Q k.received k.pieces sent →
      Holds least Q (acknowledged_by_all words k).received (acknowledged_by_all words k).pieces sent
  all_acknowledged [] k sent is = is
  all_acknowledged (word ∷ words) k sent is =
      all_acknowledged words (acknowledged_by k word) sent
      (one_acknowledged (is_of_data word.qualifier && leb (distance k.acknowledged word.number) (length k.outstanding)) k word.number sent is)

  pub acks_received : (words : List AckWord) (f : WireSegments) → Received least Q f → Received least Q (takes_acks words tt f)
  acks_received words f is = all_acknowledged words f.variables (last_of f) is

  module _ (k : LinkVariables) (sent : LastSent) (number : ℕ) (p : Piece) (is : Holds least Q k.received k.pieces sent) (small : number < 4096)
      (came : Q number) where
    abbrev above : ℕ
    above = distance k.received number

    abbrev pieces : List (Option Piece)
    pieces = held above p k

    more : in_order k.pieces ≤ in_order pieces
    more = in_order-hold (in_order k.pieces + above - 1) p k.pieces

    this : number ≡ wire (is.highest + above)
    this = subst (λ (x : ℕ). number ≡ wire (is.highest + distance x number)) (sym is.here) (distance_on is.highest number small)

    new_beyond : 1 ≤ above → (j : ℕ) (q : Piece) → slice_get pieces (in_order k.pieces + j) ≡ Some (Some q) → Q (wire (is.highest + 1 + j))
    new_beyond l j q e = go (held_or_there (in_order k.pieces + above - 1) p k.pieces (in_order k.pieces + j) q e)
      where
        go : (in_order k.pieces + j ≡ in_order k.pieces + above - 1) ⊎ (slice_get k.pieces (in_order k.pieces + j) ≡ Some (Some q)) →
            Q (wire (is.highest + 1 + j))
        go (inl same) =
            let at : is.highest + 1 + j ≡ is.highest + above = omega (arith, same, l) in
            subst (λ (x : ℕ). Q (wire x)) (sym at) (subst Q this came)
        go (inr there) = is.beyond j q there

    held_received : 1 ≤ above → Holds least Q (with_pieces pieces k).received pieces sent
    held_received l = record {
      highest = is.highest + (in_order pieces - in_order k.pieces);
      here = let h = is.here in omega (arith, h);
      last = record {
        number = is.last.number;
        from = is.last.from;
        within = let w = is.last.within in omega (arith, w);
        same = is.last.same;
        high = is.last.high;
        low = is.last.low;
      };
      all = through;
      beyond = λ j q e.
          let m = more in
          let at : in_order pieces + j ≡ in_order k.pieces + (in_order pieces - in_order k.pieces + j) = omega (arith, m) in
          let to : is.highest + 1 + (in_order pieces - in_order k.pieces + j)
          ≡ is.highest + (in_order pieces - in_order k.pieces) + 1 + j = omega arith in
          subst (λ (x : ℕ). Q (wire x)) to
          (new_beyond l (in_order pieces - in_order k.pieces + j) q (subst (λ (i : ℕ). slice_get pieces i ≡ Some (Some q)) at e));
    }
      where
        through : (n : ℕ) → 1 ≤ n → n ≤ is.highest + (in_order pieces - in_order k.pieces) → Q (wire n)
        through n first most = go (leb n is.highest) refl
          where
            go : (b : Bool) → leb n is.highest ≡ b → Q (wire n)
            go true e = is.all n first (leb-true n is.highest e)
            go false e =
                let m = leb-false n is.highest e in
                let at : in_order k.pieces + (n - is.highest - 1) < in_order pieces = omega (arith, m, most) in
                let found = there_in_order pieces (in_order k.pieces + (n - is.highest - 1)) at in
                let to : is.highest + 1 + (n - is.highest - 1) ≡ n = omega (arith, m) in
                subst (λ (x : ℕ). Q (wire x)) to (new_beyond l (n - is.highest - 1) found.0 found.1)

    segment_held : Holds least Q (with_segment above p k).received (with_segment above p k).pieces sent
    segment_held = go (leb 1 above && leb above REACH) refl
      where
        go : (b : Bool) → (leb 1 above && leb above REACH) ≡ b →
            Holds least Q (cond b (with_pieces (held above p k) k) k).received (cond b (with_pieces (held above p k) k) k).pieces sent
        go true e = held_received (leb-true 1 above (and_parts (leb 1 above) (leb above REACH) e).0)
        go false e = is

  pub segment_received : (s : SegmentValue) (f : WireSegments) → s.number < 4096 → Q s.number → Received least Q f →
      Received least Q (takes_segment s tt f)
  segment_received s f small came is =
      segment_held (acknowledged_by_all s.acks f.variables) (last_of f) s.number (piece_of s)
      (all_acknowledged s.acks f.variables (last_of f) is) small came
