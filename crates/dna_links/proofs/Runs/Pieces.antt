-- Pieces are a cut of what was handed in, and what is delivered are the whole messages of the first pieces that came.
use Rattle.std.proofs.Common.{◌≡◌, ℕ, zero, suc, ◌+◌, Bool, true, false, not, ◌&&◌, ◌||◌, ◌==◌, cond, Option, Some, None, List, [], ◌∷◌, ◌++◌, length}
use Rattle.std.proofs.Common.{map, take, drop, refl, sym, ap, ap₂, ◌∙◌, subst, arith, append_assoc, append-nil, eqb-true, take-append-drop, take_all}
use Rattle.std.proofs.Common.{length-append, bytes_eq}
use Rattle.std.specs.Prelude.{slice_get}
use Rattle.std.proofs.lemmas.List.{drop_at, map-append, length-map}
use Rattle.std.proofs.lemmas.Bool.{and_parts}
use Rattle.std.proofs.lemmas.Slice.Eq.{bytes_eq-Decides}
use Rattle.two_nodes.proofs.Order.{slice_get-append}
use Rattle.two_nodes.specs.Beginning.{BeginsWith}
use Rattle.dna_links.specs.Segmentation.{Piece, alike, Unsent, is_piece_of, is_next_of, is_next_piece, left_of, without_piece, hold, Whole}
use Rattle.dna_links.specs.Segmentation.{with_piece}
use Rattle.dna_links.specs.Segmentation.{next_message}
use Rattle.dna_links.specs.TrueSegments.{TrueSegments, hands_in, delivered_as, delivers_whole, delivers}
use Rattle.dna_links.specs.Delivery.{whole, unfinished, with_begun, IsCut}

-- ---- pieces behind pieces

pub whole-append : (begun : List ℕ) (ps qs : List Piece) → whole begun (ps ++ qs) ≡ whole begun ps ++ whole (unfinished begun ps) qs
whole-append begun [] qs = refl
whole-append begun (p ∷ ps) qs = go p.ends (whole-append [] ps qs) (whole-append (begun ++ p.body) ps qs)
  where
    go : (b : Bool) → whole [] (ps ++ qs) ≡ whole [] ps ++ whole (unfinished [] ps) qs →
        whole (begun ++ p.body) (ps ++ qs) ≡ whole (begun ++ p.body) ps ++ whole (unfinished (begun ++ p.body) ps) qs →
        cond b ((begun ++ p.body) ∷ whole [] (ps ++ qs)) (whole (begun ++ p.body) (ps ++ qs)) ≡ cond b ((begun ++ p.body) ∷ whole [] ps)
        (whole (begun ++ p.body) ps) ++ whole (cond b (unfinished [] ps) (unfinished (begun ++ p.body) ps)) qs
    go true e f = ap (λ (x : List (List ℕ)). (begun ++ p.body) ∷ x) e
    go false e f = f

pub unfinished-append : (begun : List ℕ) (ps qs : List Piece) → unfinished begun (ps ++ qs) ≡ unfinished (unfinished begun ps) qs
unfinished-append begun [] qs = refl
unfinished-append begun (p ∷ ps) qs = go p.ends (unfinished-append [] ps qs) (unfinished-append (begun ++ p.body) ps qs)
  where
    go : (b : Bool) → unfinished [] (ps ++ qs) ≡ unfinished (unfinished [] ps) qs →
        unfinished (begun ++ p.body) (ps ++ qs) ≡ unfinished (unfinished (begun ++ p.body) ps) qs →
        cond b (unfinished [] (ps ++ qs)) (unfinished (begun ++ p.body) (ps ++ qs)) ≡ unfinished
        (cond b (unfinished [] ps) (unfinished (begun ++ p.body) ps)) qs
    go true e f = e
    go false e f = f

-- ---- what was given is a cut of what was handed in

pub cut_handed : (message : List ℕ) (f : TrueSegments) → IsCut f → IsCut (hands_in message f)
cut_handed message f c = record { all = go f.unsent.messages c.all c.none_left; none_left = λ e. absurd (some_left f.unsent.messages e) }
  where
    some_left : (ms : List (List ℕ)) → ms ++ message ∷ [] ≡ [] → ⊥
    some_left [] e = cc
    some_left (m ∷ ms) e = cc

    go : (ms : List (List ℕ)) → f.handed ≡ whole [] f.given ++ with_begun (unfinished [] f.given) ms → (ms ≡ [] → unfinished [] f.given ≡ []) →
        f.handed ++ message ∷ [] ≡ whole [] f.given ++ with_begun (unfinished [] f.given) (ms ++ message ∷ [])
    go [] all none =
        ap (λ (x : List (List ℕ)). x ++ message ∷ []) (all ∙ append-nil (whole [] f.given))
        ∙ ap (λ (x : List ℕ). whole [] f.given ++ (x ++ message) ∷ []) (sym (none refl))
    go (m ∷ ms) all none =
        ap (λ (x : List (List ℕ)). x ++ message ∷ []) all ∙ append_assoc (whole [] f.given) ((unfinished [] f.given ++ m) ∷ ms) (message ∷ [])

-- the next piece of what is not given
pub record IsNext (p : Piece) (rest : List ℕ) : Type 0 where
  pub body : p.body ≡ take (length p.body) rest
  pub ends : alike p.ends (length p.body == length rest) ≡ true

next_is : (p : Piece) (begun : Bool) (rest : List ℕ) → is_piece_of p begun rest ≡ true → IsNext p rest
next_is p begun rest e =
    let a = and_parts (bytes_eq p.body (take (length p.body) rest)) _ e in
    let b = and_parts (alike p.begins (not begun)) (alike p.ends (length p.body == length rest) && (not (length p.body == 0) || length rest == 0))
    a.1 in
    let c = and_parts (alike p.ends (length p.body == length rest)) (not (length p.body == 0) || length rest == 0) b.1 in
    record { body = (bytes_eq-Decides p.body (take (length p.body) rest)).0 a.0; ends = c.0 }

-- what a piece and the rest behind it make is what there was
after_piece : (begun : List ℕ) (p : Piece) (rest : List ℕ) (later : List (List ℕ)) → IsNext p rest →
    (whole begun (p ∷ []) ++ with_begun (unfinished begun (p ∷ [])) (left_of p (rest ∷ later)).messages ≡ (begun ++ rest) ∷ later)
    × ((left_of p (rest ∷ later)).messages ≡ [] → unfinished begun (p ∷ []) ≡ [])
after_piece begun p rest later n = go p.ends n.ends
  where
    go : (b : Bool) → alike b (length p.body == length rest) ≡ true →
        (cond b ((begun ++ p.body) ∷ []) [] ++ with_begun (cond b [] (begun ++ p.body))
        (cond {A = Unsent} b (record { begun = false; messages = later })
        (record { begun = true; messages = drop (length p.body) rest ∷ later })).messages ≡ (begun ++ rest) ∷ later)
        × ((cond {A = Unsent} b (record { begun = false; messages = later })
        (record { begun = true; messages = drop (length p.body) rest ∷ later })).messages ≡ [] → cond b [] (begun ++ p.body) ≡ [])
    go true e =
        let same : p.body ≡ rest = n.body ∙ take_all (length p.body) rest (let l = eqb-true _ _ e in omega arith) in
        (ap₂ (λ (x : List ℕ) (y : List (List ℕ)). (begun ++ x) ∷ y) same (none later), λ e. refl)
      where
        none : (ms : List (List ℕ)) → with_begun [] ms ≡ ms
        none [] = refl
        none (m ∷ ms) = refl
    go false e = (
      ap (λ (x : List ℕ). x ∷ later)
          (append_assoc begun p.body (drop (length p.body) rest) ∙
          ap (λ (x : List ℕ). begun ++ x) (ap (λ (x : List ℕ). x ++ drop (length p.body) rest) n.body ∙ take-append-drop (length p.body) rest)),
      λ e. absurd cc,
    )

pub cut_given : (p : Piece) (f g : TrueSegments) → IsCut f → is_next_piece p f.unsent ≡ true → g.handed ≡ f.handed → g.given ≡ f.given ++ p ∷ [] →
    g.unsent ≡ without_piece p f.unsent → IsCut g
cut_given p f g c next handed given unsent = go f.unsent.messages c.all next (ap (λ (u : Unsent). u.messages) unsent)
  where
    go : (ms : List (List ℕ)) → f.handed ≡ whole [] f.given ++ with_begun (unfinished [] f.given) ms → is_next_of p f.unsent.begun ms ≡ true →
        g.unsent.messages ≡ (left_of p ms).messages → IsCut g
    go [] all next left = absurd cc
    go (rest ∷ later) all next left = record {
      all = handed ∙ all ∙ ap (λ (x : List (List ℕ)). whole [] f.given ++ x) (sym after.0)
          ∙ sym (append_assoc (whole [] f.given) (whole (unfinished [] f.given) (p ∷ []))
          (with_begun (unfinished (unfinished [] f.given) (p ∷ [])) (left_of p (rest ∷ later)).messages))
          ∙ ap₂ (λ (x : List (List ℕ)) (y : List ℕ). x ++ with_begun y (left_of p (rest ∷ later)).messages) (sym (whole-append [] f.given (p ∷ [])))
          (sym (unfinished-append [] f.given (p ∷ [])))
          ∙ ap₂ (λ (x : List Piece) (y : List (List ℕ)). whole [] x ++ with_begun (unfinished [] x) y) (sym given) (sym left);
      none_left = λ e. ap (unfinished []) given ∙ unfinished-append [] f.given (p ∷ []) ∙ after.1 (sym left ∙ e);
    }
      where
        after : (whole (unfinished [] f.given) (p ∷ []) ++ with_begun (unfinished (unfinished [] f.given) (p ∷ []))
            (left_of p (rest ∷ later)).messages ≡ (unfinished [] f.given ++ rest) ∷ later)
            × ((left_of p (rest ∷ later)).messages ≡ [] → unfinished (unfinished [] f.given) (p ∷ []) ≡ [])
        after = after_piece (unfinished [] f.given) p rest later (next_is p f.unsent.begun rest next)

-- ---- what was delivered

-- the pieces that were delivered are the first ones that came, and make whole messages
pub record IsPassed (f : TrueSegments) : Type 0 where
  pub first : List Piece
  pub rest : List (Option Piece)
  pub are : f.received ≡ map Some first ++ rest
  pub many : length first ≡ f.passed
  pub make : whole [] first ≡ f.delivered
  pub wholly : unfinished [] first ≡ []

-- a piece that is held changes nothing before it, where there is no gap
pub hold_behind : (first : List Piece) (rest : List (Option Piece)) (n : ℕ) (p : Piece) → (later : List (Option Piece)) ×
    (hold n p (map Some first ++ rest) ≡ map Some first ++ later)
hold_behind [] rest n p = (hold n p rest, refl)
hold_behind (q ∷ first) rest zero p = (rest, refl)
hold_behind (q ∷ first) rest (suc n) p = let h = hold_behind first rest n p in (h.0, ap (λ (x : List (Option Piece)). Some q ∷ x) h.1)

pub passed_held : (f : TrueSegments) (n : ℕ) (p : Piece) → IsPassed f → IsPassed (record f { received = hold n p f.received })
passed_held f n p d =
    let h = hold_behind d.first d.rest n p in
    record { first = d.first; rest = h.0; are = ap (hold n p) d.are ∙ h.1; many = d.many; make = d.make; wholly = d.wholly }

-- the next message, and the pieces that it came in
pub record IsWhole (begun : List ℕ) (pieces : List (Option Piece)) (w : Whole) : Type 0 where
  pub first : List Piece
  pub rest : List (Option Piece)
  pub are : pieces ≡ map Some first ++ rest
  pub many : length first ≡ w.pieces
  pub makes : whole begun first ≡ (begun ++ w.message) ∷ []
  pub wholly : unfinished begun first ≡ []

next_whole : (begun : List ℕ) (pieces : List (Option Piece)) (w : Whole) → next_message pieces ≡ Some w → IsWhole begun pieces w
next_whole begun [] w e = absurd cc
next_whole begun (None ∷ pieces) w e = absurd cc
next_whole begun (Some p ∷ pieces) w e = go p.ends refl (λ w e. next_whole (begun ++ p.body) pieces w e) e
  where
    one : (b : Bool) → p.ends ≡ b → (w : Whole) → ((w : Whole) → next_message pieces ≡ Some w → IsWhole (begun ++ p.body) pieces w) →
        (o : Option Whole) → next_message pieces ≡ o → cond b (Some (record { pieces = 1; message = p.body })) (with_piece p o) ≡ Some w →
        IsWhole begun (Some p ∷ pieces) w
    one true ends w later o next e =
        let same : record { pieces = 1; message = p.body } ≡ w = cc in
        subst (λ (x : Whole). IsWhole begun (Some p ∷ pieces) x) same (record {
          first = p ∷ [];
          rest = pieces;
          are = refl;
          many = omega arith;
          makes = ap (λ (b : Bool). cond b ((begun ++ p.body) ∷ []) []) ends;
          wholly = ap (λ (b : Bool). cond b [] (begun ++ p.body)) ends;
        })
    one false ends w later None next e = absurd cc
    one false ends w later (Some v) next e =
        let same : record { pieces = v.pieces + 1; message = p.body ++ v.message } ≡ w = cc in
        let r = later v next in
        let many = r.many in
        subst (λ (x : Whole). IsWhole begun (Some p ∷ pieces) x) same (record {
          first = p ∷ r.first;
          rest = r.rest;
          are = ap (λ (x : List (Option Piece)). Some p ∷ x) r.are;
          many = omega arith;
          makes = ap (λ (b : Bool). cond b ((begun ++ p.body) ∷ whole [] r.first) (whole (begun ++ p.body) r.first)) ends ∙ r.makes ∙
              ap (λ (x : List ℕ). x ∷ []) (append_assoc begun p.body v.message);
          wholly = ap (λ (b : Bool). cond b (unfinished [] r.first) (unfinished (begun ++ p.body) r.first)) ends ∙ r.wholly;
        })

    go : (b : Bool) → p.ends ≡ b → ((w : Whole) → next_message pieces ≡ Some w → IsWhole (begun ++ p.body) pieces w) →
        cond b (Some (record { pieces = 1; message = p.body })) (with_piece p (next_message pieces)) ≡ Some w → IsWhole begun (Some p ∷ pieces) w
    go b ends later e = one b ends w later (next_message pieces) refl e

-- what delivery changes
pub record Delivered (message : List ℕ) (f g : TrueSegments) : Type 0 where
  pub w : Whole
  pub next : next_message (drop f.passed f.received) ≡ Some w
  pub message_is : message ≡ w.message
  pub is : g ≡ record f { delivered = f.delivered ++ w.message ∷ []; passed = f.passed + w.pieces }

pub delivered_is : (message : List ℕ) (f g : TrueSegments) → delivers message f ≡ Some g → Delivered message f g
delivered_is message f g e = go _ refl e
  where
    same : (w : Whole) (b : Bool) → next_message (drop f.passed f.received) ≡ Some w → bytes_eq message w.message ≡ b → delivered_as b w f ≡ Some g →
        Delivered message f g
    same w true next equal e = record { w = w; next = next; message_is = (bytes_eq-Decides message w.message).0 equal; is = cc }
    same w false next equal e = absurd cc

    go : (o : Option Whole) → next_message (drop f.passed f.received) ≡ o → delivers_whole o message f ≡ Some g → Delivered message f g
    go None next e = absurd cc
    go (Some w) next e = same w _ next refl e

pub passed_delivered : (message : List ℕ) (f g : TrueSegments) → IsPassed f → Delivered message f g → IsPassed g
passed_delivered message f g d e = subst IsPassed (sym e.is) (record {
  first = d.first ++ n.first;
  rest = n.rest;
  are = d.are ∙ ap (λ (x : List (Option Piece)). map Some d.first ++ x) n.are ∙ sym (append_assoc (map Some d.first) (map Some n.first) n.rest) ∙
      ap (λ (x : List (Option Piece)). x ++ n.rest) (sym (map-append Some d.first n.first));
  many = let l = length-append d.first n.first in let a = d.many in let b = n.many in omega arith;
  make = whole-append [] d.first n.first ∙ ap₂ (λ (x : List (List ℕ)) (y : List ℕ). x ++ whole y n.first) d.make d.wholly ∙
      ap (λ (x : List (List ℕ)). f.delivered ++ x) n.makes;
  wholly = unfinished-append [] d.first n.first ∙ ap (λ (x : List ℕ). unfinished x n.first) d.wholly ∙ n.wholly;
})
  where
    behind : drop f.passed f.received ≡ d.rest
    behind = ap (drop f.passed) d.are ∙ drop_at (map Some d.first) d.rest f.passed (length-map d.first Some ∙ d.many)

    n : IsWhole [] d.rest e.w
    n = next_whole [] d.rest e.w (ap next_message (sym behind) ∙ e.next)

-- ---- what was delivered is a beginning of what was handed in

-- the pieces of a beginning make a beginning
pub passed_begins : (f g : TrueSegments) → IsPassed f → IsCut g →
    ((n : ℕ) (p : Piece) → slice_get f.received n ≡ Some (Some p) → slice_get g.given n ≡ Some p) → BeginsWith g.handed f.delivered
passed_begins f g d c held =
    let b = beginning d.first g.given
    (λ n p at. held n p (ap (λ (l : List (Option Piece)). slice_get l n) d.are ∙ slice_get-append (map Some d.first) d.rest n (Some p)
    (at_map d.first n p at))) in
    record {
      rest = whole [] b.0 ++ with_begun (unfinished [] g.given) g.unsent.messages;
      whole = c.all ∙ ap (λ (x : List (List ℕ)). x ++ with_begun (unfinished [] g.given) g.unsent.messages)
          (ap (whole []) b.1 ∙ whole-append [] d.first b.0 ∙ ap₂ (λ (x : List (List ℕ)) (y : List ℕ). x ++ whole y b.0) d.make d.wholly)
          ∙ append_assoc f.delivered (whole [] b.0) (with_begun (unfinished [] g.given) g.unsent.messages);
    }
  where
    at_map : (ps : List Piece) (n : ℕ) (p : Piece) → slice_get ps n ≡ Some p → slice_get (map Some ps) n ≡ Some (Some p)
    at_map [] n p at = absurd cc
    at_map (q ∷ ps) zero p at = ap Some at
    at_map (q ∷ ps) (suc n) p at = at_map ps n p at

    beginning : (ps qs : List Piece) → ((n : ℕ) (p : Piece) → slice_get ps n ≡ Some p → slice_get qs n ≡ Some p) → (rest : List Piece) ×
        (qs ≡ ps ++ rest)
    beginning [] qs at = (qs, refl)
    beginning (p ∷ ps) [] at = let e = at 0 p refl in absurd cc
    beginning (p ∷ ps) (q ∷ qs) at =
        let e = at 0 p refl in let same : q ≡ p = cc in
        let b = beginning ps qs (λ n r here. at (suc n) r here) in
        (b.0, ap₂ (λ (x : Piece) (y : List Piece). x ∷ y) same b.1)
