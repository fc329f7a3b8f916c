-- Pieces that came: where the first is missing, how one is held, and what whole messages they make.
use Rattle.std.proofs.Common.{◌≡◌, ℕ, zero, suc, ◌+◌, ◌-◌, ◌≤◌, ◌<◌, Bool, true, false, cond, Option, Some, None, List, [], ◌∷◌, ◌++◌, length, take}
use Rattle.std.proofs.Common.{drop, replicate, set, refl, sym, ap, ◌∙◌, arith, add-one, zero-add}
use Rattle.std.proofs.lemmas.List.{take-append-drop}
use Rattle.std.proofs.Math.ListN.{drop_of_length-le}
use Rattle.std.proofs.Math.Seq.{drop-append_seam, take-append_seam}
use Rattle.std.specs.Str.{bytes_eq}
use Rattle.std.specs.Bool.{one_answer}
use Rattle.std.proofs.lemmas.Slice.Eq.{bytes_eq-Decides}
use Rattle.dna_links.specs.Segmentation.{Piece, Whole, in_order, hold, next_message, with_piece, in_whole_messages, one_more}
use Rattle.link_segments.specs.Received.{piece_at, is_missing_at, pieces_if, pieces_of, delivered_pieces, without_front, count_of, next_count}
use Rattle.link_segments.specs.Received.{more_pieces}

-- ---- what comes before the first that is missing

pub in_order-le : (xs : List (Option Piece)) → in_order xs ≤ length xs
in_order-le [] = omega arith
in_order-le (None ∷ xs) = omega arith
in_order-le (Some p ∷ xs) = let h = in_order-le xs in omega arith

pub in_order-drop : (count : ℕ) (xs : List (Option Piece)) → count ≤ in_order xs → in_order (drop count xs) + count ≡ in_order xs
in_order-drop zero xs h = omega arith
in_order-drop (suc count) [] h = absurd (omega arith)
in_order-drop (suc count) (None ∷ xs) h = absurd (omega arith)
in_order-drop (suc count) (Some p ∷ xs) h = let later = in_order-drop count xs (omega arith) in omega arith

in_order-take : (count : ℕ) (xs : List (Option Piece)) → count ≤ in_order xs → in_order (take count xs) ≡ count
in_order-take zero xs h = refl
in_order-take (suc count) [] h = absurd (omega arith)
in_order-take (suc count) (None ∷ xs) h = absurd (omega arith)
in_order-take (suc count) (Some p ∷ xs) h = let later = in_order-take count xs (omega arith) in omega arith

-- ---- one piece after the other

step_on : (i : ℕ) (xs : List (Option Piece)) (p : Piece) → piece_at i xs ≡ Some p → drop i xs ≡ Some p ∷ drop (suc i) xs
step_on zero [] p e = absurd (cc)
step_on zero (x ∷ xs) p e = ap (λ (o : Option Piece). o ∷ xs) e
step_on (suc i) [] p e = absurd (cc)
step_on (suc i) (x ∷ xs) p e = step_on i xs p e

pub step : (i : ℕ) (xs : List (Option Piece)) (p : Piece) → piece_at i xs ≡ Some p → drop i xs ≡ Some p ∷ drop (i + 1) xs
step i xs p e = step_on i xs p e ∙ ap (λ (n : ℕ). Some p ∷ drop n xs) (sym (add-one i))

-- nothing is there, or what is there is missing
pub data Stops : List (Option Piece) → Type 0 where
  NoMore : Stops []
  Missing : (later : List (Option Piece)) → Stops (None ∷ later)

pub stops : (i : ℕ) (xs : List (Option Piece)) → piece_at i xs ≡ None → Stops (drop i xs)
stops zero [] e = NoMore
stops zero (None ∷ xs) e = Missing xs
stops zero (Some p ∷ xs) e = absurd (cc)
stops (suc i) [] e = NoMore
stops (suc i) (x ∷ xs) e = stops i xs e

order_stops : (xs : List (Option Piece)) → Stops xs → in_order xs ≡ 0
order_stops _ NoMore = refl
order_stops _ (Missing later) = refl

told_stops : (message : List ℕ) (xs : List (Option Piece)) → Stops xs → delivered_pieces message xs ≡ None
told_stops message _ NoMore = refl
told_stops message _ (Missing later) = refl

whole_stops : (xs : List (Option Piece)) → Stops xs → in_whole_messages xs ≡ 0
whole_stops _ NoMore = refl
whole_stops _ (Missing later) = refl

pub in_order_step : (i : ℕ) (xs : List (Option Piece)) (p : Piece) → piece_at i xs ≡ Some p → in_order (drop i xs) ≡ 1 + in_order (drop (i + 1) xs)
in_order_step i xs p e = ap in_order (step i xs p e)

pub in_order_stop : (i : ℕ) (xs : List (Option Piece)) → piece_at i xs ≡ None → in_order (drop i xs) ≡ 0
in_order_stop i xs e = order_stops (drop i xs) (stops i xs e)

module _ (from run i : ℕ) (xs : List (Option Piece)) (count : in_order (drop from xs) ≡ run + in_order (drop i xs)) where
  pub run_on : (p : Piece) → piece_at i xs ≡ Some p → in_order (drop from xs) ≡ run + 1 + in_order (drop (i + 1) xs)
  run_on p there = let one = in_order_step i xs p there in omega arith

  pub run_ends : piece_at i xs ≡ None → in_order (drop from xs) ≡ run
  run_ends none = let stop = in_order_stop i xs none in omega arith

-- ---- whole messages

abbrev pub kept_or : ℕ → ℕ → ℕ → ℕ
kept_or kept place zero = kept
kept_or kept place (suc more) = place + suc more

more_le : (n m : ℕ) → n ≤ m → one_more n ≤ 1 + m
more_le zero m h = omega arith
more_le (suc n) m h = omega arith

ends_le : (b : Bool) (n m : ℕ) → n ≤ m → cond b (n + 1) (one_more n) ≤ 1 + m
ends_le true n m h = omega arith
ends_le false n m h = more_le n m h

pub in_whole-le : (xs : List (Option Piece)) → in_whole_messages xs ≤ in_order xs
in_whole-le [] = omega arith
in_whole-le (None ∷ xs) = omega arith
in_whole-le (Some p ∷ xs) = ends_le p.ends (in_whole_messages xs) (in_order xs) (in_whole-le xs)

pub in_order_whole : (xs : List (Option Piece)) → in_order (take (in_whole_messages xs) xs) ≡ in_whole_messages xs
in_order_whole xs = in_order-take (in_whole_messages xs) xs (in_whole-le xs)

kept_end : (kept i more : ℕ) → kept_or kept i (more + 1) ≡ kept_or (i + 1) (i + 1) more
kept_end kept i zero = refl
kept_end kept i (suc more) = ap (λ (n : ℕ). kept_or kept i n) (add-one (suc more)) ∙ (omega arith)

kept_on : (kept i more : ℕ) → kept_or kept i (one_more more) ≡ kept_or kept (i + 1) more
kept_on kept i zero = refl
kept_on kept i (suc more) = ap (λ (n : ℕ). kept_or kept i n) (two more) ∙ (omega arith) where
  two : (n : ℕ) → n + 2 ≡ suc (suc n)
  two n = omega arith

pub whole_end : (kept i : ℕ) (xs : List (Option Piece)) (p : Piece) → piece_at i xs ≡ Some p → p.ends ≡ true →
    kept_or kept i (in_whole_messages (drop i xs)) ≡ kept_or (i + 1) (i + 1) (in_whole_messages (drop (i + 1) xs))
whole_end kept i xs p there e =
    ap (λ (ys : List (Option Piece)). kept_or kept i (in_whole_messages ys)) (step i xs p there)
    ∙ ap (λ (b : Bool). kept_or kept i (cond b (in_whole_messages (drop (i + 1) xs) + 1) (one_more (in_whole_messages (drop (i + 1) xs))))) e
    ∙ kept_end kept i (in_whole_messages (drop (i + 1) xs))

pub whole_on : (kept i : ℕ) (xs : List (Option Piece)) (p : Piece) → piece_at i xs ≡ Some p → p.ends ≡ false →
    kept_or kept i (in_whole_messages (drop i xs)) ≡ kept_or kept (i + 1) (in_whole_messages (drop (i + 1) xs))
whole_on kept i xs p there e =
    ap (λ (ys : List (Option Piece)). kept_or kept i (in_whole_messages ys)) (step i xs p there)
    ∙ ap (λ (b : Bool). kept_or kept i (cond b (in_whole_messages (drop (i + 1) xs) + 1) (one_more (in_whole_messages (drop (i + 1) xs))))) e
    ∙ kept_on kept i (in_whole_messages (drop (i + 1) xs))

pub whole_none : (kept i : ℕ) (xs : List (Option Piece)) → piece_at i xs ≡ None → kept_or kept i (in_whole_messages (drop i xs)) ≡ kept
whole_none kept i xs e = ap (λ (n : ℕ). kept_or kept i n) (whole_stops (drop i xs) (stops i xs e))

pub whole_all : (kept whole : ℕ) (xs : List (Option Piece)) → whole ≡ in_order xs → kept_or kept whole (in_whole_messages (drop whole xs)) ≡ kept
whole_all kept whole xs e =
    ap (λ (n : ℕ). kept_or kept whole n)
    (none_left (in_whole_messages (drop whole xs)) (in_whole-le (drop whole xs)) (in_order-drop whole xs (omega arith))) where
      none_left : (n : ℕ) → n ≤ in_order (drop whole xs) → in_order (drop whole xs) + whole ≡ in_order xs → n ≡ 0
      none_left n h left = omega arith

-- ---- how many pieces the next message came in

more_more : (i : ℕ) (o : Option ℕ) → more_pieces i (more_pieces 1 o) ≡ more_pieces (i + 1) o
more_more i None = refl
more_more i (Some n) = ap Some (omega arith)

counted_stops : (xs : List (Option Piece)) → Stops xs → next_count xs ≡ None
counted_stops _ NoMore = refl
counted_stops _ (Missing later) = refl

count_behind : (p : Piece) (o : Option Whole) → count_of (with_piece p o) ≡ more_pieces 1 (count_of o)
count_behind p None = refl
count_behind p (Some w) = ap Some (omega arith)

all_there : (xs : List (Option Piece)) → in_order xs ≡ 0 → next_count xs ≡ None
all_there [] e = refl
all_there (None ∷ xs) e = refl
all_there (Some p ∷ xs) e = absurd (omega (arith, e))

module _ (i : ℕ) (xs : List (Option Piece)) where
  pub counted_none : piece_at i xs ≡ None → more_pieces i (next_count (drop i xs)) ≡ None
  counted_none e = ap (more_pieces i) (counted_stops (drop i xs) (stops i xs e))

  pub counted_past : in_order xs ≡ i → more_pieces i (next_count (drop i xs)) ≡ None
  counted_past e = ap (more_pieces i) (all_there (drop i xs) (left (in_order-drop i xs (omega (arith, e))))) where
    left : in_order (drop i xs) + i ≡ in_order xs → in_order (drop i xs) ≡ 0
    left h = omega (arith, h, e)

  module _ (p : Piece) (there : piece_at i xs ≡ Some p) where
    counted_at : next_count (drop i xs) ≡ next_count (Some p ∷ drop (i + 1) xs)
    counted_at = ap next_count (step i xs p there)

    pub counted_end : p.ends ≡ true → more_pieces i (next_count (drop i xs)) ≡ Some (i + 1)
    counted_end e =
        ap (more_pieces i) counted_at
        ∙ ap (λ (b : Bool). more_pieces i
        (count_of (cond b (Some (record { pieces = 1; message = p.body })) (with_piece p (next_message (drop (i + 1) xs)))))) e

    pub counted_on : p.ends ≡ false → more_pieces i (next_count (drop i xs)) ≡ more_pieces (i + 1) (next_count (drop (i + 1) xs))
    counted_on e =
        ap (more_pieces i) counted_at
        ∙ ap (λ (b : Bool). more_pieces i
        (count_of (cond b (Some (record { pieces = 1; message = p.body })) (with_piece p (next_message (drop (i + 1) xs)))))) e
        ∙ ap (more_pieces i) (count_behind p (next_message (drop (i + 1) xs)))
        ∙ more_more i (next_count (drop (i + 1) xs))

-- ---- a message against the pieces

same_behind : (b m w : List ℕ) → b ≡ take (length b) m → bytes_eq m (b ++ w) ≡ bytes_eq (drop (length b) m) w
same_behind b m w front = one_answer (bytes_eq m (b ++ w)) (bytes_eq (drop (length b) m) w) (bytes_eq-Decides m (b ++ w))
    ((λ e. joined ((bytes_eq-Decides (drop (length b) m) w).0 e)), (λ e. (bytes_eq-Decides (drop (length b) m) w).1 (behind e))) where
      joined : drop (length b) m ≡ w → m ≡ b ++ w
      joined e = sym (take-append-drop (length b) m) ∙ ap (λ (x : List ℕ). x ++ drop (length b) m) (sym front) ∙ ap (λ (x : List ℕ). b ++ x) e

      behind : m ≡ b ++ w → drop (length b) m ≡ w
      behind e = ap (λ (x : List ℕ). drop (length b) x) e ∙ drop-append_seam b w

differs : (b m w : List ℕ) → bytes_eq b (take (length b) m) ≡ false → bytes_eq m (b ++ w) ≡ false
differs b m w e = by_answer (bytes_eq m (b ++ w)) refl where
  front : m ≡ b ++ w → b ≡ take (length b) m
  front same = sym (ap (λ (x : List ℕ). take (length b) x) same ∙ take-append_seam b w)

  by_answer : (r : Bool) → bytes_eq m (b ++ w) ≡ r → bytes_eq m (b ++ w) ≡ false
  by_answer false is = is
  by_answer true is =
      let yes : bytes_eq b (take (length b) m) ≡ true = (bytes_eq-Decides b (take (length b) m)).1 (front ((bytes_eq-Decides m (b ++ w)).0 is)) in
      absurd (cc)

abbrev pub told_behind : Option (List ℕ) → List (Option Piece) → Option ℕ
told_behind None later = None
told_behind (Some rest) later = more_pieces 1 (delivered_pieces rest later)

told_more : (m : List ℕ) (p : Piece) (later : List (Option Piece)) (b : Bool) (whole : Option Whole) → next_message later ≡ whole →
    bytes_eq p.body (take (length p.body) m) ≡ b → pieces_of m (with_piece p whole) ≡ told_behind (cond b (Some (drop (length p.body) m)) None) later
told_more m p later false None next e = refl
told_more m p later false (Some w) next e = ap (λ (r : Bool). pieces_if r (w.pieces + 1)) (differs p.body m w.message e)
told_more m p later true None next e = ap (λ (o : Option Whole). more_pieces 1 (pieces_of (drop (length p.body) m) o)) (sym next)
told_more m p later true (Some w) next e =
    ap (λ (r : Bool). pieces_if r (w.pieces + 1)) (same_behind p.body m w.message ((bytes_eq-Decides p.body (take (length p.body) m)).0 e))
    ∙ one_behind (bytes_eq (drop (length p.body) m) w.message) w.pieces
    ∙ ap (λ (o : Option Whole). more_pieces 1 (pieces_of (drop (length p.body) m) o)) (sym next) where
      one_behind : (r : Bool) (n : ℕ) → pieces_if r (n + 1) ≡ more_pieces 1 (pieces_if r n)
      one_behind true n = ap Some (omega arith)
      one_behind false n = refl

module _ (i : ℕ) (xs : List (Option Piece)) (m : List ℕ) where
  pub told_none : piece_at i xs ≡ None → more_pieces i (delivered_pieces m (drop i xs)) ≡ None
  told_none e = ap (more_pieces i) (told_stops m (drop i xs) (stops i xs e))

  pub told_past : length xs ≤ i → more_pieces i (delivered_pieces m (drop i xs)) ≡ None
  told_past h = ap (λ (ys : List (Option Piece)). more_pieces i (delivered_pieces m ys)) (drop_of_length-le xs h)

  module _ (p : Piece) (there : piece_at i xs ≡ Some p) where
    told_at : delivered_pieces m (drop i xs) ≡ delivered_pieces m (Some p ∷ drop (i + 1) xs)
    told_at = ap (delivered_pieces m) (step i xs p there)

    told_end : (same : Bool) → p.ends ≡ true → bytes_eq m p.body ≡ same → more_pieces i (delivered_pieces m (drop i xs)) ≡ more_pieces i
        (pieces_if same 1)
    told_end same e is =
        ap (more_pieces i) told_at
        ∙ ap (λ (b : Bool). more_pieces i
        (pieces_of m (cond b (Some (record { pieces = 1; message = p.body })) (with_piece p (next_message (drop (i + 1) xs)))))) e
        ∙ ap (λ (r : Bool). more_pieces i (pieces_if r 1)) is

    pub told_same : p.ends ≡ true → bytes_eq m p.body ≡ true → more_pieces i (delivered_pieces m (drop i xs)) ≡ Some (i + 1)
    told_same e is = told_end true e is

    pub told_other : p.ends ≡ true → bytes_eq m p.body ≡ false → more_pieces i (delivered_pieces m (drop i xs)) ≡ None
    told_other e is = told_end false e is

    told_goes : p.ends ≡ false → delivered_pieces m (drop i xs) ≡ told_behind (without_front p.body m) (drop (i + 1) xs)
    told_goes e =
        told_at
        ∙ ap (λ (b : Bool). pieces_of m (cond b (Some (record { pieces = 1; message = p.body })) (with_piece p (next_message (drop (i + 1) xs))))) e
        ∙ told_more m p (drop (i + 1) xs) (bytes_eq p.body (take (length p.body) m)) (next_message (drop (i + 1) xs)) refl refl

    pub told_differs : p.ends ≡ false → without_front p.body m ≡ None → more_pieces i (delivered_pieces m (drop i xs)) ≡ None
    told_differs e none = ap (more_pieces i) (told_goes e ∙ ap (λ (o : Option (List ℕ)). told_behind o (drop (i + 1) xs)) none)

    pub told_on : (rest : List ℕ) → p.ends ≡ false → without_front p.body m ≡ Some rest → more_pieces i (delivered_pieces m (drop i xs)) ≡ more_pieces
        (i + 1) (delivered_pieces rest (drop (i + 1) xs))
    told_on rest e is = ap (more_pieces i) (told_goes e ∙ ap (λ (o : Option (List ℕ)). told_behind o (drop (i + 1) xs)) is) ∙
        more_more i (delivered_pieces rest (drop (i + 1) xs))

-- ---- a piece is held

hold_none : (place : ℕ) (p : Piece) → hold place p [] ≡ replicate place None ++ Some p ∷ []
hold_none zero p = refl
hold_none (suc place) p = ap (λ (ys : List (Option Piece)). None ∷ ys) (hold_none place p)

hold_past : (more : ℕ) (p : Piece) (xs : List (Option Piece)) → hold (length xs + more) p xs ≡ xs ++ (replicate more None ++ Some p ∷ [])
hold_past more p [] = ap (λ (n : ℕ). hold n p []) (zero-add more) ∙ hold_none more p
hold_past more p (x ∷ xs) = ap (λ (n : ℕ). hold n p (x ∷ xs)) (one_in (length xs)) ∙ ap (λ (ys : List (Option Piece)). x ∷ ys) (hold_past more p xs)
  where
    one_in : (n : ℕ) → suc n + more ≡ suc (n + more)
    one_in n = omega arith

pub hold_append : (above room : ℕ) (p : Piece) (xs : List (Option Piece)) → room ≡ length xs - in_order xs → room < above →
    hold (in_order xs + above - 1) p xs ≡ xs ++ (replicate (above - room - 1) None ++ Some p ∷ [])
hold_append above room p xs is far = let le = in_order-le xs in ap (λ (n : ℕ). hold n p xs) (place le) ∙ hold_past (above - room - 1) p xs where
  place : in_order xs ≤ length xs → in_order xs + above - 1 ≡ length xs + (above - room - 1)
  place le = omega arith

pub hold_set : (place : ℕ) (p : Piece) (xs : List (Option Piece)) → place < length xs → is_missing_at place xs ≡ true →
    hold place p xs ≡ set xs place (Some p)
hold_set place p [] h e = absurd (omega arith)
hold_set zero p (None ∷ xs) h e = refl
hold_set zero p (Some q ∷ xs) h e = absurd (cc)
hold_set (suc place) p (x ∷ xs) h e = ap (λ (ys : List (Option Piece)). x ∷ ys) (hold_set place p xs (omega arith) e)

pub hold_there : (place : ℕ) (p : Piece) (xs : List (Option Piece)) → is_missing_at place xs ≡ false → hold place p xs ≡ xs
hold_there place p [] e = absurd (cc)
hold_there zero p (None ∷ xs) e = absurd (cc)
hold_there zero p (Some q ∷ xs) e = refl
hold_there (suc place) p (x ∷ xs) e = ap (λ (ys : List (Option Piece)). x ∷ ys) (hold_there place p xs e)

pub hold_order : (place : ℕ) (p : Piece) (xs : List (Option Piece)) → in_order xs ≤ in_order (hold place p xs)
hold_order place p [] = omega arith
hold_order zero p (None ∷ xs) = omega arith
hold_order zero p (Some q ∷ xs) = omega arith
hold_order (suc place) p (None ∷ xs) = omega arith
hold_order (suc place) p (Some q ∷ xs) = let h = hold_order place p xs in omega arith

-- the first missing one moves up by the run of pieces from where it stood
pub hold_more : (place : ℕ) (p : Piece) (xs : List (Option Piece)) → in_order (drop (in_order xs) (hold place p xs)) + in_order xs ≡ in_order
    (hold place p xs)
hold_more place p xs = in_order-drop (in_order xs) (hold place p xs) (hold_order place p xs)

pub ruleset arrived = (in_order-le, in_order-drop, in_order_step, in_order_stop)

pub ruleset wholes = (in_whole-le, in_order_whole, whole_end, whole_on, whole_none, whole_all)

pub ruleset told = (told_none, told_past, told_same, told_other, told_differs, told_on)

pub ruleset counted = (in_order-le, counted_none, counted_past, counted_end, counted_on)

pub ruleset held = (in_order-le, hold_append, hold_set)

pub ruleset ordered = (in_order-le, hold_order, hold_more)

pub ruleset runs = (run_on, run_ends)
