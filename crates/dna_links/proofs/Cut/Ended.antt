-- What is left of a link's segments when it ends delivers the same messages.
use Rattle.std.proofs.Common.{◌≡◌, ℕ, zero, suc, ◌+◌, ◌≤◌, Bool, true, false, cond, Option, Some, None, List, [], ◌∷◌, take, drop, refl, sym, ap, ◌∙◌}
use Rattle.std.proofs.Common.{arith, option_map, drop-drop}
use Rattle.std.specs.Str.{bytes_eq}
use Rattle.std.proofs.lemmas.List.{drop-take}
use Rattle.dna_links.specs.Segmentation.{Piece, Whole, with_piece, next_message, one_more, in_whole_messages}
use Rattle.dna_links.specs.TrueSegments.{TrueSegments, delivered_as, delivers_whole, delivers}
use Rattle.dna_links.specs.WireSegments.{WireSegments, with_pieces_alone, ends}
use Rattle.dna_links.specs.WireSegments as wire
use Rattle.dna_links.specs.CutSegments.{cut}

-- the pieces in whole messages are those of the next message, and those in whole messages behind it
abbrev pub Splits : List (Option Piece) → Option Whole → Type 0
Splits ps None = in_whole_messages ps ≡ 0
Splits ps (Some w) = (1 ≤ w.pieces) × (in_whole_messages ps ≡ w.pieces + in_whole_messages (drop w.pieces ps))

one_more_of : (n : ℕ) → 1 ≤ n → one_more n ≡ n + 1
one_more_of zero l = absurd (omega (arith, l))
one_more_of (suc n) l = omega arith

-- behind a piece that ends no message
abbrev SplitsBehind : List (Option Piece) → Piece → Option Whole → Type 0
SplitsBehind xs p None = one_more (in_whole_messages xs) ≡ 0
SplitsBehind xs p (Some w) = (1 ≤ w.pieces) × (one_more (in_whole_messages xs) ≡ w.pieces + in_whole_messages (drop w.pieces (Some p ∷ xs)))

splits_behind : (p : Piece) (xs : List (Option Piece)) (o : Option Whole) → Splits xs o → SplitsBehind xs p (with_piece p o)
splits_behind p xs None none = ap one_more none
splits_behind p xs (Some w) split =
    let some = split.0 in let whole = split.1 in
    let next : suc w.pieces ≡ w.pieces + 1 = omega arith in
    let more = one_more_of (in_whole_messages xs) (omega arith) in
    let same = ap (λ k. in_whole_messages (drop k (Some p ∷ xs))) next in
    (omega arith, omega (arith, more, whole, same))

-- the same of both kinds of a first piece
abbrev SplitsAs : Bool → List (Option Piece) → Piece → Option Whole → Type 0
SplitsAs ends xs p None = cond ends (in_whole_messages xs + 1) (one_more (in_whole_messages xs)) ≡ 0
SplitsAs ends xs p (Some w) =
    (1 ≤ w.pieces) × (cond ends (in_whole_messages xs + 1) (one_more (in_whole_messages xs)) ≡ w.pieces + in_whole_messages
    (drop w.pieces (Some p ∷ xs)))

as_behind : (xs : List (Option Piece)) (p : Piece) (o : Option Whole) → SplitsBehind xs p o → SplitsAs false xs p o
as_behind xs p None split = split
as_behind xs p (Some w) split = split

splits_first : (ends : Bool) (p : Piece) (xs : List (Option Piece)) → Splits xs (next_message xs)
    → SplitsAs ends xs p (cond ends (Some (record { pieces = 1; message = p.body })) (with_piece p (next_message xs)))
splits_first true p xs split = (omega arith, omega arith)
splits_first false p xs split = as_behind xs p (with_piece p (next_message xs)) (splits_behind p xs (next_message xs) split)

as_split : (p : Piece) (xs : List (Option Piece)) (o : Option Whole) → SplitsAs p.ends xs p o → Splits (Some p ∷ xs) o
as_split p xs None split = split
as_split p xs (Some w) split = split

pub splits : (xs : List (Option Piece)) → Splits xs (next_message xs)
splits [] = refl
splits (None ∷ xs) = refl
splits (Some p ∷ xs) = as_split p xs (next_message (Some p ∷ xs)) (splits_first p.ends p xs (splits xs))

-- the next message is found in its own pieces
abbrev StillThere : ℕ → List (Option Piece) → Option Whole → Type 0
StillThere n xs None = Unit {0}
StillThere n xs (Some w) = w.pieces ≤ n → next_message (take n xs) ≡ Some w

abbrev StillThereBehind : ℕ → Piece → List (Option Piece) → Option Whole → Type 0
StillThereBehind n p xs None = Unit {0}
StillThereBehind n p xs (Some w) = w.pieces ≤ suc n → with_piece p (next_message (take n xs)) ≡ Some w

abbrev StillThereAs : Bool → ℕ → Piece → List (Option Piece) → Option Whole → Type 0
StillThereAs ends n p xs None = Unit {0}
StillThereAs ends n p xs (Some w) =
    w.pieces ≤ suc n → cond ends (Some (record { pieces = 1; message = p.body })) (with_piece p (next_message (take n xs))) ≡ Some w

as_there_behind : (n : ℕ) (p : Piece) (xs : List (Option Piece)) (o : Option Whole) → StillThereBehind n p xs o → StillThereAs false n p xs o
as_there_behind n p xs None there = tt
as_there_behind n p xs (Some w) there = there

as_there : (n : ℕ) (p : Piece) (xs : List (Option Piece)) (o : Option Whole) → StillThereAs p.ends n p xs o → StillThere (suc n) (Some p ∷ xs) o
as_there n p xs None there = tt
as_there n p xs (Some w) there = there

there_behind : (n : ℕ) (p : Piece) (xs : List (Option Piece)) (o : Option Whole) → StillThere n xs o → StillThereBehind n p xs (with_piece p o)
there_behind n p xs None there = tt
there_behind n p xs (Some w) there = λ l. ap (with_piece p) (there (omega (arith, l)))

there_first : (ends : Bool) (n : ℕ) (p : Piece) (xs : List (Option Piece)) → StillThere n xs (next_message xs)
    → StillThereAs ends n p xs (cond ends (Some (record { pieces = 1; message = p.body })) (with_piece p (next_message xs)))
there_first true n p xs there = λ l. refl
there_first false n p xs there = as_there_behind n p xs (with_piece p (next_message xs)) (there_behind n p xs (next_message xs) there)

-- nothing is found in no pieces
none_there : (p : Piece) (xs : List (Option Piece)) (o : Option Whole) → Splits (Some p ∷ xs) o → StillThere zero (Some p ∷ xs) o
none_there p xs None split = tt
none_there p xs (Some w) split = λ l. absurd (omega (arith, l, split.0))

still_there : (n : ℕ) (xs : List (Option Piece)) → StillThere n xs (next_message xs)
still_there n [] = tt
still_there n (None ∷ xs) = tt
still_there zero (Some p ∷ xs) = none_there p xs (next_message (Some p ∷ xs)) (splits (Some p ∷ xs))
still_there (suc n) (Some p ∷ xs) = as_there n p xs (next_message (Some p ∷ xs)) (there_first p.ends n p xs (still_there n xs))

-- ---- what is left delivers the same

module _ (f : TrueSegments) where
  abbrev pieces : List (Option Piece)
  pieces = drop f.passed f.received

  abbrev left : List (Option Piece)
  left = take (in_whole_messages pieces) pieces

  found_in : (o : Option Whole) → Splits pieces o → StillThere (in_whole_messages pieces) pieces o → next_message left ≡ o
  found_in None split there = ap (λ n. next_message (take n pieces)) split
  found_in (Some w) split there = let whole = split.1 in there (omega arith)

  delivered_from : (b : Bool) (w : Whole) → in_whole_messages pieces ≡ w.pieces + in_whole_messages (drop w.pieces pieces)
      → option_map (λ (g : TrueSegments). ends (cut g)) (delivered_as b w f) ≡ wire.delivered_as b w (ends (cut f))
  delivered_from true w whole =
      ap (λ (ps : List (Option Piece)). Some (with_pieces_alone (take (in_whole_messages ps) ps))) (sym (drop-drop w.pieces f.passed f.received))
      ∙ ap (λ (ps : List (Option Piece)). Some (with_pieces_alone ps))
      (sym (ap (λ n. drop w.pieces (take n pieces)) whole ∙ drop-take w.pieces (in_whole_messages (drop w.pieces pieces)) pieces))
  delivered_from false w whole = refl

  whole_from : (o : Option Whole) (message : List ℕ) → Splits pieces o →
      option_map (λ (g : TrueSegments). ends (cut g)) (delivers_whole o message f) ≡ wire.delivers_whole o message (ends (cut f))
  whole_from None message split = refl
  whole_from (Some w) message split = delivered_from (bytes_eq message w.message) w split.1

  pub ended_delivers : (message : List ℕ) →
      option_map (λ (g : TrueSegments). ends (cut g)) (delivers message f) ≡ wire.delivers message (ends (cut f))
  ended_delivers message =
      whole_from (next_message pieces) message (splits pieces)
      ∙ ap (λ (o : Option Whole). wire.delivers_whole o message (ends (cut f)))
      (sym (found_in (next_message pieces) (splits pieces) (still_there (in_whole_messages pieces) pieces)))
