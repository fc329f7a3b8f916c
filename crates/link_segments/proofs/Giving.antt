-- The next piece of what was handed in, and what it leaves.
use Rattle.std.proofs.Common.{◌≡◌, ℕ, ◌+◌, ◌-◌, ◌≤◌, ◌<◌, Bool, true, false, cond, List, [], ◌∷◌, length, take, drop, get_or, ap, ap₂, sym, ◌∙◌}
use Rattle.std.proofs.Common.{arith, length-take, length-drop, le-leb}
use Rattle.std.specs.Prelude.{nat_le, not}
use Rattle.std.proofs.lemmas.Bool.{lt-leb}
use Rattle.std.proofs.lemmas.List.{drop-drop, take_all}
use Rattle.dna_links.specs.Segmentation.{Piece, Unsent, left_of, without_piece}
use Rattle.dna_links.specs.Segmentation.{next_piece, piece_with}
use Rattle.link_segments.specs.inner.Unsent.{without_given}

-- ---- the piece

abbrev piece_as : Bool → Bool → List ℕ → Piece
piece_as begun ends body = record { begins = not begun; ends = ends; body = body }

pub last_piece : (begun : Bool) (rest : List ℕ) → length rest ≤ 512 → piece_as begun true rest ≡ piece_with begun rest
last_piece begun rest h = ap₂ (piece_as begun) (sym (le-leb (length rest) 512 h)) (sym (take_all 512 rest h))

pub full_piece : (begun : Bool) (rest : List ℕ) → 512 < length rest → piece_as begun false (take 512 rest) ≡ piece_with begun rest
full_piece begun rest h = ap (λ (ends : Bool). piece_as begun ends (take 512 rest)) (sym (lt-leb (length rest) 512 h))

-- ---- what it leaves

abbrev pub unsent_with : Bool → List (List ℕ) → Unsent
unsent_with begun messages = record { begun = begun; messages = messages }

abbrev left_as : Bool → List ℕ → List (List ℕ) → Unsent
left_as ends rest later = cond ends (unsent_with false later) (unsent_with true (drop (length (take 512 rest)) rest ∷ later))

left_by : (begun : Bool) (rest : List ℕ) (later : List (List ℕ)) (ends : Bool) → nat_le (length rest) 512 ≡ ends →
    left_of (piece_with begun rest) (rest ∷ later) ≡ left_as ends rest later
left_by begun rest later ends e = ap (λ (b : Bool). left_as b rest later) e

dropped_on : (given : ℕ) (first : List ℕ) → 512 < length (drop given first) →
    drop (length (take 512 (drop given first))) (drop given first) ≡ drop (given + 512) first
dropped_on given first h =
    let whole : length (take 512 (drop given first)) ≡ 512 = omega (arith, h, length-take 512 (drop given first)) in
    ap (λ (n : ℕ). drop n (drop given first)) whole ∙ drop-drop 512 given first ∙ ap (λ (n : ℕ). drop n first) (omega arith)

abbrev pub unsent_as : Bool → ℕ → List (List ℕ) → Unsent
unsent_as begun given messages = unsent_with begun (without_given given messages)

abbrev pub after_next : Unsent → Unsent
after_next u = without_piece (next_piece u) u

-- a piece that is not the last of its message
module _ (begun : Bool) (given : ℕ) where
  pub rest_left : (messages : List (List ℕ)) (message : List ℕ) → 0 < length messages → message ≡ get_or messages 0 message →
      512 < length message - given →
      unsent_as true (given + 512) messages ≡ after_next (unsent_as begun given messages)
  rest_left [] message h is many = absurd (omega (arith, h))
  rest_left (first ∷ later) message h is many =
      let long : 512 < length (drop given first) = omega (arith, many, ap length is, length-drop given first) in
      ap (λ (rest : List ℕ). unsent_with true (rest ∷ later)) (sym (dropped_on given first long))
      ∙ sym (left_by begun (drop given first) later false (lt-leb (length (drop given first)) 512 long))
