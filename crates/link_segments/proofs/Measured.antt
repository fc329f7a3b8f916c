-- How long the next message is, by the pieces that it came in.
use Rattle.std.proofs.Common.{◌≡◌, ℕ, ◌+◌, ◌-◌, ◌^◌, ◌≤◌, Bool, true, false, cond, Option, Some, None, List, [], ◌∷◌, ◌++◌, length, drop}
use Rattle.std.proofs.Common.{refl, sym, ap, ◌∙◌, arith, length-append, zero-add}
use Rattle.std.specs.Prelude.{min}
use Rattle.dna_links.specs.Segmentation.{Piece, Whole, in_order, next_message, with_piece}
use Rattle.link_segments.specs.Received.{piece_at, length_of, next_length, more_bytes}
use Rattle.link_segments.proofs.Arrived.{in_order-drop, step, Stops, NoMore, Missing, stops}

capped : (m a b c : ℕ) → min (a + min (b + c) m) m ≡ min (min (a + b) m + c) m
capped m a b c = omega arith

capped_once : (m a b : ℕ) → min (a + min b m) m ≡ min (a + b) m
capped_once m a b = omega arith

more_more : (a b : ℕ) (o : Option ℕ) → more_bytes a (more_bytes b o) ≡ more_bytes (min (a + b) (2 ^ 64 - 1)) o
more_more a b None = refl
more_more a b (Some c) = ap Some (capped (2 ^ 64 - 1) a b c)

length_behind : (p : Piece) (o : Option Whole) → length_of (with_piece p o) ≡ more_bytes (length p.body) (length_of o)
length_behind p None = refl
length_behind p (Some w) =
    ap Some (ap (λ (n : ℕ). min n (2 ^ 64 - 1)) (length-append p.body w.message)
    ∙ sym (capped_once (2 ^ 64 - 1) (length p.body) (length w.message)))

measured_stops : (xs : List (Option Piece)) → Stops xs → next_length xs ≡ None
measured_stops _ NoMore = refl
measured_stops _ (Missing later) = refl

all_there : (xs : List (Option Piece)) → in_order xs ≡ 0 → next_length xs ≡ None
all_there [] e = refl
all_there (None ∷ xs) e = refl
all_there (Some p ∷ xs) e = absurd (omega (arith, e))

from_none : (o : Option Whole) → length_of o ≡ more_bytes 0 (length_of o)
from_none None = refl
from_none (Some w) = ap Some (sym (capped_once (2 ^ 64 - 1) 0 (length w.message) ∙ ap (λ (n : ℕ). min n (2 ^ 64 - 1)) (zero-add (length w.message))))

pub measured_first : (xs : List (Option Piece)) → next_length xs ≡ more_bytes 0 (next_length (drop 0 xs))
measured_first xs = from_none (next_message xs)

module _ (bytes i : ℕ) (xs : List (Option Piece)) where
  pub measured_none : piece_at i xs ≡ None → more_bytes bytes (next_length (drop i xs)) ≡ None
  measured_none e = ap (more_bytes bytes) (measured_stops (drop i xs) (stops i xs e))

  pub measured_past : in_order xs ≡ i → more_bytes bytes (next_length (drop i xs)) ≡ None
  measured_past e = ap (more_bytes bytes) (all_there (drop i xs) (left (in_order-drop i xs (omega (arith, e))))) where
    left : in_order (drop i xs) + i ≡ in_order xs → in_order (drop i xs) ≡ 0
    left h = omega (arith, h, e)

  module _ (p : Piece) (there : piece_at i xs ≡ Some p) where
    measured_at : next_length (drop i xs) ≡ next_length (Some p ∷ drop (i + 1) xs)
    measured_at = ap next_length (step i xs p there)

    pub measured_end : p.ends ≡ true → more_bytes bytes (next_length (drop i xs)) ≡ Some (min (bytes + length p.body) (2 ^ 64 - 1))
    measured_end e =
        ap (more_bytes bytes) measured_at
        ∙ ap (λ (b : Bool). more_bytes bytes
        (length_of (cond b (Some (record { pieces = 1; message = p.body })) (with_piece p (next_message (drop (i + 1) xs)))))) e
        ∙ ap Some (capped_once (2 ^ 64 - 1) bytes (length p.body))

    pub measured_on : p.ends ≡ false → more_bytes bytes (next_length (drop i xs)) ≡
        more_bytes (min (bytes + length p.body) (2 ^ 64 - 1)) (next_length (drop (i + 1) xs))
    measured_on e =
        ap (more_bytes bytes) measured_at
        ∙ ap (λ (b : Bool). more_bytes bytes
        (length_of (cond b (Some (record { pieces = 1; message = p.body })) (with_piece p (next_message (drop (i + 1) xs)))))) e
        ∙ ap (more_bytes bytes) (length_behind p (next_message (drop (i + 1) xs)))
        ∙ more_more bytes (length p.body) (next_length (drop (i + 1) xs))

pub ruleset measured = (measured_first, measured_none, measured_past, measured_end, measured_on)
