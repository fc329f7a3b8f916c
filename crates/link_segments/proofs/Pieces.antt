-- What is known of a piece that is the next one of the messages handed in.
use Rattle.std.proofs.Common.{◌≡◌, ℕ, ◌-◌, ◌≤◌, Bool, true, false, ◌&&◌, List, [], ◌∷◌, length, take, drop, get_or, refl, ap, arith, length-take}
use Rattle.std.proofs.Common.{length-drop}
use Rattle.std.specs.Str.{bytes_eq}
use Rattle.std.proofs.lemmas.Slice.Eq.{bytes_eq-Decides}
use Rattle.dna_links.specs.Segmentation.{Piece, is_piece_of, is_next_piece}
use Rattle.link_segments.specs.inner.Unsent.{without_given}

-- a test that passes with another one passes
first_of : (a b : Bool) → (a && b) ≡ true → a ≡ true
first_of true b e = refl
first_of false b e = e

piece_fits : (p : Piece) (begun : Bool) (rest : List ℕ) → is_piece_of p begun rest ≡ true → length p.body ≤ length rest
piece_fits p begun rest e =
    let same : p.body ≡ take (length p.body) rest =
    (bytes_eq-Decides p.body (take (length p.body) rest)).0 (first_of (bytes_eq p.body (take (length p.body) rest)) _ e) in
    let long : length p.body ≡ length (take (length p.body) rest) = ap length same in
    omega (arith, long, length-take (length p.body) rest)

pub next_fits : (begun : Bool) (given : ℕ) (items : List (List ℕ)) (p : Piece) (d : List ℕ) →
    is_next_piece p (record { begun = begun; messages = without_given given items }) ≡ true → length p.body ≤ length (get_or items 0 d) - given
next_fits begun given [] p d e = absurd (cc)
next_fits begun given (first ∷ later) p d e = let fits = piece_fits p begun (drop given first) e in omega (arith, fits, length-drop given first)

pub ruleset next_pieces = (next_fits)
