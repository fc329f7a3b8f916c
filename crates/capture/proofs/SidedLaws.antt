-- The letter of a side: what is read is its one spelling, and its spelling is read.
use Rattle.std.proofs.Common.{◌≡◌, ℕ, ◌≤◌, List, ◌++◌, length, Option, Some, None, refl, subst, arith}
use Rattle.std.specs.Prelude.{codes, IfSome}
use Rattle.wire_base.specs.declared.side.Side.{Side}
use Rattle.wire_base.specs.declared.side.Side.TheVariants.{A, B}
use Rattle.wire_base.specs.Side.{side_letter}
use Rattle.capture.specs.Text.{spaced}
use Rattle.capture.specs.Reading.{after, or_else}
use Rattle.capture.specs.Sided.{side_at}
use Rattle.capture.proofs.PartLaws.{HasNo, after_takes}
use Rattle.capture.proofs.LackLaws.{lacks}

-- what was read is behind the letter of its side
abbrev IsSided : List ℕ → Option (Side × List ℕ) → Type 0
IsSided text o = IfSome o (λ parts. text ≡ spaced (side_letter parts.0) parts.1)

b_shows : (text : List ℕ) (o : Option (List ℕ)) → ((rest : List ℕ) → o ≡ Some rest → text ≡ codes "b " ++ rest)
    → IsSided text (or_else o (λ rest. Some (B, rest)) None)
b_shows text None h = tt
b_shows text (Some rest) h = h rest refl

a_shows : (text : List ℕ) (o : Option (List ℕ)) (other : Option (Side × List ℕ)) → ((rest : List ℕ) → o ≡ Some rest → text ≡ codes "a " ++ rest)
    → IsSided text other → IsSided text (or_else o (λ rest. Some (A, rest)) other)
a_shows text None other h rest_shows = rest_shows
a_shows text (Some rest) other h rest_shows = h rest refl

side_shows : (text : List ℕ) → IsSided text (side_at text)
unfolding side_at
side_shows text = a_shows text (after (codes "a ") text) _ (after_takes (codes "a ") text)
    (b_shows text (after (codes "b ") text) (after_takes (codes "b ") text))

pub side_takes : (text : List ℕ) (parts : Side × List ℕ) → side_at text ≡ Some parts → text ≡ spaced (side_letter parts.0) parts.1
side_takes text parts e = subst (IsSided text) e (side_shows text)

pub side_again : (side : Side) (rest : List ℕ) → side_at (spaced (side_letter side) rest) ≡ Some (side, rest)
unfolding side_at
side_again A rest = refl
side_again B rest = refl

pub letter_lacks : (side : Side) → HasNo 10 (side_letter side)
letter_lacks A = lacks 10 (codes "a") refl
letter_lacks B = lacks 10 (codes "b") refl

pub letter_short : (side : Side) → length (side_letter side) ≤ 1
letter_short A = omega arith
letter_short B = omega arith
