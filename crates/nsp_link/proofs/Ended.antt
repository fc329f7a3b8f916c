-- A link that has ended with nothing left to deliver keeps nothing.
use Rattle.std.proofs.Common.{◌≡◌, true, Option, List, [], ◌∷◌, length, eqb, refl, sym, ap, ◌∙◌, arith}
use Rattle.std.proofs.lemmas.Bool.{eqb-true}
use Rattle.dna_links.specs.Segmentation.{Piece}
use Rattle.dna_links.specs.WireSegments.{WireSegments, empty, with_pieces_alone, ends}

none_alone : (pieces : List (Option Piece)) → eqb (length pieces) 0 ≡ true → empty ≡ with_pieces_alone pieces
none_alone [] e = refl
none_alone (p ∷ pieces) e = let none = eqb-true (length (p ∷ pieces)) 0 e in absurd (omega arith)

pub nothing_left : (f g : WireSegments) → g ≡ ends f → eqb (length g.variables.pieces) 0 ≡ true → empty ≡ ends f
nothing_left f g is e = none_alone (ends f).variables.pieces (sym (ap (λ (h : WireSegments). eqb (length h.variables.pieces) 0) is) ∙ e)

pub ruleset left = (nothing_left)
