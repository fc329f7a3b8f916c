-- The data of the first pieces, one behind the other.
use Rattle.std.proofs.Common.{◌≡◌, ℕ, zero, suc, ◌+◌, Option, Some, None, List, [], ◌∷◌, ◌++◌, take, sym, ap, ◌∙◌, add-one, append_assoc}
use Rattle.std.proofs.lemmas.List.{append-nil}
use Rattle.dna_links.specs.Segmentation.{Piece}
use Rattle.link_segments.specs.Received.{piece_at}
use Rattle.player_end.specs.inner.Delivering.{body_in, bodies}

one_more_on : (i : ℕ) (pieces : List (Option Piece)) (o : Option Piece) → piece_at i pieces ≡ o →
    bodies (take (suc i) pieces) ≡ bodies (take i pieces) ++ body_in o
one_more_on zero [] o e = ap body_in e
one_more_on (suc i) [] o e = ap body_in e
one_more_on zero (p ∷ pieces) o e = append-nil (body_in p) ∙ ap body_in e
one_more_on (suc i) (p ∷ pieces) o e = ap (λ (xs : List ℕ). body_in p ++ xs) (one_more_on i pieces o e) ∙
    sym (append_assoc (body_in p) (bodies (take i pieces)) (body_in o))

at_next : (i : ℕ) (pieces : List (Option Piece)) (o : Option Piece) → piece_at i pieces ≡ o → bodies (take (i + 1) pieces) ≡ bodies (take i pieces) ++
    body_in o
at_next i pieces o e = ap (λ (n : ℕ). bodies (take n pieces)) (add-one i) ∙ one_more_on i pieces o e

module _ (i : ℕ) (pieces : List (Option Piece)) where
  pub body_there : (p : Piece) → piece_at i pieces ≡ Some p → bodies (take (i + 1) pieces) ≡ bodies (take i pieces) ++ p.body
  body_there p e = at_next i pieces (Some p) e

  pub body_missing : piece_at i pieces ≡ None → bodies (take (i + 1) pieces) ≡ bodies (take i pieces)
  body_missing e = at_next i pieces None e ∙ append-nil (bodies (take i pieces))

pub first_body : (pieces : List (Option Piece)) (p : Piece) → piece_at 0 pieces ≡ Some p → bodies (take 1 pieces) ≡ p.body
first_body pieces p e = one_more_on 0 pieces (Some p) e

pub ruleset bodies_on = (body_there, body_missing, first_body)
