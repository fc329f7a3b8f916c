-- Pieces that wait at a link consist of bytes, and so do the messages that they make whole.
use Rattle.std.proofs.Common.{◌≡◌, ℕ, zero, suc, Bool, true, false, cond, Option, Some, None, List, [], ◌∷◌, ◌++◌, refl}
use Rattle.std.specs.Prelude.{drop}
use Rattle.std.specs.List.{AllByRecursion}
use Rattle.dna_play.specs.HasLine.{are_bytes}
use Rattle.dna_links.specs.Segmentation.{Piece, hold}
use Rattle.dna_play.specs.Receipt.{complete}
use Rattle.dna_play.proofs.Bytes.{joined_bytes}
use Rattle.dna_play.proofs.EachElement.{left_all}
use Rattle.dna_play.proofs.Links.Fits.{AreMessages}

abbrev pub IsOfBytes : Option Piece → Type 0
IsOfBytes None = Unit {0}
IsOfBytes (Some p) = are_bytes p.body ≡ true

abbrev pub AreOfBytes : List (Option Piece) → Type 0
AreOfBytes pieces = AllByRecursion IsOfBytes pieces

pub held_bytes : (place : ℕ) (p : Piece) (pieces : List (Option Piece)) → are_bytes p.body ≡ true → AreOfBytes pieces →
    AreOfBytes (hold place p pieces)
held_bytes zero p [] e h = (e, tt)
held_bytes zero p (None ∷ later) e h = (e, h.1)
held_bytes zero p (Some held ∷ later) e h = h
held_bytes (suc place) p [] e h = (tt, held_bytes place p [] e tt)
held_bytes (suc place) p (first ∷ later) e h = (h.0, held_bytes place p later e h.1)

pub left_bytes : (n : ℕ) (pieces : List (Option Piece)) → AreOfBytes pieces → AreOfBytes (drop n pieces)
left_bytes n pieces h = left_all IsOfBytes n pieces h

pub whole_bytes : (begun : List ℕ) (pieces : List (Option Piece)) → are_bytes begun ≡ true → AreOfBytes pieces → AreMessages (complete begun pieces)
whole_bytes begun [] e h = tt
whole_bytes begun (None ∷ later) e h = tt
whole_bytes begun (Some p ∷ later) e h =
    let joined = joined_bytes begun p.body e h.0 in go p.ends joined (whole_bytes [] later refl h.1) (whole_bytes (begun ++ p.body) later joined h.1)
  where
    go : (b : Bool) → are_bytes (begun ++ p.body) ≡ true → AreMessages (complete [] later) → AreMessages (complete (begun ++ p.body) later) →
        AreMessages (cond b ((begun ++ p.body) ∷ complete [] later) (complete (begun ++ p.body) later))
    go true joined ends goes_on = (joined, ends)
    go false joined ends goes_on = goes_on
