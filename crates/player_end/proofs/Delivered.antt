-- Messages that are whole, delivered one after the other.
use Rattle.std.proofs.Common.{◌≡◌, ℕ, ◌+◌, ◌≤◌, Bool, true, false, ◌&&◌, cond, Option, Some, None, List, [], ◌∷◌, ◌++◌, length, take, drop, refl, sym}
use Rattle.std.proofs.Common.{subst, ap, ap₂, ◌∙◌, arith, add-one, append_assoc, le-leb}
use Rattle.std.proofs.lemmas.Bool.{lt-leb}
use Rattle.std.specs.Prelude.{nat_le}
use Rattle.std.proofs.lemmas.List.{append-nil, drop-drop}
use Rattle.capture_record.specs.declared.limit.TheConstants.{MAX_MESSAGE}
use Rattle.capture.specs.declared.hint.HintForm.TheVariants.{Number}
use Rattle.capture.specs.Text.{record_lines}
use Rattle.dna_links.proofs.Cut.Ended.{Splits, splits}
use Rattle.dna_links.specs.Segmentation.{Piece, Whole, with_piece, next_message, in_whole_messages}
use Rattle.std.proofs.lemmas.Option.{same_Some}
use Rattle.dna_play.specs.Receipt.{complete}
use Rattle.dna_play.specs.StoredPlay.{all_short, ups}
use Rattle.player_end.specs.declared.fault.StepFault.{StepFault}
use Rattle.player_end.specs.declared.fault.StepFault.TheVariants.{BadStep, Full, OutOfMemory}
use Rattle.link_segments.specs.Received.{count_of, next_count}
use Rattle.player_end.specs.inner.Delivering.{bodies, lines_of, up_line, IsTooLong}
use Rattle.player_end.specs.Stepping.{Stopped}

-- ---- the next message that is whole, if there is one

abbrev from_next : (begun : List ℕ) → List (Option Piece) → Option Whole → List (List ℕ)
from_next begun pieces None = []
from_next begun pieces (Some w) = (begun ++ w.message) ∷ complete [] (drop w.pieces pieces)

-- it comes first, and the others are whole behind it
complete_next : (begun : List ℕ) (pieces : List (Option Piece)) → complete begun pieces ≡ from_next begun pieces (next_message pieces)
complete_next begun [] = refl
complete_next begun (None ∷ later) = refl
complete_next begun (Some p ∷ later) = go p.ends (next_message later) (complete_next (begun ++ p.body) later)
  where
    go : (b : Bool) (o : Option Whole) → complete (begun ++ p.body) later ≡ from_next (begun ++ p.body) later o →
        cond b ((begun ++ p.body) ∷ complete [] later) (complete (begun ++ p.body) later)
        ≡ from_next begun (Some p ∷ later) (cond b (Some (record { pieces = 1; message = p.body })) (with_piece p o))
    go true o e = refl
    go false None e = e
    go false (Some v) e = e ∙ ap₂ (λ (message : List ℕ) (rest : List (Option Piece)). message ∷ complete [] rest)
        (append_assoc begun p.body v.message) (ap (λ (n : ℕ). drop n (Some p ∷ later)) (sym (add-one v.pieces)))

-- its data are those of its pieces
abbrev HasBodies : List (Option Piece) → Option Whole → Type 0
HasBodies pieces None = Unit {0}
HasBodies pieces (Some w) = bodies (take w.pieces pieces) ≡ w.message

bodies_next : (pieces : List (Option Piece)) → HasBodies pieces (next_message pieces)
bodies_next [] = tt
bodies_next (None ∷ later) = tt
bodies_next (Some p ∷ later) = go p.ends (next_message later) (bodies_next later)
  where
    go : (b : Bool) (o : Option Whole) → HasBodies later o →
        HasBodies (Some p ∷ later) (cond b (Some (record { pieces = 1; message = p.body })) (with_piece p o))
    go true o h = append-nil p.body
    go false None h = tt
    go false (Some v) h =
        ap (λ (n : ℕ). bodies (take n (Some p ∷ later))) (add-one v.pieces) ∙ ap (λ (xs : List ℕ). p.body ++ xs) h

record Next (pieces : List (Option Piece)) (count : ℕ) : Type 0 where
  all : complete [] pieces ≡ bodies (take count pieces) ∷ complete [] (drop count pieces)
  counted : in_whole_messages pieces ≡ count + in_whole_messages (drop count pieces)
  least : 1 ≤ count

next_is : (pieces : List (Option Piece)) (count : ℕ) (o : Option Whole) → next_message pieces ≡ o → count_of o ≡ Some count → Next pieces count
next_is pieces count None is e = absurd cc
next_is pieces count (Some w) is e =
    let split = subst (Splits pieces) is (splits pieces) in
    subst (Next pieces) (same_Some w.pieces count e) (record {
      all = complete_next [] pieces ∙ ap (from_next [] pieces) is
          ∙ ap (λ (m : List ℕ). m ∷ complete [] (drop w.pieces pieces)) (sym (subst (HasBodies pieces) is (bodies_next pieces)));
      counted = split.1;
      least = split.0;
    })

none_is : (pieces : List (Option Piece)) (o : Option Whole) → next_message pieces ≡ o → count_of o ≡ None →
    (complete [] pieces ≡ []) × (in_whole_messages pieces ≡ 0)
none_is pieces None is e = (complete_next [] pieces ∙ ap (from_next [] pieces) is, subst (Splits pieces) is (splits pieces))
none_is pieces (Some w) is e = absurd cc

-- ---- the lines of what is whole

module _ (own : ℕ) (text : List ℕ) (pieces : List (Option Piece)) where
  abbrev lines : List (List ℕ) → Option (List ℕ)
  lines messages = cond (all_short messages) (Some (text ++ record_lines Number (ups own messages))) None

  module _ (count : ℕ) (next : next_count pieces ≡ Some count) where
    abbrev message : List ℕ
    message = bodies (take count pieces)

    abbrev rest : List (Option Piece)
    rest = drop count pieces

    it : Next pieces count
    it = next_is pieces count (next_message pieces) refl next

    lines_by : (b : Bool) → nat_le (length message) MAX_MESSAGE ≡ b →
        lines_of own text pieces ≡ cond b (lines_of own (text ++ up_line own message) rest) None
    lines_by b e =
        ap lines it.all
        ∙ ap (λ (a : Bool). cond (a && all_short (complete [] rest)) (Some (text ++ record_lines Number (ups own (message ∷ complete [] rest)))) None)
        e ∙ go b
      where
        go : (a : Bool) →
            cond (a && all_short (complete [] rest)) (Some (text ++ record_lines Number (ups own (message ∷ complete [] rest)))) None
            ≡ cond a (lines_of own (text ++ up_line own message) rest) None
        go true = ap (λ (t : List ℕ). cond (all_short (complete [] rest)) (Some t) None)
            (sym (append_assoc text (up_line own message) (record_lines Number (ups own (complete [] rest)))))
        go false = refl

    pub lines_behind : length message ≤ MAX_MESSAGE → lines_of own text pieces ≡ lines_of own (text ++ up_line own message) rest
    lines_behind h = lines_by true (le-leb (length message) MAX_MESSAGE h)

    pub left_behind : drop (in_whole_messages pieces) pieces ≡ drop (in_whole_messages rest) rest
    left_behind = ap (λ (n : ℕ). drop n pieces) it.counted ∙ sym (drop-drop (in_whole_messages rest) count pieces)

    -- the step stops at a message that has no line
    pub stops_at : (o : Option (List ℕ)) → o ≡ lines_of own text pieces → (fault : StepFault) → IsTooLong message fault → Stopped o fault
    stops_at o same BadStep h = same ∙ lines_by false (lt-leb (length message) MAX_MESSAGE h)
    stops_at o same Full h = h
    stops_at o same OutOfMemory h = tt

    pub least_count : 1 ≤ count
    least_count = it.least

  -- nothing is whole
  pub no_more_lines : next_count pieces ≡ None → lines_of own text pieces ≡ Some text
  no_more_lines e = ap lines (none_is pieces (next_message pieces) refl e).0 ∙ ap Some (append-nil text)

  pub none_left : next_count pieces ≡ None → drop (in_whole_messages pieces) pieces ≡ pieces
  none_left e = ap (λ (n : ℕ). drop n pieces) (none_is pieces (next_message pieces) refl e).1

pub empty_counts : (pieces : List (Option Piece)) → length pieces ≡ 0 → next_count pieces ≡ None
empty_counts [] h = refl
empty_counts (x ∷ xs) h = absurd (omega (arith, h))
