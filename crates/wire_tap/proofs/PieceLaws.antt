-- Both directions and what accuses them, when one piece more passed.
use Rattle.std.proofs.Common.{◌≡◌, ℕ, ◌+◌, ◌-◌, ◌<◌, ◌≤◌, Bool, Option, Some, None, Ok, List, [], ◌∷◌, ◌++◌, length, sym, ap, subst, ◌∙◌, arith}
use Rattle.std.proofs.Common.{append-nil, length-append}
use Rattle.std.specs.Prelude.{IfSome}
use Rattle.wire_base.specs.declared.side.Side.{Side}
use Rattle.wire_base.specs.declared.side.Side.TheVariants.{A, B}
use Rattle.capture.specs.Listed.{with_item}
use Rattle.capture.specs.ListReader.{Advances, ListState}
use Rattle.capture.proofs.ListedSoFar as read
use Rattle.framer.specs.Framing.{Framing, framing, units_at}
use Rattle.framer.proofs.Framings.{framing-append}
use Rattle.framer.proofs.Places.{left_within}
use Rattle.wire_text.specs.WireText.{Piece, piece, wire_form}
use Rattle.wire_text.specs.declared.limit.TheConstants.{MAX_PIECES}
use Rattle.dna_station.specs.declared.head.Head.{Head}
use Rattle.wire_tap.specs.Accusing.{AccusesOne, IsCharged, IsDoubted}
use Rattle.wire_tap.specs.Units.{UnitPassed, bytes_of, line_at, passed_in, with_lines}
use Rattle.wire_tap.specs.declared.accusation.Accusation.{Accusation}
use Rattle.wire_tap.specs.declared.accusation.Exception.{Exception}
use Rattle.wire_tap.specs.declared.direction.Direction.{Direction}
use Rattle.wire_tap.specs.declared.accused.Line.{Line}
use Rattle.wire_tap.specs.declared.told.Told.{Told}
use Rattle.wire_tap.specs.declared.accusers.Accusers.{Accusers}
use Rattle.wire_tap.specs.declared.suspects.Suspect.{Suspect}
use Rattle.wire_tap.specs.declared.tapped.Passed.{Passed}
use Rattle.wire_tap.specs.inner.Accused.{FindsAll, FirstIs, IsBehind, IsLineBehind, IsOnLine}
use Rattle.wire_tap.specs.inner.Accused.{IsReading, IsTold, KeepsLines, Leaves, LeavesSegment, SegmentIs}
use Rattle.wire_tap.proofs.PassedLaws.{all_bytes, line-before, line-last, own_bytes, passed-push, with-is}
use Rattle.wire_tap.proofs.ByteLaws.{bytes_more}

-- ---- the side of the piece

module _ (side : Side) (pieces : List Piece) (bytes : List ℕ) (d : Direction) (is : IsBehind side pieces d) where
  abbrev more : List Piece
  more = pieces ++ piece side bytes ∷ []

  abbrev place : ℕ
  place = length (bytes_of side pieces) - length d.framer.held

  held_within : length d.framer.held ≤ length (bytes_of side pieces)
  held_within = let same = ap length is.left in let within = left_within (bytes_of side pieces) in omega arith

  pub keeps_on : KeepsLines (line_at side 2 more) place (length d.framer.held) d.begun
  keeps_on i few near =
      is.keeps i few near
      ∙ sym (line-before side 2 pieces (piece side bytes) (place + i) (let within = held_within in omega arith))

  pub lies_on : (line : ℕ) → line ≡ length pieces + 2 → IsOnLine (line_at side 2 more) place (length d.framer.held) (length bytes) line
  lies_on line e i least few =
      let within = held_within in
      let own = ap length (own_bytes side bytes) in
      let same : line ≡ 2 + length pieces = omega arith in
      same ∙ sym (line-last side 2 pieces (piece side bytes) (place + i) (omega arith) (omega arith))

  module _ (line_alone : Bool) (a b : ℕ) (new : Direction) (told : Told)
      (f : FindsAll line_alone a b side (passed_in pieces) (line_at side 2 more) place (d.framer.held ++ bytes) new told) where
    pub told_on : IsTold line_alone a b (passed_in more) told
    told_on = subst (λ (us : List UnitPassed). IsTold line_alone a b us told) (sym (
        passed-push pieces (piece side bytes) ∙ ap (λ (us : List UnitPassed). passed_in pieces ++ us) (with-is side pieces bytes
        ∙ ap (λ (l : List ℕ). with_lines side (line_at side 2 more) (units_at (length (bytes_of side pieces) - length l) (l ++ bytes))) is.left)))
        f.tells

    pub behind_on : IsBehind side more new
    behind_on = record {
      side_is = f.side_is;
      left = ap (λ (b : List ℕ). (framing b).left) (all_bytes side pieces bytes)
          ∙ ap (λ (g : Framing). g.left) (framing-append (bytes_of side pieces) bytes)
          ∙ ap (λ (l : List ℕ). (framing (l ++ bytes)).left) is.left ∙ f.left;
      keeps = λ i few near. f.keeps i few near ∙ ap (line_at side 2 more) (there i);
    }
      where
        there : (i : ℕ) → place + (length (d.framer.held ++ bytes) - length new.framer.held) + i
            ≡ length (bytes_of side more) - length new.framer.held + i
        there i =
            let within = held_within in
            let all = ap length (all_bytes side pieces bytes) in
            let now = ap length f.left in
            let fits = left_within (d.framer.held ++ bytes) in
            omega (arith, length-append (bytes_of side pieces) bytes, length-append d.framer.held bytes)

-- ---- the other side

pub stays_behind : (side : Side) (pieces : List Piece) (p : Piece) (d : Direction) → bytes_of side (pieces ++ p ∷ []) ≡ bytes_of side pieces →
    IsBehind side pieces d → IsBehind side (pieces ++ p ∷ []) d
stays_behind side pieces p d same is = record {
  side_is = is.side_is;
  left = ap (λ (b : List ℕ). (framing b).left) same ∙ is.left;
  keeps = λ i few near.
      is.keeps i few near
      ∙ sym (line-before side 2 pieces p (length (bytes_of side pieces) - length d.framer.held + i)
      (let left = ap length is.left in let within = left_within (bytes_of side pieces) in omega arith))
      ∙ ap (λ (b : List ℕ). line_at side 2 (pieces ++ p ∷ []) (length b - length d.framer.held + i)) (sym same);
}

pub none_of_a : (pieces : List Piece) (bytes : List ℕ) → bytes_of A (pieces ++ piece B bytes ∷ []) ≡ bytes_of A pieces
none_of_a pieces bytes = bytes_more A pieces (piece B bytes) ∙ append-nil (bytes_of A pieces)

pub none_of_b : (pieces : List Piece) (bytes : List ℕ) → bytes_of B (pieces ++ piece A bytes ∷ []) ≡ bytes_of B pieces
none_of_b pieces bytes = bytes_more B pieces (piece A bytes) ∙ append-nil (bytes_of B pieces)

-- ---- the text

pub reads_on : (line_alone : Bool) (text come : Option (List ℕ)) (was now : ListState) (old new : Line) (side : Side) (after : Option (List ℕ)) →
    (h : IsReading line_alone text was.items come old) → Advances wire_form was now come after (Ok (Some (piece side now.bytes))) →
    IsLineBehind line_alone h.wire.node_a h.wire.node_b (h.wire.items ++ piece side now.bytes ∷ []) new →
    IsReading line_alone text now.items after new
reads_on line_alone text come was now old new side after h advances behind = record {
  wire = with_item h.wire (piece side now.bytes);
  read = read.one_more wire_form text come after h.wire (piece side now.bytes) h.read few advances.0 advances.4;
  count = let more = advances.2 in omega (arith, length-append h.wire.items (piece side now.bytes ∷ []), h.count);
  behind = behind;
}
  where
    few : length h.wire.items < MAX_PIECES
    few = let fits = advances.1 in omega (arith, h.count)

-- ---- what is left

module _ (line_alone : Bool) (head : Head) (side : Side) (passed : List UnitPassed) where
  pub accused_left : (suspect : Option Suspect) (accusers : Accusers) (accusation : Option Accusation) →
      FirstIs line_alone head side passed suspect accusers → Leaves suspect accusation → IfSome accusation (AccusesOne line_alone head side passed)
  accused_left suspect accusers None is left = tt
  accused_left None accusers (Some accusation) is left = absurd left
  accused_left (Some suspect) accusers (Some accusation) is left =
      subst (λ (unless : Option Exception). IsCharged line_alone head side passed accusation.passed unless) (sym left.1)
      (subst (λ (p : Passed). IsCharged line_alone head side passed p suspect.unless) (sym left.0) is)

  pub doubted_left : (suspect : Option Suspect) (named : Option Passed) → SegmentIs line_alone head side passed suspect →
      LeavesSegment suspect named → IfSome named (IsDoubted line_alone head side passed)
  doubted_left suspect None is left = tt
  doubted_left None (Some named) is left = absurd left
  doubted_left (Some suspect) (Some named) is left = subst (IsDoubted line_alone head side passed) (sym left) is
