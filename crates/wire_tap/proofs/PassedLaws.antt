-- The units that passed, and the lines of their first bytes, from one piece to the next.
use Rattle.std.proofs.Common.{◌≡◌, ◌⊎◌, inl, inr, ℕ, ◌+◌, ◌-◌, ◌<◌, ◌≤◌, Bool, true, false, Option}
use Rattle.std.proofs.Common.{Some, None, List, [], ◌∷◌, ◌++◌, length, drop, map, refl, sym, ap, subst}
use Rattle.std.proofs.Common.{◌∙◌, arith, append_assoc, append-nil, length-append}
use Rattle.std.proofs.lemmas.Bool.{ltb-true, ltb-false}
use Rattle.std.proofs.lemmas.List.{drop_at, length-map, map-append}
use Rattle.std.specs.Prelude.{nat_lt, if◌then◌else◌, slice_index}
use Rattle.wire_base.specs.declared.side.Side.{Side}
use Rattle.wire_base.specs.declared.side.Side.TheVariants.{A, B}
use Rattle.framer.specs.declared.kind.Kind.{Kind}
use Rattle.framer.specs.declared.kind.Kind.TheVariants.{Control, Data, Maintenance}
use Rattle.framer.specs.Framing.{Framing, UnitAt, framing, kind_of, unit_at, units_at}
use Rattle.framer.proofs.Framings.{framing-append, framing-nil}
use Rattle.framer.proofs.Places.{at-append, at-units}
use Rattle.wire_text.specs.WireText.{Piece, piece}
use Rattle.wire_tap.specs.Units.{UnitPassed, bytes_if, bytes_of, line_at, message_of, messages, messages_at, passed_after, passed_in}
use Rattle.wire_tap.specs.Units.{passed_with, side_passed, unit_if, units_by, units_within}
use Rattle.wire_tap.specs.Units.{unit_passed, with_lines}
use Rattle.wire_tap.proofs.ByteLaws.{bytes_more}

-- ---- units with their lines

pub at-append_messages : (us more : List UnitAt) → messages_at (us ++ more) ≡ messages_at us ++ messages_at more
at-append_messages [] more = refl
at-append_messages (u ∷ us) more =
    ap (λ (rest : List UnitAt). message_of (kind_of (slice_index u.unit 0)) u ++ rest) (at-append_messages us more)
    ∙ sym (append_assoc (message_of (kind_of (slice_index u.unit 0)) u) (messages_at us) (messages_at more))

module _ (side : Side) (lines : ℕ → ℕ) where
  abbrev lined : UnitAt → UnitPassed
  lined u = unit_passed side u.unit (lines u.place)

  pub lines-append : (us more : List UnitAt) → with_lines side lines (us ++ more) ≡ with_lines side lines us ++ with_lines side lines more
  lines-append us more = ap (map lined) (at-append_messages us more) ∙ map-append lined (messages_at us) (messages_at more)

  one_message : (kind : Option Kind) (u : UnitAt) → map lined (message_of kind u) ≡ message_of kind (lined u)
  one_message (Some Control) u = refl
  one_message (Some Data) u = refl
  one_message (Some Maintenance) u = refl
  one_message None u = refl

  -- the first of some units
  pub lines-first : (kind : Kind) (place : ℕ) (unit : List ℕ) (later : List UnitAt) → kind_of (slice_index unit 0) ≡ Some kind →
      with_lines side lines (unit_at place unit ∷ later) ≡ message_of (Some kind) (unit_passed side unit (lines place)) ++ with_lines side lines later
  lines-first kind place unit later e =
      map-append lined (message_of (kind_of (slice_index unit 0)) (unit_at place unit)) (messages_at later)
      ∙ ap (λ (us : List UnitPassed). us ++ with_lines side lines later)
      (ap (λ (k : Option Kind). map lined (message_of k (unit_at place unit))) e ∙ one_message (Some kind) (unit_at place unit))

-- ---- one piece more

same_before : (before : List Piece) (p : Piece) → passed_with before p ≡ passed_with (before ++ []) p
same_before before p = ap (λ (ps : List Piece). passed_with ps p) (sym (append-nil before))

after-push : (before pieces : List Piece) (p : Piece) →
    passed_after before (pieces ++ p ∷ []) ≡ passed_after before pieces ++ passed_with (before ++ pieces) p
after-push before [] p = append-nil (passed_with before p) ∙ same_before before p
after-push before (q ∷ pieces) p =
    ap (λ (us : List UnitPassed). passed_with before q ++ us) (after-push (before ++ q ∷ []) pieces p)
    ∙ sym (append_assoc (passed_with before q) (passed_after (before ++ q ∷ []) pieces) (passed_with ((before ++ q ∷ []) ++ pieces) p))
    ∙ ap (λ (ps : List Piece). (passed_with before q ++ passed_after (before ++ q ∷ []) pieces) ++ passed_with ps p)
    (append_assoc before (q ∷ []) pieces)

pub passed-push : (pieces : List Piece) (p : Piece) → passed_in (pieces ++ p ∷ []) ≡ passed_in pieces ++ passed_with pieces p
passed-push pieces p = after-push [] pieces p

same_length : (side : Side) (one two : ℕ → ℕ) (us : List UnitAt) → length (with_lines side two us) ≡ length (with_lines side one us)
same_length side one two us = length-map (messages_at us) _ ∙ sym (length-map (messages_at us) _)

pub own_bytes : (side : Side) (bytes : List ℕ) → bytes_if side side bytes ≡ bytes
own_bytes A bytes = refl
own_bytes B bytes = refl

pub all_bytes : (side : Side) (pieces : List Piece) (bytes : List ℕ) →
    bytes_of side (pieces ++ piece side bytes ∷ []) ≡ bytes_of side pieces ++ bytes
all_bytes side pieces bytes =
    bytes_more side pieces (piece side bytes) ∙ ap (λ (b : List ℕ). bytes_of side pieces ++ b) (own_bytes side bytes)

module _ (side : Side) (pieces : List Piece) (bytes : List ℕ) where
  abbrev more : List Piece
  more = pieces ++ piece side bytes ∷ []

  abbrev left : List ℕ
  left = (framing (bytes_of side pieces)).left

  -- what is whole with it is found in what was left and its bytes
  pub with-is : passed_with pieces (piece side bytes)
      ≡ with_lines side (line_at side 2 more) (units_at (length (bytes_of side pieces) - length left) (left ++ bytes))
  with-is =
      ap (drop (length (side_passed side pieces)))
      (ap (λ (b : List ℕ). with_lines side (line_at side 2 more) (units_at 0 b)) (all_bytes side pieces bytes)
      ∙ ap (with_lines side (line_at side 2 more)) (at-append 0 (bytes_of side pieces) bytes)
      ∙ lines-append side (line_at side 2 more) (units_at 0 (bytes_of side pieces)) (units_at from (left ++ bytes)))
      ∙ drop_at (with_lines side (line_at side 2 more) (units_at 0 (bytes_of side pieces)))
      (with_lines side (line_at side 2 more) (units_at from (left ++ bytes))) (length (side_passed side pieces))
      (same_length side (line_at side 2 pieces) (line_at side 2 more) (units_at 0 (bytes_of side pieces)))
      ∙ ap (λ (n : ℕ). with_lines side (line_at side 2 more) (units_at n (left ++ bytes))) from_is
    where
      from : ℕ
      from = 0 + (length (bytes_of side pieces) - length left)

      from_is : from ≡ length (bytes_of side pieces) - length left
      from_is = omega arith

-- ---- the line of a byte

line_if : (b : Bool) (line one two : ℕ) → (b ≡ false → one ≡ two) → (if b then line else one) ≡ (if b then line else two)
line_if true line one two e = refl
line_if false line one two e = e refl

-- of a byte that had passed before the last piece
pub line-before : (side : Side) (line : ℕ) (pieces : List Piece) (p : Piece) (place : ℕ) → place < length (bytes_of side pieces) →
    line_at side line (pieces ++ p ∷ []) place ≡ line_at side line pieces place
line-before side line [] p place less = absurd (omega arith)
line-before side line (q ∷ pieces) p place less =
    line_if (nat_lt place n) line _ _ (λ e. line-before side (line + 1) pieces p (place - n) (rest (ltb-false place n e)))
  where
    n : ℕ
    n = length (bytes_if side q.side q.bytes)

    rest : n ≤ place → place - n < length (bytes_of side pieces)
    rest within = omega (arith, length-append (bytes_if side q.side q.bytes) (bytes_of side pieces))

line_else : (b : Bool) (line one two : ℕ) → (b ≡ true → line ≡ two) → (b ≡ false → one ≡ two) → (if b then line else one) ≡ two
line_else true line one two e f = e refl
line_else false line one two e f = f refl

-- of a byte of the last piece
pub line-last : (side : Side) (line : ℕ) (pieces : List Piece) (p : Piece) (place : ℕ) → length (bytes_of side pieces) ≤ place →
    place < length (bytes_of side pieces) + length (bytes_if side p.side p.bytes) → line_at side line (pieces ++ p ∷ []) place ≡ line + length pieces
line-last side line [] p place least less =
    line_else (nat_lt place (length (bytes_if side p.side p.bytes))) line _ (line + length {A = Piece} []) (λ e. omega arith)
    (λ e. let far = ltb-false place (length (bytes_if side p.side p.bytes)) e in absurd (omega arith))
line-last side line (q ∷ pieces) p place least less =
    line_else (nat_lt place n) line _ (line + length (q ∷ pieces))
    (λ e. let near = ltb-true place n e in absurd (omega (arith, long)))
    (λ e. let far = ltb-false place n e in
    line-last side (line + 1) pieces p (place - n) (omega (arith, long)) (omega (arith, long))
    ∙ count (length pieces) (length (q ∷ pieces)) (omega arith))
  where
    n : ℕ
    n = length (bytes_if side q.side q.bytes)

    long : length (bytes_of side (q ∷ pieces)) ≡ n + length (bytes_of side pieces)
    long = length-append (bytes_if side q.side q.bytes) (bytes_of side pieces)

    count : (few many : ℕ) → many ≡ few + 1 → line + 1 + few ≡ line + many
    count few many e = omega arith

-- ---- the units of one side

abbrev only_units : List UnitAt → List (List ℕ)
only_units us = map (λ (u : UnitAt). u.unit) us

by_append : (side : Side) (us others : List UnitPassed) → units_by side (us ++ others) ≡ units_by side us ++ units_by side others
by_append side [] others = refl
by_append side (u ∷ us) others =
    ap (λ (rest : List (List ℕ)). unit_if side u.side u.bytes ++ rest) (by_append side us others)
    ∙ sym (append_assoc (unit_if side u.side u.bytes) (units_by side us) (units_by side others))

messages_append : (us others : List (List ℕ)) → messages (us ++ others) ≡ messages us ++ messages others
messages_append [] others = refl
messages_append (u ∷ us) others =
    ap (λ (rest : List (List ℕ)). message_of (kind_of (slice_index u 0)) u ++ rest) (messages_append us others)
    ∙ sym (append_assoc (message_of (kind_of (slice_index u 0)) u) (messages us) (messages others))

-- a side's units with their lines are its units
one_by : (side : Side) (lines : ℕ → ℕ) (kind : Option Kind) (u : UnitAt) →
    units_by side (map (λ (v : UnitAt). unit_passed side v.unit (lines v.place)) (message_of kind u)) ≡ message_of kind u.unit
one_by A lines (Some Control) u = refl
one_by A lines (Some Data) u = refl
one_by A lines (Some Maintenance) u = refl
one_by A lines None u = refl
one_by B lines (Some Control) u = refl
one_by B lines (Some Data) u = refl
one_by B lines (Some Maintenance) u = refl
one_by B lines None u = refl

lined_by : (side : Side) (lines : ℕ → ℕ) (us : List UnitAt) → units_by side (with_lines side lines us) ≡ messages (only_units us)
lined_by side lines [] = refl
lined_by side lines (u ∷ us) =
    ap (units_by side) (map-append (lined side lines) (message_of (kind_of (slice_index u.unit 0)) u) (messages_at us))
    ∙ by_append side (map (lined side lines) (message_of (kind_of (slice_index u.unit 0)) u)) (with_lines side lines us)
    ∙ ap (λ (rest : List (List ℕ)). units_by side (map (lined side lines) (message_of (kind_of (slice_index u.unit 0)) u)) ++ rest)
    (lined_by side lines us)
    ∙ ap (λ (first : List (List ℕ)). first ++ messages (only_units us)) (one_by side lines (kind_of (slice_index u.unit 0)) u)

-- of the other side they are none
no_unit : (other side : Side) (unit : List ℕ) → (other ≡ side → ⊥) → unit_if other side unit ≡ []
no_unit A A unit apart = absurd (apart refl)
no_unit A B unit apart = refl
no_unit B A unit apart = refl
no_unit B B unit apart = absurd (apart refl)

none_by : (other side : Side) (lines : ℕ → ℕ) (us : List UnitAt) → (other ≡ side → ⊥) →
    units_by other (map (λ (v : UnitAt). unit_passed side v.unit (lines v.place)) us) ≡ []
none_by other side lines [] apart = refl
none_by other side lines (u ∷ us) apart =
    ap (λ (rest : List (List ℕ)). unit_if other side u.unit ++ rest) (none_by other side lines us apart)
    ∙ append-nil (unit_if other side u.unit) ∙ no_unit other side u.unit apart

no_bytes : (other side : Side) (bytes : List ℕ) → (other ≡ side → ⊥) → bytes_if other side bytes ≡ []
no_bytes A A bytes apart = absurd (apart refl)
no_bytes A B bytes apart = refl
no_bytes B A bytes apart = refl
no_bytes B B bytes apart = absurd (apart refl)

same_or_apart : (other side : Side) → (other ≡ side) ⊎ (other ≡ side → ⊥)
same_or_apart A A = inl refl
same_or_apart A B = inr (λ e. absurd cc)
same_or_apart B A = inr (λ e. absurd cc)
same_or_apart B B = inl refl

-- those that are whole with one piece more
by_with : (side : Side) (pieces : List Piece) (p : Piece) →
    units_within side (pieces ++ p ∷ []) ≡ units_within side pieces ++ units_by side (passed_with pieces p)
by_with side pieces p = either (same_or_apart side p.side)
  where
    more : List ℕ
    more = (framing (bytes_of p.side pieces)).left ++ p.bytes

    own : units_within p.side (pieces ++ p ∷ []) ≡ units_within p.side pieces ++ units_by p.side (passed_with pieces p)
    own =
        ap (λ (b : List ℕ). messages (framing b).units) (all_bytes p.side pieces p.bytes)
        ∙ ap (λ (f : Framing). messages f.units) (framing-append (bytes_of p.side pieces) p.bytes)
        ∙ messages_append (framing (bytes_of p.side pieces)).units (framing more).units
        ∙ ap (λ (us : List (List ℕ)). units_within p.side pieces ++ us) (sym (
        ap (units_by p.side) (with-is p.side pieces p.bytes) ∙ lined_by p.side _ (units_at _ more) ∙ ap messages (at-units _ more)))

    either : (side ≡ p.side) ⊎ (side ≡ p.side → ⊥) →
        units_within side (pieces ++ p ∷ []) ≡ units_within side pieces ++ units_by side (passed_with pieces p)
    either (inl same) =
        subst (λ (s : Side). units_within s (pieces ++ p ∷ []) ≡ units_within s pieces ++ units_by s (passed_with pieces p)) (sym same) own
    either (inr apart) =
        ap (λ (b : List ℕ). messages (framing b).units) (bytes_more side pieces p
        ∙ ap (λ (b : List ℕ). bytes_of side pieces ++ b) (no_bytes side p.side p.bytes apart) ∙ append-nil (bytes_of side pieces))
        ∙ sym (ap (λ (us : List (List ℕ)). units_within side pieces ++ us) (ap (units_by side) (with-is p.side pieces p.bytes)
        ∙ none_by side p.side _ (messages_at (units_at _ more)) apart) ∙ append-nil (units_within side pieces))

by_after : (side : Side) (before pieces : List Piece) →
    units_within side (before ++ pieces) ≡ units_within side before ++ units_by side (passed_after before pieces)
by_after side before [] =
    ap (units_within side) (append-nil before) ∙ sym (append-nil (units_within side before))
by_after side before (p ∷ pieces) =
    ap (units_within side) (sym (append_assoc before (p ∷ []) pieces))
    ∙ by_after side (before ++ p ∷ []) pieces
    ∙ ap (λ (us : List (List ℕ)). us ++ units_by side (passed_after (before ++ p ∷ []) pieces)) (by_with side before p)
    ∙ append_assoc (units_within side before) (units_by side (passed_with before p)) (units_by side (passed_after (before ++ p ∷ []) pieces))
    ∙ ap (λ (us : List (List ℕ)). units_within side before ++ us)
    (sym (by_append side (passed_with before p) (passed_after (before ++ p ∷ []) pieces)))

no_units : (side : Side) → units_within side [] ≡ []
no_units side = ap (λ (f : Framing). messages f.units) framing-nil

-- what passed of a side are its units
pub by-passed : (side : Side) (pieces : List Piece) → units_by side (passed_in pieces) ≡ units_within side pieces
by-passed side pieces =
    sym (by_after side [] pieces ∙ ap (λ (us : List (List ℕ)). us ++ units_by side (passed_in pieces)) (no_units side))
