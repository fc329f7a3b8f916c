-- The bytes read ahead, in their block.
use Rattle.std.proofs.Common.{◌≡◌, ◌≢◌, ℕ, ◌+◌, ◌-◌, ◌<◌, ◌≤◌, true, false, eqb, not, List, [], ◌++◌, length, get_or, take, drop, Option, Some, None}
use Rattle.std.proofs.Common.{◌⊎◌, refl, sym, ap, subst, ◌∙◌, inl, inr, arith}
use Rattle.std.specs.Prelude.{MatchBool}
use Rattle.std.specs.List.{between}
use Rattle.std.specs.Io.KnownBytes.{Consumes, IsAtEnd}
use Rattle.std.proofs.lemmas.Slice.{between_is}
use Rattle.std.proofs.lemmas.List.{take_at, drop_at, drop-take, take-take, take-append-le, drop-append-le, drop-drop, length-take, length-take-le}
use Rattle.std.proofs.lemmas.List.{length-append, length-drop, get_or-drop, append-nil, nil_from_length}
use Rattle.std.proofs.lemmas.Bool.{eqb-true, eqb-false, cases_Bool}
use Rattle.std.proofs.Math.Seq.{take-add}
use borrow.Rule.Slice.PartMut.{post_of}
use Rattle.capture.specs.Lines.{ReadsAhead, FindsLf}

-- a line left behind
pub between-skipped : (start end count : ℕ) (items : List ℕ) → between (start + count) end items ≡ drop count (between start end items)
between-skipped start end count items =
    between_is items (start + count) end ∙ sym (ap (drop count) (between_is items start end) ∙ drop-drop count start (take end items))

-- a line at the front
pub between-line : (start end len : ℕ) (items : List ℕ) → start ≤ end → len < length (between start end items) →
    between start (start + len) items ≡ take len (between start end items)
between-line start end len items order within =
    let size = ap length (between_is items start end) in
    let enough : start + len ≤ end = omega (arith, size, length-drop start (take end items), length-take end items) in
    let whole : start + (end - start) ≡ end = omega arith in
    let ahead = between_is items start end ∙ ap (λ (n : ℕ). drop start (take n items)) (sym whole) ∙ drop-take start (end - start) items in
    between_is items start (start + len) ∙ drop-take start len items ∙
    sym (ap (take len) ahead ∙ take-take len (end - start) (drop start items) (omega arith))

take-seam : (front back : List ℕ) (e n : ℕ) → length front ≡ e → take (e + n) (front ++ back) ≡ front ++ take n back
take-seam front back e n same = take-add e n (front ++ back) ∙ rw (take_at front back e same, drop_at front back e same) refl

-- what a read wrote behind the bytes read ahead
pub between-read : (items lent buf : List ℕ) (len start end count : ℕ) → lent ≡ items → length items ≡ len → end ≤ len → start ≤ end
    → length buf ≡ length lent - end → count ≤ length buf
    → between start (end + count)
    (take len (take end lent ++ (buf ++ post_of end (length lent - end) lent) ++
    drop (length (take end lent ++ (buf ++ post_of end (length lent - end) lent))) items))
    ≡ between start end items ++ take count buf
between-read items lent buf len start end count same size within order room few =
    let post = post_of end (length lent - end) lent in
    let sized : length lent ≡ len = ap length same ∙ size in
    let front-len : length (take end lent) ≡ end = length-take-le end lent (omega arith) in
    let post-len : length (drop (length lent - end) (drop end lent)) ≡ 0 =
    omega (arith, length-drop (length lent - end) (drop end lent), length-drop end lent) in
    let whole-len : length (take end lent ++ (buf ++ post)) ≡ len =
    omega (arith, length-append (take end lent) (buf ++ post), length-append buf post, post-len) in
    let whole = take_at (take end lent ++ (buf ++ post)) (drop (length (take end lent ++ (buf ++ post))) items) len whole-len in
    ap (between start (end + count)) whole ∙ between_is (take end lent ++ (buf ++ post)) start (end + count)
    ∙ ap (drop start) (take-seam (take end lent) (buf ++ post) end count front-len ∙ ap (λ (t : List ℕ). take end lent ++ t)
    (take-append-le count buf post few))
    ∙ drop-append-le start (take end lent) (take count buf) (omega arith)
    ∙ ap (λ (t : List ℕ). t ++ take count buf) (sym (between_is lent start end) ∙ ap (between start end) same)

-- a read that took no byte is at its end
some_if_not : (count : ℕ) → eqb count 0 ≡ false → 0 < count
some_if_not count h = let differs = eqb-false count 0 h in omega arith

read_ahead : (old new piece : List ℕ) (count : ℕ) (before after : Option (List ℕ)) → new ≡ old ++ piece → length piece ≡ count →
    Consumes before after piece
    → (count ≡ 0 → IsAtEnd after) → ReadsAhead old new before after (not (eqb count 0))
read_ahead old new piece count before after e len took at_end = (piece, e, took, by_count (cases_Bool (eqb count 0)))
  where
    by_count : (eqb count 0 ≡ true) ⊎ (eqb count 0 ≡ false) → MatchBool (not (eqb count 0)) (0 < length piece) ((piece ≡ []) × IsAtEnd after)
    by_count (inl none) = rw none (nil_from_length piece (len ∙ eqb-true count 0 none), at_end (eqb-true count 0 none))
    by_count (inr some) = let long = some_if_not count some in rw some (omega arith)

-- the whole step of a read
pub filled : (items lent buf old : List ℕ) (len start end count : ℕ) (before after : Option (List ℕ)) → lent ≡ items → length items ≡ len →
    end < len → start ≤ end
    → length buf ≡ length lent - end → count ≤ length buf → between start end items ≡ old → Consumes before after (take count buf) →
    (count ≡ 0 → 0 < length buf → IsAtEnd after)
    → ReadsAhead old (between start (end + count)
    (take len (take end lent ++ (buf ++ post_of end (length lent - end) lent) ++
    drop (length (take end lent ++ (buf ++ post_of end (length lent - end) lent))) items))) before after (not (eqb count 0))
filled items lent buf old len start end count before after same size room order buf-len few was took at_end =
    let sized : length lent ≡ len = ap length same ∙ size in
    let some : 0 < length buf = omega arith in
    read_ahead old _ (take count buf) count before after
    (between-read items lent buf len start end count same size (omega arith) order buf-len few ∙ ap (λ (t : List ℕ). t ++ take count buf) was)
    (length-take-le count buf few) took (λ none. at_end none some)

-- a read that failed: whatever it wrote stands behind the bytes read ahead
pub unfilled : (items lent buf old : List ℕ) (len start end : ℕ) → lent ≡ items → length items ≡ len → end < len → start ≤ end →
    length buf ≡ length lent - end → between start end items ≡ old
    → between start end (take len
    (take end lent ++ (buf ++ post_of end (length lent - end) lent) ++
    drop (length (take end lent ++ (buf ++ post_of end (length lent - end) lent))) items)) ≡ old
unfilled items lent buf old len start end same size room order buf-len was =
    let none : end + 0 ≡ end = omega arith in
    let behind = take len
    (take end lent ++ (buf ++ post_of end (length lent - end) lent) ++
    drop (length (take end lent ++ (buf ++ post_of end (length lent - end) lent))) items) in
    subst (λ (e : ℕ). between start e behind ≡ between start end items) none
    (between-read items lent buf len start end 0 same size (omega arith) order buf-len (omega arith) ∙ append-nil (between start end items))
    ∙ was

-- an LF sought from `searched` on
pub lf_none : (searched : ℕ) (unread : List ℕ) → searched ≤ length unread
    → ((k : ℕ) → k < length (drop searched unread) → get_or (drop searched unread) k 0 ≢ 10) → FindsLf searched unread None
lf_none searched unread within none = λ j low high e.
    let back : searched + (j - searched) ≡ j = omega arith in
    none (j - searched) (omega (arith, length-drop searched unread))
    (get_or-drop searched unread (j - searched) 0 ∙ ap (λ (k : ℕ). get_or unread k 0) back ∙ e)

pub lf_found : (searched at : ℕ) (unread : List ℕ) → searched ≤ length unread → at < length (drop searched unread) →
    get_or (drop searched unread) at 0 ≡ 10
    → ((k : ℕ) → k < at → get_or (drop searched unread) k 0 ≢ 10) → FindsLf searched unread (Some (searched + at))
lf_found searched at unread within high here none = (
  omega arith,
  omega (arith, length-drop searched unread),
  sym (get_or-drop searched unread at 0) ∙ here,
  λ j low below e.
      let back : searched + (j - searched) ≡ j = omega arith in
      none (j - searched) (omega arith) (get_or-drop searched unread (j - searched) 0 ∙ ap (λ (k : ℕ). get_or unread k 0) back ∙ e),
)
