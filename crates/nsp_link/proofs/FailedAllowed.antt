-- With what is allowed in the place of what is seen, the check is passed that a message or an event did not pass.
use Rattle.std.proofs.Common.{◌≡◌, ℕ, zero, suc, ◌+◌, ◌-◌, ◌<◌, ◌≤◌, Bool, true, false, ◌&&◌, ◌||◌, not, cond, Option, Some, None, List, [], ◌∷◌}
use Rattle.std.proofs.Common.{length, take, refl, sym, ap, ◌∙◌, arith, leb, ltb, eqb, eq-eqb, ne_eqb}
use Rattle.std.specs.Prelude.{slice_get, is_some, min}
use Rattle.std.specs.Str.{bytes_eq}
use Rattle.std.proofs.lemmas.Bool.{leb-true, le-leb, lt-ltb, ltb-true, ltb-false}
use Rattle.std.proofs.lemmas.List.{length-take-le}
use Rattle.std.proofs.lemmas.Slice.Eq.{bytes_eq-Decides}
use Rattle.dna_links.specs.declared.port.LinkTest.{LinkTest}
use Rattle.dna_links.specs.Arriving.{is_for, is_of_pair}
use Rattle.dna_links.specs.SegmentBook.{REACH, distance, wire}
use Rattle.dna_links.specs.Links.{LinkOf, number_of}
use Rattle.dna_links.specs.LookUps.{passes}
use Rattle.dna_links.specs.Segmentation.{Piece, Unsent, Whole, alike, is_next_of, is_next_piece, is_piece_of, same_piece}
use Rattle.dna_links.specs.WireSegments.{LastSent, LateSent, WireSegments, highest_given, is_ahead, is_behind, last_named, last_named_late, moved_to}
use Rattle.dna_links.specs.WireLinks.{WireLinks}
use Rattle.nsp_link.specs.inner.Index.{passes_in}
use Rattle.nsp_link.specs.FailedEvent.{is_whole}
use Rattle.nsp_link.specs.FailedSending.{from_below, front_piece, is_again, is_allowed, may_repeat, segment_numbers, segments_back, word_numbers}
use Rattle.nsp_link.specs.FailedSending.{late_numbers, words_back}
use Rattle.nsp_link.proofs.LookUps.{IsFound, Nowhere, both_true, found}

-- ---- a link

there_by : (test : LinkTest) (links : List (LinkOf WireSegments)) (number : ℕ) (link : LinkOf WireSegments) (r : Option ℕ) →
    IsFound (λ (l : LinkOf WireSegments). passes test l.port) links r → slice_get links number ≡ Some link → passes test link.port ≡ true →
    is_some r ≡ true
there_by test links number link (Some m) is at holds = refl
there_by test links number link None (Nowhere _ none) at holds =
    sym (none number) ∙ ap (passes_in (λ (l : LinkOf WireSegments). passes test l.port)) at ∙ holds

pub link_passes : (test : LinkTest) (s : WireLinks) (number : ℕ) (link : LinkOf WireSegments) → slice_get s.links number ≡ Some link →
    passes test link.port ≡ true → is_some (number_of test s) ≡ true
link_passes test s number link at holds =
    there_by test s.links number link (number_of test s) (found (λ (l : LinkOf WireSegments). passes test l.port) s.links) at holds

-- ---- numbers

or_so : (a b c : Bool) → (b ≡ true → c ≡ true) → (a || b) ≡ true → (a || c) ≡ true
or_so true b c follows e = refl
or_so false b c follows e = follows e

back_is : (lowest count : ℕ) → lowest < 4096 → count ≤ 2047 → distance (wire (lowest + 4096 - count)) lowest ≡ count
back_is lowest count low few = omega (arith, low, few)

again_within : (lowest count number : ℕ) → lowest < 4096 → count ≤ 2047 → is_again (from_below lowest count) lowest number ≡ true →
    distance number lowest ≤ count
again_within lowest count number low few e = by_some (leb 1 count) e where
  by_some : (b : Bool) → is_again (cond b (Some (wire (lowest + 4096 - count))) None) lowest number ≡ true → distance number lowest ≤ count
  by_some true within =
      let h = leb-true (distance number lowest) (distance (wire (lowest + 4096 - count)) lowest) within in
      let same = back_is lowest count low few in
      omega (arith, h, same)
  by_some false within = absurd (cc)

-- ---- acknowledgement words

words_few : (high : Bool) (last : ℕ) → cond high REACH (min REACH last) ≤ 2047
words_few true last = omega arith
words_few false last = omega arith

behind_by : (sent : LastSent) (number : ℕ) → distance number sent.last ≤ words_back sent → is_behind number sent ≡ true
behind_by sent number within = by_high sent.is_high within where
  by_high : (b : Bool) → distance number sent.last ≤ cond b REACH (min REACH sent.last) →
      (leb (distance number sent.last) REACH && (b || leb (distance number sent.last) sent.last)) ≡ true
  by_high true h = both_true (leb (distance number sent.last) REACH) true (le-leb (distance number sent.last) REACH h) refl
  by_high false h =
      both_true (leb (distance number sent.last) REACH) (leb (distance number sent.last) sent.last)
      (le-leb (distance number sent.last) REACH (omega (arith, h))) (le-leb (distance number sent.last) sent.last (omega (arith, h)))

named_by : (a b : Bool) (x y : LastSent) → (a || b) ≡ true → is_some (cond a (Some x) (cond b (Some y) None)) ≡ true
named_by true b x y e = refl
named_by false true x y e = refl
named_by false false x y e = e

pub word_passes : (again : Bool) (received number : ℕ) (sent : LastSent) → sent.last < 4096 →
    is_allowed (word_numbers again received sent) number ≡ true → is_some (last_named again received number sent) ≡ true
word_passes again received number sent low e =
    named_by (is_ahead received number sent) (again && is_behind number sent) (moved_to number sent) sent (either again e) where
      either : (b : Bool) → (is_ahead received number sent
          || is_again (cond b (from_below sent.last (words_back sent)) None) sent.last number) ≡ true →
          (is_ahead received number sent || (b && is_behind number sent)) ≡ true
      either true h =
          or_so (is_ahead received number sent) (is_again (from_below sent.last (words_back sent)) sent.last number) (is_behind number sent)
          (λ again. behind_by sent number (again_within sent.last (words_back sent) number low (words_few sent.is_high sent.last) again)) h
      either false h = h

-- with queues
both_few : (gap back : ℕ) → back ≤ 2047 → min gap back ≤ 2047
both_few gap back few = omega (arith, few)

pub late_passes : (received number : ℕ) (late : LateSent) → late.sent.last < 4096 →
    is_allowed (late_numbers received late) number ≡ true → is_some (last_named_late received number late) ≡ true
late_passes received number late low e =
    named_by (is_ahead received number late.sent) (leb (distance number late.sent.last) late.gap && is_behind number late.sent)
    (moved_to number late.sent) late.sent
    (or_so (is_ahead received number late.sent) (is_again (from_below late.sent.last (min late.gap (words_back late.sent))) late.sent.last number)
    (leb (distance number late.sent.last) late.gap && is_behind number late.sent) (λ again. behind again) e)
  where
    behind : is_again (from_below late.sent.last (min late.gap (words_back late.sent))) late.sent.last number ≡ true →
        (leb (distance number late.sent.last) late.gap && is_behind number late.sent) ≡ true
    behind again =
        let within = again_within late.sent.last (min late.gap (words_back late.sent)) number low
        (both_few late.gap (words_back late.sent) (words_few late.sent.is_high late.sent.last)) again in
        both_true (leb (distance number late.sent.last) late.gap) (is_behind number late.sent)
        (le-leb (distance number late.sent.last) late.gap (omega (arith, within)))
        (behind_by late.sent number (omega (arith, within)))

-- ---- segments

first_is : (lowest number : ℕ) → lowest < 4096 → number < 4096 → distance lowest number ≤ distance lowest lowest → number ≡ lowest
first_is lowest number low small h = omega (arith, low, small, h)

past_is : (highest number back : ℕ) → highest < 4096 → number < 4096 → distance number (wire (highest + 1)) ≤ back →
    back ≤ distance number highest → number ≡ wire (highest + 1)
past_is highest number back low small h k = omega (arith, low, small, h, k)

repeat_by : (f : WireSegments) (below : ℕ) → below < segments_back f → may_repeat below f ≡ true
repeat_by f below within = by_many f.gave_many within where
  by_many : (b : Bool) → below < cond b REACH (min REACH (highest_given f.variables)) →
      (ltb below REACH && (b || ltb below (highest_given f.variables))) ≡ true
  by_many true h = both_true (ltb below REACH) true (lt-ltb below REACH h) refl
  by_many false h =
      both_true (ltb below REACH) (ltb below (highest_given f.variables)) (lt-ltb below REACH (omega (arith, h)))
      (lt-ltb below (highest_given f.variables) (omega (arith, h)))

wire_small : (n : ℕ) → wire n < 4096
wire_small n = omega arith

module _ (f : WireSegments) (number : ℕ) (small : number < 4096) where
  abbrev highest : ℕ
  highest = highest_given f.variables

  abbrev next : ℕ
  next = wire (highest + 1)

  below_by : (b : Bool) → ltb (distance number highest) (segments_back f) ≡ b → (number ≡ next → ⊥) → distance number next ≤ segments_back f →
      may_repeat (distance number highest) f ≡ true
  below_by true e differs within = repeat_by f (distance number highest) (ltb-true (distance number highest) (segments_back f) e)
  below_by false e differs within =
      absurd (differs (past_is highest number (segments_back f) (wire_small (f.variables.acknowledged + length f.variables.outstanding)) small within
      (ltb-false (distance number highest) (segments_back f) e)))

  first_by : (b : Bool) → leb (distance next number) (distance next next) ≡ b → (number ≡ next → ⊥) →
      (b || is_again (from_below next (segments_back f)) next number) ≡ true → may_repeat (distance number highest) f ≡ true
  first_by true is differs h =
      absurd (differs (first_is next number (wire_small (highest + 1)) small (leb-true (distance next number) (distance next next) is)))
  first_by false is differs h =
      below_by (ltb (distance number highest) (segments_back f)) refl differs
      (again_within next (segments_back f) number (wire_small (highest + 1)) (words_few f.gave_many highest) h)

pub segment_passes : (f : WireSegments) (number : ℕ) → number < 4096 → is_allowed (segment_numbers f) number ≡ true →
    (number ≡ wire (highest_given f.variables + 1) → ⊥) → may_repeat (distance number (highest_given f.variables)) f ≡ true
segment_passes f number small e differs =
    first_by f number small
    (leb (distance (wire (highest_given f.variables + 1)) number)
    (distance (wire (highest_given f.variables + 1)) (wire (highest_given f.variables + 1)))) refl
    differs e

-- ---- pieces

alike_same : (b : Bool) → alike b b ≡ true
alike_same true = refl
alike_same false = refl

same_bytes : (bytes : List ℕ) → bytes_eq bytes bytes ≡ true
same_bytes bytes = (bytes_eq-Decides bytes bytes).1 refl

pub first_passes : (first : Piece) → same_piece first first ≡ true
first_passes first =
    both_true (alike first.begins first.begins) (alike first.ends first.ends && bytes_eq first.body first.body) (alike_same first.begins)
    (both_true (alike first.ends first.ends) (bytes_eq first.body first.body) (alike_same first.ends) (same_bytes first.body))

some_or : (count left : ℕ) → (count ≡ 0 → left ≡ 0) → (not (eqb count 0) || eqb left 0) ≡ true
some_or zero left follows = eq-eqb left 0 (follows refl)
some_or (suc count) left follows =
    ap (λ (b : Bool). not b || eqb left 0) (ne_eqb (suc count) 0 (λ none. absurd (omega (arith, none))))

four_true : (a b c d : Bool) → a ≡ true → b ≡ true → c ≡ true → d ≡ true → (a && (b && (c && d))) ≡ true
four_true a b c d ea eb ec ed = both_true a (b && (c && d)) ea (both_true b (c && d) eb (both_true c d ec ed))

piece_passes : (begun : Bool) (rest : List ℕ) (count : ℕ) → count ≤ length rest → (count ≡ 0 → length rest ≡ 0) →
    is_piece_of (front_piece begun count rest) begun rest ≡ true
piece_passes begun rest count fits some =
    let long : length (take count rest) ≡ count = length-take-le count rest fits in
    four_true (bytes_eq (take count rest) (take (length (take count rest)) rest)) (alike (not begun) (not begun))
    (alike (eqb count (length rest)) (eqb (length (take count rest)) (length rest)))
    (not (eqb (length (take count rest)) 0) || eqb (length rest) 0)
    ((bytes_eq-Decides (take count rest) (take (length (take count rest)) rest)).1 (sym (ap (λ (n : ℕ). take n rest) long)))
    (alike_same (not begun))
    (ap (λ (n : ℕ). alike (eqb count (length rest)) (eqb n (length rest))) long ∙ alike_same (eqb count (length rest)))
    (ap (λ (n : ℕ). not (eqb n 0) || eqb (length rest) 0) long ∙ some_or count (length rest) some)

next_by : (begun : Bool) (messages : List (List ℕ)) (rest : List ℕ) (count : ℕ) → slice_get messages 0 ≡ Some rest → count ≤ length rest →
    (count ≡ 0 → length rest ≡ 0) → is_next_of (front_piece begun count rest) begun messages ≡ true
next_by begun [] rest count at fits some = absurd (cc)
next_by begun (first ∷ later) rest count at fits some =
    let same : first ≡ rest = cc in
    ap (λ (whole : List ℕ). is_piece_of (front_piece begun count rest) begun whole) same ∙ piece_passes begun rest count fits some

pub next_passes : (u : Unsent) (rest : List ℕ) (count : ℕ) → slice_get u.messages 0 ≡ Some rest → count ≤ length rest →
    (count ≡ 0 → length rest ≡ 0) → is_next_piece (front_piece u.begun count rest) u ≡ true
next_passes u rest count at fits some = next_by u.begun u.messages rest count at fits some

pub room_passes : (f : WireSegments) → length f.variables.outstanding ≤ 2046 → ltb (length f.variables.outstanding) REACH ≡ true
room_passes f few = lt-ltb (length f.variables.outstanding) REACH (omega (arith, few))

-- ---- partners, and what is delivered

same_number : (n : ℕ) → eqb n n ≡ true
same_number n = eq-eqb n n refl

pub call_passes : (number other : ℕ) → is_for number (record { link = Some other; partner = Some number }) ≡ true
call_passes number other = same_number number

pub pair_passes : (number partner : ℕ) → is_of_pair number (Some partner) (record { link = Some partner; partner = Some number }) ≡ true
pair_passes number partner = both_true (eqb partner partner) (eqb number number) (same_number partner) (same_number number)

pub whole_passes : (w : Whole) → is_whole w.message (Some w) ≡ true
whole_passes w = same_bytes w.message
