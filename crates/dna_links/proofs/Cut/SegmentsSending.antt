-- Cutting a link's segments to what a node keeps commutes with what may be sent and with what sending changes, where the segments' own numbers are in
-- order and its last acknowledgement is at most 2,047 below the highest received.
use Rattle.std.proofs.Common.{◌≡◌, ℕ, ◌+◌, ◌-◌, ◌<◌, ◌≤◌, max, Bool, true, false, ◌&&◌, ◌||◌, not, eqb, ltb, leb, cond, Option, Some, None, List, []}
use Rattle.std.proofs.Common.{◌∷◌, ◌++◌, length, drop, Result, Ok, refl, sym, ap, ap₂, ◌∙◌, arith, length-drop, option_map, ◌⊎◌, inl, inr}
use Rattle.std.specs.Prelude.{slice_get}
use Rattle.std.proofs.lemmas.List.{drop-append-le, length-append}
use Rattle.std.proofs.lemmas.Bool.{cases_lt, ltb-true, leb-true, le-leb, lt-leb, and_parts}
use Rattle.dna_packet.specs.declared.ack_word.AckWord.{AckWord}
use Rattle.dna_packet.specs.Nsp.{SegmentValue}
use Rattle.dna_station.specs.declared.link_refusal.LinkRefusal.{LinkRefusal}
use Rattle.dna_station.specs.declared.link_refusal.LinkRefusal.TheVariants.{WrongSegment, SegmentTooLong, LinkWindowFull}
use Rattle.dna_links.specs.Segmentation.{Piece, piece_of, is_next_piece, without_piece}
use Rattle.dna_links.specs.SegmentBook.{Sending, REACH, wire, distance, is_of_data}
use Rattle.dna_links.specs.Links.{check}
use Rattle.dna_links.specs.TrueSegments.{TrueSegments, Numbers, Named, highest_given, highest_received, named, with_number, with_first, all_named}
use Rattle.dna_links.specs.TrueSegments.{sending}
use Rattle.dna_links.specs.TrueSegments.{acks_named, sends_acks, sends_new, is_given, is_repeat, sends_again, is_new, segment_named, sends_segment}
use Rattle.dna_links.specs.WireSegments.{WireSegments, LastSent}
use Rattle.dna_links.specs.WireSegments as wire
use Rattle.dna_links.specs.CutSegments.{cut, cut_sending, IsOrdered, IsAnswered}
use Rattle.two_nodes.proofs.NumberedSteps.{slice_get-drop}
use Rattle.dna_links.proofs.Tables.Numbers.{distance_ahead, wire-one, wire_named, same_le, reached_same, low_le_same, low_lt_same}

-- ---- words

-- the last acknowledgement, as a node keeps it
abbrev pub sent_of : ℕ → LastSent
sent_of last = record { last = wire last; is_high = leb REACH last }

abbrev pub last_in : Named → LastSent
last_in names = sent_of names.last

-- an answer of two tests, mapped
pub chosen : (b c : Bool) (f : ℕ → LastSent) (x y : ℕ) (s t : LastSent) → f x ≡ s → f y ≡ t →
    option_map f (cond b (Some x) (cond c (Some y) None)) ≡ cond b (Some s) (cond c (Some t) None)
chosen true c f x y s t first second = ap Some first
chosen false true f x y s t first second = ap Some second
chosen false false f x y s t first second = refl

module _ (r : ℕ) where
  -- a word never names more than what was received
  abbrev IsAtMost : (last : ℕ) → Option ℕ → Type 0
  IsAtMost last None = Unit {0}
  IsAtMost last (Some n) = max last n ≤ r

  module _ (last : ℕ) (least : last ≤ r) (most : r ≤ last + REACH) where
    pub ahead_same : (number : ℕ) → leb (last + distance (wire last) number) r ≡ wire.is_ahead (wire r) number (sent_of last)
    ahead_same number =
        let d = distance_ahead last r least most in
        same_le (last + distance (wire last) number) r (distance (wire last) number) (distance (wire last) (wire r)) (λ l. omega (arith, l, d, least))
        (λ l. omega (arith, l, d, least))

    moved_same : (number : ℕ) → sent_of (max last (last + distance (wire last) number)) ≡ wire.moved_to number (sent_of last)
    moved_same number =
        let e : max last (last + distance (wire last) number) ≡ last + distance (wire last) number = omega arith in
        ap sent_of e ∙ ap₂ (λ (n : ℕ) (b : Bool). let sent : LastSent = record { last = n; is_high = b } in sent) (wire_named last number)
        (reached_same last (distance (wire last) number))

    stays_same : (number : ℕ) → sent_of (max last (last - distance number (wire last))) ≡ sent_of last
    stays_same number = let e : max last (last - distance number (wire last)) ≡ last = omega arith in ap sent_of e

    pub one_same : (again : Bool) (number : ℕ) →
        option_map (λ (n : ℕ). sent_of (max last n)) (named again last r number) ≡ wire.last_named again (wire r)
        number (sent_of last)
    one_same again number =
        chosen (leb (last + distance (wire last) number) r)
        (again && (leb (distance number (wire last)) REACH && leb (distance number (wire last)) last)) (λ (n : ℕ). sent_of (max last n))
        (last + distance (wire last) number) (last - distance number (wire last)) (wire.moved_to number (sent_of last)) (sent_of last)
        (moved_same number) (stays_same number)
        ∙ ap₂ (λ (b c : Bool). cond b (Some (wire.moved_to number (sent_of last))) (cond (again && c) (Some (sent_of last)) None)) (ahead_same number)
        (low_le_same (distance number (wire last)) last)

    chosen_at_most : (b c : Bool) (x y : ℕ) → (b ≡ true → x ≤ r) → y ≤ last → IsAtMost last (cond b (Some x) (cond c (Some y) None))
    chosen_at_most true c x y first second = let l = first refl in omega (arith, l, least)
    chosen_at_most false true x y first second = omega (arith, second, least)
    chosen_at_most false false x y first second = tt

    one_at_most : (again : Bool) (number : ℕ) → IsAtMost last (named again last r number)
    one_at_most again number =
        chosen_at_most (leb (last + distance (wire last) number) r)
        (again && (leb (distance number (wire last)) REACH && leb (distance number (wire last)) last))
        (last + distance (wire last) number) (last - distance number (wire last)) (leb-true (last + distance (wire last) number) r) (omega arith)

  number_same : (n : ℕ) (o : Option Named) → option_map last_in (with_number n o) ≡ option_map last_in o
  number_same n None = refl
  number_same n (Some names) = refl

  -- what the words behind make of the last acknowledgement, on true numbers and as a node keeps it
  abbrev Agree : (ℕ → Option Named) → (LastSent → Option LastSent) → Type 0
  Agree later later' = (last : ℕ) → last ≤ r → r ≤ last + REACH → option_map last_in (later last) ≡ later' (sent_of last)

  after_one : (last : ℕ) (later : ℕ → Option Named) (later' : LastSent → Option LastSent) → Agree later later' → r ≤ last + REACH
      → (o : Option ℕ) → IsAtMost last o → option_map last_in (with_first o (λ n. later (max last n))) ≡ wire.after_first
      (option_map (λ (n : ℕ). sent_of (max last n)) o) later'
  after_one last later later' agree most None at_most = refl
  after_one last later later' agree most (Some n) at_most = number_same n (later (max last n)) ∙ agree (max last n) at_most (omega (arith, most))

  all_same : (again : Bool) (words : List AckWord) → Agree (all_named again r words) (wire.all_named again (wire r) words)
  all_same again [] last least most = refl
  all_same again (word ∷ words) last least most = by_qualifier (is_of_data word.qualifier) (all_same again words)
    where
      by_qualifier : (b : Bool) → Agree (all_named again r words) (wire.all_named again (wire r) words) →
          option_map last_in (cond b (with_first (named again last r word.number) (λ n. all_named again r words (max last n)))
          (all_named again r words last))
          ≡ cond b (wire.after_first (wire.last_named again (wire r) word.number (sent_of last)) (λ next. wire.all_named again (wire r) words next))
          (wire.all_named again (wire r) words (sent_of last))
      by_qualifier true agree =
          after_one last (all_named again r words) (wire.all_named again (wire r) words) agree most (named again last r word.number)
          (one_at_most last least most again word.number)
          ∙ ap (λ (o : Option LastSent). wire.after_first o (λ next. wire.all_named again (wire r) words next))
          (one_same last least most again word.number)
      by_qualifier false agree = agree last least most

-- ---- what is sent

abbrev pub cut_one : Sending TrueSegments Numbers → Sending WireSegments (Unit {0})
cut_one sent = record { segments = cut sent.segments; known = tt }

-- checks alike on both
three_checks : (b c d : Bool) (sent : Sending TrueSegments Numbers) →
    cut_sending (check b LinkWindowFull (check c SegmentTooLong (check d WrongSegment (Ok sent)))) ≡ check b LinkWindowFull
    (check c SegmentTooLong (check d WrongSegment (Ok (cut_one sent))))
three_checks true true true sent = refl
three_checks true true false sent = refl
three_checks true false d sent = refl
three_checks false c d sent = refl

-- the second is alike where the first is passed
two_checks : (b c c' : Bool) (sent : Sending TrueSegments Numbers) → (b ≡ true → c ≡ c') →
    cut_sending (check b WrongSegment (check c WrongSegment (Ok sent))) ≡ check b WrongSegment (check c' WrongSegment (Ok (cut_one sent)))
two_checks false c c' sent same = refl
two_checks true c c' sent same = one_check c ∙ ap (λ (d : Bool). check d WrongSegment (Ok (cut_one sent))) (same refl)
  where
    one_check : (d : Bool) → cut_sending (check true WrongSegment (check d WrongSegment (Ok sent))) ≡ check d WrongSegment (Ok (cut_one sent))
    one_check true = refl
    one_check false = refl

given_same : (o : Option Piece) (p : Piece) → is_given o p ≡ wire.is_given o p
given_same None p = refl
given_same (Some first) p = refl

module _ (f : TrueSegments) (ordered : IsOrdered f) where
  -- as many are kept as are outstanding, and the highest given is known
  outstanding : length (drop f.acknowledged f.given) ≡ highest_given f - f.acknowledged
  outstanding = length-drop f.acknowledged f.given

  highest_same : wire.highest_given (cut f).variables ≡ wire (highest_given f)
  highest_same = let h = outstanding in let l = ordered.given in omega arith

  pub new_same : (s : SegmentValue) → is_new s f ≡ wire.is_new s (cut f).variables
  new_same s = ap (λ n. eqb s.number n) (sym (wire-one (highest_given f))) ∙ ap (λ n. eqb s.number (wire (n + 1))) (sym highest_same)

  -- a new segment: what is kept of it is cut of what is true
  grown : (p : Piece) → drop f.acknowledged (f.given ++ p ∷ []) ≡ drop f.acknowledged f.given ++ p ∷ []
  grown p = drop-append-le f.acknowledged f.given (p ∷ []) ordered.given

  many_same : leb REACH (highest_given f + 1) ≡ ((cut f).gave_many || leb REACH (wire.highest_given (cut f).variables + 1))
  many_same = reached_same (highest_given f) 1 ∙ ap (λ n. leb REACH (highest_given f) || leb REACH (n + 1)) (sym highest_same)

  given_one_more : (p : Piece) → length (f.given ++ p ∷ []) ≡ highest_given f + 1
  given_one_more p = length-append f.given (p ∷ [])

  -- with these segments outstanding, and whether 2,047 are given
  abbrev with_given : Piece → Named → List Piece → Bool → Sending WireSegments (Unit {0})
  with_given p names pieces many =
      wire.sending (wire.with_last (last_in names)
      (record (cut f) { variables = record (cut f).variables { unsent = without_piece p f.unsent; outstanding = pieces }; gave_many = many }))

  abbrev new_checked : (segsize : ℕ) → Piece → Bool → Sending WireSegments (Unit {0}) → Result (Sending WireSegments (Unit {0})) LinkRefusal
  new_checked segsize p room sent =
      check room LinkWindowFull (check (leb (length p.body) segsize) SegmentTooLong (check (is_next_piece p f.unsent) WrongSegment (Ok sent)))

  pub sends_new_same : (segsize : ℕ) (p : Piece) (names : Named) →
      cut_sending (sends_new segsize p names f) ≡ wire.sends_new segsize p (last_in names)
      (cut f)
  sends_new_same segsize p names =
      three_checks (ltb (highest_given f - f.acknowledged) REACH) (leb (length p.body) segsize) (is_next_piece p f.unsent)
      (sending (highest_given f + 1) names f (record f { last = names.last; given = f.given ++ p ∷ []; unsent = without_piece p f.unsent }))
      ∙ ap₂ (λ (n : ℕ) (sent : Sending WireSegments (Unit {0})). new_checked segsize p (ltb n REACH) sent) (sym outstanding)
      (ap₂ (with_given p names) (grown p) (ap (leb REACH) (given_one_more p) ∙ many_same))

  -- a repeat
  below_same : (below : ℕ) →
      (ltb below REACH && ltb below (highest_given f)) ≡ (ltb below REACH && ((cut f).gave_many || ltb below (wire.highest_given (cut f).variables)))
  below_same below = low_lt_same below (highest_given f) ∙ ap (λ n. ltb below REACH && (leb REACH (highest_given f) || ltb below n))
      (sym highest_same)

  repeat_same : (below : ℕ) (p : Piece) → below < highest_given f →
      is_repeat (highest_given f - below) p f ≡ wire.is_repeat below p (cut f).variables.outstanding
  repeat_same below p l = by_place (cases_lt below (length (drop f.acknowledged f.given)))
    where
      by_place : (below < length (drop f.acknowledged f.given)) ⊎ (length (drop f.acknowledged f.given) ≤ below)
          → is_repeat (highest_given f - below) p f ≡ wire.is_repeat below p (cut f).variables.outstanding
      by_place (inr m) =
          let h = outstanding in let g = ordered.given in
          let b = le-leb (highest_given f - below) f.acknowledged (omega arith) in
          let c = le-leb (length (drop f.acknowledged f.given)) below m in cc
      by_place (inl m) =
          let h = outstanding in let g = ordered.given in
          let b = lt-leb (highest_given f - below) f.acknowledged (omega arith) in
          let c = lt-leb (length (drop f.acknowledged f.given)) below m in
          let place : f.acknowledged + (length (drop f.acknowledged f.given) - 1 - below) ≡ highest_given f - below - 1 = omega arith in
          let same : slice_get f.given (highest_given f - below - 1) ≡ slice_get (drop f.acknowledged f.given)
          (length (drop f.acknowledged f.given) - 1 - below) =
          sym (slice_get-drop f.acknowledged (length (drop f.acknowledged f.given) - 1 - below) f.given ∙ ap (slice_get f.given) place) in
          let first = given_same (slice_get f.given (highest_given f - below - 1)) p ∙ ap (λ (o : Option Piece). wire.is_given o p) same in cc

  sends_again_same : (below : ℕ) (p : Piece) (names : Named) → cut_sending (sends_again below p names f) ≡ wire.sends_again below p (last_in names)
      (cut f)
  sends_again_same below p names =
      two_checks (ltb below REACH && ltb below (highest_given f)) (is_repeat (highest_given f - below) p f)
      (wire.is_repeat below p (cut f).variables.outstanding)
      (sending (highest_given f - below) names f (record f { last = names.last }))
      (λ b. repeat_same below p (ltb-true below (highest_given f) (and_parts (ltb below REACH) (ltb below (highest_given f)) b).1))
      ∙ ap (λ (b : Bool). check b WrongSegment
      (check (wire.is_repeat below p (cut f).variables.outstanding) WrongSegment (Ok (wire.sending (wire.with_last (last_in names) (cut f))))))
      (below_same below)

  -- words alone, and a segment with its words
  acks_same : (o : Option Named) → cut_sending (acks_named o f) ≡ wire.acks_named (option_map last_in o) (cut f)
  acks_same None = refl
  acks_same (Some names) = refl

  segment_same : (o : Option Named) (segsize : ℕ) (s : SegmentValue) →
      cut_sending (segment_named o segsize s f) ≡ wire.segment_named (option_map last_in o) segsize s (cut f)
  segment_same None segsize s = refl
  segment_same (Some names) segsize s =
      by_new (is_new s f)
      ∙ ap₂ (λ (b : Bool) (n : ℕ). cond b (wire.sends_new segsize (piece_of s) (last_in names) (cut f))
      (wire.sends_again (distance s.number n) (piece_of s) (last_in names) (cut f)))
      (new_same s) (sym highest_same)
    where
      by_new : (b : Bool) →
          cut_sending (cond b (sends_new segsize (piece_of s) names f)
          (sends_again (distance s.number (wire (highest_given f))) (piece_of s) names f))
          ≡ cond b (wire.sends_new segsize (piece_of s) (last_in names) (cut f))
          (wire.sends_again (distance s.number (wire (highest_given f))) (piece_of s) (last_in names) (cut f))
      by_new true = sends_new_same segsize (piece_of s) names
      by_new false = sends_again_same (distance s.number (wire (highest_given f))) (piece_of s) names

  module _ (answered : IsAnswered f) where
    pub sends_acks_same : (words : List AckWord) → cut_sending (sends_acks words f) ≡ wire.sends_acks words (cut f)
    sends_acks_same words =
        acks_same (all_named false (highest_received f) words f.last)
        ∙ ap (λ (o : Option LastSent). wire.acks_named o (cut f)) (all_same (highest_received f) false words f.last ordered.last answered)

    pub sends_segment_same : (segsize : ℕ) (s : SegmentValue) → cut_sending (sends_segment segsize s f) ≡ wire.sends_segment segsize s (cut f)
    sends_segment_same segsize s =
        segment_same (all_named (not (is_new s f)) (highest_received f) s.acks f.last) segsize s
        ∙ ap (λ (o : Option LastSent). wire.segment_named o segsize s (cut f))
        (all_same (highest_received f) (not (is_new s f)) s.acks f.last ordered.last answered
        ∙ ap (λ (b : Bool). wire.all_named (not b) (wire (highest_received f)) s.acks (sent_of f.last)) (new_same s))
