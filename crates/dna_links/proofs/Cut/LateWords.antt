-- What a link with queues may send of its segments is the same on true numbers and as a node keeps them.
use Rattle.std.proofs.Common.{◌≡◌, ℕ, ◌+◌, ◌-◌, ◌≤◌, Bool, true, false, not, ◌&&◌, ltb, leb, max, cond, Option, Some, None, List, [], ◌∷◌, length}
use Rattle.std.proofs.Common.{Result, Ok, Err, refl, sym, ap, ap₂, ◌∙◌, arith, option_map, subst, leb-true}
use Rattle.std.proofs.lemmas.Bool.{and_parts}
use Rattle.dna_packet.specs.declared.ack_word.AckWord.{AckWord}
use Rattle.dna_packet.specs.Nsp.{SegmentValue}
use Rattle.dna_station.specs.declared.link_refusal.LinkRefusal.{LinkRefusal}
use Rattle.dna_station.specs.declared.link_refusal.LinkRefusal.TheVariants.{WrongSegment, SegmentTooLong, LinkWindowFull}
use Rattle.dna_links.specs.Segmentation.{piece_of, is_next_piece}
use Rattle.dna_links.specs.SegmentBook.{Sending, Late, with_gap, wider, REACH, wire, distance, is_of_data}
use Rattle.dna_links.specs.TrueSegments.{TrueSegments, Numbers, Named, NamedLate, highest_given, highest_received, all_named, acks_named, sends_acks}
use Rattle.dna_links.specs.TrueSegments.{sending, with_number_late, with_first_late, named_late, all_named_late, is_new, is_repeat, sends_new}
use Rattle.dna_links.specs.TrueSegments.{sends_again}
use Rattle.dna_links.specs.TrueSegments.{segment_named, sends_segment, new_late, sends_late, went_on}
use Rattle.dna_links.specs.WireSegments.{WireSegments, LastSent, LateSent}
use Rattle.dna_links.specs.WireSegments as wire
use Rattle.dna_links.specs.CutSegments.{cut, cut_sending, IsOrdered, IsAnswered}
use Rattle.dna_links.proofs.Tables.Outcomes.{checked}
use Rattle.dna_links.proofs.Tables.Words.{AreNamed, names_are}
use Rattle.dna_links.proofs.Tables.Numbers.{distance_ahead}
use Rattle.dna_links.proofs.Cut.SegmentsSending.{sent_of, chosen, ahead_same, one_same, cut_one, new_same, sends_new_same, sends_segment_same}

-- what words name, as a node keeps it
abbrev pub late_in : NamedLate → LateSent
late_in late = record { sent = sent_of late.names.last; gap = late.gap }

abbrev pub cut_late : Result (Late TrueSegments Numbers) LinkRefusal → Result (Late WireSegments (Unit {0})) LinkRefusal
cut_late (Ok late) = Ok (record { sent = cut_one late.sent; gap = late.gap })
cut_late (Err refusal) = Err refusal

number_late : (n : ℕ) (o : Option NamedLate) → option_map late_in (with_number_late n o) ≡ option_map late_in o
number_late n None = refl
number_late n (Some late) = refl

module _ (r : ℕ) where
  abbrev Agree : List AckWord → Type 0
  Agree words = (gap last : ℕ) → last ≤ r → r ≤ last + REACH →
      option_map late_in (all_named_late r words gap last) ≡ wire.all_named_late (wire r) words (record { sent = sent_of last; gap = gap })

  module _ (words : List AckWord) (agree : Agree words) (last : ℕ) (least : last ≤ r) (most : r ≤ last + REACH) (ahead back : ℕ) where
    behind_word : (b c : Bool) → (b ≡ true → ahead ≤ r) → (c ≡ true → back ≤ last) → last ≤ ahead →
        option_map late_in (with_first_late (cond b (Some ahead) (cond c (Some (last - back)) None))
        (λ n. all_named_late r words (last - n) (max last n)))
        ≡ wire.after_first_late (cond b (Some (sent_of (max last ahead))) (cond c (Some (sent_of (max last (last - back)))) None))
        (λ next. wire.all_named_late (wire r) words (record { sent = next; gap = cond b 0 back }))
    behind_word true c high low more =
        let h = high refl in let none : last - ahead ≡ 0 = omega (arith, more) in
        number_late ahead (all_named_late r words (last - ahead) (max last ahead))
        ∙ agree (last - ahead) (max last ahead) (omega (arith, h, least)) (omega (arith, most))
        ∙ ap (λ (gap : ℕ). wire.all_named_late (wire r) words (record { sent = sent_of (max last ahead); gap = gap })) none
    behind_word false true high low more =
        let l = low refl in let same : last - (last - back) ≡ back = omega (arith, l) in
        number_late (last - back) (all_named_late r words (last - (last - back)) (max last (last - back)))
        ∙ agree (last - (last - back)) (max last (last - back)) (omega (arith, least)) (omega (arith, most))
        ∙ ap (λ (gap : ℕ). wire.all_named_late (wire r) words (record { sent = sent_of (max last (last - back)); gap = gap })) same
    behind_word false false high low more = refl

  pub all_late : (words : List AckWord) → Agree words
  all_late [] gap last least most = refl
  all_late (word ∷ words) gap last least most = by_qualifier (is_of_data word.qualifier) (λ g l. all_late words g l)
    where
      first : Agree words →
          option_map late_in (with_first_late (named_late gap last r word.number) (λ n. all_named_late r words (last - n) (max last n)))
          ≡ wire.after_first_late (wire.last_named_late (wire r) word.number (record { sent = sent_of last; gap = gap }))
          (λ next. wire.all_named_late (wire r) words (record { sent = next; gap = wire.gap_at (wire r) word.number (sent_of last) }))
      first agree =
          behind_word words agree last least most (last + distance (wire last) word.number) (distance word.number (wire last))
          (leb (last + distance (wire last) word.number) r)
          (leb (distance word.number (wire last)) gap &&
          (leb (distance word.number (wire last)) REACH && leb (distance word.number (wire last)) last))
          (leb-true (last + distance (wire last) word.number) r)
          (λ c. leb-true (distance word.number (wire last)) last
          (and_parts (leb (distance word.number (wire last)) REACH) (leb (distance word.number (wire last)) last)
          (and_parts (leb (distance word.number (wire last)) gap) _ c).1).1)
          (omega arith)
          ∙ ap₂ (λ (o : Option LastSent) (b : Bool). wire.after_first_late o
          (λ next. wire.all_named_late (wire r) words (record { sent = next; gap = cond b 0 (distance word.number (wire last)) })))
          (sym (chosen (leb (last + distance (wire last) word.number) r)
          (leb (distance word.number (wire last)) gap &&
          (leb (distance word.number (wire last)) REACH && leb (distance word.number (wire last)) last))
          (λ (n : ℕ). sent_of (max last n)) (last + distance (wire last) word.number) (last - distance word.number (wire last)) _ _ refl refl)
          ∙ one_same r last least most (leb (distance word.number (wire last)) gap) word.number)
          (ahead_same r last least most word.number)

      by_qualifier : (b : Bool) → Agree words →
          option_map late_in (cond b (with_first_late (named_late gap last r word.number) (λ n. all_named_late r words (last - n) (max last n)))
          (all_named_late r words gap last))
          ≡ cond b (wire.after_first_late (wire.last_named_late (wire r) word.number (record { sent = sent_of last; gap = gap }))
          (λ next. wire.all_named_late (wire r) words (record { sent = next; gap = wire.gap_at (wire r) word.number (sent_of last) })))
          (wire.all_named_late (wire r) words (record { sent = sent_of last; gap = gap }))
      by_qualifier true agree = first agree
      by_qualifier false agree = agree gap last least most

-- ---- what is sent

gap_same : (g : Sending TrueSegments Numbers → ℕ) (g' : Sending WireSegments (Unit {0}) → ℕ) (r : Result (Sending TrueSegments Numbers) LinkRefusal) →
    ((sent : Sending TrueSegments Numbers) → r ≡ Ok sent → g sent ≡ g' (cut_one sent)) → cut_late (with_gap g r) ≡ with_gap g' (cut_sending r)
gap_same g g' (Ok sent) same = ap (λ (n : ℕ). let late : Result (Late WireSegments (Unit {0})) LinkRefusal =
    Ok (record { sent = cut_one sent; gap = n }) in late) (same sent refl)
gap_same g g' (Err refusal) same = refl

-- the last acknowledgement goes on, through the highest received
pub record GoesOn (f after : TrueSegments) : Type 0 where
  pub more : f.last ≤ after.last
  pub most : after.last ≤ highest_received f

same_Ok : {R : Type 0} (x y : R) → ◌≡◌ {A = Result R LinkRefusal} (Ok x) (Ok y) → x ≡ y
same_Ok x y e = cc

module _ (f : TrueSegments) (ordered : IsOrdered f) (answered : IsAnswered f) where
  went_same : (after : TrueSegments) → GoesOn f after → went_on f after ≡ wire.went_on (cut f) (cut after)
  went_same after g = let more = g.more in let most = g.most in let a = answered in
      sym (distance_ahead f.last after.last more (omega (arith, most, a)))

  pub acks_go_on : (words : List AckWord) (sent : Sending TrueSegments Numbers) → sends_acks words f ≡ Ok sent → GoesOn f sent.segments
  acks_go_on words sent e = go (all_named false (highest_received f) words f.last) refl e
    where
      go : (n : Option Named) → all_named false (highest_received f) words f.last ≡ n → acks_named n f ≡ Ok sent → GoesOn f sent.segments
      go None all e = absurd cc
      go (Some names) all e =
          let n = names_are false (highest_received f) words f.last names ordered.last all in
          subst (λ (x : Sending TrueSegments Numbers). GoesOn f x.segments) (same_Ok (sending 0 names f (record f { last = names.last })) sent e)
          (record { more = n.more; most = n.most })

  segment_goes_on : (segsize : ℕ) (s : SegmentValue) (sent : Sending TrueSegments Numbers) → sends_segment segsize s f ≡ Ok sent →
      GoesOn f sent.segments
  segment_goes_on segsize s sent e = go (all_named (not (is_new s f)) (highest_received f) s.acks f.last) refl e
    where
      kind : (names : Named) → AreNamed s.acks f.last (highest_received f) names → (b : Bool) →
          cond b (sends_new segsize (piece_of s) names f) (sends_again (distance s.number (wire (highest_given f))) (piece_of s) names f) ≡ Ok sent →
          GoesOn f sent.segments
      kind names n true e =
          let a = checked (ltb (highest_given f - f.acknowledged) REACH) LinkWindowFull _ sent e in
          let b = checked (leb (length s.body) segsize) SegmentTooLong _ sent a.1 in
          let c = checked (is_next_piece (piece_of s) f.unsent) WrongSegment _ sent b.1 in
          subst (λ (x : Sending TrueSegments Numbers). GoesOn f x.segments) (same_Ok _ sent c.1) (record { more = n.more; most = n.most })
      kind names n false e =
          let a = checked _ WrongSegment _ sent e in
          let b = checked (is_repeat (highest_given f - distance s.number (wire (highest_given f))) (piece_of s) f) WrongSegment _ sent a.1 in
          subst (λ (x : Sending TrueSegments Numbers). GoesOn f x.segments) (same_Ok _ sent b.1) (record { more = n.more; most = n.most })

      go : (n : Option Named) → all_named (not (is_new s f)) (highest_received f) s.acks f.last ≡ n → segment_named n segsize s f ≡ Ok sent →
          GoesOn f sent.segments
      go None all e = absurd cc
      go (Some names) all e = kind names (names_are (not (is_new s f)) (highest_received f) s.acks f.last names ordered.last all) (is_new s f) e

  -- acknowledgements alone
  pub acks_went : (words : List AckWord) (sent : Sending TrueSegments Numbers) → sends_acks words f ≡ Ok sent →
      went_on f sent.segments ≡ wire.went_on (cut f) (cut sent.segments)
  acks_went words sent e = went_same sent.segments (acks_go_on words sent e)

  new_late_same : (segsize : ℕ) (s : SegmentValue) (o : Option NamedLate) →
      cut_late (new_late o segsize s f) ≡ wire.new_late (option_map late_in o) segsize s (cut f)
  new_late_same segsize s None = refl
  new_late_same segsize s (Some late) =
      gap_same (λ sent. late.gap) (λ sent. late.gap) (sends_new segsize (piece_of s) late.names f) (λ sent e. refl)
      ∙ ap (with_gap (λ sent. late.gap)) (sends_new_same f ordered segsize (piece_of s) late.names)

  pub sends_late_same : (gap segsize : ℕ) (s : SegmentValue) → cut_late (sends_late gap segsize s f) ≡ wire.sends_late gap segsize s (cut f)
  sends_late_same gap segsize s =
      by_new (is_new s f)
      ∙ ap (λ (b : Bool). cond b (wire.new_late (wire.all_named_late (wire (highest_received f)) s.acks (record { sent = sent_of f.last; gap = gap }))
      segsize s (cut f))
      (with_gap (λ sent. wider gap (wire.went_on (cut f) sent.segments)) (wire.sends_segment segsize s (cut f)))) (new_same f ordered s)
    where
      by_new : (b : Bool) →
          cut_late (cond b (new_late (all_named_late (highest_received f) s.acks gap f.last) segsize s f)
          (with_gap (λ sent. wider gap (went_on f sent.segments)) (sends_segment segsize s f)))
          ≡ cond b (wire.new_late
          (wire.all_named_late (wire (highest_received f)) s.acks (record { sent = sent_of f.last; gap = gap })) segsize s (cut f))
          (with_gap (λ sent. wider gap (wire.went_on (cut f) sent.segments)) (wire.sends_segment segsize s (cut f)))
      by_new true =
          new_late_same segsize s (all_named_late (highest_received f) s.acks gap f.last)
          ∙ ap (λ (o : Option LateSent). wire.new_late o segsize s (cut f)) (all_late (highest_received f) s.acks gap f.last ordered.last answered)
      by_new false =
          gap_same (λ sent. wider gap (went_on f sent.segments)) (λ sent. wider gap (wire.went_on (cut f) sent.segments)) (sends_segment segsize s f)
          (λ sent e. ap (wider gap) (went_same sent.segments (segment_goes_on segsize s sent e)))
          ∙ ap (with_gap (λ sent. wider gap (wire.went_on (cut f) sent.segments))) (sends_segment_same f ordered answered segsize s)
