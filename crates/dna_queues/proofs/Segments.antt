-- What a link may send of its numbers it may also send where more was received and acknowledged, and more was handed in.
use Rattle.dna_queues.proofs.Prelude.{◌≡◌, ℕ, ◌+◌, ◌-◌, ◌≤◌, Bool, true, false, ◌&&◌, ◌||◌, not, nat_le, nat_lt, cond, Option, Some, None, List, []}
use Rattle.dna_queues.proofs.Prelude.{◌∷◌, ◌++◌, length, Result, Ok, Err, refl, sym, ap, ap₂, ◌∙◌, subst, arith, ltb-true, slice_get}
use Rattle.dna_queues.proofs.Prelude.{AllByRecursion, AckWord, IsAckWord, SegmentValue, LinkRefusal, WrongSegment, WrongAck, SegmentTooLong}
use Rattle.dna_queues.proofs.Prelude.{LinkWindowFull, Piece, piece_of, Unsent, with_message, is_next_piece, without_piece, left_of, Sending, Late}
use Rattle.dna_queues.proofs.Prelude.{with_gap, wider, REACH, wire, distance, TrueSegments, Numbers, Named, NamedLate, highest_received}
use Rattle.dna_queues.proofs.Prelude.{highest_given, all_named, all_named_late, is_new, sends_new, sends_again, segment_named, is_repeat}
use Rattle.dna_queues.proofs.Prelude.{sends_segment, sends_late, sends_acks, acks_named, new_late, went_on, is_given, sending, checked}
use Rattle.dna_queues.proofs.Facts.{passed_check}
use Rattle.dna_queues.proofs.Words.{added, Grown, Carries, names_grow, late_grow}

-- ---- pieces

next_grows : (more : Option (List ℕ)) (p : Piece) (u : Unsent) → is_next_piece p u ≡ true → is_next_piece p (added more u) ≡ true
next_grows None p u e = e
next_grows (Some message) p u e = go u.messages e
  where
    go : (messages : List (List ℕ)) → is_next_piece p (record u { messages = messages }) ≡ true →
        is_next_piece p (record u { messages = messages ++ message ∷ [] }) ≡ true
    go [] e = absurd cc
    go (rest ∷ later) e = e

left_grows : (more : Option (List ℕ)) (p : Piece) (u : Unsent) → is_next_piece p u ≡ true →
    without_piece p (added more u) ≡ added more (without_piece p u)
left_grows None p u e = refl
left_grows (Some message) p u e = go u.messages e
  where
    go : (messages : List (List ℕ)) → is_next_piece p (record u { messages = messages }) ≡ true →
        left_of p (messages ++ message ∷ []) ≡ with_message message (left_of p messages)
    go [] e = absurd cc
    go (rest ∷ later) e = by p.ends
      where
        by : (b : Bool) → left_of (record p { ends = b }) ((rest ∷ later) ++ message ∷ [])
            ≡ with_message message (left_of (record p { ends = b }) (rest ∷ later))
        by true = refl
        by false = refl

-- ---- what is sent

abbrev repeated : Option Named → SegmentValue → TrueSegments → Result (Sending TrueSegments Numbers) LinkRefusal
repeated None s f = Err WrongAck
repeated (Some names) s f = sends_again (distance s.number (wire (highest_given f))) (piece_of s) names f

old_is : (segsize : ℕ) (s : SegmentValue) (f : TrueSegments) → is_new s f ≡ false →
    sends_segment segsize s f ≡ repeated (all_named true (highest_received f) s.acks f.last) s f
old_is segsize s f old =
    ap (λ (b : Bool). segment_named (all_named (not b) (highest_received f) s.acks f.last) segsize s f) old ∙ go _
  where
    go : (o : Option Named) → segment_named o segsize s f ≡ repeated o s f
    go None = refl
    go (Some names) = ap (λ (b : Bool). cond b (sends_new segsize (piece_of s) names f)
        (sends_again (distance s.number (wire (highest_given f))) (piece_of s) names f)) old

module _ (more : Option (List ℕ)) (f g : TrueSegments) (grown : Grown more f g) where
  pub record Sends (sent : Sending TrueSegments Numbers) (does : Result (Sending TrueSegments Numbers) LinkRefusal) : Type 0 where
    pub made : Sending TrueSegments Numbers
    pub is : does ≡ Ok made
    pub grows : Grown more sent.segments made.segments
    pub carries : Carries f sent.segments
    pub carried : Carries g made.segments

  new_grows : (segsize : ℕ) (p : Piece) (names : Named) (sent : Sending TrueSegments Numbers) → f.last ≤ names.last →
      sends_new segsize p names f ≡ Ok sent → Sends sent (sends_new segsize p names g)
  new_grows segsize p names sent further e =
      let a = checked (nat_lt (highest_given f - f.acknowledged) REACH) LinkWindowFull _ sent e in
      let b = checked (nat_le (length p.body) segsize) SegmentTooLong _ sent a.1 in
      let c = checked (is_next_piece p f.unsent) WrongSegment _ sent b.1 in
      let few : highest_given f - f.acknowledged ≤ 2046 = let l = ltb-true _ _ a.0 in omega (arith, l) in
      let count : length g.given ≡ length f.given = ap length grown.given in
      let acks = grown.acknowledged in
      let got = grown.received in let near = grown.answered in let last = grown.last in
      let left : TrueSegments = record f { last = names.last; given = f.given ++ p ∷ []; unsent = without_piece p f.unsent } in
      let is : sending (highest_given f + 1) names f left ≡ sent = cc in
      subst (λ (x : Sending TrueSegments Numbers). Sends x (sends_new segsize p names g)) is (record {
        made = sending (highest_given g + 1) names g
            (record g { last = names.last; given = g.given ++ p ∷ []; unsent = without_piece p g.unsent });
        is = passed_check (nat_lt (highest_given g - g.acknowledged) REACH) LinkWindowFull _ (grind (arith, few, count, acks))
            ∙ passed_check (nat_le (length p.body) segsize) SegmentTooLong _ b.0
            ∙ passed_check (is_next_piece p g.unsent) WrongSegment _
            (ap (is_next_piece p) grown.unsent ∙ next_grows more p f.unsent c.0);
        grows = record {
          given = ap (λ (ps : List Piece). ps ++ p ∷ []) grown.given;
          last = refl;
          received = grown.received;
          acknowledged = grown.acknowledged;
          unsent = ap (without_piece p) grown.unsent ∙ left_grows more p f.unsent c.0;
          answered = omega (arith, near, last, further);
        };
        carries = record { received = refl; acknowledged = refl; passed = refl; last = further };
        carried = record { received = refl; acknowledged = refl; passed = refl; last = omega (arith, last, further) };
      })

  again_grows : (segsize below : ℕ) (p : Piece) (names : Named) (sent : Sending TrueSegments Numbers) → f.last ≤ names.last →
      sends_again below p names f ≡ Ok sent → Sends sent (sends_again below p names g)
  again_grows segsize below p names sent further e =
      let a = checked (nat_lt below REACH && nat_lt below (highest_given f)) WrongSegment _ sent e in
      let b = checked (is_repeat (highest_given f - below) p f) WrongSegment _ sent a.1 in
      let count : length g.given ≡ length f.given = ap length grown.given in
      let near = grown.answered in let last = grown.last in
      let is : sending (highest_given f - below) names f (record f { last = names.last }) ≡ sent = cc in
      subst (λ (x : Sending TrueSegments Numbers). Sends x (sends_again below p names g)) is (record {
        made = sending (highest_given g - below) names g (record g { last = names.last });
        is = passed_check (nat_lt below REACH && nat_lt below (highest_given g)) WrongSegment _
            (ap (λ (n : ℕ). nat_lt below REACH && nat_lt below n) count ∙ a.0)
            ∙ passed_check (is_repeat (highest_given g - below) p g) WrongSegment _
            (ap (λ (ps : List Piece). is_repeat (length ps - below) p (record g { given = ps })) grown.given
            ∙ acknowledged_more f.acknowledged g.acknowledged (highest_given f - below) (is_given (slice_get f.given (highest_given f - below -
            1)) p)
            grown.acknowledged b.0);
        grows = record {
          given = grown.given;
          last = refl;
          received = grown.received;
          acknowledged = grown.acknowledged;
          unsent = grown.unsent;
          answered = omega (arith, near, last, further);
        };
        carries = record { received = refl; acknowledged = refl; passed = refl; last = further };
        carried = record { received = refl; acknowledged = refl; passed = refl; last = omega (arith, last, further) };
      })
    where
      acknowledged_more : (low high number : ℕ) (given : Bool) → low ≤ high → (nat_le number low || given) ≡ true →
          (nat_le number high || given) ≡ true
      acknowledged_more low high number given more e = grind arith

  pub acks_grow : (acks : List AckWord) (sent : Sending TrueSegments Numbers) → AllByRecursion IsAckWord acks → sends_acks acks f ≡ Ok sent →
      Sends sent (sends_acks acks g)
  acks_grow acks sent words e = go _ refl e
    where
      go : (o : Option Named) → all_named false (highest_received f) acks f.last ≡ o → acks_named o f ≡ Ok sent → Sends sent (sends_acks acks g)
      go None all e = absurd cc
      go (Some names) all e =
          let near = grown.answered in let last = grown.last in
          let r = names_grow (highest_received f) (highest_received g) grown.received false acks f.last names words (omega (
            arith,
            near,
            last,
          )) all in
          let further = r.further in
          let is : sending 0 names f (record f { last = names.last }) ≡ sent = cc in
          subst (λ (x : Sending TrueSegments Numbers). Sends x (sends_acks acks g)) is (record {
            made = sending 0 names g (record g { last = names.last });
            is = ap (λ (n : ℕ). acks_named (all_named false (highest_received g) acks n) g) grown.last
                ∙ ap (λ (o : Option Named). acks_named o g) r.is;
            grows = record {
              given = grown.given;
              last = refl;
              received = grown.received;
              acknowledged = grown.acknowledged;
              unsent = grown.unsent;
              answered = omega (arith, near, last, further);
            };
            carries = record { received = refl; acknowledged = refl; passed = refl; last = further };
            carried = record { received = refl; acknowledged = refl; passed = refl; last = omega (arith, last, further) };
          })

  again_words : (segsize : ℕ) (s : SegmentValue) (sent : Sending TrueSegments Numbers) → AllByRecursion IsAckWord s.acks → (o : Option Named) →
      all_named true (highest_received f) s.acks f.last ≡ o → repeated o s f ≡ Ok sent →
      Sends sent (repeated (all_named true (highest_received g) s.acks g.last) s g)
  again_words segsize s sent words None all e = absurd cc
  again_words segsize s sent words (Some names) all e =
      let near = grown.answered in let last = grown.last in
      let r = names_grow (highest_received f) (highest_received g) grown.received true s.acks f.last names words (omega (arith, near, last)) all in
      subst (λ (x : Result (Sending TrueSegments Numbers) LinkRefusal). Sends sent x)
      (sym (ap (λ (n : ℕ). repeated (all_named true (highest_received g) s.acks n) s g) grown.last ∙ ap (λ (o : Option Named). repeated o s g) r.is
      ∙ ap (λ (ps : List Piece). sends_again (distance s.number (wire (length ps))) (piece_of s) names g) grown.given))
      (again_grows segsize (distance s.number (wire (highest_given f))) (piece_of s) names sent r.further e)

  -- a segment, with queues
  pub record SendsLate (gap segsize : ℕ) (s : SegmentValue) (late : Late TrueSegments Numbers) : Type 0 where
    pub made : Late TrueSegments Numbers
    pub is : sends_late gap segsize s g ≡ Ok made
    pub same_gap : made.gap ≡ late.gap
    pub grows : Grown more late.sent.segments made.sent.segments
    pub carries : Carries f late.sent.segments
    pub carried : Carries g made.sent.segments

  with_gaps : (gap segsize : ℕ) (s : SegmentValue) (late : Late TrueSegments Numbers) (gap_f gap_g : Sending TrueSegments Numbers → ℕ)
      (does : Result (Sending TrueSegments Numbers) LinkRefusal) → sends_late gap segsize s g ≡ with_gap gap_g does →
      ((sent made : Sending TrueSegments Numbers) → made.segments.last ≡ sent.segments.last → gap_g made ≡ gap_f sent) →
      (r : Result (Sending TrueSegments Numbers) LinkRefusal) → with_gap gap_f r ≡ Ok late →
      ((sent : Sending TrueSegments Numbers) → r ≡ Ok sent → Sends sent does) → SendsLate gap segsize s late
  with_gaps gap segsize s late gap_f gap_g does is same (Err refusal) e sends = absurd cc
  with_gaps gap segsize s late gap_f gap_g does is same (Ok sent) e sends =
      let x = sends sent refl in
      let l : record { sent = sent; gap = gap_f sent } ≡ late = cc in
      subst (SendsLate gap segsize s) l (record {
        made = record { sent = x.made; gap = gap_g x.made };
        is = is ∙ ap (with_gap gap_g) x.is;
        same_gap = same sent x.made x.grows.last;
        grows = x.grows;
        carries = x.carries;
        carried = x.carried;
      })

  pub late_grows : (gap segsize : ℕ) (s : SegmentValue) (late : Late TrueSegments Numbers) → AllByRecursion IsAckWord s.acks →
      sends_late gap segsize s f ≡ Ok late → SendsLate gap segsize s late
  late_grows gap segsize s late words e = go (is_new s f) refl e
    where
      same_new : is_new s g ≡ is_new s f
      same_new = ap (λ (ps : List Piece). is_new s (record g { given = ps })) grown.given

      of_new : is_new s f ≡ true → (o : Option NamedLate) → all_named_late (highest_received f) s.acks gap f.last ≡ o →
          new_late o segsize s f ≡ Ok late → SendsLate gap segsize s late
      of_new new None all e = absurd cc
      of_new new (Some names) all e =
          let near = grown.answered in let last = grown.last in
          let r = late_grow (highest_received f) (highest_received g) grown.received s.acks gap f.last names words (omega (arith, near, last)) all in
          with_gaps gap segsize s late (λ sent. names.gap) (λ sent. names.gap) (sends_new segsize (piece_of s) names.names g)
          (ap (λ (b : Bool). cond b (new_late (all_named_late (highest_received g) s.acks gap g.last) segsize s g)
          (with_gap (λ sent. wider gap (went_on g sent.segments)) (sends_segment segsize s g))) (same_new ∙ new)
          ∙ ap (λ (n : ℕ). new_late (all_named_late (highest_received g) s.acks gap n) segsize s g) grown.last
          ∙ ap (λ (o : Option NamedLate). new_late o segsize s g) r.is)
          (λ sent made same. refl)
          (sends_new segsize (piece_of s) names.names f) e
          (λ sent is. new_grows segsize (piece_of s) names.names sent r.further is)

      go : (b : Bool) → is_new s f ≡ b →
          cond b (new_late (all_named_late (highest_received f) s.acks gap f.last) segsize s f)
          (with_gap (λ sent. wider gap (went_on f sent.segments)) (sends_segment segsize s f)) ≡ Ok late → SendsLate gap segsize s late
      go true new e = of_new new _ refl e
      go false old e =
          with_gaps gap segsize s late (λ sent. wider gap (went_on f sent.segments)) (λ sent. wider gap (went_on g sent.segments))
          (repeated (all_named true (highest_received g) s.acks g.last) s g)
          (ap (λ (b : Bool). cond b (new_late (all_named_late (highest_received g) s.acks gap g.last) segsize s g)
          (with_gap (λ sent. wider gap (went_on g sent.segments)) (sends_segment segsize s g))) (same_new ∙ old)
          ∙ ap (with_gap (λ sent. wider gap (went_on g sent.segments))) (old_is segsize s g (same_new ∙ old)))
          (λ sent made same. ap₂ (λ (a b : ℕ). wider gap (a - b)) same grown.last)
          (sends_segment segsize s f) e
          (λ sent is. again_words segsize s sent words _ refl (sym (old_is segsize s f old) ∙ is))
