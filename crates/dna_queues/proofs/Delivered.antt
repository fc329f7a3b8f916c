-- What a link's user was given of its segments no sending looks at, and none changes.
use Rattle.dna_queues.proofs.Prelude.{◌≡◌, ℕ, ◌-◌, ◌&&◌, Bool, true, false, not, nat_le, nat_lt, cond, Option, Some, None, List, Result, Ok, Err}
use Rattle.dna_queues.proofs.Prelude.{refl, sym, ap, ◌∙◌, length, subst, AckWord, SegmentValue, LinkRefusal, WrongSegment, SegmentTooLong}
use Rattle.dna_queues.proofs.Prelude.{LinkWindowFull, Piece, piece_of, is_next_piece, Sending, Late, with_gap, wider, REACH, wire, distance}
use Rattle.dna_queues.proofs.Prelude.{TrueSegments, Numbers, Named, NamedLate, highest_given, highest_received, all_named, all_named_late, is_new}
use Rattle.dna_queues.proofs.Prelude.{is_repeat, sends_new, sends_again, segment_named, sends_segment, sends_late, new_late, went_on, acks_named}
use Rattle.dna_queues.proofs.Prelude.{sends_acks, checked}
use Rattle.dna_queues.proofs.Facts.{passed_check, same_Ok}

-- these messages were delivered, which came in so many segments
abbrev pub given_user : List (List ℕ) → ℕ → TrueSegments → TrueSegments
given_user messages pieces f = record f { delivered = messages; passed = pieces }

abbrev pub sending_of : List (List ℕ) → ℕ → Sending TrueSegments Numbers → Sending TrueSegments Numbers
sending_of messages pieces sent = record { segments = given_user messages pieces sent.segments; known = sent.known }

abbrev pub late_of : List (List ℕ) → ℕ → Late TrueSegments Numbers → Late TrueSegments Numbers
late_of messages pieces late = record { sent = sending_of messages pieces late.sent; gap = late.gap }

pub record Leaves (f g : TrueSegments) : Type 0 where
  pub received : g.received ≡ f.received
  pub delivered : g.delivered ≡ f.delivered
  pub passed : g.passed ≡ f.passed

-- so it does, whatever was delivered
pub record SendsStill (does : TrueSegments → Result (Sending TrueSegments Numbers) LinkRefusal) (f : TrueSegments)
    (sent : Sending TrueSegments Numbers) : Type 0 where
  pub leaves : Leaves f sent.segments
  pub still : (messages : List (List ℕ)) (pieces : ℕ) → does (given_user messages pieces f) ≡ Ok (sending_of messages pieces sent)

new_still : (segsize : ℕ) (p : Piece) (names : Named) (f : TrueSegments) (sent : Sending TrueSegments Numbers) →
    sends_new segsize p names f ≡ Ok sent → SendsStill (sends_new segsize p names) f sent
new_still segsize p names f sent e =
    let a = checked (nat_lt (highest_given f - f.acknowledged) REACH) LinkWindowFull _ sent e in
    let b = checked (nat_le (length p.body) segsize) SegmentTooLong _ sent a.1 in
    let c = checked (is_next_piece p f.unsent) WrongSegment _ sent b.1 in
    subst (SendsStill (sends_new segsize p names) f) (same_Ok _ sent c.1) (record {
      leaves = record { received = refl; delivered = refl; passed = refl };
      still = λ messages pieces. passed_check (nat_lt (highest_given f - f.acknowledged) REACH) LinkWindowFull _ a.0
          ∙ passed_check (nat_le (length p.body) segsize) SegmentTooLong _ b.0
          ∙ passed_check (is_next_piece p f.unsent) WrongSegment _ c.0;
    })

again_still : (below : ℕ) (p : Piece) (names : Named) (f : TrueSegments) (sent : Sending TrueSegments Numbers) →
    sends_again below p names f ≡ Ok sent → SendsStill (sends_again below p names) f sent
again_still below p names f sent e =
    let a = checked (nat_lt below REACH && nat_lt below (highest_given f)) WrongSegment _ sent e in
    let b = checked (is_repeat (highest_given f - below) p f) WrongSegment _ sent a.1 in
    subst (SendsStill (sends_again below p names) f) (same_Ok _ sent b.1) (record {
      leaves = record { received = refl; delivered = refl; passed = refl };
      still = λ messages pieces. passed_check (nat_lt below REACH && nat_lt below (highest_given f)) WrongSegment _ a.0
          ∙ passed_check (is_repeat (highest_given f - below) p f) WrongSegment _ b.0;
    })

named_still : (o : Option Named) (segsize : ℕ) (s : SegmentValue) (f : TrueSegments) (sent : Sending TrueSegments Numbers) → is_new s f ≡ false →
    segment_named o segsize s f ≡ Ok sent → SendsStill (segment_named o segsize s) f sent
named_still None segsize s f sent old e = absurd cc
named_still (Some names) segsize s f sent old e =
    let below = distance s.number (wire (highest_given f)) in
    let r = again_still below (piece_of s) names f sent (sym (ap (λ (b : Bool). of_old b f) old) ∙ e) in
    record { leaves = r.leaves; still = λ messages pieces. ap (λ (b : Bool). of_old b (given_user messages pieces f)) old ∙ r.still messages pieces }
  where
    of_old : Bool → TrueSegments → Result (Sending TrueSegments Numbers) LinkRefusal
    of_old b f = cond b (sends_new segsize (piece_of s) names f) (sends_again (distance s.number (wire (highest_given f))) (piece_of s) names f)

segment_still : (segsize : ℕ) (s : SegmentValue) (f : TrueSegments) (sent : Sending TrueSegments Numbers) → is_new s f ≡ false →
    sends_segment segsize s f ≡ Ok sent → SendsStill (sends_segment segsize s) f sent
segment_still segsize s f sent old e =
    let r = named_still (all_named (not (is_new s f)) (highest_received f) s.acks f.last) segsize s f sent old e in
    record { leaves = r.leaves; still = r.still }

pub acks_still : (acks : List AckWord) (f : TrueSegments) (sent : Sending TrueSegments Numbers) → sends_acks acks f ≡ Ok sent →
    SendsStill (sends_acks acks) f sent
acks_still acks f sent e = go (all_named false (highest_received f) acks f.last) refl e
  where
    go : (o : Option Named) → all_named false (highest_received f) acks f.last ≡ o → acks_named o f ≡ Ok sent → SendsStill (sends_acks acks) f sent
    go None is e = absurd cc
    go (Some names) is e = subst (SendsStill (sends_acks acks) f) (same_Ok _ sent e) (record {
      leaves = record { received = refl; delivered = refl; passed = refl };
      still = λ messages pieces. ap (λ (o : Option Named). acks_named o (given_user messages pieces f)) is;
    })

pub record LateStill (gap segsize : ℕ) (s : SegmentValue) (f : TrueSegments) (late : Late TrueSegments Numbers) : Type 0 where
  pub leaves : Leaves f late.sent.segments
  pub still : (messages : List (List ℕ)) (pieces : ℕ) → sends_late gap segsize s (given_user messages pieces f) ≡ Ok (late_of messages pieces late)

pub late_still : (gap segsize : ℕ) (s : SegmentValue) (f : TrueSegments) (late : Late TrueSegments Numbers) → sends_late gap segsize s f ≡ Ok late →
    LateStill gap segsize s f late
late_still gap segsize s f late e = go (is_new s f) refl e
  where
    same : (x y : Late TrueSegments Numbers) → ◌≡◌ {A = Result (Late TrueSegments Numbers) LinkRefusal} (Ok x) (Ok y) → x ≡ y
    same x y e = cc

    by_new : Bool → TrueSegments → Result (Late TrueSegments Numbers) LinkRefusal
    by_new b f = cond b (new_late (all_named_late (highest_received f) s.acks gap f.last) segsize s f)
        (with_gap (λ sent. wider gap (went_on f sent.segments)) (sends_segment segsize s f))

    of_sent : (of_gap : TrueSegments → Sending TrueSegments Numbers → ℕ)
        (does : TrueSegments → Result (Sending TrueSegments Numbers) LinkRefusal) (r : Result (Sending TrueSegments Numbers) LinkRefusal) →
        does f ≡ r → ((sent : Sending TrueSegments Numbers) → does f ≡ Ok sent → SendsStill does f sent) →
        ((messages : List (List ℕ)) (pieces : ℕ) (sent : Sending TrueSegments Numbers) →
        of_gap (given_user messages pieces f) (sending_of messages pieces sent) ≡ of_gap f sent) →
        ((messages : List (List ℕ)) (pieces : ℕ) → sends_late gap segsize s (given_user messages pieces f)
        ≡ with_gap (of_gap (given_user messages pieces f)) (does (given_user messages pieces f))) →
        with_gap (of_gap f) r ≡ Ok late → LateStill gap segsize s f late
    of_sent of_gap does (Err refusal) is all gaps late_is e = absurd cc
    of_sent of_gap does (Ok sent) is all gaps late_is e =
        let r = all sent is in
        subst (LateStill gap segsize s f) (same _ late e) (record {
          leaves = r.leaves;
          still = λ messages pieces. late_is messages pieces
              ∙ ap (with_gap (of_gap (given_user messages pieces f))) (r.still messages pieces)
              ∙ ap (λ (n : ℕ). Ok (record { sent = sending_of messages pieces sent; gap = n })) (gaps messages pieces sent);
        })

    of_names : (o : Option NamedLate) → all_named_late (highest_received f) s.acks gap f.last ≡ o → is_new s f ≡ true →
        new_late o segsize s f ≡ Ok late → LateStill gap segsize s f late
    of_names None is new e = absurd cc
    of_names (Some names) is new e =
        of_sent (λ g sent. names.gap) (sends_new segsize (piece_of s) names.names) _ refl
        (new_still segsize (piece_of s) names.names f) (λ messages pieces sent. refl)
        (λ messages pieces. ap (λ (b : Bool). by_new b (given_user messages pieces f)) new
        ∙ ap (λ (o : Option NamedLate). new_late o segsize s (given_user messages pieces f)) is) e

    go : (b : Bool) → is_new s f ≡ b → sends_late gap segsize s f ≡ Ok late → LateStill gap segsize s f late
    go true new e = of_names _ refl new (sym (ap (λ (b : Bool). by_new b f) new) ∙ e)
    go false old e =
        of_sent (λ g sent. wider gap (went_on g sent.segments)) (sends_segment segsize s) _ refl
        (λ sent is. segment_still segsize s f sent old is) (λ messages pieces sent. refl)
        (λ messages pieces. ap (λ (b : Bool). by_new b (given_user messages pieces f)) old) (sym (ap (λ (b : Bool). by_new b f) old) ∙ e)
