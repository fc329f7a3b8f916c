-- What the words of a link acknowledge, where it may send them, passed; and what it received stays so.
use Rattle.accusing_links.proofs.Prelude.{◌≡◌, ℕ, Bool, true, false, ◌&&◌, ◌||◌, cond, leb, ltb, Option, Some, None, Result, Ok, Err, List, [], ◌∷◌}
use Rattle.accusing_links.proofs.Prelude.{length, refl, sym, subst, arith, ◌⊎◌, inl, inr, not, ◌+◌, ◌-◌, ◌<◌, ◌≤◌, AllByRecursion, leb-true}
use Rattle.accusing_links.proofs.Prelude.{leb-false, AckWord, IsAckWord, SegmentValue, LinkRefusal, WrongSegment, SegmentTooLong, LinkWindowFull}
use Rattle.accusing_links.proofs.Prelude.{LinkOf, Piece, piece_of, is_next_piece, Sending, Late, with_gap, wider, REACH, distance, wire, is_of_data}
use Rattle.accusing_links.proofs.Prelude.{WireSegments, LastSent, LateSent, last_of, all_named, with_last, sending, acks_named, sends_new}
use Rattle.accusing_links.proofs.Prelude.{is_repeat, sends_again, is_new, segment_named, all_named_late, went_on, new_late, sends_late}
use Rattle.accusing_links.proofs.Prelude.{highest_given}
use Rattle.dna_station.specs.declared.link_refusal.LinkRefusal.TheVariants.{WrongAck}
use Rattle.dna_links.specs.WireSegments.{sends_acks, with_new}
use Rattle.dna_links.specs.WireSegments.{sends_segment}
use Rattle.accusing_links.proofs.Answered.{Good, good_ok, good_err, good_check}
use Rattle.accusing_links.proofs.Along.{SentBy, AtOnce, Waited}
use Rattle.accusing_links.proofs.Words.{IsLast, Stands, AllStand, all_named_is, all_late_is}
use Rattle.accusing_links.proofs.Received.{Holds, Received, AreFine}

-- ---- what a word that was sent tells of the last one sent

-- it is at least the number of this word
pub record IsSaid (Q : ℕ → Type 0) (received : ℕ) (pieces : List (Option Piece)) (next : LastSent) (number : ℕ) : Type 0 where
  pub for : ℕ
  pub same : number ≡ wire for
  pub held : Holds for Q received pieces next

module _ (Q : ℕ → Type 0) (received : ℕ) (pieces : List (Option Piece)) (next : LastSent) where
  abbrev pub AreSaid : List AckWord → Type 0
  AreSaid [] = Unit {0}
  AreSaid (word ∷ words) = (is_of_data word.qualifier ≡ true → IsSaid Q received pieces next word.number) × AreSaid words

abbrev pub SaidIn : (ℕ → Type 0) → WireSegments → List AckWord → Type 0
SaidIn Q f words = AreSaid Q f.variables.received f.variables.pieces (last_of f) words

-- Of a word that lies a little below the least number that the last one sent may have been, segments passed almost all around
module _ (least : ℕ) (Q : ℕ → Type 0) where
  abbrev pub IsOnward : ℕ → Type 0
  IsOnward number = 1 ≤ distance number (wire least) → distance number (wire least) ≤ REACH → Q (wire (number + 2048))

  abbrev pub AreOnward : List AckWord → Type 0
  AreOnward [] = Unit {0}
  AreOnward (word ∷ words) = (is_of_data word.qualifier ≡ true → IsOnward word.number) × AreOnward words

-- a word acknowledges nothing yet, or what passed
module _ (least : ℕ) (Q : ℕ → Type 0) where
  module _ (received : ℕ) (pieces : List (Option Piece)) (sent : LastSent) (is : Holds least Q received pieces sent) where
    fine_word : (again : Bool) (next : LastSent) (number : ℕ) → Stands least is.highest number again next → (number ≡ 0) ⊎ Q number
    fine_word again next number stands = go (leb 1 stands.for) refl
      where
        go : (b : Bool) → leb 1 stands.for ≡ b → (number ≡ 0) ⊎ Q number
        go true e = inr (subst Q (sym stands.same) (is.all stands.for (leb-true 1 stands.for e) stands.within))
        go false e = let l = leb-false 1 stands.for e in let s = stands.same in inl (omega (arith, l, s))

    relast : (low : ℕ) (next : LastSent) → IsLast low is.highest next → Holds low Q received pieces next
    relast low next last = record { highest = is.highest; here = is.here; last = last; all = is.all; beyond = is.beyond }

    onward_word : (next : LastSent) (number : ℕ) → number < 4096 → Stands least is.highest number false next → IsOnward least Q number
    onward_word next number small stands near far =
        let from = stands.from refl in
        let same = stands.same in
        let within = stands.within in
        let turn : wire (number + 2048) ≡ wire (least + 2048 - distance number (wire least)) = omega (arith, far) in
        let first : 1 ≤ least + 2048 - distance number (wire least) = omega (arith, far) in
        let most : least + 2048 - distance number (wire least) ≤ is.highest = omega (arith, from, same, within, near, far, small) in
        subst Q (sym turn) (is.all (least + 2048 - distance number (wire least)) first most)

    fine_words : (again : Bool) (next : LastSent) (words : List AckWord) → AllStand is.highest received is.here least again next words →
        AreFine Q words
    fine_words again next [] all = tt
    fine_words again next (word ∷ words) all =
        (λ e. fine_word again next word.number (all.0 e), fine_words again next words all.1)

    said_words : (again : Bool) (next : LastSent) (words : List AckWord) → AllStand is.highest received is.here least again next words →
        AreSaid Q received pieces next words
    said_words again next [] all = tt
    said_words again next (word ∷ words) all = (
      λ e. let stands = all.0 e in record { for = stands.for; same = stands.same; held = relast stands.for next stands.last },
      said_words again next words all.1,
    )

    onward_words : (next : LastSent) (words : List AckWord) → AllByRecursion IsAckWord words →
        AllStand is.highest received is.here least false next words → AreOnward least Q words
    onward_words next [] small all = tt
    onward_words next (word ∷ words) small all =
        (λ e. onward_word next word.number small.0 (all.0 e), onward_words next words small.1 all.1)

    abbrev All : List AckWord → LastSent → Type 0
    All words next = AreFine Q words × Holds least Q received pieces next × AreSaid Q received pieces next words

    named_fine : (again : Bool) (words : List AckWord) (next : LastSent) → AllByRecursion IsAckWord words →
        all_named again received words sent ≡ Some next → All words next
    named_fine again words next small e =
        let all = all_named_is is.highest received is.here least again words sent next small is.last e in
        (fine_words again next words all.0, relast least next all.1, said_words again next words all.0)

    named_onward : (words : List AckWord) (next : LastSent) → AllByRecursion IsAckWord words →
        all_named false received words sent ≡ Some next → AreOnward least Q words
    named_onward words next small e =
        onward_words next words small (all_named_is is.highest received is.here least false words sent next small is.last e).0

    late_fine : (gap : ℕ) (words : List AckWord) (next : LateSent) → AllByRecursion IsAckWord words →
        all_named_late received words (record { sent = sent; gap = gap }) ≡ Some next → All words next.sent
    late_fine gap words next small e =
        let all = all_late_is is.highest received is.here least words (record { sent = sent; gap = gap }) next small is.last e in
        (fine_words true next.sent words all.0, relast least next.sent all.1, said_words true next.sent words all.0)

  abbrev pub IsLeft : List AckWord → WireSegments → Type 0
  IsLeft words f = AreFine Q words × Received least Q f × SaidIn Q f words

  abbrev pub IsSent : List AckWord → Sending WireSegments (Unit {0}) → Type 0
  IsSent words sent = IsLeft words sent.segments

  -- of words alone
  abbrev pub IsAcked : List AckWord → Sending WireSegments (Unit {0}) → Type 0
  IsAcked words sent = AreFine Q words × Received least Q sent.segments × SaidIn Q sent.segments words × AreOnward least Q words

  abbrev pub IsLate : List AckWord → Late WireSegments (Unit {0}) → Type 0
  IsLate words late = IsSent words late.sent

  module _ (f : WireSegments) (is : Received least Q f) where
    pub sends_acks_good : (words : List AckWord) → AllByRecursion IsAckWord words → Good (IsAcked words) (sends_acks words f)
    sends_acks_good words small = go (all_named false f.variables.received words (last_of f)) refl
      where
        go : (o : Option LastSent) → all_named false f.variables.received words (last_of f) ≡ o → Good (IsAcked words) (acks_named o f)
        go None e = good_err (IsAcked words) WrongAck
        go (Some next) e =
            let all = named_fine f.variables.received f.variables.pieces (last_of f) is false words next small e in
            let on = named_onward f.variables.received f.variables.pieces (last_of f) is words next small e in
            good_ok (IsAcked words) (sending (with_last next f)) (all.0, all.1, all.2, on)

    abbrev Next : List AckWord → LastSent → Type 0
    Next words next =
        AreFine Q words × Holds least Q f.variables.received f.variables.pieces next ×
        AreSaid Q f.variables.received f.variables.pieces next words

    new_good : (segsize : ℕ) (p : Piece) (words : List AckWord) (next : LastSent) → Next words next → Good (IsSent words) (sends_new segsize p next f)
    new_good segsize p words next fine =
        good_check (IsSent words) (ltb (length f.variables.outstanding) REACH) LinkWindowFull _ (λ e.
        good_check (IsSent words) (leb (length p.body) segsize) SegmentTooLong _ (λ g.
        good_check (IsSent words) (is_next_piece p f.variables.unsent) WrongSegment _ (λ h.
        good_ok (IsSent words) (sending (with_last next (with_new p f))) fine)))

    again_good : (below : ℕ) (p : Piece) (words : List AckWord) (next : LastSent) → Next words next → Good (IsSent words) (sends_again below p next f)
    again_good below p words next fine =
        good_check (IsSent words) (ltb below REACH && (f.gave_many || ltb below (highest_given f.variables))) WrongSegment _ (λ e.
        good_check (IsSent words) (is_repeat below p f.variables.outstanding) WrongSegment _ (λ g.
        good_ok (IsSent words) (sending (with_last next f)) fine))

    segment_good : (segsize : ℕ) (s : SegmentValue) (o : Option LastSent) → ((next : LastSent) → o ≡ Some next → Next s.acks next) →
        Good (IsSent s.acks) (segment_named o segsize s f)
    segment_good segsize s None each = good_err (IsSent s.acks) WrongAck
    segment_good segsize s (Some next) each = go (is_new s f.variables)
      where
        go : (b : Bool) →
            Good (IsSent s.acks) (cond b (sends_new segsize (piece_of s) next f)
            (sends_again (distance s.number (highest_given f.variables)) (piece_of s) next f))
        go true = new_good segsize (piece_of s) s.acks next (each next refl)
        go false = again_good (distance s.number (highest_given f.variables)) (piece_of s) s.acks next (each next refl)

    sends_segment_good : (segsize : ℕ) (s : SegmentValue) → AllByRecursion IsAckWord s.acks → Good (IsSent s.acks) (sends_segment segsize s f)
    sends_segment_good segsize s small =
        segment_good segsize s (all_named (not (is_new s f.variables)) f.variables.received s.acks (last_of f))
        (λ next e. named_fine f.variables.received f.variables.pieces (last_of f) is (not (is_new s f.variables)) s.acks next small e)

    gap_good : (words : List AckWord) (gap : Sending WireSegments (Unit {0}) → ℕ) (r : Result (Sending WireSegments (Unit {0})) LinkRefusal) →
        Good (IsSent words) r → Good (IsLate words) (with_gap gap r)
    gap_good words gap (Ok sent) good = good_ok (IsLate words) (record { sent = sent; gap = gap sent }) (good sent refl)
    gap_good words gap (Err refusal) good = good_err (IsLate words) refusal

    new_late_good : (segsize : ℕ) (s : SegmentValue) (o : Option LateSent) → ((next : LateSent) → o ≡ Some next → Next s.acks next.sent) →
        Good (IsLate s.acks) (new_late o segsize s f)
    new_late_good segsize s None each = good_err (IsLate s.acks) WrongAck
    new_late_good segsize s (Some next) each =
        gap_good s.acks (λ sent. next.gap) (sends_new segsize (piece_of s) next.sent f)
        (new_good segsize (piece_of s) s.acks next.sent (each next refl))

    sends_late_good : (gap segsize : ℕ) (s : SegmentValue) → AllByRecursion IsAckWord s.acks → Good (IsLate s.acks) (sends_late gap segsize s f)
    sends_late_good gap segsize s small = go (is_new s f.variables)
      where
        go : (b : Bool) →
            Good (IsLate s.acks) (cond b
            (new_late (all_named_late f.variables.received s.acks (record { sent = last_of f; gap = gap })) segsize s f)
            (with_gap (λ sent. wider gap (went_on f sent.segments)) (sends_segment segsize s f)))
        go true =
            new_late_good segsize s (all_named_late f.variables.received s.acks (record { sent = last_of f; gap = gap }))
            (λ next e. late_fine f.variables.received f.variables.pieces (last_of f) is gap s.acks next small e)
        go false =
            gap_good s.acks (λ sent. wider gap (went_on f sent.segments)) (sends_segment segsize s f) (sends_segment_good segsize s small)

  -- what is left where a segment is sent
  pub sent_left : (s : SegmentValue) (l : LinkOf WireSegments) (f : WireSegments) → AllByRecursion IsAckWord s.acks → Received least Q l.segments →
      SentBy s l f → IsLeft s.acks f
  sent_left s l f small is (AtOnce made e) = sends_segment_good l.segments is l.segsize s small made e
  sent_left s l f small is (Waited made e) = sends_late_good l.segments is l.queue.gap l.segsize s small made e
