-- A permit is given for a segment or an acknowledgement where the table allows it, and a check is named where it refuses.
use Rattle.std.proofs.Common.{◌≡◌, ℕ, ◌-◌, ◌<◌, Bool, true, false, ◌&&◌, ◌||◌, cond, Option, Some, None, List, length, refl, sym, subst, ap}
use Rattle.std.proofs.Common.{arith, ltb, leb}
use Rattle.std.proofs.lemmas.Bool.{leb-false}
use Rattle.std.proofs.lemmas.Option.{slice_get_within}
use Rattle.std.specs.Prelude.{slice_get, Result, Ok, Err}
use Rattle.dna_packet.specs.Nsp.{SegmentValue}
use Rattle.dna_packet.specs.declared.ack_word.AckWord.{AckWord}
use Rattle.dna_station.specs.declared.link_refusal.LinkRefusal.{LinkRefusal}
use Rattle.dna_station.specs.declared.link_refusal.LinkRefusal.TheVariants.{NoLink, LinkState, WrongSegment}
use Rattle.dna_links.specs.declared.queue.Queues.{Queues}
use Rattle.dna_links.specs.declared.queue.Queues.TheVariants.{Without, With}
use Rattle.dna_links.specs.declared.port.LinkTest.{LinkTest}
use Rattle.dna_links.specs.declared.port.Phase.{Phase}
use Rattle.dna_links.specs.SegmentBook.{REACH, distance, Sending, Late, with_gap, wider}
use Rattle.dna_links.specs.Links.{LinkOf, check, at_number, on_link}
use Rattle.dna_links.specs.LinkBook.{on_ok}
use Rattle.dna_links.specs.Queues.{with_in_use, may_send}
use Rattle.dna_links.specs.Segmentation.{Piece, piece_of, same_piece, is_next_piece}
use Rattle.dna_links.specs.Sending.{Sent}
use Rattle.dna_links.specs.WireSegments.{WireSegments, LastSent, all_named, last_of, is_new, highest_given, is_given, LateSent}
use Rattle.dna_links.specs.WireSegments.{all_named_late, is_repeat, new_late, sends_late, went_on, sends_acks, sends_new, sends_again}
use Rattle.dna_links.specs.WireSegments.{sends_segment, sending, with_last, with_new, wire_segments}
use Rattle.dna_links.specs.WireLinks.{WireLinks}
use Rattle.dna_links.specs.inner.Forms.{of_no_link}
use Rattle.nsp_link.specs.Missing.{missing}
use Rattle.nsp_link.specs.FailedSending.{unless, then_asked, asked_words, asked_late, asked_acks, asked_new, asked_given, asked_repeat}
use Rattle.nsp_link.specs.FailedSending.{asked_below, asked_again, asked_segment, asked_segment_late, asked_in_turn, refusal_of_sending}
use Rattle.nsp_link.specs.FailedSending.{shape_of, next_in, segment_numbers, out_of_turn}
use Rattle.nsp_link.specs.declared.failed.FailedLinkSending.{FailedLinkSending}
use Rattle.nsp_link.specs.declared.failed.FailedLinkSending.TheVariants.{Room, Length, NextPiece, Number, AsFirstGiven, Live}
use Rattle.nsp_link.specs.declared.failed.FailedLinkSending.TheVariants.{NoLink as Unfound}
use Rattle.nsp_link.specs.declared.permit.LinkSendPermit.{LinkSendPermit}
use Rattle.nsp_link.specs.declared.permit.LinkSendPermit.TheVariants.{OfNoLink, GoesOn, Gives}
use Rattle.nsp_link.specs.inner.Permitted.{Fits, at_link, permitted}
use Rattle.nsp_link.specs.inner.Rows.{number_in_use}
use Rattle.nsp_link.proofs.Agreeing.{Agrees as AgreesBy, at_agrees as at_by, unless_agrees as unless_by, use_agrees as use_by}
use Rattle.nsp_link.proofs.Found.{some_there}
use Rattle.nsp_link.proofs.FailedWords.{SameWords, Fails, Passes, words_same, SameLate, Late_word, InTime, late_same, Numbered, after_words}
use Rattle.nsp_link.proofs.FailedWords.{sends_as, acks_as, gap_ok}

abbrev pub Made : Type 0
Made = Result (Sent WireSegments (Unit {0})) LinkRefusal

abbrev pub allowed_as : Sent WireSegments (Unit {0}) → Made
allowed_as sent = Ok sent

abbrev pub Answer : Type 0
Answer = Result LinkSendPermit FailedLinkSending

module _ (queues : Queues) (o : Option SegmentValue) (memory : Bool) (s : WireLinks) where
  abbrev pub Agrees : Answer → Made → Type 0
  Agrees = AgreesBy (Fits o memory s) (permitted queues o s) refusal_of_sending

  abbrev AgreeAt : ℕ → (ℕ → LinkOf WireSegments → Answer) → (ℕ → LinkOf WireSegments → Made) → Type 0
  AgreeAt n answer made = (l : LinkOf WireSegments) → slice_get s.links n ≡ Some l → Agrees (answer n l) (made n l)

  pub unless_agrees : (b : Bool) (failed : FailedLinkSending) (refusal : LinkRefusal) (answer : Answer) (made : Made) →
      refusal_of_sending failed ≡ refusal → (b ≡ true → Agrees answer made) → Agrees (unless b failed answer) (check b refusal made)
  unless_agrees = unless_by (Fits o memory s) (permitted queues o s) refusal_of_sending

  module _ (answer : ℕ → LinkOf WireSegments → Answer) (made : ℕ → LinkOf WireSegments → Made) where
    pub at_agrees : (r : Option ℕ) (none : Answer) (refuses : Made) → Agrees none refuses → ((n : ℕ) → r ≡ Some n → AgreeAt n answer made) →
        Agrees (at_number s.links r none answer) (at_number s.links r refuses made)
    at_agrees = at_by (Fits o memory s) (permitted queues o s) refusal_of_sending s answer made

  turn_refused : (wanted : Phase) (number : ℕ) (link : LinkOf WireSegments) (kind : Queues) →
      refusal_of_sending (out_of_turn kind wanted number link) ≡ LinkState
  turn_refused wanted number link Without = refl
  turn_refused wanted number link With = refl

  pub turn_agrees : (test : LinkTest) (wanted : Phase) (answer : ℕ → LinkOf WireSegments → Answer) (made : ℕ → LinkOf WireSegments → Made) →
      ((n : ℕ) (l : LinkOf WireSegments) → number_in_use queues test s ≡ Some n → slice_get s.links n ≡ Some l → may_send queues wanted l ≡ true →
      Agrees (answer n l) (made n l)) →
      Agrees (asked_in_turn queues test wanted answer s)
      (with_in_use queues test s (Err NoLink) (λ number link. check (may_send queues wanted link) LinkState (made number link)))
  turn_agrees test wanted answer made there =
      use_by (Fits o memory s) (permitted queues o s) refusal_of_sending s
      (λ number link. unless (may_send queues wanted link) (out_of_turn queues wanted number link) (answer number link))
      (λ number link. check (may_send queues wanted link) LinkState (made number link))
      queues test (Err (Unfound (missing test s))) (Err NoLink) refl
      (λ n e l is. unless_agrees (may_send queues wanted l) (out_of_turn queues wanted n l) LinkState (answer n l) (made n l)
      (turn_refused wanted n l queues) (there n l e is))

  -- ---- what is made of a link that is there

  module _ (n : ℕ) (l : LinkOf WireSegments) (is : slice_get s.links n ≡ Some l) where
    pub made_there : (made : LinkOf WireSegments → Sent WireSegments (Unit {0})) → allowed_as (made l) ≡ allowed_as (at_link n s made)
    made_there made =
        ap allowed_as (sym (ap (λ (k : Option (LinkOf WireSegments)). on_link n k (of_no_link wire_segments s) (λ m link. made link)) is))

    pub within : n < length s.links
    within = slice_get_within s.links n l is

  pub no_link : Agrees (Ok OfNoLink) (allowed_as (of_no_link wire_segments s))
  no_link = (tt, refl)

  pub unfound : (test : LinkTest) → Agrees (Err (Unfound (missing test s))) (Err NoLink)
  unfound test = refl

  pub lives : (number : ℕ) → Agrees (Err (Live number)) (Err LinkState)
  lives number = refl

  pub cond_agrees : (b : Bool) (one other : Answer) (made else_made : Made) → Agrees one made → Agrees other else_made →
      Agrees (cond b one other) (cond b made else_made)
  cond_agrees true one other made else_made here there = here
  cond_agrees false one other made else_made here there = there

  -- ---- segments

  module _ {X : Type 0} (next : X → Made) where
    then_agrees : (b : Bool) (failed : FailedLinkSending) (refusal : LinkRefusal) (answer : Answer) (r : Result X LinkRefusal) →
        refusal_of_sending failed ≡ refusal → (b ≡ true → Agrees answer (on_ok r next)) →
        Agrees (unless b failed answer) (on_ok (check b refusal r) next)
    then_agrees true failed refusal answer r is rest = rest refl
    then_agrees false failed refusal answer r is rest = ap Err (sym is)

    -- what is outstanding has its first sending
    given_agrees : (seg : SegmentValue) (outstanding : List Piece) (place : ℕ) (permit : LinkSendPermit) (x : X) → place < length outstanding →
        Agrees (Ok permit) (next x) → Agrees (asked_given seg (slice_get outstanding place) permit)
        (on_ok (check (is_given (slice_get outstanding place) (piece_of seg)) WrongSegment (Ok x)) next)
    given_agrees seg outstanding place permit x low allowed = by_piece (slice_get outstanding place) refl where
      by_piece : (k : Option Piece) → slice_get outstanding place ≡ k →
          Agrees (asked_given seg k permit) (on_ok (check (is_given k (piece_of seg)) WrongSegment (Ok x)) next)
      by_piece None out = absurd (some_there outstanding place low out)
      by_piece (Some first) at =
          then_agrees (same_piece (piece_of seg) first) (AsFirstGiven seg.number (shape_of (piece_of seg)) (shape_of first)) WrongSegment (Ok permit)
          (Ok x) refl (λ same. allowed)

    repeat_agrees : (below : ℕ) (seg : SegmentValue) (outstanding : List Piece) (permit : LinkSendPermit) (x : X) → Agrees (Ok permit) (next x) →
        Agrees (asked_repeat below seg outstanding permit)
        (on_ok (check (is_repeat below (piece_of seg) outstanding) WrongSegment (Ok x)) next)
    repeat_agrees below seg outstanding permit x allowed = by_place (leb (length outstanding) below) refl where
      by_place : (b : Bool) → leb (length outstanding) below ≡ b →
          Agrees (cond b (Ok permit) (asked_given seg (slice_get outstanding (length outstanding - 1 - below)) permit))
          (on_ok (check (b || is_given (slice_get outstanding (length outstanding - 1 - below)) (piece_of seg)) WrongSegment (Ok x)) next)
      by_place true e = allowed
      by_place false e =
          let above = leb-false (length outstanding) below e in
          given_agrees seg outstanding (length outstanding - 1 - below) permit x (omega arith) allowed

  module _ (next : Sending WireSegments (Unit {0}) → Made) where
    words_agree : (r : Result LastSent FailedLinkSending) (w : Option LastSent) (answer : LastSent → Answer) (made : LastSent → Numbered) →
        SameWords r w → ((sent : LastSent) → Agrees (answer sent) (on_ok (made sent) next)) →
        Agrees (then_asked r answer) (on_ok (after_words w made) next)
    words_agree _ _ answer made (Fails seen allowed) rest = refl
    words_agree _ _ answer made (Passes sent) rest = rest sent

    new_agrees : (segsize : ℕ) (p : Piece) (sent : LastSent) (f : WireSegments) (permit : LinkSendPermit) →
        (ltb (length f.variables.outstanding) REACH ≡ true → is_next_piece p f.variables.unsent ≡ true →
        Agrees (Ok permit) (next (sending (with_last sent (with_new p f))))) →
        Agrees (asked_new segsize p f permit) (on_ok (sends_new segsize p sent f) next)
    new_agrees segsize p sent f permit allowed =
        then_agrees next (ltb (length f.variables.outstanding) REACH) (Room (length f.variables.outstanding) 2046) _ _ _ refl (λ room.
        then_agrees next (leb (length p.body) segsize) (Length (length p.body) segsize) _ _ _ refl (λ short.
        then_agrees next (is_next_piece p f.variables.unsent) (NextPiece (shape_of p) (next_in f.variables.unsent)) WrongSegment (Ok permit)
        (Ok (sending (with_last sent (with_new p f)))) refl (λ is. allowed room is)))

    below_agrees : (below : ℕ) (seg : SegmentValue) (sent : LastSent) (f : WireSegments) (permit : LinkSendPermit) →
        Agrees (Ok permit) (next (sending (with_last sent f))) →
        Agrees (asked_below below seg f permit) (on_ok (sends_again below (piece_of seg) sent f) next)
    below_agrees below seg sent f permit allowed =
        then_agrees next (ltb below REACH && (f.gave_many || ltb below (highest_given f.variables)))
        (Number seg.number (segment_numbers f)) WrongSegment
        _ _ refl (λ may. repeat_agrees next below seg f.variables.outstanding permit (sending (with_last sent f)) allowed)

    again_agrees : (n segsize : ℕ) (seg : SegmentValue) (f : WireSegments) → is_new seg f.variables ≡ false →
        ((sent : LastSent) → Agrees (Ok (GoesOn n sent)) (next (sending (with_last sent f)))) →
        Agrees (asked_again n seg f) (on_ok (sends_segment segsize seg f) next)
    again_agrees n segsize seg f e allowed =
        subst (λ (r : Numbered). Agrees (asked_again n seg f) (on_ok r next)) (sym (sends_as segsize seg f false e))
        (words_agree _ _ _ _ (words_same true f.variables.received seg.acks (last_of f)) (λ sent.
        below_agrees (distance seg.number (highest_given f.variables)) seg sent f (GoesOn n sent) (allowed sent)))

  -- a segment: what it makes of the link where it is new, and where it goes again
  module _ (n : ℕ) (l : LinkOf WireSegments) (seg : SegmentValue) where
    abbrev GivesSo : LateSent → Made → Type 0
    GivesSo late made = is_new seg l.segments.variables ≡ true → ltb (length l.segments.variables.outstanding) REACH ≡ true →
        is_next_piece (piece_of seg) l.segments.variables.unsent ≡ true → Agrees (Ok (Gives n late)) made

    pub at_once_agrees : (next : Sending WireSegments (Unit {0}) → Made) →
        ((sent : LastSent) → Agrees (Ok (GoesOn n sent)) (next (sending (with_last sent l.segments)))) →
        ((sent : LastSent) → GivesSo (record { sent = sent; gap = 0 }) (next (sending (with_last sent (with_new (piece_of seg) l.segments))))) →
        Agrees (asked_segment n l.segsize seg l.segments) (on_ok (sends_segment l.segsize seg l.segments) next)
    at_once_agrees next goes gives = by_number (is_new seg l.segments.variables) refl where
      by_number : (b : Bool) → is_new seg l.segments.variables ≡ b →
          Agrees (cond b (then_asked (asked_words false l.segments.variables.received seg.acks (last_of l.segments)) (λ sent.
          asked_new l.segsize (piece_of seg) l.segments (Gives n (record { sent = sent; gap = 0 })))) (asked_again n seg l.segments))
          (on_ok (sends_segment l.segsize seg l.segments) next)
      by_number true e =
          subst (λ (r : Numbered). Agrees (then_asked (asked_words false l.segments.variables.received seg.acks (last_of l.segments)) (λ sent.
          asked_new l.segsize (piece_of seg) l.segments (Gives n (record { sent = sent; gap = 0 })))) (on_ok r next))
          (sym (sends_as l.segsize seg l.segments true e))
          (words_agree next _ _ _ _ (words_same false l.segments.variables.received seg.acks (last_of l.segments)) (λ sent.
          new_agrees next l.segsize (piece_of seg) sent l.segments _ (gives sent e)))
      by_number false e = again_agrees next n l.segsize seg l.segments e goes

    pub late_agrees : (gap : ℕ) (next : Late WireSegments (Unit {0}) → Made) →
        ((sent : LastSent) → Agrees (Ok (GoesOn n sent)) (next (record {
          sent = sending (with_last sent l.segments);
          gap = wider gap (distance l.segments.last sent.last);
        }))) →
        ((late : LateSent) → GivesSo late (next (record {
          sent = sending (with_last late.sent (with_new (piece_of seg) l.segments));
          gap = late.gap;
        }))) →
        Agrees (asked_segment_late n gap l.segsize seg l.segments) (on_ok (sends_late gap l.segsize seg l.segments) next)
    late_agrees gap next goes gives = by_number (is_new seg l.segments.variables) refl where
      by_late : (r : Result LateSent FailedLinkSending) (w : Option LateSent) → is_new seg l.segments.variables ≡ true → SameLate r w →
          Agrees (then_asked r (λ late. asked_new l.segsize (piece_of seg) l.segments (Gives n late)))
          (on_ok (new_late w l.segsize seg l.segments) next)
      by_late _ _ e (Late_word seen allowed) = refl
      by_late _ _ e (InTime late) =
          subst (λ (made : Made). Agrees (asked_new l.segsize (piece_of seg) l.segments (Gives n late)) made)
          (gap_ok (λ sent. late.gap) (sends_new l.segsize (piece_of seg) late.sent l.segments) next)
          (new_agrees (λ sent. next (record { sent = sent; gap = late.gap })) l.segsize (piece_of seg) late.sent l.segments _ (gives late e))

      by_number : (b : Bool) → is_new seg l.segments.variables ≡ b →
          Agrees (cond b (then_asked (asked_late l.segments.variables.received seg.acks (record { sent = last_of l.segments; gap = gap })) (λ late.
          asked_new l.segsize (piece_of seg) l.segments (Gives n late))) (asked_again n seg l.segments))
          (on_ok (cond b
          (new_late (all_named_late l.segments.variables.received seg.acks (record { sent = last_of l.segments; gap = gap })) l.segsize seg
          l.segments) (with_gap (λ sent. wider gap (went_on l.segments sent.segments)) (sends_segment l.segsize seg l.segments))) next)
      by_number true e = by_late _ _ e (late_same l.segments.variables.received seg.acks (record { sent = last_of l.segments; gap = gap }))
      by_number false e =
          subst (λ (made : Made). Agrees (asked_again n seg l.segments) made)
          (gap_ok (λ sent. wider gap (went_on l.segments sent.segments)) (sends_segment l.segsize seg l.segments) next)
          (again_agrees (λ sent. next (record { sent = sent; gap = wider gap (went_on l.segments sent.segments) }))
          n l.segsize seg l.segments e goes)

  pub acks_agree : (n : ℕ) (words : List AckWord) (f : WireSegments) (next : Sending WireSegments (Unit {0}) → Made) →
      ((sent : LastSent) → Agrees (Ok (GoesOn n sent)) (next (sending (with_last sent f)))) →
      Agrees (asked_acks n words f) (on_ok (sends_acks words f) next)
  acks_agree n words f next goes =
      subst (λ (r : Numbered). Agrees (asked_acks n words f) (on_ok r next))
      (sym (acks_as (all_named false f.variables.received words (last_of f)) f))
      (words_agree next _ _ _ _ (words_same false f.variables.received words (last_of f)) goes)
