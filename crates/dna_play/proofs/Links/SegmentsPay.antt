-- What a link of the player in RUN puts together may be sent, by the rules on its segments: a data ack, a segment once more, a new segment. And what
-- is left of the link then, as a node keeps it.
use Rattle.dna_play.proofs.Prelude.{◌≡◌, ℕ, ◌+◌, ◌-◌, ◌<◌, ◌≤◌, max, min, Bool, true, false, ◌&&◌, ◌||◌, not, eqb, nat_lt, nat_le, Some, None, List}
use Rattle.dna_play.proofs.Prelude.{[], ◌∷◌, ◌++◌, length, take, Result, Ok, refl, sym, ap, ◌∙◌, arith, eq-eqb, lt-ltb, le-leb, length-drop, ◌⊎◌}
use Rattle.dna_play.proofs.Prelude.{inl, inr, slice_get, both_true, cases_lt, ne_eqb, lt-leb, drop-append-le, length-take, take_min}
use Rattle.dna_play.proofs.Prelude.{slice_get_within, bytes_eq-Decides, LinkRefusal, Port, Piece, alike, same_piece, is_piece_of, is_next_piece}
use Rattle.dna_play.proofs.Prelude.{without_piece, has_more, SEGSIZE, piece_with, next_piece_of, next_piece, Sending, REACH, distance, TrueSegments}
use Rattle.dna_play.proofs.Prelude.{Numbers, Named, highest_given, highest_received, named, sending, sends_acks, is_repeat, sends_segment}
use Rattle.dna_play.proofs.Prelude.{IsOrdered, IsAnswered, LinkOwed, LinkEnd, segment_with, ack_of, gave, slice_get-drop, distance_ahead}
use Rattle.std.specs.Str.{bytes_eq}
use Rattle.dna_links.specs.SegmentBook.{wire}
use Rattle.dna_links.specs.TrueSegments.{is_new}
use Rattle.dna_links.specs.CutSegments.{cut}
use Rattle.dna_play.proofs.Links.Fits.{PieceFits}
use Rattle.dna_play.proofs.Links.Goes.{SegmentsGo, acks_go, stays_as_it_is, given_goes}

-- ---- pieces

alike_self : (b : Bool) → alike b b ≡ true
alike_self true = refl
alike_self false = refl

same_bytes : (body : List ℕ) → bytes_eq body body ≡ true
same_bytes body = (bytes_eq-Decides body body).1 refl

same_self : (p : Piece) → same_piece p p ≡ true
same_self p = rw (alike_self p.begins, alike_self p.ends, same_bytes p.body) refl

-- the next piece of a message is one
is_piece : (begun : Bool) (rest : List ℕ) → is_piece_of (piece_with begun rest) begun rest ≡ true
is_piece begun rest =
    both_true bytes (both_true (alike_self (not begun))
    (sizes (length (take SEGSIZE rest)) (length-take SEGSIZE rest) (cases_lt SEGSIZE (length rest))))
  where
    bytes : bytes_eq (take SEGSIZE rest) (take (length (take SEGSIZE rest)) rest) ≡ true
    bytes = rw (length-take SEGSIZE rest, take_min SEGSIZE rest) (same_bytes (take SEGSIZE rest))

    is_or_not : (b : Bool) → (not b || b) ≡ true
    is_or_not true = refl
    is_or_not false = refl

    sizes : (n : ℕ) → n ≡ min SEGSIZE (length rest) → (SEGSIZE < length rest) ⊎ (length rest ≤ SEGSIZE) →
        (alike (nat_le (length rest) SEGSIZE) (eqb n (length rest)) && (not (eqb n 0) || eqb (length rest) 0)) ≡ true
    sizes n e (inl l) = rw (lt-leb (length rest) SEGSIZE l, ne_eqb n (length rest) (λ f. omega arith), ne_eqb n 0 (λ f. omega arith)) refl
    sizes n e (inr l) =
        let same : n ≡ length rest = omega arith in
        rw (le-leb (length rest) SEGSIZE l, same, eq-eqb (length rest) (length rest) refl) (is_or_not (eqb (length rest) 0))

is_next : (begun : Bool) (messages : List (List ℕ)) → has_more messages ≡ true →
    is_next_piece (next_piece_of begun messages) (record { begun = begun; messages = messages }) ≡ true
is_next begun [] more = absurd cc
is_next begun (rest ∷ later) more = is_piece begun rest

-- ---- the segments of a link

-- it may be sent, and this is left then of the link
pub record MaySend (l : LinkEnd) (f : TrueSegments) (r : Result (Sending TrueSegments Numbers) LinkRefusal) (after : LinkEnd) : Type 0 where
  pub sent : Sending TrueSegments Numbers
  pub is : r ≡ Ok sent
  pub acknowledged : sent.segments.acknowledged ≡ f.acknowledged
  pub left : record l { variables = (cut sent.segments).variables } ≡ after
  pub goes : SegmentsGo f sent.segments

module _ (port : Port) (f : TrueSegments) (owed : LinkOwed) (ordered : IsOrdered f) where
  -- a link with these segments, as a node keeps it
  abbrev l : LinkEnd
  l = record { port = port; variables = (cut f).variables; owed = owed }

  pub data_ack_may : IsAnswered f → MaySend l f (sends_acks (ack_of (wire (highest_received f)) ∷ []) f) l
  data_ack_may answered =
      let least = ordered.last in
      let d = distance_ahead f.last (highest_received f) least answered in
      let number = f.last + distance (wire f.last) (wire (highest_received f)) in
      let within : nat_le number (highest_received f) ≡ true = le-leb _ _ (omega arith) in
      let is : named false f.last (highest_received f) (wire (highest_received f)) ≡ Some number = rw within refl in
      record {
        sent = sending 0 (record { numbers = number ∷ []; last = max f.last number }) f (record f { last = max f.last number });
        is = rw is refl;
        acknowledged = refl;
        left = refl;
        goes = acks_go f (max f.last number);
      }

  abbrev none_named : Named
  none_named = record { numbers = []; last = f.last }

  pub again_may : (segsize : ℕ) (p : Piece) → slice_get l.variables.outstanding owed.ahead ≡ Some p →
      MaySend l f (sends_segment segsize (segment_with l p) f) l
  again_may segsize p there =
      let s = segment_with l p in
      let within = slice_get_within l.variables.outstanding owed.ahead p there in
      let counted = length-drop f.acknowledged f.given in
      let some = ordered.given in let few = ordered.few in
      let old : is_new s f ≡ false = ne_eqb _ _ (λ e. omega arith) in
      let place = f.acknowledged + 1 + owed.ahead in
      let bits : s.number ≡ wire place = omega arith in
      let below : distance s.number (wire (highest_given f)) ≡ highest_given f - place = ap (λ (n : ℕ). distance n (wire (highest_given f))) bits ∙
      distance_ahead place (highest_given f) (omega arith) (omega arith) in
      let near : (nat_lt (highest_given f - place) REACH && nat_lt (highest_given f - place) (highest_given f)) ≡ true =
      both_true (lt-ltb (highest_given f - place) REACH (omega arith)) (lt-ltb (highest_given f - place) (highest_given f) (omega arith)) in
      let back : highest_given f - (highest_given f - place) - 1 ≡ f.acknowledged + owed.ahead = omega arith in
      let first : slice_get f.given (highest_given f - (highest_given f - place) - 1) ≡ Some p =
      ap (slice_get f.given) back ∙ sym (slice_get-drop f.acknowledged owed.ahead f.given) ∙ there in
      let repeat : is_repeat (highest_given f - (highest_given f - place)) p f ≡ true =
      rw (lt-leb (highest_given f - (highest_given f - place)) f.acknowledged (omega arith), first) (same_self p) in
      let sent = sending (highest_given f - (highest_given f - place)) none_named f (record f { last = f.last }) in record {
        sent = sent;
        is = rw (old, below, near, repeat) refl;
        acknowledged = refl;
        left = refl;
        goes = stays_as_it_is f;
      }

  pub new_may : (segsize : ℕ) → SEGSIZE ≤ segsize → length l.variables.outstanding < REACH → owed.ahead ≡ length l.variables.outstanding →
      has_more f.unsent.messages ≡ true → PieceFits (next_piece f.unsent) →
      MaySend l f (sends_segment segsize (segment_with l (next_piece f.unsent)) f) (gave None l)
  new_may segsize wide few ahead more plain =
      let p = next_piece f.unsent in
      let s = segment_with l p in
      let counted = length-drop f.acknowledged f.given in
      let some = ordered.given in
      let new : is_new s f ≡ true = eq-eqb _ _ (omega arith) in
      let room : nat_lt (highest_given f - f.acknowledged) REACH ≡ true = lt-ltb _ _ (omega arith) in
      let fits : nat_le (length p.body) segsize ≡ true = let e = plain.few in le-leb _ _ (omega arith) in
      let sent = sending (highest_given f + 1) none_named f
      (record f { last = f.last; given = f.given ++ p ∷ []; unsent = without_piece p f.unsent }) in record {
        sent = sent;
        is = rw (new, room, fits, is_next f.unsent.begun f.unsent.messages more) refl;
        acknowledged = refl;
        left = ap (λ (pieces : List Piece). record l { variables = record l.variables { unsent = without_piece p f.unsent; outstanding = pieces } })
            (drop-append-le f.acknowledged f.given (p ∷ []) ordered.given);
        goes = given_goes f p plain;
      }
