-- A segment that a link may send is its first, or follows the one before, with room for its data, or may be acknowledged; and what it has given was
-- sent.
use Rattle.accusing_segments.proofs.Prelude.{◌≡◌, ℕ, ◌+◌, ◌-◌, ◌<◌, ◌≤◌, Bool, true, false, ◌&&◌, ◌||◌, not, cond, leb, ltb, Option}
use Rattle.accusing_segments.proofs.Prelude.{Some, None, Result, Ok, Err, List, [], ◌∷◌, ◌++◌, length, refl, sym, subst, ap, ◌∙◌, arith, ◌⊎◌, inl}
use Rattle.accusing_segments.proofs.Prelude.{inr, length-append, eqb-true, ltb-true, slice_get, bytes_eq, and_parts, leb-true, leb-false}
use Rattle.accusing_segments.proofs.Prelude.{bytes_eq-Decides, AckWord, SegmentValue, LinkRefusal, WrongSegment, WrongAck, SegmentTooLong}
use Rattle.accusing_segments.proofs.Prelude.{LinkWindowFull, LinkOf, Piece, piece_of, alike, same_piece, Unsent, is_next_of, is_next_piece, left_of}
use Rattle.accusing_segments.proofs.Prelude.{without_piece, Sending, Late, with_gap, wider, REACH, wire, distance, WireSegments, LastSent, LateSent}
use Rattle.accusing_segments.proofs.Prelude.{last_of, all_named, with_last, sending, with_new, sends_new, is_given, is_repeat, sends_again, is_new}
use Rattle.accusing_segments.proofs.Prelude.{segment_named, sends_segment, all_named_late, went_on, new_late, sends_late, highest_given, acks_named}
use Rattle.accusing_segments.proofs.Prelude.{sends_acks, Good, good_ok, good_err, good_check, SentBy, AtOnce, Waited, before}
use Rattle.accusing_segments.proofs.Places.{pushed_place}
use Rattle.accusing_segments.proofs.Gave.{Passings, More, Follows, follows_more, Gave, gave_more}

-- why a segment may be sent
pub data IsFine (Q : Passings) (s : SegmentValue) : Type 0 where
  Released : (e : Bool) → Q.ends s.number e → (on : ℕ) → on < REACH → Q.word (wire (s.number + on)) → IsFine Q s
  First : s.number ≡ 1 → s.begins ≡ true → Q.room (length s.body) → IsFine Q s
  Next : Q.ends (before s.number) s.begins → Q.room (length s.body) → IsFine Q s

-- it was sent
abbrev pub Gone : Passings → SegmentValue → Type 0
Gone Q s = Q.ends s.number s.ends

pub fine_more : (Q R : Passings) (s : SegmentValue) → More Q R → IsFine Q s → IsFine R s
fine_more Q R s more (Released e sent on near word) = Released e (more.ends s.number e sent) on near (more.word _ word)
fine_more Q R s more (First number begins room) = First number begins (more.room (length s.body) room)
fine_more Q R s more (Next sent room) = Next (more.ends (before s.number) s.begins sent) (more.room (length s.body) room)

follows_fine : (Q : Passings) (s : SegmentValue) (n : ℕ) → s.number ≡ wire (n + 1) → Follows Q n s.begins → Q.room (length s.body) → IsFine Q s
follows_fine Q s n at (inl first) room = First (let z = first.0 in omega (arith, z, at)) first.1 room
follows_fine Q s n at (inr sent) room =
    let same : wire n ≡ before s.number = omega (arith, at) in Next (subst (λ (x : ℕ). Q.ends x s.begins) same sent) room

distance_back : (n number : ℕ) → number < 4096 → distance number (wire n) ≤ n → number ≡ wire (n - distance number (wire n))
distance_back n number l m = omega (arith, l, m)

-- ---- pieces

alike_is : (a b : Bool) → alike a b ≡ true → a ≡ b
alike_is true b e = sym e
alike_is false true e = absurd cc
alike_is false false e = refl

pub same_is : (p q : Piece) → same_piece p q ≡ true → q ≡ p
same_is p q e =
    let a = and_parts (alike p.begins q.begins) (alike p.ends q.ends && bytes_eq p.body q.body) e in
    let b = and_parts (alike p.ends q.ends) (bytes_eq p.body q.body) a.1 in
    let begins : p.begins ≡ q.begins = alike_is p.begins q.begins a.0 in
    let ends : p.ends ≡ q.ends = alike_is p.ends q.ends b.0 in
    let body : p.body ≡ q.body = (bytes_eq-Decides p.body q.body).0 b.1 in
    ap (λ (x : List ℕ). record q { body = x }) (sym body) ∙ ap (λ (x : Bool). record q { ends = x; body = p.body }) (sym ends)
    ∙ ap (λ (x : Bool). record p { begins = x }) (sym begins)

twice_not : (b : Bool) → not (not b) ≡ b
twice_not true = refl
twice_not false = refl

-- the next piece begins a message exactly if none is begun, and ends it exactly if none is begun then
begun_after : (p : Piece) (begun : Bool) (messages : List (List ℕ)) → is_next_of p begun messages ≡ true →
    ((left_of p messages).begun ≡ not p.ends) × (p.begins ≡ not begun)
begun_after p begun [] e = absurd cc
begun_after p begun (rest ∷ later) e =
    (by_end p.ends (record { begun = false; messages = later }) _ refl refl, alike_is p.begins (not begun) (and_parts _ _ (and_parts _ _ e).1).0)
  where
    by_end : (b : Bool) (u v : Unsent) → u.begun ≡ false → v.begun ≡ true → (cond b u v).begun ≡ not b
    by_end true u v e g = e
    by_end false u v e g = g

module _ (Q R : Passings) (more : More Q R) (f : WireSegments) (is : Gave Q f) (s : SegmentValue) (small : s.number < 4096) (gone : Gone R s) where
  abbrev highest : ℕ
  highest = is.acked + length f.variables.outstanding

  abbrev IsSent : Sending WireSegments (Unit {0}) → Type 0
  IsSent sent = IsFine Q s × Gave R sent.segments

  given : highest_given f.variables ≡ wire highest
  given = let h = is.here in omega (arith, h)

  -- ---- a new one

  module _ (new : is_new s f.variables ≡ true) (next : is_next_piece (piece_of s) f.variables.unsent ≡ true) (room : Q.room (length s.body)) where
    number_is : s.number ≡ wire (highest + 1)
    number_is = let e = eqb-true s.number (wire (highest_given f.variables + 1)) new in omega (arith, e, given)

    parts : ((without_piece (piece_of s) f.variables.unsent).begun ≡ not s.ends) × (s.begins ≡ not f.variables.unsent.begun)
    parts = begun_after (piece_of s) f.variables.unsent.begun f.variables.unsent.messages next

    next_follows : Follows Q highest s.begins
    next_follows = subst (Follows Q highest) (sym parts.1) is.last

    new_fine : IsFine Q s
    new_fine = follows_fine Q s highest number_is next_follows room

    size : length (f.variables.outstanding ++ piece_of s ∷ []) ≡ length f.variables.outstanding + 1
    size = length-append f.variables.outstanding (piece_of s ∷ [])

    abbrev later : ℕ
    later = is.acked + length (f.variables.outstanding ++ piece_of s ∷ [])

    later_is : later ≡ highest + 1
    later_is = omega (arith, size)

    words : (is.acked ≡ 0) ⊎ Q.word (wire is.acked) → (is.acked ≡ 0) ⊎ R.word (wire is.acked)
    words (inl none) = inl none
    words (inr came) = inr (more.word (wire is.acked) came)

    new_all : (n : ℕ) → 1 ≤ n → n ≤ later → (e : Bool) × R.ends (wire n) e
    new_all n first most = go (leb n highest) refl
      where
        go : (b : Bool) → leb n highest ≡ b → (e : Bool) × R.ends (wire n) e
        go true e = let found = is.all n first (leb-true n highest e) in (found.0, more.ends (wire n) found.0 found.1)
        go false e =
            let m = leb-false n highest e in
            let at : s.number ≡ wire n = omega (arith, m, most, later_is, number_is) in
            (s.ends, subst (λ (x : ℕ). R.ends x s.ends) at gone)

    new_each : (i : ℕ) (p : Piece) → slice_get (f.variables.outstanding ++ piece_of s ∷ []) i ≡ Some p →
        Follows R (is.acked + i) p.begins × R.room (length p.body)
    new_each i p e = go (pushed_place f.variables.outstanding (piece_of s) i p e)
      where
        go : (slice_get f.variables.outstanding i ≡ Some p) ⊎ ((i ≡ length f.variables.outstanding) × (piece_of s ≡ p)) →
            Follows R (is.acked + i) p.begins × R.room (length p.body)
        go (inl there) =
            let found = is.each i p there in
            (follows_more Q R more (is.acked + i) p.begins found.0, more.room (length p.body) found.1)
        go (inr last) =
            let place = last.0 in
            let at : highest ≡ is.acked + i = omega (arith, place) in
            subst (λ (x : Piece). Follows R (is.acked + i) x.begins × R.room (length x.body)) last.1 (
              subst (λ (x : ℕ). Follows R x s.begins) at (follows_more Q R more highest s.begins next_follows),
              more.room (length s.body) room,
            )

    new_many : (b : Bool) → f.gave_many ≡ b → (b || leb REACH (highest_given f.variables + 1)) ≡ true → REACH ≤ later
    new_many true e g = let m = is.reaches e in omega (arith, m, later_is)
    new_many false e g = let m = leb-true REACH (highest_given f.variables + 1) g in omega (arith, m, given, later_is)

    new_gave : (last : LastSent) → Gave R (with_last last (with_new (piece_of s) f))
    new_gave last = record {
      acked = is.acked;
      here = is.here;
      all = new_all;
      each = new_each;
      last = inr (
          let at : s.number ≡ wire later = omega (arith, number_is, later_is) in
          let end : s.ends ≡ not (without_piece (piece_of s) f.variables.unsent).begun = sym (ap not parts.0 ∙ twice_not s.ends) in
          subst (λ (x : ℕ). R.ends x (not (without_piece (piece_of s) f.variables.unsent).begun)) at (subst (R.ends s.number) end gone));
      word = words is.word;
      reaches = new_many f.gave_many refl;
    }

  -- there is room for this many bytes
  abbrev pub HasRoom : ℕ → Type 0
  HasRoom segsize = (n : ℕ) → n ≤ segsize → Q.room n

  new_good : (segsize : ℕ) (last : LastSent) → HasRoom segsize → is_new s f.variables ≡ true → Good IsSent (sends_new segsize (piece_of s) last f)
  new_good segsize last fits new =
      good_check IsSent (ltb (length f.variables.outstanding) REACH) LinkWindowFull _ (λ e.
      good_check IsSent (leb (length s.body) segsize) SegmentTooLong _ (λ g.
      good_check IsSent (is_next_piece (piece_of s) f.variables.unsent) WrongSegment _ (λ h.
      let room = fits (length s.body) (leb-true (length s.body) segsize g) in
      good_ok IsSent (sending (with_last last (with_new (piece_of s) f))) (new_fine new h room, new_gave new h room last))))

  -- ---- one that goes again

  abbrev below : ℕ
  below = distance s.number (highest_given f.variables)

  module _ (reach : ltb below REACH ≡ true) (some : (f.gave_many || ltb below (highest_given f.variables)) ≡ true) where
    pub near : below < REACH
    near = ltb-true below REACH reach

    pub within : below < highest
    within = go f.gave_many refl some
      where
        go : (b : Bool) → f.gave_many ≡ b → (b || ltb below (highest_given f.variables)) ≡ true → below < highest
        go true e g = let m = is.reaches e in omega (arith, m, near)
        go false e g =
            let l = ltb-true below (highest_given f.variables) g in
            let m : below < wire highest = subst (λ (x : ℕ). below < x) given l in
            omega (arith, m)

    pub stands : s.number ≡ wire (highest - below)
    stands =
        subst (λ (x : ℕ). s.number ≡ wire (highest - distance s.number x)) (sym given)
        (distance_back highest s.number small (subst (λ (x : ℕ). distance s.number x ≤ highest) given (omega (arith, within))))

    again_fine : is_repeat below (piece_of s) f.variables.outstanding ≡ true → IsFine Q s
    again_fine e = go (leb (length f.variables.outstanding) below) refl e
      where
        by_piece : leb (length f.variables.outstanding) below ≡ false → (o : Option Piece) →
            slice_get f.variables.outstanding (length f.variables.outstanding - 1 - below) ≡ o → is_given o (piece_of s) ≡ true → IsFine Q s
        by_piece less None at g = absurd cc
        by_piece less (Some first) at g =
            let l = leb-false (length f.variables.outstanding) below less in
            let to : s.number ≡ wire (is.acked + (length f.variables.outstanding - 1 - below) + 1) = omega (arith, l, stands) in
            let same = same_is (piece_of s) first g in
            let found = is.each _ first at in
            follows_fine Q s (is.acked + (length f.variables.outstanding - 1 - below)) to
            (subst (λ (x : Piece). Follows Q (is.acked + (length f.variables.outstanding - 1 - below)) x.begins) same found.0)
            (subst (λ (x : Piece). Q.room (length x.body)) same found.1)

        by_word : length f.variables.outstanding ≤ below → (is.acked ≡ 0) ⊎ Q.word (wire is.acked) → IsFine Q s
        by_word l (inl none) = absurd (omega (arith, l, none, within))
        by_word l (inr word) =
            let found = is.all (highest - below) (omega (arith, within)) (omega arith) in
            let to : wire is.acked ≡ wire (s.number + (is.acked - (highest - below))) = omega (arith, l, stands, within) in
            Released found.0 (subst (λ (x : ℕ). Q.ends x found.0) (sym stands) found.1) (is.acked - (highest - below))
            (omega (arith, l, near, within)) (subst Q.word to word)

        go : (b : Bool) → leb (length f.variables.outstanding) below ≡ b →
            (b || is_given (slice_get f.variables.outstanding (length f.variables.outstanding - 1 - below)) (piece_of s)) ≡ true → IsFine Q s
        go true l g = by_word (leb-true (length f.variables.outstanding) below l) is.word
        go false l g = by_piece l _ refl g

  again_good : (last : LastSent) → Good IsSent (sends_again below (piece_of s) last f)
  again_good last =
      good_check IsSent (ltb below REACH && (f.gave_many || ltb below (highest_given f.variables))) WrongSegment _ (λ e.
      good_check IsSent (is_repeat below (piece_of s) f.variables.outstanding) WrongSegment _ (λ g.
      let parts = and_parts (ltb below REACH) (f.gave_many || ltb below (highest_given f.variables)) e in
      good_ok IsSent (sending (with_last last f)) (again_fine parts.0 parts.1 g, gave_more Q R f more is)))

  -- ---- any

  named_good : (segsize : ℕ) (o : Option LastSent) → HasRoom segsize → Good IsSent (segment_named o segsize s f)
  named_good segsize None fits = good_err IsSent WrongAck
  named_good segsize (Some last) fits = go (is_new s f.variables) refl
    where
      go : (b : Bool) → is_new s f.variables ≡ b →
          Good IsSent (cond b (sends_new segsize (piece_of s) last f) (sends_again below (piece_of s) last f))
      go true new = new_good segsize last fits new
      go false old = again_good last

  sends_segment_good : (segsize : ℕ) → HasRoom segsize → Good IsSent (sends_segment segsize s f)
  sends_segment_good segsize fits = named_good segsize (all_named (not (is_new s f.variables)) f.variables.received s.acks (last_of f)) fits

  abbrev pub IsLate : Late WireSegments (Unit {0}) → Type 0
  IsLate late = IsSent late.sent

  gap_good : (gap : Sending WireSegments (Unit {0}) → ℕ) (r : Result (Sending WireSegments (Unit {0})) LinkRefusal) →
      Good IsSent r → Good IsLate (with_gap gap r)
  gap_good gap (Ok sent) good = good_ok IsLate (record { sent = sent; gap = gap sent }) (good sent refl)
  gap_good gap (Err refusal) good = good_err IsLate refusal

  late_good : (segsize : ℕ) (o : Option LateSent) → HasRoom segsize → is_new s f.variables ≡ true → Good IsLate (new_late o segsize s f)
  late_good segsize None fits new = good_err IsLate WrongAck
  late_good segsize (Some next) fits new =
      gap_good (λ sent. next.gap) (sends_new segsize (piece_of s) next.sent f) (new_good segsize next.sent fits new)

  sends_late_good : (gap segsize : ℕ) → HasRoom segsize → Good IsLate (sends_late gap segsize s f)
  sends_late_good gap segsize fits = go (is_new s f.variables) refl
    where
      go : (b : Bool) → is_new s f.variables ≡ b →
          Good IsLate (cond b
          (new_late (all_named_late f.variables.received s.acks (record { sent = last_of f; gap = gap })) segsize s f)
          (with_gap (λ sent. wider gap (went_on f sent.segments)) (sends_segment segsize s f)))
      go true new = late_good segsize (all_named_late f.variables.received s.acks (record { sent = last_of f; gap = gap })) fits new
      go false old = gap_good (λ sent. wider gap (went_on f sent.segments)) (sends_segment segsize s f) (sends_segment_good segsize fits)

-- what is left where a segment is sent, and why it may be
module _ (Q R : Passings) (more : More Q R) (s : SegmentValue) (small : s.number < 4096) (gone : Gone R s) where
  pub sent_left : (l : LinkOf WireSegments) (f : WireSegments) → Gave Q l.segments → ((n : ℕ) → n ≤ l.segsize → Q.room n) → SentBy s l f →
      IsFine Q s × Gave R f
  sent_left l f is fits (AtOnce made e) = sends_segment_good Q R more l.segments is s small gone l.segsize fits made e
  sent_left l f is fits (Waited made e) = sends_late_good Q R more l.segments is s small gone l.queue.gap l.segsize fits made e

-- acknowledgement words give no segment
pub acks_sent : (Q : Passings) (words : List AckWord) (f : WireSegments) → Gave Q f →
    Good (λ (sent : Sending WireSegments (Unit {0})). Gave Q sent.segments) (sends_acks words f)
acks_sent Q words f is = go (all_named false f.variables.received words (last_of f))
  where
    go : (o : Option LastSent) → Good (λ (sent : Sending WireSegments (Unit {0})). Gave Q sent.segments) (acks_named o f)
    go None = good_err (λ (sent : Sending WireSegments (Unit {0})). Gave Q sent.segments) WrongAck
    go (Some last) = good_ok (λ (sent : Sending WireSegments (Unit {0})). Gave Q sent.segments) (sending (with_last last f)) is
