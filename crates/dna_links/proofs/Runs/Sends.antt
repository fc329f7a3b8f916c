-- What a link sends, on its true numbers: what becomes of its segments, and what is true of the message.
use Rattle.std.proofs.Common.{◌≡◌, ℕ, zero, suc, ◌+◌, ◌-◌, ◌<◌, ◌≤◌, Bool, true, false, not, ◌&&◌, nat_lt, nat_le, cond, ◌⊎◌, inl, inr, Option, Some}
use Rattle.std.proofs.Common.{None, List, [], ◌∷◌, ◌++◌, length, Result, Ok, refl, sym, ap, ◌∙◌, subst, arith, append-nil, eqb-true, ltb-true}
use Rattle.std.proofs.Common.{leb-true, length-append}
use Rattle.std.specs.Prelude.{slice_get, bytes_eq}
use Rattle.std.proofs.lemmas.Bool.{and_parts, or_cases}
use Rattle.std.proofs.lemmas.Slice.Eq.{bytes_eq-Decides}
use Rattle.two_nodes.proofs.Listed.{next_at}
use Rattle.dna_packet.specs.declared.ack_word.AckWord.{AckWord}
use Rattle.dna_packet.specs.Nsp.{SegmentValue}
use Rattle.dna_station.specs.declared.link_refusal.LinkRefusal.{LinkRefusal}
use Rattle.dna_station.specs.declared.link_refusal.LinkRefusal.TheVariants.{WrongSegment, SegmentTooLong, LinkWindowFull}
use Rattle.dna_links.specs.Segmentation.{Piece, piece_of, alike, same_piece, in_order, is_next_piece, without_piece}
use Rattle.dna_links.specs.SegmentBook.{Sending, REACH, wire, distance}
use Rattle.dna_links.specs.Delivery.{IsCut}
use Rattle.dna_links.specs.TrueSegments.{TrueSegments, Numbers, highest_given, highest_received, Named, all_named, sending, acks_named}
use Rattle.dna_links.specs.TrueSegments.{sends_acks, sends_other, sends_new}
use Rattle.dna_links.specs.TrueSegments.{is_given, is_repeat, sends_again, is_new, segment_named, sends_segment}
use Rattle.two_nodes.proofs.Numbered.{IsGiven, AcksFrom}
use Rattle.dna_links.proofs.Tables.Outcomes.{checked}
use Rattle.dna_links.proofs.Tables.Words.{limits, AreAtMost, AreWords, AreNamed, names_are}
use Rattle.dna_links.proofs.Runs.Pieces.{IsPassed, cut_given}

-- the number of a message that has one
abbrev pub number_in : ℕ → Option ℕ
number_in zero = None
number_in (suc n) = Some (suc n)

pub number_given : (number given : ℕ) → number ≤ given → given ≤ number + 2046 → IsGiven limits (number_in number) given
number_given zero given p q = tt
number_given (suc n) given p q = (p, q)

-- what holds of a link's segments at any time
pub record AreSoundSegments (f : TrueSegments) : Type 0 where
  pub acknowledged : f.acknowledged ≤ highest_given f
  pub few : highest_given f ≤ f.acknowledged + 2047
  pub last : f.last ≤ highest_received f
  pub recent : length f.received ≤ f.last + 2047
  pub cut : IsCut f
  pub passed : IsPassed f

pub within_all : (pieces : List (Option Piece)) → in_order pieces ≤ length pieces
within_all [] = omega arith
within_all (None ∷ pieces) = omega arith
within_all (Some p ∷ pieces) = let w = within_all pieces in omega arith

-- the sender's numbers are told as they are
pub record TellsNumbers (f after : TrueSegments) (k : Numbers) : Type 0 where
  pub given : k.given ≡ highest_given after
  pub received : k.received ≡ highest_received f
  pub acknowledged : k.acknowledged ≡ f.acknowledged
  pub last : k.last ≡ after.last
  pub last_before : k.last_before ≡ f.last

-- what was sent is lawful, and leaves sound segments
pub record SendsFrom (f after : TrueSegments) (k : Numbers) : Type 0 where
  pub tells : TellsNumbers f after k
  pub sound : AreSoundSegments after
  pub received : after.received ≡ f.received
  pub acknowledged : after.acknowledged ≡ f.acknowledged
  pub handed : after.handed ≡ f.handed
  pub delivered : after.delivered ≡ f.delivered
  pub more : List Piece
  pub given : after.given ≡ f.given ++ more
  pub more_last : f.last ≤ after.last
  pub number : IsGiven limits (number_in k.segment) k.given
  pub acks : AcksFrom limits f.last (highest_received f) k.acknowledgements
  pub at_most : AreAtMost k.last k.acknowledgements

-- what the bytes of a segment say is so, where its numbers are below 4,096; its piece is the one that was given, unless it was
-- acknowledged already
pub record IsTrueSegment (s : SegmentValue) (given : List Piece) (k : Numbers) : Type 0 where
  pub some : 1 ≤ k.segment
  pub spelled : s.number < 4096 → wire k.segment ≡ s.number
  pub words : AreWords s.acks k.acknowledgements
  pub piece : (k.segment ≤ k.acknowledged) ⊎ (slice_get given (k.segment - 1) ≡ Some (piece_of s))

same_Ok : {R : Type 0} (x y : R) → ◌≡◌ {A = Result R LinkRefusal} (Ok x) (Ok y) → x ≡ y
same_Ok x y e = cc

-- ---- words alone, and no numbers

module _ (f : TrueSegments) (o : AreSoundSegments f) where
  -- the same but for the last acknowledgement
  with_last : (last : ℕ) → f.last ≤ last → last ≤ highest_received f → AreSoundSegments (record f { last = last })
  with_last last more most = record {
    acknowledged = o.acknowledged;
    few = o.few;
    last = most;
    recent = let r = o.recent in omega arith;
    cut = let c = o.cut in record { all = c.all; none_left = c.none_left };
    passed = let p = o.passed in record { first = p.first; rest = p.rest; are = p.are; many = p.many; make = p.make; wholly = p.wholly };
  }

  named_sent : (words : List AckWord) (names : Named) → AreNamed words f.last (highest_received f) names → (segment : ℕ) →
      IsGiven limits (number_in segment) (highest_given f) →
      SendsFrom f (record f { last = names.last }) (sending segment names f (record f { last = names.last })).known
  named_sent words names n segment number = record {
    tells = record { given = refl; received = refl; acknowledged = refl; last = refl; last_before = refl };
    sound = with_last names.last n.more n.most;
    received = refl;
    acknowledged = refl;
    handed = refl;
    delivered = refl;
    more = [];
    given = sym (append-nil f.given);
    more_last = n.more;
    number = number;
    acks = n.acks;
    at_most = n.numbers;
  }

  -- a sending, and what is so of its words
  pub record SendsWords (words : List AckWord) (s : Sending TrueSegments Numbers) : Type 0 where
    pub sends : SendsFrom f s.segments s.known
    pub words_are : AreWords words s.known.acknowledgements

  pub acks_sent : (words : List AckWord) (s : Sending TrueSegments Numbers) → sends_acks words f ≡ Ok s → SendsWords words s
  acks_sent words s e = go (all_named false (highest_received f) words f.last) refl e
    where
      go : (n : Option Named) → all_named false (highest_received f) words f.last ≡ n → acks_named n f ≡ Ok s → SendsWords words s
      go None all e = absurd cc
      go (Some names) all e =
          let n = names_are false (highest_received f) words f.last names o.last all in
          subst (λ (x : Sending TrueSegments Numbers). SendsWords words x) (same_Ok (sending 0 names f (record f { last = names.last })) s e)
          (record { sends = named_sent words names n 0 tt; words_are = n.words })

  -- ---- a segment

  alike_is : (a b : Bool) → alike a b ≡ true → a ≡ b
  alike_is true b e = sym e
  alike_is false true e = absurd cc
  alike_is false false e = refl

  same_is : (p q : Piece) → same_piece p q ≡ true → q ≡ p
  same_is p q e =
      let a = and_parts (alike p.begins q.begins) (alike p.ends q.ends && bytes_eq p.body q.body) e in
      let b = and_parts (alike p.ends q.ends) (bytes_eq p.body q.body) a.1 in
      let begins : p.begins ≡ q.begins = alike_is p.begins q.begins a.0 in
      let ends : p.ends ≡ q.ends = alike_is p.ends q.ends b.0 in
      let body : p.body ≡ q.body = (bytes_eq-Decides p.body q.body).0 b.1 in
      ap (λ (x : List ℕ). record q { body = x }) (sym body) ∙ ap (λ (x : Bool). record q { ends = x; body = p.body }) (sym ends) ∙
      ap (λ (x : Bool). record p { begins = x }) (sym begins)

  pub record SendsSegment (s : SegmentValue) (x : Sending TrueSegments Numbers) : Type 0 where
    pub sends : SendsFrom f x.segments x.known
    pub is_true : IsTrueSegment s x.segments.given x.known

  module _ (s : SegmentValue) (x : Sending TrueSegments Numbers) (names : Named) (n : AreNamed s.acks f.last (highest_received f) names) where
    given_new : TrueSegments
    given_new = record f { last = names.last; given = f.given ++ piece_of s ∷ []; unsent = without_piece (piece_of s) f.unsent }

    pub new_sent : (segsize : ℕ) → s.number ≡ wire (highest_given f + 1) → sends_new segsize (piece_of s) names f ≡ Ok x → SendsSegment s x
    unfolding given_new
    new_sent segsize spelled e =
        let a = checked (nat_lt (highest_given f - f.acknowledged) REACH) LinkWindowFull _ x e in
        let b = checked (nat_le (length s.body) segsize) SegmentTooLong _ x a.1 in
        let c = checked (is_next_piece (piece_of s) f.unsent) WrongSegment _ x b.1 in
        let room : highest_given f - f.acknowledged < 2047 = ltb-true _ _ a.0 in
        let long : length (f.given ++ piece_of s ∷ []) ≡ length f.given + 1 = length-append f.given (piece_of s ∷ []) in
        let acknowledged = o.acknowledged in let recent = o.recent in let more = n.more in
        subst (λ (y : Sending TrueSegments Numbers). SendsSegment s y) (same_Ok (sending (highest_given f + 1) names f given_new) x c.1) (record {
          sends = record {
            tells = record { given = refl; received = refl; acknowledged = refl; last = refl; last_before = refl };
            sound = record {
              acknowledged = omega arith;
              few = omega arith;
              last = n.most;
              recent = omega arith;
              cut = cut_given (piece_of s) f given_new o.cut c.0 refl refl refl;
              passed = let p = o.passed in record { first = p.first; rest = p.rest; are = p.are; many = p.many; make = p.make; wholly = p.wholly };
            };
            received = refl;
            acknowledged = refl;
            handed = refl;
            delivered = refl;
            more = piece_of s ∷ [];
            given = refl;
            more_last = n.more;
            number = number_given (highest_given f + 1) (length (f.given ++ piece_of s ∷ [])) (omega arith) (omega arith);
            acks = n.acks;
            at_most = n.numbers;
          };
          is_true = record {
            some = omega arith;
            spelled = λ small. sym spelled;
            words = n.words;
            piece = inr (ap (slice_get (f.given ++ piece_of s ∷ [])) (let l : length f.given + 1 - 1 ≡ length f.given = omega arith in l) ∙
                next_at f.given [] (piece_of s));
          };
        })

    repeats : (number : ℕ) → is_repeat number (piece_of s) f ≡ true → (number ≤ f.acknowledged) ⊎ (slice_get f.given (number - 1) ≡ Some (piece_of s))
    repeats number e = go (or_cases (nat_le number f.acknowledged) (is_given (slice_get f.given (number - 1)) (piece_of s)) e)
      where
        same : (p : Option Piece) → slice_get f.given (number - 1) ≡ p → is_given p (piece_of s) ≡ true →
            slice_get f.given (number - 1) ≡ Some (piece_of s)
        same None at e = absurd cc
        same (Some p) at e = at ∙ ap Some (same_is (piece_of s) p e)

        go : (nat_le number f.acknowledged ≡ true) ⊎ (is_given (slice_get f.given (number - 1)) (piece_of s) ≡ true) → (number ≤ f.acknowledged) ⊎
            (slice_get f.given (number - 1) ≡ Some (piece_of s))
        go (inl l) = inl (leb-true _ _ l)
        go (inr g) = inr (same _ refl g)

    again_sent : sends_again (distance s.number (wire (highest_given f))) (piece_of s) names f ≡ Ok x → SendsSegment s x
    again_sent e =
        let a = checked (nat_lt (distance s.number (wire (highest_given f))) REACH && nat_lt (distance s.number (wire (highest_given f)))
        (highest_given f)) WrongSegment _ x e in
        let b = checked (is_repeat (highest_given f - distance s.number (wire (highest_given f))) (piece_of s) f) WrongSegment _ x a.1 in
        let t = and_parts (nat_lt (distance s.number (wire (highest_given f))) REACH)
        (nat_lt (distance s.number (wire (highest_given f))) (highest_given f)) a.0 in
        let near : distance s.number (wire (highest_given f)) < 2047 = ltb-true _ _ t.0 in
        let low : distance s.number (wire (highest_given f)) < highest_given f = ltb-true _ _ t.1 in
        subst (λ (y : Sending TrueSegments Numbers). SendsSegment s y)
        (same_Ok (sending (highest_given f - distance s.number (wire (highest_given f))) names f (record f { last = names.last })) x b.1)
        (record {
          sends = named_sent s.acks names n (highest_given f - distance s.number (wire (highest_given f)))
              (number_given _ _ (omega arith) (omega arith));
          is_true = record { some = omega arith; spelled = λ small. omega arith; words = n.words; piece = repeats _ b.0 };
        })

  pub segment_sent : (segsize : ℕ) (s : SegmentValue) (x : Sending TrueSegments Numbers) → sends_segment segsize s f ≡ Ok x → SendsSegment s x
  segment_sent segsize s x e = go (all_named (not (is_new s f)) (highest_received f) s.acks f.last) refl e
    where
      kind : (names : Named) → AreNamed s.acks f.last (highest_received f) names → (b : Bool) → is_new s f ≡ b →
          cond b (sends_new segsize (piece_of s) names f) (sends_again (distance s.number (wire (highest_given f))) (piece_of s) names f) ≡ Ok x →
          SendsSegment s x
      kind names n true new e = new_sent s x names n segsize (eqb-true s.number (wire (highest_given f + 1)) new) e
      kind names n false new e = again_sent s x names n e

      go : (n : Option Named) → all_named (not (is_new s f)) (highest_received f) s.acks f.last ≡ n → segment_named n segsize s f ≡ Ok x →
          SendsSegment s x
      go None all e = absurd cc
      go (Some names) all e = kind names (names_are (not (is_new s f)) (highest_received f) s.acks f.last names o.last all) (is_new s f) refl e

-- no words at all
pub other_sent : (f : TrueSegments) → AreSoundSegments f → SendsFrom f f (sends_other f)
other_sent f o = (acks_sent f o [] (sending 0 (record { numbers = []; last = f.last }) f f) refl).sends
