-- What passed stays so; and what is in a unit that passes is known then.
use Rattle.accusing_segments.proofs.Prelude.{◌≡◌, ℕ, zero, suc, ◌+◌, ◌<◌, Bool, true, false, ◌||◌, ◌≤◌, leb, eqb, Option, Some, Result, Ok, List}
use Rattle.accusing_segments.proofs.Prelude.{[], ◌∷◌, ◌++◌, refl, subst, ap, ◌∙◌, arith, list_any, and_from, eq-eqb, eqb-false, le-leb, or_left}
use Rattle.accusing_segments.proofs.Prelude.{or_right, MessageValue, Data, Ack, Nak, Rep, Strt, Stack, ReadingValue, reading, Sound, AckWord}
use Rattle.accusing_segments.proofs.Prelude.{SegmentValue, NspValue, DataSegment, LinkService, DataAck, OtherDataAck, ConnectAck, NoOperation}
use Rattle.accusing_segments.proofs.Prelude.{ConnectInitiate, ConnectConfirm, DisconnectInitiate, DisconnectConfirm, StepRefusal, body_of, REACH}
use Rattle.accusing_segments.proofs.Prelude.{wire, is_of_data, Carried, content, Passed, Own, Other, packet_in, Known, is_this, bit, end_sent}
use Rattle.accusing_segments.proofs.Prelude.{is_named, words_name, acknowledges, is_room, has_room, message_of, message_within, said, in_unit}
use Rattle.accusing_segments.proofs.Prelude.{by_own, by_other, history, is_covered, is_acknowledged, is_first, is_next, is_right, is_short}
use Rattle.accusing_segments.proofs.Prelude.{is_in_room}
use Rattle.std.proofs.lemmas.Bool.{eqb-true}
use Rattle.accusing_segments.proofs.{Gave.More, Gave.WordsPassed, RightLinks.Links, LinkSteps.HasCome, LinkSends.HasGone}
use Rattle.accusing_segments.proofs.SegmentSends.{IsFine, Released, First, Next}

-- ---- one unit more

or_same : (a b c d : Bool) → b ≡ (c || d) → (a || b) ≡ (c || (a || d))
or_same true b true d e = refl
or_same true b false d e = refl
or_same false b c d e = e

module _ (says : NspValue → Known) (own far number what : ℕ) where
  abbrev this : List ℕ → Bool
  this unit = in_unit says unit own far number what

  pub own_more : (passed : List Passed) (unit : List ℕ) →
      by_own says (passed ++ Own unit ∷ []) own far number what ≡ (this unit || by_own says passed own far number what)
  own_more [] unit = refl
  own_more (Own first ∷ passed) unit = or_same (this first) _ _ _ (own_more passed unit)
  own_more (Other first ∷ passed) unit = own_more passed unit

  pub own_same : (passed : List Passed) (unit : List ℕ) →
      by_own says (passed ++ Other unit ∷ []) own far number what ≡ by_own says passed own far number what
  own_same [] unit = refl
  own_same (Own first ∷ passed) unit = ap (λ (b : Bool). this first || b) (own_same passed unit)
  own_same (Other first ∷ passed) unit = own_same passed unit

  pub other_more : (passed : List Passed) (unit : List ℕ) →
      by_other says (passed ++ Other unit ∷ []) own far number what ≡ (this unit || by_other says passed own far number what)
  other_more [] unit = refl
  other_more (Own first ∷ passed) unit = other_more passed unit
  other_more (Other first ∷ passed) unit = or_same (this first) _ _ _ (other_more passed unit)

  pub other_same : (passed : List Passed) (unit : List ℕ) →
      by_other says (passed ++ Own unit ∷ []) own far number what ≡ by_other says passed own far number what
  other_same [] unit = refl
  other_same (Own first ∷ passed) unit = other_same passed unit
  other_same (Other first ∷ passed) unit = ap (λ (b : Bool). this first || b) (other_same passed unit)

  own_stays : (passed : List Passed) (one : Passed) → by_own says passed own far number what ≡ true →
      by_own says (passed ++ one ∷ []) own far number what ≡ true
  own_stays passed (Own unit) e = own_more passed unit ∙ or_right (this unit) _ e
  own_stays passed (Other unit) e = own_same passed unit ∙ e

  pub other_stays : (passed : List Passed) (one : Passed) → by_other says passed own far number what ≡ true →
      by_other says (passed ++ one ∷ []) own far number what ≡ true
  other_stays passed (Own unit) e = other_same passed unit ∙ e
  other_stays passed (Other unit) e = other_more passed unit ∙ or_right (this unit) _ e

-- ---- what passed of each link

-- this is known of a node that drops no packet that it composed
abbrev pub Unless : (drops : Bool) → Type 0 → Type 0
Unless true P = Unit {0}
Unless false P = P

pub unless : (drops : Bool) (P : Type 0) → P → Unless drops P
unless true P is = tt
unless false P is = is

unless_more : (drops : Bool) (P P' : Type 0) → (P → P') → Unless drops P → Unless drops P'
unless_more true P P' more is = tt
unless_more false P P' more is = more is

or_more : (a b c d : Bool) → (a ≡ true → c ≡ true) → (b ≡ true → d ≡ true) → (a || b) ≡ true → (c || d) ≡ true
or_more true b c d one two e = or_left c d (one refl)
or_more false b c d one two e = or_right c d (two e)

-- `drops` tells whether the node may drop packets that it composed
abbrev pub AsLinks : (drops : Bool) → List Passed → Links
AsLinks drops passed own far = record {
  ends = λ n e. Unless drops (by_own end_sent passed own far n (bit e) ≡ true);
  word = λ n. by_other acknowledges passed own far n 0 ≡ true;
  room = λ n. (by_other has_room passed 0 far n 0 || by_other has_room passed own far n 0) ≡ true;
}

pub passed_more : (drops : Bool) (passed : List Passed) (one : Passed) (own far : ℕ) →
    More (AsLinks drops passed own far) (AsLinks drops (passed ++ one ∷ []) own far)
passed_more drops passed one own far = record {
  ends = λ n b e. unless_more drops _ _ (own_stays end_sent own far n (bit b) passed one) e;
  word = λ n e. other_stays acknowledges own far n 0 passed one e;
  room = λ n e. or_more _ _ _ _ (other_stays has_room 0 far n 0 passed one) (other_stays has_room own far n 0 passed one) e;
}

-- ---- what is in a unit

-- of a packet with a message of the links
pub in_unit_is : (says : NspValue → Known) (unit : List ℕ) (m : MessageValue) (packet : Carried) → reading unit ≡ Sound m →
    content (body_of m) ≡ Ok (Some packet) → (own far number what : ℕ) →
    in_unit says unit own far number what ≡ says packet.message own far number what
in_unit_is says unit (Data flags resp num body) packet read is own far number what =
    ap (λ (r : ReadingValue). said says (message_within (packet_in r)) own far number what) read
    ∙ ap (λ (c : Result (Option Carried) StepRefusal). said says (message_of c) own far number what) is
in_unit_is says unit (Ack flags resp) packet read is own far number what = absurd cc
in_unit_is says unit (Nak flags reason resp) packet read is own far number what = absurd cc
in_unit_is says unit (Rep flags num) packet read is own far number what = absurd cc
in_unit_is says unit (Strt flags) packet read is own far number what = absurd cc
in_unit_is says unit (Stack flags) packet read is own far number what = absurd cc

pub this_is : (a b c d : ℕ) → is_this (a, b, c, d) a b c d ≡ true
this_is a b c d =
    and_from (eqb a a) _ (eq-eqb a a refl)
    (and_from (eqb b b) _ (eq-eqb b b refl) (and_from (eqb c c) (eqb d d) (eq-eqb c c refl) (eq-eqb d d refl)))

-- a segment in a unit of this side was sent
module _ (drops : Bool) (passed : List Passed) (unit : List ℕ) (sound : MessageValue) (packet : Carried) (read : reading unit ≡ Sound sound)
    (is : content (body_of sound) ≡ Ok (Some packet)) where
  said_now : (says : NspValue → Known) (own far number what : ℕ) → says packet.message own far number what ≡ true →
      by_own says (passed ++ Own unit ∷ []) own far number what ≡ true
  said_now says own far number what e =
      own_more says own far number what passed unit
      ∙ or_left _ _ (in_unit_is says unit sound packet read is own far number what ∙ e)

  gone_as : (m : NspValue) → packet.message ≡ m → HasGone (AsLinks drops (passed ++ Own unit ∷ [])) m
  gone_as (DataSegment s) same =
      unless drops _ (said_now end_sent s.srcaddr s.dstaddr s.number (bit s.ends)
      (ap (λ (m : NspValue). end_sent m s.srcaddr s.dstaddr s.number (bit s.ends)) same ∙ this_is s.srcaddr s.dstaddr s.number (bit s.ends)))
  gone_as (LinkService interrupt dst src rest) same = tt
  gone_as (DataAck dst src acks) same = tt
  gone_as (OtherDataAck dst src rest) same = tt
  gone_as (ConnectAck dst) same = tt
  gone_as (NoOperation rest) same = tt
  gone_as (ConnectInitiate retransmitted src services info segsize user_data) same = tt
  gone_as (ConnectConfirm dst src services info segsize user_data) same = tt
  gone_as (DisconnectInitiate dst src reason user_data) same = tt
  gone_as (DisconnectConfirm dst src reason) same = tt

  pub gone_now : HasGone (AsLinks drops (passed ++ Own unit ∷ [])) packet.message
  gone_now = gone_as packet.message refl

-- of a node that may drop packets nothing is asked
pub gone_any : (passed : List Passed) (m : NspValue) → HasGone (AsLinks true passed) m
gone_any passed (DataSegment s) = tt
gone_any passed (LinkService interrupt dst src rest) = tt
gone_any passed (DataAck dst src acks) = tt
gone_any passed (OtherDataAck dst src rest) = tt
gone_any passed (ConnectAck dst) = tt
gone_any passed (NoOperation rest) = tt
gone_any passed (ConnectInitiate retransmitted src services info segsize user_data) = tt
gone_any passed (ConnectConfirm dst src services info segsize user_data) = tt
gone_any passed (DisconnectInitiate dst src reason user_data) = tt
gone_any passed (DisconnectConfirm dst src reason) = tt

-- ---- what comes

-- what a unit of the other side acknowledges was acknowledged, and for what it has room there is room
pub record Came (passed : List Passed) (unit : List ℕ) : Type 0 where
  pub words : (own far number : ℕ) → in_unit acknowledges unit own far number 0 ≡ true → by_other acknowledges passed own far number 0 ≡ true
  pub rooms : (own far bytes : ℕ) → in_unit has_room unit own far bytes 0 ≡ true → by_other has_room passed own far bytes 0 ≡ true

this_room : (own far segsize bytes : ℕ) → bytes ≤ segsize → is_room own far segsize own far bytes 0 ≡ true
this_room own far segsize bytes l =
    and_from (eqb own own) _ (eq-eqb own own refl) (and_from (eqb far far) (leb bytes segsize) (eq-eqb far far refl) (le-leb bytes segsize l))

words_all : (W : ℕ → Type 0) (words : List AckWord) → ((number : ℕ) → list_any (is_named number 0) words ≡ true → W number) → WordsPassed W words
words_all W [] each = tt
words_all W (word ∷ words) each = (
  λ data_word. each word.number (or_left (is_named word.number 0 word) _
      (and_from (is_of_data word.qualifier) _ data_word (and_from (eqb word.number word.number) true (eq-eqb word.number word.number refl) refl))),
  words_all W words (λ number e. each number (or_right (is_named number 0 word) _ e)),
)

words_are : (dst src number : ℕ) (words : List AckWord) → list_any (is_named number 0) words ≡ true → words_name dst src words dst src number 0 ≡ true
words_are dst src number words e = and_from (eqb dst dst) _ (eq-eqb dst dst refl) (and_from (eqb src src) _ (eq-eqb src src refl) e)

module _ (drops : Bool) (passed : List Passed) (unit : List ℕ) (sound : MessageValue) (packet : Carried) (read : reading unit ≡ Sound sound)
    (is : content (body_of sound) ≡ Ok (Some packet)) (came : Came passed unit) where
  room_came : (m : NspValue) → packet.message ≡ m → (own far bytes : ℕ) → has_room m own far bytes 0 ≡ true →
      by_other has_room passed own far bytes 0 ≡ true
  room_came m same own far bytes e =
      came.rooms own far bytes (in_unit_is has_room unit sound packet read is own far bytes 0
      ∙ ap (λ (x : NspValue). has_room x own far bytes 0) same ∙ e)

  come_as : (m : NspValue) → packet.message ≡ m → HasCome (AsLinks drops passed) m
  come_as (DataSegment s) same =
      words_all (λ n. by_other acknowledges passed s.dstaddr s.srcaddr n 0 ≡ true) s.acks (λ number e.
      came.words s.dstaddr s.srcaddr number (in_unit_is acknowledges unit sound packet read is s.dstaddr s.srcaddr number 0
      ∙ ap (λ (m : NspValue). acknowledges m s.dstaddr s.srcaddr number 0) same ∙ words_are s.dstaddr s.srcaddr number s.acks e))
  come_as (DataAck dst src acks) same =
      words_all (λ n. by_other acknowledges passed dst src n 0 ≡ true) acks (λ number e.
      came.words dst src number (in_unit_is acknowledges unit sound packet read is dst src number 0
      ∙ ap (λ (m : NspValue). acknowledges m dst src number 0) same ∙ words_are dst src number acks e))
  come_as (LinkService interrupt dst src rest) same = tt
  come_as (OtherDataAck dst src rest) same = tt
  come_as (ConnectAck dst) same = tt
  come_as (NoOperation rest) same = tt
  come_as (ConnectInitiate retransmitted src services info segsize user_data) same =
      λ own n l. or_left _ _
      (room_came (ConnectInitiate retransmitted src services info segsize user_data) same 0 src n (this_room 0 src segsize n l))
  come_as (ConnectConfirm dst src services info segsize user_data) same =
      λ n l. or_right _ _ (room_came (ConnectConfirm dst src services info segsize user_data) same dst src n (this_room dst src segsize n l))
  come_as (DisconnectInitiate dst src reason user_data) same = tt
  come_as (DisconnectConfirm dst src reason) same = tt

  pub come_now : HasCome (AsLinks drops passed) packet.message
  come_now = come_as packet.message refl

-- ---- a segment that may be sent is right

pub covered : (named : ℕ → Bool) (number on count : ℕ) → on < count → named (wire (number + on)) ≡ true → is_covered named number count ≡ true
unfolding is_covered
covered named number on zero l e = absurd (omega (arith, l))
covered named number on (suc count) l e = go (eqb on count) refl (λ less. covered named number on count less e)
  where
    go : (b : Bool) → eqb on count ≡ b → (on < count → is_covered named number count ≡ true) →
        (named (wire (number + count)) || is_covered named number count) ≡ true
    go true f later = or_left _ _ (subst (λ (x : ℕ). named (wire (number + x)) ≡ true) (eqb-true on count f) e)
    go false f later = let other = eqb-false on count f in or_right (named (wire (number + count))) _ (later (omega (arith, l, other)))

pub fine_is_right : (passed : List Passed) (s : SegmentValue) → IsFine (AsLinks false passed s.srcaddr s.dstaddr) s →
    is_right (history passed) s ≡ true
fine_is_right passed s (First number begins room) =
    or_left (is_first s) _ (and_from (eqb s.number 1) s.begins (eq-eqb s.number 1 number) begins)
fine_is_right passed s (Next ends room) = or_right (is_first s) _ (or_left (is_next (history passed) s) _ ends)
fine_is_right passed s (Released e ends on near word) =
    or_right (is_first s) _
    (or_right (is_next (history passed) s) (is_acknowledged (history passed) s)
    (and_from _ _ (by_end e ends) (covered (λ n. (history passed).words s.srcaddr s.dstaddr n 0) s.number on REACH near word)))
  where
    by_end : (b : Bool) → (history passed).ends s.srcaddr s.dstaddr s.number (bit b) ≡ true →
        ((history passed).ends s.srcaddr s.dstaddr s.number 0 || (history passed).ends s.srcaddr s.dstaddr s.number 1) ≡ true
    by_end true f = or_right _ _ f
    by_end false f = or_left _ _ f

-- and in room, whether packets may be dropped or not
pub fine_fits : (drops : Bool) (passed : List Passed) (s : SegmentValue) → IsFine (AsLinks drops passed s.srcaddr s.dstaddr) s →
    is_in_room (history passed) s ≡ true
fine_fits drops passed s (First number begins room) = or_left (is_short (history passed) s) _ room
fine_fits drops passed s (Next ends room) = or_left (is_short (history passed) s) _ room
fine_fits drops passed s (Released e ends on near word) =
    or_right (is_short (history passed) s) _ (covered (λ n. (history passed).words s.srcaddr s.dstaddr n 0) s.number on REACH near word)
