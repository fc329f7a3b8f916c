-- Which pieces passed of this side from one link to another; and how many calls passed of the other side by which a link gets these addresses.
use Rattle.accusing_segments.proofs.Prelude.{◌≡◌, ℕ, ◌+◌, ◌≤◌, Bool, true, false, ◌&&◌, ◌||◌, Option, Some, None, Result, Ok, Err, List, [], ◌∷◌}
use Rattle.accusing_segments.proofs.Prelude.{◌++◌, refl, sym, subst, ap, ◌∙◌, ◌⊎◌, inl, inr, arith, or_right, MessageValue, Data, Ack, Nak, Rep}
use Rattle.accusing_segments.proofs.Prelude.{Strt, Stack, ReadingValue, reading, Sound, NspValue, DataSegment, LinkService, DataAck, OtherDataAck}
use Rattle.accusing_segments.proofs.Prelude.{ConnectAck, NoOperation, ConnectInitiate, ConnectConfirm, DisconnectInitiate, DisconnectConfirm}
use Rattle.accusing_segments.proofs.Prelude.{StepRefusal, body_of, Queues, Carried, Piece, piece_of, content, Passed, Own, Other, packet_in}
use Rattle.accusing_segments.proofs.Prelude.{message_of, message_within, message_in, in_unit, by_other, calls, called_twice}
use Rattle.accusing_segments.proofs.{SentPieces.Shown, OneCallSends.IsOf}
use Rattle.accusing_segments.proofs.OneCallNodes.{WasSent, InContent, InMessage}

module _ (queues : Queues) (own far : ℕ) where
  -- ---- what was sent from its own address to its far one

  abbrev pub InOption : Option NspValue → Shown
  InOption None n p = ⊥
  InOption (Some m) n p = IsOf own far m n p

  abbrev pub InUnit : List ℕ → Shown
  InUnit unit n p = InOption (message_in unit) n p

  abbrev pub SentIn : List Passed → Shown
  SentIn [] n p = ⊥
  SentIn (Own unit ∷ passed) n p = InUnit unit n p ⊎ SentIn passed n p
  SentIn (Other unit ∷ passed) n p = SentIn passed n p

  pub sent_stays : (passed : List Passed) (one : Passed) (n : ℕ) (p : Piece) → SentIn passed n p → SentIn (passed ++ one ∷ []) n p
  sent_stays [] one n p sent = absurd sent
  sent_stays (Own unit ∷ passed) one n p (inl here) = inl here
  sent_stays (Own unit ∷ passed) one n p (inr there) = inr (sent_stays passed one n p there)
  sent_stays (Other unit ∷ passed) one n p sent = sent_stays passed one n p sent

  pub sent_now : (passed : List Passed) (unit : List ℕ) (n : ℕ) (p : Piece) → InUnit unit n p → SentIn (passed ++ Own unit ∷ []) n p
  sent_now [] unit n p this = inl this
  sent_now (Own first ∷ passed) unit n p this = inr (sent_now passed unit n p this)
  sent_now (Other first ∷ passed) unit n p this = sent_now passed unit n p this

  pub sent_before : (passed : List Passed) (unit : List ℕ) (n : ℕ) (p : Piece) → SentIn (passed ++ Own unit ∷ []) n p →
      SentIn passed n p ⊎ InUnit unit n p
  sent_before [] unit n p (inl this) = inr this
  sent_before [] unit n p (inr none) = absurd none
  sent_before (Own first ∷ passed) unit n p (inl here) = inl (inl here)
  sent_before (Own first ∷ passed) unit n p (inr there) = go (sent_before passed unit n p there)
    where
      go : SentIn passed n p ⊎ InUnit unit n p → (InUnit first n p ⊎ SentIn passed n p) ⊎ InUnit unit n p
      go (inl was) = inl (inr was)
      go (inr this) = inr this
  sent_before (Other first ∷ passed) unit n p sent = sent_before passed unit n p sent

  pub sent_same : (passed : List Passed) (unit : List ℕ) (n : ℕ) (p : Piece) → SentIn (passed ++ Other unit ∷ []) n p → SentIn passed n p
  sent_same [] unit n p sent = absurd sent
  sent_same (Own first ∷ passed) unit n p (inl here) = inl here
  sent_same (Own first ∷ passed) unit n p (inr there) = inr (sent_same passed unit n p there)
  sent_same (Other first ∷ passed) unit n p sent = sent_same passed unit n p sent

  -- a unit with this message
  content_option : (c : Result (Option Carried) StepRefusal) (n : ℕ) (p : Piece) → InOption (message_of c) n p → InContent queues own far c n p
  content_option (Ok None) n p this = absurd this
  content_option (Ok (Some packet)) n p this = this
  content_option (Err refusal) n p this = absurd this

  pub to_message : (r : ReadingValue) (m : MessageValue) → r ≡ Sound m → (n : ℕ) (p : Piece) → InOption (message_within (packet_in r)) n p →
      InMessage queues own far m n p
  to_message r m read n p this = go m (subst (λ (x : ReadingValue). InOption (message_within (packet_in x)) n p) read this)
    where
      go : (m : MessageValue) → InOption (message_within (packet_in (Sound m))) n p → InMessage queues own far m n p
      go (Data flags resp num body) this = content_option (content body) n p this
      go (Ack flags resp) this = absurd this
      go (Nak flags reason resp) this = absurd this
      go (Rep flags num) this = absurd this
      go (Strt flags) this = absurd this
      go (Stack flags) this = absurd this

  -- with this packet
  pub message_is : (unit : List ℕ) (m : MessageValue) (packet : Carried) → reading unit ≡ Sound m → content (body_of m) ≡ Ok (Some packet) →
      message_in unit ≡ Some packet.message
  message_is unit (Data flags resp num body) packet read is =
      ap (λ (r : ReadingValue). message_within (packet_in r)) read ∙ ap (λ (c : Result (Option Carried) StepRefusal). message_of c) is
  message_is unit (Ack flags resp) packet read is = absurd cc
  message_is unit (Nak flags reason resp) packet read is = absurd cc
  message_is unit (Rep flags num) packet read is = absurd cc
  message_is unit (Strt flags) packet read is = absurd cc
  message_is unit (Stack flags) packet read is = absurd cc

  pub gone_sent : (T : Shown) (m : NspValue) → ((n : ℕ) (p : Piece) → IsOf own far m n p → T n p) → WasSent queues own far T m
  gone_sent T (DataSegment m) each = λ o f. each m.number (piece_of m) ((o, f), (refl, refl))
  gone_sent T (LinkService interrupt dst src rest) each = tt
  gone_sent T (DataAck dst src acks) each = tt
  gone_sent T (OtherDataAck dst src rest) each = tt
  gone_sent T (ConnectAck dst) each = tt
  gone_sent T (NoOperation rest) each = tt
  gone_sent T (ConnectInitiate retransmitted src services info segsize user_data) each = tt
  gone_sent T (ConnectConfirm dst src services info segsize user_data) each = tt
  gone_sent T (DisconnectInitiate dst src reason user_data) each = tt
  gone_sent T (DisconnectConfirm dst src reason) each = tt

  -- one piece is in a message
  once : (m : NspValue) (n : ℕ) (p q : Piece) → IsOf own far m n p → IsOf own far m n q → p ≡ q
  once (DataSegment m) n p q one two = one.1.1 ∙ sym two.1.1
  once (LinkService interrupt dst src rest) n p q one two = absurd one
  once (DataAck dst src acks) n p q one two = absurd one
  once (OtherDataAck dst src rest) n p q one two = absurd one
  once (ConnectAck dst) n p q one two = absurd one
  once (NoOperation rest) n p q one two = absurd one
  once (ConnectInitiate retransmitted src services info segsize user_data) n p q one two = absurd one
  once (ConnectConfirm dst src services info segsize user_data) n p q one two = absurd one
  once (DisconnectInitiate dst src reason user_data) n p q one two = absurd one
  once (DisconnectConfirm dst src reason) n p q one two = absurd one

  pub once_in : (o : Option NspValue) (n : ℕ) (p q : Piece) → InOption o n p → InOption o n q → p ≡ q
  once_in None n p q one two = absurd one
  once_in (Some m) n p q one two = once m n p q one two

  -- ---- how many calls passed, and how many are coming

  abbrev pub is_call : List ℕ → Bool
  is_call unit = in_unit calls unit 0 far 0 0 || in_unit calls unit own far 0 0

  abbrev pub one_more : Bool → ℕ → ℕ
  one_more true n = n + 1
  one_more false n = n

  abbrev pub passed_calls : List Passed → ℕ
  passed_calls [] = 0
  passed_calls (Own unit ∷ passed) = passed_calls passed
  passed_calls (Other unit ∷ passed) = one_more (is_call unit) (passed_calls passed)

  abbrev pub coming_calls : List (List ℕ) → ℕ
  coming_calls [] = 0
  coming_calls (unit ∷ units) = one_more (is_call unit) (coming_calls units)

  swap_more : (a b : Bool) (n : ℕ) → one_more a (one_more b n) ≡ one_more b (one_more a n)
  swap_more true true n = refl
  swap_more true false n = refl
  swap_more false b n = refl

  more_less : (b : Bool) (n m : ℕ) → n ≤ m → one_more b n ≤ one_more b m
  more_less true n m l = omega (arith, l)
  more_less false n m l = l

  pub calls_own : (passed : List Passed) (unit : List ℕ) → passed_calls (passed ++ Own unit ∷ []) ≡ passed_calls passed
  calls_own [] unit = refl
  calls_own (Own first ∷ passed) unit = calls_own passed unit
  calls_own (Other first ∷ passed) unit = ap (one_more (is_call first)) (calls_own passed unit)

  pub calls_other : (passed : List Passed) (unit : List ℕ) → passed_calls (passed ++ Other unit ∷ []) ≡ one_more (is_call unit) (passed_calls passed)
  calls_other [] unit = refl
  calls_other (Own first ∷ passed) unit = calls_other passed unit
  calls_other (Other first ∷ passed) unit =
      ap (one_more (is_call first)) (calls_other passed unit) ∙ swap_more (is_call first) (is_call unit) (passed_calls passed)

  pub coming_pushed : (units : List (List ℕ)) (unit : List ℕ) → coming_calls (units ++ unit ∷ []) ≡ one_more (is_call unit) (coming_calls units)
  coming_pushed [] unit = refl
  coming_pushed (first ∷ units) unit =
      ap (one_more (is_call first)) (coming_pushed units unit) ∙ swap_more (is_call first) (is_call unit) (coming_calls units)

  pub coming_behind : (lost : List (List ℕ)) (unit : List ℕ) (later : List (List ℕ)) →
      one_more (is_call unit) (coming_calls later) ≤ coming_calls (lost ++ unit ∷ later)
  coming_behind [] unit later = omega arith
  coming_behind (first ∷ lost) unit later = go (is_call first) (coming_behind lost unit later)
    where
      go : (b : Bool) → one_more (is_call unit) (coming_calls later) ≤ coming_calls (lost ++ unit ∷ later) →
          one_more (is_call unit) (coming_calls later) ≤ one_more b (coming_calls (lost ++ unit ∷ later))
      go true l = omega (arith, l)
      go false l = l

  some_call : (passed : List Passed) → 1 ≤ passed_calls passed →
      (by_other calls passed 0 far 0 0 || by_other calls passed own far 0 0) ≡ true
  some_call [] l = absurd (omega (arith, l))
  some_call (Own unit ∷ passed) l = some_call passed l
  some_call (Other unit ∷ passed) l = go (in_unit calls unit 0 far 0 0) (in_unit calls unit own far 0 0) l (some_call passed)
    where
      go : (a b : Bool) → 1 ≤ one_more (a || b) (passed_calls passed) →
          (1 ≤ passed_calls passed → (by_other calls passed 0 far 0 0 || by_other calls passed own far 0 0) ≡ true) →
          ((a || by_other calls passed 0 far 0 0) || (b || by_other calls passed own far 0 0)) ≡ true
      go true b l later = refl
      go false true l later = or_right (by_other calls passed 0 far 0 0) true refl
      go false false l later = later l

  abbrev pub are_two : List Passed → Bool
  are_two passed =
      called_twice passed 0 far 0 0 || (called_twice passed own far 0 0 || (by_other calls passed 0 far 0 0 && by_other calls passed own far 0 0))

  pub two_calls : (passed : List Passed) → 2 ≤ passed_calls passed → are_two passed ≡ true
  two_calls [] l = absurd (omega (arith, l))
  two_calls (Own unit ∷ passed) l = two_calls passed l
  two_calls (Other unit ∷ passed) l =
      go (in_unit calls unit 0 far 0 0) (in_unit calls unit own far 0 0) (by_other calls passed 0 far 0 0) (by_other calls passed own far 0 0)
      (called_twice passed 0 far 0 0) (called_twice passed own far 0 0) l (some_call passed) (two_calls passed)
    where
      go : (a b c d e f : Bool) → 2 ≤ one_more (a || b) (passed_calls passed) → (1 ≤ passed_calls passed → (c || d) ≡ true) →
          (2 ≤ passed_calls passed → (e || (f || (c && d))) ≡ true) →
          (((a && c) || e) || (((b && d) || f) || ((a || c) && (b || d)))) ≡ true
      go true b true d e f l some two = refl
      go true b false true e f l some two = and_or e b f
        where
          and_or : (e b f : Bool) → (e || (((b && true) || f) || (b || true))) ≡ true
          and_or true b f = refl
          and_or false true f = refl
          and_or false false true = refl
          and_or false false false = refl
      go true b false false e f l some two = let none = some (omega (arith, l)) in absurd cc
      go false true true true e f l some two = all e
        where
          all : (e : Bool) → (e || true) ≡ true
          all true = refl
          all false = refl
      go false true true false e f l some two = all e f
        where
          all : (e f : Bool) → (e || (f || true)) ≡ true
          all true f = refl
          all false true = refl
          all false false = refl
      go false true false true e f l some two = all e
        where
          all : (e : Bool) → (e || true) ≡ true
          all true = refl
          all false = refl
      go false true false false e f l some two = let none = some (omega (arith, l)) in absurd cc
      go false false c d e f l some two = two l
