-- What is known of acknowledgements by the lists in which it is kept.
use Rattle.accusing_links.proofs.Prelude.{◌≡◌, ℕ, ◌+◌, Bool, true, false, ◌&&◌, ◌||◌, not, eqb, leb, Option, Some, None, Result, Ok, Err, OnOk}
use Rattle.accusing_links.proofs.Prelude.{List, [], ◌∷◌, ◌++◌, refl, sym, subst, ap, ap₂, ◌∙◌, arith, list_any, eqb-true, leb-true, leb-false, Data}
use Rattle.accusing_links.proofs.Prelude.{Ack, Nak, Rep, Strt, Stack, Flags, ReadingValue, reading, Sound, Malformed, AckWord, NspValue}
use Rattle.accusing_links.proofs.Prelude.{DataSegment, DataAck, LinkService, OtherDataAck, ConnectAck, NoOperation, ConnectInitiate, ConnectConfirm}
use Rattle.accusing_links.proofs.Prelude.{DisconnectInitiate, DisconnectConfirm, StepRefusal, REACH, wire, is_of_data, Carried, content, Passed}
use Rattle.accusing_links.proofs.Prelude.{Own, Other, AckSight, told_by, AreKnownAfter, has, is_this, packet_in, shown_in, shown_by, segment_of}
use Rattle.accusing_links.proofs.Prelude.{said_in, alone_in, sent_in, call_of, bit, calls_of, Told, told, is_back, is_back_message, is_back_in}
use Rattle.accusing_links.proofs.Prelude.{is_back_unit}
use Rattle.ddcmp_msg.specs.Reading.{HeaderBad, DataBad}
use Rattle.accusing_links.proofs.{Passing.own_passed, Passing.shown_noted, Saying.was_said_same}
use Rattle.accusing_links.proofs.Phases.{sent_own, sent_other, calls_own, calls_other}

-- ---- calls

one_call : (b : Bool) (n : ℕ) → (b || leb 1 n) ≡ leb 1 (bit b + n)
one_call false n = let same : n ≡ 0 + n = omega arith in ap (leb 1) same
one_call true n = go (leb 1 (1 + n)) refl
  where
    go : (c : Bool) → leb 1 (1 + n) ≡ c → true ≡ leb 1 (1 + n)
    go true e = sym e
    go false e = let l = leb-false 1 (1 + n) e in absurd (omega (arith, l))

two_calls : (b : Bool) (n : ℕ) → ((b && leb 1 n) || leb 2 n) ≡ leb 2 (bit b + n)
two_calls false n = let same : n ≡ 0 + n = omega arith in ap (leb 2) same
two_calls true n = go (leb 1 n) (leb 2 n) (leb 2 (1 + n)) refl refl refl
  where
    go : (a b c : Bool) → leb 1 n ≡ a → leb 2 n ≡ b → leb 2 (1 + n) ≡ c → (a || b) ≡ leb 2 (1 + n)
    go true b true e f g = sym g
    go true b false e f g = let l = leb-true 1 n e in let m = leb-false 2 (1 + n) g in absurd (omega (arith, l, m))
    go false true c e f g = let l = leb-false 1 n e in let m = leb-true 2 n f in absurd (omega (arith, l, m))
    go false false true e f g = let l = leb-false 1 n e in let m = leb-true 2 (1 + n) g in absurd (omega (arith, l, m))
    go false false false e f g = sym g

not_two : (n : ℕ) → not (leb 2 n) ≡ leb n 1
not_two n = go (leb 2 n) (leb n 1) refl refl
  where
    go : (a b : Bool) → leb 2 n ≡ a → leb n 1 ≡ b → not a ≡ leb n 1
    go true true e f = let l = leb-true 2 n e in let m = leb-true n 1 f in absurd (omega (arith, l, m))
    go true false e f = sym f
    go false true e f = sym f
    go false false e f = let l = leb-false 2 n e in let m = leb-false n 1 f in absurd (omega (arith, l, m))

-- the second from a link
pub second_call : {X Y : Type 0} (result : Result X Y) (far f : ℕ) (called called_now again again_now new : List (ℕ × ℕ × ℕ)) → called ≡ called_now →
    again ≡ again_now → has called 0 0 far ≡ true → OnOk result (has new 0 0 f ≡ (is_this (0, 0, far) 0 0 f || has again 0 0 f)) →
    OnOk result (has new 0 0 f ≡ ((eqb far f && has called_now 0 0 f) || has again_now 0 0 f))
second_call {X} {Y} (Err y) far f called called_now again again_now new one two was shown = tt
second_call {X} {Y} (Ok x) far f called called_now again again_now new one two was shown =
    shown ∙ (ap (λ (l : List (ℕ × ℕ × ℕ)). eqb far f || has l 0 0 f) two ∙ go (eqb far f) refl)
  where
    go : (b : Bool) → eqb far f ≡ b → (b || has again_now 0 0 f) ≡ ((b && has called_now 0 0 f) || has again_now 0 0 f)
    go true e =
        let same = eqb-true far f e in
        let there : has called_now 0 0 f ≡ true =
        subst (λ (l : List (ℕ × ℕ × ℕ)). has l 0 0 f ≡ true) one (subst (λ (n : ℕ). has called 0 0 n ≡ true) same was) in
        ap (λ (c : Bool). c || has again_now 0 0 f) (sym there)
    go false e = refl

module _ {X Y : Type 0} where
  pub other_told : (passed : List Passed) (unit : List ℕ) (old new : AckSight) (result : Result X Y) → AreKnownAfter old passed →
      new.said ≡ old.said → new.alone ≡ old.alone →
      ((o f n : ℕ) → OnOk result (has new.segments o f n ≡ (shown_by segment_of (packet_in (reading unit)) o f n || has old.segments o f n))) →
      ((f : ℕ) → OnOk result (has new.called 0 0 f ≡ (shown_by call_of (packet_in (reading unit)) 0 0 f || has old.called 0 0 f))) →
      ((f : ℕ) → OnOk result (has new.again 0 0 f
      ≡ ((shown_by call_of (packet_in (reading unit)) 0 0 f && has old.called 0 0 f) || has old.again 0 0 f))) →
      OnOk result (AreKnownAfter new (passed ++ Other unit ∷ []))
  other_told passed unit old new (Ok x) is said alone segments called again = record {
    segments = shown_noted segment_of passed unit (has old.segments) (has new.segments) is.segments segments;
    said = λ o f n. ap (λ (l : List (ℕ × ℕ × ℕ)). has l o f n) said ∙ (is.said o f n ∙ sym (sent_other (λ num. said_in) passed unit o f n));
    alone = λ u o n. ap (λ (l : List (ℕ × ℕ × ℕ)). has l u o n) alone ∙ (is.alone u o n ∙ sym (sent_other alone_in passed unit u o n));
    called = λ f.
        called f ∙ (ap (λ (b : Bool). shown_by call_of (packet_in (reading unit)) 0 0 f || b) (is.called f)
        ∙ (one_call (shown_by call_of (packet_in (reading unit)) 0 0 f) (calls_of passed f) ∙ ap (leb 1) (sym (calls_other passed unit f))));
    again = λ f.
        again f ∙ (ap₂ (λ (a b : Bool). (shown_by call_of (packet_in (reading unit)) 0 0 f && a) || b) (is.called f) (is.again f)
        ∙ (two_calls (shown_by call_of (packet_in (reading unit)) 0 0 f) (calls_of passed f) ∙ ap (leb 2) (sym (calls_other passed unit f))));
  }
  other_told passed unit old new (Err y) is said alone segments called again = tt

  pub own_told : (passed : List Passed) (unit : List ℕ) (old new : AckSight) (result : Result X Y) → AreKnownAfter old passed →
      new.segments ≡ old.segments → new.called ≡ old.called → new.again ≡ old.again →
      ((o f n : ℕ) → OnOk result (has new.said o f n ≡ (sent_in (λ num. said_in) (reading unit) o f n || has old.said o f n))) →
      ((u o n : ℕ) → OnOk result (has new.alone u o n ≡ (sent_in alone_in (reading unit) u o n || has old.alone u o n))) →
      OnOk result (AreKnownAfter new (passed ++ Own unit ∷ []))
  own_told passed unit old new (Ok x) is segments called again said alone = record {
    segments = λ o f n.
        ap (λ (l : List (ℕ × ℕ × ℕ)). has l o f n) segments ∙ (is.segments o f n ∙ sym (own_passed segment_of passed unit o f n));
    said = λ o f n.
        said o f n ∙ (ap (λ (b : Bool). sent_in (λ num. said_in) (reading unit) o f n || b) (is.said o f n)
        ∙ sym (sent_own (λ num. said_in) passed unit o f n));
    alone = λ u o n.
        alone u o n ∙ (ap (λ (b : Bool). sent_in alone_in (reading unit) u o n || b) (is.alone u o n) ∙ sym (sent_own alone_in passed unit u o n));
    called = λ f. ap (λ (l : List (ℕ × ℕ × ℕ)). has l 0 0 f) called ∙ (is.called f ∙ ap (leb 1) (sym (calls_own passed unit f)));
    again = λ f. ap (λ (l : List (ℕ × ℕ × ℕ)). has l 0 0 f) again ∙ (is.again f ∙ ap (leb 2) (sym (calls_own passed unit f)));
  }
  own_told passed unit old new (Err y) is segments called again said alone = tt

-- ---- what is told alike goes back alike

record AreAlike (h k : Told) : Type 0 where
  segments : (a b c : ℕ) → h.segments a b c ≡ k.segments a b c
  said : (a b c : ℕ) → h.said a b c ≡ k.said a b c
  alone : (a b c : ℕ) → h.alone a b c ≡ k.alone a b c
  is_one : (far : ℕ) → h.is_one far ≡ k.is_one far

module _ (h k : Told) (alike : AreAlike h k) where
  word_same : (num own far : ℕ) (word : AckWord) → is_back h num own far word ≡ is_back k num own far word
  word_same num own far word =
      ap (λ (b : Bool). is_of_data word.qualifier && b)
      (ap₂ (λ (a b : Bool). not a && b) (alike.alone num own word.number)
      (ap₂ (λ (a b : Bool). not a && b) (alike.segments own far (wire (word.number + 2048)))
      (was_said_same (h.said own far) (k.said own far) (alike.said own far) word.number REACH)))

  words_same : (num own far : ℕ) (words : List AckWord) → list_any (is_back h num own far) words ≡ list_any (is_back k num own far) words
  words_same num own far [] = refl
  words_same num own far (word ∷ words) = ap₂ (λ (a b : Bool). a || b) (word_same num own far word) (words_same num own far words)

  message_same : (num : ℕ) (m : NspValue) → is_back_message h num m ≡ is_back_message k num m
  message_same num (DataAck dst src acks) = ap₂ (λ (a b : Bool). a && b) (alike.is_one dst) (words_same num src dst acks)
  message_same num (DataSegment s) = refl
  message_same num (LinkService interrupt dst src rest) = refl
  message_same num (OtherDataAck dst src rest) = refl
  message_same num (ConnectAck dst) = refl
  message_same num (NoOperation rest) = refl
  message_same num (ConnectInitiate retransmitted src services info segsize user_data) = refl
  message_same num (ConnectConfirm dst src services info segsize user_data) = refl
  message_same num (DisconnectInitiate dst src reason user_data) = refl
  message_same num (DisconnectConfirm dst src reason) = refl

  content_same : (num : ℕ) (c : Result (Option Carried) StepRefusal) →
      shown_in (λ m first second third. is_back_message h num m) c 0 0 0 ≡ shown_in (λ m first second third. is_back_message k num m) c 0 0 0
  content_same num (Ok None) = refl
  content_same num (Ok (Some packet)) = message_same num packet.message
  content_same num (Err refusal) = refl

  reading_same : (r : ReadingValue) → is_back_in h r ≡ is_back_in k r
  reading_same (Sound (Data flags resp num body)) = content_same num (content body)
  reading_same (Sound (Ack flags resp)) = refl
  reading_same (Sound (Nak flags reason resp)) = refl
  reading_same (Sound (Rep flags num)) = refl
  reading_same (Sound (Strt flags)) = refl
  reading_same (Sound (Stack flags)) = refl
  reading_same HeaderBad = refl
  reading_same DataBad = refl
  reading_same (Malformed departure) = refl

pub back_known : (sight : AckSight) (passed : List Passed) → AreKnownAfter sight passed → (unit : List ℕ) →
    is_back_unit (told_by sight) unit ≡ is_back_unit (told passed) unit
back_known sight passed is unit = reading_same (told_by sight) (told passed) (record {
  segments = is.segments;
  said = is.said;
  alone = is.alone;
  is_one = λ far. ap not (is.again far) ∙ not_two (calls_of passed far);
}) (reading unit)

-- ---- by the lists inside

pub first_call : {X Y : Type 0} (result : Result X Y) (far f : ℕ) (called called_now new : List (ℕ × ℕ × ℕ)) → called ≡ called_now →
    OnOk result (has new 0 0 f ≡ (is_this (0, 0, far) 0 0 f || has called 0 0 f)) → OnOk result (has new 0 0 f ≡ (eqb far f || has called_now 0 0 f))
first_call {X} {Y} (Ok x) far f called called_now new same shown =
    shown ∙ ap (λ (l : List (ℕ × ℕ × ℕ)). eqb far f || has l 0 0 f) same
first_call {X} {Y} (Err y) far f called called_now new same shown = tt

pub packet_told : {X Y : Type 0} (result : Result X Y) (num u o n : ℕ) (one two : Result (Option Carried) StepRefusal) (old new : List (ℕ × ℕ × ℕ)) →
    one ≡ two → OnOk result (has new u o n ≡ (shown_in (alone_in num) two u o n || has old u o n)) →
    OnOk result (has new u o n ≡ (shown_in (alone_in num) one u o n || has old u o n))
packet_told {X} {Y} (Ok x) num u o n one two old new same shown =
    shown ∙ ap (λ (c : Result (Option Carried) StepRefusal). shown_in (alone_in num) c u o n || has old u o n) (sym same)
packet_told {X} {Y} (Err y) num u o n one two old new same shown = tt

pub unit_told : {X Y : Type 0} (result : Result X Y) (flags : Flags) (resp num number u o n : ℕ) (body : List ℕ) (r : ReadingValue)
    (old new : List (ℕ × ℕ × ℕ)) → r ≡ Sound (Data flags resp num body) → number ≡ num →
    OnOk result (has new u o n ≡ (shown_in (alone_in number) (content body) u o n || has old u o n)) →
    OnOk result (has new u o n ≡ (sent_in alone_in r u o n || has old u o n))
unit_told {X} {Y} (Ok x) flags resp num number u o n body r old new is same shown =
    shown
    ∙ (ap (λ (k : ℕ). shown_in (alone_in k) (content body) u o n || has old u o n) same
    ∙ ap (λ (s : ReadingValue). sent_in alone_in s u o n || has old u o n) (sym is))
unit_told {X} {Y} (Err y) flags resp num number u o n body r old new is same shown = tt
