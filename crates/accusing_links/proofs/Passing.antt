-- What passed stays so; and tests of what passed that answer alike.
use Rattle.accusing_links.proofs.Prelude.{◌≡◌, ℕ, Bool, true, false, ◌&&◌, ◌||◌, not, cond, eqb, Option, Some, None, Result, Ok, Err, List, [], ◌∷◌}
use Rattle.accusing_links.proofs.Prelude.{◌++◌, refl, sym, ap, ap₂, ◌∙◌, ◌⊎◌, inl, inr, OnOk, OnErr, list_all, eq-eqb, and_from, reading, AckWord}
use Rattle.accusing_links.proofs.Prelude.{NspValue, DataSegment, DataAck, LinkService, OtherDataAck, ConnectAck, NoOperation, ConnectInitiate}
use Rattle.accusing_links.proofs.Prelude.{ConnectConfirm, DisconnectInitiate, DisconnectConfirm, Head, StepRefusal, Carried, is_of_data, content}
use Rattle.accusing_links.proofs.Prelude.{Passed, Own, Other, Wrong, NoLink, WrongAck, Sight, IsAfter, Shown, has, packet_in, shown_by, passed_of}
use Rattle.accusing_links.proofs.Prelude.{segment_of, CI, CC, RUN, connect_of, is_address, was_joined, can_run, has_link, Heard, goes_out}
use Rattle.accusing_links.proofs.Prelude.{is_right_word, are_right_words, wrong_of_link, wrong_content, wrong_in, wrong_unit}
use Rattle.dna_station.specs.declared.refusal.StepRefusal.TheVariants as reason
use Rattle.accusing_links.specs.declared.wrong.Wrong.TheVariants.{WrongNode}
use Rattle.accusing_links.proofs.{RightLinks.Numbers, Received.AreFine, LinkSteps.AcksFine, TiedSends.LinkFine}

-- ---- what passed

pub or_later : (a b : Bool) → b ≡ true → (a || b) ≡ true
or_later true b e = refl
or_later false b e = e

pub or_same : (a b c d : Bool) → b ≡ (c || d) → (a || b) ≡ (c || (a || d))
or_same true b true d e = refl
or_same true b false d e = refl
or_same false b c d e = e

-- one unit more
module _ (of : NspValue → Shown) where
  pub own_passed : (passed : List Passed) (unit : List ℕ) (a b c : ℕ) → passed_of of (passed ++ Own unit ∷ []) a b c ≡ passed_of of passed a b c
  own_passed [] unit a b c = refl
  own_passed (Own first ∷ passed) unit a b c = own_passed passed unit a b c
  own_passed (Other first ∷ passed) unit a b c = ap (λ (x : Bool). shown_by of (packet_in (reading first)) a b c || x) (own_passed passed unit a b c)

  pub other_passed : (passed : List Passed) (unit : List ℕ) (a b c : ℕ) →
      passed_of of (passed ++ Other unit ∷ []) a b c ≡ (shown_by of (packet_in (reading unit)) a b c || passed_of of passed a b c)
  other_passed [] unit a b c = refl
  other_passed (Own first ∷ passed) unit a b c = other_passed passed unit a b c
  other_passed (Other first ∷ passed) unit a b c =
      or_same (shown_by of (packet_in (reading first)) a b c) _ _ _ (other_passed passed unit a b c)

  pub passed_more : (passed : List Passed) (one : Passed) (a b c : ℕ) → passed_of of passed a b c ≡ true →
      passed_of of (passed ++ one ∷ []) a b c ≡ true
  passed_more passed (Own unit) a b c e = own_passed passed unit a b c ∙ e
  passed_more passed (Other unit) a b c e = other_passed passed unit a b c ∙ or_later (shown_by of (packet_in (reading unit)) a b c) _ e

-- ---- tests that answer alike

-- of the same numbers
abbrev pub Alike : Shown → Shown → Type 0
Alike one two = (a b c : ℕ) → one a b c ≡ two a b c

module _ (one two : Shown) (same : Alike one two) where
  word_same : (own far : ℕ) (word : AckWord) → is_right_word (one own far) word ≡ is_right_word (two own far) word
  word_same own far word = rw (same own far word.number) refl

  words_same : (own far : ℕ) (words : List AckWord) → list_all (is_right_word (one own far)) words ≡ list_all (is_right_word (two own far)) words
  words_same own far [] = refl
  words_same own far (word ∷ words) = ap₂ (λ (a b : Bool). a && b) (word_same own far word) (words_same own far words)

  message_same : (m : NspValue) → are_right_words one m ≡ are_right_words two m
  message_same (DataSegment s) = words_same _ _ s.acks
  message_same (DataAck dst src acks) = words_same _ _ acks
  message_same (LinkService interrupt dst src rest) = refl
  message_same (OtherDataAck dst src rest) = refl
  message_same (ConnectAck dst) = refl
  message_same (NoOperation rest) = refl
  message_same (ConnectInitiate retransmitted src services info segsize user_data) = refl
  message_same (ConnectConfirm dst src services info segsize user_data) = refl
  message_same (DisconnectInitiate dst src reason user_data) = refl
  message_same (DisconnectConfirm dst src reason) = refl

  and_same : (own : ℕ) (x y : Bool) → x ≡ y → (is_address own && x) ≡ (is_address own && y)
  and_same own x y e = ap (λ (b : Bool). is_address own && b) e

  joined_same : (own far : ℕ) → was_joined one own far ≡ was_joined two own far
  joined_same own far = ap₂ (λ (a b : Bool). a || b) (same CI 0 far) (same CC own far)

  run_same : (own far : ℕ) → can_run one own far ≡ can_run two own far
  run_same own far =
      ap₂ (λ (a b : Bool). a || b) (ap₂ (λ (a b : Bool). a && b) (same CI 0 far) (same RUN own far)) (same CC own far)

  link_same : (m : NspValue) → has_link one m ≡ has_link two m
  link_same (DataSegment s) = and_same _ _ _ (run_same _ _)
  link_same (DataAck dst src acks) = and_same _ _ _ (run_same _ _)
  link_same (LinkService interrupt dst src rest) = and_same _ _ _ (run_same _ _)
  link_same (OtherDataAck dst src rest) = and_same _ _ _ (run_same _ _)
  link_same (ConnectAck dst) = same CI 0 dst
  link_same (NoOperation rest) = refl
  link_same (ConnectInitiate retransmitted src services info segsize user_data) = refl
  link_same (ConnectConfirm dst src services info segsize user_data) = and_same _ _ _ (same CI 0 dst)
  link_same (DisconnectInitiate dst src reason user_data) = and_same _ _ _ (joined_same _ _)
  link_same (DisconnectConfirm dst src reason) = refl

module _ (head : Head) (one two : Heard) (segments : Alike one.segments two.segments) (connects : Alike one.connects two.connects) where
  of_link_same : (m : NspValue) → wrong_of_link one m ≡ wrong_of_link two m
  of_link_same m =
      ap₂ (λ (a b : Bool). cond a (cond b None (Some WrongAck)) (Some NoLink)) (link_same one.connects two.connects connects m)
      (message_same one.segments two.segments segments m)

  content_same : (c : Result (Option Carried) StepRefusal) → wrong_content head one c ≡ wrong_content head two c
  content_same (Ok None) = refl
  content_same (Ok (Some packet)) = ap (λ (o : Option Wrong). cond (goes_out head packet) o (Some WrongNode)) (of_link_same packet.message)
  content_same (Err reason.BadPacket) = refl
  content_same (Err refusal) = refl

  pub unit_same : (unit : List ℕ) → wrong_unit head one unit ≡ wrong_unit head two unit
  unit_same unit = go (packet_in (reading unit))
    where
      go : (o : Option (List ℕ)) → wrong_in head one o ≡ wrong_in head two o
      go None = refl
      go (Some packet) = content_same (content packet)

-- ---- words that acknowledge what passed

abbrev pub AsNumbers : Shown → Numbers
AsNumbers passed own far number = passed own far number ≡ true

word_right : (passed : ℕ → Bool) (word : AckWord) → (is_of_data word.qualifier ≡ true → (word.number ≡ 0) ⊎ (passed word.number ≡ true)) →
    is_right_word passed word ≡ true
word_right passed word fine = go (is_of_data word.qualifier) refl
  where
    by : (word.number ≡ 0) ⊎ (passed word.number ≡ true) → (eqb word.number 0 || passed word.number) ≡ true
    by (inl none) = ap (λ (b : Bool). b || passed word.number) (eq-eqb word.number 0 none)
    by (inr came) = or_later (eqb word.number 0) (passed word.number) came

    go : (b : Bool) → is_of_data word.qualifier ≡ b → (not b || (eqb word.number 0 || passed word.number)) ≡ true
    go true e = by (fine e)
    go false e = refl

words_right : (passed : ℕ → Bool) (words : List AckWord) → AreFine (λ n. passed n ≡ true) words → list_all (is_right_word passed) words ≡ true
words_right passed [] fine = refl
words_right passed (word ∷ words) fine = ap₂ (λ (a b : Bool). a && b) (word_right passed word fine.0) (words_right passed words fine.1)

pub message_right : (passed : Shown) (m : NspValue) → AcksFine (AsNumbers passed) m → are_right_words passed m ≡ true
message_right passed (DataSegment s) fine = words_right (passed s.srcaddr s.dstaddr) s.acks fine
message_right passed (DataAck dst src acks) fine = words_right (passed src dst) acks fine
message_right passed (LinkService interrupt dst src rest) fine = refl
message_right passed (OtherDataAck dst src rest) fine = refl
message_right passed (ConnectAck dst) fine = refl
message_right passed (NoOperation rest) fine = refl
message_right passed (ConnectInitiate retransmitted src services info segsize user_data) fine = refl
message_right passed (ConnectConfirm dst src services info segsize user_data) fine = refl
message_right passed (DisconnectInitiate dst src reason user_data) fine = refl
message_right passed (DisconnectConfirm dst src reason) fine = refl

-- ---- links that can be

was_right : (connects : Shown) (own far : ℕ) → AsNumbers connects CI 0 far ⊎ AsNumbers connects CC own far → was_joined connects own far ≡ true
was_right connects own far (inl called) = ap (λ (b : Bool). b || connects CC own far) called
was_right connects own far (inr answered) = or_later (connects CI 0 far) (connects CC own far) answered

run_right : (connects : Shown) (own far : ℕ) → (AsNumbers connects CI 0 far × AsNumbers connects RUN own far) ⊎ AsNumbers connects CC own far →
    can_run connects own far ≡ true
run_right connects own far (inl called) =
    ap (λ (b : Bool). b || connects CC own far) (and_from (connects CI 0 far) (connects RUN own far) called.0 called.1)
run_right connects own far (inr answered) = or_later (connects CI 0 far && connects RUN own far) (connects CC own far) answered

pub link_right : (connects : Shown) (m : NspValue) → LinkFine (AsNumbers connects) m → has_link connects m ≡ true
link_right connects (DataSegment s) fine = and_from _ _ fine.0 (run_right connects _ _ fine.1)
link_right connects (DataAck dst src acks) fine = and_from _ _ fine.0 (run_right connects _ _ fine.1)
link_right connects (LinkService interrupt dst src rest) fine = and_from _ _ fine.0 (run_right connects _ _ fine.1)
link_right connects (OtherDataAck dst src rest) fine = and_from _ _ fine.0 (run_right connects _ _ fine.1)
link_right connects (ConnectAck dst) fine = fine
link_right connects (NoOperation rest) fine = refl
link_right connects (ConnectInitiate retransmitted src services info segsize user_data) fine = fine
link_right connects (ConnectConfirm dst src services info segsize user_data) fine = and_from _ _ fine.0 fine.1
link_right connects (DisconnectInitiate dst src reason user_data) fine = and_from _ _ fine.0 (was_right connects _ _ fine.1)
link_right connects (DisconnectConfirm dst src reason) fine = refl

-- ---- what is known after a unit of the other side

module _ (of : NspValue → Shown) (passed : List Passed) (unit : List ℕ) (old new : Shown) (is : Alike old (passed_of of passed)) where
  pub shown_noted : ((a b c : ℕ) → new a b c ≡ (shown_by of (packet_in (reading unit)) a b c || old a b c)) →
      Alike new (passed_of of (passed ++ Other unit ∷ []))
  shown_noted more a b c =
      more a b c ∙ ap (λ (x : Bool). shown_by of (packet_in (reading unit)) a b c || x) (is a b c) ∙ sym (other_passed of passed unit a b c)

module _ {X Y : Type 0} where
  -- by what is said of each of both sets
  pub noted : (passed : List Passed) (unit : List ℕ) (old new : Sight) (result : Result X Y) → IsAfter old passed →
      ((o f n : ℕ) → OnOk result (has new.segments o f n ≡ (shown_by segment_of (packet_in (reading unit)) o f n || has old.segments o f n))) →
      ((m o f : ℕ) → OnOk result (has new.connects m o f ≡ (shown_by connect_of (packet_in (reading unit)) m o f || has old.connects m o f))) →
      OnOk result (IsAfter new (passed ++ Other unit ∷ []))
  noted passed unit old new (Ok x) is segments connects = record {
    segments = shown_noted segment_of passed unit (has old.segments) (has new.segments) is.segments segments;
    connects = shown_noted connect_of passed unit (has old.connects) (has new.connects) is.connects connects;
  }
  noted passed unit old new (Err y) is segments connects = tt

  pub kept_as_was : (passed : List Passed) (old new : Sight) (result : Result X Y) → IsAfter old passed →
      ((o f n : ℕ) → OnErr result (has new.segments o f n ≡ has old.segments o f n)) →
      ((m o f : ℕ) → OnErr result (has new.connects m o f ≡ has old.connects m o f)) → OnErr result (IsAfter new passed)
  kept_as_was passed old new (Ok x) is segments connects = tt
  kept_as_was passed old new (Err y) is segments connects = record {
    segments = λ own far number. segments own far number ∙ is.segments own far number;
    connects = λ msgflg own far. connects msgflg own far ∙ is.connects msgflg own far;
  }

pub own_noted : (passed : List Passed) (unit : List ℕ) (sight : Sight) → IsAfter sight passed → IsAfter sight (passed ++ Own unit ∷ [])
own_noted passed unit sight is = record {
  segments = λ own far number. is.segments own far number ∙ sym (own_passed segment_of passed unit own far number);
  connects = λ msgflg own far. is.connects msgflg own far ∙ sym (own_passed connect_of passed unit msgflg own far);
}
