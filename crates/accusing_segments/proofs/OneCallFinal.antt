-- A side for which records exist sends under a number what it sent under it before, where one CI or CC alone passed by which a link gets its
-- addresses, and nothing that was sent under the number may be acknowledged.
use Rattle.accusing_segments.proofs.Prelude.{◌≡◌, ℕ, ◌+◌, ◌≤◌, Bool, true, false, ◌&&◌, not, cond, eqb, Option, Some, None, List, [], ◌∷◌, ◌++◌}
use Rattle.accusing_segments.proofs.Prelude.{refl, sym, subst, ◌∙◌, ◌⊎◌, inl, inr, arith, append_assoc, eqb-true, and_parts, and_from}
use Rattle.accusing_segments.proofs.Prelude.{bytes_eq-Decides, reading, NotKept, Record, NspValue, SegmentValue, DataSegment, LinkService, DataAck}
use Rattle.accusing_segments.proofs.Prelude.{OtherDataAck, ConnectAck, NoOperation, ConnectInitiate, ConnectConfirm, DisconnectInitiate}
use Rattle.accusing_segments.proofs.Prelude.{DisconnectConfirm, Head, Queues, Piece, piece_of, alike, same_piece, REACH, wire, WireLayers}
use Rattle.accusing_segments.proofs.Prelude.{new_wire_layers_node, Passed, Own, Other, IsPlacedFrom, Ends, Passes, Sends, Hears, HearsNoise, Acts}
use Rattle.accusing_segments.proofs.Prelude.{node_machine, IsNodePlacing, acknowledges, message_in, history, is_covered, piece_in, first_of}
use Rattle.accusing_segments.proofs.Prelude.{first_sent, repeats, differs, is_changed, is_one_link, is_changed_in, is_changed_unit}
use Rattle.accusing_links.specs.Answers.{IsWrong as IsWrongAnyhow}
use Rattle.accusing_segments.proofs.{SentPieces.Covered, SentPieces.Shown, RightLinks.Links, Nodes.acts_right, OneCallSends.IsOf}
use Rattle.accusing_segments.proofs.{OneCallNodes.acts_mine, OneCallHears.damage_so, OneCallHears.hears_so}
use Rattle.accusing_segments.proofs.Passing.{AsLinks, Came, other_same, covered}
use Rattle.accusing_segments.proofs.Final.{rest_sent, comes_right, damage_right, AllCame, all_later, one_came, all_pushed, all_behind, first_right}
use Rattle.accusing_segments.proofs.SentUnits.{InOption, SentIn, sent_stays, sent_now, is_call, one_more, passed_calls, coming_calls, calls_own}
use Rattle.accusing_segments.proofs.SentUnits.{calls_other}
use Rattle.accusing_segments.proofs.SentUnits.{coming_behind, two_calls}
use Rattle.accusing_segments.proofs.OneCallSo.{Now, Agree, IsSo, AreTwo, passes_so, sends_so}

module _ (queues : Queues) (own far : ℕ) where
  abbrev Sent : List Passed → Shown
  Sent passed = SentIn queues own far passed

  abbrev At : List Passed → Links
  At before = Now queues own far before

  -- ---- all records

  abbrev IsInv : List Passed → List (List ℕ) → WireLayers → Type 0
  IsInv before coming s = AreTwo queues own far before ⊎ IsSo queues own far before coming s

  abbrev AllGood : List Passed → List Passed → Type 0
  AllGood before [] = Unit {0}
  AllGood before (Own unit ∷ passed) =
      (AreTwo queues own far (before ++ Own unit ∷ []) ⊎ Agree queues own far (before ++ Own unit ∷ [])) × AllGood (before ++ Own unit ∷ []) passed
  AllGood before (Other unit ∷ passed) = AllGood (before ++ Other unit ∷ []) passed

  two_own : (before : List Passed) (unit : List ℕ) → AreTwo queues own far before → AreTwo queues own far (before ++ Own unit ∷ [])
  two_own before unit two = let same = calls_own queues own far before unit in omega (arith, same, two)

  two_other : (before : List Passed) (unit : List ℕ) → AreTwo queues own far before → AreTwo queues own far (before ++ Other unit ∷ [])
  two_other before unit two = go (is_call queues own far unit) (calls_other queues own far before unit)
    where
      go : (b : Bool) → passed_calls queues own far (before ++ Other unit ∷ []) ≡ one_more queues own far b (passed_calls queues own far before) →
          AreTwo queues own far (before ++ Other unit ∷ [])
      go true e = omega (arith, e, two)
      go false e = omega (arith, e, two)

  all_good : {s : WireLayers} {front : ℕ} {coming : List (List ℕ)} {passed : List Passed} {records : List Record} →
      IsPlacedFrom (node_machine queues) s front coming passed records → (before : List Passed) → IsInv before coming s →
      AllCame true queues before coming → AllGood before passed
  all_good Ends before is came = tt
  all_good (Passes {s = s} {coming = coming} {unit = unit} later) before is came =
      all_good later (before ++ Other unit ∷ []) (go is)
      (all_pushed true queues (before ++ Other unit ∷ []) coming unit (all_later true queues before (Other unit) coming came)
      (one_came true queues before unit))
    where
      go : IsInv before coming s → IsInv (before ++ Other unit ∷ []) (coming ++ unit ∷ []) s
      go (inl two) = inl (two_other before unit two)
      go (inr so) = inr (passes_so queues own far before coming unit s so)
  all_good (Sends {s = s} {coming = coming} {unit = unit} m after known read made later) before is came =
      (good (go is), all_good later (before ++ Own unit ∷ []) (go is) (all_later true queues before (Own unit) coming came))
    where
      go : IsInv before coming s → IsInv (before ++ Own unit ∷ []) coming after
      go (inl two) = inl (two_own before unit two)
      go (inr so) = inr (sends_so queues own far before coming unit s after m known read made so)

      good : IsInv (before ++ Own unit ∷ []) coming after →
          AreTwo queues own far (before ++ Own unit ∷ []) ⊎ Agree queues own far (before ++ Own unit ∷ [])
      good (inl two) = inl two
      good (inr so) = inr so.agree
  all_good (Hears {s = s} {coming = coming} lost unit rest are hint hinted bytes byte how tag fate after made later) before is came =
      all_good later before (go is) behind.1
    where
      behind : Came before unit × AllCame true queues before rest
      behind = all_behind true queues before lost unit rest (subst (AllCame true queues before) are came)

      go : IsInv before coming s → IsInv before rest after
      go (inl two) = inl two
      go (inr so) =
          hears_so queues own far before coming s after so (comes_right true queues before s after tag fate unit bytes how behind.0 made so.right)
          rest unit behind.0
          (subst (λ (x : List (List ℕ)). one_more queues own far (is_call queues own far unit) (coming_calls queues own far rest)
          ≤ coming_calls queues own far x) (sym are) (coming_behind queues own far lost unit rest)) tag fate bytes how made
  all_good (HearsNoise {s = s} {coming = coming} bytes damage tag after made later) before is came = all_good later before (go is) came
    where
      go : IsInv before coming s → IsInv before coming after
      go (inl two) = inl two
      go (inr so) =
          inr (damage_so queues own far before coming s after so
          (damage_right true queues before s after tag NotKept (reading bytes) damage made so.right) coming
          (omega arith) tag NotKept (reading bytes) damage made)
  all_good (Acts {s = s} {coming = coming} {records = records} event after made later) before is came = all_good later before (go is) came
    where
      go : IsInv before coming s → IsInv before coming after
      go (inl two) = inl two
      go (inr so) = inr (record {
        one = so.one;
        right = acts_right queues (AsLinks true before) s after event (rest_sent true before event records tt).0 made so.right;
        held = acts_mine queues own far (Sent before) (At before) so.one (λ m. tt) s so.right.links so.held after
            event made;
        none = so.none;
        agree = so.agree;
        calls = so.calls;
      })

  one_good : (start before : List Passed) (unit : List ℕ) (later : List Passed) → AllGood start (before ++ Own unit ∷ later) →
      AreTwo queues own far (start ++ (before ++ Own unit ∷ [])) ⊎ Agree queues own far (start ++ (before ++ Own unit ∷ []))
  one_good start [] unit later all = all.0
  one_good start (Own first ∷ before) unit later all =
      subst (λ (x : List Passed). AreTwo queues own far x ⊎ Agree queues own far x) (append_assoc start (Own first ∷ []) (before ++ Own unit ∷ []))
      (one_good (start ++ Own first ∷ []) before unit later all.1)
  one_good start (Other first ∷ before) unit later all =
      subst (λ (x : List Passed). AreTwo queues own far x ⊎ Agree queues own far x) (append_assoc start (Other first ∷ []) (before ++ Own unit ∷ []))
      (one_good (start ++ Other first ∷ []) before unit later all)

  first_so : (head : Head) → IsSo queues own far [] [] (new_wire_layers_node head).station
  first_so head = record {
    one = None;
    right = first_right true queues head;
    held = record { links = λ n l at. absurd cc; held = tt };
    none = λ e n p sent. sent;
    agree = λ n p q one two. absurd one;
    calls = omega arith;
  }

  -- ---- what that says of a segment

  piece_sent : (o : Option NspValue) (n : ℕ) (q : Piece) → piece_in o own far n ≡ Some q → InOption queues own far o n q
  piece_sent None n q e = absurd cc
  piece_sent (Some (DataSegment m)) n q e = go (eqb m.srcaddr own) (eqb m.dstaddr far) (eqb m.number n) refl refl refl e
    where
      go : (a b c : Bool) → eqb m.srcaddr own ≡ a → eqb m.dstaddr far ≡ b → eqb m.number n ≡ c →
          cond (a && (b && c)) (Some (piece_of m)) None ≡ Some q → IsOf own far (DataSegment m) n q
      go true true true one two three e =
          let this : piece_of m ≡ q = cc in
          ((eqb-true m.srcaddr own one, eqb-true m.dstaddr far two), (sym (eqb-true m.number n three), sym this))
      go true true false one two three e = absurd cc
      go true false c one two three e = absurd cc
      go false b c one two three e = absurd cc
  piece_sent (Some (LinkService interrupt dst src rest)) n q e = absurd cc
  piece_sent (Some (DataAck dst src acks)) n q e = absurd cc
  piece_sent (Some (OtherDataAck dst src rest)) n q e = absurd cc
  piece_sent (Some (ConnectAck dst)) n q e = absurd cc
  piece_sent (Some (NoOperation rest)) n q e = absurd cc
  piece_sent (Some (ConnectInitiate retransmitted src services info segsize user_data)) n q e = absurd cc
  piece_sent (Some (ConnectConfirm dst src services info segsize user_data)) n q e = absurd cc
  piece_sent (Some (DisconnectInitiate dst src reason user_data)) n q e = absurd cc
  piece_sent (Some (DisconnectConfirm dst src reason)) n q e = absurd cc

  first_is_sent : (passed : List Passed) (n : ℕ) (q : Piece) → first_sent passed own far n ≡ Some q → Sent passed n q
  first_is_sent [] n q e = absurd cc
  first_is_sent (Own unit ∷ passed) n q e = go (piece_in (message_in unit) own far n) refl e (first_is_sent passed n q)
    where
      go : (o : Option Piece) → piece_in (message_in unit) own far n ≡ o → first_of o (first_sent passed own far n) ≡ Some q →
          (first_sent passed own far n ≡ Some q → Sent passed n q) → Sent (Own unit ∷ passed) n q
      go None at f later = inr (later f)
      go (Some p) at f later = inl (piece_sent (message_in unit) n q (at ∙ f))
  first_is_sent (Other unit ∷ passed) n q e = first_is_sent passed n q e

  covered_is : (before : List Passed) (unit : List ℕ) (n : ℕ) → Covered (At (before ++ Own unit ∷ []) own far).word n →
      is_covered (λ x. (history before).words own far x 0) n REACH ≡ true
  covered_is before unit n is =
      covered (λ x. (history before).words own far x 0) n is.0 REACH is.1.0
      (sym (other_same acknowledges own far (wire (n + is.0)) 0 before unit) ∙ is.1.1)

alike_self : (b : Bool) → alike b b ≡ true
alike_self true = refl
alike_self false = refl

same_self : (p q : Piece) → q ≡ p → same_piece p q ≡ true
same_self p q same =
    subst (λ (x : Piece). same_piece p x ≡ true) (sym same)
    (and_from (alike p.begins p.begins) _ (alike_self p.begins)
    (and_from (alike p.ends p.ends) _ (alike_self p.ends) ((bytes_eq-Decides p.body p.body).1 refl)))

module _ (queues : Queues) (head : Head) (before later : List Passed) (unit : List ℕ) (records : List Record)
    (placing : IsNodePlacing queues head (before ++ Own unit ∷ later) records) where
  segment_same : (m : SegmentValue) → message_in unit ≡ Some (DataSegment m) → is_changed (history before) (repeats before) m ≡ true → ⊥
  segment_same m is e =
      go (one_good queues m.srcaddr m.dstaddr [] before unit later
      (all_good queues m.srcaddr m.dstaddr placing.0 [] (inr (first_so queues m.srcaddr m.dstaddr head)) tt))
    where
      parts : (differs (first_sent before m.srcaddr m.dstaddr m.number) (piece_of m) ≡ true)
          × ((is_one_link (repeats before) m.srcaddr m.dstaddr
          && not (is_covered (λ n. (history before).words m.srcaddr m.dstaddr n 0) m.number REACH)) ≡ true)
      parts = and_parts _ _ e

      rest : (is_one_link (repeats before) m.srcaddr m.dstaddr ≡ true)
          × (not (is_covered (λ n. (history before).words m.srcaddr m.dstaddr n 0) m.number REACH) ≡ true)
      rest = and_parts _ _ parts.1

      this : InOption queues m.srcaddr m.dstaddr (message_in unit) m.number (piece_of m)
      this = subst (λ (o : Option NspValue). InOption queues m.srcaddr m.dstaddr o m.number (piece_of m)) (sym is) ((refl, refl), (refl, refl))

      by_first : (o : Option Piece) → first_sent before m.srcaddr m.dstaddr m.number ≡ o → differs o (piece_of m) ≡ true →
          Agree queues m.srcaddr m.dstaddr (before ++ Own unit ∷ []) → ⊥
      by_first None at f agree = absurd cc
      by_first (Some q) at f agree =
          one (agree m.number q (piece_of m)
          (sent_stays queues m.srcaddr m.dstaddr before (Own unit) m.number q (first_is_sent queues m.srcaddr m.dstaddr before m.number q at))
          (sent_now queues m.srcaddr m.dstaddr before unit m.number (piece_of m) this))
        where
          one : (q ≡ piece_of m) ⊎ Covered (Now queues m.srcaddr m.dstaddr (before ++ Own unit ∷ []) m.srcaddr m.dstaddr).word m.number → ⊥
          one (inl same) = let alike = same_self (piece_of m) q same in absurd cc
          one (inr cover) = let yes = covered_is queues m.srcaddr m.dstaddr before unit m.number cover in let none = rest.1 in absurd cc

      go : AreTwo queues m.srcaddr m.dstaddr (before ++ Own unit ∷ []) ⊎ Agree queues m.srcaddr m.dstaddr (before ++ Own unit ∷ []) → ⊥
      go (inl two) =
          let same = calls_own queues m.srcaddr m.dstaddr before unit in
          let twice = two_calls queues m.srcaddr m.dstaddr before (omega (arith, same, two)) in
          let single = rest.0 in
          absurd cc
      go (inr agree) = by_first (first_sent before m.srcaddr m.dstaddr m.number) refl parts.0 agree

  message_same : (o : Option NspValue) → message_in unit ≡ o → is_changed_in (history before) (repeats before) o ≡ true → ⊥
  message_same None is e = absurd cc
  message_same (Some (DataSegment m)) is e = segment_same m is e
  message_same (Some (LinkService interrupt dst src rest)) is e = absurd cc
  message_same (Some (DataAck dst src acks)) is e = absurd cc
  message_same (Some (OtherDataAck dst src rest)) is e = absurd cc
  message_same (Some (ConnectAck dst)) is e = absurd cc
  message_same (Some (NoOperation rest)) is e = absurd cc
  message_same (Some (ConnectInitiate retransmitted src services info segsize user_data)) is e = absurd cc
  message_same (Some (ConnectConfirm dst src services info segsize user_data)) is e = absurd cc
  message_same (Some (DisconnectInitiate dst src reason user_data)) is e = absurd cc
  message_same (Some (DisconnectConfirm dst src reason)) is e = absurd cc

pub never_changed : (queues : Queues) (head : Head) (before later : List Passed) (unit : List ℕ) (records : List Record) →
    is_changed_unit (history before) (repeats before) unit ≡ true → IsNodePlacing queues head (before ++ Own unit ∷ later) records → ⊥
never_changed queues head before later unit records changed placing =
    message_same queues head before later unit records placing (message_in unit) refl changed

pub changed_own : (passed : List Passed) (unit : List ℕ) → is_changed_unit (history passed) (repeats passed) unit ≡ true → (head : Head) →
    IsWrongAnyhow head (passed ++ Own unit ∷ [])
changed_own passed unit changed head queues records placing = never_changed queues head passed [] unit records changed placing
