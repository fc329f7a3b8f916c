-- What a station sends again in a data unit it sent before, with the same number: by what holds of the number and the packet of each data unit sent.
use Rattle.accusing_links.proofs.Prelude.{◌≡◌, ℕ, ◌+◌, ◌-◌, ◌<◌, Bool, true, false, cond, ◌&&◌, ltb, leb, Option, Some, None, Ok, List, [], ◌∷◌}
use Rattle.accusing_links.proofs.Prelude.{◌++◌, length, fold, refl, sym, subst, zero, suc, arith, slice_get, slice_set, drop, eqb-true}
use Rattle.accusing_links.proofs.Prelude.{bytes_eq-Decides, MessageValue, Data, Ack, Nak, Rep, Strt, Stack, NakReason, HeaderCheck, DataCheck, Fate}
use Rattle.accusing_links.proofs.Prelude.{is_kept, Event, Halt, Tag, TakePartner, Respond, SetBack, TakePacket, AnswerRep, row, counts_damage}
use Rattle.accusing_links.proofs.Prelude.{ArrivalValue, HeaderBad, DataBad, resp_of, num_of, damaged_by, HeldPacket, WireStation, wire_after_event}
use Rattle.accusing_links.proofs.Prelude.{wire_after_label, with_new, labelled, wire_book, wire_passes, wire_is_new, is_held_packet}
use Rattle.accusing_links.proofs.Prelude.{wire_after_sending, acknowledges, wire_acknowledged_by, wire_is_next, with_next, wire_does, gives_new}
use Rattle.accusing_links.proofs.Prelude.{wire_sending_refusal, checks_passed, machine}
use Rattle.capture_record.specs.declared.event.Event.TheVariants as events
use Rattle.dna_station.specs.Table.{Effect, GoTo}
use Rattle.dna_station.specs.Station.{wire}
use Rattle.dna_station.specs.Book.{Sound}
use Rattle.accusing_links.proofs.Held.{not_refused}

-- it holds of the number and the packet in a data message
abbrev pub Bears : (ℕ → List ℕ → Type 0) → MessageValue → Type 0
Bears P (Data flags resp num body) = P num body
Bears P m = Unit {0}

-- the RESP of a message is a byte
abbrev pub HasByte : {K : Type 0} → ArrivalValue K → Type 0
HasByte (Sound m tag) = resp_of m < 256
HasByte HeaderBad = Unit {0}
HasByte DataBad = Unit {0}

module _ {L : Type 0} (P : ℕ → List ℕ → Type 0) where
  -- of these packets, the first of which has this number
  abbrev pub AreGiven : ℕ → List (HeldPacket L) → Type 0
  AreGiven number [] = Unit {0}
  AreGiven number (packet ∷ held) = P (wire number) packet.body × AreGiven (number + 1) held

  turned : (a b : ℕ) (held : List (HeldPacket L)) → wire a ≡ wire b → AreGiven a held → AreGiven b held
  turned a b [] same is = tt
  turned a b (packet ∷ held) same is =
      let next : wire (a + 1) ≡ wire (b + 1) = omega (arith, same) in
      (subst (λ (n : ℕ). P n packet.body) same is.0, turned (a + 1) (b + 1) held next is.1)

  dropped : (number count : ℕ) (held : List (HeldPacket L)) → AreGiven number held → AreGiven (number + count) (drop count held)
  dropped number zero held is = let same : wire number ≡ wire (number + zero) = omega arith in turned number (number + zero) held same is
  dropped number (suc count) [] is = tt
  dropped number (suc count) (first ∷ held) is =
      let same : wire (number + 1 + count) ≡ wire (number + suc count) = omega arith in
      turned (number + 1 + count) (number + suc count) (drop count held) same (dropped (number + 1) count held is.1)

  pushed : (number : ℕ) (held : List (HeldPacket L)) (packet : HeldPacket L) → AreGiven number held → P (wire (number + length held)) packet.body →
      AreGiven number (held ++ packet ∷ [])
  pushed number [] packet is this =
      let same : wire (number + length {A = HeldPacket L} []) ≡ wire number = omega arith in (subst (λ (n : ℕ). P n packet.body) same this, tt)
  pushed number (first ∷ held) packet is this =
      let same : wire (number + length (first ∷ held)) ≡ wire (number + 1 + length held) = omega arith in
      (is.0, pushed (number + 1) held packet is.1 (subst (λ (n : ℕ). P n packet.body) same this))

  changed : (number : ℕ) (held : List (HeldPacket L)) (place : ℕ) (packet : HeldPacket L) → AreGiven number held →
      P (wire (number + place)) packet.body → AreGiven number (slice_set held place packet)
  changed number [] place packet is this = tt
  changed number (first ∷ held) zero packet is this =
      let same : wire (number + zero) ≡ wire number = omega arith in (subst (λ (n : ℕ). P n packet.body) same this, is.1)
  changed number (first ∷ held) (suc place) packet is this =
      let same : wire (number + suc place) ≡ wire (number + 1 + place) = omega arith in
      (is.0, changed (number + 1) held place packet is.1 (subst (λ (n : ℕ). P n packet.body) same this))

  at_place : (number : ℕ) (held : List (HeldPacket L)) (place : ℕ) (packet : HeldPacket L) → AreGiven number held →
      slice_get held place ≡ Some packet → P (wire (number + place)) packet.body
  at_place number [] place packet is at = absurd cc
  at_place number (first ∷ held) zero packet is at =
      let same : first ≡ packet = cc in
      let turn : wire number ≡ wire (number + zero) = omega arith in
      subst (λ (p : HeldPacket L). P (wire (number + zero)) p.body) same (subst (λ (n : ℕ). P n first.body) turn is.0)
  at_place number (first ∷ held) (suc place) packet is at =
      let same : wire (number + 1 + place) ≡ wire (number + suc place) = omega arith in
      subst (λ (n : ℕ). P n packet.body) same (at_place (number + 1) held place packet is.1 at)

  labelled_one : (number : ℕ) (held : List (HeldPacket L)) (newest : Option (HeldPacket L)) (label : L) → AreGiven number held →
      slice_get held (length held - 1) ≡ newest → AreGiven number (labelled held newest label)
  labelled_one number held None label is at = is
  labelled_one number held (Some newest) label is at =
      changed number held (length held - 1) (record newest { label = Some label }) is (at_place number held (length held - 1) newest is at)

  -- ---- a station

  pub record IsNumbered (w : WireStation L) : Type 0 where
    pub byte : w.variables.acknowledged < 256
    pub given : AreGiven (w.variables.acknowledged + 1) w.variables.held

  pub label_numbered : (w : WireStation L) (label : L) → IsNumbered w → IsNumbered (wire_after_label w label)
  label_numbered w label is = record {
    byte = is.byte;
    given = labelled_one (w.variables.acknowledged + 1) w.variables.held (slice_get w.variables.held (length w.variables.held - 1)) label
        is.given refl;
  }

  -- ---- what comes

  respond : (w : WireStation L) (b : Bool) (resp : ℕ) → resp < 256 → IsNumbered w →
      IsNumbered (record w { variables = wire_acknowledged_by b w.variables resp })
  respond w false resp byte is = record { byte = is.byte; given = is.given }
  respond w true resp byte is = record {
    byte = byte;
    given =
        let small = is.byte in
        let same : wire (w.variables.acknowledged + 1 + acknowledges w.variables resp) ≡ wire (resp + 1) = omega (arith, small, byte) in
        turned (w.variables.acknowledged + 1 + acknowledges w.variables resp) (resp + 1)
        (drop (acknowledges w.variables resp) w.variables.held) same
        (dropped (w.variables.acknowledged + 1) (acknowledges w.variables resp) w.variables.held is.given);
  }

  taken : (w : WireStation L) (b : Bool) → IsNumbered w → IsNumbered (record w { variables = with_next b w.variables })
  taken w true is = record { byte = is.byte; given = is.given }
  taken w false is = record { byte = is.byte; given = is.given }

  does_numbered : (m : MessageValue) (tag : Tag) (kept : Bool) (w : WireStation L) (effect : Effect) → resp_of m < 256 → IsNumbered w →
      IsNumbered (wire_does m tag kept w effect)
  does_numbered m tag kept w (GoTo state) byte is = record { byte = is.byte; given = is.given }
  does_numbered m tag kept w TakePartner byte is = record { byte = is.byte; given = is.given }
  does_numbered m tag kept w Respond byte is =
      let made = respond w
      (ltb 0 (acknowledges w.variables (resp_of m)) && leb (acknowledges w.variables (resp_of m)) (length w.variables.held)) (resp_of m) byte is in
      record { byte = made.byte; given = made.given }
  does_numbered m tag kept w SetBack byte is = record { byte = is.byte; given = is.given }
  does_numbered m tag kept w TakePacket byte is =
      let made = taken w (wire_is_next w.variables (num_of m) && kept) is in record { byte = made.byte; given = made.given }
  does_numbered m tag kept w AnswerRep byte is = record { byte = is.byte; given = is.given }

  all_numbered : (m : MessageValue) (tag : Tag) (kept : Bool) (w : WireStation L) (effects : List Effect) → resp_of m < 256 → IsNumbered w →
      IsNumbered (fold (wire_does m tag kept) w effects)
  all_numbered m tag kept w [] byte is = is
  all_numbered m tag kept w (effect ∷ effects) byte is =
      all_numbered m tag kept (wire_does m tag kept w effect) effects byte (does_numbered m tag kept w effect byte is)

  damaged_numbered : (w : WireStation L) (reason : NakReason) → IsNumbered w → IsNumbered (damaged_by wire_book reason w)
  damaged_numbered w reason is = go (counts_damage w.variables.state)
    where
      go : (b : Bool) → IsNumbered (cond b (wire_book.counts reason w) w)
      go true = record { byte = is.byte; given = is.given }
      go false = is

  pub arrives_numbered : (w after : WireStation L) (arrival : ArrivalValue Tag) (fate : Fate) → machine.arrives w arrival fate ≡ Ok after →
      HasByte arrival → IsNumbered w → IsNumbered after
  arrives_numbered w after (Sound m tag) fate e byte is =
      subst IsNumbered (not_refused _ _ after e).1 (all_numbered m tag (is_kept fate) w (row w.variables.state m).effects byte is)
  arrives_numbered w after HeaderBad fate e byte is = subst IsNumbered (not_refused _ _ after e).1 (damaged_numbered w HeaderCheck is)
  arrives_numbered w after DataBad fate e byte is = subst IsNumbered (not_refused _ _ after e).1 (damaged_numbered w DataCheck is)

  -- ---- what the user does

  pub user_numbered : (w after : WireStation L) (event : Event) → machine.user w event ≡ Ok after → IsNumbered w → IsNumbered after
  user_numbered w after events.Start e is = subst IsNumbered (not_refused _ _ after e).1 (record { byte = omega arith; given = tt })
  user_numbered w after events.Halt e is =
      let same : wire_after_event w Halt ≡ after = cc in subst IsNumbered same (record { byte = is.byte; given = is.given })
  user_numbered w after events.Boot e is =
      let same : wire_after_event w Halt ≡ after = cc in subst IsNumbered same (record { byte = is.byte; given = is.given })
  user_numbered w after event e is = let same : w ≡ after = cc in subst IsNumbered same is

  -- ---- what is sent

  data_numbered : (w : WireStation L) (num : ℕ) (body : List ℕ) (b : Bool) → wire_is_new w.variables ≡ b →
      num ≡ wire (w.variables.acknowledged + 1 + w.variables.ahead) → P num body → IsNumbered w →
      AreGiven (w.variables.acknowledged + 1) (with_new b w.variables.held body)
  data_numbered w num body true new next this is =
      let last : w.variables.ahead ≡ length w.variables.held = eqb-true w.variables.ahead (length w.variables.held) new in
      pushed (w.variables.acknowledged + 1) w.variables.held (record { body = body; label = None }) is.given
      (subst (λ (n : ℕ). P (wire (w.variables.acknowledged + 1 + n)) body) last (subst (λ (n : ℕ). P n body) next this))
  data_numbered w num body false new next this is = is.given

  -- of a message of which it holds
  may_be_sent : (w : WireStation L) (m : MessageValue) → wire_sending_refusal w m ≡ None → Bears P m → IsNumbered w →
      IsNumbered (wire_after_sending w m)
  may_be_sent w (Data flags resp num body) may this is =
      let passed = checks_passed (wire_passes w (Data flags resp num body)) w.variables.state (Data flags resp num body) refl may in
      record {
        byte = is.byte;
        given = data_numbered w num body (wire_is_new w.variables) refl (eqb-true num _ passed.0) this is;
      }
  may_be_sent w (Ack flags resp) may this is = record { byte = is.byte; given = is.given }
  may_be_sent w (Nak flags reason resp) may this is = record { byte = is.byte; given = is.given }
  may_be_sent w (Rep flags num) may this is = record { byte = is.byte; given = is.given }
  may_be_sent w (Strt flags) may this is = record { byte = is.byte; given = is.given }
  may_be_sent w (Stack flags) may this is = record { byte = is.byte; given = is.given }

  pub sends_numbered : (w after : WireStation L) (m : MessageValue) (tag : Tag) → machine.sends w m ≡ Ok (after, tag) → Bears P m → IsNumbered w →
      IsNumbered after
  sends_numbered w after m tag e this is =
      let parts = not_refused (wire_sending_refusal w m) (wire_after_sending w m, wire_book.known w (wire_after_sending w m) m) (after, tag) e in
      subst (λ (x : WireStation L × Tag). IsNumbered x.0) parts.1 (may_be_sent w m parts.0 this is)

  -- one that goes again
  again_borne : (w : WireStation L) (m : MessageValue) → wire_sending_refusal w m ≡ None → gives_new w m ≡ false → IsNumbered w → Bears P m
  again_borne w (Data flags resp num body) may old is =
      let passed = checks_passed (wire_passes w (Data flags resp num body)) w.variables.state (Data flags resp num body) refl may in
      go (wire_is_new w.variables) old (eqb-true num _ passed.0) passed.1.1.1.0
    where
      at : (o : Option (HeldPacket L)) → slice_get w.variables.held w.variables.ahead ≡ o →
          num ≡ wire (w.variables.acknowledged + 1 + w.variables.ahead) → is_held_packet o body ≡ true → P num body
      at None there next same = absurd cc
      at (Some packet) there next same =
          let this = at_place (w.variables.acknowledged + 1) w.variables.held w.variables.ahead packet is.given there in
          subst (λ (n : ℕ). P n body) (sym next)
          (subst (P (wire (w.variables.acknowledged + 1 + w.variables.ahead))) (sym ((bytes_eq-Decides body packet.body).0 same)) this)

      go : (b : Bool) → b ≡ false → num ≡ wire (w.variables.acknowledged + 1 + w.variables.ahead) →
          cond b true (is_held_packet (slice_get w.variables.held w.variables.ahead) body) ≡ true → P num body
      go true e next same = absurd cc
      go false e next same = at (slice_get w.variables.held w.variables.ahead) refl next same
  again_borne w (Ack flags resp) may old is = tt
  again_borne w (Nak flags reason resp) may old is = tt
  again_borne w (Rep flags num) may old is = tt
  again_borne w (Strt flags) may old is = tt
  again_borne w (Stack flags) may old is = tt

  pub sends_again : (w after : WireStation L) (m : MessageValue) (tag : Tag) → machine.sends w m ≡ Ok (after, tag) → gives_new w m ≡ false →
      IsNumbered w → Bears P m
  sends_again w after m tag e old is =
      let parts = not_refused (wire_sending_refusal w m) (wire_after_sending w m, wire_book.known w (wire_after_sending w m) m) (after, tag) e in
      again_borne w m parts.0 old is

-- where more were sent
module _ {L : Type 0} (P R : ℕ → List ℕ → Type 0) (more : (number : ℕ) (body : List ℕ) → P number body → R number body) where
  given_more : (number : ℕ) (held : List (HeldPacket L)) → AreGiven P number held → AreGiven R number held
  given_more number [] is = tt
  given_more number (packet ∷ held) is = (more (wire number) packet.body is.0, given_more (number + 1) held is.1)

  pub numbered_more : (w : WireStation L) → IsNumbered P w → IsNumbered R w
  numbered_more w is = record { byte = is.byte; given = given_more (w.variables.acknowledged + 1) w.variables.held is.given }
