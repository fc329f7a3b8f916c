-- The book of counts says of a station what the book of what a node keeps says of it.
use Rattle.std.proofs.Common.{◌≡◌, ℕ, zero, suc, ◌+◌, ◌-◌, ◌≤◌, ◌<◌, Bool, true, false, ◌&&◌, cond, min, nat_lt, nat_le}
use Rattle.std.proofs.Common.{Option, Some, None, List, [], ◌∷◌, ◌++◌, length, refl, sym, ap, ap₂, ◌∙◌, arith, fold, eqb}
use Rattle.std.proofs.lemmas.List.{length-drop, length-append}
use Rattle.std.proofs.lemmas.Bool.{eqb-false, ltb-true, lt-ltb}
use Rattle.ddcmp_msg.specs.declared.flags.Flags.{Flags}
use Rattle.ddcmp_msg.specs.Message.{MessageValue, Data, Ack, Nak, Rep, Strt, Stack}
use Rattle.ddcmp_msg.specs.declared.nak_reason.NakReason.{NakReason}
use Rattle.ddcmp_msg.specs.declared.nak_reason.NakReason.TheVariants.{HeaderCheck, DataCheck, RepResponse, NoBuffer}
use Rattle.ddcmp_msg.specs.declared.nak_reason.NakReason.TheVariants.{Overrun, MessageTooLong, HeaderFormat}
use Rattle.dna_station.specs.declared.state.State.{State}
use Rattle.dna_station.specs.declared.state.State.TheVariants.{Halted, Istrt, Astrt, Running}
use Rattle.dna_station.specs.declared.state.StationEvent.{StationEvent}
use Rattle.dna_station.specs.declared.state.StationEvent.TheVariants.{Start, Halt}
use Rattle.dna_station.specs.declared.refusal.StationRefusal.{StationRefusal}
use Rattle.dna_station.specs.declared.tag.Tag.{Tag}
use Rattle.dna_station.specs.NakCauses as causes
use Rattle.dna_station.specs.NakCauses.{Causes}
use Rattle.dna_station.specs.Table.{Check, RespIsLast, CauseIsOpen, SomeOutstanding, NumIsHighest, NumIsNext, RoomIfNew, AsFirstGiven, checks}
use Rattle.dna_station.specs.Table.{Effect, GoTo, TakePartner, Respond, SetBack, TakePacket, AnswerRep, row, counts_damage}
use Rattle.dna_station.specs.PeriodRule.{PeriodRule}
use Rattle.dna_station.specs.Book.{ArrivalValue, Sound, HeaderBad, DataBad, resp_of, num_of, failed, sending_refusal_by, after_sending_by}
use Rattle.dna_station.specs.Book.{arrival_refusal_by, after_arrival_by}
use Rattle.dna_station.specs.WireStation.{HeldPacket, StationVariables, WireStation, with_new, wire_after_event}
use Rattle.dna_station.specs.WireBook.{wire_acknowledged_by, wire_does, wire_passes, wire_is_new, wire_sending_refusal, wire_after_sending}
use Rattle.dna_station.specs.WireBook.{wire_arrival_refusal, wire_after_arrival, acknowledges}
use Rattle.dna_station.proofs.Cut.Sending.{failed_same}
use Rattle.placing.specs.declared.station.Station.{Station}
use Rattle.placing.specs.Counted.{MOST_CAUSES, counted, counted_book, is_again, DamageIsOpen, IsCounted, bare}
use Rattle.placing.specs.Counted as book

-- the third check is passed
third_passed : (a b c : Bool) (x y z : StationRefusal) (rest : Option StationRefusal) →
    cond a (cond b (cond c rest (Some z)) (Some y)) (Some x) ≡ None → c ≡ true
third_passed true true true x y z rest none = refl
third_passed true true false x y z rest none = absurd cc
third_passed true false c x y z rest none = absurd cc
third_passed false b c x y z rest none = absurd cc

-- counts that stop stop alike
one_more : (count : ℕ) → min (count + 1) MOST_CAUSES ≡ book.next_cause (min count MOST_CAUSES)
one_more count = omega arith

one_less : (count : ℕ) → count ≤ MOST_CAUSES → min (count - 1) MOST_CAUSES ≡ min count MOST_CAUSES - 1
one_less count most = omega (arith, most)

some_open : (count : ℕ) → nat_lt 0 (min count MOST_CAUSES) ≡ nat_lt 0 count
some_open zero = refl
some_open (suc count) = lt-ltb 0 (min (suc count) MOST_CAUSES) (omega arith) ∙ sym (lt-ltb 0 (suc count) (omega arith))

module _ {L : Type 0} where
  -- ---- what the user does

  pub event_counted : (w : WireStation L) (event : StationEvent) → counted (wire_after_event w event) ≡ book.after_event (counted w) event
  event_counted w Start = refl
  event_counted w Halt = refl

  -- ---- what is sent

  cause_counted : (w : WireStation L) (flags : Flags) (reason : NakReason) (resp : ℕ) → DamageIsOpen (Nak flags reason resp) w.causes →
      book.has_cause reason (counted w) ≡ causes.has_cause reason w.causes
  cause_counted w flags HeaderCheck resp came = sym (lt-ltb 0 _ came)
  cause_counted w flags DataCheck resp came = sym (lt-ltb 0 _ came)
  cause_counted w flags RepResponse resp came = some_open w.causes.rep_response
  cause_counted w flags NoBuffer resp came = some_open w.causes.no_buffer
  cause_counted w flags Overrun resp came = refl
  cause_counted w flags MessageTooLong resp came = refl
  cause_counted w flags HeaderFormat resp came = refl

  nak_counted : (w : WireStation L) (m : MessageValue) → DamageIsOpen m w.causes → book.may_nak m (counted w) ≡ causes.may_nak m w.causes
  nak_counted w (Nak flags reason resp) came = cause_counted w flags reason resp came
  nak_counted w m came = refl

  passes_counted : (w : WireStation L) (m : MessageValue) → DamageIsOpen m w.causes → (check : Check) →
      book.passes (is_again w m) (counted w) m check ≡ wire_passes w m check
  passes_counted w m came RespIsLast = refl
  passes_counted w m came CauseIsOpen = nak_counted w m came
  passes_counted w m came SomeOutstanding = refl
  passes_counted w m came NumIsHighest = refl
  passes_counted w m came NumIsNext = refl
  passes_counted w m came RoomIfNew = refl
  passes_counted w m came AsFirstGiven = refl

  -- the same is refused
  pub refusal_counted : (w : WireStation L) (m : MessageValue) → DamageIsOpen m w.causes →
      sending_refusal_by (counted_book (is_again w m)) (counted w) m ≡ wire_sending_refusal w m
  refusal_counted w m came =
      failed_same (book.passes (is_again w m) (counted w) m) (wire_passes w m) (passes_counted w m came) (checks w.variables.state m)

  abbrev HasRoom : Bool → StationVariables L → Type 0
  HasRoom new k = new ≡ true → length k.held < 255

  room_by : (new : Bool) (k : StationVariables L) → cond new (nat_lt (length k.held) 255) true ≡ true → HasRoom new k
  room_by true k passed = λ is. ltb-true (length k.held) 255 passed
  room_by false k passed = λ is. absurd cc

  module _ (w : WireStation L) (flags : Flags) (resp num : ℕ) (body : List ℕ) where
    room_in : (state : State) → failed (wire_passes w (Data flags resp num body)) (checks state (Data flags resp num body)) ≡ None →
        HasRoom (wire_is_new w.variables) w.variables
    room_in Halted none = absurd cc
    room_in Istrt none = absurd cc
    room_in Astrt none = absurd cc
    room_in Running none = room_by (wire_is_new w.variables) w.variables (third_passed _ _ _ _ _ _ _ none)

  module _ (w : WireStation L) (is : IsCounted w) (body : List ℕ) where
    abbrev newest : HeldPacket L
    newest = record { body = body; label = None }

    abbrev sent_on : Bool → WireStation L
    sent_on new = record w { variables = record w.variables { ahead = w.variables.ahead + 1; held = with_new new w.variables.held body } }

    packet_on : (new : Bool) → HasRoom new w.variables → (new ≡ false → w.variables.ahead < length w.variables.held) →
        counted (sent_on new) ≡ book.with_packet new (counted w)
    packet_on true room old =
        let longer = length-append w.variables.held (newest ∷ []) in
        let few = room refl in
        let within = is.ahead in
        let one : w.variables.ahead + 1 ≡ book.next_count w.variables.ahead = omega arith in
        let two : length (w.variables.held ++ newest ∷ []) ≡ book.next_count (length w.variables.held) = omega arith in
        ap₂ (λ (a o : ℕ). record (counted w) { ahead = a; outstanding = o }) one two
    packet_on false room old =
        let most = is.outstanding in
        let below = old refl in
        let one : w.variables.ahead + 1 ≡ book.next_count w.variables.ahead = omega arith in
        ap (λ (a : ℕ). record (counted w) { ahead = a }) one

    -- what is not new comes before the end
    is_old : wire_is_new w.variables ≡ false → w.variables.ahead < length w.variables.held
    is_old not_new =
        let other = eqb-false w.variables.ahead (length w.variables.held) not_new in
        let within = is.ahead in
        omega arith

    pub data_counted : (flags : Flags) (resp num : ℕ) → wire_sending_refusal w (Data flags resp num body) ≡ None →
        counted (wire_after_sending w (Data flags resp num body)) ≡ after_sending_by (counted_book true) (counted w) (Data flags resp num body)
    data_counted flags resp num none =
        packet_on (wire_is_new w.variables) (room_in w flags resp num body w.variables.state none) is_old

  used_up : (w : WireStation L) (reason : NakReason) → IsCounted w →
      counted (record w { causes = causes.without_cause reason w.causes }) ≡ book.without_cause reason (counted w)
  used_up w HeaderCheck is = refl
  used_up w DataCheck is = refl
  used_up w RepResponse is =
      ap (λ (count : ℕ). record (counted w) { answers = count }) (one_less w.causes.rep_response is.answers)
  used_up w NoBuffer is = ap (λ (count : ℕ). record (counted w) { refused = count }) (one_less w.causes.no_buffer is.refused)
  used_up w Overrun is = refl
  used_up w MessageTooLong is = refl
  used_up w HeaderFormat is = refl

  -- and what is not refused changes the counts as it changes the station
  pub sending_counted : (again : Bool) (w : WireStation L) (m : MessageValue) → IsCounted w → wire_sending_refusal w m ≡ None →
      counted (wire_after_sending w m) ≡ after_sending_by (counted_book again) (counted w) m
  sending_counted again w (Data flags resp num body) is none = data_counted w is body flags resp num none
  sending_counted again w (Nak flags reason resp) is none = used_up w reason is
  sending_counted again w (Ack flags resp) is none = refl
  sending_counted again w (Rep flags num) is none = refl
  sending_counted again w (Strt flags) is none = refl
  sending_counted again w (Stack flags) is none = refl

  -- ---- what comes

  -- the same is refused
  pub coming_refused : (again : Bool) (rule : PeriodRule) (w : WireStation L) (arrival : ArrivalValue Tag) (kept : Bool) →
      arrival_refusal_by (counted_book again) rule (counted w) arrival kept ≡ wire_arrival_refusal rule w arrival kept
  coming_refused again rule w (Sound m tag) kept = refl
  coming_refused again rule w HeaderBad kept = refl
  coming_refused again rule w DataBad kept = refl

  with_counted : (w : WireStation L) (reason : NakReason) →
      counted (record w { causes = causes.with_cause reason w.causes }) ≡ book.with_cause reason (counted w)
  with_counted w HeaderCheck = refl
  with_counted w DataCheck = refl
  with_counted w RepResponse = ap (λ (count : ℕ). record (counted w) { answers = count }) (one_more w.causes.rep_response)
  with_counted w NoBuffer = ap (λ (count : ℕ). record (counted w) { refused = count }) (one_more w.causes.no_buffer)
  with_counted w Overrun = refl
  with_counted w MessageTooLong = refl
  with_counted w HeaderFormat = refl

  acknowledged_counted : (b : Bool) (w : WireStation L) (resp : ℕ) →
      counted (record w { variables = wire_acknowledged_by b w.variables resp }) ≡ book.acknowledged_by b (counted w) resp
  acknowledged_counted true w resp =
      ap (λ (count : ℕ). record (book.acknowledged_by true (counted w) resp) { outstanding = count })
      (length-drop (acknowledges w.variables resp) w.variables.held)
  acknowledged_counted false w resp = refl

  -- data whose number is the next or not, as they are kept or not
  data_taken : (m : MessageValue) (tag : Tag) (kept next : Bool) (w : WireStation L) → book.is_next (counted w) (num_of m) ≡ next →
      counted (wire_does m tag kept w TakePacket) ≡ book.with_data next kept (counted w)
  data_taken m tag true true w is = rw is refl
  data_taken m tag false true w is = rw is (with_counted w NoBuffer)
  data_taken m tag kept false w is = rw is refl

  rep_asked : (m : MessageValue) (tag : Tag) (kept same : Bool) (w : WireStation L) → eqb (num_of m) w.variables.received ≡ same →
      counted (wire_does m tag kept w AnswerRep) ≡ book.asked same (counted w)
  rep_asked m tag kept true w is = rw is refl
  rep_asked m tag kept false w is = rw is (with_counted w RepResponse)

  effect_counted : (m : MessageValue) (tag : Tag) (kept : Bool) (w : WireStation L) (effect : Effect) →
      counted (wire_does m tag kept w effect) ≡ book.does m tag kept (counted w) effect
  effect_counted m tag kept w (GoTo state) = refl
  effect_counted m tag kept w TakePartner = refl
  effect_counted m tag kept w Respond =
      acknowledged_counted (nat_lt 0 (acknowledges w.variables (resp_of m))
      && nat_le (acknowledges w.variables (resp_of m)) (length w.variables.held)) w (resp_of m)
  effect_counted m tag kept w SetBack = refl
  effect_counted m tag kept w TakePacket = data_taken m tag kept (book.is_next (counted w) (num_of m)) w refl
  effect_counted m tag kept w AnswerRep = rep_asked m tag kept (eqb (num_of m) w.variables.received) w refl

  effects_counted : (m : MessageValue) (tag : Tag) (kept : Bool) (effects : List Effect) (w : WireStation L) →
      counted (fold (wire_does m tag kept) w effects) ≡ fold (book.does m tag kept) (counted w) effects
  effects_counted m tag kept [] w = refl
  effects_counted m tag kept (effect ∷ effects) w =
      effects_counted m tag kept effects (wire_does m tag kept w effect)
      ∙ ap (λ (s : Station). fold (book.does m tag kept) s effects) (effect_counted m tag kept w effect)

  damage_counted : (reason : NakReason) (w : WireStation L) (b : Bool) →
      counted (cond b (record w { causes = causes.with_cause reason w.causes }) w) ≡ cond b (book.with_cause reason (counted w)) (counted w)
  damage_counted reason w true = with_counted w reason
  damage_counted reason w false = refl

  -- and what comes changes the counts as it changes the station
  pub arrival_counted : (again : Bool) (w : WireStation L) (arrival : ArrivalValue Tag) (kept : Bool) →
      counted (wire_after_arrival w arrival kept) ≡ after_arrival_by (counted_book again) (counted w) arrival kept
  arrival_counted again w (Sound m tag) kept = effects_counted m tag kept (row w.variables.state m).effects w
  arrival_counted again w HeaderBad kept = damage_counted HeaderCheck w (counts_damage w.variables.state)
  arrival_counted again w DataBad kept = damage_counted DataCheck w (counts_damage w.variables.state)
