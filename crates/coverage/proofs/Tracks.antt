-- What is kept of a station goes along with it.
use Rattle.std.proofs.Common.{◌≡◌, ℕ, ◌+◌, ◌≤◌, ◌<◌, Bool, true, false, ◌&&◌, cond, nat_lt, nat_le, Option, Some, None, List, [], ◌∷◌, ◌++◌}
use Rattle.std.proofs.Common.{length, refl, ap, ap₂, ◌∙◌, arith, fold}
use Rattle.std.proofs.lemmas.List.{length-drop, length-append}
use Rattle.std.proofs.lemmas.Bool.{eqb-false, ltb-true}
use Rattle.ddcmp_msg.specs.declared.flags.Flags.{Flags}
use Rattle.ddcmp_msg.specs.Message.{MessageValue, Data, Ack, Nak, Rep, Strt, Stack}
use Rattle.dna_station.specs.declared.state.State.{State}
use Rattle.dna_station.specs.declared.state.State.TheVariants.{Halted, Istrt, Astrt, Running}
use Rattle.dna_station.specs.declared.state.StationEvent.{StationEvent}
use Rattle.dna_station.specs.declared.state.StationEvent.TheVariants.{Start, Halt}
use Rattle.dna_station.specs.declared.refusal.StationRefusal.{StationRefusal}
use Rattle.dna_station.specs.declared.tag.Tag.{Tag}
use Rattle.dna_station.specs.Table.{Effect, GoTo, TakePartner, Respond, SetBack, TakePacket}
use Rattle.dna_station.specs.Table.{AnswerRep, row, checks}
use Rattle.dna_station.specs.Book.{resp_of, num_of, failed}
use Rattle.dna_station.specs.WireStation.{HeldPacket, StationVariables, WireStation, with_new, wire_after_event}
use Rattle.dna_station.specs.WireBook.{wire_acknowledged_by, with_next, variables_after, wire_does, wire_passes, wire_is_new}
use Rattle.dna_station.specs.WireBook.{wire_sending_refusal, wire_after_sending}
use Rattle.coverage.specs.declared.tracker.Tracker.{Tracker}
use Rattle.coverage.specs.inner.Tracked as tracked
use Rattle.coverage.specs.inner.Tracked.{tracker_of, acknowledged_by, responded, does, after_arrival, after_event, after_sending, with_packet}

-- the third check is passed
third_passed : (a b c : Bool) (x y z : StationRefusal) (rest : Option StationRefusal) →
    cond a (cond b (cond c rest (Some z)) (Some y)) (Some x) ≡ None → c ≡ true
third_passed true true true x y z rest none = refl
third_passed true true false x y z rest none = absurd cc
third_passed true false c x y z rest none = absurd cc
third_passed false b c x y z rest none = absurd cc

module _ {L : Type 0} where
  -- at most 255 packets are outstanding, and the next to send is one of them or the one behind them
  pub record IsBounded (k : StationVariables L) : Type 0 where
    pub most : length k.held ≤ 255
    pub within : k.ahead ≤ length k.held

  -- ---- what comes

  acknowledged_tracks : (b : Bool) (k : StationVariables L) (resp : ℕ) →
      tracker_of (wire_acknowledged_by b k resp) ≡ acknowledged_by b (tracker_of k) resp
  acknowledged_tracks true k resp =
      ap (λ (count : ℕ). record (acknowledged_by true (tracker_of k) resp) { outstanding = count })
      (length-drop (tracked.acknowledges (tracker_of k) resp) k.held)
  acknowledged_tracks false k resp = refl

  next_tracks : (b : Bool) (k : StationVariables L) → tracker_of (with_next b k) ≡ tracked.with_next b (tracker_of k)
  next_tracks true k = refl
  next_tracks false k = refl

  effect_tracks : (m : MessageValue) (kept : Bool) (k : StationVariables L) (effect : Effect) →
      tracker_of (variables_after m kept k effect) ≡ does m kept (tracker_of k) effect
  effect_tracks m kept k (GoTo state) = refl
  effect_tracks m kept k TakePartner = refl
  effect_tracks m kept k Respond =
      acknowledged_tracks (nat_lt 0 (tracked.acknowledges (tracker_of k) (resp_of m))
      && nat_le (tracked.acknowledges (tracker_of k) (resp_of m)) (length k.held)) k (resp_of m)
  effect_tracks m kept k SetBack = refl
  effect_tracks m kept k TakePacket = next_tracks (tracked.is_next (tracker_of k) (num_of m) && kept) k
  effect_tracks m kept k AnswerRep = refl

  effects_track : (m : MessageValue) (tag : Tag) (kept : Bool) (effects : List Effect) (w : WireStation L) →
      tracker_of (fold (wire_does m tag kept) w effects).variables ≡ fold (does m kept) (tracker_of w.variables) effects
  effects_track m tag kept [] w = refl
  effects_track m tag kept (effect ∷ effects) w =
      effects_track m tag kept effects (wire_does m tag kept w effect)
      ∙ ap (λ (t : Tracker). fold (does m kept) t effects) (effect_tracks m kept w.variables effect)

  pub arrival_tracks : (m : MessageValue) (tag : Tag) (kept : Bool) (w : WireStation L) →
      tracker_of (fold (wire_does m tag kept) w (row w.variables.state m).effects).variables ≡ after_arrival (tracker_of w.variables) m kept
  arrival_tracks m tag kept w = effects_track m tag kept (row w.variables.state m).effects w

  acknowledged_bounded : (b : Bool) (k : StationVariables L) (resp : ℕ) → IsBounded k → IsBounded (wire_acknowledged_by b k resp)
  acknowledged_bounded true k resp bounded =
      let left = length-drop (tracked.acknowledges (tracker_of k) resp) k.held in
      let most = bounded.most in
      let within = bounded.within in
      record { most = omega (arith, left, most); within = omega (arith, left, within) }
  acknowledged_bounded false k resp bounded = bounded

  next_bounded : (b : Bool) (k : StationVariables L) → IsBounded k → IsBounded (with_next b k)
  next_bounded true k bounded = record { most = bounded.most; within = bounded.within }
  next_bounded false k bounded = bounded

  effect_bounded : (m : MessageValue) (kept : Bool) (k : StationVariables L) (effect : Effect) → IsBounded k →
      IsBounded (variables_after m kept k effect)
  effect_bounded m kept k (GoTo state) bounded = record { most = bounded.most; within = bounded.within }
  effect_bounded m kept k TakePartner bounded = bounded
  effect_bounded m kept k Respond bounded =
      acknowledged_bounded (nat_lt 0 (tracked.acknowledges (tracker_of k) (resp_of m))
      && nat_le (tracked.acknowledges (tracker_of k) (resp_of m)) (length k.held)) k (resp_of m) bounded
  effect_bounded m kept k SetBack bounded = record { most = bounded.most; within = omega arith }
  effect_bounded m kept k TakePacket bounded = next_bounded (tracked.is_next (tracker_of k) (num_of m) && kept) k bounded
  effect_bounded m kept k AnswerRep bounded = bounded

  pub effects_bounded : (m : MessageValue) (tag : Tag) (kept : Bool) (effects : List Effect) (w : WireStation L) → IsBounded w.variables →
      IsBounded (fold (wire_does m tag kept) w effects).variables
  effects_bounded m tag kept [] w bounded = bounded
  effects_bounded m tag kept (effect ∷ effects) w bounded =
      effects_bounded m tag kept effects (wire_does m tag kept w effect) (effect_bounded m kept w.variables effect bounded)

  -- ---- what the user does

  pub event_tracks : (event : StationEvent) (w : WireStation L) →
      tracker_of (wire_after_event w event).variables ≡ after_event (tracker_of w.variables) event
  event_tracks Start w = refl
  event_tracks Halt w = refl

  pub event_bounded : (event : StationEvent) (w : WireStation L) → IsBounded w.variables → IsBounded (wire_after_event w event).variables
  event_bounded Start w bounded = record { most = omega arith; within = omega arith }
  event_bounded Halt w bounded = record { most = bounded.most; within = bounded.within }

  -- ---- what is sent

  abbrev HasRoom : Bool → StationVariables L → Type 0
  HasRoom new k = new ≡ true → length k.held < 255

  room_by : (new : Bool) (k : StationVariables L) → cond new (nat_lt (length k.held) 255) true ≡ true → HasRoom new k
  room_by true k passed = λ is. ltb-true (length k.held) 255 passed
  room_by false k passed = λ is. absurd cc

  module _ (w : WireStation L) (flags : Flags) (resp num : ℕ) (body : List ℕ) where
    room_in : (state : State) → failed (wire_passes w (Data flags resp num body)) (checks state (Data flags resp num body)) ≡ None →
        HasRoom (wire_is_new w.variables) w.variables
    room_in Halted none = absurd cc
    room_in Istrt none = absurd cc
    room_in Astrt none = absurd cc
    room_in Running none = room_by (wire_is_new w.variables) w.variables (third_passed _ _ _ _ _ _ _ none)

  -- a packet is sent, new or again
  module _ (k : StationVariables L) (body : List ℕ) (bounded : IsBounded k) where
    abbrev newest : HeldPacket L
    newest = record { body = body; label = None }

    abbrev sent_on : Bool → StationVariables L
    sent_on new = record k { ahead = k.ahead + 1; held = with_new new k.held body }

    packet_on : (new : Bool) → HasRoom new k → (new ≡ false → k.ahead < length k.held) →
        (tracker_of (sent_on new) ≡ with_packet new (tracker_of k)) × IsBounded (sent_on new)
    packet_on true room old =
        let longer = length-append k.held (newest ∷ []) in
        let few = room refl in
        let within = bounded.within in
        let one : k.ahead + 1 ≡ tracked.next_count k.ahead = omega arith in
        let two : length (k.held ++ newest ∷ []) ≡ tracked.next_count (length k.held) = omega arith in (
          ap₂ (λ (a o : ℕ). record (tracker_of k) { ahead = a; outstanding = o }) one two,
          record { most = omega arith; within = omega arith },
        )
    packet_on false room old =
        let most = bounded.most in
        let below = old refl in
        let one : k.ahead + 1 ≡ tracked.next_count k.ahead = omega arith in (
          ap (λ (a : ℕ). record (tracker_of k) { ahead = a }) one,
          record { most = bounded.most; within = omega arith },
        )

    -- what is not new comes before the end
    pub is_old : wire_is_new k ≡ false → k.ahead < length k.held
    is_old is =
        let other = eqb-false k.ahead (length k.held) is in
        let within = bounded.within in
        omega arith

  module _ (w : WireStation L) (bounded : IsBounded w.variables) where
    pub sending_on : (m : MessageValue) → wire_sending_refusal w m ≡ None →
        (tracker_of (wire_after_sending w m).variables ≡ after_sending (tracker_of w.variables) m) × IsBounded (wire_after_sending w m).variables
    sending_on (Data flags resp num body) none =
        packet_on w.variables body bounded (wire_is_new w.variables) (room_in w flags resp num body w.variables.state none)
        (is_old w.variables body bounded)
    sending_on (Ack flags resp) none = (refl, bounded)
    sending_on (Nak flags reason resp) none = (refl, bounded)
    sending_on (Rep flags num) none = (refl, bounded)
    sending_on (Strt flags) none = (refl, bounded)
    sending_on (Stack flags) none = (refl, bounded)
