-- What a station sends in data units it was given first, and holds: so what holds of each packet that is given holds of all that it sends.
use Rattle.accusing_links.proofs.Prelude.{◌≡◌, ℕ, Bool, true, false, cond, ◌&&◌, ltb, leb, Option, Some, None, Ok, List, [], ◌∷◌, ◌++◌, length}
use Rattle.accusing_links.proofs.Prelude.{fold, refl, sym, subst, zero, suc, ◌-◌, slice_get, slice_set, drop, bytes_eq-Decides, MessageValue, Data}
use Rattle.accusing_links.proofs.Prelude.{Ack, Nak, Rep, Strt, Stack, NakReason, HeaderCheck, DataCheck, Fate, is_kept, Event, StationRefusal, Halt}
use Rattle.accusing_links.proofs.Prelude.{Tag, TakePartner, Respond, SetBack, TakePacket, AnswerRep, row, counts_damage, ArrivalValue, HeaderBad}
use Rattle.accusing_links.proofs.Prelude.{DataBad, body_of, resp_of, num_of, damaged_by, unless_refused, HeldPacket, StationVariables, WireStation}
use Rattle.accusing_links.proofs.Prelude.{wire_after_event, with_new, labelled, with_label, wire_book, wire_passes, wire_is_new, is_held_packet}
use Rattle.accusing_links.proofs.Prelude.{wire_after_sending, acknowledges, wire_acknowledged_by, wire_is_next, with_next, wire_does, gives_new}
use Rattle.accusing_links.proofs.Prelude.{wire_sending_refusal, checks_passed, machine}
use Rattle.capture_record.specs.declared.event.Event.TheVariants as events
use Rattle.dna_station.specs.Table.{Effect, GoTo}
use Rattle.dna_station.specs.Book.{Sound}

pub not_refused : {X : Type 0} (o : Option StationRefusal) (x y : X) → unless_refused o x ≡ Ok y → (o ≡ None) × (x ≡ y)
not_refused None x y e = (refl, cc)
not_refused (Some refusal) x y e = absurd cc

-- it holds of the packet in a data message
abbrev pub Carries : (List ℕ → Type 0) → MessageValue → Type 0
Carries P (Data flags resp num body) = P body
Carries P m = Unit {0}

module _ {L : Type 0} (P : List ℕ → Type 0) where
  abbrev pub AreHeld : List (HeldPacket L) → Type 0
  AreHeld [] = Unit {0}
  AreHeld (packet ∷ held) = P packet.body × AreHeld held

  -- ---- lists of packets

  dropped : (count : ℕ) (held : List (HeldPacket L)) → AreHeld held → AreHeld (drop count held)
  dropped zero held is = is
  dropped (suc count) [] is = tt
  dropped (suc count) (first ∷ held) is = dropped count held is.1

  pushed : (held : List (HeldPacket L)) (packet : HeldPacket L) → AreHeld held → P packet.body → AreHeld (held ++ packet ∷ [])
  pushed [] packet is this = (this, tt)
  pushed (first ∷ held) packet is this = (is.0, pushed held packet is.1 this)

  changed : (held : List (HeldPacket L)) (place : ℕ) (packet : HeldPacket L) → AreHeld held → P packet.body → AreHeld (slice_set held place packet)
  changed [] place packet is this = tt
  changed (first ∷ held) zero packet is this = (this, is.1)
  changed (first ∷ held) (suc place) packet is this = (is.0, changed held place packet is.1 this)

  at_place : (held : List (HeldPacket L)) (place : ℕ) (packet : HeldPacket L) → AreHeld held → slice_get held place ≡ Some packet → P packet.body
  at_place [] place packet is at = absurd cc
  at_place (first ∷ held) zero packet is at = let same : first ≡ packet = cc in subst (λ (p : HeldPacket L). P p.body) same is.0
  at_place (first ∷ held) (suc place) packet is at = at_place held place packet is.1 at

  labelled_one : (held : List (HeldPacket L)) (newest : Option (HeldPacket L)) (label : L) → AreHeld held →
      slice_get held (length held - 1) ≡ newest → AreHeld (labelled held newest label)
  labelled_one held None label is at = is
  labelled_one held (Some newest) label is at =
      changed held (length held - 1) (record newest { label = Some label }) is (at_place held (length held - 1) newest is at)

  -- a label changes no packet
  pub label_held : (held : List (HeldPacket L)) (label : L) → AreHeld held → AreHeld (with_label held label)
  label_held held label is = labelled_one held (slice_get held (length held - 1)) label is refl

  -- ---- what comes

  acknowledged_held : (b : Bool) (k : StationVariables L) (resp : ℕ) → AreHeld k.held → AreHeld (wire_acknowledged_by b k resp).held
  acknowledged_held true k resp is = dropped (acknowledges k resp) k.held is
  acknowledged_held false k resp is = is

  next_held : (b : Bool) (k : StationVariables L) → AreHeld k.held → AreHeld (with_next b k).held
  next_held true k is = is
  next_held false k is = is

  does_held : (m : MessageValue) (tag : Tag) (kept : Bool) (w : WireStation L) (effect : Effect) → AreHeld w.variables.held →
      AreHeld (wire_does m tag kept w effect).variables.held
  does_held m tag kept w (GoTo state) is = is
  does_held m tag kept w TakePartner is = is
  does_held m tag kept w Respond is = acknowledged_held
      (ltb 0 (acknowledges w.variables (resp_of m)) && leb (acknowledges w.variables (resp_of m)) (length w.variables.held))
      w.variables (resp_of m) is
  does_held m tag kept w SetBack is = is
  does_held m tag kept w TakePacket is = next_held (wire_is_next w.variables (num_of m) && kept) w.variables is
  does_held m tag kept w AnswerRep is = is

  all_held : (m : MessageValue) (tag : Tag) (kept : Bool) (w : WireStation L) (effects : List Effect) → AreHeld w.variables.held →
      AreHeld (fold (wire_does m tag kept) w effects).variables.held
  all_held m tag kept w [] is = is
  all_held m tag kept w (effect ∷ effects) is =
      all_held m tag kept (wire_does m tag kept w effect) effects (does_held m tag kept w effect is)

  damaged_held : (w : WireStation L) (reason : NakReason) → AreHeld w.variables.held → AreHeld (damaged_by wire_book reason w).variables.held
  damaged_held w reason is = go (counts_damage w.variables.state)
    where
      go : (b : Bool) → AreHeld (cond b (wire_book.counts reason w) w).variables.held
      go true = is
      go false = is

  abbrev In : WireStation L → Type 0
  In w = AreHeld w.variables.held

  pub arrives_held : (w after : WireStation L) (arrival : ArrivalValue Tag) (fate : Fate) → machine.arrives w arrival fate ≡ Ok after →
      AreHeld w.variables.held → AreHeld after.variables.held
  arrives_held w after (Sound m tag) fate e is =
      subst In (not_refused _ _ after e).1 (all_held m tag (is_kept fate) w (row w.variables.state m).effects is)
  arrives_held w after HeaderBad fate e is = subst In (not_refused _ _ after e).1 (damaged_held w HeaderCheck is)
  arrives_held w after DataBad fate e is = subst In (not_refused _ _ after e).1 (damaged_held w DataCheck is)

  -- ---- what the user does

  pub user_held : (w after : WireStation L) (event : Event) → machine.user w event ≡ Ok after → AreHeld w.variables.held →
      AreHeld after.variables.held
  user_held w after events.Start e is = subst In (not_refused _ _ after e).1 tt
  user_held w after events.Halt e is = let same : wire_after_event w Halt ≡ after = cc in subst In same is
  user_held w after events.Boot e is = let same : wire_after_event w Halt ≡ after = cc in subst In same is
  user_held w after event e is = let same : w ≡ after = cc in subst In same is

  -- ---- what is sent

  data_held : (w : WireStation L) (body : List ℕ) (b : Bool) → (b ≡ true → P body) →
      cond b true (is_held_packet (slice_get w.variables.held w.variables.ahead) body) ≡ true → AreHeld w.variables.held →
      AreHeld (with_new b w.variables.held body) × P body
  data_held w body true given same is = (pushed w.variables.held (record { body = body; label = None }) is (given refl), given refl)
  data_held w body false given same is = (is, go (slice_get w.variables.held w.variables.ahead) refl same)
    where
      go : (o : Option (HeldPacket L)) → slice_get w.variables.held w.variables.ahead ≡ o → is_held_packet o body ≡ true → P body
      go None at e = absurd cc
      go (Some packet) at e =
          subst P (sym ((bytes_eq-Decides body packet.body).0 e)) (at_place w.variables.held w.variables.ahead packet is at)

  -- of a message that may be sent, where it holds of each packet that is given
  may_be_sent : (w : WireStation L) (m : MessageValue) → (gives_new w m ≡ true → P (body_of m)) → wire_sending_refusal w m ≡ None →
      AreHeld w.variables.held → AreHeld (wire_after_sending w m).variables.held × Carries P m
  may_be_sent w (Data flags resp num body) given may is =
      let passed = checks_passed (wire_passes w (Data flags resp num body)) w.variables.state (Data flags resp num body) refl may in
      data_held w body (wire_is_new w.variables) given passed.1.1.1.0 is
  may_be_sent w (Ack flags resp) given may is = (is, tt)
  may_be_sent w (Nak flags reason resp) given may is = (is, tt)
  may_be_sent w (Rep flags num) given may is = (is, tt)
  may_be_sent w (Strt flags) given may is = (is, tt)
  may_be_sent w (Stack flags) given may is = (is, tt)

  pub sends_held : (w after : WireStation L) (m : MessageValue) (tag : Tag) → machine.sends w m ≡ Ok (after, tag) →
      (gives_new w m ≡ true → P (body_of m)) → AreHeld w.variables.held → AreHeld after.variables.held × Carries P m
  sends_held w after m tag e given is =
      let parts = not_refused (wire_sending_refusal w m) (wire_after_sending w m, wire_book.known w (wire_after_sending w m) m) (after, tag) e in
      let all = may_be_sent w m given parts.0 is in
      (subst (λ (x : WireStation L × Tag). In x.0) parts.1 all.0, all.1)
