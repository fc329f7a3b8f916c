-- What holds of a station after any records.
use Rattle.std.proofs.Common.{◌≡◌, ℕ, ◌+◌, ◌<◌, ◌≤◌, Bool, true, false, ◌&&◌, cond, eqb, ltb, leb, None, List, [], ◌∷◌}
use Rattle.std.proofs.Common.{length, fold, refl, sym, ap, subst, arith, ◌∙◌, length-append, length-drop}
use Rattle.std.specs.Prelude.{slice_get}
use Rattle.std.proofs.lemmas.Bool.{ltb-true, eqb-true, eqb-false}
use Rattle.ddcmp_msg.specs.Message.{MessageValue, Data, Ack, Nak, Rep, Strt, Stack}
use Rattle.ddcmp_msg.specs.declared.nak_reason.NakReason.{NakReason}
use Rattle.dna_links.specs.declared.tag.LinkTag.{LinkTag}
use Rattle.dna_station.specs.declared.state.State.{State}
use Rattle.dna_station.specs.declared.state.State.TheVariants.{Halted, Istrt, Astrt, Running}
use Rattle.dna_station.specs.declared.state.StationEvent.TheVariants.{Start, Halt}
use Rattle.dna_station.specs.declared.tag.Tag.{Tag}
use Rattle.dna_station.specs.ArrivalRows.{goes_to, leads_to}
use Rattle.dna_station.specs.NakCauses.{no_causes}
use Rattle.dna_station.specs.Table.{WINDOW, Effect, GoTo, TakePartner, Respond, SetBack, TakePacket, AnswerRep, OfPair, Row, ignored, row, checks}
use Rattle.dna_station.specs.Table.{counts_damage}
use Rattle.dna_station.specs.Book.{Sound, failed, resp_of, num_of, damaged_by}
use Rattle.dna_station.specs.Station.{wire}
use Rattle.dna_station.specs.WireStation.{HeldPacket, no_numbers, new_wire_station, wire_after_event, with_new}
use Rattle.dna_station.specs.WireBook.{acknowledges, wire_acknowledged_by, wire_responded, wire_is_next, with_next, variables_after, wire_does}
use Rattle.dna_station.specs.WireBook.{wire_book, wire_passes, wire_is_new, is_held_packet}
use Rattle.dna_station.specs.WireBook.{sends_packet, wire_sending_refusal, wire_after_sending, wire_after_arrival}
use Rattle.dna_station.proofs.Steps.Checks.{is_numbered, checks_passed}
use Rattle.part_station.specs.Cases.{Known}
use Rattle.part_station.proofs.Like.{Variables}

-- numbers modulo 256, and a window of 255
pub record IsBounded (v : Variables) : Type 0 where
  pub received : v.received < 256
  pub acknowledged : v.acknowledged < 256
  pub few : length v.held ≤ 255
  pub ahead : v.ahead ≤ length v.held

-- nothing was sent or taken before RUNNING
abbrev pub IsBegun : State → Known → Type 0
IsBegun Istrt w = (w.variables ≡ no_numbers Istrt) × (w.causes ≡ no_causes)
IsBegun Astrt w = (w.variables ≡ no_numbers Astrt) × (w.causes ≡ no_causes)
IsBegun state w = Unit {0}

pub record IsReached (w : Known) : Type 0 where
  pub bounded : IsBounded w.variables
  pub begun : IsBegun w.variables.state w

pub reached_new : IsReached new_wire_station
reached_new = record { bounded = record { received = omega arith; acknowledged = omega arith; few = omega arith; ahead = omega arith }; begun = tt }

pub reached_started : (w : Known) → IsReached (wire_after_event w Start)
reached_started w = record {
  bounded = record { received = omega arith; acknowledged = omega arith; few = omega arith; ahead = omega arith };
  begun = (refl, refl);
}

bounded_in : (state : State) (v : Variables) → IsBounded v → IsBounded (record v { state = state })
bounded_in state v is = record { received = is.received; acknowledged = is.acknowledged; few = is.few; ahead = is.ahead }

pub reached_halted : (w : Known) → IsReached w → IsReached (wire_after_event w Halt)
reached_halted w is = record { bounded = bounded_in Halted w.variables is.bounded; begun = tt }

-- ---- sending

-- RESP or NUM is looked at in RUNNING alone
pub runs_to_send : (passes : _) (state : State) (m : MessageValue) → is_numbered m ≡ true → failed passes (checks state m) ≡ None → state ≡ Running
runs_to_send passes Running m numbered e = refl
runs_to_send passes Halted m numbered e = absurd cc
runs_to_send passes Istrt (Strt flags) numbered e = absurd cc
runs_to_send passes Istrt m numbered e = absurd cc
runs_to_send passes Astrt (Stack flags) numbered e = absurd cc
runs_to_send passes Astrt m numbered e = absurd cc

begun_running : (w : Known) (state : State) → state ≡ Running → IsBegun state w
begun_running w state e = subst (λ (s : State). IsBegun s w) (sym e) tt

bounded_sent : (v : Variables) (body : List ℕ) → (wire_is_new v ≡ true → length v.held < 255) → IsBounded v → IsBounded (sends_packet v body)
bounded_sent v body room is = go (wire_is_new v) refl
  where
    go : (b : Bool) → wire_is_new v ≡ b → IsBounded (record v { ahead = v.ahead + 1; held = with_new b v.held body })
    go true e =
        let packet : HeldPacket LinkTag = record { body = body; label = None } in
        record {
          received = is.received;
          acknowledged = is.acknowledged;
          few = omega (arith, length-append v.held (packet ∷ []), room e);
          ahead = omega (arith, length-append v.held (packet ∷ []), is.ahead);
        }
    go false e = record {
      received = is.received;
      acknowledged = is.acknowledged;
      few = is.few;
      ahead = omega (arith, is.ahead, eqb-false v.ahead (length v.held) e);
    }

-- the checks of data
pub record DataPass (w : Known) (resp num : ℕ) (body : List ℕ) : Type 0 where
  pub running : w.variables.state ≡ Running
  pub next : num ≡ wire (w.variables.acknowledged + 1 + w.variables.ahead)
  pub response : resp ≡ w.variables.received
  pub room : wire_is_new w.variables ≡ true → length w.variables.held < 255
  pub same : wire_is_new w.variables ≡ false → is_held_packet (slice_get w.variables.held w.variables.ahead) body ≡ true

if_new : (b x : Bool) → cond b x true ≡ true → b ≡ true → x ≡ true
if_new true x e is = e
if_new false x e is = absurd cc

if_again : (b x : Bool) → cond b true x ≡ true → b ≡ false → x ≡ true
if_again false x e is = e
if_again true x e is = absurd cc

pub data_pass : (w : Known) (flags : _) (resp num : ℕ) (body : List ℕ) → wire_sending_refusal w (Data flags resp num body) ≡ None →
    DataPass w resp num body
data_pass w flags resp num body e =
    let m = Data flags resp num body in
    let all = checks_passed (wire_passes w m) w.variables.state m refl e in
    record {
      running = runs_to_send (wire_passes w m) w.variables.state m refl e;
      next = eqb-true num (wire (w.variables.acknowledged + 1 + w.variables.ahead)) all.0;
      response = eqb-true resp w.variables.received all.1.0;
      room = λ new. ltb-true (length w.variables.held) WINDOW (if_new (wire_is_new w.variables) _ all.1.1.0 new);
      same = λ again. if_again (wire_is_new w.variables) _ all.1.1.1.0 again;
    }

pub reached_sent : (w : Known) (m : MessageValue) → wire_sending_refusal w m ≡ None → IsReached w → IsReached (wire_after_sending w m)
reached_sent w (Data flags resp num body) e is =
    let pass = data_pass w flags resp num body e in
    record {
      bounded = bounded_sent w.variables body pass.room is.bounded;
      begun = begun_running (wire_after_sending w (Data flags resp num body)) w.variables.state pass.running;
    }
reached_sent w (Nak flags reason resp) e is = record {
  bounded = is.bounded;
  begun = begun_running (wire_after_sending w (Nak flags reason resp)) w.variables.state
      (runs_to_send (wire_passes w (Nak flags reason resp)) w.variables.state (Nak flags reason resp) refl e);
}
reached_sent w (Ack flags resp) e is = is
reached_sent w (Rep flags num) e is = is
reached_sent w (Strt flags) e is = is
reached_sent w (Stack flags) e is = is

-- ---- arrivals

bounded_responded : (v : Variables) (resp : ℕ) → resp < 256 → IsBounded v → IsBounded (wire_responded v resp)
bounded_responded v resp byte is = go (ltb 0 (acknowledges v resp) && leb (acknowledges v resp) (length v.held))
  where
    go : (b : Bool) → IsBounded (wire_acknowledged_by b v resp)
    go true = record {
      received = is.received;
      acknowledged = byte;
      few = omega (arith, length-drop (acknowledges v resp) v.held, is.few);
      ahead = omega (arith, length-drop (acknowledges v resp) v.held, is.ahead);
    }
    go false = is

bounded_next : (b : Bool) (v : Variables) → IsBounded v → IsBounded (with_next b v)
bounded_next true v is = record { received = omega arith; acknowledged = is.acknowledged; few = is.few; ahead = is.ahead }
bounded_next false v is = is

bounded_effect : (m : MessageValue) (kept : Bool) (v : Variables) (effect : Effect) → resp_of m < 256 → IsBounded v →
    IsBounded (variables_after m kept v effect)
bounded_effect m kept v (GoTo state) byte is = bounded_in state v is
bounded_effect m kept v TakePartner byte is = is
bounded_effect m kept v Respond byte is = bounded_responded v (resp_of m) byte is
bounded_effect m kept v SetBack byte is =
    record { received = is.received; acknowledged = is.acknowledged; few = is.few; ahead = omega arith }
bounded_effect m kept v TakePacket byte is = bounded_next (wire_is_next v (num_of m) && kept) v is
bounded_effect m kept v AnswerRep byte is = is

bounded_effects : (m : MessageValue) (tag : Tag) (kept : Bool) (effects : List Effect) (w : Known) → resp_of m < 256 → IsBounded w.variables →
    IsBounded (fold (wire_does m tag kept) w effects).variables
bounded_effects m tag kept [] w byte is = is
bounded_effects m tag kept (effect ∷ next) w byte is =
    bounded_effects m tag kept next (wire_does m tag kept w effect) byte (bounded_effect m kept w.variables effect byte is)

state_responded : (v : Variables) (resp : ℕ) → (wire_responded v resp).state ≡ v.state
state_responded v resp = go (ltb 0 (acknowledges v resp) && leb (acknowledges v resp) (length v.held))
  where
    go : (b : Bool) → (wire_acknowledged_by b v resp).state ≡ v.state
    go true = refl
    go false = refl

pub state_next : (b : Bool) (v : Variables) → (with_next b v).state ≡ v.state
state_next true v = refl
state_next false v = refl

state_effect : (m : MessageValue) (kept : Bool) (v : Variables) (effect : Effect) → (variables_after m kept v effect).state ≡ goes_to v.state effect
state_effect m kept v (GoTo state) = refl
state_effect m kept v TakePartner = refl
state_effect m kept v Respond = state_responded v (resp_of m)
state_effect m kept v SetBack = refl
state_effect m kept v TakePacket = state_next (wire_is_next v (num_of m) && kept) v
state_effect m kept v AnswerRep = refl

pub state_effects : (m : MessageValue) (tag : Tag) (kept : Bool) (effects : List Effect) (w : Known) →
    (fold (wire_does m tag kept) w effects).variables.state ≡ leads_to w.variables.state effects
state_effects m tag kept [] w = refl
state_effects m tag kept (effect ∷ next) w =
    state_effects m tag kept next (wire_does m tag kept w effect) ∙ ap (λ (s : State). leads_to s next) (state_effect m kept w.variables effect)

begun_row : (state : State) (m : MessageValue) (tag : Tag) (kept : Bool) (w : Known) → IsBegun state w →
    IsBegun (leads_to state (row state m).effects) (fold (wire_does m tag kept) w (row state m).effects)
begun_row Halted m tag kept w is = tt
begun_row Istrt (Strt flags) tag kept w is = (ap (λ (v : Variables). record v { state = Astrt }) is.0, is.1)
begun_row Istrt (Stack flags) tag kept w is = tt
begun_row Istrt (Data flags resp num body) tag kept w is = is
begun_row Istrt (Ack flags resp) tag kept w is = is
begun_row Istrt (Nak flags reason resp) tag kept w is = is
begun_row Istrt (Rep flags num) tag kept w is = is
begun_row Astrt (Strt flags) tag kept w is = is
begun_row Astrt (Stack flags) tag kept w is = tt
begun_row Astrt (Nak flags reason resp) tag kept w is = is
begun_row Astrt (Rep flags num) tag kept w is = is
begun_row Astrt (Ack flags resp) tag kept w is = go (eqb resp 0)
  where
    to_running : Row
    to_running = record { needs = OfPair; effects = GoTo Running ∷ [] }

    go : (b : Bool) → IsBegun (leads_to Astrt (cond b to_running ignored).effects)
        (fold (wire_does (Ack flags resp) tag kept) w (cond b to_running ignored).effects)
    go true = tt
    go false = is
begun_row Astrt (Data flags resp num body) tag kept w is = go (eqb resp 0)
  where
    to_running : Row
    to_running = record { needs = OfPair; effects = GoTo Running ∷ Respond ∷ TakePacket ∷ [] }

    go : (b : Bool) → IsBegun (leads_to Astrt (cond b to_running ignored).effects)
        (fold (wire_does (Data flags resp num body) tag kept) w (cond b to_running ignored).effects)
    go true = tt
    go false = is
begun_row Running (Strt flags) tag kept w is = tt
begun_row Running (Stack flags) tag kept w is = tt
begun_row Running (Data flags resp num body) tag kept w is = tt
begun_row Running (Ack flags resp) tag kept w is = tt
begun_row Running (Nak flags reason resp) tag kept w is = tt
begun_row Running (Rep flags num) tag kept w is = tt

pub reached_row : (w : Known) (m : MessageValue) (tag : Tag) (kept : Bool) → resp_of m < 256 → IsReached w →
    IsReached (wire_after_arrival w (Sound m tag) kept)
reached_row w m tag kept byte is =
    let effects = (row w.variables.state m).effects in
    record {
      bounded = bounded_effects m tag kept effects w byte is.bounded;
      begun = subst (λ (s : State). IsBegun s (fold (wire_does m tag kept) w effects)) (sym (state_effects m tag kept effects w))
          (begun_row w.variables.state m tag kept w is.begun);
    }

pub reached_damaged : (w : Known) (reason : NakReason) → IsReached w → IsReached (damaged_by wire_book reason w)
reached_damaged w reason is = go w.variables.state refl
  where
    same : (state : State) → w.variables.state ≡ state → counts_damage state ≡ false → IsReached (damaged_by wire_book reason w)
    same state e none = subst (λ (b : Bool). IsReached (cond b (wire_book.counts reason w) w)) (sym (ap counts_damage e ∙ none)) is

    go : (state : State) → w.variables.state ≡ state → IsReached (damaged_by wire_book reason w)
    go Halted e = same Halted e refl
    go Istrt e = same Istrt e refl
    go Astrt e = same Astrt e refl
    go Running e = subst (λ (b : Bool). IsReached (cond b (wire_book.counts reason w) w)) (sym (ap counts_damage e)) (record {
      bounded = is.bounded;
      begun = begun_running (wire_book.counts reason w) w.variables.state e;
    })
