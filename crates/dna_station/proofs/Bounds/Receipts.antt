-- The bounds of DDCMP are kept by a receipt, effect by effect; and a message that is acted on comes within them.
use Rattle.std.proofs.Common.{◌≡◌, ℕ, ◌+◌, ◌-◌, ◌≤◌, Bool, true, false, cond, Some, None, List, [], ◌∷◌, fold, length, refl, sym, ap, ◌∙◌, arith}
use Rattle.std.proofs.Common.{eqb-true, ltb-true}
use Rattle.std.specs.Prelude.{slice_get}
use Rattle.std.proofs.lemmas.Bool.{and_parts}
use Rattle.std.proofs.lemmas.Option.{slice_get_within}
use Rattle.ddcmp_msg.specs.declared.nak_reason.NakReason.{NakReason}
use Rattle.ddcmp_msg.specs.declared.nak_reason.NakReason.TheVariants.{HeaderCheck, DataCheck}
use Rattle.dna_station.specs.declared.state.State.{State}
use Rattle.dna_station.specs.Table.{WINDOW, Effect, GoTo, TakePartner, Respond, SetBack, TakePacket, AnswerRep, row, counts_damage}
use Rattle.dna_station.specs.PeriodRule.{of_period}
use Rattle.dna_station.specs.Station.{Station, given}
use Rattle.dna_station.specs.Truth.{Truth}
use Rattle.dna_station.specs.Book.{ArrivalValue, Sound, HeaderBad, DataBad}
use Rattle.dna_station.specs.StationBook.{meets_needs, does, station_book, arrival_refusal, after_arrival}
use Rattle.dna_station.specs.Bounds.{IsNear as IsNearEffect, AreNear, IsWithin}
use Rattle.dna_station.specs.Line.{SentUnit}
use Rattle.dna_station.specs.Node.{Node}
use Rattle.dna_station.proofs.Bounds.Ordered.{arrival_ordered}
use Rattle.dna_station.proofs.Steps.Effects.{by_response, by_packet, by_rep}
use Rattle.dna_station.proofs.Cut.Node.{not_crossed}
use Rattle.dna_station.proofs.Steps.Happens.{ComesOf, Itself, BadHeader, BadData}
use Rattle.two_nodes.proofs.Numbered.{IsNear, AreNumbered, IsPresent, AcksFrom, IsGiven, NumberNear, near}
use Rattle.two_nodes.proofs.NumberedSteps.{present_further, present_received, present_acknowledged, present_new}
use Rattle.dna_station.proofs.Bounds.Numbers.{limits, numbers_of, view, AsksForHighest, has_response, is_data}
use Rattle.dna_station.proofs.Bounds.Stations.{is_starting, HasNone, IsTold, IsSound}
use Rattle.dna_station.proofs.Bounds.Lawful.{IsOfPair, goes, IsLawfulEffect, AreLawful, rows_lawful}

-- ---- what a message says of its RESP and its NUM

acks_of : (u : Truth) (last most : ℕ) (has : Bool) → has ≡ true → AcksFrom limits last most (cond has (u.response ∷ []) []) → (last ≤ u.response) ×
    (u.response ≤ most)
acks_of u last most true e acks = let a = acks.0 in (omega arith, acks.1)
acks_of u last most false e acks = absurd cc

near_of : (u : Truth) (received : ℕ) (has : Bool) → has ≡ true → NumberNear limits (cond has (Some u.number) None) received →
    (received ≤ u.number + (WINDOW - 1)) × (u.number ≤ received + WINDOW)
near_of u received true e number = number
near_of u received false e number = absurd cc

given_of : (u : Truth) (has : Bool) → has ≡ true → IsGiven limits (cond has (Some u.number) None) u.given → u.number ≤ u.given
given_of u true e number = number.0
given_of u false e number = absurd cc

module _ (n : Node) (own other : List SentUnit) (h : IsSound n own other) (theirs : AreNumbered view limits other own) (k : ℕ) (unit : SentUnit)
    (there : slice_get other k ≡ Some unit) (coming : n.front ≤ k) where
  is_near : IsOfPair n.station unit.known.tag → IsNear limits (numbers_of n.station) (view unit)
  is_near pair = near view limits own other n.front (numbers_of n.station) theirs h.present k unit there coming pair.from pair.to

  -- ---- a message comes within the bounds

  module _ (asks : AsksForHighest unit.message unit.known) where
    effect_near : (now : State) (effect : Effect) → IsLawfulEffect n.station unit.message unit.known.tag now effect →
        IsNearEffect n.station unit.known effect
    effect_near now Respond l =
        let a = acks_of unit.known n.station.acknowledged (given n.station) (has_response unit.message) l.1 (is_near l.2).acks in
        record { least = a.0; most = a.1 }
    effect_near now TakePacket l = let a = near_of unit.known n.station.received (is_data unit.message) l.1 (is_near l.2).number in let p = a.0 in
        record { least = omega arith; most = a.1 }
    effect_near now AnswerRep l = let x = is_near l.1 in let e = asks l.0 in let p = x.given_least in let q = x.given_most in
        record { least = omega arith; most = omega arith }
    effect_near now other l = tt

    effects_near : (now : State) (effects : List Effect) → AreLawful n.station unit.message unit.known.tag now effects →
        AreNear n.station unit.known effects
    effects_near now [] l = tt
    effects_near now (effect ∷ next) l = (effect_near now effect l.0, effects_near (goes now effect) next l.1)

  lawful_row : meets_needs of_period n.station unit.message unit.known ≡ true →
      AreLawful n.station unit.message unit.known.tag n.station.state (row n.station.state unit.message).effects
  lawful_row met = rows_lawful n.station unit.known.tag n.station.state unit.message met

  -- a message that is met, and not refused by the rule on periods, is within the bounds
  pub within : (period : ℕ) → IsTold period unit → meets_needs of_period n.station unit.message unit.known ≡ true →
      IsWithin n.station unit.message unit.known
  within period told met =
      record {
        wire_numbers = told.spelled;
        near =
            effects_near told.asks n.station.state (row n.station.state unit.message).effects (lawful_row met);
      }

  -- ---- and the receipt keeps what holds

  -- behind some effects
  record IsMet (now : State) (t : Station) : Type 0 where
    state : t.state ≡ now
    period : t.period ≡ n.station.period
    packets : t.packets ≡ n.station.packets
    none : is_starting now ≡ true → HasNone t
    partner : IsOfPair n.station unit.known.tag → t.partner ≡ n.station.partner
    present : IsPresent view limits own other (k + 1) (numbers_of t)

  unchanged : IsMet n.station.state n.station
  unchanged = record {
    state = refl;
    period = refl;
    packets = refl;
    none = h.none;
    partner = λ pair. refl;
    present = present_further view limits own other n.front (k + 1) (numbers_of n.station) h.present (omega arith);
  }

  -- an effect that leaves the state, the packets and the periods as they are, with what it makes of the numbers
  same_but : {now : State} {t left : Station} → IsMet now t → left.state ≡ t.state → left.period ≡ t.period → left.packets ≡ t.packets →
      left.partner ≡ t.partner → (is_starting now ≡ true → HasNone left) → IsPresent view limits own other (k + 1) (numbers_of left) → IsMet now left
  same_but m state period packets partner none present = record {
    state = state ∙ m.state;
    period = period ∙ m.period;
    packets = packets ∙ m.packets;
    none = none;
    partner = λ pair. partner ∙ m.partner pair;
    present = present;
  }

  module _ (lawful_number : IsGiven limits (view unit).number unit.known.given)
      (lawful_acks : AcksFrom limits unit.known.received unit.known.received (view unit).acks) (kept : Bool) where
    does_met : (now : State) (t : Station) (effect : Effect) → IsLawfulEffect n.station unit.message unit.known.tag now effect → IsMet now t →
        IsMet (goes now effect) (does unit.message unit.known kept t effect)
    does_met now t (GoTo state) l m =
        record { state = refl; period = m.period; packets = m.packets; none = λ e. m.none (l e); partner = m.partner; present = m.present }
    does_met now t TakePartner l m =
        let x = m.none l in
        let given_same : given t ≡ given n.station = ap length m.packets in
        let few = h.present.few in
        record {
          state = m.state;
          period = m.period;
          packets = m.packets;
          none = λ e. x;
          partner = λ pair. sym pair.from;
          present = present_new view limits own other (k + 1) (numbers_of (does unit.message unit.known kept t TakePartner)) x.received x.acknowledged
              (let e : length t.packets ≡ 0 = ap length x.packets in omega arith)
              (λ i v at same.
              let q = m.present.up_to i v at same in let g = q.given in let r = q.received in let y = q.last in
              record { given = omega arith; received = omega arith; last = omega arith });
        }
    does_met now t SetBack l m = same_but m refl refl refl refl m.none m.present
    does_met now t Respond l m = by_response unit.message unit.known kept t (IsMet now) m (λ e.
        let less = ltb-true t.acknowledged unit.known.response (and_parts _ _ e).0 in
        let fits = (acks_of unit.known unit.known.received unit.known.received (has_response unit.message) l.1 lawful_acks).1 in
        same_but m refl refl refl refl (λ e. absurd (let f = l.0 in cc))
        (present_acknowledged view limits own other (k + 1) (k + 1) (numbers_of t) m.present (omega arith) k unit there (omega arith)
        (m.partner l.2 ∙ (l.2).from) unit.known.response (omega arith) fits fits))
    does_met now t TakePacket l m = by_packet unit.message unit.known kept t (IsMet now) m (λ e.
        let next = eqb-true unit.known.number (t.received + 1) e in
        let fits = given_of unit.known (is_data unit.message) l.1 lawful_number in
        same_but m refl refl refl refl (λ e. absurd (let f = l.0 in cc))
        (present_received view limits own other (k + 1) (k + 1) (numbers_of t) m.present (omega arith) k unit there (omega arith)
        (m.partner l.2 ∙ (l.2).from) (t.received + 1) (t.received + 1) (omega arith) (omega arith) (omega arith)))
        (same_but m refl refl refl refl m.none m.present)
    does_met now t AnswerRep l m =
        by_rep unit.message unit.known kept t (IsMet now) m
        (same_but m refl refl refl refl m.none m.present)

    all_met : (effects : List Effect) (now : State) (t : Station) → AreLawful n.station unit.message unit.known.tag now effects → IsMet now t →
        IsMet (fold goes now effects) (fold (does unit.message unit.known kept) t effects)
    all_met [] now t l m = m
    all_met (effect ∷ next) now t l m = all_met next (goes now effect) (does unit.message unit.known kept t effect) l.1 (does_met now t effect l.0 m)

  -- what a receipt leaves
  record IsLeft (t : Station) : Type 0 where
    period : t.period ≡ n.station.period
    none : is_starting t.state ≡ true → HasNone t
    present : IsPresent view limits own other (k + 1) (numbers_of t)

  met_left : (now : State) (t : Station) → IsMet now t → IsLeft t
  met_left now t m = record { period = m.period; none = λ e. m.none (ap is_starting (sym m.state) ∙ e); present = m.present }

  damaged_left : (reason : NakReason) (b : Bool) → IsLeft (cond b (station_book.counts reason n.station) n.station)
  damaged_left reason true = let u = unchanged in record { period = refl; none = h.none; present = u.present }
  damaged_left reason false = met_left n.station.state n.station unchanged

  arrival_left : (bytes : List ℕ) (arrival : ArrivalValue Truth) (kept : Bool) → ComesOf unit bytes arrival →
      arrival_refusal of_period n.station arrival kept ≡ None → IsLeft (after_arrival n.station arrival kept)
  arrival_left bytes (Sound m u) kept (Itself same) allowed =
      let lawful = theirs.lawful k unit there in
      met_left _ _ (all_met lawful.number lawful.acks kept (row n.station.state unit.message).effects n.station.state n.station
      (lawful_row (not_crossed n.station unit.message unit.known kept allowed)) unchanged)
  arrival_left bytes HeaderBad kept BadHeader allowed = damaged_left HeaderCheck (counts_damage n.station.state)
  arrival_left bytes DataBad kept BadData allowed = damaged_left DataCheck (counts_damage n.station.state)

  pub sound_receipt : (bytes : List ℕ) (arrival : ArrivalValue Truth) (kept : Bool) → ComesOf unit bytes arrival →
      arrival_refusal of_period n.station arrival kept ≡ None → IsSound (record n { station = after_arrival n.station arrival kept; front = k + 1 })
      own other
  sound_receipt bytes arrival kept of_unit allowed =
      let m = arrival_left bytes arrival kept of_unit allowed in
      record {
        ordered = arrival_ordered n.station arrival kept h.ordered;
        none = m.none;
        met = let w = slice_get_within other k unit there in omega arith;
        told = λ i u at. let t = h.told i u at in let e = m.period in
            record { reads = t.reads; spelled = t.spelled; asks = t.asks; no_later = let l = t.no_later in omega arith };
        messages = h.messages;
        present = m.present;
      }
