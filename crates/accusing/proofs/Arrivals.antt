-- What an arrival makes of what is said of a station.
use Rattle.std.proofs.Common.{◌≡◌, ℕ, ◌+◌, Bool, true, false, ◌&&◌, ◌||◌, cond, eqb, ltb, leb, List, [], ◌∷◌, length, fold, refl, sym, ap, subst}
use Rattle.std.proofs.Common.{arith, ◌∙◌}
use Rattle.std.proofs.lemmas.Bool.{and_parts, ltb-true, leb-true, eqb-true}
use Rattle.ddcmp_msg.specs.Message.{MessageValue, Data, Ack, Nak, Rep, Strt, Stack}
use Rattle.dna_station.specs.declared.state.State.{State}
use Rattle.dna_station.specs.declared.state.State.TheVariants.{Halted, Istrt, Astrt, Running}
use Rattle.dna_station.specs.declared.tag.Tag.{Tag}
use Rattle.dna_station.specs.Station.{wire}
use Rattle.dna_station.specs.Table.{Effect, GoTo, Respond, TakePacket, OfPair, Row, ignored, row}
use Rattle.dna_station.specs.WireStation.{StationVariables, WireStation}
use Rattle.dna_station.specs.WireBook.{acknowledges, wire_acknowledged_by, wire_responded, wire_is_next, with_next, variables_after, wire_does}
use Rattle.accusing.specs.declared.heard.Heard.{Heard}
use Rattle.accusing.specs.declared.beginning.Beginning.{Beginning}
use Rattle.accusing.specs.Heard.{hears, next_of}
use Rattle.accusing.specs.Beginning.{begins, heard_if, starts, runs}
use Rattle.accusing.proofs.Modulo.{or_either, or_true, next_reached}
use Rattle.accusing.proofs.Orders.{IsHeard, hears_more}
use Rattle.accusing.proofs.Beginnings.{IsBeginning, heard_is, begins_more}
use Rattle.accusing.proofs.Fits.{NoneIsGiven, IsStart, IsReached, HasBegunIn, HasBegun, begun_more, reached_more}

-- the rows of ASTRT for an ACK and for data with RESP 0
abbrev from_zero : Row
from_zero = record { needs = OfPair; effects = GoTo Running ∷ [] }

abbrev with_packet : Row
with_packet = record { needs = OfPair; effects = GoTo Running ∷ Respond ∷ TakePacket ∷ [] }

module _ {L : Type 0} where
  -- ---- the variables alone

  abbrev pub after_effects : MessageValue → Bool → StationVariables L → List Effect → StationVariables L
  after_effects m kept k effects = fold (variables_after m kept) k effects

  pub variables_of : (m : MessageValue) (tag : Tag) (kept : Bool) (w : WireStation L) (effects : List Effect) →
      (fold (wire_does m tag kept) w effects).variables ≡ after_effects m kept w.variables effects
  variables_of m tag kept w [] = refl
  variables_of m tag kept w (effect ∷ effects) = variables_of m tag kept (wire_does m tag kept w effect) effects

  -- ---- acknowledgements

  responded_none : (k : StationVariables L) (resp : ℕ) → k.held ≡ [] → wire_responded k resp ≡ k
  responded_none k resp e = go (ltb 0 (acknowledges k resp) && leb (acknowledges k resp) (length k.held)) refl
    where
      go : (b : Bool) → (ltb 0 (acknowledges k resp) && leb (acknowledges k resp) (length k.held)) ≡ b → wire_acknowledged_by b k resp ≡ k
      go false is = refl
      go true is =
          let both = and_parts (ltb 0 (acknowledges k resp)) (leb (acknowledges k resp) (length k.held)) is in
          absurd (omega (arith, ltb-true 0 (acknowledges k resp) both.0, leb-true (acknowledges k resp) (length k.held) both.1, ap length e))

  -- ---- a packet

  pub taken : (h : Heard) (k : StationVariables L) (flags : _) (resp num : ℕ) (body : List ℕ) (kept : Bool) → IsHeard h → IsReached h k →
      IsReached (hears h (Data flags resp num body)) (with_next (wire_is_next k num && kept) k)
  taken h k flags resp num body kept is reached = go (wire_is_next k num && kept) refl
    where
      go : (b : Bool) → (wire_is_next k num && kept) ≡ b → IsReached (hears h (Data flags resp num body)) (with_next b k)
      go false e = reached_more h (hears h (Data flags resp num body)) k (hears_more h (Data flags resp num body) is) reached
      go true e =
          let next = eqb-true num (wire (k.received + 1)) (and_parts (wire_is_next k num) kept e).0 in
          record {
            byte = omega arith;
            reach = next_reached (eqb num (next_of h)) h.received k.received h.reach num is.byte reached.byte is.most reached.reach next refl;
          }

  stays : (b : Beginning) (state : State) (k : StationVariables L) → k.state ≡ state → HasBegunIn b state k → HasBegun b k
  stays b state k e is = subst (λ (x : State). HasBegunIn b x k) (sym e) is

  -- ---- a station that has given no number

  start_in : (state : State) (k : StationVariables L) → IsStart k → IsStart (record k { state = state })
  start_in state k is = record {
    received = is.received;
    given = record { acknowledged = is.given.acknowledged; ahead = is.given.ahead; held = is.given.held };
  }

  starts_reached : (b : Beginning) (m : MessageValue) (k : StationVariables L) → IsBeginning b → IsStart k → IsReached (begins b m).heard k
  starts_reached b m k is start = reached_more b.heard (begins b m).heard k (begins_more b m is).heard (record {
    byte = omega (arith, start.received);
    reach = rw (is.zero, start.received) (omega arith);
  })

  -- it comes to RUNNING
  comes_to_run : (b : Beginning) (m : MessageValue) (k : StationVariables L) → IsBeginning b → IsStart k → runs b m ≡ true →
      HasBegunIn (begins b m) Running (record k { state = Running })
  comes_to_run b m k is start run =
      let s = start_in Running k start in (s.given, run, starts_reached b m (record k { state = Running }) is s)

  -- data that come to it in RUNNING, of which the beginning has heard before
  data_come : (b t : Beginning) (flags : _) (resp num : ℕ) (body : List ℕ) (kept : Bool) (k : StationVariables L) → IsHeard b.heard →
      k.state ≡ Running → NoneIsGiven k → IsReached b.heard k → t.run ≡ true → t.heard ≡ hears b.heard (Data flags resp num body) →
      HasBegun t (after_effects (Data flags resp num body) kept k (row Running (Data flags resp num body)).effects)
  data_come b t flags resp num body kept k is running given reached run heard =
      let P : StationVariables L → Type 0 = λ x. HasBegun t (with_next (wire_is_next x num && kept) x) in
      subst P (sym (responded_none k resp given.held))
      (stays t Running (with_next (wire_is_next k num && kept) k) (in_state (wire_is_next k num && kept)) (
        none (wire_is_next k num && kept),
        run,
        subst (λ (h : Heard). IsReached h (with_next (wire_is_next k num && kept) k)) (sym heard)
            (taken b.heard k flags resp num body kept is reached),
      ))
    where
      in_state : (c : Bool) → (with_next c k).state ≡ Running
      in_state true = running
      in_state false = running

      none : (c : Bool) → NoneIsGiven (with_next c k)
      none true = record { acknowledged = given.acknowledged; ahead = given.ahead; held = given.held }
      none false = given

  module _ (b : Beginning) (kept : Bool) (k : StationVariables L) (is : IsBeginning b) where
    more : (m : MessageValue) (state : State) → k.state ≡ state → HasBegunIn b state k → HasBegun (begins b m) k
    more m state e begun = stays (begins b m) state k e (begun_more b (begins b m) state k (begins_more b m is) begun)

    in_istrt : (m : MessageValue) → k.state ≡ Istrt → IsStart k → HasBegun (begins b m) (after_effects m kept k (row Istrt m).effects)
    in_istrt (Strt flags) e start = (start_in Astrt k start, or_true b.strt)
    in_istrt (Stack flags) e start = comes_to_run b (Stack flags) k is start (or_true b.run)
    in_istrt (Data flags resp num body) e start = more (Data flags resp num body) Istrt e start
    in_istrt (Ack flags resp) e start = more (Ack flags resp) Istrt e start
    in_istrt (Nak flags reason resp) e start = more (Nak flags reason resp) Istrt e start
    in_istrt (Rep flags num) e start = more (Rep flags num) Istrt e start

    -- RESP 0 leads from ASTRT to RUNNING
    zero_starts : (resp : ℕ) → b.strt ≡ true → eqb resp 0 ≡ true → (b.run || (b.strt && eqb resp 0)) ≡ true
    zero_starts resp strt zero = let both : (b.strt && eqb resp 0) ≡ true = rw (strt, zero) refl in ap (λ c. b.run || c) both ∙ or_true b.run

    in_astrt : (m : MessageValue) → k.state ≡ Astrt → IsStart k → b.strt ≡ true →
        HasBegun (begins b m) (after_effects m kept k (row Astrt m).effects)
    in_astrt (Strt flags) e start strt = more (Strt flags) Astrt e (start, strt)
    in_astrt (Stack flags) e start strt = comes_to_run b (Stack flags) k is start (or_true b.run)
    in_astrt (Ack flags resp) e start strt = go (eqb resp 0) refl
      where
        go : (c : Bool) → eqb resp 0 ≡ c →
            HasBegun (begins b (Ack flags resp)) (after_effects (Ack flags resp) kept k (cond c from_zero ignored).effects)
        go true zero = comes_to_run b (Ack flags resp) k is start (zero_starts resp strt zero)
        go false other = more (Ack flags resp) Astrt e (start, strt)
    in_astrt (Nak flags reason resp) e start strt = more (Nak flags reason resp) Astrt e (start, strt)
    in_astrt (Rep flags num) e start strt = more (Rep flags num) Astrt e (start, strt)
    in_astrt (Data flags resp num body) e start strt = go (eqb resp 0) refl
      where
        go : (c : Bool) → eqb resp 0 ≡ c →
            HasBegun (begins b (Data flags resp num body)) (after_effects (Data flags resp num body) kept k (cond c with_packet ignored).effects)
        go true zero =
            let run = zero_starts resp strt zero in
            let there = start_in Running k start in
            data_come b (begins b (Data flags resp num body)) flags resp num body kept (record k { state = Running })
            (heard_is b is) refl there.given
            (record { byte = omega (arith, start.received); reach = rw (is.zero, start.received) (omega arith) }) run
            (ap (λ c. heard_if c b.heard (Data flags resp num body)) run)
        go false other = more (Data flags resp num body) Astrt e (start, strt)

    in_running : (m : MessageValue) → k.state ≡ Running → NoneIsGiven k → b.run ≡ true → IsReached b.heard k →
        HasBegun (begins b m) (after_effects m kept k (row Running m).effects)
    in_running (Strt flags) e given run reached = tt
    in_running (Stack flags) e given run reached = more (Stack flags) Running e (given, run, reached)
    in_running (Rep flags num) e given run reached = more (Rep flags num) Running e (given, run, reached)
    in_running (Ack flags resp) e given run reached =
        let P : StationVariables L → Type 0 = λ x. HasBegun (begins b (Ack flags resp)) x in
        subst P (sym (responded_none k resp given.held)) (more (Ack flags resp) Running e (given, run, reached))
    in_running (Nak flags reason resp) e given run reached =
        let P : StationVariables L → Type 0 = λ x. HasBegun (begins b (Nak flags reason resp)) (record x { ahead = 0 }) in
        subst P (sym (responded_none k resp given.held))
        (stays (begins b (Nak flags reason resp)) Running (record k { ahead = 0 }) e
        (begun_more b (begins b (Nak flags reason resp)) Running (record k { ahead = 0 }) (begins_more b (Nak flags reason resp) is)
        (record { acknowledged = given.acknowledged; ahead = refl; held = given.held }, run, record { byte = reached.byte; reach = reached.reach })))
    in_running (Data flags resp num body) e given run reached =
        let now = or_either b.run (starts b (Data flags resp num body)) run in
        data_come b (begins b (Data flags resp num body)) flags resp num body kept k (heard_is b is) e given reached now
        (ap (λ c. heard_if c b.heard (Data flags resp num body)) now)

    -- what comes to a station that has given no number
    pub arrive_begun : (m : MessageValue) (state : State) → k.state ≡ state → HasBegunIn b state k →
        HasBegun (begins b m) (after_effects m kept k (row state m).effects)
    arrive_begun m Halted e begun = more m Halted e begun
    arrive_begun m Istrt e begun = in_istrt m e begun
    arrive_begun m Astrt e begun = in_astrt m e begun.0 begun.1
    arrive_begun m Running e begun = in_running m e begun.0 begun.1 begun.2
