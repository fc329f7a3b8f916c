-- What an arrival makes of a station that has given numbers.
use Rattle.std.proofs.Common.{◌-◌, ◌≡◌, ℕ, ◌+◌, ◌<◌, ◌≤◌, Bool, true, false, ◌&&◌, ◌||◌, not, eqb, ltb, leb, List, ◌++◌, length, map, take, drop}
use Rattle.std.proofs.Common.{refl, sym, ap, arith, ◌∙◌, append_assoc, length-append, length-drop, ◌⊎◌, inl, inr}
use Rattle.accusing.specs.Heard.{has_resp}
use Rattle.accusing.proofs.Resps.{there}
use Rattle.std.proofs.lemmas.Bool.{cases_lt, and_parts, ltb-true, leb-true, eqb-true, not-false}
use Rattle.std.proofs.lemmas.List.{map-append, take-append-drop, length-take-le, length-map}
use Rattle.ddcmp_msg.specs.Message.{MessageValue, Data, Ack, Nak, Rep, Strt, Stack}
use Rattle.dna_station.specs.declared.state.State.TheVariants.{Running}
use Rattle.dna_station.specs.Table.{row}
use Rattle.dna_station.specs.Book.{resp_of}
use Rattle.dna_station.specs.WireStation.{HeldPacket, StationVariables}
use Rattle.dna_station.specs.WireBook.{acknowledges, wire_acknowledged_by, wire_responded, wire_is_next, with_next}
use Rattle.accusing.specs.declared.heard.Heard.{Heard}
use Rattle.accusing.specs.declared.beginning.Beginning.{Beginning}
use Rattle.accusing.specs.Heard.{hears}
use Rattle.accusing.specs.Sight.{Given}
use Rattle.accusing.proofs.Modulo.{or_second}
use Rattle.accusing.proofs.Orders.{IsHeard, IsWithin, hears_more}
use Rattle.accusing.proofs.Fits.{marked, IsReached, HasBegun, HasGiven, given_more, reached_more}
use Rattle.accusing.proofs.Arrivals.{after_effects, taken}

zero_of : (a : Bool) (resp : ℕ) → (a || not (eqb resp 0)) ≡ false → resp ≡ 0
zero_of a resp e = eqb-true resp 0 (not-false (eqb resp 0) (or_second a (not (eqb resp 0)) e))

module _ {L : Type 0} where
  -- what is acknowledged goes over to what was before
  marks_on : (marks before : List ℕ) (held : List (HeldPacket L)) (d : ℕ) → marks ≡ before ++ map marked held →
      marks ≡ (before ++ map marked (take d held)) ++ map marked (drop d held)
  marks_on marks before held d e =
      e ∙ ap (λ (x : List (HeldPacket L)). before ++ map marked x) (sym (take-append-drop d held))
      ∙ ap (λ (x : List ℕ). before ++ x) (map-append marked (take d held) (drop d held))
      ∙ sym (append_assoc before (map marked (take d held)) (map marked (drop d held)))

  length_on : (before : List ℕ) (held : List (HeldPacket L)) (d : ℕ) → d ≤ length held →
      length (before ++ map marked (take d held)) ≡ length before + d
  length_on before held d l =
      length-append before (map marked (take d held)) ∙ ap (λ x. length before + x) (length-map (take d held) marked ∙ length-take-le d held l)

  module _ (h t : Heard) (g : Given) (k : StationVariables L) (resp : ℕ) (byte : resp < 256) (more : IsWithin h t)
      (passed : has_resp t resp ≡ true) (answer : t.answered ≡ false → resp ≡ 0) (is : HasGiven h g k) where
    -- the next to send stays as far before the newest, or comes to be the one after A
    moved_on : 0 < acknowledges k resp → (k.ahead < acknowledges k resp) ⊎ (acknowledges k resp ≤ k.ahead) →
        (length (drop (acknowledges k resp) k.held) - (k.ahead - acknowledges k resp) ≡ g.back) ⊎ (k.ahead - acknowledges k resp ≡ 0)
    moved_on above (inl past) = inr (omega (arith, past))
    moved_on above (inr ahead) = go is.moved
      where
        go : (length k.held - k.ahead ≡ g.back) ⊎ (k.ahead ≡ 0) →
            (length (drop (acknowledges k resp) k.held) - (k.ahead - acknowledges k resp) ≡ g.back) ⊎ (k.ahead - acknowledges k resp ≡ 0)
        go (inl same) = inl (omega (arith, length-drop (acknowledges k resp) k.held, is.ahead, ahead))
        go (inr zero) = inr (omega (arith, zero))

    acknowledged : 0 < acknowledges k resp → acknowledges k resp ≤ length k.held → HasGiven t g (wire_acknowledged_by true k resp)
    acknowledged above within =
        let d = acknowledges k resp in
        let count = length_on is.before k.held d within in
        let left = length-drop d k.held in
        let reached = reached_more h t k more is.reached in
        record {
          running = is.running;
          reached = record { byte = reached.byte; reach = reached.reach };
          before = is.before ++ map marked (take d k.held);
          marks = marks_on g.marks is.before k.held d is.marks;
          acknowledged = omega (arith, count, is.acknowledged, byte);
          few = omega (arith, left, is.few);
          ahead = omega (arith, left, is.ahead);
          passed = inr passed;
          moved = moved_on above (cases_lt k.ahead d);
          unanswered = λ e.
              let zero = answer e in let none = (is.unanswered (more.answered e)).0 in
              absurd (omega (arith, zero, none, is.acknowledged, above));
          unasked = λ e. omega (arith, left, is.unasked (more.nak e), is.ahead);
        }

    pub responded_given : HasGiven t g (wire_responded k resp)
    responded_given = go (ltb 0 (acknowledges k resp) && leb (acknowledges k resp) (length k.held)) refl
      where
        go : (b : Bool) → (ltb 0 (acknowledges k resp) && leb (acknowledges k resp) (length k.held)) ≡ b →
            HasGiven t g (wire_acknowledged_by b k resp)
        go false e = given_more h t g k more is
        go true e =
            let both = and_parts (ltb 0 (acknowledges k resp)) (leb (acknowledges k resp) (length k.held)) e in
            acknowledged (ltb-true 0 (acknowledges k resp) both.0) (leb-true (acknowledges k resp) (length k.held) both.1)

  -- R stays
  responded_reached : (h : Heard) (k : StationVariables L) (resp : ℕ) → IsReached h k → IsReached h (wire_responded k resp)
  responded_reached h k resp is = go (ltb 0 (acknowledges k resp) && leb (acknowledges k resp) (length k.held))
    where
      go : (b : Bool) → IsReached h (wire_acknowledged_by b k resp)
      go true = record { byte = is.byte; reach = is.reach }
      go false = is

  set_back : (h : Heard) (g : Given) (k : StationVariables L) → h.nak ≡ true → HasGiven h g k → HasGiven h g (record k { ahead = 0 })
  set_back h g k nak is = record {
    running = is.running;
    reached = record { byte = is.reached.byte; reach = is.reached.reach };
    before = is.before;
    marks = is.marks;
    acknowledged = is.acknowledged;
    few = is.few;
    ahead = omega arith;
    passed = is.passed;
    moved = inr refl;
    unanswered = λ e. let was = is.unanswered e in (was.0, omega (arith, was.1));
    unasked = λ e. absurd cc;
  }

  next_given : (c : Bool) (h : Heard) (g : Given) (k : StationVariables L) → IsReached h (with_next c k) → HasGiven h g k →
      HasGiven h g (with_next c k)
  next_given false h g k reached is = is
  next_given true h g k reached is = record {
    running = is.running;
    reached = reached;
    before = is.before;
    marks = is.marks;
    acknowledged = is.acknowledged;
    few = is.few;
    ahead = is.ahead;
    passed = is.passed;
    moved = is.moved;
    unanswered = is.unanswered;
    unasked = is.unasked;
  }

  -- what comes to a station that has given numbers: it stays one, or a STRT halts it
  pub arrive_given : (h : Heard) (g : Given) (b : Beginning) (m : MessageValue) (kept : Bool) (k : StationVariables L) → IsHeard h →
      resp_of m < 256 → HasGiven h g k →
      HasBegun b (after_effects m kept k (row Running m).effects) ⊎ HasGiven (hears h m) g (after_effects m kept k (row Running m).effects)
  arrive_given h g b (Strt flags) kept k is byte given = inl tt
  arrive_given h g b (Stack flags) kept k is byte given = inr given
  arrive_given h g b (Rep flags num) kept k is byte given = inr given
  arrive_given h g b (Ack flags resp) kept k is byte given =
      inr (responded_given h (hears h (Ack flags resp)) g k resp byte (hears_more h (Ack flags resp) is)
      (there h.resps resp (omega (arith, is.size, byte))) (zero_of h.answered resp) given)
  arrive_given h g b (Nak flags reason resp) kept k is byte given =
      inr (set_back (hears h (Nak flags reason resp)) g (wire_responded k resp) refl
      (responded_given h (hears h (Nak flags reason resp)) g k resp byte (hears_more h (Nak flags reason resp) is)
      (there h.resps resp (omega (arith, is.size, byte)))
      (zero_of h.answered resp) given))
  arrive_given h g b (Data flags resp num body) kept k is byte given =
      inr (next_given (wire_is_next (wire_responded k resp) num && kept) (hears h (Data flags resp num body)) g (wire_responded k resp)
      (taken h (wire_responded k resp) flags resp num body kept is (responded_reached h k resp given.reached))
      (responded_given h (hears h (Data flags resp num body)) g k resp byte (hears_more h (Data flags resp num body) is)
      (there h.resps resp (omega (arith, is.size, byte))) (zero_of h.answered resp) given))
