-- Cutting a station to what a node keeps commutes with each effect of an arrival, where its numbers are near; and so with all of a row.
use Rattle.std.proofs.Common.{◌≡◌, ℕ, ◌+◌, ◌-◌, ◌<◌, ◌≤◌, max, Bool, true, false, ◌&&◌, not, eqb, ltb, leb, cond, Some, None, List, [], ◌∷◌, fold}
use Rattle.std.proofs.Common.{length, drop, refl, sym, ap, ap₂, ◌∙◌, arith, drop-drop, lt-ltb, le-ltb, le-leb, eqb-true, leb-true, ne_eqb, subst, ◌⊎◌}
use Rattle.std.proofs.Common.{inl, inr}
use Rattle.std.proofs.lemmas.Bool.{cases_lt, and_parts, and_left, and_right}
use Rattle.ddcmp_msg.specs.Message.{MessageValue}
use Rattle.ddcmp_msg.specs.declared.nak_reason.NakReason.{NakReason}
use Rattle.ddcmp_msg.specs.declared.nak_reason.NakReason.TheVariants.{HeaderCheck, DataCheck, RepResponse, NoBuffer}
use Rattle.dna_station.specs.declared.refusal.StationRefusal.TheVariants.{CrossedPeriod}
use Rattle.dna_station.specs.NakCauses.{with_cause}
use Rattle.dna_station.specs.Table.{Effect, GoTo, TakePartner, Respond, SetBack, TakePacket, AnswerRep, row, counts_damage}
use Rattle.dna_station.specs.PeriodRule.{PeriodRule}
use Rattle.dna_station.specs.Book.{Sound, HeaderBad, DataBad, num_of, body_of, has_packet, keep_refusal}
use Rattle.dna_station.specs.Station.{Station, given, wire}
use Rattle.dna_station.specs.Truth.{Truth}
use Rattle.dna_station.specs.StationBook.{meets_needs, takes, arrival_refusal, after_arrival, is_next, acknowledged_by, responded, with_data, asked}
use Rattle.dna_station.specs.StationBook.{does, station_book}
use Rattle.dna_station.specs.WireStation.{HeldPacket, WireStation}
use Rattle.dna_station.specs.WireBook.{with_next, wire_is_next, acknowledges, wire_acknowledged_by, wire_responded, wire_does, wire_book}
use Rattle.dna_station.specs.WireBook.{wire_arrival_refusal, wire_after_arrival, wire_taken}
use Rattle.dna_station.specs.Bounds.{IsOrdered, HasWireNumbers, ResponseIsNear, NumberIsNear, IsNear, AreNear, IsWithin}
use Rattle.dna_station.specs.Cut.{AreLabelled, cut, with_taken}
use Rattle.dna_station.proofs.Bounds.Modulo.{wire-one, distance_near, next_near, rep_near}
use Rattle.dna_station.proofs.Bounds.Ordered.{does_ordered}
use Rattle.dna_station.proofs.Steps.Effects.{by_response, by_packet, by_rep, does_stays}
use Rattle.dna_station.proofs.Cut.Sending.{outstanding}

-- RESP moves the acknowledged number where the distance is above 0
response_test : (a n r h d : ℕ) → a ≤ r → r ≤ n → h ≡ n - a → d ≡ r - a → (ltb a r && leb r n) ≡ (ltb 0 d && leb d h)
response_test a n r h d least most held distance = go (cases_lt a r)
  where
    go : (a < r) ⊎ (r ≤ a) → (ltb a r && leb r n) ≡ (ltb 0 d && leb d h)
    go (inl l) =
        let p = lt-ltb a r l in let q = le-leb r n most in
        let p' = lt-ltb 0 d (omega arith) in let q' = le-leb d h (omega arith) in cc
    go (inr m) = let p = le-ltb a r m in let p' = le-ltb 0 d (omega arith) in cc

-- ---- what is near stays near

module _ (m : MessageValue) (u : Truth) (kept : Bool) (s : Station) where
  same_near : (t : Station) → t.received ≡ s.received → t.acknowledged ≡ s.acknowledged → t.packets ≡ s.packets → (effect : Effect) →
      IsNear s u effect → IsNear t u effect
  same_near t r a p Respond near = let g = ap length p in let l = near.least in let n = near.most in
      record { least = omega arith; most = omega arith }
  same_near t r a p TakePacket near = let l = near.least in let n = near.most in record { least = omega arith; most = omega arith }
  same_near t r a p AnswerRep near = let l = near.least in let n = near.most in record { least = omega arith; most = omega arith }
  same_near t r a p effect near = tt

  acknowledged_near : (effect : Effect) → u.response ≤ given s → IsNear s u effect → IsNear (acknowledged_by true s u.response) u effect
  acknowledged_near Respond most near = record { least = omega arith; most = most }
  acknowledged_near TakePacket most near = record { least = near.least; most = near.most }
  acknowledged_near AnswerRep most near = record { least = near.least; most = near.most }
  acknowledged_near effect most near = tt

  received_near : (effect : Effect) → u.number ≡ s.received + 1 → IsNear s u effect → IsNear (with_data true true s (body_of m)) u effect
  received_near Respond e near = record { least = near.least; most = near.most }
  received_near TakePacket e near = record { least = omega arith; most = omega arith }
  received_near AnswerRep e near = record { least = omega arith; most = omega arith }
  received_near effect e near = tt

  near_stays : (done next : Effect) → IsNear s u next → IsNear (does m u kept s done) u next
  near_stays (GoTo state) next near = same_near _ refl refl refl next near
  near_stays TakePartner next near = same_near (does m u kept s TakePartner) refl refl refl next near
  near_stays SetBack next near = same_near (does m u kept s SetBack) refl refl refl next near
  near_stays Respond next near =
      by_response m u kept s (λ (t : Station). IsNear t u next) near
      (λ e. acknowledged_near next (leb-true u.response (given s) (and_parts (ltb s.acknowledged u.response) (leb u.response (given s)) e).1)
      near)
  near_stays TakePacket next near =
      by_packet m u kept s (λ (t : Station). IsNear t u next) near (λ e. received_near next (eqb-true u.number (s.received + 1) e) near)
      (same_near (with_data true false s (body_of m)) refl refl refl next near)
  near_stays AnswerRep next near = by_rep m u kept s (λ (t : Station). IsNear t u next) near (same_near (asked false s) refl refl refl next near)

  nears_stay : (done : Effect) (effects : List Effect) → AreNear s u effects → AreNear (does m u kept s done) u effects
  nears_stay done [] near = tt
  nears_stay done (effect ∷ next) near = (near_stays done effect near.0, nears_stay done next near.1)

-- ---- cutting

module _ {L : Type 0} (all : List (HeldPacket L)) where
  module _ (s : Station) (labelled : AreLabelled all s) (ordered : IsOrdered s) (r : ℕ) (near : ResponseIsNear s r) where
    distance : acknowledges (cut all s).variables (wire r) ≡ r - s.acknowledged
    distance =
        let l = near.least in let m = near.most in let few = ordered.few in
        distance_near s.acknowledged r l (omega arith)

    acknowledged_same : (b : Bool) →
        cut all (acknowledged_by b s r) ≡ record (cut all s) { variables = wire_acknowledged_by b (cut all s).variables (wire r) }
    acknowledged_same true =
        let l = near.least in let a = ordered.above in let d = distance in
        let ahead : max s.next_to_send (r + 1) - (r + 1) ≡ s.next_to_send - (s.acknowledged + 1) - acknowledges (cut all s).variables (wire r) =
        omega arith in
        let place : r ≡ s.acknowledged + acknowledges (cut all s).variables (wire r) = omega arith in
        let held = ap (λ n. drop n all) place ∙ sym (drop-drop (acknowledges (cut all s).variables (wire r)) s.acknowledged all) in
        ap₂ (λ (n : ℕ) (ps : List (HeldPacket L)). record (cut all s)
        { variables = record (cut all s).variables { acknowledged = wire r; ahead = n; held = ps } }) ahead held
    acknowledged_same false = refl

    responded_same : cut all (responded s r) ≡ record (cut all s) { variables = wire_responded (cut all s).variables (wire r) }
    responded_same =
        acknowledged_same (ltb s.acknowledged r && leb r (given s))
        ∙ ap (λ (b : Bool). record (cut all s) { variables = wire_acknowledged_by b (cut all s).variables (wire r) })
        (response_test s.acknowledged (given s) r (length (drop s.acknowledged all)) (acknowledges (cut all s).variables (wire r)) near.least
        near.most (outstanding all s labelled ordered) distance)

  next_same : (s : Station) (u : Truth) → NumberIsNear s u.number → is_next s u ≡ wire_is_next (cut all s).variables (wire u.number)
  next_same s u near = let l = near.least in next_near s.received u.number (omega arith) near.most

  module _ (m : MessageValue) (u : Truth) (kept : Bool) (wires : HasWireNumbers m u) where
    packet_as : Station → (next kept : Bool) → WireStation L
    packet_as s next kept =
        record (cut all s) {
          variables = with_next (next && kept) (cut all s).variables;
          causes =
              cond (next && not kept) (with_cause NoBuffer s.causes) s.causes;
        }

    packet_same : (s : Station) (next kept : Bool) → cut all (with_data next kept s (body_of m)) ≡ packet_as s next kept
    unfolding packet_as
    packet_same s true true =
        ap (λ (n : ℕ). record (cut all s) { variables = record (cut all s).variables { received = n } }) (sym (wire-one s.received))
    packet_same s true false = refl
    packet_same s false kept = refl

    asked_same : (s : Station) (b : Bool) → cut all (asked b s) ≡ record (cut all s) { causes = cond b s.causes (with_cause RepResponse s.causes) }
    asked_same s true = refl
    asked_same s false = refl

    does_same : (s : Station) → AreLabelled all s → IsOrdered s → (effect : Effect) → IsNear s u effect →
        cut all (does m u kept s effect) ≡ wire_does m u.tag kept (cut all s) effect
    unfolding packet_as
    does_same s labelled ordered (GoTo state) near = refl
    does_same s labelled ordered TakePartner near = refl
    does_same s labelled ordered Respond near =
        responded_same s labelled ordered u.response near ∙ ap (λ (r : ℕ). record (cut all s) { variables = wire_responded (cut all s).variables r })
        (sym wires.response)
    does_same s labelled ordered SetBack near =
        let none : s.acknowledged + 1 - (s.acknowledged + 1) ≡ 0 = omega arith in
        ap (λ (n : ℕ). record (cut all s) { variables = record (cut all s).variables { ahead = n } }) none
    does_same s labelled ordered TakePacket near =
        packet_same s (is_next s u) kept ∙
        ap (λ (b : Bool). packet_as s b kept) (next_same s u near ∙ ap (λ (n : ℕ). wire_is_next (cut all s).variables n) (sym wires.number))
    does_same s labelled ordered AnswerRep near =
        asked_same s (eqb u.number s.received)
        ∙ ap (λ (b : Bool). record (cut all s) { causes = cond b s.causes (with_cause RepResponse s.causes) })
        (rep_near s.received u.number near.least near.most ∙ ap (λ n. eqb n (wire s.received)) (sym wires.number))

    effects_same : (effects : List Effect) (s : Station) → AreLabelled all s → IsOrdered s → AreNear s u effects →
        cut all (fold (does m u kept) s effects) ≡ fold (wire_does m u.tag kept) (cut all s) effects
    effects_same [] s labelled ordered near = refl
    effects_same (effect ∷ next) s labelled ordered near =
        effects_same next (does m u kept s effect) (labelled ∙ sym (does_stays m u kept s effect).packets) (does_ordered m u kept s effect ordered)
        (nears_stay m u kept s effect next near.1)
        ∙ ap (λ (w : WireStation L). fold (wire_does m u.tag kept) w next) (does_same s labelled ordered effect near.0)

    -- ---- what refuses

    packet_near : (s : Station) (effects : List Effect) → AreNear s u effects → has_packet effects ≡ true → NumberIsNear s u.number
    packet_near s [] near e = absurd cc
    packet_near s (TakePacket ∷ next) near e = near.0
    packet_near s (effect ∷ next) near e = packet_near s next near.1 e

    takes_same : (s : Station) → AreNear s u (row s.state m).effects →
        takes s m u ≡ (has_packet (row s.state m).effects && wire_is_next (cut all s).variables (num_of m))
    takes_same s near = go (has_packet (row s.state m).effects) (packet_near s (row s.state m).effects near)
      where
        go : (b : Bool) → (b ≡ true → NumberIsNear s u.number) → (b && is_next s u) ≡ (b && wire_is_next (cut all s).variables (num_of m))
        go true n = next_same s u (n refl) ∙ ap (λ (n : ℕ). wire_is_next (cut all s).variables n) (sym wires.number)
        go false n = refl

  -- the same arrivals are refused, for the same reasons
  pub arrival_refusal_same : (rule : PeriodRule) (s : Station) (m : MessageValue) (u : Truth) (kept : Bool) →
      (meets_needs rule s m u ≡ true → IsWithin s m u) →
      arrival_refusal rule s (Sound m u) kept ≡ wire_arrival_refusal rule (cut all s) (Sound m u.tag) kept
  arrival_refusal_same rule s m u kept within = go (meets_needs rule s m u) within
    where
      go : (b : Bool) → (b ≡ true → IsWithin s m u) → cond b (keep_refusal (takes s m u) kept) (Some CrossedPeriod) ≡ cond b
          (keep_refusal (has_packet (row s.state m).effects && wire_is_next (cut all s).variables (num_of m)) kept) (Some CrossedPeriod)
      go true within = ap (λ (b : Bool). keep_refusal b kept) (takes_same m u kept (within refl).wire_numbers s (within refl).near)
      go false within = refl

  -- and what comes changes what is kept in the same way
  pub arrival_same : (s : Station) (labelled : AreLabelled all s) (ordered : IsOrdered s) (m : MessageValue) (u : Truth) (kept : Bool) →
      IsWithin s m u →
      cut all (after_arrival s (Sound m u) kept) ≡ wire_after_arrival (cut all s) (Sound m u.tag) kept
  arrival_same s labelled ordered m u kept within = effects_same m u kept within.wire_numbers (row s.state m).effects s labelled ordered within.near

  damaged_same : (s : Station) (reason : NakReason) (b : Bool) →
      cut all (cond b (station_book.counts reason s) s) ≡ cond b (wire_book.counts reason (cut all s)) (cut all s)
  damaged_same s reason true = refl
  damaged_same s reason false = refl

  pub header_same : (s : Station) (kept : Bool) → cut all (after_arrival s HeaderBad kept) ≡ wire_after_arrival (cut all s) HeaderBad kept
  header_same s kept = damaged_same s HeaderCheck (counts_damage s.state)

  pub data_bad_same : (s : Station) (kept : Bool) → cut all (after_arrival s DataBad kept) ≡ wire_after_arrival (cut all s) DataBad kept
  data_bad_same s kept = damaged_same s DataCheck (counts_damage s.state)

-- ---- the packet that is taken

module _ (m : MessageValue) (u : Truth) (kept : Bool) where
  -- what the effects of a row take, where they take the packet or not
  pub record TakesBy (s t : Station) (takes : Bool) : Type 0 where
    pub taken : t.taken ≡ with_taken s.taken (cond takes (Some (body_of m)) None)
    pub received : t.received ≡ s.received + cond takes 1 0

  -- behind what takes nothing
  carried : (s t f : Station) (has : Bool) → t.taken ≡ s.taken → t.received ≡ s.received → TakesBy t f ((has && is_next t u) && kept) →
      TakesBy s f ((has && is_next s u) && kept)
  carried s t f has taken received r = record {
    taken = r.taken ∙ ap₂ (λ (l : List (List ℕ)) (n : ℕ). with_taken l (cond ((has && eqb u.number (n + 1)) && kept) (Some (body_of m)) None)) taken
        received;
    received = r.received ∙ ap (λ (n : ℕ). n + cond ((has && eqb u.number (n + 1)) && kept) 1 0) received;
  }

  -- the packet: what comes behind it takes no other
  packet_taken : (s : Station) (next : List Effect) →
      ((t : Station) → TakesBy t (fold (does m u kept) t next) ((has_packet next && is_next t u) && kept)) →
      TakesBy s (fold (does m u kept) (with_data (is_next s u) kept s (body_of m)) next) (is_next s u && kept)
  packet_taken s next rest = go (is_next s u) kept refl refl
    where
      without : (t : Station) → ((has_packet next && is_next t u) && kept) ≡ false → TakesBy t (fold (does m u kept) t next) false
      without t none = subst (λ (b : Bool). TakesBy t (fold (does m u kept) t next) b) none (rest t)

      go : (b k : Bool) → is_next s u ≡ b → kept ≡ k → TakesBy s (fold (does m u kept) (with_data b k s (body_of m)) next) (b && k)
      go true true e f =
          let n = eqb-true u.number (s.received + 1) e in
          let r = without (with_data true true s (body_of m))
          (and_left (has_packet next && is_next (with_data true true s (body_of m)) u) kept
          (and_right (has_packet next) _ (ne_eqb u.number (s.received + 1 + 1) (λ e. omega arith)))) in
          let q = r.received in record { taken = r.taken; received = omega arith }
      go true false e f = let r = without (with_data true false s (body_of m)) (and_right _ kept f) in
          record { taken = r.taken; received = r.received }
      go false k e f = without s (and_left (has_packet next && is_next s u) kept (and_right (has_packet next) (is_next s u) e))

  abbrev TakesNone : (s t : Station) → Type 0
  TakesNone s t = (t.taken ≡ s.taken) × (t.received ≡ s.received)

  pub taken_by : (effects : List Effect) (s : Station) → TakesBy s (fold (does m u kept) s effects) ((has_packet effects && is_next s u) && kept)
  taken_by [] s = record { taken = refl; received = omega arith }
  taken_by (TakePacket ∷ next) s = packet_taken s next (taken_by next)
  taken_by (GoTo state ∷ next) s = carried s (record s { state = state }) _ (has_packet next) refl refl (taken_by next (record s { state = state }))
  taken_by (TakePartner ∷ next) s =
      carried s (does m u kept s TakePartner) _ (has_packet next) refl refl (taken_by next (does m u kept s TakePartner))
  taken_by (SetBack ∷ next) s = carried s (does m u kept s SetBack) _ (has_packet next) refl refl (taken_by next (does m u kept s SetBack))
  taken_by (Respond ∷ next) s = let t = by_response m u kept s (TakesNone s) (refl, refl) (λ e. (refl, refl)) in
      carried s (responded s u.response) _ (has_packet next) t.0 t.1 (taken_by next (responded s u.response))
  taken_by (AnswerRep ∷ next) s = let t = by_rep m u kept s (TakesNone s) (refl, refl) (refl, refl) in
      carried s (does m u kept s AnswerRep) _ (has_packet next) t.0 t.1 (taken_by next (does m u kept s AnswerRep))

module _ {L : Type 0} where
  pub taken_same : (all : List (HeldPacket L)) (s : Station) (m : MessageValue) (u : Truth) (kept : Bool) → IsWithin s m u →
      (after_arrival s (Sound m u) kept).taken ≡ with_taken s.taken (wire_taken (cut all s) (Sound m u.tag) kept)
  taken_same all s m u kept within =
      (taken_by m u kept (row s.state m).effects s).taken
      ∙ ap (λ (b : Bool). with_taken s.taken (cond (b && kept) (Some (body_of m)) None)) (takes_same all m u kept within.wire_numbers s within.near)
