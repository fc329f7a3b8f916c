-- What a station makes of what is left is what is left of what it makes.
use Rattle.leaving_runs.proofs.Prelude.{◌≡◌, ℕ, ◌+◌, ◌-◌, Bool, true, false, not, ◌&&◌, ◌==◌, cond, nat_lt, nat_le, Option, Some, None, List, []}
use Rattle.leaving_runs.proofs.Prelude.{◌∷◌, ◌++◌, map, length, fold, refl, sym, ap, ap₂, ◌∙◌, option_map, length-append, slice_get, map-append}
use Rattle.leaving_runs.proofs.Prelude.{length-map, slice_get-map, bytes_eq-Decides, MessageValue, Data, Ack, Nak, Rep, Strt, Stack, NakReason}
use Rattle.leaving_runs.proofs.Prelude.{State, Halted, Istrt, Astrt, Running, StationEvent, Start, Halt, WrongState, WrongNumber, CrossedPeriod}
use Rattle.leaving_runs.proofs.Prelude.{WINDOW, Check, RespIsLast, CauseIsOpen, SomeOutstanding, NumIsHighest, NumIsNext, RoomIfNew, AsFirstGiven}
use Rattle.leaving_runs.proofs.Prelude.{checks, refusal_of, Effect, GoTo, TakePartner, Respond, SetBack, TakePacket, AnswerRep, Row, row}
use Rattle.leaving_runs.proofs.Prelude.{state_after, OfPair, ignored, PeriodRule, Station, PastPeriod, given, wire, new_station, past, packets_of}
use Rattle.leaving_runs.proofs.Prelude.{after_event, Truth, tag_of, response_of, Sound, body_of, first_failed, failed, has_packet, keep_refusal}
use Rattle.leaving_runs.proofs.Prelude.{station_book, is_new, has_room, is_packet, as_first_given, passes, with_packet, acknowledged_by, is_next}
use Rattle.leaving_runs.proofs.Prelude.{with_data, asked, sending_refusal, after_sending, truth_of, gives_number, arrival_refusal, after_arrival}
use Rattle.leaving_runs.proofs.Prelude.{Packets, with_body, past_left, station_left}
use Rattle.dna_station.specs.PeriodRule.{meets}
use Rattle.dna_station.specs.StationBook.{does}

-- where each check that is passed stays passed, none that fails comes
pub first_passed : (p q : Check → Bool) → ((check : Check) → p check ≡ true → q check ≡ true) → (list : List Check) → first_failed p list ≡ None →
    first_failed q list ≡ None
first_passed p q along [] is = refl
first_passed p q along (check ∷ list) is = at (p check) refl is (first_passed p q along list)
  where
    at : (b : Bool) → p check ≡ b → cond b (first_failed p list) (Some (refusal_of check)) ≡ None →
        (first_failed p list ≡ None → first_failed q list ≡ None) → first_failed q (check ∷ list) ≡ None
    at true passed is later =
        ap (λ (b : Bool). cond b (first_failed q list) (Some (refusal_of check))) (along check passed) ∙ later is
    at false passed is later = absurd cc

-- what becomes of the packet makes no other row
pub row_same : (packet : List ℕ → List ℕ) (state : State) (m : MessageValue) → row state (with_body packet m) ≡ row state m
row_same packet Halted (Data flags resp num body) = refl
row_same packet Istrt (Data flags resp num body) = refl
row_same packet Astrt (Data flags resp num body) = refl
row_same packet Running (Data flags resp num body) = refl
row_same packet state m = refl

module _ (p : Packets) where
  periods_same : (periods : List PastPeriod) → length (packets_of (map (past_left p) periods)) ≡ length (packets_of periods)
  periods_same [] = refl
  periods_same (period ∷ periods) =
      length-append (map p.own period.given) (packets_of (map (past_left p) periods))
      ∙ ap₂ (λ (n k : ℕ). n + k) (length-map period.given p.own) (periods_same periods) ∙ sym (length-append period.given (packets_of periods))

module _ (p : Packets) (s : Station) where
  abbrev t : Station
  t = station_left p s

  given_same : given t ≡ given s
  given_same = length-map s.packets p.own

  -- ---- events

  pub event_left : (event : StationEvent) → after_event t event ≡ station_left p (after_event s event)
  event_left Start =
      ap (λ (periods : List PastPeriod). record new_station { state = state_after Start; period = s.period + 1; earlier = periods })
      (sym (map-append (past_left p) s.earlier (past s ∷ [])))
  event_left Halt = refl

  -- ---- a message is sent

  new_same : is_new t ≡ is_new s
  new_same = ap (λ (n : ℕ). s.next_to_send == n + 1) given_same

  room_same : has_room t ≡ has_room s
  room_same = ap (λ (n : ℕ). nat_lt (n - s.acknowledged) WINDOW) given_same

  first_given : (o : Option (List ℕ)) (body : List ℕ) → is_packet o body ≡ true → is_packet (option_map p.own o) (p.own body) ≡ true
  first_given None body is = absurd cc
  first_given (Some packet) body is = (bytes_eq-Decides (p.own body) (p.own packet)).1 (ap p.own ((bytes_eq-Decides body packet).0 is))

  -- of a data message
  module _ (m : MessageValue) (is_body : body_of (with_body p.own m) ≡ p.own (body_of m)) where
    as_first : (b : Bool) → cond b true (as_first_given s (body_of m)) ≡ true → cond b true (as_first_given t (body_of (with_body p.own m))) ≡ true
    as_first true is = refl
    as_first false is =
        ap₂ is_packet (slice_get-map p.own s.packets (s.next_to_send - 1)) is_body
        ∙ first_given (slice_get s.packets (s.next_to_send - 1)) (body_of m) is

  passes_left : (flags : _) (resp num : ℕ) (body : List ℕ) (check : Check) → passes s (Data flags resp num body) check ≡ true →
      passes t (Data flags resp num (p.own body)) check ≡ true
  passes_left flags resp num body RespIsLast is = is
  passes_left flags resp num body CauseIsOpen is = refl
  passes_left flags resp num body SomeOutstanding is = ap (λ (n : ℕ). not (s.acknowledged == n)) given_same ∙ is
  passes_left flags resp num body NumIsHighest is = ap (λ (n : ℕ). num == wire n) given_same ∙ is
  passes_left flags resp num body NumIsNext is = is
  passes_left flags resp num body RoomIfNew is = ap₂ (λ (b c : Bool). cond b c true) new_same room_same ∙ is
  passes_left flags resp num body AsFirstGiven is =
      ap (λ (b : Bool). cond b true (as_first_given t (p.own body))) new_same ∙ as_first (Data flags resp num body) refl (is_new s) is

  failed_left : (m : MessageValue) (state : State) → failed (passes s m) (checks state m) ≡ None →
      failed (passes t (with_body p.own m)) (checks state (with_body p.own m)) ≡ None
  failed_left (Data flags resp num body) Running is =
      first_passed (passes s (Data flags resp num body)) (passes t (Data flags resp num (p.own body))) (passes_left flags resp num body)
      (NumIsNext ∷ RespIsLast ∷ RoomIfNew ∷ AsFirstGiven ∷ []) is
  failed_left (Data flags resp num body) state is = is
  failed_left (Rep flags num) Running is =
      ap (λ (n : ℕ). cond (not (s.acknowledged == n)) (cond (num == wire n) None (Some WrongNumber)) (Some WrongState)) given_same ∙ is
  failed_left (Rep flags num) state is = is
  failed_left (Ack flags resp) Running is = is
  failed_left (Ack flags resp) state is = is
  failed_left (Nak flags reason resp) Running is = is
  failed_left (Nak flags reason resp) state is = is
  failed_left (Strt flags) Istrt is = is
  failed_left (Strt flags) state is = is
  failed_left (Stack flags) Astrt is = is
  failed_left (Stack flags) state is = is

  pub sending_left : (m : MessageValue) → sending_refusal s m ≡ None → sending_refusal t (with_body p.own m) ≡ None
  sending_left m is = failed_left m s.state is

  packets_left : (body : List ℕ) → with_packet (is_new t) t.packets (p.own body) ≡ map p.own (with_packet (is_new s) s.packets body)
  packets_left body = ap (λ (b : Bool). with_packet b t.packets (p.own body)) new_same ∙ at (is_new s)
    where
      at : (b : Bool) → with_packet b t.packets (p.own body) ≡ map p.own (with_packet b s.packets body)
      at true = sym (map-append p.own s.packets (body ∷ []))
      at false = refl

  pub after_left : (m : MessageValue) → after_sending t (with_body p.own m) ≡ station_left p (after_sending s m)
  after_left (Data flags resp num body) =
      ap (λ (packets : List (List ℕ)). record t { packets = packets; next_to_send = s.next_to_send + 1 }) (packets_left body)
  after_left m = refl

  pub truth_left : (m : MessageValue) → truth_of t (with_body p.own m) ≡ truth_of s m
  truth_left (Data flags resp num body) =
      ap₂ told (periods_same p s.earlier)
      (ap length (packets_left body) ∙ length-map (with_packet (is_new s) s.packets body) p.own)
    where
      told : ℕ → ℕ → Truth
      told before highest = record {
        tag = tag_of s;
        number = s.next_to_send;
        response = s.received;
        place = before + (s.next_to_send - 1);
        received = s.received;
        given = highest;
        acknowledged = s.acknowledged;
      }
  truth_left (Rep flags num) = ap told given_same
    where
      told : ℕ → Truth
      told highest = record {
        tag = tag_of s;
        number = highest;
        response = 0;
        place = 0;
        received = s.received;
        given = highest;
        acknowledged = s.acknowledged;
      }
  truth_left m = ap told given_same
    where
      told : ℕ → Truth
      told highest = record {
        tag = tag_of s;
        number = 0;
        response = response_of s m;
        place = 0;
        received = s.received;
        given = highest;
        acknowledged = s.acknowledged;
      }

  pub gives_left : (m : MessageValue) → gives_number t (with_body p.own m) ≡ gives_number s m
  gives_left (Data flags resp num body) = new_same
  gives_left m = refl

-- ---- an arrival

module _ (p : Packets) (m : MessageValue) (u : Truth) (kept : Bool) where
  abbrev n : MessageValue
  n = with_body p.far m

  take_left : (s : Station) → body_of n ≡ p.far (body_of m) → does n u kept (station_left p s) TakePacket ≡ station_left p
      (does m u kept s TakePacket)
  take_left s is = at (is_next s u) kept
    where
      at : (next kept : Bool) → with_data next kept (station_left p s) (body_of n) ≡ station_left p (with_data next kept s (body_of m))
      at true true =
          ap (λ (taken : List (List ℕ)). record (station_left p s) { received = s.received + 1; taken = taken })
          (ap (λ (body : List ℕ). map p.far s.taken ++ body ∷ []) is ∙ sym (map-append p.far s.taken (body_of m ∷ [])))
      at true false = refl
      at false kept = refl

  respond_left : (s : Station) → does n u kept (station_left p s) Respond ≡ station_left p (does m u kept s Respond)
  respond_left s =
      ap (λ (highest : ℕ). acknowledged_by (nat_lt s.acknowledged u.response && nat_le u.response highest) (station_left p s) u.response)
      (given_same p s) ∙ at (nat_lt s.acknowledged u.response && nat_le u.response (given s))
    where
      at : (b : Bool) → acknowledged_by b (station_left p s) u.response ≡ station_left p (acknowledged_by b s u.response)
      at true = refl
      at false = refl

  asked_left : (b : Bool) (s : Station) → asked b (station_left p s) ≡ station_left p (asked b s)
  asked_left true s = refl
  asked_left false s = refl

  -- a packet only of a data message
  all_left : (effects : List Effect) (s : Station) → (has_packet effects ≡ true → body_of n ≡ p.far (body_of m)) →
      fold (does n u kept) (station_left p s) effects ≡ station_left p (fold (does m u kept) s effects)
  all_left [] s h = refl
  all_left (GoTo state ∷ next) s h = all_left next (does m u kept s (GoTo state)) h
  all_left (TakePartner ∷ next) s h = all_left next (does m u kept s TakePartner) h
  all_left (Respond ∷ next) s h =
      ap (λ (x : Station). fold (does n u kept) x next) (respond_left s) ∙ all_left next (does m u kept s Respond) h
  all_left (SetBack ∷ next) s h = all_left next (does m u kept s SetBack) h
  all_left (TakePacket ∷ next) s h =
      ap (λ (x : Station). fold (does n u kept) x next) (take_left s (h refl)) ∙ all_left next (does m u kept s TakePacket) (λ e. h refl)
  all_left (AnswerRep ∷ next) s h =
      ap (λ (x : Station). fold (does n u kept) x next) (asked_left (u.number == s.received) s) ∙ all_left next (does m u kept s AnswerRep) h

  has_body : (state : State) → has_packet (row state m).effects ≡ true → body_of n ≡ p.far (body_of m)
  has_body state = at state m
    where
      of_ack : Bool → Row
      of_ack b = cond b (record { needs = OfPair; effects = GoTo Running ∷ [] }) ignored

      none : (b : Bool) (X : Type 0) → has_packet (of_ack b).effects ≡ true → X
      none true X e = absurd cc
      none false X e = absurd cc

      at : (state : State) (m : MessageValue) → has_packet (row state m).effects ≡ true → body_of (with_body p.far m) ≡ p.far (body_of m)
      at state (Data flags resp num body) e = refl
      at Astrt (Ack flags resp) e = none (resp == 0) _ e
      at Halted m e = absurd cc
      at Istrt (Strt flags) e = absurd cc
      at Istrt m e = absurd cc
      at Astrt m e = absurd cc
      at Running m e = absurd cc

  pub arrival_left : (s : Station) → after_arrival (station_left p s) (Sound n u) kept ≡ station_left p (after_arrival s (Sound m u) kept)
  arrival_left s =
      ap (λ (r : Row). fold (does n u kept) (station_left p s) r.effects) (row_same p.far s.state m)
      ∙ all_left (row s.state m).effects s (has_body s.state)

  pub refusal_left : (rule : PeriodRule) (s : Station) →
      arrival_refusal rule (station_left p s) (Sound n u) kept ≡ arrival_refusal rule s (Sound m u) kept
  refusal_left rule s =
      ap (λ (r : Row). cond (rule (meets r.needs (tag_of s) u.tag)) (keep_refusal (has_packet r.effects && is_next s u) kept) (Some CrossedPeriod))
      (row_same p.far s.state m)

-- damage
pub counted_left : (p : Packets) (reason : NakReason) (s : Station) (b : Bool) →
    cond b (station_book.counts reason (station_left p s)) (station_left p s) ≡ station_left p (cond b (station_book.counts reason s) s)
counted_left p reason s true = refl
counted_left p reason s false = refl
