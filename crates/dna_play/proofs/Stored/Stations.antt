-- What sending and arrival make of a station, as its node keeps it: what the tables make of its station variables, and what it owes then.
use Rattle.dna_play.proofs.Prelude.{◌≡◌, Bool, true, false, cond, List, [], ◌∷◌, fold, refl, ap, ◌∙◌, MessageValue, ReadingValue, HeaderCheck}
use Rattle.dna_play.proofs.Prelude.{DataCheck, Tag, Causes, with_cause, Change, Nothing, change_of, Effect, row, counts_damage, ArrivalValue}
use Rattle.dna_play.proofs.Prelude.{body_of, Station, Truth, after_sending, after_arrival, StationVariables, WireStation, wire_sends}
use Rattle.dna_play.proofs.Prelude.{variables_after, wire_does, Owed, with_debt, arrival_debt, still_owed, Choice, after_choice, StoredStation}
use Rattle.dna_station.specs.Bounds.{IsOrdered}
use Rattle.dna_play.specs.StoredStation as keeping
use Rattle.dna_play.proofs.Ends.DamagedUnits.{OfHeader, OfData}
use Rattle.dna_play.proofs.Ends.StationStage.{cut_of, left_owed, sent_kept, came_kept, Comes, ComesSound, ComesHurt}

-- the station variables, and what is owed
abbrev pub station_with : StationVariables (Unit {0}) → Owed → StoredStation
station_with k owed = record { variables = k; owed = owed }

abbrev pub stored_station : Station → Owed → StoredStation
stored_station s owed = station_with (cut_of s).variables owed

-- ---- a message is sent

sent_variables : (w : WireStation (Unit {0})) (m : MessageValue) (change : Change) →
    (wire_sends w m change).variables ≡ keeping.variables_sent change (body_of m) w.variables
sent_variables w m Nothing = refl
sent_variables w m change = refl

pub station_sent : (s : Station) (owed : Owed) → IsOrdered s → (c : Choice) (m : MessageValue) →
    station_with (cut_of (after_sending s m)).variables (after_choice c (left_owed s (after_sending s m) owed)) ≡ keeping.after_sent c m
    (stored_station s owed)
station_sent s owed ordered c m =
    ap (λ (k : StationVariables (Unit {0})). station_with k (after_choice c (still_owed (cut_of s).variables k owed)))
    (ap (λ (w : WireStation (Unit {0})). w.variables) (sent_kept s ordered m) ∙ sent_variables (cut_of s) m (change_of m))

-- ---- an arrival

met_variables : (m : MessageValue) (tag : Tag) (kept : Bool) (effects : List Effect) (w : WireStation (Unit {0})) →
    (fold (wire_does m tag kept) w effects).variables ≡ fold (variables_after m kept) w.variables effects
met_variables m tag kept [] w = refl
met_variables m tag kept (effect ∷ later) w = met_variables m tag kept later (wire_does m tag kept w effect)

module _ (s : Station) (ordered : IsOrdered s) where
  -- one more cause for a NAK, or none
  counted : (b : Bool) (causes : Causes) → (cut_of (cond b (record s { causes = causes }) s)).variables ≡ (cut_of s).variables
  counted true causes = refl
  counted false causes = refl

  variables_came : {arrival : ArrivalValue Truth} {read : ReadingValue} → Comes s arrival read → (kept : Bool) →
      (cut_of (after_arrival s arrival kept)).variables ≡ keeping.came read kept (cut_of s).variables
  variables_came (ComesSound m u within) kept = ap (λ (w : WireStation (Unit {0})). w.variables) (came_kept s ordered (ComesSound m u within) kept)
      ∙ met_variables m u.tag kept (row s.state m).effects (cut_of s)
  variables_came (ComesHurt OfHeader) kept = counted (counts_damage s.state) (with_cause HeaderCheck s.causes)
  variables_came (ComesHurt OfData) kept = counted (counts_damage s.state) (with_cause DataCheck s.causes)

  pub station_came : (owed : Owed) {arrival : ArrivalValue Truth} {read : ReadingValue} → Comes s arrival read → (kept : Bool) →
      station_with (cut_of (after_arrival s arrival kept)).variables
      (with_debt (arrival_debt (cut_of s).variables read kept) (left_owed s (after_arrival s arrival kept) owed))
      ≡ keeping.after_arrival read kept (stored_station s owed)
  station_came owed {arrival} {read} comes kept = ap (λ (k : StationVariables (Unit {0})).
      station_with k (with_debt (arrival_debt (cut_of s).variables read kept) (still_owed (cut_of s).variables k owed))) (variables_came comes kept)
