-- What is known by the units that passed covers the station, whatever of them it has heard.
use Rattle.std.proofs.Common.{◌≡◌, ℕ, ◌<◌, Bool, true, false, ◌&&◌, ltb, leb, length, List, [], ◌∷◌, ◌++◌, refl, sym, subst, ◌∙◌, ◌⊎◌, inl, inr}
use Rattle.ddcmp_msg.specs.Message.{MessageValue, Data, Ack, Nak, Rep, Strt, Stack}
use Rattle.ddcmp_msg.specs.Reading.{ReadingValue, reading, Sound, HeaderBad, DataBad, Malformed}
use Rattle.dna_station.specs.declared.state.State.{State}
use Rattle.dna_station.specs.declared.state.State.TheVariants.{Running}
use Rattle.dna_station.specs.Table.{row}
use Rattle.dna_station.specs.Book.{resp_of}
use Rattle.dna_station.specs.WireStation.{StationVariables}
use Rattle.dna_station.specs.WireBook.{acknowledges, wire_acknowledged_by, wire_responded, wire_is_next, with_next}
use Rattle.accusing.specs.declared.heard.Heard.{Heard}
use Rattle.accusing.specs.declared.beginning.Beginning.{Beginning}
use Rattle.accusing.specs.declared.mode.Mode.{Mode}
use Rattle.accusing.specs.declared.mode.Mode.TheVariants.{Begins, Runs, Doubtful}
use Rattle.accusing.specs.Heard.{hears}
use Rattle.accusing.specs.Beginning.{begins}
use Rattle.accusing.specs.Sight.{Sight, passes}
use Rattle.accusing.proofs.Orders.{IsHeard, IsWithin, within_trans, hears_is}
use Rattle.accusing.proofs.Beginnings.{IsBeginning, ComesFrom, from_is}
use Rattle.accusing.proofs.Tracking.{hears_unit, begins_unit, again_unit, hears_all, begins_all, again_all, hears_all_split, begins_all_split}
use Rattle.accusing.proofs.Tracking.{again_all_split}
use Rattle.accusing.proofs.Tracking.{hears_all_more, begins_all_more, again_all_is, hears_unit_more, hears_unit_mono, begins_unit_is}
use Rattle.accusing.proofs.Tracking.{begins_unit_more, begins_unit_mono, again_unit_is, again_unit_mono}
use Rattle.accusing.proofs.Fits.{HasBegun, HasGiven, begun_more, given_more}
use Rattle.accusing.proofs.Arrivals.{after_effects, arrive_begun}
use Rattle.accusing.proofs.Outstanding.{arrive_given}

abbrev passed_unit : Sight → ReadingValue → Sight
passed_unit s r = record s { beginning = begins_unit s.beginning r; again = again_unit s.beginning.run s.again r; heard = hears_unit s.heard r }

passes_is : (s : Sight) (r : ReadingValue) → passes s r ≡ passed_unit s r
passes_is s (Sound m) = refl
passes_is s HeaderBad = refl
passes_is s DataBad = refl
passes_is s (Malformed departure) = refl

module _ {L : Type 0} where
  -- the station has given numbers, and this may have been heard by it
  pub record RunsBy (s : Sight) (coming : List (List ℕ)) (k : StationVariables L) : Type 0 where
    pub heard : Heard
    pub is : IsHeard heard
    pub within : IsWithin (hears_all heard coming) s.heard
    pub given : HasGiven heard s.given k

  abbrev pub Otherwise : Mode → Sight → List (List ℕ) → StationVariables L → Type 0
  Otherwise Begins s coming k = ⊥
  Otherwise Runs s coming k = RunsBy s coming k
  Otherwise Doubtful s coming k = k.state ≡ Running

  pub record Covers (s : Sight) (coming : List (List ℕ)) (k : StationVariables L) : Type 0 where
    pub begun : Beginning
    pub again : Beginning
    pub is_begun : IsBeginning begun
    pub is_again : IsBeginning again
    pub first : ComesFrom (begins_all begun coming) s.beginning
    pub second : s.mode ≡ Begins → ComesFrom (again_all begun again coming) s.again
    pub what : HasBegun begun k ⊎ Otherwise s.mode s coming k

  -- ---- what comes in RUNNING, whatever else is said

  responded_state : (k : StationVariables L) (resp : ℕ) → (wire_responded k resp).state ≡ k.state
  responded_state k resp = go (ltb 0 (acknowledges k resp) && leb (acknowledges k resp) (length k.held))
    where
      go : (b : Bool) → (wire_acknowledged_by b k resp).state ≡ k.state
      go true = refl
      go false = refl

  next_state : (c : Bool) (k : StationVariables L) → (with_next c k).state ≡ k.state
  next_state true k = refl
  next_state false k = refl

  -- the station goes on in RUNNING, or a STRT halts it
  runs_on : (b : Beginning) (m : MessageValue) (kept : Bool) (k : StationVariables L) → k.state ≡ Running →
      HasBegun b (after_effects m kept k (row Running m).effects) ⊎ ((after_effects m kept k (row Running m).effects).state ≡ Running)
  runs_on b (Strt flags) kept k running = inl tt
  runs_on b (Stack flags) kept k running = inr running
  runs_on b (Rep flags num) kept k running = inr running
  runs_on b (Ack flags resp) kept k running = inr (responded_state k resp ∙ running)
  runs_on b (Nak flags reason resp) kept k running = inr (responded_state k resp ∙ running)
  runs_on b (Data flags resp num body) kept k running =
      inr (next_state (wire_is_next (wire_responded k resp) num && kept) (wire_responded k resp) ∙ responded_state k resp ∙ running)

  -- ---- a unit of the other side passes

  module _ (s : Sight) (coming : List (List ℕ)) (unit : List ℕ) (k : StationVariables L) (c : Covers s coming k) where
    otherwise_passes : (mode : Mode) → Otherwise mode s coming k → Otherwise mode (passed_unit s (reading unit)) (coming ++ unit ∷ []) k
    otherwise_passes Begins none = none
    otherwise_passes Doubtful running = running
    otherwise_passes Runs by = record {
      heard = by.heard;
      is = by.is;
      within = subst (λ (x : Heard). IsWithin x (hears_unit s.heard (reading unit))) (sym (hears_all_split by.heard coming unit []))
          (hears_unit_mono (hears_all by.heard coming) s.heard (reading unit) by.within);
      given = by.given;
    }

    what_passes : HasBegun c.begun k ⊎ Otherwise s.mode s coming k →
        HasBegun c.begun k ⊎ Otherwise s.mode (passed_unit s (reading unit)) (coming ++ unit ∷ []) k
    what_passes (inl begun) = inl begun
    what_passes (inr other) = inr (otherwise_passes s.mode other)

    covers_passed : Covers (passed_unit s (reading unit)) (coming ++ unit ∷ []) k
    covers_passed =
        let is = from_is c.begun (begins_all c.begun coming) c.is_begun (begins_all_more c.begun coming c.is_begun) in
        record {
          begun = c.begun;
          again = c.again;
          is_begun = c.is_begun;
          is_again = c.is_again;
          first = subst (λ (x : Beginning). ComesFrom x (begins_unit s.beginning (reading unit))) (sym (begins_all_split c.begun coming unit []))
              (begins_unit_mono (begins_all c.begun coming) s.beginning (reading unit) is c.first);
          second = λ e. subst (λ (x : Beginning). ComesFrom x (again_unit s.beginning.run s.again (reading unit)))
              (sym (again_all_split c.begun c.again coming unit []))
              (again_unit_mono (begins_all c.begun coming).run s.beginning.run (again_all c.begun c.again coming) s.again (reading unit) c.first.run
              (again_all_is c.begun c.again coming c.is_again) (c.second e));
          what = what_passes c.what;
        }

    pub covers_passes : Covers (passes s (reading unit)) (coming ++ unit ∷ []) k
    covers_passes = subst (λ (x : Sight). Covers x (coming ++ unit ∷ []) k) (sym (passes_is s (reading unit))) covers_passed

  -- ---- a unit comes to the station, or is lost, with those before it

  module _ (s : Sight) (lost : List (List ℕ)) (unit : List ℕ) (later : List (List ℕ)) (k : StationVariables L)
      (c : Covers s (lost ++ unit ∷ later) k) where
    abbrev pub begun_on : Beginning
    begun_on = begins_unit (begins_all c.begun lost) (reading unit)

    lost_is : IsBeginning (begins_all c.begun lost)
    lost_is = from_is c.begun (begins_all c.begun lost) c.is_begun (begins_all_more c.begun lost c.is_begun)

    -- with what is said of the station then
    covers_on : (t : StationVariables L) → HasBegun begun_on t ⊎ Otherwise s.mode s later t → Covers s later t
    covers_on t what = record {
      begun = begun_on;
      again = again_unit (begins_all c.begun lost).run (again_all c.begun c.again lost) (reading unit);
      is_begun = begins_unit_is (begins_all c.begun lost) (reading unit) lost_is;
      is_again = again_unit_is (begins_all c.begun lost).run (again_all c.begun c.again lost) (reading unit)
          (again_all_is c.begun c.again lost c.is_again);
      first = subst (λ (x : Beginning). ComesFrom x s.beginning) (begins_all_split c.begun lost unit later) c.first;
      second = λ e. subst (λ (x : Beginning). ComesFrom x s.again) (again_all_split c.begun c.again lost unit later) (c.second e);
      what = what;
    }

    begun_before : HasBegun c.begun k → HasBegun (begins_all c.begun lost) k
    begun_before begun = begun_more c.begun (begins_all c.begun lost) k.state k (begins_all_more c.begun lost c.is_begun) begun

    heard_within : (by : RunsBy s (lost ++ unit ∷ later) k) →
        IsWithin (hears_all (hears_unit (hears_all by.heard lost) (reading unit)) later) s.heard
    heard_within by = subst (λ (x : Heard). IsWithin x s.heard) (hears_all_split by.heard lost unit later) by.within

    -- ---- it makes nothing of it

    otherwise_skips : (mode : Mode) → Otherwise mode s (lost ++ unit ∷ later) k → Otherwise mode s later k
    otherwise_skips Begins none = none
    otherwise_skips Doubtful running = running
    otherwise_skips Runs by =
        let lost_more = hears_all_more by.heard lost by.is in
        let more = hears_unit_more (hears_all by.heard lost) (reading unit) lost_more.second in
        record {
          heard = hears_unit (hears_all by.heard lost) (reading unit);
          is = more.second;
          within = heard_within by;
          given = given_more by.heard (hears_unit (hears_all by.heard lost) (reading unit)) s.given k
              (within_trans by.heard (hears_all by.heard lost) (hears_unit (hears_all by.heard lost) (reading unit)) lost_more more) by.given;
        }

    what_skips : HasBegun c.begun k ⊎ Otherwise s.mode s (lost ++ unit ∷ later) k → HasBegun begun_on k ⊎ Otherwise s.mode s later k
    what_skips (inl begun) =
        inl (begun_more (begins_all c.begun lost) begun_on k.state k (begins_unit_more (begins_all c.begun lost) (reading unit) lost_is)
        (begun_before begun))
    what_skips (inr other) = inr (otherwise_skips s.mode other)

    pub covers_skips : Covers s later k
    covers_skips = covers_on k (what_skips c.what)

    -- ---- it hears a message

    module _ (m : MessageValue) (sound : reading unit ≡ Sound m) (kept : Bool) (byte : resp_of m < 256) where
      abbrev heard_it : StationVariables L
      heard_it = after_effects m kept k (row k.state m).effects

      begun_hears : HasBegun (begins (begins_all c.begun lost) m) heard_it → HasBegun begun_on heard_it
      begun_hears begun = subst (λ (r : ReadingValue). HasBegun (begins_unit (begins_all c.begun lost) r) heard_it) (sym sound) begun

      still_runs : k.state ≡ Running → HasBegun begun_on heard_it ⊎ (heard_it.state ≡ Running)
      still_runs running =
          let P : State → Type 0 = λ x. HasBegun begun_on (after_effects m kept k (row x m).effects)
          ⊎ ((after_effects m kept k (row x m).effects).state ≡ Running) in
          subst P (sym running) (runs_on begun_on m kept k running)

      given_on : (by : RunsBy s (lost ++ unit ∷ later) k) →
          HasBegun begun_on heard_it ⊎ HasGiven (hears (hears_all by.heard lost) m) s.given heard_it
      given_on by =
          let more = hears_all_more by.heard lost by.is in
          let P : State → Type 0 = λ x. HasBegun begun_on (after_effects m kept k (row x m).effects)
          ⊎ HasGiven (hears (hears_all by.heard lost) m) s.given (after_effects m kept k (row x m).effects) in
          subst P (sym by.given.running)
          (arrive_given (hears_all by.heard lost) s.given begun_on m kept k more.second byte
          (given_more by.heard (hears_all by.heard lost) s.given k more by.given))

      given_hears : (by : RunsBy s (lost ++ unit ∷ later) k) →
          HasBegun begun_on heard_it ⊎ HasGiven (hears (hears_all by.heard lost) m) s.given heard_it →
          HasBegun begun_on heard_it ⊎ RunsBy s later heard_it
      given_hears by (inl begun) = inl begun
      given_hears by (inr given) = inr (record {
        heard = hears (hears_all by.heard lost) m;
        is = hears_is (hears_all by.heard lost) m (hears_all_more by.heard lost by.is).second;
        within = subst (λ (r : ReadingValue). IsWithin (hears_all (hears_unit (hears_all by.heard lost) r) later) s.heard) sound (heard_within by);
        given = given;
      })

      what_hears : (mode : Mode) → HasBegun c.begun k ⊎ Otherwise mode s (lost ++ unit ∷ later) k →
          HasBegun begun_on heard_it ⊎ Otherwise mode s later heard_it
      what_hears mode (inl begun) =
          inl (begun_hears (arrive_begun (begins_all c.begun lost) kept k lost_is m k.state refl (begun_before begun)))
      what_hears Begins (inr none) = absurd none
      what_hears Runs (inr by) = given_hears by (given_on by)
      what_hears Doubtful (inr running) = still_runs running

      pub covers_hears : Covers s later heard_it
      covers_hears = covers_on heard_it (what_hears s.mode c.what)
