-- A message that the station can send is not refuted, and what is known then covers the station.
use Rattle.std.proofs.Common.{◌≡◌, ℕ, ◌+◌, ◌<◌, ◌≤◌, true, eqb, Some, None, Ok, List, [], ◌∷◌, length, refl, sym}
use Rattle.std.proofs.Common.{ap, subst, arith, ◌∙◌, ◌⊎◌, inl, inr}
use Rattle.std.proofs.lemmas.Bool.{eq-eqb, ne_eqb, and_from}
use Rattle.wire_base.specs.Seq.{wire_distance}
use Rattle.ddcmp_msg.specs.Message.{MessageValue, Strt, Stack}
use Rattle.dna_station.specs.declared.state.State.{State}
use Rattle.dna_station.specs.declared.state.State.TheVariants.{Halted, Istrt, Astrt, Running}
use Rattle.dna_station.specs.declared.refusal.StationRefusal.TheVariants.{WrongState}
use Rattle.dna_station.specs.Table.{checks}
use Rattle.dna_station.specs.Book.{failed}
use Rattle.dna_station.specs.Station.{wire}
use Rattle.dna_station.specs.WireStation.{StationVariables, WireStation}
use Rattle.dna_station.specs.WireBook.{wire_passes}
use Rattle.accusing.specs.declared.heard.Heard.{Heard}
use Rattle.accusing.specs.declared.beginning.Beginning.{Beginning}
use Rattle.accusing.specs.declared.mode.Mode.{Mode}
use Rattle.accusing.specs.declared.mode.Mode.TheVariants.{Begins, Runs, Doubtful}
use Rattle.accusing.specs.Mark.{mark_of}
use Rattle.accusing.specs.Heard.{reaches, advanced}
use Rattle.accusing.specs.Beginning.{nothing_passed}
use Rattle.accusing.specs.Sight.{Given, none_given, Sight, anew, runs_with, responds_first, can_begin, responds, asks, gives_first, gives_at}
use Rattle.accusing.specs.Sight.{sends_message}
use Rattle.accusing.proofs.Orders.{IsHeard, IsWithin, within_itself, within_trans}
use Rattle.accusing.proofs.Advanced.{advanced_is, advanced_mono}
use Rattle.accusing.proofs.Beginnings.{heard_is, ComesFrom, from_trans, nothing_is, nothing_first}
use Rattle.accusing.proofs.Tracking.{hears_all, begins_all, again_all, hears_all_more, begins_all_more, advanced_all, heard_all_run, again_all_run}
use Rattle.accusing.proofs.Tracking.{again_all_first}
use Rattle.accusing.proofs.Fits.{HasBegunIn, HasBegun, HasGiven}
use Rattle.accusing.proofs.Sendings.{advanced_given, none_as_given, length_marks, Gave, MaySend, gave}
use Rattle.accusing.proofs.Covering.{RunsBy, Otherwise, Covers}
use Rattle.accusing.proofs.Goes.{flipped, Goes, goes, by_true, by_false, by_not_true, by_either, reached_by, IsFresh, fresh}

-- what is sent in no RUNNING
wrong_state : (passes : _) (state : State) (m : MessageValue) → state ≡ Running → checks Running m ≡ None → failed passes (checks state m) ≡ None → ⊥
wrong_state passes state m running none e =
    let P : State → Type 0 = λ x. failed passes (checks x m) ≡ None in
    let at = subst P running e in
    let never : failed passes (checks Running m) ≡ Some WrongState = ap (failed passes) none in
    cc

module _ {L : Type 0} where
  module _ (s : Sight) (coming : List (List ℕ)) (k : StationVariables L) (c : Covers s coming k) where
    -- all that it began by passed
    pub begun_first : ComesFrom c.begun s.beginning
    begun_first = from_trans c.begun (begins_all c.begun coming) s.beginning (begins_all_more c.begun coming c.is_begun) c.first

    abbrev pub begins_anew : HasBegun c.begun k → Covers (record s { mode = Begins; again = s.beginning }) coming k
    begins_anew begun = record {
      begun = c.begun;
      again = nothing_passed;
      is_begun = c.is_begun;
      is_again = nothing_is;
      first = c.first;
      second = λ e. from_trans (again_all c.begun nothing_passed coming) (begins_all c.begun coming) s.beginning
          (again_all_first c.begun nothing_passed c.begun coming nothing_is c.is_begun (nothing_first c.begun c.is_begun)) c.first;
      what = inl begun;
    }

    pub anew_covers : (mode : Mode) → HasBegun c.begun k → Covers (anew mode s) coming k
    anew_covers Begins begun = c
    anew_covers Runs begun = begins_anew begun
    anew_covers Doubtful begun = begins_anew begun

    -- it runs, and two accounts of it are possible
    pub doubt_covers : (after : StationVariables L) → after.state ≡ Running → Covers (record s { mode = Doubtful }) coming after
    doubt_covers after running = record {
      begun = c.begun;
      again = c.again;
      is_begun = c.is_begun;
      is_again = c.is_again;
      first = c.first;
      second = λ e. absurd cc;
      what = inr running;
    }

    -- with other numbers, where the period is the same
    pub same_period : (t : Sight) (after : StationVariables L) → t.beginning ≡ s.beginning → t.again ≡ s.again → t.mode ≡ s.mode →
        HasBegun c.begun after ⊎ Otherwise t.mode t coming after → Covers t coming after
    same_period t after first second mode what = record {
      begun = c.begun;
      again = c.again;
      is_begun = c.is_begun;
      is_again = c.is_again;
      first = subst (λ (x : Beginning). ComesFrom (begins_all c.begun coming) x) (sym first) c.first;
      second = λ e. subst (λ (x : Beginning). ComesFrom (again_all c.begun c.again coming) x) (sym second) (c.second (sym mode ∙ e));
      what = what;
    }

    -- ---- from no number given to numbers

    module _ (mode : s.mode ≡ Begins) (is : IsFresh c.begun k) (resp : ℕ) (here : resp ≡ k.received) where
      runs_covers : (given : Given) (after : StationVariables L) → HasGiven (advanced c.begun.heard resp) given after →
          Covers (runs_with s resp given) coming after
      runs_covers given after has =
          let byte : resp < 256 = omega (arith, here, is.reached.byte) in
          let near : wire_distance 256 c.begun.heard.received resp ≤ c.begun.heard.reach =
          subst (λ (x : ℕ). wire_distance 256 c.begun.heard.received x ≤ c.begun.heard.reach) (sym here) is.reached.reach in
          let all = subst (λ (x : Heard). IsWithin x s.beginning.heard) (heard_all_run c.begun coming is.run) c.first.heard in
          record {
            begun = c.again;
            again = c.again;
            is_begun = c.is_again;
            is_again = c.is_again;
            first = subst (λ (x : Beginning). ComesFrom x s.again) (again_all_run c.begun c.again coming is.run) (c.second mode);
            second = λ e. absurd cc;
            what = inr (record {
              heard = advanced c.begun.heard resp;
              is = advanced_is c.begun.heard resp (heard_is c.begun c.is_begun) byte;
              within = within_trans (hears_all (advanced c.begun.heard resp) coming) (advanced (hears_all c.begun.heard coming) resp)
                  (advanced s.beginning.heard resp) (advanced_all c.begun.heard coming resp (heard_is c.begun c.is_begun) byte near)
                  (advanced_mono (hears_all c.begun.heard coming) s.beginning.heard resp byte all);
              given = has;
            });
          }

      run_first : s.beginning.run ≡ true
      run_first = flipped c.begun.run s.beginning.run begun_first.run is.run

      reach_first : reaches s.beginning.heard resp ≡ true
      reach_first = reached_by c.begun.heard s.beginning.heard resp k here begun_first.heard is.reached

      -- an ACK or a NAK
      responds_goes : Goes (responds_first s resp) coming k
      responds_goes =
          by_not_true coming k s.beginning.run _ _ run_first
          (by_not_true coming k (reaches s.beginning.heard resp) _ _ reach_first
          (by_either coming k (eqb resp 0) _ _ (goes coming k s c)
          (λ e. goes coming k (runs_with s resp none_given) (runs_covers none_given k
          (advanced_given c.begun.heard none_given k resp here (none_as_given c.begun.heard k is.running is.given is.reached))))))

      -- the first data message
      pub gives_goes : (num mark : ℕ) (after : StationVariables L) → num ≡ 1 →
          HasGiven (advanced c.begun.heard resp) (record { marks = mark ∷ []; back = 0 }) after → Goes (gives_first s resp num mark) coming after
      gives_goes num mark after one has =
          by_not_true coming after s.beginning.run _ _ run_first
          (by_not_true coming after (reaches s.beginning.heard resp) _ _ reach_first
          (by_true coming after (eqb num 1) _ _ (eq-eqb num 1 one)
          (goes coming after (runs_with s resp (record { marks = mark ∷ []; back = 0 })) (runs_covers (record {
            marks = mark ∷ [];
            back = 0;
          }) after has))))

  -- what the first data message of a period leaves
  pub first_given : (h : Heard) (num : ℕ) (body : List ℕ) (k : StationVariables L) → IsHeard h → num ≡ 1 → Gave h none_given num body k →
      HasGiven h (record { marks = mark_of body ∷ []; back = 0 }) k
  first_given h num body k is one gave =
      let P : ℕ → Type 0 = λ n. gives_at h none_given (wire_distance 256 n (length none_given.marks + 1)) n (mark_of body) ≡ Ok gave.given in
      let allowed = subst P one (gave.allowed h (within_itself h is)) in
      let same : gave.given ≡ record { marks = mark_of body ∷ []; back = 0 } = cc in
      subst (λ (g : Given). HasGiven h g k) same gave.is_given

  -- ---- every message, by what is said of the station

  pub other_runs : (mode : Mode) (s : Sight) (coming : List (List ℕ)) (k : StationVariables L) → Otherwise mode s coming k → k.state ≡ Running
  other_runs Begins s coming k none = absurd none
  other_runs Runs s coming k by = by.given.running
  other_runs Doubtful s coming k running = running

  module _ (s : Sight) (coming : List (List ℕ)) (w : WireStation L) (c : Covers s coming w.variables) where
    -- a message that no station in RUNNING sends
    begun_sends : (m : MessageValue) → checks Running m ≡ None → MaySend w m → HasBegun c.begun w.variables
    begun_sends m none may = go c.what
      where
        go : HasBegun c.begun w.variables ⊎ Otherwise s.mode s coming w.variables → HasBegun c.begun w.variables
        go (inl begun) = begun
        go (inr other) =
            absurd (wrong_state (wire_passes w m) w.variables.state m (other_runs s.mode s coming w.variables other) none may)

    pub strt_goes : (flags : _) → MaySend w (Strt flags) → Goes (sends_message s (Strt flags)) coming w.variables
    strt_goes flags may = goes coming w.variables (anew s.mode s) (anew_covers s coming w.variables c s.mode (begun_sends (Strt flags) refl may))

    -- a STACK is sent in ASTRT, where a STRT led
    after_strt : (passes : _) (state : State) (k : StationVariables L) (flags : _) → failed passes (checks state (Stack flags)) ≡ None →
        HasBegunIn c.begun state k → c.begun.strt ≡ true
    after_strt passes Astrt k flags e begun = begun.1
    after_strt passes Halted k flags e begun = absurd cc
    after_strt passes Istrt k flags e begun = absurd cc
    after_strt passes Running k flags e begun = absurd cc

    pub stack_goes : (flags : _) → MaySend w (Stack flags) → Goes (sends_message s (Stack flags)) coming w.variables
    stack_goes flags may =
        let begun = begun_sends (Stack flags) refl may in
        let strt = after_strt (wire_passes w (Stack flags)) w.variables.state w.variables flags may begun in
        by_true coming w.variables s.beginning.strt _ _ (flipped c.begun.strt s.beginning.strt (begun_first s coming w.variables c).strt strt)
        (goes coming w.variables (anew s.mode s) (anew_covers s coming w.variables c s.mode begun))

    -- ---- ACK and NAK

    module _ (resp : ℕ) (here : resp ≡ w.variables.received) (running : w.variables.state ≡ Running) where
      responded : Sight
      responded = record s { heard = advanced s.heard resp }

      begun_responds : HasBegun c.begun w.variables → Goes (responds Runs s resp) coming w.variables
      begun_responds begun =
          let is = fresh c.begun w.variables running begun in
          let first = begun_first s coming w.variables c in
          by_either coming w.variables (reaches s.heard resp) _ _
          (goes coming w.variables (record s { heard = advanced s.heard resp })
          (same_period s coming w.variables c (record s { heard = advanced s.heard resp }) w.variables refl refl refl (inl begun)))
          (λ e. by_true coming w.variables (can_begin s resp) _ _
          (and_from s.beginning.run (reaches s.beginning.heard resp) (flipped c.begun.run s.beginning.run first.run is.run)
          (reached_by c.begun.heard s.beginning.heard resp w.variables here first.heard is.reached))
          (goes coming w.variables (anew Runs s) (begins_anew s coming w.variables c begun)))

      -- what may have been heard from R on
      advanced_by : (by : RunsBy s coming w.variables) (given : Given) (after : StationVariables L) → HasGiven (advanced by.heard resp) given after →
          RunsBy (record s { heard = advanced s.heard resp; given = given }) coming after
      advanced_by by given after has =
          let byte : resp < 256 = omega (arith, here, by.given.reached.byte) in
          let near : wire_distance 256 by.heard.received resp ≤ by.heard.reach =
          subst (λ (x : ℕ). wire_distance 256 by.heard.received x ≤ by.heard.reach) (sym here) by.given.reached.reach in
          record {
            heard = advanced by.heard resp;
            is = advanced_is by.heard resp by.is byte;
            within = within_trans (hears_all (advanced by.heard resp) coming) (advanced (hears_all by.heard coming) resp) (advanced s.heard resp)
                (advanced_all by.heard coming resp by.is byte near) (advanced_mono (hears_all by.heard coming) s.heard resp byte by.within);
            given = has;
          }

      pub reach_by : (by : RunsBy s coming w.variables) → reaches s.heard resp ≡ true
      reach_by by = reached_by by.heard s.heard resp w.variables here
          (within_trans by.heard (hears_all by.heard coming) s.heard (hears_all_more by.heard coming by.is) by.within) by.given.reached

      -- with these numbers given it runs on
      pub on_covers : s.mode ≡ Runs → (by : RunsBy s coming w.variables) (given : Given) (after : StationVariables L) →
          HasGiven (advanced by.heard resp) given after → Covers (record s { heard = advanced s.heard resp; given = given }) coming after
      on_covers mode by given after has =
          same_period s coming w.variables c (record s { heard = advanced s.heard resp; given = given }) after refl refl refl
          (inr (subst (λ (x : Mode). Otherwise x (record s { heard = advanced s.heard resp; given = given }) coming after) (sym mode)
          (advanced_by by given after has)))

      given_responds : s.mode ≡ Runs → (by : RunsBy s coming w.variables) → Goes (responds Runs s resp) coming w.variables
      given_responds mode by =
          by_true coming w.variables (reaches s.heard resp) _ _ (reach_by by)
          (goes coming w.variables (record s { heard = advanced s.heard resp })
          (on_covers mode by s.given w.variables (advanced_given by.heard s.given w.variables resp here by.given)))

      pub resp_goes : (mode : Mode) → s.mode ≡ mode → HasBegun c.begun w.variables ⊎ Otherwise mode s coming w.variables →
          Goes (responds mode s resp) coming w.variables
      resp_goes Begins mode (inl begun) =
          responds_goes s coming w.variables c mode (fresh c.begun w.variables running begun) resp here
      resp_goes Begins mode (inr none) = absurd none
      resp_goes Runs mode (inl begun) = begun_responds begun
      resp_goes Runs mode (inr by) = given_responds mode by
      resp_goes Doubtful mode what = goes coming w.variables s c

    -- ---- REP

    module _ (num : ℕ) (running : w.variables.state ≡ Running) (some : length w.variables.held ≡ 0 → ⊥)
        (last : num ≡ wire (w.variables.acknowledged + length w.variables.held)) where
      none_asks : HasBegun c.begun w.variables → ⊥
      none_asks begun = some (ap length (fresh c.begun w.variables running begun).given.held)

      given_asks : (by : RunsBy s coming w.variables) → Goes (asks Runs s num) coming w.variables
      given_asks by =
          let count = length_marks by.heard s.given w.variables by.given in
          by_false coming w.variables (eqb (length s.given.marks) 0) _ _ (ne_eqb (length s.given.marks) 0 (λ e. some (omega (arith, count, e))))
          (by_true coming w.variables (eqb num (wire (length s.given.marks))) _ _
          (eq-eqb num (wire (length s.given.marks)) (omega (arith, last, count, by.given.acknowledged))) (goes coming w.variables s c))

      pub asks_goes : (mode : Mode) → HasBegun c.begun w.variables ⊎ Otherwise mode s coming w.variables → Goes (asks mode s num) coming w.variables
      asks_goes Begins (inl begun) = absurd (none_asks begun)
      asks_goes Begins (inr none) = absurd none
      asks_goes Runs (inl begun) = absurd (none_asks begun)
      asks_goes Runs (inr by) = given_asks by
      asks_goes Doubtful what = goes coming w.variables s c
