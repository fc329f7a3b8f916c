-- The same of data; and of every message.
use Rattle.std.proofs.Common.{◌≡◌, ℕ, Bool, true, false, ◌&&◌, eqb, Result, Ok, Err, List, [], ◌∷◌, refl, sym, subst, arith, ◌⊎◌, inl, inr}
use Rattle.std.proofs.lemmas.Bool.{eq-eqb, and_from}
use Rattle.ddcmp_msg.specs.Message.{MessageValue, Data, Ack, Nak, Rep, Strt, Stack}
use Rattle.dna_station.specs.declared.state.State.TheVariants.{Running}
use Rattle.dna_station.specs.WireStation.{StationVariables, WireStation}
use Rattle.dna_station.specs.WireBook.{wire_passes, wire_after_sending, sends_packet}
use Rattle.accusing.specs.declared.mode.Mode.{Mode}
use Rattle.accusing.specs.declared.mode.Mode.TheVariants.{Begins, Runs, Doubtful}
use Rattle.accusing.specs.declared.wrong.Wrong.{Wrong}
use Rattle.accusing.specs.Mark.{mark_of}
use Rattle.accusing.specs.Heard.{reaches, advanced}
use Rattle.accusing.specs.Sight.{Given, none_given, Sight, anew, can_begin, gives, gives_either, gives_data, sends_message}
use Rattle.accusing.proofs.Orders.{within_trans}
use Rattle.accusing.proofs.Beginnings.{heard_is}
use Rattle.accusing.proofs.Tracking.{hears_all, hears_all_more}
use Rattle.accusing.proofs.Fits.{HasBegun, HasGiven}
use Rattle.accusing.proofs.Sendings.{advanced_given, none_as_given, runs_to_send, MaySend, resp_of_ack, resp_of_nak, rep_parts, data_next}
use Rattle.accusing.proofs.Sendings.{data_resp, gave}
use Rattle.accusing.proofs.Goes.{Goes, goes, flipped, reached_by, IsFresh, fresh}
use Rattle.accusing.proofs.Covering.{RunsBy, Otherwise, Covers}
use Rattle.accusing.proofs.Own.{begun_first, begins_anew, doubt_covers, same_period, gives_goes}
use Rattle.accusing.proofs.Own.{first_given, strt_goes, stack_goes, reach_by, on_covers, resp_goes, asks_goes}

module _ {L : Type 0} where
  module _ (s : Sight) (coming : List (List ℕ)) (w : WireStation L) (c : Covers s coming w.variables) (flags : _) (resp num : ℕ) (body : List ℕ)
      (may : MaySend w (Data flags resp num body)) where
    abbrev after : StationVariables L
    after = sends_packet w.variables body

    running : w.variables.state ≡ Running
    running = runs_to_send (wire_passes w (Data flags resp num body)) w.variables.state (Data flags resp num body) refl may

    here : resp ≡ w.variables.received
    here = data_resp w flags resp num body may

    -- ---- of a station that had given no number

    one : IsFresh c.begun w.variables → num ≡ 1
    one is = omega (arith, data_next w flags resp num body may, is.given.acknowledged, is.given.ahead)

    first : IsFresh c.begun w.variables → HasGiven (advanced c.begun.heard resp) (record { marks = mark_of body ∷ []; back = 0 }) after
    first is =
        let has = none_as_given c.begun.heard w.variables is.running is.given is.reached in
        let made = gave w flags resp num body may c.begun.heard none_given has in
        advanced_given c.begun.heard (record { marks = mark_of body ∷ []; back = 0 }) after resp here
        (first_given c.begun.heard num body after (heard_is c.begun c.is_begun) (one is) made)

    fresh_either : HasBegun c.begun w.variables → (r : Result Given Wrong) → Goes (gives_either s resp num (mark_of body) true r) coming after
    fresh_either begun (Ok given) = goes coming after (record s { mode = Doubtful }) (doubt_covers s coming w.variables c after running)
    fresh_either begun (Err wrong) =
        let is = fresh c.begun w.variables running begun in
        gives_goes (anew Runs s) coming w.variables (begins_anew s coming w.variables c begun) refl is resp here num (mark_of body) after (one
        is) (first is)

    begun_either : HasBegun c.begun w.variables →
        Goes (gives_either s resp num (mark_of body) (can_begin s resp && eqb num 1) (gives s.heard s.given resp num (mark_of body))) coming after
    begun_either begun =
        let is = fresh c.begun w.variables running begun in
        let before = begun_first s coming w.variables c in
        let can = and_from (can_begin s resp) (eqb num 1)
        (and_from s.beginning.run (reaches s.beginning.heard resp) (flipped c.begun.run s.beginning.run before.run is.run)
        (reached_by c.begun.heard s.beginning.heard resp w.variables here before.heard is.reached))
        (eq-eqb num 1 (one is)) in
        subst (λ (x : Bool). Goes (gives_either s resp num (mark_of body) x (gives s.heard s.given resp num (mark_of body))) coming after) (sym can)
        (fresh_either begun (gives s.heard s.given resp num (mark_of body)))

    -- ---- of one that had

    given_either : s.mode ≡ Runs → (by : RunsBy s coming w.variables) → (b : Bool) (given : Given) → HasGiven by.heard given after →
        Goes (gives_either s resp num (mark_of body) b (Ok given)) coming after
    given_either mode by true given has = goes coming after (record s { mode = Doubtful }) (doubt_covers s coming w.variables c after running)
    given_either mode by false given has =
        goes coming after (record s { heard = advanced s.heard resp; given = given })
        (on_covers s coming w c resp here running mode by given after (advanced_given by.heard given after resp here has))

    given_gives : s.mode ≡ Runs → (by : RunsBy s coming w.variables) → Goes (gives_data Runs s resp num (mark_of body)) coming after
    given_gives mode by =
        let made = gave w flags resp num body may by.heard s.given by.given in
        let more = within_trans by.heard (hears_all by.heard coming) s.heard (hears_all_more by.heard coming by.is) by.within in
        let reach = reach_by s coming w c resp here running by in
        let allowed : gives s.heard s.given resp num (mark_of body) ≡ Ok made.given = rw reach (made.allowed s.heard more) in
        subst (λ (x : Result Given Wrong). Goes (gives_either s resp num (mark_of body) (can_begin s resp && eqb num 1) x) coming after)
        (sym allowed)
        (given_either mode by (can_begin s resp && eqb num 1) made.given made.is_given)

    data_goes : (mode : Mode) → s.mode ≡ mode → HasBegun c.begun w.variables ⊎ Otherwise mode s coming w.variables →
        Goes (gives_data mode s resp num (mark_of body)) coming after
    data_goes Begins mode (inl begun) =
        let is = fresh c.begun w.variables running begun in
        gives_goes s coming w.variables c mode is resp here num (mark_of body) after (one is) (first is)
    data_goes Begins mode (inr none) = absurd none
    data_goes Runs mode (inl begun) = begun_either begun
    data_goes Runs mode (inr by) = given_gives mode by
    data_goes Doubtful mode what =
        goes coming after s (same_period s coming w.variables c s after refl refl refl
        (inr (subst (λ (x : Mode). Otherwise x s coming after) (sym mode) running)))

  -- every message that the station may send
  pub own_goes : (s : Sight) (coming : List (List ℕ)) (w : WireStation L) (m : MessageValue) → Covers s coming w.variables → MaySend w m →
      Goes (sends_message s m) coming (wire_after_sending w m).variables
  own_goes s coming w (Strt flags) c may = strt_goes s coming w c flags may
  own_goes s coming w (Stack flags) c may = stack_goes s coming w c flags may
  own_goes s coming w (Ack flags resp) c may =
      resp_goes s coming w c resp (resp_of_ack w flags resp may)
      (runs_to_send (wire_passes w (Ack flags resp)) w.variables.state (Ack flags resp) refl may)
      s.mode refl c.what
  own_goes s coming w (Nak flags reason resp) c may =
      resp_goes s coming w c resp (resp_of_nak w flags reason resp may)
      (runs_to_send (wire_passes w (Nak flags reason resp)) w.variables.state (Nak flags reason resp) refl may) s.mode refl c.what
  own_goes s coming w (Rep flags num) c may =
      let parts = rep_parts w flags num may in
      asks_goes s coming w c num (runs_to_send (wire_passes w (Rep flags num)) w.variables.state (Rep flags num) refl may) parts.0 parts.1 s.mode
      c.what
  own_goes s coming w (Data flags resp num body) c may = data_goes s coming w c flags resp num body may s.mode refl c.what
