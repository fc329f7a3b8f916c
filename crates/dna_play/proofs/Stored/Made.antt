-- What the user of an end of the player does: a start, a halt, and what is done with its links, by what becomes of these.
use Rattle.dna_play.proofs.Prelude.{◌≡◌, ℕ, ◌≤◌, Bool, true, false, ◌&&◌, not, Some, refl, sym, ap, ◌∙◌, Ok, arith, Event, MAX_LINK, User, State}
use Rattle.dna_play.proofs.Prelude.{Halted, StationEvent, does, user_refusal, StationVariables, Without, booted, true_segments, Links, links_user}
use Rattle.dna_play.proofs.Prelude.{LinkEventValue, link_event, has_line, OwesStrt, Owed, same_state, all_acknowledged, still_owed, end_step, Start}
use Rattle.dna_play.proofs.Prelude.{Halt, Boot, StepValue, StoredLinks, StoredEnd, StoredStation, no_stored_links}
use Rattle.capture_record.specs.declared.event.Event.TheVariants as events
use Rattle.dna_station.specs.declared.state.StationEvent.TheVariants as station_events
use Rattle.dna_play.specs.StoredPlay.{with_links}
use Rattle.dna_play.specs.StoredPlay as keeping
use Rattle.dna_play.specs.StoredStation as stored_station
use Rattle.dna_play.proofs.{Played.Steps.Nothing, Played.Steps.First, Links.Made.IsOfLinks, Links.Made.event_makes, Links.Stage.LinkHolds}
use Rattle.dna_play.proofs.{Links.Stage.booted_holds, Stored.Now.StoredNow, Stored.Now.facts_of}
use Rattle.dna_play.proofs.Ends.Stage.{Known, with_left, with_event, links_stage, start_event_stage, halt_event_stage, strt_stage}
use Rattle.dna_play.proofs.Ends.TrueEnd.{stored, End, station_of, links_of, after_record, variables_of, owing_more}
use Rattle.dna_play.proofs.Stored.Right.{IsAsked, HasNoRoom, IsRight, kept_right, never_full}

-- ---- the station, where nothing becomes of it

state_stays : (state : State) → same_state state state ≡ true
state_stays Halted = refl
state_stays state = refl

-- it owes what it owed, where no REP is owed once all is acknowledged
pub owed_same : {L : Type 0} (k : StationVariables L) (owed : Owed) → (owed.rep ≡ true → all_acknowledged k ≡ false) → still_owed k k owed ≡ owed
owed_same k owed pays =
    rw (state_stays k.state) (ap (λ (rep : Bool). record owed { rep = rep }) (go owed.rep pays))
  where
    go : (rep : Bool) → (rep ≡ true → all_acknowledged k ≡ false) → (rep && not (all_acknowledged k)) ≡ rep
    go true pays = ap not (pays refl)
    go false pays = refl

module _ (own other : End) (now : StoredNow own other) where
  abbrev pub s : Links
  s = links_of own.half

  pub known : Known own other
  known = (facts_of now).known

  -- ---- of the station

  abbrev after_event : StationEvent → End
  after_event event = after_record own (with_event own.half event) own.links

  pub start_right : IsRight own other Start (keeping.starts (stored own))
  unfolding end_step
  start_right = go (station_of own.half).state refl
    where
      kept : StoredStation
      kept = stored_station.owing (Some OwesStrt) (stored_station.after_event station_events.Start (stored own).station)

      go : (state : State) → (station_of own.half).state ≡ state → IsRight own other Start
          (keeping.unless_refused (user_refusal state station_events.Start) (keeping.made events.Start (keeping.with_station kept (stored own))))
      go Halted is = kept_right own other Start (owing_more (Some OwesStrt) (after_event station_events.Start))
          (First (rw is refl) Nothing) refl refl
          (strt_stage _ (start_event_stage own now.stage is)) is (never_full own other Start refl)
      go state is = λ halted. let e = sym is ∙ halted in cc

  pub halt_right : IsRight own other Halt (keeping.halts (stored own))
  unfolding end_step
  halt_right = kept_right own other Halt (after_event station_events.Halt) (First refl Nothing) refl refl (halt_event_stage own now.stage) tt
      (never_full own other Halt refl)

  -- ---- of both

  abbrev booted_end : End
  booted_end = record (after_event station_events.Halt) {
    half = with_left (with_event own.half station_events.Halt) (booted true_segments Without s);
    links = no_stored_links;
    addresses = 0;
  }

  pub boot_right : IsRight own other Boot (keeping.boots (stored own))
  unfolding end_step
  boot_right = let h = halt_event_stage own now.stage in kept_right own other Boot booted_end (First refl Nothing) refl refl
      (record { pays = h.pays; packets = h.packets; links = booted_holds s; plain = h.plain; few = omega arith; ahead = h.ahead })
      tt (never_full own other Boot refl)

  -- ---- of the links

  -- what an end then keeps
  abbrev pub StoredBy : ℕ → StoredLinks → StoredEnd
  StoredBy address links = with_links links (record (stored own) { addresses = address })

  -- it is made, and these links are kept then
  pub event_right : (step : StepValue) (event : Event) (value : LinkEventValue) (top : ℕ) → link_event event ≡ Some value → IsOfLinks value →
      (left : Links) (kept : StoredLinks) → has_line (User event) ≡ true → links_user Without s value ≡ Ok left → top ≤ MAX_LINK →
      LinkHolds left.links top kept → IsAsked own other step → ¬ (HasNoRoom own other step) →
      IsRight own other step (keeping.made event (StoredBy top kept))
  event_right step event value top is alone left kept lined does few holds asks room =
      kept_right own other step (record (after_record own (with_left own.half left) kept) { addresses = top })
      (First (event_makes own.half other.half event value left is alone lined does) Nothing)
      (rw (owed_same (variables_of own.half) own.owed now.stage.pays.rep) refl) refl (links_stage own now.stage left kept top few holds) asks room
