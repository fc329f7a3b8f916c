-- What holds of an end of the player at any time of a script, with what is known of both in a run that is checked: all that it chooses it may
-- send; and that it is kept by what its user does and by its timers.
use Rattle.dna_play.proofs.Prelude.{◌≡◌, ℕ, ◌<◌, ◌≤◌, ◌^◌, Option, Some, List, subst, arith, IfSome, slice_get, stepped, cut_half, MAX_LINK, Head}
use Rattle.dna_play.proofs.Prelude.{Halted, StationEvent, Station, after_event, Phase, Calling, Confirming, Running, Disconnecting, LinkOf}
use Rattle.dna_play.proofs.Prelude.{TrueSegments, Links, IsOrdered, IsAnswered, SentMessage, stations, LayersUnit, Debt, timer_debt, OwesStrt, Owed}
use Rattle.dna_play.proofs.Prelude.{LinkOwed, InitiateDuty, ConfirmDuty, DisconnectDuty, retried, StoredLinks, LinkList, AreAddressed, IsReady}
use Rattle.dna_station.specs.declared.state.StationEvent.TheVariants as events
use Rattle.dna_station.specs.Bounds as bounds
use Rattle.dna_play.proofs.{Played.Steps.PlayHalf, Links.Pays.OwedFits, Links.Fits.IsPlain, Links.Owing.duty_fits, Links.Owing.ahead_owes}
use Rattle.dna_play.proofs.{Links.Keeps.NoLink, Links.Stage.LinkHolds, Ends.SendMakes.PacketsFit, Ends.StationStage.StationPays}
use Rattle.dna_play.proofs.{Ends.StationStage.cut_of}
use Rattle.dna_play.proofs.Ends.TrueEnd.{End, new_end, variables_of, station_of, links_of, after_record, owing_more, passing}
use Rattle.dna_play.proofs.Ends.OwedPays.{timer_pays, none_owed, debt_pays}
use Rattle.dna_play.proofs.Ends.StationOwes.{start_pays, halt_pays, same_pays}

pub record Stage (e : End) : Type 0 where
  pub pays : StationPays (station_of e.half) e.owed
  pub packets : PacketsFit (station_of e.half)
  pub links : LinkHolds (links_of e.half).links e.addresses e.links
  -- of all messages that its links ever sent
  pub plain : (k : ℕ) (u : SentMessage) → slice_get e.half.state.station.messages k ≡ Some (Some u) → IsPlain u.packet.message
  pub few : e.addresses ≤ MAX_LINK
  -- what came lies before the next unit on the line
  pub ahead : e.half.state.front ≤ e.passed

-- before any step
pub new_stage : (head : Head) → Stage (new_end head)
new_stage head = record {
  pays = record { nak = λ reason e. let f = none_owed reason in absurd cc; rep = λ e. absurd cc };
  packets = tt;
  links = record { keeps = NoLink; confirms = λ i confirm at. absurd cc };
  plain = λ k u at. absurd cc;
  few = omega arith;
  ahead = omega arith;
}

abbrev pub HasNumbers : LinkList → Type 0
HasNumbers links = (i : ℕ) (l : LinkOf TrueSegments) → slice_get links i ≡ Some l → IsOrdered l.segments × IsAnswered l.segments

pub record Known (own other : End) : Type 0 where
  pub ready : IsReady own.half other.half
  pub bounded : bounds.IsBounded (cut_half stations own.half) (cut_half stations other.half)
  pub numbers : HasNumbers (links_of own.half).links
  pub addressed : AreAddressed (links_of own.half).links (links_of other.half).links own.addresses
  pub others : AreAddressed (links_of other.half).links (links_of own.half).links other.addresses
  pub head_own : own.half.state.head.own < 2 ^ 16
  pub head_peer : own.half.state.head.peer < 2 ^ 16
  pub node : (links_of own.half).node ≡ own.half.state.head.own
  pub peer : (links_of own.half).peer ≡ own.half.state.head.peer

pub ordered_of : (links : LinkList) → HasNumbers links → (i : ℕ) (l : LinkOf TrueSegments) → slice_get links i ≡ Some l → IsOrdered l.segments
ordered_of links numbers i l at = (numbers i l at).0

-- ---- what its node does

-- these links are left
abbrev pub with_left : PlayHalf → Links → PlayHalf
with_left own left = stepped own (record own.state { station = record own.state.station { links = left } })

-- this station is left
abbrev pub with_station : PlayHalf → Station → PlayHalf
with_station own left = stepped own (record own.state { station = record own.state.station { station = left } })

abbrev pub with_event : PlayHalf → StationEvent → PlayHalf
with_event own event = with_station own (after_event (station_of own) event)

module _ (e : End) (h : Stage e) where
  pub links_stage : (left : Links) (kept : StoredLinks) (top : ℕ) → top ≤ MAX_LINK → LinkHolds left.links top kept →
      Stage (record (after_record e (with_left e.half left) kept) { addresses = top })
  links_stage left kept top few holds = record {
    pays = same_pays (cut_of (station_of e.half)) e.owed h.pays;
    packets = h.packets;
    links = holds;
    plain = h.plain;
    few = few;
    ahead = h.ahead;
  }

  -- the station is another then, and the links stay
  pub station_stage : (station : Station) (owed : Owed) (front passed : ℕ) (sent : List LayersUnit) → StationPays station owed →
      PacketsFit station → front ≤ passed → Stage (record (after_record e (record {
        state = record e.half.state { station = record e.half.state.station { station = station }; front = front };
        sent = sent;
      }) e.links) { owed = owed; passed = passed })
  station_stage station owed front passed sent pays packets ahead =
      record { pays = pays; packets = packets; links = h.links; plain = h.plain; few = h.few; ahead = ahead }

  pub start_event_stage : (station_of e.half).state ≡ Halted → Stage (after_record e (with_event e.half events.Start) e.links)
  start_event_stage is = station_stage _ _ _ _ _ (start_pays (cut_of (station_of e.half)) e.owed h.pays is) tt h.ahead

  pub halt_event_stage : Stage (after_record e (with_event e.half events.Halt) e.links)
  halt_event_stage = station_stage _ _ _ _ _ (halt_pays (cut_of (station_of e.half)) e.owed h.pays) h.packets h.ahead

  -- ---- timers, and one thing more is owed

  -- what is owed changes alone
  owed_stage : (owed : Owed) → StationPays (station_of e.half) owed → Stage (record e { owed = owed })
  owed_stage owed pays = record { pays = pays; packets = h.packets; links = h.links; plain = h.plain; few = h.few; ahead = h.ahead }

  pub timer_stage : (debt : Debt) → timer_debt (variables_of e.half).state (variables_of e.half) ≡ Some debt → Stage (owing_more (Some debt) e)
  timer_stage debt is = subst (λ (o : Option Debt). Stage (owing_more o e)) is
      (owed_stage _ (timer_pays (variables_of e.half) (station_of e.half).causes e.owed (variables_of e.half).state h.pays))

  pub strt_stage : Stage (owing_more (Some OwesStrt) e)
  strt_stage = owed_stage _ (debt_pays (variables_of e.half) (station_of e.half).causes e.owed (Some OwesStrt) tt h.pays)

  pub kept_stage : (kept : StoredLinks) → LinkHolds (links_of e.half).links e.addresses kept → Stage (record e { links = kept })
  kept_stage kept holds = record { pays = h.pays; packets = h.packets; links = holds; plain = h.plain; few = h.few; ahead = h.ahead }

  pub passing_stage : Stage (passing e)
  passing_stage = record { pays = h.pays; packets = h.packets; links = h.links; plain = h.plain; few = h.few; ahead = let a = h.ahead in omega arith }

-- what it owes then where the timer of a link runs out
pub retried_fits : (l : LinkOf TrueSegments) (o : LinkOwed) (phase : Phase) → l.port.phase ≡ phase → OwedFits l o →
    IfSome (retried phase) (λ change. OwedFits l (change o))
retried_fits l o Calling is f = duty_fits l o InitiateDuty is f
retried_fits l o Confirming is f = duty_fits l o ConfirmDuty is f
retried_fits l o Disconnecting is f = duty_fits l o DisconnectDuty is f
retried_fits l o Running is f = record { duties = λ duty e. f.duties duty (ahead_owes duty 0 o e); ahead = omega arith }
retried_fits l o phase is f = tt
