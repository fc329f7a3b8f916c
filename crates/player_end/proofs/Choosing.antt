-- What is known of what an end has chosen to send.
use Rattle.std.proofs.Common.{◌≡◌, ℕ, ◌≤◌, ◌<◌, Bool, true, ◌&&◌, Option, Some, None, List, length, sym, ap, ap₂, ◌∙◌, arith}
use Rattle.std.specs.Prelude.{slice_get}
use Rattle.std.proofs.lemmas.Bool.{ltb-true}
use Rattle.std.proofs.lemmas.Option.{slice_get_past, same_Some}
use Rattle.dna_station.specs.declared.state.State.{State}
use Rattle.dna_station.specs.Table.{WINDOW}
use Rattle.dna_station.specs.WireStation.{StationVariables}
use Rattle.dna_station.specs.WireBook.{wire_is_new}
use Rattle.dna_links.specs.Segmentation.{Piece}
use Rattle.dna_links.proofs.Runs.Owners.{there_is}
use Rattle.dna_play.specs.Owed.{Owed}
use Rattle.dna_play.specs.LinkOwed.{EndConfirm, Duty, SegmentDuty}
use Rattle.dna_play.specs.StoredLinks.{gave}
use Rattle.dna_play.specs.NextSent.{LinkEnd, LinkChoice, OfLink, duty_of, link_choice, has_segment, SendNew, choice}
use Rattle.dna_play.proofs.Ends.StationPays as stations
use Rattle.dna_play.proofs.Ends.StationPays.{ByNew}
use Rattle.dna_play.proofs.Links.Pays.{IsDue, DueFlag, DueSegment, duty_due}
use Rattle.player_end.proofs.Duties.{chosen_stands}

-- ---- a link

pub chosen_duty : (confirms : List EndConfirm) (links : List LinkEnd) {place : ℕ} {duty : Duty} →
    link_choice confirms links ≡ Some (OfLink place duty) → (link : LinkEnd) → slice_get links place ≡ Some link → duty_of link ≡ Some duty
chosen_duty confirms links {place} {duty} e link at =
    let stands = chosen_stands confirms links place duty e in
    ap duty_of (same_Some link stands.link (sym at ∙ stands.there)) ∙ stands.has

-- ---- a segment

pub segment_chosen : (l : LinkEnd) → duty_of l ≡ Some SegmentDuty → has_segment l ≡ true
segment_chosen l e = go (duty_due l SegmentDuty e)
  where
    go : IsDue l SegmentDuty → has_segment l ≡ true
    go (DueFlag h) = absurd cc
    go (DueSegment running more) = ap₂ (λ (a b : Bool). a && b) running more

pub room_for_new : (l : LinkEnd) → has_segment l ≡ true → length l.variables.outstanding ≤ l.owed.ahead → length l.variables.outstanding < 2047
room_for_new l e le = grind arith

-- one that is outstanding is given already
pub sent_again : (l : LinkEnd) → l.owed.ahead < length l.variables.outstanding → gave (slice_get l.variables.outstanding l.owed.ahead) l ≡ l
sent_again l h = let at = there_is l.variables.outstanding l.owed.ahead h in ap (λ (o : Option Piece). gave o l) at.1

-- and one behind them is not
pub sent_new : (l : LinkEnd) → length l.variables.outstanding ≤ l.owed.ahead → slice_get l.variables.outstanding l.owed.ahead ≡ None
sent_new l h = slice_get_past l.variables.outstanding l.owed.ahead h

pub ruleset segments = (segment_chosen, room_for_new, sent_again, sent_new)

-- ---- a packet

module _ (message : LinkChoice) (k : StationVariables (Unit {0})) (owed : Owed) (m : Option LinkChoice) where
  pub chosen : choice k owed m ≡ Some (SendNew message) → (m ≡ Some message) × (wire_is_new k ≡ true) × (length k.held < WINDOW)
  chosen e = go k.state message (stations.chosen k owed m (SendNew message) k.state e)
    where
      go : (state : State) (x : LinkChoice) → stations.IsChosen k owed m state (SendNew x) →
          (m ≡ Some x) × (wire_is_new k ≡ true) × (length k.held < WINDOW)
      go state x (ByNew message new room is) = (is, new, ltb-true (length k.held) WINDOW room)

pub ruleset chosen_packets = (chosen)
