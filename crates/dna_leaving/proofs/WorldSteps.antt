-- What is left of a packet that is kept, and of any step.
use Rattle.dna_leaving.proofs.Prelude.{◌≡◌, ℕ, ◌+◌, ◌<◌, ◌≤◌, Bool, true, false, not, cond, Option, Some, None, List, [], map, length, Result, Ok}
use Rattle.dna_leaving.proofs.Prelude.{refl, sym, ap, ◌∙◌, arith, option_map, slice_get, slice_get-map, slice_get_within, LinkRefusal, Queues}
use Rattle.dna_leaving.proofs.Prelude.{LinkEventValue, of_partner, Numbers, Links, links_arrived, SentMessage, LinkSide, LinkStep, keeps}
use Rattle.dna_leaving.proofs.Prelude.{ByUser, SendsNone, Composes, Passes, rank, LinkRecord, OfUser, Sends, Keeps, links_then, LeftOut, is_out}
use Rattle.dna_leaving.proofs.Prelude.{Judged, links_left, truth_left, judged_then, other_out, other_judged, message_left, side_left, AreBound}
use Rattle.dna_leaving.proofs.Prelude.{record_of}
use Rattle.dna_links.specs.Runs as runs
use Rattle.dna_leaving.proofs.Lists.{marked_before}
use Rattle.dna_leaving.proofs.Units.{UnitRight}
use Rattle.dna_leaving.proofs.Sides.{SideRight, Follows, Does, follows_as, rank_as, RecordRight, event_right, packet_right, unit_right}
use Rattle.dna_leaving.proofs.Sides.{left_is, unseen, grows, mine_next, sent_before, theirs_next}
use Rattle.dna_leaving.proofs.StepsLeft.{StepLeft, within_left, sends_none, passes_left, user_step_left}
use Rattle.dna_leaving.proofs.SendsLeft.{composes_left, sends_left}

module _ (queues : Queues) (out : LeftOut) (judged : Judged) (own other : LinkSide) (mine : SideRight out judged own other)
    (theirs : SideRight (other_out out) (other_judged judged) other own) where
  abbrev own_size : ℕ
  own_size = length own.links.links

  abbrev other_size : ℕ
  other_size = length other.links.links

  abbrev own_left : LinkSide
  own_left = side_left out judged own

  abbrev other_left : LinkSide
  other_left = side_left (other_out out) (other_judged judged) other

  abbrev mapped : List (Option SentMessage) → List (Option SentMessage)
  mapped sent = map (message_left out judged) sent

  abbrev with_links : Links → LinkSide
  with_links links = record { links = links; sent = mapped own.sent; front = own.front }

  -- the link that a record begins has its mark
  abbrev AreMarked : LinkRecord Numbers → Links → Type 0
  AreMarked one left = (n : ℕ) → own_size ≤ n → n < length left.links → judged.here n ≡ not (is_out out one)

  abbrev Left : List LinkEventValue → LinkSide → Type 0
  Left events left = StepLeft queues out judged own other mine theirs events left

  -- ---- a packet that is kept

  module _ (place : ℕ) (unit : SentMessage) (links : Links) (after : own.front ≤ place) (there : slice_get other.sent place ≡ Some (Some unit))
      (e : links_arrived queues of_partner own.links unit.packet unit.truth ≡ Ok links) (marks : AreMarked
      (Keeps unit.packet unit.truth) links) where
    u : UnitRight (other_out out) (other_judged judged) other_size own_size unit
    u = theirs.sent place unit there

    -- the same with the numbers that are left
    abbrev unit_left : SentMessage
    unit_left = record unit { truth = truth_left judged.there judged.here unit.truth }

    kept_right : RecordRight queues out judged own other mine theirs (Keeps unit.packet unit.truth)
    kept_right = unit_right queues out judged own other mine theirs unit u

    there_left : is_out out (Keeps unit.packet unit.truth) ≡ false → slice_get other_left.sent place ≡ Some (Some unit_left)
    there_left is =
        slice_get-map (message_left (other_out out) (other_judged judged)) other.sent place
        ∙ ap (option_map (message_left (other_out out) (other_judged judged))) there
        ∙ ap (λ (b : Bool). Some (cond b None (Some unit_left))) (u.stays is)

    abbrev kept_then : Judged
    kept_then = judged_then out judged own.links (Keeps unit.packet unit.truth)

    pub arrived_left : is_out out (Keeps unit.packet unit.truth) ≡ false →
        links_arrived queues of_partner (links_left judged own.links) unit.packet unit_left.truth ≡ Ok (links_left judged links)
    arrived_left is =
        ap arrived
        (sym (rank_as kept_then.here judged.here own_size
        (λ n less. marked_before judged.here own_size (not (is_out out
        (Keeps unit.packet unit.truth))) n less) unit.truth.tag.partner u.there_is.partner))
        ∙ left_is queues out judged own other mine theirs (Keeps unit.packet unit.truth) kept_right links e marks is
      where
        arrived : Option ℕ → Result Links LinkRefusal
        arrived number = links_arrived queues of_partner (links_left judged own.links) unit.packet (record {
          tag = record { link = option_map (rank judged.there) unit.truth.tag.link; partner = number };
          known = unit.truth.known;
        })

    pub keeps_left : Left [] (keeps own links place)
    keeps_left = record {
      here = mine_next queues out judged own other mine theirs (Keeps unit.packet unit.truth) kept_right links e marks own.sent (place + 1)
          (sent_before queues out judged own other mine theirs (Keeps unit.packet unit.truth) kept_right links e marks);
      there = theirs_next queues out judged own other mine theirs (Keeps unit.packet unit.truth) kept_right links e marks own.sent (place + 1);
      follows = go (is_out out (Keeps unit.packet unit.truth)) refl;
    }
      where
        go : (b : Bool) → is_out out (Keeps unit.packet unit.truth) ≡ b → Follows queues own_left other_left [] (side_left out judged
            (keeps own links place))
        go true is =
            follows_as [] (keeps own_left own_left.links place) [] (side_left out judged (keeps own links place)) refl
            (ap (λ (all : Links). record { links = all; sent = mapped own.sent; front = place + 1 })
            (unseen queues out judged own other mine theirs (Keeps unit.packet unit.truth) kept_right links e marks is))
            (Does (Passes place after (within_left queues out judged own other mine theirs place (slice_get_within other.sent place
            (Some unit) there))))
        go false is = Does (runs.Keeps place unit_left (links_left judged links) after (there_left is) (arrived_left is))

  -- ---- any step

  -- no link is ever forgotten
  pub step_grows : (events : List LinkEventValue) (left : LinkSide) → LinkStep queues own other events left → AreBound out events →
      own_size ≤ length left.links.links
  step_grows events left (ByUser event links e) bound =
      grows queues out judged own other mine theirs (OfUser event)
      (event_right queues out judged own other mine theirs event bound.0.0 bound.0.1) links e
  step_grows events left (runs.Sends packet made e) bound =
      grows queues out judged own other mine theirs (Sends packet) (packet_right queues out judged own other mine theirs packet) made.links
      (ap links_then e)
  step_grows events left SendsNone bound = omega arith
  step_grows events left (Composes packet made e) bound =
      grows queues out judged own other mine theirs (Sends packet) (packet_right queues out judged own other mine theirs packet) made.links
      (ap links_then e)
  step_grows events left (runs.Keeps place unit links after there e) bound =
      grows queues out judged own other mine theirs (Keeps unit.packet unit.truth)
      (unit_right queues out judged own other mine theirs unit (theirs.sent place unit there)) links e
  step_grows events left (Passes place after less) bound = omega arith

  pub step_left : (events : List LinkEventValue) (left : LinkSide) (step : LinkStep queues own other events left) → AreBound out events →
      AreMarked (record_of step) left.links → Left events left
  step_left events left (ByUser event links e) bound marks = user_step_left queues out judged own other mine theirs event links e bound marks
  step_left events left (runs.Sends packet made e) bound marks = sends_left queues out judged own other mine theirs packet made e marks
  step_left events left SendsNone bound marks = sends_none queues out judged own other mine theirs
  step_left events left (Composes packet made e) bound marks = composes_left queues out judged own other mine theirs packet made e marks
  step_left events left (runs.Keeps place unit links after there e) bound marks = keeps_left place unit links after there e marks
  step_left events left (Passes place after less) bound marks = passes_left queues out judged own other mine theirs place after less
