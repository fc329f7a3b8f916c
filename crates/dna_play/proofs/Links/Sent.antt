-- The message of a link's duty, or a DC, may be sent; and what it makes of the links then: what is sent is owed no more.
use Rattle.dna_play.proofs.Prelude.{◌≡◌, ℕ, ◌+◌, ◌≤◌, length, Ok, refl, ap, ◌∙◌, subst, arith, slice_get, NspValue, Without, LinkOf, with_segments}
use Rattle.dna_play.proofs.Prelude.{message_sent, of_no_link, TrueSegments, Numbers, true_segments, Links, IsOrdered, LinkOwed, Duty, SegmentDuty}
use Rattle.dna_play.proofs.Prelude.{LinkEnd, LinkChoice, without_duty, StoredLinks, gave_by, sent_at, after_sent, LinkList, AreAddressed}
use Rattle.dna_links.specs.Sending.{Sent}
use Rattle.dna_play.proofs.{Ends.Stage.HasNumbers, Links.Confirms.done_over, Links.Goes.segments_go}
use Rattle.dna_play.proofs.Links.Pays.{variables_of, end_of, OwedFits, MaySendIt, confirm_may}
use Rattle.dna_play.proofs.Links.Owing.{still_fits, still_same, sent_duty_fits}
use Rattle.dna_play.proofs.Links.Choices.{IsAsked, OfDuty, OfConfirm}
use Rattle.dna_play.proofs.Links.Duties.{DutyMade, duty_made, gave_ahead}
use Rattle.dna_play.proofs.Links.Keeps.{At, is_kept, link_there, kept_there}
use Rattle.dna_play.proofs.Links.Stage.{LinkHolds, set_holds, first_sent_holds}

module _ (s : Links) (most : ℕ) (kept : StoredLinks) (h : LinkHolds s.links most kept) (others : LinkList)
    (addressed : AreAddressed s.links others most) (numbers : HasNumbers s.links) where
  module _ (n place : ℕ) (l : LinkOf TrueSegments) (o : LinkOwed) (at : At l o n place s.links kept.links) (duty : Duty)
      (t : DutyMade s n l o duty) where
    abbrev left : LinkOf TrueSegments
    left = with_segments t.segments l

    in_order : IsOrdered l.segments
    in_order = (numbers n l (link_there at)).0

    still_owes : OwedFits left o
    still_owes = subst (OwedFits left) (still_same l left o refl t.acknowledged)
        (still_fits l left o in_order (t.goes.moves in_order) (is_kept at).owes)

    -- a segment that has gone is among those sent in this go
    more : duty ≡ SegmentDuty → o.ahead + 1 ≤ length (variables_of left).outstanding
    more segment =
        let gone = gave_ahead (end_of l o) (is_kept at).owes.ahead in
        let counted : length (variables_of left).outstanding ≡ length (gave_by SegmentDuty (end_of l o)).variables.outstanding =
        ap (λ (x : LinkEnd). length x.variables.outstanding) (t.is ∙ ap (λ (x : Duty). gave_by x (end_of l o)) segment) in
        omega arith

    duty_holds : LinkHolds t.made.links.links most (sent_at place (slice_get kept.links place) duty kept)
    duty_holds = rw (t.links, kept_there at, ← t.is)
        (set_holds s most kept h at left (without_duty duty o) most (omega arith) (segments_go most l t.segments t.goes) (is_kept at).lives
        (sent_duty_fits left o duty more still_owes))

  -- what is asked may be sent, and this holds then
  pub asked_goes : (c : LinkChoice) (m : NspValue) → IsAsked s.links kept c m →
      (may : MaySendIt s m) × LinkHolds may.0.links.links most (after_sent c kept)
  asked_goes c m (OfDuty n place duty l o at due) =
      let known = numbers n l (link_there at) in
      let t = duty_made s others most addressed n l (link_there at) (is_kept at).fits o (is_kept at).owes known.0 known.1 duty due in
      ((t.made, t.sent), duty_holds n place l o at duty t)
  asked_goes c m (OfConfirm confirm first) =
      let one = h.confirms 0 confirm first in
      let may = confirm_may s confirm.dst confirm.src confirm.reason one.some (done_over s most confirm one.done) in
      ((of_no_link true_segments s, may), first_sent_holds s most kept h)

  pub sent_holds : (c : LinkChoice) (m : NspValue) (made : Sent TrueSegments Numbers) → IsAsked s.links kept c m →
      message_sent Without true_segments s m ≡ Ok made → LinkHolds made.links.links most (after_sent c kept)
  sent_holds c m made asked does =
      let t = asked_goes c m asked in let sent = t.0.1 in let same : t.0.0 ≡ made = cc in rw (← same) t.1
