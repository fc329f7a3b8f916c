-- What is sent keeps it that what the links have given in segments was sent; and a segment that is sent may be.
use Rattle.accusing_segments.proofs.Prelude.{◌≡◌, ℕ, ◌<◌, Bool, true, false, [], ◌∷◌, refl, subst, not, inr}
use Rattle.accusing_segments.proofs.Prelude.{and_parts, SegmentValue, NspValue, DataSegment, IsInRange, Phase, Running, TheLink, Queues, Without}
use Rattle.accusing_segments.proofs.Prelude.{With, OfRun, is_in, LinkOf, Carried, with_segments, with_queue, may_send, is_over, Say, Keep}
use Rattle.accusing_segments.proofs.Prelude.{sending_row, WireSegments, wire_segments, WireLinks, wire_links_sent, kept, of_none, Sent, Good}
use Rattle.accusing_segments.proofs.Prelude.{each_at, IsInUse, HasBoth, the_link, SentBy, SendShows, sent_tells, kept_each, IsCalmRow, calm_sends}
use Rattle.accusing_segments.proofs.Prelude.{sent_kept, always_sends, is_early}
use Rattle.accusing_segments.proofs.Gave.{More, Gave}
use Rattle.accusing_segments.proofs.SegmentSends.{IsFine, Gone, sent_left}
use Rattle.accusing_segments.proofs.RightLinks.{Links, IsLinkRight, IsCalm, all_right, AreRight, right_more}
use Rattle.accusing_segments.proofs.LinkRows.{IsQuiet, Now, Are, keeps, all_keep, gap_right}

-- a segment in what is sent was sent
abbrev pub HasGone : Links → NspValue → Type 0
HasGone Q (DataSegment s) = Gone (Q s.srcaddr s.dstaddr) s
HasGone Q m = Unit {0}

-- a segment in what is sent may be
abbrev pub SendsFine : Links → NspValue → Type 0
SendsFine Q (DataSegment s) = IsFine (Q s.srcaddr s.dstaddr) s
SendsFine Q m = Unit {0}

-- ---- a link in the turn of RUN is past its beginning

running_late : (phase : Phase) → is_in Running phase ≡ true → is_early phase ≡ false
running_late Running e = refl
running_late phase e = absurd cc

late_of : (b : Bool) → (b ≡ true → ⊥) → b ≡ false
late_of true never = absurd (never refl)
late_of false never = refl

pub turn_late : (Q : Links) (q : Queues) (l : LinkOf WireSegments) → IsLinkRight Q l → may_send q Running l ≡ true → is_early l.port.phase ≡ false
turn_late Q Without l right e = running_late l.port.phase e
turn_late Q With l right e = late_of (is_early l.port.phase) (λ early.
    let ran = (and_parts l.queue.ran (not (is_over l.queue.said)) e).0 in
    let not_ran = (right.early early).ran in
    absurd cc)

module _ (Q R : Links) (queues : Queues) (more : (own far : ℕ) → More (Q own far) (R own far)) (s : WireLinks) (are : AreRight Q queues s.links) where
  grown : AreRight R queues s.links
  grown = right_more Q R queues more s.links are

  -- ---- a segment

  module _ (segment : SegmentValue) (small : segment.number < 4096) (gone : Gone (R segment.srcaddr segment.dstaddr) segment) (n : ℕ)
      (l : LinkOf WireSegments) (used : IsInUse queues s (TheLink segment.srcaddr segment.dstaddr) n l) where
    both : HasBoth segment.srcaddr segment.dstaddr l.port
    both = the_link segment.srcaddr segment.dstaddr n l used

    old : IsLinkRight Q l
    old = each_at (IsLinkRight Q) s.links n l are used.there

    left : (f : WireSegments) → SentBy segment l f → IsFine (Q segment.srcaddr segment.dstaddr) segment × Gave (R segment.srcaddr segment.dstaddr) f
    left f made =
        sent_left (Q segment.srcaddr segment.dstaddr) (R segment.srcaddr segment.dstaddr) (more _ _) segment small gone l f
        (old.both segment.srcaddr segment.dstaddr both.0 both.1) (old.room segment.srcaddr segment.dstaddr (inr both.0) both.1) made

    -- with what it has given then
    now_right : is_early l.port.phase ≡ false → (f : WireSegments) → Gave (R segment.srcaddr segment.dstaddr) f → IsLinkRight R (with_segments f l)
    now_right late f now = record {
      early = λ e. absurd cc;
      both = λ o x e g.
          let own = both.0 in
          let far = both.1 in
          let same_own : segment.srcaddr ≡ o = cc in
          let same_far : segment.dstaddr ≡ x = cc in
          subst (λ (y : ℕ). Gave (R y x) f) same_own (subst (λ (y : ℕ). Gave (R segment.srcaddr y) f) same_far now);
      room = (each_at (IsLinkRight R) s.links n l grown used.there).room;
    }

  -- ---- any message

  calm : (m : NspValue) → IsCalmRow IsQuiet (IsCalm R queues) (sending_row m) →
      SendShows queues (of_none queues wire_segments) s (λ es. Now R queues) (sending_row m)
  calm m is =
      calm_sends queues s (Now R queues) IsQuiet (IsCalm R queues) (of_none queues wire_segments)
      (keeps R queues s grown (of_none queues wire_segments)) (sending_row m) is

  right_shows : (m : NspValue) → IsInRange m → HasGone R m → SendShows queues (of_none queues wire_segments) s (λ es. Now R queues) (sending_row m)
  right_shows (DataSegment segment) small gone = λ n l used turn f gap made.
      let late = turn_late Q queues l (each_at (IsLinkRight Q) s.links n l are used.there) turn in
      let now = now_right segment small.1 gone n l used late f (left segment small.1 gone n l used f made).1 in
      all_right R queues (of_none queues wire_segments) (with_queue (record l.queue { gap = gap }) (with_segments f l))
      (kept queues (Say OfRun ∷ Keep ∷ [])) (kept_each (IsCalm R queues) queues (Say OfRun ∷ Keep ∷ []) (tt, (tt, tt)))
      (gap_right R queues gap (with_segments f l) now)
  right_shows m small gone = calm m assumption

  fine_shows : (m : NspValue) → IsInRange m → HasGone R m →
      SendShows queues (of_none queues wire_segments) s (λ es n l. SendsFine Q m) (sending_row m)
  fine_shows (DataSegment segment) small gone = λ n l used turn f gap made. (left segment small.1 gone n l used f made).0
  fine_shows m small gone = always_sends queues s (Unit {0}) tt (of_none queues wire_segments) (sending_row m)

  pub sent_good : (packet : Carried) → IsInRange packet.message → HasGone R packet.message →
      Good (λ (made : Sent WireSegments (Unit {0})). Are R queues made.links × SendsFine Q packet.message) (wire_links_sent queues s packet)
  sent_good packet small gone made e = (
    sent_kept queues s (Now R queues) (Are R queues) (all_keep R queues s grown) packet (right_shows packet.message small gone) made e,
    sent_tells queues s packet (SendsFine Q packet.message) (fine_shows packet.message small gone) made e,
  )
