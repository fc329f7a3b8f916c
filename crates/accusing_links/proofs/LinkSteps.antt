-- What the user does and what comes keeps it that what the links of a node received passed for them.
use Rattle.accusing_links.proofs.Prelude.{◌≡◌, ℕ, ◌<◌, Bool, true, false, Some, refl, subst, ◌∙◌, SegmentValue, NspValue, DataSegment, DataAck}
use Rattle.accusing_links.proofs.Prelude.{ConnectInitiate, ConnectConfirm, IsInRange, Phase, Calling, Called, Confirming, Running, Disconnecting}
use Rattle.accusing_links.proofs.Prelude.{CalledBy, ActedOn, Queues, Without, With, LinkTag, is_live, is_in, is_connected, LinkOf, LinkTruth}
use Rattle.accusing_links.proofs.Prelude.{Carried, with_segments, goes_on, goes_to, Row, user_row, arrival_row, LinkEventValue, Open, Accept}
use Rattle.accusing_links.proofs.Prelude.{Reject, WireSegments, wire_segments, takes_segment, WireLinks, wire_links_user, wire_links_arrived}
use Rattle.accusing_links.proofs.Prelude.{of_none, PartnerRule}
use Rattle.accusing_links.proofs.{Answered.Good, Along.RowShows}
use Rattle.accusing_links.proofs.Finds.{Found, connected_live, acted_on, called_by, calling_at}
use Rattle.accusing_links.proofs.Rows.{IsCalmRow, calm_shows, user_kept, arrived_kept}
use Rattle.accusing_links.proofs.Received.{AreFine, empty_received, segment_received}
use Rattle.accusing_links.proofs.RightLinks.{Numbers, Never, is_early, IsLinkRight, blank_right, none_received, goes_to_received, goes_right, IsCalm}
use Rattle.accusing_links.proofs.RightLinks.{AreRight}
use Rattle.accusing_links.proofs.LinkRows.{IsSmall, Now, Are, there, keeps, all_keep}

pub calling_early : (phase : Phase) → is_in Calling phase ≡ true → is_early phase ≡ true
calling_early Calling e = refl
calling_early phase e = absurd cc

pub called_early : (phase : Phase) → is_in Called phase ≡ true → is_early phase ≡ true
called_early Called e = refl
called_early phase e = absurd cc

-- a link that acts on a message is in RUN, with the same addresses
pub record IsInRun (before after : LinkOf WireSegments) : Type 0 where
  pub late : is_early after.port.phase ≡ false
  pub own : after.port.own ≡ before.port.own
  pub far : after.port.far ≡ before.port.far

pub in_run : (q : Queues) (l : LinkOf WireSegments) → is_connected l.port.phase ≡ true → IsInRun l (goes_to wire_segments q Running l)
in_run Without l connected = record { late = refl; own = refl; far = refl }
in_run With l connected = go (is_live l.port.phase) (connected_live l.port.phase connected)
  where
    go : (b : Bool) → b ≡ true → IsInRun l (goes_on wire_segments b Running l)
    go true e = record { late = refl; own = refl; far = refl }
    go false e = absurd cc

-- what comes passed
abbrev pub HasPassed : Numbers → NspValue → Type 0
HasPassed Q (DataSegment s) = Q s.dstaddr s.srcaddr s.number
HasPassed Q m = Unit {0}

-- what the words of a message that is sent acknowledge passed
abbrev pub AcksFine : Numbers → NspValue → Type 0
AcksFine Q (DataSegment s) = AreFine (Q s.srcaddr s.dstaddr) s.acks
AcksFine Q (DataAck dst src acks) = AreFine (Q src dst) acks
AcksFine Q m = Unit {0}

module _ (Q : Numbers) (queues : Queues) (s : WireLinks) (are : AreRight Q queues s.links) where
  module _ (truth : LinkTruth (Unit {0})) where
    abbrev Shown : Row → Type 0
    Shown row = RowShows queues truth s (λ es. Now Q queues) row

    calm : (row : Row) → IsCalmRow IsSmall (IsCalm Q queues) row → Shown row
    calm row is = calm_shows queues s (Now Q queues) IsSmall (IsCalm Q queues) truth (keeps Q queues s are truth) row is

    answered : (far own : ℕ) (phase : Phase) (n : ℕ) (l : LinkOf WireSegments) → Found s (CalledBy far) n l →
        IsLinkRight Q (goes_to wire_segments queues phase (record l { port = record l.port { own = Some own } }))
    answered far own phase n l found =
        none_received Q queues _ (goes_to_received Never queues phase (record l { port = record l.port { own = Some own } })
        ((there Q queues s are n l found.there).early (called_early l.port.phase (called_by far n l s found))))

    user_shows : (event : LinkEventValue) → Shown (user_row event)
    user_shows (Open own) = (tt, none_received Q queues _ (empty_received Never))
    user_shows (Accept far own) = (tt, λ n l found. (tt, answered far own Confirming n l found))
    user_shows (Reject far own) = (tt, λ n l found. (tt, answered far own Disconnecting n l found))
    user_shows event = calm (user_row event) (assumption refl)

    -- ---- a segment comes

    taken_right : (m : LinkOf WireSegments) (segment : SegmentValue) → IsLinkRight Q m → is_early m.port.phase ≡ false →
        m.port.own ≡ Some segment.dstaddr → m.port.far ≡ Some segment.srcaddr → segment.number < 4096 →
        Q segment.dstaddr segment.srcaddr segment.number → IsLinkRight Q (with_segments (takes_segment segment tt m.segments) m)
    taken_right m segment is late own far small came = record {
      early = λ e. absurd cc;
      both = λ o f e g.
          let same_own : segment.dstaddr ≡ o = cc in
          let same_far : segment.srcaddr ≡ f = cc in
          segment_received 0 (Q o f) segment m.segments small
          (subst (λ (x : ℕ). Q x f segment.number) same_own (subst (λ (x : ℕ). Q segment.dstaddr x segment.number) same_far came)) (is.both o f e g);
    }

    taken : (segment : SegmentValue) → segment.number < 4096 → Q segment.dstaddr segment.srcaddr segment.number → (n : ℕ)
        (l : LinkOf WireSegments) → Found s (ActedOn segment.dstaddr segment.srcaddr) n l →
        IsLinkRight Q (with_segments (takes_segment segment tt (goes_to wire_segments queues Running l).segments)
        (goes_to wire_segments queues Running l))
    taken segment small came n l found =
        let acts = acted_on segment.dstaddr segment.srcaddr n l s found in
        let run = in_run queues l acts.0 in
        taken_right (goes_to wire_segments queues Running l) segment
        (goes_right Q queues queues Running l refl (there Q queues s are n l found.there)) run.late (run.own ∙ acts.1.0)
        (run.far ∙ acts.1.1) small came

    message_shows : (m : NspValue) → IsInRange m → HasPassed Q m → Shown (arrival_row m)
    message_shows (DataSegment segment) small came = (blank_right Q queues, λ n l found. taken segment small.1 came n l found)
    message_shows (ConnectInitiate retransmitted src services info segsize user_data) small came =
        (blank_right Q queues, none_received Q queues _ (empty_received Never))
    message_shows (ConnectConfirm dst src services info segsize user_data) small came = (
      blank_right Q queues,
      λ n l found. none_received Q queues _ (goes_to_received Never queues Running
          (record l { port = record l.port { far = Some src }; partner = truth.tag.link; segsize = segsize })
          ((there Q queues s are n l found.there).early (calling_early l.port.phase (calling_at dst n l s found).0))),
    )
    message_shows m small came = calm (arrival_row m) (assumption refl)

  pub user_right : (event : LinkEventValue) → Good (Are Q queues) (wire_links_user queues s event)
  user_right event =
      user_kept queues s (Now Q queues) (Are Q queues) (all_keep Q queues s are) event (user_shows (of_none queues wire_segments) event)

  pub arrived_right : (rule : PartnerRule) (packet : Carried) (tag : LinkTag) → IsInRange packet.message → HasPassed Q packet.message →
      Good (Are Q queues) (wire_links_arrived queues rule s packet tag)
  arrived_right rule packet tag small came =
      arrived_kept queues s (Now Q queues) (Are Q queues) (all_keep Q queues s are) rule packet tag
      (message_shows (record { tag = tag; known = tt }) packet.message small came)
