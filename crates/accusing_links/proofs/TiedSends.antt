-- What is sent keeps it that links have their far addresses by CIs and CCs that passed, and run by messages of RUN; and each message that needs a
-- link has one that can be.
use Rattle.accusing_links.proofs.Prelude.{◌≡◌, ℕ, Bool, true, false, ◌&&◌, ◌||◌, ◌⊎◌, inl, inr, not, refl, sym, ap, ◌∙◌, and_parts, NspValue}
use Rattle.accusing_links.proofs.Prelude.{DataSegment, LinkService, DataAck, OtherDataAck, ConnectAck, NoOperation, ConnectInitiate, ConnectConfirm}
use Rattle.accusing_links.proofs.Prelude.{DisconnectInitiate, Confirming, Running, TheLink, OpenedAt, BegunBy, Queues, Without, With, is_live}
use Rattle.accusing_links.proofs.Prelude.{is_at, LinkOf, Carried, may_send, is_silent, is_over, sending_row, WireSegments, wire_segments, WireLinks}
use Rattle.accusing_links.proofs.Prelude.{wire_links_sent, of_none, Sent, CI, CC, RUN}
use Rattle.accusing_links.proofs.{Answered.Good, Along.SendShows, Along.sent_tells, Named.IsAddress, RightLinks.Numbers, TiedSteps.begun_in}
use Rattle.accusing_links.proofs.Finds.{IsInUse, HasBoth, at_is, the_link}
use Rattle.accusing_links.proofs.Rows.{Any, IsCalmRow, calm_sends, sent_kept, always_sends}
use Rattle.accusing_links.proofs.Tied.{Is, has_run, or_ran, IsCalm, AreTied}
use Rattle.accusing_links.proofs.TiedRows.{Now, Are, there, keeps, all_keep}

abbrev pub Called : Numbers → ℕ → ℕ → Type 0
Called P own far = IsAddress own × P CI 0 far

abbrev pub Joined : Numbers → ℕ → ℕ → Type 0
Joined P own far = IsAddress own × (P CI 0 far ⊎ P CC own far)

abbrev pub CanRun : Numbers → ℕ → ℕ → Type 0
CanRun P own far = IsAddress own × ((P CI 0 far × P RUN own far) ⊎ P CC own far)

-- a link of which a message may be sent can be
abbrev pub LinkFine : Numbers → NspValue → Type 0
LinkFine P (ConnectAck dst) = P CI 0 dst
LinkFine P (ConnectInitiate retransmitted src services info segsize user_data) = IsAddress src
LinkFine P (ConnectConfirm dst src services info segsize user_data) = Called P src dst
LinkFine P (DisconnectInitiate dst src reason user_data) = Joined P src dst
LinkFine P (DataSegment s) = CanRun P s.srcaddr s.dstaddr
LinkFine P (DataAck dst src acks) = CanRun P src dst
LinkFine P (LinkService interrupt dst src rest) = CanRun P src dst
LinkFine P (OtherDataAck dst src rest) = CanRun P src dst
LinkFine P m = Unit {0}

module _ (P : Numbers) (queues : Queues) (s : WireLinks) (are : AreTied P queues s.links) where
  -- ---- what is sent

  calm : (m : NspValue) → IsCalmRow Any (IsCalm P queues) (sending_row m) →
      SendShows queues (of_none queues wire_segments) s (λ es. Now P queues) (sending_row m)
  calm m is =
      calm_sends queues s (Now P queues) Any (IsCalm P queues) (of_none queues wire_segments) (keeps P queues s are (of_none queues wire_segments))
      (sending_row m) is

  message_shows : (m : NspValue) → SendShows queues (of_none queues wire_segments) s (λ es. Now P queues) (sending_row m)
  message_shows (NoOperation rest) = calm (NoOperation rest) assumption
  message_shows m = calm m assumption

  pub sent_tied : (packet : Carried) →
      Good (λ (made : Sent WireSegments (Unit {0})). Are P queues made.links) (wire_links_sent queues s packet)
  sent_tied packet = sent_kept queues s (Now P queues) (Are P queues) (all_keep P queues s are) packet (message_shows packet.message)

  -- ---- which links can be

  module _ (n : ℕ) (l : LinkOf WireSegments) where
    -- a link with both addresses
    joined : (own far : ℕ) → Is P queues l → HasBoth own far l.port → Joined P own far
    joined own far is both = go l.port.opened refl
      where
        go : (b : Bool) → l.port.opened ≡ b → Joined P own far
        go true e = (is.address own both.0, inr (is.by_answer e own far both.0 both.1))
        go false e = (is.address own both.0, inl (is.by_call e far both.1))

    -- a link in RUN
    ran : (q : Queues) → may_send q Running l ≡ true → has_run l.port.phase l.queue.ran ≡ true
    ran Without e = ap (λ (b : Bool). b || l.queue.ran) e
    ran With e = or_ran l.port.phase l.queue.ran (and_parts l.queue.ran (not (is_over l.queue.said)) e).0

    can_run : (own far : ℕ) → IsInUse queues s (TheLink own far) n l → may_send queues Running l ≡ true → CanRun P own far
    can_run own far used turn = go l.port.opened refl
      where
        both : HasBoth own far l.port
        both = the_link own far n l used

        is : Is P queues l
        is = there P queues s are n l used.there

        go : (b : Bool) → l.port.opened ≡ b → CanRun P own far
        go true e = (is.address own both.0, inr (is.by_answer e own far both.0 both.1))
        go false e = (is.address own both.0, inl (is.by_call e far both.1, is.by_run e (ran queues turn) own far both.0 both.1))

    -- a link that was accepted
    accepted_begun : (q : Queues) → may_send q Confirming l ≡ true → Is P queues l → l.port.opened ≡ false
    accepted_begun Without e is = begun_in Confirming l.port.phase l.port.opened e is.begun
    accepted_begun With e is = is.on_accept (and_parts l.queue.accepted (is_silent l.queue.said) e).0

    called : (own far : ℕ) → IsInUse queues s (TheLink own far) n l → may_send queues Confirming l ≡ true → Called P own far
    called own far used turn =
        let is = there P queues s are n l used.there in
        let both = the_link own far n l used in
        (is.address own both.0, is.by_call (accepted_begun queues turn is) far both.1)

    -- a link that was opened here
    opened : (own : ℕ) → IsInUse queues s (OpenedAt own) n l → IsAddress own
    opened own used =
        let port = used.port in
        let parts = and_parts (is_live port.phase) (port.opened && is_at port.own own) used.passes in
        let both = and_parts port.opened (is_at port.own own) parts.1 in
        (there P queues s are n l used.there).address own (sym used.own ∙ at_is port.own own both.1)

    -- a link that a CI began
    begun : (far : ℕ) → IsInUse queues s (BegunBy far) n l → P CI 0 far
    begun far used =
        let port = used.port in
        let parts = and_parts (is_live port.phase) (not port.opened && is_at port.far far) used.passes in
        let both = and_parts (not port.opened) (is_at port.far far) parts.1 in
        (there P queues s are n l used.there).by_call (sym used.opened ∙ not_true port.opened both.0) far (sym used.far ∙ at_is port.far far both.1)
      where
        not_true : (b : Bool) → not b ≡ true → b ≡ false
        not_true true e = absurd cc
        not_true false e = refl

  message_fine : (m : NspValue) → SendShows queues (of_none queues wire_segments) s (λ es n l. LinkFine P m) (sending_row m)
  message_fine (ConnectAck dst) = λ n l used. (begun n l dst used, begun n l dst used)
  message_fine (ConnectInitiate retransmitted src services info segsize user_data) = λ n l used turn. opened n l src used
  message_fine (ConnectConfirm dst src services info segsize user_data) = λ n l used turn. called n l src dst used turn
  message_fine (DisconnectInitiate dst src reason user_data) = λ n l used turn.
      joined n l src dst (there P queues s are n l used.there) (the_link src dst n l used)
  message_fine (DataSegment segment) = λ n l used turn f gap made. can_run n l segment.srcaddr segment.dstaddr used turn
  message_fine (DataAck dst src acks) = λ n l used turn sent gap made. can_run n l src dst used turn
  message_fine (LinkService interrupt dst src rest) = λ n l used turn. can_run n l src dst used turn
  message_fine (OtherDataAck dst src rest) = λ n l used turn. can_run n l src dst used turn
  message_fine m = always_sends queues s (Unit {0}) tt (of_none queues wire_segments) (sending_row m)

  pub sent_linked : (packet : Carried) →
      Good (λ (made : Sent WireSegments (Unit {0})). LinkFine P packet.message) (wire_links_sent queues s packet)
  sent_linked packet = sent_tells queues s packet (LinkFine P packet.message) (message_fine packet.message)
