-- What the user does and what comes keeps it what is known of a link's last acknowledgement sent; and what comes first from a far address joins one
-- link to it.
use Rattle.accusing_links.proofs.Prelude.{◌≡◌, ℕ, ◌<◌, Bool, true, false, ◌&&◌, ◌⊎◌, not, eqb, Option, Some, None, List, [], ◌∷◌, refl, sym, subst}
use Rattle.accusing_links.proofs.Prelude.{ap, ◌∙◌, fold, slice_get, SegmentValue, NspValue, DataSegment, LinkService, DataAck, OtherDataAck}
use Rattle.accusing_links.proofs.Prelude.{ConnectInitiate, ConnectConfirm, DisconnectInitiate, DisconnectConfirm, IsInRange, WrongNode, Phase}
use Rattle.accusing_links.proofs.Prelude.{Calling, Called, Confirming, Running, Disconnecting, TheLink, CallingAt, CalledBy, ActedOn, Queues}
use Rattle.accusing_links.proofs.Prelude.{Without, With, Said, LinkTag, is_live, is_in, is_calling, is_connected, LinkOf, LinkTruth, Carried}
use Rattle.accusing_links.proofs.Prelude.{with_segments, in_use, port_of_waiting, has_waiting, is_over, goes_on, goes_to, ends_by_message, drops}
use Rattle.accusing_links.proofs.Prelude.{Row, Effect, GoTo, TakeSegment, TakeAcks, user_row, arrival_row, LinkEventValue, Open, Accept, Reject}
use Rattle.accusing_links.proofs.Prelude.{Close, Abort, WireSegments, wire_segments, takes_segment, WireLinks, wire_links_user, wire_links_arrived}
use Rattle.accusing_links.proofs.Prelude.{blank, does, after, of_none, PartnerRule}
use Rattle.accusing_links.proofs.{Answered.Good, Answered.good_check, Along.RowShows, Along.comes_by_row, Received.segment_received}
use Rattle.accusing_links.proofs.{RightLinks.Numbers, LinkRows.IsSmall, LinkSteps.HasPassed, LinkSteps.in_run, Ports.goes_far}
use Rattle.accusing_links.proofs.Finds.{Found, either_there, in_live, connected_live, acted_on, called_by, ends_live}
use Rattle.accusing_links.proofs.Rows.{IsCalmRow, calm_shows, user_kept, arrived_kept}
use Rattle.accusing_links.proofs.Follows.{keeps, live_keeps, Follows, follows_itself, follows_on, goes_follows, ends_follows, drops_follows}
use Rattle.accusing_links.proofs.Follows.{or_second, requeued_follows, IsCalm, all_follow}
use Rattle.accusing_links.proofs.FarLinks.{NoneTo, OneTo, one_pushed, one_changed, one_of_none}
use Rattle.accusing_links.proofs.FollowRows.{Are, IsNow, blank_now, keep, all_keep}

-- a call in use keeps what has numbers
open_before : (over : Bool) (phase : Phase) → is_in Calling phase ≡ true → not (over && is_in Disconnecting phase) ≡ true
open_before true Calling e = refl
open_before true phase e = absurd cc
open_before false phase e = refl

calling_waits : (waits : Option Phase) (l : LinkOf WireSegments) → l.queue.waits ≡ waits →
    is_in Calling (port_of_waiting waits l.port).phase ≡ true → keeps With l ≡ true
calling_waits None l at calling = live_keeps With l (in_live Calling l.port.phase calling refl)
calling_waits (Some phase) l at calling =
    or_second (is_live l.port.phase) (has_waiting l.queue.waits l.queue.said)
    (ap (λ (w : Option Phase). has_waiting w l.queue.said) at ∙ open_before (is_over l.queue.said) phase calling)

calling_keeps : (q : Queues) (l : LinkOf WireSegments) → is_calling (in_use q l).phase ≡ true → keeps q l ≡ true
calling_keeps Without l calling = live_keeps Without l (in_live Calling l.port.phase calling refl)
calling_keeps With l calling = calling_waits l.queue.waits l refl calling

pub not_both : {X : Type 0} (b : Bool) → b ≡ true → b ≡ false → X
not_both b e f = absurd cc

same_number : (a b : ℕ) → ◌≡◌ {A = Option ℕ} (Some a) (Some b) → a ≡ b
same_number a b e = cc

-- a DI is not sent yet, whatever waits
still_open : (said : Said) (phase : Phase) → not (is_over said && true) ≡ true → not (is_over said && is_in Disconnecting phase) ≡ true
still_open said phase e = go (is_over said) e
  where
    go : (b : Bool) → not (b && true) ≡ true → not (b && is_in Disconnecting phase) ≡ true
    go true e = absurd cc
    go false e = refl

-- a link that is in use is closed
waits_open : (waits : Option Phase) (l : LinkOf WireSegments) → l.queue.waits ≡ waits → is_connected (port_of_waiting waits l.port).phase ≡ true →
    is_live l.port.phase ≡ false → has_waiting (Some Disconnecting) l.queue.said ≡ true → has_waiting waits l.queue.said ≡ true
waits_open None l at connected over e = not_both (is_live l.port.phase) (connected_live l.port.phase connected) over
waits_open (Some phase) l at connected over e = still_open l.queue.said phase e

-- a message is no CI and no CC from this far address
abbrev pub IsPlain : ℕ → NspValue → Type 0
IsPlain far (ConnectInitiate retransmitted src services info segsize user_data) = src ≡ far → ⊥
IsPlain far (ConnectConfirm dst src services info segsize user_data) = src ≡ far → ⊥
IsPlain far m = Unit {0}

-- a CI or a CC
abbrev pub IsConnect : NspValue → Type 0
IsConnect (ConnectInitiate retransmitted src services info segsize user_data) = Unit {0}
IsConnect (ConnectConfirm dst src services info segsize user_data) = Unit {0}
IsConnect m = ⊥

module _ (N : Numbers) (queues : Queues) (own far least : ℕ) (s : WireLinks) where
  abbrev pub Q : ℕ → Type 0
  Q = N own far

  abbrev Follow : LinkOf WireSegments → LinkOf WireSegments → Type 0
  Follow l m = Follows queues own far least Q l m

  abbrev pub AreNow : WireLinks → Type 0
  AreNow x = Are queues own far least Q s x

  abbrev pub One : WireLinks → Type 0
  One x = OneTo far x.links

  at : (n : ℕ) (l m : LinkOf WireSegments) → slice_get s.links n ≡ Some l → Follow l m → IsNow queues own far least Q s (Some n) m
  at n l m there is = (l, there, is)

  closes_follow : (q : Queues) → q ≡ queues → (l : LinkOf WireSegments) → is_connected (in_use q l).phase ≡ true →
      Follow l (goes_to wire_segments q Disconnecting l)
  closes_follow Without same l connected =
      goes_follows queues own far least Q Without same Disconnecting l refl (connected_live l.port.phase connected)
  closes_follow With same l connected = go (is_live l.port.phase) refl
    where
      live : is_live l.port.phase ≡ true → Follow l (goes_to wire_segments With Disconnecting l)
      live e = goes_follows queues own far least Q With same Disconnecting l refl e

      go : (b : Bool) → is_live l.port.phase ≡ b → Follow l (goes_on wire_segments b Disconnecting l)
      go true e = subst (λ (b : Bool). Follow l (goes_on wire_segments b Disconnecting l)) e (live e)
      go false e =
          requeued_follows queues own far least Q (Some Disconnecting) l.queue.said l (waits_open l.queue.waits l refl connected e)

  module _ (truth : LinkTruth (Unit {0})) where
    abbrev Shown : Row → Type 0
    Shown row = RowShows queues truth s (λ es. IsNow queues own far least Q s) row

    calm : (row : Row) → IsCalmRow IsSmall (IsCalm queues own far least Q) row → Shown row
    calm row is =
        calm_shows queues s (IsNow queues own far least Q s) IsSmall (IsCalm queues own far least Q) truth (keep queues own far least Q s truth)
        row is

    none : IsNow queues own far least Q s None (blank queues wire_segments)
    none = blank_now queues own far least Q s

    -- a called link gets an address
    addressed : (given : ℕ) (l : LinkOf WireSegments) → is_in Called l.port.phase ≡ true →
        Follow l (record l { port = record l.port { own = Some given } })
    addressed given l called = record {
      to = λ e. e;
      known = λ k e g. not_both (is_in Called l.port.phase) called (k e (live_keeps queues l (in_live Called l.port.phase called refl))).begun;
    }

    answered : (other given : ℕ) (phase : Phase) → is_in Called phase ≡ false → (n : ℕ) (l : LinkOf WireSegments) → Found s (CalledBy other) n l →
        IsNow queues own far least Q s (Some n) (goes_to wire_segments queues phase (record l { port = record l.port { own = Some given } }))
    answered other given phase late n l found =
        let called = called_by other n l s found in
        let with_own = record l { port = record l.port { own = Some given } } in
        at n l (goes_to wire_segments queues phase with_own) found.there
        (follows_on queues own far least Q l with_own (goes_to wire_segments queues phase with_own) (addressed given l called)
        (goes_follows queues own far least Q queues refl phase with_own late (in_live Called l.port.phase called refl)))

    user_shows : (event : LinkEventValue) → Shown (user_row event)
    user_shows (Open given) = (tt, λ e. absurd cc)
    user_shows (Accept other given) = (tt, λ n l found. (tt, answered other given Confirming refl n l found))
    user_shows (Reject other given) = (tt, λ n l found. (tt, answered other given Disconnecting refl n l found))
    user_shows (Close given) = λ n l used e. at n l (goes_to wire_segments queues Disconnecting l) used.there (closes_follow queues refl l e)
    user_shows (Abort given) = λ n l used e. at n l (drops wire_segments queues l) used.there
        (drops_follows queues own far least Q queues refl l (calling_keeps queues l e))
    user_shows event = calm (user_row event) assumption

    -- ---- a message of RUN comes

    taken_follows : (m : LinkOf WireSegments) (segment : SegmentValue) → segment.number < 4096 →
        (m.port.own ≡ Some own → m.port.far ≡ Some far → Q segment.number) →
        Follow m (with_segments (takes_segment segment tt m.segments) m)
    taken_follows m segment small came = record {
      to = λ e. e;
      known = λ k e g.
          let was = k e (same queues g) in
          record { begun = was.begun; received = λ o. segment_received least Q segment m.segments small (came o e) (was.received o) };
    }
      where
        same : (q : Queues) → keeps q (with_segments (takes_segment segment tt m.segments) m) ≡ true → keeps q m ≡ true
        same Without e = e
        same With e = e

    acted : (to from : ℕ) (effects : List Effect) →
        ((m : LinkOf WireSegments) → m.port.own ≡ Some to → m.port.far ≡ Some from → Follow m (fold (does queues wire_segments truth) m effects)) →
        (n : ℕ) (l : LinkOf WireSegments) → Found s (ActedOn to from) n l →
        IsNow queues own far least Q s (Some n) (fold (does queues wire_segments truth) l (GoTo Running ∷ effects))
    acted to from effects then n l found =
        let acts = acted_on to from n l s found in
        let runs = goes_to wire_segments queues Running l in
        let run = in_run queues l acts.0 in
        let left = fold (does queues wire_segments truth) l (GoTo Running ∷ effects) in
        at n l left found.there
        (follows_on queues own far least Q l runs left
        (goes_follows queues own far least Q queues refl Running l refl (connected_live l.port.phase acts.0))
        (then runs (run.own ∙ acts.1.0) (run.far ∙ acts.1.1)))

    same_passed : (to from number : ℕ) (m : LinkOf WireSegments) → N to from number → m.port.own ≡ Some to → m.port.far ≡ Some from →
        m.port.own ≡ Some own → m.port.far ≡ Some far → Q number
    same_passed to from number m came o f e g =
        let same_own : to ≡ own = same_number to own (sym o ∙ e) in
        let same_far : from ≡ far = same_number from far (sym f ∙ g) in
        subst (λ (x : ℕ). N x far number) same_own (subst (λ (x : ℕ). N to x number) same_far came)

    -- ---- any message

    -- a link gets another far address
    confirmed : (src segsize : ℕ) → (src ≡ far → ⊥) → (n : ℕ) (l : LinkOf WireSegments) → slice_get s.links n ≡ Some l →
        IsNow queues own far least Q s (Some n) (goes_to wire_segments queues Running
        (record l { port = record l.port { far = Some src }; partner = truth.tag.link; segsize = segsize }))
    confirmed src segsize other n l there =
        let joined = record l { port = record l.port { far = Some src }; partner = truth.tag.link; segsize = segsize } in
        at n l (goes_to wire_segments queues Running joined) there (record {
          to = λ g. absurd (other (same_number src far (sym (goes_far queues Running joined) ∙ g)));
          known = λ k g h. absurd (other (same_number src far (sym (goes_far queues Running joined) ∙ g)));
        })

    ended : (given other n : ℕ) (l : LinkOf WireSegments) → Found s (TheLink given other) n l ⊎ Found s (CallingAt given) n l →
        IsNow queues own far least Q s (Some n) (ends_by_message wire_segments queues l)
    ended given other n l found =
        at n l (ends_by_message wire_segments queues l) (either_there s (TheLink given other) (CallingAt given) n l found)
        (ends_follows queues own far least Q queues refl l (ends_live given n l s other found))

    message_shows : (m : NspValue) → IsInRange m → HasPassed N m → IsPlain far m → Shown (arrival_row m)
    message_shows (DataSegment segment) small came plain = (
      none,
      acted segment.dstaddr segment.srcaddr (TakeSegment segment ∷ [])
          (λ m o f. taken_follows m segment small.1 (same_passed segment.dstaddr segment.srcaddr segment.number m came o f)),
    )
    message_shows (DataAck dst src acks) small came plain =
        (none, acted dst src (TakeAcks acks ∷ []) (λ m o f. all_follow queues own far least Q truth m (TakeAcks acks ∷ []) (tt, tt)))
    message_shows (LinkService interrupt dst src rest) small came plain =
        (none, acted dst src [] (λ m o f. follows_itself queues own far least Q m))
    message_shows (OtherDataAck dst src rest) small came plain = (none, acted dst src [] (λ m o f. follows_itself queues own far least Q m))
    message_shows (ConnectInitiate retransmitted src services info segsize user_data) small came plain =
        (none, λ e. plain (same_number src far e))
    message_shows (ConnectConfirm dst src services info segsize user_data) small came plain =
        (none, λ n l found. confirmed src segsize plain n l found.there)
    message_shows (DisconnectInitiate dst src reason user_data) small came plain = (none, ended dst src)
    message_shows (DisconnectConfirm dst src reason) small came plain = (none, ended dst src)
    message_shows m small came plain = calm (arrival_row m) assumption

    -- this one, where none had it
    one_shows : NoneTo far s.links → (m : NspValue) → IsConnect m →
        RowShows queues truth s (λ es n l. One (after queues wire_segments s es n l tt)) (arrival_row m)
    one_shows alone (ConnectInitiate retransmitted src services info segsize user_data) is =
        (one_of_none far s.links alone, one_pushed far s.links _ alone)
    one_shows alone (ConnectConfirm dst src services info segsize user_data) is =
        (one_of_none far s.links alone, λ n l found. one_changed far s.links n _ alone)
    one_shows alone m is = absurd is

  -- ---- all that may happen

  pub user_follows : (event : LinkEventValue) → Good AreNow (wire_links_user queues s event)
  user_follows event =
      user_kept queues s (IsNow queues own far least Q s) AreNow (all_keep queues own far least Q s) event
      (user_shows (of_none queues wire_segments) event)

  pub arrived_follows : (rule : PartnerRule) (packet : Carried) (tag : LinkTag) → IsInRange packet.message → HasPassed N packet.message →
      IsPlain far packet.message → Good AreNow (wire_links_arrived queues rule s packet tag)
  arrived_follows rule packet tag small came plain =
      arrived_kept queues s (IsNow queues own far least Q s) AreNow (all_keep queues own far least Q s) rule packet tag
      (message_shows (record { tag = tag; known = tt }) packet.message small came plain)

  pub arrived_one : (rule : PartnerRule) (packet : Carried) (tag : LinkTag) → NoneTo far s.links → IsConnect packet.message →
      Good One (wire_links_arrived queues rule s packet tag)
  arrived_one rule packet tag none is =
      good_check One (eqb packet.src s.peer && eqb packet.dst s.node) WrongNode _ (λ e.
      comes_by_row queues (record { tag = tag; known = tt }) s (λ es n l. One (after queues wire_segments s es n l tt)) rule
      (after queues wire_segments s) One (λ es n l k one. one) packet.message
      (one_shows (record { tag = tag; known = tt }) none packet.message is))
