-- What the user does and what comes keeps it that what the links of a node have given in segments was sent.
use Rattle.accusing_segments.proofs.Prelude.{◌≡◌, ℕ, true, false, Some, refl, subst, ◌∙◌, ◌≤◌, inl, inr, NspValue, DataSegment}
use Rattle.accusing_segments.proofs.Prelude.{DataAck, ConnectInitiate, ConnectConfirm, IsInRange, Phase, Port, Calling, Called, Confirming, Running}
use Rattle.accusing_segments.proofs.Prelude.{Disconnecting, Ended, CallingAt, CalledBy, ActedOn, Queues, LinkTag, is_in, LinkOf, LinkTruth, Carried}
use Rattle.accusing_segments.proofs.Prelude.{with_segments, goes_to, Row, user_row, arrival_row, LinkEventValue, Open, Accept, Reject, WireSegments}
use Rattle.accusing_segments.proofs.Prelude.{wire_segments, takes_segment, takes_acks, WireLinks, wire_links_user, wire_links_arrived, of_none}
use Rattle.accusing_segments.proofs.Prelude.{PartnerRule, Good, Found, acted_on, called_by, calling_at, RowShows, IsCalmRow, calm_shows, user_kept}
use Rattle.accusing_segments.proofs.Prelude.{arrived_kept, is_early, calling_early, called_early, in_run}
use Rattle.accusing_segments.proofs.Gave.{never, Gave, WordsPassed, empty_gave, acks_gave, segment_gave}
use Rattle.accusing_segments.proofs.RightLinks.{Links, IsLinkRight, HasRoom, blank_right, none_gave, goes_right, IsCalm, AreRight}
use Rattle.accusing_segments.proofs.LinkRows.{IsQuiet, Now, Are, there, keeps, all_keep}

-- what the words of a message that comes acknowledge was acknowledged; and for what it says there is room
abbrev pub HasCome : Links → NspValue → Type 0
HasCome Q (DataSegment s) = WordsPassed (Q s.dstaddr s.srcaddr).word s.acks
HasCome Q (DataAck dst src acks) = WordsPassed (Q dst src).word acks
HasCome Q (ConnectInitiate retransmitted src services info segsize user_data) = (own n : ℕ) → n ≤ segsize → (Q own src).room n
HasCome Q (ConnectConfirm dst src services info segsize user_data) = (n : ℕ) → n ≤ segsize → (Q dst src).room n
HasCome Q m = Unit {0}

module _ (Q : Links) (queues : Queues) (s : WireLinks) (are : AreRight Q queues s.links) where
  module _ (truth : LinkTruth (Unit {0})) where
    abbrev Shown : Row → Type 0
    Shown row = RowShows queues truth s (λ es. Now Q queues) row

    calm : (row : Row) → IsCalmRow IsQuiet (IsCalm Q queues) row → Shown row
    calm row is = calm_shows queues s (Now Q queues) IsQuiet (IsCalm Q queues) truth (keeps Q queues s are truth) row is

    answered : (far own : ℕ) (phase : Phase) → is_early phase ≡ false → (n : ℕ) (l : LinkOf WireSegments) → Found s (CalledBy far) n l →
        IsLinkRight Q (goes_to wire_segments queues phase (record l { port = record l.port { own = Some own } }))
    answered far own phase late n l found =
        let called = called_by far n l s found in
        let is = there Q queues s are n l found.there in
        let none = is.early (called_early l.port.phase called) in
        goes_right Q queues queues phase (record l { port = record l.port { own = Some own } }) late
        (none_gave Q queues (record l { port = record l.port { own = Some own } }) none.gave (λ e. none.ran)
        (λ o f how e. is.room o f (inl called) e))

    user_shows : (event : LinkEventValue) → Shown (user_row event)
    user_shows (Open own) = (tt, none_gave Q queues _ (empty_gave never) (λ e. refl) (λ o f how e. absurd cc))
    user_shows (Accept far own) = (tt, λ n l found. (tt, answered far own Confirming refl n l found))
    user_shows (Reject far own) = (tt, λ n l found. (tt, answered far own Disconnecting refl n l found))
    user_shows event = calm (user_row event) (assumption refl)

    -- a calling link is answered
    answered_room : (own far segsize : ℕ) (port : Port) → ((n : ℕ) → n ≤ segsize → (Q own far).room n) → is_in Calling port.phase ≡ true →
        port.own ≡ Some own → HasRoom Q (record port { far = Some far }) segsize
    answered_room own far segsize port came calling at o f (inl called) e n fits = absurd (no port.phase calling called)
      where
        no : (phase : Phase) → is_in Calling phase ≡ true → is_in Called phase ≡ true → ⊥
        no Calling a b = cc
        no Called a b = cc
        no Confirming a b = cc
        no Running a b = cc
        no Disconnecting a b = cc
        no Ended a b = cc
    answered_room own far segsize port came calling at o f (inr here) e n fits =
        let same_own : own ≡ o = cc in
        let same_far : far ≡ f = cc in
        subst (λ (x : ℕ). (Q x f).room n) same_own (subst (λ (x : ℕ). (Q own x).room n) same_far (came n fits))

    confirmed : (own far segsize : ℕ) → ((n : ℕ) → n ≤ segsize → (Q own far).room n) → (n : ℕ) (l : LinkOf WireSegments) →
        Found s (CallingAt own) n l → IsLinkRight Q (goes_to wire_segments queues Running
        (record l { port = record l.port { far = Some far }; partner = truth.tag.link; segsize = segsize }))
    confirmed own far segsize came n l found =
        let calling = calling_at own n l s found in
        let none = (there Q queues s are n l found.there).early (calling_early l.port.phase calling.0) in
        let joined : LinkOf WireSegments = record l { port = record l.port { far = Some far }; partner = truth.tag.link; segsize = segsize } in
        goes_right Q queues queues Running joined refl
        (none_gave Q queues joined none.gave (λ e. none.ran) (answered_room own far segsize l.port came calling.0 calling.1))

    -- ---- a segment comes, or acknowledgement words

    module _ (own far : ℕ) (takes : WireSegments → WireSegments)
        (good : (f : WireSegments) → Gave (Q own far) f → Gave (Q own far) (takes f)) where
      taken_right : (m : LinkOf WireSegments) → IsLinkRight Q m → is_early m.port.phase ≡ false → m.port.own ≡ Some own → m.port.far ≡ Some far →
          IsLinkRight Q (with_segments (takes m.segments) m)
      taken_right m is late has_own has_far = record {
        early = λ e. absurd cc;
        both = λ o f e g.
            let same_own : own ≡ o = cc in
            let same_far : far ≡ f = cc in
            subst (λ (x : ℕ). Gave (Q x f) (takes m.segments)) same_own
            (subst (λ (x : ℕ). Gave (Q own x) (takes m.segments)) same_far (good m.segments (is.both own far has_own has_far)));
        room = is.room;
      }

      acted : (n : ℕ) (l : LinkOf WireSegments) → Found s (ActedOn own far) n l →
          IsLinkRight Q (with_segments (takes (goes_to wire_segments queues Running l).segments) (goes_to wire_segments queues Running l))
      acted n l found =
          let acts = acted_on own far n l s found in
          let run = in_run queues l acts.0 in
          taken_right (goes_to wire_segments queues Running l) (goes_right Q queues queues Running l refl (there Q queues s are n l found.there))
          run.late (run.own ∙ acts.1.0) (run.far ∙ acts.1.1)

    message_shows : (m : NspValue) → IsInRange m → HasCome Q m → Shown (arrival_row m)
    message_shows (DataSegment segment) small came = (
      blank_right Q queues,
      acted segment.dstaddr segment.srcaddr (takes_segment segment tt)
          (λ f is. segment_gave (Q segment.dstaddr segment.srcaddr) segment f small.0 came is),
    )
    message_shows (DataAck dst src acks) small came =
        (blank_right Q queues, acted dst src (takes_acks acks tt) (λ f is. acks_gave (Q dst src) acks f small.0 came is))
    message_shows (ConnectInitiate retransmitted src services info segsize user_data) small came = (
      blank_right Q queues,
      none_gave Q queues _ (empty_gave never) (λ e. refl)
          (λ o f how e n fits. let same_far : src ≡ f = cc in subst (λ (x : ℕ). (Q o x).room n) same_far (came o n fits)),
    )
    message_shows (ConnectConfirm dst src services info segsize user_data) small came = (blank_right Q queues, confirmed dst src segsize came)
    message_shows m small came = calm (arrival_row m) (assumption refl)

  pub user_right : (event : LinkEventValue) → Good (Are Q queues) (wire_links_user queues s event)
  user_right event =
      user_kept queues s (Now Q queues) (Are Q queues) (all_keep Q queues s are) event (user_shows (of_none queues wire_segments) event)

  pub arrived_right : (rule : PartnerRule) (packet : Carried) (tag : LinkTag) → IsInRange packet.message → HasCome Q packet.message →
      Good (Are Q queues) (wire_links_arrived queues rule s packet tag)
  arrived_right rule packet tag small came =
      arrived_kept queues s (Now Q queues) (Are Q queues) (all_keep Q queues s are) rule packet tag
      (message_shows (record { tag = tag; known = tt }) packet.message small came)
