-- What the user does and what comes keeps it that links have their far addresses by CIs and CCs that passed, and run by messages of RUN.
use Rattle.accusing_links.proofs.Prelude.{◌≡◌, ℕ, Bool, true, false, Some, List, [], ◌∷◌, fold, refl, subst, NspValue, DataSegment, LinkService}
use Rattle.accusing_links.proofs.Prelude.{DataAck, OtherDataAck, ConnectInitiate, ConnectConfirm, Phase, Calling, Called, Confirming, Running}
use Rattle.accusing_links.proofs.Prelude.{Disconnecting, Ended, Port, CallingAt, CalledBy, ActedOn, Queues, LinkTag, is_in, LinkOf, LinkTruth}
use Rattle.accusing_links.proofs.Prelude.{Carried, goes_to, Row, Effect, Connect, GoTo, TakeSegment, TakeAcks, user_row, arrival_row}
use Rattle.accusing_links.proofs.Prelude.{LinkEventValue, Open, Accept, Reject, Close, WireSegments, wire_segments, WireLinks, wire_links_user}
use Rattle.accusing_links.proofs.Prelude.{wire_links_arrived, blank, does, of_none, PartnerRule, CI, CC, RUN}
use Rattle.accusing_links.proofs.{Answered.Good, Along.RowShows, Named.IsAddress, Named.NamesOwn, RightLinks.Numbers}
use Rattle.accusing_links.proofs.Finds.{Found, acted_on, called_by, calling_at}
use Rattle.accusing_links.proofs.Rows.{Any, IsCalmRow, calm_shows, user_kept, arrived_kept}
use Rattle.accusing_links.proofs.Tied.{Begun, Is, has_run, is_plain, RunPassed, blank_tied, goes_tied, runs_tied, IsCalm, AreCalm, all_tied, AreTied}
use Rattle.accusing_links.proofs.TiedRows.{Now, Are, there, keeps, all_keep}

pub is_in_same : (wanted phase : Phase) → is_in wanted phase ≡ true → phase ≡ wanted
is_in_same Calling Calling e = refl
is_in_same Called Called e = refl
is_in_same Confirming Confirming e = refl
is_in_same Running Running e = refl
is_in_same Disconnecting Disconnecting e = refl
is_in_same Ended Ended e = refl
is_in_same wanted phase e = absurd cc

-- a link in this phase was opened here, or begun by a CI
pub begun_in : (wanted phase : Phase) (opened : Bool) → is_in wanted phase ≡ true → Begun phase opened → Begun wanted opened
begun_in wanted phase opened e begun = subst (λ (x : Phase). Begun x opened) (is_in_same wanted phase e) begun

-- a link that a CI just began has not run
not_run : (phase : Phase) (ran : Bool) → is_in Called phase ≡ true → (is_in Called phase ≡ true → ran ≡ false) → has_run phase ran ≡ false
not_run Called ran e yet = yet refl
not_run phase ran e yet = absurd cc

-- a CI, a CC or a message of RUN that comes passed
abbrev pub ConnectPassed : Numbers → NspValue → Type 0
ConnectPassed P (ConnectInitiate retransmitted src services info segsize user_data) = P CI 0 src
ConnectPassed P (ConnectConfirm dst src services info segsize user_data) = P CC dst src
ConnectPassed P (DataSegment s) = P RUN s.dstaddr s.srcaddr
ConnectPassed P (DataAck dst src acks) = P RUN dst src
ConnectPassed P (LinkService interrupt dst src rest) = P RUN dst src
ConnectPassed P (OtherDataAck dst src rest) = P RUN dst src
ConnectPassed P m = Unit {0}

module _ (P : Numbers) (queues : Queues) (s : WireLinks) (are : AreTied P queues s.links) where
  module _ (truth : LinkTruth (Unit {0})) where
    abbrev Shown : Row → Type 0
    Shown row = RowShows queues truth s (λ es. Now P queues) row

    calm : (row : Row) → IsCalmRow Any (IsCalm P queues) row → Shown row
    calm row is = calm_shows queues s (Now P queues) Any (IsCalm P queues) truth (keeps P queues s are truth) row is

    -- a called link gets an address
    addressed : (own : ℕ) (l : LinkOf WireSegments) → IsAddress own → l.port.opened ≡ false → has_run l.port.phase l.queue.ran ≡ false →
        Is P queues l → Is P queues (record l { port = record l.port { own = Some own } })
    addressed own l names called not is = record {
      by_call = is.by_call;
      by_answer = λ e o far f g. absurd cc;
      begun = is.begun;
      on_accept = is.on_accept;
      not_yet = is.not_yet;
      by_run = λ e r o far f g. absurd cc;
      address = λ o e. let this : own ≡ o = cc in subst IsAddress this names;
    }

    answered : (far own : ℕ) (phase : Phase) → IsAddress own → is_plain phase ≡ true → ((opened : Bool) → opened ≡ false → Begun phase opened) →
        (n : ℕ) (l : LinkOf WireSegments) → Found s (CalledBy far) n l →
        Is P queues (goes_to wire_segments queues phase (record l { port = record l.port { own = Some own } }))
    answered far own phase names plain begun n l found =
        let is = there P queues s are n l found.there in
        let phased = called_by far n l s found in
        let called : l.port.opened ≡ false = begun_in Called l.port.phase l.port.opened phased is.begun in
        goes_tied P queues queues phase (record l { port = record l.port { own = Some own } }) plain (begun l.port.opened called)
        (addressed own l names called (not_run l.port.phase l.queue.ran phased is.not_yet) is)

    user_shows : (event : LinkEventValue) → NamesOwn event → Shown (user_row event)
    user_shows (Open own) names = (
      tt,
      record {
        by_call = λ e far f. absurd cc;
        by_answer = λ e o far f g. absurd cc;
        begun = refl;
        on_accept = λ e. absurd cc;
        not_yet = λ e. refl;
        by_run = λ e r o far f g. absurd cc;
        address = λ o e. let this : own ≡ o = cc in subst IsAddress this names;
      },
    )
    user_shows (Accept far own) names =
        (tt, λ n l found. (tt, answered far own Confirming names refl (λ opened e. e) n l found))
    user_shows (Reject far own) names =
        (tt, λ n l found. (tt, answered far own Disconnecting names refl (λ opened e. tt) n l found))
    user_shows (Close own) names = calm (user_row (Close own)) (((refl, λ opened. tt), tt), (tt, (tt, tt)))
    user_shows event names = calm (user_row event) assumption

    -- ---- what comes

    connected : (far segsize : ℕ) → P CI 0 far →
        Is P queues (fold (does queues wire_segments truth) (blank queues wire_segments) (Connect far segsize ∷ []))
    connected far segsize came = record {
      by_call = λ e f g. let this : far ≡ f = cc in subst (P CI 0) this came;
      by_answer = λ e o f g h. absurd cc;
      begun = refl;
      on_accept = λ e. absurd cc;
      not_yet = λ e. refl;
      by_run = λ e r o f g h. absurd cc;
      address = λ o e. absurd cc;
    }

    -- a calling link is answered
    joined : (own far segsize : ℕ) (l : LinkOf WireSegments) → P CC own far → l.port.own ≡ Some own → l.port.opened ≡ true → Is P queues l →
        Is P queues (record l { port = record l.port { far = Some far }; partner = truth.tag.link; segsize = segsize })
    joined own far segsize l came at opened is = record {
      by_call = λ e f g. absurd cc;
      by_answer = λ e o f g h.
          let same_own : own ≡ o = cc in
          let same_far : far ≡ f = cc in
          subst (λ (x : ℕ). P CC x f) same_own (subst (P CC own) same_far came);
      begun = is.begun;
      on_accept = is.on_accept;
      not_yet = is.not_yet;
      by_run = λ e r o f g h. absurd cc;
      address = is.address;
    }

    confirmed : (own far segsize : ℕ) → P CC own far → (n : ℕ) (l : LinkOf WireSegments) → Found s (CallingAt own) n l →
        Is P queues (goes_to wire_segments queues Running
        (record l { port = record l.port { far = Some far }; partner = truth.tag.link; segsize = segsize }))
    confirmed own far segsize came n l found =
        let is = there P queues s are n l found.there in
        let calling = calling_at own n l s found in
        let opened : l.port.opened ≡ true = begun_in Calling l.port.phase l.port.opened calling.0 is.begun in
        runs_tied P queues queues (record l { port = record l.port { far = Some far }; partner = truth.tag.link; segsize = segsize }) (λ e. absurd cc)
        (joined own far segsize l came calling.1 opened is)

    acted : (own far : ℕ) (effects : List Effect) → AreCalm P queues effects → P RUN own far → (n : ℕ) (l : LinkOf WireSegments) →
        Found s (ActedOn own far) n l → Is P queues (fold (does queues wire_segments truth) l (GoTo Running ∷ effects))
    acted own far effects calm came n l found =
        let both = (acted_on own far n l s found).1 in
        all_tied P queues truth (goes_to wire_segments queues Running l) effects calm
        (runs_tied P queues queues l (passed_at l.port both.0 both.1) (there P queues s are n l found.there))
      where
        passed_at : (port : Port) → port.own ≡ Some own → port.far ≡ Some far → RunPassed P queues port
        passed_at port at to x o f g h =
            let same_own : own ≡ o = cc in
            let same_far : far ≡ f = cc in
            subst (λ (y : ℕ). P RUN y f) same_own (subst (P RUN own) same_far came)

    message_shows : (m : NspValue) → ConnectPassed P m → Shown (arrival_row m)
    message_shows (ConnectInitiate retransmitted src services info segsize user_data) came = (blank_tied P queues, connected src segsize came)
    message_shows (ConnectConfirm dst src services info segsize user_data) came = (blank_tied P queues, confirmed dst src segsize came)
    message_shows (DataSegment segment) came =
        (blank_tied P queues, acted segment.dstaddr segment.srcaddr (TakeSegment segment ∷ []) (tt, tt) came)
    message_shows (DataAck dst src acks) came = (blank_tied P queues, acted dst src (TakeAcks acks ∷ []) (tt, tt) came)
    message_shows (LinkService interrupt dst src rest) came = (blank_tied P queues, acted dst src [] tt came)
    message_shows (OtherDataAck dst src rest) came = (blank_tied P queues, acted dst src [] tt came)
    message_shows m came = calm (arrival_row m) assumption

  pub user_tied : (event : LinkEventValue) → NamesOwn event → Good (Are P queues) (wire_links_user queues s event)
  user_tied event names =
      user_kept queues s (Now P queues) (Are P queues) (all_keep P queues s are) event (user_shows (of_none queues wire_segments) event names)

  pub arrived_tied : (rule : PartnerRule) (packet : Carried) (tag : LinkTag) → ConnectPassed P packet.message →
      Good (Are P queues) (wire_links_arrived queues rule s packet tag)
  arrived_tied rule packet tag came =
      arrived_kept queues s (Now P queues) (Are P queues) (all_keep P queues s are) rule packet tag
      (message_shows (record { tag = tag; known = tt }) packet.message came)
