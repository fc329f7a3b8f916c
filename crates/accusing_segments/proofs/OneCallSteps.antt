-- What the user does and what comes keeps it that one link alone has these addresses; a CI or a CC by which one gets them is the first.
use Rattle.accusing_segments.proofs.Prelude.{◌≡◌, ℕ, true, false, Option, Some, None, List, refl, sym, ap, subst, ◌∙◌, ◌⊎◌, inl, inr}
use Rattle.accusing_segments.proofs.Prelude.{slice_get, and_parts, NspValue, DataSegment, LinkService, DataAck, OtherDataAck, ConnectInitiate}
use Rattle.accusing_segments.proofs.Prelude.{ConnectConfirm, DisconnectInitiate, DisconnectConfirm, IsInRange, Phase, Calling, Called, Confirming}
use Rattle.accusing_segments.proofs.Prelude.{Running, Disconnecting, TheLink, LiveAt, CallingAt, Queues, LinkTag, is_live, is_in}
use Rattle.accusing_segments.proofs.Prelude.{is_connected, LinkOf, LinkTruth, Carried, with_segments, goes_to, ends_by_message, Row, user_row}
use Rattle.accusing_segments.proofs.Prelude.{arrival_row, LinkEventValue, Open, Accept, Reject, Close, Abort, WireSegments, wire_segments}
use Rattle.accusing_segments.proofs.Prelude.{takes_segment, takes_acks, WireLinks, wire_links_user, wire_links_arrived, blank, of_none, PartnerRule}
use Rattle.accusing_segments.proofs.Prelude.{Good, each_at, Found, IsInUse, either_there, in_live, connected_live, acted_on, called_by, calling_at}
use Rattle.accusing_segments.proofs.Prelude.{ends_live, RowShows, IsCalmRow, calm_shows, user_kept, arrived_kept, is_early, goes_own, goes_far}
use Rattle.accusing_segments.proofs.Prelude.{goes_live, called_early}
use Rattle.dna_links.specs.LookUps.{is_at}
use Rattle.accusing_segments.proofs.{Gave.Gave, LinkRows.IsQuiet, LinkSteps.HasCome}
use Rattle.accusing_segments.proofs.SentPieces.{Shown, Fits, acks_fit, segment_fits}
use Rattle.accusing_segments.proofs.RightLinks.{Links, IsLinkRight, goes_right, AreRight}
use Rattle.accusing_segments.proofs.EachLink.{IsPlain, IsAt, All, keeps, all_keep}
use Rattle.accusing_segments.proofs.OneCall.{used_live, IsDead, fresh_small, IsMine, none_mine, stays}
use Rattle.accusing_segments.proofs.OneCall.{goes_mine, ended_mine, dropped_mine}
use Rattle.accusing_segments.proofs.Used.{found_used, not_live, late_not_called}

-- a CI or a CC by which a link gets these addresses
abbrev pub IsCall : (own far : ℕ) → NspValue → Type 0
IsCall own far (ConnectInitiate retransmitted src services info segsize user_data) = src ≡ far
IsCall own far (ConnectConfirm dst src services info segsize user_data) = (dst ≡ own) × (src ≡ far)
IsCall own far m = ⊥

module _ (queues : Queues) (own far : ℕ) (S : Shown) (Qs : Links) where
  abbrev Mine : Option ℕ → ℕ → LinkOf WireSegments → Type 0
  Mine one n l = IsMine queues own far S (Qs own far) one n l

  abbrev pub AllMine : Option ℕ → List (LinkOf WireSegments) → Type 0
  AllMine one links = All queues (Mine one) links

  -- the first call may be of any link
  pub from_none : (i : ℕ) (links : List (LinkOf WireSegments)) → AllMine None links → AllMine (Some i) links
  from_none i links are n l at =
      let is = are n l at in
      record { called = λ f c. let none = (is.called f c).0 in absurd cc; able = λ f o. let none = (is.able f o).0 in absurd cc }

  module _ (s : WireLinks) (old : AreRight Qs queues s.links) where
    right : (n : ℕ) (l : LinkOf WireSegments) → slice_get s.links n ≡ Some l → IsLinkRight Qs l
    right n l at = each_at (IsLinkRight Qs) s.links n l old at

    -- a link that gave nothing, where nothing was sent
    pub nothing_sent : (l : LinkOf WireSegments) → IsLinkRight Qs l → is_early l.port.phase ≡ true → ((n : ℕ) (p : _) → S n p → ⊥) →
        Fits S (Qs own far).word l.segments
    nothing_sent l is early none = record { small = fresh_small l.segments (is.early early).gave; each = λ n p sent. absurd (none n p sent) }

    module _ (one : Option ℕ) (are : AllMine one s.links) where
      abbrev Are : WireLinks → Type 0
      Are x = AllMine one x.links

      module _ (truth : LinkTruth (Unit {0})) where
        abbrev Asked : Row → Type 0
        Asked row = RowShows queues truth s (λ es. IsAt queues (Mine one)) row

        calm : (row : Row) → IsCalmRow IsQuiet IsPlain row → Asked row
        calm row is =
            calm_shows queues s (IsAt queues (Mine one)) IsQuiet IsPlain truth
            (keeps queues (Mine one) (stays queues own far S (Qs own far) one) s are truth) row is

        none : IsAt queues (Mine one) None (blank queues wire_segments)
        none n = none_mine queues own far S (Qs own far) one n (blank queues wire_segments) (λ f. absurd cc)

        -- a called link is answered
        answered : (at n : ℕ) (phase : Phase) (l : LinkOf WireSegments) → is_early phase ≡ false → is_in Called l.port.phase ≡ true →
            IsLinkRight Qs l → Mine one n l →
            Mine one n (goes_to wire_segments queues phase (record l { port = record l.port { own = Some at } }))
        answered at n phase l late called right is =
            let x : LinkOf WireSegments = record l { port = record l.port { own = Some at } } in
            let live = in_live Called l.port.phase called refl in
            let went = goes_live queues phase x live in
            record {
              called = λ f c.
                  let was = late_not_called phase late in
                  let now : is_in Called phase ≡ true = sym (ap (λ (p : Phase). is_in Called p) went.0) ∙ c in
                  absurd cc;
              able = λ f o.
                  let all = is.called (sym (goes_far queues phase x) ∙ f) called in (
                    all.0,
                    inr (subst (Fits S (Qs own far).word) (sym went.1)
                        (nothing_sent l right (called_early l.port.phase called) all.1)),
                  );
            }

        found_live : (at n : ℕ) (l : LinkOf WireSegments) (used : IsInUse queues s (LiveAt at) n l) → is_live used.port.phase ≡ true
        found_live at n l used = (and_parts (is_live used.port.phase) (is_at used.port.own at) used.passes).0

        user_shows : (event : LinkEventValue) → Asked (user_row event)
        user_shows (Open at) = (tt, λ n. none_mine queues own far S (Qs own far) one n _ (λ f. absurd cc))
        user_shows (Accept from at) = (
          tt,
          λ n l found. (
            tt,
            answered at n Confirming l refl (called_by from n l s found) (right n l found.there) (are n l found.there),
          ),
        )
        user_shows (Reject from at) = (
          tt,
          λ n l found. (
            tt,
            answered at n Disconnecting l refl (called_by from n l s found) (right n l found.there) (are n l found.there),
          ),
        )
        user_shows (Close at) = λ n l used e. goes_mine queues own far S (Qs own far) one n Disconnecting l refl
            (found_used queues s (LiveAt at) n l used (found_live at n l used)) (are n l used.there)
        user_shows (Abort at) = λ n l used e. dropped_mine queues own far S (Qs own far) one n l
            (found_used queues s (LiveAt at) n l used (found_live at n l used)) (are n l used.there)
        user_shows event = calm (user_row event) assumption

        -- ---- what comes, and is no call

        confirmed : (dst src segsize : ℕ) → ((dst ≡ own) × (src ≡ far) → ⊥) → (n : ℕ) (l : LinkOf WireSegments) →
            is_in Calling l.port.phase ≡ true → l.port.own ≡ Some dst →
            Mine one n (goes_to wire_segments queues Running
            (record l { port = record l.port { far = Some src }; partner = truth.tag.link; segsize = segsize }))
        confirmed dst src segsize other n l calling at =
            let x : LinkOf WireSegments = record l { port = record l.port { far = Some src }; partner = truth.tag.link; segsize = segsize } in
            let went = goes_live queues Running x (in_live Calling l.port.phase calling refl) in
            record {
              called = λ f c. let now : is_in Called Running ≡ true = sym (ap (λ (p : Phase). is_in Called p) went.0) ∙ c in absurd cc;
              able = λ f o.
                  let has_far : ◌≡◌ {A = Option ℕ} (Some src) (Some far) = sym (goes_far queues Running x) ∙ f in
                  let has_own : ◌≡◌ {A = Option ℕ} (Some dst) (Some own) = sym at ∙ (sym (goes_own queues Running x) ∙ o) in
                  let same_far : src ≡ far = cc in
                  let same_own : dst ≡ own = cc in
                  absurd (other (same_own, same_far));
            }

        -- a link in Confirming or RUN acts on it
        in_run : (n : ℕ) (l : LinkOf WireSegments) → is_connected l.port.phase ≡ true → slice_get s.links n ≡ Some l →
            Mine one n (goes_to wire_segments queues Running l)
        in_run n l connected at =
            goes_mine queues own far S (Qs own far) one n Running l refl (used_live queues l (connected_live l.port.phase connected)) (are n l at)

        module _ (at from : ℕ) (takes : WireSegments → WireSegments)
            (fits : (f : WireSegments) → Gave (Qs at from) f → Fits S (Qs at from).word f → Fits S (Qs at from).word (takes f)) where
          taken : (n : ℕ) (l : LinkOf WireSegments) → is_connected l.port.phase ≡ true → l.port.own ≡ Some at → l.port.far ≡ Some from →
              slice_get s.links n ≡ Some l →
              Mine one n (with_segments (takes (goes_to wire_segments queues Running l).segments) (goes_to wire_segments queues Running l))
          taken n l connected has_own has_far there =
              record { called = (in_run n l connected there).called; able = able }
            where
              x : LinkOf WireSegments
              x = goes_to wire_segments queues Running l

              live : is_live l.port.phase ≡ true
              live = connected_live l.port.phase connected

              gave : Gave (Qs at from) x.segments
              gave = (goes_right Qs queues queues Running l refl (right n l there)).both at from (goes_own queues Running l ∙ has_own)
                  (goes_far queues Running l ∙ has_far)

              fit : IsDead queues l ⊎ Fits S (Qs own far).word l.segments → Fits S (Qs own far).word x.segments
              fit (inr fits) = subst (Fits S (Qs own far).word) (sym (goes_live queues Running l live).1) fits
              fit (inl dead) = absurd (not_live queues l live dead)

              able : x.port.far ≡ Some far → x.port.own ≡ Some own →
                  (Some n ≡ one) × (IsDead queues (with_segments (takes x.segments) x) ⊎ Fits S (Qs own far).word (takes x.segments))
              able f o =
                  let was = (are n l there).able (sym (goes_far queues Running l) ∙ f) (sym (goes_own queues Running l) ∙ o) in
                  let has_far_2 : ◌≡◌ {A = Option ℕ} (Some from) (Some far) = sym has_far ∙ (sym (goes_far queues Running l) ∙ f) in
                  let has_own_2 : ◌≡◌ {A = Option ℕ} (Some at) (Some own) = sym has_own ∙ (sym (goes_own queues Running l) ∙ o) in
                  let same_far : from ≡ far = cc in
                  let same_own : at ≡ own = cc in (
                    was.0,
                    inr (
                        subst (λ (y : ℕ). Fits S (Qs own y).word (takes x.segments)) same_far
                        (subst (λ (y : ℕ). Fits S (Qs y from).word (takes x.segments)) same_own (fits x.segments gave
                        (subst (λ (y : ℕ). Fits S (Qs at y).word x.segments) (sym same_far)
                        (subst (λ (y : ℕ). Fits S (Qs y far).word x.segments) (sym same_own) (fit was.1)))))),
                  )

        ended : (at from n : ℕ) (l : LinkOf WireSegments) → Found s (TheLink at from) n l ⊎ Found s (CallingAt at) n l →
            IsMine queues own far S (Qs own far) one n (ends_by_message wire_segments queues l)
        ended at from n l found =
            ended_mine queues own far S (Qs own far) one n l (ends_live at n l s from found)
            (are n l (either_there s (TheLink at from) (CallingAt at) n l found))

        message_shows : (m : NspValue) → IsInRange m → HasCome Qs m → (IsCall own far m → ⊥) → Asked (arrival_row m)
        message_shows (DataSegment segment) small came other = (
          none,
          λ n l found.
              let acts = acted_on segment.dstaddr segment.srcaddr n l s found in
              taken segment.dstaddr segment.srcaddr (takes_segment segment tt)
              (λ f gave is. segment_fits S (Qs segment.dstaddr segment.srcaddr) segment f small.0 came gave is) n l acts.0 acts.1.0 acts.1.1
              found.there,
        )
        message_shows (DataAck dst src acks) small came other = (
          none,
          λ n l found.
              let acts = acted_on dst src n l s found in
              taken dst src (takes_acks acks tt) (λ f gave is. acks_fit S (Qs dst src) acks f small.0 came gave is) n l acts.0 acts.1.0 acts.1.1
              found.there,
        )
        message_shows (LinkService interrupt dst src rest) small came other =
            (none, λ n l found. in_run n l (acted_on dst src n l s found).0 found.there)
        message_shows (OtherDataAck dst src rest) small came other =
            (none, λ n l found. in_run n l (acted_on dst src n l s found).0 found.there)
        message_shows (ConnectInitiate retransmitted src services info segsize user_data) small came other = (
          none,
          λ n.
              none_mine queues own far S (Qs own far) one n _ (λ f. let same_far : src ≡ far = cc in other same_far),
        )
        message_shows (ConnectConfirm dst src services info segsize user_data) small came other = (
          none,
          λ n l found.
              let calling = calling_at dst n l s found in confirmed dst src segsize other n l calling.0 calling.1,
        )
        message_shows (DisconnectInitiate dst src reason user_data) small came other = (none, ended dst src)
        message_shows (DisconnectConfirm dst src reason) small came other = (none, ended dst src)
        message_shows m small came other = calm (arrival_row m) assumption

      pub user_mine : (event : LinkEventValue) → Good Are (wire_links_user queues s event)
      user_mine event =
          user_kept queues s (IsAt queues (Mine one)) Are (all_keep queues (Mine one) (stays queues own far S (Qs own far) one) s are) event
          (user_shows (of_none queues wire_segments) event)

      pub other_arrived : (rule : PartnerRule) (packet : Carried) (tag : LinkTag) → IsInRange packet.message → HasCome Qs packet.message →
          (IsCall own far packet.message → ⊥) → Good Are (wire_links_arrived queues rule s packet tag)
      other_arrived rule packet tag small came other =
          arrived_kept queues s (IsAt queues (Mine one)) Are (all_keep queues (Mine one) (stays queues own far S (Qs own far) one) s are) rule packet
          tag (message_shows (record { tag = tag; known = tt }) packet.message small came other)
