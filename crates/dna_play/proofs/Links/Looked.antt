-- What holds of what a look-up among the links of an end comes to: it holds where none is found, and of the one that is found. So what holds of the
-- links behind each change that a message may make holds behind the message.
use Rattle.dna_play.proofs.Prelude.{◌≡◌, ℕ, Bool, true, false, Option, Some, None, List, [], ◌∷◌, ◌++◌, refl, slice_get, slice_set, remove, AckWord}
use Rattle.dna_play.proofs.Prelude.{NspValue, DataSegment, LinkService, DataAck, OtherDataAck, ConnectAck, NoOperation, ConnectInitiate}
use Rattle.dna_play.proofs.Prelude.{ConnectConfirm, DisconnectInitiate, DisconnectConfirm, Phase, Called, Confirming, LinkTest, ActedOn, CallingAt}
use Rattle.dna_play.proofs.Prelude.{LiveTo, TheLink, is_running, passes, acknowledged_by_all, LinkEnd, StoredLinks, acts, at_place, called}
use Rattle.dna_play.proofs.Prelude.{called_again, confirm_came, confirmed_again, confirming, message_came, no_more, on_end, place_of, took_acks}
use Rattle.dna_play.proofs.Prelude.{with_end, position_passes}
use Rattle.dna_play.specs.StoredLinks.{acted_on, changed, confirmed}
use Rattle.dna_play.specs.StoredLinks.{ended, ends_link}

pub looked : {R : Type 0} (P : R → Type 0) (test : LinkTest) (s : StoredLinks) (otherwise : R) (next : ℕ → LinkEnd → R) → P otherwise →
    ((place : ℕ) (link : LinkEnd) → slice_get s.links place ≡ Some link → passes test link.port ≡ true → P (next place link)) →
    P (with_end test s otherwise next)
looked {R} P test s otherwise next none some = go (place_of test s.links) refl
  where
    at : (place : ℕ) (o : Option LinkEnd) → place_of test s.links ≡ Some place → slice_get s.links place ≡ o → P (on_end place o otherwise next)
    at place None found e = none
    at place (Some link) found e = some place link e (position_passes (λ (l : LinkEnd). passes test l.port) s.links place link found e)

    go : (o : Option ℕ) → place_of test s.links ≡ o → P (at_place s.links o otherwise next)
    go None e = none
    go (Some place) e = at place (slice_get s.links place) e refl

-- ---- a message comes

-- A link is called, or one ends; or one changes, whose own address stays, and of whose segments some may be acknowledged
module _ (P : List LinkEnd → Type 0) (s : StoredLinks) (stay : P s.links) (more : (far : ℕ) → P (s.links ++ called far ∷ []))
    (fewer : (place : ℕ) → P (remove s.links place))
    (turn : (place : ℕ) (link after : LinkEnd) → slice_get s.links place ≡ Some link → (words : List AckWord) → after.port.own ≡ link.port.own →
    after.variables ≡ acknowledged_by_all words link.variables → P (slice_set s.links place after)) where
  abbrev Holds : StoredLinks → Type 0
  Holds after = P after.links

  again : (phase : Phase) (place : ℕ) (link : LinkEnd) → slice_get s.links place ≡ Some link → Holds (changed place (called_again phase link) s)
  again Called place link at = turn place link (called_again Called link) at [] refl refl
  again Confirming place link at = turn place link (called_again Confirming link) at [] refl refl
  again phase place link at = turn place link link at [] refl refl

  running : (b : Bool) (place : ℕ) (link : LinkEnd) → slice_get s.links place ≡ Some link → Holds (changed place (confirmed_again b link) s)
  running true place link at = turn place link (confirmed_again true link) at [] refl refl
  running false place link at = turn place link link at [] refl refl

  confirms : (own far : ℕ) → Holds (confirm_came own far s)
  confirms own far = looked Holds (CallingAt own) s _ (λ place link. changed place (confirmed far link) s)
      (looked Holds (TheLink own far) s s (λ place link. changed place (confirmed_again (is_running link.port.phase) link) s) stay
      (λ place link at passed. running (is_running link.port.phase) place link at))
      (λ place link at passed. turn place link (confirmed far link) at [] refl refl)

  -- a DC may be owed then
  ends : (own far : ℕ) (otherwise : StoredLinks) (then_owes : StoredLinks → StoredLinks) → Holds otherwise →
      ((place : ℕ) → Holds (then_owes (ended place s))) → Holds (ends_link own far otherwise then_owes s)
  ends own far otherwise then_owes none one = looked Holds (TheLink own far) s _ (λ place link. then_owes (ended place s))
      (looked Holds (CallingAt own) s otherwise (λ place link. then_owes (ended place s)) none (λ place link at passed. one place))
      (λ place link at passed. one place)

  acted : (own far : ℕ) (change : LinkEnd → LinkEnd) (words : List AckWord) → ((link : LinkEnd) → (change link).port.own ≡ link.port.own) →
      ((link : LinkEnd) → (change link).variables ≡ acknowledged_by_all words link.variables) → Holds (acts own far change s)
  acted own far change words own_stays took = looked Holds (ActedOn own far) s s (λ place link. changed place (change link) s) stay
      (λ place link at passed. turn place link (change link) at words (own_stays link) (took link))

  pub came : (m : NspValue) → Holds (message_came m s)
  came (ConnectInitiate retransmitted src services info segsize user_data) =
      looked Holds (LiveTo src) s _ (λ place link. changed place (called_again link.port.phase link) s) (more src)
      (λ place link at passed. again link.port.phase place link at)
  came (ConnectAck dst) = stay
  came (NoOperation rest) = stay
  came (ConnectConfirm dst src services info segsize user_data) = confirms dst src
  came (DisconnectInitiate dst src reason user_data) = ends dst src (confirming src dst 41 s) (confirming src dst 42) stay fewer
  came (DisconnectConfirm dst src reason) = ends dst src s no_more stay fewer
  came (DataAck dst src acks) = acted dst src (took_acks acks) acks (λ link. refl) (λ link. refl)
  came (LinkService interrupt dst src rest) = acted dst src (λ link. acted_on link.variables link) [] (λ link. refl) (λ link. refl)
  came (OtherDataAck dst src rest) = acted dst src (λ link. acted_on link.variables link) [] (λ link. refl) (λ link. refl)
  came (DataSegment segment) = stay
