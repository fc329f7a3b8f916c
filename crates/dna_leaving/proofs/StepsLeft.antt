-- What is left of a step that sends no message of the links, and of one of the user.
use Rattle.dna_leaving.proofs.Prelude.{◌≡◌, ℕ, ◌+◌, ◌<◌, ◌≤◌, Bool, true, false, not, cond, ◌⊎◌, inl, inr, Option, Some, None, List, [], ◌∷◌, ◌++◌}
use Rattle.dna_leaving.proofs.Prelude.{map, length, Ok, refl, sym, ap, arith, slice_get, map-append, length-map, at_pushed, Queues, LinkEventValue}
use Rattle.dna_leaving.proofs.Prelude.{Numbers, Links, links_user, SentMessage, LinkSide, sends, keeps, ByUser, SendsNone, Passes, LinkRecord}
use Rattle.dna_leaving.proofs.Prelude.{OfUser, LeftOut, event_out, is_out, Judged, links_left, other_out, other_judged, message_left, side_left}
use Rattle.dna_leaving.proofs.Prelude.{events_left, AreBound}
use Rattle.dna_leaving.proofs.Units.{UnitRight}
use Rattle.dna_leaving.proofs.Sides.{SideRight, Follows, Stays, Does, follows_as, RecordRight, event_right}
use Rattle.dna_leaving.proofs.Sides.{left_is, unseen, mine_next, sent_before, theirs_next}

module _ (queues : Queues) (out : LeftOut) (judged : Judged) (own other : LinkSide) (mine : SideRight out judged own other)
    (theirs : SideRight (other_out out) (other_judged judged) other own) where
  abbrev own_size : ℕ
  own_size = length own.links.links

  abbrev other_size : ℕ
  other_size = length other.links.links

  abbrev own_left : LinkSide
  own_left = side_left out judged own

  abbrev other_left : LinkSide
  other_left = side_left (other_out out) (other_judged judged) other

  abbrev mapped : List (Option SentMessage) → List (Option SentMessage)
  mapped sent = map (message_left out judged) sent

  abbrev with_links : Links → LinkSide
  with_links links = record { links = links; sent = mapped own.sent; front = own.front }

  -- the link that a record begins has its mark
  abbrev AreMarked : LinkRecord Numbers → Links → Type 0
  AreMarked one left = (n : ℕ) → own_size ≤ n → n < length left.links → judged.here n ≡ not (is_out out one)

  pub record StepLeft (events : List LinkEventValue) (left : LinkSide) : Type 0 where
    pub here : SideRight out judged left other
    pub there : SideRight (other_out out) (other_judged judged) other left
    pub follows : Follows queues own_left other_left (events_left out events) (side_left out judged left)

  -- ---- no message of the links

  -- the links are as they were
  pub same_links : (sent : List (Option SentMessage)) (front : ℕ) →
      ((place : ℕ) (unit : SentMessage) → slice_get sent place ≡ Some (Some unit) → UnitRight out judged own_size other_size unit) →
      (events : List LinkEventValue) →
      Follows queues own_left other_left (events_left out events) (side_left out judged (record { links = own.links; sent = sent; front = front })) →
      StepLeft events (record { links = own.links; sent = sent; front = front })
  same_links sent front units events follows = record {
    here = record { fit = mine.fit; known = mine.known; sent = units };
    there = record { fit = theirs.fit; known = theirs.known; sent = theirs.sent };
    follows = follows;
  }

  pub sends_none : StepLeft [] (sends own own.links None)
  sends_none =
      same_links (own.sent ++ None ∷ []) own.front (λ place unit there. at place unit (at_pushed own.sent None (Some unit) place there)) []
      (follows_as [] (sends own_left own_left.links None) [] (side_left out judged (sends own own.links None)) refl
      (ap (λ (all : List (Option SentMessage)). record { links = own_left.links; sent = all; front = own.front })
      (sym (map-append (message_left out judged) own.sent (None ∷ []))))
      (Does SendsNone))
    where
      at : (place : ℕ) (unit : SentMessage) →
          (slice_get own.sent place ≡ Some (Some unit)) ⊎ ((place ≡ length own.sent) × (None ≡ Some unit)) →
          UnitRight out judged own_size other_size unit
      at place unit (inl there) = mine.sent place unit there
      at place unit (inr never) = let e = never.1 in absurd cc

  pub within_left : (place : ℕ) → place < length other.sent → place < length other_left.sent
  within_left place less = let e = length-map other.sent (message_left (other_out out) (other_judged judged)) in omega (arith, e, less)

  pub passes_left : (place : ℕ) → own.front ≤ place → place < length other.sent → StepLeft [] (keeps own own.links place)
  passes_left place after less =
      same_links own.sent (place + 1) mine.sent [] (Does (Passes place after (within_left place less)))

  -- ---- the user

  pub user_step_left : (event : LinkEventValue) (links : Links) → links_user queues own.links event ≡ Ok links → AreBound out (event ∷ []) →
      AreMarked (OfUser event) links → StepLeft (event ∷ []) (record { links = links; sent = own.sent; front = own.front })
  user_step_left event links e bound marks =
      let r = event_right queues out judged own other mine theirs event bound.0.0 bound.0.1 in
      record {
        here = mine_next queues out judged own other mine theirs (OfUser event) r links e marks own.sent own.front
            (sent_before queues out judged own other mine theirs (OfUser event) r links e marks);
        there = theirs_next queues out judged own other mine theirs (OfUser event) r links e marks own.sent own.front;
        follows = go r (event_out out event) refl;
      }
    where
      go : RecordRight queues out judged own other mine theirs (OfUser event) → (b : Bool) → event_out out event ≡ b →
          Follows queues own_left other_left (events_left out (event ∷ [])) (with_links (links_left judged links))
      go r true is =
          follows_as [] own_left (events_left out (event ∷ [])) (with_links (links_left judged links))
          (ap (λ (b : Bool). cond b [] (event ∷ [])) (sym is))
          (ap with_links (unseen queues out judged own other mine theirs (OfUser event) r links e marks is)) Stays
      go r false is =
          follows_as (event ∷ []) (with_links (links_left judged links)) (events_left out (event ∷ [])) (with_links (links_left judged links))
          (ap (λ (b : Bool). cond b [] (event ∷ [])) (sym is)) refl
          (Does (ByUser event (links_left judged links) (left_is queues out judged own other mine theirs (OfUser event) r links e marks is)))
