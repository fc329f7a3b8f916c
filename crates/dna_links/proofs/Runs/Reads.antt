-- What was handed in and delivered is what the user's records say, at any time.
use Rattle.std.proofs.Common.{◌≡◌, ℕ, zero, suc, ◌<◌, Bool, true, false, ◌||◌, cond, ◌⊎◌, inl, inr, Option, Some, None, List, [], ◌∷◌, ◌++◌, length}
use Rattle.std.proofs.Common.{refl, sym, ap, ap₂, ◌∙◌, subst, arith, append-nil, append_assoc, eqb-true, eq-eqb}
use Rattle.std.specs.Prelude.{slice_get}
use Rattle.std.proofs.lemmas.Option.{same_Some}
use Rattle.two_nodes.proofs.Order.{slice_get-append}
use Rattle.dna_links.specs.LookUps.{is_at, is_live, is_called}
use Rattle.dna_links.specs.Links.{LinkOf}
use Rattle.dna_links.specs.User.{LinkEventValue, Open, Accept, Reject, In, Up, Close, Abort, Boot}
use Rattle.dna_links.specs.inner.Forms.{called}
use Rattle.dna_links.specs.TrueSegments.{TrueSegments}
use Rattle.dna_links.specs.Captures.{given_address, gives_address, message_in, message_up, until_given, handed_in, delivered_up, behind, IsReadFrom}
use Rattle.dna_links.specs.Captures.{IsRead}

-- ---- lists of events

-- whether the address is given again
abbrev pub given_again : ℕ → List LinkEventValue → Bool
given_again own [] = false
given_again own (event ∷ events) = gives_address own event || given_again own events

again-append : (own : ℕ) (events : List LinkEventValue) (event : LinkEventValue) →
    given_again own (events ++ event ∷ []) ≡ (given_again own events || gives_address own event)
again-append own [] event = go (gives_address own event)
  where
    go : (b : Bool) → (b || false) ≡ (false || b)
    go true = refl
    go false = refl
again-append own (first ∷ events) event = go (gives_address own first) (again-append own events event)
  where
    go : (b : Bool) → given_again own (events ++ event ∷ []) ≡ (given_again own events || gives_address own event) →
        (b || given_again own (events ++ event ∷ [])) ≡ ((b || given_again own events) || gives_address own event)
    go true e = refl
    go false e = e

-- nothing is read behind an event that gives the address again
until-again : (own : ℕ) (message : LinkEventValue → List (List ℕ)) (events : List LinkEventValue) (event : LinkEventValue) →
    given_again own events ≡ true → until_given own message (events ++ event ∷ []) ≡ until_given own message events
until-again own message [] event again = absurd cc
until-again own message (first ∷ events) event again = go (gives_address own first) again (until-again own message events event)
  where
    go : (b : Bool) → (b || given_again own events) ≡ true →
        (given_again own events ≡ true → until_given own message (events ++ event ∷ []) ≡ until_given own message events) →
        cond b [] (message first ++ until_given own message (events ++ event ∷ [])) ≡ cond b [] (message first ++ until_given own message events)
    go true again e = refl
    go false again e = ap (λ (x : List (List ℕ)). message first ++ x) (e again)

until-more : (own : ℕ) (message : LinkEventValue → List (List ℕ)) (events : List LinkEventValue) (event : LinkEventValue) →
    given_again own events ≡ false → (gives_address own event ≡ true → message event ≡ []) →
    until_given own message (events ++ event ∷ []) ≡ until_given own message events ++ message event
until-more own message [] event again none = go (gives_address own event) none
  where
    go : (b : Bool) → (b ≡ true → message event ≡ []) → cond b [] (message event ++ []) ≡ message event
    go true none = sym (none refl)
    go false none = append-nil (message event)
until-more own message (first ∷ events) event again none = go (gives_address own first) again (λ a. until-more own message events event a none)
  where
    go : (b : Bool) → (b || given_again own events) ≡ false →
        (given_again own events ≡ false → until_given own message (events ++ event ∷ []) ≡ until_given own message events ++ message event) →
        cond b [] (message first ++ until_given own message (events ++ event ∷ [])) ≡ cond b [] (message first ++ until_given own message events) ++
        message event
    go true again e = absurd cc
    go false again e = ap (λ (x : List (List ℕ)). message first ++ x) (e again) ∙
        sym (append_assoc (message first) (until_given own message events) (message event))

-- an event that gives an address carries no message
gives_none : (own : ℕ) (event : LinkEventValue) → gives_address own event ≡ true → (message_in own event ≡ []) × (message_up own event ≡ [])
gives_none own (Open link) e = (refl, refl)
gives_none own (Accept far link) e = (refl, refl)
gives_none own (Reject far link) e = (refl, refl)
gives_none own (Close link) e = (refl, refl)
gives_none own (Abort link) e = (refl, refl)
gives_none own Boot e = (refl, refl)
gives_none own (In link message) e = absurd cc
gives_none own (Up link message) e = absurd cc

behind-append : (place : ℕ) (events : List LinkEventValue) (event found : LinkEventValue) → slice_get events place ≡ Some found →
    behind place (events ++ event ∷ []) ≡ behind place events ++ event ∷ []
behind-append place [] event found at = absurd cc
behind-append zero (first ∷ events) event found at = refl
behind-append (suc place) (first ∷ events) event found at = behind-append place events event found at

pub behind_last : (events : List LinkEventValue) (event : LinkEventValue) → behind (length events) (events ++ event ∷ []) ≡ []
behind_last [] event = refl
behind_last (first ∷ events) event = behind_last events event

-- a later event that gives the address gives it again
pub later_gives : (own : ℕ) (events : List LinkEventValue) (place later : ℕ) (event : LinkEventValue) → place < later →
    slice_get events later ≡ Some event → gives_address own event ≡ true → given_again own (behind place events) ≡ true
later_gives own [] place later event less at gives = absurd cc
later_gives own (first ∷ events) place zero event less at gives = absurd (omega arith)
later_gives own (first ∷ events) zero (suc later) event less at gives = among events later at
  where
    or_right : (b c : Bool) → c ≡ true → (b || c) ≡ true
    or_right true c e = refl
    or_right false c e = e

    or_first : (b c : Bool) → b ≡ true → (b || c) ≡ true
    or_first true c e = refl
    or_first false c e = absurd cc

    among : (events : List LinkEventValue) (n : ℕ) → slice_get events n ≡ Some event → given_again own events ≡ true
    among [] n at = absurd cc
    among (x ∷ events) zero at = let same : x ≡ event = same_Some x event at in or_first _ _ (ap (gives_address own) same ∙ gives)
    among (x ∷ events) (suc n) at = or_right _ _ (among events n at)
later_gives own (first ∷ events) (suc place) (suc later) event less at gives = later_gives own events place later event (omega arith) at gives

-- ---- one link

-- it has the address that the event at this place gave it, until that is given again; or it has lost it
pub record HoldsFrom (events : List LinkEventValue) (own : Option ℕ) (place : ℕ) : Type 0 where
  pub address : ℕ
  pub event : LinkEventValue
  pub there : slice_get events place ≡ Some event
  pub gives : given_address event ≡ Some address
  pub holds : ((own ≡ Some address) × (given_again address (behind place events) ≡ false)) ⊎ (own ≡ None)

abbrev pub HoldsAt : List LinkEventValue → Option ℕ → Option ℕ → Type 0
HoldsAt events own None = own ≡ None
HoldsAt events own (Some place) = HoldsFrom events own place

pub record IsOwned (events : List LinkEventValue) (place : Option ℕ) (l : LinkOf TrueSegments) : Type 0 where
  pub read : IsRead events l place
  pub holds : HoldsAt events l.port.own place
  pub called : is_called l.port.phase ≡ true → place ≡ None
  -- nothing has come while a live link has no address
  pub fresh : is_live l.port.phase ≡ true → l.port.own ≡ None → l.segments.received ≡ []

-- a link with the same address and messages
pub owned_same : (events : List LinkEventValue) (place : Option ℕ) (l m : LinkOf TrueSegments) → m.port.own ≡ l.port.own →
    m.segments.handed ≡ l.segments.handed →
    m.segments.delivered ≡ l.segments.delivered → (is_called m.port.phase ≡ true → is_called l.port.phase ≡ true) →
    (is_live m.port.phase ≡ true → m.port.own ≡ None → m.segments.received ≡ []) → IsOwned events place l → IsOwned events place m
owned_same events place l m own handed up is_called fresh o = record {
  read = read place o.read;
  holds = subst (λ (x : Option ℕ). HoldsAt events x place) (sym own) o.holds;
  called = λ c. o.called (is_called c);
  fresh = fresh;
}
  where
    read : (place : Option ℕ) → IsRead events l place → IsRead events m place
    read None r = record { handed = handed ∙ r.handed; up = up ∙ r.up }
    read (Some k) r = record { event = r.event; there = r.there; own = r.own; gives = r.gives; handed = handed ∙ r.handed; up = up ∙ r.up }

pub gives_is : (own : ℕ) (event : LinkEventValue) → given_address event ≡ Some own → gives_address own event ≡ true
gives_is own event e = ap (λ (x : Option ℕ). is_at x own) e ∙ eq-eqb own own refl

pub at_is : (o : Option ℕ) (own : ℕ) → is_at o own ≡ true → o ≡ Some own
at_is None own e = absurd cc
at_is (Some n) own e = ap Some (eqb-true n own e)

-- what an event does to a link: it hands in or delivers there, and the link keeps its address or loses it
module _ (events : List LinkEventValue) (event : LinkEventValue) (l m : LinkOf TrueSegments) where
  -- the link takes the messages of this address
  pub record Takes (address : ℕ) : Type 0 where
    pub handed : m.segments.handed ≡ l.segments.handed ++ message_in address event
    pub up : m.segments.delivered ≡ l.segments.delivered ++ message_up address event
    pub own : ((m.port.own ≡ Some address) × (gives_address address event ≡ false)) ⊎ (m.port.own ≡ None)

  -- it has no message for this address
  abbrev pub HasNone : ℕ → Type 0
  HasNone address = (message_in address event ≡ []) × (message_up address event ≡ [])

  -- it is as it was
  pub record IsAsBefore : Type 0 where
    pub handed : m.segments.handed ≡ l.segments.handed
    pub up : m.segments.delivered ≡ l.segments.delivered
    pub own : m.port.own ≡ l.port.own

  module _ (place : ℕ) (r : IsReadFrom events l place) (h : HoldsFrom events l.port.own place) where
    address_is : r.own ≡ h.address
    address_is = same_Some r.own h.address (sym r.gives ∙ ap given_address (same_Some r.event h.event (sym r.there ∙ h.there)) ∙ h.gives)

    there_then : slice_get (events ++ event ∷ []) place ≡ Some r.event
    there_then = slice_get-append events (event ∷ []) place r.event r.there

    still : behind place (events ++ event ∷ []) ≡ behind place events ++ event ∷ []
    still = behind-append place events event r.event r.there

    abbrev Both : Type 0
    Both = IsReadFrom (events ++ event ∷ []) m place × HoldsFrom (events ++ event ∷ []) m.port.own place

    -- once its address is given again, or where the event has no message for that, nothing more is read
    no_more : (message : LinkEventValue → List (List ℕ)) → (given_again r.own (behind place events) ≡ false → message event ≡ []) →
        until_given r.own message (behind place (events ++ event ∷ [])) ≡ until_given r.own message (behind place events)
    no_more message none = ap (until_given r.own message) still ∙ go (given_again r.own (behind place events)) refl
      where
        go : (b : Bool) → given_again r.own (behind place events) ≡ b →
            until_given r.own message (behind place events ++ event ∷ []) ≡ until_given r.own message (behind place events)
        go true again = until-again r.own message (behind place events) event again
        go false again =
            until-more r.own message (behind place events) event again (λ gives. none again)
            ∙ ap (λ (x : List (List ℕ)). until_given r.own message (behind place events) ++ x) (none again)
            ∙ append-nil (until_given r.own message (behind place events))

    lost_more : (given_again h.address (behind place events) ≡ false → HasNone h.address) → IsAsBefore → l.port.own ≡ None → Both
    lost_more silent b none =
        let now : given_again r.own (behind place events) ≡ false → HasNone r.own =
        subst (λ (n : ℕ). given_again n (behind place events) ≡ false → HasNone n) (sym address_is) silent in (
          record {
            event = r.event;
            there = there_then;
            own = r.own;
            gives = r.gives;
            handed = b.handed ∙ r.handed ∙ sym (no_more (message_in r.own) (λ again. (now again).0));
            up = b.up ∙ r.up ∙ sym (no_more (message_up r.own) (λ again. (now again).1));
          },
          record {
            address = h.address;
            event = h.event;
            there = slice_get-append events (event ∷ []) place h.event h.there;
            gives = h.gives;
            holds = inr (b.own ∙ none);
          },
        )

    held_more : given_again h.address (behind place events) ≡ false → Takes h.address → Both
    held_more again t =
        let not_again : given_again r.own (behind place events) ≡ false = ap (λ (n : ℕ). given_again n (behind place events)) address_is ∙ again in (
          record {
            event = r.event;
            there = there_then;
            own = r.own;
            gives = r.gives;
            handed = t.handed ∙ ap₂ (λ (x : List (List ℕ)) (n : ℕ). x ++ message_in n event) r.handed (sym address_is) ∙
                sym (ap (handed_in r.own) still ∙ until-more r.own (message_in r.own) (behind place events) event not_again
                (λ g. (gives_none r.own event g).0));
            up = t.up ∙ ap₂ (λ (x : List (List ℕ)) (n : ℕ). x ++ message_up n event) r.up (sym address_is) ∙
                sym (ap (delivered_up r.own) still ∙ until-more r.own (message_up r.own) (behind place events) event not_again
                (λ g. (gives_none r.own event g).1));
          },
          record {
            address = h.address;
            event = h.event;
            there = slice_get-append events (event ∷ []) place h.event h.there;
            gives = h.gives;
            holds = go t.own;
          },
        )
      where
        again_now : given_again h.address (behind place (events ++ event ∷ [])) ≡ gives_address h.address event
        again_now = ap (given_again h.address) still ∙ again-append h.address (behind place events) event ∙
            ap (λ (x : Bool). x || gives_address h.address event) again

        go : ((m.port.own ≡ Some h.address) × (gives_address h.address event ≡ false)) ⊎ (m.port.own ≡ None) →
            ((m.port.own ≡ Some h.address) × (given_again h.address (behind place (events ++ event ∷ [])) ≡ false)) ⊎ (m.port.own ≡ None)
        go (inl p) = inl (p.0, again_now ∙ p.1)
        go (inr none) = inr none

  -- with its place or without
  pub owned_more : (place : Option ℕ) → IsOwned events place l → (l.port.own ≡ None → IsAsBefore) →
      ((k : ℕ) (h : HoldsFrom events l.port.own k) → place ≡ Some k → l.port.own ≡ None → given_again h.address (behind k events) ≡ false →
      HasNone h.address) →
      ((address : ℕ) → l.port.own ≡ Some address → Takes address) → (is_called m.port.phase ≡ true → is_called l.port.phase ≡ true) →
      (is_live m.port.phase ≡ true → m.port.own ≡ None → m.segments.received ≡ []) → IsOwned (events ++ event ∷ []) place m
  owned_more place o before silent takes called fresh = go place refl o.read o.holds o.called
    where
      go : (now : Option ℕ) → place ≡ now → IsRead events l now → HoldsAt events l.port.own now → (is_called l.port.phase ≡ true → now ≡ None) →
          IsOwned (events ++ event ∷ []) now m
      go None is r h c = let b = before h in
          record { read = record { handed = b.handed ∙ r.handed; up = b.up ∙ r.up }; holds = b.own ∙ h; called = λ x. refl; fresh = fresh }
      go (Some k) is r h c = at h.holds
        where
          at : ((l.port.own ≡ Some h.address) × (given_again h.address (behind k events) ≡ false)) ⊎ (l.port.own ≡ None) →
              IsOwned (events ++ event ∷ []) (Some k) m
          at (inl p) = let b = held_more k r h p.1 (takes h.address p.0) in
              record { read = b.0; holds = b.1; called = λ x. c (called x); fresh = fresh }
          at (inr none) = let b = lost_more k r h (silent k h is none) (before none) none in
              record { read = b.0; holds = b.1; called = λ x. c (called x); fresh = fresh }
