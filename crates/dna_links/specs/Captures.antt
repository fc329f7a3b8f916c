-- What was handed in at a link and delivered at it, off the records of its user alone.
use Rattle.std.specs.Prelude.{◌≡◌, ℕ, zero, suc, ◌+◌, ◌<◌, Bool, ◌==◌, if◌then◌else◌, Option, Some, None, List, [], ◌∷◌, ◌++◌, length, slice_get}
use Rattle.two_nodes.specs.Beginning.{BeginsWith}
use Rattle.dna_links.specs.LookUps.{is_at}
use Rattle.dna_links.specs.Links.{LinkOf}
use Rattle.dna_links.specs.User.{LinkEventValue, Open, Accept, Reject, In, Up}
use Rattle.dna_links.specs.TrueSegments.{TrueSegments}

-- the own address that an event gives to a link
abbrev pub given_address : LinkEventValue → Option ℕ
given_address (Open own) = Some own
given_address (Accept far own) = Some own
given_address (Reject far own) = Some own
given_address event = None

abbrev pub gives_address : ℕ → LinkEventValue → Bool
gives_address own event = is_at (given_address event) own

-- the message that an event hands in at this address, or delivers there
abbrev pub message_in : ℕ → LinkEventValue → List (List ℕ)
message_in own (In link message) = if link == own then message ∷ [] else []
message_in own event = []

abbrev pub message_up : ℕ → LinkEventValue → List (List ℕ)
message_up own (Up link message) = if link == own then message ∷ [] else []
message_up own event = []

-- the messages of these events, up to the next one that gives the address again
abbrev pub until_given : ℕ → (LinkEventValue → List (List ℕ)) → List LinkEventValue → List (List ℕ)
until_given own message [] = []
until_given own message (event ∷ events) = if gives_address own event then [] else message event ++ until_given own message events

abbrev pub handed_in : ℕ → List LinkEventValue → List (List ℕ)
handed_in own events = until_given own (message_in own) events

abbrev pub delivered_up : ℕ → List LinkEventValue → List (List ℕ)
delivered_up own events = until_given own (message_up own) events

-- the events after the one at this place
abbrev pub behind : ℕ → List LinkEventValue → List LinkEventValue
behind place [] = []
behind zero (event ∷ events) = events
behind (suc place) (event ∷ events) = behind place events

-- the event at this place gave the link its address, and after it comes what was handed in and delivered there
pub record IsReadFrom (events : List LinkEventValue) (link : LinkOf TrueSegments) (place : ℕ) : Type 0 where
  pub event : LinkEventValue
  pub there : slice_get events place ≡ Some event
  pub own : ℕ
  pub gives : given_address event ≡ Some own
  pub handed : link.segments.handed ≡ handed_in own (behind place events)
  pub up : link.segments.delivered ≡ delivered_up own (behind place events)

-- a link that no event gave an address has neither
pub record HasNeither (link : LinkOf TrueSegments) : Type 0 where
  pub handed : link.segments.handed ≡ []
  pub up : link.segments.delivered ≡ []

abbrev pub IsRead : List LinkEventValue → LinkOf TrueSegments → Option ℕ → Type 0
IsRead events link None = HasNeither link
IsRead events link (Some place) = IsReadFrom events link place

-- All links of a side, off its user's events: at most one event gave each link its address, and each event that gives an address gave
-- it to one link
pub record AreRead (events : List LinkEventValue) (links : List (LinkOf TrueSegments)) : Type 0 where
  pub place_of : ℕ → Option ℕ
  pub read : (i : ℕ) (link : LinkOf TrueSegments) → slice_get links i ≡ Some link → IsRead events link (place_of i)
  pub within : (i place : ℕ) → place_of i ≡ Some place → i < length links
  pub once : (i j place : ℕ) → place_of i ≡ Some place → place_of j ≡ Some place → i ≡ j
  pub all : (place own : ℕ) (event : LinkEventValue) → slice_get events place ≡ Some event → given_address event ≡ Some own →
      (i : ℕ) × (place_of i ≡ Some place)

-- ---- from capture to capture

-- these are a beginning of what was handed in at the link that has this place in the other side's events; or nothing, where it has none
abbrev pub BeginsAt : List LinkEventValue → (delivered : List (List ℕ)) → Option ℕ → Type 0
BeginsAt events delivered None = delivered ≡ []
BeginsAt events delivered (Some place) =
    (own : ℕ) × (event : LinkEventValue) × (slice_get events place ≡ Some event) × (given_address event ≡ Some own) ×
    BeginsWith (handed_in own (behind place events)) delivered

abbrev pub BeginsFor : List LinkEventValue → (delivered : List (List ℕ)) → (place_of : ℕ → Option ℕ) → (partner : Option ℕ) → Type 0
BeginsFor events delivered place_of None = delivered ≡ []
BeginsFor events delivered place_of (Some partner) = BeginsAt events delivered (place_of partner)

-- what was delivered at each address, from the event that gave it to a link up to the next that gives it again, is a beginning of what was
-- handed in at that link's partner. Whose partner a link is, is the run's
pub record AreUpFrom (events further : List LinkEventValue) (links others : List (LinkOf TrueSegments)) : Type 0 where
  pub own : AreRead events links
  pub other : AreRead further others
  pub up : (i place address : ℕ) (link : LinkOf TrueSegments) (event : LinkEventValue) → slice_get links i ≡ Some link → own.place_of i ≡ Some place →
      slice_get events place ≡ Some event → given_address event ≡ Some address →
      BeginsFor further (delivered_up address (behind place events)) other.place_of link.partner

-- ---- how many

-- how many messages were delivered at all links
abbrev pub deliveries : List (LinkOf TrueSegments) → ℕ
deliveries [] = 0
deliveries (link ∷ links) = length link.segments.delivered + deliveries links

-- and how many events say so
abbrev pub delivery_count : LinkEventValue → ℕ
delivery_count (Up link message) = 1
delivery_count event = 0

abbrev pub ups : List LinkEventValue → ℕ
ups [] = 0
ups (event ∷ events) = delivery_count event + ups events
