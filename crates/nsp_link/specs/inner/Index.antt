-- How the links of a node are found without a look at all that ever were: by the last holder of each own address, by the last link that
-- a CI from each address of the other side began, and by how many live links know each of these.
use Rattle.std.specs.Prelude.{⊤, ◌≡◌, ◌≤◌, ◌||◌, ◌&&◌, ◌==◌, not, ℕ, suc, Bool, false, Option, Some, None, List, [], ◌∷◌, length, slice_get}
use Rattle.std.specs.Prelude.{slice_set, if◌then◌else◌, true}
use Rattle.dna_links.specs.Queues.{port_of_waiting}
use Rattle.dna_links.specs.declared.queue.Queues.{Queues}
use Rattle.dna_links.specs.declared.queue.Queues.TheVariants.{Without, With}
use Rattle.dna_links.specs.declared.port.Phase.{Phase}
use Rattle.dna_links.specs.declared.port.Port.{Port}
use Rattle.dna_links.specs.declared.port.LinkTest.{LinkTest}
use Rattle.dna_links.specs.declared.port.LinkTest.TheVariants.{HasAddress, LiveAt, TheLink, LiveTo, OpenedAt, CallingAt, CalledBy, BegunBy, ActedOn}
use Rattle.dna_links.specs.LookUps.{is_live, is_at, is_called, is_calling, passes}
use Rattle.dna_links.specs.Links.{LinkOf}
use Rattle.dna_links.specs.WireSegments.{WireSegments}
use Rattle.nsp_link.specs.inner.Queue.{forgotten_link}

-- ---- a number that is looked at

module _ {X : Type 0} (p : X → Bool) where
  abbrev pub passes_in : Option X → Bool
  passes_in None = false
  passes_in (Some x) = p x

  abbrev pub passes_at : List X → ℕ → Bool
  passes_at xs number = passes_in (slice_get xs number)

  -- this number, if what is there passes
  abbrev pub passing : List X → Option ℕ → Option ℕ
  passing xs None = None
  passing xs (Some number) = if passes_at xs number then Some number else None

  -- how many pass
  abbrev pub counted : List X → ℕ
  counted [] = 0
  counted (x ∷ xs) = if p x then suc (counted xs) else counted xs

module _ {X : Type 0} (look : X → Option ℕ) where
  abbrev pub look_in : Option X → Option ℕ
  look_in None = None
  look_in (Some x) = look x

  -- what is seen at this number
  abbrev pub look_at : List X → ℕ → Option ℕ
  look_at xs number = look_in (slice_get xs number)

-- ---- where a look-up looks: at the holder of an own address, or at the last link that a CI from an address began

-- not this one: many links may pass it
abbrev pub is_of_one : LinkTest → Bool
is_of_one (LiveTo far) = false
is_of_one test = true

abbrev pub candidate : LinkTest → (holder caller : ℕ → Option ℕ) → Option ℕ
candidate (HasAddress own) holder caller = holder own
candidate (LiveAt own) holder caller = holder own
candidate (TheLink own far) holder caller = holder own
candidate (OpenedAt own) holder caller = holder own
candidate (CallingAt own) holder caller = holder own
candidate (ActedOn own far) holder caller = holder own
candidate (CalledBy far) holder caller = caller far
candidate (BegunBy far) holder caller = caller far
candidate (LiveTo far) holder caller = None

-- a count that is not kept is zero
abbrev pub times : Option ℕ → ℕ
times None = 0
times (Some count) = count

-- in Called, or another live link that was not opened here
abbrev pub is_begun : Port → Bool
is_begun port = is_called port.phase || (is_live port.phase && not port.opened)

module _ {D : Type 0} where
  abbrev pub own_of : LinkOf D → Option ℕ
  own_of link = link.port.own

  -- the address of the other side that its CI came from
  abbrev pub begun_from : LinkOf D → Option ℕ
  begun_from link = if is_begun link.port then link.port.far else None

  abbrev pub lives_to : ℕ → LinkOf D → Bool
  lives_to far link = passes (LiveTo far) link.port

  -- something of it may still be sent
  abbrev pub uses : LinkOf D → Bool
  uses link = is_live (port_of_waiting link.queue.waits link.port).phase

  -- the address of the other side that a connect acknowledgement may go to
  abbrev pub begins_use : LinkOf D → Option ℕ
  begins_use link = if uses link && not link.port.opened then link.port.far else None

  -- a DC with its own address is sent: what it no longer uses, and what it uses yet
  abbrev pub use_that_ends : Option Phase → LinkOf D → Option ℕ
  use_that_ends None link = None
  use_that_ends (Some phase) link = begins_use link

  abbrev pub use_that_stays : Option Phase → LinkOf D → Option ℕ
  use_that_stays None link = begins_use link
  use_that_stays (Some phase) link = None

  abbrev pub used_by : ℕ → LinkOf D → Bool
  used_by far link = is_at (begins_use link) far

  -- how many links that a CI began may still send something, by the address of the other side, while that is counted
  abbrev pub AreUsed : Queues → List (LinkOf D) → (ℕ → ℕ) → Type 0
  AreUsed Without links used = ⊤
  AreUsed With links used = (far : ℕ) → used far ≡ counted (used_by far) links

  abbrev pub waits : LinkOf D → Bool
  waits link = is_calling link.port.phase

  pub record IsIndexed (links : List (LinkOf D)) (holder caller : ℕ → Option ℕ) (reached : ℕ → ℕ) (waiting : ℕ) : Type 0 where
    -- each link that has an own address is the holder of it
    pub has : (number own : ℕ) → look_at own_of links number ≡ Some own → holder own ≡ Some number
    pub holds : (own number : ℕ) → holder own ≡ Some number → look_at own_of links number ≡ Some own
    -- each live link that a CI began is the last one that a CI from its far address began
    pub calls : (number far : ℕ) → look_at begun_from links number ≡ Some far → caller far ≡ Some number
    -- how many live links know an address of the other side
    pub reaches : (far : ℕ) → reached far ≡ counted (lives_to far) links
    -- those that may still get to know one
    pub waits : counted waits links ≤ waiting
    pub few : waiting ≤ length links

  -- a link that changes so is found as before
  pub record IsFoundAs (l m : LinkOf D) : Type 0 where
    pub own : m.port.own ≡ l.port.own
    pub opened : m.port.opened ≡ l.port.opened
    pub far : m.port.far ≡ l.port.far
    pub lives : is_live m.port.phase ≡ is_live l.port.phase
    pub called : is_called m.port.phase ≡ true → is_called l.port.phase ≡ true
    pub calling : is_calling m.port.phase ≡ true → is_calling l.port.phase ≡ true

  -- and may send as before
  pub record Stays (l m : LinkOf D) : Type 0 where
    pub found : IsFoundAs l m
    pub used : uses m ≡ uses l

-- ---- uses, while they are counted

abbrev pub counting : Bool → Queues
counting true = With
counting false = Without

-- a link with this address uses it no more
abbrev pub IsReleased : Queues → Option ℕ → (before after : ℕ → ℕ) → Type 0
IsReleased Without known before after = ⊤
IsReleased With known before after = (far : ℕ) → (if is_at known far then suc (after far) else after far) ≡ before far

-- one more does
abbrev pub IsTaken : Queues → ℕ → (before after : ℕ → ℕ) → Type 0
IsTaken Without far before after = ⊤
IsTaken With far before after = (q : ℕ) → after q ≡ (if far == q then suc (before q) else before q)

-- what the holder of an own address uses
abbrev pub held_use : Option ℕ → List (LinkOf WireSegments) → Option ℕ
held_use None links = None
held_use (Some number) links = look_at begins_use links number

-- ---- an own address that is given again: the holder, which has ended, loses it

module _ (queues : Queues) where
  abbrev pub forgotten_found : ℕ → Option (LinkOf WireSegments) → List (LinkOf WireSegments) → List (LinkOf WireSegments)
  forgotten_found number None links = links
  forgotten_found number (Some link) links = slice_set links number (forgotten_link queues link)

  abbrev pub forgotten_at : (holder : Option ℕ) → List (LinkOf WireSegments) → List (LinkOf WireSegments)
  forgotten_at None links = links
  forgotten_at (Some number) links = forgotten_found number (slice_get links number) links
