-- What links deliver, beside what was handed in at their partners.
use Rattle.std.specs.Prelude.{◌≡◌, ℕ, Option, Some, None, List, [], ◌∷◌, ◌++◌, slice_get, if◌then◌else◌}
use Rattle.two_nodes.specs.Beginning.{BeginsWith}
use Rattle.dna_links.specs.Segmentation.{Piece}
use Rattle.dna_links.specs.Links.{LinkOf}
use Rattle.dna_links.specs.TrueSegments.{TrueSegments}
use Rattle.dna_links.specs.TrueLinks.{Links}

-- ---- messages out of pieces

-- the whole messages that pieces make, where the data before them began a message; and the data of a message that is not ended
abbrev pub whole : (begun : List ℕ) → List Piece → List (List ℕ)
whole begun [] = []
whole begun (p ∷ pieces) = if p.ends then (begun ++ p.body) ∷ whole [] pieces else whole (begun ++ p.body) pieces

abbrev pub unfinished : (begun : List ℕ) → List Piece → List ℕ
unfinished begun [] = begun
unfinished begun (p ∷ pieces) = if p.ends then unfinished [] pieces else unfinished (begun ++ p.body) pieces

-- the first message with these data before it
abbrev pub with_begun : List ℕ → List (List ℕ) → List (List ℕ)
with_begun begun [] = []
with_begun begun (rest ∷ later) = (begun ++ rest) ∷ later

-- what was given is a cut of what was handed in: the messages that the pieces make, and what is in no piece yet
pub record IsCut (f : TrueSegments) : Type 0 where
  pub all : f.handed ≡ whole [] f.given ++ with_begun (unfinished [] f.given) f.unsent.messages
  pub none_left : f.unsent.messages ≡ [] → unfinished [] f.given ≡ []

-- ---- from link to link

-- each piece that was received is the one that the partner gave under that number; without a partner nothing was received
abbrev pub HeldFrom : Option ℕ → List (Option Piece) → List (LinkOf TrueSegments) → Type 0
HeldFrom None received of_other = received ≡ []
HeldFrom (Some partner) received of_other =
    (there : LinkOf TrueSegments) × (slice_get of_other partner ≡ Some there) ×
    ((n : ℕ) (p : Piece) → slice_get received n ≡ Some (Some p) → slice_get there.segments.given n ≡ Some p)

-- what was delivered is a beginning of what was handed in at the partner; without a partner it is nothing
abbrev pub UpFrom : Option ℕ → List (List ℕ) → List (LinkOf TrueSegments) → Type 0
UpFrom None delivered of_other = delivered ≡ []
UpFrom (Some partner) delivered of_other =
    (there : LinkOf TrueSegments) × (slice_get of_other partner ≡ Some there) × BeginsWith there.segments.handed delivered

-- of every link of this side
pub record DeliversLinks (own other : Links) : Type 0 where
  pub cut : (i : ℕ) (link : LinkOf TrueSegments) → slice_get own.links i ≡ Some link → IsCut link.segments
  pub held : (i : ℕ) (link : LinkOf TrueSegments) → slice_get own.links i ≡ Some link → HeldFrom link.partner link.segments.received other.links
  pub up : (i : ℕ) (link : LinkOf TrueSegments) → slice_get own.links i ≡ Some link → UpFrom link.partner link.segments.delivered other.links
