-- That an index tells where each of the links is found.
use Rattle.std.specs.Prelude.{◌≡◌, ◌<◌, ◌≤◌, ℕ, true, List, Some, None, length, slice_get, nat_eq}
use Rattle.std.specs.Ordering.{nat_cmp}
use Rattle.std.specs.BTreeMap.{get}
use Rattle.std.specs.HashMap as hashed
use Rattle.dna_links.specs.declared.port.Phase.TheVariants.{Ended}
use Rattle.dna_links.specs.declared.queue.Queues.{Queues}
use Rattle.dna_links.specs.LookUps.{is_calling, is_live}
use Rattle.dna_links.specs.Links.{LinkOf}
use Rattle.dna_links.specs.Queues.{in_use}
use Rattle.dna_links.specs.WireSegments.{WireSegments, empty}
use Rattle.dna_links.specs.WireLinks.{WireLinks}
use Rattle.nsp_link.specs.declared.index.Index.{Index}
use Rattle.nsp_link.specs.inner.Index.{IsIndexed, AreUsed, counting, times}
use Rattle.nsp_link.specs.inner.Queue.{keeps}

abbrev pub AreFound : List (LinkOf WireSegments) → Index → Type 0
AreFound links index = IsIndexed links (λ q. get nat_cmp index.holders q) (λ q. get nat_cmp index.callers q)
    (λ q. times (hashed.get nat_eq index.reached q)) index.waiting

-- with what it counts, while it does
pub record AreIndexed (links : List (LinkOf WireSegments)) (index : Index) : Type 0 where
  pub found : AreFound links index
  pub used : AreUsed (counting index.counts) links (λ q. times (hashed.get nat_eq index.in_use q))

-- it is over, nobody has its address, and nothing is kept of it: a boot, with queues or without, leaves it as it is
pub record IsDead (link : LinkOf WireSegments) : Type 0 where
  pub over : link.port.phase ≡ Ended
  pub unowned : link.port.own ≡ None
  pub bare : link.segments ≡ empty
  pub settled : link.queue.waits ≡ None

-- so many from the front are
pub record AreDead (booted : ℕ) (links : List (LinkOf WireSegments)) : Type 0 where
  pub few : booted ≤ length links
  pub each : (number : ℕ) (link : LinkOf WireSegments) → number < booted → slice_get links number ≡ Some link → IsDead link

pub record AreKept (links : List (LinkOf WireSegments)) (booted : ℕ) (index : Index) : Type 0 where
  pub indexed : AreIndexed links index
  pub dead : AreDead booted links

-- the link with this number lives
abbrev pub LivesAt : ℕ → WireLinks → Type 0
LivesAt number s = (link : LinkOf WireSegments) → slice_get s.links number ≡ Some link → is_live link.port.phase ≡ true

-- it may yet send, or take, what has numbers
abbrev pub KeepsAt : ℕ → WireLinks → Type 0
KeepsAt number s = (link : LinkOf WireSegments) → slice_get s.links number ≡ Some link → keeps link.port.phase link.queue ≡ true

-- something of it may still be sent
abbrev pub UsesAt : Queues → ℕ → WireLinks → Type 0
UsesAt queues number s = (link : LinkOf WireSegments) → slice_get s.links number ≡ Some link → is_live (in_use queues link).phase ≡ true

-- it is in Calling, or was when it ended, and something of it may still be sent
abbrev pub CallsAt : Queues → ℕ → WireLinks → Type 0
CallsAt queues number s = (link : LinkOf WireSegments) → slice_get s.links number ≡ Some link → is_calling (in_use queues link).phase ≡ true
