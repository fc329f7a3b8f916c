-- What the rows of `Table` of `dna_links` come to at the links of a node, with queues or without, for private contracts and for proofs.
use Rattle.std.specs.Prelude.{ℕ, Bool, true, false, Option, Some, None, position}
use Rattle.dna_links.specs.declared.port.Phase.{Phase}
use Rattle.dna_links.specs.declared.port.Phase.TheVariants.{Running}
use Rattle.dna_links.specs.declared.port.LinkTest.{LinkTest}
use Rattle.dna_links.specs.declared.port.LinkTest.TheVariants.{HasAddress, LiveAt, TheLink, OpenedAt, CallingAt, ActedOn}
use Rattle.dna_links.specs.declared.queue.Queues.{Queues}
use Rattle.dna_links.specs.declared.queue.Queues.TheVariants.{Without, With}
use Rattle.dna_links.specs.declared.tag.LinkTag.{LinkTag}
use Rattle.dna_links.specs.LookUps.{passes}
use Rattle.dna_links.specs.Links.{LinkOf, number_of, at_number, with_segments}
use Rattle.dna_links.specs.Queues.{in_use, goes_to}
use Rattle.dna_links.specs.WireSegments.{WireSegments, wire_segments}
use Rattle.dna_links.specs.WireLinks.{WireLinks}

-- ---- which link

abbrev pub first_of : Option ℕ → Option ℕ → Option ℕ
first_of None next = next
first_of (Some number) next = Some number

-- the number of the link that its user, or a message that is sent, finds: by its port, or else with queues by its port in use
abbrev pub number_in_use : Queues → LinkTest → WireLinks → Option ℕ
number_in_use Without test s = number_of test s
number_in_use With test s = first_of (number_of test s) (position (λ (l : LinkOf WireSegments). passes test (in_use With l)) s.links)

-- an own address is asked for, which one link has at most
abbrev pub is_of_own : LinkTest → Bool
is_of_own (HasAddress own) = true
is_of_own (LiveAt own) = true
is_of_own (TheLink own far) = true
is_of_own (OpenedAt own) = true
is_of_own (CallingAt own) = true
is_of_own (ActedOn own far) = true
is_of_own test = false

-- ---- what a message makes of its link

-- a CC: the sender is its partner
abbrev pub connected : (far segsize : ℕ) → LinkTag → LinkOf WireSegments → LinkOf WireSegments
connected far segsize tag link = record link { port = record link.port { far = Some far }; partner = tag.link; segsize = segsize }

abbrev pub takes_in : (WireSegments → WireSegments) → LinkOf WireSegments → LinkOf WireSegments
takes_in takes link = with_segments (takes link.segments) link

module _ (queues : Queues) where
  abbrev pub found_in_use : {R : Type 0} → LinkTest → WireLinks → R → (ℕ → LinkOf WireSegments → R) → R
  found_in_use test s otherwise next = at_number s.links (number_in_use queues test s) otherwise next

  -- ---- the user

  abbrev pub answered : Phase → (own : ℕ) → LinkOf WireSegments → LinkOf WireSegments
  answered phase own link = goes_to wire_segments queues phase (record link { port = record link.port { own = Some own } })

  -- ---- what comes

  abbrev pub runs : (WireSegments → WireSegments) → LinkOf WireSegments → LinkOf WireSegments
  runs takes link = takes_in takes (goes_to wire_segments queues Running link)

  abbrev pub confirmed : (far segsize : ℕ) → LinkTag → LinkOf WireSegments → LinkOf WireSegments
  confirmed far segsize tag link = goes_to wire_segments queues Running (connected far segsize tag link)
