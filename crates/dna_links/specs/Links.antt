-- The logical links of one node, over any book of their segments (NSP 4.0, ports). The rules are in `Table`, and how
-- links go by them in `LinkBook`.
use Rattle.std.specs.Prelude.{ℕ, Bool, true, false, Option, Some, None, List, [], ◌∷◌, ◌++◌, slice_get, slice_set, position, Result, Err}
use Rattle.dna_packet.specs.Nsp.{NspValue}
use Rattle.dna_station.specs.declared.link_refusal.LinkRefusal.{LinkRefusal}
use Rattle.dna_links.specs.declared.tag.LinkTag.{LinkTag}
use Rattle.dna_links.specs.declared.port.Phase.{Phase}
use Rattle.dna_links.specs.declared.port.Port.{Port}
use Rattle.dna_links.specs.declared.port.LinkTest.{LinkTest}
use Rattle.dna_links.specs.declared.queue.LinkQueue.{LinkQueue}
use Rattle.dna_links.specs.LookUps.{passes}

-- One end of a link
pub record LinkOf (D : Type 0) : Type 0 where
  pub port : Port
  -- the number of the other node's link that it goes with, once it is known
  pub partner : Option ℕ
  -- how many data bytes the partner takes in a segment: the SEGSIZE of the CI or CC that was acted on, and 0 before
  pub segsize : ℕ
  pub segments : D
  -- what its node's queues leave open
  pub queue : LinkQueue

-- All links of a node that ever were, in the order in which they began: the first has number 0
pub record LinksOf (D : Type 0) : Type 0 where
  -- the addresses of this node and of the other one
  pub node : ℕ
  pub peer : ℕ
  pub links : List (LinkOf D)

-- An NSP message with the node addresses of its packet
pub record Carried : Type 0 where
  pub dst : ℕ
  pub src : ℕ
  pub message : NspValue

-- what is true of a message when it is sent: its sender's link, and what is known of its numbers
pub record LinkTruth (K : Type 0) : Type 0 where
  pub tag : LinkTag
  pub known : K

-- a check that is not passed refuses; after one that is passed come the next ones
abbrev pub check : {R : Type 0} → Bool → LinkRefusal → Result R LinkRefusal → Result R LinkRefusal
check true refusal next = next
check false refusal next = Err refusal

module _ {D : Type 0} where
  -- before any record
  abbrev pub no_links : (node peer : ℕ) → LinksOf D
  no_links node peer = record { node = node; peer = peer; links = [] }

  -- ---- look-ups

  -- the number of the first link that passes
  abbrev pub number_of : LinkTest → LinksOf D → Option ℕ
  number_of test s = position (λ (l : LinkOf D). passes test l.port) s.links

  abbrev pub on_link : {R : Type 0} → ℕ → Option (LinkOf D) → R → (ℕ → LinkOf D → R) → R
  on_link number None otherwise next = otherwise
  on_link number (Some link) otherwise next = next number link

  abbrev pub at_number : {R : Type 0} → List (LinkOf D) → Option ℕ → R → (ℕ → LinkOf D → R) → R
  at_number links None otherwise next = otherwise
  at_number links (Some number) otherwise next = on_link number (slice_get links number) otherwise next

  -- goes on with the first link that passes, and its number; otherwise ..
  abbrev pub with_link : {R : Type 0} → LinkTest → LinksOf D → R → (ℕ → LinkOf D → R) → R
  with_link test s otherwise next = at_number s.links (number_of test s) otherwise next

  -- the same by the ports that these links have for this look-up
  abbrev pub with_seen : {R : Type 0} → (LinkOf D → Port) → LinkTest → LinksOf D → R → (ℕ → LinkOf D → R) → R
  with_seen port test s otherwise next = at_number s.links (position (λ (l : LinkOf D). passes test (port l)) s.links) otherwise next

  -- ---- changes

  abbrev pub begun : LinkOf D → LinksOf D → LinksOf D
  begun link s = record s { links = s.links ++ link ∷ [] }

  abbrev pub changed : ℕ → LinkOf D → LinksOf D → LinksOf D
  changed number link s = record s { links = slice_set s.links number link }

  abbrev pub in_phase : Phase → LinkOf D → LinkOf D
  in_phase phase link = record link { port = record link.port { phase = phase } }

  abbrev pub with_segments : D → LinkOf D → LinkOf D
  with_segments segments link = record link { segments = segments }
