-- Links of both sides except for what the queues leave open of them: what every run has, with queues or without.
use Rattle.std.specs.Prelude.{◌≡◌, ℕ, List, map}
use Rattle.dna_links.specs.declared.queue.Queues.TheVariants.{With}
use Rattle.dna_links.specs.Queues.{fresh}
use Rattle.dna_links.specs.Links.{LinkOf}
use Rattle.dna_links.specs.User.{LinkEventValue}
use Rattle.dna_links.specs.TrueSegments.{TrueSegments}
use Rattle.dna_links.specs.TrueLinks.{Links}
use Rattle.dna_links.specs.Runs.{LinkSide, LinkWorld, Reached}

abbrev pub bare : LinkOf TrueSegments → LinkOf TrueSegments
bare l = record l { queue = fresh }

abbrev pub bare_links : Links → Links
bare_links s = record { node = s.node; peer = s.peer; links = map bare s.links }

abbrev pub bare_side : LinkSide → LinkSide
bare_side own = record { links = bare_links own.links; sent = own.sent; front = own.front }

abbrev pub bare_world : LinkWorld → LinkWorld
bare_world w = record { a = bare_side w.a; b = bare_side w.b }

-- steps of links with queues lead to a world that is this one except for that
pub record IsLedTo (start w : LinkWorld) (of_a of_b : List LinkEventValue) : Type 0 where
  pub world : LinkWorld
  pub reached : Reached With start world of_a of_b
  pub same : bare_world world ≡ w
