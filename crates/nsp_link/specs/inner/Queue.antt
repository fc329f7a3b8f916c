-- What becomes of a link's queue, by the kind of its node.
use Rattle.std.specs.Prelude.{ℕ, Some, None, Bool, ◌||◌}
use Rattle.dna_links.specs.declared.queue.Queues.{Queues}
use Rattle.dna_links.specs.declared.queue.Queues.TheVariants.{Without, With}
use Rattle.dna_links.specs.declared.queue.LinkQueue.{LinkQueue}
use Rattle.dna_links.specs.declared.port.Phase.{Phase}
use Rattle.dna_links.specs.LookUps.{is_live}
use Rattle.dna_links.specs.Links.{LinkOf}
use Rattle.dna_links.specs.Queues.{reached, has_waiting}
use Rattle.dna_links.specs.WireSegments.{WireSegments, empty}

-- the link may yet send, or take, what has numbers
abbrev pub keeps : Phase → LinkQueue → Bool
keeps phase queue = is_live phase || has_waiting queue.waits queue.said

abbrev pub reached_in : Queues → Phase → LinkQueue → LinkQueue
reached_in Without phase queue = queue
reached_in With phase queue = reached phase queue

-- a live link goes to this phase
abbrev pub moved : Queues → Phase → LinkOf WireSegments → LinkOf WireSegments
moved queues phase link = record link {
  port = record link.port { phase = phase };
  queue = reached_in queues phase link.queue;
}

abbrev pub no_longer_waits : Queues → LinkQueue → LinkQueue
no_longer_waits Without queue = queue
no_longer_waits With queue = record queue { waits = None }

-- its own address is given to another link
abbrev pub forgotten_link : Queues → LinkOf WireSegments → LinkOf WireSegments
forgotten_link queues link = record link {
  port = record link.port { own = None };
  segments = empty;
  queue = no_longer_waits queues link.queue;
}

-- the call is answered
abbrev pub answered_link : Queues → Phase → (own : ℕ) → LinkOf WireSegments → LinkOf WireSegments
answered_link queues phase own link = moved queues phase (record link { port = record link.port { own = Some own } })
