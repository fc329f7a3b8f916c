-- What links do by their nodes' queues (NSP 4.0, port states). Without queues NSP acts on a message when DDCMP keeps it, and composes one when it is
-- first sent. With queues a link may act later and compose earlier, each in order: a message is right if it was when it may have been composed.
use Rattle.std.specs.Prelude.{Bool, true, false, ◌&&◌, ◌||◌, not, ℕ, Option, Some, None, map}
use Rattle.dna_links.specs.declared.port.Phase.{Phase}
use Rattle.dna_links.specs.declared.port.Phase.TheVariants.{Calling, Called, Confirming, Running, Disconnecting, Ended}
use Rattle.dna_links.specs.declared.port.Port.{Port}
use Rattle.dna_links.specs.declared.port.LinkTest.{LinkTest}
use Rattle.dna_links.specs.declared.port.LinkTest.TheVariants.{HasAddress}
use Rattle.dna_links.specs.declared.queue.Queues.{Queues}
use Rattle.dna_links.specs.declared.queue.Queues.TheVariants.{Without, With}
use Rattle.dna_links.specs.declared.queue.Said.{Said}
use Rattle.dna_links.specs.declared.queue.Said.TheVariants.{Nothing, OfRun, Disconnect}
use Rattle.dna_links.specs.declared.queue.LinkQueue.{LinkQueue}
use Rattle.dna_links.specs.LookUps.{is_in, is_live}
use Rattle.dna_links.specs.SegmentBook.{SegmentBook}
use Rattle.dna_links.specs.Links.{LinkOf, LinksOf, with_link, with_seen, changed, in_phase, with_segments}

abbrev pub fresh : LinkQueue
fresh = record { waits = None; ran = false; accepted = false; said = Nothing; gap = 0 }

-- ---- what was sent

abbrev pub is_silent : Said → Bool
is_silent Nothing = true
is_silent said = false

abbrev pub is_over : Said → Bool
is_over Disconnect = true
is_over said = false

-- the later of two
abbrev pub further : Said → Said → Said
further Nothing said = said
further OfRun Disconnect = Disconnect
further OfRun said = OfRun
further Disconnect said = Disconnect

-- a link that ended in this phase may yet send what has numbers, until its DI was sent
abbrev pub has_waiting : Option Phase → Said → Bool
has_waiting None said = false
has_waiting (Some phase) said = not (is_over said && is_in Disconnecting phase)

-- ---- ports

-- the phase in which something of it waits, else its own
abbrev pub port_of_waiting : Option Phase → Port → Port
port_of_waiting None port = port
port_of_waiting (Some phase) port = record port { phase = phase }

-- A message that asks for this phase is in its turn: CI before all others, CC after `accept`, those of RUN once RUN has begun and before a DI, and a
-- DI after `close` or `reject`. With queues the phase may be past
abbrev pub is_in_turn : Phase → LinkQueue → Port → Bool
is_in_turn Calling queue port = is_silent queue.said
is_in_turn Confirming queue port = queue.accepted && is_silent queue.said
is_in_turn Running queue port = queue.ran && not (is_over queue.said)
is_in_turn phase queue port = is_in phase (port_of_waiting queue.waits port).phase

-- what waits of a link once its own node ended it
abbrev pub call_of : (opened : Bool) → Option Phase
call_of true = Some Called
call_of false = None

-- what is remembered of a phase
abbrev pub reached : Phase → LinkQueue → LinkQueue
reached Running queue = record queue { ran = true }
reached Confirming queue = record queue { accepted = true }
reached phase queue = queue

module _ {D : Type 0} where
  -- a link's port for what is sent and for its user: with queues as it was before the link ended, while something may wait
  abbrev pub in_use : Queues → LinkOf D → Port
  in_use Without link = link.port
  in_use With link = port_of_waiting link.queue.waits link.port

  -- as its user and what is sent find a link: by its port, or else by its port in use
  abbrev pub with_in_use : {R : Type 0} → Queues → LinkTest → LinksOf D → R → (ℕ → LinkOf D → R) → R
  with_in_use Without test s otherwise next = with_link test s otherwise next
  with_in_use With test s otherwise next = with_link test s (with_seen (in_use With) test s otherwise next) next

  abbrev pub may_send : Queues → Phase → LinkOf D → Bool
  may_send Without phase link = is_in phase link.port.phase
  may_send With phase link = is_in_turn phase link.queue link.port

  -- ---- what is kept

  abbrev pub with_queue : LinkQueue → LinkOf D → LinkOf D
  with_queue queue link = record link { queue = queue }

  -- the link may yet send, or take, what has numbers
  abbrev pub keeps_numbers : LinkOf D → Bool
  keeps_numbers link = is_live link.port.phase || has_waiting link.queue.waits link.queue.said

module _ {D K : Type 0} (book : SegmentBook D K) where
  -- the link is over, and nothing of it waits
  abbrev pub ended : LinkOf D → LinkOf D
  ended link = with_segments (book.ends link.segments) (in_phase Ended link)

  -- the segments of a link that kept them, and does so now, or not
  abbrev pub lets_go : (before now : Bool) → D → D
  lets_go true false segments = book.ends segments
  lets_go before now segments = segments

  -- those of a call that was opened here stay, while its CI may be sent
  abbrev pub drops_segments : (opened : Bool) → D → D
  drops_segments true segments = segments
  drops_segments false segments = book.ends segments

  abbrev pub kept_as : (before now : LinkOf D) → LinkOf D
  kept_as before now = with_segments (lets_go (keeps_numbers before) (keeps_numbers now) before.segments) now

  abbrev pub requeued : Option Phase → Said → LinkOf D → LinkOf D
  requeued waits said link = kept_as link (with_queue (record link.queue { waits = waits; said = said }) link)

  -- ---- phases

  -- a link that has ended goes on in what waits
  abbrev pub goes_on : (live : Bool) → Phase → LinkOf D → LinkOf D
  goes_on true phase link = in_phase phase (with_queue (reached phase link.queue) link)
  goes_on false phase link = requeued (Some phase) link.queue.said link

  abbrev pub goes_to : Queues → Phase → LinkOf D → LinkOf D
  goes_to Without phase link = in_phase phase link
  goes_to With phase link = goes_on (is_live link.port.phase) phase link

  -- what came ends it: with queues what was composed before may still be sent
  abbrev pub ends_by_message : Queues → LinkOf D → LinkOf D
  ends_by_message Without link = ended link
  ends_by_message With link =
      kept_as link (record link { port = record link.port { phase = Ended }; queue = record link.queue { waits = Some link.port.phase } })

  -- Its own node ends it, by a DC or since its user gives it up. With queues nothing of it waits then, but the CI of a call that was opened here:
  -- that may yet be sent, and its user has no part in it any more. So it waits as in Called, in which no link is that was opened here
  abbrev pub drops : Queues → LinkOf D → LinkOf D
  drops Without link = ended link
  drops With link = record link {
    port = record link.port { phase = Ended };
    segments = drops_segments link.port.opened link.segments;
    queue = record link.queue { waits = call_of link.port.opened };
  }

  -- An own address that is given again is no longer that of the ended link which had it: `Up` goes by the link that got it last
  abbrev pub forgotten : Queues → LinkOf D → LinkOf D
  forgotten Without link = record link { port = record link.port { own = None }; segments = book.forgets link.segments }
  forgotten With link = record link {
    port = record link.port { own = None };
    segments = book.forgets link.segments;
    queue = record link.queue { waits = None };
  }

  abbrev pub freed : Queues → (own : ℕ) → LinksOf D → LinksOf D
  freed queues own s = with_link (HasAddress own) s s (λ number link. changed number (forgotten queues link) s)

  -- The node starts anew: each link is over, nothing of it waits, and its address is nobody's. What it was handed and what it delivered stays
  -- a matter of record
  abbrev pub booted_link : Queues → LinkOf D → LinkOf D
  booted_link queues link = forgotten queues (drops queues link)

  abbrev pub booted : Queues → LinksOf D → LinksOf D
  booted queues s = record s { links = map (booted_link queues) s.links }

  -- ---- what a message that is sent shows, with queues

  abbrev pub shows : Said → LinkOf D → LinkOf D
  shows said link = requeued link.queue.waits (further said link.queue.said) link

  abbrev pub shows_by : Phase → LinkOf D → LinkOf D
  shows_by Running link = shows OfRun link
  shows_by Disconnecting link = shows Disconnect link
  shows_by phase link = link

  -- A DC with this link's address: what came for it was acted on. If it has ended nothing of it waits any more; else its phase has begun
  abbrev pub settled : Option Phase → LinkOf D → LinkOf D
  settled None link = shows_by link.port.phase link
  settled (Some phase) link = requeued None link.queue.said link
