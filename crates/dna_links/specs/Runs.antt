-- The links of both sides, and the packets that went from each to the other: all of a run that the links meet. Of stations, units and
-- lines they know nothing but this: packets that are kept come in the order of their first sending, each at most once, and with what
-- was true of them then; some are lost before the links, and some that the links made are never sent.
use Rattle.std.specs.Prelude.{◌≡◌, ℕ, ◌+◌, ◌<◌, ◌≤◌, Option, Some, None, List, [], ◌∷◌, ◌++◌, length, slice_get, Ok}
use Rattle.dna_links.specs.declared.queue.Queues.{Queues}
use Rattle.dna_links.specs.Links.{Carried, LinkTruth}
use Rattle.dna_links.specs.User.{LinkEventValue}
use Rattle.dna_links.specs.Sending.{Sent}
use Rattle.dna_links.specs.Arriving.{of_partner}
use Rattle.dna_links.specs.TrueSegments.{TrueSegments, Numbers}
use Rattle.dna_links.specs.TrueLinks.{Links, new_links, links_user, links_sent, links_arrived}

-- a message of the links in a packet that was first sent, with what was true of it then
pub record SentMessage : Type 0 where
  pub packet : Carried
  pub truth : LinkTruth Numbers

-- One side: its links; all packets that it ever first sent, by place, None for one that has no message of the links; and the place
-- after the last packet that it kept
pub record LinkSide : Type 0 where
  pub links : Links
  pub sent : List (Option SentMessage)
  pub front : ℕ

pub record LinkWorld : Type 0 where
  pub a : LinkSide
  pub b : LinkSide

abbrev pub sends : LinkSide → Links → Option SentMessage → LinkSide
sends own links message = record { links = links; sent = own.sent ++ message ∷ []; front = own.front }

abbrev pub keeps : LinkSide → Links → (place : ℕ) → LinkSide
keeps own links place = record { links = links; sent = own.sent; front = place + 1 }

-- What may happen at one side beside the other, with the events of its user, and what is left
pub data LinkStep (queues : Queues) (own other : LinkSide) : List LinkEventValue → LinkSide → Type 0 where
  -- the user does something
  ByUser : (event : LinkEventValue) (links : Links) → links_user queues own.links event ≡ Ok links →
      LinkStep queues own other (event ∷ []) (record { links = links; sent = own.sent; front = own.front })
  -- a packet is first sent: it has a message of the links, or none
  Sends : (packet : Carried) (made : Sent TrueSegments Numbers) → links_sent queues own.links packet ≡ Ok made →
      LinkStep queues own other [] (sends own made.links (Some (record { packet = packet; truth = made.truth })))
  SendsNone : LinkStep queues own other [] (sends own own.links None)
  -- a packet is composed and never sent: for the links it is one that is first sent, and it has no place
  Composes : (packet : Carried) (made : Sent TrueSegments Numbers) → links_sent queues own.links packet ≡ Ok made →
      LinkStep queues own other [] (record { links = made.links; sent = own.sent; front = own.front })
  -- a packet is kept: it lies at or after the front, and is the one that was first sent there, with its truth
  Keeps : (place : ℕ) (unit : SentMessage) (links : Links) → own.front ≤ place → slice_get other.sent place ≡ Some (Some unit) →
      links_arrived queues of_partner own.links unit.packet unit.truth ≡ Ok links → LinkStep queues own other [] (keeps own links place)
  -- a packet is kept that has no message of the links, or is lost before them
  Passes : (place : ℕ) → own.front ≤ place → place < length other.sent → LinkStep queues own other [] (keeps own own.links place)

-- What steps lead to, one after another on either side, with the events of each user in their order
pub data Reached (queues : Queues) (start : LinkWorld) : LinkWorld → (of_a of_b : List LinkEventValue) → Type 0 where
  Start : Reached queues start start [] []
  ByA : {w : LinkWorld} {of_a of_b events : List LinkEventValue} {left : LinkSide} → Reached queues start w of_a of_b →
      LinkStep queues w.a w.b events left →
      Reached queues start (record { a = left; b = w.b }) (of_a ++ events) of_b
  ByB : {w : LinkWorld} {of_a of_b events : List LinkEventValue} {left : LinkSide} → Reached queues start w of_a of_b →
      LinkStep queues w.b w.a events left →
      Reached queues start (record { a = w.a; b = left }) of_a (of_b ++ events)

-- before any record: the addresses of each side's node and of the other one, as its head has them
abbrev pub new_side : (node peer : ℕ) → LinkSide
new_side node peer = record { links = new_links node peer; sent = []; front = 0 }

abbrev pub new_world : (node_a peer_a node_b peer_b : ℕ) → LinkWorld
new_world node_a peer_a node_b peer_b = record { a = new_side node_a peer_a; b = new_side node_b peer_b }
