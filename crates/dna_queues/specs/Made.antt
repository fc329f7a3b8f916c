-- Which records the links of a node with queues make, by hidden steps between them: the step of each record.
use Rattle.std.specs.Prelude.{◌≡◌, ℕ, Bool, true, false, ◌==◌, Option, Some, None, List, [], ◌∷◌, ◌++◌, Ok}
use Rattle.dna_packet.specs.Nsp.{NoOperation, DisconnectConfirm}
use Rattle.dna_links.specs.declared.port.LinkTest.TheVariants.{HasAddress}
use Rattle.dna_links.specs.declared.queue.Queues.TheVariants.{Without}
use Rattle.dna_links.specs.Links.{LinkOf, Carried, no_links, number_of}
use Rattle.dna_links.specs.LinkBook.{user_step}
use Rattle.dna_links.specs.Queues.{booted}
use Rattle.dna_links.specs.User.{LinkEventValue, Open, Accept, Reject, Boot}
use Rattle.dna_links.specs.Sending.{Sent, sent_step}
use Rattle.dna_links.specs.Arriving.{of_partner, arrived_step}
use Rattle.dna_links.specs.TrueSegments.{Numbers}
use Rattle.dna_links.specs.Runs.{SentMessage}
use Rattle.dna_queues.specs.Records.{LinkRecord, OfUser, Sends, Keeps, OfNoLink}
use Rattle.dna_queues.specs.Hidden.{LateSegments, late_segments, Links, Node, dstaddr}
use Rattle.dna_queues.specs.Hidden.{link_it_is_for, link_it_is_of, waiting, Takes, HiddenStep, ComesTo}

-- before any record
abbrev pub new_node : (node peer : ℕ) → Node
new_node node peer = record { links = no_links node peer; kept = []; composed = [] }

-- ---- where nothing may wait

-- nothing that this link, if there is one, composed waits
abbrev pub SaysNoMore : Option ℕ → Node → Type 0
SaysNoMore link n = (number : ℕ) → link ≡ Some number → waiting link_it_is_of (Some number) n.composed ≡ []

-- no packet waits for this address, nor any message of the link that got it last
pub record IsFree (address : ℕ) (n : Node) : Type 0 where
  pub nothing_for : waiting link_it_is_for (Some address) n.kept ≡ []
  pub nothing_of : SaysNoMore (number_of (HasAddress address) n.links) n

-- an address is given only then; a boot has a step of its own
abbrev pub MayBe : LinkEventValue → Node → Type 0
MayBe (Open own) n = IsFree own n
MayBe (Accept far own) n = IsFree own n
MayBe (Reject far own) n = IsFree own n
MayBe Boot n = ⊥
MayBe event n = Unit {0}

-- A DC answers what came for its SRCADDR, and is the last of its link; and so of the call that one with SRCADDR 0 ends
abbrev pub EndsCall : (src_is_zero : Bool) → Sent LateSegments Numbers → Node → Type 0
EndsCall true made n = SaysNoMore made.truth.tag.link n
EndsCall false made n = Unit {0}

-- ---- the step of each record

pub data MakesStep (n : Node) : LinkRecord → Node → Type 0 where
  UserDoes : (event : LinkEventValue) (links : Links) → MayBe event n → user_step Without late_segments n.links event ≡ Ok links →
      MakesStep n (OfUser event) (record n { links = links })
  -- the node starts anew: all links are over, and what waits is dropped
  Boots : MakesStep n (OfUser Boot) (record { links = booted late_segments Without n.links; kept = []; composed = [] })
  -- what was composed is sent, the first of its link
  SendsComposed : (unit : SentMessage) (left : List SentMessage) → Takes link_it_is_of n.composed unit left →
      MakesStep n (Sends unit.packet) (record n { composed = left })
  SendsConfirm : (packet : Carried) (dst src reason : ℕ) (made : Sent LateSegments Numbers) → packet.message ≡ DisconnectConfirm dst src reason →
      sent_step Without late_segments n.links packet ≡ Ok made → IsFree src n → EndsCall (src == 0) made n →
      MakesStep n (Sends packet) (record n { links = made.links })
  SendsNothing : (packet : Carried) (rest : List ℕ) (made : Sent LateSegments Numbers) → packet.message ≡ NoOperation rest →
      sent_step Without late_segments n.links packet ≡ Ok made → MakesStep n (Sends packet) n
  -- What is kept waits for its link. That it is of this pair of links is asked of what all would come to
  KeepsForLink : (unit : SentMessage) (address : ℕ) (all left : Links) → dstaddr unit.packet.message ≡ Some address → ComesTo n all →
      arrived_step Without late_segments of_partner all unit.packet unit.truth ≡ Ok left →
      MakesStep n (Keeps unit) (record n { kept = n.kept ++ unit ∷ [] })
  -- What is for no link is acted on at once: the link begins that begins in what all would come to
  KeepsAtOnce : (unit : SentMessage) (all left : Links) (new : List (LinkOf LateSegments)) → dstaddr unit.packet.message ≡ None → ComesTo n all →
      arrived_step Without late_segments of_partner all unit.packet unit.truth ≡ Ok left → left.links ≡ all.links ++ new →
      MakesStep n (Keeps unit) (record n { links = record n.links { links = n.links.links ++ new } })
  PassesBy : MakesStep n OfNoLink n

pub data MadeByHidden : Node → List LinkRecord → Type 0 where
  NoMore : (n : Node) → MadeByHidden n []
  Hides : (n next : Node) (records : List LinkRecord) → HiddenStep n next → MadeByHidden next records → MadeByHidden n records
  Makes : (n next : Node) (one : LinkRecord) (later : List LinkRecord) → MakesStep n one next → MadeByHidden next later →
      MadeByHidden n (one ∷ later)
