-- How the worked rows of links go: two nodes, 1.1 and 1.2, on true numbers and as they keep their links, and what each does in turn. A
-- message comes as it was sent, with what is true of it, or with another tag; its bytes are read as a node reads them.
use Rattle.dna_rows.proofs.Prelude.{◌≡◌, ℕ, Option, Some, None, List, [], ◌∷◌, ◌++◌, Result, Ok, Err, slice_get, Side, A, B, other_side, NspFault}
use Rattle.dna_rows.proofs.Prelude.{NspValue, nsp_at, LinkRefusal, Without, LinkTag, SegmentBook, LinksOf, Carried, LinkTruth, no_links}
use Rattle.dna_rows.proofs.Prelude.{LinkEventValue, user_step, sent_step, of_partner, arrived_step, true_segments, wire_segments}
use Rattle.dna_links.specs.Sending.{Sent}

-- the addresses of the two nodes, 1.1 and 1.2
abbrev pub NODE_A : ℕ
NODE_A = 0x0401

abbrev pub NODE_B : ℕ
NODE_B = 0x0402

-- What a node does
pub data Act : Type 0 where
  Does : (at : Side) (event : LinkEventValue) → Act
  Sends : (from : Side) (bytes : List ℕ) → Act
  SendsAs : (from : Side) (src dst : ℕ) (bytes : List ℕ) → Act
  -- message k of the other node comes, counted from 0
  Comes : (to : Side) (k : ℕ) → Act
  -- it comes with another tag
  ComesAs : (to : Side) (k : ℕ) (tag : LinkTag) → Act
  -- a message without numbers comes that the other node did not send
  Gets : (to : Side) (src dst : ℕ) (bytes : List ℕ) (tag : LinkTag) → Act

-- a message that was sent, with what is true of it
pub record SentOne (K : Type 0) : Type 0 where
  pub packet : Carried
  pub truth : LinkTruth K

-- the links of one node, and what it has sent
pub record OneEnd (D K : Type 0) : Type 0 where
  pub state : LinksOf D
  pub sent : List (SentOne K)

pub record Both (D K : Type 0) : Type 0 where
  pub a : OneEnd D K
  pub b : OneEnd D K

-- what becomes of an act; it is not made where bytes are no message, or a message was not sent
pub data Becomes (X : Type 0) : Type 0 where
  Makes : (made : X) → Becomes X
  Refuses : (reason : LinkRefusal) → Becomes X
  Fails : Becomes X

abbrev into : {X Y : Type 0} → Becomes X → (X → Becomes Y) → Becomes Y
into (Makes made) f = f made
into (Refuses reason) f = Refuses reason
into Fails f = Fails

abbrev of_result : {X Y : Type 0} → (X → Y) → Result X LinkRefusal → Becomes Y
of_result f (Ok made) = Makes (f made)
of_result f (Err reason) = Refuses reason

abbrev if_there : {X : Type 0} → Option X → Becomes X
if_there None = Fails
if_there (Some x) = Makes x

-- the message of these bytes
abbrev read : (src dst : ℕ) → Result NspValue NspFault → Becomes Carried
read src dst (Ok message) = Makes (record { dst = dst; src = src; message = message })
read src dst (Err fault) = Fails

abbrev node : Side → ℕ
node A = NODE_A
node B = NODE_B

module _ {D K : Type 0} (book : SegmentBook D K) where
  abbrev end : Side → Both D K → OneEnd D K
  end A w = w.a
  end B w = w.b

  abbrev with_end : Side → Both D K → OneEnd D K → Both D K
  with_end A w own = record w { a = own }
  with_end B w own = record w { b = own }

  -- ---- what one end makes

  abbrev does : OneEnd D K → LinkEventValue → Becomes (OneEnd D K)
  does own event = of_result (λ (next : LinksOf D). record own { state = next }) (user_step Without book own.state event)

  abbrev sends : OneEnd D K → Carried → Becomes (OneEnd D K)
  sends own packet =
      of_result (λ (made : Sent D K). record { state = made.links; sent = own.sent ++ record { packet = packet; truth = made.truth } ∷ [] })
      (sent_step Without book own.state packet)

  abbrev arrives : OneEnd D K → Carried → LinkTruth K → Becomes (OneEnd D K)
  arrives own packet truth = of_result (λ (next : LinksOf D). record own { state = next }) (arrived_step Without book of_partner own.state packet
      truth)

  -- ---- what both make

  abbrev lands : Side → Both D K → Becomes (OneEnd D K) → Becomes (Both D K)
  lands at w own = into own (λ (e : OneEnd D K). Makes (with_end at w e))

  abbrev read_and_sent : Side → Both D K → (src dst : ℕ) → List ℕ → Becomes (Both D K)
  read_and_sent from w src dst bytes = lands from w (into (read src dst (nsp_at bytes)) (λ (packet : Carried). sends (end from w) packet))

  abbrev sent_by : Side → Both D K → (k : ℕ) → Becomes (SentOne K)
  sent_by from w k = if_there (slice_get (end from w).sent k)

  abbrev pub act : Both D K → Act → Becomes (Both D K)
  act w (Does at event) = lands at w (does (end at w) event)
  act w (Sends from bytes) = read_and_sent from w (node from) (node (other_side from)) bytes
  act w (SendsAs from src dst bytes) = read_and_sent from w src dst bytes
  act w (Comes to k) = lands to w (into (sent_by (other_side to) w k) (λ (one : SentOne K). arrives (end to w) one.packet one.truth))
  act w (ComesAs to k tag) =
      lands to w (into (sent_by (other_side to) w k) (λ (one : SentOne K). arrives (end to w) one.packet (record one.truth { tag = tag })))
  act w (Gets to src dst bytes tag) = lands to w (into (read src dst (nsp_at bytes))
      (λ (packet : Carried). arrives (end to w) packet (record { tag = tag; known = book.sends_other book.empty })))

  abbrev pub acts : Becomes (Both D K) → List Act → Becomes (Both D K)
  acts w [] = w
  acts (Makes w) (first ∷ later) = acts (act w first) later
  acts (Refuses reason) (first ∷ later) = Fails
  acts Fails (first ∷ later) = Fails

  abbrev new_end : (node peer : ℕ) → OneEnd D K
  new_end node peer = record { state = no_links node peer; sent = [] }

  abbrev pub after : List Act → Becomes (Both D K)
  after list = acts (Makes (record { a = new_end NODE_A NODE_B; b = new_end NODE_B NODE_A })) list

  -- whether all is made, or the reason why the last act is refused
  abbrev pub end_of : Becomes (Both D K) → Becomes (Unit {0})
  end_of w = into w (λ (made : Both D K). Makes tt)

  -- the links of one node, and the tag of message k that it sent
  abbrev pub links_of : Side → Becomes (Both D K) → Becomes (LinksOf D)
  links_of at w = into w (λ (made : Both D K). Makes (end at made).state)

  abbrev pub tag_in : Side → ℕ → Becomes (Both D K) → Becomes LinkTag
  tag_in from k w = into w (λ (made : Both D K). into (sent_by from made k) (λ (one : SentOne K). Makes one.truth.tag))

-- All is made, by both books; or the last act is refused, by both
abbrev pub AllMade : List Act → Type 0
AllMade list = (end_of true_segments (after true_segments list) ≡ Makes tt) × (end_of wire_segments (after wire_segments list) ≡ Makes tt)

abbrev pub LastRefused : LinkRefusal → List Act → Type 0
LastRefused reason list =
    (end_of true_segments (after true_segments list) ≡ Refuses reason) × (end_of wire_segments (after wire_segments list) ≡ Refuses reason)

-- What comes after these acts is made, and changes nothing at this node
abbrev pub ChangesNothing : Side → List Act → List Act → Type 0
ChangesNothing at list more =
    (links_of true_segments at (after true_segments (list ++ more)) ≡ links_of true_segments at (after true_segments list))
    × (links_of wire_segments at (after wire_segments (list ++ more)) ≡ links_of wire_segments at (after wire_segments list))
    × AllMade (list ++ more)

-- Message k of this node has this tag
abbrev pub HasTag : Side → ℕ → LinkTag → List Act → Type 0
HasTag from k tag list =
    (tag_in true_segments from k (after true_segments list) ≡ Makes tag) × (tag_in wire_segments from k (after wire_segments list) ≡ Makes tag)
