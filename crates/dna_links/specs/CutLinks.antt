-- The links of a node on true numbers, cut to what it keeps of them, and what has to hold of them for that.
use Rattle.std.specs.Prelude.{◌≡◌, ℕ, Bool, true, false, Option, Some, None, [], map, slice_get, Result, Ok, Err}
use Rattle.dna_packet.specs.Nsp.{NspValue, DataSegment, DataAck}
use Rattle.dna_station.specs.declared.link_refusal.LinkRefusal.{LinkRefusal}
use Rattle.dna_links.specs.LookUps.{is_live, is_running, passes}
use Rattle.dna_links.specs.declared.port.Port.{Port}
use Rattle.dna_links.specs.declared.queue.Queues.{Queues}
use Rattle.dna_links.specs.declared.queue.Queues.TheVariants.{Without, With}
use Rattle.dna_links.specs.Queues.{keeps_numbers}
use Rattle.dna_links.specs.declared.port.LinkTest.TheVariants.{ActedOn}
use Rattle.dna_links.specs.SegmentBook.{wire}
use Rattle.dna_links.specs.Links.{LinkOf, LinkTruth}
use Rattle.dna_links.specs.Sending.{Sent}
use Rattle.dna_links.specs.Arriving.{PartnerRule, is_of_pair}
use Rattle.dna_links.specs.TrueSegments.{TrueSegments, Numbers}
use Rattle.dna_links.specs.WireSegments.{WireSegments, empty, ends}
use Rattle.dna_links.specs.CutSegments.{cut, IsOrdered, IsAnswered, Spells, AcksAreNear, SegmentIsNear}
use Rattle.dna_links.specs.TrueLinks.{Links}
use Rattle.dna_links.specs.WireLinks.{WireLinks}

-- The segments of a link that may yet send or take them; what is left of another while it has its own address; and nothing where it has not
abbrev pub cut_as : (live : Bool) → (own : Option ℕ) → TrueSegments → WireSegments
cut_as true own f = cut f
cut_as false (Some own) f = ends (cut f)
cut_as false None f = empty

abbrev pub is_kept : Queues → LinkOf TrueSegments → Bool
is_kept Without l = is_live l.port.phase
is_kept With l = keeps_numbers l

abbrev pub cut_link : Queues → LinkOf TrueSegments → LinkOf WireSegments
cut_link queues l = record {
  port = l.port;
  partner = l.partner;
  segsize = l.segsize;
  segments = cut_as (is_kept queues l) l.port.own l.segments;
  queue = l.queue;
}

abbrev pub cut_links : Queues → Links → WireLinks
cut_links queues s = record { node = s.node; peer = s.peer; links = map (cut_link queues) s.links }

-- what becomes of the links, cut
abbrev pub cut_result : Queues → Result Links LinkRefusal → Result WireLinks LinkRefusal
cut_result queues (Ok s) = Ok (cut_links queues s)
cut_result queues (Err reason) = Err reason

-- and what is answered of a message that is sent: of what is true of it, a node has the tag
abbrev pub cut_sent : Queues → Result (Sent TrueSegments Numbers) LinkRefusal → Result (Sent WireSegments (Unit {0})) LinkRefusal
cut_sent queues (Ok sent) = Ok (record { links = cut_links queues sent.links; truth = record { tag = sent.truth.tag; known = tt } })
cut_sent queues (Err reason) = Err reason

-- ---- what has to hold

-- Of one link: the numbers of its segments are in order; in RUN its last acknowledgement is at most 2,047 below the highest received; and while a
-- live link has no own address, nothing has come on it
pub record IsLinkOrdered (l : LinkOf TrueSegments) : Type 0 where
  pub segments : IsOrdered l.segments
  pub answered : is_running l.port.phase ≡ true → IsAnswered l.segments
  pub fresh : is_live l.port.phase ≡ true → l.port.own ≡ None → l.segments.received ≡ []

abbrev pub AreOrdered : Links → Type 0
AreOrdered s = (number : ℕ) (l : LinkOf TrueSegments) → slice_get s.links number ≡ Some l → IsLinkOrdered l

-- the numbers of a message that comes to these segments are near their own, and its bytes have them
abbrev pub ComesNear : TrueSegments → NspValue → Numbers → Type 0
ComesNear f (DataSegment s) known =
    Spells s.acks known.acknowledgements × (s.number ≡ wire known.segment) × AcksAreNear f known.acknowledgements × SegmentIsNear f known.segment
ComesNear f (DataAck dst src acks) known = Spells acks known.acknowledgements × AcksAreNear f known.acknowledgements
ComesNear f m known = Unit {0}

-- a message with numbers is for the link with this port
abbrev pub IsActedOn : NspValue → Port → Type 0
IsActedOn (DataSegment s) port = passes (ActedOn s.dstaddr s.srcaddr) port ≡ true
IsActedOn (DataAck dst src acks) port = passes (ActedOn dst src) port ≡ true
IsActedOn m port = ⊥

-- where a link acts on the message, and the rule on partners lets it, the numbers are near
abbrev pub ArrivesNear : PartnerRule → Links → NspValue → LinkTruth Numbers → Type 0
ArrivesNear rule s m truth = (number : ℕ) (l : LinkOf TrueSegments) → slice_get s.links number ≡ Some l
    → IsActedOn m l.port → rule (is_of_pair number l.partner truth.tag) ≡ true → ComesNear l.segments m truth.known
