-- What an event for which the links gave a permit makes of them, and what holds of its link then; for private contracts and for proofs.
use Rattle.std.specs.Prelude.{◌≡◌, ℕ, ◌<◌, ◌≤◌, Bool, true, false, None, Some, List, [], length, drop, slice_get}
use Rattle.dna_links.specs.declared.port.LinkTest.TheVariants.{LiveAt}
use Rattle.dna_links.specs.declared.port.Phase.{Phase}
use Rattle.dna_links.specs.declared.port.Phase.TheVariants.{Disconnecting}
use Rattle.dna_links.specs.declared.queue.Queues.{Queues}
use Rattle.dna_links.specs.LookUps.{is_called, is_calling, is_live}
use Rattle.dna_links.specs.Links.{LinkOf, begun, changed, number_of, on_link, with_segments}
use Rattle.dna_links.specs.Queues.{booted, drops, freed, goes_to}
use Rattle.dna_links.specs.Segmentation.{in_order}
use Rattle.dna_links.specs.User.{LinkEventValue, In}
use Rattle.dna_links.specs.inner.Forms.{opened}
use Rattle.dna_links.specs.WireSegments.{WireSegments, wire_segments, hands_in}
use Rattle.dna_links.specs.WireLinks.{WireLinks}
use Rattle.nsp_link.specs.declared.permit.LinkUserPermit.{LinkUserPermit}
use Rattle.nsp_link.specs.declared.permit.LinkUserPermit.TheVariants.{Opens, Answers, HandsIn, Delivers, Closes, GivesUp, Boots}
use Rattle.nsp_link.specs.inner.Indexing.{CallsAt, KeepsAt, UsesAt}
use Rattle.nsp_link.specs.inner.Rows.{answered}

-- the message that is handed in
abbrev pub message_in : LinkEventValue → List ℕ
message_in (In own message) = message
message_in event = []

-- so many pieces at the front are delivered
abbrev pub without_pieces : ℕ → WireSegments → WireSegments
without_pieces count f = record f { variables = record f.variables { pieces = drop count f.variables.pieces } }

-- what is made where there is a link with this number, and else nothing
abbrev pub at_its_link : ℕ → WireLinks → (LinkOf WireSegments → WireLinks) → WireLinks
at_its_link number s made = on_link number (slice_get s.links number) s (λ n link. made link)

abbrev pub acted : Queues → (message : List ℕ) → WireLinks → LinkUserPermit → WireLinks
acted queues message s (Opens own) = begun (opened wire_segments own) (freed wire_segments queues own s)
acted queues message s (Answers number own phase) =
    at_its_link number s (λ link. changed number (answered queues phase own link) (freed wire_segments queues own s))
acted queues message s (HandsIn number) = at_its_link number s (λ link. changed number (with_segments (hands_in message link.segments) link) s)
acted queues message s (Delivers number pieces) =
    at_its_link number s (λ link. changed number (with_segments (without_pieces pieces link.segments) link) s)
acted queues message s (Closes number) = at_its_link number s (λ link. changed number (goes_to wire_segments queues Disconnecting link) s)
acted queues message s (GivesUp number) = at_its_link number s (λ link. changed number (drops wire_segments queues link) s)
acted queues message s Boots = booted wire_segments queues s

-- ---- what holds of the link

-- a call that is answered goes to this phase
abbrev pub IsAnswer : Phase → Type 0
IsAnswer phase = (is_live phase ≡ true) × (is_called phase ≡ false) × (is_calling phase ≡ false)

abbrev pub CalledAt : ℕ → WireLinks → Type 0
CalledAt number s = (link : LinkOf WireSegments) → slice_get s.links number ≡ Some link → is_called link.port.phase ≡ true

-- it has so many pieces of whole messages
abbrev pub HasPieces : (pieces : ℕ) → ℕ → WireLinks → Type 0
HasPieces pieces number s =
    (link : LinkOf WireSegments) → slice_get s.links number ≡ Some link → pieces ≤ in_order link.segments.variables.pieces

abbrev pub FitsEvent : Queues → (memory : Bool) → WireLinks → LinkUserPermit → Type 0
FitsEvent queues memory s (Opens own) = (number_of (LiveAt own) s ≡ None) × (memory ≡ true)
FitsEvent queues memory s (Answers number own phase) =
    (number < length s.links) × (number_of (LiveAt own) s ≡ None) × CalledAt number s × IsAnswer phase × (memory ≡ true)
FitsEvent queues memory s (HandsIn number) = (number < length s.links) × KeepsAt number s × (memory ≡ true)
FitsEvent queues memory s (Delivers number pieces) = (number < length s.links) × (1 ≤ pieces) × HasPieces pieces number s
FitsEvent queues memory s (Closes number) = (number < length s.links) × UsesAt queues number s × KeepsAt number s
FitsEvent queues memory s (GivesUp number) = (number < length s.links) × CallsAt queues number s
FitsEvent queues memory s Boots = Unit {0}
