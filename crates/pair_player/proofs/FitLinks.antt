-- The links that an end keeps stay in their ranges: own addresses, and the bytes of what was handed in, sent and received.
use Rattle.std.proofs.Common.{◌≡◌, ℕ, Bool, true, false, cond, ◌&&◌, nat_le, Option, Some, None, List, [], ◌∷◌, refl, sym, subst}
use Rattle.std.specs.Prelude.{length, slice_get}
use Rattle.std.specs.List.{AllByRecursion}
use Rattle.std.specs.Option.{IfSome}
use Rattle.std.proofs.lemmas.Bool.{and_parts}
use Rattle.capture_record.specs.Range.{IsLink}
use Rattle.dna_packet.specs.declared.ack_word.AckWord.{AckWord}
use Rattle.dna_packet.specs.Nsp.{NspValue, SegmentValue, DataSegment}
use Rattle.dna_links.specs.declared.port.LinkTest.TheVariants.{ActedOn}
use Rattle.dna_play.specs.HasLine.{are_bytes}
use Rattle.dna_links.specs.SegmentBook.{REACH, distance, is_of_data}
use Rattle.dna_links.specs.LookUps.{has_both, is_connected, passes}
use Rattle.dna_links.specs.Segmentation.{Piece, piece_of}
use Rattle.dna_links.specs.WireSegments.{LinkVariables, acknowledged_by, acknowledged_by_all, acknowledged_to, held, segment_taken, with_pieces}
use Rattle.dna_play.specs.NextSent.{LinkEnd}
use Rattle.dna_play.specs.StoredEnd.{StoredLinks}
use Rattle.dna_play.specs.StoredLinks.{Delivering, begun, called, changed, delivering_at, delivering_none, message_came, no_segments, took_segment}
use Rattle.dna_play.specs.StoredPlay.{arrived, up_address}
use Rattle.dna_links.proofs.Runs.Reads.{at_is}
use Rattle.dna_play.proofs.Links.Fits.{AreMessages, PieceFits}
use Rattle.dna_play.proofs.Links.Looked.{came, looked}
use Rattle.dna_play.proofs.EachElement.{left_all, more_all, there, with_all, without_all}
use Rattle.pair_player.proofs.Carried.{SegmentBytes}
use Rattle.pair_player.proofs.PiecesWaiting.{AreOfBytes, held_bytes, left_bytes, whole_bytes}

-- ---- one link

pub record VariablesFit (k : LinkVariables) : Type 0 where
  pub unsent : AreMessages k.unsent.messages
  pub outstanding : AllByRecursion PieceFits k.outstanding
  pub pieces : AreOfBytes k.pieces

-- its own address, if it has one, and its segments
pub record Fit (own : Option ℕ) (variables : LinkVariables) : Type 0 where
  pub own_fits : IfSome own IsLink
  pub segments : VariablesFit variables

abbrev pub LinkFits : LinkEnd → Type 0
LinkFits link = Fit link.port.own link.variables

-- nothing was handed in, sent or received
pub new_fits : (own : Option ℕ) → IfSome own IsLink → Fit own no_segments
new_fits own h = record { own_fits = h; segments = record { unsent = tt; outstanding = tt; pieces = tt } }

-- ---- its segments

acked_one : (b : Bool) (k : LinkVariables) (number : ℕ) → VariablesFit k → VariablesFit (acknowledged_to b k number)
acked_one true k number h =
    let fewer = left_all PieceFits (distance k.acknowledged number) k.outstanding h.outstanding in
    record { unsent = h.unsent; outstanding = fewer; pieces = h.pieces }
acked_one false k number h = h

acked : (words : List AckWord) (k : LinkVariables) → VariablesFit k → VariablesFit (acknowledged_by_all words k)
acked [] k h = h
acked (word ∷ words) k h = acked words (acknowledged_by k word)
    (acked_one (is_of_data word.qualifier && nat_le (distance k.acknowledged word.number) (length k.outstanding)) k word.number h)

with_segment_fits : (b : Bool) (above : ℕ) (p : Piece) (k : LinkVariables) → are_bytes p.body ≡ true → VariablesFit k →
    VariablesFit (cond b (with_pieces (held above p k) k) k)
with_segment_fits true above p k e h = record { unsent = h.unsent; outstanding = h.outstanding; pieces = held_bytes _ p k.pieces e h.pieces }
with_segment_fits false above p k e h = h

segment_fits : (s : SegmentValue) (k : LinkVariables) → are_bytes s.body ≡ true → VariablesFit k →
    VariablesFit (segment_taken s (acknowledged_by_all s.acks k))
segment_fits s k e h =
    let after = acknowledged_by_all s.acks k in let above = distance after.received s.number in
    with_segment_fits (nat_le 1 above && nat_le above REACH) above (piece_of s) after e (acked s.acks k h)

-- ---- all of them

abbrev pub AllFit : List LinkEnd → Type 0
AllFit links = AllByRecursion LinkFits links

module _ (s : StoredLinks) (h : AllFit s.links) where
  pub fits_at : (place : ℕ) (link : LinkEnd) → slice_get s.links place ≡ Some link → LinkFits link
  fits_at place link at = there LinkFits s.links place link h at

  pub changes : (place : ℕ) (after : LinkEnd) → LinkFits after → AllFit (changed place after s).links
  changes place after fits = with_all LinkFits s.links place after h fits

  pub begins : (link : LinkEnd) → LinkFits link → AllFit (begun link s).links
  begins link fits = more_all LinkFits s.links (link ∷ []) h (fits, tt)

  comes : (m : NspValue) → AllFit (message_came m s).links
  comes m = came AllFit s h (λ far. begins (called far) (new_fits None tt)) (λ place. without_all LinkFits s.links place h)
      (λ place link after at words own took. let fits = fits_at place link at in changes place after (record {
        own_fits = subst (λ (o : Option ℕ). IfSome o IsLink) (sym own) fits.own_fits;
        segments = subst VariablesFit (sym took) (acked words link.variables fits.segments);
      })) m

-- ---- what is delivered at once

-- its link has this address
abbrev pub IsOfLink : ℕ → List ℕ → Type 0
IsOfLink own message = IsLink own × (are_bytes message ≡ true)

pub record Gets (own : ℕ) (d : Delivering) : Type 0 where
  pub fits : AllFit d.links.links
  pub messages : AllByRecursion (IsOfLink own) d.messages

of_link : (own : ℕ) (messages : List (List ℕ)) → IsLink own → AreMessages messages → AllByRecursion (IsOfLink own) messages
of_link own [] link h = tt
of_link own (message ∷ later) link h = ((link, h.0), of_link own later link h.1)

module _ (s : StoredLinks) (h : AllFit s.links) where
  gets_at : (segment : SegmentValue) → are_bytes segment.body ≡ true → (place : ℕ) (link : LinkEnd) → slice_get s.links place ≡ Some link →
      passes (ActedOn segment.dstaddr segment.srcaddr) link.port ≡ true → Gets segment.dstaddr (delivering_at place (took_segment segment link) s)
  gets_at segment e place link at passed =
      let fits = fits_at s h place link at in
      let both = (and_parts (is_connected link.port.phase) (has_both link.port segment.dstaddr segment.srcaddr) passed).1 in
      let own : IsLink segment.dstaddr = subst (λ (o : Option ℕ). IfSome o IsLink) (at_is link.port.own segment.dstaddr (and_parts _ _ both).0)
      fits.own_fits in
      let taken = segment_fits segment link.variables e fits.segments in
      let pieces = (took_segment segment link).variables.pieces in
      record {
        fits = changes s h place _ (record {
          own_fits = fits.own_fits;
          segments = record { unsent = taken.unsent; outstanding = taken.outstanding; pieces = left_bytes _ pieces taken.pieces };
        });
        messages = of_link segment.dstaddr _ own (whole_bytes [] pieces refl taken.pieces);
      }

  pub gets : (message : Option NspValue) → IfSome message SegmentBytes → Gets (up_address message) (arrived message s)
  gets None e = record { fits = h; messages = tt }
  gets (Some (DataSegment segment)) e = looked (Gets segment.dstaddr) (ActedOn segment.dstaddr segment.srcaddr) s (delivering_none s)
      (λ place link. delivering_at place (took_segment segment link) s) (record { fits = h; messages = tt }) (gets_at segment e)
  gets (Some m) e = record { fits = comes s h m; messages = tt }
