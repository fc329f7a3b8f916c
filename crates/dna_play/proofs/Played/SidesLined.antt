-- What is whole of the links of a side has lines, where the records of both sides' users have.
use Rattle.dna_play.proofs.Prelude.{◌≡◌, ℕ, Some, List, [], drop, slice_get, and_parts, NspValue, DataSegment, ActedOn, is_at, is_connected}
use Rattle.dna_play.proofs.Prelude.{has_both, LinkOf, LinkEventValue, TrueSegments, IsCut, LinkSide, complete, IsFound, at_is, IsSoundSide}
use Rattle.dna_play.proofs.Prelude.{AreOwned}
use Rattle.dna_play.proofs.Links.Pays as owing
use Rattle.dna_play.proofs.Ends.UpsFollow.{AllLined, IsLined}
use Rattle.dna_play.proofs.Played.HandedLined.{AreMessages, EventsLined, link_handed_lined, address_lined, whole_lined, all_lined}

module _ (own other : LinkSide) (events further : List LinkEventValue) (h : IsSoundSide own other) (theirs : IsSoundSide other own)
    (owned : AreOwned events own.links.links) (others : AreOwned further other.links.links) (lined : EventsLined events)
    (others_lined : EventsLined further) where
  theirs_lined : (i : ℕ) (l : LinkOf TrueSegments) → slice_get other.links.links i ≡ Some l → IsCut l.segments × AreMessages l.segments.handed
  theirs_lined i l at = ((theirs.ends i l at).segments.cut, link_handed_lined further l (others.place_of i) (others.owned i l at).read others_lined)

  link_lined : (address i : ℕ) (l : LinkOf TrueSegments) → slice_get own.links.links i ≡ Some l → l.port.own ≡ Some address →
      AllLined address (complete [] (owing.variables_of l).pieces)
  link_lined address i l at owns = all_lined address (complete [] (drop l.segments.passed l.segments.received))
      (address_lined events address l.port.own (owned.place_of i) (owned.owned i l at).holds owns lined)
      (whole_lined l.segments l.partner other.links.links (h.ends i l at).segments.passed (h.ends i l at).held theirs_lined)

  segment_lined : (address far number : ℕ) (link : LinkOf TrueSegments) → IsFound (ActedOn address far) own.links number link →
      AllLined address (complete [] (owing.variables_of link).pieces)
  segment_lined address far number link found =
      let both = (and_parts (is_connected link.port.phase) (has_both link.port address far) found.passed).1 in
      link_lined address number link found.there
      (at_is link.port.own address (and_parts (is_at link.port.own address) (is_at link.port.far far) both).0)

  pub is_lined : (m : NspValue) → IsLined own.links m
  is_lined (DataSegment segment) = segment_lined segment.dstaddr segment.srcaddr
  is_lined m = tt
