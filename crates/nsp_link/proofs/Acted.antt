-- What is made of a link by its number is what becomes of the links.
use Rattle.std.proofs.Common.{◌≡◌, ℕ, ◌<◌, Bool, true, Option, Some, None, Result, Ok, Err, OnOk, OnErr, IfErr, length, refl, sym, ap, ◌∙◌}
use Rattle.std.specs.Prelude.{slice_get}
use Rattle.dna_packet.specs.Nsp.{SegmentValue}
use Rattle.dna_links.specs.Links.{LinkOf, on_link}
use Rattle.dna_links.specs.WireSegments.{WireSegments}
use Rattle.dna_links.specs.WireLinks.{WireLinks}
use Rattle.nsp_link.specs.Segments.{is_held}
use Rattle.nsp_link.specs.inner.Acted.{at_its_link}
use Rattle.nsp_link.specs.inner.Taken.{HoldsAs}
use Rattle.nsp_link.proofs.Found.{some_there}

module _ (n : ℕ) (s : WireLinks) (made : LinkOf WireSegments → WireLinks) where
  pub made_of : (l : LinkOf WireSegments) → slice_get s.links n ≡ Some l → made l ≡ at_its_link n s made
  made_of l is = sym (ap (λ (k : Option (LinkOf WireSegments)). on_link n k s (λ m link. made link)) is)

  module _ (within : n < length s.links) where
    pub becomes_there : (new : WireLinks) → ((l : LinkOf WireSegments) → slice_get s.links n ≡ Some l → new ≡ made l) → new ≡ at_its_link n s made
    becomes_there new each = by_link (slice_get s.links n) refl where
      by_link : (k : Option (LinkOf WireSegments)) → slice_get s.links n ≡ k → new ≡ at_its_link n s made
      by_link None is = absurd (some_there s.links n within is)
      by_link (Some l) is = each l is ∙ made_of l is

    pub becomes_if_ok : {A E : Type 0} (r : Result A E) (new : WireLinks) →
        ((l : LinkOf WireSegments) → slice_get s.links n ≡ Some l → OnOk r (new ≡ made l)) → OnOk r (new ≡ at_its_link n s made)
    becomes_if_ok (Ok x) new each = becomes_there new each
    becomes_if_ok (Err e) new each = tt

-- memory that a segment wants is taken where the segment is held
pub held_memory : {A E : Type 0} (n : ℕ) (s : WireLinks) → n < length s.links → (segment : SegmentValue) (memory : Bool) →
    HoldsAs segment memory n s →
    (r : Result A E) → ((l : LinkOf WireSegments) → slice_get s.links n ≡ Some l → IfErr r (λ e. is_held segment l.segments.variables ≡ true)) →
    OnErr r (memory ≡ true)
held_memory n s within segment memory holds (Ok x) held = tt
held_memory n s within segment memory holds (Err e) held = by_link (slice_get s.links n) refl where
  by_link : (k : Option (LinkOf WireSegments)) → slice_get s.links n ≡ k → memory ≡ true
  by_link None is = absurd (some_there s.links n within is)
  by_link (Some l) is = sym (holds l is) ∙ held l is

pub ruleset made_there = (becomes_there, becomes_if_ok, held_memory)
