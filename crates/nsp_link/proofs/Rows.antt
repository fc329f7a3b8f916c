-- The rows of `Table` come to what `Rows` of `specs/inner` says.
use Rattle.std.proofs.Common.{◌≡◌, ℕ, Option, Some, None, refl}
use Rattle.std.specs.Prelude.{slice_get, position}
use Rattle.dna_links.specs.declared.port.LinkTest.{LinkTest}
use Rattle.dna_links.specs.declared.queue.Queues.{Queues}
use Rattle.dna_links.specs.declared.queue.Queues.TheVariants.{Without, With}
use Rattle.dna_links.specs.LookUps.{passes}
use Rattle.dna_links.specs.Links.{LinkOf, number_of, at_number, on_link}
use Rattle.dna_links.specs.Queues.{in_use, with_in_use}
use Rattle.dna_links.specs.WireSegments.{WireSegments}
use Rattle.dna_links.specs.WireLinks.{WireLinks}
use Rattle.nsp_link.specs.inner.Rows.{first_of, found_in_use}
use Rattle.nsp_link.proofs.Found.{number_within, some_there}

-- ---- a link in use

module _ {R : Type 0} (test : LinkTest) (s : WireLinks) (otherwise : R) (next : ℕ → LinkOf WireSegments → R) where
  abbrev seen : Option ℕ
  seen = position (λ (l : LinkOf WireSegments). passes test (in_use With l)) s.links

  on_there : (n : ℕ) (o : Option (LinkOf WireSegments)) → slice_get s.links n ≡ o → number_of test s ≡ Some n →
      on_link n o otherwise next ≡ on_link n o (at_number s.links seen otherwise next) next
  on_there n None is e = absurd (some_there s.links n (number_within test s n e) is)
  on_there n (Some l) is e = refl

  first_same : (r : Option ℕ) → number_of test s ≡ r →
      at_number s.links (first_of r seen) otherwise next ≡ at_number s.links r (at_number s.links seen otherwise next) next
  first_same None e = refl
  first_same (Some n) e = on_there n (slice_get s.links n) refl e

  pub in_use_same : (queues : Queues) → found_in_use queues test s otherwise next ≡ with_in_use queues test s otherwise next
  in_use_same Without = refl
  in_use_same With = first_same (number_of test s) refl
