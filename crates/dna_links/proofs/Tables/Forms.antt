-- What a message that ends links makes of them is never refused.
use Rattle.std.proofs.Common.{◌≡◌, ℕ, Option, Some, None, Result, Ok, refl}
use Rattle.std.specs.Prelude.{slice_get}
use Rattle.dna_station.specs.declared.link_refusal.LinkRefusal.{LinkRefusal}
use Rattle.dna_links.specs.Queues.{ended}
use Rattle.dna_links.specs.declared.port.LinkTest.{LinkTest}
use Rattle.dna_links.specs.declared.port.LinkTest.TheVariants.{TheLink, CallingAt}
use Rattle.dna_links.specs.SegmentBook.{SegmentBook}
use Rattle.dna_links.specs.Links.{LinkOf, LinksOf, number_of, on_link, at_number, with_link, changed}
use Rattle.dna_links.specs.Arriving.{PartnerRule}
use Rattle.dna_links.specs.inner.Forms.{ends_link, ends_by}

module _ {D R : Type 0} (test : LinkTest) (s : LinksOf D) (none : R) (none' : Result R LinkRefusal) (some : ℕ → LinkOf D → R)
    (same : none' ≡ Ok none) where
  on_ok : (number : ℕ) (o : Option (LinkOf D)) → on_link number o none' (λ n l. Ok (some n l)) ≡ Ok (on_link number o none some)
  on_ok number None = same
  on_ok number (Some link) = refl

  at_ok : (o : Option ℕ) → at_number s.links o none' (λ n l. Ok (some n l)) ≡ Ok (at_number s.links o none some)
  at_ok None = same
  at_ok (Some number) = on_ok number (slice_get s.links number)

  pub with_link_ok : with_link test s none' (λ n l. Ok (some n l)) ≡ Ok (with_link test s none some)
  with_link_ok = at_ok (number_of test s)

module _ {D K : Type 0} (book : SegmentBook D K) (rule : PartnerRule) (own far : ℕ) (s : LinksOf D) where
  pub ends_ok : ends_by book rule own far s ≡ Ok (ends_link book rule own far s)
  ends_ok =
      with_link_ok (TheLink own far) s (with_link (CallingAt own) s s (λ number link. changed number (ended book link) s)) _
      (λ number link. changed number (ended book link) s)
      (with_link_ok (CallingAt own) s s (Ok s) (λ number link. changed number (ended book link) s) refl)
