-- A permit is given where the tables allow an event or a message, with what holds of its link then, and a check is named where they refuse it.
use Rattle.std.proofs.Common.{◌≡◌, ℕ, Bool, true, false, Option, Some, None, refl, sym, subst, ap, option_map}
use Rattle.std.specs.Prelude.{slice_get, Result, Ok, Err, IsOk, OnOk, IfOk, IfErr}
use Rattle.dna_station.specs.declared.link_refusal.LinkRefusal.{LinkRefusal}
use Rattle.dna_links.specs.declared.port.LinkTest.{LinkTest}
use Rattle.dna_links.specs.declared.queue.Queues.{Queues}
use Rattle.dna_links.specs.Links.{LinkOf, check, at_number, on_link}
use Rattle.dna_links.specs.Queues.{with_in_use}
use Rattle.dna_links.specs.WireSegments.{WireSegments}
use Rattle.dna_links.specs.WireLinks.{WireLinks}
use Rattle.nsp_link.specs.FailedSending.{unless}
use Rattle.nsp_link.specs.Missing.{refusal_in}
use Rattle.nsp_link.specs.inner.Rows.{found_in_use, number_in_use}
use Rattle.nsp_link.proofs.Rows.{in_use_same}

-- what fits a permit, what it makes, and the refusal of a check
module _ {P F M : Type 0} (fits : P → Type 0) (makes : P → M) (refusal_of : F → LinkRefusal) where
  abbrev pub Agrees : Result P F → Result M LinkRefusal → Type 0
  Agrees (Ok permit) made = fits permit × (made ≡ Ok (makes permit))
  Agrees (Err failed) made = made ≡ Err (refusal_of failed)

  pub unless_agrees : (b : Bool) (failed : F) (refusal : LinkRefusal) (answer : Result P F) (made : Result M LinkRefusal) →
      refusal_of failed ≡ refusal → (b ≡ true → Agrees answer made) → Agrees (unless b failed answer) (check b refusal made)
  unless_agrees true failed refusal answer made is rest = rest refl
  unless_agrees false failed refusal answer made is rest = ap Err (sym is)

  module _ (s : WireLinks) (answer : ℕ → LinkOf WireSegments → Result P F) (made : ℕ → LinkOf WireSegments → Result M LinkRefusal) where
    abbrev pub AgreeAt : ℕ → Type 0
    AgreeAt n = (l : LinkOf WireSegments) → slice_get s.links n ≡ Some l → Agrees (answer n l) (made n l)

    on_agrees : (n : ℕ) (k : Option (LinkOf WireSegments)) → slice_get s.links n ≡ k → (none : Result P F) (refuses : Result M LinkRefusal) →
        Agrees none refuses → AgreeAt n → Agrees (on_link n k none answer) (on_link n k refuses made)
    on_agrees n None is none refuses without there = without
    on_agrees n (Some l) is none refuses without there = there l is

    pub at_agrees : (r : Option ℕ) (none : Result P F) (refuses : Result M LinkRefusal) → Agrees none refuses →
        ((n : ℕ) → r ≡ Some n → AgreeAt n) → Agrees (at_number s.links r none answer) (at_number s.links r refuses made)
    at_agrees None none refuses without there = without
    at_agrees (Some n) none refuses without there = on_agrees n (slice_get s.links n) refl none refuses without (there n refl)

    pub use_agrees : (queues : Queues) (test : LinkTest) (none : Result P F) (refuses : Result M LinkRefusal) → Agrees none refuses →
        ((n : ℕ) → number_in_use queues test s ≡ Some n → AgreeAt n) →
        Agrees (with_in_use queues test s none answer) (with_in_use queues test s refuses made)
    use_agrees queues test none refuses without there =
        subst (λ (made_so : Result M LinkRefusal). Agrees (with_in_use queues test s none answer) made_so) (in_use_same test s refuses made queues)
        (subst (λ (answered : Result P F). Agrees answered (found_in_use queues test s refuses made)) (in_use_same test s none answer queues)
        (at_agrees (number_in_use queues test s) none refuses without there))

  -- ---- what follows

  pub same_by : (answer : Result P F) (made : Result M LinkRefusal) → Agrees answer made →
      option_map refusal_of (refusal_in answer) ≡ refusal_in made
  same_by (Ok permit) made h = sym (ap (λ (r : Result M LinkRefusal). refusal_in r) h.1)
  same_by (Err failed) made h = sym (ap (λ (r : Result M LinkRefusal). refusal_in r) h)

  pub refused_by : (answer : Result P F) (made : Result M LinkRefusal) → Agrees answer made → IfErr answer (λ failed. made ≡ Err (refusal_of failed))
  refused_by (Ok permit) made h = tt
  refused_by (Err failed) made h = h

  pub allowed_by : (answer : Result P F) (made : Result M LinkRefusal) → Agrees answer made → OnOk answer (IsOk made)
  allowed_by (Ok permit) made h = subst (λ (r : Result M LinkRefusal). IsOk r) (sym h.1) refl
  allowed_by (Err failed) made h = tt

  pub permit_by : (answer : Result P F) (made : Result M LinkRefusal) (permit : P) → answer ≡ Ok permit → Agrees answer made →
      fits permit × (made ≡ Ok (makes permit))
  permit_by answer made permit e h = subst (λ (r : Result P F). Agrees r made) e h

  module _ (answer asked : Result P F) (made : Result M LinkRefusal) (is : answer ≡ asked) (agrees : Agrees asked made) where
    pub answer_refuses : IfErr answer (λ failed. made ≡ Err (refusal_of failed))
    answer_refuses = subst (λ (r : Result P F). IfErr r (λ failed. made ≡ Err (refusal_of failed))) (sym is) (refused_by asked made agrees)

    pub answer_allows : OnOk answer (IsOk made)
    answer_allows = subst (λ (r : Result P F). OnOk r (IsOk made)) (sym is) (allowed_by asked made agrees)

-- ---- after a first check

permit_after : {P F : Type 0} (b : Bool) (failed : F) (r : Result P F) → IfOk (unless b failed r) (λ permit. r ≡ Ok permit)
permit_after true failed (Ok permit) = refl
permit_after true failed (Err e) = tt
permit_after false failed r = tt

made_after : {P F M : Type 0} (b : Bool) (failed : F) (r : Result P F) (refusal : LinkRefusal) (made : Result M LinkRefusal) →
    OnOk (unless b failed r) (check b refusal made ≡ made)
made_after true failed (Ok permit) refusal made = refl
made_after true failed (Err e) refusal made = tt
made_after false failed r refusal made = tt

module _ {P F : Type 0} (b : Bool) (failed : F) (answer r : Result P F) (is : answer ≡ unless b failed r) where
  pub permits : IfOk answer (λ permit. r ≡ Ok permit)
  permits = subst (λ (x : Result P F). IfOk x (λ permit. r ≡ Ok permit)) (sym is) (permit_after b failed r)

  pub goes_on : {M : Type 0} (refusal : LinkRefusal) (made : Result M LinkRefusal) → OnOk answer (check b refusal made ≡ made)
  goes_on refusal made = subst (λ (x : Result P F). OnOk x (check b refusal made ≡ made)) (sym is) (made_after b failed r refusal made)
