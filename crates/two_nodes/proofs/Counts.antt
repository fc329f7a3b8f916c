-- What becomes of a record at a keeper is, but for what it keeps, what becomes of it at a counter
use Rattle.std.proofs.Common.{◌≡◌, ◌+◌, ◌==◌, ℕ, zero, suc, Bool, true, false, if◌then◌else◌, Option, Some, None, Ok, Err, List, [], ◌∷◌, refl, sym}
use Rattle.std.proofs.Common.{ap, ◌∙◌}
use Rattle.std.specs.Prelude.{slice_get, option_map}
use Rattle.std.proofs.lemmas.List.{map-append}
use Rattle.std.proofs.lemmas.Option.{slice_get-map}
use Rattle.two_nodes.specs.Cutting.{Commutes, cut_half, cut_outcome}
use Rattle.two_nodes.specs.inner.Example.{Event, Fault, counter, counters, heard, told}
use Rattle.two_nodes.specs.inner.Example.Event.{Count, Tell, Hear}
use Rattle.two_nodes.specs.inner.Example.Fault.{Misheard}
use Rattle.two_nodes.specs.inner.Keeping.{Keeper, keeper, keepers, keeper_told, keeper_heard, counts_of, any_world}
use Rattle.two_nodes.specs.Kept.{IsKept}
use Rattle.two_nodes.specs.Nodes.{Half, advance, answered, concluded, read}
use Rattle.two_nodes.specs.Nodes.Outcome.{Made}

module _ (own other : Half Keeper ℕ) where
  tells_same : (count kept : ℕ) → answered (cut_half counts_of own) (cut_half counts_of other) (told count) ≡ cut_outcome counts_of
      (answered own other (keeper_told count kept))
  tells_same zero kept = refl
  tells_same (suc count) kept =
      ap (λ (sent : List ℕ). Made (record { state = suc count; sent = sent })) (sym (map-append (λ (unit : ℕ). unit) own.sent (suc count ∷ [])))

  concludes_same : (number : ℕ) (is : Bool) →
      concluded {Z = Fault} (cut_half counts_of own) (if is then Ok (own.state.count + number) else Err Misheard) ≡ cut_outcome counts_of
      (concluded own (if is then Ok (record { count = own.state.count + number; told = own.state.told }) else Err Misheard))
  concludes_same number true = refl
  concludes_same number false = refl

  hears_same : (number : ℕ) (unit : Option ℕ) →
      read (cut_half counts_of own) (heard own.state.count number) (option_map (λ (unit : ℕ). unit) unit) ≡ cut_outcome counts_of
      (read own (keeper_heard own.state number) unit)
  hears_same number None = refl
  hears_same number (Some unit) = concludes_same number (unit == number)

  pub same : (r : Event) → advance counter (cut_half counts_of own) (cut_half counts_of other) r ≡ cut_outcome counts_of (advance keeper own other r)
  same Count = refl
  same Tell = tells_same own.state.count own.state.told
  same (Hear k number) =
      ap (read (cut_half counts_of own) (heard own.state.count number)) (slice_get-map (λ (unit : ℕ). unit) other.sent k) ∙
      hears_same number (slice_get other.sent k)

pub commutes : Commutes keepers counters counts_of any_world
commutes = record {
  of_a = λ w made_a made_b r holds. same w.a w.b r;
  of_b = λ w made_a made_b r holds. same w.b w.a r;
}

pub is_kept : IsKept keepers any_world
is_kept = record {
  by_a = λ w made_a made_b r h holds made. tt;
  by_b = λ w made_a made_b r h holds made. tt;
}
