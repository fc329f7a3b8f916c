-- What bindings bring together, and the labels that tell it
use Rattle.std.proofs.Common.{◌≡◌, ◌⊎◌, ℕ, ◌+◌, ◌^◌, ◌<◌, List, [], ◌∷◌, ◌++◌, Some}
use Rattle.std.proofs.Common.{zero, suc, length, get_or, refl, sym, ap, ◌∙◌, subst, inl, inr, arith}
use Rattle.std.specs.List.{Contains, slice_get}
use Rattle.std.specs.Option.{option_map}
use Rattle.std.proofs.lemmas.Option.{slice_get-get_or, slice_get_past}
use Rattle.std.proofs.lemmas.Bool.{cases_lt}
use Rattle.std.proofs.lemmas.Bool.Decides.{nat_tests}
use Rattle.std.proofs.lemmas.List.Elements.{Contains-append_left, Contains-append_right, Contains-append_cases}
use Rattle.wire_base.specs.declared.Side.{Side}
use Rattle.wire_base.specs.declared.Side.TheVariants.{A, B}
use Rattle.link_groups.specs.declared.own_address.OwnAddress.{OwnAddress}
use Rattle.link_groups.specs.Place.{before, place_of}
use Rattle.link_groups.specs.Groups.{AreGroupsOf, AreTogether, Binding, label}
use Rattle.link_groups.specs.Groups.AreTogether.{Same, Bound, Back, Along}
use Rattle.link_groups.specs.inner.Labels.{AreNumbered, AreRelabelled, relabelled}

-- more bindings keep together what is together
pub together_still : (bindings more : List Binding) {one other : OwnAddress} → AreTogether bindings one other
    → AreTogether (bindings ++ more) one other
together_still bindings more (Same one) = Same one
together_still bindings more (Bound {one} {other} h) = Bound (Contains-append_left bindings more (one, other) h)
together_still bindings more (Back h) = Back (together_still bindings more h)
together_still bindings more (Along h g) = Along (together_still bindings more h) (together_still bindings more g)

-- the one binding of a list of one
only_one : (binding : Binding) (one other : OwnAddress) → Contains (binding ∷ []) (one, other) → binding ≡ (one, other)
only_one binding one other (zero, low, at) = at
only_one binding one other (suc k, low, at) = absurd (omega arith)

-- two labels that are one once relabelled
pub same_relabelled : (gone kept one other : ℕ) → relabelled gone kept one ≡ relabelled gone kept other
    → (one ≡ other) ⊎ (((one ≡ gone) × (other ≡ kept)) ⊎ ((one ≡ kept) × (other ≡ gone)))
same_relabelled gone kept one other e = grind (arith, nat_tests)

some_relabelled : (gone kept : ℕ) (old new : List ℕ) → AreRelabelled gone kept old new → (place : ℕ) → place < length old
    → slice_get new place ≡ Some (relabelled gone kept (get_or old place 0))
some_relabelled gone kept old new h place low =
    let inside : place < length new = omega (arith, h.count) in
    slice_get-get_or new place 0 inside ∙ ap Some (h.each place low)

-- the label of a place, also where there is none
relabelled_get : (gone kept : ℕ) (old new : List ℕ) → AreRelabelled gone kept old new → (place : ℕ)
    → slice_get new place ≡ option_map (relabelled gone kept) (slice_get old place)
relabelled_get gone kept old new h place =
    elim (cases_lt place (length old)) [
      | inl low ↦ some_relabelled gone kept old new h place low ∙ sym (ap (option_map (relabelled gone kept)) (slice_get-get_or old place 0 low))
      | inr high ↦ slice_get_past new place (omega (arith, h.count)) ∙ sym (ap (option_map (relabelled gone kept)) (slice_get_past old place high))
    ]

has_place : (one : OwnAddress) → one.address < 2 ^ 16 → place_of one < 131072
has_place one h = elim one.side as (λ side. before side + one.address < 131072) [ A ↦ omega arith | B ↦ omega arith ]

own : Side → ℕ → OwnAddress
own side address = record { side = side; address = address }

same_own : (a b : Side) (m n : ℕ) → m < 2 ^ 16 → n < 2 ^ 16 → before a + m ≡ before b + n → own a m ≡ own b n
same_own A A m n h g e = let same : m ≡ n = omega arith in ap (own A) same
same_own A B m n h g e = absurd (omega arith)
same_own B A m n h g e = absurd (omega arith)
same_own B B m n h g e = let same : m ≡ n = omega arith in ap (own B) same

same_place : (one other : OwnAddress) → one.address < 2 ^ 16 → other.address < 2 ^ 16 → place_of one ≡ place_of other → one ≡ other
unfolding own
same_place one other h g e = same_own one.side other.side one.address other.address h g e

-- where nothing is bound, each label is its place
pub groups_of_none : (labels : List ℕ) → AreNumbered labels → AreGroupsOf [] labels
groups_of_none labels h = record { together = together; apart = apart }
  where
    none_bound : (one other : OwnAddress) → Contains {X = Binding} [] (one, other) → label labels one ≡ label labels other
    none_bound one other (k, low, at) = absurd (omega arith)

    by : {one other : OwnAddress} → AreTogether [] one other → label labels one ≡ label labels other
    by (Same one) = refl
    by (Bound {one} {other} bound) = none_bound one other bound
    by (Back back) = sym (by back)
    by (Along first second) = by first ∙ by second

    together : (one other : OwnAddress) → AreTogether [] one other → label labels one ≡ label labels other
    together one other = λ h. by h

    at_place : (one : OwnAddress) → one.address < 2 ^ 16 → label labels one ≡ Some (place_of one)
    at_place one low =
        let inside : place_of one < 131072 = has_place one low in
        let within : place_of one < length labels = omega (arith, h.count) in
        slice_get-get_or labels (place_of one) 0 within ∙ ap Some (h.numbered (place_of one) inside)

    apart : (one other : OwnAddress) → one.address < 2 ^ 16 → other.address < 2 ^ 16 → label labels one ≡ label labels other
        → AreTogether [] one other
    apart one other low less e =
        let places : Some (place_of one) ≡ Some (place_of other) = sym (at_place one low) ∙ e ∙ at_place other less in
        let place : place_of one ≡ place_of other = cc in
        subst (AreTogether [] one) (same_place one other low less place) (Same one)

-- a binding of two that are together already
pub groups_of_same : (bindings : List Binding) (labels : List ℕ) (one other : OwnAddress) → AreGroupsOf bindings labels
    → label labels one ≡ label labels other → AreGroupsOf (bindings ++ (one, other) ∷ []) labels
groups_of_same bindings labels one other is same = record {
  together = λ a b h. by h;
  apart = λ a b low less e. together_still bindings ((one, other) ∷ []) (is.apart a b low less e);
}
  where
    by : {a b : OwnAddress} → AreTogether (bindings ++ (one, other) ∷ []) a b → label labels a ≡ label labels b
    by (Same a) = refl
    by (Bound {one = a} {other = b} bound) = elim (Contains-append_cases bindings ((one, other) ∷ []) (a, b) bound) [
      | inl already ↦ is.together a b (Bound already)
      | inr last ↦ let pair : (one, other) ≡ (a, b) = only_one (one, other) a b last in
          subst (λ (pair : Binding). label labels pair.0 ≡ label labels pair.1) pair same
    ]
    by (Back back) = sym (by back)
    by (Along first second) = by first ∙ by second

-- the label of a place that has one
abbrev label_in : List ℕ → OwnAddress → ℕ
label_in labels one = get_or labels (place_of one) 0

-- A binding of two that are not: all with the label of the one get that of the other
pub groups_of_merged : (bindings : List Binding) (binding : Binding) (old new : List ℕ) (gone kept : OwnAddress) (of_gone of_kept : ℕ)
    → AreGroupsOf bindings old → length old ≡ 131072 → AreRelabelled of_gone of_kept old new
    → gone.address < 2 ^ 16 → label old gone ≡ Some of_gone → kept.address < 2 ^ 16 → label old kept ≡ Some of_kept
    → AreTogether (bindings ++ binding ∷ []) gone kept → label new binding.0 ≡ label new binding.1
    → AreGroupsOf (bindings ++ binding ∷ []) new
groups_of_merged bindings binding old new gone kept of_gone of_kept is count moved gone_low gone_at kept_low kept_at tied ends =
    record { together = λ a b h. by h; apart = apart }
  where
    by : {a b : OwnAddress} → AreTogether (bindings ++ binding ∷ []) a b → label new a ≡ label new b
    by (Same a) = refl
    by (Bound {one = a} {other = b} bound) = elim (Contains-append_cases bindings (binding ∷ []) (a, b) bound) [
      | inl already ↦ relabelled_get of_gone of_kept old new moved (place_of a)
          ∙ ap (option_map (relabelled of_gone of_kept)) (is.together a b (Bound already))
          ∙ sym (relabelled_get of_gone of_kept old new moved (place_of b))
      | inr last ↦ subst (λ (pair : Binding). label new pair.0 ≡ label new pair.1) (only_one binding a b last) ends
    ]
    by (Back back) = sym (by back)
    by (Along first second) = by first ∙ by second

    still : {a b : OwnAddress} → AreTogether bindings a b → AreTogether (bindings ++ binding ∷ []) a b
    still h = together_still bindings (binding ∷ []) h

    was_at : (a : OwnAddress) → a.address < 2 ^ 16 → label old a ≡ Some (label_in old a)
    was_at a low =
        let inside : place_of a < 131072 = has_place a low in
        slice_get-get_or old (place_of a) 0 (omega (arith, count))

    becomes : (a : OwnAddress) → a.address < 2 ^ 16 → label new a ≡ Some (relabelled of_gone of_kept (label_in old a))
    becomes a low = relabelled_get of_gone of_kept old new moved (place_of a) ∙ ap (option_map (relabelled of_gone of_kept)) (was_at a low)

    -- one that had the label of another
    with : (a b : OwnAddress) → a.address < 2 ^ 16 → b.address < 2 ^ 16 → (the_label : ℕ) → label_in old a ≡ the_label → label old b ≡ Some the_label
        → AreTogether (bindings ++ binding ∷ []) a b
    with a b low less the_label e at = still (is.apart a b low less (was_at a low ∙ ap Some e ∙ sym at))

    apart : (a b : OwnAddress) → a.address < 2 ^ 16 → b.address < 2 ^ 16 → label new a ≡ label new b → AreTogether (bindings ++ binding ∷ []) a b
    apart a b low less e =
        let both : Some (relabelled of_gone of_kept (label_in old a)) ≡ Some (relabelled of_gone of_kept (label_in old b)) =
        sym (becomes a low) ∙ e ∙ becomes b less in
        let same : relabelled of_gone of_kept (label_in old a) ≡ relabelled of_gone of_kept (label_in old b) = cc in
        elim (same_relabelled of_gone of_kept (label_in old a) (label_in old b) same) [
          | inl equal ↦ with a b low less (label_in old b) equal (was_at b less)
          | inr either ↦ elim either [
            | inl (x, y) ↦ Along (with a gone low gone_low of_gone x gone_at) (Along tied (Back (with b kept less kept_low of_kept y kept_at)))
            | inr (x, y) ↦ Along (with a kept low kept_low of_kept x kept_at) (Along (Back tied) (Back (with b gone less gone_low of_gone y gone_at)))
          ]
        ]

-- two whose places have one label
pub same_label : (labels : List ℕ) (one other : OwnAddress) → length labels ≡ 131072 → one.address < 2 ^ 16 → other.address < 2 ^ 16
    → label_in labels one ≡ label_in labels other → label labels one ≡ label labels other
same_label labels one other count low less e =
    let inside : place_of one < 131072 = has_place one low in
    let within : place_of other < 131072 = has_place other less in
    slice_get-get_or labels (place_of one) 0 (omega (arith, count)) ∙ ap Some e
    ∙ sym (slice_get-get_or labels (place_of other) 0 (omega (arith, count)))

-- the same of labels of places: what `bind` makes, whichever end keeps its label
pub groups_of_joined : (bindings : List Binding) (binding : Binding) (old new : List ℕ) (gone kept : OwnAddress)
    → length old ≡ 131072 → AreRelabelled (label_in old gone) (label_in old kept) old new → gone.address < 2 ^ 16 → kept.address < 2 ^ 16
    → ((gone, kept) ≡ binding) ⊎ ((kept, gone) ≡ binding) → AreGroupsOf bindings old → AreGroupsOf (bindings ++ binding ∷ []) new
groups_of_joined bindings binding old new gone kept count moved gone_low kept_low ends is =
    groups_of_merged bindings binding old new gone kept _ _ is count moved gone_low (at gone gone_low) kept_low (at kept kept_low)
    (elim ends [ inl e ↦ Bound (bound gone kept e) | inr e ↦ Back (Bound (bound kept gone e)) ])
    (elim ends [
      | inl e ↦ subst (λ (pair : Binding). label new pair.0 ≡ label new pair.1) e both
      | inr e ↦ subst (λ (pair : Binding). label new pair.0 ≡ label new pair.1) e (sym both)
    ])
  where
    at : (a : OwnAddress) → a.address < 2 ^ 16 → label old a ≡ Some (label_in old a)
    at a low = let inside : place_of a < 131072 = has_place a low in slice_get-get_or old (place_of a) 0 (omega (arith, count))

    bound : (a b : OwnAddress) → (a, b) ≡ binding → Contains (bindings ++ binding ∷ []) (a, b)
    bound a b e = Contains-append_right bindings (binding ∷ []) (a, b) (0, omega arith, sym e)

    becomes : (a : OwnAddress) → a.address < 2 ^ 16 → label new a ≡ Some (relabelled (label_in old gone) (label_in old kept) (label_in old a))
    becomes a low = relabelled_get _ _ old new moved (place_of a) ∙ ap (option_map (relabelled (label_in old gone) (label_in old kept))) (at a low)

    one_label : relabelled (label_in old gone) (label_in old kept) (label_in old gone)
        ≡ relabelled (label_in old gone) (label_in old kept) (label_in old kept)
    one_label = grind (arith, nat_tests)

    both : label new gone ≡ label new kept
    both = becomes gone gone_low ∙ ap Some one_label ∙ sym (becomes kept kept_low)
