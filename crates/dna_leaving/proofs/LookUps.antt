-- A test that names judged addresses finds no link that is left out, and finds among what is left what it found before.
use Rattle.dna_leaving.proofs.Prelude.{◌≡◌, ℕ, Bool, true, false, not, Option, Some, None, refl, sym, ap, ◌∙◌, arith, option_map, subst, ◌⊎◌, inl}
use Rattle.dna_leaving.proofs.Prelude.{inr, eqb-true, slice_get, position, and_parts, slice_get-map, Port, LinkTest, HasAddress, LiveAt, TheLink}
use Rattle.dna_leaving.proofs.Prelude.{LiveTo, OpenedAt, CallingAt, CalledBy, BegunBy, ActedOn, passes, is_at, is_live, is_connected, LinkOf}
use Rattle.dna_leaving.proofs.Prelude.{LinksOf, on_link, at_number, with_seen, IsFound, found, position-map, judged_of, rank, LeftOut, Judged}
use Rattle.dna_leaving.proofs.Prelude.{link_left, links_left, OwnFits, FarFits, AreFit}
use Rattle.dna_leaving.proofs.Judged.{position_judged, judged_at, was_judged}

-- ---- what a test names

pub not_same : (c b : Bool) → not c ≡ not b → c ≡ b
not_same true true e = refl
not_same false false e = refl
not_same true false e = absurd cc
not_same false true e = absurd cc

module _ (out : LeftOut) where
  -- this own address is judged, or left out; 0 is no link's
  abbrev pub NamesOwn : (is_judged : Bool) → ℕ → Type 0
  NamesOwn is_judged own = (own ≡ 0) ⊎ (out.own own ≡ not is_judged)

  -- and so is this far one, or it is 0, and that is so of 0 of this end
  abbrev pub NamesFar : (is_judged : Bool) → ℕ → Type 0
  NamesFar is_judged far = (out.far far ≡ not is_judged) ⊎ ((far ≡ 0) × (out.own 0 ≡ not is_judged))

  own_named : (b c : Bool) (known : Option ℕ) (n : ℕ) → is_at known n ≡ true → OwnFits out c known → NamesOwn b n → c ≡ b
  own_named b c None n at fits names = absurd cc
  own_named b c (Some own) n at fits (inl none) = let same = eqb-true own n at in let one = fits.0 in absurd (omega (arith, same, one, none))
  own_named b c (Some own) n at fits (inr is) = not_same c b (sym fits.1 ∙ ap out.own (eqb-true own n at) ∙ is)

  far_named : (b c : Bool) (known : Option ℕ) (n : ℕ) → is_at known n ≡ true → FarFits out c known → NamesFar b n → c ≡ b
  far_named b c None n at fits names = absurd cc
  far_named b c (Some far) n at fits (inl is) = not_same c b (sym fits.1 ∙ ap out.far (eqb-true far n at) ∙ is)
  far_named b c (Some far) n at fits (inr none) =
      let same : far ≡ 0 = eqb-true far n at ∙ none.0 in
      not_same c b (sym fits.1 ∙ ap out.far same ∙ sym (fits.0 same) ∙ none.1)

  abbrev pub Tests : (is_judged : Bool) → LinkTest → Type 0
  Tests is_judged (HasAddress own) = NamesOwn is_judged own
  Tests is_judged (LiveAt own) = NamesOwn is_judged own
  Tests is_judged (TheLink own far) = NamesOwn is_judged own ⊎ NamesFar is_judged far
  Tests is_judged (LiveTo far) = NamesFar is_judged far
  Tests is_judged (OpenedAt own) = NamesOwn is_judged own
  Tests is_judged (CallingAt own) = NamesOwn is_judged own
  Tests is_judged (CalledBy far) = NamesFar is_judged far
  Tests is_judged (BegunBy far) = NamesFar is_judged far
  Tests is_judged (ActedOn own far) = NamesOwn is_judged own ⊎ NamesFar is_judged far

  module _ (b c : Bool) (port : Port) (own_fits : OwnFits out c port.own) (far_fits : FarFits out c port.far) where
    by_own : (own : ℕ) → is_at port.own own ≡ true → NamesOwn b own → c ≡ b
    by_own own at names = own_named b c port.own own at own_fits names

    by_far : (far : ℕ) → is_at port.far far ≡ true → NamesFar b far → c ≡ b
    by_far far at names = far_named b c port.far far at far_fits names

    by_either : (own far : ℕ) → (is_at port.own own ≡ true) × (is_at port.far far ≡ true) → NamesOwn b own ⊎ NamesFar b far → c ≡ b
    by_either own far at (inl names) = by_own own at.0 names
    by_either own far at (inr names) = by_far far at.1 names

    -- a link that passes is what the test names
    test_of : (test : LinkTest) → passes test port ≡ true → Tests b test → c ≡ b
    test_of (HasAddress own) passed names = by_own own passed names
    test_of (LiveAt own) passed names = by_own own (and_parts (is_live port.phase) (is_at port.own own) passed).1 names
    test_of (TheLink own far) passed names =
        by_either own far (and_parts (is_at port.own own) (is_at port.far far) (and_parts (is_live port.phase) _ passed).1) names
    test_of (LiveTo far) passed names = by_far far (and_parts (is_live port.phase) (is_at port.far far) passed).1 names
    test_of (OpenedAt own) passed names = by_own own (and_parts port.opened (is_at port.own own) (and_parts (is_live port.phase) _ passed).1).1 names
    test_of (CallingAt own) passed names = by_own own (and_parts _ (is_at port.own own) passed).1 names
    test_of (CalledBy far) passed names = by_far far (and_parts _ (is_at port.far far) passed).1 names
    test_of (BegunBy far) passed names = by_far far (and_parts (not port.opened) (is_at port.far far) (and_parts
        (is_live port.phase) _ passed).1).1 names
    test_of (ActedOn own far) passed names =
        by_either own far (and_parts (is_at port.own own) (is_at port.far far) (and_parts (is_connected port.phase) _ passed).1) names

-- ---- look-ups

-- a port of a link, which has the link's addresses
pub record IsPort {D : Type 0} (port : LinkOf D → Port) : Type 0 where
  pub own : (l : LinkOf D) → (port l).own ≡ l.port.own
  pub far : (l : LinkOf D) → (port l).far ≡ l.port.far

abbrev pub its_port : {D : Type 0} → LinkOf D → Port
its_port l = l.port

pub port_is : {D : Type 0} → IsPort {D = D} its_port
port_is = record { own = λ l. refl; far = λ l. refl }

-- what holds of both ways to go on holds of the look-up
pub look_holds : {D R : Type 0} (Q : R → Type 0) (port : LinkOf D → Port) (test : LinkTest) (s : LinksOf D) (otherwise : R) (next : ℕ → LinkOf D →
    R) →
    Q otherwise → ((n : ℕ) (l : LinkOf D) → slice_get s.links n ≡ Some l → passes test (port l) ≡ true → Q (next n l)) →
    Q (with_seen port test s otherwise next)
look_holds {D} Q port test s otherwise next none some =
    go (position (λ (l : LinkOf D). passes test (port l)) s.links) (found (λ (l : LinkOf D). passes test (port l)) s.links)
  where
    go : (o : Option ℕ) → IsFound (λ (l : LinkOf D). passes test (port l)) s.links o → Q (at_number s.links o otherwise next)
    go None nobody = none
    go (Some n) (l, here) = subst (λ (o : Option (LinkOf D)). Q (on_link n o otherwise next)) (sym here.0) (some n l here.0 here.1)

module _ {D : Type 0} (out : LeftOut) (judged : Judged) (s : LinksOf D) (fit : AreFit out judged s) (port : LinkOf D → Port) (is_port : IsPort port)
    (test : LinkTest) where
  -- the link that is found is judged, or left out, as the test says
  pub found_is : (b : Bool) → Tests out b test → (n : ℕ) (l : LinkOf D) → slice_get s.links n ≡ Some l → passes test (port l) ≡ true →
      judged.here n ≡ b
  found_is b names n l there passed =
      let fits = fit n l there in
      test_of out b (judged.here n) (port l) (subst (OwnFits out (judged.here n)) (sym (is_port.own l)) fits.own)
      (subst (FarFits out (judged.here n)) (sym (is_port.far l)) fits.far) test passed names

  -- what holds of both ways to go on, with links as the test names them, holds of the look-up
  module _ {R : Type 0} (Q : R → Type 0) (b : Bool) (names : Tests out b test) (otherwise : R) (next : ℕ → LinkOf D → R) where
    pub seen_holds : Q otherwise → ((n : ℕ) (l : LinkOf D) → slice_get s.links n ≡ Some l → judged.here n ≡ b → Q (next n l)) →
        Q (with_seen port test s otherwise next)
    seen_holds none some = look_holds Q port test s otherwise next none (λ n l there passed. some n l there (found_is b names n l there passed))

  -- among what is left
  module _ (same : (λ (l : LinkOf D). port (link_left judged.there l)) ≡ port) where
    abbrev passed : LinkOf D → Bool
    passed l = passes test (port l)

    pub number_left : Tests out true test → position passed (links_left judged s).links ≡ option_map (rank judged.here) (position passed s.links)
    number_left names =
        position-map passed (link_left judged.there) (judged_of judged.here s.links)
        ∙ ap (λ (p : LinkOf D → Port). position (λ (l : LinkOf D). passes test (p l)) (judged_of judged.here s.links)) same
        ∙ position_judged passed judged.here s.links (λ n l there is_out. go n l there is_out (passed l) refl)
      where
        go : (n : ℕ) (l : LinkOf D) → slice_get s.links n ≡ Some l → judged.here n ≡ false → (b : Bool) → passed l ≡ b → passed l ≡ false
        go n l there is_out true e = let one : judged.here n ≡ true = found_is true names n l there e in absurd cc
        go n l there is_out false e = e

    pub link_is_left : (n : ℕ) (l : LinkOf D) → slice_get s.links n ≡ Some l → judged.here n ≡ true →
        slice_get (links_left judged s).links (rank judged.here n) ≡ Some (link_left judged.there l)
    link_is_left n l there is =
        slice_get-map (link_left judged.there) (judged_of judged.here s.links) (rank judged.here n)
        ∙ ap (option_map (link_left judged.there)) (judged_at judged.here s.links n is ∙ there)

    module _ {R R' : Type 0} (g : R → R') (otherwise : R) (otherwise' : R') (next : ℕ → LinkOf D → R) (next' : ℕ → LinkOf D → R') where
      -- a judged link goes on as what is left of it
      abbrev pub GoesAlong : Type 0
      GoesAlong = (n : ℕ) (l : LinkOf D) → slice_get s.links n ≡ Some l → judged.here n ≡ true →
          g (next n l) ≡ next' (rank judged.here n) (link_left judged.there l)

      pub seen_left : Tests out true test → g otherwise ≡ otherwise' → GoesAlong →
          g (with_seen port test s otherwise next) ≡ with_seen port test (links_left judged s) otherwise' next'
      seen_left names none along =
          go (position passed s.links) (found passed s.links)
          ∙ ap (λ (o : Option ℕ). at_number (links_left judged s).links o otherwise' next') (sym (number_left names))
        where
          go : (o : Option ℕ) → IsFound passed s.links o →
              g (at_number s.links o otherwise next) ≡ at_number (links_left judged s).links (option_map (rank judged.here) o) otherwise' next'
          go None nobody = none
          go (Some n) (l, here) =
              let is = found_is true names n l here.0 here.1 in
              ap (λ (o : Option (LinkOf D)). g (on_link n o otherwise next)) here.0 ∙ along n l here.0 is
              ∙ ap (λ (o : Option (LinkOf D)). on_link (rank judged.here n) o otherwise' next') (sym (link_is_left n l here.0 is))

    -- what names an address that is left out finds nothing among what is left
    module _ {R : Type 0} (otherwise : R) (next : ℕ → LinkOf D → R) (names : Tests out false test) where
      pub none_left : with_seen port test (links_left judged s) otherwise next ≡ otherwise
      none_left = go (position passed (links_left judged s).links) (found passed (links_left judged s).links)
        where
          was_there : (k : ℕ) (l : LinkOf D) (o : Option (LinkOf D)) → slice_get (judged_of judged.here s.links) k ≡ o →
              option_map (link_left judged.there) o ≡ Some l → passed l ≡ true → ⊥
          was_there k l None there e passed_l = absurd cc
          was_there k l (Some x) there e passed_l =
              let is = was_judged judged.here s.links k x there in
              let same_link : link_left judged.there x ≡ l = cc in
              let passed_x : passed x ≡ true = ap (λ (p : LinkOf D → Port). passes test (p x)) (sym same) ∙ ap passed same_link ∙ passed_l in
              let not_judged = found_is false names is.0 x is.2 passed_x in
              let one = is.1 in cc

          go : (o : Option ℕ) → IsFound passed (links_left judged s).links o → at_number (links_left judged s).links o otherwise next ≡ otherwise
          go None nobody = refl
          go (Some k) (l, here) =
              absurd (was_there k l (slice_get (judged_of judged.here s.links) k) refl
              (sym (slice_get-map (link_left judged.there) (judged_of judged.here s.links) k) ∙ here.0) here.1)
