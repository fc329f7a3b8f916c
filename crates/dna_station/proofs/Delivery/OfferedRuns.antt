-- From what the stations of a run took and gave to what their captures say.
use Rattle.std.proofs.Common.{◌≡◌, ℕ, Option, Some, None, List, [], ◌∷◌, ◌++◌, flat_map, refl, sym, ap, subst, ◌∙◌, append-nil}
use Rattle.std.specs.Prelude.{slice_get}
use Rattle.std.proofs.Math.ListN.{get_or, get_or-map}
use Rattle.std.proofs.lemmas.Option.{get_or_from_slice_get}
use Rattle.std.proofs.lemmas.List.{get_or_past}
use Rattle.std.proofs.lemmas.List.Folds.{flat_map-map}
use Rattle.std.proofs.lemmas.Grind.{flat_map-append}
use Rattle.two_nodes.proofs.Reached.{slice_get_none}
use Rattle.capture_record.specs.declared.record.Record.{Record}
use Rattle.dna_station.specs.Station.{Station, PastPeriod, past, all_given}
use Rattle.dna_station.specs.Delivery.{AreAmong, DeliversFrom, IsDelivered, all_taken, delivered, periods, taken_by_period}
use Rattle.two_nodes.specs.Beginning.{BeginsWith}
use Rattle.dna_station.specs.Offered.{Delivers, IsBeginning, all_of, given_by_period, offered, partners}

-- what stands where there is no period
abbrev no_period : PastPeriod
no_period = record { partner = None; given = []; taken = [] }

beginning : (other : Station) (partner : Option ℕ) (taken : List (List ℕ)) → IsDelivered partner taken (periods other) →
    IsBeginning partner taken (given_by_period other)
beginning other None taken d = d
beginning other (Some partner) taken d =
    let there : get_or (given_by_period other) partner [] ≡ d.0.given =
    get_or-map (λ (period : PastPeriod). period.given) (periods other) partner no_period ∙
    ap (λ (period : PastPeriod). period.given) (get_or_from_slice_get (periods other) partner d.0 no_period d.1) in
    subst (λ (packets : List (List ℕ)). BeginsWith packets taken) (sym there) d.2

in_period : (own other : Station) (q : ℕ) (period : PastPeriod) → IsBeginning period.partner period.taken (given_by_period other) →
    get_or (periods own) q no_period ≡ period →
    IsBeginning (get_or (partners own) q None) (get_or (taken_by_period own) q []) (given_by_period other)
in_period own other q period begins is =
    let partner : get_or (partners own) q None ≡ period.partner =
    get_or-map (λ (p : PastPeriod). p.partner) (periods own) q no_period ∙ ap (λ (p : PastPeriod). p.partner) is in
    let taken : get_or (taken_by_period own) q [] ≡ period.taken =
    get_or-map (λ (p : PastPeriod). p.taken) (periods own) q no_period ∙ ap (λ (p : PastPeriod). p.taken) is in
    subst (λ (o : Option ℕ). IsBeginning o (get_or (taken_by_period own) q []) (given_by_period other)) (sym partner)
    (subst (λ (packets : List (List ℕ)). IsBeginning period.partner packets (given_by_period other)) (sym taken) begins)

each_period : (own other : Station) → DeliversFrom own other → (q : ℕ) →
    IsBeginning (get_or (partners own) q None) (get_or (taken_by_period own) q []) (given_by_period other)
each_period own other d q = go (slice_get (periods own) q) refl
  where
    go : (o : Option PastPeriod) → slice_get (periods own) q ≡ o → IsBeginning (get_or (partners own) q None) (get_or (taken_by_period own) q [])
        (given_by_period other)
    go (Some period) at =
        in_period own other q period (beginning other period.partner period.taken (d q period at))
        (get_or_from_slice_get (periods own) q period no_period at)
    go None at = in_period own other q no_period refl (get_or_past (periods own) q no_period (slice_get_none (periods own) q at))

all_taken_is : (s : Station) → all_of (taken_by_period s) ≡ all_taken s
all_taken_is s = flat_map-map (λ (packets : List (List ℕ)). packets) (λ (period : PastPeriod). period.taken) (periods s)

all_given_is : (s : Station) → all_of (given_by_period s) ≡ all_given s
all_given_is s =
    flat_map-map (λ (packets : List (List ℕ)). packets) (λ (period : PastPeriod). period.given) (periods s)
    ∙ flat_map-append (λ (period : PastPeriod). period.given) s.earlier (past s ∷ [])
    ∙ ap (λ (packets : List (List ℕ)). flat_map (λ (period : PastPeriod). period.given) s.earlier ++ packets) (append-nil s.packets)

pub delivers : (own other : Station) (of_own of_other : List Record) → DeliversFrom own other → AreAmong (all_taken own) (all_given other) →
    delivered of_own ≡ taken_by_period own → offered of_other ≡ given_by_period other → Delivers own of_own of_other
delivers own other of_own of_other from among took gave = record {
  in_order = λ q. subst (λ (ps : List (List (List ℕ))). IsBeginning (get_or (partners own) q None) (get_or ps q []) (offered of_other)) (sym took)
      (subst (λ (ps : List (List (List ℕ))). IsBeginning (get_or (partners own) q None) (get_or (taken_by_period own) q []) ps) (sym gave)
      (each_period own other from q));
  among = subst (λ (xs : List (List ℕ)). AreAmong xs (all_of (offered of_other))) (sym (ap all_of took ∙ all_taken_is own))
      (subst (λ (ys : List (List ℕ)). AreAmong (all_taken own) ys) (sym (ap all_of gave ∙ all_given_is other)) among);
}
