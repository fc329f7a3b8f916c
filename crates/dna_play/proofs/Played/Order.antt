-- Records that start a side so often, and give its link addresses in order; a delivery starts nothing and gives no address.
use Rattle.dna_play.proofs.Prelude.{◌≡◌, ℕ, ◌+◌, List, [], ◌∷◌, ◌++◌, refl, sym, ap, subst, arith, flat_map-append, Record, LinkEventValue}
use Rattle.dna_play.proofs.Prelude.{given_address, link_event_in, link_events, ups, higher, highest, highest-join, AddressesRise, starts}
use Rattle.dna_play.proofs.Prelude.{starts-join}
use Rattle.dna_play.proofs.Ends.TrueEnd.{End}

-- these records start so often, and give their addresses in order, from this one on to that one
pub record InOrder (least count : ℕ) (records : List Record) (most : ℕ) : Type 0 where
  pub counted : starts records ≡ count
  pub rise : AddressesRise least (link_events records)
  pub top : highest least (link_events records) ≡ most

-- ---- one after another

rise_join : (least : ℕ) (first later : List LinkEventValue) → AddressesRise least first → AddressesRise (highest least first) later →
    AddressesRise least (first ++ later)
rise_join least [] later x y = y
rise_join least (event ∷ first) later x y = (x.0, rise_join (higher least (given_address event)) first later x.1 y)

pub order_join : (least between most count more : ℕ) (first later : List Record) → InOrder least count first between →
    InOrder between more later most → InOrder least (count + more) (first ++ later) most
order_join least between most count more first later x y =
    let e = starts-join first later in let f = x.counted in let g = y.counted in
    let parts = flat_map-append link_event_in first later in
    record {
      counted = omega arith;
      rise = rw parts (rise_join least (link_events first) (link_events later) x.rise (rw x.top y.rise));
      top = rw (parts, highest-join least (link_events first) (link_events later), x.top) y.top;
    }

pub nothing_in_order : (least : ℕ) → InOrder least 0 [] least
nothing_in_order least = record { counted = refl; rise = tt; top = refl }

-- deliveries
pub ups_in_order : (least address : ℕ) (messages : List (List ℕ)) → InOrder least 0 (ups address messages) least
ups_in_order least address [] = nothing_in_order least
ups_in_order least address (message ∷ later) =
    let rest = ups_in_order least address later in let c = rest.counted in
    record { counted = omega arith; rise = (tt, rest.rise); top = rest.top }

-- a record without an event of the user
abbrev pub quiet : (own : End) (r : Record) → starts (r ∷ []) ≡ 0 → link_events (r ∷ []) ≡ [] → InOrder own.addresses 0 (r ∷ []) own.addresses
quiet own r none no_events =
    record { counted = none; rise = subst (AddressesRise own.addresses) (sym no_events) tt; top = ap (highest own.addresses) no_events }
