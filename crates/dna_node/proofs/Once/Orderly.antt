-- Records of a side that starts at most once, and gives each of its link addresses higher than all before.
use Rattle.std.proofs.Common.{refl, arith}
use Rattle.std.specs.Prelude.{◌≡◌, ℕ, ◌+◌, ◌<◌, ◌≤◌, if◌then◌else◌, Option, Some, None, List, [], ◌∷◌, ◌++◌}
use Rattle.capture_record.specs.declared.record.Record.{Record}
use Rattle.capture_record.specs.declared.record.Record.TheVariants.{Sent, Received, Noise, User}
use Rattle.dna_station.specs.Delivery.{begins}
use Rattle.dna_links.specs.User.{LinkEventValue, Boot}
use Rattle.dna_links.specs.Captures.{given_address}
use Rattle.dna_node.specs.LayersPair.{link_events}

abbrev pub IsHigher : ℕ → Option ℕ → Type 0
IsHigher most None = Unit {0}
IsHigher most (Some address) = most < address

-- the highest address after one more event, and after all these
abbrev pub higher : ℕ → Option ℕ → ℕ
higher most None = most
higher most (Some address) = address

abbrev pub highest : ℕ → List LinkEventValue → ℕ
highest most [] = most
highest most (event ∷ later) = highest (higher most (given_address event)) later

pub highest-join : (most : ℕ) (first later : List LinkEventValue) → highest most (first ++ later) ≡ highest (highest most first) later
highest-join most [] later = refl
highest-join most (event ∷ first) later = highest-join (higher most (given_address event)) first later

-- the address that an event gives is higher than this one; a boot, after which all addresses are free, is none of these
abbrev pub Rises : ℕ → LinkEventValue → Type 0
Rises most Boot = ⊥
Rises most event = IsHigher most (given_address event)

-- each address that these events give is higher than all before
abbrev pub AddressesRise : ℕ → List LinkEventValue → Type 0
AddressesRise most [] = Unit {0}
AddressesRise most (event ∷ later) = Rises most event × AddressesRise (higher most (given_address event)) later

-- how often a period begins in a capture
abbrev pub starts_in : Record → ℕ
starts_in (User event) = if begins event then 1 else 0
starts_in (Sent bytes) = 0
starts_in (Received hint fate bytes) = 0
starts_in (Noise bytes) = 0

abbrev pub starts : List Record → ℕ
starts [] = 0
starts (r ∷ later) = starts_in r + starts later

pub starts-join : (first later : List Record) → starts (first ++ later) ≡ starts first + starts later
starts-join [] later = omega arith
starts-join (r ∷ first) later = let e = starts-join first later in omega arith

-- the side starts at most once, never boots, and gives its link addresses in order
pub record IsOrderly (records : List Record) : Type 0 where
  pub few : starts records ≤ 1
  pub rise : AddressesRise 0 (link_events records)
