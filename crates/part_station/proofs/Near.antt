-- Numbers and their wire values.
use Rattle.std.proofs.Common.{◌≡◌, ℕ, ◌+◌, ◌<◌, ◌≤◌, arith, ◌⊎◌, inl, inr}
use Rattle.std.proofs.lemmas.Bool.{cases_lt}
use Rattle.wire_base.specs.Seq.{wire_distance}
use Rattle.dna_station.specs.Station.{wire}
use Rattle.part_station.specs.Numbers.{from_on}

-- a number less than 256 above is the least with its wire value
pub from_near : (least x number : ℕ) → number < 256 → wire x ≡ number → least ≤ x → x < least + 256 → from_on least number ≡ x
from_near least x number byte e above near = omega arith

-- one less than 512 above is that, or lies 256 above it
pub from_far : (least x number : ℕ) → number < 256 → wire x ≡ number → least + 256 ≤ x → x < least + 512 → from_on least number + 256 ≡ x
from_far least x number byte e above near = omega arith

pub from_either : (least x number : ℕ) → number < 256 → wire x ≡ number → least ≤ x → x < least + 512 →
    (from_on least number ≡ x) ⊎ (from_on least number + 256 ≡ x)
from_either least x number byte e above near = go (cases_lt x (least + 256))
  where
    go : (x < least + 256) ⊎ (least + 256 ≤ x) → (from_on least number ≡ x) ⊎ (from_on least number + 256 ≡ x)
    go (inl l) = inl (from_near least x number byte e above l)
    go (inr l) = inr (from_far least x number byte e l near)

-- what a RESP acknowledges
pub acknowledged_wire : (k a resp : ℕ) → resp < 256 → k ≡ wire a → wire (a + wire_distance 256 k resp) ≡ resp
acknowledged_wire k a resp byte e = omega arith
