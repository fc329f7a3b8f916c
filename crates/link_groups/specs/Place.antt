-- Where an own address stands among all of both ends
use Rattle.std.specs.Prelude.{ℕ, ◌+◌}
use Rattle.wire_base.specs.declared.Side.{Side}
use Rattle.wire_base.specs.declared.Side.TheVariants.{A, B}
use Rattle.link_groups.specs.declared.own_address.OwnAddress.{OwnAddress}

-- how many stand before those of a side
abbrev pub before : Side → ℕ
before A = 0
before B = 65536

abbrev pub place_of : OwnAddress → ℕ
place_of own = before own.side + own.address
