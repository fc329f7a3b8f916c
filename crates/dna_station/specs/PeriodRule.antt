-- The rule on periods, which a judge of two captures asks and no node of the pair can see. It is this project's own: a message that is acted on
-- belongs to the same pair of starts as its receiver; that makes the crossing of periods visible.
use Rattle.std.specs.Prelude.{ℕ, Bool, true, false, ◌&&◌, ◌==◌, Option, Some, None}
use Rattle.dna_station.specs.declared.tag.Tag.{Tag}
use Rattle.dna_station.specs.Table.{Needs, Anything, Fresh, OfPair}

-- the period is known, and it is this one
abbrev pub is_period : Option ℕ → ℕ → Bool
is_period None period = false
is_period (Some known) period = known == period

-- whether a message with this tag is what a row needs, at a receiver that sends with its own one
abbrev pub meets : Needs → (own tag : Tag) → Bool
meets Anything own tag = true
-- fresh: the period that the message answers is the receiver's present one
meets Fresh own tag = is_period tag.partner own.period
-- of the pair: the message's period is the receiver's partner, and the message's partner is the receiver's present period
meets OfPair own tag = is_period own.partner tag.period && is_period tag.partner own.period

-- what is made of the answer to that test
abbrev pub PeriodRule : Type 0
PeriodRule = Bool → Bool

-- a station of a pair that is judged goes by it
abbrev pub of_period : PeriodRule
of_period met = met

-- one that goes by bytes alone does not
abbrev pub of_any_period : PeriodRule
of_any_period met = true
