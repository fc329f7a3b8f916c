-- Whether a station asks the rule on periods of what comes.
use Rattle.std.specs.Prelude.{Bool, true, false}
use Rattle.dna_station.specs.PeriodRule.{PeriodRule, of_period}

-- who judges a pair does; who has one end alone can't, and takes a message of any period
abbrev pub period_rule : (of_pair : Bool) → PeriodRule
period_rule true = of_period
period_rule false = λ met. true
