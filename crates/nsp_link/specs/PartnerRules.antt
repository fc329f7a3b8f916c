-- Whether the links ask the rule on partners of what comes.
use Rattle.std.specs.Prelude.{Bool, true, false}
use Rattle.dna_links.specs.Arriving.{PartnerRule, of_partner, of_anyone}

-- who judges a pair does; who has one end alone can't, and takes a message of any link
abbrev pub partner_rule : (of_pair : Bool) → PartnerRule
partner_rule true = of_partner
partner_rule false = of_anyone
