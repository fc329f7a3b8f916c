-- An end of the player: station variables and link variables, as any node keeps them, with what they owe. Of the links it keeps those that live: one
-- that has ended owes nothing, and nothing comes to it any more.
use Rattle.std.specs.Prelude.{ℕ, List, []}
use Rattle.dna_station.specs.declared.head.Head.{Head}
use Rattle.dna_station.specs.declared.state.State.TheVariants.{Halted}
use Rattle.dna_station.specs.WireStation.{StationVariables, no_numbers}
use Rattle.dna_play.specs.Owed.{Owed}
use Rattle.dna_play.specs.Owed as owing
use Rattle.dna_play.specs.LinkOwed.{EndConfirm}
use Rattle.dna_play.specs.NextSent.{LinkEnd}

-- The station variables, and what the station owes. No packet has a label
pub record StoredStation : Type 0 where
  pub variables : StationVariables (Unit {0})
  pub owed : Owed

-- The links that live, with what each owes, in the order in which they began; and the DCs that are owed, the oldest first
pub record StoredLinks : Type 0 where
  pub links : List LinkEnd
  pub confirms : List EndConfirm

pub record StoredEnd : Type 0 where
  pub head : Head
  pub station : StoredStation
  pub links : StoredLinks
  -- how many link addresses it has given: 1, 2, 3 and so on
  pub addresses : ℕ
  -- how many units of the other end came or were lost
  pub passed : ℕ

abbrev pub new_stored_station : StoredStation
new_stored_station = record { variables = no_numbers Halted; owed = owing.nothing }

abbrev pub no_stored_links : StoredLinks
no_stored_links = record { links = []; confirms = [] }

-- before any step
abbrev pub new_stored_end : Head → StoredEnd
new_stored_end head = record { head = head; station = new_stored_station; links = no_stored_links; addresses = 0; passed = 0 }
