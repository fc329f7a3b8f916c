-- An end with its node beside it, as the proofs see it: the station variables that it keeps are read off the node, and so is its head.
use Rattle.dna_play.proofs.Prelude.{ℕ, ◌+◌, Option, List, [], map, drop, Half, Head, Station, cut, StationVariables, unlabelled, Links, LayersNode}
use Rattle.dna_play.proofs.Prelude.{LayersUnit, new_layers_node, Owed, Debt, still_owed, StoredEnd, StoredLinks, no_stored_links}
use Rattle.dna_play.specs.Owed as owing

pub record End : Type 0 where
  -- its node, and all units that it ever sent
  pub half : Half LayersNode LayersUnit
  pub owed : Owed
  pub links : StoredLinks
  pub addresses : ℕ
  pub passed : ℕ

abbrev pub new_end : Head → End
new_end head = record {
  half = record { state = new_layers_node head; sent = [] };
  owed = owing.nothing;
  links = no_stored_links;
  addresses = 0;
  passed = 0;
}

abbrev pub station_of : Half LayersNode LayersUnit → Station
station_of half = half.state.station.station

abbrev pub links_of : Half LayersNode LayersUnit → Links
links_of half = half.state.station.links

-- the station variables of the node. No packet has a label
abbrev pub variables_of : Half LayersNode LayersUnit → StationVariables (Unit {0})
variables_of half = (cut (unlabelled (station_of half).packets) (station_of half)).variables

-- what the end keeps
abbrev pub stored : End → StoredEnd
stored e = record {
  head = e.half.state.head;
  station = record { variables = variables_of e.half; owed = e.owed };
  links = e.links;
  addresses = e.addresses;
  passed = e.passed;
}

-- after a record, with these links: what its station still owes
abbrev pub after_record : End → Half LayersNode LayersUnit → StoredLinks → End
after_record e half links = record e { half = half; owed = still_owed (variables_of e.half) (variables_of half) e.owed; links = links }

-- one more thing is owed, and a unit is off the line
abbrev pub owing_more : Option Debt → End → End
owing_more debt e = record e { owed = owing.with_debt debt e.owed }

abbrev pub passing : End → End
passing e = record e { passed = e.passed + 1 }

-- ---- the line

abbrev pub bytes_of : List LayersUnit → List (List ℕ)
bytes_of units = map (λ (unit : LayersUnit). unit.bytes) units

-- what the other end sent and has not passed yet
abbrev pub coming : End → Half LayersNode LayersUnit → List (List ℕ)
coming e other = drop e.passed (bytes_of other.sent)
