-- What the summary of one side counts, over the records of its capture and the links of its node.
use Rattle.std.specs.Prelude.{ℕ, ◌+◌, ◌<◌, ◌^◌, List, length, count_by}
use Rattle.capture_record.specs.declared.record.Record.{Record}
use Rattle.dna_station.specs.Machine.{is_sent}
use Rattle.dna_node.specs.Kind.{NodeKind, KindNode}
use Rattle.dna_node.specs.WireLayers.{WireLayers}
use Rattle.dna_station.specs.WireStation.{load}
use Rattle.pair_judge.specs.Counting.{is_received, is_damaged, is_kept, is_start, is_delivery, more_if}
use Rattle.pair_judge.specs.declared.summary.SideSummary.{SideSummary}
use Rattle.pair_judge.specs.declared.end.End.{End}

-- of a side on which so many links began
abbrev pub summary_with : (links : ℕ) → List Record → SideSummary
summary_with links rs = record {
  records = length rs;
  sent = count_by is_sent rs;
  received = count_by is_received rs;
  damaged = count_by is_damaged rs;
  kept = count_by is_kept rs;
  periods = count_by is_start rs;
  links = links;
  up = count_by is_delivery rs;
}

-- these records led to this node. How many links began is of the run: a CI that is kept begins one, or repeats an earlier one
abbrev pub summary_of : (kind : NodeKind) → KindNode kind → List Record → SideSummary
summary_of kind n rs = summary_with (kind.links n.station) rs

-- ---- as the judge counts: all but the links record by record

abbrev pub counts_of : List Record → SideSummary
counts_of rs = summary_with 0 rs

-- with how many links began, which are counted so
abbrev pub summary_at : (links : WireLayers → ℕ) → End → SideSummary
summary_at links end = record end.counts { links = links end.layers }

-- one record more
abbrev pub counted : SideSummary → Record → SideSummary
counted s r = record {
  records = s.records + 1;
  sent = more_if (is_sent r) s.sent;
  received = more_if (is_received r) s.received;
  damaged = more_if (is_damaged r) s.damaged;
  kept = more_if (is_kept r) s.kept;
  periods = more_if (is_start r) s.periods;
  links = s.links;
  up = more_if (is_delivery r) s.up;
}

-- no count of one record more overflows
pub record HasRoomFor (s : SideSummary) : Type 0 where
  pub records : s.records < 2 ^ 63
  pub sent : s.sent < 2 ^ 63
  pub received : s.received < 2 ^ 63
  pub damaged : s.damaged < 2 ^ 63
  pub kept : s.kept < 2 ^ 63
  pub periods : s.periods < 2 ^ 63
  pub up : s.up < 2 ^ 63

-- nor does one that the station keeps
pub record HasRoom (end : End) : Type 0 where
  pub counts : HasRoomFor end.counts
  pub station : load end.layers.station < 2 ^ 63
