-- What passed of the other side that counts for what this side may send.
use Rattle.std.specs.Prelude.{List}
use Rattle.accusing.specs.Placing.{Passed}
use Rattle.accusing_links.specs.Segments.{Shown, passed_of, segment_of}
use Rattle.accusing_links.specs.Connects.{connect_of}

pub record Heard : Type 0 where
  -- the data segments
  pub segments : Shown
  -- the CIs, CCs and messages of RUN, by their links
  pub connects : Shown

abbrev pub heard : List Passed → Heard
heard passed = record { segments = passed_of segment_of passed; connects = passed_of connect_of passed }
