-- What both sides of the judge show.
use Rattle.std.specs.Prelude.{ℕ, ◌+◌, length}
use Rattle.ddcmp_station.specs.View.{view_of}
use Rattle.pair_judge.specs.declared.course.Course.{Course}
use Rattle.pair_judge.specs.declared.line.Line.{Line}
use Rattle.pair_judge.specs.declared.stopped.Stopped.{Stopped}
use Rattle.pair_judge.specs.declared.verdict.Verdict.{Verdict}
use Rattle.pair_judge.specs.Ends.{ShownEnd, ShownEnds, record_ahead}
use Rattle.pair_judge.specs.inner.Lines.{held}

-- how many units were sent on a line: those that can't come any more, and those that may
abbrev pub sent_on : Line → ℕ
sent_on line = line.gone + length line.units.items

-- of a side whose next receipt may have this hint at the lowest
abbrev pub shown_end : Course → (front : ℕ) → ShownEnd
shown_end course front = record {
  records = course.end.counts.records;
  layers = course.end.layers;
  station = view_of course.end.layers.station;
  links = course.end.layers.links;
  sent = sent_on course.end.line;
  front = front;
  ahead = record_ahead course.capture.bytes course.ahead;
}

-- both sides where the judge stops, with this verdict
abbrev pub ends_shown : Verdict → Stopped → ShownEnds
ends_shown verdict s = record {
  verdict = verdict;
  a = shown_end s.a s.b.end.line.gone;
  b = shown_end s.b s.a.end.line.gone;
  to_a = held s.b.end.line;
  to_b = held s.a.end.line;
}
