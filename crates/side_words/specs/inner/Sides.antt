-- Which links of a side are shown where many are live.
use Rattle.std.specs.Prelude.{Bool}
use Rattle.nsp_link.specs.declared.view.LinkView.{LinkView}
use Rattle.side_words.specs.LinkLine.{has_open}

abbrev pub is_open : LinkView → Bool
is_open v = has_open v.port.phase v.numbers
