-- What is shown of a link: of what a node keeps of it, and the same of a live link on true numbers.
use Rattle.std.specs.Prelude.{ℕ, ◌-◌, Option, List, length, slice_get}
use Rattle.dna_links.specs.SegmentBook.{wire}
use Rattle.dna_links.specs.Links.{LinkOf}
use Rattle.dna_links.specs.TrueSegments.{TrueSegments, highest_received}
use Rattle.dna_links.specs.TrueSegments as book
use Rattle.dna_links.specs.WireSegments.{WireSegments, highest_given}
use Rattle.nsp_link.specs.declared.view.LinkNumbers.{LinkNumbers}
use Rattle.nsp_link.specs.declared.view.LinkView.{LinkView}

abbrev pub numbers_of : WireSegments → LinkNumbers
numbers_of f = record {
  given = highest_given f.variables;
  acknowledged = f.variables.acknowledged;
  outstanding = length f.variables.outstanding;
  received = f.variables.received;
  last_sent = f.last;
}

abbrev pub view_of : LinkOf WireSegments → LinkView
view_of l = record { port = l.port; partner = l.partner; segsize = l.segsize; numbers = numbers_of l.segments; queue = l.queue }

-- what is left of the message that it sends, if there is one
abbrev pub rest_of : LinkOf WireSegments → Option (List ℕ)
rest_of l = slice_get l.segments.variables.unsent.messages 0

-- the numbers as messages have them
abbrev pub true_numbers : TrueSegments → LinkNumbers
true_numbers f = record {
  given = wire (book.highest_given f);
  acknowledged = wire f.acknowledged;
  outstanding = book.highest_given f - f.acknowledged;
  received = wire (highest_received f);
  last_sent = wire f.last;
}

abbrev pub true_view : LinkOf TrueSegments → LinkView
true_view l = record { port = l.port; partner = l.partner; segsize = l.segsize; numbers = true_numbers l.segments; queue = l.queue }
