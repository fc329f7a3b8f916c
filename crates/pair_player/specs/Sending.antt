-- When an end has something to send, apart from how it chooses what goes first.
use Rattle.std.specs.Prelude.{Bool, true, false, ◌&&◌, ◌||◌, not, nat_lt, List, [], ◌∷◌, length}
use Rattle.dna_station.specs.declared.state.State.{State}
use Rattle.dna_station.specs.declared.state.State.TheVariants.{Halted, Istrt, Astrt, Running}
use Rattle.dna_station.specs.Table.{WINDOW}
use Rattle.dna_station.specs.WireStation.{StationVariables}
use Rattle.dna_station.specs.WireBook.{wire_is_new}
use Rattle.dna_play.specs.Owed.{Owed}
use Rattle.dna_play.specs.LinkOwed.{EndConfirm}
use Rattle.dna_play.specs.NextSent.{LinkEnd, has_segment}

-- ---- the links: a DC, or a link that owes something or has a segment to send

abbrev pub link_has : LinkEnd → Bool
link_has l = l.owed.connect_ack || (l.owed.initiate || (l.owed.confirm || (l.owed.disconnect || (l.owed.data_ack || has_segment l))))

abbrev pub some_link_has : List LinkEnd → Bool
some_link_has [] = false
some_link_has (link ∷ links) = link_has link || some_link_has links

abbrev pub links_have : List EndConfirm → List LinkEnd → Bool
links_have [] links = some_link_has links
links_have (confirm ∷ later) links = true

-- ---- the station

abbrev pub owes_nak : Owed → Bool
owes_nak owed = owed.header_check || (owed.data_check || (owed.rep_response || owed.no_buffer))

module _ {L : Type 0} where
  -- number T was given; or fewer than 255 are outstanding, and the links have a message
  abbrev pub has_data : StationVariables L → (message : Bool) → Bool
  has_data k message = not (wire_is_new k) || (nat_lt (length k.held) WINDOW && message)

  -- in ISTRT STRT, in ASTRT STACK, if that is owed; in RUNNING a NAK, REP, data or ACK
  abbrev pub may_send : State → StationVariables L → Owed → (message : Bool) → Bool
  may_send Halted k owed message = false
  may_send Istrt k owed message = owed.strt
  may_send Astrt k owed message = owed.stack
  may_send Running k owed message = owes_nak owed || (owed.rep || (has_data k message || owed.ack))
