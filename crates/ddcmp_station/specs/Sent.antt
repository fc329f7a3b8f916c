-- What a station says of a message that it let its node send.
use Rattle.ddcmp_msg.specs.Message.{MessageValue}
use Rattle.dna_station.specs.WireStation.{WireStation}
use Rattle.dna_station.specs.WireBook.{wire_tag, gives_new, label_again}
use Rattle.ddcmp_station.specs.declared.sent_as.SentAs.{SentAs}

module _ {L : Type 0} where
  -- the tag of the unit, whether its number is new, and the label of a packet that is sent again
  abbrev pub sent_as : WireStation L → MessageValue → SentAs L
  sent_as w m = record { tag = wire_tag w; first = gives_new w m; label = label_again w m }
