-- What a contract sees of an arrival: the message without where it lies in memory.
use Rattle.ddcmp_msg.specs.Message.{view}
use Rattle.dna_station.specs.declared.tag.Tag.{Tag}
use Rattle.dna_station.specs.Book.{ArrivalValue, Sound, HeaderBad, DataBad}
use Rattle.ddcmp_station.specs.declared.arrival.Arrival.{Arrival}
use Rattle.ddcmp_station.specs.declared.arrival.Arrival.TheVariants as variants

abbrev pub arrival_view : Arrival → ArrivalValue Tag
arrival_view (variants.Sound message tag) = Sound (view message) tag
arrival_view variants.HeaderBad = HeaderBad
arrival_view variants.DataBad = DataBad
