-- A check that fails by its name alone, what refuses there, and what is told of it
use Rattle.ddcmp_msg.specs.Message.{MessageValue}
use Rattle.dna_station.specs.declared.refusal.StationRefusal.{StationRefusal}
use Rattle.dna_station.specs.declared.refusal.StationRefusal.TheVariants.{WrongState, WrongKeep, CrossedPeriod}
use Rattle.dna_station.specs.Table.{refusal_of}
use Rattle.dna_station.specs.Table as table
use Rattle.dna_station.specs.declared.tag.Tag.{Tag}
use Rattle.dna_station.specs.ArrivalRows.{need_of}
use Rattle.dna_station.specs.Book.{ArrivalValue, Sound, HeaderBad, DataBad}
use Rattle.dna_station.specs.WireStation.{WireStation}
use Rattle.dna_station.specs.WireBook.{wire_tag}
use Rattle.ddcmp_station.specs.Failed.{failing, needs_of}
use Rattle.ddcmp_station.specs.declared.check.SendingCheck.{SendingCheck}
use Rattle.ddcmp_station.specs.declared.check.SendingCheck.TheVariants as checks
use Rattle.ddcmp_station.specs.declared.check.ArrivalCheck.{ArrivalCheck}
use Rattle.ddcmp_station.specs.declared.check.ArrivalCheck.TheVariants as arrivals
use Rattle.ddcmp_station.specs.declared.failed.FailedSending.{FailedSending}
use Rattle.ddcmp_station.specs.declared.failed.FailedSending.TheVariants as failed
use Rattle.ddcmp_station.specs.declared.failed.FailedArrival.{FailedArrival}
use Rattle.ddcmp_station.specs.declared.failed.FailedArrival.TheVariants.{Period, Keep}

abbrev pub refusal_of_sending : SendingCheck → StationRefusal
refusal_of_sending checks.State = WrongState
refusal_of_sending checks.RespIsLast = refusal_of table.RespIsLast
refusal_of_sending checks.NumIsNext = refusal_of table.NumIsNext
refusal_of_sending checks.NumIsHighest = refusal_of table.NumIsHighest
refusal_of_sending checks.SomeOutstanding = refusal_of table.SomeOutstanding
refusal_of_sending checks.RoomIfNew = refusal_of table.RoomIfNew
refusal_of_sending checks.AsFirstGiven = refusal_of table.AsFirstGiven
refusal_of_sending checks.CauseIsOpen = refusal_of table.CauseIsOpen

abbrev pub refusal_of_arrival : ArrivalCheck → StationRefusal
refusal_of_arrival arrivals.Period = CrossedPeriod
refusal_of_arrival arrivals.Keep = WrongKeep

module _ {L : Type 0} where
  abbrev pub told : WireStation L → MessageValue → SendingCheck → FailedSending
  told w m checks.State = failed.State w.variables.state
  told w m checks.RespIsLast = failing w m table.RespIsLast
  told w m checks.NumIsNext = failing w m table.NumIsNext
  told w m checks.NumIsHighest = failing w m table.NumIsHighest
  told w m checks.SomeOutstanding = failing w m table.SomeOutstanding
  told w m checks.RoomIfNew = failing w m table.RoomIfNew
  told w m checks.AsFirstGiven = failing w m table.AsFirstGiven
  told w m checks.CauseIsOpen = failing w m table.CauseIsOpen

  -- damage has no periods
  abbrev pub crossed : WireStation L → ArrivalValue Tag → FailedArrival
  crossed w (Sound m tag) = Period (need_of (needs_of w m)) tag (wire_tag w)
  crossed w HeaderBad = Keep
  crossed w DataBad = Keep

  abbrev pub told_arrival : WireStation L → ArrivalValue Tag → ArrivalCheck → FailedArrival
  told_arrival w arrival arrivals.Period = crossed w arrival
  told_arrival w arrival arrivals.Keep = Keep
