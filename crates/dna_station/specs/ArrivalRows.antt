-- The rows of the table of arrivals by the names that code has for them.
use Rattle.std.specs.Prelude.{List, [], ◌∷◌, fold}
use Rattle.dna_station.specs.declared.state.State.{State}
use Rattle.dna_station.specs.declared.state.State.TheVariants.{Halted, Astrt, Running}
use Rattle.dna_station.specs.Table.{Needs, Anything, Fresh, OfPair, Effect, GoTo, TakePartner, Respond, TakePacket, AnswerRep, Row}
use Rattle.dna_station.specs.Table as table
use Rattle.dna_station.specs.declared.arrival_row.ArrivalRow.{ArrivalRow}
use Rattle.dna_station.specs.declared.arrival_row.ArrivalRow.TheVariants.{Ignored, StartMet, StartAnswered, StartAgain, StartConfirmed, FirstData}
use Rattle.dna_station.specs.declared.arrival_row.ArrivalRow.TheVariants.{Restarted, Noted, Acknowledged, SetBack, Asked, Delivered}
use Rattle.dna_station.specs.declared.arrival_row.PeriodNeed.{PeriodNeed}
use Rattle.dna_station.specs.declared.arrival_row.PeriodNeed.TheVariants as needed

abbrev pub need_of : Needs → PeriodNeed
need_of Anything = needed.Anything
need_of Fresh = needed.Fresh
need_of OfPair = needed.OfPair

abbrev pub need_view : PeriodNeed → Needs
need_view needed.Anything = Anything
need_view needed.Fresh = Fresh
need_view needed.OfPair = OfPair

abbrev pub row_view : ArrivalRow → Row
row_view Ignored = table.ignored
row_view StartMet = record { needs = Anything; effects = TakePartner ∷ GoTo Astrt ∷ [] }
row_view StartAnswered = record { needs = Fresh; effects = TakePartner ∷ GoTo Running ∷ [] }
row_view StartAgain = record { needs = Anything; effects = TakePartner ∷ [] }
row_view StartConfirmed = record { needs = OfPair; effects = GoTo Running ∷ [] }
row_view FirstData = record { needs = OfPair; effects = GoTo Running ∷ Respond ∷ TakePacket ∷ [] }
row_view Restarted = record { needs = Anything; effects = GoTo Halted ∷ [] }
row_view Noted = record { needs = OfPair; effects = [] }
row_view Acknowledged = record { needs = OfPair; effects = Respond ∷ [] }
row_view SetBack = record { needs = OfPair; effects = Respond ∷ table.SetBack ∷ [] }
row_view Asked = record { needs = OfPair; effects = AnswerRep ∷ [] }
row_view Delivered = record { needs = OfPair; effects = Respond ∷ TakePacket ∷ [] }

-- the state that effects lead to
abbrev pub goes_to : State → Effect → State
goes_to state (GoTo next) = next
goes_to state effect = state

abbrev pub leads_to : State → List Effect → State
leads_to state effects = fold goes_to state effects
