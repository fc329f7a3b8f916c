-- What is given where the head of a whole capture may come, or that of a part of a run.
use Rattle.std.specs.Prelude.{ℕ, List, Option, Result, Ok, Err}
use Rattle.capture.specs.declared.fault.Departure.{Departure}
use Rattle.capture.specs.declared.fault.Departure.TheVariants.{Syntax, TooLong, TooMany, Part}
use Rattle.capture.specs.declared.fault.CaptureFault.{CaptureFault}
use Rattle.capture.specs.declared.opened.Opened.{Opened}
use Rattle.capture.specs.declared.opened.Opened.TheVariants as opened
use Rattle.capture.specs.Departing.{HeadDeparts}
use Rattle.capture.specs.Reader.{FaultShows, Opens, OpensPart}

-- The first line departs from both heads.
abbrev pub EitherHeadDeparts : Departure → List ℕ → Type 0
EitherHeadDeparts Syntax bytes = HeadDeparts Syntax bytes
EitherHeadDeparts TooLong bytes = HeadDeparts TooLong bytes
EitherHeadDeparts TooMany bytes = ⊥
EitherHeadDeparts Part bytes = ⊥

-- What `open_either` gives, where these bytes were to come, and these are.
abbrev pub OpensEither : Option (List ℕ) → Option (List ℕ) → Result Opened CaptureFault → Type 0
OpensEither before after (Ok (opened.Whole state)) = Opens before after (Ok state)
OpensEither before after (Ok (opened.Part state)) = OpensPart before after state
OpensEither before after (Err fault) = FaultShows EitherHeadDeparts 1 before fault
