-- What is known, by the lists in which it is kept.
use Rattle.accusing_segments.specs.History.{has, History}
use Rattle.accusing_segments.specs.Fits.{fits}
use Rattle.accusing_segments.specs.Answers.{Sight}

abbrev pub seen : Sight → History
seen s = record { ends = has s.ends; words = has s.words; rooms = fits s.rooms }
