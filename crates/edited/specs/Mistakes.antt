-- Where a recorder's mistake is.
use Rattle.std.specs.Prelude.{ℕ}
use Rattle.edited.specs.declared.mistake.Mistake.{Mistake}
use Rattle.edited.specs.declared.mistake.Mistake.TheVariants.{WrongLetter, BootAsHalt, SentMissing, ReceiptMissing, DamagedMissing, NoiseMissing}
use Rattle.edited.specs.declared.mistake.Mistake.TheVariants.{UserMissing, TooLate, TooEarly, WrongHint, WrongHints}

-- the line that it changes, or before which one is missing
abbrev pub line_of_mistake : Mistake → ℕ
line_of_mistake (WrongLetter line said fate) = line
line_of_mistake (BootAsHalt line) = line
line_of_mistake (SentMissing before unit like) = before
line_of_mistake (ReceiptMissing before fate unit like) = before
line_of_mistake (DamagedMissing before unit like) = before
line_of_mistake (NoiseMissing before) = before
line_of_mistake (UserMissing before entry) = before
line_of_mistake (TooLate line before) = line
line_of_mistake (TooEarly line behind) = line
line_of_mistake (WrongHint line unit) = line
line_of_mistake (WrongHints line unit) = line
