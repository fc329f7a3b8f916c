-- Which unit of its side a record is.
use Rattle.std.specs.Prelude.{◌≡◌, ℕ, List, length, Option}
use Rattle.capture.specs.SoFar.{IsReadSoFar, ReadSoFar}
use Rattle.placing.specs.Placed.{units_sent}

-- the text is a capture's, with this many records or more, of which the first this many say that so many units were sent
pub record HasBefore (text : Option (List ℕ)) (place units : ℕ) : Type 0 where
  pub read : ReadSoFar
  pub begins : IsReadSoFar text read
  pub place_is : length read.records ≡ place
  pub units_are : length (units_sent read.records) ≡ units
