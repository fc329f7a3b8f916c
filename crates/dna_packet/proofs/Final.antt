-- What a reading says of bytes: a value, or a fault. One fault says that bytes are missing; any other that is found stays, whatever follows.
use Rattle.std.proofs.Common.{◌≡◌, Result, Ok, Err}
use Rattle.std.specs.Prelude.{◌≢◌}

module _ {V F : Type 0} where
  abbrev pub fails : F → Result V F
  fails fault = Err fault

  abbrev pub answers : V → Result V F
  answers value = Ok value

  pub missed : {missing fault : F} → fault ≢ missing → fails missing ≡ fails fault → ⊥
  missed {missing} {fault} is_found e = let same : fault ≡ missing = cc in is_found same

  pub answered : {fault : F} (value : V) → answers value ≡ fails fault → ⊥
  answered value e = absurd cc
