-- How the texts of both captures go to their writers.
use Rattle.std.specs.Prelude.{◌≡◌, ◌⊎◌, [], Result, Err}
use Rattle.wire_base.specs.declared.side.Side.{Side}
use Rattle.capture.specs.inner.Outlets.{FailsAt, Outlet, Passes}
use Rattle.pair_player.specs.declared.fault.PlayFault.{PlayFault}
use Rattle.pair_player.specs.declared.fault.PlayFault.TheVariants.{Write}
use Rattle.pair_player.specs.declared.played.Played.{Played}

-- all was written, and this is the answer; or the writer of a side failed
abbrev pub EndsAll : Result Played PlayFault → (old new : Outlet × Outlet) → Result Played PlayFault → Type 0
EndsAll meant old new answer =
    (Passes old.0 new.0 × Passes old.1 new.1 × (new.0.text ≡ []) × (new.1.text ≡ []) × (answer ≡ meant))
    ⊎ ((side : Side) × FailsAt side old new × (answer ≡ Err (Write side)))
