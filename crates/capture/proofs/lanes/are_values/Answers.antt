use Rattle.std.proofs.Common.{bit_and}
use Rattle.std.proofs.lemmas.Simd.{zip2_splat}
use Rattle.capture.proofs.LanesLaws.{small_by}
use Rattle.capture.proofs.lanes.are_values.Goals as goal

pub returns : goal.returns
returns g c =
    let v = c.args.values in
    small_by v _ c.fits-values.1 (zip2_splat bit_and v g.row.N 240 c.fits-values.0)
