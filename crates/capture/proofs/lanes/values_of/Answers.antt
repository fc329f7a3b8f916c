use Rattle.std.proofs.Common.{refl}
use Rattle.std.proofs.lemmas.Simd.{splat_is_map}
use Rattle.capture.proofs.LanesLaws.{itself, zip_of, select_of, values_by}
use Rattle.capture.proofs.lanes.values_of.Goals as goal

-- the digits' vector stands twice in the choice of the lesser, and so does the letters'
pub returns : goal.returns
returns g c =
    let v = c.args.characters in
    let n = g.row.N in
    let long = c.fits-characters.0 in
    values_by _ v _ c.fits-characters.1
    (select_of _ _ _ _ _ v
    (zip_of _ _ _ v
    (zip_of _ _ _ v
    (select_of _ _ _ _ _ v (zip_of _ _ _ v (itself v) (splat_is_map v n 198 long)) (splat_is_map v n 6 long) (splat_is_map v n 6 long)
    (zip_of _ _ _ v (itself v) (splat_is_map v n 198 long)))
    (splat_is_map v n 6 long))
    (splat_is_map v n 240 long))
    (zip_of _ _ _ v
    (select_of _ _ _ _ _ v (zip_of _ _ _ v (itself v) (splat_is_map v n 97 long)) (splat_is_map v n 245 long)
    (zip_of _ _ _ v (itself v) (splat_is_map v n 97 long)) (splat_is_map v n 245 long))
    (splat_is_map v n 10 long))
    (zip_of _ _ _ v
    (zip_of _ _ _ v
    (select_of _ _ _ _ _ v (zip_of _ _ _ v (itself v) (splat_is_map v n 198 long)) (splat_is_map v n 6 long) (splat_is_map v n 6 long)
    (zip_of _ _ _ v (itself v) (splat_is_map v n 198 long)))
    (splat_is_map v n 6 long))
    (splat_is_map v n 240 long))
    (zip_of _ _ _ v
    (select_of _ _ _ _ _ v (zip_of _ _ _ v (itself v) (splat_is_map v n 97 long)) (splat_is_map v n 245 long)
    (zip_of _ _ _ v (itself v) (splat_is_map v n 97 long)) (splat_is_map v n 245 long))
    (splat_is_map v n 10 long)))
    refl refl
