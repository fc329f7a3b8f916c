-- An observer that counts is told one record more.
use Rattle.std.proofs.Common.{◌≡◌, List, [], ◌∷◌, ◌++◌, refl, sym, subst, arith}
use Rattle.wire_base.specs.declared.side.Side.TheVariants.{A, B}
use Rattle.capture_record.specs.declared.record.Record.{Record}
use Rattle.dna_station.specs.WireNode.{new_wire_node}
use Rattle.dna_station.specs.declared.state.State.TheVariants.{Halted}
use Rattle.pair_judge.specs.Order.{MadeRecord, made_by, records_of}
use Rattle.pair_judge.proofs.Orders.{one_more, same_other}
use Rattle.coverage.specs.declared.half.Half.{Half}
use Rattle.coverage.specs.declared.cover.Cover.{Cover}
use Rattle.coverage.specs.Counts.{AreCounts, rows_of}
use Rattle.coverage.specs.inner.Met.{met}
use Rattle.coverage.specs.inner.Tracked.{fresh}
use Rattle.coverage.specs.inner.Told.{Follows, FollowsAll, Told}
use Rattle.coverage.proofs.Steps.{Goes, goes_on}
use Rattle.coverage.proofs.Tracks.{IsBounded}
use Rattle.coverage.proofs.Walks.{passed_is, walked}

-- before any record
pub follows_new : (half : Half) → half.tracker ≡ fresh Halted → AreCounts half.counts.met [] → FollowsAll half []
follows_new half is_fresh none head n passed = subst (Follows half head []) (passed_is (new_wire_node head) n passed)
    (record { tracks = is_fresh; most = omega arith; within = omega arith; counts = none })

pub follows_on : (half : Half) (records : List Record) (r : Record) → FollowsAll half records → FollowsAll (met half r) (records ++ r ∷ [])
follows_on half records r follows head end passed =
    let w = walked (new_wire_node head) 0 records r end passed in
    let f = follows head w.before w.passed in
    let bounded : IsBounded w.before.station.variables = record { most = f.most; within = f.within } in
    let goes : Goes half w.before.station (rows_of head records) = record { tracks = f.tracks; bounded = bounded; counts = f.counts } in
    let next = goes_on half w.before end (rows_of head records) r goes w.made in
    record {
      tracks = next.tracks;
      most = next.bounded.most;
      within = next.bounded.within;
      counts = subst (AreCounts (met half r).counts.met) (sym w.rows) next.counts;
    }

-- of the side that made it, and of the other one
pub told_a : (cover : Cover) (r : Record) (order : List MadeRecord) → Told cover order →
    Told (record cover { a = met cover.a r }) (order ++ made_by A r ∷ [])
told_a cover r order told = record {
  a = subst (FollowsAll (met cover.a r)) (sym (one_more A order (made_by A r))) (follows_on cover.a (records_of A order) r told.a);
  b = subst (FollowsAll cover.b) (sym (same_other B order (made_by A r) refl)) told.b;
}

pub told_b : (cover : Cover) (r : Record) (order : List MadeRecord) → Told cover order →
    Told (record cover { b = met cover.b r }) (order ++ made_by B r ∷ [])
told_b cover r order told = record {
  a = subst (FollowsAll cover.a) (sym (same_other A order (made_by B r) refl)) told.a;
  b = subst (FollowsAll (met cover.b r)) (sym (one_more B order (made_by B r))) (follows_on cover.b (records_of B order) r told.b);
}
