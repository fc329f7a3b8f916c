-- What is left of noise.
use Rattle.leaving_runs.proofs.Prelude.{◌≡◌, ℕ, false, List, ap, ◌∙◌, Half, answered, Made, HeaderCheck, DataCheck, ReadingValue, reading, Noise}
use Rattle.leaving_runs.proofs.Prelude.{counts_damage, Station, HeaderBad, DataBad, after_arrival, noise_step, Queues, judged_by, Layers}
use Rattle.leaving_runs.proofs.Prelude.{LayersNode, LayersUnit, layers_machine, side_of, OfNoLink, Judged, other_out, other_judged, SideRight}
use Rattle.leaving_runs.proofs.Prelude.{Leaves, other_leaves, half_left, layers_left}
use Rattle.ddcmp_msg.specs.Reading as read_as
use Rattle.leaving_runs.proofs.Stations.{counted_left}
use Rattle.leaving_runs.proofs.Along.{Along, along_at, along_station}

module _ (queues : Queues) (leaves : Leaves) (judged : Judged) (own other : Half LayersNode LayersUnit)
    (mine : SideRight leaves.out judged (side_of own 0) (side_of other 0))
    (theirs : SideRight (other_out leaves.out) (other_judged judged) (side_of other 0) (side_of own 0)) where
  abbrev s : Layers
  s = own.state.station

  abbrev t : Layers
  t = layers_left leaves judged s

  abbrev own_left : Half LayersNode LayersUnit
  own_left = half_left leaves judged own

  abbrev other_left : Half LayersNode LayersUnit
  other_left = half_left (other_leaves leaves) (other_judged judged) other

  module _ (bytes : List ℕ) (h : Half LayersNode LayersUnit) where
    pub noise_along : (r : ReadingValue) → reading bytes ≡ r →
        answered own other (noise_step (layers_machine (judged_by queues)) own.state r) ≡ Made h →
        Along queues leaves judged own other mine theirs (Noise bytes) OfNoLink h
    noise_along read_as.HeaderBad e made =
        along_at queues leaves judged own other mine theirs (Noise bytes) OfNoLink _ h made
        (along_station queues leaves judged own other mine theirs (Noise bytes) (after_arrival s.station HeaderBad false) own.state.front
        (ap (λ (r : ReadingValue). answered own_left other_left (noise_step (layers_machine (judged_by queues)) own_left.state r)) e
        ∙ ap (λ (station : Station). Made (record own_left { state = record own_left.state { station = record t { station = station } } }))
        (counted_left leaves.packets HeaderCheck s.station (counts_damage s.station.state))))
    noise_along read_as.DataBad e made =
        along_at queues leaves judged own other mine theirs (Noise bytes) OfNoLink _ h made
        (along_station queues leaves judged own other mine theirs (Noise bytes) (after_arrival s.station DataBad false) own.state.front
        (ap (λ (r : ReadingValue). answered own_left other_left (noise_step (layers_machine (judged_by queues)) own_left.state r)) e
        ∙ ap (λ (station : Station). Made (record own_left { state = record own_left.state { station = record t { station = station } } }))
        (counted_left leaves.packets DataCheck s.station (counts_damage s.station.state))))
    noise_along (read_as.Sound m) e made = absurd cc
    noise_along (read_as.Malformed departure) e made = absurd cc
