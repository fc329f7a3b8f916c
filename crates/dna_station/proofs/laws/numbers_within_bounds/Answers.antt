use Rattle.dna_station.proofs.Bounds.Runs.{sound, sound_bounded}
use Rattle.dna_station.proofs.laws.numbers_within_bounds.Goals as goal

pub returns : goal.returns
returns c = record {
  of_a = λ head_a head_b w of_a of_b run. let s = sound head_a head_b w of_a of_b run in sound_bounded w.a w.b s.of_a s.of_b;
  of_b = λ head_a head_b w of_a of_b run. let s = sound head_a head_b w of_a of_b run in sound_bounded w.b w.a s.of_b s.of_a;
}
