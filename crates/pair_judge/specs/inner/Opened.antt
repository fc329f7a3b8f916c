-- One side when its head has been read.
use Rattle.std.specs.Prelude.{◌≡◌, ℕ, List, [], Option}
use Rattle.dna_node.specs.WireLayers.{new_wire_layers_node}
use Rattle.pair_judge.specs.declared.course.Course.{Course}
use Rattle.pair_judge.specs.inner.Course.{IsRead, MayRead, along}
use Rattle.pair_judge.specs.inner.Lines.{held}
use Rattle.pair_judge.specs.Summary.{counts_of}

-- nothing is made, nothing was sent, and of the text the head alone was read
pub record OpensAt (text : Option (List ℕ)) (course : Course) (come : Option (List ℕ)) : Type 0 where
  pub read : IsRead (along text course come [])
  pub layers : course.end.layers ≡ (new_wire_layers_node course.end.head).station
  pub gone : course.end.line.gone ≡ 0
  pub units : held course.end.line ≡ []
  pub counts : course.end.counts ≡ counts_of []
  pub may_read : MayRead course
