-- What is known of an end of the player beside the other when a step is made.
use Rattle.dna_play.proofs.Prelude.{◌≤◌, [], MAX_HINT}
use Rattle.dna_play.proofs.{Ends.Stage.Stage, Played.Facts.Later, Played.Facts.Facts, Played.Steps.Nothing, Played.Order.nothing_in_order}
use Rattle.dna_play.proofs.{Ends.TrueEnd.End}

pub record StoredNow (own other : End) : Type 0 where
  pub stage : Stage own
  pub theirs : Stage other
  pub later : Later own other
  pub few : own.passed ≤ MAX_HINT

-- and so this
pub facts_of : {own other : End} → StoredNow own other → Facts own other
facts_of {own} now = now.later own [] Nothing (nothing_in_order own.addresses)
