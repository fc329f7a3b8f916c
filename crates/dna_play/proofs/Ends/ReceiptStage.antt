-- What holds of an end of the player that takes what comes: the DC for a DI names a link that is over.
use Rattle.dna_play.proofs.Prelude.{arith, ap, NspValue, LinkTag, of_partner, IsAddressed, source, target}
use Rattle.dna_play.proofs.{Links.Confirms.end_done, Links.Comes.EndsHold, Ends.TrueEnd.End, Ends.TrueEnd.links_of, Ends.Stage.Stage}
use Rattle.dna_play.proofs.{Ends.Stage.Known}

module _ (own other : End) (h : Stage own) (theirs : Stage other) (known : Known own other) where
  -- the DC for a DI
  pub ends_hold : (m : NspValue) (tag : LinkTag) → IsAddressed (links_of other.half).links (links_of own.half).links m tag →
      EndsHold (links_of own.half) own.addresses m
  ends_hold m tag told dst src reason user_data is code small =
      let to = told.to dst (ap target is) in let from = told.from src (ap source is) in
      let given = known.addressed.highest to.number dst to.owns in let some = known.addressed.least to.number dst to.owns in
      let below = known.others.highest from.number src from.owns in let few = theirs.few in let own_few = h.few in
      record {
        done = end_done (links_of own.half) (links_of other.half).links own.addresses known.addressed of_partner dst src code given;
        small = record { dst = omega arith; src = omega arith; reason = small };
        some = some;
      }
