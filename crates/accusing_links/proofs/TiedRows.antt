-- Every row keeps it that the links of a node have their far addresses by CIs and CCs that passed, where it gives no address and makes no link.
use Rattle.accusing_links.proofs.Prelude.{◌≡◌, ℕ, Some, slice_get, Queues, LinkOf, LinkTruth, drops, WireSegments, wire_segments, WireLinks}
use Rattle.accusing_links.proofs.{RightLinks.Numbers, Each.each_at, Along.OfRow}
use Rattle.accusing_links.proofs.Rows.{Any, IsKept, AreKept, settled_by, each_keeps}
use Rattle.accusing_links.proofs.Tied.{Is, blank_tied, dropped_tied, forgotten_tied, IsCalm, does_tied, AreTied}

module _ (P : Numbers) (queues : Queues) where
  abbrev pub Now : OfRow
  Now n l = Is P queues l

  abbrev pub Are : WireLinks → Type 0
  Are x = AreTied P queues x.links

  module _ (s : WireLinks) (are : AreTied P queues s.links) where
    pub there : (n : ℕ) (l : LinkOf WireSegments) → slice_get s.links n ≡ Some l → Is P queues l
    there n l at = each_at (Is P queues) s.links n l are at

    pub keeps : (truth : LinkTruth (Unit {0})) → IsKept queues s Now Any (IsCalm P queues) truth
    keeps truth = record {
      none = blank_tied P queues;
      there = there;
      delivered = λ message n l d made is. is;
      sent = λ segment n l f gap may made is. is;
      acks = λ acks n l sent gap may made is. is;
      does = λ n l effect calm is. does_tied P queues truth l effect calm is;
    }

    pub all_keep : AreKept queues s Now Are
    all_keep =
        each_keeps queues s (Is P queues) are (λ l is. forgotten_tied P queues queues l is)
        (λ l is. settled_by (Is P queues) l.queue.waits l is (λ said. is) is)
        (λ l is. forgotten_tied P queues queues (drops wire_segments queues l) (dropped_tied P queues queues l is))
