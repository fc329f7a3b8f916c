-- What all would come to: the links as the machine has them.
use Rattle.dna_queues.proofs.Prelude.{◌≡◌, ℕ, true, ◌&&◌, ◌==◌, Option, Some, sym, ap, ap₂, ◌∙◌, slice_get, same_Some, Port, LinkTest, passes}
use Rattle.dna_queues.proofs.Prelude.{number_of, SentMessage, Node, waiting, link_it_is_for}
use Rattle.dna_links.specs.TrueLinks as machine
use Rattle.dna_queues.proofs.{Goes.Link, Goes.node_own, LinkLists.number_same, LinkLists.there_too, Hide.LateLink, Hide.hide, Dues.Due}
use Rattle.dna_queues.proofs.{Dues.AreSane}
use Rattle.dna_queues.proofs.Timed.{kept_as, Timed, unique_hidden}
use Rattle.dna_queues.proofs.Pending.{ComesAll, comes_all, then_ended}
use Rattle.dna_queues.proofs.Addressed.{stripped, stripped_is, good_timed}

module _ (s : machine.Links) (sane : AreSane s) (dues : ℕ → Due) (n : Node) (t : Timed s dues n) where
  pub all_come : ComesAll n
  all_come = comes_all n.links n.kept n.composed (unique_hidden s sane dues n t)
      (kept_as s.node s.peer n.links.node n.links.peer n.kept (sym t.node) (sym t.peer) t.kept) (good_timed s sane dues n t)

  pub all_is : (i : ℕ) (l : Link) → slice_get s.links i ≡ Some l → slice_get all_come.links.links i ≡ Some (stripped l (dues i).link)
  all_is i l at =
      all_come.all i (hide (dues i).link) (t.all i l at)
      ∙ ap (λ (o : Option ℕ). Some (then_ended (waiting link_it_is_for o n.kept) (hide (dues i).link)))
      (node_own (dues i).link ∙ ap (λ (p : Port). p.own) (t.went i l at).port)
      ∙ ap Some (stripped_is l (dues i).link (sane.each i l at) (t.went i l at) _ (t.awaits i l at))

  -- each of its links is the machine's, as it is seen
  pub all_seen : (i : ℕ) (h : LateLink) → slice_get all_come.links.links i ≡ Some h →
      (l : Link) × (slice_get s.links i ≡ Some l) × (h.port ≡ l.port) × (h.partner ≡ l.partner)
  all_seen i h at =
      let l = there_too s.links all_come.links.links i h (sym (all_come.size ∙ t.size)) at in
      let same : h ≡ stripped l.0 (dues i).link = same_Some h _ (sym at ∙ all_is i l.0 l.1) in
      (l.0, l.1, ap (λ (x : LateLink). x.port) same, ap (λ (x : LateLink). x.partner) same ∙ (t.went i l.0 l.1).partner)

  pub all_number : (test : LinkTest) → number_of test all_come.links ≡ number_of test s
  all_number test = number_same all_come.links s (all_come.size ∙ t.size) test (λ i h l at_h at_l. let k = all_seen i h at_h in
      ap (passes test) k.2 ∙ ap (λ (x : Link). passes test x.port) (same_Some k.0 l (sym k.1 ∙ at_l)))

  pub all_may : (unit : SentMessage) → (unit.packet.src == s.peer && unit.packet.dst == s.node) ≡ true →
      (unit.packet.src == all_come.links.peer && unit.packet.dst == all_come.links.node) ≡ true
  all_may unit may =
      ap₂ (λ (a b : ℕ). unit.packet.src == a && unit.packet.dst == b) (all_come.peer ∙ t.peer) (all_come.node ∙ t.node) ∙ may
