-- What holds of both sides' links in every run, with queues or without.
use Rattle.std.proofs.Common.{◌≡◌, ℕ, List, sym, ◌∙◌}
use Rattle.dna_links.specs.declared.queue.Queues.{Queues}
use Rattle.dna_links.specs.declared.queue.Queues.TheVariants.{Without, With}
use Rattle.dna_links.specs.User.{LinkEventValue}
use Rattle.dna_links.specs.Arriving.{of_partner}
use Rattle.dna_links.specs.Runs.{LinkSide, LinkWorld, Reached, new_world}
use Rattle.dna_links.specs.Bounds.{AreLinksBounded, AreCutInStep}
use Rattle.dna_links.specs.Delivery.{DeliversLinks}
use Rattle.dna_links.specs.Captures.{AreUpFrom, deliveries, ups}
use Rattle.dna_links.specs.Alike.{bare_world}
use Rattle.dna_links.proofs.Cut.LateUser.{user_late}
use Rattle.dna_links.proofs.Cut.LateSends.{sent_late}
use Rattle.dna_links.proofs.Cut.LateArrives.{arrived_late}
use Rattle.dna_links.proofs.Runs.Loose.{without_loose}
use Rattle.dna_links.proofs.Runs.Late.{with_loose}
use Rattle.dna_links.proofs.Runs.Bounds.{side_in_step}
use Rattle.dna_links.proofs.Runs.Bounds as loose
use Rattle.dna_links.proofs.Runs.Bared.{bounded_bare, delivers_bare, up_from_bare, deliveries_bare}

late_in_step : (own other : LinkSide) → AreLinksBounded own other → AreCutInStep With own other
late_in_step own other b = record {
  user = λ event. user_late own.links event;
  sent = λ packet. sent_late own.links b.ordered b.answered packet;
  kept = λ place unit ahead there small. arrived_late of_partner own.links b.ordered unit.truth unit.packet (b.near place unit ahead there small);
}

module _ (node_a peer_a node_b peer_b : ℕ) (w : LinkWorld) (of_a of_b : List LinkEventValue) where
  abbrev Run : Queues → Type 0
  Run queues = Reached queues (new_world node_a peer_a node_b peer_b) w of_a of_b

  pub bounded : (queues : Queues) → Run queues → AreLinksBounded w.a w.b × AreLinksBounded w.b w.a
  bounded Without run = loose.bounded node_a peer_a node_b peer_b w of_a of_b (without_loose run)
  bounded With run =
      let b = loose.bounded node_a peer_a node_b peer_b (bare_world w) of_a of_b (with_loose run) in
      (bounded_bare w.a w.b b.0, bounded_bare w.b w.a b.1)

  pub in_step : (queues : Queues) → Run queues → AreCutInStep queues w.a w.b × AreCutInStep queues w.b w.a
  in_step Without run = let b = bounded Without run in (side_in_step w.a w.b b.0, side_in_step w.b w.a b.1)
  in_step With run = let b = bounded With run in (late_in_step w.a w.b b.0, late_in_step w.b w.a b.1)

  pub delivers : (queues : Queues) → Run queues → DeliversLinks w.a.links w.b.links × DeliversLinks w.b.links w.a.links
  delivers Without run = loose.delivers node_a peer_a node_b peer_b w of_a of_b (without_loose run)
  delivers With run =
      let d = loose.delivers node_a peer_a node_b peer_b (bare_world w) of_a of_b (with_loose run) in
      (delivers_bare w.a w.b d.0, delivers_bare w.b w.a d.1)

  pub read : (queues : Queues) → Run queues →
      AreUpFrom of_a of_b w.a.links.links w.b.links.links × AreUpFrom of_b of_a w.b.links.links w.a.links.links
  read Without run = loose.read node_a peer_a node_b peer_b w of_a of_b (without_loose run)
  read With run =
      let r = loose.read node_a peer_a node_b peer_b (bare_world w) of_a of_b (with_loose run) in
      (up_from_bare of_a of_b w.a w.b r.0, up_from_bare of_b of_a w.b w.a r.1)

  pub counted : (queues : Queues) → Run queues → (deliveries w.a.links.links ≡ ups of_a) × (deliveries w.b.links.links ≡ ups of_b)
  counted Without run = loose.counted node_a peer_a node_b peer_b w of_a of_b (without_loose run)
  counted With run =
      let c = loose.counted node_a peer_a node_b peer_b (bare_world w) of_a of_b (with_loose run) in
      (sym (deliveries_bare w.a.links.links) ∙ c.0, sym (deliveries_bare w.b.links.links) ∙ c.1)
