-- In every run the head of an end stays, and the numbers of its links are in order.
use Rattle.dna_play.proofs.Prelude.{◌≡◌, List, refl, ◌∙◌, Half, World, Run, Done, OfA, OfB, Record, Rules, judged, AreLinksBounded, LinkSide}
use Rattle.dna_play.proofs.Prelude.{LayersNode, LayersUnit, layers_pair, OnTop, Counted, follows}
use Rattle.dna_play.proofs.Ends.Stage.{HasNumbers}

-- ---- the addresses of a head stay

head_stays : (rules : Rules) (own other h : Half LayersNode LayersUnit) (r : Record) → OnTop rules own other r h → h.state.head ≡ own.state.head
head_stays rules own other h r (Counted bytes reason) = refl
head_stays rules own other h r on_top = refl

pub heads_stay : {w end : World LayersNode LayersUnit} {of_a of_b : List Record} → Run layers_pair w of_a of_b end →
    (end.a.state.head ≡ w.a.state.head) × (end.b.state.head ≡ w.b.state.head)
heads_stay Done = (refl, refl)
heads_stay {w} (OfA {h = h} {r = r} made rest) = let e = heads_stay rest in
    (e.0 ∙ head_stays judged w.a w.b h r (follows judged w.a w.b h r made).links, e.1)
heads_stay {w} (OfB {h = h} {r = r} made rest) = let e = heads_stay rest in
    (e.0, e.1 ∙ head_stays judged w.b w.a h r (follows judged w.b w.a h r made).links)

-- ---- the numbers of its links

pub numbers_of : (own other : LinkSide) → AreLinksBounded own other → HasNumbers own.links.links
numbers_of own other b i l at = ((b.ordered i l at).segments, b.answered i l at)
