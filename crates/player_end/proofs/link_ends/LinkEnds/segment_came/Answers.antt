use Rattle.std.proofs.Common.{ℕ, List, Some, refl, sym, ap, ◌∙◌}
use Rattle.std.proofs.lemmas.List.{append-nil}
use Rattle.dna_packet.specs.Nsp.{DataSegment, segment_view}
use Rattle.dna_links.specs.declared.port.LinkTest.TheVariants.{ActedOn}
use Rattle.dna_play.specs.NextSent.{LinkEnd}
use Rattle.dna_play.specs.StoredLinks.{delivering_at, delivering_none, took_segment}
use Rattle.player_end.specs.inner.Delivering.{delivers}
use Rattle.player_end.specs.inner.Index.{live_of}
use Rattle.player_end.proofs.Searching.{segment_at, with_none}
use Rattle.player_end.proofs.link_ends.LinkEnds.segment_came.Goals as goal

pub returns-in_default-clause-ok : goal.returns-in_default-clause-ok
returns-in_default-clause-ok g c =
    let s = c.args.self.now in
    let seg = segment_view c.args.segment.now in
    ap (delivers (DataSegment seg) c.args.text.now.items) (with_none (ActedOn seg.dstaddr seg.srcaddr) s (delivering_none (live_of s))
    (λ place (l : LinkEnd). delivering_at place (took_segment seg l) (live_of s)) refl (sym c.in_default.ensures.number))
    ∙ ap (λ (t : List ℕ). Some (live_of s, t)) (append-nil c.args.text.now.items)

pub returns-clause-ok : goal.returns-clause-ok
returns-clause-ok g c =
    rw (segment_at c.args.self.now (segment_view c.args.segment.now) (sym c.in-Some.ensures.number) c.in-Some.ensures.link)
    (c.take_segment_at.ensures.ok _ c.in-Some.ensures.link)

pub returns-clause-stop : goal.returns-clause-stop
returns-clause-stop g c =
    rw (segment_at c.args.self.now (segment_view c.args.segment.now) (sym c.in-Some.ensures.number) c.in-Some.ensures.link)
    (c.take_segment_at.ensures.stop _ c.in-Some.ensures.link)
