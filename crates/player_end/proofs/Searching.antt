-- What is found among all links is found among those that live, at its place there.
use Rattle.std.proofs.Common.{◌≡◌, ℕ, Bool, true, Option, Some, None, option_map, refl, ap, ◌∙◌}
use Rattle.std.specs.Prelude.{slice_get}
use Rattle.dna_links.specs.declared.port.Phase.{Phase}
use Rattle.dna_links.specs.declared.port.Phase.TheVariants.{Ended}
use Rattle.dna_links.specs.declared.port.Port.{Port}
use Rattle.dna_links.specs.declared.port.LinkTest.{LinkTest}
use Rattle.dna_links.specs.declared.port.LinkTest.TheVariants.{HasAddress, ActedOn}
use Rattle.dna_links.specs.LookUps.{passes, is_live}
use Rattle.dna_play.specs.NextSent.{LinkEnd}
use Rattle.dna_play.specs.StoredEnd.{StoredLinks}
use Rattle.dna_packet.specs.Nsp.{DataSegment, SegmentValue}
use Rattle.dna_play.specs.StoredLinks.{arrives, delivering_at, delivering_none, took_segment, place_of, at_place, on_end, with_end}
use Rattle.player_end.proofs.LiveLists.{live_get, live_position}
use Rattle.dna_links.proofs.Tables.Outcomes.{position_passes}
use Rattle.player_end.specs.inner.Index.{live_ends, live_of, place_among, needs_life}

-- ---- tests that no ended link passes

by_phase : (test : LinkTest) (phase : Phase) (opened : Bool) (own far : Option ℕ) → needs_life test ≡ true →
    passes test (record { phase = phase; opened = opened; own = own; far = far }) ≡ true → is_live phase ≡ true
by_phase (HasAddress address) Ended opened own far needs e = absurd cc
by_phase test Ended opened own far needs e = absurd cc
by_phase test phase opened own far needs e = refl

pub test_lives : (test : LinkTest) → needs_life test ≡ true → (port : Port) → passes test port ≡ true → is_live port.phase ≡ true
test_lives test needs port e = by_phase test port.phase port.opened port.own port.far needs e

-- ---- what is found

module _ {R : Type 0} (test : LinkTest) (s : StoredLinks) (otherwise : R) (next : ℕ → LinkEnd → R) where
  place_live : needs_life test ≡ true → (o : Option ℕ) → place_of test s.links ≡ o →
      with_end test (live_of s) otherwise next ≡ at_place (live_ends s.links) (option_map (λ (n : ℕ). place_among n s.links) o) otherwise next
  place_live needs o e =
      ap (λ (p : Option ℕ). at_place (live_ends s.links) p otherwise next)
      (live_position (λ (l : LinkEnd). passes test l.port) s.links (λ n l at h. test_lives test needs l.port h)
      ∙ ap (option_map (λ (n : ℕ). place_among n s.links)) e)

  pub with_none : needs_life test ≡ true → place_of test s.links ≡ None → with_end test (live_of s) otherwise next ≡ otherwise
  with_none needs e = place_live needs None e

  pub with_passed : (n : ℕ) (link : LinkEnd) → needs_life test ≡ true → place_of test s.links ≡ Some n → slice_get s.links n ≡ Some link →
      with_end test (live_of s) otherwise next ≡ next (place_among n s.links) link
  with_passed n link needs e at =
      place_live needs (Some n) e
      ∙ ap (λ (o : Option LinkEnd). on_end (place_among n s.links) o otherwise next) (live_get s.links n link at
      (test_lives test needs link.port (position_passes (λ (l : LinkEnd). passes test l.port) s.links n link e at)))

-- a segment comes for it
pub segment_at : (s : StoredLinks) {n : ℕ} {link : LinkEnd} (seg : SegmentValue) → place_of (ActedOn seg.dstaddr seg.srcaddr) s.links ≡ Some n →
    slice_get s.links n ≡ Some link →
    arrives (DataSegment seg) (live_of s) ≡ delivering_at (place_among n s.links) (took_segment seg link) (live_of s)
segment_at s {n} {link} seg found at = with_passed (ActedOn seg.dstaddr seg.srcaddr) s (delivering_none (live_of s))
    (λ (place : ℕ) (l : LinkEnd). delivering_at place (took_segment seg l) (live_of s)) n link refl found at

pub ruleset found_ends = (with_none, with_passed)
