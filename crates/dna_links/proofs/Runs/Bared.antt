-- What holds of links without what the queues leave open holds of the links themselves.
use Rattle.std.proofs.Common.{◌≡◌, ℕ, ◌+◌, ◌<◌, true, Option, Some, None, List, [], ◌∷◌, length, map, option_map, refl, sym, ap, ap₂, ◌∙◌, subst}
use Rattle.std.proofs.Common.{arith}
use Rattle.std.specs.Prelude.{slice_get}
use Rattle.std.proofs.lemmas.List.{length-map}
use Rattle.std.proofs.lemmas.Option.{slice_get-map}
use Rattle.two_nodes.specs.Beginning.{BeginsWith}
use Rattle.dna_links.specs.Segmentation.{Piece}
use Rattle.dna_links.specs.Links.{LinkOf}
use Rattle.dna_links.specs.User.{LinkEventValue}
use Rattle.dna_links.specs.TrueSegments.{TrueSegments}
use Rattle.dna_links.specs.Runs.{LinkSide}
use Rattle.dna_links.specs.Bounds.{AreLinksBounded}
use Rattle.dna_links.specs.Delivery.{HeldFrom, UpFrom, DeliversLinks}
use Rattle.dna_links.specs.Captures.{IsRead, HasNeither, IsReadFrom, AreRead, AreUpFrom, deliveries}
use Rattle.dna_links.specs.Alike.{bare, bare_links, bare_side}
use Rattle.dna_links.proofs.Runs.Bare.{bare_at}

pub bounded_bare : (own other : LinkSide) → AreLinksBounded (bare_side own) (bare_side other) → AreLinksBounded own other
bounded_bare own other b = record {
  ordered = λ i l at. let o = b.ordered i (bare l) (bare_at own.links i l at) in
      record { segments = o.segments; answered = o.answered; fresh = o.fresh };
  answered = λ i l at. b.answered i (bare l) (bare_at own.links i l at);
  near = λ place unit ahead there small. λ number l at acted pair.
      b.near place unit ahead there small number (bare l) (bare_at own.links number l at) acted pair;
}

-- the link that is bare there
module _ (links : List (LinkOf TrueSegments)) where
  pub record IsBareAt (partner : ℕ) (there : LinkOf TrueSegments) : Type 0 where
    pub link : LinkOf TrueSegments
    pub at : slice_get links partner ≡ Some link
    pub is : bare link ≡ there

  pub bare_there : (partner : ℕ) (there : LinkOf TrueSegments) → slice_get (map bare links) partner ≡ Some there → IsBareAt partner there
  bare_there partner there at = go (slice_get links partner) refl (sym (slice_get-map bare links partner) ∙ at)
    where
      go : (o : Option (LinkOf TrueSegments)) → slice_get links partner ≡ o → option_map bare o ≡ Some there → IsBareAt partner there
      go None here e = absurd cc
      go (Some link) here e = record { link = link; at = here; is = cc }

  held_bare : (partner : Option ℕ) (received : List (Option Piece)) → HeldFrom partner received (map bare links) → HeldFrom partner received links
  held_bare None received held = held
  held_bare (Some partner) received held =
      let t = bare_there partner held.0 held.1 in
      (t.link, t.at, λ n p at. ap (λ (l : LinkOf TrueSegments). slice_get l.segments.given n) t.is ∙ held.2 n p at)

  up_bare : (partner : Option ℕ) (delivered : List (List ℕ)) → UpFrom partner delivered (map bare links) → UpFrom partner delivered links
  up_bare None delivered up = up
  up_bare (Some partner) delivered up =
      let t = bare_there partner up.0 up.1 in
      (t.link, t.at, subst (λ (l : LinkOf TrueSegments). BeginsWith l.segments.handed delivered) (sym t.is) up.2)

pub delivers_bare : (own other : LinkSide) → DeliversLinks (bare_links own.links) (bare_links other.links) → DeliversLinks own.links other.links
delivers_bare own other d = record {
  cut = λ i l at. let c = d.cut i (bare l) (bare_at own.links i l at) in record { all = c.all; none_left = c.none_left };
  held = λ i l at. held_bare other.links.links l.partner l.segments.received (d.held i (bare l) (bare_at own.links i l at));
  up = λ i l at. up_bare other.links.links l.partner l.segments.delivered (d.up i (bare l) (bare_at own.links i l at));
}

module _ (events : List LinkEventValue) (own : LinkSide) where
  one_read : (l : LinkOf TrueSegments) (place : Option ℕ) → IsRead events (bare l) place → IsRead events l place
  one_read l None r = record { handed = r.handed; up = r.up }
  one_read l (Some place) r =
      record { event = r.event; there = r.there; own = r.own; gives = r.gives; handed = r.handed; up = r.up }

  pub read_bare : AreRead events (bare_links own.links).links → AreRead events own.links.links
  read_bare r = record {
    place_of = r.place_of;
    read = λ i l at. one_read l (r.place_of i) (r.read i (bare l) (bare_at own.links i l at));
    within = λ i place at. let w = r.within i place at in let l = length-map own.links.links bare in omega arith;
    once = r.once;
    all = r.all;
  }

pub up_from_bare : (events further : List LinkEventValue) (own other : LinkSide) →
    AreUpFrom events further (bare_links own.links).links (bare_links other.links).links → AreUpFrom events further own.links.links other.links.links
unfolding read_bare
up_from_bare events further own other u = record {
  own = read_bare events own u.own;
  other = read_bare further other u.other;
  up = λ i place address link event at is there gives. u.up i place address (bare link) event (bare_at own.links i link at) is there gives;
}

pub deliveries_bare : (links : List (LinkOf TrueSegments)) → deliveries (map bare links) ≡ deliveries links
deliveries_bare [] = refl
deliveries_bare (link ∷ links) = ap (λ (n : ℕ). length link.segments.delivered + n) (deliveries_bare links)
