-- The book of segments on true numbers: nothing is let go, and what may be sent may be sent late.
use Rattle.std.proofs.Common.{◌≡◌, ℕ, ◌+◌, ◌-◌, Bool, true, false, nat_le, max, cond, Option, Some, None, List, [], ◌∷◌, refl, ap, ap₂, map}
use Rattle.dna_packet.specs.declared.ack_word.AckWord.{AckWord}
use Rattle.dna_packet.specs.Nsp.{SegmentValue}
use Rattle.dna_links.specs.Segmentation.{piece_of}
use Rattle.dna_links.specs.SegmentBook.{with_gap, wider, wire, distance, is_of_data}
use Rattle.dna_links.specs.Links.{LinkOf}
use Rattle.dna_links.specs.TrueSegments.{TrueSegments, Named, NamedLate, highest_received, named, named_late, all_named, all_named_late}
use Rattle.dna_links.specs.TrueSegments.{with_number, with_first, with_number_late, with_first_late, is_new, sends_new, segment_named, sends_segment}
use Rattle.dna_links.specs.TrueSegments.{went_on, new_late, true_segments}
use Rattle.dna_links.specs.TrueLinks.{Links}
use Rattle.dna_links.specs.Alike.{bare, bare_links}
use Rattle.dna_links.proofs.AsMuch.Plain.{IsLate, gap_late, left_of, plain, plain_links, LetsGo}

-- ---- what words name in a new segment they name with queues

abbrev NamesToo : Option Named → Option NamedLate → Type 0
NamesToo None o = Unit {0}
NamesToo (Some names) o = (left : ℕ) × (o ≡ Some (record { names = names; gap = left }))

number_too : (number : ℕ) (o : Option Named) (o' : Option NamedLate) → NamesToo o o' → NamesToo (with_number number o) (with_number_late number o')
number_too number None o' too = tt
number_too number (Some names) o' too = (too.0, ap (with_number_late number) too.1)

module _ (highest : ℕ) where
  abbrev WordsToo : List AckWord → Type 0
  WordsToo words = (gap last : ℕ) → NamesToo (all_named false highest words last) (all_named_late highest words gap last)

  module _ (word : AckWord) (words : List AckWord) (rest : WordsToo words) (gap last : ℕ) where
    abbrev first : Option ℕ → Option Named
    first o = with_first o (λ number. all_named false highest words (max last number))

    abbrev first_late : Option ℕ → Option NamedLate
    first_late o = with_first_late o (λ number. all_named_late highest words (last - number) (max last number))

    by_ahead : (ahead : Bool) (number : ℕ) (behind : Option ℕ) →
        NamesToo (first (cond ahead (Some number) None)) (first_late (cond ahead (Some number) behind))
    by_ahead true number behind = number_too number _ _ (rest (last - number) (max last number))
    by_ahead false number behind = tt

    by_data : (judged : Bool) → NamesToo (cond judged (first (named false last highest word.number)) (all_named false highest words last))
        (cond judged (first_late (named_late gap last highest word.number)) (all_named_late highest words gap last))
    by_data true = by_ahead (nat_le (last + distance (wire last) word.number) highest) _ _
    by_data false = rest gap last

  words_too : (words : List AckWord) → WordsToo words
  words_too [] gap last = (gap, refl)
  words_too (word ∷ words) gap last = by_data word words (λ g n. words_too words g n) gap last (is_of_data word.qualifier)

-- ---- what may be sent

module _ (gap segsize : ℕ) (s : SegmentValue) (f : TrueSegments) where
  by_names : (names : Option Named) (late : Option NamedLate) → NamesToo names late → is_new s f ≡ true →
      IsLate (segment_named names segsize s f) (new_late late segsize s f)
  by_names None late too new = tt
  by_names (Some names) late too new = rw (new, too.1) (gap_late (λ sent. too.0) (sends_new segsize (piece_of s) names f))

  by_new : (new : Bool) → is_new s f ≡ new → IsLate (sends_segment segsize s f)
      (cond new (new_late (all_named_late (highest_received f) s.acks gap f.last) segsize s f)
      (with_gap (λ sent. wider gap (went_on f sent.segments)) (sends_segment segsize s f)))
  by_new true new = rw new (by_names _ _ (words_too (highest_received f) s.acks gap f.last) new)
  by_new false new = gap_late _ (sends_segment segsize s f)

pub true_lets_go : LetsGo true_segments
true_lets_go = record {
  twice = λ f. refl;
  forgets = λ f. refl;
  delivers = λ message f left e. record { all = left; is = e; same = refl };
  late = λ gap segsize segment f. by_new gap segsize segment f (is_new segment f) refl;
}

-- ---- what is plain is without what the queues leave open

left_same : (live : Bool) (f : TrueSegments) → left_of true_segments live f ≡ f
left_same true f = refl
left_same false f = refl

pub plain_is : (l : LinkOf TrueSegments) → plain true_segments l ≡ bare l
plain_is l = ap (λ (f : TrueSegments). record (bare l) { segments = f }) (left_same _ l.segments)

pub plain_are : (s : Links) → plain_links true_segments s ≡ bare_links s
plain_are s = ap (λ (links : List (LinkOf TrueSegments)). record (bare_links s) { links = links }) (go s.links)
  where
    go : (links : List (LinkOf TrueSegments)) → map (plain true_segments) links ≡ map bare links
    go [] = refl
    go (l ∷ links) = ap₂ (λ (x : LinkOf TrueSegments) (xs : List (LinkOf TrueSegments)). x ∷ xs) (plain_is l) (go links)
