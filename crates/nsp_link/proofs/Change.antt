-- What a link that changes in its place makes of the links.
use Rattle.std.proofs.Common.{◌≡◌, ℕ, suc, ◌<◌, Bool, true, false, ◌&&◌, not, eqb, cond, Option, Some, None, Result, Ok, Err, OnOk, List}
use Rattle.std.proofs.Common.{length, get_or, set, refl}
use Rattle.std.proofs.Common.{sym, subst, ap, ◌∙◌}
use Rattle.std.specs.Prelude.{slice_get}
use Rattle.std.proofs.lemmas.List.{set-get_or}
use Rattle.std.proofs.lemmas.Option.{slice_get_read}
use Rattle.dna_links.specs.LookUps.{is_live, is_at}
use Rattle.dna_links.specs.Links.{LinkOf, changed, with_segments}
use Rattle.dna_links.specs.WireSegments.{WireSegments}
use Rattle.dna_links.specs.WireLinks.{WireLinks}
use Rattle.dna_links.specs.declared.port.Phase.TheVariants.{Running, Ended}
use Rattle.dna_links.specs.declared.port.Port.{Port}
use Rattle.dna_links.specs.LookUps.{is_called, is_calling}
use Rattle.nsp_link.specs.inner.Index.{IsIndexed, Stays, counting}
use Rattle.nsp_link.specs.inner.Indexing.{AreIndexed}
use Rattle.nsp_link.specs.declared.index.Index.{Index}
use Rattle.nsp_link.proofs.Indexed.{indexed_change, indexed_confirm, indexed_end, no_more, stays_same}
use Rattle.nsp_link.proofs.Used.{used_change, uses_same}

and_false : (b : Bool) → (b && false) ≡ false
and_false true = refl
and_false false = refl

pub map_ok : {A E P Q : Type 0} (r : Result A E) → (P → Q) → OnOk r P → OnOk r Q
map_ok (Ok x) f h = f h
map_ok (Err e) f h = h

-- one of the links of a node, at its number
pub record InPlace (node peer : ℕ) (items : List (LinkOf WireSegments)) (s : WireLinks) (n : ℕ) (l : LinkOf WireSegments) : Type 0 where
  pub is : record { node = node; peer = peer; links = items } ≡ s
  pub within : n < length s.links
  pub there : l ≡ get_or items n l

pub in_place : {node peer : ℕ} {items : List (LinkOf WireSegments)} {s : WireLinks} {n : ℕ} {l : LinkOf WireSegments} →
    record { node = node; peer = peer; links = items } ≡ s → n < length s.links → l ≡ get_or items n l → InPlace node peer items s n l
in_place is within there = record { is = is; within = within; there = there }

module _ {node peer : ℕ} {items : List (LinkOf WireSegments)} {s : WireLinks} {n : ℕ} {l : LinkOf WireSegments}
    (at : InPlace node peer items s n l) where
  shown_within : n < length items
  shown_within = subst (λ (t : WireLinks). n < length t.links) (sym at.is) at.within

  pub link_there : slice_get items n ≡ Some l
  link_there = slice_get_read items (length items) n l refl shown_within at.there

  pub link_found : slice_get s.links n ≡ Some l
  link_found = ap (λ (t : WireLinks). slice_get t.links n) (sym at.is) ∙ link_there

  pub same_link : (link : LinkOf WireSegments) → slice_get s.links n ≡ Some link → l ≡ link
  same_link link e = let both : Some l ≡ Some link = sym link_found ∙ e in cc

  -- what holds of it holds of the link that is there
  pub holds_there : (P : LinkOf WireSegments → Type 0) → P l → (link : LinkOf WireSegments) → slice_get s.links n ≡ Some link → P link
  holds_there P h link found = subst P (same_link link found) h

  -- it changes to this one
  pub changes_to : (m : LinkOf WireSegments) → record { node = node; peer = peer; links = set items n m } ≡ changed n m s
  changes_to m = ap (λ (t : WireLinks). changed n m t) at.is

  -- it is the change of the link that is there
  pub change_made : (f : LinkOf WireSegments → LinkOf WireSegments) {m : LinkOf WireSegments} → m ≡ f l → (link : LinkOf WireSegments) →
      slice_get s.links n ≡ Some link → record { node = node; peer = peer; links = set items n m } ≡ changed n (f link) s
  change_made f {m} e link found =
      changes_to m ∙ ap (λ (k : LinkOf WireSegments). changed n k s) (e ∙ ap f (same_link link found))

  pub made_if_ok : {A E : Type 0} (r : Result A E) (f : LinkOf WireSegments → LinkOf WireSegments) (m : LinkOf WireSegments) → OnOk r (m ≡ f l) →
      (link : LinkOf WireSegments) → slice_get s.links n ≡ Some link →
      OnOk r (record { node = node; peer = peer; links = set items n m } ≡ changed n (f link) s)
  made_if_ok r f m made link found = map_ok r (λ e. change_made f e link found) made

  -- one that stays as it was changes nothing
  pub change_none : {m : LinkOf WireSegments} → m ≡ l → record { node = node; peer = peer; links = set items n m } ≡ s
  change_none e = ap (λ (xs : List (LinkOf WireSegments)). record { node = node; peer = peer; links = xs })
      (ap (λ (k : LinkOf WireSegments). set items n k) (e ∙ at.there) ∙ set-get_or items n l) ∙ at.is

  -- ---- how it is found

  module _ {h c : ℕ → Option ℕ} {r : ℕ → ℕ} {w : ℕ} (index : IsIndexed items h c r w) where
    module _ {h' c' : ℕ → Option ℕ} {r' : ℕ → ℕ} {w' : ℕ} (holders : (q : ℕ) → h' q ≡ h q) (callers : (q : ℕ) → c' q ≡ c q) where
      -- a CC confirms it: it gets to know an address of the other side
      pub confirmed_index : (far : ℕ) (m : LinkOf WireSegments) → is_calling l.port.phase ≡ true →
          (l.port.opened ≡ true) × (l.port.far ≡ None) → m.port ≡ record l.port { phase = Running; far = Some far } → suc w' ≡ w →
          ((q : ℕ) → r' q ≡ cond (eqb far q) (suc (r q)) (r q)) → IsIndexed (set items n m) h' c' r' w'
      confirmed_index far m calling known made wait counts =
          indexed_confirm items h c r w index n l m link_there h' c' r' w' holders callers (ap (λ (p : Port). p.own) made)
          (λ q. no_more m q (ap (λ (p : Port). is_called p.phase) made)
          (ap (λ (p : Port). is_live p.phase && not p.opened) made ∙ ap not known.0))
          far calling
          (λ q. ap (λ (f : Option ℕ). is_live l.port.phase && is_at f q) known.1 ∙ and_false (is_live l.port.phase))
          (ap (λ (p : Port). is_calling p.phase) made) (λ q. ap (λ (p : Port). is_live p.phase && is_at p.far q) made) wait counts

      -- it ends
      pub ended_index : {port : Port} (m : LinkOf WireSegments) → port ≡ l.port → is_live l.port.phase ≡ true →
          m.port ≡ record l.port { phase = Ended } →
          cond (is_calling port.phase) (suc w') w' ≡ w → ((q : ℕ) → cond (is_at port.far q) (suc (r' q)) (r' q) ≡ r q) →
          IsIndexed (set items n m) h' c' r' w'
      ended_index {port} m same lived made wait counts =
          indexed_end items h c r w index n l m link_there h' c' r' w' holders callers (ap (λ (p : Port). p.own) made)
          (λ q. no_more m q (ap (λ (p : Port). is_called p.phase) made) (ap (λ (p : Port). is_live p.phase && not p.opened) made))
          lived (ap (λ (p : Port). is_live p.phase) made) (ap (λ (p : Port). is_calling p.phase) made)
          (sym (ap (λ (p : Port). cond (is_calling p.phase) (suc w') w') same) ∙ wait)
          (λ q. sym (ap (λ (p : Port). cond (is_at p.far q) (suc (r' q)) (r' q)) same) ∙ counts q)

-- ---- that the index stays one, as the tactic finds it

module _ {node peer : ℕ} {items : List (LinkOf WireSegments)} {s : WireLinks} {n : ℕ} {l m : LinkOf WireSegments} {index : Index} where
  pub stays_index : Stays l m → l ≡ get_or items n l → record { node = node; peer = peer; links = items } ≡ s → n < length s.links →
      AreIndexed items index → AreIndexed (set items n m) index
  stays_index stays there is within are =
      let at = link_there (in_place is within there) in
      record {
        found = indexed_change items _ _ _ _ are.found n l m at stays.found;
        used = used_change (counting index.counts) items n l m _ _ are.used at (uses_same l m stays) (λ q. refl);
      }

  pub keeps_index : m ≡ with_segments m.segments l → l ≡ get_or items n l → record { node = node; peer = peer; links = items } ≡ s →
      n < length s.links → AreIndexed items index → AreIndexed (set items n m) index
  keeps_index rest there is within are =
      stays_index (stays_same l m (ap (λ (k : LinkOf WireSegments). k.port) rest) (ap (λ (k : LinkOf WireSegments). k.queue.waits) rest))
      there is within are

pub ruleset changes = (stays_index, keeps_index)
