-- An own address that is given: to a link that begins, or to one that is answered; the ended link that had it loses it.
use Rattle.std.proofs.Common.{◌≡◌, ℕ, zero, suc, ◌<◌, ◌≤◌, Bool, true, false, ◌&&◌, not, cond, Option, Some, None, List, [], ◌∷◌, ◌++◌, length}
use Rattle.std.proofs.Common.{get_or, set, refl}
use Rattle.std.proofs.Common.{sym, subst, ap, ◌∙◌, arith, eqb}
use Rattle.std.proofs.Common.{nat_cmp, nat_eq}
use Rattle.std.specs.BTreeMap.{get}
use Rattle.std.specs.HashMap as hashed
use Rattle.std.specs.Prelude.{slice_get, position}
use Rattle.std.proofs.lemmas.Option.{slice_get_within, slice_get_read}
use Rattle.std.proofs.lemmas.Bool.{eqb-true, eqb-false}
use Rattle.dna_links.specs.Queues.{freed}
use Rattle.dna_links.specs.declared.queue.Queues.{Queues}
use Rattle.dna_links.specs.declared.queue.Queues.TheVariants.{With}
use Rattle.dna_links.specs.LookUps.{is_live, is_at, is_called, is_calling}
use Rattle.dna_links.specs.Links.{LinkOf, begun, changed}
use Rattle.dna_links.specs.inner.Forms.{opened}
use Rattle.dna_links.specs.declared.port.Phase.{Phase}
use Rattle.dna_links.specs.WireSegments.{WireSegments, wire_segments}
use Rattle.dna_links.specs.WireLinks.{WireLinks}
use Rattle.nsp_link.specs.inner.Index.{IsIndexed, forgotten_found, forgotten_at, look_in, look_at, own_of, begun_from, lives_to, waits, counted}
use Rattle.nsp_link.specs.declared.index.Index.{Index}
use Rattle.nsp_link.specs.inner.Index.{times}
use Rattle.nsp_link.specs.inner.Indexing.{AreIndexed}
use Rattle.nsp_link.specs.inner.Queue.{answered_link, forgotten_link}
use Rattle.nsp_link.proofs.Counting.{bit, bit_false, counted_set, counted_push}
use Rattle.nsp_link.proofs.LookUps.{called_lives}
use Rattle.nsp_link.proofs.Indexed.{look_less, length_set, indexed_same, no_more, begun_less}
use Rattle.nsp_link.proofs.Holders.{lost, gives_has, gives_holds}
use Rattle.nsp_link.proofs.Forgotten.{set_same, set_other, push_here, push_other, past, length_push, own_forgotten, begun_forgotten}
use Rattle.nsp_link.proofs.Used.{used_if, used_none, used_same, used_with}
use Rattle.nsp_link.proofs.Forgotten.{counted_forgotten, length_forgotten, freed_is}

-- ---- the two ways to give an own address

module _ (queues : Queues) (links : List (LinkOf WireSegments)) (h c : ℕ → Option ℕ) (r : ℕ → ℕ) (w : ℕ) (index : IsIndexed links h c r w)
    (own : ℕ) (m : LinkOf WireSegments)
    (owns : m.port.own ≡ Some own) where
  module _ (h' c' : ℕ → Option ℕ) (r' : ℕ → ℕ) (w' : ℕ) (callers : (q : ℕ) → c' q ≡ c q) (counts : (q : ℕ) → r' q ≡ r q) where
    pub indexed_open : (begun : (q : ℕ) → begun_from m ≡ Some q → ⊥) → ((q : ℕ) → lives_to q m ≡ false) → w' ≡ suc w →
        ((q : ℕ) → h' q ≡ cond (eqb own q) (Some (length links)) (h q)) → IsIndexed (forgotten_at queues (h own) links ++ m ∷ []) h' c' r' w'
    indexed_open begun unknown wait given =
        record {
          has = gives_has (look_at own_of links) h f' h' own n index.has index.holds (past own_of links) here others given;
          holds = gives_holds (look_at own_of links) h f' h' own n index.has index.holds (past own_of links) here others given;
          calls = calls;
          reaches = reaches;
          waits = few_wait;
          few = few_all;
        } where
          n : ℕ
          n = length links

          left : List (LinkOf WireSegments)
          left = forgotten_at queues (h own) links

          f' : ℕ → Option ℕ
          f' k = look_at own_of (forgotten_at queues (h own) links ++ m ∷ []) k

          here : look_at own_of (forgotten_at queues (h own) links ++ m ∷ []) (length links) ≡ Some own
          here = ap (λ (k : ℕ). look_at own_of (forgotten_at queues (h own) links ++ m ∷ []) k) (sym (length_forgotten queues links (h own))) ∙
              push_here own_of (forgotten_at queues (h own) links) m ∙ owns

          others : (k : ℕ) → (k ≡ length links → ⊥) → look_at own_of (forgotten_at queues (h own) links ++ m ∷ []) k
              ≡ lost (h own) k (look_at own_of links k)
          others k apart = push_other own_of (forgotten_at queues (h own) links) m k (λ e. apart (e ∙ length_forgotten queues links (h own))) ∙
              own_forgotten queues links (h own) k

          calls : (k q : ℕ) → look_at begun_from (forgotten_at queues (h own) links ++ m ∷ []) k ≡ Some q → c' q ≡ Some k
          calls k q e = by_number (eqb k (length left)) refl where
            by_number : (b : Bool) → eqb k (length left) ≡ b → c' q ≡ Some k
            by_number true is =
                let at = eqb-true k (length left) is in
                absurd (begun q (sym (ap (look_at begun_from (left ++ m ∷ [])) at ∙ push_here begun_from left m) ∙ e))
            by_number false is =
                callers q ∙ index.calls k q (sym (push_other begun_from left m k (eqb-false k (length left) is)
                ∙ begun_forgotten queues links (h own) k) ∙ e)

          reaches : (q : ℕ) → r' q ≡ counted (lives_to q) (forgotten_at queues (h own) links ++ m ∷ [])
          reaches q =
              let pushed = counted_push (lives_to q) left m in
              let before = counted_forgotten queues (lives_to q) (λ l. refl) links (h own) in
              let none = bit_false (lives_to q m) (unknown q) in
              let was = index.reaches q in
              let same = counts q in
              omega arith

          few_one : (b : Bool) → bit b ≤ 1
          few_one true = omega arith
          few_one false = omega arith

          few_wait : counted waits (forgotten_at queues (h own) links ++ m ∷ []) ≤ w'
          few_wait =
              let pushed = counted_push waits left m in
              let before = counted_forgotten queues waits (λ l. refl) links (h own) in
              let one = few_one (waits m) in
              let was = index.waits in
              omega arith

          few_all : w' ≤ length (forgotten_at queues (h own) links ++ m ∷ [])
          few_all =
              let longer = length_push left m in
              let before = length_forgotten queues links (h own) in
              let was = index.few in
              omega arith

  slice_set_other : (xs : List (LinkOf WireSegments)) (k n : ℕ) (x : LinkOf WireSegments) → (n ≡ k → ⊥) → slice_get (set xs k x) n ≡ slice_get xs n
  slice_set_other [] k n x apart = refl
  slice_set_other (y ∷ xs) zero zero x apart = absurd (apart refl)
  slice_set_other (y ∷ xs) zero (suc n) x apart = refl
  slice_set_other (y ∷ xs) (suc k) zero x apart = refl
  slice_set_other (y ∷ xs) (suc k) (suc n) x apart = slice_set_other xs k n x (λ e. apart (ap suc e))

  still_by : (k n : ℕ) (o : Option (LinkOf WireSegments)) → (n ≡ k → ⊥) → slice_get (forgotten_found queues k o links) n ≡ slice_get links n
  still_by k n None apart = refl
  still_by k n (Some l) apart = slice_set_other links k n (forgotten_link queues l) apart

  module _ (n : ℕ) (l : LinkOf WireSegments) (there : slice_get links n ≡ Some l) (unowned : l.port.own ≡ None) where
    not_holder : (k : ℕ) → h own ≡ Some k → n ≡ k → ⊥
    not_holder k held same =
        let mine : look_at own_of links n ≡ Some own = ap (look_at own_of links) same ∙ index.holds own k held in
        let none : look_at own_of links n ≡ None = ap (look_in own_of) there ∙ unowned in
        let both : None ≡ Some own = sym none ∙ mine in
        absurd (cc)

    still : (o : Option ℕ) → h own ≡ o → slice_get (forgotten_at queues o links) n ≡ Some l
    still None is = there
    still (Some k) is = still_by k n (slice_get links k) (not_holder k is) ∙ there

    pub still_there : slice_get (forgotten_at queues (h own) links) n ≡ Some l
    still_there = still (h own) refl

    pub indexed_answer : (h' c' : ℕ → Option ℕ) (r' : ℕ → ℕ) (w' : ℕ) → ((q : ℕ) → c' q ≡ c q) → ((q : ℕ) → r' q ≡ r q) → w' ≡ w →
        ((q : ℕ) → begun_from m ≡ Some q → begun_from l ≡ Some q) → ((q : ℕ) → lives_to q m ≡ lives_to q l) → is_calling m.port.phase ≡ false →
        ((q : ℕ) → h' q ≡ cond (eqb own q) (Some n) (h q)) → IsIndexed (set (forgotten_at queues (h own) links) n m) h' c' r' w'
    indexed_answer h' c' r' w' callers counts wait begun known calling given =
        record {
          has = gives_has (look_at own_of links) h f' h' own n index.has index.holds fresh here others given;
          holds = gives_holds (look_at own_of links) h f' h' own n index.has index.holds fresh here others given;
          calls = calls;
          reaches = reaches;
          waits = few_wait;
          few = few_all;
        } where
          left : List (LinkOf WireSegments)
          left = forgotten_at queues (h own) links

          f' : ℕ → Option ℕ
          f' k = look_at own_of (set (forgotten_at queues (h own) links) n m) k

          fresh : look_at own_of links n ≡ None
          fresh = ap (look_in own_of) there ∙ unowned

          here : look_at own_of (set (forgotten_at queues (h own) links) n m) n ≡ Some own
          here =
              set_same own_of (forgotten_at queues (h own) links) n m (slice_get_within (forgotten_at queues (h own) links) n l still_there) ∙ owns

          others : (k : ℕ) → (k ≡ n → ⊥) → look_at own_of (set (forgotten_at queues (h own) links) n m) k ≡ lost (h own) k (look_at own_of links k)
          others k apart = set_other own_of (forgotten_at queues (h own) links) n k m apart ∙ own_forgotten queues links (h own) k

          calls : (k q : ℕ) → look_at begun_from (set (forgotten_at queues (h own) links) n m) k ≡ Some q → c' q ≡ Some k
          calls k q e =
              callers q ∙ index.calls k q
              (sym (begun_forgotten queues links (h own) k) ∙ look_less begun_from q left n k l m still_there (begun q) e)

          reaches : (q : ℕ) → r' q ≡ counted (lives_to q) (set (forgotten_at queues (h own) links) n m)
          reaches q =
              let changed = counted_set (lives_to q) left n l m still_there in
              let before = counted_forgotten queues (lives_to q) (λ k. refl) links (h own) in
              let bits = ap bit (known q) in
              let was = index.reaches q in
              let same = counts q in
              omega arith

          few_wait : counted waits (set (forgotten_at queues (h own) links) n m) ≤ w'
          few_wait =
              let changed = counted_set waits left n l m still_there in
              let before = counted_forgotten queues waits (λ k. refl) links (h own) in
              let none = bit_false (waits m) calling in
              let was = index.waits in
              omega arith

          few_all : w' ≤ length (set (forgotten_at queues (h own) links) n m)
          few_all =
              let same = length_set left n m in
              let before = length_forgotten queues links (h own) in
              let was = index.few in
              omega arith

-- ---- the same, by what the calls tell

pub answered_index : (queues : Queues) (phase : Phase) (own n : ℕ) (l m : LinkOf WireSegments) (items ys : List (LinkOf WireSegments))
    (h c h' c' : ℕ → Option ℕ)
    (r r' : ℕ → ℕ) (w w' : ℕ) → IsIndexed items h c r w → slice_get items n ≡ Some l → is_called l.port.phase ≡ true → l.port.own ≡ None →
    m ≡ answered_link queues phase own l → is_live phase ≡ true → is_called phase ≡ false → is_calling phase ≡ false →
    ys ≡ set (forgotten_at queues (h own) items) n m → ((q : ℕ) → c' q ≡ c q) → ((q : ℕ) → r' q ≡ r q) → w' ≡ w →
    ((q : ℕ) → h' q ≡ cond (eqb own q) (Some n) (h q)) → IsIndexed ys h' c' r' w'
answered_index queues phase own n l m items ys h c h' c' r r' w w' index there was unowned is live answers known same callers counts wait given =
    subst (λ (xs : List (LinkOf WireSegments)). IsIndexed xs h' c' r' w') (sym same)
    (indexed_answer queues items h c r w index own m
    (ap (λ (k : LinkOf WireSegments). k.port.own) is) n l there unowned h' c' r' w' callers counts wait begun lives
    (ap (λ (k : LinkOf WireSegments). is_calling k.port.phase) is ∙ known) given) where
      both : is_live phase ≡ is_live l.port.phase
      both = live ∙ sym (called_lives l.port.phase was)

      begun : (q : ℕ) → begun_from m ≡ Some q → begun_from l ≡ Some q
      begun q e =
          begun_less (is_called phase) (is_called l.port.phase) (is_live phase && not l.port.opened) (is_live l.port.phase && not l.port.opened)
          l.port.far l.port.far q (λ _. was) (ap (λ (b : Bool). b && not l.port.opened) both) refl (sym (ap begun_from is) ∙ e)

      lives : (q : ℕ) → lives_to q m ≡ lives_to q l
      lives q = ap (lives_to q) is ∙ ap (λ (b : Bool). b && is_at l.port.far q) both

pub opened_index : (queues : Queues) (own : ℕ) (m : LinkOf WireSegments) (items ys : List (LinkOf WireSegments))
    (h c h' c' : ℕ → Option ℕ) (r r' : ℕ → ℕ) (w w' : ℕ) →
    IsIndexed items h c r w → m ≡ opened wire_segments own → ys ≡ forgotten_at queues (h own) items ++ m ∷ [] → ((q : ℕ) → c' q ≡ c q) →
    ((q : ℕ) → r' q ≡ r q) → w' ≡ suc w → ((q : ℕ) → h' q ≡ cond (eqb own q) (Some (length items)) (h q)) → IsIndexed ys h' c' r' w'
opened_index queues own m items ys h c h' c' r r' w w' index is same callers counts wait given =
    subst (λ (xs : List (LinkOf WireSegments)). IsIndexed xs h' c' r' w') (sym same)
    (indexed_open queues items h c r w index own m (ap (λ (k : LinkOf WireSegments). k.port.own) is) h' c' r' w' callers counts
    (λ q. no_more m q (ap (λ (k : LinkOf WireSegments). is_called k.port.phase) is)
    (ap (λ (k : LinkOf WireSegments). is_live k.port.phase && not k.port.opened) is))
    (λ q. ap (lives_to q) is) wait given)

pub are_same : (links others : List (LinkOf WireSegments)) (index after : Index) → AreIndexed links index → others ≡ links →
    ((q : ℕ) → get nat_cmp after.holders q ≡ get nat_cmp index.holders q) → ((q : ℕ) → get nat_cmp after.callers q ≡ get nat_cmp index.callers q) →
    ((q : ℕ) → times (hashed.get nat_eq after.reached q) ≡ times (hashed.get nat_eq index.reached q)) → after.waiting ≡ index.waiting →
    ((q : ℕ) → times (hashed.get nat_eq after.in_use q) ≡ times (hashed.get nat_eq index.in_use q)) → after.counts ≡ index.counts →
    AreIndexed others after
are_same links others index after are same holders callers counts wait used kind = record {
  found = indexed_same links _ _ _ _ are.found others _ _ _ _ same holders callers counts wait;
  used = used_if after.counts others _ (λ on.
      used_same With links others _ _ (used_with index.counts links _ (sym kind ∙ on) are.used) same used);
}

-- nothing is counted any more
pub counts_none : (links : List (LinkOf WireSegments)) (index after : Index) → AreIndexed links index →
    ((q : ℕ) → get nat_cmp after.holders q ≡ get nat_cmp index.holders q) → ((q : ℕ) → get nat_cmp after.callers q ≡ get nat_cmp index.callers q) →
    ((q : ℕ) → times (hashed.get nat_eq after.reached q) ≡ times (hashed.get nat_eq index.reached q)) → after.waiting ≡ index.waiting →
    after.counts ≡ false → AreIndexed links after
counts_none links index after are holders callers counts wait off = record {
  found = indexed_same links _ _ _ _ are.found links _ _ _ _ refl holders callers counts wait;
  used = used_if after.counts links _ (λ on. let both : true ≡ false = sym on ∙ off in absurd (cc));
}

-- counting begins
pub counts_all : (links : List (LinkOf WireSegments)) (index after : Index) → AreIndexed links index → length links ≡ 0 →
    ((q : ℕ) → get nat_cmp after.holders q ≡ get nat_cmp index.holders q) → ((q : ℕ) → get nat_cmp after.callers q ≡ get nat_cmp index.callers q) →
    ((q : ℕ) → times (hashed.get nat_eq after.reached q) ≡ times (hashed.get nat_eq index.reached q)) → after.waiting ≡ index.waiting →
    ((q : ℕ) → times (hashed.get nat_eq after.in_use q) ≡ 0) → AreIndexed links after
counts_all links index after are none holders callers counts wait nothing = record {
  found = indexed_same links _ _ _ _ are.found links _ _ _ _ refl holders callers counts wait;
  used = used_if after.counts links _ (λ on. used_none links _ none nothing);
}

pub ruleset indexes = (are_same)

-- ---- what the definitions make of it

module _ (queues : Queues) (node peer : ℕ) (items : List (LinkOf WireSegments)) (s : WireLinks)
    (is : record { node = node; peer = peer; links = items } ≡ s) (own : ℕ)
    (h : Option ℕ) (held : position (λ (l : LinkOf WireSegments). is_at l.port.own own) items ≡ h) (ys : List (LinkOf WireSegments)) where
  shown_freed : freed wire_segments queues own s ≡ record { node = node; peer = peer; links = forgotten_at queues h items }
  shown_freed = ap (freed wire_segments queues own) (sym is) ∙ freed_is queues own (record { node = node; peer = peer; links = items }) h held

  pub opened_made : ys ≡ forgotten_at queues h items ++ opened wire_segments own ∷ [] → record { node = node; peer = peer; links = ys } ≡ begun
      (opened wire_segments own) (freed wire_segments queues own s)
  opened_made e =
      ap (λ (xs : List (LinkOf WireSegments)). record { node = node; peer = peer; links = xs }) e
      ∙ ap (begun (opened wire_segments own)) (sym shown_freed)

  pub answered_made : (phase : Phase) (n : ℕ) (link : LinkOf WireSegments) →
      ys ≡ set (forgotten_at queues h items) n (answered_link queues phase own link) →
      record { node = node; peer = peer; links = ys } ≡ changed n (answered_link queues phase own link) (freed wire_segments queues own s)
  answered_made phase n link e =
      ap (λ (xs : List (LinkOf WireSegments)). record { node = node; peer = peer; links = xs }) e
      ∙ ap (changed n (answered_link queues phase own link)) (sym shown_freed)

-- ---- the link that is answered

pub link_at : (xs : List (LinkOf WireSegments)) (n : ℕ) (l : LinkOf WireSegments) → n < length xs → l ≡ get_or xs n l → slice_get xs n ≡ Some l
link_at xs n l within there = slice_get_read xs (length xs) n l refl within there

pub still_here : (queues : Queues) (links : List (LinkOf WireSegments)) (h c : ℕ → Option ℕ) (r : ℕ → ℕ) (w : ℕ) → IsIndexed links h c r w →
    (own n : ℕ) (l : LinkOf WireSegments) → slice_get links n ≡ Some l → l.port.own ≡ None → slice_get (forgotten_at queues (h own) links) n ≡ Some l
still_here queues links h c r w index own n l there unowned = still_there queues links h c r w index own (owned own) refl n l there unowned
  where
    owned : ℕ → LinkOf WireSegments
    owned address = opened wire_segments address

pub one_link : (xs ys : List (LinkOf WireSegments)) (n : ℕ) (k l link : LinkOf WireSegments) →
    xs ≡ ys → k ≡ get_or xs n k → slice_get ys n ≡ Some l → Some l ≡ Some link → k ≡ link
one_link xs ys n k l link same there still one =
    let here : slice_get xs n ≡ Some l = ap (λ (zs : List (LinkOf WireSegments)). slice_get zs n) same ∙ still in
    let mine : slice_get xs n ≡ Some k = link_at xs n k (slice_get_within xs n l here) there in
    let both : Some k ≡ Some link = sym mine ∙ here ∙ one in
    cc

pub same_set : (xs ys : List (LinkOf WireSegments)) (n : ℕ) (m k : LinkOf WireSegments) → xs ≡ ys → m ≡ k → set xs n m ≡ set ys n k
same_set xs ys n m k lists links = ap (λ (zs : List (LinkOf WireSegments)). set zs n m) lists ∙ ap (λ (x : LinkOf WireSegments). set ys n x) links
