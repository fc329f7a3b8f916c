-- A text that lists items, as far as it was read: how it grows, and what it is of the whole text.
use Rattle.std.proofs.Common.{◌≡◌, ℕ, ◌+◌, ◌<◌, ◌≤◌, List, [], ◌∷◌, ◌++◌, length, Option, Some, None, refl, sym, ap, subst, ◌∙◌, arith}
use Rattle.std.proofs.Common.{length-append, append-nil, append_assoc}
use Rattle.std.specs.List.{flat_map, AllByRecursion}
use Rattle.std.specs.Io.KnownBytes.{Consumes, IsAtEnd}
use Rattle.std.proofs.KnownBytes.{Consumes-trans}
use Rattle.capture.specs.declared.fault.Departure.{Departure}
use Rattle.capture.specs.Text.{ended}
use Rattle.capture.specs.Range.{IsNode}
use Rattle.capture.specs.Listed.{Listed, ListForm, IsBeginningOf, item_line, list_head, list_text, BeginsWithList, IsListSoFar, ItemDeparts}
use Rattle.capture.specs.Listed.{ListHeadDeparts, no_items, with_item}
use Rattle.capture.proofs.SoFarLaws.{All-push, All-behind}
use Rattle.capture.specs.ListLines.{AreLinesOf}
use Rattle.capture.proofs.ListedText.{one_line, one_head, begun_lines, nothing_more, no_departure, no_end_departure, no_head_departure}

abbrev list_of : {Item : Type 0} (node_a node_b : ℕ) (items : List Item) → Listed Item
list_of node_a node_b items = record { node_a = node_a; node_b = node_b; items = items }

same_list : {Item : Type 0} (a a' b b' : ℕ) (p q : List Item) → a ≡ a' → b ≡ b' → p ≡ q → list_of a b p ≡ list_of a' b' q
same_list a a' b b' p q e f g = rw (e, f, g) refl

-- ---- how it grows

module _ {Item : Type 0} (form : ListForm Item) where
  lines-push : (items : List Item) (item : Item) → flat_map (item_line form) (items ++ item ∷ []) ≡ flat_map (item_line form) items ++
      item_line form item
  lines-push [] item = append-nil (item_line form item)
  lines-push (first ∷ items) item =
      ap (λ bytes. item_line form first ++ bytes) (lines-push items item) ∙
      sym (append_assoc (item_line form first) (flat_map (item_line form) items) (item_line form item))

  -- the head was read
  pub opened : (text come : Option (List ℕ)) (node_a node_b : ℕ) → IsNode node_a → IsNode node_b →
      Consumes text come (ended (list_head form.first_words node_a node_b)) → IsListSoFar form text (no_items node_a node_b) come
  opened text come node_a node_b a b head = record {
    fits = record { node_a = a; node_b = b; each = tt; few = omega arith };
    begins = subst (Consumes text come) (sym (append-nil (ended (list_head form.first_words node_a node_b)))) head;
  }

  pub one_more : (text before after : Option (List ℕ)) (list : Listed Item) (item : Item) → IsListSoFar form text list before →
      length list.items < form.most → form.HasLine item → Consumes before after (item_line form item) →
      IsListSoFar form text (with_item list item) after
  one_more text before after list item h few has_line consumes =
      let head = ended (list_head form.first_words list.node_a list.node_b) in
      let lines = flat_map (item_line form) list.items in
      let read : (head ++ lines) ++ item_line form item ≡ head ++ flat_map (item_line form) (list.items ++ item ∷ []) =
      append_assoc head lines (item_line form item) ∙ ap (λ bytes. head ++ bytes) (sym (lines-push list.items item)) in
      record {
        fits = record {
          node_a = h.fits.node_a;
          node_b = h.fits.node_b;
          each = All-push form.HasLine list.items item h.fits.each has_line;
          few = omega (arith, length-append list.items (item ∷ []));
        };
        begins = subst (Consumes text after) read (Consumes-trans text before after _ _ h.begins consumes);
      }

  -- ---- known bytes

  pub begins : (bytes rest : List ℕ) (list : Listed Item) → IsListSoFar form (Some bytes) list (Some rest) → BeginsWithList form bytes list rest
  begins bytes rest list h = record { fits = h.fits; spelled = h.begins }

  pub whole : (bytes : List ℕ) (come : Option (List ℕ)) (list : Listed Item) → IsListSoFar form (Some bytes) list come → IsAtEnd come →
      BeginsWithList form bytes list []
  whole bytes None list h end = absurd h.begins
  whole bytes (Some rest) list h end = record { fits = h.fits; spelled = h.begins ∙ ap (λ (t : List ℕ). list_text form list ++ t) end }

-- ---- of a list's text

-- a list whose text begins so begins so, and the rest of its text is the lines of its further items
record IsSplit {Item : Type 0} (form : ListForm Item) (begun all : Listed Item) (rest : List ℕ) : Type 0 where
  begins : IsBeginningOf begun all
  spelled : rest ≡ flat_map (item_line form) begins.more

module _ {Item : Type 0} (form : ListForm Item) (lines : AreLinesOf form) where
  -- what stands behind the heads of two texts that begin alike
  behind_heads : (bytes rest rest' : List ℕ) (p q : Listed Item) → BeginsWithList form bytes p rest → BeginsWithList form bytes q rest' →
      (p.node_a ≡ q.node_a) × (p.node_b ≡ q.node_b) × (flat_map (item_line form) p.items ++ rest ≡ flat_map (item_line form) q.items ++ rest')
  behind_heads bytes rest rest' p q h k =
      let lines_p = flat_map (item_line form) p.items in
      let lines_q = flat_map (item_line form) q.items in
      one_head form lines p.node_a p.node_b q.node_a q.node_b (lines_p ++ rest) (lines_q ++ rest') h.fits.node_a h.fits.node_b k.fits.node_a
      k.fits.node_b (sym (append_assoc (ended (list_head form.first_words p.node_a p.node_b)) lines_p rest) ∙ sym h.spelled ∙ k.spelled ∙
      append_assoc (ended (list_head form.first_words q.node_a q.node_b)) lines_q rest')

  split : (bytes rest : List ℕ) (begun all : Listed Item) → BeginsWithList form bytes all [] → BeginsWithList form bytes begun rest →
      IsSplit form begun all rest
  split bytes rest begun all is_text h =
      let heads = behind_heads bytes [] rest all begun is_text h in
      let behind = begun_lines form lines begun.items all.items rest h.fits.each is_text.fits.each
      (sym (append-nil (flat_map (item_line form) all.items)) ∙ heads.2) in
      record { begins = record { node_a = heads.0; node_b = heads.1; more = behind.0; items = behind.1 }; spelled = behind.2 }

  pub goes_on : (bytes rest : List ℕ) (begun all : Listed Item) → BeginsWithList form bytes all [] → BeginsWithList form bytes begun rest →
      IsBeginningOf begun all
  goes_on bytes rest begun all is_text h = (split bytes rest begun all is_text h).begins

  -- a text has one list
  pub one_list : (bytes : List ℕ) (p q : Listed Item) → BeginsWithList form bytes p [] → BeginsWithList form bytes q [] → p ≡ q
  one_list bytes p q h k =
      let s = split bytes [] q p h k in
      same_list p.node_a q.node_a p.node_b q.node_b p.items q.items s.begins.node_a s.begins.node_b
      (s.begins.items ∙ ap (λ (t : List Item). q.items ++ t) (nothing_more form lines s.begins.more s.spelled) ∙ append-nil q.items)

  -- the items that may still come
  room : (all begun more : List Item) → length all ≤ form.most → all ≡ begun ++ more → length begun + length more ≤ form.most
  room all begun more few items = omega (arith, length-append begun more, ap length items)

  pub departs_nowhere : (bytes rest : List ℕ) (begun all : Listed Item) (kind : Departure) → BeginsWithList form bytes all [] →
      BeginsWithList form bytes begun rest → ItemDeparts form (length begun.items) kind rest → ⊥
  departs_nowhere bytes rest begun all kind is_text h departs =
      let s = split bytes rest begun all is_text h in
      by_more s.begins.more s.begins.items (subst (ItemDeparts form (length begun.items) kind) s.spelled departs)
    where
      by_more : (more : List Item) → all.items ≡ begun.items ++ more →
          ItemDeparts form (length begun.items) kind (flat_map (item_line form) more) → ⊥
      by_more [] items d = no_end_departure form lines (length begun.items) kind d
      by_more (item ∷ more) items d =
          let each = All-behind form.HasLine begun.items (item ∷ more) (subst (AllByRecursion form.HasLine) items is_text.fits.each) in
          let few = room all.items begun.items (item ∷ more) is_text.fits.few items in
          no_departure form lines kind item (flat_map (item_line form) more) (length begun.items) each.0 (omega arith) d

  pub head_stands : (bytes rest : List ℕ) (begun : Listed Item) (kind : Departure) → BeginsWithList form bytes begun rest →
      ListHeadDeparts form.first_words kind bytes → ⊥
  head_stands bytes rest begun kind h departs =
      let head = ended (list_head form.first_words begun.node_a begun.node_b) in
      let later = flat_map (item_line form) begun.items in
      no_head_departure form lines kind begun.node_a begun.node_b (later ++ rest) h.fits.node_a h.fits.node_b
      (subst (ListHeadDeparts form.first_words kind) (h.spelled ∙ append_assoc head later rest) departs)

  -- ---- behind what a text departs

  -- items that a text begins with come before those that it departs behind
  comes_before : (items : ℕ) (ps qs : List Item) (rest rest' : List ℕ) (kind : Departure) → AllByRecursion form.HasLine ps →
      AllByRecursion form.HasLine qs → items + length qs ≤ form.most
      → flat_map (item_line form) ps ++ rest ≡ flat_map (item_line form) qs ++ rest' → ItemDeparts form (items + length ps) kind rest →
      (more : List Item) × (ps ≡ qs ++ more)
  comes_before items ps [] rest rest' kind all all' few e departs = (ps, refl)
  comes_before items [] (q ∷ qs) rest rest' kind all all' few e departs =
      let later = flat_map (item_line form) qs ++ rest' in
      let next : rest ≡ item_line form q ++ later = e ∙ append_assoc (item_line form q) (flat_map (item_line form) qs) rest' in
      let none : items + 0 ≡ items = omega arith in
      absurd (no_departure form lines kind q later items all'.0 (omega arith)
      (subst (λ (n : ℕ). ItemDeparts form n kind (item_line form q ++ later)) none (subst (ItemDeparts form (items + 0) kind) next departs)))
  comes_before items (p ∷ ps) (q ∷ qs) rest rest' kind all all' few e departs =
      let lines_p = flat_map (item_line form) ps in
      let lines_q = flat_map (item_line form) qs in
      let same : item_line form p ++ (lines_p ++ rest) ≡ item_line form q ++ (lines_q ++ rest') =
      sym (append_assoc (item_line form p) lines_p rest) ∙ e ∙ append_assoc (item_line form q) lines_q rest' in
      let one = one_line form lines p q (lines_p ++ rest) (lines_q ++ rest') all.0 all'.0 same in
      let count : items + length (p ∷ ps) ≡ (items + 1) + length ps = omega arith in
      let ih = comes_before (items + 1) ps qs rest rest' kind all.1 all'.1 (omega arith) one.1
      (subst (λ (n : ℕ). ItemDeparts form n kind rest) count departs) in
      let head : p ≡ q = one.0 in
      let tail : ps ≡ qs ++ ih.0 = ih.1 in
      (ih.0, cc)

  pub departs_first : (bytes rest rest' : List ℕ) (list begun : Listed Item) (kind : Departure) → BeginsWithList form bytes list rest →
      ItemDeparts form (length list.items) kind rest → BeginsWithList form bytes begun rest' → IsBeginningOf begun list
  departs_first bytes rest rest' list begun kind h departs k =
      let heads = behind_heads bytes rest rest' list begun h k in
      let few = k.fits.few in
      let none : length list.items ≡ 0 + length list.items = omega arith in
      let more = comes_before 0 list.items begun.items rest rest' kind h.fits.each k.fits.each (omega arith) heads.2
      (subst (λ (n : ℕ). ItemDeparts form n kind rest) none departs) in
      record { node_a = heads.0; node_b = heads.1; more = more.0; items = more.1 }
