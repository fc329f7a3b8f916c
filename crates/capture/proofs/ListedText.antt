-- A text that lists items is read in one way alone, where its lines are.
use Rattle.std.proofs.Common.{◌≡◌, ℕ, ◌<◌, true, List, [], ◌∷◌, ◌++◌, length, refl, sym, ap, subst, ◌∙◌, inl, inr, arith}
use Rattle.std.specs.List.{flat_map, AllByRecursion}
use Rattle.std.proofs.lemmas.List.{append_assoc}
use Rattle.capture.specs.declared.fault.Departure.{Departure}
use Rattle.capture.specs.declared.fault.Departure.TheVariants.{Syntax, TooLong, TooMany, Part}
use Rattle.capture.specs.Text.{ended}
use Rattle.capture.specs.Range.{IsNode}
use Rattle.capture.specs.Departing.{first_line, has_lf, LineDeparts}
use Rattle.capture.specs.Listed.{ListForm, item_line, list_head, ItemDeparts, IsNoHead, ListHeadDeparts}
use Rattle.capture.specs.ListLines.{AreLinesOf}
use Rattle.capture.proofs.ListedHead.{head_lacks, head_short, same_head}
use Rattle.capture.proofs.ListedLines.{first_words, item_lacks}
use Rattle.capture.proofs.TextLaws.{ended_first, same_ended, line_some, line_once, whole_or_not}

module _ {Item : Type 0} (form : ListForm Item) (lines : AreLinesOf form) where
  -- ---- lines

  pub one_line : (p q : Item) (x y : List ℕ) → form.HasLine p → form.HasLine q → item_line form p ++ x ≡ item_line form q ++ y → (p ≡ q) × (x ≡ y)
  one_line p q x y h k e =
      let same = same_ended (form.line p) (form.line q) x y (item_lacks form lines p h) (item_lacks form lines q k) e in
      (lines.same p q h k same.0, same.1)

  -- both heads name the same nodes, and what follows is the same
  pub one_head : (a b a' b' : ℕ) (x y : List ℕ) → IsNode a → IsNode b → IsNode a' → IsNode b' →
      ended (list_head form.first_words a b) ++ x ≡ ended (list_head form.first_words a' b') ++ y → (a ≡ a') × (b ≡ b') × (x ≡ y)
  one_head a b a' b' x y p q p' q' e =
      let head = list_head form.first_words in
      let none = head_lacks form.first_words a b (first_words form lines) p q in
      let same = same_ended (head a b) (head a' b') x y none (head_lacks form.first_words a' b' (first_words form lines) p' q') e in
      let nodes = same_head form.first_words a b a' b' p q p' q' same.0 in
      (nodes.0, nodes.1, same.1)

  -- ---- lists of items

  -- a list of items whose lines begin with these begins with these
  pub begun_lines : (ps rs : List Item) (rest : List ℕ) → AllByRecursion form.HasLine ps → AllByRecursion form.HasLine rs →
      flat_map (item_line form) rs ≡ flat_map (item_line form) ps ++ rest
      → (more : List Item) × (rs ≡ ps ++ more) × (rest ≡ flat_map (item_line form) more)
  begun_lines [] rs rest p q e = (rs, refl, sym e)
  begun_lines (r ∷ ps) [] rest p q e =
      absurd (line_some (form.line r) (flat_map (item_line form) ps ++ rest)
      (sym (e ∙ append_assoc (item_line form r) (flat_map (item_line form) ps) rest)))
  begun_lines (r ∷ ps) (s ∷ rs) rest p q e =
      let one = one_line s r (flat_map (item_line form) rs) (flat_map (item_line form) ps ++ rest) q.0 p.0
      (e ∙ append_assoc (item_line form r) (flat_map (item_line form) ps) rest) in
      let head : s ≡ r = one.0 in
      let ih = begun_lines ps rs rest p.1 q.1 one.1 in
      let tail : rs ≡ ps ++ ih.0 = ih.1 in
      (ih.0, cc, ih.2)

  pub nothing_more : (items : List Item) → [] ≡ flat_map (item_line form) items → items ≡ []
  nothing_more [] e = refl
  nothing_more (item ∷ items) e = absurd (line_some (form.line item) (flat_map (item_line form) items) (sym e))

  -- ---- where an item's line comes first, and may come, nothing departs

  pub no_departure : (kind : Departure) (item : Item) (rest : List ℕ) (items : ℕ) → form.HasLine item → items < form.most →
      ItemDeparts form items kind (item_line form item ++ rest) → ⊥
  no_departure kind item rest items h few (inl d) = by_kind kind d
    where
      first : (first_line (item_line form item ++ rest) ≡ form.line item) × (has_lf (item_line form item ++ rest) ≡ true)
      first = ended_first (form.line item) rest (item_lacks form lines item h)

      by_kind : (k : Departure) → LineDeparts form.most items k (item_line form item ++ rest) → ⊥
      by_kind TooMany d = let le = d.0 in omega arith
      by_kind TooLong d = let long = d.1 in let short = lines.short item h in omega (arith, ap length first.0)
      by_kind Syntax d = let open_line = d.3 in let ended_line = first.1 in cc
      by_kind Part d = d
  no_departure kind item rest items h few (inr d) =
      let first = ended_first (form.line item) rest (item_lacks form lines item h) in
      lines.fit kind item h (subst (form.WordsDepart kind) first.0 d.2)

  pub no_end_departure : (items : ℕ) (kind : Departure) → ItemDeparts form items kind [] → ⊥
  no_end_departure items Syntax (inl d) = d.1 refl
  no_end_departure items TooLong (inl d) = let long = d.1 in omega arith
  no_end_departure items TooMany (inl d) = d.1 refl
  no_end_departure items Part (inl d) = d
  no_end_departure items kind (inr d) = let ended_line = d.1.ended in cc

  -- where a head's line comes first, nothing departs
  head_first : (node_a node_b : ℕ) (rest : List ℕ) → IsNode node_a → IsNode node_b →
      (first_line (ended (list_head form.first_words node_a node_b) ++ rest) ≡ list_head form.first_words node_a node_b)
      × (has_lf (ended (list_head form.first_words node_a node_b) ++ rest) ≡ true)
  head_first node_a node_b rest p q =
      ended_first (list_head form.first_words node_a node_b) rest (head_lacks form.first_words node_a node_b (first_words form lines) p q)

  pub no_head_departure : (kind : Departure) (node_a node_b : ℕ) (rest : List ℕ) → IsNode node_a → IsNode node_b →
      ListHeadDeparts form.first_words kind (ended (list_head form.first_words node_a node_b) ++ rest) → ⊥
  no_head_departure TooMany node_a node_b rest p q d = d
  no_head_departure Part node_a node_b rest p q d = d
  no_head_departure TooLong node_a node_b rest p q d =
      let first = head_first node_a node_b rest p q in
      let short = head_short form.first_words node_a node_b (first_words form lines) p q in
      omega (arith, ap length first.0)
  no_head_departure Syntax node_a node_b rest p q (inl d) =
      let first = head_first node_a node_b rest p q in
      let open_line = d.1 in
      let ended_line = first.1 in
      cc
  no_head_departure Syntax node_a node_b rest p q (inr d) =
      let first = head_first node_a node_b rest p q in
      let none : IsNoHead form.first_words (list_head form.first_words node_a node_b) = subst (IsNoHead form.first_words) first.0 d.1 in
      none node_a node_b p q refl

  -- ---- one departure

  pub departs_once : (items : ℕ) (bytes : List ℕ) (a b : Departure) → ItemDeparts form items a bytes → ItemDeparts form items b bytes → a ≡ b
  departs_once items bytes a b (inl p) (inl q) = line_once form.most items bytes a b p q
  departs_once items bytes a b (inr p) (inr q) = lines.once (first_line bytes) a b p.2 q.2
  departs_once items bytes a b (inl p) (inr q) = absurd (whole_or_not form.most items bytes a p q.0 q.1)
  departs_once items bytes a b (inr p) (inl q) = absurd (whole_or_not form.most items bytes b q p.0 p.1)

  pub head_departs_once : (bytes : List ℕ) (a b : Departure) → ListHeadDeparts form.first_words a bytes →
      ListHeadDeparts form.first_words b bytes → a ≡ b
  head_departs_once bytes Syntax Syntax p q = refl
  head_departs_once bytes TooLong TooLong p q = refl
  head_departs_once bytes TooMany b p q = absurd p
  head_departs_once bytes a TooMany p q = absurd q
  head_departs_once bytes Part b p q = absurd p
  head_departs_once bytes a Part p q = absurd q
  head_departs_once bytes Syntax TooLong (inl p) q = let short = p.0 in absurd (omega arith)
  head_departs_once bytes Syntax TooLong (inr p) q = let short = p.0.short in absurd (omega arith)
  head_departs_once bytes TooLong Syntax p (inl q) = let short = q.0 in absurd (omega arith)
  head_departs_once bytes TooLong Syntax p (inr q) = let short = q.0.short in absurd (omega arith)
