-- The records of a side, where one more is made, and the order in which all are.
use Rattle.std.proofs.Common.{◌≡◌, ℕ, Bool, true, false, cond, ◌⊎◌, inl, inr, Option, List, [], ◌∷◌, ◌++◌, refl, sym, ap, ap₂, subst, ◌∙◌, append-nil}
use Rattle.wire_base.specs.declared.side.Side.{Side}
use Rattle.wire_base.specs.declared.side.Side.TheVariants.{A, B}
use Rattle.two_nodes.specs.Nodes.{Done, IsRun, Nodes, World}
use Rattle.capture_record.specs.declared.record.Record.{Record}
use Rattle.pair_judge.specs.Faulty.{is_side}
use Rattle.dna_node.specs.Kind.{NodeKind}
use Rattle.pair_judge.specs.Ends.{ShownEnds}
use Rattle.pair_judge.specs.Order.{MadeRecord, IsRunInOrder, records_of}
use Rattle.pair_judge.specs.Watched.{WasTold}

behind_by : (b : Bool) (r : Record) (l k t : List Record) → l ≡ k ++ t → cond b (r ∷ l) l ≡ cond b (r ∷ k) k ++ t
behind_by true r l k t is = ap (λ (rs : List Record). r ∷ rs) is
behind_by false r l k t is = is

pub one_more : (side : Side) (order : List MadeRecord) (made : MadeRecord) →
    records_of side (order ++ made ∷ []) ≡ records_of side order ++ records_of side (made ∷ [])
one_more side [] made = refl
one_more side (first ∷ order) made =
    behind_by (is_side side first.side) first.what _ _ (records_of side (made ∷ [])) (one_more side order made)

-- of the other side
pub same_other : (side : Side) (order : List MadeRecord) (made : MadeRecord) → records_of side (made ∷ []) ≡ [] →
    records_of side (order ++ made ∷ []) ≡ records_of side order
same_other side order made none =
    one_more side order made ∙ ap (λ (rs : List Record). records_of side order ++ rs) none ∙ append-nil (records_of side order)

-- ---- where one stops

none_before : (done rest : List MadeRecord) → [] ≡ done ++ rest → done ≡ []
none_before [] rest is = refl
none_before (first ∷ done) rest is = absurd (cc)

abbrev Stops : (order : List MadeRecord) (made : MadeRecord) (done : List MadeRecord) → Type 0
Stops order made done = (done ≡ order ++ made ∷ []) ⊎ ((rest : List MadeRecord) × (order ≡ done ++ rest))

-- behind the one that is more, or before it
stops : (order : List MadeRecord) (made : MadeRecord) (done rest : List MadeRecord) → order ++ made ∷ [] ≡ done ++ rest → Stops order made done
stops order made [] rest is = inr (order, refl)
stops [] made (first ∷ done) rest is =
    let none = none_before done rest (cc) in
    let same : first ≡ made = cc in
    inl (ap₂ (λ (m : MadeRecord) (ms : List MadeRecord). m ∷ ms) same none)
stops (other ∷ order) made (first ∷ done) rest is =
    let same : first ≡ other = cc in
    later first same (stops order made done rest (cc))
  where
    later : (first : MadeRecord) → first ≡ other → Stops order made done → Stops (other ∷ order) made (first ∷ done)
    later first same (inl is) = inl (ap₂ (λ (m : MadeRecord) (ms : List MadeRecord). m ∷ ms) same is)
    later first same (inr left) = inr (left.0, ap₂ (λ (m : MadeRecord) (ms : List MadeRecord). m ∷ ms) (sym same) left.1)

module _ {S U Z : Type 0} (nodes : Nodes S Record U Z) (start : World S U) where
  abbrev ran : List MadeRecord → Type 0
  ran order = IsRun nodes start (records_of A order) (records_of B order)

  pub nothing_made : IsRunInOrder nodes start []
  nothing_made done rest is = subst ran (sym (none_before done rest is)) (start, Done)

  pub goes_on_in_order : (order : List MadeRecord) (made : MadeRecord) → IsRunInOrder nodes start order → ran (order ++ made ∷ []) →
      IsRunInOrder nodes start (order ++ made ∷ [])
  goes_on_in_order order made before now done rest is = by_place (stops order made done rest is)
    where
      by_place : Stops order made done → ran done
      by_place (inl whole) = subst ran (sym whole) now
      by_place (inr left) = before done left.0 left.1

-- in the order in which an observer was told one thing it was told another too
pub told_so : (nodes : NodeKind) (text_a text_b : Option (List ℕ)) (ends : ShownEnds) (one other : List MadeRecord → Type 0) →
    (told : WasTold nodes text_a text_b ends one) → other told.order → WasTold nodes text_a text_b ends other
told_so nodes text_a text_b ends one other told is_told = record {
  order = told.order;
  is_told = is_told;
  read_a = told.read_a;
  read_b = told.read_b;
  from_a = told.from_a;
  from_b = told.from_b;
  all_a = told.all_a;
  all_b = told.all_b;
  records_a = told.records_a;
  records_b = told.records_b;
  is_run = told.is_run;
}
