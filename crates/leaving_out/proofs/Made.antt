-- The text that is made, with one record more.
use Rattle.std.proofs.Common.{◌≡◌, ℕ, Bool, Option, Some, None, List, [], ◌∷◌, ◌++◌, append-nil, append_assoc, subst, refl, sym, ap, ◌∙◌}
use Rattle.wire_base.specs.declared.side.Side.{Side}
use Rattle.capture.specs.declared.format.Format.TheVariants.{Three}
use Rattle.capture.specs.declared.hint.HintForm.{HintForm}
use Rattle.capture.specs.declared.hint.HintForm.TheVariants.{Wide}
use Rattle.capture_record.specs.declared.record.Record.{Record}
use Rattle.capture.specs.Text.{capture_text, form_behind, record_line}
use Rattle.capture.proofs.SoFarLaws.{text-push}
use Rattle.link_groups.specs.Groups.{AreGroupsOf, Binding}
use Rattle.leaving_out.specs.declared.leaving.Leaving.{Leaving}
use Rattle.leaving_out.specs.About.{binding_of, bindings_of, if_bound}
use Rattle.leaving_out.specs.Records.{record_left, records_left}

pub wide : (rs : List Record) → form_behind Wide rs ≡ Wide
wide [] = refl
wide (r ∷ rs) = wide rs

module _ (leaving : Leaving) (side : Side) where
  records_more : (rs : List Record) (r : Record) →
      records_left leaving side (rs ++ r ∷ []) ≡ records_left leaving side rs ++ record_left leaving side r ∷ []
  records_more [] r = refl
  records_more (s ∷ rs) r = ap (λ (x : List Record). record_left leaving side s ∷ x) (records_more rs r)

  pub text_more : (own peer : ℕ) (rs : List Record) (r : Record) → capture_text Three own peer (records_left leaving side (rs ++ r ∷ []))
      ≡ capture_text Three own peer (records_left leaving side rs) ++ record_line Wide (record_left leaving side r)
  text_more own peer rs r =
      ap (capture_text Three own peer) (records_more rs r) ∙ text-push Three own peer (records_left leaving side rs) (record_left leaving side r)
      ∙ ap (λ (f : HintForm). capture_text Three own peer (records_left leaving side rs) ++ record_line f (record_left leaving side r))
      (wide (records_left leaving side rs))

module _ (side : Side) (alone : Bool) where
  if_bound-append : (o : Option Binding) (xs ys : List Binding) → if_bound o (xs ++ ys) ≡ if_bound o xs ++ ys
  if_bound-append (Some b) xs ys = refl
  if_bound-append None xs ys = refl

  bindings_more : (rs : List Record) (r : Record) →
      bindings_of side alone (rs ++ r ∷ []) ≡ bindings_of side alone rs ++ if_bound (binding_of side alone r) []
  bindings_more [] r = refl
  bindings_more (s ∷ rs) r =
      ap (if_bound (binding_of side alone s)) (bindings_more rs r)
      ∙ if_bound-append (binding_of side alone s) (bindings_of side alone rs) (if_bound (binding_of side alone r) [])

  pub one_bound : (before : List Binding) (groups new : List ℕ) (rs : List Record) (r : Record) (b : Binding) →
      AreGroupsOf (before ++ bindings_of side alone rs) groups
      → (AreGroupsOf (before ++ bindings_of side alone rs) groups → AreGroupsOf ((before ++ bindings_of side alone rs) ++ b ∷ []) new)
      → Some b ≡ binding_of side alone r → AreGroupsOf (before ++ bindings_of side alone (rs ++ r ∷ [])) new
  one_bound before groups new rs r b are binds one =
      let same : bindings_of side alone (rs ++ r ∷ []) ≡ bindings_of side alone rs ++ b ∷ [] =
      bindings_more rs r ∙ ap (λ (o : Option Binding). bindings_of side alone rs ++ if_bound o []) (sym one) in
      subst (λ (x : List Binding). AreGroupsOf x new)
      (append_assoc before (bindings_of side alone rs) (b ∷ []) ∙ ap (λ (x : List Binding). before ++ x) (sym same)) (binds are)

  pub none_bound : (before : List Binding) (groups : List ℕ) (rs : List Record) (r : Record) →
      AreGroupsOf (before ++ bindings_of side alone rs) groups → None ≡ binding_of side alone r →
      AreGroupsOf (before ++ bindings_of side alone (rs ++ r ∷ [])) groups
  none_bound before groups rs r are none =
      let same : bindings_of side alone (rs ++ r ∷ []) ≡ bindings_of side alone rs =
      bindings_more rs r ∙ ap (λ (o : Option Binding). bindings_of side alone rs ++ if_bound o []) (sym none) ∙ append-nil (bindings_of side alone rs)
      in
      subst (λ (x : List Binding). AreGroupsOf (before ++ x) groups) (sym same) are
