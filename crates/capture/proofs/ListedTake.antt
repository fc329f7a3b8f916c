-- One item's turn in a text that lists items, and the head's.
use Rattle.std.proofs.Common.{◌≡◌, ℕ, ◌+◌, ◌-◌, ◌<◌, ◌≤◌, List, length, take, Option, Some, None, sym, ap, subst, ◌∙◌, inr, arith}
use Rattle.std.specs.Prelude.{IfSome}
use Rattle.std.specs.Io.KnownBytes.{prepend_known, Keeps}
use Rattle.capture.specs.declared.fault.Departure.{Departure}
use Rattle.capture.specs.declared.fault.Departure.TheVariants.{Syntax}
use Rattle.capture.specs.Departing.{first_line, IsWhole}
use Rattle.capture.specs.Listed.{ListForm, list_head_at, IsNoHead, ListHeadDeparts, ItemDeparts}
use Rattle.capture.proofs.LineLaws.{if_known}
use Rattle.capture.proofs.TakeLaws.{line_is, whole-append}
use Rattle.capture.proofs.ListedHead.{head_again}

module _ {Item : Type 0} (form : ListForm Item) where
  -- the words of the line that was found depart
  pub item_departs : (kind : Departure) (unread : List ℕ) (len taken : ℕ) (before after : Option (List ℕ)) → taken < form.most + 1 → 1 ≤ taken →
      IsWhole unread → len ≡ length (first_line unread) → Keeps before (prepend_known unread after)
      → form.WordsDepart kind (take len unread) → IfSome before (ItemDeparts form (taken - 1) kind)
  item_departs kind unread len taken before after lt some whole e kept departs =
      if_known before after unread (ItemDeparts form (taken - 1) kind) kept (λ rest.
      let same = whole-append unread rest whole in
      inr (omega arith, same.0, subst (form.WordsDepart kind) (line_is unread len whole e ∙ sym same.1) departs))

-- the line that was found is no head
pub no_head : (first_words unread : List ℕ) (len : ℕ) (before after : Option (List ℕ)) → IsWhole unread → len ≡ length (first_line unread) →
    Keeps before (prepend_known unread after)
    → list_head_at first_words (take len unread) ≡ None → IfSome before (ListHeadDeparts first_words Syntax)
no_head first_words unread len before after whole e kept read =
    let none : list_head_at first_words (first_line unread) ≡ None =
    ap (list_head_at first_words) (sym (line_is unread len whole e)) ∙ read in
    let departs : IsNoHead first_words (first_line unread) =
    λ node_a node_b p q spelled. absurd
    (let some : None ≡ Some (node_a, node_b) = sym none ∙ ap (list_head_at first_words) spelled ∙ head_again first_words node_a node_b p q in cc) in
    if_known before after unread (ListHeadDeparts first_words Syntax) kept (λ rest.
    let same = whole-append unread rest whole in
    inr (same.0, subst (IsNoHead first_words) (sym same.1) departs))
