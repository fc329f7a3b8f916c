-- How the verdict on two captures is computed from the definitions: both go as far as they can, and the record that is then refused is named.
use Rattle.dna_rows.proofs.Prelude.{◌≡◌, Option, Some, None, List, [], ◌∷◌, ◌++◌, length, refl, sym, subst, ◌∙◌, same_Some, append-nil, Made, Waits}
use Rattle.dna_rows.proofs.Prelude.{Refused, exchanged_world, exchange, exchange_run, no_run_of_refused, next_offends, A, B, Record, Head, Step}
use Rattle.dna_rows.proofs.Prelude.{Finding, new_layers_node, layers_pair, layers_start, layers_tell, both_layers, IsVerdict}
use Rattle.dna_node.specs.declared.finding.Finding.TheVariants as finding
use Rattle.dna_rows.proofs.Courses.{head_1, head_2, course, at_a, at_b}
use Rattle.dna_rows.proofs.Courses as any

-- What the definitions say of two captures with these heads and records
pub record VerdictOf (head_a head_b : Head) (of_a of_b : List Record) (answer : Finding) : Type 0 where
  pub is_verdict : IsVerdict both_layers head_a head_b of_a of_b answer

abbrev pub Verdict : (of_a of_b : List Record) → Finding → Type 0
Verdict of_a of_b answer = VerdictOf head_1 head_2 of_a of_b answer

module _ {head_a head_b : Head} {of_a of_b : List Record} (c : any.Course layers_pair (layers_start head_a head_b) of_a of_b) where
  abbrev Becomes : Type 0
  Becomes = any.Becomes layers_pair (layers_start head_a head_b)

  abbrev becomes_of_a : Record → Becomes
  becomes_of_a x = at_a layers_pair (layers_start head_a head_b) c.world x

  abbrev becomes_of_b : Record → Becomes
  becomes_of_b y = at_b layers_pair (layers_start head_a head_b) c.world y

  -- ---- what is said of the records that are left

  abbrev of_next_b : Becomes → Option Finding
  of_next_b (Refused reason) = Some (finding.Refused B (length c.made_b) (Step reason))
  of_next_b Waits = None
  of_next_b (Made h) = None

  abbrev of_left_b : List Record → Option Finding
  of_left_b [] = None
  of_left_b (y ∷ ys) = of_next_b (becomes_of_b y)

  abbrev of_next_a : (left_b : List Record) → Becomes → Option Finding
  of_next_a left_b (Refused reason) = Some (finding.Refused A (length c.made_a) (Step reason))
  of_next_a left_b Waits = of_left_b left_b
  of_next_a left_b (Made h) = None

  abbrev of_left : (left_a left_b : List Record) → Option Finding
  of_left [] [] = Some finding.Accepted
  of_left [] (y ∷ ys) = of_left_b (y ∷ ys)
  of_left (x ∷ xs) left_b = of_next_a left_b (becomes_of_a x)

  -- ---- which is the verdict

  module _ (answer : Finding) where
    abbrev IsIt : Type 0
    IsIt = IsVerdict both_layers head_a head_b of_a of_b answer

    same : {xs ys : List Record} {other : Finding} → xs ≡ of_a → ys ≡ of_b → Some other ≡ Some answer →
        IsVerdict both_layers head_a head_b xs ys other → IsIt
    same {xs} {ys} {other} all_a all_b e is =
        subst (λ (f : Finding). IsVerdict both_layers head_a head_b of_a of_b f) (same_Some other answer e)
        (subst (λ (bs : List Record). IsVerdict both_layers head_a head_b of_a bs other) all_b
        (subst (λ (as' : List Record). IsVerdict both_layers head_a head_b as' ys other) all_a is))

    right_of_b : (left_a : List Record) (y : Record) (ys : List Record) → c.made_a ++ left_a ≡ of_a → c.made_b ++ y ∷ ys ≡ of_b →
        (o : Becomes) → becomes_of_b y ≡ o → of_next_b o ≡ Some answer → IsIt
    right_of_b left_a y ys all_a all_b (Refused reason) is e =
        let start = layers_start head_a head_b in
        same all_a all_b e (
          λ whole. no_run_of_refused layers_pair (exchanged_world start) (exchanged_world c.world) c.made_b c.made_a ys left_a y reason
              (exchange layers_pair c.run) is (exchange_run layers_pair start (c.made_a ++ left_a) (c.made_b ++ y ∷ ys) whole),
          next_offends layers_pair layers_tell (new_layers_node head_b) (new_layers_node head_a) (exchanged_world c.world) c.made_b c.made_a ys left_a
              y reason (exchange layers_pair c.run) is,
        )
    right_of_b left_a y ys all_a all_b Waits is e = absurd cc
    right_of_b left_a y ys all_a all_b (Made h) is e = absurd cc

    right_of_left_b : (left_a left_b : List Record) → c.made_a ++ left_a ≡ of_a → c.made_b ++ left_b ≡ of_b → of_left_b left_b ≡ Some answer → IsIt
    right_of_left_b left_a [] all_a all_b e = absurd cc
    right_of_left_b left_a (y ∷ ys) all_a all_b e = right_of_b left_a y ys all_a all_b _ refl e

    right_of_a : (x : Record) (xs left_b : List Record) → c.made_a ++ x ∷ xs ≡ of_a → c.made_b ++ left_b ≡ of_b →
        (o : Becomes) → becomes_of_a x ≡ o → of_next_a left_b o ≡ Some answer → IsIt
    right_of_a x xs left_b all_a all_b (Refused reason) is e =
        let start = layers_start head_a head_b in
        same all_a all_b e (
          λ whole. no_run_of_refused layers_pair start c.world c.made_a c.made_b xs left_b x reason c.run is whole,
          next_offends layers_pair layers_tell (new_layers_node head_a) (new_layers_node head_b) c.world c.made_a c.made_b xs left_b x reason
              c.run is,
        )
    right_of_a x xs left_b all_a all_b Waits is e = right_of_left_b (x ∷ xs) left_b all_a all_b e
    right_of_a x xs left_b all_a all_b (Made h) is e = absurd cc

    right_of : (left_a left_b : List Record) → c.made_a ++ left_a ≡ of_a → c.made_b ++ left_b ≡ of_b → of_left left_a left_b ≡ Some answer → IsIt
    right_of [] [] all_a all_b e = same (sym (append-nil c.made_a) ∙ all_a) (sym (append-nil c.made_b) ∙ all_b) e (c.world, c.run)
    right_of [] (y ∷ ys) all_a all_b e = right_of_left_b [] (y ∷ ys) all_a all_b e
    right_of (x ∷ xs) left_b all_a all_b e = right_of_a x xs left_b all_a all_b _ refl e

  abbrev found : Option Finding
  found = of_left c.left_a c.left_b

  is_found : (answer : Finding) → found ≡ Some answer → VerdictOf head_a head_b of_a of_b answer
  is_found answer e = record { is_verdict = right_of answer c.left_a c.left_b c.all_a c.all_b e }

pub verdict : {head_a head_b : Head} {of_a of_b : List Record} {answer : Finding} →
    found (course layers_pair (layers_start head_a head_b) of_a of_b) ≡ Some answer → VerdictOf head_a head_b of_a of_b answer
verdict {head_a} {head_b} {of_a} {of_b} {answer} e = is_found (course layers_pair (layers_start head_a head_b) of_a of_b) answer e
