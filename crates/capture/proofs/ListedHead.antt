-- The head of a text that lists items: what is read is its one spelling, and its spelling is read.
use Rattle.std.proofs.Common.{◌≡◌, ℕ, ◌+◌, ◌≤◌, List, ◌++◌, length, Option, Some, refl, sym, ap, ◌∙◌, lit<, arith}
use Rattle.std.proofs.Common.{length-append}
use Rattle.std.proofs.lemmas.Option.{same_Some}
use Rattle.capture.specs.declared.limit.TheConstants.{MAX_LINE}
use Rattle.capture.specs.Text.{address_text, spaced}
use Rattle.capture.specs.Range.{IsNode}
use Rattle.capture.specs.Reading.{after, nodes_at}
use Rattle.capture.specs.Listed.{list_head, list_head_at}
use Rattle.capture.proofs.PartLaws.{HasNo, HasNo-append, after_takes, after_again}
use Rattle.capture.proofs.AddressLaws.{and_then, address_lacks}
use Rattle.capture.proofs.HeadLaws.{nodes_take, nodes_again}
use Rattle.capture.proofs.LackLaws.{spaced_lacks, spaced_short, address_short}

-- no LF stands in a head's first words, and with two addresses behind them they are no longer than a line may be
pub record AreFirstWords (first_words : List ℕ) : Type 0 where
  pub lack : HasNo 10 first_words
  pub short : length first_words + 15 ≤ MAX_LINE

module _ (first_words : List ℕ) where
  -- a head that was read
  pub record IsHeadOf (text : List ℕ) (node_a node_b : ℕ) : Type 0 where
    pub spelled : text ≡ list_head first_words node_a node_b
    pub a_fits : IsNode node_a
    pub b_fits : IsNode node_b

  pub head_takes : (text : List ℕ) (node_a node_b : ℕ) → list_head_at first_words text ≡ Some (node_a, node_b) → IsHeadOf text node_a node_b
  unfolding list_head_at
  head_takes text node_a node_b e =
      let rest = and_then (after first_words text) nodes_at (node_a, node_b) e in
      let nodes = nodes_take rest.0 (node_a, node_b) rest.2 in
      record {
        spelled = after_takes first_words text rest.0 rest.1 ∙ ap (λ (t : List ℕ). first_words ++ t) nodes.spelled;
        a_fits = nodes.own_fits;
        b_fits = nodes.peer_fits;
      }

  pub head_again : (node_a node_b : ℕ) → IsNode node_a → IsNode node_b → list_head_at first_words (list_head first_words node_a node_b) ≡
      Some (node_a, node_b)
  unfolding list_head_at
  head_again node_a node_b p q =
      rw (after_again first_words (spaced (address_text node_a) (address_text node_b)), nodes_again node_a node_b p q) refl

  pub same_head : (a b a' b' : ℕ) → IsNode a → IsNode b → IsNode a' → IsNode b' → list_head first_words a b ≡ list_head first_words a' b' →
      (a ≡ a') × (b ≡ b')
  same_head a b a' b' p q p' q' same =
      let both : ◌≡◌ {A = Option (ℕ × ℕ)} (Some (a, b)) (Some (a', b')) =
      sym (head_again a b p q) ∙ ap (list_head_at first_words) same ∙ head_again a' b' p' q' in
      let parts : ◌≡◌ {A = ℕ × ℕ} (a, b) (a', b') = same_Some _ _ both in
      (ap (λ (z : ℕ × ℕ). z.0) parts, ap (λ (z : ℕ × ℕ). z.1) parts)

  pub head_lacks : (node_a node_b : ℕ) → AreFirstWords first_words → IsNode node_a → IsNode node_b → HasNo 10 (list_head first_words node_a node_b)
  head_lacks node_a node_b first p q =
      HasNo-append 10 first_words (spaced (address_text node_a) (address_text node_b)) first.lack
      (spaced_lacks (address_text node_a) (address_text node_b) (address_lacks 10 node_a (lit< tt) p) (address_lacks 10 node_b (lit< tt) q))

  pub head_short : (node_a node_b : ℕ) → AreFirstWords first_words → IsNode node_a → IsNode node_b →
      length (list_head first_words node_a node_b) ≤ MAX_LINE
  head_short node_a node_b first p q =
      let n = spaced_short (address_text node_a) (address_text node_b) 7 7 (address_short node_a p) (address_short node_b q) in
      let short = first.short in
      omega (arith, length-append first_words (spaced (address_text node_a) (address_text node_b)))
