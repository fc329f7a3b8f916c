-- Acknowledgement words that come, one after the other.
use Rattle.std.proofs.Common.{◌≡◌, ℕ, ◌+◌, ◌<◌, Bool, true, false, Option, Some, None, List, ◌∷◌, length, drop, get_or, cond, ap, ◌∙◌}
use Rattle.std.proofs.lemmas.List.{drop_more}
use Rattle.dna_packet.specs.declared.ack_word.AckWord.{AckWord}
use Rattle.dna_links.specs.SegmentBook.{is_of_data}
use Rattle.nsp_link.specs.declared.given.Given.{Given}
use Rattle.nsp_link.specs.Given.{all_may_come, behind, if_behind}
use Rattle.link_segments.proofs.AckWords.{first_in_range, later_in_range}

module _ (words : List AckWord) (i : ℕ) (d : AckWord) (g : Given) (h : i < length words) where
  opened : all_may_come (drop i words) g ≡ all_may_come (get_or words i d ∷ drop (i + 1) words) g
  opened = ap (λ (ws : List AckWord). all_may_come ws g) (drop_more words i d h)

  -- a word of the other subchannel is not judged
  pub may_skip : is_of_data (get_or words i d).qualifier ≡ false → all_may_come (drop i words) g ≡ all_may_come (drop (i + 1) words) g
  may_skip e = opened ∙
      ap (λ (b : Bool). cond b (if_behind (behind g (get_or words i d).number) (λ next. all_may_come (drop (i + 1) words) next))
      (all_may_come (drop (i + 1) words) g)) e

  may_first : (r : Option Given) → is_of_data (get_or words i d).qualifier ≡ true → behind g (get_or words i d).number ≡ r →
      all_may_come (drop i words) g ≡ if_behind r (λ next. all_may_come (drop (i + 1) words) next)
  may_first r e named =
      opened
      ∙ ap (λ (b : Bool). cond b (if_behind (behind g (get_or words i d).number) (λ next. all_may_come (drop (i + 1) words) next))
      (all_may_come (drop (i + 1) words) g)) e
      ∙ ap (λ (o : Option Given). if_behind o (λ next. all_may_come (drop (i + 1) words) next)) named

  pub may_next : (next : Given) → is_of_data (get_or words i d).qualifier ≡ true → behind g (get_or words i d).number ≡ Some next →
      all_may_come (drop i words) g ≡ all_may_come (drop (i + 1) words) next
  may_next next e named = may_first (Some next) e named

  pub may_not : is_of_data (get_or words i d).qualifier ≡ true → behind g (get_or words i d).number ≡ None → all_may_come (drop i words) g ≡ false
  may_not e named = may_first None e named

pub ruleset named = (may_skip, may_next, may_not, first_in_range, later_in_range)
