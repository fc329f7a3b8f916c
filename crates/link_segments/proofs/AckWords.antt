-- Acknowledgement words one after the other.
use Rattle.std.proofs.Common.{ℕ, ◌+◌, ◌<◌, List, ◌∷◌, length, drop, get_or, subst}
use Rattle.std.specs.List.{AllByRecursion}
use Rattle.std.proofs.lemmas.List.{drop_more}
use Rattle.dna_packet.specs.declared.ack_word.AckWord.{AckWord}
use Rattle.dna_packet.specs.AckWord.{IsAckWord}

module _ (words : List AckWord) (i : ℕ) (d : AckWord) (h : i < length words) (all : AllByRecursion IsAckWord (drop i words)) where
  both : AllByRecursion IsAckWord (get_or words i d ∷ drop (i + 1) words)
  both = subst (λ (ws : List AckWord). AllByRecursion IsAckWord ws) (drop_more words i d h) all

  pub first_in_range : (get_or words i d).number < 4096
  first_in_range = both.0

  pub later_in_range : AllByRecursion IsAckWord (drop (i + 1) words)
  later_in_range = both.1
