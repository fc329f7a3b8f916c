-- Acknowledgement words that come, one after the other.
use Rattle.std.proofs.Common.{◌≡◌, ℕ, ◌+◌, ◌<◌, Bool, true, false, ◌&&◌, List, [], ◌∷◌, length, drop, get_or, refl, sym, ap, ◌∙◌}
use Rattle.std.specs.Prelude.{nat_le}
use Rattle.std.proofs.lemmas.List.{drop_more}
use Rattle.wire_base.specs.Window.{WindowView}
use Rattle.dna_packet.specs.declared.ack_word.AckWord.{AckWord}
use Rattle.dna_links.specs.SegmentBook.{is_of_data, distance}
use Rattle.dna_links.specs.Segmentation.{Piece}
use Rattle.dna_links.specs.WireSegments.{LinkVariables, acknowledged_by_all, acknowledged_to as kept_to}
use Rattle.link_segments.specs.Outstanding.{acknowledged_to, acknowledged_word, acknowledged_words}
use Rattle.link_segments.proofs.AckWords.{first_in_range, later_in_range}

module _ {T : Type 0} (words : List AckWord) (i : ℕ) (d : AckWord) (h : i < length words) (w : WindowView T) where
  opened : acknowledged_words (drop i words) w ≡ acknowledged_words (drop (i + 1) words) (acknowledged_word w (get_or words i d))
  opened = ap (λ (ws : List AckWord). acknowledged_words ws w) (drop_more words i d h)

  by_test : (b : Bool) → is_of_data (get_or words i d).qualifier ≡ b → acknowledged_words (drop i words) w ≡ acknowledged_words (drop (i + 1) words)
      (acknowledged_to (b && nat_le (distance w.first (get_or words i d).number) (length w.items)) (get_or words i d).number w)
  by_test b e = opened ∙
      ap (λ (t : Bool). acknowledged_words (drop (i + 1) words)
      (acknowledged_to (t && nat_le (distance w.first (get_or words i d).number) (length w.items)) (get_or words i d).number w)) e

  pub word_acknowledges : is_of_data (get_or words i d).qualifier ≡ true → acknowledged_words (drop i words) w ≡ acknowledged_words
      (drop (i + 1) words) (acknowledged_to (nat_le (distance w.first (get_or words i d).number) (length w.items)) (get_or words i d).number w)
  word_acknowledges e = by_test true e

  pub word_of_others : is_of_data (get_or words i d).qualifier ≡ false → acknowledged_words (drop i words) w ≡ acknowledged_words (drop (i + 1) words)
      w
  word_of_others e = by_test false e

pub ruleset words = (word_acknowledges, word_of_others, first_in_range, later_in_range)

-- ---- what any node keeps, and its window

abbrev pub with_window : WindowView Piece → LinkVariables → LinkVariables
with_window w k = record k { acknowledged = w.first; outstanding = w.items }

same_by : (b : Bool) (number : ℕ) (w : WindowView Piece) (k : LinkVariables) → kept_to b (with_window w k) number ≡ with_window
    (acknowledged_to b number w) k
same_by true number w k = refl
same_by false number w k = refl

pub same_words : (words : List AckWord) (w : WindowView Piece) (k : LinkVariables) → acknowledged_by_all words (with_window w k) ≡ with_window
    (acknowledged_words words w) k
same_words [] w k = refl
same_words (word ∷ words) w k =
    ap (λ (l : LinkVariables). acknowledged_by_all words l)
    (same_by (is_of_data word.qualifier && nat_le (distance w.first word.number) (length w.items)) word.number w k)
    ∙ same_words words (acknowledged_word w word) k
