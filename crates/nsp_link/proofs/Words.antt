-- Acknowledgement words one after the other, up to the first that fails.
use Rattle.std.proofs.Common.{◌≡◌, ℕ, ◌+◌, ◌<◌, Bool, true, false, Option, Some, None, Result, Err, List, ◌∷◌, length, drop, get_or, cond, ap, ◌∙◌}
use Rattle.std.proofs.lemmas.List.{drop_more}
use Rattle.dna_packet.specs.declared.ack_word.AckWord.{AckWord}
use Rattle.dna_links.specs.SegmentBook.{is_of_data}
use Rattle.dna_links.specs.WireSegments.{LastSent, last_named}
use Rattle.link_segments.proofs.AckWords.{first_in_range, later_in_range}
use Rattle.nsp_link.specs.FailedSending.{asked_words, failed_behind, word_numbers}
use Rattle.nsp_link.specs.declared.failed.FailedLinkSending.{FailedLinkSending}
use Rattle.nsp_link.specs.declared.failed.FailedLinkSending.TheVariants.{Acknowledgement}

module _ (again : Bool) (received : ℕ) (words : List AckWord) (i : ℕ) (d : AckWord) (sent : LastSent) (h : i < length words) where
  opened : asked_words again received (drop i words) sent ≡ asked_words again received (get_or words i d ∷ drop (i + 1) words) sent
  opened = ap (λ (ws : List AckWord). asked_words again received ws sent) (drop_more words i d h)

  abbrev word_fails : FailedLinkSending
  word_fails = Acknowledgement (get_or words i d).number (word_numbers again received sent)

  abbrev later : LastSent → Result LastSent FailedLinkSending
  later next = asked_words again received (drop (i + 1) words) next

  -- a word of the other subchannel is not judged
  pub asked_skip : is_of_data (get_or words i d).qualifier ≡ false → asked_words again received (drop i words) sent ≡
      asked_words again received (drop (i + 1) words) sent
  asked_skip e = opened ∙
      ap (λ (b : Bool). cond b (failed_behind (last_named again received (get_or words i d).number sent) word_fails later)
      (asked_words again received (drop (i + 1) words) sent)) e

  asked_first : (r : Option LastSent) → is_of_data (get_or words i d).qualifier ≡ true → last_named again received (get_or words i d).number
      sent ≡ r → asked_words again received (drop i words) sent ≡ failed_behind r word_fails later
  asked_first r e named =
      opened
      ∙ ap (λ (b : Bool). cond b (failed_behind (last_named again received (get_or words i d).number sent) word_fails later)
      (asked_words again received (drop (i + 1) words) sent)) e
      ∙ ap (λ (o : Option LastSent). failed_behind o word_fails later) named

  pub asked_next : (next : LastSent) → is_of_data (get_or words i d).qualifier ≡ true → last_named again received (get_or words i d).number
      sent ≡ Some next → asked_words again received (drop i words) sent ≡ asked_words again received (drop (i + 1) words) next
  asked_next next e named = asked_first (Some next) e named

  pub asked_here : is_of_data (get_or words i d).qualifier ≡ true → last_named again received (get_or words i d).number sent ≡ None →
      asked_words again received (drop i words) sent ≡ Err word_fails
  asked_here e named = asked_first None e named

pub ruleset word_by_word = (asked_skip, asked_next, asked_here, first_in_range, later_in_range)
