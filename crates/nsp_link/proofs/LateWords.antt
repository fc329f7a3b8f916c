-- Acknowledgement words of a new segment one after the other, with queues, up to the first that fails.
use Rattle.std.proofs.Common.{◌≡◌, ℕ, ◌+◌, ◌<◌, Bool, true, false, Option, Some, None, Result, Err, List, ◌∷◌, length, drop, get_or, cond}
use Rattle.std.proofs.Common.{refl, ap, ◌∙◌}
use Rattle.std.proofs.lemmas.List.{drop_more}
use Rattle.dna_packet.specs.declared.ack_word.AckWord.{AckWord}
use Rattle.dna_links.specs.SegmentBook.{is_of_data}
use Rattle.dna_links.specs.WireSegments.{LateSent, LastSent, gap_at, last_named_late}
use Rattle.link_segments.proofs.AckWords.{first_in_range, later_in_range}
use Rattle.nsp_link.specs.FailedSending.{asked_late, failed_behind, late_numbers}
use Rattle.nsp_link.specs.declared.failed.FailedLinkSending.{FailedLinkSending}
use Rattle.nsp_link.specs.declared.failed.FailedLinkSending.TheVariants.{Acknowledgement}
use Rattle.nsp_link.specs.inner.Late.{after_late}

module _ (received : ℕ) (words : List AckWord) (i : ℕ) (d : AckWord) (late : LateSent) (h : i < length words) where
  opened : asked_late received (drop i words) late ≡ asked_late received (get_or words i d ∷ drop (i + 1) words) late
  opened = ap (λ (ws : List AckWord). asked_late received ws late) (drop_more words i d h)

  abbrev number : ℕ
  number = (get_or words i d).number

  abbrev word_fails : FailedLinkSending
  word_fails = Acknowledgement number (late_numbers received late)

  abbrev later : LastSent → Result LateSent FailedLinkSending
  later next = asked_late received (drop (i + 1) words) (record { sent = next; gap = gap_at received number late.sent })

  -- a word of the other subchannel is not judged
  pub asked_skip : is_of_data (get_or words i d).qualifier ≡ false → asked_late received (drop i words) late ≡
      asked_late received (drop (i + 1) words) late
  asked_skip e = opened ∙
      ap (λ (b : Bool). cond b (failed_behind (last_named_late received number late) word_fails later)
      (asked_late received (drop (i + 1) words) late)) e

  asked_first : is_of_data (get_or words i d).qualifier ≡ true → asked_late received (drop i words) late ≡
      failed_behind (last_named_late received number late) word_fails later
  asked_first e =
      opened
      ∙ ap (λ (b : Bool). cond b (failed_behind (last_named_late received number late) word_fails later)
      (asked_late received (drop (i + 1) words) late)) e

  next_by : (r : Option LastSent) (next : LateSent) → after_late received number late.sent r ≡ Some next →
      failed_behind r word_fails later ≡ asked_late received (drop (i + 1) words) next
  next_by None next e = absurd (cc)
  next_by (Some sent) next e =
      let same : record { sent = sent; gap = gap_at received number late.sent } ≡ next = cc in
      ap (asked_late received (drop (i + 1) words)) same

  none_by : (r : Option LastSent) → after_late received number late.sent r ≡ None → failed_behind r word_fails later ≡ Err word_fails
  none_by None e = refl
  none_by (Some sent) e = absurd (cc)

  pub asked_next : (next : LateSent) → is_of_data (get_or words i d).qualifier ≡ true →
      after_late received number late.sent (last_named_late received number late) ≡ Some next →
      asked_late received (drop i words) late ≡ asked_late received (drop (i + 1) words) next
  asked_next next e named = asked_first e ∙ next_by (last_named_late received number late) next named

  pub asked_here : is_of_data (get_or words i d).qualifier ≡ true →
      after_late received number late.sent (last_named_late received number late) ≡ None →
      asked_late received (drop i words) late ≡ Err word_fails
  asked_here e named = asked_first e ∙ none_by (last_named_late received number late) named

pub ruleset word_by_word = (asked_skip, asked_next, asked_here, first_in_range, later_in_range)
