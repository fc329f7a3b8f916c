-- An acknowledgement word that fails is the one that the table refuses, and what is sent of the segments once the words are named.
use Rattle.std.proofs.Common.{◌≡◌, ℕ, Bool, true, false, cond, not, Option, Some, None, List, [], ◌∷◌, refl, ap, ◌∙◌}
use Rattle.std.specs.Prelude.{Result, Ok, Err}
use Rattle.dna_packet.specs.Nsp.{SegmentValue}
use Rattle.dna_packet.specs.declared.ack_word.AckWord.{AckWord}
use Rattle.dna_station.specs.declared.link_refusal.LinkRefusal.{LinkRefusal}
use Rattle.dna_station.specs.declared.link_refusal.LinkRefusal.TheVariants.{WrongAck}
use Rattle.dna_links.specs.SegmentBook.{distance, is_of_data, Sending, Late, with_gap}
use Rattle.dna_links.specs.LinkBook.{on_ok}
use Rattle.dna_links.specs.Segmentation.{piece_of}
use Rattle.dna_links.specs.WireSegments.{WireSegments, LastSent, all_named, last_named, after_first, last_of, is_new, highest_given}
use Rattle.dna_links.specs.WireSegments.{LateSent, after_first_late, all_named_late, gap_at, last_named_late, acks_named, sends_new}
use Rattle.dna_links.specs.WireSegments.{sends_again, segment_named, sends_segment, sending, with_last}
use Rattle.nsp_link.specs.FailedSending.{asked_words, failed_behind, asked_late, late_numbers, word_numbers}
use Rattle.nsp_link.specs.declared.failed.FailedLinkSending.{FailedLinkSending}
use Rattle.nsp_link.specs.declared.failed.FailedLinkSending.TheVariants.{Acknowledgement}
use Rattle.nsp_link.specs.declared.failed.Numbers.{Numbers}

-- ---- acknowledgement words

-- the word that fails, or the last acknowledgement behind all of them
pub data SameWords : Result LastSent FailedLinkSending → Option LastSent → Type 0 where
  Fails : (seen : ℕ) (allowed : Numbers) → SameWords (Err (Acknowledgement seen allowed)) None
  Passes : (sent : LastSent) → SameWords (Ok sent) (Some sent)

pub words_same : (again : Bool) (received : ℕ) (words : List AckWord) (sent : LastSent) →
    SameWords (asked_words again received words sent) (all_named again received words sent)
words_same again received [] sent = Passes sent
words_same again received (word ∷ words) sent =
    by_kind (is_of_data word.qualifier) (words_same again received words sent) (λ next. words_same again received words next)
  where
    by_name : (o : Option LastSent) → ((next : LastSent) → SameWords (asked_words again received words next) (all_named again received words next)) →
        SameWords (failed_behind o (Acknowledgement word.number (word_numbers again received sent)) (λ next. asked_words again received words next))
        (after_first o (λ next. all_named again received words next))
    by_name None later = Fails _ _
    by_name (Some next) later = later next

    by_kind : (b : Bool) → SameWords (asked_words again received words sent) (all_named again received words sent) →
        ((next : LastSent) → SameWords (asked_words again received words next) (all_named again received words next)) →
        SameWords (cond b (failed_behind (last_named again received word.number sent) (Acknowledgement word.number
        (word_numbers again received sent)) (λ next. asked_words again received words next)) (asked_words again received words sent))
        (cond b (after_first (last_named again received word.number sent) (λ next. all_named again received words next))
        (all_named again received words sent))
    by_kind true same later = by_name (last_named again received word.number sent) later
    by_kind false same later = same

-- the same of a new segment, with queues
pub data SameLate : Result LateSent FailedLinkSending → Option LateSent → Type 0 where
  Late_word : (seen : ℕ) (allowed : Numbers) → SameLate (Err (Acknowledgement seen allowed)) None
  InTime : (late : LateSent) → SameLate (Ok late) (Some late)

pub late_same : (received : ℕ) (words : List AckWord) (late : LateSent) →
    SameLate (asked_late received words late) (all_named_late received words late)
late_same received [] late = InTime late
late_same received (word ∷ words) late =
    by_kind (is_of_data word.qualifier) (late_same received words late) (λ next. late_same received words next)
  where
    behind : LastSent → LateSent
    behind next = record { sent = next; gap = gap_at received word.number late.sent }

    by_name : (o : Option LastSent) → ((next : LateSent) → SameLate (asked_late received words next) (all_named_late received words next)) →
        SameLate (failed_behind o (Acknowledgement word.number (late_numbers received late)) (λ next. asked_late received words (behind next)))
        (after_first_late o (λ next. all_named_late received words (behind next)))
    by_name None later = Late_word _ _
    by_name (Some next) later = later (behind next)

    by_kind : (b : Bool) → SameLate (asked_late received words late) (all_named_late received words late) →
        ((next : LateSent) → SameLate (asked_late received words next) (all_named_late received words next)) →
        SameLate (cond b (failed_behind (last_named_late received word.number late) (Acknowledgement word.number (late_numbers received late))
        (λ next. asked_late received words (behind next))) (asked_late received words late))
        (cond b (after_first_late (last_named_late received word.number late) (λ next. all_named_late received words (behind next)))
        (all_named_late received words late))
    by_kind true same later = by_name (last_named_late received word.number late) later
    by_kind false same later = same

-- ---- what is sent of the segments, once the words are named

abbrev pub Numbered : Type 0
Numbered = Result (Sending WireSegments (Unit {0})) LinkRefusal

abbrev pub after_words : Option LastSent → (LastSent → Numbered) → Numbered
after_words None next = Err WrongAck
after_words (Some sent) next = next sent

module _ (segsize : ℕ) (seg : SegmentValue) (f : WireSegments) where
  abbrev pub sends_by : Bool → LastSent → Numbered
  sends_by b sent =
      cond b (sends_new segsize (piece_of seg) sent f) (sends_again (distance seg.number (highest_given f.variables)) (piece_of seg) sent f)

  named_as : (b : Bool) → is_new seg f.variables ≡ b → (o : Option LastSent) → segment_named o segsize seg f ≡ after_words o (sends_by b)
  named_as b e None = refl
  named_as b e (Some sent) = ap (λ (b : Bool). sends_by b sent) e

  pub sends_as : (b : Bool) → is_new seg f.variables ≡ b → sends_segment segsize seg f ≡
      after_words (all_named (not b) f.variables.received seg.acks (last_of f)) (sends_by b)
  sends_as b e =
      ap (λ (b : Bool). segment_named (all_named (not b) f.variables.received seg.acks (last_of f)) segsize seg f) e ∙ named_as b e _

pub acks_as : (o : Option LastSent) (f : WireSegments) → acks_named o f ≡ after_words o (λ sent. Ok (sending (with_last sent f)))
acks_as None f = refl
acks_as (Some sent) f = refl

-- what is remembered beside it is never refused
pub gap_ok : {R : Type 0} (gap : Sending WireSegments (Unit {0}) → ℕ) (r : Numbered) (next : Late WireSegments (Unit {0}) → Result R LinkRefusal) →
    on_ok r (λ sent. next (record { sent = sent; gap = gap sent })) ≡ on_ok (with_gap gap r) next
gap_ok gap (Ok sent) next = refl
gap_ok gap (Err refusal) next = refl
