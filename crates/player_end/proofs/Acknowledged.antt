-- Acknowledgement words that come, one after the other.
use Rattle.std.proofs.Common.{◌≡◌, ℕ, ◌+◌, ◌-◌, ◌%◌, ◌<◌, ◌≤◌, Bool, true, false, ◌&&◌, List, [], ◌∷◌, length, refl, ap, ◌∙◌, arith, length-drop, ap₂}
use Rattle.std.proofs.Common.{sym}
use Rattle.std.proofs.lemmas.Bool.{and_parts, leb-true}
use Rattle.std.specs.Prelude.{nat_le}
use Rattle.wire_base.specs.Window.{WindowView}
use Rattle.dna_links.specs.declared.port.Port.{Port}
use Rattle.dna_play.specs.LinkOwed.{LinkOwed, lowered}
use Rattle.dna_play.specs.NextSent.{LinkEnd}
use Rattle.dna_packet.specs.declared.ack_word.AckWord.{AckWord}
use Rattle.dna_links.specs.SegmentBook.{is_of_data, distance}
use Rattle.dna_links.specs.Segmentation.{Piece}
use Rattle.dna_links.specs.WireSegments.{LinkVariables, acknowledged_by_all}
use Rattle.link_segments.specs.Outstanding.{acknowledged_to, acknowledged_word, acknowledged_words}
use Rattle.link_segments.proofs.Acknowledged.{with_window, same_words}
use Rattle.player_end.specs.inner.Links.{acknowledged}

-- ---- how many are acknowledged

-- the window goes up by what leaves it
record GoesUp (w v : WindowView Piece) : Type 0 where
  pub less : length v.items ≤ length w.items
  pub first : v.first ≡ (w.first + (length w.items - length v.items)) % 4096

one_up : (b : Bool) (number : ℕ) (w : WindowView Piece) → w.first < 4096 → length w.items ≤ 2047 →
    (b ≡ true → distance w.first number ≤ length w.items) →
    GoesUp w (acknowledged_to b number w)
one_up false number w f few near = record { less = omega arith; first = omega (arith, f) }
one_up true number w f few near =
    let le = near refl in let left = length-drop (distance w.first number) w.items in
    record { less = omega (arith, left, le); first = omega (arith, f, few, left, le) }

words_up : (words : List AckWord) (w : WindowView Piece) → w.first < 4096 → length w.items ≤ 2047 → GoesUp w (acknowledged_words words w)
words_up [] w f few = record { less = omega arith; first = omega (arith, f) }
words_up (word ∷ words) w f few =
    let one = one_up (is_of_data word.qualifier && nat_le (distance w.first word.number) (length w.items)) word.number w f few
    (λ e. leb-true _ _ (and_parts (is_of_data word.qualifier) _ e).1) in
    let h = one.less in let first = one.first in
    let up = words_up words (acknowledged_word w word) (omega (arith, first)) (omega (arith, h, few)) in
    let more = up.less in let last = up.first in
    record { less = omega (arith, h, more); first = omega (arith, h, more, first, last) }

pub words_count : (words : List AckWord) (w : WindowView Piece) → w.first < 4096 → length w.items ≤ 2047 →
    distance w.first (acknowledged_words words w).first + length (acknowledged_words words w).items ≡ length w.items
words_count words w f few = let up = words_up words w f few in omega (arith, f, few, up.less, up.first)

-- ---- the link with its window and what it owes

abbrev pub end_of : Port → LinkVariables → LinkOwed → LinkEnd
end_of port variables owed = record { port = port; variables = variables; owed = owed }

module _ (port : Port) (k : LinkVariables) (owed : LinkOwed) (words : List AckWord) (w v : WindowView Piece) (is : v ≡ acknowledged_words words w)
  where
    variables_are : with_window v k ≡ acknowledged_by_all words (with_window w k)
    variables_are = ap (λ (x : WindowView Piece). with_window x k) is ∙ sym (same_words words w k)

    pub acks_taken : (count : ℕ) (after : LinkOwed) → count ≡ distance w.first v.first → after ≡ lowered count owed →
        end_of port (with_window v k) after ≡ acknowledged words (end_of port (with_window w k) owed)
    acks_taken count after counted lower =
        ap₂ (end_of port) variables_are
        (lower ∙ ap (λ (n : ℕ). lowered n owed) (counted ∙ ap (λ (l : LinkVariables). distance w.first l.acknowledged) variables_are))

pub ruleset counted = (words_count)
