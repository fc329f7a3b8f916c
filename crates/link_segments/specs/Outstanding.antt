-- What a contract sees of the segments that are given and not acknowledged.
use Rattle.std.specs.Prelude.{ℕ, Bool, true, false, ◌&&◌, nat_le, Option, Some, None, List, length, drop, fold}
use Rattle.wire_base.specs.Window.{WindowView, empty_from}
use Rattle.dna_packet.specs.declared.ack_word.AckWord.{AckWord}
use Rattle.dna_links.specs.SegmentBook.{wire, distance, is_of_data}

module _ {W T : Type 0} where
  -- a window that is not made yet is an empty one from 0 on
  abbrev pub shown : (W → WindowView T) → Option W → WindowView T
  shown window None = empty_from 2047 0
  shown window (Some made) = window made

module _ {T : Type 0} where
  abbrev pub acknowledged_to : Bool → ℕ → WindowView T → WindowView T
  acknowledged_to true number w = record w { first = wire number; items = drop (distance w.first number) w.items }
  acknowledged_to false number w = w

  abbrev pub acknowledged_word : WindowView T → AckWord → WindowView T
  acknowledged_word w word = acknowledged_to (is_of_data word.qualifier && nat_le (distance w.first word.number) (length w.items)) word.number w

  abbrev pub acknowledged_words : List AckWord → WindowView T → WindowView T
  acknowledged_words words w = fold acknowledged_word w words
