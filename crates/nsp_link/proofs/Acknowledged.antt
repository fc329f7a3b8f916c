-- What acknowledgement words that come make of the segments.
use Rattle.std.proofs.Common.{◌≡◌, ℕ, Bool, Option, List, sym, ap, ◌∙◌}
use Rattle.wire_base.specs.Window.{WindowView}
use Rattle.dna_packet.specs.declared.ack_word.AckWord.{AckWord}
use Rattle.dna_links.specs.Segmentation.{Piece, Unsent}
use Rattle.dna_links.specs.WireSegments.{LinkVariables, WireSegments, LastSent, takes_acks}
use Rattle.link_segments.specs.Outstanding.{acknowledged_words}
use Rattle.link_segments.proofs.Acknowledged.{same_words}

-- the segments by their fields, as a view shows it
abbrev pub segments_of : Unsent → WindowView Piece → ℕ → List (Option Piece) → Bool → LastSent → WireSegments
segments_of unsent w received pieces gave_many sent = record {
  variables = record { unsent = unsent; acknowledged = w.first; outstanding = w.items; received = received; pieces = pieces };
  gave_many = gave_many;
  last = sent.last;
  last_is_high = sent.is_high;
}

pub taken : (unsent : Unsent) (w v : WindowView Piece) (received : ℕ) (pieces : List (Option Piece)) (gave_many : Bool) (sent : LastSent)
    (words : List AckWord) → v ≡ acknowledged_words words w → segments_of unsent v received pieces gave_many sent ≡ takes_acks words tt
    (segments_of unsent w received pieces gave_many sent)
taken unsent w v received pieces gave_many sent words e =
    ap (λ (x : WindowView Piece). segments_of unsent x received pieces gave_many sent) e
    ∙ ap (λ (k : LinkVariables). record (segments_of unsent w received pieces gave_many sent) { variables = k })
    (sym (same_words words w (segments_of unsent w received pieces gave_many sent).variables))

pub ruleset acknowledged = (same_words)
