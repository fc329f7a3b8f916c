-- What sending the next packet once more leaves, by whether it is held.
use Rattle.std.proofs.Common.{◌≡◌, ◌+◌, ◌<◌, Bool, true, eqb-true, Option, Some, None, length, sym, subst, ap, ◌∙◌, arith}
use Rattle.std.specs.Prelude.{slice_get}
use Rattle.std.specs.Option.{IfSome}
use Rattle.std.proofs.lemmas.Bool.{ne_eqb}
use Rattle.std.proofs.lemmas.Option.{slice_get_past}
use Rattle.ddcmp_msg.specs.Message.{MessageValue}
use Rattle.dna_station.specs.Table.{change_of}
use Rattle.dna_station.specs.Book.{body_of}
use Rattle.dna_station.specs.WireStation.{HeldPacket, StationVariables, with_new}
use Rattle.dna_station.specs.WireBook.{wire_is_new}
use Rattle.dna_play.specs.Compose.{packet_again}
use Rattle.dna_play.specs.StoredStation.{variables_sent}

abbrev Variables : Type 0
Variables = StationVariables (Unit {0})

abbrev Leaves : Variables → Variables → Option (HeldPacket (Unit {0})) → Type 0
Leaves k after packet = IfSome (packet_again k packet) (λ (m : MessageValue). after ≡ variables_sent (change_of m) (body_of m) k)

-- it is not held
pub not_again : (k : Variables) → wire_is_new k ≡ true → Leaves k k (slice_get k.held k.ahead)
not_again k e =
    let h = eqb-true k.ahead (length k.held) e in
    subst (λ (o : Option (HeldPacket (Unit {0}))). Leaves k k o) (sym (slice_get_past k.held k.ahead (omega (arith, h)))) tt

-- it is one of those held
pub sent_again : (k after : Variables) → k.ahead < length k.held → after ≡ record k { ahead = k.ahead + 1 } →
    Leaves k after (slice_get k.held k.ahead)
sent_again k after h is = by_packet (slice_get k.held k.ahead)
  where
    by_packet : (o : Option (HeldPacket (Unit {0}))) → Leaves k after o
    by_packet None = tt
    by_packet (Some packet) =
        is ∙ ap (λ (b : Bool). record k { ahead = k.ahead + 1; held = with_new b k.held packet.body })
        (sym (ne_eqb k.ahead (length k.held) (λ same. (omega (arith, same, h)))))

pub ruleset again = (not_again, sent_again)
