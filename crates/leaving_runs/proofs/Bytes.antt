-- The bytes of what is left of a unit are read as what is left of its message; and what is read of a packet is its message.
use Rattle.leaving_runs.proofs.Prelude.{◌≡◌, ℕ, Bool, true, false, cond, Option, Some, None, Result, Ok, Err, List, length, ap, subst, ◌∙◌, arith}
use Rattle.leaving_runs.proofs.Prelude.{check_bytes, IsBytes, IsInRange, MessageValue, Data, ReadingValue, reading, numbered, spelling, with_check}
use Rattle.leaving_runs.proofs.Prelude.{by_rule, reading-spelling, IsBytes-head, IsBytes-rest, spelled_once, PacketFault, NspFault, PacketValue}
use Rattle.leaving_runs.proofs.Prelude.{NspValue, packet_at, nsp_at, StepRefusal, SendPacket, change_of, body_of, Carried, content, content_of}
use Rattle.leaving_runs.proofs.Prelude.{message_in, is_returned, message_in_packet, message_of, message_within, packet_of, if_read, with_body}
use Rattle.leaving_runs.proofs.Prelude.{bytes_left, bytes_left_by}
use Rattle.ddcmp_msg.specs.Reading.{Sound, HeaderBad, DataBad}
use Rattle.dna_packet.specs.Packet as packets

-- the body of a message that was read is bytes
pub body_bytes : (unit : List ℕ) (m : MessageValue) → IsBytes unit → reading unit ≡ Sound m → IsBytes (body_of m)
unfolding spelling
body_bytes unit (Data flags resp num body) fits e =
    let m : MessageValue = Data flags resp num body in
    let u = (by_rule unit (Sound m) fits).0 e in
    let all : IsBytes (spelling m) = subst IsBytes (spelled_once m unit u) fits in
    let head = numbered (length body) flags resp num in
    IsBytes-head body (check_bytes body) (IsBytes-rest (with_check head) (with_check body) all)
body_bytes unit m fits e = λ i. omega arith

pub still_read : (packet : List ℕ → List ℕ) (unit : List ℕ) (m : MessageValue) → reading unit ≡ Sound m → IsInRange (with_body packet m) →
    reading (bytes_left packet unit) ≡ Sound (with_body packet m)
still_read packet unit m e fits = ap (λ (r : ReadingValue). reading (bytes_left_by packet unit r)) e ∙ at m e fits
  where
    at : (m : MessageValue) → reading unit ≡ Sound m → IsInRange (with_body packet m) →
        reading (bytes_left_by packet unit (Sound m)) ≡ Sound (with_body packet m)
    at (Data flags resp num body) e fits = reading-spelling (Data flags resp num (packet body)) fits
    at m e fits = e

abbrev pub message_of_packet : Option Carried → Option NspValue
message_of_packet (Some packet) = Some packet.message
message_of_packet None = None

-- what the links meet of a packet is what is read of it
pub content_message : (body : List ℕ) (o : Option Carried) → content body ≡ Ok o → message_in_packet body ≡ message_of_packet o
content_message body o e = by_packet (packet_at body) e
  where
    by_message : (dst src : ℕ) (r : Result NspValue NspFault) → message_in dst src r ≡ Ok o → if_read r ≡ message_of_packet o
    by_message dst src (Ok m) e = ap of_result e
      where
        of_result : Result (Option Carried) StepRefusal → Option NspValue
        of_result (Ok o) = message_of_packet o
        of_result (Err fault) = None
    by_message dst src (Err fault) e = absurd cc

    by_returned : (b : Bool) (dst src : ℕ) (nsp : List ℕ) → cond b (Ok None) (message_in dst src (nsp_at nsp)) ≡ Ok o →
        cond b None (if_read (nsp_at nsp)) ≡ message_of_packet o
    by_returned true dst src nsp e = ap of_result e
      where
        of_result : Result (Option Carried) StepRefusal → Option NspValue
        of_result (Ok o) = message_of_packet o
        of_result (Err fault) = None
    by_returned false dst src nsp e = by_message dst src (nsp_at nsp) e

    by_packet : (r : Result PacketValue PacketFault) → content_of r ≡ Ok o → message_of r ≡ message_of_packet o
    by_packet (Ok (packets.Data rtflg dst src forward nsp)) e = by_returned (is_returned rtflg) dst src nsp e
    by_packet (Ok (packets.Control bytes)) e = ap of_result e
      where
        of_result : Result (Option Carried) StepRefusal → Option NspValue
        of_result (Ok o) = message_of_packet o
        of_result (Err fault) = None
    by_packet (Err fault) e = absurd cc

-- what is read of a unit with a packet
pub within_data : (m : MessageValue) (o : Option Carried) → change_of m ≡ SendPacket → content (body_of m) ≡ Ok o →
    message_within (packet_of (Sound m)) ≡ message_of_packet o
within_data (Data flags resp num body) o is e = content_message body o e
within_data m o is e = absurd cc

-- what is sound is not damaged
pub not_damaged : (m : MessageValue) → ◌≡◌ {A = ReadingValue} HeaderBad (Sound m) → false ≡ true
not_damaged m e = absurd cc

pub not_data_bad : (m : MessageValue) → ◌≡◌ {A = ReadingValue} DataBad (Sound m) → false ≡ true
not_data_bad m e = absurd cc
