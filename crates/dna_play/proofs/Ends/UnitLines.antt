-- The units of an end of the player have lines, and its packets are read as they were put together.
use Rattle.dna_play.proofs.Prelude.{◌≡◌, ℕ, ◌+◌, ◌/◌, ◌%◌, ◌^◌, ◌<◌, ◌≤◌, Bool, true, false, ◌&&◌, Some, List, [], ◌∷◌, ◌++◌, length, Ok, refl, ap}
use Rattle.dna_play.proofs.Prelude.{ap₂, ◌∙◌, arith, le-leb, lt-ltb, length-append, slice_get, check_of, check_bytes, check_of_lt, Flags, NakReason}
use Rattle.dna_play.proofs.Prelude.{HeaderCheck, MessageValue, Data, Ack, Nak, Rep, Strt, Stack, IsInRange, bit, flags_byte, reason_number, SOH}
use Rattle.dna_play.proofs.Prelude.{ENQ, ADDRESS, control, header, with_check, rest_of, spelling, word, ack_word, NspValue, IsNsp, nsp_bytes}
use Rattle.dna_play.proofs.Prelude.{connect_fields, segment_flag, segnum, ConnectInitiate, DisconnectConfirm, nsp_again, Sent, MAX_UNIT, Head}
use Rattle.dna_play.proofs.Prelude.{resp_of, num_of, body_of, message_in, content_of, content, are_bytes, has_line, Duty, ConnectAckDuty}
use Rattle.dna_play.proofs.Prelude.{InitiateDuty, ConfirmDuty, DisconnectDuty, DataAckDuty, SegmentDuty, LinkEnd, SERVICES, INFO, USER_DATA}
use Rattle.dna_play.proofs.Prelude.{address, packet_with, piece_to_send, segment_with, ack_of, duty_message, Piece, SEGSIZE}
use Rattle.dna_packet.specs.Packet as packets
use Rattle.dna_packet.proofs.PacketLemmas.{packet_again}
use Rattle.dna_play.proofs.Bytes.{HasBytes, addressed, bytes_told, front, joined_bytes, word_bytes}
use Rattle.dna_play.proofs.Links.Fits.{PieceFits}

-- ---- a unit

checked_bytes : (field : List ℕ) → are_bytes field ≡ true → are_bytes (with_check field) ≡ true
checked_bytes field e =
    let small = check_of_lt field (bytes_told field e) in
    joined_bytes field (check_bytes field) e
    (rw (lt-ltb (check_of field % 256) 256 (omega arith), lt-ltb (check_of field / 256) 256 (omega arith)) refl)

bit_small : (b : Bool) → bit b ≤ 1
bit_small true = omega arith
bit_small false = omega arith

flags_small : (flags : Flags) → flags_byte flags ≤ 192
flags_small flags = let q = bit_small flags.quick_sync in let s = bit_small flags.select in omega arith

reason_small : (reason : NakReason) → reason_number reason ≤ 17
reason_small HeaderCheck = omega arith
reason_small reason = omega arith

-- six bytes, of which the last is the address
six : (a b c d e : ℕ) → a < 256 → b < 256 → c < 256 → d < 256 → e < 256 → are_bytes (a ∷ b ∷ c ∷ d ∷ e ∷ ADDRESS ∷ []) ≡ true
six a b c d e p q r s t = rw (lt-ltb a 256 p, lt-ltb b 256 q, lt-ltb c 256 r, lt-ltb d 256 s, lt-ltb e 256 t) refl

control_bytes : (type subtype : ℕ) (flags : Flags) (resp num : ℕ) → type < 256 → subtype ≤ 17 → resp < 256 → num < 256 →
    are_bytes (control type subtype flags resp num) ≡ true
control_bytes type subtype flags resp num t u r n = let f = flags_small flags in
    six ENQ type (subtype + flags_byte flags) resp num (omega arith) t (omega arith) r n

-- its numbers are bytes
pub record IsOfBytes (m : MessageValue) : Type 0 where
  pub in_range : IsInRange m
  pub resp : resp_of m < 256
  pub num : num_of m < 256
  pub body : are_bytes (body_of m) ≡ true

header_bytes : (m : MessageValue) → IsOfBytes m → are_bytes (header m) ≡ true
header_bytes (Data flags resp num body) h = let f = flags_small flags in let n = h.in_range.1 in
    six SOH (length body % 256) (length body / 256 + flags_byte flags) resp num (omega arith) (omega arith) (omega arith) h.resp h.num
header_bytes (Ack flags resp) h = control_bytes 1 0 flags resp 0 (omega arith) (omega arith) h.resp (omega arith)
header_bytes (Nak flags reason resp) h = control_bytes 2 (reason_number reason) flags resp 0 (omega arith) (reason_small reason) h.resp (omega arith)
header_bytes (Rep flags num) h = control_bytes 3 0 flags 0 num (omega arith) (omega arith) (omega arith) h.num
header_bytes (Strt flags) h = control_bytes 6 0 flags 0 0 (omega arith) (omega arith) (omega arith) (omega arith)
header_bytes (Stack flags) h = control_bytes 7 0 flags 0 0 (omega arith) (omega arith) (omega arith) (omega arith)

header_six : (m : MessageValue) → length (header m) ≡ 6
header_six (Data flags resp num body) = refl
header_six m = refl

rest_fits : (m : MessageValue) → IsOfBytes m → HasBytes 16385 (rest_of m)
rest_fits (Data flags resp num body) h = let e = length-append body (check_bytes body) in let n = h.in_range.1 in
    record { are = checked_bytes body h.body; few = omega arith }
rest_fits m h = record { are = refl; few = omega arith }

-- it has a line
pub unit_line : (m : MessageValue) → IsOfBytes m → has_line (Sent (spelling m)) ≡ true
unfolding spelling
unit_line m h =
    let e = length-append (with_check (header m)) (rest_of m) in let f = length-append (header m) (check_bytes (header m)) in
    let six = header_six m in let rest = rest_fits m h in let short = rest.few in
    ap₂ (λ (b c : Bool). b && c) (joined_bytes (with_check (header m)) (rest_of m) (checked_bytes (header m) (header_bytes m h)) rest.are)
    (le-leb (length (with_check (header m) ++ rest_of m)) MAX_UNIT (omega arith))

-- ---- a packet

pub composed_content : (head : Head) (m : NspValue) → head.own < 2 ^ 16 → head.peer < 2 ^ 16 → IsNsp m →
    content (packet_with head m) ≡ Ok (Some (record { dst = head.peer; src = head.own; message = m }))
composed_content head m own peer n =
    ap content_of (packet_again (packets.Data 2 head.peer head.own 0 (nsp_bytes m)) ((omega arith, refl), (peer, own, omega arith)))
    ∙ ap (message_in head.peer head.own) (nsp_again m n)

-- bytes of a packet, and how many
pub record PacketFits (body : List ℕ) : Type 0 where
  pub bytes : are_bytes body ≡ true
  pub some : 1 ≤ length body
  pub most : length body ≤ 16383

-- a message of the links that has room in one
abbrev pub NspFits : NspValue → Type 0
NspFits m = HasBytes 1024 (nsp_bytes m)

pub packet_fits : (head : Head) (m : NspValue) → NspFits m → PacketFits (packet_with head m)
packet_fits head m fits =
    let few = fits.few in
    record {
      bytes = addressed 2 head.peer head.own (0 ∷ nsp_bytes m) (omega arith) (front 0 (nsp_bytes m) (omega arith) fits.are);
      some = omega arith;
      most = omega arith;
    }

-- ---- a message of the links

pub confirm_fits : (dst src reason : ℕ) → NspFits (DisconnectConfirm dst src reason)
confirm_fits dst src reason = record { are = addressed 0x48 dst src (word reason) (omega arith) (word_bytes reason); few = omega arith }

flag_small : (b e : Bool) → segment_flag b e < 256
flag_small true true = omega arith
flag_small true false = omega arith
flag_small false true = omega arith
flag_small false false = omega arith

module _ (l : LinkEnd) where
  abbrev own : ℕ
  own = address l.port.own

  abbrev far : ℕ
  far = address l.port.far

  abbrev piece : Piece
  piece = piece_to_send (slice_get l.variables.outstanding l.owed.ahead) l.variables.unsent

  -- what is put together of it fits
  pub duty_fits : PieceFits piece → (duty : Duty) → NspFits (duty_message duty l)
  duty_fits fits ConnectAckDuty = record { are = front 0x24 (word far) (omega arith) (word_bytes far); few = omega arith }
  duty_fits fits InitiateDuty = go l.owed.initiated
    where
      rest : List ℕ
      rest = connect_fields SERVICES INFO SEGSIZE ++ []

      go : (b : Bool) → NspFits (ConnectInitiate b own SERVICES INFO SEGSIZE [])
      go true = record { are = addressed 0x68 0 own rest (omega arith) refl; few = omega arith }
      go false = record { are = addressed 0x18 0 own rest (omega arith) refl; few = omega arith }
  duty_fits fits ConfirmDuty =
      record { are = addressed 0x28 far own (connect_fields SERVICES INFO SEGSIZE ++ USER_DATA) (omega arith) refl; few = omega arith }
  duty_fits fits DisconnectDuty = record { are = addressed 0x38 far own (word 0 ++ USER_DATA) (omega arith) refl; few = omega arith }
  duty_fits fits DataAckDuty =
      let number = ack_word (ack_of l.variables.received) in
      record {
        are = addressed 0x04 far own (word number ++ []) (omega arith) (joined_bytes (word number) [] (word_bytes number) refl);
        few = omega arith;
      }
  duty_fits fits SegmentDuty =
      let number = segnum (segment_with l piece).number false in
      let few = fits.few in
      record {
        are = addressed (segment_flag piece.begins piece.ends) far own (word number ++ piece.body) (flag_small piece.begins piece.ends)
            (joined_bytes (word number) piece.body (word_bytes number) fits.are);
        few = omega arith;
      }

  -- and has bytes, where the addresses are words
  pub duty_is_nsp : own < 2 ^ 16 → far < 2 ^ 16 → l.variables.received < 0x1000 → (duty : Duty) → IsNsp (duty_message duty l)
  duty_is_nsp own_small far_small received ConnectAckDuty = (tt, far_small)
  duty_is_nsp own_small far_small received InitiateDuty = (tt, (own_small, (omega arith, omega arith, omega arith)))
  duty_is_nsp own_small far_small received ConfirmDuty = (tt, ((far_small, own_small), (omega arith, omega arith, omega arith)))
  duty_is_nsp own_small far_small received DisconnectDuty = (tt, ((far_small, own_small), omega arith))
  duty_is_nsp own_small far_small received DataAckDuty = (((received, tt), omega arith), ((far_small, own_small), omega arith))
  duty_is_nsp own_small far_small received SegmentDuty = ((tt, omega arith), ((far_small, own_small), omega arith))
