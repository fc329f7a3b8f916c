-- What becomes of bytes is bytes, no longer than they were.
use Rattle.std.proofs.Common.{◌≡◌, ℕ, zero, suc, ◌+◌, ◌/◌, ◌%◌, ◌<◌, ◌≤◌, max, Bool, true, false, cond, List, [], ◌∷◌, length, Result, Ok, Err}
use Rattle.std.proofs.Common.{refl, sym, ap, subst, ◌∙◌, arith, length-append}
use Rattle.std.specs.List.{AllByRecursion}
use Rattle.wire_base.specs.declared.side.Side.{Side}
use Rattle.wire_base.specs.BlockCheck.{check_of, check_bytes}
use Rattle.wire_base.proofs.BlockCheck.{check_of_lt}
use Rattle.wire_base.proofs.BlockCheckTests.{AreBytes-append, AreBytes_word}
use Rattle.ddcmp_msg.specs.declared.flags.Flags.{Flags}
use Rattle.ddcmp_msg.specs.Message as messages
use Rattle.ddcmp_msg.specs.Message.{IsBytes, MessageValue, bit, flags_byte}
use Rattle.ddcmp_msg.specs.Reading.{ReadingValue, Sound, HeaderBad, DataBad, Malformed, reading}
use Rattle.ddcmp_msg.specs.Spelling.{numbered, spelling, with_check}
use Rattle.ddcmp_msg.proofs.Agreement.{by_rule}
use Rattle.ddcmp_msg.proofs.Checked.{length-with_check}
use Rattle.ddcmp_msg.proofs.Units.{IsBytes-head, IsBytes-rest, spelled_once}
use Rattle.dna_packet.specs.declared.fault.PacketFault.{PacketFault}
use Rattle.dna_packet.specs.declared.fault.NspFault.{NspFault}
use Rattle.dna_packet.specs.Packet.{PacketValue, Data, Control, packet_bytes}
use Rattle.dna_packet.specs.ReadingPacket.{packet_at}
use Rattle.dna_packet.specs.Nsp.{NspValue, DataSegment, LinkService, DataAck, OtherDataAck, ConnectAck, NoOperation, ConnectInitiate, ConnectConfirm}
use Rattle.dna_packet.specs.Nsp.{DisconnectInitiate, DisconnectConfirm, nsp_bytes}
use Rattle.dna_packet.specs.ReadingNsp.{nsp_at}
use Rattle.dna_packet.proofs.PacketLemmas.{packet_takes}
use Rattle.dna_packet.proofs.NspTakes.{nsp_takes}
use Rattle.leaving_out.specs.declared.leaving.Head.{Head}
use Rattle.leaving_out.specs.declared.leaving.Leaving.{Leaving}
use Rattle.leaving_out.specs.declared.packet_left.Route.{Route}
use Rattle.leaving_out.specs.Addresses.{at_receiver, at_sender, head_of, is_left}
use Rattle.leaving_out.specs.Messages.{destination_of, is_returned, source_of}
use Rattle.leaving_out.specs.Packets.{carried, link_left, message_left, names_both, packet_left, packet_left_by, packet_with, route_of, unmet}
use Rattle.leaving_out.specs.Packets.{unit_left, unit_left_by}

pub record IsKept (old new : List ℕ) : Type 0 where
  pub some : 1 ≤ length old → 1 ≤ length new
  pub short : length new ≤ max 1 (length old)
  pub bytes : IsBytes new

pub same_kept : (old : List ℕ) → IsBytes old → IsKept old old
same_kept old fits = record { some = λ h. h; short = omega arith; bytes = fits }

carried_bytes : (old : List ℕ) → IsBytes old → IsBytes (carried old)
carried_bytes [] fits zero = omega arith
carried_bytes [] fits (suc i) = omega arith
carried_bytes (first ∷ rest) fits zero = omega arith
carried_bytes (first ∷ rest) fits (suc i) = fits (suc i)

carried_kept : (old : List ℕ) → IsBytes old → IsKept old (carried old)
carried_kept [] fits = record { some = λ h. omega arith; short = omega arith; bytes = carried_bytes [] fits }
carried_kept (first ∷ rest) fits = record { some = λ h. omega arith; short = omega arith; bytes = carried_bytes (first ∷ rest) fits }

unmet_bytes : (old : List ℕ) → IsBytes old → IsBytes (unmet old)
unmet_bytes [] fits zero = omega arith
unmet_bytes [] fits (suc i) = omega arith
unmet_bytes (first ∷ rest) fits zero = omega arith
unmet_bytes (first ∷ rest) fits (suc i) = fits (suc i)

unmet_kept : (old : List ℕ) → IsBytes old → IsKept old (unmet old)
unmet_kept [] fits = record { some = λ h. omega arith; short = omega arith; bytes = unmet_bytes [] fits }
unmet_kept (first ∷ rest) fits = record { some = λ h. omega arith; short = omega arith; bytes = unmet_bytes (first ∷ rest) fits }

pub if_kept : (b : Bool) (old x y : List ℕ) → IsKept old x → IsKept old y → IsKept old (cond b x y)
if_kept true old x y one other = one
if_kept false old x y one other = other

-- each of them is a byte
each_byte : (bytes : List ℕ) → AllByRecursion (λ b. b < 256) bytes → IsBytes bytes
each_byte [] all i = omega arith
each_byte (b ∷ bytes) all zero = all.0
each_byte (b ∷ bytes) all (suc i) = each_byte bytes all.1 i

-- a byte of a word
pub low_fits : (n : ℕ) → n % 256 < 256
low_fits n = omega arith

confirmed_bytes : (route : Route) (dst src reason : ℕ) → route.rtflg < 128 → route.forward < 256 →
    IsBytes (packet_with route (DisconnectConfirm dst src reason))
confirmed_bytes route dst src reason short forward =
    each_byte (packet_with route (DisconnectConfirm dst src reason)) (
      omega arith,
      (
        low_fits route.dst,
        (
          low_fits (route.dst / 256),
          (
            low_fits route.src,
            (
              low_fits (route.src / 256),
              (
                forward,
                (
                  omega arith,
                  (
                    low_fits dst,
                    (
                      low_fits (dst / 256),
                      (
                        low_fits src,
                        (
                          low_fits (src / 256),
                          (low_fits reason, (low_fits (reason / 256), tt)),
                        ),
                      ),
                    ),
                  ),
                ),
              ),
            ),
          ),
        ),
      ),
    )

module _ (packet : List ℕ) (fits : IsBytes packet) where
  link_kept : (head : Head) (route : Route) (m : NspValue) → route.rtflg < 128 → route.forward < 256 → 6 + length (nsp_bytes m) ≤ length packet →
      IsKept packet (link_left head route packet m)
  link_kept head route (DisconnectInitiate dst src reason user_data) short forward long =
      if_kept (names_both head route dst src) packet _ _
      (record { some = λ h. omega arith; short = omega arith; bytes = confirmed_bytes route dst src reason short forward }) (unmet_kept packet fits)
  link_kept head route (DisconnectConfirm dst src reason) short forward long =
      if_kept (names_both head route dst src) packet _ _ (same_kept packet fits) (unmet_kept packet fits)
  link_kept head route (DataSegment s) short forward long = unmet_kept packet fits
  link_kept head route (LinkService interrupt dst src rest) short forward long = unmet_kept packet fits
  link_kept head route (DataAck dst src acks) short forward long = unmet_kept packet fits
  link_kept head route (OtherDataAck dst src rest) short forward long = unmet_kept packet fits
  link_kept head route (ConnectAck dst) short forward long = unmet_kept packet fits
  link_kept head route (NoOperation rest) short forward long = unmet_kept packet fits
  link_kept head route (ConnectInitiate retransmitted src services info segsize user_data) short forward long = unmet_kept packet fits
  link_kept head route (ConnectConfirm dst src services info segsize user_data) short forward long = unmet_kept packet fits

  module _ (leaving : Leaving) (sender : Side) where
    message_kept : (route : Route) (nsp : List ℕ) (r : Result NspValue NspFault) → route.rtflg < 128 → route.forward < 256 → IsBytes nsp →
        length packet ≡ 6 + length nsp → nsp_at nsp ≡ r → IsKept packet (message_left leaving sender route packet r)
    message_kept route nsp (Err fault) short forward nsp_fits long e =
        if_kept leaving.unread_messages packet _ _ (carried_kept packet fits) (same_kept packet fits)
    message_kept route nsp (Ok m) short forward nsp_fits long e =
        let spelled = nsp_takes nsp m nsp_fits e in
        if_kept (is_left leaving (at_sender sender (source_of m) (destination_of m))) packet _ _
        (if_kept (is_left leaving (at_receiver sender (source_of m) (destination_of m))) packet _ _ (unmet_kept packet fits)
        (link_kept (head_of leaving sender) route m short forward (omega (arith, ap length spelled.1)))) (same_kept packet fits)

    kept_by : (r : Result PacketValue PacketFault) → packet_at packet ≡ r → IsKept packet (packet_left_by leaving sender packet r)
    kept_by (Err fault) e = if_kept leaving.unread_packets packet _ _ (carried_kept packet fits) (same_kept packet fits)
    kept_by (Ok (Control bytes)) e = same_kept packet fits
    kept_by (Ok (Data rtflg dst src forward nsp)) e =
        let p = packet_takes packet (Data rtflg dst src forward nsp) fits e in
        let all : IsBytes (packet_bytes (Data rtflg dst src forward nsp)) = subst IsBytes p.1 fits in
        if_kept (is_returned rtflg) packet _ _ (same_kept packet fits)
        (message_kept (route_of rtflg dst src forward) nsp (nsp_at nsp) p.0.0.0 p.0.1.2 (λ j. all (suc (suc (suc (suc (suc (suc j)))))))
        (omega (arith, ap length p.1)) refl)

    pub packet_kept : IsKept packet (packet_left leaving sender packet)
    packet_kept = kept_by (packet_at packet) refl

-- ---- units

bit_small : (b : Bool) → bit b ≤ 1
bit_small true = omega arith
bit_small false = omega arith

checked_bytes : (field : List ℕ) → IsBytes field → IsBytes (with_check field)
checked_bytes field fits = AreBytes-append field (check_bytes field) fits (AreBytes_word (check_of field) (check_of_lt field fits))

numbered_bytes : (count resp num : ℕ) (flags : Flags) → count ≤ 16383 → resp < 256 → num < 256 → IsBytes (numbered count flags resp num)
numbered_bytes count resp num flags small resp_fits num_fits =
    let a = bit_small flags.quick_sync in
    let b = bit_small flags.select in
    each_byte (numbered count flags resp num) (omega arith, (low_fits count, (omega arith, (resp_fits, (num_fits, (omega arith, tt))))))

-- the body of a data message that was read
pub record IsBody (flags : Flags) (resp num : ℕ) (body : List ℕ) : Type 0 where
  pub some : 1 ≤ length body
  pub short : length body ≤ 16383
  pub bytes : IsBytes body
  pub resp_fits : resp < 256
  pub num_fits : num < 256

pub body_of : (unit : List ℕ) (flags : Flags) (resp num : ℕ) (body : List ℕ) → IsBytes unit →
    reading unit ≡ Sound (messages.Data flags resp num body) →
    IsBody flags resp num body
unfolding spelling
body_of unit flags resp num body fits e =
    let m : MessageValue = messages.Data flags resp num body in
    let u = (by_rule unit (Sound m) fits).0 e in
    let all : IsBytes (spelling m) = subst IsBytes (spelled_once m unit u) fits in
    let head = numbered (length body) flags resp num in
    record {
      some = u.in_range.0;
      short = u.in_range.1;
      bytes = IsBytes-head body (check_bytes body) (IsBytes-rest (with_check head) (with_check body) all);
      resp_fits = all 3;
      num_fits = all 4;
    }

pub record IsUnitKept (new : List ℕ) : Type 0 where
  pub short : length new ≤ 16393
  pub bytes : IsBytes new

pub spelled_kept : (flags : Flags) (resp num : ℕ) (body : List ℕ) → IsBody flags resp num body →
    IsUnitKept (spelling (messages.Data flags resp num body))
unfolding spelling
spelled_kept flags resp num body h =
    let head = numbered (length body) flags resp num in
    record {
      short = omega (arith, length-append (with_check head) (with_check body), length-with_check head, length-with_check body, h.short);
      bytes = AreBytes-append (with_check head) (with_check body)
          (checked_bytes head (numbered_bytes (length body) resp num flags h.short h.resp_fits h.num_fits)) (checked_bytes body h.bytes);
    }

module _ (leaving : Leaving) (sender : Side) (unit : List ℕ) (fits : IsBytes unit) where
  -- the packet that is made fits a unit
  pub made_body : (flags : Flags) (resp num : ℕ) (body : List ℕ) → reading unit ≡ Sound (messages.Data flags resp num body) →
      IsBody flags resp num (packet_left leaving sender body)
  made_body flags resp num body e =
      let h = body_of unit flags resp num body fits e in
      let k = packet_kept body h.bytes leaving sender in
      record {
        some = k.some h.some;
        short = omega (arith, k.short, h.short);
        bytes = k.bytes;
        resp_fits = h.resp_fits;
        num_fits = h.num_fits;
      }

  kept_as : (r : ReadingValue) → length unit ≤ 16393 → reading unit ≡ r → IsUnitKept (unit_left_by leaving sender unit r)
  kept_as (Sound (messages.Data flags resp num body)) short e = spelled_kept flags resp num _ (made_body flags resp num body e)
  kept_as (Sound (messages.Ack flags resp)) short e = record { short = short; bytes = fits }
  kept_as (Sound (messages.Nak flags reason resp)) short e = record { short = short; bytes = fits }
  kept_as (Sound (messages.Rep flags num)) short e = record { short = short; bytes = fits }
  kept_as (Sound (messages.Strt flags)) short e = record { short = short; bytes = fits }
  kept_as (Sound (messages.Stack flags)) short e = record { short = short; bytes = fits }
  kept_as HeaderBad short e = record { short = short; bytes = fits }
  kept_as DataBad short e = record { short = short; bytes = fits }
  kept_as (Malformed departure) short e = record { short = short; bytes = fits }

  pub unit_kept : length unit ≤ 16393 → IsUnitKept (unit_left leaving sender unit)
  unit_kept short = kept_as (reading unit) short refl

  -- a sound data message whose packet stays is as it was
  pub unit_stays : (flags : Flags) (resp num : ℕ) (body : List ℕ) → reading unit ≡ Sound (messages.Data flags resp num body) →
      packet_left leaving sender body ≡ body → unit ≡ unit_left leaving sender unit
  unit_stays flags resp num body e same =
      let m : MessageValue = messages.Data flags resp num body in
      spelled_once m unit ((by_rule unit (Sound m) fits).0 e)
      ∙ ap (λ (b : List ℕ). spelling (messages.Data flags resp num b)) (sym same)
      ∙ ap (unit_left_by leaving sender unit) (sym e)
