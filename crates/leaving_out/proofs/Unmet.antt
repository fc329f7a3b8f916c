-- What no link meets of a message that is left out.
use Rattle.std.proofs.Common.{◌≡◌, ◌≢◌, ℕ, suc, ◌-◌, ◌%◌, ◌<◌, ◌^◌, Bool, true, false, cond, not, ◌&&◌, eqb, leb, List, [], ◌∷◌, Option, Some, None}
use Rattle.std.proofs.Common.{Result, Ok, Err, refl, sym, ap, subst, ◌∙◌, arith}
use Rattle.std.specs.Option.{IfSome}
use Rattle.std.proofs.lemmas.Bool.{eq-eqb, lt-leb}
use Rattle.wire_base.specs.declared.side.Side.{Side}
use Rattle.ddcmp_msg.specs.Message.{IsBytes}
use Rattle.dna_packet.specs.declared.fault.PacketFault.{PacketFault}
use Rattle.dna_packet.specs.declared.fault.NspFault.{NspFault}
use Rattle.dna_packet.specs.Packet.{IsPacket, PacketValue, Data, Control, packet_bytes}
use Rattle.dna_packet.specs.ReadingPacket.{packet_at}
use Rattle.dna_packet.specs.Nsp.{IsNsp, NspValue, DataSegment, LinkService, DataAck, OtherDataAck, ConnectAck, NoOperation, ConnectInitiate}
use Rattle.dna_packet.specs.Nsp.{ConnectConfirm}
use Rattle.dna_packet.specs.Nsp.{DisconnectInitiate, DisconnectConfirm, nsp_bytes}
use Rattle.dna_packet.specs.ReadingNsp.{nsp_at}
use Rattle.dna_packet.proofs.NspAgain.{nsp_again}
use Rattle.dna_packet.proofs.NspTakes.{nsp_takes}
use Rattle.dna_packet.proofs.PacketLemmas.{packet_again, packet_takes}
use Rattle.leaving_out.specs.declared.leaving.Head.{Head}
use Rattle.leaving_out.specs.declared.leaving.Leaving.{Leaving}
use Rattle.leaving_out.specs.declared.packet_left.Route.{Route}
use Rattle.leaving_out.specs.Addresses.{at_receiver, at_sender, head_of, is_left}
use Rattle.leaving_out.specs.Messages.{destination_of, if_read, is_returned, message_in_packet, message_of, source_of}
use Rattle.leaving_out.specs.Packets.{BeginsShort, NamesBothLinks, link_left, message_left, names_both}
use Rattle.leaving_out.specs.Packets.{packet_left, packet_left_by, packet_with, route_of, unmet}

-- the packet of a message that no link meets is a routing control packet
unmet_control : (first : ℕ) (rest : List ℕ) → first < 128 → first % 8 ≡ 2 → packet_at (unmet (first ∷ rest)) ≡ Ok (Control (unmet (first ∷ rest)))
unmet_control first rest small short =
    let byte = 129 - first in
    let low : leb 128 byte ≡ false = lt-leb _ _ (omega arith) in
    let odd : eqb (byte % 2) 1 ≡ true = eq-eqb _ _ (omega arith) in
    rw (low, odd) refl

-- what is found in a packet
abbrev Unmet : List ℕ → Type 0
Unmet packet = IfSome (message_in_packet packet) NamesBothLinks

none_in : (first : ℕ) (rest : List ℕ) → first < 128 → first % 8 ≡ 2 → Unmet (unmet (first ∷ rest))
none_in first rest small short =
    subst (λ (r : Result PacketValue PacketFault). IfSome (message_of r) NamesBothLinks) (sym (unmet_control first rest small short)) tt

-- so of one with this RTFLG
none_of : (packet : List ℕ) (rtflg dst src forward : ℕ) (nsp : List ℕ) → (rtflg < 128) × (rtflg % 8 ≡ 2) →
    packet ≡ packet_bytes (Data rtflg dst src forward nsp) → Unmet (unmet packet)
none_of packet rtflg dst src forward nsp short is = subst (λ (p : List ℕ). Unmet (unmet p)) (sym is) (none_in rtflg _ short.0 short.1)

both : (p q : Bool) → (p && q) ≡ true → (p ≡ true) × (q ≡ true)
both true q e = (refl, e)
both false q e = absurd cc

not_zero : (n : ℕ) → not (eqb n 0) ≡ true → n ≢ 0
not_zero n e z = absurd (let same : eqb n 0 ≡ true = eq-eqb n 0 z in let other : not true ≡ true = ap not (sym same) ∙ e in cc)

named : (head : Head) (route : Route) (dst src : ℕ) → names_both head route dst src ≡ true → (dst ≢ 0) × (src ≢ 0)
named head route dst src e =
    let nodes = eqb route.src head.own && eqb route.dst head.peer in
    let all = both (nodes && not (eqb dst 0)) (not (eqb src 0)) e in
    let three = both nodes (not (eqb dst 0)) all.0 in
    (not_zero dst three.1, not_zero src all.1)

found_unmet : (packet : List ℕ) (dst src reason : ℕ) → message_in_packet packet ≡ Some (DisconnectConfirm dst src reason) → (dst ≢ 0) × (src ≢ 0) →
    Unmet packet
found_unmet packet dst src reason e some = subst (λ (o : Option NspValue). IfSome o NamesBothLinks) (sym e) (dst, src, reason, refl, some.0, some.1)

-- the packet that is made of a DC is read as one
confirm_found : (rtflg dst src forward : ℕ) (m : NspValue) → IsPacket (Data rtflg dst src forward (nsp_bytes m)) → IsNsp m →
    is_returned rtflg ≡ false → message_in_packet (packet_with (route_of rtflg dst src forward) m) ≡ Some m
confirm_found rtflg dst src forward m packet_fits nsp_fits there =
    ap message_of (packet_again (Data rtflg dst src forward (nsp_bytes m)) packet_fits)
    ∙ ap (λ (b : Bool). cond b None (if_read (nsp_at (nsp_bytes m)))) there ∙ ap if_read (nsp_again m nsp_fits)

if_unmet : (b : Bool) (x y : List ℕ) → (b ≡ true → Unmet x) → (b ≡ false → Unmet y) → Unmet (cond b x y)
if_unmet true x y one other = one refl
if_unmet false x y one other = other refl

module _ (head : Head) (packet : List ℕ) (rtflg dst src forward : ℕ) (none : Unmet (unmet packet)) where
  abbrev route : Route
  route = route_of rtflg dst src forward

  link_unmet : (m : NspValue) → (rtflg < 128) × (rtflg % 8 ≡ 2) → (dst < 2 ^ 16) × (src < 2 ^ 16) × (forward < 2 ^ 8) → IsNsp m →
      is_returned rtflg ≡ false → message_in_packet packet ≡ Some m → Unmet (link_left head route packet m)
  link_unmet (DisconnectInitiate link_dst link_src reason user_data) short fields fits there e =
      if_unmet (names_both head route link_dst link_src) (packet_with route (DisconnectConfirm link_dst link_src reason)) (unmet packet)
      (λ test. found_unmet (packet_with route (DisconnectConfirm link_dst link_src reason)) link_dst link_src reason
      (confirm_found rtflg dst src forward (DisconnectConfirm link_dst link_src reason) (short, fields) (tt, fits.1) there)
      (named head route link_dst link_src test)) (λ test. none)
  link_unmet (DisconnectConfirm link_dst link_src reason) short fields fits there e =
      if_unmet (names_both head route link_dst link_src) packet (unmet packet)
      (λ test. found_unmet packet link_dst link_src reason e (named head route link_dst link_src test)) (λ test. none)
  link_unmet (DataSegment s) short fields fits there e = none
  link_unmet (LinkService interrupt link_dst link_src rest) short fields fits there e = none
  link_unmet (DataAck link_dst link_src acks) short fields fits there e = none
  link_unmet (OtherDataAck link_dst link_src rest) short fields fits there e = none
  link_unmet (ConnectAck link_dst) short fields fits there e = none
  link_unmet (NoOperation rest) short fields fits there e = none
  link_unmet (ConnectInitiate retransmitted link_src services info segsize user_data) short fields fits there e = none
  link_unmet (ConnectConfirm link_dst link_src services info segsize user_data) short fields fits there e = none

module _ (leaving : Leaving) (sender : Side) (packet : List ℕ) (m : NspValue) (fits : IsBytes packet)
    (left : is_left leaving (at_sender sender (source_of m) (destination_of m)) ≡ true) where
  -- its message is left out
  read_unmet : (rtflg dst src forward : ℕ) (nsp : List ℕ) (r : Result NspValue NspFault) → Unmet (unmet packet) →
      IsPacket (Data rtflg dst src forward nsp) → IsBytes nsp → is_returned rtflg ≡ false → message_in_packet packet ≡ Some m
      → nsp_at nsp ≡ r → if_read r ≡ Some m → Unmet (message_left leaving sender (route_of rtflg dst src forward) packet r)
  read_unmet rtflg dst src forward nsp (Err fault) none is nsp_fits there found e some = absurd cc
  read_unmet rtflg dst src forward nsp (Ok n) none is nsp_fits there found e some =
      let same : n ≡ m = cc in
      let of_m : nsp_at nsp ≡ Ok m = e ∙ ap (λ (x : NspValue). Ok x) same in
      let link = link_left (head_of leaving sender) (route_of rtflg dst src forward) packet m in
      let one = link_unmet (head_of leaving sender) packet rtflg dst src forward none m is.0 is.1 (nsp_takes nsp m nsp_fits of_m).0 there found in
      let there_too = is_left leaving (at_receiver sender (source_of m) (destination_of m)) in
      let all : Unmet (cond there_too (unmet packet) link) = if_unmet there_too (unmet packet) link (λ t. none) (λ t. one) in
      subst (λ (x : NspValue). Unmet (message_left leaving sender (route_of rtflg dst src forward) packet (Ok x))) (sym same)
      (subst (λ (b : Bool). Unmet (cond b (cond there_too (unmet packet) link) packet)) (sym left) all)

  unmet_by : (r : Result PacketValue PacketFault) → packet_at packet ≡ r → message_of r ≡ Some m → Unmet (packet_left_by leaving sender packet r)
  unmet_by (Err fault) e some = absurd cc
  unmet_by (Ok (Control bytes)) e some = absurd cc
  unmet_by (Ok (Data rtflg dst src forward nsp)) e some = by_test (is_returned rtflg) refl some
    where
      by_test : (b : Bool) → is_returned rtflg ≡ b → cond b None (if_read (nsp_at nsp)) ≡ Some m →
          Unmet (cond b packet (message_left leaving sender (route_of rtflg dst src forward) packet (nsp_at nsp)))
      by_test true back found = absurd cc
      by_test false there found =
          let is = packet_takes packet (Data rtflg dst src forward nsp) fits e in
          let all : IsBytes (packet_bytes (Data rtflg dst src forward nsp)) = subst IsBytes is.1 fits in
          read_unmet rtflg dst src forward nsp (nsp_at nsp) (none_of packet rtflg dst src forward nsp is.0.0 is.1)
          is.0 (λ j. all (suc (suc (suc (suc (suc (suc j))))))) there (ap message_of e ∙ some) refl
          found

pub meets_none : (leaving : Leaving) (sender : Side) (packet : List ℕ) (m : NspValue) → IsBytes packet → message_in_packet packet ≡ Some m →
    is_left leaving (at_sender sender (source_of m) (destination_of m)) ≡ true →
    IfSome (message_in_packet (packet_left leaving sender packet)) NamesBothLinks
meets_none leaving sender packet m fits e left = unmet_by leaving sender packet m fits left (packet_at packet) refl e

-- ---- no two become one

pub apart : (one other : List ℕ) → BeginsShort one → BeginsShort other → unmet one ≡ unmet other → one ≡ other
apart [] other short too e = absurd short
apart (a ∷ one) [] short too e = absurd too
apart (a ∷ one) (b ∷ other) short too e =
    let firsts : 129 - a ≡ 129 - b = cc in
    let rests : one ≡ other = cc in
    let same : a ≡ b = omega (arith, short.0, too.0, firsts) in
    cc
