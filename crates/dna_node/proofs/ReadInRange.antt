-- What is read of a packet's bytes, whatever they are, has numbers of 12 bits; so they are in range.
use Rattle.std.proofs.Common.{◌≡◌, ℕ, zero, suc, ◌/◌, ◌%◌, ◌<◌, ◌≤◌, Bool, true, false, cond, eqb, ltb, leb, Option, Some, None, Result, Ok, Err}
use Rattle.std.proofs.Common.{List, [], ◌∷◌, length, refl, subst, arith, inl, inr}
use Rattle.std.specs.Prelude.{ok_or}
use Rattle.std.specs.List.{AllByRecursion}
use Rattle.std.specs.Option.{option_map}
use Rattle.dna_packet.specs.declared.ack_word.AckQualifier.{AckQualifier}
use Rattle.dna_packet.specs.declared.ack_word.AckWord.{AckWord}
use Rattle.dna_packet.specs.declared.fault.NspFault.{NspFault}
use Rattle.dna_packet.specs.declared.fault.NspFault.TheVariants.{UnknownFlag, MissingField, BadAckWord, BadSegnum}
use Rattle.dna_packet.specs.declared.fault.PacketFault.{PacketFault}
use Rattle.dna_packet.specs.Fields.{◌>>=◌, word_at}
use Rattle.dna_packet.specs.AckWord.{IsAckWord, qualifier_of}
use Rattle.dna_packet.specs.Packet.{PacketValue, Data, Control}
use Rattle.dna_packet.specs.Nsp.{NspValue, DataSegment, LinkService, DataAck, OtherDataAck, ConnectAck, NoOperation, ConnectInitiate, ConnectConfirm}
use Rattle.dna_packet.specs.Nsp.{DisconnectInitiate, DisconnectConfirm, IsInRange}
use Rattle.dna_packet.specs.ReadingPacket.{packet_at}
use Rattle.dna_packet.specs.ReadingNsp.{no_more_at, addresses_at, ack_at, is_ack_next, acks_at, segnum_at, segment_at, link_service_at, second_ack_at}
use Rattle.dna_packet.specs.ReadingNsp.{data_acks_at, data_ack_at, other_data_ack_at, connect_ack_at, connect_fields_at, zero_address_at}
use Rattle.dna_packet.specs.ReadingNsp.{connect_initiate_at, connect_confirm_at, disconnect_initiate_at, disconnect_confirm_at, message_at, nsp_at}
use Rattle.dna_packet.proofs.FieldsLemmas.{bind_ok, chosen}
use Rattle.dna_packet.proofs.NspFieldsLemmas.{made}
use Rattle.dna_links.specs.Links.{Carried}
use Rattle.dna_node.specs.Content.{is_returned, message_in, content_of, content}

-- ---- acknowledgement words and SEGNUM

word_small : (n : ℕ) (o : Option AckQualifier) (ack : AckWord) →
    ok_or (option_map (λ (qualifier : AckQualifier). record { qualifier = qualifier; number = n % 0x1000 }) o) BadAckWord ≡ Ok ack → IsAckWord ack
word_small n None ack e = absurd cc
word_small n (Some qualifier) ack e = made IsAckWord (record { qualifier = qualifier; number = n % 0x1000 }) ack e (omega arith)

ack_small : (bytes : List ℕ) (x : AckWord × List ℕ) → ack_at bytes ≡ Ok x → IsAckWord x.0
ack_small bytes x e =
    let a = bind_ok (word_at MissingField bytes) _ x e in
    let b = bind_ok (ok_or
    (option_map (λ (qualifier : AckQualifier). record { qualifier = qualifier; number = a.0.0 % 0x1000 }) (qualifier_of (a.0.0 / 0x1000)))
    BadAckWord) _ x a.2 in
    made (λ (y : AckWord × List ℕ). IsAckWord y.0) (b.0, a.0.1) x b.2 (word_small a.0.0 (qualifier_of (a.0.0 / 0x1000)) b.0 b.1)

acks_small : (room : ℕ) (bytes : List ℕ) (x : List AckWord × List ℕ) → acks_at room bytes ≡ Ok x → AllByRecursion IsAckWord x.0
acks_small zero bytes x e = made (λ (y : List AckWord × List ℕ). AllByRecursion IsAckWord y.0) ([], bytes) x e tt
acks_small (suc room) bytes x e = elim (chosen (is_ack_next bytes) _ _ (Ok x) e) [
  | inl is ↦
      let a = bind_ok (ack_at bytes) (λ first. acks_at room first.1 >>= λ others. Ok (first.0 ∷ others.0, others.1)) x is.1 in
      let b = bind_ok (acks_at room a.0.1) (λ others. Ok (a.0.0 ∷ others.0, others.1)) x a.2 in
      made (λ (y : List AckWord × List ℕ). AllByRecursion IsAckWord y.0) (a.0.0 ∷ b.0.0, b.0.1) x b.2
      (ack_small bytes a.0 a.1, acks_small room a.0.1 b.0 b.1)
  | inr none ↦ made (λ (y : List AckWord × List ℕ). AllByRecursion IsAckWord y.0) ([], bytes) x none.1 tt
]

abbrev AreSome : List AckWord × List ℕ → Type 0
AreSome x = AllByRecursion IsAckWord x.0 × (1 ≤ length x.0)

second_small : (first : AckWord) (bytes : List ℕ) (x : List AckWord × List ℕ) → IsAckWord first → second_ack_at first bytes ≡ Ok x → AreSome x
second_small first [] x one e = made AreSome (first ∷ [], []) x e ((one, tt), omega arith)
second_small first (byte ∷ rest) x one e =
    let b = bind_ok (ack_at (byte ∷ rest)) (λ second. Ok (first ∷ second.0 ∷ [], second.1)) x e in
    made AreSome (first ∷ b.0.0 ∷ [], b.0.1) x b.2 ((one, (ack_small (byte ∷ rest) b.0 b.1, tt)), omega arith)

data_acks_small : (bytes : List ℕ) (x : List AckWord × List ℕ) → data_acks_at bytes ≡ Ok x → AreSome x
data_acks_small bytes x e =
    let a = bind_ok (ack_at bytes) (λ first. second_ack_at first.0 first.1) x e in
    second_small a.0.0 a.0.1 x (ack_small bytes a.0 a.1) a.2

segnum_small : (bytes : List ℕ) (x : ℕ × Bool × List ℕ) → segnum_at bytes ≡ Ok x → x.0 < 0x1000
segnum_small bytes x e =
    let a = bind_ok (word_at MissingField bytes) _ x e in
    elim (chosen (ltb a.0.0 0x2000) _ _ (Ok x) a.2) [
      | inl is ↦ made (λ (y : ℕ × Bool × List ℕ). y.0 < 0x1000) (a.0.0 % 0x1000, leb 0x1000 a.0.0, a.0.1) x is.1 (omega arith)
      | inr differs ↦ absurd (let bad : Err BadSegnum ≡ Ok x = differs.1 in cc)
    ]

-- ---- the messages with numbers

segment_in_range : (begins ends : Bool) (bytes : List ℕ) (m : NspValue) → segment_at begins ends bytes ≡ Ok m → IsInRange m
segment_in_range begins ends bytes m e =
    let a = bind_ok (addresses_at bytes) _ m e in
    let b = bind_ok (acks_at 2 a.0.2) _ m a.2 in
    let c = bind_ok (segnum_at b.0.1) _ m b.2 in
    made IsInRange (DataSegment
    (record { begins = begins; ends = ends; dstaddr = a.0.0; srcaddr = a.0.1; acks = b.0.0; number = c.0.0; bit_12 = c.0.1; body = c.0.2 })) m c.2
    (acks_small 2 a.0.2 b.0 b.1, segnum_small b.0.1 c.0 c.1)

data_ack_in_range : (bytes : List ℕ) (m : NspValue) → data_ack_at bytes ≡ Ok m → IsInRange m
data_ack_in_range bytes m e =
    let a = bind_ok (addresses_at bytes) _ m e in
    let b = bind_ok (data_acks_at a.0.2) _ m a.2 in
    let c = bind_ok (no_more_at b.0.1) _ m b.2 in
    made IsInRange (DataAck a.0.0 a.0.1 b.0.0) m c.2 (data_acks_small a.0.2 b.0 b.1)

-- ---- the others

link_service_in_range : (interrupt : Bool) (bytes : List ℕ) (m : NspValue) → link_service_at interrupt bytes ≡ Ok m → IsInRange m
link_service_in_range interrupt bytes m e = let a = bind_ok (addresses_at bytes) _ m e in
    made IsInRange (LinkService interrupt a.0.0 a.0.1 a.0.2) m a.2 tt

other_data_ack_in_range : (bytes : List ℕ) (m : NspValue) → other_data_ack_at bytes ≡ Ok m → IsInRange m
other_data_ack_in_range bytes m e = let a = bind_ok (addresses_at bytes) _ m e in made IsInRange (OtherDataAck a.0.0 a.0.1 a.0.2) m a.2 tt

connect_ack_in_range : (bytes : List ℕ) (m : NspValue) → connect_ack_at bytes ≡ Ok m → IsInRange m
connect_ack_in_range bytes m e =
    let a = bind_ok (word_at MissingField bytes) _ m e in
    let b = bind_ok (no_more_at a.0.1) _ m a.2 in
    made IsInRange (ConnectAck a.0.0) m b.2 tt

connect_initiate_in_range : (retransmitted : Bool) (bytes : List ℕ) (m : NspValue) → connect_initiate_at retransmitted bytes ≡ Ok m → IsInRange m
connect_initiate_in_range retransmitted bytes m e =
    let a = bind_ok (zero_address_at bytes) _ m e in
    let b = bind_ok (word_at MissingField a.0) _ m a.2 in
    let c = bind_ok (connect_fields_at b.0.1) _ m b.2 in
    made IsInRange (ConnectInitiate retransmitted b.0.0 c.0.0 c.0.1 c.0.2 c.0.3) m c.2 tt

connect_confirm_in_range : (bytes : List ℕ) (m : NspValue) → connect_confirm_at bytes ≡ Ok m → IsInRange m
connect_confirm_in_range bytes m e =
    let a = bind_ok (addresses_at bytes) _ m e in
    let b = bind_ok (connect_fields_at a.0.2) _ m a.2 in
    made IsInRange (ConnectConfirm a.0.0 a.0.1 b.0.0 b.0.1 b.0.2 b.0.3) m b.2 tt

disconnect_initiate_in_range : (bytes : List ℕ) (m : NspValue) → disconnect_initiate_at bytes ≡ Ok m → IsInRange m
disconnect_initiate_in_range bytes m e =
    let a = bind_ok (addresses_at bytes) _ m e in
    let b = bind_ok (word_at MissingField a.0.2) _ m a.2 in
    made IsInRange (DisconnectInitiate a.0.0 a.0.1 b.0.0 b.0.1) m b.2 tt

disconnect_confirm_in_range : (bytes : List ℕ) (m : NspValue) → disconnect_confirm_at bytes ≡ Ok m → IsInRange m
disconnect_confirm_in_range bytes m e =
    let a = bind_ok (addresses_at bytes) _ m e in
    let b = bind_ok (word_at MissingField a.0.2) _ m a.2 in
    let c = bind_ok (no_more_at b.0.1) _ m b.2 in
    made IsInRange (DisconnectConfirm a.0.0 a.0.1 b.0.0) m c.2 tt

-- ---- any message

-- one row of the table of flag bytes
row : (b : Bool) (here others : Result NspValue NspFault) (m : NspValue) →
    (here ≡ Ok m → IsInRange m) → (others ≡ Ok m → IsInRange m) → cond b here others ≡ Ok m → IsInRange m
row true here others m this next e = this e
row false here others m this next e = next e

no_row : (m : NspValue) → (let read : Result NspValue NspFault = Err UnknownFlag in read ≡ Ok m) → IsInRange m
no_row m e = absurd cc

message_in_range : (flag : ℕ) (rest : List ℕ) (m : NspValue) → message_at flag rest ≡ Ok m → IsInRange m
message_in_range flag rest m =
    row (eqb flag 0x00) _ _ m (segment_in_range false false rest m)
    (row (eqb flag 0x20) _ _ m (segment_in_range true false rest m)
    (row (eqb flag 0x40) _ _ m (segment_in_range false true rest m)
    (row (eqb flag 0x60) _ _ m (segment_in_range true true rest m)
    (row (eqb flag 0x10) _ _ m (link_service_in_range false rest m)
    (row (eqb flag 0x30) _ _ m (link_service_in_range true rest m)
    (row (eqb flag 0x04) _ _ m (data_ack_in_range rest m)
    (row (eqb flag 0x14) _ _ m (other_data_ack_in_range rest m)
    (row (eqb flag 0x24) _ _ m (connect_ack_in_range rest m)
    (row (eqb flag 0x08) _ _ m (λ e. made IsInRange (NoOperation rest) m e tt)
    (row (eqb flag 0x18) _ _ m (connect_initiate_in_range false rest m)
    (row (eqb flag 0x68) _ _ m (connect_initiate_in_range true rest m)
    (row (eqb flag 0x28) _ _ m (connect_confirm_in_range rest m)
    (row (eqb flag 0x38) _ _ m (disconnect_initiate_in_range rest m)
    (row (eqb flag 0x48) _ _ m (disconnect_confirm_in_range rest m)
    (no_row m)))))))))))))))

nsp_in_range : (bytes : List ℕ) (m : NspValue) → nsp_at bytes ≡ Ok m → IsInRange m
nsp_in_range [] m e = absurd cc
nsp_in_range (flag ∷ rest) m e = message_in_range flag rest m e

-- ---- what a packet carries

carried_in_range : (dst src : ℕ) (bytes : List ℕ) (r : Result NspValue NspFault) (packet : Carried) →
    nsp_at bytes ≡ r → message_in dst src r ≡ Ok (Some packet) → IsInRange packet.message
carried_in_range dst src bytes (Ok m) packet read e =
    let same : Ok (Some (record { dst = dst; src = src; message = m })) ≡ Ok (Some packet) = e in
    subst IsInRange (cc same) (nsp_in_range bytes m read)
carried_in_range dst src bytes (Err fault) packet read e = absurd cc

content_small : (r : Result PacketValue PacketFault) (packet : Carried) → content_of r ≡ Ok (Some packet) → IsInRange packet.message
content_small (Ok (Data rtflg dst src forward nsp)) packet e = go (is_returned rtflg) e
  where
    go : (b : Bool) → cond b (Ok None) (message_in dst src (nsp_at nsp)) ≡ Ok (Some packet) → IsInRange packet.message
    go true e = absurd cc
    go false e = carried_in_range dst src nsp (nsp_at nsp) packet refl e
content_small (Ok (Control bytes)) packet e = absurd cc
content_small (Err fault) packet e = absurd cc

pub content_in_range : (bytes : List ℕ) (packet : Carried) → content bytes ≡ Ok (Some packet) → IsInRange packet.message
content_in_range bytes packet e = content_small (packet_at bytes) packet e
