-- A message that is read is the message that was written.
use Rattle.std.proofs.Common.{◌≡◌, ℕ, Bool, true, false, cond, eqb, List, [], ◌∷◌, ◌++◌, Result, Ok, Err, refl, sym, ap, subst, ◌∙◌, inl, inr}
use Rattle.std.specs.Prelude.{IfOk}
use Rattle.std.proofs.lemmas.Bool.{eqb-true}
use Rattle.std.proofs.lemmas.List.{append-nil}
use Rattle.dna_packet.specs.declared.nsp.Nsp.{Nsp}
use Rattle.dna_packet.specs.declared.fault.NspFault.{NspFault}
use Rattle.dna_packet.specs.declared.fault.NspFault.TheVariants.{UnknownFlag, MissingField}
use Rattle.dna_packet.specs.Fields.{word, word_at, Gives}
use Rattle.dna_packet.specs.AckWord.{ack_bytes}
use Rattle.dna_packet.specs.Nsp.{view, SegmentValue, NspValue, DataSegment, LinkService, DataAck, OtherDataAck, ConnectAck, NoOperation}
use Rattle.dna_packet.specs.Nsp.{ConnectInitiate, ConnectConfirm, DisconnectInitiate, DisconnectConfirm, addresses, segment_flag, nsp_bytes, IsNsp}
use Rattle.dna_packet.specs.ReadingNsp.{addresses_at, no_more_at, acks_at, segnum_at, segment_at, link_service_at, other_data_ack_at, data_acks_at}
use Rattle.dna_packet.specs.ReadingNsp.{data_ack_at, connect_ack_at, connect_fields_at, zero_address_at, connect_initiate_at, connect_confirm_at}
use Rattle.dna_packet.specs.ReadingNsp.{disconnect_initiate_at, disconnect_confirm_at, message_at, nsp_at}
use Rattle.dna_packet.proofs.FieldsLemmas.{IsBytes, IsBytes-rest, bind_ok, chosen, Takes, word_takes}
use Rattle.dna_packet.proofs.NspFieldsLemmas.{made, addresses_take, connect_fields_take, no_more, segnum_takes, zero_address_takes}
use Rattle.dna_packet.proofs.AckWordLemmas.{acks_take, data_acks_take}

-- what holds of a message that was read from these bytes
abbrev Reads : List ℕ → NspValue → Type 0
Reads bytes m = IsNsp m × (bytes ≡ nsp_bytes m)

-- the parts one after the other
pub along : (a x b c : List ℕ) → Takes a x b → b ≡ c → a ≡ x ++ c
along a x b c p e = p.parts ∙ ap (λ (t : List ℕ). x ++ t) e

segment_takes : (begins ends : Bool) (bytes : List ℕ) (m : NspValue) → IsBytes bytes → segment_at begins ends bytes ≡ Ok m →
    Reads (segment_flag begins ends ∷ bytes) m
segment_takes begins ends bytes m fits e =
    let a = bind_ok (addresses_at bytes) _ m e in
    let b = bind_ok (acks_at 2 a.0.2) _ m a.2 in
    let c = bind_ok (segnum_at b.0.1) _ m b.2 in
    let links = addresses_take bytes a.0 fits a.1 in
    let acks = acks_take 2 a.0.2 b.0 links.0.rest_fits b.1 in
    let n = segnum_takes b.0.1 c.0 acks.0.rest_fits c.1 in
    let all = along bytes (addresses a.0.0 a.0.1) a.0.2 _ links.0 (along a.0.2 (ack_bytes b.0.0) b.0.1 _ acks.0 n.0.parts) in
    let segment : SegmentValue =
    record { begins = begins; ends = ends; dstaddr = a.0.0; srcaddr = a.0.1; acks = b.0.0; number = c.0.0; bit_12 = c.0.1; body = c.0.2 } in
    made (Reads (segment_flag begins ends ∷ bytes)) (DataSegment segment) m c.2
    (((acks.1, n.1), (links.1, acks.2)), ap (λ (t : List ℕ). segment_flag begins ends ∷ t) all)

link_service_takes : (interrupt : Bool) (flag : ℕ) (bytes : List ℕ) (m : NspValue) → IsBytes bytes → flag ≡ cond interrupt 0x30 0x10 →
    link_service_at interrupt bytes ≡ Ok m → Reads (flag ∷ bytes) m
link_service_takes interrupt flag bytes m fits flag_is e =
    let a = bind_ok (addresses_at bytes) _ m e in
    let links = addresses_take bytes a.0 fits a.1 in
    made (Reads (flag ∷ bytes)) (LinkService interrupt a.0.0 a.0.1 a.0.2) m a.2
    ((tt, links.1), rw flag_is (ap (λ (t : List ℕ). cond interrupt 0x30 0x10 ∷ t) links.0.parts))

other_data_ack_takes : (bytes : List ℕ) (m : NspValue) → IsBytes bytes → other_data_ack_at bytes ≡ Ok m → Reads (0x14 ∷ bytes) m
other_data_ack_takes bytes m fits e =
    let a = bind_ok (addresses_at bytes) _ m e in
    let links = addresses_take bytes a.0 fits a.1 in
    made (Reads (0x14 ∷ bytes)) (OtherDataAck a.0.0 a.0.1 a.0.2) m a.2 ((tt, links.1), ap (λ (t : List ℕ). 0x14 ∷ t) links.0.parts)

data_ack_takes : (bytes : List ℕ) (m : NspValue) → IsBytes bytes → data_ack_at bytes ≡ Ok m → Reads (0x04 ∷ bytes) m
data_ack_takes bytes m fits e =
    let a = bind_ok (addresses_at bytes) _ m e in
    let b = bind_ok (data_acks_at a.0.2) _ m a.2 in
    let c = bind_ok (no_more_at b.0.1) _ m b.2 in
    let links = addresses_take bytes a.0 fits a.1 in
    let acks = data_acks_take a.0.2 b.0 links.0.rest_fits b.1 in
    let whole : a.0.2 ≡ ack_bytes b.0.0 = acks.0.parts ∙ ap (λ (t : List ℕ). ack_bytes b.0.0 ++ t) (no_more b.0.1 c.0 c.1) ∙
    append-nil (ack_bytes b.0.0) in
    let all = along bytes (addresses a.0.0 a.0.1) a.0.2 _ links.0 whole in
    made (Reads (0x04 ∷ bytes)) (DataAck a.0.0 a.0.1 b.0.0) m c.2 (((acks.1, acks.2), (links.1, acks.3)), ap (λ (t : List ℕ). 0x04 ∷ t) all)

connect_ack_takes : (bytes : List ℕ) (m : NspValue) → IsBytes bytes → connect_ack_at bytes ≡ Ok m → Reads (0x24 ∷ bytes) m
connect_ack_takes bytes m fits e =
    let a = bind_ok (word_at MissingField bytes) _ m e in
    let b = bind_ok (no_more_at a.0.1) _ m a.2 in
    let dst = word_takes MissingField bytes a.0 fits a.1 in
    let all = along bytes (word a.0.0) a.0.1 _ dst.0 (no_more a.0.1 b.0 b.1) in
    made (Reads (0x24 ∷ bytes)) (ConnectAck a.0.0) m b.2 ((tt, dst.1), ap (λ (t : List ℕ). 0x24 ∷ t) all)

connect_initiate_takes : (retransmitted : Bool) (flag : ℕ) (bytes : List ℕ) (m : NspValue) → IsBytes bytes → flag ≡ cond retransmitted 0x68 0x18 →
    connect_initiate_at retransmitted bytes ≡ Ok m → Reads (flag ∷ bytes) m
connect_initiate_takes retransmitted flag bytes m fits flag_is e =
    let a = bind_ok (zero_address_at bytes) _ m e in
    let b = bind_ok (word_at MissingField a.0) _ m a.2 in
    let c = bind_ok (connect_fields_at b.0.1) _ m b.2 in
    let dst = zero_address_takes bytes a.0 fits a.1 in
    let src = word_takes MissingField a.0 b.0 dst.rest_fits b.1 in
    let fields = connect_fields_take b.0.1 c.0 src.0.rest_fits c.1 in
    let all = along bytes (word 0) a.0 _ dst (along a.0 (word b.0.0) b.0.1 _ src.0 fields.0.parts) in
    made (Reads (flag ∷ bytes)) (ConnectInitiate retransmitted b.0.0 c.0.0 c.0.1 c.0.2 c.0.3) m c.2
    ((tt, (src.1, fields.1)), rw flag_is (ap (λ (t : List ℕ). cond retransmitted 0x68 0x18 ∷ t) all))

connect_confirm_takes : (bytes : List ℕ) (m : NspValue) → IsBytes bytes → connect_confirm_at bytes ≡ Ok m → Reads (0x28 ∷ bytes) m
connect_confirm_takes bytes m fits e =
    let a = bind_ok (addresses_at bytes) _ m e in
    let b = bind_ok (connect_fields_at a.0.2) _ m a.2 in
    let links = addresses_take bytes a.0 fits a.1 in
    let fields = connect_fields_take a.0.2 b.0 links.0.rest_fits b.1 in
    let all = along bytes (addresses a.0.0 a.0.1) a.0.2 _ links.0 fields.0.parts in
    made (Reads (0x28 ∷ bytes)) (ConnectConfirm a.0.0 a.0.1 b.0.0 b.0.1 b.0.2 b.0.3) m b.2
    ((tt, (links.1, fields.1)), ap (λ (t : List ℕ). 0x28 ∷ t) all)

disconnect_initiate_takes : (bytes : List ℕ) (m : NspValue) → IsBytes bytes → disconnect_initiate_at bytes ≡ Ok m → Reads (0x38 ∷ bytes) m
disconnect_initiate_takes bytes m fits e =
    let a = bind_ok (addresses_at bytes) _ m e in
    let b = bind_ok (word_at MissingField a.0.2) _ m a.2 in
    let links = addresses_take bytes a.0 fits a.1 in
    let reason = word_takes MissingField a.0.2 b.0 links.0.rest_fits b.1 in
    let all = along bytes (addresses a.0.0 a.0.1) a.0.2 _ links.0 reason.0.parts in
    made (Reads (0x38 ∷ bytes)) (DisconnectInitiate a.0.0 a.0.1 b.0.0 b.0.1) m b.2 ((tt, (links.1, reason.1)), ap (λ (t : List ℕ). 0x38 ∷ t) all)

disconnect_confirm_takes : (bytes : List ℕ) (m : NspValue) → IsBytes bytes → disconnect_confirm_at bytes ≡ Ok m → Reads (0x48 ∷ bytes) m
disconnect_confirm_takes bytes m fits e =
    let a = bind_ok (addresses_at bytes) _ m e in
    let b = bind_ok (word_at MissingField a.0.2) _ m a.2 in
    let c = bind_ok (no_more_at b.0.1) _ m b.2 in
    let links = addresses_take bytes a.0 fits a.1 in
    let reason = word_takes MissingField a.0.2 b.0 links.0.rest_fits b.1 in
    let all = along bytes (addresses a.0.0 a.0.1) a.0.2 _ links.0 (along a.0.2 (word b.0.0) b.0.1 _ reason.0 (no_more b.0.1 c.0 c.1)) in
    made (Reads (0x48 ∷ bytes)) (DisconnectConfirm a.0.0 a.0.1 b.0.0) m c.2 ((tt, (links.1, reason.1)), ap (λ (t : List ℕ). 0x48 ∷ t) all)

-- one row of the table of flag bytes
row : (flag n : ℕ) (rest : List ℕ) (here there : Result NspValue NspFault) (m : NspValue)
    → (here ≡ Ok m → Reads (n ∷ rest) m) → (there ≡ Ok m → Reads (flag ∷ rest) m) → cond (eqb flag n) here there ≡ Ok m → Reads (flag ∷ rest) m
row flag n rest here there m this others e = elim (chosen (eqb flag n) here there (Ok m) e) [
  | inl is ↦ subst (λ (k : ℕ). Reads (k ∷ rest) m) (sym (eqb-true _ _ is.0)) (this is.1)
  | inr differs ↦ others differs.1
]

no_row : (m : NspValue) (P : Type 0) → (let read : Result NspValue NspFault = Err UnknownFlag in read ≡ Ok m) → P
no_row m P e = absurd cc

message_takes : (flag : ℕ) (rest : List ℕ) (m : NspValue) → IsBytes rest → message_at flag rest ≡ Ok m → Reads (flag ∷ rest) m
message_takes flag rest m fits =
    row flag 0x00 rest _ _ m (segment_takes false false rest m fits)
    (row flag 0x20 rest _ _ m (segment_takes true false rest m fits)
    (row flag 0x40 rest _ _ m (segment_takes false true rest m fits)
    (row flag 0x60 rest _ _ m (segment_takes true true rest m fits)
    (row flag 0x10 rest _ _ m (link_service_takes false 0x10 rest m fits refl)
    (row flag 0x30 rest _ _ m (link_service_takes true 0x30 rest m fits refl)
    (row flag 0x04 rest _ _ m (data_ack_takes rest m fits)
    (row flag 0x14 rest _ _ m (other_data_ack_takes rest m fits)
    (row flag 0x24 rest _ _ m (connect_ack_takes rest m fits)
    (row flag 0x08 rest _ _ m (λ e. made (Reads (0x08 ∷ rest)) (NoOperation rest) m e ((tt, tt), refl))
    (row flag 0x18 rest _ _ m (connect_initiate_takes false 0x18 rest m fits refl)
    (row flag 0x68 rest _ _ m (connect_initiate_takes true 0x68 rest m fits refl)
    (row flag 0x28 rest _ _ m (connect_confirm_takes rest m fits)
    (row flag 0x38 rest _ _ m (disconnect_initiate_takes rest m fits)
    (row flag 0x48 rest _ _ m (disconnect_confirm_takes rest m fits)
    (no_row m (Reads (flag ∷ rest) m))))))))))))))))

pub nsp_takes : (bytes : List ℕ) (m : NspValue) → IsBytes bytes → nsp_at bytes ≡ Ok m → Reads bytes m
nsp_takes [] m fits e = absurd cc
nsp_takes (flag ∷ rest) m fits e = message_takes flag rest m (IsBytes-rest flag rest fits) e

pub is_found : (bytes : List ℕ) (r : Result Nsp NspFault) → IsBytes bytes → Gives view r (nsp_at bytes) →
    IfOk r (λ m. IsNsp (view m) × (bytes ≡ nsp_bytes (view m)))
is_found bytes (Ok m) fits given = nsp_takes bytes (view m) fits given
is_found bytes (Err e) fits given = tt
