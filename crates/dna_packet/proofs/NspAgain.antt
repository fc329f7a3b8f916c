-- What was written is read again.
use Rattle.std.proofs.Common.{◌≡◌, ℕ, ◌^◌, ◌<◌, Bool, true, false, List, ◌++◌, Result, Ok, Err, refl, sym, ap, ◌∙◌}
use Rattle.std.specs.Prelude.{IfOk}
use Rattle.std.specs.Global.{Vec}
use Rattle.dna_packet.specs.declared.fault.NspFault.{NspFault}
use Rattle.dna_packet.specs.Fields.{word}
use Rattle.dna_packet.specs.AckWord.{ack_bytes}
use Rattle.dna_packet.specs.Nsp.{SegmentValue, NspValue, DataSegment, LinkService, DataAck, OtherDataAck, ConnectAck, NoOperation, ConnectInitiate}
use Rattle.dna_packet.specs.Nsp.{ConnectConfirm, DisconnectInitiate, DisconnectConfirm, addresses, connect_fields, segment_flag, segnum, nsp_bytes}
use Rattle.dna_packet.specs.Nsp.{AreConnectFields, IsInRange, IsNsp, Spells}
use Rattle.dna_packet.specs.ReadingNsp.{segment_at, connect_initiate_at, message_at, nsp_at}
use Rattle.dna_packet.proofs.FieldsLemmas.{ok_is, word_fits}
use Rattle.dna_packet.proofs.NspFieldsLemmas.{segnum_again, segnum_ends}
use Rattle.dna_packet.proofs.AckWordLemmas.{acks_again, data_acks_again}

segment_row : (begins ends : Bool) (rest : List ℕ) → message_at (segment_flag begins ends) rest ≡ segment_at begins ends rest
segment_row false false rest = refl
segment_row true false rest = refl
segment_row false true rest = refl
segment_row true true rest = refl

segment_again : (s : SegmentValue) → IsNsp (DataSegment s) →
    segment_at s.begins s.ends (addresses s.dstaddr s.srcaddr ++ (ack_bytes s.acks ++ (word (segnum s.number s.bit_12) ++ s.body))) ≡ Ok
    (DataSegment s)
segment_again s fits =
    let dst = word_fits s.dstaddr fits.1.0.0 in
    let src = word_fits s.srcaddr fits.1.0.1 in
    let acks = acks_again 2 s.acks (word (segnum s.number s.bit_12) ++ s.body) fits.0.0 fits.1.1 (segnum_ends s.number s.bit_12 s.body fits.0.1) in
    let n = segnum_again s.number s.bit_12 s.body fits.0.1 in
    rw (dst, src, acks) (rw n refl)

initiate_again : (retransmitted : Bool) (src services info segsize : ℕ) (user_data : List ℕ) → src < 2 ^ 16 → AreConnectFields services info segsize
    → connect_initiate_at retransmitted (addresses 0 src ++ (connect_fields services info segsize ++ user_data)) ≡ Ok
    (ConnectInitiate retransmitted src services info segsize user_data)
initiate_again retransmitted src services info segsize user_data fits fields = rw (word_fits src fits, word_fits segsize fields.2) refl

pub nsp_again : (m : NspValue) → IsNsp m → nsp_at (nsp_bytes m) ≡ Ok m
nsp_again (DataSegment s) fits =
    segment_row s.begins s.ends (addresses s.dstaddr s.srcaddr ++ (ack_bytes s.acks ++ (word (segnum s.number s.bit_12) ++ s.body))) ∙
    segment_again s fits
nsp_again (LinkService true dst src rest) fits = rw (word_fits dst fits.1.0, word_fits src fits.1.1) refl
nsp_again (LinkService false dst src rest) fits = rw (word_fits dst fits.1.0, word_fits src fits.1.1) refl
nsp_again (DataAck dst src acks) fits =
    let words = data_acks_again acks fits.0.0 fits.0.1 fits.1.1 in
    rw (word_fits dst fits.1.0.0, word_fits src fits.1.0.1, words) refl
nsp_again (OtherDataAck dst src rest) fits = rw (word_fits dst fits.1.0, word_fits src fits.1.1) refl
nsp_again (ConnectAck dst) fits = rw (word_fits dst fits.1) refl
nsp_again (NoOperation rest) fits = refl
nsp_again (ConnectInitiate true src services info segsize user_data) fits = initiate_again true src services info segsize user_data fits.1.0 fits.1.1
nsp_again (ConnectInitiate false src services info segsize user_data) fits =
    initiate_again false src services info segsize user_data fits.1.0 fits.1.1
nsp_again (ConnectConfirm dst src services info segsize user_data) fits =
    rw (word_fits dst fits.1.0.0, word_fits src fits.1.0.1, word_fits segsize fits.1.1.2) refl
nsp_again (DisconnectInitiate dst src reason user_data) fits = rw (word_fits dst fits.1.0.0, word_fits src fits.1.0.1, word_fits reason fits.1.1) refl
nsp_again (DisconnectConfirm dst src reason) fits = rw (word_fits dst fits.1.0.0, word_fits src fits.1.0.1, word_fits reason fits.1.1) refl

-- what was written of a message is read back as that message
pub reads_back : {E : Type 0} (m : NspValue) (written : Result (Vec ℕ) E) → IsInRange m → IfOk written (Spells m) →
    IfOk written (λ v. nsp_at v.items ≡ Ok m)
reads_back m (Ok v) range spelled = ap nsp_at spelled.0 ∙ nsp_again m (range, spelled.1)
reads_back m (Err e) range spelled = tt

-- a row of bytes is that of one message
pub nsp_unique : (m n : NspValue) → IsNsp m → IsNsp n → nsp_bytes m ≡ nsp_bytes n → m ≡ n
nsp_unique m n fits fits' same = ok_is {Z = NspFault} m n (sym (nsp_again m fits) ∙ ap nsp_at same ∙ nsp_again n fits')
