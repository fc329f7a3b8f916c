-- A fault other than a missing field is decided where it is found: no bytes that follow change it.
use Rattle.std.proofs.Common.{◌≡◌, ℕ, zero, suc, ◌+◌, ◌*◌, ◌%◌, Bool, true, false, cond, eqb, leb, ltb, List, [], ◌∷◌, ◌++◌, Result, Ok, Err, refl}
use Rattle.std.proofs.Common.{sym, ◌∙◌}
use Rattle.std.specs.Prelude.{◌≢◌, ok_or}
use Rattle.dna_packet.specs.declared.ack_word.AckWord.{AckWord}
use Rattle.dna_packet.specs.declared.fault.NspFault.{NspFault}
use Rattle.dna_packet.specs.declared.fault.NspFault.TheVariants.{MissingField, BadAckWord, BadSegnum, NonzeroDstaddr}
use Rattle.dna_packet.specs.Fields.{◌>>=◌, word_at}
use Rattle.dna_packet.specs.AckWord.{ack_of}
use Rattle.dna_packet.specs.Nsp.{NspValue, DataSegment, LinkService, DataAck, OtherDataAck, ConnectAck, NoOperation, ConnectInitiate, ConnectConfirm}
use Rattle.dna_packet.specs.Nsp.{DisconnectInitiate, DisconnectConfirm}
use Rattle.dna_packet.specs.ReadingNsp.{addresses_at, no_more_at, acks_at, segnum_at, segment_at, link_service_at, other_data_ack_at, second_ack_at}
use Rattle.dna_packet.specs.ReadingNsp.{data_acks_at, data_ack_at, connect_ack_at, connect_fields_at, connect_initiate_at, connect_confirm_at}
use Rattle.dna_packet.specs.ReadingNsp.{disconnect_initiate_at, disconnect_confirm_at, message_at, nsp_at}
use Rattle.dna_packet.proofs.Final.{fails, answers, missed, answered}

then_assoc : {A B C : Type 0} (r : Result A NspFault) (f : A → Result B NspFault) (k : B → Result C NspFault) →
    ((r >>= f) >>= k) ≡ (r >>= λ x. f x >>= k)
then_assoc (Ok x) f k = refl
then_assoc (Err e) f k = refl

abbrev Read : Type 0
Read = Result NspValue NspFault

abbrev with_rest : AckWord → List ℕ → Result (AckWord × List ℕ) NspFault
with_rest word rest = Ok (word, rest)

module _ (more : List ℕ) (fault : NspFault) (is_found : fault ≢ MissingField) where
  -- ---- the parts of messages

  by_addresses : (f : ℕ → ℕ → List ℕ → Read) (bytes : List ℕ)
      → ((dst src : ℕ) (rest : List ℕ) → f dst src rest ≡ fails fault → f dst src (rest ++ more) ≡ fails fault)
      → (addresses_at bytes >>= λ links. f links.0 links.1 links.2) ≡ fails fault
      → (addresses_at (bytes ++ more) >>= λ links. f links.0 links.1 links.2) ≡ fails fault
  by_addresses f [] final e = absurd (missed is_found e)
  by_addresses f (a ∷ []) final e = absurd (missed is_found e)
  by_addresses f (a ∷ b ∷ []) final e = absurd (missed is_found e)
  by_addresses f (a ∷ b ∷ c ∷ []) final e = absurd (missed is_found e)
  by_addresses f (a ∷ b ∷ c ∷ d ∷ rest) final e = final (a + 256 * b) (c + 256 * d) rest e

  segnum_tested : (g : ℕ × Bool × List ℕ → NspValue) (right : Bool) (x y : ℕ × Bool × List ℕ)
      → (cond right (Ok x) (Err BadSegnum) >>= λ n. answers (g n)) ≡ fails fault → (cond right (Ok y) (Err BadSegnum) >>= λ n. answers (g n)) ≡ fails
      fault
  segnum_tested g true x y e = absurd (answered (g x) e)
  segnum_tested g false x y e = e

  segnum_final : (g : ℕ × Bool × List ℕ → NspValue) (bytes : List ℕ)
      → (segnum_at bytes >>= λ n. answers (g n)) ≡ fails fault → (segnum_at (bytes ++ more) >>= λ n. answers (g n)) ≡ fails fault
  segnum_final g [] e = absurd (missed is_found e)
  segnum_final g (a ∷ []) e = absurd (missed is_found e)
  segnum_final g (a ∷ b ∷ rest) e =
      let n = a + 256 * b in
      segnum_tested g (ltb n 0x2000) (n % 0x1000, leb 0x1000 n, rest) (n % 0x1000, leb 0x1000 n, rest ++ more) e

  -- acknowledgement words, as many as there is room for, and SEGNUM
  abbrev words_at : (List AckWord → ℕ × Bool × List ℕ → NspValue) → Result (List AckWord × List ℕ) NspFault → Read
  words_at g acks = acks >>= λ words. segnum_at words.1 >>= λ n. answers (g words.0 n)

  abbrev IsFinalAt : ℕ → Type 0
  IsFinalAt room = (g : List AckWord → ℕ × Bool × List ℕ → NspValue) (bytes : List ℕ) → words_at g (acks_at room bytes) ≡ fails fault →
      words_at g (acks_at room (bytes ++ more)) ≡ fails fault

  abbrev behind : ℕ → List ℕ → Result AckWord NspFault → Result (List AckWord × List ℕ) NspFault
  behind room rest ack = (ack >>= λ word. with_rest word rest) >>= λ first. acks_at room first.1 >>= λ others. Ok (first.0 ∷ others.0, others.1)

  ack_final : (room : ℕ) → IsFinalAt room → (g : List AckWord → ℕ × Bool × List ℕ → NspValue) (rest : List ℕ) (ack : Result AckWord NspFault)
      → words_at g (behind room rest ack) ≡ fails fault → words_at g (behind room (rest ++ more) ack) ≡ fails fault
  ack_final room final g rest (Err f) e = e
  ack_final room final g rest (Ok ack) e =
      let regrouped : (bytes : List ℕ) → words_at g (behind room bytes (Ok ack)) ≡ words_at (λ acks. g (ack ∷ acks)) (acks_at room bytes) =
      λ bytes. then_assoc (acks_at room bytes) (λ others. Ok (ack ∷ others.0, others.1))
      (λ words. segnum_at words.1 >>= λ n. answers (g words.0 n)) in
      regrouped (rest ++ more) ∙ final (λ acks. g (ack ∷ acks)) rest (sym (regrouped rest) ∙ e)

  next_final : (room : ℕ) → IsFinalAt room → (g : List AckWord → ℕ × Bool × List ℕ → NspValue) (a b : ℕ) (rest : List ℕ) (is_ack : Bool)
      → words_at g (cond is_ack (behind room rest (ok_or (ack_of (a + 256 * b)) BadAckWord)) (Ok ([], a ∷ b ∷ rest))) ≡ fails fault
      → words_at g (cond is_ack (behind room (rest ++ more) (ok_or (ack_of (a + 256 * b)) BadAckWord)) (Ok ([], a ∷ b ∷ (rest ++ more)))) ≡ fails
      fault
  next_final room final g a b rest true e = ack_final room final g rest (ok_or (ack_of (a + 256 * b)) BadAckWord) e
  next_final room final g a b rest false e = segnum_final (g []) (a ∷ b ∷ rest) e

  words_final : (room : ℕ) → IsFinalAt room
  words_final zero g bytes e = segnum_final (g []) bytes e
  words_final (suc room) g [] e = absurd (missed is_found e)
  words_final (suc room) g (a ∷ []) e = absurd (missed is_found e)
  words_final (suc room) g (a ∷ b ∷ rest) e = next_final room (words_final room) g a b rest (leb 128 b) e

  -- the words of a data acknowledgement, and its end
  abbrev ends_at : (List AckWord → NspValue) → Result (List AckWord × List ℕ) NspFault → Read
  ends_at g acks = acks >>= λ words. no_more_at words.1 >>= λ end. answers (g words.0)

  second_final : (g : List AckWord → NspValue) (first : AckWord) (rest : List ℕ) (ack : Result AckWord NspFault)
      → ends_at g ((ack >>= λ word. with_rest word rest) >>= λ second. Ok (first ∷ second.0 ∷ [], second.1)) ≡ fails fault
      → ends_at g ((ack >>= λ word. with_rest word (rest ++ more)) >>= λ second. Ok (first ∷ second.0 ∷ [], second.1)) ≡ fails fault
  second_final g first rest (Err f) e = e
  second_final g first [] (Ok ack) e = absurd (answered (g (first ∷ ack ∷ [])) e)
  second_final g first (byte ∷ rest) (Ok ack) e = e

  first_final : (g : List AckWord → NspValue) (rest : List ℕ) (ack : Result AckWord NspFault)
      → ends_at g ((ack >>= λ word. with_rest word rest) >>= λ first. second_ack_at first.0 first.1) ≡ fails fault
      → ends_at g ((ack >>= λ word. with_rest word (rest ++ more)) >>= λ first. second_ack_at first.0 first.1) ≡ fails fault
  first_final g rest (Err f) e = e
  first_final g [] (Ok ack) e = absurd (answered (g (ack ∷ [])) e)
  first_final g (a ∷ []) (Ok ack) e = absurd (missed is_found e)
  first_final g (a ∷ b ∷ rest) (Ok ack) e = second_final g ack rest (ok_or (ack_of (a + 256 * b)) BadAckWord) e

  data_acks_final : (g : List AckWord → NspValue) (bytes : List ℕ) → ends_at g (data_acks_at bytes) ≡ fails fault →
      ends_at g (data_acks_at (bytes ++ more)) ≡ fails fault
  data_acks_final g [] e = absurd (missed is_found e)
  data_acks_final g (a ∷ []) e = absurd (missed is_found e)
  data_acks_final g (a ∷ b ∷ rest) e = first_final g rest (ok_or (ack_of (a + 256 * b)) BadAckWord) e

  -- SERVICES, INFO and SEGSIZE miss a byte, or nothing is wrong
  fields_answer : (g : ℕ × ℕ × ℕ × List ℕ → NspValue) (bytes : List ℕ) → (connect_fields_at bytes >>= λ fields. answers (g fields)) ≡ fails fault → ⊥
  fields_answer g [] e = missed is_found e
  fields_answer g (a ∷ []) e = missed is_found e
  fields_answer g (a ∷ b ∷ []) e = missed is_found e
  fields_answer g (a ∷ b ∷ c ∷ []) e = missed is_found e
  fields_answer g (a ∷ b ∷ c ∷ d ∷ rest) e = answered (g (a, b, c + 256 * d, rest)) e

  -- ---- the messages

  segment_final : (begins ends : Bool) (bytes : List ℕ) → segment_at begins ends bytes ≡ fails fault → segment_at begins ends (bytes ++ more) ≡ fails
      fault
  segment_final begins ends bytes e =
      by_addresses (λ dst src rest. words_at
      (λ acks n. DataSegment (record
      { begins = begins; ends = ends; dstaddr = dst; srcaddr = src; acks = acks; number = n.0; bit_12 = n.1; body = n.2 })) (acks_at 2 rest))
      bytes
      (λ dst src rest. words_final 2
      (λ acks n. DataSegment (record
      { begins = begins; ends = ends; dstaddr = dst; srcaddr = src; acks = acks; number = n.0; bit_12 = n.1; body = n.2 })) rest) e

  link_service_final : (interrupt : Bool) (bytes : List ℕ) → link_service_at interrupt bytes ≡ fails fault →
      link_service_at interrupt (bytes ++ more) ≡ fails fault
  link_service_final interrupt bytes e =
      by_addresses (λ dst src rest. answers (LinkService interrupt dst src rest)) bytes
      (λ dst src rest none. absurd (answered (LinkService interrupt dst src rest) none)) e

  other_data_ack_final : (bytes : List ℕ) → other_data_ack_at bytes ≡ fails fault → other_data_ack_at (bytes ++ more) ≡ fails fault
  other_data_ack_final bytes e =
      by_addresses (λ dst src rest. answers (OtherDataAck dst src rest)) bytes
      (λ dst src rest none. absurd (answered (OtherDataAck dst src rest) none)) e

  data_ack_final : (bytes : List ℕ) → data_ack_at bytes ≡ fails fault → data_ack_at (bytes ++ more) ≡ fails fault
  data_ack_final bytes e =
      by_addresses (λ dst src rest. ends_at (DataAck dst src) (data_acks_at rest)) bytes (λ dst src rest. data_acks_final (DataAck dst src) rest) e

  connect_ack_final : (bytes : List ℕ) → connect_ack_at bytes ≡ fails fault → connect_ack_at (bytes ++ more) ≡ fails fault
  connect_ack_final [] e = absurd (missed is_found e)
  connect_ack_final (a ∷ []) e = absurd (missed is_found e)
  connect_ack_final (a ∷ b ∷ []) e = absurd (answered (ConnectAck (a + 256 * b)) e)
  connect_ack_final (a ∷ b ∷ byte ∷ rest) e = e

  -- behind a DSTADDR of 0 a field of a CI may only be missing
  initiate_answers : (retransmitted : Bool) (rest : List ℕ)
      → (word_at MissingField rest >>= λ src. connect_fields_at src.1 >>= λ fields. answers
      (ConnectInitiate retransmitted src.0 fields.0 fields.1 fields.2 fields.3)) ≡ fails fault → ⊥
  initiate_answers retransmitted [] e = missed is_found e
  initiate_answers retransmitted (a ∷ []) e = missed is_found e
  initiate_answers retransmitted (a ∷ b ∷ rest) e =
      fields_answer (λ fields. ConnectInitiate retransmitted (a + 256 * b) fields.0 fields.1 fields.2 fields.3) rest e

  address_final : (retransmitted is_zero : Bool) (rest longer : List ℕ)
      → (cond is_zero (Ok rest) (Err NonzeroDstaddr) >>= λ left. word_at MissingField left >>= λ src. connect_fields_at src.1 >>= λ fields. answers
      (ConnectInitiate retransmitted src.0 fields.0 fields.1 fields.2 fields.3)) ≡ fails fault
      → (cond is_zero (Ok longer) (Err NonzeroDstaddr) >>= λ left. word_at MissingField left >>= λ src. connect_fields_at src.1 >>= λ fields. answers
      (ConnectInitiate retransmitted src.0 fields.0 fields.1 fields.2 fields.3)) ≡ fails fault
  address_final retransmitted true rest longer e = absurd (initiate_answers retransmitted rest e)
  address_final retransmitted false rest longer e = e

  connect_initiate_final : (retransmitted : Bool) (bytes : List ℕ) → connect_initiate_at retransmitted bytes ≡ fails fault →
      connect_initiate_at retransmitted (bytes ++ more) ≡ fails fault
  connect_initiate_final retransmitted [] e = absurd (missed is_found e)
  connect_initiate_final retransmitted (a ∷ []) e = absurd (missed is_found e)
  connect_initiate_final retransmitted (a ∷ b ∷ rest) e = address_final retransmitted (eqb (a + 256 * b) 0) rest (rest ++ more) e

  connect_confirm_final : (bytes : List ℕ) → connect_confirm_at bytes ≡ fails fault → connect_confirm_at (bytes ++ more) ≡ fails fault
  connect_confirm_final bytes e =
      by_addresses (λ dst src rest. connect_fields_at rest >>= λ fields. answers (ConnectConfirm dst src fields.0 fields.1 fields.2 fields.3)) bytes
      (λ dst src rest none. absurd (fields_answer (λ fields. ConnectConfirm dst src fields.0 fields.1 fields.2 fields.3) rest none)) e

  reason_answers : (dst src : ℕ) (rest : List ℕ) →
      (word_at MissingField rest >>= λ reason. answers (DisconnectInitiate dst src reason.0 reason.1)) ≡ fails fault → ⊥
  reason_answers dst src [] e = missed is_found e
  reason_answers dst src (a ∷ []) e = missed is_found e
  reason_answers dst src (a ∷ b ∷ rest) e = answered (DisconnectInitiate dst src (a + 256 * b) rest) e

  disconnect_initiate_final : (bytes : List ℕ) → disconnect_initiate_at bytes ≡ fails fault → disconnect_initiate_at (bytes ++ more) ≡ fails fault
  disconnect_initiate_final bytes e =
      by_addresses (λ dst src rest. word_at MissingField rest >>= λ reason. answers (DisconnectInitiate dst src reason.0 reason.1)) bytes
      (λ dst src rest none. absurd (reason_answers dst src rest none)) e

  reason_final : (dst src : ℕ) (rest : List ℕ)
      → (word_at MissingField rest >>= λ reason. no_more_at reason.1 >>= λ end. answers (DisconnectConfirm dst src reason.0)) ≡ fails fault
      → (word_at MissingField (rest ++ more) >>= λ reason. no_more_at reason.1 >>= λ end. answers (DisconnectConfirm dst src reason.0)) ≡ fails fault
  reason_final dst src [] e = absurd (missed is_found e)
  reason_final dst src (a ∷ []) e = absurd (missed is_found e)
  reason_final dst src (a ∷ b ∷ []) e = absurd (answered (DisconnectConfirm dst src (a + 256 * b)) e)
  reason_final dst src (a ∷ b ∷ byte ∷ rest) e = e

  disconnect_confirm_final : (bytes : List ℕ) → disconnect_confirm_at bytes ≡ fails fault → disconnect_confirm_at (bytes ++ more) ≡ fails fault
  disconnect_confirm_final bytes e =
      by_addresses (λ dst src rest. word_at MissingField rest >>= λ reason. no_more_at reason.1 >>= λ end. answers
      (DisconnectConfirm dst src reason.0)) bytes reason_final e

  -- one row of the table of flag bytes
  row : (is_this : Bool) (here there here_longer there_longer : Read) → (here ≡ fails fault → here_longer ≡ fails fault) →
      (there ≡ fails fault → there_longer ≡ fails fault)
      → cond is_this here there ≡ fails fault → cond is_this here_longer there_longer ≡ fails fault
  row true here there here_longer there_longer this others e = this e
  row false here there here_longer there_longer this others e = others e

  message_final : (flag : ℕ) (rest : List ℕ) → message_at flag rest ≡ fails fault → message_at flag (rest ++ more) ≡ fails fault
  message_final flag rest =
      row (eqb flag 0x00) _ _ _ _ (segment_final false false rest)
      (row (eqb flag 0x20) _ _ _ _ (segment_final true false rest)
      (row (eqb flag 0x40) _ _ _ _ (segment_final false true rest)
      (row (eqb flag 0x60) _ _ _ _ (segment_final true true rest)
      (row (eqb flag 0x10) _ _ _ _ (link_service_final false rest)
      (row (eqb flag 0x30) _ _ _ _ (link_service_final true rest)
      (row (eqb flag 0x04) _ _ _ _ (data_ack_final rest)
      (row (eqb flag 0x14) _ _ _ _ (other_data_ack_final rest)
      (row (eqb flag 0x24) _ _ _ _ (connect_ack_final rest)
      (row (eqb flag 0x08) _ _ _ _ (λ e. absurd (answered (NoOperation rest) e))
      (row (eqb flag 0x18) _ _ _ _ (connect_initiate_final false rest)
      (row (eqb flag 0x68) _ _ _ _ (connect_initiate_final true rest)
      (row (eqb flag 0x28) _ _ _ _ (connect_confirm_final rest)
      (row (eqb flag 0x38) _ _ _ _ (disconnect_initiate_final rest)
      (row (eqb flag 0x48) _ _ _ _ (disconnect_confirm_final rest) (λ e. e)))))))))))))))

pub nsp_final : (bytes more : List ℕ) (fault : NspFault) → fault ≢ MissingField → nsp_at bytes ≡ fails fault → nsp_at (bytes ++ more) ≡ fails fault
nsp_final [] more fault is_found e = absurd (missed is_found e)
nsp_final (flag ∷ rest) more fault is_found e = message_final more fault is_found flag rest e
