-- A packet that is read is the packet that was written, and what was written is read again.
use Rattle.std.proofs.Common.{◌≡◌, ℕ, ◌%◌, ◌<◌, true, false, eqb, leb, List, [], ◌∷◌, ◌++◌, Result, Ok, Err, refl, sym, ap, subst, ◌∙◌, arith, inl}
use Rattle.std.proofs.Common.{inr}
use Rattle.std.proofs.lemmas.Bool.{eqb-true, leb-false, lt-leb, ne_eqb, eq-eqb}
use Rattle.dna_packet.specs.declared.fault.PacketFault.{PacketFault}
use Rattle.dna_packet.specs.declared.fault.PacketFault.TheVariants.{Short, UnknownFlags}
use Rattle.std.specs.Prelude.{IfOk}
use Rattle.dna_packet.specs.declared.packet.Packet.{Packet}
use Rattle.dna_packet.specs.Fields.{word, ◌>>=◌, byte_at, word_at, Gives}
use Rattle.dna_packet.specs.Packet.{view, PacketValue, Data, Control, packet_bytes, IsPacket}
use Rattle.dna_packet.specs.ReadingPacket.{data_at, packet_at}
use Rattle.dna_packet.proofs.FieldsLemmas.{IsBytes, IsBytes-rest, bind_ok, guard_ok, chosen, ok_is, byte_takes, word_takes, word_fits}

-- what holds of a packet that was read from these bytes
abbrev Reads : List ℕ → PacketValue → Type 0
Reads bytes p = IsPacket p × (bytes ≡ packet_bytes p)

data_takes : (rtflg : ℕ) (bytes : List ℕ) (p : PacketValue) → IsBytes bytes → rtflg < 128 → rtflg % 8 ≡ 2 → data_at rtflg bytes ≡ Ok p →
    Reads (rtflg ∷ bytes) p
data_takes rtflg bytes p fits low short e =
    let a = bind_ok (word_at Short bytes)
    (λ dst. word_at Short dst.1 >>= λ src. byte_at Short src.1 >>= λ forward. Ok (Data rtflg dst.0 src.0 forward.0 forward.1)) p e in
    let b = bind_ok (word_at Short a.0.1) (λ src. byte_at Short src.1 >>= λ forward. Ok (Data rtflg a.0.0 src.0 forward.0 forward.1)) p a.2 in
    let c = bind_ok (byte_at Short b.0.1) (λ forward. Ok (Data rtflg a.0.0 b.0.0 forward.0 forward.1)) p b.2 in
    let dst = word_takes Short bytes a.0 fits a.1 in
    let src = word_takes Short a.0.1 b.0 dst.0.rest_fits b.1 in
    let forward = byte_takes Short b.0.1 c.0 src.0.rest_fits c.1 in
    let all : bytes ≡ word a.0.0 ++ (word b.0.0 ++ (c.0.0 ∷ c.0.1)) =
    dst.0.parts ∙ ap (λ (t : List ℕ). word a.0.0 ++ t) (src.0.parts ∙ ap (λ (t : List ℕ). word b.0.0 ++ t) forward.0.parts) in
    subst (λ (v : PacketValue). Reads (rtflg ∷ bytes) v) (ok_is {Z = PacketFault} (Data rtflg a.0.0 b.0.0 c.0.0 c.0.1) p c.2)
    (((low, short), (dst.1, src.1, forward.1)), ap (λ (t : List ℕ). rtflg ∷ t) all)

pub packet_takes : (bytes : List ℕ) (p : PacketValue) → IsBytes bytes → packet_at bytes ≡ Ok p → Reads bytes p
packet_takes [] p fits e = absurd cc
packet_takes (rtflg ∷ rest) p fits e =
    let padded = guard_ok (leb 128 rtflg) _ _ p e in
    let low : rtflg < 128 = omega (arith, leb-false 128 rtflg padded.0) in
    elim (chosen (eqb (rtflg % 2) 1) _ _ (Ok p) padded.1) [
      | inl control ↦ subst (λ (v : PacketValue). Reads (rtflg ∷ rest) v) (ok_is {Z = PacketFault} (Control (rtflg ∷ rest)) p control.1)
          (((low, eqb-true _ _ control.0), tt), refl)
      | inr rest_is ↦
          let long = guard_ok (eqb (rtflg % 8) 6) _ _ p rest_is.1 in
          elim (chosen (eqb (rtflg % 8) 2) _ _ (Ok p) long.1) [
            | inl short ↦ data_takes rtflg rest p (IsBytes-rest rtflg rest fits) low (eqb-true _ _ short.0) short.1
            | inr other ↦ absurd (let bad : Err UnknownFlags ≡ Ok p = other.1 in cc)
          ]
    ]

pub is_found : (bytes : List ℕ) (r : Result Packet PacketFault) → IsBytes bytes → Gives view r (packet_at bytes) →
    IfOk r (λ p. IsPacket (view p) × (bytes ≡ packet_bytes (view p)))
is_found bytes (Ok p) fits given = packet_takes bytes (view p) fits given
is_found bytes (Err e) fits given = tt

pub packet_again : (p : PacketValue) → IsPacket p → packet_at (packet_bytes p) ≡ Ok p
packet_again (Data rtflg dst src forward nsp) fits =
    let not_padded : leb 128 rtflg ≡ false = lt-leb _ _ fits.0.0 in
    let not_control : eqb (rtflg % 2) 1 ≡ false = ne_eqb _ _ (λ (h : _). omega arith) in
    let not_long : eqb (rtflg % 8) 6 ≡ false = ne_eqb _ _ (λ (h : _). omega arith) in
    let short : eqb (rtflg % 8) 2 ≡ true = eq-eqb _ _ fits.0.1 in
    rw (not_padded, not_control, not_long, short, word_fits dst fits.1.0, word_fits src fits.1.1) refl
packet_again (Control (first ∷ rest)) fits =
    let not_padded : leb 128 first ≡ false = lt-leb _ _ fits.0.0 in
    let control : eqb (first % 2) 1 ≡ true = eq-eqb _ _ fits.0.1 in
    rw (not_padded, control) refl
packet_again (Control []) fits = absurd fits.0

-- a row of bytes is that of one packet
pub packet_unique : (p q : PacketValue) → IsPacket p → IsPacket q → packet_bytes p ≡ packet_bytes q → p ≡ q
packet_unique p q fits fits' same = ok_is {Z = PacketFault} p q (sym (packet_again p fits) ∙ ap packet_at same ∙ packet_again q fits')
