-- A packet that is on its way back, by bit 4 of RTFLG.
use Rattle.std.proofs.Common.{◌≡◌, ℕ, ◌/◌, ◌%◌, Bool, true, false, cond, None, List, Ok, refl, sym, ap, ◌∙◌, eq-eqb, eqb-true}
use Rattle.std.specs.Prelude.{bit_and}
use Rattle.std.specs.Int.{IsBitSet}
use Rattle.std.proofs.lemmas.Nat.{and_mask, bit_set_by_shift}
use Rattle.dna_packet.specs.Packet.{PacketValue, Data, Control, IsReturned}
use Rattle.dna_packet.specs.ReadingNsp.{nsp_at}
use Rattle.assuming.specs.Messages.{if_read, is_returned, message_of}

pub never : false ≡ true → ⊥
never e = absurd (cc)

bit_4 : (rtflg : ℕ) → bit_and (rtflg / 16) 1 ≡ rtflg / 16 % 2
bit_4 rtflg = and_mask (rtflg / 16) 1

returned : (rtflg : ℕ) → IsBitSet rtflg 4 → is_returned rtflg ≡ true
returned rtflg set = eq-eqb (rtflg / 16 % 2) 1 (sym (bit_4 rtflg) ∙ (bit_set_by_shift rtflg 4).1 set)

not_returned : (rtflg : ℕ) → (IsBitSet rtflg 4 → ⊥) → is_returned rtflg ≡ false
not_returned rtflg clear = by_test (is_returned rtflg) refl
  where
    by_test : (b : Bool) → is_returned rtflg ≡ b → is_returned rtflg ≡ false
    by_test true e = absurd (clear ((bit_set_by_shift rtflg 4).0 (bit_4 rtflg ∙ eqb-true (rtflg / 16 % 2) 1 e)))
    by_test false e = e

-- it has no message for the links
pub none_in : (p : PacketValue) → IsReturned p → message_of (Ok p) ≡ None
none_in (Data rtflg dst src forward nsp) back = ap (λ (b : Bool). cond b None (if_read (nsp_at nsp))) (returned rtflg back)
none_in (Control bytes) back = absurd back

-- another has the one that is read
pub some_in : (rtflg dst src forward : ℕ) (nsp : List ℕ) → (IsReturned (Data rtflg dst src forward nsp) → ⊥) →
    message_of (Ok (Data rtflg dst src forward nsp)) ≡ if_read (nsp_at nsp)
some_in rtflg dst src forward nsp there = ap (λ (b : Bool). cond b None (if_read (nsp_at nsp))) (not_returned rtflg there)
