-- What a packet carries, by what is read of it.
use Rattle.accusing_links.proofs.Prelude.{◌≡◌, ℕ, ◌/◌, ◌%◌, Bool, true, false, cond, None, List, Ok, refl, sym, ap, ◌∙◌, bit_and, IsBitSet}
use Rattle.accusing_links.proofs.Prelude.{and_mask, bit_set_by_shift, PacketValue, Control, IsReturned, nsp_at, content_of, is_returned, message_in}
use Rattle.std.proofs.Common.{eq-eqb, eqb-true}
use Rattle.dna_packet.specs.Packet.{Data}

pub never : false ≡ true → ⊥
never e = absurd (cc)

-- bit 4 by its value
bit_4 : (rtflg : ℕ) → bit_and (rtflg / 16) 1 ≡ rtflg / 16 % 2
bit_4 rtflg = and_mask (rtflg / 16) 1

pub returned : (rtflg : ℕ) → IsBitSet rtflg 4 → is_returned rtflg ≡ true
returned rtflg set = eq-eqb (rtflg / 16 % 2) 1 (sym (bit_4 rtflg) ∙ (bit_set_by_shift rtflg 4).1 set)

pub not_returned : (rtflg : ℕ) → (IsBitSet rtflg 4 → ⊥) → is_returned rtflg ≡ false
not_returned rtflg clear = by_test (is_returned rtflg) refl
  where
    by_test : (b : Bool) → is_returned rtflg ≡ b → is_returned rtflg ≡ false
    by_test true e = absurd (clear ((bit_set_by_shift rtflg 4).0 (bit_4 rtflg ∙ eqb-true (rtflg / 16 % 2) 1 e)))
    by_test false e = e

-- on its way back: nothing for the links
pub carries_nothing : (p : PacketValue) → IsReturned p → content_of (Ok p) ≡ Ok None
carries_nothing (Data rtflg dst src forward nsp) back = ap (λ (b : Bool). cond b (Ok None) (message_in dst src (nsp_at nsp))) (returned rtflg back)
carries_nothing (Control bytes) back = absurd back

-- on its way there: its message
pub carries_message : (rtflg dst src forward : ℕ) (nsp : List ℕ) → (IsReturned (Data rtflg dst src forward nsp) → ⊥) →
    content_of (Ok (Data rtflg dst src forward nsp)) ≡ message_in dst src (nsp_at nsp)
carries_message rtflg dst src forward nsp there = ap (λ (b : Bool). cond b (Ok None) (message_in dst src (nsp_at nsp))) (not_returned rtflg there)
