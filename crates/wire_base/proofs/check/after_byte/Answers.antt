-- The high byte of the register goes down by eight bits, and the low one is looked up.
use Rattle.std.proofs.Common.{◌≡◌, ℕ, ◌/◌, ◌%◌, sym, ap, ap₂, ◌∙◌}
use Rattle.std.specs.Int.Bits.{bit_xor, and_mask, xor_comm, xor_zero_r}
use Rattle.wire_base.specs.BlockCheck.{shifted, after_byte, after_zeros}
use Rattle.wire_base.proofs.BlockCheck.{after_zeros_halves}
use Rattle.wire_base.proofs.check.after_byte.Goals as goal

mixed_in : (r b : ℕ) → after_byte r b ≡ after_zeros 1 (bit_xor r b)
unfolding after_byte after_zeros
mixed_in r b = ap (shifted 8) (sym (xor_zero_r (bit_xor r b)))

pub returns : goal.returns
unfolding after_zeros
returns c =
    let r = c.args.register in
    let same : bit_xor r c.from.result ≡ bit_xor r c.args.byte = ap (bit_xor r) c.from.ensures in
    let low = and_mask (bit_xor r c.from.result) 8 in
    ap₂ bit_xor (ap (λ z. z / 256) same) (c.after_zeros.ensures ∙ ap (after_zeros 1) (low ∙ ap (λ z. z % 256) same))
    ∙ xor_comm (bit_xor r c.args.byte / 256) _ ∙ sym (mixed_in r c.args.byte ∙ after_zeros_halves 0 (bit_xor r c.args.byte))
