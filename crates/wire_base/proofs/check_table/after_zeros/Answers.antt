-- The first row is computed once, and each further row from the one before it; an entry is read from those.
use Rattle.std.proofs.Common.{◌≡◌, ℕ, zero, suc, ◌+◌, ◌-◌, ◌<◌, List, [], map, take, drop, get_or, refl, sym, ap, ap₂, ◌∙◌, arith}
use Rattle.std.specs.List.{range_with_len}
use Rattle.std.proofs.Math.ListN as listn
use Rattle.std.proofs.lemmas.List.{get_or-take, get_or-drop}
use Rattle.std.proofs.lemmas.List.FromFn.{get_or-map-range_with_len}
use Rattle.wire_base.specs.BlockCheck.{shift, after_byte, after_zeros}
use Rattle.wire_base.specs.declared.check_table.TheConstants.{AFTER_ZEROS}
use Rattle.wire_base.proofs.check_table.after_zeros.Goals as goal

first_row : get_or AFTER_ZEROS 0 [] ≡ map (after_zeros 1) (range_with_len 0 256)
unfolding after_zeros after_byte shift
first_row = refl

next_rows : drop 1 AFTER_ZEROS ≡ map (map (λ r. after_byte r 0)) (take 7 AFTER_ZEROS)
unfolding after_byte shift
next_rows = refl

nothing : after_byte 0 0 ≡ 0
unfolding after_byte shift
nothing = refl

entry : (rows : List (List ℕ)) → get_or rows 0 [] ≡ map (after_zeros 1) (range_with_len 0 256) → drop 1 rows ≡ map (map (λ r. after_byte r 0))
    (take 7 rows)
    → (k byte : ℕ) → k < 8 → byte < 256 → get_or (get_or rows k []) byte 0 ≡ after_zeros (suc k) byte
unfolding after_zeros
entry rows first next zero byte h b = ap (λ xs. get_or xs byte 0) first ∙ get_or-map-range_with_len (after_zeros 1) 0 256 byte byte 0 b (omega arith)
entry rows first next (suc k) byte h b =
    let one : 1 + k ≡ suc k = omega arith in
    let row : get_or rows (suc k) [] ≡ map (λ r. after_byte r 0) (get_or rows k []) =
    ap (λ i. get_or rows i []) (sym one) ∙ sym (get_or-drop 1 rows k []) ∙ ap (λ xs. get_or xs k []) next
    ∙ listn.get_or-map (map (λ r. after_byte r 0)) (take 7 rows) k [] ∙ ap (map (λ r. after_byte r 0)) (get_or-take 7 rows k [] (omega arith)) in
    ap (λ xs. get_or xs byte 0) row ∙ ap (get_or (map (λ r. after_byte r 0) (get_or rows k [])) byte) (sym nothing)
    ∙ listn.get_or-map (λ r. after_byte r 0) (get_or rows k []) byte 0 ∙ ap (λ r. after_byte r 0) (entry rows first next k byte (omega arith) b)

pub returns : goal.returns
returns c =
    let same : suc (c.args.zeros - 1) ≡ c.args.zeros = omega arith in
    entry AFTER_ZEROS first_row next_rows (c.args.zeros - 1) c.from.result (omega arith) (omega arith) ∙ ap₂ after_zeros same c.from.ensures
