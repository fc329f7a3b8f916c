-- A field with its check behind it is good, and good bytes are that.
use Rattle.std.proofs.Common.{◌≡◌, ℕ, ◌+◌, ◌-◌, ◌*◌, ◌/◌, ◌%◌, ◌<◌, ◌≤◌, true, List, [], ◌∷◌, ◌++◌, length, get_or, take, drop, refl, sym, ap, ◌∙◌}
use Rattle.std.proofs.Common.{arith}
use Rattle.std.proofs.lemmas.Bool.{le-leb, leb-true, eq-eqb, eqb-true, and_parts, and_from}
use Rattle.std.proofs.lemmas.List.{length-append, length-drop, get_or-drop, take_at, drop_at, take-append-drop}
use Rattle.wire_base.specs.BlockCheck.{check_of, check_bytes, is_good, row_of}
use Rattle.ddcmp_msg.specs.Message.{IsBytes}
use Rattle.ddcmp_msg.specs.Spelling.{with_check}

pub length-with_check : (field : List ℕ) → length (with_check field) ≡ length field + 2
length-with_check field = length-append field (check_bytes field) ∙ refl

pub is_good-with_check : (field : List ℕ) → is_good (with_check field) ≡ true
unfolding is_good
is_good-with_check field =
    let rest : length (with_check field) - 2 ≡ length field = omega (arith, length-with_check field) in
    let back : check_of field % 256 + 256 * (check_of field / 256 + 256 * 0) ≡ check_of field = omega arith in
    rw rest
    (rw (take_at field (check_bytes field) (length field) refl, drop_at field (check_bytes field) (length field) refl)
    (and_from _ _ (le-leb _ _ (omega (arith, length-with_check field))) (eq-eqb _ _ (sym back))))

-- two bytes are those of the number that they make
two_bytes : (bytes : List ℕ) (check : ℕ) → length bytes ≡ 2 → get_or bytes 0 0 < 256 → get_or bytes 1 0 < 256 → row_of bytes ≡ check →
    bytes ≡ (check % 256) ∷ (check / 256) ∷ []
two_bytes [] check len first second e = absurd (omega arith)
two_bytes (a ∷ []) check len first second e = absurd (omega arith)
two_bytes (a ∷ b ∷ []) check len first second e =
    let low : a ≡ check % 256 = omega arith in
    let high : b ≡ check / 256 = omega arith in
    rw (low, high) refl
two_bytes (a ∷ b ∷ c ∷ bytes) check len first second e = absurd (omega arith)

pub with_check-of_good : (bytes : List ℕ) → IsBytes bytes → is_good bytes ≡ true → bytes ≡ with_check (take (length bytes - 2) bytes)
unfolding is_good
with_check-of_good bytes fits good =
    let n = length bytes - 2 in
    let parts = and_parts _ _ good in
    let long : 2 ≤ length bytes = leb-true _ _ parts.0 in
    let check : row_of (drop n bytes) ≡ check_of (take n bytes) = sym (eqb-true _ _ parts.1) in
    let first : get_or (drop n bytes) 0 0 < 256 = rw get_or-drop (fits (n + 0)) in
    let second : get_or (drop n bytes) 1 0 < 256 = rw get_or-drop (fits (n + 1)) in
    let last = two_bytes (drop n bytes) (check_of (take n bytes)) (omega (arith, length-drop n bytes)) first second check in
    sym (take-append-drop n bytes) ∙ ap (λ (t : List ℕ). take n bytes ++ t) last
