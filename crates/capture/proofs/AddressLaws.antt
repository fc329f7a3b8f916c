-- Node addresses: what is read is the address's one spelling, and its spelling is read.
use Rattle.std.proofs.Common.{◌≡◌, ℕ, ◌+◌, ◌*◌, ◌/◌, ◌%◌, ◌<◌, ◌≤◌, List, ◌∷◌, ◌++◌, Option, Some, None, refl, ◌∙◌, arith, lit<}
use Rattle.std.specs.Fmt.{decimal}
use Rattle.std.specs.Prelude.{option_and_then}
use Rattle.std.proofs.lemmas.Option.{same_Some}
use Rattle.capture.specs.Text.{address_text}
use Rattle.capture.specs.Range.{IsNode}
use Rattle.capture.specs.Reading.{cut_at, positive_at, address_at}
use Rattle.capture.proofs.PartLaws.{HasNo, HasNo-append, cut_takes, cut_again}
use Rattle.capture.proofs.NumberLaws.{positive_takes, positive_again, decimal_lacks}

pub and_then : {A B : Type 0} (o : Option A) (f : A → Option B) (y : B) → option_and_then f o ≡ Some y → (x : A) × (o ≡ Some x) × (f x ≡ Some y)
and_then None f y e = absurd cc
and_then (Some x) f y e = (x, refl, e)

address_from : (text first second : List ℕ) (area node address : ℕ) → text ≡ first ++ 46 ∷ second
    → (first ≡ decimal area) × (area ≤ 63) × (1 ≤ area) → (second ≡ decimal node) × (node ≤ 1023) × (1 ≤ node) → area * 1024 + node ≡ address
    → (text ≡ address_text address) × IsNode address
address_from text first second area node address cut a n whole =
    let high : area ≡ address / 1024 = omega arith in
    let low : node ≡ address % 1024 = omega arith in
    (cut ∙ rw (a.0, n.0, high, low) refl, record { least_area = omega arith; most_area = omega arith; least_node = omega arith })

pub address_takes : (text : List ℕ) (address : ℕ) → address_at text ≡ Some address → (text ≡ address_text address) × IsNode address
unfolding address_at
address_takes text address e =
    let p = and_then (cut_at 46 text) _ address e in
    let a = and_then (positive_at 63 p.0.0) _ address p.2 in
    let n = and_then (positive_at 1023 p.0.1) _ address a.2 in
    address_from text p.0.0 p.0.1 a.0 n.0 address (cut_takes 46 text p.0 p.1) (positive_takes 63 p.0.0 a.0 (lit< tt) a.1)
    (positive_takes 1023 p.0.1 n.0 (lit< tt) n.1) (same_Some _ _ n.2)

pub address_again : (address : ℕ) → IsNode address → address_at (address_text address) ≡ Some address
unfolding address_at
address_again address h =
    let area = positive_again 63 (address / 1024) (lit< tt) h.most_area h.least_area in
    let node = positive_again 1023 (address % 1024) (lit< tt) (omega arith) h.least_node in
    let cut = cut_again 46 (decimal (address / 1024)) (decimal (address % 1024))
    (decimal_lacks 46 (address / 1024) (lit< tt) (omega (arith, h.most_area))) in
    let whole : address / 1024 * 1024 + address % 1024 ≡ address = omega arith in
    rw (cut, area, node, whole) refl

pub address_lacks : (mark address : ℕ) → mark < 46 → IsNode address → HasNo mark (address_text address)
address_lacks mark address low h =
    HasNo-append mark (decimal (address / 1024)) (46 ∷ decimal (address % 1024))
    (decimal_lacks mark (address / 1024) (omega arith) (omega (arith, h.most_area)))
    (λ e. absurd (omega arith), decimal_lacks mark (address % 1024) (omega arith) (omega arith))
