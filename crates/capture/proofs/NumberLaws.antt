-- Numbers: what is read is the number's one spelling, and its spelling is read.
use Rattle.std.proofs.Common.{◌≡◌, ℕ, suc, ◌+◌, ◌-◌, ◌*◌, ◌^◌, ◌<◌, ◌≤◌, true, false, cond, eqb, ltb, leb, not, ◌&&◌, ◌||◌, List, [], ◌∷◌, ◌++◌}
use Rattle.std.proofs.Common.{length, get_or, take, drop, Option, Some, None, refl, sym, ap, ap₂, ◌∙◌, inl, inr, arith, lit<}
use Rattle.std.specs.Str.{all_ascii_digits}
use Rattle.std.specs.Str.Parse.{digits_value, AllDigits}
use Rattle.std.specs.Fmt.{decimal}
use Rattle.std.specs.Prelude.{option_and_then}
use Rattle.std.specs.Option.{option_map}
use Rattle.std.specs.Char.{is_ascii_digit, digit_value}
use Rattle.std.proofs.Math.Seq.{drop-cons}
use Rattle.std.proofs.lemmas.List.{length-take, get_or-take, take-append-drop}
use Rattle.std.proofs.lemmas.Bool.{and_parts, and_from, or_cases, or_left, or_right, ltb-true, leb-true, eqb-true, lt-ltb, le-leb, lt-leb, eq-eqb}
use Rattle.std.proofs.lemmas.Bool.{ne_eqb, false_from_ne_true, not-true, not_from_false, cases_eq}
use Rattle.std.proofs.lemmas.Option.{cond_some}
use Rattle.std.proofs.lemmas.Str.Parse.{IsNumeralModel, numerals_by_value, tells_all_ascii_digits, digit_from_value, digit_at}
use Rattle.std.proofs.lemmas.Fmt.{digits_decimal, digits_value-decimal, decimal-digits_value, length-decimal-le, decimal_nonempty, first_decimal}
use Rattle.std.proofs.lemmas.Fmt.{decimal_digit}
use Rattle.std.proofs.lemmas.Int.Digits.{digits_value-lt, digits_value_more, digits_more}
use Rattle.std.proofs.Math.Nat.{pow-le-pow_right}
use Rattle.capture.specs.Reading.{cut_at, is_number, number_at, positive_at}
use Rattle.capture.specs.Worded.{numbered}
use Rattle.capture.proofs.PartLaws.{HasNo, cut_again}

own : IsNumeralModel (λ ds. all_ascii_digits ds ≡ true) (digits_value 10)
own = numerals_by_value (λ ds. all_ascii_digits ds ≡ true) tells_all_ascii_digits

limit_fits : 10 ^ 19 < 2 ^ 64
limit_fits = lit< tt

-- the parts of the test
pub record IsNumber (text : List ℕ) : Type 0 where
  pub digits : AllDigits 10 text
  pub some : 0 < length text
  pub short : length text ≤ 19
  pub lead : get_or text 0 0 ≡ 48 → length text ≡ 1

number_parts : (text : List ℕ) → is_number text ≡ true → IsNumber text
number_parts text h =
    let a = and_parts (all_ascii_digits text && ltb 0 (length text) && leb (length text) 19) (not (eqb (get_or text 0 0) 48) || eqb (length text) 1)
    h in
    let b = and_parts (all_ascii_digits text && ltb 0 (length text)) (leb (length text) 19) a.0 in
    let d = and_parts (all_ascii_digits text) (ltb 0 (length text)) b.0 in
    record {
      digits = own.to text d.0;
      some = ltb-true 0 (length text) d.1;
      short = leb-true (length text) 19 b.1;
      lead = λ zeroed. elim (or_cases (not (eqb (get_or text 0 0) 48)) (eqb (length text) 1) a.1) [
        | inl other ↦ absurd
            (let f : eqb (get_or text 0 0) 48 ≡ false = not-true _ other in let t : eqb (get_or text 0 0) 48 ≡ true = eq-eqb _ _ zeroed in cc)
        | inr single ↦ eqb-true _ _ single
      ];
    }

lead_or_one : (first long : ℕ) → (first ≡ 48 → long ≡ 1) → (not (eqb first 48) || eqb long 1) ≡ true
lead_or_one first long h =
    elim (cases_eq first 48) [
      | inl zeroed ↦ or_right _ _ (eq-eqb long 1 (h zeroed))
      | inr other ↦ or_left _ _ (not_from_false _ (ne_eqb first 48 other))
    ]

number_tested : (text : List ℕ) → IsNumber text → is_number text ≡ true
number_tested text h = and_from _ _ (and_from _ _ (and_from _ _ (own.from text h.digits) (lt-ltb _ _ h.some)) (le-leb _ _ h.short))
    (lead_or_one (get_or text 0 0) (length text) h.lead)

pub number_none : (most : ℕ) (text : List ℕ) → (IsNumber text → ⊥) → None ≡ number_at most text
unfolding number_at
number_none most text h = rw (false_from_ne_true (is_number text) (λ e. h (number_parts text e))) refl

pub number_some : (most value : ℕ) (text : List ℕ) → IsNumber text → value ≡ digits_value 10 text → value ≤ most → Some value ≡ number_at most text
unfolding number_at
number_some most value text h e small = rw (number_tested text h, ← e, le-leb value most small) refl

pub number_above : (most value : ℕ) (text : List ℕ) → IsNumber text → value ≡ digits_value 10 text → most < value → None ≡ number_at most text
unfolding number_at
number_above most value text h e large = rw (number_tested text h, ← e, lt-leb value most large) refl

-- at most 19 digits are worth less than a word holds
pub digits_fit : (digits : List ℕ) → AllDigits 10 digits → length digits ≤ 18 → digits_value 10 digits < 10 ^ 18
digits_fit digits h short =
    let below = digits_value-lt 10 digits h in
    let power : 10 ^ length digits ≤ 10 ^ 18 = pow-le-pow_right {n = 10} (lit< tt) short in
    omega arith

-- a text with something other than a digit is no number
pub bad_digit : (text : List ℕ) (i : ℕ) → i < length text → is_ascii_digit (get_or text i 0) ≡ false → IsNumber text → ⊥
bad_digit text i lt bad h =
    let range = digit_at text i h.digits lt in
    grind arith

pub record HasRead (value : ℕ) (digits : List ℕ) : Type 0 where
  pub each : AllDigits 10 digits
  pub worth : value ≡ digits_value 10 digits

pub read_more : (value i : ℕ) (text : List ℕ) → HasRead value (take i text) → i < length text → is_ascii_digit (get_or text i 0) ≡ true
    → HasRead (value * 10 + (get_or text i 0 - 48)) (take (i + 1) text)
read_more value i text h lt good =
    let value_is : digit_value (get_or text i 0) ≡ get_or text i 0 - 48 = grind arith in
    let low : digit_value (get_or text i 0) < 10 = grind arith in
    record {
      each = digits_more 10 text i lt h.each low;
      worth = sym (digits_value_more 10 text i lt ∙ rw (← h.worth, value_is) refl);
    }

pub read_fits : (value i : ℕ) (text : List ℕ) → HasRead value (take i text) → i < length text → length text ≤ 19 → value < 10 ^ 18
read_fits value i text h lt short =
    let below = digits_fit (take i text) h.each (omega (arith, length-take i text)) in
    let worth = h.worth in
    omega arith

pub read_small : (value i : ℕ) (text : List ℕ) → HasRead value (take i text) → i ≤ 18 → value < 10 ^ 18
read_small value i text h short =
    let below = digits_fit (take i text) h.each (omega (arith, length-take i text)) in
    let worth = h.worth in
    omega arith

-- the whole text was read
pub number_read : (value : ℕ) (text : List ℕ) → HasRead value text → 0 < length text → length text ≤ 19 → (get_or text 0 0 ≡ 48 → length text ≡ 1) →
    IsNumber text
number_read value text h some short lead = record { digits = h.each; some = some; short = short; lead = lead }

pub number_takes : (most : ℕ) (text : List ℕ) (n : ℕ) → most < 10 ^ 19 → number_at most text ≡ Some n → (text ≡ decimal n) × (n ≤ most)
unfolding number_at
number_takes most text n fits e =
    let c = cond_some (is_number text && leb (digits_value 10 text) most) (digits_value 10 text) n e in
    let both = and_parts (is_number text) (leb (digits_value 10 text) most) c.0 in
    let h = number_parts text both.0 in
    let small : digits_value 10 text ≤ most = leb-true _ _ both.1 in
    let value : digits_value 10 text ≡ n = c.1 in
    let whole = limit_fits in
    let spelled = decimal-digits_value own text (own.from text h.digits) h.some h.lead (omega arith) in
    (sym spelled ∙ ap decimal value, omega arith)

decimal_is_number : (n : ℕ) → n < 10 ^ 19 → IsNumber (decimal n)
decimal_is_number n fits =
    let whole = limit_fits in
    let word : n < 2 ^ 64 = omega arith in
    record {
      digits = own.to (decimal n) (digits_decimal own n word);
      some = decimal_nonempty n word;
      short = length-decimal-le 19 n (lit< tt) fits word;
      lead = λ zeroed. elim (cases_eq n 0) [
        | inl none ↦ ap (λ (k : ℕ). length (decimal k)) none ∙ ap length (decimal_digit 0 (lit< tt))
        | inr some ↦ let first = first_decimal n (omega arith) word in absurd (omega arith)
      ];
    }

pub number_again : (most n : ℕ) → most < 10 ^ 19 → n ≤ most → number_at most (decimal n) ≡ Some n
number_again most n fits small =
    let whole = limit_fits in
    let word : n < 2 ^ 64 = omega arith in
    sym (number_some most n (decimal n) (decimal_is_number n (omega arith)) (sym (digits_value-decimal own n word)) small)

pub positive_takes : (most : ℕ) (text : List ℕ) (n : ℕ) → most < 10 ^ 19 → positive_at most text ≡ Some n → (text ≡ decimal n) × (n ≤ most) × (1 ≤ n)
unfolding positive_at
positive_takes most text n fits e = goes (number_at most text) (λ m f. number_takes most text m fits f) e
  where
    goes : (o : Option ℕ) → ((m : ℕ) → o ≡ Some m → (text ≡ decimal m) × (m ≤ most)) → option_and_then (λ m. cond (ltb 0 m) (Some m) None) o ≡ Some
        n → (text ≡ decimal n) × (n ≤ most) × (1 ≤ n)
    goes None h f = absurd cc
    goes (Some m) h f =
        let c = cond_some (ltb 0 m) m n f in
        let p = h m refl in
        let some = ltb-true 0 m c.0 in
        let same : m ≡ n = c.1 in
        (p.0 ∙ ap decimal same, omega arith, omega arith)

pub positive_again : (most n : ℕ) → most < 10 ^ 19 → n ≤ most → 1 ≤ n → positive_at most (decimal n) ≡ Some n
unfolding positive_at
positive_again most n fits small some = rw (number_again most n fits small, lt-ltb 0 n some) refl

-- no mark below the digits stands in a number
digits_lack : (mark : ℕ) (ds : List ℕ) → mark < 48 → AllDigits 10 ds → HasNo mark ds
digits_lack mark [] low h = tt
digits_lack mark (c ∷ ds) low h =
    let range = digit_from_value c h.0 in
    (λ e. absurd (omega arith), digits_lack mark ds low h.1)

pub decimal_lacks : (mark n : ℕ) → mark < 48 → n < 2 ^ 64 → HasNo mark (decimal n)
decimal_lacks mark n low fits = digits_lack mark (decimal n) low (own.to (decimal n) (digits_decimal own n fits))

-- ---- a number before a space

-- all digits were read as far as a space
pub number_stands : (most value : ℕ) (text : List ℕ) (at : ℕ) → HasRead value (take at text) → 1 ≤ at → at ≤ 18 → at < length text →
    get_or text at 0 ≡ 32
    → (get_or text 0 0 ≡ 48 → ⊥) → value ≤ most → Some (value, drop (at + 1) text) ≡ numbered most (cut_at 32 text)
number_stands most value text at read some short lt space lead small =
    let long : length (take at text) ≡ at = omega (arith, length-take at text) in
    let next : suc at ≡ at + 1 = omega arith in
    let rest : drop at text ≡ 32 ∷ drop (at + 1) text = drop-cons text at 0 lt ∙ ap₂ (λ (b k : ℕ). b ∷ drop k text) space next in
    let whole : text ≡ take at text ++ 32 ∷ drop (at + 1) text = sym (take-append-drop at text) ∙ ap (λ (t : List ℕ). take at text ++ t) rest in
    let cut = ap (cut_at 32) whole ∙ cut_again 32 (take at text) (drop (at + 1) text) (digits_lack 32 (take at text) (lit< tt) read.each) in
    let first = get_or-take at text 0 0 some in
    let is = number_read value (take at text) read (omega arith) (omega arith) (λ zeroed. absurd (lead (sym first ∙ zeroed))) in
    sym (ap (numbered most) cut ∙ ap (option_map (λ (number : ℕ). (number, drop (at + 1) text)))
    (sym (number_some most value (take at text) is read.worth small)))
