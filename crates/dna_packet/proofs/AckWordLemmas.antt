-- An acknowledgement word that is read is the word that was written, and what was written is read again.
use Rattle.std.proofs.Common.{◌≡◌, ℕ, zero, suc, ◌+◌, ◌*◌, ◌/◌, ◌%◌, ◌^◌, ◌<◌, ◌≤◌, true, false, eqb, leb, List, [], ◌∷◌, ◌++◌, length, get_or, take}
use Rattle.std.proofs.Common.{Option, Some, None, Ok, refl, ap, subst, ◌∙◌, arith, inl, inr}
use Rattle.std.specs.Prelude.{ok_or}
use Rattle.std.specs.List.{AllByRecursion}
use Rattle.std.specs.Option.{option_map}
use Rattle.std.proofs.lemmas.List.{take_more}
use Rattle.std.proofs.lemmas.Bool.{eqb-true, le-leb}
use Rattle.dna_packet.specs.declared.ack_word.AckQualifier.{AckQualifier}
use Rattle.dna_packet.specs.declared.ack_word.AckQualifier.TheVariants.{Ack, Nak, OtherAck, OtherNak}
use Rattle.dna_packet.specs.declared.ack_word.AckWord.{AckWord}
use Rattle.dna_packet.specs.declared.fault.NspFault.{NspFault}
use Rattle.dna_packet.specs.declared.fault.NspFault.TheVariants.{MissingField, BadAckWord}
use Rattle.dna_packet.specs.Fields.{word, ◌>>=◌, word_at}
use Rattle.dna_packet.specs.AckWord.{qualifier_number, qualifier_of, ack_word, ack_of, ack_bytes, IsAckWord}
use Rattle.dna_packet.specs.ReadingNsp.{ack_at, is_ack_next, acks_at, second_ack_at, data_acks_at}
use Rattle.dna_packet.proofs.FieldsLemmas.{IsBytes, bind_ok, chosen, ok_is, Takes, Takes-then, word_takes, word_fits}

some_is : {A : Type 0} (x y : A) → Some x ≡ Some y → x ≡ y
some_is x y e = cc

-- bits 12 to 15 are 8 and the number of the qualifier
qualifier_is : (high : ℕ) (q : AckQualifier) → qualifier_of high ≡ Some q → high ≡ 8 + qualifier_number q
qualifier_is high q e = elim (chosen (eqb high 8) _ _ (Some q) e) [
  | inl is ↦ eqb-true _ _ is.0 ∙ ap (λ (x : AckQualifier). 8 + qualifier_number x) (some_is Ack q is.1)
  | inr not8 ↦ elim (chosen (eqb high 9) _ _ (Some q) not8.1) [
    | inl is ↦ eqb-true _ _ is.0 ∙ ap (λ (x : AckQualifier). 8 + qualifier_number x) (some_is Nak q is.1)
    | inr not9 ↦ elim (chosen (eqb high 10) _ _ (Some q) not9.1) [
      | inl is ↦ eqb-true _ _ is.0 ∙ ap (λ (x : AckQualifier). 8 + qualifier_number x) (some_is OtherAck q is.1)
      | inr not10 ↦ elim (chosen (eqb high 11) _ _ (Some q) not10.1) [
        | inl is ↦ eqb-true _ _ is.0 ∙ ap (λ (x : AckQualifier). 8 + qualifier_number x) (some_is OtherNak q is.1)
        | inr other ↦ absurd (let bad : None ≡ Some q = other.1 in cc)
      ]
    ]
  ]
]

qualifier_again : (q : AckQualifier) → qualifier_of (8 + qualifier_number q) ≡ Some q
qualifier_again Ack = refl
qualifier_again Nak = refl
qualifier_again OtherAck = refl
qualifier_again OtherNak = refl

qualifier_below : (q : AckQualifier) → qualifier_number q < 4
qualifier_below Ack = omega arith
qualifier_below Nak = omega arith
qualifier_below OtherAck = omega arith
qualifier_below OtherNak = omega arith

mapped : {A B : Type 0} (f : A → B) (o : Option A) (y : B) → option_map f o ≡ Some y → (x : A) × (o ≡ Some x) × (f x ≡ y)
mapped f (Some x) y e = (x, refl, some_is (f x) y e)
mapped f None y e = absurd cc

pub ack_is : (n : ℕ) (ack : AckWord) → ack_of n ≡ Some ack → (ack_word ack ≡ n) × IsAckWord ack
ack_is n ack e =
    let m = mapped (λ (q : AckQualifier). let a : AckWord = record { qualifier = q; number = n % 0x1000 } in a) (qualifier_of (n / 0x1000)) ack e in
    let high = qualifier_is (n / 0x1000) m.0 m.1 in
    let made : AckWord = record { qualifier = m.0; number = n % 0x1000 } in
    let whole : 0x8000 + 0x1000 * qualifier_number m.0 + n % 0x1000 ≡ n = omega (arith, high) in
    subst (λ (a : AckWord). (ack_word a ≡ n) × IsAckWord a) m.2 (whole, omega arith)

pub ack_of_word : (ack : AckWord) → IsAckWord ack → ack_of (ack_word ack) ≡ Some ack
ack_of_word ack fits =
    let high : ack_word ack / 0x1000 ≡ 8 + qualifier_number ack.qualifier = omega arith in
    let low : ack_word ack % 0x1000 ≡ ack.number = omega arith in
    rw (high, low, qualifier_again ack.qualifier) refl

pub ack_word_fits : (ack : AckWord) → IsAckWord ack → (0x8000 ≤ ack_word ack) × (ack_word ack < 2 ^ 16)
ack_word_fits ack fits = (omega arith, omega (arith, qualifier_below ack.qualifier))

ok_or_is : (o : Option AckWord) (ack : AckWord) → ok_or o BadAckWord ≡ Ok ack → o ≡ Some ack
ok_or_is (Some x) ack e = ap (λ (a : AckWord). Some a) (ok_is {Z = NspFault} x ack e)
ok_or_is None ack e = absurd cc

pub ack_takes : (bytes : List ℕ) (x : AckWord × List ℕ) → IsBytes bytes → ack_at bytes ≡ Ok x → Takes bytes (word (ack_word x.0)) x.1 × IsAckWord x.0
ack_takes bytes x fits e =
    let a = bind_ok (word_at MissingField bytes) (λ n. ok_or (ack_of n.0) BadAckWord >>= λ ack. Ok (ack, n.1)) x e in
    let b = bind_ok (ok_or (ack_of a.0.0) BadAckWord) (λ ack. Ok (ack, a.0.1)) x a.2 in
    let n = word_takes MissingField bytes a.0 fits a.1 in
    let is = ack_is a.0.0 b.0 (ok_or_is (ack_of a.0.0) b.0 b.1) in
    let made : AckWord × List ℕ = (b.0, a.0.1) in
    subst (λ (y : AckWord × List ℕ). Takes bytes (word (ack_word y.0)) y.1 × IsAckWord y.0) (ok_is {Z = NspFault} made x b.2) (rw is.0 n.0, is.1)

pub ack_again : (ack : AckWord) (rest : List ℕ) → IsAckWord ack → ack_at (word (ack_word ack) ++ rest) ≡ Ok (ack, rest)
ack_again ack rest fits =
    let whole = word_fits (ack_word ack) (ack_word_fits ack fits).1 in
    rw (whole, ack_of_word ack fits) refl

-- ---- the words of a segment

pub acks_take : (room : ℕ) (bytes : List ℕ) (x : List AckWord × List ℕ) → IsBytes bytes → acks_at room bytes ≡ Ok x →
    Takes bytes (ack_bytes x.0) x.1 × AllByRecursion IsAckWord x.0 × (length x.0 ≤ room)
acks_take zero bytes x fits e =
    subst (λ (y : List AckWord × List ℕ). Takes bytes (ack_bytes y.0) y.1 × AllByRecursion IsAckWord y.0 × (length y.0 ≤ 0))
    (ok_is {Z = NspFault} ([], bytes) x e) (record { parts = refl; rest_fits = fits }, tt, omega arith)
acks_take (suc room) bytes x fits e = elim (chosen (is_ack_next bytes) _ _ (Ok x) e) [
  | inl is ↦
      let a = bind_ok (ack_at bytes) (λ first. acks_at room first.1 >>= λ others. Ok (first.0 ∷ others.0, others.1)) x is.1 in
      let b = bind_ok (acks_at room a.0.1) (λ others. Ok (a.0.0 ∷ others.0, others.1)) x a.2 in
      let first = ack_takes bytes a.0 fits a.1 in
      let others = acks_take room a.0.1 b.0 first.0.rest_fits b.1 in
      let both = Takes-then bytes (word (ack_word a.0.0)) a.0.1 (ack_bytes b.0.0) b.0.1 first.0 others.0 in
      let made : List AckWord × List ℕ = (a.0.0 ∷ b.0.0, b.0.1) in
      subst (λ (y : List AckWord × List ℕ). Takes bytes (ack_bytes y.0) y.1 × AllByRecursion IsAckWord y.0 × (length y.0 ≤ suc room))
      (ok_is {Z = NspFault} made x b.2) (both, (first.1, others.1), omega (arith, others.2))
  | inr none ↦
      subst (λ (y : List AckWord × List ℕ). Takes bytes (ack_bytes y.0) y.1 × AllByRecursion IsAckWord y.0 × (length y.0 ≤ suc room))
      (ok_is {Z = NspFault} ([], bytes) x none.1) (record { parts = refl; rest_fits = fits }, tt, omega arith)
]

-- Where a word with bit 15 clear follows, no more acknowledgement words are read than were written.
pub acks_again : (room : ℕ) (acks : List AckWord) (rest : List ℕ) → AllByRecursion IsAckWord acks → length acks ≤ room → is_ack_next rest ≡ false →
    acks_at room (ack_bytes acks ++ rest) ≡ Ok (acks, rest)
acks_again zero [] rest fits le ends = refl
acks_again (suc room) [] rest fits le ends = rw ends refl
acks_again zero (ack ∷ acks) rest fits le ends = absurd (omega (arith, le))
acks_again (suc room) (ack ∷ acks) rest fits le ends =
    let next : leb 128 (ack_word ack / 256 % 256) ≡ true = le-leb _ _ (omega (arith, (ack_word_fits ack fits.0).0, (ack_word_fits ack fits.0).1)) in
    let others = acks_again room acks rest fits.1 (omega arith) ends in
    rw next (ap (λ r. r >>= λ (first : AckWord × List ℕ). acks_at room first.1 >>= λ others. Ok (first.0 ∷ others.0, others.1))
    (ack_again ack (ack_bytes acks ++ rest) fits.0) ∙ rw others refl)

-- ---- the words of a data acknowledgement

second_takes : (first : AckWord) (bytes : List ℕ) (x : List AckWord × List ℕ) → IsBytes bytes → IsAckWord first → second_ack_at first bytes ≡ Ok x →
    Takes (word (ack_word first) ++ bytes) (ack_bytes x.0) x.1 × AllByRecursion IsAckWord x.0 × (1 ≤ length x.0) × (length x.0 ≤ 2)
second_takes first [] x fits one e =
    subst (λ (y : List AckWord × List ℕ). Takes (word (ack_word first) ++ []) (ack_bytes y.0) y.1 × AllByRecursion IsAckWord y.0 × (1 ≤ length y.0) ×
    (length y.0 ≤ 2)) (ok_is {Z = NspFault} (first ∷ [], []) x e) (record { parts = refl; rest_fits = fits }, (one, tt), omega arith, omega arith)
second_takes first (byte ∷ rest) x fits one e =
    let b = bind_ok (ack_at (byte ∷ rest)) (λ second. Ok (first ∷ second.0 ∷ [], second.1)) x e in
    let second = ack_takes (byte ∷ rest) b.0 fits b.1 in
    let made : List AckWord × List ℕ = (first ∷ b.0.0 ∷ [], b.0.1) in
    subst (λ (y : List AckWord × List ℕ). Takes (word (ack_word first) ++ (byte ∷ rest)) (ack_bytes y.0) y.1 × AllByRecursion IsAckWord y.0 ×
    (1 ≤ length y.0) × (length y.0 ≤ 2)) (ok_is {Z = NspFault} made x b.2) (
      record { parts = ap (λ (t : List ℕ). word (ack_word first) ++ t) second.0.parts; rest_fits = second.0.rest_fits },
      (one, (second.1, tt)),
      omega arith,
      omega arith,
    )

pub data_acks_take : (bytes : List ℕ) (x : List AckWord × List ℕ) → IsBytes bytes → data_acks_at bytes ≡ Ok x → Takes bytes (ack_bytes x.0) x.1 ×
    AllByRecursion IsAckWord x.0 × (1 ≤ length x.0) × (length x.0 ≤ 2)
data_acks_take bytes x fits e =
    let a = bind_ok (ack_at bytes) (λ first. second_ack_at first.0 first.1) x e in
    let first = ack_takes bytes a.0 fits a.1 in
    let both = second_takes a.0.0 a.0.1 x first.0.rest_fits first.1 a.2 in
    (record { parts = first.0.parts ∙ both.0.parts; rest_fits = both.0.rest_fits }, both.1, both.2, both.3)

pub data_acks_again : (acks : List AckWord) → AllByRecursion IsAckWord acks → 1 ≤ length acks → length acks ≤ 2 →
    data_acks_at (ack_bytes acks) ≡ Ok (acks, [])
data_acks_again [] fits least most = absurd (omega (arith, least))
data_acks_again (one ∷ []) fits least most = rw (ack_again one [] fits.0) refl
data_acks_again (one ∷ two ∷ []) fits least most = rw (ack_again one (word (ack_word two)) fits.0) (rw (ack_again two [] fits.1.0) refl)
data_acks_again (one ∷ two ∷ three ∷ acks) fits least most = absurd (omega (arith, most))

-- ---- one word after the other

pub ack_bytes-append : (front back : List AckWord) → ack_bytes (front ++ back) ≡ ack_bytes front ++ ack_bytes back
ack_bytes-append [] back = refl
ack_bytes-append (ack ∷ front) back = ap (λ (t : List ℕ). word (ack_word ack) ++ t) (ack_bytes-append front back)

pub ack_bytes_more : (acks : List AckWord) (i : ℕ) (d : AckWord) → i < length acks → ack_bytes (take (i + 1) acks) ≡ ack_bytes (take i acks) ++
    word (ack_word (get_or acks i d))
ack_bytes_more acks i d lt = ap ack_bytes (take_more acks i d lt) ∙ ack_bytes-append (take i acks) (get_or acks i d ∷ [])
