-- The fields of NSP messages: what is read is what was written, and what was written is read again.
use Rattle.std.proofs.Common.{◌≡◌, ℕ, ◌%◌, ◌<◌, Bool, true, false, eqb, leb, ltb, List, [], ◌∷◌, ◌++◌, Result, Ok, Err, refl, subst, arith, inl, inr}
use Rattle.std.proofs.lemmas.Bool.{eqb-true, ltb-true, leb-false, leb-true, lt-leb, le-leb, lt-ltb}
use Rattle.dna_packet.specs.declared.fault.NspFault.{NspFault}
use Rattle.dna_packet.specs.declared.fault.NspFault.TheVariants.{MissingField, BadSegnum, NonzeroDstaddr}
use Rattle.dna_packet.specs.Fields.{word, byte_at, word_at}
use Rattle.dna_packet.specs.Nsp.{addresses, connect_fields, segnum, AreAddresses, AreConnectFields}
use Rattle.dna_packet.specs.ReadingNsp.{addresses_at, no_more_at, is_ack_next, segnum_at, connect_fields_at, zero_address_at}
use Rattle.dna_packet.proofs.FieldsLemmas.{IsBytes, bind_ok, chosen, ok_is, Takes, Takes-then, byte_takes, word_takes, word_fits}

-- the value that a reader answered is the one that it made
pub made : {A : Type 0} (P : A → Type 0) (x y : A) → (let ok : A → Result A NspFault = λ v. Ok v in ok x ≡ ok y) → P x → P y
made P x y e p = subst P (ok_is {Z = NspFault} x y e) p

pub addresses_take : (bytes : List ℕ) (x : ℕ × ℕ × List ℕ) → IsBytes bytes → addresses_at bytes ≡ Ok x → Takes bytes (addresses x.0 x.1) x.2 ×
    AreAddresses x.0 x.1
addresses_take bytes x fits e =
    let a = bind_ok (word_at MissingField bytes) _ x e in
    let b = bind_ok (word_at MissingField a.0.1) _ x a.2 in
    let dst = word_takes MissingField bytes a.0 fits a.1 in
    let src = word_takes MissingField a.0.1 b.0 dst.0.rest_fits b.1 in
    let both = Takes-then bytes (word a.0.0) a.0.1 (word b.0.0) b.0.1 dst.0 src.0 in
    let read : ℕ × ℕ × List ℕ = (a.0.0, b.0.0, b.0.1) in
    made (λ (y : ℕ × ℕ × List ℕ). Takes bytes (addresses y.0 y.1) y.2 × AreAddresses y.0 y.1) read x b.2 (both, (dst.1, src.1))

pub addresses_again : (dst src : ℕ) (rest : List ℕ) → AreAddresses dst src → addresses_at (addresses dst src ++ rest) ≡ Ok (dst, src, rest)
addresses_again dst src rest fits = rw (word_fits dst fits.0, word_fits src fits.1) refl

pub connect_fields_take : (bytes : List ℕ) (x : ℕ × ℕ × ℕ × List ℕ) → IsBytes bytes → connect_fields_at bytes ≡ Ok x →
    Takes bytes (connect_fields x.0 x.1 x.2) x.3 × AreConnectFields x.0 x.1 x.2
connect_fields_take bytes x fits e =
    let a = bind_ok (byte_at MissingField bytes) _ x e in
    let b = bind_ok (byte_at MissingField a.0.1) _ x a.2 in
    let c = bind_ok (word_at MissingField b.0.1) _ x b.2 in
    let services = byte_takes MissingField bytes a.0 fits a.1 in
    let info = byte_takes MissingField a.0.1 b.0 services.0.rest_fits b.1 in
    let segsize = word_takes MissingField b.0.1 c.0 info.0.rest_fits c.1 in
    let two = Takes-then a.0.1 (b.0.0 ∷ []) b.0.1 (word c.0.0) c.0.1 info.0 segsize.0 in
    let three = Takes-then bytes (a.0.0 ∷ []) a.0.1 (b.0.0 ∷ word c.0.0) c.0.1 services.0 two in
    let read : ℕ × ℕ × ℕ × List ℕ = (a.0.0, b.0.0, c.0.0, c.0.1) in
    made (λ (y : ℕ × ℕ × ℕ × List ℕ). Takes bytes (connect_fields y.0 y.1 y.2) y.3 × AreConnectFields y.0 y.1 y.2) read x c.2
    (three, (services.1, info.1, segsize.1))

pub connect_fields_again : (services info segsize : ℕ) (rest : List ℕ) → AreConnectFields services info segsize →
    connect_fields_at (connect_fields services info segsize ++ rest) ≡ Ok (services, info, segsize, rest)
connect_fields_again services info segsize rest fits = rw (word_fits segsize fits.2) refl

pub no_more : (bytes : List ℕ) (x : Unit {0}) → no_more_at bytes ≡ Ok x → bytes ≡ []
no_more [] x e = refl
no_more (byte ∷ rest) x e = absurd cc

pub no_more_again : no_more_at [] ≡ Ok tt
no_more_again = refl

segnum_is : (n : ℕ) (b : Bool) → n < 0x2000 → leb 0x1000 n ≡ b → segnum (n % 0x1000) b ≡ n
segnum_is n true lt e = let le = leb-true 0x1000 n e in omega arith
segnum_is n false lt e = let below = leb-false 0x1000 n e in omega arith

pub segnum_takes : (bytes : List ℕ) (x : ℕ × Bool × List ℕ) → IsBytes bytes → segnum_at bytes ≡ Ok x → Takes bytes (word (segnum x.0 x.1)) x.2 ×
    (x.0 < 0x1000)
segnum_takes bytes x fits e =
    let a = bind_ok (word_at MissingField bytes) _ x e in
    let n = word_takes MissingField bytes a.0 fits a.1 in
    elim (chosen (ltb a.0.0 0x2000) _ _ (Ok x) a.2) [
      | inl is ↦
          let read : ℕ × Bool × List ℕ = (a.0.0 % 0x1000, leb 0x1000 a.0.0, a.0.1) in
          let whole = segnum_is a.0.0 (leb 0x1000 a.0.0) (ltb-true _ _ is.0) refl in
          made (λ (y : ℕ × Bool × List ℕ). Takes bytes (word (segnum y.0 y.1)) y.2 × (y.0 < 0x1000)) read x is.1 (rw whole n.0, omega arith)
      | inr differs ↦ absurd (let bad : Err BadSegnum ≡ Ok x = differs.1 in cc)
    ]

segnum_bit : (number : ℕ) (bit_12 : Bool) → number < 0x1000 → leb 0x1000 (segnum number bit_12) ≡ bit_12
segnum_bit number true lt = le-leb _ _ (omega arith)
segnum_bit number false lt = lt-leb _ _ (omega arith)

segnum_below : (number : ℕ) (bit_12 : Bool) → number < 0x1000 → (segnum number bit_12 < 0x2000) × (segnum number bit_12 % 0x1000 ≡ number)
segnum_below number true lt = (omega arith, omega arith)
segnum_below number false lt = (omega arith, omega arith)

pub segnum_again : (number : ℕ) (bit_12 : Bool) (rest : List ℕ) → number < 0x1000 → segnum_at (word (segnum number bit_12) ++ rest) ≡ Ok
    (number, bit_12, rest)
segnum_again number bit_12 rest lt =
    let below = segnum_below number bit_12 lt in
    let whole = word_fits (segnum number bit_12) (omega (arith, below.0)) in
    let right : ltb (segnum number bit_12) 0x2000 ≡ true = lt-ltb _ _ below.0 in
    rw (whole, right, below.1, segnum_bit number bit_12 lt) refl

-- SEGNUM is no acknowledgement word: its bit 15 is clear.
pub segnum_ends : (number : ℕ) (bit_12 : Bool) (rest : List ℕ) → number < 0x1000 → is_ack_next (word (segnum number bit_12) ++ rest) ≡ false
segnum_ends number bit_12 rest lt = lt-leb _ _ (omega (arith, (segnum_below number bit_12 lt).0))

pub zero_address_takes : (bytes rest : List ℕ) → IsBytes bytes → zero_address_at bytes ≡ Ok rest → Takes bytes (word 0) rest
zero_address_takes bytes rest fits e =
    let a = bind_ok (word_at MissingField bytes) _ rest e in
    let n = word_takes MissingField bytes a.0 fits a.1 in
    elim (chosen (eqb a.0.0 0) _ _ (Ok rest) a.2) [
      | inl is ↦
          let zero_is : a.0.0 ≡ 0 = eqb-true _ _ is.0 in
          made (λ (y : List ℕ). Takes bytes (word 0) y) a.0.1 rest is.1 (subst (λ (k : ℕ). Takes bytes (word k) a.0.1) zero_is n.0)
      | inr differs ↦ absurd (let bad : Err NonzeroDstaddr ≡ Ok rest = differs.1 in cc)
    ]
