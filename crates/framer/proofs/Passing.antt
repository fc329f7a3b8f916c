-- Bytes that are passed over, and what is found behind them.
use Rattle.std.proofs.Common.{◌≡◌, ℕ, ◌+◌, ◌-◌, ◌<◌, ◌≤◌, Some, List, [], ◌∷◌, ◌++◌, length, get_or, take, drop, refl, sym, ap, subst, ◌∙◌, arith}
use Rattle.std.proofs.lemmas.List.{length-append, length-drop, append-nil, append_assoc, drop_more, take_all, take_at, drop_at, take-append-drop}
use Rattle.std.proofs.lemmas.List.{get_or-take, length-take-le}
use Rattle.framer.specs.declared.kind.Kind.{Kind}
use Rattle.framer.specs.declared.front.Front.TheVariants.{Between, Stray, Whole, Cut}
use Rattle.framer.specs.Framing.{Framing, UnitAt, kind_of, front, framing, behind_strays, behind_unit, joined, unit_at, units_at}
use Rattle.framer.specs.Given.{EndsWith, Passes, IsUnitFound, NoneFound}
use Rattle.framer.specs.inner.Held.{IsHeld}
use Rattle.framer.proofs.Fronts.{whole_len, front_more}
use Rattle.framer.proofs.Framings.{framing-append, framing-between, framing-stray, framing-whole, framing-cut, strays_none, strays_both}
use Rattle.framer.proofs.Framings.{strays_joined}
use Rattle.framer.proofs.Places.{at-append, at-between, at-stray, at-whole, left_within}

-- ---- what bytes end with

pub ends_on : (a b c : List ℕ) → EndsWith a b → EndsWith b c → EndsWith a c
ends_on a b c p q = (p.0 ++ q.0, p.1 ∙ ap (λ (t : List ℕ). p.0 ++ t) q.1 ∙ sym (append_assoc p.0 q.0 c))

pub ends_more : (a b more : List ℕ) → EndsWith a b → EndsWith (a ++ more) (b ++ more)
ends_more a b more p = (p.0, ap (λ (t : List ℕ). t ++ more) p.1 ∙ append_assoc p.0 b more)

pub ends_len : (a b : List ℕ) → EndsWith a b → length b ≤ length a
ends_len a b p = omega (arith, ap length p.1, length-append p.0 b)

pub ends_drop : (n : ℕ) (bytes : List ℕ) → EndsWith bytes (drop n bytes)
ends_drop n bytes = (take n bytes, sym (take-append-drop n bytes))

-- ---- what is passed over

same_at : (m n : ℕ) (bytes : List ℕ) → m ≡ n → units_at m bytes ≡ units_at n bytes
same_at m n bytes e = ap (λ (k : ℕ). units_at k bytes) e

none_between : (place n : ℕ) → place ≡ place + (n - n)
none_between place n = omega arith

pub passes_none : (bytes : List ℕ) → Passes bytes 0 bytes
passes_none bytes = record {
  framed = sym (strays_none (framing bytes));
  ends = ([], refl);
  places = λ place. same_at place (place + (length bytes - length bytes)) bytes (none_between place (length bytes));
}

pub passes_on : (a b c : List ℕ) (m n : ℕ) → Passes a m b → Passes b n c → Passes a (m + n) c
passes_on a b c m n p q = record {
  framed = p.framed ∙ ap (behind_strays m) q.framed ∙ strays_both m n (framing c);
  ends = ends_on a b c p.ends q.ends;
  places = λ place. p.places place ∙ q.places (place + (length a - length b)) ∙ same_at _ _ c (both place);
}
  where
    both : (place : ℕ) → place + (length a - length b) + (length b - length c) ≡ place + (length a - length c)
    both place = let first = ends_len a b p.ends in let then_c = ends_len b c q.ends in omega arith

-- the same bytes, said otherwise
pub passes_same : (a b c : List ℕ) (n : ℕ) → Passes a n b → b ≡ c → Passes a n c
passes_same a b c n p e = subst (Passes a n) e p

pub passes_more : (bytes behind more : List ℕ) (n : ℕ) → Passes bytes n behind → Passes (bytes ++ more) n (behind ++ more)
passes_more bytes behind more n p =
    record {
      framed = framing-append bytes more
          ∙ ap (λ (f : Framing). joined f (framing (f.left ++ more))) p.framed
          ∙ sym (strays_joined n (framing behind) (framing ((framing behind).left ++ more)))
          ∙ ap (behind_strays n) (sym (framing-append behind more));
      ends = ends_more bytes behind more p.ends;
      places = λ place.
          at-append place bytes more
          ∙ ap (λ (us : List UnitAt). us ++ units_at (place + (length bytes - length (framing bytes).left)) ((framing bytes).left ++ more))
          (p.places place)
          ∙ ap (λ (us : List UnitAt). units_at (place + (length bytes - length behind)) behind ++ us) (left_on place)
          ∙ sym (at-append (place + (length bytes - length behind)) behind more)
          ∙ same_at _ _ (behind ++ more) (longer place);
    }
  where
    left_same : (framing bytes).left ≡ (framing behind).left
    left_same = ap (λ (f : Framing). f.left) p.framed

    left_on : (place : ℕ) → units_at (place + (length bytes - length (framing bytes).left)) ((framing bytes).left ++ more)
        ≡ units_at (place + (length bytes - length behind) + (length behind - length (framing behind).left)) ((framing behind).left ++ more)
    left_on place =
        let within = left_within behind in
        let shorter = ends_len bytes behind p.ends in
        let at : place + (length bytes - length (framing behind).left)
        ≡ place + (length bytes - length behind) + (length behind - length (framing behind).left) = omega arith in
        rw left_same (same_at _ _ ((framing behind).left ++ more) at)

    longer : (place : ℕ) → place + (length bytes - length behind) ≡ place + (length (bytes ++ more) - length (behind ++ more))
    longer place =
        let shorter = ends_len bytes behind p.ends in
        omega (arith, length-append bytes more, length-append behind more)

one_on : (bytes : List ℕ) (at place : ℕ) → at < length bytes →
    place + (length bytes - length (drop at bytes)) + 1 ≡ place + (length bytes - length (drop (at + 1) bytes))
one_on bytes at place h = omega (arith, length-drop at bytes, length-drop (at + 1) bytes)

pub pass_between : (bytes : List ℕ) (at strays : ℕ) → at < length bytes → Passes bytes strays (drop at bytes) → front (drop at bytes) ≡ Between →
    Passes bytes strays (drop (at + 1) bytes)
pass_between bytes at strays h p e =
    let next = drop_more bytes at 0 h in
    record {
      framed = p.framed ∙ ap (λ (b : List ℕ). behind_strays strays (framing b)) next
          ∙ ap (behind_strays strays) (framing-between (get_or bytes at 0) (drop (at + 1) bytes) (ap front (sym next) ∙ e));
      ends = ends_drop (at + 1) bytes;
      places = λ place.
          p.places place ∙ ap (units_at (place + (length bytes - length (drop at bytes)))) next
          ∙ at-between (place + (length bytes - length (drop at bytes))) (get_or bytes at 0) (drop (at + 1) bytes) (ap front (sym next) ∙ e)
          ∙ same_at _ _ (drop (at + 1) bytes) (one_on bytes at place h);
    }

pub pass_stray : (bytes : List ℕ) (at strays : ℕ) → at < length bytes → Passes bytes strays (drop at bytes) → front (drop at bytes) ≡ Stray →
    Passes bytes (strays + 1) (drop (at + 1) bytes)
pass_stray bytes at strays h p e =
    let next = drop_more bytes at 0 h in
    record {
      framed = p.framed ∙ ap (λ (b : List ℕ). behind_strays strays (framing b)) next
          ∙ ap (behind_strays strays) (framing-stray (get_or bytes at 0) (drop (at + 1) bytes) (ap front (sym next) ∙ e))
          ∙ strays_both strays 1 (framing (drop (at + 1) bytes));
      ends = ends_drop (at + 1) bytes;
      places = λ place.
          p.places place ∙ ap (units_at (place + (length bytes - length (drop at bytes)))) next
          ∙ at-stray (place + (length bytes - length (drop at bytes))) (get_or bytes at 0) (drop (at + 1) bytes) (ap front (sym next) ∙ e)
          ∙ same_at _ _ (drop (at + 1) bytes) (one_on bytes at place h);
    }

-- one byte more is held, and then some are passed over
pub header_step : (start room held new piece : List ℕ) (count strays more : ℕ) → count < length piece →
    Passes start strays (room ++ drop count piece) → held ≡ room ++ get_or piece count 0 ∷ [] →
    ((rest : List ℕ) → Passes (held ++ rest) more (new ++ rest)) → Passes start (strays + more) (new ++ drop (count + 1) piece)
header_step start room held new piece count strays more h p is settled =
    let rest = drop (count + 1) piece in
    let next : room ++ drop count piece ≡ held ++ rest =
    ap (λ (b : List ℕ). room ++ b) (drop_more piece count 0 h) ∙ sym (append_assoc room (get_or piece count 0 ∷ []) rest)
    ∙ ap (λ (b : List ℕ). b ++ rest) (sym is) in
    passes_on start (held ++ rest) (new ++ rest) strays more (passes_same start (room ++ drop count piece) (held ++ rest) strays p next)
    (settled rest)

-- ---- what is found

whole_no_cut : (len : ℕ) → Whole len ≡ Cut → ⊥
whole_no_cut len e = absurd cc

-- a unit that is whole, before any bytes
unit_first : (unit rest : List ℕ) → front unit ≡ Whole (length unit) → framing (unit ++ rest) ≡ behind_unit unit (framing rest)
unit_first unit rest w =
    framing-whole (unit ++ rest) (length unit) (front_more unit rest (λ c. whole_no_cut (length unit) (sym w ∙ c)) ∙ w)
    ∙ ap (λ (b : List ℕ). behind_unit b (framing (drop (length unit) (unit ++ rest)))) (take_at unit rest (length unit) refl)
    ∙ ap (λ (b : List ℕ). behind_unit unit (framing b)) (drop_at unit rest (length unit) refl)

at_first : (unit rest : List ℕ) → front unit ≡ Whole (length unit) → (place : ℕ) →
    units_at place (unit ++ rest) ≡ unit_at place unit ∷ units_at (place + length unit) rest
at_first unit rest w place =
    at-whole place (unit ++ rest) (length unit) (front_more unit rest (λ c. whole_no_cut (length unit) (sym w ∙ c)) ∙ w)
    ∙ ap (λ (b : List ℕ). unit_at place b ∷ units_at (place + length unit) (drop (length unit) (unit ++ rest))) (take_at unit rest (length unit) refl)
    ∙ ap (λ (b : List ℕ). unit_at place unit ∷ units_at (place + length unit) b) (drop_at unit rest (length unit) refl)

-- the unit at the front of what is left of a piece
pub unit_found : (bytes piece : List ℕ) (at strays passed len : ℕ) (kind : Kind) → Passes bytes strays piece → Passes piece passed (drop at piece) →
    front (drop at piece) ≡ Whole len → kind_of (get_or (drop at piece) 0 0) ≡ Some kind →
    IsUnitFound bytes kind (strays + passed) (take len (drop at piece)) (drop len (drop at piece))
unit_found bytes piece at strays passed len kind p next whole start =
    let come = drop at piece in
    let w = whole_len come len whole in
    let parts = take-append-drop len come in
    let all = passes_on bytes piece come strays passed p next in
    let within = ends_len bytes piece p.ends in
    record {
      passed = passes_same bytes come (take len come ++ drop len come) (strays + passed) all (sym parts);
      framed = ap framing parts ∙ framing-whole come len whole;
      places = λ place.
          let long : length (take len come) ≡ len = length-take-le len come w.1 in
          ap (units_at place) parts ∙ at-whole place come len whole
          ∙ ap (λ (us : List UnitAt). unit_at place (take len come) ∷ us) (same_at _ _ (drop len come) (ap (λ (k : ℕ). place + k) (sym long)));
      kind_is = rw (get_or-take len come 0 0 (omega arith)) start;
      shorter = omega (arith, length-drop len come, length-drop at piece);
    }

pub none_found : (bytes piece : List ℕ) (at strays passed : ℕ) → Passes bytes strays piece → Passes piece passed (drop at piece) →
    front (drop at piece) ≡ Cut → NoneFound bytes (strays + passed) (drop at piece)
none_found bytes piece at strays passed p next cut =
    record { passed = passes_on bytes piece (drop at piece) strays passed p next; left = framing-cut (drop at piece) cut }

-- nothing is left of the piece, and what is held is a beginning
pub only_held : (bytes held rest : List ℕ) (strays : ℕ) → Passes bytes strays (held ++ rest) → rest ≡ [] → IsHeld held → NoneFound bytes strays held
only_held bytes held rest strays p none h =
    record {
      passed = passes_same bytes (held ++ rest) held strays p (ap (λ (b : List ℕ). held ++ b) none ∙ append-nil held);
      left = framing-cut held h.cut;
    }

-- the unit that is held was completed by so many bytes of the rest
pub completed_found : (bytes held rest unit : List ℕ) (strays count : ℕ) (kind : Kind) → Passes bytes strays (held ++ rest) →
    unit ≡ held ++ take count rest → front unit ≡ Whole (length unit) → kind_of (get_or unit 0 0) ≡ Some kind → 8 ≤ length held →
    IsUnitFound bytes kind strays unit (drop count rest)
completed_found bytes held rest unit strays count kind p is whole start long =
    let behind = drop count rest in
    let all : held ++ rest ≡ unit ++ behind =
    ap (λ (b : List ℕ). held ++ b) (sym (take-append-drop count rest)) ∙ sym (append_assoc held (take count rest) behind)
    ∙ ap (λ (b : List ℕ). b ++ behind) (sym is) in
    let within = ends_len bytes (held ++ rest) p.ends in
    record {
      passed = passes_same bytes (held ++ rest) (unit ++ behind) strays p all;
      framed = unit_first unit behind whole;
      places = at_first unit behind whole;
      kind_is = start;
      shorter = omega (arith, length-append held rest, length-drop count rest);
    }

-- where all of the rest was taken
pub completed_none : (bytes held rest new : List ℕ) (strays count : ℕ) → Passes bytes strays (held ++ rest) → new ≡ held ++ take count rest →
    count ≡ length rest → IsHeld new → NoneFound bytes strays new
completed_none bytes held rest new strays count p is all h =
    let taken : held ++ rest ≡ new = ap (λ (b : List ℕ). held ++ b) (sym (take_all count rest (omega arith))) ∙ sym is in
    record { passed = passes_same bytes (held ++ rest) new strays p taken; left = framing-cut new h.cut }
