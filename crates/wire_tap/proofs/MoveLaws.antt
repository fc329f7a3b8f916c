-- Units that pass on one side, one after another.
use Rattle.std.proofs.Common.{◌≡◌, ℕ, ◌+◌, ◌^◌, ◌<◌, List, [], ◌∷◌, ◌++◌, length, refl, sym, ap, subst, ◌∙◌, arith}
use Rattle.std.proofs.Common.{append_assoc, append-nil, length-append}
use Rattle.capture_record.specs.declared.record.Record.{Record}
use Rattle.capture_record.specs.declared.record.Record.TheVariants.{Sent, Received, Noise, User}
use Rattle.capture.specs.declared.hint.HintForm.TheVariants.{Number}
use Rattle.capture.specs.Text.{record_line, record_lines}
use Rattle.framer.specs.Framing.{kind_of}
use Rattle.placing.specs.Placed.{AllCome, HavePassed, NameUnits, Puts, Units, Waiting, other_count, records_of, units_sent, with_other, with_own}
use Rattle.placing.specs.inner.Coming.{HoldsOn}
use Rattle.placing.proofs.Coming.{come-append, other_holds, own_holds, puts_come, puts_count, puts_rise, rise-append}
use Rattle.placing.proofs.Names.{other_passed, own_passed, puts_name, puts_passed}
use Rattle.placing.proofs.Puts.{puts_units}
use Rattle.std.specs.Prelude.{slice_index, Result, Ok, Err, IfOk, OnOk}
use Rattle.wire_tap.specs.Units.{message_of, messages}
use Rattle.wire_tap.specs.inner.Moving.{PutsAll}
use Rattle.wire_base.specs.declared.side.Side.{Side}
use Rattle.wire_text.specs.WireText.{Piece}
use Rattle.wire_tap.specs.Tapping.{HadPassed}
use Rattle.wire_tap.specs.inner.Side.{HoldsOfMore, MovesOn, PassUnits, UnitsState, counted}
use Rattle.wire_tap.proofs.NameLaws.{lasts, names-append, names_later}

-- ---- records

pub sent-append : (rs more : List Record) → units_sent (rs ++ more) ≡ units_sent rs ++ units_sent more
sent-append [] more = refl
sent-append (Sent bytes ∷ rs) more = ap (λ (units : List (List ℕ)). bytes ∷ units) (sent-append rs more)
sent-append (Received hint fate bytes ∷ rs) more = sent-append rs more
sent-append (Noise bytes ∷ rs) more = sent-append rs more
sent-append (User event ∷ rs) more = sent-append rs more

pub lines-append : (rs more : List Record) → record_lines Number (rs ++ more) ≡ record_lines Number rs ++ record_lines Number more
lines-append [] more = refl
lines-append (r ∷ rs) more =
    ap (λ (text : List ℕ). record_line Number r ++ text) (lines-append rs more)
    ∙ sym (append_assoc (record_line Number r) (record_lines Number rs) (record_lines Number more))

-- ---- units

pub messages-append : (units more : List (List ℕ)) → messages (units ++ more) ≡ messages units ++ messages more
messages-append [] more = refl
messages-append (unit ∷ units) more =
    ap (λ (rest : List (List ℕ)). message_of (kind_of (slice_index unit 0)) unit ++ rest) (messages-append units more)
    ∙ sym (append_assoc (message_of (kind_of (slice_index unit 0)) unit) (messages units) (messages more))

-- ---- one side

none_more : (side : Side) (pieces : List Piece) (sent : ℕ) (units : Units) → HoldsOn (HadPassed side pieces) sent units →
    HoldsOn (HadPassed side pieces) (sent + 0) units
none_more side pieces sent units h =
    let none : sent ≡ sent + 0 = omega arith in subst (λ (k : ℕ). HoldsOn (HadPassed side pieces) k units) none h

pub moves_nothing : (w : Waiting) → MovesOn [] [] w w
moves_nothing w = record {
  records = [];
  sent = sym (append-nil w.units.own);
  text = sym (append-nil w.text);
  named = λ all h. tt;
  passed = λ all h. subst (λ (units : List (List ℕ)). HavePassed units w.units) (sym (append-nil all)) h;
  count = omega arith;
  rise = omega arith;
  come = λ side pieces sent h more. (tt, none_more side pieces sent w.units h);
}

pub moves_own : (unit : List ℕ) (w : Waiting) → MovesOn (unit ∷ []) [] w (with_own unit w)
moves_own unit w = record {
  records = [];
  sent = refl;
  text = sym (append-nil w.text);
  named = λ all h. tt;
  passed = λ all h. subst (λ (units : List (List ℕ)). HavePassed units (with_own unit w).units) (sym (append-nil all)) (own_passed all unit w h);
  count = omega arith;
  rise = omega arith;
  come = λ side pieces sent h more.
      (tt, none_more side pieces sent (with_own unit w).units (own_holds (HadPassed side pieces) (lasts side pieces) sent unit w h));
}

pub moves_other : (unit : List ℕ) (w : Waiting) → MovesOn [] (unit ∷ []) w (with_other unit w)
moves_other unit w = record {
  records = [];
  sent = sym (append-nil w.units.own);
  text = sym (append-nil w.text);
  named = λ all h. tt;
  passed = λ all h. other_passed all unit w h;
  count = let more = length-append w.units.other (unit ∷ []) in omega (arith, more);
  rise = omega arith;
  come = λ side pieces sent h more.
      (tt, none_more side pieces sent (with_other unit w).units (other_holds (HadPassed side pieces) sent unit w h more));
}

pub moves_put : (old new : Waiting) → Puts old new → MovesOn [] [] old new
moves_put old new p = record {
  records = records_of p.acts;
  sent = puts_units old new p ∙ sym (append-nil old.units.own);
  text = p.text;
  named = λ all h. names_later all [] (records_of p.acts) (puts_name all old new p h);
  passed = λ all h. subst (λ (units : List (List ℕ)). HavePassed units new.units) (sym (append-nil all)) (puts_passed all old new p h);
  count = let same = puts_count old new p in omega (arith, same);
  rise = puts_rise old new p;
  come = λ side pieces sent h more. puts_come (HadPassed side pieces) sent old new p h;
}

module _ (first second other later : List (List ℕ)) (a b c : Waiting) (p : MovesOn first other a b) (q : MovesOn second later b c) where
  both_named : (all : List (List ℕ)) → HavePassed all a.units → NameUnits (all ++ (other ++ later)) (p.records ++ q.records)
  both_named all h =
      subst (λ (units : List (List ℕ)). NameUnits units (p.records ++ q.records)) (append_assoc all other later)
      (names-append ((all ++ other) ++ later) p.records q.records (names_later (all ++ other) later p.records (p.named all h))
      (q.named (all ++ other) (p.passed all h)))

  both_passed : (all : List (List ℕ)) → HavePassed all a.units → HavePassed (all ++ (other ++ later)) c.units
  both_passed all h =
      subst (λ (units : List (List ℕ)). HavePassed units c.units) (append_assoc all other later) (q.passed (all ++ other) (p.passed all h))

  both_count : other_count c.units ≡ other_count a.units + length (other ++ later)
  both_count =
      let one = p.count in let two = q.count in let both = length-append other later in omega (arith, one, two, both)

  both_come : (side : Side) (pieces : List Piece) (sent : ℕ) → HoldsOn (HadPassed side pieces) sent a.units →
      HoldsOfMore side pieces sent (other ++ later) a.units → AllCome (HadPassed side pieces) sent (p.records ++ q.records)
      × HoldsOn (HadPassed side pieces) (sent + length (units_sent (p.records ++ q.records))) c.units
  both_come side pieces sent h more =
      let both = length-append other later in
      let one = p.come side pieces sent h (λ number less. more number (omega (arith, less, both))) in
      let two = q.come side pieces (sent + length (units_sent p.records)) one.1 (more_mid side pieces sent more) in (
        come-append (HadPassed side pieces) sent p.records q.records one.0 two.0,
        subst (λ (k : ℕ). HoldsOn (HadPassed side pieces) k c.units) (sent_both sent) two.1,
      )
    where
      more_mid : (side : Side) (pieces : List Piece) (sent : ℕ) → HoldsOfMore side pieces sent (other ++ later) a.units →
          HoldsOfMore side pieces (sent + length (units_sent p.records)) later b.units
      more_mid side pieces sent more number less =
          let count = p.count in
          let both = length-append other later in
          let len = ap length p.sent in
          let before = length-append (units_sent p.records) b.units.own in
          let after = length-append a.units.own first in
          lasts side pieces (sent + length a.units.own) (sent + length (units_sent p.records) + length b.units.own) number
          (omega (arith, len, before, after)) (more number (omega (arith, less, count, both)))

      sent_both : (sent : ℕ) → sent + length (units_sent p.records) + length (units_sent q.records)
          ≡ sent + length (units_sent (p.records ++ q.records))
      sent_both sent =
          let len = ap length (sent-append p.records q.records) in
          let both = length-append (units_sent p.records) (units_sent q.records) in
          omega (arith, len, both)

  pub moves_then : MovesOn (first ++ second) (other ++ later) a c
  moves_then = record {
    records = p.records ++ q.records;
    sent = ap (λ (units : List (List ℕ)). units ++ c.units.own) (sent-append p.records q.records)
        ∙ append_assoc (units_sent p.records) (units_sent q.records) c.units.own
        ∙ ap (λ (units : List (List ℕ)). units_sent p.records ++ units) q.sent
        ∙ sym (append_assoc (units_sent p.records) b.units.own second)
        ∙ ap (λ (units : List (List ℕ)). units ++ second) p.sent
        ∙ append_assoc a.units.own first second;
    text = q.text ∙ ap (λ (text : List ℕ). text ++ record_lines Number q.records) p.text
        ∙ append_assoc a.text (record_lines Number p.records) (record_lines Number q.records)
        ∙ ap (λ (text : List ℕ). a.text ++ text) (sym (lines-append p.records q.records));
    named = both_named;
    passed = both_passed;
    count = both_count;
    rise = rise-append a.units.gone b.units.gone c.units.gone p.records q.records p.rise q.rise;
    come = both_come;
  }

pub puts_all : (old new : Waiting) → Puts old new → new.units.own ≡ [] → PutsAll old new
puts_all old new puts none = record { moves = moves_put old new puts; all = none }

-- ---- with their count

counted-counted : (n more most : ℕ) → counted (counted n more) most ≡ counted n (more + most)
counted-counted n more most = omega arith

pub pass_then : (first second : List (List ℕ)) (a b c : UnitsState) → PassUnits first a b → PassUnits second b c → PassUnits (first ++ second) a c
pass_then first second a b c p q = record {
  moves = moves_then first second [] [] a.waiting b.waiting c.waiting p.moves q.moves;
  count = λ few.
      let first_count = p.count few in
      let below : b.count < 2 ^ 64 = omega arith in
      q.count below ∙ ap (λ n. counted n (length second)) first_count ∙ counted-counted a.count (length first) (length second)
      ∙ ap (counted a.count) (sym (length-append first second));
}

pub pass_nothing : (s : UnitsState) → PassUnits [] s s
pass_nothing s = record { moves = moves_nothing s.waiting; count = λ few. omega arith }

-- the same from a state that is no other
pub pass_from : (units : List (List ℕ)) (was old new : UnitsState) → was.waiting ≡ old.waiting → was.count ≡ old.count → PassUnits units was new →
    PassUnits units old new
pass_from units was old new waiting count p = record {
  moves = subst (λ (w : Waiting). MovesOn units [] w new.waiting) waiting p.moves;
  count = subst (λ (n : ℕ). n < 2 ^ 64 → new.count ≡ counted n (length units)) count p.count;
}

-- a unit of the side passed
pub pass_own : (unit : List ℕ) (old new : UnitsState) → new.waiting ≡ with_own unit old.waiting → new.count ≡ counted old.count 1 →
    PassUnits (unit ∷ []) old new
pass_own unit old new is count = record {
  moves = subst (MovesOn (unit ∷ []) [] old.waiting) (sym is) (moves_own unit old.waiting);
  count = λ few. count;
}

-- the same, and then lines were put
pub pass_one : (unit : List ℕ) (old new : UnitsState) (mid : Waiting) → mid ≡ with_own unit old.waiting → Puts mid new.waiting →
    new.count ≡ counted old.count 1 → PassUnits (unit ∷ []) old new
pass_one unit old new mid is puts count = record {
  moves = moves_then (unit ∷ []) [] [] [] old.waiting mid new.waiting
      (subst (MovesOn (unit ∷ []) [] old.waiting) (sym is) (moves_own unit old.waiting)) (moves_put mid new.waiting puts);
  count = λ few. count;
}

-- ---- answers

-- two facts of a value that was answered
pub if_ok_both : {X E : Type 0} (r : Result X E) (P Q R : X → Type 0) → ((x : X) → P x → Q x → R x) → IfOk r P → IfOk r Q → IfOk r R
if_ok_both (Ok x) P Q R f p q = f x p q
if_ok_both (Err e) P Q R f p q = tt

pub on_ok_from : {X E P : Type 0} (r : Result X E) → P → OnOk r P
on_ok_from (Ok x) p = p
on_ok_from (Err e) p = tt

pub on_ok_both : {X E P Q R : Type 0} (r : Result X E) → (P → Q → R) → OnOk r P → OnOk r Q → OnOk r R
on_ok_both (Ok x) f p q = f p q
on_ok_both (Err e) f p q = tt
