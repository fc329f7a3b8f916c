-- The units in some bytes of a side, one after another.
use Rattle.std.proofs.Common.{◌≡◌, ℕ, ◌+◌, ◌<◌, ◌≤◌, ◌^◌, List, [], ◌∷◌, ◌++◌, length, Option, Some, refl, sym, ap, subst}
use Rattle.std.proofs.Common.{◌∙◌, arith, append-nil, length-append}
use Rattle.std.specs.Prelude.{slice_index}
use Rattle.wire_base.specs.declared.side.Side.{Side}
use Rattle.framer.specs.declared.kind.Kind.{Kind}
use Rattle.framer.specs.Framing.{Framing, framing, joined, kind_of}
use Rattle.framer.specs.Given.{IsUnitFound}
use Rattle.framer.specs.SoFar.{IsFramedSoFar, nothing, with_strays, with_unit}
use Rattle.framer.proofs.SoFarLaws.{strays_more, unit_more}
use Rattle.wire_tap.specs.Units.{message_of, messages}
use Rattle.wire_tap.specs.declared.tapped.Ending.{Ending}
use Rattle.wire_tap.specs.declared.tapped.Ending.TheVariants.{Whole, Unplaced, TooWide, Asked}
use Rattle.wire_tap.specs.declared.tapped.Passed.{Passed}
use Rattle.wire_tap.specs.inner.Side.{Aim, EndsAt, EndsWithUnit, IsUnitAt, MayEndAt, PassUnits, PassesAll, PassesFound}
use Rattle.wire_tap.specs.inner.Side.{PassesNone, PassesSome, PassesUnit, SideState, UnitsState}
use Rattle.wire_tap.proofs.MoveLaws.{messages-append, pass_from, pass_nothing, pass_then}

-- ---- a unit that is found

-- the units behind those that were found, where this one is found too
messages_one : (found : Framing) (kind : Kind) (strays : ℕ) (unit : List ℕ) → kind_of (slice_index unit 0) ≡ Some kind →
    messages (with_unit found strays unit).units ≡ messages found.units ++ message_of (Some kind) unit
messages_one found kind strays unit e =
    messages-append found.units (unit ∷ [])
    ∙ ap (λ (units : List (List ℕ)). messages found.units ++ units)
    (append-nil (message_of (kind_of (slice_index unit 0)) unit) ∙ ap (λ (k : Option Kind). message_of k unit) e)

-- ---- under way in some bytes

-- what was found of them, and how much of them is left at least for the turns that are left
pub record IsPassing (bytes come : List ℕ) (turns : ℕ) (old new : SideState) : Type 0 where
  pub passed : PassesFound bytes come old new
  pub few : length come + turns ≤ length bytes

framed_all : (bytes : List ℕ) → IsFramedSoFar bytes nothing bytes
framed_all bytes = record { framed = none (framing bytes); ends = ([], refl) }
  where
    none : (f : Framing) → f ≡ joined nothing f
    none f = let e : 0 + f.strays ≡ f.strays = omega arith in rw e refl

pub passing_begins : (bytes : List ℕ) (s : SideState) → IsPassing bytes bytes 0 s s
passing_begins bytes s = record {
  passed = record { found = nothing; framed = framed_all bytes; passes = pass_nothing s.units };
  few = omega arith;
}

unit_same : (side : Side) (n m : ℕ) (passed : Passed) → (m < 2 ^ 64 → m ≡ n) → IsUnitAt side n passed → IsUnitAt side m passed
unit_same side n m passed same is =
    (is.0, λ few. let e = same few in let at = is.1 (omega arith) in omega arith)

pub ends_same : (at : Aim) (n m : ℕ) (ending : Ending) → (m < 2 ^ 64 → m ≡ n) → EndsAt at n ending → EndsAt at m ending
ends_same at n m Whole same ends = absurd ends
ends_same at n m (Unplaced passed) same ends = unit_same at.side n m passed same ends
ends_same at n m (TooWide passed) same ends = unit_same at.side n m passed same ends
ends_same at n m (Asked passed) same ends = (unit_same at.side n m passed same ends.0, ends.1)

module _ (bytes come : List ℕ) (turns : ℕ) (old mid new : SideState) (h : IsPassing bytes come turns old mid) where
  one_more : (rest : List ℕ) → PassesUnit come rest mid new → PassesFound bytes rest old new
  one_more rest p = record {
    found = with_unit h.passed.found p.strays p.unit;
    framed = unit_more bytes come h.passed.found p.kind p.strays p.unit rest h.passed.framed p.found;
    passes = subst (λ (units : List (List ℕ)). PassUnits units old.units new.units)
        (sym (messages_one h.passed.found p.kind p.strays p.unit p.found.kind_is))
        (pass_then (messages h.passed.found.units) (message_of (Some p.kind) p.unit) old.units mid.units new.units h.passed.passes p.passes);
  }

  pub passing_on : (rest : List ℕ) → PassesUnit come rest mid new → IsPassing bytes (new.held ++ rest) (turns + 1) old new
  passing_on rest p =
      let shorter = p.found.shorter in
      let few = h.few in
      let same : new.held ++ rest ≡ rest = ap (λ (b : List ℕ). b ++ rest) p.empty in
      record {
        passed = subst (λ (b : List ℕ). PassesFound bytes b old new) (sym same) (one_more rest p);
        few = omega (arith, ap length same);
      }

  pub passing_none : PassesNone come mid new → PassesAll bytes old new
  passing_none p = record {
    all = record {
      found = with_strays h.passed.found p.strays;
      framed = strays_more bytes come new.held h.passed.found p.strays h.passed.framed p.found;
      passes = rw p.units h.passed.passes;
    };
    left = p.found.left;
  }

  pub passing_ends : (at : Aim) (ending : Ending) → EndsWithUnit at come mid new ending → PassesSome at bytes old new ending
  unfolding one_more
  passing_ends at ending p =
      let one = p.one in
      let some = one_more p.rest one in
      record { come = p.rest; some = some; ends = ends_same at now all ending same p.ends }
    where
      now : ℕ
      now = mid.units.count + length (message_of (Some p.one.kind) p.one.unit)

      all : ℕ
      all = old.units.count + length (messages (with_unit h.passed.found p.one.strays p.one.unit).units)

      same : all < 2 ^ 64 → all ≡ now
      same few =
          let below : old.units.count < 2 ^ 64 = omega arith in
          let count = h.passed.passes.count below in
          let len = ap length (messages_one h.passed.found p.one.kind p.one.strays p.one.unit p.one.found.kind_is) in
          let both = length-append (messages h.passed.found.units) (message_of (Some p.one.kind) p.one.unit) in
          omega arith

-- the captures end with a unit that is found
pub ends_found : (at : Aim) (bytes rest : List ℕ) (kind : Kind) (strays : ℕ) (unit : List ℕ) (old new : SideState) (was : UnitsState)
    (ending : Ending) (answer : Option Ending) → IsUnitFound bytes kind strays unit rest → new.held ≡ [] → was.waiting ≡ old.units.waiting
    → was.count ≡ old.units.count → PassUnits (message_of (Some kind) unit) was new.units →
    MayEndAt at (was.count + length (message_of (Some kind) unit)) answer → answer ≡ Some ending → EndsWithUnit at bytes old new ending
ends_found at bytes rest kind strays unit old new was ending answer found empty waiting count passes may is = record {
  rest = rest;
  one = record {
    kind = kind;
    strays = strays;
    unit = unit;
    found = found;
    passes = pass_from (message_of (Some kind) unit) was old.units new.units waiting count passes;
    empty = empty;
  };
  ends = subst (λ (n : ℕ). EndsAt at (n + length (message_of (Some kind) unit)) ending) count
      (subst (MayEndAt at (was.count + length (message_of (Some kind) unit))) is may);
}
