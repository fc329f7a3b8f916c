-- What the other side is told of units that pass.
use Rattle.std.proofs.Common.{◌≡◌, ℕ, List, [], ◌∷◌, ◌++◌, Option, Some, None, refl, sym, ap, subst, ◌∙◌}
use Rattle.std.proofs.Common.{append_assoc}
use Rattle.framer.specs.declared.kind.Kind.{Kind}
use Rattle.framer.specs.Framing.{Framing, framing, only_left}
use Rattle.framer.specs.Given.{IsUnitFound, NoneFound}
use Rattle.framer.specs.SoFar.{IsFramedSoFar}
use Rattle.framer.proofs.SoFarLaws.{piece_more, whole}
use Rattle.placing.specs.Placed.{Waiting, with_other}
use Rattle.wire_tap.specs.Units.{message_of, messages}
use Rattle.wire_tap.specs.declared.tapped.Ending.{Ending}
use Rattle.wire_tap.specs.inner.Side.{MovesOn, Tells, TellsFirst, TellsOn, units_in}
use Rattle.wire_tap.proofs.MoveLaws.{messages-append, moves_nothing, moves_other, moves_then}

-- ---- the units in some bytes

-- the first one, and those behind it
units_found : (bytes : List ℕ) (kind : Kind) (strays : ℕ) (unit rest : List ℕ) → IsUnitFound bytes kind strays unit rest →
    units_in bytes ≡ message_of (Some kind) unit ++ units_in rest
units_found bytes kind strays unit rest found =
    ap (λ (f : Framing). messages f.units) found.passed.framed
    ∙ ap (λ (f : Framing). messages f.units) found.framed
    ∙ ap (λ (k : Option Kind). message_of k unit ++ units_in rest) found.kind_is

-- none of them is whole
none_in : (bytes held : List ℕ) (strays : ℕ) → NoneFound bytes strays held → units_in bytes ≡ []
none_in bytes held strays none =
    ap (λ (f : Framing). messages f.units) none.passed.framed ∙ ap (λ (f : Framing). messages f.units) none.left

-- those of more bytes
pub units_more : (bytes held more : List ℕ) (found : Framing) → IsFramedSoFar bytes found held → framing held ≡ only_left held →
    units_in (bytes ++ more) ≡ units_in bytes ++ units_in (held ++ more)
units_more bytes held more found framed left =
    ap (λ (f : Framing). messages f.units) (piece_more bytes held more found framed left).framed
    ∙ messages-append found.units (framing (held ++ more)).units
    ∙ ap (λ (units : List (List ℕ)). units ++ units_in (held ++ more))
    (sym (ap (λ (f : Framing). messages f.units) (whole bytes held found framed left)))

-- ---- one unit

-- it is told of none of them
pub tells_none : (units : List (List ℕ)) (w : Waiting) → TellsFirst units w w
tells_none units w = record { told = []; untold = units; are = refl; moves = moves_nothing w }

-- it is told of a unit that passed
module _ (unit : List ℕ) (old new : Waiting) (is : new ≡ with_other unit old) where
  pub moves_told : MovesOn [] (unit ∷ []) old new
  moves_told = subst (MovesOn [] (unit ∷ []) old) (sym is) (moves_other unit old)

  pub tells_last : TellsFirst (unit ∷ []) old new
  tells_last = record { told = unit ∷ []; untold = []; are = refl; moves = moves_told }

-- ---- one turn over some bytes

module _ (bytes : List ℕ) (kind : Kind) (strays : ℕ) (unit rest : List ℕ) (old new : Waiting) (found : IsUnitFound bytes kind strays unit rest) where
  -- more is to come
  pub tells_rest : (answer : Option Ending) → Tells (message_of (Some kind) unit) answer old new → answer ≡ None → TellsOn bytes rest old new
  tells_rest answer tells none = record {
    told = message_of (Some kind) unit;
    are = units_found bytes kind strays unit rest found;
    moves = subst (λ (a : Option Ending). Tells (message_of (Some kind) unit) a old new) none tells;
  }

  first_of : TellsFirst (message_of (Some kind) unit) old new → TellsFirst (units_in bytes) old new
  first_of t = record {
    told = t.told;
    untold = t.untold ++ units_in rest;
    are = units_found bytes kind strays unit rest found ∙ ap (λ (units : List (List ℕ)). units ++ units_in rest) t.are
        ∙ append_assoc t.told t.untold (units_in rest);
    moves = t.moves;
  }

  -- the captures end with it
  pub tells_end : (answer : Option Ending) (ending : Ending) → Tells (message_of (Some kind) unit) answer old new → answer ≡ Some ending →
      TellsFirst (units_in bytes) old new
  tells_end answer ending tells is = first_of (subst (λ (a : Option Ending). Tells (message_of (Some kind) unit) a old new) is tells)

-- no unit is found
pub tells_used : (bytes held : List ℕ) (strays : ℕ) (w : Waiting) → NoneFound bytes strays held → MovesOn [] (units_in bytes) w w
tells_used bytes held strays w none = subst (λ (units : List (List ℕ)). MovesOn [] units w w) (sym (none_in bytes held strays none)) (moves_nothing w)

-- ---- turn after turn

pub telling_begins : (bytes : List ℕ) (w : Waiting) → TellsOn bytes bytes w w
telling_begins bytes w = record { told = []; are = refl; moves = moves_nothing w }

module _ (bytes come : List ℕ) (old mid new : Waiting) (so_far : TellsOn bytes come old mid) where
  pub telling_on : (rest : List ℕ) → TellsOn come rest mid new → TellsOn bytes rest old new
  telling_on rest t = record {
    told = so_far.told ++ t.told;
    are = so_far.are ∙ ap (λ (units : List (List ℕ)). so_far.told ++ units) t.are ∙ sym (append_assoc so_far.told t.told (units_in rest));
    moves = moves_then [] [] so_far.told t.told old mid new so_far.moves t.moves;
  }

  pub telling_none : MovesOn [] (units_in come) mid new → MovesOn [] (units_in bytes) old new
  telling_none moves =
      subst (λ (units : List (List ℕ)). MovesOn [] units old new) (sym so_far.are)
      (moves_then [] [] so_far.told (units_in come) old mid new so_far.moves moves)

  pub telling_ends : TellsFirst (units_in come) mid new → TellsFirst (units_in bytes) old new
  telling_ends t = record {
    told = so_far.told ++ t.told;
    untold = t.untold;
    are = so_far.are ∙ ap (λ (units : List (List ℕ)). so_far.told ++ units) t.are ∙ sym (append_assoc so_far.told t.told t.untold);
    moves = moves_then [] [] so_far.told t.told old mid new so_far.moves t.moves;
  }
