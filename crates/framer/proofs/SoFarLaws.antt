-- What was found of the bytes of a line so far, call by call.
use Rattle.std.proofs.Common.{◌≡◌, ℕ, ◌+◌, List, [], ◌∷◌, ◌++◌, sym, ap, ◌∙◌, arith, refl}
use Rattle.std.proofs.lemmas.List.{append-nil, append_assoc}
use Rattle.framer.specs.declared.kind.Kind.{Kind}
use Rattle.framer.specs.Framing.{Framing, framing, only_left, behind_strays, behind_unit, joined}
use Rattle.framer.specs.Given.{IsUnitFound, NoneFound}
use Rattle.framer.specs.SoFar.{IsFramedSoFar, nothing, with_strays, with_unit}
use Rattle.framer.proofs.Framings.{framing-append, joined-nil}
use Rattle.framer.proofs.Passing.{ends_on, ends_more}

pub start : IsFramedSoFar [] nothing []
start = record { framed = sym (joined-nil [] (framing [])); ends = ([], refl) }

unit_joined : (f g : Framing) (strays : ℕ) (unit : List ℕ) →
    joined f (behind_strays strays (behind_unit unit g)) ≡ joined (with_unit f strays unit) g
unit_joined f g strays unit =
    let count : f.strays + (strays + g.strays) ≡ f.strays + strays + g.strays = omega arith in
    rw (append_assoc f.units (unit ∷ []) g.units, count) refl

pub unit_more : (all come : List ℕ) (f : Framing) (kind : Kind) (strays : ℕ) (unit rest : List ℕ) → IsFramedSoFar all f come →
    IsUnitFound come kind strays unit rest → IsFramedSoFar all (with_unit f strays unit) rest
unit_more all come f kind strays unit rest h found =
    let passed = found.passed in
    record {
      framed = h.framed ∙ ap (joined f) (passed.framed ∙ ap (behind_strays strays) found.framed) ∙ unit_joined f (framing rest) strays unit;
      ends = ends_on all (unit ++ rest) rest (ends_on all come (unit ++ rest) h.ends passed.ends) (unit, refl);
    }

strays_joined : (f g : Framing) (strays : ℕ) → joined f (behind_strays strays g) ≡ joined (with_strays f strays) g
strays_joined f g strays = let count : f.strays + (strays + g.strays) ≡ f.strays + strays + g.strays = omega arith in rw count refl

pub strays_more : (all come held : List ℕ) (f : Framing) (strays : ℕ) → IsFramedSoFar all f come → NoneFound come strays held →
    IsFramedSoFar all (with_strays f strays) held
strays_more all come held f strays h none =
    let passed = none.passed in
    record {
      framed = h.framed ∙ ap (joined f) passed.framed ∙ strays_joined f (framing held) strays;
      ends = ends_on all come held h.ends passed.ends;
    }

left_joined : (f : Framing) (held : List ℕ) → joined f (only_left held) ≡ record f { left = held }
left_joined f held = let count : f.strays + 0 ≡ f.strays = omega arith in rw (append-nil f.units, count) refl

-- where no unit is whole, the framing is what was found, and what is held is left
pub whole : (all held : List ℕ) (f : Framing) → IsFramedSoFar all f held → framing held ≡ only_left held →
    framing all ≡ record f { left = held }
whole all held f h left = h.framed ∙ ap (joined f) left ∙ left_joined f held

pub piece_more : (all held piece : List ℕ) (f : Framing) → IsFramedSoFar all f held → framing held ≡ only_left held →
    IsFramedSoFar (all ++ piece) f (held ++ piece)
piece_more all held piece f h left =
    record {
      framed = framing-append all piece ∙ ap (λ (g : Framing). joined g (framing (g.left ++ piece))) (whole all held f h left);
      ends = ends_more all held piece h.ends;
    }
