-- Records that are made by an end's node beside the other end's, one after another.
use Rattle.dna_play.proofs.Prelude.{◌≡◌, Option, Some, None, List, [], ◌∷◌, refl, sym, ap, subst, ◌∙◌, option_and_then, same_Some, Half, Record}
use Rattle.dna_play.proofs.Prelude.{LayersNode, LayersUnit, makes, makes_all}

abbrev pub PlayHalf : Type 0
PlayHalf = Half LayersNode LayersUnit

-- these records are made, one after another, beside the other half, and lead from the one half to the other
pub data MakesAll (other : PlayHalf) : PlayHalf → List Record → PlayHalf → Type 0 where
  Nothing : {own : PlayHalf} → MakesAll other own [] own
  First : {own next end : PlayHalf} {r : Record} {later : List Record} → makes own other r ≡ Some next → MakesAll other next later end →
      MakesAll other own (r ∷ later) end

pub all_made : {other own end : PlayHalf} {records : List Record} → MakesAll other own records end → makes_all own other records ≡ Some end
all_made Nothing = refl
all_made {other} (First {later = later} is rest) =
    ap (λ (o : Option PlayHalf). option_and_then (λ (next : PlayHalf). makes_all next other later) o) is ∙ all_made rest

pub made_all : (other own : PlayHalf) (records : List Record) (end : PlayHalf) → makes_all own other records ≡ Some end →
    MakesAll other own records end
made_all other own [] end e = subst (λ (h : PlayHalf). MakesAll other own [] h) (same_Some own end e) Nothing
made_all other own (r ∷ later) end e = go (λ next e. made_all other next later end e) (makes own other r) refl e
  where
    go : ((next : PlayHalf) → makes_all next other later ≡ Some end → MakesAll other next later end) → (o : Option PlayHalf) →
        makes own other r ≡ o → option_and_then (λ (next : PlayHalf). makes_all next other later) o ≡ Some end → MakesAll other own (r ∷ later) end
    go rest None is e = absurd cc
    go rest (Some next) is e = First is (rest next e)

-- they lead to one half
pub one_end : {other own end half : PlayHalf} {records : List Record} → MakesAll other own records end → MakesAll other own records half →
    end ≡ half
one_end one two = same_Some _ _ (sym (all_made one) ∙ all_made two)
