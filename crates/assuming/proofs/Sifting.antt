-- Turns of which each is about something else.
use Rattle.std.proofs.Common.{◌≡◌, ◌≢◌, ℕ, ◌⊎◌, inl, inr, Bool, true, false, ◌&&◌, ◌||◌, ◌==◌, List, [], ◌∷◌, ◌++◌, refl, sym, ap, subst, ◌∙◌, eq-eqb}
use Rattle.std.specs.List.{AllByRecursion}
use Rattle.placing.specs.declared.turn.Turn.{Turn}
use Rattle.assuming.specs.Assuming.{AreApart, place_of}
use Rattle.assuming.specs.inner.Places.{has, is_this}
use Rattle.assuming.specs.inner.Sifted.{AreNoted, has_place}
use Rattle.assuming.proofs.Returned.{never}
use Rattle.assuming.proofs.SpotLaws.{All-on, All-push}

or_right : (x y : Bool) → y ≡ true → (x || y) ≡ true
or_right true y e = refl
or_right false y e = e

or_left : (x y : Bool) → x ≡ true → (x || y) ≡ true
or_left true y e = refl
or_left false y e = absurd (never e)

all_three : (x y z : Bool) → x ≡ true → y ≡ true → z ≡ true → (x && (y && z)) ≡ true
all_three true true true e f g = refl
all_three false y z e f g = absurd (never e)
all_three true false z e f g = absurd (never f)
all_three true true false e f g = absurd (never g)

is_itself : (a b c : ℕ) → is_this (a, b, c) a b c ≡ true
is_itself a b c = all_three (a == a) (b == b) (c == c) (eq-eqb a a refl) (eq-eqb b b refl) (eq-eqb c c refl)

apart_push : (turns : List Turn) (turn : Turn) → AreApart turns → AllByRecursion (λ (other : Turn). place_of turn ≢ place_of other) turns →
    AreApart (turns ++ turn ∷ [])
apart_push [] turn apart differ = (tt, tt)
apart_push (first ∷ turns) turn apart differ =
    (All-push (λ (other : Turn). place_of other ≢ place_of first) turns turn apart.0 differ.0, apart_push turns turn apart.1 differ.1)

module _ (old new : List (ℕ × ℕ × ℕ)) (turns : List Turn) (h : AreNoted old turns) where
  -- where what was there is there
  pub noted_on : ((a b c : ℕ) → has old a b c ≡ true → has new a b c ≡ true) → AreNoted new turns
  noted_on stays = record {
    apart = h.apart;
    noted = All-on (λ (turn : Turn). has_place old (place_of turn) ≡ true) (λ (turn : Turn). has_place new (place_of turn) ≡ true)
        (λ (turn : Turn) there. stays (place_of turn).0 (place_of turn).1 (place_of turn).2 there) turns h.noted;
  }

  -- where no place is added
  pub noted_same : ((a b c : ℕ) → has new a b c ≡ has old a b c) → AreNoted new turns
  noted_same same = noted_on (λ a b c there. same a b c ∙ there)

  module _ (x y z : ℕ) (more : (a b c : ℕ) → has new a b c ≡ (is_this (x, y, z) a b c || has old a b c)) where
    -- where one is
    pub noted_added : AreNoted new turns
    noted_added = noted_on (λ a b c there. more a b c ∙ or_right (is_this (x, y, z) a b c) (has old a b c) there)

    -- and the turn that is about it
    pub noted_more : (turn : Turn) → (x, y, z) ≡ place_of turn → false ≡ has old x y z → AreNoted new (turns ++ turn ∷ [])
    noted_more turn is absent = record {
      apart = apart_push turns turn h.apart (All-on (λ (other : Turn). has_place old (place_of other) ≡ true)
          (λ (other : Turn). place_of turn ≢ place_of other)
          (λ (other : Turn) there e. never (absent ∙ ap (has_place old) (is ∙ e) ∙ there)) turns h.noted);
      noted = All-push (λ (other : Turn). has_place new (place_of other) ≡ true) turns turn noted_added.noted
          (subst (λ (place : ℕ × ℕ × ℕ). has_place new place ≡ true) is
          (more x y z ∙ or_left (is_this (x, y, z) x y z) (has old x y z) (is_itself x y z)));
    }

-- what is true of each, and of the one more
pub put_keeps : (P : Turn → Type 0) (old new : List Turn) (turn : Turn) → AllByRecursion P old → P turn →
    (new ≡ old) ⊎ (new ≡ old ++ turn ∷ []) → AllByRecursion P new
put_keeps P old new turn all this (inl same) = subst (AllByRecursion P) (sym same) all
put_keeps P old new turn all this (inr more) = subst (AllByRecursion P) (sym more) (All-push P old turn all this)
