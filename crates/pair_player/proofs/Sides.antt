-- What a step makes of one end, put beside the other end.
use Rattle.std.proofs.Common.{◌≡◌, ℕ, List, [], ◌++◌, Result, Ok, Err, refl, ap, ◌∙◌}
use Rattle.std.proofs.lemmas.List.{append-nil}
use Rattle.wire_base.specs.declared.side.Side.{Side}
use Rattle.wire_base.specs.declared.side.Side.TheVariants.{A, B}
use Rattle.dna_play.specs.Script.{StepValue, ScriptStep}
use Rattle.dna_play.specs.Stop.{Stop}
use Rattle.dna_play.specs.StoredEnd.{StoredEnd}
use Rattle.dna_play.specs.StoredPlay.{StoredStepped, silent}
use Rattle.dna_play.specs.StoredPlayed.{StoredPair, left_by}
use Rattle.player_end.specs.Stepping.{with_lines}
use Rattle.pair_player.specs.Stepping.{sends, sides, with_text}

abbrev Units : Type 0
Units = List (List ℕ)

module _ (step : StepValue) (coming going : Units) (text : List ℕ) where
  -- with units that it sends
  abbrev with_units : Result (StoredEnd × Units × List ℕ) Stop → Result (StoredEnd × Units × Units × List ℕ) Stop
  with_units (Ok x) = Ok (x.0, left_by step coming, going ++ x.1, x.2)
  with_units (Err stop) = Err stop

  units_same : (made : Result StoredStepped Stop) → sides step coming going text made ≡ with_units (with_lines text made)
  units_same (Ok made) = refl
  units_same (Err stop) = refl

  pub with_no_units : (made : Result StoredStepped Stop) (e : StoredEnd) (t : List ℕ) → with_lines text made ≡ Ok (e, [], t) →
      sides step coming going text made ≡ Ok (e, left_by step coming, going, t)
  with_no_units made e t is = units_same made ∙ ap with_units is ∙ ap (λ (g : Units). Ok (e, left_by step coming, g, t)) (append-nil going)

  abbrev with_line : Result (StoredEnd × Units × List ℕ) Stop → Result (StoredEnd × Units × Units × List ℕ) Stop
  with_line (Ok x) = Ok (x.0, left_by step coming, x.1, x.2)
  with_line (Err stop) = Err stop

  line_same : (made : Result StoredStepped Stop) → sides step coming going text made ≡ with_line (sends going text made)
  line_same (Ok made) = refl
  line_same (Err stop) = refl

  pub with_sent : (made : Result StoredStepped Stop) (e : StoredEnd) (g : Units) (t : List ℕ) → sends going text made ≡ Ok (e, g, t) →
      sides step coming going text made ≡ Ok (e, left_by step coming, g, t)
  with_sent made e g t is = line_same made ∙ ap with_line is

  pub with_silence : (made : Result StoredStepped Stop) (e : StoredEnd) → made ≡ silent e →
      sides step coming going text made ≡ Ok (e, left_by step coming, going, text)
  with_silence made e is =
      ap (sides step coming going text) is
      ∙ ap (λ (g : Units). Ok (e, left_by step coming, g, text ++ [])) (append-nil going)
      ∙ ap (λ (t : List ℕ). Ok (e, left_by step coming, going, t)) (append-nil text)

pub ruleset sides_of = (with_no_units, with_sent, with_silence)

-- ---- beside the other end

module _ (pair : StoredPair) (step : StepValue) (text : List ℕ) where
  abbrev at : Side → ScriptStep
  at side = record { side = side; step = step }

  abbrev as_a : Result (StoredEnd × Units × Units × List ℕ) Stop → Result (StoredPair × List ℕ) Stop
  as_a (Ok x) = Ok (record { a = record { end = x.0; coming = x.1 }; b = record pair.b { coming = x.2 } }, x.3)
  as_a (Err stop) = Err stop

  a_same : (made : Result StoredStepped Stop) → with_text text pair (at A) made ≡ as_a (sides step pair.a.coming pair.b.coming text made)
  a_same (Ok made) = refl
  a_same (Err stop) = refl

  abbrev as_b : Result (StoredEnd × Units × Units × List ℕ) Stop → Result (StoredPair × List ℕ) Stop
  as_b (Ok x) = Ok (record { a = record pair.a { coming = x.2 }; b = record { end = x.0; coming = x.1 } }, x.3)
  as_b (Err stop) = Err stop

  b_same : (made : Result StoredStepped Stop) → with_text text pair (at B) made ≡ as_b (sides step pair.b.coming pair.a.coming text made)
  b_same (Ok made) = refl
  b_same (Err stop) = refl

  module _ (made : Result StoredStepped Stop) (e : StoredEnd) (coming going : Units) (t : List ℕ) where
    pub side_a : sides step pair.a.coming pair.b.coming text made ≡ Ok (e, coming, going, t) →
        with_text text pair (at A) made ≡ Ok (record { a = record { end = e; coming = coming }; b = record pair.b { coming = going } }, t)
    side_a is = a_same made ∙ ap as_a is

    pub side_b : sides step pair.b.coming pair.a.coming text made ≡ Ok (e, coming, going, t) →
        with_text text pair (at B) made ≡ Ok (record { a = record pair.a { coming = going }; b = record { end = e; coming = coming } }, t)
    side_b is = b_same made ∙ ap as_b is

pub ruleset both_sides = (side_a, side_b)
