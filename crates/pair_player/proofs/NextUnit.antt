-- What a step makes of the next unit on the line.
use Rattle.std.proofs.Common.{◌≡◌, ℕ, Bool, true, false, cond, Option, Some, None, List, [], ◌∷◌, Result, Ok, Err, refl, ap}
use Rattle.std.specs.Prelude.{IsSome}
use Rattle.dna_play.specs.Stop.{Stop, BadStep}
use Rattle.dna_play.specs.StoredEnd.{StoredEnd}
use Rattle.dna_play.specs.StoredPlay.{StoredStepped, comes, comes_damaged, sends, sends_choice, with_next}
use Rattle.dna_play.specs.Receipt.{damaged, is_damage}
use Rattle.dna_play.specs.NextSent.{Choice, choice, link_choice}
use Rattle.player_end.specs.Stepping.{HasUnit, with_lines}
use Rattle.pair_player.specs.inner.Line.{first_of}

module _ (next : List ℕ → Result StoredStepped Stop) where
  pub next_unit : (coming : List (List ℕ)) (unit : List ℕ) → Some unit ≡ first_of coming → with_next coming next ≡ next unit
  next_unit [] unit e = absurd cc
  next_unit (first ∷ later) unit e = let same : first ≡ unit = cc in ap next same

  pub no_unit : (coming : List (List ℕ)) → None ≡ first_of coming → with_next coming next ≡ Err BadStep
  no_unit [] e = refl
  no_unit (first ∷ later) e = absurd cc

module _ (e : StoredEnd) (place value : ℕ) (bytes : List ℕ) where
  pub damage_comes : is_damage place value bytes ≡ true → comes_damaged e place value bytes ≡ comes e true (damaged place value bytes)
  damage_comes is = ap (λ (c : Bool). cond c (comes e true (damaged place value bytes)) (Err BadStep)) is

  pub no_damage : is_damage place value bytes ≡ false → comes_damaged e place value bytes ≡ Err BadStep
  no_damage is = ap (λ (c : Bool). cond c (comes e true (damaged place value bytes)) (Err BadStep)) is

-- what was sent was there to send
module _ (e : StoredEnd) (text : List ℕ) (x : StoredEnd × List (List ℕ) × List ℕ) where
  some_choice : (o : Option Choice) → with_lines text (sends_choice e o) ≡ Ok x → IsSome o
  some_choice None is = absurd cc
  some_choice (Some next) is = refl

  pub sent_something : with_lines text (sends e) ≡ Ok x → HasUnit e
  sent_something is = some_choice (choice e.station.variables e.station.owed (link_choice e.links.confirms e.links.links)) is

pub ruleset next_units = (next_unit, no_unit)

pub ruleset damages = (next_unit, no_unit, damage_comes, no_damage)
