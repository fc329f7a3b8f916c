-- The worked script of the player: one unit is lost, one damaged, and one packet finds no buffer.
use Rattle.dna_rows.proofs.Prelude.{◌≡◌, [], ◌∷◌, List, codes, Record, User, ScriptStep, Timer, Send, Deliver, Refuse, Lose, Damage, Noise, Open}
use Rattle.dna_rows.proofs.Prelude.{Close, BadStep}
use Rattle.capture_record.specs.declared.event.Event.TheVariants as event
use Rattle.dna_play.specs.Script.{Start}
use Rattle.dna_rows.proofs.Scripts.{a, b, s, r, k, n, Plays, Captures, StopsAt, playing}
use Rattle.dna_rows.proofs.Layers.Rows.{player_example_a, player_example_b}

abbrev example : List ScriptStep
example = a Start ∷ b Start ∷ a Send ∷ b Lose ∷ a Timer ∷ a Send ∷ b Deliver ∷ b Send ∷ a Deliver ∷ a Send ∷ b Deliver ∷ a Open ∷ a Send ∷
    b (Damage 0 132) ∷ b Send ∷ a Deliver ∷ a Send ∷ b Refuse ∷ b Send ∷ a Deliver ∷ a Send ∷ b Deliver ∷ b Send ∷ a Deliver ∷ []

abbrev example_a : List Record
example_a = User event.Start ∷ s (codes "0506c00000017595") ∷ s (codes "0506c00000017595") ∷ r 0 (codes "0507c00000014855") ∷
    s (codes "050100000001fc55") ∷ User (event.Open 1) ∷ s (codes "810f000001018a40020204010400180000010001020002ed98") ∷
    r 1 (codes "050201000001b9a9") ∷ s (codes "810f000001018a40020204010400180000010001020002ed98") ∷ r 2 (codes "050208000001ba35") ∷
    s (codes "810f000001018a40020204010400180000010001020002ed98") ∷ k 3 (codes "81090001010153800201040204002401002cd5") ∷ []

abbrev example_b : List Record
example_b = User event.Start ∷ r 1 (codes "0506c00000017595") ∷ s (codes "0507c00000014855") ∷ r 2 (codes "050100000001fc55") ∷
    r 3 (codes "050f000001018a40020204010400180000010001020002ed98") ∷ s (codes "050201000001b9a9") ∷
    r 4 (codes "810f000001018a40020204010400180000010001020002ed98") ∷ s (codes "050208000001ba35") ∷
    k 5 (codes "810f000001018a40020204010400180000010001020002ed98") ∷ s (codes "81090001010153800201040204002401002cd5") ∷ []

-- with another step in its place, line 13 of the script is bad: no link has this address. The captures are those of the lines before it
abbrev closes_instead : List ScriptStep
closes_instead = a Start ∷ b Start ∷ a Send ∷ b Lose ∷ a Timer ∷ a Send ∷ b Deliver ∷ b Send ∷ a Deliver ∷ a Send ∷ b Deliver ∷ a (Close 1) ∷ a Send ∷
    b (Damage 0 132) ∷ b Send ∷ a Deliver ∷ a Send ∷ b Refuse ∷ b Send ∷ a Deliver ∷ a Send ∷ b Deliver ∷ b Send ∷ a Deliver ∷ []

abbrev closes_instead_a : List Record
closes_instead_a = User event.Start ∷ s (codes "0506c00000017595") ∷ s (codes "0506c00000017595") ∷ r 0 (codes "0507c00000014855") ∷
    s (codes "050100000001fc55") ∷ []

abbrev closes_instead_b : List Record
closes_instead_b = User event.Start ∷ r 1 (codes "0506c00000017595") ∷ s (codes "0507c00000014855") ∷ r 2 (codes "050100000001fc55") ∷ []

-- noise, which names no unit
abbrev noisy : List ScriptStep
noisy = a Start ∷ b Start ∷ a Send ∷ b Deliver ∷ b Send ∷ a Deliver ∷ a Send ∷ b Deliver ∷ b (Noise []) ∷ b Send ∷ a Deliver ∷ []

record Rows : Type 0 where
  scripted_example : Plays example (Captures example_a example_b)
  -- they are the captures of a run
  same_as_the_run_of_a : example_a ≡ player_example_a
  same_as_the_run_of_b : example_b ≡ player_example_b
  closed_before_the_answer : Plays closes_instead (StopsAt 11 BadStep closes_instead_a closes_instead_b)
  noise_in_a_script : Plays noisy
      (Captures
      (User event.Start ∷ s (codes "0506c00000017595") ∷ r 0 (codes "0507c00000014855") ∷ s (codes "050100000001fc55") ∷
      r 1 (codes "050201000001b9a9") ∷ [])
      (User event.Start ∷ r 0 (codes "0506c00000017595") ∷ s (codes "0507c00000014855") ∷ r 1 (codes "050100000001fc55") ∷ n [] ∷
      s (codes "050201000001b9a9") ∷ []))

computed : Rows
unfolding playing
computed = search
