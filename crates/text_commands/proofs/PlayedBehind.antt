-- What is claimed of what was played, whatever the steps, holds of all that `play` answers behind the head of a script, where no device and no
-- memory failed.
use Rattle.std.proofs.Common.{List, ℕ, inl, inr, Option, Result, Ok, Err, arith}
use Rattle.pair_player.specs.declared.fault.PlayFault.{PlayFault}
use Rattle.pair_player.specs.declared.fault.PlayFault.TheVariants.{Departs, BadStep, Full, Read, Write, OutOfMemory}
use Rattle.pair_player.specs.declared.played.Played.{Played}
use Rattle.pair_player.specs.Playing.{HasPlayed, HasWritten, Held, Plays, PlaysTo, Reached}
use Rattle.text_commands.specs.Accepting.{HasCaptures, empty_captures}

module _ (Claim : Type 0) (text : Option (List ℕ)) (written : Held)
    (reached : (r : Reached) → HasPlayed text r → HasWritten empty_captures written r → Claim) where
  played_to : {Behind : Reached → Type 0} → PlaysTo text empty_captures written Behind → Claim
  played_to plays = reached plays.0 plays.1 plays.2

  pub behind_the_head : (played : Result Played PlayFault) → Plays text empty_captures written played → HasCaptures played → Claim
  behind_the_head (Ok played) plays has = played_to plays
  behind_the_head (Err (Departs kind line)) (inl head) has = let first = head.0.line_is in absurd (omega arith)
  behind_the_head (Err (Departs kind line)) (inr plays) has = played_to plays
  behind_the_head (Err (BadStep line)) plays has = played_to plays
  behind_the_head (Err (Full line)) plays has = played_to plays
  behind_the_head (Err Read) plays has = absurd has
  behind_the_head (Err (Write side)) plays has = absurd has
  behind_the_head (Err OutOfMemory) plays has = absurd has
