-- What is answered of the text of a script that is played whole.
use Rattle.std.proofs.Common.{◌≡◌, ℕ, inl, inr, List, [], ◌∷◌, ◌++◌, length, Option, Some, None, Result, Ok, Err, sym, ap, ◌∙◌, append_assoc}
use Rattle.std.specs.Option.{IfSome}
use Rattle.capture.specs.declared.fault.Departure.{Departure}
use Rattle.capture.specs.Listed.{IsBeginningOf, Listed}
use Rattle.capture.proofs.ListedSoFar.{departs_nowhere, goes_on, head_stands, one_list, one_more, whole}
use Rattle.dna_play.specs.StoredPlayed.{StoredPlayed, new_pair, stored_not_begun, stored_play, stored_plays_on, stored_plays_step}
use Rattle.dna_play.proofs.Played.Behind.{behind, next, same_Ok}
use Rattle.dna_play.proofs.Stored.Law.{plays_on}
use Rattle.dna_play.specs.Script.{ScriptStep, Script}
use Rattle.dna_play.specs.ScriptText.{IsScriptText, StepDeparts, script_form, listed}
use Rattle.dna_play.specs.Stop.{Stop, BadStep, Full, Stopped, plays_all}
use Rattle.pair_player.specs.declared.fault.PlayFault.TheVariants as faults
use Rattle.pair_player.specs.declared.fault.PlayFault.{PlayFault}
use Rattle.pair_player.specs.declared.played.Played.{Played}
use Rattle.pair_player.specs.Playing.{AnswersWhole, HasPlayed, HasWritten, Held, Plays, Reached, StopsBehind}
use Rattle.pair_player.specs.SoFar.{IsReadSoFar, with_step}
use Rattle.pair_player.proofs.TextLaws.{lines}

-- ---- where a step stops, no more are made

stops_behind : (begun played : StoredPlayed) (steps : List ScriptStep) (step : ScriptStep) (more : List ScriptStep) (stop : Stop) →
    plays_all stored_plays_on 0 begun steps ≡ Ok played → stored_plays_step played.pair step ≡ Err stop → (after : StoredPlayed) →
    plays_all stored_plays_on 0 begun ((steps ++ step ∷ []) ++ more) ≡ Ok after → ⊥
stops_behind begun played steps step more stop e f after g = never _ _ (
    sym g ∙ ap (plays_all stored_plays_on 0 begun) (append_assoc steps (step ∷ []) more)
    ∙ behind stored_plays_on 0 begun played steps (step ∷ more) e
    ∙ next stored_plays_on _ played step more (Err stop) (plays_on played step (Err stop) f)
    )
  where
    never : (x : StoredPlayed) (y : Stopped StoredPlayed) → ◌≡◌ {A = Result StoredPlayed (Stopped StoredPlayed)} (Ok x) (Err y) → ⊥
    never x y e = cc

-- what these steps make behind the heads of these nodes
abbrev play_of : (node_a node_b : ℕ) (steps : List ScriptStep) → Result StoredPlayed (Stopped StoredPlayed)
play_of node_a node_b steps = plays_all stored_plays_on 0 (record { pair = new_pair node_a node_b; of_a = []; of_b = [] }) steps

same_play : (a a' b b' : ℕ) (steps steps' : List ScriptStep) → a ≡ a' → b ≡ b' → steps ≡ steps' → play_of a b steps ≡ play_of a' b' steps'
same_play a a' b b' steps steps' e f g = ap (λ (x : ℕ). play_of x b steps) e ∙ ap (λ (x : ℕ). play_of a' x steps) f ∙
    ap (λ (x : List ScriptStep). play_of a' b' x) g

-- ---- of a whole text

abbrev script_of : Listed ScriptStep → Script
script_of list = record { node_a = list.node_a; node_b = list.node_b; steps = list.items }

-- a text has one script
one_script : (bytes : List ℕ) (p q : Script) → IsScriptText p bytes → IsScriptText q bytes → p ≡ q
one_script bytes p q h k = ap script_of (one_list script_form lines bytes (listed p) (listed q) h k)

module _ (bytes : List ℕ) (script : Script) (played : StoredPlayed) (is_text : IsScriptText script bytes)
    (made : stored_play script ≡ Ok played) where
  nowhere : (kind : Departure) (line : ℕ) (r : Reached) (come : Option (List ℕ)) → IsReadSoFar (Some bytes) r.script come →
      IfSome come (StepDeparts (length r.script.steps) kind) → ⊥
  nowhere kind line r None read departs = absurd read.begins
  nowhere kind line r (Some rest) read departs =
      departs_nowhere script_form lines bytes rest (listed r.script) (listed script) kind is_text
      (record { fits = read.fits; spelled = read.begins }) departs

  begun_of : (begun : Script) (come : Option (List ℕ)) → IsReadSoFar (Some bytes) begun come →
      IsBeginningOf (listed begun) (listed script)
  begun_of begun None read = absurd read.begins
  begun_of begun (Some rest) read =
      goes_on script_form lines bytes rest (listed begun) (listed script) is_text (record { fits = read.fits; spelled = read.begins })

  not_stopped : (stop : Stop) (line : ℕ) (r : Reached) → HasPlayed (Some bytes) r → StopsBehind stop line r → ⊥
  not_stopped stop line r h s =
      let begun = begun_of (with_step r.script s.step) s.later
      (one_more script_form (Some bytes) r.come s.later (listed r.script) s.step h.read s.few s.fits s.spelled) in
      stops_behind (stored_not_begun r.script) r.played r.script.steps s.step begun.more stop h.made s.stops played
      (sym (same_play script.node_a r.script.node_a script.node_b r.script.node_b script.steps ((r.script.steps ++ s.step ∷ []) ++ begun.more)
      begun.node_a begun.node_b begun.items) ∙ made)

  same_reached : (r : Reached) → HasPlayed (Some bytes) r → r.script ≡ script → r.played ≡ played
  same_reached r h same = same_Ok stored_plays_on r.played played (sym h.made ∙ ap stored_play same ∙ made)

  same_written : (old new : Held) (r : Reached) → HasWritten old new r → r.script ≡ script → r.played ≡ played →
      HasWritten old new (record { script = script; played = played; come = Some [] })
  same_written old new r h e f = record { a = rw (← e, ← f) h.a; b = rw (← e, ← f) h.b }

  pub whole_played : (old new : Held) (answer : Result Played PlayFault) → Plays (Some bytes) old new answer →
      AnswersWhole (record { script = script; played = played; come = Some [] }) old new answer
  whole_played old new (Ok answer) h =
      let r : Reached = h.0 in
      let same : r.script ≡ script = one_script bytes r.script script (whole script_form bytes r.come (listed r.script) h.1.read h.3.end) is_text in
      (h.3.steps_are ∙ ap (λ (x : Script). length x.steps) same, same_written old new r h.2 same (same_reached r h.1 same))
  whole_played old new (Err (faults.Departs kind line)) (inl h) =
      absurd (head_stands script_form lines bytes [] (listed script) kind is_text h.0.departs)
  whole_played old new (Err (faults.Departs kind line)) (inr h) = absurd (nowhere kind line h.0 h.0.come h.1.read h.3.departs)
  whole_played old new (Err (faults.BadStep line)) h = absurd (not_stopped BadStep line h.0 h.1 h.3)
  whole_played old new (Err (faults.Full line)) h = absurd (not_stopped Full line h.0 h.1 h.3)
  whole_played old new (Err fault) h = tt
