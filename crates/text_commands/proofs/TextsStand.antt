-- What `play` wrote into two empty captures are two texts, of which `check` names no line.
use Rattle.std.proofs.Common.{ℕ, inl, inr, List, [], Option, Some, None, Result, Ok, Err, sym, subst, arith}
use Rattle.std.specs.Io.KnownBytes.{Appends}
use Rattle.wire_base.specs.declared.side.Side.TheVariants.{A, B}
use Rattle.capture.specs.declared.fault.Departure.{Departure}
use Rattle.capture.specs.Range.{IsText}
use Rattle.capture.proofs.SoFarLaws.{departs_nowhere, head_stands}
use Rattle.pair_judge.specs.declared.fault.JudgeFault.TheVariants as judge
use Rattle.pair_judge.specs.declared.fault.TextFault.TheVariants as of_text
use Rattle.dna_node.specs.Kind.{both_layers}
use Rattle.pair_judge.specs.Judged.{Answer, IsAnswer, IsFaultyWhere}
use Rattle.pair_player.specs.declared.fault.PlayFault.{PlayFault}
use Rattle.pair_player.specs.declared.fault.PlayFault.TheVariants.{Departs}
use Rattle.pair_player.specs.declared.played.Played.{Played}
use Rattle.pair_player.specs.Playing.{HasPlayed, HasWritten, Held, Plays, Reached, text_a, text_b}
use Rattle.pair_player.specs.Runs.{AreTexts}
use Rattle.pair_player.proofs.RunLaws.{all_texts}
use Rattle.text_commands.specs.Accepting.{HasCaptures, NamesNoText, empty_captures}
use Rattle.text_commands.proofs.PlayedBehind.{behind_the_head}

-- ---- of what was played

module _ (r : Reached) (texts : AreTexts r) where
  text_of_a : (bytes : List ℕ) → Appends (Some []) (Some bytes) (text_a r) → IsText r.script.node_a r.script.node_b r.played.of_a bytes
  text_of_a bytes wrote = subst (IsText r.script.node_a r.script.node_b r.played.of_a) (sym wrote) texts.is_text_a

  text_of_b : (bytes : List ℕ) → Appends (Some []) (Some bytes) (text_b r) → IsText r.script.node_b r.script.node_a r.played.of_b bytes
  text_of_b bytes wrote = subst (IsText r.script.node_b r.script.node_a r.played.of_b) (sym wrote) texts.is_text_b

  told : (a b : Option (List ℕ)) (answer : Answer) → Appends (Some []) a (text_a r) → Appends (Some []) b (text_b r) →
      IsFaultyWhere both_layers a b answer →
      NamesNoText answer
  told None b answer of_a of_b faulty = absurd of_a
  told (Some a) None answer of_a of_b faulty = absurd of_b
  told (Some a) (Some b) (Ok verdict) of_a of_b faulty = tt
  told (Some a) (Some b) (Err (judge.Capture A (of_text.Departs kind line))) of_a of_b (inl head) =
      head_stands a r.script.node_a r.script.node_b r.played.of_a kind line (text_of_a a of_a) head
  told (Some a) (Some b) (Err (judge.Capture A (of_text.Departs kind line))) of_a of_b (inr f) =
      departs_nowhere a r.script.node_a r.script.node_b r.played.of_a f.read_a kind line (text_of_a a of_a) f.from_a f.departs
  told (Some a) (Some b) (Err (judge.Capture B (of_text.Departs kind line))) of_a of_b (inl head) =
      head_stands b r.script.node_b r.script.node_a r.played.of_b kind line (text_of_b b of_b) head
  told (Some a) (Some b) (Err (judge.Capture B (of_text.Departs kind line))) of_a of_b (inr f) =
      departs_nowhere b r.script.node_b r.script.node_a r.played.of_b f.read_b kind line (text_of_b b of_b) f.from_b f.departs
  told (Some a) (Some b) (Err (judge.Capture side of_text.Read)) of_a of_b faulty = tt
  told (Some a) (Some b) (Err judge.OutOfMemory) of_a of_b faulty = tt

pub reached : (text : Option (List ℕ)) (r : Reached) (written : Held) (answer : Answer) → HasPlayed text r →
    HasWritten empty_captures written r → IsAnswer both_layers written.a written.b answer → NamesNoText answer
reached text r written answer h wrote judged = told r (all_texts text r h) written.a written.b answer wrote.a wrote.b judged.faulty

-- ---- of what was answered

pub answered : (text : Option (List ℕ)) (written : Held) (answer : Answer) → IsAnswer both_layers written.a written.b answer →
    (played : Result Played PlayFault) → Plays text empty_captures written played → HasCaptures played → NamesNoText answer
answered text written answer judged =
    behind_the_head (NamesNoText answer) text written (λ r h wrote. reached text r written answer h wrote judged)

-- ---- a row: where the head of a script departs, no capture is there

no_captures_of_a_bad_head : (kind : Departure) → HasCaptures (Err (Departs kind 1)) → ⊥
no_captures_of_a_bad_head kind has = absurd (omega (arith, has))
