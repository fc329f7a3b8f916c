-- What `play` wrote into two empty captures, `check` accepts.
use Rattle.std.proofs.Common.{ℕ, inl, inr, List, [], Option, Some, None, Result, Ok, Err, sym, subst, arith}
use Rattle.std.specs.Io.KnownBytes.{Appends}
use Rattle.capture.specs.Range.{IsText}
use Rattle.dna_play.specs.Played.{head_a, head_b}
use Rattle.dna_play.specs.PlayRun.{StartsOnce}
use Rattle.pair_judge.specs.declared.fault.JudgeFault.TheVariants as judge
use Rattle.pair_judge.specs.declared.fault.TextFault.TheVariants as of_text
use Rattle.pair_judge.specs.declared.verdict.Verdict.TheVariants.{Accepted, Refused}
use Rattle.dna_node.specs.Kind.{both_layers}
use Rattle.pair_judge.specs.Judged.{AcceptsOrFails, Answer, IfTold, IsAnswer, IsExact}
use Rattle.pair_player.specs.declared.fault.PlayFault.{PlayFault}
use Rattle.pair_player.specs.declared.fault.PlayFault.TheVariants.{Departs, BadStep, Full, Read, Write, OutOfMemory}
use Rattle.pair_player.specs.declared.played.Played.{Played}
use Rattle.pair_player.specs.Playing.{HasPlayed, HasWritten, Held, Plays, Reached, held, text_a, text_b}
use Rattle.pair_player.specs.Runs.{AreARun, StartsOnceThroughout}
use Rattle.pair_player.proofs.RunLaws.{a_run}
use Rattle.text_commands.specs.Accepting.{HasCaptures, IsAcceptedStatus, PlaysThenChecks, empty_captures}
use Rattle.text_commands.specs.Playing.{TellsPlayed}
use Rattle.printing.specs.Printed.{Moved, Prints, verdict_text}
use Rattle.text_commands.proofs.PlayedBehind.{behind_the_head}

-- ---- of what was played

told : (r : Reached) (a b : Option (List ℕ)) (answer : Answer) → AreARun r → Appends (Some []) a (text_a r) → Appends (Some []) b (text_b r) →
    IfTold a b (λ bytes_a bytes_b. IsExact both_layers bytes_a bytes_b answer) → AcceptsOrFails answer
told r None b answer run of_a of_b exact = absurd of_a
told r (Some a) None answer run of_a of_b exact = absurd of_b
told r (Some a) (Some b) answer run of_a of_b exact =
    exact (head_a r.script) (head_b r.script) r.played.of_a r.played.of_b
    (subst (IsText r.script.node_a r.script.node_b r.played.of_a) (sym of_a) run.is_text_a)
    (subst (IsText r.script.node_b r.script.node_a r.played.of_b) (sym of_b) run.is_text_b) run.run

pub reached : (text : Option (List ℕ)) (r : Reached) (written : Held) (answer : Answer) → HasPlayed text r → StartsOnce r.script.steps →
    HasWritten empty_captures written r → IsAnswer both_layers written.a written.b answer → AcceptsOrFails answer
reached text r written answer h once wrote judged =
    told r written.a written.b answer (a_run text r h once) wrote.a wrote.b judged.exact

-- ---- of what was answered

pub answered : (text : Option (List ℕ)) (written : Held) (answer : Answer) → StartsOnceThroughout text →
    IsAnswer both_layers written.a written.b answer → (played : Result Played PlayFault) → Plays text empty_captures written played →
    HasCaptures played → AcceptsOrFails answer
answered text written answer once judged =
    behind_the_head (AcceptsOrFails answer) text written (λ r h wrote. reached text r written answer h (once r h) wrote judged)

-- ---- of what is printed

-- status 0 tells that all was played
all_played : (out err : Moved) (played : Result Played PlayFault) → TellsPlayed out err played 0 → HasCaptures played
all_played out err (Ok played) tells = tt
all_played out err (Err (Departs kind line)) (inl tells, same) = absurd (omega (arith, tells.2))
all_played out err (Err (Departs kind line)) (inr tells, same) = absurd (omega (arith, tells.2))
all_played out err (Err (BadStep line)) tells = tt
all_played out err (Err (Full line)) tells = tt
all_played out err (Err Read) (inl tells, same) = absurd (omega (arith, tells.2))
all_played out err (Err Read) (inr tells, same) = absurd (omega (arith, tells.2))
all_played out err (Err (Write side)) (inl tells, same) = absurd (omega (arith, tells.2))
all_played out err (Err (Write side)) (inr tells, same) = absurd (omega (arith, tells.2))
all_played out err (Err OutOfMemory) (inl tells, same) = absurd (omega (arith, tells.2))
all_played out err (Err OutOfMemory) (inr tells, same) = absurd (omega (arith, tells.2))

-- the status of an acceptance, or of a fault of memory or of a device
accepted_status : (out err : Moved) (answer : Answer) (status : ℕ) → AcceptsOrFails answer → Prints both_layers verdict_text out err answer status →
    IsAcceptedStatus status
accepted_status out err (Ok (Accepted summary)) status is (inl prints, same) = inl prints.2
accepted_status out err (Ok (Accepted summary)) status is (inr prints, same) = inr prints.2
accepted_status out err (Ok (Refused side place reason)) status is prints = absurd is
accepted_status out err (Err (judge.Capture side (of_text.Departs kind line))) status is prints = absurd is
accepted_status out err (Err (judge.Capture side of_text.Read)) status is (inl prints, same) = inr prints.2
accepted_status out err (Err (judge.Capture side of_text.Read)) status is (inr prints, same) = inr prints.2
accepted_status out err (Err judge.OutOfMemory) status is (inl prints, same) = inr prints.2
accepted_status out err (Err judge.OutOfMemory) status is (inr prints, same) = inr prints.2

pub printed : (script : Moved) (captures played_to checked_to : Moved × Moved) (status : ℕ) →
    PlaysThenChecks script captures played_to checked_to status → StartsOnceThroughout script.old.bytes → IsAcceptedStatus status
printed script captures played_to checked_to status h once =
    let written : Held = held captures.0.new.bytes captures.1.new.bytes in
    let plays : Plays script.old.bytes empty_captures written h.plays.answer =
    subst (λ (b : Option (List ℕ)). Plays script.old.bytes (held (Some []) b) written h.plays.answer) h.empty_b
    (subst (λ (a : Option (List ℕ)). Plays script.old.bytes (held a captures.1.old.bytes) written h.plays.answer) h.empty_a h.plays.plays) in
    let judged : IsAnswer both_layers captures.0.new.bytes captures.1.new.bytes h.checks.answer =
    subst (λ (b : Option (List ℕ)). IsAnswer both_layers captures.0.new.bytes b h.checks.answer) h.reads_b
    (subst (λ (a : Option (List ℕ)). IsAnswer both_layers a h.b.old.bytes h.checks.answer) h.reads_a h.checks.judged) in
    accepted_status checked_to.0 checked_to.1 h.checks.answer status
    (answered script.old.bytes written h.checks.answer once judged h.plays.answer plays
    (all_played played_to.0 played_to.1 h.plays.answer h.plays.tells)) h.checks.printed
