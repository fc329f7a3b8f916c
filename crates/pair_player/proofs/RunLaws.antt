-- What was played of a script has texts; and of one that starts each side at most once it is played by ends with their nodes too, and is a run.
use Rattle.std.proofs.Common.{◌≡◌, ℕ, ◌≤◌, List, [], length, Option, Some, None, Result, Ok, Err, refl, sym, ap, subst, ◌∙◌}
use Rattle.std.specs.List.{AllByRecursion}
use Rattle.capture.specs.declared.format.Format.{Format}
use Rattle.capture.specs.declared.limit.TheConstants.{MAX_RECORDS}
use Rattle.capture_record.specs.declared.record.Record.{Record}
use Rattle.capture_record.specs.Range.{IsRecord}
use Rattle.capture.specs.Range.{IsInFormat, IsNode, IsText}
use Rattle.capture.specs.Text.{capture_text}
use Rattle.capture.proofs.ListedSoFar.{goes_on}
use Rattle.dna_node.specs.LayersPair.{IsLayersRun}
use Rattle.dna_play.specs.Script.{Script, format_of}
use Rattle.dna_play.specs.ScriptText.{IsScriptText, script_form, listed}
use Rattle.dna_play.specs.Stop.{Stopped}
use Rattle.dna_play.specs.Played.{Played, head_a, head_b, play, ends_of}
use Rattle.dna_play.specs.PlayRun.{StartsOnce}
use Rattle.dna_play.specs.StoredPlayed.{StoredPlayed, stored_plays_on}
use Rattle.dna_play.proofs.Played.Behind.{same_Ok}
use Rattle.dna_play.proofs.Stored.Law.{once_begun, whole_kept}
use Rattle.dna_play.proofs.Played.Checked.{whole_is_run}
use Rattle.pair_player.specs.declared.fault.PlayFault.{PlayFault}
use Rattle.pair_player.specs.declared.played.Played as answers
use Rattle.pair_player.specs.Playing.{AnswersWhole, HasPlayed, Held, Plays, Reached, reached}
use Rattle.pair_player.specs.Runs.{AreARun, AreTexts, IsOfTruth, StartsOnceThroughout}
use Rattle.pair_player.specs.SoFar.{IsReadSoFar}
use Rattle.pair_player.proofs.FitPlays.{played_lines}
use Rattle.pair_player.proofs.TextLaws.{lines}
use Rattle.pair_player.proofs.WholeLaws.{whole_played}

-- ---- starts

pub once_throughout : (bytes : List ℕ) (script : Script) → IsScriptText script bytes → StartsOnce script.steps → StartsOnceThroughout (Some bytes)
once_throughout bytes script is_text once r h = go r.come h.read
  where
    go : (come : Option (List ℕ)) → IsReadSoFar (Some bytes) r.script come → StartsOnce r.script.steps
    go None read = absurd read.begins
    go (Some rest) read =
        let begun = goes_on script_form lines bytes rest (listed r.script) (listed script) is_text
        (record { fits = read.fits; spelled = read.begins }) in
        once_begun r.script.steps begun.more (subst StartsOnce begun.items once)

-- ---- true numbers

-- what is kept of a whole play is of a whole play
of_whole : (result : Result Played (Stopped Played)) (played : StoredPlayed) → ends_of result ≡ Ok played →
    (so_far : Played) × (result ≡ Ok so_far) × (so_far.ends ≡ played)
of_whole (Ok so_far) played e = (so_far, refl, same_Ok stored_plays_on so_far.ends played e)
of_whole (Err stopped) played e = absurd cc

pub of_truth : (text : Option (List ℕ)) (r : Reached) → HasPlayed text r → StartsOnce r.script.steps → (so_far : Played) × IsOfTruth r so_far
of_truth text r h once =
    let found = of_whole (play r.script) r.played (whole_kept r.script h.read.fits once ∙ h.made) in
    (found.0, record { makes = found.1; keeps = found.2 })

pub whole_of_truth : (bytes : List ℕ) (script : Script) (played : Played) (old new : Held) (answer : Result answers.Played PlayFault) →
    IsScriptText script bytes → StartsOnce script.steps → play script ≡ Ok played → Plays (Some bytes) old new answer →
    AnswersWhole (reached script played.ends (Some [])) old new answer
whole_of_truth bytes script played old new answer is_text once e h =
    whole_played bytes script played.ends is_text (sym (whole_kept script is_text.fits once) ∙ ap ends_of e) old new answer h

-- ---- the captures

its_text : (format : Format) (own peer : ℕ) (records : List Record) → IsNode own → IsNode peer → AllByRecursion IsRecord records →
    AllByRecursion (IsInFormat format) records → length records ≤ MAX_RECORDS → IsText own peer records (capture_text format own peer records)
its_text format own peer records own_fits peer_fits each lines few = record {
  format = format;
  is_text = record { fits = record { own_fits = own_fits; peer_fits = peer_fits; each = each; few = few }; lines = lines; spelled = refl };
}

-- of every script
pub all_texts : (text : Option (List ℕ)) (r : Reached) → HasPlayed text r → AreTexts r
all_texts text r h =
    let fits = h.read.fits in
    let lines = played_lines r.script r.played fits h.made in
    record {
      is_text_a = its_text (format_of r.script.steps) r.script.node_a r.script.node_b r.played.of_a fits.node_a fits.node_b lines.lines_a
          lines.formats_a lines.few_a;
      is_text_b = its_text (format_of r.script.steps) r.script.node_b r.script.node_a r.played.of_b fits.node_b fits.node_a lines.lines_b
          lines.formats_b lines.few_b;
    }

pub a_run : (text : Option (List ℕ)) (r : Reached) → HasPlayed text r → StartsOnce r.script.steps → AreARun r
a_run text r h once =
    let found = of_truth text r h once in
    let so_far : Played = found.0 in
    let makes = found.1.makes in
    let texts = all_texts text r h in
    record {
      run = subst (λ (p : StoredPlayed). IsLayersRun (head_a r.script) (head_b r.script) p.of_a p.of_b) found.1.keeps
          (_, whole_is_run r.script so_far makes once);
      is_text_a = texts.is_text_a;
      is_text_b = texts.is_text_b;
    }
