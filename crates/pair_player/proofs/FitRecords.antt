-- An end that is in its ranges, and what a step of it makes: records that have lines.
use Rattle.std.proofs.Common.{◌≡◌, ℕ, true, nat_le, List, [], ◌∷◌, length, refl, arith, leb-true}
use Rattle.std.specs.List.{AllByRecursion}
use Rattle.std.proofs.lemmas.Bool.{and_parts}
use Rattle.capture_record.specs.declared.limit.TheConstants.{MAX_UNIT, MAX_MESSAGE}
use Rattle.capture_record.specs.declared.event.Event.TheVariants as events
use Rattle.capture_record.specs.declared.record.Record.{Record}
use Rattle.capture_record.specs.declared.record.Record.TheVariants.{User}
use Rattle.capture_record.specs.Range.{NumbersFit, IsRecord, most_bytes, record_bytes}
use Rattle.dna_play.specs.HasLine.{are_bytes}
use Rattle.dna_play.specs.NextSent.{LinkEnd}
use Rattle.dna_play.specs.StoredEnd.{StoredEnd}
use Rattle.dna_play.specs.StoredLinks.{handed}
use Rattle.dna_play.specs.StoredPlay.{StoredStepped, all_short, ups}
use Rattle.dna_play.proofs.Bytes.{HasBytes, bytes_told}
use Rattle.dna_play.proofs.EachElement.{more_all}
use Rattle.pair_player.proofs.FitLinks.{AllFit, IsOfLink, LinkFits}
use Rattle.pair_player.proofs.FitStation.{StationFits}

-- ---- what is in range

pub record EndFits (e : StoredEnd) : Type 0 where
  pub station : StationFits e.station.variables
  pub links : AllFit e.links.links

-- a unit on the line
abbrev pub UnitFits : List ℕ → Type 0
UnitFits unit = HasBytes MAX_UNIT unit

pub record StepFits (stepped : StoredStepped) : Type 0 where
  pub end : EndFits stepped.end
  pub sent : AllByRecursion UnitFits stepped.sent
  pub records : AllByRecursion IsRecord stepped.records

pub lined : (r : Record) → NumbersFit r → HasBytes (most_bytes r) (record_bytes r) → IsRecord r
lined r numbers h = record { spelling = record { numbers = numbers; bytes = bytes_told (record_bytes r) h.are }; short = h.few }

pub no_bytes : HasBytes MAX_MESSAGE []
no_bytes = record { are = refl; few = omega arith }

pub handed_link : (message : List ℕ) (link : LinkEnd) → are_bytes message ≡ true → LinkFits link → LinkFits (handed message link)
handed_link message link bytes h = record {
  own_fits = h.own_fits;
  segments = record {
    unsent = more_all (λ (m : List ℕ). are_bytes m ≡ true) link.variables.unsent.messages (message ∷ []) h.segments.unsent (bytes, tt);
    outstanding = h.segments.outstanding;
    pieces = h.segments.pieces;
  };
}

pub ups_lined : (own : ℕ) (messages : List (List ℕ)) → all_short messages ≡ true → AllByRecursion (IsOfLink own) messages →
    AllByRecursion IsRecord (ups own messages)
ups_lined own [] short h = tt
ups_lined own (message ∷ later) short h =
    let p = and_parts (nat_le (length message) MAX_MESSAGE) (all_short later) short in
    let bytes : HasBytes MAX_MESSAGE message = record { are = h.0.1; few = leb-true (length message) MAX_MESSAGE p.0 } in
    (lined (User (events.Up own message)) h.0.0 bytes, ups_lined own later p.1 h.1)
