-- The limits of a capture and of a script, as numbers. Code and definitions share the constants of a capture, so a proof that the code keeps to a
-- limit says nothing of how great that is. In these rows the greatest that fits does fit and one more does not: who changes a constant, or takes `<`
-- for `≤` in a definition, has to change the row.
use Rattle.dna_rows.proofs.Prelude.{◌≡◌, ◌≢◌, ℕ, true, List, [], length, inl, inr, refl, arith, AllByRecursion, TooLong, TooMany, Kept, Record}
use Rattle.dna_rows.proofs.Prelude.{Sent, Received, User, In, Up, HintForm, Distance, IsLink, NumbersFit, IsShort, IsRecord, IsNode, FormFits}
use Rattle.dna_rows.proofs.Prelude.{IsCapture, first_line, has_lf, IsWhole, LineDeparts, RecordDeparts, Script, IsStep, IsScript, StepDeparts}
use Rattle.dna_rows.proofs.Prelude.{most_bytes}
use Rattle.capture_record.specs.declared.record.Record.TheVariants.{Noise}
use Rattle.dna_links.specs.User as links
use Rattle.dna_play.specs.Script as step
use Rattle.dna_play.specs.ScriptText as script_range

-- ---- a line of either text, before its LF: at most 131,081 bytes. Refuses another MAX_LINE

longest_line : (text : List ℕ) → has_lf text ≡ true → length (first_line text) ≡ 131081 → IsWhole text
longest_line text ended count = record { short = omega arith; ended = ended }

line_of_131082 : (text : List ℕ) → length (first_line text) ≡ 131082 → IsWhole text → ⊥
line_of_131082 text count whole = let short = whole.short in absurd (omega arith)

line_of_131082_departs : (text : List ℕ) → length (first_line text) ≡ 131082 → LineDeparts 1 0 TooLong text
line_of_131082_departs text count = (omega arith, omega arith)

line_of_131081_does_not : (text : List ℕ) → length (first_line text) ≡ 131081 → LineDeparts 1 0 TooLong text → ⊥
line_of_131081_does_not text count departs = let long = departs.1 in absurd (omega arith)

-- ---- a unit, or noise: at most 16,393 bytes, as a data message of 16,383 has them. Refuses another MAX_UNIT

longest_unit : (bytes : List ℕ) → length bytes ≡ 16393 → IsShort (Sent bytes) × IsShort (Received 0 Kept bytes) × IsShort (Noise bytes)
longest_unit bytes count = (omega arith, omega arith, omega arith)

unit_of_16394 : (bytes : List ℕ) → length bytes ≡ 16394 →
    (IsShort (Sent bytes) → ⊥) × (IsShort (Received 0 Kept bytes) → ⊥) × (IsShort (Noise bytes) → ⊥)
unit_of_16394 bytes count = (λ short. absurd (omega arith), λ short. absurd (omega arith), λ short. absurd (omega arith))

-- ---- a message that is handed in or delivered: at most 65,535 bytes. Refuses another MAX_MESSAGE

longest_message : (bytes : List ℕ) → length bytes ≡ 65535 → IsShort (User (In 1 bytes)) × IsShort (User (Up 1 bytes))
longest_message bytes count = (omega arith, omega arith)

message_of_65536 : (bytes : List ℕ) → length bytes ≡ 65536 → (IsShort (User (In 1 bytes)) → ⊥) × (IsShort (User (Up 1 bytes)) → ⊥)
message_of_65536 bytes count = (λ short. absurd (omega arith), λ short. absurd (omega arith))

-- the links take as much
longest_for_the_links : (bytes : List ℕ) → length bytes ≡ 65535 → links.IsInRange (links.In 1 bytes) × links.IsInRange (links.Up 1 bytes)
longest_for_the_links bytes count = ((omega arith, omega arith), (omega arith, omega arith))

too_long_for_the_links : (bytes : List ℕ) → length bytes ≡ 65536 →
    (links.IsInRange (links.In 1 bytes) → ⊥) × (links.IsInRange (links.Up 1 bytes) → ⊥)
too_long_for_the_links bytes count =
    (λ fits. let short = fits.1 in absurd (omega arith), λ fits. let short = fits.1 in absurd (omega arith))

-- ---- the address of a link: 1 to 65,535. Refuses another MAX_LINK

link_addresses : IsLink 1 × IsLink 65535
link_addresses = (record { least = omega arith; most = omega arith }, record { least = omega arith; most = omega arith })

no_link_addresses : (IsLink 0 → ⊥) × (IsLink 65536 → ⊥)
no_link_addresses = (λ link. let least = link.least in absurd (omega arith), λ link. let most = link.most in absurd (omega arith))

-- ---- the address of a node, area times 1,024 plus node: area 1 to 63, node 1 to 1,023

least_node : IsNode 1025
least_node = record { least_area = omega arith; most_area = omega arith; least_node = omega arith }

greatest_node : IsNode 65535
greatest_node = record { least_area = omega arith; most_area = omega arith; least_node = omega arith }

no_nodes : (IsNode 1023 → ⊥) × (IsNode 1024 → ⊥) × (IsNode 65537 → ⊥)
no_nodes = (
  λ node. let area = node.least_area in absurd (omega arith),
  λ node. let number = node.least_node in absurd (omega arith),
  λ node. let area = node.most_area in absurd (omega arith),
)

-- ---- the records of a capture: at most 1,000,000,000,000. Refuses another MAX_RECORDS

most_records : (own peer : ℕ) (records : List Record) → IsNode own → IsNode peer → AllByRecursion IsRecord records →
    length records ≡ 1000000000000 → IsCapture own peer records
most_records own peer records of_own of_peer each count = record { own_fits = of_own; peer_fits = of_peer; each = each; few = omega arith }

one_record_too_many : (own peer : ℕ) (records : List Record) → length records ≡ 1000000000001 → IsCapture own peer records → ⊥
one_record_too_many own peer records count capture = let few = capture.few in absurd (omega arith)

line_behind_the_last : (form : HintForm) (text : List ℕ) → text ≢ [] → RecordDeparts form 1000000000000 TooMany text
line_behind_the_last form text some = inl (omega arith, some)

last_line : (form : HintForm) (text : List ℕ) → RecordDeparts form 999999999999 TooMany text → ⊥
last_line form text (inl departs) = let many = departs.0 in absurd (omega arith)
last_line form text (inr departs) = absurd departs.2

-- ---- hints: at most 999,999,999,999,999,999, and a mark may be one more. Refuses another MAX_HINT or MAX_MARK

greatest_hint : NumbersFit (Received 999999999999999999 Kept []) × FormFits (Distance 1000000000000000000)
greatest_hint = (omega arith, omega arith)

hint_above : (NumbersFit (Received 1000000000000000000 Kept []) → ⊥) × (FormFits (Distance 1000000000000000001) → ⊥)
hint_above = (λ fits. absurd (omega arith), λ fits. absurd (omega arith))

-- ---- the steps of a script: at most 100,000,000. Refuses another MAX_STEPS of the definitions, to which the reader of scripts is held

most_steps : (script : Script) → IsNode script.node_a → IsNode script.node_b → AllByRecursion IsStep script.steps →
    length script.steps ≡ 100000000 → IsScript script
most_steps script of_a of_b each count = record { node_a = of_a; node_b = of_b; each = each; few = omega arith }

one_step_too_many : (script : Script) → length script.steps ≡ 100000001 → IsScript script → ⊥
one_step_too_many script count is = let few = is.few in absurd (omega arith)

step_behind_the_last : (text : List ℕ) → text ≢ [] → StepDeparts 100000000 TooMany text
step_behind_the_last text some = inl (omega arith, some)

last_step : (text : List ℕ) → StepDeparts 99999999 TooMany text → ⊥
last_step text (inl departs) = let many = departs.0 in absurd (omega arith)
last_step text (inr departs) = absurd departs.2

-- its noise and its messages are as long as those of a capture, and a place or value of damage as great as a hint
longest_of_a_step : (bytes : List ℕ) → (most_bytes (step.Noise bytes) ≡ 16393) × (most_bytes (step.In 1 bytes) ≡ 65535)
longest_of_a_step bytes = (refl, refl)

greatest_damage : script_range.NumbersFit (step.Damage 999999999999999999 999999999999999999)
greatest_damage = (omega arith, omega arith)

damage_above : (script_range.NumbersFit (step.Damage 1000000000000000000 0) → ⊥) × (script_range.NumbersFit (step.Damage 0 1000000000000000000) → ⊥)
damage_above = (λ fits. let place = fits.0 in absurd (omega arith), λ fits. let value = fits.1 in absurd (omega arith))
