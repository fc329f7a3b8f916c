-- The words behind the letter of a side: what is read is the step's one spelling, and its spelling is read.
use Rattle.std.proofs.Common.{◌≡◌, ℕ, ◌<◌, ◌≤◌, List, ◌∷◌, ◌++◌, length, Option, Some, Result, Ok, refl, ap, subst, ◌∙◌, arith, lit<}
use Rattle.std.specs.Prelude.{codes, IfSome}
use Rattle.std.specs.Fmt.{decimal}
use Rattle.std.specs.Str.{bytes_eq}
use Rattle.std.proofs.lemmas.Bool.{cond_both}
use Rattle.std.proofs.lemmas.Slice.Eq.{bytes_eq-Decides}
use Rattle.ddcmp_msg.specs.Message.{IsBytes}
use Rattle.capture.specs.declared.fault.Departure.{Departure}
use Rattle.capture_record.specs.declared.limit.TheConstants.{MAX_HINT, MAX_LINK, MAX_UNIT, MAX_MESSAGE}
use Rattle.capture_record.specs.Range.{IsLink}
use Rattle.capture.specs.Text.{spaced}
use Rattle.capture.specs.Reading.{◌>>=◌, must, or_else, after, cut_at, number_at, positive_at, bytes_at, message_at}
use Rattle.capture.proofs.PartLaws.{after_takes, cut_takes, cut_again}
use Rattle.capture.proofs.NumberLaws.{number_takes, number_again, decimal_lacks}
use Rattle.capture.proofs.BytesLaws.{IsBytesOf, IsLongOf, bytes_shows, bytes_again, limited, limited_then}
use Rattle.capture.proofs.EventLaws.{link_takes, link_again, IsMessageOf, IsLongMessageOf, message_shows, message_again, no_bytes}
use Rattle.capture.proofs.Shown.{Shows, shows_map, shows_must, shows_or_else}
use Rattle.dna_play.specs.Script.{StepValue, Damage, Noise, Accept, Reject, In, Close, Abort, Retry}
use Rattle.dna_play.specs.ScriptText.{step_text, NumbersFit, step_bytes, most_bytes}
use Rattle.pair_player.specs.inner.Reading.{plain_at, damage_at, link_step_at, step_at}

-- a step that was read, and one that was read but for the length of its message
abbrev pub IsStepOf : List ℕ → StepValue → Type 0
IsStepOf text step = (text ≡ step_text step) × NumbersFit step × IsBytes (step_bytes step) × (length (step_bytes step) ≤ most_bytes step)

abbrev pub IsLongStepOf : List ℕ → StepValue → Type 0
IsLongStepOf text step = (text ≡ step_text step) × NumbersFit step × IsBytes (step_bytes step) × (most_bytes step < length (step_bytes step))

-- ---- a step of one word

abbrev Tells : List ℕ → Option StepValue → Type 0
Tells text o = IfSome o (IsStepOf text)

plain_shows : (text : List ℕ) → Tells text (plain_at text)
unfolding plain_at
plain_shows text =
    cond_both (bytes_eq text (codes "start")) _ _ (Tells text) (λ t. ((bytes_eq-Decides text (codes "start")).0 t, tt, no_bytes, omega arith)) (λ _.
    cond_both (bytes_eq text (codes "halt")) _ _ (Tells text) (λ t. ((bytes_eq-Decides text (codes "halt")).0 t, tt, no_bytes, omega arith)) (λ _.
    cond_both (bytes_eq text (codes "boot")) _ _ (Tells text) (λ t. ((bytes_eq-Decides text (codes "boot")).0 t, tt, no_bytes, omega arith)) (λ _.
    cond_both (bytes_eq text (codes "timer")) _ _ (Tells text) (λ t. ((bytes_eq-Decides text (codes "timer")).0 t, tt, no_bytes, omega arith)) (λ _.
    cond_both (bytes_eq text (codes "send")) _ _ (Tells text) (λ t. ((bytes_eq-Decides text (codes "send")).0 t, tt, no_bytes, omega arith)) (λ _.
    cond_both (bytes_eq text (codes "deliver")) _ _ (Tells text) (λ t. ((bytes_eq-Decides text (codes "deliver")).0 t, tt, no_bytes, omega arith))
    (λ _.
    cond_both (bytes_eq text (codes "refuse")) _ _ (Tells text) (λ t. ((bytes_eq-Decides text (codes "refuse")).0 t, tt, no_bytes, omega arith)) (λ _.
    cond_both (bytes_eq text (codes "drop")) _ _ (Tells text) (λ t. ((bytes_eq-Decides text (codes "drop")).0 t, tt, no_bytes, omega arith)) (λ _.
    cond_both (bytes_eq text (codes "lose")) _ _ (Tells text) (λ t. ((bytes_eq-Decides text (codes "lose")).0 t, tt, no_bytes, omega arith)) (λ _.
    cond_both (bytes_eq text (codes "open")) _ _ (Tells text) (λ t. ((bytes_eq-Decides text (codes "open")).0 t, tt, no_bytes, omega arith))
    (λ _. tt))))))))))

-- ---- the numbers of a changed byte

abbrev AreNumbersOf : List ℕ → ℕ × ℕ → Type 0
AreNumbersOf text m = (text ≡ spaced (decimal m.0) (decimal m.1)) × (m.0 ≤ MAX_HINT) × (m.1 ≤ MAX_HINT)

abbrev Never : {A : Type 0} → A → Type 0
Never x = ⊥

damage_shows : (text : List ℕ) → Shows (AreNumbersOf text) Never (damage_at text)
unfolding damage_at
damage_shows text =
    shows_must (AreNumbersOf text) Never (cut_at 32 text) _ (λ parts cut.
    shows_must (AreNumbersOf text) Never (number_at MAX_HINT parts.0) _ (λ place first.
    shows_must (AreNumbersOf text) Never (number_at MAX_HINT parts.1) _ (λ value second.
    let p = number_takes MAX_HINT parts.0 place (lit< tt) first in
    let q = number_takes MAX_HINT parts.1 value (lit< tt) second in
    (cut_takes 32 text parts cut ∙ ap (λ (t : List ℕ). t ++ 32 ∷ parts.1) p.0 ∙ ap (λ (t : List ℕ). decimal place ++ 32 ∷ t) q.0, p.1, q.1))))

damage_again : (place value : ℕ) → place ≤ MAX_HINT → value ≤ MAX_HINT → damage_at (spaced (decimal place) (decimal value)) ≡ Ok (place, value)
unfolding damage_at
damage_again place value p q =
    rw (
      cut_again 32 (decimal place) (decimal value) (decimal_lacks 32 place (lit< tt) (omega arith)),
      number_again MAX_HINT place (lit< tt) p,
      number_again MAX_HINT value (lit< tt) q,
    ) refl

-- ---- a step of a link

-- a word, and the address of a link behind it
word_shows : (text word : List ℕ) (step : ℕ → StepValue) (otherwise : Result StepValue Departure) →
    ((link : ℕ) → text ≡ word ++ decimal link → IsLink link → IsStepOf text (step link)) →
    Shows (IsStepOf text) (IsLongStepOf text) otherwise → Shows (IsStepOf text) (IsLongStepOf text)
    (or_else (after word text) (λ rest. must (positive_at MAX_LINK rest) >>= λ link. Ok (step link)) otherwise)
word_shows text word step otherwise spelled later =
    shows_or_else (IsStepOf text) (IsLongStepOf text) (after word text) _ _
    (λ rest e. shows_must (IsStepOf text) (IsLongStepOf text) (positive_at MAX_LINK rest) _ (λ link f.
    let p = link_takes rest link f in
    spelled link (after_takes word text rest e ∙ ap (λ (t : List ℕ). word ++ t) p.0) p.1)) later

link_step_shows : (text : List ℕ) → Shows (IsStepOf text) (IsLongStepOf text) (link_step_at text)
unfolding link_step_at
link_step_shows text =
    word_shows text (codes "accept ") Accept _ (λ link is fits. (is, fits, no_bytes, omega arith))
    (word_shows text (codes "reject ") Reject _ (λ link is fits. (is, fits, no_bytes, omega arith))
    (word_shows text (codes "close ") Close _ (λ link is fits. (is, fits, no_bytes, omega arith))
    (word_shows text (codes "abort ") Abort _ (λ link is fits. (is, fits, no_bytes, omega arith))
    (word_shows text (codes "retry ") Retry _ (λ link is fits. (is, fits, no_bytes, omega arith)) tt))))

-- ---- steps

plain_found : (text : List ℕ) (step : StepValue) → plain_at text ≡ Some step → IsStepOf text step
plain_found text step e = subst (Tells text) e (plain_shows text)

pub step_shows : (text : List ℕ) → Shows (IsStepOf text) (IsLongStepOf text) (step_at text)
unfolding step_at
step_shows text =
    shows_or_else (IsStepOf text) (IsLongStepOf text) (plain_at text) _ _ (plain_found text)
    (shows_or_else (IsStepOf text) (IsLongStepOf text) (after (codes "in ") text) _ _
    (λ rest e. shows_map (IsMessageOf rest) (IsLongMessageOf rest) (IsStepOf text) (IsLongStepOf text) (λ m. In m.0 m.1) (message_at rest)
    (message_shows rest)
    (λ m h. (after_takes (codes "in ") text rest e ∙ ap (λ (t : List ℕ). codes "in " ++ t) h.0, h.1, h.2, h.3))
    (λ m h. (after_takes (codes "in ") text rest e ∙ ap (λ (t : List ℕ). codes "in " ++ t) h.0, h.1, h.2, h.3)))
    (shows_or_else (IsStepOf text) (IsLongStepOf text) (after (codes "noise ") text) _ _
    (λ rest e. shows_map (IsBytesOf MAX_UNIT rest) (IsLongOf MAX_UNIT rest) (IsStepOf text) (IsLongStepOf text) (λ bytes. Noise bytes)
    (bytes_at MAX_UNIT rest) (bytes_shows MAX_UNIT rest)
    (λ bytes h. (after_takes (codes "noise ") text rest e ∙ ap (λ (t : List ℕ). codes "noise " ++ t) h.0, tt, h.1, h.2))
    (λ bytes h. (after_takes (codes "noise ") text rest e ∙ ap (λ (t : List ℕ). codes "noise " ++ t) h.0, tt, h.1, h.2)))
    (shows_or_else (IsStepOf text) (IsLongStepOf text) (after (codes "damage ") text) _ _
    (λ rest e. shows_map (AreNumbersOf rest) Never (IsStepOf text) (IsLongStepOf text) (λ m. Damage m.0 m.1) (damage_at rest) (damage_shows rest)
    (λ m h. (after_takes (codes "damage ") text rest e ∙ ap (λ (t : List ℕ). codes "damage " ++ t) h.0, (h.1, h.2), no_bytes, omega arith))
    (λ m h. absurd h))
    (link_step_shows text))))

pub step_again : (step : StepValue) → NumbersFit step → IsBytes (step_bytes step) → step_at (step_text step) ≡ limited (most_bytes step)
    (step_bytes step) step
unfolding step_at plain_at link_step_at
step_again (Damage place value) h fits = rw (damage_again place value h.0 h.1) refl
step_again (Noise bytes) h fits = rw (bytes_again MAX_UNIT bytes fits) (limited_then MAX_UNIT bytes bytes (λ b. Noise b))
step_again (Accept partner) h fits = rw (link_again partner h) refl
step_again (Reject partner) h fits = rw (link_again partner h) refl
step_again (In link message) h fits = rw (message_again link message h fits) (limited_then MAX_MESSAGE message (link, message) (λ m. In m.0 m.1))
step_again (Close link) h fits = rw (link_again link h) refl
step_again (Abort link) h fits = rw (link_again link h) refl
step_again (Retry link) h fits = rw (link_again link h) refl
step_again step h fits = refl
