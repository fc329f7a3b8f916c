-- Phases of a link, as the rules of a script's steps and the tables of the links have them.
use Rattle.dna_play.proofs.Prelude.{◌≡◌, Bool, true, ◌&&◌, inl, inr, Option, Some, None, List, [], ◌∷◌, refl, ap, ◌∙◌, is_some, and_parts, Phase}
use Rattle.dna_play.proofs.Prelude.{Calling, Called, Confirming, Running, Disconnecting, Ended, is_live, is_called, is_calling, is_connected}
use Rattle.dna_play.proofs.Prelude.{takes_messages, LinkOwed, retried, IsOneOf}

-- whether each of these phases passes a test
abbrev all_pass : (Phase → Bool) → List Phase → Bool
all_pass test [] = true
all_pass test (one ∷ later) = test one && all_pass test later

one_passes : (test : Phase → Bool) (phases : List Phase) (phase : Phase) → all_pass test phases ≡ true → IsOneOf phases phase → test phase ≡ true
one_passes test [] phase all one = absurd one
one_passes test (first ∷ later) phase all (inl e) = ap test e ∙ (and_parts (test first) (all_pass test later) all).0
one_passes test (first ∷ later) phase all (inr one) = one_passes test later phase (and_parts (test first) (all_pass test later) all).1 one

abbrev pub Takes : List Phase
Takes = Calling ∷ Confirming ∷ Running ∷ []

abbrev pub Connected : List Phase
Connected = Confirming ∷ Running ∷ []

abbrev pub Calls : List Phase
Calls = Calling ∷ []

abbrev pub Retried : List Phase
Retried = Calling ∷ Confirming ∷ Disconnecting ∷ Running ∷ []

pub takes_is : (phase : Phase) → takes_messages phase ≡ true → IsOneOf Takes phase
takes_is Calling e = inl refl
takes_is Confirming e = inr (inl refl)
takes_is Running e = inr (inr (inl refl))
takes_is phase e = absurd cc

pub takes_when : (phase : Phase) → IsOneOf Takes phase → (takes_messages phase ≡ true) × (is_live phase ≡ true)
takes_when phase one = (one_passes takes_messages Takes phase refl one, one_passes is_live Takes phase refl one)

pub connected_is : (phase : Phase) → is_connected phase ≡ true → IsOneOf Connected phase
connected_is Confirming e = inl refl
connected_is Running e = inr (inl refl)
connected_is phase e = absurd cc

pub connected_when : (phase : Phase) → IsOneOf Connected phase → (is_connected phase ≡ true) × (is_live phase ≡ true)
connected_when phase one = (one_passes is_connected Connected phase refl one, one_passes is_live Connected phase refl one)

pub calls_when : (phase : Phase) → IsOneOf Calls phase → (is_calling phase ≡ true) × (is_live phase ≡ true)
calls_when phase one = (one_passes is_calling Calls phase refl one, one_passes is_live Calls phase refl one)

pub retries_live : (phase : Phase) → IsOneOf Retried phase → is_live phase ≡ true
retries_live phase one = one_passes is_live Retried phase refl one

-- whether it can be retried
abbrev pub IsRetried : Phase → Option (LinkOwed → LinkOwed) → Type 0
IsRetried phase None = ¬ (IsOneOf Retried phase)
IsRetried phase (Some change) = IsOneOf Retried phase

retries : (phase : Phase) → IsOneOf Retried phase → is_some (retried phase) ≡ true
retries phase one = one_passes (λ (p : Phase). is_some (retried p)) Retried phase refl one

pub retried_is : (phase : Phase) → IsRetried phase (retried phase)
retried_is Calling = inl refl
retried_is Confirming = inr (inl refl)
retried_is Disconnecting = inr (inr (inl refl))
retried_is Running = inr (inr (inr (inl refl)))
retried_is Called = λ one. let e = retries Called one in cc
retried_is Ended = λ one. let e = retries Ended one in cc

pub called_is : (phase : Phase) → is_called phase ≡ true → phase ≡ Called
called_is Called e = refl
called_is phase e = absurd cc

pub calling_is : (phase : Phase) → is_calling phase ≡ true → phase ≡ Calling
calling_is Calling e = refl
calling_is phase e = absurd cc
