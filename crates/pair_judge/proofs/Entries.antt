-- Which entries are what the other arms of a choice leave.
use Rattle.std.proofs.Common.{◌≡◌, ℕ, false, refl}
use Rattle.capture_record.specs.declared.fate.Fate.{Fate}
use Rattle.capture_record.specs.declared.entry.Entry.{Entry}
use Rattle.capture_record.specs.declared.entry.Entry.TheVariants.{Sent, Received, Noise}
use Rattle.pair_judge.specs.inner.Making.{IsEvent, is_receipt}

-- what was neither sent nor came is the user's
pub is_event : (entry : Entry) → (entry ≡ Sent → ⊥) → ((fate : Fate) (hint : ℕ) → entry ≡ Received fate hint → ⊥) → (entry ≡ Noise → ⊥) →
    IsEvent entry
is_event Sent sent came noise = sent refl
is_event (Received fate hint) sent came noise = came fate hint refl
is_event Noise sent came noise = noise refl
is_event entry sent came noise = tt

pub no_receipt : (entry : Entry) → ((fate : Fate) (hint : ℕ) → entry ≡ Received fate hint → ⊥) → is_receipt entry ≡ false
no_receipt (Received fate hint) other = absurd (other fate hint refl)
no_receipt entry other = refl
