-- The laws on readings and spellings, put together.
use Rattle.std.proofs.Common.{◌≡◌, ◌↔◌, ℕ, List, sym, ap, subst, ◌∙◌}
use Rattle.ddcmp_msg.specs.Message.{MessageValue, IsInRange, IsBytes}
use Rattle.ddcmp_msg.specs.Spelling.{IsUnit, spelling}
use Rattle.ddcmp_msg.specs.Reading.{ReadingValue, Sound, reading}
use Rattle.ddcmp_msg.specs.ReadingRule.{IsReading}
use Rattle.ddcmp_msg.proofs.ReadBack.{reading-spelling}
use Rattle.ddcmp_msg.proofs.Rule.{unit_is_sound, reading_follows}
use Rattle.ddcmp_msg.proofs.OneReading.{reading_is}
use Rattle.ddcmp_msg.proofs.Units.{spelled_once}

pub by_rule : (unit : List ℕ) (answer : ReadingValue) → IsBytes unit → (reading unit ≡ answer) ↔ IsReading answer unit
by_rule unit answer fits = (λ e. subst (λ (r : ReadingValue). IsReading r unit) e (reading_follows unit fits), reading_is answer unit fits)

pub by_grammar : (message : MessageValue) (unit : List ℕ) → IsUnit message unit ↔ (IsInRange message × IsBytes unit × (unit ≡ spelling message))
by_grammar message unit = (
  λ u. (u.in_range, u.bytes, spelled_once message unit u),
  λ h. (by_rule unit (Sound message) h.1).0
      (ap reading h.2 ∙ reading-spelling message h.0),
)

sound_is : (one other : MessageValue) → Sound one ≡ Sound other → one ≡ other
sound_is one other e = cc

pub one_message : (one other : MessageValue) (unit : List ℕ) → IsUnit one unit → IsUnit other unit → one ≡ other
one_message one other unit u v = sound_is one other (sym (unit_is_sound one unit u) ∙ unit_is_sound other unit v)

-- what was found to be the reading follows the rule, and is sound just where the grammar says so
pub rule_of : (unit : List ℕ) (found : ReadingValue) → IsBytes unit → found ≡ reading unit → IsReading found unit
rule_of unit found fits e = subst (λ (r : ReadingValue). IsReading r unit) (sym e) (reading_follows unit fits)

pub sound_of : (unit : List ℕ) (found : ReadingValue) (message : MessageValue) → IsBytes unit → found ≡ reading unit →
    (found ≡ Sound message) ↔ IsUnit message unit
sound_of unit found message fits e = (λ s. (by_rule unit (Sound message) fits).0 (sym e ∙ s), λ u. e ∙ unit_is_sound message unit u)
