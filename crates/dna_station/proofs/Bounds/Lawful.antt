-- What is known of an effect when it is done in a pair: each row of the table has it of its effects, one after another.
use Rattle.std.proofs.Common.{◌≡◌, ℕ, Bool, true, false, eqb, cond, Option, Some, None, List, [], ◌∷◌, refl, ap, eqb-true}
use Rattle.std.proofs.lemmas.Bool.{and_parts}
use Rattle.ddcmp_msg.specs.Message.{MessageValue, Data, Ack, Nak, Rep, Strt, Stack}
use Rattle.dna_station.specs.declared.state.State.{State}
use Rattle.dna_station.specs.declared.state.State.TheVariants.{Halted, Istrt, Astrt, Running}
use Rattle.dna_station.specs.declared.tag.Tag.{Tag}
use Rattle.dna_station.specs.Table.{Row, OfPair, ignored, Effect, GoTo, TakePartner, Respond, SetBack, TakePacket, AnswerRep, row}
use Rattle.dna_station.specs.PeriodRule.{is_period, meets}
use Rattle.dna_station.specs.Book.{has_packet}
use Rattle.dna_station.specs.Station.{Station}
use Rattle.dna_station.specs.Truth.{tag_of}
use Rattle.dna_station.proofs.Bounds.Numbers.{has_response, is_data, is_rep}
use Rattle.dna_station.proofs.Bounds.Stations.{is_starting}

-- ---- the rule on periods

known_period : (o : Option ℕ) (period : ℕ) → is_period o period ≡ true → o ≡ Some period
known_period None period e = absurd cc
known_period (Some known) period e = ap Some (eqb-true known period e)

-- a message of the pair
pub record IsOfPair (s : Station) (tag : Tag) : Type 0 where
  pub from : s.partner ≡ Some tag.period
  pub to : tag.partner ≡ Some s.period

of_pair : (s : Station) (tag : Tag) → meets OfPair (tag_of s) tag ≡ true → IsOfPair s tag
of_pair s tag e =
    let p = and_parts (is_period s.partner tag.period) (is_period tag.partner s.period) e in
    record { from = known_period s.partner tag.period p.0; to = known_period tag.partner s.period p.1 }

-- ---- effects

-- the state behind an effect
abbrev pub goes : State → Effect → State
goes now (GoTo state) = state
goes now effect = now

-- whether the partner is taken
abbrev pub has_partner : List Effect → Bool
has_partner [] = false
has_partner (TakePartner ∷ next) = true
has_partner (effect ∷ next) = has_partner next

module _ (s : Station) (m : MessageValue) (tag : Tag) where
  -- of an effect that is done in this state
  abbrev pub IsLawfulEffect : State → Effect → Type 0
  IsLawfulEffect now (GoTo state) = is_starting state ≡ true → is_starting now ≡ true
  IsLawfulEffect now TakePartner = is_starting now ≡ true
  IsLawfulEffect now Respond = (is_starting now ≡ false) × (has_response m ≡ true) × IsOfPair s tag
  IsLawfulEffect now SetBack = Unit {0}
  IsLawfulEffect now TakePacket = (is_starting now ≡ false) × (is_data m ≡ true) × IsOfPair s tag
  IsLawfulEffect now AnswerRep = is_rep m ≡ true × IsOfPair s tag

  abbrev pub AreLawful : State → List Effect → Type 0
  AreLawful now [] = Unit {0}
  AreLawful now (effect ∷ next) = IsLawfulEffect now effect × AreLawful (goes now effect) next

  -- ---- what the effects of a row say of the message

  pub packet_lawful : (effects : List Effect) (now : State) → AreLawful now effects → has_packet effects ≡ true → (is_data m ≡ true) × IsOfPair s tag
  packet_lawful [] now l e = absurd cc
  packet_lawful (TakePacket ∷ next) now l e = (l.0.1, l.0.2)
  packet_lawful (effect ∷ next) now l e = packet_lawful next (goes now effect) l.1 e

  pub partner_lawful : (effects : List Effect) (now : State) → AreLawful now effects → has_partner effects ≡ true → is_starting now ≡ true
  partner_lawful [] now l e = absurd cc
  partner_lawful (TakePartner ∷ next) now l e = l.0
  partner_lawful (GoTo state ∷ next) now l e = l.0 (partner_lawful next state l.1 e)
  partner_lawful (effect ∷ next) now l e = partner_lawful next now l.1 e

-- ---- rows

module _ (s : Station) (tag : Tag) where
  either_row : (m : MessageValue) (b : Bool) (r : Row) → (meets r.needs (tag_of s) tag ≡ true → AreLawful s m tag Astrt r.effects) →
      meets (cond b r ignored).needs (tag_of s) tag ≡ true → AreLawful s m tag Astrt (cond b r ignored).effects
  either_row m true r lawful met = lawful met
  either_row m false r lawful met = tt

  -- a message that its row does not refuse
  pub rows_lawful : (state : State) (m : MessageValue) → meets (row state m).needs (tag_of s) tag ≡ true →
      AreLawful s m tag state (row state m).effects
  rows_lawful Istrt (Strt flags) met = (refl, ((λ e. refl), tt))
  rows_lawful Istrt (Stack flags) met = (refl, ((λ e. absurd cc), tt))
  rows_lawful Istrt m met = tt
  rows_lawful Astrt (Strt flags) met = (refl, tt)
  rows_lawful Astrt (Stack flags) met = (refl, ((λ e. absurd cc), tt))
  rows_lawful Astrt (Ack flags resp) met = either_row (Ack flags resp) (eqb resp 0) _ (λ met. ((λ e. absurd cc), tt)) met
  rows_lawful Astrt (Data flags resp num body) met =
      either_row (Data flags resp num body) (eqb resp 0) _
      (λ met. ((λ e. absurd cc), ((refl, refl, of_pair s tag met), ((refl, refl, of_pair s tag met), tt)))) met
  rows_lawful Astrt m met = tt
  rows_lawful Running (Strt flags) met = ((λ e. absurd cc), tt)
  rows_lawful Running (Stack flags) met = tt
  rows_lawful Running (Ack flags resp) met = ((refl, refl, of_pair s tag met), tt)
  rows_lawful Running (Nak flags reason resp) met = ((refl, refl, of_pair s tag met), (tt, tt))
  rows_lawful Running (Rep flags num) met = ((refl, of_pair s tag met), tt)
  rows_lawful Running (Data flags resp num body) met = ((refl, refl, of_pair s tag met), ((refl, refl, of_pair s tag met), tt))
  rows_lawful Halted m met = tt
