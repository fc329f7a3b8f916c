-- What an effect, and what a sending, can make of a station on true numbers: the cases of each, and what it leaves as it is.
use Rattle.std.proofs.Common.{◌≡◌, Bool, true, false, ◌&&◌, eqb, ltb, leb, List, [], ◌∷◌, fold, refl, cond, ◌∙◌}
use Rattle.ddcmp_msg.specs.Message.{MessageValue}
use Rattle.ddcmp_msg.specs.declared.nak_reason.NakReason.{NakReason}
use Rattle.ddcmp_msg.specs.declared.nak_reason.NakReason.TheVariants.{HeaderCheck, DataCheck}
use Rattle.dna_station.specs.Table.{Change, Nothing, change_of, Effect, Respond, TakePacket, AnswerRep, row, counts_damage}
use Rattle.dna_station.specs.Book.{ArrivalValue, Sound, HeaderBad, DataBad, body_of}
use Rattle.dna_station.specs.Station.{Station, given}
use Rattle.dna_station.specs.Truth.{Truth}
use Rattle.dna_station.specs.StationBook.{sends, after_sending, acknowledged_by, is_next, with_data, asked, does, station_book, after_arrival}

-- what each effect keeps, all effects of a row keep
module _ {S : Type 0} (P : S → Type 0) (f : S → Effect → S) (keeps : (s : S) (effect : Effect) → P s → P (f s effect)) where
  pub kept_by_all : (effects : List Effect) (s : S) → P s → P (fold f s effects)
  kept_by_all [] s p = p
  kept_by_all (effect ∷ next) s p = kept_by_all next (f s effect) (keeps s effect p)

module _ (m : MessageValue) (u : Truth) (kept : Bool) (s : Station) where
  module _ (P : Station → Type 0) where
    pub by_response : P s → ((ltb s.acknowledged u.response && leb u.response (given s)) ≡ true → P (acknowledged_by true s u.response)) →
        P (does m u kept s Respond)
    by_response same moved = go (ltb s.acknowledged u.response && leb u.response (given s)) refl
      where
        go : (b : Bool) → (ltb s.acknowledged u.response && leb u.response (given s)) ≡ b → P (acknowledged_by b s u.response)
        go true e = moved e
        go false e = same

    pub by_packet : P s → (is_next s u ≡ true → P (with_data true true s (body_of m))) → P (with_data true false s (body_of m)) →
        P (does m u kept s TakePacket)
    by_packet same took refused = go (is_next s u) kept refl
      where
        go : (b k : Bool) → is_next s u ≡ b → P (with_data b k s (body_of m))
        go true true e = took e
        go true false e = refused
        go false k e = same

    pub by_rep : P s → P (asked false s) → P (does m u kept s AnswerRep)
    by_rep same more = go (eqb u.number s.received)
      where
        go : (b : Bool) → P (asked b s)
        go true = same
        go false = more

-- what an effect leaves
pub record Stays (s t : Station) : Type 0 where
  pub earlier : t.earlier ≡ s.earlier
  pub period : t.period ≡ s.period
  pub packets : t.packets ≡ s.packets

pub does_stays : (m : MessageValue) (u : Truth) (kept : Bool) (s : Station) (effect : Effect) → Stays s (does m u kept s effect)
does_stays m u kept s Respond =
    by_response m u kept s (Stays s) (record { earlier = refl; period = refl; packets = refl })
    (λ e. record { earlier = refl; period = refl; packets = refl })
does_stays m u kept s TakePacket =
    by_packet m u kept s (Stays s) (record { earlier = refl; period = refl; packets = refl })
    (λ e. record { earlier = refl; period = refl; packets = refl }) (record { earlier = refl; period = refl; packets = refl })
does_stays m u kept s AnswerRep =
    by_rep m u kept s (Stays s) (record { earlier = refl; period = refl; packets = refl }) (record { earlier = refl; period = refl; packets = refl })
does_stays m u kept s effect = record { earlier = refl; period = refl; packets = refl }

-- what each effect keeps, and one cause more, an arrival keeps
pub kept_by_arrival : (P : Station → Type 0) →
    ((m : MessageValue) (u : Truth) (kept : Bool) (s : Station) (effect : Effect) → P s → P (does m u kept s effect)) →
    ((reason : NakReason) (s : Station) → P s → P (station_book.counts reason s)) → (s : Station) (arrival : ArrivalValue Truth) (kept : Bool) → P s →
    P (after_arrival s arrival kept)
kept_by_arrival P by_effect by_cause s arrival kept p = go arrival
  where
    damaged : (reason : NakReason) (b : Bool) → P (cond b (station_book.counts reason s) s)
    damaged reason true = by_cause reason s p
    damaged reason false = p

    go : (arrival : ArrivalValue Truth) → P (after_arrival s arrival kept)
    go (Sound m u) = kept_by_all P (does m u kept) (by_effect m u kept) (row s.state m).effects s p
    go HeaderBad = damaged HeaderCheck (counts_damage s.state)
    go DataBad = damaged DataCheck (counts_damage s.state)

pub arrival_stays : (s : Station) (arrival : ArrivalValue Truth) (kept : Bool) → Stays s (after_arrival s arrival kept)
arrival_stays s arrival kept = kept_by_arrival (Stays s)
    (λ m u kept t effect stays. let d = does_stays m u kept t effect in
    record { earlier = d.earlier ∙ stays.earlier; period = d.period ∙ stays.period; packets = d.packets ∙ stays.packets })
    (λ reason t stays. record { earlier = stays.earlier; period = stays.period; packets = stays.packets }) s arrival kept
    (record { earlier = refl; period = refl; packets = refl })

-- what a sending leaves: all but what was given, what comes next, and the causes
pub record StaysAs (s t : Station) : Type 0 where
  pub state : t.state ≡ s.state
  pub period : t.period ≡ s.period
  pub partner : t.partner ≡ s.partner
  pub received : t.received ≡ s.received
  pub acknowledged : t.acknowledged ≡ s.acknowledged
  pub taken : t.taken ≡ s.taken
  pub earlier : t.earlier ≡ s.earlier

sends_stays : (s : Station) (m : MessageValue) (change : Change) → StaysAs s (sends s m change)
sends_stays s m Nothing = record { state = refl; period = refl; partner = refl; received = refl; acknowledged = refl; taken = refl; earlier = refl }
sends_stays s m change = record { state = refl; period = refl; partner = refl; received = refl; acknowledged = refl; taken = refl; earlier = refl }

pub sending_stays : (s : Station) (m : MessageValue) → StaysAs s (after_sending s m)
sending_stays s m = sends_stays s m (change_of m)
