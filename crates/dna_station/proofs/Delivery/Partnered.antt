-- Which periods the data messages of a side belong to: their own periods rise, and those of one period have one partner.
use Rattle.std.proofs.Common.{◌≡◌, ℕ, ◌<◌, ◌≤◌, inl, inr, Bool, true, Some, List, [], ◌∷◌, ◌++◌, length, refl, sym, ap, ◌∙◌, arith}
use Rattle.std.specs.Prelude.{slice_get}
use Rattle.ddcmp_msg.specs.Message.{MessageValue, Data}
use Rattle.dna_station.specs.declared.state.StationEvent.{StationEvent}
use Rattle.dna_station.specs.declared.state.StationEvent.TheVariants.{Start, Halt}
use Rattle.dna_station.specs.Station.{Station, given, after_event}
use Rattle.dna_station.specs.Delivery.{periods}
use Rattle.dna_station.specs.StationBook.{after_sending}
use Rattle.dna_station.specs.Truth.{Truth}
use Rattle.dna_station.specs.Line.{SentUnit}
use Rattle.dna_station.specs.Node.{Node}
use Rattle.two_nodes.proofs.NumberedSteps.{each_pushed, pairs_pushed}
use Rattle.two_nodes.proofs.Numbered.{IsGiven}
use Rattle.dna_station.proofs.Bounds.Numbers.{limits, is_data, data_number, unit_of}
use Rattle.dna_station.proofs.Bounds.Stations.{HasNone, IsSound}
use Rattle.dna_station.proofs.Delivery.Periods.{IsOffered}
use Rattle.dna_station.proofs.Steps.Effects.{Stays, sending_stays}
use Rattle.dna_station.proofs.Delivery.Steps.{Offers, TookBy, Took}

pub record Partnered (s : Station) (own : List SentUnit) : Type 0 where
  pub rise : (i j : ℕ) (u v : SentUnit) → i < j → slice_get own i ≡ Some u → slice_get own j ≡ Some v → u.known.tag.period ≤ v.known.tag.period
  pub one_partner : (i j : ℕ) (u v : SentUnit) → i < j → slice_get own i ≡ Some u → slice_get own j ≡ Some v → is_data u.message ≡ true →
      is_data v.message ≡ true → u.known.tag.period ≡ v.known.tag.period → u.known.tag.partner ≡ v.known.tag.partner
  pub present : (i : ℕ) (u : SentUnit) → slice_get own i ≡ Some u → is_data u.message ≡ true → u.known.tag.period ≡ s.period →
      u.known.tag.partner ≡ s.partner

pub new_partnered : (s : Station) → Partnered s []
new_partnered s = record {
  rise = λ i j u v less at_i at_j. absurd cc;
  one_partner = λ i j u v less at_i at_j d e same. absurd cc;
  present =
      λ i u at d same. absurd cc;
}

-- the station keeps its period and its partner
pub partnered_same : (s t : Station) (own : List SentUnit) → t.period ≡ s.period → t.partner ≡ s.partner → Partnered s own → Partnered t own
partnered_same s t own period partner p = record {
  rise = p.rise;
  one_partner = p.one_partner;
  present = λ i u at d same. p.present i u at d (same ∙ period) ∙ sym partner;
}

-- none of its data messages is of this period
pub partnered_new : (s t : Station) (own : List SentUnit) →
    ((i : ℕ) (u : SentUnit) → slice_get own i ≡ Some u → is_data u.message ≡ true → u.known.tag.period ≡ t.period → ⊥) → Partnered s own →
    Partnered t own
partnered_new s t own none p = record { rise = p.rise; one_partner = p.one_partner; present = λ i u at d same. absurd (none i u at d same) }

pub event_partnered : (n : Node) (own other : List SentUnit) (event : StationEvent) → IsSound n own other → Partnered n.station own →
    Partnered (after_event n.station event) own
event_partnered n own other Start h p =
    partnered_new n.station (after_event n.station Start) own (λ i u at d same. let l = (h.told i u at).no_later in absurd (omega arith)) p
event_partnered n own other Halt h p = partnered_same n.station (after_event n.station Halt) own refl refl p

-- ---- a sending

module _ (n : Node) (own other : List SentUnit) (bytes : List ℕ) (m : MessageValue) (h : IsSound n own other) (p : Partnered n.station own) where
  pub sending_partnered : Partnered (after_sending n.station m) (own ++ unit_of n.station bytes m ∷ [])
  sending_partnered =
      let stays = sending_stays n.station m in
      record {
        rise = pairs_pushed own (unit_of n.station bytes m) (λ (u v : SentUnit). u.known.tag.period ≤ v.known.tag.period) p.rise
            (λ i u at. (h.told i u at).no_later);
        one_partner = pairs_pushed own (unit_of n.station bytes m)
            (λ (u v : SentUnit). is_data u.message ≡ true → is_data v.message ≡ true → u.known.tag.period ≡ v.known.tag.period →
            u.known.tag.partner ≡ v.known.tag.partner)
            p.one_partner (λ i u at d e same. p.present i u at d same);
        present = each_pushed own (unit_of n.station bytes m)
            (λ i (u : SentUnit). is_data u.message ≡ true → u.known.tag.period ≡ (after_sending n.station m).period →
            u.known.tag.partner ≡ (after_sending n.station m).partner)
            (λ i u at d same. p.present i u at d (same ∙ stays.period) ∙ sym stays.partner) (λ d same. sym stays.partner);
      }

-- ---- a receipt

-- a station that has given nothing has sent no data in its period
no_data : (n : Node) (own other : List SentUnit) → IsSound n own other → Offers n.station own → HasNone n.station → (i : ℕ) (u : SentUnit) →
    slice_get own i ≡ Some u → is_data u.message ≡ true → u.known.tag.period ≡ n.station.period → ⊥
no_data n own other h o none i u at d same =
    let g = (h.present.up_to i u at same).given in
    let e : given n.station ≡ 0 = ap length none.packets in
    go u.message d (h.messages.lawful i u at).number (o.offered i u at) (omega arith)
  where
    go : (m : MessageValue) → is_data m ≡ true → IsGiven limits (data_number m u.known) u.known.given → IsOffered m u.known (periods n.station) →
        u.known.given ≤ 0 → ⊥
    go (Data flags resp num body) d number offered l = let a = number.0 in let b = offered.2 in omega arith
    go m d number offered l = absurd cc

pub receipt_partnered : (n : Node) (own other : List SentUnit) (t : Station) (m : MessageValue) (u : Truth) (kept : Bool) → IsSound n own other →
    Offers n.station own → Took n.station t m u kept → Partnered n.station own → Partnered t own
receipt_partnered n own other t m u kept h o took p = go took.1
  where
    stays : Stays n.station t
    stays = took.0

    go : TookBy n.station t m u kept → Partnered t own
    go (inl (x, e)) = partnered_same n.station t own stays.period x.partner p
    go (inr (inl (x, e))) = partnered_new n.station t own (λ i v at d same. no_data n own other h o x.none i v at d (same ∙ stays.period)) p
    go (inr (inr (x, e))) = partnered_same n.station t own stays.period x.partner p
