-- In every run, what each period took is a beginning of what its partner period gave.
use Rattle.std.proofs.Common.{◌≡◌, ℕ, Bool, zero, suc, ◌+◌, ◌-◌, ◌<◌, inl, inr, Option, Some, List, [], ◌∷◌, length, refl, sym, ap, ◌∙◌, subst, arith}
use Rattle.std.specs.Prelude.{slice_get}
use Rattle.std.proofs.lemmas.List.{length_push, nil_from_length}
use Rattle.std.proofs.lemmas.Option.{same_Some}
use Rattle.two_nodes.specs.Nodes.{Half, stepped}
use Rattle.ddcmp_msg.specs.Message.{MessageValue, Data}
use Rattle.capture_record.specs.Fates.{is_kept}
use Rattle.capture_record.specs.declared.record.Record.{Record}
use Rattle.dna_station.specs.declared.state.StationEvent.{StationEvent}
use Rattle.dna_station.specs.declared.state.StationEvent.TheVariants.{Halt}
use Rattle.dna_station.specs.Station.{Station, PastPeriod, new_station, past, after_event}
use Rattle.dna_station.specs.Delivery.{periods, IsDelivered, DeliversFrom}
use Rattle.two_nodes.specs.Beginning.{BeginsWith}
use Rattle.dna_station.specs.PeriodRule.{of_period}
use Rattle.dna_station.specs.Truth.{Truth}
use Rattle.dna_station.specs.StationBook.{station_book, after_arrival}
use Rattle.dna_station.specs.Line.{SentUnit}
use Rattle.dna_station.specs.Node.{Node}
use Rattle.dna_station.proofs.Steps.Happens.{Happens, Nothing, UserEvent, Boots, Sending, Receipt, Counted, Unheard}
use Rattle.two_nodes.proofs.NumberedSteps.{each_pushed}
use Rattle.dna_station.proofs.Bounds.Stations.{IsSound}
use Rattle.dna_station.proofs.Delivery.Periods.{GrowTo, begins_same, grow_present, IsOffered, offered_grown, begins_next}
use Rattle.dna_station.proofs.Steps.Effects.{Stays}
use Rattle.dna_station.proofs.Delivery.Steps.{Offers, Delivers, TookPacket, TookBy, Took, event_grows, event_offers, event_delivers, sending_grows}
use Rattle.dna_station.proofs.Delivery.Steps.{sending_offers, sending_delivers, arrival_took}

item_within : {X : Type 0} (xs : List X) (i : ℕ) → i < length xs → (x : X) × (slice_get xs i ≡ Some x)
item_within [] i within = absurd (omega arith)
item_within (x ∷ xs) zero within = (x, refl)
item_within (x ∷ xs) (suc i) within = item_within xs i (omega arith)

-- ---- a receipt

module _ (s t : Station) (m : MessageValue) (u : Truth) (kept : Bool) (took : Took s t m u kept) where
  stays : Stays s t
  stays = took.0

  receipt_grows : GrowTo (periods s) (periods t)
  receipt_grows = grow_present s t stays.earlier (subst (λ (ps : List (List ℕ)). BeginsWith ps s.packets) (sym stays.packets) (begins_same s.packets))

  taken_counted : length s.taken ≡ s.received → TookBy s t m u kept → length t.taken ≡ t.received
  taken_counted c (inl (n, none)) = ap length n.taken ∙ c ∙ sym n.received
  taken_counted c (inr (inl (p, none))) = ap length p.taken ∙ c ∙ sym p.received
  taken_counted c (inr (inr (p, was))) = ap length p.taken ∙ length_push s.taken p.body ∙ ap (λ n. n + 1) c ∙ sym p.received

  pub receipt_offers : (own : List SentUnit) → Offers s own → Offers t own
  receipt_offers own o = record {
    count = ap length stays.earlier ∙ o.count ∙ sym stays.period;
    taken_count = taken_counted o.taken_count took.1;
    offered = λ i x at. offered_grown x.message x.known (periods s) (periods t) receipt_grows (o.offered i x at);
  }

  -- beside the periods of the other side, which has this message's period, and gave its packet
  module _ (ps : List PastPeriod) (taken_count : length s.taken ≡ s.received) (there : u.tag.period < length ps) (offered : IsOffered m u ps)
      (d : Delivers s ps) where
    packet_delivered : (p : TookPacket s t m u) → IsDelivered (Some u.tag.period) t.taken ps
    packet_delivered p =
        let was : IsDelivered (Some u.tag.period) s.taken ps = subst (λ (x : Option ℕ). IsDelivered x s.taken ps) p.from d.present in
        let gave : IsOffered (Data p.flags p.resp p.num p.body) u ps = subst (λ (x : MessageValue). IsOffered x u ps) p.message offered in
        let same : gave.0 ≡ was.0 = same_Some gave.0 was.0 (sym gave.1 ∙ was.1) in
        let next = p.next in
        let place : length s.taken ≡ u.number - 1 = omega arith in
        let at : slice_get was.0.given (length s.taken) ≡ Some p.body =
        ap (slice_get was.0.given) place ∙ ap (λ (x : PastPeriod). slice_get x.given (u.number - 1)) (sym same) ∙ gave.3 in
        (was.0, was.1, subst (λ (l : List (List ℕ)). BeginsWith was.0.given l) (sym p.taken) (begins_next was.0.given s.taken p.body was.2 at))

    present_delivered : TookBy s t m u kept → IsDelivered t.partner t.taken ps
    present_delivered (inl (n, none)) =
        subst (λ (l : List (List ℕ)). IsDelivered t.partner l ps) (sym n.taken)
        (subst (λ (x : Option ℕ). IsDelivered x s.taken ps) (sym n.partner) d.present)
    present_delivered (inr (inl (p, nothing))) =
        let none : t.taken ≡ [] = p.taken ∙ nil_from_length s.taken (taken_count ∙ p.none.received) in
        let y = item_within ps u.tag.period there in
        subst (λ (x : Option ℕ). IsDelivered x t.taken ps) (sym p.partner)
        (y.0, y.1, subst (λ (l : List (List ℕ)). BeginsWith y.0.given l) (sym none) (record { rest = y.0.given; whole = refl }))
    present_delivered (inr (inr (p, was))) = subst (λ (x : Option ℕ). IsDelivered x t.taken ps) (sym (p.partner ∙ p.from)) (packet_delivered p)

    pub receipt_delivers : Delivers t ps
    receipt_delivers = record {
      earlier = λ q x at. d.earlier q x (ap (λ (l : List PastPeriod). slice_get l q) (sym stays.earlier) ∙ at);
      present = present_delivered took.1;
    }

-- ---- any record

-- what a record leaves of its own side
pub record Left (own left other : Half Node SentUnit) : Type 0 where
  pub offers : Offers left.state.station left.sent
  pub delivers : Delivers left.state.station (periods other.state.station)
  pub grows : GrowTo (periods own.state.station) (periods left.state.station)

module _ (own other : Half Node SentUnit) (h : IsSound own.state own.sent other.sent) (theirs : IsSound other.state other.sent own.sent)
    (o : Offers own.state.station own.sent) (p : Offers other.state.station other.sent) (d : Delivers own.state.station (periods other.state.station))
  where
    by_event : (event : StationEvent) → Left own (stepped own (record own.state { station = after_event own.state.station event })) other
    by_event event = record {
      offers = event_offers own.state.station own.sent event o;
      delivers = event_delivers own.state.station (periods other.state.station) event d;
      grows = event_grows own.state.station event;
    }

    pub left_by : (r : Record) (left : Half Node SentUnit) → Happens of_period own other r left → Left own left other
    left_by r left (Nothing event none) =
        record { offers = o; delivers = d; grows = grow_present own.state.station own.state.station refl (begins_same own.state.station.packets) }
    left_by r left (Counted bytes reason) = record {
      offers = record { count = o.count; taken_count = o.taken_count; offered = o.offered };
      delivers = record { earlier = d.earlier; present = d.present };
      grows = grow_present own.state.station (station_book.counts reason own.state.station) refl (begins_same own.state.station.packets);
    }
    left_by r left (Unheard bytes) =
        record { offers = o; delivers = d; grows = grow_present own.state.station own.state.station refl (begins_same own.state.station.packets) }
    left_by r left (UserEvent event allowed) = by_event event
    left_by r left Boots = by_event Halt
    left_by r left (Sending bytes m read allowed) = record {
      offers = sending_offers own.state.station own.sent bytes m h.ordered allowed o;
      delivers = sending_delivers own.state.station (periods other.state.station) m d;
      grows = sending_grows own.state.station m;
    }
    left_by r left (Receipt hint fate bytes unit arrival there ahead of_unit allowed) =
        let took = arrival_took own.state.station unit bytes arrival (is_kept fate) of_unit h.none allowed in
        let later = (theirs.told hint unit there).no_later in
        let count = length_push other.state.station.earlier (past other.state.station) in
        let same = p.count in
        record {
          offers = receipt_offers own.state.station (after_arrival own.state.station arrival (is_kept fate)) unit.message unit.known (is_kept fate)
              took own.sent o;
          delivers = receipt_delivers own.state.station (after_arrival own.state.station arrival (is_kept fate)) unit.message unit.known
              (is_kept fate) took
              (periods other.state.station) o.taken_count (omega arith) (p.offered hint unit there) d;
          grows = receipt_grows own.state.station (after_arrival own.state.station arrival (is_kept fate)) unit.message unit.known (is_kept fate)
              took;
        }

pub new_offers : Offers new_station []
new_offers = record { count = refl; taken_count = refl; offered = λ i u at. absurd cc }

pub new_delivers : Delivers new_station (periods new_station)
new_delivers = record { earlier = λ q x at. absurd cc; present = refl }

-- in all periods, the present one among them
pub delivers_from : (own other : Station) → Delivers own (periods other) → DeliversFrom own other
delivers_from own other d =
    each_pushed own.earlier (past own) (λ q (x : PastPeriod). IsDelivered x.partner x.taken (periods other)) d.earlier d.present
