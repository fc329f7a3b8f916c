-- What holds of each side in every run: what it sent, gave and took; and that all it took stands in order among all that the other gave.
use Rattle.std.proofs.Common.{◌≡◌, ℕ, ◌+◌, ◌≤◌, Bool, inl, inr, Some, List, [], ◌∷◌, ◌++◌, refl, ◌∙◌, arith}
use Rattle.std.specs.Prelude.{slice_get}
use Rattle.std.proofs.lemmas.List.{nil_from_length}
use Rattle.two_nodes.specs.Nodes.{Half, World, Run}
use Rattle.two_nodes.specs.Kept.{IsKept}
use Rattle.two_nodes.proofs.Order.{slice_get-append}
use Rattle.capture_record.specs.Fates.{is_kept}
use Rattle.capture_record.specs.declared.record.Record.{Record}
use Rattle.dna_station.specs.declared.head.Head.{Head}
use Rattle.dna_station.specs.declared.state.StationEvent.TheVariants.{Start, Halt}
use Rattle.dna_station.specs.Station.{Station, new_station, past, all_given, after_event}
use Rattle.dna_station.specs.Delivery.{AreAmong, DeliversFrom, all_taken, periods, delivered, taken_by_period}
use Rattle.dna_station.specs.PeriodRule.{of_period}
use Rattle.dna_station.specs.StationBook.{station_book, after_sending, after_arrival}
use Rattle.dna_station.specs.Line.{SentUnit}
use Rattle.dna_station.specs.Node.{Node, new_node}
use Rattle.dna_station.specs.Pair.{pair, start}
use Rattle.dna_station.proofs.Steps.Happens.{Happens, Nothing, UserEvent, Boots, Sending, Receipt, Counted, Unheard}
use Rattle.dna_station.proofs.Bounds.Numbers.{unit_of}
use Rattle.dna_station.proofs.Bounds.Stations.{IsSound}
use Rattle.dna_station.proofs.Steps.Effects.{Stays, sending_stays}
use Rattle.dna_station.proofs.Bounds.Sides.{OfBoth, IsKeptBySides, kept_by_both, after_run}
use Rattle.dna_station.proofs.Bounds.Runs.{sound_own, sound_other, new_sound}
use Rattle.dna_station.proofs.Delivery.Steps.{Offers, Delivers, TookBy, delivers_beside, arrival_took}
use Rattle.dna_station.proofs.Delivery.Runs.{Left, left_by, new_offers, new_delivers, delivers_from}
use Rattle.dna_station.proofs.Delivery.Captures.{captured_more}
use Rattle.dna_station.proofs.Delivery.Places.{AtPlaces, places_left}
use Rattle.dna_station.proofs.Delivery.Partnered.{Partnered, new_partnered, event_partnered, sending_partnered, receipt_partnered, partnered_same}
use Rattle.dna_station.proofs.Delivery.InOrder.{TakesInOrder, takes_beside, takes_more, takes_last, takes_none, takes_start, takes_packet}
use Rattle.dna_station.proofs.Delivery.Among.{taken_among_given}

-- of a node beside the units of the other
pub record OwnOrder (n : Node) (own other : List SentUnit) : Type 0 where
  pub partnered : Partnered n.station own
  pub takes : TakesInOrder (periods n.station) other n.front

module _ (own other : Half Node SentUnit) (h : IsSound own.state own.sent other.sent) (o : Offers own.state.station own.sent)
    (theirs : Partnered other.state.station other.sent) (p : OwnOrder own.state own.sent other.sent) where
  receipt_takes : (hint : ℕ) (kept : Bool) (unit : SentUnit) (t : Station) → slice_get other.sent hint ≡ Some unit → own.state.front ≤ hint →
      Stays own.state.station t → TookBy own.state.station t unit.message unit.known kept → TakesInOrder (periods t) other.sent (hint + 1)
  receipt_takes hint kept unit t there ahead stays (inl (x, e)) =
      takes_last own.state.station t other.sent (hint + 1)
      (takes_beside (periods own.state.station) other.sent other.sent own.state.front (hint + 1) (omega arith) (λ k u at. at) p.takes)
      stays.earlier x.partner x.taken
  receipt_takes hint kept unit t there ahead stays (inr (inl (x, e))) =
      takes_none own.state.station t other.sent (hint + 1)
      (takes_beside (periods own.state.station) other.sent other.sent own.state.front (hint + 1) (omega arith) (λ k u at. at) p.takes)
      stays.earlier
      (x.taken ∙ nil_from_length own.state.station.taken (o.taken_count ∙ x.none.received))
  receipt_takes hint kept unit t there ahead stays (inr (inr (x, e))) =
      takes_packet own.state.station t other.sent own.sent own.state.front hint unit there ahead o.count other.state.station theirs p.takes stays x

  order_halted : OwnOrder (record own.state { station = after_event own.state.station Halt }) own.sent other.sent
  order_halted = record {
    partnered = event_partnered own.state own.sent other.sent Halt h p.partnered;
    takes = takes_last own.state.station (after_event own.state.station Halt) other.sent own.state.front p.takes refl refl refl;
  }

  order_own : (r : Record) (left : Half Node SentUnit) → Happens of_period own other r left → OwnOrder left.state left.sent other.sent
  order_own r left (Nothing event none) = p
  order_own r left (Counted bytes reason) = record {
    partnered = partnered_same own.state.station (station_book.counts reason own.state.station) own.sent refl refl p.partnered;
    takes = takes_last own.state.station (station_book.counts reason own.state.station) other.sent own.state.front p.takes refl refl refl;
  }
  order_own r left (Unheard bytes) = p
  order_own r left (UserEvent Start allowed) =
      record {
        partnered = event_partnered own.state own.sent other.sent Start h p.partnered;
        takes =
            takes_start own.state.station other.sent own.state.front p.takes;
      }
  order_own r left (UserEvent Halt allowed) = order_halted
  order_own r left Boots = order_halted
  order_own r left (Sending bytes m read allowed) =
      let t = sending_stays own.state.station m in
      record {
        partnered = sending_partnered own.state own.sent other.sent bytes m h p.partnered;
        takes = takes_last own.state.station (after_sending own.state.station m) other.sent own.state.front p.takes t.earlier t.partner t.taken;
      }
  order_own r left (Receipt hint fate bytes unit arrival there ahead of_unit allowed) =
      let took = arrival_took own.state.station unit bytes arrival (is_kept fate) of_unit h.none allowed in
      record {
        partnered = receipt_partnered own.state own.sent other.sent (after_arrival own.state.station arrival (is_kept fate)) unit.message unit.known
            (is_kept fate) h o
            took p.partnered;
        takes = receipt_takes hint (is_kept fate) unit (after_arrival own.state.station arrival (is_kept fate)) there ahead took.0 took.1;
      }

module _ (own other : Half Node SentUnit) (p : OwnOrder other.state other.sent own.sent) where
  -- the other side, beside what this record left
  order_other : (r : Record) (left : Half Node SentUnit) → Happens of_period own other r left → OwnOrder other.state other.sent left.sent
  order_other r left (Nothing event none) = p
  order_other r left (Counted bytes reason) = p
  order_other r left (Unheard bytes) = p
  order_other r left (UserEvent event allowed) = p
  order_other r left Boots = p
  order_other r left (Sending bytes m read allowed) = record {
    partnered = p.partnered;
    takes = takes_beside (periods other.state.station) own.sent (own.sent ++ unit_of own.state.station bytes m ∷ []) other.state.front
        other.state.front (omega arith)
        (λ k u at. slice_get-append own.sent (unit_of own.state.station bytes m ∷ []) k u at) p.takes;
  }
  order_other r left (Receipt hint fate bytes unit arrival there ahead of_unit allowed) = p

-- ---- in a run

-- of a side beside the other, with the records that it made: all that is said of one station
pub record OrderedSide (own other : Half Node SentUnit) (made : List Record) : Type 0 where
  pub sound : IsSound own.state own.sent other.sent
  pub offers : Offers own.state.station own.sent
  pub delivers : Delivers own.state.station (periods other.state.station)
  pub took : delivered made ≡ taken_by_period own.state.station
  pub places : AtPlaces own.state.station own.sent
  pub order : OwnOrder own.state own.sent other.sent

module _ (own other left : Half Node SentUnit) (made of_other : List Record) (r : Record)
    (p : OrderedSide own other made) (theirs : OrderedSide other own of_other) (what : Happens of_period own other r left) where
  delivery : Left own left other
  delivery = left_by own other p.sound theirs.sound p.offers theirs.offers p.delivers r left what

  ordered_own : OrderedSide left other (made ++ r ∷ [])
  ordered_own = record {
    sound = sound_own own other p.sound theirs.sound r left what;
    offers = delivery.offers;
    delivers = delivery.delivers;
    took = captured_more own other p.sound theirs.sound made r left what p.took;
    places = places_left own other p.sound p.places r left what;
    order = order_own own other p.sound p.offers theirs.order.partnered p.order r left what;
  }

  ordered_other : OrderedSide other left of_other
  ordered_other = record {
    sound = sound_other own other p.sound theirs.sound r left what;
    offers = theirs.offers;
    delivers = delivers_beside other.state.station (periods own.state.station) (periods left.state.station) delivery.grows theirs.delivers;
    took = theirs.took;
    places = theirs.places;
    order = order_other own other theirs.order r left what;
  }

pub sides_kept : IsKeptBySides OrderedSide
sides_kept = record { own = ordered_own; other = ordered_other }

abbrev pub BothInOrder : World Node SentUnit → List Record → List Record → Type 0
BothInOrder = OfBoth OrderedSide

pub order_kept : IsKept pair BothInOrder
order_kept = kept_by_both OrderedSide sides_kept

new_takes : TakesInOrder (periods new_station) [] 0
new_takes = takes_more [] (past new_station) [] 0 (record { from = λ q x at. absurd cc; rising = λ q r x y less at_q at_r. absurd cc }) (inl refl)
    (λ q x at. absurd cc)

new_side : (head head_other : Head) → OrderedSide (record { state = new_node head; sent = [] }) (record { state = new_node head_other; sent = [] }) []
new_side head head_other = record {
  sound = new_sound head;
  offers = new_offers;
  delivers = new_delivers;
  took = refl;
  places = λ i unit at. absurd cc;
  order = record { partnered = new_partnered new_station; takes = new_takes };
}

pub start_order : (head_a head_b : Head) → BothInOrder (start head_a head_b) [] []
start_order head_a head_b = record { of_a = new_side head_a head_b; of_b = new_side head_b head_a }

pub in_order : (head_a head_b : Head) (w : World Node SentUnit) (of_a of_b : List Record) → Run pair (start head_a head_b) of_a of_b w →
    BothInOrder w of_a of_b
in_order head_a head_b = after_run OrderedSide sides_kept head_a head_b (start_order head_a head_b)

-- ---- what is said of a side

module _ (own other : Half Node SentUnit) (made : List Record) (h : OrderedSide own other made) where
  pub side_delivers : DeliversFrom own.state.station other.state.station
  side_delivers = delivers_from own.state.station other.state.station h.delivers

  pub side_among : AreAmong (all_taken own.state.station) (all_given other.state.station)
  side_among = taken_among_given own.state.station other.state.station side_delivers h.order.takes.rising
