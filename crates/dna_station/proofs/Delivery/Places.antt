-- In every run, each data message carries the packet at its place among all that its sender gave.
use Rattle.std.proofs.Common.{◌≡◌, ℕ, suc, ◌+◌, ◌-◌, Some, None, List, [], ◌∷◌, ◌++◌, length, refl, sym, ap, ap₂, ◌∙◌, subst, arith, append-nil}
use Rattle.std.proofs.Common.{append_assoc}
use Rattle.std.specs.Prelude.{slice_get}
use Rattle.std.proofs.lemmas.Grind.{flat_map-append}
use Rattle.two_nodes.specs.Nodes.{Half}
use Rattle.two_nodes.proofs.Order.{slice_get-append}
use Rattle.ddcmp_msg.specs.Message.{MessageValue, Data}
use Rattle.capture_record.specs.Fates.{is_kept}
use Rattle.capture_record.specs.declared.record.Record.{Record}
use Rattle.dna_station.specs.declared.state.StationEvent.TheVariants.{Start, Halt}
use Rattle.dna_station.specs.Station.{Station, PastPeriod, past, packets_of, all_given, after_event}
use Rattle.dna_station.specs.PeriodRule.{of_period}
use Rattle.dna_station.specs.Truth.{Truth}
use Rattle.dna_station.specs.StationBook.{is_new, sending_refusal, after_sending, with_packet, truth_of, after_arrival}
use Rattle.dna_station.specs.Delivery.{CarriesItsPacket}
use Rattle.two_nodes.specs.Beginning.{BeginsWith}
use Rattle.dna_station.specs.Line.{SentUnit}
use Rattle.dna_station.specs.Node.{Node}
use Rattle.dna_station.proofs.Steps.Checks.{sending_passed}
use Rattle.dna_station.proofs.Steps.Happens.{Happens, Nothing, UserEvent, Boots, Sending, Receipt, Counted, Unheard}
use Rattle.two_nodes.proofs.NumberedSteps.{each_pushed}
use Rattle.dna_station.proofs.Bounds.Numbers.{unit_of}
use Rattle.dna_station.proofs.Bounds.Stations.{IsSound}
use Rattle.dna_station.proofs.Delivery.Periods.{begins_same}
use Rattle.dna_station.proofs.Delivery.Steps.{arrival_took, packet_there, sending_begins}
use Rattle.dna_station.proofs.Steps.Effects.{sending_stays}

-- an item behind a list
item_behind : {X : Type 0} (xs ys : List X) (i : ℕ) → slice_get (xs ++ ys) (length xs + i) ≡ slice_get ys i
item_behind [] ys i = let e : 0 + i ≡ i = omega arith in ap (slice_get ys) e
item_behind (x ∷ xs) ys i = let e : suc (length xs) + i ≡ suc (length xs + i) = omega arith in ap (slice_get (x ∷ (xs ++ ys))) e ∙ item_behind xs ys i

-- what is carried stays where it is when there are more packets
carried_still : (m : MessageValue) (u : Truth) (packets more : List (List ℕ)) → CarriesItsPacket packets m u → BeginsWith more packets →
    CarriesItsPacket more m u
carried_still (Data flags resp num body) u packets more c b =
    ap (λ (l : List (List ℕ)). slice_get l u.place) b.whole ∙ slice_get-append packets b.rest u.place body c
carried_still m u packets more c b = tt

abbrev pub AtPlaces : Station → List SentUnit → Type 0
AtPlaces s own = (i : ℕ) (unit : SentUnit) → slice_get own i ≡ Some unit → CarriesItsPacket (all_given s) unit.message unit.known

-- ---- all packets given, after each step

given_same : (s t : Station) → t.earlier ≡ s.earlier → t.packets ≡ s.packets → BeginsWith (all_given t) (all_given s)
given_same s t earlier packets =
    subst (λ (l : List (List ℕ)). BeginsWith l (all_given s))
    (sym (ap₂ (λ (e : List PastPeriod) (ps : List (List ℕ)). packets_of e ++ ps) earlier packets)) (begins_same (all_given s))

given_start : (s : Station) → BeginsWith (all_given (after_event s Start)) (all_given s)
given_start s =
    let same : all_given (after_event s Start) ≡ all_given s =
    append-nil (packets_of (s.earlier ++ past s ∷ [])) ∙ flat_map-append (λ (p : PastPeriod). p.given) s.earlier (past s ∷ []) ∙
    ap (λ (l : List (List ℕ)). packets_of s.earlier ++ l) (append-nil s.packets) in
    subst (λ (l : List (List ℕ)). BeginsWith l (all_given s)) (sym same) (begins_same (all_given s))

given_more : (s t : Station) → t.earlier ≡ s.earlier → BeginsWith t.packets s.packets → BeginsWith (all_given t) (all_given s)
given_more s t earlier more = record {
  rest = more.rest;
  whole = ap₂ (λ (e : List PastPeriod) (ps : List (List ℕ)). packets_of e ++ ps) earlier more.whole ∙
      sym (append_assoc (packets_of s.earlier) s.packets more.rest);
}

given_sending : (s : Station) (m : MessageValue) → BeginsWith (all_given (after_sending s m)) (all_given s)
given_sending s m = given_more s (after_sending s m) (sending_stays s m).earlier (sending_begins s m)

-- ---- what is sent

sent_at_place : (s : Station) (m : MessageValue) → sending_refusal s m ≡ None → CarriesItsPacket (all_given (after_sending s m)) m (truth_of s m)
sent_at_place s (Data flags resp num body) e =
    item_behind (packets_of s.earlier) (with_packet (is_new s) s.packets body) (s.next_to_send - 1)
    ∙ packet_there s (is_new s) body refl (sending_passed s (Data flags resp num body) refl e).1.1.1.0
sent_at_place s m e = tt

-- ---- any record

module _ (own other : Half Node SentUnit) (h : IsSound own.state own.sent other.sent) (p : AtPlaces own.state.station own.sent) where
  places_still : (t : Station) → BeginsWith (all_given t) (all_given own.state.station) → AtPlaces t own.sent
  places_still t b i unit at = carried_still unit.message unit.known (all_given own.state.station) (all_given t) (p i unit at) b

  pub places_left : (r : Record) (left : Half Node SentUnit) → Happens of_period own other r left → AtPlaces left.state.station left.sent
  places_left r left (Nothing event none) = p
  places_left r left (Counted bytes reason) = p
  places_left r left (Unheard bytes) = p
  places_left r left (UserEvent Start allowed) = places_still (after_event own.state.station Start) (given_start own.state.station)
  places_left r left (UserEvent Halt allowed) = p
  places_left r left Boots = p
  places_left r left (Sending bytes m read allowed) =
      each_pushed own.sent (unit_of own.state.station bytes m)
      (λ i (x : SentUnit). CarriesItsPacket (all_given (after_sending own.state.station m)) x.message x.known)
      (places_still (after_sending own.state.station m) (given_sending own.state.station m)) (sent_at_place own.state.station m allowed)
  places_left r left (Receipt hint fate bytes unit arrival there ahead of_unit allowed) =
      let stays = (arrival_took own.state.station unit bytes arrival (is_kept fate) of_unit h.none allowed).0 in
      places_still (after_arrival own.state.station arrival (is_kept fate))
      (given_same own.state.station (after_arrival own.state.station arrival (is_kept fate)) stays.earlier stays.packets)
