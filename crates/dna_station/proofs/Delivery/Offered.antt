-- What each period gave is what the units of the capture offer.
use Rattle.std.proofs.Common.{◌≡◌, ℕ, ◌+◌, Bool, true, false, cond, eqb, None, List, [], ◌∷◌, ◌++◌, map, refl, sym, ap, ap₂, ◌∙◌, arith, append-nil}
use Rattle.std.proofs.lemmas.Bool.{eqb-true}
use Rattle.std.proofs.lemmas.List.{map-append}
use Rattle.std.proofs.lemmas.List.Sums.{fold-append}
use Rattle.two_nodes.specs.Nodes.{Half, World, Run}
use Rattle.ddcmp_msg.specs.Message.{MessageValue, Data, Nak}
use Rattle.ddcmp_msg.specs.Reading.{ReadingValue, reading}
use Rattle.ddcmp_msg.specs.Reading as read_as
use Rattle.capture_record.specs.Fates.{is_kept}
use Rattle.capture_record.specs.declared.record.Record.{Record}
use Rattle.dna_station.specs.declared.head.Head.{Head}
use Rattle.dna_station.specs.declared.state.StationEvent.TheVariants.{Start, Halt}
use Rattle.dna_station.specs.Station.{Station, PastPeriod, past, given, wire, after_event}
use Rattle.dna_station.specs.Delivery.{periods, in_last, with_period}
use Rattle.dna_station.specs.Offered.{offers, present, offered_by, offered, given_by_period}
use Rattle.dna_station.specs.PeriodRule.{of_period}
use Rattle.dna_station.specs.StationBook.{is_new, sending_refusal, after_sending, with_packet, after_arrival}
use Rattle.dna_station.specs.Bounds.{IsOrdered}
use Rattle.dna_station.specs.Line.{SentUnit}
use Rattle.dna_station.specs.Node.{Node}
use Rattle.dna_station.specs.Pair.{pair, start}
use Rattle.dna_station.proofs.Bounds.Modulo.{same_test}
use Rattle.dna_station.proofs.Steps.Checks.{sending_passed}
use Rattle.dna_station.proofs.Steps.Happens.{Happens, Nothing, UserEvent, Boots, Sending, Receipt, Counted, Unheard}
use Rattle.dna_station.proofs.Bounds.Stations.{IsSound}
use Rattle.dna_station.proofs.Delivery.Steps.{arrival_took}
use Rattle.dna_station.proofs.Delivery.Captures.{in_last-append}
use Rattle.dna_station.proofs.Bounds.Sides.{OfBoth, IsKeptBySides, after_run}
use Rattle.dna_station.proofs.Delivery.InOrderRuns.{OrderedSide, sides_kept, start_order}

abbrev given_in : PastPeriod → List (List ℕ)
given_in period = period.given

-- ---- lists of periods

present-append : (ps : List (List (List ℕ))) (p : List (List ℕ)) → present (ps ++ p ∷ []) ≡ p
present-append [] p = refl
present-append (q ∷ []) p = refl
present-append (q ∷ r ∷ ps) p = present-append (r ∷ ps) p

-- what was given before, and in the present period
periods_given : (s : Station) → given_by_period s ≡ map given_in s.earlier ++ s.packets ∷ []
periods_given s = map-append given_in s.earlier (past s ∷ [])

same_given : (s t : Station) → t.earlier ≡ s.earlier → t.packets ≡ s.packets → given_by_period t ≡ given_by_period s
same_given s t earlier same =
    periods_given t ∙ ap₂ (λ (x : List PastPeriod) (y : List (List ℕ)). map given_in x ++ y ∷ []) earlier same ∙ sym (periods_given s)

-- more packets of the present period are what the unit offers behind those that were given
more_given : (s t : Station) (read : ReadingValue) → t.earlier ≡ s.earlier → t.packets ≡ s.packets ++ offers read s.packets →
    given_by_period t ≡ in_last (offers read (present (given_by_period s))) (given_by_period s)
more_given s t read earlier more =
    let before = periods_given s in
    let there : present (given_by_period s) ≡ s.packets = ap present before ∙ present-append (map given_in s.earlier) s.packets in
    periods_given t ∙ ap₂ (λ (x : List PastPeriod) (y : List (List ℕ)). map given_in x ++ y ∷ []) earlier more
    ∙ sym (in_last-append (offers read s.packets) (map given_in s.earlier) s.packets)
    ∙ ap₂ (λ (packets : List (List ℕ)) (ps : List (List (List ℕ))). in_last (offers read packets) ps) (sym there) (sym before)

-- ---- a sending

-- it is new exactly where it is the number after those given
number_tells : (s : Station) (num : ℕ) → IsOrdered s → num ≡ wire s.next_to_send → eqb num (wire (given s + 1)) ≡ is_new s
number_tells s num ordered is =
    same_test num (wire (given s + 1)) s.next_to_send (given s + 1)
    (λ e. omega (arith, is, e, ordered.above, ordered.below, ordered.few))
    (λ e. is ∙ ap wire e)

packets_after : (new : Bool) (packets : List (List ℕ)) (body : List ℕ) → with_packet new packets body ≡ packets ++ cond new (body ∷ []) []
packets_after true packets body = refl
packets_after false packets body = sym (append-nil packets)

sending_given : (s : Station) (m : MessageValue) → IsOrdered s → sending_refusal s m ≡ None →
    given_by_period (after_sending s m) ≡ in_last (offers (read_as.Sound m) (present (given_by_period s))) (given_by_period s)
sending_given s (Data flags resp num body) ordered allowed =
    more_given s (after_sending s (Data flags resp num body)) (read_as.Sound (Data flags resp num body)) refl
    (packets_after (is_new s) s.packets body ∙ ap (λ (b : Bool). s.packets ++ cond b (body ∷ []) [])
    (sym (number_tells s num ordered (eqb-true num (wire s.next_to_send) (sending_passed s (Data flags resp num body) refl allowed).0))))
sending_given s (Nak flags reason resp) ordered allowed =
    more_given s (after_sending s (Nak flags reason resp)) (read_as.Sound (Nak flags reason resp)) refl (sym (append-nil s.packets))
sending_given s other ordered allowed = more_given s s (read_as.Sound other) refl (sym (append-nil s.packets))

-- ---- any record

module _ (own other : Half Node SentUnit) (h : IsSound own.state own.sent other.sent) where
  record_given : (r : Record) (left : Half Node SentUnit) → Happens of_period own other r left →
      given_by_period left.state.station ≡ offered_by (given_by_period own.state.station) r
  record_given r left (Nothing event none) = ap (λ (b : Bool). with_period b (given_by_period own.state.station)) (sym none)
  record_given r left (Counted bytes reason) = refl
  record_given r left (Unheard bytes) = refl
  record_given r left (UserEvent Start allowed) = map-append given_in (periods own.state.station) (past (after_event own.state.station Start) ∷ [])
  record_given r left (UserEvent Halt allowed) = refl
  record_given r left Boots = refl
  record_given r left (Sending bytes m read allowed) =
      sending_given own.state.station m h.ordered allowed
      ∙ ap (λ (x : ReadingValue). in_last (offers x (present (given_by_period own.state.station))) (given_by_period own.state.station)) (sym read)
  record_given r left (Receipt hint fate bytes unit arrival there ahead of_unit allowed) =
      let stays = (arrival_took own.state.station unit bytes arrival (is_kept fate) of_unit h.none allowed).0 in
      same_given own.state.station (after_arrival own.state.station arrival (is_kept fate)) stays.earlier stays.packets

-- ---- in a run

one_more : (own other : Half Node SentUnit) (h : IsSound own.state own.sent other.sent) (made : List Record) (r : Record)
    (left : Half Node SentUnit) →
    Happens of_period own other r left → offered made ≡ given_by_period own.state.station →
    offered (made ++ r ∷ []) ≡ given_by_period left.state.station
one_more own other h made r left what e =
    fold-append offered_by ([] ∷ []) made (r ∷ []) ∙ ap (λ (ps : List (List (List ℕ))). offered_by ps r) e ∙
    sym (record_given own other h r left what)

-- of a side, with the records that it made
pub record OfferingSide (own other : Half Node SentUnit) (made : List Record) : Type 0 where
  pub order : OrderedSide own other made
  pub gave : offered made ≡ given_by_period own.state.station

offered_kept : IsKeptBySides OfferingSide
offered_kept = record {
  own = λ own other left made of_other r p theirs what.
      record {
        order = sides_kept.own own other left made of_other r p.order theirs.order what;
        gave =
            one_more own other p.order.sound made r left what p.gave;
      };
  other = λ own other left made of_other r p theirs what.
      record { order = sides_kept.other own other left made of_other r p.order theirs.order what; gave = theirs.gave };
}

start_offered : (head_a head_b : Head) → OfBoth OfferingSide (start head_a head_b) [] []
start_offered head_a head_b = let s = start_order head_a head_b in
    record { of_a = record { order = s.of_a; gave = refl }; of_b = record { order = s.of_b; gave = refl } }

pub all_offered : (head_a head_b : Head) (w : World Node SentUnit) (of_a of_b : List Record) → Run pair (start head_a head_b) of_a of_b w →
    OfBoth OfferingSide w of_a of_b
all_offered head_a head_b = after_run OfferingSide offered_kept head_a head_b (start_offered head_a head_b)
