-- What each period took is what the receipts of the capture say.
use Rattle.std.proofs.Common.{◌≡◌, ℕ, Bool, true, false, inl, inr, None, List, [], ◌∷◌, ◌++◌, map, refl, sym, ap, ap₂, ◌∙◌}
use Rattle.std.proofs.lemmas.List.{map-append}
use Rattle.std.proofs.lemmas.List.Sums.{fold-append}
use Rattle.two_nodes.specs.Nodes.{Half}
use Rattle.ddcmp_msg.specs.Message.{MessageValue}
use Rattle.ddcmp_msg.specs.Reading.{reading}
use Rattle.ddcmp_msg.specs.Reading as read_as
use Rattle.capture_record.specs.declared.fate.Fate.{Fate}
use Rattle.capture_record.specs.Fates.{is_kept}
use Rattle.capture_record.specs.declared.record.Record.{Record}
use Rattle.capture_record.specs.declared.record.Record.TheVariants.{Received}
use Rattle.dna_station.specs.declared.state.StationEvent.TheVariants.{Start, Halt}
use Rattle.dna_station.specs.Station.{Station, PastPeriod, past, after_event}
use Rattle.dna_station.specs.Delivery.{periods, taken_by_period, packet_in, in_last, with_packets, with_period, delivered_by, delivered}
use Rattle.dna_station.specs.PeriodRule.{of_period}
use Rattle.dna_station.specs.Truth.{Truth}
use Rattle.dna_station.specs.Book.{ArrivalValue, HeaderBad, DataBad, Sound}
use Rattle.dna_station.specs.StationBook.{after_sending, arrival_refusal, after_arrival}
use Rattle.dna_station.specs.Line.{SentUnit}
use Rattle.dna_station.specs.Node.{Node}
use Rattle.dna_station.proofs.Steps.Happens.{Happens, Nothing, UserEvent, Boots, Sending, Receipt}
use Rattle.dna_station.proofs.Steps.Happens.{Counted, Unheard, ComesOf, Itself, BadHeader, BadData}
use Rattle.dna_station.proofs.Bounds.Stations.{IsSound}
use Rattle.dna_station.proofs.Steps.Effects.{Stays, sending_stays}
use Rattle.dna_station.proofs.Delivery.Steps.{TookBy, Took, arrival_took, unkept}

abbrev taken : PastPeriod → List (List ℕ)
taken period = period.taken

pub in_last-append : (packets : List (List ℕ)) (ps : List (List (List ℕ))) (p : List (List ℕ)) → in_last packets (ps ++ p ∷ []) ≡ ps ++
    (p ++ packets) ∷ []
in_last-append packets [] p = refl
in_last-append packets (q ∷ []) p = refl
in_last-append packets (q ∷ r ∷ ps) p = ap (λ (x : List (List (List ℕ))). q ∷ x) (in_last-append packets (r ∷ ps) p)

-- what was taken before, and in the present period
periods_taken : (s : Station) → taken_by_period s ≡ map taken s.earlier ++ s.taken ∷ []
periods_taken s = map-append taken s.earlier (past s ∷ [])

same_taken : (s t : Station) → t.earlier ≡ s.earlier → t.taken ≡ s.taken → taken_by_period t ≡ taken_by_period s
same_taken s t earlier same =
    periods_taken t ∙ ap₂ (λ (x : List PastPeriod) (y : List (List ℕ)). map taken x ++ y ∷ []) earlier same ∙ sym (periods_taken s)

more_taken : (s t : Station) (packets : List (List ℕ)) → t.earlier ≡ s.earlier → t.taken ≡ s.taken ++ packets →
    taken_by_period t ≡ in_last packets (taken_by_period s)
more_taken s t packets earlier more =
    periods_taken t ∙ ap₂ (λ (x : List PastPeriod) (y : List (List ℕ)). map taken x ++ y ∷ []) earlier more
    ∙ sym (in_last-append packets (map taken s.earlier) s.taken) ∙ ap (in_last packets) (sym (periods_taken s))

sending_taken : (s : Station) (m : MessageValue) → taken_by_period (after_sending s m) ≡ taken_by_period s
sending_taken s m = same_taken s (after_sending s m) (sending_stays s m).earlier (sending_stays s m).taken

-- ---- a receipt

not_kept : (ps : List (List (List ℕ))) (kept : Bool) (packets : List (List ℕ)) → kept ≡ false → ps ≡ with_packets kept packets ps
not_kept ps true packets e = absurd cc
not_kept ps false packets e = refl

was_kept : (ps : List (List (List ℕ))) (kept : Bool) (bytes packet : List ℕ) → kept ≡ true → packet_in (reading bytes) ≡ packet ∷ [] →
    in_last (packet ∷ []) ps ≡ with_packets kept (packet_in (reading bytes)) ps
was_kept ps true bytes packet e read = ap (λ (x : List (List ℕ)). in_last x ps) (sym read)
was_kept ps false bytes packet e read = absurd cc

packet_read : (m : MessageValue) (bytes : List ℕ) (packet : List (List ℕ)) → reading bytes ≡ read_as.Sound m → packet_in (read_as.Sound m) ≡ packet →
    packet_in (reading bytes) ≡ packet
packet_read m bytes packet read is = ap packet_in read ∙ is

module _ (s t : Station) (hint : ℕ) (fate : Fate) (bytes : List ℕ) (unit : SentUnit) (stays : Stays s t) where
  -- the packet that was taken is the one of these bytes
  as_delivered : (is_kept fate ≡ true → reading bytes ≡ read_as.Sound unit.message) → TookBy s t unit.message unit.known (is_kept fate) →
      taken_by_period t ≡ delivered_by (taken_by_period s) (Received hint fate bytes)
  as_delivered read (inl (n, none)) = same_taken s t stays.earlier n.taken
      ∙ not_kept (taken_by_period s) (is_kept fate) (packet_in (reading bytes)) none
  as_delivered read (inr (inl (p, none))) =
      same_taken s t stays.earlier p.taken ∙ not_kept (taken_by_period s) (is_kept fate) (packet_in (reading bytes)) none
  as_delivered read (inr (inr (p, was))) =
      more_taken s t (p.body ∷ []) stays.earlier p.taken
      ∙ was_kept (taken_by_period s) (is_kept fate) bytes p.body was
      (packet_read unit.message bytes (p.body ∷ []) (read was) (ap (λ (m : MessageValue). packet_in (read_as.Sound m)) p.message))

receipt_taken : (s : Station) (hint : ℕ) (fate : Fate) (bytes : List ℕ) (unit : SentUnit) (arrival : ArrivalValue Truth) →
    reading unit.bytes ≡ read_as.Sound unit.message → ComesOf unit bytes arrival → arrival_refusal of_period s arrival (is_kept fate) ≡ None →
    Took s (after_arrival s arrival (is_kept fate)) unit.message unit.known (is_kept fate) →
    taken_by_period (after_arrival s arrival (is_kept fate)) ≡ delivered_by (taken_by_period s) (Received hint fate bytes)
receipt_taken s hint fate bytes unit (Sound m u) reads (Itself same) allowed took =
    as_delivered s _ hint fate bytes unit took.0 (λ was. ap reading same ∙ reads) took.1
receipt_taken s hint fate bytes unit HeaderBad reads BadHeader allowed took =
    as_delivered s _ hint fate bytes unit took.0 (λ was. absurd (let none = unkept (is_kept fate) allowed in cc)) took.1
receipt_taken s hint fate bytes unit DataBad reads BadData allowed took =
    as_delivered s _ hint fate bytes unit took.0 (λ was. absurd (let none = unkept (is_kept fate) allowed in cc)) took.1

-- ---- any record

module _ (own other : Half Node SentUnit) (h : IsSound own.state own.sent other.sent) (theirs : IsSound other.state other.sent own.sent) where
  record_taken : (r : Record) (left : Half Node SentUnit) → Happens of_period own other r left →
      taken_by_period left.state.station ≡ delivered_by (taken_by_period own.state.station) r
  record_taken r left (Nothing event none) = ap (λ (b : Bool). with_period b (taken_by_period own.state.station)) (sym none)
  record_taken r left (Counted bytes reason) = refl
  record_taken r left (Unheard bytes) = refl
  record_taken r left (UserEvent Start allowed) = map-append taken (periods own.state.station) (past (after_event own.state.station Start) ∷ [])
  record_taken r left (UserEvent Halt allowed) = refl
  record_taken r left Boots = refl
  record_taken r left (Sending bytes m read allowed) = sending_taken own.state.station m
  record_taken r left (Receipt hint fate bytes unit arrival there ahead of_unit allowed) =
      receipt_taken own.state.station hint fate bytes unit arrival (theirs.told hint unit there).reads of_unit allowed
      (arrival_took own.state.station unit bytes arrival (is_kept fate) of_unit h.none allowed)

-- ---- in a run

pub captured_more : (own other : Half Node SentUnit) (h : IsSound own.state own.sent other.sent) (theirs : IsSound other.state other.sent own.sent)
    (made : List Record) (r : Record) (left : Half Node SentUnit) →
    Happens of_period own other r left → delivered made ≡ taken_by_period own.state.station →
    delivered (made ++ r ∷ []) ≡ taken_by_period left.state.station
captured_more own other h theirs made r left what e =
    fold-append delivered_by ([] ∷ []) made (r ∷ []) ∙ ap (λ (ps : List (List (List ℕ))). delivered_by ps r) e ∙
    sym (record_taken own other h theirs r left what)
