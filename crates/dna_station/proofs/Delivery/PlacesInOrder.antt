-- Of the data messages of a side, the places of packets beside periods and numbers: in one period they rise together, and those of a later
-- period come later. So a packet that is kept lies behind all that were kept before it.
use Rattle.std.proofs.Common.{◌≡◌, ℕ, ◌+◌, ◌-◌, ◌<◌, ◌≤◌, ◌⊎◌, inl, inr, Bool, true, false, Some, List, [], ◌∷◌, ◌++◌, length, refl, sym, ap, ◌∙◌}
use Rattle.std.proofs.Common.{subst, arith, length-append, append-nil}
use Rattle.std.specs.Prelude.{slice_get}
use Rattle.std.proofs.lemmas.Bool.{cases_lt}
use Rattle.std.proofs.lemmas.Grind.{flat_map-append}
use Rattle.std.proofs.lemmas.Option.{slice_get_within, same_Some}
use Rattle.two_nodes.specs.Nodes.{Half, World, stepped}
use Rattle.two_nodes.specs.Kept.{IsKept}
use Rattle.two_nodes.proofs.Order.{slice_get-append}
use Rattle.two_nodes.proofs.Listed.{next_at}
use Rattle.ddcmp_msg.specs.Message.{MessageValue, Data}
use Rattle.capture_record.specs.Fates.{is_kept}
use Rattle.capture_record.specs.declared.record.Record.{Record}
use Rattle.capture_record.specs.declared.record.Record.TheVariants.{Sent, Received, Noise, User}
use Rattle.dna_station.specs.declared.head.Head.{Head}
use Rattle.dna_station.specs.declared.state.StationEvent.TheVariants.{Start, Halt}
use Rattle.dna_station.specs.Station.{Station, PastPeriod, past, packets_of, after_event}
use Rattle.dna_station.specs.PeriodRule.{of_period}
use Rattle.dna_station.specs.Truth.{number_of, place_of}
use Rattle.dna_station.specs.StationBook.{station_book, after_sending, after_arrival}
use Rattle.dna_station.specs.Delivery.{periods}
use Rattle.dna_station.specs.Line.{SentUnit}
use Rattle.dna_station.specs.Node.{Node}
use Rattle.dna_station.specs.Pair.{pair, start}
use Rattle.dna_station.proofs.Steps.Happens.{Happens, Nothing, UserEvent, Boots, Boots, Sending, Receipt, Counted, Unheard, happens}
use Rattle.two_nodes.proofs.NumberedSteps.{at_pushed}
use Rattle.dna_station.proofs.Bounds.Numbers.{is_data, unit_of}
use Rattle.dna_station.proofs.Bounds.Stations.{IsSound}
use Rattle.dna_station.proofs.Delivery.Periods.{IsOffered}
use Rattle.dna_station.proofs.Steps.Effects.{Stays, sending_stays}
use Rattle.dna_station.proofs.Delivery.Steps.{Offers, TookPacket, TookBy, arrival_took}
use Rattle.dna_station.proofs.Delivery.Partnered.{Partnered}
use Rattle.dna_station.proofs.Delivery.InOrderRuns.{BothInOrder, order_kept, start_order}

-- how many packets the periods before the present one gave
abbrev pub before : Station → ℕ
before s = length (packets_of s.earlier)

abbrev pub IsDataAt : List SentUnit → ℕ → SentUnit → Type 0
IsDataAt own i u = (slice_get own i ≡ Some u) × (is_data u.message ≡ true)

pub record ArePlaced (s : Station) (own : List SentUnit) : Type 0 where
  pub earlier : (i : ℕ) (u : SentUnit) → IsDataAt own i u → u.known.tag.period < s.period → u.known.place < before s
  pub present : (i : ℕ) (u : SentUnit) → IsDataAt own i u → u.known.tag.period ≡ s.period → u.known.place + 1 ≡ before s + u.known.number
  pub together : (i j : ℕ) (u v : SentUnit) → IsDataAt own i u → IsDataAt own j v → u.known.tag.period ≡ v.known.tag.period →
      u.known.place + v.known.number ≡ v.known.place + u.known.number
  pub later : (i j : ℕ) (u v : SentUnit) → IsDataAt own i u → IsDataAt own j v → u.known.tag.period < v.known.tag.period →
      u.known.place < v.known.place

new_placed : (s : Station) → ArePlaced s []
new_placed s = record {
  earlier = λ i u at less. absurd cc;
  present = λ i u at same. absurd cc;
  together = λ i j u v at_i at_j same. absurd cc;
  later = λ i j u v at_i at_j less. absurd cc;
}

-- the station keeps its period
placed_same : (s t : Station) (own : List SentUnit) → t.earlier ≡ s.earlier → t.period ≡ s.period → ArePlaced s own → ArePlaced t own
placed_same s t own earlier period p =
    let e : before t ≡ before s = ap (λ (x : List PastPeriod). length (packets_of x)) earlier in
    record {
      earlier = λ i u at less. let l = p.earlier i u at (omega arith) in omega arith;
      present = λ i u at same. p.present i u at (same ∙ period) ∙ ap (λ (n : ℕ). n + u.known.number) (sym e);
      together = p.together;
      later = p.later;
    }

-- ---- a start

before_start : (s : Station) → before (after_event s Start) ≡ before s + length s.packets
before_start s =
    ap length (flat_map-append (λ (x : PastPeriod). x.given) s.earlier (past s ∷ []))
    ∙ ap (λ (l : List (List ℕ)). length (packets_of s.earlier ++ l)) (append-nil s.packets)
    ∙ length-append (packets_of s.earlier) s.packets

-- a number of the present period was given
number_given : (s : Station) (own : List SentUnit) (i : ℕ) (u : SentUnit) → Offers s own → IsDataAt own i u → u.known.tag.period ≡ s.period →
    u.known.number ≤ length s.packets
number_given s own i u o at same = go u.message at.1 (o.offered i u at.0)
  where
    go : (m : MessageValue) → is_data m ≡ true → IsOffered m u.known (periods s) → u.known.number ≤ length s.packets
    go (Data flags resp num body) d offered =
        let here : slice_get (periods s) u.known.tag.period ≡ Some (past s) =
        ap (slice_get (periods s)) (same ∙ sym o.count) ∙ next_at s.earlier [] (past s) in
        let is : offered.0 ≡ past s = same_Some offered.0 (past s) (sym offered.1 ∙ here) in
        let within = slice_get_within s.packets (u.known.number - 1) body
        (ap (λ (x : PastPeriod). slice_get x.given (u.known.number - 1)) (sym is) ∙ offered.3) in
        omega arith
    go m d offered = absurd cc

placed_start : (s : Station) (own : List SentUnit) → Offers s own →
    ((i : ℕ) (u : SentUnit) → slice_get own i ≡ Some u → u.known.tag.period ≤ s.period) → ArePlaced s own → ArePlaced (after_event s Start) own
placed_start s own o no_later p = record {
  earlier = λ i u at less. go i u at less (cases_lt u.known.tag.period s.period);
  present = λ i u at same. let l = no_later i u at.0 in absurd (omega arith);
  together = p.together;
  later = p.later;
}
  where
    go : (i : ℕ) (u : SentUnit) → IsDataAt own i u → u.known.tag.period < s.period + 1 → (u.known.tag.period < s.period) ⊎
        (s.period ≤ u.known.tag.period) → u.known.place < before (after_event s Start)
    go i u at less (inl l) = let e = before_start s in let b = p.earlier i u at l in omega arith
    go i u at less (inr l) =
        let same : u.known.tag.period ≡ s.period = omega arith in
        let e = before_start s in let b = p.present i u at same in let g = number_given s own i u o at same in omega arith

-- ---- a sending

-- a data message of the next number has the place of that number
place_next : (s : Station) (m : MessageValue) → 0 < s.next_to_send → is_data m ≡ true → place_of s m + 1 ≡ before s + number_of s m
place_next s (Data flags resp num body) l d = omega arith
place_next s m l d = absurd cc

module _ (s : Station) (own : List SentUnit) (bytes : List ℕ) (m : MessageValue) (first : 0 < s.next_to_send)
    (no_later : (i : ℕ) (u : SentUnit) → slice_get own i ≡ Some u → u.known.tag.period ≤ s.period) (p : ArePlaced s own) where
  abbrev one_more : List SentUnit
  one_more = own ++ unit_of s bytes m ∷ []

  -- an earlier one, or one of the present period with its place
  abbrev IsOne : ℕ → SentUnit → Type 0
  IsOne i u = (IsDataAt own i u × (u.known.tag.period ≤ s.period)) ⊎
      ((u.known.tag.period ≡ s.period) × (u.known.place + 1 ≡ before s + u.known.number))

  which : (i : ℕ) (u : SentUnit) → IsDataAt one_more i u → IsOne i u
  which i u at = go (at_pushed own (unit_of s bytes m) u i at.0)
    where
      go : (slice_get own i ≡ Some u) ⊎ ((i ≡ length own) × (unit_of s bytes m ≡ u)) → IsOne i u
      go (inl a) = inl ((a, at.1), no_later i u a)
      go (inr a) =
          let d : is_data m ≡ true = ap (λ (x : SentUnit). is_data x.message) a.1 ∙ at.1 in
          inr (subst (λ (x : SentUnit). (x.known.tag.period ≡ s.period) × (x.known.place + 1 ≡ before s + x.known.number)) a.1
          (refl, place_next s m first d))

  -- the place of one of the present period
  in_present : (i : ℕ) (u : SentUnit) → IsOne i u → u.known.tag.period ≡ s.period → u.known.place + 1 ≡ before s + u.known.number
  in_present i u (inl a) same = p.present i u a.0 same
  in_present i u (inr a) same = a.1

  in_earlier : (i : ℕ) (u : SentUnit) → IsOne i u → u.known.tag.period < s.period → u.known.place < before s
  in_earlier i u (inl a) less = p.earlier i u a.0 less
  in_earlier i u (inr a) less = let e = a.0 in absurd (omega arith)

  go_together : (i j : ℕ) (u v : SentUnit) → IsOne i u → IsOne j v → u.known.tag.period ≡ v.known.tag.period →
      u.known.place + v.known.number ≡ v.known.place + u.known.number
  go_together i j u v (inl a) (inl b) same = p.together i j u v a.0 b.0 same
  go_together i j u v (inr a) two same = let e = a.0 in let f = a.1 in let g = in_present j v two (omega arith) in omega arith
  go_together i j u v (inl a) (inr b) same = let e = b.0 in let f = b.1 in let g = in_present i u (inl a) (omega arith) in omega arith

  go_later : (i j : ℕ) (u v : SentUnit) → IsOne i u → IsOne j v → 0 < v.known.number ⊎ (IsDataAt own j v) → u.known.tag.period < v.known.tag.period →
      u.known.place < v.known.place
  go_later i j u v (inl a) (inl b) n less = p.later i j u v a.0 b.0 less
  go_later i j u v (inl a) (inr b) (inl n) less = let e = b.0 in let f = b.1 in let g = p.earlier i u a.0 (omega arith) in omega arith
  go_later i j u v (inl a) (inr b) (inr d) less = p.later i j u v a.0 d less
  go_later i j u v (inr a) (inl b) n less = let e = a.0 in let f = b.1 in absurd (omega arith)
  go_later i j u v (inr a) (inr b) n less = let e = a.0 in let f = b.0 in absurd (omega arith)

  -- its number is at least 1, or it was there before
  numbered : (j : ℕ) (v : SentUnit) → IsDataAt one_more j v → 0 < v.known.number ⊎ IsDataAt own j v
  numbered j v at = go (at_pushed own (unit_of s bytes m) v j at.0)
    where
      from_one : (k : MessageValue) → is_data k ≡ true → 0 < number_of s k
      from_one (Data flags resp num body) d = first
      from_one m d = absurd cc

      go : (slice_get own j ≡ Some v) ⊎ ((j ≡ length own) × (unit_of s bytes m ≡ v)) → 0 < v.known.number ⊎ IsDataAt own j v
      go (inl a) = inr (a, at.1)
      go (inr a) = inl (subst (λ (x : SentUnit). 0 < x.known.number) a.1 (from_one m (ap (λ (x : SentUnit). is_data x.message) a.1 ∙ at.1)))

  placed_sending : ArePlaced s one_more
  placed_sending = record {
    earlier = λ i u at less. in_earlier i u (which i u at) less;
    present = λ i u at same. in_present i u (which i u at) same;
    together = λ i j u v at_i at_j same. go_together i j u v (which i u at_i) (which j v at_j) same;
    later = λ i j u v at_i at_j less. go_later i j u v (which i u at_i) (which j v at_j) (numbered j v at_j) less;
  }

-- ---- any record

placed_left : (own other : Half Node SentUnit) → IsSound own.state own.sent other.sent → Offers own.state.station own.sent →
    ArePlaced own.state.station own.sent →
    (r : Record) (left : Half Node SentUnit) → Happens of_period own other r left → ArePlaced left.state.station left.sent
placed_left own other h o p r left (Nothing event none) = p
placed_left own other h o p r left (Counted bytes reason) =
    placed_same own.state.station (station_book.counts reason own.state.station) own.sent refl refl p
placed_left own other h o p r left (Unheard bytes) = p
placed_left own other h o p r left (UserEvent Start allowed) = placed_start own.state.station own.sent o (λ i u at. (h.told i u at).no_later) p
placed_left own other h o p r left (UserEvent Halt allowed) = placed_same own.state.station (after_event own.state.station Halt) own.sent refl refl p
placed_left own other h o p r left Boots = placed_same own.state.station (after_event own.state.station Halt) own.sent refl refl p
placed_left own other h o p r left (Sending bytes m read allowed) =
    let t = sending_stays own.state.station m in
    let a = h.ordered.above in
    placed_same own.state.station (after_sending own.state.station m) (own.sent ++ unit_of own.state.station bytes m ∷ []) t.earlier t.period
    (placed_sending own.state.station own.sent bytes m (omega arith) (λ i u at. (h.told i u at).no_later) p)
placed_left own other h o p r left (Receipt hint fate bytes unit arrival there ahead of_unit allowed) =
    let t = (arrival_took own.state.station unit bytes arrival (is_kept fate) of_unit h.none allowed).0 in
    placed_same own.state.station (after_arrival own.state.station arrival (is_kept fate)) own.sent t.earlier t.period p

pub record BothPlaced (w : World Node SentUnit) (of_a of_b : List Record) : Type 0 where
  pub order : BothInOrder w of_a of_b
  pub a_placed : ArePlaced w.a.state.station w.a.sent
  pub b_placed : ArePlaced w.b.state.station w.b.sent

pub placed_kept : IsKept pair BothPlaced
placed_kept = record {
  by_a = λ w made_a made_b r h c made. record {
    order = order_kept.by_a w made_a made_b r h c.order made;
    a_placed = placed_left w.a w.b c.order.of_a.sound c.order.of_a.offers c.a_placed r h (happens of_period w.a w.b h r made);
    b_placed = c.b_placed;
  };
  by_b = λ w made_a made_b r h c made. record {
    order = order_kept.by_b w made_a made_b r h c.order made;
    a_placed = c.a_placed;
    b_placed = placed_left w.b w.a c.order.of_b.sound c.order.of_b.offers c.b_placed r h (happens of_period w.b w.a h r made);
  };
}

pub start_placed : (head_a head_b : Head) → BothPlaced (start head_a head_b) [] []
start_placed head_a head_b = record { order = start_order head_a head_b; a_placed = new_placed _; b_placed = new_placed _ }

-- ---- the place behind the last packet kept

-- the last packet kept came in this message
pub record LastKept (s : Station) (line : ℕ) (other : List SentUnit) (front : ℕ) : Type 0 where
  pub at : ℕ
  pub unit : SentUnit
  pub there : IsDataAt other at unit
  pub passed : at < line
  -- it was kept in this period, in which its number is received
  pub period : ℕ
  pub to : unit.known.tag.partner ≡ Some period
  pub not_later : period ≤ s.period
  pub received : period ≡ s.period → unit.known.number ≤ s.received
  pub behind : front ≡ unit.known.place + 1

abbrev pub IsBehind : Station → ℕ → List SentUnit → ℕ → Type 0
IsBehind s line other front = (front ≡ 0) ⊎ LastKept s line other front

behind_still : (s t : Station) (line line' : ℕ) (other further : List SentUnit) (front : ℕ) → s.period ≤ t.period →
    (t.period ≡ s.period → s.received ≤ t.received) → line ≤ line' →
    ((k : ℕ) (u : SentUnit) → slice_get other k ≡ Some u → slice_get further k ≡ Some u) → IsBehind s line other front →
    IsBehind t line' further front
behind_still s t line line' other further front periods received passed grown (inl e) = inl e
behind_still s t line line' other further front periods received passed grown (inr k) =
    let p = k.passed in let l = k.not_later in
    inr (record {
      at = k.at;
      unit = k.unit;
      there = (grown k.at k.unit k.there.0, k.there.1);
      passed = omega arith;
      period = k.period;
      to = k.to;
      not_later = omega arith;
      received = λ same. let a = k.received (omega arith) in let b = received (omega arith) in omega arith;
      behind = k.behind;
    })

-- what a receipt leaves of it: a packet that is kept lies at or behind that place
abbrev pub LeftByReceipt : (other left : Half Node SentUnit) → (front hint : ℕ) → (kept : Bool) → Type 0
LeftByReceipt other left front hint true =
    (unit : SentUnit) × IsDataAt other.sent hint unit × (front ≤ unit.known.place) × IsBehind left.state.station left.state.front other.sent
    (unit.known.place + 1)
LeftByReceipt other left front hint false = IsBehind left.state.station left.state.front other.sent front

-- what a record leaves of it
abbrev pub LeftBehind : (own other left : Half Node SentUnit) → (front : ℕ) → Record → Type 0
LeftBehind own other left front (Received hint fate bytes) = LeftByReceipt other left front hint (is_kept fate)
LeftBehind own other left front (Sent bytes) = IsBehind left.state.station left.state.front other.sent front
LeftBehind own other left front (Noise bytes) = IsBehind left.state.station left.state.front other.sent front
LeftBehind own other left front (User event) = IsBehind left.state.station left.state.front other.sent front

module _ (own other : Half Node SentUnit) (h : IsSound own.state own.sent other.sent) (theirs : Partnered other.state.station other.sent)
    (placed : ArePlaced other.state.station other.sent)
    (front : ℕ) (p : IsBehind own.state.station own.state.front other.sent front) where
  -- the station keeps its period, and has received no less
  unkept : (t : Station) (line : ℕ) → t.period ≡ own.state.station.period → own.state.station.received ≤ t.received → own.state.front ≤ line →
      IsBehind t line other.sent front
  unkept t line period received passed =
      behind_still own.state.station t own.state.front line other.sent other.sent front (omega arith) (λ same. received) passed (λ k u at. at) p

  module _ (hint : ℕ) (unit : SentUnit) (t : Station) (there : slice_get other.sent hint ≡ Some unit) (ahead : own.state.front ≤ hint)
      (stays : Stays own.state.station t) where
    at_or_behind : IsDataAt other.sent hint unit → TookPacket own.state.station t unit.message unit.known →
        IsBehind own.state.station own.state.front other.sent front → front ≤ unit.known.place
    at_or_behind at x (inl e) = omega arith
    at_or_behind at x (inr k) = go (cases_lt k.unit.known.tag.period unit.known.tag.period)
      where
        go : (k.unit.known.tag.period < unit.known.tag.period) ⊎ (unit.known.tag.period ≤ k.unit.known.tag.period) → front ≤ unit.known.place
        go (inl less) = let l = placed.later k.at hint k.unit unit k.there at less in let e = k.behind in omega arith
        go (inr more) =
            let q = k.passed in
            let rise = theirs.rise k.at hint k.unit unit (omega arith) k.there.0 there in
            let same : k.unit.known.tag.period ≡ unit.known.tag.period = omega arith in
            let one = theirs.one_partner k.at hint k.unit unit (omega arith) k.there.0 there k.there.1 at.1 same in
            let present : k.period ≡ own.state.station.period = same_Some k.period own.state.station.period (sym k.to ∙ one ∙ x.to) in
            let had = k.received present in
            let next = x.next in
            let together = placed.together k.at hint k.unit unit k.there at same in
            let e = k.behind in
            omega arith

    now_last : IsDataAt other.sent hint unit → TookPacket own.state.station t unit.message unit.known →
        IsBehind t (hint + 1) other.sent (unit.known.place + 1)
    now_last at x =
        let period = stays.period in let next = x.next in let received = x.received in
        inr (record {
          at = hint;
          unit = unit;
          there = at;
          passed = omega arith;
          period = own.state.station.period;
          to = x.to;
          not_later = omega arith;
          received = λ same. omega arith;
          behind = refl;
        })

    by_taking : (kept : Bool) → TookBy own.state.station t unit.message unit.known kept →
        LeftByReceipt other (stepped own (record own.state { station = t; front = hint + 1 })) front hint kept
    by_taking false (inl (x, e)) = let r = x.received in unkept t (hint + 1) stays.period (omega arith) (omega arith)
    by_taking false (inr (inl (x, e))) = let r = x.received in unkept t (hint + 1) stays.period (omega arith) (omega arith)
    by_taking false (inr (inr (x, e))) = absurd cc
    by_taking true (inl (x, e)) = absurd cc
    by_taking true (inr (inl (x, e))) = absurd cc
    by_taking true (inr (inr (x, e))) =
        let at : IsDataAt other.sent hint unit = (there, ap is_data x.message) in
        (unit, at, at_or_behind at x p, now_last at x)

  pub behind_left : (r : Record) (left : Half Node SentUnit) → Happens of_period own other r left → LeftBehind own other left front r
  behind_left r left (Nothing event none) = p
  behind_left r left (Counted bytes reason) = unkept (station_book.counts reason own.state.station) own.state.front refl (omega arith) (omega arith)
  behind_left r left (Unheard bytes) = p
  behind_left r left (UserEvent Start allowed) =
      behind_still own.state.station (after_event own.state.station Start) own.state.front own.state.front other.sent other.sent front (omega arith)
      (λ same. absurd (omega arith)) (omega arith) (λ k u at. at) p
  behind_left r left Boots = unkept (after_event own.state.station Halt) own.state.front refl (omega arith) (omega arith)
  behind_left r left (UserEvent Halt allowed) = unkept (after_event own.state.station Halt) own.state.front refl (omega arith) (omega arith)
  behind_left r left (Sending bytes m read allowed) =
      let t = sending_stays own.state.station m in let e = t.received in
      unkept (after_sending own.state.station m) own.state.front t.period (omega arith) (omega arith)
  behind_left r left (Receipt hint fate bytes unit arrival there ahead of_unit allowed) =
      let took = arrival_took own.state.station unit bytes arrival (is_kept fate) of_unit h.none allowed in
      by_taking hint unit (after_arrival own.state.station arrival (is_kept fate)) there ahead took.0 (is_kept fate) took.1

-- the other side, beside what this record left
pub behind_beside : (own other : Half Node SentUnit) (front : ℕ) → IsBehind other.state.station other.state.front own.sent front →
    (r : Record) (left : Half Node SentUnit) → Happens of_period own other r left → IsBehind other.state.station other.state.front left.sent front
behind_beside own other front p r left (Nothing event none) = p
behind_beside own other front p r left (Counted bytes reason) = p
behind_beside own other front p r left (Unheard bytes) = p
behind_beside own other front p r left (UserEvent event allowed) = p
behind_beside own other front p r left Boots = p
behind_beside own other front p r left (Sending bytes m read allowed) =
    behind_still other.state.station other.state.station other.state.front other.state.front own.sent
    (own.sent ++ unit_of own.state.station bytes m ∷ []) front (omega arith) (λ same. omega arith) (omega arith)
    (λ k u at. slice_get-append own.sent (unit_of own.state.station bytes m ∷ []) k u at) p
behind_beside own other front p r left (Receipt hint fate bytes unit arrival there ahead of_unit allowed) = p
