-- In every run the periods of a station, of its partner and of its units lie among those that were begun. So where each side starts at most
-- once, every message that is acted on is of the one pair of periods, and the rule on periods asks nothing.
use Rattle.std.proofs.Common.{◌≡◌, ℕ, ◌+◌, ◌≤◌, Bool, true, false, eqb, cond, Option, Some, None, List, [], ◌∷◌, ◌++◌, fold, refl, sym, ap, ◌∙◌}
use Rattle.std.proofs.Common.{subst, arith}
use Rattle.std.specs.Prelude.{slice_get}
use Rattle.ddcmp_msg.specs.Message.{MessageValue, Data, Ack, Nak, Rep, Strt, Stack}
use Rattle.ddcmp_msg.specs.declared.nak_reason.NakReason.{NakReason}
use Rattle.ddcmp_msg.specs.declared.nak_reason.NakReason.TheVariants.{HeaderCheck, DataCheck}
use Rattle.two_nodes.specs.Nodes.{Half, World}
use Rattle.two_nodes.specs.Kept.{IsKept}
use Rattle.capture_record.specs.Fates.{is_kept}
use Rattle.capture_record.specs.declared.record.Record.{Record}
use Rattle.capture_record.specs.declared.record.Record.TheVariants.{Sent, Received, Noise, User}
use Rattle.capture_record.specs.declared.event.Event.{Event}
use Rattle.capture_record.specs.declared.event.Event.TheVariants.{Boot}
use Rattle.dna_station.specs.declared.state.State.{State}
use Rattle.dna_station.specs.declared.state.State.TheVariants.{Halted, Istrt, Astrt, Running}
use Rattle.dna_station.specs.declared.state.StationEvent.{StationEvent}
use Rattle.dna_station.specs.declared.state.StationEvent.TheVariants.{Start, Halt}
use Rattle.dna_station.specs.Table.{Check, checks, Respond, TakePacket, AnswerRep, counts_damage, row, Row, ignored}
use Rattle.dna_node.specs.TagRules.{judged}
use Rattle.dna_station.specs.Delivery.{begins}
use Rattle.dna_station.specs.Station.{Station, after_event}
use Rattle.dna_station.specs.Truth.{Truth}
use Rattle.dna_station.specs.Book.{ArrivalValue, Sound, HeaderBad, DataBad, failed}
use Rattle.dna_station.specs.StationBook.{passes, does, sending_refusal, after_sending, after_arrival, station_book}
use Rattle.dna_station.specs.Line.{SentUnit}
use Rattle.dna_station.specs.Node.{Node}
use Rattle.dna_station.specs.Pair.{pair}
use Rattle.dna_links.proofs.Runs.Sides.{all_pushed}
use Rattle.dna_node.proofs.Once.Orderly.{starts_in, starts, starts-join}
use Rattle.dna_station.proofs.Steps.Effects.{sending_stays, by_response, by_packet, by_rep, arrival_stays}
use Rattle.dna_station.proofs.Steps.Happens.{Happens, ComesOf, Itself, BadHeader, BadData, Nothing, UserEvent, Boots, Sending, Receipt, Counted}
use Rattle.dna_station.proofs.Steps.Happens.{Unheard}
use Rattle.dna_station.proofs.Steps.Happens.{happens, event_of}
use Rattle.dna_station.proofs.Bounds.Numbers.{unit_of}

abbrev pub is_on : State → Bool
is_on Halted = false
is_on state = true

-- a station in these goes with a period of its partner
abbrev pub goes_with : State → Bool
goes_with Astrt = true
goes_with Running = true
goes_with state = false

abbrev pub is_strt : MessageValue → Bool
is_strt (Strt flags) = true
is_strt m = false

-- one of so many periods
pub record IsBegun (known : Option ℕ) (periods : ℕ) : Type 0 where
  pub period : ℕ
  pub is : known ≡ Some period
  pub first : 1 ≤ period
  pub last : period ≤ periods

pub record UnitBegun (own periods : ℕ) (u : SentUnit) : Type 0 where
  pub first : 1 ≤ u.known.tag.period
  pub last : u.known.tag.period ≤ own
  pub partner : is_strt u.message ≡ false → IsBegun u.known.tag.partner periods

-- of a station with its units, where the other side has begun so many periods
pub record AreBegun (s : Station) (own : List SentUnit) (periods : ℕ) : Type 0 where
  pub started : is_on s.state ≡ true → 1 ≤ s.period
  pub partner : goes_with s.state ≡ true → IsBegun s.partner periods
  pub units : (i : ℕ) (u : SentUnit) → slice_get own i ≡ Some u → UnitBegun s.period periods u

-- ---- more periods

begun_later : (known : Option ℕ) (periods more : ℕ) → periods ≤ more → IsBegun known periods → IsBegun known more
begun_later known periods more l b = let last = b.last in record { period = b.period; is = b.is; first = b.first; last = omega arith }

unit_later : (own further periods more : ℕ) (u : SentUnit) → own ≤ further → periods ≤ more → UnitBegun own periods u → UnitBegun further more u
unit_later own further periods more u l m b = let last = b.last in
    record { first = b.first; last = omega arith; partner = λ e. begun_later u.known.tag.partner periods more m (b.partner e) }

beside : (s : Station) (own : List SentUnit) (periods more : ℕ) → periods ≤ more → AreBegun s own periods → AreBegun s own more
beside s own periods more l h = record {
  started = h.started;
  partner = λ e. begun_later s.partner periods more l (h.partner e);
  units = λ i u at. unit_later s.period s.period periods more u (omega arith) l (h.units i u at);
}

-- ---- the user

event_begun : (s : Station) (own : List SentUnit) (periods : ℕ) (event : StationEvent) → AreBegun s own periods →
    AreBegun (after_event s event) own periods
event_begun s own periods Start h = record {
  started = λ e. omega arith;
  partner = λ e. absurd cc;
  units = λ i u at. unit_later s.period (s.period + 1) periods periods u (omega arith) (omega arith) (h.units i u at);
}
event_begun s own periods Halt h = record { started = λ e. absurd cc; partner = λ e. absurd cc; units = h.units }

-- ---- a sending

may_send : (p : Check → Bool) (state : State) (m : MessageValue) → failed p (checks state m) ≡ None → (is_on state ≡ true) ×
    (is_strt m ≡ false → goes_with state ≡ true)
may_send p Halted m e = absurd cc
may_send p Istrt (Strt flags) e = (refl, λ differs. absurd cc)
may_send p Istrt m e = absurd cc
may_send p Astrt m e = (refl, λ differs. refl)
may_send p Running m e = (refl, λ differs. refl)

sending_begun : (s : Station) (own : List SentUnit) (periods : ℕ) (bytes : List ℕ) (m : MessageValue) → sending_refusal s m ≡ None →
    AreBegun s own periods → AreBegun (after_sending s m) (own ++ unit_of s bytes m ∷ []) periods
sending_begun s own periods bytes m allowed h =
    let stays = sending_stays s m in
    let may = may_send (passes s m) s.state m allowed in
    let began = h.started may.0 in
    let same = stays.period in
    let this : UnitBegun (after_sending s m).period periods (unit_of s bytes m) =
    record { first = began; last = omega arith; partner = λ differs. h.partner (may.1 differs) } in
    record {
      started = λ e. omega arith;
      partner = λ e. subst (λ (o : Option ℕ). IsBegun o periods) (sym stays.partner) (h.partner (ap goes_with (sym stays.state) ∙ e));
      units = all_pushed (λ i u. UnitBegun (after_sending s m).period periods u) own (unit_of s bytes m) this
          (λ i u at. subst (λ (p : ℕ). UnitBegun p periods u) (sym same) (h.units i u at));
    }

-- ---- a receipt

module _ (m : MessageValue) (u : Truth) (kept : Bool) (periods : ℕ) where
  abbrev Partner : Station → Type 0
  Partner t = IsBegun t.partner periods

  respond_partner : (t : Station) → Partner t → Partner (does m u kept t Respond)
  respond_partner t p = by_response m u kept t Partner p (λ e. p)

  packet_partner : (t : Station) → Partner t → Partner (does m u kept t TakePacket)
  packet_partner t p = by_packet m u kept t Partner p (λ e. p) p

  rep_partner : (t : Station) → Partner t → Partner (does m u kept t AnswerRep)
  rep_partner t p = by_rep m u kept t Partner p p

module _ (u : Truth) (kept : Bool) (s : Station) (periods : ℕ) (first : 1 ≤ u.tag.period) (last : u.tag.period ≤ periods) where
  abbrev Goes : Station → Type 0
  Goes t = goes_with t.state ≡ true → IsBegun t.partner periods

  theirs : IsBegun (Some u.tag.period) periods
  theirs = record { period = u.tag.period; is = refl; first = first; last = last }

  either_row : (m : MessageValue) (b : Bool) (r : Row) → Goes (fold (does m u kept) s r.effects) → Goes s →
      Goes (fold (does m u kept) s (cond b r ignored).effects)
  either_row m true r there other = there
  either_row m false r there other = other

  rows_go : (state : State) (m : MessageValue) → s.state ≡ state → Goes s → Goes (fold (does m u kept) s (row state m).effects)
  rows_go Halted m is g = g
  rows_go Istrt (Strt flags) is g = λ e. theirs
  rows_go Istrt (Stack flags) is g = λ e. theirs
  rows_go Istrt m is g = g
  rows_go Astrt (Strt flags) is g = λ e. theirs
  rows_go Astrt (Stack flags) is g = λ e. theirs
  rows_go Astrt (Ack flags resp) is g = either_row (Ack flags resp) (eqb resp 0) _ (λ e. g (ap goes_with is)) g
  rows_go Astrt (Data flags resp num body) is g =
      let m = Data flags resp num body in
      either_row m (eqb resp 0) _
      (λ e. packet_partner m u kept periods _ (respond_partner m u kept periods (record s { state = Running }) (g (ap goes_with is)))) g
  rows_go Astrt m is g = g
  rows_go Running (Strt flags) is g = λ e. absurd cc
  rows_go Running (Stack flags) is g = g
  rows_go Running (Ack flags resp) is g = λ e. respond_partner (Ack flags resp) u kept periods s (g (ap goes_with is))
  rows_go Running (Nak flags reason resp) is g = λ e. respond_partner (Nak flags reason resp) u kept periods s (g (ap goes_with is))
  rows_go Running (Rep flags num) is g = λ e. rep_partner (Rep flags num) u kept periods s (g (ap goes_with is))
  rows_go Running (Data flags resp num body) is g =
      let m = Data flags resp num body in λ e. packet_partner m u kept periods _ (respond_partner m u kept periods s (g (ap goes_with is)))

-- a station that is off stays as it is
off_stays : (m : MessageValue) (u : Truth) (kept : Bool) (s : Station) (state : State) → s.state ≡ state →
    is_on (fold (does m u kept) s (row state m).effects).state ≡ true → is_on s.state ≡ true
off_stays m u kept s Halted is e = e
off_stays m u kept s Istrt is e = ap is_on is
off_stays m u kept s Astrt is e = ap is_on is
off_stays m u kept s Running is e = ap is_on is

damage_begun : (s : Station) (own : List SentUnit) (periods : ℕ) (reason : NakReason) (b : Bool) → AreBegun s own periods →
    AreBegun (cond b (station_book.counts reason s) s) own periods
damage_begun s own periods reason true h = record { started = h.started; partner = h.partner; units = h.units }
damage_begun s own periods reason false h = h

receipt_begun : (s : Station) (own : List SentUnit) (periods further : ℕ) (unit : SentUnit) (bytes : List ℕ) (arrival : ArrivalValue Truth)
    (kept : Bool) → ComesOf unit bytes arrival → UnitBegun periods further unit →
    AreBegun s own periods → AreBegun (after_arrival s arrival kept) own periods
receipt_begun s own periods further unit bytes (Sound m u) kept (Itself same) begun h =
    let p = (arrival_stays s (Sound m u) kept).period in
    record {
      started = λ e. let l = h.started (off_stays m u kept s s.state refl e) in omega arith;
      partner = rows_go u kept s periods begun.first begun.last s.state m refl h.partner;
      units = λ i v at. subst (λ (n : ℕ). UnitBegun n periods v) (sym p) (h.units i v at);
    }
receipt_begun s own periods further unit bytes HeaderBad kept BadHeader begun h = damage_begun s own periods HeaderCheck (counts_damage s.state) h
receipt_begun s own periods further unit bytes DataBad kept BadData begun h = damage_begun s own periods DataCheck (counts_damage s.state) h

-- ---- a record

record LeavesBegun (own other h : Half Node SentUnit) (r : Record) : Type 0 where
  pub of_own : AreBegun h.state.station h.sent other.state.station.period
  pub of_other : AreBegun other.state.station other.sent h.state.station.period
  pub period : h.state.station.period ≡ own.state.station.period + starts_in r

module _ (own other : Half Node SentUnit) (mine : AreBegun own.state.station own.sent other.state.station.period)
    (theirs : AreBegun other.state.station other.sent own.state.station.period) where
  -- the period stays
  same_period : (h : Half Node SentUnit) (r : Record) → h.state.station.period ≡ own.state.station.period → starts_in r ≡ 0 →
      AreBegun h.state.station h.sent other.state.station.period → LeavesBegun own other h r
  same_period h r same none left =
      record { of_own = left; of_other = subst (AreBegun other.state.station other.sent) (sym same) theirs; period = let e = none in omega arith }

  halt_leaves : (event : Event) → starts_in (User event) ≡ 0 →
      LeavesBegun own other (record { state = record own.state { station = after_event own.state.station Halt }; sent = own.sent }) (User event)
  halt_leaves event none = same_period _ (User event) refl none (event_begun own.state.station own.sent other.state.station.period Halt mine)

  event_leaves : (event : StationEvent) →
      LeavesBegun own other (record { state = record own.state { station = after_event own.state.station event }; sent = own.sent })
      (User (event_of event))
  event_leaves Start =
      record {
        of_own = event_begun own.state.station own.sent other.state.station.period Start mine;
        of_other =
            beside other.state.station other.sent own.state.station.period (own.state.station.period + 1) (omega arith) theirs;
        period = refl;
      }
  event_leaves Halt = halt_leaves (event_of Halt) refl

  no_start : (event : Event) → begins event ≡ false → starts_in (User event) ≡ 0
  no_start event e = ap (λ (b : Bool). cond b 1 0) e

  record_leaves : (r : Record) (h : Half Node SentUnit) → Happens judged.periods own other r h → LeavesBegun own other h r
  record_leaves r h (Nothing event quiet) = same_period _ (User event) refl (no_start event quiet) mine
  record_leaves r h (Counted bytes reason) =
      same_period _ (Noise bytes) refl refl (damage_begun own.state.station own.sent other.state.station.period reason true mine)
  record_leaves r h (Unheard bytes) = same_period _ (Noise bytes) refl refl mine
  record_leaves r h (UserEvent event allowed) = event_leaves event
  record_leaves r h Boots = halt_leaves Boot refl
  record_leaves r h (Sending bytes m reads allowed) =
      same_period _ (Sent bytes) (sending_stays own.state.station m).period refl
      (sending_begun own.state.station own.sent other.state.station.period bytes m allowed mine)
  record_leaves r h (Receipt hint fate bytes unit arrival there ahead comes allowed) =
      same_period _ (Received hint fate bytes) (arrival_stays own.state.station arrival (is_kept fate)).period refl
      (receipt_begun own.state.station own.sent other.state.station.period own.state.station.period unit bytes arrival (is_kept fate) comes
      (theirs.units hint unit there) mine)

-- ---- in every run

pub record BothBegun (w : World Node SentUnit) (made_a made_b : List Record) : Type 0 where
  pub of_a : AreBegun w.a.state.station w.a.sent w.b.state.station.period
  pub of_b : AreBegun w.b.state.station w.b.sent w.a.state.station.period
  pub count_a : w.a.state.station.period ≡ starts made_a
  pub count_b : w.b.state.station.period ≡ starts made_b

pub begun_kept : IsKept pair BothBegun
begun_kept = record {
  by_a = λ w made_a made_b r h c made.
      let l = record_leaves w.a w.b c.of_a c.of_b r h (happens judged.periods w.a w.b h r made) in
      record {
        of_a = l.of_own;
        of_b = l.of_other;
        count_a = let e = l.period in let f = starts-join made_a (r ∷ []) in let g = c.count_a in
            omega arith;
        count_b = c.count_b;
      };
  by_b = λ w made_a made_b r h c made.
      let l = record_leaves w.b w.a c.of_b c.of_a r h (happens judged.periods w.b w.a h r made) in
      record {
        of_a = l.of_other;
        of_b = l.of_own;
        count_a = c.count_a;
        count_b = let e = l.period in let f = starts-join made_b (r ∷ []) in
            let g = c.count_b in omega arith;
      };
}
