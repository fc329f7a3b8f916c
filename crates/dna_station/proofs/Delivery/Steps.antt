-- What a period took stays a beginning of what its partner period gave, whatever a record does.
use Rattle.std.proofs.Common.{◌≡◌, cond, ℕ, ◌+◌, ◌-◌, Bool, true, false, ◌&&◌, ◌⊎◌, inl, inr, Option, Some, None, List, [], ◌∷◌, ◌++◌, fold, length}
use Rattle.std.proofs.Common.{refl, sym, ap, ◌∙◌, subst, arith, eqb-true}
use Rattle.std.specs.Prelude.{slice_get}
use Rattle.std.proofs.lemmas.Bool.{and_parts, and_right}
use Rattle.std.proofs.lemmas.List.{length_push}
use Rattle.two_nodes.proofs.Listed.{next_at}
use Rattle.std.proofs.lemmas.Slice.Eq.{bytes_eq-Decides}
use Rattle.ddcmp_msg.specs.declared.flags.Flags.{Flags}
use Rattle.ddcmp_msg.specs.Message.{MessageValue, Data}
use Rattle.ddcmp_msg.specs.declared.nak_reason.NakReason.{NakReason}
use Rattle.ddcmp_msg.specs.declared.nak_reason.NakReason.TheVariants.{HeaderCheck, DataCheck}
use Rattle.dna_station.specs.declared.state.StationEvent.{StationEvent}
use Rattle.dna_station.specs.declared.state.StationEvent.TheVariants.{Start, Halt}
use Rattle.dna_station.specs.declared.refusal.StationRefusal.TheVariants.{CrossedPeriod}
use Rattle.dna_station.specs.Table.{Change, Nothing, SendPacket, change_of, Effect, TakePartner, Respond, TakePacket, AnswerRep, row, counts_damage}
use Rattle.dna_station.specs.PeriodRule.{of_period}
use Rattle.dna_station.specs.Station.{Station, PastPeriod, past, given, after_event}
use Rattle.dna_station.specs.Delivery.{periods, IsDelivered}
use Rattle.two_nodes.specs.Beginning.{BeginsWith}
use Rattle.dna_station.specs.Truth.{Truth}
use Rattle.dna_station.specs.Book.{ArrivalValue, Sound, HeaderBad, DataBad, body_of, has_packet, keep_refusal}
use Rattle.dna_station.specs.StationBook.{sends, is_new, is_packet, as_first_given, sending_refusal, after_sending, truth_of, with_packet, is_next}
use Rattle.dna_station.specs.StationBook.{does, takes, meets_needs, station_book, arrival_refusal, after_arrival}
use Rattle.dna_station.specs.Bounds.{IsOrdered}
use Rattle.dna_station.specs.Line.{SentUnit}
use Rattle.dna_station.proofs.Steps.Effects.{by_response, by_packet, by_rep, Stays, arrival_stays, sending_stays}
use Rattle.dna_station.proofs.Steps.Checks.{sending_passed}
use Rattle.dna_station.proofs.Cut.Arriving.{TakesBy, taken_by}
use Rattle.dna_station.proofs.Cut.Node.{not_crossed}
use Rattle.dna_station.proofs.Steps.Happens.{ComesOf, Itself, BadHeader, BadData}
use Rattle.two_nodes.proofs.NumberedSteps.{each_pushed}
use Rattle.dna_station.proofs.Bounds.Numbers.{is_data, unit_of}
use Rattle.dna_station.proofs.Bounds.Stations.{is_starting, HasNone}
use Rattle.dna_station.proofs.Bounds.Lawful.{AreLawful, has_partner, packet_lawful, partner_lawful, rows_lawful}
use Rattle.dna_station.proofs.Delivery.Periods.{GrowTo, begins_same, grow_present, grow_start, delivered_grown, IsOffered, offered_grown}

-- of a station, with the units that it sent
pub record Offers (s : Station) (own : List SentUnit) : Type 0 where
  pub count : length s.earlier ≡ s.period
  pub taken_count : length s.taken ≡ s.received
  pub offered : (i : ℕ) (u : SentUnit) → slice_get own i ≡ Some u → IsOffered u.message u.known (periods s)

-- of a station beside the periods of the other
pub record Delivers (s : Station) (of_other : List PastPeriod) : Type 0 where
  pub earlier : (q : ℕ) (x : PastPeriod) → slice_get s.earlier q ≡ Some x → IsDelivered x.partner x.taken of_other
  pub present : IsDelivered s.partner s.taken of_other

-- ---- the other side's periods grow

pub delivers_beside : (s : Station) (ps qs : List PastPeriod) → GrowTo ps qs → Delivers s ps → Delivers s qs
delivers_beside s ps qs g d = record {
  earlier = λ q x at. delivered_grown x.partner x.taken ps qs g (d.earlier q x at);
  present = delivered_grown s.partner s.taken ps qs g d.present;
}

-- ---- the user

pub event_grows : (s : Station) (event : StationEvent) → GrowTo (periods s) (periods (after_event s event))
event_grows s Start = grow_start s (after_event s Start) refl
event_grows s Halt = grow_present s (after_event s Halt) refl (begins_same s.packets)

pub event_offers : (s : Station) (own : List SentUnit) (event : StationEvent) → Offers s own → Offers (after_event s event) own
event_offers s own Start o = record {
  count = let e = length_push s.earlier (past s) in let c = o.count in omega arith;
  taken_count = refl;
  offered = λ i u at. offered_grown u.message u.known (periods s) (periods (after_event s Start)) (event_grows s Start) (o.offered i u at);
}
event_offers s own Halt o = record { count = o.count; taken_count = o.taken_count; offered = o.offered }

pub event_delivers : (s : Station) (ps : List PastPeriod) (event : StationEvent) → Delivers s ps → Delivers (after_event s event) ps
event_delivers s ps Start d =
    record { earlier = each_pushed s.earlier (past s) (λ q (x : PastPeriod). IsDelivered x.partner x.taken ps) d.earlier d.present; present = refl }
event_delivers s ps Halt d = record { earlier = d.earlier; present = d.present }

-- ---- a sending

pub packets_begin : (new : Bool) (packets : List (List ℕ)) (body : List ℕ) → BeginsWith (with_packet new packets body) packets
packets_begin true packets body = record { rest = body ∷ []; whole = refl }
packets_begin false packets body = begins_same packets

pub sending_begins : (s : Station) (m : MessageValue) → BeginsWith (after_sending s m).packets s.packets
sending_begins s m = go (change_of m)
  where
    go : (change : Change) → BeginsWith (sends s m change).packets s.packets
    go SendPacket = packets_begin (is_new s) s.packets (body_of m)
    go change = begins_same s.packets

pub sending_grows : (s : Station) (m : MessageValue) → GrowTo (periods s) (periods (after_sending s m))
sending_grows s m = grow_present s (after_sending s m) (sending_stays s m).earlier (sending_begins s m)

pub sending_delivers : (s : Station) (ps : List PastPeriod) (m : MessageValue) → Delivers s ps → Delivers (after_sending s m) ps
sending_delivers s ps m d = go (change_of m)
  where
    go : (change : Change) → Delivers (sends s m change) ps
    go Nothing = d
    go change = record { earlier = d.earlier; present = d.present }

is_the_packet : (o : Option (List ℕ)) (body : List ℕ) → is_packet o body ≡ true → o ≡ Some body
is_the_packet None body e = absurd cc
is_the_packet (Some packet) body e = ap Some (sym ((bytes_eq-Decides body packet).0 e))

-- the packet that is sent is the one of its number
pub packet_there : (s : Station) (new : Bool) (body : List ℕ) → is_new s ≡ new → cond new true (as_first_given s body) ≡ true →
    slice_get (with_packet new s.packets body) (s.next_to_send - 1) ≡ Some body
packet_there s true body e allowed =
    let f = eqb-true s.next_to_send (given s + 1) e in
    let place : s.next_to_send - 1 ≡ length s.packets = omega arith in
    ap (slice_get (s.packets ++ body ∷ [])) place ∙ next_at s.packets [] body
packet_there s false body e allowed = is_the_packet (slice_get s.packets (s.next_to_send - 1)) body allowed

message_offered : (s : Station) (o : IsOrdered s) (m : MessageValue) → length s.earlier ≡ s.period → sending_refusal s m ≡ None →
    IsOffered m (truth_of s m) (periods (after_sending s m))
message_offered s o (Data flags resp num body) count e =
    let after = after_sending s (Data flags resp num body) in
    let a = o.above in (
      past after,
      ap (slice_get (periods after)) (sym count) ∙ next_at after.earlier [] (past after),
      omega arith,
      packet_there s (is_new s) body refl
          (sending_passed s (Data flags resp num body) refl e).1.1.1.0,
    )
message_offered s o m count e = tt

pub sending_offers : (s : Station) (own : List SentUnit) (bytes : List ℕ) (m : MessageValue) → IsOrdered s → sending_refusal s m ≡ None →
    Offers s own → Offers (after_sending s m) (own ++ unit_of s bytes m ∷ [])
sending_offers s own bytes m ordered allowed o = record {
  count = let t = sending_stays s m in ap length t.earlier ∙ o.count ∙ sym t.period;
  taken_count = let t = sending_stays s m in ap length t.taken ∙ o.taken_count ∙ sym t.received;
  offered = each_pushed own (unit_of s bytes m) (λ i (u : SentUnit). IsOffered u.message u.known (periods (after_sending s m)))
      (λ i u at. offered_grown u.message u.known (periods s) (periods (after_sending s m)) (sending_grows s m) (o.offered i u at))
      (message_offered s ordered m o.count allowed);
}

-- ---- a receipt

-- Nothing was taken; or nothing was ever taken in the period, and the partner is the message's period; or the packet of this message
-- was taken, which is the next one of the pair
pub record TookNothing (s t : Station) : Type 0 where
  pub partner : t.partner ≡ s.partner
  pub taken : t.taken ≡ s.taken
  pub received : t.received ≡ s.received

pub record TookPartner (s t : Station) (from : ℕ) : Type 0 where
  pub partner : t.partner ≡ Some from
  pub taken : t.taken ≡ s.taken
  pub received : t.received ≡ s.received
  pub none : HasNone s

pub record TookPacket (s t : Station) (m : MessageValue) (u : Truth) : Type 0 where
  pub flags : Flags
  pub resp : ℕ
  pub num : ℕ
  pub body : List ℕ
  pub message : m ≡ Data flags resp num body
  pub from : s.partner ≡ Some u.tag.period
  pub to : u.tag.partner ≡ Some s.period
  pub next : u.number ≡ s.received + 1
  pub partner : t.partner ≡ s.partner
  pub taken : t.taken ≡ s.taken ++ body ∷ []
  pub received : t.received ≡ s.received + 1

-- and the receipt says whether a packet was kept
abbrev pub TookBy : Station → Station → MessageValue → Truth → Bool → Type 0
TookBy s t m u kept = (TookNothing s t × (kept ≡ false)) ⊎ ((TookPartner s t u.tag.period × (kept ≡ false)) ⊎ (TookPacket s t m u × (kept ≡ true)))

abbrev pub Took : Station → Station → MessageValue → Truth → Bool → Type 0
Took s t m u kept = Stays s t × TookBy s t m u kept

-- where nothing can be taken
pub unkept : (kept : Bool) → keep_refusal false kept ≡ None → kept ≡ false
unkept true allowed = absurd cc
unkept false allowed = refl

-- a message with a packet
record IsData (m : MessageValue) : Type 0 where
  flags : Flags
  resp : ℕ
  num : ℕ
  body : List ℕ
  message : m ≡ Data flags resp num body

data_is : (m : MessageValue) → is_data m ≡ true → IsData m
data_is (Data flags resp num body) e = record { flags = flags; resp = resp; num = num; body = body; message = refl }
data_is m e = absurd cc

module _ (s : Station) (u : Truth) (m : MessageValue) (kept : Bool) where
  -- ---- effects, one after another

  partner_stays : (t : Station) (effect : Effect) → has_partner (effect ∷ []) ≡ false → (does m u kept t effect).partner ≡ t.partner
  partner_stays t TakePartner e = absurd cc
  partner_stays t Respond e = by_response m u kept t (λ (x : Station). x.partner ≡ t.partner) refl (λ e. refl)
  partner_stays t TakePacket e = by_packet m u kept t (λ (x : Station). x.partner ≡ t.partner) refl (λ e. refl) refl
  partner_stays t AnswerRep e = by_rep m u kept t (λ (x : Station). x.partner ≡ t.partner) refl refl
  partner_stays t effect e = refl

  -- the partner behind some effects
  partner_by : (effects : List Effect) (t : Station) → (fold (does m u kept) t effects).partner ≡ cond (has_partner effects) (Some u.tag.period)
      t.partner
  partner_by [] t = refl
  partner_by (TakePartner ∷ next) t = partner_by next (does m u kept t TakePartner) ∙ either (has_partner next)
    where
      either : (b : Bool) → cond b (Some u.tag.period) (Some u.tag.period) ≡ Some u.tag.period
      either true = refl
      either false = refl
  partner_by (effect ∷ next) t =
      partner_by next (does m u kept t effect) ∙ ap (cond (has_partner next) (Some u.tag.period)) (partner_stays t effect refl)

  -- ---- what a row took

  module _ (effects : List Effect) (lawful : AreLawful s m u.tag s.state effects) where
    abbrev left : Station
    left = fold (does m u kept) s effects

    taking : (b : Bool) → ((has_packet effects && is_next s u) && kept) ≡ b → TakesBy m u kept s left b
    taking b e = subst (λ (b : Bool). TakesBy m u kept s left b) e (taken_by m u kept effects s)

    took_packet : (has_packet effects && is_next s u) ≡ true → kept ≡ true → TookPacket s left m u
    took_packet takes was =
        let both = and_parts (has_packet effects) (is_next s u) takes in
        let l = packet_lawful s m u.tag effects s.state lawful both.0 in
        let d = data_is m l.0 in
        let k = taking true (ap (λ (b : Bool). b && kept) takes ∙ was) in
        record {
          flags = d.flags;
          resp = d.resp;
          num = d.num;
          body = d.body;
          message = d.message;
          from = (l.1).from;
          to = (l.1).to;
          next = eqb-true u.number (s.received + 1) both.1;
          partner = partner_by effects s ∙ either (has_partner effects) (sym (l.1).from);
          taken = k.taken ∙ ap (λ (n : MessageValue). s.taken ++ body_of n ∷ []) d.message;
          received = k.received;
        }
      where
        either : (b : Bool) → Some u.tag.period ≡ s.partner → cond b (Some u.tag.period) s.partner ≡ s.partner
        either true e = e
        either false e = refl

    of_row : (is_starting s.state ≡ true → HasNone s) → (kept ≡ true → (has_packet effects && is_next s u) ≡ true) → TookBy s left m u kept
    of_row none claims = go kept refl
      where
        unpacked : kept ≡ false → TakesBy m u kept s left false
        unpacked e = taking false (and_right (has_packet effects && is_next s u) kept e)

        no_packet : (b : Bool) → has_partner effects ≡ b → kept ≡ false → TookBy s left m u kept
        no_packet true e none_kept =
            let k = unpacked none_kept in let r = k.received in
            inr (inl (
              record {
                partner = partner_by effects s ∙ ap (λ (b : Bool). cond b (Some u.tag.period) s.partner) e;
                taken = k.taken;
                received = omega arith;
                none = none (partner_lawful s m u.tag effects s.state lawful e);
              },
              none_kept,
            ))
        no_packet false e none_kept =
            let k = unpacked none_kept in let r = k.received in
            inl (
              record {
                partner = partner_by effects s ∙ ap (λ (b : Bool). cond b (Some u.tag.period) s.partner) e;
                taken = k.taken;
                received =
                    omega arith;
              },
              none_kept,
            )

        go : (k : Bool) → kept ≡ k → TookBy s left m u kept
        go true was = inr (inr (took_packet (claims was) was, was))
        go false was = no_packet (has_partner effects) refl was

damaged_took : (s : Station) (u : Truth) (m : MessageValue) (kept b : Bool) (reason : NakReason) → kept ≡ false →
    TookBy s (cond b (station_book.counts reason s) s) m u kept
damaged_took s u m kept true reason none = inl (record { partner = refl; taken = refl; received = refl }, none)
damaged_took s u m kept false reason none = inl (record { partner = refl; taken = refl; received = refl }, none)

-- what is claimed to be kept can be taken
claim_allowed : (takes kept : Bool) → keep_refusal takes kept ≡ None → kept ≡ true → takes ≡ true
claim_allowed true kept e claims = refl
claim_allowed false true e claims = absurd cc
claim_allowed false false e claims = claims

sound_claim : (s : Station) (m : MessageValue) (u : Truth) (kept : Bool) → arrival_refusal of_period s (Sound m u) kept ≡ None → kept ≡ true →
    takes s m u ≡ true
sound_claim s m u kept = go (meets_needs of_period s m u)
  where
    go : (b : Bool) → cond b (keep_refusal (takes s m u) kept) (Some CrossedPeriod) ≡ None → kept ≡ true → takes s m u ≡ true
    go true allowed = claim_allowed (takes s m u) kept allowed
    go false allowed = absurd cc

took_by : (s : Station) (unit : SentUnit) (bytes : List ℕ) (arrival : ArrivalValue Truth) (kept : Bool) → ComesOf unit bytes arrival →
    (is_starting s.state ≡ true → HasNone s) → arrival_refusal of_period s arrival kept ≡ None →
    TookBy s (after_arrival s arrival kept) unit.message unit.known kept
took_by s unit bytes (Sound m u) kept (Itself same) none allowed =
    of_row s unit.known unit.message kept (row s.state unit.message).effects
    (rows_lawful s unit.known.tag s.state unit.message (not_crossed s unit.message unit.known kept allowed)) none
    (sound_claim s unit.message unit.known kept allowed)
took_by s unit bytes HeaderBad kept BadHeader none allowed =
    damaged_took s unit.known unit.message kept (counts_damage s.state) HeaderCheck (unkept kept allowed)
took_by s unit bytes DataBad kept BadData none allowed =
    damaged_took s unit.known unit.message kept (counts_damage s.state) DataCheck (unkept kept allowed)

pub arrival_took : (s : Station) (unit : SentUnit) (bytes : List ℕ) (arrival : ArrivalValue Truth) (kept : Bool) → ComesOf unit bytes arrival →
    (is_starting s.state ≡ true → HasNone s) → arrival_refusal of_period s arrival kept ≡ None →
    Took s (after_arrival s arrival kept) unit.message unit.known kept
arrival_took s unit bytes arrival kept of_unit none allowed = (arrival_stays s arrival kept, took_by s unit bytes arrival kept of_unit none allowed)
