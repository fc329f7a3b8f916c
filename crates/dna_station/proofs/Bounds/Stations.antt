-- The bounds of DDCMP hold at any time: what holds of each node beside the other is kept by every record.
use Rattle.std.proofs.Common.{◌≡◌, ℕ, ◌≤◌, Bool, true, false, Some, None, List, [], ◌∷◌, ◌++◌, length, refl, sym, ap, ◌∙◌, subst, arith}
use Rattle.std.proofs.Common.{length-append}
use Rattle.std.specs.Prelude.{slice_get}
use Rattle.ddcmp_msg.specs.declared.nak_reason.NakReason.{NakReason}
use Rattle.ddcmp_msg.specs.Message.{MessageValue, Data}
use Rattle.ddcmp_msg.specs.Reading.{reading, Sound}
use Rattle.dna_station.specs.declared.state.State.{State}
use Rattle.dna_station.specs.declared.state.State.TheVariants.{Istrt, Astrt, Running}
use Rattle.dna_station.specs.declared.state.StationEvent.{StationEvent}
use Rattle.dna_station.specs.declared.state.StationEvent.TheVariants.{Start, Halt}
use Rattle.dna_station.specs.Station.{Station, given, after_event}
use Rattle.dna_station.specs.Table.{checks}
use Rattle.dna_station.specs.Book.{failed}
use Rattle.dna_station.specs.StationBook.{station_book, passes, sending_refusal, after_sending}
use Rattle.dna_station.specs.Bounds.{IsOrdered, HasWireNumbers}
use Rattle.dna_station.specs.Line.{SentUnit}
use Rattle.dna_station.specs.Node.{Node}
use Rattle.dna_station.proofs.Steps.Effects.{sending_stays}
use Rattle.dna_station.proofs.Bounds.Ordered.{same_ordered, event_ordered, sending_ordered}
use Rattle.two_nodes.proofs.Numbered.{Numbers, AreNumbered, IsPresent}
use Rattle.two_nodes.proofs.NumberedSteps.{each_pushed, numbered_beside, present_beside, numbered_sending, present_sending, present_new}
use Rattle.dna_station.proofs.Bounds.Numbers.{limits, numbers_of, view, AsksForHighest, unit_of, sent_spelled, sent_asks, sending_is}

-- before RUNNING
abbrev pub is_starting : State → Bool
is_starting Istrt = true
is_starting Astrt = true
is_starting state = false

-- nothing is received, acknowledged or given
pub record AreNone (last_received highest_acknowledged : ℕ) (given_packets : List (List ℕ)) : Type 0 where
  pub received : last_received ≡ 0
  pub acknowledged : highest_acknowledged ≡ 0
  pub packets : given_packets ≡ []

abbrev pub HasNone : Station → Type 0
HasNone s = AreNone s.received s.acknowledged s.packets

-- of a unit that was sent
pub record IsTold (period : ℕ) (u : SentUnit) : Type 0 where
  pub reads : reading u.bytes ≡ Sound u.message
  pub spelled : HasWireNumbers u.message u.known
  pub asks : AsksForHighest u.message u.known
  pub no_later : u.known.tag.period ≤ period

-- of a node, with all units that it sent and all that the other side sent
pub record IsSound (n : Node) (own other : List SentUnit) : Type 0 where
  pub ordered : IsOrdered n.station
  pub none : is_starting n.station.state ≡ true → HasNone n.station
  pub met : n.front ≤ length other
  pub told : (i : ℕ) (u : SentUnit) → slice_get own i ≡ Some u → IsTold n.station.period u
  pub messages : AreNumbered view limits own other
  pub present : IsPresent view limits own other n.front (numbers_of n.station)

-- ---- the other side sends a unit

pub sound_beside : (n : Node) (own other : List SentUnit) (x : SentUnit) → IsSound n own other → IsSound n own (other ++ x ∷ [])
sound_beside n own other x h = record {
  ordered = h.ordered;
  none = h.none;
  met = let e = length-append other (x ∷ []) in let m = h.met in omega arith;
  told = h.told;
  messages = numbered_beside view limits other x own h.messages;
  present = present_beside view limits other x own n.front (numbers_of n.station) h.present;
}

-- ---- the user

pub sound_event : (n : Node) (own other : List SentUnit) (event : StationEvent) → IsSound n own other →
    IsSound (record n { station = after_event n.station event }) own other
sound_event n own other Start h = record {
  ordered = event_ordered n.station Start h.ordered;
  none = λ e. record { received = refl; acknowledged = refl; packets = refl };
  met = h.met;
  told = λ i u at. let t = h.told i u at in
      record { reads = t.reads; spelled = t.spelled; asks = t.asks; no_later = let l = t.no_later in omega arith };
  messages = h.messages;
  present = present_new view limits own other n.front (numbers_of (after_event n.station Start)) refl refl (omega arith)
      (λ i u at same. let l = (h.told i u at).no_later in absurd (omega arith));
}
sound_event n own other Halt h = record {
  ordered = event_ordered n.station Halt h.ordered;
  none = λ e. absurd cc;
  met = h.met;
  told = h.told;
  messages = h.messages;
  present = h.present;
}

-- ---- one more cause for a NAK

pub sound_counted : (n : Node) (own other : List SentUnit) (reason : NakReason) → IsSound n own other →
    IsSound (record n { station = station_book.counts reason n.station }) own other
sound_counted n own other reason h = record {
  ordered = same_ordered n.station h.ordered (station_book.counts reason n.station) refl refl refl;
  none = h.none;
  met = h.met;
  told = h.told;
  messages = h.messages;
  present = h.present;
}

-- ---- a sending

-- before RUNNING no packet is given
nothing_given : (s : Station) (m : MessageValue) → sending_refusal s m ≡ None → is_starting s.state ≡ true → (after_sending s m).packets ≡ s.packets
nothing_given s (Data flags resp num body) e starting = absurd (in_running s.state e starting)
  where
    in_running : (state : State) → failed (passes s (Data flags resp num body)) (checks state (Data flags resp num body)) ≡ None →
        is_starting state ≡ true → ⊥
    in_running Running e starting = cc
    in_running state e starting = cc
nothing_given s m e starting = refl

sending_numbers : (s : Station) (m : MessageValue) → record (numbers_of s) { given = given (after_sending s m); last = s.received } ≡ numbers_of
    (after_sending s m)
sending_numbers s (Data flags resp num body) = refl
sending_numbers s m = refl

module _ (n : Node) (own other : List SentUnit) (bytes : List ℕ) (m : MessageValue) (h : IsSound n own other) (read : reading bytes ≡ Sound m)
    (allowed : sending_refusal n.station m ≡ None) where
  sending_told : (i : ℕ) (u : SentUnit) → slice_get (own ++ unit_of n.station bytes m ∷ []) i ≡ Some u → IsTold (after_sending n.station m).period u
  sending_told =
      let e = (sending_stays n.station m).period in
      each_pushed own (unit_of n.station bytes m) (λ i (u : SentUnit). IsTold (after_sending n.station m).period u)
      (λ i u at. let t = h.told i u at in
      record { reads = t.reads; spelled = t.spelled; asks = t.asks; no_later = let l = t.no_later in omega arith })
      (record {
        reads = read;
        spelled = sent_spelled n.station h.ordered bytes m allowed;
        asks = sent_asks n.station h.ordered bytes m;
        no_later =
            omega arith;
      })

  pub sound_sending : IsSound (record n { station = after_sending n.station m }) (own ++ unit_of n.station bytes m ∷ []) other
  sound_sending =
      let stays = sending_stays n.station m in
      record {
        ordered = sending_ordered n.station h.ordered m allowed;
        none = λ e.
            let k = h.none (ap is_starting (sym stays.state) ∙ e) in
            record {
              received = stays.received ∙ k.received;
              acknowledged = stays.acknowledged ∙ k.acknowledged;
              packets =
                  nothing_given n.station m allowed (ap is_starting (sym stays.state) ∙ e) ∙ k.packets;
            };
        met = h.met;
        told = sending_told;
        messages = numbered_sending view limits own other n.front (numbers_of n.station) (given (after_sending n.station m)) n.station.received
            (unit_of n.station bytes m) h.messages h.present h.met (sending_is n.station h.ordered bytes m allowed);
        present = subst (λ (x : Numbers). IsPresent view limits (own ++ unit_of n.station bytes m ∷ []) other n.front x) (sending_numbers n.station m)
            (present_sending view limits own other n.front (numbers_of n.station) (given (after_sending n.station m)) n.station.received
            (unit_of n.station bytes m) h.messages h.present h.met (sending_is n.station h.ordered bytes m allowed));
      }
