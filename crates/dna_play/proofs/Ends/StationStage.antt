-- What holds of an end of the player as a station, on true numbers, is kept by each thing that happens: what it owes can be paid, and its packets
-- fit.
use Rattle.dna_play.proofs.Prelude.{◌≡◌, ℕ, Bool, true, false, Some, List, [], ◌∷◌, sym, ap, ◌∙◌, subst, AllByRecursion, MessageValue, Data, Head}
use Rattle.dna_play.proofs.Prelude.{change_of, IsWithin, ArrivalValue, Sound, Tag, ReadingValue, HeaderCheck, DataCheck, Station, Truth}
use Rattle.dna_play.proofs.Prelude.{with_packet, is_new, after_sending, after_arrival, AreLabelled, cut, HeldPacket, WireStation}
use Rattle.dna_play.proofs.Prelude.{wire_after_sending, wire_after_arrival, unlabelled, Owed, still_owed, with_debt, arrival_debt, LinkEnd, Choice}
use Rattle.dna_play.proofs.Prelude.{after_choice, message_of, sending_same, arrival_same, header_same, data_bad_same, arrival_packets}
use Rattle.dna_play.proofs.Prelude.{unlabelled_bodies, sending_unlabelled}
use Rattle.dna_station.specs.Bounds.{IsOrdered}
use Rattle.dna_station.specs.Book.{HeaderBad, DataBad}
use Rattle.ddcmp_msg.specs.Reading as read_as
use Rattle.dna_play.proofs.{EachElement.more_all, Ends.StationPays.IsPayable, Ends.UnitLines.PacketFits, Ends.UnitLines.IsOfBytes}
use Rattle.dna_play.proofs.{Ends.SendMakes.PacketsFit}
use Rattle.dna_play.proofs.Ends.DamagedUnits.{ShownDamage, OfHeader, OfData, read_of, arrival_of}
use Rattle.dna_play.proofs.Ends.StationOwes.{choice_pays, sound_pays, damaged_pays}

abbrev pub cut_of : Station → WireStation (Unit {0})
cut_of s = cut (unlabelled s.packets) s

-- what it owes can be paid
abbrev pub StationPays : Station → Owed → Type 0
StationPays s owed = IsPayable (cut_of s).variables s.causes owed

-- what is still owed after a record
abbrev pub left_owed : (before after : Station) → Owed → Owed
left_owed before after owed = still_owed (cut_of before).variables (cut_of after).variables owed

-- what comes as it is true, and how its bytes are read: its numbers are near, or it is damaged
pub data Comes (s : Station) : ArrivalValue Truth → ReadingValue → Type 0 where
  ComesSound : (m : MessageValue) (u : Truth) → IsWithin s m u → Comes s (Sound m u) (read_as.Sound m)
  ComesHurt : (d : ShownDamage) → Comes s (arrival_of d) (read_of d)

-- what a node knows of it
abbrev tagged : ArrivalValue Truth → ArrivalValue Tag
tagged (Sound m u) = Sound m u.tag
tagged HeaderBad = HeaderBad
tagged DataBad = DataBad

module _ (s : Station) where
  labelled : AreLabelled (unlabelled {L = Unit {0}} s.packets) s
  labelled = unlabelled_bodies (Unit {0}) s.packets

  -- what a node keeps goes along
  pub sent_kept : IsOrdered s → (m : MessageValue) → cut_of (after_sending s m) ≡ wire_after_sending (cut_of s) m
  sent_kept ordered m = ap (λ (all : List (HeldPacket (Unit {0}))). cut all (after_sending s m)) (sym (sending_unlabelled s m (change_of m))) ∙
      sending_same (unlabelled s.packets) s labelled ordered m

  arrived : (t : Station) (v : WireStation (Unit {0})) → t.packets ≡ s.packets → cut (unlabelled {L = Unit {0}} s.packets) t ≡ v → cut_of t ≡ v
  arrived t v same is = ap (λ (packets : List (List ℕ)). cut (unlabelled packets) t) same ∙ is

  pub came_kept : IsOrdered s → {arrival : ArrivalValue Truth} {read : ReadingValue} → Comes s arrival read → (kept : Bool) →
      cut_of (after_arrival s arrival kept) ≡ wire_after_arrival (cut_of s) (tagged arrival) kept
  came_kept ordered {arrival} comes kept =
      arrived (after_arrival s arrival kept) (wire_after_arrival (cut_of s) (tagged arrival) kept) (arrival_packets s arrival kept) (go comes)
    where
      go : {arrival : ArrivalValue Truth} {read : ReadingValue} → Comes s arrival read →
          cut (unlabelled s.packets) (after_arrival s arrival kept) ≡ wire_after_arrival (cut_of s) (tagged arrival) kept
      go (ComesSound m u within) = arrival_same (unlabelled s.packets) s labelled ordered m u kept within
      go (ComesHurt OfHeader) = header_same (unlabelled s.packets) s kept
      go (ComesHurt OfData) = data_bad_same (unlabelled s.packets) s kept

module _ (s : Station) (owed : Owed) (p : StationPays s owed) where
  -- where a node keeps this of it after a record
  as_kept : (t : Station) (v : WireStation (Unit {0})) (f : Owed → Owed) → cut_of t ≡ v →
      IsPayable v.variables v.causes (f (still_owed (cut_of s).variables v.variables owed)) → StationPays t (f (left_owed s t owed))
  as_kept t v f same q =
      subst (λ (x : WireStation (Unit {0})). IsPayable x.variables x.causes (f (still_owed (cut_of s).variables x.variables owed))) (sym same) q

  pub sent_stage : IsOrdered s → (c : Choice) (head : Head) (links : List LinkEnd) (m : MessageValue) →
      message_of c head (cut_of s).variables links ≡ Some m → StationPays (after_sending s m) (after_choice c (left_owed s (after_sending s m) owed))
  sent_stage ordered c head links m put =
      as_kept (after_sending s m) (wire_after_sending (cut_of s) m) (after_choice c)
      (sent_kept s ordered m)
      (choice_pays (cut_of s) owed p c head links m put)

  pub came_stage : IsOrdered s → {arrival : ArrivalValue Truth} {read : ReadingValue} → Comes s arrival read → (kept : Bool) →
      StationPays (after_arrival s arrival kept)
      (with_debt (arrival_debt (cut_of s).variables read kept) (left_owed s (after_arrival s arrival kept) owed))
  came_stage ordered {arrival} {read} comes kept =
      as_kept (after_arrival s arrival kept) (wire_after_arrival (cut_of s) (tagged arrival) kept)
      (with_debt (arrival_debt (cut_of s).variables read kept)) (came_kept s ordered comes kept) (go comes)
    where
      go : {arrival : ArrivalValue Truth} {read : ReadingValue} → Comes s arrival read →
          let v = wire_after_arrival (cut_of s) (tagged arrival) kept in
          IsPayable v.variables v.causes (with_debt (arrival_debt (cut_of s).variables read kept) (still_owed (cut_of s).variables v.variables owed))
      go (ComesSound m u within) = sound_pays (cut_of s) owed p m u.tag kept
      go (ComesHurt OfHeader) = damaged_pays (cut_of s) owed p HeaderCheck s.state
      go (ComesHurt OfData) = damaged_pays (cut_of s) owed p DataCheck s.state

-- ---- its packets

pub sent_packets : (s : Station) (m : MessageValue) → IsOfBytes m → PacketsFit s → PacketsFit (after_sending s m)
sent_packets s (Data flags resp num body) h all = go (is_new s)
  where
    go : (b : Bool) → AllByRecursion PacketFits (with_packet b s.packets body)
    go false = all
    go true = more_all PacketFits s.packets (body ∷ []) all (record { bytes = h.body; some = h.in_range.0; most = h.in_range.1 }, tt)
sent_packets s m h all = all

pub came_packets : (s : Station) (arrival : ArrivalValue Truth) (kept : Bool) → PacketsFit s → PacketsFit (after_arrival s arrival kept)
came_packets s arrival kept all = subst (AllByRecursion PacketFits) (sym (arrival_packets s arrival kept)) all
