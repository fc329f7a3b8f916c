-- Both nodes of a run are sound, at any time.
use Rattle.std.proofs.Common.{List, [], refl, arith}
use Rattle.two_nodes.specs.Nodes.{Half, World, Run}
use Rattle.two_nodes.specs.Kept.{IsKept}
use Rattle.capture_record.specs.Fates.{is_kept}
use Rattle.capture_record.specs.declared.record.Record.{Record}
use Rattle.dna_station.specs.declared.head.Head.{Head}
use Rattle.dna_station.specs.PeriodRule.{of_period}
use Rattle.dna_station.specs.Line.{SentUnit}
use Rattle.dna_station.specs.Node.{Node, new_node}
use Rattle.dna_station.specs.declared.state.StationEvent.TheVariants.{Halt}
use Rattle.dna_station.specs.Station.{new_station}
use Rattle.dna_station.specs.Bounds.{IsBounded}
use Rattle.dna_station.specs.Pair.{pair, start}
use Rattle.dna_station.proofs.Bounds.Ordered.{new_ordered}
use Rattle.dna_station.proofs.Steps.Happens.{Happens, Nothing, UserEvent, Boots, Sending, Receipt, Counted, Unheard}
use Rattle.dna_station.proofs.Bounds.Sides.{OfBoth, IsKeptBySides, kept_by_both, after_run}
use Rattle.two_nodes.proofs.NumberedSteps.{none_numbered, present_new}
use Rattle.dna_station.proofs.Bounds.Numbers.{limits, view, numbers_of, unit_of}
use Rattle.dna_station.proofs.Bounds.Stations.{IsSound, sound_beside, sound_event, sound_counted, sound_sending}
use Rattle.dna_station.proofs.Bounds.Receipts.{sound_receipt, within}

abbrev pub SoundSide : (own other : Half Node SentUnit) → List Record → Type 0
SoundSide own other made = IsSound own.state own.sent other.sent

module _ (own other : Half Node SentUnit) (h : IsSound own.state own.sent other.sent) (theirs : IsSound other.state other.sent own.sent) where
  pub sound_own : (r : Record) (left : Half Node SentUnit) → Happens of_period own other r left → IsSound left.state left.sent other.sent
  sound_own r left (Nothing event none) = h
  sound_own r left (Counted bytes reason) = sound_counted own.state own.sent other.sent reason h
  sound_own r left (Unheard bytes) = h
  sound_own r left (UserEvent event allowed) = sound_event own.state own.sent other.sent event h
  sound_own r left Boots = sound_event own.state own.sent other.sent Halt h
  sound_own r left (Sending bytes m read allowed) = sound_sending own.state own.sent other.sent bytes m h read allowed
  sound_own r left (Receipt hint fate bytes unit arrival there ahead of_unit allowed) =
      sound_receipt own.state own.sent other.sent h theirs.messages hint unit there ahead bytes arrival (is_kept fate) of_unit allowed

  pub sound_other : (r : Record) (left : Half Node SentUnit) → Happens of_period own other r left → IsSound other.state other.sent left.sent
  sound_other r left (Nothing event none) = theirs
  sound_other r left (Counted bytes reason) = theirs
  sound_other r left (Unheard bytes) = theirs
  sound_other r left (UserEvent event allowed) = theirs
  sound_other r left Boots = theirs
  sound_other r left (Sending bytes m read allowed) = sound_beside other.state other.sent own.sent (unit_of own.state.station bytes m) theirs
  sound_other r left (Receipt hint fate bytes unit arrival there ahead of_unit allowed) = theirs

pub new_sound : (head : Head) → IsSound (new_node head) [] []
new_sound head = record {
  ordered = new_ordered;
  none = λ e. absurd cc;
  met = omega arith;
  told = λ i u at. absurd cc;
  messages = none_numbered view limits [];
  present = present_new view limits [] [] 0 (numbers_of new_station) refl refl (omega arith) (λ i u at same. absurd cc);
}

sound_kept : IsKeptBySides SoundSide
sound_kept = record {
  own = λ own other left made of_other r h theirs what. sound_own own other h theirs r left what;
  other = λ own other left made of_other r h theirs what. sound_other own other h theirs r left what;
}

abbrev pub BothSound : World Node SentUnit → List Record → List Record → Type 0
BothSound = OfBoth SoundSide

pub start_sound : (head_a head_b : Head) → BothSound (start head_a head_b) [] []
start_sound head_a head_b = record { of_a = new_sound head_a; of_b = new_sound head_b }

pub both_sound_kept : IsKept pair BothSound
both_sound_kept = kept_by_both SoundSide sound_kept

pub sound : (head_a head_b : Head) (w : World Node SentUnit) (of_a of_b : List Record) → Run pair (start head_a head_b) of_a of_b w →
    BothSound w of_a of_b
sound head_a head_b = after_run SoundSide sound_kept head_a head_b (start_sound head_a head_b)

-- a sound node is bounded
pub sound_bounded : (own other : Half Node SentUnit) → IsSound own.state own.sent other.sent → IsSound other.state other.sent own.sent →
    IsBounded own other
sound_bounded own other h theirs = record {
  ordered = h.ordered;
  within = λ k unit there ahead allowed. within own.state own.sent other.sent h theirs.messages k unit there ahead other.state.station.period
      (theirs.told k unit there) allowed;
}
