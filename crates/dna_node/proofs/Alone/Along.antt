-- What lets an end alone go along with a node of the pair, over any machine: the end's state is the node's with the other end's part forgotten, and
-- what its user does, what it sends and what comes goes along, but for what only the rules on periods and partners refuse.
use Rattle.std.proofs.Common.{◌≡◌, Bool, true, false, Result, Ok, Err}
use Rattle.ddcmp_msg.specs.Message.{MessageValue}
use Rattle.capture_record.specs.declared.fate.Fate.{Fate}
use Rattle.capture_record.specs.declared.event.Event.{Event}
use Rattle.dna_station.specs.declared.refusal.StationRefusal.TheVariants.{CrossedPeriod}
use Rattle.dna_station.specs.declared.refusal.StepRefusal.{StepRefusal}
use Rattle.dna_station.specs.declared.refusal.StepRefusal.TheVariants.{Station as OfStation}
use Rattle.dna_station.specs.Book.{Sound, HeaderBad, DataBad}
use Rattle.dna_station.specs.Machine.{Machine, NodeOf}
use Rattle.dna_node.specs.Alone.{EndOf, is_seen_alone}

module _ {S : Type 0} (forget : S → S) where
  abbrev pub forget_result : Result S StepRefusal → Result S StepRefusal
  forget_result (Ok s) = Ok (forget s)
  forget_result (Err refusal) = Err refusal

  abbrev pub forget_node : NodeOf S → NodeOf S
  forget_node n = record { head = n.head; station = forget n.station; front = n.front }

  -- what becomes of the node of the pair, and of the one alone
  abbrev pub Along : Result S StepRefusal → Result S StepRefusal → Type 0
  Along (Ok s) o = o ≡ Ok (forget s)
  Along (Err refusal) o = is_seen_alone refusal ≡ true → o ≡ Err refusal

-- a message is sent: what is left of the node, whatever is known of the unit
abbrev pub left_sent : {S K : Type 0} → Result (S × K) StepRefusal → Result S StepRefusal
left_sent (Ok after) = Ok after.0
left_sent (Err refusal) = Err refusal

pub record GoesAlong {S K : Type 0} (judge : Machine S K) (one : EndOf S K) (forget : S → S) : Type 0 where
  -- whether the rule on periods lets a message pass; else it is refused for that
  pub meets : S → MessageValue → K → Bool
  pub crossed : (s : S) (m : MessageValue) (known : K) (fate : Fate) → meets s m known ≡ false →
      judge.arrives s (Sound m known) fate ≡ Err (OfStation CrossedPeriod)
  pub user : (s : S) (event : Event) → one.machine.user (forget s) event ≡ forget_result forget (judge.user s event)
  pub sends : (s : S) (m : MessageValue) → left_sent (one.machine.sends (forget s) m) ≡ forget_result forget (left_sent (judge.sends s m))
  pub sound : (s : S) (m : MessageValue) (known : K) (fate : Fate) →
      Along forget (judge.arrives s (Sound m known) fate) (one.machine.arrives (forget s) (Sound m one.unknown) fate)
  pub header_bad : (s : S) (fate : Fate) → one.machine.arrives (forget s) HeaderBad fate ≡ forget_result forget (judge.arrives s HeaderBad fate)
  pub data_bad : (s : S) (fate : Fate) → one.machine.arrives (forget s) DataBad fate ≡ forget_result forget (judge.arrives s DataBad fate)
  -- what is asked of the other end looks at nothing that is forgotten
  pub wrong_unit : (s : S) (m : MessageValue) → one.wrong_unit (forget s) m ≡ one.wrong_unit s m
  pub wrong_taken : (s : S) (m : MessageValue) → one.wrong_taken (forget s) m ≡ one.wrong_taken s m
