-- What `--all` goes by: what a refusal leads to, and what is not judged any more behind it.
use Rattle.std.specs.Prelude.{◌≡◌, ◌++◌, ℕ, Bool, true, false, List, Option, Some, None, not}
use Rattle.wire_base.specs.declared.side.Side.TheVariants.{A, B}
use Rattle.link_groups.specs.Groups.{AreGroupsOf, Binding}
use Rattle.link_groups.specs.LeftOut as groups
use Rattle.link_groups.specs.declared.own_address.OwnAddress.{OwnAddress}
use Rattle.leaving_out.specs.Texts.{Binds}
use Rattle.pair_judge.specs.Reason.{reason_matter}
use Rattle.pair_judge.specs.declared.reason.Reason.{Reason}
use Rattle.pair_judge.specs.declared.reason_kind.Matter.{Matter}
use Rattle.pair_judge.specs.declared.reason_kind.Matter.TheVariants as matter
use Rattle.all_answer.specs.declared.all_left.Beyond.{Beyond}
use Rattle.all_answer.specs.declared.all_left.Beyond.TheVariants.{Ends, AnyPeriod, UnreadPackets, UnreadMessages, Links}
use Rattle.all_answer.specs.declared.all_left.NotJudged.{NotJudged}

-- Of a rule of the links these are left out; of a period, a packet or a message that can't be read, that is not asked any more; and any other ends it
abbrev pub beyond : Matter → Beyond
beyond matter.Soundness = Ends
beyond matter.Hints = Ends
beyond matter.Passage = Ends
beyond matter.State = Ends
beyond matter.Response = Ends
beyond matter.Station = Ends
beyond matter.Period = AnyPeriod
beyond matter.Packet = UnreadPackets
beyond matter.Nodes = Links
beyond matter.Nsp = UnreadMessages
beyond matter.LinkNow = Links
beyond matter.Link = Links

abbrev pub beyond_of : Reason → Beyond
beyond_of reason = beyond (reason_matter reason)

-- these labels are those of the groups that both texts bind
abbrev pub AreBoundByBoth : (text_a text_b : Option (List ℕ)) → (labels : List ℕ) → Type 0
AreBoundByBoth text_a text_b labels =
    (of_a : List Binding) × (of_b : List Binding) × Binds A false text_a of_a × Binds B false text_b of_b × AreGroupsOf (of_a ++ of_b) labels

-- nothing is left out yet of these groups, and all is asked
pub record JudgesAll (labels : List ℕ) (all : NotJudged) : Type 0 where
  pub labels_are : all.left.labels ≡ labels
  pub none : (own : OwnAddress) → ¬ groups.IsLeftOut all.left.left_out own
  pub packets : all.unread_packets ≡ false
  pub messages : all.unread_messages ≡ false
  pub periods : all.any_period ≡ false

-- What is not judged behind a refusal that leads to this, about the links of this address; and whether the judgement goes on, since more is left out
abbrev pub Leaves : Beyond → Option OwnAddress → (old new : NotJudged) → (goes_on : Bool) → Type 0
Leaves Ends of old new goes_on = (new ≡ old) × (goes_on ≡ false)
Leaves AnyPeriod of old new goes_on = (new ≡ record old { any_period = true }) × (goes_on ≡ not old.any_period)
Leaves UnreadPackets of old new goes_on = (new ≡ record old { unread_packets = true }) × (goes_on ≡ not old.unread_packets)
Leaves UnreadMessages of old new goes_on = (new ≡ record old { unread_messages = true }) × (goes_on ≡ not old.unread_messages)
Leaves Links None old new goes_on = (new ≡ old) × (goes_on ≡ false)
Leaves Links (Some of) old new goes_on = (new ≡ record old { left = new.left }) × groups.Leaves of old.left new.left goes_on
