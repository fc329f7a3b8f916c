-- The numbers and names of the reasons, what they are about, by whose fault they are, and which reason a cause has.
use Rattle.std.specs.Prelude.{ℕ, Bool, true, false, List, codes}
use Rattle.dna_station.specs.declared.link_refusal.LinkRefusal.{LinkRefusal}
use Rattle.dna_station.specs.declared.link_refusal.LinkRefusal.TheVariants as links
use Rattle.dna_station.specs.declared.refusal.StationRefusal.{StationRefusal}
use Rattle.dna_station.specs.declared.refusal.StationRefusal.TheVariants as station
use Rattle.dna_station.specs.declared.refusal.StepRefusal.{StepRefusal}
use Rattle.dna_station.specs.declared.refusal.StepRefusal.TheVariants as steps
use Rattle.dna_node.specs.declared.finding.Cause.{Cause}
use Rattle.dna_node.specs.declared.finding.Cause.TheVariants as causes
use Rattle.pair_judge.specs.declared.reason.Reason.{Reason}
use Rattle.pair_judge.specs.declared.reason.Reason.TheVariants.{NotAMessage, HintOrder, NoSuchUnit, NoOrder, Undetected, WrongState, WrongNumber}
use Rattle.pair_judge.specs.declared.reason.Reason.TheVariants.{WrongResponse, WindowFull, Changed, NoCause, WrongKeep, CrossedPeriod, WrongUserEvent}
use Rattle.pair_judge.specs.declared.reason.Reason.TheVariants.{BadPacket, WrongNode, BadNsp, NoLink, LinkState, WrongSegment, WrongAck}
use Rattle.pair_judge.specs.declared.reason.Reason.TheVariants.{SegmentTooLong, LinkWindowFull, WrongDelivery, CrossedLink, AddressInUse, NotNoise}
use Rattle.pair_judge.specs.declared.reason_kind.Blame.{Blame}
use Rattle.pair_judge.specs.declared.reason_kind.Blame.TheVariants as blame
use Rattle.pair_judge.specs.declared.reason_kind.Matter.{Matter}
use Rattle.pair_judge.specs.declared.reason_kind.Matter.TheVariants as matter

-- The table of the reasons: the number and the name that are printed, what the rule is about, and by whose fault it is
abbrev pub reason_entry : Reason → ℕ × List ℕ × Matter × Blame
reason_entry NotAMessage = (1, codes "NotAMessage", matter.Soundness, blame.Sender)
reason_entry HintOrder = (2, codes "HintOrder", matter.Hints, blame.Hints)
reason_entry NoSuchUnit = (3, codes "NoSuchUnit", matter.Hints, blame.Hints)
reason_entry NoOrder = (4, codes "NoOrder", matter.Hints, blame.Hints)
reason_entry Undetected = (5, codes "Undetected", matter.Passage, blame.LineOrCaptures)
reason_entry WrongState = (6, codes "WrongState", matter.State, blame.Sender)
reason_entry WrongNumber = (7, codes "WrongNumber", matter.Station, blame.Sender)
reason_entry WrongResponse = (8, codes "WrongResponse", matter.Response, blame.Sender)
reason_entry WindowFull = (9, codes "WindowFull", matter.Station, blame.Sender)
reason_entry Changed = (10, codes "Changed", matter.Station, blame.Sender)
reason_entry NoCause = (11, codes "NoCause", matter.Station, blame.Sender)
reason_entry WrongKeep = (12, codes "WrongKeep", matter.Station, blame.Claim)
reason_entry CrossedPeriod = (13, codes "CrossedPeriod", matter.Period, blame.Nobody)
reason_entry WrongUserEvent = (14, codes "WrongUserEvent", matter.Station, blame.Starter)
reason_entry BadPacket = (15, codes "BadPacket", matter.Packet, blame.Sender)
reason_entry WrongNode = (16, codes "WrongNode", matter.Nodes, blame.SenderOrHeads)
reason_entry BadNsp = (17, codes "BadNsp", matter.Nsp, blame.Sender)
reason_entry NoLink = (18, codes "NoLink", matter.LinkNow, blame.SenderOrUser)
reason_entry LinkState = (19, codes "LinkState", matter.LinkNow, blame.SenderOrUser)
reason_entry WrongSegment = (20, codes "WrongSegment", matter.LinkNow, blame.Sender)
reason_entry WrongAck = (21, codes "WrongAck", matter.LinkNow, blame.Sender)
reason_entry SegmentTooLong = (22, codes "SegmentTooLong", matter.Link, blame.Sender)
reason_entry LinkWindowFull = (23, codes "LinkWindowFull", matter.Link, blame.Sender)
reason_entry WrongDelivery = (24, codes "WrongDelivery", matter.Link, blame.Claim)
reason_entry CrossedLink = (25, codes "CrossedLink", matter.LinkNow, blame.Nobody)
reason_entry AddressInUse = (26, codes "AddressInUse", matter.Link, blame.Chooser)
reason_entry NotNoise = (27, codes "NotNoise", matter.Soundness, blame.Claim)

abbrev pub reason_number : Reason → ℕ
reason_number reason = (reason_entry reason).0

abbrev pub reason_name : Reason → List ℕ
reason_name reason = (reason_entry reason).1

abbrev pub reason_matter : Reason → Matter
reason_matter reason = (reason_entry reason).2

-- its bytes are not those of its unit and show no damage
abbrev pub is_passage : Matter → Bool
is_passage matter.Passage = true
is_passage matter = false

abbrev pub is_of_changed_bytes : Reason → Bool
is_of_changed_bytes reason = is_passage (reason_matter reason)

abbrev pub reason_blame : Reason → Blame
reason_blame reason = (reason_entry reason).3

abbrev pub reason_of_station : StationRefusal → Reason
reason_of_station station.WrongState = WrongState
reason_of_station station.WrongNumber = WrongNumber
reason_of_station station.WrongResponse = WrongResponse
reason_of_station station.WindowFull = WindowFull
reason_of_station station.Changed = Changed
reason_of_station station.NoCause = NoCause
reason_of_station station.WrongKeep = WrongKeep
reason_of_station station.CrossedPeriod = CrossedPeriod
reason_of_station station.WrongUserEvent = WrongUserEvent

abbrev pub reason_of_links : LinkRefusal → Reason
reason_of_links links.WrongNode = WrongNode
reason_of_links links.NoLink = NoLink
reason_of_links links.LinkState = LinkState
reason_of_links links.WrongSegment = WrongSegment
reason_of_links links.WrongAck = WrongAck
reason_of_links links.SegmentTooLong = SegmentTooLong
reason_of_links links.LinkWindowFull = LinkWindowFull
reason_of_links links.WrongDelivery = WrongDelivery
reason_of_links links.CrossedLink = CrossedLink
reason_of_links links.AddressInUse = AddressInUse

abbrev pub reason_of_step : StepRefusal → Reason
reason_of_step steps.NotAMessage = NotAMessage
reason_of_step steps.HintOrder = HintOrder
reason_of_step steps.Undetected = Undetected
reason_of_step (steps.Station refusal) = reason_of_station refusal
reason_of_step steps.BadPacket = BadPacket
reason_of_step steps.BadNsp = BadNsp
reason_of_step (steps.Links refusal) = reason_of_links refusal
reason_of_step steps.NotNoise = NotNoise

abbrev pub reason_of : Cause → Reason
reason_of (causes.Step refusal) = reason_of_step refusal
reason_of causes.NoSuchUnit = NoSuchUnit
reason_of causes.NoOrder = NoOrder
