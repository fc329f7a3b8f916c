-- Who is accused, and the refusal as the JSON object that comes first of all that is said of it.
use Rattle.std.specs.Prelude.{◌≡◌, ℕ, ◌+◌, Bool, true, false, List, ◌++◌, Option, Some, None, codes}
use Rattle.std.specs.Fmt.{decimal}
use Rattle.wire_base.specs.Side.{side_letter}
use Rattle.wire_base.specs.declared.side.Side.{Side}
use Rattle.wire_base.specs.declared.side.Side.TheVariants.{A}
use Rattle.capture_record.specs.declared.entry.Entry.{Entry}
use Rattle.capture_record.specs.declared.entry.Entry.TheVariants.{Sent, Received, Noise, Composed}
use Rattle.pair_judge.specs.Reason.{reason_blame, reason_name, reason_number}
use Rattle.pair_judge.specs.declared.end_verdict.Accused.{Accused}
use Rattle.pair_judge.specs.declared.end_verdict.Accused.TheVariants as ends
use Rattle.pair_judge.specs.declared.reason.Reason.{Reason}
use Rattle.pair_judge.specs.declared.reason_kind.Blame.{Blame}
use Rattle.pair_judge.specs.declared.reason_kind.Blame.TheVariants as blame
use Rattle.pair_judge.specs.declared.reason_kind.Matter.{Matter}
use Rattle.pair_judge.specs.declared.reason_kind.Matter.TheVariants as matter
use Rattle.why.specs.declared.accusation.Accusation.{Accusation}
use Rattle.why.specs.declared.accusation.Accusation.TheVariants.{Sender, OtherSender, Hints, Line, Claim, Nobody, User}
use Rattle.why.specs.declared.accusation.Accusation.TheVariants.{Starter, Chooser, OtherEnd, Queue, DcWaited, Running, OtherNode as NamesOther}
use Rattle.why.specs.declared.accusation.Accusation.TheVariants.{SenderUnlessQueue, UserUnlessQueue, OtherEndUnlessQueue}
use Rattle.why.specs.declared.accusation.Excuse.{Excuse}
use Rattle.why.specs.declared.accusation.Excuse.TheVariants as excuse
use Rattle.why.specs.declared.end_text.EndRefusal.{EndRefusal}
use Rattle.why.specs.declared.other_node.OtherNode.{OtherNode}
use Rattle.why.specs.declared.refused_line.RefusedLine.{RefusedLine}
use Rattle.why.specs.declared.why_text.Refusal.{Refusal}

-- a user's record begins with `u`
abbrev pub is_of_user : Entry → Bool
is_of_user Sent = false
is_of_user (Received fate hint) = false
is_of_user Noise = false
is_of_user Composed = false
is_of_user entry = true

-- a link that is not there, or not in the right phase, is the sender's fault, or the user's in a user's record
abbrev pub sender_or_user : (of_user : Bool) → Accusation
sender_or_user true = User
sender_or_user false = Sender

-- what came was sent by the other node, and is read by the heads of both
abbrev pub accuses_nodes : Entry → Accusation
accuses_nodes (Received fate hint) = OtherSender
accuses_nodes entry = Sender

-- A row for each kind of fault
abbrev pub accuses_by : Blame → Entry → Accusation
accuses_by blame.Sender entry = Sender
accuses_by blame.SenderOrHeads entry = accuses_nodes entry
accuses_by blame.SenderOrUser entry = sender_or_user (is_of_user entry)
accuses_by blame.Hints entry = Hints
accuses_by blame.LineOrCaptures entry = Line
accuses_by blame.Claim entry = Claim
accuses_by blame.Nobody entry = Nobody
accuses_by blame.Starter entry = Starter
accuses_by blame.Chooser entry = Chooser

-- by whose fault the reason is
abbrev pub accuses : Reason → Entry → Accusation
accuses reason = accuses_by (reason_blame reason)

-- of one end alone: the other end, where what came of it is wrong
abbrev pub end_accuses : Accused → Reason → Entry → Accusation
end_accuses ends.ThisEnd reason entry = accuses reason entry
end_accuses ends.OtherEnd reason entry = OtherEnd

-- the same, but of a node that has no queue between NSP and DDCMP
abbrev pub unless_queue : Accusation → Accusation
unless_queue Sender = SenderUnlessQueue
unless_queue User = UserUnlessQueue
unless_queue OtherEnd = OtherEndUnlessQueue
unless_queue accusation = accusation

-- a row for what is known of nodes with queues
abbrev pub excused : Excuse → Accusation → Accusation
excused excuse.Refused accusation = accusation
excused excuse.Perhaps accusation = unless_queue accusation
excused excuse.Accepted accusation = Queue
excused excuse.DcWaited accusation = DcWaited

-- whether records told before what the rule asks for
abbrev pub if_begun : (has_begun : Bool) → Accusation → Accusation
if_begun true accusation = accusation
if_begun false accusation = Running

-- nobody, where the packet names another node: the line may lead to a router; but for heads that do not pair
abbrev pub naming_other : OtherNode → Accusation → Accusation
naming_other other OtherSender = OtherSender
naming_other other accusation = NamesOther other

abbrev pub naming : Option OtherNode → Accusation → Accusation
naming None accusation = accusation
naming (Some other) accusation = naming_other other accusation

-- Who is accused of a rule about this: nobody of one that asks for a state of the line, or for a link, which the recording has not told; only of one
-- that a queue may explain it matters what is known of nodes with queues; and only of addresses whether they are those of another node
abbrev pub accused_by : Matter → (has_begun : Bool) → Excuse → Option OtherNode → Accusation → Accusation
accused_by matter.LinkNow has_begun excuse other accusation = if_begun has_begun (excused excuse accusation)
accused_by matter.State has_begun excuse other accusation = if_begun has_begun accusation
accused_by matter.Station has_begun excuse other accusation = if_begun has_begun accusation
accused_by matter.Nodes has_begun excuse other accusation = naming other accusation
accused_by matter has_begun excuse other accusation = accusation

abbrev pub accusation_name : Accusation → List ℕ
accusation_name Sender = codes "sender"
accusation_name OtherSender = codes "sender"
accusation_name Hints = codes "hints"
accusation_name Line = codes "line"
accusation_name Claim = codes "claim"
accusation_name Nobody = codes "nobody"
accusation_name Queue = codes "nobody"
accusation_name DcWaited = codes "nobody"
accusation_name User = codes "user"
accusation_name Starter = codes "user"
accusation_name Chooser = codes "user"
accusation_name OtherEnd = codes "other end"
accusation_name SenderUnlessQueue = codes "sender_without_queue"
accusation_name UserUnlessQueue = codes "user_without_queue"
accusation_name OtherEndUnlessQueue = codes "other_end_without_queue"
accusation_name Running = codes "nobody"
accusation_name (NamesOther other) = codes "nobody"

-- `{"what": "refused", "side": "a", "record": 21, "line": 23`: record i is on line i + 2
abbrev pub place_keys : Side → (place : ℕ) → List ℕ
place_keys side place =
    codes "{\"what\": \"refused\", \"side\": \"" ++ (side_letter side ++ (codes "\", \"record\": " ++ (decimal place
    ++ (codes ", \"line\": " ++ decimal (place + 2)))))

-- `, "number": 8, "name": "WrongResponse", "accuses": "sender"}`, and an LF
abbrev pub reason_keys : Reason → Accusation → List ℕ
reason_keys reason accusation =
    codes ", \"number\": " ++ (decimal (reason_number reason) ++ (codes ", \"name\": \"" ++ (reason_name reason
    ++ (codes "\", \"accuses\": \"" ++ (accusation_name accusation ++ codes "\"}\n")))))

abbrev pub refused_line : RefusedLine → List ℕ
refused_line r = place_keys r.side r.record_number ++ reason_keys r.reason r.accusation

-- ---- of a pair, and of one end, which is side a

abbrev pub line_of : Refusal → RefusedLine
line_of r = record { side = r.side; record_number = r.place; reason = r.reason; accusation = r.accusation }

abbrev pub line_of_end : EndRefusal → RefusedLine
line_of_end r = record { side = A; record_number = r.place; reason = r.reason; accusation = r.accusation }

-- a text whose first line this is
pub record BeginsWith (front text : List ℕ) : Type 0 where
  pub rest : List ℕ
  pub is : text ≡ front ++ rest
