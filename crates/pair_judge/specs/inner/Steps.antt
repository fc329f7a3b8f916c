-- What is said of a step of both layers.
use Rattle.std.specs.Prelude.{◌≡◌, ℕ, List, [], ◌∷◌, ◌++◌, Option}
use Rattle.two_nodes.specs.Nodes.Answer.{Sends, Refuses}
use Rattle.ddcmp_msg.specs.Reading.{reading}
use Rattle.dna_station.specs.declared.head.Head.{Head}
use Rattle.dna_station.specs.declared.tag.Tag.{Tag}
use Rattle.dna_links.specs.declared.tag.LinkTag.{LinkTag}
use Rattle.dna_station.specs.declared.refusal.StepRefusal.{StepRefusal}
use Rattle.dna_station.specs.Book.{ArrivalValue, Sound, HeaderBad, DataBad}
use Rattle.dna_node.specs.WireLayers.{WireLayers, LayersTag, WireLayersUnit}
use Rattle.pair_judge.specs.declared.line.Line.{Line}
use Rattle.pair_judge.specs.declared.step_fault.StepFault.{StepFault}
use Rattle.pair_judge.specs.declared.step_fault.StepFault.TheVariants.{Refused, OutOfMemory}
use Rattle.pair_judge.specs.inner.Lines.{held}
use Rattle.pair_judge.specs.inner.Receipts.{node_at}
use Rattle.pair_judge.specs.inner.Wire.{judge_sent_step, JudgeTop}

-- a fact of the refusal, where a step was refused
abbrev pub IfRefused : (StepRefusal → Type 0) → StepFault → Type 0
IfRefused P (Refused refusal) = P refusal
IfRefused P OutOfMemory = Unit {0}

-- what comes to the station, with the tag of its packet
abbrev pub with_link : Option LinkTag → ArrivalValue Tag → ArrivalValue LayersTag
with_link link (Sound m tag) = Sound m (record { station = tag; link = link })
with_link link HeaderBad = HeaderBad
with_link link DataBad = DataBad

module _ (top : JudgeTop) where
  -- These bytes were sent: the node goes on from the old layers to the new ones, and its unit is last on the line
  pub record IsSent (old new : WireLayers) (before after : Line) (bytes : List ℕ) : Type 0 where
    pub unit : WireLayersUnit
    pub step : (head : Head) (front : ℕ) → judge_sent_step top (node_at head old front) bytes (reading bytes) ≡ Sends (node_at head new front) unit
    pub units : held after ≡ held before ++ unit ∷ []

  -- they can't be, for this reason
  abbrev pub IsNotSent : WireLayers → List ℕ → StepRefusal → Type 0
  IsNotSent old bytes refusal = (head : Head) (front : ℕ) → judge_sent_step top (node_at head old front) bytes (reading bytes) ≡ Refuses refusal
