-- What became of a receipt, beside all units that the other side sent.
use Rattle.std.specs.Prelude.{◌≡◌, ℕ, Bool, true, false, Some, None, Ok, Err, List, slice_get}
use Rattle.ddcmp_msg.specs.Reading.{reading}
use Rattle.capture_record.specs.declared.fate.Fate.{Fate}
use Rattle.dna_station.specs.declared.head.Head.{Head}
use Rattle.dna_station.specs.declared.tag.Tag.{Tag}
use Rattle.dna_station.specs.Book.{ArrivalValue, Sound, HeaderBad, DataBad}
use Rattle.dna_node.specs.WireLayers.{WireLayers, WireLayersNode, WireLayersUnit}
use Rattle.pair_judge.specs.declared.line.Line.{Line}
use Rattle.pair_judge.specs.declared.receipt.Receipt.{Receipt}
use Rattle.pair_judge.specs.declared.receipt.Receipt.TheVariants.{Done, Waits, Fails}
use Rattle.pair_judge.specs.inner.Lines.{Shows}
use Rattle.pair_judge.specs.Counting.{shows_damage}
use Rattle.pair_judge.specs.inner.Wire.{judge_receives, JudgeTop}

-- a node at this front
abbrev pub node_at : Head → WireLayers → ℕ → WireLayersNode
node_at head layers front = record { head = head; station = layers; front = front }

-- whether what came is damaged
abbrev pub is_damage : ArrivalValue Tag → Bool
is_damage (Sound m tag) = false
is_damage HeaderBad = true
is_damage DataBad = true

-- the node of a side whose other side's line is this
abbrev pub node_of : Head → WireLayers → Line → WireLayersNode
node_of head layers line = node_at head layers line.gone

-- Both layers before and after a receipt, and the line that leads to it
pub record LayersMove : Type 0 where
  pub old : WireLayers
  pub new : WireLayers
  pub before : Line
  pub after : Line

abbrev pub layers_move : WireLayers → WireLayers → Line → Line → LayersMove
layers_move old new before after = record { old = old; new = new; before = before; after = after }

-- What came: the hint, what became of its packet, and the bytes
pub record Came : Type 0 where
  pub hint : ℕ
  pub fate : Fate
  pub bytes : List ℕ

abbrev pub came : ℕ → Fate → List ℕ → Came
came hint fate bytes = record { hint = hint; fate = fate; bytes = bytes }

-- a fact of a receipt that can't be made
abbrev pub IfFails : Receipt → Type 0 → Type 0
IfFails (Done damaged) P = Unit {0}
IfFails Waits P = Unit {0}
IfFails (Fails refusal) P = P

-- a fact of a receipt that shows no damage
abbrev pub IfSound : Receipt → Type 0 → Type 0
IfSound (Done damaged) P = damaged ≡ false → P
IfSound Waits P = Unit {0}
IfSound (Fails refusal) P = Unit {0}

module _ (top : JudgeTop) where
  -- the unit of the hint was sent, and the node goes by it: to these layers and this line
  pub record IsReceived (m : LayersMove) (c : Came) (sent : List WireLayersUnit) : Type 0 where
    pub unit : WireLayersUnit
    pub was_sent : slice_get sent c.hint ≡ Some unit
    pub step : (head : Head) → judge_receives top (node_of head m.old m.before) c.hint c.fate c.bytes unit ≡ Ok (node_of head m.new m.after)
    pub shows : Shows m.after sent

  abbrev pub ReceiptIs : Receipt → LayersMove → Came → List WireLayersUnit → Type 0
  ReceiptIs (Done damaged) m c sent = IsReceived m c sent × (damaged ≡ shows_damage (reading c.bytes))
  -- the unit was not sent yet
  ReceiptIs Waits m c sent = slice_get sent c.hint ≡ None
  ReceiptIs (Fails refusal) m c sent =
      (unit : WireLayersUnit) × (slice_get sent c.hint ≡ Some unit)
      × ((head : Head) → judge_receives top (node_of head m.old m.before) c.hint c.fate c.bytes unit ≡ Err refusal)
