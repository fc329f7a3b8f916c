-- What holds of a station of which not all is known.
use Rattle.std.proofs.Common.{◌≡◌, ℕ, ◌+◌, ◌-◌, ◌<◌, ◌≤◌, true, Option, Some, None, List, length, ◌⊎◌}
use Rattle.std.specs.Prelude.{slice_get}
use Rattle.dna_links.specs.declared.tag.LinkTag.{LinkTag}
use Rattle.dna_station.specs.declared.state.State.TheVariants.{Halted, Running}
use Rattle.dna_station.specs.Station.{wire}
use Rattle.dna_station.specs.WireStation.{HeldPacket}
use Rattle.part_station.specs.declared.numbers.Numbers.{Numbers}
use Rattle.part_station.specs.Open.{SeenPacket, Open, nothing_seen}
use Rattle.part_station.specs.Cases.{Known, Cases}
use Rattle.part_station.proofs.Like.{Variables, IsLike}

-- how the bounds lie to each other
pub record IsKept (n : Numbers) : Type 0 where
  pub near : n.most_acknowledged ≤ n.least_acknowledged + 255
  pub few : n.most_given ≤ n.most_acknowledged + 255
  pub below : n.most_acknowledged ≤ n.least_given
  pub above : (t : ℕ) → n.next ≡ Some t → n.most_acknowledged < t
  pub one : n.next ≡ None → n.most_given ≤ n.least_acknowledged + 255

-- A, N and T are among these, where A is this number but for a multiple of 256
pub record AreAmong (n : Numbers) (v : Variables) (a : ℕ) : Type 0 where
  pub acknowledged : v.acknowledged ≡ wire a
  pub least : n.least_acknowledged ≤ a
  pub most : a ≤ n.most_acknowledged
  pub least_given : n.least_given ≤ a + length v.held
  pub most_given : a + length v.held ≤ n.most_given
  pub next : (t : ℕ) → n.next ≡ Some t → t ≡ a + 1 + v.ahead

-- data that were seen and are not acknowledged are those that it holds
abbrev pub HoldsSeen : List SeenPacket → List (HeldPacket LinkTag) → ℕ → Type 0
HoldsSeen seen held a = (i : ℕ) (packet : SeenPacket) → slice_get seen i ≡ Some packet → a < packet.number →
    (h : HeldPacket LinkTag) × (slice_get held (packet.number - a - 1) ≡ Some h) × (h.body ≡ packet.body)

pub record HasNumbers (seen : List SeenPacket) (n : Numbers) (v : Variables) : Type 0 where
  pub kept : IsKept n
  pub a : ℕ
  pub among : AreAmong n v a
  pub seen_held : HoldsSeen seen v.held a

abbrev pub MayHave : List SeenPacket → Option Numbers → Variables → Type 0
MayHave seen None v = seen ≡ nothing_seen
MayHave seen (Some n) v = HasNumbers seen n v

-- any NAK may have a cause
pub record IsOpen (w : Known) (o : Open) : Type 0 where
  pub running : w.variables.state ≡ Running
  pub received : (r : ℕ) → o.received ≡ Some r → w.variables.received ≡ r
  pub numbers : MayHave o.seen o.numbers w.variables

-- A is one number
abbrev pub IsExact : Option Numbers → Type 0
IsExact None = ⊥
IsExact (Some n) = n.most_acknowledged ≤ n.least_acknowledged

-- it is one of these; where one lies ahead, A is one number
pub data IsCase (w : Known) (c : Cases) : Type 0 where
  InHalted : c.halted ≡ true → w.variables.state ≡ Halted → IsCase w c
  FromIstrt : (k : Known) → c.istrt ≡ Some k → IsLike w k → IsCase w c
  FromAstrt : (k : Known) → c.astrt ≡ Some k → IsLike w k → IsCase w c
  FromRunning : (o : Open) → c.running ≡ Some o → IsOpen w o → (c.ahead ≡ None) ⊎ IsExact o.numbers → IsCase w c
  IsAhead : (o : Open) → c.ahead ≡ Some o → IsOpen w o → IsExact o.numbers → IsCase w c
