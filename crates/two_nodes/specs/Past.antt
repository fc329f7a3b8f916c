-- The past of a record, and what it means that a record offends
use Rattle.std.specs.Prelude.{◌≡◌, ℕ, ◌<◌, ◌≤◌, Bool, true, false, Option, Some, None, List, All, count_by, length, take, slice_get}
use Rattle.two_nodes.specs.Nodes.{Answer, Node, Nodes, World, Run, advance}
use Rattle.two_nodes.specs.Nodes.Outcome.{Refused}
use Rattle.two_nodes.specs.Nodes.Answer.{Refuses, Goes, Sends, Reads}

-- An answer agrees with what the record alone tells. What is refused at once names no unit
abbrev pub AgreesWith : {S U Z : Type 0} → Answer S U Z → Option ℕ → Bool → Type 0
AgreesWith (Refuses reason) name sending = name ≡ None
AgreesWith (Goes next) name sending = (name ≡ None) × (sending ≡ false)
AgreesWith (Sends next unit) name sending = (name ≡ None) × (sending ≡ true)
AgreesWith (Reads k then) name sending = (name ≡ Some k) × (sending ≡ false)

-- In each state, the node's answer to a record agrees with what the record tells
abbrev pub Tells : {S R U Z : Type 0} → Node S R U Z → (R → Option ℕ) → (R → Bool) → Type 0
Tells {S} {R} node named sends = (state : S) (r : R) → AgreesWith (node state r) (named r) (sends r)

-- Both nodes do
pub record BothTell {S R U Z : Type 0} (nodes : Nodes S R U Z) : Type 0 where
  pub of_a : Tells nodes.node_a nodes.named nodes.sends
  pub of_b : Tells nodes.node_b nodes.named nodes.sends

-- How many units these records send
abbrev pub sent_by : {S R U Z : Type 0} → Nodes S R U Z → List R → ℕ
sent_by nodes xs = count_by nodes.sends xs

-- Each unit that one of these records names is among the first `count` units
abbrev pub NamesBelow : {S R U Z : Type 0} → Nodes S R U Z → ℕ → List R → Type 0
NamesBelow nodes count xs = All (λ r. (k : ℕ) → nodes.named r ≡ Some k → k < count) xs

-- Of these records of a and of b, which are beginnings of all, each unit that one side names is sent by the other
pub record IsClosed {S R U Z : Type 0} (nodes : Nodes S R U Z) (xs ys : List R) : Type 0 where
  pub of_a : NamesBelow nodes (sent_by nodes ys) xs
  pub of_b : NamesBelow nodes (sent_by nodes xs) ys

-- The first i records of a and the first j of b are closed, hold the records of a before record n, and send the unit that
-- record n names
pub record HoldsCauses {S R U Z : Type 0} (nodes : Nodes S R U Z) (xs ys : List R) (n i j : ℕ) : Type 0 where
  pub within_a : i ≤ length xs
  pub within_b : j ≤ length ys
  pub closed : IsClosed nodes (take i xs) (take j ys)
  pub earlier : n ≤ i
  pub named_unit : (r : R) (k : ℕ) → slice_get xs n ≡ Some r → nodes.named r ≡ Some k → k < sent_by nodes (take j ys)

-- They are the past of record n of a: the least that hold its causes
pub record IsPast {S R U Z : Type 0} (nodes : Nodes S R U Z) (xs ys : List R) (n i j : ℕ) : Type 0 where
  pub holds : HoldsCauses nodes xs ys n i j
  pub least : (i' j' : ℕ) → HoldsCauses nodes xs ys n i' j' → (i ≤ i') × (j ≤ j')

-- From a start where nothing was sent, record n of a offends for this reason: its past is a run, and in the world where that
-- ends the record is refused for it. (A past that is a run holds, of the record's own side, the records before it and no more.)
-- For a record of b exchange the sides
pub record Offends {S R U Z : Type 0} (nodes : Nodes S R U Z) (start : World S U) (xs ys : List R) (n : ℕ) (reason : Z) : Type 0 where
  pub of_other : ℕ
  pub world : World S U
  pub offender : R
  pub past : IsPast nodes xs ys n n of_other
  pub run : Run nodes start (take n xs) (take of_other ys) world
  pub place : slice_get xs n ≡ Some offender
  pub refused : advance nodes.node_a world.a world.b offender ≡ Refused reason
