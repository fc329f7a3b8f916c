-- The two ways to end before all records are made though none is refused. At the start nothing was sent
use Rattle.std.specs.Prelude.{◌≡◌, ℕ, ◌≤◌, Option, Some, List, take, slice_get}
use Rattle.two_nodes.specs.Nodes.{Nodes, World, IsRun}
use Rattle.two_nodes.specs.Past.{sent_by}

-- There is a record here, and it names a unit that is not among the first `count`
pub record NamesBeyond {S R U Z : Type 0} (nodes : Nodes S R U Z) (here : Option R) (count : ℕ) : Type 0 where
  pub waiting : R
  pub unit : ℕ
  pub is_here : here ≡ Some waiting
  pub names : nodes.named waiting ≡ Some unit
  pub beyond : count ≤ unit

-- Record n of a names a unit that b never sends, and all records of b with those of a before it are a run. For a record of b
-- exchange the sides
pub record LacksUnit {S R U Z : Type 0} (nodes : Nodes S R U Z) (start : World S U) (xs ys : List R) (n : ℕ) : Type 0 where
  pub run : IsRun nodes start (take n xs) ys
  pub missing : NamesBeyond nodes (slice_get xs n) (sent_by nodes ys)

-- The first i records of a and the first j of b are a run, and each side's next record names a unit that the other's do not send
pub record IsStuck {S R U Z : Type 0} (nodes : Nodes S R U Z) (start : World S U) (xs ys : List R) (i j : ℕ) : Type 0 where
  pub run : IsRun nodes start (take i xs) (take j ys)
  pub missing_a : NamesBeyond nodes (slice_get xs i) (sent_by nodes (take j ys))
  pub missing_b : NamesBeyond nodes (slice_get ys j) (sent_by nodes (take i xs))
