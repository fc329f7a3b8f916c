-- Two nodes, the line from each to the other, and the joint runs of their records
use Rattle.std.specs.Prelude.{◌≡◌, ℕ, Bool, Option, Some, None, Result, Ok, Err, List, [], ◌∷◌, ◌++◌, slice_get}

-- What a node makes of a record in its state. `S` is its states, `U` the units that it sends, `Z` its reasons to refuse.
-- A record that names unit k of the other side, counted from 0, goes on by what that unit is
pub data Answer (S U Z : Type 0) : Type 0 where
  Refuses : (reason : Z) → Answer S U Z
  Goes : (next : S) → Answer S U Z
  Sends : (next : S) → (unit : U) → Answer S U Z
  Reads : (k : ℕ) → (then : U → Result S Z) → Answer S U Z

-- A node, as a function from its state and a record
abbrev pub Node : (S R U Z : Type 0) → Type 0
Node S R U Z = S → R → Answer S U Z

-- The two nodes, and what a record alone tells: the unit of the other side that it names, and whether it sends one
pub record Nodes (S R U Z : Type 0) : Type 0 where
  pub node_a : Node S R U Z
  pub node_b : Node S R U Z
  pub named : R → Option ℕ
  pub sends : R → Bool

-- One side: its state, and all units that it ever sent, the oldest first
pub record Half (S U : Type 0) : Type 0 where
  pub state : S
  pub sent : List U

-- Both sides
pub record World (S U : Type 0) : Type 0 where
  pub a : Half S U
  pub b : Half S U

-- What becomes of a record: it is made and leaves this half, it waits for a unit that is not sent yet, or it is refused
pub data Outcome (S U Z : Type 0) : Type 0 where
  Made : (half : Half S U) → Outcome S U Z
  Waits : Outcome S U Z
  Refused : (reason : Z) → Outcome S U Z

-- The half after its node stepped and sent nothing
abbrev pub stepped : {S U : Type 0} → Half S U → S → Half S U
stepped own next = record { state = next; sent = own.sent }

-- The half after its node stepped and sent a unit
abbrev pub stepped_sending : {S U : Type 0} → Half S U → S → U → Half S U
stepped_sending own next unit = record { state = next; sent = own.sent ++ unit ∷ [] }

-- what a unit that was read leads to
abbrev pub concluded : {S U Z : Type 0} → Half S U → Result S Z → Outcome S U Z
concluded own (Ok next) = Made (stepped own next)
concluded own (Err reason) = Refused reason

-- the named unit, if it was sent
abbrev pub read : {S U Z : Type 0} → Half S U → (U → Result S Z) → Option U → Outcome S U Z
read own then None = Waits
read own then (Some unit) = concluded own (then unit)

-- what an answer leads to, beside the other half
abbrev pub answered : {S U Z : Type 0} → Half S U → Half S U → Answer S U Z → Outcome S U Z
answered own other (Refuses reason) = Refused reason
answered own other (Goes next) = Made (stepped own next)
answered own other (Sends next unit) = Made (stepped_sending own next unit)
answered own other (Reads k then) = read own then (slice_get other.sent k)

-- A record at the half `own` of its node, beside the half `other`
abbrev pub advance : {S R U Z : Type 0} → Node S R U Z → Half S U → Half S U → R → Outcome S U Z
advance node own other r = answered own other (node own.state r)

-- The joint runs, from a world, over what is left of the records of a and of b, to a world: nothing is left, or
-- the first record of a is made first, or the first record of b is
pub data Run {S R U Z : Type 0} (nodes : Nodes S R U Z) : World S U → List R → List R → World S U → Type 0 where
  Done : {w : World S U} → Run nodes w [] [] w
  OfA : {w end : World S U} {h : Half S U} {r : R} {xs ys : List R} →
      advance nodes.node_a w.a w.b r ≡ Made h → Run nodes (record { a = h; b = w.b }) xs ys end → Run nodes w (r ∷ xs) ys end
  OfB : {w end : World S U} {h : Half S U} {r : R} {xs ys : List R} →
      advance nodes.node_b w.b w.a r ≡ Made h → Run nodes (record { a = w.a; b = h }) xs ys end → Run nodes w xs (r ∷ ys) end

-- Some order makes all of these records
abbrev pub IsRun : {S R U Z : Type 0} → Nodes S R U Z → World S U → List R → List R → Type 0
IsRun {S} {R} {U} nodes start xs ys = (end : World S U) × Run nodes start xs ys end

-- The world before any record: each side in its first state, with nothing sent
abbrev pub start_world : {S U : Type 0} → S → S → World S U
start_world first_a first_b = record { a = record { state = first_a; sent = [] }; b = record { state = first_b; sent = [] } }

-- The same two nodes with the sides exchanged
abbrev pub exchanged : {S R U Z : Type 0} → Nodes S R U Z → Nodes S R U Z
exchanged nodes = record { node_a = nodes.node_b; node_b = nodes.node_a; named = nodes.named; sends = nodes.sends }

-- The same world with the sides exchanged
abbrev pub exchanged_world : {S U : Type 0} → World S U → World S U
exchanged_world w = record { a = w.b; b = w.a }
