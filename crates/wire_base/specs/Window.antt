-- What a contract sees of a window of items that are given and not yet acknowledged.
use Rattle.std.specs.Prelude.{ℕ, ◌+◌, ◌%◌, List, [], ◌∷◌, ◌++◌, drop, slice_set}

-- the wire value of the first item's number, the items in the order of their numbers, and how many there may be
pub record WindowView (T : Type 0) : Type 0 where
  pub first : ℕ
  pub items : List T
  pub capacity : ℕ

module _ {T : Type 0} where
  abbrev pub window_view : ℕ → List T → ℕ → WindowView T
  window_view first items capacity = record { first = first; items = items; capacity = capacity }

  -- no item, and the next one has this number
  abbrev pub empty_from : ℕ → ℕ → WindowView T
  empty_from capacity first = window_view first [] capacity

  -- one more item after the others
  abbrev pub pushed : WindowView T → T → WindowView T
  pushed window item = record window { items = window.items ++ item ∷ [] }

  -- another item at one place
  abbrev pub replaced : WindowView T → ℕ → T → WindowView T
  replaced window index item = record window { items = slice_set window.items index item }

  -- without the first items, which moves the first number up
  abbrev pub released : ℕ → WindowView T → ℕ → WindowView T
  released modulus window count = record window { first = (window.first + count) % modulus; items = drop count window.items }
