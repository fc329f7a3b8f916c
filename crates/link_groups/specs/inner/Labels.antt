-- What becomes of the labels
use Rattle.std.specs.Prelude.{◌≡◌, ℕ, ◌<◌, ◌==◌, Bool, true, List, Some, length, slice_get, slice_index, if◌then◌else◌}
use Rattle.link_groups.specs.declared.own_address.TheConstants.{OWN_ADDRESSES}

-- each place has its own number
pub record AreNumbered (labels : List ℕ) : Type 0 where
  pub count : length labels ≡ OWN_ADDRESSES
  pub numbered : (place : ℕ) → place < OWN_ADDRESSES → slice_index labels place ≡ place

-- a label, once those of one group are those of another
abbrev pub relabelled : (gone kept : ℕ) → ℕ → ℕ
relabelled gone kept label = if label == gone then kept else label

-- each label is so
pub record AreRelabelled (gone kept : ℕ) (old new : List ℕ) : Type 0 where
  pub count : length new ≡ length old
  pub each : (place : ℕ) → place < length old → slice_index new place ≡ relabelled gone kept (slice_index old place)

-- each place with this label is marked, and the others are as they were
pub record AreMarked (labels : List ℕ) (label : ℕ) (old new : List Bool) : Type 0 where
  pub count : length new ≡ length old
  pub marked : (place : ℕ) → place < OWN_ADDRESSES → slice_index labels place ≡ label → slice_get new place ≡ Some true
  pub kept : (place : ℕ) → place < OWN_ADDRESSES → (slice_index labels place ≡ label → ⊥) → slice_get new place ≡ slice_get old place
