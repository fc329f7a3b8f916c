-- How the places of one group are found without a look at all: each leads to the next, and the last to the first
use Rattle.std.specs.Prelude.{◌≡◌, ℕ, ◌<◌, List, length, slice_index}
use Rattle.link_groups.specs.declared.own_address.TheConstants.{OWN_ADDRESSES}

-- from a place, step by step
pub data LeadsTo (next : List ℕ) : ℕ → ℕ → Type 0 where
  Here : (place : ℕ) → LeadsTo next place place
  On : {from to : ℕ} → LeadsTo next (slice_index next from) to → LeadsTo next from to

-- each place leads to all those that have its label, and to no other; a label is a place too
pub record AreRings (labels next : List ℕ) : Type 0 where
  pub labelled : length labels ≡ OWN_ADDRESSES
  pub linked : length next ≡ OWN_ADDRESSES
  pub named : (place : ℕ) → place < OWN_ADDRESSES → slice_index labels place < OWN_ADDRESSES
  pub within : (place : ℕ) → place < OWN_ADDRESSES → slice_index next place < OWN_ADDRESSES
  pub along : (place : ℕ) → place < OWN_ADDRESSES → slice_index labels (slice_index next place) ≡ slice_index labels place
  pub around : (from to : ℕ) → from < OWN_ADDRESSES → to < OWN_ADDRESSES → slice_index labels from ≡ slice_index labels to → LeadsTo next from to
