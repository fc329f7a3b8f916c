-- A text that lists items: a head with the addresses of two nodes, and a line for each item. How it is spelled, which lists have a text, and how a
-- text departs from it, over what a line says.
use Rattle.std.specs.Prelude.{◌≡◌, ℕ, ◌<◌, ◌≤◌, ◌⊎◌, false, List, [], ◌∷◌, ◌++◌, length, Option, option_and_then, Result, Ok, Err}
use Rattle.std.specs.List.{flat_map, AllByRecursion}
use Rattle.std.specs.Io.KnownBytes.{Consumes}
use Rattle.capture.specs.declared.limit.TheConstants.{MAX_LINE}
use Rattle.capture.specs.declared.fault.Departure.{Departure}
use Rattle.capture.specs.declared.fault.CaptureFault.{CaptureFault}
use Rattle.capture.specs.declared.fault.Departure.TheVariants.{Syntax, TooLong, TooMany, Part}
use Rattle.capture.specs.Text.{address_text, spaced, ended}
use Rattle.capture.specs.Range.{IsNode}
use Rattle.capture.specs.Reading.{after, nodes_at}
use Rattle.capture.specs.Lines.{LineState, to_come}
use Rattle.capture.specs.Reader.{FaultShows}
use Rattle.capture.specs.Departing.{first_line, has_lf, IsWhole, LineDeparts}

-- the addresses of both nodes, and the items in their order
pub record Listed (Item : Type 0) : Type 0 where
  pub node_a : ℕ
  pub node_b : ℕ
  pub items : List Item

-- no item yet
abbrev pub no_items : {Item : Type 0} → (node_a node_b : ℕ) → Listed Item
no_items node_a node_b = record { node_a = node_a; node_b = node_b; items = [] }

-- the same with one item more
abbrev pub with_item : {Item : Type 0} → Listed Item → Item → Listed Item
with_item list item = record list { items = list.items ++ item ∷ [] }

-- the second begins as the first, and may have more items
pub record IsBeginningOf {Item : Type 0} (begun all : Listed Item) : Type 0 where
  pub node_a : all.node_a ≡ begun.node_a
  pub node_b : all.node_b ≡ begun.node_b
  pub more : List Item
  pub items : all.items ≡ begun.items ++ more

-- ---- the head

-- the head with these first words, without its LF
abbrev pub list_head : (first_words : List ℕ) (node_a node_b : ℕ) → List ℕ
list_head first_words node_a node_b = first_words ++ spaced (address_text node_a) (address_text node_b)

-- the addresses that a line names after the first words
unfoldable pub list_head_at : (first_words line : List ℕ) → Option (ℕ × ℕ)
list_head_at first_words line = option_and_then nodes_at (after first_words line)

-- The first line of a text departs from a head: it is too long; or without its LF, as in a text with no line; or no head's
abbrev pub IsNoHead : (first_words line : List ℕ) → Type 0
IsNoHead first_words line = (node_a node_b : ℕ) → IsNode node_a → IsNode node_b → line ≡ list_head first_words node_a node_b → ⊥

abbrev pub ListHeadDeparts : (first_words : List ℕ) → Departure → List ℕ → Type 0
ListHeadDeparts first_words TooMany text = ⊥
ListHeadDeparts first_words TooLong text = MAX_LINE < length (first_line text)
ListHeadDeparts first_words Syntax text =
    ((length (first_line text) ≤ MAX_LINE) × (has_lf text ≡ false)) ⊎ (IsWhole text × IsNoHead first_words (first_line text))
ListHeadDeparts first_words Part text = ⊥

-- What `open_list` gives, where these bytes were to come, and these are: a reader of the lines after the head, and the addresses.
abbrev pub ListOpens : (first_words : List ℕ) → Option (List ℕ) → Option (List ℕ) → Result (LineState × ℕ × ℕ) CaptureFault → Type 0
ListOpens first_words before after (Ok (lines, node_a, node_b)) =
    IsNode node_a × IsNode node_b × (lines.taken ≡ 1)
    × Consumes before (to_come lines.unread after) (ended (list_head first_words node_a node_b))
ListOpens first_words before after (Err fault) = FaultShows (ListHeadDeparts first_words) 1 before fault

-- ---- what such a text says

pub record ListForm (Item : Type 0) : Type 1 where
  -- the head's first words, and an item's line without its LF
  pub first_words : List ℕ
  pub line : Item → List ℕ
  -- which items have a line, and how many a text may hold
  pub HasLine : Item → Type 0
  pub most : ℕ
  -- the words of a line depart
  pub WordsDepart : Departure → List ℕ → Type 0

module _ {Item : Type 0} (form : ListForm Item) where
  abbrev pub item_line : Item → List ℕ
  item_line item = ended (form.line item)

  abbrev pub list_text : Listed Item → List ℕ
  list_text list = ended (list_head form.first_words list.node_a list.node_b) ++ flat_map item_line list.items

  -- addresses and items that a text may hold
  pub record IsList (list : Listed Item) : Type 0 where
    pub node_a : IsNode list.node_a
    pub node_b : IsNode list.node_b
    pub each : AllByRecursion form.HasLine list.items
    pub few : length list.items ≤ form.most

  -- the text begins with these items, and goes on with these bytes
  pub record BeginsWithList (text : List ℕ) (list : Listed Item) (rest : List ℕ) : Type 0 where
    pub fits : IsList list
    pub spelled : text ≡ list_text list ++ rest

  -- The text begins with these items, and goes on with what is to come, where the reader tells its bytes.
  pub record IsListSoFar (text : Option (List ℕ)) (list : Listed Item) (come : Option (List ℕ)) : Type 0 where
    pub fits : IsList list
    pub begins : Consumes text come (list_text list)

  -- The first line of what is to come departs, after this many items
  abbrev pub ItemDeparts : ℕ → Departure → List ℕ → Type 0
  ItemDeparts items kind bytes =
      LineDeparts form.most items kind bytes ⊎ ((items < form.most) × IsWhole bytes × form.WordsDepart kind (first_line bytes))
