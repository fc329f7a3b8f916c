-- Well-formed XML 1.0, as far as a picture goes: elements with attributes, references, and words of printable ASCII.
use Rattle.std.specs.Prelude.{◌≡◌, ◌⊎◌, ◌≤◌, ℕ, ◌+◌, List, [], ◌∷◌, ◌++◌, codes}
use Rattle.ladder.specs.declared.xml.Reference.{Reference}
use Rattle.ladder.specs.declared.xml.Reference.TheVariants as reference
use Rattle.ladder.specs.declared.xml_names.Attribute.{Attribute}
use Rattle.ladder.specs.declared.xml_names.Attribute.TheVariants as attribute
use Rattle.ladder.specs.declared.xml_names.Tag.{Tag}
use Rattle.ladder.specs.declared.xml_names.Tag.TheVariants as tag

-- ---- names

abbrev pub tag_name : Tag → List ℕ
tag_name tag.Svg = codes "svg"
tag_name tag.Style = codes "style"
tag_name tag.Defs = codes "defs"
tag_name tag.Marker = codes "marker"
tag_name tag.Path = codes "path"
tag_name tag.Group = codes "g"
tag_name tag.Title = codes "title"
tag_name tag.Text = codes "text"
tag_name tag.Line = codes "line"
tag_name tag.Rect = codes "rect"
tag_name tag.Circle = codes "circle"

abbrev pub attribute_name : Attribute → List ℕ
attribute_name attribute.Xmlns = codes "xmlns"
attribute_name attribute.Id = codes "id"
attribute_name attribute.Class = codes "class"
attribute_name attribute.X = codes "x"
attribute_name attribute.Y = codes "y"
attribute_name attribute.X1 = codes "x1"
attribute_name attribute.Y1 = codes "y1"
attribute_name attribute.X2 = codes "x2"
attribute_name attribute.Y2 = codes "y2"
attribute_name attribute.CenterX = codes "cx"
attribute_name attribute.CenterY = codes "cy"
attribute_name attribute.Radius = codes "r"
attribute_name attribute.Width = codes "width"
attribute_name attribute.Height = codes "height"
attribute_name attribute.ViewBox = codes "viewBox"
attribute_name attribute.Space = codes "xml:space"
attribute_name attribute.ReferenceX = codes "refX"
attribute_name attribute.ReferenceY = codes "refY"
attribute_name attribute.MarkerWidth = codes "markerWidth"
attribute_name attribute.MarkerHeight = codes "markerHeight"
attribute_name attribute.MarkerUnits = codes "markerUnits"
attribute_name attribute.Orient = codes "orient"
attribute_name attribute.Drawn = codes "d"

-- no two have one place
abbrev pub place_of : Attribute → ℕ
place_of attribute.Xmlns = 0
place_of attribute.Id = 1
place_of attribute.Class = 2
place_of attribute.X = 3
place_of attribute.Y = 4
place_of attribute.X1 = 5
place_of attribute.Y1 = 6
place_of attribute.X2 = 7
place_of attribute.Y2 = 8
place_of attribute.CenterX = 9
place_of attribute.CenterY = 10
place_of attribute.Radius = 11
place_of attribute.Width = 12
place_of attribute.Height = 13
place_of attribute.ViewBox = 14
place_of attribute.Space = 15
place_of attribute.ReferenceX = 16
place_of attribute.ReferenceY = 17
place_of attribute.MarkerWidth = 18
place_of attribute.MarkerHeight = 19
place_of attribute.MarkerUnits = 20
place_of attribute.Orient = 21
place_of attribute.Drawn = 22

-- ---- words (2.4, and 2.3 for those of an attribute)

abbrev pub Between : (low high character : ℕ) → Type 0
Between low high character = (low ≤ character) × (character ≤ high)

-- a line feed, or printable ASCII, but not & ' < >
abbrev pub IsPlain : ℕ → Type 0
IsPlain character =
    (character ≡ 10) ⊎ (Between 32 37 character ⊎ (Between 40 59 character ⊎ ((character ≡ 61) ⊎ Between 63 126 character)))

abbrev pub reference_text : Reference → List ℕ
reference_text reference.Less = codes "&lt;"
reference_text reference.Greater = codes "&gt;"
reference_text reference.Ampersand = codes "&amp;"
reference_text reference.Apostrophe = codes "&apos;"

pub data IsWords : List ℕ → Type 0 where
  NoWord : IsWords []
  Plain : {before : List ℕ} → IsWords before → (character : ℕ) → IsPlain character → IsWords (before ++ character ∷ [])
  Referred : {before : List ℕ} → IsWords before → (reference : Reference) → IsWords (before ++ reference_text reference)

-- ---- attributes (3.1): none occurs twice, since their places ascend

abbrev pub attribute_text : Attribute → List ℕ → List ℕ
attribute_text name words = codes " " ++ (attribute_name name ++ (codes "='" ++ (words ++ codes "'")))

-- all of them have lower places than this
pub data AreAttributes : (end : ℕ) → List ℕ → Type 0 where
  NoAttribute : AreAttributes 0 []
  OneMore : {end : ℕ} {before words : List ℕ} → AreAttributes end before → (name : Attribute) → end ≤ place_of name → IsWords words →
      AreAttributes (place_of name + 1) (before ++ attribute_text name words)

-- ---- elements and their content (3.1)

abbrev pub element_text : Tag → (attributes content : List ℕ) → List ℕ
element_text name attributes content =
    codes "<" ++ (tag_name name ++ (attributes ++ (codes ">" ++ (content ++ (codes "</" ++ (tag_name name ++ codes ">"))))))

abbrev pub empty_text : Tag → (attributes : List ℕ) → List ℕ
empty_text name attributes = codes "<" ++ (tag_name name ++ (attributes ++ codes "/>"))

pub data IsContent : List ℕ → Type 0 where
  NoContent : IsContent []
  SomeWords : {before words : List ℕ} → IsContent before → IsWords words → IsContent (before ++ words)
  Element : {before attributes content : List ℕ} {end : ℕ} → IsContent before → (name : Tag) → AreAttributes end attributes →
      IsContent content → IsContent (before ++ element_text name attributes content)
  Empty : {before attributes : List ℕ} {end : ℕ} → IsContent before → (name : Tag) → AreAttributes end attributes →
      IsContent (before ++ empty_text name attributes)

-- ---- a document (2.1): one element, and a line feed

pub record IsDocument (text : List ℕ) : Type 0 where
  pub name : Tag
  pub attributes : List ℕ
  pub content : List ℕ
  pub end : ℕ
  pub are_attributes : AreAttributes end attributes
  pub is_content : IsContent content
  pub is : text ≡ element_text name attributes content ++ codes "\n"
