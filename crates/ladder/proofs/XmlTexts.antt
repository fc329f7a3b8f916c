-- Texts of XML, and a piece more.
use Rattle.std.proofs.Common.{◌≡◌, ◌≤◌, ℕ, ◌+◌, List, [], ◌∷◌, ◌++◌, codes, sym, ◌∙◌, ap, subst}
use Rattle.ladder.specs.declared.xml.Reference.{Reference}
use Rattle.ladder.specs.declared.xml_names.Attribute.{Attribute}
use Rattle.ladder.specs.declared.xml_names.Tag.{Tag}
use Rattle.ladder.specs.Xml.{AreAttributes, IsContent, IsDocument, IsPlain, IsWords}
use Rattle.ladder.specs.Xml.{attribute_text, element_text, empty_text, place_of, reference_text}
use Rattle.ladder.specs.Xml.IsWords.{NoWord, Plain, Referred}
use Rattle.ladder.specs.Xml.AreAttributes.{NoAttribute, OneMore}
use Rattle.ladder.specs.Xml.IsContent.{NoContent, SomeWords, Element, Empty}

-- ---- words

pub no_words : IsWords []
no_words = NoWord

pub plain_more : (before after : List ℕ) (c : ℕ) → IsWords before → IsPlain c → after ≡ before ++ c ∷ [] → IsWords after
plain_more before after c words plain is = subst IsWords (sym is) (Plain words c plain)

pub referred_more : (before after : List ℕ) (r : Reference) → IsWords before → after ≡ before ++ reference_text r → IsWords after
referred_more before after r words is = subst IsWords (sym is) (Referred words r)

-- ---- attributes

pub no_attributes : AreAttributes 0 []
no_attributes = NoAttribute

pub attribute_more : (end next : ℕ) (name : Attribute) (before words after : List ℕ) → AreAttributes end before → end ≤ place_of name
    → IsWords words → next ≡ place_of name + 1 → after ≡ before ++ attribute_text name words → AreAttributes next after
attribute_more end next name before words after are above is_words is_next is =
    subst (λ (n : ℕ). AreAttributes n after) (sym is_next)
    (subst (λ (text : List ℕ). AreAttributes (place_of name + 1) text) (sym is) (OneMore are name above is_words))

-- ---- content

pub no_content : IsContent []
no_content = NoContent

pub words_more : (before words after : List ℕ) → IsContent before → IsWords words → after ≡ before ++ words → IsContent after
words_more before words after content is_words is = subst IsContent (sym is) (SomeWords content is_words)

pub element_more : (before attributes content after : List ℕ) (end : ℕ) (name : Tag) → IsContent before → AreAttributes end attributes
    → IsContent content → after ≡ before ++ element_text name attributes content → IsContent after
element_more before attributes content after end name is_before are is_content is = subst IsContent (sym is) (Element is_before name are is_content)

pub empty_more : (before attributes after : List ℕ) (end : ℕ) (name : Tag) → IsContent before → AreAttributes end attributes
    → after ≡ before ++ empty_text name attributes → IsContent after
empty_more before attributes after end name is_before are is = subst IsContent (sym is) (Empty is_before name are)

pub document_of : (attributes content element text : List ℕ) (end : ℕ) (name : Tag) → AreAttributes end attributes → IsContent content
    → element ≡ element_text name attributes content → text ≡ element ++ codes "\n" → IsDocument text
document_of attributes content element text end name are is_content is_element is = record {
  name = name;
  attributes = attributes;
  content = content;
  end = end;
  are_attributes = are;
  is_content = is_content;
  is = is ∙ ap (λ (xs : List ℕ). xs ++ codes "\n") is_element;
}
