-- Texts of members and of elements, and one more.
use Rattle.std.proofs.Common.{◌≡◌, ℕ, List, [], codes, Bool, Option, Some, None, subst, sym, ap, ◌∙◌, ◌++◌}
use Rattle.std.proofs.lemmas.Option.{none-some}
use Rattle.std.specs.Option.{option_map}
use Rattle.std.specs.Fmt.{decimal}
use Rattle.json_text.specs.Spelled.{array_text, flag_text, object_text, string_text}
use Rattle.json_text.specs.Json.{Is}
use Rattle.json_text.specs.Json.Is.{Array, Element, Flag, Member, NoElement, NoMember, Null, Number, Object, String}
use Rattle.json_text.specs.Json.Part.{AnyValue, InBraces, InBrackets}
use Rattle.json_text.specs.Written.{IsWhole, Says, with_element, with_member}
use Rattle.json_text.proofs.Characters.{are_characters}

abbrev nothing : Option (List ℕ)
nothing = None

is_not : (text : List ℕ) {P : Type 0} → nothing ≡ Some text → P
is_not text is = elim (none-some text is) [ ]

-- ---- one more

pub member_more : (key : List ℕ) (value before after : Option (List ℕ)) → IsWhole AnyValue value → IsWhole InBraces before →
    Says after (with_member key value before) → IsWhole InBraces after
member_more key value before None is_value is_before says = tt
member_more key None before (Some text) is_value is_before says = is_not text says
member_more key (Some value) None (Some text) is_value is_before says = is_not text says
member_more key (Some value) (Some before) (Some text) is_value is_before says =
    subst (λ (o : Option (List ℕ)). IsWhole InBraces o) says (Member is_before (are_characters key) is_value)

pub element_more : (value before after : Option (List ℕ)) → IsWhole AnyValue value → IsWhole InBrackets before →
    Says after (with_element value before) → IsWhole InBrackets after
element_more value before None is_value is_before says = tt
element_more None before (Some text) is_value is_before says = is_not text says
element_more (Some value) None (Some text) is_value is_before says = is_not text says
element_more (Some value) (Some before) (Some text) is_value is_before says =
    subst (λ (o : Option (List ℕ)). IsWhole InBrackets o) says (Element is_before is_value)

-- ---- values

pub string_is : (text : List ℕ) → Is AnyValue (string_text text)
string_is text = String (are_characters text)

pub object_is : (members : Option (List ℕ)) → IsWhole InBraces members → IsWhole AnyValue (option_map object_text members)
object_is None are = tt
object_is (Some members) are = Object are

pub array_is : (elements : Option (List ℕ)) → IsWhole InBrackets elements → IsWhole AnyValue (option_map array_text elements)
array_is None are = tt
array_is (Some elements) are = Array are

-- ---- members

pub no_member : Is InBraces []
no_member = NoMember

pub string_member : (key : List ℕ) (words : List ℕ) (before after : Option (List ℕ)) → IsWhole InBraces before →
    Says after (with_member key (Some (string_text words)) before) → IsWhole InBraces after
string_member key words before after is_before says = member_more key (Some (string_text words)) before after (string_is words) is_before says

pub number_member : (key : List ℕ) (number : ℕ) (before after : Option (List ℕ)) → IsWhole InBraces before →
    Says after (with_member key (Some (decimal number)) before) → IsWhole InBraces after
number_member key number before after is_before says = member_more key (Some (decimal number)) before after (Number number) is_before says

pub flag_member : (key : List ℕ) (flag : Bool) (before after : Option (List ℕ)) → IsWhole InBraces before →
    Says after (with_member key (Some (flag_text flag)) before) → IsWhole InBraces after
flag_member key flag before after is_before says = member_more key (Some (flag_text flag)) before after (Flag flag) is_before says

pub null_member : (key : List ℕ) (before after : Option (List ℕ)) → IsWhole InBraces before →
    Says after (with_member key (Some (codes "null")) before) → IsWhole InBraces after
null_member key before after is_before says = member_more key (Some (codes "null")) before after Null is_before says

pub object_member : (key : List ℕ) (members before after : Option (List ℕ)) → IsWhole InBraces members → IsWhole InBraces before →
    Says after (with_member key (option_map object_text members) before) → IsWhole InBraces after
object_member key members before after are is_before says =
    member_more key (option_map object_text members) before after (object_is members are) is_before says

pub array_member : (key : List ℕ) (elements before after : Option (List ℕ)) → IsWhole InBrackets elements → IsWhole InBraces before →
    Says after (with_member key (option_map array_text elements) before) → IsWhole InBraces after
array_member key elements before after are is_before says =
    member_more key (option_map array_text elements) before after (array_is elements are) is_before says

-- ---- elements

pub no_element : Is InBrackets []
no_element = NoElement

pub string_element : (words : List ℕ) (before after : Option (List ℕ)) → IsWhole InBrackets before →
    Says after (with_element (Some (string_text words)) before) → IsWhole InBrackets after
string_element words before after is_before says = element_more (Some (string_text words)) before after (string_is words) is_before says

pub object_element : (members before after : Option (List ℕ)) → IsWhole InBraces members → IsWhole InBrackets before →
    Says after (with_element (option_map object_text members) before) → IsWhole InBrackets after
object_element members before after are is_before says =
    element_more (option_map object_text members) before after (object_is members are) is_before says

-- ---- at the end

pub object_of : (members : Option (List ℕ)) (inner before text : List ℕ) → IsWhole InBraces members → members ≡ Some inner → before ≡ [] →
    text ≡ before ++ object_text inner → Is AnyValue text
object_of members inner before text are whole empty is =
    subst (Is AnyValue) (sym (is ∙ ap (λ (xs : List ℕ). xs ++ object_text inner) empty))
    (Object (subst (IsWhole InBraces) whole are))
