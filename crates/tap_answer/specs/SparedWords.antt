-- The words for units of which nobody is accused, since their packets name another node: the line may lead to a router.
use Rattle.std.specs.Prelude.{Bool, true, false, if◌then◌else◌, ℕ, Option, Some, None, List, [], ◌++◌, codes}
use Rattle.std.specs.Fmt.{decimal}
use Rattle.beyond.specs.NodeKind.{kind_name}
use Rattle.beyond.specs.NodeWords.{node_words}
use Rattle.beyond.specs.declared.node_kind.NodeKind.{NodeKind}
use Rattle.wire_base.specs.declared.side.Side.{Side}
use Rattle.wire_base.specs.declared.side.Side.TheVariants.{A, B}
use Rattle.wire_base.specs.Side.{side_letter}
use Rattle.wire_tap.specs.declared.accusation.Accusation.{Accusation}
use Rattle.wire_tap.specs.declared.accusation.Accused.{Accused}
use Rattle.wire_tap.specs.declared.accusation.Exception.{Exception}
use Rattle.wire_tap.specs.declared.accusation.Exception.TheVariants.{NamesOther}
use Rattle.wire_tap.specs.declared.tapped.Passed.{Passed}

abbrev pub names_other : Exception → Bool
names_other (NamesOther node) = true
names_other exception = false

abbrev pub is_spared_by : Option Exception → Bool
is_spared_by None = false
is_spared_by (Some exception) = names_other exception

abbrev pub is_spared : Option Accusation → Bool
is_spared None = false
is_spared (Some accusation) = is_spared_by accusation.unless

abbrev pub is_one_spared : (a b : Option Accusation) → Bool
is_one_spared a b = if is_spared a then true else is_spared b

-- the accusation, if it stays one
abbrev pub blamed : Option Accusation → Option Accusation
blamed accusation = if is_spared accusation then None else accusation

-- `side a is not accused of its unit 2 (line 5): 1.3 is another node; ..`
abbrev pub spared_unit_words : Passed → (node : ℕ) → List ℕ
spared_unit_words passed node =
    codes "\nside " ++ (side_letter passed.side ++ (codes " is not accused of its unit " ++ (decimal passed.unit
    ++ (codes " (line " ++ (decimal passed.line ++ (codes "): " ++ (node_words node
    ++ codes " is another node; if the line leads to a router, use tap --line")))))))

abbrev pub spared_words_by : Passed → Exception → List ℕ
spared_words_by passed (NamesOther node) = spared_unit_words passed node
spared_words_by passed exception = []

abbrev pub spared_words_of : Passed → Option Exception → List ℕ
spared_words_of passed None = []
spared_words_of passed (Some exception) = spared_words_by passed exception

abbrev pub spared_words : Option Accusation → List ℕ
spared_words None = []
spared_words (Some accusation) = spared_words_of accusation.passed accusation.unless

-- `b's Init says: router`
abbrev pub init_words : Side → Option NodeKind → List ℕ
init_words side None = []
init_words side (Some kind) = codes "\n" ++ (side_letter side ++ (codes "'s Init says: " ++ kind_name kind))

abbrev pub inits_words : (is_told : Bool) → (of_a of_b : Option NodeKind) → List ℕ
inits_words is_told of_a of_b = if is_told then init_words A of_a ++ init_words B of_b else []

-- both sides' units that are spared, and what both nodes say that they are
abbrev pub all_spared_words : Accused → List ℕ
all_spared_words accused =
    spared_words accused.a ++ (spared_words accused.b
    ++ inits_words (is_one_spared accused.a accused.b) accused.kind_a accused.kind_b)
