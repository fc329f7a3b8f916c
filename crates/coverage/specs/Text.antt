-- What is printed of the counts of both sides.
use Rattle.std.specs.Prelude.{ℕ, ◌+◌, ◌-◌, ◌^◌, Bool, ◌==◌, nat_lt, if◌then◌else◌, List, [], ◌++◌, codes, length, slice_index}
use Rattle.std.specs.List.{filter, flat_map}
use Rattle.std.specs.Fmt.{decimal, format_spec, padded}
use Rattle.wire_base.specs.declared.side.Side.{Side}
use Rattle.wire_base.specs.declared.side.Side.TheVariants.{A, B}
use Rattle.wire_base.specs.Side.{side_letter}
use Rattle.coverage.specs.declared.order.TheConstants.{ORDER}
use Rattle.coverage.specs.declared.row.Row.{Row}
use Rattle.coverage.specs.Row.{place, name}

-- no precision
abbrev pub WHOLE : ℕ
WHOLE = 2 ^ 64 - 1

-- in 34 columns, or more, and the words after it
abbrev pub left : List ℕ → List ℕ
left words = padded (format_spec 32 1 0 34 WHOLE) words

-- after a space, in six columns, or more, and the words before it
abbrev pub right : List ℕ → List ℕ
right words = padded (format_spec 32 3 0 6 WHOLE) words

-- a count, and `.` for none
abbrev pub cell : ℕ → List ℕ
cell count = if count == 0 then codes "." else decimal count

abbrev pub line : (name a b : List ℕ) → List ℕ
line name a b = left name ++ (codes " " ++ (right a ++ (codes " " ++ (right b ++ codes "\n"))))

abbrev pub count_of : (counts : List ℕ) → Row → ℕ
count_of counts row = slice_index counts (place row)

-- both have gone through none
abbrev pub is_unmet : (a b : ℕ) → Bool
is_unmet a b = a + b == 0

-- the counts of both sides at a row; a row that neither went through is left out
unfoldable pub row_line : (a b : List ℕ) → Row → List ℕ
row_line a b row =
    if is_unmet (count_of a row) (count_of b row) then [] else line (name row) (cell (count_of a row)) (cell (count_of b row))

-- how many rows a side went through
abbrev pub met_rows : List ℕ → ℕ
met_rows counts = length (filter (λ (count : ℕ). nat_lt 0 count) counts)

-- `a went through 21 of 88 rows`: of so many rows that are counted
abbrev pub side_line : (rows : ℕ) → Side → List ℕ → List ℕ
side_line rows side counts =
    side_letter side ++ (codes " went through " ++ (decimal (met_rows counts) ++ (codes " of " ++ (decimal rows ++ codes " rows\n"))))

-- above the rows
unfoldable pub headings : List ℕ
headings = line (codes "row") (codes "a") (codes "b")

unfoldable pub head : (rows : ℕ) → (a b : List ℕ) → List ℕ
head rows a b = side_line rows A a ++ (side_line rows B b ++ headings)

-- the lines of these rows
unfoldable pub row_lines : (a b : List ℕ) → List Row → List ℕ
row_lines a b rows = flat_map (row_line a b) rows

-- a line a side, one of headings, and the rows in their order
abbrev pub table : (rows : ℕ) → (a b : List ℕ) → List ℕ
table rows a b = head rows a b ++ row_lines a b ORDER
