-- How the address of a node is written.
use Rattle.std.specs.Prelude.{ℕ, ◌/◌, ◌%◌, List, ◌++◌, codes}
use Rattle.std.specs.Fmt.{decimal}

-- `1.3`
abbrev pub node_words : (node : ℕ) → List ℕ
node_words node = decimal (node / 1024) ++ (codes "." ++ decimal (node % 1024))
