-- A text that is written in two pieces.
use Rattle.std.proofs.Common.{ℕ, inl, inr, List, ◌++◌, Option, sym, subst, arith, length-append}
use Rattle.std.specs.Io.KnownBytes.{Appends}
use Rattle.std.proofs.lemmas.List.{take-append-le}
use Rattle.wire_base.specs.Tally.{AppendsBeginning}
use Rattle.text_commands.proofs.Listing.{all_on, some_on}
use Rattle.printing.specs.Printed.{Stream, Writes}
use Rattle.text_commands.specs.Showing.{WritesAll}

-- the first piece is on the stream, and the second was written behind it
pub behind : (a b c : Stream) (xs ys : List ℕ) (meant status : ℕ) → WritesAll a b xs → Writes b c ys meant status → Writes a c (xs ++ ys) meant status
behind a b c xs ys meant status first (inl (taken, faults, is)) =
    let all = all_on a b c xs ys first (taken, faults) in
    inl (all.0, all.1, is)
behind a b c xs ys meant status first (inr (taken, counted, is)) =
    let some = some_on a b c xs ys first (taken, counted) in
    inr (some.0, some.1, is)

-- a beginning of the first piece is one of both
pub beginning_of_first : (a b : Option (List ℕ)) (xs ys : List ℕ) → AppendsBeginning a b xs → AppendsBeginning a b (xs ++ ys)
beginning_of_first a b xs ys begun =
    (begun.0, omega (arith, begun.1, length-append xs ys), subst (Appends a b) (sym (take-append-le begun.0 xs ys (omega (arith, begun.1)))) begun.2)
