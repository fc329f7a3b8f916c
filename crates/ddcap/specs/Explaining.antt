-- What `explain` prints of a reason, and with which status it ends.
use Rattle.std.specs.Prelude.{◌≡◌, ℕ, ◌⊎◌, List, ◌++◌, codes}
use Rattle.std.specs.Fmt.{decimal}
use Rattle.pair_judge.specs.Reason.{reason_name, reason_number}
use Rattle.pair_judge.specs.declared.fault.JudgeFault.TheVariants as judge
use Rattle.why.specs.declared.explanations.Explanation.{Explanation}
use Rattle.printing.specs.Printed.{Moved, Writes, fault_text}

-- `6 WrongState`, what was seen, the rule, what is allowed, and by whose fault it is
abbrev pub explanation_head : Explanation → List ℕ
explanation_head row =
    decimal (reason_number row.reason) ++ (codes " " ++ (reason_name row.reason ++ (codes "\n\nSeen: " ++ (row.seen.now
    ++ (codes "\n\nRule: " ++ (row.rule.now ++ (codes "\n\nAllowed: " ++ (row.allowed.now
    ++ (codes "\n\nBy whose fault: " ++ (row.fault.now ++ codes ".\n\n"))))))))))

-- with the usual causes, and what to do first
abbrev pub explanation_text : Explanation → List ℕ
explanation_text row =
    explanation_head row ++ (codes "Look for:\n\n" ++ (row.look_for.now
    ++ (codes "\n\nFirst: " ++ (row.first.now ++ codes "\n\nA pair that is refused for it: docs/REASONS.md\n"))))

-- the text is written to standard output, with status 0; or `out of memory` to standard error, with status 3. The other stream stays as it is
abbrev pub Explains : Explanation → (out err : Moved) → ℕ → Type 0
Explains row out err status =
    (Writes out.old out.new (explanation_text row) 0 status × (err.new ≡ err.old))
    ⊎ (Writes err.old err.new (fault_text judge.OutOfMemory) 3 status × (out.new ≡ out.old))
