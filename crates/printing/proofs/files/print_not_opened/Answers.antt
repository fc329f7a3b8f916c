use denote.Enum.Bare.{same_false}
use Rattle.std.proofs.Common.{sym, ◌∙◌}
use Rattle.std.specs.contracts.io.ErrorKind.{the_type}
use Rattle.printing.proofs.NotOpened.{says_file}
use Rattle.printing.proofs.files.print_not_opened.Goals as goal

pub returns : goal.returns
returns g c =
    let other = same_false the_type _ _ (sym c.if-eq.ensures) in
    rw (says_file c.args.named _ (λ e. other (c.kind.ensures ∙ e))) c.print_cannot_open.ensures
