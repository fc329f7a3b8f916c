use denote.Enum.Bare.{same_false}
use Rattle.std.proofs.Common.{sym, ◌∙◌}
use Rattle.std.specs.contracts.io.ErrorKind.{the_type}
use Rattle.printing.specs.Printed.{moved}
use Rattle.printing.proofs.NotOpened.{says_path}
use Rattle.printing.proofs.files.print_path_not_opened.Goals as goal

pub returns : goal.returns
returns g c =
    let other = same_false the_type _ _ (sym c.if-eq.ensures) in
    says_path (moved g.W.Write.contents c.args.err.now c.print_path.new.err) c.args.named c.args.path.now _ c.print_path.result
    (λ e. other (c.kind.ensures ∙ e)) c.print_path.ensures
