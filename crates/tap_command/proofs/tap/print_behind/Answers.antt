use Rattle.std.proofs.Common.{inl, refl}
use Rattle.tap_command.proofs.tap.print_behind.Goals as goal

pub returns-in-Ok-format : goal.returns-in-Ok-format
returns-in-Ok-format g c = λ words told.
    let text_is = rw c.in-Ok.is at told in
    inl (
      rw (c.as_bytes.ensures.value, c.in-Ok-format.ensures.ok, text_is, c.in-Ok-assumed_text.ensures, c.in-Ok-premise_text.ensures) at
          c.print.ensures,
      refl,
    )
