use Rattle.std.proofs.Common.{◌≡◌, ◌≤◌, ◌++◌, length, take, drop, sym, ap, ◌∙◌, arith}
use Rattle.std.proofs.lemmas.List.{append_assoc, take-append-drop}
use Rattle.edited.specs.Reader.{edited_on}
use Rattle.edited.proofs.LeftLaws.{all_done, consumes_known, front_given}
use Rattle.edited.proofs.reader.EditedReader.give_rest.Goals as goal

pub returns-then-ready-gt0-clause-bytes : goal.returns-then-ready-gt0-clause-bytes
returns-then-ready-gt0-clause-bytes g c =
    let len = c.min-len.result in
    let ahead = c.args.self.now.ahead in
    let l = c.args.self.now.left in
    let size = ap length c.as_slice-ready.ensures in
    let within : len ≤ length ahead = omega (arith, size, c.min-len.ensures) in
    let front : take len c.give.new.buf ≡ take len ahead = rw c.give.ensures.given (front_given len ahead c.args.buf.now within) in
    let done = all_done l c.requires.passed c.requires.given c.requires.dropped c.requires.last in (
      rw (front, c.give.ensures.left)
          (consumes_known (edited_on l) (edited_on l) ahead (drop len ahead) (take len ahead) (g.R.Read.remaining c.args.self.now.inner)
          (λ r.
          done (ahead ++ r)
          ∙ ap (λ t. t ++ r) (sym (take-append-drop len ahead)) ∙ append_assoc (take len ahead) (drop len ahead) r
          ∙ ap (λ t. take len ahead ++ t) (sym (done (drop len ahead ++ r))))),
      λ none some. absurd (omega (arith, none, size, c.min-len.ensures, c.if-ready-gt0.true, c.requires.room)),
    )
