-- How a text goes over to its writer.
use Rattle.std.proofs.Common.{◌≡◌, ℕ, ◌+◌, ◌<◌, List, [], ◌++◌, length, take, Option, refl, sym, ap, subst, ◌∙◌, arith, length-append, append-nil}
use Rattle.std.proofs.Common.{append_assoc}
use Rattle.std.specs.Io.KnownBytes.{Appends}
use Rattle.std.proofs.KnownBytes.{Appends-nil, Appends-trans}
use Rattle.std.proofs.Math.Seq.{take-append-add}
use Rattle.wire_base.specs.Tally.{AppendsBeginning}
use Rattle.capture.specs.Paged.{HandsOver}
use Rattle.capture.specs.Passing.{AppendsSome}

-- nothing yet
pub nothing_over : (whole : List ℕ) (held : Option (List ℕ)) → HandsOver whole whole held held
nothing_over whole held = record { written = []; parts = refl; taken = Appends-nil held }

module _ (whole rest : List ℕ) (old now : Option (List ℕ)) (h : HandsOver whole rest old now) where
  -- more is put behind it
  pub more_over : (more whole' rest' : List ℕ) → whole' ≡ whole ++ more → rest' ≡ rest ++ more → HandsOver whole' rest' old now
  more_over more whole' rest' e f = record {
    written = h.written;
    parts = e ∙ ap (λ (x : List ℕ). x ++ more) h.parts ∙ append_assoc h.written rest more ∙ ap (λ (x : List ℕ). h.written ++ x) (sym f);
    taken = h.taken;
  }

  -- the writer took more of it
  pub on_over : (rest' : List ℕ) (later : Option (List ℕ)) → HandsOver rest rest' now later → HandsOver whole rest' old later
  on_over rest' later k = record {
    written = h.written ++ k.written;
    parts = h.parts ∙ ap (λ (x : List ℕ). h.written ++ x) k.parts ∙ sym (append_assoc h.written k.written rest');
    taken = Appends-trans old now later h.written k.written h.taken k.taken;
  }

  -- all of it
  pub all_over : rest ≡ [] → Appends old now whole
  all_over none = subst (Appends old now) (sym (h.parts ∙ ap (λ (x : List ℕ). h.written ++ x) none ∙ append-nil h.written)) h.taken

  -- the first of the rest
  taken_over : (later : Option (List ℕ)) (taken : ℕ) → Appends now later (take taken rest) → Appends old later (take (length h.written + taken) whole)
  taken_over later taken some =
      subst (λ (x : List ℕ). Appends old later (take (length h.written + taken) x)) (sym h.parts)
      (subst (Appends old later) (sym (take-append-add h.written rest taken)) (Appends-trans old now later h.written (take taken rest) h.taken some))

  -- what was taken is a beginning
  pub begun_over : AppendsSome old now whole
  begun_over = (length h.written + 0, taken_over now 0 (Appends-nil now))

  pub some_over : (later : Option (List ℕ)) → AppendsSome now later rest → AppendsSome old later whole
  some_over later some = (length h.written + some.0, taken_over later some.0 some.1)

  pub beginning_over : (later : Option (List ℕ)) → AppendsBeginning now later rest → AppendsBeginning old later whole
  beginning_over later some =
      let taken = some.0 in
      let within : taken < length rest = some.1 in
      (length h.written + taken, omega (arith, length-append h.written rest, ap length h.parts), taken_over later taken some.2)

-- all of it at once
pub whole_over : (whole : List ℕ) (old new : Option (List ℕ)) → Appends old new whole → HandsOver whole [] old new
whole_over whole old new appends = record { written = whole; parts = sym (append-nil whole); taken = appends }
