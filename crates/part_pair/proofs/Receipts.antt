-- A receipt whose units before it were let go.
use Rattle.std.proofs.Common.{◌≡◌, ◌≢◌, ℕ, List, Option, Result, Ok, Err, refl, sym, ap, ◌∙◌}
use Rattle.std.specs.Result.{IfOk}
use Rattle.capture_record.specs.declared.record.Record.{Record}
use Rattle.pair_judge.specs.Summary.{counted}
use Rattle.part_judge.specs.declared.part_end.PartEnd.{PartEnd}
use Rattle.part_judge.specs.Ends.{node_of_end}
use Rattle.part_judge.specs.Steps.{StepInPart, Makes, Refuses, step_in_part}
use Rattle.part_pair.specs.declared.side_end.SideEnd.{SideEnd}
use Rattle.part_pair.specs.declared.side_end.MadeInPair.{MadeInPair}
use Rattle.part_pair.specs.declared.side_end.MadeInPair.TheVariants as code
use Rattle.part_pair.specs.Sides.{Side, Waits, after_step}
use Rattle.part_pair.specs.inner.Ends.{MadeInPairIs, side_of}

-- of two answers of one call
pub on_both : {X Y : Type 0} (r : Result X Y) (P S Q : X → Type 0) → IfOk r P → IfOk r S → ((x : X) → P x → S x → Q x) → IfOk r Q
on_both (Ok x) P S Q p s both = both x p s
on_both (Err e) P S Q p s both = tt

same_step : (s t : Side) (coming : List (List ℕ)) (alone_from : Option ℕ) (step : StepInPart) → s.is_part ≡ t.is_part → s.made ≡ t.made →
    after_step s coming alone_from step ≡ after_step t coming alone_from step
same_step s t coming alone_from (Makes node) part made = rw (part, made) refl
same_step s t coming alone_from (Refuses accused reason) part made = refl

not_waits : (s : Side) (coming : List (List ℕ)) (alone_from : Option ℕ) (step : StepInPart) → after_step s coming alone_from step ≢ Waits
not_waits s coming alone_from (Makes node) is = absurd (cc)
not_waits s coming alone_from (Refuses accused reason) is = absurd (cc)

module _ (old now new : SideEnd) (r : Record) (rest : List (List ℕ)) (from : Option ℕ) (items : now.coming.items ≡ rest)
    (alone : now.alone_from ≡ from)
    (end : now.end ≡ old.end) (part : now.is_part ≡ old.is_part) where
  equal : after_step (side_of now) now.coming.items now.alone_from (step_in_part (node_of_end now.end) r)
      ≡ after_step (side_of old) rest from (step_in_part (node_of_end old.end) r)
  equal =
      same_step (side_of now) (side_of old) now.coming.items now.alone_from (step_in_part (node_of_end now.end) r) part
      (ap (λ (e : PartEnd). e.counts.records) end)
      ∙ ap (λ (e : PartEnd). after_step (side_of old) now.coming.items now.alone_from (step_in_part (node_of_end e) r)) end
      ∙ ap (λ (xs : List (List ℕ)). after_step (side_of old) xs now.alone_from (step_in_part (node_of_end old.end) r)) items
      ∙ ap (λ (f : Option ℕ). after_step (side_of old) rest f (step_in_part (node_of_end old.end) r)) alone

  -- what its end made of it then
  pub moved : (made : MadeInPair) →
      MadeInPairIs made now new r (after_step (side_of now) now.coming.items now.alone_from (step_in_part (node_of_end now.end) r)) →
      MadeInPairIs made old new r (after_step (side_of old) rest from (step_in_part (node_of_end old.end) r))
  moved code.Goes is =
      record { step_is = sym equal ∙ is.step_is; counts = is.counts ∙ ap (λ (e : PartEnd). counted e.counts r) end }
  moved code.Waits is =
      absurd (not_waits (side_of now) now.coming.items now.alone_from (step_in_part (node_of_end now.end) r) is.step_is)
  moved (code.Stops reason) is = sym equal ∙ is
