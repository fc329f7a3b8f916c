-- What is right of what a step of a script makes of an end, or of why it can't be made: it goes by the rule of the step, and the node of the end
-- makes its records and keeps what the end keeps then. Each kind of step is looked at once for all of it.
use Rattle.dna_play.proofs.Prelude.{◌≡◌, ℕ, ◌<◌, Bool, true, false, cond, nat_lt, ltb-true, ltb-false, Option, Some, None, List, [], ◌∷◌, Result}
use Rattle.dna_play.proofs.Prelude.{Ok, Err, drop, length, refl, sym, subst, ap, ◌∙◌, add-zero, slice_get, option_map, same_Some, slice_get-map}
use Rattle.dna_play.proofs.Prelude.{slice_get-drop, MAX_LINK, Record, LayersUnit, StepValue, StoredEnd, StoredStepped, if_so, with_next, IsNext}
use Rattle.dna_play.proofs.Prelude.{HasNext, Asks, gives_address, IsFull, BadStep, Stop, Full}
use Rattle.dna_play.proofs.{Played.Steps.MakesAll, Ends.Stage.Stage, Stored.Now.StoredNow}
use Rattle.dna_play.proofs.Ends.TrueEnd.{End, stored, bytes_of, coming}

none_behind : (units : List LayersUnit) → drop (length units) (bytes_of units) ≡ []
none_behind [] = refl
none_behind (unit ∷ units) = none_behind units

module _ (own other : End) (step : StepValue) where
  abbrev pub IsAsked : Type 0
  IsAsked = Asks (stored own) (coming own other.half) step

  abbrev pub HasNoRoom : Type 0
  HasNoRoom = IsFull (stored own) step

  -- it is made: by the node of the end, which keeps what is kept then
  pub record IsMade (made : StoredStepped) : Type 0 where
    pub after : End
    pub makes : MakesAll other.half own.half made.records after.half
    pub same : stored after ≡ made.end
    pub sent : drop (length own.half.sent) (bytes_of after.half.sent) ≡ made.sent
    pub stage : Stage after
    pub asks : IsAsked
    pub room : ¬ HasNoRoom

  abbrev pub IsRight : Result StoredStepped Stop → Type 0
  IsRight (Ok made) = IsMade made
  IsRight (Err BadStep) = ¬ IsAsked
  IsRight (Err Full) = IsAsked × HasNoRoom

  -- what sends nothing is made
  pub kept_right : {end : StoredEnd} {records : List Record} (after : End) → MakesAll other.half own.half records after.half → stored after ≡ end →
      after.half.sent ≡ own.half.sent → Stage after → IsAsked → ¬ HasNoRoom → IsMade (record { end = end; sent = []; records = records })
  kept_right after makes same sent stage asks room = record {
    after = after;
    makes = makes;
    same = same;
    sent = rw sent (none_behind own.half.sent);
    stage = stage;
    asks = asks;
    room = room;
  }

  -- it is made by a test, which passes where the step may be made
  pub so_right : (b : Bool) (next : Result StoredStepped Stop) → (IsAsked → b ≡ true) → (b ≡ true → IsRight next) → IsRight (if_so b next)
  so_right true next passes made = made refl
  so_right false next passes made = λ asks. let e = passes asks in cc

  -- a step that gives no address is never full
  pub never_full : gives_address step ≡ false → ¬ HasNoRoom
  never_full none full = let e = sym full.gives ∙ none in cc

-- ---- the line

next_there : (passed : ℕ) (units : List LayersUnit) →
    slice_get (drop passed (bytes_of units)) 0 ≡ option_map (λ (unit : LayersUnit). unit.bytes) (slice_get units passed)
next_there passed units = rw (slice_get-drop passed 0 (bytes_of units), add-zero) (slice_get-map (λ (unit : LayersUnit). unit.bytes) units passed)

pub next_is : (own other : End) (unit : LayersUnit) → slice_get other.half.sent own.passed ≡ Some unit → IsNext (coming own other.half) unit.bytes
next_is own other unit there = next_there own.passed other.half.sent ∙ ap (option_map (λ (unit : LayersUnit). unit.bytes)) there

-- ---- the cases of a step

module _ (own other : End) (now : StoredNow own other) (step : StepValue) where
  -- an address is left, or none
  pub giving_right : (made : Result StoredStepped Stop) → gives_address step ≡ true → IsAsked own other step →
      (own.addresses < MAX_LINK → IsRight own other step made) → IsRight own other step (cond (nat_lt own.addresses MAX_LINK) made (Err Full))
  giving_right made gives asks left = go (nat_lt own.addresses MAX_LINK) refl
    where
      go : (b : Bool) → nat_lt own.addresses MAX_LINK ≡ b → IsRight own other step (cond b made (Err Full))
      go true e = left (ltb-true own.addresses MAX_LINK e)
      go false e = (asks, record { gives = gives; used = ltb-false own.addresses MAX_LINK e })

  -- a unit is on the line, or none
  pub unit_right : (next : List ℕ → Result StoredStepped Stop) → (IsAsked own other step → HasNext (coming own other.half)) →
      ((unit : LayersUnit) → slice_get other.half.sent own.passed ≡ Some unit → IsRight own other step (next unit.bytes)) →
      IsRight own other step (with_next (coming own other.half) next)
  unit_right next asked some = go (coming own other.half) (next_there own.passed other.half.sent) asked (slice_get other.half.sent own.passed) refl
    where
      go : (line : List (List ℕ)) → slice_get line 0 ≡ option_map (λ (unit : LayersUnit). unit.bytes) (slice_get other.half.sent own.passed) →
          (IsAsked own other step → HasNext line) → (o : Option LayersUnit) → slice_get other.half.sent own.passed ≡ o →
          IsRight own other step (with_next line next)
      go [] first asked o is = λ asks. let e = (asked asks).1 in cc
      go (bytes ∷ later) first asked None none = let e = first ∙ ap (option_map (λ (unit : LayersUnit). unit.bytes)) none in absurd cc
      go (bytes ∷ later) first asked (Some unit) there =
          let e = first ∙ ap (option_map (λ (unit : LayersUnit). unit.bytes)) there in
          subst (λ (x : List ℕ). IsRight own other step (next x)) (sym (same_Some bytes unit.bytes e)) (some unit there)
