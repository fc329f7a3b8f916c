-- What a reading shows of its text, through the steps of a reading.
use Rattle.std.proofs.Common.{◌≡◌, Option, Some, None, Result, Ok, Err, refl}
use Rattle.capture.specs.declared.fault.Departure.{Departure}
use Rattle.capture.specs.declared.fault.Departure.TheVariants.{Syntax, TooLong, TooMany, Part}
use Rattle.capture.specs.Reading.{◌>>=◌, must, or_else}

-- P holds of what was read, and Q of what was read but for its length
abbrev pub Shows : {A : Type 0} → (A → Type 0) → (A → Type 0) → Result A Departure → Type 0
Shows P Q (Ok x) = P x
Shows {A} P Q (Err TooLong) = (x : A) × Q x
Shows P Q (Err Syntax) = Unit {0}
Shows P Q (Err TooMany) = ⊥
Shows P Q (Err Part) = ⊥

pub shows_map : {A B : Type 0} (P Q : A → Type 0) (P' Q' : B → Type 0) (f : A → B) (r : Result A Departure) → Shows P Q r
    → ((x : A) → P x → P' (f x)) → ((x : A) → Q x → Q' (f x)) → Shows P' Q' (r >>= λ x. Ok (f x))
shows_map P Q P' Q' f (Ok x) h p q = p x h
shows_map P Q P' Q' f (Err TooLong) h p q = (f h.0, q h.0 h.1)
shows_map P Q P' Q' f (Err Syntax) h p q = tt
shows_map P Q P' Q' f (Err TooMany) h p q = absurd h
shows_map P Q P' Q' f (Err Part) h p q = absurd h

pub shows_weaker : {A : Type 0} (P Q P' Q' : A → Type 0) (r : Result A Departure) → Shows P Q r → ((x : A) → P x → P' x) → ((x : A) → Q x → Q' x) →
    Shows P' Q' r
shows_weaker P Q P' Q' (Ok x) h p q = p x h
shows_weaker P Q P' Q' (Err TooLong) h p q = (h.0, q h.0 h.1)
shows_weaker P Q P' Q' (Err Syntax) h p q = tt
shows_weaker P Q P' Q' (Err TooMany) h p q = absurd h
shows_weaker P Q P' Q' (Err Part) h p q = absurd h

pub shows_must : {A B : Type 0} (P Q : B → Type 0) (o : Option A) (k : A → Result B Departure) → ((x : A) → o ≡ Some x → Shows P Q (k x)) →
    Shows P Q (must o >>= k)
shows_must P Q None k h = tt
shows_must P Q (Some x) k h = h x refl

pub shows_or_else : {A B : Type 0} (P Q : B → Type 0) (o : Option A) (f : A → Result B Departure) (d : Result B Departure)
    → ((x : A) → o ≡ Some x → Shows P Q (f x)) → Shows P Q d → Shows P Q (or_else o f d)
shows_or_else P Q None f d h e = e
shows_or_else P Q (Some x) f d h e = h x refl
