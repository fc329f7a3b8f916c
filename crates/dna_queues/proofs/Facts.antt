-- Facts of tests, phases and refusals that many proofs name.
use Rattle.dna_queues.proofs.Prelude.{◌≡◌, Bool, true, false, Result, Ok, refl, ap, Option, Some, None, Err, LinkRefusal, Phase, Calling}
use Rattle.dna_queues.proofs.Prelude.{Confirming, Running, Ended, is_in, is_live, is_connected, LinkOf, check, With, lets_go, drops, drops_segments}
use Rattle.dna_queues.proofs.Prelude.{call_of, TrueSegments, true_segments, Numbers, Sent, on_ok}

-- what follows from a test whichever way it goes
pub by_test : {P : Type 0} (b : Bool) → (b ≡ true → P) → (b ≡ false → P) → P
by_test true so not = so refl
by_test false so not = not refl

pub by_option : {A P : Type 0} (o : Option A) → (o ≡ None → P) → ((x : A) → o ≡ Some x → P) → P
by_option None none some = none refl
by_option (Some x) none some = some x refl

-- from what is never so
pub no_case : {A : Type 0} → false ≡ true → A
no_case e = absurd cc

pub no_other : {A : Type 0} → true ≡ false → A
no_other e = absurd cc

pub not_both : (c : Bool) → c ≡ true → c ≡ false → ⊥
not_both true e f = absurd cc
not_both false e f = absurd cc

pub passed_check : {R : Type 0} (b : Bool) (refusal : LinkRefusal) (next : Result R LinkRefusal) → b ≡ true → check b refusal next ≡ next
passed_check true refusal next e = refl
passed_check false refusal next e = absurd cc

pub same_Ok : {R : Type 0} (x y : R) → ◌≡◌ {A = Result R LinkRefusal} (Ok x) (Ok y) → x ≡ y
same_Ok x y e = cc

pub dead_phase : (p : Phase) → is_live p ≡ false → p ≡ Ended
dead_phase Ended e = refl
dead_phase p e = absurd cc

pub connected_live : (p : Phase) → is_connected p ≡ true → is_live p ≡ true
connected_live Confirming e = refl
connected_live Running e = refl
connected_live p e = absurd cc

pub calling_live : (p : Phase) → is_in Calling p ≡ true → is_live p ≡ true
calling_live Calling e = refl
calling_live p e = absurd cc

pub same_links : (x y : Sent TrueSegments Numbers) → ◌≡◌ {A = Result (Sent TrueSegments Numbers) LinkRefusal} (Ok x) (Ok y) → x.links ≡ y.links
same_links x y e = cc

pub was_ok : {X R : Type 0} (r : Result X LinkRefusal) (next : X → Result R LinkRefusal) (y : R) → on_ok r next ≡ Ok y →
    (x : X) × (r ≡ Ok x) × (next x ≡ Ok y)
was_ok (Ok x) next y e = (x, refl, e)
was_ok (Err refusal) next y e = absurd cc

pub was_ok_first : {X Y R : Type 0} (r : Result X LinkRefusal) (next : X → Result Y LinkRefusal) (last : Y → Result R LinkRefusal) (y : R) →
    on_ok (on_ok r next) last ≡ Ok y → (x : X) × (r ≡ Ok x) × (on_ok (next x) last ≡ Ok y)
was_ok_first (Ok x) next last y e = (x, refl, e)
was_ok_first (Err refusal) next last y e = absurd cc

pub drops_still : (opened : Bool) (f : TrueSegments) → drops_segments true_segments opened f ≡ f
drops_still true f = refl
drops_still false f = refl

-- a call that came is over by its own DC, and nothing of it waits
abbrev pub refused_link : LinkOf TrueSegments → LinkOf TrueSegments
refused_link l = record l { port = record l.port { phase = Ended }; queue = record l.queue { waits = None } }

pub refused_is : (l : LinkOf TrueSegments) → l.port.opened ≡ false → drops true_segments With l ≡ refused_link l
refused_is l came = ap (λ (o : Bool). record l {
  port = record l.port { phase = Ended };
  segments = drops_segments true_segments o l.segments;
  queue = record l.queue { waits = call_of o };
}) came

-- on true numbers nothing is let go
pub lets_still : (before now : Bool) (f : TrueSegments) → lets_go true_segments before now f ≡ f
lets_still true true f = refl
lets_still true false f = refl
lets_still false now f = refl
