-- What effects make of a link's port.
use Rattle.accusing_links.proofs.Prelude.{◌≡◌, Bool, true, false, None, refl, Phase, Called, Ended, Queues, Without, With, is_live, is_in, LinkOf}
use Rattle.accusing_links.proofs.Prelude.{goes_on, goes_to, ends_by_message, drops, forgotten, booted_link, WireSegments, wire_segments}

pub dropped_port : (q : Queues) (l : LinkOf WireSegments) → (drops wire_segments q l).port ≡ record l.port { phase = Ended }
dropped_port Without l = refl
dropped_port With l = refl

pub forgotten_port : (q : Queues) (l : LinkOf WireSegments) → (forgotten wire_segments q l).port ≡ record l.port { own = None }
forgotten_port Without l = refl
forgotten_port With l = refl

pub ended_port : (q : Queues) (l : LinkOf WireSegments) → (ends_by_message wire_segments q l).port ≡ record l.port { phase = Ended }
ended_port Without l = refl
ended_port With l = refl

pub goes_own : (q : Queues) (phase : Phase) (l : LinkOf WireSegments) → (goes_to wire_segments q phase l).port.own ≡ l.port.own
goes_own Without phase l = refl
goes_own With phase l = go (is_live l.port.phase)
  where
    go : (b : Bool) → (goes_on wire_segments b phase l).port.own ≡ l.port.own
    go true = refl
    go false = refl

pub goes_far : (q : Queues) (phase : Phase) (l : LinkOf WireSegments) → (goes_to wire_segments q phase l).port.far ≡ l.port.far
goes_far Without phase l = refl
goes_far With phase l = go (is_live l.port.phase)
  where
    go : (b : Bool) → (goes_on wire_segments b phase l).port.far ≡ l.port.far
    go true = refl
    go false = refl

pub goes_called : (q : Queues) (phase : Phase) (l : LinkOf WireSegments) → is_in Called phase ≡ false →
    is_in Called (goes_to wire_segments q phase l).port.phase ≡ true → is_in Called l.port.phase ≡ true
goes_called Without phase l late e = absurd cc
goes_called With phase l late e = go (is_live l.port.phase) e
  where
    go : (b : Bool) → is_in Called (goes_on wire_segments b phase l).port.phase ≡ true → is_in Called l.port.phase ≡ true
    go true f = absurd cc
    go false f = f

-- a live link goes to another phase, and no more
pub goes_live : (q : Queues) (phase : Phase) (l : LinkOf WireSegments) → is_live l.port.phase ≡ true →
    ((goes_to wire_segments q phase l).port.phase ≡ phase) × ((goes_to wire_segments q phase l).segments ≡ l.segments)
goes_live Without phase l live = (refl, refl)
goes_live With phase l live = go (is_live l.port.phase) live
  where
    go : (b : Bool) → b ≡ true → ((goes_on wire_segments b phase l).port.phase ≡ phase) × ((goes_on wire_segments b phase l).segments ≡ l.segments)
    go true e = (refl, refl)
    go false e = absurd cc

pub booted_port : (q : Queues) (l : LinkOf WireSegments) → (booted_link wire_segments q l).port ≡ record l.port { phase = Ended; own = None }
booted_port Without l = refl
booted_port With l = refl
