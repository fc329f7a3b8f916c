-- The same over all units that are coming to a station.
use Rattle.std.proofs.Common.{◌≡◌, ℕ, ◌<◌, ◌≤◌, Bool, true, false, List, [], ◌∷◌, ◌++◌, refl, ap, ◌∙◌, arith, subst}
use Rattle.wire_base.specs.Seq.{wire_distance}
use Rattle.ddcmp_msg.specs.Reading.{ReadingValue, reading, Sound, HeaderBad, DataBad, Malformed}
use Rattle.accusing.specs.declared.heard.Heard.{Heard}
use Rattle.accusing.specs.declared.beginning.Beginning.{Beginning}
use Rattle.accusing.specs.Heard.{hears, advanced}
use Rattle.accusing.specs.Beginning.{begins, starts, heard_if}
use Rattle.accusing.specs.Sight.{begins_if}
use Rattle.accusing.proofs.Modulo.{or_either}
use Rattle.accusing.proofs.Orders.{IsHeard, IsWithin, within_itself, within_trans, hears_is, hears_more, hears_mono}
use Rattle.accusing.proofs.Advanced.{advanced_is, advanced_hears}
use Rattle.accusing.proofs.Beginnings.{IsBeginning, ComesFrom, from_itself, from_trans, begins_is, begins_more, begins_mono, if_is, if_mono}
use Rattle.accusing.proofs.Beginnings.{if_first}

-- ---- one unit, by its reading

abbrev pub hears_unit : Heard → ReadingValue → Heard
hears_unit h (Sound m) = hears h m
hears_unit h bad = h

abbrev pub begins_unit : Beginning → ReadingValue → Beginning
begins_unit b (Sound m) = begins b m
begins_unit b bad = b

abbrev pub again_unit : Bool → Beginning → ReadingValue → Beginning
again_unit c g (Sound m) = begins_if c g m
again_unit c g bad = g

pub hears_unit_is : (h : Heard) (r : ReadingValue) → IsHeard h → IsHeard (hears_unit h r)
hears_unit_is h (Sound m) is = hears_is h m is
hears_unit_is h HeaderBad is = is
hears_unit_is h DataBad is = is
hears_unit_is h (Malformed departure) is = is

pub hears_unit_more : (h : Heard) (r : ReadingValue) → IsHeard h → IsWithin h (hears_unit h r)
hears_unit_more h (Sound m) is = hears_more h m is
hears_unit_more h HeaderBad is = within_itself h is
hears_unit_more h DataBad is = within_itself h is
hears_unit_more h (Malformed departure) is = within_itself h is

pub hears_unit_mono : (h t : Heard) (r : ReadingValue) → IsWithin h t → IsWithin (hears_unit h r) (hears_unit t r)
hears_unit_mono h t (Sound m) p = hears_mono h t m p
hears_unit_mono h t HeaderBad p = p
hears_unit_mono h t DataBad p = p
hears_unit_mono h t (Malformed departure) p = p

advanced_unit : (h : Heard) (r : ReadingValue) (resp : ℕ) → IsHeard h → resp < 256 → wire_distance 256 h.received resp ≤ h.reach →
    IsWithin (hears_unit (advanced h resp) r) (advanced (hears_unit h r) resp)
advanced_unit h (Sound m) resp is l d = advanced_hears h m resp is l d
advanced_unit h HeaderBad resp is l d = within_itself _ (advanced_is h resp is l)
advanced_unit h DataBad resp is l d = within_itself _ (advanced_is h resp is l)
advanced_unit h (Malformed departure) resp is l d = within_itself _ (advanced_is h resp is l)

pub begins_unit_is : (b : Beginning) (r : ReadingValue) → IsBeginning b → IsBeginning (begins_unit b r)
begins_unit_is b (Sound m) is = begins_is b m is
begins_unit_is b HeaderBad is = is
begins_unit_is b DataBad is = is
begins_unit_is b (Malformed departure) is = is

pub begins_unit_more : (b : Beginning) (r : ReadingValue) → IsBeginning b → ComesFrom b (begins_unit b r)
begins_unit_more b (Sound m) is = begins_more b m is
begins_unit_more b HeaderBad is = from_itself b is
begins_unit_more b DataBad is = from_itself b is
begins_unit_more b (Malformed departure) is = from_itself b is

pub begins_unit_mono : (b t : Beginning) (r : ReadingValue) → IsBeginning b → ComesFrom b t → ComesFrom (begins_unit b r) (begins_unit t r)
begins_unit_mono b t (Sound m) is p = begins_mono b t m is p
begins_unit_mono b t HeaderBad is p = p
begins_unit_mono b t DataBad is p = p
begins_unit_mono b t (Malformed departure) is p = p

pub again_unit_is : (c : Bool) (g : Beginning) (r : ReadingValue) → IsBeginning g → IsBeginning (again_unit c g r)
again_unit_is c g (Sound m) is = if_is c g m is
again_unit_is c g HeaderBad is = is
again_unit_is c g DataBad is = is
again_unit_is c g (Malformed departure) is = is

pub again_unit_mono : (c d : Bool) (g t : Beginning) (r : ReadingValue) → (d ≡ false → c ≡ false) → IsBeginning g → ComesFrom g t →
    ComesFrom (again_unit c g r) (again_unit d t r)
again_unit_mono c d g t (Sound m) keeps is p = if_mono c d g t m keeps is p
again_unit_mono c d g t HeaderBad keeps is p = p
again_unit_mono c d g t DataBad keeps is p = p
again_unit_mono c d g t (Malformed departure) keeps is p = p

again_unit_first : (c : Bool) (g b : Beginning) (r : ReadingValue) → IsBeginning g → IsBeginning b → ComesFrom g b →
    ComesFrom (again_unit c g r) (begins_unit b r)
again_unit_first c g b (Sound m) is of_b p = if_first c g b m is of_b p
again_unit_first c g b HeaderBad is of_b p = p
again_unit_first c g b DataBad is of_b p = p
again_unit_first c g b (Malformed departure) is of_b p = p

-- ---- all units

abbrev pub hears_all : Heard → List (List ℕ) → Heard
hears_all h [] = h
hears_all h (unit ∷ units) = hears_all (hears_unit h (reading unit)) units

abbrev pub begins_all : Beginning → List (List ℕ) → Beginning
begins_all b [] = b
begins_all b (unit ∷ units) = begins_all (begins_unit b (reading unit)) units

abbrev pub again_all : (b g : Beginning) → List (List ℕ) → Beginning
again_all b g [] = g
again_all b g (unit ∷ units) = again_all (begins_unit b (reading unit)) (again_unit b.run g (reading unit)) units

pub hears_all_split : (h : Heard) (before : List (List ℕ)) (unit : List ℕ) (later : List (List ℕ)) →
    hears_all h (before ++ unit ∷ later) ≡ hears_all (hears_unit (hears_all h before) (reading unit)) later
hears_all_split h [] unit later = refl
hears_all_split h (first ∷ before) unit later = hears_all_split (hears_unit h (reading first)) before unit later

pub begins_all_split : (b : Beginning) (before : List (List ℕ)) (unit : List ℕ) (later : List (List ℕ)) →
    begins_all b (before ++ unit ∷ later) ≡ begins_all (begins_unit (begins_all b before) (reading unit)) later
begins_all_split b [] unit later = refl
begins_all_split b (first ∷ before) unit later = begins_all_split (begins_unit b (reading first)) before unit later

pub again_all_split : (b g : Beginning) (before : List (List ℕ)) (unit : List ℕ) (later : List (List ℕ)) →
    again_all b g (before ++ unit ∷ later)
    ≡ again_all (begins_unit (begins_all b before) (reading unit)) (again_unit (begins_all b before).run (again_all b g before) (reading unit)) later
again_all_split b g [] unit later = refl
again_all_split b g (first ∷ before) unit later = again_all_split (begins_unit b (reading first))
    (again_unit b.run g (reading first)) before unit later

pub hears_all_more : (h : Heard) (units : List (List ℕ)) → IsHeard h → IsWithin h (hears_all h units)
hears_all_more h [] is = within_itself h is
hears_all_more h (unit ∷ units) is =
    let first = hears_unit_more h (reading unit) is in
    within_trans h (hears_unit h (reading unit)) (hears_all (hears_unit h (reading unit)) units) first
    (hears_all_more (hears_unit h (reading unit)) units first.second)

pub begins_all_more : (b : Beginning) (units : List (List ℕ)) → IsBeginning b → ComesFrom b (begins_all b units)
begins_all_more b [] is = from_itself b is
begins_all_more b (unit ∷ units) is =
    from_trans b (begins_unit b (reading unit)) (begins_all (begins_unit b (reading unit)) units) (begins_unit_more b (reading unit) is)
    (begins_all_more (begins_unit b (reading unit)) units (begins_unit_is b (reading unit) is))

pub again_all_is : (b g : Beginning) (units : List (List ℕ)) → IsBeginning g → IsBeginning (again_all b g units)
again_all_is b g [] is = is
again_all_is b g (unit ∷ units) is = again_all_is (begins_unit b (reading unit))
    (again_unit b.run g (reading unit)) units (again_unit_is b.run g (reading unit) is)

-- ---- from a later number on

advanced_all_from : (t h : Heard) (units : List (List ℕ)) (resp : ℕ) → IsHeard h → resp < 256 → wire_distance 256 h.received resp ≤ h.reach →
    IsWithin t (advanced h resp) → IsWithin (hears_all t units) (advanced (hears_all h units) resp)
advanced_all_from t h [] resp is l d p = p
advanced_all_from t h (unit ∷ units) resp is l d p =
    let more = hears_unit_more h (reading unit) is in
    let near : wire_distance 256 (hears_unit h (reading unit)).received resp ≤ (hears_unit h (reading unit)).reach =
    subst (λ (x : ℕ). wire_distance 256 x resp ≤ (hears_unit h (reading unit)).reach) more.received (omega (arith, more.reach)) in
    advanced_all_from (hears_unit t (reading unit)) (hears_unit h (reading unit)) units resp more.second l near
    (within_trans (hears_unit t (reading unit)) (hears_unit (advanced h resp) (reading unit)) (advanced (hears_unit h (reading unit)) resp)
    (hears_unit_mono t (advanced h resp) (reading unit) p) (advanced_unit h (reading unit) resp is l d))

pub advanced_all : (h : Heard) (units : List (List ℕ)) (resp : ℕ) → IsHeard h → resp < 256 → wire_distance 256 h.received resp ≤ h.reach →
    IsWithin (hears_all (advanced h resp) units) (advanced (hears_all h units) resp)
advanced_all h units resp is l d = advanced_all_from (advanced h resp) h units resp is l d (within_itself (advanced h resp)
    (advanced_is h resp is l))

-- ---- once RUNNING was reached

run_unit : (b : Beginning) (r : ReadingValue) → b.run ≡ true → (begins_unit b r).run ≡ true
run_unit b (Sound m) e = or_either b.run (starts b m) e
run_unit b HeaderBad e = e
run_unit b DataBad e = e
run_unit b (Malformed departure) e = e

-- what is heard then is heard
heard_run : (b : Beginning) (r : ReadingValue) → b.run ≡ true → (begins_unit b r).heard ≡ hears_unit b.heard r
heard_run b (Sound m) e = ap (λ c. heard_if c b.heard m) (or_either b.run (starts b m) e)
heard_run b HeaderBad e = refl
heard_run b DataBad e = refl
heard_run b (Malformed departure) e = refl

pub heard_all_run : (b : Beginning) (units : List (List ℕ)) → b.run ≡ true → (begins_all b units).heard ≡ hears_all b.heard units
heard_all_run b [] e = refl
heard_all_run b (unit ∷ units) e =
    heard_all_run (begins_unit b (reading unit)) units (run_unit b (reading unit) e)
    ∙ ap (λ h. hears_all h units) (heard_run b (reading unit) e)

again_run : (c : Bool) (g : Beginning) (r : ReadingValue) → c ≡ true → again_unit c g r ≡ begins_unit g r
again_run c g (Sound m) e = ap (λ x. begins_if x g m) e
again_run c g HeaderBad e = refl
again_run c g DataBad e = refl
again_run c g (Malformed departure) e = refl

pub again_all_run : (b g : Beginning) (units : List (List ℕ)) → b.run ≡ true → again_all b g units ≡ begins_all g units
again_all_run b g [] e = refl
again_all_run b g (unit ∷ units) e =
    ap (λ x. again_all (begins_unit b (reading unit)) x units) (again_run b.run g (reading unit) e)
    ∙ again_all_run (begins_unit b (reading unit)) (begins_unit g (reading unit)) units (run_unit b (reading unit) e)

-- ---- what can have come after RUNNING can have come after the start

pub again_all_first : (b g t : Beginning) (units : List (List ℕ)) → IsBeginning g → IsBeginning t → ComesFrom g t →
    ComesFrom (again_all b g units) (begins_all t units)
again_all_first b g t [] is of_t p = p
again_all_first b g t (unit ∷ units) is of_t p =
    again_all_first (begins_unit b (reading unit)) (again_unit b.run g (reading unit)) (begins_unit t (reading unit)) units
    (again_unit_is b.run g (reading unit) is) (begins_unit_is t (reading unit) of_t) (again_unit_first b.run g t (reading unit) is of_t p)
