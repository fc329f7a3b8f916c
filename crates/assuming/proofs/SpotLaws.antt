-- What is among records stays so where more come, and what the next one adds.
use Rattle.std.proofs.Common.{◌≡◌, ℕ, zero, suc, ◌+◌, ◌≤◌, Bool, true, false, List, [], ◌∷◌, ◌++◌, length, Some, refl, sym, ap, subst, ◌∙◌, arith}
use Rattle.std.specs.Prelude.{if◌then◌else◌, slice_get, IfSome}
use Rattle.std.specs.List.{AllByRecursion}
use Rattle.std.proofs.lemmas.List.{append_assoc}
use Rattle.capture_record.specs.Entries.{record_with}
use Rattle.capture_record.specs.Fates.{is_kept}
use Rattle.capture_record.specs.declared.entry.Entry.{Entry}
use Rattle.capture_record.specs.declared.entry.Entry.TheVariants as entries
use Rattle.capture_record.specs.declared.event.Event.TheVariants.{Start}
use Rattle.capture_record.specs.declared.fate.Fate.{Fate}
use Rattle.capture_record.specs.declared.record.Record.{Record}
use Rattle.capture_record.specs.declared.record.Record.TheVariants.{Sent, Received, Noise, User}
use Rattle.dna_packet.specs.Nsp.{NspValue}
use Rattle.placing.specs.Placed.{units_sent}
use Rattle.assuming.specs.Assuming.{IsAmong, IsCalled, IsSent, IsStart, caller_of, kept_since, kind_of}
use Rattle.assuming.specs.Messages.{message_in_unit}
use Rattle.assuming.specs.declared.message.Kind.{Kind}
use Rattle.assuming.specs.declared.spots.Basis.{Basis}
use Rattle.assuming.specs.declared.spots.Basis.TheVariants.{Starts, Sends, Called}
use Rattle.assuming.specs.declared.spots.Spot.{Spot}
use Rattle.assuming.specs.inner.Spots.{AreOf, IsBasis, IsSpot, Kept, with_spot}

-- ---- lists

pub All-push : {X : Type 0} (P : X → Type 0) (xs : List X) (x : X) → AllByRecursion P xs → P x → AllByRecursion P (xs ++ x ∷ [])
All-push P [] x all this = (this, tt)
All-push P (y ∷ ys) x all this = (all.0, All-push P ys x all.1 this)

pub All-on : {X : Type 0} (P Q : X → Type 0) → ((x : X) → P x → Q x) → (xs : List X) → AllByRecursion P xs → AllByRecursion Q xs
All-on P Q on [] all = tt
All-on P Q on (x ∷ xs) all = (on x all.0, All-on P Q on xs all.1)

-- ---- one record more

-- how many units there are then, and how many packets were kept since the last
abbrev pub units_after : ℕ → Record → ℕ
units_after units (Sent bytes) = units + 1
units_after units (Received hint fate bytes) = units
units_after units (Noise bytes) = units
units_after units (User event) = units

abbrev pub kept_after : ℕ → Record → ℕ
kept_after kept (Sent bytes) = 0
kept_after kept (Received hint fate bytes) = if is_kept fate then kept + 1 else kept
kept_after kept (Noise bytes) = kept
kept_after kept (User event) = kept

one_more : (r : Record) (units all : ℕ) → all ≡ units_after units r → suc all ≡ units_after (suc units) r
one_more (Sent bytes) units all e = omega (arith, e)
one_more (Received hint fate bytes) units all e = ap suc e
one_more (Noise bytes) units all e = ap suc e
one_more (User event) units all e = ap suc e

units_next : (rs : List Record) (r : Record) → length (units_sent (rs ++ r ∷ [])) ≡ units_after (length (units_sent rs)) r
units_next [] (Sent bytes) = refl
units_next [] (Received hint fate bytes) = refl
units_next [] (Noise bytes) = refl
units_next [] (User event) = refl
units_next (Sent bytes ∷ rs) r = one_more r (length (units_sent rs)) _ (units_next rs r)
units_next (Received hint fate bytes ∷ rs) r = units_next rs r
units_next (Noise bytes ∷ rs) r = units_next rs r
units_next (User event ∷ rs) r = units_next rs r

kept_next : (kept : ℕ) (rs : List Record) (r : Record) → kept_since kept (rs ++ r ∷ []) ≡ kept_after (kept_since kept rs) r
kept_next kept [] (Sent bytes) = refl
kept_next kept [] (Received hint fate bytes) = refl
kept_next kept [] (Noise bytes) = refl
kept_next kept [] (User event) = refl
kept_next kept (Sent bytes ∷ rs) r = kept_next 0 rs r
kept_next kept (Received hint fate bytes ∷ rs) r = kept_next (if is_kept fate then kept + 1 else kept) rs r
kept_next kept (Noise bytes ∷ rs) r = kept_next kept rs r
kept_next kept (User event ∷ rs) r = kept_next kept rs r

module _ (rs : List Record) (x : Record) where
  among_on : (unit : ℕ) (before : List Record) (r : Record) → IsAmong rs unit before r → IsAmong (rs ++ x ∷ []) unit before r
  among_on unit before r h = record {
    after = h.after ++ x ∷ [];
    are = ap (λ (all : List Record). all ++ x ∷ []) h.are ∙ append_assoc before (r ∷ h.after) (x ∷ []);
    unit_is = h.unit_is;
  }

  basis_on : (unit : ℕ) (basis : Basis) → IsBasis rs unit basis → IsBasis (rs ++ x ∷ []) unit basis
  basis_on unit (Starts kept) h = record { before = h.before; among = among_on unit h.before (User Start) h.among; kept_is = h.kept_is }
  basis_on unit (Sends kind) h = record {
    before = h.before;
    bytes = h.bytes;
    among = among_on unit h.before (Sent h.bytes) h.among;
    message = h.message;
    says = h.says;
    kind_is = h.kind_is;
  }
  basis_on unit (Called came partner) h = record {
    before = h.before;
    fate = h.fate;
    bytes = h.bytes;
    among = among_on unit h.before (Received came h.fate h.bytes) h.among;
    kept = h.kept;
    message = h.message;
    says = h.says;
    caller = h.caller;
    some = h.some;
  }

  -- all spots stay
  pub spots_on : (spots : List Spot) → AllByRecursion (IsSpot rs) spots → AllByRecursion (IsSpot (rs ++ x ∷ [])) spots
  spots_on spots all =
      All-on (IsSpot rs) (IsSpot (rs ++ x ∷ [])) (λ (spot : Spot) h. basis_on spot.unit spot.basis h) spots all

  -- they are the spots of another, where those are the same
  pub spots_are : (new old : List Spot) → new ≡ old → AllByRecursion (IsSpot (rs ++ x ∷ [])) old → AllByRecursion (IsSpot (rs ++ x ∷ [])) new
  spots_are new old same all = subst (AllByRecursion (IsSpot (rs ++ x ∷ []))) (sym same) all

  -- this one is among them
  pub here : (k : Kept) → AreOf rs k → IsAmong (rs ++ x ∷ []) k.units rs x
  here k h = record { after = []; are = refl; unit_is = h.units_are }

  -- the spots of all of them, and both counts
  pub goes_on : (k new : Kept) → AreOf rs k → AllByRecursion (IsSpot (rs ++ x ∷ [])) new.spots → new.units ≡ units_after k.units x →
      new.kept ≡ kept_after k.kept x → AreOf (rs ++ x ∷ []) new
  goes_on k new h each units kept = record {
    each = each;
    units_are = units_next rs x ∙ ap (λ (n : ℕ). units_after n x) h.units_are ∙ sym units;
    kept_are = kept_next 0 rs x ∙ ap (λ (n : ℕ). kept_after n x) h.kept_are ∙ sym kept;
  }

  -- and this one more
  pub put_on : (k : Kept) → AreOf rs k → (basis : Basis) → IsBasis (rs ++ x ∷ []) k.units basis →
      AllByRecursion (IsSpot (rs ++ x ∷ [])) (with_spot k basis).spots
  put_on k h basis this = All-push (IsSpot (rs ++ x ∷ [])) k.spots (record { unit = k.units; basis = basis }) (spots_on k.spots h.each) this

  -- where nothing is put and no count changes
  pub stays : (k : Kept) → AreOf rs k → k.units ≡ units_after k.units x → k.kept ≡ kept_after k.kept x → AreOf (rs ++ x ∷ []) k
  stays k h units kept = goes_on k k h (spots_on k.spots h.each) units kept

-- a unit with this message
pub sent_here : (rs : List Record) (bytes : List ℕ) (k : Kept) → AreOf rs k → (message : NspValue) → message_in_unit bytes ≡ Some message →
    (kind : Kind) → kind_of message ≡ kind → IsSent (rs ++ Sent bytes ∷ []) k.units kind
sent_here rs bytes k h message says kind is = record {
  before = rs;
  bytes = bytes;
  among = here rs (Sent bytes) k h;
  message = message;
  says = says;
  kind_is = is;
}

-- a call
pub called_here : (rs : List Record) (came : ℕ) (fate : Fate) (bytes : List ℕ) (k : Kept) → AreOf rs k → is_kept fate ≡ true →
    (message : NspValue) → message_in_unit bytes ≡ Some message → (partner : ℕ) → caller_of message ≡ partner → 1 ≤ partner →
    IsCalled (rs ++ Received came fate bytes ∷ []) k.units came partner
called_here rs came fate bytes k h kept message says partner is some = record {
  before = rs;
  fate = fate;
  bytes = bytes;
  among = here rs (Received came fate bytes) k h;
  kept = kept;
  message = message;
  says = says;
  caller = is;
  some = some;
}

-- a start
pub start_here : (rs : List Record) (k : Kept) → AreOf rs k → (kept : ℕ) → k.kept ≡ kept → IsStart (rs ++ User Start ∷ []) k.units kept
start_here rs k h kept is = record { before = rs; among = here rs (User Start) k h; kept_is = h.kept_are ∙ is }

-- a packet that is kept, and one that is not
pub one_kept : (kept hint : ℕ) (fate : Fate) (bytes : List ℕ) → is_kept fate ≡ true → kept + 1 ≡ kept_after kept (Received hint fate bytes)
one_kept kept hint fate bytes is = ap (λ (b : Bool). if b then kept + 1 else kept) (sym is)

pub none_kept : (kept hint : ℕ) (fate : Fate) (bytes : List ℕ) → is_kept fate ≡ false → kept ≡ kept_after kept (Received hint fate bytes)
none_kept kept hint fate bytes is = ap (λ (b : Bool). if b then kept + 1 else kept) (sym is)

-- all other records
pub others : (rs : List Record) (k : Kept) (bytes : List ℕ) (entry : Entry) → (entry ≡ entries.Sent → ⊥) →
    ((fate : Fate) (hint : ℕ) → entry ≡ entries.Received fate hint → ⊥) → AreOf rs k → AreOf (rs ++ record_with entry bytes ∷ []) k
others rs k bytes entries.Sent no_unit no_receipt h = absurd (no_unit refl)
others rs k bytes (entries.Received fate hint) no_unit no_receipt h = absurd (no_receipt fate hint refl)
others rs k bytes entries.Noise no_unit no_receipt h = stays rs _ k h refl refl
others rs k bytes entries.Start no_unit no_receipt h = stays rs _ k h refl refl
others rs k bytes entries.Halt no_unit no_receipt h = stays rs _ k h refl refl
others rs k bytes (entries.Open link) no_unit no_receipt h = stays rs _ k h refl refl
others rs k bytes (entries.Accept partner link) no_unit no_receipt h = stays rs _ k h refl refl
others rs k bytes (entries.Reject partner link) no_unit no_receipt h = stays rs _ k h refl refl
others rs k bytes (entries.In link) no_unit no_receipt h = stays rs _ k h refl refl
others rs k bytes (entries.Up link) no_unit no_receipt h = stays rs _ k h refl refl
others rs k bytes (entries.Close link) no_unit no_receipt h = stays rs _ k h refl refl
others rs k bytes entries.Boot no_unit no_receipt h = stays rs _ k h refl refl
others rs k bytes (entries.Abort link) no_unit no_receipt h = stays rs _ k h refl refl
others rs k bytes entries.Composed no_unit no_receipt h = stays rs _ k h refl refl
others rs k bytes (entries.Interrupt link) no_unit no_receipt h = stays rs _ k h refl refl
others rs k bytes (entries.Interrupted link) no_unit no_receipt h = stays rs _ k h refl refl

-- where this is kept of each of them, it is kept of the one found
pub All-found : {X : Type 0} (P : X → Type 0) (xs : List X) (place : ℕ) → AllByRecursion P xs → IfSome (slice_get xs place) P
All-found P [] place all = tt
All-found P (x ∷ xs) zero all = all.0
All-found P (x ∷ xs) (suc place) all = All-found P xs place all.1
