-- A side for which records exist is never refuted.
use Rattle.std.proofs.Common.{◌≡◌, ℕ, Bool, true, false, cond, Option, Some, None, Result, Ok, Err, List, [], ◌∷◌, ◌++◌, refl, sym, ap, subst, ◌∙◌}
use Rattle.std.proofs.Common.{◌⊎◌, inl, inr}
use Rattle.ddcmp_msg.specs.declared.nak_reason.NakReason.{NakReason}
use Rattle.ddcmp_msg.specs.declared.nak_reason.NakReason.TheVariants.{HeaderCheck, DataCheck}
use Rattle.ddcmp_msg.specs.Message.{MessageValue, IsBytes}
use Rattle.ddcmp_msg.specs.Reading.{ReadingValue, reading, Sound, HeaderBad, DataBad, Malformed}
use Rattle.capture_record.specs.declared.fate.Fate.{Fate}
use Rattle.capture_record.specs.declared.fate.Fate.TheVariants.{NotKept}
use Rattle.capture_record.specs.Fates.{is_kept}
use Rattle.capture_record.specs.declared.record.Record.{Record}
use Rattle.capture_record.specs.declared.event.Event.{Event}
use Rattle.capture_record.specs.declared.event.Event.TheVariants as events
use Rattle.dna_station.specs.declared.state.StationEvent.TheVariants.{Halt}
use Rattle.dna_station.specs.declared.tag.Tag.{Tag}
use Rattle.dna_station.specs.declared.refusal.StationRefusal.{StationRefusal}
use Rattle.dna_station.specs.Table.{row, counts_damage}
use Rattle.dna_station.specs.Book.{damaged_by}
use Rattle.dna_station.specs.Machine.{unless_refused}
use Rattle.dna_station.specs.WireStation.{StationVariables, WireStation, new_wire_station, wire_after_event}
use Rattle.dna_station.specs.WireBook.{wire_book, wire_after_sending, wire_sending_refusal}
use Rattle.accusing.specs.declared.wrong.Wrong.{Wrong}
use Rattle.accusing.specs.Beginning.{nothing_passed}
use Rattle.accusing.specs.Sight.{Sight, first_sight, passes, sends, sends_message, then_all, all_passed}
use Rattle.accusing.specs.Placing.{Passed, IsDamage, machine, comes, IsPlacedFrom, Ends, Passes, Sends, Hears, HearsNoise, Acts, IsPlacing}
use Rattle.accusing.proofs.Beginnings.{nothing_is, from_itself}
use Rattle.accusing.proofs.Fits.{HasBegun}
use Rattle.accusing.proofs.Arrivals.{after_effects, variables_of}
use Rattle.accusing.proofs.Bytes.{byte_of}
use Rattle.accusing.proofs.Covering.{Covers, covers_passes, covers_skips, covers_hears}
use Rattle.accusing.proofs.Goes.{Goes}
use Rattle.accusing.proofs.Own.{same_period}
use Rattle.accusing.proofs.OwnData.{own_goes}

not_refused : {X : Type 0} (o : Option StationRefusal) (x y : X) → unless_refused o x ≡ Ok y → (o ≡ None) × (x ≡ y)
not_refused None x y e = (refl, cc)
not_refused (Some refusal) x y e = absurd cc

pub record IsAccepted (answer : Result Sight Wrong) : Type 0 where
  pub sight : Sight
  pub is : answer ≡ Ok sight

module _ {L : Type 0} where
  -- ---- what comes

  -- a cause more changes no variable
  damage_keeps : (w : WireStation L) (reason : NakReason) → (damaged_by wire_book reason w).variables ≡ w.variables
  damage_keeps w reason = go (counts_damage w.variables.state)
    where
      go : (b : Bool) → (cond b (wire_book.counts reason w) w).variables ≡ w.variables
      go true = refl
      go false = refl

  damage_comes : (w after : WireStation L) (tag : Tag) (fate : Fate) (r : ReadingValue) → IsDamage r → comes machine w tag fate r ≡ Ok after →
      after.variables ≡ w.variables
  damage_comes w after tag fate HeaderBad is e =
      sym (ap (λ (x : WireStation L). x.variables) (not_refused _ _ after e).1) ∙ damage_keeps w HeaderCheck
  damage_comes w after tag fate DataBad is e =
      sym (ap (λ (x : WireStation L). x.variables) (not_refused _ _ after e).1) ∙ damage_keeps w DataCheck
  damage_comes w after tag fate (Sound m) is e = absurd is
  damage_comes w after tag fate (Malformed departure) is e = absurd is

  message_comes : (w after : WireStation L) (tag : Tag) (fate : Fate) (m : MessageValue) → comes machine w tag fate (Sound m) ≡ Ok after →
      after.variables ≡ after_effects m (is_kept fate) w.variables (row w.variables.state m).effects
  message_comes w after tag fate m e =
      sym (ap (λ (x : WireStation L). x.variables) (not_refused _ _ after e).1)
      ∙ variables_of m tag (is_kept fate) w (row w.variables.state m).effects

  -- a unit comes as it passed, or damaged
  unit_comes : (s : Sight) (lost : List (List ℕ)) (unit : List ℕ) (later : List (List ℕ)) (w after : WireStation L) (tag : Tag) (fate : Fate)
      (bytes : List ℕ) (r : ReadingValue) → IsBytes bytes → (bytes ≡ unit) ⊎ IsDamage r → reading bytes ≡ r → comes machine w tag fate r ≡ Ok after →
      Covers s (lost ++ unit ∷ later) w.variables → Covers s later after.variables
  unit_comes s lost unit later w after tag fate bytes (Sound m) are (inl same) read e c =
      subst (λ (x : StationVariables L). Covers s later x) (sym (message_comes w after tag fate m e))
      (covers_hears s lost unit later w.variables c m (ap reading (sym same) ∙ read) (is_kept fate) (byte_of bytes are m read))
  unit_comes s lost unit later w after tag fate bytes (Sound m) are (inr damage) read e c = absurd damage
  unit_comes s lost unit later w after tag fate bytes HeaderBad are how read e c =
      subst (λ (x : StationVariables L). Covers s later x) (sym (damage_comes w after tag fate HeaderBad tt e))
      (covers_skips s lost unit later w.variables c)
  unit_comes s lost unit later w after tag fate bytes DataBad are how read e c =
      subst (λ (x : StationVariables L). Covers s later x) (sym (damage_comes w after tag fate DataBad tt e))
      (covers_skips s lost unit later w.variables c)
  unit_comes s lost unit later w after tag fate bytes (Malformed departure) are how read e c =
      let same : w ≡ after = cc in
      subst (λ (x : WireStation L). Covers s later x.variables) same (covers_skips s lost unit later w.variables c)

  -- ---- what the user does

  in_other_state : (s : Sight) (coming : List (List ℕ)) (k t : StationVariables L) (c : Covers s coming k) → HasBegun c.begun t → Covers s coming t
  in_other_state s coming k t c begun = same_period s coming k c s t refl refl refl (inl begun)

  user_acts : (s : Sight) (coming : List (List ℕ)) (w after : WireStation L) (event : Event) → machine.user w event ≡ Ok after →
      Covers s coming w.variables → Covers s coming after.variables
  user_acts s coming w after events.Start e c =
      subst (λ (x : WireStation L). Covers s coming x.variables) (not_refused _ _ after e).1
      (in_other_state s coming w.variables _ c
      (record { received = refl; given = record { acknowledged = refl; ahead = refl; held = refl } }))
  user_acts s coming w after events.Halt e c =
      let same : wire_after_event w Halt ≡ after = cc in
      subst (λ (x : WireStation L). Covers s coming x.variables) same
      (in_other_state s coming w.variables (wire_after_event w Halt).variables c tt)
  user_acts s coming w after events.Boot e c =
      let same : wire_after_event w Halt ≡ after = cc in
      subst (λ (x : WireStation L). Covers s coming x.variables) same
      (in_other_state s coming w.variables (wire_after_event w Halt).variables c tt)
  user_acts s coming w after event e c = let same : w ≡ after = cc in subst (λ (x : WireStation L). Covers s coming x.variables) same c

  -- ---- all records

  -- what was sent is no refutation, and what follows is none
  own_unit : (sight : Sight) (coming : List (List ℕ)) (k : StationVariables L) (unit : List ℕ) (m : MessageValue) (later : List Passed) →
      reading unit ≡ Sound m → Goes (sends_message sight m) coming k → ((next : Sight) → Covers next coming k → IsAccepted (all_passed next later)) →
      IsAccepted (then_all (sends sight (reading unit)) (λ next. all_passed next later))
  own_unit sight coming k unit m later read g next =
      let is : sends sight (reading unit) ≡ Ok g.sight = ap (sends sight) read ∙ g.is in
      subst (λ (x : Result Sight Wrong). IsAccepted (then_all x (λ n. all_passed n later))) (sym is) (next g.sight g.covers)

  pub not_refuted : {w : WireStation L} {front : ℕ} {coming : List (List ℕ)} {passed : List Passed} {records : List Record} →
      IsPlacedFrom machine w front coming passed records → (sight : Sight) → Covers sight coming w.variables → IsAccepted (all_passed sight passed)
  not_refuted Ends sight c = record { sight = sight; is = refl }
  not_refuted (Passes {coming = coming} {unit = unit} later) sight c =
      not_refuted later (passes sight (reading unit)) (covers_passes sight coming unit _ c)
  not_refuted (Sends {s = w} {coming = coming} {unit = unit} {passed = passed} m after known read made later) sight c =
      let parts = not_refused (wire_sending_refusal w m) (wire_after_sending w m, wire_book.known w (wire_after_sending w m) m)
      (after, known) made in
      let same : wire_after_sending w m ≡ after = ap (λ (x : WireStation L × Tag). x.0) parts.1 in
      own_unit sight coming after.variables unit m passed read
      (subst (λ (x : WireStation L). Goes (sends_message sight m) coming x.variables) same (own_goes sight coming w m c parts.0))
      (not_refuted later)
  not_refuted (Hears {s = w} {coming = coming} lost unit rest are hint hinted bytes byte how tag fate after made later) sight c =
      not_refuted later sight
      (unit_comes sight lost unit rest w after tag fate bytes (reading bytes) byte how refl made
      (subst (λ (x : List (List ℕ)). Covers sight x w.variables) are c))
  not_refuted (HearsNoise {s = w} {coming = coming} bytes damage tag after made later) sight c =
      not_refuted later sight
      (subst (λ (x : StationVariables L). Covers sight coming x) (sym (damage_comes w after tag NotKept (reading bytes) damage made)) c)
  not_refuted (Acts {s = w} {coming = coming} event after made later) sight c = not_refuted later sight (user_acts sight coming w after event made c)

  -- ---- from the beginning

  first_covers : Covers first_sight [] (new_wire_station {L = L}).variables
  first_covers = record {
    begun = nothing_passed;
    again = nothing_passed;
    is_begun = nothing_is;
    is_again = nothing_is;
    first = from_itself nothing_passed nothing_is;
    second = λ e. from_itself nothing_passed nothing_is;
    what = inl tt;
  }

-- units that refute a right station have no placing
pub never_placed : {L : Type 0} (passed : List Passed) (records : List Record) (wrong : Wrong) → all_passed first_sight passed ≡ Err wrong →
    IsPlacing L passed records → ⊥
never_placed {L} passed records wrong refuted placing =
    let accepted = not_refuted placing first_sight (first_covers {L = L}) in
    let is : all_passed first_sight passed ≡ Ok accepted.sight = accepted.is in
    cc
