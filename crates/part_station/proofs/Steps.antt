-- A step of a station that is in a case is in a step of the cases.
use Rattle.std.proofs.Common.{◌≡◌, ◌<◌, Bool, true, false, not, ◌&&◌, ◌||◌, cond, Option, Some, None, Result, Ok, Err, refl, sym, ap, subst, ◌∙◌}
use Rattle.std.proofs.Common.{◌⊎◌, inl, inr, fold}
use Rattle.ddcmp_msg.specs.Message.{MessageValue}
use Rattle.ddcmp_msg.specs.declared.nak_reason.NakReason.{NakReason}
use Rattle.ddcmp_msg.specs.declared.nak_reason.NakReason.TheVariants.{HeaderCheck, DataCheck}
use Rattle.dna_station.specs.declared.state.State.{State}
use Rattle.dna_station.specs.declared.state.State.TheVariants.{Halted, Istrt, Astrt, Running}
use Rattle.dna_station.specs.declared.state.StationEvent.{StationEvent}
use Rattle.dna_station.specs.declared.state.StationEvent.TheVariants.{Start, Halt}
use Rattle.dna_station.specs.declared.tag.Tag.{Tag}
use Rattle.dna_station.specs.declared.refusal.StationRefusal.{StationRefusal}
use Rattle.dna_station.specs.declared.refusal.StationRefusal.TheVariants.{WrongResponse, WrongUserEvent}
use Rattle.dna_station.specs.Table.{user_refusal, row, checks, counts_damage}
use Rattle.dna_station.specs.Book.{ArrivalValue, Sound, HeaderBad, DataBad, failed, keep_refusal, has_packet, num_of, resp_of, damaged_by}
use Rattle.dna_station.specs.WireStation.{wire_after_event}
use Rattle.dna_station.specs.WireBook.{wire_passes, wire_sending_refusal, wire_after_sending, wire_after_arrival, wire_is_next, wire_does, wire_book}
use Rattle.dna_node.specs.Alone.{unknown_period}
use Rattle.part_station.specs.Open.{Open, first_open, open_sending_refusal, open_after_sending, open_arrival_refusal, open_after_arrival, open_ahead}
use Rattle.part_station.specs.Open.{is_restart}
use Rattle.part_station.specs.Cases.{Known, Cases, is_left, is_any, unless}
use Rattle.part_station.specs.Cases.{known_sends, open_sends, after_sending, sending_reason, cases_send, is_wrong}
use Rattle.part_station.specs.Cases.{known_arrival_refusal, known_meets, open_after, open_meets, goes_ahead, ahead_meets, halts, may_meet}
use Rattle.part_station.specs.Cases.{after_arrival, arrival_reason, cases_meet, is_halted, is_halted_state, may_start, started_cases, halted_cases}
use Rattle.part_station.specs.Cases.{cases_user, in_istrt, in_astrt, first_cases}
use Rattle.part_station.proofs.Like.{Variables, IsLike, like_refusal, like_sending, like_arrival_refusal, like_arrival}
use Rattle.part_station.proofs.Reached.{IsBegun, IsReached}
use Rattle.part_station.proofs.Holds.{IsOpen, IsExact, IsCase, InHalted, FromIstrt, FromAstrt, FromRunning, IsAhead}
use Rattle.part_station.proofs.OpenSends.{IsSent, open_sent}
use Rattle.part_station.proofs.OpenMeets.{Becomes, Halts, Stays, Answered, GoesAhead, IsMet, meets_in, meets_damage}

-- the cases make the step, and the station is in one of them
pub record IsMade (w : Known) (made : Result Cases StationRefusal) : Type 0 where
  pub cases : Cases
  pub is : made ≡ Ok cases
  pub case : IsCase w cases

-- ---- a message is sent

left_known : (m : MessageValue) (w k : Known) (slot : Option Known) → slot ≡ Some k → IsLike w k → wire_sending_refusal w m ≡ None →
    known_sends m slot ≡ Some (wire_after_sending k m)
left_known m w k slot e like allowed =
    ap (known_sends m) e ∙ ap (λ (o : Option StationRefusal). unless o (Some (wire_after_sending k m))) (sym (like_refusal w k m like) ∙ allowed)

left_open : (m : MessageValue) (o : Open) (slot : Option Open) → slot ≡ Some o → open_sending_refusal o m ≡ None →
    open_sends m slot ≡ Some (open_after_sending o m)
left_open m o slot e allowed =
    ap (open_sends m) e ∙ ap (λ (r : Option StationRefusal). unless r (Some (open_after_sending o m))) allowed

not_in_halted : (w : Known) (m : MessageValue) → w.variables.state ≡ Halted → wire_sending_refusal w m ≡ None → ⊥
not_in_halted w m halted e =
    let never : failed (wire_passes w m) (checks Halted m) ≡ None = subst (λ (s : State). failed (wire_passes w m) (checks s m) ≡ None) halted e in
    cc

none_left : (m : MessageValue) (slot : Option Open) → slot ≡ None → open_sends m slot ≡ None
none_left m slot e = ap (open_sends m) e

sends_case : (w : Known) (c : Cases) (m : MessageValue) → IsReached w → wire_sending_refusal w m ≡ None → IsCase w c →
    IsCase (wire_after_sending w m) (after_sending c m)
sends_case w c m reached allowed (InHalted e halted) = absurd (not_in_halted w m halted allowed)
sends_case w c m reached allowed (FromIstrt k e like) =
    FromIstrt (wire_after_sending k m) (left_known m w k c.istrt e like allowed) (like_sending w k m like)
sends_case w c m reached allowed (FromAstrt k e like) =
    FromAstrt (wire_after_sending k m) (left_known m w k c.astrt e like allowed) (like_sending w k m like)
sends_case w c m reached allowed (FromRunning o e is which) =
    let sent = open_sent w o is reached m allowed in
    FromRunning (open_after_sending o m) (left_open m o c.running e sent.allowed) sent.holds (go sent which)
  where
    go : IsSent w o m → (c.ahead ≡ None) ⊎ IsExact o.numbers → (open_sends m c.ahead ≡ None) ⊎ IsExact (open_after_sending o m).numbers
    go sent (inl none) = inl (none_left m c.ahead none)
    go sent (inr exact) = inr (sent.exact exact)
sends_case w c m reached allowed (IsAhead o e is exact) =
    let sent = open_sent w o is reached m allowed in
    IsAhead (open_after_sending o m) (left_open m o c.ahead e sent.allowed) sent.holds (sent.exact exact)

-- one is left
five : (a b c d e : Bool) → (a ≡ true) ⊎ ((b ≡ true) ⊎ ((c ≡ true) ⊎ ((d ≡ true) ⊎ (e ≡ true)))) → (a || b || c || d || e) ≡ true
five true true true true true s = refl
five true true true true false s = refl
five true true true false true s = refl
five true true true false false s = refl
five true true false true true s = refl
five true true false true false s = refl
five true true false false true s = refl
five true true false false false s = refl
five true false true true true s = refl
five true false true true false s = refl
five true false true false true s = refl
five true false true false false s = refl
five true false false true true s = refl
five true false false true false s = refl
five true false false false true s = refl
five true false false false false s = refl
five false true true true true s = refl
five false true true true false s = refl
five false true true false true s = refl
five false true true false false s = refl
five false true false true true s = refl
five false true false true false s = refl
five false true false false true s = refl
five false true false false false s = refl
five false false true true true s = refl
five false false true true false s = refl
five false false true false true s = refl
five false false true false false s = refl
five false false false true true s = refl
five false false false true false s = refl
five false false false false true s = refl
five false false false false false (inl e) = e
five false false false false false (inr (inl e)) = e
five false false false false false (inr (inr (inl e))) = e
five false false false false false (inr (inr (inr (inl e)))) = e
five false false false false false (inr (inr (inr (inr e)))) = e

left_by : {S : Type 0} (slot : Option S) (s : S) → slot ≡ Some s → is_left slot ≡ true
left_by slot s e = ap is_left e

any_of : (w : Known) (c : Cases) → IsCase w c → is_any c ≡ true
any_of w c is = five c.halted (is_left c.istrt) (is_left c.astrt) (is_left c.running) (is_left c.ahead) (go is)
  where
    go : IsCase w c → (c.halted ≡ true) ⊎ ((is_left c.istrt ≡ true) ⊎ ((is_left c.astrt ≡ true) ⊎
        ((is_left c.running ≡ true) ⊎ (is_left c.ahead ≡ true))))
    go (InHalted e halted) = inl e
    go (FromIstrt k e like) = inr (inl (left_by c.istrt k e))
    go (FromAstrt k e like) = inr (inr (inl (left_by c.astrt k e)))
    go (FromRunning o e is which) = inr (inr (inr (inl (left_by c.running o e))))
    go (IsAhead o e is exact) = inr (inr (inr (inr (left_by c.ahead o e))))

pub sends_made : (w : Known) (c : Cases) (m : MessageValue) → IsReached w → wire_sending_refusal w m ≡ None → IsCase w c →
    IsMade (wire_after_sending w m) (cases_send c m)
sends_made w c m reached allowed case =
    let after = sends_case w c m reached allowed case in
    record {
      cases = after_sending c m;
      is = ap (λ (b : Bool). cond b (Ok (after_sending c m)) (Err (sending_reason c m)))
          (any_of (wire_after_sending w m) (after_sending c m) after);
      case = after;
    }

-- ---- an arrival

split_refusal : (b : Bool) (o : Option StationRefusal) → cond b (Some WrongResponse) o ≡ None → (b ≡ false) × (o ≡ None)
split_refusal true o e = absurd cc
split_refusal false o e = (refl, e)

not_kept : (kept : Bool) → keep_refusal false kept ≡ None → kept ≡ false
not_kept true e = absurd cc
not_kept false e = refl

-- what is met in HALTED is not kept, and changes nothing
halted_kept : (w : Known) (m : MessageValue) (kept : Bool) → w.variables.state ≡ Halted →
    keep_refusal (has_packet (row w.variables.state m).effects && wire_is_next w.variables (num_of m)) kept ≡ None → kept ≡ false
halted_kept w m kept halted e =
    not_kept kept (subst (λ (s : State). keep_refusal (has_packet (row s m).effects && wire_is_next w.variables (num_of m)) kept ≡ None) halted e)

halted_row : (w : Known) (m : MessageValue) (tag : Tag) (kept : Bool) → w.variables.state ≡ Halted →
    (wire_after_arrival w (Sound m tag) kept).variables.state ≡ Halted
halted_row w m tag kept halted =
    ap (λ (s : State). (fold (wire_does m tag kept) w (row s m).effects).variables.state) halted ∙ halted

halted_damage : (w : Known) (reason : NakReason) → w.variables.state ≡ Halted → (damaged_by wire_book reason w).variables.state ≡ Halted
halted_damage w reason halted = go (counts_damage w.variables.state)
  where
    go : (b : Bool) → (cond b (wire_book.counts reason w) w).variables.state ≡ Halted
    go true = halted
    go false = halted

-- RESP is a byte
abbrev pub HasByte : ArrivalValue Tag → Type 0
HasByte (Sound m tag) = resp_of m < 256
HasByte HeaderBad = Unit {0}
HasByte DataBad = Unit {0}

halted_arrival : (w : Known) (arrival : ArrivalValue Tag) (kept : Bool) → w.variables.state ≡ Halted → known_arrival_refusal w arrival kept ≡ None →
    (kept ≡ false) × ((wire_after_arrival w arrival kept).variables.state ≡ Halted)
halted_arrival w (Sound m tag) kept halted e =
    (halted_kept w m kept halted (split_refusal (is_wrong w m) _ e).1, halted_row w m tag kept halted)
halted_arrival w HeaderBad kept halted e = (not_kept kept e, halted_damage w HeaderCheck halted)
halted_arrival w DataBad kept halted e = (not_kept kept e, halted_damage w DataCheck halted)

open_met : (w : Known) (o : Open) (arrival : ArrivalValue Tag) (kept : Bool) → HasByte arrival → IsReached w → IsOpen w o →
    known_arrival_refusal w arrival kept ≡ None → IsMet (wire_after_arrival w arrival kept) o arrival kept
open_met w o (Sound m tag) kept byte reached is e =
    let parts = split_refusal (is_wrong w m) _ e in
    let in_running = subst (λ (s : State). keep_refusal (has_packet (row s m).effects && wire_is_next w.variables (num_of m)) kept ≡ None)
    is.running parts.1 in
    subst (λ (s : State). IsMet (fold (wire_does m tag kept) w (row s m).effects) o (Sound m tag) kept) (sym is.running)
    (meets_in w o tag kept is reached.bounded m byte parts.0 in_running)
open_met w o HeaderBad kept byte reached is e = meets_damage w o unknown_period kept is reached.bounded HeaderCheck HeaderBad refl refl refl e
open_met w o DataBad kept byte reached is e = meets_damage w o unknown_period kept is reached.bounded DataCheck DataBad refl refl refl e

left_meeting : (arrival : ArrivalValue Tag) (kept : Bool) (w k : Known) (slot : Option Known) → slot ≡ Some k → IsLike w k →
    known_arrival_refusal w arrival kept ≡ None → known_meets arrival kept slot ≡ Some (wire_after_arrival k arrival kept)
left_meeting arrival kept w k slot e like allowed =
    ap (known_meets arrival kept) e
    ∙ ap (λ (o : Option StationRefusal). unless o (Some (wire_after_arrival k arrival kept)))
    (sym (like_arrival_refusal w k arrival kept like) ∙ allowed)

open_meeting : (arrival : ArrivalValue Tag) (kept : Bool) (o : Open) (slot : Option Open) → slot ≡ Some o →
    open_arrival_refusal o arrival kept ≡ None →
    is_restart arrival ≡ false → open_meets arrival kept slot ≡ Some (open_after_arrival o arrival kept)
open_meeting arrival kept o slot e allowed plain =
    ap (open_meets arrival kept) e
    ∙ ap (λ (r : Option StationRefusal). unless r (open_after o arrival kept)) allowed
    ∙ ap (λ (b : Bool). cond b None (Some (open_after_arrival o arrival kept))) plain

ahead_of : (arrival : ArrivalValue Tag) (kept : Bool) (o : Open) (running ahead : Option Open) → running ≡ Some o → ahead ≡ None →
    open_arrival_refusal o arrival kept ≡ None → ahead_meets arrival kept running ahead ≡ open_ahead o arrival kept
ahead_of arrival kept o running ahead e none allowed =
    ap (ahead_meets arrival kept running) none
    ∙ ap (goes_ahead arrival kept) e
    ∙ ap (λ (r : Option StationRefusal). unless r (open_ahead o arrival kept)) allowed

halts_by : (c : Cases) (arrival : ArrivalValue Tag) (kept : Bool) → kept ≡ false → is_restart arrival ≡ true →
    (is_left c.running || is_left c.ahead) ≡ true → halts c arrival kept ≡ true
halts_by c arrival kept out restart left =
    ap (λ (k : Bool). not k && (c.halted || (is_restart arrival && (is_left c.running || is_left c.ahead)))) out
    ∙ ap (λ (r : Bool). c.halted || (r && (is_left c.running || is_left c.ahead))) restart
    ∙ ap (λ (l : Bool). c.halted || l) left
    ∙ last c.halted
  where
    last : (b : Bool) → (b || true) ≡ true
    last true = refl
    last false = refl

either_left : (a b : Bool) → (a ≡ true) ⊎ (b ≡ true) → (a || b) ≡ true
either_left true b e = refl
either_left false b (inl e) = absurd cc
either_left false b (inr e) = e

module _ (w : Known) (c : Cases) (arrival : ArrivalValue Tag) (kept : Bool) where
  -- the station is in a case after it, and one is left that is not new
  abbrev Made : Known → Type 0
  Made v = IsCase v (after_arrival c arrival kept) × (may_meet c arrival kept ≡ true)

  made_of : (v : Known) → IsCase v (after_arrival c arrival kept) →
      (halts c arrival kept ≡ true) ⊎ ((is_left (known_meets arrival kept c.istrt) ≡ true) ⊎ ((is_left (known_meets arrival kept c.astrt) ≡ true)
      ⊎ ((is_left (open_meets arrival kept c.running) ≡ true) ⊎ (is_left (open_meets arrival kept c.ahead) ≡ true)))) → Made v
  made_of v case left = (
    case,
    five (halts c arrival kept) (is_left (known_meets arrival kept c.istrt)) (is_left (known_meets arrival kept c.astrt))
        (is_left (open_meets arrival kept c.running)) (is_left (open_meets arrival kept c.ahead)) left,
  )

  from_running : (v : Known) (o : Open) → c.running ≡ Some o → (c.ahead ≡ None) ⊎ IsExact o.numbers → open_arrival_refusal o arrival kept ≡ None →
      Becomes v o arrival kept → Made v
  from_running v o e which allowed (Halts restart out halted) =
      let h = halts_by c arrival kept out restart (either_left (is_left c.running) (is_left c.ahead) (inl (left_by c.running o e))) in
      made_of v (InHalted h halted) (inl h)
  from_running v o e which allowed (Stays plain same none is) =
      let there = open_meeting arrival kept o c.running e allowed plain ∙ ap Some same in
      made_of v (FromRunning o there is (go which)) (inr (inr (inr (inl (left_by (open_meets arrival kept c.running) o there)))))
    where
      go : (c.ahead ≡ None) ⊎ IsExact o.numbers → (ahead_meets arrival kept c.running c.ahead ≡ None) ⊎ IsExact o.numbers
      go (inl f) = inl (ahead_of arrival kept o c.running c.ahead e f allowed ∙ none)
      go (inr exact) = inr exact
  from_running v o e which allowed (Answered plain is exact) =
      let there = open_meeting arrival kept o c.running e allowed plain in
      made_of v (FromRunning (open_after_arrival o arrival kept) there is (inr exact))
      (inr (inr (inr (inl (left_by (open_meets arrival kept c.running) (open_after_arrival o arrival kept) there)))))
  from_running v o e which allowed (GoesAhead plain after ahead is exact not_exact) = go which
    where
      there : open_meets arrival kept c.running ≡ Some (open_after_arrival o arrival kept)
      there = open_meeting arrival kept o c.running e allowed plain

      go : (c.ahead ≡ None) ⊎ IsExact o.numbers → Made v
      go (inl f) = made_of v (IsAhead after (ahead_of arrival kept o c.running c.ahead e f allowed ∙ ahead) is exact)
          (inr (inr (inr (inl (left_by (open_meets arrival kept c.running) (open_after_arrival o arrival kept) there)))))
      go (inr f) = absurd (not_exact f)

  ahead_stays : (o : Open) → c.ahead ≡ Some o → ahead_meets arrival kept c.running c.ahead ≡ open_meets arrival kept (Some o)
  ahead_stays o e = ap (ahead_meets arrival kept c.running) e

  from_ahead : (v : Known) (o : Open) → c.ahead ≡ Some o → IsExact o.numbers → open_arrival_refusal o arrival kept ≡ None →
      Becomes v o arrival kept → Made v
  from_ahead v o e exact allowed (Halts restart out halted) =
      let h = halts_by c arrival kept out restart (either_left (is_left c.running) (is_left c.ahead) (inr (left_by c.ahead o e))) in
      made_of v (InHalted h halted) (inl h)
  from_ahead v o e exact allowed (Stays plain same none is) =
      let there = open_meeting arrival kept o (Some o) refl allowed plain ∙ ap Some same in
      made_of v (IsAhead o (ahead_stays o e ∙ there) is exact)
      (inr (inr (inr (inr (left_by (open_meets arrival kept c.ahead) o (ap (open_meets arrival kept) e ∙ there))))))
  from_ahead v o e exact allowed (Answered plain is now) =
      let there = open_meeting arrival kept o (Some o) refl allowed plain in
      made_of v (IsAhead (open_after_arrival o arrival kept) (ahead_stays o e ∙ there) is now)
      (inr (inr (inr (inr (left_by (open_meets arrival kept c.ahead) (open_after_arrival o arrival kept) (ap (open_meets arrival kept) e ∙ there))))))
  from_ahead v o e exact allowed (GoesAhead plain after ahead is now not_exact) = absurd (not_exact exact)

  meets_case : HasByte arrival → IsReached w → known_arrival_refusal w arrival kept ≡ None → IsCase w c → Made (wire_after_arrival w arrival kept)
  meets_case byte reached allowed (InHalted e halted) =
      let after = halted_arrival w arrival kept halted allowed in
      let h : halts c arrival kept ≡ true =
      ap (λ (k : Bool). not k && (c.halted || (is_restart arrival && (is_left c.running || is_left c.ahead)))) after.0
      ∙ ap (λ (b : Bool). b || (is_restart arrival && (is_left c.running || is_left c.ahead))) e in
      made_of (wire_after_arrival w arrival kept) (InHalted h after.1) (inl h)
  meets_case byte reached allowed (FromIstrt k e like) =
      let there = left_meeting arrival kept w k c.istrt e like allowed in
      made_of (wire_after_arrival w arrival kept) (FromIstrt (wire_after_arrival k arrival kept) there (like_arrival w k arrival kept like))
      (inr (inl (left_by (known_meets arrival kept c.istrt) (wire_after_arrival k arrival kept) there)))
  meets_case byte reached allowed (FromAstrt k e like) =
      let there = left_meeting arrival kept w k c.astrt e like allowed in
      made_of (wire_after_arrival w arrival kept) (FromAstrt (wire_after_arrival k arrival kept) there (like_arrival w k arrival kept like))
      (inr (inr (inl (left_by (known_meets arrival kept c.astrt) (wire_after_arrival k arrival kept) there))))
  meets_case byte reached allowed (FromRunning o e is which) =
      let met = open_met w o arrival kept byte reached is allowed in
      from_running (wire_after_arrival w arrival kept) o e which met.allowed met.becomes
  meets_case byte reached allowed (IsAhead o e is exact) =
      let met = open_met w o arrival kept byte reached is allowed in
      from_ahead (wire_after_arrival w arrival kept) o e exact met.allowed met.becomes

  pub meets_made : HasByte arrival → IsReached w → known_arrival_refusal w arrival kept ≡ None → IsCase w c →
      IsMade (wire_after_arrival w arrival kept) (cases_meet c arrival kept)
  meets_made byte reached allowed case =
      let after = meets_case byte reached allowed case in
      record {
        cases = after_arrival c arrival kept;
        is = ap (λ (b : Bool). cond b (Ok (after_arrival c arrival kept)) (Err (arrival_reason c arrival kept))) after.1;
        case = after.0;
      }

-- ---- what the user does

only_halted : (state : State) → user_refusal state Start ≡ None → state ≡ Halted
only_halted Halted e = refl
only_halted Istrt e = absurd cc
only_halted Astrt e = absurd cc
only_halted Running e = absurd cc

three : (a b c : Bool) → (a ≡ true) ⊎ ((b ≡ true) ⊎ (c ≡ true)) → (a || b || c) ≡ true
three true true true s = refl
three true true false s = refl
three true false true s = refl
three true false false s = refl
three false true true s = refl
three false true false s = refl
three false false true s = refl
three false false false (inl e) = e
three false false false (inr (inl e)) = e
three false false false (inr (inr e)) = e

halted_like : (w k : Known) (slot : Option Known) → slot ≡ Some k → IsLike w k → w.variables.state ≡ Halted → is_halted slot ≡ true
halted_like w k slot e like halted =
    ap is_halted e ∙ ap is_halted_state (sym (ap (λ (v : Variables). v.state) like.variables) ∙ halted)

may_be_halted : (w : Known) (c : Cases) → w.variables.state ≡ Halted → IsCase w c → may_start c ≡ true
may_be_halted w c halted is = three c.halted (is_halted c.istrt) (is_halted c.astrt) (go is)
  where
    clash : Running ≡ Halted → ⊥
    clash e = cc

    go : IsCase w c → (c.halted ≡ true) ⊎ ((is_halted c.istrt ≡ true) ⊎ (is_halted c.astrt ≡ true))
    go (InHalted e h) = inl e
    go (FromIstrt k e like) = inr (inl (halted_like w k c.istrt e like halted))
    go (FromAstrt k e like) = inr (inr (halted_like w k c.astrt e like halted))
    go (FromRunning o e is which) = absurd (clash (sym is.running ∙ halted))
    go (IsAhead o e is exact) = absurd (clash (sym is.running ∙ halted))

pub user_made : (w : Known) (c : Cases) (event : StationEvent) → user_refusal w.variables.state event ≡ None → IsCase w c →
    IsMade (wire_after_event w event) (cases_user c event)
user_made w c Start e case = record {
  cases = started_cases;
  is = ap (λ (b : Bool). cond b (Ok started_cases) (Err WrongUserEvent)) (may_be_halted w c (only_halted w.variables.state e) case);
  case = FromIstrt in_istrt refl (record { variables = refl; causes = refl });
}
user_made w c Halt e case = record { cases = halted_cases; is = refl; case = InHalted refl refl }

-- ---- before any record of the capture

pub first_case : (w : Known) → IsReached w → IsCase w first_cases
first_case w reached = go w.variables.state refl
  where
    go : (state : State) → w.variables.state ≡ state → IsCase w first_cases
    go Halted e = InHalted refl e
    go Istrt e =
        let begun = subst (λ (s : State). IsBegun s w) e reached.begun in
        FromIstrt in_istrt refl (record { variables = begun.0; causes = begun.1 })
    go Astrt e =
        let begun = subst (λ (s : State). IsBegun s w) e reached.begun in
        FromAstrt in_astrt refl (record { variables = begun.0; causes = begun.1 })
    go Running e = FromRunning first_open refl (record { running = e; received = λ r f. absurd cc; numbers = refl }) (inl refl)
