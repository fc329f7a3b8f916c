-- What a link of the player is by its phase, and what it owes; the look-ups among the links, and what these let an end send.
use Rattle.dna_play.proofs.Prelude.{◌≡◌, ℕ, ◌≤◌, Bool, true, false, ◌&&◌, ◌||◌, not, eqb, cond, Option, Some, None, length, Result, Ok, Err, refl}
use Rattle.dna_play.proofs.Prelude.{ap, ◌∙◌, subst, arith, eq-eqb, slice_get, is_some, and_parts, ne_eqb, same_Some, NspValue, DisconnectConfirm}
use Rattle.dna_play.proofs.Prelude.{LinkRefusal, NoLink, LinkState, Without, Phase, Calling, Called, Confirming, Running, Disconnecting, Ended}
use Rattle.dna_play.proofs.Prelude.{LinkTest, TheLink, is_running, is_at, passes, LinkOf, check, number_of, at_number, with_link, message_sent}
use Rattle.dna_play.proofs.Prelude.{of_no_link, TrueSegments, Numbers, true_segments, Links, LinkVariables, LinkOwed, Duty, ConnectAckDuty}
use Rattle.dna_play.proofs.Prelude.{InitiateDuty, ConfirmDuty, DisconnectDuty, DataAckDuty, SegmentDuty, LinkEnd, has_new, has_repeat, has_segment}
use Rattle.dna_play.proofs.Prelude.{duty_of, SEGSIZE, address, IsFound, looked, position_none}
use Rattle.dna_links.specs.Sending.{Sent}
use Rattle.dna_links.specs.CutSegments.{cut}

-- ---- a link beside its end

-- what a node keeps of a link's segments
abbrev pub variables_of : LinkOf TrueSegments → LinkVariables
variables_of link = (cut link.segments).variables

abbrev pub end_of : LinkOf TrueSegments → LinkOwed → LinkEnd
end_of l owed = record { port = l.port; variables = variables_of l; owed = owed }

-- ---- what a link of the player is, by its phase

abbrev pub fits_in : Phase → LinkOf TrueSegments → Bool
fits_in Calling l = l.port.opened && is_some l.port.own
fits_in Called l = not l.port.opened && (is_some l.port.far && eqb l.segsize SEGSIZE)
fits_in Ended l = true
fits_in phase l = is_some l.port.own && (is_some l.port.far && eqb l.segsize SEGSIZE)

abbrev pub Fits : LinkOf TrueSegments → Type 0
Fits l = fits_in l.port.phase l ≡ true

-- whether a duty is owed by its flag; segments never are
abbrev pub is_owed : Duty → LinkOwed → Bool
is_owed ConnectAckDuty owed = owed.connect_ack
is_owed InitiateDuty owed = owed.initiate
is_owed ConfirmDuty owed = owed.confirm
is_owed DisconnectDuty owed = owed.disconnect
is_owed DataAckDuty owed = owed.data_ack
is_owed SegmentDuty owed = false

-- the phase that each duty belongs to
abbrev pub phase_of : Duty → Phase
phase_of ConnectAckDuty = Called
phase_of InitiateDuty = Calling
phase_of ConfirmDuty = Confirming
phase_of DisconnectDuty = Disconnecting
phase_of DataAckDuty = Running
phase_of SegmentDuty = Running

-- what a link owes is what its phase lets it send, and no more segments are sent in a go than are outstanding
pub record OwedFits (l : LinkOf TrueSegments) (owed : LinkOwed) : Type 0 where
  pub duties : (duty : Duty) → is_owed duty owed ≡ true → l.port.phase ≡ phase_of duty
  pub ahead : owed.ahead ≤ length (variables_of l).outstanding

-- ---- what a duty says of its link

pub data IsDue (l : LinkEnd) : Duty → Type 0 where
  DueFlag : {duty : Duty} → is_owed duty l.owed ≡ true → IsDue l duty
  DueSegment : is_running l.port.phase ≡ true → (has_repeat l || has_new l) ≡ true → IsDue l SegmentDuty

module _ (l : LinkEnd) (duty : Duty) where
  one_due : (b : Bool) (x : Duty) (rest : Option Duty) → (b ≡ true → IsDue l x) → (rest ≡ Some duty → IsDue l duty) →
      cond b (Some x) rest ≡ Some duty → IsDue l duty
  one_due true x rest due next e = subst (IsDue l) (same_Some x duty e) (due refl)
  one_due false x rest due next e = next e

  pub duty_due : duty_of l ≡ Some duty → IsDue l duty
  duty_due e =
      one_due l.owed.connect_ack ConnectAckDuty _ (λ is. DueFlag is)
      (one_due l.owed.initiate InitiateDuty _ (λ is. DueFlag is)
      (one_due l.owed.confirm ConfirmDuty _ (λ is. DueFlag is)
      (one_due l.owed.disconnect DisconnectDuty _ (λ is. DueFlag is)
      (one_due l.owed.data_ack DataAckDuty _ (λ is. DueFlag is)
      (one_due (has_segment l) SegmentDuty None
      (λ is. let p = and_parts (is_running l.port.phase) (has_repeat l || has_new l) is in DueSegment p.0 p.1) (λ none. absurd cc)))))) e

-- an address that is known, and RUN
pub known_at : (o : Option ℕ) → is_some o ≡ true → o ≡ Some (address o)
known_at None e = absurd cc
known_at (Some number) e = refl

pub is_there : (known : Option ℕ) (number : ℕ) → known ≡ Some number → is_at known number ≡ true
is_there known number e = ap (λ (o : Option ℕ). is_at o number) e ∙ eq-eqb number number refl

pub running_is : (phase : Phase) → is_running phase ≡ true → phase ≡ Running
running_is Running e = refl
running_is phase e = absurd cc

-- ---- look-ups

module _ (s : Links) where
  abbrev tried : LinkTest → ℕ
  tried test = with_link test s 0 (λ number link. 0)

  pub some_found : {P : Type 0} (test : LinkTest) (n : ℕ) (l : LinkOf TrueSegments) → slice_get s.links n ≡ Some l → passes test l.port ≡ true →
      ((number : ℕ) (link : LinkOf TrueSegments) → IsFound test s number link → P) → P
  some_found test n l there passed go = looked test s 0 (λ number link. 0) (tried test) refl
      (λ none e. let f = position_none (λ (k : LinkOf TrueSegments). passes test k.port) s.links n l none there in absurd cc)
      (λ number link found e. go number link found)

  pub found_at : (test : LinkTest) (n : ℕ) (l : LinkOf TrueSegments) → slice_get s.links n ≡ Some l → passes test l.port ≡ true →
      ((j : ℕ) (m : LinkOf TrueSegments) → slice_get s.links j ≡ Some m → passes test m.port ≡ true → j ≡ n) → IsFound test s n l
  found_at test n l there passed only = some_found test n l there passed (λ number link found.
      record { found = found.found ∙ ap Some (only number link found.there found.passed); there = there; passed = passed })

  pub none_found : (test : LinkTest) → ((j : ℕ) (m : LinkOf TrueSegments) → slice_get s.links j ≡ Some m → passes test m.port ≡ true → ⊥) →
      number_of test s ≡ None
  none_found test never =
      looked test s 0 (λ number link. 0) (tried test) refl (λ none e. none)
      (λ number link found e. absurd (never number link found.there found.passed))

  pub without_found : {R : Type 0} (test : LinkTest) (otherwise : R) (next : ℕ → LinkOf TrueSegments → R) → number_of test s ≡ None →
      with_link test s otherwise next ≡ otherwise
  without_found test otherwise next none = ap (λ (o : Option ℕ). at_number s.links o otherwise next) none

  pub with_found : {R : Type 0} (test : LinkTest) (n : ℕ) (l : LinkOf TrueSegments) (otherwise : R) (next : ℕ → LinkOf TrueSegments → R) →
      IsFound test s n l → with_link test s otherwise next ≡ next n l
  with_found test n l otherwise next found = rw (found.found, found.there) refl

  -- ---- it may be sent

  abbrev pub MaySendIt : NspValue → Type 0
  MaySendIt m = (made : Sent TrueSegments Numbers) × (message_sent Without true_segments s m ≡ Ok made)

  -- what comes of the one that is found, in a right phase
  pub right_may : {R : Type 0} (test : LinkTest) (is_right : Phase → Bool) (next : ℕ → LinkOf TrueSegments → Result R LinkRefusal) (n : ℕ)
      (l : LinkOf TrueSegments) → IsFound test s n l → is_right l.port.phase ≡ true →
      with_link test s (Err NoLink) (λ number link. check (is_right link.port.phase) LinkState (next number link)) ≡ next n l
  right_may test is_right next n l found right = rw (found.found, found.there, right) refl

  -- a DC where no live link has the two addresses
  pub confirm_may : (dst src reason : ℕ) → 1 ≤ src →
      ((j : ℕ) (m : LinkOf TrueSegments) → slice_get s.links j ≡ Some m → passes (TheLink src dst) m.port ≡ true → ⊥) →
      message_sent Without true_segments s (DisconnectConfirm dst src reason) ≡ Ok (of_no_link true_segments s)
  confirm_may dst src reason some never = rw (none_found (TheLink src dst) never, ne_eqb src 0 (λ e. omega arith)) refl
