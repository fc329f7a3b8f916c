-- Worked runs of both sides' links: packets are lost on the line or after it, or composed and never sent, and what they had comes when it is
-- sent again; a node boots.
use Rattle.dna_rows.proofs.Prelude.{◌≡◌, ℕ, ◌≤◌, Bool, true, false, nat_lt, nat_le, Option, Some, None, List, [], ◌∷◌, ◌++◌, length, map, refl}
use Rattle.dna_rows.proofs.Prelude.{Result, Ok, Err, leb-true, ltb-true, slice_get, slice_get_within, Side, A, B, NspFault, NspValue, nsp_at}
use Rattle.dna_rows.proofs.Prelude.{LinkRefusal, Without, LinkOf, Carried, LinkEventValue, Boot, of_partner, TrueSegments, Numbers, Links}
use Rattle.dna_rows.proofs.Prelude.{links_user, links_sent, links_arrived, SentMessage, LinkSide, LinkWorld, LinkStep, ByUser, Sends, SendsNone}
use Rattle.dna_rows.proofs.Prelude.{Composes, Keeps, Passes, Reached, ByA, ByB, new_world, handed_in, delivered_up, behind}
use Rattle.dna_links.specs.User.{Open, Accept, In, Up, Close}
use Rattle.dna_links.specs.Sending.{Sent}
use Rattle.dna_links.specs.Runs.{Start}
use Rattle.dna_rows.proofs.Units.{CI, CC_2, DI, DC_42, DATA_ACK, ack, SEGMENT, carries}
use Rattle.dna_rows.proofs.Links.Steps.{NODE_A, NODE_B}

-- What a side does: its user, a packet that is first sent with this message or with none, one that is composed and never sent, or the packet at this
-- place, which is kept and met by the links, or lost before them
data Duty : Type 0 where
  Does : (event : LinkEventValue) → Duty
  First : (bytes : List ℕ) → Duty
  FirstNone : Duty
  Composed : (bytes : List ℕ) → Duty
  Kept : (place : ℕ) → Duty
  Lost : (place : ℕ) → Duty

record Made (own other : LinkSide) : Type 0 where
  pub events : List LinkEventValue
  pub left : LinkSide
  pub step : LinkStep Without own other events left

module _ (own other : LinkSide) where
  abbrev does_made : (event : LinkEventValue) (r : Result Links LinkRefusal) → links_user Without own.links event ≡ r → Option (Made own other)
  does_made event (Ok links) e = Some (record { events = event ∷ []; left = _; step = ByUser event links e })
  does_made event (Err reason) e = None

  abbrev sends_made : (packet : Carried) (r : Result (Sent TrueSegments Numbers) LinkRefusal) → links_sent Without own.links packet ≡ r →
      Option (Made own other)
  sends_made packet (Ok made) e = Some (record { events = []; left = _; step = Sends packet made e })
  sends_made packet (Err reason) e = None

  abbrev composes_made : (packet : Carried) (r : Result (Sent TrueSegments Numbers) LinkRefusal) → links_sent Without own.links packet ≡ r →
      Option (Made own other)
  composes_made packet (Ok made) e = Some (record { events = []; left = _; step = Composes packet made e })
  composes_made packet (Err reason) e = None

  abbrev composed_made : Result NspValue NspFault → Option (Made own other)
  composed_made (Ok message) = composes_made (record { dst = own.links.peer; src = own.links.node; message = message }) _ refl
  composed_made (Err fault) = None

  abbrev first_made : Result NspValue NspFault → Option (Made own other)
  first_made (Ok message) = sends_made (record { dst = own.links.peer; src = own.links.node; message = message }) _ refl
  first_made (Err fault) = None

  abbrev arrives_made : (place : ℕ) (unit : SentMessage) (r : Result Links LinkRefusal) → own.front ≤ place →
      slice_get other.sent place ≡ Some (Some unit) → links_arrived Without of_partner own.links unit.packet unit.truth ≡ r → Option (Made own other)
  arrives_made place unit (Ok links) ahead there e = Some (record { events = []; left = _; step = Keeps place unit links ahead there e })
  arrives_made place unit (Err reason) ahead there e = None

  abbrev stored_made : (place : ℕ) (o : Option (Option SentMessage)) → own.front ≤ place → slice_get other.sent place ≡ o → Option (Made own other)
  stored_made place None ahead there = None
  stored_made place (Some None) ahead there =
      Some (record { events = []; left = _; step = Passes place ahead (slice_get_within other.sent place None there) })
  stored_made place (Some (Some unit)) ahead there = arrives_made place unit _ ahead there refl

  abbrev lost_made : (place : ℕ) (b : Bool) → own.front ≤ place → nat_lt place (length other.sent) ≡ b → Option (Made own other)
  lost_made place true ahead e = Some (record { events = []; left = _; step = Passes place ahead (ltb-true place (length other.sent) e) })
  lost_made place false ahead e = None

  abbrev ahead_made : (is_met : Bool) (place : ℕ) (b : Bool) → nat_le own.front place ≡ b → Option (Made own other)
  ahead_made true place true e = stored_made place _ (leb-true own.front place e) refl
  ahead_made false place true e = lost_made place _ (leb-true own.front place e) refl
  ahead_made is_met place false e = None

  abbrev duty_made : Duty → Option (Made own other)
  duty_made (Does event) = does_made event _ refl
  duty_made (First bytes) = first_made (nsp_at bytes)
  duty_made FirstNone = Some (record { events = []; left = _; step = SendsNone })
  duty_made (Composed bytes) = composed_made (nsp_at bytes)
  duty_made (Kept place) = ahead_made true place _ refl
  duty_made (Lost place) = ahead_made false place _ refl

-- all that was made from this world on
record Ran (start : LinkWorld) : Type 0 where
  pub world : LinkWorld
  pub of_a : List LinkEventValue
  pub of_b : List LinkEventValue
  pub reached : Reached Without start world of_a of_b

abbrev ran_a : {start : LinkWorld} (r : Ran start) → Option (Made r.world.a r.world.b) → Option (Ran start)
ran_a r None = None
ran_a r (Some m) = Some (record { world = _; of_a = _; of_b = _; reached = ByA r.reached m.step })

abbrev ran_b : {start : LinkWorld} (r : Ran start) → Option (Made r.world.b r.world.a) → Option (Ran start)
ran_b r None = None
ran_b r (Some m) = Some (record { world = _; of_a = _; of_b = _; reached = ByB r.reached m.step })

record Step : Type 0 where
  pub at : Side
  pub turn : Duty

abbrev one_more : {start : LinkWorld} → Ran start → (at : Side) → Duty → Option (Ran start)
one_more r A turn = ran_a r (duty_made r.world.a r.world.b turn)
one_more r B turn = ran_b r (duty_made r.world.b r.world.a turn)

abbrev all_more : {start : LinkWorld} → Option (Ran start) → List Step → Option (Ran start)
all_more None steps = None
all_more (Some r) [] = Some r
all_more (Some r) (step ∷ steps) = all_more (one_more r step.at step.turn) steps

abbrev a : Duty → Step
a turn = record { at = A; turn = turn }

abbrev b : Duty → Step
b turn = record { at = B; turn = turn }

abbrev new : LinkWorld
new = new_world NODE_A NODE_B NODE_B NODE_A

abbrev run_of : List Step → Option (Ran new)
run_of steps = all_more (Some (record { world = new; of_a = []; of_b = []; reached = Start })) steps

-- what each link of b delivered; and what was handed in at address 1 of a, and delivered at address 2 of b, behind the events at these places
record Shown : Type 0 where
  pub up : List (List (List ℕ))
  pub in_at_a : List (List ℕ)
  pub up_at_b : List (List ℕ)

abbrev shown : (place_a place_b : ℕ) → Option (Ran new) → Option Shown
shown place_a place_b None = None
shown place_a place_b (Some r) =
    Some (record {
      up = map (λ (l : LinkOf TrueSegments). l.segments.delivered) r.world.b.links.links;
      in_at_a = handed_in 1 (behind place_a r.of_a);
      up_at_b = delivered_up 2 (behind place_b r.of_b);
    })

abbrev letters : List ℕ
letters = 0x61 ∷ 0x62 ∷ 0x63 ∷ []

abbrev connected : List Step
connected = a (Does (Open 1)) ∷ a FirstNone ∷ a (First (CI 1)) ∷ b (Kept 1) ∷ b (Does (Accept 1 2)) ∷ b (First (CC_2 1 2)) ∷ a (Kept 0) ∷
    a (First (DATA_ACK 2 1 (ack 0))) ∷ b (Kept 2) ∷ []

-- the first segment is lost with the period it was sent in, and the second comes; then the first is sent again
abbrev lost_at_a_restart : List Step
lost_at_a_restart = connected ++ a (Does (In 1 letters)) ∷ a (First (SEGMENT 0x20 2 1 (carries 1 (0x61 ∷ 0x62 ∷ [])))) ∷
    a (First (SEGMENT 0x40 2 1 (carries 2 (0x63 ∷ [])))) ∷ b (Kept 4) ∷ a (First (SEGMENT 0x20 2 1 (carries 1 (0x61 ∷ 0x62 ∷ [])))) ∷ b (Kept 5) ∷
    b (Does (Up 2 letters)) ∷ []

-- the first segment is kept, and lost before the links; then it is sent again
abbrev lost_before_the_links : List Step
lost_before_the_links = connected ++ a (Does (In 1 letters)) ∷ a (First (SEGMENT 0x20 2 1 (carries 1 (0x61 ∷ 0x62 ∷ [])))) ∷
    a (First (SEGMENT 0x40 2 1 (carries 2 (0x63 ∷ [])))) ∷ b (Lost 3) ∷ b (Kept 4) ∷ []

-- the first segment is composed and never sent; the second is, and then the first as one that is sent again
abbrev composed_and_not_sent : List Step
composed_and_not_sent = connected ++ a (Does (In 1 letters)) ∷ a (Composed (SEGMENT 0x20 2 1 (carries 1 (0x61 ∷ 0x62 ∷ [])))) ∷
    a (First (SEGMENT 0x40 2 1 (carries 2 (0x63 ∷ [])))) ∷ b (Kept 3) ∷ []

abbrev sent_again : (place : ℕ) → List Step
sent_again place = a (First (SEGMENT 0x20 2 1 (carries 1 (0x61 ∷ 0x62 ∷ [])))) ∷ b (Kept place) ∷ b (Does (Up 2 letters)) ∷ []

-- a boots once its message was handed in and a part of it sent, and calls again from the same address; b, which knows nothing of that, has closed
abbrev booted : List Step
booted = connected ++ a (Does (In 1 letters)) ∷ a (First (SEGMENT 0x20 2 1 (carries 1 (0x61 ∷ 0x62 ∷ [])))) ∷ a (Does Boot) ∷ b (Does (Close 2)) ∷
    b (First (DI 1 2)) ∷ a (Kept 1) ∷ a (First (DC_42 2 1)) ∷ b (Kept 4) ∷ a (Does (Open 1)) ∷ a (First (CI 1)) ∷ b (Kept 5) ∷
    b (Does (Accept 1 2)) ∷ b (First (CC_2 1 2)) ∷ a (Kept 2) ∷ a (Does (In 1 (0x78 ∷ []))) ∷
    a (First (SEGMENT 0x60 2 1 (carries 1 (0x78 ∷ [])))) ∷ b (Kept 6) ∷ b (Does (Up 2 (0x78 ∷ []))) ∷ []

-- the link ends, and both addresses are given again
abbrev given_again : List Step
given_again = lost_at_a_restart ++ a (Does (Close 1)) ∷ a (First (DI 2 1)) ∷ b (Kept 6) ∷ b (First (DC_42 1 2)) ∷ a (Kept 1) ∷ a (Does (Open 1)) ∷
    a (First (CI 1)) ∷ b (Kept 7) ∷ b (Does (Accept 1 2)) ∷ b (First (CC_2 1 2)) ∷ a (Kept 2) ∷ a (Does (In 1 (0x78 ∷ []))) ∷
    a (First (SEGMENT 0x60 2 1 (carries 1 (0x78 ∷ [])))) ∷ b (Kept 8) ∷ b (Does (Up 2 (0x78 ∷ []))) ∷ []

record Rows : Type 0 where
  it_is_a_run : shown 0 0 (run_of lost_at_a_restart) ≡ Some (record { up = (letters ∷ []) ∷ []; in_at_a = letters ∷ []; up_at_b = letters ∷ [] })
  -- a packet is not kept twice, nor behind a later one
  kept_twice : shown 0 0 (run_of (lost_at_a_restart ++ b (Kept 5) ∷ [])) ≡ None
  kept_late : shown 0 0 (run_of (lost_at_a_restart ++ b (Kept 3) ∷ [])) ≡ None
  -- nor is one that was lost
  kept_after_the_loss : shown 0 0 (run_of (lost_before_the_links ++ b (Kept 3) ∷ [])) ≡ None
  not_delivered_yet : shown 0 0 (run_of (lost_before_the_links ++ b (Does (Up 2 letters)) ∷ [])) ≡ None
  delivered_after_a_loss : shown 0 0 (run_of (lost_before_the_links ++ sent_again 5)) ≡ Some
      (record { up = (letters ∷ []) ∷ []; in_at_a = letters ∷ []; up_at_b = letters ∷ [] })
  delivered_once_sent : shown 0 0 (run_of (composed_and_not_sent ++ sent_again 4)) ≡ Some
      (record { up = (letters ∷ []) ∷ []; in_at_a = letters ∷ []; up_at_b = letters ∷ [] })
  -- there is no other place than that of the one that was sent
  none_beyond : shown 0 0 (run_of (composed_and_not_sent ++ b (Lost 4) ∷ [])) ≡ None
  before_the_boot : shown 0 0 (run_of booted) ≡ Some
      (record { up = [] ∷ ((0x78 ∷ []) ∷ []) ∷ []; in_at_a = letters ∷ []; up_at_b = [] })
  after_the_boot : shown 3 2 (run_of booted) ≡ Some
      (record { up = [] ∷ ((0x78 ∷ []) ∷ []) ∷ []; in_at_a = (0x78 ∷ []) ∷ []; up_at_b = (0x78 ∷ []) ∷ [] })
  first_link : shown 0 0 (run_of given_again) ≡ Some
      (record { up = (letters ∷ []) ∷ ((0x78 ∷ []) ∷ []) ∷ []; in_at_a = letters ∷ []; up_at_b = letters ∷ [] })
  second_link : shown 3 2 (run_of given_again) ≡ Some
      (record { up = (letters ∷ []) ∷ ((0x78 ∷ []) ∷ []) ∷ []; in_at_a = (0x78 ∷ []) ∷ []; up_at_b = (0x78 ∷ []) ∷ [] })

computed : Rows
computed = search
