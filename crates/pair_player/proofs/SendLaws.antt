-- An end has something to send exactly where it may, however it chooses.
use Rattle.std.proofs.Common.{◌≡◌, ℕ, ◌+◌, Bool, true, false, ◌&&◌, ◌||◌, not, cond, nat_lt, Option, Some, None, List, [], ◌∷◌, length, refl, sym, ap}
use Rattle.std.proofs.Common.{ap₂, ◌∙◌, ◌↔◌}
use Rattle.std.specs.Prelude.{is_some, IsSome}
use Rattle.ddcmp_msg.specs.declared.nak_reason.NakReason.TheVariants.{HeaderCheck, DataCheck, RepResponse, NoBuffer}
use Rattle.dna_station.specs.declared.state.State.{State}
use Rattle.dna_station.specs.declared.state.State.TheVariants.{Halted, Istrt, Astrt, Running}
use Rattle.dna_station.specs.Table.{WINDOW}
use Rattle.dna_station.specs.WireStation.{StationVariables}
use Rattle.dna_station.specs.WireBook.{wire_is_new}
use Rattle.dna_play.specs.Owed.{Owed}
use Rattle.dna_play.specs.LinkOwed.{EndConfirm, Duty, ConnectAckDuty, InitiateDuty, ConfirmDuty, DisconnectDuty, DataAckDuty, SegmentDuty}
use Rattle.dna_play.specs.StoredEnd.{StoredEnd}
use Rattle.dna_play.specs.StepRule.{HasUnit}
use Rattle.dna_play.specs.NextSent.{Choice, LinkChoice, LinkEnd, SendAck, SendAgain, SendNak, SendRep, SendStack, SendStrt, choice, choice_in}
use Rattle.dna_play.specs.NextSent.{data_choice, first_duty, has_segment, link_choice, lowest_nak, new_packet, or_else, duty_of, duty_or_next, when}
use Rattle.pair_player.specs.Sending.{has_data, link_has, links_have, may_send, owes_nak, some_link_has}

-- ---- one thing before another

if_or : {X : Type 0} (b : Bool) (x : X) (o : Option X) → is_some (cond b (Some x) o) ≡ (b || is_some o)
if_or true x o = refl
if_or false x o = refl

else_or : (o rest : Option Choice) → is_some (or_else o rest) ≡ (is_some o || is_some rest)
else_or None rest = refl
else_or (Some next) rest = refl

when_so : (b : Bool) (next : Choice) → is_some (when b next) ≡ b
when_so true next = refl
when_so false next = refl

-- ---- the links

then_or : {X : Type 0} (b : Bool) (x : X) (o : Option X) (c : Bool) → is_some o ≡ c → is_some (cond b (Some x) o) ≡ (b || c)
then_or b x o c e = if_or b x o ∙ ap (λ (d : Bool). b || d) e

last_so : {X : Type 0} (b : Bool) (x : X) → is_some (cond b (Some x) None) ≡ b
last_so true x = refl
last_so false x = refl

link_duty : (l : LinkEnd) → is_some (duty_of l) ≡ link_has l
link_duty l =
    then_or l.owed.connect_ack ConnectAckDuty _ _ (then_or l.owed.initiate InitiateDuty _ _ (then_or l.owed.confirm ConfirmDuty _ _
    (then_or l.owed.disconnect DisconnectDuty _ _ (then_or l.owed.data_ack DataAckDuty _ _ (last_so (has_segment l) SegmentDuty)))))

duty_so : (number : ℕ) (o : Option Duty) (next : Option LinkChoice) → is_some (duty_or_next number o next) ≡ (is_some o || is_some next)
duty_so number None next = refl
duty_so number (Some duty) next = refl

some_duty : (number : ℕ) (links : List LinkEnd) → is_some (first_duty number links) ≡ some_link_has links
some_duty number [] = refl
some_duty number (link ∷ links) =
    duty_so number (duty_of link) (first_duty (number + 1) links) ∙ ap₂ (λ (a b : Bool). a || b) (link_duty link) (some_duty (number + 1) links)

links_so : (confirms : List EndConfirm) (links : List LinkEnd) → is_some (link_choice confirms links) ≡ links_have confirms links
links_so [] links = some_duty 0 links
links_so (confirm ∷ later) links = refl

-- ---- the station

nak_so : (owed : Owed) → is_some (lowest_nak owed) ≡ owes_nak owed
nak_so owed =
    then_or owed.header_check (SendNak HeaderCheck) _ _ (then_or owed.data_check (SendNak DataCheck) _ _
    (then_or owed.rep_response (SendNak RepResponse) _ _ (last_so owed.no_buffer (SendNak NoBuffer))))

module _ {L : Type 0} (k : StationVariables L) (owed : Owed) (message : Option LinkChoice) where
  data_so : is_some (data_choice k message) ≡ has_data k (is_some message)
  data_so = go (wire_is_new k) (nat_lt (length k.held) WINDOW) message
    where
      go : (new room : Bool) (message : Option LinkChoice) →
          is_some (cond new (cond room (new_packet message) None) (Some SendAgain)) ≡ (not new || (room && is_some message))
      go false room message = refl
      go true false message = refl
      go true true None = refl
      go true true (Some next) = refl

  chosen_in : (state : State) → is_some (choice_in state k owed message) ≡ may_send state k owed (is_some message)
  chosen_in Halted = refl
  chosen_in Istrt = when_so owed.strt SendStrt
  chosen_in Astrt = when_so owed.stack SendStack
  chosen_in Running =
      else_or (lowest_nak owed) _ ∙ ap₂ (λ (a b : Bool). a || b) (nak_so owed)
      (else_or (when owed.rep SendRep) _ ∙ ap₂ (λ (a b : Bool). a || b) (when_so owed.rep SendRep)
      (else_or (data_choice k message) _ ∙ ap₂ (λ (a b : Bool). a || b) data_so (when_so owed.ack SendAck)))

-- whatever the station keeps beside its packets
pub may_exactly : {L : Type 0} (k : StationVariables L) (owed : Owed) (confirms : List EndConfirm) (links : List LinkEnd) →
    is_some (choice k owed (link_choice confirms links)) ≡ may_send k.state k owed (links_have confirms links)
may_exactly k owed confirms links =
    chosen_in k owed (link_choice confirms links) k.state ∙ ap (λ (m : Bool). may_send k.state k owed m) (links_so confirms links)

-- ---- the laws

found : {X : Type 0} (o : Option X) → is_some o ≡ true → (x : X) × (o ≡ Some x)
found None e = absurd cc
found (Some x) e = (x, refl)

pub kept_may : (e : StoredEnd) →
    (may_send e.station.variables.state e.station.variables e.station.owed (links_have e.links.confirms e.links.links) ≡ true)
    ↔ IsSome (choice e.station.variables e.station.owed (link_choice e.links.confirms e.links.links))
kept_may e =
    let same = may_exactly e.station.variables e.station.owed e.links.confirms e.links.links in
    ((λ may. same ∙ may), (λ some. sym same ∙ some))

pub rule_may : (e : StoredEnd) →
    (may_send e.station.variables.state e.station.variables e.station.owed (links_have e.links.confirms e.links.links) ≡ true) ↔ HasUnit e
rule_may e =
    let same = may_exactly e.station.variables e.station.owed e.links.confirms e.links.links in
    ((λ may. found _ (same ∙ may)), (λ unit. sym same ∙ ap is_some unit.1))
