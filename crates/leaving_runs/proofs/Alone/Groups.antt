-- Whole groups are alike, of what one end binds.
use Rattle.leaving_runs.proofs.Prelude.{◌≡◌, ℕ, suc, ◌<◌, ◌^◌, Bool, true, false, ◌==◌, cond, Option, Some, None, Result, Ok, Err, List, [], ◌∷◌}
use Rattle.leaving_runs.proofs.Prelude.{refl, subst, arith, AllByRecursion, Contains, Side, other_side, IsBytes, ReadingValue, reading, IsRecord}
use Rattle.leaving_runs.proofs.Prelude.{Record, Sent, Received, Noise, User, NspFault, PacketFault, PacketValue, Control, packet_bytes, packet_at}
use Rattle.leaving_runs.proofs.Prelude.{FieldsFit, NspValue, ConnectAck, ConnectInitiate, ConnectConfirm, nsp_at, nsp_takes, packet_takes, Binding}
use Rattle.leaving_runs.proofs.Prelude.{AreWhole, Leaving, binding_of, bindings_of, confirmed, bound, bound_if_named, if_bound, if_read}
use Rattle.leaving_runs.proofs.Prelude.{message_in_unit, message_of, message_within, packet_of, IsAlike, AreAlikeAlone, AreAmongAlone}
use Rattle.std.specs.Option.{IfSome}
use Rattle.ddcmp_msg.specs.Message as messages
use Rattle.ddcmp_msg.specs.Reading as read_as
use Rattle.capture_record.specs.declared.event.Event.TheVariants as events
use Rattle.dna_packet.specs.Packet.{Data}
use Rattle.leaving_out.specs.About.{answered}
use Rattle.leaving_out.specs.Messages.{is_returned}
use Rattle.leaving_runs.proofs.Bytes.{body_bytes}
use Rattle.leaving_runs.proofs.Groups.{alike, first_bound, later_bound}

-- ---- addresses of a message that was read

fields_of : (nsp : List ℕ) → IsBytes nsp → (r : Result NspValue NspFault) → nsp_at nsp ≡ r → (b : Bool) → IfSome (cond b None (if_read r)) FieldsFit
fields_of nsp fits r read true = tt
fields_of nsp fits (Ok m) read false = (nsp_takes nsp m fits read).0.1
fields_of nsp fits (Err fault) read false = tt

packet_fields : (body : List ℕ) → IsBytes body → (r : Result PacketValue PacketFault) → packet_at body ≡ r → IfSome (message_of r) FieldsFit
packet_fields body fits (Ok (Data rtflg dst src forward nsp)) read =
    let all : IsBytes (packet_bytes (Data rtflg dst src forward nsp)) =
    subst IsBytes (packet_takes body (Data rtflg dst src forward nsp) fits read).1 fits in
    fields_of nsp (λ j. all (suc (suc (suc (suc (suc (suc j))))))) (nsp_at nsp) refl (is_returned rtflg)
packet_fields body fits (Ok (Control bytes)) read = tt
packet_fields body fits (Err fault) read = tt

unit_fields : (unit : List ℕ) → IsBytes unit → (r : ReadingValue) → reading unit ≡ r → IfSome (message_within (packet_of r)) FieldsFit
unit_fields unit fits (read_as.Sound (messages.Data flags resp num body)) read =
    packet_fields body (body_bytes unit (messages.Data flags resp num body) fits read) (packet_at body) refl
unit_fields unit fits (read_as.Sound (messages.Ack flags resp)) read = tt
unit_fields unit fits (read_as.Sound (messages.Nak flags reason resp)) read = tt
unit_fields unit fits (read_as.Sound (messages.Rep flags num)) read = tt
unit_fields unit fits (read_as.Sound (messages.Strt flags)) read = tt
unit_fields unit fits (read_as.Sound (messages.Stack flags)) read = tt
unit_fields unit fits read_as.HeaderBad read = tt
unit_fields unit fits read_as.DataBad read = tt
unit_fields unit fits (read_as.Malformed departure) read = tt

-- ---- bindings

abbrev AreSmall : Binding → Type 0
AreSmall binding = (binding.0.address < 2 ^ 16) × (binding.1.address < 2 ^ 16)

at_zero : (sender : Side) (b : Bool) (o : Option Binding) → IfSome o AreSmall → IfSome (cond b (Some (bound sender 0 0)) o) AreSmall
at_zero sender true o small = (omega arith, omega arith)
at_zero sender false o small = small

if_named : (sender : Side) (here there : ℕ) → here < 2 ^ 16 → there < 2 ^ 16 → (b : Bool) →
    IfSome (cond b None (Some (bound sender here there))) AreSmall
if_named sender here there small small_too true = tt
if_named sender here there small small_too false = (small, small_too)

message_small : (sender : Side) (o : Option NspValue) → IfSome o FieldsFit → IfSome (confirmed sender o) AreSmall
message_small sender None fits = tt
message_small sender (Some (ConnectInitiate retransmitted src services info segsize user_data)) fits = at_zero sender (src == 0) None tt
message_small sender (Some (ConnectConfirm dst src services info segsize user_data)) fits =
    at_zero sender (src == 0) (bound_if_named sender src dst) (if_named sender src dst fits.0.1 fits.0.0 (dst == 0))
message_small sender (Some m) fits = tt

answered_small : (sender : Side) (o : Option NspValue) → IfSome o FieldsFit → IfSome (answered sender o) AreSmall
answered_small sender None fits = tt
answered_small sender (Some (ConnectAck dst)) fits = at_zero sender (dst == 0) None tt
answered_small sender (Some (ConnectConfirm dst src services info segsize user_data)) fits = of_link (src == 0)
  where
    of_link : (b : Bool) → IfSome (cond b None (bound_if_named sender src dst)) AreSmall
    of_link true = tt
    of_link false = if_named sender src dst fits.0.1 fits.0.0 (dst == 0)
answered_small sender (Some m) fits = tt

record_small : (side : Side) (r : Record) → IsRecord r → IfSome (binding_of side true r) AreSmall
record_small side (Sent unit) is = answered_small side (message_in_unit unit) (unit_fields unit is.spelling.bytes (reading unit) refl)
record_small side (Received hint fate unit) is =
    message_small (other_side side) (message_in_unit unit) (unit_fields unit is.spelling.bytes (reading unit) refl)
record_small side (Noise bytes) is = tt
record_small side (User (events.Accept partner link)) is =
    let near = is.spelling.numbers.1.most in
    let far = is.spelling.numbers.0.most in (omega (arith, near), omega (arith, far))
record_small side (User (events.Reject partner link)) is =
    let near = is.spelling.numbers.1.most in
    let far = is.spelling.numbers.0.most in (omega (arith, near), omega (arith, far))
record_small side (User event) is = tt

module _ (leaving : Leaving) (bindings : List Binding) (whole : AreWhole bindings leaving.left_out.now) (side : Side) where
  binding_alike : (o : Option Binding) (later : List Binding) → IfSome o AreSmall →
      ((binding : Binding) → Contains (if_bound o later) binding → Contains bindings binding) → IfSome o (IsAlike leaving)
  binding_alike None later small among = tt
  binding_alike (Some binding) later small among =
      alike leaving bindings whole binding.0 binding.1 small.0 small.1 (among binding (first_bound (Some binding) later))

  pub all_alike_alone : (records : List Record) → AllByRecursion IsRecord records → AreAmongAlone bindings side records →
      AreAlikeAlone leaving side records
  all_alike_alone [] is among = tt
  all_alike_alone (r ∷ records) is among = (
    binding_alike (binding_of side true r) (bindings_of side true records) (record_small side r is.0) among,
    all_alike_alone records is.1
        (λ binding later. among binding (later_bound (binding_of side true r) (bindings_of side true records) binding later)),
  )
