-- What becomes of bytes where heads are fitted is bytes, as many as they were.
use Rattle.std.proofs.Common.{◌≡◌, ℕ, zero, suc, ◌/◌, ◌<◌, ◌≤◌, Bool, cond, List, [], ◌∷◌, ◌++◌, length, Result, Ok, Err}
use Rattle.std.proofs.Common.{refl, sym, ap, subst, ◌∙◌, arith}
use Rattle.wire_base.specs.declared.side.Side.{Side}
use Rattle.ddcmp_msg.specs.declared.flags.Flags.{Flags}
use Rattle.ddcmp_msg.specs.Message as messages
use Rattle.ddcmp_msg.specs.Message.{IsBytes, MessageValue}
use Rattle.ddcmp_msg.specs.Reading.{ReadingValue, Sound, HeaderBad, DataBad, Malformed, reading}
use Rattle.ddcmp_msg.specs.Spelling.{spelling}
use Rattle.ddcmp_msg.proofs.Agreement.{by_rule}
use Rattle.ddcmp_msg.proofs.Units.{spelled_once}
use Rattle.capture.specs.declared.format.Format.TheVariants.{Three}
use Rattle.capture.specs.declared.hint.HintForm.{HintForm}
use Rattle.capture.specs.declared.hint.HintForm.TheVariants.{Wide}
use Rattle.capture_record.specs.declared.record.Record.{Record}
use Rattle.capture.specs.Text.{capture_text, record_line}
use Rattle.capture.proofs.SoFarLaws.{text-push}
use Rattle.dna_packet.specs.declared.fault.PacketFault.{PacketFault}
use Rattle.dna_packet.specs.Packet.{PacketValue, Data, Control, IsReturned, packet_bytes}
use Rattle.dna_packet.specs.ReadingPacket.{packet_at}
use Rattle.dna_packet.specs.ReadingNsp.{nsp_at}
use Rattle.dna_packet.proofs.PacketLemmas.{packet_takes}
use Rattle.leaving_out.specs.declared.leaving.Leaving.{Leaving}
use Rattle.leaving_out.specs.declared.packet_left.Route.{Route}
use Rattle.leaving_out.specs.Messages.{is_returned}
use Rattle.leaving_out.specs.Packets.{route_of}
use Rattle.leaving_out.specs.Fitted.{is_moved, packet_fitted, packet_fitted_by, packet_on}
use Rattle.leaving_out.specs.Fitted.{record_fitted, records_fitted, route_fitted, unit_fitted, unit_fitted_by}
use Rattle.leaving_out.proofs.Kept.{IsBody, IsKept, IsUnitKept, body_of, if_kept, low_fits, same_kept, spelled_kept}
use Rattle.leaving_out.proofs.Made.{wide}
use Rattle.leaving_out.proofs.Returned.{not_returned, returned}

on_bytes : (route made : Route) (nsp : List ℕ) → route.rtflg < 128 → route.forward < 256 → IsBytes nsp → IsBytes (packet_on route made nsp)
on_bytes route made nsp short forward fits zero = omega (arith, short)
on_bytes route made nsp short forward fits (suc zero) = low_fits made.dst
on_bytes route made nsp short forward fits (suc (suc zero)) = low_fits (made.dst / 256)
on_bytes route made nsp short forward fits (suc (suc (suc zero))) = low_fits made.src
on_bytes route made nsp short forward fits (suc (suc (suc (suc zero)))) = low_fits (made.src / 256)
on_bytes route made nsp short forward fits (suc (suc (suc (suc (suc zero))))) = forward
on_bytes route made nsp short forward fits (suc (suc (suc (suc (suc (suc i)))))) = fits i

module _ (leaving : Leaving) (kept sender : Side) where
  module _ (packet : List ℕ) where
    -- it stays
    pub stays : (p : PacketValue) → IsReturned p → packet_fitted_by leaving kept sender packet (Ok p) ≡ packet
    stays (Data rtflg dst src forward nsp) back =
        ap (λ (b : Bool). cond b packet (moved rtflg dst src forward nsp)) (returned rtflg back)
      where
        moved : (rtflg dst src forward : ℕ) (nsp : List ℕ) → List ℕ
        moved rtflg dst src forward nsp =
            cond (is_moved leaving kept sender (nsp_at nsp))
            (packet_on (route_of rtflg dst src forward) (route_fitted leaving sender (route_of rtflg dst src forward)) nsp) packet
    stays (Control bytes) back = absurd back

    -- another goes by its message
    pub goes_by : (rtflg dst src forward : ℕ) (nsp : List ℕ) → (IsReturned (Data rtflg dst src forward nsp) → ⊥) →
        packet_fitted_by leaving kept sender packet (Ok (Data rtflg dst src forward nsp))
        ≡ cond (is_moved leaving kept sender (nsp_at nsp))
        (packet_on (route_of rtflg dst src forward) (route_fitted leaving sender (route_of rtflg dst src forward)) nsp) packet
    goes_by rtflg dst src forward nsp there =
        ap (λ (b : Bool). cond b packet (cond (is_moved leaving kept sender (nsp_at nsp))
        (packet_on (route_of rtflg dst src forward) (route_fitted leaving sender (route_of rtflg dst src forward)) nsp) packet))
        (not_returned rtflg there)

    module _ (fits : IsBytes packet) where
      kept_by : (r : Result PacketValue PacketFault) → packet_at packet ≡ r → IsKept packet (packet_fitted_by leaving kept sender packet r)
      kept_by (Err fault) e = same_kept packet fits
      kept_by (Ok (Control bytes)) e = same_kept packet fits
      kept_by (Ok (Data rtflg dst src forward nsp)) e =
          let p = packet_takes packet (Data rtflg dst src forward nsp) fits e in
          let all : IsBytes (packet_bytes (Data rtflg dst src forward nsp)) = subst IsBytes p.1 fits in
          let route : Route = route_of rtflg dst src forward in
          if_kept (is_returned rtflg) packet _ _ (same_kept packet fits)
          (if_kept (is_moved leaving kept sender (nsp_at nsp)) packet _ _
          (record {
            some = λ h. omega arith;
            short = omega (arith, ap length p.1);
            bytes = on_bytes route (route_fitted leaving sender route) nsp p.0.0.0 p.0.1.2 (λ j. all (suc (suc (suc (suc (suc (suc j)))))));
          }) (same_kept packet fits))

      pub fitted_kept : IsKept packet (packet_fitted leaving kept sender packet)
      fitted_kept = kept_by (packet_at packet) refl

  module _ (unit : List ℕ) (fits : IsBytes unit) where
    -- the packet that is made fits a unit
    pub fitted_body : (flags : Flags) (resp num : ℕ) (body : List ℕ) → reading unit ≡ Sound (messages.Data flags resp num body) →
        IsBody flags resp num (packet_fitted leaving kept sender body)
    fitted_body flags resp num body e =
        let h = body_of unit flags resp num body fits e in
        let k = fitted_kept body h.bytes in
        record {
          some = k.some h.some;
          short = omega (arith, k.short, h.short);
          bytes = k.bytes;
          resp_fits = h.resp_fits;
          num_fits = h.num_fits;
        }

    kept_as : (r : ReadingValue) → length unit ≤ 16393 → reading unit ≡ r → IsUnitKept (unit_fitted_by leaving kept sender unit r)
    kept_as (Sound (messages.Data flags resp num body)) short e = spelled_kept flags resp num _ (fitted_body flags resp num body e)
    kept_as (Sound (messages.Ack flags resp)) short e = record { short = short; bytes = fits }
    kept_as (Sound (messages.Nak flags reason resp)) short e = record { short = short; bytes = fits }
    kept_as (Sound (messages.Rep flags num)) short e = record { short = short; bytes = fits }
    kept_as (Sound (messages.Strt flags)) short e = record { short = short; bytes = fits }
    kept_as (Sound (messages.Stack flags)) short e = record { short = short; bytes = fits }
    kept_as HeaderBad short e = record { short = short; bytes = fits }
    kept_as DataBad short e = record { short = short; bytes = fits }
    kept_as (Malformed departure) short e = record { short = short; bytes = fits }

    pub unit_fitted_kept : length unit ≤ 16393 → IsUnitKept (unit_fitted leaving kept sender unit)
    unit_fitted_kept short = kept_as (reading unit) short refl

    -- a sound data message whose packet stays is as it was
    pub unit_stays : (flags : Flags) (resp num : ℕ) (body : List ℕ) → reading unit ≡ Sound (messages.Data flags resp num body) →
        packet_fitted leaving kept sender body ≡ body → unit ≡ unit_fitted leaving kept sender unit
    unit_stays flags resp num body e same =
        let m : MessageValue = messages.Data flags resp num body in
        spelled_once m unit ((by_rule unit (Sound m) fits).0 e)
        ∙ ap (λ (b : List ℕ). spelling (messages.Data flags resp num b)) (sym same)
        ∙ ap (unit_fitted_by leaving kept sender unit) (sym e)

module _ (leaving : Leaving) (kept side : Side) where
  records_more : (rs : List Record) (r : Record) →
      records_fitted leaving kept side (rs ++ r ∷ []) ≡ records_fitted leaving kept side rs ++ record_fitted leaving kept side r ∷ []
  records_more [] r = refl
  records_more (s ∷ rs) r = ap (λ (x : List Record). record_fitted leaving kept side s ∷ x) (records_more rs r)

  pub text_more : (own peer : ℕ) (rs : List Record) (r : Record) → capture_text Three own peer (records_fitted leaving kept side (rs ++ r ∷ []))
      ≡ capture_text Three own peer (records_fitted leaving kept side rs) ++ record_line Wide (record_fitted leaving kept side r)
  text_more own peer rs r =
      ap (capture_text Three own peer) (records_more rs r)
      ∙ text-push Three own peer (records_fitted leaving kept side rs) (record_fitted leaving kept side r)
      ∙ ap (λ (f : HintForm). capture_text Three own peer (records_fitted leaving kept side rs) ++ record_line f (record_fitted leaving kept side r))
      (wide (records_fitted leaving kept side rs))
