-- No acknowledgement alone that goes back has a placing.
use Rattle.accusing_links.proofs.Prelude.{◌≡◌, ℕ, Bool, true, leb, Option, Some, None, Result, Ok, Err, List, [], ◌∷◌, ◌++◌, refl, sym, ◌∙◌}
use Rattle.accusing_links.proofs.Prelude.{list_any, and_parts, leb-true, Data, Flags, ReadingValue, reading, Sound, Record, NspValue, DataAck, Head}
use Rattle.accusing_links.proofs.Prelude.{StepRefusal, Queues, Carried, content, Passed, Own, IsNodePlacing, shown_in, calls_of, told, is_back}
use Rattle.accusing_links.proofs.Prelude.{is_back_message, IsWrong, is_back_in, is_back_unit}
use Rattle.accusing_links.proofs.{FollowSteps.not_both, PlacedClaims.claim_of}

module _ (queues : Queues) (head : Head) (before later : List Passed) (unit : List ℕ) (records : List Record)
    (placing : IsNodePlacing queues head (before ++ Own unit ∷ later) records) where
  message_back : (flags : Flags) (resp num : ℕ) (body : List ℕ) (dst src : ℕ) (m : NspValue) → reading unit ≡ Sound (Data flags resp num body) →
      content body ≡ Ok (Some (record { dst = dst; src = src; message = m })) → is_back_message (told before) num m ≡ true → ⊥
  message_back flags resp num body dst src (DataAck to from acks) read is e =
      let parts = and_parts (leb (calls_of before to) 1) _ e in
      not_both (list_any (is_back (told before) num from to) acks) parts.1
      (claim_of queues head from to before later unit records (Data flags resp num body) read placing
      (record { dst = dst; src = src; message = DataAck to from acks }) is refl refl (leb-true (calls_of before to) 1 parts.0))
  message_back flags resp num body dst src m read is e = absurd cc

  packet_back : (flags : Flags) (resp num : ℕ) (body : List ℕ) (c : Result (Option Carried) StepRefusal) →
      reading unit ≡ Sound (Data flags resp num body) → content body ≡ c →
      shown_in (λ m first second third. is_back_message (told before) num m) c 0 0 0 ≡ true → ⊥
  packet_back flags resp num body (Ok None) read is e = absurd cc
  packet_back flags resp num body (Ok (Some packet)) read is e = message_back flags resp num body packet.dst packet.src packet.message read is e
  packet_back flags resp num body (Err refusal) read is e = absurd cc

  unit_back : (r : ReadingValue) → reading unit ≡ r → is_back_in (told before) r ≡ true → ⊥
  unit_back (Sound (Data flags resp num body)) read e = packet_back flags resp num body (content body) read refl e
  unit_back r read e = absurd cc

pub never_back : (queues : Queues) (head : Head) (before later : List Passed) (unit : List ℕ) (records : List Record) →
    is_back_unit (told before) unit ≡ true → IsNodePlacing queues head (before ++ Own unit ∷ later) records → ⊥
never_back queues head before later unit records back placing = unit_back queues head before later unit records placing (reading unit) refl back

pub back_own : (passed : List Passed) (unit : List ℕ) (result : Bool) → result ≡ is_back_unit (told passed) unit → result ≡ true → (head : Head) →
    IsWrong head (passed ++ Own unit ∷ [])
back_own passed unit result is true_result head queues records placing =
    never_back queues head passed [] unit records (sym is ∙ true_result) placing
