-- A side for which records exist sends no segment that is too long; and none that is out of order, if no record says that a packet was composed and
-- never sent.
use Rattle.accusing_segments.proofs.Prelude.{◌≡◌, ℕ, Bool, true, false, not, Option, Some, None, Result, Ok, Err, List, [], ◌∷◌, ◌++◌, refl, sym}
use Rattle.accusing_segments.proofs.Prelude.{subst, ap, ◌∙◌, ◌⊎◌, inl, inr, append_assoc, append-nil, or_left, MessageValue, Data, Ack, Nak, Rep}
use Rattle.accusing_segments.proofs.Prelude.{Strt, Stack, ReadingValue, reading, Sound, HeaderBad, DataBad, Malformed, Fate, NotKept, Record, User}
use Rattle.accusing_segments.proofs.Prelude.{Event, NspValue, DataSegment, LinkService, DataAck, OtherDataAck, ConnectAck, NoOperation}
use Rattle.accusing_segments.proofs.Prelude.{ConnectInitiate, ConnectConfirm, DisconnectInitiate, DisconnectConfirm, Head, StepRefusal, body_of}
use Rattle.accusing_segments.proofs.Prelude.{Queues, Carried, content, WireLayers, LayersTag, new_wire_layers_node, Passed, Own, Other, IsDamage}
use Rattle.accusing_segments.proofs.Prelude.{comes, IsPlacedFrom, Ends, Passes, Sends, Hears, HearsNoise, Acts, node_machine, IsNodePlacing}
use Rattle.accusing_segments.proofs.Prelude.{packet_in, Carries, acknowledges, has_room, message_of, message_within, message_in, history}
use Rattle.accusing_segments.proofs.Prelude.{is_wrong_message, is_wrong_in, is_wrong_unit, is_long_message, is_long_in, is_long_unit, SendsAll}
use Rattle.accusing_segments.proofs.Prelude.{IsWrong}
use Rattle.capture_record.specs.declared.event.Event.TheVariants as events
use Rattle.dna_station.specs.Book as arrival
use Rattle.accusing_links.specs.Answers.{IsWrong as IsWrongAnyhow}
use Rattle.accusing_segments.proofs.LinkSends.{SendsFine}
use Rattle.accusing_segments.proofs.Nodes.{Of, In, MayCome, MayAct, IsRight, sends_right, right_later, arrives_right, acts_right}
use Rattle.accusing_segments.proofs.Passing.{other_more, other_stays, Unless, AsLinks, passed_more, gone_now, gone_any, Came, come_now, fine_is_right}
use Rattle.accusing_segments.proofs.Passing.{fine_fits}

pub rest_sent : (drops : Bool) (before : List Passed) (event : Event) (records : List Record) → Unless drops (SendsAll (User event ∷ records)) →
    MayAct (AsLinks drops before) event × Unless drops (SendsAll records)
rest_sent true before (events.Composed packet) records all = (λ carried read. gone_any before carried.message, tt)
rest_sent true before event records all = (tt, tt)
rest_sent false before (events.Composed packet) records all = absurd all
rest_sent false before event records all = (tt, all)

-- of the message in a unit, if there is one
abbrev OfMessage : (NspValue → Type 0) → Option NspValue → Type 0
OfMessage P None = Unit {0}
OfMessage P (Some message) = P message

-- `drops` tells whether the node may drop packets that it composed
module _ (drops : Bool) (queues : Queues) where
  abbrev Right : List Passed → WireLayers → Type 0
  Right before s = IsRight queues (AsLinks drops before) s

  -- ---- what comes

  may_come : (before : List Passed) (unit : List ℕ) (sound : MessageValue) → reading unit ≡ Sound sound → Came before unit →
      (c : Result (Option Carried) StepRefusal) → content (body_of sound) ≡ c → MayCome (AsLinks drops before) c
  may_come before unit sound read came (Ok None) is = tt
  may_come before unit sound read came (Ok (Some packet)) is = come_now drops before unit sound packet read is came
  may_come before unit sound read came (Err refusal) is = tt

  pub damage_right : (before : List Passed) (s after : WireLayers) (tag : LayersTag) (fate : Fate) (r : ReadingValue) → IsDamage r →
      comes (node_machine queues) s tag fate r ≡ Ok after → Right before s → Right before after
  damage_right before s after tag fate HeaderBad damage e is = arrives_right queues (AsLinks drops before) s after arrival.HeaderBad fate e tt is
  damage_right before s after tag fate DataBad damage e is = arrives_right queues (AsLinks drops before) s after arrival.DataBad fate e tt is
  damage_right before s after tag fate (Sound m) damage e is = absurd damage
  damage_right before s after tag fate (Malformed departure) damage e is = absurd damage

  unit_right : (before : List Passed) (s after : WireLayers) (tag : LayersTag) (fate : Fate) (unit : List ℕ) (r : ReadingValue) → reading unit ≡ r →
      Came before unit → comes (node_machine queues) s tag fate r ≡ Ok after → Right before s → Right before after
  unit_right before s after tag fate unit (Sound m) read came e is =
      arrives_right queues (AsLinks drops before) s after (arrival.Sound m tag) fate e
      (may_come before unit m read came (content (body_of m)) refl) is
  unit_right before s after tag fate unit HeaderBad read came e is = damage_right before s after tag fate HeaderBad tt e is
  unit_right before s after tag fate unit DataBad read came e is = damage_right before s after tag fate DataBad tt e is
  unit_right before s after tag fate unit (Malformed departure) read came e is = let same : s ≡ after = cc in subst (Right before) same is

  pub comes_right : (before : List Passed) (s after : WireLayers) (tag : LayersTag) (fate : Fate) (unit bytes : List ℕ) →
      (bytes ≡ unit) ⊎ IsDamage (reading bytes) → Came before unit → comes (node_machine queues) s tag fate (reading bytes) ≡ Ok after →
      Right before s → Right before after
  comes_right before s after tag fate unit bytes (inl same) came e is =
      unit_right before s after tag fate unit (reading bytes) (ap reading (sym same)) came e is
  comes_right before s after tag fate unit bytes (inr damage) came e is = damage_right before s after tag fate (reading bytes) damage e is

  -- ---- what is sent

  abbrev Fine : List Passed → NspValue → Type 0
  Fine before m = SendsFine (AsLinks drops before) m

  fine_content : (before : List Passed) (c : Result (Option Carried) StepRefusal) → Of (Fine before) c → OfMessage (Fine before) (message_of c)
  fine_content before (Ok None) fine = tt
  fine_content before (Ok (Some packet)) fine = fine
  fine_content before (Err refusal) fine = absurd fine

  fine_message : (before : List Passed) (m : MessageValue) → Carries (In (Fine before)) m →
      OfMessage (Fine before) (message_within (packet_in (Sound m)))
  fine_message before (Data flags resp num body) fine = fine_content before (content body) fine
  fine_message before (Ack flags resp) fine = tt
  fine_message before (Nak flags reason resp) fine = tt
  fine_message before (Rep flags num) fine = tt
  fine_message before (Strt flags) fine = tt
  fine_message before (Stack flags) fine = tt

  -- ---- the units that are coming

  abbrev pub AllCame : List Passed → List (List ℕ) → Type 0
  AllCame before [] = Unit {0}
  AllCame before (unit ∷ units) = Came before unit × AllCame before units

  pub all_later : (before : List Passed) (one : Passed) (units : List (List ℕ)) → AllCame before units → AllCame (before ++ one ∷ []) units
  all_later before one [] all = tt
  all_later before one (unit ∷ units) all =
      (came_later, all_later before one units all.1)
    where
      came_later : Came (before ++ one ∷ []) unit
      came_later = record {
        words = λ own far number e. other_stays acknowledges own far number 0 before one (all.0.words own far number e);
        rooms = λ own far bytes e. other_stays has_room own far bytes 0 before one (all.0.rooms own far bytes e);
      }

  pub one_came : (before : List Passed) (unit : List ℕ) → Came (before ++ Other unit ∷ []) unit
  one_came before unit = record {
    words = λ own far number e. other_more acknowledges own far number 0 before unit ∙ or_left _ _ e;
    rooms = λ own far bytes e. other_more has_room own far bytes 0 before unit ∙ or_left _ _ e;
  }

  pub all_pushed : (before : List Passed) (units : List (List ℕ)) (unit : List ℕ) → AllCame before units → Came before unit →
      AllCame before (units ++ unit ∷ [])
  all_pushed before [] unit all this = (this, tt)
  all_pushed before (first ∷ units) unit all this = (all.0, all_pushed before units unit all.1 this)

  pub all_behind : (before : List Passed) (lost : List (List ℕ)) (unit : List ℕ) (later : List (List ℕ)) → AllCame before (lost ++ unit ∷ later) →
      Came before unit × AllCame before later
  all_behind before [] unit later all = (all.0, all.1)
  all_behind before (first ∷ lost) unit later all = all_behind before lost unit later all.1

  -- ---- all records

  abbrev AllFine : List Passed → List Passed → Type 0
  AllFine before [] = Unit {0}
  AllFine before (Own unit ∷ passed) = OfMessage (Fine before) (message_in unit) × AllFine (before ++ Own unit ∷ []) passed
  AllFine before (Other unit ∷ passed) = AllFine (before ++ Other unit ∷ []) passed

  all_fine : {s : WireLayers} {front : ℕ} {coming : List (List ℕ)} {passed : List Passed} {records : List Record} →
      IsPlacedFrom (node_machine queues) s front coming passed records → Unless drops (SendsAll records) → (before : List Passed) → Right before s →
      AllCame before coming → AllFine before passed
  all_fine Ends all before is came = tt
  all_fine (Passes {s = s} {coming = coming} {unit = unit} later) all before is came =
      all_fine later all (before ++ Other unit ∷ [])
      (right_later queues (AsLinks drops before) (AsLinks drops (before ++ Other unit ∷ [])) (passed_more drops before (Other unit)) s is)
      (all_pushed (before ++ Other unit ∷ []) coming unit (all_later before (Other unit) coming came) (one_came before unit))
  all_fine (Sends {s = s} {coming = coming} {unit = unit} m after known read made later) all before is came =
      let sent = sends_right queues (AsLinks drops before) (AsLinks drops (before ++ Own unit ∷ [])) (passed_more drops before (Own unit)) s after m
      known made is (λ packet there. gone_now drops before unit m packet read there) in (
        subst (λ (r : ReadingValue). OfMessage (Fine before) (message_within (packet_in r))) (sym read) (fine_message before m sent.1),
        all_fine later all (before ++ Own unit ∷ []) sent.0 (all_later before (Own unit) coming came),
      )
  all_fine (Hears {s = s} {coming = coming} lost unit rest are hint hinted bytes byte how tag fate after made later) all before is came =
      let behind = all_behind before lost unit rest (subst (AllCame before) are came) in
      all_fine later all before (comes_right before s after tag fate unit bytes how behind.0 made is) behind.1
  all_fine (HearsNoise {s = s} bytes damage tag after made later) all before is came =
      all_fine later all before (damage_right before s after tag NotKept (reading bytes) damage made is) came
  all_fine (Acts {s = s} {records = records} event after made later) all before is came =
      let parts = rest_sent drops before event records all in
      all_fine later parts.1 before (acts_right queues (AsLinks drops before) s after event parts.0 made is) came

  one_fine : (start before : List Passed) (unit : List ℕ) (later : List Passed) → AllFine start (before ++ Own unit ∷ later) →
      OfMessage (Fine (start ++ before)) (message_in unit)
  one_fine start [] unit later all =
      subst (λ (x : List Passed). OfMessage (Fine x) (message_in unit)) (sym (append-nil start)) all.0
  one_fine start (Own first ∷ before) unit later all =
      subst (λ (x : List Passed). OfMessage (Fine x) (message_in unit)) (append_assoc start (Own first ∷ []) before)
      (one_fine (start ++ Own first ∷ []) before unit later all.1)
  one_fine start (Other first ∷ before) unit later all =
      subst (λ (x : List Passed). OfMessage (Fine x) (message_in unit)) (append_assoc start (Other first ∷ []) before)
      (one_fine (start ++ Other first ∷ []) before unit later all)

  pub first_right : (head : Head) → Right [] (new_wire_layers_node head).station
  first_right head = record { links = tt; held = tt }

  fine_placed : (head : Head) (before later : List Passed) (unit : List ℕ) (records : List Record) →
      IsNodePlacing queues head (before ++ Own unit ∷ later) records → Unless drops (SendsAll records) →
      OfMessage (Fine before) (message_in unit)
  fine_placed head before later unit records placing all = one_fine [] before unit later (all_fine placing.0 all [] (first_right head) tt)

-- ---- what that says of a segment

right_message : (before : List Passed) (m : NspValue) → SendsFine (AsLinks false before) m → is_wrong_message (history before) m ≡ false
right_message before (DataSegment s) fine = ap not (fine_is_right before s fine)
right_message before (LinkService interrupt dst src rest) fine = refl
right_message before (DataAck dst src acks) fine = refl
right_message before (OtherDataAck dst src rest) fine = refl
right_message before (ConnectAck dst) fine = refl
right_message before (NoOperation rest) fine = refl
right_message before (ConnectInitiate retransmitted src services info segsize user_data) fine = refl
right_message before (ConnectConfirm dst src services info segsize user_data) fine = refl
right_message before (DisconnectInitiate dst src reason user_data) fine = refl
right_message before (DisconnectConfirm dst src reason) fine = refl

right_in : (before : List Passed) (o : Option NspValue) → OfMessage (SendsFine (AsLinks false before)) o → is_wrong_in (history before) o ≡ false
right_in before None fine = refl
right_in before (Some message) fine = right_message before message fine

short_message : (before : List Passed) (m : NspValue) → SendsFine (AsLinks true before) m → is_long_message (history before) m ≡ false
short_message before (DataSegment s) fine = ap not (fine_fits true before s fine)
short_message before (LinkService interrupt dst src rest) fine = refl
short_message before (DataAck dst src acks) fine = refl
short_message before (OtherDataAck dst src rest) fine = refl
short_message before (ConnectAck dst) fine = refl
short_message before (NoOperation rest) fine = refl
short_message before (ConnectInitiate retransmitted src services info segsize user_data) fine = refl
short_message before (ConnectConfirm dst src services info segsize user_data) fine = refl
short_message before (DisconnectInitiate dst src reason user_data) fine = refl
short_message before (DisconnectConfirm dst src reason) fine = refl

short_in : (before : List Passed) (o : Option NspValue) → OfMessage (SendsFine (AsLinks true before)) o → is_long_in (history before) o ≡ false
short_in before None fine = refl
short_in before (Some message) fine = short_message before message fine

pub never_placed : (queues : Queues) (head : Head) (before later : List Passed) (unit : List ℕ) (records : List Record) →
    is_wrong_unit (history before) unit ≡ true → IsNodePlacing queues head (before ++ Own unit ∷ later) records → SendsAll records → ⊥
never_placed queues head before later unit records refuted placing all =
    let fine = right_in before (message_in unit) (fine_placed false queues head before later unit records placing all) in
    cc

pub never_long : (queues : Queues) (head : Head) (before later : List Passed) (unit : List ℕ) (records : List Record) →
    is_long_unit (history before) unit ≡ true → IsNodePlacing queues head (before ++ Own unit ∷ later) records → ⊥
never_long queues head before later unit records refuted placing =
    let fine = short_in before (message_in unit) (fine_placed true queues head before later unit records placing tt) in
    cc

pub wrong_own : (passed : List Passed) (unit : List ℕ) → is_wrong_unit (history passed) unit ≡ true → IsWrong (passed ++ Own unit ∷ [])
wrong_own passed unit refuted queues head records placing all = never_placed queues head passed [] unit records refuted placing all

pub long_own : (passed : List Passed) (unit : List ℕ) → is_long_unit (history passed) unit ≡ true → (head : Head) →
    IsWrongAnyhow head (passed ++ Own unit ∷ [])
long_own passed unit refuted head queues records placing = never_long queues head passed [] unit records refuted placing
