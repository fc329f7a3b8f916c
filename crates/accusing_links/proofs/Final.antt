-- A side for which records exist puts no wrong packet into a data unit.
use Rattle.accusing_links.proofs.Prelude.{◌≡◌, ℕ, Bool, true, ◌||◌, Option, Some, None, Result, Ok, Err, List, [], ◌∷◌, ◌++◌, IfSome, refl, sym}
use Rattle.accusing_links.proofs.Prelude.{subst, ap, ◌∙◌, ◌⊎◌, inl, inr, append_assoc, append-nil, ReadingValue, reading, NotKept, Record, AckWord}
use Rattle.accusing_links.proofs.Prelude.{NspValue, DataSegment, DataAck, LinkService, OtherDataAck, ConnectAck, NoOperation, ConnectInitiate}
use Rattle.accusing_links.proofs.Prelude.{ConnectConfirm, DisconnectInitiate, DisconnectConfirm, Head, StepRefusal, HeldPacket, Queues, LinkTag}
use Rattle.accusing_links.proofs.Prelude.{Carried, content, WireLayers, new_wire_layers_node, Passed, Own, Other, IsPlacedFrom, Ends, Passes, Sends}
use Rattle.accusing_links.proofs.Prelude.{Hears, HearsNoise, Acts, Wrong, node_machine, NameLinks, IsNodePlacing, IsWrong, Shown, packet_in}
use Rattle.accusing_links.proofs.Prelude.{shown_by, passed_of, segment_of, CI, CC, RUN, connect_of, heard, wrong_in, wrong_unit}
use Rattle.accusing_links.proofs.{Held.AreHeld, Received.AreFine, Tied.tied_more}
use Rattle.accusing_links.proofs.Nodes.{HasFine, IsFine, sends_right, acts_right}
use Rattle.accusing_links.proofs.RightLinks.{right_more}
use Rattle.accusing_links.proofs.LinkSteps.{AcksFine}
use Rattle.accusing_links.proofs.TiedSends.{Joined, CanRun, LinkFine}
use Rattle.accusing_links.proofs.Passing.{other_passed, passed_more}
use Rattle.accusing_links.proofs.RightNode.{N, P, Is, Fine, Comes, kept, Right, Came, damage_right, comes_right, fine_message}

module _ (queues : Queues) (head : Head) where
  -- ---- one unit more passes

  module _ (before : List Passed) (one : Passed) where
    abbrev after : List Passed
    after = before ++ one ∷ []

    words_more : (own far : ℕ) (words : List AckWord) → AreFine (N queues head before own far) words → AreFine (N queues head after own far) words
    words_more own far [] fine = tt
    words_more own far (word ∷ words) fine = (λ e. go (fine.0 e), words_more own far words fine.1)
      where
        go : (word.number ≡ 0) ⊎ N queues head before own far word.number → (word.number ≡ 0) ⊎ N queues head after own far word.number
        go (inl none) = inl none
        go (inr came) = inr (passed_more segment_of before one own far word.number came)

    acks_more : (m : NspValue) → AcksFine (N queues head before) m → AcksFine (N queues head after) m
    acks_more (DataSegment s) fine = words_more s.srcaddr s.dstaddr s.acks fine
    acks_more (DataAck dst src acks) fine = words_more src dst acks fine
    acks_more (LinkService interrupt dst src rest) fine = tt
    acks_more (OtherDataAck dst src rest) fine = tt
    acks_more (ConnectAck dst) fine = tt
    acks_more (NoOperation rest) fine = tt
    acks_more (ConnectInitiate retransmitted src services info segsize user_data) fine = tt
    acks_more (ConnectConfirm dst src services info segsize user_data) fine = tt
    acks_more (DisconnectInitiate dst src reason user_data) fine = tt
    acks_more (DisconnectConfirm dst src reason) fine = tt

    joined_more : (own far : ℕ) → Joined (P queues head before) own far → Joined (P queues head after) own far
    joined_more own far (named, inl called) = (named, inl (passed_more connect_of before one CI 0 far called))
    joined_more own far (named, inr answered) = (named, inr (passed_more connect_of before one CC own far answered))

    run_more : (own far : ℕ) → CanRun (P queues head before) own far → CanRun (P queues head after) own far
    run_more own far (named, inl called) =
        (named, inl (passed_more connect_of before one CI 0 far called.0, passed_more connect_of before one RUN own far called.1))
    run_more own far (named, inr answered) = (named, inr (passed_more connect_of before one CC own far answered))

    link_more : (m : NspValue) → LinkFine (P queues head before) m → LinkFine (P queues head after) m
    link_more (DataSegment s) fine = run_more s.srcaddr s.dstaddr fine
    link_more (DataAck dst src acks) fine = run_more src dst fine
    link_more (LinkService interrupt dst src rest) fine = run_more src dst fine
    link_more (OtherDataAck dst src rest) fine = run_more src dst fine
    link_more (ConnectAck dst) fine = passed_more connect_of before one CI 0 dst fine
    link_more (NoOperation rest) fine = tt
    link_more (ConnectInitiate retransmitted src services info segsize user_data) fine = fine
    link_more (ConnectConfirm dst src services info segsize user_data) fine = (fine.0, passed_more connect_of before one CI 0 dst fine.1)
    link_more (DisconnectInitiate dst src reason user_data) fine = joined_more src dst fine
    link_more (DisconnectConfirm dst src reason) fine = tt

    content_more : (c : Result (Option Carried) StepRefusal) → HasFine (Fine queues head before) c → HasFine (Fine queues head after) c
    content_more (Ok None) fine = tt
    content_more (Ok (Some packet)) fine =
        record { out = fine.out; acks = acks_more packet.message fine.acks; link = link_more packet.message fine.link }
    content_more (Err refusal) fine = absurd fine

    held_more : (held : List (HeldPacket LinkTag)) → AreHeld (IsFine (Fine queues head before)) held → AreHeld (IsFine (Fine queues head after)) held
    held_more [] are = tt
    held_more (packet ∷ held) are = (content_more (content packet.body) are.0, held_more held are.1)

    pub right_later : (s : WireLayers) → Right queues head before s → Right queues head after s
    right_later s is = record {
      links = record {
        addresses = is.links.addresses;
        right = right_more (N queues head before) (N queues head after) queues (passed_more segment_of before one) s.links.links is.links.right;
        tied = tied_more (P queues head before) (P queues head after) queues (passed_more connect_of before one) s.links.links is.links.tied;
      };
      held = held_more s.station.variables.held is.held;
    }

    pub came_later : (packet : Option (List ℕ)) → Came queues head before packet → Came queues head after packet
    came_later packet came = record {
      segments = λ a b c e. passed_more segment_of before one a b c (came.segments a b c e);
      connects = λ a b c e. passed_more connect_of before one a b c (came.connects a b c e);
    }

  -- ---- the units that are coming

  abbrev pub UnitCame : List Passed → List ℕ → Type 0
  UnitCame before unit = Came queues head before (packet_in (reading unit))

  abbrev pub AllCame : List Passed → List (List ℕ) → Type 0
  AllCame before [] = Unit {0}
  AllCame before (unit ∷ units) = UnitCame before unit × AllCame before units

  pub all_later : (before : List Passed) (one : Passed) (units : List (List ℕ)) → AllCame before units → AllCame (before ++ one ∷ []) units
  all_later before one [] all = tt
  all_later before one (unit ∷ units) all = (came_later before one (packet_in (reading unit)) all.0, all_later before one units all.1)

  this_came : (of : NspValue → Shown) (before : List Passed) (unit : List ℕ) (a b c : ℕ) → shown_by of (packet_in (reading unit)) a b c ≡ true →
      passed_of of (before ++ Other unit ∷ []) a b c ≡ true
  this_came of before unit a b c e = other_passed of before unit a b c ∙ ap (λ (x : Bool). x || passed_of of before a b c) e

  pub one_came : (before : List Passed) (unit : List ℕ) → UnitCame (before ++ Other unit ∷ []) unit
  one_came before unit = record { segments = this_came segment_of before unit; connects = this_came connect_of before unit }

  pub all_pushed : (before : List Passed) (units : List (List ℕ)) (unit : List ℕ) → AllCame before units → UnitCame before unit →
      AllCame before (units ++ unit ∷ [])
  all_pushed before [] unit all this = (this, tt)
  all_pushed before (first ∷ units) unit all this = (all.0, all_pushed before units unit all.1 this)

  pub all_behind : (before : List Passed) (lost : List (List ℕ)) (unit : List ℕ) (later : List (List ℕ)) → AllCame before (lost ++ unit ∷ later) →
      UnitCame before unit × AllCame before later
  all_behind before [] unit later all = (all.0, all.1)
  all_behind before (first ∷ lost) unit later all = all_behind before lost unit later all.1

  -- ---- all records

  abbrev AllFine : List Passed → List Passed → Type 0
  AllFine before [] = Unit {0}
  AllFine before (Own unit ∷ passed) = (wrong_unit head (heard before) unit ≡ None) × AllFine (before ++ Own unit ∷ []) passed
  AllFine before (Other unit ∷ passed) = AllFine (before ++ Other unit ∷ []) passed

  all_fine : {s : WireLayers} {front : ℕ} {coming : List (List ℕ)} {passed : List Passed} {records : List Record} →
      IsPlacedFrom (node_machine queues) s front coming passed records → NameLinks records → (before : List Passed) → Right queues head before s →
      AllCame before coming → AllFine before passed
  all_fine Ends names before is came = tt
  all_fine (Passes {s = s} {coming = coming} {unit = unit} later) names before is came =
      all_fine later names (before ++ Other unit ∷ []) (right_later before (Other unit) s is)
      (all_pushed (before ++ Other unit ∷ []) coming unit (all_later before (Other unit) coming came) (one_came before unit))
  all_fine (Sends {s = s} {coming = coming} {unit = unit} m after known read made later) names before is came =
      let sent = sends_right queues (Is queues head before) (Fine queues head before) (Comes queues head before)
      (kept queues head before) s after m known made is in (
        ap (λ (r : ReadingValue). wrong_in head (heard before) (packet_in r)) read ∙ fine_message queues head before m sent.1,
        all_fine later names (before ++ Own unit ∷ []) (right_later before (Own unit) after sent.0) (all_later before (Own unit) coming came),
      )
  all_fine (Hears {s = s} {coming = coming} lost unit rest are hint hinted bytes byte how tag fate after made later) names before is came =
      let all = all_behind before lost unit rest (subst (AllCame before) are came) in
      all_fine later names before (comes_right queues head before s after tag fate unit bytes how all.0 made is) all.1
  all_fine (HearsNoise {s = s} bytes damage tag after made later) names before is came =
      all_fine later names before (damage_right queues head before s after tag NotKept (reading bytes) damage made is) came
  all_fine (Acts {s = s} event after made later) names before is came =
      all_fine later names.1 before (acts_right queues (Is queues head before) (Fine queues head before) (Comes queues head before)
      (kept queues head before) s after event names.0 made is) came

  one_fine : (start before : List Passed) (unit : List ℕ) (later : List Passed) → AllFine start (before ++ Own unit ∷ later) →
      wrong_unit head (heard (start ++ before)) unit ≡ None
  one_fine start [] unit later all =
      subst (λ (x : List Passed). wrong_unit head (heard x) unit ≡ None) (sym (append-nil start)) all.0
  one_fine start (Own first ∷ before) unit later all =
      subst (λ (x : List Passed). wrong_unit head (heard x) unit ≡ None) (append_assoc start (Own first ∷ []) before)
      (one_fine (start ++ Own first ∷ []) before unit later all.1)
  one_fine start (Other first ∷ before) unit later all =
      subst (λ (x : List Passed). wrong_unit head (heard x) unit ≡ None) (append_assoc start (Other first ∷ []) before)
      (one_fine (start ++ Other first ∷ []) before unit later all)

  pub first_right : Right queues head [] (new_wire_layers_node head).station
  first_right = record { links = record { addresses = record { own = refl; other = refl }; right = tt; tied = tt }; held = tt }

  pub never_placed : (before later : List Passed) (unit : List ℕ) (records : List Record) (wrong : Wrong) →
      wrong_unit head (heard before) unit ≡ Some wrong → IsNodePlacing queues head (before ++ Own unit ∷ later) records → ⊥
  never_placed before later unit records wrong refuted placing =
      let fine = one_fine [] before unit later (all_fine placing.0 placing.1 [] first_right tt) in cc

pub wrong_own : (head : Head) (passed : List Passed) (unit : List ℕ) (result : Option Wrong) →
    result ≡ wrong_unit head (heard passed) unit → IfSome result (λ wrong. IsWrong head (passed ++ Own unit ∷ []))
wrong_own head passed unit None is = tt
wrong_own head passed unit (Some wrong) is = λ queues records placing. never_placed queues head passed [] unit records wrong (sym is) placing
