-- What is asked of a unit that comes, and what is made of damage and of noise: at what is left as before.
use Rattle.leaving_runs.proofs.Prelude.{◌≡◌, ℕ, Bool, true, false, cond, leb, Option, Some, None, Result, Ok, Err, List, [], ◌⊎◌, inl, inr, refl}
use Rattle.leaving_runs.proofs.Prelude.{sym, ap, ◌∙◌, subst, length, same_Some, IfSome, MessageValue, Data, Ack, Nak, Rep, Strt, Stack, IsBytes}
use Rattle.leaving_runs.proofs.Prelude.{HeaderCheck, DataCheck, ReadingValue, reading, Fate, NspValue, State, Halted, Istrt, Astrt, Running}
use Rattle.leaving_runs.proofs.Prelude.{WrongResponse, StepRefusal, SendPacket, change_of, counts_damage, HeaderBad, DataBad, body_of, damage}
use Rattle.leaving_runs.proofs.Prelude.{noise_comes, HeldPacket, WireStation, acknowledges, wire_book, wire_after_arrival, Queues, LinkTag, Carried}
use Rattle.leaving_runs.proofs.Prelude.{content, WireLayers, LayersTag, WireLayersNode, wrong_response_in, wrong_response, wrong_content, or_else}
use Rattle.leaving_runs.proofs.Prelude.{wrong_unit, StepAlone, Makes, Refuses, sends, meets, layers_end_by, message_in_unit, LeftOut, source_of}
use Rattle.leaving_runs.proofs.Prelude.{destination_of, sent_out, kept_out, other_out, with_body, Leaves, PacketsFit}
use Rattle.ddcmp_msg.specs.Reading as read_as
use Rattle.capture_record.specs.declared.fate.Fate.TheVariants as fates
use Rattle.dna_station.specs.declared.refusal.StepRefusal.TheVariants.{Station as OfStation}
use Rattle.dna_node.specs.Alone.{does}
use Rattle.leaving_runs.proofs.Bytes.{body_bytes}
use Rattle.leaving_runs.proofs.Alone.Packets.{stands_for, carries}
use Rattle.leaving_runs.proofs.Alone.Stations.{by_held, as_many, counted_left}
use Rattle.leaving_runs.proofs.Alone.Layers.{Station, LayersLeft, ResultLeft, SentLeft, IsOfLinks, unread}

-- only a data message has a packet
pub body_left : (packet : List ℕ → List ℕ) (m : MessageValue) → change_of m ≡ SendPacket → body_of (with_body packet m) ≡ packet (body_of m)
body_left packet (Data flags resp num body) sends = refl
body_left packet m sends = absurd cc

pub packet_or_none : (m : MessageValue) → (change_of m ≡ SendPacket) ⊎ (body_of m ≡ [])
packet_or_none (Data flags resp num body) = inl refl
packet_or_none m = inr refl

-- a message that comes is judged here, and at its sender
abbrev pub IsJudgedComing : LeftOut → NspValue → Type 0
IsJudgedComing out m =
    (kept_out out (source_of m) (destination_of m) ≡ false) × (sent_out (other_out out) (source_of m) (destination_of m) ≡ false)

-- what becomes of the packets that come to the node with this address
pub record ComesFit (leaves : Leaves) (node peer : ℕ) : Type 0 where
  pub fits : PacketsFit (other_out leaves.out) peer node leaves.packets.far
  -- they can be read on
  pub reads : (body : List ℕ) (packet : Carried) → IsBytes body → content body ≡ Ok (Some packet) →
      (c : Option Carried) × (content (leaves.packets.far body) ≡ Ok c)
  -- and what is left out at its sender, and judged here, is stood for
  pub stands : (body : List ℕ) (packet : Carried) → IsBytes body → content body ≡ Ok (Some packet) → packet.src ≡ peer → packet.dst ≡ node →
      sent_out (other_out leaves.out) (source_of packet.message) (destination_of packet.message) ≡ true →
      kept_out leaves.out (source_of packet.message) (destination_of packet.message) ≡ false →
      content (leaves.packets.far body) ≡ Ok (carries packet.dst packet.src (stands_for packet.message))

module _ (queues : Queues) (leaves : Leaves) (node peer : ℕ) where
  abbrev pub Layered : WireLayers → WireLayers → Type 0
  Layered s t = LayersLeft queues leaves node peer s t

  abbrev pub Resulting : (J : Type 0) → Result WireLayers StepRefusal → Result WireLayers StepRefusal → Type 0
  Resulting J o p = ResultLeft queues leaves node peer J o p

  -- what is made of a record, and of what is left of it
  abbrev pub StepLeft : (is_judged : Type 0) → StepAlone WireLayers → StepAlone WireLayers → Type 0
  StepLeft is_judged (Makes n) (Makes m) = Layered n.station m.station × (m.front ≡ n.front)
  StepLeft is_judged (Makes n) (Refuses accused reason) = ⊥
  StepLeft is_judged (Refuses accused reason) o = is_judged → IsOfLinks reason → o ≡ Refuses accused reason

  module _ (J : Type 0) (n m : WireLayersNode) where
    abbrev s : WireLayers
    s = n.station

    abbrev t : WireLayers
    t = m.station

    pub does_left : m.front ≡ n.front → (o p : Result WireLayers StepRefusal) → Resulting J o p → StepLeft J (does n o) (does m p)
    does_left same (Ok x) (Ok y) l = (l, same)
    does_left same (Ok x) (Err refusal) l = absurd l
    does_left same (Err refusal) p l = λ j of. ap (does m) (l j of)

    pub sends_left : m.front ≡ n.front → (o p : Result (WireLayers × LayersTag) StepRefusal) → SentLeft queues leaves node peer J o p →
        StepLeft J (sends n o) (sends m p)
    sends_left same (Ok x) (Ok y) l = (l, same)
    sends_left same (Ok x) (Err refusal) l = absurd l
    sends_left same (Err refusal) p l = λ j of. ap (sends m) (l j of)

    pub meets_left : (front : ℕ) (o p : Result WireLayers StepRefusal) → Resulting J o p → StepLeft J (meets n front o) (meets m front p)
    meets_left front (Ok x) (Ok y) l = (l, refl)
    meets_left front (Ok x) (Err refusal) l = absurd l
    meets_left front (Err refusal) p l = λ j of. ap (meets m front) (l j of)

    module _ (l : Layered s t) where
      -- ---- damage

      abbrev pub header_comes : Fate → WireLayers → Result WireLayers StepRefusal
      header_comes fate x = (layers_end_by queues).machine.arrives x HeaderBad fate

      abbrev pub data_comes : Fate → WireLayers → Result WireLayers StepRefusal
      data_comes fate x = (layers_end_by queues).machine.arrives x DataBad fate

      same_state : counts_damage t.station.variables.state ≡ counts_damage s.station.variables.state
      same_state = ap (λ (v : WireStation LinkTag). counts_damage v.variables.state) l.station.is

      pub header_left : (fate : Fate) → Resulting J (header_comes fate s) (header_comes fate t)
      header_left fates.NotKept = record {
        station = subst (λ (b : Bool). Station queues leaves node peer (wire_after_arrival s.station HeaderBad false)
            (cond b (wire_book.counts HeaderCheck t.station) t.station)) (sym same_state)
            (counted_left leaves.packets.own HeaderCheck s.station t.station l.station (counts_damage s.station.variables.state));
        links = l.links;
      }
      header_left fates.Kept = λ j of. absurd of
      header_left fates.Dropped = λ j of. absurd of

      pub data_left : (fate : Fate) → Resulting J (data_comes fate s) (data_comes fate t)
      data_left fates.NotKept = record {
        station = subst (λ (b : Bool). Station queues leaves node peer (wire_after_arrival s.station DataBad false)
            (cond b (wire_book.counts DataCheck t.station) t.station)) (sym same_state)
            (counted_left leaves.packets.own DataCheck s.station t.station l.station (counts_damage s.station.variables.state));
        links = l.links;
      }
      data_left fates.Kept = λ j of. absurd of
      data_left fates.Dropped = λ j of. absurd of

      pub noise_left : (r : ReadingValue) → Resulting J (noise_comes (layers_end_by queues).machine s (damage r))
          (noise_comes (layers_end_by queues).machine t (damage r))
      noise_left read_as.HeaderBad = header_left fates.NotKept
      noise_left read_as.DataBad = data_left fates.NotKept
      noise_left (read_as.Sound message) = λ j of. absurd of
      noise_left (read_as.Malformed departure) = λ j of. absurd of

      -- ---- a sound unit

      response_left : (resp : ℕ) → wrong_response t.station.variables resp ≡ wrong_response s.station.variables resp
      response_left resp =
          by_held leaves.packets.own s.station t.station
          (λ (v : WireStation LinkTag). wrong_response v.variables resp ≡ wrong_response s.station.variables resp) l.station
          (λ held e. by_state s.station.variables.state held (as_many leaves.packets.own s.station held e))
        where
          by_state : (state : State) (held : List (HeldPacket LinkTag)) → length held ≡ length s.station.variables.held →
              wrong_response_in state (record s.station.variables { held = held }) resp
              ≡ wrong_response_in state s.station.variables resp
          by_state Halted held many = refl
          by_state Istrt held many = refl
          by_state Astrt held many = refl
          by_state Running held many =
              ap (λ (size : ℕ). cond (leb (acknowledges s.station.variables resp) size) None (Some (OfStation WrongResponse))) many

      module _ (far : ComesFit leaves node peer) (bytes : List ℕ) (is_bytes : IsBytes bytes)
          (judged : J → IfSome (message_in_unit bytes) (IsJudgedComing leaves.out)) where
        reads_left : (body : List ℕ) → IsBytes body → (o : Result (Option Carried) StepRefusal) → content body ≡ o → wrong_content o ≡ None →
            wrong_content (content (leaves.packets.far body)) ≡ None
        reads_left body body_is (Ok None) held right = ap wrong_content (far.fits.none body body_is held)
        reads_left body body_is (Ok (Some packet)) held right = ap wrong_content (far.reads body packet body_is held).1
        reads_left body body_is (Err refusal) held right = absurd cc

        pub unit_left : (message : MessageValue) → reading bytes ≡ read_as.Sound message → wrong_unit s message ≡ None →
            wrong_unit t (with_body leaves.packets.far message) ≡ None
        unit_left (Data flags resp num body) read right =
            ap (λ (o : Option StepRefusal). or_else o (wrong_content (content (leaves.packets.far body)))) (response_left resp)
            ∙ at (wrong_response s.station.variables resp) right
          where
            at : (o : Option StepRefusal) → or_else o (wrong_content (content body)) ≡ None →
                or_else o (wrong_content (content (leaves.packets.far body))) ≡ None
            at None right = reads_left body (body_bytes bytes (Data flags resp num body) is_bytes read) (content body) refl right
            at (Some refusal) right = absurd cc
        unit_left (Ack flags resp) read right = response_left resp ∙ right
        unit_left (Nak flags reason resp) read right = response_left resp ∙ right
        unit_left (Rep flags num) read right = refl
        unit_left (Strt flags) read right = refl
        unit_left (Stack flags) read right = refl

        -- what the links refuse is nothing of these
        response_unread : (state : State) (resp : ℕ) (refusal : StepRefusal) → wrong_response_in state s.station.variables resp ≡ Some refusal →
            IsOfLinks refusal → ⊥
        response_unread Running resp refusal e of = at (leb (acknowledges s.station.variables resp) (length s.station.variables.held)) e
          where
            at : (b : Bool) → cond b None (Some (OfStation WrongResponse)) ≡ Some refusal → ⊥
            at true e = absurd cc
            at false e = subst IsOfLinks (sym (same_Some _ _ e)) of
        response_unread state resp refusal e of = absurd cc

        pub unit_unread : (message : MessageValue) (refusal : StepRefusal) → wrong_unit s message ≡ Some refusal → IsOfLinks refusal → ⊥
        unit_unread (Data flags resp num body) refusal e of = at (wrong_response s.station.variables resp) refl e
          where
            by_content : (c : Result (Option Carried) StepRefusal) → content body ≡ c → wrong_content c ≡ Some refusal → ⊥
            by_content (Ok carried) held e = absurd cc
            by_content (Err other) held e = unread body refusal (held ∙ ap Err (same_Some other refusal e)) of

            at : (o : Option StepRefusal) → wrong_response s.station.variables resp ≡ o → or_else o (wrong_content (content body)) ≡ Some refusal → ⊥
            at None is e = by_content (content body) refl e
            at (Some other) is e = response_unread s.station.variables.state resp refusal (is ∙ e) of
        unit_unread (Ack flags resp) refusal e of = response_unread s.station.variables.state resp refusal e of
        unit_unread (Nak flags reason resp) refusal e of = response_unread s.station.variables.state resp refusal e of
        unit_unread message refusal e of = absurd cc
