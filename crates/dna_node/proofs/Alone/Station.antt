-- The station of one end alone is that of a node of the pair without its partner period, and with other labels beside its packets: all that may
-- happen goes along, but for what only the rule on periods refuses.
use Rattle.std.proofs.Common.{◌≡◌, ℕ, ◌+◌, ◌-◌, Bool, true, false, ◌&&◌, not, eqb, ltb, leb, cond, Option, Some, None, List, [], ◌∷◌, map, fold}
use Rattle.std.proofs.Common.{length, refl, sym, ap, ap₂, ◌∙◌, option_map}
use Rattle.std.specs.Prelude.{slice_get, slice_set}
use Rattle.std.proofs.lemmas.List.{length-map, map-append, map-set, drop-map}
use Rattle.std.proofs.lemmas.Option.{slice_get-map}
use Rattle.ddcmp_msg.specs.Message.{MessageValue}
use Rattle.ddcmp_msg.specs.declared.nak_reason.NakReason.{NakReason}
use Rattle.ddcmp_msg.specs.declared.nak_reason.NakReason.TheVariants.{HeaderCheck, DataCheck}
use Rattle.dna_station.specs.declared.state.StationEvent.{StationEvent}
use Rattle.dna_station.specs.declared.state.StationEvent.TheVariants.{Start, Halt}
use Rattle.dna_station.specs.declared.tag.Tag.{Tag}
use Rattle.dna_station.specs.Table.{WINDOW, Check, checks, RespIsLast, CauseIsOpen, SomeOutstanding, NumIsHighest, NumIsNext, RoomIfNew}
use Rattle.dna_station.specs.Table.{AsFirstGiven, Change, Nothing, UseCause, SendPacket, change_of, Effect, GoTo, TakePartner, Respond, SetBack}
use Rattle.dna_station.specs.Table.{TakePacket, AnswerRep, row, counts_damage}
use Rattle.dna_station.specs.Station.{wire}
use Rattle.dna_station.specs.Book.{num_of, resp_of, body_of, Sound, HeaderBad, DataBad}
use Rattle.dna_station.specs.WireStation.{HeldPacket, StationVariables, WireStation, wire_after_event, with_new, labelled, with_label}
use Rattle.dna_station.specs.WireStation.{wire_after_label}
use Rattle.dna_station.specs.WireBook.{wire_is_new, is_held_packet, wire_passes, wire_sends, acknowledges, wire_acknowledged_by}
use Rattle.dna_station.specs.WireBook.{wire_responded, wire_is_next, with_next, wire_does, wire_book, wire_sending_refusal}
use Rattle.dna_station.specs.WireBook.{wire_after_sending, wire_after_arrival, gives_by, gives_new}
use Rattle.dna_station.proofs.Cut.Sending.{failed_same}
use Rattle.dna_node.specs.Alone.{unknown_period}

module _ {L : Type 0} (forget_label : L → L) where
  abbrev pub forget_packet : HeldPacket L → HeldPacket L
  forget_packet packet = record { body = packet.body; label = option_map forget_label packet.label }

  abbrev pub forget_variables : StationVariables L → StationVariables L
  forget_variables k = record {
    state = k.state;
    received = k.received;
    acknowledged = k.acknowledged;
    ahead = k.ahead;
    held = map forget_packet k.held;
  }

  -- of the partner period it is left whether there is one
  abbrev pub forget_period : ℕ → ℕ
  forget_period period = 0

  abbrev pub forget_station : WireStation L → WireStation L
  forget_station w = record {
    variables = forget_variables w.variables;
    period = w.period;
    partner = option_map forget_period w.partner;
    causes = w.causes;
  }

  pub as_many : (k : StationVariables L) → length (map forget_packet k.held) ≡ length k.held
  as_many k = length-map k.held forget_packet

  -- ---- the user

  pub event_along : (w : WireStation L) (event : StationEvent) →
      wire_after_event (forget_station w) event ≡ forget_station (wire_after_event w event)
  event_along w Start = refl
  event_along w Halt = refl

  -- ---- a message is sent

  new_along : (k : StationVariables L) → wire_is_new (forget_variables k) ≡ wire_is_new k
  new_along k = ap (eqb k.ahead) (as_many k)

  held_along : (o : Option (HeldPacket L)) (body : List ℕ) → is_held_packet (option_map forget_packet o) body ≡ is_held_packet o body
  held_along None body = refl
  held_along (Some packet) body = refl

  module _ (w : WireStation L) (m : MessageValue) where
    abbrev k : StationVariables L
    k = w.variables

    passes_along : (check : Check) → wire_passes (forget_station w) m check ≡ wire_passes w m check
    passes_along RespIsLast = refl
    passes_along CauseIsOpen = refl
    passes_along SomeOutstanding = ap (λ (n : ℕ). not (eqb n 0)) (as_many k)
    passes_along NumIsHighest = ap (λ (n : ℕ). eqb (num_of m) (wire (k.acknowledged + n))) (as_many k)
    passes_along NumIsNext = refl
    passes_along RoomIfNew = ap₂ (λ (new : Bool) (n : ℕ). cond new (ltb n WINDOW) true) (new_along k) (as_many k)
    passes_along AsFirstGiven =
        ap₂ (λ (new given : Bool). cond new true given) (new_along k)
        (ap (λ (o : Option (HeldPacket L)). is_held_packet o (body_of m)) (slice_get-map forget_packet k.held k.ahead)
        ∙ held_along (slice_get k.held k.ahead) (body_of m))

    pub sending_refusal_along : wire_sending_refusal (forget_station w) m ≡ wire_sending_refusal w m
    sending_refusal_along = failed_same (wire_passes (forget_station w) m) (wire_passes w m) passes_along (checks k.state m)

    new_held : (new : Bool) (body : List ℕ) → with_new new (map forget_packet k.held) body ≡ map forget_packet (with_new new k.held body)
    new_held true body = sym (map-append forget_packet k.held (record { body = body; label = None } ∷ []))
    new_held false body = refl

    sends_along : (change : Change) → wire_sends (forget_station w) m change ≡ forget_station (wire_sends w m change)
    sends_along Nothing = refl
    sends_along UseCause = refl
    sends_along SendPacket =
        ap (λ (held : List (HeldPacket L)). record (forget_station w) {
          variables = record (forget_variables k) { ahead = k.ahead + 1; held = held };
        })
        (ap (λ (new : Bool). with_new new (map forget_packet k.held) (body_of m)) (new_along k) ∙ new_held (wire_is_new k) (body_of m))

    pub sending_along : wire_after_sending (forget_station w) m ≡ forget_station (wire_after_sending w m)
    sending_along = sends_along (change_of m)

    gives_along : (change : Change) → gives_by change (forget_variables k) ≡ gives_by change k
    gives_along Nothing = refl
    gives_along UseCause = refl
    gives_along SendPacket = new_along k

    pub first_along : gives_new (forget_station w) m ≡ gives_new w m
    first_along = gives_along (change_of m)

  -- the newest packet gets its label
  labelled_along : (held : List (HeldPacket L)) (o : Option (HeldPacket L)) (label : L) →
      labelled (map forget_packet held) (option_map forget_packet o) (forget_label label) ≡ map forget_packet (labelled held o label)
  labelled_along held None label = refl
  labelled_along held (Some newest) label =
      ap (λ (n : ℕ). slice_set (map forget_packet held) (n - 1) (record (forget_packet newest) { label = Some (forget_label label) }))
      (length-map held forget_packet)
      ∙ sym (map-set forget_packet held (length held - 1) (record newest { label = Some label }))

  with_label_along : (held : List (HeldPacket L)) (label : L) →
      with_label (map forget_packet held) (forget_label label) ≡ map forget_packet (with_label held label)
  with_label_along held label =
      ap (λ (n : ℕ). labelled (map forget_packet held) (slice_get (map forget_packet held) (n - 1)) (forget_label label))
      (length-map held forget_packet)
      ∙ ap (λ (o : Option (HeldPacket L)). labelled (map forget_packet held) o (forget_label label))
      (slice_get-map forget_packet held (length held - 1))
      ∙ labelled_along held (slice_get held (length held - 1)) label

  pub label_along : (w : WireStation L) (label : L) →
      wire_after_label (forget_station w) (forget_label label) ≡ forget_station (wire_after_label w label)
  label_along w label =
      ap (λ (held : List (HeldPacket L)). record (forget_station w) { variables = record (forget_variables w.variables) { held = held } })
      (with_label_along w.variables.held label)

  -- ---- an arrival

  acknowledged_along : (b : Bool) (k : StationVariables L) (resp : ℕ) →
      wire_acknowledged_by b (forget_variables k) resp ≡ forget_variables (wire_acknowledged_by b k resp)
  acknowledged_along true k resp =
      ap (λ (held : List (HeldPacket L)). record (forget_variables k) { acknowledged = resp; ahead = k.ahead - acknowledges k resp; held = held })
      (drop-map forget_packet (acknowledges k resp) k.held)
  acknowledged_along false k resp = refl

  responded_along : (k : StationVariables L) (resp : ℕ) → wire_responded (forget_variables k) resp ≡ forget_variables (wire_responded k resp)
  responded_along k resp =
      ap (λ (n : ℕ). wire_acknowledged_by (ltb 0 (acknowledges k resp) && leb (acknowledges k resp) n) (forget_variables k) resp) (as_many k)
      ∙ acknowledged_along (ltb 0 (acknowledges k resp) && leb (acknowledges k resp) (length k.held)) k resp

  next_along : (b : Bool) (k : StationVariables L) → with_next b (forget_variables k) ≡ forget_variables (with_next b k)
  next_along true k = refl
  next_along false k = refl

  module _ (m : MessageValue) (tag : Tag) (kept : Bool) where
    does_along : (w : WireStation L) (effect : Effect) →
        wire_does m unknown_period kept (forget_station w) effect ≡ forget_station (wire_does m tag kept w effect)
    does_along w (GoTo state) = refl
    does_along w TakePartner = refl
    does_along w Respond =
        ap (λ (k : StationVariables L). record (forget_station w) { variables = k }) (responded_along w.variables (resp_of m))
    does_along w SetBack = refl
    does_along w TakePacket =
        ap (λ (k : StationVariables L). record (forget_station (wire_does m tag kept w TakePacket)) { variables = k })
        (next_along (wire_is_next w.variables (num_of m) && kept) w.variables)
    does_along w AnswerRep = refl

    all_along : (effects : List Effect) (w : WireStation L) →
        fold (wire_does m unknown_period kept) (forget_station w) effects ≡ forget_station (fold (wire_does m tag kept) w effects)
    all_along [] w = refl
    all_along (effect ∷ effects) w =
        ap (λ (v : WireStation L). fold (wire_does m unknown_period kept) v effects) (does_along w effect)
        ∙ all_along effects (wire_does m tag kept w effect)

    pub arrival_along : (w : WireStation L) →
        wire_after_arrival (forget_station w) (Sound m unknown_period) kept ≡ forget_station (wire_after_arrival w (Sound m tag) kept)
    arrival_along w = all_along (row w.variables.state m).effects w

  damaged_along : (b : Bool) (w : WireStation L) (reason : NakReason) →
      cond b (wire_book.counts reason (forget_station w)) (forget_station w) ≡ forget_station (cond b (wire_book.counts reason w) w)
  damaged_along true w reason = refl
  damaged_along false w reason = refl

  pub header_along : (w : WireStation L) (kept : Bool) →
      wire_after_arrival (forget_station w) HeaderBad kept ≡ forget_station (wire_after_arrival w HeaderBad kept)
  header_along w kept = damaged_along (counts_damage w.variables.state) w HeaderCheck

  pub data_bad_along : (w : WireStation L) (kept : Bool) →
      wire_after_arrival (forget_station w) DataBad kept ≡ forget_station (wire_after_arrival w DataBad kept)
  data_bad_along w kept = damaged_along (counts_damage w.variables.state) w DataCheck
