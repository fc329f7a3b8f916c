-- What one end makes of a unit that comes, what is left of it makes of what is left of that.
use Rattle.leaving_runs.proofs.Prelude.{◌≡◌, ℕ, ◌+◌, Bool, true, false, cond, nat_lt, None, List, refl, sym, ap, ◌∙◌, subst, IfSome, IsBytes}
use Rattle.leaving_runs.proofs.Prelude.{ReadingValue, reading, Fate, HintOrder, Queues, WireLayers, WireLayersNode, StepAlone, Refuses, sound_comes}
use Rattle.leaving_runs.proofs.Prelude.{comes_alone, receives_alone, ThisEnd, layers_end_by, message_in_unit, message_within, packet_of}
use Rattle.leaving_runs.proofs.Prelude.{MessageBinds, bytes_left, bytes_left_by, Leaves, fate_left, met_if}
use Rattle.ddcmp_msg.specs.Reading as read_as
use Rattle.capture_record.specs.declared.fate.Fate.TheVariants as fates
use Rattle.leaving_runs.proofs.Bytes.{still_read}
use Rattle.leaving_runs.proofs.Alone.Units.{IsJudgedComing, ComesFit, Layered, StepLeft, meets_left, header_left, data_left}
use Rattle.leaving_runs.proofs.Alone.Kept.{sound_left}

module _ (queues : Queues) (leaves : Leaves) (node peer : ℕ) where
  module _ (J : Type 0) (n m : WireLayersNode) (l : Layered queues leaves node peer n.station m.station) (far : ComesFit leaves node peer)
      (bytes : List ℕ) (is_bytes : IsBytes bytes) (judged : J → IfSome (message_in_unit bytes) (IsJudgedComing leaves.out)) where
    abbrev s : WireLayers
    s = n.station

    abbrev t : WireLayers
    t = m.station

    abbrev Along : StepAlone WireLayers → StepAlone WireLayers → Type 0
    Along x y = StepLeft queues leaves node peer J x y

    -- ---- whatever comes

    -- no message is found in what is not sound
    none_found : (fate : Fate) (r : ReadingValue) → reading bytes ≡ r → message_within (packet_of r) ≡ None → fate_left leaves.out fate bytes ≡ fate
    none_found fates.NotKept r e none = refl
    none_found fates.Dropped r e none = refl
    none_found fates.Kept r e none =
        ap (λ (x : ReadingValue). met_if leaves.out (message_within (packet_of x))) e ∙ ap (met_if leaves.out) none

    -- damage stays as it is
    damaged : (front : ℕ) (fate : Fate) (r : ReadingValue) → reading bytes ≡ r → bytes_left_by leaves.packets.far bytes r ≡ bytes →
        message_within (packet_of r) ≡ None →
        Along (comes_alone (layers_end_by queues) n front fate r) (comes_alone (layers_end_by queues) m front fate r) →
        Along (comes_alone (layers_end_by queues) n front fate r)
        (comes_alone (layers_end_by queues) m front (fate_left leaves.out fate bytes) (reading (bytes_left leaves.packets.far bytes)))
    damaged front fate r read stays none along =
        subst (λ (x : ReadingValue). Along (comes_alone (layers_end_by queues) n front fate r)
        (comes_alone (layers_end_by queues) m front (fate_left leaves.out fate bytes) x))
        (sym (ap reading (ap (bytes_left_by leaves.packets.far bytes) read ∙ stays) ∙ read))
        (subst (λ (f : Fate). Along (comes_alone (layers_end_by queues) n front fate r) (comes_alone (layers_end_by queues) m front f r))
        (sym (none_found fate r read none)) along)

    pub came_left : (front : ℕ) (fate : Fate) → IfSome (message_in_unit bytes) (MessageBinds leaves.out) → (r : ReadingValue) → reading bytes ≡ r →
        Along (comes_alone (layers_end_by queues) n front fate r)
        (comes_alone (layers_end_by queues) m front (fate_left leaves.out fate bytes) (reading (bytes_left leaves.packets.far bytes)))
    came_left front fate binds (read_as.Sound message) read =
        subst (λ (r : ReadingValue). Along (sound_comes (layers_end_by queues) n front fate message)
        (comes_alone (layers_end_by queues) m front (fate_left leaves.out fate bytes) r))
        (sym (still_read leaves.packets.far bytes message read (far.fits.in_range bytes message is_bytes read)))
        (sound_left queues leaves node peer J n m l far bytes is_bytes judged front message read fate binds)
    came_left front fate binds read_as.HeaderBad read =
        damaged front fate read_as.HeaderBad read refl refl
        (meets_left queues leaves node peer J n m front _ _ (header_left queues leaves node peer J n m l fate))
    came_left front fate binds read_as.DataBad read =
        damaged front fate read_as.DataBad read refl refl
        (meets_left queues leaves node peer J n m front _ _ (data_left queues leaves node peer J n m l fate))
    came_left front fate binds (read_as.Malformed departure) read = λ j of. absurd of

    pub received_left : m.front ≡ n.front → (hint : ℕ) (fate : Fate) → IfSome (message_in_unit bytes) (MessageBinds leaves.out) →
        Along (receives_alone (layers_end_by queues) n hint fate (reading bytes))
        (receives_alone (layers_end_by queues) m hint (fate_left leaves.out fate bytes) (reading (bytes_left leaves.packets.far bytes)))
    received_left same hint fate binds =
        subst (λ (front : ℕ). Along (receives_alone (layers_end_by queues) n hint fate (reading bytes))
        (cond (nat_lt hint front) (Refuses ThisEnd HintOrder)
        (comes_alone (layers_end_by queues) m (hint + 1) (fate_left leaves.out fate bytes) (reading (bytes_left leaves.packets.far bytes)))))
        (sym same) (at (nat_lt hint n.front))
      where
        at : (b : Bool) → Along (cond b (Refuses ThisEnd HintOrder) (comes_alone (layers_end_by queues) n (hint + 1) fate (reading bytes)))
            (cond b (Refuses ThisEnd HintOrder)
            (comes_alone (layers_end_by queues) m (hint + 1) (fate_left leaves.out fate bytes) (reading (bytes_left leaves.packets.far bytes))))
        at true = λ j of. absurd of
        at false = came_left (hint + 1) fate binds (reading bytes) refl
