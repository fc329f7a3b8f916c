-- Cutting a station to what a node keeps commutes with what it may send, check by check, and with what sending changes.
use Rattle.std.proofs.Common.{◌≡◌, ℕ, ◌+◌, ◌-◌, ◌≤◌, Bool, true, false, not, eqb, ltb, cond, Option, Some, None, List, [], ◌∷◌, ◌++◌, map}
use Rattle.std.proofs.Common.{length, drop, refl, sym, ap, ap₂, ◌∙◌, arith, length-drop, option_map}
use Rattle.std.specs.Prelude.{slice_get, option_and_then}
use Rattle.std.proofs.lemmas.List.{length-map, map-append, drop-append-le}
use Rattle.std.proofs.lemmas.Option.{slice_get-map}
use Rattle.ddcmp_msg.specs.Message.{MessageValue}
use Rattle.two_nodes.proofs.NumberedSteps.{slice_get-drop}
use Rattle.dna_station.specs.Table.{WINDOW, Check, refusal_of, checks, RespIsLast, CauseIsOpen, SomeOutstanding, NumIsHighest, NumIsNext, RoomIfNew}
use Rattle.dna_station.specs.Table.{AsFirstGiven, Change, SendPacket, change_of}
use Rattle.dna_station.specs.declared.refusal.StationRefusal.{StationRefusal}
use Rattle.dna_station.specs.Book.{body_of, num_of, first_failed, failed}
use Rattle.dna_station.specs.Station.{Station, given, wire}
use Rattle.dna_station.specs.StationBook.{is_new, is_packet, passes, sends, sending_refusal, after_sending, with_packet, gives_by, gives_number}
use Rattle.dna_station.specs.WireStation.{HeldPacket, with_new}
use Rattle.dna_station.specs.WireBook.{wire_is_new, is_held_packet, wire_passes, wire_sends, wire_sending_refusal, wire_after_sending}
use Rattle.dna_station.specs.WireBook.{gives_by as wire_gives_by, gives_new, label_by, label_again}
use Rattle.dna_station.specs.Bounds.{IsOrdered}
use Rattle.dna_station.specs.Cut.{AreLabelled, cut, all_with, all_after, label_at, label_of_next}
use Rattle.dna_station.proofs.Bounds.Modulo.{wire-add, wire-next, same_test}

-- the first check that fails is the same where each check is answered alike
first_failed_same : (p q : Check → Bool) → ((check : Check) → p check ≡ q check) → (list : List Check) → first_failed p list ≡ first_failed q list
first_failed_same p q same [] = refl
first_failed_same p q same (check ∷ next) =
    ap₂ (λ (b : Bool) (o : Option StationRefusal). cond b o (Some (refusal_of check))) (same check) (first_failed_same p q same next)

pub failed_same : (p q : Check → Bool) → ((check : Check) → p check ≡ q check) → (list : Option (List Check)) → failed p list ≡ failed q list
failed_same p q same None = refl
failed_same p q same (Some list) = first_failed_same p q same list

module _ {L : Type 0} where
  abbrev pub body_at : HeldPacket L → List ℕ
  body_at packet = packet.body

  packet_same : (o : Option (HeldPacket L)) (body : List ℕ) → is_packet (option_map body_at o) body ≡ is_held_packet o body
  packet_same None body = refl
  packet_same (Some packet) body = refl

  pub all_length : (all : List (HeldPacket L)) (s : Station) → AreLabelled all s → length all ≡ given s
  all_length all s labelled = sym (length-map all body_at) ∙ ap length labelled

  module _ (all : List (HeldPacket L)) (s : Station) (labelled : AreLabelled all s) where
    new_labelled : (new : Bool) (body : List ℕ) → map body_at (with_new new all body) ≡ with_packet new s.packets body
    new_labelled true body =
        map-append body_at all (record { body = body; label = None } ∷ []) ∙ ap (λ (ps : List (List ℕ)). ps ++ body ∷ []) labelled
    new_labelled false body = labelled

    -- the packets with their labels are those of the station after the sending
    sending_labelled_by : (m : MessageValue) (change : Change) → AreLabelled (all_with change all s (body_of m)) (sends s m change)
    sending_labelled_by m SendPacket = new_labelled (is_new s) (body_of m)
    sending_labelled_by m change = labelled

    pub sending_labelled : (m : MessageValue) → AreLabelled (all_after all s m) (after_sending s m)
    sending_labelled m = sending_labelled_by m (change_of m)

  -- the packet that is sent next, among those held
  module _ (all : List (HeldPacket L)) (s : Station) (ordered : IsOrdered s) where
    next_packet : slice_get (drop s.acknowledged all) (s.next_to_send - (s.acknowledged + 1)) ≡ slice_get all (s.next_to_send - 1)
    next_packet =
        let l = ordered.above in
        let place : s.acknowledged + (s.next_to_send - (s.acknowledged + 1)) ≡ s.next_to_send - 1 = omega arith in
        slice_get-drop s.acknowledged (s.next_to_send - (s.acknowledged + 1)) all ∙ ap (slice_get all) place

    label_same_by : (change : Change) → label_by change (cut all s).variables ≡ label_at change all (s.next_to_send - 1)
    label_same_by SendPacket = ap (λ (o : Option (HeldPacket L)). option_and_then (λ (packet : HeldPacket L). packet.label) o) next_packet
    label_same_by change = refl

    -- the label beside the packet that is sent again
    pub label_same : (m : MessageValue) → label_again (cut all s) m ≡ label_of_next all s m
    label_same m = label_same_by (change_of m)

  module _ (all : List (HeldPacket L)) (s : Station) (labelled : AreLabelled all s) (ordered : IsOrdered s) where
    -- as many are held as are outstanding
    pub outstanding : length (drop s.acknowledged all) ≡ given s - s.acknowledged
    outstanding = length-drop s.acknowledged all ∙ ap (λ n. n - s.acknowledged) (all_length all s labelled)

    -- the number acknowledged, with those held above it, is the highest given
    highest : wire (given s) ≡ wire (wire s.acknowledged + length (drop s.acknowledged all))
    highest =
        let l : s.acknowledged ≤ given s = omega (arith, ordered.above, ordered.below) in
        sym (wire-add s.acknowledged (given s) l) ∙ ap (λ n. wire (wire s.acknowledged + n)) (sym outstanding)

    none_outstanding : eqb s.acknowledged (given s) ≡ eqb (length (drop s.acknowledged all)) 0
    none_outstanding =
        let h = outstanding in let l = ordered.above in let m = ordered.below in
        same_test s.acknowledged (given s) (length (drop s.acknowledged all)) 0 (λ e. omega arith) (λ e. omega arith)

    new_same : is_new s ≡ wire_is_new (cut all s).variables
    new_same =
        let h = outstanding in let l = ordered.above in let m = ordered.below in
        same_test s.next_to_send (given s + 1) (s.next_to_send - (s.acknowledged + 1)) (length (drop s.acknowledged all)) (λ e. omega arith)
        (λ e. omega arith)

    first_given_same : (body : List ℕ) → is_packet (slice_get s.packets (s.next_to_send - 1)) body ≡ is_held_packet
        (slice_get (drop s.acknowledged all) (s.next_to_send - (s.acknowledged + 1))) body
    first_given_same body =
        ap (λ (ps : List (List ℕ)). is_packet (slice_get ps (s.next_to_send - 1)) body) (sym labelled)
        ∙ ap (λ (o : Option (List ℕ)). is_packet o body) (slice_get-map body_at all (s.next_to_send - 1))
        ∙ packet_same (slice_get all (s.next_to_send - 1)) body
        ∙ ap (λ (o : Option (HeldPacket L)). is_held_packet o body) (sym (next_packet all s ordered))

    -- each check is answered alike
    passes_same : (m : MessageValue) (check : Check) → passes s m check ≡ wire_passes (cut all s) m check
    passes_same m RespIsLast = refl
    passes_same m CauseIsOpen = refl
    passes_same m SomeOutstanding = ap not none_outstanding
    passes_same m NumIsHighest = ap (eqb (num_of m)) highest
    passes_same m NumIsNext = ap (eqb (num_of m)) (sym (wire-next s.acknowledged s.next_to_send ordered.above))
    passes_same m RoomIfNew = ap₂ (λ (new : Bool) (n : ℕ). cond new (ltb n WINDOW) true) new_same (sym outstanding)
    passes_same m AsFirstGiven = ap₂ (λ (new given : Bool). cond new true given) new_same (first_given_same (body_of m))

    -- the same messages are refused, for the same reasons
    pub sending_refusal_same : (m : MessageValue) → sending_refusal s m ≡ wire_sending_refusal (cut all s) m
    sending_refusal_same m = failed_same (passes s m) (wire_passes (cut all s) m) (passes_same m) (checks s.state m)

    new_held : (new : Bool) (body : List ℕ) → drop s.acknowledged (with_new new all body) ≡ with_new new (drop s.acknowledged all) body
    new_held true body =
        let l = ordered.above in let m = ordered.below in let e = all_length all s labelled in
        drop-append-le s.acknowledged all (record { body = body; label = None } ∷ []) (omega arith)
    new_held false body = refl

    sends_same : (m : MessageValue) (change : Change) → cut (all_with change all s (body_of m)) (sends s m change) ≡ wire_sends (cut all s) m change
    sends_same m SendPacket =
        let l = ordered.above in
        let ahead : s.next_to_send + 1 - (s.acknowledged + 1) ≡ s.next_to_send - (s.acknowledged + 1) + 1 = omega arith in
        let held = new_held (is_new s) (body_of m) ∙ ap (λ (b : Bool). with_new b (drop s.acknowledged all) (body_of m)) new_same in
        ap₂ (λ (n : ℕ) (ps : List (HeldPacket L)). record (cut all s) { variables = record (cut all s).variables { ahead = n; held = ps } }) ahead
        held
    sends_same m change = refl

    -- and what is sent changes what is kept in the same way
    pub sending_same : (m : MessageValue) → cut (all_after all s m) (after_sending s m) ≡ wire_after_sending (cut all s) m
    sending_same m = sends_same m (change_of m)

    first_same_by : (change : Change) → wire_gives_by change (cut all s).variables ≡ gives_by change s
    first_same_by SendPacket = sym new_same
    first_same_by change = refl

    -- what is answered of it is what is true of it: whether it gives a new number
    pub first_same : (m : MessageValue) → gives_new (cut all s) m ≡ gives_number s m
    first_same m = first_same_by (change_of m)
