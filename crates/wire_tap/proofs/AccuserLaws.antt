-- What the accusers of packets know and say, if packets are asked.
use Rattle.std.proofs.Common.{◌≡◌, ℕ, Bool, true, false, Option, Some, None, Result, Ok, Err, List, refl, sym, ap, ◌∙◌}
use Rattle.std.specs.Prelude.{OnOk}
use Rattle.dna_station.specs.declared.head.Head.{Head}
use Rattle.accusing.specs.Placing.{Passed as Seen}
use Rattle.accusing_links.specs.declared.wrong.Wrong.{Wrong}
use Rattle.accusing_links.specs.Back.{is_back_unit, told}
use Rattle.accusing_links.specs.Heard.{heard}
use Rattle.accusing_links.specs.Wrong.{wrong_unit}
use Rattle.accusing_segments.specs.History.{history}
use Rattle.accusing_segments.specs.Repeats.{is_changed_unit, repeats}
use Rattle.accusing_segments.specs.Wrong.{is_long_unit, is_wrong_unit}
use Rattle.wire_tap.specs.Accusing.{is_doubted, packet_charge, packet_charge_if}
use Rattle.wire_tap.specs.declared.accusers.PacketAccusers.{PacketAccusers}
use Rattle.wire_tap.specs.declared.accusers.Said.{Said}
use Rattle.wire_tap.specs.declared.exception.Charge.TheVariants.{Packet, Back, TooLong, Changed}
use Rattle.wire_tap.specs.inner.Accused.{IsSaid, PacketsKnow, PacketsKnowIf}

pub on_ok : {X Y : Type 0} (r : Result X Y) (P Q : Type 0) → (P → Q) → OnOk r P → OnOk r Q
on_ok (Ok x) P Q f p = f p
on_ok (Err y) P Q f p = tt

pub on_ok_if : {X Y : Type 0} (r : Result X Y) (P Q R : Type 0) → ((P → Q) → R) → (P → OnOk r Q) → OnOk r R
on_ok_if (Ok x) P Q R f p = f p
on_ok_if (Err y) P Q R f p = tt

module _ (line_alone : Bool) (head : Head) where
  pub know_none : (passed later : List Seen) → PacketsKnowIf line_alone head passed None → PacketsKnowIf line_alone head later None
  know_none = by_line line_alone
    where
      by_line : (alone : Bool) (passed later : List Seen) → PacketsKnowIf alone head passed None → PacketsKnowIf alone head later None
      by_line true passed later is = tt
      by_line false passed later is = absurd is

  pub know_one : {X Y : Type 0} (passed later : List Seen) (old new : PacketAccusers) (r : Result X Y) →
      (PacketsKnow head passed old → OnOk r (PacketsKnow head later new)) → PacketsKnowIf line_alone head passed (Some old) →
      OnOk r (PacketsKnowIf line_alone head later (Some new))
  know_one {X} {Y} = by_line line_alone
    where
      by_line : (alone : Bool) (passed later : List Seen) (old new : PacketAccusers) (r : Result X Y) →
          (PacketsKnow head passed old → OnOk r (PacketsKnow head later new)) → PacketsKnowIf alone head passed (Some old) →
          OnOk r (PacketsKnowIf alone head later (Some new))
      by_line true passed later old new r f is = absurd is
      by_line false passed later old new r f is = f is

  pub says_none : (passed : List Seen) (unit : List ℕ) → PacketsKnowIf line_alone head passed None →
      packet_charge_if line_alone head passed unit ≡ None
  says_none = by_line line_alone
    where
      by_line : (alone : Bool) (passed : List Seen) (unit : List ℕ) → PacketsKnowIf alone head passed None →
          packet_charge_if alone head passed unit ≡ None
      by_line true passed unit is = refl
      by_line false passed unit is = absurd is

  pub says_one : (passed : List Seen) (unit : List ℕ) (said : Said) (packets : PacketAccusers) →
      (PacketsKnow head passed packets → IsSaid said (packet_charge head passed unit) (is_wrong_unit (history passed) unit)) →
      PacketsKnowIf line_alone head passed (Some packets) →
      IsSaid said (packet_charge_if line_alone head passed unit) (is_doubted line_alone passed unit)
  says_one = by_line line_alone
    where
      by_line : (alone : Bool) (passed : List Seen) (unit : List ℕ) (said : Said) (packets : PacketAccusers) →
          (PacketsKnow head passed packets → IsSaid said (packet_charge head passed unit) (is_wrong_unit (history passed) unit)) →
          PacketsKnowIf alone head passed (Some packets) → IsSaid said (packet_charge_if alone head passed unit) (is_doubted alone passed unit)
      by_line true passed unit said packets f is = absurd is
      by_line false passed unit said packets f is = f is

-- ---- which of them says something first

pub asked : (head : Head) (passed : List Seen) (unit : List ℕ) (packets : PacketAccusers) (result : Option Wrong) → PacketsKnow head passed packets →
    result ≡ wrong_unit packets.links.head (heard passed) unit → wrong_unit head (heard passed) unit ≡ result
asked head passed unit packets result is known = sym (known ∙ ap (λ (h : Head). wrong_unit h (heard passed) unit) is.head_is)

module _ (head : Head) (passed : List Seen) (unit : List ℕ) where
  pub is_packet : (wrong : Wrong) → wrong_unit head (heard passed) unit ≡ Some wrong → packet_charge head passed unit ≡ Some Packet
  is_packet wrong w = rw w refl

  module _ (w : wrong_unit head (heard passed) unit ≡ None) where
    pub is_back : is_back_unit (told passed) unit ≡ true → packet_charge head passed unit ≡ Some Back
    is_back b = rw (w, b) refl

    module _ (b : is_back_unit (told passed) unit ≡ false) where
      pub is_long : is_long_unit (history passed) unit ≡ true → packet_charge head passed unit ≡ Some TooLong
      is_long l = rw (w, b, l) refl

      module _ (l : is_long_unit (history passed) unit ≡ false) where
        pub is_changed : is_changed_unit (history passed) (repeats passed) unit ≡ true → packet_charge head passed unit ≡ Some Changed
        is_changed c = rw (w, b, l, c) refl

        pub is_nothing : is_changed_unit (history passed) (repeats passed) unit ≡ false → packet_charge head passed unit ≡ None
        is_nothing c = rw (w, b, l, c) refl
