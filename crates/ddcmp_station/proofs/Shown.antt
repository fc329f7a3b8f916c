-- What is shown of a station is what is true of it.
use Rattle.std.proofs.Common.{◌≡◌, ℕ, ◌+◌, ◌-◌, ◌≤◌, List, length, drop, sym, ap, ◌∙◌, arith, length-drop}
use Rattle.std.proofs.lemmas.List.{length-map}
use Rattle.dna_station.specs.Bounds.{IsOrdered}
use Rattle.dna_station.specs.Cut.{AreLabelled, cut}
use Rattle.dna_station.specs.Station.{Station, given, wire}
use Rattle.dna_station.specs.WireStation.{HeldPacket}
use Rattle.ddcmp_station.specs.View.{true_view, view_of}
use Rattle.ddcmp_station.specs.declared.view.StationView.{StationView}

wire_on : (a n : ℕ) → a ≤ n → wire (wire a + (n - a)) ≡ wire n
wire_on a n l = omega arith

wire_next : (a t : ℕ) → a + 1 ≤ t → wire (wire a + 1 + (t - (a + 1))) ≡ wire t
wire_next a t l = omega arith

abbrev with_numbers : (s : Station) → ℕ → ℕ → ℕ → StationView
with_numbers s given to_send outstanding = record (true_view s) { given = given; to_send = to_send; outstanding = outstanding }

same_numbers : (s : Station) {a b c a' b' c' : ℕ} → a ≡ a' → b ≡ b' → c ≡ c' → with_numbers s a b c ≡ with_numbers s a' b' c'
same_numbers s ea eb ec = cc

module _ {L : Type 0} (all : List (HeldPacket L)) (s : Station) (labelled : AreLabelled all s) (ordered : IsOrdered s) where
  held : length (drop s.acknowledged all) ≡ given s - s.acknowledged
  held =
      length-drop s.acknowledged all
      ∙ ap (λ (n : ℕ). n - s.acknowledged) (sym (length-map all (λ (packet : HeldPacket L). packet.body)) ∙ ap length labelled)

  pub shows_truth : view_of (cut all s) ≡ true_view s
  shows_truth =
      let above = ordered.above in
      let below = ordered.below in
      let within : s.acknowledged ≤ given s = omega arith in
      same_numbers s (ap (λ (n : ℕ). wire (wire s.acknowledged + n)) held ∙ wire_on s.acknowledged (given s) within)
      (wire_next s.acknowledged s.next_to_send (omega arith)) held
