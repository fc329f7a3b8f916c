-- What a node has sent by records that have lines can stand in a line: each unit on the line has no more bytes than one may hold.
use Rattle.dna_play.proofs.Prelude.{◌≡◌, ℕ, Some, List, slice_get, AllByRecursion, World, Run, Done, OfA, OfB, Record, Sent, IsRecord, judged}
use Rattle.dna_play.proofs.Prelude.{LayersNode, LayersUnit, layers_pair, OnTop, Again, First, follows, all_pushed}
use Rattle.dna_play.proofs.Played.Steps.{PlayHalf}

-- each unit that was sent has a line
abbrev pub AreSentLined : PlayHalf → Type 0
AreSentLined half = (k : ℕ) (unit : LayersUnit) → slice_get half.sent k ≡ Some unit → IsRecord (Sent unit.bytes)

lined_left : (own other h : PlayHalf) (r : Record) → OnTop judged own other r h → IsRecord r → AreSentLined own → AreSentLined h
lined_left own other h r (Again bytes m old) line all = all_pushed (λ k unit. IsRecord (Sent unit.bytes)) own.sent _ line all
lined_left own other h r (First bytes m new links carried made) line all = all_pushed (λ k unit. IsRecord (Sent unit.bytes)) own.sent _ line all
lined_left own other h r done line all = all

-- of both sides, in every run of records that have lines
pub sent_lined : {w end : World LayersNode LayersUnit} {of_a of_b : List Record} → Run layers_pair w of_a of_b end → AllByRecursion IsRecord of_a →
    AllByRecursion IsRecord of_b → AreSentLined w.a → AreSentLined w.b → AreSentLined end.a × AreSentLined end.b
sent_lined Done lines_a lines_b a b = (a, b)
sent_lined {w} (OfA {h = h} {r = r} made rest) lines_a lines_b a b =
    sent_lined rest lines_a.1 lines_b (lined_left w.a w.b h r (follows judged w.a w.b h r made).links lines_a.0 a) b
sent_lined {w} (OfB {h = h} {r = r} made rest) lines_a lines_b a b =
    sent_lined rest lines_a lines_b.1 a (lined_left w.b w.a h r (follows judged w.b w.a h r made).links lines_b.0 b)
