-- What holds of each side of a run beside the other, with the records that it made. It is said of one side, and kept by what a record does.
use Rattle.std.specs.Prelude.{◌≡◌, List, [], ◌∷◌, ◌++◌}
use Rattle.two_nodes.specs.Nodes.{Half, World, Run, Made, advance, exchanged_world}
use Rattle.two_nodes.specs.Kept.{IsKept}
use Rattle.two_nodes.proofs.Lasting.{lasts}
use Rattle.capture_record.specs.declared.record.Record.{Record}
use Rattle.dna_station.specs.declared.head.Head.{Head}
use Rattle.dna_station.specs.PeriodRule.{of_period}
use Rattle.dna_station.specs.Line.{SentUnit}
use Rattle.dna_station.specs.Node.{Node}
use Rattle.dna_station.specs.Pair.{pair, start}
use Rattle.dna_station.proofs.Steps.Happens.{Happens, happens}

module _ (holds : (own other : Half Node SentUnit) → List Record → Type 0) where
  pub record OfBoth (w : World Node SentUnit) (made_a made_b : List Record) : Type 0 where
    pub of_a : holds w.a w.b made_a
    pub of_b : holds w.b w.a made_b

  -- of the side that makes a record, and of the side beside it
  pub record IsKeptBySides : Type 0 where
    pub own : (own other left : Half Node SentUnit) (made of_other : List Record) (r : Record) → holds own other made → holds other own of_other →
        Happens of_period own other r left → holds left other (made ++ r ∷ [])
    pub other : (own other left : Half Node SentUnit) (made of_other : List Record) (r : Record) → holds own other made → holds other own of_other →
        Happens of_period own other r left → holds other left of_other

  sides_exchanged : (w : World Node SentUnit) (made_a made_b : List Record) → OfBoth w made_a made_b → OfBoth (exchanged_world w) made_b made_a
  sides_exchanged w made_a made_b both = record { of_a = both.of_b; of_b = both.of_a }

  kept_by_a : IsKeptBySides → (w : World Node SentUnit) (made_a made_b : List Record) (r : Record) (h : Half Node SentUnit) →
      OfBoth w made_a made_b → advance pair.node_a w.a w.b r ≡ Made h → OfBoth (record { a = h; b = w.b }) (made_a ++ r ∷ []) made_b
  kept_by_a kept w made_a made_b r h both made =
      let what = happens of_period w.a w.b h r made in
      record {
        of_a = kept.own w.a w.b h made_a made_b r both.of_a both.of_b what;
        of_b = kept.other w.a w.b h made_a made_b r both.of_a both.of_b what;
      }

  pub kept_by_both : IsKeptBySides → IsKept pair OfBoth
  kept_by_both kept = record {
    by_a = kept_by_a kept;
    by_b = λ w made_a made_b r h both made. sides_exchanged (record { a = h; b = w.a }) (made_b ++ r ∷ []) made_a
        (kept_by_a kept (exchanged_world w) made_b made_a r h (sides_exchanged w made_a made_b both) made);
  }

  pub after_run : IsKeptBySides → (head_a head_b : Head) → OfBoth (start head_a head_b) [] [] → (w : World Node SentUnit) (of_a of_b : List Record) →
      Run pair (start head_a head_b) of_a of_b w → OfBoth w of_a of_b
  after_run kept head_a head_b begun w of_a of_b run = lasts pair OfBoth (kept_by_both kept) [] [] begun run
