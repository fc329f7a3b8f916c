-- Both sides of what a tap wrote, where no more is read, and behind the last line.
use Rattle.std.proofs.Common.{◌≡◌, ℕ, ◌+◌, ◌<◌, ◌^◌, inr, List, [], ◌++◌, length, Option, Ok, Err, refl, sym, ap, subst}
use Rattle.std.proofs.Common.{◌∙◌, append_assoc, append-nil, arith}
use Rattle.std.specs.Io.KnownBytes.{Appends}
use Rattle.wire_base.specs.Side.{other_side}
use Rattle.wire_base.specs.Tally.{AppendsBeginning}
use Rattle.wire_base.specs.declared.side.Side.{Side}
use Rattle.wire_base.specs.declared.side.Side.TheVariants.{A, B}
use Rattle.capture.specs.declared.fault.CaptureFault.{CaptureFault}
use Rattle.capture.specs.declared.fault.CaptureFault.TheVariants as of_text
use Rattle.capture.specs.declared.format.Format.{Format}
use Rattle.capture.specs.declared.hint.HintForm.TheVariants.{Number}
use Rattle.capture.specs.Passing.{AppendsSome}
use Rattle.capture.specs.Paged.{HandsOver}
use Rattle.capture.specs.Text.{record_lines}
use Rattle.capture.specs.Reader.{FaultShows}
use Rattle.placing.specs.Placed.{Waiting, units_sent}
use Rattle.wire_text.specs.WireText.{PieceDeparts}
use Rattle.wire_tap.specs.Tapping.{EndWith, HasWritten, HaveAll, HaveFirst, Held, IsReached, Reached, Taps, held}
use Rattle.wire_tap.specs.Tapping.{EndsAs, HasCounted, sent_at, text_a, text_b}
use Rattle.wire_tap.specs.Units.{units_of}
use Rattle.wire_tap.specs.declared.fault.TapFault.TheVariants as faults
use Rattle.wire_tap.specs.declared.stop.Stop.{Stop}
use Rattle.wire_tap.specs.declared.stop.Stop.TheVariants as stops
use Rattle.wire_tap.specs.declared.tapped.Ending.{Ending}
use Rattle.wire_tap.specs.declared.tapped.Ending.TheVariants.{Whole, Unplaced, TooWide, Asked}
use Rattle.wire_tap.specs.declared.tapped.Passed.{Passed}
use Rattle.wire_tap.specs.declared.tapped.Tapped.{Tapped}
use Rattle.wire_tap.specs.inner.Moving.{IsLineOver, LineState, others_at, units_at}
use Rattle.capture.specs.inner.Outlets.{FailsAt, Outlet, outlet}
use Rattle.capture.proofs.OverLaws.{all_over, beginning_over, begun_over, on_over, some_over}
use Rattle.wire_tap.specs.inner.Moving.{EndsOver, IsAllOver, PutsAll, StopsAs, fault_of, head_a, head_b}
use Rattle.wire_tap.specs.inner.Side.{EndsAt, IsUnitAt, aim, counted}
use Rattle.wire_tap.proofs.SideLaws.{over_put, same_units}
use Rattle.wire_tap.proofs.TimeLaws.{all_rise}

-- a count of few units is their number
few_counted : {count many fewer : ℕ} → count ≡ counted 0 many → many ≡ fewer → fewer < 2 ^ 64 → count ≡ fewer
few_counted count same few = omega arith

-- ---- both sides, where no more is read

module _ (last : Option (Side × ℕ)) (format : Format) (text : Option (List ℕ)) (old : Held) (line : LineState)
    (h : IsLineOver format text old line) where
  abbrev reached : Reached
  reached = record { wire = h.wire; come = h.come; a = h.a.records; b = h.b.records }

  read : IsReached text reached
  read = (
    h.read,
    record { a = h.a.named; b = h.b.named },
    record {
      a = h.a.time.come;
      b = h.b.time.come;
      rise_a = all_rise (units_of B h.wire) line.a.units.waiting h.a.records h.a.passed h.a.time.rise;
      rise_b = all_rise (units_of A h.wire) line.b.units.waiting h.b.records h.b.passed h.b.time.rise;
    },
  )

  have_first : HaveFirst reached
  have_first = record {
    others_a = line.a.units.waiting.units.own ++ h.a.others;
    others_b = line.b.units.waiting.units.own ++ h.b.others;
    a = sym (append_assoc (units_sent h.a.records) line.a.units.waiting.units.own h.a.others) ∙ h.a.sent;
    b = sym (append_assoc (units_sent h.b.records) line.b.units.waiting.units.own h.b.others) ∙ h.b.sent;
  }

  -- the texts of what was put
  shown_a : head_a format h.wire ++ record_lines Number h.a.records ≡ text_a format reached
  shown_a = ap (λ (lines : List ℕ). head_a format h.wire ++ lines) (sym (h.spells h.a.records))

  shown_b : head_b format h.wire ++ record_lines Number h.b.records ≡ text_b format reached
  shown_b = ap (λ (lines : List ℕ). head_b format h.wire ++ lines) (sym (h.spells h.b.records))

  -- memory is refused
  pub refused : Taps last format text old line.now (Err faults.OutOfMemory)
  refused = inr (
    reached,
    read,
    have_first,
    record {
      a = subst (AppendsSome old.a line.now.a) shown_a (begun_over _ _ _ _ h.a.over);
      b = subst (AppendsSome old.b line.now.b) shown_b (begun_over _ _ _ _ h.b.over);
    },
  )

  -- a write fails
  pub fails : (side : Side) (n m : ℕ) (new : Outlet × Outlet) →
      FailsAt side (outlet line.a.units.waiting.text line.now.a n, outlet line.b.units.waiting.text line.now.b m) new
      → Taps last format text old (held new.0.held new.1.held) (Err (faults.Write side))
  fails A n m new f = (
    reached,
    read,
    have_first,
    (
      subst (AppendsBeginning old.a new.0.held) shown_a (beginning_over _ _ _ _ h.a.over new.0.held f.0.some),
      subst (AppendsSome old.b new.1.held) shown_b (some_over _ _ _ _ h.b.over new.1.held f.1.some),
    ),
  )
  fails B n m new f = (
    reached,
    read,
    have_first,
    (
      subst (AppendsSome old.a new.0.held) shown_a (some_over _ _ _ _ h.a.over new.0.held f.0.some),
      subst (AppendsBeginning old.b new.1.held) shown_b (beginning_over _ _ _ _ h.b.over new.1.held f.1.some),
    ),
  )

  -- ---- all lines were put

  module _ (none_a : line.a.units.waiting.units.own ≡ []) (none_b : line.b.units.waiting.units.own ≡ []) where
    sent_a : units_sent h.a.records ≡ units_sent h.a.records ++ line.a.units.waiting.units.own
    sent_a = sym (append-nil (units_sent h.a.records)) ∙ ap (λ (own : List (List ℕ)). units_sent h.a.records ++ own) (sym none_a)

    sent_b : units_sent h.b.records ≡ units_sent h.b.records ++ line.b.units.waiting.units.own
    sent_b = sym (append-nil (units_sent h.b.records)) ∙ ap (λ (own : List (List ℕ)). units_sent h.b.records ++ own) (sym none_b)

    first : (side : Side) → sent_at side reached ++ others_at side h ≡ units_of side h.wire
    first A = ap (λ (units : List (List ℕ)). units ++ h.a.others) sent_a ∙ h.a.sent
    first B = ap (λ (units : List (List ℕ)). units ++ h.b.others) sent_b ∙ h.b.sent

    all : (side : Side) → others_at side h ≡ [] → sent_at side reached ≡ units_of side h.wire
    all side none =
        sym (append-nil (sent_at side reached)) ∙ ap (λ (others : List (List ℕ)). sent_at side reached ++ others) (sym none) ∙ first side

    have_all : IsAllOver h → HaveAll reached
    have_all over = record { a = all A over.a; b = all B over.b }

    number : (side : Side) → units_at side h ≡ length (sent_at side reached)
    number A = ap length (sym sent_a)
    number B = ap length (sym sent_b)

    end_with : (passed : Passed) → EndsOver h passed → EndWith passed reached
    end_with passed ends = record {
      others = others_at passed.side h;
      own = first passed.side;
      other = all (other_side passed.side) ends.other;
      number = subst (λ (n : ℕ). n < 2 ^ 64 → passed.unit + 1 ≡ n) (number passed.side) ends.number;
    }

    -- the counts are those of the units
    has_counted : (tapped : Tapped) → tapped.units_a.count ≡ line.a.units.count → tapped.units_b.count ≡ line.b.units.count →
        HasCounted tapped reached
    has_counted tapped count_a count_b = record {
      a = λ few. few_counted (count_a ∙ h.a.count) (number A) few;
      b = λ few. few_counted (count_b ∙ h.b.count) (number B) few;
    }

    module _ (later : Held) (over_a : HandsOver line.a.units.waiting.text [] line.now.a later.a)
        (over_b : HandsOver line.b.units.waiting.text [] line.now.b later.b) where
      written : HasWritten format old later reached
      written = record {
        a = subst (Appends old.a later.a) shown_a (all_over _ [] _ _ (on_over _ _ _ _ h.a.over [] later.a over_a) refl);
        b = subst (Appends old.b later.b) shown_b (all_over _ [] _ _ (on_over _ _ _ _ h.b.over [] later.b over_b) refl);
      }

      pub tapped_all : (tapped : Tapped) → StopsAs h last (stops.Ends tapped.ending) → tapped.units_a.count ≡ line.a.units.count →
          tapped.units_b.count ≡ line.b.units.count → Taps last format text old later (Ok tapped)
      tapped_all tapped stop count_a count_b = (reached, read, written, (by_ending tapped.ending stop, has_counted tapped count_a count_b))
        where
          by_ending : (ending : Ending) → StopsAs h last (stops.Ends ending) → EndsAs last ending reached
          by_ending Whole stop = (have_all stop.0, stop.1)
          by_ending (Unplaced passed) stop = end_with passed stop
          by_ending (TooWide passed) stop = end_with passed stop
          by_ending (Asked passed) stop = (end_with passed stop.0, stop.1)

      pub text_fault : (fault : CaptureFault) → StopsAs h last (stops.Text fault) → Taps last format text old later (Err (fault_of fault))
      text_fault fault stop = by_fault fault stop.1 stop.2
        where
          by_fault : (fault : CaptureFault) → FaultShows (PieceDeparts (length h.wire.items)) (length h.wire.items + 2) h.come fault →
              (fault ≡ of_text.OutOfMemory → ⊥) → Taps last format text old later (Err (fault_of fault))
          by_fault (of_text.Departs kind at) shows memory =
              inr (reached, read, written, (have_all stop.0, record { departs = shows.1; line_is = shows.0 }))
          by_fault of_text.Read shows memory = inr (reached, read, written, have_all stop.0)
          by_fault of_text.OutOfMemory shows memory = absurd (memory refl)
          by_fault of_text.Failed shows memory = absurd shows

-- the lines of all units were put
module _ (last : Option (Side × ℕ)) (format : Format) (text : Option (List ℕ)) (old : Held) (line : LineState) (a b : Waiting)
    (h : IsLineOver format text old line)
    (put_a : PutsAll line.a.units.waiting a) (put_b : PutsAll line.b.units.waiting b) where
  abbrev pub put_line : LineState
  put_line = record line {
    a = record line.a { units = record line.a.units { waiting = a } };
    b = record line.b { units = record line.b.units { waiting = b } };
  }

  pub put_over : IsLineOver format text old put_line
  put_over = record {
    spells = h.spells;
    wire = h.wire;
    come = h.come;
    read = h.read;
    a = over_put _ _ _ _ _ _ _ line.a.units a h.a put_a.moves;
    b = over_put _ _ _ _ _ _ _ line.b.units b h.b put_b.moves;
  }

  number_put : (side : Side) → units_at side h ≡ units_at side put_over
  unfolding put_over over_put
  number_put A = ap length (sym (same_units _ _ _ _ _ _ _ line.a.units a h.a put_a.moves))
  number_put B = ap length (sym (same_units _ _ _ _ _ _ _ line.b.units b h.b put_b.moves))

  others_put : (side : Side) → others_at side put_over ≡ others_at side h
  unfolding put_over over_put
  others_put A = refl
  others_put B = refl

  ends_put : (passed : Passed) → EndsOver h passed → EndsOver put_over passed
  ends_put passed ends = record {
    other = others_put (other_side passed.side) ∙ ends.other;
    number = subst (λ (n : ℕ). n < 2 ^ 64 → passed.unit + 1 ≡ n) (number_put passed.side) ends.number;
  }

  all_put : IsAllOver h → IsAllOver put_over
  unfolding put_over over_put
  all_put over = record { a = over.a; b = over.b }

  pub stops_put : (stop : Stop) → StopsAs h last stop → StopsAs put_over last stop
  unfolding put_over
  stops_put (stops.Ends Whole) s = (all_put s.0, s.1)
  stops_put (stops.Ends (Unplaced passed)) s = ends_put passed s
  stops_put (stops.Ends (TooWide passed)) s = ends_put passed s
  stops_put (stops.Ends (Asked passed)) s = (ends_put passed s.0, s.1)
  stops_put (stops.Text fault) s = (all_put s.0, s.1, s.2)

-- the captures end with the last unit of a side, where of the other all passed
pub stop_from : (last : Option (Side × ℕ)) (format : Format) (text : Option (List ℕ)) (old : Held) (line : LineState)
    (over : IsLineOver format text old line) (side : Side)
    (ending : Ending) → others_at (other_side side) over ≡ [] → EndsAt (aim last side) (units_at side over) ending
    → StopsAs over last (stops.Ends ending)
stop_from last format text old line over side ending none ends = by_ending ending ends
  where
    end_over : (passed : Passed) → IsUnitAt side (units_at side over) passed → EndsOver over passed
    end_over passed is = record {
      other = subst (λ (s : Side). others_at (other_side s) over ≡ []) (sym is.0) none;
      number = subst (λ (s : Side). units_at s over < 2 ^ 64 → passed.unit + 1 ≡ units_at s over) (sym is.0) is.1;
    }

    by_ending : (ending : Ending) → EndsAt (aim last side) (units_at side over) ending → StopsAs over last (stops.Ends ending)
    by_ending Whole ends = absurd ends
    by_ending (Unplaced passed) ends = end_over passed ends
    by_ending (TooWide passed) ends = end_over passed ends
    by_ending (Asked passed) ends = (end_over passed ends.0, ends.1)

-- ---- behind the last piece

module _ (last : Option (Side × ℕ)) (format : Format) (text : Option (List ℕ)) (old : Held) (line : LineState) (a b : Waiting)
    (h : IsLineOver format text old line)
    (put_a : PutsAll line.a.units.waiting a) (put_b : PutsAll line.b.units.waiting b) where
  -- a write fails
  pub put_fails : (side : Side) (n m : ℕ) (new : Outlet × Outlet) → FailsAt side (outlet a.text line.now.a n, outlet b.text line.now.b m) new →
      Taps last format text old (held new.0.held new.1.held) (Err (faults.Write side))
  put_fails side n m new f = fails last format text old _ (put_over last format text old line a b h put_a put_b) side n m new f

  module _ (later : Held) (rest_a rest_b : List ℕ) (none_a : rest_a ≡ []) (none_b : rest_b ≡ []) (over_a : HandsOver a.text rest_a line.now.a later.a)
      (over_b : HandsOver b.text rest_b line.now.b later.b) where
    all_a : HandsOver a.text [] line.now.a later.a
    all_a = subst (λ (x : List ℕ). HandsOver a.text x line.now.a later.a) none_a over_a

    all_b : HandsOver b.text [] line.now.b later.b
    all_b = subst (λ (x : List ℕ). HandsOver b.text x line.now.b later.b) none_b over_b

    pub tap_ends : (ending : Ending) (tapped : Tapped) → tapped.ending ≡ ending → StopsAs h last (stops.Ends ending) →
        tapped.units_a.count ≡ line.a.units.count → tapped.units_b.count ≡ line.b.units.count → Taps last format text old later (Ok tapped)
    tap_ends ending tapped same stop count_a count_b =
        tapped_all last format text old _ (put_over last format text old line a b h put_a put_b) put_a.all put_b.all later all_a all_b tapped
        (subst (λ (e : Ending). StopsAs (put_over last format text old line a b h put_a put_b) last (stops.Ends e)) (sym same)
        (stops_put last format text old line a b h put_a put_b (stops.Ends ending) stop)) count_a count_b

    pub tap_departs : (fault : CaptureFault) → StopsAs h last (stops.Text fault) → Taps last format text old later (Err (fault_of fault))
    tap_departs fault stop =
        text_fault last format text old _ (put_over last format text old line a b h put_a put_b) put_a.all put_b.all later all_a all_b fault
        (stops_put last format text old line a b h put_a put_b (stops.Text fault) stop)
