-- What a tap wrote before the first piece.
use Rattle.std.proofs.Common.{◌≡◌, ℕ, Bool, true, false, inl, List, [], Option, Ok, Err, refl, sym, ap, subst}
use Rattle.std.proofs.Common.{append-nil, arith}
use Rattle.std.proofs.KnownBytes.{Keeps-refl}
use Rattle.wire_base.specs.Tally.{AppendsBeginning}
use Rattle.wire_base.specs.declared.side.Side.{Side}
use Rattle.wire_base.specs.declared.side.Side.TheVariants.{A, B}
use Rattle.capture.specs.declared.fault.CaptureFault.{CaptureFault}
use Rattle.capture.specs.declared.fault.CaptureFault.TheVariants as of_text
use Rattle.capture.specs.Lines.{to_come}
use Rattle.capture.specs.declared.format.Format.{Format}
use Rattle.capture.specs.declared.format.Format.TheVariants.{One, Three}
use Rattle.capture.specs.Paged.{HandsOver}
use Rattle.placing.specs.declared.turn.Turn.{Turn}
use Rattle.capture.specs.Reader.{FaultShows}
use Rattle.framer.specs.Framing.{Framing}
use Rattle.framer.specs.SoFar.{IsFramedSoFar, nothing}
use Rattle.framer.proofs.Framings.{framing-nil}
use Rattle.framer.proofs.SoFarLaws.{start}
use Rattle.placing.specs.Placed.{HavePassed, Waiting}
use Rattle.placing.specs.Placed as placed
use Rattle.placing.proofs.Names.{none_passed}
use Rattle.capture.specs.ListReader.{ListState, Opens}
use Rattle.capture.specs.Listed.{IsListSoFar, no_items}
use Rattle.wire_text.specs.WireText.{Wire, WireHeadDeparts, wire_form}
use Rattle.capture.proofs.ListedSoFar as read
use Rattle.capture.proofs.WideLaws.{wide_lines}
use Rattle.std.specs.Prelude.{if◌then◌else◌}
use Rattle.std.specs.List.{list_all}
use Rattle.wire_tap.specs.Tapping.{HasCut, HaveFirst, Held, IsReached, Reached, Taps, TakesNothing, format_of, held, turn_is_in_one}
use Rattle.capture.specs.Passing.{AppendsSome}
use Rattle.capture.specs.inner.Outlets.{FailsAt, Outlet, outlet}
use Rattle.wire_tap.specs.Units.{messages, units_of}
use Rattle.wire_tap.specs.declared.fault.TapFault.TheVariants as faults
use Rattle.wire_tap.specs.inner.Moving.{AreInTime, IsLineUnderWay, IsUnderWay, SpellsNumbers}
use Rattle.wire_tap.specs.inner.Moving.{fault_of, head_a, head_b}
use Rattle.wire_tap.specs.inner.Moving.{line_state}
use Rattle.wire_tap.specs.declared.side_tap.SideTap.{SideTap}
use Rattle.wire_tap.specs.inner.Side.{IsNew, side_state, units_in}
use Rattle.wire_tap.proofs.TimeLaws.{none_in_time}

-- lines are spelled in the format of these captures as in format 1
pub spelled : (turns : List Turn) → SpellsNumbers (format_of turns)
spelled turns = either (list_all turn_is_in_one turns)
  where
    either : (all : Bool) → SpellsNumbers (if all then One else Three)
    either true = λ rs. refl
    either false = wide_lines

-- ---- before the first piece

takes_nothing : (old : Held) → TakesNothing old old
takes_nothing old = record { a = Keeps-refl old.a; b = Keeps-refl old.b }

-- no head was read
pub no_head : (last : Option (Side × ℕ)) (format : Format) (text : Option (List ℕ)) (old : Held) (fault : CaptureFault) →
    FaultShows WireHeadDeparts 1 text fault →
    Taps last format text old old (Err (fault_of fault))
no_head last format text old (of_text.Departs kind line) shows = inl (record { departs = shows.1; line_is = shows.0 }, takes_nothing old)
no_head last format text old of_text.Read shows = inl (takes_nothing old)
no_head last format text old of_text.OutOfMemory shows = inl (takes_nothing old)
no_head last format text old of_text.Failed shows = absurd shows

-- memory is refused
pub none_taken : (last : Option (Side × ℕ)) (format : Format) (text : Option (List ℕ)) (old : Held) →
    Taps last format text old old (Err faults.OutOfMemory)
none_taken last format text old = inl (takes_nothing old)

module _ (format : Format) (text left : Option (List ℕ)) (old : Held) (state : ListState)
    (opens : Opens wire_form.first_words text left (Ok state)) where
  abbrev pub wire_begun : Wire
  wire_begun = no_items state.node_a state.node_b

  abbrev pub come_begun : Option (List ℕ)
  come_begun = to_come state.unread left

  read_begun : IsListSoFar wire_form text wire_begun come_begun
  read_begun = read.opened wire_form text come_begun state.node_a state.node_b opens.0 opens.1 opens.4

  abbrev nothing_sent : Reached
  nothing_sent = record { wire = wire_begun; come = come_begun; a = []; b = [] }

  nothing_named : IsReached text nothing_sent
  nothing_named = (read_begun, record { a = tt; b = tt }, record { a = tt; b = tt; rise_a = omega arith; rise_b = omega arith })

  -- the writer of a side fails at its head
  pub head_fails : (last : Option (Side × ℕ)) (side : Side) (n m : ℕ) (of_a of_b : List ℕ) (new : Outlet × Outlet) → of_a ≡ head_a format wire_begun →
      of_b ≡ head_b format wire_begun → FailsAt side (outlet of_a old.a n, outlet of_b old.b m) new
      → Taps last format text old (held new.0.held new.1.held) (Err (faults.Write side))
  head_fails last side n m of_a of_b new is_a is_b f = (nothing_sent, nothing_named, first, by_side side fails_at)
    where
      fails_at : FailsAt side (outlet (head_a format wire_begun) old.a n, outlet (head_b format wire_begun) old.b m) new
      fails_at = subst (λ (x : List ℕ). FailsAt side (outlet (head_a format wire_begun) old.a n, outlet x old.b m) new) is_b
          (subst (λ (x : List ℕ). FailsAt side (outlet x old.a n, outlet of_b old.b m) new) is_a f)

      first : HaveFirst nothing_sent
      first = record { others_a = units_of A wire_begun; others_b = units_of B wire_begun; a = refl; b = refl }

      by_side : (side : Side) → FailsAt side (outlet (head_a format wire_begun) old.a n, outlet (head_b format wire_begun) old.b m) new →
          HasCut side format old (held new.0.held new.1.held) nothing_sent
      by_side A f = (
        subst (AppendsBeginning old.a new.0.held) (sym (append-nil (head_a format wire_begun))) f.0.some,
        subst (AppendsSome old.b new.1.held) (sym (append-nil (head_b format wire_begun))) f.1.some,
      )
      by_side B f = (
        subst (AppendsSome old.a new.0.held) (sym (append-nil (head_a format wire_begun))) f.0.some,
        subst (AppendsBeginning old.b new.1.held) (sym (append-nil (head_b format wire_begun))) f.1.some,
      )

  side_begun : (of : Side) (head : List ℕ) (was now : Option (List ℕ)) (tap : SideTap) → IsNew tap → HandsOver head [] was now →
      IsUnderWay of [] [] head (units_in []) was now (side_state tap)
  side_begun of head was now tap new over = record {
    records = [];
    found = nothing;
    framed = subst (IsFramedSoFar [] nothing) (sym new.held) start;
    left = rw new.held framing-nil;
    sent = ap (λ (w : Waiting). w.units.own) new.waiting;
    count = new.count;
    over = subst (λ (t : List ℕ). HandsOver t tap.units.placing.text was now) (sym (append-nil head))
        (subst (λ (w : Waiting). HandsOver head w.text was now) (sym new.waiting) over);
    named = tt;
    passed = subst (λ (w : Waiting). HavePassed (units_in []) w.units) (sym new.waiting)
        (subst (λ (units : List (List ℕ)). HavePassed units placed.nothing.units) (sym (ap (λ (f : Framing). messages f.units) framing-nil))
        none_passed);
    time = subst (λ (w : Waiting). AreInTime of [] [] w.units) (sym new.waiting) (none_in_time of []);
  }

  -- both heads are written
  pub line_begun : SpellsNumbers format → (now : Held) (a b : SideTap) (of_a of_b : List ℕ) → IsNew a → IsNew b → of_a ≡ head_a format wire_begun →
      of_b ≡ head_b format wire_begun →
      HandsOver of_a [] old.a now.a → HandsOver of_b [] old.b now.b → IsLineUnderWay format text old (line_state state.items come_begun a b now)
  line_begun spells now a b of_a of_b new_a new_b is_a is_b over_a over_b = record {
    spells = spells;
    wire = wire_begun;
    read = read_begun;
    count = sym opens.2;
    a = side_begun A (head_a format wire_begun) old.a now.a a new_a (subst (λ (x : List ℕ). HandsOver x [] old.a now.a) is_a over_a);
    b = side_begun B (head_b format wire_begun) old.b now.b b new_b (subst (λ (x : List ℕ). HandsOver x [] old.b now.b) is_b over_b);
  }
