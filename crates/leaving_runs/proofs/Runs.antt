-- A run of both nodes: what is left of it is a run.
use Rattle.leaving_runs.proofs.Prelude.{◌≡◌, ℕ, ◌+◌, ◌<◌, not, Some, List, [], ◌∷◌, ◌++◌, map, length, refl, sym, ap, ◌∙◌, arith, subst, option_map}
use Rattle.leaving_runs.proofs.Prelude.{slice_get, AllByRecursion, map-append, slice_get-map, Half, World, Run, Done, advance, Made, IsKept}
use Rattle.leaving_runs.proofs.Prelude.{one_more_of_a, one_more_of_b, lasts, reading, Record, Head, Queues, Numbers, Links, judged_by, LayersNode}
use Rattle.leaving_runs.proofs.Prelude.{LayersUnit, unit_of_station, layers_pair_by, layers_start, side_of, follows, LayersRead, read_kept}
use Rattle.leaving_runs.proofs.Prelude.{start_read, a_bounded, b_bounded, Marks, and_then, LinkRecord, LeftOut, is_out, Judged, all_judged}
use Rattle.leaving_runs.proofs.Prelude.{other_out, other_judged, marked_before, marked_then, SideRight, grows, same_nodes, Leaves, other_leaves}
use Rattle.leaving_runs.proofs.Prelude.{half_left, world_left, record_left, PacketsFit, RecordFits, of_record}
use Rattle.ddcmp_msg.specs.Reading as read_as
use Rattle.leaving_runs.proofs.Bytes.{still_read}
use Rattle.leaving_runs.proofs.Along.{BothRight, Along, made_left}
use Rattle.leaving_runs.proofs.Steps.{AreBytes, bytes_left_on, AreKnown, record_along}

abbrev pub AllFit : LeftOut → List Record → Type 0
AllFit out records = AllByRecursion (RecordFits out) records

fit_parts : (out : LeftOut) (records more : List Record) → AllFit out (records ++ more) → AllFit out records × AllFit out more
fit_parts out [] more fit = (tt, fit)
fit_parts out (r ∷ records) more fit = let parts = fit_parts out records more fit.1 in ((fit.0, parts.0), parts.1)

-- the addresses of a head
pub record IsAt (s : Links) (head : Head) : Type 0 where
  pub node : s.node ≡ head.own
  pub peer : s.peer ≡ head.peer

-- ---- one record of one side

module _ (queues : Queues) (leaves : Leaves) (own other : Half LayersNode LayersUnit) (head : Head) (at : IsAt own.state.station.links head)
    (fits : PacketsFit leaves.out head.own head.peer leaves.packets.own) (front : ℕ) (known : AreKnown queues leaves.packets.far own other front)
    (r : Record) (h : Half LayersNode LayersUnit) (fit : RecordFits leaves.out r)
    (made : advance (layers_pair_by queues).node_a own other r ≡ Made h) where
  abbrev one : LinkRecord Numbers
  one = of_record own other r

  abbrev size : ℕ
  size = length own.state.station.links.links

  abbrev size_then : ℕ
  size_then = length h.state.station.links.links

  -- the marks after it
  abbrev pub marks_then : Marks → Marks
  marks_then marks n = and_then marks size (not (is_out leaves.out one)) n

  module _ (judged : Judged) (mine : SideRight leaves.out judged (side_of own 0) (side_of other 0))
      (theirs : SideRight (other_out leaves.out) (other_judged judged) (side_of other 0) (side_of own 0)) where
    pub at_nodes : PacketsFit leaves.out own.state.station.links.node own.state.station.links.peer leaves.packets.own
    at_nodes =
        subst (λ (node : ℕ). PacketsFit leaves.out node own.state.station.links.peer leaves.packets.own) (sym at.node)
        (subst (λ (peer : ℕ). PacketsFit leaves.out head.own peer leaves.packets.own) (sym at.peer) fits)

    along : Along queues leaves judged own other mine theirs r one h
    along = record_along queues leaves judged own other mine theirs at_nodes front known r h fit made

    pub more : size < size_then + 1
    more = let g = grows queues leaves.out judged (side_of own 0) (side_of other 0) mine theirs one along.right h.state.station.links
        along.made_is in
        omega (arith, g)

    pub at_then : IsAt h.state.station.links head
    at_then =
        let same = same_nodes queues leaves.out judged (side_of own 0) (side_of other 0) mine theirs one along.right h.state.station.links
        along.made_is in
        record { node = same.node ∙ at.node; peer = same.peer ∙ at.peer }

    module _ (marks : Marks) (agrees : (n : ℕ) → n < size_then → judged.here n ≡ marks_then marks n) where
      marked : (n : ℕ) → size < n + 1 → n < size_then → judged.here n ≡ not (is_out leaves.out one)
      marked n after less = agrees n less ∙ marked_then marks size (not (is_out leaves.out one)) n (omega (arith, after))

      pub sides_then : BothRight queues leaves judged own other mine theirs h
      sides_then = along.sides (λ n after less. marked n (omega (arith, after)) less)

      pub made_then : made_left queues leaves judged own other mine theirs r h
      made_then = along.left (λ n after less. marked n (omega (arith, after)) less)

-- ---- a run

module _ (queues : Queues) (leaves : Leaves) (head_a head_b : Head) (fits_a : PacketsFit leaves.out head_a.own head_a.peer leaves.packets.own)
    (fits_b : PacketsFit (other_out leaves.out) head_b.own head_b.peer leaves.packets.far) where
  -- these marks, as far as links began
  pub record Agrees (marks judged : Judged) (w : World LayersNode LayersUnit) : Type 0 where
    pub here : (n : ℕ) → n < length w.a.state.station.links.links → judged.here n ≡ marks.here n
    pub there : (n : ℕ) → n < length w.b.state.station.links.links → judged.there n ≡ marks.there n

  abbrev records_a : List Record → List Record
  records_a records = map (record_left leaves) records

  abbrev records_b : List Record → List Record
  records_b records = map (record_left (other_leaves leaves)) records

  abbrev LeftTo : Judged → World LayersNode LayersUnit → List Record → List Record → Type 0
  LeftTo judged w of_a of_b =
      Run (layers_pair_by queues) (layers_start head_a head_b) (records_a of_a) (records_b of_b) (world_left leaves judged w)

  pub record RunLeft (judged : Judged) (w : World LayersNode LayersUnit) (of_a of_b : List Record) : Type 0 where
    pub run : LeftTo judged w of_a of_b
    pub of_a_side : SideRight leaves.out judged (side_of w.a 0) (side_of w.b 0)
    pub of_b_side : SideRight (other_out leaves.out) (other_judged judged) (side_of w.b 0) (side_of w.a 0)

  pub record Goes (w : World LayersNode LayersUnit) (of_a of_b : List Record) : Type 0 where
    pub marks : Judged
    pub a_bytes : AreBytes w.a
    pub b_bytes : AreBytes w.b
    pub a_at : IsAt w.a.state.station.links head_a
    pub b_at : IsAt w.b.state.station.links head_b
    pub left : (judged : Judged) → Agrees marks judged w → RunLeft judged w of_a of_b

  abbrev pub Holds : World LayersNode LayersUnit → List Record → List Record → Type 0
  Holds w of_a of_b = LayersRead queues head_a head_b w of_a of_b × (AllFit leaves.out of_a → AllFit (other_out leaves.out) of_b → Goes w of_a of_b)

  module _ (w : World LayersNode LayersUnit) (of_a of_b : List Record) (c : LayersRead queues head_a head_b w of_a of_b) (g : Goes w of_a of_b) where
    pub known_a : AreKnown queues leaves.packets.far w.a w.b c.joined.joined.front_a
    known_a = record {
      reads = reads;
      still = λ hint unit there. still_read leaves.packets.far unit.bytes unit.message (reads hint unit there)
          (fits_b.in_range unit.bytes unit.message (g.b_bytes hint unit there) (reads hint unit there));
      kept = (a_bounded queues head_a head_b w of_a of_b c).kept;
    }
      where
        reads : (hint : ℕ) (unit : LayersUnit) → slice_get w.b.sent hint ≡ Some unit → reading unit.bytes ≡ read_as.Sound unit.message
        reads hint unit there = (c.joined.placed.order.of_b.sound.told hint (unit_of_station unit)
            (slice_get-map unit_of_station w.b.sent hint ∙ ap (option_map unit_of_station) there)).reads

    pub known_b : AreKnown queues leaves.packets.own w.b w.a c.joined.joined.front_b
    known_b = record {
      reads = reads;
      still = λ hint unit there. still_read leaves.packets.own unit.bytes unit.message (reads hint unit there)
          (fits_a.in_range unit.bytes unit.message (g.a_bytes hint unit there) (reads hint unit there));
      kept = (b_bounded queues head_a head_b w of_a of_b c).kept;
    }
      where
        reads : (hint : ℕ) (unit : LayersUnit) → slice_get w.a.sent hint ≡ Some unit → reading unit.bytes ≡ read_as.Sound unit.message
        reads hint unit there = (c.joined.placed.order.of_a.sound.told hint (unit_of_station unit)
            (slice_get-map unit_of_station w.a.sent hint ∙ ap (option_map unit_of_station) there)).reads

    abbrev now : RunLeft g.marks w of_a of_b
    now = g.left g.marks (record { here = λ n less. refl; there = λ n less. refl })

    module _ (r : Record) (h : Half LayersNode LayersUnit) where
      goes_a : RecordFits leaves.out r → advance (layers_pair_by queues).node_a w.a w.b r ≡ Made h →
          Goes (record { a = h; b = w.b }) (of_a ++ r ∷ []) of_b
      goes_a fit made = record {
        marks = record {
          here = marks_then queues leaves w.a w.b head_a g.a_at fits_a c.joined.joined.front_a known_a r h fit made g.marks.here;
          there = g.marks.there;
        };
        a_bytes = bytes_left_on queues w.a w.b g.a_bytes r h fit.0 (follows (judged_by queues) w.a w.b h r made).links;
        b_bytes = g.b_bytes;
        a_at = at_then queues leaves w.a w.b head_a g.a_at fits_a c.joined.joined.front_a known_a r h fit made g.marks now.of_a_side now.of_b_side;
        b_at = g.b_at;
        left = λ judged agrees. left judged agrees
            (more queues leaves w.a w.b head_a g.a_at fits_a c.joined.joined.front_a known_a r h fit made g.marks now.of_a_side now.of_b_side);
      }
        where
          then : Marks
          then = marks_then queues leaves w.a w.b head_a g.a_at fits_a c.joined.joined.front_a known_a r h fit made g.marks.here

          left : (judged : Judged) → Agrees (record { here = then; there = g.marks.there }) judged (record { a = h; b = w.b }) →
              length w.a.state.station.links.links < length h.state.station.links.links + 1 →
              RunLeft judged (record { a = h; b = w.b }) (of_a ++ r ∷ []) of_b
          left judged agrees grown =
              let before = g.left judged (record {
                here = λ n less. agrees.here n (omega (arith, less, grown))
                    ∙ marked_before g.marks.here (length w.a.state.station.links.links) (not (is_out leaves.out (of_record w.a w.b r))) n less;
                there = agrees.there;
              }) in
              let sides = sides_then queues leaves w.a w.b head_a g.a_at fits_a c.joined.joined.front_a known_a r h fit made judged before.of_a_side
              before.of_b_side g.marks.here agrees.here in
              record {
                run = subst (λ (xs : List Record).
                    Run (layers_pair_by queues) (layers_start head_a head_b) xs (records_b of_b)
                    (world_left leaves judged (record { a = h; b = w.b })))
                    (sym (map-append (record_left leaves) of_a (r ∷ [])))
                    (one_more_of_a (layers_pair_by queues) (record_left leaves r) (half_left leaves judged h) before.run
                    (made_then queues leaves w.a w.b head_a g.a_at fits_a c.joined.joined.front_a known_a r h fit made judged before.of_a_side
                    before.of_b_side g.marks.here agrees.here));
                of_a_side = sides.here;
                of_b_side = sides.there;
              }

      goes_b : RecordFits (other_out leaves.out) r → advance (layers_pair_by queues).node_b w.b w.a r ≡ Made h →
          Goes (record { a = w.a; b = h }) of_a (of_b ++ r ∷ [])
      goes_b fit made = record {
        marks = record {
          here = g.marks.here;
          there = marks_then queues (other_leaves leaves) w.b w.a head_b g.b_at fits_b c.joined.joined.front_b known_b r h fit made g.marks.there;
        };
        a_bytes = g.a_bytes;
        b_bytes = bytes_left_on queues w.b w.a g.b_bytes r h fit.0 (follows (judged_by queues) w.b w.a h r made).links;
        a_at = g.a_at;
        b_at = at_then queues (other_leaves leaves) w.b w.a head_b g.b_at fits_b c.joined.joined.front_b known_b r h fit made (other_judged g.marks)
            now.of_b_side now.of_a_side;
        left = λ judged agrees. left judged agrees
            (more queues (other_leaves leaves) w.b w.a head_b g.b_at fits_b c.joined.joined.front_b known_b r h fit made (other_judged g.marks)
            now.of_b_side now.of_a_side);
      }
        where
          then : Marks
          then = marks_then queues (other_leaves leaves) w.b w.a head_b g.b_at fits_b c.joined.joined.front_b known_b r h fit made g.marks.there

          left : (judged : Judged) → Agrees (record { here = g.marks.here; there = then }) judged (record { a = w.a; b = h }) →
              length w.b.state.station.links.links < length h.state.station.links.links + 1 →
              RunLeft judged (record { a = w.a; b = h }) of_a (of_b ++ r ∷ [])
          left judged agrees grown =
              let before = g.left judged (record {
                here = agrees.here;
                there = λ n less. agrees.there n (omega (arith, less, grown))
                    ∙ marked_before g.marks.there (length w.b.state.station.links.links)
                    (not (is_out (other_out leaves.out) (of_record w.b w.a r))) n less;
              }) in
              let sides = sides_then queues (other_leaves leaves) w.b w.a head_b g.b_at fits_b c.joined.joined.front_b known_b r h fit made
              (other_judged judged) before.of_b_side before.of_a_side g.marks.there agrees.there in
              record {
                run = subst (λ (ys : List Record).
                    Run (layers_pair_by queues) (layers_start head_a head_b) (records_a of_a) ys
                    (world_left leaves judged (record { a = w.a; b = h })))
                    (sym (map-append (record_left (other_leaves leaves)) of_b (r ∷ [])))
                    (one_more_of_b (layers_pair_by queues) (record_left (other_leaves leaves) r)
                    (half_left (other_leaves leaves) (other_judged judged) h)
                    before.run
                    (made_then queues (other_leaves leaves) w.b w.a head_b g.b_at fits_b c.joined.joined.front_b known_b r h fit made
                    (other_judged judged)
                    before.of_b_side before.of_a_side g.marks.there agrees.there));
                of_a_side = sides.there;
                of_b_side = sides.here;
              }

  kept : IsKept (layers_pair_by queues) Holds
  kept = record {
    by_a = λ w of_a of_b r h c made. (
      (read_kept queues head_a head_b).by_a w of_a of_b r h c.0 made,
      λ fit_a fit_b. let parts = fit_parts leaves.out of_a (r ∷ []) fit_a in
          goes_a w of_a of_b c.0 (c.1 parts.0 fit_b) r h parts.1.0 made,
    );
    by_b = λ w of_a of_b r h c made. (
      (read_kept queues head_a head_b).by_b w of_a of_b r h c.0 made,
      λ fit_a fit_b. let parts = fit_parts (other_out leaves.out) of_b (r ∷ []) fit_b in
          goes_b w of_a of_b c.0 (c.1 fit_a parts.0) r h parts.1.0 made,
    );
  }

  begins : Holds (layers_start head_a head_b) [] []
  begins = (
    start_read queues head_a head_b,
    λ fit_a fit_b. record {
      marks = all_judged;
      a_bytes = λ i unit there. absurd cc;
      b_bytes = λ i unit there. absurd cc;
      a_at = record { node = refl; peer = refl };
      b_at = record { node = refl; peer = refl };
      left = λ judged agrees. record {
        run = Done;
        of_a_side = record { fit = λ n l there. absurd cc; known = λ n l there. absurd cc; sent = λ place unit there. absurd cc };
        of_b_side = record { fit = λ n l there. absurd cc; known = λ n l there. absurd cc; sent = λ place unit there. absurd cc };
      };
    },
  )

  pub run_goes : (w : World LayersNode LayersUnit) (of_a of_b : List Record) → Run (layers_pair_by queues) (layers_start head_a head_b) of_a of_b w →
      AllFit leaves.out of_a → AllFit (other_out leaves.out) of_b → Goes w of_a of_b
  run_goes w of_a of_b run fit_a fit_b = (lasts (layers_pair_by queues) Holds kept [] [] begins run).1 fit_a fit_b

  pub run_reads : (w : World LayersNode LayersUnit) (of_a of_b : List Record) → Run (layers_pair_by queues) (layers_start head_a head_b) of_a
      of_b w →
      LayersRead queues head_a head_b w of_a of_b
  run_reads w of_a of_b run = (lasts (layers_pair_by queues) Holds kept [] [] begins run).0
