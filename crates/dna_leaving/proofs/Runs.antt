-- A run of both ends: what is left of it is a run; and a judged record that is refused next to it is refused next to what is left.
use Rattle.dna_leaving.proofs.Prelude.{◌≡◌, ℕ, ◌<◌, Bool, true, false, not, cond, Option, List, [], ◌∷◌, ◌++◌, length, refl, sym, ap, ◌∙◌, arith}
use Rattle.dna_leaving.proofs.Prelude.{subst, Err, option_map, append-nil, LinkRefusal, Queues, LinkEventValue, Numbers, LinkSide, LinkWorld}
use Rattle.dna_leaving.proofs.Prelude.{Reached, Start, ByA, ByB, new_world, rank, true_rules, LinkRecord, OfUser, Sends, Keeps, OfNoLink}
use Rattle.dna_leaving.proofs.Prelude.{next_links, LeftOut, event_out, is_out, Judged, links_left, renumbered, judged_then, other_out, other_judged}
use Rattle.dna_leaving.proofs.Prelude.{side_left, world_left, events_left, AreBound, record_of, marks_of_a, marks_of_b, judged_of_run, MayBeNext}
use Rattle.dna_leaving.proofs.Lists.{marked_before, marked_then, refused_alike}
use Rattle.dna_leaving.proofs.Sides.{SideRight, Follows, Stays, Does, rank_as, RecordRight, event_right, packet_right, unit_right}
use Rattle.dna_leaving.proofs.WorldSteps.{step_grows, step_left}

-- ---- events

bound_parts : (out : LeftOut) (events more : List LinkEventValue) → AreBound out (events ++ more) → AreBound out events × AreBound out more
bound_parts out [] more bound = (tt, bound)
bound_parts out (event ∷ events) more bound = let parts = bound_parts out events more bound.1 in ((bound.0, parts.0), parts.1)

events_append : (out : LeftOut) (events more : List LinkEventValue) →
    events_left out (events ++ more) ≡ events_left out events ++ events_left out more
events_append out [] more = refl
events_append out (event ∷ events) more = at (event_out out event) (events_append out events more)
  where
    at : (b : Bool) → events_left out (events ++ more) ≡ events_left out events ++ events_left out more →
        cond b (events_left out (events ++ more)) (event ∷ events_left out (events ++ more))
        ≡ cond b (events_left out events) (event ∷ events_left out events) ++ events_left out more
    at true later = later
    at false later = ap (λ (es : List LinkEventValue). event ∷ es) later

-- ---- steps of what is left

module _ (queues : Queues) (start : LinkWorld) where
  by_a : (own other : LinkSide) (of_a of_b events : List LinkEventValue) (left : LinkSide) →
      Reached queues start (record { a = own; b = other }) of_a of_b → Follows queues own other events left →
      Reached queues start (record { a = left; b = other }) (of_a ++ events) of_b
  by_a own other of_a of_b events left run Stays = subst (λ (es : List LinkEventValue). Reached queues start
      (record { a = own; b = other }) es of_b) (sym (append-nil of_a)) run
  by_a own other of_a of_b events left run (Does step) = ByA run step

  by_b : (own other : LinkSide) (of_a of_b events : List LinkEventValue) (left : LinkSide) →
      Reached queues start (record { a = other; b = own }) of_a of_b → Follows queues own other events left →
      Reached queues start (record { a = other; b = left }) of_a (of_b ++ events)
  by_b own other of_a of_b events left run Stays = subst (Reached queues start (record { a = other; b = own }) of_a) (sym (append-nil of_b)) run
  by_b own other of_a of_b events left run (Does step) = ByB run step

-- ---- a run

module _ (queues : Queues) (out : LeftOut) (node_a peer_a node_b peer_b : ℕ) where
  abbrev start : LinkWorld
  start = new_world node_a peer_a node_b peer_b

  -- these marks are those of the run, as far as links began in it
  pub record AreMarksOf {w : LinkWorld} {of_a of_b : List LinkEventValue} (run : Reached queues start w of_a of_b) (judged : Judged) : Type 0 where
    pub here : (n : ℕ) → n < length w.a.links.links → judged.here n ≡ marks_of_a out run n
    pub there : (n : ℕ) → n < length w.b.links.links → judged.there n ≡ marks_of_b out run n

  -- what is left of it is a run, and both sides are right
  pub record RunLeft (w : LinkWorld) (of_a of_b : List LinkEventValue) (judged : Judged) : Type 0 where
    pub run : Reached queues start (world_left out judged w) (events_left out of_a) (events_left (other_out out) of_b)
    pub of_a_side : SideRight out judged w.a w.b
    pub of_b_side : SideRight (other_out out) (other_judged judged) w.b w.a

  pub run_left : {w : LinkWorld} {of_a of_b : List LinkEventValue} (run : Reached queues start w of_a of_b) (judged : Judged) →
      AreBound out of_a → AreBound (other_out out) of_b → AreMarksOf run judged → RunLeft w of_a of_b judged
  run_left Start judged bound_a bound_b marks = record {
    run = Start;
    of_a_side = record { fit = λ n l there. absurd cc; known = λ n l there. absurd cc; sent = λ place unit there. absurd cc };
    of_b_side = record { fit = λ n l there. absurd cc; known = λ n l there. absurd cc; sent = λ place unit there. absurd cc };
  }
  run_left (ByA {w = w} {of_a = of_a} {of_b = of_b} {events = events} {left = left} run step) judged bound_a bound_b marks =
      let parts = bound_parts out of_a events bound_a in
      let at_once = run_left run (judged_of_run out run) parts.0 bound_b (record { here = λ n less. refl; there = λ n less. refl }) in
      let more = step_grows queues out (judged_of_run out run) w.a w.b at_once.of_a_side at_once.of_b_side events left step parts.1 in
      let before = run_left run judged parts.0 bound_b (record {
        here = λ n less. marks.here n (omega (arith, more, less))
            ∙ marked_before (marks_of_a out run) (length w.a.links.links) (not (is_out out (record_of step))) n less;
        there = marks.there;
      }) in
      let next = step_left queues out judged w.a w.b before.of_a_side before.of_b_side events left step parts.1
      (λ n after less. marks.here n less
      ∙ marked_then (marks_of_a out run) (length w.a.links.links) (not (is_out out (record_of step))) n after) in
      record {
        run = subst (λ (es : List LinkEventValue).
            Reached queues start (world_left out judged (record { a = left; b = w.b })) es (events_left (other_out out) of_b))
            (sym (events_append out of_a events))
            (by_a queues start (side_left out judged w.a) (side_left (other_out out) (other_judged judged) w.b) (events_left out of_a)
            (events_left (other_out out) of_b) (events_left out events) (side_left out judged left) before.run next.follows);
        of_a_side = next.here;
        of_b_side = next.there;
      }
  run_left (ByB {w = w} {of_a = of_a} {of_b = of_b} {events = events} {left = left} run step) judged bound_a bound_b marks =
      let parts = bound_parts (other_out out) of_b events bound_b in
      let at_once = run_left run (judged_of_run out run) bound_a parts.0 (record { here = λ n less. refl; there = λ n less. refl }) in
      let more = step_grows queues (other_out out) (other_judged
      (judged_of_run out run)) w.b w.a at_once.of_b_side at_once.of_a_side events left step
      parts.1 in
      let before = run_left run judged bound_a parts.0 (record {
        here = marks.here;
        there = λ n less. marks.there n (omega (arith, more, less))
            ∙ marked_before (marks_of_b out run) (length w.b.links.links) (not (is_out (other_out out) (record_of step))) n less;
      }) in
      let next = step_left queues (other_out out) (other_judged judged) w.b w.a before.of_b_side before.of_a_side events left step parts.1
      (λ n after less. marks.there n less
      ∙ marked_then (marks_of_b out run) (length w.b.links.links) (not (is_out (other_out out) (record_of step))) n after) in
      record {
        run = subst (λ (es : List LinkEventValue).
            Reached queues start (world_left out judged (record { a = w.a; b = left })) (events_left out of_a) es)
            (sym (events_append (other_out out) of_b events))
            (by_b queues start (side_left (other_out out) (other_judged judged) w.b) (side_left out judged w.a) (events_left out of_a)
            (events_left (other_out out) of_b) (events_left (other_out out) events) (side_left (other_out out) (other_judged judged) left) before.run
            next.follows);
        of_a_side = next.there;
        of_b_side = next.here;
      }

  -- by the marks of the run itself
  pub run_is_left : {w : LinkWorld} {of_a of_b : List LinkEventValue} (run : Reached queues start w of_a of_b) → AreBound out of_a →
      AreBound (other_out out) of_b → RunLeft w of_a of_b (judged_of_run out run)
  run_is_left run bound_a bound_b =
      run_left run (judged_of_run out run) bound_a bound_b (record { here = λ n less. refl; there = λ n less. refl })

-- ---- what is next

module _ (queues : Queues) (out : LeftOut) (judged : Judged) (own other : LinkSide) (mine : SideRight out judged own other)
    (theirs : SideRight (other_out out) (other_judged judged) other own) where
  next_right : (one : LinkRecord Numbers) → MayBeNext own other out one → RecordRight queues out judged own other mine theirs one
  next_right (OfUser event) may = event_right queues out judged own other mine theirs event may.0 may.1
  next_right (Sends packet) may = packet_right queues out judged own other mine theirs packet
  next_right (Keeps packet truth) may =
      unit_right queues out judged own other mine theirs (record { packet = packet; truth = truth }) (theirs.sent may.0
      (record { packet = packet; truth = truth }) may.2)
  next_right OfNoLink may = record { right = tt; right_of_all = tt }

  -- no number of a link that is there becomes another
  numbered_alike : (one : LinkRecord Numbers) → MayBeNext own other out one →
      renumbered (judged_then out judged own.links one) one ≡ renumbered judged one
  numbered_alike (OfUser event) may = refl
  numbered_alike (Sends packet) may = refl
  numbered_alike (Keeps packet truth) may =
      ap kept (rank_as (judged_then out judged own.links (Keeps packet truth)).here judged.here (length own.links.links)
      (λ n less. marked_before judged.here (length own.links.links) (not (is_out out (Keeps packet truth))) n less) truth.tag.partner
      (theirs.sent may.0 (record { packet = packet; truth = truth }) may.2).there_is.partner)
    where
      kept : Option ℕ → LinkRecord Numbers
      kept number = Keeps packet (record truth { tag = record { link = option_map (rank judged.there) truth.tag.link; partner = number } })
  numbered_alike OfNoLink may = refl

  pub refused_next : (one : LinkRecord Numbers) → MayBeNext own other out one → is_out out one ≡ false → (refusal : LinkRefusal) →
      next_links (true_rules queues) own.links one ≡ Err refusal → next_links (true_rules queues) (links_left judged own.links)
      (renumbered judged one) ≡ Err refusal
  refused_next one may is refusal refused =
      ap (next_links (true_rules queues) (links_left judged own.links)) (sym (numbered_alike one may))
      ∙ ap (λ (b : Bool). next_links (true_rules queues) (links_left judged own.links) (cond b OfNoLink (renumbered
      (judged_then out judged own.links one) one)))
      (sym is)
      ∙ refused_alike (true_rules queues) out judged own.links mine.fit one (next_right one may).right is refusal refused
