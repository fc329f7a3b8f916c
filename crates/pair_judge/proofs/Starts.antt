-- Two sides whose heads have been read, and what holds of the two between turns.
use Rattle.std.proofs.Common.{◌≡◌, ℕ, ◌+◌, ◌≤◌, List, [], ◌++◌, length, drop, Option, refl, sym, ap₂, subst, ◌∙◌, arith, append-nil}
use Rattle.capture.specs.SoFar.{TheEnd}
use Rattle.dna_node.specs.declared.finding.Finding.{Finding}
use Rattle.dna_node.specs.declared.finding.Finding.TheVariants.{Accepted}
use Rattle.pair_judge.specs.declared.course.Ahead.{Ahead}
use Rattle.pair_judge.specs.declared.course.Ahead.TheVariants.{Unread, Waits, Ended}
use Rattle.pair_judge.specs.declared.judging.Found.{Found}
use Rattle.pair_judge.specs.declared.summary.SideSummary.{SideSummary}
use Rattle.pair_judge.specs.Finding.{EndsWhere, IsCounted, IsFoundIn}
use Rattle.pair_judge.specs.Summary.{summary_at}
use Rattle.pair_judge.proofs.Found.{at_heads}
use Rattle.two_nodes.specs.Nodes.{Done}
use Rattle.dna_station.specs.declared.head.Head.{Head}
use Rattle.dna_station.specs.WireStation.{load}
use Rattle.dna_node.specs.WireLayers.{WireLayers, WireLayersUnit, new_wire_layers_node, wire_layers_start}
use Rattle.pair_judge.specs.declared.summary.Summary.{Summary}
use Rattle.pair_judge.specs.Heads.{head_of}
use Rattle.capture_record.specs.declared.record.Record.{Record}
use Rattle.pair_judge.specs.declared.course.Course.{Course}
use Rattle.pair_judge.specs.declared.line.Line.{Line}
use Rattle.pair_judge.specs.Order.{MadeRecord}
use Rattle.pair_judge.proofs.Orders.{nothing_made}
use Rattle.pair_judge.specs.inner.Course.{MayRead, Track, along, behind, having_made, read_of, waiting}
use Rattle.pair_judge.specs.inner.Lines.{held, Shows}
use Rattle.pair_judge.specs.inner.Making.{StandsFor}
use Rattle.pair_judge.specs.inner.Reached.{IsFound, IsUnderWay}
use Rattle.pair_judge.specs.inner.Opened.{OpensAt}
use Rattle.pair_judge.specs.inner.Wire.{JudgeTop, judge_pair}

module _ (top : JudgeTop) where
  -- as many records are made as turns were taken
  pub record HasTaken (tells : List MadeRecord → Type 0) (a b : Track) (turns : ℕ) : Type 0 where
    pub made_a : List Record
    pub made_b : List Record
    pub order : List MadeRecord
    pub told : tells order
    pub under_way : IsUnderWay top order (having_made a made_a) (having_made b made_b)
    pub count : length made_a + length made_b ≡ turns
    pub may_read_a : MayRead a.course
    pub may_read_b : MayRead b.course

  nothing_sent : (line : Line) → line.gone ≡ 0 → held line ≡ [] → Shows line []
  nothing_sent line gone units = record {
    within = omega (arith, gone);
    rest = units ∙ sym (subst (λ (n : ℕ). drop {A = WireLayersUnit} n [] ≡ []) (sym gone) refl);
  }

  stands : (text_own text_other : Option (List ℕ)) (own other : Course) (come_own come_other : Option (List ℕ)) → OpensAt text_own own come_own →
      OpensAt text_other other come_other → StandsFor own.end other.end.line (record { state = new_wire_layers_node own.end.head; sent = [] })
  stands text_own text_other own other come_own come_other o p = record {
    head = refl;
    layers = sym o.layers;
    front = sym p.gone;
    sent = nothing_sent own.end.line o.gone o.units;
  }

  no_load : (course : Course) → course.end.layers ≡ (new_wire_layers_node course.end.head).station → load course.end.layers.station ≤ 0
  no_load course is = subst (λ (l : WireLayers). load l.station ≤ 0) (sym is) (omega arith)

  pub started : (tells : List MadeRecord → Type 0) → tells [] → (text_a text_b : Option (List ℕ)) (a b : Course) (come_a come_b : Option (List ℕ)) →
      OpensAt text_a a come_a → OpensAt text_b b come_b →
      HasTaken tells (along text_a a come_a []) (along text_b b come_b []) 0
  started tells told text_a text_b a b come_a come_b o p = record {
    made_a = [];
    made_b = [];
    order = [];
    told = told;
    under_way = record {
      read_a = o.read;
      read_b = p.read;
      reached = record {
        world = wire_layers_start a.end.head b.end.head;
        run = Done;
        in_order = nothing_made (judge_pair top) (wire_layers_start a.end.head b.end.head);
        of_a = refl;
        of_b = refl;
        stands_a = stands text_a text_b a b come_a come_b o p;
        stands_b = stands text_b text_a b a come_b come_a p o;
        counts_a = o.counts;
        counts_b = p.counts;
        load_a = no_load a o.layers;
        load_b = no_load b p.layers;
      };
    };
    count = refl;
    may_read_a = o.may_read;
    may_read_b = p.may_read;
  }

  -- ---- at the end

  -- the same of the same heads, records and counts
  counted_so : {head_a head_b head_a' head_b' : Head} {of_a of_b of_a' of_b' : List Record} {summary summary' : Summary} → head_a ≡ head_a' →
      head_b ≡ head_b' → of_a ≡ of_a' → of_b ≡ of_b' → summary ≡ summary' → IsCounted top.kind head_a head_b of_a of_b summary →
      IsCounted top.kind head_a' head_b' of_a' of_b' summary'
  counted_so same_a same_b all_a all_b is counts = rw (← same_a, ← same_b, ← all_a, ← all_b, ← is) counts

  -- a finding of the turn is one of the two texts
  pub found_in : (a b : Track) (found : Found) → IsFound top a b found.finding → found.summary.a ≡ summary_at top.links a.course.end →
      found.summary.b ≡ summary_at top.links b.course.end → IsFoundIn top.kind a.text b.text found
  found_in a b found f counts_a counts_b = record {
    read_a = read_of (having_made a f.made_a);
    read_b = read_of (having_made b f.made_b);
    from_a = f.read_a.so_far;
    from_b = f.read_b.so_far;
    finding = λ all_a all_b goes_a goes_b. at_heads top.kind a.course.end.head b.course.end.head _ _ all_a all_b found.finding (sym f.read_a.head)
        (sym f.read_b.head) (f.is_finding all_a all_b goes_a goes_b);
    ends = f.ends;
    counts = λ is. counted is f.ends (f.counts is);
  }
    where
      nothing_waits : (t : Track) (made : List Record) → (read_of t).behind ≡ TheEnd → made ≡ made ++ waiting t.course.capture.bytes t.course.ahead
      nothing_waits t made ended = by_ahead t.course.ahead ended
        where
          by_ahead : (ahead : Ahead) → behind ahead t.come ≡ TheEnd → made ≡ made ++ waiting t.course.capture.bytes ahead
          by_ahead Unread e = absurd (cc)
          by_ahead (Waits entry) e = absurd (cc)
          by_ahead Ended e = sym (append-nil made)

      counted : found.finding ≡ Accepted → EndsWhere found.finding (read_of a).behind (read_of b).behind →
          IsCounted top.kind a.course.end.head b.course.end.head
          f.made_a f.made_b (record { a = summary_at top.links a.course.end; b = summary_at top.links b.course.end })
          → IsCounted top.kind (head_of (read_of (having_made a f.made_a))) (head_of (read_of (having_made b f.made_b)))
          (f.made_a ++ waiting a.course.capture.bytes a.course.ahead) (f.made_b ++ waiting b.course.capture.bytes b.course.ahead) found.summary
      counted is ends counts =
          let both = subst (λ (finding : Finding). EndsWhere finding (read_of a).behind (read_of b).behind) is ends in
          counted_so f.read_a.head f.read_b.head (nothing_waits a f.made_a both.0) (nothing_waits b f.made_b both.1)
          (sym (ap₂ (λ (x y : SideSummary). record { a = x; b = y }) counts_a counts_b)) counts
