-- What one record does to the world that both sides of the judge stand for.
use Rattle.std.proofs.Common.{◌≡◌, ℕ, ◌+◌, ◌≤◌, Bool, true, false, cond, List, [], ◌∷◌, ◌++◌, length, Option, refl, sym, ap, subst, ◌∙◌, arith}
use Rattle.std.proofs.Common.{length-append, count_by}
use Rattle.std.proofs.lemmas.List.Sums.{sum_by_push}
use Rattle.two_nodes.specs.Nodes.{Run}
use Rattle.capture_record.specs.declared.record.Record.{Record}
use Rattle.capture.specs.Lines.{to_come}
use Rattle.capture.specs.Reader.{CaptureState}
use Rattle.dna_node.specs.declared.finding.Finding.{Finding}
use Rattle.dna_station.specs.Machine.{is_sent}
use Rattle.pair_judge.specs.declared.line.Line.{Line}
use Rattle.pair_judge.specs.declared.end.End.{End}
use Rattle.pair_judge.specs.declared.summary.SideSummary.{SideSummary}
use Rattle.dna_station.specs.WireStation.{load}
use Rattle.dna_node.specs.WireLayers.{WireLayers, wire_layers_start}
use Rattle.pair_judge.specs.Counting.{is_received, is_damaged, is_kept, is_start, is_delivery, more_if}
use Rattle.pair_judge.specs.Summary.{counts_of, counted}
use Rattle.pair_judge.specs.inner.Making.{IsMade, StandsFor, move}
use Rattle.pair_judge.specs.declared.course.Course.{Course}
use Rattle.pair_judge.specs.Order.{MadeRecord, IsRunInOrder, made_by, records_of}
use Rattle.pair_judge.specs.inner.Course.{IsRead, IsWaiting, Track, WaitsAt, along}
use Rattle.wire_base.specs.declared.side.Side.TheVariants.{A, B}
use Rattle.pair_judge.specs.inner.Reached.{HasReached, IsHeldUp, IsInOrder, IsUnderWay, TurnIs}
use Rattle.pair_judge.proofs.Orders.{goes_on_in_order, one_more, same_other}
use Rattle.pair_judge.specs.inner.Wire.{JudgeWorld, JudgeHalf, JudgeTop, judge_pair}

-- ---- counts

more_is : (b : Bool) (n : ℕ) → n + cond b 1 0 ≡ more_if b n
more_is true n = refl
more_is false n = omega arith

count_by-push : (p : Record → Bool) (rs : List Record) (r : Record) → count_by p (rs ++ r ∷ []) ≡ more_if (p r) (count_by p rs)
count_by-push p rs r = sum_by_push (λ x. cond (p x) 1 0) rs r ∙ more_is (p r) (count_by p rs)

pub counts_of-push : (rs : List Record) (r : Record) → counts_of (rs ++ r ∷ []) ≡ counted (counts_of rs) r
counts_of-push rs r =
    let records : length (rs ++ r ∷ []) ≡ length rs + 1 = length-append rs (r ∷ []) in
    let sent = count_by-push is_sent rs r in
    let received = count_by-push is_received rs r in
    let damaged = count_by-push is_damaged rs r in
    let kept = count_by-push is_kept rs r in
    let periods = count_by-push is_start rs r in
    let up = count_by-push is_delivery rs r in
    cc

-- ---- a side made its next record

-- `incoming` led to the side that made it
pub record IsSame (old new : End) (after : Line) : Type 0 where
  pub head : new.head ≡ old.head
  pub layers : new.layers ≡ old.layers
  pub counts : new.counts ≡ old.counts
  pub line : new.line ≡ after

-- the number of the next record
pub next_place : (s : SideSummary) (made : List Record) → s ≡ counts_of made → s.records ≡ length made
next_place s made e = ap (λ (x : SideSummary). x.records) e

-- an end that is the same
pub same_end : (old new : End) → new ≡ old → IsSame old new old.line
same_end old new same = record {
  head = ap (λ (e : End). e.head) same;
  layers = ap (λ (e : End). e.layers) same;
  counts = ap (λ (e : End). e.counts) same;
  line = ap (λ (e : End). e.line) same;
}

-- of a side of which nothing moved but its line the same was read
pub same_read : (text : Option (List ℕ)) (old new : Course) (come : Option (List ℕ)) (made : List Record) → new.capture ≡ old.capture →
    new.ahead ≡ old.ahead → new.end.head ≡ old.end.head → IsRead (along text old come made) → IsRead (along text new come made)
same_read text old new come made capture ahead head h = record {
  so_far = rw (capture, ahead) h.so_far;
  count = rw (capture, ahead) h.count;
  head = head ∙ rw capture h.head;
}

module _ (top : JudgeTop) where
  -- a run from the start with the heads of these ends
  pub started_so : (a b a' b' : End) {made_a made_b : List Record} {w : JudgeWorld} → a'.head ≡ a.head → b'.head ≡ b.head →
      Run (judge_pair top) (wire_layers_start a.head b.head) made_a made_b w → Run (judge_pair top) (wire_layers_start a'.head b'.head) made_a
      made_b w
  started_so a b a' b' same_a same_b run = rw (same_a, same_b) run

  -- and in the same order
  pub ordered_so : (a b a' b' : End) (order : List MadeRecord) → a'.head ≡ a.head → b'.head ≡ b.head →
      IsRunInOrder (judge_pair top) (wire_layers_start a.head b.head) order → IsRunInOrder (judge_pair top) (wire_layers_start a'.head b'.head) order
  ordered_so a b a' b' order same_a same_b in_order = rw (same_a, same_b) in_order

  -- of sides that are the same but for their lines and layers
  pub ordered : (a b : Track) (order : List MadeRecord) (old_a old_b : End) → HasReached top order old_a old_b a.made b.made →
      a.course.end.head ≡ old_a.head → b.course.end.head ≡ old_b.head → a.course.end.counts ≡ old_a.counts → b.course.end.counts ≡ old_b.counts →
      IsInOrder top order a b
  ordered a b order old_a old_b h head_a head_b counts_a counts_b = record {
    in_order = ordered_so old_a old_b a.course.end b.course.end order head_a head_b h.in_order;
    of_a = h.of_a;
    of_b = h.of_b;
    count_a = next_place a.course.end.counts a.made (counts_a ∙ h.counts_a);
    count_b = next_place b.course.end.counts b.made (counts_b ∙ h.counts_b);
  }

  -- one record more was made
  in_order_on : (a b : End) (order : List MadeRecord) (made : MadeRecord) (of_a of_b : List Record) (w : JudgeWorld) →
      IsRunInOrder (judge_pair top) (wire_layers_start a.head b.head) order → records_of A (order ++ made ∷ []) ≡ of_a →
      records_of B (order ++ made ∷ []) ≡ of_b → Run (judge_pair top) (wire_layers_start a.head b.head) of_a of_b w →
      IsRunInOrder (judge_pair top) (wire_layers_start a.head b.head) (order ++ made ∷ [])
  in_order_on a b order made of_a of_b w before is_a is_b run =
      let start = wire_layers_start a.head b.head in
      goes_on_in_order (judge_pair top) start order made before (w, rw (is_a, is_b) run)

  -- the other side stands for the same half
  pub stands_on : (own own' other other' : End) (after : Line) (r : Record) (mine theirs : JudgeHalf) → StandsFor other own.line theirs →
      IsMade top (move own own' other.line after) r mine theirs → IsSame other other' after → StandsFor other' own'.line theirs
  stands_on own own' other other' after r mine theirs stands made same = record {
    head = stands.head ∙ sym same.head;
    layers = stands.layers ∙ sym same.layers;
    front = stands.front ∙ sym made.same_front;
    sent = rw same.line made.incoming;
  }

  pub reached_by_a : (a a' b b' : End) (after : Line) (order : List MadeRecord) (made_a made_b : List Record) (r : Record) →
      (h : HasReached top order a b made_a made_b) →
      (m : IsMade top (move a a' b.line after) r h.world.a h.world.b) → IsSame b b' after → Run (judge_pair top) (wire_layers_start a.head b.head)
      (made_a ++ r ∷ []) made_b (record { a = m.next; b = h.world.b }) →
      HasReached top (order ++ made_by A r ∷ []) a' b' (made_a ++ r ∷ []) made_b
  reached_by_a a a' b b' after order made_a made_b r h m same run =
      let of_a : records_of A (order ++ made_by A r ∷ []) ≡ made_a ++ r ∷ [] =
      one_more A order (made_by A r) ∙ ap (λ (rs : List Record). rs ++ r ∷ []) h.of_a in
      let of_b : records_of B (order ++ made_by A r ∷ []) ≡ made_b = same_other B order (made_by A r) refl ∙ h.of_b in
      record {
        world = record { a = m.next; b = h.world.b };
        run = started_so a b a' b' m.same_head same.head run;
        in_order = ordered_so a b a' b' (order ++ made_by A r ∷ []) m.same_head same.head
            (in_order_on a b order (made_by A r) _ _ _ h.in_order of_a of_b run);
        of_a = of_a;
        of_b = of_b;
        stands_a = rw same.line m.stands;
        stands_b = stands_on a a' b b' after r h.world.a h.world.b h.stands_b m same;
        counts_a = m.counts ∙ ap (λ (s : SideSummary). counted s r) h.counts_a ∙ sym (counts_of-push made_a r);
        counts_b = same.counts ∙ h.counts_b;
        load_a = omega (arith, m.load, h.load_a, length-append made_a (r ∷ []));
        load_b = subst (λ (l : WireLayers). load l.station ≤ length made_b) (sym same.layers) h.load_b;
      }

  pub reached_by_b : (a a' b b' : End) (after : Line) (order : List MadeRecord) (made_a made_b : List Record) (r : Record) →
      (h : HasReached top order a b made_a made_b) →
      (m : IsMade top (move b b' a.line after) r h.world.b h.world.a) → IsSame a a' after → Run (judge_pair top) (wire_layers_start a.head b.head)
      made_a
      (made_b ++ r ∷ []) (record { a = h.world.a; b = m.next }) →
      HasReached top (order ++ made_by B r ∷ []) a' b' made_a (made_b ++ r ∷ [])
  reached_by_b a a' b b' after order made_a made_b r h m same run =
      let of_a : records_of A (order ++ made_by B r ∷ []) ≡ made_a = same_other A order (made_by B r) refl ∙ h.of_a in
      let of_b : records_of B (order ++ made_by B r ∷ []) ≡ made_b ++ r ∷ [] =
      one_more B order (made_by B r) ∙ ap (λ (rs : List Record). rs ++ r ∷ []) h.of_b in
      record {
        world = record { a = h.world.a; b = m.next };
        run = started_so a b a' b' same.head m.same_head run;
        in_order = ordered_so a b a' b' (order ++ made_by B r ∷ []) same.head m.same_head
            (in_order_on a b order (made_by B r) _ _ _ h.in_order of_a of_b run);
        of_a = of_a;
        of_b = of_b;
        stands_a = stands_on b b' a a' after r h.world.b h.world.a h.stands_a m same;
        stands_b = rw same.line m.stands;
        counts_a = same.counts ∙ h.counts_a;
        counts_b = m.counts ∙ ap (λ (s : SideSummary). counted s r) h.counts_b ∙ sym (counts_of-push made_b r);
        load_a = subst (λ (l : WireLayers). load l.station ≤ length made_a) (sym same.layers) h.load_a;
        load_b = omega (arith, m.load, h.load_b, length-append made_b (r ∷ []));
      }

  pub stands_still : (own own' other other' : End) (half : JudgeHalf) → StandsFor own other.line half → IsSame own own' own.line →
      IsSame other other' other.line → StandsFor own' other'.line half
  stands_still own own' other other' half stands same same_other = record {
    head = stands.head ∙ sym same.head;
    layers = stands.layers ∙ sym same.layers;
    front = stands.front ∙ ap (λ (l : Line). l.gone) (sym same_other.line);
    sent = rw same.line stands.sent;
  }

  -- nothing was made
  abbrev pub reached_still : (order : List MadeRecord) (a a' b b' : End) (made_a made_b : List Record) → HasReached top order a b made_a made_b →
      IsSame a a' a.line → IsSame b b' b.line → HasReached top order a' b' made_a made_b
  reached_still order a a' b b' made_a made_b h same_a same_b = record {
    world = h.world;
    run = started_so a b a' b' same_a.head same_b.head h.run;
    in_order = ordered_so a b a' b' order same_a.head same_b.head h.in_order;
    of_a = h.of_a;
    of_b = h.of_b;
    stands_a = stands_still a a' b b' h.world.a h.stands_a same_a same_b;
    stands_b = stands_still b b' a a' h.world.b h.stands_b same_b same_a;
    counts_a = same_a.counts ∙ h.counts_a;
    counts_b = same_b.counts ∙ h.counts_b;
    load_a = subst (λ (l : WireLayers). load l.station ≤ length made_a) (sym same_a.layers) h.load_a;
    load_b = subst (λ (l : WireLayers). load l.station ≤ length made_b) (sym same_b.layers) h.load_b;
  }

  -- of b, while a's line was lent
  abbrev pub reached_stayed : (order : List MadeRecord) (a b b' : End) (line : Line) (made_a made_b : List Record) →
      HasReached top order a b made_a made_b → line ≡ a.line → b' ≡ b → HasReached top order (record a { line = line }) b' made_a made_b
  reached_stayed order a b b' line made_a made_b h same_line same =
      reached_still order a (record a { line = line }) b b' made_a made_b h
      (record { head = refl; layers = refl; counts = refl; line = same_line }) (same_end b b' same)

  -- a waits, or has ended: nothing was made, and b's line was lent
  pub under_still : (order : List MadeRecord) (text_a text_b : Option (List ℕ)) (a a' b : Course) (line : Line)
      (come_a come_a' come_b : Option (List ℕ)) (made_a made_b : List Record) →
      IsUnderWay top order (along text_a a come_a made_a) (along text_b b come_b made_b) → IsRead (along text_a a' come_a' made_a) →
      a'.end ≡ a.end → line ≡ b.end.line →
      IsUnderWay top order (along text_a a' come_a' made_a) (along text_b (record b { end = record b.end { line = line } }) come_b made_b)
  under_still order text_a text_b a a' b line come_a come_a' come_b made_a made_b under read_a same same_line = record {
    read_a = read_a;
    read_b = same_read text_b b _ come_b made_b refl refl refl under.read_b;
    reached = reached_still order a.end a'.end b.end (record b.end { line = line }) made_a made_b under.reached (same_end a.end a'.end same)
        (record { head = refl; layers = refl; counts = refl; line = same_line });
  }

  -- it waits there as before
  pub held_still : (a a' : Course) (line line' : Line) (next : Record) → IsWaiting a'.capture.bytes a'.ahead next → a'.end ≡ a.end → line' ≡ line →
      WaitsAt top a.end line next → IsHeldUp top a' line'
  held_still a a' line line' next ahead same same_line waits = record {
    next = next;
    ahead = ahead;
    waits = subst (λ (e : End). WaitsAt top e line' next) (sym same) (subst (λ (l : Line). WaitsAt top a.end l next) (sym same_line) waits);
  }

  -- a turn of b leaves what is to come of a
  pub turn_so : (order : List MadeRecord) (tells : MadeRecord → Type 0) (turn : Option Finding) (text_a : Option (List ℕ)) (a : Course)
      (capture : CaptureState) (left : Option (List ℕ)) (made_a : List Record) (b : Track) → a.capture ≡ capture →
      TurnIs top order tells turn (along text_a a (to_come capture.unread left) made_a) b →
      TurnIs top order tells turn (along text_a a (to_come a.capture.unread left) made_a) b
  turn_so order tells turn text_a a capture left made_a b same is =
      subst (λ (s : CaptureState). TurnIs top order tells turn (along text_a a (to_come s.unread left) made_a) b) (sym same) is
