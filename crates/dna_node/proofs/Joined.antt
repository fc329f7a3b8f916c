-- The layers joined: in every run the links of both sides, with the packets that went between them, are led to by steps of the links alone.
use Rattle.std.proofs.Common.{◌≡◌, ℕ, zero, suc, ◌+◌, ◌<◌, ◌⊎◌, inl, inr, Bool, true, false, cond, Option, Some, List, [], ◌∷◌, ◌++◌, map, length}
use Rattle.std.proofs.Common.{refl, sym, ap, ap₂, ◌∙◌, subst, arith, length-append, append-nil, append_assoc, eqb-true, option_map}
use Rattle.std.specs.Prelude.{slice_get}
use Rattle.std.proofs.lemmas.Bool.{eqb-false}
use Rattle.std.proofs.lemmas.Grind.{flat_map-append}
use Rattle.std.proofs.lemmas.List.{length_push}
use Rattle.std.proofs.lemmas.Option.{same_Some, slice_get-map, slice_get_within}
use Rattle.two_nodes.specs.Nodes.{Half, World, Run}
use Rattle.two_nodes.specs.Kept.{IsKept}
use Rattle.two_nodes.specs.Cutting.{cut_half, cut_world}
use Rattle.two_nodes.proofs.Order.{slice_get-append}
use Rattle.two_nodes.proofs.Listed.{next_at}
use Rattle.two_nodes.proofs.Lasting.{lasts}
use Rattle.ddcmp_msg.specs.Message.{MessageValue, Data}
use Rattle.ddcmp_msg.specs.declared.nak_reason.NakReason.{NakReason}
use Rattle.ddcmp_msg.specs.declared.nak_reason.NakReason.TheVariants.{HeaderCheck, DataCheck}
use Rattle.capture_record.specs.Fates.{is_kept}
use Rattle.capture_record.specs.declared.record.Record.{Record}
use Rattle.dna_station.specs.declared.head.Head.{Head}
use Rattle.dna_station.specs.declared.state.StationEvent.TheVariants.{Start, Halt}
use Rattle.dna_station.specs.Table.{counts_damage, change_of, row}
use Rattle.dna_links.specs.declared.queue.Queues.{Queues}
use Rattle.dna_node.specs.TagRules.{judged_by}
use Rattle.dna_station.specs.Station.{Station, PastPeriod, past, packets_of, all_given, after_event}
use Rattle.dna_station.specs.Truth.{Truth, place_of}
use Rattle.dna_station.specs.Book.{ArrivalValue, Sound, HeaderBad, DataBad, body_of}
use Rattle.dna_station.specs.StationBook.{with_packet, does, after_sending, truth_of, gives_number, after_arrival, station_book}
use Rattle.dna_station.specs.Bounds.{IsOrdered}
use Rattle.dna_station.specs.Line.{SentUnit}
use Rattle.dna_links.specs.User.{LinkEventValue, Boot}
use Rattle.dna_links.specs.Runs.{SentMessage, LinkSide, LinkWorld, LinkStep, ByUser, Sends, SendsNone, Composes, Keeps, Passes, Reached}
use Rattle.dna_links.specs.Runs.{Start as Begun, ByA}
use Rattle.dna_node.specs.Layers.{Layers, LayersTruth, LayersNode, LayersUnit, of_place, carried_again, to_station, unit_of_station, stations}
use Rattle.dna_node.specs.LayersPair.{layers_pair_by, layers_start, one_or_none, link_event_in, link_events, side_of, new_links_world, AreJoined}
use Rattle.dna_station.proofs.Steps.Effects.{kept_by_all, does_stays}
use Rattle.dna_station.proofs.Cut.Node.{arrival_packets}
use Rattle.dna_station.proofs.Steps.Happens.{happens}
use Rattle.two_nodes.proofs.NumberedSteps.{at_pushed}
use Rattle.dna_station.proofs.Bounds.Numbers.{is_data}
use Rattle.dna_station.proofs.Delivery.PlacesInOrder.{BothPlaced, placed_kept, start_placed, IsBehind, LeftBehind, behind_left, behind_beside}
use Rattle.dna_node.proofs.OnTop.{NoMessage, Message, NotKept, LostAbove, KeptNone, KeptOne, OnTop, ByStation, ByLinks, ByBoth, Composed, Carries}
use Rattle.dna_node.proofs.OnTop.{Again, First, Receipt, Counted, Unheard}
use Rattle.dna_node.proofs.Follows.{follows}
use Rattle.dna_links.proofs.Runs.Steps.{reached_exchanged}
use Rattle.dna_node.proofs.Alike.{IsExchangeable, IsKeptByA, kept_alike}

-- ---- all packets given

pub given_start : (s : Station) → all_given (after_event s Start) ≡ all_given s
given_start s =
    append-nil (packets_of (s.earlier ++ past s ∷ [])) ∙ flat_map-append (λ (p : PastPeriod). p.given) s.earlier (past s ∷ []) ∙
    ap (λ (l : List (List ℕ)). packets_of s.earlier ++ l) (append-nil s.packets)

damaged_earlier : (s : Station) (reason : NakReason) (b : Bool) → (cond b (station_book.counts reason s) s).earlier ≡ s.earlier
damaged_earlier s reason true = refl
damaged_earlier s reason false = refl

pub arrival_earlier : (s : Station) (arrival : ArrivalValue Truth) (kept : Bool) → (after_arrival s arrival kept).earlier ≡ s.earlier
arrival_earlier s (Sound m u) kept =
    kept_by_all (λ (t : Station). t.earlier ≡ s.earlier) (does m u kept) (λ t effect e. (does_stays m u kept t effect).earlier ∙ e)
    (row s.state m).effects s refl
arrival_earlier s HeaderBad kept = damaged_earlier s HeaderCheck (counts_damage s.state)
arrival_earlier s DataBad kept = damaged_earlier s DataCheck (counts_damage s.state)

pub given_arrival : (s : Station) (arrival : ArrivalValue Truth) (kept : Bool) → all_given (after_arrival s arrival kept) ≡ all_given s
given_arrival s arrival kept =
    ap₂ (λ (e : List PastPeriod) (ps : List (List ℕ)). packets_of e ++ ps) (arrival_earlier s arrival kept) (arrival_packets s arrival kept)

-- a packet that is first sent comes behind them
pub given_first : (s : Station) (m : MessageValue) → gives_number s m ≡ true → all_given (after_sending s m) ≡ all_given s ++ body_of m ∷ []
given_first s (Data flags resp num body) new =
    ap (λ (b : Bool). packets_of s.earlier ++ with_packet b s.packets body) new ∙ sym (append_assoc (packets_of s.earlier) s.packets (body ∷ []))
given_first s m new = absurd cc

pub given_again : (s : Station) (m : MessageValue) → gives_number s m ≡ false → all_given (after_sending s m) ≡ all_given s
given_again s (Data flags resp num body) old = ap (λ (b : Bool). packets_of s.earlier ++ with_packet b s.packets body) old
given_again s m old = refl

-- where it is in them
first_place : (s : Station) (m : MessageValue) → gives_number s m ≡ true → place_of s m ≡ length (all_given s)
first_place s (Data flags resp num body) new =
    let e = eqb-true s.next_to_send (length s.packets + 1) new in let l = length-append (packets_of s.earlier) s.packets in omega arith
first_place s m new = absurd cc

there_is : (xs : List (Option SentMessage)) (i : ℕ) → i < length xs → slice_get xs i ≡ Some (of_place (slice_get xs i))
there_is [] i within = absurd (omega arith)
there_is (x ∷ xs) zero within = refl
there_is (x ∷ xs) (suc i) within = there_is xs i (omega arith)

pub again_told : (s : Layers) (m : MessageValue) → IsOrdered s.station → length s.messages ≡ length (all_given s.station) →
    gives_number s.station m ≡ false → is_data m ≡ true →
    slice_get s.messages (place_of s.station m) ≡ Some (carried_again s (truth_of s.station m) (change_of m))
again_told s (Data flags resp num body) o counted old d =
    let differs = eqb-false s.station.next_to_send (length s.station.packets + 1) old in
    let l = length-append (packets_of s.station.earlier) s.station.packets in
    let a = o.above in let b = o.below in
    there_is s.messages (place_of s.station (Data flags resp num body)) (omega arith)
again_told s m o counted old d = absurd cc

-- ---- each data message has what was true of its packet at the first sending, found by its place

pub record AreTold (own : Half LayersNode LayersUnit) : Type 0 where
  pub counted : length own.state.station.messages ≡ length (all_given own.state.station.station)
  pub told : (i : ℕ) (unit : LayersUnit) → slice_get own.sent i ≡ Some unit → is_data unit.message ≡ true →
      slice_get own.state.station.messages unit.known.station.place ≡ Some unit.known.carried

module _ (queues : Queues) where
  module _ (own other : Half LayersNode LayersUnit) (o : IsOrdered own.state.station.station) (t : AreTold own) where
    abbrev s : Layers
    s = own.state.station

    -- with one unit more
    module _ (bytes : List ℕ) (m : MessageValue) (known : LayersTruth) (messages : List (Option SentMessage))
        (grown : (i : ℕ) (x : Option SentMessage) → slice_get s.messages i ≡ Some x → slice_get messages i ≡ Some x)
        (this : is_data m ≡ true → slice_get messages known.station.place ≡ Some known.carried) where
      abbrev unit_sent : LayersUnit
      unit_sent = record { bytes = bytes; message = m; known = known }

      told_one_more : (i : ℕ) (unit : LayersUnit) → slice_get (own.sent ++ unit_sent ∷ []) i ≡ Some unit → is_data unit.message ≡ true →
          slice_get messages unit.known.station.place ≡ Some unit.known.carried
      told_one_more i unit at = go (at_pushed own.sent unit_sent unit i at)
        where
          go : (slice_get own.sent i ≡ Some unit) ⊎ ((i ≡ length own.sent) × (unit_sent ≡ unit)) → is_data unit.message ≡ true →
              slice_get messages unit.known.station.place ≡ Some unit.known.carried
          go (inl a) d = grown unit.known.station.place unit.known.carried (t.told i unit a d)
          go (inr a) d =
              subst (λ (x : LayersUnit). is_data x.message ≡ true → slice_get messages x.known.station.place ≡ Some x.known.carried) a.1 this
              d

    told_left : (r : Record) (h : Half LayersNode LayersUnit) → OnTop (judged_by queues) own other r h → AreTold h
    told_left r h (Counted bytes reason) = record { counted = t.counted; told = t.told }
    told_left r h (Unheard bytes) = record { counted = t.counted; told = t.told }
    told_left r h (ByStation Start) = record { counted = t.counted ∙ sym (ap length (given_start s.station)); told = t.told }
    told_left r h (ByStation Halt) = record { counted = t.counted; told = t.told }
    told_left r h (ByBoth links done) = record { counted = t.counted; told = t.told }
    told_left r h (Composed body packet made done) = record { counted = t.counted; told = t.told }
    told_left r h (Carries event none) = record { counted = t.counted; told = t.told }
    told_left r h (ByLinks event of_links links is done) = record { counted = t.counted; told = t.told }
    told_left r h (Again bytes m old) = record {
      counted = t.counted ∙ sym (ap length (given_again s.station m old));
      told = told_one_more bytes m (record { station = truth_of s.station m; carried = carried_again s (truth_of s.station m) (change_of m) })
          s.messages (λ i x at. at) (again_told s m o t.counted old);
    }
    told_left r h (First bytes m new links carried made) = record {
      counted = length_push s.messages carried ∙ ap (λ (n : ℕ). n + 1) t.counted ∙ sym (length_push (all_given s.station) (body_of m)) ∙
          sym (ap length (given_first s.station m new));
      told = told_one_more bytes m (record { station = truth_of s.station m; carried = carried }) (s.messages ++ carried ∷ [])
          (λ i x at. slice_get-append s.messages (carried ∷ []) i x at)
          (λ d. ap (slice_get (s.messages ++ carried ∷ [])) (first_place s.station m new ∙ sym t.counted) ∙ next_at s.messages [] carried);
    }
    told_left r h (Receipt hint fate bytes unit arrival there links met) =
        record { counted = t.counted ∙ sym (ap length (given_arrival s.station (to_station arrival) (is_kept fate))); told = t.told }

  -- ---- what a record is to the links

  data Moves (own other : LinkSide) : List LinkEventValue → LinkSide → Type 0 where
    NoStep : Moves own other [] own
    OneStep : {events : List LinkEventValue} {left : LinkSide} → LinkStep queues own other events left → Moves own other events left

  record Moved (own other h : Half LayersNode LayersUnit) (r : Record) (front of_other : ℕ) : Type 0 where
    front_left : ℕ
    moves : Moves (side_of own front) (side_of other of_other) (link_event_in r) (side_of h front_left)
    behind : IsBehind h.state.station.station h.state.front (map unit_of_station other.sent) front_left

  module _ (own other : Half LayersNode LayersUnit) (theirs : AreTold other) (front of_other : ℕ) where
    abbrev Left : Half LayersNode LayersUnit → Record → Type 0
    Left h r = LeftBehind (cut_half stations own) (cut_half stations other) (cut_half stations h) front r

    -- the unit that was kept, as the station's node sees it, is this one
    kept_unit : (hint : ℕ) (unit : LayersUnit) (u : SentUnit) → slice_get other.sent hint ≡ Some unit →
        slice_get (map unit_of_station other.sent) hint ≡ Some u → u ≡ unit_of_station unit
    kept_unit hint unit u there at =
        same_Some u (unit_of_station unit) (sym at ∙ slice_get-map unit_of_station other.sent hint ∙ ap (option_map unit_of_station) there)

    -- its packet was first sent
    passed : (hint : ℕ) (unit : LayersUnit) (u : SentUnit) → slice_get other.sent hint ≡ Some unit →
        (slice_get (map unit_of_station other.sent) hint ≡ Some u) × (is_data u.message ≡ true) → u.known.place < length other.state.station.messages
    passed hint unit u there at =
        let same = kept_unit hint unit u there at.0 in
        let d : is_data unit.message ≡ true = ap (λ (x : SentUnit). is_data x.message) (sym same) ∙ at.1 in
        slice_get_within other.state.station.messages u.known.place unit.known.carried
        (ap (λ (x : SentUnit). slice_get other.state.station.messages x.known.place) same ∙ theirs.told hint unit there d)

    moved : (r : Record) (h : Half LayersNode LayersUnit) → OnTop (judged_by queues) own other r h → Left h r → Moved own other h r front of_other
    moved r h (Counted bytes reason) l = record { front_left = front; moves = NoStep; behind = l }
    moved r h (Unheard bytes) l = record { front_left = front; moves = NoStep; behind = l }
    moved r h (ByStation Start) l = record { front_left = front; moves = NoStep; behind = l }
    moved r h (ByStation Halt) l = record { front_left = front; moves = NoStep; behind = l }
    moved r h (ByBoth links done) l = record { front_left = front; moves = OneStep (ByUser Boot links done); behind = l }
    moved r h (Composed body packet made done) l = record { front_left = front; moves = OneStep (Composes packet made done); behind = l }
    moved r h (Carries event none) l = record {
      front_left = front;
      moves = subst (λ (x : Option LinkEventValue). Moves (side_of own front) (side_of other of_other) (one_or_none x) (side_of own front))
          (sym none) NoStep;
      behind = l;
    }
    moved r h (ByLinks event of_links links is done) l = record {
      front_left = front;
      moves = subst (λ (x : Option LinkEventValue). Moves (side_of own front) (side_of other of_other) (one_or_none x) (side_of h front)) (sym is)
          (OneStep (ByUser of_links links done));
      behind = l;
    }
    moved r h (Again bytes m old) l = record { front_left = front; moves = NoStep; behind = l }
    moved r h (First bytes m new links carried (NoMessage read)) l = record { front_left = front; moves = OneStep SendsNone; behind = l }
    moved r h (First bytes m new links carried (Message packet made read done)) l =
        record { front_left = front; moves = OneStep (Sends packet made done); behind = l }
    moved r h (Receipt hint fate bytes unit arrival there links NotKept) l = record { front_left = front; moves = NoStep; behind = l }
    moved r h (Receipt hint fate bytes unit arrival there links LostAbove) l =
        record { front_left = (l.0).known.place + 1; moves = OneStep (Passes (l.0).known.place l.2 (passed hint unit l.0 there l.1)); behind = l.3 }
    moved r h (Receipt hint fate bytes unit arrival there links (KeptNone none)) l =
        record { front_left = (l.0).known.place + 1; moves = OneStep (Passes (l.0).known.place l.2 (passed hint unit l.0 there l.1)); behind = l.3 }
    moved r h (Receipt hint fate bytes unit arrival there links (KeptOne message left is done)) l =
        let same = kept_unit hint unit l.0 there (l.1).0 in
        let place = ap (λ (x : SentUnit). x.known.place) same in
        let d : is_data unit.message ≡ true = ap (λ (x : SentUnit). is_data x.message) (sym same) ∙ (l.1).1 in
        record {
          front_left = (l.0).known.place + 1;
          moves = OneStep (Keeps (l.0).known.place message left l.2
              (ap (slice_get other.state.station.messages) place ∙ theirs.told hint unit there d ∙ ap Some is) done);
          behind = l.3;
        }

  reached_a : {start w : LinkWorld} {of_a of_b events : List LinkEventValue} {left : LinkSide} → Reached queues start w of_a of_b →
      Moves w.a w.b events left →
      Reached queues start (record { a = left; b = w.b }) (of_a ++ events) of_b
  reached_a {start} {w} {of_a} {of_b} x NoStep = subst (λ (l : List LinkEventValue). Reached queues start w l of_b) (sym (append-nil of_a)) x
  reached_a x (OneStep step) = ByA x step

  events_behind : (made : List Record) (r : Record) → link_events made ++ link_event_in r ≡ link_events (made ++ r ∷ [])
  events_behind made r =
      sym (flat_map-append link_event_in made (r ∷ []) ∙ ap (λ (l : List LinkEventValue). link_events made ++ l) (append-nil (link_event_in r)))

  -- ---- in every run

  pub record LayersJoined (head_a head_b : Head) (w : World LayersNode LayersUnit) (of_a of_b : List Record) : Type 0 where
    pub placed : BothPlaced (cut_world stations w) of_a of_b
    pub a_told : AreTold w.a
    pub b_told : AreTold w.b
    pub joined : AreJoined queues head_a head_b w of_a of_b
    pub a_behind : IsBehind w.a.state.station.station w.a.state.front (map unit_of_station w.b.sent) joined.front_a
    pub b_behind : IsBehind w.b.state.station.station w.b.state.front (map unit_of_station w.a.sent) joined.front_b

  abbrev pub joined_exchanged : IsExchangeable queues LayersJoined
  joined_exchanged head_a head_b w of_a of_b c = record {
    placed = let p = c.placed in
        record { order = record { of_a = p.order.of_b; of_b = p.order.of_a }; a_placed = p.b_placed; b_placed = p.a_placed };
    a_told = c.b_told;
    b_told = c.a_told;
    joined = record { front_a = c.joined.front_b; front_b = c.joined.front_a; reached = reached_exchanged c.joined.reached };
    a_behind = c.b_behind;
    b_behind = c.a_behind;
  }

  joined_by_a : IsKeptByA queues LayersJoined
  joined_by_a head_a head_b w made_a made_b r h c made =
      let f = follows (judged_by queues) w.a w.b h r made in
      let order = c.placed.order in
      let what = happens (judged_by queues).periods (cut_half stations w.a) (cut_half stations w.b) (cut_half stations h) r f.station in
      let l = behind_left (cut_half stations w.a) (cut_half stations w.b) order.of_a.sound order.of_b.order.partnered c.placed.b_placed
      c.joined.front_a c.a_behind r (cut_half stations h) what in
      let m = moved w.a w.b c.b_told c.joined.front_a c.joined.front_b r h f.links l in
      record {
        placed = placed_kept.by_a (cut_world stations w) made_a made_b r (cut_half stations h) c.placed f.station;
        a_told = told_left w.a w.b order.of_a.sound.ordered c.a_told r h f.links;
        b_told = c.b_told;
        joined = record {
          front_a = m.front_left;
          front_b = c.joined.front_b;
          reached = subst (λ (l : List LinkEventValue). Reached queues (new_links_world head_a head_b)
              (record { a = side_of h m.front_left; b = side_of w.b c.joined.front_b }) l (link_events made_b)) (events_behind made_a r)
              (reached_a c.joined.reached m.moves);
        };
        a_behind = m.behind;
        b_behind = behind_beside (cut_half stations w.a) (cut_half stations w.b) c.joined.front_b c.b_behind r (cut_half stations h) what;
      }

  module _ (head_a head_b : Head) where
    pub joined_kept : IsKept (layers_pair_by queues) (LayersJoined head_a head_b)
    joined_kept = kept_alike queues LayersJoined joined_exchanged joined_by_a head_a head_b

    pub start_joined : LayersJoined head_a head_b (layers_start head_a head_b) [] []
    start_joined = record {
      placed = start_placed head_a head_b;
      a_told = record { counted = refl; told = λ i unit at d. absurd cc };
      b_told = record { counted = refl; told = λ i unit at d. absurd cc };
      joined = record { front_a = 0; front_b = 0; reached = Begun };
      a_behind = inl refl;
      b_behind = inl refl;
    }

    pub all_joined : (w : World LayersNode LayersUnit) (of_a of_b : List Record) →
        Run (layers_pair_by queues) (layers_start head_a head_b) of_a of_b w →
        AreJoined queues head_a head_b w of_a of_b
    all_joined w of_a of_b run = (lasts (layers_pair_by queues) (LayersJoined head_a head_b) joined_kept [] [] start_joined run).joined
