-- Cutting one link with queues to what a node keeps of it commutes with what becomes of it.
use Rattle.std.proofs.Common.{◌≡◌, ℕ, Bool, true, false, not, ◌&&◌, ◌||◌, cond, ◌⊎◌, inl, inr, Option, Some, None, List, [], Result, Ok, Err, refl}
use Rattle.std.proofs.Common.{sym, ap, ap₂, ◌∙◌}
use Rattle.std.proofs.Common.{map, option_map, position, subst, drop, take}
use Rattle.std.specs.Prelude.{slice_get}
use Rattle.std.proofs.lemmas.Bool.{and_parts}
use Rattle.std.proofs.lemmas.Option.{slice_get-map}
use Rattle.dna_station.specs.declared.link_refusal.LinkRefusal.{LinkRefusal}
use Rattle.dna_links.specs.declared.port.Phase.{Phase}
use Rattle.dna_links.specs.declared.port.Phase.TheVariants.{Calling, Called, Confirming, Running, Disconnecting, Ended}
use Rattle.dna_links.specs.declared.port.Port.{Port}
use Rattle.dna_links.specs.declared.port.LinkTest.{LinkTest}
use Rattle.dna_links.specs.declared.queue.Queues.TheVariants.{With}
use Rattle.dna_links.specs.declared.queue.Said.{Said}
use Rattle.dna_links.specs.declared.queue.Said.TheVariants.{Nothing, OfRun, Disconnect}
use Rattle.dna_links.specs.declared.queue.LinkQueue.{LinkQueue}
use Rattle.dna_links.specs.LookUps.{passes, is_live, is_in, is_at}
use Rattle.dna_links.specs.Segmentation.{Piece, in_whole_messages}
use Rattle.dna_links.specs.Links.{LinkOf, on_link, at_number, with_seen, in_phase, with_segments}
use Rattle.dna_links.specs.Queues.{is_over, further, has_waiting, port_of_waiting, in_use, with_in_use, keeps_numbers, lets_go, requeued, goes_on}
use Rattle.dna_links.specs.Queues.{ends_by_message, drops, drops_segments, call_of}
use Rattle.dna_links.specs.Queues.{forgotten, shows, shows_by, settled, reached}
use Rattle.dna_links.specs.TrueSegments.{TrueSegments, true_segments}
use Rattle.dna_links.specs.WireSegments.{WireSegments, with_pieces_alone, ends, wire_segments}
use Rattle.dna_links.specs.TrueLinks.{Links}
use Rattle.dna_links.specs.CutSegments.{cut}
use Rattle.dna_links.specs.CutLinks.{cut_as, cut_link, cut_links}
use Rattle.dna_links.proofs.Cut.Pieces.{drop_none}
use Rattle.dna_links.proofs.Cut.LookUps.{position-map, IsFound, found, with_link_same}

-- ---- look-ups by the ports in use

module _ {R R' : Type 0} (g : R → R') (test : LinkTest) (s : Links) (otherwise : R) (otherwise' : R') (next : ℕ → LinkOf TrueSegments → R)
    (next' : ℕ → LinkOf WireSegments → R') where
  abbrev GoesAlong : Type 0
  GoesAlong = (n : ℕ) (l : LinkOf TrueSegments) → slice_get s.links n ≡ Some l → passes test (in_use With l) ≡ true →
      g (next n l) ≡ next' n (cut_link With l)

  at_seen : g otherwise ≡ otherwise' → GoesAlong → (o : Option ℕ) → IsFound (λ (l : LinkOf TrueSegments). passes test (in_use With l)) s.links o →
      g (at_number s.links o otherwise next) ≡ at_number (map (cut_link With) s.links) o otherwise' next'
  at_seen none along None nobody = none
  at_seen none along (Some n) (l, here) =
      ap (λ (o : Option (LinkOf TrueSegments)). g (on_link n o otherwise next)) here.0
      ∙ along n l here.0 here.1
      ∙ ap (λ (o : Option (LinkOf WireSegments)). on_link n o otherwise' next')
      (sym (slice_get-map (cut_link With) s.links n ∙ ap (option_map (cut_link With)) here.0))

  pub with_seen_same : g otherwise ≡ otherwise' → GoesAlong →
      g (with_seen (in_use With) test s otherwise next) ≡ with_seen (in_use With) test (cut_links With s) otherwise' next'
  with_seen_same none along =
      at_seen none along (position (λ (l : LinkOf TrueSegments). passes test (in_use With l)) s.links)
      (found (λ (l : LinkOf TrueSegments). passes test (in_use With l)) s.links)
      ∙ ap (λ (o : Option ℕ). at_number (map (cut_link With) s.links) o otherwise' next')
      (sym (position-map (λ (l : LinkOf WireSegments). passes test (in_use With l)) (cut_link With) s.links))

-- a link that passes by its port, or by its port in use
abbrev pub IsInUse : LinkTest → LinkOf TrueSegments → Type 0
IsInUse test l = (passes test l.port ≡ true) ⊎ (passes test (in_use With l) ≡ true)

pub with_in_use_same : {R R' : Type 0} (g : R → R') (test : LinkTest) (s : Links) (otherwise : R) (otherwise' : R')
    (next : ℕ → LinkOf TrueSegments → R) (next' : ℕ → LinkOf WireSegments → R') → g otherwise ≡ otherwise' →
    ((n : ℕ) (l : LinkOf TrueSegments) → slice_get s.links n ≡ Some l → IsInUse test l → g (next n l) ≡ next' n (cut_link With l)) →
    g (with_in_use With test s otherwise next) ≡ with_in_use With test (cut_links With s) otherwise' next'
with_in_use_same g test s otherwise otherwise' next next' none along =
    with_link_same With g test s (with_seen (in_use With) test s otherwise next) (with_seen (in_use With) test (cut_links With s) otherwise' next')
    next next' (λ missing. with_seen_same g test s otherwise otherwise' next next' none (λ n l there passed. along n l there (inr passed)))
    (λ n l there passed. along n l there (inl passed))

-- ---- ports in use

pub own_in_use : (waits : Option Phase) (port : Port) → (port_of_waiting waits port).own ≡ port.own
own_in_use None port = refl
own_in_use (Some phase) port = refl

-- a known address is an address
pub has_own : (own : Option ℕ) (address : ℕ) → is_at own address ≡ true → own ≡ None → ⊥
has_own None address e none = absurd cc
has_own (Some number) address e none = absurd cc

or_true : (b : Bool) → (b || true) ≡ true
or_true true = refl
or_true false = refl

pub or_left : (b c : Bool) → b ≡ true → (b || c) ≡ true
or_left true c e = refl
or_left false c e = absurd cc

or_right : (b c : Bool) → c ≡ true → (b || c) ≡ true
or_right b c e = ap (λ (x : Bool). b || x) e ∙ or_true b

-- in a phase other than DI, or before a DI was sent, what has numbers may wait
waits_before : (said : Said) (phase : Phase) → is_in Disconnecting phase ≡ false → has_waiting (Some phase) said ≡ true
waits_before said phase e = ap (λ (b : Bool). not (is_over said && b)) e ∙ go said
  where
    go : (x : Said) → not (is_over x && false) ≡ true
    go Nothing = refl
    go OfRun = refl
    go Disconnect = refl

waits_silent : (said : Said) (phase : Phase) → is_over said ≡ false → has_waiting (Some phase) said ≡ true
waits_silent Nothing phase e = refl
waits_silent OfRun phase e = refl
waits_silent Disconnect phase e = absurd cc

-- a link in use keeps what has numbers: in a phase other than DI, or before a DI was sent
module _ (l : LinkOf TrueSegments) (live : is_live (in_use With l).phase ≡ true) where
  pub kept_before : (test : Phase → Bool) → test Disconnecting ≡ false → test (in_use With l).phase ≡ true → keeps_numbers l ≡ true
  kept_before test none passed = go l.queue.waits live passed
    where
      other : (phase : Phase) → test phase ≡ true → is_in Disconnecting phase ≡ false
      other Disconnecting e = absurd cc
      other Calling e = refl
      other Called e = refl
      other Confirming e = refl
      other Running e = refl
      other Ended e = refl

      go : (waits : Option Phase) → is_live (port_of_waiting waits l.port).phase ≡ true → test (port_of_waiting waits l.port).phase ≡ true →
          (is_live l.port.phase || has_waiting waits l.queue.said) ≡ true
      go None e p = or_left (is_live l.port.phase) false e
      go (Some phase) e p = or_right (is_live l.port.phase) (has_waiting (Some phase) l.queue.said) (waits_before l.queue.said phase (other phase p))

  pub kept_silent : is_over l.queue.said ≡ false → keeps_numbers l ≡ true
  kept_silent silent = go l.queue.waits live
    where
      go : (waits : Option Phase) → is_live (port_of_waiting waits l.port).phase ≡ true →
          (is_live l.port.phase || has_waiting waits l.queue.said) ≡ true
      go None e = or_left (is_live l.port.phase) false e
      go (Some phase) e = or_right (is_live l.port.phase) (has_waiting (Some phase) l.queue.said) (waits_silent l.queue.said phase silent)

-- ---- segments

pub kept_segments : (l : LinkOf TrueSegments) → keeps_numbers l ≡ true → (cut_link With l).segments ≡ cut l.segments
kept_segments l kept = ap (λ (b : Bool). cut_as b l.port.own l.segments) kept

pub segments_kept : (l : LinkOf TrueSegments) → keeps_numbers l ≡ true → (f : TrueSegments) (w : WireSegments) → cut f ≡ w →
    cut_link With (with_segments f l) ≡ with_segments w (cut_link With l)
segments_kept l kept f w same =
    ap (λ (v : WireSegments). with_segments v (cut_link With l)) (ap (λ (b : Bool). cut_as b l.port.own f) kept ∙ same)

-- what is let go on both; a link without an own address has received nothing
pub let_same : (b c : Bool) (own : Option ℕ) (f : TrueSegments) → (b ≡ false → c ≡ false) → (own ≡ None → f.received ≡ []) →
    cut_as c own (lets_go true_segments b c f) ≡ lets_go wire_segments b c (cut_as b own f)
let_same true true own f more none = refl
let_same true false (Some own) f more none = refl
let_same true false None f more none =
    ap (λ (ps : List (Option Piece)). with_pieces_alone (take (in_whole_messages ps) ps))
    (sym (ap (drop f.passed) (none refl) ∙ drop_none f.passed))
let_same false false own f more none = refl
let_same false true own f more none = let m = more refl in absurd cc

-- ---- one link

module _ (l : LinkOf TrueSegments) where
  -- it keeps its numbers, live before and now
  pub live_changed : is_live l.port.phase ≡ true → (port : Port) (queue : LinkQueue) → is_live port.phase ≡ true →
      cut_link With (record l { port = port; queue = queue }) ≡ record (cut_link With l) { port = port; queue = queue }
  live_changed live port queue to =
      ap (λ (w : WireSegments). record (cut_link With l) { port = port; segments = w; queue = queue })
      (ap (λ (b : Bool). cut_as (b || has_waiting queue.waits queue.said) port.own l.segments) to
      ∙ sym (kept_segments l (or_left (is_live l.port.phase) (has_waiting l.queue.waits l.queue.said) live)))

  pub forgotten_late : is_live l.port.phase ≡ false → cut_link With (forgotten true_segments With l) ≡ forgotten wire_segments With (cut_link With l)
  forgotten_late dead =
      ap (λ (w : WireSegments). with_segments w (forgotten wire_segments With (cut_link With l)))
      (ap (λ (b : Bool). cut_as (b || false) None l.segments) dead)

  module _ (own : l.port.own ≡ None → l.segments.received ≡ []) where
    pub requeued_same : (waits : Option Phase) (said : Said) →
        (keeps_numbers l ≡ false → (is_live l.port.phase || has_waiting waits said) ≡ false) →
        cut_link With (requeued true_segments waits said l) ≡ requeued wire_segments waits said (cut_link With l)
    requeued_same waits said more =
        ap (λ (w : WireSegments). record (cut_link With l) { segments = w; queue = record l.queue { waits = waits; said = said } })
        (let_same (keeps_numbers l) (is_live l.port.phase || has_waiting waits said) l.port.own l.segments more own)

    pub ends_same : is_live l.port.phase ≡ true →
        cut_link With (ends_by_message true_segments With l) ≡ ends_by_message wire_segments With (cut_link With l)
    ends_same live =
        ap (λ (w : WireSegments). record (cut_link With l) {
          port = record l.port { phase = Ended };
          segments = w;
          queue = record l.queue { waits = Some l.port.phase };
        })
        (let_same (keeps_numbers l) (has_waiting (Some l.port.phase) l.queue.said) l.port.own l.segments
        (λ e. let k = or_left (is_live l.port.phase) (has_waiting l.queue.waits l.queue.said) live in absurd cc) own)

    pub drops_same : keeps_numbers l ≡ true → cut_link With (drops true_segments With l) ≡ drops wire_segments With (cut_link With l)
    drops_same kept =
        ap (λ (w : WireSegments). record (cut_link With l) {
          port = record l.port { phase = Ended };
          segments = w;
          queue = record l.queue { waits = call_of l.port.opened };
        })
        (go l.port.opened)
      where
        go : (opened : Bool) → cut_as (has_waiting (call_of opened) l.queue.said) l.port.own (drops_segments true_segments opened l.segments)
            ≡ drops_segments wire_segments opened (cut_link With l).segments
        go true = ap (λ (b : Bool). cut_as b l.port.own l.segments) (waits_before l.queue.said Called refl ∙ sym kept)
        go false = let_same true false l.port.own l.segments (λ e. absurd cc) own ∙ ap ends (sym (kept_segments l kept))

    -- what was sent goes on, and what waits does not
    pub shows_same : (said : Said) → cut_link With (shows true_segments said l) ≡ shows wire_segments said (cut_link With l)
    shows_same said = requeued_same l.queue.waits (further said l.queue.said)
        (λ e. go (is_live l.port.phase) l.queue.waits l.queue.said e)
      where
        go : (b : Bool) (waits : Option Phase) (before : Said) → (b || has_waiting waits before) ≡ false →
            (b || has_waiting waits (further said before)) ≡ false
        go true waits before e = absurd cc
        go false None before e = refl
        go false (Some phase) Nothing e = absurd cc
        go false (Some phase) OfRun e = absurd cc
        go false (Some phase) Disconnect e = over said
          where
            over : (x : Said) → has_waiting (Some phase) (further x Disconnect) ≡ false
            over Nothing = e
            over OfRun = e
            over Disconnect = e

    shows_by_same : (phase : Phase) → cut_link With (shows_by true_segments phase l) ≡ shows_by wire_segments phase (cut_link With l)
    shows_by_same Running = shows_same OfRun
    shows_by_same Disconnecting = shows_same Disconnect
    shows_by_same Calling = refl
    shows_by_same Called = refl
    shows_by_same Confirming = refl
    shows_by_same Ended = refl

    pub settled_same : cut_link With (settled true_segments l.queue.waits l) ≡ settled wire_segments l.queue.waits (cut_link With l)
    settled_same = go l.queue.waits refl
      where
        more : (waits : Option Phase) (b c : Bool) → (b || c) ≡ false → (b || false) ≡ false
        more waits true c e = absurd cc
        more waits false c e = refl

        go : (waits : Option Phase) → l.queue.waits ≡ waits →
            cut_link With (settled true_segments waits l) ≡ settled wire_segments waits (cut_link With l)
        go None e = shows_by_same l.port.phase
        go (Some phase) e = requeued_same None l.queue.said (λ k. more (Some phase) (is_live l.port.phase) (has_waiting l.queue.waits l.queue.said) k)

    -- a link in use goes to DI
    pub closes_late : is_live l.port.phase ≡ false → keeps_numbers l ≡ true →
        cut_link With (requeued true_segments (Some Disconnecting) l.queue.said l) ≡
        requeued wire_segments (Some Disconnecting) l.queue.said (cut_link With l)
    closes_late dead kept = requeued_same (Some Disconnecting) l.queue.said (λ e. absurd cc)

  -- live links go to a live phase
  pub goes_same : is_live l.port.phase ≡ true → (port : Port) (phase : Phase) → is_live phase ≡ true → (b : Bool) → b ≡ true →
      cut_link With (goes_on true_segments b phase (record l { port = port }))
      ≡ goes_on wire_segments b phase (record (cut_link With l) { port = port })
  goes_same live port phase to true e = live_changed live (record port { phase = phase }) (reached phase l.queue) to
  goes_same live port phase to false e = absurd cc
