-- A link gets its far address by a CI or a CC that passed, and tells by its phase which; one that a CI began gets into RUN by a message of RUN that
-- passed; its own address is not 0; what becomes of that by each effect of a row.
use Rattle.accusing_links.proofs.Prelude.{◌≡◌, ℕ, Bool, true, false, ◌||◌, Some, List, fold, refl, sym, subst, Phase, Calling, Called, Confirming}
use Rattle.accusing_links.proofs.Prelude.{Running, Disconnecting, Ended, Port, LinkQueue, Queues, Without, With, is_live, is_in, LinkOf, LinkTruth}
use Rattle.accusing_links.proofs.Prelude.{reached, goes_on, goes_to, ends_by_message, drops, forgotten, Effect, OpenHere, GiveAddress, Connect}
use Rattle.accusing_links.proofs.Prelude.{GoTo, End, Drop, EndAll, Say, Settle, Keep, HandIn, TakeSegment, TakeAcks, WireSegments, wire_segments}
use Rattle.accusing_links.proofs.Prelude.{blank, does, CI, CC, RUN}
use Rattle.accusing_links.proofs.{Named.IsAddress, Each.Each, Each.each_more, Rows.all_done, RightLinks.Numbers}

-- a link in this phase was opened here, or begun by a CI
abbrev pub Begun : Phase → Bool → Type 0
Begun Calling opened = opened ≡ true
Begun Called opened = opened ≡ false
Begun Confirming opened = opened ≡ false
Begun phase opened = Unit {0}

-- it is in RUN, or was
abbrev pub has_run : Phase → Bool → Bool
has_run phase ran = is_in Running phase || ran

-- `P` tells of the CIs, CCs and messages of RUN that passed
pub record IsTied (P : Numbers) (port : Port) (accepted ran : Bool) : Type 0 where
  pub by_call : port.opened ≡ false → (far : ℕ) → port.far ≡ Some far → P CI 0 far
  pub by_answer : port.opened ≡ true → (own far : ℕ) → port.own ≡ Some own → port.far ≡ Some far → P CC own far
  pub begun : Begun port.phase port.opened
  pub on_accept : accepted ≡ true → port.opened ≡ false
  pub not_yet : is_in Called port.phase ≡ true → ran ≡ false
  pub by_run : port.opened ≡ false → has_run port.phase ran ≡ true → (own far : ℕ) → port.own ≡ Some own → port.far ≡ Some far → P RUN own far
  pub address : (own : ℕ) → port.own ≡ Some own → IsAddress own

pub or_ran : (phase : Phase) (ran : Bool) → ran ≡ true → has_run phase ran ≡ true
or_ran phase ran e = go (is_in Running phase)
  where
    go : (b : Bool) → (b || ran) ≡ true
    go true = refl
    go false = e

-- a phase that is neither RUN nor the one of a link that a CI just began
abbrev pub is_plain : Phase → Bool
is_plain Called = false
is_plain Running = false
is_plain phase = true

plain_ran : (phase : Phase) (ran : Bool) → is_plain phase ≡ true → has_run phase ran ≡ true → ran ≡ true
plain_ran Calling ran plain e = e
plain_ran Confirming ran plain e = e
plain_ran Disconnecting ran plain e = e
plain_ran Ended ran plain e = e
plain_ran Called ran plain e = absurd cc
plain_ran Running ran plain e = absurd cc

plain_called : {X : Type 0} (phase : Phase) → is_plain phase ≡ true → is_in Called phase ≡ true → X
plain_called Calling plain e = absurd cc
plain_called Confirming plain e = absurd cc
plain_called Disconnecting plain e = absurd cc
plain_called Ended plain e = absurd cc
plain_called Called plain e = absurd cc
plain_called Running plain e = absurd cc

module _ (P : Numbers) (queues : Queues) where
  abbrev pub Is : LinkOf WireSegments → Type 0
  Is l = IsTied P l.port l.queue.accepted l.queue.ran

  -- a link that begins by a CI, or is opened here
  pub blank_tied : Is (blank queues wire_segments)
  blank_tied = record {
    by_call = λ e far f. absurd cc;
    by_answer = λ e own far f g. absurd cc;
    begun = refl;
    on_accept = λ e. refl;
    not_yet = λ e. refl;
    by_run = λ e r own far f g. absurd cc;
    address = λ own e. absurd cc;
  }

  -- ---- phases

  reached_tied : (phase : Phase) (queue : LinkQueue) (opened : Bool) → Begun phase opened → (queue.accepted ≡ true → opened ≡ false) →
      (reached phase queue).accepted ≡ true → opened ≡ false
  reached_tied Confirming queue opened begun was e = begun
  reached_tied Running queue opened begun was e = was e
  reached_tied phase queue opened begun was e = was e

  reached_ran : (phase : Phase) (queue : LinkQueue) → is_plain phase ≡ true → has_run phase (reached phase queue).ran ≡ true → queue.ran ≡ true
  reached_ran Calling queue plain e = e
  reached_ran Confirming queue plain e = e
  reached_ran Disconnecting queue plain e = e
  reached_ran Ended queue plain e = e
  reached_ran Called queue plain e = absurd cc
  reached_ran Running queue plain e = absurd cc

  -- to a phase that is not RUN
  pub goes_tied : (q : Queues) (phase : Phase) (l : LinkOf WireSegments) → is_plain phase ≡ true → Begun phase l.port.opened → Is l →
      Is (goes_to wire_segments q phase l)
  goes_tied Without phase l plain begun is = record {
    by_call = is.by_call;
    by_answer = is.by_answer;
    begun = begun;
    on_accept = is.on_accept;
    not_yet = λ e. plain_called phase plain e;
    by_run = λ e r. is.by_run e (or_ran l.port.phase l.queue.ran (plain_ran phase l.queue.ran plain r));
    address = is.address;
  }
  goes_tied With phase l plain begun is = go (is_live l.port.phase)
    where
      go : (b : Bool) → Is (goes_on wire_segments b phase l)
      go true = record {
        by_call = is.by_call;
        by_answer = is.by_answer;
        begun = begun;
        on_accept = reached_tied phase l.queue l.port.opened begun is.on_accept;
        not_yet = λ e. plain_called phase plain e;
        by_run = λ e r. is.by_run e (or_ran l.port.phase l.queue.ran (reached_ran phase l.queue plain r));
        address = is.address;
      }
      go false = record {
        by_call = is.by_call;
        by_answer = is.by_answer;
        begun = is.begun;
        on_accept = is.on_accept;
        not_yet = is.not_yet;
        by_run = is.by_run;
        address = is.address;
      }

  -- a message of RUN passed for the addresses of this link, if it was not opened here
  abbrev pub RunPassed : Port → Type 0
  RunPassed port = port.opened ≡ false → (own far : ℕ) → port.own ≡ Some own → port.far ≡ Some far → P RUN own far

  pub runs_tied : (q : Queues) (l : LinkOf WireSegments) → RunPassed l.port → Is l → Is (goes_to wire_segments q Running l)
  runs_tied Without l came is = record {
    by_call = is.by_call;
    by_answer = is.by_answer;
    begun = tt;
    on_accept = is.on_accept;
    not_yet = λ e. absurd cc;
    by_run = λ e r. came e;
    address = is.address;
  }
  runs_tied With l came is = go (is_live l.port.phase)
    where
      go : (b : Bool) → Is (goes_on wire_segments b Running l)
      go true = record {
        by_call = is.by_call;
        by_answer = is.by_answer;
        begun = tt;
        on_accept = is.on_accept;
        not_yet = λ e. absurd cc;
        by_run = λ e r. came e;
        address = is.address;
      }
      go false = record {
        by_call = is.by_call;
        by_answer = is.by_answer;
        begun = is.begun;
        on_accept = is.on_accept;
        not_yet = is.not_yet;
        by_run = is.by_run;
        address = is.address;
      }

  -- a link that is over
  over_tied : (l after : LinkOf WireSegments) → after.port ≡ record l.port { phase = Ended } → after.queue.accepted ≡ l.queue.accepted →
      after.queue.ran ≡ l.queue.ran → Is l → Is after
  over_tied l after port accepted ran is =
      subst (λ (x : Port). IsTied P x after.queue.accepted after.queue.ran) (sym port)
      (subst (λ (x : Bool). IsTied P (record l.port { phase = Ended }) x after.queue.ran) (sym accepted)
      (subst (λ (x : Bool). IsTied P (record l.port { phase = Ended }) l.queue.accepted x) (sym ran)
      (record {
        by_call = is.by_call;
        by_answer = is.by_answer;
        begun = tt;
        on_accept = is.on_accept;
        not_yet = λ e. absurd cc;
        by_run = λ e r. is.by_run e (or_ran l.port.phase l.queue.ran r);
        address = is.address;
      })))

  ended_tied : (q : Queues) (l : LinkOf WireSegments) → Is l → Is (ends_by_message wire_segments q l)
  ended_tied Without l is = over_tied l (ends_by_message wire_segments Without l) refl refl refl is
  ended_tied With l is = over_tied l (ends_by_message wire_segments With l) refl refl refl is

  pub dropped_tied : (q : Queues) (l : LinkOf WireSegments) → Is l → Is (drops wire_segments q l)
  dropped_tied Without l is = over_tied l (drops wire_segments Without l) refl refl refl is
  dropped_tied With l is = over_tied l (drops wire_segments With l) refl refl refl is

  -- an address that is given again
  pub forgotten_tied : (q : Queues) (l : LinkOf WireSegments) → Is l → Is (forgotten wire_segments q l)
  forgotten_tied Without l is = record {
    by_call = is.by_call;
    by_answer = λ e own far f g. absurd cc;
    begun = is.begun;
    on_accept = is.on_accept;
    not_yet = is.not_yet;
    by_run = λ e r own far f g. absurd cc;
    address = λ own e. absurd cc;
  }
  forgotten_tied With l is = record {
    by_call = is.by_call;
    by_answer = λ e own far f g. absurd cc;
    begun = is.begun;
    on_accept = is.on_accept;
    not_yet = is.not_yet;
    by_run = λ e r own far f g. absurd cc;
    address = λ own e. absurd cc;
  }

  -- ---- effects

  -- by which effects it stays so, whatever it is
  abbrev pub IsCalm : Effect → Type 0
  IsCalm (GoTo phase) = (is_plain phase ≡ true) × ((opened : Bool) → Begun phase opened)
  IsCalm OpenHere = ⊥
  IsCalm (GiveAddress own) = ⊥
  IsCalm (Connect far segsize) = ⊥
  IsCalm effect = Unit {0}

  abbrev pub AreCalm : List Effect → Type 0
  AreCalm effects = Each IsCalm effects

  pub does_tied : (truth : LinkTruth (Unit {0})) (l : LinkOf WireSegments) (effect : Effect) → IsCalm effect → Is l →
      Is (does queues wire_segments truth l effect)
  does_tied truth l (GoTo phase) calm is = goes_tied queues phase l calm.0 (calm.1 l.port.opened) is
  does_tied truth l End calm is = ended_tied queues l is
  does_tied truth l Drop calm is = dropped_tied queues l is
  does_tied truth l EndAll calm is = is
  does_tied truth l (Say said) calm is = is
  does_tied truth l (Settle own) calm is = is
  does_tied truth l Keep calm is = is
  does_tied truth l (HandIn message) calm is = is
  does_tied truth l (TakeSegment segment) calm is = is
  does_tied truth l (TakeAcks acks) calm is = is
  does_tied truth l OpenHere calm is = absurd calm
  does_tied truth l (GiveAddress own) calm is = absurd calm
  does_tied truth l (Connect far segsize) calm is = absurd calm

  pub all_tied : (truth : LinkTruth (Unit {0})) (l : LinkOf WireSegments) (effects : List Effect) → AreCalm effects → Is l →
      Is (fold (does queues wire_segments truth) l effects)
  all_tied truth l effects calm is = all_done queues truth IsCalm Is (does_tied truth) l effects calm is

  -- ---- all links of a node

  abbrev pub AreTied : List (LinkOf WireSegments) → Type 0
  AreTied links = Each Is links

-- where more passed
module _ (P R : Numbers) (queues : Queues) (more : (msgflg own far : ℕ) → P msgflg own far → R msgflg own far) where
  pub tied_more : (links : List (LinkOf WireSegments)) → AreTied P queues links → AreTied R queues links
  tied_more = each_more (Is P queues) (Is R queues) (λ l is. record {
    by_call = λ e far f. more CI 0 far (is.by_call e far f);
    by_answer = λ e own far f g. more CC own far (is.by_answer e own far f g);
    begun = is.begun;
    on_accept = is.on_accept;
    not_yet = is.not_yet;
    by_run = λ e r own far f g. more RUN own far (is.by_run e r own far f g);
    address = is.address;
  })
