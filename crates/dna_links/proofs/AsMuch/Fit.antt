-- Links with queues that go by their own phases, and are found as those without.
use Rattle.std.proofs.Common.{◌≡◌, ℕ, Bool, true, false, not, ◌&&◌, Option, Some, None, Result, Ok, Err, refl, sym, ap, ap₂, ◌∙◌, subst}
use Rattle.std.specs.Prelude.{slice_get}
use Rattle.dna_station.specs.declared.link_refusal.LinkRefusal.{LinkRefusal}
use Rattle.dna_links.specs.declared.port.Phase.{Phase}
use Rattle.dna_links.specs.declared.port.Phase.TheVariants.{Calling, Called, Confirming, Running, Disconnecting, Ended}
use Rattle.dna_links.specs.declared.port.LinkTest.{LinkTest}
use Rattle.dna_links.specs.declared.port.LinkTest.TheVariants.{HasAddress}
use Rattle.dna_links.specs.declared.queue.Queues.TheVariants.{With}
use Rattle.dna_links.specs.declared.queue.Said.{Said}
use Rattle.dna_links.specs.declared.queue.Said.TheVariants.{Nothing, OfRun, Disconnect}
use Rattle.dna_links.specs.declared.queue.LinkQueue.{LinkQueue}
use Rattle.dna_links.specs.LookUps.{passes, is_in, is_live}
use Rattle.dna_links.specs.SegmentBook.{SegmentBook}
use Rattle.dna_links.specs.Links.{LinkOf, LinksOf, check, number_of, begun, changed}
use Rattle.dna_links.specs.Queues.{is_silent, is_over, further, in_use, may_send, port_of_waiting, forgotten, freed, shows, shows_by, settled}
use Rattle.dna_links.specs.Sending.{Sent}
use Rattle.dna_links.proofs.Tables.Outcomes.{IsFound, looked}
use Rattle.dna_links.proofs.Runs.Sides.{all_set, all_pushed}
use Rattle.dna_links.proofs.AsMuch.Plain.{plain, plain_links, plain_sent, number_plain, plain_there}

-- ---- a link that goes by its own phase: nothing of it waits while it lives, and what it has sent is what its phase lets it

abbrev pub Fits : Phase → LinkQueue → Type 0
Fits Calling q = (q.waits ≡ None) × (is_silent q.said ≡ true)
Fits Called q = (q.waits ≡ None) × (is_silent q.said ≡ true)
Fits Confirming q = (q.waits ≡ None) × (q.accepted ≡ true) × (is_silent q.said ≡ true)
Fits Running q = (q.waits ≡ None) × (q.ran ≡ true) × (is_over q.said ≡ false)
Fits Disconnecting q = q.waits ≡ None
Fits Ended q = Unit {0}

pub live_waits : (phase : Phase) (q : LinkQueue) → Fits phase q → is_live phase ≡ true → q.waits ≡ None
live_waits Calling q fits live = fits.0
live_waits Called q fits live = fits.0
live_waits Confirming q fits live = fits.0
live_waits Running q fits live = fits.0
live_waits Disconnecting q fits live = fits
live_waits Ended q fits live = absurd cc

pub in_use_is : {D : Type 0} (l : LinkOf D) → Fits l.port.phase l.queue → is_live l.port.phase ≡ true → in_use With l ≡ l.port
in_use_is l fits live = ap (λ (w : Option Phase). port_of_waiting w l.port) (live_waits l.port.phase l.queue fits live)

pub silent_before : (said : Said) → is_silent said ≡ true → is_over said ≡ false
silent_before Nothing e = refl
silent_before OfRun e = absurd cc
silent_before Disconnect e = absurd cc

forgotten_fits : (phase : Phase) (q : LinkQueue) → Fits phase q → Fits phase (record q { waits = None })
forgotten_fits Calling q fits = (refl, fits.1)
forgotten_fits Called q fits = (refl, fits.1)
forgotten_fits Confirming q fits = (refl, fits.1, fits.2)
forgotten_fits Running q fits = (refl, fits.1, fits.2)
forgotten_fits Disconnecting q fits = refl
forgotten_fits Ended q fits = tt

-- in RUN, before a DI, a message of RUN changes nothing of that
pub running_shows : (q : LinkQueue) → Fits Running q → is_over (further OfRun q.said) ≡ false
running_shows q f = go q.said f.2
  where
    go : (said : Said) → is_over said ≡ false → is_over (further OfRun said) ≡ false
    go Nothing e = refl
    go OfRun e = refl
    go Disconnect e = absurd cc

pub of_phase : (wanted phase : Phase) → is_in wanted phase ≡ true → (q : LinkQueue) → Fits phase q → Fits wanted q
of_phase Calling Calling e q f = f
of_phase Called Called e q f = f
of_phase Confirming Confirming e q f = f
of_phase Running Running e q f = f
of_phase Disconnecting Disconnecting e q f = f
of_phase Ended Ended e q f = f
of_phase wanted phase e q f = absurd cc

pub to_phase : (wanted phase : Phase) → is_in wanted phase ≡ true → (q : LinkQueue) → Fits wanted q → Fits phase q
to_phase Calling Calling e q f = f
to_phase Called Called e q f = f
to_phase Confirming Confirming e q f = f
to_phase Running Running e q f = f
to_phase Disconnecting Disconnecting e q f = f
to_phase Ended Ended e q f = f
to_phase wanted phase e q f = absurd cc

pub passes_check : {R : Type 0} (b : Bool) (refusal : LinkRefusal) (next : Result R LinkRefusal) → b ≡ true → check b refusal next ≡ next
passes_check true refusal next e = refl
passes_check false refusal next e = absurd cc

-- ---- what is sent

module _ {D : Type 0} where
  -- a message of RUN, in RUN; a DI after `close` or `reject`
  pub run_may : (l : LinkOf D) → Fits Running l.queue → is_in Running l.port.phase ≡ true → may_send With Running l ≡ true
  run_may l f e = ap₂ (λ (b c : Bool). b && not c) f.1 f.2

  pub closing_may : (l : LinkOf D) → Fits Disconnecting l.queue → is_in Disconnecting l.port.phase ≡ true → may_send With Disconnecting l ≡ true
  closing_may l f e = ap (λ (w : Option Phase). is_in Disconnecting (port_of_waiting w l.port).phase) f ∙ e

module _ {D K : Type 0} (book : SegmentBook D K) where
  pub run_fits : (l : LinkOf D) → Fits Running l.queue → is_in Running l.port.phase ≡ true →
      Fits (shows book OfRun l).port.phase (shows book OfRun l).queue
  run_fits l f e = to_phase Running l.port.phase e (record l.queue { said = further OfRun l.queue.said }) (f.0, f.1, running_shows l.queue f)

  pub closing_fits : (l : LinkOf D) → Fits Disconnecting l.queue → is_in Disconnecting l.port.phase ≡ true →
      Fits (shows book Disconnect l).port.phase (shows book Disconnect l).queue
  closing_fits l f e = to_phase Disconnecting l.port.phase e (record l.queue { said = further Disconnect l.queue.said }) f

  -- what a DC settles fits as before
  pub settled_fits : (l : LinkOf D) → Fits l.port.phase l.queue →
      Fits (settled book l.queue.waits l).port.phase (settled book l.queue.waits l).queue
  settled_fits l f = go l.queue.waits refl
    where
      shown : (phase : Phase) → l.port.phase ≡ phase → Fits phase l.queue →
          Fits (shows_by book phase l).port.phase (shows_by book phase l).queue
      shown Running e f = run_fits l f (ap (is_in Running) e)
      shown Disconnecting e f = closing_fits l f (ap (is_in Disconnecting) e)
      shown Calling e f = subst (λ (p : Phase). Fits p l.queue) (sym e) f
      shown Called e f = subst (λ (p : Phase). Fits p l.queue) (sym e) f
      shown Confirming e f = subst (λ (p : Phase). Fits p l.queue) (sym e) f
      shown Ended e f = subst (λ (p : Phase). Fits p l.queue) (sym e) f

      dead : (phase : Phase) (before : Phase) → l.queue.waits ≡ Some before → Fits phase l.queue →
          Fits phase (record l.queue { waits = None; said = l.queue.said })
      dead Calling before e f = let x = sym e ∙ f.0 in absurd cc
      dead Called before e f = let x = sym e ∙ f.0 in absurd cc
      dead Confirming before e f = let x = sym e ∙ f.0 in absurd cc
      dead Running before e f = let x = sym e ∙ f.0 in absurd cc
      dead Disconnecting before e f = let x = sym e ∙ f in absurd cc
      dead Ended before e f = tt

      go : (waits : Option Phase) → l.queue.waits ≡ waits → Fits (settled book waits l).port.phase (settled book waits l).queue
      go None e = shown l.port.phase refl f
      go (Some before) e = dead l.port.phase before e f

-- ---- all links

abbrev pub FitsAt : {D : Type 0} → ℕ → LinkOf D → Type 0
FitsAt i l = Fits l.port.phase l.queue

abbrev pub AllFit : {D : Type 0} → LinksOf D → Type 0
AllFit {D} s = (i : ℕ) (l : LinkOf D) → slice_get s.links i ≡ Some l → Fits l.port.phase l.queue

module _ {D : Type 0} (s : LinksOf D) (fits : AllFit s) where
  pub set_fits : (number : ℕ) (left : LinkOf D) → Fits left.port.phase left.queue → AllFit (changed number left s)
  set_fits number left f = all_set FitsAt s.links number left f fits

  pub begun_fits : (left : LinkOf D) → Fits left.port.phase left.queue → AllFit (begun left s)
  begun_fits left f = all_pushed FitsAt s.links left f fits

module _ {D K : Type 0} (book : SegmentBook D K) (s : LinksOf D) where
  pub freed_fits : AllFit s → (own : ℕ) → AllFit (freed book With own s)
  freed_fits fits own =
      looked (HasAddress own) s s (λ n l. changed n (forgotten book With l) s) (freed book With own s) refl
      (λ none e. subst AllFit e fits)
      (λ number link found e. subst AllFit e (set_fits s fits number (forgotten book With link)
      (forgotten_fits link.port.phase link.queue (fits number link found.there))))

  -- the link with its queue that is found without it
  pub record IsThere (test : LinkTest) (number : ℕ) (link : LinkOf D) : Type 0 where
    pub m : LinkOf D
    pub found : number_of test s ≡ Some number
    pub at : slice_get s.links number ≡ Some m
    pub is : plain book m ≡ link
    pub passed : passes test m.port ≡ true

  pub there : (test : LinkTest) (number : ℕ) (link : LinkOf D) → IsFound test (plain_links book s) number link → IsThere test number link
  there test number link found =
      let t = plain_there book s number link found.there in
      record {
        m = t.m;
        found = sym (number_plain book test s) ∙ found.found;
        at = t.at;
        is = t.is;
        passed = ap (λ (x : LinkOf D). passes test x.port) t.is ∙ found.passed;
      }

  pub missing : (test : LinkTest) → number_of test (plain_links book s) ≡ None → number_of test s ≡ None
  missing test none = sym (number_plain book test s) ∙ none

-- ---- what becomes of all links

module _ {D K : Type 0} (book : SegmentBook D K) where
  -- links with queues are left, and these are they without
  pub record Follows (o : Result (LinksOf D) LinkRefusal) (left : LinksOf D) : Type 0 where
    pub links : LinksOf D
    pub does : o ≡ Ok links
    pub same : plain_links book links ≡ left
    pub fit : AllFit links

  pub record SentFollows (o : Result (Sent D K) LinkRefusal) (made : Sent D K) : Type 0 where
    pub sent : Sent D K
    pub does : o ≡ Ok sent
    pub same : plain_sent book sent ≡ made
    pub fit : AllFit sent.links

  -- what is done without queues is done with them
  abbrev pub AreDone : Result (LinksOf D) LinkRefusal → Result (LinksOf D) LinkRefusal → Type 0
  AreDone (Ok left) o = Follows o left
  AreDone (Err refusal) o = Unit {0}

  abbrev pub AreSent : Result (Sent D K) LinkRefusal → Result (Sent D K) LinkRefusal → Type 0
  AreSent (Ok made) o = SentFollows o made
  AreSent (Err refusal) o = Unit {0}
