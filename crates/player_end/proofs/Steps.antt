-- What a step of the user makes of an end that keeps all links that ever were.
use Rattle.std.proofs.Common.{◌≡◌, ℕ, ◌+◌, ◌<◌, ◌≤◌, Bool, true, ◌&&◌, cond, nat_le, Some, List, [], ◌++◌, length, Result, Ok, Err, refl, sym, subst}
use Rattle.std.proofs.Common.{ap, ap₂, ◌∙◌, lt-ltb, le-leb, le-ltb}
use Rattle.std.specs.Prelude.{slice_get}
use Rattle.std.proofs.lemmas.List.{append-nil}
use Rattle.capture_record.specs.declared.event.Event.{Event}
use Rattle.capture_record.specs.declared.event.Event.TheVariants as events
use Rattle.capture.specs.declared.hint.HintForm.TheVariants.{Number}
use Rattle.capture_record.specs.declared.record.Record.TheVariants.{User}
use Rattle.capture_record.specs.declared.limit.TheConstants.{MAX_LINK, MAX_MESSAGE}
use Rattle.capture.specs.Text.{record_line}
use Rattle.dna_station.specs.declared.head.Head.{Head}
use Rattle.dna_links.specs.declared.port.LinkTest.{LinkTest}
use Rattle.dna_links.specs.declared.port.LinkTest.TheVariants.{LiveAt, CalledBy}
use Rattle.dna_links.specs.LookUps.{is_calling, is_connected, takes_messages}
use Rattle.dna_play.specs.NextSent.{LinkEnd}
use Rattle.dna_play.specs.Stop.{Stop, BadStep, Full}
use Rattle.dna_play.specs.StoredEnd.{StoredStation, StoredLinks, StoredEnd}
use Rattle.dna_play.specs.StoredLinks.{changed, closed, ended, handed, place_of, with_end}
use Rattle.dna_play.specs.StoredPlay.{StoredStepped, aborts, answers, closes, giving, hands_in, if_so, made, with_links}
use Rattle.player_end.specs.inner.Index.{live_of, needs_life, place_among}
use Rattle.player_end.specs.inner.Sending.{end_with}
use Rattle.player_end.specs.Stepping.{with_lines}
use Rattle.player_end.proofs.Searching.{with_passed}

if_true : {b : Bool} (next : Result StoredStepped Stop) → b ≡ true → if_so b next ≡ next
if_true next h = ap (λ (b : Bool). if_so b next) h

-- an address is left
gives : (e : StoredEnd) (next : StoredEnd → (address : ℕ) → Result StoredStepped Stop) (address : ℕ) → address ≡ e.addresses + 1 →
    e.addresses < MAX_LINK → giving e next ≡ next (record e { addresses = address }) address
gives e next address is room =
    ap (λ (b : Bool). cond b (next (record e { addresses = e.addresses + 1 }) (e.addresses + 1)) (Err Full)) (lt-ltb e.addresses MAX_LINK room)
    ∙ ap (λ (a : ℕ). next (record e { addresses = a }) a) (sym is)

-- or none is
gives_none : (e : StoredEnd) (next : StoredEnd → (address : ℕ) → Result StoredStepped Stop) → MAX_LINK ≤ e.addresses → giving e next ≡ Err Full
gives_none e next full =
    ap (λ (b : Bool). cond b (next (record e { addresses = e.addresses + 1 }) (e.addresses + 1)) (Err Full)) (le-ltb e.addresses MAX_LINK full)

module _ (change : (address : ℕ) → LinkEnd → LinkEnd) (event : (address : ℕ) → Event) where
  -- the call of a link is answered
  abbrev answer : StoredEnd → ℕ → LinkEnd → StoredEnd → (address : ℕ) → Result StoredStepped Stop
  answer e place l x address = made (event address) (with_links (changed place (change address l) e.links) x)

  pub answer_full : (e : StoredEnd) (s : StoredLinks) → e.links ≡ live_of s → (partner n : ℕ) (link : LinkEnd) →
      place_of (CalledBy partner) s.links ≡ Some n → slice_get s.links n ≡ Some link →
      MAX_LINK ≤ e.addresses → answers e partner change event ≡ Err Full
  answer_full e s same partner n link found there full =
      ap (λ (links : StoredLinks). with_end (CalledBy partner) links (Err BadStep) (λ (p : ℕ) (l : LinkEnd). giving e (answer e p l))) same
      ∙ with_passed (CalledBy partner) s (Err BadStep) (λ (p : ℕ) (l : LinkEnd). giving e (answer e p l)) n link refl found there
      ∙ gives_none e (answer e (place_among n s.links) link) full

pub ruleset answered = (answer_full)

module _ {head : Head} {station : StoredStation} {addresses passed : ℕ} {end : StoredEnd} (s : StoredLinks)
    (shown : end_with head station s addresses passed ≡ end) where
  -- the first link that passes leaves these links, where it fits so; the event has a line, and so many addresses are given then
  abbrev Leaves : LinkTest → (Fits : LinkEnd → Type 0) → Event → ((place : ℕ) → LinkEnd → StoredLinks → StoredLinks) → (given : ℕ) →
      Result StoredStepped Stop → Type 0
  Leaves test Fits event left given step = (n : ℕ) (link : LinkEnd) → place_of test s.links ≡ Some n → slice_get s.links n ≡ Some link →
      Fits link → (after : StoredLinks) (text t : List ℕ) → live_of after ≡ left (place_among n s.links) link (live_of s) →
      t ≡ text ++ record_line Number (User event) → with_lines text step ≡ Ok (end_with head station after given passed, [], t)

  -- it changes so
  abbrev IsStep : LinkTest → (Fits : LinkEnd → Type 0) → Event → (LinkEnd → LinkEnd) → (given : ℕ) → Result StoredStepped Stop → Type 0
  IsStep test Fits event change given step = Leaves test Fits event (λ place link. changed place (change link)) given step

  leaves : (test : LinkTest) (Fits : LinkEnd → Type 0) (event : Event) (left : (place : ℕ) → LinkEnd → StoredLinks → StoredLinks) (given : ℕ)
      (next : StoredEnd → ℕ → LinkEnd → Result StoredStepped Stop) → needs_life test ≡ true →
      ((place : ℕ) (link : LinkEnd) → Fits link → next (end_with head station s addresses passed) place link
      ≡ made event (with_links (left place link (live_of s)) (end_with head station s given passed))) →
      Leaves test Fits event left given (with_end test end.links (Err BadStep) (next end))
  leaves test Fits event left given next needs makes n link found at fits after text t is line =
      ap (λ (e : StoredEnd). with_lines text (with_end test e.links (Err BadStep) (next e))) (sym shown)
      ∙ ap (with_lines text) (with_passed test s (Err BadStep) (next (end_with head station s addresses passed)) n link needs found at
      ∙ makes (place_among n s.links) link fits)
      ∙ ap₂ (λ (l : StoredLinks) (x : List ℕ). Ok (with_links l (end_with head station s given passed), [], x)) (sym is)
      (ap (λ (x : List ℕ). text ++ x) (append-nil (record_line Number (User event))) ∙ sym line)

  is_step : (test : LinkTest) (Fits : LinkEnd → Type 0) (event : Event) (change : LinkEnd → LinkEnd) (given : ℕ)
      (next : StoredEnd → ℕ → LinkEnd → Result StoredStepped Stop) → needs_life test ≡ true →
      ((place : ℕ) (link : LinkEnd) → Fits link → next (end_with head station s addresses passed) place link
      ≡ made event (with_links (changed place (change link) (live_of s)) (end_with head station s given passed))) →
      IsStep test Fits event change given (with_end test end.links (Err BadStep) (next end))
  is_step test Fits event change given next needs makes = leaves test Fits event (λ place link. changed place (change link)) given next needs makes

  pub aborts_lines : (own : ℕ) →
      Leaves (LiveAt own) (λ l. is_calling l.port.phase ≡ true) (events.Abort own) (λ place link. ended place) addresses (aborts end own)
  aborts_lines own = leaves (LiveAt own) (λ l. is_calling l.port.phase ≡ true) (events.Abort own) (λ place link. ended place) addresses
      (λ e place l. if_so (is_calling l.port.phase) (made (events.Abort own) (with_links (ended place e.links) e))) refl
      (λ place l h. if_true _ h)

  pub closes_lines : (own : ℕ) →
      IsStep (LiveAt own) (λ l. is_connected l.port.phase ≡ true) (events.Close own) closed addresses (closes end own)
  closes_lines own = is_step (LiveAt own) (λ l. is_connected l.port.phase ≡ true) (events.Close own) closed addresses
      (λ e place l. if_so (is_connected l.port.phase) (made (events.Close own) (with_links (changed place (closed l) e.links) e))) refl
      (λ place l h. if_true _ h)

  pub hands_lines : (own : ℕ) (message : List ℕ) → length message ≤ MAX_MESSAGE →
      IsStep (LiveAt own) (λ l. takes_messages l.port.phase ≡ true) (events.In own message) (handed message) addresses (hands_in end own message)
  hands_lines own message short = is_step (LiveAt own) (λ l. takes_messages l.port.phase ≡ true) (events.In own message) (handed message) addresses
      (λ e place l. if_so (takes_messages l.port.phase && nat_le (length message) MAX_MESSAGE)
      (made (events.In own message) (with_links (changed place (handed message l) e.links) e))) refl
      (λ place l h. if_true _ (ap₂ (λ (a b : Bool). a && b) h (le-leb (length message) MAX_MESSAGE short)))

  pub answers_lines : (partner : ℕ) (change : (address : ℕ) → LinkEnd → LinkEnd) (event : (address : ℕ) → Event) {address : ℕ} →
      address ≡ end.addresses + 1 → end.addresses < MAX_LINK →
      IsStep (CalledBy partner) (λ l. Unit {0}) (event address) (change address) address (answers end partner change event)
  answers_lines partner change event {address} next room = is_step (CalledBy partner) (λ l. Unit {0}) (event address) (change address) address
      (λ e place l. giving e (answer change event e place l)) refl
      (λ place l fits. gives (end_with head station s addresses passed)
      (answer change event (end_with head station s addresses passed) place l) address
      (next ∙ ap (λ (x : StoredEnd). x.addresses + 1) (sym shown)) (subst (λ (x : StoredEnd). x.addresses < MAX_LINK) (sym shown) room))
