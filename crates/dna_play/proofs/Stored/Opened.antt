-- A link that the user of an end of the player opens, or whose call it answers.
use Rattle.dna_play.proofs.Prelude.{◌≡◌, ℕ, ◌+◌, ◌<◌, Bool, true, ◌&&◌, eqb, Some, None, Ok, Err, refl, sym, ap, ap₂, ◌∙◌, arith, is_some}
use Rattle.dna_play.proofs.Prelude.{same_Some, and_parts, IsLink, Event, MAX_LINK, User, Without, LinkOf, number_of, changed, begun, passes}
use Rattle.dna_play.proofs.Prelude.{is_live, is_called, is_at, SEGSIZE, TrueSegments, true_segments, Links, links_user, LinkEventValue, CalledBy}
use Rattle.dna_play.proofs.Prelude.{Phase, Confirming, Disconnecting, link_event, has_line, LinkOwed, InitiateDuty, ConfirmDuty, DisconnectDuty}
use Rattle.dna_play.proofs.Prelude.{with_duty, Duty, nothing, same_phase, unless_left, LinkEnd, Accept, Reject, StepValue, IsCalled, gives_address}
use Rattle.dna_play.proofs.Prelude.{BadStep, at_is, IsFound, LinkList}
use Rattle.capture_record.specs.declared.event.Event.TheVariants as events
use Rattle.dna_links.specs.User as of_links
use Rattle.dna_links.specs.inner.Forms as forms
use Rattle.dna_play.specs.Script.{Open}
use Rattle.dna_play.specs.StoredLinks as stored_link
use Rattle.dna_play.specs.StoredPlay.{with_links}
use Rattle.dna_play.specs.StoredPlay as keeping
use Rattle.dna_play.proofs.{Links.Goes.answered_goes, Played.PlayLines.bare_line, Links.Phases.called_is, Links.Stage.push_holds}
use Rattle.dna_play.proofs.{Links.Stage.set_holds, Stored.Now.StoredNow}
use Rattle.dna_play.proofs.Links.Keeps.{At, is_kept, link_there, kept_there, kept_of, called_by_lives, look}
use Rattle.dna_play.proofs.Links.Made.{IsOfLinks, open_goes, answer_goes}
use Rattle.dna_play.proofs.Links.Owing.{duty_fits, nothing_fits, left_fits}
use Rattle.dna_play.proofs.Links.Pays.{end_of, is_there, some_found, fits_in, phase_of}
use Rattle.dna_play.proofs.Ends.TrueEnd.{stored, End, links_of}
use Rattle.dna_play.proofs.Stored.Made.{s, known, event_right}
use Rattle.dna_play.proofs.Stored.Right.{IsAsked, HasNoRoom, IsRight, giving_right}

module _ (own other : End) (now : StoredNow own other) where
  abbrev links : Links
  links = s own other now

  abbrev others : LinkList
  others = (links_of other.half).links

  abbrev next : ℕ
  next = own.addresses + 1

  next_address : own.addresses < MAX_LINK → IsLink (own.addresses + 1)
  next_address less = record { least = omega arith; most = omega arith }

  -- while an address is left
  not_full : (step : StepValue) → own.addresses < MAX_LINK → ¬ (HasNoRoom own other step)
  not_full step less full = let used = full.used in omega arith

  pub open_right : IsRight own other Open (keeping.opens (stored own))
  open_right = giving_right own other now Open _ refl tt (λ less.
      let left = forms.opened true_segments next in
      event_right own other now Open (events.Open next) (of_links.Open next) next refl tt (begun left links)
      (stored_link.begun (stored_link.opened next) own.links) (bare_line (events.Open next) (next_address less) refl)
      (open_goes links others own.addresses (known own other now).addressed next (omega arith)) (omega arith)
      (push_holds links own.addresses own.links now.stage.links left (with_duty InitiateDuty true nothing) next (omega arith) (record {
        lives = refl;
        fits = record { shape = refl; segments = record { unsent = tt; given = tt } };
        owes = duty_fits left nothing InitiateDuty refl (nothing_fits left);
      }) (λ confirm given e. let is = same_Some next confirm.src e in absurd (omega arith))) tt (not_full Open less))

  -- ---- a call is answered

  -- a call comes from this address just where a link is found
  called_from : (partner n place : ℕ) (l : LinkOf TrueSegments) (o : LinkOwed) → IsFound (CalledBy partner) links n l →
      At l o n place links.links own.links.links → IsCalled (stored own) partner
  called_from partner n place l o found at =
      let p = and_parts (is_called l.port.phase) (is_at l.port.far partner) found.passed in
      record {
        place = place;
        link = end_of l o;
        there = kept_there at;
        far = at_is l.port.far partner p.1;
        phase = called_is l.port.phase p.0;
      }

  nobody_calls : (partner : ℕ) → number_of (CalledBy partner) links ≡ None → IsCalled (stored own) partner → ⊥
  nobody_calls partner none asks =
      let of_it = kept_of asks.place asks.link now.stage.links.keeps asks.there in
      some_found links (CalledBy partner) of_it.number of_it.link (link_there of_it.at)
      (ap (λ (l : LinkEnd). passes (CalledBy partner) l.port) of_it.is
      ∙ ap₂ (λ (b c : Bool). b && c) (ap is_called asks.phase) (is_there asks.link.port.far partner asks.far))
      (λ number link found. let e = sym none ∙ found.found in cc)

  -- with this event, which leads to this phase, and makes the link owe this
  module _ (partner : ℕ) (step : StepValue) (event : ℕ → Event) (value : ℕ → LinkEventValue) (phase : Phase) (duty : Duty)
      (gives : gives_address step ≡ true) (may : IsCalled (stored own) partner → IsAsked own other step)
      (asked : IsAsked own other step → IsCalled (stored own) partner)
      (is : (address : ℕ) → link_event (event address) ≡ Some (value address)) (alone : (address : ℕ) → IsOfLinks (value address))
      (lives : is_live phase ≡ true) (of : phase ≡ phase_of duty)
      (shape : (l : LinkOf TrueSegments) →
      fits_in phase (forms.answered true_segments phase next l) ≡ (is_some l.port.far && eqb l.segsize SEGSIZE))
      (lined : IsLink next → has_line (User (event next)) ≡ true)
      (goes : (number : ℕ) (link : LinkOf TrueSegments) → IsFound (CalledBy partner) links number link → own.addresses < next →
      links_user Without links (value next) ≡ Ok (changed number (forms.answered true_segments phase next link) links)) where
    answer_right : IsRight own other step (keeping.answers (stored own) partner (stored_link.answered phase duty) event)
    answer_right = look (CalledBy partner) (called_by_lives partner) (IsRight own other step) links own.links now.stage.links.keeps (Err BadStep) _
        (λ none asks. nobody_calls partner none (asked asks)) (λ n place l o found at.
        let asks = may (called_from partner n place l o found at) in
        giving_right own other now step _ gives asks (λ less.
        let left = forms.answered true_segments phase next l in
        let owed = unless_left (same_phase l.port.phase phase) o in
        event_right own other now step (event next) (value next) next (is next) (alone next) (changed n left links)
        (stored_link.changed place (stored_link.answered phase duty next (end_of l o)) own.links)
        (lined (next_address less)) (goes n l found (omega arith)) (omega arith)
        (set_holds links own.addresses own.links now.stage.links at left (with_duty duty true owed) next (omega arith)
        (answered_goes own.addresses l phase next (shape l) (and_parts (is_called l.port.phase) (is_at l.port.far partner) found.passed).0
        (omega arith))
        lives (duty_fits left owed duty of
        (left_fits l left o ((known own other now).numbers n l found.there).0 refl (is_kept at).owes)))
        asks (not_full step less)))

  pub accept_right : (partner : ℕ) → IsLink partner → IsRight own other (Accept partner) (keeping.accepts (stored own) partner)
  accept_right partner far = answer_right partner (Accept partner) (events.Accept partner) (of_links.Accept partner) Confirming ConfirmDuty refl
      (λ asks. asks) (λ asks. asks) (λ address. refl) (λ address. tt) refl refl (λ l. refl)
      (λ near. bare_line (events.Accept partner next) (far, near) refl)
      (answer_goes links others own.addresses (known own other now).addressed Confirming partner next)

  pub reject_right : (partner : ℕ) → IsLink partner → IsRight own other (Reject partner) (keeping.rejects (stored own) partner)
  reject_right partner far = answer_right partner (Reject partner) (events.Reject partner) (of_links.Reject partner) Disconnecting DisconnectDuty refl
      (λ asks. asks) (λ asks. asks) (λ address. refl) (λ address. tt) refl refl (λ l. refl)
      (λ near. bare_line (events.Reject partner next) (far, near) refl)
      (answer_goes links others own.addresses (known own other now).addressed Disconnecting partner next)
