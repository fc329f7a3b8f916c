-- What the user of an end of the player does with a link that has an address, and the timer of a link.
use Rattle.dna_play.proofs.Prelude.{◌≡◌, ℕ, true, Option, Some, None, List, length, Result, Err, arith, inl, refl, sym, ap, ◌∙◌, subst, le-leb}
use Rattle.dna_play.proofs.Prelude.{◌&&◌, nat_le, slice_get, and_parts, same_Some, IsLink, IsRecord, MAX_MESSAGE, User, LinkOf, changed, in_phase}
use Rattle.dna_play.proofs.Prelude.{with_segments, takes_messages, is_live, is_at, ended, TrueSegments, true_segments, Links, LiveAt, Phase}
use Rattle.dna_play.proofs.Prelude.{Disconnecting, Port, LinkOwed, DisconnectDuty, retried, with_duty, same_phase, unless_left, LinkEnd, StepValue}
use Rattle.dna_play.proofs.Prelude.{Close, Abort, Retry, IsOneOf, HasLink, BadStep, Stop, StoredStepped, at_is, IsFound, IfSome}
use Rattle.capture_record.specs.declared.event.Event.TheVariants as events
use Rattle.dna_links.specs.User as of_links
use Rattle.dna_play.specs.Script.{In}
use Rattle.dna_play.specs.StoredLinks as stored_link
use Rattle.dna_play.specs.StoredPlay as keeping
use Rattle.dna_play.proofs.{Played.Steps.Nothing, Links.Pays.end_of, Links.Pays.OwedFits, Ends.Stage.kept_stage, Ends.Stage.retried_fits}
use Rattle.dna_play.proofs.{Bytes.bytes_tested, Stored.Now.StoredNow}
use Rattle.dna_play.proofs.Links.Goes.{segments_go, handed_goes, connected_goes, ended_goes, stays_as_it_is}
use Rattle.dna_play.proofs.Links.Keeps.{At, is_kept, link_there, kept_there, kept_of, live_at_lives, look}
use Rattle.dna_play.proofs.Played.PlayLines.{bare_line}
use Rattle.dna_play.proofs.Links.Made.{in_goes, close_goes, abort_goes, live_found}
use Rattle.dna_play.proofs.Links.Owing.{still_same, still_fits, duty_fits, left_fits}
use Rattle.dna_play.proofs.Links.Phases.{Takes, Connected, Calls, Retried, calling_is, calls_when, takes_is, takes_when, connected_is, connected_when}
use Rattle.dna_play.proofs.Links.Phases.{retries_live, IsRetried, retried_is}
use Rattle.dna_play.proofs.Links.Stage.{set_holds, end_holds, owed_holds}
use Rattle.dna_play.proofs.Ends.TrueEnd.{stored, End, links_of}
use Rattle.dna_play.proofs.Stored.Made.{s, known, event_right}
use Rattle.dna_play.proofs.Played.PlayLines.{line_tested}
use Rattle.dna_play.proofs.Stored.Right.{IsAsked, IsRight, kept_right, never_full, so_right}

-- each of these phases is one of a link that lives
abbrev pub AreLive : List Phase → Type 0
AreLive phases = (phase : Phase) → IsOneOf phases phase → is_live phase ≡ true

module _ (own other : End) (now : StoredNow own other) where
  abbrev links : Links
  links = s own other now

  -- ---- a link with an address, in one of these phases

  module _ (step : StepValue) (address : ℕ) (phases : List Phase) (live : AreLive phases)
      (may : HasLink (stored own) address phases → IsAsked own other step)
      (asked : IsAsked own other step → HasLink (stored own) address phases) where
    has_link : (n place : ℕ) (l : LinkOf TrueSegments) (o : LinkOwed) → IsFound (LiveAt address) links n l →
        At l o n place links.links own.links.links → IsOneOf phases l.port.phase → HasLink (stored own) address phases
    has_link n place l o found at phase = record {
      place = place;
      link = end_of l o;
      there = kept_there at;
      owns = at_is l.port.own address (and_parts (is_live l.port.phase) (is_at l.port.own address) found.passed).1;
      phase = phase;
    }

    -- it is the one that the look-up finds
    found_live : HasLink (stored own) address phases →
        (n : ℕ) × (l : LinkOf TrueSegments) × IsFound (LiveAt address) links n l × IsOneOf phases l.port.phase
    found_live h =
        let of_it = kept_of h.place h.link now.stage.links.keeps h.there in
        let port = ap (λ (e : LinkEnd). e.port) of_it.is in
        let phase = subst (λ (p : Port). IsOneOf phases p.phase) (sym port) h.phase in (
          of_it.number,
          of_it.link,
          live_found links (links_of other.half).links own.addresses (known own other now).addressed address of_it.number
              of_it.link (link_there of_it.at) (ap (λ (p : Port). p.own) port ∙ h.owns) (live of_it.link.port.phase phase),
          phase,
        )

    -- there is only one
    its_phase : (n : ℕ) (l : LinkOf TrueSegments) → IsFound (LiveAt address) links n l → HasLink (stored own) address phases →
        IsOneOf phases l.port.phase
    its_phase n l found h =
        let f = found_live h in
        subst (λ (x : LinkOf TrueSegments). IsOneOf phases x.port.phase)
        (same_Some f.1 l (sym f.2.there ∙ ap (slice_get links.links) (same_Some f.0 n (sym f.2.found ∙ found.found)) ∙ found.there)) f.3

    -- what is made of the link by its phase is right where that is one of these, and where it is not
    link_right : (next : ℕ → LinkEnd → Result StoredStepped Stop) → ((n place : ℕ) (l : LinkOf TrueSegments) (o : LinkOwed) →
        IsFound (LiveAt address) links n l → At l o n place links.links own.links.links → (IsOneOf phases l.port.phase → IsAsked own other step) →
        (IsAsked own other step → IsOneOf phases l.port.phase) → IsRight own other step (next place (end_of l o))) →
        IsRight own other step (stored_link.with_end (LiveAt address) own.links (Err BadStep) next)
    link_right next some = look (LiveAt address) (live_at_lives address) (IsRight own other step) links own.links now.stage.links.keeps (Err BadStep)
        next (λ none asks. let f = found_live (asked asks) in let e = sym none ∙ f.2.found in cc) (λ n place l o found at.
        some n place l o found at (λ phase. may (has_link n place l o found at phase)) (λ asks. its_phase n l found (asked asks)))

  -- ---- a message is handed in

  pub in_right : (address : ℕ) (message : List ℕ) → IsRecord (User (events.In address message)) →
      IsRight own other (In address message) (keeping.hands_in (stored own) address message)
  in_right address message lined =
      link_right (In address message) address Takes (λ phase one. (takes_when phase one).1) (λ asks. asks) (λ asks. asks) _
      (λ n place l o found at may asked.
      so_right own other (In address message) (takes_messages l.port.phase && nat_le (length message) MAX_MESSAGE) _
      (λ asks. rw ((takes_when l.port.phase (asked asks)).0, le-leb (length message) MAX_MESSAGE lined.short) refl) (λ takes.
      let left = with_segments (true_segments.hands_in message l.segments) l in
      let go = segments_go own.addresses l _ (handed_goes l.segments message (bytes_tested message lined.spelling.bytes)) in
      let in_order = ((known own other now).numbers n l found.there).0 in
      let owes = subst (OwedFits left) (still_same l left o refl refl) (still_fits l left o in_order (go.moves in_order) (is_kept at).owes) in
      event_right own other now (In address message) (events.In address message) (of_links.In address message) own.addresses refl tt
      (changed n left links) (stored_link.changed place (stored_link.handed message (end_of l o)) own.links) (line_tested _ lined)
      (in_goes links address message n l found (and_parts _ _ takes).0) now.stage.few
      (set_holds links own.addresses own.links now.stage.links at left o own.addresses (omega arith) go (is_kept at).lives owes)
      (may (takes_is l.port.phase (and_parts _ _ takes).0)) (never_full own other (In address message) refl)))

  -- ---- it is closed

  pub close_right : (address : ℕ) → IsLink address → IsRight own other (Close address) (keeping.closes (stored own) address)
  close_right address linked =
      link_right (Close address) address Connected (λ phase one. (connected_when phase one).1) (λ asks. asks) (λ asks. asks) _
      (λ n place l o found at may asked.
      so_right own other (Close address) _ _ (λ asks. (connected_when l.port.phase (asked asks)).0) (λ connected.
      let left = in_phase Disconnecting l in
      let owed = unless_left (same_phase l.port.phase Disconnecting) o in
      event_right own other now (Close address) (events.Close address) (of_links.Close address) own.addresses refl tt (changed n left links)
      (stored_link.changed place (stored_link.closed (end_of l o)) own.links) (bare_line (events.Close address) linked refl)
      (close_goes links address n l found connected) now.stage.few
      (set_holds links own.addresses own.links now.stage.links at left (with_duty DisconnectDuty true owed) own.addresses (omega arith)
      (connected_goes own.addresses l Disconnecting l.segments refl (λ far. refl) connected (stays_as_it_is l.segments)) refl
      (duty_fits left owed DisconnectDuty refl (left_fits l left o ((known own other now).numbers n l found.there).0 refl (is_kept at).owes)))
      (may (connected_is l.port.phase connected)) (never_full own other (Close address) refl)))

  -- ---- its call is given up

  pub abort_right : (address : ℕ) → IsLink address → IsRight own other (Abort address) (keeping.aborts (stored own) address)
  abort_right address linked =
      link_right (Abort address) address Calls (λ phase one. (calls_when phase one).1) (λ asks. asks) (λ asks. asks) _
      (λ n place l o found at may asked.
      so_right own other (Abort address) _ _ (λ asks. (calls_when l.port.phase (asked asks)).0) (λ calling.
      let left = ended true_segments l in
      event_right own other now (Abort address) (events.Abort address) (of_links.Abort address) own.addresses refl tt (changed n left links)
      (stored_link.ended place own.links) (bare_line (events.Abort address) linked refl)
      (abort_goes links address n l found calling) now.stage.few
      (end_holds links own.addresses own.links now.stage.links at left (ended_goes own.addresses l) refl)
      (may (inl (calling_is l.port.phase calling))) (never_full own other (Abort address) refl)))

  -- ---- the timer of a link

  pub retry_right : (address : ℕ) → IsRight own other (Retry address) (keeping.retries (stored own) address)
  retry_right address = link_right (Retry address) address Retried retries_live (λ asks. asks) (λ asks. asks) _
      (λ n place l o found at may asked. go n place l o at may asked (retried l.port.phase)
      (retried_fits l o l.port.phase refl (is_kept at).owes) (retried_is l.port.phase))
    where
      go : (n place : ℕ) (l : LinkOf TrueSegments) (o : LinkOwed) → At l o n place links.links own.links.links →
          (IsOneOf Retried l.port.phase → IsAsked own other (Retry address)) → (IsAsked own other (Retry address) → IsOneOf Retried l.port.phase) →
          (change : Option (LinkOwed → LinkOwed)) → IfSome change (λ change. OwedFits l (change o)) → IsRetried l.port.phase change →
          IsRight own other (Retry address) (keeping.retrying (stored own) place (end_of l o) change)
      go n place l o at may asked None fits never = λ asks. never (asked asks)
      go n place l o at may asked (Some change) fits one =
          let kept = stored_link.changed place (end_of l (change o)) own.links in
          kept_right own other (Retry address) (record own { links = kept }) Nothing refl refl
          (kept_stage own now.stage kept (owed_holds links own.addresses own.links now.stage.links at (change o) fits))
          (may one) (never_full own other (Retry address) refl)
