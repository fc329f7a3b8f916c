-- What links with queues come to: the same, once what the queues leave open is put aside.
use Rattle.std.proofs.Common.{◌≡◌, ℕ, Bool, true, false, Option, Some, None, List, Result, Ok, Err, refl}
use Rattle.std.proofs.Common.{sym, ap, ap₂, ◌∙◌, subst}
use Rattle.std.specs.Prelude.{slice_get}
use Rattle.std.proofs.lemmas.Bool.{and_parts}
use Rattle.dna_packet.specs.Nsp.{NspValue, DataSegment, LinkService, DataAck, OtherDataAck, ConnectAck, NoOperation, ConnectInitiate}
use Rattle.dna_packet.specs.Nsp.{ConnectConfirm, DisconnectInitiate, DisconnectConfirm}
use Rattle.dna_station.specs.declared.link_refusal.LinkRefusal.{LinkRefusal}
use Rattle.dna_station.specs.declared.link_refusal.LinkRefusal.TheVariants.{NoLink, LinkState, AddressInUse, CrossedLink}
use Rattle.dna_links.specs.declared.port.Phase.{Phase}
use Rattle.dna_links.specs.declared.port.Phase.TheVariants.{Confirming, Running, Disconnecting}
use Rattle.dna_links.specs.declared.port.LinkTest.TheVariants.{HasAddress, LiveAt, TheLink, LiveTo, CallingAt, CalledBy, ActedOn}
use Rattle.dna_links.specs.declared.queue.Queues.TheVariants.{Without, With}
use Rattle.dna_links.specs.LookUps.{is_live, is_called, is_calling, is_connected, takes_messages, is_at, has_both}
use Rattle.dna_links.specs.Links.{LinkOf, Carried, LinkTruth, with_link, begun, changed}
use Rattle.dna_links.specs.Links.{with_segments, check}
use Rattle.dna_links.specs.Queues.{in_use, goes_on, ends_by_message, drops}
use Rattle.dna_links.specs.Queues.{freed}
use Rattle.dna_links.specs.User.{LinkEventValue, Open, Accept, Reject, In, Up, Close, Abort, Boot}
use Rattle.dna_links.specs.inner.Forms.{opened, answered, delivered, called, confirmed, running}
use Rattle.dna_links.specs.Arriving.{PartnerRule, of_partner, is_for, is_of_pair, message_arrived}
use Rattle.dna_links.specs.TrueSegments.{TrueSegments, Numbers, hands_in, delivers, true_segments}
use Rattle.dna_links.specs.TrueSegments as segments
use Rattle.dna_links.specs.TrueLinks.{Links, links_user, links_arrived}
use Rattle.dna_links.specs.Runs.{LinkSide, LinkWorld, LinkStep, Reached, Start, ByA, ByB}
use Rattle.dna_links.specs.Runs as runs
use Rattle.dna_links.specs.Alike.{bare, bare_links, bare_side, bare_world}
use Rattle.dna_links.proofs.Tables.Outcomes.{IsFound, looked, checked}
use Rattle.dna_links.proofs.Tables.MessageOutcomes.{ArrivedDid, Ignores}
use Rattle.dna_links.proofs.Tables.MessageOutcomes.{Begins, Confirms, Ends, TakesSegment, TakesAcks, TakesOther}
use Rattle.dna_links.proofs.Cut.User.{live_if}
use Rattle.dna_links.proofs.Runs.Loose.{UserDid, Opens, Accepts, Rejects, HandsIn, Delivers, Closes, ClosesLate, Aborts, Boots}
use Rattle.dna_links.proofs.Runs.Loose.{LooseStep, LooselyReached, OfA, OfB}
use Rattle.dna_links.proofs.Runs.Loose as loose
use Rattle.dna_links.proofs.Runs.Bare.{bare_sent, bare_at, changed_bare, begun_bare, same_bare, found_bare, none_bare, ends_bare, goes_live}
use Rattle.dna_links.proofs.Runs.Bare.{goes_late, freed_bare, booted_bare, changed_dropped, used, in_use_at, same_Ok}
use Rattle.dna_links.proofs.Runs.LateSending.{sent_late}

-- ---- the user

module _ (s left : Links) where
  user_is : (event : LinkEventValue) (next next' : Links) → UserDid (bare_links s) event next' → bare_links next ≡ next' →
      ◌≡◌ {A = Result Links LinkRefusal} (Ok next) (Ok left) → UserDid (bare_links s) event (bare_links left)
  user_is event next next' d same e =
      subst (λ (x : Links). UserDid (bare_links s) event (bare_links x)) (same_Ok next left e)
      (subst (λ (x : Links). UserDid (bare_links s) event x) (sym same) d)

  answered_bare : (phase : Phase) (far own number : ℕ) (link : LinkOf TrueSegments) → IsFound (CalledBy far) s number link →
      bare_links (changed number (goes_on true_segments (is_live link.port.phase) phase (record link { port = record link.port { own = Some own } }))
      (freed true_segments With own s))
      ≡ changed number (answered true_segments phase own (bare link)) (freed true_segments Without own (bare_links s))
  answered_bare phase far own number link found =
      let live = live_if is_called refl link.port.phase (and_parts (is_called link.port.phase) (is_at link.port.far far) found.passed).0 in
      changed_bare number (goes_on true_segments (is_live link.port.phase) phase (record link { port = record link.port { own = Some own } }))
      (freed true_segments With own s)
      ∙ ap₂ (λ (x : LinkOf TrueSegments) (all : Links). changed number x all)
      (goes_live (is_live link.port.phase) phase (record link { port = record link.port { own = Some own } }) live) (freed_bare own s)

  pub user_late : (event : LinkEventValue) → links_user With s event ≡ Ok left → UserDid (bare_links s) event (bare_links left)
  user_late (Open own) e =
      looked (LiveAt own) s (Ok (begun (opened true_segments own) (freed true_segments With own s))) (λ n l. Err AddressInUse) (Ok left) e
      (λ none e. user_is (Open own) _ _ (Opens own (none_bare (LiveAt own) s none))
      (begun_bare (opened true_segments own) (freed true_segments With own s)
      ∙ ap (begun (opened true_segments own)) (freed_bare own s)) e)
      (λ number link found e. absurd cc)
  user_late (Accept far own) e =
      looked (CalledBy far) s (Err NoLink) _ (Ok left) e (λ none e. absurd cc)
      (λ number link found e. looked (LiveAt own) s _ (λ n l. Err AddressInUse) (Ok left) e
      (λ free e. user_is (Accept far own) _ _ (Accepts far own number (bare link) (found_bare (CalledBy far) s number link found)
      (none_bare (LiveAt own) s free)) (answered_bare Confirming far own number link found) e)
      (λ n l found e. absurd cc))
  user_late (Reject far own) e =
      looked (CalledBy far) s (Err NoLink) _ (Ok left) e (λ none e. absurd cc)
      (λ number link found e. looked (LiveAt own) s _ (λ n l. Err AddressInUse) (Ok left) e
      (λ free e. user_is (Reject far own) _ _ (Rejects far own number (bare link) (found_bare (CalledBy far) s number link found)
      (none_bare (LiveAt own) s free)) (answered_bare Disconnecting far own number link found) e)
      (λ n l found e. absurd cc))
  user_late (In own message) e =
      used (LiveAt own) s (Err NoLink) _ (Ok left) e (λ e. absurd cc)
      (λ number link there passed e. let c = checked (takes_messages (in_use With link).phase) _ _ left e in
      user_is (In own message) _ _ (HandsIn own message number (bare link) (bare_at s number link there) (in_use_at own link passed))
      (changed_bare number (with_segments (hands_in message link.segments) link) s) c.1)
  user_late (Up own message) e =
      looked (HasAddress own) s (Err NoLink) _ (Ok left) e (λ none e. absurd cc)
      (λ number link found e. go number link found (delivers message link.segments) refl e)
    where
      go : (number : ℕ) (link : LinkOf TrueSegments) → IsFound (HasAddress own) s number link → (o : Option TrueSegments) →
          delivers message link.segments ≡ o → delivered true_segments number link s o ≡ Ok left →
          UserDid (bare_links s) (Up own message) (bare_links left)
      go number link found None does e = absurd cc
      go number link found (Some f) does e =
          user_is (Up own message) _ _ (Delivers own message number (bare link) f (found_bare (HasAddress own) s number link found) does)
          (changed_bare number (with_segments f link) s) e
  user_late (Close own) e =
      used (LiveAt own) s (Err NoLink) _ (Ok left) e (λ e. absurd cc)
      (λ number link there passed e. let c = checked (is_connected (in_use With link).phase) _ _ left e in
      go number link there (is_live link.port.phase) refl c.1)
    where
      go : (number : ℕ) (link : LinkOf TrueSegments) → slice_get s.links number ≡ Some link → (b : Bool) → is_live link.port.phase ≡ b →
          ◌≡◌ {A = Result Links LinkRefusal} (Ok (changed number (goes_on true_segments (is_live link.port.phase) Disconnecting link) s)) (Ok left) →
          UserDid (bare_links s) (Close own) (bare_links left)
      go number link there true live e =
          user_is (Close own) _ _ (Closes own number (bare link) (bare_at s number link there) live)
          (changed_bare number (goes_on true_segments (is_live link.port.phase) Disconnecting link) s
          ∙ ap (λ (x : LinkOf TrueSegments). changed number x (bare_links s)) (goes_live (is_live link.port.phase) Disconnecting link live)) e
      go number link there false live e =
          user_is (Close own) _ _ (ClosesLate own)
          (same_bare number link (goes_on true_segments (is_live link.port.phase) Disconnecting link) s there
          (goes_late (is_live link.port.phase) Disconnecting link live)) e
  user_late (Abort own) e =
      used (LiveAt own) s (Err NoLink) _ (Ok left) e (λ e. absurd cc)
      (λ number link there passed e. let c = checked (is_calling (in_use With link).phase) _ _ left e in
      user_is (Abort own) _ _ (Aborts own number (bare link) (bare_at s number link there))
      (changed_dropped number link s) c.1)
  user_late Boot e = user_is Boot _ _ Boots (booted_bare s) e

-- ---- a message that comes

module _ (rule : PartnerRule) (s left : Links) (truth : LinkTruth Numbers) where
  came_is : (m : NspValue) (next next' : Links) → ArrivedDid true_segments rule (bare_links s) m truth next' → bare_links next ≡ next' →
      ◌≡◌ {A = Result Links LinkRefusal} (Ok next) (Ok left) → ArrivedDid true_segments rule (bare_links s) m truth (bare_links left)
  came_is m next next' d same e =
      subst (λ (x : Links). ArrivedDid true_segments rule (bare_links s) m truth (bare_links x)) (same_Ok next left e)
      (subst (λ (x : Links). ArrivedDid true_segments rule (bare_links s) m truth x) (sym same) d)

  one_bare : (number : ℕ) (link link' : LinkOf TrueSegments) → bare link ≡ link' →
      bare_links (changed number link s) ≡ changed number link' (bare_links s)
  one_bare number link link' same = changed_bare number link s ∙ ap (λ (x : LinkOf TrueSegments). changed number x (bare_links s)) same

  ends_late : (m : NspValue) (own far : ℕ) →
      with_link {R = Result Links LinkRefusal} (TheLink own far) s
      (with_link {R = Result Links LinkRefusal} (CallingAt own) s (Ok s) (λ n l. Ok (changed n (ends_by_message true_segments With l) s)))
      (λ n l. Ok (changed n (ends_by_message true_segments With l) s)) ≡ Ok left →
      ArrivedDid true_segments rule (bare_links s) m truth (bare_links left)
  ends_late m own far e =
      looked (TheLink own far) s _ _ (Ok left) e
      (λ missing e. looked (CallingAt own) s (Ok s) _ (Ok left) e
      (λ missing e. came_is m s (bare_links s) Ignores refl e)
      (λ number link found e. came_is m _ _ (Ends (CallingAt own) number (bare link) (found_bare (CallingAt own) s number link found))
      (one_bare number _ _ (ends_bare link)) e))
      (λ number link found e. came_is m _ _ (Ends (TheLink own far) number (bare link) (found_bare (TheLink own far) s number link found))
      (one_bare number _ _ (ends_bare link)) e)

  -- a link that is acted on
  acts_late : (m : NspValue) (own far : ℕ) (takes : TrueSegments → TrueSegments) →
      ((number : ℕ) (link : LinkOf TrueSegments) → IsFound (ActedOn own far) (bare_links s) number (bare link) →
      rule (is_of_pair number link.partner truth.tag) ≡ true →
      ArrivedDid true_segments rule (bare_links s) m truth
      (changed number (running true_segments rule (λ l. takes l.segments) (bare link)) (bare_links s))) →
      with_link {R = Result Links LinkRefusal} (ActedOn own far) s (Ok s)
      (λ number link. check (rule (is_of_pair number link.partner truth.tag)) CrossedLink
      (Ok (changed number (with_segments (takes (goes_on true_segments (is_live link.port.phase) Running link).segments)
      (goes_on true_segments (is_live link.port.phase) Running link)) s))) ≡ Ok left →
      ArrivedDid true_segments rule (bare_links s) m truth (bare_links left)
  acts_late m own far takes d e =
      looked (ActedOn own far) s (Ok s) _ (Ok left) e (λ missing e. came_is m s (bare_links s) Ignores refl e)
      (λ number link found e. let c = checked (rule (is_of_pair number link.partner truth.tag)) CrossedLink _ left e in
      came_is m _ _ (d number link (found_bare (ActedOn own far) s number link found) c.0)
      (one_bare number _ _ (go link (is_live link.port.phase)
      (live_if is_connected refl link.port.phase (and_parts (is_connected link.port.phase) (has_both link.port own far) found.passed).0))) c.1)
    where
      go : (link : LinkOf TrueSegments) (b : Bool) → b ≡ true →
          bare (with_segments (takes (goes_on true_segments b Running link).segments) (goes_on true_segments b Running link)) ≡
          running true_segments rule (λ l. takes l.segments) (bare link)
      go link true e = refl
      go link false e = absurd cc

  came_late : (m : NspValue) → message_arrived With true_segments rule s m truth ≡ Ok left →
      ArrivedDid true_segments rule (bare_links s) m truth (bare_links left)
  came_late (ConnectInitiate retransmitted src services info segsize user_data) e =
      looked (LiveTo src) s (Ok (begun (called true_segments rule src segsize truth.tag) s)) (λ n l. Ok s) (Ok left) e
      (λ none e. came_is _ _ _ (Begins src segsize (refl, refl) (none_bare (LiveTo src) s none))
      (begun_bare (called true_segments rule src segsize truth.tag) s) e)
      (λ number link found e. came_is _ s (bare_links s) Ignores refl e)
  came_late (ConnectAck dst) e = came_is _ s (bare_links s) Ignores refl e
  came_late (NoOperation rest) e = came_is _ s (bare_links s) Ignores refl e
  came_late (ConnectConfirm dst src services info segsize user_data) e =
      looked (CallingAt dst) s (Ok s) _ (Ok left) e (λ none e. came_is _ s (bare_links s) Ignores refl e)
      (λ number link found e. let c = checked (rule (is_for number truth.tag)) CrossedLink _ left e in
      came_is _ _ _ (Confirms dst src segsize number (bare link) (refl, refl) (found_bare (CallingAt dst) s number link found) c.0)
      (one_bare number _ _ (go link (is_live link.port.phase)
      (live_if is_calling refl link.port.phase (and_parts (is_calling link.port.phase) (is_at link.port.own dst) found.passed).0))) c.1)
    where
      go : (link : LinkOf TrueSegments) (b : Bool) → b ≡ true →
          bare (goes_on true_segments b Running
          (record link { port = record link.port { far = Some src }; partner = truth.tag.link; segsize = segsize }))
          ≡ confirmed true_segments rule src segsize truth.tag (bare link)
      go link true e = refl
      go link false e = absurd cc
  came_late (DisconnectInitiate dst src reason user_data) e = ends_late _ dst src e
  came_late (DisconnectConfirm dst src reason) e = ends_late _ dst src e
  came_late (DataSegment segment) e =
      acts_late (DataSegment segment) segment.dstaddr segment.srcaddr (segments.takes_segment segment truth.known)
      (λ number link found of_pair. TakesSegment segment.dstaddr segment.srcaddr segment number (bare link) refl found of_pair) e
  came_late (DataAck dst src acks) e =
      acts_late (DataAck dst src acks) dst src (segments.takes_acks acks truth.known)
      (λ number link found of_pair. TakesAcks dst src dst src acks number (bare link) refl found of_pair) e
  came_late (LinkService interrupt dst src rest) e =
      acts_late _ dst src (λ f. f) (λ number link found of_pair. TakesOther dst src number (bare link) found of_pair) e
  came_late (OtherDataAck dst src rest) e =
      acts_late _ dst src (λ f. f) (λ number link found of_pair. TakesOther dst src number (bare link) found of_pair) e

  pub arrived_late : (packet : Carried) → links_arrived With rule s packet truth ≡ Ok left →
      ArrivedDid true_segments rule (bare_links s) packet.message truth (bare_links left)
  arrived_late packet e = came_late packet.message (checked _ _ _ left e).1

-- ---- every step, and all that steps lead to

step_late : (own other left : LinkSide) (events : List LinkEventValue) → LinkStep With own other events left →
    LooseStep (bare_side own) (bare_side other) events (bare_side left)
step_late own other left events (runs.ByUser event links does) =
    loose.ByUser event (bare_links links) (user_late own.links links event does)
step_late own other left events (runs.Sends packet made does) = loose.Sends packet (bare_sent made) (sent_late own.links made packet does)
step_late own other left events runs.SendsNone = loose.SendsNone
step_late own other left events (runs.Keeps place unit links ahead there does) =
    loose.Keeps place unit (bare_links links) ahead there (arrived_late of_partner own.links links unit.truth unit.packet does)
step_late own other left events (runs.Composes packet made does) = loose.Composes packet (bare_sent made) (sent_late own.links made packet does)
step_late own other left events (runs.Passes place ahead less) = loose.Passes place ahead less

pub with_loose : {start w : LinkWorld} {of_a of_b : List LinkEventValue} → Reached With start w of_a of_b →
    LooselyReached (bare_world start) (bare_world w) of_a of_b
with_loose Start = loose.Begins
with_loose (ByA {w = v} {events = made} {left = left} r step) = OfA (with_loose r) (step_late v.a v.b left made step)
with_loose (ByB {w = v} {events = made} {left = left} r step) = OfB (with_loose r) (step_late v.b v.a left made step)
