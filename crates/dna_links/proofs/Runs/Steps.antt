-- A packet that is kept leaves both sides' links sound; so does every step, and so they are in every run.
use Rattle.std.proofs.Common.{◌≡◌, ℕ, ◌+◌, ◌<◌, ◌≤◌, true, inl, Option, Some, None, List, [], ◌++◌, length, fold}
use Rattle.std.proofs.Common.{refl, sym, ap, ◌∙◌, subst, arith, append-nil}
use Rattle.std.specs.Prelude.{slice_get}
use Rattle.std.proofs.lemmas.Bool.{and_parts}
use Rattle.std.proofs.lemmas.Option.{slice_get_within}
use Rattle.dna_links.specs.Queues.{ended}
use Rattle.dna_links.specs.declared.port.Phase.TheVariants.{Running, Ended}
use Rattle.dna_links.specs.declared.queue.Queues.{Queues}
use Rattle.dna_links.specs.LookUps.{is_calling, is_at}
use Rattle.dna_links.specs.Segmentation.{Piece, in_order}
use Rattle.dna_links.specs.Links.{LinkOf, begun, changed, in_phase, with_segments}
use Rattle.dna_links.specs.User.{LinkEventValue}
use Rattle.dna_links.specs.Arriving.{of_partner}
use Rattle.dna_links.specs.inner.Forms.{called, confirmed}
use Rattle.dna_links.specs.TrueSegments.{TrueSegments, acknowledged_through, true_segments}
use Rattle.dna_links.specs.TrueSegments as segments
use Rattle.dna_links.specs.TrueLinks.{Links}
use Rattle.dna_links.specs.Runs.{SentMessage, LinkSide, LinkWorld, keeps, Reached, Start, ByA, ByB, new_side}
use Rattle.dna_links.specs.Delivery.{HeldFrom}
use Rattle.two_nodes.proofs.NumberedSteps.{present_further, present_new, none_numbered}
use Rattle.dna_links.proofs.Tables.MessageOutcomes.{ArrivedDid, Ignores, Begins, Confirms, Ends, TakesSegment, TakesAcks, TakesOther}
use Rattle.dna_links.proofs.Runs.Loose.{LooseStep, ByUser, Sends, SendsNone, Composes}
use Rattle.dna_links.proofs.Runs.Loose.{Keeps, Passes, LooselyReached, OfA, OfB}
use Rattle.dna_links.proofs.Runs.Loose as loose
use Rattle.dna_links.proofs.Tables.Words.{limits}
use Rattle.dna_links.proofs.Runs.Ends.{nobody, numbers_of, view, Grows, IsTold, IsSoundEnd, end_port, end_further}
use Rattle.dna_links.proofs.Runs.Takes.{of_pair_is, acknowledges, end_acks, end_segment}
use Rattle.dna_links.proofs.Runs.Sides.{all_set, all_pushed, grows_same, grows_set, grows_pushed, IsSoundSide, side_grown}
use Rattle.dna_links.proofs.Runs.Sides.{side_changed, end_new}
use Rattle.dna_links.proofs.Runs.SideUser.{user_sound}
use Rattle.dna_links.proofs.Runs.SideSends.{StaySound, none_sent, message_sent, message_composed}

-- ---- a packet is kept

module _ (own other : LinkSide) (h : IsSoundSide own other) (theirs : IsSoundSide other own) (k : ℕ) (ahead : own.front ≤ k)
    (less : k < length other.sent) where
  pub none_kept : IsSoundSide (keeps own own.links k) other
  none_kept = record {
    met = omega arith;
    messages = h.messages;
    nobody = present_further view limits own.sent other.sent own.front (k + 1) nobody h.nobody (omega arith);
    told = h.told;
    ends = λ i l at. end_further own.sent other.sent own.front other.links.links i l (h.ends i l at) (k + 1) (omega arith);
  }

  after_keeping : (links : Links) → Grows own.links.links links.links →
      ((i : ℕ) (l : LinkOf TrueSegments) → slice_get links.links i ≡ Some l → IsSoundEnd own.sent other.sent (k + 1) other.links.links i l) →
      StaySound (keeps own links k) other
  after_keeping links grows ends =
      record {
        side = side_changed (keeps own own.links k) other links grows none_kept ends;
        beside =
            side_grown other own links (k + 1) grows theirs;
      }

  pub nothing_kept : StaySound (keeps own own.links k) other
  nothing_kept = after_keeping own.links (grows_same own.links.links) none_kept.ends

module _ (own other : LinkSide) (h : IsSoundSide own other) (theirs : IsSoundSide other own) (k : ℕ) (u : SentMessage) (ahead : own.front ≤ k)
    (there : slice_get other.sent k ≡ Some (Some u)) where
  within : k < length other.sent
  within = slice_get_within other.sent k (Some u) there

  told : IsTold other.links.links u
  told = theirs.told k u there

  now : (number : ℕ) (link : LinkOf TrueSegments) → slice_get own.links.links number ≡ Some link →
      IsSoundEnd own.sent other.sent (k + 1) other.links.links number link
  now number link at = (none_kept own other h theirs k ahead within).ends number link at

  -- a link changes, and gives no segment
  one_kept : (number : ℕ) (link left : LinkOf TrueSegments) → slice_get own.links.links number ≡ Some link →
      left.segments.given ≡ link.segments.given →
      IsSoundEnd own.sent other.sent (k + 1) other.links.links number left → StaySound (keeps own (changed number left own.links) k) other
  one_kept number link left at given e =
      after_keeping own other h theirs k ahead within (changed number left own.links)
      (grows_set own.links.links own.links.links number link left [] (grows_same own.links.links) at (given ∙ sym (append-nil link.segments.given)))
      (all_set (λ (i : ℕ) (l : LinkOf TrueSegments). IsSoundEnd own.sent other.sent (k + 1) other.links.links i l) own.links.links number left e now)

  -- the sender is there
  sender_there : (o : Option ℕ) → u.truth.tag.link ≡ o → HeldFrom o [] other.links.links
  sender_there None e = refl
  sender_there (Some n) e = let t = told.sender n e in (t.0, t.1, λ m p at. absurd cc)

  confirmed_sound : (far segsize number : ℕ) (link : LinkOf TrueSegments) → slice_get own.links.links number ≡ Some link →
      is_calling link.port.phase ≡ true →
      IsSoundEnd own.sent other.sent (k + 1) other.links.links number (confirmed true_segments of_partner far segsize u.truth.tag link)
  confirmed_sound far segsize number link at calling =
      let e = now number link at in
      let none : link.partner ≡ None = e.calling calling in
      let received : link.segments.received ≡ [] = subst (λ (p : Option ℕ). HeldFrom p link.segments.received other.links.links) none e.held in
      let acknowledged : link.segments.acknowledged ≡ 0 = e.none none in
      record {
        segments = e.segments;
        present = present_new view limits own.sent other.sent (k + 1)
            (numbers_of number (confirmed true_segments of_partner far segsize u.truth.tag link)) (ap in_order received) acknowledged e.present.few
            (λ i m at same. let p = e.present.up_to i m at same in record { given = p.given; received = p.received; last = p.last });
        came = inl (ap length received);
        calling = λ c. absurd cc;
        held = subst (λ (x : List (Option Piece)). HeldFrom u.truth.tag.link x other.links.links) (sym received) (sender_there u.truth.tag.link refl);
        none = λ p. acknowledged;
      }

  pub message_kept : (left : Links) → ArrivedDid true_segments of_partner own.links u.packet.message u.truth left → StaySound (keeps own left k) other
  message_kept left Ignores = nothing_kept own other h theirs k ahead within
  message_kept left (Begins far segsize is none) =
      let l = called true_segments of_partner far segsize u.truth.tag in
      after_keeping own other h theirs k ahead within (begun l own.links)
      (grows_pushed own.links.links own.links.links l (grows_same own.links.links))
      (all_pushed (λ (i : ℕ) (l : LinkOf TrueSegments). IsSoundEnd own.sent other.sent (k + 1) other.links.links i l) own.links.links l
      (end_new (keeps own own.links k) other (none_kept own other h theirs k ahead within) (length own.links.links) l (omega arith) refl
      (λ c. absurd cc) (sender_there u.truth.tag.link refl)) now)
  message_kept left (Confirms address far segsize number link is found for) =
      one_kept number link (confirmed true_segments of_partner far segsize u.truth.tag link) found.there refl
      (confirmed_sound far segsize number link found.there (and_parts (is_calling link.port.phase) (is_at link.port.own address) found.passed).0)
  message_kept left (Ends test number link found) =
      one_kept number link (ended true_segments link) found.there refl
      (end_port own.sent other.sent (k + 1) other.links.links number link (record link.port { phase = Ended }) (λ c. absurd cc)
      (now number link found.there))
  message_kept left (TakesSegment address far segment number link is found pair) =
      let p = of_pair_is number link.partner u.truth.tag pair in
      let e = h.ends number link found.there in
      let a = acknowledges own.sent other.sent own.front other.links.links number link e theirs.messages k u there ahead told p in
      one_kept number link (with_segments (segments.takes_segment segment u.truth.known link.segments) (in_phase Running link)) found.there
      (ap (λ (f : TrueSegments). f.given) a.is)
      (end_segment own.sent other.sent own.front other.links.links number link e theirs.messages k u there ahead told p segment
      (told.segment segment is) (fold acknowledged_through link.segments u.truth.known.acknowledgements)
      (ap (λ (f : TrueSegments). f.received) a.is) (ap (λ (f : TrueSegments). f.last) a.is)
      (end_acks own.sent other.sent own.front other.links.links number link e theirs.messages k u there ahead told p))
  message_kept left (TakesAcks address far dst src acks number link is found pair) =
      let p = of_pair_is number link.partner u.truth.tag pair in
      let e = h.ends number link found.there in
      let a = acknowledges own.sent other.sent own.front other.links.links number link e theirs.messages k u there ahead told p in
      one_kept number link (with_segments (segments.takes_acks acks u.truth.known link.segments) (in_phase Running link)) found.there
      (ap (λ (f : TrueSegments). f.given) a.is)
      (end_acks own.sent other.sent own.front other.links.links number link e theirs.messages k u there ahead told p)
  message_kept left (TakesOther address far number link found pair) =
      one_kept number link (in_phase Running link) found.there refl
      (end_port own.sent other.sent (k + 1) other.links.links number link (record link.port { phase = Running }) (λ c. absurd cc)
      (now number link found.there))

-- ---- every step, and all that steps lead to

pub step_sound : (own other left : LinkSide) (events : List LinkEventValue) → IsSoundSide own other → IsSoundSide other own →
    LooseStep own other events left → StaySound left other
step_sound own other left events h theirs (ByUser event links does) =
    let l = user_sound own other h event links does in
    record { side = l.side; beside = side_grown other own links own.front l.grows theirs }
step_sound own other left events h theirs (Sends packet made does) =
    message_sent own other h theirs packet made does
step_sound own other left events h theirs SendsNone = none_sent own other h theirs
step_sound own other left events h theirs (Keeps place unit links ahead there does) =
    message_kept own other h theirs place unit ahead there links does
step_sound own other left events h theirs (Composes packet made does) = message_composed own other h theirs packet made does
step_sound own other left events h theirs (Passes place ahead less) = nothing_kept own other h theirs place ahead less

pub record BothLinksSound (w : LinkWorld) : Type 0 where
  pub of_a : IsSoundSide w.a w.b
  pub of_b : IsSoundSide w.b w.a

pub new_sound : (node_a peer_a node_b peer_b : ℕ) → IsSoundSide (new_side node_a peer_a) (new_side node_b peer_b)
new_sound node_a peer_a node_b peer_b = record {
  met = omega arith;
  messages = none_numbered view limits [];
  nobody = present_new view limits [] [] 0 nobody refl refl (omega arith) (λ i m at same. absurd cc);
  told = λ k u at. absurd cc;
  ends = λ i l at. absurd cc;
}

-- What holds of each side beside the other, with the events of its user
module _ (holds : (own other : LinkSide) → List LinkEventValue → Type 0) where
  pub record OfSides (w : LinkWorld) (events further : List LinkEventValue) : Type 0 where
    pub of_a : holds w.a w.b events
    pub of_b : holds w.b w.a further

  -- of the side that makes a step, and of the side beside it
  abbrev pub IsKeptByStep : Type 0
  IsKeptByStep = (own other left : LinkSide) (events further made : List LinkEventValue) → holds own other events → holds other own further →
      LooseStep own other made left → holds left other (events ++ made) × holds other left further

  pub of_reached : IsKeptByStep → {start w : LinkWorld} {of_a of_b : List LinkEventValue} → OfSides start [] [] → LooselyReached start w of_a of_b →
      OfSides w of_a of_b
  of_reached keeps first loose.Begins = first
  of_reached keeps first (OfA {w = v} {of_a = xs} {of_b = ys} {events = made} {left = left} r step) =
      let s = of_reached keeps first r in let t = keeps v.a v.b left xs ys made s.of_a s.of_b step in record { of_a = t.0; of_b = t.1 }
  of_reached keeps first (OfB {w = v} {of_a = xs} {of_b = ys} {events = made} {left = left} r step) =
      let s = of_reached keeps first r in let t = keeps v.b v.a left ys xs made s.of_b s.of_a step in record { of_a = t.1; of_b = t.0 }

abbrev pub exchanged_links : LinkWorld → LinkWorld
exchanged_links w = record { a = w.b; b = w.a }

-- it does not matter which side is a
pub reached_exchanged : {queues : Queues} {start w : LinkWorld} {of_a of_b : List LinkEventValue} → Reached queues start w of_a of_b →
    Reached queues (exchanged_links start) (exchanged_links w) of_b of_a
reached_exchanged Start = Start
reached_exchanged (ByA r step) = ByB (reached_exchanged r) step
reached_exchanged (ByB r step) = ByA (reached_exchanged r) step
