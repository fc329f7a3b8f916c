-- What holds of both sides' links in every run: the bounds, the order, and what the captures tell of it.
use Rattle.std.proofs.Common.{◌≡◌, ℕ, zero, suc, ◌+◌, ◌<◌, ◌≤◌, Bool, true, false, ◌&&◌, nat_lt, nat_le, max, cond, ◌⊎◌, inl, inr, Option, Some, None}
use Rattle.std.proofs.Common.{List, [], ◌∷◌, ◌++◌, length, map, refl, sym, ap, ap₂, ◌∙◌, subst, arith, append-nil, ltb-true, ltb-false, leb-false}
use Rattle.std.specs.Prelude.{slice_get}
use Rattle.std.specs.List.{AllByRecursion}
use Rattle.std.proofs.lemmas.Bool.{and_parts, and_cases}
use Rattle.std.proofs.lemmas.Option.{same_Some}
use Rattle.dna_packet.specs.declared.ack_word.AckWord.{AckWord}
use Rattle.dna_packet.specs.AckWord.{IsAckWord}
use Rattle.dna_packet.specs.Nsp.{NspValue, DataSegment, DataAck, IsInRange}
use Rattle.two_nodes.specs.Beginning.{BeginsWith}
use Rattle.dna_links.specs.Segmentation.{Piece, in_order}
use Rattle.dna_links.specs.SegmentBook.{wire, is_of_data}
use Rattle.dna_links.specs.Links.{LinkOf}
use Rattle.dna_links.specs.User.{LinkEventValue}
use Rattle.dna_links.specs.Arriving.{of_partner, is_of_pair}
use Rattle.dna_links.specs.TrueSegments.{TrueSegments, highest_given, highest_received, true_segments}
use Rattle.dna_links.specs.CutSegments.{IsOrdered, IsAnswered, data_numbers, Spells, AcksAreNear}
use Rattle.dna_links.specs.CutLinks.{ComesNear, IsActedOn}
use Rattle.dna_links.specs.Runs.{SentMessage, LinkSide, LinkWorld, Reached, new_side, new_world}
use Rattle.dna_links.proofs.Runs.Loose.{LooseStep, ByUser, Sends, SendsNone, Composes, Keeps, Passes, LooselyReached, without_loose}
use Rattle.dna_links.specs.declared.queue.Queues.TheVariants.{Without}
use Rattle.dna_links.specs.Bounds.{AreLinksBounded, AreCutInStep}
use Rattle.dna_links.specs.Delivery.{whole, HeldFrom, UpFrom, DeliversLinks}
use Rattle.dna_links.specs.Captures.{given_address, delivered_up, behind, IsReadFrom, IsRead, AreRead, BeginsAt, BeginsFor, AreUpFrom, deliveries}
use Rattle.dna_links.specs.Captures.{ups}
use Rattle.two_nodes.proofs.Numbered.{AcksFrom, NumberNear}
use Rattle.dna_links.proofs.Cut.User.{user_same}
use Rattle.dna_links.proofs.Cut.Sending.{sent_same}
use Rattle.dna_links.proofs.Cut.Arriving.{arrived_same}
use Rattle.dna_links.proofs.Tables.Words.{limits, AreWords}
use Rattle.dna_links.proofs.Runs.Pieces.{IsPassed, passed_begins}
use Rattle.dna_links.proofs.Runs.Sends.{number_in, AreSoundSegments, within_all}
use Rattle.dna_links.proofs.Runs.Takes.{of_pair_is, end_near}
use Rattle.dna_links.proofs.Runs.Sides.{IsSoundSide}
use Rattle.dna_links.proofs.Runs.Steps.{BothLinksSound, OfSides, IsKeptByStep, of_reached, step_sound, new_sound}
use Rattle.dna_links.proofs.Runs.Owners.{AreOwned, owned_read, none_owned, sent_owned, arrived_owned}
use Rattle.dna_links.proofs.Runs.ReadSteps.{user_owned}
use Rattle.dna_links.proofs.Runs.Counts.{user_count, sent_count, arrived_count, ups_more}

-- ---- the bounds

first_in_order : (first : List Piece) (rest : List (Option Piece)) → length first ≤ in_order (map Some first ++ rest)
first_in_order [] rest = omega arith
first_in_order (p ∷ first) rest = let l = first_in_order first rest in omega arith

segments_ordered : (f : TrueSegments) → AreSoundSegments f → IsOrdered f
segments_ordered f s = record {
  given = s.acknowledged;
  few = s.few;
  last = s.last;
  passed = let p = s.passed in let many = p.many in let l = first_in_order p.first p.rest in let e = ap in_order p.are in omega arith;
}

segments_answered : (f : TrueSegments) → AreSoundSegments f → IsAnswered f
segments_answered f s = let r = s.recent in let w = within_all f.received in omega arith

words_spelled : (words : List AckWord) (numbers : List ℕ) → AllByRecursion IsAckWord words → AreWords words numbers → Spells words numbers
words_spelled [] numbers small are = sym (ap (map wire) are)
words_spelled (word ∷ words) numbers small are = go (λ n a. words_spelled words n small.1 a) are
  where
    go : ((n : List ℕ) → AreWords words n → Spells words n) →
        (((is_of_data word.qualifier ≡ false) × AreWords words numbers) ⊎
        ((is_of_data word.qualifier ≡ true) × (first : ℕ) × (later : List ℕ) × (numbers ≡ first ∷ later) ×
        (word.number < 4096 → wire first ≡ word.number) × AreWords words later)) →
        cond (is_of_data word.qualifier) (word.number ∷ data_numbers words) (data_numbers words) ≡ map wire numbers
    go later (inl e) = ap (λ (b : Bool). cond b (word.number ∷ data_numbers words) (data_numbers words)) e.0 ∙ later numbers e.1
    go later (inr e) =
        ap (λ (b : Bool). cond b (word.number ∷ data_numbers words) (data_numbers words)) e.0
        ∙ ap₂ (λ (x : ℕ) (y : List ℕ). x ∷ y) (sym (e.4 small.0)) (later e.2 e.5) ∙ sym (ap (map wire) e.3)

acks_near : (acks : List ℕ) (f : TrueSegments) → AcksFrom limits f.acknowledged (highest_given f) acks → AcksAreNear f acks
acks_near [] f fits = tt
acks_near (ack ∷ acks) f fits =
    (record { least = fits.0; most = fits.1 }, go (nat_lt f.acknowledged ack && nat_le ack (highest_given f)) refl (λ g. acks_near acks g))
  where
    go : (b : Bool) → (nat_lt f.acknowledged ack && nat_le ack (highest_given f)) ≡ b →
        ((g : TrueSegments) → AcksFrom limits g.acknowledged (highest_given g) acks → AcksAreNear g acks) →
        AcksAreNear (cond b (record f { acknowledged = ack }) f) acks
    go true e later =
        let low : f.acknowledged < ack = ltb-true _ _ (and_parts (nat_lt f.acknowledged ack) (nat_le ack (highest_given f)) e).0 in
        let same : max f.acknowledged ack ≡ ack = omega arith in
        later (record f { acknowledged = ack }) (subst (λ (n : ℕ). AcksFrom limits n (highest_given f) acks) same fits.2)
    go false e later = later f
        (subst (λ (n : ℕ). AcksFrom limits n (highest_given f) acks) (same (and_cases (nat_lt f.acknowledged ack) (nat_le ack (highest_given f)) e))
        fits.2)
      where
        same : (nat_lt f.acknowledged ack ≡ false) ⊎ (nat_le ack (highest_given f) ≡ false) → max f.acknowledged ack ≡ f.acknowledged
        same (inl x) = let l : ack ≤ f.acknowledged = ltb-false _ _ x in omega arith
        same (inr x) = let l : highest_given f < ack = leb-false _ _ x in let m = fits.1 in absurd (omega arith)

segment_near : (n received : ℕ) → 1 ≤ n → NumberNear limits (number_in n) received → (received ≤ n + 2047) × (n ≤ received + 2047)
segment_near zero received some near = absurd (omega arith)
segment_near (suc n) received some near = let a = near.0 in let b = near.1 in (omega arith, omega arith)

module _ (own other : LinkSide) (h : IsSoundSide own other) (theirs : IsSoundSide other own) where
  comes_near : (place : ℕ) (u : SentMessage) → own.front ≤ place → slice_get other.sent place ≡ Some (Some u) → (m : NspValue) →
      u.packet.message ≡ m → IsInRange m → (number : ℕ) (l : LinkOf TrueSegments) → slice_get own.links.links number ≡ Some l →
      IsActedOn m l.port → is_of_pair number l.partner u.truth.tag ≡ true → ComesNear l.segments m u.truth.known
  comes_near place u ahead there (DataSegment s) is small number l at acted pair =
      let p = of_pair_is number l.partner u.truth.tag pair in
      let told = theirs.told place u there in
      let t = told.segment s is in
      let n = end_near own.sent other.sent own.front other.links.links number l (h.ends number l at) theirs.messages place u there ahead told p in
      let near = segment_near u.truth.known.segment (highest_received l.segments) t.is_true.some n.number in (
        words_spelled s.acks u.truth.known.acknowledgements small.0 t.is_true.words,
        sym (t.is_true.spelled small.1),
        acks_near u.truth.known.acknowledgements l.segments n.acks,
        record { first = t.is_true.some; least = near.0; most = near.1 },
      )
  comes_near place u ahead there (DataAck dst src acks) is small number l at acted pair =
      let p = of_pair_is number l.partner u.truth.tag pair in
      let told = theirs.told place u there in
      let n = end_near own.sent other.sent own.front other.links.links number l (h.ends number l at) theirs.messages place u there ahead told p in (
        words_spelled acks u.truth.known.acknowledgements small.0 (told.words dst src acks is),
        acks_near u.truth.known.acknowledgements l.segments n.acks,
      )
  comes_near place u ahead there m is small number l at acted pair = tt

  side_bounded : (events : List LinkEventValue) → AreOwned events own.links.links → AreLinksBounded own other
  side_bounded events o = record {
    ordered = λ i l at. record {
      segments = segments_ordered l.segments (h.ends i l at).segments;
      answered = λ run. segments_answered l.segments (h.ends i l at).segments;
      fresh =
          (o.owned i l at).fresh;
    };
    answered = λ i l at. segments_answered l.segments (h.ends i l at).segments;
    near = λ place u ahead there small. λ number l at acted pair. comes_near place u ahead there u.packet.message refl small number l at acted pair;
  }

  -- ---- the order

  none_passed : (f : TrueSegments) → f.received ≡ [] → IsPassed f → f.delivered ≡ []
  none_passed f none p = sym p.make ∙ ap (whole []) (go p.first (sym none ∙ p.are))
    where
      go : (first : List Piece) → [] ≡ map Some first ++ p.rest → first ≡ []
      go [] e = refl
      go (q ∷ first) e = absurd cc

  up_from : (l : LinkOf TrueSegments) → IsPassed l.segments → (partner : Option ℕ) → HeldFrom partner l.segments.received other.links.links →
      UpFrom partner l.segments.delivered other.links.links
  up_from l p None held = none_passed l.segments held p
  up_from l p (Some partner) held =
      (held.0, held.1, passed_begins l.segments held.0.segments p (theirs.ends partner held.0 held.1).segments.cut held.2)

  side_delivers : DeliversLinks own.links other.links
  side_delivers = record {
    cut = λ i l at. (h.ends i l at).segments.cut;
    held = λ i l at. (h.ends i l at).held;
    up = λ i l at. up_from l (h.ends i l at).segments.passed l.partner (h.ends i l at).held;
  }

  -- ---- off the captures

  begins_at : (further : List LinkEventValue) (delivered : List (List ℕ)) (there : LinkOf TrueSegments) (place : Option ℕ) →
      IsRead further there place →
      BeginsWith there.segments.handed delivered → BeginsAt further delivered place
  begins_at further delivered there None r b = nothing delivered (b.whole)
    where
      nothing : (d : List (List ℕ)) → there.segments.handed ≡ d ++ b.rest → d ≡ []
      nothing [] e = refl
      nothing (x ∷ d) e = let n = r.handed in absurd cc
  begins_at further delivered there (Some place) r b = (r.own, r.event, r.there, r.gives, record { rest = b.rest; whole = sym r.handed ∙ b.whole })

  begins_for : (further : List LinkEventValue) (read : AreRead further other.links.links) (delivered : List (List ℕ)) (partner : Option ℕ) →
      UpFrom partner delivered other.links.links → BeginsFor further delivered read.place_of partner
  begins_for further read delivered None up = up
  begins_for further read delivered (Some partner) up = begins_at further delivered up.0 (read.place_of partner) (read.read partner up.0 up.1) up.2

  side_up : (events further : List LinkEventValue) → AreRead events own.links.links → AreRead further other.links.links →
      AreUpFrom events further own.links.links other.links.links
  side_up events further read theirs_read =
      record {
        own = read;
        other = theirs_read;
        up =
            λ i place address link event at is there gives. go i place address link event at there gives
            (subst (IsRead events link) is (read.read i link at));
      }
    where
      go : (i place address : ℕ) (link : LinkOf TrueSegments) (event : LinkEventValue) → slice_get own.links.links i ≡ Some link →
          slice_get events place ≡ Some event → given_address event ≡ Some address → IsReadFrom events link place →
          BeginsFor further (delivered_up address (behind place events)) theirs_read.place_of link.partner
      go i place address link event at there gives r =
          let same : r.own ≡ address =
          same_Some r.own address (sym r.gives ∙ ap given_address (same_Some r.event event (sym r.there ∙ there)) ∙ gives) in
          subst (λ (x : List (List ℕ)). BeginsFor further x theirs_read.place_of link.partner)
          (r.up ∙ ap (λ (n : ℕ). delivered_up n (behind place events)) same)
          (begins_for further theirs_read link.segments.delivered link.partner
          (up_from link (h.ends i link at).segments.passed link.partner (h.ends i link at).held))

pub side_in_step : (own other : LinkSide) → AreLinksBounded own other → AreCutInStep Without own other
side_in_step own other b = record {
  user = λ event. user_same own.links event;
  sent = λ packet. sent_same own.links b.ordered packet;
  kept = λ place unit ahead there small. arrived_same of_partner own.links b.ordered unit.truth unit.packet (b.near place unit ahead there small);
}

-- ---- in every run

-- all that is said of a side: its links are sound, their events are read off, and each delivery is one
pub record KnownSide (own other : LinkSide) (events : List LinkEventValue) : Type 0 where
  pub sound : IsSoundSide own other
  pub owned : AreOwned events own.links.links
  pub counted : deliveries own.links.links ≡ ups events

step_owned : (own other left : LinkSide) (events made : List LinkEventValue) → IsSoundSide own other → AreOwned events own.links.links →
    LooseStep own other made left → AreOwned (events ++ made) left.links.links
step_owned own other left events made h o (ByUser event links does) =
    user_owned events own.links o event links does
step_owned own other left events made h o (Sends packet sent does) =
    subst (λ (x : List LinkEventValue). AreOwned x sent.links.links) (sym (append-nil events))
    (sent_owned events own.links o packet.message sent (λ number link there. (h.ends number link there).segments)
    does)
step_owned own other left events made h o SendsNone = subst (λ (x : List LinkEventValue). AreOwned x own.links.links) (sym (append-nil events)) o
step_owned own other left events made h o (Keeps place unit links ahead there does) =
    subst (λ (x : List LinkEventValue). AreOwned x links.links) (sym (append-nil events))
    (arrived_owned events own.links o unit.packet.message unit.truth links
    does)
step_owned own other left events made h o (Composes packet sent does) =
    subst (λ (x : List LinkEventValue). AreOwned x sent.links.links) (sym (append-nil events))
    (sent_owned events own.links o packet.message sent (λ number link there. (h.ends number link there).segments) does)
step_owned own other left events made h o (Passes place ahead less) =
    subst (λ (x : List LinkEventValue). AreOwned x own.links.links) (sym (append-nil events)) o

step_counted : (own other left : LinkSide) (events made : List LinkEventValue) → IsSoundSide own other → deliveries own.links.links ≡ ups events →
    LooseStep own other made left → deliveries left.links.links ≡ ups (events ++ made)
step_counted own other left events made h e (ByUser event links does) =
    ups_more events event (deliveries own.links.links) (deliveries links.links) e
    (user_count own.links event links does)
step_counted own other left events made h e (Sends packet sent does) =
    sent_count own.links packet.message sent
    (λ number link there. (h.ends number link there).segments) does ∙
    e ∙ ap ups (sym (append-nil events))
step_counted own other left events made h e SendsNone = e ∙ ap ups (sym (append-nil events))
step_counted own other left events made h e (Keeps place unit links ahead there does) =
    arrived_count own.links unit.packet.message unit.truth links does
    ∙ e ∙
    ap ups (sym (append-nil events))
step_counted own other left events made h e (Composes packet sent does) =
    sent_count own.links packet.message sent (λ number link there. (h.ends number link there).segments) does ∙ e ∙ ap ups (sym (append-nil events))
step_counted own other left events made h e (Passes place ahead less) = e ∙ ap ups (sym (append-nil events))

known_kept : IsKeptByStep KnownSide
known_kept own other left events further made own_known theirs step =
    let s = step_sound own other left made own_known.sound theirs.sound step in (
      record {
        sound = s.side;
        owned = step_owned own other left events made own_known.sound own_known.owned step;
        counted = step_counted own other left events made own_known.sound own_known.counted step;
      },
      record { sound = s.beside; owned = theirs.owned; counted = theirs.counted },
    )

new_known : (node_a peer_a node_b peer_b : ℕ) → KnownSide (new_side node_a peer_a) (new_side node_b peer_b) []
new_known node_a peer_a node_b peer_b = record { sound = new_sound node_a peer_a node_b peer_b; owned = none_owned; counted = refl }

pub record BothOwned (w : LinkWorld) (events further : List LinkEventValue) : Type 0 where
  pub of_a : AreOwned events w.a.links.links
  pub of_b : AreOwned further w.b.links.links

module _ (node_a peer_a node_b peer_b : ℕ) (w : LinkWorld) (of_a of_b : List LinkEventValue)
    (run : LooselyReached (new_world node_a peer_a node_b peer_b) w of_a of_b) where
  known : OfSides KnownSide w of_a of_b
  known = of_reached KnownSide known_kept
      (record { of_a = new_known node_a peer_a node_b peer_b; of_b = new_known node_b peer_b node_a peer_a }) run

  pub sound : BothLinksSound w
  sound = record { of_a = known.of_a.sound; of_b = known.of_b.sound }

  pub owned : BothOwned w of_a of_b
  owned = record { of_a = known.of_a.owned; of_b = known.of_b.owned }

  pub bounded : AreLinksBounded w.a w.b × AreLinksBounded w.b w.a
  bounded = (side_bounded w.a w.b sound.of_a sound.of_b of_a owned.of_a, side_bounded w.b w.a sound.of_b sound.of_a of_b owned.of_b)

  pub delivers : DeliversLinks w.a.links w.b.links × DeliversLinks w.b.links w.a.links
  delivers = (side_delivers w.a w.b sound.of_a sound.of_b, side_delivers w.b w.a sound.of_b sound.of_a)

  pub read : AreUpFrom of_a of_b w.a.links.links w.b.links.links × AreUpFrom of_b of_a w.b.links.links w.a.links.links
  read =
      let a = owned_read of_a w.a.links.links owned.of_a in
      let b = owned_read of_b w.b.links.links owned.of_b in
      (side_up w.a w.b sound.of_a sound.of_b of_a of_b a b, side_up w.b w.a sound.of_b sound.of_a of_b of_a b a)

  -- and each delivery is an event
  pub counted : (deliveries w.a.links.links ≡ ups of_a) × (deliveries w.b.links.links ≡ ups of_b)
  counted = (known.of_a.counted, known.of_b.counted)
