-- What the user of the links does the machine lets him do as well.
use Rattle.dna_queues.proofs.Prelude.{◌≡◌, ℕ, ◌+◌, Bool, true, false, ◌&&◌, Option, Some, None, List, [], ◌∷◌, ◌++◌, drop, Result, Ok, Err, refl}
use Rattle.dna_queues.proofs.Prelude.{sym, ap, ap₂, ◌∙◌, subst, arith, slice_get, bytes_eq, and_parts, LinkRefusal, NoLink, Phase}
use Rattle.dna_queues.proofs.Prelude.{Calling, Confirming, Running, Disconnecting, HasAddress, LiveAt, Without, With, passes, is_live, is_at}
use Rattle.dna_queues.proofs.Prelude.{is_connected, takes_messages, Whole, next_message, number_of, changed, in_phase, with_segments, user_step}
use Rattle.dna_queues.proofs.Prelude.{in_use, delivered, LinkEventValue, Accept, Reject, In, Up, Close, TrueSegments, hands_in, delivers}
use Rattle.dna_queues.proofs.Prelude.{delivers_whole, delivered_as, true_segments, IsFound, user_did, AreAnswered, IsNoAbort, next_links}
use Rattle.dna_queues.proofs.Prelude.{LateSegments, late_segments, over, delivered_over, Links, Node, link_it_is_for, link_it_is_of, waiting, MayBe}
use Rattle.dna_links.specs.TrueLinks as machine
use Rattle.dna_links.proofs.Tables.Outcomes as outcomes
use Rattle.dna_queues.proofs.{Facts.passed_check, Pieces.below_drop, Pieces.below_next, Ahead.later, Acting.LateLink, Follows.Follows}
use Rattle.dna_queues.proofs.{Follows.is_behind, Sending.use_found, Sending.live_owns, SentOn.Follow, Given.opens_beside, Calls.set_beside}
use Rattle.dna_queues.proofs.{Calls.answers_beside, Messages.OfMessages, Messages.messages_follow, WaitsToGo.grown_itself}
use Rattle.dna_queues.specs.Records as records
use Rattle.dna_queues.proofs.Goes.{Link, phase_of, use_own}
use Rattle.dna_queues.proofs.LinkLists.{set_changed, unique_set, at_found, number_same, there_too}
use Rattle.dna_queues.proofs.Beside.{Beside, follows_as, unique_too}
use Rattle.dna_queues.proofs.Closed.{closed_link, closes_as, close_follows}

-- ---- phases in use

takes_later : (p q : Phase) → later p q ≡ true → takes_messages p ≡ true → takes_messages q ≡ true
takes_later p Calling e f = refl
takes_later p Confirming e f = refl
takes_later p Running e f = refl
takes_later Calling q e f = absurd cc
takes_later p q e f = absurd cc

connected_later : (p q : Phase) → later p q ≡ true → is_connected p ≡ true → is_connected q ≡ true
connected_later p Confirming e f = refl
connected_later p Running e f = refl
connected_later Confirming q e f = absurd cc
connected_later Running q e f = absurd cc
connected_later p q e f = absurd cc

module _ (n : Node) (t : machine.Links) (b : Beside n t) (near : AreAnswered t) where
  -- a live link of the node, and of the machine by its port in use
  in_use_too : (own number : ℕ) (h : LateLink) (l : Link) → slice_get t.links number ≡ Some l → IsFound (LiveAt own) n.links number h →
      (f : Follows h l (waiting link_it_is_for h.port.own n.kept) (waiting link_it_is_of (Some number) n.composed)) →
      (passes (LiveAt own) (in_use With l) ≡ true) × (later h.port.phase (phase_of l) ≡ true)
  in_use_too own number h l at_l found f =
      let p = and_parts (is_live h.port.phase) (is_at h.port.own own) found.passed in
      let behind = is_behind h l _ _ f in
      let usable = f.usable p.0 in (
        ap₂ (λ (c d : Bool). c && d) usable
            (ap (λ (o : Option ℕ). is_at o own) (use_own l ∙ sym behind.own) ∙ p.1),
        ap (λ (q : Phase). later q (phase_of l)) (sym (f.of_use p.0)) ∙ behind.used usable,
      )

  -- this link becomes that in both
  becomes : (event : LinkEventValue) (number : ℕ) (h k : LateLink) (l y : Link) → slice_get n.links.links number ≡ Some h →
      slice_get t.links number ≡ Some l → k.port.own ≡ h.port.own → next_links t (records.OfUser event) ≡ Ok (changed number y t) →
      Follows k y (waiting link_it_is_for h.port.own n.kept) (waiting link_it_is_of (Some number) n.composed) →
      Follow (record n { links = changed number k n.links }) t (records.OfUser event)
  becomes event number h k l y at_h at_l own does f =
      let set = set_changed n.links number h k at_h in
      record {
        left = changed number y t;
        is = does;
        beside = λ near_left. set_beside n t b (changed number k n.links) (changed number y t) number k y set (set_changed t number l y at_l)
            (unique_set n.links (changed number k n.links) number h k set at_h own b.unique)
            (follows_as k y _ _ _ _ (ap (λ (o : Option ℕ). waiting link_it_is_for o n.kept) (sym own)) refl f);
      }

  hands_in_beside : (own : ℕ) (message : List ℕ) (number : ℕ) (h : LateLink) → IsFound (LiveAt own) n.links number h →
      takes_messages h.port.phase ≡ true → Follow
      (record n { links = changed number (with_segments (over h.segments (hands_in message h.segments.segments)) h) n.links }) t
      (records.OfUser (In own message))
  hands_in_beside own message number h found may =
      let l = there_too t.links n.links.links number h (sym b.size) found.there in
      let f = b.all number h l.0 found.there l.1 in
      let u = in_use_too own number h l.0 l.1 found f in
      becomes (In own message) number h (with_segments (over h.segments (hands_in message h.segments.segments)) h) l.0
      (with_segments (hands_in message l.0.segments) l.0) found.there l.1 refl
      (use_found t (unique_too n t b) (LiveAt own) own number l.0 (Err NoLink) _ (live_owns own) l.1 u.0
      ∙ passed_check (takes_messages (phase_of l.0)) _ _ (takes_later h.port.phase (phase_of l.0) u.1 may))
      (messages_follow (Some message) h l.0 (hands_in message h.segments.segments) (hands_in message l.0.segments) _ _ (near number l.0 l.1)
      (of_in h.segments.segments) (of_in l.0.segments) (omega arith) refl refl refl f)
    where
      of_in : (f : TrueSegments) → OfMessages (Some message) f (hands_in message f)
      of_in f = record { received = refl; acknowledged = refl; grows = λ answered. let same = grown_itself f answered in assumption same }

  closes_beside : (own number : ℕ) (h : LateLink) → IsFound (LiveAt own) n.links number h → is_connected h.port.phase ≡ true →
      Follow (record n { links = changed number (in_phase Disconnecting h) n.links }) t (records.OfUser (Close own))
  closes_beside own number h found may =
      let l = there_too t.links n.links.links number h (sym b.size) found.there in
      let f = b.all number h l.0 found.there l.1 in
      let u = in_use_too own number h l.0 l.1 found f in
      becomes (Close own) number h (in_phase Disconnecting h) l.0 (closed_link l.0) found.there l.1 refl
      (use_found t (unique_too n t b) (LiveAt own) own number l.0 (Err NoLink) _ (live_owns own) l.1 u.0
      ∙ passed_check (is_connected (phase_of l.0)) _ _ (connected_later h.port.phase (phase_of l.0) u.1 may)
      ∙ ap (λ (x : Link). let r : Result machine.Links LinkRefusal = Ok (changed number x t) in r) (closes_as l.0))
      (close_follows h l.0 _ _ (near number l.0 l.1) may f)

  delivers_beside : (own : ℕ) (message : List ℕ) (number : ℕ) (h : LateLink) (d : LateSegments) → IsFound (HasAddress own) n.links number h →
      delivered_over h.segments (delivers message h.segments.segments) ≡ Some d →
      Follow (record n { links = changed number (with_segments d h) n.links }) t (records.OfUser (Up own message))
  delivers_beside own message number h d found does = go (there_too t.links n.links.links number h (sym b.size) found.there)
    where
      own_same : number_of (HasAddress own) n.links ≡ number_of (HasAddress own) t
      own_same = number_same n.links t b.size (HasAddress own)
          (λ i h l at_h at_l. ap (λ (o : Option ℕ). is_at o own) (is_behind h l _ _ (b.all i h l at_h at_l)).own)

      go : (l : Link) × (slice_get t.links number ≡ Some l) →
          Follow (record n { links = changed number (with_segments d h) n.links }) t (records.OfUser (Up own message))
      go l = by_whole (next_message (drop h.segments.segments.passed h.segments.segments.received)) refl does
        where
          x : Follows h l.0 (waiting link_it_is_for h.port.own n.kept) (waiting link_it_is_of (Some number) n.composed)
          x = b.all number h l.0 found.there l.1

          found_l : IsFound (HasAddress own) t number l.0
          found_l = record {
            found = sym own_same ∙ found.found;
            there = l.1;
            passed = ap (λ (o : Option ℕ). is_at o own) (sym (is_behind h l.0 _ _ x).own) ∙ found.passed;
          }

          of_up : (f : TrueSegments) (w : Whole) → OfMessages None f (record f {
            delivered = f.delivered ++ w.message ∷ [];
            passed = f.passed +
                w.pieces;
          })
          of_up f w = record { received = refl; acknowledged = refl; grows = λ answered. let same = grown_itself f answered in assumption same }

          by_bytes : (w : Whole) → next_message (drop h.segments.segments.passed h.segments.segments.received) ≡ Some w → (c : Bool) →
              bytes_eq message w.message ≡ c → delivered_over h.segments (delivered_as c w h.segments.segments) ≡ Some d →
              Follow (record n { links = changed number (with_segments d h) n.links }) t (records.OfUser (Up own message))
          by_bytes w next false same e = absurd cc
          by_bytes w next true same e =
              let f = h.segments.segments in
              let g = l.0.segments in
              let passed = x.passed in
              let is : over h.segments (record f { delivered = f.delivered ++ w.message ∷ []; passed = f.passed + w.pieces }) ≡ d = cc in
              let next_l : next_message (drop g.passed g.received) ≡ Some w =
              ap (λ (m : ℕ). next_message (drop m g.received)) passed
              ∙ below_next (drop f.passed f.received) (drop f.passed g.received) w
              (below_drop f.passed f.received g.received (is_behind h l.0 _ _ x).received) next in
              subst (λ (e : LateSegments). Follow (record n { links = changed number (with_segments e h) n.links }) t (records.OfUser (Up own
              message))) is
              (becomes (Up own message) number h
              (with_segments (over h.segments (record f { delivered = f.delivered ++ w.message ∷ []; passed = f.passed + w.pieces })) h) l.0
              (with_segments (record g { delivered = g.delivered ++ w.message ∷ []; passed = g.passed + w.pieces }) l.0) found.there l.1 refl
              (at_found (HasAddress own) t number l.0 _ _ found_l
              ∙ ap (λ (o : Option TrueSegments). delivered true_segments number l.0 t o)
              (ap (λ (o : Option Whole). delivers_whole o message g) next_l ∙ ap (λ (c : Bool). delivered_as c w g) same))
              (messages_follow None h l.0 (record f { delivered = f.delivered ++ w.message ∷ []; passed = f.passed + w.pieces })
              (record g { delivered = g.delivered ++ w.message ∷ []; passed = g.passed + w.pieces }) _ _ (near number l.0 l.1) (of_up f w) (of_up
              g w)
              (omega (arith, passed)) refl refl refl x))

          by_whole : (o : Option Whole) → next_message (drop h.segments.segments.passed h.segments.segments.received) ≡ o →
              delivered_over h.segments (delivers_whole o message h.segments.segments) ≡ Some d →
              Follow (record n { links = changed number (with_segments d h) n.links }) t (records.OfUser (Up own message))
          by_whole None next e = absurd cc
          by_whole (Some w) next e = by_bytes w next _ refl e

  -- ---- any event

  user_by : (event : LinkEventValue) (links : Links) → MayBe event n → IsNoAbort (records.OfUser event) →
      outcomes.UserDid late_segments n.links event links →
      Follow (record n { links = links }) t (records.OfUser event)
  user_by event links may keeps (outcomes.Opens own free) = opens_beside n t b own may free
  user_by event links may keeps (outcomes.Accepts far own number link found free) =
      answers_beside n t b near (Accept far own) far own number link Confirming may found free (refl, refl, refl, refl)
      (λ q. (refl, refl, refl, refl)) (λ q. (λ e. refl, λ e. refl)) refl
  user_by event links may keeps (outcomes.Rejects far own number link found free) =
      answers_beside n t b near (Reject far own) far own number link Disconnecting may found free (refl, refl, refl, refl)
      (λ q. (refl, refl, refl, refl)) (λ q. (λ e. e, λ e. absurd cc)) refl
  user_by event links may keeps (outcomes.HandsIn own message number link found takes) = hands_in_beside own message number link found takes
  user_by event links may keeps (outcomes.Delivers own message number link segments found does) = delivers_beside own message number link segments
      found does
  user_by event links may keeps (outcomes.Closes own number link found connected) = closes_beside own number link found connected
  user_by event links may keeps (outcomes.Aborts own number link found calling) = absurd keeps
  user_by event links may keeps outcomes.Boots = absurd may

  pub user_beside : (event : LinkEventValue) (links : Links) → MayBe event n → IsNoAbort (records.OfUser event) →
      user_step Without late_segments n.links event ≡ Ok links → Follow (record n { links = links }) t (records.OfUser event)
  user_beside event links may keeps e = user_by event links may keeps (user_did late_segments n.links links event e)
