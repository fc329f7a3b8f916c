-- Every row that gives no address and no phase keeps it what is known of a link's last acknowledgement sent.
use Rattle.accusing_links.proofs.Prelude.{◌≡◌, ℕ, true, Option, Some, None, refl, sym, slice_get, Queues, Without, With, LinkQueue, LinkOf}
use Rattle.accusing_links.proofs.Prelude.{LinkTruth, with_segments, with_queue, settled, forgotten, WireSegments, wire_segments, WireLinks, blank}
use Rattle.accusing_links.proofs.Prelude.{does}
use Rattle.accusing_links.proofs.{Received.Received, Received.delivers_received, Sends.sends_acks_good, Sends.sent_left, Along.OfRow}
use Rattle.accusing_links.proofs.{LinkRows.IsSmall}
use Rattle.accusing_links.proofs.Rows.{IsKept, AreKept, settled_by}
use Rattle.accusing_links.proofs.Follows.{keeps, Follows, follows_itself, follows_on, settles_follows, says_follows, forgotten_follows, IsCalm}
use Rattle.accusing_links.proofs.Follows.{does_follows}
use Rattle.accusing_links.proofs.AllFollow.{AreFollowed, all_same, followed_changed, followed_pushed, all_booted}

module _ (queues : Queues) (own far least : ℕ) (Q : ℕ → Type 0) where
  abbrev pub Follows' : LinkOf WireSegments → LinkOf WireSegments → Type 0
  Follows' l m = Follows queues own far least Q l m

  -- a link's segments change, and how far words lie back
  pub segments_follow : (l : LinkOf WireSegments) (queue : LinkQueue) (f : WireSegments) → queue.waits ≡ l.queue.waits → queue.said ≡ l.queue.said →
      (Received least Q l.segments → Received least Q f) → Follows' l (with_queue queue (with_segments f l))
  segments_follow l queue f waits said then = record {
    to = λ e. e;
    known = λ k e g. let was = k e (same queues g) in record { begun = was.begun; received = λ o. then (was.received o) };
  }
    where
      same : (q : Queues) → keeps q (with_queue queue (with_segments f l)) ≡ true → keeps q l ≡ true
      same Without e = e
      same With e = rw (sym waits, sym said) e

  module _ (s : WireLinks) where
    abbrev pub Are : WireLinks → Type 0
    Are x = AreFollowed queues own far least Q s.links x.links

    -- the row is of a new link, or of one that it follows
    abbrev pub IsNow : OfRow
    IsNow None l = l.port.far ≡ Some far → ⊥
    IsNow (Some n) l = (before : LinkOf WireSegments) × (slice_get s.links n ≡ Some before) × Follows' before l

    pub now_at : (n : ℕ) (l : LinkOf WireSegments) → slice_get s.links n ≡ Some l → IsNow (Some n) l
    now_at n l at = (l, at, follows_itself queues own far least Q l)

    pub now_on : (n : Option ℕ) (l m : LinkOf WireSegments) → IsNow n l → Follows' l m → IsNow n m
    now_on None l m now is = λ e. now (is.to e)
    now_on (Some n) l m now is = (now.0, now.1, follows_on queues own far least Q now.0 l m now.2 is)

    pub blank_now : IsNow None (blank queues wire_segments)
    blank_now e = absurd cc

    pub keep : (truth : LinkTruth (Unit {0})) → IsKept queues s IsNow IsSmall (IsCalm queues own far least Q) truth
    keep truth = record {
      none = blank_now;
      there = now_at;
      delivered = λ message n l d made now. now_on n l (with_segments d l) now
          (segments_follow l l.queue d refl refl (λ is. delivers_received least Q message l.segments d made is));
      sent = λ segment n l f gap small made now. now_on n l (with_queue (record l.queue { gap = gap }) (with_segments f l)) now
          (segments_follow l (record l.queue { gap = gap }) f refl refl (λ is. (sent_left least Q segment l f small is made).1));
      acks = λ acks n l sent gap small made now. now_on n l (with_queue (record l.queue { gap = gap }) (with_segments sent.segments l)) now
          (segments_follow l (record l.queue { gap = gap }) sent.segments refl refl
          (λ is. (sends_acks_good least Q l.segments is acks small sent made).1));
      does = λ n l effect calm now. now_on n l (does queues wire_segments truth l effect) now
          (does_follows queues own far least Q truth l effect calm);
    }

    pub all_keep : AreKept queues s IsNow Are
    all_keep = record {
      same = all_same queues own far least Q s.links;
      there = now_at;
      forgets = λ n l now. now_on (Some n) l (forgotten wire_segments queues l) now (forgotten_follows queues own far least Q queues refl l);
      settles = λ n l now. now_on (Some n) l (settled wire_segments l.queue.waits l) now
          (settled_by (Follows' l) l.queue.waits l (settles_follows queues own far least Q l) (λ said. says_follows queues own far least Q said l)
          (follows_itself queues own far least Q l));
      pushes = λ x l are now. followed_pushed queues own far least Q s.links x.links l are now;
      changes = λ x n l are now. followed_changed queues own far least Q s.links x.links n now.0 l are now.1 now.2;
      boots = all_booted queues own far least Q s.links;
    }
