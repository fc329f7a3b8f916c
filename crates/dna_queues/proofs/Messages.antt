-- A link at which a message is handed in, or delivered.
use Rattle.dna_queues.proofs.Prelude.{◌≡◌, ℕ, ◌+◌, Option, None, List, sym, ap, ◌∙◌, subst, arith, Piece, in_order, with_segments, IsAnswered}
use Rattle.dna_queues.proofs.Prelude.{TrueSegments, SentMessage, over}
use Rattle.dna_queues.proofs.{Pieces.Below, Words.added, Words.Grown, Goes.Link, Goes.Grows, WaitsToGo.can_grow, Follows.Follows, SentOn.grows_on}
use Rattle.dna_queues.proofs.Ahead.{Seen, Ahead, ahead_still}
use Rattle.dna_queues.proofs.Acting.{LateLink, lift, seen_as}

-- ---- a link of which only the messages change

-- what is handed in, or delivered
pub record OfMessages (more : Option (List ℕ)) (f : TrueSegments) (g : TrueSegments) : Type 0 where
  pub received : g.received ≡ f.received
  pub acknowledged : g.acknowledged ≡ f.acknowledged
  pub grows : (answered : IsAnswered f) → Grown more f g

pub messages_follow : (more : Option (List ℕ)) (h : LateLink) (l : Link) (f g : TrueSegments) (kept composed : List SentMessage) →
    IsAnswered l.segments →
    OfMessages more h.segments.segments f → OfMessages more l.segments g → f.passed + l.segments.passed ≡ h.segments.segments.passed + g.passed →
    f.unsent ≡ added more h.segments.segments.unsent → f.given ≡ h.segments.segments.given → f.last ≡ h.segments.segments.last →
    Follows h l kept composed → Follows (with_segments (over h.segments f) h) (with_segments g l) kept composed
messages_follow more h l f g kept composed answered of_f of_g passed unsent given last x =
    let k = with_segments (over h.segments f) h in
    let y = with_segments g l in
    let low = x.acknowledged in let ack_f = of_f.acknowledged in let ack_g = of_g.acknowledged in let was = x.passed in
    record {
      used = x.used;
      of_use = x.of_use;
      fresh = x.fresh;
      called = x.called;
      ahead = subst (λ (a : Seen). Ahead kept a y)
          (ap (λ (ps : List (Option Piece)). record (seen_as x.used h) { received = ps }) (sym of_f.received))
          (ahead_still kept (seen_as x.used h) l y (omega (arith, ack_g)) (λ a m. record {
            port = m.port;
            partner = m.partner;
            segsize = m.segsize;
            received = subst (λ (ps : List (Option Piece)). Below a.received ps) (sym of_g.received) m.received;
            exact = λ e. m.exact e ∙ sym of_g.received;
            used = m.used;
          }) x.ahead);
      acknowledged = omega (arith, low, ack_f, ack_g);
      passed = omega (arith, passed, was);
      accepted = x.accepted;
      usable = x.usable;
      fits = assumption x.fits;
      can = can_grow more composed l y (Grows None (lift h)) (Grows None (lift k)) (let grown = of_g.grows answered in assumption grown) x.can
          (λ e z grows p. let q = grows_on more (lift h) e z p grows in
          let s = q.segments in let got = s.received in let acks = s.acknowledged in
          let order : in_order f.received ≡ in_order h.segments.segments.received = ap in_order of_f.received in
          let grown : Grown None f z.segments = record {
            given = s.given ∙ sym given;
            last = s.last ∙ sym last;
            received = omega (arith, got, order);
            acknowledged = omega (arith, acks, ack_f);
            unsent = s.unsent ∙ sym unsent;
            answered = s.answered;
          } in assumption (grown, q));
    }
