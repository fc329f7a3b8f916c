-- A link is closed by its user while packets wait for it: the machine, which has acted on them, closes it too.
use Rattle.dna_queues.proofs.Prelude.{◌≡◌, ℕ, ◌≤◌, Bool, true, false, cond, Option, Some, None, List, refl, sym, ap, ap₂, ◌∙◌, subst, Phase}
use Rattle.dna_queues.proofs.Prelude.{Calling, Called, Confirming, Running, Disconnecting, Port, is_in, is_live, is_at, is_calling, is_connected}
use Rattle.dna_queues.proofs.Prelude.{in_phase, port_of_waiting, goes_on, keeps_numbers, is_silent, is_over, IsAnswered, TrueSegments}
use Rattle.dna_queues.proofs.Prelude.{true_segments, SentMessage, cond_both}
use Rattle.dna_queues.proofs.Facts.{lets_still, not_both, no_case, no_other}
use Rattle.dna_queues.proofs.Pieces.{Below, below_itself, below_on}
use Rattle.dna_queues.proofs.{Words.Grown, Came.Fits, Follows.Follows, SentOn.grows_on, SentOn.phase_same}
use Rattle.dna_queues.proofs.Goes.{Link, phase_of, Grows}
use Rattle.dna_queues.proofs.WaitsToGo.{can_more, can_grow, grown_itself}
use Rattle.dna_queues.proofs.Ahead.{Seen, Meets, is_open}
use Rattle.dna_queues.proofs.Acting.{LateLink, lift, seen_as}
use Rattle.dna_queues.proofs.Closing.{closing, over, closed, connected_is, ahead_closing}

-- ---- the link of the machine

abbrev pub closed_link : Link → Link
closed_link l = cond (is_live l.port.phase) (record l { port = record l.port { phase = Disconnecting } })
    (record l { queue = record l.queue { waits = Some Disconnecting } })

pub closes_as : (l : Link) → goes_on true_segments (is_live l.port.phase) Disconnecting l ≡ closed_link l
closes_as l = go (is_live l.port.phase)
  where
    late : Link
    late = record l { queue = record l.queue { waits = Some Disconnecting } }

    go : (b : Bool) → goes_on true_segments b Disconnecting l ≡ cond b (record l { port = record l.port { phase = Disconnecting } }) late
    go true = refl
    go false = ap (λ (f : TrueSegments). record late { segments = f }) (lets_still (keeps_numbers l) (keeps_numbers late) l.segments)

pub record IsAlike (l k : Link) : Type 0 where
  pub own : k.port.own ≡ l.port.own
  pub far : k.port.far ≡ l.port.far
  pub opened : k.port.opened ≡ l.port.opened
  pub partner : k.partner ≡ l.partner
  pub segsize : k.segsize ≡ l.segsize
  pub ran : k.queue.ran ≡ l.queue.ran
  pub accepted : k.queue.accepted ≡ l.queue.accepted
  pub said : k.queue.said ≡ l.queue.said
  pub gap : k.queue.gap ≡ l.queue.gap
  pub segments : k.segments ≡ l.segments

pub record IsClosed (l k : Link) : Type 0 where
  pub phase : phase_of k ≡ Disconnecting
  pub fits : Fits k
  pub alike : IsAlike l k
  pub open alike use *
  pub meets : (a c : Seen) → Meets a l → c.partner ≡ a.partner → c.segsize ≡ a.segsize → Below c.received a.received → c.used ≡ Disconnecting →
      c.port ≡ record a.port { phase = cond (is_live l.port.phase) Disconnecting l.port.phase } → Meets c k

pub is_closed : (l : Link) → Fits l → IsClosed l (closed_link l)
is_closed l fits = cond_both (is_live l.port.phase) _ _ (λ x. IsClosed l x) at_live at_end
  where
    calling_live : (p : Phase) → is_calling p ≡ true → is_live p ≡ true
    calling_live Calling e = refl
    calling_live p e = absurd cc

    open_live : (p : Phase) → is_open p ≡ true → is_live p ≡ true
    open_live Calling e = refl
    open_live Called e = refl
    open_live Confirming e = refl
    open_live Running e = refl
    open_live p e = absurd cc

    at_live : is_live l.port.phase ≡ true → IsClosed l (record l { port = record l.port { phase = Disconnecting } })
    at_live live =
        let waits = fits.waits live in
        let phase : phase_of (record l { port = record l.port { phase = Disconnecting } }) ≡ Disconnecting =
        ap (λ (w : Option Phase). (port_of_waiting w (record l.port { phase = Disconnecting })).phase) waits in
        record {
          phase = phase;
          fits = record {
            waits = λ e. waits;
            ran = λ e. absurd (not_both _ e (ap (is_in Running) phase));
            calling = λ e. absurd cc;
          };
          alike = assumption;
          meets = λ a c m partner size below used port. record {
            port = port ∙ ap₂ (λ (b : Bool) (p : Port). record p { phase = cond b Disconnecting l.port.phase }) live m.port;
            partner = partner ∙ m.partner;
            segsize = size ∙ m.segsize;
            received = below_on c.received a.received l.segments.received below m.received;
            exact = λ e. absurd cc;
            used = λ e. used ∙ sym phase;
          };
        }

    at_end : is_live l.port.phase ≡ false → IsClosed l (record l { queue = record l.queue { waits = Some Disconnecting } })
    at_end over = record {
      phase = refl;
      fits = record {
        waits = λ e. absurd (not_both _ e over);
        ran = λ e. absurd cc;
        calling = λ e. absurd (not_both _ (calling_live l.port.phase e) over);
      };
      alike = assumption;
      meets = λ a c m partner size below used port. record {
        port = port ∙ ap₂ (λ (b : Bool) (p : Port). record p { phase = cond b Disconnecting l.port.phase }) over m.port;
        partner = partner ∙ m.partner;
        segsize = size ∙ m.segsize;
        received = below_on c.received a.received l.segments.received below m.received;
        exact = λ e. absurd (not_both _ (open_live l.port.phase e) over);
        used = λ e. used;
      };
    }

-- ---- both

pub close_follows : (h : LateLink) (l : Link) (kept composed : List SentMessage) → IsAnswered l.segments → is_connected h.port.phase ≡ true →
    Follows h l kept composed → Follows (in_phase Disconnecting h) (closed_link l) kept composed
close_follows h l kept composed answered connected f =
    let k = closed_link l in
    let c = is_closed l f.fits in
    let live = (connected_is l l h.port.phase connected).0 in
    record {
      used = Disconnecting;
      of_use = λ e. refl;
      fresh = λ e. absurd cc;
      called = λ e. absurd cc;
      ahead = ahead_closing l k
          (λ x r closes m. c.meets x (closing x r) m refl refl closes.received refl
          (ap (λ (b : Bool). record x.port { phase = cond b Disconnecting l.port.phase })
          (sym (ap (λ (p : Port). is_live p.phase) (sym m.port) ∙ (connected_is l l x.port.phase closes.connected).0))))
          (λ x r closes m. c.meets (over x) (closed x r) m refl refl closes.received refl
          (ap (λ (p : Phase). record x.port { phase = cond (is_live p) Disconnecting p }) (ap (λ (p : Port). p.phase) m.port)))
          kept (seen_as f.used h) h.segments.segments.received
          (record { connected = connected; used = f.of_use live; received = below_itself h.segments.segments.received }) f.ahead;
      acknowledged = subst (λ (g : TrueSegments). h.segments.segments.acknowledged ≤ g.acknowledged) (sym c.segments) f.acknowledged;
      passed = ap (λ (g : TrueSegments). g.passed) c.segments ∙ f.passed;
      accepted = λ e. absurd cc;
      usable = λ e. ap is_live c.phase;
      fits = c.fits;
      can = can_more composed k (Grows None (lift h)) (Grows None (lift (in_phase Disconnecting h)))
          (subst IsAnswered (sym c.segments) answered)
          (can_grow None composed l k (Grows None (lift h)) (Grows None (lift h)) (record {
            own = λ n at. ap (λ (o : Option ℕ). is_at o n) c.own ∙ at;
            far = λ n at. ap (λ (o : Option ℕ). is_at o n) c.far ∙ at;
            opened = c.opened;
            usable = λ e. ap is_live c.phase;
            closing = λ e. ap (is_in Disconnecting) c.phase;
            ran = λ e. c.ran ∙ e;
            accepted = λ e. c.accepted ∙ e;
            silent = λ e. ap is_silent c.said ∙ e;
            over = λ e. ap is_over c.said ∙ e;
            gap = c.gap;
            segsize = λ e. c.segsize;
            segments = subst (Grown None l.segments) (sym c.segments) (grown_itself l.segments answered);
          }) f.can (λ x y grows p. grows_on None (lift h) x y p grows))
          (λ e same g. let usable = ap is_live (phase_same k e same ∙ c.phase) in
          let closing = ap (is_in Disconnecting) (phase_same k e same ∙ c.phase) in search (no_case, no_other, usable, closing, g));
    }
