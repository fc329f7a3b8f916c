-- What a permit makes of the links is what becomes of them.
use Rattle.std.proofs.Common.{◌≡◌, ℕ, ◌<◌, Option, Some, None, length, refl, sym, ap, ◌∙◌}
use Rattle.std.specs.Prelude.{slice_get, Result, Ok, Err, IfOk}
use Rattle.dna_packet.specs.Nsp.{NspValue}
use Rattle.dna_links.specs.declared.queue.Queues.{Queues}
use Rattle.dna_links.specs.declared.tag.LinkTag.{LinkTag}
use Rattle.dna_links.specs.Links.{LinkOf, changed, on_link}
use Rattle.dna_links.specs.Queues.{settled}
use Rattle.dna_links.specs.Sending.{Sent, message_sent}
use Rattle.dna_links.specs.inner.Forms.{of_no_link}
use Rattle.dna_links.specs.WireSegments.{WireSegments, wire_segments}
use Rattle.dna_links.specs.WireLinks.{WireLinks}
use Rattle.nsp_link.specs.FailedSending.{asked_message}
use Rattle.nsp_link.specs.declared.permit.LinkSendPermit.{LinkSendPermit}
use Rattle.nsp_link.specs.inner.Permitted.{at_link, of_link, permitted, segment_in, sent_by, settling}
use Rattle.nsp_link.proofs.FailedSending.{permit_makes}
use Rattle.nsp_link.proofs.Found.{some_there}

abbrev sent_so : WireLinks → LinkTag → Sent WireSegments (Unit {0})
sent_so links tag = record { links = links; truth = record { tag = tag; known = tt } }

both_same : (a b : WireLinks) (t u : LinkTag) → a ≡ b → t ≡ u → sent_so a t ≡ sent_so b u
both_same a b t u links tags = ap (λ (x : WireLinks). sent_so x t) links ∙ ap (λ (x : LinkTag). sent_so b x) tags

module _ (s : WireLinks) (n : ℕ) (within : n < length s.links) where
  at_by : (made : LinkOf WireSegments → Sent WireSegments (Unit {0})) (end : Sent WireSegments (Unit {0})) →
      ((l : LinkOf WireSegments) → slice_get s.links n ≡ Some l → made l ≡ end) → at_link n s made ≡ end
  at_by made end each = by_link (slice_get s.links n) refl where
    by_link : (k : Option (LinkOf WireSegments)) → slice_get s.links n ≡ k →
        on_link n k (of_no_link wire_segments s) (λ m link. made link) ≡ end
    by_link None is = absurd (some_there s.links n within is)
    by_link (Some l) is = each l is

  abbrev IsTag : LinkTag → Type 0
  IsTag tag = (l : LinkOf WireSegments) → slice_get s.links n ≡ Some l → tag ≡ record { link = Some n; partner = l.partner }

  pub made_at : (becomes : LinkOf WireSegments → LinkOf WireSegments) (new : WireLinks) (tag : LinkTag) →
      ((l : LinkOf WireSegments) → slice_get s.links n ≡ Some l → new ≡ changed n (becomes l) s) → IsTag tag →
      at_link n s (sent_by n s becomes) ≡ record { links = new; truth = record { tag = tag; known = tt } }
  made_at becomes new tag made is_tag =
      at_by (sent_by n s becomes) (sent_so new tag) (λ l is.
      both_same (changed n (becomes l) s) new (record { link = Some n; partner = l.partner }) tag (sym (made l is)) (sym (is_tag l is)))

  pub stays_at : (tag : LinkTag) → IsTag tag → at_link n s (of_link n s) ≡ record { links = s; truth = record { tag = tag; known = tt } }
  stays_at tag is_tag =
      at_by (of_link n s) (sent_so s tag) (λ l is. ap (λ (x : LinkTag). sent_so s x) (sym (is_tag l is)))

  pub settles_at : (new : WireLinks) →
      ((l : LinkOf WireSegments) → slice_get s.links n ≡ Some l → new ≡ changed n (settled wire_segments l.queue.waits l) s) →
      at_link n s (settling n s) ≡ record { links = new; truth = record { tag = record { link = None; partner = None }; known = tt } }
  settles_at new made =
      at_by (settling n s) (sent_so new (record { link = None; partner = None }))
      (λ l is. ap (λ (x : WireLinks). sent_so x (record { link = None; partner = None })) (sym (made l is)))

-- a message for which there is a permit makes what the permit does
module _ (queues : Queues) (s : WireLinks) (m : NspValue) (permit : LinkSendPermit) (is : asked_message queues s m ≡ Ok permit) {E : Type 0} where
  pub made_as : (r : Result LinkTag E) (new : WireLinks) →
      IfOk r (λ tag. permitted queues (segment_in m) s permit ≡ record { links = new; truth = record { tag = tag; known = tt } }) →
      IfOk r (λ tag. message_sent queues wire_segments s m ≡ Ok (record { links = new; truth = record { tag = tag; known = tt } }))
  made_as (Ok tag) new made = permit_makes queues s m permit is ∙ ap Ok made
  made_as (Err e) new made = made
