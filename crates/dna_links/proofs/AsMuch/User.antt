-- What the user may do without queues, it may do with them, and the same becomes of the links. Over any book.
use Rattle.std.proofs.Common.{◌≡◌, ℕ, Bool, true, false, Option, Some, None, Result, Ok, Err, refl, sym, ap, ap₂, ◌∙◌}
use Rattle.std.proofs.lemmas.Bool.{and_parts}
use Rattle.dna_station.specs.declared.link_refusal.LinkRefusal.{LinkRefusal}
use Rattle.dna_station.specs.declared.link_refusal.LinkRefusal.TheVariants.{NoLink, LinkState, AddressInUse}
use Rattle.dna_links.specs.declared.port.Phase.{Phase}
use Rattle.dna_links.specs.declared.port.Phase.TheVariants.{Called, Confirming, Disconnecting}
use Rattle.dna_links.specs.declared.port.Port.{Port}
use Rattle.dna_links.specs.declared.port.LinkTest.TheVariants.{HasAddress, LiveAt, CalledBy}
use Rattle.dna_links.specs.declared.queue.Queues.TheVariants.{Without, With}
use Rattle.dna_links.specs.declared.queue.LinkQueue.{LinkQueue}
use Rattle.dna_links.specs.LookUps.{is_live, is_calling, is_called, is_connected, takes_messages, is_at}
use Rattle.dna_links.specs.SegmentBook.{SegmentBook}
use Rattle.dna_links.specs.Links.{LinkOf, LinksOf, number_of, with_link, begun, changed, in_phase, with_segments}
use Rattle.dna_links.specs.Queues.{in_use, reached, goes_on, drops, ended, freed, booted_link, booted}
use Rattle.dna_links.specs.User.{LinkEventValue, Accept, Reject}
use Rattle.dna_links.specs.inner.Forms.{opened, answered, delivered}
use Rattle.dna_links.specs.LinkBook.{user_step}
use Rattle.dna_links.proofs.Tables.Outcomes.{IsFound, user_did}
use Rattle.dna_links.proofs.Tables.Outcomes as outcomes
use Rattle.dna_links.proofs.Cut.User.{live_if}
use Rattle.dna_links.proofs.Runs.Sides.{all_map}
use Rattle.dna_links.proofs.AsMuch.Plain.{at_found, at_none, plain, plain_links, LetsGo, changed_plain, begun_plain}
use Rattle.dna_links.proofs.AsMuch.Plain.{live_segments, live_with, goes_plain, freed_plain, drops_plain, booted_plain, delivers_plain}
use Rattle.dna_links.proofs.AsMuch.Fit.{Fits, Follows, AreDone, live_waits, in_use_is, FitsAt, AllFit, there, missing, passes_check, set_fits}
use Rattle.dna_links.proofs.AsMuch.Fit.{begun_fits, freed_fits}

module _ {D K : Type 0} (book : SegmentBook D K) (good : LetsGo book) (s : LinksOf D) (fits : AllFit s) where
  abbrev UserFollows : LinkEventValue → LinksOf D → Type 0
  UserFollows event left = Follows book (user_step With book s event) left

  answers_follow : (phase : Phase) (event : LinkEventValue) (far own number : ℕ) (link : LinkOf D) →
      IsFound (CalledBy far) (plain_links book s) number link → number_of (LiveAt own) (plain_links book s) ≡ None →
      is_live phase ≡ true → ((q : LinkQueue) → Fits Called q → Fits phase (reached phase q)) →
      user_step With book s event ≡ with_link (CalledBy far) s (Err NoLink) (λ n l. with_link (LiveAt own) s
      (Ok (changed n (goes_on book (is_live l.port.phase) phase (record l { port = record l.port { own = Some own } }))
      (freed book With own s))) (λ n l. Err AddressInUse)) →
      UserFollows event (changed number (answered book phase own link) (freed book Without own (plain_links book s)))
  answers_follow phase event far own number link found free next to row =
      let t = there book s (CalledBy far) number link found in
      let called = (and_parts (is_called t.m.port.phase) (is_at t.m.port.far far) t.passed).0 in
      let live = live_if is_called refl t.m.port.phase called in
      let left = goes_on book (is_live t.m.port.phase) phase (record t.m { port = record t.m.port { own = Some own } }) in
      record {
        links = changed number left (freed book With own s);
        does = row ∙ at_found s (CalledBy far) number t.m _ _ t.found t.at ∙ at_none s (LiveAt own) _ _ (missing book s (LiveAt own) free);
        same = changed_plain book number left (freed book With own s)
            ∙ ap₂ (λ (x : LinkOf D) (all : LinksOf D). changed number x all)
            (goes_plain book phase (record t.m { port = record t.m.port { own = Some own } }) live next
            ∙ ap (answered book phase own) t.is)
            (freed_plain book good own s);
        fit = set_fits (freed book With own s) (freed_fits book s fits own) number left
            (go (is_live t.m.port.phase) live t.m (is t.m.port.phase called t.m.queue (fits number t.m t.at)));
      }
    where
      is : (p : Phase) → is_called p ≡ true → (q : LinkQueue) → Fits p q → Fits Called q
      is Called e q f = f
      is p e q f = absurd cc

      go : (b : Bool) → b ≡ true → (l : LinkOf D) → Fits Called l.queue →
          Fits (goes_on book b phase (record l { port = record l.port { own = Some own } })).port.phase
          (goes_on book b phase (record l { port = record l.port { own = Some own } })).queue
      go true e l f = to l.queue f
      go false e l f = absurd cc

  pub user_follows : (event : LinkEventValue) (left : LinksOf D) → outcomes.UserDid book (plain_links book s) event left → UserFollows event left
  user_follows event left (outcomes.Opens own free) = record {
    links = begun (opened book own) (freed book With own s);
    does = at_none s (LiveAt own) _ _ (missing book s (LiveAt own) free);
    same = begun_plain book (opened book own) (freed book With own s) ∙ ap (begun (opened book own)) (freed_plain book good own s);
    fit = begun_fits (freed book With own s) (freed_fits book s fits own) (opened book own) (refl, refl);
  }
  user_follows event left (outcomes.Accepts far own number link found free) =
      answers_follow Confirming (Accept far own) far own number link found free refl (λ q f. (f.0, refl, f.1)) refl
  user_follows event left (outcomes.Rejects far own number link found free) =
      answers_follow Disconnecting (Reject far own) far own number link found free refl (λ q f. f.0) refl
  user_follows event left (outcomes.HandsIn own message number link found may) =
      let t = there book s (LiveAt own) number link found in
      let live = (and_parts (is_live t.m.port.phase) (is_at t.m.port.own own) t.passed).0 in
      record {
        links = changed number (with_segments (book.hands_in message t.m.segments) t.m) s;
        does = at_found s (LiveAt own) number t.m _ _ t.found t.at
            ∙ passes_check (takes_messages (in_use With t.m).phase) _ _
            (ap (λ (x : Port). takes_messages x.phase) (in_use_is t.m (fits number t.m t.at) live)
            ∙ ap (λ (x : LinkOf D). takes_messages x.port.phase) t.is ∙ may);
        same = changed_plain book number (with_segments (book.hands_in message t.m.segments) t.m) s
            ∙ ap (λ (x : LinkOf D). changed number x (plain_links book s)) (live_with book t.m (book.hands_in message t.m.segments) live)
            ∙ ap (λ (f : D). changed number (with_segments (book.hands_in message f) (plain book t.m)) (plain_links book s))
            (sym (live_segments book t.m live))
            ∙ ap (λ (x : LinkOf D). changed number (with_segments (book.hands_in message x.segments) x) (plain_links book s)) t.is;
        fit = set_fits s fits number (with_segments (book.hands_in message t.m.segments) t.m) (fits number t.m t.at);
      }
  user_follows event left (outcomes.Delivers own message number link f found does) =
      let t = there book s (HasAddress own) number link found in
      let d = delivers_plain book good (is_live t.m.port.phase) message t.m.segments f
      (ap (λ (x : LinkOf D). book.delivers message x.segments) t.is ∙ does) in
      record {
        links = changed number (with_segments d.all t.m) s;
        does = at_found s (HasAddress own) number t.m _ _ t.found t.at ∙ ap (λ (o : Option D). delivered book number t.m s o) d.is;
        same = changed_plain book number (with_segments d.all t.m) s
            ∙ ap (λ (x : D). changed number (with_segments x (plain book t.m)) (plain_links book s)) d.same
            ∙ ap (λ (x : LinkOf D). changed number (with_segments f x) (plain_links book s)) t.is;
        fit = set_fits s fits number (with_segments d.all t.m) (fits number t.m t.at);
      }
  user_follows event left (outcomes.Closes own number link found connected) =
      let t = there book s (LiveAt own) number link found in
      let live = (and_parts (is_live t.m.port.phase) (is_at t.m.port.own own) t.passed).0 in
      let now = goes_on book (is_live t.m.port.phase) Disconnecting t.m in
      record {
        links = changed number now s;
        does = at_found s (LiveAt own) number t.m _ _ t.found t.at
            ∙ passes_check (is_connected (in_use With t.m).phase) _ _
            (ap (λ (x : Port). is_connected x.phase) (in_use_is t.m (fits number t.m t.at) live)
            ∙ ap (λ (x : LinkOf D). is_connected x.port.phase) t.is ∙ connected);
        same = changed_plain book number now s
            ∙ ap (λ (x : LinkOf D). changed number x (plain_links book s))
            (goes_plain book Disconnecting t.m live refl ∙ ap (in_phase Disconnecting) t.is);
        fit = set_fits s fits number now (go (is_live t.m.port.phase) live t.m (live_waits t.m.port.phase t.m.queue (fits number t.m t.at) live));
      }
    where
      go : (b : Bool) → b ≡ true → (l : LinkOf D) → l.queue.waits ≡ None →
          Fits (goes_on book b Disconnecting l).port.phase (goes_on book b Disconnecting l).queue
      go true e l none = none
      go false e l none = absurd cc
  user_follows event left (outcomes.Aborts own number link found calling) =
      let t = there book s (LiveAt own) number link found in
      let live = (and_parts (is_live t.m.port.phase) (is_at t.m.port.own own) t.passed).0 in
      record {
        links = changed number (drops book With t.m) s;
        does = at_found s (LiveAt own) number t.m _ _ t.found t.at
            ∙ passes_check (is_calling (in_use With t.m).phase) _ _
            (ap (λ (x : Port). is_calling x.phase) (in_use_is t.m (fits number t.m t.at) live)
            ∙ ap (λ (x : LinkOf D). is_calling x.port.phase) t.is ∙ calling);
        same = changed_plain book number (drops book With t.m) s
            ∙ ap (λ (x : LinkOf D). changed number x (plain_links book s)) (drops_plain book good t.m ∙ ap (ended book) t.is);
        fit = set_fits s fits number (drops book With t.m) tt;
      }
  user_follows event left outcomes.Boots = record {
    links = booted book With s;
    does = refl;
    same = booted_plain book good s;
    fit = all_map FitsAt (booted_link book With) s.links (λ i l at. tt);
  }

  pub user_done : (event : LinkEventValue) → AreDone book (user_step Without book (plain_links book s) event) (user_step With book s event)
  user_done event = go (user_step Without book (plain_links book s) event) refl
    where
      go : (o : Result (LinksOf D) LinkRefusal) → user_step Without book (plain_links book s) event ≡ o → AreDone book o (user_step With book s event)
      go (Ok left) e = user_follows event left (user_did book (plain_links book s) left event e)
      go (Err refusal) e = tt
