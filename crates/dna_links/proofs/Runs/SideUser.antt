-- What the user of a side does leaves the side's links sound, beside the other's.
use Rattle.std.proofs.Common.{◌≡◌, ℕ, Some, None, List, [], length}
use Rattle.std.proofs.Common.{option_map, refl, sym, ap, ◌∙◌, subst, arith, append-nil, length-set}
use Rattle.std.specs.Prelude.{slice_get}
use Rattle.std.proofs.lemmas.List.{length-map}
use Rattle.std.proofs.lemmas.Option.{slice_get-map}
use Rattle.dna_links.specs.Queues.{ended, forgotten, freed, booted_link, booted}
use Rattle.dna_links.specs.declared.queue.Queues.TheVariants.{Without}
use Rattle.dna_links.specs.declared.port.Phase.TheVariants.{Confirming, Disconnecting, Ended}
use Rattle.dna_links.specs.declared.port.LinkTest.TheVariants.{HasAddress}
use Rattle.dna_links.specs.Links.{LinkOf, LinksOf, begun, changed, in_phase, with_segments}
use Rattle.dna_links.specs.User.{LinkEventValue}
use Rattle.dna_links.specs.inner.Forms.{opened, answered}
use Rattle.dna_links.specs.TrueSegments.{TrueSegments, true_segments}
use Rattle.dna_links.specs.TrueSegments as segments
use Rattle.dna_links.specs.TrueLinks.{Links}
use Rattle.dna_links.specs.Runs.{LinkSide}
use Rattle.dna_links.proofs.Tables.Outcomes.{looked}
use Rattle.dna_links.proofs.Runs.Loose.{UserDid, Opens, Accepts, Rejects, HandsIn, Delivers, Closes, ClosesLate, Aborts, Boots}
use Rattle.dna_links.proofs.Runs.Pieces.{IsPassed, cut_handed, Delivered, delivered_is, passed_delivered}
use Rattle.dna_links.proofs.Runs.Sends.{AreSoundSegments}
use Rattle.dna_links.proofs.Runs.Ends.{Grows, IsSoundEnd, end_port, end_segments}
use Rattle.dna_links.proofs.Runs.Sides.{all_set, all_pushed, all_map, grows_same, grows_set, grows_pushed, IsSoundSide, side_changed, end_new}

module _ (own other : LinkSide) (h : IsSoundSide own other) where
  abbrev Ends : List (LinkOf TrueSegments) → Type 0
  Ends links = (i : ℕ) (l : LinkOf TrueSegments) → slice_get links i ≡ Some l → IsSoundEnd own.sent other.sent own.front other.links.links i l

  forgotten_sound : (i : ℕ) (l : LinkOf TrueSegments) → IsSoundEnd own.sent other.sent own.front other.links.links i l →
      IsSoundEnd own.sent other.sent own.front other.links.links i (forgotten true_segments Without l)
  forgotten_sound i l e = end_port own.sent other.sent own.front other.links.links i l (record l.port { own = None }) (λ x. x) e

  -- an address is free
  record Frees (s left : LinksOf TrueSegments) : Type 0 where
    pub ends : Ends left.links
    pub grows : Grows s.links left.links
    pub same_length : length left.links ≡ length s.links

  freed_sound : (address : ℕ) → Frees own.links (freed true_segments Without address own.links)
  freed_sound address =
      looked (HasAddress address) own.links own.links (λ number link. changed number (forgotten true_segments Without link) own.links)
      (freed true_segments Without address own.links) refl
      (λ none e. subst (Frees own.links) e (record { ends = h.ends; grows = grows_same own.links.links; same_length = refl }))
      (λ number link found e. subst (Frees own.links) e (record {
        ends = all_set (λ (i : ℕ) (l : LinkOf TrueSegments). IsSoundEnd own.sent other.sent own.front other.links.links i l) own.links.links number
            (forgotten true_segments Without link) (forgotten_sound number link (h.ends number link found.there)) h.ends;
        grows =
            grows_set own.links.links own.links.links number link (forgotten true_segments Without link) [] (grows_same own.links.links) found.there
            (sym (append-nil link.segments.given));
        same_length = length-set own.links.links number (forgotten true_segments Without link);
      }))

  -- each link is over, and has no address
  booted_sound : Frees own.links (booted true_segments Without own.links)
  booted_sound = record {
    ends = all_map (λ (i : ℕ) (l : LinkOf TrueSegments). IsSoundEnd own.sent other.sent own.front other.links.links i l)
        (booted_link true_segments Without) own.links.links
        (λ i l at. end_port own.sent other.sent own.front other.links.links i l (record l.port { phase = Ended; own = None }) (λ x. absurd cc)
        (h.ends i l at));
    grows = λ i l at. record {
      link = booted_link true_segments Without l;
      there = slice_get-map (booted_link true_segments Without) own.links.links i ∙ ap (option_map (booted_link true_segments Without)) at;
      more = [];
      given = sym (append-nil l.segments.given);
    };
    same_length = length-map own.links.links (booted_link true_segments Without);
  }

  -- a link changes, and gives no segment
  one_sound : (links : Links) (f : Frees own.links links) (number : ℕ) (link left : LinkOf TrueSegments) →
      slice_get own.links.links number ≡ Some link →
      left.segments.given ≡ link.segments.given →
      IsSoundEnd own.sent other.sent own.front other.links.links number left → Frees own.links (changed number left links)
  one_sound links f number link left there given e = record {
    ends = all_set
        (λ (i : ℕ) (l : LinkOf TrueSegments). IsSoundEnd own.sent other.sent own.front other.links.links i l) links.links number left e f.ends;
    grows = grows_set own.links.links links.links number link left [] f.grows there (given ∙ sym (append-nil link.segments.given));
    same_length = length-set links.links number left ∙ f.same_length;
  }

  none_freed : Frees own.links own.links
  none_freed = record { ends = h.ends; grows = grows_same own.links.links; same_length = refl }

  sound_after : (links : Links) → Frees own.links links → IsSoundSide (record { links = links; sent = own.sent; front = own.front }) other
  sound_after links f = side_changed own other links f.grows h f.ends

  end_of : (number : ℕ) (link : LinkOf TrueSegments) → slice_get own.links.links number ≡ Some link →
      IsSoundEnd own.sent other.sent own.front other.links.links number link
  end_of number link there = h.ends number link there

  handed_sound : (message : List ℕ) (f : TrueSegments) → AreSoundSegments f → AreSoundSegments (segments.hands_in message f)
  handed_sound message f s = let p = s.passed in record {
    acknowledged = s.acknowledged;
    few = s.few;
    last = s.last;
    recent = s.recent;
    cut = cut_handed message f s.cut;
    passed = record { first = p.first; rest = p.rest; are = p.are; many = p.many; make = p.make; wholly = p.wholly };
  }

  delivered_sound : (message : List ℕ) (f g : TrueSegments) → AreSoundSegments f → Delivered message f g → AreSoundSegments g
  delivered_sound message f g s d =
      let passed = passed_delivered message f g s.passed d in
      subst AreSoundSegments (sym d.is) (let c = s.cut in record {
        acknowledged = s.acknowledged;
        few = s.few;
        last = s.last;
        recent = s.recent;
        cut = record { all = c.all; none_left = c.none_left };
        passed = subst IsPassed d.is passed;
      })

  -- what the user did left sound links that grew
  pub record LeavesSound (left : LinksOf TrueSegments) : Type 0 where
    pub side : IsSoundSide (record { links = left; sent = own.sent; front = own.front }) other
    pub grows : Grows own.links.links left.links

  leaves : (left : LinksOf TrueSegments) → Frees own.links left → LeavesSound left
  leaves left f = record { side = sound_after left f; grows = f.grows }

  pub user_sound : (event : LinkEventValue) (left : LinksOf TrueSegments) → UserDid own.links event left → LeavesSound left
  user_sound event left (Opens address free) =
      let f = freed_sound address in
      let e = end_new own other h (length (freed true_segments Without address own.links).links) (opened true_segments address)
      (let l = f.same_length in omega arith) refl
      (λ x. refl) refl in
      let grows = grows_pushed own.links.links (freed true_segments Without address own.links).links (opened true_segments address) f.grows in
      record {
        side = side_changed own other (begun (opened true_segments address) (freed true_segments Without address own.links)) grows h
            (all_pushed (λ (i : ℕ) (l : LinkOf TrueSegments). IsSoundEnd own.sent other.sent own.front other.links.links i l)
            (freed true_segments Without address own.links).links (opened true_segments address) e f.ends);
        grows = grows;
      }
  user_sound event left (Accepts far address number link found free) =
      leaves _ (one_sound (freed true_segments Without address own.links) (freed_sound address) number link
      (answered true_segments Confirming address link)
      found.there refl
      (end_port own.sent other.sent own.front other.links.links number link (record link.port { phase = Confirming; own = Some address })
      (λ x. absurd cc) (end_of number link found.there)))
  user_sound event left (Rejects far address number link found free) =
      leaves _ (one_sound (freed true_segments Without address own.links) (freed_sound address) number link
      (answered true_segments Disconnecting address link)
      found.there refl
      (end_port own.sent other.sent own.front other.links.links number link (record link.port { phase = Disconnecting; own = Some address })
      (λ x. absurd cc) (end_of number link found.there)))
  user_sound event left (HandsIn address message number link there owns) =
      let e = end_of number link there in
      leaves _ (one_sound own.links none_freed number link (with_segments (segments.hands_in message link.segments) link) there refl
      (end_segments own.sent other.sent own.front other.links.links number link (segments.hands_in message link.segments)
      (handed_sound message link.segments e.segments)
      refl refl refl refl e))
  user_sound event left (Delivers address message number link next found delivers) =
      let e = end_of number link found.there in
      let d = delivered_is message link.segments next delivers in
      leaves _ (one_sound own.links none_freed number link (with_segments next link) found.there (ap (λ (f : TrueSegments). f.given) d.is)
      (end_segments own.sent other.sent own.front other.links.links number link next (delivered_sound message link.segments next e.segments d)
      (ap (λ (f : TrueSegments). f.given) d.is) (ap (λ (f : TrueSegments). f.received) d.is) (ap (λ (f : TrueSegments). f.acknowledged) d.is)
      (ap (λ (f : TrueSegments). f.last) d.is) e))
  user_sound event left (Closes address number link there live) =
      leaves _ (one_sound own.links none_freed number link (in_phase Disconnecting link) there refl
      (end_port own.sent other.sent own.front other.links.links number link (record link.port { phase = Disconnecting }) (λ x. absurd cc)
      (end_of number link there)))
  user_sound event left (ClosesLate address) = leaves _ none_freed
  user_sound event left (Aborts address number link there) =
      leaves _ (one_sound own.links none_freed number link (ended true_segments link) there refl
      (end_port own.sent other.sent own.front other.links.links number link (record link.port { phase = Ended }) (λ x. absurd cc)
      (end_of number link there)))
  user_sound event left Boots = leaves _ booted_sound
