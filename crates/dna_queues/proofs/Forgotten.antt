-- Links without queues beside the links of a node with queues for which nothing waits: but for the gap they are the same.
use Rattle.dna_queues.proofs.Prelude.{◌≡◌, ℕ, Option, Some, None, List, [], ◌∷◌, map, option_map, Ok, Err, refl, sym, ap, ap₂, ◌∙◌, slice_get}
use Rattle.dna_queues.proofs.Prelude.{slice_get-map, map-append, map-set, NoLink, AddressInUse, Phase, Confirming, Disconnecting}
use Rattle.dna_queues.proofs.Prelude.{LinkTest, HasAddress, LiveAt, CalledBy, Without, passes, takes_messages, is_calling, is_connected, number_of}
use Rattle.dna_queues.proofs.Prelude.{on_link, at_number, with_link, begun, changed, in_phase, with_segments, user_step, ended, forgotten, freed}
use Rattle.dna_queues.proofs.Prelude.{booted_link, booted, opened, answered, delivered, LinkEventValue, Accept, Reject, TrueSegments, hands_in}
use Rattle.dna_queues.proofs.Prelude.{delivers, true_segments, IsFound, user_did, position-map, late_segments, over, delivered_over, Links}
use Rattle.dna_links.specs.TrueLinks as plain
use Rattle.dna_links.proofs.Tables.Outcomes as outcomes
use Rattle.dna_queues.proofs.{Facts.passed_check, Goes.Link, Acting.LateLink, LinkLists.at_found, LinkLists.at_none}

abbrev pub forget : LateLink → Link
forget h = record { port = h.port; partner = h.partner; segsize = h.segsize; segments = h.segments.segments; queue = h.queue }

abbrev pub forget_links : Links → plain.Links
forget_links s = record { node = s.node; peer = s.peer; links = map forget s.links }

pub changed_forget : (n : ℕ) (h : LateLink) (s : Links) → forget_links (changed n h s) ≡ changed n (forget h) (forget_links s)
changed_forget n h s = ap (λ (links : List Link). record (forget_links s) { links = links }) (map-set forget s.links n h)

pub begun_forget : (h : LateLink) (s : Links) → forget_links (begun h s) ≡ begun (forget h) (forget_links s)
begun_forget h s = ap (λ (links : List Link). record (forget_links s) { links = links }) (map-append forget s.links (h ∷ []))

pub number_forget : (test : LinkTest) (s : Links) → number_of test (forget_links s) ≡ number_of test s
number_forget test s = position-map (λ (l : Link). passes test l.port) forget s.links

module _ (s : Links) where
  pub record IsThere (test : LinkTest) (number : ℕ) (link : Link) : Type 0 where
    pub h : LateLink
    pub found : IsFound test s number h
    pub is : forget h ≡ link

  pub there : (test : LinkTest) (number : ℕ) (link : Link) → IsFound test (forget_links s) number link → IsThere test number link
  there test number link found = go (slice_get s.links number) refl (sym (slice_get-map forget s.links number) ∙ found.there)
    where
      go : (o : Option LateLink) → slice_get s.links number ≡ o → option_map forget o ≡ Some link → IsThere test number link
      go None at e = absurd cc
      go (Some h) at e =
          let is : forget h ≡ link = cc in
          record {
            h = h;
            found = record {
              found = sym (number_forget test s) ∙ found.found;
              there = at;
              passed = ap (λ (x : Link). passes test x.port) is ∙ found.passed;
            };
            is = is;
          }

  pub missing : (test : LinkTest) → number_of test (forget_links s) ≡ None → number_of test s ≡ None
  missing test none = sym (number_forget test s) ∙ none

  freed_forget : (own : ℕ) → forget_links (freed late_segments Without own s) ≡ freed true_segments Without own (forget_links s)
  freed_forget own = go (number_of (HasAddress own) s) refl
    where
      at : (number : ℕ) (o : Option LateLink) →
          forget_links (on_link number o s (λ n l. changed n (forgotten late_segments Without l) s)) ≡
          on_link number (option_map forget o) (forget_links s) (λ n l. changed n (forgotten true_segments Without l) (forget_links s))
      at number None = refl
      at number (Some h) = changed_forget number (forgotten late_segments Without h) s

      go : (o : Option ℕ) → number_of (HasAddress own) s ≡ o →
          forget_links (freed late_segments Without own s) ≡ freed true_segments Without own (forget_links s)
      go None e =
          ap (λ (o : Option ℕ). forget_links (at_number s.links o s (λ n l. changed n (forgotten late_segments Without l) s))) e
          ∙ ap (λ (o : Option ℕ). at_number (forget_links s).links o (forget_links s)
          (λ n l. changed n (forgotten true_segments Without l) (forget_links s))) (sym (number_forget (HasAddress own) s ∙ e))
      go (Some number) e =
          ap (λ (o : Option ℕ). forget_links (at_number s.links o s (λ n l. changed n (forgotten late_segments Without l) s))) e
          ∙ at number (slice_get s.links number)
          ∙ ap (λ (o : Option Link). on_link number o (forget_links s) (λ n l. changed n (forgotten true_segments Without l) (forget_links s)))
          (sym (slice_get-map forget s.links number))
          ∙ ap (λ (o : Option ℕ). at_number (forget_links s).links o (forget_links s)
          (λ n l. changed n (forgotten true_segments Without l) (forget_links s))) (sym (number_forget (HasAddress own) s ∙ e))

  booted_forget : (links : List LateLink) → map forget (map (booted_link late_segments Without) links) ≡
      map (booted_link true_segments Without) (map forget links)
  booted_forget [] = refl
  booted_forget (h ∷ links) = ap (λ (all : List Link). booted_link true_segments Without (forget h) ∷ all) (booted_forget links)

  -- ---- the user

  pub record UserToo (event : LinkEventValue) (left : plain.Links) : Type 0 where
    pub links : Links
    pub does : user_step Without late_segments s event ≡ Ok links
    pub same : forget_links links ≡ left

  answers_too : (phase : Phase) (event : LinkEventValue) (far own number : ℕ) (link : Link) → IsFound (CalledBy far) (forget_links s) number link →
      number_of (LiveAt own) (forget_links s) ≡ None →
      user_step Without late_segments s event ≡ with_link (CalledBy far) s (Err NoLink) (λ n l. with_link (LiveAt own) s
      (Ok (changed n (answered late_segments phase own l) (freed late_segments Without own s))) (λ n l. Err AddressInUse)) →
      UserToo event (changed number (answered true_segments phase own link) (freed true_segments Without own (forget_links s)))
  answers_too phase event far own number link found free row =
      let t = there (CalledBy far) number link found in
      record {
        links = changed number (answered late_segments phase own t.h) (freed late_segments Without own s);
        does = row ∙ at_found (CalledBy far) s number t.h _ _ t.found ∙ at_none (LiveAt own) s _ _ (missing (LiveAt own) free);
        same = changed_forget number (answered late_segments phase own t.h) (freed late_segments Without own s)
            ∙ ap₂ (λ (x : Link) (all : plain.Links). changed number x all) (ap (answered true_segments phase own) t.is) (freed_forget own);
      }

  user_by : (event : LinkEventValue) (left : plain.Links) → outcomes.UserDid true_segments (forget_links s) event left → UserToo event left
  user_by event left (outcomes.Opens own free) = record {
    links = begun (opened late_segments own) (freed late_segments Without own s);
    does = at_none (LiveAt own) s _ _ (missing (LiveAt own) free);
    same = begun_forget (opened late_segments own) (freed late_segments Without own s)
        ∙ ap (begun (opened true_segments own)) (freed_forget own);
  }
  user_by event left (outcomes.Accepts far own number link found free) =
      answers_too Confirming (Accept far own) far own number link found free refl
  user_by event left (outcomes.Rejects far own number link found free) =
      answers_too Disconnecting (Reject far own) far own number link found free refl
  user_by event left (outcomes.HandsIn own message number link found may) =
      let t = there (LiveAt own) number link found in
      let k = with_segments (over t.h.segments (hands_in message t.h.segments.segments)) t.h in
      record {
        links = changed number k s;
        does = at_found (LiveAt own) s number t.h _ _ t.found
            ∙ passed_check (takes_messages t.h.port.phase) _ _ (ap (λ (x : Link). takes_messages x.port.phase) t.is ∙ may);
        same = changed_forget number k s
            ∙ ap (λ (x : Link). changed number (with_segments (hands_in message x.segments) x) (forget_links s)) t.is;
      }
  user_by event left (outcomes.Delivers own message number link f found does) =
      let t = there (HasAddress own) number link found in
      let k = with_segments (over t.h.segments f) t.h in
      record {
        links = changed number k s;
        does = at_found (HasAddress own) s number t.h _ _ t.found
            ∙ ap (λ (o : Option TrueSegments). delivered late_segments number t.h s (delivered_over t.h.segments o))
            (ap (λ (x : Link). delivers message x.segments) t.is ∙ does);
        same = changed_forget number k s ∙ ap (λ (x : Link). changed number (with_segments f x) (forget_links s)) t.is;
      }
  user_by event left (outcomes.Closes own number link found connected) =
      let t = there (LiveAt own) number link found in
      record {
        links = changed number (in_phase Disconnecting t.h) s;
        does = at_found (LiveAt own) s number t.h _ _ t.found
            ∙ passed_check (is_connected t.h.port.phase) _ _ (ap (λ (x : Link). is_connected x.port.phase) t.is ∙ connected);
        same = changed_forget number (in_phase Disconnecting t.h) s
            ∙ ap (λ (x : Link). changed number (in_phase Disconnecting x) (forget_links s)) t.is;
      }
  user_by event left (outcomes.Aborts own number link found calling) =
      let t = there (LiveAt own) number link found in
      record {
        links = changed number (ended late_segments t.h) s;
        does = at_found (LiveAt own) s number t.h _ _ t.found
            ∙ passed_check (is_calling t.h.port.phase) _ _ (ap (λ (x : Link). is_calling x.port.phase) t.is ∙ calling);
        same = changed_forget number (ended late_segments t.h) s
            ∙ ap (λ (x : Link). changed number (ended true_segments x) (forget_links s)) t.is;
      }
  user_by event left outcomes.Boots = record {
    links = booted late_segments Without s;
    does = refl;
    same = ap (λ (links : List Link). record (forget_links s) { links = links }) (booted_forget s.links);
  }

  pub user_too : (event : LinkEventValue) (left : plain.Links) → plain.links_user Without (forget_links s) event ≡ Ok left → UserToo event left
  user_too event left e = user_by event left (user_did true_segments (forget_links s) left event e)
