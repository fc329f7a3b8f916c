-- Links on true numbers without what the queues leave open: what becomes of links with queues becomes of these.
use Rattle.std.proofs.Common.{◌≡◌, ℕ, Bool, true, false, ◌||◌, ◌⊎◌, inl, inr, Option, Some, None, List, [], ◌∷◌, Result, Ok, refl}
use Rattle.std.proofs.Common.{sym, ap, ◌∙◌, option_map, position}
use Rattle.std.specs.Prelude.{slice_get}
use Rattle.std.proofs.lemmas.Bool.{and_parts}
use Rattle.std.proofs.lemmas.List.{map-append, map-set}
use Rattle.std.proofs.lemmas.Option.{slice_get-map}
use Rattle.dna_station.specs.declared.link_refusal.LinkRefusal.{LinkRefusal}
use Rattle.dna_links.specs.declared.port.Phase.{Phase}
use Rattle.dna_links.specs.declared.port.Port.{Port}
use Rattle.dna_links.specs.declared.port.LinkTest.{LinkTest}
use Rattle.dna_links.specs.declared.port.LinkTest.TheVariants.{HasAddress, LiveAt}
use Rattle.dna_links.specs.declared.queue.Queues.TheVariants.{Without, With}
use Rattle.dna_links.specs.declared.queue.Said.{Said}
use Rattle.dna_links.specs.LookUps.{passes, is_live, is_at}
use Rattle.dna_links.specs.Links.{LinkOf, LinksOf, number_of, on_link, at_number, with_link, with_seen, begun, changed, in_phase, with_segments}
use Rattle.dna_links.specs.Queues.{in_use, with_in_use, port_of_waiting, goes_on, ends_by_message, drops, drops_segments}
use Rattle.dna_links.specs.Queues.{has_waiting, keeps_numbers, lets_go, requeued, further, freed, booted, ended, shows, settled}
use Rattle.dna_links.specs.Sending.{Sent}
use Rattle.dna_links.specs.TrueSegments.{TrueSegments, Numbers, true_segments}
use Rattle.dna_links.specs.TrueLinks.{Links}
use Rattle.dna_links.specs.Alike.{bare, bare_links}
use Rattle.dna_links.proofs.Tables.Outcomes.{IsFound, looked, position_passes}
use Rattle.dna_links.proofs.Cut.LookUps.{position-map}
use Rattle.dna_links.proofs.AsMuch.Plain.{same_plain, settled_all, ends_plain, freed_plain, booted_plain}
use Rattle.dna_links.proofs.AsMuch.TrueBook.{true_lets_go, plain_is, plain_are}

-- ---- links without what the queues leave open

abbrev pub bare_sent : Sent TrueSegments Numbers → Sent TrueSegments Numbers
bare_sent made = record made { links = bare_links made.links }

pub bare_at : (s : Links) (number : ℕ) (link : LinkOf TrueSegments) → slice_get s.links number ≡ Some link →
    slice_get (bare_links s).links number ≡ Some (bare link)
bare_at s number link there = slice_get-map bare s.links number ∙ ap (option_map bare) there

pub changed_bare : (n : ℕ) (l : LinkOf TrueSegments) (s : Links) → bare_links (changed n l s) ≡ changed n (bare l) (bare_links s)
changed_bare n l s = ap (λ (links : List (LinkOf TrueSegments)). record (bare_links s) { links = links }) (map-set bare s.links n l)

pub begun_bare : (l : LinkOf TrueSegments) (s : Links) → bare_links (begun l s) ≡ begun (bare l) (bare_links s)
begun_bare l s = ap (λ (links : List (LinkOf TrueSegments)). record (bare_links s) { links = links }) (map-append bare s.links (l ∷ []))

-- on true numbers a link that its own node ended has what it had
pub dropped_bare : (l : LinkOf TrueSegments) → bare (drops true_segments With l) ≡ ended true_segments (bare l)
dropped_bare l = ap (λ (f : TrueSegments). with_segments f (ended true_segments (bare l))) (go l.port.opened)
  where
    go : (opened : Bool) → drops_segments true_segments opened l.segments ≡ l.segments
    go true = refl
    go false = refl

pub changed_dropped : (n : ℕ) (l : LinkOf TrueSegments) (s : Links) →
    bare_links (changed n (drops true_segments With l) s) ≡ changed n (ended true_segments (bare l)) (bare_links s)
changed_dropped n l s =
    changed_bare n (drops true_segments With l) s ∙ ap (λ (x : LinkOf TrueSegments). changed n x (bare_links s)) (dropped_bare l)

-- a link that changes in its queue alone
pub same_bare : (n : ℕ) (l left : LinkOf TrueSegments) (s : Links) → slice_get s.links n ≡ Some l → bare left ≡ bare l →
    bare_links (changed n left s) ≡ bare_links s
same_bare n l left s there same =
    sym (plain_are (changed n left s)) ∙ same_plain true_segments n l left s there (plain_is left ∙ same ∙ sym (plain_is l)) ∙ plain_are s

pub number_bare : (test : LinkTest) (s : Links) → number_of test (bare_links s) ≡ number_of test s
number_bare test s = position-map (λ (l : LinkOf TrueSegments). passes test l.port) bare s.links

pub found_bare : (test : LinkTest) (s : Links) (number : ℕ) (link : LinkOf TrueSegments) → IsFound test s number link →
    IsFound test (bare_links s) number (bare link)
found_bare test s number link found = record {
  found = number_bare test s ∙ found.found;
  there = bare_at s number link found.there;
  passed = found.passed;
}

pub none_bare : (test : LinkTest) (s : Links) → number_of test s ≡ None → number_of test (bare_links s) ≡ None
none_bare test s none = number_bare test s ∙ none

-- ---- what becomes of one link

-- on true numbers nothing is let go
lets_bare : (before now : Bool) (f : TrueSegments) → lets_go true_segments before now f ≡ f
lets_bare true true f = refl
lets_bare true false f = refl
lets_bare false now f = refl

requeued_bare : (waits : Option Phase) (said : Said) (l : LinkOf TrueSegments) → bare (requeued true_segments waits said l) ≡ bare l
requeued_bare waits said l =
    ap (λ (f : TrueSegments). record (bare l) { segments = f })
    (lets_bare (keeps_numbers l) (is_live l.port.phase || has_waiting waits said) l.segments)

pub shows_bare : (said : Said) (l : LinkOf TrueSegments) → bare (shows true_segments said l) ≡ bare l
shows_bare said l = requeued_bare l.queue.waits (further said l.queue.said) l

pub ends_bare : (l : LinkOf TrueSegments) → bare (ends_by_message true_segments With l) ≡ ended true_segments (bare l)
ends_bare l = sym (plain_is (ends_by_message true_segments With l)) ∙ ends_plain true_segments true_lets_go l ∙ ap (ended true_segments) (plain_is l)

pub goes_live : (b : Bool) (phase : Phase) (l : LinkOf TrueSegments) → b ≡ true → bare (goes_on true_segments b phase l) ≡ in_phase phase (bare l)
goes_live true phase l e = refl
goes_live false phase l e = absurd cc

pub goes_late : (b : Bool) (phase : Phase) (l : LinkOf TrueSegments) → b ≡ false → bare (goes_on true_segments b phase l) ≡ bare l
goes_late true phase l e = absurd cc
goes_late false phase l e = requeued_bare (Some phase) l.queue.said l

-- ---- what becomes of all links

pub freed_bare : (own : ℕ) (s : Links) → bare_links (freed true_segments With own s) ≡ freed true_segments Without own (bare_links s)
freed_bare own s =
    sym (plain_are (freed true_segments With own s)) ∙ freed_plain true_segments true_lets_go own s
    ∙ ap (freed true_segments Without own) (plain_are s)

pub booted_bare : (s : Links) → bare_links (booted true_segments With s) ≡ booted true_segments Without (bare_links s)
booted_bare s =
    sym (plain_are (booted true_segments With s)) ∙ booted_plain true_segments true_lets_go s ∙ ap (booted true_segments Without) (plain_are s)

-- the link with this address is settled
abbrev pub settled_of : (own : ℕ) → Links → Links
settled_of own s = with_link (HasAddress own) s s (λ n l. changed n (settled true_segments l.queue.waits l) s)

pub settled_bare : (own : ℕ) (s : Links) → bare_links (settled_of own s) ≡ bare_links s
settled_bare own s = sym (plain_are (settled_of own s)) ∙ settled_all true_segments true_lets_go own s ∙ plain_are s

-- ---- look-ups by the ports in use

pub seen : {D R P : Type 0} (port : LinkOf D → Port) (test : LinkTest) (s : LinksOf D) (otherwise : R) (next : ℕ → LinkOf D → R) (r : R) →
    with_seen port test s otherwise next ≡ r → (otherwise ≡ r → P) →
    ((number : ℕ) (link : LinkOf D) → slice_get s.links number ≡ Some link → passes test (port link) ≡ true → next number link ≡ r → P) → P
seen {D} {R} {P} port test s otherwise next r e none some = go (position (λ (l : LinkOf D). passes test (port l)) s.links) refl e
  where
    at_link : (number : ℕ) (o : Option (LinkOf D)) → position (λ (l : LinkOf D). passes test (port l)) s.links ≡ Some number →
        slice_get s.links number ≡ o → on_link number o otherwise next ≡ r → P
    at_link number None found there e = none e
    at_link number (Some link) found there e =
        some number link there (position_passes (λ (l : LinkOf D). passes test (port l)) s.links number link found there) e

    go : (o : Option ℕ) → position (λ (l : LinkOf D). passes test (port l)) s.links ≡ o → at_number s.links o otherwise next ≡ r → P
    go None found e = none e
    go (Some number) found e = at_link number (slice_get s.links number) found refl e

-- a link that passes by its port, or by its port in use
abbrev pub IsInUse : LinkTest → LinkOf TrueSegments → Type 0
IsInUse test l = (passes test l.port ≡ true) ⊎ (passes test (in_use With l) ≡ true)

pub used : {R P : Type 0} (test : LinkTest) (s : Links) (otherwise : R) (next : ℕ → LinkOf TrueSegments → R) (r : R) →
    with_in_use With test s otherwise next ≡ r → (otherwise ≡ r → P) →
    ((number : ℕ) (link : LinkOf TrueSegments) → slice_get s.links number ≡ Some link → IsInUse test link → next number link ≡ r → P) → P
used test s otherwise next r e none some =
    looked test s (with_seen (in_use With) test s otherwise next) next r e
    (λ missing e. seen (in_use With) test s otherwise next r e none (λ number link there passed e. some number link there (inr passed) e))
    (λ number link found e. some number link found.there (inl found.passed) e)

own_in_use : (waits : Option Phase) (port : Port) → (port_of_waiting waits port).own ≡ port.own
own_in_use None port = refl
own_in_use (Some phase) port = refl

pub in_use_at : (own : ℕ) (l : LinkOf TrueSegments) → IsInUse (LiveAt own) l → is_at l.port.own own ≡ true
in_use_at own l (inl passed) = (and_parts (is_live l.port.phase) (is_at l.port.own own) passed).1
in_use_at own l (inr passed) =
    ap (λ (o : Option ℕ). is_at o own) (sym (own_in_use l.queue.waits l.port))
    ∙ (and_parts (is_live (in_use With l).phase) (is_at (in_use With l).own own) passed).1

-- what an answer is made of
pub same_Ok : {R : Type 0} (x y : R) → ◌≡◌ {A = Result R LinkRefusal} (Ok x) (Ok y) → x ≡ y
same_Ok x y e = cc
